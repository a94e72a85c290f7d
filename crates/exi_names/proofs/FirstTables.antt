-- The first tables without a schema.
use Rattle.std.proofs.Common.{◌≡◌, ◌≤◌, ◌^◌, ℕ, zero, suc, map, length, slice_get, IfSome, refl, lit≤}
use Rattle.std.specs.Str.{chars}
use Rattle.exi_names.specs.StartTables.{first_uris, xml_names, xsi_names, first_names, IsStart}
use Rattle.exi_names.specs.declared.start.TheConstants.{URIS, XML_NAMES, XSI_NAMES}

pub uris_are : map (λ t. chars t.now) URIS ≡ first_uris
unfolding chars
uris_are = refl

pub xml_names_are : map (λ t. chars t.now) XML_NAMES ≡ xml_names
unfolding chars
xml_names_are = refl

pub xsi_names_are : map (λ t. chars t.now) XSI_NAMES ≡ xsi_names
unfolding chars
xsi_names_are = refl

few : (place : ℕ) → IfSome (slice_get first_names.locals place) (λ list. length list ≤ 2 ^ 30)
few zero = lit≤ tt
few (suc zero) = lit≤ tt
few (suc (suc zero)) = lit≤ tt
few (suc (suc (suc place))) = tt

pub first_is_start : IsStart first_names
first_is_start = record { paired = refl; first = refl; third = refl; few_uris = lit≤ tt; few_locals = few }
