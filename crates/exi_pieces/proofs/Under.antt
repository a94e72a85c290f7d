-- A name of which the code tells the URI by its place.
use Rattle.std.proofs.Common.{◌≡◌, ℕ, Bool, true, List, Option, Some, None, refl, ap, ◌∙◌}
use Rattle.std.specs.Prelude.{if◌then◌else◌}
use Rattle.std.proofs.lemmas.Slice.Eq.{bytes_eq-Decides}
use Rattle.exi_names.specs.declared.names.NameId.{NameId}
use Rattle.exi_names.specs.declared.names.QName.{QName}
use Rattle.exi_tables.specs.Partitions.{Partitions, least_place, locals, prefixes, uris}
use Rattle.exi_tables.proofs.Least.{least_found}
use Rattle.exi_typed.specs.Strings.{place_in}
use Rattle.exi_typed.specs.Written.{after_local}
use Rattle.exi_writing.specs.Pieces.{can_be_spelled, can_know_under, can_tell, is_text, named_under, stands_at}

-- the text whose least place it is stands there
pub stands : (texts : List (List ℕ)) (x : List ℕ) (place : ℕ) → least_place texts x ≡ Some place → stands_at texts place x ≡ true
stands texts x place e = ap (λ (o : Option (List ℕ)). is_text o x) (least_found texts x place e).found ∙ (bytes_eq-Decides x x).1 refl

abbrev pub places : Partitions → ℕ → List ℕ → NameId
places p uri x = record { uri = uri; local = place_in (locals p uri) x }

-- the places of a name that is written so
pub under_is : (keep : Bool) (p q : Partitions) (uri : ℕ) (n : QName) (id : NameId) → least_place (uris p) n.uri ≡ Some uri → can_be_spelled n.uri ≡ true → can_be_spelled n.local ≡ true → can_tell keep (prefixes p uri) n.prefix ≡ true → q ≡ after_local p uri n.local → id ≡ places q uri n.local → Some id ≡ (if can_know_under keep p uri n then Some (named_under p uri n).id else None)
under_is keep p q uri n id least u l t after is = rw (stands (uris p) n.uri uri least, u, l, t) (ap (λ (x : NameId). Some x) is ∙ ap (λ (r : Partitions). Some (places r uri n.local)) after)
