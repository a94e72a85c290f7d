-- What is written is read back.
use Rattle.std.proofs.Common.{◌≡◌, ℕ, List, [], ◌∷◌, refl, ap, ◌∙◌}
use Rattle.exi_typed.specs.Charging.{Charge, later, units_of}
use Rattle.exi_values.specs.WrittenLaws.{ValuesAreReadBack}
use Rattle.exi_values.proofs.Values.{values_agree}
use Rattle.exi_values.proofs.Written.{values_written}

units_later : (n : ℕ) (ks : List Charge) → units_of (later n ks) ≡ units_of ks
units_later n [] = refl
units_later n (k ∷ ks) = ap (λ (us : List ℕ). k.units ∷ us) (units_later n ks)

pub values_read_back : ValuesAreReadBack
values_read_back r a name p v sound can s more bytes aligned e =
    let w = values_written r a name p v sound can in
    record {
      charges = later s.place w.charges;
      are = units_later s.place w.charges ∙ w.are;
      is = (values_agree r a name).is_read v s p _ w.charges _ more bytes aligned w.spelled e;
    }
