-- A value is chosen exactly where it is one of the enumerated ones.
use Rattle.std.proofs.Common.{◌≡◌, true, false, List, Option, Some, None, refl, inl, inr}
use Rattle.std.proofs.lemmas.Bool.{cases_Bool}
use Rattle.std.specs.Option.{is_some}
use Rattle.exi_names.specs.Equality.{place_among}
use Rattle.exi_names.specs.Seen.{Value}
use Rattle.exi_lexical.specs.Values.{chosen}

pub record Chosen (values : List Value) (o : Option Value) (v : Value) : Type 0 where
  pub there : o ≡ Some v
  pub among : is_some (place_among v values) ≡ true

abbrev given : Value → Option Value
given v = Some v

given_is : (v w : Value) → given v ≡ given w → v ≡ w
given_is v w e = cc

pub chosen_is : (values : List Value) (o : Option Value) (v : Value) → chosen values o ≡ Some v → Chosen values o v
chosen_is values None v e = cc e
chosen_is values (Some u) v e = elim (cases_Bool (is_some (place_among u values))) [
  | inl h ↦ let same = given_is u v (rw h at e) in rw (← same) record { there = refl; among = h }
  | inr h ↦ let k = rw h at e in cc k
]

pub chosen_again : (values : List Value) (v : Value) → is_some (place_among v values) ≡ true → chosen values (Some v) ≡ Some v
chosen_again values v h = rw h refl
