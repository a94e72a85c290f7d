-- Charges, one after another.
use Rattle.std.proofs.Common.{◌≡◌, ℕ, false, List, [], ◌∷◌, ◌++◌, Option, refl, ◌∙◌, inl, inr}
use Rattle.std.specs.Prelude.{Result, Ok, Err}
use Rattle.std.proofs.lemmas.Bool.{cases_Bool}
use Rattle.exi_meter.specs.Metering.{Metering, text_fits, with_text}
use Rattle.exi_writing.specs.OneEvent.{◌>>=◌}
use Rattle.exi_writing.specs.OneEvent.{Refused, paid}
use Rattle.exi_toll.specs.Charges.{Charged, charge, charge_event, charge_level}
use Rattle.exi_typed.specs.WrittenLaws.{prefix_units}

-- one answer after another, in either grouping
pub bind_bind : {A B C : Type 0} (r : Result A Refused) (f : A → Result B Refused) (h : B → Result C Refused) → ((r >>= f) >>= h) ≡ (r >>= (λ a. f a >>= h))
bind_bind {A} {B} {C} (Ok a) f h = refl
bind_bind {A} {B} {C} (Err e) f h = refl

pub bind_same : {A B : Type 0} (r : Result A Refused) (f h : A → Result B Refused) → ((a : A) → f a ≡ h a) → (r >>= f) ≡ (r >>= h)
bind_same {A} {B} (Ok a) f h e = e a
bind_same {A} {B} (Err why) f h e = refl

pub paid_append : (a b : List ℕ) (m : Metering) → paid (a ++ b) m ≡ (paid a m >>= paid b)
paid_append [] b m = refl
paid_append (u ∷ a) b m = elim (cases_Bool (text_fits m u)) [
  | inl h ↦ rw h (paid_append a b (with_text m u))
  | inr h ↦ rw h refl
]

pub charge_append : (a b : List ℕ) (c : Charged) → charge (a ++ b) c ≡ charge b (charge a c)
charge_append a b (Ok m) = paid_append a b m
charge_append a b (Err e) = refl

pub charge_none : (c : Charged) → charge [] c ≡ c
charge_none (Ok m) = refl
charge_none (Err e) = refl

pub not_counted : (c : Charged) → charge_event false c ≡ c
not_counted (Ok m) = refl
not_counted (Err e) = refl

pub not_entered : (c : Charged) → charge_level false c ≡ c
not_entered (Ok m) = refl
not_entered (Err e) = refl

-- the texts of a name
pub name_paid : (uri local : ℕ) (prefix : Option (List ℕ)) (c : Charged) → charge (uri ∷ local ∷ prefix_units prefix) c ≡ charge (prefix_units prefix) (charge (local ∷ []) (charge (uri ∷ []) c))
name_paid uri local prefix c = charge_append (uri ∷ []) (local ∷ prefix_units prefix) c ∙ charge_append (local ∷ []) (prefix_units prefix) (charge (uri ∷ []) c)
