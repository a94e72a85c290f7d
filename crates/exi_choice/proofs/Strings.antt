-- What is written of a value as a string: its canonical text, which it has where it stands for a string.
use Rattle.std.proofs.Common.{◌≡◌, ℕ, true, false, List, Option, Some, None, refl, sym, ap, ◌∙◌}
use Rattle.std.proofs.lemmas.Bool.{and_parts}
use Rattle.exi_lexical.specs.Values.{value}
use Rattle.exi_names.specs.Datatypes.{Representation}
use Rattle.exi_names.specs.Datatypes as datatype
use Rattle.exi_names.specs.Seen.{Value, Values, list_step, seen, seen_step, text, boolean, integer, decimal, float, moment, binary, items, name, no_more, and}
use Rattle.exi_names.specs.Texts.{all_have_text, has_text}
use Rattle.exi_names.specs.declared.val.Val.{fold-roll-Val}
use Rattle.exi_names.specs.declared.val.Val.TheOpen.{Val-F}
use Rattle.exi_names.specs.declared.val.Val.TheVariants as val
use Rattle.exi_names.specs.declared.val.Val.TheVariants.{rolls-Text}
use Rattle.exi_writing.specs.Contents.{are_items, has_string, is_item, text_of}
use Rattle.exi_writing.specs.Pieces.{can_be_spelled, can_be_valued}
use Rattle.exi_choice.specs.Fitting.{fit_for, spelled_value, value_of_text}

-- ---- it has a canonical text
item_text : (v : Value) → is_item v ≡ true → has_text v ≡ true
item_text (text t) h = refl
item_text (boolean truth digit) h = refl
item_text (integer n) h = refl
item_text (decimal minus whole back) h = refl
item_text (float mantissa exponent) h = refl
item_text (moment m) h = refl
item_text (binary hex octets) h = refl
item_text (items vs) h = absurd cc
item_text (name n) h = absurd cc

items_text : (vs : Values) → are_items vs ≡ true → all_have_text vs ≡ true
items_text no_more h = refl
items_text (and v vs) h = let p = and_parts (is_item v) (are_items vs) h in rw (item_text v p.0, items_text vs p.1) refl

pub string_text : (v : Value) → has_string v ≡ true → has_text v ≡ true
string_text (text t) h = refl
string_text (boolean truth digit) h = refl
string_text (integer n) h = refl
string_text (decimal minus whole back) h = refl
string_text (float mantissa exponent) h = refl
string_text (moment m) h = refl
string_text (binary hex octets) h = refl
string_text (items vs) h = items_text vs h
string_text (name n) h = absurd cc

-- ---- and that is written
fit_by_text : (r : Representation) (v : Value) (t : List ℕ) (o : Option Value) → Some t ≡ text_of v → value r t ≡ o → fit_for r v ≡ spelled_value o
fit_by_text r v t o e f = ap (λ (x : Option (List ℕ)). spelled_value (value_of_text r x)) (sym e) ∙ ap spelled_value f

cannot : (v : Value) → can_be_valued v ≡ false → spelled_value (Some v) ≡ None
cannot v e = rw e refl

can : (v : Value) → can_be_valued v ≡ true → spelled_value (Some v) ≡ Some v
can v e = rw e refl

-- a string is the value of its text
text_value : (t : List ℕ) → value datatype.text t ≡ Some (text t)
unfolding value
text_value t = refl

-- the value that a string is
pub text_seen : (t : List ℕ) → seen (val.Text t) ≡ text t
text_seen t = ap seen (sym (rolls-Text t)) ∙ fold-roll-Val Value Values seen_step list_step (Val-F.Text t)

pub text_own : (v : Value) (t : List ℕ) → v ≡ text t → spelled_value (Some v) ≡ fit_for datatype.text v
text_own v t e = rw e (sym (ap spelled_value (text_value t)))

pub has_spelling : (v : Value) (t : List ℕ) → Some t ≡ text_of v → can_be_spelled t ≡ true → Some (text t) ≡ fit_for datatype.text v
has_spelling v t e f = sym (fit_by_text datatype.text v t (Some (text t)) e (text_value t) ∙ can (text t) f)

pub no_spelling : (v : Value) (t : List ℕ) → Some t ≡ text_of v → can_be_spelled t ≡ false → None ≡ fit_for datatype.text v
no_spelling v t e f = sym (fit_by_text datatype.text v t (Some (text t)) e (text_value t) ∙ cannot (text t) f)
