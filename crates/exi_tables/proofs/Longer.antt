-- A value more makes no partition longer by more than one.
use Rattle.std.proofs.Common.{ℕ, zero, suc, ◌≤◌, ◌+◌, Bool, true, false, cond, List, [], ◌∷◌, length, arith, inl, inr}
use Rattle.std.proofs.lemmas.Bool.{cases_Bool}
use Rattle.std.proofs.lemmas.List.{length-map}
use Rattle.exi_names.specs.NameMaps.{same_name}
use Rattle.exi_names.specs.declared.names.NameId.{NameId}
use Rattle.exi_tables.specs.Growth.{NoneLonger}
use Rattle.exi_tables.specs.Partitions.{Partitions, with_value}
use Rattle.exi_tables.specs.Values.{ValueTable, given_to, is_added, put_at, texts_of, with_missed}
use Rattle.exi_tables.proofs.Given.{given_more}

put_longer : {X : Type 0} (place : ℕ) (x : X) (xs : List X) → length (put_at place x xs) ≤ length xs + 1
put_longer place x [] = omega arith
put_longer zero x (y ∷ ys) = omega arith
put_longer (suc place) x (y ∷ ys) = omega (arith, put_longer place x ys)

one_at_most : (b : Bool) → cond b 1 0 ≤ 1
one_at_most true = omega arith
one_at_most false = omega arith

pub texts_longer : (t : ValueTable) (name : NameId) (text : List ℕ) → length (texts_of (with_missed t name text)) ≤ length (texts_of t) + 1
texts_longer t name text = elim (cases_Bool (is_added t.bounds text)) [
  | inl yes_is ↦ rw (yes_is, length-map, length-map) (put_longer t.next (record { name = name; local = given_to name t.given; text = text }) t.live)
  | inr no_is ↦ rw no_is (omega arith)
]

pub own_longer : (t : ValueTable) (name other : NameId) (text : List ℕ) → given_to other (with_missed t name text).given ≤ given_to other t.given + 1
own_longer t name other text = elim (cases_Bool (is_added t.bounds text)) [
  | inl yes_is ↦ rw (yes_is, given_more name other t.given) (omega (arith, one_at_most (same_name other name)))
  | inr no_is ↦ rw no_is (omega arith)
]

pub longer_value : (most : ℕ) (p : Partitions) (name : NameId) (text : List ℕ) → NoneLonger most p → NoneLonger (most + 1) (with_value p name text)
longer_value most p name text few = record {
  few_uris = omega (arith, few.few_uris);
  few_locals = λ uri. omega (arith, few.few_locals uri);
  few_prefixes = λ uri. omega (arith, few.few_prefixes uri);
  few_values = omega (arith, few.few_values, texts_longer p.values name text);
  few_own = λ other. omega (arith, few.few_own other, own_longer p.values name other text);
}
