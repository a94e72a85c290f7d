-- A text that is added in pieces, of which the last one holds a front.
use Rattle.std.proofs.Common.{◌≡◌, ℕ, List, ◌++◌, refl, sym, ap, ◌∙◌, append_assoc, Result, Ok, Err}
use Rattle.std.specs.Prelude.{OnErr}
use Rattle.exi_digits.specs.Pushed.{HoldsFront}

pub front_behind : (old first text middle new : List ℕ) → middle ≡ old ++ first → HoldsFront middle text new → HoldsFront old (first ++ text) new
front_behind old first text middle new e h = record {
  front = first ++ h.front;
  behind = h.behind;
  parts = (ap (λ (t : List ℕ). first ++ t) h.parts ∙ sym (append_assoc first h.front h.behind));
  held = (h.held ∙ ap (λ (t : List ℕ). t ++ h.front) e ∙ append_assoc old first h.front);
}

pub none_behind : (old first text new : List ℕ) → new ≡ old ++ first → HoldsFront old (first ++ text) new
none_behind old first text new e = record { front = first; behind = text; parts = refl; held = e }

pub on_err : {E : Type 0} {P Q : Type 0} (r : Result (Unit {0}) E) → OnErr r P → (P → Q) → OnErr r Q
on_err (Ok x) h f = tt
on_err (Err e) h f = f h
