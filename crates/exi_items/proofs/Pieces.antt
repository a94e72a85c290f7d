-- A text that is written in pieces, one after another.
use Rattle.std.proofs.Common.{◌≡◌, Bool, List, [], ◌++◌, Result, Ok, Err, OnErr, refl, sym, ap, ◌∙◌, append_assoc}
use Rattle.std.proofs.lemmas.List.{append-nil}
use Rattle.exi_items.specs.Fronts.{HoldsFront}

-- so much of the total was added, and so much is left
pub record Goes (old total left out : List Bool) : Type 0 where
  pub front : List Bool
  pub parts : total ≡ front ++ left
  pub held : out ≡ old ++ front

pub goes_starts : (old total : List Bool) → Goes old total total old
goes_starts old total = record { front = []; parts = refl; held = sym (append-nil old) }

pub goes_on : (old total one more left out new : List Bool) → Goes old total left out → left ≡ one ++ more → new ≡ out ++ one → Goes old total more new
goes_on old total one more left out new g e w = record {
  front = g.front ++ one;
  parts = g.parts ∙ ap (λ (x : List Bool). g.front ++ x) e ∙ sym (append_assoc g.front one more);
  held = w ∙ ap (λ (x : List Bool). x ++ one) g.held ∙ append_assoc old g.front one;
}

pub goes_stops : (old total one more left out new : List Bool) → Goes old total left out → left ≡ one ++ more → HoldsFront out one new → HoldsFront old total new
goes_stops old total one more left out new g e w = record {
  front = g.front ++ w.front;
  behind = w.behind ++ more;
  parts = g.parts ∙ ap (λ (x : List Bool). g.front ++ x) (e ∙ ap (λ (x : List Bool). x ++ more) w.parts) ∙ simp append_assoc;
  held = w.held ∙ ap (λ (x : List Bool). x ++ w.front) g.held ∙ append_assoc old g.front w.front;
}

pub goes_ends : (old total left out : List Bool) → Goes old total left out → left ≡ [] → out ≡ old ++ total
goes_ends old total left out g e = g.held ∙ ap (λ (x : List Bool). old ++ x) (sym (g.parts ∙ ap (λ (x : List Bool). g.front ++ x) e ∙ append-nil g.front))

pub goes_waits : (old total left out : List Bool) → Goes old total left out → HoldsFront old total out
goes_waits old total left out g = record { front = g.front; behind = left; parts = g.parts; held = g.held }

-- the first piece is there, and of the second a front
pub then_front : (old first second mid new : List Bool) → mid ≡ old ++ first → HoldsFront mid second new → HoldsFront old (first ++ second) new
then_front old first second mid new e w = record {
  front = first ++ w.front;
  behind = w.behind;
  parts = ap (λ (x : List Bool). first ++ x) w.parts ∙ sym (append_assoc first w.front w.behind);
  held = w.held ∙ ap (λ (x : List Bool). x ++ w.front) e ∙ append_assoc old first w.front;
}

-- of the first piece there is a front
pub first_front : (old first second new : List Bool) → HoldsFront old first new → HoldsFront old (first ++ second) new
first_front old first second new w = record {
  front = w.front;
  behind = w.behind ++ second;
  parts = ap (λ (x : List Bool). x ++ second) w.parts ∙ append_assoc w.front w.behind second;
  held = w.held;
}

pub on_err : {X E : Type 0} (r : Result X E) (P Q : Type 0) → (P → Q) → OnErr r P → OnErr r Q
on_err (Ok x) P Q f h = tt
on_err (Err e) P Q f h = f h
