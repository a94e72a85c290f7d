-- Texts of which a front was added.
use Rattle.std.proofs.Common.{◌≡◌, ℕ, List, [], ◌∷◌, ◌++◌, sym, ap, ◌∙◌, append_assoc}
use Rattle.exi_digits.specs.Pushed.{HoldsFront}

-- more is missing
front_more : (a b old new : List ℕ) → HoldsFront old a new → HoldsFront old (a ++ b) new
front_more a b old new h = record {
  front = h.front;
  behind = h.behind ++ b;
  parts = ap (λ (x : List ℕ). x ++ b) h.parts ∙ append_assoc h.front h.behind b;
  held = h.held;
}

-- more was there before
front_then : (a b old mid new : List ℕ) → mid ≡ old ++ a → HoldsFront mid b new → HoldsFront old (a ++ b) new
front_then a b old mid new e h = record {
  front = a ++ h.front;
  behind = h.behind;
  parts = ap (λ (x : List ℕ). a ++ x) h.parts ∙ sym (append_assoc a h.front h.behind);
  held = h.held ∙ ap (λ (x : List ℕ). x ++ h.front) e ∙ append_assoc old a h.front;
}

-- of a text behind a mark
pub behind_mark : (c : ℕ) (a old mid new : List ℕ) → mid ≡ old ++ c ∷ [] → HoldsFront mid a new → HoldsFront old (c ∷ a) new
behind_mark c a old mid new e h = front_then (c ∷ []) a old mid new e h

-- of two texts with a mark between them
pub behind_both : (a b : List ℕ) (c : ℕ) (old mid last new : List ℕ) → mid ≡ old ++ a → last ≡ mid ++ c ∷ [] → HoldsFront last b new → HoldsFront old (a ++ c ∷ b) new
behind_both a b c old mid last new e g h = front_then a (c ∷ b) old mid new e (behind_mark c b mid last new g h)

-- of two texts
pub first_of_two : (a b old new : List ℕ) → HoldsFront old a new → HoldsFront old (a ++ b) new
first_of_two a b old new h = front_more a b old new h

pub second_of_two : (a b old mid new : List ℕ) → mid ≡ old ++ a → HoldsFront mid b new → HoldsFront old (a ++ b) new
second_of_two a b old mid new e h = front_then a b old mid new e h

-- of three
pub first_of_three : (a b c old new : List ℕ) → HoldsFront old a new → HoldsFront old (a ++ b ++ c) new
first_of_three a b c old new h = front_more (a ++ b) c old new (front_more a b old new h)

pub second_of_three : (a b c old mid new : List ℕ) → mid ≡ old ++ a → HoldsFront mid b new → HoldsFront old (a ++ b ++ c) new
second_of_three a b c old mid new e h = front_more (a ++ b) c old new (front_then a b old mid new e h)

pub third_of_three : (a b c old mid last new : List ℕ) → mid ≡ old ++ a → last ≡ mid ++ b → HoldsFront last c new → HoldsFront old (a ++ b ++ c) new
third_of_three a b c old mid last new e g h =
    let two : last ≡ old ++ (a ++ b) = g ∙ ap (λ (x : List ℕ). x ++ b) e ∙ append_assoc old a b in
    front_then (a ++ b) c old last new two h

-- of four
pub first_of_four : (a b c d old new : List ℕ) → HoldsFront old a new → HoldsFront old (a ++ b ++ c ++ d) new
first_of_four a b c d old new h = front_more (a ++ b ++ c) d old new (first_of_three a b c old new h)

pub second_of_four : (a b c d old mid new : List ℕ) → mid ≡ old ++ a → HoldsFront mid b new → HoldsFront old (a ++ b ++ c ++ d) new
second_of_four a b c d old mid new e h = front_more (a ++ b ++ c) d old new (second_of_three a b c old mid new e h)

pub third_of_four : (a b c d old mid last new : List ℕ) → mid ≡ old ++ a → last ≡ mid ++ b → HoldsFront last c new → HoldsFront old (a ++ b ++ c ++ d) new
third_of_four a b c d old mid last new e g h = front_more (a ++ b ++ c) d old new (third_of_three a b c old mid last new e g h)

pub fourth_of_four : (a b c d old mid last end new : List ℕ) → mid ≡ old ++ a → last ≡ mid ++ b → end ≡ last ++ c → HoldsFront end d new → HoldsFront old (a ++ b ++ c ++ d) new
fourth_of_four a b c d old mid last end new e g k h =
    let two : last ≡ old ++ (a ++ b) = g ∙ ap (λ (x : List ℕ). x ++ b) e ∙ append_assoc old a b in
    let three : end ≡ old ++ (a ++ b ++ c) = k ∙ ap (λ (x : List ℕ). x ++ c) two ∙ append_assoc old (a ++ b) c in
    front_then (a ++ b ++ c) d old end new three h
