-- What holds of each production of a state, and of the elements of a list in order.
use Rattle.std.proofs.Common.{◌≡◌, inl, inr, ℕ, Bool, true, false, if◌then◌else◌, List, [], ◌∷◌, reverse, slice_get, Some, All, subst}
use Rattle.std.proofs.lemmas.List.Elements.{All-cons, All-head, All-nil, All-tail, All-weaker}
use Rattle.std.proofs.lemmas.Option.{get_or_from_slice_get, slice_get_within}
use Rattle.std.proofs.lemmas.List.Sorted.{All-permutation, IsPermutation-reverse}
use Rattle.exi_gram.specs.Codes.{Productions, Second, group, single}
use Rattle.exi_gram.specs.Laws.{StandsIn}
use Rattle.exi_gram.specs.Orders.{all_placed, in_order, placed_among}
use Rattle.exi_gram.proofs.CodeTells.{Each, EachOf}
use Rattle.exi_ways.specs.Ways.{OfEach}

-- ---- the productions of a state
pub at_place : {X : Type 0} (P : X → Type 0) (xs : List X) (place : ℕ) (x : X) → All P xs → slice_get xs place ≡ Some x → P x
at_place P xs place x all e = subst P (get_or_from_slice_get xs place x x e) (all place x (slice_get_within xs place x e))

in_second : {X : Type 0} (P : X → Type 0) (y : Second X) (x : X) → EachOf P y → StandsIn y x → P x
in_second P (single y) x h e = subst P e h
in_second P (group ys) x h s = at_place P ys s.0 x h s.1

pub of_each : {X : Type 0} (P : X → Type 0) (p : Productions X) → Each P p → OfEach P p
of_each P p all x (inl first) = at_place P p.firsts first.0 x all.firsts first.1
of_each P p all x (inr later) = in_second P later.1 x (at_place (EachOf P) p.seconds later.0 later.1 all.seconds later.2) later.3

second_weaker : {X : Type 0} (P Q : X → Type 0) → ((x : X) → P x → Q x) → (x : Second X) → EachOf P x → EachOf Q x
second_weaker P Q f (single x) h = f x h
second_weaker P Q f (group xs) h = All-weaker P Q f xs h

pub each_weaker : {X : Type 0} (P Q : X → Type 0) → ((x : X) → P x → Q x) → (p : Productions X) → Each P p → Each Q p
each_weaker P Q f p e = record { firsts = All-weaker P Q f p.firsts e.firsts; seconds = All-weaker (EachOf P) (EachOf Q) (second_weaker P Q f) p.seconds e.seconds }

-- ---- lists in order
placed_all : {X : Type 0} (P : X → Type 0) (before : X → X → Bool) (x : X) (kept : List X) → P x → All P kept → All P (placed_among before x kept)
placed_all P before x [] h all = All-cons P x [] h all
placed_all {X} P before x (y ∷ ys) h all = by (before x y) (placed_all P before x ys h (All-tail P y ys all))
  where
    by : (b : Bool) → All P (placed_among before x ys) → All P (if b then y ∷ placed_among before x ys else x ∷ y ∷ ys)
    by true rest = All-cons P y (placed_among before x ys) (All-head P y ys all) rest
    by false rest = All-cons P x (y ∷ ys) h all

all_placed-all : {X : Type 0} (P : X → Type 0) (before : X → X → Bool) (kept xs : List X) → All P kept → All P xs → All P (all_placed before kept xs)
all_placed-all P before kept [] h all = h
all_placed-all P before kept (x ∷ xs) h all = all_placed-all P before (placed_among before x kept) xs (placed_all P before x kept (All-head P x xs all) h) (All-tail P x xs all)

pub in_order-all : {X : Type 0} (P : X → Type 0) (before : X → X → Bool) (xs : List X) → All P xs → All P (in_order before xs)
in_order-all P before xs all =
    let placed = all_placed before [] xs in
    All-permutation P placed (reverse placed) (IsPermutation-reverse placed) (all_placed-all P before [] xs (All-nil P) all)
