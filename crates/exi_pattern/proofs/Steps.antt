-- One member or piece after another: any number of steps that is enough gives the same.
use Rattle.std.proofs.Common.{◌≡◌, ℕ, zero, suc, ◌<◌, ◌≤◌, Bool, true, false, not, List, [], ◌∷◌, length, Option, Some, None, Result, Ok, Err, IfOk, ◌-◌, eqb, refl, sym, ap, ◌∙◌, arith}
use Rattle.exi_pattern.specs.declared.member.Member.{Member}
use Rattle.exi_pattern.specs.declared.pieces.Reading.{Reading}
use Rattle.exi_pattern.specs.declared.stop.Left.{Left}
use Rattle.exi_pattern.specs.declared.stop.Stop.{Stop}
use Rattle.exi_pattern.specs.declared.stop.Stop.TheVariants as stop
use Rattle.exi_pattern.specs.Readings.{StopsAs}
use Rattle.exi_pattern.specs.Sets.{Letters, with_member}
use Rattle.exi_pattern.specs.Escapes.{◌>>=◌}
use Rattle.exi_pattern.specs.Groups.{behind_group, group_end, member, members}
use Rattle.std.proofs.lemmas.Bool.{eq-eqb, eqb-true, ne_eqb}
use Rattle.exi_pattern.specs.declared.charset.CharSet.{CharSet}
use Rattle.exi_pattern.specs.declared.charset.CharSet.TheVariants as charset
use Rattle.exi_pattern.specs.Patterns.{at_start, chars_of, kept, piece, pieces, set_of}
use Rattle.exi_pattern.proofs.Shorter.{Leaves, left_of, member_left, piece_left}

same_on : {X Y : Type 0} (n : ℕ) (p : Result (X × List ℕ) ℕ) (f g : X × List ℕ → Result Y ℕ) → Leaves n p → ((x : X × List ℕ) → length x.1 < n → f x ≡ g x) → (p >>= f) ≡ (p >>= g)
same_on n (Ok x) f g h k = k x h
same_on n (Err e) f g h k = refl

enough_members : (n m : ℕ) (first : Bool) (s : Letters) (at : List ℕ) → length at < n → length at < m → members n first s at ≡ members m first s at
unfolding members
enough_members zero m first s at h k = absurd (omega arith)
enough_members (suc n) zero first s at h k = absurd (omega arith)
enough_members (suc n) (suc m) first s at h k =
    ap (group_end (not first) s (behind_group at)) (same_on (length at) (member first at) (λ x. members n false (with_member x.0 s) x.1) (λ x. members m false (with_member x.0 s) x.1) (member_left first at)
    (λ x less. enough_members n m false (with_member x.0 s) x.1 (omega arith) (omega arith)))

on_ok : {X Y : Type 0} (p : Result X ℕ) (x : X) (f : X → Result Y ℕ) → p ≡ Ok x → (p >>= f) ≡ f x
on_ok p x f e = rw e refl

on_err : {X Y : Type 0} (p : Result X ℕ) (left : ℕ) (f : X → Result Y ℕ) → p ≡ Err left → (p >>= f) ≡ Err left
on_err p left f e = rw e refl

goes_on : (first : Bool) (s : Letters) (o : Option (List ℕ)) (more : Result (Letters × List ℕ) ℕ) → o ≡ None → group_end (not first) s o more ≡ more
goes_on true s None more e = refl
goes_on true s (Some rest) more e = refl
goes_on false s None more e = refl
goes_on false s (Some rest) more e = absurd cc

first_goes_on : (s : Letters) (o : Option (List ℕ)) (more : Result (Letters × List ℕ) ℕ) → group_end false s o more ≡ more
first_goes_on s None more = refl
first_goes_on s (Some rest) more = refl

then_more : (n : ℕ) (first : Bool) (s : Letters) (at : List ℕ) (x : Member × List ℕ) → member first at ≡ Ok x → length at < suc n → (member first at >>= λ y. members n false (with_member y.0 s) y.1) ≡ members (suc (length x.1)) false (with_member x.0 s) x.1
then_more n first s at x e less =
    let short : length x.1 < length at = left_of (length at) (member first at) x (member_left first at) e in
    on_ok (member first at) x (λ y. members n false (with_member y.0 s) y.1) e ∙ enough_members n (suc (length x.1)) false (with_member x.0 s) x.1 (omega arith) (omega arith)

pub first_member : (s : Letters) (at : List ℕ) (x : Member × List ℕ) → member true at ≡ Ok x → members (suc (length x.1)) false (with_member x.0 s) x.1 ≡ members (suc (length at)) true s at
unfolding members
first_member s at x e = sym (first_goes_on s (behind_group at) _ ∙ then_more (length at) true s at x e (omega arith))

pub next_member : (s : Letters) (at : List ℕ) (x : Member × List ℕ) → behind_group at ≡ None → member false at ≡ Ok x → members (suc (length x.1)) false (with_member x.0 s) x.1 ≡ members (suc (length at)) false s at
unfolding members
next_member s at x none e = sym (goes_on false s (behind_group at) _ none ∙ then_more (length at) false s at x e (omega arith))

pub first_refused : (s : Letters) (at : List ℕ) (left : ℕ) → member true at ≡ Err left → members (suc (length at)) true s at ≡ Err left
unfolding members
first_refused s at left e = first_goes_on s (behind_group at) _ ∙ on_err (member true at) left _ e

pub next_refused : (s : Letters) (at : List ℕ) (left : ℕ) → behind_group at ≡ None → member false at ≡ Err left → members (suc (length at)) false s at ≡ Err left
unfolding members
next_refused s at left none e = goes_on false s (behind_group at) _ none ∙ on_err (member false at) left _ e

pub group_ends : (s : Letters) (at rest : List ℕ) → behind_group at ≡ Some rest → members (suc (length at)) false s at ≡ Ok (s, rest)
unfolding members
group_ends s at rest e = ap (λ o. group_end true s o (member false at >>= λ x. members (length at) false (with_member x.0 s) x.1)) e

enough_pieces : (n m : ℕ) (r : Reading) (at : List ℕ) → length at < n → length at < m → pieces n r at ≡ pieces m r at
unfolding pieces
enough_pieces zero m r at h k = absurd (omega arith)
enough_pieces (suc n) zero r at h k = absurd (omega arith)
enough_pieces (suc n) (suc m) r [] h k = refl
enough_pieces (suc n) (suc m) r (c ∷ rest) h k =
    same_on (suc (length rest)) (piece r (c ∷ rest)) (λ x. pieces n x.0 x.1) (λ x. pieces m x.0 x.1) (piece_left r (c ∷ rest)) (λ x less. enough_pieces n m x.0 x.1 (omega arith) (omega arith))

pub next_piece : (r : Reading) (at : List ℕ) (x : Reading × List ℕ) → 0 < length at → piece r at ≡ Ok x → pieces (suc (length x.1)) x.0 x.1 ≡ pieces (suc (length at)) r at
unfolding pieces
next_piece r [] x some_left e = absurd (omega arith)
next_piece r (c ∷ rest) x some_left e =
    let short : length x.1 < suc (length rest) = left_of (suc (length rest)) (piece r (c ∷ rest)) x (piece_left r (c ∷ rest)) e in
    sym (on_ok (piece r (c ∷ rest)) x (λ y. pieces (suc (length rest)) y.0 y.1) e ∙ enough_pieces (suc (length rest)) (suc (length x.1)) x.0 x.1 (omega arith) (omega arith))

pub piece_refused : (r : Reading) (at : List ℕ) (left : ℕ) → 0 < length at → piece r at ≡ Err left → pieces (suc (length at)) r at ≡ Err left
unfolding pieces
piece_refused r [] left some_left e = absurd (omega arith)
piece_refused r (c ∷ rest) left some_left e = on_err (piece r (c ∷ rest)) left _ e

pub stopped : (e : Stop) (r : Reading) (at : List ℕ) (all : Result Letters ℕ) → 0 < length at → StopsAs e (piece r at) → pieces (suc (length at)) r at ≡ all → StopsAs e all
stopped (stop.Refused left) r at all some_left h q = sym q ∙ piece_refused r at left.0 some_left h
stopped stop.Memory r at all some_left h q = tt

pub still_open : (r : Reading) (at : List ℕ) (all : Result Letters ℕ) → length at ≡ 0 → 0 < r.open_groups → pieces (suc (length at)) r at ≡ all → all ≡ Err 0
unfolding pieces
still_open r [] all none some_open q = sym q ∙ rw (ne_eqb r.open_groups 0 (λ e. omega arith)) refl
still_open r (c ∷ rest) all none some_open q = absurd (omega arith)

pub all_closed : (r : Reading) (at : List ℕ) (all : Result Letters ℕ) → length at ≡ 0 → r.open_groups ≡ 0 → pieces (suc (length at)) r at ≡ all → all ≡ Ok r.letters
unfolding pieces
all_closed r [] all none closed q = sym q ∙ rw (eq-eqb r.open_groups 0 closed) refl
all_closed r (c ∷ rest) all none closed q = absurd (omega arith)

pub some_left_of : (n : ℕ) → false ≡ eqb n 0 → 0 < n
some_left_of zero h = absurd cc
some_left_of (suc n) h = omega arith

pub none_left_of : (n : ℕ) → true ≡ eqb n 0 → n ≡ 0
none_left_of n h = eqb-true n 0 (sym h)

pub letters_set : (text all : List ℕ) (l : Letters) → all ≡ text → pieces (suc (length all)) at_start all ≡ Ok l → kept l ≡ chars_of text
unfolding chars_of
letters_set text all l same read = ap (set_of text) (sym read ∙ ap (λ t. pieces (suc (length t)) at_start t) same)

pub refused_set : (text all : List ℕ) (left : ℕ) → all ≡ text → pieces (suc (length all)) at_start all ≡ Err left → charset.Refused (length all - left) ≡ chars_of text
unfolding chars_of
refused_set text all left same read = ap (λ (t : List ℕ). charset.Refused (length t - left)) same ∙ ap (set_of text) (sym read ∙ ap (λ t. pieces (suc (length t)) at_start t) same)

pub if_set : {E : Type 0} (r : Result CharSet E) (s t : CharSet) → IfOk r (λ x. x ≡ s) → s ≡ t → IfOk r (λ x. x ≡ t)
if_set (Ok x) s t h e = h ∙ e
if_set (Err x) s t h e = tt

pub refused_as : (e : Stop) (l : Left) (left : ℕ) (read : Result Letters ℕ) → e ≡ stop.Refused l → l.0 ≡ left → StopsAs e read → read ≡ Err left
refused_as e l left read is_refused same h = by e is_refused h ∙ ap (λ (n : ℕ). Err n) same
  where
    by : (s : Stop) → s ≡ stop.Refused l → StopsAs s read → read ≡ Err l.0
    by s q k = rw q at k
