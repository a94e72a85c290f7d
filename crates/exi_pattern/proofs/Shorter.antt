-- What is read of a pattern leaves less of it.
use Rattle.std.proofs.Common.{◌≡◌, ℕ, zero, suc, ◌+◌, ◌-◌, ◌<◌, ◌≤◌, Bool, true, false, cond, eqb, ◌||◌, ◌&&◌, not, List, [], ◌∷◌, length, Option, Some, None, Result, Ok, Err, arith}
use Rattle.exi_names.specs.Characters.{is_xml_char}
use Rattle.exi_digits.specs.Splits.{before, behind, is_mark}
use Rattle.exi_pattern.specs.declared.member.Member.{Member}
use Rattle.exi_pattern.specs.declared.member.Member.TheVariants as kind
use Rattle.exi_pattern.specs.declared.pieces.Reading.{Reading}
use Rattle.exi_pattern.specs.Sets.{Letters, every, with_member}
use Rattle.exi_pattern.specs.Escapes.{◌>>=◌, escape, escaped, of_escaped, of_property, property, in_braces}
use Rattle.exi_pattern.specs.Groups.{behind_group, behind_one, closes, is_group_char, is_negated, group, group_end, is_range, member, members, or_refused, range, range_at, ranged, single}
use Rattle.exi_pattern.specs.Quantities.{closed_quantity, quantity}
use Rattle.exi_pattern.specs.Patterns.{atom_at, closed, normal, of_group, of_member, piece, quantified, with_atom, without_atom}

-- fewer than so many are left
abbrev pub Leaves : {X : Type 0} → ℕ → Result (X × List ℕ) ℕ → Type 0
Leaves n (Ok x) = length x.1 < n
Leaves n (Err e) = Unit {0}

abbrev pub LeftSome : {X : Type 0} → ℕ → Option (X × List ℕ) → Type 0
LeftSome n (Some x) = length x.1 < n
LeftSome n None = Unit {0}

abbrev pub LeftRest : ℕ → Option (List ℕ) → Type 0
LeftRest n (Some rest) = length rest < n
LeftRest n None = Unit {0}

if_left : {X : Type 0} (n : ℕ) (b : Bool) (p q : Result (X × List ℕ) ℕ) → Leaves n p → Leaves n q → Leaves n (cond b p q)
if_left n true p q h k = h
if_left n false p q h k = k

if_some : {X : Type 0} (n : ℕ) (b : Bool) (p q : Option (X × List ℕ)) → LeftSome n p → LeftSome n q → LeftSome n (cond b p q)
if_some n true p q h k = h
if_some n false p q h k = k

if_rest : (n : ℕ) (b : Bool) (p q : Option (List ℕ)) → LeftRest n p → LeftRest n q → LeftRest n (cond b p q)
if_rest n true p q h k = h
if_rest n false p q h k = k

bind_left : {X Y : Type 0} (n : ℕ) (p : Result (X × List ℕ) ℕ) (f : X × List ℕ → Result (Y × List ℕ) ℕ) → Leaves n p → ((x : X × List ℕ) → length x.1 < n → Leaves n (f x)) → Leaves n (p >>= f)
bind_left n (Ok x) f h k = k x h
bind_left n (Err e) f h k = tt

-- one character, and what is left
abbrev read_one : ℕ → List ℕ → Result (Member × List ℕ) ℕ
read_one c rest = Ok (kind.Span c c, rest)

pub left_of : {X : Type 0} (n : ℕ) (p : Result (X × List ℕ) ℕ) (x : X × List ℕ) → Leaves n p → p ≡ Ok x → length x.1 < n
left_of n p x h e = rw e at h

more_left : {X : Type 0} (n m : ℕ) (p : Result (X × List ℕ) ℕ) → n ≤ m → Leaves n p → Leaves m p
more_left n m (Ok x) le h = omega (arith, h, le)
more_left n m (Err e) le h = tt

behind_left : (test : ℕ → Bool) (xs : List ℕ) → LeftRest (suc (length xs)) (behind test xs)
behind_left test [] = tt
behind_left test (c ∷ cs) = if_rest (suc (suc (length cs))) (test c) (Some cs) (behind test cs) (omega arith) (up (behind test cs) (behind_left test cs))
  where
    up : (o : Option (List ℕ)) → LeftRest (suc (length cs)) o → LeftRest (suc (suc (length cs))) o
    up (Some rest) h = omega (arith, h)
    up None h = tt

braces_left : (n : ℕ) (name : List ℕ) (o : Option (List ℕ)) → LeftRest n o → LeftRest n (in_braces name o)
braces_left n name None h = tt
braces_left n name (Some rest) h = if_rest n _ (Some rest) None h tt

property_left : (rest : List ℕ) → LeftRest (suc (length rest)) (property rest)
property_left [] = tt
property_left (c ∷ rest) = if_rest (suc (suc (length rest))) _ (in_braces (before (is_mark 125) rest) (behind (is_mark 125) rest)) None
    (up (in_braces (before (is_mark 125) rest) (behind (is_mark 125) rest)) (braces_left (suc (length rest)) (before (is_mark 125) rest) (behind (is_mark 125) rest) (behind_left (is_mark 125) rest))) tt
  where
    up : (o : Option (List ℕ)) → LeftRest (suc (length rest)) o → LeftRest (suc (suc (length rest))) o
    up (Some more) h = omega (arith, h)
    up None h = tt

of_property_left : (n : ℕ) (o : Option (List ℕ)) → LeftRest n o → LeftSome n (of_property o)
of_property_left n (Some rest) h = h
of_property_left n None h = tt

of_escaped_left : (n : ℕ) (o : Option Member) (rest : List ℕ) → length rest < n → LeftSome n (of_escaped o rest)
of_escaped_left n (Some m) rest h = h
of_escaped_left n None rest h = tt

pub escape_left : (rest : List ℕ) → LeftSome (suc (length rest)) (escape rest)
unfolding escape
escape_left [] = tt
escape_left (c ∷ rest) = if_some (suc (suc (length rest))) _ (of_property (property rest)) (of_escaped (escaped c) rest)
    (of_property_left (suc (suc (length rest))) (property rest) (up (property rest) (property_left rest))) (of_escaped_left (suc (suc (length rest))) (escaped c) rest (omega arith))
  where
    up : (o : Option (List ℕ)) → LeftRest (suc (length rest)) o → LeftRest (suc (suc (length rest))) o
    up (Some more) h = omega (arith, h)
    up None h = tt

or_refused_left : (n : ℕ) (at : List ℕ) (o : Option (Member × List ℕ)) → LeftSome n o → Leaves n (or_refused at o)
or_refused_left n at (Some x) h = h
or_refused_left n at None h = tt

one_left : (c : ℕ) (rest : List ℕ) → Leaves (suc (length rest)) (cond (is_group_char c) (read_one c rest) (Err (length (c ∷ rest))))
one_left c rest = if_left (suc (length rest)) (is_group_char c) (read_one c rest) (Err (length (c ∷ rest))) (omega arith) tt

single_left : (at : List ℕ) → Leaves (length at) (single at)
unfolding single
single_left [] = tt
single_left (c ∷ rest) =
    if_left (suc (length rest)) (eqb c 92) (or_refused (c ∷ rest) (escape rest)) (cond (is_group_char c) (read_one c rest) (Err (length (c ∷ rest))))
    (or_refused_left (suc (length rest)) (c ∷ rest) (escape rest) (escape_left rest)) (one_left c rest)

range_left : (n first : ℕ) (at : List ℕ) (x : Member × List ℕ) → length x.1 < n → Leaves n (range first at x)
range_left n first at (kind.Span last same, rest) h = if_left n _ (Ok (kind.Span first last, rest)) (Err (length at)) h tt
range_left n first at (kind.Spaces, rest) h = tt
range_left n first at (kind.Others, rest) h = tt

range_at_left : (first : ℕ) (at : List ℕ) → Leaves (length at) (range_at first at)
range_at_left first at = bind_left (length at) (single at) (range first at) (single_left at) (λ x h. range_left (length at) first at x h)

one_less : (rest : List ℕ) → length (behind_one rest) ≤ length rest
one_less [] = omega arith
one_less (c ∷ rest) = omega arith

ranged_left : (n : ℕ) (x : Member × List ℕ) → length x.1 < n → Leaves n (ranged x)
ranged_left n (kind.Span first same, rest) h = if_left n (is_range rest) (range_at first (behind_one rest)) (Ok (kind.Span first same, rest)) (more_left (length (behind_one rest)) n (range_at first (behind_one rest)) (let k = one_less rest in omega (arith, h)) (range_at_left first (behind_one rest))) h
ranged_left n (kind.Spaces, rest) h = h
ranged_left n (kind.Others, rest) h = h

dash_left : (first : Bool) (c : ℕ) (rest : List ℕ) → Leaves (suc (length rest)) (cond (first || closes rest) (read_one 45 rest) (Err (length (c ∷ rest))))
dash_left first c rest = if_left (suc (length rest)) (first || closes rest) (read_one 45 rest) (Err (length (c ∷ rest))) (omega arith) tt

pub member_left : (first : Bool) (at : List ℕ) → Leaves (length at) (member first at)
unfolding member
member_left first [] = tt
member_left first (c ∷ rest) =
    if_left (suc (length rest)) (eqb c 45) (cond (first || closes rest) (read_one 45 rest) (Err (length (c ∷ rest)))) (single (c ∷ rest) >>= ranged)
    (dash_left first c rest)
    (bind_left (suc (length rest)) (single (c ∷ rest)) ranged (single_left (c ∷ rest)) (λ x h. ranged_left (suc (length rest)) x h))

behind_group_left : (rest : List ℕ) → LeftRest (length rest) (behind_group rest)
behind_group_left [] = tt
behind_group_left (c ∷ rest) = if_rest (suc (length rest)) _ (Some rest) None (omega arith) tt

group_end_left : (n : ℕ) (b : Bool) (s : Letters) (o : Option (List ℕ)) (more : Result (Letters × List ℕ) ℕ) → LeftRest n o → Leaves n more → Leaves n (group_end b s o more)
group_end_left n true s (Some rest) more h k = h
group_end_left n true s None more h k = k
group_end_left n false s (Some rest) more h k = k
group_end_left n false s None more h k = k

members_left : (n : ℕ) (first : Bool) (s : Letters) (at : List ℕ) → Leaves (length at) (members n first s at)
unfolding members
members_left zero first s at = tt
members_left (suc n) first s at = group_end_left (length at) _ s (behind_group at) _ (behind_group_left at)
    (bind_left (length at) (member first at) (λ x. members n false (with_member x.0 s) x.1) (member_left first at) (λ x h. more_left (length x.1) (length at) (members n false (with_member x.0 s) x.1) (omega (arith, h)) (members_left n false (with_member x.0 s) x.1)))

group_left : (s : Letters) (rest : List ℕ) → Leaves (suc (length rest)) (group s rest)
unfolding group
group_left s rest = if_left (suc (length rest)) (is_negated rest) (members (suc (length (behind_one rest))) true every (behind_one rest)) (members (suc (length rest)) true s rest)
    (more_left (length (behind_one rest)) (suc (length rest)) (members (suc (length (behind_one rest))) true every (behind_one rest)) (let k = one_less rest in omega arith) (members_left (suc (length (behind_one rest))) true every (behind_one rest)))
    (more_left (length rest) (suc (length rest)) (members (suc (length rest)) true s rest) (omega arith) (members_left (suc (length rest)) true s rest))

closed_quantity_left : (n : ℕ) (text : List ℕ) (o : Option (List ℕ)) → LeftRest n o → LeftRest n (closed_quantity text o)
closed_quantity_left n text None h = tt
closed_quantity_left n text (Some rest) h = if_rest n _ (Some rest) None h tt

quantity_left : (rest : List ℕ) → LeftRest (suc (length rest)) (quantity rest)
unfolding quantity
quantity_left rest = closed_quantity_left (suc (length rest)) (before (is_mark 125) rest) (behind (is_mark 125) rest) (behind_left (is_mark 125) rest)

quantified_left : (n : ℕ) (r : Reading) (at : List ℕ) (o : Option (List ℕ)) → LeftRest n o → Leaves n (quantified r at o)
quantified_left n r at None h = tt
quantified_left n r at (Some rest) h = if_left n _ (Ok _) (Err (length at)) h tt

of_member_left : (n : ℕ) (r : Reading) (at : List ℕ) (o : Option (Member × List ℕ)) → LeftSome n o → Leaves n (of_member r at o)
of_member_left n r at None h = tt
of_member_left n r at (Some x) h = h

abbrev on_with : Reading → List ℕ → Result (Reading × List ℕ) ℕ
on_with r rest = Ok (r, rest)

normal_left : (r : Reading) (c : ℕ) (rest : List ℕ) → Leaves (suc (length rest)) (normal r c rest)
normal_left r c rest = if_left (suc (length rest)) (is_xml_char c && not (eqb c 93 || eqb c 125)) (on_with (with_atom r (with_member (kind.Span c c) r.letters)) rest) (Err (length (c ∷ rest))) (omega arith) tt

closed_left : (r : Reading) (c : ℕ) (rest : List ℕ) → Leaves (suc (length rest)) (closed r (c ∷ rest) rest)
closed_left r c rest = if_left (suc (length rest)) (eqb r.open_groups 0) (Err (length (c ∷ rest))) (on_with (record { open_groups = r.open_groups - 1; atom = true; letters = r.letters }) rest) tt (omega arith)

any_left : (r : Reading) (c : ℕ) (rest : List ℕ) → Leaves (suc (length rest)) (cond (eqb c 46) (on_with (with_atom r every) rest) (normal r c rest))
any_left r c rest = if_left (suc (length rest)) (eqb c 46) (on_with (with_atom r every) rest) (normal r c rest) (omega arith) (normal_left r c rest)

abbrev grouped : Reading → List ℕ → Result (Reading × List ℕ) ℕ
grouped r rest = group r.letters rest >>= λ x. Ok (of_group r x)

abbrev other_atom : Reading → ℕ → List ℕ → Result (Reading × List ℕ) ℕ
other_atom r c rest = cond (eqb c 92) (of_member r (c ∷ rest) (escape rest)) (cond (eqb c 46) (on_with (with_atom r every) rest) (normal r c rest))

other_left : (r : Reading) (c : ℕ) (rest : List ℕ) → Leaves (suc (length rest)) (other_atom r c rest)
other_left r c rest = if_left (suc (length rest)) (eqb c 92) (of_member r (c ∷ rest) (escape rest)) (cond (eqb c 46) (on_with (with_atom r every) rest) (normal r c rest)) (of_member_left (suc (length rest)) r (c ∷ rest) (escape rest) (escape_left rest)) (any_left r c rest)

atom_left : (r : Reading) (c : ℕ) (rest : List ℕ) → Leaves (suc (length rest)) (atom_at r c rest)
unfolding atom_at
atom_left r c rest =
    if_left (suc (length rest)) (eqb c 91) (grouped r rest) (other_atom r c rest)
    (bind_left (suc (length rest)) (group r.letters rest) (λ x. Ok (of_group r x)) (group_left r.letters rest) (λ x h. h))
    (other_left r c rest)

-- the steps of `piece`, the last first
abbrev from_brace : Reading → ℕ → List ℕ → Result (Reading × List ℕ) ℕ
from_brace r c rest = cond (eqb c 123) (quantified r (c ∷ rest) (quantity rest)) (atom_at r c rest)

abbrev from_mark : Reading → ℕ → List ℕ → Result (Reading × List ℕ) ℕ
from_mark r c rest = cond (eqb c 63 || eqb c 42 || eqb c 43) (quantified r (c ∷ rest) (Some rest)) (from_brace r c rest)

abbrev from_bar : Reading → ℕ → List ℕ → Result (Reading × List ℕ) ℕ
from_bar r c rest = cond (eqb c 124) (on_with (without_atom r r.open_groups) rest) (from_mark r c rest)

abbrev from_close : Reading → ℕ → List ℕ → Result (Reading × List ℕ) ℕ
from_close r c rest = cond (eqb c 41) (closed r (c ∷ rest) rest) (from_bar r c rest)

brace_left : (r : Reading) (c : ℕ) (rest : List ℕ) → Leaves (suc (length rest)) (from_brace r c rest)
brace_left r c rest = if_left (suc (length rest)) (eqb c 123) (quantified r (c ∷ rest) (quantity rest)) (atom_at r c rest) (quantified_left (suc (length rest)) r (c ∷ rest) (quantity rest) (quantity_left rest)) (atom_left r c rest)

mark_left : (r : Reading) (c : ℕ) (rest : List ℕ) → Leaves (suc (length rest)) (from_mark r c rest)
mark_left r c rest = if_left (suc (length rest)) (eqb c 63 || eqb c 42 || eqb c 43) (quantified r (c ∷ rest) (Some rest)) (from_brace r c rest) (quantified_left (suc (length rest)) r (c ∷ rest) (Some rest) (omega arith)) (brace_left r c rest)

bar_left : (r : Reading) (c : ℕ) (rest : List ℕ) → Leaves (suc (length rest)) (from_bar r c rest)
bar_left r c rest = if_left (suc (length rest)) (eqb c 124) (on_with (without_atom r r.open_groups) rest) (from_mark r c rest) (omega arith) (mark_left r c rest)

close_left : (r : Reading) (c : ℕ) (rest : List ℕ) → Leaves (suc (length rest)) (from_close r c rest)
close_left r c rest = if_left (suc (length rest)) (eqb c 41) (closed r (c ∷ rest) rest) (from_bar r c rest) (closed_left r c rest) (bar_left r c rest)

pub piece_left : (r : Reading) (at : List ℕ) → Leaves (length at) (piece r at)
unfolding piece
piece_left r [] = tt
piece_left r (c ∷ rest) = if_left (suc (length rest)) (eqb c 40) (on_with (without_atom r (r.open_groups + 1)) rest) (from_close r c rest) (omega arith) (close_left r c rest)
