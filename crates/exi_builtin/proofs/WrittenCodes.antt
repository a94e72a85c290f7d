-- The bits of a code of a state, part by part.
use Rattle.std.proofs.Common.{All, ◌≡◌, inl, inr, ℕ, zero, suc, ◌+◌, ◌<◌, Bool, List, [], ◌∷◌, ◌++◌, filter, length, slice_get, Some, refl, sym, ap, ◌∙◌, arith}
use Rattle.std.proofs.lemmas.List.{append-nil}
use Rattle.std.proofs.lemmas.List.Elements.{All-nil, All-cons}
use Rattle.std.proofs.lemmas.Option.{slice_get_within}
use Rattle.exi_bits.specs.declared.align.Align.{Align}
use Rattle.exi_bits.specs.Bits.{number}
use Rattle.exi_bits.specs.Widths.{width_for}
use Rattle.exi_gram.specs.Codes.{HasMembers, IsClosedUp, Productions, Second, code_bits, coded_from, coded_seconds, first_values, going_on, group, kept_seconds, longer, single}
use Rattle.exi_gram.specs.Laws.{codes}
use Rattle.exi_gram.specs.declared.code.Code.{Code}
use Rattle.exi_gram.specs.declared.code.Code.TheVariants as code
use Rattle.exi_gram.specs.Tables.{parts_of}
use Rattle.exi_gram.specs.declared.options.Options.{Options}
use Rattle.exi_gram.proofs.CodeLaws.{code_none, code_parts, group_behind, second_count, third_count}
use Rattle.exi_gram.proofs.CodeLists.{StandsIn, first_count, going_longer, parts_in, some_is, stands_at}
use Rattle.exi_builtin.specs.declared.learnable.Learnable.{Learnable}
use Rattle.exi_builtin.specs.declared.learnable.Room.{Room}
use Rattle.exi_builtin.specs.BuiltIn.{is_kept, left_of, written}
use Rattle.exi_builtin.specs.CodeParts.{PartsFit, part_bits}
use Rattle.exi_builtin.specs.Layout.{grouped, laid_out, laid_seconds}
use Rattle.exi_builtin.specs.LeastCodes.{IsCodeOf}
use Rattle.exi_builtin.specs.Learning.{behind_learned}
use Rattle.exi_builtin.proofs.Layouts.{kept_laid}
use Rattle.exi_builtin.proofs.Shapes.{laid_of, shape, shape_is}

-- ---- the bits
one_bits : {X : Type 0} (p : Productions X) → IsClosedUp p → (a : Align) (first : ℕ) → code_bits a (codes p) (first ∷ []) ≡ number (width_for (first_values p)) a first
one_bits p h a first =
    code_parts a (codes p) (going_on first (codes p)) first (first_values p) [] (first_count p h) refl
    ∙ ap (λ (z : List Bool). number (width_for (first_values p)) a first ++ z) (code_none a (going_on first (codes p)))
    ∙ append-nil (number (width_for (first_values p)) a first)

more_bits : {X : Type 0} (p : Productions X) → IsClosedUp p → (a : Align) (second : ℕ) (parts : List ℕ) → code_bits a (codes p) (length p.firsts ∷ second ∷ parts) ≡ number (width_for (first_values p)) a (length p.firsts) ++ (number (width_for (length p.seconds)) a second ++ code_bits a (going_on second (parts_in (coded_seconds [] 0 p.seconds))) parts)
more_bits p h a second parts =
    code_parts a (codes p) (parts_in (coded_seconds [] 0 p.seconds)) (length p.firsts) (first_values p) (second ∷ parts) (first_count p h) (going_longer p)
    ∙ ap (λ (z : List Bool). number (width_for (first_values p)) a (length p.firsts) ++ z) (code_parts a (parts_in (coded_seconds [] 0 p.seconds)) (going_on second (parts_in (coded_seconds [] 0 p.seconds))) second (length p.seconds) parts (second_count p.seconds h) refl)

two_bits : {X : Type 0} (p : Productions X) → IsClosedUp p → (a : Align) (second : ℕ) → code_bits a (codes p) (length p.firsts ∷ second ∷ []) ≡ number (width_for (first_values p)) a (length p.firsts) ++ number (width_for (length p.seconds)) a second
two_bits p h a second =
    more_bits p h a second []
    ∙ ap (λ (z : List Bool). number (width_for (first_values p)) a (length p.firsts) ++ (number (width_for (length p.seconds)) a second ++ z)) (code_none a (going_on second (parts_in (coded_seconds [] 0 p.seconds))))
    ∙ ap (λ (z : List Bool). number (width_for (first_values p)) a (length p.firsts) ++ z) (append-nil (number (width_for (length p.seconds)) a second))

member_bits : {X : Type 0} (a : Align) (xs : List (Second X)) (j : ℕ) (ys : List X) (third : ℕ) → slice_get xs j ≡ Some (group ys) → code_bits a (going_on j (parts_in (coded_seconds [] 0 xs))) (third ∷ []) ≡ number (width_for (length ys)) a third
member_bits a xs j ys third e =
    ap (λ (z : List (List ℕ)). code_bits a z (third ∷ [])) (group_behind xs j ys e)
    ∙ code_parts a (parts_in (coded_from [] 0 ys)) (going_on third (parts_in (coded_from [] 0 ys))) third (length ys) [] (third_count ys) refl
    ∙ ap (λ (z : List Bool). number (width_for (length ys)) a third ++ z) (code_none a (going_on third (parts_in (coded_from [] 0 ys))))
    ∙ append-nil (number (width_for (length ys)) a third)

three_bits : {X : Type 0} (p : Productions X) → IsClosedUp p → (a : Align) (second third : ℕ) (ys : List X) → slice_get p.seconds second ≡ Some (group ys) → code_bits a (codes p) (length p.firsts ∷ second ∷ third ∷ []) ≡ number (width_for (first_values p)) a (length p.firsts) ++ (number (width_for (length p.seconds)) a second ++ number (width_for (length ys)) a third)
three_bits p h a second third ys e =
    more_bits p h a second (third ∷ [])
    ∙ ap (λ (z : List Bool). number (width_for (first_values p)) a (length p.firsts) ++ (number (width_for (length p.seconds)) a second ++ z)) (member_bits a p.seconds second ys third e)

-- ---- where a code stands
first_part : (x y : ℕ) (xs ys : List ℕ) → x ∷ xs ≡ y ∷ ys → x ≡ y
first_part x y xs ys e = cc

second_parts : (x y : ℕ) (xs ys : List ℕ) → x ∷ xs ≡ y ∷ ys → xs ≡ ys
second_parts x y xs ys e = cc

longer_some : {X : Type 0} (xs : List (Second X)) (i : ℕ) (x : Second X) → slice_get xs i ≡ Some x → longer xs ≡ 1
longer_some [] i x e = absurd cc
longer_some (y ∷ ys) i x e = refl

not_one : {X : Type 0} (n second first : ℕ) (y : Second X) (x : X) → StandsIn (n ∷ second ∷ []) y (record { parts = first ∷ []; item = x }) → ⊥
not_one n second first (single z) x s = let k : first ∷ [] ≡ n ∷ second ∷ [] = s.1 in cc
not_one n second first (group zs) x s = let k : first ∷ [] ≡ n ∷ second ∷ s.0 ∷ [] = s.2 in cc

pub one_fits : {X : Type 0} (p : Productions X) (first : ℕ) → IsCodeOf p (first ∷ []) → first < first_values p
one_fits {X} p first k = elim (stands_at p k.place (record { parts = first ∷ []; item = k.item }) k.there) [
  | inl s ↦
      let same = first_part first (0 + s.first) [] [] s.parts in
      let within = slice_get_within p.firsts s.first k.item s.there in
      omega (arith, same, within)
  | inr s ↦ absurd (not_one (length p.firsts) (0 + s.second) first s.holds k.item s.stands)
]

pub record TwoFits {X : Type 0} (p : Productions X) (first second : ℕ) : Type 0 where
  pub first_is : first ≡ length p.firsts
  pub longer_is : longer p.seconds ≡ 1
  pub within : second < length p.seconds

two_in : {X : Type 0} (p : Productions X) (n first second : ℕ) (y : Second X) (x : X) → StandsIn (length p.firsts ∷ n ∷ []) y (record { parts = first ∷ second ∷ []; item = x }) → (first ≡ length p.firsts) × (second ≡ n)
two_in p n first second (single z) x s = let k : first ∷ second ∷ [] ≡ length p.firsts ∷ n ∷ [] = s.1 in (first_part first (length p.firsts) (second ∷ []) (n ∷ []) k, first_part second n [] [] (second_parts first (length p.firsts) (second ∷ []) (n ∷ []) k))
two_in p n first second (group zs) x s = absurd (let k : first ∷ second ∷ [] ≡ length p.firsts ∷ n ∷ s.0 ∷ [] = s.2 in cc)

pub two_fits : {X : Type 0} (p : Productions X) (first second : ℕ) → IsCodeOf p (first ∷ second ∷ []) → TwoFits p first second
two_fits {X} p first second k = elim (stands_at p k.place (record { parts = first ∷ second ∷ []; item = k.item }) k.there) [
  | inl s ↦ absurd (let e : first ∷ second ∷ [] ≡ (0 + s.first) ∷ [] = s.parts in cc)
  | inr s ↦
      let t = two_in p (0 + s.second) first second s.holds k.item s.stands in
      let within = slice_get_within p.seconds s.second s.holds s.there in
      record { first_is = t.0; longer_is = longer_some p.seconds s.second s.holds s.there; within = omega (arith, t.1, within) }
]

pub record ThreeFits {X : Type 0} (p : Productions X) (first second third : ℕ) : Type 0 where
  pub first_is : first ≡ length p.firsts
  pub longer_is : longer p.seconds ≡ 1
  pub within : second < length p.seconds
  pub members : List X
  pub there : slice_get p.seconds second ≡ Some (group members)
  pub below : third < length members

record ThreeIn {X : Type 0} (n m first second third : ℕ) (y : Second X) : Type 0 where
  first_is : first ≡ n
  second_is : second ≡ m
  members : List X
  is : y ≡ group members
  below : third < length members

three_in : {X : Type 0} (n m first second third : ℕ) (y : Second X) (x : X) → StandsIn (n ∷ m ∷ []) y (record { parts = first ∷ second ∷ third ∷ []; item = x }) → ThreeIn n m first second third y
three_in n m first second third (single z) x s = absurd (let k : first ∷ second ∷ third ∷ [] ≡ n ∷ m ∷ [] = s.1 in cc)
three_in n m first second third (group zs) x s =
    let k : first ∷ second ∷ third ∷ [] ≡ n ∷ m ∷ s.0 ∷ [] = s.2 in
    let r = second_parts first n (second ∷ third ∷ []) (m ∷ s.0 ∷ []) k in
    let q = first_part third s.0 [] [] (second_parts second m (third ∷ []) (s.0 ∷ []) r) in
    let within = slice_get_within zs s.0 x s.1 in
    record { first_is = first_part first n (second ∷ third ∷ []) (m ∷ s.0 ∷ []) k; second_is = first_part second m (third ∷ []) (s.0 ∷ []) r; members = zs; is = refl; below = omega (arith, q, within) }

pub three_fits : {X : Type 0} (p : Productions X) (first second third : ℕ) → IsCodeOf p (first ∷ second ∷ third ∷ []) → ThreeFits p first second third
three_fits {X} p first second third k = elim (stands_at p k.place (record { parts = first ∷ second ∷ third ∷ []; item = k.item }) k.there) [
  | inl s ↦ absurd (let e : first ∷ second ∷ third ∷ [] ≡ (0 + s.first) ∷ [] = s.parts in cc)
  | inr s ↦
      let t = three_in (length p.firsts) (0 + s.second) first second third s.holds k.item s.stands in
      let within = slice_get_within p.seconds s.second s.holds s.there in
      let zero_plus : 0 + s.second ≡ s.second = omega arith in
      record {
        first_is = t.first_is;
        longer_is = longer_some p.seconds s.second s.holds s.there;
        within = omega (arith, t.second_is, within);
        members = t.members;
        there = ap (slice_get p.seconds) (t.second_is ∙ zero_plus) ∙ s.there ∙ ap (λ (z : Second X). Some z) t.is;
        below = t.below;
      }
]

-- ---- what options leave of a written state
closed_grouped : {X : Type 0} (ms : List X) → All HasMembers (grouped ms)
closed_grouped [] = All-nil HasMembers
closed_grouped (m ∷ ms) = All-cons HasMembers (group (m ∷ ms)) [] (λ e. cc) (All-nil HasMembers)

closed_laid : {X : Type 0} (ss ms : List X) → All HasMembers (laid_seconds ss ms)
closed_laid [] ms = closed_grouped ms
closed_laid (s ∷ ss) ms = All-cons HasMembers (single s) (laid_seconds ss ms) tt (closed_laid ss ms)

grouped_members : {X : Type 0} (ms ys : List X) (j : ℕ) → slice_get (grouped ms) j ≡ Some (group ys) → ys ≡ ms
grouped_members [] ys j e = absurd cc
grouped_members (m ∷ ms) ys zero e = let k : group (m ∷ ms) ≡ group ys = some_is (group (m ∷ ms)) (group ys) e in cc
grouped_members (m ∷ ms) ys (suc j) e = absurd cc

laid_members : {X : Type 0} (ss ms ys : List X) (j : ℕ) → slice_get (laid_seconds ss ms) j ≡ Some (group ys) → ys ≡ ms
laid_members [] ms ys j e = grouped_members ms ys j e
laid_members (s ∷ ss) ms ys zero e = absurd (let k : single s ≡ group ys = some_is (single s) (group ys) e in cc)
laid_members (s ∷ ss) ms ys (suc j) e = laid_members ss ms ys j e

-- a state that learned these, with the options that are on
pub record IsState (p : Productions Learnable) (o : Options) (r : Room) (learned firsts singles members : List Learnable) : Type 0 where
  pub is : p ≡ shape (learned ++ firsts) (laid_seconds (filter (is_kept o) singles) (filter (is_kept o) members))
  pub firsts_are : first_values p ≡ length (learned ++ firsts) + longer (kept_seconds (is_kept o) (laid_seconds singles members))
  pub seconds_are : length p.seconds ≡ length (kept_seconds (is_kept o) (laid_seconds singles members))
  pub closed : IsClosedUp p

pub state_is : (o : Options) (r : Room) (learned firsts singles members : List Learnable) → laid_out firsts singles members ≡ written r → IsState (behind_learned learned (left_of o (written r))) o r learned firsts singles members
state_is o r learned firsts singles members laid =
    let e = shape_is o r learned firsts singles members laid in
    let k = kept_laid (is_kept o) singles members in
    let f = e ∙ ap (shape (learned ++ firsts)) k in
    rw f record {
      is = refl;
      firsts_are = ap (λ (ss : List (Second Learnable)). length (learned ++ firsts) + longer ss) (sym k);
      seconds_are = ap length (sym k);
      closed = closed_laid (filter (is_kept o) singles) (filter (is_kept o) members);
    }

-- ---- the parts of a code, and their bits
pub one_told : (a : Align) (p : Productions Learnable) (o : Options) (r : Room) (learned firsts singles members : List Learnable) (first values : ℕ) → IsState p o r learned firsts singles members → values ≡ length (learned ++ firsts) + longer (kept_seconds (is_kept o) (laid_seconds singles members)) → IsCodeOf p (first ∷ [])
    → (first < values) × (number (width_for values) a first ≡ code_bits a (codes p) (first ∷ []))
one_told a p o r learned firsts singles members first values s v k =
    let same : values ≡ first_values p = v ∙ sym s.firsts_are in
    rw same (one_fits p first k, sym (one_bits p s.closed a first))

pub two_told : (a : Align) (p : Productions Learnable) (o : Options) (r : Room) (learned firsts singles members : List Learnable) (first second values count : ℕ) → IsState p o r learned firsts singles members → values ≡ length (learned ++ firsts) + longer (kept_seconds (is_kept o) (laid_seconds singles members)) → count ≡ length (kept_seconds (is_kept o) (laid_seconds singles members)) → IsCodeOf p (first ∷ second ∷ [])
    → (first < values) × (second < count) × (number (width_for values) a first ++ number (width_for count) a second ≡ code_bits a (codes p) (first ∷ second ∷ []))
two_told a p o r learned firsts singles members first second values count s v c k =
    let same : values ≡ first_values p = v ∙ sym s.firsts_are in
    let many : count ≡ length p.seconds = c ∙ sym s.seconds_are in
    let t = two_fits p first second k in
    rw (same, many, t.first_is) (omega (arith, t.longer_is), t.within, sym (two_bits p s.closed a second))

pub three_told : (a : Align) (p : Productions Learnable) (o : Options) (r : Room) (learned firsts singles members : List Learnable) (first second third values count others : ℕ) → IsState p o r learned firsts singles members → values ≡ length (learned ++ firsts) + longer (kept_seconds (is_kept o) (laid_seconds singles members)) → count ≡ length (kept_seconds (is_kept o) (laid_seconds singles members)) → others ≡ length (filter (is_kept o) members) → IsCodeOf p (first ∷ second ∷ third ∷ [])
    → (first < values) × (second < count) × (third < others) × (number (width_for values) a first ++ (number (width_for count) a second ++ number (width_for others) a third) ≡ code_bits a (codes p) (first ∷ second ∷ third ∷ []))
three_told a p o r learned firsts singles members first second third values count others s v c n k =
    let same : values ≡ first_values p = v ∙ sym s.firsts_are in
    let many : count ≡ length p.seconds = c ∙ sym s.seconds_are in
    let t = three_fits p first second third k in
    let there : slice_get (laid_seconds (filter (is_kept o) singles) (filter (is_kept o) members)) second ≡ Some (group t.members) = ap (λ (q : Productions Learnable). slice_get q.seconds second) (sym s.is) ∙ t.there in
    let all : t.members ≡ filter (is_kept o) members = laid_members (filter (is_kept o) singles) (filter (is_kept o) members) t.members second there in
    let rest : others ≡ length t.members = n ∙ ap length (sym all) in
    let bits : number (width_for values) a first ++ (number (width_for count) a second ++ number (width_for others) a third) ≡ code_bits a (codes p) (first ∷ second ∷ third ∷ []) =
    ap (λ (i : ℕ). number (width_for i) a first ++ (number (width_for count) a second ++ number (width_for others) a third)) same
    ∙ ap (λ (i : ℕ). number (width_for (first_values p)) a first ++ (number (width_for i) a second ++ number (width_for others) a third)) many
    ∙ ap (λ (i : ℕ). number (width_for (first_values p)) a first ++ (number (width_for (length p.seconds)) a second ++ number (width_for i) a third)) rest
    ∙ ap (λ (i : ℕ). number (width_for (first_values p)) a i ++ (number (width_for (length p.seconds)) a second ++ number (width_for (length t.members)) a third)) t.first_is
    ∙ sym (three_bits p s.closed a second third t.members t.there)
    ∙ ap (λ (i : ℕ). code_bits a (codes p) (i ∷ second ∷ third ∷ [])) (sym t.first_is) in
    (omega (arith, same, t.first_is, t.longer_is), omega (arith, many, t.within), omega (arith, rest, t.below), bits)

pub parts_told : (a : Align) (p : Productions Learnable) (o : Options) (r : Room) (learned firsts singles members : List Learnable) (c : Code) (values count others : ℕ) → IsState p o r learned firsts singles members → values ≡ length (learned ++ firsts) + longer (kept_seconds (is_kept o) (laid_seconds singles members)) → count ≡ length (kept_seconds (is_kept o) (laid_seconds singles members)) → others ≡ length (filter (is_kept o) members) → IsCodeOf p (parts_of c)
    → PartsFit c values count others × (part_bits a c values count others ≡ code_bits a (codes p) (parts_of c))
parts_told a p o r learned firsts singles members (code.One first) values count others s v c n k = one_told a p o r learned firsts singles members first values s v k
parts_told a p o r learned firsts singles members (code.Two first second) values count others s v c n k =
    let t = two_told a p o r learned firsts singles members first second values count s v c k in
    ((t.0, t.1), t.2)
parts_told a p o r learned firsts singles members (code.Three first second third) values count others s v c n k =
    let t = three_told a p o r learned firsts singles members first second third values count others s v c n k in
    ((t.0, t.1, t.2), t.3)

-- the values of a first part, by the lists as they are written
pub values_told : (o : Options) (r : Room) (learned firsts singles members : List Learnable) (values : ℕ) → laid_out firsts singles members ≡ written r → values ≡ length (learned ++ (written r).firsts) + longer (kept_seconds (is_kept o) (written r).seconds)
    → values ≡ length (learned ++ firsts) + longer (kept_seconds (is_kept o) (laid_seconds singles members))
values_told o r learned firsts singles members values laid v = v ∙ sym (ap (λ (p : Productions Learnable). length (learned ++ p.firsts) + longer (kept_seconds (is_kept o) p.seconds)) laid)

-- a code of one part
pub one_behind : (a : Align) (o : Options) (r : Room) (learned : List Learnable) (first values : ℕ) → values ≡ length (learned ++ (written r).firsts) + longer (kept_seconds (is_kept o) (written r).seconds) → IsCodeOf (behind_learned learned (left_of o (written r))) (first ∷ [])
    → (first < values) × (number (width_for values) a first ≡ code_bits a (codes (behind_learned learned (left_of o (written r)))) (first ∷ []))
one_behind a o r learned first values v k =
    let laid = laid_of r in
    one_told a (behind_learned learned (left_of o (written r))) o r learned (written r).firsts laid.singles laid.members first values
    (state_is o r learned (written r).firsts laid.singles laid.members laid.is) (values_told o r learned (written r).firsts laid.singles laid.members values laid.is v) k
