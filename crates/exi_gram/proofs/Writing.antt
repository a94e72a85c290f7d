-- The bits of a code that is kept are those of the code of its production.
use Rattle.std.proofs.Common.{◌≡◌, ℕ, zero, suc, ◌+◌, ◌<◌, ◌≤◌, Bool, true, false, cond, Some, List, [], ◌∷◌, ◌++◌, length, map, take, drop, slice_get, slice_index_or, option_map, inl, inr, refl, sym, ap, ◌∙◌, subst, arith}
use Rattle.std.proofs.lemmas.List.{append-nil, length-map, length-take, length-drop}
use Rattle.std.proofs.lemmas.Option.{slice_get-map, slice_get-get_or, slice_get_within, get_or_from_slice_get}
use Rattle.exi_bits.specs.declared.align.Align.{Align}
use Rattle.exi_bits.specs.Bits.{number}
use Rattle.exi_bits.specs.Widths.{width_for}
use Rattle.exi_gram.specs.declared.code.Code.{Code}
use Rattle.exi_gram.specs.declared.code.Code.TheVariants as code
use Rattle.exi_gram.specs.declared.code.Coded.{Coded as Kept}
use Rattle.exi_gram.specs.declared.second.SecondPart.{SecondPart}
use Rattle.exi_gram.specs.Codes.{Coded, IsClosedUp, Productions, Second, code_bits, coded, coded_from, coded_seconds, first_values, going_on, group, single}
use Rattle.exi_gram.specs.Laws.{codes}
use Rattle.exi_gram.specs.Naming.{Entry}
use Rattle.exi_gram.specs.Tables.{CodeFits, Follow, IsTable, as_single, coded_of, count_at, first_count, items_of, kept_bits, kept_entry, parts_at, parts_of, second_of, size, slice, table_of}
use Rattle.exi_gram.proofs.CodeLaws.{code_none, code_parts, group_behind, second_count, third_count}
use Rattle.exi_gram.proofs.CodeLists.{StandsBehind, StandsFirst, StandsIn, first_count as first_values_are, going_longer, parts_in, some_is, stands_at}
use Rattle.exi_gram.proofs.TableLists.{count_firsts, count_items, follow_within, size_is, table_closed}

-- ---- the bits of a code by its parts
one_part : {X : Type 0} (p : Productions X) → IsClosedUp p → (a : Align) (first : ℕ) → code_bits a (codes p) (first ∷ []) ≡ number (width_for (first_values p)) a first ++ []
one_part p h a first = code_parts a (codes p) (going_on first (codes p)) first (first_values p) [] (first_values_are p h) refl ∙ ap (λ (z : List Bool). number (width_for (first_values p)) a first ++ z) (code_none a (going_on first (codes p)))

more_parts : {X : Type 0} (p : Productions X) → IsClosedUp p → (a : Align) (second : ℕ) (parts : List ℕ) → code_bits a (codes p) (length p.firsts ∷ second ∷ parts) ≡ number (width_for (first_values p)) a (length p.firsts) ++ (number (width_for (length p.seconds)) a second ++ code_bits a (going_on second (parts_in (coded_seconds [] 0 p.seconds))) parts)
more_parts p h a second parts =
    code_parts a (codes p) (parts_in (coded_seconds [] 0 p.seconds)) (length p.firsts) (first_values p) (second ∷ parts) (first_values_are p h) (going_longer p)
    ∙ ap (λ (z : List Bool). number (width_for (first_values p)) a (length p.firsts) ++ z) (code_parts a (parts_in (coded_seconds [] 0 p.seconds)) (going_on second (parts_in (coded_seconds [] 0 p.seconds))) second (length p.seconds) parts (second_count p.seconds h) refl)

third_part : {X : Type 0} (a : Align) (xs : List (Second X)) (j : ℕ) (ys : List X) (third : ℕ) → slice_get xs j ≡ Some (group ys) → code_bits a (going_on j (parts_in (coded_seconds [] 0 xs))) (third ∷ []) ≡ number (width_for (length ys)) a third
third_part a xs j ys third e =
    ap (λ (z : List (List ℕ)). code_bits a z (third ∷ [])) (group_behind xs j ys e)
    ∙ code_parts a (parts_in (coded_from [] 0 ys)) (going_on third (parts_in (coded_from [] 0 ys))) third (length ys) [] (third_count ys) refl
    ∙ ap (λ (z : List Bool). number (width_for (length ys)) a third ++ z) (code_none a (going_on third (parts_in (coded_from [] 0 ys))))
    ∙ append-nil (number (width_for (length ys)) a third)

-- ---- a code and its parts
is_one : (c : Code) (x : ℕ) → parts_of c ≡ x ∷ [] → c ≡ code.One x
is_one (code.One first) x e = cc
is_one (code.Two first second) x e = absurd cc
is_one (code.Three first second third) x e = absurd cc

is_two : (c : Code) (x y : ℕ) → parts_of c ≡ x ∷ y ∷ [] → c ≡ code.Two x y
is_two (code.One first) x y e = absurd cc
is_two (code.Two first second) x y e = cc
is_two (code.Three first second third) x y e = absurd cc

is_three : (c : Code) (x y z : ℕ) → parts_of c ≡ x ∷ y ∷ z ∷ [] → c ≡ code.Three x y z
is_three (code.One first) x y z e = absurd cc
is_three (code.Two first second) x y z e = absurd cc
is_three (code.Three first second third) x y z e = cc

-- ---- what is kept of a second part
get_mapped : {X Y : Type 0} (f : X → Y) (xs : List X) (j : ℕ) (y : Y) → slice_get (map f xs) j ≡ Some y → (x : X) × (slice_get xs j ≡ Some x) × (f x ≡ y)
get_mapped f [] j y e = absurd cc
get_mapped f (x ∷ xs) zero y e = (x, refl, some_is (f x) y e)
get_mapped f (x ∷ xs) (suc j) y e = get_mapped f xs j y e

count_is : (ss : List SecondPart) (j : ℕ) (s : SecondPart) → slice_get ss j ≡ Some s → count_at ss j ≡ s.count
count_is ss j s e = ap (λ (s : SecondPart). s.count) (get_or_from_slice_get ss j s (record { begin = 0; count = 0; group = false }) e)

single_not : {X : Type 0} (xs ys : List X) (third : ℕ) (x : X) → as_single xs ≡ group ys → slice_get ys third ≡ Some x → ⊥
single_not [] [] third x e f = absurd cc
single_not [] (y ∷ ys) third x e f = cc
single_not (z ∷ zs) ys third x e f = cc

group_is : {X : Type 0} (xs ys : List X) (grouped : Bool) (third : ℕ) (x : X) → cond grouped (group xs) (as_single xs) ≡ group ys → slice_get ys third ≡ Some x → xs ≡ ys
group_is xs ys true third x e f = cc
group_is xs ys false third x e f = absurd (single_not xs ys third x e f)

-- the part is within what is kept
follow_at : (place : ℕ) (ss : List SecondPart) (end j : ℕ) (s : SecondPart) → Follow place ss end → slice_get ss j ≡ Some s → s.begin + s.count ≤ end
follow_at place [] end j s h e = absurd cc
follow_at place (t ∷ ss) end zero s h e =
    let w = follow_within (place + t.count) ss end h.3 in
    let q = some_is t s e in
    subst (λ (s : SecondPart). s.begin + s.count ≤ end) q (omega (arith, h.0))
follow_at place (t ∷ ss) end (suc j) s h e = follow_at (place + t.count) ss end j s h.3 e

group_count : (cs : List Kept) (firsts : ℕ) (ss : List SecondPart) (j third : ℕ) (s : SecondPart) (ys : List Entry) (x : Entry) → IsTable cs firsts ss → slice_get ss j ≡ Some s → second_of (items_of cs) s ≡ group ys → slice_get ys third ≡ Some x → s.count ≡ length ys
group_count cs firsts ss j third s ys x t e f g =
    let w = follow_at firsts ss (length cs) j s t.follow e in
    let n : length (slice (items_of cs) s) ≡ s.count = omega (arith, length-take s.count (drop s.begin (items_of cs)), length-drop s.begin (items_of cs), count_items cs) in
    sym n ∙ ap length (group_is (slice (items_of cs) s) ys s.group third x f g)

-- ---- a code that is kept
-- its parts are among the values that they can have, and these are the bits of the production's code
pub record Told (a : Align) (cs : List Kept) (firsts : ℕ) (ss : List SecondPart) (place : ℕ) (c : Code) : Type 0 where
  pub fits : CodeFits firsts ss c
  pub bits : kept_bits a firsts ss c ≡ code_bits a (codes (table_of (items_of cs) firsts ss)) (parts_at (table_of (items_of cs) firsts ss) place)

values_are : (cs : List Kept) (firsts : ℕ) (ss : List SecondPart) → IsTable cs firsts ss → first_values (table_of (items_of cs) firsts ss) ≡ first_count firsts ss
values_are cs firsts ss t = by ss (count_firsts cs firsts ss (length cs) t.follow (omega arith))
  where
    by : (ss : List SecondPart) → length (take firsts (items_of cs)) ≡ firsts → first_values (table_of (items_of cs) firsts ss) ≡ first_count firsts ss
    by [] n = omega arith
    by (s ∷ ss) n = omega arith

first_few : (firsts : ℕ) (ss : List SecondPart) → firsts ≤ first_count firsts ss
first_few firsts [] = omega arith
first_few firsts (s ∷ ss) = omega arith

first_more : (firsts : ℕ) (ss : List SecondPart) (j : ℕ) → j < length ss → firsts < first_count firsts ss
first_more firsts [] j less = omega arith
first_more firsts (s ∷ ss) j less = omega arith

first_told : (a : Align) (cs : List Kept) (firsts : ℕ) (ss : List SecondPart) (place : ℕ) (c : Kept) → IsTable cs firsts ss → parts_at (table_of (items_of cs) firsts ss) place ≡ parts_of c.code → StandsFirst [] 0 (take firsts (items_of cs)) (coded_of c) → Told a cs firsts ss place c.code
first_told a cs firsts ss place c t at s =
    let v : Productions Entry = table_of (items_of cs) firsts ss in
    let q : 0 + s.first ≡ s.first = omega arith in
    let k = is_one c.code s.first (s.parts ∙ ap (λ (i : ℕ). i ∷ []) q) in
    let n = count_firsts cs firsts ss (length cs) t.follow (omega arith) in
    let less = slice_get_within (take firsts (items_of cs)) s.first (kept_entry c) s.there in
    subst (Told a cs firsts ss place) (sym k) (record {
      fits = omega (arith, first_few firsts ss);
      bits =
          sym (append-nil (number (width_for (first_count firsts ss)) a s.first))
          ∙ ap (λ (i : ℕ). number (width_for i) a s.first ++ []) (sym (values_are cs firsts ss t))
          ∙ sym (one_part v (table_closed cs firsts ss t) a s.first)
          ∙ ap (code_bits a (codes v)) (ap parts_of (sym k) ∙ sym at);
    })

second_told : (a : Align) (cs : List Kept) (firsts : ℕ) (ss : List SecondPart) (place : ℕ) (c : Kept) (j : ℕ) (p : SecondPart) (y : Second Entry) → IsTable cs firsts ss → parts_at (table_of (items_of cs) firsts ss) place ≡ parts_of c.code
    → slice_get ss j ≡ Some p → second_of (items_of cs) p ≡ y → slice_get (map (second_of (items_of cs)) ss) j ≡ Some y → StandsIn (length (take firsts (items_of cs)) ∷ j ∷ []) y (coded_of c) → Told a cs firsts ss place c.code
second_told a cs firsts ss place c j p (single x) t at e f g s =
    let v : Productions Entry = table_of (items_of cs) firsts ss in
    let n = count_firsts cs firsts ss (length cs) t.follow (omega arith) in
    let k = is_two c.code (length (take firsts (items_of cs))) j s.1 in
    let less = slice_get_within ss j p e in
    let m : length (map (second_of (items_of cs)) ss) ≡ length ss = length-map ss (second_of (items_of cs)) in
    subst (Told a cs firsts ss place) (sym k) (record {
      fits = (omega (arith, first_more firsts ss j less), less);
      bits =
          ap (λ (i : ℕ). number (width_for i) a (length (take firsts (items_of cs))) ++ number (width_for (length ss)) a j) (sym (values_are cs firsts ss t))
          ∙ ap (λ (i : ℕ). number (width_for (first_values v)) a (length v.firsts) ++ number (width_for i) a j) (sym m)
          ∙ ap (λ (z : List Bool). number (width_for (first_values v)) a (length v.firsts) ++ z) (sym (append-nil (number (width_for (length v.seconds)) a j)))
          ∙ ap (λ (z : List Bool). number (width_for (first_values v)) a (length v.firsts) ++ (number (width_for (length v.seconds)) a j ++ z)) (sym (code_none a (going_on j (parts_in (coded_seconds [] 0 v.seconds)))))
          ∙ sym (more_parts v (table_closed cs firsts ss t) a j [])
          ∙ ap (code_bits a (codes v)) (sym s.1 ∙ sym at);
    })
second_told a cs firsts ss place c j p (group ys) t at e f g s =
    let v : Productions Entry = table_of (items_of cs) firsts ss in
    let n = count_firsts cs firsts ss (length cs) t.follow (omega arith) in
    let k = is_three c.code (length (take firsts (items_of cs))) j s.0 s.2 in
    let less = slice_get_within ss j p e in
    let few = slice_get_within ys s.0 (kept_entry c) s.1 in
    let m : length (map (second_of (items_of cs)) ss) ≡ length ss = length-map ss (second_of (items_of cs)) in
    let count : count_at ss j ≡ length ys = count_is ss j p e ∙ group_count cs firsts ss j s.0 p ys (kept_entry c) t e f s.1 in
    subst (Told a cs firsts ss place) (sym k) (record {
      fits = (omega (arith, first_more firsts ss j less), less, subst (λ (i : ℕ). s.0 < i) (sym count) few);
      bits =
          ap (λ (i : ℕ). number (width_for i) a (length (take firsts (items_of cs))) ++ (number (width_for (length ss)) a j ++ number (width_for (count_at ss j)) a s.0)) (sym (values_are cs firsts ss t))
          ∙ ap (λ (i : ℕ). number (width_for (first_values v)) a (length v.firsts) ++ (number (width_for i) a j ++ number (width_for (count_at ss j)) a s.0)) (sym m)
          ∙ ap (λ (i : ℕ). number (width_for (first_values v)) a (length v.firsts) ++ (number (width_for (length v.seconds)) a j ++ number (width_for i) a s.0)) count
          ∙ ap (λ (z : List Bool). number (width_for (first_values v)) a (length v.firsts) ++ (number (width_for (length v.seconds)) a j ++ z)) (sym (third_part a v.seconds j ys s.0 g))
          ∙ sym (more_parts v (table_closed cs firsts ss t) a j (s.0 ∷ []))
          ∙ ap (code_bits a (codes v)) (sym s.2 ∙ sym at);
    })

behind_told : (a : Align) (cs : List Kept) (firsts : ℕ) (ss : List SecondPart) (place : ℕ) (c : Kept) → IsTable cs firsts ss → parts_at (table_of (items_of cs) firsts ss) place ≡ parts_of c.code → StandsBehind (length (take firsts (items_of cs)) ∷ []) 0 (map (second_of (items_of cs)) ss) (coded_of c) → Told a cs firsts ss place c.code
behind_told a cs firsts ss place c t at s =
    let q : 0 + s.second ≡ s.second = omega arith in
    let st = subst (λ (i : ℕ). StandsIn (length (take firsts (items_of cs)) ∷ i ∷ []) s.holds (coded_of c)) q s.stands in
    let k = get_mapped (second_of (items_of cs)) ss s.second s.holds s.there in
    second_told a cs firsts ss place c s.second k.0 s.holds t at k.1 k.2 s.there st

pub kept_told : (a : Align) (cs : List Kept) (firsts : ℕ) (ss : List SecondPart) (place : ℕ) (d : Kept) → IsTable cs firsts ss → place < length cs → Told a cs firsts ss place (slice_index_or cs place d).code
kept_told a cs firsts ss place d t less =
    let c : Kept = slice_index_or cs place d in
    let v : Productions Entry = table_of (items_of cs) firsts ss in
    let e : slice_get cs place ≡ Some c = slice_get-get_or cs place d less in
    let f : slice_get (coded v) place ≡ Some (coded_of c) = ap (λ (z : List (Coded Entry)). slice_get z place) (sym t.codes) ∙ slice_get-map coded_of cs place ∙ ap (option_map coded_of) e in
    let at : parts_at v place ≡ parts_of c.code = get_or_from_slice_get (map (λ (c : Coded Entry). c.parts) (coded v)) place (parts_of c.code) [] (slice_get-map (λ (c : Coded Entry). c.parts) (coded v) place ∙ ap (option_map (λ (c : Coded Entry). c.parts)) f) in
    elim (stands_at v place (coded_of c) f) [
      | inl s ↦ first_told a cs firsts ss place c t at s
      | inr s ↦ behind_told a cs firsts ss place c t at s
    ]

pub view_told : (a : Align) (cs : List Kept) (firsts : ℕ) (ss lent : List SecondPart) (place : ℕ) (c : Kept) (p : Productions Entry) → IsTable cs firsts ss → table_of (items_of cs) firsts ss ≡ p → lent ≡ ss → c ≡ slice_index_or cs place c → place < size p
    → CodeFits firsts lent c.code × (kept_bits a firsts lent c.code ≡ code_bits a (codes p) (parts_at p place))
view_told a cs firsts ss lent place c p t v l e there =
    let n : size p ≡ length cs = ap size (sym v) ∙ size_is cs firsts ss t in
    let k : Told a cs firsts ss place c.code = subst (λ (d : Kept). Told a cs firsts ss place d.code) (sym e) (kept_told a cs firsts ss place c t (omega arith)) in (
      subst (λ (z : List SecondPart). CodeFits firsts z c.code) (sym l) k.fits,
      ap (λ (z : List SecondPart). kept_bits a firsts z c.code) l ∙ k.bits ∙ ap (λ (p : Productions Entry). code_bits a (codes p) (parts_at p place)) v,
    )
