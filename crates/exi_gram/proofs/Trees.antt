-- Codes as a tree: what is left of them behind some parts, and how many values the next part has.
use Rattle.std.proofs.Common.{◌≡◌, ◌≢◌, ℕ, zero, suc, ◌+◌, ◌-◌, ◌^◌, ◌<◌, ◌≤◌, max, Bool, true, false, eqb, List, [], ◌∷◌, ◌++◌, length, take, drop, set, get_or, Option, Some, None, ◌⊎◌, inl, inr, refl, sym, ap, ◌∙◌, subst, eqb-true, arith}
use Rattle.std.proofs.lemmas.Bool.{cases_Bool, eqb-false}
use Rattle.std.proofs.Math.Nat.{zero-max}
use Rattle.std.proofs.lemmas.List.{get_or-set_other, get_or-set_same, length-map, length-set, length-take, map-append, take-append-drop, take_more}
use Rattle.exi_gram.specs.declared.code.Code.{Code}
use Rattle.exi_gram.specs.declared.front.Front.{Front}
use Rattle.exi_gram.specs.Codes.{Coded, values_of}
use Rattle.exi_gram.specs.CodeTrees.{along, behind, counted, ended, left_with, parts_in, told_by}
use Rattle.exi_gram.specs.Cells.{Branches, IsTree, Kept, RowStands, CellStands, TellsEnds, all_parts, behind_front, cell_at, front_parts, leaf_of, next_part, parts_left}
use Rattle.exi_gram.specs.declared.cell.Branch.{Branch}
use Rattle.exi_gram.specs.declared.cell.Cell.{Cell}
use Rattle.exi_gram.specs.declared.cell.Cell.TheVariants as cell
use Rattle.exi_gram.specs.Tables.{parts_of}
use Rattle.exi_gram.proofs.CodeLists.{some_is}

-- ---- one code
abbrev pub along_more : ℕ → Option (List ℕ) → Option (List ℕ)
along_more part None = None
along_more part (Some parts) = along (part ∷ []) parts

pub along_then : (front : List ℕ) (part : ℕ) (parts : List ℕ) → along (front ++ part ∷ []) parts ≡ along_more part (along front parts)
along_then [] part parts = refl
along_then (first ∷ front) part [] = refl
along_then (first ∷ front) part (x ∷ xs) = elim (cases_Bool (eqb first x)) [
  | inl yes_is ↦ rw yes_is (along_then front part xs)
  | inr no_is ↦ rw no_is refl
]

-- ---- lists of codes
left-append : {X : Type 0} (o : Option (List ℕ)) (x : X) (cs ds : List (Coded X)) → left_with o x (cs ++ ds) ≡ left_with o x cs ++ ds
left-append None x cs ds = refl
left-append (Some parts) x cs ds = refl

pub behind-append : {X : Type 0} (front : List ℕ) (cs ds : List (Coded X)) → behind front (cs ++ ds) ≡ behind front cs ++ behind front ds
behind-append front [] ds = refl
behind-append front (c ∷ cs) ds = ap (left_with (along front c.parts) c.item) (behind-append front cs ds) ∙ left-append (along front c.parts) c.item (behind front cs) (behind front ds)

behind_left : {X : Type 0} (part : ℕ) (o : Option (List ℕ)) (x : X) (cs : List (Coded X)) → behind (part ∷ []) (left_with o x cs) ≡ left_with (along_more part o) x (behind (part ∷ []) cs)
behind_left part None x cs = refl
behind_left part (Some parts) x cs = refl

pub behind_then : {X : Type 0} (front : List ℕ) (part : ℕ) (cs : List (Coded X)) → behind (front ++ part ∷ []) cs ≡ behind (part ∷ []) (behind front cs)
behind_then front part [] = refl
behind_then {X} front part (c ∷ cs) =
    ap (λ (o : Option (List ℕ)). left_with o c.item (behind (front ++ part ∷ []) cs)) (along_then front part c.parts)
    ∙ ap (left_with (along_more part (along front c.parts)) c.item) (behind_then front part cs)
    ∙ sym (behind_left part (along front c.parts) c.item (behind front cs))

pub counted-append : (place : ℕ) (xs ys : List (List ℕ)) → counted place (xs ++ ys) ≡ counted place xs ++ counted (place + length xs) ys
counted-append place [] ys = let e : place ≡ place + 0 = omega arith in ap (λ (k : ℕ). counted k ys) e
counted-append place (x ∷ xs) ys =
    let e : suc place + length xs ≡ place + suc (length xs) = omega arith in
    ap (λ (ds : List (Coded ℕ)). record { parts = x; item = place } ∷ ds) (counted-append (suc place) xs ys ∙ ap (λ (k : ℕ). counted (suc place) xs ++ counted k ys) e)

pub values-append : (cs ds : List (List ℕ)) → values_of (cs ++ ds) ≡ max (values_of cs) (values_of ds)
values-append [] ds = sym (zero-max (values_of ds))
values-append (c ∷ cs) ds = rw (values-append cs ds) (omega arith)

-- the later one tells
abbrev pub later : {X : Type 0} → Option X → Option X → Option X
later o (Some x) = Some x
later o None = o

told_later : {X : Type 0} (parts : List ℕ) (x : X) (o p : Option X) → told_by parts x (later o p) ≡ later (told_by parts x o) p
told_later parts x o (Some y) = refl
told_later parts x o None = refl

pub ended-append : {X : Type 0} (cs ds : List (Coded X)) → ended (cs ++ ds) ≡ later (ended cs) (ended ds)
ended-append [] ds = by (ended ds) where
  by : {Y : Type 0} (o : Option Y) → o ≡ later None o
  by None = refl
  by (Some x) = refl
ended-append (c ∷ cs) ds = ap (told_by c.parts c.item) (ended-append cs ds) ∙ told_later c.parts c.item (ended cs) (ended ds)

-- ---- one code more
pub front_more : (f : Front) (codes : List Code) (i : ℕ) (d : Code) → i < length codes →
    behind_front f (take (i + 1) codes) ≡ behind_front f (take i codes) ++ left_with (along (front_parts f) (parts_of (get_or codes i d))) i []
front_more f codes i d within =
    let front = front_parts f in
    let code = get_or codes i d in
    let n : 0 + length (all_parts (take i codes)) ≡ i = omega (arith, length-map (take i codes) parts_of, length-take i codes) in
    ap (λ (cs : List Code). behind_front f cs) (take_more codes i d within)
    ∙ ap (λ (cs : List (List ℕ)). behind front (counted 0 cs)) (map-append parts_of (take i codes) (code ∷ []))
    ∙ ap (behind front) (counted-append 0 (all_parts (take i codes)) (parts_of code ∷ []))
    ∙ behind-append front (counted 0 (all_parts (take i codes))) (record { parts = parts_of code; item = 0 + length (all_parts (take i codes)) } ∷ [])
    ∙ ap (λ (k : ℕ). behind_front f (take i codes) ++ left_with (along front (parts_of code)) k []) n

-- the values of one code
pub one_values : (o : Option (List ℕ)) (place part : ℕ) (last : Bool) → next_part o ≡ Some (part, last) → values_of (parts_in (left_with o place [])) ≡ part + 1
one_values None place part last e = absurd cc
one_values (Some []) place part last e = absurd cc
one_values (Some (x ∷ [])) place part last e = let is : x ≡ part = ap (λ (p : ℕ × Bool). p.0) (some_is (x, true) (part, last) e) in omega (arith, is)
one_values (Some (x ∷ y ∷ ys)) place part last e = let is : x ≡ part = ap (λ (p : ℕ × Bool). p.0) (some_is (x, false) (part, last) e) in omega (arith, is)

pub no_values : (o : Option (List ℕ)) (place : ℕ) → next_part o ≡ None → values_of (parts_in (left_with o place [])) ≡ 0
no_values None place e = refl
no_values (Some []) place e = refl
no_values (Some (x ∷ [])) place e = absurd cc
no_values (Some (x ∷ y ∷ ys)) place e = absurd cc

pub values_here : (f : Front) (codes : List Code) (i : ℕ) (d : Code) (part : ℕ) (last : Bool) → i < length codes → next_part (along (front_parts f) (parts_of (get_or codes i d))) ≡ Some (part, last) →
    values_of (parts_in (behind_front f (take (i + 1) codes))) ≡ max (values_of (parts_in (behind_front f (take i codes)))) (part + 1)
values_here f codes i d part last within e =
    let one = left_with (along (front_parts f) (parts_of (get_or codes i d))) i [] in
    ap (λ (cs : List (Coded ℕ)). values_of (parts_in cs)) (front_more f codes i d within)
    ∙ ap values_of (map-append (λ (c : Coded ℕ). c.parts) (behind_front f (take i codes)) one)
    ∙ values-append (parts_in (behind_front f (take i codes))) (parts_in one)
    ∙ ap (max (values_of (parts_in (behind_front f (take i codes))))) (one_values (along (front_parts f) (parts_of (get_or codes i d))) i part last e)

pub values_past : (f : Front) (codes : List Code) (i : ℕ) (d : Code) → i < length codes → next_part (along (front_parts f) (parts_of (get_or codes i d))) ≡ None →
    values_of (parts_in (behind_front f (take (i + 1) codes))) ≡ values_of (parts_in (behind_front f (take i codes)))
values_past f codes i d within e =
    let one = left_with (along (front_parts f) (parts_of (get_or codes i d))) i [] in
    let nothing : values_of (parts_in one) ≡ 0 = no_values (along (front_parts f) (parts_of (get_or codes i d))) i e in
    ap (λ (cs : List (Coded ℕ)). values_of (parts_in cs)) (front_more f codes i d within)
    ∙ ap values_of (map-append (λ (c : Coded ℕ). c.parts) (behind_front f (take i codes)) one)
    ∙ values-append (parts_in (behind_front f (take i codes))) (parts_in one)
    ∙ omega (arith, nothing)

-- the first codes have no more values than all
pub values_rest : (f : Front) (codes : List Code) (i : ℕ) → values_of (parts_in (behind_front f (take i codes))) ≤ values_of (parts_in (behind_front f codes))
values_rest f codes i =
    let front = front_parts f in
    let xs = all_parts (take i codes) in
    let ys = all_parts (drop i codes) in
    let rest = behind front (counted (0 + length xs) ys) in
    let all : behind_front f codes ≡ behind_front f (take i codes) ++ rest
    = ap (λ (cs : List Code). behind_front f cs) (sym (take-append-drop i codes))
    ∙ ap (λ (cs : List (List ℕ)). behind front (counted 0 cs)) (map-append parts_of (take i codes) (drop i codes))
    ∙ ap (behind front) (counted-append 0 xs ys)
    ∙ behind-append front (counted 0 xs) (counted (0 + length xs) ys) in
    let values : values_of (parts_in (behind_front f codes)) ≡ max (values_of (parts_in (behind_front f (take i codes)))) (values_of (parts_in rest))
    = ap (λ (cs : List (Coded ℕ)). values_of (parts_in cs)) all
    ∙ ap values_of (map-append (λ (c : Coded ℕ). c.parts) (behind_front f (take i codes)) rest)
    ∙ values-append (parts_in (behind_front f (take i codes))) (parts_in rest) in
    omega (arith, values)

-- ---- where codes end
ends_not : (o : Option (List ℕ)) (j place : ℕ) → ((part : ℕ) → next_part o ≡ Some (part, true) → ⊥) → ended (behind (j ∷ []) (left_with o place [])) ≡ None
ends_not None j place not = refl
ends_not (Some []) j place not = refl
ends_not (Some (x ∷ [])) j place not = absurd (not x refl)
ends_not (Some (x ∷ y ∷ ys)) j place not = elim (cases_Bool (eqb j x)) [
  | inl yes_is ↦ rw yes_is refl
  | inr no_is ↦ rw no_is refl
]

ends_is : (o : Option (List ℕ)) (part : ℕ) → next_part o ≡ Some (part, true) → o ≡ Some (part ∷ [])
ends_is None part e = absurd cc
ends_is (Some []) part e = absurd cc
ends_is (Some (x ∷ [])) part e = ap (λ (p : ℕ × Bool). Some (p.0 ∷ [])) (some_is (x, true) (part, true) e)
ends_is (Some (x ∷ y ∷ ys)) part e = absurd (by (ap (λ (p : ℕ × Bool). p.1) (some_is (x, false) (part, true) e))) where
  by : false ≡ true → ⊥
  by h = cc

ended_more : (f : Front) (codes : List Code) (i j : ℕ) (d : Code) → i < length codes →
    ended (behind (j ∷ []) (behind_front f (take (i + 1) codes))) ≡ later (ended (behind (j ∷ []) (behind_front f (take i codes)))) (ended (behind (j ∷ []) (left_with (along (front_parts f) (parts_of (get_or codes i d))) i [])))
ended_more f codes i j d within =
    let one = left_with (along (front_parts f) (parts_of (get_or codes i d))) i [] in
    ap (λ (cs : List (Coded ℕ)). ended (behind (j ∷ []) cs)) (front_more f codes i d within)
    ∙ ap ended (behind-append (j ∷ []) (behind_front f (take i codes)) one)
    ∙ ended-append (behind (j ∷ []) (behind_front f (take i codes))) (behind (j ∷ []) one)

pub ends_past : (f : Front) (codes : List Code) (i : ℕ) (d : Code) (cells : List Cell) (begin count : ℕ) → i < length codes → ((part : ℕ) → next_part (along (front_parts f) (parts_of (get_or codes i d))) ≡ Some (part, true) → ⊥) →
    TellsEnds cells begin count (behind_front f (take i codes)) → TellsEnds cells begin count (behind_front f (take (i + 1) codes))
ends_past f codes i d cells begin count within not tells j less =
    tells j less ∙ sym (ended_more f codes i j d within ∙ ap (later (ended (behind (j ∷ []) (behind_front f (take i codes))))) (ends_not (along (front_parts f) (parts_of (get_or codes i d))) j i not))

pub ends_here : (f : Front) (codes : List Code) (i : ℕ) (d : Code) (cells new : List Cell) (begin count part : ℕ) → i < length codes → next_part (along (front_parts f) (parts_of (get_or codes i d))) ≡ Some (part, true) →
    new ≡ set cells (begin + part) (cell.Leaf i) → begin + count ≤ length cells → TellsEnds cells begin count (behind_front f (take i codes)) → TellsEnds new begin count (behind_front f (take (i + 1) codes))
ends_here f codes i d cells new begin count part within here is room tells j less =
    let o = along (front_parts f) (parts_of (get_or codes i d)) in
    let so : o ≡ Some (part ∷ []) = ends_is o part here in
    let old = ended (behind (j ∷ []) (behind_front f (take i codes))) in
    let more : ended (behind (j ∷ []) (behind_front f (take (i + 1) codes))) ≡ later old (ended (behind (j ∷ []) (left_with (Some (part ∷ [])) i []))) =
    ended_more f codes i j d within ∙ ap (λ (o : Option (List ℕ)). later old (ended (behind (j ∷ []) (left_with o i [])))) so in
    elim (cases_Bool (eqb j part)) [
      | inl yes_is ↦
          let at : begin + j ≡ begin + part = ap (λ (k : ℕ). begin + k) (eqb-true j part yes_is) in
          let fits : begin + part < length cells = omega (arith, at, less, room) in
          let cell_is : cell_at new (begin + j) ≡ cell.Leaf i = ap (λ (cs : List Cell). cell_at cs (begin + j)) is ∙ ap (cell_at (set cells (begin + part) (cell.Leaf i))) at ∙ get_or-set_same cells (begin + part) (cell.Leaf i) (cell.Leaf 0) fits in
          ap leaf_of cell_is ∙ sym (more ∙ rw yes_is refl)
      | inr no_is ↦
          let other : begin + j ≢ begin + part = λ e. eqb-false j part no_is (omega (arith, e)) in
          let cell_is : cell_at new (begin + j) ≡ cell_at cells (begin + j) = ap (λ (cs : List Cell). cell_at cs (begin + j)) is ∙ get_or-set_other cells (begin + part) (begin + j) (cell.Leaf i) (cell.Leaf 0) other in
          ap leaf_of cell_is ∙ tells j less ∙ sym (more ∙ rw no_is refl)
    ]

pub no_end : (o : Option (List ℕ)) (part : ℕ) (last : Bool) → next_part o ≡ Some (part, last) → last ≡ false → (other : ℕ) → next_part o ≡ Some (other, true) → ⊥
no_end o part last e f other g = let is : true ≡ last = ap (λ (p : ℕ × Bool). p.1) (some_is (other, true) (part, last) (sym g ∙ e)) in absurd cc

pub none_ends : (o : Option (List ℕ)) → next_part o ≡ None → (other : ℕ) → next_part o ≡ Some (other, true) → ⊥
none_ends o e other g = absurd cc

-- ---- cells
-- what stands goes on standing where the cells from its lower bound on stay
pub stands_kept : (old new : List Cell) (low more : ℕ) (c : Cell) (cs : List (Coded ℕ)) → length old ≤ length new → ((i : ℕ) → low ≤ i → i < length old → cell_at new i ≡ cell_at old i) → CellStands old low more c cs → CellStands new low more c cs
stands_kept old new low zero (cell.Leaf place) cs len same s = s
stands_kept old new low zero (cell.Branch row) cs len same s = absurd s
stands_kept old new low (suc more) (cell.Leaf place) cs len same s = s
stands_kept old new low (suc more) (cell.Branch row) cs len same s = (
  s.0,
  s.1,
  s.2,
  omega (arith, s.3, len),
  λ part less. subst (λ (c : Cell). CellStands new low more c (behind (part ∷ []) cs)) (sym (same (row.begin + part) (omega (arith, s.2)) (omega (arith, s.3, less))))
      (stands_kept old new low more (cell_at old (row.begin + part)) (behind (part ∷ []) cs) len same (s.4 part less)),
)

-- with a smaller lower bound
pub stands_lower : (cells : List Cell) (low less more : ℕ) (c : Cell) (cs : List (Coded ℕ)) → less ≤ low → CellStands cells low more c cs → CellStands cells less more c cs
stands_lower cells low less zero (cell.Leaf place) cs le s = s
stands_lower cells low less zero (cell.Branch row) cs le s = absurd s
stands_lower cells low less (suc more) (cell.Leaf place) cs le s = s
stands_lower cells low less (suc more) (cell.Branch row) cs le s = (s.0, s.1, omega (arith, le, s.2), s.3, λ part within. stands_lower cells low less more (cell_at cells (row.begin + part)) (behind (part ∷ []) cs) le (s.4 part within))

-- ---- trees
pub tree_leaf : (more : ℕ) (cs : List (Coded ℕ)) (place : ℕ) → IsTree more cs → Some place ≡ ended cs → cs ≡ record { parts = []; item = place } ∷ []
tree_leaf zero cs place t e = t.1 ∙ ap (λ (k : ℕ). record { parts = []; item = k } ∷ []) (sym (some_is place t.0 (e ∙ ap ended t.1)))
tree_leaf (suc more) cs place (inl t) e = t.1 ∙ ap (λ (k : ℕ). record { parts = []; item = k } ∷ []) (sym (some_is place t.0 (e ∙ ap ended t.1)))
tree_leaf (suc more) cs place (inr t) e = let wrong : Some place ≡ None = e ∙ t.0 in absurd cc

pub tree_branch : (more : ℕ) (cs : List (Coded ℕ)) → IsTree more cs → None ≡ ended cs → Branches more cs
tree_branch zero cs t e = let wrong : None ≡ Some t.0 = e ∙ ap ended t.1 in absurd cc
tree_branch (suc more) cs (inl t) e = let wrong : None ≡ Some t.0 = e ∙ ap ended t.1 in absurd cc
tree_branch (suc more) cs (inr t) e = t

pub branch_tree : (more : ℕ) (cs : List (Coded ℕ)) (part : ℕ) → Branches more cs → part < values_of (parts_in cs) → IsTree (more - 1) (behind (part ∷ []) cs)
branch_tree zero cs part b less = absurd b
branch_tree (suc more) cs part b less = let e : more ≡ suc more - 1 = omega arith in subst (λ (k : ℕ). IsTree k (behind (part ∷ []) cs)) e (b.1 part less)

pub behind_longer : (f longer : Front) (part : ℕ) (codes : List Code) → front_parts longer ≡ front_parts f ++ part ∷ [] → behind_front longer codes ≡ behind (part ∷ []) (behind_front f codes)
behind_longer f longer part codes parts = ap (λ (front : List ℕ). behind front (counted 0 (all_parts codes))) parts ∙ behind_then (front_parts f) part (counted 0 (all_parts codes))

nat_cases : (a b : ℕ) → (a ≡ b) ⊎ (a ≢ b)
nat_cases a b = elim (cases_Bool (eqb a b)) [
  | inl yes_is ↦ inl (eqb-true a b yes_is)
  | inr no_is ↦ inr (eqb-false a b no_is)
]

pub longer_branches : (f longer : Front) (part : ℕ) (codes : List Code) → front_parts longer ≡ front_parts f ++ part ∷ [] → parts_left longer + 1 ≡ parts_left f →
    Branches (parts_left f) (behind_front f codes) → part < values_of (parts_in (behind_front f codes)) → None ≡ ended (behind (part ∷ []) (behind_front f codes)) → Branches (parts_left longer) (behind_front longer codes)
longer_branches f longer part codes parts left b less e =
    let here = behind (part ∷ []) (behind_front f codes) in
    let tree = tree_branch (parts_left f - 1) here (branch_tree (parts_left f) (behind_front f codes) part b less) e in
    let n : parts_left f - 1 ≡ parts_left longer = omega (arith, left) in
    subst (Branches (parts_left longer)) (sym (behind_longer f longer part codes parts)) (subst (λ (k : ℕ). Branches k here) n tree)

-- ---- a row
pub row_leaf : (cells others : List Cell) (row : Branch) (count more place : ℕ) (cs : List (Coded ℕ)) → count < row.count → IsTree (more - 1) (behind (count ∷ []) cs) → cell_at cells (row.begin + count) ≡ cell.Leaf place →
    RowStands cells others row count more cs → RowStands cells others row (count + 1) more cs
row_leaf cells others row count more place cs within tree here r = record {
  kept = r.kept;
  before = r.before;
  stands = λ part less. by part (nat_cases part count) less;
  ends = λ part le less. r.ends part (omega (arith, le)) less;
  few = r.few;
}
  where
    alone : behind (count ∷ []) cs ≡ record { parts = []; item = place } ∷ []
    alone = tree_leaf (more - 1) (behind (count ∷ []) cs) place tree (ap leaf_of (sym here) ∙ r.ends count (omega arith) within)

    leaf : (n : ℕ) → CellStands cells (row.begin + row.count) n (cell.Leaf place) (behind (count ∷ []) cs)
    leaf zero = alone
    leaf (suc n) = alone

    by : (part : ℕ) → (part ≡ count) ⊎ (part ≢ count) → part < count + 1 → CellStands cells (row.begin + row.count) (more - 1) (cell_at cells (row.begin + part)) (behind (part ∷ []) cs)
    by part (inl e) less = subst (λ (k : ℕ). CellStands cells (row.begin + row.count) (more - 1) (cell_at cells (row.begin + k)) (behind (k ∷ []) cs)) (sym e) (subst (λ (c : Cell). CellStands cells (row.begin + row.count) (more - 1) c (behind (count ∷ []) cs)) (sym here) (leaf (more - 1)))
    by part (inr ne) less = r.stands part (omega (arith, ne, less))

pub row_branch : (cells others grown new : List Cell) (row branch : Branch) (count more : ℕ) (cs : List (Coded ℕ)) → count < row.count → row.begin + row.count ≡ length others → Kept cells grown → length grown < 2 ^ 32 →
    CellStands grown (length cells) (more - 1) (cell.Branch branch) (behind (count ∷ []) cs) → new ≡ set grown (row.begin + count) (cell.Branch branch) →
    RowStands cells others row count more cs → RowStands new others row (count + 1) more cs
row_branch cells others grown new row branch count more cs within end kept few stands is r = record {
  kept = omega (arith, r.kept, kept.more, len);
  before = λ place less. other place (omega (arith, less)) (omega (arith, less, end, r.kept)) ∙ r.before place less;
  stands = λ part less. by part (nat_cases part count) less;
  ends = λ part le less. ap leaf_of (other (row.begin + part) (omega (arith, le)) (omega (arith, less, end, r.kept))) ∙ r.ends part (omega (arith, le)) less;
  few = omega (arith, few, len);
}
  where
    len : length new ≡ length grown
    len = ap length is ∙ length-set grown (row.begin + count) (cell.Branch branch)

    set_other : (place : ℕ) → place ≢ row.begin + count → cell_at new place ≡ cell_at grown place
    set_other place ne = ap (λ (cs : List Cell). cell_at cs place) is ∙ get_or-set_other grown (row.begin + count) place (cell.Branch branch) (cell.Leaf 0) ne

    other : (place : ℕ) → place ≢ row.begin + count → place < length cells → cell_at new place ≡ cell_at cells place
    other place ne less = set_other place ne ∙ kept.same place less

    here : cell_at new (row.begin + count) ≡ cell.Branch branch
    here = ap (λ (cs : List Cell). cell_at cs (row.begin + count)) is ∙ get_or-set_same grown (row.begin + count) (cell.Branch branch) (cell.Leaf 0) (omega (arith, within, end, r.kept, kept.more))

    low : row.begin + row.count ≤ length cells
    low = omega (arith, end, r.kept)

    by : (part : ℕ) → (part ≡ count) ⊎ (part ≢ count) → part < count + 1 → CellStands new (row.begin + row.count) (more - 1) (cell_at new (row.begin + part)) (behind (part ∷ []) cs)
    by part (inl e) less = subst (λ (k : ℕ). CellStands new (row.begin + row.count) (more - 1) (cell_at new (row.begin + k)) (behind (k ∷ []) cs)) (sym e)
        (subst (λ (c : Cell). CellStands new (row.begin + row.count) (more - 1) c (behind (count ∷ []) cs)) (sym here)
        (stands_lower new (length cells) (row.begin + row.count) (more - 1) (cell.Branch branch) (behind (count ∷ []) cs) low
        (stands_kept grown new (length cells) (more - 1) (cell.Branch branch) (behind (count ∷ []) cs) (omega (arith, len)) (λ i le less. set_other i (omega (arith, le, low, within))) stands)))
    by part (inr ne) less =
        let before : part < count = omega (arith, ne, less) in
        subst (λ (c : Cell). CellStands new (row.begin + row.count) (more - 1) c (behind (part ∷ []) cs)) (sym (other (row.begin + part) (omega (arith, ne)) (omega (arith, before, within, low))))
        (stands_kept cells new (row.begin + row.count) (more - 1) (cell_at cells (row.begin + part)) (behind (part ∷ []) cs) (omega (arith, kept.more, len)) (λ i le less. other i (omega (arith, le, within)) less) (r.stands part before))

-- the row stands for the codes once each of its cells does
pub row_stands : (cells others : List Cell) (row : Branch) (count more low : ℕ) (cs : List (Coded ℕ)) → Branches more cs → row.begin ≡ low → row.count ≡ values_of (parts_in cs) → row.begin + row.count ≡ length others → row.count ≤ count →
    RowStands cells others row count more cs → CellStands cells low more (cell.Branch row) cs
row_stands cells others row count zero low cs b begin values end all r = absurd b
row_stands cells others row count (suc more) low cs b begin values end all r =
    let n : suc more - 1 ≡ more = omega arith in (
      b.0,
      sym values,
      omega (arith, begin),
      omega (arith, end, r.kept),
      λ part less. stands_lower cells (row.begin + row.count) low more (cell_at cells (row.begin + part)) (behind (part ∷ []) cs) (omega (arith, begin))
          (subst (λ (k : ℕ). CellStands cells (row.begin + row.count) k (cell_at cells (row.begin + part)) (behind (part ∷ []) cs)) n (r.stands part (omega (arith, less, all)))),
    )

-- behind the last part that there can be a code has ended
pub never_last : (more : ℕ) (cs : List (Coded ℕ)) → more ≡ 1 → IsTree (more - 1) cs → None ≡ ended cs → ⊥
never_last more cs one t e =
    let n : more - 1 ≡ 0 = omega (arith, one) in
    tree_branch 0 cs (subst (λ (k : ℕ). IsTree k cs) n t) e
