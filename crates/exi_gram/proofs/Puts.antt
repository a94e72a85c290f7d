-- A code is written cell by cell.
use Rattle.std.proofs.Common.{◌≡◌, ◌≢◌, ℕ, zero, suc, ◌+◌, ◌-◌, ◌<◌, ◌≤◌, max, Bool, eqb, List, [], ◌∷◌, ◌++◌, drop, get_or, length, slice_get, Option, Some, None, ◌⊎◌, inl, inr, refl, sym, ap, ◌∙◌, subst, append_assoc, eq-eqb, arith}
use Rattle.std.proofs.lemmas.Bool.{cases_Bool}
use Rattle.std.proofs.lemmas.List.{append-nil, drop_all}
use Rattle.exi_bits.specs.declared.align.Align.{Align}
use Rattle.exi_bits.specs.Bits.{number}
use Rattle.exi_bits.specs.Widths.{width_for}
use Rattle.exi_items.specs.Fronts.{HoldsFront}
use Rattle.exi_gram.specs.declared.cell.Branch.{Branch}
use Rattle.exi_gram.specs.declared.cell.Cell.{Cell}
use Rattle.exi_gram.specs.declared.cell.Cell.TheVariants as cell
use Rattle.exi_gram.specs.declared.code.Code.{Code}
use Rattle.exi_gram.specs.declared.code.Code.TheVariants as code
use Rattle.exi_gram.specs.Tables.{parts_of}
use Rattle.exi_gram.specs.Codes.{Coded, code_bits, going_on, values_of}
use Rattle.exi_gram.specs.CodeTrees.{behind, counted, ended, parts_in, told_by}
use Rattle.exi_gram.specs.Cells.{CellStands, Writing, all_parts, cell_at}
use Rattle.exi_gram.proofs.CodeLists.{some_is}
use Rattle.exi_gram.proofs.CodeSets.{parts_behind, parts_counted}
use Rattle.exi_gram.proofs.Walks.{stands_leaf}

-- ---- the bits
bits_none : (a : Align) (cs : List (List ℕ)) (parts : List ℕ) → parts ≡ [] → code_bits a cs parts ≡ []
unfolding code_bits
bits_none a cs parts e = rw e refl

bits_more : (a : Align) (cs : List (List ℕ)) (part : ℕ) (parts : List ℕ) → code_bits a cs (part ∷ parts) ≡ number (width_for (values_of cs)) a part ++ code_bits a (going_on part cs) parts
unfolding code_bits
bits_more a cs part parts = refl

-- ---- where a code stands among those that go on
counted_at : (place : ℕ) (codes : List (List ℕ)) (i : ℕ) → i < length codes → slice_get (counted place codes) i ≡ Some (record { parts = get_or codes i []; item = place + i })
counted_at place [] i less = absurd (omega (arith, less))
counted_at place (c ∷ cs) zero less = let e : place ≡ place + 0 = omega arith in ap (λ (k : ℕ). Some (record { parts = c; item = k })) e
counted_at place (c ∷ cs) (suc i) less = let e : suc place + i ≡ place + suc i = omega arith in counted_at (suc place) cs i (omega (arith, less)) ∙ ap (λ (k : ℕ). Some (record { parts = get_or cs i []; item = k })) e

-- one that goes on with a part
pub record OneOf (cs : List (Coded ℕ)) (c : Coded ℕ) : Type 0 where
  pub index : ℕ
  pub there : slice_get cs index ≡ Some c

stays_among : (cs : List (Coded ℕ)) (i part : ℕ) (parts : List ℕ) (place : ℕ) → slice_get cs i ≡ Some (record { parts = part ∷ parts; item = place }) → OneOf (behind (part ∷ []) cs) (record { parts = parts; item = place })
stays_among [] i part parts place e = absurd cc
stays_among (c ∷ cs) zero part parts place e = record { index = 0; there = ap (λ (d : Coded ℕ). slice_get (behind (part ∷ []) (d ∷ cs)) 0) (some_is c (record { parts = part ∷ parts; item = place }) e) ∙ rw (eq-eqb part part refl) refl }
stays_among (c ∷ cs) (suc i) part parts place e = by c.parts (stays_among cs i part parts place e)
  where
    by : (front : List ℕ) → OneOf (behind (part ∷ []) cs) (record { parts = parts; item = place }) → OneOf (behind (part ∷ []) (record { parts = front; item = c.item } ∷ cs)) (record { parts = parts; item = place })
    by [] one = one
    by (x ∷ xs) one = elim (cases_Bool (eqb part x)) [
      | inl yes_is ↦ record { index = suc one.index; there = rw yes_is one.there }
      | inr no_is ↦ record { index = one.index; there = rw no_is one.there }
    ]

below_values : (cs : List (Coded ℕ)) (i part : ℕ) (parts : List ℕ) (place : ℕ) → slice_get cs i ≡ Some (record { parts = part ∷ parts; item = place }) → part < values_of (parts_in cs)
below_values [] i part parts place e = absurd cc
below_values (c ∷ cs) zero part parts place e =
    let v : values_of (parts_in (c ∷ cs)) ≡ max (part + 1) (values_of (parts_in cs)) = ap (λ (d : Coded ℕ). values_of (parts_in (d ∷ cs))) (some_is c (record { parts = part ∷ parts; item = place }) e) in
    omega (arith, v)
below_values (c ∷ cs) (suc i) part parts place e = omega (arith, below_values cs i part parts place e)

-- where one has ended, something is told
ended_some : (cs : List (Coded ℕ)) (i place : ℕ) → slice_get cs i ≡ Some (record { parts = []; item = place }) → ended cs ≢ None
ended_some [] i place e n = absurd cc
ended_some (c ∷ cs) zero place e n = by (ended cs) (ap (λ (d : Coded ℕ). told_by d.parts d.item (ended cs)) (sym (some_is c (record { parts = []; item = place }) e)) ∙ n)
  where
    by : (o : Option ℕ) → told_by [] place o ≡ None → ⊥
    by None f = absurd cc
    by (Some x) f = absurd cc
ended_some (c ∷ cs) (suc i) place e n = by (ended cs) (ended_some cs i place e) n
  where
    by : (o : Option ℕ) → o ≢ None → told_by c.parts c.item o ≡ None → ⊥
    by None ne f = ne refl
    by (Some x) ne f = absurd cc

abbrev first_parts : List (Coded ℕ) → List ℕ
first_parts [] = []
first_parts (c ∷ cs) = c.parts

abbrev rest_of : List (Coded ℕ) → List (Coded ℕ)
rest_of [] = []
rest_of (c ∷ cs) = cs

alone_at : (i place other : ℕ) (parts : List ℕ) (alone : List (Coded ℕ)) → alone ≡ record { parts = []; item = other } ∷ [] → slice_get alone i ≡ Some (record { parts = parts; item = place }) → parts ≡ []
alone_at i place other parts [] is f = absurd cc
alone_at zero place other parts (c ∷ cs) is f = sym (ap (λ (d : Coded ℕ). d.parts) (some_is c (record { parts = parts; item = place }) f)) ∙ ap (λ (ds : List (Coded ℕ)). first_parts ds) is
alone_at (suc i) place other parts (c ∷ cs) is f = by cs (ap rest_of is) f
  where
    by : (cs : List (Coded ℕ)) → cs ≡ [] → slice_get cs i ≡ Some (record { parts = parts; item = place }) → parts ≡ []
    by [] e g = absurd cc
    by (d ∷ ds) e g = absurd cc

alone_ended : (cs : List (Coded ℕ)) (i place other : ℕ) (parts : List ℕ) → cs ≡ record { parts = []; item = other } ∷ [] → slice_get cs i ≡ Some (record { parts = parts; item = place }) → parts ≡ []
alone_ended cs i place other parts is e =
    alone_at i place other parts cs is e

-- ---- the parts of a code
drop_some : (count part : ℕ) (parts : List ℕ) → slice_get parts count ≡ Some part → drop count parts ≡ part ∷ drop (count + 1) parts
drop_some zero part [] e = absurd cc
drop_some zero part (x ∷ xs) e = ap (λ (k : ℕ). k ∷ xs) (some_is x part e)
drop_some (suc count) part [] e = absurd cc
drop_some (suc count) part (x ∷ xs) e = let n : suc (count + 1) ≡ suc count + 1 = omega arith in drop_some count part xs e ∙ ap (λ (k : ℕ). part ∷ drop k (x ∷ xs)) n

drop_none : (count : ℕ) (parts : List ℕ) → slice_get parts count ≡ None → drop count parts ≡ []
drop_none zero [] e = refl
drop_none zero (x ∷ xs) e = absurd cc
drop_none (suc count) [] e = refl
drop_none (suc count) (x ∷ xs) e = drop_none count xs e

drop_past : (count : ℕ) (parts : List ℕ) → drop count parts ≡ [] → drop (count + 1) parts ≡ []
drop_past zero [] e = drop_all (0 + 1) [] (omega arith)
drop_past zero (x ∷ xs) e = absurd cc
drop_past (suc count) [] e = drop_all (suc count + 1) [] (omega arith)
drop_past (suc count) (x ∷ xs) e = let n : suc count + 1 ≡ suc (count + 1) = omega arith in ap (λ (k : ℕ). drop k (x ∷ xs)) n ∙ drop_past count xs e

drop_few : (count : ℕ) (parts : List ℕ) → length parts ≤ count → drop count parts ≡ []
drop_few zero [] le = refl
drop_few zero (x ∷ xs) le = absurd (omega (arith, le))
drop_few (suc count) [] le = refl
drop_few (suc count) (x ∷ xs) le = drop_few count xs (omega (arith, le))

-- ---- writing
pub write_starts : (a : Align) (cells : List Cell) (codes : List (List ℕ)) (branch : Branch) (place : ℕ) (bits : List Bool) → CellStands cells 0 3 (cell.Branch branch) (counted 0 codes) → place < length codes → Writing a cells codes (get_or codes place []) branch 0 bits bits
write_starts a cells codes branch place bits h less = record {
  left = counted 0 codes;
  at = cell.Branch branch;
  stands = h;
  goes_on = inl refl;
  place = 0 + place;
  index = place;
  among = counted_at 0 codes place less;
  written = [];
  so_far = sym (append-nil bits);
  whole = ap (λ (cs : List (List ℕ)). code_bits a cs (get_or codes place [])) (sym (parts_counted 0 codes));
}

-- the branch goes on where the code does
row_of : (a : Align) (cells : List Cell) (codes : List (List ℕ)) (parts : List ℕ) (branch : Branch) (count part : ℕ) (before now : List Bool) (w : Writing a cells codes parts branch count before now) → count < 3 → slice_get parts count ≡ Some part → CellStands cells 0 (suc (3 - (count + 1))) (cell.Branch branch) w.left
row_of a cells codes parts branch count part before now w less e =
    let n : 3 - count ≡ suc (3 - (count + 1)) = omega (arith, less) in
    subst (λ (k : ℕ). CellStands cells 0 k (cell.Branch branch) w.left) n (by w.goes_on)
  where
    by : (w.at ≡ cell.Branch branch) ⊎ (drop count parts ≡ []) → CellStands cells 0 (3 - count) (cell.Branch branch) w.left
    by (inl is) = subst (λ (c : Cell). CellStands cells 0 (3 - count) c w.left) is w.stands
    by (inr none) = let wrong : part ∷ drop (count + 1) parts ≡ [] = sym (drop_some count part parts e) ∙ none in absurd cc

among_more : (a : Align) (cells : List Cell) (codes : List (List ℕ)) (parts : List ℕ) (branch : Branch) (count part : ℕ) (before now : List Bool) (w : Writing a cells codes parts branch count before now) → slice_get parts count ≡ Some part → slice_get w.left w.index ≡ Some (record { parts = part ∷ drop (count + 1) parts; item = w.place })
among_more a cells codes parts branch count part before now w e = w.among ∙ ap (λ (ps : List ℕ). Some (record { parts = ps; item = w.place })) (drop_some count part parts e)

pub write_below : (a : Align) (cells : List Cell) (codes : List (List ℕ)) (parts : List ℕ) (branch : Branch) (count part : ℕ) (before now : List Bool) → Writing a cells codes parts branch count before now → count < 3 → slice_get parts count ≡ Some part → part < branch.count
write_below a cells codes parts branch count part before now w less e =
    let s = row_of a cells codes parts branch count part before now w less e in
    omega (arith, s.1, below_values w.left w.index part (drop (count + 1) parts) w.place (among_more a cells codes parts branch count part before now w e))

pub write_within : (a : Align) (cells : List Cell) (codes : List (List ℕ)) (parts : List ℕ) (branch : Branch) (count part : ℕ) (before now : List Bool) → Writing a cells codes parts branch count before now → count < 3 → slice_get parts count ≡ Some part → branch.begin + part < length cells
write_within a cells codes parts branch count part before now w less e =
    let s = row_of a cells codes parts branch count part before now w less e in
    omega (arith, s.3, write_below a cells codes parts branch count part before now w less e)

-- one part more: where the code ends the branch stays
pub write_next : (a : Align) (cells : List Cell) (codes : List (List ℕ)) (parts : List ℕ) (branch next : Branch) (count part : ℕ) (before now new : List Bool) → Writing a cells codes parts branch count before now → count < 3 → slice_get parts count ≡ Some part → new ≡ now ++ number (width_for branch.count) a part →
    (cell_at cells (branch.begin + part) ≡ cell.Branch next) ⊎ ((place : ℕ) × (cell_at cells (branch.begin + part) ≡ cell.Leaf place)) → Writing a cells codes parts next (count + 1) before new
write_next a cells codes parts branch next count part before now new w less e put found = record {
  left = behind (part ∷ []) w.left;
  at = cell_at cells (branch.begin + part);
  stands = stands;
  goes_on = by found;
  place = w.place;
  index = one.index;
  among = one.there;
  written = w.written ++ number (width_for branch.count) a part;
  so_far = put ∙ ap (λ (bits : List Bool). bits ++ number (width_for branch.count) a part) w.so_far ∙ append_assoc before w.written (number (width_for branch.count) a part);
  whole = whole;
}
  where
    s : CellStands cells 0 (suc (3 - (count + 1))) (cell.Branch branch) w.left
    s = row_of a cells codes parts branch count part before now w less e

    among : slice_get w.left w.index ≡ Some (record { parts = part ∷ drop (count + 1) parts; item = w.place })
    among = among_more a cells codes parts branch count part before now w e

    one : OneOf (behind (part ∷ []) w.left) (record { parts = drop (count + 1) parts; item = w.place })
    one = stays_among w.left w.index part (drop (count + 1) parts) w.place among

    stands : CellStands cells 0 (3 - (count + 1)) (cell_at cells (branch.begin + part)) (behind (part ∷ []) w.left)
    stands = s.4 part (write_below a cells codes parts branch count part before now w less e)

    by : (cell_at cells (branch.begin + part) ≡ cell.Branch next) ⊎ ((place : ℕ) × (cell_at cells (branch.begin + part) ≡ cell.Leaf place)) → (cell_at cells (branch.begin + part) ≡ cell.Branch next) ⊎ (drop (count + 1) parts ≡ [])
    by (inl is) = inl is
    by (inr leaf) = inr (alone_ended (behind (part ∷ []) w.left) one.index w.place leaf.0 (drop (count + 1) parts) (stands_leaf cells 0 (3 - (count + 1)) leaf.0 (behind (part ∷ []) w.left) (subst (λ (c : Cell). CellStands cells 0 (3 - (count + 1)) c (behind (part ∷ []) w.left)) leaf.1 stands)) one.there)

    whole : code_bits a codes parts ≡ (w.written ++ number (width_for branch.count) a part) ++ code_bits a (parts_in (behind (part ∷ []) w.left)) (drop (count + 1) parts)
    whole =
        w.whole
        ∙ ap (λ (ps : List ℕ). w.written ++ code_bits a (parts_in w.left) ps) (drop_some count part parts e)
        ∙ ap (λ (bits : List Bool). w.written ++ bits) (bits_more a (parts_in w.left) part (drop (count + 1) parts))
        ∙ ap (λ (k : ℕ). w.written ++ (number (width_for k) a part ++ code_bits a (going_on part (parts_in w.left)) (drop (count + 1) parts))) s.1
        ∙ ap (λ (cs : List (List ℕ)). w.written ++ (number (width_for branch.count) a part ++ code_bits a cs (drop (count + 1) parts))) (sym (parts_behind part w.left))
        ∙ sym (append_assoc w.written (number (width_for branch.count) a part) (code_bits a (parts_in (behind (part ∷ []) w.left)) (drop (count + 1) parts)))

-- the code has ended already
pub write_over : (a : Align) (cells : List Cell) (codes : List (List ℕ)) (parts : List ℕ) (branch : Branch) (count : ℕ) (before now : List Bool) → Writing a cells codes parts branch count before now → slice_get parts count ≡ None → Writing a cells codes parts branch (count + 1) before now
write_over a cells codes parts branch count before now w e = record {
  left = w.left;
  at = w.at;
  stands = by w.at (3 - count) (3 - (count + 1)) w.stands;
  goes_on = inr more;
  place = w.place;
  index = w.index;
  among = w.among ∙ ap (λ (ps : List ℕ). Some (record { parts = ps; item = w.place })) same;
  written = w.written;
  so_far = w.so_far;
  whole = w.whole ∙ ap (λ (ps : List ℕ). w.written ++ code_bits a (parts_in w.left) ps) same;
}
  where
    none : drop count parts ≡ []
    none = drop_none count parts e

    more : drop (count + 1) parts ≡ []
    more = drop_past count parts none

    same : drop count parts ≡ drop (count + 1) parts
    same = none ∙ sym more

    told : slice_get w.left w.index ≡ Some (record { parts = []; item = w.place })
    told = w.among ∙ ap (λ (ps : List ℕ). Some (record { parts = ps; item = w.place })) none

    by : (c : Cell) (n m : ℕ) → CellStands cells 0 n c w.left → CellStands cells 0 m c w.left
    by (cell.Leaf place) zero zero h = h
    by (cell.Leaf place) zero (suc m) h = h
    by (cell.Leaf place) (suc n) zero h = h
    by (cell.Leaf place) (suc n) (suc m) h = h
    by (cell.Branch branch) zero m h = absurd h
    by (cell.Branch branch) (suc n) m h = absurd (ended_some w.left w.index w.place told h.0)

pub write_done : (a : Align) (cells : List Cell) (codes : List (List ℕ)) (parts : List ℕ) (branch : Branch) (count : ℕ) (before now : List Bool) → Writing a cells codes parts branch count before now → length parts ≤ count → now ≡ before ++ code_bits a codes parts
write_done a cells codes parts branch count before now w few =
    w.so_far ∙ ap (λ (bits : List Bool). before ++ bits) (sym (w.whole ∙ ap (λ (bits : List Bool). w.written ++ bits) (bits_none a (parts_in w.left) (drop count parts) (drop_few count parts few)) ∙ append-nil w.written))

pub write_front : (a : Align) (cells : List Cell) (codes : List (List ℕ)) (parts : List ℕ) (branch : Branch) (count : ℕ) (before now new : List Bool) → Writing a cells codes parts branch count before now → new ≡ now → HoldsFront before (code_bits a codes parts) new
write_front a cells codes parts branch count before now new w same = record {
  front = w.written;
  behind = code_bits a (parts_in w.left) (drop count parts);
  parts = w.whole;
  held = same ∙ w.so_far;
}

-- ---- a code and its place
pub code_at_place : (codes : List Code) (place : ℕ) (c : Code) → place < length codes → c ≡ get_or codes place c → parts_of c ≡ get_or (all_parts codes) place []
code_at_place [] place c less e = absurd (omega (arith, less))
code_at_place (d ∷ ds) zero c less e = ap parts_of e
code_at_place (d ∷ ds) (suc place) c less e = code_at_place ds place c (omega (arith, less)) e

pub few_parts : (c : Code) → length (parts_of c) ≤ 3
few_parts (code.One first) = omega arith
few_parts (code.Two first second) = omega arith
few_parts (code.Three first second third) = omega arith
