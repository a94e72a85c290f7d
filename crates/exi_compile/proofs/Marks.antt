-- What is marked on the way up from each type of a name has a named sub-type, since no type reaches itself by its bases.
use Rattle.std.proofs.Common.{◌≡◌, ◌⊎◌, inl, inr, ℕ, zero, suc, ◌+◌, ◌<◌, ◌≤◌, ◌==◌, Bool, true, false, ◌&&◌, ◌||◌, if◌then◌else◌, Option, Some, None, List, [], ◌∷◌, ◌++◌, drop, get_or, length, set, replicate, take, refl, sym, ap, ◌∙◌, subst, arith}
use Rattle.std.specs.List.{list_all, slice_get}
use Rattle.std.specs.Option.{option_to_list}
use Rattle.std.proofs.lemmas.Bool.{and_from, and_parts, cases_eq, cases_lt, eqb-true, eq-eqb, false≢true, or_cases}
use Rattle.std.proofs.lemmas.List.{append-nil, drop_all, get_or-replicate, get_or-set_other, get_or-set_same, get_or_past, length-replicate, length-set, take_all}
use Rattle.xsd_model.specs.declared.parts.TypeDef.{TypeDef}
use Rattle.xsd_model.specs.Parts.{IsBelow, IsSchemaParts, IsType, Parts, all_end, base_in, bases_at}
use Rattle.exi_elements.specs.StandIns.{any_of}
use Rattle.exi_compiled.specs.Compiled.{can_be_cast, derives_within, has_name, is_union, named_sub_type_from, union_at}
use Rattle.exi_compiled.proofs.Lists.{at_place, cases_Option}
use Rattle.exi_compile.specs.Casts.{all_marked, base_of, marked_up, or_unions}
use Rattle.exi_compile.specs.Tables.{Tells}

-- ---- truths
or_none : (b : Bool) → b ≡ (b || false)
or_none true = refl
or_none false = refl

of_first : (b : Bool) → (b || false) ≡ true → b ≡ true
of_first true e = refl
of_first false e = e

-- what is there already adds nothing
or_there : (a b : Bool) → (b ≡ true → a ≡ true) → a ≡ (a || b)
or_there true b h = refl
or_there false true h = h refl
or_there false false h = refl

or_turned : (e m o : Bool) → ((e || m) || o) ≡ (m || ((e || o) || false))
or_turned true true o = refl
or_turned true false o = refl
or_turned false true o = refl
or_turned false false true = refl
or_turned false false false = refl

or_again : (a b c : Bool) → ((a || b) || c) ≡ (a || (b || c))
or_again true b c = refl
or_again false b c = refl

-- ---- marks
at_default : (xs : List Bool) (i : ℕ) (a b : Bool) → i < length xs → get_or xs i a ≡ get_or xs i b
at_default [] i a b less = absurd (omega (arith, less))
at_default (x ∷ xs) zero a b less = refl
at_default (x ∷ xs) (suc i) a b less = at_default xs i a b (omega (arith, less))

marked_here : (marks : List Bool) (u x : ℕ) → u < length marks → u ≡ x → get_or (set marks u true) x false ≡ true
marked_here marks u x less same = subst (λ y. get_or (set marks u true) y false ≡ true) same (get_or-set_same marks u true false less)

marked_is : (marks : List Bool) (u x : ℕ) → u < length marks → get_or (set marks u true) x false ≡ ((u == x) || get_or marks x false)
marked_is marks u x less = by (cases_eq u x)
  where
    by_test : (b : Bool) → (b ≡ true → ⊥) → get_or marks x false ≡ (b || get_or marks x false)
    by_test true h = absurd (h refl)
    by_test false h = refl

    by : (u ≡ x) ⊎ (u ≡ x → ⊥) → get_or (set marks u true) x false ≡ ((u == x) || get_or marks x false)
    by (inl same) = marked_here marks u x less same ∙ ap (λ b. b || get_or marks x false) (sym (eq-eqb u x same))
    by (inr other) = get_or-set_other marks u x true false (λ e. other (sym e)) ∙ by_test (u == x) (λ e. other (eqb-true u x e))

marked_stays : (marks : List Bool) (u x : ℕ) → u < length marks → get_or marks x false ≡ true → get_or (set marks u true) x false ≡ true
marked_stays marks u x less e = marked_is marks u x less ∙ ap (λ b. (u == x) || b) e ∙ by (u == x)
  where
    by : (b : Bool) → (b || true) ≡ true
    by true = refl
    by false = refl

-- ---- bases
any_agree : (f g test : ℕ → Bool) (xs : List ℕ) → ((y : ℕ) → test y ≡ true → f y ≡ g y) → list_all test xs ≡ true → any_of f xs ≡ any_of g xs
any_agree f g test [] e all = refl
any_agree f g test (x ∷ xs) e all =
    let both = and_parts (test x) (list_all test xs) all in
    ap (λ b. b || any_of f xs) (e x both.0) ∙ ap (λ b. g x || b) (any_agree f g test xs e both.1)

bases_are : (p : Parts) (place : ℕ) → bases_at p place ≡ option_to_list (base_of p.types place)
bases_are p place = elim (cases_Option (slice_get p.types place)) [
  | inl e ↦ rw e refl
  | inr w ↦ rw w.1 refl
]

base_below : (p : Parts) → IsSchemaParts p → (o : Option TypeDef) (place : ℕ) → slice_get p.types place ≡ o → list_all (all_end (bases_at p) (length p.types)) (base_in o) ≡ true
base_below p schema None place e = refl
base_below p schema (Some t) place e = by t.base (at_place (IsType p) p.types place t schema.types e).base_is
  where
    by : (o : Option ℕ) → IsBelow (length p.types) o → list_all (all_end (bases_at p) (length p.types)) (option_to_list o) ≡ true
    by None below = refl
    by (Some u) below = and_from (all_end (bases_at p) (length p.types) u) true (schema.bases u below) refl

bases_end : (p : Parts) → IsSchemaParts p → (place : ℕ) → list_all (all_end (bases_at p) (length p.types)) (bases_at p place) ≡ true
bases_end p schema place = base_below p schema (slice_get p.types place) place refl

-- one step more leads no further
derives_more : (p : Parts) (x n place : ℕ) → all_end (bases_at p) n place ≡ true → derives_within n p x place ≡ derives_within (suc n) p x place
derives_more p x zero place e = absurd (false≢true e)
derives_more p x (suc n) place e =
    any_agree (λ u. (u == x) || derives_within n p x u) (λ u. (u == x) || derives_within (suc n) p x u) (all_end (bases_at p) n) (bases_at p place)
    (λ u h. ap (λ b. (u == x) || b) (derives_more p x n u h)) e

-- a type leads to another
abbrev above : Parts → ℕ → ℕ → Bool
above p x place = derives_within (suc (length p.types)) p x place

-- one of these does, or is it
abbrev over : Parts → ℕ → List ℕ → Bool
over p x ups = any_of (λ u. (u == x) || above p x u) ups

above_is : (p : Parts) → IsSchemaParts p → (x place : ℕ) → above p x place ≡ over p x (bases_at p place)
above_is p schema x place =
    any_agree (λ u. (u == x) || derives_within (length p.types) p x u) (λ u. (u == x) || above p x u) (all_end (bases_at p) (length p.types)) (bases_at p place)
    (λ u h. ap (λ b. (u == x) || b) (derives_more p x (length p.types) u h)) (bases_end p schema place)

-- ---- all that a marked one leads to is marked
pub record AreClosed (p : Parts) (marks : List Bool) : Type 0 where
  pub long : length marks ≡ length p.types
  pub closed : (x u : ℕ) → get_or marks x false ≡ true → base_of p.types x ≡ Some u → get_or marks u false ≡ true

closed_on : (p : Parts) (marks : List Bool) (n x u : ℕ) → AreClosed p marks → ((v : ℕ) → get_or marks v false ≡ true → derives_within n p x v ≡ true → get_or marks x false ≡ true) → (o : Option ℕ) → base_of p.types u ≡ o
    → get_or marks u false ≡ true → any_of (λ v. (v == x) || derives_within n p x v) (option_to_list o) ≡ true → get_or marks x false ≡ true
closed_on p marks n x u are on None is e any = absurd (false≢true any)
closed_on p marks n x u are on (Some v) is e any =
    let there = are.closed u v e is in
    elim (or_cases (v == x) (derives_within n p x v) (of_first ((v == x) || derives_within n p x v) any)) [
      | inl same ↦ subst (λ y. get_or marks y false ≡ true) (eqb-true v x same) there
      | inr more ↦ on v there more
    ]

closed_up : (p : Parts) (marks : List Bool) (n x u : ℕ) → AreClosed p marks → get_or marks u false ≡ true → derives_within n p x u ≡ true → get_or marks x false ≡ true
closed_up p marks zero x u are e leads = absurd (false≢true leads)
closed_up p marks (suc n) x u are e leads =
    closed_on p marks n x u are (λ v f g. closed_up p marks n x v are f g) (base_of p.types u) refl e
    (ap (any_of (λ v. (v == x) || derives_within n p x v)) (sym (bases_are p u)) ∙ leads)

-- but for where one goes on from
abbrev ClosedBut : Parts → List Bool → Option ℕ → Type 0
ClosedBut p marks up = (x u : ℕ) → get_or marks x false ≡ true → base_of p.types x ≡ Some u → (get_or marks u false ≡ true) ⊎ (Some u ≡ up)

-- the way up from there ends within so many steps
abbrev Ends : Parts → ℕ → Option ℕ → Type 0
Ends p n None = Unit {0}
Ends p n (Some u) = (u < length p.types) × (all_end (bases_at p) n u ≡ true)

record IsMarked (p : Parts) (up : Option ℕ) (old new : List Bool) : Type 0 where
  pub are : AreClosed p new
  pub each : (x : ℕ) → get_or new x false ≡ (get_or old x false || over p x (option_to_list up))

but_none : (p : Parts) (marks : List Bool) → length marks ≡ length p.types → ClosedBut p marks None → IsMarked p None marks marks
but_none p marks long but = record {
  are = record { long = long; closed = λ x u e is. elim (but x u e is) [ inl there ↦ there | inr never ↦ absurd cc ] };
  each = λ x. or_none (get_or marks x false);
}

-- it is marked, and so all above it is
met : (p : Parts) (marks : List Bool) (u : ℕ) → length marks ≡ length p.types → ClosedBut p marks (Some u) → get_or marks u false ≡ true → IsMarked p (Some u) marks marks
met p marks u long but there =
    let all : AreClosed p marks = record { long = long; closed = λ x v e is. elim (but x v e is) [ inl marked ↦ marked | inr same ↦ let up : v ≡ u = cc in subst (λ y. get_or marks y false ≡ true) (sym up) there ] } in record {
      are = all;
      each = λ x. or_there (get_or marks x false) (over p x (u ∷ [])) (λ h. elim (or_cases (u == x) (above p x u) (of_first ((u == x) || above p x u) h)) [
        | inl same ↦ subst (λ y. get_or marks y false ≡ true) (eqb-true u x same) there
        | inr leads ↦ closed_up p marks (suc (length p.types)) x u all there leads
      ]);
    }

-- it is marked now, and one goes on from its base
go_on : (p : Parts) → IsSchemaParts p → (marks new : List Bool) (u : ℕ) → u < length marks → IsMarked p (base_of p.types u) (set marks u true) new → IsMarked p (Some u) marks new
go_on p schema marks new u less h = record {
  are = h.are;
  each = λ x.
      h.each x
      ∙ ap (λ b. b || over p x (option_to_list (base_of p.types u))) (marked_is marks u x less)
      ∙ ap (λ l. ((u == x) || get_or marks x false) || over p x l) (sym (bases_are p u))
      ∙ ap (λ b. ((u == x) || get_or marks x false) || b) (sym (above_is p schema x u))
      ∙ or_turned (u == x) (get_or marks x false) (above p x u);
}

but_base : (p : Parts) (marks : List Bool) (u : ℕ) → u < length marks → ClosedBut p marks (Some u) → ClosedBut p (set marks u true) (base_of p.types u)
but_base p marks u less but x v e is = elim (cases_eq u x) [
  | inl same ↦ inr (sym is ∙ ap (base_of p.types) (sym same))
  | inr other ↦
      let before : get_or marks x false ≡ true = sym (get_or-set_other marks u x true false (λ q. other (sym q))) ∙ e in
      elim (but x v before is) [
        | inl there ↦ inl (marked_stays marks u v less there)
        | inr now ↦ let up : u ≡ v = cc in inl (marked_here marks u v less up)
      ]
]

ends_on : (p : Parts) → IsSchemaParts p → (n u : ℕ) → all_end (bases_at p) (suc n) u ≡ true → Ends p n (base_of p.types u)
ends_on p schema n u e =
    by (base_of p.types u)
    (ap (list_all (all_end (bases_at p) (length p.types))) (sym (bases_are p u)) ∙ bases_end p schema u)
    (ap (list_all (all_end (bases_at p) n)) (sym (bases_are p u)) ∙ e)
    (of_type (slice_get p.types u) refl)
  where
    of_type : (o : Option TypeDef) → slice_get p.types u ≡ o → IsBelow (length p.types) (base_of p.types u)
    of_type None is = rw is tt
    of_type (Some t) is = rw is (at_place (IsType p) p.types u t schema.types is).base_is

    by : (o : Option ℕ) → list_all (all_end (bases_at p) (length p.types)) (option_to_list o) ≡ true → list_all (all_end (bases_at p) n) (option_to_list o) ≡ true → IsBelow (length p.types) o → Ends p n o
    by None all few below = tt
    by (Some v) all few below = (below, (and_parts (all_end (bases_at p) n v) true few).0)

by_mark : (p : Parts) (n u : ℕ) (marks : List Bool) (b : Bool) → get_or marks u true ≡ b → length marks ≡ length p.types → u < length p.types → ClosedBut p marks (Some u)
    → IsMarked p (Some u) marks (marked_up n p.types (base_of p.types u) (set marks u true))
    → IsMarked p (Some u) marks (if b then marks else marked_up n p.types (base_of p.types u) (set marks u true))
by_mark p n u marks true e long less but on = met p marks u long but (at_default marks u false true (omega (arith, long, less)) ∙ e)
by_mark p n u marks false e long less but on = on

marked_up_is : (p : Parts) → IsSchemaParts p → (n : ℕ) (up : Option ℕ) (marks : List Bool) → length marks ≡ length p.types → ClosedBut p marks up → Ends p n up → IsMarked p up marks (marked_up n p.types up marks)
marked_up_is p schema zero None marks long but ends = but_none p marks long but
marked_up_is p schema zero (Some u) marks long but ends = absurd (false≢true ends.1)
marked_up_is p schema (suc n) None marks long but ends = but_none p marks long but
marked_up_is p schema (suc n) (Some u) marks long but ends =
    let less : u < length marks = let within : u < length p.types = ends.0 in omega (arith, long, within) in
    by_mark p n u marks (get_or marks u true) refl long ends.0 but
    (go_on p schema marks (marked_up n p.types (base_of p.types u) (set marks u true)) u less
    (marked_up_is p schema n (base_of p.types u) (set marks u true) (length-set marks u true ∙ long) (but_base p marks u less but) (ends_on p schema n u ends.1)))

-- ---- for the loop on the way up
stays : (n : ℕ) (types : List TypeDef) (place : ℕ) (marks : List Bool) → get_or marks place true ≡ true → marked_up n types (Some place) marks ≡ marks
stays zero types place marks e = refl
stays (suc n) types place marks e = ap (λ b. if b then marks else marked_up n types (base_of types place) (set marks place true)) e

pub met_mark : (n : ℕ) (types : List TypeDef) (up : Option ℕ) (place : ℕ) (marks all : List Bool) → up ≡ Some place → get_or marks place true ≡ true → marked_up n types up marks ≡ all → marks ≡ all
met_mark n types up place marks all is e so_far = sym (stays n types place marks e) ∙ ap (λ u. marked_up n types u marks) (sym is) ∙ so_far

pub went_up : (n m : ℕ) (types : List TypeDef) (up next : Option ℕ) (place : ℕ) (marks all : List Bool) → n ≡ suc m → up ≡ Some place → next ≡ base_of types place → get_or marks place true ≡ false
    → marked_up n types up marks ≡ all → marked_up m types next (set marks place true) ≡ all
went_up n m types up next place marks all count is next_is e so_far =
    ap (λ u. marked_up m types u (set marks place true)) next_is
    ∙ ap (λ b. if b then marks else marked_up m types (base_of types place) (set marks place true)) (sym e)
    ∙ ap (λ u. marked_up (suc m) types u marks) (sym is)
    ∙ ap (λ k. marked_up k types up marks) (sym count)
    ∙ so_far

pub past_mark : (marks : List Bool) (place : ℕ) → length marks ≤ place → get_or marks place true ≡ true
past_mark marks place le = get_or_past marks place true le

pub seen_mark : (marks : List Bool) (place : ℕ) → get_or marks place false ≡ true → get_or marks place true ≡ true
seen_mark marks place e = elim (cases_lt place (length marks)) [
  | inl less ↦ at_default marks place true false less ∙ e
  | inr le ↦ past_mark marks place le
]

pub no_mark : (marks : List Bool) (place : ℕ) → place < length marks → get_or marks place false ≡ false → get_or marks place true ≡ false
no_mark marks place less e = at_default marks place true false less ∙ e

-- ---- from each type of a name
record IsTold (p : Parts) (old new : List Bool) (more : ℕ → Bool) : Type 0 where
  pub are : AreClosed p new
  pub each : (x : ℕ) → get_or new x false ≡ (get_or old x false || more x)

of_type : (p : Parts) → IsSchemaParts p → (k : ℕ) (t : TypeDef) (marks : List Bool) → slice_get p.types k ≡ Some t → AreClosed p marks → (b : Bool)
    → IsTold p marks (if b then marked_up (length p.types) p.types t.base marks else marks) (λ x. b && above p x k)
of_type p schema k t marks is are false = record { are = are; each = λ x. or_none (get_or marks x false) }
of_type p schema k t marks is are true =
    let m : IsMarked p t.base marks (marked_up (length p.types) p.types t.base marks) =
    marked_up_is p schema (length p.types) t.base marks are.long (λ x u e f. inl (are.closed x u e f)) (ends t.base (at_place (IsType p) p.types k t schema.types is).base_is) in record {
      are = m.are;
      each = λ x. m.each x ∙ ap (λ b. get_or marks x false || b) (ap (λ o. over p x (base_in o)) (sym is) ∙ sym (above_is p schema x k));
    }
  where
    ends : (o : Option ℕ) → IsBelow (length p.types) o → Ends p (length p.types) o
    ends None below = tt
    ends (Some u) below = (below, schema.bases u below)

all_marked_is : (p : Parts) → IsSchemaParts p → (k : ℕ) (ts : List TypeDef) (marks : List Bool) → ((i : ℕ) → i < length ts → slice_get p.types (k + i) ≡ slice_get ts i) → AreClosed p marks
    → IsTold p marks (all_marked (length p.types) p.types ts marks) (λ x. named_sub_type_from p x k ts)
all_marked_is p schema k [] marks same are = record { are = are; each = λ x. or_none (get_or marks x false) }
all_marked_is p schema k (t ∷ ts) marks same are =
    let here : k + 0 ≡ k = omega arith in
    let is : slice_get p.types k ≡ Some t = ap (slice_get p.types) (sym here) ∙ same 0 (omega arith) in
    let now = if has_name t then marked_up (length p.types) p.types t.base marks else marks in
    let first = of_type p schema k t marks is are (has_name t) in
    let rest = all_marked_is p schema (suc k) ts now (λ i less. let next : suc k + i ≡ k + suc i = omega arith in ap (slice_get p.types) next ∙ same (suc i) (omega (arith, less))) first.are in record {
      are = rest.are;
      each = λ x. rest.each x ∙ ap (λ b. b || named_sub_type_from p x (suc k) ts) (first.each x) ∙ or_again (get_or marks x false) (has_name t && above p x k) (named_sub_type_from p x (suc k) ts);
    }

-- ---- from none on
none_marked : (n x : ℕ) → get_or (replicate n false) x false ≡ false
none_marked n x = elim (cases_lt x n) [
  | inl less ↦ get_or-replicate n x false false less
  | inr le ↦ get_or_past (replicate n false) x false (let long : length (replicate n false) ≡ n = length-replicate n false in omega (arith, long, le))
]

none_closed : (p : Parts) → AreClosed p (replicate (length p.types) false)
none_closed p = record { long = length-replicate (length p.types) false; closed = λ x u e is. absurd (false≢true (sym (none_marked (length p.types) x) ∙ e)) }

-- ---- and the unions
unions_long : (ts : List TypeDef) (ms : List Bool) → length ms ≡ length ts → length (or_unions ts ms) ≡ length ts
unions_long [] ms e = e
unions_long (t ∷ ts) [] e = absurd (omega (arith, e))
unions_long (t ∷ ts) (m ∷ ms) e = ap suc (unions_long ts ms (omega (arith, e)))

or_test : (b m : Bool) → (if b then true else m) ≡ (m || b)
or_test true true = refl
or_test true false = refl
or_test false true = refl
or_test false false = refl

unions_each : (ts : List TypeDef) (ms : List Bool) (x : ℕ) (t : TypeDef) → length ms ≡ length ts → slice_get ts x ≡ Some t → get_or (or_unions ts ms) x false ≡ (get_or ms x false || is_union t)
unions_each [] ms x t e is = absurd cc
unions_each (s ∷ ts) [] x t e is = absurd (omega (arith, e))
unions_each (s ∷ ts) (m ∷ ms) zero t e is = or_test (is_union s) m ∙ ap (λ (u : TypeDef). m || is_union u) (let same : s ≡ t = cc in same)
unions_each (s ∷ ts) (m ∷ ms) (suc x) t e is = unions_each ts ms x t (omega (arith, e)) is

-- for the loop: those from a place on
abbrev pub unions_on : ℕ → List TypeDef → List Bool → List Bool
unions_on zero ts ms = or_unions ts ms
unions_on (suc i) [] ms = ms
unions_on (suc i) (t ∷ ts) [] = []
unions_on (suc i) (t ∷ ts) (m ∷ ms) = m ∷ unions_on i ts ms

union_marked : (i : ℕ) (ts : List TypeDef) (ms : List Bool) (t : TypeDef) → length ms ≡ length ts → i < length ts → t ≡ get_or ts i t → is_union t ≡ true → unions_on (suc i) ts (set ms i true) ≡ unions_on i ts ms
union_marked i [] ms t e less is union = absurd (omega (arith, less))
union_marked i (s ∷ ts) [] t e less is union = absurd (omega (arith, e))
union_marked zero (s ∷ ts) (m ∷ ms) t e less is union = ap (λ b. (if b then true else m) ∷ or_unions ts ms) (sym (ap is_union (sym is) ∙ union))
union_marked (suc i) (s ∷ ts) (m ∷ ms) t e less is union = ap (λ l. m ∷ l) (union_marked i ts ms t (omega (arith, e)) (omega (arith, less)) is union)

union_passed : (i : ℕ) (ts : List TypeDef) (ms : List Bool) (t : TypeDef) → length ms ≡ length ts → i < length ts → t ≡ get_or ts i t → is_union t ≡ false → unions_on (suc i) ts ms ≡ unions_on i ts ms
union_passed i [] ms t e less is union = absurd (omega (arith, less))
union_passed i (s ∷ ts) [] t e less is union = absurd (omega (arith, e))
union_passed zero (s ∷ ts) (m ∷ ms) t e less is union = ap (λ b. (if b then true else m) ∷ or_unions ts ms) (sym (ap is_union (sym is) ∙ union))
union_passed (suc i) (s ∷ ts) (m ∷ ms) t e less is union = ap (λ l. m ∷ l) (union_passed i ts ms t (omega (arith, e)) (omega (arith, less)) is union)

pub with_union : (ts : List TypeDef) (ms new all : List Bool) (i : ℕ) (t : TypeDef) → length ms ≡ length ts → i < length ts → t ≡ get_or ts i t → is_union t ≡ true → new ≡ set ms i true → unions_on i ts ms ≡ all → unions_on (i + 1) ts new ≡ all
with_union ts ms new all i t e less is union now so_far =
    let next : i + 1 ≡ suc i = omega arith in
    ap (λ n. unions_on n ts new) next ∙ ap (unions_on (suc i) ts) now ∙ union_marked i ts ms t e less is union ∙ so_far

pub without_union : (ts : List TypeDef) (ms all : List Bool) (i : ℕ) (t : TypeDef) → length ms ≡ length ts → i < length ts → t ≡ get_or ts i t → is_union t ≡ false → unions_on i ts ms ≡ all → unions_on (i + 1) ts ms ≡ all
without_union ts ms all i t e less is union so_far =
    let next : i + 1 ≡ suc i = omega arith in
    ap (λ n. unions_on n ts ms) next ∙ union_passed i ts ms t e less is union ∙ so_far

all_unions : (i : ℕ) (ts : List TypeDef) (ms : List Bool) → length ms ≡ length ts → length ts ≤ i → unions_on i ts ms ≡ ms
all_unions zero [] [] e le = refl
all_unions (suc i) [] ms e le = refl
all_unions zero [] (m ∷ ms) e le = absurd (omega (arith, e))
all_unions zero (t ∷ ts) ms e le = absurd (omega (arith, le))
all_unions (suc i) (t ∷ ts) [] e le = absurd (omega (arith, e))
all_unions (suc i) (t ∷ ts) (m ∷ ms) e le = ap (λ l. m ∷ l) (all_unions i ts ms (omega (arith, e)) (omega (arith, le)))

pub unions_ended : (ts : List TypeDef) (ms all : List Bool) (i : ℕ) → length ms ≡ length ts → length ts ≤ i → unions_on i ts ms ≡ all → ms ≡ all
unions_ended ts ms all i e le so_far = sym (all_unions i ts ms e le) ∙ so_far

union_is : (p : Parts) (x : ℕ) (t : TypeDef) → slice_get p.types x ≡ Some t → union_at p x ≡ is_union t
union_is p x t is = rw is refl

some_there : {X : Type 0} (xs : List X) (i : ℕ) → i < length xs → (x : X) × (slice_get xs i ≡ Some x)
some_there [] i less = absurd (omega (arith, less))
some_there (x ∷ xs) zero less = (x, refl)
some_there (x ∷ xs) (suc i) less = some_there xs i (omega (arith, less))

casts_tell : (p : Parts) → IsSchemaParts p → (casts : List Bool) → casts ≡ or_unions p.types (all_marked (length p.types) p.types p.types (replicate (length p.types) false)) → Tells false (can_be_cast p) (length p.types) casts
casts_tell p schema casts is =
    let none = replicate (length p.types) false in
    let marks = all_marked (length p.types) p.types p.types none in
    let told = all_marked_is p schema 0 p.types none (λ i less. let at : 0 + i ≡ i = omega arith in ap (slice_get p.types) at) (none_closed p) in record {
      long = ap (λ (l : List Bool). length l) is ∙ unions_long p.types marks told.are.long;
      at = λ x less.
          let w = some_there p.types x less in
          ap (λ l. get_or l x false) is
          ∙ unions_each p.types marks x w.0 told.are.long w.1
          ∙ ap (λ b. b || is_union w.0) (told.each x ∙ ap (λ b. b || named_sub_type_from p x 0 p.types) (none_marked (length p.types) x))
          ∙ ap (λ b. named_sub_type_from p x 0 p.types || b) (sym (union_is p x w.0 w.1));
    }

-- what is written to a list as long as it is all of it
written_back : (n : ℕ) (new old : List Bool) → length new ≡ length old → n ≡ length old → take n (new ++ drop (length new) old) ≡ new
written_back n new old same long =
    ap (λ l. take n (new ++ l)) (drop_all (length new) old (omega (arith, same)))
    ∙ ap (take n) (append-nil new)
    ∙ take_all n new (omega (arith, same, long))

pub casts_kept : (p : Parts) → IsSchemaParts p → (ts : List TypeDef) (items lent marked again all : List Bool) (n : ℕ) → ts ≡ p.types → items ≡ replicate (length ts) false → n ≡ length items → lent ≡ items
    → marked ≡ all_marked (length ts) ts ts lent → again ≡ take n (marked ++ drop (length marked) items) → all ≡ or_unions ts again
    → Tells false (can_be_cast p) (length p.types) (take n (all ++ drop (length all) (take n (marked ++ drop (length marked) items))))
casts_kept p schema ts items lent marked again all n types_are none count lent_is marked_is again_is all_is =
    let start : items ≡ replicate (length p.types) false = none ∙ ap (λ (l : List TypeDef). replicate (length l) false) types_are in
    let first : marked ≡ all_marked (length p.types) p.types p.types (replicate (length p.types) false) =
    marked_is ∙ ap (λ (l : List TypeDef). all_marked (length l) l l lent) types_are ∙ ap (all_marked (length p.types) p.types p.types) (lent_is ∙ start) in
    let told = all_marked_is p schema 0 p.types (replicate (length p.types) false) (λ i less. let at : 0 + i ≡ i = omega arith in ap (slice_get p.types) at) (none_closed p) in
    let long_items : length items ≡ length p.types = ap (λ (l : List Bool). length l) start ∙ length-replicate (length p.types) false in
    let long_marked : length marked ≡ length p.types = ap (λ (l : List Bool). length l) first ∙ told.are.long in
    let back : take n (marked ++ drop (length marked) items) ≡ marked = written_back n marked items (omega (arith, long_items, long_marked)) count in
    let last : all ≡ or_unions p.types (all_marked (length p.types) p.types p.types (replicate (length p.types) false)) =
    all_is ∙ ap (λ l. or_unions l again) types_are ∙ ap (or_unions p.types) (again_is ∙ back ∙ first) in
    let long_all : length all ≡ length p.types = ap (λ (l : List Bool). length l) last ∙ unions_long p.types _ told.are.long in
    casts_tell p schema (take n (all ++ drop (length all) (take n (marked ++ drop (length marked) items))))
    (ap (λ l. take n (all ++ drop (length all) l)) back ∙ written_back n all marked (omega (arith, long_all, long_marked)) (omega (arith, count, long_items, long_marked)) ∙ last)
