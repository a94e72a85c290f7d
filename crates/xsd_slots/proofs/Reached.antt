-- How far what each element holds has come, one element after another.
use Rattle.std.proofs.Common.{◌≡◌, ℕ, suc, ◌+◌, ◌<◌, cond, Option, Some, None, inl, inr, List, [], ◌∷◌, ◌++◌, All, get_or, length, refl, sym, ap, ◌∙◌, arith}
use Rattle.std.proofs.lemmas.Bool.{cases_eq, eq-eqb, ne_eqb}
use Rattle.std.proofs.lemmas.List.{get_or-set_other, get_or_append_left, get_or_push, length-append, length-set}
use Rattle.std.proofs.lemmas.Grind.{get_or-set_at}
use Rattle.xsd_tree.specs.Trees.{IsTree}
use Rattle.xsd_tree.specs.declared.node.Node.{Node}
use Rattle.xsd_nodes.specs.Nodes.{is_place, parent_at}
use Rattle.xsd_document.specs.Held.{holds}
use Rattle.xsd_document.proofs.Below.{parent_below}
use Rattle.xsd_slots.specs.Orders.{AreBefore, before_at, come_in, raised, reached_by}
use Rattle.xsd_slots.specs.Slots.{come_to, later, own_in}

pub none_reached : (zeros : List ℕ) (ns : List Node) (p : ℕ) → All (λ n. n ≡ 0) zeros → p < length zeros → get_or zeros p 0 ≡ come_to ns 0 p
none_reached zeros ns p h less = h p 0 less

pub come_more : (ns : List Node) (i p : ℕ) → come_to ns (i + 1) p ≡ cond (holds ns p i) (later (come_to ns i p) (own_in ns p i)) (come_to ns i p)
come_more ns i p = let e : i + 1 ≡ suc i = omega arith in rw e refl

-- ---- one element brings its parent on
pub raised_count : (ns : List Node) (parent : Option ℕ) (i : ℕ) (reached : List ℕ) → length (raised ns parent i reached) ≡ length reached
raised_count ns None i reached = refl
raised_count ns (Some p) i reached = length-set reached p (later (get_or reached p 0) (own_in ns p i))

pub raised_one : (ns : List Node) (parent : Option ℕ) (i : ℕ) (reached : List ℕ) (p : ℕ) → p < length reached → get_or (raised ns parent i reached) p 0 ≡ cond (is_place p parent) (later (get_or reached p 0) (own_in ns p i)) (get_or reached p 0)
raised_one ns None i reached p less = refl
raised_one ns (Some q) i reached p less =
    let brought : ℕ → ℕ = λ k. later (get_or reached k 0) (own_in ns k i) in elim (cases_eq p q) [
      | inl e ↦
          let inside : q < length reached = omega (arith, e, less) in
          get_or-set_at reached q p (brought q) 0 e inside ∙ ap brought (sym e) ∙ ap (λ b. cond b (brought p) (get_or reached p 0)) (sym (eq-eqb p q e))
      | inr n ↦ get_or-set_other reached q p (brought q) 0 n ∙ ap (λ b. cond b (brought p) (get_or reached p 0)) (sym (ne_eqb p q n))
    ]

pub reached_next : (ns : List Node) (parent : Option ℕ) (i : ℕ) (reached new : List ℕ) → parent ≡ parent_at ns i → length reached ≡ length ns → ((p : ℕ) → p < length ns → get_or reached p 0 ≡ come_to ns i p) → new ≡ raised ns parent i reached → (p : ℕ) → p < length ns → get_or new p 0 ≡ come_to ns (i + 1) p
reached_next ns parent i reached new parent_here count each new_is p less =
    let inside : p < length reached = omega (arith, count, less) in
    ap (λ (l : List ℕ). get_or l p 0) new_is
    ∙ raised_one ns parent i reached p inside
    ∙ ap (λ (o : Option ℕ). cond (is_place p o) (later (get_or reached p 0) (own_in ns p i)) (get_or reached p 0)) parent_here
    ∙ ap (λ (k : ℕ). cond (holds ns p i) (later k (own_in ns p i)) k) (each p less)
    ∙ sym (come_more ns i p)

-- by the elements of the tree
pub raised_in : (nodes ns : List Node) (parent : Option ℕ) (i : ℕ) (reached new : List ℕ) → nodes ≡ ns → new ≡ raised nodes parent i reached → new ≡ raised ns parent i reached
raised_in nodes ns parent i reached new e new_is = new_is ∙ ap (λ (x : List Node). raised x parent i reached) e

-- ---- one element more
pub reached_is : (ns : List Node) (reached : List ℕ) (i : ℕ) (parent : Option ℕ) → ((p : ℕ) → parent ≡ Some p → p < length ns) → ((p : ℕ) → p < length ns → get_or reached p 0 ≡ come_to ns i p) → reached_by reached parent ≡ come_in ns i parent
reached_is ns reached i None inside each = refl
reached_is ns reached i (Some p) inside each = each p (inside p refl)

pub own_before : (ns : List Node) (reached : List ℕ) (i : ℕ) (parent : Option ℕ) (r : ℕ) → IsTree ns → parent ≡ parent_at ns i → ((p : ℕ) → p < length ns → get_or reached p 0 ≡ come_to ns i p) → r ≡ reached_by reached parent → r ≡ before_at ns i
own_before ns reached i parent r tree parent_here each r_is =
    r_is
    ∙ ap (reached_by reached) parent_here
    ∙ reached_is ns reached i (parent_at ns i) (λ p e. let less = parent_below 0 ns i p tree.placed e in omega (arith, less)) each

pub before_next : (ns : List Node) (before new : List ℕ) (i r : ℕ) → length before ≡ i → ((k : ℕ) → k < i → get_or before k 0 ≡ before_at ns k) → r ≡ before_at ns i → new ≡ before ++ r ∷ [] → (k : ℕ) → k < i + 1 → get_or new k 0 ≡ before_at ns k
before_next ns before new i r count each r_is new_is k less =
    ap (λ (l : List ℕ). get_or l k 0) new_is ∙ elim (cases_eq k i) [
      | inl e ↦
          let here : length before ≡ k = omega (arith, count, e) in
          get_or_push before r 0 k here ∙ r_is ∙ ap (before_at ns) (sym e)
      | inr n ↦
          let earlier : k < i = omega (arith, n, less) in
          let inside : k < length before = omega (arith, count, earlier) in
          get_or_append_left before (r ∷ []) 0 k inside ∙ each k earlier
    ]

pub count_next : (before new : List ℕ) (i r : ℕ) → length before ≡ i → new ≡ before ++ r ∷ [] → length new ≡ i + 1
count_next before new i r count new_is = ap length new_is ∙ length-append before (r ∷ []) ∙ ap (λ (k : ℕ). k + 1) count

-- ---- the whole document
pub made : (ns tree : List Node) (before : List ℕ) (n : ℕ) → ns ≡ tree → length before ≡ n → n ≡ length tree → ((k : ℕ) → k < n → get_or before k 0 ≡ before_at tree k) → AreBefore ns before
made ns tree before n e count n_is each =
    rw e (record { count = count ∙ n_is; each = λ k less. let inside : k < n = omega (arith, n_is, less) in each k inside })
