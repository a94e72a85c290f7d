-- The grammars of items, added one after another.
use Rattle.std.proofs.Common.{◌≡◌, ℕ, zero, suc, ◌+◌, ◌<◌, Bool, Option, Some, List, [], ◌∷◌, ◌++◌, All, length, map, get_or, refl, ◌∙◌, arith}
use Rattle.std.specs.Prelude.{slice_get}
use Rattle.std.proofs.lemmas.List.{length-map}
use Rattle.std.proofs.lemmas.List.Elements.{All-head, All-tail}
use Rattle.exi_gram.specs.declared.grammar.Grammar.{Grammar}
use Rattle.exi_gram.specs.Terminals.{Rules, rule, rules_of}
use Rattle.xsd_model.specs.declared.parts.ElementDecl.{ElementDecl}
use Rattle.xsd_model.specs.Parts.{IsElement, IsSchemaParts, Parts}
use Rattle.exi_compiled.specs.Compiled.{Made, and_then, can_be_cast, elements_of, fault_at, instance_rules, is_nillable, item_event, item_type, of_element, of_type, opened, with_fragment, with_instance, with_item, with_items}
use Rattle.exi_compiled.specs.Compiled as compiled
use Rattle.exi_compile.specs.declared.order.Item.{Item}
use Rattle.exi_compile.specs.Makings.{IsItem, with_pair}
use Rattle.exi_compile.specs.Order.{item}
use Rattle.exi_compiled.proofs.Lists.{at_place}

-- ---- the type of an item is there
pub type_there : (p : Parts) (i : compiled.Item) → IsSchemaParts p → IsItem p i → item_type p i < length p.types
type_there p (of_type place) h less = less
type_there p (of_element place) h less = by (slice_get p.elements place) refl (found p.elements place less)
  where
    found : (es : List ElementDecl) (k : ℕ) → k < length es → (e : ElementDecl) × (slice_get es k ≡ Some e)
    found [] k l = absurd (omega arith)
    found (e ∷ es) zero l = (e, refl)
    found (e ∷ es) (suc k) l = found es k (omega arith)

    by : (o : Option ElementDecl) → slice_get p.elements place ≡ o → ((e : ElementDecl) × (slice_get p.elements place ≡ Some e)) → item_type p (of_element place) < length p.types
    by o same w =
        let e : ElementDecl = w.0 in
        let is : item_type p (of_element place) ≡ e.of = rw w.1 refl in
        let type : e.of < length p.types = (at_place (IsElement p) p.elements place e h.elements w.1).type_is in
        omega (arith, is, type)

pub item_there : (P : compiled.Item → Type 0) (items : List Item) (i : ℕ) (d : Item) → i < length items → All P (map item items) → P (item (get_or items i d))
item_there P [] i d less h = absurd (omega arith)
item_there P (x ∷ xs) zero d less h = All-head P (item x) (map item xs) h
item_there P (x ∷ xs) (suc i) d less h = item_there P xs i d (omega arith) (All-tail P (item x) (map item xs) h)

-- ---- a pair more
pub pair_added : (p : Parts) (i : compiled.Item) (made now : Made) (full empty within first last : Rules) (total : ℕ) (cast nillable : Bool)
    → total ≡ made.total + (length full.states + length empty.states) → within ≡ opened p full → first ≡ with_instance (instance_rules cast nillable) within → last ≡ opened p empty
    → cast ≡ can_be_cast p (item_type p i) → nillable ≡ is_nillable p i → now ≡ record { total = total; grammars = made.grammars ++ first ∷ last ∷ [] } → now ≡ with_pair p i made full empty
pair_added p i made now full empty within first last total cast nillable sum inside front behind c n e =
    let start : first ≡ with_instance (instance_rules (can_be_cast p (item_type p i)) (is_nillable p i)) (opened p full) = front ∙ (λ j. with_instance (instance_rules (c j) (n j)) (inside j)) in
    e ∙ (λ j. record { total = sum j; grammars = made.grammars ++ start j ∷ behind j ∷ [] })

-- as many states as productions are listed of
pub states_long : (g : Grammar) → length (rules_of g).states ≡ length g.states
states_long g = length-map g.states (map rule)
