use Rattle.std.proofs.Common.{◌≡◌, ◌+◌, ◌*◌, ◌≤◌, ◌^◌, ap, arith, false, length, map, subst, ◌∙◌}
use Rattle.xsd_model.specs.Parts.{IsSchemaParts, Parts}
use Rattle.exi_compiled.specs.Compiled.{can_be_cast, elements_of, items_of, type_grammar}
use Rattle.exi_compile.specs.Order.{element_places_from, item, type_places_from}
use Rattle.exi_compile.specs.Tables.{Tells}
use Rattle.exi_compile.proofs.Compiling.{few_declared, few_items, items_count, items_same}
use Rattle.exi_compile.proofs.Placed.{elements_count, elements_small, types_small, types_tell}
use Rattle.exi_compile.proofs.tables.Tables.of.Goals as goal

pub element_places-requires : goal.element_places-requires
element_places-requires c =
    let p = c.args.elements.now in
    let types : c.types.result.now ≡ p.types = c.types.ensures.types ∙ ap (λ (q : Parts). q.types) c.parts-parts.ensures in
    let elements : c.elements.result.now ≡ p.elements = c.elements.ensures.elements ∙ ap (λ (q : Parts). q.elements) c.parts-parts.ensures in
    let items : map item c.as_slice.result.now ≡ items_of p = ap (map item) c.as_slice.ensures.value ∙ c.in_ok-items.ensures ∙ items_same p c.types.result.now c.elements.result.now types elements in
    record { few = few_items p c.as_slice.result.now c.requires.size items }

pub element_grammars-requires-clause-long : goal.element_grammars-requires-clause-long
element_grammars-requires-clause-long c =
    let p = c.args.elements.now in
    let types : c.types.result.now ≡ p.types = c.types.ensures.types ∙ ap (λ (q : Parts). q.types) c.parts-parts.ensures in
    let elements : c.elements.result.now ≡ p.elements = c.elements.ensures.elements ∙ ap (λ (q : Parts). q.elements) c.parts-parts.ensures in
    let items : map item c.as_slice.result.now ≡ items_of p = ap (map item) c.as_slice.ensures.value ∙ c.in_ok-items.ensures ∙ items_same p c.types.result.now c.elements.result.now types elements in
    elements_count p c.as_slice-2.result.now (c.as_slice-2.ensures.value ∙ c.in_ok-places.ensures ∙ ap (element_places_from 2) items)

pub type_places-requires : goal.type_places-requires
type_places-requires c =
    let p = c.args.elements.now in
    let types : c.types.result.now ≡ p.types = c.types.ensures.types ∙ ap (λ (q : Parts). q.types) c.parts-parts.ensures in
    let elements : c.elements.result.now ≡ p.elements = c.elements.ensures.elements ∙ ap (λ (q : Parts). q.elements) c.parts-parts.ensures in
    let items : map item c.as_slice-3.result.now ≡ items_of p = ap (map item) c.as_slice-3.ensures.value ∙ c.in_ok-items.ensures ∙ items_same p c.types.result.now c.elements.result.now types elements in
    record { few = few_items p c.as_slice-3.result.now c.requires.size items }

pub overflow_cast-otherwise : goal.overflow_cast-otherwise
overflow_cast-otherwise c =
    let p = c.args.elements.now in
    let types : c.types.result.now ≡ p.types = c.types.ensures.types ∙ ap (λ (q : Parts). q.types) c.parts-parts.ensures in
    let elements : c.elements.result.now ≡ p.elements = c.elements.ensures.elements ∙ ap (λ (q : Parts). q.elements) c.parts-parts.ensures in
    let items : map item c.in_ok-items.items.items ≡ items_of p = c.in_ok-items.ensures ∙ items_same p c.types.result.now c.elements.result.now types elements in
    let few : length c.in_ok-items.items.items ≤ 2 ^ 28 = few_items p c.in_ok-items.items.items c.requires.size items in
    omega (arith, few, c.len.ensures, c.in_ok-items.items.ok.0)

pub overflow_mul-otherwise : goal.overflow_mul-otherwise
overflow_mul-otherwise c =
    let p = c.args.elements.now in
    let types : c.types.result.now ≡ p.types = c.types.ensures.types ∙ ap (λ (q : Parts). q.types) c.parts-parts.ensures in
    let elements : c.elements.result.now ≡ p.elements = c.elements.ensures.elements ∙ ap (λ (q : Parts). q.elements) c.parts-parts.ensures in
    let items : map item c.in_ok-items.items.items ≡ items_of p = c.in_ok-items.ensures ∙ items_same p c.types.result.now c.elements.result.now types elements in
    let few : length c.in_ok-items.items.items ≤ 2 ^ 28 = few_items p c.in_ok-items.items.items c.requires.size items in
    omega (arith, few, c.len.ensures, c.in_ok-items.items.ok.0)

pub overflow_add-otherwise : goal.overflow_add-otherwise
overflow_add-otherwise c =
    let p = c.args.elements.now in
    let types : c.types.result.now ≡ p.types = c.types.ensures.types ∙ ap (λ (q : Parts). q.types) c.parts-parts.ensures in
    let elements : c.elements.result.now ≡ p.elements = c.elements.ensures.elements ∙ ap (λ (q : Parts). q.elements) c.parts-parts.ensures in
    let items : map item c.in_ok-items.items.items ≡ items_of p = c.in_ok-items.ensures ∙ items_same p c.types.result.now c.elements.result.now types elements in
    let few : length c.in_ok-items.items.items ≤ 2 ^ 28 = few_items p c.in_ok-items.items.items c.requires.size items in
    omega (arith, few, c.len.ensures, c.in_ok-items.items.ok.0)

pub returns : goal.returns
returns c =
    let p = c.args.elements.now in
    let parts : IsSchemaParts p = subst IsSchemaParts c.parts-parts.ensures c.types.ensures.parts in
    let types : c.types.result.now ≡ p.types = c.types.ensures.types ∙ ap (λ (q : Parts). q.types) c.parts-parts.ensures in
    let elements : c.elements.result.now ≡ p.elements = c.elements.ensures.elements ∙ ap (λ (q : Parts). q.elements) c.parts-parts.ensures in
    let items : map item c.in_ok-items.items.items ≡ items_of p = c.in_ok-items.ensures ∙ items_same p c.types.result.now c.elements.result.now types elements in
    let few = few_declared p c.requires.size in
    let type_places : c.in_ok-types.types.items ≡ type_places_from 2 (items_of p) = c.in_ok-types.ensures ∙ ap (type_places_from 2) (ap (map item) c.as_slice-3.ensures.value ∙ items) in
    let told : Tells 0 (type_grammar p) (length p.types) c.in_ok-types.types.items = types_tell p c.in_ok-types.types.items type_places in
    let count : c.len.result ≡ length (items_of p) = (let long = items_count p c.in_ok-items.items.items items in omega (arith, long, c.len.ensures, c.in_ok-items.items.ok.0)) in
    record {
      parts = parts;
      items = items;
      grammars = c.in_ok-grammars.ensures;
      small_grammars = elements_small p c.in_ok-grammars.grammars.items few c.in_ok-grammars.ensures;
      types = told;
      small_types = types_small p c.in_ok-types.types.items few told;
      casts = subst (λ (q : Parts). Tells false (can_be_cast q) (length q.types) c.in_ok-casts.casts.items) c.parts-parts.ensures c.in_ok-casts.ensures;
      otherwise = ap (λ n. 2 + 2 * n) count;
      named = c.in_ok-named.ensures ∙ ap (λ (q : Parts). elements_of q) c.parts-parts.ensures;
    }
