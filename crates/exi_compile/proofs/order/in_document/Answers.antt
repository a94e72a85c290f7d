use Rattle.std.proofs.Common.{◌≡◌, ◌+◌, ◌-◌, ◌≤◌, [], ◌∷◌, ◌++◌, suc, arith, length, ap, subst, ◌∙◌}
use Rattle.exi_compile.specs.declared.order.Item.TheVariants as variant
use Rattle.exi_compile.specs.Order.{IsNext}
use Rattle.exi_compile.proofs.NextItem.{document_on, element_next, type_next}
use Rattle.exi_compile.proofs.order.in_document.Goals as goal
use Rattle.exi_compile.proofs.order.in_document.Goals.{in-Type, in-Element}

pub loop-preserved : goal.loop-preserved
loop-preserved c =
    let types = c.args.types.now in
    let elements = c.args.elements.now in
    let all = length types + length elements in
    let rest = all - (c.loop.counter + 1) in
    let less = c.loop-test.true in
    let count : suc (suc rest) ≡ suc (all - c.loop.counter) = omega (arith, less) in
    let next : IsNext types elements c.loop.of c.loop.element c.next_item-next.result = c.next_item-next.ensures in
    elim c.match-next.branch [
      | in-Type w ↦
          let is = subst (IsNext types elements c.loop.of c.loop.element) w.in-Type.is next in
          let there : suc c.loop.of ≤ length types = is.there in record {
            so_far =
                ap (λ l. document_on l (suc rest) types c.match-next.of elements c.match-next.element) (c.in_ok-push.ensures.items ∙ ap (λ i. c.loop.items.items ++ i ∷ []) w.in-Type.is)
                ∙ ap (document_on (c.loop.items.items ++ variant.Type w.in-Type.field-0 ∷ []) (suc rest) types c.match-next.of elements) w.element-is
                ∙ type_next c.loop.items.items (suc (all - c.loop.counter)) w.in-Type.field-0 rest types c.loop.of c.match-next.of elements c.loop.element _ count is w.of-is c.loop.invariant.so_far;
            sum = omega (arith, w.of-is, w.element-is, c.loop.invariant.sum);
            types = omega (arith, w.of-is, there);
            elements = omega (arith, w.element-is, c.loop.invariant.elements);
          }
      | in-Element w ↦
          let is = subst (IsNext types elements c.loop.of c.loop.element) w.in-Element.is next in
          let there : suc c.loop.element ≤ length elements = is.there in record {
            so_far =
                ap (λ l. document_on l (suc rest) types c.match-next.of elements c.match-next.element) (c.in_ok-push.ensures.items ∙ ap (λ i. c.loop.items.items ++ i ∷ []) w.in-Element.is)
                ∙ ap (λ n. document_on (c.loop.items.items ++ variant.Element w.in-Element.field-0 ∷ []) (suc rest) types n elements c.match-next.element) w.of-is
                ∙ element_next c.loop.items.items (suc (all - c.loop.counter)) w.in-Element.field-0 rest types c.loop.of elements c.loop.element c.match-next.element _ count is w.element-is c.loop.invariant.so_far;
            sum = omega (arith, w.of-is, w.element-is, c.loop.invariant.sum);
            types = omega (arith, w.of-is, c.loop.invariant.types);
            elements = omega (arith, w.element-is, there);
          }
    ]
