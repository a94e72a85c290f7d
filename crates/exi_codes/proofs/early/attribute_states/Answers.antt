use Rattle.std.proofs.Common.{◌≡◌, ◌+◌, ◌-◌, ◌<◌, suc, Bool, true, not, List, [], get_or, length, map, reverse, ℕ, subst, sym, ap, ◌∙◌, arith}
use Rattle.std.proofs.lemmas.List.{length-map, nil_from_length}
use Rattle.exi_gram.specs.Additions.{rule_count}
use Rattle.exi_gram.specs.Terminals.{rule, rules_of}
use Rattle.exi_codes.proofs.Reaching.{Walk, new_within, state_there, walk_done, walk_ends, walk_next_on, walk_next_past}
use Rattle.exi_codes.proofs.early.attribute_states.Goals as goal
use Rattle.exi_codes.proofs.early.attribute_states.Goals.{then-is_new+in_ok-push_attributes, else-is_new}

pub overflow_add-end : goal.overflow_add-end
overflow_add-end c = omega (arith, c.count_of-end.ensures.few)

pub returns-in_default : goal.returns-in_default
returns-in_default c =
    let g = rules_of c.args.grammar.now in
    let none : c.loop.stack.items ≡ [] = nil_from_length c.loop.stack.items (sym c.loop.stack.ok.0 ∙ c.in_default.ensures.cases.0) in
    walk_done g (suc (rule_count g.states) - c.loop.counter) c.loop.marks.items (subst (λ (z : List ℕ). Walk g (suc (rule_count g.states) - c.loop.counter) c.loop.marks.items (reverse z)) none c.loop.invariant)

pub loop-preserved : goal.loop-preserved
loop-preserved c =
    let g = rules_of c.args.grammar.now in
    let total : c.count_of-end.result ≡ rule_count g.states = c.count_of-end.ensures.count ∙ ap (λ z. rule_count (rules_of (record { states = z; content = 0 })).states) c.as_slice-states.ensures in
    let n : suc (rule_count g.states) - c.loop.counter ≡ suc (suc (rule_count g.states) - (c.loop.counter + 1)) = omega (arith, c.loop-test.true, total) in
    let k = suc (rule_count g.states) - c.loop.counter in
    let m = suc (rule_count g.states) - (c.loop.counter + 1) in
    let place = c.in-Some.place in
    let asked : not (get_or c.loop.marks.items place true) ≡ c.is_new.result = ap (λ (z : List Bool). not (get_or z place true)) (sym c.as_slice.ensures.value) ∙ sym c.is_new.ensures in
    elim c.if-is_new.branch [
      | then-is_new+in_ok-push_attributes w ↦
          let new_is : not (get_or c.loop.marks.items place true) ≡ true = asked ∙ w.if-is_new.true in
          let within : place < length c.loop.marks.items = new_within c.loop.marks.items place new_is in
          let count : length c.loop.marks.items ≡ length g.states = c.loop.invariant.count in
          let less : place < length c.args.grammar.now.states = omega (arith, within, count, length-map c.args.grammar.now.states (map rule)) in
          let is : w.index-states-place.result ≡ get_or c.args.grammar.now.states place w.index-states-place.result = subst (λ z. w.index-states-place.result ≡ get_or z place w.index-states-place.result) c.as_slice-states.ensures w.index-states-place.is in
          rw (w.marks-is, w.stack-is)
          (walk_next_on g k m c.loop.marks.items place c.loop.stack.items c.pop.new.self.items w.push_attributes.new.stack.items (map rule w.as_slice-then-is_new.result.now) n c.in-Some.ensures.items new_is
          (state_there c.args.grammar.now.states place w.index-states-place.result w.as_slice-then-is_new.result.now less is w.as_slice-then-is_new.ensures)
          w.in_ok-push_attributes.ensures c.loop.invariant)
      | else-is_new w ↦ rw (w.marks-is, w.stack-is)
          (walk_next_past g k m c.loop.marks.items place c.loop.stack.items c.pop.new.self.items n c.in-Some.ensures.items (asked ∙ w.if-is_new.false) c.loop.invariant)
    ]

pub returns : goal.returns
returns c =
    let g = rules_of c.args.grammar.now in
    let total : c.count_of-end.result ≡ rule_count g.states = c.count_of-end.ensures.count ∙ ap (λ z. rule_count (rules_of (record { states = z; content = 0 })).states) c.as_slice-states.ensures in
    let n : suc (rule_count g.states) - c.loop.counter ≡ 0 = omega (arith, c.loop-test.false, total) in
    walk_ends g (suc (rule_count g.states) - c.loop.counter) c.loop.marks.items (reverse c.loop.stack.items) n c.loop.invariant
