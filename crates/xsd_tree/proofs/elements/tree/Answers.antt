use Rattle.std.proofs.Common.{◌≡◌, ◌+◌, ◌-◌, ◌<◌, false, true, Err, Ok, List, [], ◌∷◌, ◌++◌, ℕ, drop, length, map, take, refl, ap, sym, ◌∙◌, arith}
use Rattle.std.specs.Prelude.{reverse}
use Rattle.std.proofs.lemmas.List.{drop-map, take_rest}
use Rattle.exi_names.specs.Events.{happens}
use Rattle.xsd_tree.specs.Reading.{innermost, may_start, node_of, not_schema}
use Rattle.xsd_tree.specs.declared.node.Node.{Node}
use Rattle.xsd_tree.proofs.Events.{event_at, no_event}
use Rattle.xsd_tree.proofs.Reached.{closed_at_end, none_is, none_read, open_at_end, reached_other, reached_popped, refused_pop, refused_start, same_reached, some_is, stacked}
use Rattle.xsd_tree.proofs.elements.tree.Goals as goal
use Rattle.xsd_tree.proofs.elements.tree.Goals.{in-Se+else-not-may_start+in_ok-node-in-Se+in_ok-push-in-Se+in_ok-push-in-Se-2, in-Ee+else-is_empty, in_default, then-is_empty-2-via-then-is_empty-2, then-is_empty-2-via-else-is_empty-2+then-not-is_empty}

pub returns-then-not-may_start : goal.returns-then-not-may_start
returns-then-not-may_start c =
    let here = event_at c.args.events.now c.loop-index.index c.index-events-index.result c.loop-index-test.true c.index-events-index.is ∙ ap (λ e. happens e ∷ drop (c.loop-index.index + 1) (map happens c.args.events.now)) c.in-Se.is in
    let parent : c.innermost-parent.result ≡ innermost (reverse c.loop-index.open_nodes.items) = c.innermost-parent.ensures ∙ ap (λ xs. innermost (reverse xs)) c.as_slice.ensures.value in
    let may : may_start c.in-Se.name (innermost (reverse c.loop-index.open_nodes.items)) (length c.loop-index.nodes) ≡ false =
    ap (λ p. may_start c.in-Se.name p (length c.loop-index.nodes)) (sym parent)
    ∙ ap (λ xs. may_start c.in-Se.name c.innermost-parent.result (length xs)) (sym c.as_slice-place.ensures)
    ∙ sym c.may_start.ensures ∙ c.if-not-may_start.true in
    refused_start (map happens c.args.events.now) (drop (c.loop-index.index + 1) (map happens c.args.events.now)) c.loop-index.index (reverse c.loop-index.open_nodes.items) c.loop-index.nodes c.in-Se.name here may c.loop-index.invariant
    ∙ ap (λ f. Err f) (sym c.not_schema.ensures)

pub returns-then-is_empty : goal.returns-then-is_empty
returns-then-is_empty c =
    let here = event_at c.args.events.now c.loop-index.index c.index-events-index.result c.loop-index-test.true c.index-events-index.is ∙ ap (λ e. happens e ∷ drop (c.loop-index.index + 1) (map happens c.args.events.now)) c.in-Ee.is in
    let none : length c.loop-index.open_nodes.items ≡ 0 =
    ap (λ (xs : List ℕ). length xs) (sym c.as_slice-in-Ee.ensures.value) ∙ none_is (length c.as_slice-in-Ee.result.now) c.is_empty.result c.is_empty.ensures c.if-is_empty.true in
    refused_pop (map happens c.args.events.now) (drop (c.loop-index.index + 1) (map happens c.args.events.now)) c.loop-index.index c.loop-index.open_nodes.items c.loop-index.nodes none here c.loop-index.invariant
    ∙ ap (λ f. Err f) (sym c.not_schema-then-is_empty.ensures)

pub loop-index-preserved : goal.loop-index-preserved
loop-index-preserved c =
    let events = map happens c.args.events.now in
    let index = c.loop-index.index in
    let es = drop (c.loop-index.index + 1) (map happens c.args.events.now) in
    let stack = c.loop-index.open_nodes.items in
    let nodes = c.loop-index.nodes in
    let at = event_at c.args.events.now c.loop-index.index c.index-events-index.result c.loop-index-test.true c.index-events-index.is in
    elim c.match-event.branch [
      | in-Se+else-not-may_start+in_ok-node-in-Se+in_ok-push-in-Se+in_ok-push-in-Se-2 w ↦
          let name = w.in-Se.name in
          let here = at ∙ ap (λ e. happens e ∷ es) w.in-Se.is in
          let parent : w.innermost-parent.result ≡ innermost (reverse stack) = w.innermost-parent.ensures ∙ ap (λ xs. innermost (reverse xs)) w.as_slice.ensures.value in
          let may : may_start name (innermost (reverse stack)) (length nodes) ≡ true =
          ap (λ p. may_start name p (length nodes)) (sym parent)
          ∙ ap (λ xs. may_start name w.innermost-parent.result (length xs)) (sym w.as_slice-place.ensures)
          ∙ sym w.may_start.ensures ∙ w.if-not-may_start.false in
          let behind : map happens (take (length c.args.events.now - (index + 1)) (drop (index + 1) c.args.events.now)) ≡ es =
          ap (map happens) (take_rest c.args.events.now (index + 1)) ∙ sym (drop-map happens (index + 1) c.args.events.now) in
          let node_is : w.in_ok-node-in-Se.field-0 ≡ node_of name (innermost (reverse stack)) (index + 1) es =
          w.in_ok-node-in-Se.ensures
          ∙ ap (λ p. node_of name p (index + 1) (map happens (take (length c.args.events.now - (index + 1)) (drop (index + 1) c.args.events.now)))) parent
          ∙ ap (λ t. node_of name (innermost (reverse stack)) (index + 1) t) behind in
          let stack_is : c.match-event.open_nodes.items ≡ stack ++ length nodes ∷ [] =
          ap (λ v. v.items) w.open_nodes-is ∙ w.in_ok-push-in-Se-2.ensures.items ∙ ap (λ (xs : List Node). stack ++ length xs ∷ []) w.as_slice-place.ensures in
          stacked events es index stack c.match-event.open_nodes.items nodes c.match-event.nodes name w.in_ok-node-in-Se.field-0 here refl may node_is stack_is (w.nodes-is ∙ w.in_ok-push-in-Se.ensures.ok) c.loop-index.invariant
      | in-Ee+else-is_empty w ↦
          let here = at ∙ ap (λ e. happens e ∷ es) w.in-Ee.is in
          let some_open = some_is (length w.as_slice-in-Ee.result.now) w.is_empty.result w.is_empty.ensures w.if-is_empty.false in
          same_reached events (index + 1) (reverse w.pop.new.self.items) (reverse c.match-event.open_nodes.items) nodes c.match-event.nodes (ap (λ v. reverse v.items) w.open_nodes-is) w.nodes-is
          (reached_popped events es index stack w.pop.new.self.items w.pop.result nodes w.pop.ensures.items (w.pop.ensures.variant.1 (rw w.as_slice-in-Ee.ensures.len at some_open)) here refl c.loop-index.invariant)
      | in_default w ↦
          same_reached events (index + 1) (reverse stack) (reverse c.match-event.open_nodes.items) nodes c.match-event.nodes (ap (λ v. reverse v.items) w.open_nodes-is) w.nodes-is
          (reached_other events es index (reverse stack) nodes c.index-events-index.result w.in_default.not-Se w.in_default.not-Ee at refl c.loop-index.invariant)
    ]

pub returns-then-is_empty-2 : goal.returns-then-is_empty-2
returns-then-is_empty-2 c =
    let end = no_event c.args.events.now c.loop-index.index (omega arith) in
    let index : c.loop-index.index ≡ length c.args.events.now = omega arith in
    elim c.then-is_empty-2.branch [
      | then-is_empty-2-via-then-is_empty-2 w ↦
          let none : length c.loop-index.nodes ≡ 0 =
          ap (λ (xs : List Node). length xs) (sym c.as_slice-2.ensures) ∙ none_is (length c.as_slice-2.result.now) c.is_empty-2.result c.is_empty-2.ensures w.if-is_empty-2.true in
          none_read (map happens c.args.events.now) c.loop-index.index (reverse c.loop-index.open_nodes.items) c.loop-index.nodes end none c.loop-index.invariant
          ∙ ap (λ n. Err (not_schema n)) index
          ∙ ap (λ f. Err f) (sym c.not_schema-then-is_empty-2.ensures)
      | then-is_empty-2-via-else-is_empty-2+then-not-is_empty w ↦
          let some_open : 0 < length c.loop-index.open_nodes.items =
          rw w.as_slice-else-is_empty-2.ensures.value at (some_is (length w.as_slice-else-is_empty-2.result.now) w.is_empty-else-is_empty-2.result w.is_empty-else-is_empty-2.ensures w.if-not-is_empty.true) in
          open_at_end (map happens c.args.events.now) c.loop-index.index c.loop-index.open_nodes.items c.loop-index.nodes end some_open c.loop-index.invariant
          ∙ ap (λ n. Err (not_schema n)) index
          ∙ ap (λ f. Err f) (sym c.not_schema-then-is_empty-2.ensures)
    ]

pub returns : goal.returns
returns c =
    let end = no_event c.args.events.now c.loop-index.index (omega arith) in
    let none : length c.loop-index.open_nodes.items ≡ 0 =
    ap (λ (xs : List ℕ). length xs) (sym c.as_slice-else-is_empty-2.ensures.value) ∙ none_is (length c.as_slice-else-is_empty-2.result.now) c.is_empty-else-is_empty-2.result c.is_empty-else-is_empty-2.ensures c.if-not-is_empty.false in
    let some_node : 0 < length c.loop-index.nodes =
    rw c.as_slice-2.ensures at (some_is (length c.as_slice-2.result.now) c.is_empty-2.result c.is_empty-2.ensures c.if-is_empty-2.false) in
    closed_at_end (map happens c.args.events.now) c.loop-index.index c.loop-index.open_nodes.items c.loop-index.nodes end none some_node c.loop-index.invariant
    ∙ ap (λ (ns : List Node). Ok ns) (sym c.of.ensures)
