use Rattle.std.proofs.Common.{◌≡◌, ◌<◌, ◌≤◌, Some, List, get_or, length, sym, ap, ◌∙◌, arith}
use Rattle.xsd_schema.proofs.First.{first_ended, first_found, first_passed}
use Rattle.xsd_schema.specs.Shown.{first_from}
use Rattle.xsd_tree.specs.declared.node.Node.{Node}
use Rattle.xsd_schema.specs.Shows.{shows_at}
use Rattle.xsd_schema.proofs.faults.first_fault.Goals as goal

pub returns-in-Some : goal.returns-in-Some
returns-in-Some c =
    let tree = c.args.simples.now.nodes in
    let shows = shows_at c.args.joined tree in
    let nodes_are : c.nodes-nodes.result.now ≡ tree = c.nodes-nodes.ensures.nodes ∙ c.document.ensures ∙ c.schema.ensures in
    let less : c.loop-place.place < length tree = omega (arith, ap length nodes_are, c.loop-place-test.true) in
    let node : c.index-nodes-place.result ≡ get_or tree c.loop-place.place c.index-nodes-place.result =
    c.index-nodes-place.is ∙ ap (λ (ns : List Node). get_or ns c.loop-place.place c.index-nodes-place.result) nodes_are in
    ap (λ (n : Node). Some (record { kind = c.in-Some.kind; event = n.event })) node
    ∙ first_found c.index-nodes-place.result shows tree c.loop-place.place c.in-Some.kind (first_from shows 0 tree) less
    (ap (λ (ns : List Node). shows_at c.args.joined ns c.loop-place.place) (sym c.requires.same) ∙ sym c.in_ok-kind.ensures ∙ c.in-Some.is) c.loop-place.invariant

pub loop-place-preserved : goal.loop-place-preserved
loop-place-preserved c =
    let tree = c.args.simples.now.nodes in
    let shows = shows_at c.args.joined tree in
    let nodes_are : c.nodes-nodes.result.now ≡ tree = c.nodes-nodes.ensures.nodes ∙ c.document.ensures ∙ c.schema.ensures in
    let less : c.loop-place.place < length tree = omega (arith, ap length nodes_are, c.loop-place-test.true) in
    first_passed c.index-nodes-place.result shows tree c.loop-place.place (first_from shows 0 tree) less
    (ap (λ (ns : List Node). shows_at c.args.joined ns c.loop-place.place) (sym c.requires.same) ∙ sym c.in_ok-kind.ensures ∙ c.in_default.is) c.loop-place.invariant

pub returns : goal.returns
returns c =
    let tree = c.args.simples.now.nodes in
    let shows = shows_at c.args.joined tree in
    let nodes_are : c.nodes-nodes.result.now ≡ tree = c.nodes-nodes.ensures.nodes ∙ c.document.ensures ∙ c.schema.ensures in
    let ended : length tree ≤ c.loop-place.place = omega (arith, ap length nodes_are, c.loop-place-test.false) in
    first_ended shows tree c.loop-place.place (first_from shows 0 tree) ended c.loop-place.invariant
