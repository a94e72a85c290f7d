use Rattle.std.proofs.Common.{ap, ◌∙◌, arith}
use Rattle.exi_proto.specs.declared.spot.Spot.{Spot}
use Rattle.exi_proto.specs.Tasks.{ends_left, made}
use Rattle.exi_proto.proofs.Leafing.{openings_made}
use Rattle.exi_proto.proofs.Making.{on_ok}
use Rattle.exi_proto.proofs.work.Work.push_openings.Goals as goal

pub returns-clause-made : goal.returns-clause-made
returns-clause-made c =
    let spot = c.args.spot in
    let o = c.args.self.now in
    let first = ap (λ (s : Spot). s.first) c.behind.ensures in
    let before = ap (λ (s : Spot). s.before) c.behind.ensures in
    let next = ap (λ (s : Spot). s.next) c.behind.ensures in
    on_ok c.push_each.result
    (λ m. openings_made c.args.elements.now c.args.places.now spot.first spot.before c.behind.result.first c.behind.result.before spot.next c.behind.result.next (made o) (made c.push_state.new.self) (made c.push_each.new.self) (ends_left o) _ c.in_ok-push_state.ensures.made c.in_ok-starts_evenly.ensures m first (before ∙ omega arith) next)
    c.push_each.ensures.made
