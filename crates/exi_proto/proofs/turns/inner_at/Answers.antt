use Rattle.std.proofs.Common.{◌<◌, ℕ, IfSome, List, Option, length, sym, ap, subst}
use Rattle.exi_proto.specs.Tasks.{inner_places}
use Rattle.exi_proto.proofs.Turning.{got_few, got_inside}
use Rattle.exi_proto.proofs.turns.inner_at.Goals as goal

pub returns-clause-inside : goal.returns-clause-inside
returns-clause-inside c =
    subst (λ (o : Option ℕ). IfSome o (λ q. q < length c.args.counts.now.particles)) (sym c.copied.ensures)
    (got_inside (λ q. q < length c.args.counts.now.particles) c.inner_of.result.now c.args.index c.get.result c.inner_of.ensures.inside c.get.ensures.lookup.0 c.get.ensures.lookup.1)

pub returns-clause-few : goal.returns-clause-few
returns-clause-few c =
    subst (λ (o : Option ℕ). IfSome o (λ q. c.args.index < length (inner_places c.args.counts.now c.args.particle))) (sym c.copied.ensures)
    (got_few c.inner_of.result.now c.args.index (length (inner_places c.args.counts.now c.args.particle)) c.get.result c.get.ensures.lookup.0 (ap (λ (xs : List ℕ). length xs) c.inner_of.ensures.places))
