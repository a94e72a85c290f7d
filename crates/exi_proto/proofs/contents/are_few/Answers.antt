use Rattle.std.proofs.Common.{◌<◌, ◌+◌, drop, get_or, length, map, arith}
use Rattle.std.proofs.lemmas.List.Elements.{All-rest}
use Rattle.exi_proto.specs.Pieces.{particles_of}
use Rattle.exi_proto.specs.Protos.{piece_of}
use Rattle.exi_proto.proofs.Lining.{few_next}
use Rattle.exi_proto.proofs.Looping.{drop_here}
use Rattle.exi_proto.proofs.contents.are_few.Goals as goal

pub loop-particle-preserved : goal.loop-particle-preserved
loop-particle-preserved c =
    let p = c.args.counts.now in
    let xs = c.args.particles.now in
    let n = c.loop-particle.particle-index in
    let less = c.loop-particle-test.true in
    let i = c.loop-particle.invariant in
    let few = i.2 in (
      few_next p xs n c.loop-particle.left c.particles-count.result (particles_of (map (piece_of p) xs)) less c.particles-count.ensures c.if-left-count.false few i.0,
      All-rest (λ place. place < length p.particles) (get_or xs n 0) (drop (n + 1) xs) (drop n xs) (drop_here xs n 0 less) i.1,
      omega (arith, few),
    )
