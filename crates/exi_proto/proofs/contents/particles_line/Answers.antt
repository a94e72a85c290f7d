use Rattle.std.proofs.Common.{◌≡◌, ◌<◌, ◌+◌, ◌++◌, ℕ, drop, get_or, length, map, sym, ap, subst, ◌∙◌, arith}
use Rattle.std.proofs.lemmas.List.Elements.{All-rest}
use Rattle.exi_counts.specs.Counts.{sum_of}
use Rattle.exi_proto.specs.declared.spot.Spot.{Spot}
use Rattle.exi_proto.specs.Attributes.{made_of}
use Rattle.exi_proto.specs.Contents.{line_left}
use Rattle.exi_proto.specs.Pieces.{counts_of, particles_of}
use Rattle.exi_proto.specs.Protos.{piece_of}
use Rattle.exi_proto.specs.Tasks.{Fits, set_at}
use Rattle.exi_proto.proofs.Lining.{line_few, line_fits, line_last, line_next, line_states}
use Rattle.exi_proto.proofs.Looping.{drop_here}
use Rattle.exi_proto.proofs.Turning.{particles_told, states_told}
use Rattle.exi_proto.proofs.contents.particles_line.Goals as goal
use Rattle.exi_proto.proofs.contents.particles_line.Goals.{then-left-eq0, else-left-eq0}

pub behind-spot-requires-clause-particles : goal.behind-spot-requires-clause-particles
behind-spot-requires-clause-particles c =
    let p = c.args.counts.now in
    let xs = c.args.particles.now in
    let n = c.loop-particle.particle-index in
    let spot = c.loop-particle.spot in
    let few = line_few p xs n spot c.loop-particle-test.true c.loop-particle.invariant.2 in
    let told = particles_told p (get_or xs n 0) c.particles.result spot.before c.particles.ensures few in
    omega (arith, told, few)

pub loop-particle-preserved : goal.loop-particle-preserved
loop-particle-preserved c =
    let p = c.args.counts.now in
    let xs = c.args.particles.now in
    let n = c.loop-particle.particle-index in
    let less = c.loop-particle-test.true in
    let spot = c.loop-particle.spot in
    let i = c.loop-particle.invariant in
    let x : ℕ = get_or xs n 0 in
    let s = c.states-count.result in
    let k = c.particles.result in
    let left = c.loop-particle.left in
    let many : left + n ≡ length xs = i.0 in
    let states = states_told p x s spot.first c.states-count.ensures (line_states p xs n spot less i.2) in
    let particles = particles_told p x k spot.before c.particles.ensures (line_few p xs n spot less i.2) in
    let old = c.loop-particle.made in
    let new = c.in_ok-made.made in
    let behind = c.behind-spot.ensures in (
      omega (arith, many, less),
      All-rest (λ place. place < length p.particles) x (drop (n + 1) xs) (drop n xs) (drop_here xs n 0 less) i.1,
      subst (λ (t : Spot). Fits t (sum_of (counts_of (map (piece_of p) (drop (n + 1) xs)))) (particles_of (map (piece_of p) (drop (n + 1) xs)))) (sym behind) (line_fits p xs n spot less i.2 s k spot.next states particles),
      ap (λ (t : Spot). made_of new ++ line_left t.first t.before t.next (map (piece_of p) (drop (n + 1) xs))) behind
          ∙ elim c.if-left-eq0.branch [
            | then-left-eq0 w ↦
                let none = w.if-left-eq0.true in
                line_last p spot.first spot.before (spot.first + s) (spot.before + k) spot.next xs n (made_of old) (made_of new) less (omega (arith, many, none))
                (c.in_ok-made.ensures ∙ ap (λ (t : Spot). made_of old ++ set_at t (piece_of p x).states) w.here-is)
            | else-left-eq0 w ↦
                let some = w.if-left-eq0.false in
                line_next p spot.first spot.before (spot.first + s) (spot.before + k) spot.next xs n (made_of old) (made_of new) less (omega (arith, many, some)) (omega (arith, states)) (omega (arith, particles))
                (c.in_ok-made.ensures ∙ ap (λ (t : Spot). made_of old ++ set_at t (piece_of p x).states) (w.here-is ∙ w.front-here.ensures))
          ]
          ∙ i.3,
    )
