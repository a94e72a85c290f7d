use Rattle.std.proofs.Common.{◌≡◌, length, ap, ◌∙◌, arith}
use Rattle.xsd_places.specs.Kinds.{is_kind}
use Rattle.xsd_places.specs.declared.kind.Kind.TheVariants as kind
use Rattle.xsd_particles.specs.Particles.{particle}
use Rattle.xsd_declared.proofs.Listed.{listed_all, listed_next, listed_none}
use Rattle.xsd_particles.proofs.lists.particles_of.Goals as goal

pub loop-place-init : goal.loop-place-init
loop-place-init c = c.new-found.ensures ∙ listed_none (particle c.args.places.now) (is_kind kind.Particle c.args.places.now)

pub loop-place-preserved : goal.loop-place-preserved
loop-place-preserved c =
    listed_next (particle c.args.places.now) (is_kind kind.Particle c.args.places.now) c.loop-place.place c.loop-place.found c.push_particle.new.found
    c.loop-place.invariant c.in_ok-push_particle.ensures

pub returns : goal.returns
returns c =
    let few : length c.nodes-place-end.result.now ≡ length c.args.places.now = ap length (c.nodes-place-end.ensures.nodes ∙ c.document.ensures ∙ c.schema.ensures) in
    let ended : c.loop-place.place ≡ length c.args.places.now = omega (arith, few, c.loop-place.auto.place-end) in
    listed_all (particle c.args.places.now) (is_kind kind.Particle c.args.places.now) c.args.places.now c.loop-place.place c.loop-place.found ended c.loop-place.invariant
