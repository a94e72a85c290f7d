-- The particles directly within one, those of the groups that are named among them.
use Rattle.std.specs.Prelude.{ℕ, Option, Some, None, List, [], slice_get}
use Rattle.xsd_model.specs.declared.parts.Particle.{Particle}
use Rattle.xsd_model.specs.declared.parts.Term.{Term}
use Rattle.xsd_model.specs.declared.parts.Term.TheVariants as term
use Rattle.xsd_model.specs.Parts.{Parts, particle_in}

abbrev pub inner_of : Parts → Term → List ℕ
inner_of p (term.Element element) = []
inner_of p (term.Group group) = particle_in (slice_get p.groups group)
inner_of p (term.Sequence places) = places
inner_of p (term.Choice places) = places
inner_of p (term.Wild wild) = []

abbrev pub inner_in : Parts → Option Particle → List ℕ
inner_in p None = []
inner_in p (Some x) = inner_of p x.term

abbrev pub inner_at : Parts → ℕ → List ℕ
inner_at p place = inner_in p (slice_get p.particles place)
