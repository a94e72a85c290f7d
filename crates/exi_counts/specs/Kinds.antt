-- The particles of a content.
use Rattle.std.specs.Prelude.{◌<◌, All, length}
use Rattle.xsd_model.specs.Parts.{Parts}
use Rattle.exi_inherited.specs.Contents.{Whole, elements, value}

-- they are there
abbrev pub AreParticlesOf : Parts → Whole → Type 0
AreParticlesOf p (value place) = Unit {0}
AreParticlesOf p (elements any particles mixed) = All (λ place. place < length p.particles) particles
