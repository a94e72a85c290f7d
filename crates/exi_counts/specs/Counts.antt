-- How many states the grammar of a type has before it is normal (EXI 1.0, section 8.5.4.1; what is counted is the codec's own), so
-- that one of too many is refused before anything is made.
use Rattle.std.specs.Prelude.{ℕ, zero, suc, ◌+◌, ◌*◌, ◌==◌, Bool, true, false, Option, Some, None, List, [], ◌∷◌, ◌++◌, length, map, slice_get, if◌then◌else◌}
use Rattle.xsd_model.specs.declared.parts.Group.{Group}
use Rattle.xsd_model.specs.declared.parts.Particle.{Particle}
use Rattle.xsd_model.specs.declared.parts.Term.{Term}
use Rattle.xsd_model.specs.declared.parts.Term.TheVariants as term
use Rattle.xsd_model.specs.declared.parts.TypeBody.{TypeBody}
use Rattle.xsd_model.specs.declared.parts.TypeBody.TheVariants as body
use Rattle.xsd_model.specs.declared.parts.TypeDef.{TypeDef}
use Rattle.xsd_model.specs.declared.parts.Wild.{Wild}
use Rattle.xsd_model.specs.declared.parts.Wild.TheVariants as wild
use Rattle.xsd_model.specs.Parts.{Parts}
use Rattle.exi_elements.specs.StandIns.{stand_ins}
use Rattle.exi_inherited.specs.Contents.{Whole, content_of, elements, value}
use Rattle.exi_inherited.specs.Uses.{uses_of}

-- the most states of one grammar, and of all normal grammars together
abbrev pub most_states : ℕ
most_states = 65_536

abbrev pub sum_of : List ℕ → ℕ
sum_of [] = 0
sum_of (x ∷ xs) = x + sum_of xs

-- ---- particles
-- how many copies there are of what stands at least and at most so often: one that returns to its start, where there is no
-- bound, counts once
abbrev pub copies : ℕ → Option ℕ → ℕ
copies least None = suc least
copies least (Some most) = most

-- of so many copies; where there is none, one state
abbrev pub copied : ℕ → ℕ → ℕ
copied zero states = 1
copied (suc n) states = suc n * states

-- of those that may stand for one element: two each, and one more where there are several
abbrev pub of_stand_ins : ℕ → ℕ
of_stand_ins n = if n == 1 then 2 else suc (2 * n)

-- one after another; nothing has one state
abbrev pub in_sequence : List ℕ → ℕ
in_sequence [] = 1
in_sequence (x ∷ xs) = x + sum_of xs

-- by the particles within it
abbrev pub group_states : (ℕ → ℕ) → Option Group → ℕ
group_states within None = 1
group_states within (Some g) = of_any g.particle
  where
    of_any : Option ℕ → ℕ
    of_any None = 1
    of_any (Some particle) = within particle

abbrev pub term_states : Parts → (ℕ → ℕ) → Term → ℕ
term_states p within (term.Element element) = of_stand_ins (length (stand_ins p element))
term_states p within (term.Group group) = group_states within (slice_get p.groups group)
term_states p within (term.Sequence places) = in_sequence (map within places)
term_states p within (term.Choice places) = suc (sum_of (map within places))
term_states p within (term.Wild wild) = 2

abbrev pub particle_states : Parts → (ℕ → ℕ) → Option Particle → ℕ
particle_states p within None = 1
particle_states p within (Some x) = copied (copies x.least x.most) (term_states p within x.term)

-- of the particle at a place; particles and groups lie within one another so many deep
abbrev pub states_within : ℕ → Parts → ℕ → ℕ
states_within zero p place = 1
states_within (suc n) p place = particle_states p (states_within n p) (slice_get p.particles place)

-- no particle lies within itself
abbrev pub states_of : Parts → ℕ → ℕ
states_of p place = states_within (suc (length p.particles)) p place

-- ---- how many particles there are that read an element of a name, or of any name of a URI: each has a place of its own in a
-- content, by which what a state reads is put in order; copies share theirs, and where there is no copy there is none
abbrev pub wild_particles : Wild → ℕ
wild_particles wild.Any = 0
wild_particles (wild.Listed uris) = length uris

abbrev pub group_particles : (ℕ → ℕ) → Option Group → ℕ
group_particles within None = 0
group_particles within (Some g) = of_any g.particle
  where
    of_any : Option ℕ → ℕ
    of_any None = 0
    of_any (Some particle) = within particle

abbrev pub term_particles : Parts → (ℕ → ℕ) → Term → ℕ
term_particles p within (term.Element element) = length (stand_ins p element)
term_particles p within (term.Group group) = group_particles within (slice_get p.groups group)
term_particles p within (term.Sequence places) = sum_of (map within places)
term_particles p within (term.Choice places) = sum_of (map within places)
term_particles p within (term.Wild wild) = wild_particles wild

abbrev pub particle_particles : Parts → (ℕ → ℕ) → Option Particle → ℕ
particle_particles p within None = 0
particle_particles p within (Some x) = if copies x.least x.most == 0 then 0 else term_particles p within x.term

abbrev pub particles_within : ℕ → Parts → ℕ → ℕ
particles_within zero p place = 0
particles_within (suc n) p place = particle_particles p (particles_within n p) (slice_get p.particles place)

abbrev pub particles_of : Parts → ℕ → ℕ
particles_of p place = particles_within (suc (length p.particles)) p place

-- ---- types
-- any elements in front have two states, since they return to their start
abbrev pub any_states : Bool → List ℕ
any_states true = 2 ∷ []
any_states false = []

abbrev pub content_states : Parts → Whole → ℕ
content_states p (value place) = 2
content_states p (elements any particles mixed) = in_sequence (any_states any ++ map (states_of p) particles)

abbrev pub wild_states : Option Wild → ℕ
wild_states None = 0
wild_states (Some wild) = 1

-- of a type's grammar, or of its empty form
abbrev pub type_states : Parts → ℕ → Bool → ℕ
type_states p place empty = by_type (slice_get p.types place)
  where
    by_type : Option TypeDef → ℕ
    by_type None = 1
    by_type (Some t) = by_body t.body
      where
        by_body : TypeBody → ℕ
        by_body (body.Simple form union) = if empty then 1 else 2
        by_body body.Ur = 2
        by_body (body.Complex complex) = 2 * length (uses_of p place) + (wild_states complex.wild + (if empty then 1 else content_states p (content_of p place)))
