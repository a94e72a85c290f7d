-- How much particles count for, by what those within them do: with all numbers capped, since so many are told and no more.
use Rattle.std.specs.Prelude.{◌≡◌, ℕ, suc, ◌+◌, ◌*◌, ◌-◌, ◌^◌, ◌<◌, ◌==◌, min, Bool, false, Option, Some, None, List, [], ◌∷◌, All, is_some, get_or, length, set, slice_get, if◌then◌else◌}
use Rattle.xsd_model.specs.declared.parts.Group.{Group}
use Rattle.xsd_model.specs.declared.parts.Particle.{Particle}
use Rattle.xsd_model.specs.declared.parts.Term.{Term}
use Rattle.xsd_model.specs.declared.parts.Term.TheVariants as term
use Rattle.xsd_model.specs.declared.parts.Wild.{Wild}
use Rattle.xsd_model.specs.Parts.{IsBelow, Parts}
use Rattle.exi_elements.specs.StandIns.{stand_ins}
use Rattle.exi_counts.specs.Counts.{copies, most_states, of_stand_ins, particles_of, states_of, wild_particles}
use Rattle.exi_counts.specs.declared.size.Size.{Size}

abbrev pub few : ℕ → ℕ
few n = min n (suc most_states)

abbrev pub told : ℕ → ℕ
told n = min n (2 ^ 32 - 1)

abbrev pub sized : ℕ → ℕ → Size
sized states particles = record { states = few states; particles = told particles }

-- ---- by those that are known
abbrev pub with_next : Option Size → (Size → Option Size) → Option Size
with_next None next = None
with_next (Some size) next = next size

abbrev pub known : List (Option Size) → ℕ → Option Size
known sizes place = get_or sizes place None

abbrev pub added : Size → Size → Size
added a b = sized (a.states + b.states) (a.particles + b.particles)

abbrev pub sum_size : List (Option Size) → Size → List ℕ → Option Size
sum_size sizes total [] = Some total
sum_size sizes total (place ∷ places) = with_next (known sizes place) (λ size. sum_size sizes (added total size) places)

abbrev pub no_size : Size
no_size = record { states = 0; particles = 0 }

abbrev pub one_state : Size
one_state = record { states = 1; particles = 0 }

abbrev pub sequence_size : List (Option Size) → List ℕ → Option Size
sequence_size sizes [] = Some one_state
sequence_size sizes (place ∷ places) = sum_size sizes no_size (place ∷ places)

abbrev pub choice_size : List (Option Size) → List ℕ → Option Size
choice_size sizes places = sum_size sizes one_state places

abbrev pub group_size : List (Option Size) → Option Group → Option Size
group_size sizes None = Some one_state
group_size sizes (Some g) = of_any g.particle
  where
    of_any : Option ℕ → Option Size
    of_any None = Some one_state
    of_any (Some place) = known sizes place

abbrev pub element_size : Parts → ℕ → Size
element_size p element = sized (of_stand_ins (length (stand_ins p element))) (length (stand_ins p element))

abbrev pub wild_size : Wild → Size
wild_size wild = sized 2 (wild_particles wild)

abbrev pub term_size : Parts → List (Option Size) → Term → Option Size
term_size p sizes (term.Element element) = Some (element_size p element)
term_size p sizes (term.Group group) = group_size sizes (slice_get p.groups group)
term_size p sizes (term.Sequence places) = sequence_size sizes places
term_size p sizes (term.Choice places) = choice_size sizes places
term_size p sizes (term.Wild wild) = Some (wild_size wild)

abbrev pub copied_size : ℕ → Size → Size
copied_size copies size = if copies == 0 then one_state else record { states = few (copies * size.states); particles = size.particles }

abbrev pub particle_size : Parts → List (Option Size) → Option Particle → Option Size
particle_size p sizes None = None
particle_size p sizes (Some x) = with_next (term_size p sizes x.term) (λ size. Some (copied_size (copies x.least x.most) size))

-- ---- what is known of each is so
pub record AreSizes (p : Parts) (sizes : List (Option Size)) : Type 0 where
  pub count : length sizes ≡ length p.particles
  pub each : (place : ℕ) (size : Size) → known sizes place ≡ Some size → size ≡ sized (states_of p place) (particles_of p place)

-- one that is due is known from now on
abbrev pub is_due : Parts → List (Option Size) → ℕ → Bool
is_due p sizes place = if is_some (known sizes place) then false else is_some (particle_size p sizes (slice_get p.particles place))

abbrev pub looked : Parts → List (Option Size) → ℕ → List (Option Size)
looked p sizes place = if is_due p sizes place then set sizes place (particle_size p sizes (slice_get p.particles place)) else sizes

-- none is due
abbrev pub AreSettled : Parts → List (Option Size) → Type 0
AreSettled p sizes = (place : ℕ) → place < length p.particles → is_due p sizes place ≡ false

abbrev pub AreWhole : Parts → List (Option Size) → Type 0
AreWhole p sizes = (place : ℕ) → place < length p.particles → known sizes place ≡ Some (sized (states_of p place) (particles_of p place))

-- how many are not known
abbrev pub unknown : List (Option Size) → ℕ
unknown [] = 0
unknown (None ∷ sizes) = suc (unknown sizes)
unknown (Some size ∷ sizes) = unknown sizes

-- the particles of a term are there
abbrev pub IsTermBelow : Parts → ℕ → Term → Type 0
IsTermBelow p most (term.Element element) = element < length p.elements
IsTermBelow p most (term.Group group) = (group < length p.groups) × All (λ g. IsBelow most g.particle) p.groups
IsTermBelow p most (term.Sequence places) = All (λ place. place < most) places
IsTermBelow p most (term.Choice places) = All (λ place. place < most) places
IsTermBelow p most (term.Wild wild) = Unit {0}
