-- What is still to be made of a grammar, and what comes of it.
use Rattle.std.specs.Prelude.{◌≡◌, ◌<◌, ◌≤◌, ℕ, ◌+◌, ◌-◌, Bool, true, false, Option, Some, None, List, [], ◌∷◌, ◌++◌, drop, length, map, min, replicate, slice_get}
use Rattle.exi_gram.specs.Terminals.{StepRule, se, step_rule}
use Rattle.xsd_model.specs.declared.parts.ElementDecl.{ElementDecl}
use Rattle.xsd_model.specs.declared.parts.Particle.{Particle}
use Rattle.xsd_model.specs.declared.parts.Term.{Term}
use Rattle.xsd_model.specs.declared.parts.Term.TheVariants as term
use Rattle.xsd_model.specs.Parts.{Parts}
use Rattle.exi_counts.specs.Counts.{most_states}
use Rattle.exi_draft.specs.Drafts.{States}
use Rattle.exi_elements.specs.StandIns.{opener}
use Rattle.exi_proto.specs.declared.copies.Copies.{Copies}
use Rattle.exi_proto.specs.declared.copies.How.{How}
use Rattle.exi_proto.specs.declared.copies.How.TheVariants as how
use Rattle.exi_proto.specs.declared.spot.Spot.{Spot}
use Rattle.exi_proto.specs.declared.work.End.{End}
use Rattle.exi_proto.specs.declared.work.Task.{Task}
use Rattle.exi_proto.specs.declared.work.Task.TheVariants as task
use Rattle.exi_proto.specs.declared.work.Work.{Work}
use Rattle.exi_proto.specs.Pieces.{Piece, choice, optional, particles_of, repeated, sequence}
use Rattle.exi_proto.specs.Places.{end_step, laid, lined, set, with_first}
use Rattle.exi_proto.specs.Protos.{group_piece, piece_of, term_piece}

-- ---- copies, one after another
abbrev pub hows : Copies → List How
hows c = replicate c.least how.Once ++ further c.more
  where
    further : Option ℕ → List How
    further None = how.Repeated ∷ []
    further (Some more) = replicate more how.Optional

-- of what stands at least and at most so often
abbrev pub hows_of : ℕ → Option ℕ → List How
hows_of least None = replicate least how.Once ++ how.Repeated ∷ []
hows_of least (Some most) = replicate (min least most) how.Once ++ replicate (most - least) how.Optional

abbrev pub copy_states : States → How → States
copy_states states how.Once = states
copy_states states how.Optional = optional states
copy_states states how.Repeated = repeated states

abbrev pub has_none : {X : Type 0} → List X → Bool
has_none [] = true
has_none (x ∷ xs) = false

abbrev pub Splits : Option (How × Copies) → Copies → Type 0
Splits None copies = hows copies ≡ []
Splits (Some (first, others)) copies = hows copies ≡ first ∷ hows others

-- ---- the parts of a particle
-- SE of the element at a place, which leads to a state, and the place of its particle
abbrev pub opening_in : Parts → ℕ → ℕ → ℕ → Option ElementDecl → List StepRule
opening_in p place to particle None = []
opening_in p place to particle (Some e) = record { on = Some (se e.name); to = to; inner = Some (opener p place); particle = Some particle } ∷ []

abbrev pub opening_at : Parts → ℕ → ℕ → ℕ → List StepRule
opening_at p place to particle = opening_in p place to particle (slice_get p.elements place)

-- one copy of it
abbrev pub copied_piece : Parts → Option Particle → Piece
copied_piece p None = sequence []
copied_piece p (Some x) = term_piece p (piece_of p) x.term

abbrev pub copy_at : Parts → ℕ → Piece
copy_at p place = copied_piece p (slice_get p.particles place)

-- what stands one after another, or by choice
abbrev pub inner_term : Term → List ℕ
inner_term (term.Element element) = []
inner_term (term.Group group) = []
inner_term (term.Sequence places) = places
inner_term (term.Choice places) = places
inner_term (term.Wild wild) = []

abbrev pub inner_in : Option Particle → List ℕ
inner_in None = []
inner_in (Some x) = inner_term x.term

abbrev pub inner_places : Parts → ℕ → List ℕ
inner_places p place = inner_in (slice_get p.particles place)

abbrev pub pieces_from : Parts → ℕ → ℕ → List Piece
pieces_from p place from = map (piece_of p) (drop from (inner_places p place))

abbrev pub choice_at : Parts → ℕ → Piece
choice_at p place = choice (pieces_from p place 0)

abbrev pub group_at : Parts → ℕ → Piece
group_at p place = group_piece (piece_of p) (slice_get p.groups place)

-- ---- the states of a task, and how many particles they have
abbrev pub set_at : Spot → States → States
set_at spot states = set spot.first spot.before spot.next states

-- one copy after another
abbrev pub copied_behind : ℕ → ℕ → Option ℕ → States → How → List How → States
copied_behind first before next states h [] = set first before next (copy_states states h)
copied_behind first before next states h (g ∷ gs) = set first before (Some (first + length states)) (copy_states states h) ++ copied_behind (first + length states) before next states g gs

abbrev pub copied_line : ℕ → ℕ → Option ℕ → States → List How → States
copied_line first before next states [] = (end_step first next ∷ []) ∷ []
copied_line first before next states (h ∷ hs) = copied_behind first before next states h hs

abbrev pub task_states : Parts → Task → States
task_states p (task.Particle particle spot) = set_at spot (piece_of p particle).states
task_states p (task.Copies particle copies one spot) = copied_line spot.first spot.before spot.next (copy_at p particle).states (hows copies)
task_states p (task.Sequence particle from spot) = lined spot.first spot.before spot.next (pieces_from p particle from)
task_states p (task.Choice particle from spot) = laid spot.first spot.before spot.next (pieces_from p particle from)

abbrev pub task_particles : Parts → Task → ℕ
task_particles p (task.Particle particle spot) = (piece_of p particle).particles
task_particles p (task.Copies particle copies one spot) = (copy_at p particle).particles
task_particles p (task.Sequence particle from spot) = particles_of (pieces_from p particle from)
task_particles p (task.Choice particle from spot) = particles_of (pieces_from p particle from)

-- the last is the next
abbrev pub coming : Parts → List Task → States
coming p [] = []
coming p (t ∷ ts) = coming p ts ++ task_states p t

-- ---- what is made, and what is to come
abbrev pub made : Work → States
made w = map (map step_rule) w.made

abbrev pub end_rule : End → StepRule
end_rule e = end_step e.state e.next

abbrev pub ends_left : Work → List StepRule
ends_left w = map end_rule w.ends.items

abbrev pub tasks_left : Work → List Task
tasks_left w = w.tasks.items

-- where these states come next
abbrev pub whole_with : Parts → Work → States → States
whole_with p w states = made w ++ with_first (ends_left w) (states ++ coming p (tasks_left w))

abbrev pub whole : Parts → Work → States
whole p w = made w ++ with_first (ends_left w) (coming p (tasks_left w))

-- ---- what fits
-- the most particles of one grammar, so that their number shows that they are counted whole
abbrev pub most_particles : ℕ
most_particles = 4_294_967_294

abbrev pub Fits : Spot → ℕ → ℕ → Type 0
Fits spot states particles = (spot.first + states ≤ most_states) × (spot.before + particles ≤ most_particles)

abbrev pub spot_of : Task → Spot
spot_of (task.Particle particle spot) = spot
spot_of (task.Copies particle copies one spot) = spot
spot_of (task.Sequence particle from spot) = spot
spot_of (task.Choice particle from spot) = spot

abbrev pub place_of : Task → ℕ
place_of (task.Particle particle spot) = particle
place_of (task.Copies particle copies one spot) = particle
place_of (task.Sequence particle from spot) = particle
place_of (task.Choice particle from spot) = particle

-- each copy has so many states; places within sequences and choices are small
abbrev pub IsCounted : Parts → Task → Type 0
IsCounted p (task.Particle particle spot) = Unit {0}
IsCounted p (task.Copies particle copies one spot) = one ≡ length (copy_at p particle).states
IsCounted p (task.Sequence particle from spot) = (length (inner_places p particle) ≤ most_states) × (from ≤ most_states)
IsCounted p (task.Choice particle from spot) = (length (inner_places p particle) ≤ most_states) × (from ≤ most_states)

pub record IsTask (p : Parts) (t : Task) : Type 0 where
  pub inside : place_of t < length p.particles
  pub fits : Fits (spot_of t) (length (task_states p t)) (task_particles p t)
  pub counted : IsCounted p t
