-- One copy of what a particle is of, by what is made for it.
use Rattle.std.proofs.Common.{◌≡◌, ◌<◌, ℕ, ◌+◌, true, false, Some, List, [], ◌∷◌, ◌++◌, length, slice_get, sym, ap, subst, ◌∙◌, arith}
use Rattle.xsd_model.specs.declared.parts.Particle.{Particle}
use Rattle.xsd_model.specs.declared.parts.Term.{Term}
use Rattle.xsd_model.specs.declared.parts.Term.TheVariants as term
use Rattle.xsd_model.specs.Parts.{IsSchemaParts, Parts}
use Rattle.exi_draft.specs.Drafts.{States}
use Rattle.exi_proto.specs.declared.copies.Copies.{Copies}
use Rattle.exi_proto.specs.declared.copies.How.{How}
use Rattle.exi_proto.specs.declared.spot.Spot.{Spot}
use Rattle.exi_proto.specs.declared.work.Task.TheVariants as task
use Rattle.exi_proto.specs.declared.work.Work.{Work}
use Rattle.exi_proto.specs.Pieces.{Piece}
use Rattle.exi_proto.specs.Places.{with_first}
use Rattle.exi_proto.specs.Protos.{element_piece, piece_of, term_piece}
use Rattle.exi_proto.specs.Tasks.{Fits, IsTask, choice_at, copy_at, copy_states, ends_left, has_none, hows, made, set_at, task_states, tasks_left, whole, whole_with}
use Rattle.exi_proto.proofs.Making.{whole_front, whole_made}
use Rattle.exi_proto.proofs.Parted.{choice_is, copy_is, first_fits, fits_by, more_left, one_left, term_is, term_some}
use Rattle.exi_proto.proofs.Turned.{front_spot, moved_spot}
use Rattle.exi_proto.proofs.Turning.{none_by}

-- its states were made
pub term_made : (p : Parts) (o n : Work) (place : ℕ) (x : Particle) (t : Term) (spot : Spot) → slice_get p.particles place ≡ Some x → x.term ≡ t → made n ≡ made o ++ with_first (ends_left o) (set_at spot (term_piece p (piece_of p) t).states) → ends_left n ≡ [] → tasks_left n ≡ tasks_left o → whole p n ≡ whole_with p o (set_at spot (copy_at p place).states)
term_made p o n place x t spot e f is none same =
    whole_made p o n (set_at spot (term_piece p (piece_of p) t).states) (term_some p t spot) is none same
    ∙ ap (λ (y : Piece). whole_with p o (set_at spot y.states)) (sym (copy_is p place x t e f))

-- a call made or left what comes of it
pub term_left : (p : Parts) (o n : Work) (place : ℕ) (x : Particle) (t : Term) (spot : Spot) → slice_get p.particles place ≡ Some x → x.term ≡ t → whole p n ≡ whole_with p o (set_at spot (term_piece p (piece_of p) t).states) → whole p n ≡ whole_with p o (set_at spot (copy_at p place).states)
term_left p o n place x t spot e f is = is ∙ ap (λ (y : Piece). whole_with p o (set_at spot y.states)) (sym (copy_is p place x t e f))

-- it fits
pub term_fits : (p : Parts) (place : ℕ) (x : Particle) (t : Term) (spot : Spot) → slice_get p.particles place ≡ Some x → x.term ≡ t → Fits spot (length (copy_at p place).states) (copy_at p place).particles → Fits spot (length (term_piece p (piece_of p) t).states) (term_piece p (piece_of p) t).particles
term_fits p place x t spot e f fits = fits_by spot (copy_at p place) (term_piece p (piece_of p) t) (copy_is p place x t e f) fits

-- ---- elements, by parts that are these
pub element_there : (p q : Parts) (place element : ℕ) (x : Particle) → q ≡ p → IsSchemaParts p → slice_get p.particles place ≡ Some x → x.term ≡ term.Element element → element < length q.elements
element_there p q place element x same h e f = subst (λ (r : Parts). element < length r.elements) (sym same) (term_is p place x (term.Element element) h e f)

pub element_fits : (p q : Parts) (place element : ℕ) (x : Particle) (spot : Spot) → q ≡ p → slice_get p.particles place ≡ Some x → x.term ≡ term.Element element → Fits spot (length (copy_at p place).states) (copy_at p place).particles → Fits spot (length (element_piece q element).states) (element_piece q element).particles
element_fits p q place element x spot same e f fits =
    fits_by spot (element_piece p element) (element_piece q element) (ap (λ (r : Parts). element_piece r element) (sym same)) (term_fits p place x (term.Element element) spot e f fits)

pub element_made : (p q : Parts) (o n : Work) (place element : ℕ) (x : Particle) (spot : Spot) → q ≡ p → slice_get p.particles place ≡ Some x → x.term ≡ term.Element element → made n ≡ made o ++ with_first (ends_left o) (set_at spot (element_piece q element).states) → ends_left n ≡ [] → tasks_left n ≡ tasks_left o → whole p n ≡ whole_with p o (set_at spot (copy_at p place).states)
element_made p q o n place element x spot same e f is =
    term_made p o n place x (term.Element element) spot e f (is ∙ ap (λ (r : Parts). made o ++ with_first (ends_left o) (set_at spot (element_piece r element).states)) same)

-- ---- choices
pub choice_left : (p : Parts) (o n : Work) (place : ℕ) (x : Particle) (places : List ℕ) (spot : Spot) → slice_get p.particles place ≡ Some x → x.term ≡ term.Choice places → whole p n ≡ whole_with p o (set_at spot (choice_at p place).states) → whole p n ≡ whole_with p o (set_at spot (copy_at p place).states)
choice_left p o n place x places spot e f is = is ∙ ap (λ (y : Piece). whole_with p o (set_at spot y.states)) (sym (choice_is p place x places e f))

-- ---- copies
-- the last of them
pub copies_one_left : (p : Parts) (o n : Work) (place one : ℕ) (copies others : Copies) (h : How) (spot : Spot) → hows copies ≡ h ∷ hows others → has_none (hows others) ≡ true → whole p n ≡ whole_with p o (set_at spot (copy_states (copy_at p place).states h)) → whole p n ≡ whole_with p o (task_states p (task.Copies place copies one spot))
copies_one_left p o n place one copies others h spot split none is = is ∙ ap (whole_with p o) (sym (one_left p place one copies others h spot split (none_by (hows others) none)))

-- the first of them, and a task for the others
pub copies_front : (p : Parts) (o m : Work) (place one : ℕ) (copies others : Copies) (h : How) (spot : Spot) (w : States) → hows copies ≡ h ∷ hows others → has_none (hows others) ≡ false → one ≡ length (copy_at p place).states → made m ≡ made o → ends_left m ≡ ends_left o → tasks_left m ≡ tasks_left o ++ task.Copies place others one (moved_spot spot one 0) ∷ [] → w ≡ whole_with p m (set_at (front_spot spot one) (copy_states (copy_at p place).states h)) → w ≡ whole_with p o (task_states p (task.Copies place copies one spot))
copies_front p o m place one copies others h spot w split some is made_is ends_are tasks_are then =
    whole_front p o m (task.Copies place others one (moved_spot spot one 0)) (set_at (front_spot spot one) (copy_states (copy_at p place).states h)) w made_is ends_are tasks_are then
    ∙ ap (whole_with p o) (sym (more_left p place one copies others h spot split some is))

pub copies_room : (p : Parts) (place one : ℕ) (copies others : Copies) (h : How) (spot : Spot) → hows copies ≡ h ∷ hows others → IsTask p (task.Copies place copies one spot) → spot.first + one < 4_294_967_296
copies_room p place one copies others h spot split t =
    let fits = (first_fits p place one copies others h spot split t).0 in
    let is = t.counted in
    omega (arith, fits, is)
