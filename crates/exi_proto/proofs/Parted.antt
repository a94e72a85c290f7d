-- What a particle is of, and the tasks that come of it.
use Rattle.std.proofs.Common.{◌≡◌, ◌<◌, ◌≤◌, ℕ, zero, suc, ◌+◌, ◌*◌, ◌/◌, false, min, Option, Some, None, unwrap_or, List, [], ◌∷◌, ◌++◌, All, drop, get_or, length, map, slice_get, refl, sym, ap, subst, ◌∙◌, arith, length-append}
use Rattle.std.proofs.lemmas.Option.{none-some}
use Rattle.std.proofs.lemmas.List.{length-map}
use Rattle.std.proofs.lemmas.List.Elements.{All-head, All-tail}
use Rattle.xsd_model.specs.declared.parts.Group.{Group}
use Rattle.xsd_model.specs.declared.parts.Particle.{Particle}
use Rattle.xsd_model.specs.declared.parts.Term.{Term}
use Rattle.xsd_model.specs.declared.parts.Term.TheVariants as term
use Rattle.xsd_model.specs.declared.parts.Wild.{Wild}
use Rattle.xsd_model.specs.Parts.{IsAtMost, IsBelow, IsSchemaParts, IsTerm, Parts}
use Rattle.exi_counts.specs.Counts as count
use Rattle.exi_counts.specs.Counts.{in_sequence, most_states, states_of, sum_of}
use Rattle.exi_draft.specs.Drafts.{States}
use Rattle.exi_proto.specs.declared.copies.Copies.{Copies}
use Rattle.exi_proto.specs.declared.copies.How.{How}
use Rattle.exi_proto.specs.declared.spot.Spot.{Spot}
use Rattle.exi_proto.specs.declared.work.Task.TheVariants as task
use Rattle.exi_proto.specs.Pieces.{counts_of, Piece, choice, copied, copies_of, none_where_empty, sequence}
use Rattle.exi_proto.specs.Places.{end_step, laid, set, starts_by}
use Rattle.exi_proto.specs.Protos.{group_piece, one_of_them, opening_piece, piece_of, term_piece, wild_piece}
use Rattle.exi_proto.specs.Tasks.{Fits, IsTask, choice_at, copied_line, copied_piece, copy_at, copy_states, group_at, has_none, hows, hows_of, inner_in, inner_places, inner_term, pieces_from, set_at, task_states}
use Rattle.exi_proto.proofs.Counting.{counts-openings, length-choice, length-copied, length-sequence, length-wild, particles-openings}
use Rattle.exi_proto.proofs.Inside.{good_copy, good_piece}
use Rattle.exi_proto.proofs.Leafing.{not_alone, one_alone}
use Rattle.exi_proto.proofs.Placing.{length-set, set-choice, set-ending, set-sequence}
use Rattle.exi_proto.proofs.Steady.{particle_is}
use Rattle.exi_proto.proofs.Turned.{moved_spot}
use Rattle.exi_proto.proofs.Turning.{copied_rest, copies_are, counted_states, empty_by, length-copy, length-hows, one_copy, piece_at, set-copies}

drop_zero : (xs : List ℕ) → drop 0 xs ≡ xs
drop_zero [] = refl
drop_zero (x ∷ xs) = refl

-- ---- each piece has a state
many_states : (p : Parts) (xs : List ℕ) → length xs ≤ sum_of (counts_of (map (piece_of p) xs))
many_states p [] = omega arith
many_states p (x ∷ xs) =
    let one = (good_piece p x).some in
    let others = many_states p xs in
    omega (arith, one, others)

sum_sequence : (xs : List ℕ) → sum_of xs ≤ in_sequence xs
sum_sequence [] = omega arith
sum_sequence (x ∷ xs) = omega arith

few_inner : (p : Parts) (place : ℕ) → length (inner_places p place) ≤ sum_of (counts_of (pieces_from p place 0))
few_inner p place = subst (λ (xs : List ℕ). length (inner_places p place) ≤ sum_of (counts_of (map (piece_of p) xs))) (sym (drop_zero (inner_places p place))) (many_states p (inner_places p place))

-- ---- what the particle at a place is of
pub copy_is : (p : Parts) (place : ℕ) (x : Particle) (t : Term) → slice_get p.particles place ≡ Some x → x.term ≡ t → copy_at p place ≡ term_piece p (piece_of p) t
copy_is p place x t e f = ap (copied_piece p) e ∙ ap (term_piece p (piece_of p)) f

pub term_is : (p : Parts) (place : ℕ) (x : Particle) (t : Term) → IsSchemaParts p → slice_get p.particles place ≡ Some x → x.term ≡ t → IsTerm p place t
term_is p place x t h e f = subst (IsTerm p place) f (particle_is p place x h e).term_is

pub inner_are : (p : Parts) (place : ℕ) (x : Particle) (t : Term) → slice_get p.particles place ≡ Some x → x.term ≡ t → inner_places p place ≡ inner_term t
inner_are p place x t e f = ap inner_in e ∙ ap inner_term f

pub from_start : (p : Parts) (place : ℕ) (places : List ℕ) → inner_places p place ≡ places → map (piece_of p) places ≡ pieces_from p place 0
from_start p place places e = ap (map (piece_of p)) (sym e ∙ sym (drop_zero (inner_places p place)))

pub sequence_is : (p : Parts) (place : ℕ) (x : Particle) (places : List ℕ) → slice_get p.particles place ≡ Some x → x.term ≡ term.Sequence places → copy_at p place ≡ sequence (pieces_from p place 0)
sequence_is p place x places e f = copy_is p place x (term.Sequence places) e f ∙ ap sequence (from_start p place places (inner_are p place x (term.Sequence places) e f))

pub choice_is : (p : Parts) (place : ℕ) (x : Particle) (places : List ℕ) → slice_get p.particles place ≡ Some x → x.term ≡ term.Choice places → copy_at p place ≡ choice_at p place
choice_is p place x places e f = copy_is p place x (term.Choice places) e f ∙ ap choice (from_start p place places (inner_are p place x (term.Choice places) e f))

pub term_some : (p : Parts) (t : Term) (spot : Spot) → 1 ≤ length (set_at spot (term_piece p (piece_of p) t).states)
term_some p t spot =
    let s = length-set spot.first spot.before spot.next (term_piece p (piece_of p) t).states in
    let some = (good_copy p t).some in
    omega (arith, s, some)

pub fits_by : (spot : Spot) (x y : Piece) → x ≡ y → Fits spot (length x.states) x.particles → Fits spot (length y.states) y.particles
fits_by spot x y e f = subst (λ (z : Piece). Fits spot (length z.states) z.particles) e f

pub wild_fits : (w : Wild) (spot : Spot) (x : Piece) → x ≡ wild_piece w → Fits spot (length x.states) x.particles → Fits spot 2 (wild_piece w).particles
wild_fits w spot x e f = subst (λ (n : ℕ). Fits spot n (wild_piece w).particles) (length-wild w) (fits_by spot x (wild_piece w) e f)

-- ---- sequences and choices
pub sequence_states_are : (p : Parts) (place : ℕ) (spot : Spot) → copy_at p place ≡ sequence (pieces_from p place 0) → set_at spot (copy_at p place).states ≡ task_states p (task.Sequence place 0 spot)
sequence_states_are p place spot e = ap (λ (x : Piece). set_at spot x.states) e ∙ set-sequence spot.first spot.before spot.next (pieces_from p place 0)

pub sequence_task : (p : Parts) (place : ℕ) (spot : Spot) → copy_at p place ≡ sequence (pieces_from p place 0) → place < length p.particles → Fits spot (length (copy_at p place).states) (copy_at p place).particles → IsTask p (task.Sequence place 0 spot)
sequence_task p place spot e inside f =
    let l = ap (λ (a : States). length a) (sequence_states_are p place spot e) in
    let s = length-set spot.first spot.before spot.next (copy_at p place).states in
    let n = ap (λ (x : Piece). x.particles) e in
    let c = ap (λ (x : Piece). length x.states) e in
    let q = length-sequence (pieces_from p place 0) in
    let few = few_inner p place in
    let more = sum_sequence (counts_of (pieces_from p place 0)) in
    let a = f.0 in
    let b = f.1 in
    record { inside = inside; fits = (omega (arith, l, s, a), omega (arith, n, b)); counted = (omega (arith, c, q, few, more, a), omega arith) }

pub choice_room : (p : Parts) (place : ℕ) (spot : Spot) → Fits spot (length (choice_at p place).states) (choice_at p place).particles → spot.first + 1 + sum_of (counts_of (pieces_from p place 0)) ≤ most_states
choice_room p place spot f = let c = length-choice (pieces_from p place 0) in let a = f.0 in omega (arith, c, a)

pub choice_states_are : (p : Parts) (place : ℕ) (spot : Spot) → set_at spot (choice_at p place).states ≡ starts_by (spot.first + 1) (counts_of (pieces_from p place 0)) ∷ task_states p (task.Choice place 0 (moved_spot spot 1 0))
choice_states_are p place spot =
    let zero_more : spot.before ≡ spot.before + 0 = omega arith in
    set-choice spot.first spot.before spot.next (pieces_from p place 0)
    ∙ ap (λ (n : ℕ). starts_by (spot.first + 1) (counts_of (pieces_from p place 0)) ∷ laid (spot.first + 1) n spot.next (pieces_from p place 0)) zero_more

pub choice_task : (p : Parts) (place : ℕ) (spot : Spot) → place < length p.particles → Fits spot (length (choice_at p place).states) (choice_at p place).particles → IsTask p (task.Choice place 0 (moved_spot spot 1 0))
choice_task p place spot inside f =
    let l = ap (λ (a : States). length a) (choice_states_are p place spot) in
    let s = length-set spot.first spot.before spot.next (choice_at p place).states in
    let few = few_inner p place in
    let room = choice_room p place spot f in
    let a = f.0 in
    let b = f.1 in
    record { inside = inside; fits = (omega (arith, l, s, a), omega (arith, b)); counted = (omega (arith, few, room), omega arith) }

-- ---- groups
pub group_none : (p : Parts) (g : ℕ) (x : Group) (spot : Spot) → slice_get p.groups g ≡ Some x → x.particle ≡ None → set_at spot (group_at p g).states ≡ (end_step spot.first spot.next ∷ []) ∷ []
group_none p g x spot e f = ap (λ (y : Piece). set_at spot y.states) (ap (group_piece (piece_of p)) e ∙ nothing x.particle f) ∙ ap (λ (s : _). (s ∷ []) ∷ []) (set-ending spot.first spot.before spot.next)
  where
    nothing : (o : Option ℕ) → o ≡ None → group_piece (piece_of p) (Some (record { particle = o; event = x.event })) ≡ sequence []
    nothing None e = refl
    nothing (Some q) e = absurd (none-some q (sym e))

pub group_some : (p : Parts) (g q : ℕ) (x : Group) → slice_get p.groups g ≡ Some x → x.particle ≡ Some q → group_at p g ≡ piece_of p q
group_some p g q x e f = ap (group_piece (piece_of p)) e ∙ one x.particle f
  where
    one : (o : Option ℕ) → o ≡ Some q → group_piece (piece_of p) (Some (record { particle = o; event = x.event })) ≡ piece_of p q
    one None e = absurd (none-some q e)
    one (Some r) e = ap (λ (o : Option ℕ). piece_of p (unwrap_or o r)) e

pub group_inside : (p : Parts) (g q : ℕ) (x : Group) → IsSchemaParts p → slice_get p.groups g ≡ Some x → x.particle ≡ Some q → q < length p.particles
group_inside p g q x h e f = subst (IsBelow (length p.particles)) f (one_of p.groups g h.groups e)
  where
    one_of : (gs : List Group) (i : ℕ) → All (λ (y : Group). IsBelow (length p.particles) y.particle) gs → slice_get gs i ≡ Some x → IsBelow (length p.particles) x.particle
    one_of [] i all e = absurd (none-some x e)
    one_of (y ∷ gs) zero all e = let same : y ≡ x = ap (λ (o : Option Group). unwrap_or o y) e in subst (λ (z : Group). IsBelow (length p.particles) z.particle) same (All-head (λ (y : Group). IsBelow (length p.particles) y.particle) y gs all)
    one_of (y ∷ gs) (suc i) all e = one_of gs i (All-tail (λ (y : Group). IsBelow (length p.particles) y.particle) y gs all) e

pub particle_task : (p : Parts) (q : ℕ) (spot : Spot) (x : Piece) → x ≡ piece_of p q → q < length p.particles → Fits spot (length x.states) x.particles → IsTask p (task.Particle q spot)
particle_task p q spot x e inside f =
    let l = ap (λ (y : Piece). length y.states) e in
    let n = ap (λ (y : Piece). y.particles) e in
    let s = length-set spot.first spot.before spot.next (piece_of p q).states in
    let a = f.0 in
    let b = f.1 in
    record { inside = inside; fits = (omega (arith, l, s, a), omega (arith, n, b)); counted = tt }

-- ---- copies
pub copies_states : (p : Parts) (place one : ℕ) (x : Particle) (copies : Copies) (spot : Spot) → IsSchemaParts p → place < length p.particles → slice_get p.particles place ≡ Some x → hows copies ≡ hows_of x.least x.most → set_at spot (piece_of p place).states ≡ task_states p (task.Copies place copies one spot)
copies_states p place one x copies spot h less e same =
    ap (λ (y : Piece). set_at spot y.states) (piece_at p place x h less e)
    ∙ set-copies spot.first spot.before spot.next x.least x.most (copy_at p place)
    ∙ ap (copied_line spot.first spot.before spot.next (copy_at p place).states) (sym same)

-- no copies
pub no_copies : (p : Parts) (place : ℕ) (x : Particle) (spot : Spot) → IsSchemaParts p → place < length p.particles → slice_get p.particles place ≡ Some x → count.copies x.least x.most ≡ 0 → set_at spot (piece_of p place).states ≡ (end_step spot.first spot.next ∷ []) ∷ []
no_copies p place x spot h less e none =
    ap (λ (y : Piece). set_at spot y.states) (piece_at p place x h less e)
    ∙ set-copies spot.first spot.before spot.next x.least x.most (copy_at p place)
    ∙ ap (copied_line spot.first spot.before spot.next (copy_at p place).states) (empty_by (hows_of x.least x.most) (length-hows x.least x.most ∙ none))

-- where there are copies, they have the particles of one
unless_none : {X : Type 0} (xs : List X) (n : ℕ) → (length xs ≡ 0 → ⊥) → none_where_empty xs n ≡ n
unless_none [] n some = absurd (some refl)
unless_none (x ∷ xs) n some = refl

pub particles_are : (least : ℕ) (most : Option ℕ) (x : Piece) → (count.copies least most ≡ 0 → ⊥) → (copied least most x).particles ≡ x.particles
particles_are least most x some =
    let l = ap (λ (zs : List States). length zs) (copies_are least most x.states) ∙ length-map (hows_of least most) (copy_states x.states) ∙ length-hows least most in
    unless_none (copies_of least most x.states) x.particles (λ e. some (sym l ∙ e))

pub copies_one : (p : Parts) (place told : ℕ) (x : Particle) (spot : Spot) → IsTask p (task.Particle place spot) → IsSchemaParts p → slice_get p.particles place ≡ Some x → (count.copies x.least x.most ≡ 0 → ⊥) → told ≡ min (states_of p place) (suc most_states) → told / count.copies x.least x.most ≡ length (copy_at p place).states
copies_one p place told x spot task h e some is =
    let whole = ap (λ (y : Piece). length y.states) (piece_at p place x h task.inside e) ∙ length-copied x.least x.most (copy_at p place) in
    let counted = counted_states p place in
    let s = length-set spot.first spot.before spot.next (piece_of p place).states in
    let a = task.fits.0 in
    one_copy (count.copies x.least x.most) (length (copy_at p place).states) told most_states some (omega (arith, is, whole, counted)) (omega (arith, whole, s, a))

pub copies_task : (p : Parts) (place one : ℕ) (x : Particle) (copies : Copies) (spot : Spot) → IsTask p (task.Particle place spot) → IsSchemaParts p → slice_get p.particles place ≡ Some x → (count.copies x.least x.most ≡ 0 → ⊥) → hows copies ≡ hows_of x.least x.most → one ≡ length (copy_at p place).states → IsTask p (task.Copies place copies one spot)
copies_task p place one x copies spot t h e some same is =
    let l = ap (λ (a : States). length a) (copies_states p place one x copies spot h t.inside e same) in
    let n = ap (λ (y : Piece). y.particles) (piece_at p place x h t.inside e) ∙ particles_are x.least x.most (copy_at p place) some in
    let a = t.fits.0 in
    let b = t.fits.1 in
    record { inside = t.inside; fits = (omega (arith, l, a), omega (arith, n, b)); counted = is }

pub turned_task : (p : Parts) (place n told : ℕ) (x : Particle) (copies : Copies) (spot : Spot) → IsTask p (task.Particle place spot) → IsSchemaParts p → slice_get p.particles place ≡ Some x → n ≡ count.copies x.least x.most → (n ≡ 0 → ⊥) → told ≡ min (states_of p place) (suc most_states) → hows copies ≡ hows_of x.least x.most → IsTask p (task.Copies place copies (told / n) spot)
turned_task p place n told x copies spot t h e is some told_is same =
    let there : count.copies x.least x.most ≡ 0 → ⊥ = λ f. some (is ∙ f) in
    copies_task p place (told / n) x copies spot t h e there same (ap (λ (k : ℕ). told / k) is ∙ copies_one p place told x spot t h e there told_is)

pub bounds_are : (p : Parts) (place : ℕ) (x : Particle) → IsSchemaParts p → slice_get p.particles place ≡ Some x → IsAtMost x.least x.most
bounds_are p place x h e = (particle_is p place x h e).bounds

-- ---- the first of several copies, and the others
pub one_left : (p : Parts) (place one : ℕ) (copies others : Copies) (h : How) (spot : Spot) → hows copies ≡ h ∷ hows others → hows others ≡ [] → task_states p (task.Copies place copies one spot) ≡ set_at spot (copy_states (copy_at p place).states h)
one_left p place one copies others h spot split none = ap (copied_line spot.first spot.before spot.next (copy_at p place).states) (split ∙ ap (λ (hs : List How). h ∷ hs) none)

pub none_left : (p : Parts) (place one : ℕ) (copies : Copies) (spot : Spot) → hows copies ≡ [] → task_states p (task.Copies place copies one spot) ≡ (end_step spot.first spot.next ∷ []) ∷ []
none_left p place one copies spot none = ap (copied_line spot.first spot.before spot.next (copy_at p place).states) none

pub more_left : (p : Parts) (place one : ℕ) (copies others : Copies) (h : How) (spot : Spot) → hows copies ≡ h ∷ hows others → has_none (hows others) ≡ false → one ≡ length (copy_at p place).states → task_states p (task.Copies place copies one spot) ≡ set spot.first spot.before (Some (spot.first + one)) (copy_states (copy_at p place).states h) ++ task_states p (task.Copies place others one (moved_spot spot one 0))
more_left p place one copies others h spot split some is =
    let zero_more : spot.before ≡ spot.before + 0 = omega arith in
    ap (copied_line spot.first spot.before spot.next (copy_at p place).states) split
    ∙ copied_rest spot.first spot.before (spot.first + one) spot.next (copy_at p place).states h (hows others) some (ap (λ (n : ℕ). spot.first + n) (sym is))
    ∙ ap (λ (n : ℕ). set spot.first spot.before (Some (spot.first + one)) (copy_states (copy_at p place).states h) ++ copied_line (spot.first + one) n spot.next (copy_at p place).states (hows others)) zero_more

pub more_task : (p : Parts) (place one : ℕ) (copies others : Copies) (h : How) (spot : Spot) → hows copies ≡ h ∷ hows others → has_none (hows others) ≡ false → IsTask p (task.Copies place copies one spot) → IsTask p (task.Copies place others one (moved_spot spot one 0))
more_task p place one copies others h spot split some t =
    let l = ap (λ (a : States). length a) (more_left p place one copies others h spot split some t.counted) in
    let m = length-append (set spot.first spot.before (Some (spot.first + one)) (copy_states (copy_at p place).states h)) (task_states p (task.Copies place others one (moved_spot spot one 0))) in
    let s = length-set spot.first spot.before (Some (spot.first + one)) (copy_states (copy_at p place).states h) in
    let c = length-copy (copy_at p place).states h in
    let is = t.counted in
    let a = t.fits.0 in
    let b = t.fits.1 in
    record { inside = t.inside; fits = (omega (arith, l, m, s, c, is, a), omega (arith, b)); counted = is }

-- the first fits
pub first_fits : (p : Parts) (place one : ℕ) (copies others : Copies) (h : How) (spot : Spot) → hows copies ≡ h ∷ hows others → IsTask p (task.Copies place copies one spot) → Fits spot (length (copy_at p place).states) (copy_at p place).particles
first_fits p place one copies others h spot split t =
    let l = ap (λ (hs : List How). length (copied_line spot.first spot.before spot.next (copy_at p place).states hs)) split in
    let most = at_least (hows others) in
    let a = t.fits.0 in
    (omega (arith, l, most, a), t.fits.1)
  where
    at_least : (hs : List How) → length (copy_at p place).states ≤ length (copied_line spot.first spot.before spot.next (copy_at p place).states (h ∷ hs))
    at_least [] =
        let s = length-set spot.first spot.before spot.next (copy_states (copy_at p place).states h) in
        let c = length-copy (copy_at p place).states h in
        omega (arith, s, c)
    at_least (g ∷ gs) =
        let n = spot.first + length (copy_at p place).states in
        let m = length-append (set spot.first spot.before (Some n) (copy_states (copy_at p place).states h)) (copied_line n spot.before spot.next (copy_at p place).states (g ∷ gs)) in
        let s = length-set spot.first spot.before (Some n) (copy_states (copy_at p place).states h) in
        let c = length-copy (copy_at p place).states h in
        omega (arith, m, s, c)

-- ---- elements that may stand for one
pub one_only : (xs : List ℕ) (d : ℕ) → length xs ≡ 1 → xs ≡ get_or xs 0 d ∷ []
one_only [] d e = absurd (omega (arith, e))
one_only (x ∷ []) d e = refl
one_only (x ∷ (y ∷ ys)) d e = absurd (omega (arith, e))

pub openings_are : (p : Parts) (xs ys : List ℕ) → xs ≡ ys → (length xs ≡ 1 → ⊥) → choice (map (opening_piece p) xs) ≡ one_of_them (map (opening_piece p) ys)
openings_are p xs ys e many = sym (not_alone p xs many) ∙ ap (λ (zs : List ℕ). one_of_them (map (opening_piece p) zs)) e

pub openings_fit : (p : Parts) (xs ys : List ℕ) (spot : Spot) → xs ≡ ys → (length xs ≡ 1 → ⊥) → Fits spot (length (one_of_them (map (opening_piece p) ys)).states) (one_of_them (map (opening_piece p) ys)).particles → Fits spot (2 * length xs + 1) (length xs)
openings_fit p xs ys spot e many f =
    let same = openings_are p xs ys e many in
    let l = ap (λ (y : Piece). length y.states) same in
    let k = ap (λ (y : Piece). y.particles) same in
    let c = length-choice (map (opening_piece p) xs) in
    let s = counts-openings p xs in
    let n = particles-openings p xs in
    let a = f.0 in
    let b = f.1 in
    (omega (arith, l, c, s, a), omega (arith, k, n, b))

pub opening_alone : (p : Parts) (xs ys : List ℕ) (d : ℕ) → xs ≡ ys → length xs ≡ 1 → opening_piece p (get_or xs 0 d) ≡ one_of_them (map (opening_piece p) ys)
opening_alone p xs ys d e one = sym (one_alone p (get_or xs 0 d) xs (one_only xs d one)) ∙ ap (λ (zs : List ℕ). one_of_them (map (opening_piece p) zs)) e
