-- Tasks by what comes of them.
use Rattle.std.proofs.Common.{◌≡◌, ◌<◌, ◌≤◌, ℕ, ◌+◌, Some, None, Result, Ok, Err, ◌++◌, OnOk, length, slice_get, ap, arith, length-append}
use Rattle.xsd_model.specs.Parts.{Parts}
use Rattle.exi_counts.specs.Counts.{most_states}
use Rattle.exi_draft.specs.Drafts.{States}
use Rattle.exi_proto.specs.declared.spot.Spot.{Spot}
use Rattle.exi_proto.specs.declared.work.Task.TheVariants as task
use Rattle.exi_proto.specs.Protos.{piece_of}
use Rattle.exi_proto.specs.Tasks.{IsTask, inner_places, most_particles, task_states}
use Rattle.exi_proto.proofs.Placing.{length-set}
use Rattle.exi_proto.proofs.Turning.{laid_parts, lined_last, lined_parts, particles_parts, some_below}

pub on_ok3 : {X E : Type 0} {A B C D : Type 0} (r : Result X E) → (A → B → C → D) → OnOk r A → OnOk r B → OnOk r C → OnOk r D
on_ok3 (Ok x) f a b c = f a b c
on_ok3 (Err e) f a b c = a

abbrev pub moved_spot : Spot → ℕ → ℕ → Spot
moved_spot spot s k = record { first = spot.first + s; before = spot.before + k; next = spot.next }

abbrev pub front_spot : Spot → ℕ → Spot
front_spot spot s = record { first = spot.first; before = spot.before; next = Some (spot.first + s) }

module _ (p : Parts) (place from q s k : ℕ) (spot : Spot) (here : slice_get (inner_places p place) from ≡ Some q) (is : s ≡ length (piece_of p q).states) (so : k ≡ (piece_of p q).particles) where
  -- ---- choices
  pub choice_next : task_states p (task.Choice place from spot) ≡ task_states p (task.Particle q spot) ++ task_states p (task.Choice place (from + 1) (moved_spot spot s k))
  choice_next = laid_parts p place from q spot.first spot.before (spot.first + s) (spot.before + k) spot.next here (omega (arith, is)) (omega (arith, so))

  pub choice_particle : IsTask p (task.Choice place from spot) → q < length p.particles → IsTask p (task.Particle q spot)
  choice_particle h inside =
      let l = ap (λ (a : States). length a) choice_next in
      let m = length-append (task_states p (task.Particle q spot)) (task_states p (task.Choice place (from + 1) (moved_spot spot s k))) in
      let n = particles_parts p place from q here in
      let f = h.fits in
      record { inside = inside; fits = (omega (arith, l, m, f.0), omega (arith, n, f.1)); counted = tt }

  pub choice_others : IsTask p (task.Choice place from spot) → IsTask p (task.Choice place (from + 1) (moved_spot spot s k))
  choice_others h =
      let l = ap (λ (a : States). length a) choice_next in
      let m = length-append (task_states p (task.Particle q spot)) (task_states p (task.Choice place (from + 1) (moved_spot spot s k))) in
      let w = length-set spot.first spot.before spot.next (piece_of p q).states in
      let n = particles_parts p place from q here in
      let f = h.fits in
      let below = some_below (inner_places p place) from q here in
      let few = h.counted.0 in
      record { inside = h.inside; fits = (omega (arith, l, m, w, is, f.0), omega (arith, n, so, f.1)); counted = (few, omega (arith, below, few)) }

  pub choice_states : IsTask p (task.Choice place from spot) → spot.first + length (piece_of p q).states ≤ most_states
  choice_states h =
      let l = ap (λ (a : States). length a) choice_next in
      let m = length-append (task_states p (task.Particle q spot)) (task_states p (task.Choice place (from + 1) (moved_spot spot s k))) in
      let w = length-set spot.first spot.before spot.next (piece_of p q).states in
      omega (arith, l, m, w, h.fits.0)

  pub choice_few : IsTask p (task.Choice place from spot) → spot.before + (piece_of p q).particles ≤ most_particles
  choice_few h = let n = particles_parts p place from q here in omega (arith, n, h.fits.1)

  -- ---- sequences
  pub sequence_next : (r : ℕ) → slice_get (inner_places p place) (from + 1) ≡ Some r → task_states p (task.Sequence place from spot) ≡ task_states p (task.Particle q (front_spot spot s)) ++ task_states p (task.Sequence place (from + 1) (moved_spot spot s k))
  sequence_next r there = lined_parts p place from q r spot.first spot.before (spot.first + s) (spot.before + k) spot.next here there (omega (arith, is)) (omega (arith, so))

  pub sequence_particle : (r : ℕ) → slice_get (inner_places p place) (from + 1) ≡ Some r → IsTask p (task.Sequence place from spot) → q < length p.particles → IsTask p (task.Particle q (front_spot spot s))
  sequence_particle r there h inside =
      let l = ap (λ (a : States). length a) (sequence_next r there) in
      let m = length-append (task_states p (task.Particle q (front_spot spot s))) (task_states p (task.Sequence place (from + 1) (moved_spot spot s k))) in
      let n = particles_parts p place from q here in
      let f = h.fits in
      record { inside = inside; fits = (omega (arith, l, m, f.0), omega (arith, n, f.1)); counted = tt }

  pub sequence_others : (r : ℕ) → slice_get (inner_places p place) (from + 1) ≡ Some r → IsTask p (task.Sequence place from spot) → IsTask p (task.Sequence place (from + 1) (moved_spot spot s k))
  sequence_others r there h =
      let l = ap (λ (a : States). length a) (sequence_next r there) in
      let m = length-append (task_states p (task.Particle q (front_spot spot s))) (task_states p (task.Sequence place (from + 1) (moved_spot spot s k))) in
      let w = length-set spot.first spot.before (Some (spot.first + s)) (piece_of p q).states in
      let n = particles_parts p place from q here in
      let f = h.fits in
      let below = some_below (inner_places p place) from q here in
      let few = h.counted.0 in
      record { inside = h.inside; fits = (omega (arith, l, m, w, is, f.0), omega (arith, n, so, f.1)); counted = (few, omega (arith, below, few)) }

  pub sequence_states : (r : ℕ) → slice_get (inner_places p place) (from + 1) ≡ Some r → IsTask p (task.Sequence place from spot) → spot.first + length (piece_of p q).states ≤ most_states
  sequence_states r there h =
      let l = ap (λ (a : States). length a) (sequence_next r there) in
      let m = length-append (task_states p (task.Particle q (front_spot spot s))) (task_states p (task.Sequence place (from + 1) (moved_spot spot s k))) in
      let w = length-set spot.first spot.before (Some (spot.first + s)) (piece_of p q).states in
      omega (arith, l, m, w, h.fits.0)

  pub sequence_few : IsTask p (task.Sequence place from spot) → spot.before + (piece_of p q).particles ≤ most_particles
  sequence_few h = let n = particles_parts p place from q here in omega (arith, n, h.fits.1)

  -- the last particle has the spot of the sequence
  pub last_next : slice_get (inner_places p place) (from + 1) ≡ None → task_states p (task.Sequence place from spot) ≡ task_states p (task.Particle q spot)
  last_next last = lined_last p place from q spot.first spot.before spot.next here last

  pub last_particle : slice_get (inner_places p place) (from + 1) ≡ None → IsTask p (task.Sequence place from spot) → q < length p.particles → IsTask p (task.Particle q spot)
  last_particle last h inside =
      let l = ap (λ (a : States). length a) (last_next last) in
      let n = particles_parts p place from q here in
      let f = h.fits in
      record { inside = inside; fits = (omega (arith, l, f.0), omega (arith, n, f.1)); counted = tt }
