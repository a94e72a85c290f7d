-- How many states and particles pieces have.
use Rattle.std.proofs.Common.{◌≡◌, ℕ, zero, suc, ◌+◌, ◌-◌, ◌*◌, ◌==◌, Bool, cond, Option, Some, None, List, [], ◌∷◌, ◌++◌, length, map, min, slice_get, refl, sym, ap, ◌∙◌, arith, length-append}
use Rattle.std.proofs.Math.ListN.{replicate}
use Rattle.std.proofs.lemmas.Bool.{ne_eqb}
use Rattle.std.proofs.lemmas.List.{length-map, length-replicate, map-append}
use Rattle.exi_gram.specs.Terminals.{StepRule}
use Rattle.xsd_model.specs.declared.parts.Group.{Group}
use Rattle.xsd_model.specs.declared.parts.Particle.{Particle}
use Rattle.xsd_model.specs.declared.parts.Term.{Term}
use Rattle.xsd_model.specs.declared.parts.Term.TheVariants as term
use Rattle.xsd_model.specs.declared.parts.Wild.{Wild}
use Rattle.xsd_model.specs.declared.parts.Wild.TheVariants as wild
use Rattle.xsd_model.specs.Parts.{Parts}
use Rattle.exi_elements.specs.StandIns.{stand_ins}
use Rattle.exi_counts.specs.Counts as count
use Rattle.exi_counts.specs.Counts.{in_sequence, of_stand_ins, particles_within, states_within, sum_of}
use Rattle.exi_draft.specs.Drafts.{States}
use Rattle.exi_proto.specs.Pieces.{counts_of, Piece, behind_step, branches_from, choice, copied, copies_of, joined, joined_all, joined_behind, led, led_step, none_where_empty, optional, particles_of, placed, raised, raised_step, repeated, sequence, with_start}
use Rattle.exi_proto.specs.Protos.{group_piece, one_of_them, opening_piece, particle_piece, piece_within, term_piece, wild_piece}

-- ---- joined
pub length-joined : (a b : States) → length (joined a b) ≡ length a + length b
length-joined a b =
    let l = length-append (led (length a) a) (raised (length a) b) in
    let m = length-map a (map (led_step (length a))) in
    let r = length-map b (map (raised_step (length a))) in
    omega (arith, l, m, r)

pub length-joined_behind : (a : States) (bs : List States) → length (joined_behind a bs) ≡ length a + sum_of (map (λ b. length b) bs)
length-joined_behind a [] = omega arith
length-joined_behind a (b ∷ bs) =
    let l = length-joined a (joined_behind b bs) in
    let r = length-joined_behind b bs in
    omega (arith, l, r)

pub length-joined_all : (zs : List States) → length (joined_all zs) ≡ in_sequence (map (λ b. length b) zs)
length-joined_all [] = refl
length-joined_all (a ∷ zs) = length-joined_behind a zs

pub lengths-placed : (n : ℕ) (xs : List Piece) → map (λ b. length b) (placed n xs) ≡ counts_of xs
lengths-placed n [] = refl
lengths-placed n (x ∷ xs) =
    ap (λ (k : ℕ). k ∷ map (λ b. length b) (placed (n + x.particles) xs)) (length-map x.states (map (behind_step n)))
    ∙ ap (λ (ks : List ℕ). length x.states ∷ ks) (lengths-placed (n + x.particles) xs)

pub length-sequence : (xs : List Piece) → length (sequence xs).states ≡ in_sequence (counts_of xs)
length-sequence xs = length-joined_all (placed 0 xs) ∙ ap in_sequence (lengths-placed 0 xs)

-- ---- beside one another
length-branches : (n : ℕ) (zs : List States) → length (branches_from n zs) ≡ sum_of (map (λ b. length b) zs)
length-branches n [] = refl
length-branches n (a ∷ zs) =
    let l = length-append (raised n a) (branches_from (n + length a) zs) in
    let m = length-map a (map (raised_step n)) in
    let r = length-branches (n + length a) zs in
    omega (arith, l, m, r)

pub length-choice : (xs : List Piece) → length (choice xs).states ≡ suc (sum_of (counts_of xs))
length-choice xs = ap suc (length-branches 1 (placed 0 xs) ∙ ap sum_of (lengths-placed 0 xs))

-- ---- copies
pub length-with_start : (s : StepRule) (a : States) → length (with_start s a) ≡ length a
length-with_start s [] = refl
length-with_start s (x ∷ a) = refl

pub length-optional : (a : States) → length (optional a) ≡ length a
length-optional [] = refl
length-optional (x ∷ a) = refl

pub length-repeated : (a : States) → length (repeated a) ≡ length a
length-repeated a = length-optional (led 0 a) ∙ length-map a (map (led_step 0))

lengths-replicate : (n k : ℕ) (a : States) → length a ≡ k → map (λ b. length b) (replicate n a) ≡ replicate n k
lengths-replicate zero k a e = refl
lengths-replicate (suc n) k a e = ap (λ (j : ℕ). j ∷ map (λ b. length b) (replicate n a)) e ∙ ap (λ (js : List ℕ). k ∷ js) (lengths-replicate n k a e)

replicate-add : (m n k : ℕ) → replicate m k ++ replicate n k ≡ replicate (m + n) k
replicate-add zero n k = let e : n ≡ 0 + n = omega arith in ap (λ (j : ℕ). replicate j k) e
replicate-add (suc m) n k = let e : suc (m + n) ≡ suc m + n = omega arith in ap (λ (js : List ℕ). k ∷ js) (replicate-add m n k) ∙ ap (λ (j : ℕ). replicate j k) e

replicate-last : (n k : ℕ) → replicate n k ++ k ∷ [] ≡ replicate (suc n) k
replicate-last zero k = refl
replicate-last (suc n) k = ap (λ (js : List ℕ). k ∷ js) (replicate-last n k)

pub lengths-copies : (least : ℕ) (most : Option ℕ) (a : States) → map (λ b. length b) (copies_of least most a) ≡ replicate (count.copies least most) (length a)
lengths-copies least None a =
    map-append (λ (b : States). length b) (replicate least a) (repeated a ∷ [])
    ∙ ap (λ (ks : List ℕ). ks ++ length (repeated a) ∷ []) (lengths-replicate least (length a) a refl)
    ∙ ap (λ (k : ℕ). replicate least (length a) ++ k ∷ []) (length-repeated a)
    ∙ replicate-last least (length a)
lengths-copies least (Some most) a =
    map-append (λ (b : States). length b) (replicate (min least most) a) (replicate (most - least) (optional a))
    ∙ ap (λ (ks : List ℕ). ks ++ map (λ b. length b) (replicate (most - least) (optional a))) (lengths-replicate (min least most) (length a) a refl)
    ∙ ap (λ (ks : List ℕ). replicate (min least most) (length a) ++ ks) (lengths-replicate (most - least) (length a) (optional a) (length-optional a))
    ∙ replicate-add (min least most) (most - least) (length a)
    ∙ (let e : min least most + (most - least) ≡ most = omega arith in ap (λ (n : ℕ). replicate n (length a)) e)

sum-replicate : (n k : ℕ) → sum_of (replicate n k) ≡ n * k
sum-replicate zero k = let e : 0 ≡ 0 * k = omega arith in e
sum-replicate (suc n) k = ap (λ (j : ℕ). k + j) (sum-replicate n k) ∙ suc_times n k
  where
    suc_times : (n k : ℕ) → k + n * k ≡ suc n * k
    suc_times n k = omega arith

in_sequence-replicate : (n k : ℕ) → in_sequence (replicate n k) ≡ count.copied n k
in_sequence-replicate zero k = refl
in_sequence-replicate (suc n) k = sum-replicate (suc n) k

pub length-copied : (least : ℕ) (most : Option ℕ) (x : Piece) → length (copied least most x).states ≡ count.copied (count.copies least most) (length x.states)
length-copied least most x = length-joined_all (copies_of least most x.states) ∙ ap in_sequence (lengths-copies least most x.states) ∙ in_sequence-replicate (count.copies least most) (length x.states)

none_by_length : {X : Type 0} (xs : List X) (n k : ℕ) → length xs ≡ k → none_where_empty xs n ≡ cond (k == 0) 0 n
none_by_length [] n k e = ap (λ (j : ℕ). cond (j == 0) 0 n) e
none_by_length (x ∷ xs) n k e = sym (ap (λ (b : Bool). cond b 0 n) (ne_eqb k 0 (λ f. no k (length xs) f e)))
  where
    no : (k m : ℕ) → k ≡ 0 → suc m ≡ k → ⊥
    no k m f e = omega (arith, f, e)

pub particles-copied : (least : ℕ) (most : Option ℕ) (x : Piece) → (copied least most x).particles ≡ cond (count.copies least most == 0) 0 x.particles
particles-copied least most x =
    none_by_length (copies_of least most x.states) x.particles (count.copies least most)
    (sym (length-map (copies_of least most x.states) (λ b. length b)) ∙ ap (λ (ks : List ℕ). length ks) (lengths-copies least most x.states) ∙ length-replicate (count.copies least most) (length x.states))

-- ---- elements
pub counts-openings : (p : Parts) (places : List ℕ) → sum_of (counts_of (map (opening_piece p) places)) ≡ 2 * length places
counts-openings p [] = refl
counts-openings p (x ∷ places) = let e = counts-openings p places in omega (arith, e)

pub particles-openings : (p : Parts) (places : List ℕ) → particles_of (map (opening_piece p) places) ≡ length places
particles-openings p [] = refl
particles-openings p (x ∷ places) = let e = particles-openings p places in omega (arith, e)

pub length-one_of_them : (p : Parts) (places : List ℕ) → length (one_of_them (map (opening_piece p) places)).states ≡ of_stand_ins (length places)
length-one_of_them p [] = refl
length-one_of_them p (x ∷ []) = refl
length-one_of_them p (x ∷ (y ∷ ys)) =
    length-choice (map (opening_piece p) (x ∷ y ∷ ys))
    ∙ ap suc (counts-openings p (x ∷ y ∷ ys))
    ∙ sym (ap (λ (b : Bool). cond b 2 (suc (2 * length (x ∷ y ∷ ys)))) (ne_eqb (length (x ∷ y ∷ ys)) 1 (several (length ys))))
  where
    several : (n : ℕ) → suc (suc n) ≡ 1 → ⊥
    several n e = omega (arith, e)

pub particles-one_of_them : (p : Parts) (places : List ℕ) → (one_of_them (map (opening_piece p) places)).particles ≡ length places
particles-one_of_them p [] = refl
particles-one_of_them p (x ∷ []) = refl
particles-one_of_them p (x ∷ (y ∷ ys)) = particles-openings p (x ∷ y ∷ ys)

-- ---- wildcards
pub length-wild : (w : Wild) → length (wild_piece w).states ≡ 2
length-wild wild.Any = refl
length-wild (wild.Listed uris) = refl

pub particles-wild : (w : Wild) → (wild_piece w).particles ≡ count.wild_particles w
particles-wild wild.Any = refl
particles-wild (wild.Listed uris) = refl

-- ---- by the particles within
counts-map : (f : ℕ → Piece) (g : ℕ → ℕ) → ((x : ℕ) → length (f x).states ≡ g x) → (xs : List ℕ) → counts_of (map f xs) ≡ map g xs
counts-map f g e [] = refl
counts-map f g e (x ∷ xs) = ap (λ (k : ℕ). k ∷ counts_of (map f xs)) (e x) ∙ ap (λ (ks : List ℕ). g x ∷ ks) (counts-map f g e xs)

particles-map : (f : ℕ → Piece) (g : ℕ → ℕ) → ((x : ℕ) → (f x).particles ≡ g x) → (xs : List ℕ) → particles_of (map f xs) ≡ sum_of (map g xs)
particles-map f g e [] = refl
particles-map f g e (x ∷ xs) = ap (λ (k : ℕ). k + particles_of (map f xs)) (e x) ∙ ap (λ (k : ℕ). g x + k) (particles-map f g e xs)

pub length-group : (f : ℕ → Piece) (g : ℕ → ℕ) → ((x : ℕ) → length (f x).states ≡ g x) → (o : Option Group) → length (group_piece f o).states ≡ count.group_states g o
length-group f g e None = refl
length-group f g e (Some o) = of_any o.particle
  where
    of_any : (q : Option ℕ) → length (group_piece f (Some (record { particle = q; event = 0 }))).states ≡ count.group_states g (Some (record { particle = q; event = 0 }))
    of_any None = refl
    of_any (Some q) = e q

particles-group : (f : ℕ → Piece) (g : ℕ → ℕ) → ((x : ℕ) → (f x).particles ≡ g x) → (o : Option Group) → (group_piece f o).particles ≡ count.group_particles g o
particles-group f g e None = refl
particles-group f g e (Some o) = of_any o.particle
  where
    of_any : (q : Option ℕ) → (group_piece f (Some (record { particle = q; event = 0 }))).particles ≡ count.group_particles g (Some (record { particle = q; event = 0 }))
    of_any None = refl
    of_any (Some q) = e q

pub length-term : (p : Parts) (f : ℕ → Piece) (g : ℕ → ℕ) → ((x : ℕ) → length (f x).states ≡ g x) → (t : Term) → length (term_piece p f t).states ≡ count.term_states p g t
length-term p f g e (term.Element element) = length-one_of_them p (stand_ins p element)
length-term p f g e (term.Group group) = length-group f g e (slice_get p.groups group)
length-term p f g e (term.Sequence places) = length-sequence (map f places) ∙ ap in_sequence (counts-map f g e places)
length-term p f g e (term.Choice places) = length-choice (map f places) ∙ ap (λ (ks : List ℕ). suc (sum_of ks)) (counts-map f g e places)
length-term p f g e (term.Wild w) = length-wild w

pub particles-term : (p : Parts) (f : ℕ → Piece) (g : ℕ → ℕ) → ((x : ℕ) → (f x).particles ≡ g x) → (t : Term) → (term_piece p f t).particles ≡ count.term_particles p g t
particles-term p f g e (term.Element element) = particles-one_of_them p (stand_ins p element)
particles-term p f g e (term.Group group) = particles-group f g e (slice_get p.groups group)
particles-term p f g e (term.Sequence places) = particles-map f g e places
particles-term p f g e (term.Choice places) = particles-map f g e places
particles-term p f g e (term.Wild w) = particles-wild w

pub length-particle : (p : Parts) (f : ℕ → Piece) (g : ℕ → ℕ) → ((x : ℕ) → length (f x).states ≡ g x) → (o : Option Particle) → length (particle_piece p f o).states ≡ count.particle_states p g o
length-particle p f g e None = refl
length-particle p f g e (Some x) = length-copied x.least x.most (term_piece p f x.term) ∙ ap (count.copied (count.copies x.least x.most)) (length-term p f g e x.term)

particles-particle : (p : Parts) (f : ℕ → Piece) (g : ℕ → ℕ) → ((x : ℕ) → (f x).particles ≡ g x) → (o : Option Particle) → (particle_piece p f o).particles ≡ count.particle_particles p g o
particles-particle p f g e None = refl
particles-particle p f g e (Some x) = particles-copied x.least x.most (term_piece p f x.term) ∙ ap (λ (k : ℕ). cond (count.copies x.least x.most == 0) 0 k) (particles-term p f g e x.term)

pub length-within : (n : ℕ) (p : Parts) (place : ℕ) → length (piece_within n p place).states ≡ states_within n p place
length-within zero p place = refl
length-within (suc n) p place = length-particle p (piece_within n p) (states_within n p) (length-within n p) (slice_get p.particles place)

pub particles-within : (n : ℕ) (p : Parts) (place : ℕ) → (piece_within n p place).particles ≡ particles_within n p place
particles-within zero p place = refl
particles-within (suc n) p place = particles-particle p (piece_within n p) (particles_within n p) (particles-within n p) (slice_get p.particles place)
