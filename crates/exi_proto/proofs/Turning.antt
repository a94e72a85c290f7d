-- What comes of tasks.
use Rattle.std.proofs.Common.{◌≡◌, ◌<◌, ◌≤◌, ℕ, zero, suc, ◌+◌, ◌-◌, ◌*◌, ◌/◌, true, false, min, Option, Some, None, unwrap_or, List, [], ◌∷◌, ◌++◌, All, IfSome, drop, get_or, length, map, slice_get, refl, sym, ap, subst, ◌∙◌, arith, length-append}
use Rattle.std.proofs.Common.{Bor, ltb}
use Rattle.std.specs.Option.{is_some, option_copied}
use Rattle.std.proofs.Math.ListN.{replicate}
use Rattle.std.proofs.lemmas.Bool.{false≢true, ltb-true, true≢false}
use Rattle.std.proofs.lemmas.List.{length-replicate, map-append}
use Rattle.std.proofs.lemmas.Nat.{div-mul-add}
use Rattle.std.proofs.lemmas.Option.{none-some, slice_get_read}
use Rattle.std.proofs.lemmas.List.Elements.{All-head, All-nil, All-tail, All-weaker}
use Rattle.xsd_model.specs.declared.parts.Particle.{Particle}
use Rattle.xsd_model.specs.declared.parts.Term.{Term}
use Rattle.xsd_model.specs.declared.parts.Term.TheVariants as term
use Rattle.xsd_model.specs.Parts.{IsSchemaParts, IsTerm, IsWithin, Parts}
use Rattle.exi_counts.specs.Counts as count
use Rattle.exi_counts.specs.Counts.{copies, most_states, states_of, sum_of}
use Rattle.exi_draft.specs.Drafts.{States}
use Rattle.exi_proto.specs.declared.copies.How.{How}
use Rattle.exi_proto.specs.declared.copies.How.TheVariants as how
use Rattle.exi_proto.specs.Pieces.{Piece, copied, copies_of, joined_all, joined_behind, particles_of, repeated}
use Rattle.exi_proto.specs.Places.{end_step, laid, lined, lined_behind, set}
use Rattle.exi_proto.specs.Protos.{particle_piece, piece_of}
use Rattle.exi_proto.specs.Tasks.{copied_behind, copied_line, copied_piece, copy_at, copy_states, has_none, hows_of, inner_in, inner_places, inner_term, most_particles, pieces_from}
use Rattle.exi_proto.proofs.Counting.{length-optional, length-repeated, length-within, particles-within}
use Rattle.exi_proto.proofs.Inside.{good_copy}
use Rattle.exi_proto.proofs.Placing.{set-joined}
use Rattle.exi_proto.proofs.Steady.{particle_is, piece_is}

-- ---- lists
pub drop_none : {X : Type 0} (xs : List X) (i : ℕ) → slice_get xs i ≡ None → drop i xs ≡ []
drop_none [] zero e = refl
drop_none [] (suc i) e = refl
drop_none (x ∷ xs) zero e = absurd (none-some x (sym e))
drop_none (x ∷ xs) (suc i) e = drop_none xs i e

pub drop_some : {X : Type 0} (xs : List X) (i : ℕ) (x : X) → slice_get xs i ≡ Some x → drop i xs ≡ x ∷ drop (i + 1) xs
drop_some [] i x e = absurd (none-some x e)
drop_some (y ∷ xs) zero x e = ap (λ (z : _). z ∷ xs) (ap (λ (o : Option _). unwrap_or o y) e)
drop_some (y ∷ xs) (suc i) x e =
    let next : suc i + 1 ≡ suc (i + 1) = omega arith in
    drop_some xs i x e ∙ ap (λ (j : ℕ). x ∷ drop j (y ∷ xs)) (sym next)

pub some_below : {X : Type 0} (xs : List X) (i : ℕ) (x : X) → slice_get xs i ≡ Some x → i < length xs
some_below [] i x e = absurd (none-some x e)
some_below (y ∷ xs) zero x e = omega arith
some_below (y ∷ xs) (suc i) x e = let less = some_below xs i x e in omega (arith, less)

pub none_by : {X : Type 0} (xs : List X) → has_none xs ≡ true → xs ≡ []
none_by [] e = refl
none_by (x ∷ xs) e = absurd (false≢true e)

-- ---- copies
pub length-copy : (a : States) (h : How) → length (copy_states a h) ≡ length a
length-copy a how.Once = refl
length-copy a how.Optional = length-optional a
length-copy a how.Repeated = length-repeated a

map-replicate : (f : How → States) (n : ℕ) (h : How) → map f (replicate n h) ≡ replicate n (f h)
map-replicate f zero h = refl
map-replicate f (suc n) h = ap (λ (xs : List States). f h ∷ xs) (map-replicate f n h)

pub copies_are : (least : ℕ) (most : Option ℕ) (a : States) → copies_of least most a ≡ map (copy_states a) (hows_of least most)
copies_are least None a = sym (map-append (copy_states a) (replicate least how.Once) (how.Repeated ∷ []) ∙ ap (λ (xs : List States). xs ++ repeated a ∷ []) (map-replicate (copy_states a) least how.Once))
copies_are least (Some most) a =
    sym (map-append (copy_states a) (replicate (min least most) how.Once) (replicate (most - least) how.Optional)
    ∙ ap (λ (xs : List States). xs ++ map (copy_states a) (replicate (most - least) how.Optional)) (map-replicate (copy_states a) (min least most) how.Once)
    ∙ ap (λ (xs : List States). replicate (min least most) a ++ xs) (map-replicate (copy_states a) (most - least) how.Optional))

set-copied_behind : (f b : ℕ) (e : Option ℕ) (a : States) (h : How) (hs : List How) → set f b e (joined_behind (copy_states a h) (map (copy_states a) hs)) ≡ copied_behind f b e a h hs
set-copied_behind f b e a h [] = refl
set-copied_behind f b e a h (g ∷ gs) =
    let long = length-copy a h in
    set-joined f b (f + length a) e (copy_states a h) (joined_behind (copy_states a g) (map (copy_states a) gs)) (omega (arith, long))
    ∙ ap (λ (z : States). set f b (Some (f + length a)) (copy_states a h) ++ z) (set-copied_behind (f + length a) b e a g gs)

set-copied_line : (f b : ℕ) (e : Option ℕ) (a : States) (hs : List How) → set f b e (joined_all (map (copy_states a) hs)) ≡ copied_line f b e a hs
set-copied_line f b None a [] = ap (λ (n : ℕ). (end_step n None ∷ []) ∷ []) (omega arith)
set-copied_line f b (Some to) a [] = refl
set-copied_line f b e a (h ∷ hs) = set-copied_behind f b e a h hs

pub set-copies : (f b : ℕ) (e : Option ℕ) (least : ℕ) (most : Option ℕ) (x : Piece) → set f b e (copied least most x).states ≡ copied_line f b e x.states (hows_of least most)
set-copies f b e least most x = ap (λ (zs : List States). set f b e (joined_all zs)) (copies_are least most x.states) ∙ set-copied_line f b e x.states (hows_of least most)

pub length-hows : (least : ℕ) (most : Option ℕ) → length (hows_of least most) ≡ copies least most
length-hows least None = let l = length-append (replicate least how.Once) (how.Repeated ∷ []) in let r = length-replicate least how.Once in omega (arith, l, r)
length-hows least (Some most) =
    let l = length-append (replicate (min least most) how.Once) (replicate (most - least) how.Optional) in
    let r = length-replicate (min least most) how.Once in
    let s = length-replicate (most - least) how.Optional in
    omega (arith, l, r, s)

pub empty_by : {X : Type 0} (xs : List X) → length xs ≡ 0 → xs ≡ []
empty_by [] e = refl
empty_by (x ∷ xs) e = absurd (omega (arith, e))

-- a line of copies without its first
pub copied_rest : (f b g : ℕ) (e : Option ℕ) (a : States) (h : How) (hs : List How) → has_none hs ≡ false → f + length a ≡ g → copied_line f b e a (h ∷ hs) ≡ set f b (Some g) (copy_states a h) ++ copied_line g b e a hs
copied_rest f b g e a h [] some is = absurd (true≢false some)
copied_rest f b g e a h (k ∷ ks) some is = ap (λ (n : ℕ). set f b (Some n) (copy_states a h) ++ copied_behind n b e a k ks) is

-- how many states one copy has
pub one_copy : (n len told most : ℕ) → (n ≡ 0 → ⊥) → told ≡ min (count.copied n len) (suc most) → count.copied n len ≤ most → told / n ≡ len
one_copy zero len told most some is le = absurd (some refl)
one_copy (suc n) len told most some is le =
    let whole : told ≡ suc n * len = omega (arith, is, le) in
    let turned : told ≡ len * suc n + 0 = whole ∙ omega arith in
    ap (λ (k : ℕ). k / suc n) turned ∙ div-mul-add len (suc n) 0 (omega arith)

-- ---- the particle at a place
pub piece_at : (p : Parts) (place : ℕ) (x : Particle) → IsSchemaParts p → place < length p.particles → slice_get p.particles place ≡ Some x → piece_of p place ≡ copied x.least x.most (copy_at p place)
piece_at p place x h less e = piece_is p place h less ∙ by_option (slice_get p.particles place) e
  where
    by_option : (o : Option Particle) → o ≡ Some x → particle_piece p (piece_of p) o ≡ copied x.least x.most (copied_piece p o)
    by_option None f = absurd (none-some x f)
    by_option (Some y) f = let same : y ≡ x = ap (λ (o : Option Particle). unwrap_or o y) f in rw (sym same) refl

pub counted_states : (p : Parts) (place : ℕ) → length (piece_of p place).states ≡ states_of p place
counted_states p place = length-within (suc (length p.particles)) p place

pub counted_particles : (p : Parts) (place : ℕ) → (piece_of p place).particles ≡ count.particles_of p place
counted_particles p place = particles-within (suc (length p.particles)) p place

-- ---- numbers as they are told
pub told_whole : (told n most : ℕ) → told ≡ min n (suc most) → n ≤ most → told ≡ n
told_whole told n most is le = omega (arith, is, le)

pub states_told : (p : Parts) (place told f : ℕ) → told ≡ min (states_of p place) (suc most_states) → f + length (piece_of p place).states ≤ most_states → told ≡ length (piece_of p place).states
states_told p place told f is le =
    let e = counted_states p place in
    omega (arith, is, le, e)

pub particles_told : (p : Parts) (place told b : ℕ) → told ≡ min (count.particles_of p place) 4_294_967_295 → b + (piece_of p place).particles ≤ most_particles → told ≡ (piece_of p place).particles
particles_told p place told b is le =
    let e = counted_particles p place in
    omega (arith, is, le, e)

-- ---- the next branch of a choice, and those behind it
pub pieces_next : (p : Parts) (place from q : ℕ) → slice_get (inner_places p place) from ≡ Some q → pieces_from p place from ≡ piece_of p q ∷ pieces_from p place (from + 1)
pieces_next p place from q e = ap (map (piece_of p)) (drop_some (inner_places p place) from q e)

pub pieces_none : (p : Parts) (place from : ℕ) → slice_get (inner_places p place) from ≡ None → pieces_from p place from ≡ []
pieces_none p place from e = ap (map (piece_of p)) (drop_none (inner_places p place) from e)

pub laid_parts : (p : Parts) (place from q f b g d : ℕ) (e : Option ℕ) → slice_get (inner_places p place) from ≡ Some q → f + length (piece_of p q).states ≡ g → b + (piece_of p q).particles ≡ d → laid f b e (pieces_from p place from) ≡ set f b e (piece_of p q).states ++ laid g d e (pieces_from p place (from + 1))
laid_parts p place from q f b g d e here is so =
    ap (laid f b e) (pieces_next p place from q here)
    ∙ ap (λ (n : ℕ). set f b e (piece_of p q).states ++ laid n (b + (piece_of p q).particles) e (pieces_from p place (from + 1))) is
    ∙ ap (λ (n : ℕ). set f b e (piece_of p q).states ++ laid g n e (pieces_from p place (from + 1))) so

-- ---- the next particle of a sequence
pub lined_last : (p : Parts) (place from q f b : ℕ) (e : Option ℕ) → slice_get (inner_places p place) from ≡ Some q → slice_get (inner_places p place) (from + 1) ≡ None → lined f b e (pieces_from p place from) ≡ set f b e (piece_of p q).states
lined_last p place from q f b e here last = ap (lined f b e) (pieces_next p place from q here ∙ ap (λ (xs : List Piece). piece_of p q ∷ xs) (pieces_none p place (from + 1) last))

pub lined_parts : (p : Parts) (place from q r f b g d : ℕ) (e : Option ℕ) → slice_get (inner_places p place) from ≡ Some q → slice_get (inner_places p place) (from + 1) ≡ Some r → f + length (piece_of p q).states ≡ g → b + (piece_of p q).particles ≡ d → lined f b e (pieces_from p place from) ≡ set f b (Some g) (piece_of p q).states ++ lined g d e (pieces_from p place (from + 1))
lined_parts p place from q r f b g d e here there is so =
    let next : pieces_from p place (from + 1) ≡ piece_of p r ∷ pieces_from p place (from + 1 + 1) = pieces_next p place (from + 1) r there in
    ap (lined f b e) (pieces_next p place from q here ∙ ap (λ (xs : List Piece). piece_of p q ∷ xs) next)
    ∙ ap (λ (n : ℕ). set f b (Some n) (piece_of p q).states ++ lined_behind n (b + (piece_of p q).particles) e (piece_of p r) (pieces_from p place (from + 1 + 1))) is
    ∙ ap (λ (n : ℕ). set f b (Some g) (piece_of p q).states ++ lined_behind g n e (piece_of p r) (pieces_from p place (from + 1 + 1))) so
    ∙ ap (λ (xs : List Piece). set f b (Some g) (piece_of p q).states ++ lined g d e xs) (sym next)

pub lined_none : (p : Parts) (place from f b : ℕ) (e : Option ℕ) → slice_get (inner_places p place) from ≡ None → lined f b e (pieces_from p place from) ≡ (end_step f e ∷ []) ∷ []
lined_none p place from f b e none = ap (lined f b e) (pieces_none p place from none)

pub particles_parts : (p : Parts) (place from q : ℕ) → slice_get (inner_places p place) from ≡ Some q → particles_of (pieces_from p place from) ≡ (piece_of p q).particles + particles_of (pieces_from p place (from + 1))
particles_parts p place from q here = ap particles_of (pieces_next p place from q here)

-- what a particle is of has a state
pub some_copy : (p : Parts) (place : ℕ) → 1 ≤ length (copy_at p place).states
some_copy p place = by_option (slice_get p.particles place)
  where
    by_option : (o : Option Particle) → 1 ≤ length (copied_piece p o).states
    by_option None = omega arith
    by_option (Some x) = (good_copy p x.term).some

pub laid_none : (p : Parts) (place from f b : ℕ) (e : Option ℕ) → slice_get (inner_places p place) from ≡ None → laid f b e (pieces_from p place from) ≡ []
laid_none p place from f b e none = ap (laid f b e) (pieces_none p place from none)

-- ---- the particles in a sequence or choice
pub inner_is : (p : Parts) (place : ℕ) (x : Particle) (t : Term) → place < length p.particles → get_or p.particles place x ≡ x → x.term ≡ t → inner_places p place ≡ inner_term t
inner_is p place x t less is e = ap inner_in (slice_get_read p.particles (length p.particles) place x refl less (sym is)) ∙ ap inner_term e

each_below : (least most : ℕ) (places : List ℕ) → All (IsWithin least most) places → All (λ q. q < most) places
each_below least most places all = All-weaker (IsWithin least most) (λ q. q < most) (λ q w. w.1) places all

pub inner_inside : (p : Parts) (place : ℕ) (x : Particle) (t : Term) → IsSchemaParts p → place < length p.particles → get_or p.particles place x ≡ x → x.term ≡ t → All (λ q. q < length p.particles) (inner_term t)
inner_inside p place x t h less is e = by_term t (subst (IsTerm p place) e (particle_is p place x h (slice_get_read p.particles (length p.particles) place x refl less (sym is))).term_is)
  where
    by_term : (t : Term) → IsTerm p place t → All (λ q. q < length p.particles) (inner_term t)
    by_term (term.Element element) w = All-nil (λ q. q < length p.particles)
    by_term (term.Group group) w = All-nil (λ q. q < length p.particles)
    by_term (term.Sequence places) w = each_below place (length p.particles) places w
    by_term (term.Choice places) w = each_below place (length p.particles) places w
    by_term (term.Wild wild) w = All-nil (λ q. q < length p.particles)

pub one_inside : (P : ℕ → Type 0) (xs : List ℕ) (i : ℕ) (o : Option ℕ) → All P xs → o ≡ slice_get xs i → IfSome o P
one_inside P xs i None all e = tt
one_inside P [] i (Some q) all e = absurd (none-some q (sym e))
one_inside P (x ∷ xs) zero (Some q) all e =
    let same : x ≡ q = ap (λ (o : Option ℕ). unwrap_or o x) (sym e) in
    subst P same (All-head P x xs all)
one_inside P (x ∷ xs) (suc i) (Some q) all e = one_inside P xs i (Some q) (All-tail P x xs all) e

pub one_few : (xs : List ℕ) (i : ℕ) (o : Option ℕ) → o ≡ slice_get xs i → IfSome o (λ q. i < length xs)
one_few xs i None e = tt
one_few xs i (Some q) e = some_below xs i q (sym e)

pub inner_is_by : (p o : Parts) (place : ℕ) (x : Particle) (t : Term) (xs : List Particle) → o ≡ p → xs ≡ o.particles → place < length p.particles → get_or xs place x ≡ x → (get_or xs place x).term ≡ t → inner_places p place ≡ inner_term t
inner_is_by p o place x t xs same are less is e =
    let here : xs ≡ p.particles = are ∙ ap (λ (q : Parts). q.particles) same in
    inner_is p place x t less (ap (λ (ys : List Particle). get_or ys place x) (sym here) ∙ is) (ap (λ (y : Particle). y.term) (sym is) ∙ e)

pub inner_inside_by : (p o : Parts) (place : ℕ) (x : Particle) (t : Term) (xs : List Particle) → o ≡ p → xs ≡ o.particles → IsSchemaParts o → place < length p.particles → get_or xs place x ≡ x → (get_or xs place x).term ≡ t → All (λ q. q < length p.particles) (inner_term t)
inner_inside_by p o place x t xs same are h less is e =
    let here : xs ≡ p.particles = are ∙ ap (λ (q : Parts). q.particles) same in
    inner_inside p place x t (subst IsSchemaParts same h) less (ap (λ (ys : List Particle). get_or ys place x) (sym here) ∙ is) (ap (λ (y : Particle). y.term) (sym is) ∙ e)

pub got_inside : (P : ℕ → Type 0) (xs : List ℕ) (i : ℕ) (o : Option (Bor ℕ)) → All P xs → is_some o ≡ ltb i (length xs) → IfSome o (λ b. b.now ≡ get_or xs i b.now) → IfSome (option_copied o) P
got_inside P xs i None all some is = tt
got_inside P xs i (Some b) all some is = subst P (sym is) (all i b.now (ltb-true i (length xs) (sym some)))

pub got_few : (xs : List ℕ) (i n : ℕ) (o : Option (Bor ℕ)) → is_some o ≡ ltb i (length xs) → length xs ≡ n → IfSome (option_copied o) (λ q. i < n)
got_few xs i n None some is = tt
got_few xs i n (Some b) some is = let less = ltb-true i (length xs) (sym some) in omega (arith, less, is)
