-- Particles one behind another, and text in states, as far as loops have come.
use Rattle.std.proofs.Common.{◌≡◌, ◌<◌, ◌≤◌, ℕ, zero, suc, ◌+◌, ◌*◌, ◌-◌, ◌==◌, Bool, true, false, cond, is_some, min, not, Option, Some, None, List, [], ◌∷◌, ◌++◌, drop, get_or, length, map, refl, sym, ap, ◌∙◌, arith, append_assoc, length-append}
use Rattle.std.proofs.lemmas.List.{append-nil, length-map, map-append}
use Rattle.std.proofs.lemmas.Bool.{false≢true}
use Rattle.exi_gram.specs.declared.grammar.Step.{Step}
use Rattle.exi_gram.specs.Terminals.{StepRule, ch_text, step_rule}
use Rattle.xsd_model.specs.declared.parts.Wild.{Wild}
use Rattle.xsd_model.specs.Parts.{Parts}
use Rattle.exi_inherited.specs.declared.content.Whole as declared
use Rattle.exi_inherited.specs.declared.content.Whole.TheVariants as whole
use Rattle.exi_inherited.specs.declared.uses.Use.{Use}
use Rattle.exi_inherited.specs.Shown.{whole_of}
use Rattle.exi_counts.specs.Counts as count
use Rattle.exi_counts.specs.Counts.{most_states, sum_of}
use Rattle.exi_draft.specs.Drafts.{States}
use Rattle.exi_proto.specs.declared.spot.Spot.{Spot}
use Rattle.exi_proto.specs.Attributes.{each_use, made_of, wild_at}
use Rattle.exi_proto.specs.Contents.{any_piece, line_left, text_at}
use Rattle.exi_proto.specs.Pieces.{counts_of, leading, particles_of, reading, sequence, with_text, with_text_from}
use Rattle.exi_proto.specs.Places.{led_from, lined, lined_behind, set}
use Rattle.exi_proto.specs.Protos.{any_pieces, content_states, last_wild, piece_of, states_count}
use Rattle.exi_proto.specs.Tasks.{Fits, most_particles}
use Rattle.exi_proto.proofs.Behind.{last_made, length-led, length-made}
use Rattle.exi_proto.proofs.Counting.{length-sequence}
use Rattle.exi_proto.proofs.Filling.{content_elements}
use Rattle.exi_proto.proofs.Looping.{drop_all, drop_here, moved, push_made, sum_next}
use Rattle.exi_proto.proofs.Placing.{length-set, set-sequence}
use Rattle.exi_proto.proofs.Turning.{counted_particles}

particles_next : (p : Parts) (xs : List ℕ) (i : ℕ) → i < length xs → particles_of (map (piece_of p) (drop i xs)) ≡ (piece_of p (get_or xs i 0)).particles + particles_of (map (piece_of p) (drop (i + 1) xs))
particles_next p xs i less = ap (λ (ys : List ℕ). particles_of (map (piece_of p) ys)) (drop_here xs i 0 less)

-- ---- whether they are few
pub few_next : (p : Parts) (xs : List ℕ) (i left told most : ℕ) → i < length xs → told ≡ min (count.particles_of p (get_or xs i 0)) 4_294_967_295 → told ≤ left → left ≤ most_particles → (particles_of (map (piece_of p) (drop i xs)) ≤ left → most ≤ most_particles) → particles_of (map (piece_of p) (drop (i + 1) xs)) ≤ left - told → most ≤ most_particles
few_next p xs i left told most less is fits few so rest =
    let next = particles_next p xs i less in
    let here = counted_particles p (get_or xs i 0) in
    so (omega (arith, is, fits, few, next, here, rest))

-- ---- one particle after another
-- where those that are left fit
module _ (p : Parts) (xs : List ℕ) (i : ℕ) (spot : Spot) (less : i < length xs) (fits : Fits spot (sum_of (counts_of (map (piece_of p) (drop i xs)))) (particles_of (map (piece_of p) (drop i xs)))) where
  pub line_states : spot.first + length (piece_of p (get_or xs i 0)).states ≤ most_states
  line_states = let n = sum_next p xs i less in omega (arith, n, fits.0)

  pub line_few : spot.before + (piece_of p (get_or xs i 0)).particles ≤ most_particles
  line_few = let n = particles_next p xs i less in omega (arith, n, fits.1)

  pub line_fits : (s k : ℕ) (e : Option ℕ) → s ≡ length (piece_of p (get_or xs i 0)).states → k ≡ (piece_of p (get_or xs i 0)).particles → Fits (record { first = spot.first + s; before = spot.before + k; next = e }) (sum_of (counts_of (map (piece_of p) (drop (i + 1) xs)))) (particles_of (map (piece_of p) (drop (i + 1) xs)))
  line_fits s k e is so =
      let n = sum_next p xs i less in
      let m = particles_next p xs i less in
      (omega (arith, n, is, fits.0), omega (arith, m, so, fits.1))

line_more : (p : Parts) (f b g d : ℕ) (e : Option ℕ) (x : ℕ) (ys : List ℕ) → 1 ≤ length ys → f + length (piece_of p x).states ≡ g → b + (piece_of p x).particles ≡ d → line_left f b e (map (piece_of p) (x ∷ ys)) ≡ set f b (Some g) (piece_of p x).states ++ line_left g d e (map (piece_of p) ys)
line_more p f b g d e x [] some is so = absurd (omega (arith, some))
line_more p f b g d e x (y ∷ ys) some is so =
    ap (λ (k : ℕ). set f b (Some k) (piece_of p x).states ++ lined_behind k (b + (piece_of p x).particles) e (piece_of p y) (map (piece_of p) ys)) is
    ∙ ap (λ (k : ℕ). set f b (Some g) (piece_of p x).states ++ lined_behind g k e (piece_of p y) (map (piece_of p) ys)) so

-- the last of them ends as they all do
pub line_last : (p : Parts) (f b g d : ℕ) (e : Option ℕ) (xs : List ℕ) (i : ℕ) (old new : States) → i < length xs → length xs ≤ i + 1 → new ≡ old ++ set f b e (piece_of p (get_or xs i 0)).states → new ++ line_left g d e (map (piece_of p) (drop (i + 1) xs)) ≡ old ++ line_left f b e (map (piece_of p) (drop i xs))
line_last p f b g d e xs i old new less last is =
    let none : drop (i + 1) xs ≡ [] = drop_all xs (i + 1) last in
    let x : ℕ = get_or xs i 0 in
    moved old new (set f b e (piece_of p x).states) (line_left f b e (map (piece_of p) (drop i xs))) (line_left g d e (map (piece_of p) (drop (i + 1) xs))) is
    (ap (λ (ys : List ℕ). line_left f b e (map (piece_of p) ys)) (drop_here xs i 0 less ∙ ap (λ (ys : List ℕ). x ∷ ys) none)
    ∙ sym (append-nil (set f b e (piece_of p x).states))
    ∙ ap (λ (ys : List ℕ). set f b e (piece_of p x).states ++ line_left g d e (map (piece_of p) ys)) (sym none))

-- the others lead to the next
pub line_next : (p : Parts) (f b g d : ℕ) (e : Option ℕ) (xs : List ℕ) (i : ℕ) (old new : States) → i < length xs → i + 1 < length xs → f + length (piece_of p (get_or xs i 0)).states ≡ g → b + (piece_of p (get_or xs i 0)).particles ≡ d → new ≡ old ++ set f b (Some g) (piece_of p (get_or xs i 0)).states → new ++ line_left g d e (map (piece_of p) (drop (i + 1) xs)) ≡ old ++ line_left f b e (map (piece_of p) (drop i xs))
line_next p f b g d e xs i old new less more is so so_is =
    let x : ℕ = get_or xs i 0 in
    let there = ap (λ (ys : List ℕ). length ys) (drop_here xs (i + 1) 0 more) in
    moved old new (set f b (Some g) (piece_of p x).states) (line_left f b e (map (piece_of p) (drop i xs))) (line_left g d e (map (piece_of p) (drop (i + 1) xs))) so_is
    (ap (λ (ys : List ℕ). line_left f b e (map (piece_of p) ys)) (drop_here xs i 0 less)
    ∙ line_more p f b g d e x (drop (i + 1) xs) (omega (arith, there)) is so)

-- ---- how many states the elements of a content have
long_alone : (p : Parts) (xs : List ℕ) → (length xs ≡ 0 → ⊥) → length (sequence (any_pieces false ++ map (piece_of p) xs)).states ≡ sum_of (counts_of (map (piece_of p) xs))
long_alone p [] some = absurd (some refl)
long_alone p (x ∷ xs) some = length-sequence (map (piece_of p) (x ∷ xs))

long_behind : (p : Parts) (xs : List ℕ) → length (sequence (any_pieces true ++ map (piece_of p) xs)).states ≡ 2 + sum_of (counts_of (map (piece_of p) xs))
long_behind p xs = length-sequence (any_piece ∷ map (piece_of p) xs)

-- ---- text
text_last : (n : ℕ) (a : States) (x : List StepRule) → with_text_from n (a ++ x ∷ []) ≡ with_text_from n a ++ (x ++ reading ch_text (n + length a) ∷ []) ∷ []
text_last n [] x = let e : n ≡ n + 0 = omega arith in ap (λ (k : ℕ). (x ++ reading ch_text k ∷ []) ∷ []) e
text_last n (y ∷ a) x =
    let e : suc n + length a ≡ n + suc (length a) = omega arith in
    ap (λ (z : States). (y ++ reading ch_text n ∷ []) ∷ z) (text_last (suc n) a x ∙ ap (λ (k : ℕ). with_text_from (suc n) a ++ (x ++ reading ch_text k ∷ []) ∷ []) e)

text_more : (mixed : Bool) (n : ℕ) (a : States) (x : List StepRule) → text_at mixed n (a ++ x ∷ []) ≡ text_at mixed n a ++ (x ++ cond mixed (reading ch_text (n + length a) ∷ []) []) ∷ []
text_more true n a x = text_last n a x
text_more false n a x = ap (λ (z : List StepRule). a ++ z ∷ []) (sym (append-nil x))

-- one more state, in which text stands last
pub text_next : (mixed : Bool) (n place : ℕ) (first old new done : List (List Step)) (x y : List Step) → made_of old ≡ made_of first ++ text_at mixed n (made_of done) → place ≡ n + length done → map step_rule y ≡ map step_rule x ++ cond mixed (reading ch_text place ∷ []) [] → new ≡ old ++ y ∷ [] → made_of new ≡ made_of first ++ text_at mixed n (made_of (done ++ x ∷ []))
text_next mixed n place first old new done x y was here is more =
    let last : ℕ → List StepRule = λ k. map step_rule x ++ cond mixed (reading ch_text k ∷ []) [] in
    let at : place ≡ n + length (made_of done) = here ∙ ap (λ (k : ℕ). n + k) (sym (length-map done (map step_rule))) in
    push_made old new y (last place) more is
    ∙ ap (λ (z : States). z ++ last place ∷ []) was
    ∙ append_assoc (made_of first) (text_at mixed n (made_of done)) (last place ∷ [])
    ∙ ap (λ (z : States). made_of first ++ z)
    (ap (λ (k : ℕ). text_at mixed n (made_of done) ++ last k ∷ []) at
    ∙ sym (text_more mixed n (made_of done) (map step_rule x))
    ∙ ap (text_at mixed n) (sym (map-append (map step_rule) done (x ∷ []))))

-- ---- the elements of a content, behind attributes
not_empty : (n : ℕ) → false ≡ n == 0 → n ≡ 0 → ⊥
not_empty zero e h = false≢true e
not_empty (suc n) e h = absurd (omega (arith, h))

pub fits_behind : (p : Parts) (any : Bool) (xs : List ℕ) (first : ℕ) (s : Spot) → any ≡ true → first + length (sequence (any_pieces any ++ map (piece_of p) xs)).states ≤ most_states → particles_of (map (piece_of p) xs) ≤ most_particles → s ≡ record { first = first + 2; before = 0; next = None } → Fits s (sum_of (counts_of (map (piece_of p) xs))) (particles_of (map (piece_of p) xs))
fits_behind p any xs first s is fits few at =
    let long = ap (λ (b : Bool). length (sequence (any_pieces b ++ map (piece_of p) xs)).states) is ∙ long_behind p xs in
    let here = ap (λ (t : Spot). t.first) at in
    let before = ap (λ (t : Spot). t.before) at in
    (omega (arith, fits, long, here), omega (arith, few, before))

pub fits_alone : (p : Parts) (any : Bool) (xs : List ℕ) (first : ℕ) → any ≡ false → false ≡ length xs == 0 → first + length (sequence (any_pieces any ++ map (piece_of p) xs)).states ≤ most_states → particles_of (map (piece_of p) xs) ≤ most_particles → (first + sum_of (counts_of (map (piece_of p) xs)) ≤ most_states) × (0 + particles_of (map (piece_of p) xs) ≤ most_particles)
fits_alone p any xs first is some fits few =
    let long = ap (λ (b : Bool). length (sequence (any_pieces b ++ map (piece_of p) xs)).states) is ∙ long_alone p xs (not_empty (length xs) some) in
    (omega (arith, fits, long), omega (arith, few))

length-text : (n : ℕ) (a : States) → length (with_text_from n a) ≡ length a
length-text n [] = refl
length-text n (x ∷ a) = ap (λ (k : ℕ). suc k) (length-text (suc n) a)

length-mixed : (mixed : Bool) (a : States) → length (with_text mixed a) ≡ length a
length-mixed true a = length-text 0 a
length-mixed false a = refl

long_elements : (p : Parts) (w : declared.Whole) (any : Bool) (xs : List ℕ) (mixed : Bool) → w ≡ whole.Elements any xs mixed → length (content_states p (whole_of w)) ≡ length (sequence (any_pieces any ++ map (piece_of p) xs)).states
long_elements p w any xs mixed is =
    ap (λ (v : declared.Whole). length (content_states p (whole_of v))) is ∙ length-mixed mixed (sequence (any_pieces any ++ map (piece_of p) xs)).states

pub room_before : (p : Parts) (w : declared.Whole) (any : Bool) (xs ys : List ℕ) (mixed : Bool) (old at : List (List Step)) → w ≡ whole.Elements any xs mixed → ys ≡ xs → at ≡ old → length old + length (content_states p (whole_of w)) ≤ most_states → length at + length (sequence (any_pieces any ++ map (piece_of p) ys)).states ≤ most_states
room_before p w any xs ys mixed old at is same here room =
    let long = long_elements p w any xs mixed is in
    let alike = ap (λ (zs : List ℕ). length (sequence (any_pieces any ++ map (piece_of p) zs)).states) same in
    let n = ap (λ (z : List (List Step)). length z) here in
    omega (arith, room, long, alike, n)

pub room_behind : (p : Parts) (w : declared.Whole) (any : Bool) (xs ys : List ℕ) (mixed : Bool) (old more : List (List Step)) (f : ℕ) → w ≡ whole.Elements any xs mixed → ys ≡ xs → made_of more ≡ lined f 0 None (any_pieces any ++ map (piece_of p) ys) → length old + length (content_states p (whole_of w)) ≤ most_states → length old + length more ≤ most_states
room_behind p w any xs ys mixed old more f is same are room =
    let long = long_elements p w any xs mixed is in
    let alike = ap (λ (zs : List ℕ). length (sequence (any_pieces any ++ map (piece_of p) zs)).states) same in
    let made = sym (length-map more (map step_rule)) ∙ ap (λ (z : States). length z) (are ∙ sym (set-sequence f 0 None (any_pieces any ++ map (piece_of p) ys))) ∙ length-set f 0 None (sequence (any_pieces any ++ map (piece_of p) ys)).states in
    omega (arith, room, long, alike, made)

pub elements_made : (p : Parts) (w : declared.Whole) (any : Bool) (xs ys : List ℕ) (mixed : Bool) (old at new : List (List Step)) (more : States) → w ≡ whole.Elements any xs mixed → ys ≡ xs → at ≡ old → more ≡ lined (length at) 0 None (any_pieces any ++ map (piece_of p) ys) → made_of new ≡ made_of old ++ text_at mixed (length old) more → made_of new ≡ made_of old ++ set (length old) 0 None (content_states p (whole_of w))
elements_made p w any xs ys mixed old at new more is same here are e =
    content_elements p any xs mixed old new more (length at) (ap (λ (z : List (List Step)). length z) here) (are ∙ ap (λ (zs : List ℕ). lined (length at) 0 None (any_pieces any ++ map (piece_of p) zs)) same) e
    ∙ ap (λ (v : declared.Whole). made_of old ++ set (length old) 0 None (content_states p (whole_of v))) (sym is)

-- ---- attributes
count-uses : (p : Parts) (w : Option Wild) (us : List Use) → states_count (each_use p w us) ≡ 2 * length us
count-uses p w [] = refl
count-uses p w (u ∷ us) = let h = count-uses p w us in omega (arith, h)

pub length-uses : (p : Parts) (w : Option Wild) (us : List Use) (old new : List (List Step)) → made_of new ≡ made_of old ++ led_from (length old) (each_use p w us) → length new ≡ length old + 2 * length us
length-uses p w us old new is =
    let e = sym (length-made new) ∙ ap (λ (x : States). length x) is in
    let l = length-append (made_of old) (led_from (length old) (each_use p w us)) in
    let m = length-made old in
    let s = length-led (length old) (each_use p w us) in
    let c = count-uses p w us in
    omega (arith, e, l, m, s, c)

pub last_by : (w : Option Wild) (b : Bool) (f to : ℕ) (old new : List (List Step)) (wilds steps : List Step) → is_some w ≡ not b → b ≡ false → f ≡ length old → to ≡ f + 1 → map step_rule wilds ≡ wild_at f w → map step_rule steps ≡ map step_rule wilds ++ leading to ∷ [] → new ≡ old ++ steps ∷ [] → made_of new ≡ made_of old ++ led_from (length old) (last_wild w)
last_by None b f to old new wilds steps is other first next is_wild is_steps is_new = absurd (false≢true (is ∙ ap not other))
last_by (Some v) b f to old new wilds steps is other first next is_wild is_steps is_new = last_made (Some v) v f to old new wilds steps refl first next is_wild is_steps is_new
