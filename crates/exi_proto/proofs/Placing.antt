-- States where they stand in a whole grammar.
use Rattle.std.proofs.Common.{◌≡◌, ℕ, ◌+◌, Bool, true, false, cond, Option, Some, None, List, [], ◌∷◌, ◌++◌, length, map, refl, ap, ◌∙◌, arith}
use Rattle.std.proofs.lemmas.List.{length-map}
use Rattle.exi_gram.specs.Terminals.{StepRule}
use Rattle.exi_draft.specs.Drafts.{States, ends}
use Rattle.exi_proto.specs.Pieces.{counts_of, Piece, behind, behind_step, branches_from, ending, joined, joined_all, joined_behind, leading, led, led_step, one_of, optional, place_behind, placed, raised, raised_step, repeated, starts_from, with_start}
use Rattle.exi_proto.specs.Places.{end_step, laid, led_by, lined, lined_behind, set, set_step, starts_by}

-- ---- one step
abbrev stepped : StepRule → ℕ → Option ℕ → StepRule
stepped s to place = record { on = s.on; to = to; inner = s.inner; particle = place }

raised_to : (s : StepRule) (place : Option ℕ) (i j : ℕ) → i ≡ j → stepped s i place ≡ stepped s j place
raised_to s place i j e = ap (λ (n : ℕ). stepped s n place) e

placed_so : (s : StepRule) (to : ℕ) (a b : Option ℕ) → a ≡ b → stepped s to a ≡ stepped s to b
placed_so s to a b e = ap (stepped s to) e

pub set-raised : (f b n g : ℕ) (e : Option ℕ) (s : StepRule) → n + f ≡ g → set_step f b e (raised_step n s) ≡ set_step g b e s
set-raised f b n g e s is = ap (led_by e) (raised_to s (place_behind b s.particle) (s.to + n + f) (s.to + g) (omega (arith, is)))

pub set-behind : (f b n d : ℕ) (e : Option ℕ) (s : StepRule) → n + b ≡ d → set_step f b e (behind_step n s) ≡ set_step f d e s
set-behind f b n d e s is = ap (led_by e) (placed_so s (s.to + f) (place_behind b (place_behind n s.particle)) (place_behind d s.particle) (twice s.particle))
  where
    twice : (o : Option ℕ) → place_behind b (place_behind n o) ≡ place_behind d o
    twice None = refl
    twice (Some place) = ap (λ (k : ℕ). Some k) (omega (arith, is))

pub set-led : (f b to g : ℕ) (e : Option ℕ) (s : StepRule) → to + f ≡ g → set_step f b e (led_step to s) ≡ set_step f b (Some g) s
set-led f b to g e s is = by_end (ends s.on) refl e
  where
    by_end : (x : Bool) → ends s.on ≡ x → (e : Option ℕ) → set_step f b e (cond x (leading to) s) ≡ cond x (leading g) (raised_step f (behind_step b s))
    by_end true q None = raised_to (leading to) None (to + f) g is
    by_end true q (Some next) = raised_to (leading to) None (to + f) g is
    by_end false q None = refl
    by_end false q (Some next) = ap (λ (x : Bool). cond x (leading next) (raised_step f (behind_step b s))) q

-- ---- all steps
each_step : (g h k : StepRule → StepRule) → ((s : StepRule) → g (h s) ≡ k s) → (steps : List StepRule) → map g (map h steps) ≡ map k steps
each_step g h k e [] = refl
each_step g h k e (s ∷ steps) = ap (λ (x : StepRule). x ∷ map g (map h steps)) (e s) ∙ ap (λ (xs : List StepRule). k s ∷ xs) (each_step g h k e steps)

each : (g h k : StepRule → StepRule) → ((s : StepRule) → g (h s) ≡ k s) → (states : States) → map (map g) (map (map h) states) ≡ map (map k) states
each g h k e [] = refl
each g h k e (x ∷ xs) = ap (λ (y : List StepRule). y ∷ map (map g) (map (map h) xs)) (each_step g h k e x) ∙ ap (λ (ys : States). map k x ∷ ys) (each g h k e xs)

each-append : (g : StepRule → StepRule) (a b : States) → map (map g) (a ++ b) ≡ map (map g) a ++ map (map g) b
each-append g [] b = refl
each-append g (x ∷ a) b = ap (λ (ys : States). map g x ∷ ys) (each-append g a b)

pub raised-all : (f b n g : ℕ) (e : Option ℕ) (a : States) → n + f ≡ g → set f b e (raised n a) ≡ set g b e a
raised-all f b n g e a is = each (set_step f b e) (raised_step n) (set_step g b e) (λ s. set-raised f b n g e s is) a

pub behind-all : (f b n d : ℕ) (e : Option ℕ) (a : States) → n + b ≡ d → set f b e (behind n a) ≡ set f d e a
behind-all f b n d e a is = each (set_step f b e) (behind_step n) (set_step f d e) (λ s. set-behind f b n d e s is) a

pub led-all : (f b to g : ℕ) (e : Option ℕ) (a : States) → to + f ≡ g → set f b e (led to a) ≡ set f b (Some g) a
led-all f b to g e a is = each (set_step f b e) (led_step to) (set_step f b (Some g)) (λ s. set-led f b to g e s is) a

pub length-set : (f b : ℕ) (e : Option ℕ) (a : States) → length (set f b e a) ≡ length a
length-set f b e a = length-map a (map (set_step f b e))

-- ---- one after another
pub set-joined : (f b g : ℕ) (e : Option ℕ) (a c : States) → f + length a ≡ g → set f b e (joined a c) ≡ set f b (Some g) a ++ set g b e c
set-joined f b g e a c is =
    each-append (set_step f b e) (led (length a) a) (raised (length a) c)
    ∙ ap (λ (x : States). x ++ set f b e (raised (length a) c)) (led-all f b (length a) g e a (omega (arith, is)))
    ∙ ap (λ (x : States). set f b (Some g) a ++ x) (raised-all f b (length a) g e c (omega (arith, is)))

pub set-lined_behind : (f b k d : ℕ) (e : Option ℕ) (x : Piece) (xs : List Piece) → k + b ≡ d → set f b e (joined_behind (behind k x.states) (placed (k + x.particles) xs)) ≡ lined_behind f d e x xs
set-lined_behind f b k d e x [] is = behind-all f b k d e x.states is
set-lined_behind f b k d e x (y ∷ ys) is =
    let long : length (behind k x.states) ≡ length x.states = length-map x.states (map (behind_step k)) in
    set-joined f b (f + length x.states) e (behind k x.states) (joined_behind (behind (k + x.particles) y.states) (placed (k + x.particles + y.particles) ys)) (omega (arith, long))
    ∙ ap (λ (z : States). z ++ set (f + length x.states) b e (joined_behind (behind (k + x.particles) y.states) (placed (k + x.particles + y.particles) ys))) (behind-all f b k d (Some (f + length x.states)) x.states is)
    ∙ ap (λ (z : States). set f d (Some (f + length x.states)) x.states ++ z) (set-lined_behind (f + length x.states) b (k + x.particles) (d + x.particles) e y ys (omega (arith, is)))

pub set-ending : (f b : ℕ) (e : Option ℕ) → set_step f b e (ending 0) ≡ end_step f e
set-ending f b None = raised_to (ending 0) None (0 + f) f (omega arith)
set-ending f b (Some to) = refl

pub set-sequence : (f b : ℕ) (e : Option ℕ) (xs : List Piece) → set f b e (joined_all (placed 0 xs)) ≡ lined f b e xs
set-sequence f b e [] = ap (λ (s : StepRule). (s ∷ []) ∷ []) (set-ending f b e)
set-sequence f b e (x ∷ xs) = set-lined_behind f b 0 b e x xs (omega arith)

-- ---- beside one another
pub set-branches : (f b n k g d : ℕ) (e : Option ℕ) (xs : List Piece) → n + f ≡ g → k + b ≡ d → set f b e (branches_from n (placed k xs)) ≡ laid g d e xs
set-branches f b n k g d e [] is so = refl
set-branches f b n k g d e (x ∷ xs) is so =
    let long : length (behind k x.states) ≡ length x.states = length-map x.states (map (behind_step k)) in
    each-append (set_step f b e) (raised n (behind k x.states)) (branches_from (n + length (behind k x.states)) (placed (k + x.particles) xs))
    ∙ ap (λ (z : States). z ++ set f b e (branches_from (n + length (behind k x.states)) (placed (k + x.particles) xs))) (raised-all f b n g e (behind k x.states) is ∙ behind-all g b k d e x.states so)
    ∙ ap (λ (z : States). set g d e x.states ++ z) (set-branches f b (n + length (behind k x.states)) (k + x.particles) (g + length x.states) (d + x.particles) e xs (omega (arith, is, long)) (omega (arith, so)))

pub set-starts : (f b n k g : ℕ) (e : Option ℕ) (xs : List Piece) → n + f ≡ g → map (set_step f b e) (starts_from n (placed k xs)) ≡ starts_by g (counts_of xs)
set-starts f b n k g e [] is = refl
set-starts f b n k g e (x ∷ xs) is =
    let long : length (behind k x.states) ≡ length x.states = length-map x.states (map (behind_step k)) in
    ap (λ (s : StepRule). s ∷ map (set_step f b e) (starts_from (n + length (behind k x.states)) (placed (k + x.particles) xs))) (start e)
    ∙ ap (λ (z : List StepRule). leading g ∷ z) (set-starts f b (n + length (behind k x.states)) (k + x.particles) (g + length x.states) e xs (omega (arith, is, long)))
  where
    start : (e : Option ℕ) → set_step f b e (leading n) ≡ leading g
    start None = raised_to (leading n) None (n + f) g is
    start (Some to) = raised_to (leading n) None (n + f) g is

pub set-choice : (f b : ℕ) (e : Option ℕ) (xs : List Piece) → set f b e (one_of (placed 0 xs)) ≡ starts_by (f + 1) (counts_of xs) ∷ laid (f + 1) b e xs
set-choice f b e xs =
    ap (λ (s : List StepRule). s ∷ set f b e (branches_from 1 (placed 0 xs))) (set-starts f b 1 0 (f + 1) e xs (omega arith))
    ∙ ap (λ (z : States). starts_by (f + 1) (counts_of xs) ∷ z) (set-branches f b 1 0 (f + 1) b e xs (omega arith) (omega arith))

-- ---- copies
pub set-optional : (f b : ℕ) (e : Option ℕ) (a : States) → set f b e (optional a) ≡ with_start (end_step f e) (set f b e a)
set-optional f b e [] = refl
set-optional f b e (x ∷ a) = ap (λ (s : List StepRule). s ∷ set f b e a) (last x)
  where
    last : (x : List StepRule) → map (set_step f b e) (x ++ ending 0 ∷ []) ≡ map (set_step f b e) x ++ end_step f e ∷ []
    last [] = ap (λ (s : StepRule). s ∷ []) (set-ending f b e)
    last (s ∷ x) = ap (λ (z : List StepRule). set_step f b e s ∷ z) (last x)

pub set-repeated : (f b : ℕ) (e : Option ℕ) (a : States) → set f b e (repeated a) ≡ with_start (end_step f e) (set f b (Some f) a)
set-repeated f b e a = set-optional f b e (led 0 a) ∙ ap (with_start (end_step f e)) (led-all f b 0 f e a (omega arith))
