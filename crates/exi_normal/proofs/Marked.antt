-- What is found by the places that are noted.
use Rattle.std.proofs.Common.{◌≡◌, ℕ, zero, suc, ◌+◌, ◌<◌, ◌≤◌, Bool, true, false, cond, inl, inr, List, [], ◌∷◌, ◌++◌, length, get_or, refl, sym, ap, subst, ◌∙◌, ◌⊎◌, arith}
use Rattle.std.specs.Prelude.{◌==◌, ◌||◌, Option, None, Some, ltb, nat_lt, set, slice_get}
use Rattle.std.specs.List.{list_any, position, position_or_len}
use Rattle.std.proofs.lemmas.List.Folds.{list_any_at}
use Rattle.std.proofs.lemmas.List.Quantifiers.{position-Some}
use Rattle.std.proofs.lemmas.Bool.{both_ways, cases_Bool, cases_eq, cases_lt, eqb-true, eq-eqb, false_from_ne_true, le-ltb, lt-ltb, ltb-false, ltb-true, ne_eqb, or_right}
use Rattle.std.proofs.lemmas.List.{length-set, length_push, get_or-set_same, get_or-set_other}
use Rattle.std.proofs.lemmas.Option.{cond_some, same_Some, slice_get_past, slice_get_read, slice_get_within, get_or_from_slice_get}
use Rattle.exi_gram.specs.Reaching.{is_among}
use Rattle.exi_normal.specs.Marking.{AreMarked}
use Rattle.exi_normal.specs.Numbers.{AreNoted, group_of, joined, place_on, with_reading}
use Rattle.exi_normal.specs.declared.groups.Group.{Group}
use Rattle.exi_normal.specs.declared.walk.Reading.{Reading}
use Rattle.exi_normal.proofs.Same.{place_here, place_past}
use Rattle.exi_normal.proofs.Works.{any_is_below}

-- ---- lists by places
get_last : {X : Type 0} (xs : List X) (x : X) → slice_get (xs ++ x ∷ []) (length xs) ≡ Some x
get_last [] x = refl
get_last (y ∷ ys) x = get_last ys x

get_before : {X : Type 0} (xs : List X) (x y : X) (k : ℕ) → slice_get (xs ++ x ∷ []) k ≡ Some y → (slice_get xs k ≡ Some y) ⊎ ((k ≡ length xs) × (x ≡ y))
get_before [] x y zero e = inr (refl, same_Some x y e)
get_before [] x y (suc k) e = absurd (cc)
get_before (z ∷ xs) x y zero e = inl e
get_before (z ∷ xs) x y (suc k) e = elim (get_before xs x y k e) [
  | inl h ↦ inl h
  | inr h ↦ inr (ap suc h.0, h.1)
]

get_set_same : {X : Type 0} (xs : List X) (k : ℕ) (x : X) → k < length xs → slice_get (set xs k x) k ≡ Some x
get_set_same [] k x less = absurd (omega (arith, less))
get_set_same (y ∷ ys) zero x less = refl
get_set_same (y ∷ ys) (suc k) x less = get_set_same ys k x (omega (arith, less))

get_set_other : {X : Type 0} (xs : List X) (k j : ℕ) (x : X) → (j ≡ k → ⊥) → slice_get (set xs k x) j ≡ slice_get xs j
get_set_other [] k j x n = refl
get_set_other (y ∷ ys) zero zero x n = absurd (n refl)
get_set_other (y ∷ ys) zero (suc j) x n = refl
get_set_other (y ∷ ys) (suc k) zero x n = refl
get_set_other (y ∷ ys) (suc k) (suc j) x n = get_set_other ys k j x (λ e. n (ap suc e))

-- what `get` says
pub read_some : {X : Type 0} (xs : List X) (i : ℕ) (x : X) → true ≡ ltb i (length xs) → x ≡ get_or xs i x → slice_get xs i ≡ Some x
read_some xs i x e r = slice_get_read xs (length xs) i x refl (ltb-true i (length xs) (sym e)) r

pub read_none : {X : Type 0} (xs : List X) (i : ℕ) → false ≡ ltb i (length xs) → slice_get xs i ≡ None
read_none xs i e = slice_get_past xs i (ltb-false i (length xs) (sym e))

-- ---- states
among_at : (s : ℕ) (states : List ℕ) (k : ℕ) → slice_get states k ≡ Some s → is_among s states ≡ true
among_at s [] k e = absurd (cc)
among_at s (t ∷ states) zero e = ap (λ b. b || is_among s states) (eq-eqb s t (sym (same_Some t s e)))
among_at s (t ∷ states) (suc k) e = or_right (s == t) (is_among s states) (among_at s states k e)

at_among : (s : ℕ) (states : List ℕ) → is_among s states ≡ true → (k : ℕ) × (slice_get states k ≡ Some s)
at_among s [] e = absurd (cc)
at_among s (t ∷ states) e = elim (cases_Bool (s == t)) [
  | inl same ↦ (zero, ap Some (sym (eqb-true s t same)))
  | inr other ↦ let w = at_among s states (ap (λ b. b || is_among s states) (sym other) ∙ e) in (suc w.0, w.1)
]

pub marked_some : (places states : List ℕ) (s place other : ℕ) → AreMarked places states → slice_get places s ≡ Some place → slice_get states place ≡ Some other → (s == other) ≡ is_among s states
marked_some places states s place other m p o = elim (cases_eq s other) [
  | inl e ↦ eq-eqb s other e ∙ sym (among_at s states place (o ∙ ap Some (sym e)))
  | inr n ↦
      ne_eqb s other n ∙ sym (false_from_ne_true (is_among s states) (λ h.
      let w = at_among s states h in
      let k : w.0 ≡ place = same_Some w.0 place (sym (m w.0 s w.1 (slice_get_within places s place p)) ∙ p) in
      n (same_Some s other (sym w.1 ∙ ap (slice_get states) k ∙ o))))
]

pub marked_none : (places states : List ℕ) (s place : ℕ) → AreMarked places states → slice_get places s ≡ Some place → slice_get states place ≡ None → false ≡ is_among s states
marked_none places states s place m p o =
    sym (false_from_ne_true (is_among s states) (λ h.
    let w = at_among s states h in
    let k : w.0 ≡ place = same_Some w.0 place (sym (m w.0 s w.1 (slice_get_within places s place p)) ∙ p) in
    none_some s (sym o ∙ ap (slice_get states) (sym k) ∙ w.1)))
  where
    none_some : (x : ℕ) → None ≡ Some x → ⊥
    none_some x e = absurd (cc)

fresh_at : (s : ℕ) (states : List ℕ) (k t : ℕ) → is_among s states ≡ false → slice_get states k ≡ Some t → t ≡ s → ⊥
fresh_at s states k t f e same = both_ways (is_among s states) f (among_at s states k (e ∙ ap Some same))

pub marked_put : (places states : List ℕ) (s : ℕ) → AreMarked places states → is_among s states ≡ false → AreMarked (set places s (length states)) (states ++ s ∷ [])
marked_put places states s m f k t e less = elim (get_before states s t k e) [
  | inl h ↦ get_set_other places s t (length states) (fresh_at s states k t f h) ∙ m k t h (subst (λ n. t < n) (length-set places s (length states)) less)
  | inr h ↦
      let same : t ≡ s = sym h.1 in
      let there : s < length places = subst (λ n. n < length places) same (subst (λ n. t < n) (length-set places s (length states)) less) in
      ap (slice_get (set places s (length states))) same ∙ get_set_same places s (length states) there ∙ ap Some (sym h.0)
]

pub marked_past : (places states : List ℕ) (s : ℕ) → AreMarked places states → length places ≤ s → AreMarked places (states ++ s ∷ [])
marked_past places states s m le k t e less = elim (get_before states s t k e) [
  | inl h ↦ m k t h less
  | inr h ↦ let same : s ≡ t = h.1 in absurd (omega (arith, le, less, same))
]

pub marked_none_yet : (places : List ℕ) → AreMarked places []
marked_none_yet places k t e less = absurd (cc)

-- ---- groups
abbrev pub has_on : ℕ → Group → Bool
has_on on g = on == g.on

place_found : (on : ℕ) (gs : List Group) (k : ℕ) (g : Group) → slice_get gs k ≡ Some g → has_on on g ≡ true → ((j : ℕ) (h : Group) → slice_get gs j ≡ Some h → has_on on h ≡ true → j ≡ k) → position_or_len (has_on on) gs ≡ k
place_found on [] k g e t only = absurd (cc)
place_found on (h ∷ gs) zero g e t only = place_here (has_on on) h gs (ap (has_on on) (same_Some h g e) ∙ t)
place_found on (h ∷ gs) (suc k) g e t only = elim (cases_Bool (has_on on h)) [
  | inl u ↦ let z : zero ≡ suc k = only zero h refl u in absurd (omega (arith, z))
  | inr n ↦ place_past (has_on on) h gs n ∙ ap suc (place_found on gs k g e t (λ j x p q. let z : suc j ≡ suc k = only (suc j) x p q in omega (arith, z)))
]

place_nowhere : (on : ℕ) (gs : List Group) → ((j : ℕ) (h : Group) → slice_get gs j ≡ Some h → has_on on h ≡ false) → position_or_len (has_on on) gs ≡ length gs
place_nowhere on [] none = refl
place_nowhere on (h ∷ gs) none = place_past (has_on on) h gs (none zero h refl) ∙ ap suc (place_nowhere on gs (λ j x p. none (suc j) x p))

pub noted_some : (notes : List ℕ) (gs : List Group) (on place : ℕ) (g : Group) → AreNoted notes gs → slice_get notes on ≡ Some place → slice_get gs place ≡ Some g → on ≡ g.on → Some place ≡ place_on on gs
noted_some notes gs on place g m p e same =
    let only : (j : ℕ) (h : Group) → slice_get gs j ≡ Some h → has_on on h ≡ true → j ≡ place = λ j h q t.
    let o : h.on ≡ on = sym (eqb-true on h.on t) in
    same_Some j place (sym (m j h q (subst (λ n. n < length notes) (sym o) (slice_get_within notes on place p))) ∙ ap (slice_get notes) o ∙ p)
    in
    let i : position_or_len (has_on on) gs ≡ place = place_found on gs place g e (eq-eqb on g.on same) only in
    let less : place < length gs = slice_get_within gs place g e in
    let below : position_or_len (has_on on) gs < length gs = omega (arith, i, less) in
    sym (ap (λ b. cond b (Some (position_or_len (has_on on) gs)) None) (lt-ltb (position_or_len (has_on on) gs) (length gs) below) ∙ ap Some i)

nowhere : (on : ℕ) (gs : List Group) → ((j : ℕ) (h : Group) → slice_get gs j ≡ Some h → has_on on h ≡ false) → None ≡ place_on on gs
nowhere on gs none =
    let i : position_or_len (has_on on) gs ≡ length gs = place_nowhere on gs none in
    sym (ap (λ b. cond b (Some (position_or_len (has_on on) gs)) None) (le-ltb (position_or_len (has_on on) gs) (length gs) (omega (arith, i))))

noted_at : (notes : List ℕ) (gs : List Group) (on place j : ℕ) (h : Group) → AreNoted notes gs → slice_get notes on ≡ Some place → slice_get gs j ≡ Some h → on ≡ h.on → slice_get gs place ≡ Some h
noted_at notes gs on place j h m p q o =
    let k : j ≡ place = same_Some j place (sym (m j h q (subst (λ n. n < length notes) o (slice_get_within notes on place p))) ∙ ap (slice_get notes) (sym o) ∙ p) in
    ap (slice_get gs) (sym k) ∙ q

pub noted_other : (notes : List ℕ) (gs : List Group) (on place : ℕ) (g : Group) → AreNoted notes gs → slice_get notes on ≡ Some place → slice_get gs place ≡ Some g → (on ≡ g.on → ⊥) → None ≡ place_on on gs
noted_other notes gs on place g m p e n = nowhere on gs (λ j h q. ne_eqb on h.on (λ o. n (o ∙ ap (λ (x : Group). x.on) (same_Some h g (sym (noted_at notes gs on place j h m p q o) ∙ e)))))

pub noted_none : (notes : List ℕ) (gs : List Group) (on place : ℕ) → AreNoted notes gs → slice_get notes on ≡ Some place → slice_get gs place ≡ None → None ≡ place_on on gs
noted_none notes gs on place m p e = nowhere on gs (λ j h q. ne_eqb on h.on (λ o. none_some h (sym e ∙ noted_at notes gs on place j h m p q o)))
  where
    none_some : (x : Group) → None ≡ Some x → ⊥
    none_some x e = absurd (cc)

-- one more step
with_at : (r : Reading) (gs : List Group) (k : ℕ) (g : Group) → slice_get gs k ≡ Some g → has_on r.on g ≡ true → ((j : ℕ) (h : Group) → j < k → slice_get gs j ≡ Some h → has_on r.on h ≡ false) → with_reading r gs ≡ set gs k (joined r g)
with_at r [] k g e t none = absurd (cc)
with_at r (h ∷ gs) zero g e t none =
    let s : h ≡ g = same_Some h g e in
    ap (λ b. cond b (joined r h ∷ gs) (h ∷ with_reading r gs)) (ap (has_on r.on) s ∙ t) ∙ ap (λ x. joined r x ∷ gs) s
with_at r (h ∷ gs) (suc k) g e t none =
    ap (λ b. cond b (joined r h ∷ gs) (h ∷ with_reading r gs)) (none zero h (omega arith) refl)
    ∙ ap (λ x. h ∷ x) (with_at r gs k g e t (λ j x less p. none (suc j) x (omega (arith, less)) p))

with_new : (r : Reading) (gs : List Group) → ((j : ℕ) (h : Group) → slice_get gs j ≡ Some h → has_on r.on h ≡ false) → with_reading r gs ≡ gs ++ group_of r ∷ []
with_new r [] none = refl
with_new r (h ∷ gs) none =
    ap (λ b. cond b (joined r h ∷ gs) (h ∷ with_reading r gs)) (none zero h refl)
    ∙ ap (λ x. h ∷ x) (with_new r gs (λ j x p. none (suc j) x p))

-- what a place found says
pub found_there : (on : ℕ) (gs : List Group) (place : ℕ) → Some place ≡ place_on on gs → place < length gs
found_there on gs place e =
    let w = cond_some (nat_lt (position_or_len (has_on on) gs) (length gs)) (position_or_len (has_on on) gs) place (sym e) in
    let less : position_or_len (has_on on) gs < length gs = ltb-true (position_or_len (has_on on) gs) (length gs) w.0 in
    let is : position_or_len (has_on on) gs ≡ place = w.1 in
    omega (arith, less, is)

pub put_found : (r : Reading) (gs : List Group) (place : ℕ) (g : Group) → Some place ≡ place_on r.on gs → slice_get gs place ≡ Some g → with_reading r gs ≡ set gs place (joined r g)
put_found r gs place g e p =
    let w = position-Some (has_on r.on) gs place g (sym e) in
    with_at r gs place g p (ap (has_on r.on) (sym (get_or_from_slice_get gs place g g p)) ∙ w.1)
    (λ j h less q. ap (has_on r.on) (sym (get_or_from_slice_get gs j h g q)) ∙ w.2 j less)

pub put_nowhere : (on : ℕ) (gs : List Group) → None ≡ place_on on gs → (j : ℕ) (h : Group) → slice_get gs j ≡ Some h → has_on on h ≡ false
put_nowhere on gs e j h q = false_from_ne_true (has_on on h) (λ t.
    let a : list_any (has_on on) gs ≡ true = list_any_at (has_on on) gs j h (slice_get_within gs j h q) (ap (has_on on) (get_or_from_slice_get gs j h h q) ∙ t) in
    let b : nat_lt (position_or_len (has_on on) gs) (length gs) ≡ true = sym (any_is_below (has_on on) gs) ∙ a in
    none_some (position_or_len (has_on on) gs) (e ∙ ap (λ b. cond b (Some (position_or_len (has_on on) gs)) None) b))
  where
    none_some : (x : ℕ) → None ≡ Some x → ⊥
    none_some x e = absurd (cc)

pub put_new : (r : Reading) (gs : List Group) → None ≡ place_on r.on gs → with_reading r gs ≡ gs ++ group_of r ∷ []
put_new r gs e = with_new r gs (put_nowhere r.on gs e)

pub noted_found : (notes : List ℕ) (gs : List Group) (place : ℕ) (r : Reading) (g : Group) → AreNoted notes gs → slice_get gs place ≡ Some g → AreNoted notes (set gs place (joined r g))
noted_found notes gs place r g m p k h q less = elim (cases_eq k place) [
  | inl e ↦
      let s : joined r g ≡ h = same_Some (joined r g) h (sym (get_set_same gs place (joined r g) (slice_get_within gs place g p)) ∙ ap (slice_get (set gs place (joined r g))) (sym e) ∙ q) in
      let o : g.on ≡ h.on = ap (λ (x : Group). x.on) s in
      ap (slice_get notes) (sym o) ∙ m place g p (subst (λ n. n < length notes) (sym o) less) ∙ ap Some (sym e)
  | inr n ↦ m k h (sym (get_set_other gs place k (joined r g) n) ∙ q) less
]

pub noted_new : (notes : List ℕ) (gs : List Group) (r : Reading) → AreNoted notes gs → None ≡ place_on r.on gs → AreNoted (set notes r.on (length gs)) (gs ++ group_of r ∷ [])
noted_new notes gs r m e k h q less = elim (get_before gs (group_of r) h k q) [
  | inl old ↦
      let n : h.on ≡ r.on → ⊥ = λ o. both_ways (has_on r.on h) (put_nowhere r.on gs e k h old) (eq-eqb r.on h.on (sym o)) in
      get_set_other notes r.on h.on (length gs) n ∙ m k h old (subst (λ z. h.on < z) (length-set notes r.on (length gs)) less)
  | inr new ↦
      let o : h.on ≡ r.on = ap (λ (x : Group). x.on) (sym new.1) in
      let there : r.on < length notes = subst (λ z. z < length notes) o (subst (λ z. h.on < z) (length-set notes r.on (length gs)) less) in
      ap (slice_get (set notes r.on (length gs))) o ∙ get_set_same notes r.on (length gs) there ∙ ap Some (sym new.0)
]

pub noted_past : (notes : List ℕ) (gs : List Group) (r : Reading) → AreNoted notes gs → length notes ≤ r.on → AreNoted notes (gs ++ group_of r ∷ [])
noted_past notes gs r m le k h q less = elim (get_before gs (group_of r) h k q) [
  | inl old ↦ m k h old less
  | inr new ↦ let o : r.on ≡ h.on = ap (λ (x : Group). x.on) new.1 in absurd (omega (arith, le, less, o))
]

pub noted_none_yet : (notes : List ℕ) → AreNoted notes []
noted_none_yet notes k h q less = absurd (cc)
