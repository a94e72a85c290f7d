-- From the mask of sixteen bytes to the bytes themselves.
use Rattle.std.proofs.Common.{◌≡◌, ◌≢◌, ◌↔◌, ℕ, zero, suc, take, drop, eqb, ◌+◌, ◌%◌, ◌^◌, ◌<◌, ◌≤◌, Bool, true, false, not, cond, leb, ◌||◌, ◌&&◌, List, [], ◌∷◌, map, length, get_or, Fits, w8, refl, sym, ap, ap₂, ◌∙◌, arith, inl, inr}
use Rattle.std.specs.Str.{IsAscii}
use Rattle.std.proofs.lemmas.Bool.{and_from, cases_lt, eq-eqb, eqb-true, not-true, not-false, false≢true}
use Rattle.std.proofs.lemmas.Simd.{zip2_of_maps, map-map, tops_compared, mask_l-mod, first_set_mask_l, length-chunk, length-zip2, get_or-zip2, run_in_chunk_le, run_in_chunk_fails, run_in_chunk_stops}
use Rattle.std.proofs.lemmas.List.{length-map}
use Rattle.std.specs.List.{prefix_len}
use lib.Lanes.{chunk, zip2, mask_l, top}
use Rattle.std.specs.Prelude.{IsTrue}
use Rattle.std.proofs.lemmas.Bool.{le-leb, leb-true, agree_below, agree_below_at}
use Rattle.std.proofs.lemmas.List.{get_or-take, length-take-le}
use Rattle.exi_names.specs.Characters.{are_plain, between, is_plain}
use Rattle.exi_names.specs.Lanes.{ArePlain, AreSame, first_set}

-- the mask of a test of two lists is that of a test of their pairs
abbrev pairs : List ℕ → List ℕ → List (ℕ × ℕ)
pairs = zip2 (λ a b. (a, b))

abbrev differ : ℕ × ℕ → Bool
differ p = not (eqb p.0 p.1)

of_pairs : (xs ys : List ℕ) → zip2 (λ a b. not (eqb a b)) xs ys ≡ map differ (pairs xs ys)
of_pairs [] ys = refl
of_pairs (x ∷ xs) [] = refl
of_pairs (x ∷ xs) (y ∷ ys) = ap (λ l. not (eqb x y) ∷ l) (of_pairs xs ys)

take_pairs : (n : ℕ) (xs ys : List ℕ) → take n (pairs xs ys) ≡ pairs (take n xs) (take n ys)
take_pairs zero xs ys = refl
take_pairs (suc n) [] ys = refl
take_pairs (suc n) (x ∷ xs) [] = refl
take_pairs (suc n) (x ∷ xs) (y ∷ ys) = ap (λ l. (x, y) ∷ l) (take_pairs n xs ys)

no_pairs : (xs : List ℕ) → pairs xs [] ≡ []
no_pairs [] = refl
no_pairs (x ∷ xs) = refl

drop_pairs : (n : ℕ) (xs ys : List ℕ) → drop n (pairs xs ys) ≡ pairs (drop n xs) (drop n ys)
drop_pairs zero xs ys = refl
drop_pairs (suc n) [] ys = refl
drop_pairs (suc n) (x ∷ xs) [] = sym (no_pairs (drop n xs))
drop_pairs (suc n) (x ∷ xs) (y ∷ ys) = drop_pairs n xs ys

chunk_pairs : (i n : ℕ) (xs ys : List ℕ) → chunk i n (pairs xs ys) ≡ pairs (chunk i n xs) (chunk i n ys)
chunk_pairs i n xs ys = ap (take n) (drop_pairs i xs ys) ∙ take_pairs n (drop i xs) (drop i ys)

long_pairs : (k : ℕ) (xs ys : List ℕ) → k ≤ length xs → k ≤ length ys → k ≤ length (pairs xs ys)
long_pairs zero xs ys p q = omega arith
long_pairs (suc k) [] ys p q = absurd (omega (arith, p))
long_pairs (suc k) (x ∷ xs) [] p q = absurd (omega (arith, q))
long_pairs (suc k) (x ∷ xs) (y ∷ ys) p q = let more = long_pairs k xs ys (omega (arith, p)) (omega (arith, q)) in omega (arith, more)

pair_at : (k : ℕ) (xs ys : List ℕ) → k < length xs → k < length ys → get_or (pairs xs ys) k (0, 0) ≡ (get_or xs k 0, get_or ys k 0)
pair_at k xs ys p q = get_or-zip2 (λ a b. (a, b)) xs ys k 0 0 (0, 0) p q

pub same_in : (xs ys : List ℕ) (i n r : ℕ) → i + n ≤ length xs → i + n ≤ length ys → n ≤ 64
    → r ≡ first_set (mask_l (map (top 7) (zip2 (λ a b. cond (not (eqb a b)) 255 0) (chunk i n xs) (chunk i n ys))) % 2 ^ 64) n → AreSame xs ys i n r
same_in xs ys i n r long_x long_y few found =
    let cx = chunk i n xs in
    let cy = chunk i n ys in
    let lx = length-chunk i n xs long_x in
    let ly = length-chunk i n ys long_y in
    let lp : length (pairs cx cy) ≡ n = length-zip2 (λ a b. (a, b)) cx cy (lx ∙ sym ly) ∙ lx in
    let room : i + n ≤ length (pairs xs ys) = long_pairs (i + n) xs ys long_x long_y in
    let mask : mask_l (map (top 7) (zip2 (λ a b. cond (not (eqb a b)) 255 0) cx cy)) % 2 ^ 64 ≡ mask_l (map differ (pairs cx cy)) =
    ap (λ l. mask_l l % 2 ^ 64) (tops_compared w8 (λ a b. not (eqb a b)) cx cy ∙ of_pairs cx cy) ∙ mask_l-mod (map differ (pairs cx cy)) 64 (omega (arith, length-map (pairs cx cy) differ, lp)) in
    let counted : r ≡ prefix_len (λ p. not (differ p)) (chunk i n (pairs xs ys)) =
    found ∙ ap (λ m. first_set m n) mask ∙ first_set_mask_l differ (pairs cx cy) n lp few ∙ ap (prefix_len (λ p. not (differ p))) (sym (chunk_pairs i n xs ys)) in
    let within = run_in_chunk_le differ (pairs xs ys) i n r (0, 0) room counted in
    record {
      within = within;
      same = λ k from to.
          let at = pair_at k xs ys (omega (arith, to, within, long_x)) (omega (arith, to, within, long_y)) in
          eqb-true _ _ (not-false _ (sym (ap differ at) ∙ run_in_chunk_fails differ (pairs xs ys) i n r (0, 0) room counted k from to));
      other = λ lt e.
          let at = pair_at (i + r) xs ys (omega (arith, lt, long_x)) (omega (arith, lt, long_y)) in
          let no = not-true _ (sym (ap differ at) ∙ run_in_chunk_stops differ (pairs xs ys) i n r (0, 0) room counted lt) in
          absurd (false≢true (sym no ∙ eq-eqb _ _ e));
    }

-- ---- the front of a room
take_same : (n : ℕ) (xs ys : List ℕ) → n ≤ length xs → n ≤ length ys → ((k : ℕ) → k < n → get_or xs k 0 ≡ get_or ys k 0) → take n xs ≡ take n ys
take_same zero xs ys p q all = refl
take_same (suc n) [] ys p q all = absurd (omega (arith, p))
take_same (suc n) (x ∷ xs) [] p q all = absurd (omega (arith, q))
take_same (suc n) (x ∷ xs) (y ∷ ys) p q all =
    ap₂ (λ (a : ℕ) (l : List ℕ). a ∷ l) (all 0 (omega arith)) (take_same n xs ys (omega (arith, p)) (omega (arith, q)) (λ k lt. all (suc k) (omega (arith, lt))))

same_take : (n : ℕ) (xs ys : List ℕ) (k : ℕ) → take n xs ≡ take n ys → k < n → get_or xs k 0 ≡ get_or ys k 0
same_take n xs ys k e lt = sym (get_or-take n xs k 0 lt) ∙ ap (λ l. get_or l k 0) e ∙ get_or-take n ys k 0 lt

-- by a run in front, behind which a byte differs, unless all that are asked for are before it
pub front_same : (xs ys : List ℕ) (n c r : ℕ) → c ≤ length xs → c ≤ length ys → AreSame xs ys 0 n r → (r < c → r < n) → IsTrue (leb c r) ↔ (take c xs ≡ take c ys)
front_same xs ys n c r p q run early = (
  λ t. take_same c xs ys p q (λ k lt. run.same k (omega arith) (omega (arith, lt, leb-true c r t))),
  λ e. elim (cases_lt r c) [
    | inl lt ↦ absurd (run.other (early lt) (same_take c xs ys (0 + r) e (omega (arith, lt))))
    | inr ge ↦ le-leb c r ge
  ],
)

-- by two runs, of which the first has no end
pub whole_same : (xs ys : List ℕ) (n at c r s : ℕ) → c ≤ length xs → c ≤ length ys → at ≤ n → c ≤ at + n → AreSame xs ys 0 n r → n ≤ r → AreSame xs ys at n s → IsTrue (leb c (at + s)) ↔ (take c xs ≡ take c ys)
whole_same xs ys n at c r s p q le few front all back = (
  λ t. take_same c xs ys p q (λ k lt. elim (cases_lt k n) [
    | inl early ↦ front.same k (omega arith) (omega (arith, early, all))
    | inr late ↦ back.same k (omega (arith, late, le)) (omega (arith, lt, leb-true c (at + s) t))
  ]),
  λ e. elim (cases_lt (at + s) c) [
    | inl lt ↦ absurd (back.other (omega (arith, lt, few)) (same_take c xs ys (at + s) e lt))
    | inr ge ↦ le-leb c (at + s) ge
  ],
)

-- lists of another number of elements are not the same
pub other_front : (xs ys : List ℕ) (n m : ℕ) → n ≤ length xs → m ≤ length ys → n ≢ m → take n xs ≢ take m ys
other_front xs ys n m p q other e = other (sym (length-take-le n xs p) ∙ ap length e ∙ length-take-le m ys q)

pub never_same : (xs ys : List ℕ) (n m : ℕ) → n ≤ length xs → m ≤ length ys → n ≢ m → IsTrue (eqb n m) ↔ (take n xs ≡ take m ys)
never_same xs ys n m p q other = (λ t. absurd (other (eqb-true n m t)), λ e. absurd (other_front xs ys n m p q other e))

-- ---- what is plain
pub itself : (v : List ℕ) → v ≡ map (λ x. x) v
itself [] = refl
itself (x ∷ xs) = ap (λ r. x ∷ r) (itself xs)

pub joined : (h : ℕ → ℕ → ℕ) (f g : ℕ → ℕ) (v : List ℕ) {a b : List ℕ} → a ≡ map f v → b ≡ map g v → zip2 h a b ≡ map (λ x. h (f x) (g x)) v
joined h f g v p q = zip2_of_maps h f g v p q

plain_lane : (stops : ℕ → Bool) (b : ℕ) → agree_below (λ x. stops x || is_plain x) (λ _. true) 256 ≡ true → Fits w8 b → stops b ≡ false → is_plain b ≡ true
plain_lane stops b all fits goes = sym (ap (λ s. s || is_plain b) goes) ∙ agree_below_at (λ x. stops x || is_plain x) (λ _. true) 256 b all fits.fits

pub plain_in : (f : ℕ → ℕ) (xs z : List ℕ) (i n r : ℕ) → i + n ≤ length xs → n ≤ 64 → ((k : ℕ) → Fits w8 (get_or xs k 0))
    → r ≡ first_set (mask_l (map (top 7) z) % 2 ^ 64) n → z ≡ map f (chunk i n xs) → agree_below (λ x. top 7 (f x) || is_plain x) (λ _. true) 256 ≡ true → ArePlain xs i n r
plain_in f xs z i n r room few fits found lanes all =
    let v = chunk i n xs in
    let long = length-chunk i n xs room in
    let stops : ℕ → Bool = λ x. top 7 (f x) in
    let mask : mask_l (map (top 7) z) % 2 ^ 64 ≡ mask_l (map stops v) =
    ap (λ l. mask_l l % 2 ^ 64) (ap (map (top 7)) lanes ∙ map-map (top 7) f v) ∙ mask_l-mod (map stops v) 64 (omega (arith, length-map v stops, long)) in
    let counted : r ≡ prefix_len (λ x. not (stops x)) v = found ∙ ap (λ m. first_set m n) mask ∙ first_set_mask_l stops v n long few in
    record {
      within = run_in_chunk_le stops xs i n r 0 room counted;
      plain = λ k from to. plain_lane stops (get_or xs k 0) all (fits k) (run_in_chunk_fails stops xs i n r 0 room counted k from to);
    }

-- the bytes in front of which all are plain
pub front_plain : (c : ℕ) (xs : List ℕ) → ((k : ℕ) → k < c → is_plain (get_or xs k 0) ≡ true) → are_plain (take c xs) ≡ true
front_plain zero xs all = refl
front_plain (suc c) [] all = refl
front_plain (suc c) (x ∷ xs) all = and_from _ _ (all 0 (omega arith)) (front_plain c xs (λ k lt. all (suc k) (omega (arith, lt))))

pub whole_plain : (xs : List ℕ) (n at c r s : ℕ) → at ≤ n → ArePlain xs 0 n r → n ≤ r → ArePlain xs at n s → c ≤ at + s → (k : ℕ) → k < c → is_plain (get_or xs k 0) ≡ true
whole_plain xs n at c r s le front all back t k lt = elim (cases_lt k n) [
  | inl early ↦ front.plain k (omega arith) (omega (arith, early, all))
  | inr late ↦ back.plain k (omega (arith, late, le)) (omega (arith, lt, t))
]

pub and_l : (x y : Bool) → (x && y) ≡ true → x ≡ true
and_l true y e = refl
and_l false y e = e

pub and_r : (x y : Bool) → (x && y) ≡ true → y ≡ true
and_r true y e = e
and_r false y e = absurd (false≢true e)

-- what is plain is from 20 to 7E, and so from 20 to 7F, and ASCII
plain_range : (b : ℕ) → is_plain b ≡ true → between 0x20 0x7E b ≡ true
plain_range b p = and_l (between 0x20 0x7E b) (not (eqb b 0x22)) (and_l (between 0x20 0x7E b && not (eqb b 0x22)) (not (eqb b 0x5C)) p)

plain_least : (b : ℕ) → is_plain b ≡ true → leb 0x20 b ≡ true
plain_least b p = and_l (leb 0x20 b) (leb b 0x7E) (plain_range b p)

plain_most : (b : ℕ) → is_plain b ≡ true → b ≤ 0x7E
plain_most b p = leb-true b 0x7E (and_r (leb 0x20 b) (leb b 0x7E) (plain_range b p))

under_128 : (b : ℕ) → is_plain b ≡ true → b < 128
under_128 b p = let most = plain_most b p in omega (arith, most)

plain_low : (b : ℕ) → is_plain b ≡ true → between 0x20 0x7F b ≡ true
plain_low b p = let most = plain_most b p in and_from (leb 0x20 b) (leb b 0x7F) (plain_least b p) (le-leb b 0x7F (omega (arith, most)))

pub plain_ascii : (bs : List ℕ) → are_plain bs ≡ true → IsAscii bs
plain_ascii [] p i = omega arith
plain_ascii (b ∷ bs) p zero = under_128 b (and_l (is_plain b) (are_plain bs) p)
plain_ascii (b ∷ bs) p (suc i) = plain_ascii bs (and_r (is_plain b) (are_plain bs) p) i

pub plain_each : (bs : List ℕ) → are_plain bs ≡ true → (i : ℕ) → i < length bs → between 0x20 0x7F (get_or bs i 0) ≡ true
plain_each [] p i lt = absurd (omega (arith, lt))
plain_each (b ∷ bs) p zero lt = plain_low b (and_l (is_plain b) (are_plain bs) p)
plain_each (b ∷ bs) p (suc i) lt = plain_each bs (and_r (is_plain b) (are_plain bs) p) i (omega (arith, lt))
