-- Characters laid into a room as UTF-8 before they are added to a text.
use Rattle.std.proofs.Common.{◌≡◌, ℕ, ◌+◌, ◌/◌, ◌%◌, ◌-◌, ◌<◌, ◌≤◌, List, [], ◌∷◌, ◌++◌, length, take, Result, Ok, refl, sym, ap, ◌∙◌, subst, add-zero, length-take-le, arith}
use Rattle.std.specs.Char.{IsScalar, encode_utf8}
use Rattle.std.specs.Str.{IsAscii, IsUtf8, chars}
use Rattle.std.proofs.lemmas.Bool.{le-ltb, lt-ltb}
use Rattle.std.proofs.lemmas.List.{take-take}
use Rattle.std.proofs.Math.Seq.{take-append-add}
use Rattle.std.proofs.lemmas.Str.{IsAscii-append, IsUtf8-append, IsUtf8-from_ascii, chars-IsAscii, chars-append}
use Rattle.exi_bits.specs.declared.fault.Fault.{Fault}
use Rattle.exi_bits.specs.Bits.{Spot, octets_of, rest}
use Rattle.exi_bits.specs.Repeat.{times, with_front}
use Rattle.exi_names.proofs.Texts.{chars-push, chars_of_empty}
use Rattle.exi_text.specs.Literals.{code_at}
use Rattle.exi_text.proofs.Runs.{none_added, nothing_before, one_moves, run_moves, two_fronts}

-- ---- the UTF-8 of a character
pub one_octet : (c : ℕ) → c < 128 → encode_utf8 c ≡ c ∷ []
unfolding encode_utf8
one_octet c lt = rw (lt-ltb c 128 lt) refl

pub two_octets : (c : ℕ) → 128 ≤ c → c < 2048 → encode_utf8 c ≡ (192 + c / 64) ∷ (128 + c % 64) ∷ []
unfolding encode_utf8
two_octets c le lt = rw (le-ltb c 128 le, lt-ltb c 2048 lt) refl

pub three_octets : (c : ℕ) → 2048 ≤ c → c < 65536 → encode_utf8 c ≡ (224 + c / 4096) ∷ (128 + c / 64 % 64) ∷ (128 + c % 64) ∷ []
unfolding encode_utf8
three_octets c le lt = rw (le-ltb c 128 (omega (arith, le)), le-ltb c 2048 le, lt-ltb c 65536 lt) refl

pub four_octets : (c : ℕ) → 65536 ≤ c → encode_utf8 c ≡ (240 + c / 262144) ∷ (128 + c / 4096 % 64) ∷ (128 + c / 64 % 64) ∷ (128 + c % 64) ∷ []
unfolding encode_utf8
four_octets c le = rw (le-ltb c 128 (omega (arith, le)), le-ltb c 2048 (omega (arith, le)), le-ltb c 65536 le) refl

-- ---- what stands in front in a room
-- the first of the octets that were laid
pub laid_front : (at n end : ℕ) (old new os xs : List ℕ) → end ≡ at + length os → take end new ≡ take at old ++ os → at ≤ length old → n ≤ length os → take n os ≡ xs → take (at + n) new ≡ take at old ++ xs
laid_front at n end old new os xs behind laid le few e =
    let k : length (take at old) ≡ at = length-take-le at old le in
    sym (take-take (at + n) end new (omega (arith, behind, few))) ∙ ap (λ (l : List ℕ). take (at + n) l) laid ∙ ap (λ (m : ℕ). take (m + n) (take at old ++ os)) (sym k) ∙ take-append-add (take at old) os n ∙ ap (λ (l : List ℕ). take at old ++ l) e

-- none of them
pub none_more : (at : ℕ) (room : List ℕ) (s : Spot) → take (at + 0) room ≡ take at room ++ octets_of 0 (rest s)
none_more at room s = ap (λ (n : ℕ). take n room) (add-zero at) ∙ none_added (take at room) s

pub none_ascii : (s : Spot) → IsAscii (octets_of 0 (rest s))
unfolding octets_of
none_ascii s = λ i. omega arith

pub laid_utf8 : (front xs new : List ℕ) → IsUtf8 front → IsUtf8 xs → new ≡ front ++ xs → IsUtf8 new
laid_utf8 front xs new u v e = subst (λ (l : List ℕ). IsUtf8 l) (sym e) (IsUtf8-append front xs u v)

pub laid_chars : (front xs new : List ℕ) → IsUtf8 front → IsAscii xs → new ≡ front ++ xs → chars new ≡ chars front ++ xs
laid_chars front xs new u ascii e = ap chars e ∙ chars-append front xs u ∙ ap (λ (l : List ℕ). chars front ++ l) (chars-IsAscii xs ascii)

pub laid_ascii : (front xs new : List ℕ) → IsAscii front → IsAscii xs → new ≡ front ++ xs → IsAscii new
laid_ascii front xs new a b e = subst (λ (l : List ℕ). IsAscii l) (sym e) (IsAscii-append front xs a b)

pub no_ascii : (room : List ℕ) → IsAscii (take 0 room)
no_ascii room = λ i. omega arith

-- a run laid
run_laid : (front xs mid : List ℕ) (most n : ℕ) (s t : Spot) → IsUtf8 front → IsAscii xs → mid ≡ front ++ xs → n ≤ most → times code_at n s ≡ Ok (xs, t) → with_front (chars mid) (times code_at (most - n) t) ≡ with_front (chars front) (times code_at most s)
run_laid front xs mid most n s t u ascii e le h = run_moves code_at (chars front) (chars mid) xs most n n s t (with_front (chars front) (times code_at most s)) (laid_chars front xs mid u ascii e) refl le h refl

-- further ones laid behind others
module _ (at count n : ℕ) where
  abbrev Further : List ℕ → List ℕ → Spot → Type 0
  Further old new s = take (at + count + n) new ≡ take (at + count) old ++ octets_of n (rest s)

  behind_both : (new : List ℕ) → take (at + (count + n)) new ≡ take (at + count + n) new
  behind_both new = let e : at + (count + n) ≡ at + count + n = omega arith in ap (λ (k : ℕ). take k new) e

  pub further_utf8 : (old new : List ℕ) (s : Spot) → IsUtf8 (take (at + count) old) → IsAscii (octets_of n (rest s)) → Further old new s → IsUtf8 (take (at + (count + n)) new)
  further_utf8 old new s u ascii e = laid_utf8 (take (at + count) old) (octets_of n (rest s)) (take (at + (count + n)) new) u (IsUtf8-from_ascii (octets_of n (rest s)) ascii) (behind_both new ∙ e)

  pub further_ascii : (old new : List ℕ) (s : Spot) → IsAscii (take (at + count) old) → IsAscii (octets_of n (rest s)) → Further old new s → IsAscii (take (at + (count + n)) new)
  further_ascii old new s a ascii e = laid_ascii (take (at + count) old) (octets_of n (rest s)) (take (at + (count + n)) new) a ascii (behind_both new ∙ e)

  pub further_laid : (most : ℕ) (old new : List ℕ) (s t : Spot) → IsUtf8 (take (at + count) old) → IsAscii (octets_of n (rest s)) → Further old new s → n ≤ most - count → times code_at n s ≡ Ok (octets_of n (rest s), t)
      → with_front (chars (take (at + (count + n)) new)) (times code_at (most - (count + n)) t) ≡ with_front (chars (take (at + count) old)) (times code_at (most - count) s)
  further_laid most old new s t u ascii e le h =
      let k : most - (count + n) ≡ most - count - n = omega arith in
      ap (λ (m : ℕ). with_front (chars (take (at + (count + n)) new)) (times code_at m t)) k ∙ run_laid (take (at + count) old) (octets_of n (rest s)) (take (at + (count + n)) new) (most - count) n s t u ascii (behind_both new ∙ e) le h

pub laid_none : (at most : ℕ) (room : List ℕ) (s : Spot) → with_front (chars (take (at + 0) room)) (times code_at (most - 0) s) ≡ with_front (chars (take at room)) (times code_at most s)
laid_none at most room s =
    let k : most - 0 ≡ most = omega arith in
    ap (λ (n : ℕ). with_front (chars (take n room)) (times code_at (most - 0) s)) (add-zero at) ∙ ap (λ (m : ℕ). with_front (chars (take at room)) (times code_at m s)) k

-- a character laid behind a run
pub char_laid : (front mid : List ℕ) (most n : ℕ) (s t : Spot) (new : List ℕ) (c : ℕ) (v : Spot) → IsUtf8 mid → IsScalar c → new ≡ mid ++ encode_utf8 c → n < most → code_at t ≡ Ok (c, v)
    → with_front (chars mid) (times code_at (most - n) t) ≡ with_front (chars front) (times code_at most s) → with_front (chars new) (times code_at (most - (n + 1)) v) ≡ with_front (chars front) (times code_at most s)
char_laid front mid most n s t new c v u w e lt h so_far =
    let k : most - (n + 1) ≡ most - n - 1 = omega arith in
    ap (λ (m : ℕ). with_front (chars new) (times code_at m v)) k ∙ ap (λ (l : List ℕ). with_front l (times code_at (most - n - 1) v)) (ap chars e ∙ chars-push mid c u w) ∙ one_moves code_at (chars mid) most n t v c (with_front (chars front) (times code_at most s)) lt h so_far

-- ---- a room added to a text
pub room_added : {X : Type 0} (text front new : List X) (r total : Result (List X × Spot) Fault) → new ≡ text ++ front → with_front text (with_front front r) ≡ total → with_front new r ≡ total
room_added {X} text front new r total e so_far = ap (λ (l : List X). with_front l r) e ∙ sym (two_fronts text front r) ∙ so_far

pub room_empty : (text room : List ℕ) (r total : Result (List ℕ × Spot) Fault) → with_front text r ≡ total → with_front text (with_front (chars (take 0 room)) r) ≡ total
room_empty text room r total so_far = ap (λ (l : List ℕ). with_front text (with_front l r)) (chars_of_empty (take 0 room) refl) ∙ ap (λ x. with_front text x) (nothing_before r) ∙ so_far

pub room_begins : (room : List ℕ) (r : Result (List ℕ × Spot) Fault) → with_front (chars (take 0 room)) r ≡ r
room_begins room r = ap (λ (l : List ℕ). with_front l r) (chars_of_empty (take 0 room) refl) ∙ nothing_before r

-- a room of plain characters added to a text
pub run_added : (text new old room : List ℕ) (left n : ℕ) (s t : Spot) (total : Result (List ℕ × Spot) Fault) → IsAscii (take (0 + n) room) → new ≡ text ++ take n room
    → with_front (chars (take (0 + n) room)) (times code_at (left - n) t) ≡ with_front (chars (take 0 old)) (times code_at left s) → with_front text (times code_at left s) ≡ total → with_front new (times code_at (left - n) t) ≡ total
run_added text new old room left n s t total ascii e h so_far =
    let k : n ≡ 0 + n = omega arith in
    let whole : take n room ≡ chars (take (0 + n) room) = ap (λ (m : ℕ). take m room) k ∙ sym (chars-IsAscii (take (0 + n) room) ascii) in
    room_added text (chars (take (0 + n) room)) new (times code_at (left - n) t) total (e ∙ ap (λ (l : List ℕ). text ++ l) whole) (ap (λ x. with_front text x) h ∙ room_empty text old (times code_at left s) total so_far)

-- so many are left
pub so_many : (front : List ℕ) (most left : ℕ) (s : Spot) (total : Result (List ℕ × Spot) Fault) → left ≤ most → with_front front (times code_at left s) ≡ total → with_front front (times code_at (most - (most - left)) s) ≡ total
so_many front most left s total le so_far = let e : most - (most - left) ≡ left = omega arith in ap (λ (k : ℕ). with_front front (times code_at k s)) e ∙ so_far
