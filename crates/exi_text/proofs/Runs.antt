-- Characters that are one octet each: read one by one, and a word at a time.
use Rattle.std.proofs.Common.{◌≡◌, ℕ, zero, suc, ◌+◌, ◌*◌, ◌-◌, ◌^◌, ◌<◌, ◌≤◌, inl, inr, Bool, true, false, not, cond, ltb, ◌||◌, List, [], ◌∷◌, ◌++◌, length, get_or, take, drop, Option, Some, None, Result, Ok, Err, add-zero, refl, sym, ap, ◌∙◌, append_assoc, subst, arith}
use Rattle.std.specs.Bool.{OnTrue}
use Rattle.std.specs.Int.{w64, to_be_bytes}
use Rattle.std.specs.List.{position, position_or_len}
use Rattle.std.specs.Str.{IsAscii, chars}
use Rattle.std.proofs.lemmas.Str.{chars-IsAscii}
use Rattle.std.proofs.Math.Bool.{or-true}
use Rattle.std.proofs.lemmas.Bool.{and_parts, cases_lt, leb-true, le-leb, le-ltb, lt-ltb, ltb-false}
use Rattle.std.proofs.lemmas.List.{append-nil, drop-drop, get_or-take, get_or_past, take_at}
use Rattle.std.proofs.lemmas.List.Sums.{fails_before_first, prefix_len-le-length}
use Rattle.exi_bits.specs.declared.align.Align.{Align}
use Rattle.exi_bits.specs.declared.align.Align.TheVariants as align
use Rattle.exi_bits.specs.declared.fault.Fault.{Fault}
use Rattle.exi_bits.specs.Bits.{Spot, at_bit, bits, left, moved, number_at, octets_of, rest, value_of}
use Rattle.exi_bits.specs.Repeat.{Reader, times, with_front}
use Rattle.exi_bits.specs.Unsigned.{◌>>=◌, groups, groups_at, shortest, narrow_groups_at, unsigned_at}
use Rattle.exi_bits.proofs.BitLaws.{one_byte}
use Rattle.exi_bits.proofs.OctetLaws.{octets_add, word_octets}
use Rattle.exi_bits.proofs.Repeats.{times_done, times_goes_on}
use Rattle.exi_bits.proofs.Spelled.{guard_some, length-rest}
use Rattle.exi_items.proofs.Items.{bind_ok, given, ok_is}
use Rattle.exi_names.specs.Characters.{between, is_xml_char}
use Rattle.exi_text.specs.Literals.{all_xml, chars_bits, code_at, is_plain}
use Rattle.exi_text.proofs.Sets.{at_most, either}

-- ---- what is plain
plain_last : (c : ℕ) → is_plain c ≡ true → c < 128
plain_last c h = either _ _ (c < 128) (either _ _ (c < 128)
    (λ e. let k = at_most 0x9 0xA c e in omega arith)
    (λ e. let k = at_most 0xD 0xD c e in omega arith))
    (λ e. let k = at_most 0x20 0x7F c e in omega arith) h

at_least : (least most c : ℕ) → between least most c ≡ true → least ≤ c
at_least least most c h = leb-true least c (and_parts _ _ h).0

or_right : (x : Bool) → (x || true) ≡ true
or_right true = refl
or_right false = refl

plain_xml : (c : ℕ) → is_plain c ≡ true → is_xml_char c ≡ true
unfolding is_xml_char
plain_xml c h = either (between 0x9 0xA c || between 0xD 0xD c) (between 0x20 0x7F c) (is_xml_char c ≡ true)
    (λ e. rw e refl)
    (λ e. let low = at_least 0x20 0x7F c e in let high = at_most 0x20 0x7F c e in
    rw (le-leb 0x20 c low, le-leb c 0xD7FF (omega (arith, high)), or_right (between 0x9 0xA c || between 0xD 0xD c)) refl) h

-- ---- one of them is read
plain_at : (s : Spot) → 8 ≤ left s → is_plain (value_of (take 8 (rest s))) ≡ true → code_at s ≡ Ok (value_of (take 8 (rest s)), moved s 8)
unfolding code_at unsigned_at narrow_groups_at groups_at number_at
plain_at s long plain =
    let v : ℕ = value_of (take 8 (rest s)) in
    let small : v < 128 = plain_last v plain in
    rw (le-ltb (left s) 8 long, lt-ltb (value_of (take 8 (rest s))) 128 small, lt-ltb (value_of (take 8 (rest s))) (2 ^ 128) (omega (arith, small)), plain_xml v plain) refl

-- each of the octets is plain
AllPlain : List ℕ → Type 0
AllPlain os = (i : ℕ) → i < length os → is_plain (get_or os i 0) ≡ true

pub length-octets_of : (n : ℕ) (text : List Bool) → length (octets_of n text) ≡ n
unfolding octets_of
length-octets_of zero text = refl
length-octets_of (suc n) text = ap suc (length-octets_of n (drop 8 text))

pub plain_read : (n : ℕ) (s : Spot) → 8 * n ≤ left s → ((i : ℕ) → i < n → is_plain (get_or (octets_of n (rest s)) i 0) ≡ true) → times code_at n s ≡ Ok (octets_of n (rest s), moved s (8 * n))
unfolding times octets_of
plain_read zero s long plain = ap (λ (p : ℕ). Ok ([], at_bit s p)) (sym (add-zero s.place))
plain_read (suc n) s long plain =
    let behind : rest (moved s 8) ≡ drop 8 (rest s) = sym (drop-drop 8 s.place (bits s.bytes)) in
    let again : times code_at n (moved s 8) ≡ Ok (octets_of n (rest (moved s 8)), moved (moved s 8) (8 * n)) = plain_read n (moved s 8) (omega arith) (λ i lt. rw behind (plain (suc i) (omega arith))) in
    let e : s.place + 8 + 8 * n ≡ s.place + 8 * suc n = omega arith in
    rw (plain_at s (omega arith) (plain 0 (omega arith)), again, behind) (ap (λ (p : ℕ). Ok (value_of (take 8 (rest s)) ∷ octets_of n (drop 8 (rest s)), at_bit s p)) e)

-- the first octets of a word
pub first_octets : (n : ℕ) (text : List Bool) → n ≤ 8 → take n (octets_of 8 text) ≡ octets_of n text
first_octets n text le =
    let e : n + (8 - n) ≡ 8 = omega arith in
    ap (λ (k : ℕ). take n (octets_of k text)) (sym e) ∙ ap (λ (t : List ℕ). take n t) (octets_add n (8 - n) text) ∙ take_at (octets_of n text) (octets_of (8 - n) (drop (8 * n) text)) n (length-octets_of n text)

-- ---- a word
pub word_taken : (s : Spot) (v : ℕ) (t : Spot) → number_at 64 align.Bits s ≡ Some (v, t) → (64 ≤ left s) × (v ≡ value_of (take 64 (rest s)))
unfolding number_at
word_taken s v t e =
    let p = guard_some (ltb (left s) 64) (value_of (take 64 (rest s)), moved s 64) (v, t) e in
    (ltb-false (left s) 64 p.0, sym (ap (λ (w : ℕ × Spot). w.0) p.1))

-- the first octets of a word, where each is plain, are as many characters
pub record Begins (n : ℕ) (os : List ℕ) (s : Spot) : Type 0 where
  pub text : take n os ≡ octets_of n (rest s)
  pub ascii : IsAscii (take n os)
  pub read : times code_at n s ≡ Ok (octets_of n (rest s), moved s (8 * n))
  pub within : s.place + 8 * n ≤ 8 * length s.bytes
  pub long : n ≤ length os

all_ascii : (n : ℕ) (os : List ℕ) → length os ≡ n → ((i : ℕ) → i < n → is_plain (get_or os i 0) ≡ true) → IsAscii os
all_ascii n os len plain i = elim (cases_lt i n) [
  | inl lt ↦ plain_last (get_or os i 0) (plain i lt)
  | inr ge ↦ let e : get_or os i 0 ≡ 0 = get_or_past os i 0 (omega arith) in rw e (omega arith)
]

-- they are XML characters, each by itself
each_xml : (os : List ℕ) → AllPlain os → all_xml os ≡ true
unfolding AllPlain
each_xml [] plain = refl
each_xml (c ∷ cs) plain = rw (plain_xml c (plain 0 (omega arith)), each_xml cs (λ i lt. plain (suc i) (omega (arith, lt)))) refl

pub plain_text : (os : List ℕ) → ((i : ℕ) → i < length os → is_plain (get_or os i 0) ≡ true) → all_xml (chars os) ≡ true
unfolding AllPlain
plain_text os plain = ap all_xml (chars-IsAscii os (all_ascii (length os) os refl plain)) ∙ each_xml os plain

pub plain_from : (c : ℕ) → between 0x20 0x7F c ≡ true → is_plain c ≡ true
plain_from c h = rw h (or-true (between 0x9 0xA c || between 0xD 0xD c))

pub word_begins : (n v : ℕ) (os : List ℕ) (s t : Spot) → n ≤ 8 → number_at 64 align.Bits s ≡ Some (v, t) → os ≡ to_be_bytes w64 v → ((i : ℕ) → i < n → is_plain (get_or os i 0) ≡ true) → Begins n os s
word_begins n v os s t le e spelled plain =
    let w = word_taken s v t e in
    let all : os ≡ octets_of 8 (rest s) = spelled ∙ ap (λ (k : ℕ). to_be_bytes w64 k) w.1 ∙ word_octets (rest s) (omega (arith, w.0, length-rest s)) in
    let first : take n os ≡ octets_of n (rest s) = ap (λ (os : List ℕ). take n os) all ∙ first_octets n (rest s) le in
    let each : (i : ℕ) → i < n → is_plain (get_or (octets_of n (rest s)) i 0) ≡ true = λ i lt. ap (λ (os : List ℕ). is_plain (get_or os i 0)) (sym first) ∙ ap is_plain (get_or-take n os i 0 lt) ∙ plain i lt in
    let fits : 8 * n ≤ left s = omega (arith, w.0) in
    record {
      text = first;
      ascii = subst (λ (os : List ℕ). IsAscii os) (sym first) (all_ascii n (octets_of n (rest s)) (length-octets_of n (rest s)) each);
      read = plain_read n s fits each;
      within = omega (arith, w.0);
      long = let l : length os ≡ 8 = ap length all ∙ length-octets_of 8 (rest s) in omega (arith, l);
    }

-- the octets before the first that is not plain
not_false : (b : Bool) → not b ≡ false → b ≡ true
not_false true e = refl
not_false false e = absurd cc

some_place : ℕ → Option ℕ
some_place i = Some i

found_is : (b : Bool) (n i : ℕ) → some_place i ≡ cond b (some_place n) None → i ≡ n
unfolding some_place
found_is true n i e = cc
found_is false n i e = absurd cc

none_is : (b : Bool) (n : ℕ) → None ≡ cond b (some_place n) None → b ≡ false
unfolding some_place
none_is true n e = absurd cc
none_is false n e = refl

-- an octet from 20 to 7F is plain
abbrev sure : ℕ → Bool
sure c = between 0x20 0x7F c

sure_plain : (c : ℕ) → sure c ≡ true → is_plain c ≡ true
sure_plain c h = rw h (or_right (between 0x9 0xA c || between 0xD 0xD c))

plain_before : (os : List ℕ) (i : ℕ) → i < position_or_len (λ octet. not (sure octet)) os → is_plain (get_or os i 0) ≡ true
plain_before os i lt = sure_plain (get_or os i 0) (not_false (sure (get_or os i 0)) (fails_before_first (λ octet. not (sure octet)) os i 0 lt))

pub found_plain : (os : List ℕ) (n : ℕ) → Some n ≡ position (λ octet. not (between 0x20 0x7F octet)) os → (n ≤ length os) × ((i : ℕ) → i < n → is_plain (get_or os i 0) ≡ true)
unfolding some_place
found_plain os n e =
    let k : n ≡ position_or_len (λ octet. not (sure octet)) os = found_is _ _ n e in
    (omega (arith, k, prefix_len-le-length (λ x. not (not (sure x))) os), λ i lt. plain_before os i (omega (arith, k, lt)))

pub none_plain : (os : List ℕ) → None ≡ position (λ octet. not (between 0x20 0x7F octet)) os → (i : ℕ) → i < length os → is_plain (get_or os i 0) ≡ true
unfolding some_place
none_plain os e i lt =
    let k = ltb-false (position_or_len (λ octet. not (sure octet)) os) (length os) (none_is (ltb (position_or_len (λ octet. not (sure octet)) os) (length os)) (position_or_len (λ octet. not (sure octet)) os) e) in
    plain_before os i (omega (arith, k, lt))

pub none_added : (os : List ℕ) (s : Spot) → os ≡ os ++ octets_of 0 (rest s)
unfolding octets_of
none_added os s = sym (append-nil os)

-- what was read, and the place behind it
pub at_run : (n : ℕ) (s t : Spot) (behind : ℕ) → times code_at n s ≡ Ok (octets_of n (rest s), moved s (8 * n)) → n ≤ 8 → behind ≡ s.place + 64 → t ≡ at_bit s (behind - (8 - n) * 8) → times code_at n s ≡ Ok (octets_of n (rest s), t)
at_run n s t behind read le p e =
    let q : s.place + 8 * n ≡ behind - (8 - n) * 8 = omega arith in
    read ∙ ap (λ (k : ℕ). Ok (octets_of n (rest s), at_bit s k)) q ∙ ap (λ (w : Spot). Ok (octets_of n (rest s), w)) (sym e)

pub none_read : (s : Spot) → times code_at 0 s ≡ Ok (octets_of 0 (rest s), s)
unfolding octets_of times
none_read s = refl

-- a whole word was read
pub whole_read : (s t : Spot) → times code_at 8 s ≡ Ok (octets_of 8 (rest s), moved s (8 * 8)) → t ≡ moved s 64 → times code_at 8 s ≡ Ok (octets_of 8 (rest s), t)
whole_read s t read e = read ∙ ap (λ (w : Spot). Ok (octets_of 8 (rest s), w)) (sym e)

-- ---- runs of characters
cons_front : {X : Type 0} (x : X) (xs : List X) (r : Result (List X × Spot) Fault) → (with_front xs r >>= λ others. Ok (x ∷ others.0, others.1)) ≡ with_front (x ∷ xs) r
cons_front x xs (Ok more) = refl
cons_front x xs (Err f) = refl

run_on : {X : Type 0} (read : Reader X) (n m : ℕ) (s t : Spot) (xs : List X) → times read n s ≡ given (xs, t) → times read (n + m) s ≡ with_front xs (times read m t)
unfolding times
run_on {X} read zero m s t xs h =
    let e = ok_is {X = List X} ([], s) (xs, t) h in
    let z : 0 + m ≡ m = omega arith in
    rw z (subst (λ (p : List X × Spot). times read m s ≡ with_front p.0 (times read m p.1)) e (nothing_before (times read m s)))
  where
    nothing_before : {X : Type 0} (r : Result (List X × Spot) Fault) → r ≡ with_front [] r
    nothing_before (Ok more) = refl
    nothing_before (Err f) = refl
run_on {X} read (suc n) m s t xs h =
    let p = bind_ok (read s) (λ (first : X × Spot). times read n first.1 >>= λ others. given {X = List X} (first.0 ∷ others.0, others.1)) (xs, t) h in
    let q = bind_ok (times read n p.0.1) (λ (others : List X × Spot). given {X = List X} (p.0.0 ∷ others.0, others.1)) (xs, t) p.2 in
    let e = ok_is {X = List X} (p.0.0 ∷ q.0.0, q.0.1) (xs, t) q.2 in
    let k : suc n + m ≡ suc (n + m) = omega arith in
    subst (λ (w : List X × Spot). times read (suc n + m) s ≡ with_front w.0 (times read m w.1)) e (one_more p.0 q.0 k p.1 (run_on read n m p.0.1 q.0.1 q.0.0 q.1))
  where
    one_more : (p : X × Spot) (q : List X × Spot) → suc n + m ≡ suc (n + m) → read s ≡ given p → times read (n + m) p.1 ≡ with_front q.0 (times read m q.1) → times read (suc n + m) s ≡ with_front (p.0 ∷ q.0) (times read m q.1)
    one_more p q k one again = rw (k, one, again) (cons_front p.0 q.0 (times read m q.1))

pub two_fronts : {X : Type 0} (front xs : List X) (r : Result (List X × Spot) Fault) → with_front front (with_front xs r) ≡ with_front (front ++ xs) r
two_fronts {X} front xs (Ok more) = ap (λ (ys : List X). Ok (ys, more.1)) (simp append_assoc)
two_fronts front xs (Err f) = refl

pub run_goes_on : {X : Type 0} (read : Reader X) (front xs : List X) (left n : ℕ) (s t : Spot) (total : Result (List X × Spot) Fault) → n ≤ left → times read n s ≡ given (xs, t)
    → with_front front (times read left s) ≡ total → with_front (front ++ xs) (times read (left - n) t) ≡ total
run_goes_on read front xs left n s t total le h so_far =
    let k : n + (left - n) ≡ left = omega arith in
    sym (two_fronts front xs (times read (left - n) t)) ∙ ap (λ r. with_front front r) (sym (run_on read n (left - n) s t xs h) ∙ ap (λ (m : ℕ). times read m s) k) ∙ so_far

-- the end
same_left : {X : Type 0} (read : Reader X) (front : List X) (left : ℕ) (s : Spot) (total : Result (List X × Spot) Fault) → with_front front (times read left s) ≡ total → with_front front (times read (left - 0) s) ≡ total
same_left read front left s total so_far = let e : left - 0 ≡ left = omega arith in ap (λ (n : ℕ). with_front front (times read n s)) e ∙ so_far

pub run_ends : {X : Type 0} (read : Reader X) (front : List X) (left : ℕ) (s : Spot) (total : Result (List X × Spot) Fault) → left ≤ 0 → with_front front (times read left s) ≡ total → total ≡ Ok (front, s)
run_ends read front left s total le so_far = times_done read front left 0 s total le (same_left read front left s total so_far)

-- behind a run
pub run_moves : {X : Type 0} (read : Reader X) (front text xs : List X) (left n m : ℕ) (s t : Spot) (total : Result (List X × Spot) Fault) → text ≡ front ++ xs → m ≡ n → n ≤ left → times read n s ≡ Ok (xs, t)
    → with_front front (times read left s) ≡ total → with_front text (times read (left - m) t) ≡ total
run_moves read front text xs left n m s t total e same le h so_far =
    ap (λ (k : ℕ). with_front text (times read (left - k) t)) same ∙ ap (λ f. with_front f (times read (left - n) t)) e ∙ run_goes_on read front xs left n s t total le h so_far

-- so many as are left
module _ {X : Type 0} (read : Reader X) (front : List X) (most left : ℕ) where
  pub left_moved : (n : ℕ) (s : Spot) (total : Result (List X × Spot) Fault) → left ≤ most → with_front front (times read (left - n) s) ≡ total → with_front front (times read (most - (most - (left - n))) s) ≡ total
  left_moved n s total le so_far = let e : most - (most - (left - n)) ≡ left - n = omega arith in ap (λ (k : ℕ). with_front front (times read k s)) e ∙ so_far

  pub left_same : (s : Spot) (total : Result (List X × Spot) Fault) → left ≤ most → with_front front (times read left s) ≡ total → with_front front (times read (most - (most - left)) s) ≡ total
  left_same s total le so_far = let e : most - (most - left) ≡ left = omega arith in ap (λ (k : ℕ). with_front front (times read k s)) e ∙ so_far

  pub left_again : (n : ℕ) (s : Spot) (total : Result (List X × Spot) Fault) → left ≤ most → n ≡ 0 → with_front front (times read (left - n) s) ≡ total → with_front front (times read (most - (most - left)) s) ≡ total
  left_again n s total le none so_far = let e : most - (most - left) ≡ left - n = omega arith in ap (λ (k : ℕ). with_front front (times read k s)) e ∙ so_far

-- behind so many, whose number was widened
pub widened_moves : {X : Type 0} (read : Reader X) (text : List X) (left n m : ℕ) (t : Spot) (before total : Result (List X × Spot) Fault) → m ≡ n
    → with_front text (times read (left - n) t) ≡ before → before ≡ total → with_front text (times read (left - m) t) ≡ total
widened_moves read text left n m t before total same moved so_far = ap (λ (k : ℕ). with_front text (times read (left - k) t)) same ∙ moved ∙ so_far

-- one more character
pub one_moves : {X : Type 0} (read : Reader X) (front : List X) (left n : ℕ) (s t : Spot) (x : X) (total : Result (List X × Spot) Fault) → n < left → read s ≡ Ok (x, t)
    → with_front front (times read (left - n) s) ≡ total → with_front (front ++ x ∷ []) (times read (left - n - 1) t) ≡ total
one_moves read front left n s t x total lt h so_far =
    let e : left - (n + 1) ≡ left - n - 1 = omega arith in
    ap (λ (k : ℕ). with_front (front ++ x ∷ []) (times read k t)) (sym e) ∙ times_goes_on read front left n s t x total lt h so_far

-- before the first
pub nothing_before : {X : Type 0} (r : Result (List X × Spot) Fault) → with_front [] r ≡ r
nothing_before (Ok more) = refl
nothing_before (Err f) = refl

pub no_run : (old : List ℕ) (count : ℕ) (s : Spot) → old ≡ [] → with_front old (times code_at count s) ≡ times code_at count s
no_run old count s none = ap (λ (o : List ℕ). with_front o (times code_at count s)) none ∙ nothing_before (times code_at count s)

-- all of them, by a run alone and with others behind it
pub all_run : (text old : List ℕ) (count n : ℕ) (s t : Spot) → n ≡ count → old ≡ [] → with_front text (times code_at (count - n) t) ≡ with_front old (times code_at count s) → times code_at count s ≡ Ok (text, t)
all_run text old count n s t all none run = run_ends code_at text (count - n) t (times code_at count s) (omega (arith, all)) (run ∙ no_run old count s none)

pub run_others : (text mid old : List ℕ) (count n : ℕ) (s t u : Spot) → old ≡ [] → with_front mid (times code_at (count - n) t) ≡ with_front old (times code_at count s) → with_front mid (times code_at (count - n) t) ≡ Ok (text, u) → times code_at count s ≡ Ok (text, u)
run_others text mid old count n s t u none run others = sym (no_run old count s none) ∙ sym run ∙ others

pub on_true : (b : Bool) (P Q : Type 0) → (P → Q) → OnTrue b P → OnTrue b Q
on_true true P Q f p = f p
on_true false P Q f p = p

-- ---- what is written
pub ascii_octet : (c : ℕ) → c < 128 → shortest c ≡ c ∷ []
unfolding groups
ascii_octet c small = rw (lt-ltb c 128 small) refl

-- characters of ASCII are written as their octets
pub ascii_bits : (a : Align) (os : List ℕ) → IsAscii os → chars_bits None a os ≡ bits os
unfolding chars_bits bits
ascii_bits a [] ascii = refl
ascii_bits a (c ∷ cs) ascii = rw (ascii_octet c (ascii 0), ascii_bits a cs (λ i. ascii (suc i))) (ap (λ (t : List Bool). t ++ bits cs) (one_byte c))

pub text_bits : (a : Align) (os : List ℕ) → IsAscii os → chars_bits None a (chars os) ≡ bits os
text_bits a os ascii = ap (λ (cs : List ℕ). chars_bits None a cs) (chars-IsAscii os ascii) ∙ ascii_bits a os ascii
