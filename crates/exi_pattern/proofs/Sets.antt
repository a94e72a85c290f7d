-- Sets of characters that grow.
use Rattle.std.proofs.Common.{◌≡◌, ℕ, zero, suc, ◌+◌, ◌-◌, ◌<◌, ◌≤◌, Bool, true, false, cond, List, [], ◌∷◌, ◌++◌, length, take, drop, Option, Some, None, Result, Ok, Err, refl, sym, ap, ◌∙◌, arith, leb, inl, inr}
use Rattle.std.proofs.lemmas.Bool.{cases_lt, le-leb, lt-leb, lt-ltb, le-ltb}
use Rattle.std.proofs.lemmas.List.Edits.{length-insert}
use Rattle.std.specs.Option.{is_none}
use Rattle.std.specs.List.{insert}
use Rattle.std.specs.List.Sorted.{IsBinarySearchResult}
use Rattle.std.specs.Ordering.{nat_cmp}
use Rattle.exi_names.specs.Alphabets.{is_alphabet}
use Rattle.exi_names.specs.Characters.{is_xml_char}
use Rattle.exi_pattern.specs.Sets.{AreLetters, Letters, every, if_few, with_char, with_letter, with_code, with_codes}
use Rattle.exi_pattern.proofs.Sorted.{put, there, still_alphabet}

abbrev pub lettered : List ℕ → Letters
lettered cs = Some cs

past : (c : ℕ) (s : Letters) → 0xFFFF < c → every ≡ with_letter c s
past c None h = refl
past c (Some cs) h = rw (lt-leb c 0xFFFF h) refl

pub is_past : (c : ℕ) (s : Letters) → 0xFFFF < c → every ≡ with_letter c s
is_past = past

within : (c : ℕ) (cs : List ℕ) → c ≤ 0xFFFF → with_letter c (lettered cs) ≡ if_few (with_char c cs)
within c cs h = rw (le-leb c 0xFFFF h) refl

few : (cs : List ℕ) → length cs < 256 → if_few cs ≡ lettered cs
few cs h = rw (lt-ltb (length cs) 256 h) refl

many : (cs : List ℕ) → 256 ≤ length cs → if_few cs ≡ every
many cs h = rw (le-ltb (length cs) 256 h) refl

pub is_put : (c : ℕ) (cs : List ℕ) (i : ℕ) → c ≤ 0xFFFF → is_alphabet cs ≡ true → length cs < 255 → IsBinarySearchResult (λ y. nat_cmp y c) cs (Err i) → lettered (insert cs i c) ≡ with_letter c (lettered cs)
is_put c cs i low sorted room h =
    let p = put c cs i sorted h in
    let n = length-insert cs i c p.1 in
    ap lettered p.0 ∙ sym (within c cs low ∙ few (with_char c cs) (rw p.0 at (let k : length (insert cs i c) < 256 = omega arith in k)))

pub is_full : (c : ℕ) (cs : List ℕ) (i : ℕ) → c ≤ 0xFFFF → is_alphabet cs ≡ true → length cs ≡ 255 → IsBinarySearchResult (λ y. nat_cmp y c) cs (Err i) → every ≡ with_letter c (lettered cs)
is_full c cs i low sorted room h =
    let p = put c cs i sorted h in
    let n = length-insert cs i c p.1 in
    sym (within c cs low ∙ many (with_char c cs) (rw p.0 at (let k : 256 ≤ length (insert cs i c) = omega arith in k)))

pub is_there : (c : ℕ) (cs : List ℕ) (i : ℕ) → c ≤ 0xFFFF → is_alphabet cs ≡ true → length cs < 256 → IsBinarySearchResult (λ y. nat_cmp y c) cs (Ok i) → lettered cs ≡ with_letter c (lettered cs)
is_there c cs i low sorted room h =
    let p = there c cs i sorted h in
    ap lettered p ∙ sym (within c cs low ∙ few (with_char c cs) (rw p at room))

pub stays_sorted : (c : ℕ) (cs : List ℕ) (i : ℕ) → is_alphabet cs ≡ true → is_xml_char c ≡ true → length cs < 255 → IsBinarySearchResult (λ y. nat_cmp y c) cs (Err i) → (is_alphabet (insert cs i c) ≡ true) × (length (insert cs i c) < 256)
stays_sorted c cs i sorted xml room h =
    let p = put c cs i sorted h in
    let n = length-insert cs i c p.1 in
    (ap is_alphabet p.0 ∙ still_alphabet c cs sorted xml, omega arith)

pub code_every : (b : Bool) (code : ℕ) → is_xml_char code ≡ b → with_code code every ≡ every
code_every true code e = rw e refl
code_every false code e = rw e refl

pub codes_every : (n first : ℕ) → with_codes first n every ≡ every
codes_every zero first = refl
codes_every (suc n) first = ap (with_codes (suc first) n) (code_every (is_xml_char first) first refl) ∙ codes_every n (suc first)

pub next_code : (code end : ℕ) (s : Letters) → code < end → with_codes code (end - code) s ≡ with_codes (code + 1) (end - (code + 1)) (with_code code s)
next_code code end s less =
    let e : end - code ≡ suc (end - (code + 1)) = omega arith in
    let f : suc code ≡ code + 1 = omega arith in
    ap (λ n. with_codes code n s) e ∙ ap (λ n. with_codes n (end - (code + 1)) (with_code code s)) f

pub xml_code : (code : ℕ) (s : Letters) → is_xml_char code ≡ true → with_code code s ≡ with_letter code s
xml_code code s e = rw e refl

pub other_code : (code : ℕ) (s : Letters) → is_xml_char code ≡ false → with_code code s ≡ s
other_code code s e = rw e refl

-- ---- for the answers: the letters are these, and were seen so
pub added : (c i : ℕ) (self : Letters) (cs seen new : List ℕ) → self ≡ lettered cs → seen ≡ cs → new ≡ insert cs i c → (length seen ≡ 255 → ⊥) → AreLetters self → c ≤ 0xFFFF → is_xml_char c ≡ true → IsBinarySearchResult (λ y. nat_cmp y c) seen (Err i)
    → ((is_alphabet new ≡ true) × (length new < 256)) × (lettered new ≡ with_letter c self)
added c i self cs seen new self_is seen_is new_is room inv low xml h =
    let letters : AreLetters (lettered cs) = rw self_is at inv in
    let search_is : IsBinarySearchResult (λ y. nat_cmp y c) cs (Err i) = rw seen_is at h in
    let length_is : length seen ≡ length cs = ap length seen_is in
    let fewer : length cs < 255 = fewer_than (length cs) letters.1 (λ e. room (length_is ∙ e)) in
    let k = stays_sorted c cs i letters.0 xml fewer search_is in
    let p = is_put c cs i low letters.0 fewer search_is in
    ((ap is_alphabet new_is ∙ k.0, let n = ap length new_is in omega (arith, n, k.1)), ap lettered new_is ∙ p ∙ ap (with_letter c) (sym self_is))
  where
    fewer_than : (n : ℕ) → n < 256 → (n ≡ 255 → ⊥) → n < 255
    fewer_than n lt other = elim (cases_lt n 255) [ inl less ↦ less | inr not_less ↦ absurd (other (omega arith)) ]

pub filled : (c i : ℕ) (self : Letters) (cs seen : List ℕ) → self ≡ lettered cs → seen ≡ cs → length seen ≡ 255 → AreLetters self → c ≤ 0xFFFF → IsBinarySearchResult (λ y. nat_cmp y c) seen (Err i) → every ≡ with_letter c self
filled c i self cs seen self_is seen_is full inv low h =
    let letters : AreLetters (lettered cs) = rw self_is at inv in
    let search_is : IsBinarySearchResult (λ y. nat_cmp y c) cs (Err i) = rw seen_is at h in
    is_full c cs i low letters.0 (sym (ap length seen_is) ∙ full) search_is ∙ ap (with_letter c) (sym self_is)

pub known : (c i : ℕ) (self : Letters) (cs seen : List ℕ) → self ≡ lettered cs → seen ≡ cs → AreLetters self → c ≤ 0xFFFF → IsBinarySearchResult (λ y. nat_cmp y c) seen (Ok i) → lettered cs ≡ with_letter c self
known c i self cs seen self_is seen_is inv low h =
    let letters : AreLetters (lettered cs) = rw self_is at inv in
    let search_is : IsBinarySearchResult (λ y. nat_cmp y c) cs (Ok i) = rw seen_is at h in
    is_there c cs i low letters.0 letters.1 search_is ∙ ap (with_letter c) (sym self_is)

pub is_none_is : (s : Letters) → is_none s ≡ true → s ≡ every
is_none_is None h = refl
is_none_is (Some cs) h = absurd cc

pub code_step : (code end : ℕ) (s t all : Letters) → code < end → t ≡ with_code code s → with_codes code (end - code) s ≡ all → with_codes (code + 1) (end - (code + 1)) t ≡ all
code_step code end s t all less e inv = ap (with_codes (code + 1) (end - (code + 1))) e ∙ sym (next_code code end s less) ∙ inv

-- a code that was looked up
pub coded : (code from c : ℕ) (s : Letters) → from ≡ code → c ≡ from → is_xml_char from ≡ true → with_letter c s ≡ with_code code s
coded code from c s f e xml = ap (λ k. with_letter k s) (e ∙ f) ∙ sym (xml_code code s (ap is_xml_char (sym f) ∙ xml))

pub not_coded : (code from : ℕ) (s : Letters) → from ≡ code → is_xml_char from ≡ false → s ≡ with_code code s
not_coded code from s f xml = sym (other_code code s (ap is_xml_char (sym f) ∙ xml))
