-- No line has a line feed in it, so the lines of events stand apart.
use Rattle.std.proofs.Common.{◌≡◌, ℕ, ◌^◌, ◌<◌, Bool, true, false, eqb, List, [], ◌∷◌, ◌++◌, Option, Some, None, refl, sym, ap, ◌∙◌, subst, inl, inr, append_assoc, arith}
use Rattle.std.specs.Prelude.{decimal, encode_utf8_all}
use Rattle.std.specs.List.{flat_map}
use Rattle.std.proofs.lemmas.Bool.{cases_Bool}
use Rattle.exi_names.specs.declared.names.QName.{QName}
use Rattle.exi_names.specs.Seen as shape
use Rattle.exi_names.specs.Seen.{Value, Values, no_more, and}
use Rattle.exi_names.specs.Events as event
use Rattle.exi_names.specs.Events.{Happening}
use Rattle.exi_digits.specs.Splits.{before, behind, is_mark}
use Rattle.exi_digits.proofs.Splitting.{before_mark, behind_mark, none_passes, none_passes-append}
use Rattle.exi_lexical.specs.Values.{canonical}
use Rattle.exi_evtext.specs.Lines.{also, also_prefix, between_quotes, count, each_value, escaped, line_of, lines_of, name_words, quoted, truth_word, value_words, words}
use Rattle.exi_evtext.specs.Reading.{event_in}
use Rattle.exi_evtext.specs.Spelling.{AreItems, IsEvent, IsItem, IsValue, SaysAll, first_line, other_lines}
use Rattle.exi_evtext.specs.Laws.{AreEvents}
use Rattle.exi_evtext.proofs.Plain.{clean_base64, clean_decimal, clean_decimals, clean_hex, clean_integer, clean_moment, feedless}
use Rattle.exi_evtext.proofs.Scalars.{clean_float, spelled_near}
use Rattle.exi_evtext.proofs.Spelled.{says_read}

abbrev has_no_feed : List ℕ → Bool
has_no_feed t = none_passes (is_mark 10) t

both : (a b : List ℕ) → has_no_feed a ≡ true → has_no_feed b ≡ true → has_no_feed (a ++ b) ≡ true
both a b p q = none_passes-append (is_mark 10) a b p q

-- ---- texts and names
escaped_none : (b : ℕ) → has_no_feed (escaped b) ≡ true
escaped_none b =
    elim (cases_Bool (eqb b 34)) [
      | inl h ↦ rw h refl
      | inr h34 ↦ elim (cases_Bool (eqb b 92)) [
        | inl h ↦ rw (h34, h) refl
        | inr h92 ↦ elim (cases_Bool (eqb b 10)) [
          | inl h ↦ rw (h34, h92, h) refl
          | inr h10 ↦ elim (cases_Bool (eqb b 13)) [
            | inl h ↦ rw (h34, h92, h10, h) refl
            | inr h13 ↦ elim (cases_Bool (eqb b 9)) [
              | inl h ↦ rw (h34, h92, h10, h13, h) refl
              | inr h9 ↦
                  let self : escaped b ≡ b ∷ [] = rw (h34, h92, h10, h13, h9) refl in
                  rw self (rw h10 refl)
            ]
          ]
        ]
      ]
    ]

bytes_none : (bytes : List ℕ) → has_no_feed (flat_map escaped bytes) ≡ true
bytes_none [] = refl
bytes_none (b ∷ bytes) = both (escaped b) (flat_map escaped bytes) (escaped_none b) (bytes_none bytes)

between_none : (bytes : List ℕ) → has_no_feed bytes ≡ true → has_no_feed (between_quotes bytes) ≡ true
between_none bytes h = both bytes (34 ∷ []) h refl

quoted_none : (t : List ℕ) → has_no_feed (quoted t) ≡ true
quoted_none t = between_none (flat_map escaped (encode_utf8_all t)) (bytes_none (encode_utf8_all t))

prefix_none : (prefix : Option (List ℕ)) → has_no_feed (also_prefix prefix) ≡ true
prefix_none None = refl
prefix_none (Some t) = quoted_none t

name_none : (n : QName) → has_no_feed (name_words n) ≡ true
name_none n = both (quoted n.uri ++ also n.local) (also_prefix n.prefix) (both (quoted n.uri) (also n.local) (quoted_none n.uri) (quoted_none n.local)) (prefix_none n.prefix)

-- ---- values
item_none : (v : Value) → IsItem v → has_no_feed (value_words v) ≡ true
item_none (shape.text t) h = quoted_none t
item_none (shape.boolean true true) h = refl
item_none (shape.boolean true false) h = refl
item_none (shape.boolean false true) h = refl
item_none (shape.boolean false false) h = refl
item_none (shape.integer n) h = between_none (canonical (shape.integer n)) (feedless (canonical (shape.integer n)) (clean_integer n (spelled_near n h.1)))
item_none (shape.decimal minus whole back) h = between_none (canonical (shape.decimal minus whole back)) (feedless (canonical (shape.decimal minus whole back)) (clean_decimals (record { minus = minus; whole = whole; back = back }) h.0 h.1))
item_none (shape.float m e) h = between_none (canonical (shape.float m e)) (feedless (canonical (shape.float m e)) (clean_float m e h))
item_none (shape.moment m) h = between_none (canonical (shape.moment m)) (feedless (canonical (shape.moment m)) (clean_moment m h))
item_none (shape.binary true octets) h = between_none (canonical (shape.binary true octets)) (feedless (canonical (shape.binary true octets)) (clean_hex octets h))
item_none (shape.binary false octets) h = between_none (canonical (shape.binary false octets)) (feedless (canonical (shape.binary false octets)) (clean_base64 octets h))
item_none (shape.items vs) h = absurd h
item_none (shape.name n) h = absurd h

items_none : (vs : Values) → AreItems vs → has_no_feed (each_value vs) ≡ true
items_none no_more h = refl
items_none (and v vs) h = both (value_words v) (each_value vs) (item_none v h.0) (items_none vs h.1)

value_none : (v : Value) → IsValue v → has_no_feed (value_words v) ≡ true
value_none (shape.text t) h = item_none (shape.text t) h
value_none (shape.boolean truth digit) h = item_none (shape.boolean truth digit) h
value_none (shape.integer n) h = item_none (shape.integer n) h
value_none (shape.decimal minus whole back) h = item_none (shape.decimal minus whole back) h
value_none (shape.float m e) h = item_none (shape.float m e) h
value_none (shape.moment m) h = item_none (shape.moment m) h
value_none (shape.binary hex octets) h = item_none (shape.binary hex octets) h
value_none (shape.items vs) h = both (decimal (count vs)) (each_value vs) (feedless (decimal (count vs)) (clean_decimal (count vs) h.0)) (items_none vs h.1)
value_none (shape.name n) h = name_none n

truth_none : (b : Bool) → has_no_feed (truth_word b) ≡ true
truth_none true = refl
truth_none false = refl

-- ---- events
words_none : (e : Happening) → IsEvent e → has_no_feed (words e) ≡ true
words_none event.sd h = refl
words_none event.ed h = refl
words_none (event.se n) h = name_none n
words_none event.ee h = refl
words_none (event.at n v) h = both (name_words n) (32 ∷ value_words v) (name_none n) (value_none v h.1)
words_none (event.ch v) h = value_none v h
words_none (event.ns uri prefix element) h = both (quoted uri ++ also prefix) (32 ∷ truth_word element) (both (quoted uri) (also prefix) (quoted_none uri) (quoted_none prefix)) (truth_none element)
words_none (event.sc place) h = let lt : place < 2 ^ 64 = h in feedless (decimal place) (clean_decimal place (omega arith))
words_none (event.cm t) h = quoted_none t
words_none (event.pi target t) h = both (quoted target) (also t) (quoted_none target) (quoted_none t)
words_none (event.dt n public system t) h =
    both (quoted n ++ also public ++ also system) (also t) (both (quoted n ++ also public) (also system) (both (quoted n) (also public) (quoted_none n) (quoted_none public)) (quoted_none system)) (quoted_none t)
words_none (event.er n) h = quoted_none n

-- ---- lines
lines_parts : (e : Happening) (es : List Happening) → lines_of (e ∷ es) ≡ words e ++ 10 ∷ lines_of es
unfolding line_of
lines_parts e es = append_assoc (words e) (10 ∷ []) (lines_of es)

-- the line of an event in front of others
pub line_front : (e : Happening) (rest : List ℕ) → IsEvent e → (first_line (line_of e ++ rest) ≡ words e) × (other_lines (line_of e ++ rest) ≡ Some rest)
unfolding line_of
line_front e rest h =
    let none = words_none e h in
    let parts = append_assoc (words e) (10 ∷ []) rest in
    (ap (before (is_mark 10)) parts ∙ before_mark (is_mark 10) (words e) 10 rest none refl, ap (behind (is_mark 10)) parts ∙ behind_mark (is_mark 10) (words e) 10 rest none refl)

pub printed_says : (es : List Happening) → AreEvents es → SaysAll (lines_of es) es
printed_says [] h = refl
printed_says (e ∷ es) h =
    let none = words_none e h.0 in
    let first : first_line (lines_of (e ∷ es)) ≡ words e = ap (before (is_mark 10)) (lines_parts e es) ∙ before_mark (is_mark 10) (words e) 10 (lines_of es) none refl in
    let rest : other_lines (lines_of (e ∷ es)) ≡ Some (lines_of es) = ap (behind (is_mark 10)) (lines_parts e es) ∙ behind_mark (is_mark 10) (words e) 10 (lines_of es) none refl in
    (inl (h.0, first), (lines_of es, rest, printed_says es h.1))

-- ---- a text says one list at most
some_one : {A : Type 0} (a b : A) (o : Option A) → o ≡ Some a → o ≡ Some b → a ≡ b
some_one {A} a b o p q = let k : Some a ≡ Some b = sym p ∙ q in cc

pub says_one : (bytes : List ℕ) (es fs : List Happening) → SaysAll bytes es → SaysAll bytes fs → es ≡ fs
says_one bytes [] [] p q = refl
says_one bytes [] (f ∷ fs) p q = let k : None ≡ Some q.1.0 = ap (behind (is_mark 10)) (sym p) ∙ q.1.1 in absurd (cc)
says_one bytes (e ∷ es) [] p q = let k : None ≡ Some p.1.0 = ap (behind (is_mark 10)) (sym q) ∙ p.1.1 in absurd (cc)
says_one bytes (e ∷ es) (f ∷ fs) p q =
    let same : e ≡ f = some_one e f (event_in (first_line bytes)) (says_read (first_line bytes) e p.0) (says_read (first_line bytes) f q.0) in
    let rest : p.1.0 ≡ q.1.0 = some_one p.1.0 q.1.0 (other_lines bytes) p.1.1 q.1.1 in
    let tail : es ≡ fs = says_one q.1.0 es fs (let S : List ℕ → Type 0 = λ x. SaysAll x es in subst S rest p.1.2) q.1.2 in
    ap (λ (x : Happening). x ∷ es) same ∙ ap (λ (xs : List Happening). f ∷ xs) tail
