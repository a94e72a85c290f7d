-- A line that says an event is read as that event.
use Rattle.std.proofs.Common.{◌≡◌, ℕ, ◌^◌, ◌<◌, ◌≤◌, Bool, true, false, leb, List, [], ◌∷◌, ◌++◌, drop, length, Some, refl, sym, ap, ◌∙◌, inl, inr, append_assoc, arith}
use Rattle.std.specs.Prelude.{codes, decimal}
use Rattle.std.proofs.lemmas.Bool.{and_parts, leb-true, lt-ltb, ne_eqb}
use Rattle.std.proofs.lemmas.List.{append-nil}
use Rattle.std.proofs.Math.Seq.{drop-append_seam}
use Rattle.exi_names.specs.declared.names.QName.{QName}
use Rattle.exi_names.specs.Seen as shape
use Rattle.exi_names.specs.Seen.{Value, Values, no_more, and}
use Rattle.exi_names.specs.Events as event
use Rattle.exi_names.specs.Events.{Happening}
use Rattle.exi_digits.specs.Digits.{is_digit}
use Rattle.exi_digits.specs.Splits.{before, is_mark}
use Rattle.exi_digits.proofs.Decimals.{all_digits-decimal}
use Rattle.exi_digits.proofs.Splitting.{before_all, before_mark, behind_mark, digits_pass_none, none_passes}
use Rattle.exi_calendar.specs.Reading.{past}
use Rattle.exi_calendar.proofs.Fields.{past_front}
use Rattle.exi_lexical.specs.Values.{canonical}
use Rattle.exi_evtext.specs.Lines.{also, between_quotes, count, each_value, name_words, truth_word, value_words, words}
use Rattle.exi_evtext.specs.Reading.{also_at, attribute_in, characters_in, doctype_in, event_in, event_of, fragment_in, instruction_in, item_at, item_of, items_at, list_at, name_at, namespace_in, only_text, scalar_at, scalar_of, start_in, truth_of, value_at, value_of}
use Rattle.exi_evtext.specs.Spelling.{AreItems, IsEvent, IsItem, IsName, IsText, IsValue, Says}
use Rattle.exi_evtext.proofs.Texts.{NoPrefix, also_read, name_read, text_read}
use Rattle.exi_evtext.proofs.Plain.{clean_base64, clean_decimals, clean_hex, clean_integer, clean_moment, quoteless}
use Rattle.exi_evtext.proofs.Scalars.{base64_of_word, bool_of_word, clean_float, dec_of_word, flo_of_word, hex_of_word, int_of_word, number_again, spelled_near}
use Rattle.exi_evtext.proofs.Moments.{mom_of_word}

-- ---- one value that is neither a list nor a name
scalar_read : (word digits rest : List ℕ) (v : Value) → none_passes (is_mark 34) digits ≡ true → scalar_of word digits ≡ Some v → scalar_at word (between_quotes digits ++ rest) ≡ Some (v, rest)
scalar_read word digits rest v none is =
    let opens : between_quotes digits ++ rest ≡ 34 ∷ (digits ++ 34 ∷ rest) = ap (λ (x : List ℕ). 34 ∷ x) (append_assoc digits (34 ∷ []) rest) in
    rw (opens, past_front (34 ∷ []) (digits ++ 34 ∷ rest), behind_mark (is_mark 34) digits 34 rest none refl, before_mark (is_mark 34) digits 34 rest none refl, is) refl

pub item_read : (v : Value) (rest : List ℕ) → IsItem v → item_at (value_words v ++ rest) ≡ Some (v, rest)
unfolding item_of
item_read (shape.text t) rest h = rw (text_read t rest h) refl
item_read (shape.boolean true true) rest h = scalar_read (codes "bool") (canonical (shape.boolean true true)) rest (shape.boolean true true) refl (bool_of_word true true)
item_read (shape.boolean true false) rest h = scalar_read (codes "bool") (canonical (shape.boolean true false)) rest (shape.boolean true false) refl (bool_of_word true false)
item_read (shape.boolean false true) rest h = scalar_read (codes "bool") (canonical (shape.boolean false true)) rest (shape.boolean false true) refl (bool_of_word false true)
item_read (shape.boolean false false) rest h = scalar_read (codes "bool") (canonical (shape.boolean false false)) rest (shape.boolean false false) refl (bool_of_word false false)
item_read (shape.integer n) rest h = scalar_read (codes "int") (canonical (shape.integer n)) rest (shape.integer n) (quoteless (canonical (shape.integer n)) (clean_integer n (spelled_near n h.1))) (int_of_word n h)
item_read (shape.decimal minus whole back) rest h =
    scalar_read (codes "dec") (canonical (shape.decimal minus whole back)) rest (shape.decimal minus whole back) (quoteless (canonical (shape.decimal minus whole back)) (clean_decimals (record { minus = minus; whole = whole; back = back }) h.0 h.1)) (dec_of_word minus whole back h.0 h.1)
item_read (shape.float m e) rest h = scalar_read (codes "flo") (canonical (shape.float m e)) rest (shape.float m e) (quoteless (canonical (shape.float m e)) (clean_float m e h)) (flo_of_word m e h)
item_read (shape.moment m) rest h = scalar_read (codes "mom") (canonical (shape.moment m)) rest (shape.moment m) (quoteless (canonical (shape.moment m)) (clean_moment m h)) (mom_of_word m h)
item_read (shape.binary true octets) rest h = scalar_read (codes "hex") (canonical (shape.binary true octets)) rest (shape.binary true octets) (quoteless (canonical (shape.binary true octets)) (clean_hex octets h)) (hex_of_word octets h)
item_read (shape.binary false octets) rest h = scalar_read (codes "base64") (canonical (shape.binary false octets)) rest (shape.binary false octets) (quoteless (canonical (shape.binary false octets)) (clean_base64 octets h)) (base64_of_word octets h)
item_read (shape.items vs) rest h = absurd h
item_read (shape.name n) rest h = absurd h

-- ---- lists
items_read : (vs : Values) (rest : List ℕ) → AreItems vs → items_at (count vs) (each_value vs ++ rest) ≡ Some (vs, rest)
items_read no_more rest h = refl
items_read (and v vs) rest h =
    let parts : each_value (and v vs) ++ rest ≡ 32 ∷ (value_words v ++ (each_value vs ++ rest)) = ap (λ (x : List ℕ). 32 ∷ x) (append_assoc (value_words v) (each_value vs) rest) in
    rw (parts, past_front (32 ∷ []) (value_words v ++ (each_value vs ++ rest)), item_read v (each_value vs ++ rest) h.0, items_read vs rest h.1) refl

no_space : (c : ℕ) → is_digit c ≡ true → is_mark 32 c ≡ false
no_space c d =
    let p = and_parts (leb 48 c) (leb c 57) d in
    let low : 48 ≤ c = leb-true 48 c p.0 in
    ne_eqb c 32 (λ e. omega (arith, e))

-- the digits up to the first item
digits_before : (n : ℕ) (vs : Values) → n < 2 ^ 128 → before (is_mark 32) (decimal n ++ each_value vs) ≡ decimal n
digits_before n no_more lt = ap (before (is_mark 32)) (append-nil (decimal n)) ∙ before_all (is_mark 32) (decimal n) (digits_pass_none (is_mark 32) (decimal n) no_space (all_digits-decimal n lt))
digits_before n (and v vs) lt = before_mark (is_mark 32) (decimal n) 32 (value_words v ++ each_value vs) (digits_pass_none (is_mark 32) (decimal n) no_space (all_digits-decimal n lt)) refl

list_read : (vs : Values) → count vs < 2 ^ 128 → AreItems vs → list_at (decimal (count vs) ++ each_value vs) ≡ Some (shape.items vs, [])
unfolding list_at
list_read vs lt h =
    let n = count vs in
    let digits = digits_before n vs lt in
    let rest : drop (length (before (is_mark 32) (decimal n ++ each_value vs))) (decimal n ++ each_value vs) ≡ each_value vs =
    ap (λ (x : List ℕ). drop (length x) (decimal n ++ each_value vs)) digits ∙ drop-append_seam (decimal n) (each_value vs) in
    let all : items_at n (each_value vs) ≡ Some (vs, []) = ap (items_at n) (sym (append-nil (each_value vs))) ∙ items_read vs [] h in
    rw (rest, digits, number_again n lt, all) refl

-- ---- values
item_value : (v : Value) → IsItem v → value_at (value_words v) ≡ item_at (value_words v)
unfolding value_of
item_value (shape.text t) h = refl
item_value (shape.boolean truth digit) h = refl
item_value (shape.integer n) h = refl
item_value (shape.decimal minus whole back) h = refl
item_value (shape.float m e) h = refl
item_value (shape.moment m) h = refl
item_value (shape.binary true octets) h = refl
item_value (shape.binary false octets) h = refl
item_value (shape.items vs) h = absurd h
item_value (shape.name n) h = absurd h

item_alone : (v : Value) → IsItem v → value_at (value_words v) ≡ Some (v, [])
item_alone v h = item_value v h ∙ ap item_at (sym (append-nil (value_words v))) ∙ item_read v [] h

pub value_read : (v : Value) → IsValue v → value_at (value_words v) ≡ Some (v, [])
unfolding value_of past
value_read (shape.text t) h = item_alone (shape.text t) h
value_read (shape.boolean truth digit) h = item_alone (shape.boolean truth digit) h
value_read (shape.integer n) h = item_alone (shape.integer n) h
value_read (shape.decimal minus whole back) h = item_alone (shape.decimal minus whole back) h
value_read (shape.float m e) h = item_alone (shape.float m e) h
value_read (shape.moment m) h = item_alone (shape.moment m) h
value_read (shape.binary hex octets) h = item_alone (shape.binary hex octets) h
value_read (shape.items vs) h = list_read vs h.0 h.1
value_read (shape.name n) h =
    let e : name_at (name_words n) ≡ Some (n, []) = ap name_at (sym (append-nil (name_words n))) ∙ name_read n [] h refl in
    rw e refl

-- no value begins with a quote
no_prefix : (v : Value) → NoPrefix (32 ∷ value_words v)
unfolding past
no_prefix (shape.text t) = refl
no_prefix (shape.boolean truth digit) = refl
no_prefix (shape.integer n) = refl
no_prefix (shape.decimal minus whole back) = refl
no_prefix (shape.float m e) = refl
no_prefix (shape.moment m) = refl
no_prefix (shape.binary true octets) = refl
no_prefix (shape.binary false octets) = refl
no_prefix (shape.items vs) = refl
no_prefix (shape.name n) = refl

-- ---- events
start_alone : (n : QName) → IsName n → name_at (name_words n) ≡ Some (n, [])
unfolding past
start_alone n h = ap name_at (sym (append-nil (name_words n))) ∙ name_read n [] h refl

also_alone : (t : List ℕ) → IsText t → also_at (also t) ≡ Some (t, [])
also_alone t h = ap also_at (sym (append-nil (also t))) ∙ also_read t [] h

start_read : (n : QName) → IsName n → start_in (32 ∷ name_words n) ≡ Some (event.se n)
start_read n h = rw (past_front (32 ∷ []) (name_words n), start_alone n h) refl

attribute_read : (n : QName) (v : Value) → IsName n → IsValue v → attribute_in (32 ∷ (name_words n ++ 32 ∷ value_words v)) ≡ Some (event.at n v)
unfolding attribute_in
attribute_read n v h g =
    rw (past_front (32 ∷ []) (name_words n ++ 32 ∷ value_words v), name_read n (32 ∷ value_words v) h (no_prefix v), past_front (32 ∷ []) (value_words v), value_read v g) refl

characters_read : (v : Value) → IsValue v → characters_in (32 ∷ value_words v) ≡ Some (event.ch v)
characters_read v g = rw (past_front (32 ∷ []) (value_words v), value_read v g) refl

truth_read : (element : Bool) → truth_of (32 ∷ truth_word element) ≡ Some element
truth_read true = refl
truth_read false = refl

namespace_read : (uri prefix : List ℕ) (element : Bool) → IsText uri → IsText prefix → namespace_in (also uri ++ (also prefix ++ 32 ∷ truth_word element)) ≡ Some (event.ns uri prefix element)
unfolding namespace_in
namespace_read uri prefix element h g = rw (also_read uri (also prefix ++ 32 ∷ truth_word element) h, also_read prefix (32 ∷ truth_word element) g, truth_read element) refl

fragment_read : (place : ℕ) → place < 2 ^ 64 → fragment_in (32 ∷ decimal place) ≡ Some (event.sc place)
fragment_read place lt = rw (past_front (32 ∷ []) (decimal place), number_again place (omega arith), lt-ltb place (2 ^ 64) lt) refl

text_alone : (t : List ℕ) → IsText t → only_text (also t) ≡ Some t
text_alone t h = rw (also_alone t h) refl

instruction_read : (target t : List ℕ) → IsText target → IsText t → instruction_in (also target ++ also t) ≡ Some (event.pi target t)
unfolding instruction_in
instruction_read target t h g = rw (also_read target (also t) h, also_alone t g) refl

doctype_read : (n public system t : List ℕ) → IsText n → IsText public → IsText system → IsText t → doctype_in (also n ++ (also public ++ (also system ++ also t))) ≡ Some (event.dt n public system t)
unfolding doctype_in
doctype_read n public system t h g i j =
    rw (also_read n (also public ++ (also system ++ also t)) h, also_read public (also system ++ also t) g, also_read system (also t) i, also_alone t j) refl

pub words_read : (e : Happening) → IsEvent e → event_in (words e) ≡ Some e
unfolding event_in event_of
words_read event.sd h = refl
words_read event.ed h = refl
words_read (event.se n) h = start_read n h
words_read event.ee h = refl
words_read (event.at n v) h = attribute_read n v h.0 h.1
words_read (event.ch v) h = characters_read v h
words_read (event.ns uri prefix element) h = ap namespace_in (append_assoc (also uri) (also prefix) (32 ∷ truth_word element)) ∙ namespace_read uri prefix element h.0 h.1
words_read (event.sc place) h = fragment_read place h
words_read (event.cm t) h = rw (text_alone t h) refl
words_read (event.pi target t) h = instruction_read target t h.0 h.1
words_read (event.dt n public system t) h =
    ap doctype_in (append_assoc (also n ++ also public) (also system) (also t) ∙ append_assoc (also n) (also public) (also system ++ also t)) ∙ doctype_read n public system t h.0 h.1 h.2 h.3
words_read (event.er n) h = rw (text_alone n h) refl

short_read : event_in (codes "SC") ≡ Some (event.sc 0)
unfolding event_in event_of
short_read = refl

pub says_read : (line : List ℕ) (e : Happening) → Says line e → event_in line ≡ Some e
says_read line e h = elim h [
  | inl printed ↦ ap event_in printed.1 ∙ words_read e printed.0
  | inr short ↦ ap event_in short.0 ∙ short_read ∙ ap (λ (x : Happening). Some x) (sym short.1)
]
