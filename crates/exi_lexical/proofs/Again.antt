-- The canonical text of a value that a text has, has that value.
use Rattle.std.proofs.Common.{◌≡◌, ℕ, ℤ, ◌^◌, suc, ◌<◌, ◌≤◌, Bool, true, false, nat_le, ltb, List, [], ◌∷◌, length, codes, lit<, Option, Some, None, option_map, refl, sym, ap, ◌∙◌, subst, inl, inr, arith}
use Rattle.std.proofs.lemmas.Bool.{and_parts, cases_Bool, false≢true, lt-ltb, ltb-true}
use Rattle.std.proofs.lemmas.List.{append-nil}
use Rattle.std.proofs.lemmas.Bool.Decides.{nat_tests}
use Rattle.std.specs.List.{join_with_byte}
use Rattle.std.specs.Str.{bytes_eq}
use Rattle.exi_names.specs.declared.val.TheConstants.{MOST_ITEMS}
use Rattle.exi_names.specs.Datatypes.{Representation, small, unsigned, list, choice, chars}
use Rattle.exi_names.specs.Datatypes as form
use Rattle.exi_names.specs.Seen.{Value, Values, boolean, integer, decimal, float, moment, binary, items, no_more, and, values_of}
use Rattle.exi_names.specs.Seen as shape
use Rattle.exi_names.specs.Wholes.{Number}
use Rattle.exi_names.specs.declared.moment.Moment.{Moment}
use Rattle.exi_names.specs.declared.moment.MomentKind.{MomentKind}
use Rattle.exi_numerals.specs.declared.decimal.Decimal.{Decimal}
use Rattle.exi_numerals.specs.declared.float.Float.{Float}
use Rattle.exi_numerals.specs.Integers.{integer_in, integer_text}
use Rattle.exi_numerals.specs.Decimals.{decimal_value, is_narrow}
use Rattle.exi_numerals.specs.Floats.{float_value}
use Rattle.exi_numerals.specs.Laws.{IntegerIsRead}
use Rattle.exi_numerals.proofs.Kept.{decimal_again, decimal_kept, decimal_read, float_again, float_kept, float_read, integer_again, integer_near, integer_ranged, small_again, unsigned_near}
use Rattle.exi_calendar.specs.Forms.{moment_text}
use Rattle.exi_calendar.proofs.Ranges.{ranges_are}
use Rattle.exi_calendar.proofs.Whole.{canonical_value, value_again as moment_again, value_back}
use Rattle.exi_calendar.specs.Reading.{moment_value}
use Rattle.exi_lexical.proofs.Visible.{graphic_decimals, graphic_float, graphic_integer, graphic_moment, long_decimals, long_float, long_integer, no_moment}
use Rattle.exi_lexical.specs.Binaries.{base64_octets, base64_text, hex_digit, hex_octets, hex_text, octet_before}
use Rattle.exi_names.specs.Equality.{place_among}
use Rattle.exi_names.specs.Forms.{AreOf, HasNoMinusZero, IsOf, is_integer, is_unsigned, is_within, length_of}
use Rattle.exi_names.specs.Texts.{all_have_text, has_text}
use Rattle.exi_lexical.specs.Laws.{is_plain}
use Rattle.exi_lexical.specs.Spaces.{all_ascii, squeezed, trimmed, words}
use Rattle.exi_lexical.specs.Values.{of_decimal, of_float, binary_value, boolean_text, boolean_value, canonical, chosen, each_value, form_value, list_value, scalar_value, texts, value, value_before}
use Rattle.exi_lexical.proofs.Blanks.{squeezed_same, word_first}
use Rattle.exi_lexical.proofs.Graphic.{all_graphic, graphic_ascii, graphic_binary, graphic_boolean, graphic_solid}
use Rattle.exi_lexical.proofs.Hexes.{hex_fits, hex_read}
use Rattle.exi_lexical.proofs.Sixes.{text_is, text_read}
use Rattle.exi_lexical.proofs.Lists.{listed}
use Rattle.exi_lexical.proofs.Joined.{AllWords, IsWord, words_joined}
use Rattle.exi_lexical.proofs.Chosen.{chosen_again, chosen_is}
use Rattle.exi_lexical.proofs.Trims.{trimmed_solid, trimmed_twice, words_trimmed, words_are}

-- ---- what is kept of a text's value by its canonical text
pub record Kept (r : Representation) (t : List ℕ) (v : Value) : Type 0 where
  pub again : value r (canonical v) ≡ Some v
  pub word : IsWord t → IsWord (canonical v)
  pub named : has_text v ≡ true
  pub of : IsOf r v

-- the same of the forms that have ASCII characters alone
record FormKept (r : Representation) (t : List ℕ) (v : Value) : Type 0 where
  again : form_value r (canonical v) ≡ Some v
  graphic : all_graphic (canonical v) ≡ true
  long : IsWord t → 0 < length (canonical v)
  named : has_text v ≡ true
  of : IsOf r v

abbrev given : Value → Option Value
given v = Some v

given_is : (v w : Value) → given v ≡ given w → v ≡ w
given_is v w e = cc

-- ---- booleans
boolean_again : (pattern truth digit : Bool) → (pattern ≡ false → digit ≡ false) → boolean_value pattern (boolean_text truth digit) ≡ Some (boolean truth digit)
unfolding boolean_value
boolean_again true true true h = refl
boolean_again true true false h = refl
boolean_again true false true h = refl
boolean_again true false false h = refl
boolean_again false true true h = let e = h refl in cc
boolean_again false true false h = refl
boolean_again false false true h = let e = h refl in cc
boolean_again false false false h = refl

record IsTruth (pattern : Bool) (v : Value) : Type 0 where
  truth : Bool
  digit : Bool
  only : pattern ≡ false → digit ≡ false
  is : boolean truth digit ≡ v

boolean_is : (pattern : Bool) (t : List ℕ) (v : Value) → boolean_value pattern t ≡ Some v → IsTruth pattern v
unfolding boolean_value
boolean_is pattern t v e = elim (cases_Bool (bytes_eq t (codes "true"))) [
  | inl a ↦ record { truth = true; digit = false; only = λ _. refl; is = given_is (boolean true false) v (rw a at e) }
  | inr a ↦ elim (cases_Bool (bytes_eq t (codes "false"))) [
    | inl b ↦ record { truth = false; digit = false; only = λ _. refl; is = given_is (boolean false false) v (rw (a, b) at e) }
    | inr b ↦ elim (cases_Bool (bytes_eq t (codes "1"))) [
      | inl c ↦ record { truth = true; digit = pattern; only = λ h. h; is = given_is (boolean true pattern) v (rw (a, b, c) at e) }
      | inr c ↦ elim (cases_Bool (bytes_eq t (codes "0"))) [
        | inl d ↦ record { truth = false; digit = pattern; only = λ h. h; is = given_is (boolean false pattern) v (rw (a, b, c, d) at e) }
        | inr d ↦ let k = rw (a, b, c, d) at e in absurd cc
      ]
    ]
  ]
]

long_boolean : (truth digit : Bool) → 0 < length (boolean_text truth digit)
long_boolean true true = lit< tt
long_boolean true false = lit< tt
long_boolean false true = lit< tt
long_boolean false false = lit< tt

boolean_kept : (pattern : Bool) (t : List ℕ) (v : Value) → boolean_value pattern t ≡ Some v → FormKept (form.boolean pattern) t v
boolean_kept pattern t v e =
    let b = boolean_is pattern t v e in
    rw (← b.is) record {
      again = boolean_again pattern b.truth b.digit b.only;
      graphic = graphic_boolean b.truth b.digit;
      long = λ _. long_boolean b.truth b.digit;
      named = refl;
      of = b.only;
    }

-- ---- what was found, and made a value of
record Found {A : Type 0} (f : A → Value) (o : Option A) (v : Value) : Type 0 where
  part : A
  there : o ≡ Some part
  whole : f part ≡ v

found : {A : Type 0} (f : A → Value) (o : Option A) (v : Value) → option_map f o ≡ Some v → Found f o v
found f None v e = cc e
found f (Some a) v e = record { part = a; there = refl; whole = given_is (f a) v e }

-- ---- octets
none_before : (h l : Option ℕ) (o : Option (List ℕ)) → octet_before h l o ≡ Some [] → ⊥
none_before None l o e = cc e
none_before (Some h) None o e = cc e
none_before (Some h) (Some l) None e = cc e
none_before (Some h) (Some l) (Some os) e = cc e

hex_some : (c : ℕ) (t : List ℕ) → hex_octets (c ∷ t) ≡ Some [] → ⊥
unfolding hex_octets
hex_some c [] e = cc e
hex_some c (d ∷ t) e = none_before (hex_digit c) (hex_digit d) (hex_octets t) e

hex_long : (t os : List ℕ) → hex_octets t ≡ Some os → 0 < length t → 0 < length (hex_text os)
unfolding hex_text
hex_long [] os e some = absurd (omega arith)
hex_long (c ∷ t) [] e some = absurd (hex_some c t e)
hex_long (c ∷ t) (o ∷ os) e some = omega arith

base64_long : (t os : List ℕ) → t ≡ base64_text os → 0 < length t → 0 < length (base64_text os)
base64_long t os e some = omega (arith, ap length e)

binary_kept : (hex : Bool) (t : List ℕ) (v : Value) → binary_value hex t ≡ Some v → FormKept (form.binary hex) t v
binary_kept true t v e =
    let f = found (binary true) (hex_octets t) v e in
    let fits = hex_fits t f.part f.there in
    rw (← f.whole) record {
      again = ap (λ (o : Option (List ℕ)). option_map (binary true) o) (hex_read f.part fits);
      graphic = graphic_binary true f.part fits;
      long = λ w. hex_long t f.part f.there w.0;
      named = refl;
      of = (refl, fits);
    }
binary_kept false t v e =
    let f = found (binary false) (base64_octets (squeezed t)) v e in
    let b = text_is (squeezed t) f.part f.there in
    let graphic = graphic_binary false f.part b.1 in
    let solid : squeezed (base64_text f.part) ≡ base64_text f.part = squeezed_same (base64_text f.part) (graphic_solid (base64_text f.part) graphic) in
    rw (← f.whole) record {
      again = ap (λ (o : Option (List ℕ)). option_map (binary false) o) (ap base64_octets solid ∙ text_read f.part b.1);
      graphic = graphic;
      long = λ w. base64_long t f.part (sym (squeezed_same t w.1) ∙ b.0) w.0;
      named = refl;
      of = (refl, b.1);
    }

-- ---- numbers, dates and times
abbrev number_given : Number → Option Number
number_given n = Some n

-- of an integer datatype of that range
whole_kept : (r : Representation) (range : Number → Bool) → ((u : List ℕ) → form_value r u ≡ option_map integer (integer_in range u))
    → ((n : Number) → HasNoMinusZero n × (range n ≡ true) → IsOf r (integer n)) → IntegerIsRead range
    → (t : List ℕ) (v : Value) → form_value r t ≡ Some v → FormKept r t v
whole_kept r range form of again t v e =
    let f = found integer (integer_in range t) v (sym (form t) ∙ e) in
    let p = integer_ranged range t f.part f.there in
    rw (← f.whole) record {
      again = form (integer_text f.part) ∙ ap (λ (o : Option Number). option_map integer o) (again f.part p.0 p.1);
      graphic = graphic_integer f.part;
      long = λ _. long_integer f.part;
      named = refl;
      of = of f.part p;
    }

narrow_is : (d : Decimal) → is_narrow d ≡ true → (d.whole < 2 ^ 128) × (d.back < 2 ^ 128)
narrow_is d h = let p = and_parts (ltb d.whole (2 ^ 128)) (ltb d.back (2 ^ 128)) h in (ltb-true d.whole (2 ^ 128) p.0, ltb-true d.back (2 ^ 128) p.1)

decimals_kept : (t : List ℕ) (v : Value) → form_value form.decimal t ≡ Some v → FormKept form.decimal t v
decimals_kept t v e =
    let f = found of_decimal (decimal_value t) v e in
    rw (← f.whole) record {
      again = ap (λ (o : Option Decimal). option_map of_decimal o) (decimal_kept t f.part f.there);
      graphic = graphic_decimals f.part;
      long = λ _. long_decimals f.part;
      named = refl;
      of = narrow_is f.part (decimal_read t f.part f.there);
    }

floats_kept : (t : List ℕ) (v : Value) → form_value form.float t ≡ Some v → FormKept form.float t v
floats_kept t v e =
    let f = found of_float (float_value t) v e in
    rw (← f.whole) record {
      again = ap (λ (o : Option Float). option_map of_float o) (float_kept t f.part f.there);
      graphic = graphic_float f.part;
      long = λ _. long_float f.part;
      named = refl;
      of = float_read t f.part f.there;
    }

some_characters : (k : MomentKind) (m : Moment) (t : List ℕ) → moment_value k t ≡ Some m → 0 < length t
some_characters k m [] e = let none = sym (no_moment k) ∙ e in cc none
some_characters k m (c ∷ t) e = omega arith

moments_kept : (kind : MomentKind) (t : List ℕ) (v : Value) → form_value (form.moment kind) t ≡ Some v → FormKept (form.moment kind) t v
moments_kept kind t v e =
    let f = found moment (moment_value kind t) v e in
    let back = moment_again kind t f.part f.there in
    rw (← f.whole) record {
      again = ap (λ (o : Option Moment). option_map moment o) back;
      graphic = graphic_moment f.part;
      long = λ _. some_characters kind f.part (moment_text f.part) back;
      named = refl;
      of = let w = value_back kind t f.part f.there in (ranges_are kind f.part).0 (w.kind_is, w.ranges);
    }

-- ---- each form
form_kept : (r : Representation) (t : List ℕ) (v : Value) → form_value r t ≡ Some v → FormKept r t v
form_kept (small least count) t v e = whole_kept (small least count) (is_within least count) (λ u. refl) (λ n p. p) (small_again least count) t v e
form_kept unsigned t v e = whole_kept unsigned is_unsigned (λ u. refl) (λ n p. p) (integer_again is_unsigned unsigned_near) t v e
form_kept form.integer t v e = whole_kept form.integer is_integer (λ u. refl) (λ n p. p) (integer_again is_integer integer_near) t v e
form_kept (form.boolean pattern) t v e = boolean_kept pattern t v e
form_kept (form.binary hex) t v e = binary_kept hex t v e
form_kept form.decimal t v e = decimals_kept t v e
form_kept form.float t v e = floats_kept t v e
form_kept (form.moment kind) t v e = moments_kept kind t v e
form_kept (list item) t v e = cc e
form_kept (choice base values) t v e = cc e
form_kept form.text t v e = cc e
form_kept (chars alphabet) t v e = cc e
form_kept (form.name prefixes) t v e = cc e

scalar_is : (r : Representation) (t : List ℕ) (v : Value) → scalar_value r t ≡ Some v → form_value r t ≡ Some v
unfolding scalar_value
scalar_is r t v e = elim (cases_Bool (all_ascii t)) [
  | inl h ↦ rw h at e
  | inr h ↦ let k = rw h at e in cc k
]

scalar_again : (r : Representation) (t : List ℕ) (v : Value) → form_value r t ≡ Some v → all_ascii t ≡ true → scalar_value r t ≡ Some v
unfolding scalar_value
scalar_again r t v e h = rw h e

-- a canonical text that can be seen has no white space to drop
graphic_again : (r : Representation) (v : Value) → form_value r (canonical v) ≡ Some v → all_graphic (canonical v) ≡ true → scalar_value r (trimmed (canonical v)) ≡ Some v
graphic_again r v e h = ap (scalar_value r) (trimmed_solid (canonical v) (graphic_solid (canonical v) h)) ∙ scalar_again r (canonical v) v e (graphic_ascii (canonical v) h)

-- where white space at the ends is dropped
scalar_kept : (r : Representation) (t : List ℕ) (v : Value) → scalar_value r (trimmed t) ≡ Some v → (scalar_value r (trimmed (canonical v)) ≡ Some v) × (IsWord t → IsWord (canonical v)) × (has_text v ≡ true) × IsOf r v
scalar_kept r t v e =
    let k = form_kept r (trimmed t) v (scalar_is r (trimmed t) v e) in (
      graphic_again r v k.again k.graphic,
      λ w. (k.long (subst IsWord (sym (trimmed_solid t w.1)) w), graphic_solid (canonical v) k.graphic),
      k.named,
      k.of,
    )

-- ---- lists
record ValueBefore (o : Option Value) (p : Option (List Value)) (vs : List Value) : Type 0 where
  first : Value
  more : List Value
  first_is : o ≡ Some first
  more_are : p ≡ Some more
  whole : first ∷ more ≡ vs

abbrev several : List Value → Option (List Value)
several vs = Some vs

several_are : (vs ws : List Value) → several vs ≡ several ws → vs ≡ ws
several_are vs ws e = cc

before_is : (o : Option Value) (p : Option (List Value)) (vs : List Value) → value_before o p ≡ Some vs → ValueBefore o p vs
before_is None p vs e = cc e
before_is (Some v) None vs e = cc e
before_is (Some v) (Some ws) vs e = record { first = v; more = ws; first_is = refl; more_are = refl; whole = several_are (v ∷ ws) vs e }

-- the texts of the values of words
record EachKept (r : Representation) (ts : List (List ℕ)) (vs : List Value) : Type 0 where
  again : each_value (λ w. value r w) (texts (values_of vs)) ≡ Some vs
  words : AllWords (texts (values_of vs))
  long : length (texts (values_of vs)) ≡ length ts
  named : all_have_text (values_of vs) ≡ true
  of : AreOf r (values_of vs)
  count : length_of (values_of vs) ≡ length ts

each_kept : (r : Representation) → ((t : List ℕ) (v : Value) → value r t ≡ Some v → Kept r t v)
    → (ts : List (List ℕ)) (vs : List Value) → AllWords ts → each_value (λ w. value r w) ts ≡ Some vs → EachKept r ts vs
each_kept r kept [] vs all e =
    let none : [] ≡ vs = several_are [] vs e in
    rw (← none) record { again = refl; words = tt; long = refl; named = refl; of = tt; count = refl }
each_kept r kept (t ∷ ts) vs (w, all) e =
    let b = before_is (value r t) (each_value (λ w. value r w) ts) vs e in
    let k = kept t b.first b.first_is in
    let m = each_kept r kept ts b.more all b.more_are in
    rw (← b.whole) record {
      again = rw (k.again, m.again) refl;
      words = (k.word w, m.words);
      long = ap suc m.long;
      named = rw (k.named, m.named) refl;
      of = (k.of, m.of);
      count = ap suc m.count;
    }

record Listed (f : List ℕ → Option Value) (t : List ℕ) (v : Value) : Type 0 where
  values : List Value
  few : length (words t) ≤ MOST_ITEMS
  each : each_value f (words t) ≡ Some values
  whole : items (values_of values) ≡ v

listed_is : (f : List ℕ → Option Value) (t : List ℕ) (v : Value) → list_value f t ≡ Some v → Listed f t v
unfolding list_value
listed_is f t v e = elim (cases_Bool (nat_le (length (words t)) MOST_ITEMS)) [
  | inl h ↦
      let m = found (λ (vs : List Value). items (values_of vs)) (each_value f (words t)) v (rw h at e) in
      record { values = m.part; few = grind (arith, nat_tests); each = m.there; whole = m.whole }
  | inr h ↦ let k = rw h at e in cc k
]

word_alone : (t : List ℕ) → IsWord t → words t ≡ t ∷ []
word_alone t w = ap words (sym (append-nil t)) ∙ word_first t [] w.0 w.1 tt

one_text : (vs : List Value) → length (texts (values_of vs)) ≡ 1 → AllWords (texts (values_of vs)) → IsWord (join_with_byte 32 (texts (values_of vs)))
one_text [] long all = absurd (omega arith)
one_text (v ∷ []) long all = all.0
one_text (v ∷ w ∷ vs) long all = absurd (omega arith)

list_kept : (r : Representation) → ((t : List ℕ) (v : Value) → value r t ≡ Some v → Kept r t v) → (t : List ℕ) (v : Value) → list_value (λ w. value r w) t ≡ Some v
    → (list_value (λ w. value r w) (canonical v) ≡ Some v) × (IsWord t → IsWord (canonical v)) × (has_text v ≡ true) × IsOf (list r) v
list_kept r kept t v e =
    let f : List ℕ → Option Value = λ w. value r w in
    let l = listed_is f t v e in
    let k = each_kept r kept (words t) l.values (words_are t) l.each in
    let same : words (join_with_byte 32 (texts (values_of l.values))) ≡ texts (values_of l.values) = words_joined (texts (values_of l.values)) k.words in
    let all : each_value f (words (join_with_byte 32 (texts (values_of l.values)))) ≡ Some l.values = ap (each_value f) same ∙ k.again in
    let count : length (words (join_with_byte 32 (texts (values_of l.values)))) ≡ length (words t) = ap length same ∙ k.long in
    let few = l.few in
    rw (← l.whole) (
      listed f (join_with_byte 32 (texts (values_of l.values))) l.values all (omega (arith, count, few)),
      λ w. one_text l.values (k.long ∙ ap length (word_alone t w)) k.words,
      k.named,
      (let number = k.count in omega (arith, number, few), k.of),
    )

-- ---- enumerations
-- a value of a trimmed text comes back from its canonical text, trimmed too
trimmed_again : (r : Representation) (t : List ℕ) (v : Value) → value r (trimmed t) ≡ Some v → value r (canonical v) ≡ Some v → value r (trimmed (canonical v)) ≡ Some v
unfolding value list_value
trimmed_again form.text t v e again =
    let same : shape.text (trimmed t) ≡ v = given_is (shape.text (trimmed t)) v e in
    rw (← same) (ap (λ (u : List ℕ). given (shape.text u)) (trimmed_twice t))
trimmed_again (chars alphabet) t v e again =
    let same : shape.text (trimmed t) ≡ v = given_is (shape.text (trimmed t)) v e in
    rw (← same) (ap (λ (u : List ℕ). given (shape.text u)) (trimmed_twice t))
trimmed_again (form.name prefixes) t v e again = cc e
trimmed_again (list item) t v e again = rw (words_trimmed (canonical v)) again
trimmed_again (choice base values) t v e again = rw (trimmed_twice (canonical v)) again
trimmed_again r t v e again = rw (trimmed_twice (canonical v)) again

-- ---- every datatype
of_scalar : (r : Representation) (t : List ℕ) (v : Value)
    → ((u : List ℕ) → value r u ≡ scalar_value r (trimmed u))
    → value r t ≡ Some v → Kept r t v
of_scalar r t v scalar e =
    let k = scalar_kept r t v (sym (scalar t) ∙ e) in
    record { again = scalar (canonical v) ∙ k.0; word = k.1; named = k.2; of = k.3 }

pub value_kept : (r : Representation) (t : List ℕ) (v : Value) → value r t ≡ Some v → Kept r t v
unfolding value
value_kept form.text t v e =
    let same : shape.text t ≡ v = given_is (shape.text t) v e in
    rw (← same) record { again = refl; word = λ w. w; named = refl; of = tt }
value_kept (chars alphabet) t v e =
    let same : shape.text t ≡ v = given_is (shape.text t) v e in
    rw (← same) record { again = refl; word = λ w. w; named = refl; of = tt }
value_kept (form.name prefixes) t v e = cc e
value_kept (list item) t v e =
    let k = list_kept item (λ u w h. value_kept item u w h) t v e in
    record { again = k.0; word = k.1; named = k.2; of = k.3 }
value_kept (choice base values) t v e =
    let c = chosen_is values (value base (trimmed t)) v e in
    let k = value_kept base (trimmed t) v c.there in
    record {
      again = ap (chosen values) (trimmed_again base t v c.there k.again) ∙ chosen_again values v c.among;
      word = λ w. k.word (subst IsWord (sym (trimmed_solid t w.1)) w);
      named = k.named;
      of = c.among;
    }
value_kept (small least count) t v e = of_scalar (small least count) t v (λ u. refl) e
value_kept unsigned t v e = of_scalar unsigned t v (λ u. refl) e
value_kept form.integer t v e = of_scalar form.integer t v (λ u. refl) e
value_kept (form.boolean pattern) t v e = of_scalar (form.boolean pattern) t v (λ u. refl) e
value_kept (form.binary hex) t v e = of_scalar (form.binary hex) t v (λ u. refl) e
value_kept form.decimal t v e = of_scalar form.decimal t v (λ u. refl) e
value_kept form.float t v e = of_scalar form.float t v (λ u. refl) e
value_kept (form.moment kind) t v e = of_scalar (form.moment kind) t v (λ u. refl) e

-- ---- from the value
from_scalar : (r : Representation) (v : Value) → ((u : List ℕ) → value r u ≡ scalar_value r (trimmed u)) → form_value r (canonical v) ≡ Some v → all_graphic (canonical v) ≡ true → value r (canonical v) ≡ Some v
from_scalar r v scalar e h = scalar (canonical v) ∙ graphic_again r v e h

from_integer : (r : Representation) (range : Number → Bool) (n : Number)
    → ((u : List ℕ) → value r u ≡ scalar_value r (trimmed u)) → ((u : List ℕ) → form_value r u ≡ option_map integer (integer_in range u))
    → integer_in range (integer_text n) ≡ Some n → value r (integer_text n) ≡ Some (integer n)
from_integer r range n scalar form e = from_scalar r (integer n) scalar (form (integer_text n) ∙ ap (λ (o : Option Number). option_map integer o) e) (graphic_integer n)

narrow_from : (minus : Bool) (whole back : ℕ) → whole < 2 ^ 128 → back < 2 ^ 128 → is_narrow (record { minus = minus; whole = whole; back = back }) ≡ true
narrow_from minus whole back w b = rw (lt-ltb whole (2 ^ 128) w, lt-ltb back (2 ^ 128) b) refl

pub written_read : (r : Representation) (v : Value) → is_plain r ≡ true → IsOf r v → value r (canonical v) ≡ Some v
unfolding value
written_read (small least count) (integer n) plain h = from_integer (small least count) (is_within least count) n (λ u. refl) (λ u. refl) (small_again least count n h.0 h.1)
written_read unsigned (integer n) plain h = from_integer unsigned is_unsigned n (λ u. refl) (λ u. refl) (integer_again is_unsigned unsigned_near n h.0 h.1)
written_read form.integer (integer n) plain h = from_integer form.integer is_integer n (λ u. refl) (λ u. refl) (integer_again is_integer integer_near n h.0 h.1)
written_read (form.boolean pattern) (boolean truth digit) plain h = from_scalar (form.boolean pattern) (boolean truth digit) (λ u. refl) (boolean_again pattern truth digit h) (graphic_boolean truth digit)
written_read (form.binary true) (binary true octets) plain h =
    from_scalar (form.binary true) (binary true octets) (λ u. refl) (ap (λ (o : Option (List ℕ)). option_map (binary true) o) (hex_read octets h.1)) (graphic_binary true octets h.1)
written_read (form.binary false) (binary false octets) plain h =
    let graphic = graphic_binary false octets h.1 in
    let solid : squeezed (base64_text octets) ≡ base64_text octets = squeezed_same (base64_text octets) (graphic_solid (base64_text octets) graphic) in
    from_scalar (form.binary false) (binary false octets) (λ u. refl) (ap (λ (o : Option (List ℕ)). option_map (binary false) o) (ap base64_octets solid ∙ text_read octets h.1)) graphic
written_read (form.binary true) (binary false octets) plain h = absurd (false≢true h.0)
written_read (form.binary false) (binary true octets) plain h = absurd (false≢true (sym h.0))
written_read form.decimal (decimal minus whole back) plain h =
    let d : Decimal = record { minus = minus; whole = whole; back = back } in
    from_scalar form.decimal (of_decimal d) (λ u. refl) (ap (λ (o : Option Decimal). option_map of_decimal o) (decimal_again d (narrow_from minus whole back h.0 h.1))) (graphic_decimals d)
written_read form.float (float mantissa exponent) plain h =
    let f : Float = record { mantissa = mantissa; exponent = exponent } in
    from_scalar form.float (of_float f) (λ u. refl) (ap (λ (o : Option Float). option_map of_float o) (float_again f h)) (graphic_float f)
written_read (form.moment kind) (moment m) plain h =
    let r = (ranges_are kind m).1 h in
    let back : moment_value kind (moment_text m) ≡ Some m = subst (λ (k : MomentKind). moment_value k (moment_text m) ≡ Some m) r.0 (canonical_value m r.1) in
    from_scalar (form.moment kind) (moment m) (λ u. refl) (ap (λ (o : Option Moment). option_map moment o) back) (graphic_moment m)
written_read form.text (shape.text t) plain h = refl
written_read (chars set) (shape.text t) plain h = refl
written_read (list item) v plain h = absurd (false≢true plain)
written_read (choice base values) v plain h = absurd (false≢true plain)
written_read (form.name prefixes) v plain h = absurd (false≢true plain)
written_read r v plain h = absurd h
