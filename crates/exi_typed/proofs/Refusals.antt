-- What is refused of names and strings: where reading fails, and there alone.
use Rattle.std.proofs.Common.{◌≡◌, ◌⊎◌, inl, inr, ℕ, zero, suc, ◌+◌, ◌*◌, ◌-◌, ◌%◌, ◌^◌, ◌<◌, Bool, true, false, cond, eqb, ltb, List, [], ◌∷◌, ◌++◌, length, drop, Option, Some, None, Result, Ok, Err, refl, sym, ap, ◌∙◌, subst, append_assoc, arith}
use Rattle.std.proofs.lemmas.Bool.{cases_Bool, le-ltb, lt-ltb, ltb-false, ltb-true}
use Rattle.std.proofs.lemmas.List.{drop-drop, drop_at, length-append}
use Rattle.exi_bits.specs.declared.align.Align.{Align}
use Rattle.exi_bits.specs.declared.align.Align.TheVariants as align
use Rattle.exi_bits.specs.declared.fault.Fault.{Fault}
use Rattle.exi_bits.specs.declared.fault.Kind.{Kind}
use Rattle.exi_bits.specs.declared.fault.Kind.TheVariants as kind
use Rattle.exi_bits.specs.Bits.{Spot, IsAligned, IsBytes, bits, left, moved, number_at, rest, taken, value_at as number_value}
use Rattle.exi_bits.specs.Repeat.{Reader, times}
use Rattle.exi_bits.specs.Unsigned.{◌>>=◌, at_spot, below_at, fault_at, field_at, groups_at, narrow, narrow_groups_at, needed, unsigned_at}
use Rattle.exi_bits.specs.Widths.{width_for}
use Rattle.exi_bits.proofs.InBytes.{number_read, number_spelled}
use Rattle.exi_bits.proofs.UnsignedLaws.{cut_short, short_when, wide_too_wide, wide_when}
use Rattle.exi_items.specs.Charges.{text_charge}
use Rattle.exi_items.specs.Spellings.{Each, SpellsUnsigned}
use Rattle.exi_items.proofs.Items.{Item, item_below, item_spelled, item_unsigned}
use Rattle.exi_meter.specs.Metering.{Metering, text_fits, with_text}
use Rattle.exi_names.specs.Characters.{is_xml_char}
use Rattle.exi_names.specs.declared.names.NameId.{NameId}
use Rattle.exi_names.specs.Seen.{Value}
use Rattle.exi_names.specs.Seen as value
use Rattle.exi_tables.specs.Partitions.{Partitions, live_at, locals, prefixes, uris, values, with_local, with_prefix, with_uri, with_value}
use Rattle.exi_text.specs.Literals.{char_at, code_at}
use Rattle.exi_text.specs.Spelled.{SpellsChars}
use Rattle.exi_text.proofs.Letters.{item_char}
use Rattle.exi_typed.specs.Charging.{metered}
use Rattle.exi_typed.specs.Items.{Tabled, item_at, qualified, string}
use Rattle.exi_typed.specs.Laws.{Spelling}
use Rattle.exi_typed.specs.NameValues.{name_value_at}
use Rattle.exi_typed.specs.ReadStates.{Context, ContextReader, Failure, ReadState, at_spot_of, failing}
use Rattle.exi_typed.specs.Refused.{IsCharRefused, IsFrontRefused, IsNumberOver, IsNumberRefused, IsOneCharRefused, IsOverText, IsRefusal, IsTakenRefused, IsUnsignedRefused, ReadingsAreRefused, Refusing, RefusesBehind, RefusesBy, RefusesDeclaration, RefusesHit, RefusesIndexed, RefusesItem, RefusesKnown, RefusesLiteral, RefusesLocal, RefusesMissed, RefusesName, RefusesNameUnder, RefusesNameValue, RefusesNewPrefix, RefusesNext, RefusesPlaced, RefusesPrefix, RefusesPrefixIn, RefusesUri, RefusesValue, SpellsBelow, SpellsPlaced, wrong}
use Rattle.exi_typed.specs.Spelled.{SpellsLocal, SpellsNewPrefix, SpellsUri}
use Rattle.exi_typed.specs.Strings.{Declaration, Growth, Named, Partition, charged_at, declaration_at, declared_under, hit_at, indexed_at, known_at, listed, literal_at, local_at, missed_at, name_at, name_under, no_growth, own_values, place_in, placed_at, prefix_at, told_prefix, uri_at, value_at}
use Rattle.exi_typed.proofs.ContextItems.{ContextItem, IsTold, at_start, context, fine, grown, in_words, missed_charges, not_failing, placed, read_state, told, was_taken, where_taken}
use Rattle.exi_typed.proofs.Texts.{Below, below_fits, indexed_in, item_local, item_uri}

-- ---- results that fail
abbrev pub fails : {X : Type 0} → Failure → Result X Failure
fails e = Err e

abbrev faulty : {X : Type 0} → Fault → Result X Fault
faulty f = Err f

fails_is : {X : Type 0} (e f : Failure) → fails {X = X} e ≡ fails f → e ≡ f
fails_is e f h = cc

faulty_is : {X : Type 0} (e f : Fault) → faulty {X = X} e ≡ faulty f → e ≡ f
faulty_is e f h = cc

no_told : {X : Type 0} (x : X) (e : Failure) → told x ≡ fails e → ⊥
no_told x e h = cc

no_fine : {X : Type 0} (x : X) (f : Fault) → fine x ≡ faulty f → ⊥
no_fine x f h = cc

bind_fails : {X Y : Type 0} (r : Result X Failure) (f : X → Result Y Failure) (e : Failure) → (r >>= f) ≡ fails e → (r ≡ fails e) ⊎ ((x : X) × (r ≡ told x) × (f x ≡ fails e))
bind_fails (Ok x) f e h = inr (x, refl, h)
bind_fails {X} {Y} (Err d) f e h = inl (ap (λ (z : Failure). fails {X = X} z) (fails_is {X = Y} d e h))

bind_faulty : {X Y : Type 0} (r : Result X Fault) (h : X → Result Y Fault) (f : Fault) → (r >>= h) ≡ faulty f → (r ≡ faulty f) ⊎ ((x : X) × (r ≡ fine x) × (h x ≡ faulty f))
bind_faulty (Ok x) h f e = inr (x, refl, e)
bind_faulty {X} {Y} (Err d) h f e = inl (ap (λ (z : Fault). faulty {X = X} z) (faulty_is {X = Y} d f e))

failing_fails : {X : Type 0} (m : Metering) (r : Result X Fault) (e : Failure) → failing m r ≡ fails e → (f : Fault) × (r ≡ faulty f) × (e ≡ record { fault = f; meter = m })
failing_fails m (Ok x) e h = absurd (no_told x e h)
failing_fails {X} m (Err f) e h = (f, refl, sym (fails_is {X = X} (record { fault = f; meter = m }) e h))

-- ---- places
same_spot : (s t : Spot) (n : ℕ) → t.bytes ≡ s.bytes → t.place ≡ s.place + n → t ≡ moved s n
same_spot s t n e f = ap (λ (b : List ℕ). record { bytes = b; place = t.place }) e ∙ ap (λ (p : ℕ). record { bytes = s.bytes; place = p }) f

still : (s : Spot) → moved s 0 ≡ s
still s = let e : s.place + 0 ≡ s.place = omega arith in ap (λ (p : ℕ). record { bytes = s.bytes; place = p }) e

twice : (s : Spot) (i j n : ℕ) → n ≡ i + j → moved (moved s i) j ≡ moved s n
twice s i j n h = let e : s.place + i + j ≡ s.place + n = omega (arith, h) in ap (λ (p : ℕ). record { bytes = s.bytes; place = p }) e

aligned_on : (a : Align) (s : Spot) (n : ℕ) → IsAligned a s → (a ≡ align.Bytes → n % 8 ≡ 0) → IsAligned a (moved s n)
aligned_on a s n al whole e =
    let p : s.place % 8 ≡ 0 = al e in
    let q : n % 8 ≡ 0 = whole e in
    omega arith

-- ---- bits
record BitsRefused {X : Type 0} (a : Align) (one : Reader X) (Bits : Spot → Kind → Type 0) : Type 0 where
  fails : (s : Spot) (f : Fault) → IsBytes s.bytes → IsAligned a s → one s ≡ faulty f → (k : Kind) × (f ≡ record { kind = k; bit = s.place }) × Bits s k
  again : (s : Spot) (k : Kind) → IsBytes s.bytes → IsAligned a s → Bits s k → one s ≡ faulty (record { kind = k; bit = s.place })

abbrev no_number : Kind → Result (ℕ × Spot) Kind
no_number k = Err k

abbrev IsEither : Kind → Type 0
IsEither k = (k ≡ kind.Short) ⊎ (k ≡ kind.TooWide)

kind_is : (j k : Kind) → no_number j ≡ no_number k → j ≡ k
kind_is j k h = cc

kind_by : (b : Bool) (x : ℕ × Spot) (k : Kind) (r : Result (ℕ × Spot) Kind) → cond b (Ok x) r ≡ no_number k → r ≡ no_number k
kind_by true x k r h = absurd cc
kind_by false x k r h = h

kind_bound : (r : Result (ℕ × Spot) Kind) (f : ℕ × Spot → ℕ × Spot) (k : Kind) → (r >>= λ x. Ok (f x)) ≡ no_number k → r ≡ no_number k
kind_bound (Ok x) f k h = absurd cc
kind_bound (Err j) f k h = ap no_number (kind_is j k h)

groups_kind : (most : ℕ) (s : Spot) (k : Kind) → groups_at most s ≡ no_number k → IsEither k
unfolding groups_at
groups_kind zero s k h = inr (sym (kind_is kind.TooWide k h))
groups_kind (suc most) s k h = by_octet (λ t g. groups_kind most t k g) (number_at 8 align.Bits s) h
  where
    by_octet : ((t : Spot) → groups_at most t ≡ no_number k → IsEither k) → (o : Option (ℕ × Spot)) → (needed o >>= λ octet. cond (ltb octet.0 128) (Ok octet) (groups_at most octet.1 >>= λ more. Ok (octet.0 - 128 + 128 * more.0, more.1))) ≡ no_number k → IsEither k
    by_octet more None g = inl (sym (kind_is kind.Short k g))
    by_octet more (Some octet) g = more octet.1 (kind_bound (groups_at most octet.1) (λ x. (octet.0 - 128 + 128 * x.0, x.1)) k (kind_by (ltb octet.0 128) octet k (groups_at most octet.1 >>= λ x. Ok (octet.0 - 128 + 128 * x.0, x.1)) g))

narrow_kind : (x : ℕ × Spot) (b : Bool) (k : Kind) → cond b (Ok x) (no_number kind.TooWide) ≡ no_number k → IsEither k
narrow_kind x true k h = absurd cc
narrow_kind x false k h = inr (sym (kind_is kind.TooWide k h))

narrowed_kind : (r : Result (ℕ × Spot) Kind) (k : Kind) → ((j : Kind) → r ≡ no_number j → IsEither j) → (r >>= narrow) ≡ no_number k → IsEither k
narrowed_kind (Ok x) k more h = narrow_kind x (ltb x.0 (2 ^ 128)) k h
narrowed_kind (Err j) k more h = more k (ap no_number (kind_is j k h))

at_spot_kind : (s : Spot) (r : Result (ℕ × Spot) Kind) (f : Fault) → at_spot s r ≡ faulty f → (k : Kind) × (f ≡ record { kind = k; bit = s.place }) × (r ≡ no_number k)
at_spot_kind s (Ok x) f h = absurd (no_fine x f h)
at_spot_kind s (Err k) f h = (k, sym (faulty_is {X = ℕ × Spot} (record { kind = k; bit = s.place }) f h), refl)

unsigned_kind : (s : Spot) (f : Fault) → unsigned_at s ≡ faulty f → (k : Kind) × (f ≡ record { kind = k; bit = s.place }) × IsEither k
unfolding unsigned_at narrow_groups_at
unsigned_kind s f h =
    let k = at_spot_kind s (groups_at 19 s >>= narrow) f h in
    (k.0, k.1, narrowed_kind (groups_at 19 s) k.0 (λ j g. groups_kind 19 s j g) k.2)

unsigned_refused : (a : Align) → BitsRefused a unsigned_at IsUnsignedRefused
unsigned_refused a = record { fails = failed; again = again_is }
  where
    at_kind : (s : Spot) (f : Fault) (j k : Kind) → unsigned_at s ≡ faulty f → f ≡ record { kind = j; bit = s.place } → j ≡ k → unsigned_at s ≡ fault_at k s
    at_kind s f j k h e g = h ∙ ap (λ (z : Fault). faulty {X = ℕ × Spot} z) e ∙ ap (λ (z : Kind). fault_at {X = ℕ × Spot} z s) g

    failed : (s : Spot) (f : Fault) → IsBytes s.bytes → IsAligned a s → unsigned_at s ≡ faulty f → (k : Kind) × (f ≡ record { kind = k; bit = s.place }) × IsUnsignedRefused s k
    failed s f octets al h =
        let k = unsigned_kind s f h in
        elim k.2 [
          | inl short ↦ (k.0, k.1, inl (short, short_when s (at_kind s f k.0 kind.Short h k.1 short)))
          | inr broad ↦ (k.0, k.1, inr (broad, wide_when s (at_kind s f k.0 kind.TooWide h k.1 broad)))
        ]

    again_is : (s : Spot) (k : Kind) → IsBytes s.bytes → IsAligned a s → IsUnsignedRefused s k → unsigned_at s ≡ faulty (record { kind = k; bit = s.place })
    again_is s k octets al (inl h) = cut_short s h.1 ∙ ap (λ (z : Kind). fault_at {X = ℕ × Spot} z s) (sym h.0)
    again_is s k octets al (inr h) = wide_too_wide s h.1 ∙ ap (λ (z : Kind). fault_at {X = ℕ × Spot} z s) (sym h.0)

-- ---- numbers
module _ (count : ℕ) (a : Align) (bad : Kind) where
  abbrev w : ℕ
  w = width_for count

  abbrev found : Spot → Option (ℕ × Spot) → Result (ℕ × Spot) Fault
  found s o = at_spot s (needed o) >>= λ x. cond (ltb x.0 count) (fine x) (fault_at bad s)

  over : (s : Spot) (f : Fault) (x : ℕ × Spot) → IsBytes s.bytes → IsAligned a s → number_at w a s ≡ Some x → cond (ltb x.0 count) (fine x) (fault_at bad s) ≡ faulty f → (k : Kind) × (f ≡ record { kind = k; bit = s.place }) × IsNumberRefused count a bad s k
  over s f x octets al n e = elim (cases_Bool (ltb x.0 count)) [
    | inl yes_is ↦ absurd (no_fine x f (subst (λ (b : Bool). cond b (fine x) (fault_at bad s) ≡ faulty f) yes_is e))
    | inr no_is ↦ (
        let q = number_spelled w x.0 a s x.1 octets al n in (
          bad,
          sym (faulty_is {X = ℕ × Spot} (record { kind = bad; bit = s.place }) f (subst (λ (b : Bool). cond b (fine x) (fault_at bad s) ≡ faulty f) no_is e)),
          inr (refl, record { value = x.0; narrow = q.1; more = rest x.1; stands = q.0.parts; over = ltb-false x.0 count no_is }),
        )
        )
  ]

  abbrev there : Spot → ℕ × Spot
  there s = (number_value w a s, moved s (taken w a))

  by_number : (s : Spot) (f : Fault) (o : Option (ℕ × Spot)) → IsBytes s.bytes → IsAligned a s → number_at w a s ≡ o → found s o ≡ faulty f → (k : Kind) × (f ≡ record { kind = k; bit = s.place }) × IsNumberRefused count a bad s k
  unfolding number_at
  by_number s f (Some x) octets al n e = over s f x octets al n e
  by_number s f None octets al n e = elim (cases_Bool (ltb (left s) (taken w a))) [
    | inl yes_is ↦ (kind.Short, sym (faulty_is {X = ℕ × Spot} (record { kind = kind.Short; bit = s.place }) f e), inl (refl, ltb-true (left s) (taken w a) yes_is))
    | inr no_is ↦ absurd (some_none (there s) (subst (λ (b : Bool). cond b None (Some (there s)) ≡ None) no_is n))
  ]
    where
      some_none : (x : ℕ × Spot) → Some x ≡ None → ⊥
      some_none x z = cc

  number_refused : BitsRefused a (below_at count a bad) (IsNumberRefused count a bad)
  unfolding below_at field_at number_at
  number_refused = record { fails = λ s f octets al h. by_number s f (number_at w a s) octets al refl h; again = again_is }
    where
      again_is : (s : Spot) (k : Kind) → IsBytes s.bytes → IsAligned a s → IsNumberRefused count a bad s k → found s (number_at w a s) ≡ faulty (record { kind = k; bit = s.place })
      again_is s k octets al (inl h) = rw (lt-ltb (left s) (taken w a) h.1) (ap (λ (z : Kind). fault_at {X = ℕ × Spot} z s) (sym h.0))
      again_is s k octets al (inr h) = past s k h.0 h.1 (number_read w h.1.value a s h.1.more octets al h.1.narrow h.1.stands)
        where
          past : (s : Spot) (k : Kind) → k ≡ bad → (n : IsNumberOver count a s) → number_at w a s ≡ Some (n.value, moved s (taken w a)) → found s (number_at w a s) ≡ faulty (record { kind = k; bit = s.place })
          past s k e n r = rw (r, le-ltb n.value count n.over) (ap (λ (z : Kind). fault_at {X = ℕ × Spot} z s) (sym e))

  item_number : Item a (below_at count a bad) (SpellsBelow count a)
  item_number = item_spelled a (below_at count a bad) (Below w a count) (SpellsBelow count a) (λ v text h. (ltb-true v count h.0, h.1.0)) (λ v text h. (lt-ltb v count h.0, (h.1, below_fits count v a h.0))) (item_below count a bad)

-- ---- characters
char_refused : (a : Align) → BitsRefused a (char_at None a) IsCharRefused
unfolding code_at
char_refused a = record { fails = failed; again = again_is }
  where
    by_code : (s : Spot) (f : Fault) (c : ℕ × Spot) (b : Bool) → IsBytes s.bytes → IsAligned a s → unsigned_at s ≡ fine c → is_xml_char c.0 ≡ b → cond b (fine c) (fault_at kind.BadChar s) ≡ faulty f → (k : Kind) × (f ≡ record { kind = k; bit = s.place }) × IsCharRefused s k
    by_code s f c true octets al r e h = absurd (no_fine c f h)
    by_code s f c false octets al r e h =
        let k = (item_unsigned a).takes c.0 s c.1 octets al r in
        (kind.BadChar, sym (faulty_is {X = ℕ × Spot} (record { kind = kind.BadChar; bit = s.place }) f h), inr (refl, record { code = c.0; text = k.text; more = rest c.1; spelled = k.spelled; stands = k.front.parts; none = e }))

    failed : (s : Spot) (f : Fault) → IsBytes s.bytes → IsAligned a s → (unsigned_at s >>= λ code. cond (is_xml_char code.0) (fine code) (fault_at kind.BadChar s)) ≡ faulty f → (k : Kind) × (f ≡ record { kind = k; bit = s.place }) × IsCharRefused s k
    failed s f octets al h = elim (bind_faulty (unsigned_at s) (λ (code : ℕ × Spot). cond (is_xml_char code.0) (fine code) (fault_at kind.BadChar s)) f h) [
      | inl u ↦ (let k = (unsigned_refused a).fails s f octets al u in (k.0, k.1, inl k.2))
      | inr u ↦ by_code s f u.0 (is_xml_char u.0.0) octets al u.1 refl u.2
    ]

    again_is : (s : Spot) (k : Kind) → IsBytes s.bytes → IsAligned a s → IsCharRefused s k → (unsigned_at s >>= λ code. cond (is_xml_char code.0) (fine code) (fault_at kind.BadChar s)) ≡ faulty (record { kind = k; bit = s.place })
    again_is s k octets al (inl h) = rw ((unsigned_refused a).again s k octets al h) refl
    again_is s k octets al (inr h) = rw ((item_unsigned a).again h.1.code h.1.text s h.1.more octets al h.1.spelled h.1.stands, h.1.none) (ap (λ (z : Kind). fault_at {X = ℕ × Spot} z s) (sym h.0))

rest_moved : (s : Spot) (text more : List Bool) → rest s ≡ text ++ more → rest (moved s (length text)) ≡ more
rest_moved s text more e = sym (drop-drop (length text) s.place (bits s.bytes)) ∙ ap (λ (x : List Bool). drop (length text) x) e ∙ drop_at text more (length text) refl

module _ (a : Align) where
  some_of : (count : ℕ) (s : Spot) (f : Fault) → IsBytes s.bytes → IsAligned a s → times (char_at None a) count s ≡ faulty f → IsOneCharRefused count a s f
  unfolding times Each
  some_of zero s f octets al h = absurd (no_fine ([], s) f h)
  some_of (suc n) s f octets al h = elim (bind_faulty (char_at None a s) (λ (first : ℕ × Spot). times (char_at None a) n first.1 >>= λ others. fine {X = List ℕ × Spot} (first.0 ∷ others.0, others.1)) f h) [
    | inl u ↦ (
        let k = (char_refused a).fails s f octets al u in
        record {
          before = [];
          text = [];
          more = rest s;
          few = omega arith;
          spelled = refl;
          stands = refl;
          kind = k.0;
          refused = subst (λ (t : Spot). IsCharRefused t k.0) (sym (still s)) k.2;
          is = k.1 ∙ ap (λ (p : ℕ). record { kind = k.0; bit = p }) (let e : s.place ≡ s.place + 0 = omega arith in e);
        }
        )
    | inr u ↦ elim (bind_faulty (times (char_at None a) n u.0.1) (λ (others : List ℕ × Spot). fine {X = List ℕ × Spot} (u.0.0 ∷ others.0, others.1)) f u.2) [
      | inl v ↦ behind u.0 u.1 (some_of n u.0.1 f ((item_char None a).takes u.0.0 s u.0.1 octets al u.1).fits ((item_char None a).takes u.0.0 s u.0.1 octets al u.1).aligned v)
      | inr v ↦ absurd (no_fine (u.0.0 ∷ v.0.0, v.0.1) f v.2)
    ]
  ]
    where
      behind : (x : ℕ × Spot) → char_at None a s ≡ fine x → IsOneCharRefused n a x.1 f → IsOneCharRefused (suc n) a s f
      behind x r o =
          let k = (item_char None a).takes x.0 s x.1 octets al r in
          let t : x.1 ≡ moved s (length k.text) = same_spot s x.1 (length k.text) k.front.bytes k.front.place in
          let long : length (k.text ++ o.text) ≡ length k.text + length o.text = length-append k.text o.text in
          let there : moved x.1 (length o.text) ≡ moved s (length (k.text ++ o.text)) = ap (λ (z : Spot). moved z (length o.text)) t ∙ twice s (length k.text) (length o.text) (length (k.text ++ o.text)) long in
          record {
            before = x.0 ∷ o.before;
            text = k.text ++ o.text;
            more = o.more;
            few = (let lt = o.few in omega arith);
            spelled = record { first = k.text; second = o.text; parts = refl; front = k.spelled; behind = o.spelled };
            stands = k.front.parts ∙ ap (λ (z : List Bool). k.text ++ z) o.stands ∙ sym (append_assoc k.text o.text o.more);
            kind = o.kind;
            refused = subst (λ (z : Spot). IsCharRefused z o.kind) there o.refused;
            is = o.is ∙ ap (λ (z : Spot). record { kind = o.kind; bit = z.place }) there;
          }

  none_of : (count : ℕ) (s : Spot) (before : List ℕ) (text more : List Bool) (k : Kind) → IsBytes s.bytes → IsAligned a s → length before < count → SpellsChars None a before text → rest s ≡ text ++ more → IsCharRefused (moved s (length text)) k
      → times (char_at None a) count s ≡ faulty (record { kind = k; bit = s.place + length text })
  unfolding times Each
  none_of zero s before text more k octets al few spelled stands refused = absurd (omega arith)
  none_of (suc n) s [] text more k octets al few spelled stands refused =
      let e : moved s (length text) ≡ s = ap (λ (t : List Bool). moved s (length t)) spelled ∙ still s in
      let r = (char_refused a).again s k octets al (subst (λ (t : Spot). IsCharRefused t k) e refused) in
      rw r (ap (λ (t : Spot). faulty {X = List ℕ × Spot} (record { kind = k; bit = t.place })) (sym e))
  none_of (suc n) s (c ∷ cs) text more k octets al few h stands refused =
      let parts : rest s ≡ h.first ++ (h.second ++ more) = stands ∙ ap (λ (z : List Bool). z ++ more) h.parts ∙ append_assoc h.first h.second more in
      let r1 : char_at None a s ≡ fine (c, moved s (length h.first)) = (item_char None a).again c h.first s (h.second ++ more) octets al h.front parts in
      let al' : IsAligned a (moved s (length h.first)) = aligned_on a s (length h.first) al ((item_char None a).whole c h.first h.front) in
      let long : length text ≡ length h.first + length h.second = ap (λ (z : List Bool). length z) h.parts ∙ length-append h.first h.second in
      let there : moved (moved s (length h.first)) (length h.second) ≡ moved s (length text) = twice s (length h.first) (length h.second) (length text) long in
      let r2 = none_of n (moved s (length h.first)) cs h.second more k octets al' (omega arith) h.behind (rest_moved s h.first (h.second ++ more) parts) (subst (λ (t : Spot). IsCharRefused t k) (sym there) refused) in
      rw (r1, r2) (ap (λ (t : Spot). faulty {X = List ℕ × Spot} (record { kind = k; bit = t.place })) there)

-- ---- put together
module _ (a : Align) where
  pub told_refusal : {X Y : Type 0} (read : ContextReader X) (Ref : Refusing) (f : X → ReadState → Y) → IsRefusal a read Ref → IsRefusal {X = Y} a (λ c. read c >>= λ x. told {X = Y × ReadState} (f x.0 x.1, x.1)) Ref
  told_refusal {X} {Y} read Ref f r = record { fails = failed; again = λ w s e octets al h. (let k = r.again w s e octets al h in rw k refl) }
    where
      failed : (w : Context) (s : Spot) (e : Failure) → IsBytes s.bytes → IsAligned a s → (read (read_state s w) >>= λ x. told {X = Y × ReadState} (f x.0 x.1, x.1)) ≡ fails e → Ref w s e
      failed w s e octets al h = elim (bind_fails (read (read_state s w)) (λ (x : X × ReadState). told {X = Y × ReadState} (f x.0 x.1, x.1)) e h) [
        | inl u ↦ r.fails w s e octets al u
        | inr u ↦ absurd (no_told (f u.0.0 u.0.1, u.0.1) e u.2)
      ]

  pub start_refusal : {X : Type 0} (read : Spot → Context → ContextReader X) (Ref : Spot → Context → Refusing) → ((s : Spot) (w : Context) → IsRefusal a (read s w) (Ref s w)) → IsRefusal {X = X} a (λ c. read c.spot c.context c) (λ w s. Ref s w w s)
  start_refusal read Ref r = record { fails = λ w s e octets al h. (r s w).fails w s e octets al h; again = λ w s e octets al h. (r s w).again w s e octets al h }

  by_refusal : {X : Type 0} (b : Bool) (one other : ContextReader X) (One Other : Refusing) → IsRefusal a one One → IsRefusal a other Other → IsRefusal {X = X} a (λ c. cond b (one c) (other c)) (RefusesBy b One Other)
  by_refusal true one other One Other i j = i
  by_refusal false one other One Other i j = j

  behind_refusal : {X Y : Type 0} (one : Reader X) (two : X → ContextReader Y) (Bits : Spot → Kind → Type 0) (First : X → List Bool → Type 0) (Second : X → Refusing) → BitsRefused a one Bits → Item a one First → ((x : X) → IsRefusal a (two x) (Second x))
      → IsRefusal {X = Y} a (λ c. failing c.context.meter (one c.spot) >>= λ x. two x.0 (at_spot_of c x.1)) (RefusesBehind Bits First Second)
  behind_refusal {X} {Y} one two Bits First Second bits i j = record { fails = failed; again = again_is }
    where
      failed : (w : Context) (s : Spot) (e : Failure) → IsBytes s.bytes → IsAligned a s → (failing w.meter (one s) >>= λ x. two x.0 (read_state x.1 w)) ≡ fails e → RefusesBehind Bits First Second w s e
      failed w s e octets al h = elim (bind_fails (failing w.meter (one s)) (λ (x : X × Spot). two x.0 (read_state x.1 w)) e h) [
        | inl u ↦ (
            let f = failing_fails w.meter (one s) e u in
            let k = bits.fails s f.0 octets al f.1 in
            inl (record { kind = k.0; refused = k.2; is = f.2 ∙ ap (λ (z : Fault). record { fault = z; meter = w.meter }) k.1 })
            )
        | inr u ↦ (
            let k = i.takes u.0.0 s u.0.1 octets al (not_failing w.meter (one s) u.0 u.1) in
            let t : u.0.1 ≡ moved s (length k.text) = same_spot s u.0.1 (length k.text) k.front.bytes k.front.place in
            let r = (j u.0.0).fails w u.0.1 e k.fits k.aligned u.2 in
            inr (record { value = u.0.0; text = k.text; more = rest u.0.1; stands = k.front.parts; spelled = k.spelled; refused = subst (λ (z : Spot). Second u.0.0 w z e) t r })
            )
      ]

      again_is : (w : Context) (s : Spot) (e : Failure) → IsBytes s.bytes → IsAligned a s → RefusesBehind Bits First Second w s e → (failing w.meter (one s) >>= λ x. two x.0 (read_state x.1 w)) ≡ fails e
      again_is w s e octets al (inl h) = rw (bits.again s h.kind octets al h.refused) (ap (λ (z : Failure). fails z) (sym h.is))
      again_is w s e octets al (inr h) =
          let r1 = i.again h.value h.text s h.more octets al h.spelled h.stands in
          let al' : IsAligned a (moved s (length h.text)) = aligned_on a s (length h.text) al (i.whole h.value h.text h.spelled) in
          let r2 = (j h.value).again w (moved s (length h.text)) e octets al' h.refused in
          rw (r1, r2) refl

  pub next_refusal : {X Y : Type 0} (one : ContextReader X) (two : X → ContextReader Y) (One : Refusing) (First : Spelling X) (Second : X → Refusing) → IsRefusal a one One → ContextItem a one First → ((x : X) → IsRefusal a (two x) (Second x))
      → IsRefusal {X = Y} a (λ c. one c >>= λ x. two x.0 x.1) (RefusesNext One First Second)
  next_refusal {X} {Y} one two One First Second r i j = record { fails = failed; again = again_is }
    where
      failed : (w : Context) (s : Spot) (e : Failure) → IsBytes s.bytes → IsAligned a s → (one (read_state s w) >>= λ x. two x.0 x.1) ≡ fails e → RefusesNext One First Second w s e
      failed w s e octets al h = elim (bind_fails (one (read_state s w)) (λ (x : X × ReadState). two x.0 x.1) e h) [
        | inl u ↦ inl (r.fails w s e octets al u)
        | inr u ↦ (
            let k = i.takes u.0.0 (read_state s w) u.0.1 octets al u.1 in
            let t : u.0.1.spot ≡ moved s (length k.text) = same_spot s u.0.1.spot (length k.text) k.front.bytes k.front.place in
            let q = (j u.0.0).fails u.0.1.context u.0.1.spot e k.fits k.aligned u.2 in
            inr (record {
              item = u.0.0;
              between = u.0.1.context;
              charges = k.charges;
              text = k.text;
              more = rest u.0.1.spot;
              stands = k.front.parts;
              spelled = k.spelled;
              taken = was_taken a First one i u.0.0 (read_state s w) u.0.1 octets al u.1 k;
              refused = subst (λ (z : Spot). Second u.0.0 u.0.1.context z e) t q;
            })
            )
      ]

      again_is : (w : Context) (s : Spot) (e : Failure) → IsBytes s.bytes → IsAligned a s → RefusesNext One First Second w s e → (one (read_state s w) >>= λ x. two x.0 x.1) ≡ fails e
      again_is w s e octets al (inl h) = (let k = r.again w s e octets al h in rw k refl)
      again_is w s e octets al (inr h) =
          let r1 = where_taken a First one i h.item s w h.between h.charges h.text h.more octets al h.spelled h.taken h.stands in
          let al' : IsAligned a (moved s (length h.text)) = aligned_on a s (length h.text) al (i.whole h.item w.tables h.between.tables h.charges h.text h.spelled) in
          let r2 = (j h.item).again h.between (moved s (length h.text)) e octets al' h.refused in
          rw (r1, r2) refl

  -- so many units first
  paying_refusal : {X : Type 0} (units : ℕ) (read : ContextReader X) (Ref : Refusing) → IsRefusal a read Ref
      → IsRefusal {X = X} a (λ c. failing c.context.meter (text_charge units c.spot.place c.context.meter) >>= λ meter. read (read_state c.spot (context meter c.context.tables))) (λ w s e. IsOverText units w s e ⊎ IsTakenRefused units Ref w s e)
  unfolding text_charge
  paying_refusal {X} units read Ref r = record { fails = λ w s e octets al h. by_fit w s e octets al (text_fits w.meter units) refl h; again = again_is }
    where
      limit : Spot → Fault
      limit s = record { kind = kind.TextLimit; bit = s.place }

      by_fit : (w : Context) (s : Spot) (e : Failure) → IsBytes s.bytes → IsAligned a s → (b : Bool) → text_fits w.meter units ≡ b
          → (failing w.meter (cond b (Ok (with_text w.meter units)) (Err (record { kind = kind.TextLimit; bit = s.place }))) >>= λ meter. read (read_state s (context meter w.tables))) ≡ fails e → IsOverText units w s e ⊎ IsTakenRefused units Ref w s e
      by_fit w s e octets al true f h = inr (record { fits = f; refused = r.fails (context (with_text w.meter units) w.tables) s e octets al h })
      by_fit w s e octets al false f h = inl (record { over = f; is = sym (fails_is {X = X × ReadState} (wrong kind.TextLimit s.place w.meter) e h) })

      again_is : (w : Context) (s : Spot) (e : Failure) → IsBytes s.bytes → IsAligned a s → IsOverText units w s e ⊎ IsTakenRefused units Ref w s e
          → (failing w.meter (cond (text_fits w.meter units) (Ok (with_text w.meter units)) (Err (record { kind = kind.TextLimit; bit = s.place }))) >>= λ meter. read (read_state s (context meter w.tables))) ≡ fails e
      again_is w s e octets al (inl h) = rw h.over (ap (λ (z : Failure). fails z) (sym h.is))
      again_is w s e octets al (inr h) = rw h.fits (r.again (context (with_text w.meter units) w.tables) s e octets al h.refused)

  charged_refusal : (x : List ℕ) → IsRefusal {X = List ℕ} a (charged_at x) (IsOverText (length x))
  unfolding charged_at text_charge
  charged_refusal x = record { fails = λ w s e octets al h. by_fit w s e (text_fits w.meter (length x)) refl h; again = λ w s e octets al h. rw h.over (ap (λ (z : Failure). fails z) (sym h.is)) }
    where
      by_fit : (w : Context) (s : Spot) (e : Failure) (b : Bool) → text_fits w.meter (length x) ≡ b
          → (failing w.meter (cond b (Ok (with_text w.meter (length x))) (Err (record { kind = kind.TextLimit; bit = s.place }))) >>= λ meter. told {X = List ℕ × ReadState} (x, read_state s (context meter w.tables))) ≡ fails e → IsOverText (length x) w s e
      by_fit w s e true f h = absurd (no_told (x, read_state s (context (with_text w.meter (length x)) w.tables)) e h)
      by_fit w s e false f h = record { over = f; is = sym (fails_is {X = List ℕ × ReadState} (wrong kind.TextLimit s.place w.meter) e h) }

  placed_refusal : (t : Spot) (o : Option (List ℕ)) → IsRefusal {X = List ℕ} a (placed_at t o) (RefusesPlaced t o)
  placed_refusal t (Some x) = record { fails = λ w s e octets al h. (charged_refusal x).fails w s e octets al h; again = λ w s e octets al h. (charged_refusal x).again w s e octets al h }
  placed_refusal t None = record { fails = λ w s e octets al h. sym (fails_is {X = List ℕ × ReadState} (wrong kind.BadPlace t.place w.meter) e h); again = λ w s e octets al h. ap (λ (z : Failure). fails z) (sym h) }

  missed_refusal : (grow : Growth) (count : ℕ) → IsRefusal {X = List ℕ} a (missed_at None a grow count) (RefusesMissed a count)
  missed_refusal grow count = record { fails = λ w s e octets al h. by_fit w s e octets al (text_fits w.meter count) refl (times (char_at None a) count s) refl (sym (missed_charges None a grow count s w.tables w.meter) ∙ h); again = again_is }
    where
      by_fit : (w : Context) (s : Spot) (e : Failure) → IsBytes s.bytes → IsAligned a s → (b : Bool) → text_fits w.meter count ≡ b → (r : Result (List ℕ × Spot) Fault) → times (char_at None a) count s ≡ r
          → cond b (metered (with_text w.meter count) (grown grow w.tables r)) (fails {X = List ℕ × ReadState} (wrong kind.TextLimit s.place w.meter)) ≡ fails e → RefusesMissed a count w s e
      by_fit w s e octets al true f (Ok x) g h = absurd (no_told (x.0, read_state x.1 (context (with_text w.meter count) (grow w.tables x.0))) e h)
      by_fit w s e octets al true f (Err d) g h = inr (record { fits = f; fault = d; refused = some_of a count s d octets al g; is = sym (fails_is {X = List ℕ × ReadState} (record { fault = d; meter = with_text w.meter count }) e h) })
      by_fit w s e octets al false f r g h = inl (record { over = f; is = sym (fails_is {X = List ℕ × ReadState} (wrong kind.TextLimit s.place w.meter) e h) })

      again_is : (w : Context) (s : Spot) (e : Failure) → IsBytes s.bytes → IsAligned a s → RefusesMissed a count w s e → missed_at None a grow count (read_state s w) ≡ fails e
      again_is w s e octets al (inl h) = missed_charges None a grow count s w.tables w.meter ∙ rw h.over (ap (λ (z : Failure). fails z) (sym h.is))
      again_is w s e octets al (inr h) =
          let o = h.refused in
          let r : times (char_at None a) count s ≡ faulty h.fault = none_of a count s o.before o.text o.more o.kind octets al o.few o.spelled o.stands o.refused ∙ ap (λ (z : Fault). faulty {X = List ℕ × Spot} z) (sym o.is) in
          missed_charges None a grow count s w.tables w.meter ∙ rw (h.fits, r) (ap (λ (z : Failure). fails z) (sym h.is))

  hit_refusal : (partition : Partition) → IsRefusal {X = List ℕ} a (hit_at a partition) (RefusesHit a partition)
  unfolding hit_at
  hit_refusal partition = start_refusal (λ s w c. failing c.context.meter (below_at partition.count a kind.BadPlace c.spot) >>= λ place. placed_at s (partition.text_at place.0) (at_spot_of c place.1))
      (λ s w. RefusesBehind (IsNumberRefused partition.count a kind.BadPlace) (SpellsBelow partition.count a) (λ v. RefusesPlaced s (partition.text_at v)))
      (λ s w. behind_refusal (below_at partition.count a kind.BadPlace) (λ place. placed_at s (partition.text_at place)) (IsNumberRefused partition.count a kind.BadPlace) (SpellsBelow partition.count a) (λ v. RefusesPlaced s (partition.text_at v))
      (number_refused partition.count a kind.BadPlace) (item_number partition.count a kind.BadPlace) (λ place. placed_refusal s (partition.text_at place)))

  pub literal_refusal : (grow : Growth) → IsRefusal {X = List ℕ} a (literal_at a grow) (RefusesLiteral a)
  unfolding literal_at
  literal_refusal grow = behind_refusal unsigned_at (missed_at None a grow) IsUnsignedRefused SpellsUnsigned (λ count. RefusesMissed a count) (unsigned_refused a) (item_unsigned a) (missed_refusal grow)

  indexed_refusal : (texts : List (List ℕ)) (grow : Growth) → IsRefusal {X = List ℕ} a (indexed_at a texts grow) (RefusesIndexed a texts)
  unfolding indexed_at
  indexed_refusal texts grow = start_refusal (λ s w c. failing c.context.meter (below_at (length texts + 1) a kind.BadPlace c.spot) >>= λ code. cond (eqb code.0 0) (literal_at a grow (at_spot_of c code.1)) (placed_at s (live_at texts (code.0 - 1)) (at_spot_of c code.1)))
      (λ s w. RefusesBehind (IsNumberRefused (length texts + 1) a kind.BadPlace) (SpellsBelow (length texts + 1) a) (λ code. RefusesBy (eqb code 0) (RefusesLiteral a) (RefusesPlaced s (live_at texts (code - 1)))))
      (λ s w. behind_refusal (below_at (length texts + 1) a kind.BadPlace) (λ code c. cond (eqb code 0) (literal_at a grow c) (placed_at s (live_at texts (code - 1)) c)) (IsNumberRefused (length texts + 1) a kind.BadPlace) (SpellsBelow (length texts + 1) a) (λ code. RefusesBy (eqb code 0) (RefusesLiteral a) (RefusesPlaced s (live_at texts (code - 1))))
      (number_refused (length texts + 1) a kind.BadPlace) (item_number (length texts + 1) a kind.BadPlace)
      (λ code. by_refusal (eqb code 0) (literal_at a grow) (placed_at s (live_at texts (code - 1))) (RefusesLiteral a) (RefusesPlaced s (live_at texts (code - 1))) (literal_refusal grow) (placed_refusal s (live_at texts (code - 1)))))

  in_indexed : (partition : Context → List (List ℕ)) (grow : Context → Growth) → IsRefusal {X = List ℕ} a (λ c. indexed_at a (partition c.context) (grow c.context) c) (λ w. RefusesIndexed a (partition w) w)
  in_indexed partition grow = start_refusal (λ s w. indexed_at a (partition w) (grow w)) (λ s w. RefusesIndexed a (partition w)) (λ s w. indexed_refusal (partition w) (grow w))

  in_hit : (partition : Context → Partition) → IsRefusal {X = List ℕ} a (λ c. hit_at a (partition c.context) c) (λ w. RefusesHit a (partition w) w)
  in_hit partition = start_refusal (λ s w. hit_at a (partition w)) (λ s w. RefusesHit a (partition w)) (λ s w. hit_refusal (partition w))

  uri_refusal : IsRefusal {X = List ℕ} a (uri_at a) (RefusesUri a)
  uri_refusal = in_indexed (λ w. uris w.tables) (λ w. with_uri)

  local_refusal : (uri : ℕ) → IsRefusal {X = List ℕ} a (local_at a uri) (RefusesLocal a uri)
  unfolding local_at
  local_refusal uri = behind_refusal unsigned_at (λ code c. cond (eqb code 0) (hit_at a (listed (locals c.context.tables uri)) c) (missed_at None a (λ p. with_local p uri) (code - 1) c)) IsUnsignedRefused SpellsUnsigned
      (λ code. RefusesBy (eqb code 0) (λ v. RefusesHit a (listed (locals v.tables uri)) v) (RefusesMissed a (code - 1))) (unsigned_refused a) (item_unsigned a)
      (λ code. by_refusal (eqb code 0) (λ c. hit_at a (listed (locals c.context.tables uri)) c) (missed_at None a (λ p. with_local p uri) (code - 1)) (λ v. RefusesHit a (listed (locals v.tables uri)) v) (RefusesMissed a (code - 1))
      (in_hit (λ w. listed (locals w.tables uri))) (missed_refusal (λ p. with_local p uri) (code - 1)))

  prefix_in : (texts : List (List ℕ)) → IsRefusal {X = Option (List ℕ)} a (told_prefix a texts) (RefusesPrefixIn a texts)
  prefix_in [] = record { fails = λ w s e octets al h. no_told (None, read_state s w) e h; again = λ w s e octets al h. absurd h }
  prefix_in (x ∷ xs) = told_refusal (hit_at a (listed (x ∷ xs))) (RefusesHit a (listed (x ∷ xs))) (λ t c. Some t) (hit_refusal (listed (x ∷ xs)))

  prefix_refusal : (keep : Bool) (uri : ℕ) → IsRefusal {X = Option (List ℕ)} a (prefix_at keep a uri) (RefusesPrefix keep a uri)
  prefix_refusal true uri = start_refusal (λ s w. told_prefix a (prefixes w.tables uri)) (λ s w. RefusesPrefixIn a (prefixes w.tables uri)) (λ s w. prefix_in (prefixes w.tables uri))
  prefix_refusal false uri = record { fails = λ w s e octets al h. no_told (None, read_state s w) e h; again = λ w s e octets al h. absurd h }

  abbrev named_of : NameId → List ℕ → List ℕ → Option (List ℕ) → Named
  named_of id uri local prefix = record { id = id; name = record { uri = uri; local = local; prefix = prefix } }

  abbrev in_space : ℕ → List ℕ → List ℕ → Option (List ℕ) → ReadState → Named
  in_space uri space local prefix c = named_of (record { uri = uri; local = place_in (locals c.context.tables uri) local }) space local prefix

  pub under_refusal : (keep : Bool) (uri : ℕ) (space : List ℕ) → IsRefusal {X = Named} a (name_under keep a uri space) (RefusesNameUnder keep a uri)
  unfolding name_under
  under_refusal keep uri space = next_refusal (local_at a uri) (λ local c. prefix_at keep a uri c >>= λ prefix. told {X = Named × ReadState} (in_space uri space local prefix.0 prefix.1, prefix.1)) (RefusesLocal a uri) (SpellsLocal a uri) (λ local. RefusesPrefix keep a uri)
      (local_refusal uri) (item_local a uri) (λ local. told_refusal (prefix_at keep a uri) (RefusesPrefix keep a uri) (in_space uri space local) (prefix_refusal keep uri))

  pub name_refusal : (keep : Bool) → IsRefusal {X = Named} a (name_at keep a) (RefusesName keep a)
  unfolding name_at
  name_refusal keep = next_refusal (uri_at a) (λ space c. name_under keep a (place_in (uris c.context.tables) space) space c) (RefusesUri a) (SpellsUri a) (λ space v. RefusesNameUnder keep a (place_in (uris v.tables) space) v)
      uri_refusal (item_uri a) (λ space. start_refusal (λ s w. name_under keep a (place_in (uris w.tables) space) space) (λ s w. RefusesNameUnder keep a (place_in (uris w.tables) space)) (λ s w. under_refusal keep (place_in (uris w.tables) space) space))

  -- a text that stands at a place of the tables
  pub told_item : (s : Spot) (text_in : Partitions → Option (List ℕ)) → ContextItem {X = List ℕ} a (λ c. placed_at s (text_in c.context.tables) c) (λ x p. SpellsPlaced (text_in p) x p)
  told_item s text_in = in_words a (λ c. placed_at s (text_in c.context.tables) c) (λ x p. IsTold (text_in p) x p) (λ x p. SpellsPlaced (text_in p) x p)
      (λ x p q ks text h. record { stands = h.stands; charged = record { bits = h.bits; charges = h.charges; after = h.after } })
      (λ x p q ks text h. record { stands = h.stands; bits = h.charged.bits; charges = h.charged.charges; after = h.charged.after })
      (at_start a (λ t r. placed_at s (text_in r)) (λ p. IsTold (text_in p)) (λ t r. placed a s (text_in r)))

  pub told_at : (s : Spot) (text_in : Partitions → Option (List ℕ)) → IsRefusal {X = List ℕ} a (λ c. placed_at s (text_in c.context.tables) c) (λ v t. RefusesPlaced s (text_in v.tables) v t)
  told_at s text_in = start_refusal (λ t w. placed_at s (text_in w.tables)) (λ t w. RefusesPlaced s (text_in w.tables)) (λ t w. placed_refusal s (text_in w.tables))

  pub known_refusal : (keep : Bool) (id : NameId) → IsRefusal {X = Named} a (known_at keep a id) (RefusesKnown keep a id)
  unfolding known_at
  known_refusal keep id = start_refusal
      (λ s w c. placed_at s (live_at (uris c.context.tables) id.uri) c >>= λ uri. placed_at s (live_at (locals uri.1.context.tables id.uri) id.local) uri.1 >>= λ local. prefix_at keep a id.uri local.1 >>= λ prefix. told {X = Named × ReadState} (named_of id uri.0 local.0 prefix.0, prefix.1))
      (λ s w. RefusesNext (λ v t. RefusesPlaced s (live_at (uris v.tables) id.uri) v t) (λ x p. SpellsPlaced (live_at (uris p) id.uri) x p)
      (λ uri. RefusesNext (λ v t. RefusesPlaced s (live_at (locals v.tables id.uri) id.local) v t) (λ x p. SpellsPlaced (live_at (locals p id.uri) id.local) x p) (λ local. RefusesPrefix keep a id.uri)))
      (λ s w. next_refusal (λ c. placed_at s (live_at (uris c.context.tables) id.uri) c)
      (λ uri c. placed_at s (live_at (locals c.context.tables id.uri) id.local) c >>= λ local. prefix_at keep a id.uri local.1 >>= λ prefix. told {X = Named × ReadState} (named_of id uri local.0 prefix.0, prefix.1))
      (λ v t. RefusesPlaced s (live_at (uris v.tables) id.uri) v t) (λ x p. SpellsPlaced (live_at (uris p) id.uri) x p)
      (λ uri. RefusesNext (λ v t. RefusesPlaced s (live_at (locals v.tables id.uri) id.local) v t) (λ x p. SpellsPlaced (live_at (locals p id.uri) id.local) x p) (λ local. RefusesPrefix keep a id.uri))
      (told_at s (λ p. live_at (uris p) id.uri)) (told_item s (λ p. live_at (uris p) id.uri))
      (λ uri. next_refusal (λ c. placed_at s (live_at (locals c.context.tables id.uri) id.local) c)
      (λ local c. prefix_at keep a id.uri c >>= λ prefix. told {X = Named × ReadState} (named_of id uri local prefix.0, prefix.1))
      (λ v t. RefusesPlaced s (live_at (locals v.tables id.uri) id.local) v t) (λ x p. SpellsPlaced (live_at (locals p id.uri) id.local) x p) (λ local. RefusesPrefix keep a id.uri)
      (told_at s (λ p. live_at (locals p id.uri) id.local)) (told_item s (λ p. live_at (locals p id.uri) id.local))
      (λ local. told_refusal (prefix_at keep a id.uri) (RefusesPrefix keep a id.uri) (λ prefix c. named_of id uri local prefix) (prefix_refusal keep id.uri))))

  name_value_refusal : (keep : Bool) → IsRefusal {X = Named} a (name_value_at keep a) (RefusesNameValue keep a)
  unfolding name_value_at
  name_value_refusal keep = paying_refusal 1 (name_at keep a) (RefusesName keep a) (name_refusal keep)

  -- ---- a namespace declaration
  abbrev declared_as : List ℕ → List ℕ → ℕ → Declaration
  declared_as uri prefix flag = record { uri = uri; prefix = prefix; element = eqb flag 1 }

  abbrev space_at : List ℕ → Partitions → ℕ
  space_at uri p = place_in (uris p) uri

  flag_refusal : (uri prefix : List ℕ) → IsRefusal {X = Declaration} a (λ c. failing c.context.meter (below_at 2 a kind.BadPlace c.spot) >>= λ flag. told {X = Declaration × ReadState} (declared_as uri prefix flag.0, at_spot_of c flag.1)) (IsFrontRefused (IsNumberRefused 2 a kind.BadPlace))
  flag_refusal uri prefix = record { fails = failed; again = again_is }
    where
      made : Context → ℕ × Spot → Result (Declaration × ReadState) Failure
      made w flag = told {X = Declaration × ReadState} (declared_as uri prefix flag.0, read_state flag.1 w)

      failed : (w : Context) (s : Spot) (e : Failure) → IsBytes s.bytes → IsAligned a s → (failing w.meter (below_at 2 a kind.BadPlace s) >>= λ flag. told {X = Declaration × ReadState} (declared_as uri prefix flag.0, read_state flag.1 w)) ≡ fails e → IsFrontRefused (IsNumberRefused 2 a kind.BadPlace) w s e
      failed w s e octets al h = elim (bind_fails (failing w.meter (below_at 2 a kind.BadPlace s)) (λ (flag : ℕ × Spot). told {X = Declaration × ReadState} (declared_as uri prefix flag.0, read_state flag.1 w)) e h) [
        | inl u ↦ (
            let f = failing_fails w.meter (below_at 2 a kind.BadPlace s) e u in
            let k = (number_refused 2 a kind.BadPlace).fails s f.0 octets al f.1 in
            record { kind = k.0; refused = k.2; is = f.2 ∙ ap (λ (z : Fault). record { fault = z; meter = w.meter }) k.1 }
            )
        | inr u ↦ absurd (no_told (declared_as uri prefix u.0.0, read_state u.0.1 w) e u.2)
      ]

      again_is : (w : Context) (s : Spot) (e : Failure) → IsBytes s.bytes → IsAligned a s → IsFrontRefused (IsNumberRefused 2 a kind.BadPlace) w s e → (failing w.meter (below_at 2 a kind.BadPlace s) >>= λ flag. told {X = Declaration × ReadState} (declared_as uri prefix flag.0, read_state flag.1 w)) ≡ fails e
      again_is w s e octets al h = rw ((number_refused 2 a kind.BadPlace).again s h.kind octets al h.refused) (ap (λ (z : Failure). fails z) (sym h.is))

  pub declaration_refusal : IsRefusal {X = Declaration} a (declaration_at a) (RefusesDeclaration a)
  unfolding declaration_at declared_under
  declaration_refusal = next_refusal (uri_at a)
      (λ uri c. indexed_at a (prefixes c.context.tables (space_at uri c.context.tables)) (λ p. with_prefix p (space_at uri c.context.tables)) c >>= λ prefix. failing prefix.1.context.meter (below_at 2 a kind.BadPlace prefix.1.spot) >>= λ flag. told {X = Declaration × ReadState} (declared_as uri prefix.0 flag.0, at_spot_of prefix.1 flag.1))
      (RefusesUri a) (SpellsUri a) (λ uri. RefusesNext (RefusesNewPrefix a uri) (SpellsNewPrefix a uri) (λ prefix. IsFrontRefused (IsNumberRefused 2 a kind.BadPlace)))
      uri_refusal (item_uri a)
      (λ uri. next_refusal (λ c. indexed_at a (prefixes c.context.tables (space_at uri c.context.tables)) (λ p. with_prefix p (space_at uri c.context.tables)) c)
      (λ prefix c. failing c.context.meter (below_at 2 a kind.BadPlace c.spot) >>= λ flag. told {X = Declaration × ReadState} (declared_as uri prefix flag.0, at_spot_of c flag.1))
      (RefusesNewPrefix a uri) (SpellsNewPrefix a uri) (λ prefix. IsFrontRefused (IsNumberRefused 2 a kind.BadPlace))
      (in_indexed (λ w. prefixes w.tables (space_at uri w.tables)) (λ w p. with_prefix p (space_at uri w.tables)))
      (indexed_in a (λ w. prefixes w (space_at uri w)) (λ w p. with_prefix p (space_at uri w)))
      (flag_refusal uri))

  -- ---- values
  value_refusal : (name : NameId) → IsRefusal {X = List ℕ} a (value_at None a name) (RefusesValue a name)
  unfolding value_at
  value_refusal name = behind_refusal unsigned_at
      (λ code c. cond (eqb code 0) (hit_at a (own_values c.context.tables name) c) (cond (eqb code 1) (hit_at a (listed (values c.context.tables)) c) (missed_at None a (λ p. with_value p name) (code - 2) c)))
      IsUnsignedRefused SpellsUnsigned
      (λ code. RefusesBy (eqb code 0) (λ v. RefusesHit a (own_values v.tables name) v) (RefusesBy (eqb code 1) (λ v. RefusesHit a (listed (values v.tables)) v) (RefusesMissed a (code - 2))))
      (unsigned_refused a) (item_unsigned a)
      (λ code. by_refusal (eqb code 0) (λ c. hit_at a (own_values c.context.tables name) c) (λ c. cond (eqb code 1) (hit_at a (listed (values c.context.tables)) c) (missed_at None a (λ p. with_value p name) (code - 2) c))
      (λ v. RefusesHit a (own_values v.tables name) v) (RefusesBy (eqb code 1) (λ v. RefusesHit a (listed (values v.tables)) v) (RefusesMissed a (code - 2)))
      (in_hit (λ w. own_values w.tables name))
      (by_refusal (eqb code 1) (λ c. hit_at a (listed (values c.context.tables)) c) (missed_at None a (λ p. with_value p name) (code - 2)) (λ v. RefusesHit a (listed (values v.tables)) v) (RefusesMissed a (code - 2))
      (in_hit (λ w. listed (values w.tables))) (missed_refusal (λ p. with_value p name) (code - 2))))

  pub item_refusal : (kind : Tabled) (name : NameId) → IsRefusal {X = Value} a (item_at kind a name) (RefusesItem kind a name)
  unfolding item_at
  item_refusal string name = told_refusal (value_at None a name) (RefusesValue a name) (λ text c. value.text text) (value_refusal name)
  item_refusal (qualified keep) name = told_refusal (name_value_at keep a) (RefusesNameValue keep a) (λ n c. value.name n.name) (name_value_refusal keep)

pub readings_are_refused : ReadingsAreRefused
readings_are_refused = record {
  literals = λ a. literal_refusal a no_growth;
  names = λ keep a. name_refusal a keep;
  known = λ keep a id. known_refusal a keep id;
  declarations = λ a. declaration_refusal a;
  items = λ kind a name. item_refusal a kind name;
}
