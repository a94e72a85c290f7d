-- What is refused of values: where reading fails, and there alone.
use Rattle.std.proofs.Common.{◌≡◌, inl, inr, ℕ, zero, suc, Bool, true, false, cond, List, [], ◌∷◌, Some, Result, Ok, Err, refl, sym, ap, ◌∙◌}
use Rattle.exi_bits.specs.declared.align.Align.{Align}
use Rattle.exi_bits.specs.declared.fault.Fault.{Fault}
use Rattle.exi_bits.specs.declared.fault.Kind.TheVariants as kind
use Rattle.exi_bits.specs.Bits.{Spot, IsAligned, IsBytes}
use Rattle.exi_bits.specs.Repeat.{Reader, octets_at}
use Rattle.exi_bits.specs.Unsigned.{◌>>=◌, unsigned_at}
use Rattle.exi_items.specs.Charges.{text_charge}
use Rattle.exi_meter.specs.Metering.{Metering, text_fits, with_text}
use Rattle.exi_names.specs.Datatypes as datatype
use Rattle.exi_names.specs.Seen.{Value, values_of}
use Rattle.exi_names.specs.Seen as value
use Rattle.exi_names.specs.declared.names.NameId.{NameId}
use Rattle.exi_scalar.specs.Scalars.{boolean_at, decimal_at, float_at}
use Rattle.exi_tables.specs.Partitions.{Partitions}
use Rattle.exi_typed.specs.Items.{qualified, string}
use Rattle.exi_typed.specs.Laws.{Spelling}
use Rattle.exi_typed.specs.ReadStates.{Context, ContextReader, Failure, ReadState, failing}
use Rattle.exi_typed.specs.Refused.{IsRefusal, Refusing, wrong}
use Rattle.exi_typed.specs.Strings.{value_at}
use Rattle.exi_typed.proofs.ContextItems.{ContextItem, context, read_state, told}
use Rattle.exi_typed.proofs.Refusals.{fails, item_refusal, next_refusal, told_refusal}
use Rattle.exi_values.specs.Readings.{charged_count_at, charged_first, choice_at, count_at, dated_at, each_at, enumerated_at, list_at, measured_at, natural_at, octets_value_at, small_at, string_in, units_in, whole_at}
use Rattle.exi_values.specs.Refused.{AreRefused, RefusesCharged, RefusesChoice, RefusesCount, RefusesEach, RefusesInSet, RefusesList, RefusesOctets, RefusesValued, ValuesAreRefused}
use Rattle.exi_values.specs.Spelled.{SpellsCount, SpellsValued}
use Rattle.exi_values.specs.Valued.{is_measured, valued_at}
use Rattle.exi_values.proofs.Counted.{behind_count, octets_same}
use Rattle.exi_values.proofs.Pieces.{count_item}
use Rattle.exi_values.proofs.Values.{item_valued}

abbrev limit_at : ℕ → Fault
limit_at bit = record { kind = kind.TextLimit; bit = bit }

fails_is : {X : Type 0} (e f : Failure) → fails {X = X} e ≡ fails f → e ≡ f
fails_is e f h = cc

no_told : {X : Type 0} (x : X) (e : Failure) → told x ≡ fails e → ⊥
no_told x e h = cc

-- ---- bits alone
module _ (read : Reader Value) where
  abbrev found : Metering → Partitions → Result (Value × Spot) Fault → Result (Value × ReadState) Failure
  found m p r = failing m r >>= λ x. told {X = Value × ReadState} (x.0, read_state x.1 (context m p))

  bits_fail : (m : Metering) (p : Partitions) (s : Spot) (e : Failure) (r : Result (Value × Spot) Fault) → read s ≡ r → found m p r ≡ fails e → AreRefused read (context m p) s e
  bits_fail m p s e (Ok x) q h = absurd (no_told (x.0, read_state x.1 (context m p)) e h)
  bits_fail m p s e (Err f) q h = record { fault = f; refused = q; is = sym (fails_is {X = Value × ReadState} (record { fault = f; meter = m }) e h) }

  bits_again : (m : Metering) (p : Partitions) (s : Spot) (e : Failure) → AreRefused read (context m p) s e → found m p (read s) ≡ fails e
  bits_again m p s e h = rw h.refused (ap (λ (z : Failure). fails z) (sym h.is))

  first_refusal : (a : Align) → IsRefusal {X = Value} a (charged_first read) (RefusesCharged read)
  unfolding charged_first text_charge
  first_refusal a = record { fails = λ w s e octets al h. by_fit w s e (text_fits w.meter 1) refl h; again = again_is }
    where
      by_fit : (w : Context) (s : Spot) (e : Failure) (b : Bool) → text_fits w.meter 1 ≡ b → (failing w.meter (cond b (Ok (with_text w.meter 1)) (Err (limit_at s.place))) >>= λ m. found m w.tables (read s)) ≡ fails e → RefusesCharged read w s e
      by_fit w s e true f h = inr (record { fits = f; refused = bits_fail (with_text w.meter 1) w.tables s e (read s) refl h })
      by_fit w s e false f h = inl (record { over = f; is = sym (fails_is {X = Value × ReadState} (wrong kind.TextLimit s.place w.meter) e h) })

      again_is : (w : Context) (s : Spot) (e : Failure) → IsBytes s.bytes → IsAligned a s → RefusesCharged read w s e → (failing w.meter (cond (text_fits w.meter 1) (Ok (with_text w.meter 1)) (Err (limit_at s.place))) >>= λ m. found m w.tables (read s)) ≡ fails e
      again_is w s e octets al (inl h) = rw h.over (ap (λ (z : Failure). fails z) (sym h.is))
      again_is w s e octets al (inr h) = rw h.fits (bits_again (with_text w.meter 1) w.tables s e h.refused)

-- ---- enumerations
measured_refusal : (vs : List Value) (a : Align) → IsRefusal {X = Value} a (measured_at vs a) (RefusesChoice true vs a)
unfolding measured_at text_charge
measured_refusal vs a = record { fails = λ w s e octets al h. by_place w s e (enumerated_at vs a s) refl h; again = again_is }
  where
    behind : Context → Value × Spot → Bool → Result (Value × ReadState) Failure
    behind w x b = failing w.meter (cond b (Ok (with_text w.meter (units_in x.0))) (Err (limit_at x.1.place))) >>= λ m. told {X = Value × ReadState} (x.0, read_state x.1 (context m w.tables))

    by_fit : (w : Context) (s : Spot) (e : Failure) (x : Value × Spot) (b : Bool) → enumerated_at vs a s ≡ Ok x → text_fits w.meter (units_in x.0) ≡ b → behind w x b ≡ fails e → RefusesChoice true vs a w s e
    by_fit w s e x true q f h = absurd (no_told (x.0, read_state x.1 (context (with_text w.meter (units_in x.0)) w.tables)) e h)
    by_fit w s e x false q f h = inr (record { value = x.0; next = x.1; found = q; over = f; is = sym (fails_is {X = Value × ReadState} (wrong kind.TextLimit x.1.place w.meter) e h) })

    by_place : (w : Context) (s : Spot) (e : Failure) (r : Result (Value × Spot) Fault) → enumerated_at vs a s ≡ r → (failing w.meter r >>= λ x. behind w x (text_fits w.meter (units_in x.0))) ≡ fails e → RefusesChoice true vs a w s e
    by_place w s e (Ok x) q h = by_fit w s e x (text_fits w.meter (units_in x.0)) q refl h
    by_place w s e (Err f) q h = inl (record { fault = f; refused = q; is = sym (fails_is {X = Value × ReadState} (record { fault = f; meter = w.meter }) e h) })

    again_is : (w : Context) (s : Spot) (e : Failure) → IsBytes s.bytes → IsAligned a s → RefusesChoice true vs a w s e → (failing w.meter (enumerated_at vs a s) >>= λ x. behind w x (text_fits w.meter (units_in x.0))) ≡ fails e
    again_is w s e octets al (inl h) = rw h.refused (ap (λ (z : Failure). fails z) (sym h.is))
    again_is w s e octets al (inr h) = rw (h.found, h.over) (ap (λ (z : Failure). fails z) (sym h.is))

choice_refusal : (b : Bool) (vs : List Value) (a : Align) → IsRefusal {X = Value} a (choice_at b vs a) (RefusesChoice b vs a)
choice_refusal true vs a = measured_refusal vs a
choice_refusal false vs a = first_refusal (enumerated_at vs a) a

-- ---- octets
octets_refusal : (hex : Bool) (a : Align) → IsRefusal {X = Value} a (octets_value_at hex) RefusesOctets
unfolding text_charge
octets_refusal hex a = record { fails = λ w s e octets al h. by_count w s e (unsigned_at s) refl (sym (octets_same hex (read_state s w)) ∙ h); again = λ w s e octets al h. octets_same hex (read_state s w) ∙ again_is w s e h }
  where
    octets_behind : Context → Metering → ℕ × Spot → Result (Value × ReadState) Failure
    octets_behind w m n = behind_count hex n.0 (read_state n.1 (context m w.tables))

    behind : Context → Spot → ℕ × Spot → Bool → Result (Value × ReadState) Failure
    behind w s n b = failing w.meter (cond b (Ok (with_text w.meter n.0)) (Err (limit_at s.place))) >>= λ m. octets_behind w m n

    by_octets : (w : Context) (s : Spot) (e : Failure) (n : ℕ × Spot) (r : Result (List ℕ × Spot) Fault) → unsigned_at s ≡ Ok n → text_fits w.meter n.0 ≡ true → octets_at n.0 n.1 ≡ r
        → (failing (with_text w.meter n.0) r >>= λ os. told {X = Value × ReadState} (value.binary hex os.0, read_state os.1 (context (with_text w.meter n.0) w.tables))) ≡ fails e → RefusesOctets w s e
    by_octets w s e n (Ok os) q f r h = absurd (no_told (value.binary hex os.0, read_state os.1 (context (with_text w.meter n.0) w.tables)) e h)
    by_octets w s e n (Err k) q f r h = inr (inr (record { count = n.0; next = n.1; found = q; fits = f; fault = k; refused = r; is = sym (fails_is {X = Value × ReadState} (record { fault = k; meter = with_text w.meter n.0 }) e h) }))

    by_fit : (w : Context) (s : Spot) (e : Failure) (n : ℕ × Spot) (b : Bool) → unsigned_at s ≡ Ok n → text_fits w.meter n.0 ≡ b → behind w s n b ≡ fails e → RefusesOctets w s e
    by_fit w s e n true q f h = by_octets w s e n (octets_at n.0 n.1) q f refl h
    by_fit w s e n false q f h = inr (inl (record { count = n.0; next = n.1; found = q; over = f; is = sym (fails_is {X = Value × ReadState} (wrong kind.TextLimit s.place w.meter) e h) }))

    by_count : (w : Context) (s : Spot) (e : Failure) (r : Result (ℕ × Spot) Fault) → unsigned_at s ≡ r → (failing w.meter r >>= λ n. behind w s n (text_fits w.meter n.0)) ≡ fails e → RefusesOctets w s e
    by_count w s e (Ok n) q h = by_fit w s e n (text_fits w.meter n.0) q refl h
    by_count w s e (Err f) q h = inl (record { fault = f; refused = q; is = sym (fails_is {X = Value × ReadState} (record { fault = f; meter = w.meter }) e h) })

    again_is : (w : Context) (s : Spot) (e : Failure) → RefusesOctets w s e → (failing w.meter (unsigned_at s) >>= λ n. behind w s n (text_fits w.meter n.0)) ≡ fails e
    again_is w s e (inl h) = rw h.refused (ap (λ (z : Failure). fails z) (sym h.is))
    again_is w s e (inr (inl h)) = rw (h.found, h.over) (ap (λ (z : Failure). fails z) (sym h.is))
    again_is w s e (inr (inr h)) = rw (h.found, h.fits, h.refused) (ap (λ (z : Failure). fails z) (sym h.is))

-- ---- lists
count_refusal : (a : Align) → IsRefusal {X = ℕ} a charged_count_at RefusesCount
unfolding charged_count_at text_charge
count_refusal a = record { fails = λ w s e octets al h. by_count w s e (count_at s) refl h; again = again_is }
  where
    behind : Context → Spot → ℕ × Spot → Bool → Result (ℕ × ReadState) Failure
    behind w s n b = failing w.meter (cond b (Ok (with_text w.meter n.0)) (Err (limit_at s.place))) >>= λ m. told {X = ℕ × ReadState} (n.0, read_state n.1 (context m w.tables))

    by_fit : (w : Context) (s : Spot) (e : Failure) (n : ℕ × Spot) (b : Bool) → count_at s ≡ Ok n → text_fits w.meter n.0 ≡ b → behind w s n b ≡ fails e → RefusesCount w s e
    by_fit w s e n true q f h = absurd (no_told (n.0, read_state n.1 (context (with_text w.meter n.0) w.tables)) e h)
    by_fit w s e n false q f h = inr (record { count = n.0; next = n.1; found = q; over = f; is = sym (fails_is {X = ℕ × ReadState} (wrong kind.TextLimit s.place w.meter) e h) })

    by_count : (w : Context) (s : Spot) (e : Failure) (r : Result (ℕ × Spot) Fault) → count_at s ≡ r → (failing w.meter r >>= λ n. behind w s n (text_fits w.meter n.0)) ≡ fails e → RefusesCount w s e
    by_count w s e (Ok n) q h = by_fit w s e n (text_fits w.meter n.0) q refl h
    by_count w s e (Err f) q h = inl (record { fault = f; refused = q; is = sym (fails_is {X = ℕ × ReadState} (record { fault = f; meter = w.meter }) e h) })

    again_is : (w : Context) (s : Spot) (e : Failure) → IsBytes s.bytes → IsAligned a s → RefusesCount w s e → (failing w.meter (count_at s) >>= λ n. behind w s n (text_fits w.meter n.0)) ≡ fails e
    again_is w s e octets al (inl h) = rw h.refused (ap (λ (z : Failure). fails z) (sym h.is))
    again_is w s e octets al (inr h) = rw (h.found, h.over) (ap (λ (z : Failure). fails z) (sym h.is))

module _ (a : Align) (read : ContextReader Value) (One : Refusing) (First : Spelling Value) (refusal : IsRefusal {X = Value} a read One) (item : ContextItem {X = Value} a read First) where
  each_refusal : (n : ℕ) → IsRefusal {X = List Value} a (each_at read n) (RefusesEach One First n)
  unfolding each_at
  each_refusal zero = record { fails = λ w s e octets al h. no_told ([], read_state s w) e h; again = λ w s e octets al h. absurd h }
  each_refusal (suc n) =
      next_refusal a read (λ x c. each_at read n c >>= λ xs. told {X = List Value × ReadState} (x ∷ xs.0, xs.1)) One First (λ x. RefusesEach One First n) refusal item
      (λ x. told_refusal a (each_at read n) (RefusesEach One First n) (λ xs c. x ∷ xs) (each_refusal n))

  list_refusal : IsRefusal {X = Value} a (list_at read) (RefusesList One First)
  unfolding list_at
  list_refusal =
      next_refusal a charged_count_at (λ n c. each_at read n c >>= λ xs. told {X = Value × ReadState} (value.items (values_of xs.0), xs.1)) RefusesCount SpellsCount (λ n. RefusesEach One First n) (count_refusal a) (count_item a)
      (λ n. told_refusal a (each_at read n) (RefusesEach One First n) (λ xs c. value.items (values_of xs)) (each_refusal n))

-- ---- strings with a set of characters
in_set_refusal : (set : List ℕ) (a : Align) (name : NameId) → IsRefusal {X = Value} a (string_in set a name) (RefusesInSet set a name)
unfolding string_in
in_set_refusal set a name = told_refusal a (value_at (Some set) a name) (RefusesInSet set a name) (λ text c. value.text text) (record { fails = λ w s e octets al h. h; again = λ w s e octets al h. h })

-- ---- every datatype
pub values_refused : ValuesAreRefused
unfolding valued_at
values_refused (datatype.small least count) a name = first_refusal (small_at least count a) a
values_refused datatype.unsigned a name = first_refusal natural_at a
values_refused datatype.integer a name = first_refusal (whole_at a) a
values_refused (datatype.boolean pattern) a name = first_refusal (boolean_at pattern a) a
values_refused (datatype.binary hex) a name = octets_refusal hex a
values_refused datatype.decimal a name = first_refusal (decimal_at a) a
values_refused datatype.float a name = first_refusal (float_at a) a
values_refused (datatype.moment kind) a name = first_refusal (dated_at kind a) a
values_refused (datatype.list item) a name = list_refusal a (valued_at item a name) (RefusesValued item a name) (SpellsValued item a name) (values_refused item a name) (item_valued item a name)
values_refused (datatype.choice base values) a name = choice_refusal (is_measured base) values a
values_refused datatype.text a name = item_refusal a string name
values_refused (datatype.chars set) a name = in_set_refusal set a name
values_refused (datatype.name keep) a name = item_refusal a (qualified keep) name
