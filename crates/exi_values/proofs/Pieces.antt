-- What values are put together from: spelled and read.
use Rattle.std.proofs.Common.{◌≡◌, ℕ, zero, suc, ◌+◌, ◌%◌, Bool, true, false, cond, leb, List, [], ◌∷◌, ◌++◌, length, Some, Result, Ok, Err, refl, sym, ap, ◌∙◌, subst, append_assoc, arith}
use Rattle.std.proofs.lemmas.Bool.{le-leb, leb-true}
use Rattle.std.proofs.lemmas.List.{append-nil, length-append}
use Rattle.exi_bits.specs.declared.align.Align.{Align}
use Rattle.exi_bits.specs.declared.align.Align.TheVariants as align
use Rattle.exi_bits.specs.declared.fault.Fault.{Fault}
use Rattle.exi_bits.specs.declared.fault.Kind.TheVariants as kind
use Rattle.exi_bits.specs.Bits.{Spot, IsAligned, IsBytes, bits, moved, rest}
use Rattle.exi_bits.specs.Repeat.{Reader, octets_at}
use Rattle.exi_bits.specs.Unsigned.{◌>>=◌, unsigned_at}
use Rattle.exi_bits.proofs.BitLaws.{length-bits}
use Rattle.exi_items.specs.Charges.{Charged, text_charge}
use Rattle.exi_items.specs.Spellings.{SpellsUnsigned}
use Rattle.exi_items.proofs.Items.{Item, given, item_tested, item_unsigned}
use Rattle.exi_meter.specs.Metering.{Metering, text_fits, with_text}
use Rattle.exi_names.specs.Seen.{Value, values_of}
use Rattle.exi_names.specs.Seen as value
use Rattle.exi_names.specs.declared.names.NameId.{NameId}
use Rattle.exi_names.specs.declared.val.TheConstants.{MOST_ITEMS}
use Rattle.exi_scalar.specs.Scalars.{after_count, binary_at}
use Rattle.exi_scalar.specs.Spelled.{SpellsBinary}
use Rattle.exi_scalar.proofs.Binaries.{binary_read, binary_spelled}
use Rattle.exi_tables.specs.Partitions.{Partitions}
use Rattle.exi_typed.specs.Charging.{Charge, Unmetered, charging, later, metered, one_charge}
use Rattle.exi_typed.specs.Laws.{Spelling}
use Rattle.exi_typed.specs.ReadStates.{ContextReader, Failure, ReadState, at_spot_of, failing}
use Rattle.exi_typed.specs.Spelled.{SpellsValue}
use Rattle.exi_typed.specs.Strings.{value_at}
use Rattle.exi_typed.proofs.ContextItems.{BehindValue, Chained, ContextItem, IsPure, MadeInContext, PaysFirst, Went, behind, bind_fine, bind_told, chained, charged, context, fine, fine_is, in_words, later_one, made, not_failing, paying, pure, read_state, told, told_is}
use Rattle.exi_typed.proofs.Texts.{item_value}
use Rattle.exi_values.specs.Readings.{charged_count_at, charged_first, choice_at, count_at, each_at, enumerated_at, list_at, measured_at, octets_value_at, string_in, units_in}
use Rattle.exi_values.specs.Spelled.{SpellsCharged, SpellsChoice, SpellsCount, SpellsEach, SpellsEnumerated, SpellsInSet, SpellsList, SpellsMeasured, SpellsOctets}
use Rattle.exi_values.proofs.Bits.{item_enumerated}

abbrev got : {X : Type 0} → X → Spot → Partitions → Unmetered X
got x s p = Ok (x, (s, p))

-- ---- one unit, and then bits
pub charged_item : (a : Align) (read : Reader Value) (Bits : Value → List Bool → Type 0) → Item a read Bits → ContextItem {X = Value} a (charged_first read) (SpellsCharged Bits)
unfolding charged_first
charged_item a read Bits item =
    in_words a (charged_first read) (PaysFirst 1 (BehindValue Bits (λ v. IsPure v))) (SpellsCharged Bits) to from
    (paying a 1 (λ c. failing c.context.meter (read c.spot) >>= λ x. told {X = Value × ReadState} (x.0, at_spot_of c x.1)) (BehindValue Bits (λ v. IsPure v))
    (behind a read (λ v c. told {X = Value × ReadState} (v, c)) Bits (λ v. IsPure v) item (λ v. pure a v)))
  where
    to : (v : Value) (p q : Partitions) (ks : List Charge) (text : List Bool) → PaysFirst 1 (BehindValue Bits (λ v. IsPure v)) v p q ks text → SpellsCharged Bits v p q ks text
    to v p q ks text z =
        let h = z.spelled in
        let k = h.spelled in
        let same : k.first ≡ text = sym (k.parts ∙ ap (λ (t : List Bool). k.first ++ t) k.behind.nothing.bits ∙ append-nil k.first) in
        let owes : z.owed ≡ [] = k.charges ∙ ap (λ (js : List Charge). later (length k.first) js) k.behind.nothing.charges in
        record {
          spelled = subst (λ (x : Value). Bits x text) k.behind.is (subst (λ (t : List Bool). Bits h.from t) same k.front);
          charges = z.charges ∙ ap (λ (js : List Charge). one_charge 1 0 ++ js) owes;
          after = k.behind.nothing.after;
        }

    from : (v : Value) (p q : Partitions) (ks : List Charge) (text : List Bool) → SpellsCharged Bits v p q ks text → PaysFirst 1 (BehindValue Bits (λ v. IsPure v)) v p q ks text
    from v p q ks text h = record {
      owed = [];
      charges = h.charges;
      spelled = record {
        from = v;
        spelled = record { first = text; second = []; parts = sym (append-nil text); owed = []; charges = refl; front = h.spelled; behind = record { is = refl; nothing = record { bits = refl; charges = refl; after = h.after } } };
      };
    }

-- ---- an enumerated text or octets
measured_item : (vs : List Value) (a : Align) → ContextItem {X = Value} a (measured_at vs a) (SpellsMeasured vs a)
unfolding measured_at
measured_item vs a =
    in_words a (measured_at vs a) (BehindValue (SpellsEnumerated vs a) (λ v. PaysFirst (units_in v) (IsPure v))) (SpellsMeasured vs a) to from
    (behind a (enumerated_at vs a) (λ v c. failing c.context.meter (text_charge (units_in v) c.spot.place c.context.meter) >>= λ meter. told {X = Value × ReadState} (v, read_state c.spot (context meter c.context.tables)))
    (SpellsEnumerated vs a) (λ v. PaysFirst (units_in v) (IsPure v)) (item_enumerated vs a) (λ v. paying a (units_in v) (λ c. told {X = Value × ReadState} (v, c)) (IsPure v) (pure a v)))
  where
    to : (v : Value) (p q : Partitions) (ks : List Charge) (text : List Bool) → BehindValue (SpellsEnumerated vs a) (λ v. PaysFirst (units_in v) (IsPure v)) v p q ks text → SpellsMeasured vs a v p q ks text
    to v p q ks text z =
        let h = z.spelled in
        let k = h.behind in
        let same : h.first ≡ text = sym (h.parts ∙ ap (λ (t : List Bool). h.first ++ t) k.spelled.nothing.bits ∙ append-nil h.first) in
        let owes : h.owed ≡ one_charge (units_in z.from) 0 = k.charges ∙ ap (λ (js : List Charge). one_charge (units_in z.from) 0 ++ js) k.spelled.nothing.charges in
        let pays : ks ≡ one_charge (units_in z.from) (length h.first) = h.charges ∙ ap (λ (js : List Charge). later (length h.first) js) owes ∙ later_one (units_in z.from) (length h.first) in
        record {
          spelled = subst (λ (x : Value). SpellsEnumerated vs a x text) k.spelled.is (subst (λ (t : List Bool). SpellsEnumerated vs a z.from t) same h.front);
          charges = pays ∙ ap (λ (x : Value). one_charge (units_in x) (length h.first)) k.spelled.is ∙ ap (λ (t : List Bool). one_charge (units_in v) (length t)) same;
          after = k.spelled.nothing.after;
        }

    from : (v : Value) (p q : Partitions) (ks : List Charge) (text : List Bool) → SpellsMeasured vs a v p q ks text → BehindValue (SpellsEnumerated vs a) (λ v. PaysFirst (units_in v) (IsPure v)) v p q ks text
    from v p q ks text h = record {
      from = v;
      spelled = record {
        first = text;
        second = [];
        parts = sym (append-nil text);
        owed = one_charge (units_in v) 0;
        charges = h.charges ∙ sym (later_one (units_in v) (length text));
        front = h.spelled;
        behind = record { owed = []; charges = refl; spelled = record { is = refl; nothing = record { bits = refl; charges = refl; after = h.after } } };
      };
    }

pub choice_item : (b : Bool) (vs : List Value) (a : Align) → ContextItem {X = Value} a (choice_at b vs a) (SpellsChoice b vs a)
choice_item true vs a = measured_item vs a
choice_item false vs a = charged_item a (enumerated_at vs a) (SpellsEnumerated vs a) (item_enumerated vs a)

-- ---- the number of items of a list
abbrev Few : ℕ → List Bool → Type 0
Few n text = (leb n MOST_ITEMS ≡ true) × SpellsUnsigned n text

few_item : (a : Align) → Item a count_at Few
unfolding count_at
few_item a = item_tested a unsigned_at SpellsUnsigned (λ n. leb n MOST_ITEMS) (λ s n. record { kind = kind.ListTooLong; bit = s.place }) (item_unsigned a)

abbrev limit_at : ℕ → Fault
limit_at bit = record { kind = kind.TextLimit; bit = bit }

pub count_item : (a : Align) → ContextItem {X = ℕ} a charged_count_at SpellsCount
unfolding charged_count_at text_charge
count_item a = record { takes = taking; again = reading; whole = λ n p q ks text h. (item_unsigned a).whole n text h.spelled }
  where
    taking : (n : ℕ) (c d : ReadState) → IsBytes c.spot.bytes → IsAligned a c.spot → charged_count_at c ≡ told (n, d) → Went a (SpellsCount n) c d
    taking n c d fits al r =
        let m = c.context.meter in
        let u = bind_told (failing m (count_at c.spot)) (λ (x : ℕ × Spot). failing m (text_charge x.0 c.spot.place m) >>= λ meter. told {X = ℕ × ReadState} (x.0, read_state x.1 (context meter c.context.tables))) (n, d) r in
        let v = bind_told (failing m (text_charge u.0.0 c.spot.place m)) (λ (meter : Metering). told {X = ℕ × ReadState} (u.0.0, read_state u.0.1 (context meter c.context.tables))) (n, d) u.2 in
        let k = (few_item a).takes u.0.0 c.spot u.0.1 fits al (not_failing m (count_at c.spot) u.0 u.1) in
        subst (λ (z : ℕ × ReadState). Went a (SpellsCount z.0) c z.1) (told_is (u.0.0, read_state u.0.1 (context v.0 c.context.tables)) (n, d) v.2) (record {
          text = k.text;
          charges = one_charge u.0.0 0;
          spelled = record { few = leb-true u.0.0 MOST_ITEMS k.spelled.0; spelled = k.spelled.1; charges = refl; after = refl };
          front = k.front;
          aligned = k.aligned;
          fits = k.fits;
        })

    by_fit : (n : ℕ) (s t : Spot) (p : Partitions) (m : Metering) (b : Bool) → (failing m (cond b (Ok (with_text m n)) (Err (limit_at s.place))) >>= λ meter. told {X = ℕ × ReadState} (n, read_state t (context meter p))) ≡ cond b (metered (with_text m n) (got n t p)) (Err (record { fault = limit_at s.place; meter = m }))
    by_fit n s t p m true = refl
    by_fit n s t p m false = refl

    reading : (n : ℕ) (s : Spot) (p q : Partitions) (ks : List Charge) (text more : List Bool) → IsBytes s.bytes → IsAligned a s → SpellsCount n p q ks text → rest s ≡ text ++ more → (m : Metering) → charged_count_at (read_state s (context m p)) ≡ charging (later s.place ks) m (got n (moved s (length text)) q)
    reading n s p q ks text more fits al h e m =
        let t : Spot = moved s (length text) in
        let r : count_at s ≡ given (n, t) = (few_item a).again n text s more fits al (le-leb n MOST_ITEMS h.few, h.spelled) e in
        ap (λ (z : Result (ℕ × Spot) Fault). failing m z >>= λ x. failing m (text_charge x.0 s.place m) >>= λ meter. told {X = ℕ × ReadState} (x.0, read_state x.1 (context meter p))) r
        ∙ by_fit n s t p m (text_fits m n)
        ∙ ap (λ (u : Partitions). charging (one_charge n s.place) m (got n t u)) (sym h.after)
        ∙ ap (λ (js : List Charge). charging js m (got n t q)) (sym (later_one n s.place))
        ∙ ap (λ (js : List Charge). charging (later s.place js) m (got n t q)) (sym h.charges)

-- ---- one after another
record EachOf {X : Type 0} (Spells : Spelling X) (n : ℕ) (xs : List X) (p q : Partitions) (ks : List Charge) (text : List Bool) : Type 0 where
  pub count : length xs ≡ n
  pub each : SpellsEach Spells xs p q ks text

each_none : {X : Type 0} (a : Align) (read : ContextReader X) (Spells : Spelling X) → ContextItem {X = List X} a (each_at read zero) (EachOf Spells zero)
unfolding each_at
each_none {X} a read Spells = in_words a (each_at read zero) (IsPure []) (EachOf Spells zero) to from (pure a [])
  where
    to : (xs : List X) (p q : Partitions) (ks : List Charge) (text : List Bool) → IsPure [] xs p q ks text → EachOf Spells zero xs p q ks text
    to xs p q ks text h = subst (λ (ys : List X). EachOf Spells zero ys p q ks text) h.is (record { count = refl; each = h.nothing })

    from : (xs : List X) (p q : Partitions) (ks : List Charge) (text : List Bool) → EachOf Spells zero xs p q ks text → IsPure [] xs p q ks text
    from [] p q ks text h = record { is = refl; nothing = h.each }
    from (x ∷ xs) p q ks text h = let e : suc (length xs) ≡ 0 = h.count in absurd (omega arith)

each_more : {X : Type 0} (a : Align) (read : ContextReader X) (Spells : Spelling X) (n : ℕ) → ContextItem a read Spells → ContextItem {X = List X} a (each_at read n) (EachOf Spells n) → ContextItem {X = List X} a (each_at read (suc n)) (EachOf Spells (suc n))
unfolding each_at
each_more {X} a read Spells n one others =
    in_words a (each_at read (suc n)) (Chained Spells (λ x. MadeInContext (λ (xs : List X) q. x ∷ xs) (EachOf Spells n))) (EachOf Spells (suc n)) to from
    (chained a read (λ x c. each_at read n c >>= λ xs. told {X = List X × ReadState} (x ∷ xs.0, xs.1)) Spells (λ x. MadeInContext (λ (xs : List X) q. x ∷ xs) (EachOf Spells n)) one
    (λ x. made a (each_at read n) (λ (xs : List X) q. x ∷ xs) (EachOf Spells n) others))
  where
    to : (xs : List X) (p q : Partitions) (ks : List Charge) (text : List Bool) → Chained Spells (λ x. MadeInContext (λ (xs : List X) q. x ∷ xs) (EachOf Spells n)) xs p q ks text → EachOf Spells (suc n) xs p q ks text
    to xs p q ks text z =
        let h = z.spelled in
        subst (λ (ys : List X). EachOf Spells (suc n) ys p q ks text) h.behind.is (record {
          count = omega (arith, h.behind.spelled.count);
          each = record { between = h.between; first = h.first; second = h.second; parts = h.parts; paid = h.paid; owed = h.owed; charges = h.charges; front = h.front; behind = h.behind.spelled.each };
        })

    from : (xs : List X) (p q : Partitions) (ks : List Charge) (text : List Bool) → EachOf Spells (suc n) xs p q ks text → Chained Spells (λ x. MadeInContext (λ (xs : List X) q. x ∷ xs) (EachOf Spells n)) xs p q ks text
    from [] p q ks text h = let e : 0 ≡ suc n = h.count in absurd (omega arith)
    from (x ∷ xs) p q ks text h =
        let k = h.each in
        record {
          from = x;
          spelled = record {
            between = k.between;
            first = k.first;
            second = k.second;
            parts = k.parts;
            paid = k.paid;
            owed = k.owed;
            charges = k.charges;
            front = k.front;
            behind = record { from = xs; is = refl; spelled = record { count = omega (arith, h.count); each = k.behind } };
          };
        }

each_item : {X : Type 0} (a : Align) (read : ContextReader X) (Spells : Spelling X) → ContextItem a read Spells → (n : ℕ) → ContextItem {X = List X} a (each_at read n) (EachOf Spells n)
each_item a read Spells one zero = each_none a read Spells
each_item a read Spells one (suc n) = each_more a read Spells n one (each_item a read Spells one n)

abbrev listed : List Value → Partitions → Value
listed xs q = value.items (values_of xs)

pub list_item : (a : Align) (read : ContextReader Value) (Spells : Spelling Value) → ContextItem a read Spells → ContextItem {X = Value} a (list_at read) (SpellsList Spells)
unfolding list_at
list_item a read Spells one =
    in_words a (list_at read) (Chained SpellsCount (λ n. MadeInContext listed (EachOf Spells n))) (SpellsList Spells) to from
    (chained a charged_count_at (λ n c. each_at read n c >>= λ xs. told {X = Value × ReadState} (value.items (values_of xs.0), xs.1)) SpellsCount (λ n. MadeInContext listed (EachOf Spells n)) (count_item a)
    (λ n. made a (each_at read n) listed (EachOf Spells n) (each_item a read Spells one n)))
  where
    to : (v : Value) (p q : Partitions) (ks : List Charge) (text : List Bool) → Chained SpellsCount (λ n. MadeInContext listed (EachOf Spells n)) v p q ks text → SpellsList Spells v p q ks text
    to v p q ks text z =
        let h = z.spelled in
        record {
          list = h.behind.from;
          is = sym h.behind.is;
          spelled = record {
            between = h.between;
            first = h.first;
            second = h.second;
            parts = h.parts;
            paid = h.paid;
            owed = h.owed;
            charges = h.charges;
            front = subst (λ (n : ℕ). SpellsCount n p h.between h.paid h.first) (sym h.behind.spelled.count) h.front;
            behind = h.behind.spelled.each;
          };
        }

    from : (v : Value) (p q : Partitions) (ks : List Charge) (text : List Bool) → SpellsList Spells v p q ks text → Chained SpellsCount (λ n. MadeInContext listed (EachOf Spells n)) v p q ks text
    from v p q ks text h =
        let k = h.spelled in
        record {
          from = length h.list;
          spelled = record { between = k.between; first = k.first; second = k.second; parts = k.parts; paid = k.paid; owed = k.owed; charges = k.charges; front = k.front; behind = record { from = h.list; is = sym h.is; spelled = record { count = refl; each = k.behind } } };
        }

-- ---- a string with a set of characters
abbrev as_text : List ℕ → Partitions → Value
as_text text q = value.text text

pub in_set_item : (set : List ℕ) (a : Align) (name : NameId) → ContextItem {X = Value} a (string_in set a name) (SpellsInSet set a name)
unfolding string_in
in_set_item set a name = in_words a (string_in set a name) (MadeInContext as_text (SpellsValue (Some set) a name)) (SpellsInSet set a name) to from (made a (value_at (Some set) a name) as_text (SpellsValue (Some set) a name) (item_value (Some set) a name))
  where
    to : (v : Value) (p q : Partitions) (ks : List Charge) (text : List Bool) → MadeInContext as_text (SpellsValue (Some set) a name) v p q ks text → SpellsInSet set a name v p q ks text
    to v p q ks text m = record { string = m.from; is = sym m.is; spelled = m.spelled }

    from : (v : Value) (p q : Partitions) (ks : List Charge) (text : List Bool) → SpellsInSet set a name v p q ks text → MadeInContext as_text (SpellsValue (Some set) a name) v p q ks text
    from v p q ks text h = record { from = h.string; is = sym h.is; spelled = h.spelled }

-- ---- octets
abbrev in_tables : Bool → Partitions → Result (List ℕ × Spot) Fault → Unmetered Value
in_tables hex p (Ok os) = Ok (value.binary hex os.0, (os.1, p))
in_tables hex p (Err f) = Err f

-- the number, one charge, and then the octets
abbrev octets_by : Bool → Spot → Partitions → Metering → Result (ℕ × Spot) Fault → Result (Value × ReadState) Failure
octets_by hex s p m (Ok n) = charging (one_charge n.0 s.place) m (in_tables hex p (octets_at n.0 n.1))
octets_by hex s p m (Err f) = Err (record { fault = f; meter = m })

abbrev paid : Value × Charged → Result (Value × Charged) Fault
paid p = Ok p

abbrev giving : Partitions → Value × Charged → Result (Value × ReadState) Failure
giving p x = told (x.0, read_state x.1.spot (context x.1.meter p))

pub octets_charges : (hex : Bool) (s : Spot) (p : Partitions) (m : Metering) → octets_value_at hex (read_state s (context m p)) ≡ octets_by hex s p m (unsigned_at s)
unfolding octets_value_at binary_at text_charge
octets_charges hex s p m = by_count (unsigned_at s)
  where
    by_octets : (n : Metering) (r : Result (List ℕ × Spot) Fault) → (failing n (r >>= λ os. paid (value.binary hex os.0, charged os.1 n)) >>= giving p) ≡ metered n (in_tables hex p r)
    by_octets n (Ok os) = refl
    by_octets n (Err f) = refl

    by_fit : (n : ℕ × Spot) (b : Bool) → (failing (cond b (with_text m n.0) m) (cond b (Ok (with_text m n.0)) (Err (limit_at s.place)) >>= λ k. octets_at n.0 n.1 >>= λ os. paid (value.binary hex os.0, charged os.1 k)) >>= giving p) ≡ cond b (metered (with_text m n.0) (in_tables hex p (octets_at n.0 n.1))) (Err (record { fault = limit_at s.place; meter = m }))
    by_fit n true = by_octets (with_text m n.0) (octets_at n.0 n.1)
    by_fit n false = refl

    by_count : (r : Result (ℕ × Spot) Fault) → (failing (after_count m r) (r >>= λ n. text_charge n.0 s.place m >>= λ k. octets_at n.0 n.1 >>= λ os. paid (value.binary hex os.0, charged os.1 k)) >>= giving p) ≡ octets_by hex s p m r
    by_count (Ok n) = by_fit n (text_fits m n.0)
    by_count (Err f) = refl

octets_of : Value → List ℕ
octets_of (value.binary hex octets) = octets
octets_of v = []

only_octets : (hex : Bool) (v : Value) (text : List Bool) → SpellsBinary hex v text → v ≡ value.binary hex (octets_of v)
unfolding octets_of
only_octets hex (value.binary k o) text h = ap (λ (x : Bool). value.binary x o) h.0
only_octets hex (value.text t) text h = absurd h
only_octets hex (value.boolean t d) text h = absurd h
only_octets hex (value.integer n) text h = absurd h
only_octets hex (value.decimal m w b) text h = absurd h
only_octets hex (value.float m e) text h = absurd h
only_octets hex (value.moment m) text h = absurd h
only_octets hex (value.items l) text h = absurd h
only_octets hex (value.name n) text h = absurd h

-- a meter that takes so many units
abbrev ample : ℕ → Metering
ample units = record { limits = record { events = 0; text = units; depth = 0 }; used = record { events = 0; text = 0; deepest = 0 }; level = 0 }

ample_takes : (units bit : ℕ) → text_charge units bit (ample units) ≡ fine (with_text (ample units) units)
unfolding text_charge
ample_takes units bit = let e : leb (0 + units) units ≡ true = le-leb (0 + units) units (omega arith) in rw e refl

module _ (hex : Bool) (a : Align) where
  whole_octets : (os : List ℕ) (text : List Bool) → SpellsBinary hex (value.binary hex os) text → a ≡ align.Bytes → length text % 8 ≡ 0
  whole_octets os text h e =
      let m : length h.2.first % 8 ≡ 0 = (item_unsigned a).whole (length os) h.2.first h.2.front e in
      omega (arith, m, ap length h.2.parts, length-append h.2.first h.2.second, ap length h.2.behind, length-bits os)

  octets_taking : (v : Value) (c d : ReadState) → IsBytes c.spot.bytes → IsAligned a c.spot → octets_value_at hex c ≡ told (v, d) → Went a (SpellsOctets hex v) c d
  unfolding octets_value_at
  octets_taking v c d fits al r =
      let ch = charged c.spot c.context.meter in
      let after = after_count c.context.meter (unsigned_at c.spot) in
      let u = bind_told (failing after (binary_at hex ch)) (giving c.context.tables) (v, d) r in
      let e : (u.0.0, read_state u.0.1.spot (context u.0.1.meter c.context.tables)) ≡ (v, d) = told_is (u.0.0, read_state u.0.1.spot (context u.0.1.meter c.context.tables)) (v, d) u.2 in
      let b = binary_spelled hex a u.0.0 ch u.0.1 fits al (not_failing after (binary_at hex ch) u.0 u.1) in
      let os : List ℕ = octets_of u.0.0 in
      let is : u.0.0 ≡ value.binary hex os = only_octets hex u.0.0 b.0 b.1 in
      let w = whole_octets os b.0 (subst (λ (x : Value). SpellsBinary hex x b.0) is b.1) in
      subst (λ (z : Value × ReadState). Went a (SpellsOctets hex z.0) c z.1) e (record {
        text = b.0;
        charges = one_charge (length os) 0;
        spelled = record { octets = os; is = is; spelled = b.1; charges = refl; after = refl };
        front = b.2;
        aligned = λ h. (let q : c.spot.place % 8 ≡ 0 = al h in let k = w h in omega (arith, q, k, b.2.place));
        fits = subst IsBytes (sym b.2.bytes) fits;
      })

  octets_reading : (v : Value) (s : Spot) (p q : Partitions) (ks : List Charge) (text more : List Bool) → IsBytes s.bytes → IsAligned a s → SpellsOctets hex v p q ks text → rest s ≡ text ++ more
      → (m : Metering) → octets_value_at hex (read_state s (context m p)) ≡ charging (later s.place ks) m (got v (moved s (length text)) q)
  unfolding binary_at
  octets_reading v s p q ks text more fits al h e m =
      let os : List ℕ = h.octets in
      let t : Spot = moved s (length text) in
      let big : Metering = ample (length os) in
      let last : Metering = with_text big (length os) in
      let spelled : SpellsBinary hex (value.binary hex os) text = subst (λ (x : Value). SpellsBinary hex x text) h.is h.spelled in
      let r = binary_read hex a os last text (charged s big) more fits al (ample_takes (length os) s.place) spelled e in
      let u = bind_fine (unsigned_at s) (λ (n : ℕ × Spot). text_charge n.0 s.place big >>= λ k. octets_at n.0 n.1 >>= λ o. paid (value.binary hex o.0, charged o.1 k)) (value.binary hex os, charged t last) r in
      let w = bind_fine (text_charge u.0.0 s.place big) (λ (k : Metering). octets_at u.0.0 u.0.1 >>= λ o. paid (value.binary hex o.0, charged o.1 k)) (value.binary hex os, charged t last) u.2 in
      let x = bind_fine (octets_at u.0.0 u.0.1) (λ (o : List ℕ × Spot). paid (value.binary hex o.0, charged o.1 w.0)) (value.binary hex os, charged t last) w.2 in
      let same : (value.binary hex x.0.0, charged x.0.1 w.0) ≡ (value.binary hex os, charged t last) = fine_is (value.binary hex x.0.0, charged x.0.1 w.0) (value.binary hex os, charged t last) x.2 in
      let first : unsigned_at s ≡ given (length os, moved s (length spelled.2.first)) = (item_unsigned a).again (length os) spelled.2.first s (spelled.2.second ++ more) fits al spelled.2.front (e ∙ ap (λ (z : List Bool). z ++ more) spelled.2.parts ∙ append_assoc spelled.2.first spelled.2.second more) in
      let count : u.0.0 ≡ length os = ap (λ (z : ℕ × Spot). z.0) (fine_is u.0 (length os, moved s (length spelled.2.first)) (sym u.1 ∙ first)) in
      let value_is : value.binary hex x.0.0 ≡ v = ap (λ (z : Value × Charged). z.0) same ∙ sym h.is in
      octets_charges hex s p m
      ∙ ap (λ (z : Result (ℕ × Spot) Fault). octets_by hex s p m z) u.1
      ∙ ap (λ (z : Result (List ℕ × Spot) Fault). charging (one_charge u.0.0 s.place) m (in_tables hex p z)) x.1
      ∙ ap (λ (z : Value). charging (one_charge u.0.0 s.place) m (got z x.0.1 p)) value_is
      ∙ ap (λ (z : Value × Charged). charging (one_charge u.0.0 s.place) m (got v z.1.spot p)) same
      ∙ ap (λ (z : Partitions). charging (one_charge u.0.0 s.place) m (got v t z)) (sym h.after)
      ∙ ap (λ (n : ℕ). charging (one_charge n s.place) m (got v t q)) count
      ∙ ap (λ (js : List Charge). charging js m (got v t q)) (sym (later_one (length os) s.place))
      ∙ ap (λ (js : List Charge). charging (later s.place js) m (got v t q)) (sym h.charges)

  pub octets_item : ContextItem {X = Value} a (octets_value_at hex) (SpellsOctets hex)
  octets_item = record { takes = octets_taking; again = octets_reading; whole = λ v p q ks text h. whole_octets h.octets text (subst (λ (x : Value). SpellsBinary hex x text) h.is h.spelled) }
