-- What is written is one of the spellings.
use Rattle.std.proofs.Common.{◌≡◌, ℕ, zero, suc, ◌+◌, ◌-◌, ◌^◌, ◌<◌, ◌≤◌, Bool, true, false, cond, leb, ltb, List, [], ◌∷◌, length, get_or, Option, Some, None, is_some, refl, sym, ap, ◌∙◌, subst, inl, inr, ℤ, pos, negsuc, ◌+ℤ◌, arith}
use Rattle.std.specs.Prelude.{int_le, int_lt, not}
use Rattle.std.proofs.lemmas.Bool.{and_parts, cases_lt, false≢true, le-ltb, leb-true, lt-ltb, ltb-true}
use Rattle.std.proofs.lemmas.List.Quantifiers.{position-Some}
use Rattle.exi_bits.specs.declared.align.Align.{Align}
use Rattle.exi_bits.specs.Bits.{bits}
use Rattle.exi_bits.specs.Unsigned.{shortest}
use Rattle.exi_bits.proofs.UnsignedLaws.{shortest_spelled}
use Rattle.exi_items.specs.Spellings.{SpellsUnsigned}
use Rattle.exi_moment.proofs.Whole.{moment_written}
use Rattle.exi_names.specs.Datatypes.{Representation}
use Rattle.exi_names.specs.Datatypes as datatype
use Rattle.exi_names.specs.Equality.{equal, place_among}
use Rattle.exi_names.specs.Forms.{HasNoMinusZero, IsOf, is_small, is_unsigned, is_wide, length_of}
use Rattle.exi_names.specs.Seen.{Value, Values, and, no_more, values_of}
use Rattle.exi_names.specs.Seen as value
use Rattle.exi_names.specs.Wholes.{Number}
use Rattle.exi_names.specs.declared.moment.MomentKind.{MomentKind}
use Rattle.exi_names.specs.declared.names.NameId.{NameId}
use Rattle.exi_names.specs.declared.names.QName.{QName}
use Rattle.exi_names.specs.declared.val.TheConstants.{MOST_ITEMS}
use Rattle.exi_names.proofs.Same.{equal_iff}
use Rattle.exi_scalar.specs.Scalars.{binary_bits, boolean_bits, decimal_bits, float_bits}
use Rattle.exi_scalar.specs.Spelled.{SpellsBinary, SpellsBoolean, SpellsDecimal, SpellsFloat}
use Rattle.exi_scalar.proofs.Asked.{float_asked, integer_asked}
use Rattle.exi_scalar.proofs.Binaries.{binary_written}
use Rattle.exi_scalar.proofs.Signs.{boolean_written, decimal_written, float_written, integer_written}
use Rattle.exi_tables.specs.Growth.{IsSound}
use Rattle.exi_tables.specs.Partitions.{Partitions, least_place, locals, uris, values, with_local, with_uri, with_value}
use Rattle.exi_tables.proofs.Sound.{sound_then}
use Rattle.exi_typed.specs.Charging.{one_charge}
use Rattle.exi_typed.specs.Items.{SpellsItem, qualified, string}
use Rattle.exi_typed.specs.Laws.{Spelling}
use Rattle.exi_typed.specs.Spelled.{ChargesOnly, Follows, SpellsName}
use Rattle.exi_typed.specs.Written.{after_item, after_name, after_string, after_uri, item_bits, name_bits, own_place, space_for, unless_found}
use Rattle.exi_typed.specs.WrittenLaws.{IsWritten, name_units, named_for}
use Rattle.exi_typed.proofs.WrittenSpelled.{name_written, string_written, written_then}
use Rattle.exi_values.specs.Readings.{number_of, units_in}
use Rattle.exi_values.specs.Spelled.{SpellsCharged, SpellsChoice, SpellsCount, SpellsDated, SpellsEach, SpellsEnumerated, SpellsInSet, SpellsList, SpellsNatural, SpellsOctets, SpellsSmall, SpellsValued, SpellsWhole}
use Rattle.exi_values.specs.Valued.{is_measured}
use Rattle.exi_values.specs.Written.{after_list, after_row, after_set, after_valued, choice_bits, chosen_bits, dated_bits, list_bits, natural_bits, place_from, row_bits, set_bits, small_bits, valued_bits, whole_bits}
use Rattle.exi_values.specs.WrittenLaws.{CanWriteList, CanWriteNamed, CanWriteRow, CanWriteText, CanWriteValue, ValuesAreWritten, choice_units, list_units, named_units, row_units, valued_units}

-- ---- one unit, and then bits
charged_written : (Bits : Value → List Bool → Type 0) (v : Value) (p : Partitions) (text : List Bool) → Bits v text → IsWritten (SpellsCharged Bits v) (1 ∷ []) p p text
charged_written Bits v p text h = record { charges = one_charge 1 0; are = refl; spelled = record { spelled = h; charges = refl; after = refl } }

-- ---- integers of a bounded range
record InRange (least : ℤ) (count : ℕ) (n : Number) : Type 0 where
  below : place_from least n < count
  back : number_of (least +ℤ pos (place_from least n)) ≡ n

abbrev number : Bool → ℕ → Number
number minus size = record { minus = minus; size = size }

-- a least one above 0 or 0 has numbers above it
up_from : (l count size : ℕ) → int_le (pos l) (pos size) ≡ true → int_lt (pos size) (pos l +ℤ pos count) ≡ true → InRange (pos l) count (number false size)
up_from l count size low high =
    let le : l ≤ size = leb-true l size low in
    let lt : size < l + count = ltb-true size (l + count) high in
    let e : l + (size - l) ≡ size = omega (arith, le) in
    record { below = omega (arith, le, lt); back = ap (λ (k : ℕ). number false k) e }

-- from one below 0 up to one below 0
both_below : (l count size : ℕ) → int_le (negsuc l) (negsuc size) ≡ true → int_lt (negsuc size) (negsuc l +ℤ pos count) ≡ true → InRange (negsuc l) count (number true (suc size))
both_below l count size low high =
    let le : size ≤ l = leb-true size l low in
    let near : suc l - suc size < suc l = omega (arith, le) in
    let e : suc (suc l - suc (suc l - suc size)) ≡ suc size = omega (arith, le) in
    record { below = by_count (ltb count (suc l)) refl high; back = rw (lt-ltb (suc l - suc size) (suc l) near) (ap (λ (k : ℕ). number true k) e) }
  where
    by_count : (b : Bool) → ltb count (suc l) ≡ b → int_lt (negsuc size) (cond b (negsuc (suc l - suc count)) (pos (count - suc l))) ≡ true → suc l - suc size < count
    by_count true few h =
        let lt : count < suc l = ltb-true count (suc l) few in
        let far : suc l - suc count < size = ltb-true (suc l - suc count) size h in
        let le : size ≤ l = leb-true size l low in
        omega (arith, lt, far, le)
    by_count false few h = elim (cases_lt count (suc l)) [
      | inl lt ↦ absurd (false≢true (sym few ∙ lt-ltb count (suc l) lt))
      | inr le ↦ omega (arith, le)
    ]

-- and up to one that is not
past_zero : (l count size : ℕ) → int_lt (pos size) (negsuc l +ℤ pos count) ≡ true → InRange (negsuc l) count (number false size)
past_zero l count size high =
    let over : suc l ≤ size + suc l = omega arith in
    let e : size + suc l - suc l ≡ size = omega arith in
    record { below = by_count (ltb count (suc l)) refl high; back = rw (le-ltb (size + suc l) (suc l) over) (ap (λ (k : ℕ). number false k) e) }
  where
    by_count : (b : Bool) → ltb count (suc l) ≡ b → int_lt (pos size) (cond b (negsuc (suc l - suc count)) (pos (count - suc l))) ≡ true → size + suc l < count
    by_count true few h = absurd (false≢true h)
    by_count false few h = let lt : size < count - suc l = ltb-true size (count - suc l) h in omega (arith, lt)

in_range : (least : ℤ) (count : ℕ) (minus : Bool) (size : ℕ) → HasNoMinusZero (number minus size) → is_small least count (number minus size) ≡ true → InRange least count (number minus size)
in_range (pos l) count false size plain h = let k = and_parts (int_le (pos l) (pos size)) (int_lt (pos size) (pos l +ℤ pos count)) h in up_from l count size k.0 k.1
in_range (pos l) count true zero plain h = absurd (false≢true (sym (plain refl)))
in_range (pos l) count true (suc size) plain h = absurd (false≢true h)
in_range (negsuc l) count false size plain h = let k = and_parts (int_le (negsuc l) (pos size)) (int_lt (pos size) (negsuc l +ℤ pos count)) h in past_zero l count size k.1
in_range (negsuc l) count true zero plain h = absurd (false≢true (sym (plain refl)))
in_range (negsuc l) count true (suc size) plain h = let k = and_parts (int_le (negsuc l) (negsuc size)) (int_lt (negsuc size) (negsuc l +ℤ pos count)) h in both_below l count size k.0 k.1

small_spelled : (least : ℤ) (count : ℕ) (a : Align) (v : Value) → IsOf (datatype.small least count) v → SpellsSmall least count a v (small_bits least count a v)
small_spelled least count a (value.integer n) h =
    let k = in_range least count n.minus n.size h.0 (and_parts (is_wide n) (is_small least count n) h.1).1 in
    record { from = place_from least n; is = ap (λ (m : Number). value.integer m) k.back; spelled = (k.below, refl) }
small_spelled least count a (value.text t) h = absurd h
small_spelled least count a (value.boolean t d) h = absurd h
small_spelled least count a (value.decimal m w b) h = absurd h
small_spelled least count a (value.float m e) h = absurd h
small_spelled least count a (value.moment m) h = absurd h
small_spelled least count a (value.binary k o) h = absurd h
small_spelled least count a (value.items l) h = absurd h
small_spelled least count a (value.name n) h = absurd h

-- ---- other values of bits alone
shortly : (n : ℕ) → n < 2 ^ 128 → SpellsUnsigned n (bits (shortest n))
shortly n lt = record { octets = shortest n; unsigned = shortest_spelled n lt; bits = refl }

natural_by : (minus : Bool) (size : ℕ) → is_unsigned (number minus size) ≡ true → SpellsNatural (value.integer (number minus size)) (bits (shortest size))
natural_by true size h = absurd (false≢true h)
natural_by false size h = record { from = size; is = refl; spelled = shortly size (ltb-true size (2 ^ 128) h) }

natural_spelled : (v : Value) → IsOf datatype.unsigned v → SpellsNatural v (natural_bits v)
natural_spelled (value.integer n) h = natural_by n.minus n.size h.1
natural_spelled (value.text t) h = absurd h
natural_spelled (value.boolean t d) h = absurd h
natural_spelled (value.decimal m w b) h = absurd h
natural_spelled (value.float m e) h = absurd h
natural_spelled (value.moment m) h = absurd h
natural_spelled (value.binary k o) h = absurd h
natural_spelled (value.items l) h = absurd h
natural_spelled (value.name n) h = absurd h

whole_spelled : (a : Align) (v : Value) → IsOf datatype.integer v → SpellsWhole a v (whole_bits a v)
whole_spelled a (value.integer n) h = let k = (integer_asked n).0 h in record { from = n; is = refl; spelled = integer_written a n k.0 k.1 }
whole_spelled a (value.text t) h = absurd h
whole_spelled a (value.boolean t d) h = absurd h
whole_spelled a (value.decimal m w b) h = absurd h
whole_spelled a (value.float m e) h = absurd h
whole_spelled a (value.moment m) h = absurd h
whole_spelled a (value.binary k o) h = absurd h
whole_spelled a (value.items l) h = absurd h
whole_spelled a (value.name n) h = absurd h

truth_spelled : (pattern : Bool) (a : Align) (v : Value) → IsOf (datatype.boolean pattern) v → SpellsBoolean pattern a v (boolean_bits pattern a v)
truth_spelled pattern a (value.boolean t d) h = boolean_written pattern a (value.boolean t d) h
truth_spelled pattern a (value.integer n) h = absurd h
truth_spelled pattern a (value.text t) h = absurd h
truth_spelled pattern a (value.decimal m w b) h = absurd h
truth_spelled pattern a (value.float m e) h = absurd h
truth_spelled pattern a (value.moment m) h = absurd h
truth_spelled pattern a (value.binary k o) h = absurd h
truth_spelled pattern a (value.items l) h = absurd h
truth_spelled pattern a (value.name n) h = absurd h

decimal_spelled : (a : Align) (v : Value) → IsOf datatype.decimal v → SpellsDecimal a v (decimal_bits a v)
decimal_spelled a (value.decimal m w b) h = decimal_written a m w b h.0 h.1
decimal_spelled a (value.integer n) h = absurd h
decimal_spelled a (value.text t) h = absurd h
decimal_spelled a (value.boolean t d) h = absurd h
decimal_spelled a (value.float m e) h = absurd h
decimal_spelled a (value.moment m) h = absurd h
decimal_spelled a (value.binary k o) h = absurd h
decimal_spelled a (value.items l) h = absurd h
decimal_spelled a (value.name n) h = absurd h

float_spelled : (a : Align) (v : Value) → IsOf datatype.float v → SpellsFloat a v (float_bits a v)
float_spelled a (value.float m e) h = let k = (float_asked m e).0 h in float_written a m e k.0 k.1
float_spelled a (value.integer n) h = absurd h
float_spelled a (value.text t) h = absurd h
float_spelled a (value.boolean t d) h = absurd h
float_spelled a (value.decimal m w b) h = absurd h
float_spelled a (value.moment m) h = absurd h
float_spelled a (value.binary k o) h = absurd h
float_spelled a (value.items l) h = absurd h
float_spelled a (value.name n) h = absurd h

dated_spelled : (k : MomentKind) (a : Align) (v : Value) → IsOf (datatype.moment k) v → SpellsDated k a v (dated_bits a v)
dated_spelled k a (value.moment m) h = record { from = m; is = refl; spelled = record { kind_is = h.0; ranges = h.1; year = h.2; spelled = moment_written m a h.2 h.3 } }
dated_spelled k a (value.integer n) h = absurd h
dated_spelled k a (value.text t) h = absurd h
dated_spelled k a (value.boolean t d) h = absurd h
dated_spelled k a (value.decimal m w b) h = absurd h
dated_spelled k a (value.float m e) h = absurd h
dated_spelled k a (value.binary j o) h = absurd h
dated_spelled k a (value.items l) h = absurd h
dated_spelled k a (value.name n) h = absurd h

-- ---- octets
octets_written : (hex : Bool) (p : Partitions) (v : Value) → IsOf (datatype.binary hex) v → units_in v < 2 ^ 128 → IsWritten (SpellsOctets hex v) (units_in v ∷ []) p p (binary_bits v)
octets_written hex p (value.binary k os) h lt =
    let spelled : SpellsBinary hex (value.binary k os) (binary_bits (value.binary k os)) = subst (λ (b : Bool). SpellsBinary hex (value.binary b os) (binary_bits (value.binary b os))) (sym h.0) (binary_written hex os h.1 lt) in
    record { charges = one_charge (length os) 0; are = refl; spelled = record { octets = os; is = ap (λ (b : Bool). value.binary b os) h.0; spelled = spelled; charges = refl; after = refl } }
octets_written hex p (value.integer n) h lt = absurd h
octets_written hex p (value.text t) h lt = absurd h
octets_written hex p (value.boolean t d) h lt = absurd h
octets_written hex p (value.decimal m w b) h lt = absurd h
octets_written hex p (value.float m e) h lt = absurd h
octets_written hex p (value.moment m) h lt = absurd h
octets_written hex p (value.items l) h lt = absurd h
octets_written hex p (value.name n) h lt = absurd h

-- ---- enumerations
chosen_spelled : (vs : List Value) (a : Align) (v : Value) (o : Option ℕ) → place_among v vs ≡ o → is_some o ≡ true → SpellsEnumerated vs a v (chosen_bits (length vs) a o)
chosen_spelled vs a v None e h = absurd (false≢true h)
chosen_spelled vs a v (Some place) e h =
    let k = position-Some (λ w. equal v w) vs place (value.text []) e in
    record { from = place; is = sym ((equal_iff v (get_or vs place (value.text []))).0 k.1); spelled = (k.0, refl) }

choice_written : (b : Bool) (vs : List Value) (a : Align) (p : Partitions) (v : Value) → is_some (place_among v vs) ≡ true → IsWritten (SpellsChoice b vs a v) (choice_units b v) p p (choice_bits vs a v)
choice_written true vs a p v h = record {
  charges = one_charge (units_in v) (length (choice_bits vs a v));
  are = refl;
  spelled = record { spelled = chosen_spelled vs a v (place_among v vs) refl h; charges = refl; after = refl };
}
choice_written false vs a p v h = charged_written (SpellsEnumerated vs a) v p (choice_bits vs a v) (chosen_spelled vs a v (place_among v vs) refl h)

-- ---- strings and names
text_written : (a : Align) (name : NameId) (p : Partitions) (v : Value) → IsSound p.values → CanWriteText v → IsWritten (SpellsItem string a name v) (units_in v ∷ []) p (after_item datatype.text p name v) (item_bits datatype.text a p name v)
text_written a name p (value.text x) sound can =
    let w = string_written None a name x p sound can in
    record { charges = w.charges; are = w.are; spelled = record { string = x; is = refl; spelled = w.spelled } }
text_written a name p (value.integer n) sound can = absurd can
text_written a name p (value.boolean t d) sound can = absurd can
text_written a name p (value.decimal m w b) sound can = absurd can
text_written a name p (value.float m e) sound can = absurd can
text_written a name p (value.moment m) sound can = absurd can
text_written a name p (value.binary j o) sound can = absurd can
text_written a name p (value.items l) sound can = absurd can
text_written a name p (value.name n) sound can = absurd can

in_set_written : (set : List ℕ) (a : Align) (name : NameId) (p : Partitions) (v : Value) → IsSound p.values → CanWriteText v → IsWritten (SpellsInSet set a name v) (units_in v ∷ []) p (after_set p name v) (set_bits set a p name v)
in_set_written set a name p (value.text x) sound can =
    let w = string_written (Some set) a name x p sound can in
    record { charges = w.charges; are = w.are; spelled = record { string = x; is = refl; spelled = w.spelled } }
in_set_written set a name p (value.integer n) sound can = absurd can
in_set_written set a name p (value.boolean t d) sound can = absurd can
in_set_written set a name p (value.decimal m w b) sound can = absurd can
in_set_written set a name p (value.float m e) sound can = absurd can
in_set_written set a name p (value.moment m) sound can = absurd can
in_set_written set a name p (value.binary j o) sound can = absurd can
in_set_written set a name p (value.items l) sound can = absurd can
in_set_written set a name p (value.name n) sound can = absurd can

named_written : (keep : Bool) (a : Align) (name : NameId) (p : Partitions) (v : Value) → CanWriteNamed keep p v → IsWritten (SpellsItem (qualified keep) a name v) (named_units v) p (after_item (datatype.name keep) p name v) (item_bits (datatype.name keep) a p name v)
named_written keep a name p (value.name n) can =
    let unit : IsWritten (ChargesOnly (one_charge 1 0)) (1 ∷ []) p p [] = record { charges = one_charge 1 0; are = refl; spelled = record { bits = refl; charges = refl; after = refl } } in
    let w = written_then (ChargesOnly (one_charge 1 0)) (SpellsName keep a (named_for p n)) (1 ∷ []) (name_units n) p p (after_name p n) [] (name_bits keep a p n) unit (name_written keep a n p can) in
    record { charges = w.charges; are = w.are; spelled = record { name = named_for p n; is = refl; spelled = w.spelled } }
named_written keep a name p (value.text x) can = absurd can
named_written keep a name p (value.integer n) can = absurd can
named_written keep a name p (value.boolean t d) can = absurd can
named_written keep a name p (value.decimal m w b) can = absurd can
named_written keep a name p (value.float m e) can = absurd can
named_written keep a name p (value.moment m) can = absurd can
named_written keep a name p (value.binary j o) can = absurd can
named_written keep a name p (value.items l) can = absurd can

-- ---- tables that grew from the first ones
unless_sound : (o : Option ℕ) (p q : Partitions) → IsSound p.values → IsSound q.values → IsSound (unless_found o p q).values
unless_sound (Some place) p q s t = s
unless_sound None p q s t = t

string_sound : (p : Partitions) (name : NameId) (x : List ℕ) → IsSound p.values → IsSound (after_string p name x).values
string_sound p name x s =
    unless_sound (own_place p name x) p (unless_found (least_place (values p) x) p (with_value p name x)) s
    (unless_sound (least_place (values p) x) p (with_value p name x) s (sound_then p.values name x s))

named_sound : (p : Partitions) (n : QName) → IsSound p.values → IsSound (after_name p n).values
named_sound p n s =
    let q : Partitions = after_uri p n.uri in
    let t : IsSound q.values = unless_sound (least_place (uris p) n.uri) p (with_uri p n.uri) s s in
    unless_sound (least_place (locals q (space_for p n.uri)) n.local) q (with_local q (space_for p n.uri) n.local) t t

text_sound : (p : Partitions) (name : NameId) (v : Value) → IsSound p.values → IsSound (after_item datatype.text p name v).values
text_sound p name (value.text x) s = string_sound p name x s
text_sound p name (value.integer n) s = s
text_sound p name (value.boolean t d) s = s
text_sound p name (value.decimal m w b) s = s
text_sound p name (value.float m e) s = s
text_sound p name (value.moment m) s = s
text_sound p name (value.binary j o) s = s
text_sound p name (value.items l) s = s
text_sound p name (value.name n) s = s

set_sound : (p : Partitions) (name : NameId) (v : Value) → IsSound p.values → IsSound (after_set p name v).values
set_sound p name (value.text x) s = string_sound p name x s
set_sound p name (value.integer n) s = s
set_sound p name (value.boolean t d) s = s
set_sound p name (value.decimal m w b) s = s
set_sound p name (value.float m e) s = s
set_sound p name (value.moment m) s = s
set_sound p name (value.binary j o) s = s
set_sound p name (value.items l) s = s
set_sound p name (value.name n) s = s

name_sound : (keep : Bool) (p : Partitions) (name : NameId) (v : Value) → IsSound p.values → IsSound (after_item (datatype.name keep) p name v).values
name_sound keep p name (value.name n) s = named_sound p n s
name_sound keep p name (value.text x) s = s
name_sound keep p name (value.integer n) s = s
name_sound keep p name (value.boolean t d) s = s
name_sound keep p name (value.decimal m w b) s = s
name_sound keep p name (value.float m e) s = s
name_sound keep p name (value.moment m) s = s
name_sound keep p name (value.binary j o) s = s
name_sound keep p name (value.items l) s = s

row_sound : (after : Partitions → Value → Partitions) → ((v : Value) (p : Partitions) → IsSound p.values → IsSound (after p v).values) → (vs : Values) (p : Partitions) → IsSound p.values → IsSound (after_row after p vs).values
row_sound after one no_more p s = s
row_sound after one (and v vs) p s = row_sound after one vs (after p v) (one v p s)

list_sound : (after : Partitions → Value → Partitions) → ((v : Value) (p : Partitions) → IsSound p.values → IsSound (after p v).values) → (v : Value) (p : Partitions) → IsSound p.values → IsSound (after_list after p v).values
list_sound after one (value.items vs) p s = row_sound after one vs p s
list_sound after one (value.text x) p s = s
list_sound after one (value.integer n) p s = s
list_sound after one (value.boolean t d) p s = s
list_sound after one (value.decimal m w b) p s = s
list_sound after one (value.float m e) p s = s
list_sound after one (value.moment m) p s = s
list_sound after one (value.binary j o) p s = s
list_sound after one (value.name n) p s = s

pub stays_sound : (r : Representation) (name : NameId) (v : Value) (p : Partitions) → IsSound p.values → IsSound (after_valued r name p v).values
unfolding after_valued
stays_sound (datatype.small least count) name v p s = s
stays_sound datatype.unsigned name v p s = s
stays_sound datatype.integer name v p s = s
stays_sound (datatype.boolean pattern) name v p s = s
stays_sound (datatype.binary hex) name v p s = s
stays_sound datatype.decimal name v p s = s
stays_sound datatype.float name v p s = s
stays_sound (datatype.moment m) name v p s = s
stays_sound (datatype.list item) name v p s = list_sound (after_valued item name) (stays_sound item name) v p s
stays_sound (datatype.choice base vs) name v p s = s
stays_sound datatype.text name v p s = text_sound p name v s
stays_sound (datatype.chars set) name v p s = set_sound p name v s
stays_sound (datatype.name keep) name v p s = name_sound keep p name v s

-- ---- lists
abbrev listed : Values → List Value
listed no_more = []
listed (and v vs) = v ∷ listed vs

listed_back : (vs : Values) → values_of (listed vs) ≡ vs
listed_back no_more = refl
listed_back (and v vs) = ap (λ (ws : Values). and v ws) (listed_back vs)

length_listed : (vs : Values) → length_of vs ≡ length (listed vs)
length_listed no_more = refl
length_listed (and v vs) = ap suc (length_listed vs)

module _ (Item : Spelling Value) (Can : Partitions → Value → Type 0) (after : Partitions → Value → Partitions) (one : Partitions → Value → List Bool) (units : Value → List ℕ) (sound : (v : Value) (p : Partitions) → IsSound p.values → IsSound (after p v).values)
    (write : (p : Partitions) (v : Value) → IsSound p.values → Can p v → IsWritten (Item v) (units v) p (after p v) (one p v)) where
  row_written : (vs : Values) (p : Partitions) → IsSound p.values → CanWriteRow Can after p vs → IsWritten (SpellsEach Item (listed vs)) (row_units units vs) p (after_row after p vs) (row_bits one after p vs)
  row_written no_more p s can = record { charges = []; are = refl; spelled = record { bits = refl; charges = refl; after = refl } }
  row_written (and v vs) p s can =
      let w = written_then (Item v) (SpellsEach Item (listed vs)) (units v) (row_units units vs) p (after p v) (after_row after (after p v) vs) (one p v) (row_bits one after (after p v) vs) (write p v s can.0) (row_written vs (after p v) (sound v p s) can.1) in
      record { charges = w.charges; are = w.are; spelled = w.spelled }

  count_written : (n : ℕ) (p : Partitions) → n ≤ MOST_ITEMS → IsWritten (SpellsCount n) (n ∷ []) p p (bits (shortest n))
  count_written n p few = record { charges = one_charge n 0; are = refl; spelled = record { few = few; spelled = shortly n (omega (arith, few)); charges = refl; after = refl } }

  list_written : (v : Value) (p : Partitions) → IsSound p.values → CanWriteList Can after p v → IsWritten (SpellsList Item v) (list_units units v) p (after_list after p v) (list_bits one after p v)
  list_written (value.items vs) p s can =
      let w = written_then (SpellsCount (length_of vs)) (SpellsEach Item (listed vs)) (length_of vs ∷ []) (row_units units vs) p p (after_row after p vs) (bits (shortest (length_of vs))) (row_bits one after p vs) (count_written (length_of vs) p can.0) (row_written vs p s can.1) in
      record {
        charges = w.charges;
        are = w.are;
        spelled = record {
          list = listed vs;
          is = ap (λ (ws : Values). value.items ws) (sym (listed_back vs));
          spelled = subst (λ (n : ℕ). Follows (SpellsCount n) (SpellsEach Item (listed vs)) p (after_row after p vs) w.charges (list_bits one after p (value.items vs))) (length_listed vs) w.spelled;
        };
      }
  list_written (value.text x) p s can = absurd can
  list_written (value.integer n) p s can = absurd can
  list_written (value.boolean t d) p s can = absurd can
  list_written (value.decimal m w b) p s can = absurd can
  list_written (value.float m e) p s can = absurd can
  list_written (value.moment m) p s can = absurd can
  list_written (value.binary j o) p s can = absurd can
  list_written (value.name n) p s can = absurd can

-- ---- every datatype
pub values_written : ValuesAreWritten
unfolding after_valued valued_bits valued_units
values_written (datatype.small least count) a name p v s can = charged_written (SpellsSmall least count a) v p (small_bits least count a v) (small_spelled least count a v can)
values_written datatype.unsigned a name p v s can = charged_written SpellsNatural v p (natural_bits v) (natural_spelled v can)
values_written datatype.integer a name p v s can = charged_written (SpellsWhole a) v p (whole_bits a v) (whole_spelled a v can)
values_written (datatype.boolean pattern) a name p v s can = charged_written (SpellsBoolean pattern a) v p (boolean_bits pattern a v) (truth_spelled pattern a v can)
values_written (datatype.binary hex) a name p v s can = octets_written hex p v can.0 can.1
values_written datatype.decimal a name p v s can = charged_written (SpellsDecimal a) v p (decimal_bits a v) (decimal_spelled a v can)
values_written datatype.float a name p v s can = charged_written (SpellsFloat a) v p (float_bits a v) (float_spelled a v can)
values_written (datatype.moment k) a name p v s can = charged_written (SpellsDated k a) v p (dated_bits a v) (dated_spelled k a v can)
values_written (datatype.list item) a name p v s can =
    list_written (SpellsValued item a name) (CanWriteValue item name) (after_valued item name) (valued_bits item a name) (valued_units item) (stays_sound item name) (λ q w t h. values_written item a name q w t h) v p s can
values_written (datatype.choice base vs) a name p v s can = choice_written (is_measured base) vs a p v can
values_written datatype.text a name p v s can = text_written a name p v s can
values_written (datatype.chars set) a name p v s can = in_set_written set a name p v s can
values_written (datatype.name keep) a name p v s can = named_written keep a name p v can
