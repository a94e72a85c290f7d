-- Nothing that reading a value charges passes its limit, wherever it ends.
use Rattle.std.proofs.Common.{ℕ, zero, suc, Bool, true, false, List, [], ◌∷◌, Some, None, Result, Ok, Err, sym, subst}
use Rattle.exi_bits.specs.declared.align.Align.{Align}
use Rattle.exi_bits.specs.Bits.{Spot}
use Rattle.exi_bits.specs.Repeat.{Reader, octets_at}
use Rattle.exi_bits.specs.Unsigned.{◌>>=◌, unsigned_at}
use Rattle.exi_items.specs.Charges.{text_charge}
use Rattle.exi_meter.specs.Metering.{Bounds, Metering}
use Rattle.exi_names.specs.Datatypes as datatype
use Rattle.exi_names.specs.Seen.{Value, values_of}
use Rattle.exi_names.specs.Seen as value
use Rattle.exi_names.specs.declared.names.NameId.{NameId}
use Rattle.exi_scalar.specs.Scalars.{boolean_at, decimal_at, float_at}
use Rattle.exi_typed.specs.Items.{item_at, qualified, string}
use Rattle.exi_typed.specs.Limits.{EndsWithin, StaysWithin}
use Rattle.exi_typed.specs.NameValues.{name_value_at}
use Rattle.exi_typed.specs.ReadStates.{ContextReader, Failure, ReadState, failing}
use Rattle.exi_typed.specs.Strings.{value_at}
use Rattle.exi_typed.proofs.ContextItems.{context, read_state, told}
use Rattle.exi_typed.proofs.Limits.{name_value_within, value_within}
use Rattle.exi_values.specs.Promises.{ValuesStayWithin}
use Rattle.exi_values.specs.Readings.{charged_count_at, charged_first, choice_at, count_at, dated_at, each_at, enumerated_at, list_at, measured_at, natural_at, octets_value_at, small_at, string_in, units_in, whole_at}
use Rattle.exi_values.specs.Valued.{is_measured, valued_at}
use Rattle.exi_values.proofs.Counted.{behind_count, counted_within, fine_behind, fine_paying, octets_same}

-- ---- put together
fine_bind : {X Y : Type 0} (limits : Bounds) (r : Result (X × ReadState) Failure) (two : X → ContextReader Y) → EndsWithin limits r → ((x : X) → StaysWithin (two x)) → EndsWithin limits (r >>= λ x. two x.0 x.1)
fine_bind limits (Ok x) two f more = more x.0 limits x.1 f
fine_bind limits (Err e) two f more = f

bind_within : {X Y : Type 0} (one : ContextReader X) (two : X → ContextReader Y) → StaysWithin one → ((x : X) → StaysWithin (two x)) → StaysWithin {X = Y} (λ c. one c >>= λ x. two x.0 x.1)
bind_within one two first more limits c w = fine_bind limits (one c) two (first limits c w) more

given_within : {X : Type 0} (x : X) → StaysWithin {X = X} (λ c. told (x, c))
given_within x limits c w = w

first_within : (read : Reader Value) → StaysWithin (charged_first read)
unfolding charged_first
first_within read limits c w =
    fine_paying limits c.context.meter 1 c.spot.place (λ (m : Metering). failing m (read c.spot) >>= λ x. told {X = Value × ReadState} (x.0, read_state x.1 (context m c.context.tables))) w
    (λ m k. fine_behind limits m (read c.spot) (λ (x : Value × Spot). told {X = Value × ReadState} (x.0, read_state x.1 (context m c.context.tables))) k (λ x. k))

measured_within : (vs : List Value) (a : Align) → StaysWithin (measured_at vs a)
unfolding measured_at
measured_within vs a limits c w =
    fine_behind limits c.context.meter (enumerated_at vs a c.spot) (λ (x : Value × Spot). failing c.context.meter (text_charge (units_in x.0) x.1.place c.context.meter) >>= λ meter. told {X = Value × ReadState} (x.0, read_state x.1 (context meter c.context.tables))) w
    (λ x. fine_paying limits c.context.meter (units_in x.0) x.1.place (λ (meter : Metering). told {X = Value × ReadState} (x.0, read_state x.1 (context meter c.context.tables))) w (λ m k. k))

choice_within : (b : Bool) (vs : List Value) (a : Align) → StaysWithin (choice_at b vs a)
choice_within true vs a = measured_within vs a
choice_within false vs a = first_within (enumerated_at vs a)

count_within : StaysWithin charged_count_at
unfolding charged_count_at
count_within = counted_within count_at (λ n c. told {X = ℕ × ReadState} (n, c)) (λ n. given_within n)

each_within : {X : Type 0} (read : ContextReader X) → StaysWithin read → (n : ℕ) → StaysWithin {X = List X} (each_at read n)
unfolding each_at
each_within {X} read f zero = given_within {X = List X} []
each_within {X} read f (suc n) = bind_within read (λ x c. each_at read n c >>= λ xs. told {X = List X × ReadState} (x ∷ xs.0, xs.1)) f (λ x. bind_within (each_at read n) (λ xs c. told {X = List X × ReadState} (x ∷ xs, c)) (each_within read f n) (λ xs. given_within (x ∷ xs)))

list_within : (read : ContextReader Value) → StaysWithin read → StaysWithin (list_at read)
unfolding list_at
list_within read f = bind_within charged_count_at (λ n c. each_at read n c >>= λ xs. told {X = Value × ReadState} (value.items (values_of xs.0), xs.1)) count_within
    (λ n. bind_within (each_at read n) (λ xs c. told {X = Value × ReadState} (value.items (values_of xs), c)) (each_within read f n) (λ xs. given_within (value.items (values_of xs))))

octets_behind : (hex : Bool) (n : ℕ) → StaysWithin (behind_count hex n)
octets_behind hex n limits c w = fine_behind limits c.context.meter (octets_at n c.spot) (λ (os : List ℕ × Spot). told {X = Value × ReadState} (value.binary hex os.0, read_state os.1 c.context)) w (λ os. w)

octets_within : (hex : Bool) → StaysWithin (octets_value_at hex)
octets_within hex limits c w = subst (λ (r : Result (Value × ReadState) Failure). EndsWithin limits r) (sym (octets_same hex c)) (counted_within unsigned_at (behind_count hex) (octets_behind hex) limits c w)

in_set_within : (set : List ℕ) (a : Align) (name : NameId) → StaysWithin (string_in set a name)
unfolding string_in
in_set_within set a name = bind_within (value_at (Some set) a name) (λ text c. told {X = Value × ReadState} (value.text text, c)) (value_within (Some set) a name) (λ text. given_within (value.text text))

text_within : (a : Align) (name : NameId) → StaysWithin (item_at string a name)
unfolding item_at
text_within a name = bind_within (value_at None a name) (λ text c. told {X = Value × ReadState} (value.text text, c)) (value_within None a name) (λ text. given_within (value.text text))

name_within : (keep : Bool) (a : Align) (name : NameId) → StaysWithin (item_at (qualified keep) a name)
unfolding item_at
name_within keep a name = bind_within (name_value_at keep a) (λ n c. told {X = Value × ReadState} (value.name n.name, c)) (name_value_within keep a) (λ n. given_within (value.name n.name))

-- ---- every datatype
pub values_stay_within : ValuesStayWithin
unfolding valued_at
values_stay_within (datatype.small least count) a name = first_within (small_at least count a)
values_stay_within datatype.unsigned a name = first_within natural_at
values_stay_within datatype.integer a name = first_within (whole_at a)
values_stay_within (datatype.boolean pattern) a name = first_within (boolean_at pattern a)
values_stay_within (datatype.binary hex) a name = octets_within hex
values_stay_within datatype.decimal a name = first_within (decimal_at a)
values_stay_within datatype.float a name = first_within (float_at a)
values_stay_within (datatype.moment kind) a name = first_within (dated_at kind a)
values_stay_within (datatype.list item) a name = list_within (valued_at item a name) (values_stay_within item a name)
values_stay_within (datatype.choice base values) a name = choice_within (is_measured base) values a
values_stay_within datatype.text a name = text_within a name
values_stay_within (datatype.chars set) a name = in_set_within set a name
values_stay_within (datatype.name keep) a name = name_within keep a name
