-- Reading a value charges a list of texts, whatever the meter is.
use Rattle.std.proofs.Common.{ℕ, zero, suc, Bool, true, false, List, [], ◌∷◌, Some, ◌∙◌}
use Rattle.exi_bits.specs.declared.align.Align.{Align}
use Rattle.exi_bits.specs.Repeat.{Reader, octets_at}
use Rattle.exi_bits.specs.Unsigned.{◌>>=◌, unsigned_at}
use Rattle.exi_items.specs.Charges.{text_charge}
use Rattle.exi_names.specs.Datatypes as datatype
use Rattle.exi_names.specs.Seen.{Value, values_of}
use Rattle.exi_names.specs.Seen as value
use Rattle.exi_names.specs.declared.names.NameId.{NameId}
use Rattle.exi_scalar.specs.Scalars.{boolean_at, decimal_at, float_at}
use Rattle.exi_typed.specs.Items.{qualified, string}
use Rattle.exi_typed.specs.Metered.{IsMetered}
use Rattle.exi_typed.specs.ReadStates.{ContextReader, ReadState, at_spot_of, failing}
use Rattle.exi_typed.specs.Strings.{value_at}
use Rattle.exi_typed.proofs.ContextItems.{context, read_state, told}
use Rattle.exi_typed.proofs.Meters.{behind_metered, bind_metered, item_metered, paying_metered, pure_metered, value_metered}
use Rattle.exi_values.specs.Promises.{ValuesAreMetered}
use Rattle.exi_values.specs.Readings.{charged_count_at, charged_first, choice_at, count_at, dated_at, each_at, enumerated_at, list_at, measured_at, natural_at, octets_value_at, small_at, string_in, units_in, whole_at}
use Rattle.exi_values.specs.Valued.{is_measured, valued_at}
use Rattle.exi_values.proofs.Counted.{behind_count, counted_metered, octets_same}

first_metered : (read : Reader Value) → IsMetered (charged_first read)
unfolding charged_first
first_metered read = paying_metered 1 (λ c. failing c.context.meter (read c.spot) >>= λ x. told {X = Value × ReadState} (x.0, at_spot_of c x.1)) (behind_metered read (λ v c. told {X = Value × ReadState} (v, c)) (λ v. pure_metered v))

measured_metered : (vs : List Value) (a : Align) → IsMetered (measured_at vs a)
unfolding measured_at
measured_metered vs a = behind_metered (enumerated_at vs a) (λ v c. failing c.context.meter (text_charge (units_in v) c.spot.place c.context.meter) >>= λ meter. told {X = Value × ReadState} (v, read_state c.spot (context meter c.context.tables)))
    (λ v. paying_metered (units_in v) (λ c. told {X = Value × ReadState} (v, c)) (pure_metered v))

choice_metered : (b : Bool) (vs : List Value) (a : Align) → IsMetered (choice_at b vs a)
choice_metered true vs a = measured_metered vs a
choice_metered false vs a = first_metered (enumerated_at vs a)

count_metered : IsMetered charged_count_at
unfolding charged_count_at
count_metered = counted_metered (λ n c. told {X = ℕ × ReadState} (n, c)) (λ n. pure_metered n) count_at

each_metered : {X : Type 0} (read : ContextReader X) → IsMetered read → (n : ℕ) → IsMetered {X = List X} (each_at read n)
unfolding each_at
each_metered read f zero = pure_metered []
each_metered {X} read f (suc n) = bind_metered read (λ x c. each_at read n c >>= λ xs. told {X = List X × ReadState} (x ∷ xs.0, xs.1)) f (λ x. bind_metered (each_at read n) (λ xs c. told {X = List X × ReadState} (x ∷ xs, c)) (each_metered read f n) (λ xs. pure_metered (x ∷ xs)))

list_metered : (read : ContextReader Value) → IsMetered read → IsMetered (list_at read)
unfolding list_at
list_metered read f = bind_metered charged_count_at (λ n c. each_at read n c >>= λ xs. told {X = Value × ReadState} (value.items (values_of xs.0), xs.1)) count_metered
    (λ n. bind_metered (each_at read n) (λ xs c. told {X = Value × ReadState} (value.items (values_of xs), c)) (each_metered read f n) (λ xs. pure_metered (value.items (values_of xs))))

octets_metered : (hex : Bool) → IsMetered (octets_value_at hex)
octets_metered hex s p =
    let k = counted_metered (behind_count hex) (λ n. behind_metered (octets_at n) (λ os c. told {X = Value × ReadState} (value.binary hex os, c)) (λ os. pure_metered (value.binary hex os))) unsigned_at s p in
    record { charges = k.charges; rest = k.rest; is = λ m. octets_same hex (read_state s (context m p)) ∙ k.is m }

in_set_metered : (set : List ℕ) (a : Align) (name : NameId) → IsMetered (string_in set a name)
unfolding string_in
in_set_metered set a name = bind_metered (value_at (Some set) a name) (λ text c. told {X = Value × ReadState} (value.text text, c)) (value_metered (Some set) a name) (λ text. pure_metered (value.text text))

-- ---- every datatype
pub values_are_metered : ValuesAreMetered
unfolding valued_at
values_are_metered (datatype.small least count) a name = first_metered (small_at least count a)
values_are_metered datatype.unsigned a name = first_metered natural_at
values_are_metered datatype.integer a name = first_metered (whole_at a)
values_are_metered (datatype.boolean pattern) a name = first_metered (boolean_at pattern a)
values_are_metered (datatype.binary hex) a name = octets_metered hex
values_are_metered datatype.decimal a name = first_metered (decimal_at a)
values_are_metered datatype.float a name = first_metered (float_at a)
values_are_metered (datatype.moment kind) a name = first_metered (dated_at kind a)
values_are_metered (datatype.list item) a name = list_metered (valued_at item a name) (values_are_metered item a name)
values_are_metered (datatype.choice base values) a name = choice_metered (is_measured base) values a
values_are_metered datatype.text a name = item_metered string a name
values_are_metered (datatype.chars set) a name = in_set_metered set a name
values_are_metered (datatype.name keep) a name = item_metered (qualified keep) a name
