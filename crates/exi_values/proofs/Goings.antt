-- Reading a value goes onward: in the same bytes, with text charged, and over tables that keep each place.
use Rattle.std.proofs.Common.{◌≡◌, ℕ, zero, suc, ◌-◌, ◌%◌, ◌^◌, Bool, true, false, cond, eqb, leb, ltb, ℤ, pos, List, [], ◌∷◌, length, Option, None, Some, Err, refl, sym, ap, ◌∙◌, subst, arith}
use Rattle.exi_bits.specs.declared.align.Align.{Align}
use Rattle.exi_bits.specs.declared.align.Align.TheVariants as align
use Rattle.exi_bits.specs.declared.fault.Fault.{Fault}
use Rattle.exi_bits.specs.declared.fault.Kind.{Kind}
use Rattle.exi_bits.specs.declared.fault.Kind.TheVariants as kind
use Rattle.exi_bits.specs.Bits.{Spot}
use Rattle.exi_bits.specs.Repeat.{Reader, octets_at, times}
use Rattle.exi_bits.specs.Unsigned.{◌>>=◌, below_at, field_at, unsigned_at}
use Rattle.exi_bits.specs.Widths.{width_for}
use Rattle.exi_bits.proofs.UnsignedLaws.{unsigned_spelled}
use Rattle.exi_items.specs.Charges.{text_charge}
use Rattle.exi_moment.specs.Reading.{fraction_at, in_range, moment_at, month_day_at, month_day_of, offset_at, optional, time_at, time_of, where_it_counts, year_at, year_of, zone_at, zone_of}
use Rattle.exi_names.specs.Datatypes as datatype
use Rattle.exi_names.specs.Moments.{fields, has_month_day}
use Rattle.exi_names.specs.Seen.{Value, values_of}
use Rattle.exi_names.specs.Seen as value
use Rattle.exi_names.specs.Wholes.{Number}
use Rattle.exi_names.specs.declared.moment.Moment.{Moment}
use Rattle.exi_names.specs.declared.moment.MomentKind.{MomentKind}
use Rattle.exi_names.specs.declared.names.NameId.{NameId}
use Rattle.exi_names.specs.declared.val.TheConstants.{MOST_ITEMS}
use Rattle.exi_scalar.specs.Scalars.{bit_at, boolean_at, decimal_at, float_at, float_of, integer_at, pair_at, signed_at, small_at as part_at, whole_of}
use Rattle.exi_typed.specs.Continues.{ReadsOn}
use Rattle.exi_typed.specs.Items.{qualified, string}
use Rattle.exi_typed.specs.ReadStates.{ContextReader, ReadState, at_spot_of, failing}
use Rattle.exi_typed.specs.Strings.{value_at}
use Rattle.exi_typed.proofs.ContextItems.{bind_fine, context, fine, fine_is, guard_fine, read_state, told}
use Rattle.exi_typed.proofs.Goings.{Further, GoesFurther, behind_goes, chained_goes, field_goes, further_then, paying_goes, told_goes, value_goes}
use Rattle.exi_typed.proofs.ItemLaws.{item_goes}
use Rattle.exi_values.specs.Promises.{ValuesGoOn}
use Rattle.exi_values.specs.Readings.{charged_count_at, charged_first, choice_at, count_at, dated_at, each_at, enumerated, enumerated_at, from_least, list_at, measured_at, natural, natural_at, octets_value_at, small_at, string_in, units_in, whole_at}
use Rattle.exi_values.specs.Valued.{is_measured, valued_at}
use Rattle.exi_values.proofs.Counted.{behind_count, counted_goes, octets_same}

-- ---- bits, put together
pub stays : (s : Spot) → Further s s
stays s = record { bytes = refl; place = omega arith }

bind_goes : {X Y : Type 0} (one : Reader X) (two : X → Reader Y) → GoesFurther one → ((x : X) → GoesFurther (two x)) → GoesFurther {X = Y} (λ s. one s >>= λ x. two x.0 x.1)
bind_goes {X} one two f g q s r =
    let u = bind_fine (one s) (λ (x : X × Spot). two x.0 x.1) q r in
    further_then s u.0.1 q.1 (f u.0 s u.1) (g u.0.0 q u.0.1 u.2)

given_goes : {X : Type 0} (x : X) → GoesFurther {X = X} (λ s. fine (x, s))
given_goes {X} x q s r = subst (λ (z : X × Spot). Further s z.1) (fine_is (x, s) q r) (stays s)

-- what passes a test
tested_goes : {X : Type 0} (one : Reader X) (test : X → Bool) (fault : Spot → X × Spot → Fault) → GoesFurther one → GoesFurther {X = X} (λ s. one s >>= λ x. cond (test x.0) (fine x) (Err (fault s x)))
tested_goes {X} one test fault f q s r =
    let u = bind_fine (one s) (λ (x : X × Spot). cond (test x.0) (fine x) (Err (fault s x))) q r in
    let g = guard_fine (test u.0.0) u.0 q (fault s u.0) u.2 in
    subst (λ (z : X × Spot). Further s z.1) g.1 (f u.0 s u.1)

place_goes : (count : ℕ) (a : Align) (k : Kind) → GoesFurther (below_at count a k)
unfolding below_at
place_goes count a k = tested_goes (field_at (width_for count) a) (λ v. ltb v count) (λ s x. record { kind = k; bit = s.place }) (field_goes (width_for count) a)

number_goes : GoesFurther unsigned_at
number_goes q s r = let k = unsigned_spelled q.0 s q.1 r in record { bytes = k.2.bytes; place = omega (arith, k.2.place) }

row_goes : {X : Type 0} (read : Reader X) → GoesFurther read → (n : ℕ) → GoesFurther {X = List X} (times read n)
unfolding times
row_goes read f zero = given_goes []
row_goes {X} read f (suc n) = bind_goes read (λ x s. times read n s >>= λ xs. fine {X = List X × Spot} (x ∷ xs.0, xs.1)) f (λ x. bind_goes (times read n) (λ xs s. fine {X = List X × Spot} (x ∷ xs, s)) (row_goes read f n) (λ xs. given_goes (x ∷ xs)))

-- ---- values of bits alone
bit_goes : (a : Align) → GoesFurther (bit_at a)
unfolding bit_at
bit_goes a = bind_goes (below_at 2 a kind.BadPlace) (λ v s. fine {X = Bool × Spot} (eqb v 1, s)) (place_goes 2 a kind.BadPlace) (λ v. given_goes (eqb v 1))

truth_goes : (pattern : Bool) (a : Align) → GoesFurther (boolean_at pattern a)
unfolding boolean_at pair_at
truth_goes false a = bind_goes (bit_at a) (λ b s. fine {X = Value × Spot} (value.boolean b false, s)) (bit_goes a) (λ b. given_goes (value.boolean b false))
truth_goes true a = bind_goes (below_at 4 a kind.BadPlace) (λ v s. fine {X = Value × Spot} (value.boolean (leb 2 v) (eqb (v % 2) 1), s)) (place_goes 4 a kind.BadPlace) (λ v. given_goes (value.boolean (leb 2 v) (eqb (v % 2) 1)))

wide_goes : (minus : Bool) → GoesFurther {X = Bool × ℕ} (λ s. unsigned_at s >>= λ size. cond (ltb size.0 (2 ^ 127)) (fine {X = (Bool × ℕ) × Spot} ((minus, size.0), size.1)) (Err (record { kind = kind.TooWide; bit = s.place })))
wide_goes minus q s r =
    let u = bind_fine (unsigned_at s) (λ (size : ℕ × Spot). cond (ltb size.0 (2 ^ 127)) (fine {X = (Bool × ℕ) × Spot} ((minus, size.0), size.1)) (Err (record { kind = kind.TooWide; bit = s.place }))) q r in
    let g = guard_fine (ltb u.0.0 (2 ^ 127)) ((minus, u.0.0), u.0.1) q (record { kind = kind.TooWide; bit = s.place }) u.2 in
    subst (λ (z : (Bool × ℕ) × Spot). Further s z.1) g.1 (number_goes u.0 s u.1)

signed_goes : (a : Align) → GoesFurther (signed_at a)
unfolding signed_at
signed_goes a = bind_goes (bit_at a) (λ minus s. unsigned_at s >>= λ size. cond (ltb size.0 (2 ^ 127)) (fine {X = (Bool × ℕ) × Spot} ((minus, size.0), size.1)) (Err (record { kind = kind.TooWide; bit = s.place }))) (bit_goes a) wide_goes

integer_goes : (a : Align) → GoesFurther (integer_at a)
unfolding integer_at
integer_goes a = bind_goes (signed_at a) (λ n s. fine {X = Number × Spot} (whole_of n, s)) (signed_goes a) (λ n. given_goes (whole_of n))

part_goes : (n : ℕ) (a : Align) → GoesFurther (part_at n a)
unfolding part_at
part_goes n a = tested_goes (signed_at a) (λ p. ltb p.1 (2 ^ n)) (λ s p. record { kind = kind.BadFloat; bit = s.place }) (signed_goes a)

float_goes : (a : Align) → GoesFurther (float_at a)
unfolding float_at
float_goes a = bind_goes (part_at 63 a) (λ m s. part_at 14 a s >>= λ e. fine {X = Value × Spot} (float_of m e.0, e.1)) (part_goes 63 a) (λ m. bind_goes (part_at 14 a) (λ e s. fine {X = Value × Spot} (float_of m e, s)) (part_goes 14 a) (λ e. given_goes (float_of m e)))

decimal_goes : (a : Align) → GoesFurther (decimal_at a)
unfolding decimal_at
decimal_goes a =
    bind_goes (bit_at a) (λ minus s. unsigned_at s >>= λ whole. unsigned_at whole.1 >>= λ back. fine {X = Value × Spot} (value.decimal minus whole.0 back.0, back.1)) (bit_goes a)
    (λ minus. bind_goes unsigned_at (λ whole s. unsigned_at s >>= λ back. fine {X = Value × Spot} (value.decimal minus whole back.0, back.1)) number_goes
    (λ whole. bind_goes unsigned_at (λ back s. fine {X = Value × Spot} (value.decimal minus whole back, s)) number_goes (λ back. given_goes (value.decimal minus whole back))))

-- ---- dates and times
ranged_goes : {X : Type 0} (s t : Spot) (o : Option X) (q : X × Spot) → in_range s t o ≡ fine q → t ≡ q.1
ranged_goes {X} s t None q r = absurd cc
ranged_goes {X} s t (Some x) q r = ap (λ (z : X × Spot). z.1) (fine_is (x, t) q r)

-- a number, and what it tells
told_number : {X : Type 0} (n : ℕ) (a : Align) (f : ℕ → Option X) → GoesFurther {X = X} (λ s. field_at n a s >>= λ found. in_range s found.1 (f found.0))
told_number {X} n a f q s r =
    let u = bind_fine (field_at n a s) (λ (found : ℕ × Spot). in_range s found.1 (f found.0)) q r in
    subst (λ (t : Spot). Further s t) (ranged_goes s u.0.1 (f u.0.0) q u.2) (field_goes n a u.0 s u.1)

where_goes : {X : Type 0} (b : Bool) (none : X) (read : Reader X) → GoesFurther read → GoesFurther (where_it_counts b none read)
where_goes true none read f = f
where_goes false none read f = given_goes none

size_goes : (minus : ℕ) → GoesFurther {X = ℤ} (λ s. unsigned_at s >>= λ size. cond (ltb size.0 (2 ^ 127)) (in_range s size.1 (year_of (eqb minus 1) size.0)) (Err (record { kind = kind.TooWide; bit = s.place })))
size_goes minus q s r =
    let u = bind_fine (unsigned_at s) (λ (size : ℕ × Spot). cond (ltb size.0 (2 ^ 127)) (in_range s size.1 (year_of (eqb minus 1) size.0)) (Err (record { kind = kind.TooWide; bit = s.place }))) q r in
    by_size (ltb u.0.0 (2 ^ 127)) u.0 (number_goes u.0 s u.1) u.2
  where
    by_size : (b : Bool) (p : ℕ × Spot) → Further s p.1 → cond b (in_range s p.1 (year_of (eqb minus 1) p.0)) (Err (record { kind = kind.TooWide; bit = s.place })) ≡ fine q → Further s q.1
    by_size true p f h = subst (λ (t : Spot). Further s t) (ranged_goes s p.1 (year_of (eqb minus 1) p.0) q h) f
    by_size false p f h = absurd cc

year_goes : (a : Align) → GoesFurther (year_at a)
unfolding year_at
year_goes a = bind_goes (below_at 2 a kind.BadPlace) (λ sign s. unsigned_at s >>= λ size. cond (ltb size.0 (2 ^ 127)) (in_range s size.1 (year_of (eqb sign 1) size.0)) (Err (record { kind = kind.TooWide; bit = s.place }))) (place_goes 2 a kind.BadPlace) size_goes

optional_goes : {X : Type 0} (read : Reader X) (n : ℕ) → GoesFurther read → GoesFurther {X = Option X} (λ s. optional (n, s) read)
optional_goes {X} read n f q s r = by_told (eqb n 0) r
  where
    by_told : (b : Bool) → cond b (fine {X = Option X × Spot} (None, s)) (read s >>= λ x. fine {X = Option X × Spot} (Some x.0, x.1)) ≡ fine q → Further s q.1
    by_told true h = given_goes None q s h
    by_told false h = bind_goes read (λ x t. fine {X = Option X × Spot} (Some x, t)) f (λ x. given_goes (Some x)) q s h

fraction_goes : (a : Align) → GoesFurther (fraction_at a)
unfolding fraction_at
fraction_goes a = bind_goes (below_at 2 a kind.BadPlace) (λ n s. optional (n, s) unsigned_at) (place_goes 2 a kind.BadPlace) (λ n. optional_goes unsigned_at n number_goes)

offset_goes : (a : Align) → GoesFurther (offset_at a)
unfolding offset_at
offset_goes a = told_number 11 a zone_of

zone_goes : (a : Align) → GoesFurther (zone_at a)
unfolding zone_at
zone_goes a = bind_goes (below_at 2 a kind.BadPlace) (λ n s. optional (n, s) (offset_at a)) (place_goes 2 a kind.BadPlace) (λ n. optional_goes (offset_at a) n (offset_goes a))

day_goes : (k : MomentKind) (a : Align) → GoesFurther (month_day_at k a)
unfolding month_day_at
day_goes k a = told_number 9 a (month_day_of k)

time_goes : (a : Align) → GoesFurther (time_at a)
unfolding time_at
time_goes a = told_number 17 a time_of

abbrev moment_of : MomentKind → ℤ → ℕ × ℕ → ℕ × ℕ × ℕ → Option ℕ → Option ℤ → Moment
moment_of k year date time fraction zone = record { kind = k; year = year; month = date.0; day = date.1; hour = time.0; minute = time.1; second = time.2; fraction = fraction; zone = zone }

moment_goes : (k : MomentKind) (a : Align) → GoesFurther (moment_at k a)
unfolding moment_at
moment_goes k a =
    bind_goes (where_it_counts (fields k).year (pos 0) (year_at a))
    (λ year s. where_it_counts (has_month_day k) (0, 0) (month_day_at k a) s >>= λ date. where_it_counts (fields k).time (0, 0, 0) (time_at a) date.1 >>= λ time. where_it_counts (fields k).time None (fraction_at a) time.1 >>= λ fraction. zone_at a fraction.1 >>= λ zone. fine {X = Moment × Spot} (moment_of k year date.0 time.0 fraction.0 zone.0, zone.1))
    (where_goes (fields k).year (pos 0) (year_at a) (year_goes a))
    (λ year. bind_goes (where_it_counts (has_month_day k) (0, 0) (month_day_at k a))
    (λ date s. where_it_counts (fields k).time (0, 0, 0) (time_at a) s >>= λ time. where_it_counts (fields k).time None (fraction_at a) time.1 >>= λ fraction. zone_at a fraction.1 >>= λ zone. fine {X = Moment × Spot} (moment_of k year date time.0 fraction.0 zone.0, zone.1))
    (where_goes (has_month_day k) (0, 0) (month_day_at k a) (day_goes k a))
    (λ date. bind_goes (where_it_counts (fields k).time (0, 0, 0) (time_at a))
    (λ time s. where_it_counts (fields k).time None (fraction_at a) s >>= λ fraction. zone_at a fraction.1 >>= λ zone. fine {X = Moment × Spot} (moment_of k year date time fraction.0 zone.0, zone.1))
    (where_goes (fields k).time (0, 0, 0) (time_at a) (time_goes a))
    (λ time. bind_goes (where_it_counts (fields k).time None (fraction_at a))
    (λ fraction s. zone_at a s >>= λ zone. fine {X = Moment × Spot} (moment_of k year date time fraction zone.0, zone.1))
    (where_goes (fields k).time None (fraction_at a) (fraction_goes a))
    (λ fraction. bind_goes (zone_at a) (λ zone s. fine {X = Moment × Spot} (moment_of k year date time fraction zone, s)) (zone_goes a)
    (λ zone. given_goes (moment_of k year date time fraction zone))))))

dated_goes : (k : MomentKind) (a : Align) → GoesFurther (dated_at k a)
unfolding dated_at
dated_goes k a = bind_goes (moment_at k a) (λ m s. fine {X = Value × Spot} (value.moment m, s)) (moment_goes k a) (λ m. given_goes (value.moment m))

ranging_goes : (least : ℤ) (count : ℕ) (a : Align) → GoesFurther (small_at least count a)
unfolding small_at
ranging_goes least count a = bind_goes (below_at count a kind.BadPlace) (λ v s. fine {X = Value × Spot} (from_least least v, s)) (place_goes count a kind.BadPlace) (λ v. given_goes (from_least least v))

natural_goes : GoesFurther natural_at
unfolding natural_at
natural_goes = bind_goes unsigned_at (λ v s. fine {X = Value × Spot} (natural v, s)) number_goes (λ v. given_goes (natural v))

whole_goes : (a : Align) → GoesFurther (whole_at a)
unfolding whole_at
whole_goes a = bind_goes (integer_at a) (λ n s. fine {X = Value × Spot} (value.integer n, s)) (integer_goes a) (λ n. given_goes (value.integer n))

enumerated_goes : (vs : List Value) (a : Align) → GoesFurther (enumerated_at vs a)
unfolding enumerated_at
enumerated_goes vs a = bind_goes (below_at (length vs) a kind.BadPlace) (λ v s. fine {X = Value × Spot} (enumerated vs v, s)) (place_goes (length vs) a kind.BadPlace) (λ v. given_goes (enumerated vs v))

-- ---- with charges
first_goes : (read : Reader Value) → GoesFurther read → ReadsOn (charged_first read)
unfolding charged_first
first_goes read f = paying_goes 1 (λ c. failing c.context.meter (read c.spot) >>= λ x. told {X = Value × ReadState} (x.0, at_spot_of c x.1)) (behind_goes read (λ v c. told {X = Value × ReadState} (v, c)) f (λ v. told_goes (λ c. v)))

measured_goes : (vs : List Value) (a : Align) → ReadsOn (measured_at vs a)
unfolding measured_at
measured_goes vs a = behind_goes (enumerated_at vs a) (λ v c. failing c.context.meter (text_charge (units_in v) c.spot.place c.context.meter) >>= λ meter. told {X = Value × ReadState} (v, read_state c.spot (context meter c.context.tables))) (enumerated_goes vs a)
    (λ v. paying_goes (units_in v) (λ c. told {X = Value × ReadState} (v, c)) (told_goes (λ c. v)))

choice_goes : (b : Bool) (vs : List Value) (a : Align) → ReadsOn (choice_at b vs a)
choice_goes true vs a = measured_goes vs a
choice_goes false vs a = first_goes (enumerated_at vs a) (enumerated_goes vs a)

few_goes : GoesFurther count_at
unfolding count_at
few_goes = tested_goes unsigned_at (λ n. leb n MOST_ITEMS) (λ s n. record { kind = kind.ListTooLong; bit = s.place }) number_goes

count_goes : ReadsOn charged_count_at
unfolding charged_count_at
count_goes = counted_goes count_at (λ n c. told {X = ℕ × ReadState} (n, c)) few_goes (λ n. told_goes (λ c. n))

each_goes : {X : Type 0} (read : ContextReader X) → ReadsOn read → (n : ℕ) → ReadsOn {X = List X} (each_at read n)
unfolding each_at
each_goes read f zero = told_goes (λ c. [])
each_goes {X} read f (suc n) = chained_goes read (λ x c. each_at read n c >>= λ xs. told {X = List X × ReadState} (x ∷ xs.0, xs.1)) f (λ x. chained_goes (each_at read n) (λ xs c. told {X = List X × ReadState} (x ∷ xs, c)) (each_goes read f n) (λ xs. told_goes (λ c. x ∷ xs)))

list_goes : (read : ContextReader Value) → ReadsOn read → ReadsOn (list_at read)
unfolding list_at
list_goes read f = chained_goes charged_count_at (λ n c. each_at read n c >>= λ xs. told {X = Value × ReadState} (value.items (values_of xs.0), xs.1)) count_goes
    (λ n. chained_goes (each_at read n) (λ xs c. told {X = Value × ReadState} (value.items (values_of xs), c)) (each_goes read f n) (λ xs. told_goes (λ c. value.items (values_of xs))))

octets_goes : (hex : Bool) → ReadsOn (octets_value_at hex)
octets_goes hex v c d r =
    counted_goes unsigned_at (behind_count hex) number_goes
    (λ n. behind_goes (octets_at n) (λ os e. told {X = Value × ReadState} (value.binary hex os, e)) (row_goes (field_at 8 align.Bits) (field_goes 8 align.Bits) n) (λ os. told_goes (λ e. value.binary hex os)))
    v c d (sym (octets_same hex c) ∙ r)

in_set_goes : (set : List ℕ) (a : Align) (name : NameId) → ReadsOn (string_in set a name)
unfolding string_in
in_set_goes set a name = chained_goes (value_at (Some set) a name) (λ text c. told {X = Value × ReadState} (value.text text, c)) (value_goes (Some set) a name) (λ text. told_goes (λ c. value.text text))

-- ---- every datatype
pub values_go_on : ValuesGoOn
unfolding valued_at
values_go_on (datatype.small least count) a name = first_goes (small_at least count a) (ranging_goes least count a)
values_go_on datatype.unsigned a name = first_goes natural_at natural_goes
values_go_on datatype.integer a name = first_goes (whole_at a) (whole_goes a)
values_go_on (datatype.boolean pattern) a name = first_goes (boolean_at pattern a) (truth_goes pattern a)
values_go_on (datatype.binary hex) a name = octets_goes hex
values_go_on datatype.decimal a name = first_goes (decimal_at a) (decimal_goes a)
values_go_on datatype.float a name = first_goes (float_at a) (float_goes a)
values_go_on (datatype.moment kind) a name = first_goes (dated_at kind a) (dated_goes kind a)
values_go_on (datatype.list item) a name = list_goes (valued_at item a name) (values_go_on item a name)
values_go_on (datatype.choice base values) a name = choice_goes (is_measured base) values a
values_go_on datatype.text a name = item_goes string a name
values_go_on (datatype.chars set) a name = in_set_goes set a name
values_go_on (datatype.name keep) a name = item_goes (qualified keep) a name
