-- An item adds one text to each list of the tables at most, and a list no more than it is charged.
use Rattle.std.proofs.Common.{◌≡◌, ℕ, zero, suc, ◌+◌, ◌-◌, ◌≤◌, Bool, true, false, cond, eqb, List, [], ◌∷◌, length, Option, Some, None, sym, ap, ◌∙◌, subst, arith}
use Rattle.exi_bits.specs.declared.align.Align.{Align}
use Rattle.exi_bits.specs.declared.fault.Kind.TheVariants as kind
use Rattle.exi_bits.specs.Bits.{Spot}
use Rattle.exi_bits.specs.Repeat.{Reader, octets_at}
use Rattle.exi_bits.specs.Unsigned.{◌>>=◌, below_at, unsigned_at}
use Rattle.exi_items.specs.Charges.{Charged, after_text, text_charge}
use Rattle.exi_meter.specs.Metering.{Metering}
use Rattle.exi_names.specs.Datatypes.{Representation}
use Rattle.exi_names.specs.Datatypes as datatype
use Rattle.exi_names.specs.Seen.{Value, values_of}
use Rattle.exi_names.specs.Seen as value
use Rattle.exi_names.specs.declared.names.NameId.{NameId}
use Rattle.exi_scalar.specs.Scalars.{boolean_at, decimal_at, float_at}
use Rattle.exi_tables.specs.Growth.{NoneLonger}
use Rattle.exi_tables.specs.Partitions.{Partitions, values, with_value}
use Rattle.exi_text.specs.Literals.{chars_at}
use Rattle.exi_typed.specs.Items.{qualified, string}
use Rattle.exi_typed.specs.ReadStates.{ContextReader, ReadState, at_spot_of, failing}
use Rattle.exi_typed.specs.Strings.{Growth, Partition, charged_at, hit_at, listed, missed_at, own_values, placed_at, value_at}
use Rattle.exi_typed.proofs.Additions.{Adding, Grows as Adds, Up, Within, behind_up, chained_up, few_up, item_up, none_added, nothing_within, one_item, paying_up, told_up, up_within, value_more}
use Rattle.exi_typed.proofs.ContextItems.{bind_told, charge_is, context, not_failing, read_state, told, told_is}
use Rattle.exi_values.specs.Growths.{GrowsBy, Grows, GrowthIsCharged, used}
use Rattle.exi_values.specs.Readings.{charged_count_at, charged_first, choice_at, count_at, dated_at, each_at, enumerated_at, list_at, measured_at, natural_at, octets_value_at, small_at, string_in, units_in, whole_at}
use Rattle.exi_values.specs.Valued.{is_measured, valued_at}
use Rattle.exi_values.proofs.Counted.{behind_count, counted, octets_same}
use Rattle.exi_values.proofs.Goings.{values_go_on}

-- ---- readings that are no list
abbrev one_value : Adding
one_value = record { uris = 0; locals = 0; prefixes = 0; values = 1 }

none_item : {X : Type 0} (read : ContextReader X) → Adds none_added read → Adds one_item read
none_item read f x c d r = up_within none_added one_item c.context.tables d.context.tables (nothing_within one_item) (f x c d r)

first_adds : (read : Reader Value) → Adds none_added (charged_first read)
unfolding charged_first
first_adds read = paying_up none_added 1 (λ c. failing c.context.meter (read c.spot) >>= λ x. told {X = Value × ReadState} (x.0, at_spot_of c x.1)) (behind_up none_added read (λ v c. told {X = Value × ReadState} (v, c)) (λ v. told_up (λ c. v)))

measured_adds : (vs : List Value) (a : Align) → Adds none_added (measured_at vs a)
unfolding measured_at
measured_adds vs a = behind_up none_added (enumerated_at vs a) (λ v c. failing c.context.meter (text_charge (units_in v) c.spot.place c.context.meter) >>= λ meter. told {X = Value × ReadState} (v, read_state c.spot (context meter c.context.tables)))
    (λ v. paying_up none_added (units_in v) (λ c. told {X = Value × ReadState} (v, c)) (told_up (λ c. v)))

choice_adds : (b : Bool) (vs : List Value) (a : Align) → Adds none_added (choice_at b vs a)
choice_adds true vs a = measured_adds vs a
choice_adds false vs a = first_adds (enumerated_at vs a)

counted_adds : {Y : Type 0} (one : Reader ℕ) (rest : ℕ → ContextReader Y) → ((n : ℕ) → Adds none_added (rest n)) → Adds {X = Y} none_added (λ c. counted one rest c)
counted_adds one rest f y c d r =
    let m = c.context.meter in
    let u = bind_told (failing m (one c.spot)) (λ (n : ℕ × Spot). failing m (text_charge n.0 c.spot.place m) >>= λ meter. rest n.0 (read_state n.1 (context meter c.context.tables))) (y, d) r in
    let v = bind_told (failing m (text_charge u.0.0 c.spot.place m)) (λ (meter : Metering). rest u.0.0 (read_state u.0.1 (context meter c.context.tables))) (y, d) u.2 in
    f u.0.0 y (read_state u.0.1 (context v.0 c.context.tables)) d v.2

octets_adds : (hex : Bool) → Adds none_added (octets_value_at hex)
octets_adds hex v c d r =
    counted_adds unsigned_at (behind_count hex) (λ n. behind_up none_added (octets_at n) (λ os e. told {X = Value × ReadState} (value.binary hex os, e)) (λ os. told_up (λ e. value.binary hex os)))
    v c d (sym (octets_same hex c) ∙ r)

-- a string with a set of characters
placed_adds : (s : Spot) (o : Option (List ℕ)) → Adds {X = List ℕ} none_added (placed_at s o)
unfolding charged_at
placed_adds s None x c d r = absurd cc
placed_adds s (Some text) x c d r = paying_up none_added (length text) (λ e. told {X = List ℕ × ReadState} (text, e)) (told_up (λ e. text)) x c d r

hit_adds : (a : Align) (partition : Partition) → Adds {X = List ℕ} one_value (hit_at a partition)
unfolding hit_at
hit_adds a partition x c d r = up_within none_added one_value c.context.tables d.context.tables (nothing_within one_value)
    (behind_up none_added (below_at partition.count a kind.BadPlace) (λ place. placed_at c.spot (partition.text_at place)) (λ place. placed_adds c.spot (partition.text_at place)) x c d r)

missed_adds : (set : Option (List ℕ)) (a : Align) (name : NameId) (count : ℕ) → Adds {X = List ℕ} one_value (missed_at set a (λ p. with_value p name) count)
unfolding missed_at
missed_adds set a name count x c d r =
    let grow : Growth = λ p. with_value p name in
    let u = bind_told (failing (after_text c.context.meter count) (chars_at set a count (record { spot = c.spot; meter = c.context.meter }))) (λ (p : List ℕ × Charged). told {X = List ℕ × ReadState} (p.0, read_state p.1.spot (context p.1.meter (grow c.context.tables p.0)))) (x, d) r in
    subst (λ (z : List ℕ × ReadState). Up one_value c.context.tables z.1.context.tables) (told_is (u.0.0, read_state u.0.1.spot (context u.0.1.meter (grow c.context.tables u.0.0))) (x, d) u.2) (value_more name c.context.tables u.0.0)

chosen_adds : {X : Type 0} (n : Adding) (b : Bool) (one two : ContextReader X) → Adds n one → Adds n two → Adds {X = X} n (λ c. cond b (one c) (two c))
chosen_adds n true one two f g = f
chosen_adds n false one two f g = g

string_adds : (set : Option (List ℕ)) (a : Align) (name : NameId) → Adds {X = List ℕ} one_value (value_at set a name)
unfolding value_at
string_adds set a name x c d r =
    behind_up one_value unsigned_at
    (λ code e. cond (eqb code 0) (hit_at a (own_values c.context.tables name) e) (cond (eqb code 1) (hit_at a (listed (values c.context.tables)) e) (missed_at set a (λ p. with_value p name) (code - 2) e)))
    (λ code. chosen_adds one_value (eqb code 0) (hit_at a (own_values c.context.tables name)) (λ e. cond (eqb code 1) (hit_at a (listed (values c.context.tables)) e) (missed_at set a (λ p. with_value p name) (code - 2) e)) (hit_adds a (own_values c.context.tables name))
    (chosen_adds one_value (eqb code 1) (hit_at a (listed (values c.context.tables))) (missed_at set a (λ p. with_value p name) (code - 2)) (hit_adds a (listed (values c.context.tables))) (missed_adds set a name (code - 2)))) x c d r

value_item : Within one_value one_item
value_item = record { uris = omega arith; locals = omega arith; prefixes = omega arith; values = omega arith }

in_set_adds : (set : List ℕ) (a : Align) (name : NameId) → Adds one_item (string_in set a name)
unfolding string_in
in_set_adds set a name x c d r =
    up_within one_value one_item c.context.tables d.context.tables value_item
    (chained_up one_value none_added (value_at (Some set) a name) (λ text c. told {X = Value × ReadState} (value.text text, c)) (string_adds (Some set) a name) (λ text. told_up (λ c. value.text text)) x c d r)

-- ---- what was charged, and what grew
pub few_more : (m n : ℕ) (p : Partitions) → m ≤ n → NoneLonger m p → NoneLonger n p
few_more m n p le few = record {
  few_uris = omega (arith, le, few.few_uris);
  few_locals = λ i. omega (arith, le, few.few_locals i);
  few_prefixes = λ i. omega (arith, le, few.few_prefixes i);
  few_values = omega (arith, le, few.few_values);
  few_own = λ name. omega (arith, le, few.few_own name);
}

one_grows : (r : Representation) (a : Align) (name : NameId) → Adds one_item (valued_at r a name) → Grows {X = Value} 1 (valued_at r a name)
one_grows r a name adds v c d e =
    let k = values_go_on r a name v c d e in
    let more : used d ≡ used c + k.units = ap (λ (m : Metering). m.used.text) k.meter in
    record {
      charged = omega (arith, more);
      few = λ most new le few. few_up most 1 new one_item c.context.tables d.context.tables (omega arith) (omega arith) (omega arith) (omega arith) (omega (arith, more, le)) (adds v c d e) few;
    }

same_grows : (c : ReadState) → GrowsBy 0 c c
same_grows c = record { charged = omega arith; few = λ most new le few. few_more most new c.context.tables (omega (arith, le)) few }

pub grows_then : (m n k : ℕ) (c d e : ReadState) → m + n ≡ k → GrowsBy m c d → GrowsBy n d e → GrowsBy k c e
grows_then m n k c d e sum f g = record {
  charged = omega (arith, f.charged, g.charged);
  few = λ most new le few. (
      let between : ℕ = most + m + (used d - used c) in
      let one : most + m + used d ≤ between + used c = omega (arith, f.charged) in
      let two : between + n + used e ≤ new + used d = omega (arith, f.charged, g.charged, le, sum) in
      g.few between new two (f.few most between one few)
      );
}

each_grows : {X : Type 0} (read : ContextReader X) → Grows 1 read → (n : ℕ) → Grows {X = List X} n (each_at read n)
unfolding each_at
each_grows {X} read f zero xs c d r = subst (λ (z : List X × ReadState). GrowsBy 0 c z.1) (told_is ([], c) (xs, d) r) (same_grows c)
each_grows {X} read f (suc n) xs c d r =
    let u = bind_told (read c) (λ (x : X × ReadState). each_at read n x.1 >>= λ ys. told {X = List X × ReadState} (x.0 ∷ ys.0, ys.1)) (xs, d) r in
    let v = bind_told (each_at read n u.0.1) (λ (ys : List X × ReadState). told {X = List X × ReadState} (u.0.0 ∷ ys.0, ys.1)) (xs, d) u.2 in
    subst (λ (z : List X × ReadState). GrowsBy (suc n) c z.1) (told_is (u.0.0 ∷ v.0.0, v.0.1) (xs, d) v.2) (grows_then 1 n (suc n) c u.0.1 v.0.1 (omega arith) (f u.0.0 c u.0.1 u.1) (each_grows read f n v.0.0 u.0.1 v.0.1 v.1))

-- the number of items is charged, and the tables stay
pub count_pays : (n : ℕ) (c d : ReadState) → charged_count_at c ≡ told (n, d) → (used d ≡ used c + n) × (d.context.tables ≡ c.context.tables)
unfolding charged_count_at
count_pays n c d r =
    let m = c.context.meter in
    let u = bind_told (failing m (count_at c.spot)) (λ (x : ℕ × Spot). failing m (text_charge x.0 c.spot.place m) >>= λ meter. told {X = ℕ × ReadState} (x.0, read_state x.1 (context meter c.context.tables))) (n, d) r in
    let v = bind_told (failing m (text_charge u.0.0 c.spot.place m)) (λ (meter : Metering). told {X = ℕ × ReadState} (u.0.0, read_state u.0.1 (context meter c.context.tables))) (n, d) u.2 in
    let e : (u.0.0, read_state u.0.1 (context v.0 c.context.tables)) ≡ (n, d) = told_is (u.0.0, read_state u.0.1 (context v.0 c.context.tables)) (n, d) v.2 in
    let paid = charge_is u.0.0 c.spot.place m v.0 (not_failing m (text_charge u.0.0 c.spot.place m) v.0 v.1) in (
      ap (λ (z : ℕ × ReadState). used z.1) (sym e) ∙ ap (λ (k : Metering). k.used.text) (sym paid.1) ∙ ap (λ (z : ℕ × ReadState). used c + z.0) e,
      ap (λ (z : ℕ × ReadState). z.1.context.tables) (sym e),
    )

list_grows : (read : ContextReader Value) → Grows 1 read → Grows 0 (list_at read)
unfolding list_at
list_grows read f v c d r =
    let u = bind_told (charged_count_at c) (λ (n : ℕ × ReadState). each_at read n.0 n.1 >>= λ xs. told {X = Value × ReadState} (value.items (values_of xs.0), xs.1)) (v, d) r in
    let w = bind_told (each_at read u.0.0 u.0.1) (λ (xs : List Value × ReadState). told {X = Value × ReadState} (value.items (values_of xs.0), xs.1)) (v, d) u.2 in
    let p = count_pays u.0.0 c u.0.1 u.1 in
    let g = each_grows read f u.0.0 w.0.0 u.0.1 w.0.1 w.1 in
    subst (λ (z : Value × ReadState). GrowsBy 0 c z.1) (told_is (value.items (values_of w.0.0), w.0.1) (v, d) w.2) (record {
      charged = omega (arith, p.0, g.charged);
      few = λ most new le few. g.few most new (omega (arith, p.0, g.charged, le)) (subst (λ (q : Partitions). NoneLonger most q) (sym p.1) few);
    })

-- ---- every datatype
grown_more : (c d : ReadState) → GrowsBy 0 c d → GrowsBy 1 c d
grown_more c d g = record { charged = g.charged; few = λ most new le few. g.few most new (omega (arith, le)) few }

pub values_grow : (r : Representation) (a : Align) (name : NameId) → Grows {X = Value} 1 (valued_at r a name)
unfolding valued_at
values_grow (datatype.small least count) a name = one_grows (datatype.small least count) a name (none_item (charged_first (small_at least count a)) (first_adds (small_at least count a)))
values_grow datatype.unsigned a name = one_grows datatype.unsigned a name (none_item (charged_first natural_at) (first_adds natural_at))
values_grow datatype.integer a name = one_grows datatype.integer a name (none_item (charged_first (whole_at a)) (first_adds (whole_at a)))
values_grow (datatype.boolean pattern) a name = one_grows (datatype.boolean pattern) a name (none_item (charged_first (boolean_at pattern a)) (first_adds (boolean_at pattern a)))
values_grow (datatype.binary hex) a name = one_grows (datatype.binary hex) a name (none_item (octets_value_at hex) (octets_adds hex))
values_grow datatype.decimal a name = one_grows datatype.decimal a name (none_item (charged_first (decimal_at a)) (first_adds (decimal_at a)))
values_grow datatype.float a name = one_grows datatype.float a name (none_item (charged_first (float_at a)) (first_adds (float_at a)))
values_grow (datatype.moment kind) a name = one_grows (datatype.moment kind) a name (none_item (charged_first (dated_at kind a)) (first_adds (dated_at kind a)))
values_grow (datatype.list item) a name = λ v c d r. grown_more c d (list_grows (valued_at item a name) (values_grow item a name) v c d r)
values_grow (datatype.choice base values) a name = one_grows (datatype.choice base values) a name (none_item (choice_at (is_measured base) values a) (choice_adds (is_measured base) values a))
values_grow datatype.text a name = one_grows datatype.text a name (item_up string a name)
values_grow (datatype.chars set) a name = one_grows (datatype.chars set) a name (in_set_adds set a name)
values_grow (datatype.name keep) a name = one_grows (datatype.name keep) a name (item_up (qualified keep) a name)

pub lists_grow : (item : Representation) (a : Align) (name : NameId) → Grows {X = Value} 0 (valued_at (datatype.list item) a name)
unfolding valued_at
lists_grow item a name = list_grows (valued_at item a name) (values_grow item a name)

pub growth_is_charged : GrowthIsCharged
growth_is_charged = record { lists = lists_grow; values = values_grow }
