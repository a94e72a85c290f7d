-- Values of bits alone: spelled and read.
use Rattle.std.proofs.Common.{◌≡◌, ℕ, ◌+◌, ◌%◌, Bool, true, false, List, [], ◌++◌, length, Option, None, Some, refl, sym, ap, subst, ℤ, pos, negsuc, arith}
use Rattle.std.proofs.lemmas.Bool.{lt-ltb, ltb-true}
use Rattle.std.proofs.lemmas.List.{length-append}
use Rattle.exi_bits.specs.declared.align.Align.{Align}
use Rattle.exi_bits.specs.declared.align.Align.TheVariants as align
use Rattle.exi_bits.specs.declared.fault.Kind.{Kind}
use Rattle.exi_bits.specs.declared.fault.Kind.TheVariants as kind
use Rattle.exi_bits.specs.Bits.{Spot, IsAligned, IsBytes, moved, rest, taken}
use Rattle.exi_bits.specs.Unsigned.{below_at, unsigned_at}
use Rattle.exi_bits.proofs.InBytes.{length-number}
use Rattle.exi_items.specs.Spellings.{SpellsUnsigned, Then}
use Rattle.exi_items.proofs.Items.{Item, Taken, given, item_below, item_made, item_spelled, item_unsigned}
use Rattle.exi_moment.specs.Reading.{moment_at}
use Rattle.exi_moment.specs.Spelling.{Spells, SpellsFraction, SpellsInteger as SpellsYear, SpellsNumber, SpellsOptional, SpellsZone, Where, month_day_number, time_number, year_offset, zone_number}
use Rattle.exi_moment.proofs.Whole.{moment_again, moment_told}
use Rattle.exi_names.specs.Moments.{fields, has_month_day}
use Rattle.exi_names.specs.Seen.{Value}
use Rattle.exi_names.specs.Seen as value
use Rattle.exi_names.specs.declared.moment.Moment.{Moment}
use Rattle.exi_names.specs.declared.moment.MomentKind.{MomentKind}
use Rattle.exi_scalar.specs.Scalars.{integer_at}
use Rattle.exi_scalar.specs.Spelled.{SpellsInteger}
use Rattle.exi_scalar.proofs.Signs.{item_integer}
use Rattle.exi_typed.specs.Refused.{SpellsBelow}
use Rattle.exi_typed.proofs.Texts.{below_fits}
use Rattle.exi_values.specs.Readings.{dated_at, enumerated, enumerated_at, from_least, natural, natural_at, small_at, whole_at}
use Rattle.exi_values.specs.Spelled.{SpellsDated, SpellsEnumerated, SpellsMoment, SpellsNatural, SpellsSmall, SpellsWhole}

-- ---- numbers
pub item_place : (count : ℕ) (a : Align) (k : Kind) → Item a (below_at count a k) (SpellsBelow count a)
item_place count a k = item_spelled a (below_at count a k) _ (SpellsBelow count a) (λ v text w. (ltb-true v count w.0, w.1.0)) (λ v text w. (lt-ltb v count w.0, (w.1, below_fits count v a w.0))) (item_below count a k)

pub item_small : (least : ℤ) (count : ℕ) (a : Align) → Item {X = Value} a (small_at least count a) (SpellsSmall least count a)
unfolding small_at
item_small least count a = item_made a (below_at count a kind.BadPlace) (SpellsBelow count a) (from_least least) (item_place count a kind.BadPlace)

pub item_natural : (a : Align) → Item {X = Value} a natural_at SpellsNatural
unfolding natural_at
item_natural a = item_made a unsigned_at SpellsUnsigned natural (item_unsigned a)

pub item_whole : (a : Align) → Item {X = Value} a (whole_at a) (SpellsWhole a)
unfolding whole_at
item_whole a = item_made a (integer_at a) (SpellsInteger a) value.integer (item_integer a)

pub item_enumerated : (vs : List Value) (a : Align) → Item {X = Value} a (enumerated_at vs a) (SpellsEnumerated vs a)
unfolding enumerated_at
item_enumerated vs a = item_made a (below_at (length vs) a kind.BadPlace) (SpellsBelow (length vs) a) (enumerated vs) (item_place (length vs) a kind.BadPlace)

-- ---- dates and times: under Bytes they are whole bytes
abbrev IsWhole : Align → List Bool → Type 0
IsWhole a text = a ≡ align.Bytes → length text % 8 ≡ 0

whole_taken : (n : ℕ) (b : Align) → b ≡ align.Bytes → taken n b % 8 ≡ 0
whole_taken n align.Bits e = absurd cc
whole_taken n align.Bytes e = omega arith

whole_number : (a : Align) (n v : ℕ) (text : List Bool) → SpellsNumber a n v text → IsWhole a text
whole_number a n v text h e = let k = whole_taken n a e in omega (arith, k, ap length h, length-number n v a)

whole_none : (a : Align) (text : List Bool) → text ≡ [] → IsWhole a text
whole_none a text h e = rw h refl

whole_then : (a : Align) (P Q : List Bool → Type 0) (text : List Bool) → ((x : List Bool) → P x → IsWhole a x) → ((x : List Bool) → Q x → IsWhole a x) → Then P Q text → IsWhole a text
whole_then a P Q text p q h e =
    let m : length h.first % 8 ≡ 0 = p h.first h.front e in
    let n : length h.second % 8 ≡ 0 = q h.second h.behind e in
    omega (arith, ap length h.parts, length-append h.first h.second)

whole_where : (a : Align) (b : Bool) (P : List Bool → Type 0) (text : List Bool) → ((x : List Bool) → P x → IsWhole a x) → Where b P text → IsWhole a text
whole_where a true P text p h = p text h
whole_where a false P text p h = whole_none a text h

whole_year : (a : Align) (y : ℤ) (text : List Bool) → SpellsYear a y text → IsWhole a text
whole_year a (pos n) text h = whole_then a (SpellsNumber a 1 0) (SpellsUnsigned n) text (whole_number a 1 0) (λ x k. (item_unsigned a).whole n x k) h
whole_year a (negsuc n) text h = whole_then a (SpellsNumber a 1 1) (SpellsUnsigned n) text (whole_number a 1 1) (λ x k. (item_unsigned a).whole n x k) h

whole_optional : {X : Type 0} (a : Align) (P : X → List Bool → Type 0) (o : Option X) (text : List Bool) → ((x : X) (t : List Bool) → P x t → IsWhole a t) → SpellsOptional a P o text → IsWhole a text
whole_optional a P None text p h = whole_number a 1 0 text h
whole_optional a P (Some x) text p h = whole_then a (SpellsNumber a 1 1) (P x) text (whole_number a 1 1) (p x) h

whole_moment : (a : Align) (m : Moment) (text : List Bool) → Spells a m text → IsWhole a text
whole_moment a m text h =
    whole_then a (Where (fields m.kind).year (SpellsYear a (year_offset m))) _ text (λ x k. whole_where a (fields m.kind).year (SpellsYear a (year_offset m)) x (whole_year a (year_offset m)) k)
    (λ x1 h1. whole_then a (Where (has_month_day m.kind) (SpellsNumber a 9 (month_day_number m))) _ x1 (λ x k. whole_where a (has_month_day m.kind) (SpellsNumber a 9 (month_day_number m)) x (whole_number a 9 (month_day_number m)) k)
    (λ x2 h2. whole_then a (Where (fields m.kind).time (SpellsNumber a 17 (time_number m))) _ x2 (λ x k. whole_where a (fields m.kind).time (SpellsNumber a 17 (time_number m)) x (whole_number a 17 (time_number m)) k)
    (λ x3 h3. whole_then a (Where (fields m.kind).time (SpellsFraction a m.fraction)) (SpellsZone a m.zone) x3
    (λ x k. whole_where a (fields m.kind).time (SpellsFraction a m.fraction) x (λ t j. whole_optional a SpellsUnsigned m.fraction t (λ n y l. (item_unsigned a).whole n y l) j) k)
    (λ x k. whole_optional a (λ z. SpellsNumber a 11 (zone_number z)) m.zone x (λ z. whole_number a 11 (zone_number z)) k)
    h3) h2) h1) h

item_moment : (k : MomentKind) (a : Align) → Item {X = Moment} a (moment_at k a) (SpellsMoment k a)
item_moment k a = record { takes = taking; again = reading; whole = λ m text h. whole_moment a m text h.spelled }
  where
    taking : (m : Moment) (s t : Spot) → IsBytes s.bytes → IsAligned a s → moment_at k a s ≡ given (m, t) → Taken a (SpellsMoment k a m) s t
    taking m s t fits al r =
        let h = moment_told k a m s t fits al r in
        record {
          text = h.text;
          spelled = record { kind_is = h.kind_is; ranges = h.ranges; year = h.year; spelled = h.spells };
          front = h.front;
          aligned = λ e. (let p : s.place % 8 ≡ 0 = al e in let w = whole_moment a m h.text h.spells e in omega (arith, p, w, h.front.place));
          fits = subst IsBytes (sym h.front.bytes) fits;
        }

    reading : (m : Moment) (text : List Bool) (s : Spot) (more : List Bool) → IsBytes s.bytes → IsAligned a s → SpellsMoment k a m text → rest s ≡ text ++ more → moment_at k a s ≡ given (m, moved s (length text))
    reading m text s more fits al h e = subst (λ (j : MomentKind). moment_at j a s ≡ given (m, moved s (length text))) h.kind_is (moment_again m a s text more h.ranges h.year fits al h.spelled e)

pub item_dated : (k : MomentKind) (a : Align) → Item {X = Value} a (dated_at k a) (SpellsDated k a)
unfolding dated_at
item_dated k a = item_made a (moment_at k a) (SpellsMoment k a) value.moment (item_moment k a)
