-- When two values, or two datatypes, are the same as data: of one kind, and the same in each part.
use Rattle.std.specs.Prelude.{◌≡◌, ◌↔◌, ℕ, ◌==◌, Bool, true, false, not, ◌&&◌, List, Option}
use Rattle.std.specs.Ordering.{int_eq}
use Rattle.std.specs.List.{position}
use Rattle.std.specs.Option.{option_eq}
use Rattle.std.specs.Str.{bytes_eq}
use Rattle.exi_names.specs.Wholes.{Number}
use Rattle.exi_names.specs.declared.moment.Moment.{Moment}
use Rattle.exi_names.specs.declared.moment.MomentKind.{MomentKind}
use Rattle.exi_names.specs.declared.moment.MomentKind.TheVariants as form
use Rattle.exi_names.specs.declared.names.QName.{QName}
use Rattle.exi_names.specs.Seen.{Value, Values, text, boolean, integer, decimal, float, moment, binary, items, name, no_more, and, values_of}
use Rattle.exi_names.specs.Datatypes.{Representation}
use Rattle.exi_names.specs.Datatypes as kind

abbrev pub same_truth : Bool → Bool → Bool
same_truth true b = b
same_truth false b = not b

-- each kind by a number of its own
abbrev pub place_of_kind : MomentKind → ℕ
place_of_kind form.GYear = 0
place_of_kind form.GYearMonth = 1
place_of_kind form.Date = 2
place_of_kind form.DateTime = 3
place_of_kind form.GMonth = 4
place_of_kind form.GMonthDay = 5
place_of_kind form.GDay = 6
place_of_kind form.Time = 7

abbrev pub same_numbers : Number → Number → Bool
same_numbers a b = same_truth a.minus b.minus && (a.size == b.size)

abbrev pub same_dates : Moment → Moment → Bool
same_dates a b = (place_of_kind a.kind == place_of_kind b.kind) && int_eq a.year b.year && (a.month == b.month) && (a.day == b.day)

abbrev pub same_times : Moment → Moment → Bool
same_times a b = (a.hour == b.hour) && (a.minute == b.minute) && (a.second == b.second) && option_eq (λ m n. m == n) a.fraction b.fraction && option_eq int_eq a.zone b.zone

abbrev pub same_moments : Moment → Moment → Bool
same_moments a b = same_dates a b && same_times a b

abbrev pub same_names : QName → QName → Bool
same_names a b = bytes_eq a.uri b.uri && bytes_eq a.local b.local && option_eq bytes_eq a.prefix b.prefix

abbrev mutual
  pub equal : Value → Value → Bool
  equal (text a) (text b) = bytes_eq a b
  equal (boolean a digit) (boolean b other) = same_truth a b && same_truth digit other
  equal (integer a) (integer b) = same_numbers a b
  equal (decimal minus whole back) (decimal sign part digits) = same_truth minus sign && (whole == part) && (back == digits)
  equal (float mantissa exponent) (float digits power) = int_eq mantissa digits && int_eq exponent power
  equal (moment a) (moment b) = same_moments a b
  equal (binary hex a) (binary other b) = same_truth hex other && bytes_eq a b
  equal (items a) (items b) = all_equal a b
  equal (name a) (name b) = same_names a b
  equal a b = false

  -- as many, and each equal to the one at its place
  pub all_equal : Values → Values → Bool
  all_equal no_more no_more = true
  all_equal (and a more) (and b others) = equal a b && all_equal more others
  all_equal a b = false

-- the least place of a value that equals this one, where there is one
abbrev pub place_among : Value → List Value → Option ℕ
place_among v values = position (λ w. equal v w) values

abbrev pub same_representations : Representation → Representation → Bool
same_representations (kind.small least count) (kind.small first number) = int_eq least first && (count == number)
same_representations kind.unsigned kind.unsigned = true
same_representations kind.integer kind.integer = true
same_representations (kind.boolean pattern) (kind.boolean other) = same_truth pattern other
same_representations (kind.binary hex) (kind.binary other) = same_truth hex other
same_representations kind.decimal kind.decimal = true
same_representations kind.float kind.float = true
same_representations (kind.moment a) (kind.moment b) = place_of_kind a == place_of_kind b
same_representations (kind.list a) (kind.list b) = same_representations a b
same_representations (kind.choice base values) (kind.choice other others) = same_representations base other && all_equal (values_of values) (values_of others)
same_representations kind.text kind.text = true
same_representations (kind.chars set) (kind.chars other) = bytes_eq set other
same_representations (kind.name prefixes) (kind.name other) = same_truth prefixes other
same_representations a b = false

-- ---- the laws: equal exactly where they are the same
abbrev pub EqualIsSame : Type 0
EqualIsSame = (v w : Value) → (equal v w ≡ true) ↔ (v ≡ w)

abbrev pub EqualDatatypeIsSame : Type 0
EqualDatatypeIsSame = (r s : Representation) → (same_representations r s ≡ true) ↔ (r ≡ s)
