-- The laws between the texts of a date or a time and their value.
use Rattle.std.specs.Prelude.{◌≡◌, ◌↔◌, IsTrue, Some, List, ℕ}
use Rattle.exi_names.specs.declared.moment.Moment.{Moment}
use Rattle.exi_names.specs.declared.moment.MomentKind.{MomentKind}
use Rattle.exi_names.specs.Datatypes as datatype
use Rattle.exi_names.specs.Forms.{IsOf}
use Rattle.exi_names.specs.Seen as value
use Rattle.exi_calendar.specs.Parts.{IsInRanges}
use Rattle.exi_calendar.specs.Forms.{Spells, all_visible, moment_text}
use Rattle.exi_calendar.specs.Reading.{moment_value}

-- the value is of the kind, in its ranges, and the text is one of its texts
pub record IsValueOf (k : MomentKind) (text : List ℕ) (m : Moment) : Type 0 where
  pub kind_is : m.kind ≡ k
  pub ranges : IsInRanges m
  pub spells : Spells m text

-- what is read is spelled so
abbrev pub ReadIsSpelled : Type 0
ReadIsSpelled = (k : MomentKind) (text : List ℕ) (m : Moment) → moment_value k text ≡ Some m → IsValueOf k text m

-- what is spelled so is read
abbrev pub SpelledIsRead : Type 0
SpelledIsRead = (k : MomentKind) (text : List ℕ) (m : Moment) → IsValueOf k text m → moment_value k text ≡ Some m

-- what is written is read: the canonical text has the value that it was made of
abbrev pub WrittenIsRead : Type 0
WrittenIsRead = (m : Moment) → IsInRanges m → moment_value m.kind (moment_text m) ≡ Some m

-- so every value that a text has comes back from its canonical text
abbrev pub ValueComesBack : Type 0
ValueComesBack = (k : MomentKind) (text : List ℕ) (m : Moment) → moment_value k text ≡ Some m → moment_value k (moment_text m) ≡ Some m

-- the canonical text can be seen: no white space, nothing beyond ASCII
abbrev pub CanonicalTextIsVisible : Type 0
CanonicalTextIsVisible = (m : Moment) → IsInRanges m → IsTrue (all_visible (moment_text m))

-- a text has one value at most
abbrev pub ValueIsOne : Type 0
ValueIsOne = (k : MomentKind) (text : List ℕ) (m n : Moment) → IsValueOf k text m → IsValueOf k text n → m ≡ n

-- a date or a time of the kind with all its fields in their ranges is what the datatype has
abbrev pub RangesAreTheForm : Type 0
RangesAreTheForm = (k : MomentKind) (m : Moment) → ((m.kind ≡ k) × IsInRanges m) ↔ IsOf (datatype.moment k) (value.moment m)

-- a text has a value under one kind alone: so a canonical text has it under the kind of the value that it was made of,
-- and no other
abbrev pub KindIsOne : Type 0
KindIsOne = (k j : MomentKind) (text : List ℕ) (m n : Moment) → moment_value k text ≡ Some m → moment_value j text ≡ Some n → k ≡ j

abbrev pub CanonicalTextHasItsKind : Type 0
CanonicalTextHasItsKind = (k : MomentKind) (m n : Moment) → IsInRanges m → moment_value k (moment_text m) ≡ Some n → k ≡ m.kind
