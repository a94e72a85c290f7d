-- One event written (EXI 1.0, sections 6.2, 7.1 and 8.4): of the productions that may stand for it the one with the
-- fewest parts in its code, and among these the one with the least code; its bits, what it charges, and the next
-- configuration. Configurations, plans and charges are those of reading.
use Rattle.std.specs.Prelude.{ℕ, ◌+◌, ◌-◌, ◌*◌, ◌/◌, ◌==◌, ◌&&◌, Bool, true, false, List, [], ◌∷◌, ◌++◌, length, replicate, Option, Some, None, Result, Ok, Err, if◌then◌else◌}
use Rattle.std.specs.Option.{is_none}
use Rattle.exi_bits.specs.declared.fault.Kind.{Kind}
use Rattle.exi_bits.specs.declared.fault.Kind.TheVariants as kind
use Rattle.exi_gram.specs.Codes.{Coded, code_bits, coded}
use Rattle.exi_gram.specs.Laws.{codes}
use Rattle.exi_gram.specs.Switches.{align_of}
use Rattle.exi_meter.specs.Metering.{Metering, event_fits, level_fits, text_fits, with_event, with_level, with_text}
use Rattle.exi_names.specs.Events.{Happening}
use Rattle.exi_processing.specs.Configurations.{Config, Setting, rules_of}
use Rattle.exi_processing.specs.OneEvent.{remembered}
use Rattle.exi_processing.specs.Plans.{Given, Plan, alone_in, plan_of}
use Rattle.exi_processing.specs.Rules.{Rule}
use Rattle.exi_processing.specs.Runs.{has_ended}
use Rattle.exi_processing.specs.Spelled.{further}
use Rattle.exi_writing.specs.Contents.{written_on}
use Rattle.exi_writing.specs.Pieces.{Piece, Writing}

-- ---- which production
abbrev pub written_by : (g : Setting) (c : Config) (r : Rule) (e : Happening) → Writing (plan_of g c r).Item
written_by g c r e p = written_on g (alone_in c.elements c.outer) c r r.on e p

abbrev pub is_taken : {X : Type 0} → (X → Option Kind) → Option (Piece X) → Bool
is_taken refused None = false
is_taken refused (Some piece) = is_none (refused piece.item)

-- whether a production may stand for an event in a configuration
abbrev pub matches : Setting → Config → Happening → Rule → Bool
matches g c e r = is_none (plan_of g c r).barred && is_none (plan_of g c r).misplaced && is_taken (plan_of g c r).refused (written_by g c r e c.tables)

-- the first of so many parts
abbrev pub first_of : {X : Type 0} → ℕ → (X → Bool) → List (Coded X) → Option (Coded X)
first_of parts test [] = None
first_of parts test (x ∷ xs) = if (length x.parts == parts) && test x.item then Some x else first_of parts test xs

abbrev pub or_else : {X : Type 0} → Option (Coded X) → Option (Coded X) → Option (Coded X)
or_else None other = other
or_else (Some x) other = Some x

-- codes have at most three parts, and stand in their order
abbrev pub fewest : {X : Type 0} → (X → Bool) → List (Coded X) → Option (Coded X)
fewest test xs = or_else (first_of 1 test xs) (or_else (first_of 2 test xs) (first_of 3 test xs))

abbrev pub chosen : Setting → Config → Happening → Option (Coded Rule)
chosen g c e = fewest (matches g c e) (coded (rules_of g c))

-- ---- why it is not written
pub data Refused : Type 0 where
  -- no production stands for it
  not_derived : Refused
  -- a limit is passed; the meter has all charges before
  limit : Kind → Metering → Refused

-- ---- charges, in the order of reading: the event, the level, and each text
abbrev pub one_more : Bool → Metering → Result Metering Refused
one_more false m = Ok m
one_more true m = if event_fits m then Ok (with_event m) else Err (limit kind.EventLimit m)

abbrev pub one_deeper : Bool → Metering → Result Metering Refused
one_deeper false m = Ok m
one_deeper true m = if level_fits m then Ok (with_level m) else Err (limit kind.DepthLimit m)

abbrev pub paid : List ℕ → Metering → Result Metering Refused
paid [] m = Ok m
paid (units ∷ more) m = if text_fits m units then paid more (with_text m units) else Err (limit kind.TextLimit m)

-- one answer after another, as far as there is one
infixl 10 ◌>>=◌
abbrev pub ◌>>=◌ : {A B : Type 0} → Result A Refused → (A → Result B Refused) → Result B Refused
(Ok a) >>= f = f a
(Err e) >>= f = Err e

-- ---- one event
-- the bits up to the next whole byte are 0
abbrev pub padding : Bool → ℕ → List Bool
padding false place = []
padding true place = replicate ((place + 7) / 8 * 8 - place) false

-- what is written of one event, and what it leads to
pub record Written : Type 0 where
  pub bits : List Bool
  pub given : Given

abbrev pub at_end : {X : Type 0} → Bool → (X → Config → Given) → Config → Piece X → Metering → List Bool → Written
at_end padded make c piece m text = record {
  bits = text;
  given = remembered (make piece.item (further c (length text) (record { meter = m; tables = piece.tables })));
}

-- behind the code, what a plan writes of a piece
unfoldable pub followed_by : (p : Plan) → Config → Piece p.Item → Result Written Refused
followed_by p c piece = do
  counted ← one_more p.counted c.meter
  entered ← one_deeper p.entered counted
  meter ← paid piece.units entered
  Ok (at_end p.padded p.make c piece meter (piece.bits ++ padding p.padded (c.place + length piece.bits)))

abbrev pub followed : (p : Plan) → Config → Option (Piece p.Item) → Result Written Refused
followed p c None = Err not_derived
followed p c (Some piece) = followed_by p c piece

abbrev pub behind : List Bool → Written → Written
behind code w = record { bits = code ++ w.bits; given = w.given }

abbrev pub behind_code : List Bool → Result Written Refused → Result Written Refused
behind_code code (Ok w) = Ok (behind code w)
behind_code code (Err e) = Err e

abbrev pub by_code : Setting → Config → Happening → Option (Coded Rule) → Result Written Refused
by_code g c e None = Err not_derived
by_code g c e (Some x) =
    behind_code (code_bits (align_of g.options) (codes (rules_of g c)) x.parts)
    (followed (plan_of g c x.item) (record c { place = c.place + length (code_bits (align_of g.options) (codes (rules_of g c)) x.parts) }) (written_by g c x.item e c.tables))

-- one event, written in a configuration; behind the end none is
unfoldable pub written : Setting → Config → Happening → Result Written Refused
written g c e = if has_ended c then Err not_derived else by_code g c e (chosen g c e)
