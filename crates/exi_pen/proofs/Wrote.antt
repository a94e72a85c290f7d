-- An event that was written in the place of its production is the one event of the definition.
use Rattle.std.proofs.Common.{◌≡◌, ℕ, ◌+◌, Bool, false, List, ◌++◌, length, Some, None, refl, sym, ap, ◌∙◌, subst, arith, append_assoc, append-nil}
use Rattle.std.specs.Prelude.{Result, Ok, Err}
use Rattle.std.proofs.lemmas.List.{length-append}
use Rattle.exi_meter.specs.Metering.{Metering}
use Rattle.exi_names.specs.Events.{Happening}
use Rattle.exi_processing.specs.Configurations.{Config, Setting}
use Rattle.exi_processing.specs.Handing.{rule_in}
use Rattle.exi_processing.specs.OneEvent.{remembered}
use Rattle.exi_tables.specs.Partitions.{Partitions}
use Rattle.exi_processing.specs.Plans.{Plan, plan_of}
use Rattle.exi_processing.specs.Rules.{Rule, Terminal}
use Rattle.exi_processing.specs.declared.rule.Rule.{Rule as Kept}
use Rattle.exi_writing.specs.OneEvent.{◌>>=◌}
use Rattle.exi_writing.specs.OneEvent.{Refused, Written, at_end, behind, behind_code, followed_by, not_derived, one_deeper, one_more, padding, paid, written_by}
use Rattle.exi_choice.specs.Wanted.{Seeking}
use Rattle.exi_pen.specs.Pages.{IsBegun, IsNotBegun, IsWanted, MayStand, Page, Writes, by_chosen, code_behind, page_behind, tried}
use Rattle.exi_toll.specs.Charges.{Charged, Settles, charge, charge_event, charge_level}
use Rattle.exi_writing.specs.Pieces.{Piece}
use Rattle.exi_toll.specs.declared.stop.PutStop.{PutStop}
use Rattle.exi_toll.specs.declared.stop.PutStop.TheVariants as stop

-- ---- what is written, by what was charged
abbrev pub written_at : (p : Plan) → Config → List Bool → Piece p.Item → Metering → Written
written_at p c code piece m = behind code (at_end p.padded p.make (code_behind c code) piece m (piece.bits ++ padding p.padded (c.place + length code + length piece.bits)))

abbrev pub finished : (p : Plan) → Config → List Bool → Piece p.Item → Charged → Result Written Refused
finished p c code piece charged = charged >>= (λ m. Ok (written_at p c code piece m))

last_bind : (code : List Bool) (r : Charged) (k : Metering → Written) → behind_code code (r >>= (λ d. Ok (k d))) ≡ (r >>= (λ d. Ok (behind code (k d))))
last_bind code (Ok d) k = refl
last_bind code (Err e) k = refl

two_binds : (code : List Bool) (r : Charged) (h : Metering → Charged) (k : Metering → Written) → behind_code code (r >>= (λ b. h b >>= (λ d. Ok (k d)))) ≡ ((r >>= h) >>= (λ d. Ok (behind code (k d))))
two_binds code (Ok b) h k = last_bind code (h b) k
two_binds code (Err e) h k = refl

three_binds : (code : List Bool) (r : Charged) (f h : Metering → Charged) (k : Metering → Written) → behind_code code (r >>= (λ a. f a >>= (λ b. h b >>= (λ d. Ok (k d))))) ≡ (((r >>= f) >>= h) >>= (λ d. Ok (behind code (k d))))
three_binds code (Ok a) f h k = two_binds code (f a) h k
three_binds code (Err e) f h k = refl

followed_is : (p : Plan) (c : Config) (code : List Bool) (piece : Piece p.Item) → behind_code code (followed_by p (code_behind c code) piece) ≡ finished p c code piece (charge piece.units (charge_level p.entered (charge_event p.counted (Ok c.meter))))
unfolding followed_by
followed_is p c code piece = three_binds code (one_more p.counted c.meter) (one_deeper p.entered) (paid piece.units) (λ m. at_end p.padded p.make (code_behind c code) piece m (piece.bits ++ padding p.padded (c.place + length code + length piece.bits)))

pub tried_is : (g : Setting) (c : Config) (r : Rule) (code : List Bool) (e : Happening) (piece : Piece (plan_of g c r).Item) → MayStand (plan_of g c r) → written_by g c r e c.tables ≡ Some piece → (plan_of g c r).refused piece.item ≡ None
    → tried g c r code e ≡ finished (plan_of g c r) c code piece (charge piece.units (charge_level (plan_of g c r).entered (charge_event (plan_of g c r).counted (Ok c.meter))))
tried_is g c r code e piece s w f = rw (s.free, s.placed, w, f) (followed_is (plan_of g c r) c code piece)

pub tried_none : (g : Setting) (c : Config) (r : Rule) (code : List Bool) (e : Happening) → MayStand (plan_of g c r) → written_by g c r e c.tables ≡ None → tried g c r code e ≡ Err not_derived
tried_none g c r code e s w = rw (s.free, s.placed, w) refl

-- ---- what is answered
-- so far in an event: its production was found and its code written
pub record IsGoing (old : Page) (e : Happening) (r : Rule) (code : List Bool) : Type 0 where
  pub is : by_chosen old.setting old.config e ≡ tried old.setting old.config r code e
  pub stands : MayStand (plan_of old.setting old.config r)

abbrev pub on_terminal : Kept → Terminal → Rule
on_terminal rule t = record { on = t; to = rule.to; inner = rule.inner }

same_rule : (r : Rule) (t : Terminal) → r.on ≡ t → r ≡ record { on = t; to = r.to; inner = r.inner }
same_rule r t e = ap (λ (z : Terminal). record { on = z; to = r.to; inner = r.inner }) e

pub going_on : (wanted : Seeking) (old mid : Page) (toll charged : Charged) (rule : Kept) (e : Happening) (t : Terminal) → (b : IsBegun wanted old mid toll charged rule) → IsWanted old.setting old.config.tables wanted e → (rule_in rule).on ≡ t → IsGoing old e (on_terminal rule t) b.code
going_on wanted old mid toll charged rule e t b same h = subst (λ (r : Rule). IsGoing old e r b.code) (same_rule (rule_in rule) t h) record { is = b.is e same; stands = b.stands }

-- what was charged so far
pub charged_on : (wanted : Seeking) (old mid : Page) (toll charged : Charged) (rule : Kept) (t : Terminal) → (b : IsBegun wanted old mid toll charged rule) → (rule_in rule).on ≡ t → charged ≡ charge_level (plan_of old.setting old.config (on_terminal rule t)).entered (charge_event (plan_of old.setting old.config (on_terminal rule t)).counted toll)
charged_on wanted old mid toll charged rule t b h = subst (λ (r : Rule). charged ≡ charge_level (plan_of old.setting old.config r).entered (charge_event (plan_of old.setting old.config r).counted toll)) (same_rule (rule_in rule) t h) b.charged

-- ---- where no production was found
pub begin_stop : (stopped : PutStop) (wanted : Seeking) (old new : Page) (e : Happening) → IsNotBegun wanted stopped old → IsWanted old.setting old.config.tables wanted e → new.config.meter ≡ old.config.meter → Writes {X = Unit {0}} (Err stopped) old new (by_chosen old.setting old.config e)
begin_stop stop.NotDerived wanted old new e b same m = (b e same, m)
begin_stop (stop.Limit k) wanted old new e b same m = absurd b
begin_stop stop.Memory wanted old new e b same m = tt

-- what is charged for a piece
abbrev pub toll_of : Page → Plan → List ℕ → Charged
toll_of old p units = charge units (charge_level p.entered (charge_event p.counted (Ok old.config.meter)))

-- where it is written
pub going_ok : (x : Unit {0}) (old new : Page) (e : Happening) (r : Rule) (code : List Bool) (piece : Piece (plan_of old.setting old.config r).Item) (m : Metering) → IsGoing old e r code
    → written_by old.setting old.config r e old.config.tables ≡ Some piece → (plan_of old.setting old.config r).refused piece.item ≡ None
    → toll_of old (plan_of old.setting old.config r) piece.units ≡ Ok m
    → new ≡ page_behind old (written_at (plan_of old.setting old.config r) old.config code piece m)
    → Writes {X = Unit {0}} (Ok x) old new (by_chosen old.setting old.config e)
going_ok x old new e r code piece m k w f charged page = (
  written_at (plan_of old.setting old.config r) old.config code piece m,
  k.is ∙ tried_is old.setting old.config r code e piece k.stands w f ∙ ap (finished (plan_of old.setting old.config r) old.config code piece) charged,
  page,
)

-- where a limit is passed
pub settle_stop : (stopped : PutStop) (old new : Page) (e : Happening) (r : Rule) (code : List Bool) (piece : Piece (plan_of old.setting old.config r).Item) → IsGoing old e r code
    → written_by old.setting old.config r e old.config.tables ≡ Some piece → (plan_of old.setting old.config r).refused piece.item ≡ None
    → Settles (Err stopped) new.config.meter (toll_of old (plan_of old.setting old.config r) piece.units)
    → Writes {X = Unit {0}} (Err stopped) old new (by_chosen old.setting old.config e)
settle_stop stop.NotDerived old new e r code piece k w f s = absurd s
settle_stop (stop.Limit kind) old new e r code piece k w f s = k.is ∙ tried_is old.setting old.config r code e piece k.stands w f ∙ ap (finished (plan_of old.setting old.config r) old.config code piece) s
settle_stop stop.Memory old new e r code piece k w f s = absurd s

-- ---- the page
pub place_behind : (bits code text : List Bool) (place : ℕ) → place ≡ length bits → length ((bits ++ code) ++ text) ≡ place + length code + length text
place_behind bits code text place e = let a = length-append (bits ++ code) text in let b = length-append bits code in omega (arith, a, b, e)

pub bits_behind : (bits code text : List Bool) → (bits ++ code) ++ text ≡ bits ++ (code ++ text)
bits_behind bits code text = append_assoc bits code text

-- where an event's content ends: behind its bits, with this meter and these tables
abbrev pub settled : Page → List Bool → List Bool → Metering → Partitions → Config
settled old code text m p = record old.config { place = length ((old.bits ++ code) ++ text); meter = m; tables = p }

padding_none : (padded : Bool) (place : ℕ) (text : List Bool) → padded ≡ false → text ++ padding padded place ≡ text
padding_none padded place text e = ap (λ (b : Bool). text ++ padding b place) e ∙ append-nil text

-- the page behind an event without bits up to a whole byte
pub behind_is : (old : Page) (p : Plan) (code : List Bool) (piece : Piece p.Item) (m : Metering) → p.padded ≡ false → old.config.place ≡ length old.bits
    → page_behind old (written_at p old.config code piece m) ≡ record { setting = old.setting; bits = (old.bits ++ code) ++ piece.bits; config = (remembered (p.make piece.item (settled old code piece.bits m piece.tables))).1 }
behind_is old p code piece m unpadded e =
    let text : piece.bits ++ padding p.padded (old.config.place + length code + length piece.bits) ≡ piece.bits = padding_none p.padded (old.config.place + length code + length piece.bits) piece.bits unpadded in
    let place : old.config.place + length code + length piece.bits ≡ length ((old.bits ++ code) ++ piece.bits) = sym (place_behind old.bits code piece.bits old.config.place e) in
    rw text (rw place (ap (λ (bits : List Bool). record { setting = old.setting; bits = bits; config = (remembered (p.make piece.item (settled old code piece.bits m piece.tables))).1 }) (sym (bits_behind old.bits code piece.bits))))
