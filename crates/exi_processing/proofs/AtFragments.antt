-- Behind SC the body is put aside, and a self-contained fragment begins at a whole byte.
use Rattle.std.proofs.Common.{◌≡◌, ◌≢◌, ℕ, ◌+◌, ◌-◌, ◌*◌, ◌/◌, ◌≤◌, Bool, true, false, cond, List, [], ◌∷◌, Option, Some, None, Result, Ok, Err, refl, sym, ap, ◌∙◌, subst, arith, All}
use Rattle.std.proofs.lemmas.List.Elements.{All-head}
use Rattle.exi_bits.specs.declared.fault.Fault.{Fault}
use Rattle.exi_meter.specs.Metering.{Metering}
use Rattle.exi_names.specs.Events.{Happening}
use Rattle.exi_names.specs.Events as event
use Rattle.exi_names.specs.StartTables.{IsStart}
use Rattle.exi_typed.specs.ReadStates.{Failure, ReadState}
use Rattle.exi_typed.proofs.ContextItems.{told}
use Rattle.exi_processing.specs.Changes.{has_level, innermost, left_level, put_aside, texts_of}
use Rattle.exi_processing.specs.Configurations.{Body, Config, IsSetting, Setting, reached}
use Rattle.exi_processing.specs.Metered.{Due, Outcome, due_fits, event, level, limit_of, outcome, paying, text, with_due}
use Rattle.exi_processing.specs.OneEvent.{behind, one}
use Rattle.exi_processing.specs.Plans.{Alone, Given, alone_in, at_end, at_first, at_start, nowhere, plan_on, seen_in}
use Rattle.exi_processing.specs.Rules.{Rule, Terminal, attribute, characters, comment, declaration, document_type, element, end_document, end_element, entity, instruction, self_contained, start_document}
use Rattle.exi_processing.specs.Runs.{Leads, is_end}
use Rattle.exi_processing.specs.Sound.{IsSound, IsSoundAside, IsWhereOpen}
use Rattle.exi_processing.specs.Splices.{AtFragment}
use Rattle.exi_processing.specs.declared.frames.Element.{Element}
use Rattle.exi_processing.specs.declared.frames.Outer.{Outer}
use Rattle.exi_processing.specs.declared.frames.Outer.TheVariants as outer
use Rattle.exi_processing.proofs.EventOne.{Parted, at_place, stepped}
use Rattle.exi_processing.proofs.KeptCodes.{sc_without_prefixes}
use Rattle.exi_processing.proofs.Metering.{one_is_metered}
use Rattle.exi_processing.proofs.Sequences.{by_result}
use Rattle.exi_processing.proofs.Soundness.{steps_keep_sound}

-- ---- the deepest level counts the open elements
unfoldable pub Deep : Metering → Type 0
Deep m = m.level ≤ m.used.deepest

due_deep : (d : Due) (m : Metering) → Deep m → Deep (with_due d m)
unfolding Deep
due_deep event m h = h
due_deep level m h = omega arith
due_deep (text units) m h = h

left_deep : (b : Bool) (m : Metering) → Deep m → Deep (left_level b m)
unfolding Deep
left_deep true m h = omega (arith, h)
left_deep false m h = h

DeepIn : Result Given Failure → Type 0
DeepIn (Ok given) = Deep given.1.meter
DeepIn (Err e) = Unit {0}

outcome_deep : (m : Metering) (r : Result Outcome Fault) → Deep m → DeepIn (outcome m r)
unfolding DeepIn
outcome_deep m (Ok o) h = left_deep o.leaves m h
outcome_deep m (Err f) h = tt

paid_deep : (bit : ℕ) (ds : List Due) (m : Metering) (r : Result Outcome Fault) → Deep m → DeepIn (paying bit ds m r)
unfolding DeepIn
paid_deep bit [] m r h = outcome_deep m r h
paid_deep bit (d ∷ ds) m r h = by_fit (due_fits d m) (paid_deep bit ds (with_due d m) r (due_deep d m h))
  where
    by_fit : (b : Bool) → DeepIn (paying bit ds (with_due d m) r) → DeepIn (cond b (paying bit ds (with_due d m) r) (Err (record { fault = record { kind = limit_of d; bit = bit }; meter = m })))
    by_fit true more = more
    by_fit false more = tt

one_deep : (g : Setting) (bytes : List ℕ) (c : Config) → Deep c.meter → DeepIn (one g bytes c)
one_deep g bytes c h = let k = one_is_metered g bytes c in subst (λ (z : Result Given Failure). DeepIn z) (sym (k.is c.meter)) (paid_deep c.place k.dues c.meter k.rest h)

given_deep : (g : Setting) (bytes : List ℕ) (c : Config) (given : Given) → one g bytes c ≡ told given → Deep c.meter → Deep given.1.meter
unfolding DeepIn
given_deep g bytes c given h deep = (let k : DeepIn (told given) = subst (λ (z : Result Given Failure). DeepIn z) h (one_deep g bytes c deep) in k)

pub led_deep : (g : Setting) (bytes : List ℕ) (turns : List (Option Happening)) (c last : Config) → Leads g bytes c turns last → Deep c.meter → Deep last.meter
led_deep g bytes [] c last l h = subst (λ (z : Config). Deep z.meter) l h
led_deep g bytes (e ∷ turns) c last l h = led_deep g bytes turns l.0 last l.2 (given_deep g bytes c (e, l.0) (by_result bytes c (one g bytes c) e l.0 l.1) h)

-- ---- an element is open where there is a level
pub level_some : (es : List Element) (o : Outer) → has_level es o ≡ true → es ≢ []
level_some [] o h = absurd cc
level_some (e ∷ es) o h = λ k. absurd cc

open_goes : (o : Outer) → IsWhereOpen o → is_end o ≡ false
open_goes (outer.Book grammar number) h = refl
open_goes outer.FragmentStart h = refl
open_goes outer.FragmentContent h = refl
open_goes outer.AloneStart h = refl
open_goes outer.AloneFirst h = refl
open_goes outer.AloneOver h = refl
open_goes outer.Ended h = absurd h

-- ---- SC alone gives SC
is_sc : Option Happening → Bool
is_sc None = false
is_sc (Some event.sd) = false
is_sc (Some event.ed) = false
is_sc (Some (event.se name)) = false
is_sc (Some event.ee) = false
is_sc (Some (event.at name found)) = false
is_sc (Some (event.ch found)) = false
is_sc (Some (event.ns uri prefix own)) = false
is_sc (Some (event.sc byte)) = true
is_sc (Some (event.cm found)) = false
is_sc (Some (event.pi target found)) = false
is_sc (Some (event.dt name public system found)) = false
is_sc (Some (event.er name)) = false

seen_is : (a : Alone) (e : Happening) → is_sc (Some e) ≡ false → is_sc (seen_in a e) ≡ false
unfolding is_sc
seen_is nowhere e h = h
seen_is at_start e h = refl
seen_is at_first e h = refl
seen_is at_end e h = refl

true_no_false : true ≡ false → ⊥
true_no_false e = absurd cc

same_byte : (a b : ℕ) → Some (event.sc a) ≡ Some (event.sc b) → a ≡ b
same_byte a b e = cc

record MadeAside (g : Setting) (d : Config) (t : Terminal) (byte : ℕ) (next : Config) : Type 0 where
  pub on : t ≡ self_contained
  pub read_state : ReadState
  pub is : next ≡ record (put_aside g (reached (behind true read_state) d)) { after_start = false }
  pub byte_is : byte ≡ (read_state.spot.place + 7) / 8 * 8 / 8

module _ (g : Setting) (bytes : List ℕ) (a : Alone) (c d : Config) (r : Rule) (byte : ℕ) (next : Config) where
  abbrev given_sc : Given
  given_sc = (Some (event.sc byte), next)

  not_so : (e : Option Happening) → Some (event.sc byte) ≡ e → is_sc e ≡ false → ⊥
  unfolding is_sc
  not_so e h k = true_no_false (ap (λ (z : Option Happening). is_sc z) h ∙ k)

  made_aside : (t : Terminal) → Parted bytes (plan_on g a c r t) d given_sc → MadeAside g d t byte next
  unfolding is_sc
  made_aside self_contained p = record { on = refl; read_state = p.read_state; is = ap (λ (z : Given). z.1) p.is; byte_is = same_byte byte ((p.read_state.spot.place + 7) / 8 * 8 / 8) (ap (λ (z : Given). z.0) p.is) }
  made_aside start_document p = absurd (not_so (seen_in a event.sd) (ap (λ (z : Given). z.0) p.is) (seen_is a event.sd refl))
  made_aside end_document p = absurd (not_so (seen_in a event.ed) (ap (λ (z : Given). z.0) p.is) (seen_is a event.ed refl))
  made_aside (element y) p = absurd (not_so (seen_in a (event.se p.item.name)) (ap (λ (z : Given). z.0) p.is) (seen_is a (event.se p.item.name) refl))
  made_aside (attribute y v) p = absurd (not_so (Some (event.at p.item.0.name p.item.1)) (ap (λ (z : Given). z.0) p.is) refl)
  made_aside (characters e) p = absurd (not_so (Some (event.ch p.item)) (ap (λ (z : Given). z.0) p.is) refl)
  made_aside end_element p = absurd (not_so (Some event.ee) (ap (λ (z : Given). z.0) p.is) refl)
  made_aside declaration p = absurd (not_so (Some (event.ns p.item.uri p.item.prefix p.item.element)) (ap (λ (z : Given). z.0) p.is) refl)
  made_aside comment p = absurd (not_so (Some (event.cm p.item)) (ap (λ (z : Given). z.0) p.is) refl)
  made_aside instruction p = absurd (not_so (Some (event.pi p.item.0 p.item.1)) (ap (λ (z : Given). z.0) p.is) refl)
  made_aside document_type p = absurd (not_so (Some (event.dt p.item.0.0 p.item.0.1 p.item.1.0 p.item.1.1)) (ap (λ (z : Given). z.0) p.is) refl)
  made_aside entity p = absurd (not_so (Some (event.er p.item)) (ap (λ (z : Given). z.0) p.is) refl)

-- ---- what a reader stands at behind SC
pub at_fragment : (g : Setting) (bytes : List ℕ) (c next : Config) (byte : ℕ) → IsSetting g → IsStart g.schema.names → IsSound g c → Deep c.meter → one g bytes c ≡ told (Some (event.sc byte), next) → AtFragment g byte next
unfolding Deep
at_fragment g bytes c next byte book names sound deep h =
    let u = stepped g bytes c (Some (event.sc byte), next) h in
    let m = made_aside g bytes (alone_in c.elements c.outer) c (at_place c u.spot.place) u.rule byte next u.rule.on u.rest_is in
    let made : Config = put_aside g (reached (behind true m.read_state) (at_place c u.spot.place)) in
    let s : IsSound g next = steps_keep_sound g bytes c next (Some (event.sc byte)) book names sound h in
    let stands : next.place ≡ (m.read_state.spot.place + 7) / 8 * 8 = ap (λ (z : Config). z.place) m.is in
    let bodies : next.aside ≡ made.aside = ap (λ (z : Config). z.aside) m.is in
    let b : Body = record { tables = m.read_state.context.tables; learned = c.learned; elements = c.elements; outer = c.outer; name = texts_of m.read_state.context.tables (innermost c.elements) } in
    let head : IsSoundAside g b = All-head (IsSoundAside g) b c.aside (subst (λ (z : List Body). All (IsSoundAside g) z) bodies s.aside) in
    record {
      place = omega (arith, stands, m.byte_is);
      tables = ap (λ (z : Config). z.tables) m.is;
      elements = ap (λ (z : Config). z.elements) m.is;
      outer_is = ap (λ (z : Config). z.outer) m.is;
      learned = ap (λ (z : Config). z.learned) m.is;
      after_start = ap (λ (z : Config). z.after_start) m.is;
      body = b;
      bodies = c.aside;
      aside = bodies;
      going = open_goes c.outer (head.body.outside (level_some c.elements c.outer head.level));
      no_prefixes = sc_without_prefixes g bytes c u.rule u.spot book names sound u.code m.on;
      deepest = given_deep g bytes c (Some (event.sc byte), next) h deep;
    }
