-- Where writing of events ends: as many bits further on as were written.
use Rattle.std.proofs.Common.{◌≡◌, ◌+◌, ℕ, suc, List, [], ◌∷◌, ◌++◌, length, Option, Some, None, refl, sym, ap, ◌∙◌, subst, inl, inr, arith}
use Rattle.std.specs.Prelude.{Result, Ok, Err}
use Rattle.std.proofs.lemmas.Bool.{cases_Bool}
use Rattle.std.proofs.lemmas.List.{length-append}
use Rattle.exi_builtin.specs.declared.learnable.Learned.{Learned}
use Rattle.exi_builtin.specs.declared.learnable.Learned.TheVariants as used
use Rattle.exi_meter.specs.Metering.{Bounds}
use Rattle.exi_names.specs.declared.names.QName.{QName}
use Rattle.exi_names.specs.Events.{Happening}
use Rattle.exi_processing.specs.Changes.{Effect, effect_of, effected, emptied, leads, learns_name, resumed, retyped, stays}
use Rattle.exi_processing.specs.Configurations.{Body, Config, Setting, first_config}
use Rattle.exi_processing.specs.OneEvent.{remembered}
use Rattle.exi_processing.specs.Plans.{Alone, Given, alone_in, at_end, at_first, at_start, ended_in, nowhere, plan_on, rooted_in}
use Rattle.exi_processing.specs.Rules.{Rule, Telling, Terminal, attribute, characters, comment, declaration, document_type, element, end_document, end_element, entity, instruction, known, self_contained, spelled, start_document, under}
use Rattle.exi_processing.specs.Runs.{has_ended}
use Rattle.exi_processing.specs.Spelled.{IsOne, further}
use Rattle.exi_processing.specs.declared.start.Start.TheVariants as start
use Rattle.exi_tables.proofs.Sound.{first_sound}
use Rattle.exi_writing.proofs.OneEvent.{bind_parts, one_sound, one_spelled}
use Rattle.exi_writing.specs.OneEvent.{Refused, Written, written}
use Rattle.exi_writing.specs.Pruned.{pruned}
use Rattle.exi_writing.specs.Runs.{Refusal, Run, behind_run, body, go_on, in_front, nothing_from, own, put, put_from, put_then, then_run, written_all}
use Rattle.exi_writing.specs.Sound.{HasSoundTables}

-- ---- what a production makes of a configuration stands at the same place
resumed_place : (bs : List Body) (c : Config) → (resumed bs c).place ≡ c.place
resumed_place [] c = refl
resumed_place (b ∷ bs) c = refl

ended_place : (a : Alone) (c : Config) → (ended_in a c).place ≡ c.place
ended_place nowhere c = refl
ended_place at_start c = resumed_place c.aside c
ended_place at_first c = resumed_place c.aside c
ended_place at_end c = resumed_place c.aside c

rooted_place : (a : Alone) (name : QName) (c : Config) → (rooted_in a name c).place ≡ c.place
rooted_place nowhere name c = refl
rooted_place at_start name c = refl
rooted_place at_first name c = refl
rooted_place at_end name c = refl

learned_place : (t : Telling) (use_of : Learned) (c : Config) → (learns_name t use_of c).place ≡ c.place
learned_place spelled use_of c = refl
learned_place (under uri) use_of c = refl
learned_place (known id) use_of c = refl

effected_place : (e : Effect) (to : ℕ) (c : Config) → (effected e to c).place ≡ c.place
effected_place leads to c = refl
effected_place (retyped grammar) to c = refl
effected_place emptied to c = refl
effected_place stays to c = refl

made_place : (g : Setting) (a : Alone) (c0 : Config) (r : Rule) (t : Terminal) (x : (plan_on g a c0 r t).Item) (c : Config) → (remembered ((plan_on g a c0 r t).make x c)).1.place ≡ c.place
made_place g a c0 r start_document x c = refl
made_place g a c0 r end_document x c = ended_place a c
made_place g a c0 r (element t) x c = learned_place t (used.Se x.id) (rooted_in a x.name c) ∙ rooted_place a x.name c
made_place g a c0 r (attribute t v) x c = effected_place (effect_of g v x.0.id x.1) r.to (learns_name t (used.At x.0.id) c) ∙ learned_place t (used.At x.0.id) c
made_place g a c0 r (characters d) x c = refl
made_place g a c0 r end_element x c = refl
made_place g a c0 r declaration x c = refl
made_place g a c0 r self_contained x c = refl
made_place g a c0 r comment x c = refl
made_place g a c0 r instruction x c = refl
made_place g a c0 r document_type x c = refl
made_place g a c0 r entity x c = refl

-- ---- one event
spelled_place : (g : Setting) (c : Config) (w : Written) → IsOne g c w.given w.bits → w.given.1.place ≡ c.place + length w.bits
spelled_place g c w o =
    let f = o.followed in
    let behind : Config = record c { place = c.place + length o.code } in
    let at : w.given.1.place ≡ c.place + length o.code + length o.content =
    ap (λ (z : Given). z.1.place) f.is ∙ made_place g (alone_in c.elements c.outer) c o.rule o.rule.on f.item (further behind (length o.content) f.after) in
    let long : length w.bits ≡ length o.code + length o.content = ap length o.parts ∙ length-append o.code o.content in
    omega (arith, at, long)

one_place : (g : Setting) (c : Config) (e : Happening) (w : Written) → HasSoundTables c → written g c e ≡ Ok w → w.given.1.place ≡ c.place + length w.bits
one_place g c e w sound h = spelled_place g c w (one_spelled g c e w sound h)

-- ---- several
record Stands (c : Config) (r : Run) : Type 0 where
  place : r.last.place ≡ c.place + length r.bits
  sound : HasSoundTables r.last

abbrev given_run : Run → Result Run Refused
given_run r = Ok r

run_is : (a b : Run) → given_run a ≡ given_run b → a ≡ b
run_is a b e = cc

then_parts : (w : Written) (o : Result Run Refused) (r : Run) → then_run w o ≡ Ok r → (s : Run) × (o ≡ Ok s) × (r ≡ in_front w s)
then_parts w (Ok s) r e = (s, refl, sym (run_is (in_front w s) r e))
then_parts w (Err why) r e = absurd cc

stands_none : (c : Config) → HasSoundTables c → Stands c (nothing_from c)
stands_none c sound = record { place = omega arith; sound = sound }

stands_front : (g : Setting) (c : Config) (e : Happening) (w : Written) (s : Run) → HasSoundTables c → written g c e ≡ Ok w → Stands w.given.1 s → Stands c (in_front w s)
stands_front g c e w s sound h k = record { place = omega (arith, one_place g c e w sound h, k.place, length-append w.bits s.bits); sound = k.sound }

all_stands : (g : Setting) (c : Config) (es : List Happening) (r : Run) → HasSoundTables c → written_all g c es ≡ Ok r → Stands c r
all_stands g c [] r sound h = subst (λ (x : Run). Stands c x) (run_is (nothing_from c) r h) (stands_none c sound)
all_stands g c (e ∷ es) r sound h =
    let a = bind_parts (written g c e) _ r h in
    let w = a.0 in
    let t = then_parts w (written_all g w.given.1 es) r a.2 in
    subst (λ (x : Run). Stands c x) (sym t.2) (stands_front g c e w t.0 sound a.1 (all_stands g w.given.1 es t.0 (one_sound g c e w sound a.1) t.1))

put_stands : (g : Setting) (c : Config) (e : Happening) (r : Run) → HasSoundTables c → put g c e ≡ Ok r → Stands c r
unfolding put
put_stands g c e r sound h =
    let a = bind_parts (written g c e) _ r h in
    let w = a.0 in
    let t = then_parts w (written_all g w.given.1 (own w.given.1)) r a.2 in
    subst (λ (x : Run). Stands c x) (sym t.2) (stands_front g c e w t.0 sound a.1 (all_stands g w.given.1 (own w.given.1) t.0 (one_sound g c e w sound a.1) t.1))

-- ---- a list
abbrev listed_run : Run → Result Run Refusal
listed_run r = Ok r

listed_is : (a b : Run) → listed_run a ≡ listed_run b → a ≡ b
listed_is a b e = cc

abbrev both_runs : Run → Run → Run
both_runs r s = record { bits = r.bits ++ s.bits; events = r.events ++ s.events; last = s.last }

behind_parts : (r : Run) (o : Result Run Refusal) (t : Run) → behind_run r o ≡ Ok t → (s : Run) × (o ≡ Ok s) × (t ≡ both_runs r s)
behind_parts r (Ok s) t e = (s, refl, sym (listed_is (both_runs r s) t e))
behind_parts r (Err why) t e = absurd cc

abbrev Others : (Config → Result Run Refusal) → Type 0
Others others = (d : Config) (r : Run) → HasSoundTables d → others d ≡ Ok r → Stands d r

go_stands : (n : ℕ) (g : Setting) (c : Config) (e : Happening) (o : Result Run Refused) (others : Config → Result Run Refusal) (r : Run) → HasSoundTables c → Others others → put g c e ≡ o → go_on n o others ≡ Ok r → Stands c r
go_stands n g c e (Err why) others r sound more is h = absurd cc
go_stands n g c e (Ok s) others r sound more is h =
    let b = behind_parts s (others s.last) r h in
    let one = put_stands g c e s sound is in
    let rest = more s.last b.0 one.sound b.1 in
    subst (λ (x : Run). Stands c x) (sym b.2) record { place = omega (arith, one.place, rest.place, length-append s.bits b.0.bits); sound = rest.sound }

then_stands : (n : ℕ) (g : Setting) (c : Config) (o : Option Happening) (others : Config → Result Run Refusal) (r : Run) → HasSoundTables c → Others others → put_then n g c o others ≡ Ok r → Stands c r
then_stands n g c None others r sound more h = more c r sound h
then_stands n g c (Some e) others r sound more h = go_stands n g c e (put g c e) others r sound more refl h

from_stands : (n : ℕ) (g : Setting) (c : Config) (es : List Happening) (r : Run) → HasSoundTables c → put_from n g c es ≡ Ok r → Stands c r
from_stands n g c [] r sound h = elim (cases_Bool (has_ended c)) [
  | inl k ↦ subst (λ (x : Run). Stands c x) (listed_is (nothing_from c) r (rw k at h)) (stands_none c sound)
  | inr k ↦ absurd (let f = rw k at h in cc)
]
from_stands n g c (e ∷ es) r sound h = then_stands n g c (pruned g.options e) (λ d. put_from (suc n) g d es) r sound (λ d t so is. from_stands (suc n) g d es t so is) h

pub body_place : (g : Setting) (bits : ℕ) (limits : Bounds) (es : List Happening) (r : Run) → body g bits limits es ≡ Ok r → r.last.place ≡ bits + length r.bits
unfolding body
body_place g bits limits es r h = (from_stands 1 g (first_config g bits start.Body limits) es r record { here = first_sound _; aside = tt } h).place
