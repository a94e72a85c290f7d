-- Events with a value: attributes and characters. The value that fits the production is written, as far as no limit is passed.
use Rattle.std.proofs.Common.{◌≡◌, ◌≤◌, ◌+◌, ◌-◌, ◌^◌, ℕ, Bool, true, false, ◌&&◌, List, [], ◌∷◌, ◌++◌, Option, Some, refl, sym, ap, ◌∙◌, subst, inl, inr, arith}
use Rattle.std.specs.Prelude.{Result, Ok, Err}
use Rattle.std.proofs.lemmas.Bool.{cases_Bool}
use Rattle.exi_builtin.specs.declared.learnable.Learned.TheVariants as used
use Rattle.exi_gram.specs.Switches.{prefixes}
use Rattle.exi_meter.specs.Metering.{Metering, event_fits, level_fits, text_fits, with_event, with_level, with_text}
use Rattle.exi_names.specs.declared.names.NameId.{NameId}
use Rattle.exi_names.specs.declared.names.QName.{QName}
use Rattle.exi_names.specs.Events as event
use Rattle.exi_names.specs.Seen.{Value}
use Rattle.exi_tables.specs.Partitions.{Partitions}
use Rattle.exi_typed.specs.Strings.{Named}
use Rattle.exi_typed.specs.Written.{after_name}
use Rattle.exi_typed.specs.WrittenLaws.{name_units, named_for}
use Rattle.exi_processing.specs.Changes.{Effect, effect_of, effected, innermost}
use Rattle.exi_processing.specs.Configurations.{Config, Setting}
use Rattle.exi_builtin.specs.Learning.{Learning}
use Rattle.exi_processing.specs.Handing.{AreThere, IsThereIn, rule_in, telling_of}
use Rattle.exi_processing.specs.Rules.{Telling, Terminal, Valuing, attribute, characters, spelled}
use Rattle.exi_processing.specs.Stacks.{HasForm, HaveForm}
use Rattle.exi_processing.specs.declared.frames.Element.{Element}
use Rattle.exi_processing.specs.declared.frames.State.{State}
use Rattle.exi_processing.specs.declared.frames.State.TheVariants as state
use Rattle.exi_processing.specs.declared.rule.Content.TheVariants as content
use Rattle.exi_processing.specs.declared.rule.Rule.{Rule as Kept}
use Rattle.exi_processing.specs.declared.rule.Telling.{Telling as Told}
use Rattle.exi_processing.specs.declared.rule.Valuing.TheVariants as valuing
use Rattle.exi_values.specs.Stops.{IsRoomy}
use Rattle.exi_writing.specs.Contents.{attribute_value, told_name}
use Rattle.exi_writing.specs.OneEvent.{paid}
use Rattle.exi_writing.specs.Pieces.{Piece, can_name}
use Rattle.exi_writing.specs.Pruned.{pruned_value}
use Rattle.exi_toll.specs.Charges.{Charged, charge, charge_event, charge_level}
use Rattle.exi_toll.specs.declared.stop.PutStop.{PutStop}
use Rattle.exi_choice.specs.Fitting.{Declared, declared_in, fit_as, fit_for, fit_in, fitted, of_attribute, of_characters}
use Rattle.exi_choice.specs.Wanted.{is_of, is_told, place_told, suits, told_of}
use Rattle.exi_choice.specs.declared.fit.Fit.{Fit}
use Rattle.exi_choice.proofs.EventKinds.{only_attribute}
use Rattle.exi_choice.proofs.ToldNames.{nil_is, tells_so, type_is}
use Rattle.exi_pen.specs.Pages.{CanGrow, Ends, IsBegun, IsFitted, IsReady, IsWanted, Page, PutsIn, PutsLast, Writes, at_config, attribute_page, attribute_wanted, by_chosen, characters_wanted, id_of, learned_config, learned_page, paid_config, put_page}
use Rattle.exi_pen.specs.Told.{IsDeclaredAt, told_in, valuing_on}
use Rattle.exi_pen.specs.Values.{FitsAs, HasRoomBehind, IsSpelledAs, declared_value, value_by}
use Rattle.exi_pen.proofs.Effects.{declared_same}
use Rattle.exi_pen.proofs.FittedValues.{attribute_as, attribute_pruned, characters_pruned, effect_is, fits_as, spelled_as, valued_as}
use Rattle.exi_pen.proofs.EventKinds.{IsAt, at_kind, both_charged, both_is, both_none, both_page, coded_page, ends_within, first_none, last_page, last_stop, on_begun, one_last, plan_at, put_stop, spelled_at}
use Rattle.exi_pen.proofs.EventNames.{PutsName, attribute_same, characters_begun, datatype_of, spelled_item}
use Rattle.exi_pen.proofs.Putting.{few_more, few_name}
use Rattle.exi_pen.proofs.Wrote.{behind_is, settled}

-- ---- no charge takes text away
record IsUp (c : Charged) (n : Metering) : Type 0 where
  meter : Metering
  was : c ≡ Ok meter
  up : meter.used.text ≤ n.used.text

abbrev charged_ok : Metering → Charged
charged_ok m = Ok m

abbrev meter_or : Metering → Charged → Metering
meter_or other (Ok m) = m
meter_or other (Err why) = other

ok_is : (m n : Metering) → charged_ok m ≡ charged_ok n → m ≡ n
ok_is m n e = ap (meter_or n) e

as_much : (m : Metering) → m.used.text ≤ m.used.text
as_much m = omega arith

up_same : (m k n : Metering) → m.used.text ≤ k.used.text → k ≡ n → m.used.text ≤ n.used.text
up_same m k n h e = subst (λ (z : Metering). m.used.text ≤ z.used.text) e h

event_up : (counted : Bool) (c : Charged) (n : Metering) → charge_event counted c ≡ Ok n → IsUp c n
event_up counted (Err why) n e = absurd cc
event_up false (Ok m) n e = record { meter = m; was = refl; up = up_same m m n (as_much m) (ok_is m n e) }
event_up true (Ok m) n e = elim (cases_Bool (event_fits m)) [
  | inl h ↦
      let k : charged_ok (with_event m) ≡ charged_ok n = rw h at e in
      record { meter = m; was = refl; up = up_same m (with_event m) n (as_much m) (ok_is (with_event m) n k) }
  | inr h ↦ absurd (let k = rw h at e in cc)
]

level_up : (entered : Bool) (c : Charged) (n : Metering) → charge_level entered c ≡ Ok n → IsUp c n
level_up entered (Err why) n e = absurd cc
level_up false (Ok m) n e = record { meter = m; was = refl; up = up_same m m n (as_much m) (ok_is m n e) }
level_up true (Ok m) n e = elim (cases_Bool (level_fits m)) [
  | inl h ↦
      let k : charged_ok (with_level m) ≡ charged_ok n = rw h at e in
      record { meter = m; was = refl; up = up_same m (with_level m) n (as_much m) (ok_is (with_level m) n k) }
  | inr h ↦ absurd (let k = rw h at e in cc)
]

paid_up : (units : List ℕ) (m n : Metering) → paid units m ≡ Ok n → m.used.text ≤ n.used.text
paid_up [] m n e = up_same m m n (as_much m) (ok_is m n e)
paid_up (u ∷ us) m n e = elim (cases_Bool (text_fits m u)) [
  | inl h ↦
      let k : m.used.text + u ≤ n.used.text = paid_up us (with_text m u) n (rw h at e) in
      omega (arith, k)
  | inr h ↦ absurd (let k = rw h at e in cc)
]

charge_up : (units : List ℕ) (c : Charged) (n : Metering) → charge units c ≡ Ok n → IsUp c n
charge_up units (Err why) n e = absurd cc
charge_up units (Ok m) n e = record { meter = m; was = refl; up = paid_up units m n e }

-- what is charged before the content
begun_up : (counted entered : Bool) (m n : Metering) → charge_level entered (charge_event counted (Ok m)) ≡ Ok n → m.used.text ≤ n.used.text
begun_up counted entered m n e =
    let a = level_up entered (charge_event counted (Ok m)) n e in
    let b = event_up counted (Ok m) a.meter a.was in
    let same : m ≡ b.meter = ok_is m b.meter b.was in
    let first : b.meter.used.text ≤ a.meter.used.text = b.up in
    let second : a.meter.used.text ≤ n.used.text = a.up in
    let whole : b.meter.used.text ≤ n.used.text = omega (arith, first, second) in
    subst (λ (z : Metering). z.used.text ≤ n.used.text) (sym same) whole

-- ---- there is room for what may still be charged
pub roomy_begun : (old mid : Page) (counted entered : Bool) (owed : Charged) → IsReady old → mid.config.tables ≡ old.config.tables → owed ≡ charge_level entered (charge_event counted (Ok old.config.meter)) → HasRoomBehind owed mid.config.tables
roomy_begun old mid counted entered owed ready same charged m h =
    let up : old.config.meter.used.text ≤ m.used.text = begun_up counted entered old.config.meter m (sym charged ∙ h) in
    subst (λ (p : Partitions). IsRoomy m p) (sym same) (few_more (2 ^ 31 - 2 ^ 28 - 2 + old.config.meter.used.text) (2 ^ 31 - 2 ^ 28 + m.used.text) old.config.tables (omega (arith, up)) ready.room.roomy)

roomy_named : (old next : Page) (n : QName) (counted entered : Bool) (owed d : Charged) (units : List ℕ) → IsReady old → next.config.tables ≡ after_name old.config.tables n → owed ≡ charge_level entered (charge_event counted (Ok old.config.meter)) → d ≡ charge units owed → HasRoomBehind d next.config.tables
roomy_named old next n counted entered owed d units ready same charged more m h =
    let a = charge_up units owed m (sym more ∙ h) in
    let first : old.config.meter.used.text ≤ a.meter.used.text = begun_up counted entered old.config.meter a.meter (sym charged ∙ a.was) in
    let second : a.meter.used.text ≤ m.used.text = a.up in
    subst (λ (p : Partitions). IsRoomy m p) (sym same) (few_more (2 ^ 31 - 2 ^ 28 - 2 + old.config.meter.used.text + 1 + 1) (2 ^ 31 - 2 ^ 28 + m.used.text) (after_name old.config.tables n) (omega (arith, first, second)) (few_name (2 ^ 31 - 2 ^ 28 - 2 + old.config.meter.used.text) old.config.tables n ready.room.roomy))

-- ---- which events are wanted so
pub attribute_is_wanted : (old : Page) (own : Told) (n : QName) (v : Value) → own ≡ told_of old.config.tables n → IsWanted old.setting old.config.tables (attribute_wanted own n v) (event.at n (pruned_value old.setting.options v))
attribute_is_wanted old own n v e r =
    ap (λ (o : Told). suits old.setting (attribute_wanted o n (pruned_value old.setting.options v)) r) (sym e)
    ∙ ap (λ (b : Bool). is_of (content.Attribute own valuing.Untyped) r.on && b) (attribute_pruned old.setting.schema r.on (place_told own) n old.setting.options v)

pub characters_are_wanted : (old : Page) (v : Value) → IsWanted old.setting old.config.tables (characters_wanted v) (event.ch (pruned_value old.setting.options v))
characters_are_wanted old v r = ap (λ (b : Bool). is_of content.Characters r.on && b) (characters_pruned old.setting.schema r.on old.setting.options v)

-- ---- characters
abbrev pub pruned_in : Page → Value → Value
pruned_in p v = pruned_value p.setting.options v

pub characters_fit : (v w : Value) (old mid : Page) (toll owed : Charged) (rule : Kept) (fit : Fit) → IsBegun (characters_wanted v) old mid toll owed rule → IsFitted (characters_wanted v) old (record { rule = rule; value = fit }) → Some w ≡ fitted v (Some fit) → Some w ≡ fit_for (datatype_of rule) v
characters_fit v w old mid toll owed rule fit b f e = e ∙ (f.value ∙ ap (λ (t : Terminal). fit_in old.setting.schema t (of_characters v)) (characters_begun v old mid toll owed rule b))

-- what is known of characters behind their code
pub record IsCharacters (v w : Value) (old mid : Page) (toll owed : Charged) (rule : Kept) (name : NameId) : Type 0 where
  pub ready : IsReady old
  pub toll_is : toll ≡ Ok old.config.meter
  pub begun : IsBegun (characters_wanted v) old mid toll owed rule
  pub fits : Some w ≡ fit_for (datatype_of rule) v
  pub inside : name ≡ innermost mid.config.elements

pub characters_known : (v w : Value) (old mid : Page) (toll owed : Charged) (rule : Kept) (fit : Fit) (name : NameId) → IsReady old → toll ≡ Ok old.config.meter → IsBegun (characters_wanted v) old mid toll owed rule → IsFitted (characters_wanted v) old (record { rule = rule; value = fit }) → Some w ≡ fitted v (Some fit) → name ≡ innermost mid.config.elements
    → IsCharacters v w old mid toll owed rule name
characters_known v w old mid toll owed rule fit name ready paid b f e inside = record { ready = ready; toll_is = paid; begun = b; fits = characters_fit v w old mid toll owed rule fit b f e; inside = inside }

module _ (v w : Value) (old mid : Page) (toll owed : Charged) (rule : Kept) (name : NameId) (k : IsCharacters v w old mid toll owed rule name) where
  pub characters_spelled : IsSpelledAs (datatype_of rule) w
  characters_spelled = spelled_as (datatype_of rule) v w k.fits

  abbrev text_at : Terminal
  text_at = characters (datatype_of rule)

  characters_at : spelled_at old rule text_at (event.ch (pruned_in old v)) ≡ value_by mid.setting (datatype_of rule) name w mid.config.tables
  characters_at =
      valued_as old.setting (datatype_of rule) (innermost old.config.elements) v w old.config.tables k.fits
      ∙ (ap (λ (p : Page). value_by p.setting (datatype_of rule) (innermost p.config.elements) w p.config.tables) (sym k.begun.page)
      ∙ ap (λ (id : NameId). value_by mid.setting (datatype_of rule) id w mid.config.tables) (sym k.inside))

  pub characters_roomy : HasRoomBehind owed mid.config.tables
  characters_roomy =
      let at = at_kind (characters_wanted v) old mid toll owed rule (event.ch (pruned_in old v)) text_at k.ready k.toll_is k.begun (characters_are_wanted old v) (characters_begun v old mid toll owed rule k.begun) in
      roomy_begun old mid (plan_at old rule text_at).counted (plan_at old rule text_at).entered owed k.ready (ap (λ (p : Page). p.config.tables) k.begun.page) at.charged

  pub characters_stop : (stopped : PutStop) (new : Page) (charged : Charged) → PutsLast {A = Unit {0}} {X = Value} (Err stopped) (value_by mid.setting (datatype_of rule) name w mid.config.tables) mid new owed charged
      → Writes {X = Unit {0}} (Err stopped) old new (by_chosen old.setting old.config (event.ch (pruned_in old v)))
  characters_stop stopped new charged put =
      last_stop (Unit {0}) stopped old mid new owed owed charged rule (event.ch (pruned_in old v)) text_at k.begun.code (value_by mid.setting (datatype_of rule) name w mid.config.tables)
      (at_kind (characters_wanted v) old mid toll owed rule (event.ch (pruned_in old v)) text_at k.ready k.toll_is k.begun (characters_are_wanted old v) (characters_begun v old mid toll owed rule k.begun)) (ap (λ (p : Page). p.config.meter) k.begun.page)
      (λ none. characters_at ∙ none) put

  pub characters_ends : (r : Result (Unit {0}) PutStop) (last new : Page) (charged : Charged) → PutsLast {A = Unit {0}} {X = Value} (Ok tt) (value_by mid.setting (datatype_of rule) name w mid.config.tables) mid last owed charged
      → Ends r new charged (learned_page spelled used.Ch rule.to last) → Writes {X = Unit {0}} r old new (by_chosen old.setting old.config (event.ch (pruned_in old v)))
  characters_ends r last new charged put page =
      one_last r old last new owed charged rule (event.ch (pruned_in old v)) text_at k.begun.code (learned_page spelled used.Ch rule.to)
      (at_kind (characters_wanted v) old mid toll owed rule (event.ch (pruned_in old v)) text_at k.ready k.toll_is k.begun (characters_are_wanted old v) (characters_begun v old mid toll owed rule k.begun)) refl (λ item. k.begun.element)
      (subst (λ (p : Page). PutsLast {A = Unit {0}} {X = Value} (Ok tt) (spelled_at old rule text_at (event.ch (pruned_in old v))) p last owed charged) k.begun.page
      (subst (λ (o : Option (Piece Value)). PutsLast {A = Unit {0}} {X = Value} (Ok tt) o mid last owed charged) (sym characters_at) put))
      (λ piece m. refl) page

-- ---- attributes
-- there is place for the empty form of the innermost element's grammar
state_form : (g : Setting) (l : Learning) (s : State) → IsThereIn g l s → HasForm s
state_form g l (state.BuiltIn r) h = tt
state_form g l (state.Informed grammar number empty) h = h.1

forms_there : (g : Setting) (l : Learning) (es : List Element) → AreThere g l es → HaveForm es
forms_there g l [] h = tt
forms_there g l (e ∷ es) h = state_form g l e.state h

pub on_attribute : (own : Told) (n : QName) (v : Value) (old mid : Page) (toll owed : Charged) (rule : Kept) → IsBegun (attribute_wanted own n v) old mid toll owed rule → (t : Telling) × (u : Valuing) × ((rule_in rule).on ≡ attribute t u) × (is_told own t ≡ true)
on_attribute own n v old mid toll owed rule b = only_attribute own valuing.Untyped (rule_in rule).on (on_begun (attribute_wanted own n v) old mid toll owed rule b)

pub attribute_told : (own told : Told) (n : QName) (v : Value) (old mid : Page) (toll owed : Charged) (rule : Kept) → IsBegun (attribute_wanted own n v) old mid toll owed rule → own ≡ told_of old.config.tables n → telling_of told ≡ told_in (rule_in rule).on → is_told (told_of mid.config.tables n) (telling_of told) ≡ true
attribute_told own told n v old mid toll owed rule b e f =
    let j = on_attribute own n v old mid toll owed rule b in
    ap (λ (p : Page). is_told (told_of p.config.tables n) (telling_of told)) b.page
    ∙ (ap (λ (o : Told). is_told o (telling_of told)) (sym e) ∙ (ap (λ (z : Telling). is_told own z) (f ∙ ap told_in j.2) ∙ j.3))

pub attribute_stop : (stopped : PutStop) (own told : Told) (n : QName) (v : Value) (old mid new : Page) (toll owed charged : Charged) (rule : Kept) → IsReady old → toll ≡ Ok old.config.meter → IsBegun (attribute_wanted own n v) old mid toll owed rule → own ≡ told_of old.config.tables n
    → telling_of told ≡ told_in (rule_in rule).on → PutsIn {A = NameId} {X = Named} (Err stopped) (told_name mid.setting (telling_of told) n mid.config.tables) mid new owed charged
    → Writes {X = Unit {0}} (Err stopped) old new (by_chosen old.setting old.config (event.at n (pruned_in old v)))
attribute_stop stopped own told n v old mid new toll owed charged rule ready paid b e f put =
    let j = on_attribute own n v old mid toll owed rule b in
    let tl : telling_of told ≡ j.0 = f ∙ ap told_in j.2 in
    put_stop NameId stopped old mid new owed owed charged rule (event.at n (pruned_in old v)) (attribute j.0 j.1) b.code (told_name mid.setting (telling_of told) n mid.config.tables)
    (at_kind (attribute_wanted own n v) old mid toll owed rule (event.at n (pruned_in old v)) (attribute j.0 j.1) ready paid b (attribute_is_wanted old own n v e) j.2) (ap (λ (p : Page). p.config.meter) b.page)
    (λ none. first_none (told_name old.setting j.0 n old.config.tables) (λ (name : Named). attribute_value old.setting j.1 name (pruned_in old v))
    (ap (λ (p : Page). told_name p.setting j.0 n p.config.tables) (sym b.page) ∙ (ap (λ (t : Telling). told_name mid.setting t n mid.config.tables) (sym tl) ∙ none))) put

pub attribute_fit : (own : Told) (n : QName) (v w : Value) (old mid : Page) (toll owed : Charged) (rule : Kept) (fit : Fit) → IsBegun (attribute_wanted own n v) old mid toll owed rule → IsFitted (attribute_wanted own n v) old (record { rule = rule; value = fit }) → Some w ≡ fitted v (Some fit)
    → Some w ≡ fit_as (declared_in old.setting.schema (valuing_on (rule_in rule).on) (place_told own) n) v
attribute_fit own n v w old mid toll owed rule fit b f e =
    let j = on_attribute own n v old mid toll owed rule b in
    e ∙ (f.value ∙ (ap (λ (t : Terminal). fit_in old.setting.schema t (of_attribute (place_told own) n v)) j.2
    ∙ ap (λ (t : Terminal). fit_as (declared_in old.setting.schema (valuing_on t) (place_told own) n) v) (sym j.2)))

-- what is known of an attribute behind its name
pub record HasName (own told : Told) (n : QName) (v w : Value) (old mid next : Page) (toll owed d : Charged) (rule : Kept) (id : NameId) (dec : Declared) : Type 0 where
  pub ready : IsReady old
  pub toll_is : toll ≡ Ok old.config.meter
  pub begun : IsBegun (attribute_wanted own n v) old mid toll owed rule
  pub own_is : own ≡ told_of old.config.tables n
  pub tells : telling_of told ≡ told_in (rule_in rule).on
  pub fits : Some w ≡ fit_as (declared_in old.setting.schema (valuing_on (rule_in rule).on) (place_told own) n) v
  pub put : PutsName (telling_of told) n id mid next owed d
  pub id_is : id_of (told_name mid.setting (telling_of told) n mid.config.tables) id
  pub declared : dec ≡ declared_in next.setting.schema (valuing_on (rule_in rule).on) (place_told own) n

pub has_name : (own told : Told) (n : QName) (v w : Value) (old mid next : Page) (toll owed d : Charged) (rule : Kept) (fit : Fit) (id : NameId) (dec : Declared) → IsReady old → toll ≡ Ok old.config.meter → IsBegun (attribute_wanted own n v) old mid toll owed rule → IsFitted (attribute_wanted own n v) old (record { rule = rule; value = fit })
    → own ≡ told_of old.config.tables n → telling_of told ≡ told_in (rule_in rule).on → Some w ≡ fitted v (Some fit) → PutsName (telling_of told) n id mid next owed d → id_of (told_name mid.setting (telling_of told) n mid.config.tables) id
    → dec ≡ declared_in next.setting.schema (valuing_on (rule_in rule).on) (place_told own) n → HasName own told n v w old mid next toll owed d rule id dec
has_name own told n v w old mid next toll owed d rule fit id dec ready paid b f e tells fits put named declared =
    record { ready = ready; toll_is = paid; begun = b; own_is = e; tells = tells; fits = attribute_fit own n v w old mid toll owed rule fit b f fits; put = put; id_is = named; declared = declared }

-- the places of the name, and the tables behind it
record IsNamed (n : QName) (p : Partitions) (a : Piece Named) : Type 0 where
  item : a.item ≡ named_for p n
  tables : a.tables ≡ after_name p n

named_so : (g : Setting) (t : Telling) (n : QName) (p : Partitions) (a : Piece Named) → is_told (told_of p n) t ≡ true → told_name g t n p ≡ Some a → IsNamed n p a
named_so g t n p a h e =
    let s = tells_so g t n p h in
    let same : record { item = named_for p n; bits = s.bits; tables = after_name p n; units = name_units n } ≡ a = spelled_item (can_name (prefixes g.options) p n) (record { item = named_for p n; bits = s.bits; tables = after_name p n; units = name_units n }) a (sym s.is ∙ e) in
    record { item = ap (λ (z : Piece Named). z.item) (sym same); tables = ap (λ (z : Piece Named). z.tables) (sym same) }

module _ (own told : Told) (n : QName) (v w : Value) (old mid next : Page) (toll owed d : Charged) (rule : Kept) (id : NameId) (dec : Declared) (k : HasName own told n v w old mid next toll owed d rule id dec) where
  abbrev name_piece : Piece Named
  name_piece = k.put.0

  tells_it : (t : Telling) × (u : Valuing) × ((rule_in rule).on ≡ attribute t u) × (is_told own t ≡ true)
  tells_it = on_attribute own n v old mid toll owed rule k.begun

  abbrev at_terminal : Terminal
  at_terminal = attribute tells_it.0 tells_it.1

  telling_is : telling_of told ≡ tells_it.0
  telling_is = k.tells ∙ ap told_in tells_it.2

  told_here : told_name old.setting tells_it.0 n old.config.tables ≡ Some name_piece
  told_here = ap (λ (p : Page). told_name p.setting tells_it.0 n p.config.tables) (sym k.begun.page) ∙ (ap (λ (t : Telling). told_name mid.setting t n mid.config.tables) (sym telling_is) ∙ k.put.1)

  named_here : IsNamed n old.config.tables name_piece
  named_here = named_so old.setting tells_it.0 n old.config.tables name_piece (ap (λ (o : Told). is_told o tells_it.0) (sym k.own_is) ∙ tells_it.3) told_here

  setting_same : next.setting ≡ old.setting
  setting_same = ap (λ (p : Page). p.setting) k.put.2 ∙ ap (λ (p : Page). p.setting) k.begun.page

  tables_are : next.config.tables ≡ name_piece.tables
  tables_are = ap (λ (p : Page). p.config.tables) k.put.2

  places_are : id ≡ name_piece.item.id
  places_are = subst (λ (o : Option (Piece Named)). id_of o id) k.put.1 k.id_is

  name_is : name_piece.item.name ≡ n
  name_is = ap (λ (x : Named). x.name) named_here.item

  -- how its value is represented
  abbrev declared_of : Setting → Option NameId → QName → Declared
  declared_of g o m = declared_in g.schema tells_it.1 o m

  declared_first : dec ≡ declared_of old.setting (place_told own) n
  declared_first = k.declared ∙ (ap (λ (g : Setting). declared_in g.schema (valuing_on (rule_in rule).on) (place_told own) n) setting_same ∙ ap (λ (t : Terminal). declared_in old.setting.schema (valuing_on t) (place_told own) n) tells_it.2)

  declared_placed : declared_of old.setting (place_told own) n ≡ declared_of old.setting (Some (named_for old.config.tables n).id) n
  declared_placed =
      ap (λ (o : Told). declared_of old.setting (place_told o) n) k.own_is
      ∙ declared_same old.setting.schema tells_it.1 (place_told (told_of old.config.tables n)) (named_for old.config.tables n).id n (type_is old.setting old.config.tables n k.ready.names k.ready.sound.body.kept) (nil_is old.setting old.config.tables n k.ready.names k.ready.sound.body.kept)

  declared_here : declared_of old.setting (place_told own) n ≡ declared_of old.setting (Some name_piece.item.id) name_piece.item.name
  declared_here =
      declared_placed ∙ (ap (λ (x : Named). declared_of old.setting (Some x.id) n) (sym named_here.item) ∙ ap (λ (m : QName). declared_of old.setting (Some name_piece.item.id) m) (sym name_is))

  value_fits : Some w ≡ fit_as (declared_of old.setting (Some name_piece.item.id) name_piece.item.name) v
  value_fits = k.fits ∙ (ap (λ (t : Terminal). fit_as (declared_in old.setting.schema (valuing_on t) (place_told own) n) v) tells_it.2 ∙ ap (λ (z : Declared). fit_as z v) declared_here)

  pub attribute_fits : FitsAs dec w
  attribute_fits = subst (λ (z : Declared). FitsAs z w) (sym (declared_first ∙ declared_here)) (fits_as (declared_of old.setting (Some name_piece.item.id) name_piece.item.name) v w value_fits)

  pub attribute_declared : (last : Page) → last.setting ≡ next.setting → IsDeclaredAt last.setting.schema (valuing_on (rule_in rule).on) id dec
  attribute_declared last same = (
    n,
    declared_first ∙ (declared_placed
        ∙ (ap (λ (x : Named). declared_of old.setting (Some x.id) n) (sym named_here.item)
        ∙ (ap (λ (i : NameId). declared_of old.setting (Some i) n) (sym places_are)
        ∙ (ap (λ (t : Terminal). declared_in old.setting.schema (valuing_on t) (Some id) n) (sym tells_it.2)
        ∙ ap (λ (g : Setting). declared_in g.schema (valuing_on (rule_in rule).on) (Some id) n) (sym (same ∙ setting_same)))))),
  )

  -- its value, as it is written
  value_written : declared_value next.setting dec id w next.config.tables ≡ declared_value old.setting (declared_of old.setting (Some name_piece.item.id) name_piece.item.name) name_piece.item.id w next.config.tables
  value_written =
      ap (λ (g : Setting). declared_value g dec id w next.config.tables) setting_same
      ∙ (ap (λ (z : Declared). declared_value old.setting z id w next.config.tables) (declared_first ∙ declared_here)
      ∙ ap (λ (i : NameId). declared_value old.setting (declared_of old.setting (Some name_piece.item.id) name_piece.item.name) i w next.config.tables) places_are)

  value_there : attribute_value old.setting tells_it.1 name_piece.item (pruned_in old v) next.config.tables ≡ declared_value next.setting dec id w next.config.tables
  value_there = attribute_as old.setting tells_it.1 name_piece.item v w next.config.tables value_fits ∙ sym value_written

  attribute_going : IsAt old owed rule (event.at n (pruned_in old v)) at_terminal k.begun.code
  attribute_going = at_kind (attribute_wanted own n v) old mid toll owed rule (event.at n (pruned_in old v)) at_terminal k.ready k.toll_is k.begun (attribute_is_wanted old own n v k.own_is) tells_it.2

  pub attribute_roomy : HasRoomBehind d next.config.tables
  attribute_roomy =
      roomy_named old next n (plan_at old rule at_terminal).counted (plan_at old rule at_terminal).entered owed d name_piece.units k.ready (tables_are ∙ named_here.tables) attribute_going.charged k.put.3

  pub attribute_forms : (last : Page) → last.config.elements ≡ next.config.elements → HaveForm last.config.elements
  attribute_forms last same =
      subst HaveForm (sym (same ∙ (ap (λ (p : Page). p.config.elements) k.put.2 ∙ ap (λ (p : Page). p.config.elements) k.begun.page))) (forms_there old.setting old.config.learned old.config.elements k.ready.elements)

  pub attribute_stops : (stopped : PutStop) (new : Page) (charged : Charged) → PutsLast {A = Unit {0}} {X = Value} (Err stopped) (declared_value next.setting dec id w next.config.tables) next new d charged
      → Writes {X = Unit {0}} (Err stopped) old new (by_chosen old.setting old.config (event.at n (pruned_in old v)))
  attribute_stops stopped new charged put =
      last_stop (Unit {0}) stopped old next new owed d charged rule (event.at n (pruned_in old v)) at_terminal k.begun.code (declared_value next.setting dec id w next.config.tables) attribute_going
      (ap (λ (p : Page). p.config.meter) k.put.2 ∙ ap (λ (p : Page). p.config.meter) k.begun.page)
      (λ none. both_none (told_name old.setting tells_it.0 n old.config.tables) (λ (name : Named). attribute_value old.setting tells_it.1 name (pruned_in old v)) name_piece next.config.tables told_here tables_are (value_there ∙ none)) put

  pub attribute_ends : (r : Result (Unit {0}) PutStop) (last new : Page) (charged : Charged) → PutsLast {A = Unit {0}} {X = Value} (Ok tt) (declared_value next.setting dec id w next.config.tables) next last d charged
      → Ends r new charged (attribute_page (told_in (rule_in rule).on) (valuing_on (rule_in rule).on) (rule_in rule).to id w last)
      → Writes {X = Unit {0}} r old new (by_chosen old.setting old.config (event.at n (pruned_in old v)))
  attribute_ends r last new charged two page =
      let a : Piece Named = name_piece in
      let x : Piece Value = two.0 in
      let whole : Piece (Named × Value) = record { item = (a.item, x.item); bits = a.bits ++ x.bits; tables = x.tables; units = a.units ++ x.units } in
      let there : spelled_at old rule at_terminal (event.at n (pruned_in old v)) ≡ Some whole =
      both_is (told_name old.setting tells_it.0 n old.config.tables) (λ (name : Named). attribute_value old.setting tells_it.1 name (pruned_in old v)) a x next.config.tables told_here tables_are (value_there ∙ two.1) in
      let behind : Page = put_page (coded_page old k.begun.code) whole.bits whole.tables in
      let last_is : (m : Metering) → charged ≡ Ok m → last ≡ behind = λ m h. (
      both_page mid next last a.bits x.bits a.tables x.tables k.put.2 (last_page x next last d charged two.2 m h) ∙ ap (λ (p : Page). put_page p whole.bits whole.tables) k.begun.page
      ) in
      let effect : effect_of old.setting tells_it.1 a.item.id w ≡ effect_of old.setting tells_it.1 a.item.id x.item = effect_is old.setting tells_it.1 a.item w next.config.tables x (sym value_written ∙ two.1) in
      ends_within r old new owed charged rule (event.at n (pruned_in old v)) at_terminal k.begun.code whole (attribute_page (told_in (rule_in rule).on) (valuing_on (rule_in rule).on) rule.to id w last)
      attribute_going there k.begun.element (both_charged owed d charged a.units x.units k.put.3 (two.2).charges)
      (λ m h. ap (λ (p : Page). attribute_page (told_in (rule_in rule).on) (valuing_on (rule_in rule).on) rule.to id w p m) (last_is m h)
      ∙ (ap (λ (t : Terminal). attribute_page (told_in t) (valuing_on t) rule.to id w behind m) tells_it.2
      ∙ (ap (λ (i : NameId). attribute_page tells_it.0 tells_it.1 rule.to i w behind m) places_are
      ∙ (ap (λ (e : Effect). at_config behind (effected e rule.to (learned_config tells_it.0 (used.At a.item.id) (paid_config m behind.config)))) effect
      ∙ (ap (λ (c : Config). record { setting = old.setting; bits = (old.bits ++ k.begun.code) ++ whole.bits; config = c }) (attribute_same (effect_of old.setting tells_it.1 a.item.id x.item) tells_it.0 (used.At a.item.id) rule.to (settled old k.begun.code whole.bits m whole.tables))
      ∙ sym (behind_is old (plan_at old rule at_terminal) k.begun.code whole m refl k.ready.place)))))) page

-- ---- what stands behind the last part
pub grow_last : {A X : Type 0} (a : A) (w : Option (Piece X)) (p q : Page) (c d : Charged) → CanGrow p.config → PutsLast {A = A} {X = X} (Ok a) w p q c d → CanGrow q.config
grow_last {A} {X} a w p q c d k put = subst (λ (z : Page). CanGrow z.config) (sym (put.2).page) record { learns = k.learns; grammars = k.grammars }

pub setting_last : {A X : Type 0} (a : A) (w : Option (Piece X)) (p q : Page) (c d : Charged) → PutsLast {A = A} {X = X} (Ok a) w p q c d → q.setting ≡ p.setting
setting_last {A} {X} a w p q c d put = ap (λ (z : Page). z.setting) (put.2).page

pub elements_last : {A X : Type 0} (a : A) (w : Option (Piece X)) (p q : Page) (c d : Charged) → PutsLast {A = A} {X = X} (Ok a) w p q c d → q.config.elements ≡ p.config.elements
elements_last {A} {X} a w p q c d put = ap (λ (z : Page). z.config.elements) (put.2).page

-- ---- the name as it is kept
pub kept_attribute : (r : Result (Unit {0}) PutStop) (old new : Page) (n kept : QName) (v : Value) → n ≡ kept → Writes {X = Unit {0}} r old new (by_chosen old.setting old.config (event.at n v)) → Writes {X = Unit {0}} r old new (by_chosen old.setting old.config (event.at kept v))
kept_attribute r old new n kept v f k = subst (λ (x : QName). Writes {X = Unit {0}} r old new (by_chosen old.setting old.config (event.at x v))) f k
