-- What a step keeps between its code and its content.
use Rattle.std.proofs.Common.{◌≡◌, ◌≤◌, ◌<◌, ◌+◌, ◌-◌, ◌^◌, ℕ, Bool, true, false, List, [], ◌∷◌, length, Option, Some, None, Result, Ok, Err, refl, sym, ap, ◌∙◌, subst, arith}
use Rattle.exi_bits.specs.declared.fault.Fault.{Fault}
use Rattle.exi_bits.specs.Bits.{Spot}
use Rattle.exi_builtin.specs.declared.learnable.Room.{Room}
use Rattle.exi_builtin.specs.Learning.{IsRoom, Learning}
use Rattle.exi_gram.specs.Books.{IsStateOf}
use Rattle.exi_gram.specs.Codes.{Productions, code_at}
use Rattle.exi_gram.specs.Switches.{align_of}
use Rattle.exi_meter.specs.Metering.{Metering}
use Rattle.exi_names.specs.declared.datatype.Datatype.{Datatype}
use Rattle.exi_names.specs.declared.names.NameId.{NameId}
use Rattle.exi_tables.specs.Partitions.{IsName, Partitions, uris}
use Rattle.exi_typed.specs.ReadStates.{Failure}
use Rattle.exi_values.proofs.Growths.{few_more}
use Rattle.exi_processing.specs.Configurations.{Config, Setting, built_in, element_rules, in_book, rules_in, rules_of, spot_in}
use Rattle.exi_processing.specs.Handing.{AreThere, HasLevels, HasNames, HasRoom, IsThereIn, IsTold, StandsIn, Standing, charged_at, charges_on, making, telling_of, terminal_in, with_place}
use Rattle.exi_processing.specs.Plans.{Alone, Plan, alone_in, nowhere, plan_on}
use Rattle.exi_processing.specs.OneEvent.{at_event, followed, one}
use Rattle.exi_processing.specs.declared.charges.Charges.{Charges}
use Rattle.exi_processing.specs.declared.frames.Element.{Element}
use Rattle.exi_processing.specs.declared.frames.Outer.{Outer}
use Rattle.exi_processing.specs.declared.frames.State.{State}
use Rattle.exi_processing.specs.declared.frames.State.TheVariants as state
use Rattle.exi_processing.specs.declared.rule.Content.{Content}
use Rattle.exi_processing.specs.declared.rule.Content.TheVariants as content
use Rattle.exi_processing.specs.declared.rule.Telling.{Telling as Told}
use Rattle.exi_processing.specs.declared.rule.Telling.TheVariants as told
use Rattle.exi_processing.specs.Rules.{Rule, Terminal, attribute, characters, comment, declaration, document_type, element, end_document, end_element, entity, instruction, self_contained, start_document}
use Rattle.exi_processing.specs.Spelled.{IsCharged, counted_by, entered_by}
use Rattle.exi_processing.specs.Stacks.{HasForm, HaveForm, first_element}
use Rattle.exi_processing.proofs.EventOne.{charge_is}
use Rattle.exi_reader.proofs.StepParts.{charges_are, followed_paid, followed_unpaid, one_followed}

entered_up : (e : Bool) (m : Metering) → m.level ≤ (entered_by e m).level
entered_up true m = omega arith
entered_up false m = omega arith

counted_same : (b : Bool) (m : Metering) → m.level ≤ (counted_by b m).level
counted_same true m = omega arith
counted_same false m = omega arith

pub paid_level : (g : Setting) (a : Alone) (c : Config) (r : Rule) (bit : ℕ) (m n : Metering) → charged_at bit (charges_on a c.after_start r.on) m ≡ Ok n → m.level ≤ n.level
paid_level g a c r bit m n e =
    let p : Plan = plan_on g a c r r.on in
    let k : IsCharged p m n = charge_is bit p m n (charges_are g a c r r.on bit m ∙ e) in
    subst (λ (z : Metering). m.level ≤ z.level) (sym k.after) (omega (arith, entered_up p.entered (counted_by p.counted m), counted_same p.counted m))

-- no text is charged
entered_text : (e : Bool) (m : Metering) → (entered_by e m).used.text ≡ m.used.text
entered_text true m = refl
entered_text false m = refl

counted_text : (b : Bool) (m : Metering) → (counted_by b m).used.text ≡ m.used.text
counted_text true m = refl
counted_text false m = refl

pub paid_text : (g : Setting) (a : Alone) (c : Config) (r : Rule) (bit : ℕ) (m n : Metering) → charged_at bit (charges_on a c.after_start r.on) m ≡ Ok n → n.used.text ≡ m.used.text
paid_text g a c r bit m n e =
    let p : Plan = plan_on g a c r r.on in
    let k : IsCharged p m n = charge_is bit p m n (charges_are g a c r r.on bit m ∙ e) in
    ap (λ (z : Metering). z.used.text) k.after ∙ entered_text p.entered (counted_by p.counted m) ∙ counted_text p.counted m

pub room_on : (c : Config) (place : ℕ) (m : Metering) → m.used.text ≡ c.meter.used.text → HasRoom c → HasRoom (record c { place = place; meter = m })
room_on c place m same h = record {
  few = h.few;
  roomy = few_more (2 ^ 31 - 2 ^ 28 - 2 + c.meter.used.text) (2 ^ 31 - 2 ^ 28 - 2 + m.used.text) c.tables (omega (arith, same)) h.roomy;
  learns = h.learns;
  grammars = h.grammars;
}

pub levels_on : (c : Config) (place : ℕ) (m : Metering) → c.meter.level ≤ m.level → HasLevels c → HasLevels (record c { place = place; meter = m })
levels_on c place m le h = record { aside = λ some. omega (arith, h.aside some, le); inside = λ has. omega (arith, h.inside has, le) }

pub names_on : (c : Config) (place : ℕ) (m : Metering) (t : Terminal) → HasNames c t → HasNames (record c { place = place; meter = m }) t
names_on c place m (element t) h = h
names_on c place m (attribute t v) h = h
names_on c place m (characters d) h = h
names_on c place m start_document h = tt
names_on c place m end_document h = tt
names_on c place m end_element h = tt
names_on c place m declaration h = tt
names_on c place m self_contained h = tt
names_on c place m comment h = tt
names_on c place m instruction h = tt
names_on c place m document_type h = tt
names_on c place m entity h = tt

-- what a code tells stands
known_is : (x y : NameId) → told.Known x ≡ told.Known y → x ≡ y
known_is x y e = cc

under_is : (x y : ℕ) → told.Under x ≡ told.Under y → x ≡ y
under_is x y e = cc

pub told_stands : (t : Told) (p : Partitions) → StandsIn p (telling_of t) → IsTold t p
told_stands told.Spelled p h = record { known = λ id e. absurd cc; under = λ uri e. absurd cc }
told_stands (told.Under x) p h = record { known = λ id e. absurd cc; under = λ uri e. subst (λ (z : ℕ). z < length (uris p)) (under_is x uri e) h }
told_stands (told.Known x) p h = record { known = λ id e. subst (λ (z : NameId). IsName p z) (known_is x id e) h; under = λ uri e. absurd cc }

-- there is place for the empty form of the innermost element's grammar
state_form : (g : Setting) (l : Learning) (s : State) → IsThereIn g l s → HasForm s
state_form g l (state.BuiltIn r) h = tt
state_form g l (state.Informed grammar number empty) h = h.1

pub forms_there : (g : Setting) (l : Learning) (es : List Element) → AreThere g l es → HaveForm es
forms_there g l [] h = tt
forms_there g l (e ∷ es) h = state_form g l e.state h

-- what is charged does not hang on a datatype
pub charges_typed : (a : Alone) (after : Bool) (k : Content) (d : Option Datatype) → charges_on a after (terminal_in k None) ≡ charges_on a after (terminal_in k d)
charges_typed a after content.StartDocument d = refl
charges_typed a after content.EndDocument d = refl
charges_typed a after (content.Element name) d = refl
charges_typed a after (content.Attribute name v) d = refl
charges_typed a after content.Characters d = refl
charges_typed a after content.EndElement d = refl
charges_typed a after content.Declaration d = refl
charges_typed a after content.SelfContained d = refl
charges_typed a after content.Comment d = refl
charges_typed a after content.Instruction d = refl
charges_typed a after content.DocumentType d = refl
charges_typed a after content.Entity d = refl

-- ---- inside an element of a built-in grammar
first_is : (x e : Element) → Some x ≡ Some e → x ≡ e
first_is x e is = cc

pub rules_inside : (g : Setting) (l : Learning) (e : Element) (r : Room) (es : List Element) (o : Outer) → first_element es ≡ Some e → e.state ≡ state.BuiltIn r → rules_in g l es o ≡ built_in g l r
rules_inside g l e r [] o is at = absurd cc
rules_inside g l e r (x ∷ xs) o is at = ap (λ (y : Element). element_rules g l y.state) (first_is x e is) ∙ ap (element_rules g l) at

pub room_inside : (g : Setting) (l : Learning) (e : Element) (r : Room) (es : List Element) → first_element es ≡ Some e → e.state ≡ state.BuiltIn r → AreThere g l es → IsRoom l r
room_inside g l e r [] is at h = absurd cc
room_inside g l e r (x ∷ xs) is at h = subst (λ (s : State). IsThereIn g l s) at (subst (λ (y : Element). IsThereIn g l y.state) (first_is x e is) h)

-- ---- inside an element of a grammar of the book
pub rules_in_book : (g : Setting) (l : Learning) (e : Element) (grammar number : ℕ) (empty : Bool) (es : List Element) (o : Outer) → first_element es ≡ Some e → e.state ≡ state.Informed grammar number empty → rules_in g l es o ≡ in_book g grammar number
rules_in_book g l e grammar number empty [] o is at = absurd cc
rules_in_book g l e grammar number empty (x ∷ xs) o is at = ap (λ (y : Element). element_rules g l y.state) (first_is x e is) ∙ ap (element_rules g l) at

pub state_inside : (g : Setting) (l : Learning) (e : Element) (grammar number : ℕ) (empty : Bool) (es : List Element) → first_element es ≡ Some e → e.state ≡ state.Informed grammar number empty → AreThere g l es → IsStateOf g grammar number
state_inside g l e grammar number empty [] is at h = absurd cc
state_inside g l e grammar number empty (x ∷ xs) is at h = (subst (λ (s : State). IsThereIn g l s) at (subst (λ (y : Element). IsThereIn g l y.state) (first_is x e is) h)).0

-- ---- inside any element
pub nowhere_inside : (e : Element) (es : List Element) (o : Outer) → first_element es ≡ Some e → alone_in es o ≡ nowhere
nowhere_inside e [] o is = absurd cc
nowhere_inside e (x ∷ xs) o is = refl

-- a code among the productions of the built-in grammar is one among all
pub told_so : (g : Setting) (bytes : List ℕ) (c : Config) (r : Room) (q : Result (Rule × Spot) Fault) → rules_of g c ≡ built_in g c.learned r → code_at (align_of g.options) (built_in g c.learned r) (spot_in bytes c) ≡ q → code_at (align_of g.options) (rules_of g c) (spot_in bytes c) ≡ q
told_so g bytes c r q is told = ap (λ (p : Productions Rule). code_at (align_of g.options) p (spot_in bytes c)) is ∙ told

-- a code among the productions of a state of the book is one among all
pub told_in_book : (g : Setting) (bytes : List ℕ) (c : Config) (grammar state : ℕ) (q : Result (Rule × Spot) Fault) → rules_of g c ≡ in_book g grammar state → code_at (align_of g.options) (in_book g grammar state) (spot_in bytes c) ≡ q → code_at (align_of g.options) (rules_of g c) (spot_in bytes c) ≡ q
told_in_book g bytes c grammar state q is told = ap (λ (p : Productions Rule). code_at (align_of g.options) p (spot_in bytes c)) is ∙ told

-- ---- a step: its code, and what stands behind
module _ (old : Standing) (r : Rule) (x : Config) (told : code_at (align_of old.setting.options) (rules_of old.setting old.config) (spot_in old.bytes old.config) ≡ Ok (r, spot_in old.bytes x)) (v : Standing) (is : v ≡ with_place old x.place) where
  pub step_followed : (bit : ℕ) (a : Alone) → bit ≡ old.config.place → a ≡ alone_in old.config.elements old.config.outer → one old.setting old.bytes old.config ≡ followed v.bytes bit (plan_on v.setting a v.config r r.on) v.config
  step_followed bit a at alone =
      subst (λ (w : Standing). one old.setting old.bytes old.config ≡ followed w.bytes bit (plan_on w.setting a w.config r r.on) w.config) (sym is)
      (one_followed old.setting old.bytes old.config r (spot_in old.bytes x) bit a told at alone)

  pub step_room : HasRoom old.config → HasRoom v.config
  step_room h = subst (λ (w : Standing). HasRoom w.config) (sym is) (room_on old.config x.place old.config.meter refl h)

  pub step_levels : HasLevels old.config → HasLevels v.config
  step_levels h = subst (λ (w : Standing). HasLevels w.config) (sym is) (levels_on old.config x.place old.config.meter (omega arith) h)

  pub step_forms : AreThere old.setting old.config.learned old.config.elements → HaveForm v.config.elements
  step_forms h = subst (λ (w : Standing). HaveForm w.config.elements) (sym is) (forms_there old.setting old.config.learned old.config.elements h)

  pub step_names : HasNames old.config r.on → HasNames v.config r.on
  step_names h = subst (λ (w : Standing). HasNames w.config r.on) (sym is) (names_on old.config x.place old.config.meter r.on h)

-- ---- what stands behind a code, by what its parts answer
module _ (old : Standing) (r : Rule) (bit : ℕ) (a : Alone) (k : Charges) (v : Standing) (is : v ≡ old) (ek : k ≡ charges_on a v.config.after_start r.on) where
  charged_same : (q : Result Metering Failure) → charged_at bit k v.config.meter ≡ q → charged_at bit (charges_on a v.config.after_start r.on) v.config.meter ≡ q
  charged_same q paid = ap (λ (z : Charges). charged_at bit z v.config.meter) (sym ek) ∙ paid

  pub follow_unpaid : (e : Failure) → charged_at bit k v.config.meter ≡ Err e → followed old.bytes bit (plan_on old.setting a old.config r r.on) old.config ≡ Err e
  follow_unpaid e paid = subst (λ (w : Standing). followed w.bytes bit (plan_on w.setting a w.config r r.on) w.config ≡ Err e) is (followed_unpaid v.setting v.bytes a v.config bit r e (charged_same (Err e) paid))

  pub follow_paid : (m : Metering) → charged_at bit k v.config.meter ≡ Ok m →
      followed old.bytes bit (plan_on old.setting a old.config r r.on) old.config ≡ at_event bit (making v.bytes bit (plan_on v.setting a (record v.config { meter = m }) r r.on) (record v.config { meter = m }))
  follow_paid m paid =
      subst (λ (w : Standing). followed w.bytes bit (plan_on w.setting a w.config r r.on) w.config ≡ at_event bit (making v.bytes bit (plan_on v.setting a (record v.config { meter = m }) r r.on) (record v.config { meter = m }))) is
      (followed_paid v.setting v.bytes a v.config bit r m (charged_same (Ok m) paid))

  pub follow_room : (m : Metering) → charged_at bit k v.config.meter ≡ Ok m → HasRoom old.config → HasRoom (record v.config { meter = m })
  follow_room m paid h = room_on v.config v.config.place m (paid_text v.setting a v.config r bit v.config.meter m (charged_same (Ok m) paid)) (subst (λ (w : Standing). HasRoom w.config) (sym is) h)

  pub follow_levels : (m : Metering) → charged_at bit k v.config.meter ≡ Ok m → HasLevels old.config → HasLevels (record v.config { meter = m })
  follow_levels m paid h = levels_on v.config v.config.place m (paid_level v.setting a v.config r bit v.config.meter m (charged_same (Ok m) paid)) (subst (λ (w : Standing). HasLevels w.config) (sym is) h)

  pub follow_forms : (m : Metering) → HaveForm old.config.elements → HaveForm (record v.config { meter = m }).elements
  follow_forms m h = subst (λ (w : Standing). HaveForm w.config.elements) (sym is) h

  pub follow_names : (m : Metering) → HasNames old.config r.on → HasNames (record v.config { meter = m }) r.on
  follow_names m h = names_on v.config v.config.place m r.on (subst (λ (w : Standing). HasNames w.config r.on) (sym is) h)
