-- One event goes onward against the same limits; it is counted where it gives an event, and else comes nearer to the
-- end of a fragment.
use Rattle.std.proofs.Common.{◌≡◌, ℕ, zero, suc, ◌+◌, ◌*◌, ◌/◌, ◌≤◌, Bool, true, false, List, [], ◌∷◌, Option, Some, None, refl, sym, ap, ◌∙◌, subst, arith}
use Rattle.std.proofs.lemmas.Bool.{leb-true}
use Rattle.exi_bits.specs.declared.fault.Kind.TheVariants as kind
use Rattle.exi_builtin.specs.declared.learnable.Learned.{Learned}
use Rattle.exi_builtin.specs.declared.learnable.Learned.TheVariants as used
use Rattle.exi_gram.specs.Switches.{align_of}
use Rattle.exi_meter.specs.Metering.{Metering, event_fits, with_text}
use Rattle.exi_meter.specs.declared.tally.Tally.{Tally}
use Rattle.exi_names.specs.Events.{Happening}
use Rattle.exi_names.specs.Events as happening
use Rattle.exi_typed.specs.ReadStates.{ReadState}
use Rattle.exi_typed.specs.Continues.{Continues}
use Rattle.exi_typed.proofs.ContextItems.{told}
use Rattle.exi_processing.specs.Changes.{Effect, effect_of, effected, emptied, leads, learns_name, outer_behind, resumed, retyped, stays}
use Rattle.exi_processing.specs.Configurations.{Body, Config, Setting, read_state_in, reached, rules_of, spot_in}
use Rattle.exi_processing.specs.Fragments.{begins}
use Rattle.exi_processing.specs.OneEvent.{behind, one, remembered}
use Rattle.exi_processing.specs.Plans.{Alone, Given, Plan, alone_in, at_end, at_first, at_start, ended_in, nowhere, plan_of, plan_on}
use Rattle.exi_processing.specs.Rules.{Rule, Telling, Terminal, attribute, characters, comment, declaration, document_type, element, end_document, end_element, entity, instruction, known, self_contained, spelled, start_document, under}
use Rattle.exi_processing.specs.Spelled.{IsCharged, counted_by, entered_by}
use Rattle.exi_processing.specs.declared.frames.Element.{Element}
use Rattle.exi_processing.specs.declared.frames.Outer.{Outer}
use Rattle.exi_processing.specs.declared.frames.Outer.TheVariants as outer
use Rattle.exi_processing.proofs.CodePlaces.{code_goes}
use Rattle.exi_processing.proofs.EventOne.{at_place, stepped}
use Rattle.exi_processing.proofs.PlanFacts.{made_stays, plan_reads}

-- ---- how many turns without an event are left in the fragments that are open
abbrev pub weight : Outer → ℕ
weight (outer.Book grammar number) = 0
weight outer.FragmentStart = 0
weight outer.FragmentContent = 0
weight outer.AloneStart = 3
weight outer.AloneFirst = 2
weight outer.AloneOver = 1
weight outer.Ended = 0

abbrev pub weights_in : List Body → ℕ
weights_in [] = 0
weights_in (b ∷ bs) = weight b.outer + weights_in bs

abbrev pub weights : Config → ℕ
weights c = weight c.outer + weights_in c.aside

-- by so many a state that follows has fewer
abbrev fewer : Alone → ℕ
fewer nowhere = 0
fewer at_start = 1
fewer at_first = 1
fewer at_end = 0

moved_weight : (to : ℕ) (es : List Element) (o : Outer) → weight (outer_behind to es o) + fewer (alone_in es o) ≤ weight o
moved_weight to (e ∷ es) o = omega arith
moved_weight to [] (outer.Book grammar number) = omega arith
moved_weight zero [] outer.FragmentStart = omega arith
moved_weight (suc to) [] outer.FragmentStart = omega arith
moved_weight zero [] outer.FragmentContent = omega arith
moved_weight (suc to) [] outer.FragmentContent = omega arith
moved_weight to [] outer.AloneStart = omega arith
moved_weight to [] outer.AloneFirst = omega arith
moved_weight to [] outer.AloneOver = omega arith
moved_weight to [] outer.Ended = omega arith

-- the end of a fragment leaves none of it
abbrev ends_less : Alone → ℕ
ends_less nowhere = 0
ends_less at_start = 1
ends_less at_first = 1
ends_less at_end = 1

resumed_weight : (bs : List Body) (k : Config) → k.aside ≡ bs → weights (resumed bs k) ≤ weights_in bs
resumed_weight [] k h = let n : weights_in k.aside ≡ 0 = ap (λ (z : List Body). weights_in z) h in omega (arith, n)
resumed_weight (b ∷ bs) k h = omega arith

alone_weight : (es : List Element) (o : Outer) → ends_less (alone_in es o) ≤ weight o
alone_weight (e ∷ es) o = omega arith
alone_weight [] (outer.Book grammar number) = omega arith
alone_weight [] outer.FragmentStart = omega arith
alone_weight [] outer.FragmentContent = omega arith
alone_weight [] outer.AloneStart = omega arith
alone_weight [] outer.AloneFirst = omega arith
alone_weight [] outer.AloneOver = omega arith
alone_weight [] outer.Ended = omega arith

ended_weight : (a : Alone) (k : Config) → ends_less a ≤ weight k.outer → weights (ended_in a k) + ends_less a ≤ weights k
ended_weight nowhere k h = omega arith
ended_weight at_start k h = omega (arith, h, resumed_weight k.aside k refl)
ended_weight at_first k h = omega (arith, h, resumed_weight k.aside k refl)
ended_weight at_end k h = omega (arith, h, resumed_weight k.aside k refl)

-- ---- what a plan gives
-- an event where one is counted, and then the weights may grow by a fragment's; and else none, and they get less
abbrev Gives : Bool → Given → Config → Type 0
Gives true given k = (e : Happening) × (given.0 ≡ Some e) × (weights given.1 ≤ weights k + 3 * begins e)
Gives false given k = (given.0 ≡ None) × (weights given.1 + 1 ≤ weights k)

plain_gives : (to : ℕ) (k d : Config) (e : Happening) → d.outer ≡ outer_behind to k.elements k.outer → d.aside ≡ k.aside → Gives true (Some e, d) k
plain_gives to k d e h i =
    let n : weight d.outer ≡ weight (outer_behind to k.elements k.outer) = ap (λ (z : Outer). weight z) h in
    let m : weights_in d.aside ≡ weights_in k.aside = ap (λ (z : List Body). weights_in z) i in
    (e, refl, omega (arith, n, m, moved_weight to k.elements k.outer))

own_gives : (to : ℕ) (k d : Config) → 1 ≤ fewer (alone_in k.elements k.outer) → d.outer ≡ outer_behind to k.elements k.outer → d.aside ≡ k.aside → Gives false (None, d) k
own_gives to k d less h i =
    let n : weight d.outer ≡ weight (outer_behind to k.elements k.outer) = ap (λ (z : Outer). weight z) h in
    let m : weights_in d.aside ≡ weights_in k.aside = ap (λ (z : List Body). weights_in z) i in
    (refl, omega (arith, less, n, m, moved_weight to k.elements k.outer))

-- what an attribute does leaves the weights, or leads on
effect_weight : (e : Effect) (to : ℕ) (k : Config) → weights (effected e to k) ≤ weights k
effect_weight leads to k = omega (arith, moved_weight to k.elements k.outer)
effect_weight (retyped grammar) to k = omega arith
effect_weight emptied to k = omega arith
effect_weight stays to k = omega arith

learned_weight : (t : Telling) (u : Learned) (k : Config) → weights (learns_name t u k) ≡ weights k
learned_weight spelled u k = refl
learned_weight (under uri) u k = refl
learned_weight (known id) u k = refl

one_fewer : (a b : Alone) → a ≡ b → 1 ≤ fewer b → 1 ≤ fewer a
one_fewer a b h le = subst (λ (z : Alone). 1 ≤ fewer z) (sym h) le

none_some : {X : Type 0} (x : X) → Some x ≡ None → ⊥
none_some x e = absurd cc

module _ (g : Setting) (c : Config) (r : Rule) where
  abbrev p : Alone → Terminal → Plan
  p a t = plan_on g a c r t

  plan_gives : (a : Alone) (t : Terminal) (x : (p a t).Item) (k : Config) → alone_in k.elements k.outer ≡ a → (p a t).barred ≡ None → (p a t).refused x ≡ None → Gives (p a t).counted ((p a t).make x k) k
  plan_gives nowhere start_document x k h b f = plain_gives r.to k ((p nowhere start_document).make x k).1 happening.sd refl refl
  plan_gives at_start start_document x k h b f = own_gives r.to k ((p at_start start_document).make x k).1 (one_fewer (alone_in k.elements k.outer) at_start h (omega arith)) refl refl
  plan_gives at_first start_document x k h b f = own_gives r.to k ((p at_first start_document).make x k).1 (one_fewer (alone_in k.elements k.outer) at_first h (omega arith)) refl refl
  plan_gives at_end start_document x k h b f = absurd (none_some kind.ScNotOne b)
  plan_gives nowhere end_document x k h b f = (happening.ed, refl, omega (arith, ended_weight nowhere k (omega arith)))
  plan_gives at_start end_document x k h b f = (refl, ended_weight at_start k (subst (λ (z : Alone). ends_less z ≤ weight k.outer) h (alone_weight k.elements k.outer)))
  plan_gives at_first end_document x k h b f = (refl, ended_weight at_first k (subst (λ (z : Alone). ends_less z ≤ weight k.outer) h (alone_weight k.elements k.outer)))
  plan_gives at_end end_document x k h b f = (refl, ended_weight at_end k (subst (λ (z : Alone). ends_less z ≤ weight k.outer) h (alone_weight k.elements k.outer)))
  plan_gives nowhere (element spelled) x k h b f = plain_gives r.to k ((p nowhere (element spelled)).make x k).1 (happening.se x.name) refl refl
  plan_gives nowhere (element (under uri)) x k h b f = plain_gives r.to k ((p nowhere (element (under uri))).make x k).1 (happening.se x.name) refl refl
  plan_gives nowhere (element (known id)) x k h b f = plain_gives r.to k ((p nowhere (element (known id))).make x k).1 (happening.se x.name) refl refl
  plan_gives at_start (element spelled) x k h b f = own_gives r.to k ((p at_start (element spelled)).make x k).1 (one_fewer (alone_in k.elements k.outer) at_start h (omega arith)) refl refl
  plan_gives at_start (element (under uri)) x k h b f = own_gives r.to k ((p at_start (element (under uri))).make x k).1 (one_fewer (alone_in k.elements k.outer) at_start h (omega arith)) refl refl
  plan_gives at_start (element (known id)) x k h b f = own_gives r.to k ((p at_start (element (known id))).make x k).1 (one_fewer (alone_in k.elements k.outer) at_start h (omega arith)) refl refl
  plan_gives at_first (element spelled) x k h b f = own_gives r.to k ((p at_first (element spelled)).make x k).1 (one_fewer (alone_in k.elements k.outer) at_first h (omega arith)) refl refl
  plan_gives at_first (element (under uri)) x k h b f = own_gives r.to k ((p at_first (element (under uri))).make x k).1 (one_fewer (alone_in k.elements k.outer) at_first h (omega arith)) refl refl
  plan_gives at_first (element (known id)) x k h b f = own_gives r.to k ((p at_first (element (known id))).make x k).1 (one_fewer (alone_in k.elements k.outer) at_first h (omega arith)) refl refl
  plan_gives at_end (element t) x k h b f = absurd (none_some kind.ScNotOne b)
  plan_gives a (attribute t v) x k h b f = (happening.at x.0.name x.1, refl, omega (arith, effect_weight (effect_of g v x.0.id x.1) r.to (learns_name t (used.At x.0.id) k), learned_weight t (used.At x.0.id) k))
  plan_gives a (characters d) x k h b f = plain_gives r.to k ((p a (characters d)).make x k).1 (happening.ch x) refl refl
  plan_gives a end_element x k h b f = (happening.ee, refl, omega arith)
  plan_gives a declaration x k h b f = plain_gives r.to k ((p a declaration).make x k).1 (happening.ns x.uri x.prefix x.element) refl refl
  plan_gives a self_contained x k h b f = (happening.sc (k.place / 8), refl, omega arith)
  plan_gives a comment x k h b f = plain_gives r.to k ((p a comment).make x k).1 (happening.cm x) refl refl
  plan_gives a instruction x k h b f = plain_gives r.to k ((p a instruction).make x k).1 (happening.pi x.0 x.1) refl refl
  plan_gives a document_type x k h b f = plain_gives r.to k ((p a document_type).make x k).1 (happening.dt x.0.0 x.0.1 x.1.0 x.1.1) refl refl
  plan_gives a entity x k h b f = plain_gives r.to k ((p a entity).make x k).1 (happening.er x) refl refl

-- ---- one event
abbrev pub events : Config → ℕ
events c = c.meter.used.events

abbrev pub Counts : Option Happening → Config → Config → Type 0
Counts None c d = (events d ≡ events c) × (weights d + 1 ≤ weights c)
Counts (Some e) c d = (events d ≡ events c + 1) × (events d ≤ c.meter.limits.events) × (weights d ≤ weights c + 3 * begins e)

-- a step: no bit is read twice, and one event more is within the same limit
pub record Steps (c : Config) (e : Option Happening) (d : Config) : Type 0 where
  pub place : c.place ≤ d.place
  pub limits : d.meter.limits ≡ c.meter.limits
  pub counts : Counts e c d

charged_meter : (p : Plan) (b : Bool) (m n : Metering) → p.counted ≡ b → IsCharged p m n → (n.used.events ≡ (counted_by b m).used.events) × (n.limits ≡ m.limits)
charged_meter p b m n h k = (ap (λ (z : Metering). z.used.events) k.after ∙ entered_events p.entered (counted_by p.counted m) ∙ ap (λ (z : Bool). (counted_by z m).used.events) h, ap (λ (z : Metering). z.limits) k.after ∙ entered_limits p.entered (counted_by p.counted m) ∙ counted_limits p.counted m)
  where
    entered_events : (e : Bool) (i : Metering) → (entered_by e i).used.events ≡ i.used.events
    entered_events true i = refl
    entered_events false i = refl

    entered_limits : (e : Bool) (i : Metering) → (entered_by e i).limits ≡ i.limits
    entered_limits true i = refl
    entered_limits false i = refl

    counted_limits : (e : Bool) (i : Metering) → (counted_by e i).limits ≡ i.limits
    counted_limits true i = refl
    counted_limits false i = refl

behind_meter : (b : Bool) (k : ReadState) → (behind b k).context.meter ≡ k.context.meter
behind_meter true k = refl
behind_meter false k = refl

behind_place : (b : Bool) (k : ReadState) → k.spot.place ≤ (behind b k).spot.place
behind_place true k = omega arith
behind_place false k = omega arith

given_counts : (b : Bool) (made : Given) (k c : Config) → Gives b made k → weights k ≡ weights c → events made.1 ≡ (counted_by b c.meter).used.events → (b ≡ true → event_fits c.meter ≡ true) → Counts made.0 c made.1
given_counts true made k c gives w ev fits =
    let le : events c + 1 ≤ c.meter.limits.events = leb-true (events c + 1) c.meter.limits.events (fits refl) in
    subst (λ (z : Option Happening). Counts z c made.1) (sym gives.1) (ev, omega (arith, ev, le), omega (arith, gives.2, w))
given_counts false made k c gives w ev fits = subst (λ (z : Option Happening). Counts z c made.1) (sym gives.0) (ev, omega (arith, gives.1, w))

pub step_is : (g : Setting) (bytes : List ℕ) (c d : Config) (e : Option Happening) → one g bytes c ≡ told (e, d) → Steps c e d
step_is g bytes c d e h =
    let u = stepped g bytes c (e, d) h in
    let t = u.rest_is in
    let a : Alone = alone_in c.elements c.outer in
    let p : Plan = plan_of g c u.rule in
    let on : Config = at_place c u.spot.place in
    let k : Config = reached (behind p.padded t.read_state) on in
    let made : Given = p.make t.item k in
    let stays = made_stays g a c u.rule u.rule.on t.item k in
    let goes : Continues (read_state_in bytes t.meter on) t.read_state = (plan_reads g a c u.rule u.rule.on).goes t.item (read_state_in bytes t.meter on) t.read_state t.read in
    let gives : Gives p.counted made k = plan_gives g c u.rule a u.rule.on t.item k refl t.charged.free t.free in
    let m = charged_meter p p.counted c.meter t.meter refl t.charged in
    let read_meter : k.meter ≡ with_text t.meter goes.units = behind_meter p.padded t.read_state ∙ goes.meter in
    let ev : events made.1 ≡ (counted_by p.counted c.meter).used.events = ap (λ (z : Tally). z.events) stays.used ∙ ap (λ (z : Metering). z.used.events) read_meter ∙ m.0 in
    let limits : made.1.meter.limits ≡ c.meter.limits = stays.limits ∙ ap (λ (z : Metering). z.limits) read_meter ∙ m.1 in
    let code : c.place ≤ u.spot.place = (code_goes (align_of g.options) (rules_of g c) (u.rule, u.spot) (spot_in bytes c) u.code).place in
    let far : c.place ≤ made.1.place = omega (arith, code, goes.place, behind_place p.padded t.read_state, stays.place) in
    let counts : Counts made.0 c made.1 = given_counts p.counted made k c gives refl ev t.charged.counted in
    subst (λ (z : Given). Steps c z.0 z.1) (sym t.is) (record { place = far; limits = limits; counts = by_event made.0 made.1 counts })
  where
    by_event : (x : Option Happening) (n : Config) → Counts x c n → Counts x c (remembered (x, n)).1
    by_event None n k = k
    by_event (Some y) n k = k
