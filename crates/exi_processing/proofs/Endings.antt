-- The last event of a body is ED.
use Rattle.std.proofs.Common.{◌≡◌, ◌⊎◌, inl, inr, ℕ, zero, suc, Bool, true, false, cond, ltb, List, [], ◌∷◌, ◌++◌, length, Option, Some, None, Result, Ok, Err, refl, sym, ap, ◌∙◌, subst}
use Rattle.std.proofs.lemmas.Bool.{cases_Bool, ltb-false, ltb-true}
use Rattle.exi_bits.specs.declared.fault.Fault.{Fault}
use Rattle.exi_builtin.specs.declared.learnable.Learned.{Learned}
use Rattle.exi_builtin.specs.declared.learnable.Learned.TheVariants as used
use Rattle.exi_gram.specs.Switches.{fragment}
use Rattle.exi_meter.specs.Metering.{Bounds}
use Rattle.exi_meter.specs.declared.tally.Tally.{Tally}
use Rattle.exi_names.specs.Events.{Happening}
use Rattle.exi_names.specs.Events as happening
use Rattle.exi_names.specs.declared.names.QName.{QName}
use Rattle.exi_typed.specs.ReadStates.{Failure}
use Rattle.exi_typed.proofs.ContextItems.{told}
use Rattle.exi_processing.specs.Changes.{Effect, effect_of, effected, emptied, is_alone, leads, learns_name, outer_behind, resumed, retyped, stays}
use Rattle.exi_processing.specs.Configurations.{Body, Config, Setting, body_outer, reached}
use Rattle.exi_processing.specs.Laws.{EndIs, EndsAtEd, EndsBehind, EndsIn, IsDone, IsTrailing}
use Rattle.exi_processing.specs.OneEvent.{behind, one}
use Rattle.exi_processing.specs.Plans.{Alone, Given, Plan, alone_in, at_end, at_first, at_start, nowhere, plan_of, plan_on}
use Rattle.exi_processing.specs.Rules.{Rule, Telling, Terminal, attribute, characters, comment, declaration, document_type, element, end_document, end_element, entity, instruction, known, self_contained, spelled, start_document, under}
use Rattle.exi_processing.specs.Runs.{Job, Leads, closing, ends, failed_end, first, goes, has_ended, is_end, turned_by, whole_bytes}
use Rattle.exi_processing.specs.declared.end.End.{End}
use Rattle.exi_processing.specs.declared.end.End.TheVariants as end
use Rattle.exi_processing.specs.declared.frames.Element.{Element}
use Rattle.exi_processing.specs.declared.frames.Outer.{Outer}
use Rattle.exi_processing.specs.declared.frames.Outer.TheVariants as outer
use Rattle.exi_processing.specs.declared.start.Start.{Start}
use Rattle.exi_processing.specs.declared.start.Start.TheVariants as start
use Rattle.exi_processing.proofs.EventOne.{stepped}
use Rattle.exi_processing.proofs.PlanFacts.{made_stays}

-- ---- the outermost body is no fragment that stands for one element, and none of those put aside has ended
Grounded : Outer → List Body → Type 0
Grounded o [] = is_alone o ≡ false
Grounded o (b ∷ bs) = (is_end b.outer ≡ false) × Grounded b.outer bs

grounded_by : (o p : Outer) (bs : List Body) → is_alone p ≡ is_alone o → Grounded o bs → Grounded p bs
unfolding Grounded
grounded_by o p [] e h = e ∙ h
grounded_by o p (b ∷ bs) e h = h

moved_end : (to : ℕ) (es : List Element) (o : Outer) → is_end (outer_behind to es o) ≡ is_end o
moved_end to (e ∷ es) o = refl
moved_end to [] (outer.Book grammar number) = refl
moved_end zero [] outer.FragmentStart = refl
moved_end (suc to) [] outer.FragmentStart = refl
moved_end zero [] outer.FragmentContent = refl
moved_end (suc to) [] outer.FragmentContent = refl
moved_end to [] outer.AloneStart = refl
moved_end to [] outer.AloneFirst = refl
moved_end to [] outer.AloneOver = refl
moved_end to [] outer.Ended = refl

moved_alone : (to : ℕ) (es : List Element) (o : Outer) → is_alone (outer_behind to es o) ≡ is_alone o
moved_alone to (e ∷ es) o = refl
moved_alone to [] (outer.Book grammar number) = refl
moved_alone zero [] outer.FragmentStart = refl
moved_alone (suc to) [] outer.FragmentStart = refl
moved_alone zero [] outer.FragmentContent = refl
moved_alone (suc to) [] outer.FragmentContent = refl
moved_alone to [] outer.AloneStart = refl
moved_alone to [] outer.AloneFirst = refl
moved_alone to [] outer.AloneOver = refl
moved_alone to [] outer.Ended = refl

-- ---- what a plan gives
-- nothing has ended
record Going (k : Config) : Type 0 where
  pub going : is_end k.outer ≡ false
  pub grounded : Grounded k.outer k.aside
  pub body : k.start ≡ start.Body

-- it goes on, or ED is given
record Leaves (given : Given) : Type 0 where
  pub last : is_end given.1.outer ≡ true → given.0 ≡ Some happening.ed
  pub grounded : Grounded given.1.outer given.1.aside

true_false : (b : Bool) → b ≡ true → b ≡ false → ⊥
true_false true e f = absurd cc
true_false false e f = absurd cc

on_leaves : (to : ℕ) (k : Config) (given : Given) → Going k → given.1.outer ≡ outer_behind to k.elements k.outer → given.1.aside ≡ k.aside → Leaves given
on_leaves to k given h e f =
    let out : is_end given.1.outer ≡ is_end k.outer = ap (λ (z : Outer). is_end z) e ∙ moved_end to k.elements k.outer in
    let alone : is_alone given.1.outer ≡ is_alone k.outer = ap (λ (z : Outer). is_alone z) e ∙ moved_alone to k.elements k.outer in
    record {
      last = λ t. absurd (true_false (is_end given.1.outer) t (out ∙ h.going));
      grounded = subst (λ (z : List Body). Grounded given.1.outer z) (sym f) (grounded_by k.outer given.1.outer k.aside alone h.grounded);
    }

same_leaves : (k : Config) (given : Given) → Going k → given.1.outer ≡ k.outer → given.1.aside ≡ k.aside → Leaves given
same_leaves k given h e f = record {
  last = λ t. absurd (true_false (is_end given.1.outer) t (ap (λ (z : Outer). is_end z) e ∙ h.going));
  grounded = subst (λ (z : List Body). Grounded given.1.outer z) (sym f) (subst (λ (z : Outer). Grounded z k.aside) (sym e) h.grounded);
}

-- what an attribute learns is nothing that counts here, and beside it does something in its element alone, or leads on
learned_going : (s : Telling) (use_of : Learned) (k : Config) → Going k → Going (learns_name s use_of k)
learned_going spelled use_of k h = record { going = h.going; grounded = h.grounded; body = h.body }
learned_going (under uri) use_of k h = record { going = h.going; grounded = h.grounded; body = h.body }
learned_going (known id) use_of k h = h

effect_leaves : (e : Effect) (to : ℕ) (x : Option Happening) (k : Config) → Going k → Leaves (x, effected e to k)
effect_leaves leads to x k h = on_leaves to k (x, effected leads to k) h refl refl
effect_leaves (retyped grammar) to x k h = same_leaves k (x, effected (retyped grammar) to k) h refl refl
effect_leaves emptied to x k h = same_leaves k (x, effected emptied to k) h refl refl
effect_leaves stays to x k h = same_leaves k (x, effected stays to k) h refl refl

ended_grounded : (o : Outer) (bs : List Body) → Grounded o bs → Grounded outer.Ended bs
unfolding Grounded
ended_grounded o [] h = refl
ended_grounded o (b ∷ bs) h = h

-- in such a fragment the outer body goes on
alone_is : (es : List Element) (o : Outer) (a : Alone) → alone_in es o ≡ a → (a ≡ nowhere) ⊎ (is_alone o ≡ true)
alone_is (e ∷ es) o a h = inl (sym h)
alone_is [] (outer.Book grammar number) a h = inl (sym h)
alone_is [] outer.FragmentStart a h = inl (sym h)
alone_is [] outer.FragmentContent a h = inl (sym h)
alone_is [] outer.AloneStart a h = inr refl
alone_is [] outer.AloneFirst a h = inr refl
alone_is [] outer.AloneOver a h = inr refl
alone_is [] outer.Ended a h = inl (sym h)

resumed_leaves : (bs : List Body) (k : Config) (e : Option Happening) → k.aside ≡ bs → is_alone k.outer ≡ true → Grounded k.outer k.aside → Leaves (e, resumed bs k)
unfolding Grounded
resumed_leaves [] k e same alone h = absurd (true_false (is_alone k.outer) alone (subst (λ (z : List Body). Grounded k.outer z) same h))
resumed_leaves (b ∷ bs) k e same alone h =
    let g : Grounded k.outer (b ∷ bs) = subst (λ (z : List Body). Grounded k.outer z) same h in
    record { last = λ t. absurd (true_false (is_end b.outer) t g.0); grounded = g.1 }

put_grounded : (k : Config) (bs : List Body) → is_end k.outer ≡ false → Grounded k.outer bs → (is_end k.outer ≡ false) × Grounded k.outer bs
put_grounded k bs e h = (e, h)

at_start_nowhere : at_start ≡ nowhere → ⊥
at_start_nowhere e = absurd cc

at_first_nowhere : at_first ≡ nowhere → ⊥
at_first_nowhere e = absurd cc

at_end_nowhere : at_end ≡ nowhere → ⊥
at_end_nowhere e = absurd cc

is_there : (k : Config) (a : Alone) → alone_in k.elements k.outer ≡ a → (a ≡ nowhere → ⊥) → is_alone k.outer ≡ true
is_there k a h other = by_case (alone_is k.elements k.outer a h)
  where
    by_case : (a ≡ nowhere) ⊎ (is_alone k.outer ≡ true) → is_alone k.outer ≡ true
    by_case (inl e) = absurd (other e)
    by_case (inr e) = e

module _ (g : Setting) (c : Config) (r : Rule) where
  abbrev p : Alone → Terminal → Plan
  p a t = plan_on g a c r t

  plan_leaves : (a : Alone) (t : Terminal) (x : (p a t).Item) (k : Config) → Going k → alone_in k.elements k.outer ≡ a → (p a t).barred ≡ None → Leaves ((p a t).make x k)
  unfolding Grounded
  plan_leaves a start_document x k h al b = on_leaves r.to k ((p a start_document).make x k) h refl refl
  plan_leaves nowhere end_document x k h al b = record { last = λ t. refl; grounded = ended_grounded k.outer k.aside h.grounded }
  plan_leaves at_start end_document x k h al b = resumed_leaves k.aside k ((p at_start end_document).make x k).0 refl (is_there k at_start al at_start_nowhere) h.grounded
  plan_leaves at_first end_document x k h al b = resumed_leaves k.aside k ((p at_first end_document).make x k).0 refl (is_there k at_first al at_first_nowhere) h.grounded
  plan_leaves at_end end_document x k h al b = resumed_leaves k.aside k ((p at_end end_document).make x k).0 refl (is_there k at_end al at_end_nowhere) h.grounded
  plan_leaves nowhere (element spelled) x k h al b = on_leaves r.to k ((p nowhere (element spelled)).make x k) h refl refl
  plan_leaves nowhere (element (under uri)) x k h al b = on_leaves r.to k ((p nowhere (element (under uri))).make x k) h refl refl
  plan_leaves nowhere (element (known id)) x k h al b = on_leaves r.to k ((p nowhere (element (known id))).make x k) h refl refl
  plan_leaves at_start (element spelled) x k h al b = on_leaves r.to k ((p at_start (element spelled)).make x k) h refl refl
  plan_leaves at_start (element (under uri)) x k h al b = on_leaves r.to k ((p at_start (element (under uri))).make x k) h refl refl
  plan_leaves at_start (element (known id)) x k h al b = on_leaves r.to k ((p at_start (element (known id))).make x k) h refl refl
  plan_leaves at_first (element spelled) x k h al b = on_leaves r.to k ((p at_first (element spelled)).make x k) h refl refl
  plan_leaves at_first (element (under uri)) x k h al b = on_leaves r.to k ((p at_first (element (under uri))).make x k) h refl refl
  plan_leaves at_first (element (known id)) x k h al b = on_leaves r.to k ((p at_first (element (known id))).make x k) h refl refl
  plan_leaves at_end (element spelled) x k h al b = on_leaves r.to k ((p at_end (element spelled)).make x k) h refl refl
  plan_leaves at_end (element (under uri)) x k h al b = on_leaves r.to k ((p at_end (element (under uri))).make x k) h refl refl
  plan_leaves at_end (element (known id)) x k h al b = on_leaves r.to k ((p at_end (element (known id))).make x k) h refl refl
  plan_leaves a (attribute s v) x k h al b = effect_leaves (effect_of g v x.0.id x.1) r.to (Some (happening.at x.0.name x.1)) (learns_name s (used.At x.0.id) k) (learned_going s (used.At x.0.id) k h)
  plan_leaves a (characters d) x k h al b = on_leaves r.to k ((p a (characters d)).make x k) h refl refl
  plan_leaves a end_element x k h al b = same_leaves k ((p a end_element).make x k) h refl refl
  plan_leaves a declaration x k h al b = on_leaves r.to k ((p a declaration).make x k) h refl refl
  plan_leaves a self_contained x k h al b = record { last = λ t. absurd cc; grounded = (h.going, h.grounded) }
  plan_leaves a comment x k h al b = on_leaves r.to k ((p a comment).make x k) h refl refl
  plan_leaves a instruction x k h al b = on_leaves r.to k ((p a instruction).make x k) h refl refl
  plan_leaves a document_type x k h al b = on_leaves r.to k ((p a document_type).make x k) h refl refl
  plan_leaves a entity x k h al b = on_leaves r.to k ((p a entity).make x k) h refl refl

-- ---- one event
record LeavesBody (given : Given) : Type 0 where
  pub leaves : Leaves given
  pub body : given.1.start ≡ start.Body

one_leaves : (g : Setting) (bytes : List ℕ) (c : Config) (given : Given) → Going c → one g bytes c ≡ told given → LeavesBody given
one_leaves g bytes c given h e =
    let u = stepped g bytes c given e in
    let t = u.rest_is in
    let a : Alone = alone_in c.elements c.outer in
    let p : Plan = plan_of g c u.rule in
    let k : Config = reached (behind p.padded t.read_state) (record c { place = u.spot.place }) in
    let l = plan_leaves g c u.rule a u.rule.on t.item k (record { going = h.going; grounded = h.grounded; body = h.body }) refl t.charged.free in
    let s = made_stays g a c u.rule u.rule.on t.item k in
    subst (λ (z : Given). LeavesBody z) (sym t.is) (record { leaves = record { last = l.last; grounded = l.grounded }; body = s.start ∙ h.body })

-- ---- a run
goes_by : (b : Bool) (bytes : List ℕ) (given : Given) (x : Option Happening) (next : Config) → has_ended given.1 ≡ b → cond b (ends given.0 (closing given.1.start bytes given.1)) (goes given.0 given.1) ≡ goes x next → (is_end next.outer ≡ false) × (given.1 ≡ next)
goes_by true bytes given x next h e = absurd cc
goes_by false bytes given x next h e = let same : given.1 ≡ next = cc in (subst (λ (z : Config). is_end z.outer ≡ false) same h, same)

goes_on : (bytes : List ℕ) (c : Config) (r : Result Given Failure) (x : Option Happening) (next : Config) → ((given : Given) → r ≡ told given → LeavesBody given) → turned_by bytes c r ≡ goes x next → Going next
goes_on bytes c (Ok given) x next f e =
    let g = goes_by (has_ended given.1) bytes given x next refl e in
    let l = f given refl in
    record {
      going = g.0;
      grounded = subst (λ (z : Config). Grounded z.outer z.aside) g.1 l.leaves.grounded;
      body = subst (λ (z : Config). z.start ≡ start.Body) g.1 l.body;
    }
goes_on bytes c (Err f) x next h e = absurd cc

leads_on : (g : Setting) (bytes : List ℕ) (c last : Config) (turns : List (Option Happening)) → Going c → Leads g bytes c turns last → Going last
leads_on g bytes c last [] h l = subst (λ (z : Config). Going z) l h
leads_on g bytes c last (x ∷ turns) h l = leads_on g bytes l.0 last turns (goes_on bytes c (one g bytes c) x l.0 (λ given e. one_leaves g bytes c given h e) l.1) l.2

body_going : (informed b : Bool) → (is_end (body_outer informed b) ≡ false) × (is_alone (body_outer informed b) ≡ false)
body_going informed false = (refl, refl)
body_going true true = (refl, refl)
body_going false true = (refl, refl)

first_going : (j : Job) (limits : Bounds) → Going (first j start.Body limits)
unfolding Grounded
first_going j limits = let b = body_going j.setting.schema.known (fragment j.setting.options) in record { going = b.0; grounded = b.1; body = refl }

-- ---- the end
ends_same : (x y : Option Happening) (d e : End) → ends x d ≡ ends y e → (x ≡ y) × (d ≡ e)
ends_same x y d e h = (cc, cc)

ended_by : (j : Job) (b : Bool) (given : Given) (x : Option Happening) (e : End) → has_ended given.1 ≡ b → cond b (ends given.0 (closing given.1.start j.bytes given.1)) (goes given.0 given.1) ≡ ends x e → LeavesBody given → (x ≡ Some happening.ed) × (e ≡ closing start.Body j.bytes given.1)
ended_by j true given x e h k l =
    let s = ends_same given.0 x (closing given.1.start j.bytes given.1) e k in
    (sym s.0 ∙ l.leaves.last h, sym s.1 ∙ ap (λ (z : Start). closing z j.bytes given.1) l.body)
ended_by j false given x e h k l = absurd cc

closes : (bytes : List ℕ) (c : Config) (e : End) → e ≡ closing start.Body bytes c → IsDone bytes c e ⊎ IsTrailing bytes c e
closes bytes c e h = elim (cases_Bool (ltb (whole_bytes c.place) (length bytes))) [
  | inl more ↦ inr (record { more = ltb-true (whole_bytes c.place) (length bytes) more; is = h ∙ rw more refl })
  | inr none ↦ inl (record { none = ltb-false (whole_bytes c.place) (length bytes) none; is = h ∙ rw none refl })
]

end_by : (j : Job) (c : Config) (x : Option Happening) (e : End) (r : Result Given Failure) → one j.setting j.bytes c ≡ r → turned_by j.bytes c r ≡ ends x e → ((given : Given) → r ≡ told given → LeavesBody given) → EndsBehind j c x e ⊎ EndsIn j c x e
end_by j c x e (Ok given) h k f = let s = ended_by j (has_ended given.1) given x e refl k (f given refl) in inl (record { given = given; steps = h; last = s.0; closed = closes j.bytes given.1 e s.1 })
end_by j c x e (Err failure) h k f = let s = ends_same None x (failed_end c failure) e k in inr (record { failure = failure; fails = h; none = sym s.0; closed = sym s.1 })

pub end_is : EndIs
end_is j limits turns e r =
    let h = leads_on j.setting j.bytes (first j start.Body limits) r.reached r.before (first_going j limits) r.leads in
    end_by j r.reached r.event e (one j.setting j.bytes r.reached) refl r.at_end (λ given k. one_leaves j.setting j.bytes r.reached given h k)

done_no_fault : (bit : ℕ) (f : Fault) (t u : Tally) (x y : Option QName) → end.Done bit t x ≡ end.Fault f u y → ⊥
done_no_fault bit f t u x y e = absurd cc

pub ends_at_ed : EndsAtEd
ends_at_ed j limits turns bit tally root r = by_case (end_is j limits turns (end.Done bit tally root) r)
  where
    by_case : EndsBehind j r.reached r.event (end.Done bit tally root) ⊎ EndsIn j r.reached r.event (end.Done bit tally root) → (before : List (Option Happening)) × (turns ≡ before ++ Some happening.ed ∷ [])
    by_case (inl b) = (r.before, r.all ∙ ap (λ (z : Option Happening). r.before ++ z ∷ []) b.last)
    by_case (inr i) = absurd (done_no_fault bit i.failure.fault tally i.failure.meter.used root r.reached.root i.closed)
