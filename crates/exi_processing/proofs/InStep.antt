-- One event of a fragment that is read by itself, and the same event where the fragment stands.
use Rattle.std.proofs.Common.{◌≡◌, ◌≢◌, ◌⊎◌, inl, inr, ℕ, ◌+◌, ◌-◌, ◌≤◌, Bool, true, false, cond, List, [], ◌∷◌, ◌++◌, Option, Some, None, Result, Ok, Err, refl, sym, ap, ◌∙◌, subst, arith}
use Rattle.exi_bits.specs.declared.fault.Fault.{Fault}
use Rattle.exi_bits.specs.declared.fault.Kind.{Kind}
use Rattle.exi_bits.specs.declared.fault.Kind.TheVariants as kind
use Rattle.exi_bits.specs.Bits.{Spot}
use Rattle.exi_bits.specs.Unsigned.{◌>>=◌}
use Rattle.exi_builtin.specs.declared.learnable.Learned.{Learned}
use Rattle.exi_builtin.specs.declared.learnable.Learned.TheVariants as used
use Rattle.exi_gram.specs.Codes.{code_at}
use Rattle.exi_gram.specs.Switches.{align_of}
use Rattle.exi_meter.specs.Metering.{Metering, without_level}
use Rattle.exi_meter.specs.declared.tally.Tally.{Tally}
use Rattle.exi_names.specs.Events.{Happening}
use Rattle.exi_names.specs.Events as happening
use Rattle.exi_names.specs.StartTables.{IsStart}
use Rattle.exi_names.specs.declared.names.QName.{QName}
use Rattle.exi_tables.specs.Partitions.{Partitions}
use Rattle.exi_typed.specs.ReadStates.{Failure, failing}
use Rattle.exi_typed.specs.Charging.{Unmetered, charging}
use Rattle.exi_typed.proofs.ContextItems.{context, read_state, told}
use Rattle.exi_processing.specs.Changes.{Effect, effect_of, effected, emptied, enclosing, has_level, is_alone, leads, learns_name, left_level, outer_behind, resumed, retyped, same_texts, stays}
use Rattle.exi_processing.specs.Configurations.{Body, Config, IsSetting, Setting, read_state_in, reached, rules_of, spot_in}
use Rattle.exi_processing.specs.Metered.{Outcome, outcome, paying, with_meter}
use Rattle.exi_processing.specs.OneEvent.{at_event, behind, charge_at, followed, one, remembered, unless}
use Rattle.exi_processing.specs.Plans.{Alone, Given, Plan, alone_in, at_end, at_first, at_start, element_plan, no_element, nowhere, plan_of, plan_on, wrong_element}
use Rattle.exi_processing.specs.Rules.{Rule, Telling, Terminal, attribute, characters, comment, declaration, document_type, element, end_document, end_element, entity, instruction, known, self_contained, spelled, start_document, under}
use Rattle.exi_processing.specs.Runs.{is_end}
use Rattle.exi_processing.specs.Sound.{FitsIn, IsSound}
use Rattle.exi_processing.specs.declared.frames.Element.{Element}
use Rattle.exi_processing.specs.declared.frames.Outer.{Outer}
use Rattle.exi_processing.specs.declared.frames.Outer.TheVariants as outer
use Rattle.exi_processing.proofs.Bodies.{moved_alone}
use Rattle.exi_processing.proofs.EventOne.{at_place}
use Rattle.exi_processing.proofs.Fitting.{codes_fit}
use Rattle.exi_processing.proofs.Metering.{Makes, followed_as, followed_paid, last, makes, none_paid, rest_of}
use Rattle.exi_processing.proofs.PlanFacts.{plan_reads}
use Rattle.exi_processing.proofs.Shifts.{Fair, Passes, Room, paid_shift, paid_split, shifted_meter, used_of}

-- ---- fragments inside of fragments
-- all bodies are fragments that stand for one element, and of the outermost this holds
unfoldable pub Nests : (Outer → Type 0) → Outer → List Body → Type 0
Nests P o [] = P o
Nests P o (x ∷ xs) = (is_alone o ≡ true) × Nests P x.outer xs

-- what holds where the state that follows is reached, too, and of such fragments alone
pub record Lasts (P : Outer → Type 0) : Type 1 where
  pub moves : (to : ℕ) (es : List Element) (o : Outer) → P o → P (outer_behind to es o)
  pub alone : (o : Outer) → P o → is_alone o ≡ true

alone_goes : (o : Outer) → is_alone o ≡ true → is_end o ≡ false
alone_goes (outer.Book grammar number) h = refl
alone_goes outer.FragmentStart h = refl
alone_goes outer.FragmentContent h = refl
alone_goes outer.AloneStart h = refl
alone_goes outer.AloneFirst h = refl
alone_goes outer.AloneOver h = refl
alone_goes outer.Ended h = absurd cc

-- where a level is left, one was entered
pub record LevelsOf (k : Config) : Type 0 where
  pub own : has_level k.elements k.outer ≡ true → 1 ≤ k.meter.level
  pub behind_it : k.aside ≢ [] → 1 ≤ k.meter.level

-- ---- the same configuration in front of an enclosing one
module _ (base : Config) (b : Body) (bs : List Body) where
  unfoldable pub shifted : Config → Config
  shifted f = record f { start = base.start; meter = shifted_meter base.meter f.meter; root = base.root; aside = f.aside ++ b ∷ bs }

  -- where the fragment has ended, what was put aside stands again
  unfoldable pub taken_up : Config → Config
  taken_up f = record f { start = base.start; meter = without_level (shifted_meter base.meter f.meter); tables = b.tables; elements = enclosing b.elements; outer = b.outer; learned = b.learned; root = base.root; aside = bs }

  module _ (P : Outer → Type 0) (lasts : Lasts P) (bit : ℕ) (old : Option QName) where
    -- the first element of the fragment has this name
    pub record IsRoot (given : Given) : Type 0 where
      pub name : QName
      pub root : given.1.root ≡ Some name
      pub there : P outer.AloneFirst

    pub record GoesOn (given : Given) (r : Result Given Failure) : Type 0 where
      pub is : r ≡ told (given.0, shifted given.1)
      pub going : is_end given.1.outer ≡ false
      pub nests : Nests P given.1.outer given.1.aside
      -- the root is as it was, or it has just been read and is the outer element's name
      pub rooted : (given.1.root ≡ old) ⊎ ((r : IsRoot given) × (same_texts b.name r.name ≡ true))

    pub record EndsThere (given : Given) (r : Result Given Failure) : Type 0 where
      pub is : r ≡ told (None, taken_up given.1)
      pub ended : given.1.outer ≡ outer.Ended
      pub none : given.0 ≡ None
      pub level : given.1.aside ≡ []
      pub elements : given.1.elements ≡ []
      pub root : given.1.root ≡ old

    pub record IsOther (given : Given) (r : Result Given Failure) : Type 0 where
      pub first : IsRoot given
      pub other : same_texts b.name first.name ≡ false
      pub none : given.0 ≡ None
      pub is : r ≡ Err (record { fault = record { kind = kind.ScRoot; bit = bit }; meter = shifted_meter base.meter given.1.meter })

    unfoldable pub Step : Result Given Failure → Result Given Failure → Type 0
    Step (Err e) r = r ≡ Err (record e { meter = shifted_meter base.meter e.meter })
    Step (Ok given) r = GoesOn given r ⊎ (EndsThere given r ⊎ IsOther given r)

    abbrev Rooted : Given → Type 0
    Rooted given = (given.1.root ≡ old) ⊎ ((r : IsRoot given) × (same_texts b.name r.name ≡ true))

    remembered_rooted : (made : Given) → Rooted made → Rooted (remembered made)
    remembered_rooted made (inl e) = inl e
    remembered_rooted made (inr e) = inr (record { name = e.0.name; root = e.0.root; there = e.0.there }, e.1)

    -- ---- what is made
    nests_alone : (o : Outer) (xs : List Body) → Nests P o xs → is_alone o ≡ true
    unfolding Nests
    nests_alone o [] h = lasts.alone o h
    nests_alone o (x ∷ xs) h = h.0

    nests_moved : (to : ℕ) (es : List Element) (o : Outer) (xs : List Body) → Nests P o xs → Nests P (outer_behind to es o) xs
    unfolding Nests
    nests_moved to es o [] h = lasts.moves to es o h
    nests_moved to es o (x ∷ xs) h = (moved_alone to es o ∙ h.0, h.1)

    abbrev answer : Option Kind → Metering → Given → Result Given Failure
    answer o m made = unless o bit m >>= λ free. told (remembered made)

    goes_on : (o : Option Kind) (m : Metering) (made : Given) → Nests P made.1.outer made.1.aside → Rooted made → Step (answer o m made) (answer o (shifted_meter base.meter m) (made.0, shifted made.1))
    unfolding Step shifted
    goes_on None m made nests rooted = inl (record { is = refl; going = alone_goes made.1.outer (nests_alone made.1.outer made.1.aside nests); nests = nests; rooted = remembered_rooted made rooted })
    goes_on (Some k) m made nests rooted = refl

    -- with another level behind
    goes_left : (o : Option Kind) (m : Metering) (made other : Given) → Nests P made.1.outer made.1.aside → Rooted made → other ≡ (made.0, shifted made.1) → Step (answer o m made) (answer o (shifted_meter base.meter m) other)
    unfolding Step shifted
    goes_left None m made other nests rooted same = inl (record { is = ap (λ (z : Given). told (remembered z)) same; going = alone_goes made.1.outer (nests_alone made.1.outer made.1.aside nests); nests = nests; rooted = remembered_rooted made rooted })
    goes_left (Some k) m made other nests rooted same = refl

    shifted_left : (m : Metering) → 1 ≤ m.level → without_level (shifted_meter base.meter m) ≡ shifted_meter base.meter (without_level m)
    unfolding shifted_meter
    shifted_left m le =
        let e : base.meter.level + m.level - 1 ≡ base.meter.level + (m.level - 1) = omega (arith, le) in
        ap (λ (z : ℕ). record (shifted_meter base.meter m) { level = z }) e

    left_shifted : (h : Bool) (m : Metering) → (h ≡ true → 1 ≤ m.level) → left_level h (shifted_meter base.meter m) ≡ shifted_meter base.meter (left_level h m)
    left_shifted true m le = shifted_left m (le refl)
    left_shifted false m le = refl

    cons_none : (x : Body) (xs : List Body) → x ∷ xs ≢ []
    cons_none x xs e = absurd cc

    -- the fragment's own ED
    end_steps : (o : Option Kind) (xs : List Body) (k : Config) → k.elements ≡ [] → Nests P k.outer xs → k.root ≡ old → (xs ≢ [] → 1 ≤ k.meter.level) → Step (answer o k.meter (None, resumed xs (record k { aside = xs }))) (answer o (shifted_meter base.meter k.meter) (None, resumed (xs ++ b ∷ bs) (shifted (record k { aside = xs }))))
    unfolding Step shifted taken_up Nests
    end_steps (Some w) [] k none nests rt le = refl
    end_steps (Some w) (y ∷ ys) k none nests rt le = refl
    end_steps None [] k none nests rt le = inr (inl (record { is = refl; ended = refl; none = refl; level = refl; elements = none; root = rt }))
    end_steps None (y ∷ ys) k none nests rt le =
        let made : Given = (None, resumed (y ∷ ys) (record k { aside = y ∷ ys })) in
        let same : (None, resumed ((y ∷ ys) ++ b ∷ bs) (shifted (record k { aside = y ∷ ys }))) ≡ (made.0, shifted made.1) = ap (λ (z : Metering). (None, record (shifted made.1) { meter = z })) (shifted_left k.meter (le (cons_none y ys))) in
        goes_left None k.meter made (None, resumed ((y ∷ ys) ++ b ∷ bs) (shifted (record k { aside = y ∷ ys }))) nests.1 (inl rt) same

    -- the element that the fragment stands for: another one is refused where the fragment stands
    root_steps : (same : Bool) (name : QName) (m : Metering) (made : Given) → same_texts b.name name ≡ same → made.0 ≡ None → made.1.root ≡ Some name → made.1.meter ≡ m → Nests P made.1.outer made.1.aside → P outer.AloneFirst → Step (answer None m made) (answer (cond same None (Some kind.ScRoot)) (shifted_meter base.meter m) (made.0, shifted made.1))
    unfolding Step shifted
    root_steps true name m made e none root meter nests there = goes_on None m made nests (inr (record { name = name; root = root; there = there }, e))
    root_steps false name m made e none root meter nests there = inr (inr (record { first = record { name = name; root = root; there = there }; other = e; none = none; is = ap (λ (z : Metering). Err (record { fault = record { kind = kind.ScRoot; bit = bit }; meter = shifted_meter base.meter z })) (sym meter) }))

    -- ---- for each production
    module _ (g : Setting) (c : Config) (r : Rule) where
      abbrev p : Alone → Terminal → Plan
      p a t = plan_on g a c r t

      -- what a plan refuses, where so much is put aside
      pub refused_in : (a : Alone) (t : Terminal) → List Body → (p a t).Item → Option Kind
      refused_in a start_document xs x = no_element a
      refused_in a end_document xs x = no_element a
      refused_in a (element t) xs x = wrong_element a xs x.name
      refused_in a (attribute t v) xs x = no_element a
      refused_in a (characters d) xs x = no_element a
      refused_in a end_element xs x = no_element a
      refused_in a declaration xs x = no_element a
      refused_in a self_contained xs x = no_element a
      refused_in a comment xs x = no_element a
      refused_in a instruction xs x = no_element a
      refused_in a document_type xs x = no_element a
      refused_in a entity xs x = no_element a

      first_is : (es : List Element) (o : Outer) → alone_in es o ≡ at_first → o ≡ outer.AloneFirst
      first_is [] (outer.Book grammar number) h = absurd cc
      first_is [] outer.FragmentStart h = absurd cc
      first_is [] outer.FragmentContent h = absurd cc
      first_is [] outer.AloneStart h = absurd cc
      first_is [] outer.AloneFirst h = refl
      first_is [] outer.AloneOver h = absurd cc
      first_is [] outer.Ended h = absurd cc
      first_is (e ∷ es) o h = absurd cc

      element_steps : (a : Alone) (t : Telling) (x : (p a (element t)).Item) (xs : List Body) (k : Config) → alone_in k.elements k.outer ≡ a → Nests P k.outer xs → k.root ≡ old → Step (answer (refused_in a (element t) xs x) k.meter ((p a (element t)).make x (record k { aside = xs }))) (answer (refused_in a (element t) (xs ++ b ∷ bs) x) (shifted_meter base.meter k.meter) ((p a (element t)).make x (shifted (record k { aside = xs }))))
      unfolding refused_in shifted Nests
      element_steps nowhere spelled x xs k al nests rt = goes_on None k.meter ((p nowhere (element spelled)).make x (record k { aside = xs })) (nests_moved r.to k.elements k.outer xs nests) (inl rt)
      element_steps nowhere (known id) x xs k al nests rt = goes_on None k.meter ((p nowhere (element (known id))).make x (record k { aside = xs })) (nests_moved r.to k.elements k.outer xs nests) (inl rt)
      element_steps nowhere (under uri) x xs k al nests rt = goes_on None k.meter ((p nowhere (element (under uri))).make x (record k { aside = xs })) (nests_moved r.to k.elements k.outer xs nests) (inl rt)
      element_steps at_start spelled x xs k al nests rt = goes_on None k.meter ((p at_start (element spelled)).make x (record k { aside = xs })) (nests_moved r.to k.elements k.outer xs nests) (inl rt)
      element_steps at_start (known id) x xs k al nests rt = goes_on None k.meter ((p at_start (element (known id))).make x (record k { aside = xs })) (nests_moved r.to k.elements k.outer xs nests) (inl rt)
      element_steps at_start (under uri) x xs k al nests rt = goes_on None k.meter ((p at_start (element (under uri))).make x (record k { aside = xs })) (nests_moved r.to k.elements k.outer xs nests) (inl rt)
      element_steps at_end spelled x xs k al nests rt = goes_on None k.meter ((p at_end (element spelled)).make x (record k { aside = xs })) (nests_moved r.to k.elements k.outer xs nests) (inl rt)
      element_steps at_end (known id) x xs k al nests rt = goes_on None k.meter ((p at_end (element (known id))).make x (record k { aside = xs })) (nests_moved r.to k.elements k.outer xs nests) (inl rt)
      element_steps at_end (under uri) x xs k al nests rt = goes_on None k.meter ((p at_end (element (under uri))).make x (record k { aside = xs })) (nests_moved r.to k.elements k.outer xs nests) (inl rt)
      element_steps at_first spelled x [] k al nests rt = root_steps (same_texts b.name x.name) x.name k.meter ((p at_first (element spelled)).make x (record k { aside = [] })) refl refl refl refl (nests_moved r.to k.elements k.outer [] nests) (subst P (first_is k.elements k.outer al) nests)
      element_steps at_first (known id) x [] k al nests rt = root_steps (same_texts b.name x.name) x.name k.meter ((p at_first (element (known id))).make x (record k { aside = [] })) refl refl refl refl (nests_moved r.to k.elements k.outer [] nests) (subst P (first_is k.elements k.outer al) nests)
      element_steps at_first (under uri) x [] k al nests rt = root_steps (same_texts b.name x.name) x.name k.meter ((p at_first (element (under uri))).make x (record k { aside = [] })) refl refl refl refl (nests_moved r.to k.elements k.outer [] nests) (subst P (first_is k.elements k.outer al) nests)
      element_steps at_first spelled x (y ∷ ys) k al nests rt = goes_on (refused_in at_first (element spelled) (y ∷ ys) x) k.meter ((p at_first (element spelled)).make x (record k { aside = y ∷ ys })) (nests_moved r.to k.elements k.outer (y ∷ ys) nests) (inl rt)
      element_steps at_first (known id) x (y ∷ ys) k al nests rt = goes_on (refused_in at_first (element (known id)) (y ∷ ys) x) k.meter ((p at_first (element (known id))).make x (record k { aside = y ∷ ys })) (nests_moved r.to k.elements k.outer (y ∷ ys) nests) (inl rt)
      element_steps at_first (under uri) x (y ∷ ys) k al nests rt = goes_on (refused_in at_first (element (under uri)) (y ∷ ys) x) k.meter ((p at_first (element (under uri))).make x (record k { aside = y ∷ ys })) (nests_moved r.to k.elements k.outer (y ∷ ys) nests) (inl rt)

      -- an attribute, whatever it does beside
      effect_steps : (o : Option Kind) (e : Option Happening) (f : Effect) (k : Config) → Nests P k.outer k.aside → k.root ≡ old → Step (answer o k.meter (e, effected f r.to k)) (answer o (shifted_meter base.meter k.meter) (e, effected f r.to (shifted k)))
      unfolding shifted
      effect_steps o e leads k nests rt = goes_on o k.meter (e, effected leads r.to k) (nests_moved r.to k.elements k.outer k.aside nests) (inl rt)
      effect_steps o e (retyped grammar) k nests rt = goes_on o k.meter (e, effected (retyped grammar) r.to k) nests (inl rt)
      effect_steps o e emptied k nests rt = goes_on o k.meter (e, effected emptied r.to k) nests (inl rt)
      effect_steps o e stays k nests rt = goes_on o k.meter (e, effected stays r.to k) nests (inl rt)

      attribute_steps : (o : Option Kind) (e : Option Happening) (t : Telling) (u : Learned) (f : Effect) (k : Config) → Nests P k.outer k.aside → k.root ≡ old → Step (answer o k.meter (e, effected f r.to (learns_name t u k))) (answer o (shifted_meter base.meter k.meter) (e, effected f r.to (learns_name t u (shifted k))))
      unfolding shifted
      attribute_steps o e spelled u f k nests rt = effect_steps o e f (learns_name spelled u k) nests rt
      attribute_steps o e (under uri) u f k nests rt = effect_steps o e f (learns_name (under uri) u k) nests rt
      attribute_steps o e (known id) u f k nests rt = effect_steps o e f k nests rt

      -- ED stands outside of all elements, in a fragment
      alone_outside : (o : Outer) → is_alone o ≡ true → alone_in [] o ≡ nowhere → ⊥
      alone_outside (outer.Book grammar number) h e = absurd cc
      alone_outside outer.FragmentStart h e = absurd cc
      alone_outside outer.FragmentContent h e = absurd cc
      alone_outside outer.AloneStart h e = absurd cc
      alone_outside outer.AloneFirst h e = absurd cc
      alone_outside outer.AloneOver h e = absurd cc
      alone_outside outer.Ended h e = absurd cc

      outside_all : (q : Partitions) (es : List Element) (o : Outer) → FitsIn g q o es end_document r.to → es ≡ []
      outside_all q [] o h = refl
      outside_all q (e ∷ es) o h = absurd h.0

      nowhere_not : (q : Partitions) (es : List Element) (o : Outer) → FitsIn g q o es end_document r.to → is_alone o ≡ true → alone_in es o ≡ nowhere → ⊥
      nowhere_not q [] o h al e = alone_outside o al e
      nowhere_not q (x ∷ xs) o h al e = absurd h.0

      plan_steps : (a : Alone) (t : Terminal) (x : (p a t).Item) (k : Config) → alone_in k.elements k.outer ≡ a → FitsIn g c.tables k.outer k.elements t r.to → Nests P k.outer k.aside → k.root ≡ old → LevelsOf k → Step (answer (refused_in a t k.aside x) k.meter ((p a t).make x k)) (answer (refused_in a t (k.aside ++ b ∷ bs) x) (shifted_meter base.meter k.meter) ((p a t).make x (shifted k)))
      unfolding refused_in shifted Nests
      plan_steps nowhere start_document x k al fit nests rt lev = goes_on (no_element nowhere) k.meter ((p nowhere start_document).make x k) (nests_moved r.to k.elements k.outer k.aside nests) (inl rt)
      plan_steps at_start start_document x k al fit nests rt lev = goes_on (no_element at_start) k.meter ((p at_start start_document).make x k) (nests_moved r.to k.elements k.outer k.aside nests) (inl rt)
      plan_steps at_first start_document x k al fit nests rt lev = goes_on (no_element at_first) k.meter ((p at_first start_document).make x k) (nests_moved r.to k.elements k.outer k.aside nests) (inl rt)
      plan_steps at_end start_document x k al fit nests rt lev = goes_on (no_element at_end) k.meter ((p at_end start_document).make x k) (nests_moved r.to k.elements k.outer k.aside nests) (inl rt)
      plan_steps nowhere end_document x k al fit nests rt lev = absurd (nowhere_not c.tables k.elements k.outer fit (nests_alone k.outer k.aside nests) al)
      plan_steps at_start end_document x k al fit nests rt lev = end_steps (no_element at_start) k.aside k (outside_all c.tables k.elements k.outer fit) nests rt lev.behind_it
      plan_steps at_first end_document x k al fit nests rt lev = end_steps (no_element at_first) k.aside k (outside_all c.tables k.elements k.outer fit) nests rt lev.behind_it
      plan_steps at_end end_document x k al fit nests rt lev = end_steps (no_element at_end) k.aside k (outside_all c.tables k.elements k.outer fit) nests rt lev.behind_it
      plan_steps a (element t) x k al fit nests rt lev = element_steps a t x k.aside k al nests rt
      plan_steps a (attribute t v) x k al fit nests rt lev = attribute_steps (no_element a) (Some (happening.at x.0.name x.1)) t (used.At x.0.id) (effect_of g v x.0.id x.1) k nests rt
      plan_steps a (characters d) x k al fit nests rt lev = goes_on (no_element a) k.meter ((p a (characters d)).make x k) (nests_moved r.to k.elements k.outer k.aside nests) (inl rt)
      plan_steps a end_element x k al fit nests rt lev =
          let made : Given = (p a end_element).make x k in
          goes_left (no_element a) k.meter made ((p a end_element).make x (shifted k)) nests (inl rt) (ap (λ (z : Metering). (made.0, record (shifted made.1) { meter = z })) (left_shifted (has_level k.elements k.outer) k.meter lev.own))
      plan_steps a declaration x k al fit nests rt lev = goes_on (no_element a) k.meter ((p a declaration).make x k) (nests_moved r.to k.elements k.outer k.aside nests) (inl rt)
      plan_steps a self_contained x k al fit nests rt lev = goes_on (no_element a) k.meter ((p a self_contained).make x k) (refl, nests) (inl rt)
      plan_steps a comment x k al fit nests rt lev = goes_on (no_element a) k.meter ((p a comment).make x k) (nests_moved r.to k.elements k.outer k.aside nests) (inl rt)
      plan_steps a instruction x k al fit nests rt lev = goes_on (no_element a) k.meter ((p a instruction).make x k) (nests_moved r.to k.elements k.outer k.aside nests) (inl rt)
      plan_steps a document_type x k al fit nests rt lev = goes_on (no_element a) k.meter ((p a document_type).make x k) (nests_moved r.to k.elements k.outer k.aside nests) (inl rt)
      plan_steps a entity x k al fit nests rt lev = goes_on (no_element a) k.meter ((p a entity).make x k) (nests_moved r.to k.elements k.outer k.aside nests) (inl rt)

      -- ---- a plan
      as_same : (bytes : List ℕ) (a : Alone) (t : Terminal) (d : Config) → followed bytes bit (p a t) d ≡ followed_as bytes bit (p a t) (refused_in a t c.aside) d
      unfolding followed followed_as refused_in
      as_same bytes a start_document d = refl
      as_same bytes a end_document d = refl
      as_same bytes a (element t) d = refl
      as_same bytes a (attribute t v) d = refl
      as_same bytes a (characters e) d = refl
      as_same bytes a end_element d = refl
      as_same bytes a declaration d = refl
      as_same bytes a self_contained d = refl
      as_same bytes a comment d = refl
      as_same bytes a instruction d = refl
      as_same bytes a document_type d = refl
      as_same bytes a entity d = refl

      as_element : (bytes : List ℕ) (a : Alone) (t : Telling) (xs : List Body) (d : Config) → followed bytes bit (element_plan g a xs t r) d ≡ followed_as bytes bit (p a (element t)) (refused_in a (element t) xs) d
      unfolding followed followed_as refused_in charge_at
      as_element bytes a t xs d = refl

      as_other : (bytes : List ℕ) (a : Alone) (t : Terminal) (d : Config) → followed bytes bit (plan_on g a (shifted c) r t) d ≡ followed_as bytes bit (p a t) (refused_in a t (c.aside ++ b ∷ bs)) d
      unfolding followed followed_as refused_in shifted
      as_other bytes a start_document d = refl
      as_other bytes a end_document d = refl
      as_other bytes a (element t) d = as_element bytes a t (c.aside ++ b ∷ bs) d
      as_other bytes a (attribute t v) d = refl
      as_other bytes a (characters e) d = refl
      as_other bytes a end_element d = refl
      as_other bytes a declaration d = refl
      as_other bytes a self_contained d = refl
      as_other bytes a comment d = refl
      as_other bytes a instruction d = refl
      as_other bytes a document_type d = refl
      as_other bytes a entity d = refl

      module _ (bytes : List ℕ) (place : ℕ) (tally : Tally) (room : Room base.meter tally) (fit : FitsIn g c.tables c.outer c.elements r.on r.to) (nests : Nests P c.outer c.aside) (rt : c.root ≡ old) (lev : LevelsOf c) where
        abbrev a : Alone
        a = alone_in c.elements c.outer

        abbrev on : Plan
        on = p a r.on

        abbrev conf : Bool → Config
        conf false = at_place c place
        conf true = at_place (shifted c) place

        abbrev refusals : Bool → on.Item → Option Kind
        refusals false x = refused_in a r.on c.aside x
        refusals true x = refused_in a r.on (c.aside ++ b ∷ bs) x

        levels_on : (k : Config) → k.elements ≡ c.elements → k.outer ≡ c.outer → k.aside ≡ c.aside → c.meter.level ≤ k.meter.level → LevelsOf k
        levels_on k e f h le = record {
          own = λ z. (let q = lev.own (sym (ap (λ (y : List Element). has_level y k.outer) e ∙ ap (λ (y : Outer). has_level c.elements y) f) ∙ z) in omega (arith, q, le));
          behind_it = λ z. (let q = lev.behind_it (λ y. z (h ∙ y)) in omega (arith, q, le));
        }

        read_steps : (pad : Bool) (x : on.Item) (s : Spot) (q : Partitions) (n : Metering) → c.meter.level ≤ n.level → Step (answer (refusals false x) n (on.make x (reached (behind pad (read_state s (context n q))) (conf false)))) (answer (refusals true x) (shifted_meter base.meter n) (on.make x (reached (behind pad (read_state s (context (shifted_meter base.meter n) q))) (conf true))))
        unfolding shifted
        read_steps true x s q n le = let k : Config = reached (behind true (read_state s (context n q))) (conf false) in plan_steps a r.on x k refl fit nests rt (levels_on k refl refl refl le)
        read_steps false x s q n le = let k : Config = reached (behind false (read_state s (context n q))) (conf false) in plan_steps a r.on x k refl fit nests rt (levels_on k refl refl refl le)

        made : (x : on.Item) (k : Config) → Makes on.make x k
        made x k = makes g c r a r.on x k

        inner_steps : (h : Unmetered on.Item) (n : Metering) → c.meter.level ≤ n.level → Step (outcome n (rest_of bit on refusals conf made h false)) (outcome (shifted_meter base.meter n) (rest_of bit on refusals conf made h true))
        unfolding Step
        inner_steps (Ok found) n le =
            let one_way = none_paid bit on refusals conf made false (Ok found) n in
            let other_way = none_paid bit on refusals conf made true (Ok found) (shifted_meter base.meter n) in
            subst (λ (z : Result Given Failure). Step z (outcome (shifted_meter base.meter n) (rest_of bit on refusals conf made (Ok found) true))) one_way
            (subst (λ (z : Result Given Failure). Step (at_event bit (charging [] n (Ok found)) >>= last bit on refusals conf made false) z) other_way (read_steps on.padded found.0 found.1.0 found.1.1 n le))
        inner_steps (Err e) n le = refl

        same_state : (i : Bool) (m : Metering) → read_state_in bytes m (conf i) ≡ read_state_in bytes m (at_place c place)
        unfolding shifted
        same_state false m = refl
        same_state true m = refl

        -- the same fault, or the same reading
        either_steps : (h : Unmetered on.Item) (rest : Bool → Result Outcome Fault) → ((i : Bool) → rest i ≡ rest_of bit on refusals conf made h i) ⊎ ((f : Fault) × ((i : Bool) → rest i ≡ Err f)) → (n : Metering) → c.meter.level ≤ n.level → Step (outcome n (rest false)) (outcome (shifted_meter base.meter n) (rest true))
        unfolding Step
        either_steps h rest (inl e) n le =
            subst (λ (z : Result Outcome Fault). Step (outcome n z) (outcome (shifted_meter base.meter n) (rest true))) (sym (e false))
            (subst (λ (z : Result Outcome Fault). Step (outcome n (rest_of bit on refusals conf made h false)) (outcome (shifted_meter base.meter n) z)) (sym (e true)) (inner_steps h n le))
        either_steps h rest (inr e) n le =
            subst (λ (z : Result Outcome Fault). Step (outcome n z) (outcome (shifted_meter base.meter n) (rest true))) (sym (e.1 false))
            (subst (λ (z : Result Outcome Fault). Step (outcome n (Err e.0)) (outcome (shifted_meter base.meter n) z)) (sym (e.1 true)) refl)

        true_is : with_meter (shifted_meter base.meter c.meter) (conf true) ≡ at_place (shifted c) place
        unfolding shifted
        true_is = refl

        followed_steps : Fair tally (followed bytes bit on (at_place c place)) → Step (followed bytes bit on (at_place c place)) (followed bytes bit (plan_on g a (shifted c) r r.on) (at_place (shifted c) place))
        followed_steps fair =
            let metered = (plan_reads g a c r r.on).metered in
            let h = followed_paid {I = Bool} bit on refusals conf made bytes (at_place c place) same_state metered in
            let one_way : followed bytes bit on (at_place c place) ≡ paying bit h.dues c.meter (h.rest false) = as_same bytes a r.on (at_place c place) ∙ h.is false c.meter in
            let other_way : followed bytes bit (plan_on g a (shifted c) r r.on) (at_place (shifted c) place) ≡ paying bit h.dues (shifted_meter base.meter c.meter) (h.rest true) = as_other bytes a r.on (at_place (shifted c) place) ∙ ap (λ (z : Config). followed_as bytes bit on (refusals true) z) (sym true_is) ∙ h.is true (shifted_meter base.meter c.meter) in
            subst (λ (z : Result Given Failure). Step z (followed bytes bit (plan_on g a (shifted c) r r.on) (at_place (shifted c) place))) (sym one_way)
            (subst (λ (z : Result Given Failure). Step (paying bit h.dues c.meter (h.rest false)) z) (sym other_way)
            (paid_shift bit base.meter tally room Step (h.rest false) (h.rest true) h.dues c.meter (λ n le f. either_steps (metered (spot_in bytes (at_place c place)) c.tables).rest h.rest h.either n le) (subst (λ (z : Result Given Failure). Fair tally z) one_way fair)))

        -- a limit is passed there, or what is charged has room there
        followed_splits : Room base.meter c.meter.used → Passes bit base.meter (followed bytes bit (plan_on g a (shifted c) r r.on) (at_place (shifted c) place)) ⊎ Room base.meter (used_of (followed bytes bit on (at_place c place)))
        followed_splits now =
            let metered = (plan_reads g a c r r.on).metered in
            let h = followed_paid {I = Bool} bit on refusals conf made bytes (at_place c place) same_state metered in
            let one_way : followed bytes bit on (at_place c place) ≡ paying bit h.dues c.meter (h.rest false) = as_same bytes a r.on (at_place c place) ∙ h.is false c.meter in
            let other_way : followed bytes bit (plan_on g a (shifted c) r r.on) (at_place (shifted c) place) ≡ paying bit h.dues (shifted_meter base.meter c.meter) (h.rest true) = as_other bytes a r.on (at_place (shifted c) place) ∙ ap (λ (z : Config). followed_as bytes bit on (refusals true) z) (sym true_is) ∙ h.is true (shifted_meter base.meter c.meter) in
            subst (λ (z : Result Given Failure). Passes bit base.meter (followed bytes bit (plan_on g a (shifted c) r r.on) (at_place (shifted c) place)) ⊎ Room base.meter (used_of z)) (sym one_way)
            (subst (λ (z : Result Given Failure). Passes bit base.meter z ⊎ Room base.meter (used_of (paying bit h.dues c.meter (h.rest false)))) (sym other_way)
            (paid_split bit base.meter (h.rest false) (h.rest true) h.dues c.meter now))

  -- ---- one event
  module _ (P : Outer → Type 0) (lasts : Lasts P) (g : Setting) (bytes : List ℕ) (book : IsSetting g) (names : IsStart g.schema.names) (tally : Tally) (room : Room base.meter tally) (c : Config) (sound : IsSound g c) (nests : Nests P c.outer c.aside) (lev : LevelsOf c) where
    code_steps : (q : Result (Rule × Spot) Fault) → code_at (align_of g.options) (rules_of g c) (spot_in bytes c) ≡ q → Fair tally (failing c.meter q >>= λ chosen. followed bytes c.place (plan_of g c chosen.0) (at_place c chosen.1.place)) → Step P lasts c.place c.root (failing c.meter q >>= λ chosen. followed bytes c.place (plan_of g c chosen.0) (at_place c chosen.1.place)) (failing (shifted_meter base.meter c.meter) q >>= λ chosen. followed bytes c.place (plan_of g (shifted c) chosen.0) (at_place (shifted c) chosen.1.place))
    unfolding Step shifted
    code_steps (Err e) h fair = refl
    code_steps (Ok chosen) h fair = followed_steps P lasts c.place c.root g c chosen.0 bytes chosen.1.place tally room (codes_fit g bytes c chosen.0 chosen.1 book names sound h).0 nests refl lev fair

    pub one_steps : Fair tally (one g bytes c) → Step P lasts c.place c.root (one g bytes c) (one g bytes (shifted c))
    unfolding one shifted
    one_steps fair = code_steps (code_at (align_of g.options) (rules_of g c) (spot_in bytes c)) refl fair

    code_splits : Room base.meter c.meter.used → (q : Result (Rule × Spot) Fault) → code_at (align_of g.options) (rules_of g c) (spot_in bytes c) ≡ q → Passes c.place base.meter (failing (shifted_meter base.meter c.meter) q >>= λ chosen. followed bytes c.place (plan_of g (shifted c) chosen.0) (at_place (shifted c) chosen.1.place)) ⊎ Room base.meter (used_of (failing c.meter q >>= λ chosen. followed bytes c.place (plan_of g c chosen.0) (at_place c chosen.1.place)))
    unfolding shifted used_of
    code_splits now (Err e) h = inr now
    code_splits now (Ok chosen) h = followed_splits P lasts c.place c.root g c chosen.0 bytes chosen.1.place tally room (codes_fit g bytes c chosen.0 chosen.1 book names sound h).0 nests refl lev now

    pub one_splits : Room base.meter c.meter.used → Passes c.place base.meter (one g bytes (shifted c)) ⊎ Room base.meter (used_of (one g bytes c))
    unfolding one shifted
    one_splits now = code_splits now (code_at (align_of g.options) (rules_of g c) (spot_in bytes c)) refl
