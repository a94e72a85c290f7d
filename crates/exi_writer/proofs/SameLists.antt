-- What is read of a list that was written is the list that was given. Between two events of the list a writer is away from
-- what a self-contained fragment has of its own: that is written together with the event before it.
use Rattle.std.proofs.Common.{◌≡◌, ◌⊎◌, inl, inr, ℕ, zero, suc, Bool, true, false, List, [], ◌∷◌, ◌++◌, Option, Some, None, refl, sym, ap, ◌∙◌, subst}
use Rattle.std.specs.Prelude.{Result, Ok, Err, if◌then◌else◌}
use Rattle.std.proofs.lemmas.Bool.{cases_Bool}
use Rattle.exi_bits.specs.declared.fault.Kind.TheVariants as kind
use Rattle.exi_gram.specs.Codes.{Coded}
use Rattle.exi_gram.specs.Switches.{fragment}
use Rattle.exi_names.specs.Events.{Happening}
use Rattle.exi_names.specs.Events as event
use Rattle.exi_names.specs.Seen.{Value}
use Rattle.exi_names.specs.declared.names.QName.{QName}
use Rattle.exi_typed.specs.Strings.{Named}
use Rattle.exi_builtin.specs.declared.learnable.Learned.{Learned}
use Rattle.exi_builtin.specs.declared.learnable.Learned.TheVariants as used
use Rattle.exi_processing.specs.Changes.{Effect, effect_of, effected, emptied, emptied_elements, enclosing, fragment_at, has_level, inner_state, leads, learns_name, moved_elements, moves, opener, outer_behind, restated, resumed, retyped, stays}
use Rattle.exi_processing.specs.Configurations.{Body, Config, Setting, body_outer, first_config}
use Rattle.exi_processing.specs.OneEvent.{remembered}
use Rattle.exi_processing.specs.Plans.{Alone, Given, alone_in, at_end, at_first, at_start, element_made, ended_in, nowhere, outer_alone, plan_on, seen_in}
use Rattle.exi_processing.specs.Rules.{Rule, Telling, Terminal, attribute, characters, comment, declaration, document_type, element, end_document, end_element, entity, instruction, known, self_contained, spelled, start_document, under}
use Rattle.exi_processing.specs.Runs.{events_of, has_ended}
use Rattle.exi_processing.specs.Spelled.{further}
use Rattle.exi_processing.proofs.Turning.{events_append}
use Rattle.exi_processing.specs.declared.frames.Element.{Element}
use Rattle.exi_processing.specs.declared.frames.Outer.{Outer}
use Rattle.exi_processing.specs.declared.frames.Outer.TheVariants as outer
use Rattle.exi_processing.specs.declared.frames.State.{State}
use Rattle.exi_processing.specs.declared.frames.State.TheVariants as state
use Rattle.exi_processing.specs.declared.start.Start.TheVariants as start
use Rattle.exi_writing.specs.Contents.{written_on}
use Rattle.exi_writing.specs.OneEvent.{Refused, Written, written}
use Rattle.exi_writing.specs.Pieces.{Piece}
use Rattle.exi_writing.specs.Pruned.{pruned}
use Rattle.exi_writing.specs.Runs.{Refusal, Run, behind_run, body, go_on, in_front, nothing_from, own, put, put_from, put_then, written_all}
use Rattle.exi_writing.proofs.OneEvent.{bind_parts, context}
use Rattle.exi_writer.specs.Same.{AreSame, IsSame, IsTyped, IsTypedBy, ListIsSame, kept_before, pruned_list}
use Rattle.exi_writer.proofs.Choices.{chosen_of}
use Rattle.exi_writer.proofs.Composed.{then_parts}
use Rattle.exi_writer.proofs.Sameness.{Seen, same_on, seen_map}

-- ---- between two events
-- where an element is open, the one that a fragment stands for has come
abbrev IsBegun : Outer → Type 0
IsBegun (outer.Book grammar number) = Unit {0}
IsBegun outer.FragmentStart = Unit {0}
IsBegun outer.FragmentContent = Unit {0}
IsBegun outer.AloneStart = ⊥
IsBegun outer.AloneFirst = ⊥
IsBegun outer.AloneOver = Unit {0}
IsBegun outer.Ended = Unit {0}

abbrev IsWithin : List Element → Outer → Type 0
IsWithin [] o = outer_alone o ≡ nowhere
IsWithin (e ∷ es) o = IsBegun o

record IsPutAside (b : Body) : Type 0 where
  level : has_level b.elements b.outer ≡ true
  within : IsWithin b.elements b.outer

abbrev ArePutAside : List Body → Type 0
ArePutAside [] = Unit {0}
ArePutAside (b ∷ bs) = IsPutAside b × ArePutAside bs

record IsBetween (c : Config) : Type 0 where
  within : IsWithin c.elements c.outer
  aside : ArePutAside c.aside
  level : c.after_start ≡ true → has_level c.elements c.outer ≡ true

-- behind SC, behind SD of the fragment, and behind its element
record IsAtStart (c : Config) : Type 0 where
  none : c.elements ≡ []
  start : c.outer ≡ outer.AloneStart
  body : Body
  bodies : List Body
  aside : c.aside ≡ body ∷ bodies
  fine : ArePutAside (body ∷ bodies)

record IsAtFirst (c : Config) : Type 0 where
  none : c.elements ≡ []
  first : c.outer ≡ outer.AloneFirst
  aside : ArePutAside c.aside

record IsAtEnd (c : Config) : Type 0 where
  none : c.elements ≡ []
  over : c.outer ≡ outer.AloneOver
  aside : ArePutAside c.aside

abbrev IsBehind : Config → Type 0
IsBehind c = IsBetween c ⊎ (IsAtStart c ⊎ IsAtEnd c)

-- ---- the state that follows
true_false : false ≡ true → ⊥
true_false e = absurd cc

content_within : (to : ℕ) → outer_alone (fragment_at to) ≡ nowhere
content_within zero = refl
content_within (suc to) = refl

moved_within : (to : ℕ) (es : List Element) (o : Outer) → IsWithin es o → IsWithin (moved_elements to es) (outer_behind to es o)
moved_within to (e ∷ es) o h = h
moved_within to [] (outer.Book grammar number) h = refl
moved_within to [] outer.FragmentStart h = content_within to
moved_within to [] outer.FragmentContent h = content_within to
moved_within to [] outer.AloneStart h = absurd cc
moved_within to [] outer.AloneFirst h = absurd cc
moved_within to [] outer.AloneOver h = absurd cc
moved_within to [] outer.Ended h = refl

content_begun : (to : ℕ) → IsBegun (fragment_at to)
content_begun zero = tt
content_begun (suc to) = tt

moved_begun : (to : ℕ) (es : List Element) (o : Outer) → IsWithin es o → IsBegun (outer_behind to es o)
moved_begun to (e ∷ es) o h = h
moved_begun to [] (outer.Book grammar number) h = tt
moved_begun to [] outer.FragmentStart h = content_begun to
moved_begun to [] outer.FragmentContent h = content_begun to
moved_begun to [] outer.AloneStart h = absurd (let k : at_start ≡ nowhere = h in cc)
moved_begun to [] outer.AloneFirst h = absurd (let k : at_first ≡ nowhere = h in cc)
moved_begun to [] outer.AloneOver h = tt
moved_begun to [] outer.Ended h = tt

content_level : (x : Element) (to : ℕ) → has_level (x ∷ []) (fragment_at to) ≡ true
content_level x zero = refl
content_level x (suc to) = refl

-- an element that is opened has a level
opened_level : (x : Element) (to : ℕ) (es : List Element) (o : Outer) → IsWithin es o → has_level (x ∷ moved_elements to es) (outer_behind to es o) ≡ true
opened_level x to (e ∷ es) o h = refl
opened_level x to [] (outer.Book grammar number) h = refl
opened_level x to [] outer.FragmentStart h = content_level x to
opened_level x to [] outer.FragmentContent h = content_level x to
opened_level x to [] outer.AloneStart h = absurd (let k : at_start ≡ nowhere = h in cc)
opened_level x to [] outer.AloneFirst h = absurd (let k : at_first ≡ nowhere = h in cc)
opened_level x to [] outer.AloneOver h = absurd (let k : at_end ≡ nowhere = h in cc)
opened_level x to [] outer.Ended h = refl

ended_within : (es : List Element) → IsWithin es outer.Ended
ended_within [] = refl
ended_within (e ∷ es) = tt

closed_within : (es : List Element) (o : Outer) → IsWithin es o → IsWithin (enclosing es) o ⊎ ((enclosing es ≡ []) × (o ≡ outer.AloneOver))
closed_within [] o h = inl h
closed_within (e ∷ f ∷ es) o h = inl h
closed_within (e ∷ []) (outer.Book grammar number) h = inl refl
closed_within (e ∷ []) outer.FragmentStart h = inl refl
closed_within (e ∷ []) outer.FragmentContent h = inl refl
closed_within (e ∷ []) outer.AloneStart h = absurd h
closed_within (e ∷ []) outer.AloneFirst h = absurd h
closed_within (e ∷ []) outer.AloneOver h = inr (refl, refl)
closed_within (e ∷ []) outer.Ended h = inl refl

-- the outer element of a fragment has a level, and so is no fragment's own
outer_within : (es : List Element) (o : Outer) → has_level es o ≡ true → IsWithin es o → IsWithin (enclosing es) o
outer_within [] o level h = absurd (true_false level)
outer_within (e ∷ f ∷ es) o level h = h
outer_within (e ∷ []) (outer.Book grammar number) level h = refl
outer_within (e ∷ []) outer.FragmentStart level h = refl
outer_within (e ∷ []) outer.FragmentContent level h = refl
outer_within (e ∷ []) outer.AloneStart level h = absurd h
outer_within (e ∷ []) outer.AloneFirst level h = absurd h
outer_within (e ∷ []) outer.AloneOver level h = absurd (true_false level)
outer_within (e ∷ []) outer.Ended level h = refl

placed_start : (b : Bool) → (if b then None else Some kind.ScPlace) ≡ None → b ≡ true
placed_start true h = refl
placed_start false h = absurd cc

-- what an attribute does beside
record IsInside (c : Config) : Type 0 where
  within : IsWithin c.elements c.outer
  aside : ArePutAside c.aside

learned_same : (t : Telling) (use_of : Learned) (c : Config) → IsInside c → IsInside (learns_name t use_of c)
learned_same spelled use_of c s = record { within = s.within; aside = s.aside }
learned_same (under uri) use_of c s = record { within = s.within; aside = s.aside }
learned_same (known id) use_of c s = s

restated_within : (s : State) (es : List Element) (o : Outer) → IsWithin es o → IsWithin (restated s es) o
restated_within s [] o h = h
restated_within s (e ∷ es) o h = h

emptied_within : (es : List Element) (o : Outer) → IsWithin es o → IsWithin (emptied_elements es) o
emptied_within [] o h = h
emptied_within (e ∷ es) o h = h

effected_same : (e : Effect) (to : ℕ) (c : Config) → IsInside c → IsInside (effected e to c)
effected_same leads to c s = record { within = moved_within to c.elements c.outer s.within; aside = s.aside }
effected_same (retyped grammar) to c s = record { within = restated_within (state.Informed grammar 0 false) c.elements c.outer s.within; aside = s.aside }
effected_same emptied to c s = record { within = emptied_within c.elements c.outer s.within; aside = s.aside }
effected_same stays to c s = s

abbrev opened_element : Setting → Telling → Rule → Named → Config → Element
opened_element g t r n d = record { name = n.id; state = inner_state (learns_name t (used.Se n.id) d).learned n.id (opener g n.name r.inner) }

element_between : (g : Setting) (t : Telling) (r : Rule) (n : Named) (d : Config) → IsBetween d → IsBetween (remembered (element_made g nowhere t r n d)).1
element_between g spelled r n d s = record { within = moved_begun r.to d.elements d.outer s.within; aside = s.aside; level = λ h. opened_level (opened_element g spelled r n d) r.to d.elements d.outer s.within }
element_between g (under uri) r n d s = record { within = moved_begun r.to d.elements d.outer s.within; aside = s.aside; level = λ h. opened_level (opened_element g (under uri) r n d) r.to d.elements d.outer s.within }
element_between g (known id) r n d s = record { within = moved_begun r.to d.elements d.outer s.within; aside = s.aside; level = λ h. opened_level (opened_element g (known id) r n d) r.to d.elements d.outer s.within }

-- where a production leads that is no fragment's own
make_behind : (g : Setting) (c d : Config) (r : Rule) (t : Terminal) (x : (plan_on g nowhere c r t).Item) → IsBetween d → (c.after_start ≡ true → has_level d.elements d.outer ≡ true) → (plan_on g nowhere c r t).misplaced ≡ None → IsBehind (remembered ((plan_on g nowhere c r t).make x d)).1
make_behind g c d r start_document x s level placed = inl record { within = moved_within r.to d.elements d.outer s.within; aside = s.aside; level = λ h. absurd (true_false h) }
make_behind g c d r end_document x s level placed = inl record { within = ended_within d.elements; aside = s.aside; level = λ h. absurd (true_false h) }
make_behind g c d r (element t) x s level placed = inl (element_between g t r x d s)
make_behind g c d r (attribute t v) x s level placed =
    let k = effected_same (effect_of g v x.0.id x.1) r.to (learns_name t (used.At x.0.id) d) (learned_same t (used.At x.0.id) d record { within = s.within; aside = s.aside }) in
    inl record { within = k.within; aside = k.aside; level = λ h. absurd (true_false h) }
make_behind g c d r (characters k) x s level placed = inl record { within = moved_within r.to d.elements d.outer s.within; aside = s.aside; level = λ h. absurd (true_false h) }
make_behind g c d r end_element x s level placed = elim (closed_within d.elements d.outer s.within) [
  | inl h ↦ inl record { within = h; aside = s.aside; level = λ k. absurd (true_false k) }
  | inr h ↦ inr (inr record { none = h.0; over = h.1; aside = s.aside })
]
make_behind g c d r declaration x s level placed = inl record { within = moved_within r.to d.elements d.outer s.within; aside = s.aside; level = λ h. absurd (true_false h) }
make_behind g c d r self_contained x s level placed = inr (inl record { none = refl; start = refl; body = _; bodies = d.aside; aside = refl; fine = (record { level = level (placed_start c.after_start placed); within = s.within }, s.aside) })
make_behind g c d r comment x s level placed = inl record { within = moved_within r.to d.elements d.outer s.within; aside = s.aside; level = λ h. absurd (true_false h) }
make_behind g c d r instruction x s level placed = inl record { within = moved_within r.to d.elements d.outer s.within; aside = s.aside; level = λ h. absurd (true_false h) }
make_behind g c d r document_type x s level placed = inl record { within = moved_within r.to d.elements d.outer s.within; aside = s.aside; level = λ h. absurd (true_false h) }
make_behind g c d r entity x s level placed = inl record { within = moved_within r.to d.elements d.outer s.within; aside = s.aside; level = λ h. absurd (true_false h) }

-- ---- what a fragment has of its own
sd_made : (g : Setting) (a : Alone) (c d : Config) (r : Rule) (t : Terminal) (given : Given) (piece : Piece (plan_on g a c r t).Item) → written_on g a c r t event.sd c.tables ≡ Some piece → given ≡ remembered ((plan_on g a c r t).make piece.item d) → (to : ℕ) × (given ≡ remembered (seen_in a event.sd, moves to d))
sd_made g a c d r start_document given piece h e = (r.to, e)
sd_made g a c d r end_document given piece h e = absurd cc
sd_made g a c d r (element t) given piece h e = absurd cc
sd_made g a c d r (attribute t u) given piece h e = absurd cc
sd_made g a c d r (characters k) given piece h e = absurd cc
sd_made g a c d r end_element given piece h e = absurd cc
sd_made g a c d r declaration given piece h e = absurd cc
sd_made g a c d r self_contained given piece h e = absurd cc
sd_made g a c d r comment given piece h e = absurd cc
sd_made g a c d r instruction given piece h e = absurd cc
sd_made g a c d r document_type given piece h e = absurd cc
sd_made g a c d r entity given piece h e = absurd cc

se_made : (g : Setting) (a : Alone) (c d : Config) (r : Rule) (t : Terminal) (n : QName) (given : Given) (piece : Piece (plan_on g a c r t).Item) → written_on g a c r t (event.se n) c.tables ≡ Some piece → given ≡ remembered ((plan_on g a c r t).make piece.item d) → (telling : Telling) × (rule : Rule) × (named : Named) × (given ≡ remembered (element_made g a telling rule named d))
se_made g a c d r start_document n given piece h e = absurd cc
se_made g a c d r end_document n given piece h e = absurd cc
se_made g a c d r (element t) n given piece h e = (t, r, piece.item, e)
se_made g a c d r (attribute t u) n given piece h e = absurd cc
se_made g a c d r (characters k) n given piece h e = absurd cc
se_made g a c d r end_element n given piece h e = absurd cc
se_made g a c d r declaration n given piece h e = absurd cc
se_made g a c d r self_contained n given piece h e = absurd cc
se_made g a c d r comment n given piece h e = absurd cc
se_made g a c d r instruction n given piece h e = absurd cc
se_made g a c d r document_type n given piece h e = absurd cc
se_made g a c d r entity n given piece h e = absurd cc

ed_made : (g : Setting) (a : Alone) (c d : Config) (r : Rule) (t : Terminal) (given : Given) (piece : Piece (plan_on g a c r t).Item) → written_on g a c r t event.ed c.tables ≡ Some piece → given ≡ remembered ((plan_on g a c r t).make piece.item d) → given ≡ remembered (seen_in a event.ed, ended_in a d)
ed_made g a c d r start_document given piece h e = absurd cc
ed_made g a c d r end_document given piece h e = e
ed_made g a c d r (element t) given piece h e = absurd cc
ed_made g a c d r (attribute t u) given piece h e = absurd cc
ed_made g a c d r (characters k) given piece h e = absurd cc
ed_made g a c d r end_element given piece h e = absurd cc
ed_made g a c d r declaration given piece h e = absurd cc
ed_made g a c d r self_contained given piece h e = absurd cc
ed_made g a c d r comment given piece h e = absurd cc
ed_made g a c d r instruction given piece h e = absurd cc
ed_made g a c d r document_type given piece h e = absurd cc
ed_made g a c d r entity given piece h e = absurd cc

-- it gives no event
record Leads (To : Config → Type 0) (given : Given) : Type 0 where
  none : given.0 ≡ None
  to : To given.1

leads_by : (To : Config → Type 0) (given same : Given) → given ≡ same → Leads To same → Leads To given
leads_by To given same e k = subst (λ (z : Given). Leads To z) (sym e) k

sd_first : (a : Alone) (to : ℕ) (d : Config) → a ≡ at_start → d.elements ≡ [] → d.outer ≡ outer.AloneStart → ArePutAside d.aside → Leads IsAtFirst (remembered (seen_in a event.sd, moves to d))
sd_first a to d own none start aside = record { none = rw own refl; to = record { none = rw none refl; first = rw (none, start) refl; aside = aside } }

first_begun : (to : ℕ) (es : List Element) (o : Outer) → es ≡ [] → o ≡ outer.AloneFirst → IsBegun (outer_behind to es o)
first_begun to es o none first = rw (none, first) tt

se_between : (g : Setting) (t : Telling) (r : Rule) (n : Named) (d : Config) → d.elements ≡ [] → d.outer ≡ outer.AloneFirst → ArePutAside d.aside → Leads IsBetween (remembered (element_made g at_first t r n d))
se_between g spelled r n d none first aside = record { none = refl; to = record { within = first_begun r.to d.elements d.outer none first; aside = aside; level = λ h. absurd (true_false h) } }
se_between g (under uri) r n d none first aside = record { none = refl; to = record { within = first_begun r.to d.elements d.outer none first; aside = aside; level = λ h. absurd (true_false h) } }
se_between g (known id) r n d none first aside = record { none = refl; to = record { within = first_begun r.to d.elements d.outer none first; aside = aside; level = λ h. absurd (true_false h) } }

se_by : (g : Setting) (a : Alone) (t : Telling) (r : Rule) (n : Named) (d : Config) → a ≡ at_first → d.elements ≡ [] → d.outer ≡ outer.AloneFirst → ArePutAside d.aside → Leads IsBetween (remembered (element_made g a t r n d))
se_by g a t r n d own none first aside = subst (λ (z : Alone). Leads IsBetween (remembered (element_made g z t r n d))) (sym own) (se_between g t r n d none first aside)

resumed_between : (bs : List Body) (d : Config) → ArePutAside bs → ArePutAside d.aside → Leads IsBetween (remembered (None, resumed bs d))
resumed_between [] d these all = record { none = refl; to = record { within = ended_within d.elements; aside = all; level = λ h. absurd (true_false h) } }
resumed_between (b ∷ bs) d these all = record { none = refl; to = record { within = outer_within b.elements b.outer these.0.level these.0.within; aside = these.1; level = λ h. absurd (true_false h) } }

ed_by : (a : Alone) (d : Config) → a ≡ at_end → ArePutAside d.aside → Leads IsBetween (remembered (seen_in a event.ed, ended_in a d))
ed_by a d own aside = subst (λ (z : Alone). Leads IsBetween (remembered (seen_in z event.ed, ended_in z d))) (sym own) (resumed_between d.aside d aside aside)

sd_leads : (g : Setting) (c : Config) (w : Written) → IsAtStart c → written g c event.sd ≡ Ok w → Leads IsAtFirst w.given
sd_leads g c w s h =
    let m = chosen_of g c event.sd w h in
    let d : Config = further (record c { place = m.place }) m.bits (context m.meter m.piece.tables) in
    let k = sd_made g (alone_in c.elements c.outer) c d m.rule m.rule.on w.given m.piece m.spelled_so m.given in
    let alone : alone_in c.elements c.outer ≡ at_start = rw (s.none, s.start) refl in
    leads_by IsAtFirst w.given (remembered (seen_in (alone_in c.elements c.outer) event.sd, moves k.0 d)) k.1 (sd_first (alone_in c.elements c.outer) k.0 d alone s.none s.start (subst ArePutAside (sym s.aside) s.fine))

se_leads : (g : Setting) (c : Config) (n : QName) (w : Written) → IsAtFirst c → written g c (event.se n) ≡ Ok w → Leads IsBetween w.given
se_leads g c n w s h =
    let m = chosen_of g c (event.se n) w h in
    let d : Config = further (record c { place = m.place }) m.bits (context m.meter m.piece.tables) in
    let k = se_made g (alone_in c.elements c.outer) c d m.rule m.rule.on n w.given m.piece m.spelled_so m.given in
    let alone : alone_in c.elements c.outer ≡ at_first = rw (s.none, s.first) refl in
    leads_by IsBetween w.given (remembered (element_made g (alone_in c.elements c.outer) k.0 k.1 k.2 d)) k.3 (se_by g (alone_in c.elements c.outer) k.0 k.1 k.2 d alone s.none s.first s.aside)

ed_leads : (g : Setting) (c : Config) (w : Written) → IsAtEnd c → written g c event.ed ≡ Ok w → Leads IsBetween w.given
ed_leads g c w s h =
    let m = chosen_of g c event.ed w h in
    let d : Config = further (record c { place = m.place }) m.bits (context m.meter m.piece.tables) in
    let k = ed_made g (alone_in c.elements c.outer) c d m.rule m.rule.on w.given m.piece m.spelled_so m.given in
    let alone : alone_in c.elements c.outer ≡ at_end = rw (s.none, s.over) refl in
    leads_by IsBetween w.given (remembered (seen_in (alone_in c.elements c.outer) event.ed, ended_in (alone_in c.elements c.outer) d)) k (ed_by (alone_in c.elements c.outer) d alone s.aside)

-- ---- several events
abbrev given_run : Run → Result Run Refused
given_run r = Ok r

run_is : (a b : Run) → given_run a ≡ given_run b → a ≡ b
run_is a b e = cc

record Front (g : Setting) (c : Config) (e : Happening) (es : List Happening) (r : Run) : Type 0 where
  event : Written
  is : written g c e ≡ Ok event
  others : Run
  all : written_all g event.given.1 es ≡ Ok others
  parts : r ≡ in_front event others

all_front : (g : Setting) (c : Config) (e : Happening) (es : List Happening) (r : Run) → written_all g c (e ∷ es) ≡ Ok r → Front g c e es r
all_front g c e es r h =
    let a = bind_parts (written g c e) _ r h in
    let t = then_parts a.0 (written_all g a.0.given.1 es) r a.2 in
    record { event = a.0; is = a.1; others = t.0; all = t.1; parts = t.2 }

-- it gives no events, and comes between two again
record IsSilent (r : Run) : Type 0 where
  none : events_of r.events ≡ []
  last : IsBetween r.last

nothing_silent : (g : Setting) (c : Config) (r : Run) → IsBetween c → written_all g c [] ≡ Ok r → IsSilent r
nothing_silent g c r s h = subst IsSilent (run_is (nothing_from c) r h) record { none = refl; last = s }

front_silent : (w : Written) (r : Run) → w.given.0 ≡ None → IsSilent r → IsSilent (in_front w r)
front_silent w r none s = record { none = rw none s.none; last = s.last }

within_alone : (es : List Element) (o : Outer) → IsWithin es o → alone_in es o ≡ nowhere
within_alone [] o h = h
within_alone (e ∷ es) o h = refl

between_own : (c : Config) → IsBetween c → own c ≡ []
between_own c s = let k = within_alone c.elements c.outer s.within in rw k refl

start_own : (c : Config) (s : IsAtStart c) → own c ≡ event.sd ∷ event.se s.body.name ∷ []
start_own c s = rw (s.none, s.start, s.aside) refl

end_own : (c : Config) → IsAtEnd c → own c ≡ event.ed ∷ []
end_own c s = rw (s.none, s.over) refl

own_silent : (g : Setting) (c : Config) (r : Run) → IsBehind c → written_all g c (own c) ≡ Ok r → IsSilent r
own_silent g c r s h = elim s [
  | inl k ↦ nothing_silent g c r k (subst (λ (es : List Happening). written_all g c es ≡ Ok r) (between_own c k) h)
  | inr j ↦ elim j [
    | inl k ↦
        let f = all_front g c event.sd (event.se k.body.name ∷ []) r (subst (λ (es : List Happening). written_all g c es ≡ Ok r) (start_own c k) h) in
        let one = sd_leads g c f.event k f.is in
        let f2 = all_front g f.event.given.1 (event.se k.body.name) [] f.others f.all in
        let two = se_leads g f.event.given.1 k.body.name f2.event one.to f2.is in
        let last = nothing_silent g f2.event.given.1 f2.others two.to f2.all in
        let silent : IsSilent f.others = subst IsSilent (sym f2.parts) (front_silent f2.event f2.others two.none last) in
        subst IsSilent (sym f.parts) (front_silent f.event f.others one.none silent)
    | inr k ↦
        let f = all_front g c event.ed [] r (subst (λ (es : List Happening). written_all g c es ≡ Ok r) (end_own c k) h) in
        let one = ed_leads g c f.event k f.is in
        subst IsSilent (sym f.parts) (front_silent f.event f.others one.none (nothing_silent g f.event.given.1 f.others one.to f.all))
  ]
]

-- ---- an event of the list
record IsStep (Stands : Value → Value → Type 0) (e : Happening) (given : Given) : Type 0 where
  seen : Seen Stands e given.0
  behind : IsBehind given.1

step_on : (g : Setting) (a : Alone) (c d : Config) (r : Rule) (t : Terminal) (e : Happening) (piece : Piece (plan_on g a c r t).Item) → a ≡ nowhere → IsBetween d → (c.after_start ≡ true → has_level d.elements d.outer ≡ true) → (plan_on g a c r t).misplaced ≡ None → written_on g a c r t e c.tables ≡ Some piece
    → IsStep (IsTypedBy g c.tables t e) e (remembered ((plan_on g a c r t).make piece.item d))
step_on g nowhere c d r t e piece is s level placed h = record { seen = same_on g c d r t e c.tables piece h; behind = make_behind g c d r t piece.item s level placed }
step_on g at_start c d r t e piece is s level placed h = absurd cc
step_on g at_first c d r t e piece is s level placed h = absurd cc
step_on g at_end c d r t e piece is s level placed h = absurd cc

step_map : (A B : Value → Value → Type 0) → ((v u : Value) → A v u → B v u) → (e : Happening) (given : Given) → IsStep A e given → IsStep B e given
step_map A B f e given s = record { seen = seen_map A B f e given.0 s.seen; behind = s.behind }

step : (g : Setting) (c : Config) (e : Happening) (w : Written) → IsBetween c → written g c e ≡ Ok w → IsStep (IsTyped g c e) e w.given
step g c e w s h =
    let m = chosen_of g c e w h in
    let d : Config = further (record c { place = m.place }) m.bits (context m.meter m.piece.tables) in
    let k = step_on g (alone_in c.elements c.outer) c d m.rule m.rule.on e m.piece (within_alone c.elements c.outer s.within) record { within = s.within; aside = s.aside; level = s.level } s.level m.placed m.spelled_so in
    let x : Coded Rule = record { parts = m.parts; item = m.rule } in
    step_map (IsTypedBy g c.tables m.rule.on e) (IsTyped g c e) (λ v u q. (x, m.is, q)) e w.given (subst (IsStep (IsTypedBy g c.tables m.rule.on e) e) (sym m.given) k)

record IsPut (Stands : Value → Value → Type 0) (e : Happening) (r : Run) : Type 0 where
  event : Happening
  same : IsSame Stands e event
  are : events_of r.events ≡ event ∷ []
  last : IsBetween r.last

put_parts : (Stands : Value → Value → Type 0) (e : Happening) (w : Written) (r : Run) → Seen Stands e w.given.0 → IsSilent r → IsPut Stands e (in_front w r)
put_parts Stands e w r seen s = record { event = seen.event; same = seen.same; are = rw (seen.is, s.none) refl; last = s.last }

put_same : (g : Setting) (c : Config) (e : Happening) (r : Run) → IsBetween c → put g c e ≡ Ok r → IsPut (IsTyped g c e) e r
unfolding put
put_same g c e r s h =
    let a = bind_parts (written g c e) _ r h in
    let t = then_parts a.0 (written_all g a.0.given.1 (own a.0.given.1)) r a.2 in
    let k = step g c e a.0 s a.1 in
    subst (IsPut (IsTyped g c e) e) (sym t.2) (put_parts (IsTyped g c e) e a.0 t.0 k.seen (own_silent g a.0.given.1 t.0 k.behind t.1))

-- ---- a list
abbrev listed_run : Run → Result Run Refusal
listed_run r = Ok r

listed_is : (a b : Run) → listed_run a ≡ listed_run b → a ≡ b
listed_is a b e = cc

behind_parts : (r : Run) (o : Result Run Refusal) (t : Run) → behind_run r o ≡ Ok t → (s : Run) × (o ≡ Ok s) × (t.events ≡ r.events ++ s.events)
behind_parts r (Ok s) t e = (s, refl, ap (λ (z : Run). z.events) (sym (listed_is (record { bits = r.bits ++ s.bits; events = r.events ++ s.events; last = s.last }) t e)))
behind_parts r (Err why) t e = absurd cc

on_same : (n : ℕ) (g : Setting) (c : Config) (e : Happening) (o : Result Run Refused) (more : List Happening) (others : Config → Result Run Refusal) (r : Run) → IsBetween c → ((d : Config) (t : Run) → IsBetween d → others d ≡ Ok t → AreSame g d more (events_of t.events)) → put g c e ≡ o → go_on n o others ≡ Ok r → AreSame g c (e ∷ more) (events_of r.events)
on_same n g c e (Err why) more others r s same is h = absurd cc
on_same n g c e (Ok p) more others r s same is h =
    let b = behind_parts p (others p.last) r h in
    let k = put_same g c e p s is in
    let are : events_of r.events ≡ k.event ∷ events_of b.0.events = ap events_of b.2 ∙ (events_append p.events b.0.events ∙ ap (λ (z : List Happening). z ++ events_of b.0.events) k.are) in
    subst (λ (z : List Happening). AreSame g c (e ∷ more) z) (sym are) (k.same, p, is, same p.last b.0 k.last b.1)

then_same : (n : ℕ) (g : Setting) (c : Config) (o : Option Happening) (more : List Happening) (others : Config → Result Run Refusal) (r : Run) → IsBetween c → ((d : Config) (t : Run) → IsBetween d → others d ≡ Ok t → AreSame g d more (events_of t.events)) → put_then n g c o others ≡ Ok r → AreSame g c (kept_before o more) (events_of r.events)
then_same n g c None more others r s same h = same c r s h
then_same n g c (Some e) more others r s same h = on_same n g c e (put g c e) more others r s same refl h

from_same : (n : ℕ) (g : Setting) (c : Config) (es : List Happening) (r : Run) → IsBetween c → put_from n g c es ≡ Ok r → AreSame g c (pruned_list g.options es) (events_of r.events)
from_same n g c [] r s h = elim (cases_Bool (has_ended c)) [
  | inl k ↦ ap (λ (z : Run). events_of z.events) (sym (listed_is (nothing_from c) r (rw k at h)))
  | inr k ↦ absurd (let f = rw k at h in cc)
]
from_same n g c (e ∷ es) r s h = then_same n g c (pruned g.options e) (pruned_list g.options es) (λ d. put_from (suc n) g d es) r s (λ d t between is. from_same (suc n) g d es t between is) h

first_within : (schema b : Bool) → outer_alone (body_outer schema b) ≡ nowhere
first_within schema false = refl
first_within true true = refl
first_within false true = refl

pub list_same : ListIsSame
unfolding body
list_same g bits limits es r h = from_same 1 g (first_config g bits start.Body limits) es r record { within = first_within g.schema.known (fragment g.options); aside = tt; level = λ k. absurd (true_false k) } h
