-- A step leads from a sound configuration to a sound one.
use Rattle.std.proofs.Common.{◌≡◌, ◌≢◌, ◌⊎◌, inl, inr, ℕ, zero, suc, ◌+◌, ◌-◌, Bool, true, false, cond, List, [], ◌∷◌, length, Option, Some, None, refl, sym, ap, ◌∙◌, subst, arith}
use Rattle.std.specs.Prelude.{All}
use Rattle.std.proofs.lemmas.List.Elements.{All-cons, All-head, All-nil, All-tail}
use Rattle.exi_bits.specs.declared.align.Align.{Align}
use Rattle.exi_bits.specs.declared.fault.Kind.{Kind}
use Rattle.exi_bits.specs.declared.fault.Kind.TheVariants as kind
use Rattle.exi_bits.specs.Unsigned.{◌>>=◌}
use Rattle.exi_builtin.specs.declared.learnable.Learned.{Learned}
use Rattle.exi_builtin.specs.declared.learnable.Learned.TheVariants as used
use Rattle.exi_builtin.specs.declared.learnable.Room.{Room}
use Rattle.exi_builtin.specs.declared.learnable.Room.TheVariants as room
use Rattle.exi_builtin.specs.Learning.{Learning, added_by, nothing_learned}
use Rattle.exi_gram.specs.Schemas.{IsInner}
use Rattle.exi_gram.specs.Switches.{align_of, prefixes}
use Rattle.exi_meter.specs.Metering.{Metering}
use Rattle.exi_names.specs.declared.names.NameId.{NameId}
use Rattle.exi_names.specs.declared.names.QName.{QName}
use Rattle.exi_names.specs.Datatypes.{Representation}
use Rattle.exi_names.specs.Events.{Happening}
use Rattle.exi_names.specs.Events as happening
use Rattle.exi_names.specs.Seen.{Value}
use Rattle.exi_tables.specs.Growth.{IsLeast}
use Rattle.exi_tables.specs.Partitions.{Partitions, live_at, locals, uris}
use Rattle.exi_typed.specs.ReadStates.{ReadState}
use Rattle.exi_typed.specs.Continues.{Continues}
use Rattle.exi_typed.specs.Strings.{Named, known_at, name_under, placed_at, prefix_at}
use Rattle.exi_typed.proofs.ContextItems.{bind_told, some_is, told, told_is}
use Rattle.exi_typed.proofs.Goings.{same_keeps}
use Rattle.exi_typed.proofs.Standing.{placed_leaves, under_stands}
use Rattle.exi_processing.specs.Changes.{Effect, effect_of, effected, emptied, enclosing, has_level, inner_state, innermost, is_alone, leads, learned_in, learns, left_level, moved_elements, moves, opened, opener, outer_behind, resumed, retyped, room_in, rooted, state_room, stays, texts_of}
use Rattle.exi_processing.specs.Configurations.{Body, Config, IsSetting, Setting, read_state_in, first_tables, reached}
use Rattle.exi_processing.specs.Contents.{attribute_value_at, both_at, told_name_at, under_at}
use Rattle.exi_processing.specs.OneEvent.{behind, is_start, remembered}
use Rattle.exi_processing.specs.Plans.{Alone, Given, Plan, alone_in, at_end, at_first, at_start, nowhere, plan_of, plan_on}
use Rattle.exi_processing.specs.Rules.{Rule, Telling, Terminal, Valuing, attribute, characters, comment, declaration, document_type, element, end_document, end_element, entity, instruction, known, self_contained, spelled, start_document, under}
use Rattle.exi_processing.specs.Runs.{first}
use Rattle.exi_processing.specs.Sound.{FitsContent, FitsDocument, FitsFragment, FitsIn, FitsOutside, FitsStart, FitsTelling, IsElementOfName, IsLeastName, IsOfNames, IsOuter, IsSound, IsSoundAside, IsSoundBody, IsSoundElement, IsSoundGrammar, IsStateOfName, IsWhereOpen, StepsKeepSound, levels_aside, levels_in}
use Rattle.exi_processing.specs.Spelled.{counted_by, entered_by}
use Rattle.exi_processing.specs.declared.frames.Element.{Element}
use Rattle.exi_processing.specs.declared.frames.Outer.{Outer}
use Rattle.exi_processing.specs.declared.frames.Outer.TheVariants as outer
use Rattle.exi_processing.specs.declared.frames.State.{State}
use Rattle.exi_processing.specs.declared.frames.State.TheVariants as state
use Rattle.exi_processing.proofs.Bodies.{LeadIn, MayLearn, body_closed, body_emptied, body_learns, body_moves, body_opened, body_retyped, body_went, cons_is_some, emptied_levels, levels_alone, levels_closed, levels_moved, restated_levels}
use Rattle.exi_processing.proofs.Effects.{IsGoodEffect, effect_good, opener_full}
use Rattle.exi_processing.proofs.EventOne.{at_place, stepped}
use Rattle.exi_processing.proofs.Fitting.{codes_fit}
use Rattle.exi_processing.proofs.PlanFacts.{plan_reads}
use Rattle.exi_processing.proofs.Readings.{name_reads, value_reads}
use Rattle.exi_processing.proofs.Standing.{name_is_least, name_on}

-- ---- names that are read stand
told_id : (keep : Bool) (a : Align) (id : NameId) (c d : ReadState) (x : Named) → known_at keep a id c ≡ told (x, d) → x.id ≡ id
unfolding known_at
told_id keep a id c d x e =
    let name : List ℕ → List ℕ → Option (List ℕ) → Named = λ uri local prefix. record { id = id; name = record { uri = uri; local = local; prefix = prefix } } in
    let u = bind_told (placed_at c.spot (live_at (uris c.context.tables) id.uri) c) (λ (uri : List ℕ × ReadState). placed_at c.spot (live_at (locals uri.1.context.tables id.uri) id.local) uri.1 >>= λ local. prefix_at keep a id.uri local.1 >>= λ prefix. told (name uri.0 local.0 prefix.0, prefix.1)) (x, d) e in
    let v = bind_told (placed_at c.spot (live_at (locals u.0.1.context.tables id.uri) id.local) u.0.1) (λ (local : List ℕ × ReadState). prefix_at keep a id.uri local.1 >>= λ prefix. told (name u.0.0 local.0 prefix.0, prefix.1)) (x, d) u.2 in
    let w = bind_told (prefix_at keep a id.uri v.0.1) (λ (prefix : Option (List ℕ) × ReadState). told (name u.0.0 v.0.0 prefix.0, prefix.1)) (x, d) v.2 in
    sym (ap (λ (z : Named × ReadState). z.0.id) (told_is (name u.0.0 v.0.0 w.0.0, w.0.1) (x, d) w.2))

-- under a URI that stands before, the name that is read stands
under_least : (keep : Bool) (a : Align) (uri : ℕ) (c d : ReadState) (x : Named) → FitsTelling c.context.tables (under uri) → under_at keep a uri c ≡ told (x, d) → IsLeastName d.context.tables x.id
unfolding under_at
under_least keep a uri c d x h e =
    let u = bind_told (placed_at c.spot (live_at (uris c.context.tables) uri) c) (λ (space : List ℕ × ReadState). name_under keep a uri space.0 space.1) (x, d) e in
    let k = placed_leaves c.spot (live_at (uris c.context.tables) uri) u.0.0 c u.0.1 u.1 in
    let same : h.0 ≡ u.0.0 = some_is h.0 u.0.0 (sym h.1.found ∙ k.0) in
    let least : IsLeast (uris u.0.1.context.tables) u.0.0 uri = subst (λ (p : Partitions). IsLeast (uris p) u.0.0 uri) (sym k.1) (subst (λ (t : List ℕ). IsLeast (uris c.context.tables) t uri) same h.1) in
    let s = under_stands keep a uri u.0.0 x u.0.1 d least u.2 in
    record { uri = x.name.uri; local = x.name.local; least_uri = s.uri; least_local = s.local }

name_stands : (g : Setting) (t : Telling) (c d : ReadState) (x : Named) → FitsTelling c.context.tables t → told_name_at g t c ≡ told (x, d) → IsLeastName d.context.tables x.id
name_stands g spelled c d x h e = name_is_least (prefixes g.options) (align_of g.options) c d x e
name_stands g (under uri) c d x h e = under_least (prefixes g.options) (align_of g.options) uri c d x h e
name_stands g (known id) c d x h e =
    let o : Continues c d = (name_reads g (known id)).goes x c d e in
    subst (λ (z : NameId). IsLeastName d.context.tables z) (sym (told_id (prefixes g.options) (align_of g.options) id c d x e)) (name_on c.context.tables d.context.tables id o.keeps h)

attribute_stands : (g : Setting) (t : Telling) (v : Valuing) (c d : ReadState) (x : Named × Value) → FitsTelling c.context.tables t → both_at (told_name_at g t) (λ name. attribute_value_at g v name) c ≡ told (x, d) → IsLeastName d.context.tables x.0.id
unfolding both_at
attribute_stands g t v c d x h e =
    let u = bind_told (told_name_at g t c) (λ (n : Named × ReadState). attribute_value_at g v n.0 n.1 >>= λ y. told {X = (Named × Value) × ReadState} ((n.0, y.0), y.1)) (x, d) e in
    let w = bind_told (attribute_value_at g v u.0.0 u.0.1) (λ (y : Value × ReadState). told {X = (Named × Value) × ReadState} ((u.0.0, y.0), y.1)) (x, d) u.2 in
    let named : IsLeastName u.0.1.context.tables u.0.0.id = name_stands g t c u.0.1 u.0.0 h u.1 in
    let o : Continues u.0.1 w.0.1 = (value_reads g v u.0.0).goes w.0.0 u.0.1 w.0.1 w.1 in
    let stands : IsLeastName w.0.1.context.tables u.0.0.id = name_on u.0.1.context.tables w.0.1.context.tables u.0.0.id o.keeps named in
    subst (λ (z : (Named × Value) × ReadState). IsLeastName z.1.context.tables z.0.0.id) (told_is ((u.0.0, w.0.0), w.0.1) (x, d) w.2) stands

-- what a plan reads has names that stand
ItemStands : (g : Setting) (a : Alone) (c : Config) (r : Rule) (t : Terminal) → (plan_on g a c r t).Item → Partitions → Type 0
ItemStands g a c r start_document x p = Unit {0}
ItemStands g a c r end_document x p = Unit {0}
ItemStands g a c r (element t) x p = IsLeastName p x.id
ItemStands g a c r (attribute t v) x p = IsLeastName p x.0.id
ItemStands g a c r (characters d) x p = Unit {0}
ItemStands g a c r end_element x p = Unit {0}
ItemStands g a c r declaration x p = Unit {0}
ItemStands g a c r self_contained x p = Unit {0}
ItemStands g a c r comment x p = Unit {0}
ItemStands g a c r instruction x p = Unit {0}
ItemStands g a c r document_type x p = Unit {0}
ItemStands g a c r entity x p = Unit {0}

-- of a name that the code tells, it stands before
pub element_tells : (g : Setting) (p : Partitions) (o : Outer) (es : List Element) (t : Telling) (to : ℕ) → FitsIn g p o es (element t) to → FitsTelling p t
element_tells g p o (e ∷ es) t to h = h.0
element_tells g p (outer.Book zero number) [] t to h = h.2
element_tells g p (outer.Book (suc grammar) zero) [] t to h = absurd h
element_tells g p (outer.Book (suc grammar) (suc number)) [] t to h = h.1
element_tells g p outer.FragmentStart [] t to h = absurd h
element_tells g p outer.FragmentContent [] t to h = h.1
element_tells g p outer.AloneStart [] t to h = absurd h
element_tells g p outer.AloneFirst [] t to h = h.1
element_tells g p outer.AloneOver [] t to h = h.1
element_tells g p outer.Ended [] t to h = absurd h

-- nothing that only an element has stands outside of all
attribute_outside : (p : Partitions) (o : Outer) (t : Telling) (v : Valuing) (to : ℕ) → FitsOutside p o (attribute t v) to → ⊥
attribute_outside p (outer.Book zero number) t v to h = h
attribute_outside p (outer.Book (suc grammar) zero) t v to h = h
attribute_outside p (outer.Book (suc grammar) (suc number)) t v to h = h
attribute_outside p outer.FragmentStart t v to h = h
attribute_outside p outer.FragmentContent t v to h = h
attribute_outside p outer.AloneStart t v to h = h
attribute_outside p outer.AloneFirst t v to h = h
attribute_outside p outer.AloneOver t v to h = h
attribute_outside p outer.Ended t v to h = h

pub characters_outside : (p : Partitions) (o : Outer) (d : Representation) (to : ℕ) → FitsOutside p o (characters d) to → ⊥
characters_outside p (outer.Book zero number) d to h = h
characters_outside p (outer.Book (suc grammar) zero) d to h = h
characters_outside p (outer.Book (suc grammar) (suc number)) d to h = h
characters_outside p outer.FragmentStart d to h = h
characters_outside p outer.FragmentContent d to h = h
characters_outside p outer.AloneStart d to h = h
characters_outside p outer.AloneFirst d to h = h
characters_outside p outer.AloneOver d to h = h
characters_outside p outer.Ended d to h = h

end_outside : (p : Partitions) (o : Outer) (to : ℕ) → FitsOutside p o end_element to → ⊥
end_outside p (outer.Book zero number) to h = h
end_outside p (outer.Book (suc grammar) zero) to h = h
end_outside p (outer.Book (suc grammar) (suc number)) to h = h
end_outside p outer.FragmentStart to h = h
end_outside p outer.FragmentContent to h = h
end_outside p outer.AloneStart to h = h
end_outside p outer.AloneFirst to h = h
end_outside p outer.AloneOver to h = h
end_outside p outer.Ended to h = h

pub attribute_tells : (g : Setting) (p : Partitions) (o : Outer) (es : List Element) (t : Telling) (v : Valuing) (to : ℕ) → FitsIn g p o es (attribute t v) to → FitsTelling p t
attribute_tells g p o (e ∷ es) t v to h = h.0
attribute_tells g p o [] t v to h = absurd (attribute_outside p o t v to h)

item_stands : (g : Setting) (a : Alone) (c : Config) (r : Rule) (t : Terminal) (k d : ReadState) (x : (plan_on g a c r t).Item) → k.context.tables ≡ c.tables → FitsIn g c.tables c.outer c.elements t r.to → (plan_on g a c r t).read k ≡ told (x, d) → ItemStands g a c r t x d.context.tables
unfolding ItemStands
item_stands g a c r start_document k d x same h e = tt
item_stands g a c r end_document k d x same h e = tt
item_stands g a c r (element t) k d x same h e = name_stands g t k d x (subst (λ (z : Partitions). FitsTelling z t) (sym same) (element_tells g c.tables c.outer c.elements t r.to h)) e
item_stands g a c r (attribute t v) k d x same h e = attribute_stands g t v k d x (subst (λ (z : Partitions). FitsTelling z t) (sym same) (attribute_tells g c.tables c.outer c.elements t v r.to h)) e
item_stands g a c r (characters f) k d x same h e = tt
item_stands g a c r end_element k d x same h e = tt
item_stands g a c r declaration k d x same h e = tt
item_stands g a c r self_contained k d x same h e = tt
item_stands g a c r comment k d x same h e = tt
item_stands g a c r instruction k d x same h e = tt
item_stands g a c r document_type k d x same h e = tt
item_stands g a c r entity k d x same h e = tt

-- ---- what an event gives
abbrev one_more : Bool → ℕ
one_more true = 1
one_more false = 0

-- once an event is read, with a level entered or not
record Before (g : Setting) (k : Config) (entered : Bool) : Type 0 where
  pub body : IsSoundBody g k.tables k.learned k.elements k.outer
  pub level : k.meter.level ≡ levels_in k.elements k.outer + levels_aside k.aside + one_more entered
  pub aside : All (IsSoundAside g) k.aside

record After (g : Setting) (given : Given) : Type 0 where
  pub body : IsSoundBody g given.1.tables given.1.learned given.1.elements given.1.outer
  pub level : given.1.meter.level ≡ levels_in given.1.elements given.1.outer + levels_aside given.1.aside
  pub aside : All (IsSoundAside g) given.1.aside
  pub start : is_start given.0 ≡ true → has_level given.1.elements given.1.outer ≡ true

-- ---- where outer states lead
-- of a document, a state of its grammar
document_leads : (p : Partitions) (number : ℕ) (t : Terminal) (to : ℕ) → (number ≡ 0) ⊎ (number ≡ 1) ⊎ (number ≡ 2) → FitsDocument p number t to → (t ≡ end_document → ⊥) → (to ≡ 0) ⊎ (to ≡ 1) ⊎ (to ≡ 2)
document_leads p number start_document to n h other = inr (inl h.1)
document_leads p number end_document to n h other = absurd (other refl)
document_leads p number (element t) to n h other = inr (inr h.1)
document_leads p number (attribute t v) to n h other = absurd h
document_leads p number (characters d) to n h other = absurd h
document_leads p number end_element to n h other = absurd h
document_leads p number declaration to n h other = absurd h
document_leads p number self_contained to n h other = absurd h
document_leads p number comment to n h other = subst (λ (z : ℕ). (z ≡ 0) ⊎ (z ≡ 1) ⊎ (z ≡ 2)) (sym h) n
document_leads p number instruction to n h other = subst (λ (z : ℕ). (z ≡ 0) ⊎ (z ≡ 1) ⊎ (z ≡ 2)) (sym h) n
document_leads p number document_type to n h other = subst (λ (z : ℕ). (z ≡ 0) ⊎ (z ≡ 1) ⊎ (z ≡ 2)) (sym h) n
document_leads p number entity to n h other = absurd h

-- of a schema's Fragment grammar, its content
start_leads : (t : Terminal) (to : ℕ) → FitsStart t to → to ≡ 1
start_leads start_document to h = h
start_leads end_document to h = absurd h
start_leads (element t) to h = absurd h
start_leads (attribute t v) to h = absurd h
start_leads (characters d) to h = absurd h
start_leads end_element to h = absurd h
start_leads declaration to h = absurd h
start_leads self_contained to h = absurd h
start_leads comment to h = absurd h
start_leads instruction to h = absurd h
start_leads document_type to h = absurd h
start_leads entity to h = absurd h

content_leads : (p : Partitions) (t : Terminal) (to : ℕ) → FitsContent p t to → (t ≡ end_document → ⊥) → to ≡ 1
content_leads p start_document to h other = absurd h
content_leads p end_document to h other = absurd (other refl)
content_leads p (element t) to h other = h.0
content_leads p (attribute t v) to h other = absurd h
content_leads p (characters d) to h other = absurd h
content_leads p end_element to h other = absurd h
content_leads p declaration to h other = absurd h
content_leads p self_contained to h other = absurd h
content_leads p comment to h other = h
content_leads p instruction to h other = h
content_leads p document_type to h other = absurd h
content_leads p entity to h other = absurd h

fragment_leads : (p : Partitions) (number : ℕ) (t : Terminal) (to : ℕ) → FitsFragment p number t to → (t ≡ end_document → ⊥) → to ≡ 1
fragment_leads p zero t to h other = start_leads t to h
fragment_leads p (suc number) t to h other = content_leads p t to h other

outer_leads : (g : Setting) (p : Partitions) (es : List Element) (o : Outer) (t : Terminal) (to : ℕ) → IsOuter g o → FitsIn g p o es t to → (t ≡ end_document → ⊥) → IsOuter g (outer_behind to es o)
outer_leads g p (e ∷ es) o t to h f other = h
outer_leads g p [] (outer.Book zero number) t to h f other = document_leads p number t to h f other
outer_leads g p [] (outer.Book (suc grammar) number) t to h f other = (h.0, h.1, inr (fragment_leads p number t to f other))
outer_leads g p [] outer.FragmentStart t zero h f other = h
outer_leads g p [] outer.FragmentStart t (suc to) h f other = h
outer_leads g p [] outer.FragmentContent t zero h f other = h
outer_leads g p [] outer.FragmentContent t (suc to) h f other = h
outer_leads g p [] outer.AloneStart t to h f other = tt
outer_leads g p [] outer.AloneFirst t to h f other = tt
outer_leads g p [] outer.AloneOver t to h f other = tt
outer_leads g p [] outer.Ended t to h f other = tt

-- and the state of an element exists
lead_in : (g : Setting) (p : Partitions) (o : Outer) (es : List Element) (t : Terminal) (to : ℕ) → FitsIn g p o es t to → LeadIn g es to
lead_in g p o [] t to h = tt
lead_in g p o (e ∷ es) t to h = h.1

-- where an element is read, it may be open behind it
one_where : (to : ℕ) → to ≡ 1 → IsWhereOpen (outer_behind to [] outer.FragmentContent)
one_where zero e = absurd cc
one_where (suc to) e = tt

element_opens : (g : Setting) (p : Partitions) (es : List Element) (o : Outer) (t : Telling) (to : ℕ) → IsOuter g o → (es ≢ [] → IsWhereOpen o) → FitsIn g p o es (element t) to → IsWhereOpen (outer_behind to es o)
element_opens g p (e ∷ es) o t to out h f = h (cons_is_some e es)
element_opens g p [] (outer.Book zero number) t to out h f = f.1
element_opens g p [] (outer.Book (suc grammar) zero) t to out h f = absurd f
element_opens g p [] (outer.Book (suc grammar) (suc number)) t to out h f = (out.0, f.0)
element_opens g p [] outer.FragmentStart t to out h f = absurd f
element_opens g p [] outer.FragmentContent t to out h f = one_where to f.0
element_opens g p [] outer.AloneStart t to out h f = absurd f
element_opens g p [] outer.AloneFirst t to out h f = tt
element_opens g p [] outer.AloneOver t to out h f = tt
element_opens g p [] outer.Ended t to out h f = absurd f

-- ---- levels of an element that is opened
pub levels_none : (o : Outer) → levels_in [] o ≡ 0
levels_none o = by_alone (is_alone o)
  where
    by_alone : (b : Bool) → cond b (0 - 1) 0 ≡ 0
    by_alone true = refl
    by_alone false = refl

levels_opened : (e : Element) (to : ℕ) (es : List Element) (o : Outer) → alone_in es o ≡ nowhere → (levels_in (e ∷ moved_elements to es) (outer_behind to es o) ≡ levels_in es o + 1) × (has_level (e ∷ moved_elements to es) (outer_behind to es o) ≡ true)
levels_opened e to [] (outer.Book grammar number) h = (refl, refl)
levels_opened e zero [] outer.FragmentStart h = (refl, refl)
levels_opened e (suc to) [] outer.FragmentStart h = (refl, refl)
levels_opened e zero [] outer.FragmentContent h = (refl, refl)
levels_opened e (suc to) [] outer.FragmentContent h = (refl, refl)
levels_opened e to [] outer.AloneStart h = absurd cc
levels_opened e to [] outer.AloneFirst h = absurd cc
levels_opened e to [] outer.AloneOver h = absurd cc
levels_opened e to [] outer.Ended h = (refl, refl)
levels_opened e to (f ∷ fs) o h = (by_alone (is_alone o), refl)
  where
    by_alone : (b : Bool) → cond b (suc (suc (length fs)) - 1) (suc (suc (length fs))) ≡ cond b (suc (length fs) - 1) (suc (length fs)) + 1
    by_alone true = omega arith
    by_alone false = omega arith

levels_first : (e : Element) (to : ℕ) (es : List Element) (o : Outer) → alone_in es o ≡ at_first → levels_in (e ∷ moved_elements to es) (outer_behind to es o) ≡ levels_in es o
levels_first e to [] (outer.Book grammar number) h = absurd cc
levels_first e to [] outer.FragmentStart h = absurd cc
levels_first e to [] outer.FragmentContent h = absurd cc
levels_first e to [] outer.AloneStart h = absurd cc
levels_first e to [] outer.AloneFirst h = refl
levels_first e to [] outer.AloneOver h = absurd cc
levels_first e to [] outer.Ended h = absurd cc
levels_first e to (f ∷ fs) o h = absurd cc

start_no_element : (g : Setting) (p : Partitions) (es : List Element) (o : Outer) (t : Telling) (to : ℕ) → alone_in es o ≡ at_start → FitsIn g p o es (element t) to → ⊥
start_no_element g p [] (outer.Book grammar number) t to h f = absurd cc
start_no_element g p [] outer.FragmentStart t to h f = f
start_no_element g p [] outer.FragmentContent t to h f = absurd cc
start_no_element g p [] outer.AloneStart t to h f = f
start_no_element g p [] outer.AloneFirst t to h f = absurd cc
start_no_element g p [] outer.AloneOver t to h f = absurd cc
start_no_element g p [] outer.Ended t to h f = f
start_no_element g p (e ∷ es) o t to h f = absurd cc

-- a fragment's own end stands outside of all elements
nowhere_else : (es : List Element) (o : Outer) (a : Alone) → alone_in es o ≡ a → (a ≡ nowhere → ⊥) → es ≡ []
nowhere_else [] o a h other = refl
nowhere_else (e ∷ es) o a h other = absurd (other (sym h))

-- ---- what may be learned
may_element : (p : Partitions) (r : Option Room) (id : NameId) → IsLeastName p id → MayLearn p r (used.Se id)
unfolding MayLearn
may_element p None id h = tt
may_element p (Some (room.StartTag number)) id h = h
may_element p (Some (room.Content number)) id h = h
may_element p (Some room.Fragment) id h = h

may_state : (g : Setting) (p : Partitions) (l : Learning) (name : NameId) (s : State) (u : Learned) → IsStateOfName g l name s → IsOfNames p (added_by u) → MayLearn p (state_room s) u
unfolding MayLearn
may_state g p l name (state.BuiltIn (room.StartTag number)) u h m = m
may_state g p l name (state.BuiltIn (room.Content number)) u h m = m
may_state g p l name (state.BuiltIn room.Fragment) u h m = absurd h
may_state g p l name (state.Informed grammar number empty) u h m = tt

may_inside : (g : Setting) (p : Partitions) (l : Learning) (es : List Element) (o : Outer) (u : Learned) → es ≢ [] → IsSoundBody g p l es o → IsOfNames p (added_by u) → MayLearn p (room_in es o) u
may_inside g p l [] o u some b m = absurd (some refl)
may_inside g p l (e ∷ es) o u some b m = may_state g p l e.name e.state u (All-head (IsSoundElement g p l) e es b.elements).state m

-- ---- changes
no_start : (given : Given) → is_start given.0 ≡ false → is_start given.0 ≡ true → has_level given.1.elements given.1.outer ≡ true
no_start given first second = absurd cc

-- with what was learned
learned_before : (g : Setting) (k : Config) (entered : Bool) (u : Learned) → MayLearn k.tables (room_in k.elements k.outer) u → Before g k entered → Before g (learns u k) entered
learned_before g k entered u may b = record { body = body_learns g k.tables k.learned k.elements k.outer u may b.body; level = b.level; aside = b.aside }

rooted_before : (g : Setting) (name : QName) (k : Config) (entered : Bool) → Before g k entered → Before g (rooted name k) entered
rooted_before g name k entered b = record { body = b.body; level = b.level; aside = b.aside }

module _ (g : Setting) (k : Config) (to : ℕ) (e : Option Happening) (plain : is_start e ≡ false) (b : Before g k false) where
  module _ (there : LeadIn g k.elements to) (out : IsOuter g (outer_behind to k.elements k.outer)) where
    moved_after : After g (e, moves to k)
    moved_after = record {
      body = body_moves g k.tables k.learned k.elements k.outer to there out b.body;
      level = omega (arith, b.level, levels_moved to k.elements k.outer);
      aside = b.aside;
      start = no_start (e, moves to k) plain;
    }

    -- what comes of an attribute
    effected_after : IsSetting g → (f : Effect) → IsGoodEffect g f → After g (e, effected f to k)
    effected_after setting leads good = moved_after
    effected_after setting (retyped grammar) good = record {
      body = body_retyped g setting k.tables k.learned k.elements k.outer grammar good b.body;
      level = omega (arith, b.level, restated_levels (state.Informed grammar 0 false) k.elements k.outer);
      aside = b.aside;
      start = no_start (e, effected (retyped grammar) to k) plain;
    }
    effected_after setting emptied good = record {
      body = body_emptied g setting k.tables k.learned k.elements k.outer b.body;
      level = omega (arith, b.level, emptied_levels k.elements k.outer);
      aside = b.aside;
      start = no_start (e, effected emptied to k) plain;
    }
    effected_after setting stays good = record { body = b.body; level = omega (arith, b.level); aside = b.aside; start = no_start (e, effected stays to k) plain }

-- an element is opened
module _ (g : Setting) (setting : IsSetting g) (k : Config) (to : ℕ) (id : NameId) (inner : Option ℕ) (opens : IsInner g.schema inner) (least : IsLeastName k.tables id) (there : LeadIn g k.elements to) (out : IsOuter g (outer_behind to k.elements k.outer)) (where_open : IsWhereOpen (outer_behind to k.elements k.outer)) where
  opened_body : IsSoundBody g k.tables k.learned k.elements k.outer → IsSoundBody g k.tables (opened id inner (moves to k)).learned (opened id inner (moves to k)).elements (outer_behind to k.elements k.outer)
  opened_body b = body_opened g setting k.tables k.learned (moved_elements to k.elements) (outer_behind to k.elements k.outer) id inner opens least where_open (body_moves g k.tables k.learned k.elements k.outer to there out b)

  -- it enters a level
  element_after : (e : Option Happening) → Before g k true → alone_in k.elements k.outer ≡ nowhere → After g (e, opened id inner (moves to k))
  element_after e b al =
      let n = levels_opened (record { name = id; state = inner_state k.learned id inner }) to k.elements k.outer al in
      record { body = opened_body b.body; level = omega (arith, b.level, n.0); aside = b.aside; start = λ h. n.1 }

  -- or it is the one that a fragment stands for
  alone_after : Before g k false → alone_in k.elements k.outer ≡ at_first → After g (None, opened id inner (moves to k))
  alone_after b al = record { body = opened_body b.body; level = omega (arith, b.level, levels_first (record { name = id; state = inner_state k.learned id inner }) to k.elements k.outer al); aside = b.aside; start = λ h. absurd cc }

-- ED
ended_body : (g : Setting) (k : Config) → k.elements ≡ [] → Before g k false → IsSoundBody g k.tables k.learned k.elements outer.Ended
ended_body g k none b = record { kept = b.body.kept; learned = b.body.learned; elements = b.body.elements; outside = λ some. absurd (some none); outer_is = tt }

ended_after : (g : Setting) (k : Config) (e : Option Happening) → is_start e ≡ false → k.elements ≡ [] → Before g k false → After g (e, record k { outer = outer.Ended })
ended_after g k e plain none b =
    let n : levels_in k.elements outer.Ended ≡ 0 = ap (λ (z : List Element). levels_in z outer.Ended) none in
    let m : levels_in k.elements k.outer ≡ 0 = ap (λ (z : List Element). levels_in z k.outer) none ∙ levels_none k.outer in
    record { body = ended_body g k none b; level = omega (arith, b.level, n, m); aside = b.aside; start = no_start (e, record k { outer = outer.Ended }) plain }

resumed_after : (g : Setting) (bs : List Body) (k : Config) (e : Option Happening) → is_start e ≡ false → k.elements ≡ [] → k.aside ≡ bs → Before g k false → After g (e, resumed bs k)
resumed_after g [] k e plain none same b = ended_after g k e plain none b
resumed_after g (x ∷ xs) k e plain none same b =
    let all : All (IsSoundAside g) (x ∷ xs) = subst (λ (z : List Body). All (IsSoundAside g) z) same b.aside in
    let h = All-head (IsSoundAside g) x xs all in
    let m : levels_in k.elements k.outer ≡ 0 = ap (λ (z : List Element). levels_in z k.outer) none ∙ levels_none k.outer in
    let n : levels_aside k.aside ≡ levels_in x.elements x.outer + levels_aside xs = ap (λ (z : List Body). levels_aside z) same in
    record {
      body = body_closed g x.tables x.learned x.elements x.outer h.body;
      level = omega (arith, b.level, m, n, levels_closed x.elements x.outer h.level);
      aside = All-tail (IsSoundAside g) x xs all;
      start = no_start (e, resumed (x ∷ xs) k) plain;
    }

-- EE
closed_level : (b : Bool) (m : Metering) (es : List Element) (o : Outer) (more : ℕ) → has_level es o ≡ b → m.level ≡ levels_in es o + more → (left_level b m).level ≡ levels_in (enclosing es) o + more
closed_level true m es o more h e = omega (arith, e, levels_closed es o h)
closed_level false m es o more h e = omega (arith, e, levels_alone es o h)

-- ---- for each production
no_end_start : start_document ≡ end_document → ⊥
no_end_start e = absurd cc

no_end_element : (t : Telling) → element t ≡ end_document → ⊥
no_end_element t e = absurd cc

no_end_attribute : (t : Telling) (v : Valuing) → attribute t v ≡ end_document → ⊥
no_end_attribute t v e = absurd cc

none_some : {X : Type 0} (x : X) → Some x ≡ None → ⊥
none_some x e = absurd cc

at_start_nowhere : at_start ≡ nowhere → ⊥
at_start_nowhere e = absurd cc

at_first_nowhere : at_first ≡ nowhere → ⊥
at_first_nowhere e = absurd cc

at_end_nowhere : at_end ≡ nowhere → ⊥
at_end_nowhere e = absurd cc

-- outside of all elements, or ED inside of one, which there is not
end_outside_all : (g : Setting) (p : Partitions) (o : Outer) (es : List Element) (to : ℕ) → FitsIn g p o es end_document to → es ≡ []
end_outside_all g p o [] to h = refl
end_outside_all g p o (e ∷ es) to h = absurd h.0

pub inside_only : (g : Setting) (p : Partitions) (o : Outer) (t : Terminal) (to : ℕ) → (FitsOutside p o t to → ⊥) → (es : List Element) → FitsIn g p o es t to → es ≢ []
inside_only g p o t to other [] h = absurd (other h)
inside_only g p o t to other (e ∷ es) h = cons_is_some e es

-- what is needed of an element that was given last, where SC is read
LevelsAt : Terminal → Config → Type 0
LevelsAt self_contained k = has_level k.elements k.outer ≡ true
LevelsAt start_document k = Unit {0}
LevelsAt end_document k = Unit {0}
LevelsAt (element t) k = Unit {0}
LevelsAt (attribute t v) k = Unit {0}
LevelsAt (characters d) k = Unit {0}
LevelsAt end_element k = Unit {0}
LevelsAt declaration k = Unit {0}
LevelsAt comment k = Unit {0}
LevelsAt instruction k = Unit {0}
LevelsAt document_type k = Unit {0}
LevelsAt entity k = Unit {0}

fresh_body : (g : Setting) → IsSoundBody g (first_tables g) nothing_learned [] outer.AloneStart
fresh_body g = record {
  kept = same_keeps (first_tables g);
  learned = record { grammars = All-nil (IsSoundGrammar (first_tables g)); fragment = All-nil (IsElementOfName (first_tables g)) };
  elements = All-nil (IsSoundElement g (first_tables g) nothing_learned);
  outside = λ some. absurd (some refl);
  outer_is = tt;
}

module _ (g : Setting) (setting : IsSetting g) (c : Config) (rule : Rule) (opens : IsInner g.schema rule.inner) where
  abbrev p : Alone → Terminal → Plan
  p a t = plan_on g a c rule t

  abbrev to : ℕ
  to = rule.to

  put_aside_all : (k : Config) (name : QName) → Before g k false → has_level k.elements k.outer ≡ true → All (IsSoundAside g) (record { tables = k.tables; learned = k.learned; elements = k.elements; outer = k.outer; name = name } ∷ k.aside)
  put_aside_all k name b h = All-cons (IsSoundAside g) (record { tables = k.tables; learned = k.learned; elements = k.elements; outer = k.outer; name = name }) k.aside (record { body = b.body; level = h }) b.aside

  -- an element, where the name of one is read, in a configuration that has learned it
  element_nowhere : (t : Telling) (x : Named) (k : Config) → Before g k true → alone_in k.elements k.outer ≡ nowhere → IsLeastName k.tables x.id → FitsIn g c.tables k.outer k.elements (element t) to → After g (Some (happening.se x.name), opened x.id (opener g x.name rule.inner) (moves to k))
  element_nowhere t x k b al it fit = element_after g setting k to x.id (opener g x.name rule.inner) (opener_full g setting x.name rule.inner opens) it (lead_in g c.tables k.outer k.elements (element t) to fit) (outer_leads g c.tables k.elements k.outer (element t) to b.body.outer_is fit (no_end_element t)) (element_opens g c.tables k.elements k.outer t to b.body.outer_is b.body.outside fit) (Some (happening.se x.name)) b al

  element_first : (t : Telling) (x : Named) (k : Config) → Before g k false → alone_in k.elements k.outer ≡ at_first → IsLeastName k.tables x.id → FitsIn g c.tables k.outer k.elements (element t) to → After g (None, opened x.id (opener g x.name rule.inner) (moves to k))
  element_first t x k b al it fit = alone_after g setting k to x.id (opener g x.name rule.inner) (opener_full g setting x.name rule.inner opens) it (lead_in g c.tables k.outer k.elements (element t) to fit) (outer_leads g c.tables k.elements k.outer (element t) to b.body.outer_is fit (no_end_element t)) (element_opens g c.tables k.elements k.outer t to b.body.outer_is b.body.outside fit) b al

  elements_sound : (a : Alone) (t : Telling) (x : Named) (k : Config) → Before g k (p a (element t)).entered → alone_in k.elements k.outer ≡ a → (p a (element t)).barred ≡ None → IsLeastName k.tables x.id → FitsIn g c.tables k.outer k.elements (element t) to → After g ((p a (element t)).make x k)
  elements_sound nowhere spelled x k b al bar it fit = element_nowhere spelled x (learns (used.Se x.id) k) (learned_before g k true (used.Se x.id) (may_element k.tables (room_in k.elements k.outer) x.id it) b) al it fit
  elements_sound nowhere (under uri) x k b al bar it fit = element_nowhere (under uri) x (learns (used.Se x.id) k) (learned_before g k true (used.Se x.id) (may_element k.tables (room_in k.elements k.outer) x.id it) b) al it fit
  elements_sound nowhere (known id) x k b al bar it fit = element_nowhere (known id) x k b al it fit
  elements_sound at_start t x k b al bar it fit = absurd (start_no_element g c.tables k.elements k.outer t to al fit)
  elements_sound at_first spelled x k b al bar it fit = element_first spelled x (learns (used.Se x.id) (rooted x.name k)) (learned_before g (rooted x.name k) false (used.Se x.id) (may_element k.tables (room_in k.elements k.outer) x.id it) (rooted_before g x.name k false b)) al it fit
  elements_sound at_first (under uri) x k b al bar it fit = element_first (under uri) x (learns (used.Se x.id) (rooted x.name k)) (learned_before g (rooted x.name k) false (used.Se x.id) (may_element k.tables (room_in k.elements k.outer) x.id it) (rooted_before g x.name k false b)) al it fit
  elements_sound at_first (known id) x k b al bar it fit = element_first (known id) x (rooted x.name k) (rooted_before g x.name k false b) al it fit
  elements_sound at_end t x k b al bar it fit = absurd (none_some kind.ScNotOne bar)

  ends_sound : (a : Alone) (x : Unit {0}) (k : Config) → Before g k false → alone_in k.elements k.outer ≡ a → FitsIn g c.tables k.outer k.elements end_document to → After g ((p a end_document).make x k)
  ends_sound nowhere x k b al fit = ended_after g k (Some happening.ed) refl (end_outside_all g c.tables k.outer k.elements to fit) b
  ends_sound at_start x k b al fit = resumed_after g k.aside k None refl (nowhere_else k.elements k.outer at_start al at_start_nowhere) refl b
  ends_sound at_first x k b al fit = resumed_after g k.aside k None refl (nowhere_else k.elements k.outer at_first al at_first_nowhere) refl b
  ends_sound at_end x k b al fit = resumed_after g k.aside k None refl (nowhere_else k.elements k.outer at_end al at_end_nowhere) refl b

  -- an event that leaves what is learned
  moves_sound : (t : Terminal) (e : Option Happening) (k : Config) → is_start e ≡ false → (t ≡ end_document → ⊥) → Before g k false → FitsIn g c.tables k.outer k.elements t to → After g (e, moves to k)
  moves_sound t e k plain other b fit = moved_after g k to e plain b (lead_in g c.tables k.outer k.elements t to fit) (outer_leads g c.tables k.elements k.outer t to b.body.outer_is fit other)

  starts_sound : (a : Alone) (x : Unit {0}) (k : Config) → Before g k false → FitsIn g c.tables k.outer k.elements start_document to → After g ((p a start_document).make x k)
  starts_sound nowhere x k b fit = moves_sound start_document (Some happening.sd) k refl no_end_start b fit
  starts_sound at_start x k b fit = moves_sound start_document None k refl no_end_start b fit
  starts_sound at_first x k b fit = moves_sound start_document None k refl no_end_start b fit
  starts_sound at_end x k b fit = moves_sound start_document None k refl no_end_start b fit

  -- an attribute, where its name is learned
  attribute_effected : (t : Telling) (v : Valuing) (x : Named × Value) (k : Config) → Before g k false → FitsIn g c.tables k.outer k.elements (attribute t v) to → After g (Some (happening.at x.0.name x.1), effected (effect_of g v x.0.id x.1) to k)
  attribute_effected t v x k b fit = effected_after g k to (Some (happening.at x.0.name x.1)) refl b (lead_in g c.tables k.outer k.elements (attribute t v) to fit) (outer_leads g c.tables k.elements k.outer (attribute t v) to b.body.outer_is fit (no_end_attribute t v)) setting (effect_of g v x.0.id x.1) (effect_good g setting v x.0.id x.1)

  -- what may be learned of it
  attribute_learned : (t : Telling) (v : Valuing) (id : NameId) (k : Config) → Before g k false → IsLeastName k.tables id → FitsIn g c.tables k.outer k.elements (attribute t v) to → Before g (learns (used.At id) k) false
  attribute_learned t v id k b it fit = learned_before g k false (used.At id) (may_inside g k.tables k.learned k.elements k.outer (used.At id) (inside_only g c.tables k.outer (attribute t v) to (attribute_outside c.tables k.outer t v to) k.elements fit) b.body it) b

  attributes_sound : (a : Alone) (t : Telling) (v : Valuing) (x : Named × Value) (k : Config) → Before g k false → IsLeastName k.tables x.0.id → FitsIn g c.tables k.outer k.elements (attribute t v) to → After g ((p a (attribute t v)).make x k)
  attributes_sound a spelled v x k b it fit = attribute_effected spelled v x (learns (used.At x.0.id) k) (attribute_learned spelled v x.0.id k b it fit) fit
  attributes_sound a (under uri) v x k b it fit = attribute_effected (under uri) v x (learns (used.At x.0.id) k) (attribute_learned (under uri) v x.0.id k b it fit) fit
  attributes_sound a (known id) v x k b it fit = attribute_effected (known id) v x k b fit

  plan_sound : (a : Alone) (t : Terminal) (x : (p a t).Item) (k : Config) → Before g k (p a t).entered → alone_in k.elements k.outer ≡ a → (p a t).barred ≡ None → LevelsAt t k → ItemStands g a c rule t x k.tables → FitsIn g c.tables k.outer k.elements t to → After g ((p a t).make x k)
  unfolding ItemStands LevelsAt
  plan_sound a start_document x k b al bar lev it fit = starts_sound a x k b fit
  plan_sound a end_document x k b al bar lev it fit = ends_sound a x k b al fit
  plan_sound a (element t) x k b al bar lev it fit = elements_sound a t x k b al bar it fit
  plan_sound a (attribute t v) x k b al bar lev it fit = attributes_sound a t v x k b it fit
  plan_sound a (characters d) x k b al bar lev it fit =
      moves_sound (characters d) (Some (happening.ch x)) (learns used.Ch k) refl (λ e. absurd cc)
      (learned_before g k false used.Ch (may_inside g k.tables k.learned k.elements k.outer used.Ch (inside_only g c.tables k.outer (characters d) to (characters_outside c.tables k.outer d to) k.elements fit) b.body refl) b) fit
  plan_sound a end_element x k b al bar lev it fit =
      let l : Learning = learned_in (room_in k.elements k.outer) used.Ee k.learned in
      let may = may_inside g k.tables k.learned k.elements k.outer used.Ee (inside_only g c.tables k.outer end_element to (end_outside c.tables k.outer to) k.elements fit) b.body refl in
      let n : k.meter.level ≡ levels_in k.elements k.outer + levels_aside k.aside = omega (arith, b.level) in
      record {
        body = body_closed g k.tables l k.elements k.outer (body_learns g k.tables k.learned k.elements k.outer used.Ee may b.body);
        level = closed_level (has_level k.elements k.outer) k.meter k.elements k.outer (levels_aside k.aside) refl n;
        aside = b.aside;
        start = λ h. absurd cc;
      }
  plan_sound a declaration x k b al bar lev it fit = moves_sound declaration (Some (happening.ns x.uri x.prefix x.element)) k refl (λ e. absurd cc) b fit
  plan_sound a self_contained x k b al bar lev it fit = record {
    body = fresh_body g;
    level = omega (arith, b.level);
    aside = put_aside_all k (texts_of k.tables (innermost k.elements)) b lev;
    start = λ h. absurd cc;
  }
  plan_sound a comment x k b al bar lev it fit = moves_sound comment (Some (happening.cm x)) k refl (λ e. absurd cc) b fit
  plan_sound a instruction x k b al bar lev it fit = moves_sound instruction (Some (happening.pi x.0 x.1)) k refl (λ e. absurd cc) b fit
  plan_sound a document_type x k b al bar lev it fit = moves_sound document_type (Some (happening.dt x.0.0 x.0.1 x.1.0 x.1.1)) k refl (λ e. absurd cc) b fit
  plan_sound a entity x k b al bar lev it fit = moves_sound entity (Some (happening.er x)) k refl (λ e. absurd cc) b fit

-- ---- one event
entered_level : (e : Bool) (m : Metering) → (entered_by e m).level ≡ m.level + one_more e
entered_level true m = refl
entered_level false m = omega arith

counted_level : (b : Bool) (m : Metering) → (counted_by b m).level ≡ m.level
counted_level true m = refl
counted_level false m = refl

before_behind : (g : Setting) (b : Bool) (j : ReadState) (c : Config) (entered : Bool) → Before g (reached j c) entered → Before g (reached (behind b j) c) entered
before_behind g true j c entered f = record { body = f.body; level = f.level; aside = f.aside }
before_behind g false j c entered f = f

stands_behind : (P : Partitions → Type 0) (b : Bool) (j : ReadState) → P j.context.tables → P (behind b j).context.tables
stands_behind P true j h = h
stands_behind P false j h = h

start_given : Bool → Option Kind
start_given b = cond b None (Some kind.ScPlace)

levels_at : (g : Setting) (a : Alone) (c : Config) (r : Rule) (t : Terminal) (k : Config) → k.elements ≡ c.elements → k.outer ≡ c.outer → (c.after_start ≡ true → has_level c.elements c.outer ≡ true) → (plan_on g a c r t).misplaced ≡ None → LevelsAt t k
unfolding LevelsAt
levels_at g a c r self_contained k e f h m = ap (λ (z : List Element). has_level z k.outer) e ∙ ap (λ (z : Outer). has_level c.elements z) f ∙ h (by_start c.after_start m)
  where
    by_start : (b : Bool) → cond b None (Some kind.ScPlace) ≡ None → b ≡ true
    by_start true z = refl
    by_start false z = absurd cc
levels_at g a c r start_document k e f h m = tt
levels_at g a c r end_document k e f h m = tt
levels_at g a c r (element t) k e f h m = tt
levels_at g a c r (attribute t v) k e f h m = tt
levels_at g a c r (characters d) k e f h m = tt
levels_at g a c r end_element k e f h m = tt
levels_at g a c r declaration k e f h m = tt
levels_at g a c r comment k e f h m = tt
levels_at g a c r instruction k e f h m = tt
levels_at g a c r document_type k e f h m = tt
levels_at g a c r entity k e f h m = tt

remembered_sound : (g : Setting) (given : Given) → After g given → IsSound g (remembered given).1
remembered_sound g given a = record { body = a.body; level = a.level; after_start = a.start; aside = a.aside }

pub steps_keep_sound : StepsKeepSound
unfolding ItemStands
steps_keep_sound g bytes c d e setting start s h =
    let u = stepped g bytes c (e, d) h in
    let t = u.rest_is in
    let a : Alone = alone_in c.elements c.outer in
    let p : Plan = plan_of g c u.rule in
    let on : Config = at_place c u.spot.place in
    let k : Config = reached (behind p.padded t.read_state) on in
    let fit = codes_fit g bytes c u.rule u.spot setting start s u.code in
    let goes : Continues (read_state_in bytes t.meter on) t.read_state = (plan_reads g a c u.rule u.rule.on).goes t.item (read_state_in bytes t.meter on) t.read_state t.read in
    let level : t.read_state.context.meter.level ≡ c.meter.level + one_more p.entered =
    ap (λ (z : Metering). z.level) goes.meter ∙ ap (λ (z : Metering). z.level) t.charged.after ∙ entered_level p.entered (counted_by p.counted c.meter) ∙ ap (λ (n : ℕ). n + one_more p.entered) (counted_level p.counted c.meter) in
    let b : Before g k p.entered = before_behind g p.padded t.read_state on p.entered (record {
      body = body_went g c.tables t.read_state.context.tables c.learned c.elements c.outer goes.keeps s.body;
      level = omega (arith, level, s.level);
      aside = s.aside;
    }) in
    let stands : ItemStands g a c u.rule u.rule.on t.item k.tables = stands_behind (λ z. ItemStands g a c u.rule u.rule.on t.item z) p.padded t.read_state (item_stands g a c u.rule u.rule.on (read_state_in bytes t.meter on) t.read_state t.item refl fit.0 t.read) in
    let lev = levels_at g a c u.rule u.rule.on k refl refl s.after_start t.charged.placed in
    let after : After g (p.make t.item k) = plan_sound g setting c u.rule fit.1 a u.rule.on t.item k b refl t.charged.free lev stands fit.0 in
    subst (λ (z : Given). IsSound g z.1) (sym t.is) (remembered_sound g (p.make t.item k) after)
