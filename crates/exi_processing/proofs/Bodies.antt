-- What the changes of a configuration keep sound: going on, learning, the next state, an element opened and closed.
use Rattle.std.proofs.Common.{◌≡◌, ◌≢◌, ℕ, zero, suc, ◌+◌, ◌-◌, Bool, true, false, cond, List, [], ◌∷◌, length, Option, Some, None, refl, ap, ◌∙◌, arith}
use Rattle.std.specs.Prelude.{All}
use Rattle.std.proofs.lemmas.List.Elements.{All-cons, All-head, All-tail, All-weaker}
use Rattle.exi_builtin.specs.declared.learnable.Learned.{Learned}
use Rattle.exi_builtin.specs.declared.learnable.Room.{Room}
use Rattle.exi_builtin.specs.declared.learnable.Room.TheVariants as room
use Rattle.exi_builtin.specs.Learning.{Learning, added_by, grammar_number, with_grammar}
use Rattle.exi_gram.specs.Schemas.{IsFull, IsInner}
use Rattle.exi_names.specs.declared.names.NameId.{NameId}
use Rattle.exi_tables.specs.Growth.{KeepsAll}
use Rattle.exi_tables.specs.Partitions.{Partitions}
use Rattle.exi_typed.proofs.Goings.{same_keeps}
use Rattle.exi_ways.proofs.Forms.{forms_stand}
use Rattle.exi_processing.specs.Changes.{emptied_elements, emptied_state, enclosing, has_level, inner_state, is_alone, learned_in, moved_elements, moved_state, outer_behind, restated, room_in, with_inner}
use Rattle.exi_processing.specs.Configurations.{IsSetting, Setting, first_tables}
use Rattle.exi_processing.specs.Sound.{IsLeastName, IsOuter, IsSoundBody, IsSoundElement, IsSoundLearning, IsStateOfName, IsWhereOpen, LeadsInForm, levels_in}
use Rattle.exi_processing.specs.declared.frames.Element.{Element}
use Rattle.exi_processing.specs.declared.frames.Outer.{Outer}
use Rattle.exi_processing.specs.declared.frames.Outer.TheVariants as outer
use Rattle.exi_processing.specs.declared.frames.State.{State}
use Rattle.exi_processing.specs.declared.frames.State.TheVariants as state
use Rattle.exi_processing.proofs.Learns.{KeepsNames, MayStand, grammar_names, grammar_sound, learning_on, names_same, number_has, open_on, use_names, use_sound}

pub cons_is_some : {X : Type 0} (x : X) (xs : List X) → (x ∷ xs) ≢ []
cons_is_some x xs e = absurd cc

-- ---- going on
keeps_then : (p q r : Partitions) → KeepsAll p q → KeepsAll q r → KeepsAll p r
keeps_then p q r k m = record {
  each_uri = λ place text h. m.each_uri place text (k.each_uri place text h);
  each_local = λ uri place text h. m.each_local uri place text (k.each_local uri place text h);
  each_prefix = λ uri place text h. m.each_prefix uri place text (k.each_prefix uri place text h);
}

pub body_went : (g : Setting) (p q : Partitions) (l : Learning) (es : List Element) (o : Outer) → KeepsAll p q → IsSoundBody g p l es o → IsSoundBody g q l es o
body_went g p q l es o keeps b = record {
  kept = keeps_then (first_tables g) p q b.kept keeps;
  learned = learning_on p q keeps l b.learned;
  elements = All-weaker (IsSoundElement g p l) (IsSoundElement g q l) (open_on g p q l l keeps (names_same l.grammars)) es b.elements;
  outside = b.outside;
  outer_is = b.outer_is;
}

open_with : (g : Setting) (p : Partitions) (l m : Learning) (es : List Element) → KeepsNames l.grammars m.grammars → All (IsSoundElement g p l) es → All (IsSoundElement g p m) es
open_with g p l m es names all = All-weaker (IsSoundElement g p l) (IsSoundElement g p m) (open_on g p p l m (same_keeps p) names) es all

-- ---- learning
unfoldable pub MayLearn : Partitions → Option Room → Learned → Type 0
MayLearn p None u = Unit {0}
MayLearn p (Some r) u = MayStand p r (added_by u)

room_sound : (p : Partitions) (l : Learning) (r : Option Room) (u : Learned) → MayLearn p r u → IsSoundLearning p l → IsSoundLearning p (learned_in r u l)
unfolding MayLearn
room_sound p l None u may s = s
room_sound p l (Some r) u may s = use_sound p l r u may s

room_names : (l : Learning) (r : Option Room) (u : Learned) → KeepsNames l.grammars (learned_in r u l).grammars
room_names l None u = names_same l.grammars
room_names l (Some r) u = use_names l r u

pub body_learns : (g : Setting) (p : Partitions) (l : Learning) (es : List Element) (o : Outer) (u : Learned) → MayLearn p (room_in es o) u → IsSoundBody g p l es o → IsSoundBody g p (learned_in (room_in es o) u l) es o
body_learns g p l es o u may b = record {
  kept = b.kept;
  learned = room_sound p l (room_in es o) u may b.learned;
  elements = open_with g p l (learned_in (room_in es o) u l) es (room_names l (room_in es o) u) b.elements;
  outside = b.outside;
  outer_is = b.outer_is;
}

-- ---- the next state
-- of the innermost element, where it is in a grammar of the schema, the state that follows exists
abbrev pub LeadIn : Setting → List Element → ℕ → Type 0
LeadIn g [] to = Unit {0}
LeadIn g (e ∷ es) to = LeadsInForm g e.state to

moved_sound : (g : Setting) (l : Learning) (name : NameId) (to : ℕ) (s : State) → LeadsInForm g s to → IsStateOfName g l name s → IsStateOfName g l name (moved_state to s)
moved_sound g l name zero (state.BuiltIn (room.StartTag number)) there h = h
moved_sound g l name (suc to) (state.BuiltIn (room.StartTag number)) there h = h
moved_sound g l name zero (state.BuiltIn (room.Content number)) there h = h
moved_sound g l name (suc to) (state.BuiltIn (room.Content number)) there h = h
moved_sound g l name to (state.BuiltIn room.Fragment) there h = h
moved_sound g l name to (state.Informed grammar number empty) there h = record { known = h.known; past = h.past; there = there; full = h.full }

moved_open : (g : Setting) (p : Partitions) (l : Learning) (to : ℕ) (es : List Element) → LeadIn g es to → All (IsSoundElement g p l) es → All (IsSoundElement g p l) (moved_elements to es)
moved_open g p l to [] there all = all
moved_open g p l to (e ∷ es) there all =
    let h = All-head (IsSoundElement g p l) e es all in
    All-cons (IsSoundElement g p l) (record e { state = moved_state to e.state }) es (record { name = h.name; state = moved_sound g l e.name to e.state there h.state }) (All-tail (IsSoundElement g p l) e es all)

moved_outside : (to : ℕ) (es : List Element) (o : Outer) → (es ≢ [] → IsWhereOpen o) → moved_elements to es ≢ [] → IsWhereOpen (outer_behind to es o)
moved_outside to [] o h some = absurd (some refl)
moved_outside to (e ∷ es) o h some = h (cons_is_some e es)

pub body_moves : (g : Setting) (p : Partitions) (l : Learning) (es : List Element) (o : Outer) (to : ℕ) → LeadIn g es to → IsOuter g (outer_behind to es o) → IsSoundBody g p l es o → IsSoundBody g p l (moved_elements to es) (outer_behind to es o)
body_moves g p l es o to there out b = record { kept = b.kept; learned = b.learned; elements = moved_open g p l to es there b.elements; outside = moved_outside to es o b.outside; outer_is = out }

pub moved_count : (to : ℕ) (es : List Element) → length (moved_elements to es) ≡ length es
moved_count to [] = refl
moved_count to (e ∷ es) = refl

pub moved_alone : (to : ℕ) (es : List Element) (o : Outer) → is_alone (outer_behind to es o) ≡ is_alone o
moved_alone to (e ∷ es) o = refl
moved_alone to [] (outer.Book grammar number) = refl
moved_alone zero [] outer.FragmentStart = refl
moved_alone (suc to) [] outer.FragmentStart = refl
moved_alone zero [] outer.FragmentContent = refl
moved_alone (suc to) [] outer.FragmentContent = refl
moved_alone to [] outer.AloneStart = refl
moved_alone to [] outer.AloneFirst = refl
moved_alone to [] outer.AloneOver = refl
moved_alone to [] outer.Ended = refl

-- ---- the state of an element by a type, and in its empty form
-- the start of a grammar that opens elements
full_state : (g : Setting) → IsSetting g → (l : Learning) (name : NameId) (grammar : ℕ) → IsFull g.schema grammar → IsStateOfName g l name (state.Informed grammar 0 false)
full_state g setting l name grammar h = let f = forms_stand g setting.book setting.schema grammar h in record { known = f.known; past = h.past_wholes; there = f.full; full = λ e. h }

no_full : {X : Type 0} → true ≡ false → X
no_full e = absurd cc

-- and of its empty form
emptied_sound : (g : Setting) → IsSetting g → (l : Learning) (name : NameId) (s : State) → IsStateOfName g l name s → IsStateOfName g l name (emptied_state s)
emptied_sound g setting l name (state.BuiltIn r) h = h
emptied_sound g setting l name (state.Informed grammar number true) h = record { known = h.known; past = h.past; there = record { grammar_is = h.there.grammar_is; state_is = omega (arith, h.there.state_is) }; full = λ e. no_full e }
emptied_sound g setting l name (state.Informed grammar number false) h =
    let f = forms_stand g setting.book setting.schema grammar (h.full refl) in
    record { known = h.known; past = omega (arith, h.past); there = f.empty; full = λ e. no_full e }

restated_open : (g : Setting) → IsSetting g → (p : Partitions) (l : Learning) (grammar : ℕ) → IsFull g.schema grammar → (es : List Element) → All (IsSoundElement g p l) es → All (IsSoundElement g p l) (restated (state.Informed grammar 0 false) es)
restated_open g setting p l grammar h [] all = all
restated_open g setting p l grammar h (e ∷ es) all =
    let s = All-head (IsSoundElement g p l) e es all in
    All-cons (IsSoundElement g p l) (record e { state = state.Informed grammar 0 false }) es (record { name = s.name; state = full_state g setting l e.name grammar h }) (All-tail (IsSoundElement g p l) e es all)

emptied_open : (g : Setting) → IsSetting g → (p : Partitions) (l : Learning) (es : List Element) → All (IsSoundElement g p l) es → All (IsSoundElement g p l) (emptied_elements es)
emptied_open g setting p l [] all = all
emptied_open g setting p l (e ∷ es) all =
    let s = All-head (IsSoundElement g p l) e es all in
    All-cons (IsSoundElement g p l) (record e { state = emptied_state e.state }) es (record { name = s.name; state = emptied_sound g setting l e.name e.state s.state }) (All-tail (IsSoundElement g p l) e es all)

restated_some : (s : State) (es : List Element) → restated s es ≢ [] → es ≢ []
restated_some s [] some = some
restated_some s (e ∷ es) some = cons_is_some e es

emptied_some : (es : List Element) → emptied_elements es ≢ [] → es ≢ []
emptied_some [] some = some
emptied_some (e ∷ es) some = cons_is_some e es

pub body_retyped : (g : Setting) → IsSetting g → (p : Partitions) (l : Learning) (es : List Element) (o : Outer) (grammar : ℕ) → IsFull g.schema grammar → IsSoundBody g p l es o → IsSoundBody g p l (restated (state.Informed grammar 0 false) es) o
body_retyped g setting p l es o grammar h b = record { kept = b.kept; learned = b.learned; elements = restated_open g setting p l grammar h es b.elements; outside = λ some. b.outside (restated_some (state.Informed grammar 0 false) es some); outer_is = b.outer_is }

pub body_emptied : (g : Setting) → IsSetting g → (p : Partitions) (l : Learning) (es : List Element) (o : Outer) → IsSoundBody g p l es o → IsSoundBody g p l (emptied_elements es) o
body_emptied g setting p l es o b = record { kept = b.kept; learned = b.learned; elements = emptied_open g setting p l es b.elements; outside = λ some. b.outside (emptied_some es some); outer_is = b.outer_is }

pub restated_levels : (s : State) (es : List Element) (o : Outer) → levels_in (restated s es) o ≡ levels_in es o
restated_levels s [] o = refl
restated_levels s (e ∷ es) o = refl

pub emptied_levels : (es : List Element) (o : Outer) → levels_in (emptied_elements es) o ≡ levels_in es o
emptied_levels [] o = refl
emptied_levels (e ∷ es) o = refl

-- ---- an element opened, and closed
pub body_opened : (g : Setting) → IsSetting g → (p : Partitions) (l : Learning) (es : List Element) (o : Outer) (name : NameId) (inner : Option ℕ) → IsInner g.schema inner → IsLeastName p name → IsWhereOpen o → IsSoundBody g p l es o → IsSoundBody g p (with_inner l name inner) (record { name = name; state = inner_state l name inner } ∷ es) o
body_opened g setting p l es o name None h least there b =
    let m : Learning = with_grammar l name in
    let e : Element = record { name = name; state = state.BuiltIn (room.StartTag (grammar_number l name)) } in
    record {
      kept = b.kept;
      learned = grammar_sound p l name least b.learned;
      elements = All-cons (IsSoundElement g p m) e es (record { name = least; state = number_has l name }) (open_with g p l m es (grammar_names l name) b.elements);
      outside = λ some. there;
      outer_is = b.outer_is;
    }
body_opened g setting p l es o name (Some grammar) h least there b = record {
  kept = b.kept;
  learned = b.learned;
  elements = All-cons (IsSoundElement g p l) (record { name = name; state = state.Informed grammar 0 false }) es (record { name = least; state = full_state g setting l name grammar h }) b.elements;
  outside = λ some. there;
  outer_is = b.outer_is;
}

pub body_closed : (g : Setting) (p : Partitions) (l : Learning) (es : List Element) (o : Outer) → IsSoundBody g p l es o → IsSoundBody g p l (enclosing es) o
body_closed g p l [] o b = b
body_closed g p l (e ∷ es) o b = record { kept = b.kept; learned = b.learned; elements = All-tail (IsSoundElement g p l) e es b.elements; outside = λ some. b.outside (cons_is_some e es); outer_is = b.outer_is }

-- ---- levels
levels_of : Bool → ℕ → ℕ
levels_of b n = cond b (n - 1) n

pub levels_moved : (to : ℕ) (es : List Element) (o : Outer) → levels_in (moved_elements to es) (outer_behind to es o) ≡ levels_in es o
unfolding levels_of
levels_moved to es o = ap (λ (n : ℕ). levels_of (is_alone (outer_behind to es o)) n) (moved_count to es) ∙ ap (λ (b : Bool). levels_of b (length es)) (moved_alone to es o)

pub levels_closed : (es : List Element) (o : Outer) → has_level es o ≡ true → levels_in es o ≡ levels_in (enclosing es) o + 1
levels_closed [] o h = absurd cc
levels_closed (e ∷ []) o h = by_alone (is_alone o) h
  where
    by_alone : (b : Bool) → cond b false true ≡ true → cond b (1 - 1) 1 ≡ cond b (0 - 1) 0 + 1
    by_alone true k = absurd cc
    by_alone false k = refl
levels_closed (e ∷ f ∷ es) o h = by_alone (is_alone o)
  where
    by_alone : (b : Bool) → cond b (suc (suc (length es)) - 1) (suc (suc (length es))) ≡ cond b (suc (length es) - 1) (suc (length es)) + 1
    by_alone true = omega arith
    by_alone false = omega arith

-- the element that a fragment stands for has none
pub levels_alone : (es : List Element) (o : Outer) → has_level es o ≡ false → levels_in es o ≡ levels_in (enclosing es) o
levels_alone [] o h = refl
levels_alone (e ∷ []) o h = by_alone (is_alone o) h
  where
    by_alone : (b : Bool) → cond b false true ≡ false → cond b (1 - 1) 1 ≡ cond b (0 - 1) 0
    by_alone true k = refl
    by_alone false k = absurd cc
levels_alone (e ∷ f ∷ es) o h = absurd cc
