-- What the built-in grammars learn speaks of names that stand, and each grammar keeps its number and its name.
use Rattle.std.proofs.Common.{◌≡◌, ℕ, zero, suc, Bool, true, false, cond, List, [], ◌∷◌, ◌++◌, length, Option, Some, None, get_or, refl, ap, ◌∙◌}
use Rattle.std.specs.Prelude.{◌&&◌, ◌==◌, All, slice_get, unwrap_or}
use Rattle.std.proofs.lemmas.Bool.{eqb-true}
use Rattle.std.proofs.lemmas.List.Elements.{All-cons, All-head, All-nil, All-push, All-tail, All-weaker}
use Rattle.std.proofs.lemmas.List.Quantifiers.{position-Some}
use Rattle.std.proofs.lemmas.Option.{none-some, same_Some, slice_get-get_or}
use Rattle.exi_builtin.specs.declared.learnable.Learnable.{Learnable}
use Rattle.exi_builtin.specs.declared.learnable.Learnable.TheVariants as learnable
use Rattle.exi_builtin.specs.declared.learnable.Learned.{Learned}
use Rattle.exi_builtin.specs.declared.learnable.Room.{Room}
use Rattle.exi_builtin.specs.declared.learnable.Room.TheVariants as room
use Rattle.exi_builtin.specs.declared.element_grammar.ElementGrammar.{ElementGrammar}
use Rattle.exi_builtin.specs.Learning.{Learning, added_by, after_use, changed_at, grammar_number, grammar_place, is_new, new_grammar, same_name, with_grammar}
use Rattle.exi_names.specs.declared.names.NameId.{NameId}
use Rattle.exi_tables.specs.Growth.{KeepsAll}
use Rattle.exi_tables.specs.Partitions.{Partitions}
use Rattle.exi_processing.specs.Configurations.{Setting}
use Rattle.exi_processing.specs.Sound.{HasGrammar, IsElementOfName, IsLeastName, IsOfNames, IsSoundElement, IsSoundGrammar, IsSoundLearning, IsStateOfName}
use Rattle.exi_processing.specs.declared.frames.Element.{Element}
use Rattle.exi_processing.specs.declared.frames.State.{State}
use Rattle.exi_processing.specs.declared.frames.State.TheVariants as state
use Rattle.exi_processing.proofs.Standing.{name_on}

-- ---- where the tables grow
of_names_on : (p q : Partitions) → KeepsAll p q → (x : Learnable) → IsOfNames p x → IsOfNames q x
of_names_on p q keeps (learnable.Known name is_attribute) h = name_on p q name keeps h
of_names_on p q keeps (learnable.Ch one_part) h = h
of_names_on p q keeps (learnable.Ee one_part) h = h
of_names_on p q keeps learnable.SeAny h = h
of_names_on p q keeps learnable.AtAny h = h
of_names_on p q keeps learnable.Ed h = h
of_names_on p q keeps learnable.Ns h = h
of_names_on p q keeps learnable.Sc h = h
of_names_on p q keeps learnable.Er h = h
of_names_on p q keeps learnable.Cm h = h
of_names_on p q keeps learnable.Pi h = h

element_on : (p q : Partitions) → KeepsAll p q → (x : Learnable) → IsElementOfName p x → IsElementOfName q x
element_on p q keeps (learnable.Known name false) h = name_on p q name keeps h
element_on p q keeps (learnable.Known name true) h = h
element_on p q keeps (learnable.Ch one_part) h = h
element_on p q keeps (learnable.Ee one_part) h = h
element_on p q keeps learnable.SeAny h = h
element_on p q keeps learnable.AtAny h = h
element_on p q keeps learnable.Ed h = h
element_on p q keeps learnable.Ns h = h
element_on p q keeps learnable.Sc h = h
element_on p q keeps learnable.Er h = h
element_on p q keeps learnable.Cm h = h
element_on p q keeps learnable.Pi h = h

grammar_on : (p q : Partitions) → KeepsAll p q → (g : ElementGrammar) → IsSoundGrammar p g → IsSoundGrammar q g
grammar_on p q keeps g s = record {
  name = name_on p q g.name keeps s.name;
  start_tag = All-weaker (IsOfNames p) (IsOfNames q) (of_names_on p q keeps) g.start_tag s.start_tag;
  content = All-weaker (IsOfNames p) (IsOfNames q) (of_names_on p q keeps) g.content s.content;
}

pub learning_on : (p q : Partitions) → KeepsAll p q → (l : Learning) → IsSoundLearning p l → IsSoundLearning q l
learning_on p q keeps l s = record {
  grammars = All-weaker (IsSoundGrammar p) (IsSoundGrammar q) (grammar_on p q keeps) l.grammars s.grammars;
  fragment = All-weaker (IsElementOfName p) (IsElementOfName q) (element_on p q keeps) l.fragment s.fragment;
}

-- ---- each grammar keeps its number and its name
abbrev pub KeepsNames : List ElementGrammar → List ElementGrammar → Type 0
KeepsNames old new = (number : ℕ) (g : ElementGrammar) → slice_get old number ≡ Some g → (h : ElementGrammar) × (slice_get new number ≡ Some h) × (h.name ≡ g.name)

pub names_same : (gs : List ElementGrammar) → KeepsNames gs gs
names_same gs number g is = (g, is, refl)

names_changed : (gs : List ElementGrammar) (place : ℕ) (change : ElementGrammar → ElementGrammar) → ((g : ElementGrammar) → (change g).name ≡ g.name) → KeepsNames gs (changed_at gs place change)
names_changed [] place change same number g is = absurd (none-some g is)
names_changed (x ∷ xs) zero change same zero g is = (change x, refl, same x ∙ ap (λ (z : ElementGrammar). z.name) (same_Some x g is))
names_changed (x ∷ xs) zero change same (suc number) g is = (g, is, refl)
names_changed (x ∷ xs) (suc place) change same zero g is = (g, is, refl)
names_changed (x ∷ xs) (suc place) change same (suc number) g is = names_changed xs place change same number g is

names_added : (gs more : List ElementGrammar) → KeepsNames gs (gs ++ more)
names_added [] more number g is = absurd (none-some g is)
names_added (x ∷ xs) more zero g is = (g, is, refl)
names_added (x ∷ xs) more (suc number) g is = names_added xs more number g is

has_on : (l m : Learning) (number : ℕ) (name : NameId) → KeepsNames l.grammars m.grammars → HasGrammar l number name → HasGrammar m number name
has_on l m number name names h = let n = names number h.grammar h.stands in record { grammar = n.0; stands = n.1; same = n.2 ∙ h.same }

state_on : (g : Setting) (l m : Learning) (name : NameId) (s : State) → KeepsNames l.grammars m.grammars → IsStateOfName g l name s → IsStateOfName g m name s
state_on g l m name (state.BuiltIn (room.StartTag number)) names h = has_on l m number name names h
state_on g l m name (state.BuiltIn (room.Content number)) names h = has_on l m number name names h
state_on g l m name (state.BuiltIn room.Fragment) names h = h
state_on g l m name (state.Informed grammar number empty) names h = h

pub open_on : (g : Setting) (p q : Partitions) (l m : Learning) → KeepsAll p q → KeepsNames l.grammars m.grammars → (e : Element) → IsSoundElement g p l e → IsSoundElement g q m e
open_on g p q l m keeps names e s = record { name = name_on p q e.name keeps s.name; state = state_on g l m e.name e.state names s.state }

-- ---- a use
all_changed : (P : ElementGrammar → Type 0) (gs : List ElementGrammar) (place : ℕ) (change : ElementGrammar → ElementGrammar) → ((g : ElementGrammar) → P g → P (change g)) → All P gs → All P (changed_at gs place change)
all_changed P [] place change keeps all = All-nil P
all_changed P (x ∷ xs) zero change keeps all = All-cons P (change x) xs (keeps x (All-head P x xs all)) (All-tail P x xs all)
all_changed P (x ∷ xs) (suc place) change keeps all = All-cons P x (changed_at xs place change) (All-head P x xs all) (all_changed P xs place change keeps (All-tail P x xs all))

either_of : (P : Learning → Type 0) (b : Bool) (l m : Learning) → P l → P m → P (cond b l m)
either_of P true l m x y = x
either_of P false l m x y = y

-- what may be learned in a state
abbrev pub MayStand : Partitions → Room → Learnable → Type 0
MayStand p room.Fragment x = IsElementOfName p x
MayStand p (room.StartTag number) x = IsOfNames p x
MayStand p (room.Content number) x = IsOfNames p x

abbrev in_start_tag : Learnable → ElementGrammar → ElementGrammar
in_start_tag x g = record g { start_tag = x ∷ g.start_tag }

abbrev in_content : Learnable → ElementGrammar → ElementGrammar
in_content x g = record g { content = x ∷ g.content }

abbrev put_in : Learning → ℕ → (ElementGrammar → ElementGrammar) → Learning
put_in l number change = record l { grammars = changed_at l.grammars number change }

put_sound : (p : Partitions) (l : Learning) (number : ℕ) (change : ElementGrammar → ElementGrammar) → ((g : ElementGrammar) → IsSoundGrammar p g → IsSoundGrammar p (change g)) → IsSoundLearning p l → IsSoundLearning p (put_in l number change)
put_sound p l number change keeps s = record { grammars = all_changed (IsSoundGrammar p) l.grammars number change keeps s.grammars; fragment = s.fragment }

pub use_sound : (p : Partitions) (l : Learning) (r : Room) (u : Learned) → MayStand p r (added_by u) → IsSoundLearning p l → IsSoundLearning p (after_use l r u)
use_sound p l (room.StartTag number) u may s =
    either_of (IsSoundLearning p) (is_new l (room.StartTag number) u) (put_in l number (in_start_tag (added_by u))) l
    (put_sound p l number (in_start_tag (added_by u)) (λ g h. record { name = h.name; start_tag = All-cons (IsOfNames p) (added_by u) g.start_tag may h.start_tag; content = h.content }) s)
    s
use_sound p l (room.Content number) u may s =
    either_of (IsSoundLearning p) (is_new l (room.Content number) u) (put_in l number (in_content (added_by u))) l
    (put_sound p l number (in_content (added_by u)) (λ g h. record { name = h.name; start_tag = h.start_tag; content = All-cons (IsOfNames p) (added_by u) g.content may h.content }) s)
    s
use_sound p l room.Fragment u may s =
    either_of (IsSoundLearning p) (is_new l room.Fragment u) (record l { fragment = added_by u ∷ l.fragment }) l
    (record { grammars = s.grammars; fragment = All-cons (IsElementOfName p) (added_by u) l.fragment may s.fragment })
    s

pub use_names : (l : Learning) (r : Room) (u : Learned) → KeepsNames l.grammars (after_use l r u).grammars
use_names l (room.StartTag number) u =
    either_of (λ m. KeepsNames l.grammars m.grammars) (is_new l (room.StartTag number) u) (put_in l number (in_start_tag (added_by u))) l
    (names_changed l.grammars number (in_start_tag (added_by u)) (λ g. refl)) (names_same l.grammars)
use_names l (room.Content number) u =
    either_of (λ m. KeepsNames l.grammars m.grammars) (is_new l (room.Content number) u) (put_in l number (in_content (added_by u))) l
    (names_changed l.grammars number (in_content (added_by u)) (λ g. refl)) (names_same l.grammars)
use_names l room.Fragment u =
    either_of (λ m. KeepsNames l.grammars m.grammars) (is_new l room.Fragment u) (record l { fragment = added_by u ∷ l.fragment }) l
    (names_same l.grammars) (names_same l.grammars)

-- ---- the grammar of a name
both_true : (a b : Bool) → (a && b) ≡ true → (a ≡ true) × (b ≡ true)
both_true true b e = (refl, e)
both_true false b e = absurd cc

same_is : (a b : NameId) → same_name a b ≡ true → a ≡ b
same_is a b e =
    let k = both_true (a.uri == b.uri) (a.local == b.local) e in
    let u : a.uri ≡ b.uri = eqb-true a.uri b.uri k.0 in
    let v : a.local ≡ b.local = eqb-true a.local b.local k.1 in
    let first : a ≡ record { uri = b.uri; local = a.local } = ap (λ (z : ℕ). record { uri = z; local = a.local }) u in
    let second : record { uri = b.uri; local = a.local } ≡ b = ap (λ (z : ℕ). record { uri = b.uri; local = z }) v in
    first ∙ second

abbrev made_unless : Learning → NameId → Option ℕ → Learning
made_unless l name (Some place) = l
made_unless l name None = record l { grammars = l.grammars ++ new_grammar name ∷ [] }

last_of : (gs : List ElementGrammar) (g : ElementGrammar) → slice_get (gs ++ g ∷ []) (length gs) ≡ Some g
last_of [] g = refl
last_of (x ∷ xs) g = last_of xs g

made_has : (l : Learning) (name : NameId) (o : Option ℕ) → grammar_place l name ≡ o → HasGrammar (made_unless l name o) (unwrap_or o (length l.grammars)) name
made_has l name (Some place) e =
    let at = position-Some (λ (g : ElementGrammar). same_name g.name name) l.grammars place (new_grammar name) e in
    let g : ElementGrammar = get_or l.grammars place (new_grammar name) in
    record { grammar = g; stands = slice_get-get_or l.grammars place (new_grammar name) at.0; same = same_is g.name name at.1 }
made_has l name None e = record { grammar = new_grammar name; stands = last_of l.grammars (new_grammar name); same = refl }

-- the number of a name's grammar tells a grammar of that name
pub number_has : (l : Learning) (name : NameId) → HasGrammar (with_grammar l name) (grammar_number l name) name
number_has l name = made_has l name (grammar_place l name) refl

made_names : (l : Learning) (name : NameId) (o : Option ℕ) → KeepsNames l.grammars (made_unless l name o).grammars
made_names l name (Some place) = names_same l.grammars
made_names l name None = names_added l.grammars (new_grammar name ∷ [])

pub grammar_names : (l : Learning) (name : NameId) → KeepsNames l.grammars (with_grammar l name).grammars
grammar_names l name = made_names l name (grammar_place l name)

made_sound : (p : Partitions) (l : Learning) (name : NameId) (o : Option ℕ) → IsLeastName p name → IsSoundLearning p l → IsSoundLearning p (made_unless l name o)
made_sound p l name (Some place) least s = s
made_sound p l name None least s = record {
  grammars = All-push (IsSoundGrammar p) l.grammars (new_grammar name) s.grammars (record { name = least; start_tag = All-nil (IsOfNames p); content = All-nil (IsOfNames p) });
  fragment = s.fragment;
}

pub grammar_sound : (p : Partitions) (l : Learning) (name : NameId) → IsLeastName p name → IsSoundLearning p l → IsSoundLearning p (with_grammar l name)
grammar_sound p l name least s = made_sound p l name (grammar_place l name) least s
