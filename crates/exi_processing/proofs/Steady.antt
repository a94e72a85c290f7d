-- What a step needs holds wherever turns lead from a job's first place.
use Rattle.std.proofs.Common.{◌≡◌, ◌≢◌, ◌⊎◌, inl, inr, ◌<◌, ◌≤◌, ◌^◌, ◌-◌, ℕ, zero, suc, ◌+◌, ◌*◌, true, List, [], ◌∷◌, length, Option, Some, None, refl, sym, subst, arith}
use Rattle.std.specs.Prelude.{All, slice_get}
use Rattle.std.proofs.lemmas.List.Elements.{All-head}
use Rattle.std.proofs.lemmas.Option.{slice_get_within, get_or_from_slice_get}
use Rattle.exi_builtin.specs.declared.element_grammar.ElementGrammar.{ElementGrammar}
use Rattle.exi_builtin.specs.declared.learnable.Learnable.{Learnable}
use Rattle.exi_builtin.specs.declared.learnable.Room.{Room}
use Rattle.exi_builtin.specs.declared.learnable.Room.TheVariants as room
use Rattle.exi_builtin.specs.Learning.{IsRoom, Learning, learned_in}
use Rattle.exi_gram.specs.Books.{IsStateOf}
use Rattle.exi_meter.specs.Metering.{Bounds, IsWithinStream, stream_bounds}
use Rattle.exi_names.specs.declared.names.NameId.{NameId}
use Rattle.exi_names.specs.Events.{Happening, at, ch, cm, dt, ed, ee, er, ns, pi, sc, sd, se}
use Rattle.exi_names.specs.StartTables.{IsStart}
use Rattle.exi_tables.specs.Growth.{NoneLonger}
use Rattle.exi_tables.specs.Partitions.{IsName, Partitions, locals, uris}
use Rattle.exi_values.proofs.Growths.{few_more as more_places}
use Rattle.exi_ways.proofs.Forms.{grammars_stand}
use Rattle.exi_ways.proofs.Wholes.{documents_lead, fragments_lead}
use Rattle.exi_processing.specs.Changes.{has_level, innermost, outer_room, room_in, state_room}
use Rattle.exi_processing.specs.Configurations.{Body, Config, IsSetting, Setting}
use Rattle.exi_processing.specs.Fews.{Few, FewGrammars, FewLearned}
use Rattle.exi_processing.specs.Fragments.{fragments_at, fragments_in}
use Rattle.exi_processing.specs.Handing.{AreThere, HasNames, IsSteady, IsThere, IsThereIn, StandsIn}
use Rattle.exi_processing.specs.Rules.{Telling, Terminal, attribute, characters, comment, declaration, document_type, element, end_document, end_element, entity, instruction, known, self_contained, spelled, start_document, under}
use Rattle.exi_processing.specs.Runs.{Job, Leads, events_of, first}
use Rattle.exi_processing.specs.Sound.{FitsIn, FitsTelling, IsLeastName, IsOuter, IsSound, IsSoundAside, IsSoundElement, IsStateOfName, levels_aside, levels_in}
use Rattle.exi_processing.specs.declared.frames.Element.{Element}
use Rattle.exi_processing.specs.declared.frames.Outer.{Outer}
use Rattle.exi_processing.specs.declared.frames.Outer.TheVariants as outer
use Rattle.exi_processing.specs.declared.frames.State.{State}
use Rattle.exi_processing.specs.declared.frames.State.TheVariants as state
use Rattle.exi_processing.specs.declared.start.Start.{Start}
use Rattle.exi_processing.specs.declared.start.Start.TheVariants as start
use Rattle.exi_processing.proofs.Bodies.{levels_closed}
use Rattle.exi_processing.proofs.Fewness.{few_after_turns}
use Rattle.exi_processing.proofs.Fitting.{codes_fit}
use Rattle.exi_processing.proofs.Reached.{reached_are_sound}
use Rattle.exi_processing.proofs.Sequences.{first_weight, leads_count}
use Rattle.exi_processing.proofs.Soundness.{attribute_tells, characters_outside, element_tells, inside_only}
use Rattle.exi_processing.proofs.Withins.{Within, leads_kept}

-- ---- how many turns there are
few_fragments : (es : List Happening) → fragments_in es ≤ length es
few_fragments [] = omega arith
few_fragments (sd ∷ es) = omega (arith, few_fragments es)
few_fragments (ed ∷ es) = omega (arith, few_fragments es)
few_fragments (se name ∷ es) = omega (arith, few_fragments es)
few_fragments (ee ∷ es) = omega (arith, few_fragments es)
few_fragments (at name found ∷ es) = omega (arith, few_fragments es)
few_fragments (ch found ∷ es) = omega (arith, few_fragments es)
few_fragments (ns uri prefix own ∷ es) = omega (arith, few_fragments es)
few_fragments (sc byte ∷ es) = omega (arith, few_fragments es)
few_fragments (cm text ∷ es) = omega (arith, few_fragments es)
few_fragments (pi target text ∷ es) = omega (arith, few_fragments es)
few_fragments (dt name public system text ∷ es) = omega (arith, few_fragments es)
few_fragments (er name ∷ es) = omega (arith, few_fragments es)

one_at_start : (s : Start) → fragments_at s ≤ 1
one_at_start start.Body = omega arith
one_at_start (start.Fragment byte) = omega arith

pub few_led : (j : Job) (s : Start) (limits : Bounds) (turns : List (Option Happening)) (c : Config) → IsWithinStream limits → Leads j.setting j.bytes (first j s limits) turns c → length turns ≤ 2 ^ 26 + 3
few_led j s limits turns c within l =
    let n = leads_count j.setting j.bytes (first j s limits) c turns l (omega arith) in
    omega (arith, n.0, n.1, first_weight j s limits, few_fragments (events_of turns), one_at_start s, within.events)

-- ---- what is not much
text_limit : stream_bounds.text ≡ 2 ^ 28
text_limit = refl

few_tables : (n units : ℕ) (p : Partitions) → n ≤ 2 ^ 26 + 3 → units ≤ 2 ^ 28 → NoneLonger (2 ^ 30 + 2 * n + units) p → NoneLonger (2 ^ 31 - 2) p
few_tables n units p le few f = more_places (2 ^ 30 + 2 * n + units) (2 ^ 31 - 2) p (omega (arith, le, few)) f

-- and there is room for what may still be charged
roomy_tables : (n units : ℕ) (p : Partitions) → n ≤ 2 ^ 26 + 3 → NoneLonger (2 ^ 30 + 2 * n + units) p → NoneLonger (2 ^ 31 - 2 ^ 28 - 2 + units) p
roomy_tables n units p le f = more_places (2 ^ 30 + 2 * n + units) (2 ^ 31 - 2 ^ 28 - 2 + units) p (omega (arith, le)) f

-- no more text is used than the limit
used_led : (j : Job) (s : Start) (limits : Bounds) (turns : List (Option Happening)) (c : Config) → IsWithinStream limits → Leads j.setting j.bytes (first j s limits) turns c → c.meter.used.text ≤ 2 ^ 28
used_led j s limits turns c within l =
    let k : Within limits c.meter = leads_kept j.setting j.bytes limits (first j s limits) c turns (record { same = refl; kept = record { events = omega arith; text = omega arith; depth = omega arith } }) l in
    omega (arith, k.kept.text, within.text, text_limit)

abbrev start_tag_of : Option ElementGrammar → List Learnable
start_tag_of None = []
start_tag_of (Some g) = g.start_tag

abbrev content_of : Option ElementGrammar → List Learnable
content_of None = []
content_of (Some g) = g.content

grammar_few : (n : ℕ) (gs : List ElementGrammar) (number : ℕ) (g : ElementGrammar) → All (FewLearned n) gs → slice_get gs number ≡ Some g → FewLearned n g
grammar_few n gs number g all e = subst (FewLearned n) (get_or_from_slice_get gs number g g e) (all number g (slice_get_within gs number g e))

start_few : (n : ℕ) (gs : List ElementGrammar) (number : ℕ) (o : Option ElementGrammar) → slice_get gs number ≡ o → All (FewLearned n) gs → n ≤ 2 ^ 26 + 3 → length (start_tag_of o) < 2 ^ 31
start_few n gs number None e all le = omega arith
start_few n gs number (Some g) e all le = omega (arith, (grammar_few n gs number g all e).start_tag, le)

content_few : (n : ℕ) (gs : List ElementGrammar) (number : ℕ) (o : Option ElementGrammar) → slice_get gs number ≡ o → All (FewLearned n) gs → n ≤ 2 ^ 26 + 3 → length (content_of o) < 2 ^ 31
content_few n gs number None e all le = omega arith
content_few n gs number (Some g) e all le = omega (arith, (grammar_few n gs number g all e).content, le)

few_in : (n : ℕ) (l : Learning) → FewGrammars n l → n ≤ 2 ^ 26 + 3 → (r : Room) → length (learned_in l r) < 2 ^ 31
few_in n l f le (room.StartTag number) = start_few n l.grammars number (slice_get l.grammars number) refl f.each le
few_in n l f le (room.Content number) = content_few n l.grammars number (slice_get l.grammars number) refl f.each le
few_in n l f le room.Fragment = omega (arith, f.fragment, le)

-- ---- what stands
-- a grammar of the schema, and its empty form, have numbers of 32 bits
has_form : (g : Setting) → IsSetting g → (grammar number : ℕ) → g.schema.known ≡ true → IsStateOf g grammar number → grammar + 1 < 2 ^ 32
has_form g setting grammar number is_known h = let n = grammars_stand g setting.book setting.schema is_known in omega (arith, h.grammar_is, n.0, setting.schema.small.grammars)

state_there : (g : Setting) → IsSetting g → (l : Learning) (name : NameId) (s : State) → IsStateOfName g l name s → IsThereIn g l s
state_there g setting l name (state.BuiltIn (room.StartTag number)) h = slice_get_within l.grammars number h.grammar h.stands
state_there g setting l name (state.BuiltIn (room.Content number)) h = slice_get_within l.grammars number h.grammar h.stands
state_there g setting l name (state.BuiltIn room.Fragment) h = absurd h
state_there g setting l name (state.Informed grammar number empty) h = (h.there, has_form g setting grammar number h.known h.there)

elements_there : (g : Setting) → IsSetting g → (p : Partitions) (l : Learning) (es : List Element) → All (IsSoundElement g p l) es → AreThere g l es
elements_there g setting p l [] all = tt
elements_there g setting p l (e ∷ es) all = state_there g setting l e.name e.state (All-head (IsSoundElement g p l) e es all).state

some_is : {X : Type 0} (x y : X) → Some x ≡ Some y → x ≡ y
some_is x y e = cc

none_is : {X : Type 0} {P : Type 0} (x : X) → None ≡ Some x → P
none_is x e = absurd cc

outer_learns : (l : Learning) (o : Outer) (r : Room) → outer_room o ≡ Some r → IsRoom l r
outer_learns l (outer.Book grammar number) r e = absurd cc
outer_learns l outer.FragmentStart r e = absurd cc
outer_learns l outer.FragmentContent r e = subst (IsRoom l) (some_is room.Fragment r e) tt
outer_learns l outer.AloneStart r e = absurd cc
outer_learns l outer.AloneFirst r e = subst (IsRoom l) (some_is room.Fragment r e) tt
outer_learns l outer.AloneOver r e = subst (IsRoom l) (some_is room.Fragment r e) tt
outer_learns l outer.Ended r e = absurd cc

state_learns : (g : Setting) (l : Learning) (s : State) (r : Room) → IsThereIn g l s → state_room s ≡ Some r → IsRoom l r
state_learns g l (state.BuiltIn q) r h e = subst (IsRoom l) (some_is q r e) h
state_learns g l (state.Informed grammar number empty) r h e = absurd cc

rooms_in : (g : Setting) (l : Learning) (es : List Element) (o : Outer) → AreThere g l es → (r : Room) → room_in es o ≡ Some r → IsRoom l r
rooms_in g l [] o h r e = outer_learns l o r e
rooms_in g l (x ∷ es) o h r e = state_learns g l x.state r h e

below_three : (n : ℕ) → (n ≡ 0) ⊎ (n ≡ 1) ⊎ (n ≡ 2) → n < 3
below_three n (inl e) = omega (arith, e)
below_three n (inr (inl e)) = omega (arith, e)
below_three n (inr (inr e)) = omega (arith, e)

below_two : (n : ℕ) → (n ≡ 0) ⊎ (n ≡ 1) → n < 2
below_two n (inl e) = omega (arith, e)
below_two n (inr e) = omega (arith, e)

document_there : (g : Setting) → IsSetting g → (number : ℕ) → (number ≡ 0) ⊎ (number ≡ 1) ⊎ (number ≡ 2) → IsStateOf g 0 number
document_there g setting number n = let d = documents_lead g setting.book setting.schema in record { grammar_is = d.there; state_is = omega (arith, d.count, below_three number n) }

fragment_there : (g : Setting) → IsSetting g → g.schema.known ≡ true → (number : ℕ) → number < 2 → IsStateOf g 1 number
fragment_there g setting is_known number n = let f = fragments_lead g setting.book setting.schema is_known in record { grammar_is = f.there; state_is = omega (arith, f.count, n) }

book_there : (g : Setting) → IsSetting g → (grammar number : ℕ) → IsOuter g (outer.Book grammar number) → IsStateOf g grammar number
book_there g setting zero number h = document_there g setting number h
book_there g setting (suc grammar) number h = subst (λ (z : ℕ). IsStateOf g (suc z) number) (sym h.0) (fragment_there g setting h.1 number (below_two number h.2))

outer_there : (g : Setting) → IsSetting g → (o : Outer) → IsOuter g o → IsThere g o
outer_there g setting (outer.Book grammar number) h = book_there g setting grammar number h
outer_there g setting outer.FragmentStart h = tt
outer_there g setting outer.FragmentContent h = tt
outer_there g setting outer.AloneStart h = tt
outer_there g setting outer.AloneFirst h = λ is_known. fragment_there g setting is_known 1 (omega arith)
outer_there g setting outer.AloneOver h = λ is_known. fragment_there g setting is_known 1 (omega arith)
outer_there g setting outer.Ended h = tt

-- ---- levels
level_open : (es : List Element) (o : Outer) → has_level es o ≡ true → 1 ≤ levels_in es o
level_open es o h = let e = levels_closed es o h in omega (arith, e)

aside_levels : (g : Setting) (bs : List Body) → All (IsSoundAside g) bs → bs ≢ [] → 1 ≤ levels_aside bs
aside_levels g [] all some = absurd (some refl)
aside_levels g (b ∷ bs) all some =
    let s : IsSoundAside g b = All-head (IsSoundAside g) b bs all in
    omega (arith, level_open b.elements b.outer s.level)

-- ---- names
name_there : (p : Partitions) (id : NameId) → IsLeastName p id → IsName p id
name_there p id h = record {
  within_uris = slice_get_within (uris p) id.uri h.uri h.least_uri.found;
  within_locals = slice_get_within (locals p id.uri) id.local h.local h.least_local.found;
}

pub open_name : (g : Setting) (p : Partitions) (l : Learning) (es : List Element) → All (IsSoundElement g p l) es → es ≢ [] → IsName p (innermost es)
open_name g p l [] all some = absurd (some refl)
open_name g p l (e ∷ es) all some = name_there p e.name (All-head (IsSoundElement g p l) e es all).name

telling_there : (p : Partitions) (t : Telling) → FitsTelling p t → StandsIn p t
telling_there p spelled h = tt
telling_there p (under uri) h = slice_get_within (uris p) uri h.0 h.1.found
telling_there p (known id) h = name_there p id h

-- the names that a production needs
names_fit : (g : Setting) (c : Config) (t : Terminal) (to : ℕ) → IsSound g c → FitsIn g c.tables c.outer c.elements t to → HasNames c t
names_fit g c (element t) to s h = telling_there c.tables t (element_tells g c.tables c.outer c.elements t to h)
names_fit g c (attribute t v) to s h = telling_there c.tables t (attribute_tells g c.tables c.outer c.elements t v to h)
names_fit g c (characters d) to s h = open_name g c.tables c.learned c.elements s.body.elements (inside_only g c.tables c.outer (characters d) to (characters_outside c.tables c.outer d to) c.elements h)
names_fit g c start_document to s h = tt
names_fit g c end_document to s h = tt
names_fit g c end_element to s h = tt
names_fit g c declaration to s h = tt
names_fit g c self_contained to s h = tt
names_fit g c comment to s h = tt
names_fit g c instruction to s h = tt
names_fit g c document_type to s h = tt
names_fit g c entity to s h = tt

-- ---- all of it
pub steady : (j : Job) (s : Start) (limits : Bounds) (turns : List (Option Happening)) (c : Config) → IsWithinStream limits → IsSetting j.setting → IsStart j.setting.schema.names → Leads j.setting j.bytes (first j s limits) turns c → IsSteady (record { setting = j.setting; bytes = j.bytes; config = c })
steady j s limits turns c within setting names l =
    let sound : IsSound j.setting c = reached_are_sound j s limits turns c setting names l in
    let few : Few (length turns) c = few_after_turns j s limits turns c names l in
    let count : length turns ≤ 2 ^ 26 + 3 = few_led j s limits turns c within l in
    let there : AreThere j.setting c.learned c.elements = elements_there j.setting setting c.tables c.learned c.elements sound.body.elements in
    record {
      there = outer_there j.setting setting c.outer sound.body.outer_is;
      elements = there;
      room = record {
        few = few_tables (length turns) c.meter.used.text c.tables count (used_led j s limits turns c within l) few.tables;
        roomy = roomy_tables (length turns) c.meter.used.text c.tables count few.tables;
        learns = record { there = rooms_in j.setting c.learned c.elements c.outer there; few = few_in (length turns) c.learned few.learned count };
        grammars = omega (arith, few.learned.grammars, count);
      };
      levels = record {
        aside = λ some. omega (arith, sound.level, aside_levels j.setting c.aside sound.aside some);
        inside = λ h. omega (arith, sound.level, level_open c.elements c.outer h);
      };
      names = λ r t e. names_fit j.setting c r.on r.to sound (codes_fit j.setting j.bytes c r t setting names sound e).0;
    }
