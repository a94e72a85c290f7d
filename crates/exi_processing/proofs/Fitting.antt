-- What a code can tell in a sound configuration: which terminals fit each state, and of which names.
use Rattle.std.proofs.Common.{◌≡◌, ◌≢◌, ◌⊎◌, ℕ, zero, suc, Bool, true, false, List, [], ◌∷◌, ◌++◌, get_or, Option, Some, None, inl, inr, refl, sym, subst}
use Rattle.std.specs.Prelude.{All, slice_get, if◌then◌else◌}
use Rattle.std.proofs.lemmas.List.Elements.{All-append, All-from_recursion, All-head, All-nil, All-weaker}
use Rattle.std.proofs.lemmas.Option.{slice_get-get_or}
use Rattle.exi_builtin.specs.declared.learnable.Learnable.{Learnable}
use Rattle.exi_builtin.specs.declared.learnable.Learnable.TheVariants as learnable
use Rattle.exi_builtin.specs.declared.learnable.Room.{Room}
use Rattle.exi_builtin.specs.declared.learnable.Room.TheVariants as room
use Rattle.exi_builtin.specs.BuiltIn.{BuiltInRule, element_content, fragment_content, is_kept, left_of, start_tag_content}
use Rattle.exi_builtin.specs.declared.element_grammar.ElementGrammar.{ElementGrammar}
use Rattle.exi_builtin.specs.Learning.{Learning, behind_learned, productions, rule_in, rules}
use Rattle.exi_builtin.proofs.Rules.{rules_are}
use Rattle.exi_gram.specs.declared.named.Named.{Named as Places}
use Rattle.exi_gram.specs.declared.named.Named.TheVariants as places
use Rattle.exi_gram.specs.declared.options.Options.{Options}
use Rattle.exi_gram.specs.Books.{state_at}
use Rattle.exi_gram.specs.Codes.{Productions, Second, group, single}
use Rattle.exi_gram.specs.Naming.{Entry}
use Rattle.exi_gram.specs.Schemas.{IsInner}
use Rattle.exi_gram.specs.Switches.{align_of}
use Rattle.exi_gram.specs.Terminals.{Symbol}
use Rattle.exi_gram.specs.Terminals as symbol
use Rattle.exi_gram.proofs.CodeTells.{Each, EachOf, code_is, each_mapped, each_pruned}
use Rattle.exi_names.specs.StartTables.{IsStart}
use Rattle.exi_names.specs.declared.names.NameId.{NameId}
use Rattle.exi_names.specs.declared.names.QName.{QName}
use Rattle.exi_tables.specs.Growth.{KeepsAll}
use Rattle.exi_tables.specs.Partitions.{Partitions, uris}
use Rattle.exi_typed.proofs.Standing.{keeps_least}
use Rattle.exi_ways.specs.Ways.{IsBare, IsDocumentContent, IsDocumentEnd, IsFragmentContent, IsOpening, IsWayIn, IsWholeStart, OfEach, Tells, TellsName, TellsUri}
use Rattle.exi_ways.proofs.Lists.{at_place, each_weaker}
use Rattle.exi_ways.proofs.Parts.{parts_lead}
use Rattle.exi_ways.proofs.Wholes.{documents_lead, fragments_lead}
use Rattle.exi_processing.specs.Configurations.{IsSetting, Setting, built_in, element_rules, first_tables, in_book, outer_rules, rules_in, rules_of, spot_in}
use Rattle.exi_processing.specs.Rules.{Rule, book_rule, built_in_rule, built_in_terminal, fragment_start, nil_name, telling_in, terminal_of, type_name}
use Rattle.exi_processing.specs.Sound.{CodesFit, FitsContent, FitsDocument, FitsIn, FitsInside, FitsOutside, FitsStart, FitsTelling, IsElementOfName, IsLeastName, IsOfNames, IsOuter, IsSoundBody, IsSoundElement, IsSoundGrammar, IsSoundLearning, IsStateOfName, LeadsInForm}
use Rattle.exi_processing.specs.declared.frames.Element.{Element}
use Rattle.exi_processing.specs.declared.frames.Outer.{Outer}
use Rattle.exi_processing.specs.declared.frames.Outer.TheVariants as outer
use Rattle.exi_processing.specs.declared.frames.State.{State}
use Rattle.exi_processing.specs.declared.frames.State.TheVariants as state
use Rattle.exi_processing.proofs.FirstNames.{first_name, first_nil, first_type, first_uri}
use Rattle.exi_processing.proofs.Standing.{name_on}

-- ---- with what was learned in front
pub each_behind : {X : Type 0} (P : X → Type 0) (p : Productions X) (front : List X) → All P front → Each P p → Each P (record p { firsts = front ++ p.firsts })
each_behind P p front h e = record { firsts = All-append P front p.firsts h e.firsts; seconds = e.seconds }

-- what holds of each production that a code can tell
each_second : {X : Type 0} (P : X → Type 0) (p : Productions X) → OfEach P p → (place : ℕ) (y : Second X) → slice_get p.seconds place ≡ Some y → EachOf P y
each_second P p h place (single x) e = h x (inr (place, single x, e, refl))
each_second P p h place (group ys) e = λ k d less. h (get_or ys k d) (inr (place, group ys, e, (k, slice_get-get_or ys k d less)))

pub each_of : {X : Type 0} (P : X → Type 0) (p : Productions X) → OfEach P p → Each P p
each_of P p h = record {
  firsts = λ k d less. h (get_or p.firsts k d) (inl (k, slice_get-get_or p.firsts k d less));
  seconds = λ k d less. each_second P p h k (get_or p.seconds k d) (slice_get-get_or p.seconds k d less);
}

-- ---- an element's states
-- what a rule has to be where an element is open
abbrev Inside : Setting → Partitions → State → Rule → Type 0
Inside g p s r = (FitsInside p s r.on × LeadsInForm g s r.to) × IsInner g.schema r.inner

-- as a rule of a state
abbrev pub ruled : Learning → Room → Learnable → Rule
ruled l r x = built_in_rule (rule_in l r x)

abbrev InElement : Partitions → Room → Learnable → Type 0
InElement p r x = FitsInside p (state.BuiltIn r) (built_in_terminal x)

of_names_fits : (p : Partitions) (r : Room) (x : Learnable) → IsOfNames p x → InElement p r x
of_names_fits p r (learnable.Known name true) h = h
of_names_fits p r (learnable.Known name false) h = h
of_names_fits p r (learnable.Ch one_part) h = tt
of_names_fits p r (learnable.Ee one_part) h = tt
of_names_fits p r learnable.SeAny h = absurd h
of_names_fits p r learnable.AtAny h = absurd h
of_names_fits p r learnable.Ed h = absurd h
of_names_fits p r learnable.Ns h = absurd h
of_names_fits p r learnable.Sc h = absurd h
of_names_fits p r learnable.Er h = absurd h
of_names_fits p r learnable.Cm h = absurd h
of_names_fits p r learnable.Pi h = absurd h

abbrev pub start_tag_of : Option ElementGrammar → List Learnable
start_tag_of None = []
start_tag_of (Some g) = g.start_tag

abbrev pub content_of : Option ElementGrammar → List Learnable
content_of None = []
content_of (Some g) = g.content

members_fit : (p : Partitions) (r : Room) → All (InElement p r) (learnable.Cm ∷ learnable.Pi ∷ [])
members_fit p r = All-from_recursion (InElement p r) (learnable.Cm ∷ learnable.Pi ∷ []) (tt, (tt, tt))

start_tag_written : (p : Partitions) (r : Room) → Each (InElement p r) start_tag_content
start_tag_written p r = record {
  firsts = All-nil (InElement p r);
  seconds = All-from_recursion (EachOf (InElement p r)) start_tag_content.seconds (tt, (tt, (tt, (tt, (tt, (tt, (tt, (members_fit p r, tt))))))));
}

content_written : (p : Partitions) (r : Room) → Each (InElement p r) element_content
content_written p r = record {
  firsts = All-from_recursion (InElement p r) element_content.firsts (tt, tt);
  seconds = All-from_recursion (EachOf (InElement p r)) element_content.seconds (tt, (tt, (tt, (members_fit p r, tt))));
}

pub learned_start_tag : (p : Partitions) (gs : List ElementGrammar) (number : ℕ) (o : Option ElementGrammar) → slice_get gs number ≡ o → All (IsSoundGrammar p) gs → All (IsOfNames p) (start_tag_of o)
learned_start_tag p gs number None is all = All-nil (IsOfNames p)
learned_start_tag p gs number (Some g) is all = (at_place (IsSoundGrammar p) gs number g all is).start_tag

pub learned_content : (p : Partitions) (gs : List ElementGrammar) (number : ℕ) (o : Option ElementGrammar) → slice_get gs number ≡ o → All (IsSoundGrammar p) gs → All (IsOfNames p) (content_of o)
learned_content p gs number None is all = All-nil (IsOfNames p)
learned_content p gs number (Some g) is all = (at_place (IsSoundGrammar p) gs number g all is).content

-- the productions as rules
pub built_in_each : (P : Rule → Type 0) (g : Setting) (l : Learning) (r : Room) → Each (λ x. P (ruled l r x)) (productions g.options l r) → Each P (built_in g l r)
built_in_each P g l r e = each_mapped P built_in_rule (rules g.options l r) (subst (λ (z : Productions BuiltInRule). Each (λ x. P (built_in_rule x)) z) (sym (rules_are g.options l r)) (each_mapped (λ x. P (built_in_rule x)) (rule_in l r) (productions g.options l r) e))

behind_fits : (o : Options) (p : Partitions) (r : Room) (front : List Learnable) (behind : Productions Learnable) → All (IsOfNames p) front → Each (InElement p r) behind → Each (InElement p r) (behind_learned front (left_of o behind))
behind_fits o p r front behind h e = each_behind (InElement p r) (left_of o behind) front (All-weaker (IsOfNames p) (InElement p r) (of_names_fits p r) front h) (each_pruned (InElement p r) (is_kept o) behind e)

-- of a built-in state
built_in_fits : (g : Setting) (p : Partitions) (l : Learning) (r : Room) → Each (InElement p r) (productions g.options l r) → Each (Inside g p (state.BuiltIn r)) (built_in g l r)
built_in_fits g p l r e = built_in_each (Inside g p (state.BuiltIn r)) g l r (each_weaker (InElement p r) (λ x. Inside g p (state.BuiltIn r) (ruled l r x)) (λ x h. ((h, tt), tt)) (productions g.options l r) e)

-- ---- a fragment's states
abbrev Content : Setting → Partitions → Rule → Type 0
Content g p r = FitsContent p r.on r.to × IsInner g.schema r.inner

abbrev InFragment : Partitions → Learnable → Type 0
InFragment p x = FitsContent p (built_in_terminal x) 1

of_name_fits : (p : Partitions) (x : Learnable) → IsElementOfName p x → InFragment p x
of_name_fits p (learnable.Known name false) h = (refl, h)
of_name_fits p (learnable.Known name true) h = absurd h
of_name_fits p learnable.SeAny h = absurd h
of_name_fits p learnable.AtAny h = absurd h
of_name_fits p (learnable.Ch one_part) h = absurd h
of_name_fits p (learnable.Ee one_part) h = absurd h
of_name_fits p learnable.Ed h = absurd h
of_name_fits p learnable.Ns h = absurd h
of_name_fits p learnable.Sc h = absurd h
of_name_fits p learnable.Er h = absurd h
of_name_fits p learnable.Cm h = absurd h
of_name_fits p learnable.Pi h = absurd h

fragment_written : (p : Partitions) → Each (InFragment p) fragment_content
fragment_written p = record {
  firsts = All-from_recursion (InFragment p) fragment_content.firsts ((refl, tt), (tt, tt));
  seconds = All-from_recursion (EachOf (InFragment p)) fragment_content.seconds (refl, (refl, tt));
}

fragment_fits : (g : Setting) (p : Partitions) (l : Learning) → IsSoundLearning p l → Each (Content g p) (built_in g l room.Fragment)
fragment_fits g p l s =
    let each : Each (InFragment p) (productions g.options l room.Fragment) =
    each_behind (InFragment p) (left_of g.options fragment_content) l.fragment (All-weaker (IsElementOfName p) (InFragment p) (of_name_fits p) l.fragment s.fragment)
    (each_pruned (InFragment p) (is_kept g.options) fragment_content (fragment_written p)) in
    built_in_each (Content g p) g l room.Fragment (each_weaker (InFragment p) (λ x. Content g p (ruled l room.Fragment x)) (λ x h. (h, tt)) (productions g.options l room.Fragment) each)

abbrev Starts : Setting → Rule → Type 0
Starts g r = FitsStart r.on r.to × IsInner g.schema r.inner

start_fits : (g : Setting) → Each (Starts g) fragment_start
start_fits g = record { firsts = All-from_recursion (Starts g) fragment_start.firsts ((refl, tt), tt); seconds = All-nil (EachOf (Starts g)) }

-- ---- what a production of a book names
module _ (g : Setting) (start : IsStart g.schema.names) (p : Partitions) (kept : KeepsAll (first_tables g) p) where
  name_stands : (name : NameId) → IsLeastName (first_tables g) name → IsLeastName p name
  name_stands name h = name_on (first_tables g) p name kept h

  name_told : (name : QName) (told : Places) → TellsName g.schema.names name told → FitsTelling p (telling_in told)
  name_told name told h = subst (λ (z : Places). FitsTelling p (telling_in z)) (sym h.told_is) (name_stands h.place (first_name g.schema.names start g.options.most g.options.capacity name h.place h.placed))

  uri_told : (uri : List ℕ) (told : Places) → TellsUri g.schema.names uri told → FitsTelling p (telling_in told)
  uri_told uri told h = subst (λ (z : Places). FitsTelling p (telling_in z)) (sym h.told_is) (uri, keeps_least (uris (first_tables g)) (uris p) uri h.place kept.each_uri (first_uri g.schema.names start g.options.most g.options.capacity uri h.place h.placed))

  nothing_told : (told : Places) → told ≡ places.Nothing → FitsTelling p (telling_in told)
  nothing_told told e = subst (λ (z : Places). FitsTelling p (telling_in z)) (sym e) tt

  -- ---- a state of an element or type
  part_fits : (grammar number : ℕ) (empty : Bool) (on : Symbol) (told : Places) → on ≢ symbol.sd → on ≢ symbol.ed → Tells g.schema.names on told → FitsInside p (state.Informed grammar number empty) (terminal_of told on)
  part_fits grammar number empty symbol.sd told s d h = absurd (s refl)
  part_fits grammar number empty symbol.ed told s d h = absurd (d refl)
  part_fits grammar number empty (symbol.se name) told s d h = name_told name told h
  part_fits grammar number empty (symbol.se_in uri) told s d h = uri_told uri told h
  part_fits grammar number empty symbol.se_any told s d h = nothing_told told h
  part_fits grammar number empty (symbol.at name representation) told s d h = name_told name told h
  part_fits grammar number empty (symbol.at_in uri) told s d h = uri_told uri told h
  part_fits grammar number empty symbol.at_any told s d h = nothing_told told h
  part_fits grammar number empty (symbol.at_text name) told s d h = name_told name told h
  part_fits grammar number empty symbol.at_any_text told s d h = nothing_told told h
  part_fits grammar number empty symbol.xsi_type told s d h = name_stands type_name (first_type g.schema.names start g.options.most g.options.capacity)
  part_fits grammar number empty symbol.xsi_nil told s d h = name_stands nil_name (first_nil g.schema.names start g.options.most g.options.capacity)
  part_fits grammar number empty (symbol.ch representation) told s d h = tt
  part_fits grammar number empty symbol.ch_text told s d h = tt
  part_fits grammar number empty symbol.ee told s d h = tt
  part_fits grammar number empty symbol.ns told s d h = tt
  part_fits grammar number empty symbol.sc told s d h = tt
  part_fits grammar number empty symbol.er told s d h = tt
  part_fits grammar number empty symbol.cm told s d h = tt
  part_fits grammar number empty symbol.pi told s d h = tt
  part_fits grammar number empty symbol.dt told s d h = tt

  way_fits : (grammar number : ℕ) (empty : Bool) (e : Entry) → IsWayIn g grammar e → Inside g p (state.Informed grammar number empty) (book_rule e)
  way_fits grammar number empty e h = ((part_fits grammar number empty e.rule.on e.named h.no_start h.no_end h.told, h.to), h.inner)

  -- ---- Document and Fragment
  bare_inner : (to : ℕ) (e : Entry) → IsBare to e → IsInner g.schema e.rule.inner
  bare_inner to e h = subst (IsInner g.schema) (sym h.inner) tt

  opening_inner : (to : ℕ) (name : QName) (e : Entry) → IsOpening g.schema to name e → IsInner g.schema e.rule.inner
  opening_inner to name e h = subst (IsInner g.schema) (sym h.inner) h.full

  document_start : (on : Symbol) (e : Entry) → IsWholeStart on e → FitsDocument p 0 (terminal_of e.named on) e.rule.to × IsInner g.schema e.rule.inner
  document_start symbol.sd e h = ((refl, h.to), bare_inner 1 e h)
  document_start symbol.ed e h = absurd h
  document_start (symbol.se name) e h = absurd h
  document_start (symbol.se_in uri) e h = absurd h
  document_start symbol.se_any e h = absurd h
  document_start (symbol.at name representation) e h = absurd h
  document_start (symbol.at_in uri) e h = absurd h
  document_start symbol.at_any e h = absurd h
  document_start (symbol.at_text name) e h = absurd h
  document_start symbol.at_any_text e h = absurd h
  document_start symbol.xsi_type e h = absurd h
  document_start symbol.xsi_nil e h = absurd h
  document_start (symbol.ch representation) e h = absurd h
  document_start symbol.ch_text e h = absurd h
  document_start symbol.ee e h = absurd h
  document_start symbol.ns e h = absurd h
  document_start symbol.sc e h = absurd h
  document_start symbol.er e h = absurd h
  document_start symbol.cm e h = absurd h
  document_start symbol.pi e h = absurd h
  document_start symbol.dt e h = absurd h

  document_inside : (on : Symbol) (e : Entry) → IsDocumentContent g.schema on e → FitsDocument p 1 (terminal_of e.named on) e.rule.to × IsInner g.schema e.rule.inner
  document_inside symbol.sd e h = absurd h
  document_inside symbol.ed e h = absurd h
  document_inside (symbol.se name) e h = ((refl, h.to, name_told name e.named h.told), opening_inner 2 name e h)
  document_inside (symbol.se_in uri) e h = absurd h
  document_inside symbol.se_any e h = ((refl, h.to, nothing_told e.named h.named), bare_inner 2 e h)
  document_inside (symbol.at name representation) e h = absurd h
  document_inside (symbol.at_in uri) e h = absurd h
  document_inside symbol.at_any e h = absurd h
  document_inside (symbol.at_text name) e h = absurd h
  document_inside symbol.at_any_text e h = absurd h
  document_inside symbol.xsi_type e h = absurd h
  document_inside symbol.xsi_nil e h = absurd h
  document_inside (symbol.ch representation) e h = absurd h
  document_inside symbol.ch_text e h = absurd h
  document_inside symbol.ee e h = absurd h
  document_inside symbol.ns e h = absurd h
  document_inside symbol.sc e h = absurd h
  document_inside symbol.er e h = absurd h
  document_inside symbol.cm e h = (h.to, bare_inner 1 e h)
  document_inside symbol.pi e h = (h.to, bare_inner 1 e h)
  document_inside symbol.dt e h = (h.to, bare_inner 1 e h)

  document_over : (on : Symbol) (e : Entry) → IsDocumentEnd on e → FitsDocument p 2 (terminal_of e.named on) e.rule.to × IsInner g.schema e.rule.inner
  document_over symbol.sd e h = absurd h
  document_over symbol.ed e h = (refl, bare_inner 2 e h)
  document_over (symbol.se name) e h = absurd h
  document_over (symbol.se_in uri) e h = absurd h
  document_over symbol.se_any e h = absurd h
  document_over (symbol.at name representation) e h = absurd h
  document_over (symbol.at_in uri) e h = absurd h
  document_over symbol.at_any e h = absurd h
  document_over (symbol.at_text name) e h = absurd h
  document_over symbol.at_any_text e h = absurd h
  document_over symbol.xsi_type e h = absurd h
  document_over symbol.xsi_nil e h = absurd h
  document_over (symbol.ch representation) e h = absurd h
  document_over symbol.ch_text e h = absurd h
  document_over symbol.ee e h = absurd h
  document_over symbol.ns e h = absurd h
  document_over symbol.sc e h = absurd h
  document_over symbol.er e h = absurd h
  document_over symbol.cm e h = (h.to, bare_inner 2 e h)
  document_over symbol.pi e h = (h.to, bare_inner 2 e h)
  document_over symbol.dt e h = absurd h

  fragment_begins : (on : Symbol) (e : Entry) → IsWholeStart on e → FitsStart (terminal_of e.named on) e.rule.to × IsInner g.schema e.rule.inner
  fragment_begins symbol.sd e h = (h.to, bare_inner 1 e h)
  fragment_begins symbol.ed e h = absurd h
  fragment_begins (symbol.se name) e h = absurd h
  fragment_begins (symbol.se_in uri) e h = absurd h
  fragment_begins symbol.se_any e h = absurd h
  fragment_begins (symbol.at name representation) e h = absurd h
  fragment_begins (symbol.at_in uri) e h = absurd h
  fragment_begins symbol.at_any e h = absurd h
  fragment_begins (symbol.at_text name) e h = absurd h
  fragment_begins symbol.at_any_text e h = absurd h
  fragment_begins symbol.xsi_type e h = absurd h
  fragment_begins symbol.xsi_nil e h = absurd h
  fragment_begins (symbol.ch representation) e h = absurd h
  fragment_begins symbol.ch_text e h = absurd h
  fragment_begins symbol.ee e h = absurd h
  fragment_begins symbol.ns e h = absurd h
  fragment_begins symbol.sc e h = absurd h
  fragment_begins symbol.er e h = absurd h
  fragment_begins symbol.cm e h = absurd h
  fragment_begins symbol.pi e h = absurd h
  fragment_begins symbol.dt e h = absurd h

  fragment_inside : (on : Symbol) (e : Entry) → IsFragmentContent g.schema on e → FitsContent p (terminal_of e.named on) e.rule.to × IsInner g.schema e.rule.inner
  fragment_inside symbol.sd e h = absurd h
  fragment_inside symbol.ed e h = (tt, bare_inner 1 e h)
  fragment_inside (symbol.se name) e h = ((h.to, name_told name e.named h.told), opening_inner 1 name e h)
  fragment_inside (symbol.se_in uri) e h = absurd h
  fragment_inside symbol.se_any e h = ((h.to, nothing_told e.named h.named), bare_inner 1 e h)
  fragment_inside (symbol.at name representation) e h = absurd h
  fragment_inside (symbol.at_in uri) e h = absurd h
  fragment_inside symbol.at_any e h = absurd h
  fragment_inside (symbol.at_text name) e h = absurd h
  fragment_inside symbol.at_any_text e h = absurd h
  fragment_inside symbol.xsi_type e h = absurd h
  fragment_inside symbol.xsi_nil e h = absurd h
  fragment_inside (symbol.ch representation) e h = absurd h
  fragment_inside symbol.ch_text e h = absurd h
  fragment_inside symbol.ee e h = absurd h
  fragment_inside symbol.ns e h = absurd h
  fragment_inside symbol.sc e h = absurd h
  fragment_inside symbol.er e h = absurd h
  fragment_inside symbol.cm e h = (h.to, bare_inner 1 e h)
  fragment_inside symbol.pi e h = (h.to, bare_inner 1 e h)
  fragment_inside symbol.dt e h = absurd h

  -- ---- every state
  book_each : (P : Rule → Type 0) (Q : Entry → Type 0) (grammar number : ℕ) → ((e : Entry) → Q e → P (book_rule e)) → OfEach Q (state_at g grammar number) → Each P (in_book g grammar number)
  book_each P Q grammar number f h = each_mapped P book_rule (state_at g grammar number) (each_of (λ e. P (book_rule e)) (state_at g grammar number) (λ e it. f e (h e it)))

  abbrev Outside : Outer → Rule → Type 0
  Outside o r = FitsOutside p o r.on r.to × IsInner g.schema r.inner

  module _ (setting : IsSetting g) where
    element_fits : (l : Learning) (e : Element) → IsSoundLearning p l → (s : State) → IsStateOfName g l e.name s → Each (Inside g p s) (element_rules g l s)
    element_fits l e s (state.BuiltIn (room.StartTag number)) h = built_in_fits g p l (room.StartTag number) (behind_fits g.options p (room.StartTag number) (start_tag_of (slice_get l.grammars number)) start_tag_content (learned_start_tag p l.grammars number (slice_get l.grammars number) refl s.grammars) (start_tag_written p (room.StartTag number)))
    element_fits l e s (state.BuiltIn (room.Content number)) h = built_in_fits g p l (room.Content number) (behind_fits g.options p (room.Content number) (content_of (slice_get l.grammars number)) element_content (learned_content p l.grammars number (slice_get l.grammars number) refl s.grammars) (content_written p (room.Content number)))
    element_fits l e s (state.BuiltIn room.Fragment) h = absurd h
    element_fits l e s (state.Informed grammar number empty) h = book_each (Inside g p (state.Informed grammar number empty)) (IsWayIn g grammar) grammar number (way_fits grammar number empty) (parts_lead g setting.book setting.schema grammar number h.past h.there)

    document_fits : (number : ℕ) → (number ≡ 0) ⊎ (number ≡ 1) ⊎ (number ≡ 2) → Each (Outside (outer.Book 0 number)) (in_book g 0 number)
    document_fits number (inl e) = subst (λ (z : ℕ). Each (Outside (outer.Book 0 z)) (in_book g 0 z)) (sym e) (book_each (Outside (outer.Book 0 0)) (λ x. IsWholeStart x.rule.on x) 0 0 (λ x. document_start x.rule.on x) (documents_lead g setting.book setting.schema).start)
    document_fits number (inr (inl e)) = subst (λ (z : ℕ). Each (Outside (outer.Book 0 z)) (in_book g 0 z)) (sym e) (book_each (Outside (outer.Book 0 1)) (λ x. IsDocumentContent g.schema x.rule.on x) 0 1 (λ x. document_inside x.rule.on x) (documents_lead g setting.book setting.schema).content)
    document_fits number (inr (inr e)) = subst (λ (z : ℕ). Each (Outside (outer.Book 0 z)) (in_book g 0 z)) (sym e) (book_each (Outside (outer.Book 0 2)) (λ x. IsDocumentEnd x.rule.on x) 0 2 (λ x. document_over x.rule.on x) (documents_lead g setting.book setting.schema).end)

    content_fits : g.schema.known ≡ true → Each (Content g p) (in_book g 1 1)
    content_fits k = book_each (Content g p) (λ x. IsFragmentContent g.schema x.rule.on x) 1 1 (λ x. fragment_inside x.rule.on x) (fragments_lead g setting.book setting.schema k).content

    fragment_state : g.schema.known ≡ true → (number : ℕ) → (number ≡ 0) ⊎ (number ≡ 1) → Each (Outside (outer.Book 1 number)) (in_book g 1 number)
    fragment_state k number (inl e) = subst (λ (z : ℕ). Each (Outside (outer.Book 1 z)) (in_book g 1 z)) (sym e) (book_each (Starts g) (λ x. IsWholeStart x.rule.on x) 1 0 (λ x. fragment_begins x.rule.on x) (fragments_lead g setting.book setting.schema k).start)
    fragment_state k number (inr e) = subst (λ (z : ℕ). Each (Outside (outer.Book 1 z)) (in_book g 1 z)) (sym e) (content_fits k)

    book_fits : (grammar number : ℕ) → IsOuter g (outer.Book grammar number) → Each (Outside (outer.Book grammar number)) (in_book g grammar number)
    book_fits zero number h = document_fits number h
    book_fits (suc grammar) number h = subst (λ (z : ℕ). Each (Outside (outer.Book (suc z) number)) (in_book g (suc z) number)) (sym h.0) (fragment_state h.1 number h.2)

    alone_fits : (l : Learning) (b : Bool) → g.schema.known ≡ b → IsSoundLearning p l → Each (Content g p) (if b then in_book g 1 1 else built_in g l room.Fragment)
    alone_fits l true k s = content_fits k
    alone_fits l false k s = fragment_fits g p l s

    outer_fits : (l : Learning) → IsSoundLearning p l → (o : Outer) → IsOuter g o → Each (Outside o) (outer_rules g l o)
    outer_fits l s (outer.Book grammar number) h = book_fits grammar number h
    outer_fits l s outer.FragmentStart h = start_fits g
    outer_fits l s outer.FragmentContent h = fragment_fits g p l s
    outer_fits l s outer.AloneStart h = start_fits g
    outer_fits l s outer.AloneFirst h = alone_fits l g.schema.known refl s
    outer_fits l s outer.AloneOver h = alone_fits l g.schema.known refl s
    outer_fits l s outer.Ended h = record { firsts = All-nil (Outside outer.Ended); seconds = All-nil (EachOf (Outside outer.Ended)) }

abbrev pub Fits : Setting → Partitions → Outer → List Element → Rule → Type 0
Fits g p o es r = FitsIn g p o es r.on r.to × IsInner g.schema r.inner

pub state_fits : (g : Setting) (p : Partitions) (l : Learning) → IsSetting g → IsStart g.schema.names → (es : List Element) (o : Outer) → IsSoundBody g p l es o → Each (Fits g p o es) (rules_in g l es o)
state_fits g p l setting start [] o s = outer_fits g start p s.kept setting l s.learned o s.outer_is
state_fits g p l setting start (e ∷ es) o s = element_fits g start p s.kept setting l e s.learned e.state (All-head (IsSoundElement g p l) e es s.elements).state

pub codes_fit : CodesFit
codes_fit g bytes c r t setting start s h = code_is (Fits g c.tables c.outer c.elements) (rules_of g c) (state_fits g c.tables c.learned setting start c.elements c.outer s.body) (align_of g.options) (spot_in bytes c) t r h
