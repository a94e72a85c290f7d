-- How built-in grammars learn from what is used (EXI 1.0, sections 8.4.2 and 8.4.3). A production that is
-- learned gets the code 0 of one part, and the first parts of all others rise by one.
use Rattle.std.specs.Prelude.{ℕ, zero, suc, ◌<◌, ◌≡◌, Bool, true, false, ◌&&◌, Option, Some, None, List, [], ◌∷◌, ◌++◌, length, map, position, slice_get, unwrap_or, if◌then◌else◌}
use Rattle.exi_names.specs.declared.names.NameId.{NameId}
use Rattle.exi_gram.specs.declared.options.Options.{Options}
use Rattle.exi_gram.specs.Codes.{Productions, mapped, pruned}
use Rattle.exi_builtin.specs.declared.element_grammar.ElementGrammar.{ElementGrammar}
use Rattle.exi_builtin.specs.declared.learnable.Learnable.{Learnable}
use Rattle.exi_builtin.specs.declared.learnable.Learned.{Learned}
use Rattle.exi_builtin.specs.declared.learnable.Room.{Room}
use Rattle.exi_builtin.specs.declared.learnable.Room.TheVariants as room
use Rattle.exi_builtin.specs.declared.learnable.Learnable.TheVariants as learnable
use Rattle.exi_builtin.specs.BuiltIn.{BuiltInRule, is_kept, left_of, written, written_rules}
pub use Rattle.exi_names.specs.NameMaps.{same_name}
pub use Rattle.exi_builtin.specs.Uses.{added_by, is_type, stands_already}

-- what one body or fragment has learned: the grammars of its elements, in the order in which they were made, each
-- with its element's name and what its two states learned, the latest first; and what FragmentContent learned, the
-- latest first
pub record Learning : Type 0 where
  pub grammars : List ElementGrammar
  pub fragment : List Learnable

-- nothing
abbrev pub nothing_learned : Learning
nothing_learned = record { grammars = []; fragment = [] }

-- ---- the grammar of a name
-- the place of a name's grammar, where there is one
abbrev pub grammar_place : Learning → NameId → Option ℕ
grammar_place l name = position (λ (g : ElementGrammar). same_name g.name name) l.grammars

abbrev pub new_grammar : NameId → ElementGrammar
new_grammar name = record { name = name; start_tag = []; content = [] }

-- its place, made at the end where it is new
abbrev pub grammar_number : Learning → NameId → ℕ
grammar_number l name = unwrap_or (grammar_place l name) (length l.grammars)

abbrev with_grammar_unless : Learning → NameId → Option ℕ → Learning
with_grammar_unless l name (Some place) = l
with_grammar_unless l name None = record l { grammars = l.grammars ++ new_grammar name ∷ [] }

abbrev pub with_grammar : Learning → NameId → Learning
with_grammar l name = with_grammar_unless l name (grammar_place l name)

-- ---- the productions of a state
abbrev pub start_tag_of : Option ElementGrammar → List Learnable
start_tag_of None = []
start_tag_of (Some g) = g.start_tag

abbrev pub content_of : Option ElementGrammar → List Learnable
content_of None = []
content_of (Some g) = g.content

-- what a state has learned, the latest first
abbrev pub learned_in : Learning → Room → List Learnable
learned_in l (room.StartTag number) = start_tag_of (slice_get l.grammars number)
learned_in l (room.Content number) = content_of (slice_get l.grammars number)
learned_in l room.Fragment = l.fragment

-- what was learned stands in front
abbrev pub behind_learned : {X : Type 0} → List X → Productions X → Productions X
behind_learned front p = record p { firsts = front ++ p.firsts }

-- the productions of a state under the options. No option switches off what can be learned
abbrev pub productions : Options → Learning → Room → Productions Learnable
productions o l r = behind_learned (learned_in l r) (left_of o (written r))

-- ---- where they lead
-- the place of the state behind a production: an attribute or a declaration stays in the start tag, and all else leads to
-- the content
abbrev stays : Learnable → Bool
stays (learnable.Known name attribute) = attribute
stays learnable.SeAny = false
stays learnable.AtAny = true
stays (learnable.Ch one_part) = false
stays (learnable.Ee one_part) = false
stays learnable.Ed = false
stays learnable.Ns = true
stays learnable.Sc = false
stays learnable.Er = false
stays learnable.Cm = false
stays learnable.Pi = false

abbrev in_start_tag : Room → Bool
in_start_tag (room.StartTag number) = true
in_start_tag (room.Content number) = false
in_start_tag room.Fragment = false

abbrev pub state_behind : Room → Learnable → ℕ
state_behind r x = if in_start_tag r && stays x then 0 else 1

-- the place of the grammar that an element of a known name opens, where one was made
abbrev pub opened_by : Learning → Learnable → Option ℕ
opened_by l (learnable.Known name true) = None
opened_by l (learnable.Known name false) = grammar_place l name
opened_by l learnable.SeAny = None
opened_by l learnable.AtAny = None
opened_by l (learnable.Ch one_part) = None
opened_by l (learnable.Ee one_part) = None
opened_by l learnable.Ed = None
opened_by l learnable.Ns = None
opened_by l learnable.Sc = None
opened_by l learnable.Er = None
opened_by l learnable.Cm = None
opened_by l learnable.Pi = None

abbrev pub rule_in : Learning → Room → Learnable → BuiltInRule
rule_in l r x = record { on = x; to = state_behind r x; inner = opened_by l x }

-- the productions of a state as rules: what was learned in front, and the written ones that the options leave
abbrev pub rules : Options → Learning → Room → Productions BuiltInRule
rules o l r = behind_learned (map (rule_in l r) (learned_in l r)) (pruned (λ x. is_kept o x.on) (written_rules r))

-- the rules are those of the productions, in their places
abbrev pub RulesAreProductions : Type 0
RulesAreProductions = (o : Options) (l : Learning) (r : Room) → rules o l r ≡ mapped (rule_in l r) (productions o l r)

-- ---- learning
-- the grammar at a place changed
abbrev pub changed_at : List ElementGrammar → ℕ → (ElementGrammar → ElementGrammar) → List ElementGrammar
changed_at [] place change = []
changed_at (g ∷ gs) zero change = change g ∷ gs
changed_at (g ∷ gs) (suc place) change = g ∷ changed_at gs place change

-- a production in front of those of a state
abbrev pub in_front : Learning → Room → Learnable → Learning
in_front l (room.StartTag number) x = record l { grammars = changed_at l.grammars number (λ g. record g { start_tag = x ∷ g.start_tag }) }
in_front l (room.Content number) x = record l { grammars = changed_at l.grammars number (λ g. record g { content = x ∷ g.content }) }
in_front l room.Fragment x = record l { fragment = x ∷ l.fragment }

-- whether a use adds a production to a state
abbrev pub is_new : Learning → Room → Learned → Bool
is_new l r used = if stands_already used (learned_in l r ++ (written r).firsts) then false else true

-- what is learned by a use in a state
abbrev pub after_use : Learning → Room → Learned → Learning
after_use l r used = if is_new l r used then in_front l r (added_by used) else l

-- the state is one of a grammar that was made
abbrev pub IsRoom : Learning → Room → Type 0
IsRoom l (room.StartTag number) = number < length l.grammars
IsRoom l (room.Content number) = number < length l.grammars
IsRoom l room.Fragment = Unit {0}
