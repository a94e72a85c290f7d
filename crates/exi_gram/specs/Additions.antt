-- The productions of a schema's grammars with their codes (EXI 1.0, sections 8.5.4.3 and 8.5.4.4): those of the normal grammar,
-- and what is added to them for what the schema does not describe, or where it is kept to strictly.
use Rattle.std.specs.Prelude.{ℕ, suc, ◌+◌, ◌==◌, ◌||◌, not, Bool, true, false, List, [], ◌∷◌, ◌++◌, length, map, filter, get_or, drop, if◌then◌else◌}
use Rattle.std.specs.List.{flat_map}
use Rattle.exi_gram.specs.declared.class.Class.{Class}
use Rattle.exi_gram.specs.declared.class.Class.TheVariants as class
use Rattle.exi_gram.specs.Candidates.{class_of, same_class}
use Rattle.exi_gram.specs.Codes.{Productions, Second, group, single}
use Rattle.exi_gram.specs.Orders.{in_order, rank, rule_before}
use Rattle.exi_gram.specs.Outlines.{Outline}
use Rattle.exi_gram.specs.Reaching.{is_among, reached}
use Rattle.exi_gram.specs.Terminals.{Rule, Rules, Symbol, sd, ed, se, se_in, se_any, at, at_in, at_any, at_text, at_any_text, xsi_type, xsi_nil, ch, ch_text, ee, ns, sc, er, cm, pi, dt}
use Rattle.exi_gram.specs.Wholes.{document, fragment, plain}

abbrev pub is_of : Class → Rule → Bool
is_of class r = same_class (class_of r.on) class

abbrev pub has_class : Class → List Rule → Bool
has_class class [] = false
has_class class (r ∷ rs) = is_of class r || has_class class rs

-- ---- codes of one part
abbrev pub has_first_code : Rule → Bool
has_first_code r = not (rank r.on == 8)

abbrev pub firsts_of : List Rule → List Rule
firsts_of state = in_order rule_before (filter has_first_code state)

-- ---- kept to strictly: xsi:type and xsi:nil where a grammar has them
abbrev pub is_of_instance : Rule → Bool
is_of_instance r = is_of class.XsiType r || is_of class.XsiNil r

abbrev pub strict_state : List Rule → Productions Rule
strict_state state = record { firsts = firsts_of state; seconds = map single (filter is_of_instance state) }

-- ---- and not: the states in which attributes may stand
-- where attributes alone lead
abbrev pub is_attribute : Rule → Bool
is_attribute r = is_of class.At r || (is_of class.AtIn r || is_of class.AtAny r)

abbrev pub attributes_from : Rules → ℕ → List ℕ
attributes_from g state = map (λ r. r.to) (filter is_attribute (get_or g.states state []))

abbrev pub rule_count : List (List Rule) → ℕ
rule_count [] = 0
rule_count (state ∷ states) = length state + rule_count states

-- the start state and those to which attributes alone lead from it
abbrev pub attribute_states : Rules → List ℕ
attribute_states g = reached (attributes_from g) (suc (rule_count g.states)) [] (0 ∷ [])

-- these and the state of the content
abbrev pub is_early : Rules → List ℕ → ℕ → Bool
is_early g reached state = is_among state reached || state == g.content

-- ---- what is added
-- the end of the element, where it may not stand already
abbrev pub end_added : ℕ → List Rule → List (Second Rule)
end_added state firsts = if has_class class.Ee firsts then [] else single (plain ee state) ∷ []

-- the attributes of a name again with an untyped value, which lead where the typed ones do, and those of any name
abbrev pub untyped_on : Symbol → List Symbol
untyped_on (at name representation) = at_text name ∷ []
untyped_on sd = []
untyped_on ed = []
untyped_on (se name) = []
untyped_on (se_in uri) = []
untyped_on se_any = []
untyped_on (at_in uri) = []
untyped_on at_any = []
untyped_on (at_text name) = []
untyped_on at_any_text = []
untyped_on xsi_type = []
untyped_on xsi_nil = []
untyped_on (ch representation) = []
untyped_on ch_text = []
untyped_on ee = []
untyped_on ns = []
untyped_on sc = []
untyped_on er = []
untyped_on cm = []
untyped_on pi = []
untyped_on dt = []

abbrev pub untyped_of : Rule → List Rule
untyped_of r = map (λ on. plain on r.to) (untyped_on r.on)

abbrev pub untyped : ℕ → List Rule → Second Rule
untyped state firsts = group (flat_map untyped_of firsts ++ plain at_any_text state ∷ [])

-- what stands in a content, and leads to this state
abbrev pub content_added : ℕ → List (Second Rule)
content_added to = single (plain se_any to) ∷ single (plain ch_text to) ∷ single (plain er to) ∷ group (plain cm to ∷ plain pi to ∷ []) ∷ []

-- to the start state, with the place of the content's copy
abbrev pub start_added : ℕ → ℕ → List Rule → List (Second Rule)
start_added state copy firsts = end_added state firsts ++ single (plain xsi_type state) ∷ single (plain xsi_nil state) ∷ single (plain at_any state) ∷ untyped state firsts ∷ single (plain ns state) ∷ single (plain sc state) ∷ content_added copy

-- to the other states in which attributes may stand
abbrev pub early_added : ℕ → ℕ → List Rule → List (Second Rule)
early_added state copy firsts = end_added state firsts ++ single (plain at_any state) ∷ untyped state firsts ∷ content_added copy

-- to all others
abbrev pub later_added : ℕ → List Rule → List (Second Rule)
later_added state firsts = end_added state firsts ++ content_added state

-- ---- a grammar
abbrev pub start_state : ℕ → List Rule → Productions Rule
start_state copy firsts = record { firsts = firsts; seconds = start_added 0 copy firsts }

abbrev pub early_state : ℕ → ℕ → List Rule → Productions Rule
early_state state copy firsts = record { firsts = firsts; seconds = early_added state copy firsts }

abbrev pub later_state : ℕ → List Rule → Productions Rule
later_state state firsts = record { firsts = firsts; seconds = later_added state firsts }

abbrev pub loose_state : Rules → List ℕ → ℕ → List Rule → Productions Rule
loose_state g reached state firsts =
    if state == 0 then start_state (length g.states) firsts else
    if is_early g reached state then early_state state (length g.states) firsts else
    later_state state firsts

abbrev pub loose_from : Rules → List ℕ → ℕ → List (List Rule) → List (Productions Rule)
loose_from g reached state [] = []
loose_from g reached state (rs ∷ states) = loose_state g reached state (firsts_of rs) ∷ loose_from g reached (suc state) states

-- the end of an element leads nowhere: it is told as its own state
abbrev pub at_copy : ℕ → Rule → Rule
at_copy copy r = if is_of class.Ee r then plain ee copy else r

-- the copy of the content's state, which stands last
abbrev pub content_copy : Rules → Productions Rule
content_copy g = later_state (length g.states) (map (at_copy (length g.states)) (firsts_of (get_or g.states g.content [])))

abbrev pub loose_states : Rules → List (Productions Rule)
loose_states g = loose_from g (attribute_states g) 0 g.states ++ content_copy g ∷ []

abbrev pub part_states : Bool → Rules → List (Productions Rule)
part_states strict g = if strict then map strict_state g.states else loose_states g

-- ---- all grammars of a schema: Document and Fragment, of the elements that it declares, and those of elements and types
abbrev pub made_states : Bool → Outline → List (List (Productions Rule))
made_states strict o = by_schema o.known
  where
    by_schema : Bool → List (List (Productions Rule))
    by_schema false = document [] ∷ []
    by_schema true = document (map (λ e. (e.name, e.full)) o.globals) ∷ fragment o.fragment ∷ map (part_states strict) (drop 2 o.grammars)
