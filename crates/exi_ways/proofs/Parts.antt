-- The grammars of elements and types in a book: the states that they have, and where their productions lead.
use Rattle.std.proofs.Common.{◌≡◌, ◌≢◌, inl, inr, ℕ, zero, suc, ◌<◌, ◌≤◌, Bool, true, List, [], ◌∷◌, length, map, drop, get_or, None, All, refl, sym, ap, ◌∙◌, subst, arith}
use Rattle.std.proofs.lemmas.Bool.{cases_Bool}
use Rattle.std.proofs.lemmas.List.{length-map}
use Rattle.std.proofs.lemmas.List.Elements.{All-drop, All-map, All-weaker}
use Rattle.exi_gram.specs.declared.options.Options.{Options}
use Rattle.exi_gram.specs.Additions.{made_states, part_states}
use Rattle.exi_gram.specs.Books.{Contents, IsBook, IsStateOf, is_kept, placed_in, state_at, state_of, states_in}
use Rattle.exi_gram.specs.Codes.{Productions}
use Rattle.exi_gram.specs.Naming.{Entry, entry_of, named_in}
use Rattle.exi_gram.specs.Outlines.{Outline}
use Rattle.exi_gram.specs.Schemas.{AllIn, IsInner, IsOfPart, IsSchema, LeadsWithin, Opens}
use Rattle.exi_gram.specs.Switches.{strict}
use Rattle.exi_gram.specs.Tables.{no_productions}
use Rattle.exi_gram.specs.Terminals.{Rule, Rules}
use Rattle.exi_gram.specs.Wholes.{document, fragment}
use Rattle.exi_gram.proofs.CodeTells.{Each, each_mapped, each_pruned}
use Rattle.exi_gram.proofs.Plain.{plain_book}
use Rattle.exi_ways.specs.Laws.{PartsLead}
use Rattle.exi_ways.specs.Ways.{IsWayIn, Tells}
use Rattle.exi_ways.proofs.Entries.{symbol_told, told_back}
use Rattle.exi_ways.proofs.Lists.{each_weaker, of_each}
use Rattle.exi_ways.proofs.States.{IsGood, IsWay, part_begins, part_ways}

-- ---- an entry of a grammar that has so many states
pub record IsWayTo (o : Outline) (count : ℕ) (e : Entry) : Type 0 where
  pub way : IsWay o count e.rule
  pub told : Tells o.names e.rule.on e.named

way_to : (o : Outline) (count : ℕ) (r : Rule) → IsWay o count r → IsWayTo o count (entry_of o.names r)
way_to o count r way = record { way = way; told = symbol_told o.names r.on way.stands }

-- every state of a grammar has such entries alone, and there is one
pub record IsGrammarOf (o : Outline) (states : List (Productions Entry)) : Type 0 where
  pub ways : All (Each (IsWayTo o (length states))) states
  pub begins : 1 ≤ length states

module _ (options : Options) (o : Outline) where
  state_ways : (count : ℕ) (p : Productions Rule) → Each (IsWay o count) p → Each (IsWayTo o count) (state_of options o.names p)
  state_ways count p h = each_pruned (IsWayTo o count) (is_kept options) (placed_in o.names p) (each_mapped (IsWayTo o count) (entry_of o.names) p (each_weaker (IsWay o count) (λ r. IsWayTo o count (entry_of o.names r)) (way_to o count) p h))

  states_ways : (ps : List (Productions Rule)) → All (Each (IsWay o (length ps))) ps → All (Each (IsWayTo o (length (map (state_of options o.names) ps)))) (map (state_of options o.names) ps)
  states_ways ps h =
      let count = length ps in
      let states = map (state_of options o.names) ps in
      subst (λ n. All (Each (IsWayTo o n)) states) (sym (length-map ps (state_of options o.names))) (All-map (Each (IsWayTo o count)) (state_of options o.names) ps (All-weaker (Each (IsWay o count)) (λ p. Each (IsWayTo o count) (state_of options o.names p)) (state_ways count) ps h))

  part_of : (strict : Bool) (g : Rules) → IsGood o g → 1 ≤ length g.states → IsGrammarOf o (map (state_of options o.names) (part_states strict g))
  part_of strict g good some = record {
    ways = states_ways (part_states strict g) (part_ways o g good strict);
    begins = omega (arith, part_begins strict g some, length-map (part_states strict g) (state_of options o.names));
  }

-- ---- what a schema says of its grammars
record IsPart (o : Outline) (g : Rules) : Type 0 where
  good : IsGood o g
  begins : 1 ≤ length g.states

module _ (o : Outline) (is : IsSchema o) (known : o.known ≡ true) where
  ends_behind : All (AllIn IsOfPart) (drop 2 o.grammars)
  ends_behind = rw known at is.ends

  good_parts : All (IsPart o) (drop 2 o.grammars)
  good_parts i d less =
      let g = get_or (drop 2 o.grammars) i d in
      let within = All-drop LeadsWithin 2 o.grammars is.within i d less in
      let ends : AllIn IsOfPart g = ends_behind i d less in
      let inners : AllIn (λ r. IsInner o r.inner) g = All-drop (AllIn (λ r. IsInner o r.inner)) 2 o.grammars is.paired.inners i d less in
      let opens : AllIn Opens g = All-drop (AllIn Opens) 2 o.grammars is.opens_all i d less in
      let told : AllIn (λ r. named_in o.names r.on ≢ None) g = All-drop (AllIn (λ r. named_in o.names r.on ≢ None)) 2 o.grammars is.told.productions i d less in
      record {
        good = record {
          content = within.content;
          rules = λ j e there k f here. record {
            no_start = (ends j e there k f here).no_start;
            no_end = (ends j e there k f here).no_end;
            to = within.states j e there k f here;
            inner = inners j e there k f here;
            opens = opens j e there k f here;
            stands = told j e there k f here;
          };
        };
        begins = All-drop (λ g. 1 ≤ length g.states) 2 o.grammars is.has_states i d less;
      }

-- ---- in a book
behind_two : {X : Type 0} (P : X → Type 0) (x y : X) (zs : List X) → All P zs → (i : ℕ) (d : X) → 2 ≤ i → i < length (x ∷ y ∷ zs) → P (get_or (x ∷ y ∷ zs) i d)
behind_two P x y zs h zero d past less = absurd (omega (arith, past))
behind_two P x y zs h (suc zero) d past less = absurd (omega (arith, past))
behind_two P x y zs h (suc (suc i)) d past less = let there : i < length zs = omega (arith, less) in h i d there

module _ (b : Contents) where
  abbrev written : List (Productions Rule) → List (Productions Entry)
  written ps = map (state_of b.options b.schema.names) ps

  abbrev pub parts_written : List (List (Productions Entry))
  parts_written = map written (map (part_states (strict b.options)) (drop 2 b.schema.grammars))

  abbrev pub document_written : List (Productions Entry)
  document_written = written (document (map (λ e. (e.name, e.full)) b.schema.globals))

  abbrev pub fragment_written : List (Productions Entry)
  fragment_written = written (fragment b.schema.fragment)

made_known : (s : Bool) (o : Outline) → o.known ≡ true → made_states s o ≡ document (map (λ e. (e.name, e.full)) o.globals) ∷ fragment o.fragment ∷ map (part_states s) (drop 2 o.grammars)
made_known s o known = rw known refl

pub known_states : (b : Contents) → IsBook b → b.schema.known ≡ true → b.states ≡ document_written b ∷ fragment_written b ∷ parts_written b
known_states b is known = is.states ∙ ap (λ (z : List (List (Productions Rule))). map (map (state_of b.options b.schema.names)) z) (made_known (strict b.options) b.schema known)

-- a grammar past the wholes is there only with a schema
pub past_known : (b : Contents) → IsBook b → (grammar : ℕ) → 1 ≤ grammar → grammar < length b.states → b.schema.known ≡ true
past_known b is grammar past less = elim (cases_Bool b.schema.known) [
  | inl known ↦ known
  | inr plain ↦
      let one : length b.states ≡ 1 = ap length (plain_book b is plain).states in
      absurd (omega (arith, one, past, less))
]

parts_of : (b : Contents) → IsSchema b.schema → b.schema.known ≡ true → All (IsGrammarOf b.schema) (parts_written b)
parts_of b s known =
    let parts = drop 2 b.schema.grammars in
    let all = All-weaker (IsPart b.schema) (λ g. IsGrammarOf b.schema (written b (part_states (strict b.options) g))) (λ g p. part_of b.options b.schema (strict b.options) g p.good p.begins) parts (good_parts b.schema s known) in
    All-map (IsGrammarOf b.schema) (written b) (map (part_states (strict b.options)) parts) (All-map (λ ps. IsGrammarOf b.schema (written b ps)) (part_states (strict b.options)) parts all)

pub grammar_of : (b : Contents) → IsBook b → IsSchema b.schema → (grammar : ℕ) → 2 ≤ grammar → grammar < length b.states → IsGrammarOf b.schema (states_in b grammar)
grammar_of b is s grammar past less =
    let some : 1 ≤ grammar = omega (arith, past) in
    let known = past_known b is grammar some less in
    let e = known_states b is known in
    let within = subst (λ (z : List (List (Productions Entry))). grammar < length z) e less in
    subst (λ (z : List (List (Productions Entry))). IsGrammarOf b.schema (get_or z grammar [])) (sym e) (behind_two (IsGrammarOf b.schema) (document_written b) (fragment_written b) (parts_written b) (parts_of b s known) grammar [] past within)

-- ---- where the productions lead
way_in : (b : Contents) (grammar : ℕ) → grammar < length b.states → (e : Entry) → IsWayTo b.schema (length (states_in b grammar)) e → IsWayIn b grammar e
way_in b grammar there e h = record {
  no_start = h.way.no_start;
  no_end = h.way.no_end;
  to = record { grammar_is = there; state_is = h.way.to };
  inner = h.way.inner;
  opens = h.way.opens;
  told = h.told;
  named = told_back b.schema.names e.rule.on e.named h.told;
}

pub parts_each : (b : Contents) → IsBook b → IsSchema b.schema → (grammar state : ℕ) → 2 ≤ grammar → IsStateOf b grammar state → Each (IsWayIn b grammar) (state_at b grammar state)
parts_each b is s grammar state past there =
    let g = grammar_of b is s grammar past there.grammar_is in
    each_weaker (IsWayTo b.schema (length (states_in b grammar))) (IsWayIn b grammar) (way_in b grammar there.grammar_is) (state_at b grammar state) (g.ways state no_productions there.state_is)

pub parts_lead : PartsLead
parts_lead b is s grammar state past there = of_each (IsWayIn b grammar) (state_at b grammar state) (parts_each b is s grammar state past there)
