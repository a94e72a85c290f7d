-- A book has a grammar for each of its schema's, and each that opens an element has a first state, as has its empty form.
use Rattle.std.proofs.Common.{◌≡◌, inl, inr, ℕ, ◌+◌, ◌<◌, ◌≤◌, true, length, map, drop, ap, arith, length-drop}
use Rattle.std.proofs.lemmas.Bool.{cases_Bool}
use Rattle.std.proofs.lemmas.List.{length-map}
use Rattle.std.proofs.lemmas.Option.{slice_get_within}
use Rattle.exi_gram.specs.Additions.{part_states}
use Rattle.exi_gram.specs.Books.{Contents, IsBook, IsStateOf, state_of}
use Rattle.exi_gram.specs.Outlines.{Outline}
use Rattle.exi_gram.specs.Schemas.{IsFull, IsSchema}
use Rattle.exi_gram.specs.Switches.{strict}
use Rattle.exi_gram.specs.Wholes.{fragment, whole_grammar}
use Rattle.exi_gram.proofs.Plain.{plain_book}
use Rattle.exi_ways.specs.Laws.{EntriesAreForms, FormsStand, GrammarsStand, PlainStands}
use Rattle.exi_ways.proofs.Parts.{grammar_of, known_states}

-- with a schema Fragment is there
two_wholes : (o : Outline) → IsSchema o → o.known ≡ true → 2 ≤ length o.grammars
two_wholes o s known =
    let second = slice_get_within o.grammars 1 (whole_grammar (fragment o.fragment)) (s.has_wholes.fragment known) in
    omega (arith, second)

count_known : (b : Contents) → IsBook b → IsSchema b.schema → b.schema.known ≡ true → length b.states ≡ length b.schema.grammars
count_known b is s known =
    let e = ap length (known_states b is known) in
    let outer = length-map (map (part_states (strict b.options)) (drop 2 b.schema.grammars)) (map (state_of b.options b.schema.names)) in
    let inner = length-map (drop 2 b.schema.grammars) (part_states (strict b.options)) in
    let rest = length-drop 2 b.schema.grammars in
    omega (arith, e, outer, inner, rest, two_wholes b.schema s known)

pub grammars_stand : GrammarsStand
grammars_stand b is s known =
    let count = count_known b is s known in
    (count, omega (arith, count, two_wholes b.schema s known))

pub plain_stands : PlainStands
plain_stands b is s plain = plain_book b is plain

-- only a schema has grammars that open elements
pub full_known : (o : Outline) → IsSchema o → (form : ℕ) → IsFull o form → o.known ≡ true
full_known o s form full = elim (cases_Bool o.known) [
  | inl known ↦ known
  | inr plain ↦
      let one : length o.grammars ≡ 1 = ap (λ (z : Outline). length z.grammars) (s.has_wholes.without plain) in
      absurd (omega (arith, one, full.empty_form))
]

begins_at : (b : Contents) → IsBook b → IsSchema b.schema → (grammar : ℕ) → 2 ≤ grammar → grammar < length b.states → IsStateOf b grammar 0
begins_at b is s grammar past less =
    let g = grammar_of b is s grammar past less in
    record { grammar_is = less; state_is = omega (arith, g.begins) }

pub forms_stand : FormsStand
forms_stand b is s form full =
    let known = full_known b.schema s form full in
    let count = count_known b is s known in
    let past : 2 ≤ form + 1 = omega (arith, full.past_wholes) in
    let there : form < length b.states = omega (arith, count, full.empty_form) in
    let behind : form + 1 < length b.states = omega (arith, count, full.empty_form) in
    record {
      known = known;
      full = begins_at b is s form full.past_wholes there;
      empty = begins_at b is s (form + 1) past behind;
    }

pub entries_are_forms : EntriesAreForms
entries_are_forms b s = record { globals = s.paired.globals; types = s.paired.types; fragment = s.paired.fragment }
