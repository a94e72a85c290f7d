-- Where the productions of Document and Fragment lead in a book.
use Rattle.std.proofs.Common.{◌≡◌, inl, inr, ℕ, ◌<◌, true, List, [], ◌∷◌, length, map, get_or, All, refl, sym, subst, arith}
use Rattle.std.proofs.lemmas.Bool.{cases_Bool}
use Rattle.std.proofs.lemmas.List.Elements.{All-append, All-cons, All-map, All-nil}
use Rattle.exi_names.specs.declared.names.QName.{QName}
use Rattle.exi_gram.specs.declared.options.Options.{Options}
use Rattle.exi_gram.specs.Books.{Contents, IsBook, is_kept, placed_in, state_at, state_of, states_in}
use Rattle.exi_gram.specs.Codes.{Productions, group, single}
use Rattle.exi_gram.specs.Naming.{Entry, entry_of}
use Rattle.exi_gram.specs.Outlines.{Outline}
use Rattle.exi_gram.specs.Schemas.{IsFull, IsSchema, Stands}
use Rattle.exi_gram.specs.Tables.{no_productions}
use Rattle.exi_gram.specs.Terminals.{Rule, sd, ed, se_any, cm, pi, dt}
use Rattle.exi_gram.specs.Wholes.{document, document_content, document_end, fragment_content, opening, plain, whole_start}
use Rattle.exi_gram.proofs.CodeTells.{Each, EachOf, each_mapped, each_pruned}
use Rattle.exi_gram.proofs.Plain.{plain_book}
use Rattle.exi_ways.specs.Laws.{DocumentsLead, FragmentsLead}
use Rattle.exi_ways.specs.Ways.{IsDocumentContent, IsDocumentEnd, IsFragmentContent, IsOpening, IsWholeStart}
use Rattle.exi_ways.proofs.Entries.{name_told}
use Rattle.exi_ways.proofs.Lists.{of_each}
use Rattle.exi_ways.proofs.Parts.{fragment_written, known_states, parts_written}

-- ---- elements of a schema
pub record IsOpened (o : Outline) (element : QName × ℕ) : Type 0 where
  pub full : IsFull o element.1
  pub stands : Stands o.names element.0

opened : (o : Outline) (state : ℕ) (element : QName × ℕ) → IsOpened o element → IsOpening o state element.0 (entry_of o.names (opening state element))
opened o state element h = record { to = refl; form = element.1; inner = refl; full = h.full; told = name_told o.names element.0 h.stands }

globals_opened : (o : Outline) → IsSchema o → All (IsOpened o) (map (λ e. (e.name, e.full)) o.globals)
globals_opened o s = All-map (IsOpened o) (λ e. (e.name, e.full)) o.globals (λ i d less. record { full = (s.paired.globals i d less).0; stands = s.told.globals i d less })

fragment_opened : (o : Outline) → IsSchema o → All (IsOpened o) o.fragment
fragment_opened o s i d less = record { full = s.paired.fragment i d less; stands = s.told.fragment i d less }

-- ---- the states
abbrev StartRule : Outline → Rule → Type 0
StartRule o r = IsWholeStart r.on (entry_of o.names r)

abbrev ContentRule : Outline → Rule → Type 0
ContentRule o r = IsDocumentContent o r.on (entry_of o.names r)

abbrev EndRule : Outline → Rule → Type 0
EndRule o r = IsDocumentEnd r.on (entry_of o.names r)

abbrev FragmentRule : Outline → Rule → Type 0
FragmentRule o r = IsFragmentContent o r.on (entry_of o.names r)

alone : {X : Type 0} (P : X → Type 0) (x : X) → P x → All P (x ∷ [])
alone P x h = All-cons P x [] h (All-nil P)

two : {X : Type 0} (P : X → Type 0) (x y : X) → P x → P y → All P (x ∷ y ∷ [])
two P x y h k = All-cons P x (y ∷ []) h (alone P y k)

module _ (o : Outline) where
  start_rules : Each (StartRule o) whole_start
  start_rules = record {
    firsts = alone (StartRule o) (plain sd 1) (record { to = refl; inner = refl; named = refl });
    seconds = All-nil (EachOf (StartRule o));
  }

  content_rules : (elements : List (QName × ℕ)) → All (IsOpened o) elements → Each (ContentRule o) (document_content elements)
  content_rules elements h = record {
    firsts = All-append (ContentRule o) (map (opening 2) elements) (plain se_any 2 ∷ []) (All-map (ContentRule o) (opening 2) elements (λ i d less. opened o 2 (get_or elements i d) (h i d less))) (alone (ContentRule o) (plain se_any 2) (record { to = refl; inner = refl; named = refl }));
    seconds = two (EachOf (ContentRule o)) (single (plain dt 1)) (group (plain cm 1 ∷ plain pi 1 ∷ [])) (record { to = refl; inner = refl; named = refl }) (two (ContentRule o) (plain cm 1) (plain pi 1) (record { to = refl; inner = refl; named = refl }) (record { to = refl; inner = refl; named = refl }));
  }

  end_rules : Each (EndRule o) document_end
  end_rules = record {
    firsts = alone (EndRule o) (plain ed 2) (record { to = refl; inner = refl; named = refl });
    seconds = two (EachOf (EndRule o)) (single (plain cm 2)) (single (plain pi 2)) (record { to = refl; inner = refl; named = refl }) (record { to = refl; inner = refl; named = refl });
  }

  fragment_rules : (elements : List (QName × ℕ)) → All (IsOpened o) elements → Each (FragmentRule o) (fragment_content elements)
  fragment_rules elements h = record {
    firsts = All-append (FragmentRule o) (map (opening 1) elements) (plain se_any 1 ∷ plain ed 1 ∷ []) (All-map (FragmentRule o) (opening 1) elements (λ i d less. opened o 1 (get_or elements i d) (h i d less))) (two (FragmentRule o) (plain se_any 1) (plain ed 1) (record { to = refl; inner = refl; named = refl }) (record { to = refl; inner = refl; named = refl }));
    seconds = two (EachOf (FragmentRule o)) (single (plain cm 1)) (single (plain pi 1)) (record { to = refl; inner = refl; named = refl }) (record { to = refl; inner = refl; named = refl });
  }

-- ---- as the options leave them
left_each : (options : Options) (o : Outline) (P : Entry → Type 0) (p : Productions Rule) → Each (λ r. P (entry_of o.names r)) p → Each P (state_of options o.names p)
left_each options o P p h = each_pruned P (is_kept options) (placed_in o.names p) (each_mapped P (entry_of o.names) p h)

-- Document is the first of a book, with a schema or without
record IsFirst (b : Contents) : Type 0 where
  elements : List (QName × ℕ)
  opened : All (IsOpened b.schema) elements
  behind : List (List (Productions Entry))
  states : b.states ≡ map (state_of b.options b.schema.names) (document elements) ∷ behind

first_of : (b : Contents) → IsBook b → IsSchema b.schema → IsFirst b
first_of b is s = elim (cases_Bool b.schema.known) [
  | inl known ↦ record { elements = map (λ e. (e.name, e.full)) b.schema.globals; opened = globals_opened b.schema s; behind = fragment_written b ∷ parts_written b; states = known_states b is known }
  | inr plain ↦ record { elements = []; opened = All-nil (IsOpened b.schema); behind = []; states = (plain_book b is plain).states }
]

-- what a book says of its grammars, of these lists
abbrev in_lists : List (List (Productions Entry)) → ℕ → ℕ → Productions Entry
in_lists states grammar state = get_or (get_or states grammar []) state no_productions

abbrev InDocument : Outline → Entry → Type 0
InDocument o e = IsDocumentContent o e.rule.on e

abbrev InFragment : Outline → Entry → Type 0
InFragment o e = IsFragmentContent o e.rule.on e

abbrev AtStart : Entry → Type 0
AtStart e = IsWholeStart e.rule.on e

abbrev AtEnd : Entry → Type 0
AtEnd e = IsDocumentEnd e.rule.on e

module _ (b : Contents) (is : IsBook b) (s : IsSchema b.schema) where
  pub document_there : 0 < length b.states
  document_there = let f = first_of b is s in subst (λ (z : List (List (Productions Entry))). 0 < length z) (sym f.states) (omega arith)

  pub document_count : length (states_in b 0) ≡ 3
  document_count = let f = first_of b is s in subst (λ (z : List (List (Productions Entry))). length (get_or z 0 []) ≡ 3) (sym f.states) refl

  pub document_start_each : Each (λ e. IsWholeStart e.rule.on e) (state_at b 0 0)
  document_start_each = let f = first_of b is s in subst (λ (z : List (List (Productions Entry))). Each AtStart (in_lists z 0 0)) (sym f.states) (left_each b.options b.schema AtStart whole_start (start_rules b.schema))

  pub document_content_each : Each (λ e. IsDocumentContent b.schema e.rule.on e) (state_at b 0 1)
  document_content_each = let f = first_of b is s in subst (λ (z : List (List (Productions Entry))). Each (InDocument b.schema) (in_lists z 0 1)) (sym f.states) (left_each b.options b.schema (InDocument b.schema) (document_content f.elements) (content_rules b.schema f.elements f.opened))

  pub document_end_each : Each (λ e. IsDocumentEnd e.rule.on e) (state_at b 0 2)
  document_end_each = let f = first_of b is s in subst (λ (z : List (List (Productions Entry))). Each AtEnd (in_lists z 0 2)) (sym f.states) (left_each b.options b.schema AtEnd document_end (end_rules b.schema))

  module _ (known : b.schema.known ≡ true) where
    pub fragment_there : 1 < length b.states
    fragment_there = subst (λ (z : List (List (Productions Entry))). 1 < length z) (sym (known_states b is known)) (omega arith)

    pub fragment_count : length (states_in b 1) ≡ 2
    fragment_count = subst (λ (z : List (List (Productions Entry))). length (get_or z 1 []) ≡ 2) (sym (known_states b is known)) refl

    pub fragment_start_each : Each (λ e. IsWholeStart e.rule.on e) (state_at b 1 0)
    fragment_start_each = subst (λ (z : List (List (Productions Entry))). Each AtStart (in_lists z 1 0)) (sym (known_states b is known)) (left_each b.options b.schema AtStart whole_start (start_rules b.schema))

    pub fragment_content_each : Each (λ e. IsFragmentContent b.schema e.rule.on e) (state_at b 1 1)
    fragment_content_each = subst (λ (z : List (List (Productions Entry))). Each (InFragment b.schema) (in_lists z 1 1)) (sym (known_states b is known)) (left_each b.options b.schema (InFragment b.schema) (fragment_content b.schema.fragment) (fragment_rules b.schema b.schema.fragment (fragment_opened b.schema s)))

pub documents_lead : DocumentsLead
documents_lead b is s = record {
  there = document_there b is s;
  count = document_count b is s;
  start = of_each AtStart (state_at b 0 0) (document_start_each b is s);
  content = of_each (InDocument b.schema) (state_at b 0 1) (document_content_each b is s);
  end = of_each AtEnd (state_at b 0 2) (document_end_each b is s);
}

pub fragments_lead : FragmentsLead
fragments_lead b is s known = record {
  there = fragment_there b is s known;
  count = fragment_count b is s known;
  start = of_each AtStart (state_at b 1 0) (fragment_start_each b is s known);
  content = of_each (InFragment b.schema) (state_at b 1 1) (fragment_content_each b is s known);
}
