-- The entries of types, global elements and global attributes point to their grammars, and their names stand in the tables.
use Rattle.std.proofs.Common.{◌≡◌, ℕ, suc, ◌+◌, ◌≤◌, List, [], ◌∷◌, All, length, slice_get, ap, refl, subst, arith, inl, inr}
use Rattle.std.proofs.lemmas.List.Elements.{All-cons, All-head, All-nil, All-same, All-tail}
use Rattle.std.proofs.lemmas.Option.{slice_get_within}
use Rattle.exi_names.specs.Datatypes.{Representation}
use Rattle.exi_names.specs.declared.names.QName.{QName}
use Rattle.exi_gram.specs.declared.entry.ElementEntry.{ElementEntry}
use Rattle.exi_gram.specs.declared.entry.TypeEntry.{TypeEntry}
use Rattle.exi_gram.specs.Orders.{in_order}
use Rattle.exi_gram.specs.Schemas.{Stands, StandsIfAny}
use Rattle.xsd_model.specs.declared.parts.AttributeDecl.{AttributeDecl}
use Rattle.xsd_model.specs.declared.parts.ElementDecl.{ElementDecl}
use Rattle.xsd_model.specs.declared.parts.TypeDef.{TypeDef}
use Rattle.xsd_model.specs.Parts.{Parts}
use Rattle.exi_elements.specs.StandIns.{element_before, first_alike, opener}
use Rattle.exi_proto.specs.Protos.{representation_of}
use Rattle.exi_compiled.specs.Compiled.{attribute_entries, can_be_cast, element_entry, element_grammar, global_entries, grammar_from, items_of, of_element, type_entries_from, type_grammar}
use Rattle.exi_vocabulary.specs.FirstNames.{first_names_of}
use Rattle.exi_vocabulary.specs.Vocabulary.{global_places_from}
use Rattle.exi_compiled.proofs.Fragments.{all_grammars, items_all}
use Rattle.exi_compiled.proofs.Good.{HasNames}
use Rattle.exi_compiled.proofs.Lists.{at_place, by_test, cases_Option, in_flat, one}
use Rattle.exi_compiled.proofs.Made.{item_grammars}
use Rattle.exi_compiled.proofs.Places.{IsFullBelow, element_full, full_more, type_full}

pub record IsEntry (p : Parts) (full empty : ℕ) : Type 0 where
  pub full_is : IsFullBelow (all_grammars p) full
  pub empty_is : empty ≡ full + 1

module _ (p : Parts) (names : HasNames p) where
  abbrev pub OfType : TypeEntry → Type 0
  OfType e = IsEntry p e.full e.empty × StandsIfAny (first_names_of p) e.name

  types_from : (place : ℕ) (ts : List TypeDef) → place + length ts ≤ length p.types → All (λ t. StandsIfAny (first_names_of p) t.name) ts → All OfType (type_entries_from p place ts)
  types_from place [] le h = All-nil OfType
  types_from place (t ∷ ts) le h =
      let few : place + suc (length ts) ≤ length p.types = le in
      let full = full_more (item_grammars p) (all_grammars p) (type_grammar p place) (items_all p) (type_full p place (omega arith)) in
      All-cons OfType (record { name = t.name; full = type_grammar p place; empty = type_grammar p place + 1; cast = can_be_cast p place }) (type_entries_from p (suc place) ts)
      (record { full_is = full; empty_is = refl }, All-head (λ (u : TypeDef). StandsIfAny (first_names_of p) u.name) t ts h)
      (types_from (suc place) ts (omega arith) (All-tail (λ (u : TypeDef). StandsIfAny (first_names_of p) u.name) t ts h))

  pub types_is : All OfType (type_entries_from p 0 p.types)
  types_is = types_from 0 p.types (omega arith) names.types

  abbrev pub OfElement : ElementEntry → Type 0
  OfElement e = IsEntry p e.full e.empty × Stands (first_names_of p) e.name

  abbrev with_grammar : ElementDecl → ℕ → List ElementEntry
  with_grammar e full = record { name = e.name; full = full; empty = full + 1; nillable = e.nillable } ∷ []

  entry_is : (place : ℕ) → All OfElement (element_entry p place)
  entry_is place = elim (cases_Option (slice_get p.elements place)) [
    | inl e ↦
        let same : element_entry p place ≡ [] = rw e refl in
        All-same OfElement (element_entry p place) [] same (All-nil OfElement)
    | inr w ↦
        let stands : Stands (first_names_of p) w.0.name = at_place (λ (e : ElementDecl). Stands (first_names_of p) e.name) p.elements place w.0 names.elements w.1 in
        let full = full_more (item_grammars p) (all_grammars p) (element_grammar p place) (items_all p) (element_full p place (slice_get_within p.elements place w.0 w.1)) in
        let here : ℕ = grammar_from 2 (of_element (first_alike 0 w.0 p.elements)) (items_of p) in
        let opens : opener p place ≡ first_alike 0 w.0 p.elements = rw w.1 refl in
        let is : element_grammar p place ≡ here = ap (λ k. grammar_from 2 (of_element k) (items_of p)) opens in
        let now : ElementEntry = record { name = w.0.name; full = here; empty = here + 1; nillable = w.0.nillable } in
        let entry : IsEntry p now.full now.empty = record { full_is = subst (IsFullBelow (all_grammars p)) is full; empty_is = refl } in
        let same : element_entry p place ≡ now ∷ [] = rw w.1 (ap (with_grammar w.0) is) in
        All-same OfElement (element_entry p place) (now ∷ []) same (one OfElement now (entry, stands))
  ]

  pub globals_is : All OfElement (global_entries p)
  globals_is = in_flat OfElement (element_entry p) (in_order (element_before p) (global_places_from 0 p.elements)) entry_is

  abbrev OfAttribute : QName × Representation → Type 0
  OfAttribute e = Stands (first_names_of p) e.0

  attributes_from : (as_ : List AttributeDecl) → All (λ a. Stands (first_names_of p) a.name) as_ → All OfAttribute (attribute_entries p as_)
  attributes_from [] h = All-nil OfAttribute
  attributes_from (a ∷ as_) h =
      let rest = attributes_from as_ (All-tail (λ (b : AttributeDecl). Stands (first_names_of p) b.name) a as_ h) in
      by_test OfAttribute a.global ((a.name, representation_of p a.of) ∷ attribute_entries p as_) (attribute_entries p as_)
      (All-cons OfAttribute (a.name, representation_of p a.of) (attribute_entries p as_) (All-head (λ (b : AttributeDecl). Stands (first_names_of p) b.name) a as_ h) rest) rest

  pub attributes_is : All (λ e. Stands (first_names_of p) e.0) (attribute_entries p p.attributes)
  attributes_is = attributes_from p.attributes names.attributes
