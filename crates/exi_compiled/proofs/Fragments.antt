-- The grammar of a fragment's elements whose declarations differ, and those elements.
use Rattle.std.proofs.Common.{◌≡◌, inl, inr, ℕ, ◌+◌, ◌*◌, ◌%◌, ◌<◌, ◌≤◌, Bool, true, false, if◌then◌else◌, Option, Some, List, [], ◌∷◌, ◌++◌, All, length, map, slice_get, refl, arith, lit<, lit≤}
use Rattle.std.proofs.lemmas.List.Elements.{All-append, All-cons, All-head, All-nil, All-same, All-tail, All-weaker}
use Rattle.std.proofs.lemmas.Option.{slice_get_within}
use Rattle.exi_names.specs.Datatypes.{Representation, text}
use Rattle.exi_names.specs.declared.names.QName.{QName}
use Rattle.exi_gram.specs.Schemas.{Stands}
use Rattle.exi_gram.specs.Terminals.{Rule, Symbol, at, at_any, ch_text, ee, se, se_any}
use Rattle.exi_gram.specs.Wholes.{plain}
use Rattle.xsd_model.specs.declared.parts.AttributeDecl.{AttributeDecl}
use Rattle.xsd_model.specs.declared.parts.ElementDecl.{ElementDecl}
use Rattle.xsd_model.specs.Parts.{Parts}
use Rattle.exi_proto.specs.Protos.{representation_of}
use Rattle.exi_compiled.specs.Compiled.{element_grammar, elements_of, fragment_grammar, items_of}
use Rattle.exi_compiled.specs.FragmentGrammar.{attribute_rule, attribute_rules, element_entry, element_fragment, element_rules, empty_fragment, fragment_content}
use Rattle.exi_vocabulary.specs.FirstNames.{first_names_of}
use Rattle.exi_vocabulary.specs.Vocabulary.{all_alike, all_of_type, attribute_name, element_name, names_in_order}
use Rattle.exi_compiled.proofs.Good.{HasNames, IsGood, any_good, at_any_good, at_good, ee_good, se_good, text_good}
use Rattle.exi_compiled.proofs.Lists.{at_place, cases_Option, in_flat, one, three, two}
use Rattle.exi_compiled.proofs.Made.{IsPart, item_grammars}
use Rattle.exi_compiled.proofs.Normal.{OfRule}
use Rattle.exi_compiled.proofs.Places.{IsFullBelow, element_full, full_more}

-- the pair of grammars that is made more, where there is an element
abbrev pub fragment_count : List ElementDecl → ℕ
fragment_count [] = 0
fragment_count (e ∷ es) = 2

abbrev pub all_grammars : Parts → ℕ
all_grammars p = item_grammars p + fragment_count p.elements

-- twice a number, and two more
twice_even : (n : ℕ) → (2 + 2 * n) % 2 ≡ 0
twice_even n = omega arith

pub fragment_full : (p : Parts) (place : ℕ) (e : ElementDecl) → slice_get p.elements place ≡ Some e → IsFullBelow (all_grammars p) (fragment_grammar p)
fragment_full p place e there =
    let two_more : fragment_count p.elements ≡ 2 = by p.elements place there in
    record { past = omega arith; even = twice_even (length (items_of p)); below = omega (arith, two_more) }
  where
    by : (es : List ElementDecl) (place : ℕ) → slice_get es place ≡ Some e → fragment_count es ≡ 2
    by [] place there = absurd cc
    by (d ∷ ds) place there = refl

pub items_all : (p : Parts) → item_grammars p ≤ all_grammars p
items_all p = omega arith

module _ (p : Parts) (names : HasNames p) where
  -- an element of a name, and its grammar
  abbrev pub IsOpened : QName × ℕ → Type 0
  IsOpened e = Stands (first_names_of p) e.0 × IsFullBelow (all_grammars p) e.1

  alike_is : (b : Bool) (x y : ℕ) → IsFullBelow (all_grammars p) x → IsFullBelow (all_grammars p) y → IsFullBelow (all_grammars p) (if b then x else y)
  alike_is true x y h k = h
  alike_is false x y h k = k

  entry_same : (grammar_at : ℕ → ℕ) (otherwise place : ℕ) (e : ElementDecl) → slice_get p.elements place ≡ Some e → element_entry p grammar_at otherwise place ≡ (e.name, if all_alike e p.elements then grammar_at place else otherwise) ∷ []
  entry_same grammar_at otherwise place e there = rw there refl

  entry_is : (place : ℕ) → All IsOpened (element_entry p (element_grammar p) (fragment_grammar p) place)
  entry_is place = elim (cases_Option (slice_get p.elements place)) [
    | inl e ↦
        let same : element_entry p (element_grammar p) (fragment_grammar p) place ≡ [] = rw e refl in
        All-same IsOpened (element_entry p (element_grammar p) (fragment_grammar p) place) [] same (All-nil IsOpened)
    | inr w ↦
        let stands : Stands (first_names_of p) w.0.name = at_place (λ (e : ElementDecl). Stands (first_names_of p) e.name) p.elements place w.0 names.elements w.1 in
        let own = full_more (item_grammars p) (all_grammars p) (element_grammar p place) (items_all p) (element_full p place (slice_get_within p.elements place w.0 w.1)) in
        let full = alike_is (all_alike w.0 p.elements) (element_grammar p place) (fragment_grammar p) own (fragment_full p place w.0 w.1) in
        let entry : QName × ℕ = (w.0.name, if all_alike w.0 p.elements then element_grammar p place else fragment_grammar p) in
        let same : element_entry p (element_grammar p) (fragment_grammar p) place ≡ entry ∷ [] = entry_same (element_grammar p) (fragment_grammar p) place w.0 w.1 in
        All-same IsOpened (element_entry p (element_grammar p) (fragment_grammar p) place) (entry ∷ []) same (one IsOpened entry (stands, full))
  ]

  pub elements_is : All IsOpened (elements_of p)
  elements_is = in_flat IsOpened (element_entry p (element_grammar p) (fragment_grammar p)) (names_in_order (map element_name p.elements)) entry_is

  -- ---- the productions
  abbrev G : Symbol → Option ℕ → Type 0
  G = IsGood p (IsFullBelow (all_grammars p))

  abbrev R : Rule → Type 0
  R r = OfRule G r × (r.to < 2)

  attribute_is : (place : ℕ) → All R (attribute_rule p place)
  attribute_is place = elim (cases_Option (slice_get p.attributes place)) [
    | inl e ↦
        let same : attribute_rule p place ≡ [] = rw e refl in
        All-same R (attribute_rule p place) [] same (All-nil R)
    | inr w ↦
        let stands : Stands (first_names_of p) w.0.name = at_place (λ (a : AttributeDecl). Stands (first_names_of p) a.name) p.attributes place w.0 names.attributes w.1 in
        let r : Representation = if all_of_type w.0 p.attributes then representation_of p w.0.of else text in
        let same : attribute_rule p place ≡ plain (at w.0.name r) 0 ∷ [] = rw w.1 refl in
        All-same R (attribute_rule p place) (plain (at w.0.name r) 0 ∷ []) same (one R (plain (at w.0.name r) 0) (at_good p (IsFullBelow (all_grammars p)) w.0.name r stands, lit< tt))
  ]

  attributes_is : All R (attribute_rules p)
  attributes_is = in_flat R (attribute_rule p) (names_in_order (map attribute_name p.attributes)) attribute_is

  rules_is : (es : List (QName × ℕ)) → All IsOpened es → All R (element_rules es)
  rules_is [] h = All-nil R
  rules_is (e ∷ es) h =
      let here : IsOpened e = All-head IsOpened e es h in
      All-cons R (record { on = se e.0; to = 1; inner = Some e.1 }) (element_rules es) (se_good p (IsFullBelow (all_grammars p)) e.0 e.1 here.0 here.1, lit< tt) (rules_is es (All-tail IsOpened e es h))

  content_is : (state : ℕ) → state < 2 → (es : List (QName × ℕ)) → All IsOpened es → All R (fragment_content state es)
  content_is state less es h =
      All-append R (element_rules es) (plain se_any 1 ∷ plain ee state ∷ plain ch_text 1 ∷ []) (rules_is es h)
      (three R (plain se_any 1) (plain ee state) (plain ch_text 1) (any_good p (IsFullBelow (all_grammars p)), lit< tt) (ee_good p (IsFullBelow (all_grammars p)), less) (text_good p (IsFullBelow (all_grammars p)), lit< tt))

  -- two states
  part_of : (a b : List Rule) → All R a → All R b → IsPart p (all_grammars p) (record { states = a ∷ b ∷ []; content = 1 })
  part_of a b h k = record {
    some = lit≤ tt;
    few = lit≤ tt;
    within = record {
      content = lit< tt;
      states = two (All (λ (r : Rule). r.to < 2)) a b (All-weaker R (λ (r : Rule). r.to < 2) (λ r x. x.1) a h) (All-weaker R (λ (r : Rule). r.to < 2) (λ r x. x.1) b k);
    };
    all = two (All (OfRule G)) a b (All-weaker R (OfRule G) (λ r x. x.0) a h) (All-weaker R (OfRule G) (λ r x. x.0) b k);
  }

  pub fragment_is : IsPart p (all_grammars p) (element_fragment p (elements_of p))
  fragment_is =
      part_of (attribute_rules p ++ plain at_any 0 ∷ fragment_content 0 (elements_of p)) (fragment_content 1 (elements_of p))
      (All-append R (attribute_rules p) (plain at_any 0 ∷ fragment_content 0 (elements_of p)) attributes_is
      (All-cons R (plain at_any 0) (fragment_content 0 (elements_of p)) (at_any_good p (IsFullBelow (all_grammars p)), lit< tt) (content_is 0 (lit< tt) (elements_of p) elements_is)))
      (content_is 1 (lit< tt) (elements_of p) elements_is)

  pub empty_is : IsPart p (all_grammars p) (empty_fragment p)
  empty_is =
      part_of (attribute_rules p ++ plain at_any 0 ∷ plain ee 0 ∷ []) (plain ee 1 ∷ [])
      (All-append R (attribute_rules p) (plain at_any 0 ∷ plain ee 0 ∷ []) attributes_is
      (two R (plain at_any 0) (plain ee 0) (at_any_good p (IsFullBelow (all_grammars p)), lit< tt) (ee_good p (IsFullBelow (all_grammars p)), lit< tt)))
      (one R (plain ee 1) (ee_good p (IsFullBelow (all_grammars p)), lit< tt))
