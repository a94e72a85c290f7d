-- What elements that refer to a component refer to, in a document without a fault.
use Rattle.std.proofs.Common.{◌≡◌, ℕ, ◌<◌, Bool, true, false, cond, ◌&&◌, not, Option, Some, None, inl, inr, List, [], ◌∷◌, length, refl, sym, ap, ◌∙◌}
use Rattle.std.proofs.lemmas.Bool.{and_from, and_parts, cases_Bool, false≢true, true≢false}
use Rattle.xsd_tree.specs.declared.node.Node.{Node}
use Rattle.xsd_nodes.specs.Nodes.{has, is_among_at, is_global, is_root, is_skipped, parent_at, part_at, text_at}
use Rattle.xsd_nodes.specs.PartNames.{is_among, is_part}
use Rattle.xsd_nodes.specs.declared.attribute_name.AttributeName.TheVariants as attribute
use Rattle.xsd_nodes.specs.declared.part.Part.{Part}
use Rattle.xsd_nodes.specs.declared.part.Part.TheVariants as part
use Rattle.xsd_components.specs.References.{attribute_groups, attributes, elements, groups, text_names}
use Rattle.xsd_conditions.specs.Conditions.{if_told}
use Rattle.xsd_places.specs.Kinds.{refers}
use Rattle.xsd_told.specs.Told.{names_none, refers_to_missing, refers_to_none_of}
use Rattle.xsd_schema.proofs.Free.{IsFree}
use Rattle.xsd_schema.proofs.Tests.{not_true}

-- no condition holds of any element that no annotation holds
abbrev pub AllFree : Bool → List Node → Type 0
AllFree joined ns = (i : ℕ) → i < length ns → is_skipped ns i ≡ false → IsFree joined ns i

-- ---- by the attribute that names it
pub named_there : (ns : List Node) (ps : List Part) (i : ℕ) (text : Option (List ℕ)) → if_told text (not (has (text_names ns ps i text))) ≡ false → has text ≡ true → (j : ℕ) × (text_names ns ps i text ≡ Some j)
named_there ns ps i None e told = absurd (false≢true told)
named_there ns ps i (Some text) e told = there (text_names ns ps i (Some text)) e
  where
    there : (o : Option ℕ) → not (has o) ≡ false → (j : ℕ) × (o ≡ Some j)
    there None e = absurd (true≢false e)
    there (Some j) e = (j, refl)

-- what one within a type or group names
pub not_missing : (ns : List Node) (i : ℕ) → refers_to_missing ns i ≡ false → is_global ns i ≡ false → refers_to_none_of ns i ≡ false
not_missing ns i e local = sym (ap (λ b. not b && refers_to_none_of ns i) local) ∙ e

none_of_element : (ns : List Node) (i : ℕ) → part_at ns i ≡ part.Element → refers_to_none_of ns i ≡ names_none ns elements attribute.Ref i
none_of_element ns i e = ap (λ (q : Part). cond (is_part part.Element q) (names_none ns elements attribute.Ref i) (cond (is_part part.Attribute q) (names_none ns attributes attribute.Ref i) (cond (is_part part.Group q) (names_none ns groups attribute.Ref i) (is_part part.AttributeGroup q && names_none ns attribute_groups attribute.Ref i)))) e

none_of_attribute : (ns : List Node) (i : ℕ) → part_at ns i ≡ part.Attribute → refers_to_none_of ns i ≡ names_none ns attributes attribute.Ref i
none_of_attribute ns i e = ap (λ (q : Part). cond (is_part part.Element q) (names_none ns elements attribute.Ref i) (cond (is_part part.Attribute q) (names_none ns attributes attribute.Ref i) (cond (is_part part.Group q) (names_none ns groups attribute.Ref i) (is_part part.AttributeGroup q && names_none ns attribute_groups attribute.Ref i)))) e

none_of_group : (ns : List Node) (i : ℕ) → part_at ns i ≡ part.Group → refers_to_none_of ns i ≡ names_none ns groups attribute.Ref i
none_of_group ns i e = ap (λ (q : Part). cond (is_part part.Element q) (names_none ns elements attribute.Ref i) (cond (is_part part.Attribute q) (names_none ns attributes attribute.Ref i) (cond (is_part part.Group q) (names_none ns groups attribute.Ref i) (is_part part.AttributeGroup q && names_none ns attribute_groups attribute.Ref i)))) e

none_of_attribute_group : (ns : List Node) (i : ℕ) → part_at ns i ≡ part.AttributeGroup → refers_to_none_of ns i ≡ names_none ns attribute_groups attribute.Ref i
none_of_attribute_group ns i e = ap (λ (q : Part). cond (is_part part.Element q) (names_none ns elements attribute.Ref i) (cond (is_part part.Attribute q) (names_none ns attributes attribute.Ref i) (cond (is_part part.Group q) (names_none ns groups attribute.Ref i) (is_part part.AttributeGroup q && names_none ns attribute_groups attribute.Ref i)))) e

referred : (ns : List Node) (ps : List Part) (i : ℕ) → refers_to_missing ns i ≡ false → is_global ns i ≡ false → refers_to_none_of ns i ≡ names_none ns ps attribute.Ref i → has (text_at ns attribute.Ref i) ≡ true → (j : ℕ) × (text_names ns ps i (text_at ns attribute.Ref i) ≡ Some j)
referred ns ps i free local by told = named_there ns ps i (text_at ns attribute.Ref i) (sym by ∙ not_missing ns i free local) told

module _ (joined : Bool) (ns : List Node) (i : ℕ) (free : IsFree joined ns i) where
  -- an element or attribute that refers
  pub element_referred : part_at ns i ≡ part.Element → refers ns i ≡ true → (j : ℕ) × (text_names ns elements i (text_at ns attribute.Ref i) ≡ Some j)
  element_referred e told =
      let both = and_parts (not (is_global ns i)) (has (text_at ns attribute.Ref i)) told in
      referred ns elements i free.missing (not_true (is_global ns i) both.0) (none_of_element ns i e) both.1

  pub attribute_referred : part_at ns i ≡ part.Attribute → refers ns i ≡ true → (j : ℕ) × (text_names ns attributes i (text_at ns attribute.Ref i) ≡ Some j)
  attribute_referred e told =
      let both = and_parts (not (is_global ns i)) (has (text_at ns attribute.Ref i)) told in
      referred ns attributes i free.missing (not_true (is_global ns i) both.0) (none_of_attribute ns i e) both.1

  -- a group that is not declared here does refer
  refer_told : is_among (part.Group ∷ part.AttributeGroup ∷ []) (part_at ns i) ≡ true → is_global ns i ≡ false → has (text_at ns attribute.Ref i) ≡ true
  refer_told among local = elim (cases_Bool (has (text_at ns attribute.Ref i))) [
    | inl told ↦ told
    | inr untold ↦
        absurd (true≢false (sym
        (and_from (is_among_at ns (part.Group ∷ part.AttributeGroup ∷ []) i && not (is_global ns i)) (not (has (text_at ns attribute.Ref i)))
        (and_from (is_among_at ns (part.Group ∷ part.AttributeGroup ∷ []) i) (not (is_global ns i)) among (ap not local))
        (ap not untold)) ∙ free.no_reference))
  ]

  pub group_referred : part_at ns i ≡ part.Group → is_global ns i ≡ false → (j : ℕ) × (text_names ns groups i (text_at ns attribute.Ref i) ≡ Some j)
  group_referred e local = referred ns groups i free.missing local (none_of_group ns i e) (refer_told (ap (is_among (part.Group ∷ part.AttributeGroup ∷ [])) e) local)

  pub attribute_group_referred : part_at ns i ≡ part.AttributeGroup → is_global ns i ≡ false → (j : ℕ) × (text_names ns attribute_groups i (text_at ns attribute.Ref i) ≡ Some j)
  attribute_group_referred e local = referred ns attribute_groups i free.missing local (none_of_attribute_group ns i e) (refer_told (ap (is_among (part.Group ∷ part.AttributeGroup ∷ [])) e) local)

-- what lies within an element that another holds is not global
pub held_local : (ns : List Node) (i j r : ℕ) → parent_at ns j ≡ Some i → parent_at ns i ≡ Some r → is_global ns j ≡ false
held_local ns i j r e f = ap (is_root ns) e ∙ ap (λ (o : Option ℕ). not (has o)) f
