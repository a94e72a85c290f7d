-- The heads of substitution groups: each path along them ends.
use Rattle.std.proofs.Common.{◌≡◌, ℕ, suc, ◌<◌, Bool, true, false, cond, not, Option, Some, None, option_map, option_to_list, List, length, refl, sym, ap, ◌∙◌}
use Rattle.std.specs.List.{list_all, slice_get}
use Rattle.std.proofs.lemmas.Bool.{and_from, and_parts, cond-false, cond-true}
use Rattle.std.proofs.lemmas.Option.{none-some}
use Rattle.xsd_model.specs.Parts.{Parts, all_end, head_in, heads_at}
use Rattle.xsd_model.specs.declared.parts.ElementDecl.{ElementDecl}
use Rattle.xsd_tree.specs.Trees.{IsTree}
use Rattle.xsd_tree.specs.declared.node.Node.{Node}
use Rattle.xsd_nodes.specs.Nodes.{is_among_at, is_at, is_global, text_at}
use Rattle.xsd_nodes.specs.declared.attribute_name.AttributeName.TheVariants as attribute
use Rattle.xsd_nodes.specs.declared.part.Part.TheVariants as part
use Rattle.xsd_components.specs.References.{elements, named_component, text_names}
use Rattle.xsd_declared.specs.Decls.{head_at}
use Rattle.xsd_declared.specs.Lists.{element_at, elements_of}
use Rattle.xsd_derivations.specs.Derivations as derivations
use Rattle.xsd_derivations.specs.Derivations.{head_named}
use Rattle.xsd_paths.specs.Paths.{is_whole_within, leads_to}
use Rattle.xsd_places.specs.Kinds.{place_of, refers}
use Rattle.xsd_places.specs.declared.kind.Kind.TheVariants as kind
use Rattle.xsd_steps.specs.Steps.{steps, typed_parts}
use Rattle.xsd_schema.proofs.Ends.{GoesOn, IsOne, each_ends}
use Rattle.xsd_schema.proofs.Named.{element_kind, kind_parts, text_names_global}
use Rattle.xsd_schema.proofs.Steps.{AreSure}
use Rattle.xsd_schema.proofs.Sure.{at_not, at_not_among}

element_steps : (ns : List Node) (i : ℕ) → is_at ns part.Element i ≡ true → is_global ns i ≡ true → steps ns i ≡ head_named ns i
element_steps ns i e global =
    cond-false (is_among_at ns typed_parts i) _ _ (at_not_among ns part.Element typed_parts i e refl)
    ∙ cond-false (is_at ns part.Group i) _ _ (at_not ns part.Element part.Group i e refl)
    ∙ cond-false (is_at ns part.AttributeGroup i) _ _ (at_not ns part.Element part.AttributeGroup i e refl)
    ∙ cond-true (is_at ns part.Element i) _ _ e
    ∙ cond-true (is_global ns i) _ _ global

head_led : (ns : List Node) (test : ℕ → Bool) (i h : ℕ) (text : Option (List ℕ)) → list_all (leads_to test) (derivations.head_in ns i text) ≡ true → text_names ns elements i text ≡ Some h → test h ≡ true
head_led ns test i h None all e = absurd (none-some h e)
head_led ns test i h (Some text) all e = sym (ap (leads_to test) e) ∙ (and_parts (leads_to test (named_component ns elements i text)) true all).0

-- the head that an element has
record HasHead (ns : List Node) (i h : ℕ) : Type 0 where
  global : is_global ns i ≡ true
  named : text_names ns elements i (text_at ns attribute.SubstitutionGroup i) ≡ Some h

has_head : (ns : List Node) (i h : ℕ) (b : Bool) → is_global ns i ≡ b → cond b (text_names ns elements i (text_at ns attribute.SubstitutionGroup i)) None ≡ Some h → HasHead ns i h
has_head ns i h true g e = record { global = g; named = e }
has_head ns i h false g e = absurd (none-some h e)

head_on : (ns : List Node) (n i : ℕ) (test : ℕ → Bool) (o : Option ℕ) → IsTree ns → IsOne kind.Element ns (suc n) i → ((j : ℕ) → IsOne kind.Element ns n j → test (place_of kind.Element ns j) ≡ true) → head_at ns i ≡ o → list_all test (option_to_list (option_map (place_of kind.Element ns) o)) ≡ true
head_on ns n i test None tree h passes e = refl
head_on ns n i test (Some j) tree h passes e =
    let head = has_head ns i j (is_global ns i) refl e in
    let global = text_names_global ns elements i (text_at ns attribute.SubstitutionGroup i) j head.named in
    let element = (and_parts (is_at ns part.Element i) (not (refers ns i)) (kind_parts kind.Element ns i h.kind).1).0 in
    let whole = head_led ns (is_whole_within n ns) i j (text_at ns attribute.SubstitutionGroup i) (sym (ap (list_all (leads_to (is_whole_within n ns))) (element_steps ns i element head.global)) ∙ h.whole) head.named in
    and_from (test (place_of kind.Element ns j)) true (passes j (record { there = global.there; kind = element_kind ns j tree global; whole = whole })) refl

heads_go_on : (ns : List Node) → IsTree ns → GoesOn kind.Element ns (element_at ns) head_in
heads_go_on ns tree n i test h passes = head_on ns n i test (head_at ns i) tree h passes refl

pub heads_end : (ns : List Node) (p : Parts) → IsTree ns → AreSure ns → p.elements ≡ elements_of ns → (place : ℕ) → place < length p.elements → (n : ℕ) × (all_end (heads_at p) n place ≡ true)
heads_end ns p tree sure e place less =
    let ends = each_ends kind.Element ns (element_at ns) head_in (heads_go_on ns tree) tree sure place (rw (sym e) less) in
    (ends.0, ap (λ (es : List ElementDecl). all_end (λ (q : ℕ). head_in (slice_get es q)) ends.0 place) e ∙ ends.1)
