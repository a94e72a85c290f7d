-- What a type is derived from is a type that is there, and the paths from there are shorter.
use Rattle.std.proofs.Common.{◌≡◌, ℕ, zero, suc, ◌+◌, ◌<◌, ◌==◌, Bool, true, false, cond, ◌||◌, ◌&&◌, Option, Some, None, inl, inr, List, [], ◌∷◌, length, refl, sym, ap, ◌∙◌, true≢false, arith}
use Rattle.std.specs.List.{flat_map, list_all}
use Rattle.std.proofs.lemmas.Bool.{and_from, and_parts, cases_Bool, cond-false, cond-true, cond_both, false≢true, or_cases, or_left, or_right, true_from_ne_false}
use Rattle.std.proofs.lemmas.List.Folds.{list_all-append}
use Rattle.std.proofs.lemmas.Option.{none-some}
use Rattle.xsd_tree.specs.Trees.{IsTree}
use Rattle.xsd_tree.specs.declared.node.Node.{Node}
use Rattle.xsd_nodes.specs.Nodes.{child, child_of, holder, is_among_at, is_at, is_skipped, part_at, text_at}
use Rattle.xsd_nodes.specs.PartNames.{is_part}
use Rattle.xsd_nodes.specs.declared.attribute_name.AttributeName.TheVariants as attribute
use Rattle.xsd_nodes.specs.declared.part.Part.TheVariants as part
use Rattle.xsd_builtins.specs.BuiltIns.{any_type}
use Rattle.xsd_components.specs.References.{at_node, base, complex_only, derivation, inline, is_simple, or_inline, simple_only, text_names_type}
use Rattle.xsd_components.specs.declared.type_at.TypeAt.{TypeAt}
use Rattle.xsd_components.specs.declared.type_at.TypeAt.TheVariants as type_at
use Rattle.xsd_contents.specs.Contents.{after_step, by_base, leaves_base, value_derived, value_here, value_in_complex, value_in_simple, value_type_within}
use Rattle.xsd_contents.specs.declared.value_step.ValueStep.{ValueStep}
use Rattle.xsd_contents.specs.declared.value_step.ValueStep.TheVariants as step
use Rattle.xsd_declared.specs.Decls.{or_any_simple}
use Rattle.xsd_derivations.specs.Derivations.{derived_from, derived_in, held_type, inline_in}
use Rattle.xsd_particles.specs.Particles.{base_by, complex_base, or_any}
use Rattle.xsd_document.proofs.Below.{or_zero}
use Rattle.xsd_paths.specs.Paths.{is_whole, is_whole_within, leads_to}
use Rattle.xsd_paths.proofs.Within.{within_one_more}
use Rattle.xsd_places.specs.Kinds.{is_kind}
use Rattle.xsd_places.specs.declared.kind.Kind.TheVariants as kind
use Rattle.xsd_steps.specs.Steps.{step_to, steps, typed_parts}
use Rattle.xsd_values.specs.Restricted.{or_value_of_base, restricted_type, value_of_base}
use Rattle.xsd_values.proofs.Bases.{AllLead, Leads, extension_leads, restriction_leads}
use Rattle.xsd_schema.proofs.Ends.{IsOne}
use Rattle.xsd_schema.proofs.Held.{child_held}
use Rattle.xsd_schema.proofs.Named.{IsType, IsTypeOr, complex_only_is, held_type_is, kind_free, kind_parts, named_type_is, simple_only_is, text_names_type_is}
use Rattle.xsd_schema.proofs.Stays.{IsDerivation, content_parts, turned}
use Rattle.xsd_schema.proofs.Steps.{AreSure, in_complex, in_simple, of_itself, restriction_holder}
use Rattle.xsd_schema.proofs.Sure.{among_more, at_among, at_not}

-- ---- the base of a derivation is a type
either_is : (ns : List Node) (b : Bool) (s t : Option TypeAt) → IsTypeOr ns s → IsTypeOr ns t → IsTypeOr ns (cond b s t)
either_is ns true s t h g = h
either_is ns false s t h g = g

at_node_is : (ns : List Node) (o : Option ℕ) → ((j : ℕ) → o ≡ Some j → IsType ns (type_at.Node j)) → IsTypeOr ns (at_node o)
at_node_is ns None h = tt
at_node_is ns (Some j) h = h j refl

pub inline_is : (ns : List Node) (d : ℕ) → IsTree ns → is_skipped ns d ≡ false → IsTypeOr ns (inline ns d)
inline_is ns d tree free =
    at_node_is ns (child ns (part.SimpleType ∷ []) d)
    (λ j e.
    let held = child_held ns (part.SimpleType ∷ []) d j e in
    held_type_is ns (part.SimpleType ∷ []) d j tree held free refl (among_more ns (part.SimpleType ∷ []) (part.SimpleType ∷ part.ComplexType ∷ []) j refl held.among))

pub or_inline_is : (ns : List Node) (d : ℕ) (text : Option (List ℕ)) → IsTree ns → is_skipped ns d ≡ false → IsTypeOr ns (or_inline ns d text)
or_inline_is ns d None tree free = inline_is ns d tree free
or_inline_is ns d (Some text) tree free = named_type_is ns d text tree

pub base_is : (ns : List Node) (d : ℕ) → IsTree ns → is_skipped ns d ≡ false → IsTypeOr ns (base ns d)
base_is ns d tree free =
    let text = text_at ns attribute.Base d in
    either_is ns (is_part part.SimpleType (holder ns d)) (simple_only ns (or_inline ns d text)) _ (simple_only_is ns (or_inline ns d text) (or_inline_is ns d text tree free))
    (either_is ns (is_part part.ComplexContent (holder ns d)) (complex_only ns (text_names_type ns d text)) (text_names_type ns d text)
    (complex_only_is ns (text_names_type ns d text) (text_names_type_is ns d text tree))
    (text_names_type_is ns d text tree))

-- ---- what is there, with paths that end within so many steps
abbrev pub IsGood : List Node → ℕ → TypeAt → Type 0
IsGood ns n (type_at.Built place) = place < 46
IsGood ns n (type_at.Node j) = IsOne kind.Type ns n j

abbrev pub IsGoodOr : List Node → ℕ → Option TypeAt → Type 0
IsGoodOr ns n None = Unit {0}
IsGoodOr ns n (Some t) = IsGood ns n t

good_from : (ns : List Node) (n : ℕ) (t : Option TypeAt) → IsTypeOr ns t → Leads (is_whole_within n ns) t → IsGoodOr ns n t
good_from ns n None h l = tt
good_from ns n (Some (type_at.Built place)) h l = h
good_from ns n (Some (type_at.Node j)) h l = record { there = h.0; kind = h.1; whole = (and_parts (is_whole_within n ns j) true l).0 }

good_more : (ns : List Node) (n : ℕ) (t : Option TypeAt) → IsGoodOr ns n t → IsGoodOr ns (suc n) t
good_more ns n None h = tt
good_more ns n (Some (type_at.Built place)) h = h
good_more ns n (Some (type_at.Node j)) h = record { there = h.there; kind = h.kind; whole = within_one_more n ns j h.whole }

-- ---- how a type is derived
typed_kind : (ns : List Node) (i : ℕ) → is_kind kind.Type ns i ≡ true → is_among_at ns typed_parts i ≡ true
typed_kind ns i k = elim (or_cases (is_at ns part.SimpleType i || (is_at ns part.Restriction i && is_part part.SimpleContent (holder ns i))) (is_at ns part.ComplexType i) (kind_parts kind.Type ns i k).1) [
  | inl e ↦ elim (or_cases (is_at ns part.SimpleType i) (is_at ns part.Restriction i && is_part part.SimpleContent (holder ns i)) e) [
    | inl s ↦ at_among ns part.SimpleType typed_parts i s refl
    | inr r ↦ at_among ns part.Restriction typed_parts i (and_parts (is_at ns part.Restriction i) (is_part part.SimpleContent (holder ns i)) r).0 refl
  ]
  | inr c ↦ at_among ns part.ComplexType typed_parts i c refl
]

derived_steps : (ns : List Node) (i d : ℕ) → is_among_at ns typed_parts i ≡ true → derivation ns i ≡ Some d → steps ns i ≡ flat_map step_to (derived_in ns d)
derived_steps ns i d typed e = cond-true (is_among_at ns typed_parts i) _ _ typed ∙ ap (λ (o : Option ℕ). flat_map step_to (derived_from ns o)) e

some_is : (i d : ℕ) (P : ℕ → Type 0) → Some i ≡ Some d → P i → P d
some_is i d P e h = rw (sym (ap or_zero e)) h

derivation_is : (ns : List Node) (i d : ℕ) → IsTree ns → AreSure ns → i < length ns → is_skipped ns i ≡ false → derivation ns i ≡ Some d → IsDerivation ns d
derivation_is ns i d tree sure less free e =
    let P = λ (o : Option ℕ). o ≡ Some d → IsDerivation ns d in
    cond_both (is_at ns part.SimpleType i) (child ns (part.Restriction ∷ part.List ∷ part.Union ∷ []) i) _ P
    (λ s f. in_simple ns i d tree free s (child_held ns (part.Restriction ∷ part.List ∷ part.Union ∷ []) i d f))
    (λ s. cond_both (is_at ns part.ComplexType i) (child_of ns (part.Restriction ∷ part.Extension ∷ []) (child ns content_parts i)) _ P
    (λ c f. in_complex ns i d (child ns content_parts i) tree free refl f)
    (λ c. cond_both (is_at ns part.Restriction i) (Some i) None P
    (λ r f. some_is i d (IsDerivation ns) f (of_itself ns i less free r (restriction_holder ns i tree less (sure i less free) r)))
    (λ r f. absurd (none-some d f)))) e

-- a complex type by a restriction or an extension
child_derives : (ns : List Node) (o : Option ℕ) (d : ℕ) → child_of ns (part.Restriction ∷ part.Extension ∷ []) o ≡ Some d → is_among_at ns (part.Restriction ∷ part.Extension ∷ []) d ≡ true
child_derives ns None d e = absurd (none-some d e)
child_derives ns (Some c) d e = (child_held ns (part.Restriction ∷ part.Extension ∷ []) c d e).among

complex_derives : (ns : List Node) (i d : ℕ) → is_at ns part.ComplexType i ≡ true → derivation ns i ≡ Some d → is_among_at ns (part.Restriction ∷ part.Extension ∷ []) d ≡ true
complex_derives ns i d c e =
    child_derives ns (child ns content_parts i) d
    (sym (cond-false (is_at ns part.SimpleType i) _ _ (at_not ns part.ComplexType part.SimpleType i c refl) ∙ cond-true (is_at ns part.ComplexType i) _ _ c) ∙ e)

own_derivation : (ns : List Node) (d : ℕ) → is_at ns part.Restriction d ≡ true → derivation ns d ≡ Some d
own_derivation ns d r =
    cond-false (is_at ns part.SimpleType d) _ _ (at_not ns part.Restriction part.SimpleType d r refl)
    ∙ cond-false (is_at ns part.ComplexType d) _ _ (at_not ns part.Restriction part.ComplexType d r refl)
    ∙ cond-true (is_at ns part.Restriction d) _ _ r

-- ---- the base
-- what the steps from a type lead to, by the element that derives it
abbrev AreWithin : List Node → ℕ → ℕ → Type 0
AreWithin ns n d = AllLead (is_whole_within n ns) (flat_map step_to (derived_in ns d))

restricted_base : (ns : List Node) (n d : ℕ) → IsTree ns → is_skipped ns d ≡ false → is_at ns part.Restriction d ≡ true → AreWithin ns n d → IsGoodOr ns n (base ns d)
restricted_base ns n d tree free r all = good_from ns n (base ns d) (base_is ns d tree free) (restriction_leads ns (is_whole_within n ns) d r all)

extended_base : (ns : List Node) (n d : ℕ) → IsTree ns → is_skipped ns d ≡ false → is_at ns part.Extension d ≡ true → AreWithin ns n d → IsGoodOr ns n (base ns d)
extended_base ns n d tree free x all = good_from ns n (base ns d) (base_is ns d tree free) (extension_leads ns (is_whole_within n ns) d (is_at ns part.Restriction d) refl x all)

one_or_other : (ns : List Node) (n d : ℕ) → IsTree ns → is_skipped ns d ≡ false → is_among_at ns (part.Restriction ∷ part.Extension ∷ []) d ≡ true → AreWithin ns n d → IsGoodOr ns n (base ns d)
one_or_other ns n d tree free among all = elim (cases_Bool (is_at ns part.Restriction d)) [
  | inl r ↦ restricted_base ns n d tree free r all
  | inr r ↦ extended_base ns n d tree free (is_extension ns d among r) all
]
  where
    is_extension : (ns : List Node) (d : ℕ) → is_among_at ns (part.Restriction ∷ part.Extension ∷ []) d ≡ true → is_at ns part.Restriction d ≡ false → is_at ns part.Extension d ≡ true
    is_extension ns d among r =
        let p = part_at ns d in elim (or_cases (is_part p part.Restriction) (is_part p part.Extension || false) among) [
          | inl it ↦ absurd (true≢false (sym (turned part.Restriction p it) ∙ r))
          | inr it ↦ turned part.Extension p (true_from_ne_false (is_part p part.Extension) (λ no. false≢true (sym (ap (λ b. b || false) no) ∙ it)))
        ]

-- ---- the type of a value
abbrev IsGoodStep : List Node → ℕ → ValueStep → Type 0
IsGoodStep ns n (step.Ends t) = IsGoodOr ns n t
IsGoodStep ns n (step.Goes t) = IsGood ns n t

after_good : (ns : List Node) (n : ℕ) (more : TypeAt → Option TypeAt) → ((t : TypeAt) → IsGood ns n t → IsGoodOr ns n (more t)) → (s : ValueStep) → IsGoodStep ns n s → IsGoodOr ns n (after_step more s)
after_good ns n more rest (step.Ends t) h = h
after_good ns n more rest (step.Goes t) h = rest t h

by_base_good : (ns : List Node) (n : ℕ) (t : Option TypeAt) → IsGoodOr ns n t → IsGoodStep ns n (by_base t)
by_base_good ns n None h = tt
by_base_good ns n (Some t) h = h

built_good : (ns : List Node) (n place : ℕ) (b : Bool) → place < 46 → IsGoodStep ns n (step.Ends (cond b None (Some (type_at.Built place))))
built_good ns n place true less = tt
built_good ns n place false less = less

-- the restriction of a simpleContent is a type of its own
restriction_good : (ns : List Node) (n d : ℕ) → d < length ns → is_skipped ns d ≡ false → is_at ns part.Restriction d ≡ true → is_part part.SimpleContent (holder ns d) ≡ true → AreWithin ns n d → IsGood ns (suc n) (type_at.Node d)
restriction_good ns n d less free r s all = record {
  there = less;
  kind = kind_free kind.Type ns d free (or_left (is_at ns part.SimpleType d || (is_at ns part.Restriction d && is_part part.SimpleContent (holder ns d))) (is_at ns part.ComplexType d) (or_right (is_at ns part.SimpleType d) (is_at ns part.Restriction d && is_part part.SimpleContent (holder ns d)) (and_from (is_at ns part.Restriction d) (is_part part.SimpleContent (holder ns d)) r s)));
  whole = ap (list_all (leads_to (is_whole_within n ns))) (derived_steps ns d d (at_among ns part.Restriction typed_parts d r refl) (own_derivation ns d r)) ∙ all;
}

extension_step : (ns : List Node) (n d : ℕ) → IsTree ns → is_skipped ns d ≡ false → is_at ns part.Extension d ≡ true → AreWithin ns n d → IsGoodStep ns (suc n) (by_base (base ns d))
extension_step ns n d tree free x all = by_base_good ns (suc n) (base ns d) (good_more ns n (base ns d) (extended_base ns n d tree free x all))

derived_good : (ns : List Node) (n : ℕ) (d : ℕ) → IsTree ns → IsDerivation ns d → AreWithin ns n d → IsGoodStep ns (suc n) (value_derived ns (Some d))
derived_good ns n d tree h all =
    let P = IsGoodStep ns (suc n) in
    cond_both (is_part part.SimpleContent (holder ns d)) (value_in_simple ns d) _ P
    (λ s. cond_both (is_at ns part.Restriction d) _ _ P
    (λ r. restriction_good ns n d h.there h.free r s all)
    (λ r. cond_both (is_at ns part.Extension d) _ _ P (λ x. extension_step ns n d tree h.free x all) (λ x. tt)))
    (λ s. cond_both (is_part part.ComplexContent (holder ns d)) (value_in_complex ns d) _ P
    (λ c. cond_both (is_at ns part.Extension d && leaves_base ns d) _ _ P
    (λ x. extension_step ns n d tree h.free (and_parts (is_at ns part.Extension d) (leaves_base ns d) x).0 all)
    (λ x. tt))
    (λ c. tt))

by_derivation : (ns : List Node) (n i : ℕ) (o : Option ℕ) → IsTree ns → AreSure ns → IsOne kind.Type ns (suc n) i → derivation ns i ≡ o → IsGoodStep ns (suc n) (value_derived ns o)
by_derivation ns n i None tree sure h e = tt
by_derivation ns n i (Some d) tree sure h e =
    derived_good ns n d tree (derivation_is ns i d tree sure h.there (kind_parts kind.Type ns i h.kind).0 e)
    (sym (ap (list_all (leads_to (is_whole_within n ns))) (derived_steps ns i d (typed_kind ns i h.kind) e)) ∙ h.whole)

here_good : (ns : List Node) (n : ℕ) (t : TypeAt) → IsTree ns → AreSure ns → IsGood ns n t → IsGoodStep ns n (value_here ns t)
here_good ns n (type_at.Built place) tree sure h = built_good ns n place (place == any_type) h
here_good ns zero (type_at.Node i) tree sure h = absurd (false≢true h.whole)
here_good ns (suc n) (type_at.Node i) tree sure h =
    cond_both (is_simple ns (type_at.Node i)) _ _ (IsGoodStep ns (suc n)) (λ s. h) (λ s. by_derivation ns n i (derivation ns i) tree sure h refl)

pub value_good : (m n : ℕ) (ns : List Node) (t : TypeAt) → IsTree ns → AreSure ns → IsGood ns n t → IsGoodOr ns n (value_type_within m ns t)
value_good zero n ns t tree sure h = tt
value_good (suc m) n ns t tree sure h = after_good ns n (value_type_within m ns) (λ s g. value_good m n ns s tree sure g) (value_here ns t) (here_good ns n t tree sure h)

-- ---- what a restriction restricts
value_of_good : (ns : List Node) (n : ℕ) (o : Option TypeAt) → IsTree ns → AreSure ns → IsGoodOr ns n o → IsGoodOr ns n (value_of_base ns o)
value_of_good ns n None tree sure h = tt
value_of_good ns n (Some t) tree sure h = value_good (length ns + 1) n ns t tree sure h

inner_leads : (test : ℕ → Bool) (b t : Option TypeAt) → AllLead test (flat_map step_to (b ∷ t ∷ [])) → Leads test t
inner_leads test b t all =
    let rest = (and_parts (list_all (leads_to test) (step_to b)) (list_all (leads_to test) (flat_map step_to (t ∷ []))) (sym (list_all-append (leads_to test) (step_to b) (flat_map step_to (t ∷ []))) ∙ all)).1 in
    (and_parts (list_all (leads_to test) (step_to t)) true (sym (list_all-append (leads_to test) (step_to t) []) ∙ rest)).0

held_or_value : (ns : List Node) (n : ℕ) (held b : Option TypeAt) → IsTree ns → AreSure ns → IsTypeOr ns held → IsGoodOr ns n b → AllLead (is_whole_within n ns) (flat_map step_to (b ∷ held_type held)) → IsGoodOr ns n (or_value_of_base ns held b)
held_or_value ns n None b tree sure h g all = value_of_good ns n b tree sure g
held_or_value ns n (Some t) b tree sure h g all = good_from ns n (Some t) h (inner_leads (is_whole_within n ns) b (Some t) all)

pub restricted_good : (ns : List Node) (n d : ℕ) → IsTree ns → AreSure ns → is_skipped ns d ≡ false → is_at ns part.Restriction d ≡ true → AreWithin ns n d → IsGoodOr ns n (restricted_type ns d)
restricted_good ns n d tree sure free r all =
    let own = restricted_base ns n d tree free r all in
    cond_both (is_part part.SimpleContent (holder ns d)) _ _ (IsGoodOr ns n)
    (λ s. held_or_value ns n (inline ns d) (base ns d) tree sure (inline_is ns d tree free) own
    (sym (ap (λ (l : List (Option TypeAt)). AllLeads l) (cond-true (is_at ns part.Restriction d) (base ns d ∷ inline_in ns d) _ r ∙ ap (λ (l : List (Option TypeAt)). base ns d ∷ l) (cond-true (is_part part.SimpleContent (holder ns d)) (held_type (inline ns d)) [] s))) ∙ all))
    (λ s. own)
  where
    AllLeads : List (Option TypeAt) → Bool
    AllLeads l = list_all (leads_to (is_whole_within n ns)) (flat_map step_to l)

-- ---- the base of a type
-- what a restriction restricts, where the paths from it end
abbrev pub restricted_by : List Node → Option ℕ → Option TypeAt
restricted_by ns None = None
restricted_by ns (Some d) = cond (is_at ns part.Restriction d && is_whole ns d) (restricted_type ns d) None

abbrev pub base_of_type : List Node → ℕ → TypeAt
base_of_type ns i = cond (is_at ns part.ComplexType i) (complex_base ns i) (or_any_simple (restricted_by ns (derivation ns i)))

or_any_good : (ns : List Node) (n : ℕ) (o : Option TypeAt) → IsGoodOr ns n o → IsGood ns n (or_any o)
or_any_good ns n None h = omega arith
or_any_good ns n (Some t) h = h

or_any_simple_good : (ns : List Node) (n : ℕ) (o : Option TypeAt) → IsGoodOr ns n o → IsGood ns n (or_any_simple o)
or_any_simple_good ns n None h = omega arith
or_any_simple_good ns n (Some t) h = h

all_within : (ns : List Node) (n i d : ℕ) → IsOne kind.Type ns (suc n) i → derivation ns i ≡ Some d → AreWithin ns n d
all_within ns n i d h e = sym (ap (list_all (leads_to (is_whole_within n ns))) (derived_steps ns i d (typed_kind ns i h.kind) e)) ∙ h.whole

complex_good : (ns : List Node) (n i : ℕ) (o : Option ℕ) → IsTree ns → AreSure ns → IsOne kind.Type ns (suc n) i → is_at ns part.ComplexType i ≡ true → derivation ns i ≡ o → IsGood ns n (base_by ns o)
complex_good ns n i None tree sure h c e = omega arith
complex_good ns n i (Some d) tree sure h c e =
    let derived = derivation_is ns i d tree sure h.there (kind_parts kind.Type ns i h.kind).0 e in
    or_any_good ns n (base ns d) (one_or_other ns n d tree derived.free (complex_derives ns i d c e) (all_within ns n i d h e))

restricted_by_good : (ns : List Node) (n i : ℕ) (o : Option ℕ) → IsTree ns → AreSure ns → IsOne kind.Type ns (suc n) i → derivation ns i ≡ o → IsGoodOr ns n (restricted_by ns o)
restricted_by_good ns n i None tree sure h e = tt
restricted_by_good ns n i (Some d) tree sure h e =
    let derived = derivation_is ns i d tree sure h.there (kind_parts kind.Type ns i h.kind).0 e in
    cond_both (is_at ns part.Restriction d && is_whole ns d) _ _ (IsGoodOr ns n)
    (λ r. restricted_good ns n d tree sure derived.free (and_parts (is_at ns part.Restriction d) (is_whole ns d) r).0 (all_within ns n i d h e))
    (λ r. tt)

pub base_of_type_good : (ns : List Node) (n i : ℕ) → IsTree ns → AreSure ns → IsOne kind.Type ns (suc n) i → IsGood ns n (base_of_type ns i)
base_of_type_good ns n i tree sure h =
    cond_both (is_at ns part.ComplexType i) _ _ (IsGood ns n)
    (λ c. complex_good ns n i (derivation ns i) tree sure h c refl)
    (λ c. or_any_simple_good ns n (restricted_by ns (derivation ns i)) (restricted_by_good ns n i (derivation ns i) tree sure h refl))
