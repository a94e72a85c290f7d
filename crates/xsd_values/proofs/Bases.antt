-- A type's base is among what its steps lead to.
use Rattle.std.proofs.Common.{◌≡◌, ℕ, Bool, true, false, cond, ◌&&◌, ◌||◌, Option, Some, None, List, [], ◌∷◌, ◌++◌, IfSome, eqb, not, refl, sym, ap, ◌∙◌}
use Rattle.std.specs.List.{flat_map, list_all}
use Rattle.std.proofs.lemmas.Bool.{and_parts, cond-false, cond-true, eq-eqb, eqb-true, or_left, or_right}
use Rattle.std.proofs.lemmas.List.Folds.{list_all-append}
use Rattle.xsd_tree.specs.declared.node.Node.{Node}
use Rattle.xsd_nodes.specs.Nodes.{holder, is_among_at, is_at, part_at}
use Rattle.xsd_nodes.specs.PartNames.{is_part, part_number}
use Rattle.xsd_nodes.specs.declared.part.Part.{Part}
use Rattle.xsd_nodes.specs.declared.part.Part.TheVariants as part
use Rattle.xsd_components.specs.References.{base, derivation}
use Rattle.xsd_components.specs.declared.type_at.TypeAt.{TypeAt}
use Rattle.xsd_components.specs.declared.type_at.TypeAt.TheVariants as type_at
use Rattle.xsd_contents.specs.Contents.{after_step, by_base, is_mixed, leaves_base, value_derived}
use Rattle.xsd_contents.specs.declared.value_step.ValueStep.TheVariants as step
use Rattle.xsd_derivations.specs.Derivations.{derived_from, derived_in, inline_in}
use Rattle.xsd_paths.specs.Paths.{is_whole, is_whole_type, leads_to}
use Rattle.xsd_paths.proofs.Within.{whole_steps}
use Rattle.xsd_steps.specs.Steps.{step_to, steps, typed_parts}
use Rattle.xsd_values.specs.Mixed.{is_mixed_in, mixed_base}
use Rattle.xsd_values.specs.Told.{mixed_by, value_by}

-- the step to a type passes a test, where there is one
abbrev pub Leads : (ℕ → Bool) → Option TypeAt → Type 0
Leads test t = list_all (leads_to test) (step_to t) ≡ true

abbrev pub AllLead : (ℕ → Bool) → List (Option ℕ) → Type 0
AllLead test os = list_all (leads_to test) os ≡ true

-- ---- the first of several
first_leads : (test : ℕ → Bool) (t : Option TypeAt) (ts all : List (Option TypeAt)) → all ≡ t ∷ ts → AllLead test (flat_map step_to all) → Leads test t
first_leads test t ts all all_is e =
    let front : list_all (leads_to test) (step_to t ++ flat_map step_to ts) ≡ true = ap (λ (l : List (Option TypeAt)). list_all (leads_to test) (flat_map step_to l)) (sym all_is) ∙ e in
    (and_parts (list_all (leads_to test) (step_to t)) (list_all (leads_to test) (flat_map step_to ts)) (sym (list_all-append (leads_to test) (step_to t) (flat_map step_to ts)) ∙ front)).0

-- ---- the base of a derivation
pub restriction_leads : (ns : List Node) (test : ℕ → Bool) (d : ℕ) → is_at ns part.Restriction d ≡ true → AllLead test (flat_map step_to (derived_in ns d)) → Leads test (base ns d)
restriction_leads ns test d restricts e = first_leads test (base ns d) (inline_in ns d) (derived_in ns d) (cond-true (is_at ns part.Restriction d) (base ns d ∷ inline_in ns d) _ restricts) e

pub extension_leads : (ns : List Node) (test : ℕ → Bool) (d : ℕ) (r : Bool) → is_at ns part.Restriction d ≡ r → is_at ns part.Extension d ≡ true → AllLead test (flat_map step_to (derived_in ns d)) → Leads test (base ns d)
extension_leads ns test d true restricts extends e = restriction_leads ns test d restricts e
extension_leads ns test d false restricts extends e =
    first_leads test (base ns d) [] (derived_in ns d) (cond-false (is_at ns part.Restriction d) (base ns d ∷ inline_in ns d) _ restricts ∙ cond-true (is_at ns part.Extension d) (base ns d ∷ []) _ extends) e

-- ---- the base of a type
part_same : (p q : Part) → is_part p q ≡ true → is_part q p ≡ true
part_same p q e = eq-eqb (part_number q) (part_number p) (sym (eqb-true (part_number p) (part_number q) e))

typed_steps : (ns : List Node) (test : ℕ → Bool) (i d : ℕ) → is_among_at ns typed_parts i ≡ true → derivation ns i ≡ Some d → AllLead test (steps ns i) → AllLead test (flat_map step_to (derived_in ns d))
typed_steps ns test i d typed derived e =
    let there : steps ns i ≡ flat_map step_to (derived_in ns d) =
    cond-true (is_among_at ns typed_parts i) (flat_map step_to (derived_from ns (derivation ns i))) _ typed ∙ ap (λ (o : Option ℕ). flat_map step_to (derived_from ns o)) derived in
    ap (list_all (leads_to test)) (sym there) ∙ e

pub complex_base : (ns : List Node) (test : ℕ → Bool) (i d : ℕ) → is_at ns part.ComplexType i ≡ true → derivation ns i ≡ Some d → is_at ns part.Extension d ≡ true → AllLead test (steps ns i) → Leads test (base ns d)
complex_base ns test i d complex derived extends e =
    let p = part_at ns i in
    let here : is_part p part.ComplexType ≡ true = part_same part.ComplexType p complex in
    let typed : is_among_at ns typed_parts i ≡ true = or_right (is_part p part.SimpleType) (is_part p part.ComplexType || (is_part p part.Restriction || false)) (or_left (is_part p part.ComplexType) (is_part p part.Restriction || false) here) in
    extension_leads ns test d (is_at ns part.Restriction d) refl extends (typed_steps ns test i d typed derived e)

-- ---- the base of a restriction
own_derivation : (ns : List Node) (d : ℕ) → is_at ns part.Restriction d ≡ true → derivation ns d ≡ Some d
own_derivation ns d restricts =
    let number : part_number (part_at ns d) ≡ 12 = sym (eqb-true 12 (part_number (part_at ns d)) restricts) in
    let no_simple : is_at ns part.SimpleType d ≡ false = ap (λ (n : ℕ). eqb 9 n) number in
    let no_complex : is_at ns part.ComplexType d ≡ false = ap (λ (n : ℕ). eqb 8 n) number in
    cond-false (is_at ns part.SimpleType d) _ _ no_simple ∙ cond-false (is_at ns part.ComplexType d) _ _ no_complex ∙ cond-true (is_at ns part.Restriction d) _ _ restricts

restriction_base : (ns : List Node) (test : ℕ → Bool) (d : ℕ) → is_at ns part.Restriction d ≡ true → AllLead test (steps ns d) → Leads test (base ns d)
restriction_base ns test d restricts e =
    let p = part_at ns d in
    let here : is_part p part.Restriction ≡ true = part_same part.Restriction p restricts in
    let typed : is_among_at ns typed_parts d ≡ true =
    or_right (is_part p part.SimpleType) (is_part p part.ComplexType || (is_part p part.Restriction || false)) (or_right (is_part p part.ComplexType) (is_part p part.Restriction || false) (or_left (is_part p part.Restriction) false here)) in
    restriction_leads ns test d restricts (typed_steps ns test d d typed (own_derivation ns d restricts) e)

leads_whole : (ns : List Node) (t : Option TypeAt) → Leads (is_whole ns) t → IfSome t (λ x. is_whole_type ns x ≡ true)
leads_whole ns None l = tt
leads_whole ns (Some (type_at.Built place)) l = refl
leads_whole ns (Some (type_at.Node j)) l = (and_parts (is_whole ns j) true l).0

pub restricted_whole : (ns : List Node) (d : ℕ) → is_at ns part.Restriction d ≡ true → is_whole ns d ≡ true → IfSome (base ns d) (λ t. is_whole_type ns t ≡ true)
restricted_whole ns d restricts whole = leads_whole ns (base ns d) (restriction_base ns (is_whole ns) d restricts (whole_steps ns d whole))

-- ---- what is told of a type is by what is told of its base
value_shape : (f g : TypeAt → Option TypeAt) (own : Option TypeAt) (s r e c l : Bool) (t : Option TypeAt) → (e ≡ true → after_step f (by_base t) ≡ after_step g (by_base t)) → after_step f (cond s (cond r (step.Ends own) (cond e (by_base t) (step.Ends None))) (cond c (cond (e && l) (by_base t) (step.Ends None)) (step.Ends None))) ≡ after_step g (cond s (cond r (step.Ends own) (cond e (by_base t) (step.Ends None))) (cond c (cond (e && l) (by_base t) (step.Ends None)) (step.Ends None)))
value_shape f g own true true e c l t h = refl
value_shape f g own true false true c l t h = h refl
value_shape f g own true false false c l t h = refl
value_shape f g own false r true true true t h = h refl
value_shape f g own false r true true false t h = refl
value_shape f g own false r false true l t h = refl
value_shape f g own false r e false l t h = refl

pub values_agree : (ns : List Node) (test : ℕ → Bool) (f g : TypeAt → Option TypeAt) (i : ℕ) → ((t : TypeAt) → Leads test (Some t) → f t ≡ g t) → AllLead test (steps ns i) → value_by ns f i ≡ value_by ns g i
values_agree ns test f g i agree e = go (is_at ns part.ComplexType i) (derivation ns i) refl refl
  where
    on_base : (t : Option TypeAt) → Leads test t → after_step f (by_base t) ≡ after_step g (by_base t)
    on_base None l = refl
    on_base (Some t) l = agree t l

    go : (c : Bool) (o : Option ℕ) → is_at ns part.ComplexType i ≡ c → derivation ns i ≡ o → after_step f (cond (not c) (step.Ends (Some (type_at.Node i))) (value_derived ns o)) ≡ after_step g (cond (not c) (step.Ends (Some (type_at.Node i))) (value_derived ns o))
    go false o c_is o_is = refl
    go true None c_is o_is = refl
    go true (Some d) c_is o_is =
        value_shape f g (Some (type_at.Node d)) (is_part part.SimpleContent (holder ns d)) (is_at ns part.Restriction d) (is_at ns part.Extension d) (is_part part.ComplexContent (holder ns d)) (leaves_base ns d) (base ns d)
        (λ extends. on_base (base ns d) (complex_base ns test i d c_is o_is extends e))

mixed_shape : (f g : TypeAt → Bool) (c r e l m : Bool) (t : Option TypeAt) → (e ≡ true → mixed_base f t ≡ mixed_base g t) → (c && cond r m (cond e (cond l (mixed_base f t) m) false)) ≡ (c && cond r m (cond e (cond l (mixed_base g t) m) false))
mixed_shape f g false r e l m t h = refl
mixed_shape f g true true e l m t h = refl
mixed_shape f g true false true true m t h = h refl
mixed_shape f g true false true false m t h = refl
mixed_shape f g true false false l m t h = refl

pub mixed_agree : (ns : List Node) (test : ℕ → Bool) (f g : TypeAt → Bool) (i : ℕ) → ((t : TypeAt) → Leads test (Some t) → f t ≡ g t) → AllLead test (steps ns i) → mixed_by ns f i ≡ mixed_by ns g i
mixed_agree ns test f g i agree e = go (is_at ns part.ComplexType i) (derivation ns i) refl refl
  where
    on_base : (t : Option TypeAt) → Leads test t → mixed_base f t ≡ mixed_base g t
    on_base None l = refl
    on_base (Some t) l = agree t l

    go : (c : Bool) (o : Option ℕ) → is_at ns part.ComplexType i ≡ c → derivation ns i ≡ o → (c && is_mixed_in ns f i o) ≡ (c && is_mixed_in ns g i o)
    go false o c_is o_is = refl
    go true None c_is o_is = refl
    go true (Some d) c_is o_is =
        mixed_shape f g (is_part part.ComplexContent (holder ns d)) (is_at ns part.Restriction d) (is_at ns part.Extension d) (leaves_base ns d) (is_mixed ns d) (base ns d)
        (λ extends. on_base (base ns d) (complex_base ns test i d c_is o_is extends e))
