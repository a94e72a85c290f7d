-- What a type is hangs on those types alone to which its steps lead, and on those whose values they are.
use Rattle.std.proofs.Common.{◌≡◌, ℕ, zero, suc, ◌+◌, ◌≤◌, Bool, true, false, cond, ◌||◌, ◌&&◌, not, ◌==◌, eqb, Option, Some, None, List, [], ◌∷◌, ◌++◌, IfSome, length, take, refl, sym, ap, ◌∙◌, arith}
use Rattle.std.specs.List.{flat_map, list_all}
use Rattle.std.proofs.lemmas.Bool.{and_parts, cond-false, cond-true, eq-eqb, eqb-true, false≢true, or_left, or_right}
use Rattle.std.proofs.lemmas.List.Folds.{list_all-append}
use Rattle.xsd_tree.specs.declared.node.Node.{Node}
use Rattle.xsd_nodes.specs.Nodes.{child, child_of, holder, is_among_at, is_at, part_at}
use Rattle.xsd_nodes.specs.PartNames.{is_part, part_number}
use Rattle.xsd_nodes.specs.declared.part.Part.{Part}
use Rattle.xsd_nodes.specs.declared.part.Part.TheVariants as part
use Rattle.xsd_builtins.specs.BuiltIns.{any_type}
use Rattle.xsd_components.specs.References.{base, derivation, inline, item}
use Rattle.xsd_components.specs.declared.type_at.TypeAt.{TypeAt}
use Rattle.xsd_components.specs.declared.type_at.TypeAt.TheVariants as type_at
use Rattle.xsd_contents.specs.Contents.{after_step, by_base, leaves_base, value_derived, value_here, value_type_within}
use Rattle.xsd_contents.specs.declared.value_step.ValueStep.{ValueStep}
use Rattle.xsd_contents.specs.declared.value_step.ValueStep.TheVariants as step
use Rattle.xsd_derivations.specs.Derivations.{derived_from, derived_in, held_type, inline_in, members}
use Rattle.xsd_paths.specs.Paths.{leads_to}
use Rattle.xsd_restrictions.specs.Restrictions.{Simple, any_simple_but, atomic, form_of, listed, restricted, united}
use Rattle.xsd_steps.specs.Steps.{step_to, steps, typed_parts}
use Rattle.xsd_values.specs.Restricted.{or_value_of_base, restricted_type, value_of_base}
use Rattle.xsd_values.proofs.Bases.{AllLead, Leads, complex_base}
use Rattle.xsd_simple.specs.Simple.{derived_simple, if_type, simple_derived}

-- what passes a test leads to what does
abbrev pub IsClosed : List Node → (ℕ → Bool) → Type 0
IsClosed ns test = (i : ℕ) → test i ≡ true → AllLead test (steps ns i)

-- what is so of the types that pass a test, and hangs on their derivations alone
pub record Follows (ns : List Node) (test : ℕ → Bool) (so : TypeAt → Type 0) : Type 0 where
  pub closed : IsClosed ns test
  pub built : (place : ℕ) → so (type_at.Built place)
  pub node : (i : ℕ) → test i ≡ true → so (type_at.Node i)
  pub same : (i j : ℕ) → derivation ns i ≡ derivation ns j → so (type_at.Node i) → so (type_at.Node j)

-- ---- by the number of its part
number_is : (ns : List Node) (p : Part) (i : ℕ) → is_at ns p i ≡ true → part_number (part_at ns i) ≡ part_number p
number_is ns p i e = sym (eqb-true (part_number p) (part_number (part_at ns i)) e)

pub own_derivation : (ns : List Node) (d : ℕ) → is_at ns part.Restriction d ≡ true → derivation ns d ≡ Some d
own_derivation ns d e =
    ap (λ (n : ℕ). cond (9 == n) (child ns (part.Restriction ∷ part.List ∷ part.Union ∷ []) d) (cond (8 == n) (child_of ns (part.Restriction ∷ part.Extension ∷ []) (child ns (part.SimpleContent ∷ part.ComplexContent ∷ []) d)) (cond (12 == n) (Some d) None))) (number_is ns part.Restriction d e)

derived_by_list : (ns : List Node) (d : ℕ) → is_at ns part.List d ≡ true → derived_in ns d ≡ item ns d ∷ []
derived_by_list ns d e =
    ap (λ (n : ℕ). cond (12 == n) (base ns d ∷ inline_in ns d) (cond (13 == n) (base ns d ∷ []) (cond (14 == n) (item ns d ∷ []) (cond (15 == n) (members ns d) [])))) (number_is ns part.List d e)

derived_by_restriction : (ns : List Node) (d : ℕ) → is_at ns part.Restriction d ≡ true → derived_in ns d ≡ base ns d ∷ inline_in ns d
derived_by_restriction ns d e = cond-true (is_at ns part.Restriction d) (base ns d ∷ inline_in ns d) _ e

pub part_same : (p q : Part) → is_part p q ≡ true → is_part q p ≡ true
part_same p q e = eq-eqb (part_number q) (part_number p) (sym (eqb-true (part_number p) (part_number q) e))

-- ---- the steps of an element are those of its derivation
of_typed : (ns : List Node) (test : ℕ → Bool) (i : ℕ) → is_among_at ns typed_parts i ≡ true → AllLead test (steps ns i) → AllLead test (flat_map step_to (derived_from ns (derivation ns i)))
of_typed ns test i typed e = ap (list_all (leads_to test)) (sym (cond-true (is_among_at ns typed_parts i) (flat_map step_to (derived_from ns (derivation ns i))) _ typed)) ∙ e

pub of_steps : (ns : List Node) (test : ℕ → Bool) (i : ℕ) → AllLead test (steps ns i) → AllLead test (flat_map step_to (derived_from ns (derivation ns i)))
of_steps ns test i e = go (is_at ns part.SimpleType i) (is_at ns part.ComplexType i) (is_at ns part.Restriction i) refl refl refl
  where
    p : Part
    p = part_at ns i

    go : (s c r : Bool) → is_at ns part.SimpleType i ≡ s → is_at ns part.ComplexType i ≡ c → is_at ns part.Restriction i ≡ r → AllLead test (flat_map step_to (derived_from ns (derivation ns i)))
    go true c r s_is c_is r_is = of_typed ns test i (or_left (is_part p part.SimpleType) (is_part p part.ComplexType || (is_part p part.Restriction || false)) (part_same part.SimpleType p s_is)) e
    go false true r s_is c_is r_is = of_typed ns test i (or_right (is_part p part.SimpleType) (is_part p part.ComplexType || (is_part p part.Restriction || false)) (or_left (is_part p part.ComplexType) (is_part p part.Restriction || false) (part_same part.ComplexType p c_is))) e
    go false false true s_is c_is r_is =
        of_typed ns test i (or_right (is_part p part.SimpleType) (is_part p part.ComplexType || (is_part p part.Restriction || false)) (or_right (is_part p part.ComplexType) (is_part p part.Restriction || false) (or_left (is_part p part.Restriction) false (part_same part.Restriction p r_is)))) e
    go false false false s_is c_is r_is =
        let none : derivation ns i ≡ None = cond-false (is_at ns part.SimpleType i) _ _ s_is ∙ cond-false (is_at ns part.ComplexType i) _ _ c_is ∙ cond-false (is_at ns part.Restriction i) _ _ r_is in
        ap (λ (o : Option ℕ). list_all (leads_to test) (flat_map step_to (derived_from ns o))) none

front : (test : ℕ → Bool) (t : Option TypeAt) (ts : List (Option TypeAt)) → AllLead test (flat_map step_to (t ∷ ts)) → Leads test t × AllLead test (flat_map step_to ts)
front test t ts e = and_parts (list_all (leads_to test) (step_to t)) (list_all (leads_to test) (flat_map step_to ts)) (sym (list_all-append (leads_to test) (step_to t) (flat_map step_to ts)) ∙ e)

-- ---- what is so of a type is so of the type of its value
module _ (ns : List Node) (test : ℕ → Bool) (so : TypeAt → Type 0) (w : Follows ns test so) where
  of_type : (t : TypeAt) → Leads test (Some t) → so t
  of_type (type_at.Built place) l = w.built place
  of_type (type_at.Node i) l = w.node i (and_parts (test i) true l).0

  of_some : (t : Option TypeAt) → Leads test t → IfSome t so
  of_some None l = tt
  of_some (Some t) l = of_type t l

  abbrev StepSo : ValueStep → Type 0
  StepSo (step.Ends t) = IfSome t so
  StepSo (step.Goes t) = Leads test (Some t)

  base_so : (t : Option TypeAt) → Leads test t → StepSo (by_base t)
  base_so None l = tt
  base_so (Some t) l = l

  shape : (s r x c l : Bool) (own t : Option TypeAt) → (r ≡ true → IfSome own so) → (x ≡ true → StepSo (by_base t)) → StepSo (cond s (cond r (step.Ends own) (cond x (by_base t) (step.Ends None))) (cond c (cond (x && l) (by_base t) (step.Ends None)) (step.Ends None)))
  shape true true x c l own t f g = f refl
  shape true false true c l own t f g = g refl
  shape true false false c l own t f g = tt
  shape false r true true true own t f g = g refl
  shape false r true true false own t f g = tt
  shape false r false true l own t f g = tt
  shape false r x false l own t f g = tt

  derived_so : (i : ℕ) (o : Option ℕ) → derivation ns i ≡ o → is_at ns part.ComplexType i ≡ true → test i ≡ true → StepSo (value_derived ns o)
  derived_so i None is c e = tt
  derived_so i (Some d) is c e =
      shape (is_part part.SimpleContent (holder ns d)) (is_at ns part.Restriction d) (is_at ns part.Extension d) (is_part part.ComplexContent (holder ns d)) (leaves_base ns d) (Some (type_at.Node d)) (base ns d)
      (λ restricts. w.same i d (is ∙ sym (own_derivation ns d restricts)) (w.node i e))
      (λ extends. base_so (base ns d) (complex_base ns test i d c is extends (w.closed i e)))

  node_so : (i : ℕ) (c : Bool) → is_at ns part.ComplexType i ≡ c → test i ≡ true → StepSo (cond (not c) (step.Ends (Some (type_at.Node i))) (value_derived ns (derivation ns i)))
  node_so i false c e = w.node i e
  node_so i true c e = derived_so i (derivation ns i) refl c e

  built_so : (b : Bool) (place : ℕ) → StepSo (step.Ends (cond b None (Some (type_at.Built place))))
  built_so true place = tt
  built_so false place = w.built place

  here_so : (t : TypeAt) → Leads test (Some t) → StepSo (value_here ns t)
  here_so (type_at.Built place) l = built_so (place == any_type) place
  here_so (type_at.Node i) l = node_so i (is_at ns part.ComplexType i) refl (and_parts (test i) true l).0

  after_so : (more : TypeAt → Option TypeAt) → ((t : TypeAt) → Leads test (Some t) → IfSome (more t) so) → (s : ValueStep) → StepSo s → IfSome (after_step more s) so
  after_so more rest (step.Ends t) h = h
  after_so more rest (step.Goes t) h = rest t h

  value_so : (n : ℕ) (t : TypeAt) → Leads test (Some t) → IfSome (value_type_within n ns t) so
  value_so zero t l = tt
  value_so (suc n) t l = after_so (value_type_within n ns) (value_so n) (value_here ns t) (here_so t l)

  -- ---- and of the type whose values a restriction restricts
  of_base : (t : Option TypeAt) → Leads test t → IfSome (value_of_base ns t) so
  of_base None l = tt
  of_base (Some t) l = value_so (length ns + 1) t l

  of_held : (d : ℕ) (o : Option TypeAt) → AllLead test (flat_map step_to (base ns d ∷ held_type o)) → IfSome (or_value_of_base ns o (base ns d)) so
  of_held d None e = of_base (base ns d) (front test (base ns d) [] e).0
  of_held d (Some t) e = of_type t (front test (Some t) [] (front test (base ns d) (Some t ∷ []) e).1).0

  by_holder : (d : ℕ) (s : Bool) → AllLead test (flat_map step_to (base ns d ∷ cond s (held_type (inline ns d)) [])) → IfSome (cond s (or_value_of_base ns (inline ns d) (base ns d)) (base ns d)) so
  by_holder d true e = of_held d (inline ns d) e
  by_holder d false e = of_some (base ns d) (front test (base ns d) [] e).0

  restricted_so : (d : ℕ) → is_at ns part.Restriction d ≡ true → AllLead test (flat_map step_to (derived_in ns d)) → IfSome (restricted_type ns d) so
  restricted_so d restricts e = by_holder d (is_part part.SimpleContent (holder ns d)) (ap (λ (ts : List (Option TypeAt)). list_all (leads_to test) (flat_map step_to ts)) (sym (derived_by_restriction ns d restricts)) ∙ e)

  item_so : (d : ℕ) → is_at ns part.List d ≡ true → AllLead test (flat_map step_to (derived_in ns d)) → IfSome (item ns d) so
  item_so d lists e = of_some (item ns d) (front test (item ns d) [] (ap (λ (ts : List (Option TypeAt)). list_all (leads_to test) (flat_map step_to ts)) (sym (derived_by_list ns d lists)) ∙ e)).0

-- ---- two answers that agree on the types to which steps lead
if_agrees : (f g : TypeAt → Simple) (o : Option TypeAt) → IfSome o (λ t. f t ≡ g t) → if_type f o ≡ if_type g o
if_agrees f g None e = refl
if_agrees f g (Some t) e = e

derived_shape : (l u r : Bool) (a b c d x y : Simple) → (l ≡ true → a ≡ b) → (r ≡ true → c ≡ d) → cond l a (cond u x (cond r c y)) ≡ cond l b (cond u x (cond r d y))
derived_shape true u r a b c d x y f g = f refl
derived_shape false true r a b c d x y f g = refl
derived_shape false false true a b c d x y f g = g refl
derived_shape false false false a b c d x y f g = refl

module _ (ns : List Node) (test : ℕ → Bool) (f g : TypeAt → Simple) (w : Follows ns test (λ t. f t ≡ g t)) where
  derived_agrees : (d : ℕ) → AllLead test (flat_map step_to (derived_in ns d)) → derived_simple ns f d ≡ derived_simple ns g d
  derived_agrees d e =
      derived_shape (is_at ns part.List d) (is_at ns part.Union d) (is_at ns part.Restriction d) (any_simple_but (listed (form_of (if_type f (item ns d))))) (any_simple_but (listed (form_of (if_type g (item ns d))))) (restricted ns d (if_type f (restricted_type ns d))) (restricted ns d (if_type g (restricted_type ns d))) (any_simple_but united) (any_simple_but atomic)
      (λ lists. ap (λ (s : Simple). any_simple_but (listed (form_of s))) (if_agrees f g (item ns d) (item_so ns test (λ t. f t ≡ g t) w d lists e)))
      (λ restricts. ap (restricted ns d) (if_agrees f g (restricted_type ns d) (restricted_so ns test (λ t. f t ≡ g t) w d restricts e)))

  from_agrees : (o : Option ℕ) → AllLead test (flat_map step_to (derived_from ns o)) → simple_derived ns f o ≡ simple_derived ns g o
  from_agrees None e = refl
  from_agrees (Some d) e = derived_agrees d e

  pub step_agrees : (i : ℕ) → AllLead test (steps ns i) → simple_derived ns f (derivation ns i) ≡ simple_derived ns g (derivation ns i)
  step_agrees i e = from_agrees (derivation ns i) (of_steps ns test i e)
