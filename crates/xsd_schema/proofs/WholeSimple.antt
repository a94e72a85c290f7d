-- Where the paths from a restriction are whole, so are those from the type whose values it restricts.
use Rattle.std.proofs.Common.{◌≡◌, ℕ, zero, suc, ◌==◌, Bool, true, false, true≢false, ◌+◌, cond, ◌||◌, ◌&&◌, not, Option, Some, None, List, [], ◌∷◌, IfOk, IfSome, Result, Ok, Err, subst, eqb-true, length, refl, sym, ap, ◌∙◌}
use Rattle.std.specs.List.{flat_map, list_all}
use Rattle.xsd_tree.specs.declared.node.Node.{Node}
use Rattle.xsd_nodes.specs.Nodes.{child, child_of, holder, is_among_at, is_at, part_at}
use Rattle.xsd_nodes.specs.PartNames.{is_among, is_part, part_number}
use Rattle.xsd_nodes.specs.declared.part.Part.{Part}
use Rattle.xsd_nodes.specs.declared.part.Part.TheVariants as part
use Rattle.xsd_builtins.specs.BuiltIns.{any_type}
use Rattle.xsd_components.specs.References.{base, derivation, inline, item}
use Rattle.xsd_components.specs.declared.type_at.TypeAt.{TypeAt}
use Rattle.xsd_components.specs.declared.type_at.TypeAt.TheVariants as type_at
use Rattle.xsd_contents.specs.Contents.{after_step, by_base, leaves_base, value_derived, value_here, value_in_complex, value_in_simple, value_type_within}
use Rattle.xsd_contents.specs.declared.value_step.ValueStep.{ValueStep}
use Rattle.xsd_contents.specs.declared.value_step.ValueStep.TheVariants as step
use Rattle.xsd_derivations.specs.Derivations.{derived_from, derived_in, held_type, inline_in, members}
use Rattle.xsd_paths.specs.Paths.{is_whole, is_whole_type, is_whole_within, leads_to}
use Rattle.xsd_steps.specs.Steps.{step_to, steps, typed_parts}
use Rattle.xsd_values.specs.Restricted.{or_value_of_base, restricted_type, value_of_base}

-- ---- truth
both_left : (a b : Bool) → (a && b) ≡ true → a ≡ true
both_left true b e = refl
both_left false b e = e

both_right : (a b : Bool) → (a && b) ≡ true → b ≡ true
both_right true b e = e
both_right false b e = absurd (true≢false (sym e))

of_both : (a b : Bool) → a ≡ true → b ≡ true → (a && b) ≡ true
of_both true b p q = q
of_both false b p q = absurd (true≢false (sym p))

-- ---- more steps do no harm
leads_more : (f g : ℕ → Bool) → ((i : ℕ) → f i ≡ true → g i ≡ true) → (o : Option ℕ) → leads_to f o ≡ true → leads_to g o ≡ true
leads_more f g more None e = e
leads_more f g more (Some i) e = more i e

all_more : (f g : ℕ → Bool) → ((i : ℕ) → f i ≡ true → g i ≡ true) → (os : List (Option ℕ)) → list_all (leads_to f) os ≡ true → list_all (leads_to g) os ≡ true
all_more f g more [] e = e
all_more f g more (o ∷ os) e = of_both (leads_to g o) (list_all (leads_to g) os) (leads_more f g more o (both_left (leads_to f o) (list_all (leads_to f) os) e)) (all_more f g more os (both_right (leads_to f o) (list_all (leads_to f) os) e))

pub whole_more : (n : ℕ) (ns : List Node) (i : ℕ) → is_whole_within n ns i ≡ true → is_whole_within (suc n) ns i ≡ true
whole_more zero ns i e = absurd (true≢false (sym e))
whole_more (suc n) ns i e = all_more (is_whole_within n ns) (is_whole_within (suc n) ns) (whole_more n ns) (steps ns i) e

-- ---- types
abbrev pub type_within : (ℕ → Bool) → TypeAt → Bool
type_within f (type_at.Built place) = true
type_within f (type_at.Node i) = f i

abbrev pub if_within : (ℕ → Bool) → Option TypeAt → Bool
if_within f None = true
if_within f (Some t) = type_within f t

type_more : (f g : ℕ → Bool) → ((i : ℕ) → f i ≡ true → g i ≡ true) → (o : Option TypeAt) → if_within f o ≡ true → if_within g o ≡ true
type_more f g more None e = e
type_more f g more (Some (type_at.Built place)) e = e
type_more f g more (Some (type_at.Node i)) e = more i e

-- of the types that a derivation names the first, and the others
first_whole : (f : ℕ → Bool) (o : Option TypeAt) (os : List (Option TypeAt)) → list_all (leads_to f) (flat_map step_to (o ∷ os)) ≡ true → if_within f o ≡ true
first_whole f None os e = refl
first_whole f (Some (type_at.Built place)) os e = refl
first_whole f (Some (type_at.Node i)) os e = both_left (f i) (list_all (leads_to f) (flat_map step_to os)) e

others_whole : (f : ℕ → Bool) (o : Option TypeAt) (os : List (Option TypeAt)) → list_all (leads_to f) (flat_map step_to (o ∷ os)) ≡ true → list_all (leads_to f) (flat_map step_to os) ≡ true
others_whole f None os e = absurd (true≢false (sym e))
others_whole f (Some (type_at.Built place)) os e = e
others_whole f (Some (type_at.Node i)) os e = both_right (f i) (list_all (leads_to f) (flat_map step_to os)) e

-- ---- by the number of its part
number_is : (ns : List Node) (p : Part) (i : ℕ) → is_at ns p i ≡ true → part_number (part_at ns i) ≡ part_number p
number_is ns p i e = sym (eqb-true (part_number p) (part_number (part_at ns i)) e)

if_so : {X : Type 0} (b : Bool) (x y : X) → b ≡ true → cond b x y ≡ x
if_so true x y e = refl
if_so false x y e = absurd (true≢false (sym e))

typed_by : (ns : List Node) (p : Part) (i : ℕ) → is_at ns p i ≡ true → is_among typed_parts p ≡ true → is_among_at ns typed_parts i ≡ true
typed_by ns p i e typed = ap (λ (n : ℕ). (n == 9) || ((n == 8) || ((n == 12) || false))) (number_is ns p i e) ∙ typed

steps_by : (ns : List Node) (p : Part) (i : ℕ) → is_at ns p i ≡ true → is_among typed_parts p ≡ true → steps ns i ≡ flat_map step_to (derived_from ns (derivation ns i))
steps_by ns p i e typed = if_so (is_among_at ns typed_parts i) _ _ (typed_by ns p i e typed)

derivation_of_restriction : (ns : List Node) (d : ℕ) → is_at ns part.Restriction d ≡ true → derivation ns d ≡ Some d
derivation_of_restriction ns d e =
    ap (λ (n : ℕ). cond (9 == n) (child ns (part.Restriction ∷ part.List ∷ part.Union ∷ []) d) (cond (8 == n) (child_of ns (part.Restriction ∷ part.Extension ∷ []) (child ns (part.SimpleContent ∷ part.ComplexContent ∷ []) d)) (cond (12 == n) (Some d) None))) (number_is ns part.Restriction d e)

steps_of_restriction : (ns : List Node) (d : ℕ) → is_at ns part.Restriction d ≡ true → steps ns d ≡ flat_map step_to (base ns d ∷ inline_in ns d)
steps_of_restriction ns d e =
    steps_by ns part.Restriction d e refl
    ∙ ap (λ (o : Option ℕ). flat_map step_to (derived_from ns o)) (derivation_of_restriction ns d e)
    ∙ ap (flat_map step_to) (if_so (is_at ns part.Restriction d) _ _ e)

derived_by_extension : (ns : List Node) (d : ℕ) → is_at ns part.Extension d ≡ true → derived_in ns d ≡ base ns d ∷ []
derived_by_extension ns d e =
    ap (λ (n : ℕ). cond (12 == n) (base ns d ∷ inline_in ns d) (cond (13 == n) (base ns d ∷ []) (cond (14 == n) (item ns d ∷ []) (cond (15 == n) (members ns d) [])))) (number_is ns part.Extension d e)

-- ---- the type of a value
abbrev pub step_within : (ℕ → Bool) → ValueStep → Bool
step_within f (step.Ends o) = if_within f o
step_within f (step.Goes t) = type_within f t

by_base_whole : (f : ℕ → Bool) (o : Option TypeAt) → if_within f o ≡ true → step_within f (by_base o) ≡ true
by_base_whole f None e = refl
by_base_whole f (Some t) e = e

after_whole : (f : ℕ → Bool) (more : TypeAt → Option TypeAt) → ((t : TypeAt) → type_within f t ≡ true → if_within f (more t) ≡ true) → (s : ValueStep) → step_within f s ≡ true → if_within f (after_step more s) ≡ true
after_whole f more rest (step.Ends o) e = e
after_whole f more rest (step.Goes t) e = rest t e

abbrev leads_whole : ℕ → List Node → List (Option ℕ) → Bool
leads_whole n ns os = list_all (leads_to (is_whole_within n ns)) os

restriction_whole : (n : ℕ) (ns : List Node) (d : ℕ) → is_at ns part.Restriction d ≡ true → leads_whole n ns (flat_map step_to (derived_in ns d)) ≡ true → is_whole_within (suc n) ns d ≡ true
restriction_whole n ns d r e = ap (leads_whole n ns) (steps_of_restriction ns d r ∙ sym (ap (flat_map step_to) (if_so (is_at ns part.Restriction d) _ _ r))) ∙ e

extension_whole : (n : ℕ) (ns : List Node) (d : ℕ) → is_at ns part.Extension d ≡ true → leads_whole n ns (flat_map step_to (derived_in ns d)) ≡ true → step_within (is_whole_within (suc n) ns) (by_base (base ns d)) ≡ true
extension_whole n ns d x e =
    by_base_whole (is_whole_within (suc n) ns) (base ns d)
    (type_more (is_whole_within n ns) (is_whole_within (suc n) ns) (whole_more n ns) (base ns d)
    (first_whole (is_whole_within n ns) (base ns d) [] (sym (ap (λ (os : List (Option TypeAt)). leads_whole n ns (flat_map step_to os)) (derived_by_extension ns d x)) ∙ e)))

by_extension : (n : ℕ) (ns : List Node) (d : ℕ) (x : Bool) → is_at ns part.Extension d ≡ x → leads_whole n ns (flat_map step_to (derived_in ns d)) ≡ true → step_within (is_whole_within (suc n) ns) (cond x (by_base (base ns d)) (step.Ends None)) ≡ true
by_extension n ns d true x e = extension_whole n ns d x e
by_extension n ns d false x e = refl

in_simple : (n : ℕ) (ns : List Node) (d : ℕ) (r : Bool) → is_at ns part.Restriction d ≡ r → leads_whole n ns (flat_map step_to (derived_in ns d)) ≡ true → step_within (is_whole_within (suc n) ns) (cond r (step.Ends (Some (type_at.Node d))) (cond (is_at ns part.Extension d) (by_base (base ns d)) (step.Ends None))) ≡ true
in_simple n ns d true r e = restriction_whole n ns d r e
in_simple n ns d false r e = by_extension n ns d (is_at ns part.Extension d) refl e

in_complex : (n : ℕ) (ns : List Node) (d : ℕ) (x leaves : Bool) → is_at ns part.Extension d ≡ x → leads_whole n ns (flat_map step_to (derived_in ns d)) ≡ true → step_within (is_whole_within (suc n) ns) (cond (x && leaves) (by_base (base ns d)) (step.Ends None)) ≡ true
in_complex n ns d true true x e = extension_whole n ns d x e
in_complex n ns d true false x e = refl
in_complex n ns d false leaves x e = refl

in_content : (n : ℕ) (ns : List Node) (d : ℕ) (b c : Bool) → leads_whole n ns (flat_map step_to (derived_in ns d)) ≡ true → step_within (is_whole_within (suc n) ns) (cond b (value_in_simple ns d) (cond c (value_in_complex ns d) (step.Ends None))) ≡ true
in_content n ns d true c e = in_simple n ns d (is_at ns part.Restriction d) refl e
in_content n ns d false true e = in_complex n ns d (is_at ns part.Extension d) (leaves_base ns d) refl e
in_content n ns d false false e = refl

derived_whole : (n : ℕ) (ns : List Node) (o : Option ℕ) → leads_whole n ns (flat_map step_to (derived_from ns o)) ≡ true → step_within (is_whole_within (suc n) ns) (value_derived ns o) ≡ true
derived_whole n ns None e = refl
derived_whole n ns (Some d) e = in_content n ns d (is_part part.SimpleContent (holder ns d)) (is_part part.ComplexContent (holder ns d)) e

node_whole : (n : ℕ) (ns : List Node) (i : ℕ) (b : Bool) → is_at ns part.ComplexType i ≡ b → is_whole_within n ns i ≡ true → step_within (is_whole_within n ns) (cond (not b) (step.Ends (Some (type_at.Node i))) (value_derived ns (derivation ns i))) ≡ true
node_whole n ns i false c e = e
node_whole zero ns i true c e = absurd (true≢false (sym e))
node_whole (suc n) ns i true c e = derived_whole n ns (derivation ns i) (sym (ap (leads_whole n ns) (steps_by ns part.ComplexType i c refl)) ∙ e)

built_whole : (f : ℕ → Bool) (b : Bool) (place : ℕ) → step_within f (step.Ends (cond b None (Some (type_at.Built place)))) ≡ true
built_whole f true place = refl
built_whole f false place = refl

here_whole : (n : ℕ) (ns : List Node) (t : TypeAt) → type_within (is_whole_within n ns) t ≡ true → step_within (is_whole_within n ns) (value_here ns t) ≡ true
here_whole n ns (type_at.Built place) e = built_whole (is_whole_within n ns) (place == any_type) place
here_whole n ns (type_at.Node i) e = node_whole n ns i (is_at ns part.ComplexType i) refl e

value_whole : (m n : ℕ) (ns : List Node) (t : TypeAt) → type_within (is_whole_within n ns) t ≡ true → if_within (is_whole_within n ns) (value_type_within m ns t) ≡ true
value_whole zero n ns t e = refl
value_whole (suc m) n ns t e = after_whole (is_whole_within n ns) (value_type_within m ns) (value_whole m n ns) (value_here ns t) (here_whole n ns t e)

-- ---- what a restriction restricts
value_of_base_whole : (n : ℕ) (ns : List Node) (o : Option TypeAt) → if_within (is_whole_within n ns) o ≡ true → if_within (is_whole_within n ns) (value_of_base ns o) ≡ true
value_of_base_whole n ns None e = refl
value_of_base_whole n ns (Some t) e = value_whole (length ns + 1) n ns t e

or_value_whole : (n : ℕ) (ns : List Node) (held b : Option TypeAt) → leads_whole n ns (flat_map step_to (b ∷ held_type held)) ≡ true → if_within (is_whole_within n ns) (or_value_of_base ns held b) ≡ true
or_value_whole n ns None b e = value_of_base_whole n ns b (first_whole (is_whole_within n ns) b [] e)
or_value_whole n ns (Some t) b e = first_whole (is_whole_within n ns) (Some t) [] (others_whole (is_whole_within n ns) b (Some t ∷ []) e)

by_holder : (n : ℕ) (ns : List Node) (d : ℕ) (s : Bool) → leads_whole n ns (flat_map step_to (base ns d ∷ cond s (held_type (inline ns d)) [])) ≡ true → if_within (is_whole_within n ns) (cond s (or_value_of_base ns (inline ns d) (base ns d)) (base ns d)) ≡ true
by_holder n ns d true e = or_value_whole n ns (inline ns d) (base ns d) e
by_holder n ns d false e = first_whole (is_whole_within n ns) (base ns d) [] e

restricted_within : (n : ℕ) (ns : List Node) (d : ℕ) → is_at ns part.Restriction d ≡ true → is_whole_within (suc n) ns d ≡ true → if_within (is_whole_within (suc n) ns) (restricted_type ns d) ≡ true
restricted_within n ns d r e =
    type_more (is_whole_within n ns) (is_whole_within (suc n) ns) (whole_more n ns) (restricted_type ns d)
    (by_holder n ns d (is_part part.SimpleContent (holder ns d)) (sym (ap (leads_whole n ns) (steps_of_restriction ns d r)) ∙ e))

pub restricted_whole : (ns : List Node) (d : ℕ) → is_at ns part.Restriction d ≡ true → is_whole ns d ≡ true → if_within (is_whole ns) (restricted_type ns d) ≡ true
unfolding is_whole
restricted_whole ns d r e = restricted_within (length ns) ns d r e

some_whole : (ns : List Node) (o : Option TypeAt) → if_within (is_whole ns) o ≡ true → IfSome o (λ t. is_whole_type ns t ≡ true)
some_whole ns None e = tt
some_whole ns (Some (type_at.Built place)) e = refl
some_whole ns (Some (type_at.Node i)) e = e

-- what is found, as it is
pub found_whole : {E : Type 0} (ns : List Node) (d : ℕ) (found : Result (Option TypeAt) E) → is_at ns part.Restriction d ≡ true → is_whole ns d ≡ true → IfOk found (λ o. o ≡ restricted_type ns d) → IfOk found (λ o. IfSome o (λ t. is_whole_type ns t ≡ true))
found_whole ns d (Ok o) r w e = subst (λ (p : Option TypeAt). IfSome p (λ t. is_whole_type ns t ≡ true)) (sym e) (some_whole ns (restricted_type ns d) (restricted_whole ns d r w))
found_whole ns d (Err e) r w f = tt
