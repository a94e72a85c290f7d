-- A group of elements holds another where it is what that one lies in.
use Rattle.std.proofs.Common.{◌≡◌, ℕ, ◌==◌, eqb, Bool, true, false, cond, ◌&&◌, Option, Some, None, inl, inr, List, [], ◌∷◌, ◌++◌, filter, map, refl, sym, ap, ◌∙◌}
use Rattle.std.specs.List.{flat_map, list_any}
use Rattle.std.proofs.lemmas.Bool.{cases_eq, eq-eqb, eqb-true, ne_eqb}
use Rattle.std.proofs.lemmas.List.{append-nil}
use Rattle.xsd_tree.specs.declared.node.Node.{Node}
use Rattle.xsd_nodes.specs.Nodes.{is_among_at, is_at, is_global, is_place, outwards, part_at, places}
use Rattle.xsd_nodes.specs.PartNames.{part_number}
use Rattle.xsd_nodes.specs.declared.part.Part.{Part}
use Rattle.xsd_nodes.specs.declared.part.Part.TheVariants as part
use Rattle.xsd_components.specs.References.{derivation}
use Rattle.xsd_derivations.specs.Derivations.{attribute_groups_named, derived_from, head_named}
use Rattle.xsd_document.proofs.Below.{none_passes}
use Rattle.xsd_steps.specs.Groups.{behind_first, group_named, groups_named, leads_up, names_group}
use Rattle.xsd_steps.specs.Steps.{if_global, step_to, steps, typed_parts}
use Rattle.xsd_steps.specs.Table.{first_beyond, group_only, is_group, models, namer, own_steps, owner}

-- whether the element at a place names a group within this one
abbrev pub is_led : List Node → ℕ → ℕ → Bool
is_led ns i j = is_place i (namer ns j (owner ns j))

-- ---- what is no group of elements that is a component holds none
pub kept_not : (i k : ℕ) (b : Bool) → eqb i k ≡ false → is_place i (cond b (Some k) None) ≡ false
kept_not i k true h = h
kept_not i k false h = refl

pub only_not : (ns : List Node) (i : ℕ) (o : Option ℕ) → is_group ns i ≡ false → is_place i (group_only ns o) ≡ false
only_not ns i None h = refl
only_not ns i (Some k) h = elim (cases_eq i k) [
  | inl e ↦ ap (λ (b : Bool). is_place i (cond b (Some k) None)) (ap (is_group ns) (sym e) ∙ h)
  | inr n ↦ kept_not i k (is_group ns k) (ne_eqb i k n)
]

pub if_not : (i : ℕ) (b : Bool) (o : Option ℕ) → is_place i o ≡ false → is_place i (cond b o None) ≡ false
if_not i true o h = h
if_not i false o h = refl

pub not_led : (ns : List Node) (i : ℕ) → is_group ns i ≡ false → (j : ℕ) → is_led ns i j ≡ false
not_led ns i h j = if_not i (is_at ns part.Group j) (group_only ns (owner ns j)) (only_not ns i (owner ns j) h)

pub none_led : (ns : List Node) (i : ℕ) → is_group ns i ≡ false → map (group_named ns) (filter (is_led ns i) (places ns)) ≡ []
none_led ns i h = ap (map (group_named ns)) (sym (none_passes (is_led ns i) (places ns) (not_led ns i h)))

-- ---- a group of elements that is a component
pub only_same : (ns : List Node) (i : ℕ) (o : Option ℕ) → is_group ns i ≡ true → is_place i (group_only ns o) ≡ is_place i o
only_same ns i None h = refl
only_same ns i (Some k) h = elim (cases_eq i k) [
  | inl e ↦ ap (λ (b : Bool). is_place i (cond b (Some k) None)) (ap (is_group ns) (sym e) ∙ h)
  | inr n ↦ kept_not i k (is_group ns k) (ne_eqb i k n) ∙ sym (ne_eqb i k n)
]

pub further : (i j : ℕ) (m l : Bool) (o : Option ℕ) → eqb i j ≡ false → l ≡ is_place i o → (m && l) ≡ is_place i (cond m o (Some j))
further i j true l o n e = e
further i j false l o n e = sym n

pub leads : (ns : List Node) (i : ℕ) → is_among_at ns models i ≡ false → (js : List ℕ) → leads_up ns i js ≡ is_place i (first_beyond ns js)
leads ns i h [] = refl
leads ns i h (j ∷ js) = elim (cases_eq i j) [
  | inl e ↦
      ap (λ (b : Bool). cond b true (is_among_at ns models j && leads_up ns i js)) (eq-eqb i j e)
      ∙ sym (ap (λ (b : Bool). is_place i (cond b (first_beyond ns js) (Some j))) (ap (is_among_at ns models) (sym e) ∙ h) ∙ eq-eqb i j e)
  | inr n ↦
      ap (λ (b : Bool). cond b true (is_among_at ns models j && leads_up ns i js)) (ne_eqb i j n)
      ∙ further i j (is_among_at ns models j) (leads_up ns i js) (first_beyond ns js) (ne_eqb i j n) (leads ns i h js)
]

pub if_group : (i : ℕ) (b l : Bool) (o : Option ℕ) → is_place i o ≡ l → is_place i (cond b o None) ≡ (b && l)
if_group i true l o e = e
if_group i false l o e = refl

pub led_is : (ns : List Node) (i : ℕ) → is_group ns i ≡ true → is_among_at ns models i ≡ false → (j : ℕ) → is_led ns i j ≡ names_group ns i j
led_is ns i h m j =
    let around = behind_first (outwards ns j) in if_group i (is_at ns part.Group j) (leads_up ns i around) (group_only ns (owner ns j)) (only_same ns i (owner ns j) h ∙ sym (leads ns i m around))

pub filter_same : (p q : ℕ → Bool) (xs : List ℕ) → ((x : ℕ) → p x ≡ q x) → filter p xs ≡ filter q xs
filter_same p q [] h = refl
filter_same p q (x ∷ xs) h = ap (λ (b : Bool). cond b (x ∷ filter p xs) (filter p xs)) (h x) ∙ ap (λ (l : List ℕ). cond (q x) (x ∷ l) l) (filter_same p q xs h)

-- ---- a group of elements is nothing else
pub number_is : (ns : List Node) (i : ℕ) → is_at ns part.Group i ≡ true → part_number (part_at ns i) ≡ 19
number_is ns i h = sym (eqb-true 19 (part_number (part_at ns i)) h)

pub no_model : (ns : List Node) (i : ℕ) → part_number (part_at ns i) ≡ 19 → is_among_at ns models i ≡ false
no_model ns i e = ap (λ (k : ℕ). list_any (λ (p : Part). k == part_number p) models) e

pub no_type : (ns : List Node) (i : ℕ) → part_number (part_at ns i) ≡ 19 → is_among_at ns typed_parts i ≡ false
no_type ns i e = ap (λ (k : ℕ). list_any (λ (p : Part). k == part_number p) typed_parts) e

pub no_attribute_group : (ns : List Node) (i : ℕ) → part_number (part_at ns i) ≡ 19 → is_at ns part.AttributeGroup i ≡ false
no_attribute_group ns i e = ap (λ (k : ℕ). part_number part.AttributeGroup == k) e

pub no_element : (ns : List Node) (i : ℕ) → part_number (part_at ns i) ≡ 19 → is_at ns part.Element i ≡ false
no_element ns i e = ap (λ (k : ℕ). part_number part.Element == k) e

module _ (ns : List Node) (i : ℕ) where
  abbrev typed : List (Option ℕ)
  typed = flat_map step_to (derived_from ns (derivation ns i))

  abbrev attributed : List (Option ℕ)
  attributed = if_global ns i (attribute_groups_named ns i)

  abbrev headed : List (Option ℕ)
  headed = if_global ns i (head_named ns i)

  abbrev untyped : List (Option ℕ)
  untyped = cond (is_at ns part.AttributeGroup i) attributed (cond (is_at ns part.Element i) headed [])

  pub no_own : part_number (part_at ns i) ≡ 19 → own_steps ns i ≡ []
  no_own e =
      ap (λ (b : Bool). cond b typed untyped) (no_type ns i e)
      ∙ ap (λ (b : Bool). cond b attributed (cond (is_at ns part.Element i) headed [])) (no_attribute_group ns i e)
      ∙ ap (λ (b : Bool). cond b headed []) (no_element ns i e)

  pub own_alone : is_at ns part.Group i ≡ false → own_steps ns i ≡ steps ns i
  own_alone h = ap (λ (b : Bool). cond (is_among_at ns typed_parts i) typed (cond b (if_global ns i (groups_named ns i)) untyped)) (sym h)

  pub group_alone : is_at ns part.Group i ≡ true → steps ns i ≡ if_global ns i (groups_named ns i)
  group_alone h =
      ap (λ (b : Bool). cond b typed (cond (is_at ns part.Group i) (if_global ns i (groups_named ns i)) untyped)) (no_type ns i (number_is ns i h))
      ∙ ap (λ (b : Bool). cond b (if_global ns i (groups_named ns i)) untyped) h

-- ---- the steps
pub steps_are : (ns : List Node) (i : ℕ) (g w : Bool) → is_at ns part.Group i ≡ g → is_global ns i ≡ w → own_steps ns i ++ map (group_named ns) (filter (is_led ns i) (places ns)) ≡ steps ns i
steps_are ns i false w h e =
    let no_group = ap (λ (b : Bool). b && is_global ns i) h in
    ap (λ (l : List (Option ℕ)). own_steps ns i ++ l) (none_led ns i no_group)
    ∙ append-nil (own_steps ns i)
    ∙ own_alone ns i h
steps_are ns i true false h e =
    let no_group = ap (λ (b : Bool). b && is_global ns i) h ∙ e in
    ap (λ (l : List (Option ℕ)). own_steps ns i ++ l) (none_led ns i no_group)
    ∙ append-nil (own_steps ns i)
    ∙ no_own ns i (number_is ns i h)
    ∙ sym (group_alone ns i h ∙ ap (λ (b : Bool). cond b (groups_named ns i) []) e)
steps_are ns i true true h e =
    let group = ap (λ (b : Bool). b && is_global ns i) h ∙ e in
    ap (λ (l : List (Option ℕ)). l ++ map (group_named ns) (filter (is_led ns i) (places ns))) (no_own ns i (number_is ns i h))
    ∙ ap (map (group_named ns)) (filter_same (is_led ns i) (names_group ns i) (places ns) (led_is ns i group (no_model ns i (number_is ns i h))))
    ∙ sym (group_alone ns i h ∙ ap (λ (b : Bool). cond b (groups_named ns i) []) e)
