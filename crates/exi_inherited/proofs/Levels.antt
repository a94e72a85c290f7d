-- What a group of attributes says is what its uses say: no group names itself, so there are levels enough.
use Rattle.std.proofs.Common.{◌≡◌, ℕ, zero, suc, ◌+◌, ◌≤◌, Bool, true, Option, Some, None, List, [], ◌∷◌, inl, inr, length, map, slice_get, refl, sym, ap, ◌∙◌}
use Rattle.std.specs.List.{flat_map, list_all}
use Rattle.std.proofs.lemmas.Bool.{and_parts, cases_lt, false≢true}
use Rattle.std.proofs.lemmas.Option.{slice_get_past}
use Rattle.exi_names.specs.declared.names.QName.{QName}
use Rattle.xsd_model.specs.declared.parts.AttributeGroup.{AttributeGroup}
use Rattle.xsd_model.specs.declared.parts.AttributeUse.{AttributeUse}
use Rattle.xsd_model.specs.declared.parts.AttributeUse.TheVariants as usage
use Rattle.xsd_model.specs.Parts.{AllEnd, Parts, all_end, attribute_groups_at, group_in, groups_in}
use Rattle.exi_inherited.specs.Uses.{Said, group_uses, said_by, said_of, uses_in}
use Rattle.exi_inherited.specs.Walks.{total, weight, weight_by}

-- ---- two answers that agree on uses, and on groups that pass a test
record Agree {X : Type 0} (test : ℕ → Bool) (f g : AttributeUse → X) : Type 0 where
  of_use : (attribute : ℕ) (required : Bool) → f (usage.Use attribute required) ≡ g (usage.Use attribute required)
  of_name : (name : QName) → f (usage.Prohibited name) ≡ g (usage.Prohibited name)
  of_group : (group : ℕ) → test group ≡ true → f (usage.Group group) ≡ g (usage.Group group)

-- agree on a list whose groups all pass
same_map : {X : Type 0} (test : ℕ → Bool) (f g : AttributeUse → X) → Agree test f g → (us : List AttributeUse) → list_all test (flat_map group_in us) ≡ true → map f us ≡ map g us
same_map test f g h [] e = refl
same_map test f g h (usage.Use attribute required ∷ us) e = let a = h.of_use attribute required in let more : map f us ≡ map g us = same_map test f g h us e in cc
same_map test f g h (usage.Prohibited name ∷ us) e = let a = h.of_name name in let more : map f us ≡ map g us = same_map test f g h us e in cc
same_map test f g h (usage.Group group ∷ us) e =
    let both = and_parts (test group) (list_all test (flat_map group_in us)) e in
    let a = h.of_group group both.0 in
    let more : map f us ≡ map g us = same_map test f g h us both.1 in cc

-- and on any list, where all groups pass
same_map_all : {X : Type 0} (f g : AttributeUse → X) → ((u : AttributeUse) → f u ≡ g u) → (us : List AttributeUse) → map f us ≡ map g us
same_map_all f g h [] = refl
same_map_all f g h (u ∷ us) = let a = h u in let more : map f us ≡ map g us = same_map_all f g h us in cc

flat_from_map : (f g : AttributeUse → List Said) (us : List AttributeUse) → map f us ≡ map g us → flat_map f us ≡ flat_map g us
flat_from_map f g [] e = refl
flat_from_map f g (u ∷ us) e =
    let a : f u ≡ g u = cc in
    let rest : map f us ≡ map g us = cc in
    let more : flat_map f us ≡ flat_map g us = flat_from_map f g us rest in cc

-- ---- the groups that a group names
names_in : (o : Option AttributeGroup) → groups_in o ≡ flat_map group_in (uses_in o)
names_in None = refl
names_in (Some g) = refl

named_end : (p : Parts) (test : ℕ → Bool) (group : ℕ) → list_all test (attribute_groups_at p group) ≡ true → list_all test (flat_map group_in (group_uses p group)) ≡ true
named_end p test group e = ap (list_all test) (sym (names_in (slice_get p.attribute_groups group))) ∙ e

no_uses : (p : Parts) (group : ℕ) → length p.attribute_groups ≤ group → group_uses p group ≡ []
no_uses p group le = ap uses_in (slice_get_past p.attribute_groups group le)

-- ---- one level more says the same
said_more : (p : Parts) (n group : ℕ) → all_end (attribute_groups_at p) n group ≡ true → said_by (suc n) p (usage.Group group) ≡ said_by n p (usage.Group group)
said_more p zero group e = absurd (false≢true e)
said_more p (suc n) group e =
    let agree : Agree (all_end (attribute_groups_at p) n) (said_by (suc n) p) (said_by n p) = record { of_use = λ a r. refl; of_name = λ q. refl; of_group = said_more p n } in
    flat_from_map (said_by (suc n) p) (said_by n p) (group_uses p group) (same_map (all_end (attribute_groups_at p) n) (said_by (suc n) p) (said_by n p) agree (group_uses p group) (named_end p (all_end (attribute_groups_at p) n) group e))

said_none : (p : Parts) (n group : ℕ) → group_uses p group ≡ [] → said_by n p (usage.Group group) ≡ []
said_none p zero group e = refl
said_none p (suc n) group e = ap (flat_map (said_by n p)) e

abbrev pub Ends : Parts → Type 0
Ends p = AllEnd (attribute_groups_at p) (length p.attribute_groups)

said_last : (p : Parts) → Ends p → (u : AttributeUse) → said_by (length p.attribute_groups) p u ≡ said_of p u
said_last p ends (usage.Use attribute required) = refl
said_last p ends (usage.Prohibited name) = refl
said_last p ends (usage.Group group) = elim (cases_lt group (length p.attribute_groups)) [
  | inl less ↦ sym (said_more p (length p.attribute_groups) group (ends group less))
  | inr le ↦ said_none p (length p.attribute_groups) group (no_uses p group le) ∙ sym (said_none p (suc (length p.attribute_groups)) group (no_uses p group le))
]

pub group_said : (p : Parts) → Ends p → (group : ℕ) → said_of p (usage.Group group) ≡ flat_map (said_of p) (group_uses p group)
group_said p ends group =
    flat_from_map (said_by (length p.attribute_groups) p) (said_of p) (group_uses p group) (same_map_all (said_by (length p.attribute_groups) p) (said_of p) (said_last p ends) (group_uses p group))

-- ---- and so for the weights
weight_more : (p : Parts) (n group : ℕ) → all_end (attribute_groups_at p) n group ≡ true → weight_by (suc n) p (usage.Group group) ≡ weight_by n p (usage.Group group)
weight_more p zero group e = absurd (false≢true e)
weight_more p (suc n) group e =
    let agree : Agree (all_end (attribute_groups_at p) n) (weight_by (suc n) p) (weight_by n p) = record { of_use = λ a r. refl; of_name = λ q. refl; of_group = weight_more p n } in
    ap (λ (ws : List ℕ). suc (length (group_uses p group) + total ws)) (same_map (all_end (attribute_groups_at p) n) (weight_by (suc n) p) (weight_by n p) agree (group_uses p group) (named_end p (all_end (attribute_groups_at p) n) group e))

weight_past : (p : Parts) (n group : ℕ) → group_uses p group ≡ [] → weight_by n p (usage.Group group) ≡ 1
weight_past p zero group e = refl
weight_past p (suc n) group e = ap (λ (us : List AttributeUse). suc (length us + total (map (weight_by n p) us))) e

weight_last : (p : Parts) → Ends p → (u : AttributeUse) → weight_by (length p.attribute_groups) p u ≡ weight p u
weight_last p ends (usage.Use attribute required) = refl
weight_last p ends (usage.Prohibited name) = refl
weight_last p ends (usage.Group group) = elim (cases_lt group (length p.attribute_groups)) [
  | inl less ↦ sym (weight_more p (length p.attribute_groups) group (ends group less))
  | inr le ↦ weight_past p (length p.attribute_groups) group (no_uses p group le) ∙ sym (weight_past p (suc (length p.attribute_groups)) group (no_uses p group le))
]

pub group_weight : (p : Parts) → Ends p → (group : ℕ) → weight p (usage.Group group) ≡ suc (length (group_uses p group) + total (map (weight p) (group_uses p group)))
group_weight p ends group =
    ap (λ (ws : List ℕ). suc (length (group_uses p group) + total ws)) (same_map_all (weight_by (length p.attribute_groups) p) (weight p) (weight_last p ends) (group_uses p group))
