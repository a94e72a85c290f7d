-- A walk over groups of attributes, from the end of what is said to its front.
use Rattle.std.specs.Prelude.{◌≡◌, ℕ, zero, suc, ◌+◌, ◌==◌, Bool, true, List, [], ◌∷◌, ◌++◌, drop, length, map, take, if◌then◌else◌}
use Rattle.std.specs.List.{flat_map, list_all, list_any}
use Rattle.xsd_model.specs.declared.parts.AttributeUse.{AttributeUse}
use Rattle.xsd_model.specs.declared.parts.AttributeUse.TheVariants as usage
use Rattle.xsd_model.specs.Parts.{Parts}
use Rattle.exi_inherited.specs.Told.{told_with_all}
use Rattle.exi_inherited.specs.Uses.{Said, group_uses, said_of, says}
use Rattle.exi_inherited.specs.declared.groups.Frame.{Frame}

-- ---- what was told already
-- something of each of these names
abbrev pub knows : List Said → List Said → Bool
knows told ss = list_all (λ s. says s.name told) ss

-- of the names of each group that was walked
abbrev pub AreWalked : Parts → List ℕ → List Said → Type 0
AreWalked p walked told = (group : ℕ) → list_any (λ g. group == g) walked ≡ true → knows told (said_of p (usage.Group group)) ≡ true

-- ---- the groups that a walk is in, each named by the one before
-- what is left of one to be told, and what was told
abbrev pub left_in : Parts → Frame → List Said
left_in p f = flat_map (said_of p) (take f.left (group_uses p f.group))

abbrev pub done_in : Parts → Frame → List Said
done_in p f = flat_map (said_of p) (drop f.left (group_uses p f.group))

-- what is told at the end
abbrev pub ending : Parts → List Frame → List Said → List Said
ending p frames told = told_with_all (flat_map (left_in p) frames) told

-- what lies behind the place in a group is told once the groups behind it are walked to their fronts
abbrev pub AreOpen : Parts → List Frame → List Said → Type 0
AreOpen p [] told = Unit {0}
AreOpen p (f ∷ frames) told = (knows (ending p frames told) (done_in p f) ≡ true) × AreOpen p frames told

-- a group is entered at its end, where it was not walked
abbrev pub at_end : Parts → ℕ → Frame
at_end p group = record { group = group; left = length (group_uses p group) }

abbrev pub entered : Parts → List ℕ → ℕ → List Frame → List Frame
entered p walked group frames = if list_any (λ g. group == g) walked then frames else frames ++ at_end p group ∷ []

-- ---- how many turns are left, at most
abbrev pub total : List ℕ → ℕ
total [] = 0
total (n ∷ ns) = n + total ns

-- for what a use names, so many deep
abbrev pub weight_by : ℕ → Parts → AttributeUse → ℕ
weight_by n p (usage.Use attribute required) = 0
weight_by n p (usage.Prohibited name) = 0
weight_by zero p (usage.Group group) = 1
weight_by (suc n) p (usage.Group group) = suc (length (group_uses p group) + total (map (weight_by n p) (group_uses p group)))

abbrev pub weight : Parts → AttributeUse → ℕ
weight p u = weight_by (suc (length p.attribute_groups)) p u

abbrev pub turns_in : Parts → Frame → ℕ
turns_in p f = suc (f.left + total (map (weight p) (take f.left (group_uses p f.group))))

abbrev pub turns : Parts → List Frame → ℕ
turns p frames = total (map (turns_in p) frames)
