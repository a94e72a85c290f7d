-- Where elements come to along the heads of their substitution groups, as tables.
use Rattle.std.specs.Prelude.{◌≡◌, ℕ, zero, suc, ◌<◌, ◌%◌, ◌==◌, Option, Some, None, List, length, map, slice_get, if◌then◌else◌}
use Rattle.xsd_builtins.specs.BuiltIns.{any_type}
use Rattle.xsd_tree.specs.declared.node.Node.{Node}
use Rattle.xsd_components.specs.declared.type_at.TypeAt.{TypeAt}
use Rattle.xsd_components.specs.declared.type_at.TypeAt.TheVariants as type_at
use Rattle.xsd_declared.specs.Decls.{element_type, type_step}
use Rattle.xsd_declared.specs.declared.type_step.TypeStep.{TypeStep}
use Rattle.xsd_declared.specs.declared.type_step.TypeStep.TheVariants as step

-- ---- along so many heads
abbrev pub on_by : (ℕ → TypeStep) → TypeStep → TypeStep
on_by more (step.Ends t) = step.Ends t
on_by more (step.Goes h) = more h

abbrev pub walk : ℕ → List Node → ℕ → TypeStep
walk zero ns i = step.Goes i
walk (suc n) ns i = on_by (walk n ns) (type_step ns i)

-- ---- by a table
abbrev pub or_goes : ℕ → Option TypeStep → TypeStep
or_goes h None = step.Goes h
or_goes h (Some s) = s

abbrev pub step_in : List TypeStep → TypeStep → TypeStep
step_in steps (step.Ends t) = step.Ends t
step_in steps (step.Goes h) = or_goes h (slice_get steps h)

-- each by the first steps, and where the number is odd by others then
abbrev pub joined_if_odd : ℕ → List TypeStep → List TypeStep → List TypeStep
joined_if_odd left first behind = if left % 2 == 1 then map (step_in behind) first else first

-- these are where the elements come to along so many heads
pub record AreWalked (ns : List Node) (n : ℕ) (steps : List TypeStep) : Type 0 where
  pub count : length steps ≡ length ns
  pub each : (i : ℕ) → i < length ns → slice_get steps i ≡ Some (walk n ns i)

-- ---- the types that they come to
abbrev pub settled : TypeStep → TypeAt
settled (step.Ends t) = t
settled (step.Goes h) = type_at.Built any_type

-- these are the types of the elements
pub record AreTypes (ns : List Node) (types : List TypeAt) : Type 0 where
  pub count : length types ≡ length ns
  pub each : (i : ℕ) → i < length ns → slice_get types i ≡ Some (element_type ns i)
