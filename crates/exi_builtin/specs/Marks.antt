-- What is kept beside the productions that a state learned, so that none is looked for among them.
use Rattle.std.specs.Prelude.{◌≡◌, ◌==◌, ◌&&◌, ℕ, ◌-◌, ◌<◌, ◌≤◌, ◌^◌, Bool, true, Option, Some, List, All, length, Box}
use Rattle.std.specs.Option.{option_map}
use Rattle.std.specs.Box.{box_value}
use Rattle.std.specs.declared.alloc.Global.{Global}
use Rattle.std.specs.List.{list_any}
use mathlib.Core.Bool.{beq}
use Rattle.exi_names.specs.declared.names.NameId.{NameId}
use Rattle.exi_builtin.specs.declared.learnable.Learnable.{Learnable}
use Rattle.exi_builtin.specs.declared.learnable.Learnable.TheVariants as learnable
use Rattle.exi_builtin.specs.declared.name_index.NameIndex.{NameIndex}
use Rattle.exi_builtin.specs.declared.name_index.NameKey.{NameKey}
use Rattle.indexmap.specs.IndexMap.{get}
use Rattle.exi_builtin.specs.LeastCodes.{first_place, is_named}
use Rattle.exi_builtin.specs.Uses.{is_characters, is_end, is_known_type}

-- a name as a key, and whether such are the same
abbrev pub name_key : NameId → Bool → NameKey
name_key name attribute = record { uri = name.uri; local = name.local; attribute = attribute }

abbrev pub same_key : NameKey → NameKey → Bool
same_key a b = (a.uri == b.uri) && ((a.local == b.local) && beq a.attribute b.attribute)

-- the place that is kept for a name
abbrev pub kept_at : NameIndex → NameId → Bool → Option ℕ
kept_at index name attribute = get same_key index.places (name_key name attribute)

-- the code of the production that was learned at a place, among so many: the latest has the code 0
abbrev pub code_at_place : ℕ → ℕ → ℕ
code_at_place count place = count - 1 - place

-- the place that is kept leads to the first that passes
pub record LeadsTo (learned : List Learnable) (test : Learnable → Bool) (place : Option ℕ) : Type 0 where
  pub first : first_place test learned ≡ option_map (code_at_place (length learned)) place
  pub within : (p : ℕ) → place ≡ Some p → p < length learned

-- an index leads to the latest production of each name, and so does one that may be there
abbrev pub Indexes : NameIndex → List Learnable → Type 0
Indexes index learned = (name : NameId) (attribute : Bool) → LeadsTo learned (is_named name attribute) (kept_at index name attribute)

abbrev pub IsIndexed : Option (Box NameIndex Global) → List Learnable → Type 0
IsIndexed index learned = (b : Box NameIndex Global) → index ≡ Some b → Indexes (box_value b) learned

-- what can be learned by a use
abbrev pub IsLearned : Learnable → Type 0
IsLearned (learnable.Known name attribute) = Unit {0}
IsLearned learnable.SeAny = ⊥
IsLearned learnable.AtAny = ⊥
IsLearned (learnable.Ch one_part) = one_part ≡ true
IsLearned (learnable.Ee one_part) = one_part ≡ true
IsLearned learnable.Ed = ⊥
IsLearned learnable.Ns = ⊥
IsLearned learnable.Sc = ⊥
IsLearned learnable.Er = ⊥
IsLearned learnable.Cm = ⊥
IsLearned learnable.Pi = ⊥

-- where CH and EE stand, and the latest production of each name; whether AT(xsi:type) is among them; and they are not
-- too many
pub record IsMarked (learned : List Learnable) (characters end : Option ℕ) (has_type : Bool) (names : Option (Box NameIndex Global)) : Type 0 where
  pub characters_are : LeadsTo learned is_characters characters
  pub end_is : LeadsTo learned is_end end
  pub known_type : has_type ≡ list_any is_known_type learned
  pub names_are : IsIndexed names learned
  pub only : All IsLearned learned
  pub few : length learned ≤ 2 ^ 31
