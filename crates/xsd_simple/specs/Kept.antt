-- Simple types as they are kept: each one at a place, at the first places those that are built in. A type of the document is
-- found by the element that says how it is derived.
use Rattle.std.specs.Prelude.{◌≡◌, ℕ, ◌<◌, true, Option, Some, None, List, [], ◌∷◌, ◌++◌, get_or, length, map, nat_lt, set, if◌then◌else◌}
use Rattle.exi_names.specs.Datatypes.{Representation}
use Rattle.xsd_tree.specs.declared.node.Node.{Node}
use Rattle.xsd_components.specs.References.{derivation}
use Rattle.xsd_components.specs.declared.type_at.TypeAt.{TypeAt}
use Rattle.xsd_components.specs.declared.type_at.TypeAt.TheVariants as type_at
use Rattle.xsd_paths.specs.Paths.{is_whole_type}
use Rattle.xsd_restrictions.specs.Entries.{IsEntry, simple_at}
use Rattle.xsd_restrictions.specs.Restrictions.{Simple, any_simple_but, atomic, built_in_simple}
use Rattle.xsd_restrictions.specs.declared.entry.Entry.{Entry}
use Rattle.xsd_simple.specs.Simple.{derived_simple, simple_of}

-- ---- those that are kept
abbrev pub any_simple : Simple
any_simple = any_simple_but atomic

abbrev pub simples : List Representation → List Entry → List Simple
simples forms entries = map (simple_at forms) entries

abbrev pub simple_in : List Simple → ℕ → Simple
simple_in kept place = get_or kept place any_simple

-- each has its representation
abbrev pub AreEntries : List Representation → List Entry → Type 0
AreEntries forms [] = Unit {0}
AreEntries forms (e ∷ es) = IsEntry forms e × AreEntries forms es

-- ---- their places
-- behind the built-in types: what is not known
abbrev pub unknown : ℕ
unknown = 46

abbrev pub built_place : ℕ → ℕ
built_place place = if nat_lt place unknown then place else unknown

-- by the element that says how it is derived
abbrev pub derived_place : List ℕ → Option ℕ → ℕ
derived_place places None = unknown
derived_place places (Some d) = get_or places d unknown

abbrev pub place_of : List Node → List ℕ → TypeAt → ℕ
place_of ns places (type_at.Built place) = built_place place
place_of ns places (type_at.Node i) = derived_place places (derivation ns i)

abbrev pub place_if : List Node → List ℕ → Option TypeAt → ℕ
place_if ns places None = unknown
place_if ns places (Some t) = place_of ns places t

-- what is told of a type
abbrev pub told : List Node → List Simple → List ℕ → TypeAt → Simple
told ns kept places t = simple_in kept (place_of ns places t)

-- ---- while they are made
-- the built-in types are kept first, up to a place
abbrev pub AreBuilt : ℕ → List Simple → Type 0
AreBuilt n kept = (place : ℕ) → place < n → simple_in kept place ≡ built_in_simple place

-- one more, where an element says how a type is derived
abbrev pub with_derived : List Node → List Simple → List ℕ → Option ℕ → List Simple
with_derived ns kept places None = kept
with_derived ns kept places (Some d) = kept ++ derived_simple ns (told ns kept places) d ∷ []

abbrev pub with_place : ℕ → List ℕ → Option ℕ → List ℕ
with_place place places None = places
with_place place places (Some d) = set places d place

pub record AreKnown (forms : List Representation) (entries : List Entry) (places : List ℕ) : Type 0 where
  pub kept : AreEntries forms entries
  pub built : AreBuilt 47 (simples forms entries)
  pub some : 46 < length entries
  pub inside : (d : ℕ) → get_or places d unknown < length entries

-- ---- those of a document
pub record AreSimples (ns : List Node) (forms : List Representation) (entries : List Entry) (places : List ℕ) : Type 0 where
  pub known : AreKnown forms entries places
  pub each : (t : TypeAt) → is_whole_type ns t ≡ true → told ns (simples forms entries) places t ≡ simple_of ns t
