-- Open elements and bodies put aside, as a reader keeps them.
use Rattle.std.specs.Prelude.{◌<◌, ◌+◌, ◌^◌, List, [], ◌∷◌, Option, Some, None}
use Rattle.exi_builtin.specs.Learning.{Learning}
use Rattle.exi_tables.specs.Partitions.{Partitions}
use Rattle.exi_processing.specs.Changes.{innermost, texts_of}
use Rattle.exi_processing.specs.Configurations.{Body}
use Rattle.exi_processing.specs.declared.frames.Element.{Element}
use Rattle.exi_processing.specs.declared.frames.Outer.{Outer}
use Rattle.exi_processing.specs.declared.frames.State.{State}
use Rattle.exi_processing.specs.declared.frames.State.TheVariants as state

-- the innermost, where one is open
abbrev pub first_element : List Element → Option Element
first_element [] = None
first_element (e ∷ es) = Some e

-- what is put aside, with the name of its innermost element
abbrev pub body_of : Partitions → Learning → List Element → Outer → Body
body_of p l es o = record { tables = p; learned = l; elements = es; outer = o; name = texts_of p (innermost es) }

-- behind the grammar of a schema there is place for its empty form
abbrev pub HasForm : State → Type 0
HasForm (state.BuiltIn r) = Unit {0}
HasForm (state.Informed grammar number empty) = grammar + 1 < 2 ^ 32

-- of the innermost element
abbrev pub HaveForm : List Element → Type 0
HaveForm [] = Unit {0}
HaveForm (e ∷ es) = HasForm e.state
