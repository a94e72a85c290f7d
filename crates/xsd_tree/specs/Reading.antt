-- The elements of a document from its events, or the event at which it is no schema document (XML Schema 1.0 Part 1,
-- section 3.15.2: the root of a schema document is `schema`).
use Rattle.std.specs.Prelude.{ℕ, ◌+◌, ◌==◌, Bool, true, ◌&&◌, if◌then◌else◌, List, [], ◌∷◌, Option, Some, None, Result, Ok, Err}
use Rattle.exi_names.specs.Events.{Happening, se, ee}
use Rattle.exi_names.specs.declared.names.QName.{QName}
use Rattle.xsd_model.specs.declared.fault.SchemaFault.{SchemaFault}
use Rattle.xsd_model.specs.declared.fault.SchemaKind.TheVariants as kind
use Rattle.xsd_tree.specs.StartTags.{attributes_of, scope_of}
use Rattle.xsd_tree.specs.Trees.{is_schema}
use Rattle.xsd_tree.specs.declared.node.Node.{Node}

-- it is no schema document
abbrev pub not_schema : ℕ → SchemaFault
not_schema event = record { kind = kind.NotSchema; event = event }

-- the innermost element that is open
abbrev pub innermost : List ℕ → Option ℕ
innermost [] = None
innermost (place ∷ places) = Some place

-- an element in front of those behind it
abbrev pub node_before : Node → Result (List Node) SchemaFault → Result (List Node) SchemaFault
node_before n (Ok ns) = Ok (n ∷ ns)
node_before n (Err f) = Err f

-- an element whose name, parent, event and following events are these
abbrev pub node_of : QName → Option ℕ → ℕ → List Happening → Node
node_of name parent event es = record {
  name = name;
  attributes = attributes_of es;
  scope = scope_of es;
  parent = parent;
  event = event;
}

-- an element may start within another, or as the first, where it is `schema`
abbrev pub may_start : QName → Option ℕ → ℕ → Bool
may_start name None place = (place == 0) && is_schema name
may_start name (Some parent) place = true

-- the end: there was an element, and none is open
abbrev pub at_end : List ℕ → ℕ → ℕ → Result (List Node) SchemaFault
at_end [] place events = if place == 0 then Err (not_schema events) else Ok []
at_end (open_node ∷ more) place events = Err (not_schema events)

-- an element ends, where one is open
abbrev pub behind_end : List ℕ → ℕ → (List ℕ → Result (List Node) SchemaFault) → Result (List Node) SchemaFault
behind_end [] event go = Err (not_schema event)
behind_end (open_node ∷ more) event go = go more

-- the elements of the events that follow so many others, where the elements at these places are open, innermost first,
-- and so many came before
unfoldable pub nodes_at : ℕ → List ℕ → ℕ → List Happening → Result (List Node) SchemaFault
nodes_at before open_nodes place [] = at_end open_nodes place before
nodes_at before open_nodes place (se name ∷ es) =
    if may_start name (innermost open_nodes) place
    then node_before (node_of name (innermost open_nodes) (before + 1) es) (nodes_at (before + 1) (place ∷ open_nodes) (place + 1) es)
    else Err (not_schema (before + 1))
nodes_at before open_nodes place (ee ∷ es) = behind_end open_nodes (before + 1) (λ more. nodes_at (before + 1) more place es)
nodes_at before open_nodes place (e ∷ es) = nodes_at (before + 1) open_nodes place es

-- the elements of a document
abbrev pub nodes_of : List Happening → Result (List Node) SchemaFault
nodes_of events = nodes_at 0 [] 0 events
