-- What belongs to the start of an element: the attributes and namespaces that stand directly behind it (EXI 1.0,
-- section 4: NS and AT come between an SE and what the element holds).
use Rattle.std.specs.Prelude.{ℕ, Bool, true, false, List, [], ◌∷◌, ◌++◌, if◌then◌else◌}
use Rattle.exi_names.specs.Events.{Happening, at, ns}
use Rattle.exi_names.specs.Seen.{Value, text}
use Rattle.exi_names.specs.declared.names.QName.{QName}

-- an attribute or a namespace declaration
abbrev pub is_in_tag : Happening → Bool
is_in_tag (at n v) = true
is_in_tag (ns uri prefix element) = true
is_in_tag e = false

-- an attribute whose value is a text; in a stream without a schema all are, but those of xsi:type
abbrev pub attribute : QName → Value → List (QName × List ℕ)
attribute n (text t) = (n, t) ∷ []
attribute n v = []

-- the attribute of an event
abbrev pub attributes_in : Happening → List (QName × List ℕ)
attributes_in (at n v) = attribute n v
attributes_in e = []

-- the attributes of a start tag
abbrev pub attributes_of : List Happening → List (QName × List ℕ)
attributes_of [] = []
attributes_of (e ∷ es) = if is_in_tag e then attributes_in e ++ attributes_of es else []

-- the namespace that an event declares, as prefix and URI
abbrev pub scope_in : Happening → List (List ℕ × List ℕ)
scope_in (ns uri prefix element) = (prefix, uri) ∷ []
scope_in e = []

-- the namespaces of a start tag
abbrev pub scope_of : List Happening → List (List ℕ × List ℕ)
scope_of [] = []
scope_of (e ∷ es) = if is_in_tag e then scope_in e ++ scope_of es else []
