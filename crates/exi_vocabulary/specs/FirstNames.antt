-- The first string tables of a schema (EXI 1.0, sections 7.3.1 and 7.3.3, appendix D): its namespaces, and of each the names that
-- it declares.
use Rattle.std.specs.Prelude.{ℕ, ◌+◌, ◌≤◌, ◌^◌, ◌||◌, length, Bool, false, Option, Some, None, List, [], ◌∷◌, ◌++◌, map, filter, bytes_eq, codes, if◌then◌else◌}
use Rattle.std.specs.List.{flat_map}
use Rattle.exi_names.specs.StartTables.{Names, first_uris, xml_names, xsi_names}
use Rattle.exi_names.specs.declared.names.QName.{QName}
use Rattle.exi_gram.specs.Orders.{in_order, text_before}
use Rattle.xsd_model.specs.declared.parts.Particle.{Particle}
use Rattle.xsd_model.specs.declared.parts.Term.{Term}
use Rattle.xsd_model.specs.declared.parts.Term.TheVariants as term
use Rattle.xsd_model.specs.declared.parts.TypeBody.{TypeBody}
use Rattle.xsd_model.specs.declared.parts.TypeBody.TheVariants as body
use Rattle.xsd_model.specs.declared.parts.TypeDef.{TypeDef}
use Rattle.xsd_model.specs.declared.parts.Wild.{Wild}
use Rattle.xsd_model.specs.declared.parts.Wild.TheVariants as wild
use Rattle.xsd_model.specs.Parts.{Parts}

-- ---- texts without repeats, and in order
abbrev pub is_text_among : List ℕ → List (List ℕ) → Bool
is_text_among text [] = false
is_text_among text (t ∷ ts) = bytes_eq text t || is_text_among text ts

-- each where it comes first
abbrev pub distinct_behind : List (List ℕ) → List (List ℕ) → List (List ℕ)
distinct_behind seen [] = []
distinct_behind seen (t ∷ ts) = if is_text_among t seen then distinct_behind seen ts else t ∷ distinct_behind (t ∷ seen) ts

-- those that are not among some, sorted by their characters
abbrev pub sorted_but : List (List ℕ) → List (List ℕ) → List (List ℕ)
sorted_but some ts = in_order text_before (distinct_behind some ts)

-- ---- the names that a schema declares
abbrev pub type_names : TypeDef → List QName
type_names t = of_name t.name
  where
    of_name : Option QName → List QName
    of_name None = []
    of_name (Some name) = name ∷ []

abbrev pub declared_names : Parts → List QName
declared_names p = map (λ e. e.name) p.elements ++ (map (λ a. a.name) p.attributes ++ flat_map type_names p.types)

-- the local names under a URI
abbrev pub locals_under : List ℕ → List QName → List (List ℕ)
locals_under uri names = map (λ n. n.local) (filter (λ n. bytes_eq uri n.uri) names)

-- ---- the URIs
abbrev pub wild_uris : Wild → List (List ℕ)
wild_uris wild.Any = []
wild_uris (wild.Listed uris) = uris

abbrev pub wild_uris_of : Option Wild → List (List ℕ)
wild_uris_of None = []
wild_uris_of (Some w) = wild_uris w

abbrev pub type_uris : TypeDef → List (List ℕ)
type_uris t = by_body t.body
  where
    by_body : TypeBody → List (List ℕ)
    by_body (body.Simple form union) = []
    by_body (body.Complex complex) = wild_uris_of complex.wild
    by_body body.Ur = []

abbrev pub particle_uris : Particle → List (List ℕ)
particle_uris particle = by_term particle.term
  where
    by_term : Term → List (List ℕ)
    by_term (term.Element element) = []
    by_term (term.Group group) = []
    by_term (term.Sequence places) = []
    by_term (term.Choice places) = []
    by_term (term.Wild wild) = wild_uris wild

-- the target, those of the names, and those that wildcards list
abbrev pub told_uris : Parts → List (List ℕ)
told_uris p = p.target ∷ (map (λ n. n.uri) (declared_names p) ++ (flat_map type_uris p.types ++ flat_map particle_uris p.particles))

abbrev pub schema_uri : List ℕ
schema_uri = codes "http://www.w3.org/2001/XMLSchema"

-- those of every schema stand first
abbrev pub known_uris : List (List ℕ)
known_uris = first_uris ++ schema_uri ∷ []

abbrev pub all_uris : Parts → List (List ℕ)
all_uris p = known_uris ++ sorted_but known_uris (told_uris p)

-- ---- the tables
-- the names that stand first under a URI in any case
abbrev pub known_locals : List ℕ → List (List ℕ)
known_locals uri =
    if bytes_eq uri (codes "http://www.w3.org/XML/1998/namespace") then xml_names else
    if bytes_eq uri (codes "http://www.w3.org/2001/XMLSchema-instance") then xsi_names else
    []

abbrev pub all_locals : Parts → List ℕ → List (List ℕ)
all_locals p uri = known_locals uri ++ sorted_but (known_locals uri) (locals_under uri (declared_names p))

abbrev pub first_names_of : Parts → Names
first_names_of p = record { uris = all_uris p; locals = map (all_locals p) (all_uris p) }

-- there are not too many names of any kind
abbrev pub IsOfSize : Parts → Type 0
IsOfSize p = length p.elements + (length p.attributes + (length p.types + length (told_uris p))) ≤ 2 ^ 28
