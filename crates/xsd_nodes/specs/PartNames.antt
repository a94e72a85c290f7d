-- What an element of a schema document is, by its local name (XML Schema 1.0 Part 1, section 3; facets: Part 2, section
-- 4.3).
use Rattle.std.specs.Prelude.{ℕ, ◌==◌, Bool, List, [], ◌∷◌, codes, if◌then◌else◌}
use Rattle.std.specs.List.{list_any}
use Rattle.std.specs.Str.{bytes_eq}
use Rattle.xsd_nodes.specs.declared.part.Part.{Part}
use Rattle.xsd_nodes.specs.declared.part.Part.TheVariants as part

-- the elements of XML Schema that have a meaning here
unfoldable pub part_words : List (List ℕ × Part)
part_words =
    (codes "schema", part.Schema)
    ∷ (codes "include", part.Include)
    ∷ (codes "import", part.Import)
    ∷ (codes "redefine", part.Redefine)
    ∷ (codes "notation", part.Notation)
    ∷ (codes "annotation", part.Annotation)
    ∷ (codes "element", part.Element)
    ∷ (codes "attribute", part.Attribute)
    ∷ (codes "complexType", part.ComplexType)
    ∷ (codes "simpleType", part.SimpleType)
    ∷ (codes "simpleContent", part.SimpleContent)
    ∷ (codes "complexContent", part.ComplexContent)
    ∷ (codes "restriction", part.Restriction)
    ∷ (codes "extension", part.Extension)
    ∷ (codes "list", part.List)
    ∷ (codes "union", part.Union)
    ∷ (codes "sequence", part.Sequence)
    ∷ (codes "choice", part.Choice)
    ∷ (codes "all", part.All)
    ∷ (codes "group", part.Group)
    ∷ (codes "attributeGroup", part.AttributeGroup)
    ∷ (codes "any", part.Any)
    ∷ (codes "anyAttribute", part.AnyAttribute)
    ∷ (codes "enumeration", part.Enumeration)
    ∷ (codes "pattern", part.Pattern)
    ∷ (codes "minInclusive", part.MinInclusive)
    ∷ (codes "minExclusive", part.MinExclusive)
    ∷ (codes "maxInclusive", part.MaxInclusive)
    ∷ (codes "maxExclusive", part.MaxExclusive)
    ∷ (codes "length", part.PlainFacet)
    ∷ (codes "minLength", part.PlainFacet)
    ∷ (codes "maxLength", part.PlainFacet)
    ∷ (codes "totalDigits", part.PlainFacet)
    ∷ (codes "fractionDigits", part.PlainFacet)
    ∷ (codes "whiteSpace", part.PlainFacet)
    ∷ (codes "key", part.Identity)
    ∷ (codes "keyref", part.Identity)
    ∷ (codes "unique", part.Identity)
    ∷ (codes "selector", part.Selector)
    ∷ (codes "field", part.Field)
    ∷ []

-- what the first of these words that is the name stands for
abbrev pub part_among : List ℕ → List (List ℕ × Part) → Part
part_among name [] = part.Other
part_among name (w ∷ ws) = if bytes_eq name w.0 then w.1 else part_among name ws

abbrev pub part_named : List ℕ → Part
part_named name = part_among name part_words

-- told apart by a number
abbrev pub part_number : Part → ℕ
part_number part.Schema = 0
part_number part.Include = 1
part_number part.Import = 2
part_number part.Redefine = 3
part_number part.Notation = 4
part_number part.Annotation = 5
part_number part.Element = 6
part_number part.Attribute = 7
part_number part.ComplexType = 8
part_number part.SimpleType = 9
part_number part.SimpleContent = 10
part_number part.ComplexContent = 11
part_number part.Restriction = 12
part_number part.Extension = 13
part_number part.List = 14
part_number part.Union = 15
part_number part.Sequence = 16
part_number part.Choice = 17
part_number part.All = 18
part_number part.Group = 19
part_number part.AttributeGroup = 20
part_number part.Any = 21
part_number part.AnyAttribute = 22
part_number part.Enumeration = 23
part_number part.Pattern = 24
part_number part.MinInclusive = 25
part_number part.MinExclusive = 26
part_number part.MaxInclusive = 27
part_number part.MaxExclusive = 28
part_number part.PlainFacet = 29
part_number part.Identity = 30
part_number part.Selector = 31
part_number part.Field = 32
part_number part.Other = 33

abbrev pub is_part : Part → Part → Bool
is_part p q = part_number p == part_number q

-- one of these
abbrev pub is_among : List Part → Part → Bool
is_among ps p = list_any (is_part p) ps
