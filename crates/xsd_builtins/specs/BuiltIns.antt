-- The built-in types (XML Schema 1.0 Part 2, section 3): 46 of them, in the order of their names, each by its place.
use Rattle.std.specs.Prelude.{ℕ, ◌+◌, codes, if◌then◌else◌, Option, Some, None, List, [], ◌∷◌, pos, neg_ℤ, slice_get}
use Rattle.std.specs.Str.{bytes_eq}
use Rattle.exi_names.specs.declared.moment.MomentKind.TheVariants as moment
use Rattle.xsd_builtins.specs.declared.family.Family.{Family}
use Rattle.xsd_builtins.specs.declared.family.Family.TheVariants as family

unfoldable pub built_in_names : List (List ℕ)
built_in_names =
    codes "ENTITIES" ∷ codes "ENTITY" ∷ codes "ID" ∷ codes "IDREF" ∷ codes "IDREFS" ∷ codes "NCName" ∷ codes "NMTOKEN"
    ∷ codes "NMTOKENS" ∷ codes "NOTATION" ∷ codes "Name" ∷ codes "QName" ∷ codes "anySimpleType" ∷ codes "anyType"
    ∷ codes "anyURI" ∷ codes "base64Binary" ∷ codes "boolean" ∷ codes "byte" ∷ codes "date" ∷ codes "dateTime"
    ∷ codes "decimal" ∷ codes "double" ∷ codes "duration" ∷ codes "float" ∷ codes "gDay" ∷ codes "gMonth"
    ∷ codes "gMonthDay" ∷ codes "gYear" ∷ codes "gYearMonth" ∷ codes "hexBinary" ∷ codes "int" ∷ codes "integer"
    ∷ codes "language" ∷ codes "long" ∷ codes "negativeInteger" ∷ codes "nonNegativeInteger"
    ∷ codes "nonPositiveInteger" ∷ codes "normalizedString" ∷ codes "positiveInteger" ∷ codes "short" ∷ codes "string"
    ∷ codes "time" ∷ codes "token" ∷ codes "unsignedByte" ∷ codes "unsignedInt" ∷ codes "unsignedLong"
    ∷ codes "unsignedShort" ∷ []

-- the first place of a name among these, which stand at this place and behind it
abbrev pub place_among : List ℕ → ℕ → List (List ℕ) → Option ℕ
place_among name place [] = None
place_among name place (n ∷ ns) = if bytes_eq name n then Some place else place_among name (place + 1) ns

-- the place of a name
abbrev pub built_in : List ℕ → Option ℕ
built_in name = place_among name 0 built_in_names

abbrev pub any_simple : ℕ
any_simple = 11

abbrev pub any_type : ℕ
any_type = 12

-- the place of the type that each is derived from, where there is one (section 3, figure 1)
unfoldable pub built_in_bases : List (Option ℕ)
built_in_bases =
    Some 11 ∷ Some 5 ∷ Some 5 ∷ Some 5 ∷ Some 11 ∷ Some 9 ∷ Some 41 ∷ Some 11 ∷ Some 11 ∷ Some 41 ∷ Some 11 ∷ Some 12
    ∷ None ∷ Some 11 ∷ Some 11 ∷ Some 11 ∷ Some 38 ∷ Some 11 ∷ Some 11 ∷ Some 11 ∷ Some 11 ∷ Some 11 ∷ Some 11
    ∷ Some 11 ∷ Some 11 ∷ Some 11 ∷ Some 11 ∷ Some 11 ∷ Some 11 ∷ Some 32 ∷ Some 19 ∷ Some 41 ∷ Some 30 ∷ Some 35
    ∷ Some 30 ∷ Some 30 ∷ Some 39 ∷ Some 34 ∷ Some 29 ∷ Some 11 ∷ Some 11 ∷ Some 36 ∷ Some 45 ∷ Some 44 ∷ Some 34
    ∷ Some 43 ∷ []

abbrev pub base_in : Option (Option ℕ) → Option ℕ
base_in None = None
base_in (Some base) = base

abbrev pub built_in_base : ℕ → Option ℕ
built_in_base place = base_in (slice_get built_in_bases place)

-- what the values of each are
unfoldable pub families : List Family
families =
    family.Lists
    ∷ family.Strings
    ∷ family.Strings
    ∷ family.Strings
    ∷ family.Lists
    ∷ family.Strings
    ∷ family.Strings
    ∷ family.Lists
    ∷ family.Names
    ∷ family.Strings
    ∷ family.Names
    ∷ family.Others
    ∷ family.Ur
    ∷ family.Others
    ∷ family.Base64
    ∷ family.Booleans
    ∷ family.Integers (Some (neg_ℤ (pos 128))) (Some (pos 127))
    ∷ family.Moments moment.Date
    ∷ family.Moments moment.DateTime
    ∷ family.Decimals
    ∷ family.Reals
    ∷ family.Others
    ∷ family.Reals
    ∷ family.Moments moment.GDay
    ∷ family.Moments moment.GMonth
    ∷ family.Moments moment.GMonthDay
    ∷ family.Moments moment.GYear
    ∷ family.Moments moment.GYearMonth
    ∷ family.Hex
    ∷ family.Integers (Some (neg_ℤ (pos 2147483648))) (Some (pos 2147483647))
    ∷ family.Integers None None
    ∷ family.Strings
    ∷ family.Integers (Some (neg_ℤ (pos 9223372036854775808))) (Some (pos 9223372036854775807))
    ∷ family.Integers None (Some (neg_ℤ (pos 1)))
    ∷ family.Integers (Some (pos 0)) None
    ∷ family.Integers None (Some (pos 0))
    ∷ family.Strings
    ∷ family.Integers (Some (pos 1)) None
    ∷ family.Integers (Some (neg_ℤ (pos 32768))) (Some (pos 32767))
    ∷ family.Strings
    ∷ family.Moments moment.Time
    ∷ family.Strings
    ∷ family.Integers (Some (pos 0)) (Some (pos 255))
    ∷ family.Integers (Some (pos 0)) (Some (pos 4294967295))
    ∷ family.Integers (Some (pos 0)) (Some (pos 18446744073709551615))
    ∷ family.Integers (Some (pos 0)) (Some (pos 65535))
    ∷ []

abbrev pub family_in : Option Family → Family
family_in None = family.Others
family_in (Some f) = f

abbrev pub family_of : ℕ → Family
family_of place = family_in (slice_get families place)
