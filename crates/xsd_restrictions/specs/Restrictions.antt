-- What a simple type is by one step of its derivation, and how its values are represented (EXI 1.0, section 7.1 and
-- appendix D; XML Schema 1.0 Part 2, section 4.1.2).
use Rattle.std.specs.Prelude.{ℕ, zero, suc, Bool, true, false, ◌||◌, ◌&&◌, not, Option, Some, None, option_to_list, List, [], ◌∷◌, get_or, length, map, ℤ, pos, neg_ℤ, if◌then◌else◌}
use Rattle.std.specs.List.{flat_map}
use Rattle.exi_names.specs.Datatypes.{Representation, list, choice, text}
use Rattle.exi_names.specs.Seen.{Value}
use Rattle.exi_lexical.specs.Values.{value}
use Rattle.exi_pattern.specs.Patterns.{chars_of}
use Rattle.exi_pattern.specs.Joins.{joined, letters_in}
use Rattle.exi_pattern.specs.Sets.{Letters, every}
use Rattle.xsd_tree.specs.declared.node.Node.{Node}
use Rattle.xsd_nodes.specs.declared.attribute_name.AttributeName.TheVariants as attribute
use Rattle.xsd_nodes.specs.declared.part.Part.TheVariants as part
use Rattle.xsd_builtins.specs.BuiltIns.{family_of}
use Rattle.xsd_builtins.specs.declared.family.Family.{Family}
use Rattle.xsd_builtins.specs.declared.family.Family.TheVariants as family
use Rattle.xsd_bounds.specs.Bounds.{greatest, integer_in, least_among, moved}
use Rattle.xsd_bounds.specs.Plain.{family_form, least_of, most_of}
use Rattle.xsd_nodes.specs.Nodes.{children, is_at, text_at}

pub data Variety : Type 0 where
  atomic : Variety
  -- of items that are represented so
  listed : Representation → Variety
  united : Variety

pub record Simple : Type 0 where
  pub variety : Variety
  -- of the built-in type that the derivation begins with
  pub family : Family
  -- the least and the greatest integer, where there are such
  pub least : Option ℤ
  pub most : Option ℤ
  -- whether a step has a pattern, and the characters that those of the last such step leave
  pub patterned : Bool
  pub letters : Letters
  -- the enumerated values of the last step that has some, behind what that step restricts; of an atomic type alone
  pub values : Option (Representation × List Value)

-- ---- how the values are represented
abbrev pub enumerated : Option (Representation × List Value) → Representation → Representation
enumerated None r = r
enumerated (Some values) r = choice values.0 values.1

-- without an enumeration
abbrev pub plain_form : Simple → Representation
plain_form s = family_form s.least s.most s.patterned s.letters s.family

-- the first of these that holds: a union is a string; a list is a list of its items; an enumeration goes by places
abbrev pub form_by : Variety → Simple → Representation
form_by united s = text
form_by (listed r) s = list r
form_by atomic s = enumerated s.values (plain_form s)

unfoldable pub form_of : Simple → Representation
form_of s = form_by s.variety s

-- ---- the built-in types
abbrev pub variety_of : Family → Variety
variety_of family.Lists = listed text
variety_of f = atomic

abbrev pub family_but : Variety → Family → Simple
family_but v f = record { variety = v; family = f; least = least_of f; most = most_of f; patterned = false; letters = every; values = None }

abbrev pub built_in_family : Family → Simple
built_in_family f = family_but (variety_of f) f

abbrev pub built_in_simple : ℕ → Simple
built_in_simple place = built_in_family (family_of place)

-- ---- a list and a union
abbrev pub any_simple_but : Variety → Simple
any_simple_but v = family_but v family.Others

-- ---- a restriction
-- the value of a facet under its base, where it has one
abbrev pub value_in : Representation → Option (List ℕ) → Option Value
value_in r None = None
value_in r (Some t) = value r t

abbrev pub facet_value : List Node → Representation → ℕ → Option Value
facet_value ns r f = value_in r (text_at ns attribute.Value f)

abbrev pub bound : List Node → Representation → ℕ → Option ℤ
bound ns r f =
    if is_at ns part.MinExclusive f then moved (pos 1) (integer_in (facet_value ns r f))
    else if is_at ns part.MaxExclusive f then moved (neg_ℤ (pos 1)) (integer_in (facet_value ns r f))
    else integer_in (facet_value ns r f)

-- the characters of a pattern, all where it has none
abbrev pub letters_of : Option (List ℕ) → Letters
letters_of None = every
letters_of (Some pattern) = letters_in (chars_of pattern)

-- the patterns of one step leave what any of them does
abbrev pub letters_among : List Node → Letters → List ℕ → Letters
letters_among ns letters [] = letters
letters_among ns letters (f ∷ fs) = letters_among ns (joined letters (letters_of (text_at ns attribute.Value f))) fs

abbrev pub letters_or : List Node → Letters → List ℕ → Letters
letters_or ns letters [] = letters
letters_or ns letters (f ∷ fs) = letters_among ns (Some []) (f ∷ fs)

abbrev pub is_some_facet : List ℕ → Bool
is_some_facet [] = false
is_some_facet (f ∷ fs) = true

abbrev pub values_among : List Node → Simple → List ℕ → Option (Representation × List Value)
values_among ns s [] = s.values
values_among ns s (f ∷ fs) = Some (plain_form s, flat_map (λ g. option_to_list (facet_value ns (form_of s) g)) (f ∷ fs))

abbrev pub values_at : Variety → List Node → Simple → List ℕ → Option (Representation × List Value)
values_at atomic ns s fs = values_among ns s fs
values_at v ns s fs = s.values

-- the bounds and the patterns of a restriction on what its base is
abbrev pub narrowed : List Node → ℕ → Simple → Simple
narrowed ns d s = record {
  variety = s.variety;
  family = s.family;
  least = greatest s.least (map (bound ns (form_of s)) (children ns (part.MinInclusive ∷ part.MinExclusive ∷ []) d));
  most = least_among s.most (map (bound ns (form_of s)) (children ns (part.MaxInclusive ∷ part.MaxExclusive ∷ []) d));
  patterned = s.patterned || is_some_facet (children ns (part.Pattern ∷ []) d);
  letters = letters_or ns s.letters (children ns (part.Pattern ∷ []) d);
  values = s.values;
}

abbrev pub with_values : Option (Representation × List Value) → Simple → Simple
with_values vs s = record { variety = s.variety; family = s.family; least = s.least; most = s.most; patterned = s.patterned; letters = s.letters; values = vs }

-- all the facets of a restriction
abbrev pub restricted : List Node → ℕ → Simple → Simple
restricted ns d s = with_values (values_at s.variety ns s (children ns (part.Enumeration ∷ []) d)) (narrowed ns d s)

-- ---- what a simple type is asked
abbrev pub is_atomic : Variety → Bool
is_atomic atomic = true
is_atomic (listed r) = false
is_atomic united = false

abbrev pub are_names : Family → Bool
are_names family.Names = true
are_names f = false

-- an enumeration on a list, a union, QName or NOTATION
abbrev pub is_not_enumerable : Simple → Bool
is_not_enumerable s = not (is_atomic s.variety) || are_names s.family

abbrev pub is_united : Variety → Bool
is_united united = true
is_united atomic = false
is_united (listed r) = false

-- ---- shared
-- the representation at a place among those that types share
abbrev pub form_at : List Representation → ℕ → Representation
form_at forms place = get_or forms place text

abbrev pub is_list : Representation → Bool
is_list (list r) = true
is_list r = false
