-- What is looked up in a state for an event: classes of productions, each with the name or URI that they have.
use Rattle.std.specs.Prelude.{ℕ, List, [], ◌∷◌}
use Rattle.exi_names.specs.declared.names.NameId.{NameId}
use Rattle.exi_gram.specs.declared.class.Class.{Class}
use Rattle.exi_gram.specs.declared.class.Class.TheVariants as class
use Rattle.exi_gram.specs.declared.named.Named.{Named}
use Rattle.exi_gram.specs.declared.named.Named.TheVariants as named
use Rattle.exi_candidates.specs.declared.key.Key.{Key}
use Rattle.exi_candidates.specs.declared.sought.Sought.{Sought}
use Rattle.exi_candidates.specs.declared.sought.Sought.TheVariants as sought

abbrev wide : Class → Key
wide c = record { class = c; name = record { uri = 0; local = 0 } }

abbrev within : Class → ℕ → Key
within c uri = record { class = c; name = record { uri = uri; local = 0 } }

abbrev of : Class → NameId → Key
of c name = record { class = c; name = name }

abbrev pub wide_keys : Class → List Key
wide_keys c = wide c ∷ []

-- a name's own, its URI's, any
abbrev pub element_keys : Named → List Key
element_keys named.Nothing = wide class.SeAny ∷ []
element_keys (named.Uri uri) = within class.SeIn uri ∷ wide class.SeAny ∷ []
element_keys (named.Name name) = of class.Se name ∷ within class.SeIn name.uri ∷ wide class.SeAny ∷ []

-- the same of an attribute, also those with untyped values, and a class without a name beside them
abbrev pub attribute_keys : Class → Named → List Key
attribute_keys special named.Nothing = wide special ∷ wide class.AtAny ∷ wide class.AtAnyText ∷ []
attribute_keys special (named.Uri uri) = wide special ∷ within class.AtIn uri ∷ wide class.AtAny ∷ wide class.AtAnyText ∷ []
attribute_keys special (named.Name name) = wide special ∷ of class.At name ∷ of class.AtText name ∷ within class.AtIn name.uri ∷ wide class.AtAny ∷ wide class.AtAnyText ∷ []

abbrev pub keys : Sought → List Key
keys sought.Sd = wide_keys class.Sd
keys sought.Ed = wide_keys class.Ed
keys (sought.Se name) = element_keys name
keys (sought.At name) = attribute_keys class.AtAny name
keys (sought.Type name) = attribute_keys class.XsiType name
keys (sought.Nil name) = attribute_keys class.XsiNil name
keys sought.Ch = wide class.Ch ∷ wide class.ChText ∷ []
keys sought.Ee = wide_keys class.Ee
keys sought.Ns = wide_keys class.Ns
keys sought.Sc = wide_keys class.Sc
keys sought.Er = wide_keys class.Er
keys sought.Cm = wide_keys class.Cm
keys sought.Pi = wide_keys class.Pi
keys sought.Dt = wide_keys class.Dt
