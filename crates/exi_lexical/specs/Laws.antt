-- The laws between the texts of values and the values.
use Rattle.std.specs.Prelude.{◌≡◌, ◌↔◌, ℕ, Bool, true, false, List, Some}
use Rattle.exi_names.specs.Datatypes.{Representation}
use Rattle.exi_names.specs.Datatypes as form
use Rattle.exi_names.specs.Forms.{AreOctets, IsOf}
use Rattle.exi_names.specs.Seen.{Value}
use Rattle.exi_names.specs.Texts.{has_text}
use Rattle.exi_lexical.specs.Binaries.{base64_octets, base64_text, hex_octets, hex_text}
use Rattle.exi_lexical.specs.Values.{canonical, value}

-- the canonical text of a value that a text has, has that value
abbrev pub ValueComesBack : Type 0
ValueComesBack = (r : Representation) (t : List ℕ) (v : Value) → value r t ≡ Some v → value r (canonical v) ≡ Some v

-- a value that a text has, has a canonical text
abbrev pub ValueHasItsText : Type 0
ValueHasItsText = (r : Representation) (t : List ℕ) (v : Value) → value r t ≡ Some v → has_text v ≡ true

-- the value of a text is one that the datatype has
abbrev pub ValueIsOfForm : Type 0
ValueIsOfForm = (r : Representation) (t : List ℕ) (v : Value) → value r t ≡ Some v → IsOf r v

-- neither a list, an enumeration nor a name
abbrev pub is_plain : Representation → Bool
is_plain (form.small least count) = true
is_plain form.unsigned = true
is_plain form.integer = true
is_plain (form.boolean pattern) = true
is_plain (form.binary hex) = true
is_plain form.decimal = true
is_plain form.float = true
is_plain (form.moment kind) = true
is_plain form.text = true
is_plain (form.chars set) = true
is_plain (form.list item) = false
is_plain (form.choice base values) = false
is_plain (form.name prefixes) = false

-- what is written is read: each value that such a datatype has is the value of its canonical text
abbrev pub WrittenIsRead : Type 0
WrittenIsRead = (r : Representation) (v : Value) → is_plain r ≡ true → IsOf r v → value r (canonical v) ≡ Some v

-- a text of base64 digits is the one that spells its octets: there are no unused bits but 0, and fillers at the end
-- alone
abbrev pub Base64IsByForm : Type 0
Base64IsByForm = (t octets : List ℕ) → AreOctets octets → (base64_octets t ≡ Some octets) ↔ (t ≡ base64_text octets)

-- octets have the value that their digits in upper case spell
abbrev pub HexIsRead : Type 0
HexIsRead = (octets : List ℕ) → AreOctets octets → hex_octets (hex_text octets) ≡ Some octets
