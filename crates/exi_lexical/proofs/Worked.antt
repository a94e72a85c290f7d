-- Worked rows of the definitions.
use Rattle.std.proofs.Common.{◌≡◌, true, false, [], ◌∷◌, codes, Some, None, refl}
use Rattle.std.specs.Fmt.{digits}
use Rattle.exi_names.specs.Datatypes.{list, choice}
use Rattle.exi_names.specs.Datatypes as form
use Rattle.exi_names.specs.Seen.{boolean, integer, decimal, binary, items, no_more, and}
use Rattle.exi_names.specs.Seen as shape
use Rattle.exi_lexical.specs.Binaries.{base64_octets, base64_text, hex_octets, hex_text}
use Rattle.exi_lexical.specs.Spaces.{is_space, trimmed, words}
use Rattle.exi_lexical.specs.Values.{boolean_value, canonical, list_value, scalar_value, value}

-- white space
pub words_row : words (codes " 1 2  3 ") ≡ codes "1" ∷ codes "2" ∷ codes "3" ∷ []
unfolding is_space
words_row = refl

pub trimmed_row : trimmed (codes "  a b ") ≡ codes "a b"
unfolding is_space
trimmed_row = refl

-- octets
pub hex_rows : (hex_octets (codes "00fF") ≡ Some (0 ∷ 255 ∷ [])) × (hex_octets (codes "00f") ≡ None) × (hex_text (0 ∷ 255 ∷ []) ≡ codes "00FF")
unfolding hex_octets hex_text
hex_rows = (refl, refl, refl)

pub base64_rows : (base64_octets (codes "+dR9") ≡ Some (249 ∷ 212 ∷ 125 ∷ [])) × (base64_octets (codes "AAA=") ≡ Some (0 ∷ 0 ∷ [])) × (base64_octets (codes "AAB=") ≡ None)
    × (base64_octets (codes "AA==AAAA") ≡ None) × (base64_octets (codes "AA") ≡ None) × (base64_text (codes "foob") ≡ codes "Zm9vYg==")
unfolding base64_octets base64_text
base64_rows = (refl, refl, refl, refl, refl, refl)

-- values
pub value_rows : (value (form.boolean false) (codes " 1 ") ≡ Some (boolean true false)) × (value (form.boolean true) (codes "1") ≡ Some (boolean true true))
    × (value form.decimal (codes "-12.050") ≡ Some (decimal true 12 50)) × (value form.text (codes " a ") ≡ Some (shape.text (codes " a ")))
    × (value (list form.integer) (codes "1 -2") ≡ Some (items (and (integer (record { minus = false; size = 1 })) (and (integer (record { minus = true; size = 2 })) no_more))))
    × (value (choice form.text (shape.text (codes "on") ∷ [])) (codes " on") ≡ Some (shape.text (codes "on"))) × (value (form.name false) (codes "a") ≡ None)
unfolding is_space value scalar_value boolean_value list_value
value_rows = (refl, refl, refl, refl, refl, refl, refl)

-- canonical texts
pub canonical_rows : (canonical (items (and (integer (record { minus = false; size = 1 })) (and (boolean true false) no_more))) ≡ codes "1 true") × (canonical (decimal true 12 50) ≡ codes "-12.05")
    × (canonical (binary false (249 ∷ 212 ∷ 125 ∷ [])) ≡ codes "+dR9")
unfolding digits base64_text
canonical_rows = (refl, refl, refl)
