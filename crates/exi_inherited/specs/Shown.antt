-- The content of a type, put together from that of its topmost base down.
use Rattle.std.specs.Prelude.{ℕ, Bool, false, Option, List, [], ◌∷◌, option_to_list}
use Rattle.xsd_model.specs.Parts.{Parts}
use Rattle.exi_inherited.specs.Contents.{Whole, elements, own_content, value}
use Rattle.exi_inherited.specs.declared.content.Whole as declared
use Rattle.exi_inherited.specs.declared.content.Whole.TheVariants as whole

-- the content that an answer tells
abbrev pub whole_of : declared.Whole → Whole
whole_of (whole.Value place) = value place
whole_of (whole.Elements any particles mixed) = elements any particles mixed

-- of a particle alone
abbrev pub only : Option ℕ → Bool → Whole
only particle mixed = elements false (option_to_list particle) mixed

-- of the first of these types, each with the one behind it as its base
abbrev pub built_on : Parts → List ℕ → Whole → Whole
built_on p [] base = base
built_on p (place ∷ places) base = own_content p place (built_on p places base)
