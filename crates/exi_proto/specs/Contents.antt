-- Contents where their states stand.
use Rattle.std.specs.Prelude.{ℕ, Bool, true, false, Option, None, List, [], ◌∷◌, if◌then◌else◌}
use Rattle.xsd_model.specs.declared.parts.Wild.TheVariants as wild
use Rattle.exi_draft.specs.Drafts.{States}
use Rattle.exi_inherited.specs.Contents.{Whole, elements, value}
use Rattle.exi_gram.specs.Terminals.{StepRule, at_any, ch_text, se_any}
use Rattle.exi_proto.specs.Pieces.{Piece, copied, ending, reading, with_text_from}
use Rattle.exi_proto.specs.Places.{lined_behind}
use Rattle.exi_proto.specs.Protos.{wild_piece}

-- one after another; nothing where there are none
abbrev pub line_left : ℕ → ℕ → Option ℕ → List Piece → States
line_left first before next [] = []
line_left first before next (x ∷ xs) = lined_behind first before next x xs

-- text stands in each state from a place on, and stays there
abbrev pub text_at : Bool → ℕ → States → States
text_at mixed first states = if mixed then with_text_from first states else states

-- any elements, as often as they may be
abbrev pub any_piece : Piece
any_piece = copied 0 None (wild_piece wild.Any)

-- the particles of a content
abbrev pub particles_in : Whole → List ℕ
particles_in (value place) = []
particles_in (elements any particles mixed) = particles

-- the two states of xs:anyType, and of its empty form
abbrev pub any_first : Bool → List StepRule
any_first true = reading at_any 0 ∷ ending 0 ∷ []
any_first false = reading at_any 0 ∷ reading se_any 1 ∷ ending 0 ∷ reading ch_text 1 ∷ []

abbrev pub any_content : Bool → List StepRule
any_content true = ending 1 ∷ []
any_content false = reading se_any 1 ∷ ending 1 ∷ reading ch_text 1 ∷ []
