-- The grammar of a type before it is normal (EXI 1.0, section 8.5.4.1).
use Rattle.std.specs.Prelude.{ℕ, zero, suc, ◌+◌, Bool, true, false, Option, Some, None, List, [], ◌∷◌, ◌++◌, length, map, slice_get, get_or, if◌then◌else◌}
use Rattle.exi_names.specs.Datatypes.{Representation, text}
use Rattle.exi_gram.specs.Terminals.{StepRule, se, se_in, se_any, at, at_in, at_any, ch, ch_text}
use Rattle.xsd_model.specs.declared.parts.AttributeDecl.{AttributeDecl}
use Rattle.xsd_model.specs.declared.parts.ElementDecl.{ElementDecl}
use Rattle.xsd_model.specs.declared.parts.Group.{Group}
use Rattle.xsd_model.specs.declared.parts.Particle.{Particle}
use Rattle.xsd_model.specs.declared.parts.Term.{Term}
use Rattle.xsd_model.specs.declared.parts.Term.TheVariants as term
use Rattle.xsd_model.specs.declared.parts.TypeBody.{TypeBody}
use Rattle.xsd_model.specs.declared.parts.TypeBody.TheVariants as body
use Rattle.xsd_model.specs.declared.parts.TypeDef.{TypeDef}
use Rattle.xsd_model.specs.declared.parts.Wild.{Wild}
use Rattle.xsd_model.specs.declared.parts.Wild.TheVariants as wild
use Rattle.xsd_model.specs.Parts.{Parts}
use Rattle.exi_draft.specs.Drafts.{Draft, States}
use Rattle.exi_elements.specs.StandIns.{opener, stand_ins}
use Rattle.exi_inherited.specs.Contents.{Whole, content_of, elements, value}
use Rattle.exi_inherited.specs.Uses.{uses_of}
use Rattle.exi_proto.specs.Pieces.{Piece, choice, copied, empty_states, ending, joined_all, reading, reading_one, sequence, with_text}

-- ---- elements
-- SE of the element at a place; the place of its particle is told apart from the others later
abbrev pub opening_of : Parts → ℕ → Option ElementDecl → List StepRule
opening_of p place None = []
opening_of p place (Some e) = record { on = Some (se e.name); to = 1; inner = Some (opener p place); particle = Some 0 } ∷ []

abbrev pub opening : Parts → ℕ → List StepRule
opening p place = opening_of p place (slice_get p.elements place)

abbrev pub opening_piece : Parts → ℕ → Piece
opening_piece p place = record { states = reading_one (opening p place); particles = 1 }

-- one of those that may stand for an element
abbrev pub one_of_them : List Piece → Piece
one_of_them [] = choice []
one_of_them (x ∷ []) = x
one_of_them (x ∷ (y ∷ ys)) = choice (x ∷ y ∷ ys)

abbrev pub element_piece : Parts → ℕ → Piece
element_piece p place = one_of_them (map (opening_piece p) (stand_ins p place))

-- ---- wildcards for elements
abbrev pub in_each_from : ℕ → List (List ℕ) → List StepRule
in_each_from n [] = []
in_each_from n (uri ∷ uris) = record { on = Some (se_in uri); to = 1; inner = None; particle = Some n } ∷ in_each_from (suc n) uris

abbrev pub wild_piece : Wild → Piece
wild_piece wild.Any = record { states = reading_one (reading se_any 1 ∷ []); particles = 0 }
wild_piece (wild.Listed uris) = record { states = reading_one (in_each_from 0 uris); particles = length uris }

-- ---- particles
-- by the particles within it
abbrev pub group_piece : (ℕ → Piece) → Option Group → Piece
group_piece within None = sequence []
group_piece within (Some g) = of_any g.particle
  where
    of_any : Option ℕ → Piece
    of_any None = sequence []
    of_any (Some particle) = within particle

abbrev pub term_piece : Parts → (ℕ → Piece) → Term → Piece
term_piece p within (term.Element element) = element_piece p element
term_piece p within (term.Group group) = group_piece within (slice_get p.groups group)
term_piece p within (term.Sequence places) = sequence (map within places)
term_piece p within (term.Choice places) = choice (map within places)
term_piece p within (term.Wild wild) = wild_piece wild

abbrev pub particle_piece : Parts → (ℕ → Piece) → Option Particle → Piece
particle_piece p within None = sequence []
particle_piece p within (Some x) = copied x.least x.most (term_piece p within x.term)

-- the particle at a place; particles and groups lie within one another so many deep
abbrev pub piece_within : ℕ → Parts → ℕ → Piece
piece_within zero p place = sequence []
piece_within (suc n) p place = particle_piece p (piece_within n p) (slice_get p.particles place)

-- no particle lies within itself
abbrev pub piece_of : Parts → ℕ → Piece
piece_of p place = piece_within (suc (length p.particles)) p place

-- ---- contents
-- how the values of the simple type at a place are represented
abbrev pub representation_of : Parts → ℕ → Representation
representation_of p place = by_type (slice_get p.types place)
  where
    by_type : Option TypeDef → Representation
    by_type None = text
    by_type (Some t) = by_body t.body
      where
        by_body : TypeBody → Representation
        by_body (body.Simple form union) = get_or p.forms form text
        by_body (body.Complex complex) = text
        by_body body.Ur = text

abbrev pub value_states : Parts → ℕ → States
value_states p place = reading_one (reading (ch (representation_of p place)) 1 ∷ [])

-- any elements, as often as they may be
abbrev pub any_pieces : Bool → List Piece
any_pieces true = copied 0 None (wild_piece wild.Any) ∷ []
any_pieces false = []

abbrev pub content_states : Parts → Whole → States
content_states p (value place) = value_states p place
content_states p (elements any particles mixed) = with_text mixed (sequence (any_pieces any ++ map (piece_of p) particles)).states

-- ---- attributes
-- AT(*), or AT of any name of each URI, which stay
abbrev pub of_each_uri : List (List ℕ) → List StepRule
of_each_uri [] = []
of_each_uri (uri ∷ uris) = reading (at_in uri) 0 ∷ of_each_uri uris

abbrev pub wild_steps : Option Wild → List StepRule
wild_steps None = []
wild_steps (Some wild.Any) = reading at_any 0 ∷ []
wild_steps (Some (wild.Listed uris)) = of_each_uri uris

-- one that is not required may be left out
abbrev pub end_unless : Bool → List StepRule
end_unless required = if required then [] else ending 0 ∷ []

abbrev pub attribute_of : Parts → Option AttributeDecl → List StepRule
attribute_of p None = []
attribute_of p (Some a) = reading (at a.name (representation_of p a.of)) 1 ∷ []

abbrev pub attribute_steps : Parts → ℕ → List StepRule
attribute_steps p place = attribute_of p (slice_get p.attributes place)

abbrev pub use_states : Parts → Option Wild → ℕ → Bool → States
use_states p w attribute required = reading_one (attribute_steps p attribute ++ (end_unless required ++ wild_steps w))

-- one more for the attributes of a wildcard alone
abbrev pub last_wild : Option Wild → List States
last_wild None = []
last_wild (Some w) = ((wild_steps (Some w) ++ ending 0 ∷ []) ∷ []) ∷ []

abbrev pub attribute_states : Parts → ℕ → Option Wild → List States
attribute_states p place w = map (λ u. use_states p w u.attribute u.required) (uses_of p place) ++ last_wild w

abbrev pub states_count : List States → ℕ
states_count [] = 0
states_count (a ∷ others) = length a + states_count others

-- ---- types
-- attributes, and then a content
abbrev pub complex_draft : List States → States → Draft
complex_draft attributes content = record { states = joined_all (attributes ++ content ∷ []); content = states_count attributes }

-- xs:anyType: any attributes, any elements, and text
abbrev pub any_draft : Draft
any_draft = record {
  states = (reading at_any 0 ∷ reading se_any 1 ∷ ending 0 ∷ reading ch_text 1 ∷ []) ∷ (reading se_any 1 ∷ ending 1 ∷ reading ch_text 1 ∷ []) ∷ [];
  content = 1;
}

abbrev pub any_empty_draft : Draft
any_empty_draft = record { states = (reading at_any 0 ∷ ending 0 ∷ []) ∷ (ending 1 ∷ []) ∷ []; content = 1 }

-- by what a type is; its empty form has nothing for the content
abbrev pub body_draft : Parts → ℕ → Bool → TypeBody → Draft
body_draft p place empty (body.Simple form union) = complex_draft [] (if empty then empty_states else value_states p place)
body_draft p place empty body.Ur = if empty then any_empty_draft else any_draft
body_draft p place empty (body.Complex complex) = complex_draft (attribute_states p place complex.wild) (if empty then empty_states else content_states p (content_of p place))

abbrev pub type_draft : Parts → ℕ → Bool → Option TypeDef → Draft
type_draft p place empty None = complex_draft [] empty_states
type_draft p place empty (Some t) = body_draft p place empty t.body

-- the grammar of the type at a place, or its empty form, which xsi:nil takes
abbrev pub draft_of_type : Parts → ℕ → Bool → Draft
draft_of_type p place empty = type_draft p place empty (slice_get p.types place)
