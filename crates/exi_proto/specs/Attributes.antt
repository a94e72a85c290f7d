-- Attributes where their states stand.
use Rattle.std.specs.Prelude.{ℕ, Option, Some, None, List, [], ◌∷◌, map, slice_get}
use Rattle.exi_gram.specs.declared.grammar.Step.{Step}
use Rattle.exi_gram.specs.Terminals.{StepRule, at, at_any, at_in, step_rule}
use Rattle.xsd_model.specs.declared.parts.AttributeDecl.{AttributeDecl}
use Rattle.xsd_model.specs.declared.parts.Wild.{Wild}
use Rattle.xsd_model.specs.declared.parts.Wild.TheVariants as wild
use Rattle.xsd_model.specs.Parts.{Parts}
use Rattle.exi_inherited.specs.declared.uses.Use.{Use}
use Rattle.exi_draft.specs.Drafts.{States}
use Rattle.exi_proto.specs.Pieces.{reading}
use Rattle.exi_proto.specs.Protos.{representation_of, use_states}

-- the states that are made
abbrev pub made_of : List (List Step) → States
made_of states = map (map step_rule) states

-- what reads an attribute that a wildcard allows, and leads to a state
abbrev pub each_uri_at : ℕ → List (List ℕ) → List StepRule
each_uri_at to [] = []
each_uri_at to (uri ∷ uris) = reading (at_in uri) to ∷ each_uri_at to uris

abbrev pub wild_at : ℕ → Option Wild → List StepRule
wild_at to None = []
wild_at to (Some wild.Any) = reading at_any to ∷ []
wild_at to (Some (wild.Listed uris)) = each_uri_at to uris

-- what reads the attribute at a place, and leads to a state
abbrev pub attribute_in : ℕ → Parts → Option AttributeDecl → List StepRule
attribute_in to p None = []
attribute_in to p (Some a) = reading (at a.name (representation_of p a.of)) to ∷ []

abbrev pub attribute_at : ℕ → Parts → ℕ → List StepRule
attribute_at to p place = attribute_in to p (slice_get p.attributes place)

-- the states of attributes, one after another
abbrev pub each_use : Parts → Option Wild → List Use → List States
each_use p w uses = map (λ u. use_states p w u.attribute u.required) uses
