-- What holds of compiled schemas.
use Rattle.std.specs.Prelude.{◌≡◌, ◌<◌, ◌^◌, Ok, length, All}
use Rattle.exi_gram.specs.Outlines.{Outline}
use Rattle.exi_gram.specs.Schemas.{IsSchema}
use Rattle.xsd_model.specs.Parts.{IsSchemaParts, Parts}
use Rattle.exi_compiled.specs.Compiled.{compiled}
use Rattle.exi_vocabulary.specs.FirstNames.{IsOfSize}

-- no state has too many productions
abbrev pub HasFewProductions : Outline → Type 0
HasFewProductions o = All (λ g. All (λ state. length state < 2 ^ 30) g.states) o.grammars

-- a schema whose parts fit together has grammars, names and places that fit together
abbrev pub CompiledIsSchema : Type 0
CompiledIsSchema = (p : Parts) (o : Outline) → IsSchemaParts p → IsOfSize p → compiled p ≡ Ok o → HasFewProductions o → IsSchema o
