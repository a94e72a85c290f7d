use Rattle.std.proofs.Common.{◌∙◌}
use Rattle.exi_gram.proofs.Hashes.{outlined_names}
use Rattle.exi_gram.proofs.globals.Globals.of.Goals as goal

pub returns : goal.returns
returns c = record {
  elements = rw c.globals.ensures.globals at c.in_ok-of_elements.ensures;
  attributes = λ hash. c.in_ok-of_attributes.ensures hash ∙ outlined_names hash c.attributes.result.now c.args.schema.now.attributes c.attributes.ensures.attributes;
  types = rw c.types.ensures.types at c.in_ok-of_types.ensures;
}
