use Rattle.std.proofs.Common.{◌≡◌, ◌<◌, length, sym, ap, ◌∙◌, arith}
use Rattle.xsd_model.specs.Parts.{representations}
use Rattle.xsd_restrictions.proofs.Places.{length_forms}
use Rattle.xsd_simple.specs.Simple.{Shared}
use Rattle.xsd_simple.proofs.simples.Simples.has_value.Goals as goal

pub has_value-requires-clause-there : goal.has_value-requires-clause-there
has_value-requires-clause-there c =
    let forms_are : length (representations c.self.inside.forms) ≡ length c.args.self.now.forms = ap (λ (s : Shared). length s.forms) c.self.view_is in
    let all : length (representations c.self.inside.forms) ≡ length c.self.inside.forms = length_forms c.self.inside.forms in
    let slice : length c.as_slice.result.now ≡ length c.self.inside.forms = ap length c.as_slice.ensures in
    let less = c.entry.ensures.kept.there in
    omega (arith, forms_are, all, slice, less)
