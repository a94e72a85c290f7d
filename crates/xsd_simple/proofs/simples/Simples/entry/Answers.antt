use Rattle.std.proofs.Common.{◌≡◌, List, Some, subst, sym, ap}
use Rattle.exi_names.specs.Datatypes.{Representation}
use Rattle.xsd_model.specs.Parts.{representations}
use Rattle.xsd_restrictions.specs.Entries.{IsEntry}
use Rattle.xsd_simple.specs.Simple.{Shared}
use Rattle.xsd_simple.proofs.Table.{found_entry}
use Rattle.xsd_simple.proofs.simples.Simples.entry.Goals as goal

pub returns-clause-kept : goal.returns-clause-kept
returns-clause-kept c =
    let forms_are : representations c.self.inside.forms ≡ c.args.self.now.forms = ap (λ (s : Shared). s.forms) c.self.view_is in
    subst (λ (rs : List Representation). IsEntry rs c.entry.result.now) forms_are
    (found_entry c.schema.result.now (representations c.self.inside.forms) c.self.inside.known.entries.items c.self.inside.known.places.items c.self.invariant.1.known (Some c.args.of) c.entry.result.now c.entry.ensures)
