use Rattle.std.proofs.Common.{None, ap, ◌∙◌}
use Rattle.exi_codes.specs.PlacedNames.{names_in}
use Rattle.exi_codes.proofs.PlacedNames.{names_first}
use Rattle.exi_codes.proofs.places.Places.of.Goals as goal

pub returns : goal.returns
returns c = ap names_in (rw c.in_ok-first.ensures.names at c.start-tables.ensures) ∙ names_first c.args.names.now None None c.uris.ensures.start
