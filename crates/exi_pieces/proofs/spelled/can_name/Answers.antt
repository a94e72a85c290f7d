use Rattle.std.proofs.Common.{sym}
use Rattle.exi_names.specs.Shown.{named}
use Rattle.exi_pieces.proofs.Names.{absent, named_new}
use Rattle.exi_pieces.proofs.spelled.can_name.Goals as goal

pub returns-in-None : goal.returns-in-None
returns-in-None g c = named_new c.args.keep (g.T.Tables.held c.args.tables.now) (named c.args.name) c.is_none.result (sym c.if-not-can_be_spelled.ensures) (sym c.if-not-can_be_spelled-2.ensures) (sym c.in-None.ensures) (absent c.args.name.prefix c.is_none.result c.is_none.ensures)
