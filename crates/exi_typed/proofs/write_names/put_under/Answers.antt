use Rattle.std.specs.Option.{option_copied}
use Rattle.exi_items.proofs.Pieces.{first_front}
use Rattle.exi_typed.specs.Written.{local_bits, prefix_bits}
use Rattle.exi_typed.proofs.Writes.{always}
use Rattle.exi_typed.proofs.write_names.put_under.Goals as goal

pub returns-in_err-put_listed-clause-err : goal.returns-in_err-put_listed-clause-err
returns-in_err-put_listed-clause-err g c =
    always c.from_residual.result (first_front c.args.out.now (local_bits c.args.align (g.T.Tables.held c.args.tables.now) c.args.uri c.args.local.now) (prefix_bits c.args.keep c.args.align (g.T.Tables.held c.args.tables.now) c.args.uri (option_copied c.args.prefix)) c.put_listed.new.out (rw (c.requires.found, c.locals.ensures) at c.in_err-put_listed.ensures.err))
