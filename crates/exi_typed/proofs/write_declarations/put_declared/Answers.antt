use Rattle.exi_bits.specs.Bits.{number}
use Rattle.exi_items.proofs.Pieces.{first_front}
use Rattle.exi_typed.specs.Written.{flag_number, indexed_bits}
use Rattle.exi_typed.proofs.Writes.{always}
use Rattle.exi_typed.proofs.write_declarations.put_declared.Goals as goal

pub returns-in_err-put_indexed-clause-err : goal.returns-in_err-put_indexed-clause-err
returns-in_err-put_indexed-clause-err c =
    always c.from_residual.result (first_front c.args.out.now (indexed_bits c.args.align c.args.count c.args.prefix.now c.args.found) (number 1 c.args.align (flag_number c.args.element)) c.put_indexed.new.out c.in_err-put_indexed.ensures.err)
