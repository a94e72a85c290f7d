use Rattle.std.proofs.Common.{◌<◌, ◌^◌, List, ℕ, length, ap, sym, subst}
use Rattle.exi_bits.specs.Widths.{width_for}
use Rattle.exi_gram.proofs.CodeItems.{below_width}
use Rattle.exi_options.specs.Document.{Code, codes}
use Rattle.exi_options.proofs.Writes.{err_holds, piece_stops, same_code}
use Rattle.exi_options.proofs.write.put_piece.Goals as goal

pub put-requires-clause-fits : goal.put-requires-clause-fits
put-requires-clause-fits c =
    rw c.bits_for.ensures.width (subst (λ (cs : List Code). c.args.place < 2 ^ width_for (length cs)) (sym c.codes-codes.ensures.codes) (below_width c.args.place (length (codes c.args.state)) c.requires.there))

pub returns-in_err-put_value-clause-err : goal.returns-in_err-put_value-clause-err
returns-in_err-put_value-clause-err c =
    err_holds _ _ (piece_stops c.args.options.now c.args.state c.args.place c.codes-codes.result.now _ c.bits_for.result c.args.out.now c.put.new.self c.put_value.new.out c.codes-codes.ensures.codes c.requires.there c.bits_for.ensures.width c.in_ok-put.ensures.ok c.in_err-put_value.ensures.err)

pub returns-clause-next : goal.returns-clause-next
returns-clause-next c =
    ap (λ (x : Code). x.1) (same_code c.codes-codes.result.now c.args.state c.args.place _ c.codes-codes.ensures.codes c.requires.there)
