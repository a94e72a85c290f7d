use Rattle.std.proofs.Common.{take, ◌∙◌, arith}
use Rattle.exi_evtext.proofs.Signs.{hex_end, hex_step}
use Rattle.exi_evtext.proofs.lay_value.lay_digits.Goals as goal

pub loop-octet-preserved : goal.loop-octet-preserved
loop-octet-preserved c =
    let one = c.lay_byte-end in
    let two = c.lay_byte-end-in-loop-octet in
    let inv = c.loop-octet.invariant in record {
      behind = omega (arith, two.ensures.behind, one.ensures.behind, inv.behind);
      len = two.ensures.len ∙ one.ensures.len ∙ inv.len;
      done = hex_step c.args.octets.now (take c.loop-octet.end c.loop-octet.room) (take one.result one.new.room) (take two.result two.new.room) _ c.loop-octet.octet-index c.hex_digit.result c.hex_digit-in-loop-octet.result c.loop-octet-test.true inv.done one.ensures.laid two.ensures.laid c.hex_digit.ensures c.hex_digit-in-loop-octet.ensures;
    }

pub returns-clause-laid : goal.returns-clause-laid
returns-clause-laid c = hex_end c.args.octets.now (take c.loop-octet.end c.loop-octet.room) _ c.loop-octet.octet-index c.loop-octet-test.false c.loop-octet.invariant.done
