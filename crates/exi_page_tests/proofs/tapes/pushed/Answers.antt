use Rattle.std.proofs.Common.{◌≤◌, ◌+◌, ◌*◌, length, arith}
use Rattle.exi_names.specs.Events as event
use Rattle.exi_names.specs.Seen.{text}
use Rattle.exi_tape.specs.Spelling.{spelled}
use Rattle.exi_page_tests.proofs.tapes.pushed.Goals as goal

pub push-requires-clause-few : goal.push-requires-clause-few
push-requires-clause-few g c =
    let few : length (spelled (event.ch (text c.args.text.now))) ≤ 64 + (64 + (8 + 4 * length c.args.text.now)) = c.within_weight.ensures (event.ch (text c.args.text.now)) in
    omega (arith, few, c.requires.few)
