use Rattle.exi_names.proofs.Together.{plain_each}
use Rattle.std.specs.Prelude.{encode_utf8_all}
use Rattle.exi_names.proofs.txt.Txt.is_surely_plain.Goals as goal

pub returns-in-Some : goal.returns-in-Some
returns-in-Some c = λ t. plain_each (encode_utf8_all c.args.self.now) c.in-Some.ensures.plain
