use Rattle.std.proofs.Common.{sym, arith}
use Rattle.std.proofs.lemmas.List.{drop_all}
use Rattle.xsd_file.proofs.counts.behind_built_in.Goals as goal

pub returns-then-types-lt46 : goal.returns-then-types-lt46
returns-then-types-lt46 c = sym (drop_all 46 c.args.types.now (omega (arith, c.if-types-lt46.true)))
