use Rattle.exi_codes.proofs.Making.{second_size}
use Rattle.exi_codes.proofs.maker.Maker.push_single.Goals as goal

pub returns-in_ok-push_single-clause-size : goal.returns-in_ok-push_single-clause-size
returns-in_ok-push_single-clause-size c = second_size _ _ _ c.in_ok-push_single.ensures.ok
