use Rattle.exi_gram.specs.Additions.{at_copy}
use Rattle.exi_gram.specs.Terminals.{rule}
use Rattle.exi_codes.proofs.Making.{rules_room_of}
use Rattle.exi_codes.proofs.maker.Maker.push_copied.Goals as goal

pub push_first-requires-clause-room : goal.push_first-requires-clause-room
push_first-requires-clause-room c = rules_room_of c.args.self.now.options.now c.args.self.now.places.now _ _ (at_copy c.args.copy) (λ p. rule p.now) _ _ _ c.loop-production.invariant c.loop-production-test.true c.requires.room
