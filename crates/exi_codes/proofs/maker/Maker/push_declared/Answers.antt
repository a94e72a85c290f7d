use Rattle.exi_gram.specs.Wholes.{opening}
use Rattle.exi_codes.proofs.Making.{rules_room}
use Rattle.exi_codes.proofs.maker.Maker.push_declared.Goals as goal

pub push_opening-requires-clause-room : goal.push_opening-requires-clause-room
push_opening-requires-clause-room c = rules_room c.args.self.now.options.now c.args.self.now.places.now _ _ (opening 1) _ _ _ c.loop-name.invariant c.loop-name-test.true c.requires.room
