use Rattle.exi_gram.specs.Wholes.{opening}
use Rattle.exi_codes.proofs.Making.{rules_room_of}
use Rattle.exi_codes.proofs.maker.Maker.push_globals.Goals as goal

pub push_opening-requires-clause-room : goal.push_opening-requires-clause-room
push_opening-requires-clause-room c = rules_room_of c.args.self.now.options.now c.args.self.now.places.now _ _ (opening 2) (λ e. (e.name, e.full)) _ _ _ c.loop-global.invariant c.loop-global-test.true c.requires.room
