use Rattle.std.proofs.Common.{sym, ◌∙◌}
use Rattle.exi_gram.specs.Additions.{is_of_instance}
use Rattle.exi_gram.specs.Terminals.{rule}
use Rattle.exi_codes.proofs.Making.{single_more, single_none, singles_room}
use Rattle.exi_codes.proofs.maker.Maker.push_instance.Goals as goal
use Rattle.exi_codes.proofs.maker.Maker.push_instance.Goals.{then-is_of_instance+in_ok-copy+in_ok-push_single, else-is_of_instance}

pub push_single-requires : goal.push_single-requires
push_single-requires c = record { room = singles_room c.args.self.now.options.now c.args.self.now.places.now _ _ is_of_instance rule c.args.state.now c.loop-production.production-index _ c.loop-production.invariant c.loop-production-test.true c.requires.room }

pub loop-production-preserved : goal.loop-production-preserved
loop-production-preserved c = elim c.if-is_of_instance.branch [
  | then-is_of_instance+in_ok-copy+in_ok-push_single w ↦ rw w.made-is
      (single_more c.args.self.now.options.now c.args.self.now.places.now _ _ _ is_of_instance rule c.args.state.now c.loop-production.production-index c.production-item.result _
      c.loop-production-test.true c.production-item.is (sym c.is_of_instance.ensures ∙ w.if-is_of_instance.true) w.in_ok-copy.ensures c.loop-production.invariant w.in_ok-push_single.ensures.added)
  | else-is_of_instance w ↦ rw w.made-is
      (single_none c.args.self.now.options.now c.args.self.now.places.now _ _ is_of_instance rule c.args.state.now c.loop-production.production-index c.production-item.result
      c.loop-production-test.true c.production-item.is (sym c.is_of_instance.ensures ∙ w.if-is_of_instance.false) c.loop-production.invariant)
]
