use Rattle.std.proofs.Common.{[], ◌∷◌}
use Rattle.exi_names.specs.Events as event
use Rattle.exi_names.specs.Shown.{named}
use Rattle.exi_writer.proofs.Putting.{enter_name, entered_composed, enters_on}
use Rattle.exi_writing.specs.Pruned.{pruned_name}
use Rattle.exi_writer.proofs.writer.Writer.go_in.Goals as goal

pub innermost_name-requires : goal.innermost_name-requires
innermost_name-requires g c = record { name = enter_name c.self.inside.pen c.self.inside.waits c.args.self.now c.self.view_is c.requires.waits c.requires.at_fragment }

pub put_aside-requires : goal.put_aside-requires
put_aside-requires g c = record { name = enter_name c.self.inside.pen c.self.inside.waits c.args.self.now c.self.view_is c.requires.waits c.requires.at_fragment }

pub start_fragment-requires-clause-composed : goal.start_fragment-requires-clause-composed
start_fragment-requires-clause-composed g c = entered_composed c.self.inside.pen c.put_aside.new.self c.self.inside.waits c.args.self.now c.self.view_is c.requires.waits c.requires.at_fragment c.in_ok-put_aside.ensures

pub returns-clause-composed : goal.returns-clause-composed
returns-clause-composed g c =
    let here = entered_composed c.self.inside.pen c.put_aside.new.self c.self.inside.waits c.args.self.now c.self.view_is c.requires.waits c.requires.at_fragment c.in_ok-put_aside.ensures in
    enters_on c.written_is_read.ensures.one c.start_fragment.result c.put_aside.new.self c.start_fragment.new.pen (event.sd ∷ event.se (pruned_name c.put_aside.new.self.setting.options (named c.as_ref.result)) ∷ []) here c.start_fragment.ensures
