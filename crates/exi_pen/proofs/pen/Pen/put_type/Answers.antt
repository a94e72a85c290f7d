use Rattle.std.proofs.Common.{ap, ◌∙◌}
use Rattle.exi_names.specs.Seen.{seen}
use Rattle.exi_names.specs.Shown.{named}
use Rattle.exi_writing.specs.Pruned.{pruned_name}
use Rattle.exi_pen.proofs.Putting.{shown_name, type_last}
use Rattle.exi_pen.proofs.pen.Pen.put_type.Goals as goal

pub returns : goal.returns
returns g c = record { put = type_last c.put_type_name.result (seen c.args.value.now) c.in-Name.found (named c.kept-name.result) c.misses_type.result c.args.name c.args.self.now c.put_type_name.new.self c.args.toll.now c.text.new.self c.put_type_name.new.toll (ap seen c.in-Name.is ∙ shown_name c.in-Name.found) c.misses_type.ensures c.if-misses_type.false (c.kept-name.ensures ∙ ap (pruned_name c.args.self.now.setting.options) c.as_ref.ensures) c.text.ensures c.put_type_name.ensures.put }
