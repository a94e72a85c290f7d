use Rattle.std.proofs.Common.{◌<◌, length, subst, sym}
use Rattle.exi_names.specs.Shown.{named}
use Rattle.exi_tables.specs.Partitions.{uris}
use Rattle.exi_pen.specs.Pages.{Page}
use Rattle.exi_pen.proofs.Putting.{known_put, told_name}
use Rattle.exi_pen.proofs.pen.Pen.put_known.Goals as goal

pub put_known-requires-clause-uri : goal.put_known-requires-clause-uri
put_known-requires-clause-uri g c = subst (λ (p : Page). c.args.id.uri < length (uris p.config.tables)) (sym c.self.view_is) (told_name c.args.self.now.config.tables (named c.args.name) c.args.id c.requires.told).within_uris

pub returns-then-branch-clause-put : goal.returns-then-branch-clause-put
returns-then-branch-clause-put g c = known_put c.self.view_is c.options-options.result.now c.args.id (named c.args.name) c.in_ok-put_known.field-0 c.put_known.new.out c.args.toll.now c.put_known.new.toll c.options-options.ensures.options c.requires.told c.in_ok-put_known.ensures.can c.if-branch.true (c.in_ok-put_known.ensures.bits c.if-branch.true) (c.in_ok-put_known.ensures.toll c.if-branch.true)
