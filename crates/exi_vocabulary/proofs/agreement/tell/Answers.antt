use Rattle.std.proofs.Common.{refl, ap, ◌∙◌}
use Rattle.exi_vocabulary.specs.Agreement.{shown, told_by}
use Rattle.exi_vocabulary.proofs.Tellings.{told_put}
use Rattle.exi_vocabulary.proofs.agreement.tell.Goals as goal

pub returns : goal.returns
returns c =
    told_put c.args.tolds.now.entries c.insert.new.self.entries c.args.declared.now.name (shown c.args.declared.now) c.told_by-told.result refl
    (c.told_by-told.ensures ∙ ap (λ o. told_by o (shown c.args.declared.now)) c.get.ensures.value)
    c.in_ok-insert.ensures.updates.0
