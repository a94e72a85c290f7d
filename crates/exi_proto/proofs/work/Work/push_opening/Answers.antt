use Rattle.std.proofs.Common.{◌≡◌, OnOk, ◌+◌, [], ◌∷◌, ◌++◌, List, sym, ap, subst, ◌∙◌}
use Rattle.exi_gram.specs.Terminals.{StepRule}
use Rattle.exi_draft.specs.Drafts.{States}
use Rattle.exi_proto.specs.Places.{end_step, with_first}
use Rattle.exi_proto.specs.Tasks.{ends_left, made}
use Rattle.exi_proto.proofs.Leafing.{set-opening}
use Rattle.exi_proto.proofs.work.Work.push_opening.Goals as goal

pub returns-clause-made : goal.returns-clause-made
returns-clause-made c =
    let spot = c.args.spot in
    let o = c.args.self.now in
    subst (λ (a : States). OnOk c.push_reading.result (made c.push_reading.new.self ≡ made o ++ with_first (ends_left o) a))
    (ap (λ (x : List StepRule). x ∷ (end_step (spot.first + 1) spot.next ∷ []) ∷ []) c.in_ok-steps.ensures ∙ sym (set-opening c.args.elements.now c.args.place spot.first spot.before spot.next))
    c.push_reading.ensures.made
