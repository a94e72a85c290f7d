use Rattle.std.proofs.Common.{◌∷◌, refl}
use Rattle.exi_builtin.proofs.Naming.{numbered_changed}
use Rattle.exi_builtin.proofs.overlay.Overlay.add.Goals as goal

pub invariant_of-self : goal.invariant_of-self
invariant_of-self c =
    numbered_changed c.self.inside.grammars c.learn_in_start_tag.new.self c.self.inside.numbers c.in-StartTag.number (λ g. record g { start_tag = c.args.production ∷ g.start_tag }) c.learn_in_start_tag.result (λ g. refl)
    c.learn_in_start_tag.ensures.ok c.learn_in_start_tag.ensures.err c.self.invariant

pub invariant_of-self-in-Content : goal.invariant_of-self-in-Content
invariant_of-self-in-Content c =
    numbered_changed c.self.inside.grammars c.learn_in_content.new.self c.self.inside.numbers c.in-Content.number (λ g. record g { content = c.args.production ∷ g.content }) c.learn_in_content.result (λ g. refl)
    c.learn_in_content.ensures.ok c.learn_in_content.ensures.err c.self.invariant
