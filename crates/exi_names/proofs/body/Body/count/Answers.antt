use Rattle.std.proofs.Common.{List, ℕ, length, ap, sym, ◌∙◌, arith}
use Rattle.std.specs.Str.{chars}
use Rattle.exi_names.specs.Bodies.{form_bytes}
use Rattle.exi_names.proofs.Texts.{short_count}
use Rattle.exi_names.proofs.body.Body.count.Goals as goal

pub returns-in-Short : goal.returns-in-Short
returns-in-Short c =
    c.from.ensures
    ∙ sym (short_count c.short.inside.len c.short.inside.bytes (omega (arith, c.short.told, c.short.invariant.0)) c.short.invariant.1)
    ∙ ap (λ (t : List ℕ). length (chars t)) (c.short.view_is ∙ sym (ap form_bytes c.in-Short.is) ∙ c.self.view_is)
