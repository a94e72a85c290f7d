use Rattle.std.proofs.Common.{slice_get, sym, ap, ◌∙◌}
use Rattle.exi_inherited.specs.Told.{use_in}
use Rattle.exi_inherited.proofs.Keeping.{use_at, use_kept}
use Rattle.exi_inherited.proofs.told.Told.use_at.Goals as goal

pub returns-in-Some : goal.returns-in-Some
returns-in-Some c =
    ap use_kept c.in-Some.ensures.entry ∙ sym (use_at c.self.inside.said.entries c.args.place) ∙ ap (λ t. use_in (slice_get t c.args.place)) c.self.view_is

pub returns-in-None : goal.returns-in-None
returns-in-None c =
    ap use_kept c.in-None.ensures.entry ∙ sym (use_at c.self.inside.said.entries c.args.place) ∙ ap (λ t. use_in (slice_get t c.args.place)) c.self.view_is
