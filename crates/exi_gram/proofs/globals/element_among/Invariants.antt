use Rattle.std.proofs.Common.{◌≡◌, Some, None, drop}
use Rattle.exi_names.specs.Shown.{named}
use Rattle.exi_gram.specs.Globals.{first_at, same_texts}
use Rattle.exi_gram.proofs.globals.element_among.Given as goal

abbrev pub invariant-loop-place : goal.invariant-loop-place
invariant-loop-place l =
    first_at (λ e. same_texts e.name (named l.fn.name)) (λ e. Some e.full) None l.fn.elements (drop l.place-index l.fn.places)
    ≡ first_at (λ e. same_texts e.name (named l.fn.name)) (λ e. Some e.full) None l.fn.elements l.fn.places
