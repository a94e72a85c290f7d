use Rattle.std.proofs.Common.{◌≡◌, Some, None, drop}
use Rattle.exi_names.specs.Shown.{named}
use Rattle.exi_gram.specs.Globals.{first_at, represented_by, same_texts}
use Rattle.exi_gram.proofs.globals.attribute_among.Given as goal

abbrev pub invariant-loop-place : goal.invariant-loop-place
invariant-loop-place l =
    first_at (λ a. same_texts a.0 (named l.fn.name)) (λ a. represented_by (Some a.1)) (represented_by None) l.fn.attributes (drop l.place-index l.fn.places)
    ≡ first_at (λ a. same_texts a.0 (named l.fn.name)) (λ a. represented_by (Some a.1)) (represented_by None) l.fn.attributes l.fn.places
