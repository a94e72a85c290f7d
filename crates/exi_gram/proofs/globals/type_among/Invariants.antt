use Rattle.std.proofs.Common.{◌≡◌, Some, None, drop}
use Rattle.exi_names.specs.Shown.{named}
use Rattle.exi_gram.specs.Globals.{first_at, is_named}
use Rattle.exi_gram.proofs.globals.type_among.Given as goal

abbrev pub invariant-loop-place : goal.invariant-loop-place
invariant-loop-place l =
    first_at (λ t. is_named t.name (named l.fn.name)) (λ t. Some t.full) None l.fn.types (drop l.place-index l.fn.places)
    ≡ first_at (λ t. is_named t.name (named l.fn.name)) (λ t. Some t.full) None l.fn.types l.fn.places
