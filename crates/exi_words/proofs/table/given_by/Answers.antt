use Rattle.std.proofs.Common.{rules, ◌≡◌}
use Rattle.clap.specs.Words.{app_of, kind_of}
use Rattle.clap.specs.declared.error.kind.ErrorKind.TheVariants as kind
use Rattle.exi_words.specs.Found.{rows_found}
use Rattle.exi_words.proofs.Taken.{refused, taken}
use Rattle.exi_words.proofs.table.given_by.Goals as goal

pub returns-in-Ok : goal.returns-in-Ok
returns-in-Ok g c =
    taken c.args.verb (app_of c.in_ok-table.table) _ (rows_found c.in-Ok.matches)
    c.in_ok-table.ensures c.in-Ok.ensures.kinds (λ s. (c.in-Ok.ensures.matches s).0)

pub returns-else-eq : goal.returns-else-eq
returns-else-eq g c =
    let other : kind_of c.in-Err.error ≡ kind.OutOfMemory → ⊥ = search rules in
    refused c.args.verb (app_of c.in_ok-table.table) _ (kind_of c.in-Err.error)
    c.in_ok-table.ensures c.in-Err.ensures.kinds other
