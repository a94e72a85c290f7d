use Rattle.std.proofs.Common.{refl, ◌∷◌, []}
use Rattle.exi_tables.specs.Partitions.{locals_in, prefixes_in, and_local, and_prefix}
use Rattle.exi_tables.proofs.Growing.{changed_within, changed_others}
use Rattle.exi_tables.proofs.laws.adds_at_the_end.Goals as goal

pub returns-clause-local : goal.returns-clause-local
returns-clause-local c p uri text within =
    changed_within locals_in (and_local text) p.namespaces uri (text ∷ []) (λ n. refl) within

pub returns-clause-other_locals : goal.returns-clause-other_locals
returns-clause-other_locals c p uri other text ne =
    changed_others locals_in (and_local text) p.namespaces uri other ne

pub returns-clause-prefix : goal.returns-clause-prefix
returns-clause-prefix c p uri text within =
    changed_within prefixes_in (and_prefix text) p.namespaces uri (text ∷ []) (λ n. refl) within

pub returns-clause-other_prefixes : goal.returns-clause-other_prefixes
returns-clause-other_prefixes c p uri other text ne =
    changed_others prefixes_in (and_prefix text) p.namespaces uri other ne
