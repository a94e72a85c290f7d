use Rattle.std.proofs.Common.{◌≡◌, IfOk, Option, subst}
use Rattle.xsd_wildcards.specs.declared.allowed.Allowed.{Allowed}
use Rattle.xsd_type_wildcards.proofs.Allowing.{source_groups}
use Rattle.xsd_type_wildcards.proofs.Sourced.{wild_is}
use Rattle.xsd_type_wildcards.proofs.wilds.type_wild.Goals as goal

pub wild_at-requires : goal.wild_at-requires
wild_at-requires c = record {
  wilds = c.requires.wilds;
  own = c.requires.own;
  groups = source_groups c.args.paths.now c.args.of c.args.source c.requires.groups c.requires.source;
}

pub returns : goal.returns
returns c =
    subst (λ (x : Option Allowed). IfOk c.wild_at.result (λ a. a ≡ x))
    (wild_is c.args.paths.now c.args.of c.args.source c.requires.source)
    c.wild_at.ensures
