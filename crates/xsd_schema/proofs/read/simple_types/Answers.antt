use Rattle.std.proofs.Common.{◌≡◌, length, ap, ◌∙◌, arith}
use Rattle.xsd_places.specs.Kinds.{is_kind}
use Rattle.xsd_places.specs.declared.kind.Kind.TheVariants as kind
use Rattle.xsd_schema.specs.Seen.{type_seen}
use Rattle.xsd_schema.specs.Types.{built_in_types, simple_at}
use Rattle.xsd_schema.proofs.Lists.{typed_all, typed_next, typed_none}
use Rattle.xsd_schema.proofs.read.simple_types.Goals as goal

pub loop-place-init : goal.loop-place-init
loop-place-init c = typed_none (type_seen c.args.simples.now.forms) built_in_types (simple_at c.args.simples.now.nodes) (is_kind kind.Simple c.args.simples.now.nodes) c.in_ok-types.types c.in_ok-types.ensures.types

pub loop-place-preserved : goal.loop-place-preserved
loop-place-preserved c =
    typed_next (type_seen c.args.simples.now.forms) built_in_types (simple_at c.args.simples.now.nodes) (is_kind kind.Simple c.args.simples.now.nodes) c.loop-place.place c.loop-place.types c.push_simple_type.new.types
    c.in_ok-push_simple_type.ensures c.loop-place.invariant

pub returns : goal.returns
returns c =
    let few : length c.nodes-place-end.result.now ≡ length c.args.simples.now.nodes = ap length (c.nodes-place-end.ensures.nodes ∙ c.document.ensures ∙ c.schema.ensures) in
    let ended : c.loop-place.place ≡ length c.args.simples.now.nodes = omega (arith, few, c.loop-place.auto.place-end) in
    typed_all (type_seen c.args.simples.now.forms) built_in_types (simple_at c.args.simples.now.nodes) (is_kind kind.Simple c.args.simples.now.nodes) c.args.simples.now.nodes c.loop-place.place c.loop-place.types ended c.loop-place.invariant
