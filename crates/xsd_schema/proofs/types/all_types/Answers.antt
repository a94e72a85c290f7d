use Rattle.std.proofs.Common.{◌≡◌, length, ap, map, ◌∙◌, arith}
use Rattle.xsd_places.specs.Kinds.{is_kind}
use Rattle.xsd_places.specs.declared.kind.Kind.TheVariants as kind
use Rattle.xsd_schema.specs.Seen.{type_seen}
use Rattle.xsd_schema.specs.Types.{built_in_types}
use Rattle.xsd_schema.specs.Documents.{declared_type}
use Rattle.xsd_schema.proofs.Behind.{behind_all, behind_next, behind_none}
use Rattle.xsd_schema.proofs.types.all_types.Goals as goal

pub loop-place-init : goal.loop-place-init
loop-place-init c =
    let ns = c.args.simples.now.nodes in
    let forms = c.args.simples.now.forms in record {
      types = behind_none (declared_type ns) (is_kind kind.Type ns) built_in_types (map (type_seen forms) c.in_ok-types.types) c.in_ok-types.ensures.types;
      forms = c.in_ok-types.ensures.forms;
    }

pub loop-place-preserved : goal.loop-place-preserved
loop-place-preserved c =
    let ns = c.args.simples.now.nodes in
    let forms = c.args.simples.now.forms in record {
      types =
          behind_next (declared_type ns) (is_kind kind.Type ns) c.loop-place.place built_in_types (map (type_seen forms) c.loop-place.types) (map (type_seen forms) c.push_type.new.types)
          c.loop-place.invariant.types c.in_ok-push_type.ensures.types;
      forms = c.in_ok-push_type.ensures.forms;
    }

pub returns-clause-types : goal.returns-clause-types
returns-clause-types c =
    let ns = c.args.simples.now.nodes in
    let forms = c.args.simples.now.forms in
    let few : length c.nodes-place-end.result.now ≡ length ns = ap length (c.nodes-place-end.ensures.nodes ∙ c.document.ensures ∙ c.schema.ensures) in
    let ended : c.loop-place.place ≡ length ns = omega (arith, few, c.loop-place.auto.place-end) in
    behind_all (declared_type ns) (is_kind kind.Type ns) ns c.loop-place.place built_in_types (map (type_seen forms) c.loop-place.types) ended c.loop-place.invariant.types
