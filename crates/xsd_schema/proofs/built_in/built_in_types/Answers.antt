use Rattle.std.proofs.Common.{List, All, length, subst, sym, arith}
use Rattle.std.proofs.lemmas.List.Elements.{All-push}
use Rattle.xsd_model.specs.declared.parts.TypeDef.{TypeDef}
use Rattle.xsd_schema.specs.Seen.{type_seen}
use Rattle.xsd_schema.specs.Types.{HasFormIn, built_in_types}
use Rattle.xsd_schema.proofs.Lists.{built_ended, built_more}
use Rattle.xsd_schema.proofs.built_in.built_in_types.Goals as goal

pub loop-place-preserved : goal.loop-place-preserved
loop-place-preserved c = record {
  types = built_more (type_seen c.args.simples.now.forms) c.names-words.result.now c.loop-place.place _ c.loop-place.types c.push.new.self c.in_ok-built_in_type.field-0 built_in_types c.names-words.ensures.names c.loop-place-test.true c.in_ok-built_in_type.ensures.seen c.in_ok-push.ensures.ok c.loop-place.invariant.types;
  forms = subst (λ (l : List TypeDef). All (HasFormIn (length c.args.simples.now.forms)) l) (sym c.in_ok-push.ensures.ok) (All-push (HasFormIn (length c.args.simples.now.forms)) c.loop-place.types c.in_ok-built_in_type.field-0 c.loop-place.invariant.forms c.in_ok-built_in_type.ensures.form);
}

pub returns-clause-types : goal.returns-clause-types
returns-clause-types c = built_ended (type_seen c.args.simples.now.forms) c.names-words.result.now c.loop-place.place c.loop-place.types built_in_types c.names-words.ensures.names (omega arith) c.loop-place.invariant.types
