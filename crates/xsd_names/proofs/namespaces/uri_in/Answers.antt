use Rattle.std.proofs.Common.{Some, ap, ◌∙◌, arith}
use Rattle.std.specs.Str.{bytes_eq}
use Rattle.xsd_names.specs.Names.{uri_in}
use Rattle.xsd_names.proofs.Lists.{Declared, uri_ended, uri_found, uri_passed}
use Rattle.xsd_names.proofs.namespaces.uri_in.Goals as goal

pub returns-then-same : goal.returns-then-same
returns-then-same c =
    ap (λ (a : Declared). Some a.1) c.declared-item.is
    ∙ uri_found c.declared-item.result c.args.prefix.now c.args.scope.now c.loop-declared.declared-index c.same.result (uri_in c.args.prefix.now c.args.scope.now) c.loop-declared-test.true c.if-same.true (c.same.ensures.test ∙ ap (λ (a : Declared). bytes_eq a.0 c.args.prefix.now) c.declared-item.is) c.loop-declared.invariant

pub loop-declared-preserved : goal.loop-declared-preserved
loop-declared-preserved c =
    uri_passed c.declared-item.result c.args.prefix.now c.args.scope.now c.loop-declared.declared-index c.same.result (uri_in c.args.prefix.now c.args.scope.now) c.loop-declared-test.true c.if-same.false (c.same.ensures.test ∙ ap (λ (a : Declared). bytes_eq a.0 c.args.prefix.now) c.declared-item.is) c.loop-declared.invariant

pub returns : goal.returns
returns c = uri_ended c.args.prefix.now c.args.scope.now c.loop-declared.declared-index (uri_in c.args.prefix.now c.args.scope.now) (omega arith) c.loop-declared.invariant
