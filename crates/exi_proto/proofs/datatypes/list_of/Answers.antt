use Rattle.std.proofs.Common.{◌≡◌, ℕ, refl, ap, ◌∙◌, arith}
use Rattle.exi_names.specs.declared.datatype.Datatype.{Datatype}
use Rattle.exi_names.specs.declared.datatype.Datatype.TheVariants as datatype
use Rattle.exi_names.specs.Datatypes.{list, represented}
use Rattle.exi_proto.specs.Lists.{list_of}
use Rattle.exi_proto.proofs.Forms.{list_shown, one_more}
use Rattle.exi_proto.proofs.datatypes.list_of.Goals as goal

pub loop-level-init : goal.loop-level-init
loop-level-init c = refl

pub loop-level-preserved : goal.loop-level-preserved
loop-level-preserved c =
    one_more c.loop-level._level (represented (datatype.List c.in_ok-new.field-0)) (represented c.args.item) (represented c.loop-level.datatype)
    (list_shown c.in_ok-new.field-0 ∙ ap (λ (d : Datatype). list (represented d)) c.in_ok-new.ensures.ok)
    c.loop-level.invariant

pub returns : goal.returns
returns c =
    let same : c.loop-level._level ≡ c.args.depth = omega (arith, c.loop-level-test.false, c.loop-level.auto._level-end) in
    c.loop-level.invariant ∙ ap (λ (n : ℕ). list_of n (represented c.args.item)) same
