use Rattle.std.proofs.Common.{Some, ap, ◌∙◌, arith}
use Rattle.xsd_nodes.specs.AttributeNames.{attribute_word}
use Rattle.xsd_nodes.specs.Nodes.{text_in}
use Rattle.xsd_nodes.proofs.Lists.{is_wanted, text_ended, text_found, text_passed}
use Rattle.xsd_nodes.proofs.around.text_in.Goals as goal

pub returns-then-is_named : goal.returns-then-is_named
returns-then-is_named c =
    ap (λ a. Some a.1) c.attribute-item.is
    ∙ text_found c.attribute-item.result (attribute_word c.args.name) c.args.attributes.now c.loop-attribute.attribute-index c.is_named.result (text_in (attribute_word c.args.name) c.args.attributes.now) c.loop-attribute-test.true c.if-is_named.true (c.is_named.ensures ∙ ap (is_wanted (attribute_word c.args.name)) c.attribute-item.is) c.loop-attribute.invariant

pub loop-attribute-preserved : goal.loop-attribute-preserved
loop-attribute-preserved c =
    text_passed c.attribute-item.result (attribute_word c.args.name) c.args.attributes.now c.loop-attribute.attribute-index c.is_named.result (text_in (attribute_word c.args.name) c.args.attributes.now) c.loop-attribute-test.true c.if-is_named.false (c.is_named.ensures ∙ ap (is_wanted (attribute_word c.args.name)) c.attribute-item.is) c.loop-attribute.invariant

pub returns : goal.returns
returns c = text_ended (attribute_word c.args.name) c.args.attributes.now c.loop-attribute.attribute-index (text_in (attribute_word c.args.name) c.args.attributes.now) (omega arith) c.loop-attribute.invariant
