use Rattle.std.proofs.Common.{sym, true, false, ◌∙◌}
use Rattle.exi_vocabulary.proofs.Words.{is_xml, is_xsi, known_first, known_none, known_second, same_ok, xml_names_are, xsi_names_are}
use Rattle.exi_vocabulary.proofs.tables.known_locals.Goals as goal

pub returns-then-is_text : goal.returns-then-is_text
returns-then-is_text c =
    same_ok _ _ c.of.result (xml_names_are ∙ sym (known_first c.args.uri.now (is_xml c.args.uri.now c.is_text.result true c.is_text.ensures c.if-is_text.true))) c.of.ensures

pub returns-then-is_text-2 : goal.returns-then-is_text-2
returns-then-is_text-2 c =
    same_ok _ _ c.of-then-is_text-2.result
    (xsi_names_are
    ∙ sym (known_second c.args.uri.now (is_xml c.args.uri.now c.is_text.result false c.is_text.ensures c.if-is_text.false) (is_xsi c.args.uri.now c.is_text-2.result true c.is_text-2.ensures c.if-is_text-2.true)))
    c.of-then-is_text-2.ensures

pub returns : goal.returns
returns c =
    same_ok _ _ c.of-2.result
    (sym (known_none c.args.uri.now (is_xml c.args.uri.now c.is_text.result false c.is_text.ensures c.if-is_text.false) (is_xsi c.args.uri.now c.is_text-2.result false c.is_text-2.ensures c.if-is_text-2.false)))
    c.of-2.ensures
