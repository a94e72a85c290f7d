use Rattle.std.proofs.Common.{List, ap, length, sym, true, false, ℕ}
use Rattle.exi_vocabulary.proofs.Words.{is_xml, is_xsi, known_first, known_none, known_second}
use Rattle.exi_vocabulary.proofs.tables.known_count.Goals as goal

pub returns-then-is_text : goal.returns-then-is_text
returns-then-is_text c = ap (λ (l : List (List ℕ)). length l) (sym (known_first c.args.uri.now (is_xml c.args.uri.now c.is_text.result true c.is_text.ensures c.if-is_text.true)))

pub returns-then-is_text-2 : goal.returns-then-is_text-2
returns-then-is_text-2 c =
    ap (λ (l : List (List ℕ)). length l)
    (sym (known_second c.args.uri.now (is_xml c.args.uri.now c.is_text.result false c.is_text.ensures c.if-is_text.false) (is_xsi c.args.uri.now c.is_text-2.result true c.is_text-2.ensures c.if-is_text-2.true)))

pub returns : goal.returns
returns c =
    ap (λ (l : List (List ℕ)). length l)
    (sym (known_none c.args.uri.now (is_xml c.args.uri.now c.is_text.result false c.is_text.ensures c.if-is_text.false) (is_xsi c.args.uri.now c.is_text-2.result false c.is_text-2.ensures c.if-is_text-2.false)))
