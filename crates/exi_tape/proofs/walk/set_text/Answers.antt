use Rattle.std.proofs.Common.{ap, sym, ◌∙◌, ◌++◌, Some, chars}
use Rattle.exi_tape.proofs.Texts.{ascii_text, no_text, utf8_text}
use Rattle.exi_tape.proofs.walk.set_text.Goals as goal

pub returns-then-is_ascii : goal.returns-then-is_ascii
returns-then-is_ascii c = ascii_text c.args.bytes.now c.push_ascii.new.self c.if-is_ascii.ensures.cases (c.in_ok-push_ascii.ensures.ok ∙ ap (λ l. l ++ c.args.bytes.now) c.clear.ensures)

pub returns-in_ok-push_str-in-Ok : goal.returns-in_ok-push_str-in-Ok
returns-in_ok-push_str-in-Ok c =
    let cases = c.in-Ok.ensures.cases in
    utf8_text c.args.bytes.now cases.1 ∙ ap (λ l. Some l) (sym (c.in_ok-push_str-in-Ok.ensures.ok ∙ ap (λ l. l ++ chars c.in-Ok.characters.now) c.clear.ensures ∙ ap (λ l. chars l) cases.0))

pub returns-in-Err : goal.returns-in-Err
returns-in-Err c = no_text c.args.bytes.now c.in-Err.ensures.cases.0
