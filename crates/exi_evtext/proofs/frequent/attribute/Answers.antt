use Rattle.std.proofs.Common.{List, ℕ, ◌++◌, sym, ap, ◌∙◌}
use Rattle.exi_evtext.specs.Lines.{name_words}
use Rattle.exi_evtext.specs.Plain.{plain_name}
use Rattle.exi_evtext.proofs.Cursors.{past_mark}
use Rattle.exi_evtext.proofs.Straight.{attribute_line, held_line}
use Rattle.exi_evtext.proofs.frequent.attribute.Goals as goal

pub returns : goal.returns
returns c =
    let uri = c.in-Some.uri in
    let local = c.in-Some.local in
    let rest = c.in-Some-behind_mark.rest.now in
    let text = c.in-Some-plain_value.text in
    let behind = c.in-Some-plain_value.behind.now in
    let name = c.in-Some.ensures.parts ∙ ap (λ (x : List ℕ). name_words (plain_name uri local) ++ x) (past_mark 32 c.in-Some.rest.now rest (sym c.in-Some-behind_mark.ensures)) in
    let line = attribute_line c.args.bytes.now uri local rest text behind c.in-Some.ensures.plain.0 c.in-Some.ensures.plain.1 c.in-Some-plain_value.ensures.plain name c.in-Some-plain_value.ensures.parts in
    held_line c.if_held.result c.in_ok-hold_attribute.field-0 _ c.hold_attribute.new.self _ behind c.if_held.ensures c.in_ok-hold_attribute.ensures line
