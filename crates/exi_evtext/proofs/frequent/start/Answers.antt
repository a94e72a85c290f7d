use Rattle.std.proofs.Common.{List, ℕ, ◌++◌, sym, ap, ◌∙◌}
use Rattle.exi_evtext.specs.Lines.{name_words}
use Rattle.exi_evtext.specs.Plain.{plain_name}
use Rattle.exi_evtext.proofs.Cursors.{past_mark}
use Rattle.exi_evtext.proofs.Straight.{held_line, start_line}
use Rattle.exi_evtext.proofs.frequent.start.Goals as goal

pub returns : goal.returns
returns c =
    let uri = c.in-Some.uri in
    let local = c.in-Some.local in
    let behind = c.in-Some-behind_mark.behind.now in
    let end = past_mark 10 c.in-Some.rest.now behind (sym c.in-Some-behind_mark.ensures) in
    let parts = c.in-Some.ensures.parts ∙ ap (λ (x : List ℕ). name_words (plain_name uri local) ++ x) end in
    held_line c.if_held.result c.in_ok-hold_start.field-0 _ c.hold_start.new.self _ behind c.if_held.ensures c.in_ok-hold_start.ensures (start_line c.args.bytes.now uri local behind c.in-Some.ensures.plain.0 c.in-Some.ensures.plain.1 parts)
