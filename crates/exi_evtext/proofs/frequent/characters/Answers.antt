use Rattle.std.proofs.Common.{◌∷◌, refl}
use Rattle.exi_evtext.proofs.Refills.{any_line}
use Rattle.exi_evtext.proofs.Straight.{characters_line, held_line, value_parts}
use Rattle.exi_evtext.proofs.frequent.characters.Goals as goal

pub returns-in_default-plain_last : goal.returns-in_default-plain_last
returns-in_default-plain_last c = any_line c.any_text.result c.args.bytes.now c.in-Some.inside.now c.any_text.new.room c.in-Some.ensures c.any_text.ensures

pub returns : goal.returns
returns c =
    let text = c.in-Some-plain_last.text in
    let behind = c.in-Some-plain_last.behind.now in
    let plain = c.in-Some-plain_last.ensures.plain in
    let parts = value_parts c.args.bytes.now c.in-Some.inside.now text (10 ∷ behind) behind plain c.in-Some.ensures c.in-Some-plain_last.ensures.parts refl in
    held_line c.if_held.result c.in_ok-hold_characters.field-0 _ c.hold_characters.new.self _ behind c.if_held.ensures c.in_ok-hold_characters.ensures (characters_line c.args.bytes.now text behind plain parts)
