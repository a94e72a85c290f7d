use Rattle.exi_names.specs.Shown.{named}
use Rattle.exi_items.proofs.Pieces.{first_front, on_err}
use Rattle.exi_typed.specs.Written.{after_uri, space_for, under_bits, uri_bits}
use Rattle.exi_typed.proofs.Writes.{always, name_front, room_for_local_after}
use Rattle.exi_typed.proofs.write_names.write_name.Goals as goal

pub returns-in_err-uri-clause-err : goal.returns-in_err-uri-clause-err
returns-in_err-uri-clause-err g c =
    let p = g.T.Tables.held c.args.tables.now in
    let n = named c.args.name in
    always c.from_residual.result (first_front c.args.out.now (uri_bits c.args.align p n.uri) (under_bits c.args.keep c.args.align (after_uri p n.uri) (space_for p n.uri) n.local n.prefix) c.write_uri.new.out c.in_err-uri.ensures.err)

pub write_name_under-requires-clause-room : goal.write_name_under-requires-clause-room
write_name_under-requires-clause-room g c = rw c.in_ok-uri.ensures.tables (room_for_local_after (g.T.Tables.held c.args.tables.now) c.args.name.uri.now c.in_ok-uri.uri c.requires.few)

pub returns-clause-err : goal.returns-clause-err
returns-clause-err g c =
    on_err c.write_name_under.result _ _ (name_front c.args.keep c.args.align (g.T.Tables.held c.args.tables.now) (g.T.Tables.held c.write_uri.new.tables) (named c.args.name) c.in_ok-uri.uri c.args.out.now c.write_uri.new.out c.write_name_under.new.out c.in_ok-uri.ensures.tables c.in_ok-uri.ensures.place c.in_ok-uri.ensures.ok) c.write_name_under.ensures.err
