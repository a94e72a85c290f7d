use Rattle.exi_items.proofs.Pieces.{first_front, on_err}
use Rattle.exi_typed.specs.Strings.{Declaration}
use Rattle.exi_typed.specs.Written.{after_uri, declared_bits, space_for, uri_bits}
use Rattle.exi_typed.proofs.Writes.{always, declaration_front, room_for_prefix_after}
use Rattle.exi_typed.proofs.write_declarations.write_declaration.Goals as goal

pub returns-in_err-uri-clause-err : goal.returns-in_err-uri-clause-err
returns-in_err-uri-clause-err g c =
    let p = g.T.Tables.held c.args.tables.now in
    always c.from_residual.result (first_front c.args.out.now (uri_bits c.args.align p c.args.uri.now) (declared_bits c.args.align (after_uri p c.args.uri.now) (space_for p c.args.uri.now) c.args.prefix.now c.args.element) c.write_uri.new.out c.in_err-uri.ensures.err)

pub write_declared-requires-clause-room : goal.write_declared-requires-clause-room
write_declared-requires-clause-room g c = rw c.in_ok-uri.ensures.tables (room_for_prefix_after (g.T.Tables.held c.args.tables.now) c.args.uri.now c.in_ok-uri.uri c.requires.few)

pub returns-clause-err : goal.returns-clause-err
returns-clause-err g c =
    let d : Declaration = record { uri = c.args.uri.now; prefix = c.args.prefix.now; element = c.args.element } in
    on_err c.write_declared.result _ _ (declaration_front c.args.align (g.T.Tables.held c.args.tables.now) (g.T.Tables.held c.write_uri.new.tables) d c.in_ok-uri.uri c.args.out.now c.write_uri.new.out c.write_declared.new.out c.in_ok-uri.ensures.tables c.in_ok-uri.ensures.place c.in_ok-uri.ensures.ok) c.write_declared.ensures.err
