use Rattle.std.proofs.Common.{◌≡◌, Bool, true, sym, subst}
use Rattle.exi_gram.specs.Switches.{prefixes}
use Rattle.exi_names.specs.Shown.{named}
use Rattle.exi_tables.specs.Partitions as tables
use Rattle.exi_writing.specs.Pieces.{can_tell}
use Rattle.exi_pieces.proofs.Under.{under_is}
use Rattle.exi_pieces.proofs.pieces.put_under.Goals as goal

pub returns-clause-id : goal.returns-clause-id
returns-clause-id g c =
    let held = g.T.Tables.held c.args.tables.now in
    let told : can_tell (prefixes c.args.options.now) (tables.prefixes held c.args.uri) (named c.args.name).prefix ≡ true = subst (λ (keep : Bool). can_tell keep (tables.prefixes held c.args.uri) (named c.args.name).prefix ≡ true) c.keeps_prefixes-keep.ensures (sym c.if-not-can_tell.ensures) in
    under_is (prefixes c.args.options.now) held (g.T.Tables.held c.write_name_under.new.tables) c.args.uri (named c.args.name) c.in_ok-id.id c.requires.uri (sym c.if-not-can_be_spelled.ensures) (sym c.if-not-can_be_spelled-2.ensures) told c.in_ok-id.ensures.tables c.in_ok-id.ensures.id
