use Rattle.std.proofs.Common.{◌∙◌, sym, ap, ℕ}
use Rattle.exi_names.specs.declared.names.NameId.{NameId}
use Rattle.std.specs.Option.{option_copied}
use Rattle.exi_typed.specs.Written.{under_bits}
use Rattle.exi_typed.proofs.Writes.{always, held_all, new_local}
use Rattle.exi_typed.proofs.write_names.write_name_under.Goals as goal

abbrev places : ℕ → ℕ → NameId
places uri local = record { uri = uri; local = local }

pub returns-in_ok-place-in-None-clause-id : goal.returns-in_ok-place-in-None-clause-id
returns-in_ok-place-in-None-clause-id g c =
    ap (places c.args.uri) (new_local (g.T.Tables.held c.args.tables.now) (g.T.Tables.held c.add_local.new.self) c.args.uri c.in_ok-place-in-None.place c.args.local.now c.requires.uri (sym c.in-None.is ∙ c.local_place-found.ensures.place) c.in_ok-place-in-None.ensures.place (rw c.in_ok-copy-in-None.ensures at c.in_ok-place-in-None.ensures.added)).0

pub returns-in_ok-place-in-None-clause-name : goal.returns-in_ok-place-in-None-clause-name
returns-in_ok-place-in-None-clause-name g c =
    (new_local (g.T.Tables.held c.args.tables.now) (g.T.Tables.held c.add_local.new.self) c.args.uri c.in_ok-place-in-None.place c.args.local.now c.requires.uri (sym c.in-None.is ∙ c.local_place-found.ensures.place) c.in_ok-place-in-None.ensures.place (rw c.in_ok-copy-in-None.ensures at c.in_ok-place-in-None.ensures.added)).1

pub returns-in_err-copy-in-None-clause-err : goal.returns-in_err-copy-in-None-clause-err
returns-in_err-copy-in-None-clause-err g c =
    always c.from_residual-in_err-copy-in-None.result (held_all c.args.out.now (under_bits c.args.keep c.args.align (g.T.Tables.held c.args.tables.now) c.args.uri c.args.local.now (option_copied c.args.prefix)) c.put_under.new.out c.in_ok-put_under.ensures.ok)

pub returns-in_err-place-in-None-clause-err : goal.returns-in_err-place-in-None-clause-err
returns-in_err-place-in-None-clause-err g c =
    always c.from_residual-in_err-place-in-None.result (held_all c.args.out.now (under_bits c.args.keep c.args.align (g.T.Tables.held c.args.tables.now) c.args.uri c.args.local.now (option_copied c.args.prefix)) c.put_under.new.out c.in_ok-put_under.ensures.ok)
