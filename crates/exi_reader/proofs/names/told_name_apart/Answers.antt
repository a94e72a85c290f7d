use Rattle.exi_typed.specs.Places.{name_in}
use Rattle.exi_typed.specs.ReadStates.{read_state}
use Rattle.exi_processing.specs.Rules.{spelled, under}
use Rattle.exi_processing.proofs.ToldNames.{few_behind}
use Rattle.exi_reader.proofs.names.told_name_apart.Goals as goal

pub read_known-requires-clause-name : goal.read_known-requires-clause-name
read_known-requires-clause-name g c = c.requires.known.known c.in-Known.id c.in-Known.is

pub returns-in-Spelled-clause-few : goal.returns-in-Spelled-clause-few
returns-in-Spelled-clause-few g c =
    few_behind c.args.book.now spelled (read_state c.args.input.now c.args.meter.now (g.T.Tables.held c.args.tables.now)) (read_state c.read_name.new.input c.read_name.new.meter (g.T.Tables.held c.read_name.new.tables)) c.read_name.new.meter (λ n. name_in (g.T.Tables.held c.read_name.new.tables) n) c.read_name.result
    (rw (c.keeps_prefixes-keep.ensures, c.align-align.ensures, c.options-options.ensures.options) at c.read_name.ensures.read) c.requires.few

pub returns-in-Under-clause-few : goal.returns-in-Under-clause-few
returns-in-Under-clause-few g c =
    few_behind c.args.book.now (under c.in-Under.uri) (read_state c.args.input.now c.args.meter.now (g.T.Tables.held c.args.tables.now)) (read_state c.name_under.new.input c.name_under.new.meter (g.T.Tables.held c.name_under.new.tables)) c.name_under.new.meter (λ n. name_in (g.T.Tables.held c.name_under.new.tables) n) c.name_under.result c.name_under.ensures.read c.requires.few
