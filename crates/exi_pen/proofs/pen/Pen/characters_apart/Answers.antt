use Rattle.std.proofs.lemmas.Result.{err_from_is_err_and}
use Rattle.exi_names.specs.Events as event
use Rattle.exi_names.specs.Seen.{seen}
use Rattle.exi_pen.specs.Pages.{characters_wanted}
use Rattle.exi_pen.specs.Values.{value_by}
use Rattle.exi_pen.proofs.EventNames.{datatype_of, few_begun, grow_begun, inside_begun}
use Rattle.exi_pen.proofs.EventValues.{characters_are_wanted, characters_ends, characters_known, characters_roomy, characters_spelled, characters_stop, grow_last, pruned_in}
use Rattle.exi_pen.proofs.Putting.{few_start}
use Rattle.exi_pen.proofs.Wrote.{begin_stop}
use Rattle.exi_pen.proofs.pen.Pen.characters_apart.Goals as goal

pub put_by-requires-clause-name : goal.put_by-requires-clause-name
put_by-requires-clause-name g c = inside_begun (seen c.args.value.now) c.args.self.now c.begin_characters.new.self c.toll-toll.result c.begin_characters.new.toll c.in_ok-begun.begun.rule c.inside-name.result c.requires.ready c.in_ok-begun.ensures.begins.0 c.inside-name.ensures

pub put_by-requires-clause-few : goal.put_by-requires-clause-few
put_by-requires-clause-few g c = few_start c.begin_characters.new.self.config.tables (few_begun (characters_wanted (seen c.args.value.now)) c.args.self.now c.begin_characters.new.self c.toll-toll.result c.begin_characters.new.toll c.in_ok-begun.begun.rule c.requires.ready c.in_ok-begun.ensures.begins.0)

pub put_by-requires-clause-roomy : goal.put_by-requires-clause-roomy
put_by-requires-clause-roomy g c =
    let k = characters_known (seen c.args.value.now) (seen c.fitted-fit.result.now) c.args.self.now c.begin_characters.new.self c.toll-toll.result c.begin_characters.new.toll c.in_ok-begun.begun.rule c.in_ok-begun.begun.value c.inside-name.result c.requires.ready c.toll-toll.ensures c.in_ok-begun.ensures.begins.0 c.in_ok-begun.ensures.begins.1 c.fitted-fit.ensures c.inside-name.ensures in
    characters_roomy (seen c.args.value.now) (seen c.fitted-fit.result.now) c.args.self.now c.begin_characters.new.self c.toll-toll.result c.begin_characters.new.toll c.in_ok-begun.begun.rule c.inside-name.result k

pub put_by-requires-clause-fits : goal.put_by-requires-clause-fits
put_by-requires-clause-fits g c =
    let k = characters_known (seen c.args.value.now) (seen c.fitted-fit.result.now) c.args.self.now c.begin_characters.new.self c.toll-toll.result c.begin_characters.new.toll c.in_ok-begun.begun.rule c.in_ok-begun.begun.value c.inside-name.result c.requires.ready c.toll-toll.ensures c.in_ok-begun.ensures.begins.0 c.in_ok-begun.ensures.begins.1 c.fitted-fit.ensures c.inside-name.ensures in
    characters_spelled (seen c.args.value.now) (seen c.fitted-fit.result.now) c.args.self.now c.begin_characters.new.self c.toll-toll.result c.begin_characters.new.toll c.in_ok-begun.begun.rule c.inside-name.result k

pub learn_on-requires : goal.learn_on-requires
learn_on-requires g c = record {
  room = grow_last c.in_ok-put_by.field-0 (value_by c.begin_characters.new.self.setting (datatype_of c.in_ok-begun.begun.rule) c.inside-name.result (seen c.fitted-fit.result.now) c.begin_characters.new.self.config.tables) c.begin_characters.new.self c.put_by.new.self c.begin_characters.new.toll c.put_by.new.toll
      (grow_begun (characters_wanted (seen c.args.value.now)) c.args.self.now c.begin_characters.new.self c.toll-toll.result c.begin_characters.new.toll c.in_ok-begun.begun.rule c.requires.ready c.in_ok-begun.ensures.begins.0) c.in_ok-put_by.ensures.put;
}

pub returns-in_err-begun : goal.returns-in_err-begun
returns-in_err-begun g c =
    let p = err_from_is_err_and c.from_residual.result c.from_residual.ensures.1 in
    record {
      writes = rw (p.1, p.2) (begin_stop c.in_err-begun.field-0.0 (characters_wanted (seen c.args.value.now)) c.args.self.now c.begin_characters.new.self (event.ch (pruned_in c.args.self.now (seen c.args.value.now))) c.in_err-begun.ensures.begins (characters_are_wanted c.args.self.now (seen c.args.value.now)) c.in_err-begun.ensures.meter);
    }

pub returns-in_err-put_by : goal.returns-in_err-put_by
returns-in_err-put_by g c =
    let p = err_from_is_err_and c.from_residual-in_err-put_by.result c.from_residual-in_err-put_by.ensures.1 in
    let k = characters_known (seen c.args.value.now) (seen c.fitted-fit.result.now) c.args.self.now c.begin_characters.new.self c.toll-toll.result c.begin_characters.new.toll c.in_ok-begun.begun.rule c.in_ok-begun.begun.value c.inside-name.result c.requires.ready c.toll-toll.ensures c.in_ok-begun.ensures.begins.0 c.in_ok-begun.ensures.begins.1 c.fitted-fit.ensures c.inside-name.ensures in
    record {
      writes = rw (p.1, p.2) (characters_stop (seen c.args.value.now) (seen c.fitted-fit.result.now) c.args.self.now c.begin_characters.new.self c.toll-toll.result c.begin_characters.new.toll c.in_ok-begun.begun.rule c.inside-name.result k c.in_err-put_by.field-0.0 c.put_by.new.self c.put_by.new.toll c.in_err-put_by.ensures.put);
    }

pub returns : goal.returns
returns g c =
    let k = characters_known (seen c.args.value.now) (seen c.fitted-fit.result.now) c.args.self.now c.begin_characters.new.self c.toll-toll.result c.begin_characters.new.toll c.in_ok-begun.begun.rule c.in_ok-begun.begun.value c.inside-name.result c.requires.ready c.toll-toll.ensures c.in_ok-begun.ensures.begins.0 c.in_ok-begun.ensures.begins.1 c.fitted-fit.ensures c.inside-name.ensures in
    record {
      writes = characters_ends (seen c.args.value.now) (seen c.fitted-fit.result.now) c.args.self.now c.begin_characters.new.self c.toll-toll.result c.begin_characters.new.toll c.in_ok-begun.begun.rule c.inside-name.result k c.learn_on.result c.put_by.new.self c.learn_on.new.self c.put_by.new.toll c.in_ok-put_by.ensures.put c.learn_on.ensures;
    }
