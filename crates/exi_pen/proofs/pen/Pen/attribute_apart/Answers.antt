use Rattle.std.proofs.lemmas.Result.{err_from_is_err_and}
use Rattle.exi_names.specs.Events as event
use Rattle.exi_names.specs.Seen.{seen}
use Rattle.exi_names.specs.Shown.{named}
use Rattle.exi_processing.specs.Handing.{telling_of}
use Rattle.exi_writing.specs.Contents.{told_name}
use Rattle.exi_choice.specs.Fitting.{declaring}
use Rattle.exi_pen.specs.Pages.{attribute_wanted}
use Rattle.exi_pen.specs.Values.{declared_value}
use Rattle.exi_pen.proofs.EventNames.{few_begun, grow_begun, grow_put}
use Rattle.exi_pen.proofs.EventValues.{attribute_declared, attribute_ends, attribute_fits, attribute_forms, attribute_is_wanted, attribute_roomy, attribute_stop, attribute_stops, attribute_told, elements_last, grow_last, has_name, pruned_in, setting_last}
use Rattle.exi_pen.proofs.Wrote.{begin_stop}
use Rattle.exi_pen.proofs.pen.Pen.attribute_apart.Goals as goal

pub put_told-requires-clause-few : goal.put_told-requires-clause-few
put_told-requires-clause-few g c = few_begun (attribute_wanted c.args.told (named c.args.name) (seen c.args.value.now)) c.args.self.now c.begin_attribute.new.self c.toll-toll.result c.begin_attribute.new.toll c.in_ok-begun.begun.rule c.requires.ready c.in_ok-begun.ensures.begins.0

pub put_told-requires-clause-told : goal.put_told-requires-clause-told
put_told-requires-clause-told g c = attribute_told c.args.told c.telling-tells.result (named c.args.name) (seen c.args.value.now) c.args.self.now c.begin_attribute.new.self c.toll-toll.result c.begin_attribute.new.toll c.in_ok-begun.begun.rule c.in_ok-begun.ensures.begins.0 c.requires.told c.telling-tells.ensures

pub put_declared-requires-clause-roomy : goal.put_declared-requires-clause-roomy
put_declared-requires-clause-roomy g c =
    let k = has_name c.args.told c.telling-tells.result (named c.args.name) (seen c.args.value.now) (seen c.fitted-fit.result.now) c.args.self.now c.begin_attribute.new.self c.put_told.new.self c.toll-toll.result c.begin_attribute.new.toll c.put_told.new.toll c.in_ok-begun.begun.rule c.in_ok-begun.begun.value c.in_ok-id.id (declaring c.declared-declared.result) c.requires.ready c.toll-toll.ensures c.in_ok-begun.ensures.begins.0 c.in_ok-begun.ensures.begins.1 c.requires.told c.telling-tells.ensures c.fitted-fit.ensures c.in_ok-id.ensures.put c.in_ok-id.ensures.id c.declared-declared.ensures in
    attribute_roomy c.args.told c.telling-tells.result (named c.args.name) (seen c.args.value.now) (seen c.fitted-fit.result.now) c.args.self.now c.begin_attribute.new.self c.put_told.new.self c.toll-toll.result c.begin_attribute.new.toll c.put_told.new.toll c.in_ok-begun.begun.rule c.in_ok-id.id (declaring c.declared-declared.result) k

pub put_declared-requires-clause-fits : goal.put_declared-requires-clause-fits
put_declared-requires-clause-fits g c =
    let k = has_name c.args.told c.telling-tells.result (named c.args.name) (seen c.args.value.now) (seen c.fitted-fit.result.now) c.args.self.now c.begin_attribute.new.self c.put_told.new.self c.toll-toll.result c.begin_attribute.new.toll c.put_told.new.toll c.in_ok-begun.begun.rule c.in_ok-begun.begun.value c.in_ok-id.id (declaring c.declared-declared.result) c.requires.ready c.toll-toll.ensures c.in_ok-begun.ensures.begins.0 c.in_ok-begun.ensures.begins.1 c.requires.told c.telling-tells.ensures c.fitted-fit.ensures c.in_ok-id.ensures.put c.in_ok-id.ensures.id c.declared-declared.ensures in
    attribute_fits c.args.told c.telling-tells.result (named c.args.name) (seen c.args.value.now) (seen c.fitted-fit.result.now) c.args.self.now c.begin_attribute.new.self c.put_told.new.self c.toll-toll.result c.begin_attribute.new.toll c.put_told.new.toll c.in_ok-begun.begun.rule c.in_ok-id.id (declaring c.declared-declared.result) k

pub attribute_on-requires-clause-room : goal.attribute_on-requires-clause-room
attribute_on-requires-clause-room g c =
    grow_last c.in_ok-put_declared.field-0 (declared_value c.put_told.new.self.setting (declaring c.declared-declared.result) c.in_ok-id.id (seen c.fitted-fit.result.now) c.put_told.new.self.config.tables) c.put_told.new.self c.put_declared.new.self c.put_told.new.toll c.put_declared.new.toll
    (grow_put c.in_ok-id.id (told_name c.begin_attribute.new.self.setting (telling_of c.telling-tells.result) (named c.args.name) c.begin_attribute.new.self.config.tables) c.begin_attribute.new.self c.put_told.new.self c.begin_attribute.new.toll c.put_told.new.toll
    (grow_begun (attribute_wanted c.args.told (named c.args.name) (seen c.args.value.now)) c.args.self.now c.begin_attribute.new.self c.toll-toll.result c.begin_attribute.new.toll c.in_ok-begun.begun.rule c.requires.ready c.in_ok-begun.ensures.begins.0) c.in_ok-id.ensures.put) c.in_ok-put_declared.ensures.put

pub attribute_on-requires-clause-forms : goal.attribute_on-requires-clause-forms
attribute_on-requires-clause-forms g c =
    let k = has_name c.args.told c.telling-tells.result (named c.args.name) (seen c.args.value.now) (seen c.fitted-fit.result.now) c.args.self.now c.begin_attribute.new.self c.put_told.new.self c.toll-toll.result c.begin_attribute.new.toll c.put_told.new.toll c.in_ok-begun.begun.rule c.in_ok-begun.begun.value c.in_ok-id.id (declaring c.declared-declared.result) c.requires.ready c.toll-toll.ensures c.in_ok-begun.ensures.begins.0 c.in_ok-begun.ensures.begins.1 c.requires.told c.telling-tells.ensures c.fitted-fit.ensures c.in_ok-id.ensures.put c.in_ok-id.ensures.id c.declared-declared.ensures in
    attribute_forms c.args.told c.telling-tells.result (named c.args.name) (seen c.args.value.now) (seen c.fitted-fit.result.now) c.args.self.now c.begin_attribute.new.self c.put_told.new.self c.toll-toll.result c.begin_attribute.new.toll c.put_told.new.toll c.in_ok-begun.begun.rule c.in_ok-id.id (declaring c.declared-declared.result) k c.put_declared.new.self
    (elements_last c.in_ok-put_declared.field-0 (declared_value c.put_told.new.self.setting (declaring c.declared-declared.result) c.in_ok-id.id (seen c.fitted-fit.result.now) c.put_told.new.self.config.tables) c.put_told.new.self c.put_declared.new.self c.put_told.new.toll c.put_declared.new.toll c.in_ok-put_declared.ensures.put)

pub attribute_on-requires-clause-declared : goal.attribute_on-requires-clause-declared
attribute_on-requires-clause-declared g c =
    let k = has_name c.args.told c.telling-tells.result (named c.args.name) (seen c.args.value.now) (seen c.fitted-fit.result.now) c.args.self.now c.begin_attribute.new.self c.put_told.new.self c.toll-toll.result c.begin_attribute.new.toll c.put_told.new.toll c.in_ok-begun.begun.rule c.in_ok-begun.begun.value c.in_ok-id.id (declaring c.declared-declared.result) c.requires.ready c.toll-toll.ensures c.in_ok-begun.ensures.begins.0 c.in_ok-begun.ensures.begins.1 c.requires.told c.telling-tells.ensures c.fitted-fit.ensures c.in_ok-id.ensures.put c.in_ok-id.ensures.id c.declared-declared.ensures in
    attribute_declared c.args.told c.telling-tells.result (named c.args.name) (seen c.args.value.now) (seen c.fitted-fit.result.now) c.args.self.now c.begin_attribute.new.self c.put_told.new.self c.toll-toll.result c.begin_attribute.new.toll c.put_told.new.toll c.in_ok-begun.begun.rule c.in_ok-id.id (declaring c.declared-declared.result) k c.put_declared.new.self
    (setting_last c.in_ok-put_declared.field-0 (declared_value c.put_told.new.self.setting (declaring c.declared-declared.result) c.in_ok-id.id (seen c.fitted-fit.result.now) c.put_told.new.self.config.tables) c.put_told.new.self c.put_declared.new.self c.put_told.new.toll c.put_declared.new.toll c.in_ok-put_declared.ensures.put)

pub returns-in_err-begun : goal.returns-in_err-begun
returns-in_err-begun g c =
    let p = err_from_is_err_and c.from_residual.result c.from_residual.ensures.1 in
    let v = pruned_in c.args.self.now (seen c.args.value.now) in
    record {
      writes = rw (p.1, p.2) ((begin_stop c.in_err-begun.field-0.0 (attribute_wanted c.args.told (named c.args.name) (seen c.args.value.now)) c.args.self.now c.begin_attribute.new.self (event.at (named c.args.name) v) c.in_err-begun.ensures.begins (attribute_is_wanted c.args.self.now c.args.told (named c.args.name) (seen c.args.value.now) c.requires.told) c.in_err-begun.ensures.meter));
    }

pub returns-in_err-id : goal.returns-in_err-id
returns-in_err-id g c =
    let p = err_from_is_err_and c.from_residual-in_err-id.result c.from_residual-in_err-id.ensures.1 in
    let v = pruned_in c.args.self.now (seen c.args.value.now) in
    record {
      writes = rw (p.1, p.2) ((attribute_stop c.in_err-id.field-0.0 c.args.told c.telling-tells.result (named c.args.name) (seen c.args.value.now) c.args.self.now c.begin_attribute.new.self c.put_told.new.self c.toll-toll.result c.begin_attribute.new.toll c.put_told.new.toll c.in_ok-begun.begun.rule c.requires.ready c.toll-toll.ensures c.in_ok-begun.ensures.begins.0 c.requires.told c.telling-tells.ensures c.in_err-id.ensures.put));
    }

pub returns-in_err-put_declared : goal.returns-in_err-put_declared
returns-in_err-put_declared g c =
    let p = err_from_is_err_and c.from_residual-in_err-put_declared.result c.from_residual-in_err-put_declared.ensures.1 in
    let v = pruned_in c.args.self.now (seen c.args.value.now) in
    let k = has_name c.args.told c.telling-tells.result (named c.args.name) (seen c.args.value.now) (seen c.fitted-fit.result.now) c.args.self.now c.begin_attribute.new.self c.put_told.new.self c.toll-toll.result c.begin_attribute.new.toll c.put_told.new.toll c.in_ok-begun.begun.rule c.in_ok-begun.begun.value c.in_ok-id.id (declaring c.declared-declared.result) c.requires.ready c.toll-toll.ensures c.in_ok-begun.ensures.begins.0 c.in_ok-begun.ensures.begins.1 c.requires.told c.telling-tells.ensures c.fitted-fit.ensures c.in_ok-id.ensures.put c.in_ok-id.ensures.id c.declared-declared.ensures in
    record {
      writes = rw (p.1, p.2) ((attribute_stops c.args.told c.telling-tells.result (named c.args.name) (seen c.args.value.now) (seen c.fitted-fit.result.now) c.args.self.now c.begin_attribute.new.self c.put_told.new.self c.toll-toll.result c.begin_attribute.new.toll c.put_told.new.toll c.in_ok-begun.begun.rule c.in_ok-id.id (declaring c.declared-declared.result) k c.in_err-put_declared.field-0.0 c.put_declared.new.self c.put_declared.new.toll c.in_err-put_declared.ensures.put));
    }

pub returns : goal.returns
returns g c =
    let v = pruned_in c.args.self.now (seen c.args.value.now) in
    let k = has_name c.args.told c.telling-tells.result (named c.args.name) (seen c.args.value.now) (seen c.fitted-fit.result.now) c.args.self.now c.begin_attribute.new.self c.put_told.new.self c.toll-toll.result c.begin_attribute.new.toll c.put_told.new.toll c.in_ok-begun.begun.rule c.in_ok-begun.begun.value c.in_ok-id.id (declaring c.declared-declared.result) c.requires.ready c.toll-toll.ensures c.in_ok-begun.ensures.begins.0 c.in_ok-begun.ensures.begins.1 c.requires.told c.telling-tells.ensures c.fitted-fit.ensures c.in_ok-id.ensures.put c.in_ok-id.ensures.id c.declared-declared.ensures in
    record {
      writes = (attribute_ends c.args.told c.telling-tells.result (named c.args.name) (seen c.args.value.now) (seen c.fitted-fit.result.now) c.args.self.now c.begin_attribute.new.self c.put_told.new.self c.toll-toll.result c.begin_attribute.new.toll c.put_told.new.toll c.in_ok-begun.begun.rule c.in_ok-id.id (declaring c.declared-declared.result) k c.attribute_on.result c.put_declared.new.self c.attribute_on.new.self c.put_declared.new.toll c.in_ok-put_declared.ensures.put c.attribute_on.ensures);
    }
