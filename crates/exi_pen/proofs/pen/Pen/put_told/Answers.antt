use Rattle.std.proofs.Common.{◌≡◌, true, subst}
use Rattle.exi_names.specs.Shown.{named}
use Rattle.exi_processing.specs.Handing.{telling_of}
use Rattle.exi_processing.specs.declared.rule.Telling.{Telling}
use Rattle.exi_choice.specs.Wanted.{is_told, told_of}
use Rattle.exi_pen.proofs.Putting.{few_after, few_same, few_start, few_under, known_named, told_as_known, told_as_under, told_name}
use Rattle.exi_pen.proofs.pen.Pen.put_told.Goals as goal

pub returns-in-Spelled-clause-few : goal.returns-in-Spelled-clause-few
returns-in-Spelled-clause-few g c = few_after c.put_name.result c.args.self.now.config.tables c.put_name.new.self.config.tables (named c.args.name) c.requires.few c.put_name.ensures.tables

pub put_known-requires : goal.put_known-requires
put_known-requires g c = record { told = told_as_known c.args.self.now.config.tables (named c.args.name) c.in-Known.id (subst (λ (t : Telling). is_told (told_of c.args.self.now.config.tables (named c.args.name)) (telling_of t) ≡ true) c.in-Known.is c.requires.told) }

pub returns-in-Known-clause-name : goal.returns-in-Known-clause-name
returns-in-Known-clause-name g c =
    let told = told_as_known c.args.self.now.config.tables (named c.args.name) c.in-Known.id (subst (λ (t : Telling). is_told (told_of c.args.self.now.config.tables (named c.args.name)) (telling_of t) ≡ true) c.in-Known.is c.requires.told) in
    known_named c.put_known.result c.in-Known.id c.args.self.now.config.tables c.put_known.new.self.config.tables c.put_known.ensures.same c.put_known.ensures.tables (told_name c.args.self.now.config.tables (named c.args.name) c.in-Known.id told)

pub returns-in-Known-clause-few : goal.returns-in-Known-clause-few
returns-in-Known-clause-few g c = few_same c.put_known.result c.args.self.now.config.tables c.put_known.new.self.config.tables c.requires.few c.put_known.ensures.tables

pub put_under-requires-clause-few : goal.put_under-requires-clause-few
put_under-requires-clause-few g c = few_start c.args.self.now.config.tables c.requires.few

pub put_under-requires-clause-told : goal.put_under-requires-clause-told
put_under-requires-clause-told g c = told_as_under c.args.self.now.config.tables (named c.args.name) c.in-Under.uri (subst (λ (t : Telling). is_told (told_of c.args.self.now.config.tables (named c.args.name)) (telling_of t) ≡ true) c.in-Under.is c.requires.told)

pub returns-in-Under-clause-few : goal.returns-in-Under-clause-few
returns-in-Under-clause-few g c = few_under c.put_under.result c.args.self.now.config.tables c.put_under.new.self.config.tables c.in-Under.uri (named c.args.name).local c.requires.few c.put_under.ensures.tables
