use Rattle.std.proofs.Common.{sym, ap, ◌∙◌}
use Rattle.exi_names.specs.StartTables.{Names}
use Rattle.exi_gram.specs.Naming.{entry_of}
use Rattle.exi_gram.specs.Terminals.{se}
use Rattle.exi_gram.specs.Wholes.{plain}
use Rattle.exi_codes.proofs.PlacedNames.{name_none, name_some}
use Rattle.exi_codes.proofs.places.Places.name.Goals as goal

pub returns-in-None : goal.returns-in-None
returns-in-None c =
    name_none c.self.inside.tables c.args.name.now c.in-Some.uri (sym c.uri_of.ensures ∙ c.in-Some.is) (sym c.local_of.ensures ∙ c.in-None.is)
    ∙ ap (λ (n : Names). (entry_of n (plain (se c.args.name.now) 0)).named) c.self.view_is

pub returns-in-Some-local_of : goal.returns-in-Some-local_of
returns-in-Some-local_of c =
    name_some c.self.inside.tables c.args.name.now c.in-Some.uri c.in-Some-local_of.local (sym c.uri_of.ensures ∙ c.in-Some.is) (sym c.local_of.ensures ∙ c.in-Some-local_of.is)
    ∙ ap (λ (n : Names). (entry_of n (plain (se c.args.name.now) 0)).named) c.self.view_is
