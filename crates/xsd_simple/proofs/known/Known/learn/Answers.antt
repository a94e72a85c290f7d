use Rattle.std.proofs.Common.{◌≡◌}
use Rattle.xsd_simple.specs.Kept.{simples, told}
use Rattle.xsd_simple.specs.Simple.{derived_simple}
use Rattle.xsd_simple.proofs.Kept.{entries_more, simples_more}
use Rattle.xsd_simple.proofs.known.Known.learn.Goals as goal

pub returns-clause-kept : goal.returns-clause-kept
returns-clause-kept c =
    entries_more c.args.forms.now c.derived.new.forms c.args.self.now.entries.items c.push.new.self.items c.in_ok-entry.entry c.derived.ensures.more c.requires.known.kept c.in_ok-entry.ensures.kept c.in_ok-push.ensures.items

pub returns-clause-simples : goal.returns-clause-simples
returns-clause-simples c =
    simples_more c.args.forms.now c.derived.new.forms c.args.self.now.entries.items c.push.new.self.items c.in_ok-entry.entry c.derived.ensures.more c.requires.known.kept c.in_ok-entry.ensures.kept c.in_ok-push.ensures.items
    (derived_simple c.args.values.now (told c.args.values.now (simples c.args.forms.now c.args.self.now.entries.items) c.args.self.now.places.items) c.args.derivation)
    c.in_ok-entry.ensures.simple
