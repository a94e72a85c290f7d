use Rattle.exi_tables.proofs.Pairs.{item_puts}
use Rattle.exi_tables.proofs.list_texts.ListTextsTexts.push.Goals as goal

pub returns-clause-known : goal.returns-clause-known
returns-clause-known c =
    rw (c.in_ok-push.ensures.items, ← c.self.view_is)
    (item_puts c.self.inside.items.items (record { text = c.args.text; number = c.unwrap_or-number.result }) c.args.number (rw (c.of.ensures, ← c.self.view_is) at c.unwrap_or-number.ensures))
