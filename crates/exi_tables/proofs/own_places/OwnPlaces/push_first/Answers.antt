use Rattle.std.proofs.Common.{◌≡◌, None, length, rules}
use Rattle.exi_tables.specs.Kept.{givens}
use Rattle.exi_tables.specs.Values.{name_place}
use Rattle.exi_tables.proofs.Owns.{first_numbered, first_others, first_there}
use Rattle.exi_tables.proofs.own_places.OwnPlaces.push_first.Goals as goal

none : (c : goal.After-push_reserved) → name_place c.args.name (givens c.self.inside.rows.items) ≡ None
none c = rw (← c.self.view_is) at c.requires

pub invariant_of-self-2 : goal.invariant_of-self-2
invariant_of-self-2 c =
    let len : c.len-number.result ≡ length c.self.inside.rows.items = search rules in
    rw (c.push_reserved.ensures.items, c.in_ok-reserve.ensures.items, c.in_ok-row.ensures)
    (first_numbered c.args.name c.self.inside.rows.items c.args.global (none c) c.self.inside.numbers c.insert.new.self c.self.invariant (λ n. rw len at (c.in_ok-insert.ensures.ok n)))

pub returns-clause-there : goal.returns-clause-there
returns-clause-there c =
    rw (c.push_reserved.ensures.items, c.in_ok-reserve.ensures.items, c.in_ok-row.ensures, ← c.self.view_is)
    (first_there c.args.name c.self.inside.rows.items c.args.global (none c))

pub returns-clause-others : goal.returns-clause-others
returns-clause-others c =
    rw (c.push_reserved.ensures.items, c.in_ok-reserve.ensures.items, c.in_ok-row.ensures, ← c.self.view_is)
    (first_others c.args.name c.self.inside.rows.items c.args.global (none c))
