use Rattle.std.proofs.Common.{◌≡◌, Some, sym, ◌∙◌}
use Rattle.exi_tables.specs.Values.{name_place}
use Rattle.exi_tables.proofs.Counts.{counted_there}
use Rattle.exi_tables.proofs.list_values.count_one.Goals as goal

pub returns-in-Some-clause-ok : goal.returns-in-Some-clause-ok
returns-in-Some-clause-ok c =
    let found : name_place c.args.name c.args.given.now.items ≡ Some c.in-Some.place = rw (← c.deref.ensures.value) (sym c.place_of.ensures ∙ c.in-Some.is) in
    counted_there c.args.name c.args.given.now.items c.in-Some.place c.index_mut.result.now found c.index_mut.ensures.value
