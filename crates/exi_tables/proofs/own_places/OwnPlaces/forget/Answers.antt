use Rattle.std.proofs.Common.{◌≡◌, Some, sym, ◌∙◌}
use Rattle.exi_tables.specs.Kept.{givens, without_place}
use Rattle.exi_tables.specs.Values.{name_place}
use Rattle.exi_tables.proofs.Owns.{forget_given, forget_name, forget_others, numbered_then}
use Rattle.exi_tables.proofs.own_places.OwnPlaces.forget.Goals as goal

found : (c : goal.After-self-1) → name_place c.args.name (givens c.self.inside.rows.items) ≡ Some c.in-Some.number
found c = sym (c.self.invariant.number c.args.name) ∙ sym c.get.ensures ∙ sym c.copied.ensures ∙ c.in-Some.is

pub invariant_of-self : goal.invariant_of-self
invariant_of-self c =
    rw c.forget.ensures
    (numbered_then c.args.name c.self.inside.rows.items c.in-Some.number c.index_mut.result.now (found c) c.index_mut.ensures.value (without_place c.args.local c.index_mut.result.now)
    (forget_name c.args.name c.self.inside.rows.items c.in-Some.number c.index_mut.result.now (found c) c.index_mut.ensures.value c.args.local) c.self.inside.numbers c.self.invariant)

pub returns-in-Some-clause-given : goal.returns-in-Some-clause-given
returns-in-Some-clause-given c =
    rw (c.forget.ensures, ← c.self.view_is)
    (forget_given c.args.name c.self.inside.rows.items c.in-Some.number c.index_mut.result.now (found c) c.index_mut.ensures.value c.args.local)

pub returns-in-Some-clause-others : goal.returns-in-Some-clause-others
returns-in-Some-clause-others c =
    rw (c.forget.ensures, ← c.self.view_is)
    (forget_others c.args.name c.self.inside.rows.items c.in-Some.number c.index_mut.result.now (found c) c.index_mut.ensures.value c.args.local)
