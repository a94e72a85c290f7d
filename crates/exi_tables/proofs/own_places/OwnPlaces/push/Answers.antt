use Rattle.std.proofs.Common.{◌≡◌, Some, None, refl, sym, ◌∙◌}
use Rattle.exi_tables.specs.Kept.{givens, with_place}
use Rattle.exi_tables.specs.Values.{name_place}
use Rattle.exi_tables.proofs.Owns.{given_here, numbered_then, push_given, push_others, push_there}
use Rattle.exi_tables.proofs.own_places.OwnPlaces.push.Goals as goal

found : (c : goal.In_ok-push) → name_place c.args.name (givens c.self.inside.rows.items) ≡ Some c.in-Some.number
found c = sym (c.self.invariant.number c.args.name) ∙ sym c.get.ensures ∙ sym c.copied.ensures ∙ c.in-Some.is

pub invariant_of-self-in-Some : goal.invariant_of-self-in-Some
invariant_of-self-in-Some c =
    rw c.in_ok-push.ensures.ok
    (numbered_then c.args.name c.self.inside.rows.items c.in-Some.number c.index_mut.result.now (found c) c.index_mut.ensures.value (with_place c.args.global c.index_mut.result.now)
    refl c.self.inside.numbers c.self.invariant)

pub returns-in-Some-clause-local : goal.returns-in-Some-clause-local
returns-in-Some-clause-local c =
    rw (← c.self.view_is)
    (c.count-local.ensures ∙ sym (given_here c.args.name c.self.inside.rows.items c.in-Some.number c.index.result.now (found c) c.index.ensures))

pub returns-in-Some-clause-given : goal.returns-in-Some-clause-given
returns-in-Some-clause-given c =
    rw (c.in_ok-push.ensures.ok, ← c.self.view_is)
    (push_given c.args.name c.self.inside.rows.items c.in-Some.number c.index_mut.result.now (found c) c.index_mut.ensures.value c.args.global)

pub returns-in-Some-clause-there : goal.returns-in-Some-clause-there
returns-in-Some-clause-there c =
    rw (c.in_ok-push.ensures.ok, ← c.self.view_is)
    (push_there c.args.name c.self.inside.rows.items c.in-Some.number c.index_mut.result.now (found c) c.index_mut.ensures.value c.args.global)

pub returns-in-Some-clause-others : goal.returns-in-Some-clause-others
returns-in-Some-clause-others c =
    rw (c.in_ok-push.ensures.ok, ← c.self.view_is)
    (push_others c.args.name c.self.inside.rows.items c.in-Some.number c.index_mut.result.now (found c) c.index_mut.ensures.value c.args.global)

pub push_first-requires : goal.push_first-requires
push_first-requires c = rw (← c.self.view_is) (sym (c.self.invariant.number c.args.name) ∙ sym c.get.ensures ∙ sym c.copied.ensures ∙ c.in_default.is)
