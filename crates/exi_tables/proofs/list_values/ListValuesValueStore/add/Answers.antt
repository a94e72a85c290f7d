use Rattle.std.proofs.Common.{◌≡◌, ◌<◌, ◌-◌, ◌^◌, length, true, refl, sym, ◌∙◌}
use Rattle.std.proofs.lemmas.List.{length-map}
use Rattle.exi_tables.specs.Values.{is_added}
use Rattle.exi_tables.proofs.Counts.{round_put}
use Rattle.exi_tables.proofs.list_values.ListValuesValueStore.add.Goals as goal

pub invariant_of-self-2 : goal.invariant_of-self-2
invariant_of-self-2 c =
    let live = c.self.inside.live.items in
    let added : is_added c.self.inside.bounds c.args.text ≡ true = sym c.adds.ensures ∙ c.if-not-adds.false in
    let room : length live < 2 ^ 32 - 1 = rw (← c.self.view_is, length-map) at c.requires.room in
    rw (c.put.ensures, c.in_ok-reserve.ensures.items, c.after-self-inside.ensures)
    (round_put c.self.inside.bounds live c.self.inside.next (record { name = c.args.name; local = c.given-local.result; text = c.args.text }) c.args.text added c.self.invariant room)

pub returns-clause-added : goal.returns-clause-added
returns-clause-added c =
    let added : is_added c.self.inside.bounds c.args.text ≡ true = sym c.adds.ensures ∙ c.if-not-adds.false in
    rw (← c.self.view_is, added, c.put.ensures, c.in_ok-reserve.ensures.items, c.given-local.ensures, c.in_ok-count_one.ensures.ok, c.after-self-inside.ensures, ← c.self.view_is) refl
