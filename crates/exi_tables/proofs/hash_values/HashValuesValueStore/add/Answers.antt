use Rattle.std.proofs.Common.{◌≤◌, length, ◌∙◌}
use Rattle.exi_tables.specs.Values.{given_to}
use Rattle.exi_tables.proofs.Completes.{listed_then}
use Rattle.exi_tables.proofs.hash_values.HashValuesValueStore.add.Goals as goal

pub invariant_of-self-2 : goal.invariant_of-self-2
invariant_of-self-2 c =
    let live = c.self.inside.values.live in
    let within : c.self.inside.values.next ≤ length live = rw c.next-place.ensures.next at c.next-place.ensures.within in
    rw (c.in_ok-push.ensures.added)
    (listed_then live c.self.inside.index.entries c.unlist_other.new.index.entries (record { name = c.args.name; local = given_to c.args.name c.self.inside.values.given; text = c.args.text })
    c.self.inside.values.next c.hash_of-hash.result c.self.invariant within c.hash_of-hash.ensures
    (rw c.next-place.ensures.next at (c.unlist_other.ensures.stays c.in_ok-list_place.ensures.ok))
    (λ other p before apart. c.unlist_other.ensures.kept other p (c.in_ok-list_place.ensures.kept other p before) (λ e. apart (e ∙ c.next-place.ensures.next))))
