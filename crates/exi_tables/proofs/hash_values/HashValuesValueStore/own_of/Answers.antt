use Rattle.exi_tables.proofs.Looked.{lists_all, no_own_hash}
use Rattle.exi_tables.proofs.hash_values.HashValuesValueStore.own_of.Goals as goal

pub own_among-requires : goal.own_among-requires
own_among-requires c =
    rw c.live.ensures.live
    (record { listed = lists_all c.self.inside.values.live c.self.inside.index.entries c.self.invariant c.args.text.now c.hash_of.result c.in-Some.spots.now c.hash_of.ensures c.in-Some.ensures.value })

pub returns-in-None : goal.returns-in-None
returns-in-None c =
    rw (← c.self.view_is)
    (no_own_hash c.self.inside.values.live c.self.inside.index.entries c.self.invariant c.args.name c.args.text.now c.hash_of.result c.hash_of.ensures c.in-None.ensures.value)
