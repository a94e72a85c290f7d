use Rattle.std.proofs.Common.{◌∙◌, sym}
use Rattle.std.specs.Str.{bytes_eq}
use Rattle.exi_tables.proofs.Changes.{position-map}
use Rattle.exi_tables.proofs.Looked.{lists_all, no_hash}
use Rattle.exi_tables.proofs.hash_values.HashValuesValueStore.of.Goals as goal

pub least_among-requires : goal.least_among-requires
least_among-requires c =
    rw c.live.ensures.live
    (record { listed = lists_all c.self.inside.values.live c.self.inside.index.entries c.self.invariant c.args.text.now c.hash_of.result c.in-Some.spots.now c.hash_of.ensures c.in-Some.ensures.value })

pub returns-in-Some : goal.returns-in-Some
returns-in-Some c =
    rw (c.least_among.ensures, c.live.ensures.live, ← c.self.view_is)
    (sym (position-map (λ t. bytes_eq t c.args.text.now) (λ l. l.text) c.self.inside.values.live))

pub returns-in-None : goal.returns-in-None
returns-in-None c =
    rw (← c.self.view_is)
    (no_hash c.self.inside.values.live c.self.inside.index.entries c.self.invariant c.args.text.now c.hash_of.result c.hash_of.ensures c.in-None.ensures.value
    ∙ sym (position-map (λ t. bytes_eq t c.args.text.now) (λ l. l.text) c.self.inside.values.live))
