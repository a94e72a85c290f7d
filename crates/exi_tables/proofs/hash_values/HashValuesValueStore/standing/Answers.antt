use Rattle.std.proofs.Common.{◌∙◌, sym}
use Rattle.std.specs.Str.{bytes_eq}
use Rattle.exi_tables.proofs.Changes.{position-map}
use Rattle.exi_tables.proofs.Looked.{lists_all, no_hash, no_own_hash}
use Rattle.exi_tables.proofs.hash_values.HashValuesValueStore.standing.Goals as goal

pub standing_among-requires : goal.standing_among-requires
standing_among-requires c =
    rw c.live.ensures.live
    (record { listed = lists_all c.self.inside.values.live c.self.inside.index.entries c.self.invariant c.args.text.now c.hash_of.result c.in-Some.spots.now c.hash_of.ensures c.in-Some.ensures.value })

pub returns-in-Some : goal.returns-in-Some
returns-in-Some c =
    rw (← c.self.view_is, position-map (λ t. bytes_eq t c.args.text.now) (λ l. l.text) c.self.inside.values.live)
    (rw c.live.ensures.live at c.standing_among.ensures)

pub returns-in-None : goal.returns-in-None
returns-in-None c =
    rw (← c.self.view_is) (
      sym (no_own_hash c.self.inside.values.live c.self.inside.index.entries c.self.invariant c.args.name c.args.text.now c.hash_of.result c.hash_of.ensures c.in-None.ensures.value),
      position-map (λ t. bytes_eq t c.args.text.now) (λ l. l.text) c.self.inside.values.live
          ∙ sym (no_hash c.self.inside.values.live c.self.inside.index.entries c.self.invariant c.args.text.now c.hash_of.result c.hash_of.ensures c.in-None.ensures.value),
    )
