use Rattle.std.proofs.Common.{sym}
use Rattle.std.specs.Str.{bytes_eq}
use Rattle.exi_tables.proofs.Changes.{position-map}
use Rattle.exi_tables.proofs.place_values.PlaceValuesValueStore.of.Goals as goal

pub returns : goal.returns
returns c =
    rw (c.narrowed.ensures, c.least_value.ensures, c.deref.ensures.value, ← c.self.view_is)
    (sym (position-map (λ t. bytes_eq t c.args.text.now) (λ l. l.text) c.self.inside.live.items))
