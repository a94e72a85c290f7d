use Rattle.exi_names.specs.Equality.{equal}
use Rattle.exi_names.specs.Seen.{seen, Value}
use Rattle.exi_names.proofs.Enumerated.{place_mapped}
use Rattle.exi_names.proofs.val.ValList.place_of.Goals as goal

pub returns : goal.returns
returns c = rw (c.least_place.ensures, c.as_slice.ensures.value) (place_mapped (λ (w : Value). equal (seen c.args.value.now) w) seen c.args.self.now.items.items)
