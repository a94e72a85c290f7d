use Rattle.exi_derived.proofs.Bodies.{refused_derives_not, refused_is_unmatched}
use Rattle.exi_derived.proofs.laws.refused_derives_not.Goals as goal

pub returns : goal.returns
returns c = record { derives = refused_derives_not; unmatched = refused_is_unmatched }
