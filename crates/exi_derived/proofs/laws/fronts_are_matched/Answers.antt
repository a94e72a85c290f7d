use Rattle.exi_derived.proofs.Fronts.{front_is_matched, refused_whatever_follows}
use Rattle.exi_derived.proofs.laws.fronts_are_matched.Goals as goal

pub returns : goal.returns
returns c = record { matched = front_is_matched; follows = refused_whatever_follows }
