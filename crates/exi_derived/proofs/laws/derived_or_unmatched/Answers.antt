use Rattle.exi_derived.proofs.Bodies.{derived_or_unmatched, never_both, one_unmatched}
use Rattle.exi_derived.proofs.laws.derived_or_unmatched.Goals as goal

pub returns : goal.returns
returns c = record { either = derived_or_unmatched; never_both = never_both; one = one_unmatched }
