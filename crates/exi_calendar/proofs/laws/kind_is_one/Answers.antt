use Rattle.exi_calendar.proofs.OneKind.{canonical_kind, one_kind}
use Rattle.exi_calendar.proofs.laws.kind_is_one.Goals as goal

pub returns : goal.returns
returns c = record { text = one_kind; canonical = canonical_kind }
