use Rattle.std.proofs.Common.{sym}
use Rattle.exi_names.specs.Seen.{seen}
use Rattle.exi_choice.proofs.Strings.{string_text}
use Rattle.exi_choice.proofs.fit.text_of.Goals as goal

pub canon-requires : goal.canon-requires
canon-requires c = string_text (seen c.args.value.now) (sym c.if-not-has_string.ensures)
