use Rattle.exi_choice.specs.Choices.{wanting}
use Rattle.exi_choice.proofs.BuiltFits.{found_if}
use Rattle.exi_choice.proofs.found.find_built_in.Goals as goal

pub returns : goal.returns
returns c = found_if c.args.book.now c.args.overlay.now c.args.room (wanting c.args.wanted) c.choose_built_in-choice.result c.find.result c.choose_built_in-choice.ensures c.find.ensures
