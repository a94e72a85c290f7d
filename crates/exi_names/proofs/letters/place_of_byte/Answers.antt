use Rattle.std.proofs.Common.{◌∙◌, sym, ap}
use Rattle.exi_names.specs.Alphabets.{place_of}
use Rattle.exi_names.proofs.Places.{searched_is, no_byte}
use Rattle.exi_names.proofs.letters.place_of_byte.Goals as goal

pub returns-in_default : goal.returns-in_default
returns-in_default c = sym (no_byte c.args.c c.args.bytes.now c.type_inv.bytes c.in_default.ensures)

pub returns : goal.returns
returns c =
    c.ok.ensures.value
    ∙ searched_is c.in-Ok.byte c.args.bytes.now c.binary_search.result c.requires c.binary_search.ensures.position
    ∙ ap (λ b. place_of b c.args.bytes.now) c.in-Ok.ensures.1
