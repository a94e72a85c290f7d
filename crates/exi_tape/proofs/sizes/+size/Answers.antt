use Rattle.std.proofs.Common.{◌≡◌, ◌≤◌, length, rules, ◌∙◌, arith}
use Rattle.exi_names.specs.Seen.{seen}
use Rattle.exi_tape.proofs.Measures.{counted, list_begins, list_ends, sound_ends}
use Rattle.exi_tape.proofs.sizes.+size.Goals as goal

pub list_size-loop-value-init : goal.list_size-loop-value-init
list_size-loop-value-init t c =
    let many : c.len.result ≡ length c.args.list.now.items.items = c.len.ensures ∙ c.args.list.now.items.ok.0 in
    record {
      size = list_begins seen c.args.list.now.items.items c.len.result c.number_size-size.result many c.number_size-size.ensures.size;
      sound = λ s. s;
      few = omega (arith, c.number_size-size.ensures.few);
    }

pub list_size-returns-clause-size : goal.list_size-returns-clause-size
list_size-returns-clause-size t c =
    let over : length c.args.list.now.items.items ≤ c.loop-value.value-index = search rules in
    list_ends seen c.args.list.now.items.items c.loop-value.value-index c.loop-value.size _ over c.loop-value.invariant.few c.loop-value.invariant.size

pub list_size-returns-clause-sound : goal.list_size-returns-clause-sound
list_size-returns-clause-sound t c =
    let over : length c.args.list.now.items.items ≤ c.loop-value.value-index = search rules in
    let many : c.len.result ≡ length c.args.list.now.items.items = c.len.ensures ∙ c.args.list.now.items.ok.0 in
    (omega (arith, counted seen c.args.list.now.items.items, many, c.number_size-size.ensures.sound), sound_ends seen c.args.list.now.items.items c.loop-value.value-index over c.loop-value.invariant.sound)
