use Rattle.std.proofs.Common.{◌≡◌, ◌++◌, length, ap, ◌∙◌, sym, arith, append_assoc, length-append}
use Rattle.exi_names.specs.Seen.{seen, vals, values_of}
use Rattle.exi_tape.specs.Spelling.{count_of, number_spelled, values_spelled}
use Rattle.exi_tape.proofs.Measures.{counted}
use Rattle.exi_tape.proofs.write.+put.Goals as goal

pub put_list-put_number-requires : goal.put_list-put_number-requires
put_list-put_number-requires t c =
    let all = values_of (vals c.args.list.now) in
    let many : c.len.result ≡ count_of all = c.len.ensures ∙ c.args.list.now.items.ok.0 ∙ sym (counted seen c.args.list.now.items.items) in
    record { room = omega (arith, ap (λ k. length (number_spelled k)) many, length-append (number_spelled (count_of all)) (values_spelled all), c.requires.room) }

pub put_list-loop-value-init : goal.put_list-loop-value-init
put_list-loop-value-init t c =
    let all = values_of (vals c.args.list.now) in
    let many : c.len.result ≡ count_of all = c.len.ensures ∙ c.args.list.now.items.ok.0 ∙ sym (counted seen c.args.list.now.items.items) in
    let long = length-append (number_spelled (count_of all)) (values_spelled all) in let same = ap (λ k. length (number_spelled k)) many in
    record {
      bytes = ap (λ l. l ++ values_spelled all) c.put_number.ensures.bytes ∙ append_assoc c.args.roll.now.bytes (number_spelled c.len.result) (values_spelled all) ∙ ap (λ k. c.args.roll.now.bytes ++ (number_spelled k ++ values_spelled all)) many;
      room = omega (arith, c.put_number.ensures.room, same, long);
      left = omega (arith, c.put_number.ensures.room, same, long, c.requires.room);
      pages = c.put_number.ensures.pages;
    }
