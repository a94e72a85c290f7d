use Rattle.std.proofs.Common.{◌≡◌, ◌++◌, sym, ◌∙◌}
use Rattle.std.specs.Prelude.{codes, decimal, string_bytes}
use Rattle.std.proofs.lemmas.List.{length-map}
use Rattle.exi_names.specs.Seen.{seen, values_of, vals}
use Rattle.exi_evtext.specs.Lines.{count, each_value}
use Rattle.exi_evtext.proofs.Holds.{kept_both, kept_by}
use Rattle.exi_evtext.proofs.Counts.{count_is, list_start}
use Rattle.exi_evtext.proofs.value.+push.Goals as goal

pub push_list-loop-value-init : goal.push_list-loop-value-init
push_list-loop-value-init t c =
    let old = string_bytes c.args.out.now in
    let mid = string_bytes c.push_str.new.self in
    let new = string_bytes c.push_number.new.out in
    let items = c.args.list.now.items in
    let vs = vals c.args.list.now in
    let many : c.len.result ≡ count (values_of vs) = c.len.ensures ∙ items.ok.0 ∙ sym (length-map items.items seen) ∙ sym (count_is vs) in
    let one : mid ≡ old ++ codes "list " = c.in_ok-push_str.ensures.bytes in
    let two : new ≡ mid ++ decimal c.len.result = c.in_ok-push_number.ensures.ok in record {
      done = list_start old mid new (each_value (values_of vs)) c.len.result (count (values_of vs)) one two many;
      kept = kept_both old mid new (kept_by old (codes "list ") mid one) (kept_by mid (decimal c.len.result) new two);
    }
