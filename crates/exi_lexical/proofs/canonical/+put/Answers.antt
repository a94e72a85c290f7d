use Rattle.std.proofs.Common.{◌≡◌, ◌+◌, ◌++◌, List, ◌∷◌, drop, map, ap, sym, ◌∙◌}
use Rattle.std.specs.Prelude.{string_bytes, encode_utf8_all}
use Rattle.std.proofs.lemmas.Bool.{and_parts}
use Rattle.exi_names.specs.Seen.{Value, seen, values_of}
use Rattle.exi_names.specs.Texts.{all_have_text, has_text}
use Rattle.exi_lexical.specs.Values.{canonical, texts}
use Rattle.exi_lexical.proofs.Lists.{at_item}
use Rattle.exi_lexical.proofs.Joined.{left, put_item}
use Rattle.exi_lexical.proofs.canonical.+put.Goals as goal

pub put_list-loop-index-preserved : goal.put_list-loop-index-preserved
put_list-loop-index-preserved t c =
    let xs = c.args.list.now.items.items in
    let i = c.loop-index.index in
    let x = c.value-item.result in
    let rest : drop i xs ≡ x ∷ drop (i + 1) xs = at_item xs c.deref-value-items.result.now i x c.deref-value-items.ensures.value c.loop-index-test.true c.value-item.is in
    let parts : map seen (drop i xs) ≡ seen x ∷ map seen (drop (i + 1) xs) = ap (map seen) rest in
    let named = ap (λ (vs : List Value). all_have_text (values_of vs)) (sym parts) ∙ c.loop-index.invariant.named in
    let done = ap (λ (vs : List Value). string_bytes c.loop-index.out ++ encode_utf8_all (left i (texts (values_of vs)))) (sym parts) ∙ c.loop-index.invariant.done in record {
      named = (and_parts (has_text (seen x)) (all_have_text (values_of (map seen (drop (i + 1) xs)))) named).1;
      done = put_item i (string_bytes c.loop-index.out) (string_bytes c.separate.new.out) (string_bytes c.put.new.out) _ (canonical (seen x)) (texts (values_of (map seen (drop (i + 1) xs)))) done c.in_ok-separate.ensures c.in_ok-put.ensures;
    }
