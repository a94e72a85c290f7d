use Rattle.std.proofs.Common.{◌≡◌, ◌≢◌, suc, ◌+◌, ℕ, List, [], ◌∷◌, Option, Some, None, length, option_map, sym, ap, ◌∙◌, arith}
use Rattle.std.proofs.lemmas.List.{length_push}
use Rattle.std.specs.Str.{chars}
use Rattle.exi_names.specs.declared.val.TheConstants.{MOST_ITEMS}
use Rattle.exi_names.specs.Datatypes.{represented}
use Rattle.exi_names.specs.Seen.{Value, seen, vals}
use Rattle.exi_names.specs.declared.val.Val.{Val}
use Rattle.exi_lexical.specs.Spaces.{words}
use Rattle.exi_lexical.specs.Values.{each_value, value}
use Rattle.exi_lexical.proofs.Lists.{behind, each_end, each_next, each_none, listed, none_listed, too_many}
use Rattle.exi_names.proofs.Same.{length_vals}
use Rattle.exi_lexical.proofs.values.+value.Goals as goal

pub list-returns-then-len-eq-MOST_ITEMS : goal.list-returns-then-len-eq-MOST_ITEMS
list-returns-then-len-eq-MOST_ITEMS t c =
    let f : List ℕ → Option Value = λ w. value (represented c.args.item.now) w in
    let many : length (vals c.loop-word.items) ≡ MOST_ITEMS = length_vals c.loop-word.items ∙ sym c.len.ensures ∙ c.if-len-eq-MOST_ITEMS.true in
    let first = ap length c.in-Some.ensures.words in
    sym (too_many f (chars c.args.text.now) (omega (arith, c.loop-word.invariant.2, first)))

pub list-returns-in_default-2 : goal.list-returns-in_default-2
list-returns-in_default-2 t c =
    let f : List ℕ → Option Value = λ w. value (represented c.args.item.now) w in
    let text = chars c.args.text.now in
    let e : each_value f (words text) ≡ behind (vals c.loop-word.items) (each_value f (chars c.in-Some.word.now ∷ words (chars c.in-Some.after.now)))
    = c.loop-word.invariant.1 ∙ ap (λ (ws : List (List ℕ)). behind (vals c.loop-word.items) (each_value f ws)) c.in-Some.ensures.words in
    let one : f (chars c.in-Some.word.now) ≡ None = sym c.in_ok-value.ensures ∙ ap (λ (o : Option Val). option_map seen o) c.in_default-2.is in
    sym (none_listed f text (each_none f (vals c.loop-word.items) (chars c.in-Some.word.now) (words (chars c.in-Some.after.now)) (each_value f (words text)) e one))

pub list-loop-word-preserved : goal.list-loop-word-preserved
list-loop-word-preserved t c =
    let f : List ℕ → Option Value = λ w. value (represented c.args.item.now) w in
    let text = chars c.args.text.now in
    let e : each_value f (words text) ≡ behind (vals c.loop-word.items) (each_value f (chars c.in-Some.word.now ∷ words (chars c.in-Some.after.now)))
    = c.loop-word.invariant.1 ∙ ap (λ (ws : List (List ℕ)). behind (vals c.loop-word.items) (each_value f ws)) c.in-Some.ensures.words in
    let one : f (chars c.in-Some.word.now) ≡ Some (seen c.in-Some-2.value) = sym c.in_ok-value.ensures ∙ ap (λ (o : Option Val). option_map seen o) c.in-Some-2.is in
    let few : length (vals c.loop-word.items) ≢ MOST_ITEMS = λ h. c.if-len-eq-MOST_ITEMS.false (c.len.ensures ∙ sym (length_vals c.loop-word.items) ∙ h) in
    let first : length (words (chars c.loop-word.rest.now)) ≡ suc (length (words (chars c.in-Some.after.now))) = ap length c.in-Some.ensures.words in
    let grown : length (vals c.push.new.self) ≡ length (vals c.loop-word.items) + 1 = ap length c.in_ok-push.ensures.ok ∙ length_push (vals c.loop-word.items) (seen c.in-Some-2.value) in
    let before = c.loop-word.invariant.2 in
    let most = c.loop-word.invariant.3 in (
      c.in-Some.ensures.texts,
      each_next f (vals c.loop-word.items) (vals c.push.new.self) (chars c.in-Some.word.now) (words (chars c.in-Some.after.now)) (seen c.in-Some-2.value) (each_value f (words text)) e one c.in_ok-push.ensures.ok,
      omega (arith, before, first, grown),
      omega (arith, most, few, grown),
    )

pub list-returns : goal.list-returns
list-returns t c =
    let f : List ℕ → Option Value = λ w. value (represented c.args.item.now) w in
    let text = chars c.args.text.now in
    let none : words (chars c.loop-word.rest.now) ≡ [] = c.in_default.ensures.words in
    let long : length (words (chars c.loop-word.rest.now)) ≡ 0 = ap length none in
    let all = each_end f (vals c.loop-word.items) (words (chars c.loop-word.rest.now)) (each_value f (words text)) c.loop-word.invariant.1 none in
    let before = c.loop-word.invariant.2 in
    let most = c.loop-word.invariant.3 in
    ap (λ (v : Value). Some v) c.whole.ensures ∙ sym (listed f text (vals c.loop-word.items) all (omega (arith, before, most, long)))
