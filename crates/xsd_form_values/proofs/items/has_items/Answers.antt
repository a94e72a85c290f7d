use Rattle.std.proofs.Common.{◌≡◌, ℕ, Bool, IfOk, List, length, map, Option, ap, subst, ◌∙◌, Bor, arith}
use Rattle.std.proofs.lemmas.List.{length-map}
use Rattle.std.specs.List.{list_all}
use Rattle.std.specs.Option.{is_some}
use Rattle.exi_names.specs.Datatypes.{represented}
use Rattle.exi_names.specs.Seen.{Value}
use Rattle.exi_lexical.specs.Spaces.{words}
use Rattle.exi_lexical.specs.Values.{value}
use Rattle.xsd_form_values.proofs.Words.{few_items, many_items}
use Rattle.xsd_form_values.proofs.items.has_items.Goals as goal

pub returns-then-len-gt-MOST_ITEMS : goal.returns-then-len-gt-MOST_ITEMS
returns-then-len-gt-MOST_ITEMS c =
    let f : List ℕ → Option Value = λ w. value (represented c.args.item.now) w in
    let here : map {A = Bor (List ℕ)} (λ w. w.now) c.in_ok-words.words.items ≡ words c.args.text.now = c.in_ok-words.ensures ∙ ap words (c.as_slice.ensures.value ∙ c.in_ok-letters.ensures) in
    let long = length-map {A = Bor (List ℕ)} c.in_ok-words.words.items (λ w. w.now) in
    many_items f c.args.text.now (omega (arith, ap length here, long, c.len.ensures, c.if-len-gt-MOST_ITEMS.true))

pub returns : goal.returns
returns c =
    let f : List ℕ → Option Value = λ w. value (represented c.args.item.now) w in
    let here : map {A = Bor (List ℕ)} (λ w. w.now) c.in_ok-words.words.items ≡ words c.args.text.now = c.in_ok-words.ensures ∙ ap words (c.as_slice.ensures.value ∙ c.in_ok-letters.ensures) in
    let long = length-map {A = Bor (List ℕ)} c.in_ok-words.words.items (λ w. w.now) in
    let all : List (Bor (List ℕ)) → Bool = λ ws. list_all (λ w. is_some (f w)) (map (λ w. w.now) ws) in
    let same = ap all c.as_slice-2.ensures.value ∙ ap (list_all (λ w. is_some (f w))) here ∙ few_items f c.args.text.now (omega (arith, ap length here, long, c.len.ensures, c.if-len-gt-MOST_ITEMS.false)) in
    subst (λ (b : Bool). IfOk c.each_has.result (λ has. has ≡ b)) same c.each_has.ensures
