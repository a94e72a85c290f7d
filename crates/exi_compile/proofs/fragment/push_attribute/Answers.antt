use Rattle.std.proofs.Common.{◌≡◌, ◌≤◌, ◌∷◌, [], ◌++◌, ◌∙◌, ap, arith, false, get_or, length, map, refl, sym}
use Rattle.std.proofs.lemmas.List.{append-nil, length-map, map_push}
use Rattle.exi_gram.specs.Terminals.{rule}
use Rattle.exi_vocabulary.specs.Vocabulary.{all_of_type}
use Rattle.exi_compile.proofs.Attributed.{attribute_here, attribute_past}
use Rattle.exi_compile.proofs.fragment.push_attribute.Goals as goal
use Rattle.exi_compile.proofs.fragment.push_attribute.Goals.{else-index-attributes-via-then-index-attributes+else-index-agree, else-index-attributes-via-else-index-attributes}

pub returns-in_ok-push : goal.returns-in_ok-push
returns-in_ok-push c =
    let p = c.args.parts.now in
    let a = c.index-attributes-index.result in
    let same = c.attributes-attributes.ensures.attributes in
    let long = ap length same in
    ap (map rule) c.in_ok-push.ensures.ok
    ∙ map_push rule c.args.state.now c.in_ok-attribute.field-0
    ∙ ap (λ r. map rule c.args.state.now ++ r ∷ []) c.in_ok-attribute.ensures
    ∙ ap (λ rs. map rule c.args.state.now ++ rs)
    (sym (attribute_here p c.args.agree.now c.args.place a (get_or c.args.agree.now c.args.place false) false c.requires.agree (omega (arith, long, c.if-index-attributes.true)) (c.index-attributes-index.is ∙ ap (λ l. get_or l c.args.place a) same) refl))

pub returns-else-index-attributes : goal.returns-else-index-attributes
returns-else-index-attributes c =
    let p = c.args.parts.now in
    let long = ap length c.attributes-attributes.ensures.attributes in
    let told : length c.args.agree.now ≡ length p.attributes = ap length c.requires.agree ∙ length-map p.attributes (λ x. all_of_type x p.attributes) in
    let past : length p.attributes ≤ c.args.place = elim c.else-index-attributes.branch [
      | else-index-attributes-via-then-index-attributes+else-index-agree w ↦ omega (arith, told, w.if-index-agree.false)
      | else-index-attributes-via-else-index-attributes w ↦ omega (arith, long, w.if-index-attributes.false)
    ] in
    sym (append-nil (map rule c.args.state.now)) ∙ ap (λ rs. map rule c.args.state.now ++ rs) (sym (attribute_past p c.args.place past))
