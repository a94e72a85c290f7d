use Rattle.std.proofs.Common.{◌≡◌, ◌+◌, ◌≤◌, List, length, map, sym, ap, ◌∙◌, arith}
use Rattle.std.proofs.lemmas.List.{length-map}
use Rattle.exi_gram.specs.Additions.{at_copy, content_added, end_added, firsts_of, later_added}
use Rattle.exi_gram.specs.Tables.{size}
use Rattle.exi_gram.specs.Terminals.{Rule, rule}
use Rattle.exi_codes.specs.Made.{with_parts, with_rules}
use Rattle.exi_codes.proofs.Assembling.{end_copied}
use Rattle.exi_codes.proofs.Making.{firsts_few, made_few_of, none_size, state_is, then_parts}
use Rattle.exi_codes.proofs.maker.Maker.copied_state.Goals as goal

pub push_copied-requires-clause-room : goal.push_copied-requires-clause-room
push_copied-requires-clause-room c =
    let state : length (map rule c.args.state.now) ≡ length c.args.state.now = length-map c.args.state.now rule in
    let few : length c.in_ok-firsts.firsts.items ≤ length (map rule c.args.state.now) = firsts_few (λ p. rule p.now) c.in_ok-firsts.firsts.items (map rule c.args.state.now) c.in_ok-firsts.ensures in
    let none : size c.new-made.result ≡ 0 = none_size c.new-made.result c.new-made.ensures in
    let slice : length c.as_slice.result.now ≡ length c.in_ok-firsts.firsts.items = ap length c.as_slice.ensures.value in
    omega (arith, state, few, none, slice, c.requires.few)

pub push_end-requires : goal.push_end-requires
push_end-requires c =
    let state : length (map rule c.args.state.now) ≡ length c.args.state.now = length-map c.args.state.now rule in
    let few : length c.in_ok-firsts.firsts.items ≤ length (map rule c.args.state.now) = firsts_few (λ p. rule p.now) c.in_ok-firsts.firsts.items (map rule c.args.state.now) c.in_ok-firsts.ensures in
    let none : size c.new-made.result ≡ 0 = none_size c.new-made.result c.new-made.ensures in
    let slice : length c.as_slice.result.now ≡ length c.in_ok-firsts.firsts.items = ap length c.as_slice.ensures.value in
    let made : size c.push_copied.new.made ≤ length c.as_slice.result.now = made_few_of c.args.self.now.options.now c.args.self.now.places.now c.new-made.result c.push_copied.new.made (at_copy c.args.copy) (λ p. rule p.now) c.as_slice.result.now c.new-made.ensures c.in_ok-push_copied.ensures in
    record { room = omega (arith, state, few, made, slice, c.requires.few) }

pub push_content-requires : goal.push_content-requires
push_content-requires c =
    let state : length (map rule c.args.state.now) ≡ length c.args.state.now = length-map c.args.state.now rule in
    let few : length c.in_ok-firsts.firsts.items ≤ length (map rule c.args.state.now) = firsts_few (λ p. rule p.now) c.in_ok-firsts.firsts.items (map rule c.args.state.now) c.in_ok-firsts.ensures in
    let none : size c.new-made.result ≡ 0 = none_size c.new-made.result c.new-made.ensures in
    let slice : length c.as_slice.result.now ≡ length c.in_ok-firsts.firsts.items = ap length c.as_slice.ensures.value in
    let made : size c.push_copied.new.made ≤ length c.as_slice.result.now = made_few_of c.args.self.now.options.now c.args.self.now.places.now c.new-made.result c.push_copied.new.made (at_copy c.args.copy) (λ p. rule p.now) c.as_slice.result.now c.new-made.ensures c.in_ok-push_copied.ensures in
    let end : size c.push_end.new.state ≤ size c.push_copied.new.made + 1 = c.in_ok-push_end.ensures.size in
    record { room = omega (arith, state, few, made, end, slice, c.requires.few) }

pub returns : goal.returns
returns c =
    let o = c.args.self.now.options.now in
    let names = c.args.self.now.places.now in
    let copy = c.args.copy in
    let firsts = firsts_of (map rule c.args.state.now) in
    let slice : map (λ p. rule p.now) c.as_slice.result.now ≡ firsts = ap (map (λ p. rule p.now)) c.as_slice.ensures.value ∙ c.in_ok-firsts.ensures in
    let again : map (λ p. rule p.now) c.as_slice-2.result.now ≡ firsts = ap (map (λ p. rule p.now)) c.as_slice-2.ensures.value ∙ c.in_ok-firsts.ensures in
    let copied : c.push_copied.new.made ≡ with_rules o names c.new-made.result (map (at_copy copy) firsts) = c.in_ok-push_copied.ensures ∙ ap (λ (z : List Rule). with_rules o names c.new-made.result (map (at_copy copy) z)) slice in
    let end : c.push_end.new.state ≡ with_parts o names c.push_copied.new.made (end_added copy (map (at_copy copy) firsts)) =
    c.in_ok-push_end.ensures.added ∙ ap (λ (z : List Rule). with_parts o names c.push_copied.new.made (end_added copy z)) again ∙ ap (with_parts o names c.push_copied.new.made) (sym (end_copied copy copy firsts)) in
    state_is o names c.new-made.result c.push_copied.new.made c.push_content.new.state (map (at_copy copy) firsts) (later_added copy (map (at_copy copy) firsts)) c.new-made.ensures copied
    (then_parts o names c.push_copied.new.made c.push_end.new.state c.push_content.new.state (end_added copy (map (at_copy copy) firsts)) (content_added copy) end c.in_ok-push_content.ensures)
