use Rattle.std.proofs.Common.{◌≡◌, ◌≤◌, length, map, ap, arith}
use Rattle.std.proofs.lemmas.List.{length-map}
use Rattle.exi_gram.specs.Tables.{size}
use Rattle.exi_gram.specs.Terminals.{rule}
use Rattle.exi_codes.proofs.Making.{firsts_few, made_few, none_size}
use Rattle.exi_codes.proofs.maker.Maker.strict_state.Goals as goal

pub push_firsts-requires-clause-room : goal.push_firsts-requires-clause-room
push_firsts-requires-clause-room c =
    let state : length (map rule c.args.state.now) ≡ length c.args.state.now = length-map c.args.state.now rule in
    let few : length c.in_ok-firsts.firsts.items ≤ length (map rule c.args.state.now) = firsts_few (λ p. rule p.now) c.in_ok-firsts.firsts.items (map rule c.args.state.now) c.in_ok-firsts.ensures in
    let none : size c.new-made.result ≡ 0 = none_size c.new-made.result c.new-made.ensures in
    let slice : length c.as_slice.result.now ≡ length c.in_ok-firsts.firsts.items = ap length c.as_slice.ensures.value in
    omega (arith, state, few, none, slice, c.requires.few)

pub push_instance-requires : goal.push_instance-requires
push_instance-requires c =
    let state : length (map rule c.args.state.now) ≡ length c.args.state.now = length-map c.args.state.now rule in
    let few : length c.in_ok-firsts.firsts.items ≤ length (map rule c.args.state.now) = firsts_few (λ p. rule p.now) c.in_ok-firsts.firsts.items (map rule c.args.state.now) c.in_ok-firsts.ensures in
    let none : size c.new-made.result ≡ 0 = none_size c.new-made.result c.new-made.ensures in
    let slice : length c.as_slice.result.now ≡ length c.in_ok-firsts.firsts.items = ap length c.as_slice.ensures.value in
    let made : size c.push_firsts.new.state ≤ length c.as_slice.result.now = made_few c.args.self.now.options.now c.args.self.now.places.now c.new-made.result c.push_firsts.new.state (λ p. rule p.now) c.as_slice.result.now c.new-made.ensures c.in_ok-push_firsts.ensures in
    record { room = omega (arith, state, few, made, slice, c.requires.few) }
