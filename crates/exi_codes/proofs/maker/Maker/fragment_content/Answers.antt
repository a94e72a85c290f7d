use Rattle.std.proofs.Common.{◌+◌, ◌≤◌, [], ◌∷◌, length, arith}
use Rattle.exi_gram.specs.Tables.{size}
use Rattle.exi_gram.specs.Terminals.{rule}
use Rattle.exi_gram.specs.Wholes.{opening}
use Rattle.exi_codes.proofs.Making.{made_few, rules_size}
use Rattle.exi_codes.proofs.maker.Maker.fragment_content.Goals as goal

pub push_first-requires-clause-room : goal.push_first-requires-clause-room
push_first-requires-clause-room c =
    let made : size c.push_declared.new.state ≤ length c.args.declared.now = made_few c.args.self.now.options.now c.args.self.now.places.now c.new-state.result c.push_declared.new.state (opening 1) c.args.declared.now c.new-state.ensures c.in_ok-push_declared.ensures in
    omega (arith, made, c.requires.few)

pub push_first-requires-2-clause-room : goal.push_first-requires-2-clause-room
push_first-requires-2-clause-room c =
    let made : size c.push_declared.new.state ≤ length c.args.declared.now = made_few c.args.self.now.options.now c.args.self.now.places.now c.new-state.result c.push_declared.new.state (opening 1) c.args.declared.now c.new-state.ensures c.in_ok-push_declared.ensures in
    let any : size c.push_first.new.state ≤ size c.push_declared.new.state + 1 = rules_size c.args.self.now.options.now c.args.self.now.places.now c.push_declared.new.state c.push_first.new.state (rule c.plain.result ∷ []) 1 c.in_ok-push_first.ensures (omega arith) in
    omega (arith, made, any, c.requires.few)

pub push_single-requires : goal.push_single-requires
push_single-requires c =
    let made : size c.push_declared.new.state ≤ length c.args.declared.now = made_few c.args.self.now.options.now c.args.self.now.places.now c.new-state.result c.push_declared.new.state (opening 1) c.args.declared.now c.new-state.ensures c.in_ok-push_declared.ensures in
    let any : size c.push_first.new.state ≤ size c.push_declared.new.state + 1 = rules_size c.args.self.now.options.now c.args.self.now.places.now c.push_declared.new.state c.push_first.new.state (rule c.plain.result ∷ []) 1 c.in_ok-push_first.ensures (omega arith) in
    let end : size c.push_first-2.new.state ≤ size c.push_first.new.state + 1 = rules_size c.args.self.now.options.now c.args.self.now.places.now c.push_first.new.state c.push_first-2.new.state (rule c.plain-2.result ∷ []) 1 c.in_ok-push_first-2.ensures (omega arith) in
    record { room = omega (arith, made, any, end, c.requires.few) }

pub push_single-requires-2 : goal.push_single-requires-2
push_single-requires-2 c =
    let made : size c.push_declared.new.state ≤ length c.args.declared.now = made_few c.args.self.now.options.now c.args.self.now.places.now c.new-state.result c.push_declared.new.state (opening 1) c.args.declared.now c.new-state.ensures c.in_ok-push_declared.ensures in
    let any : size c.push_first.new.state ≤ size c.push_declared.new.state + 1 = rules_size c.args.self.now.options.now c.args.self.now.places.now c.push_declared.new.state c.push_first.new.state (rule c.plain.result ∷ []) 1 c.in_ok-push_first.ensures (omega arith) in
    let end : size c.push_first-2.new.state ≤ size c.push_first.new.state + 1 = rules_size c.args.self.now.options.now c.args.self.now.places.now c.push_first.new.state c.push_first-2.new.state (rule c.plain-2.result ∷ []) 1 c.in_ok-push_first-2.ensures (omega arith) in
    let remarks : size c.push_single.new.state ≤ size c.push_first-2.new.state + 1 = c.in_ok-push_single.ensures.size in
    record { room = omega (arith, made, any, end, remarks, c.requires.few) }
