use Rattle.std.proofs.Common.{◌+◌, ◌≤◌, [], ◌∷◌, length, arith}
use Rattle.exi_gram.specs.Tables.{size}
use Rattle.exi_gram.specs.Terminals.{rule}
use Rattle.exi_gram.specs.Wholes.{opening}
use Rattle.exi_codes.proofs.Making.{made_few_of, rules_size}
use Rattle.exi_codes.proofs.maker.Maker.document_content.Goals as goal

pub push_first-requires-clause-room : goal.push_first-requires-clause-room
push_first-requires-clause-room c =
    let made : size c.push_globals.new.state ≤ length c.args.globals.now = made_few_of c.args.self.now.options.now c.args.self.now.places.now c.new-state.result c.push_globals.new.state (opening 2) (λ e. (e.name, e.full)) c.args.globals.now c.new-state.ensures c.in_ok-push_globals.ensures in
    omega (arith, made, c.requires.few)

pub push_single-requires : goal.push_single-requires
push_single-requires c =
    let made : size c.push_globals.new.state ≤ length c.args.globals.now = made_few_of c.args.self.now.options.now c.args.self.now.places.now c.new-state.result c.push_globals.new.state (opening 2) (λ e. (e.name, e.full)) c.args.globals.now c.new-state.ensures c.in_ok-push_globals.ensures in
    let any : size c.push_first.new.state ≤ size c.push_globals.new.state + 1 = rules_size c.args.self.now.options.now c.args.self.now.places.now c.push_globals.new.state c.push_first.new.state (rule c.plain.result ∷ []) 1 c.in_ok-push_first.ensures (omega arith) in
    record { room = omega (arith, made, any, c.requires.few) }

pub push_remarks-requires : goal.push_remarks-requires
push_remarks-requires c =
    let made : size c.push_globals.new.state ≤ length c.args.globals.now = made_few_of c.args.self.now.options.now c.args.self.now.places.now c.new-state.result c.push_globals.new.state (opening 2) (λ e. (e.name, e.full)) c.args.globals.now c.new-state.ensures c.in_ok-push_globals.ensures in
    let any : size c.push_first.new.state ≤ size c.push_globals.new.state + 1 = rules_size c.args.self.now.options.now c.args.self.now.places.now c.push_globals.new.state c.push_first.new.state (rule c.plain.result ∷ []) 1 c.in_ok-push_first.ensures (omega arith) in
    let types : size c.push_single.new.state ≤ size c.push_first.new.state + 1 = c.in_ok-push_single.ensures.size in
    record { room = omega (arith, made, any, types, c.requires.few) }
