use Rattle.std.proofs.Common.{◌≡◌, ◌++◌, ◌∷◌, ◌≤◌, ◌∙◌, [], ap, arith, false, length, set, sym, subst}
use Rattle.exi_gram.specs.Reaching.{is_among}
use Rattle.exi_normal.specs.Marking.{AreMarked}
use Rattle.exi_normal.proofs.Marked.{marked_past, marked_put}
use Rattle.exi_normal.proofs.marks.Marks.put.Goals as goal

pub invariant_of-self-then-state-len : goal.invariant_of-self-then-state-len
invariant_of-self-then-state-len c =
    let places = c.self.inside.places.items in
    let states = c.self.inside.states.items in
    let many : c.len-place.result ≡ length states = c.len-place.ensures ∙ c.self.inside.states.ok.0 in
    let fresh : is_among c.args.state states ≡ false = ap (is_among c.args.state) c.self.view_is ∙ c.requires.new in
    let all : AreMarked (set places c.args.state (length states)) (states ++ c.args.state ∷ []) = marked_put places states c.args.state c.self.invariant fresh in
    subst (λ n. AreMarked (set places c.args.state n) c.push.new.self.items) (sym many) (subst (λ z. AreMarked (set places c.args.state (length states)) z) (sym c.in_ok-push.ensures.items) all)

pub invariant_of-self-else-state-len : goal.invariant_of-self-else-state-len
invariant_of-self-else-state-len c =
    let places = c.self.inside.places.items in
    let many : c.len.result ≡ length places = c.len.ensures ∙ c.self.inside.places.ok.0 in
    let past : length places ≤ c.args.state = omega (arith, c.if-state-len.false, many) in
    subst (λ z. AreMarked places z) (sym c.in_ok-push.ensures.items) (marked_past places c.self.inside.states.items c.args.state c.self.invariant past)
