use Rattle.std.proofs.Common.{◌≡◌, ℕ, ◌+◌, ◌<◌, ◌++◌, ◌∙◌, ap, drop, get_or, length, map, sym, subst}
use Rattle.std.proofs.lemmas.List.{append-nil, drop_all, map_push}
use Rattle.exi_gram.specs.Terminals.{rule, symbol}
use Rattle.exi_normal.specs.Normals.{rules_from, with_rows}
use Rattle.exi_normal.specs.Spots.{row_at}
use Rattle.exi_normal.specs.Working.{target_of, with_row}
use Rattle.exi_gram.specs.declared.grammar.Production.{Production}
use Rattle.exi_gram.specs.declared.items.Items.{Items}
use Rattle.exi_normal.specs.declared.order.Spot.{Spot}
use Rattle.exi_normal.proofs.Turns.{reaches_more, reaches_same, row_many, rows_more, rules_more}
use Rattle.exi_normal.proofs.work.rules.Goals as goal

pub loop-spot-preserved : goal.loop-spot-preserved
loop-spot-preserved c =
    let spots = c.args.spots.now in
    let index = c.loop-spot.spot-index in
    let ls = c.loop-spot.lists in
    let own = c.args.own in
    let spot = get_or spots index c.spot-item.result in
    let lists : c.target.new.lists ≡ with_row (row_at spot) ls = c.in_ok-to.ensures.lists ∙ ap (λ (s : Spot). with_row (row_at s) ls) c.spot-item.is in
    let on = c.in_ok-copy.ensures ∙ ap (λ (s : Spot). symbol s.terminal.now) c.spot-item.is in
    let to = c.in_ok-to.ensures.target ∙ ap (λ (s : Spot). target_of own (row_at s) ls) c.spot-item.is in
    let inner = ap (λ (s : Spot). s.group.now.inner) c.spot-item.is in (
      ap (λ z. map rule c.push.new.self ++ rules_from own (map row_at (drop (index + 1) spots)) z) lists
          ∙ rules_more own spots index c.spot-item.result ls (map rule c.loop-spot.rules) (map rule c.push.new.self) _ c.loop-spot-test.true (λ i. record { on = on i; to = to i; inner = inner i }) (ap (map rule) c.in_ok-push.ensures.ok ∙ map_push rule c.loop-spot.rules _)
          ∙ c.loop-spot.invariant.0,
      ap (with_rows (map row_at (drop (index + 1) spots))) lists ∙ sym (rows_more spots index c.spot-item.result ls c.loop-spot-test.true) ∙ c.loop-spot.invariant.1,
    )

pub returns-in_err-to-clause-stop : goal.returns-in_err-to-clause-stop
returns-in_err-to-clause-stop c =
    let spots = c.args.spots.now in
    let ls = c.loop-spot.lists in
    let all = with_rows (map row_at spots) c.args.lists.now in
    reaches_same c.args.most all _ c.from_residual.result c.from_residual.ensures.1
    (reaches_more ℕ (Items Production) c.args.most (with_row (row_at c.spot-item.result) ls) all _
    (λ h. row_many c.args.most spots c.loop-spot.spot-index c.spot-item.result ls all c.loop-spot-test.true (subst (λ (s : Spot). c.args.most < length (with_row (row_at s) ls)) c.spot-item.is h) c.loop-spot.invariant.1)
    c.in_err-to.ensures.stop)

pub returns-clause-rules : goal.returns-clause-rules
returns-clause-rules c =
    sym (append-nil (map rule c.loop-spot.rules))
    ∙ ap (λ z. map rule c.loop-spot.rules ++ rules_from c.args.own (map row_at z) c.loop-spot.lists) (sym (drop_all c.loop-spot.spot-index c.args.spots.now c.loop-spot-test.false))
    ∙ c.loop-spot.invariant.0

pub returns-clause-lists : goal.returns-clause-lists
returns-clause-lists c = ap (λ z. with_rows (map row_at z) c.loop-spot.lists) (sym (drop_all c.loop-spot.spot-index c.args.spots.now c.loop-spot-test.false)) ∙ c.loop-spot.invariant.1
