use Rattle.std.proofs.Common.{rules, ◌≡◌, ◌+◌, ◌<◌, ◌≤◌, ◌++◌, ◌∷◌, [], ℕ, List, length, Option, Some, None, refl, sym, ap, ◌∙◌, arith}
use Rattle.std.specs.Prelude.{option_copied}
use Rattle.std.proofs.lemmas.Bool.{eqb-true}
use Rattle.std.proofs.lemmas.List.{nil_from_length}
use Rattle.exi_digits.specs.Splits.{before, behind, is_mark}
use Rattle.exi_index.specs.Hints.{hint_on, hints_in, lines_from}
use Rattle.exi_index.proofs.Lines.{at_end, behind_shorter, goes_on, hint_place, no_end, no_front, not_empty, no_hint, with_front}
use Rattle.exi_index.proofs.parse.parse_hints.Goals as goal

pub loop-left-init : goal.loop-left-init
unfolding hints_in
loop-left-init c = record { few = omega arith; so_far = no_front (lines_from 1 [] c.args.bytes.now) ∙ ap (λ (x : List ℕ). with_front x (lines_from 1 [] c.args.bytes.now)) (sym c.new-hints.ensures.items) }

pub returns-in_default : goal.returns-in_default
returns-in_default c =
    let none : behind (is_mark 10) c.loop-left.left.now ≡ None = sym c.split_at_mark.ensures.behind ∙ ap option_copied c.in_default.is in
    let some : 0 < length c.loop-left.left.now = not_empty c.loop-left.left.now c.loop-left-test.ensures in
    c.loop-left.invariant.so_far ∙ no_end c.loop-left.hints.items c.loop-left.left.now c.loop-left.place some none

pub returns-in_default-hint_on : goal.returns-in_default-hint_on
returns-in_default-hint_on c =
    let rest : behind (is_mark 10) c.loop-left.left.now ≡ Some c.in-Some.others.now = sym c.split_at_mark.ensures.behind ∙ ap option_copied c.in-Some.is in
    let none : hint_on c.loop-left.place (before (is_mark 10) c.loop-left.left.now) ≡ None = ap (hint_on c.loop-left.place) (sym c.split_at_mark.ensures.before) ∙ sym c.hint_on.ensures ∙ c.in_default-hint_on.is in
    c.loop-left.invariant.so_far ∙ no_hint c.loop-left.hints.items c.loop-left.left.now c.in-Some.others.now c.loop-left.place rest none

pub loop-left-smaller : goal.loop-left-smaller
loop-left-smaller c =
    let rest : behind (is_mark 10) c.loop-left.left.now ≡ Some c.in-Some.others.now = sym c.split_at_mark.ensures.behind ∙ ap option_copied c.in-Some.is in
    behind_shorter c.loop-left.left.now c.in-Some.others.now rest

pub loop-left-preserved : goal.loop-left-preserved
loop-left-preserved c =
    let rest : behind (is_mark 10) c.loop-left.left.now ≡ Some c.in-Some.others.now = sym c.split_at_mark.ensures.behind ∙ ap option_copied c.in-Some.is in
    let some : hint_on c.loop-left.place (before (is_mark 10) c.loop-left.left.now) ≡ Some c.in-Some-hint_on.hint = ap (hint_on c.loop-left.place) (sym c.split_at_mark.ensures.before) ∙ sym c.hint_on.ensures ∙ c.in-Some-hint_on.is in
    let few = hint_place c.loop-left.place c.in-Some-hint_on.hint (before (is_mark 10) c.loop-left.left.now) some in
    let more : c.push.new.self.items ≡ c.loop-left.hints.items ++ c.in-Some-hint_on.hint ∷ [] = search rules in record {
      few = omega (arith, few);
      so_far = c.loop-left.invariant.so_far ∙ goes_on c.loop-left.hints.items c.loop-left.left.now c.in-Some.others.now c.loop-left.place c.in-Some-hint_on.hint rest some ∙ ap (λ (x : List ℕ). with_front x (lines_from (c.loop-left.place + 1) [] c.in-Some.others.now)) (sym more);
    }

pub returns : goal.returns
returns c =
    let none : c.loop-left.left.now ≡ [] = nil_from_length c.loop-left.left.now (eqb-true (length c.loop-left.left.now) 0 (sym c.loop-left-test.ensures)) in
    c.loop-left.invariant.so_far ∙ ap (λ (x : List ℕ). with_front c.loop-left.hints.items (lines_from c.loop-left.place [] x)) none ∙ at_end c.loop-left.hints.items c.loop-left.place
