use Rattle.std.proofs.Common.{◌≡◌, Some, List, ℕ, true, ◌++◌, ap, sym, ◌∙◌, rules}
use Rattle.std.specs.Str.{bytes_eq}
use Rattle.std.specs.String.{string_bytes}
use Rattle.exi_calendar.specs.Forms.{moment_text}
use Rattle.exi_names.specs.Seen.{Value, Values, list_step, moment, seen, seen_step}
use Rattle.exi_names.specs.declared.val.Val.{fold-roll-Val}
use Rattle.exi_names.specs.declared.val.Val.TheOpen.{Val-F}
use Rattle.exi_names.specs.declared.val.Val.TheVariants.{rolls-Mom}
use Rattle.exi_names.specs.declared.val.Val.TheVariants as shape
use Rattle.exi_evtext.specs.Parsing.{dated}
use Rattle.exi_evtext.proofs.Dates.{any_is, date_time_is, mom_is}
use Rattle.exi_evtext.proofs.scalar.mom.Goals as goal

pub returns-in_default-dated : goal.returns-in_default-dated
returns-in_default-dated c = rw (any_is c.args.digits.now) (search rules)

pub returns-in_err-is_same : goal.returns-in_err-is_same
returns-in_err-is_same c = rw (any_is c.args.digits.now) (search rules)

pub returns : goal.returns
returns c =
    let m = c.in-Some-dated.moment in
    let d : dated c.args.digits.now ≡ Some m = sym c.in-Some-dated.ensures in
    let printed : string_bytes c.push_moment.new.out ≡ moment_text m = c.in_ok-push_moment.ensures.ok ∙ ap (λ (x : List ℕ). x ++ moment_text m) c.clear.ensures.bytes in
    let same : bytes_eq (moment_text m) c.args.digits.now ≡ true = ap (λ (x : List ℕ). bytes_eq x c.args.digits.now) (sym printed) ∙ c.in_ok-is_same.ensures in
    let known : seen (shape.Mom m) ≡ moment m = ap seen (sym (rolls-Mom m)) ∙ fold-roll-Val Value Values seen_step list_step (Val-F.Mom m) in
    mom_is c.args.digits.now m d same ∙ ap (λ (v : Value). Some v) (sym known)

pub returns-in-Some : goal.returns-in-Some
returns-in-Some c =
    let m = c.in-Some.moment in
    let known : seen (shape.Mom m) ≡ moment m = ap seen (sym (rolls-Mom m)) ∙ fold-roll-Val Value Values seen_step list_step (Val-F.Mom m) in
    date_time_is c.args.digits.now m c.in-Some.ensures.value c.in-Some.ensures.canonical ∙ ap (λ (v : Value). Some v) (sym known)
