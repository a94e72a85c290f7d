use Rattle.std.proofs.Common.{◌≡◌, ◌<◌, ℕ, List, [], ◌∷◌, ◌++◌, take, drop, Option, Some, None, sym, ap, ◌∙◌, subst}
use Rattle.std.specs.Prelude.{IfSome}
use Rattle.std.specs.Str.{chars}
use Rattle.exi_evtext.specs.Parsing.{mark_at}
use Rattle.exi_evtext.proofs.Refills.{takes_last, takes_more}
use Rattle.exi_evtext.proofs.refill.take_part.Goals as goal

pub returns-in_default-byte-clause-read : goal.returns-in_default-byte-clause-read
returns-in_default-byte-clause-read c =
    let text = c.args.text.now in
    let left = c.args.bytes.now in
    let width = c.text_width.result in
    let behind = c.in-Some.behind.now in
    let run_is : c.push_str.new.self ≡ text ++ chars (take width left) = c.in_ok-push_str.ensures.ok ∙ ap (λ (x : List ℕ). text ++ chars x) (c.from_utf8_unchecked.ensures ∙ c.split_at.ensures.front) in
    let mark : mark_at (drop width left) ≡ Some (None, behind) = ap mark_at (sym c.split_at.ensures.back) ∙ c.in-Some.ensures.read ∙ ap (λ (o : Option ℕ). Some (o, behind)) c.in_default-byte.is in
    takes_last text left c.push_str.new.self behind width c.text_width.ensures run_is mark

pub returns-clause-read : goal.returns-clause-read
returns-clause-read c =
    let text = c.args.text.now in
    let left = c.args.bytes.now in
    let width = c.text_width.result in
    let byte = c.in-Some-byte.byte in
    let behind = c.in-Some.behind.now in
    let run_is : c.push_str.new.self ≡ text ++ chars (take width left) = c.in_ok-push_str.ensures.ok ∙ ap (λ (x : List ℕ). text ++ chars x) (c.from_utf8_unchecked.ensures ∙ c.split_at.ensures.front) in
    let low : byte < 128 = subst (λ (o : Option ℕ). IfSome o (λ b. b < 128)) c.in-Some-byte.is c.in-Some.ensures.ascii in
    let mark : mark_at (drop width left) ≡ Some (Some byte, behind) = ap mark_at (sym c.split_at.ensures.back) ∙ c.in-Some.ensures.read ∙ ap (λ (o : Option ℕ). Some (o, behind)) c.in-Some-byte.is in
    let more_is : c.push.new.self ≡ c.push_str.new.self ++ byte ∷ [] = c.in_ok-push.ensures.ok ∙ ap (λ (x : ℕ). c.push_str.new.self ++ x ∷ []) c.from.ensures in
    takes_more text left c.push_str.new.self c.push.new.self behind width byte c.text_width.ensures run_is low mark more_is
