use Rattle.std.proofs.Common.{◌≡◌, ◌+◌, ◌-◌, List, OnOk, subst, arith}
use Rattle.exi_gram.specs.Books.{is_kept}
use Rattle.exi_gram.specs.Codes.{Second}
use Rattle.exi_gram.specs.Naming.{Entry}
use Rattle.exi_gram.specs.Tables.{with_seconds}
use Rattle.exi_gram.proofs.Leaving.{alone_told, group_told}
use Rattle.exi_gram.proofs.state.CodedState.push_part.Goals as goal

pub returns-then-part : goal.returns-then-part
returns-then-part c =
    let n : c.args.part.begin + c.args.part.count - c.args.part.begin ≡ c.args.part.count = omega arith in
    subst (λ (xs : List (Second Entry)). OnOk c.push_members.result (c.push_members.new.self ≡ with_seconds c.args.self.now xs)) (group_told (is_kept c.args.options.now) c.args.all.now c.args.part _ c.if-part.true n) c.push_members.ensures

pub returns-else-part : goal.returns-else-part
returns-else-part c =
    subst (λ (xs : List (Second Entry)). OnOk c.push_alone.result (c.push_alone.new.self ≡ with_seconds c.args.self.now xs)) (alone_told (is_kept c.args.options.now) c.args.all.now c.args.part c.index-all-begin.result c.if-part.false (c.requires.one c.if-part.false) c.requires.within c.index-all-begin.is) c.push_alone.ensures
