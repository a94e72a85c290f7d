use Rattle.std.proofs.Common.{◌≡◌, ◌∷◌, ◌<◌, ◌≤◌, ◌∙◌, [], ap, arith, length, refl, sym}
use Rattle.std.proofs.lemmas.Result.{err_from_is_err_and}
use Rattle.exi_draft.specs.Drafts.{draft_of}
use Rattle.exi_normal.specs.Normals.{number_of, with_one_list}
use Rattle.exi_normal.specs.Working.{found_none, work_of}
use Rattle.exi_normal.proofs.Topmost.{all_is, first_behind, normal_differs, normal_first_stop, normal_second_stop, normal_too_large, normal_whole, reached_is, second_behind}
use Rattle.exi_normal.proofs.Works.{number_few}
use Rattle.exi_normal.proofs.normal.Goals as goal

pub run-requires-clause-behind : goal.run-requires-clause-behind
run-requires-clause-behind c =
    first_behind c.add.new.self (with_one_list (0 ∷ []) found_none) (c.in_ok-add.ensures ∙ ap (with_one_list (0 ∷ [])) c.new-found.ensures) (omega arith)

pub returns-in_err-run : goal.returns-in_err-run
returns-in_err-run c =
    let p = err_from_is_err_and c.from_residual-in_err-run.result c.from_residual-in_err-run.ensures.1 in
    let d = draft_of c.args.proto.now in
    let n = draft_of c.in_ok-numbered.numbered.proto.now in
    let same = ap (λ z. (draft_of z).states) c.in_ok-numbered.ensures.proto in
    rw (p.1, p.2) (normal_first_stop d c.args.most _ c.in_err-run.field-0.0 (reached_is n d c.args.most (work_of c.new-found.result) (work_of c.add.new.self) _ same c.new-found.ensures c.in_ok-add.ensures refl) c.in_err-run.ensures.stop)

pub run-requires-2-clause-behind : goal.run-requires-2-clause-behind
run-requires-2-clause-behind c = second_behind c.run.new.self c.add-2.new.self (c.args.proto.now.content ∷ []) c.in_ok-run.ensures.behind c.in_ok-add-2.ensures

pub returns-in_err-run-2 : goal.returns-in_err-run-2
returns-in_err-run-2 c =
    let p = err_from_is_err_and c.from_residual-in_err-run-2.result c.from_residual-in_err-run-2.ensures.1 in
    let d = draft_of c.args.proto.now in
    let n = draft_of c.in_ok-numbered.numbered.proto.now in
    let same = ap (λ z. (draft_of z).states) c.in_ok-numbered.ensures.proto in
    let reached = reached_is n d c.args.most (work_of c.new-found.result) (work_of c.add.new.self) (work_of c.run.new.self) same c.new-found.ensures c.in_ok-add.ensures c.in_ok-run.ensures.work in
    let all = all_is n d c.args.most (work_of c.run.new.self) (work_of c.add-2.new.self) _ same reached c.in_ok-add-2.ensures refl in
    rw (p.1, p.2) (normal_second_stop d c.args.most _ c.in_err-run-2.field-0.0 all c.in_err-run-2.ensures.stop)

pub returns-then-count-most : goal.returns-then-count-most
returns-then-count-most c =
    let d = draft_of c.args.proto.now in
    let n = draft_of c.in_ok-numbered.numbered.proto.now in
    let same = ap (λ z. (draft_of z).states) c.in_ok-numbered.ensures.proto in
    let reached = reached_is n d c.args.most (work_of c.new-found.result) (work_of c.add.new.self) (work_of c.run.new.self) same c.new-found.ensures c.in_ok-add.ensures c.in_ok-run.ensures.work in
    let all = all_is n d c.args.most (work_of c.run.new.self) (work_of c.add-2.new.self) (work_of c.run-2.new.self) same reached c.in_ok-add-2.ensures c.in_ok-run-2.ensures.work in
    let many : c.args.most < length c.run-2.new.self.lists = omega (arith, c.if-count-most.true, c.count.ensures) in
    normal_too_large d c.args.most (work_of c.run-2.new.self) all many

pub returns-then-found : goal.returns-then-found
returns-then-found c =
    let d = draft_of c.args.proto.now in
    let n = draft_of c.in_ok-numbered.numbered.proto.now in
    let same = ap (λ z. (draft_of z).states) c.in_ok-numbered.ensures.proto in
    let reached = reached_is n d c.args.most (work_of c.new-found.result) (work_of c.add.new.self) (work_of c.run.new.self) same c.new-found.ensures c.in_ok-add.ensures c.in_ok-run.ensures.work in
    let all = all_is n d c.args.most (work_of c.run.new.self) (work_of c.add-2.new.self) (work_of c.run-2.new.self) same reached c.in_ok-add-2.ensures c.in_ok-run-2.ensures.work in
    let few : length c.run-2.new.self.lists ≤ c.args.most = omega (arith, c.if-count-most.false, c.count.ensures) in
    normal_differs d c.args.most (work_of c.run-2.new.self) all few c.if-found.true

pub overflow_cast-result : goal.overflow_cast-result
overflow_cast-result c =
    let lists = c.run-2.new.self.lists in
    let few = number_few (c.args.proto.now.content ∷ []) lists in
    let number : c.in_ok-content.content ≡ number_of (c.args.proto.now.content ∷ []) lists = c.in_ok-content.ensures.number in
    let f = c.ranges.most.fits in
    omega (arith, few, number, f, c.if-count-most.false, c.count.ensures)

pub returns : goal.returns
returns c =
    let d = draft_of c.args.proto.now in
    let n = draft_of c.in_ok-numbered.numbered.proto.now in
    let same = ap (λ z. (draft_of z).states) c.in_ok-numbered.ensures.proto in
    let reached = reached_is n d c.args.most (work_of c.new-found.result) (work_of c.add.new.self) (work_of c.run.new.self) same c.new-found.ensures c.in_ok-add.ensures c.in_ok-run.ensures.work in
    let all = all_is n d c.args.most (work_of c.run.new.self) (work_of c.add-2.new.self) (work_of c.run-2.new.self) same reached c.in_ok-add-2.ensures c.in_ok-run-2.ensures.work in
    let few : length c.run-2.new.self.lists ≤ c.args.most = omega (arith, c.if-count-most.false, c.count.ensures) in
    normal_whole d c.args.most c.in_ok-content.content (work_of c.run-2.new.self) all few c.if-found.false c.in_ok-content.ensures.number
