use Rattle.exi_header.proofs.Marks.{marks_told, marks_untold, put_is}
use Rattle.exi_header.proofs.write.put_marks.Goals as goal
use Rattle.exi_header.proofs.write.put_marks.Goals.{else-told, then-told}

pub returns : goal.returns
returns c = elim c.if-told.branch [
  | then-told w ↦ put_is c.put.result c.args.out.now c.put.new.self c.if-told.marks c.args.told (marks_told c.args.told c.if-told.marks w.if-told.true w.marks-is) c.put.ensures.ok
  | else-told w ↦ put_is c.put.result c.args.out.now c.put.new.self c.if-told.marks c.args.told (marks_untold c.args.told c.if-told.marks w.if-told.false w.marks-is) c.put.ensures.ok
]
