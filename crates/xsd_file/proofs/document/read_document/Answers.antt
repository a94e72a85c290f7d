use Rattle.xsd_file.proofs.Found.{reads_behind}
use Rattle.xsd_file.proofs.document.read_document.Goals as goal

pub returns : goal.returns
returns c = reads_behind c.args.bytes.now c.in-Ok.header _ c.read_body.result c.in-Ok.ensures.read c.in_ok-book.ensures c.read_body.ensures
