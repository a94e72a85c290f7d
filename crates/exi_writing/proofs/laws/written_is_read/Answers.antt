use Rattle.exi_writing.proofs.Runs.{Laws, list_read, one_read}
use Rattle.exi_writing.proofs.laws.written_is_read.Goals as goal

pub returns : goal.returns
returns c =
    let laws : Laws = record { spelled = c.one_is_spelled.ensures.law; read = c.spelled_is_one.ensures.law; most = c.one_at_most.ensures.law } in
    record { one = one_read laws; list = list_read laws }
