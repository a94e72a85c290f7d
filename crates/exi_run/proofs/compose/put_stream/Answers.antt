use Rattle.std.proofs.Common.{List, ℕ, [], ◌∷◌, subst}
use Rattle.exi_run.specs.Answers.{DidLast}
use Rattle.exi_run.proofs.Writes.{stream_is}
use Rattle.exi_run.proofs.compose.put_stream.Goals as goal

pub returns-clause-put : goal.returns-clause-put
returns-clause-put g c =
    subst (λ (b : List ℕ). DidLast (b ∷ []) c.put_bytes.result (g.O.Sink.taken c.args.out.now) (g.O.Sink.taken c.put_bytes.new.out))
    (stream_is c.bytes.result.now c.args.stream.now c.put_bytes.ensures.octets c.bytes.ensures.bits) c.put_bytes.ensures.put
