use Rattle.std.proofs.Common.{◌≡◌, drop, map}
use Rattle.clap.specs.Words.{app_of}
use Rattle.exi_words.specs.Tables.{with_flags}
use Rattle.exi_words.proofs.table.with_flags.Given as goal

abbrev pub invariant-loop-name : goal.invariant-loop-name
invariant-loop-name l = with_flags (map (λ n. n.now) (drop l.name-index l.names)) (app_of l.command) ≡ with_flags (map (λ n. n.now) l.fn.names) (app_of l.fn.command)
