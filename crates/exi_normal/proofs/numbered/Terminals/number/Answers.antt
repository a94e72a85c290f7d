use Rattle.std.proofs.Common.{◌∙◌, ap, map}
use Rattle.exi_gram.specs.Terminals.{symbol}
use Rattle.exi_normal.specs.Normals.{same_symbol}
use Rattle.exi_normal.specs.Steps.{key_symbol}
use Rattle.exi_normal.proofs.Works.{put_keys, put_place}
use Rattle.exi_normal.proofs.numbered.Terminals.number.Goals as goal

pub returns-clause-number : goal.returns-clause-number
returns-clause-number c = c.in_ok-number.ensures.index ∙ put_place key_symbol (same_symbol (symbol c.args.terminal.now)) c.args.self.now.keys.keys

pub returns-clause-symbols : goal.returns-clause-symbols
returns-clause-symbols c =
    ap (map key_symbol) c.in_ok-number.ensures.keys ∙ put_keys key_symbol (same_symbol (symbol c.args.terminal.now)) c.args.self.now.keys.keys (record { terminal = c.args.terminal })
