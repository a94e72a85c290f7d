use Rattle.std.proofs.Common.{◌≡◌, ◌++◌, drop}
use Rattle.std.specs.Prelude.{string_bytes}
use Rattle.exi_lexical.specs.Binaries.{hex_text}
use Rattle.exi_evtext.specs.Kept.{Keeps}
use Rattle.exi_evtext.proofs.value.push_hex.Given as goal

abbrev pub invariant-loop-octet : goal.invariant-loop-octet
invariant-loop-octet l = record {
  done : string_bytes l.out ++ hex_text (drop l.octet-index l.octets) ≡ string_bytes l.fn.out ++ hex_text l.octets;
  kept : Keeps (string_bytes l.fn.out) (string_bytes l.out);
}
