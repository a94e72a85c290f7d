use Rattle.std.proofs.Common.{◌≡◌, ◌+◌, ◌*◌, ◌++◌, drop, length, take}
use Rattle.exi_lexical.specs.Binaries.{hex_text}
use Rattle.exi_evtext.proofs.lay_value.lay_digits.Given as goal

abbrev pub invariant-loop-octet : goal.invariant-loop-octet
invariant-loop-octet l = record {
  behind : l.end ≡ l.fn.at + 2 * l.octet-index;
  len : length l.room ≡ length l.fn.room;
  done : take l.end l.room ++ hex_text (drop l.octet-index l.octets) ≡ take l.fn.at l.fn.room ++ hex_text l.octets;
}
