use Rattle.std.proofs.Common.{◌≡◌, ◌≢◌, ◌<◌, ◌≤◌, ℕ, true, get_or}
use Rattle.exi_text.proofs.set.are_common.Given as goal

abbrev pub invariant-loop-octet : goal.invariant-loop-octet
invariant-loop-octet l = l.all ≡ true → (i : ℕ) → i < l.octet-index → (0x20 ≤ get_or l.octets i 0) × (get_or l.octets i 0 ≢ 0xEF)
