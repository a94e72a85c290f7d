-- How many bits a number takes that tells so many values apart (EXI 1.0, section 7.1.9).
use Rattle.std.specs.Prelude.{ℕ, zero, suc, ◌+◌, ◌^◌, nat_le, if◌then◌else◌}

-- the least n from this one on with 2 ^ n at least the count, of so many that are tried
unfoldable pub width_from : ℕ → ℕ → ℕ → ℕ
width_from zero n count = n
width_from (suc tries) n count = if nat_le count (2 ^ n) then n else width_from tries (n + 1) count

-- the least n with 2 ^ n at least the count: 0 for one value, and for none
abbrev pub width_for : ℕ → ℕ
width_for count = width_from count 0 count
