-- A word's octets, looked at all at once.
use Rattle.std.specs.Prelude.{◌==◌, ℕ, ◌-◌, ◌/◌, ◌%◌, Bool, ◌&&◌}

-- none of them has its top bit
abbrev pub no_tops : ℕ → Bool
no_tops w = w / 0x80 % 2 == 0 && w / 0x8000 % 2 == 0 && w / 0x800000 % 2 == 0 && w / 0x80000000 % 2 == 0
    && w / 0x8000000000 % 2 == 0 && w / 0x800000000000 % 2 == 0 && w / 0x80000000000000 % 2 == 0 && w / 0x8000000000000000 % 2 == 0

-- each is surely plain, from 20 to 7F: without its top bit, and without it where it is taken from 9F
abbrev pub is_plain_word : ℕ → Bool
is_plain_word w = no_tops w && no_tops (0x9F9F9F9F9F9F9F9F - w)
