-- The statuses: their numbers, and what sort of end each one is.
use Rattle.std.specs.Prelude.{◌≡◌, ℕ, ◌⊎◌}
use Rattle.exi_run.specs.declared.status.Status.{Status}
use Rattle.exi_run.specs.declared.status.Status.TheVariants as status

-- the number with which the program ends
abbrev pub number_of : Status → ℕ
number_of status.Ok = 0
number_of status.Fault = 1
number_of status.Usage = 2
number_of status.Schema = 3
number_of status.ReadFault = 4
number_of status.WriteFault = 5
number_of status.NoMemory = 6
number_of status.Events = 7
number_of status.Hints = 8
number_of status.TooLong = 9

-- a command did its work and told how it went, or was refused before it; or the output broke, or memory was wanting
pub data Sort : Type 0 where
  told : Sort
  refuses : Sort
  breaks : Sort
  starved : Sort

abbrev pub sort_of : Status → Sort
sort_of status.Ok = told
sort_of status.Fault = told
sort_of status.Usage = refuses
sort_of status.Schema = refuses
sort_of status.ReadFault = refuses
sort_of status.WriteFault = breaks
sort_of status.NoMemory = starved
sort_of status.Events = refuses
sort_of status.Hints = refuses
sort_of status.TooLong = refuses

abbrev pub IsTold : Status → Type 0
IsTold s = sort_of s ≡ told

-- this status, or one of the two that may come in its place
abbrev pub IsOr : Status → Status → Type 0
IsOr s result = (result ≡ s) ⊎ ((result ≡ status.WriteFault) ⊎ (result ≡ status.NoMemory))
