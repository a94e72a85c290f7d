-- Bytes that spell events, and how many an event takes at most.
use Rattle.std.specs.Prelude.{◌≡◌, ℕ, ◌+◌, ◌*◌, ◌^◌, ◌<◌, List, [], ◌∷◌, length, Option, Some, None, ⊤}
use Rattle.exi_names.specs.Seen.{Value, Values, text, boolean, integer, decimal, float, moment, binary, items, name, no_more, and}
use Rattle.exi_names.specs.Events as event
use Rattle.exi_names.specs.declared.names.QName.{QName}
use Rattle.exi_tape.specs.Spelling.{spelled, spelled_all}
use Rattle.exi_tape.specs.Sound.{Sound}
use Rattle.exi_tape.specs.Reading.{read}

-- each of the events can be spelled, by less than 2 ^ 64 bytes
abbrev pub AllSound : List event.Happening → Type 0
AllSound [] = ⊤
AllSound (e ∷ es) = Sound e × (length (spelled e) < 2 ^ 64) × AllSound es

-- the bytes spell the events that are read from them, and nothing else
abbrev pub IsTape : List ℕ → Type 0
IsTape bs = bs ≡ spelled_all (read bs)

-- ---- how many bytes an event takes on a tape, at most: 64, and 64 for each value and list item of it, 8 for each
-- text, 4 for each character and 1 for each octet
abbrev pub text_weight : List ℕ → ℕ
text_weight t = 8 + 4 * length t

abbrev pub prefix_weight : Option (List ℕ) → ℕ
prefix_weight None = 0
prefix_weight (Some t) = text_weight t

abbrev pub name_weight : QName → ℕ
name_weight n = text_weight n.uri + text_weight n.local + prefix_weight n.prefix

abbrev mutual
  pub value_weight : Value → ℕ
  value_weight (text t) = 64 + text_weight t
  value_weight (boolean truth digit) = 64
  value_weight (integer n) = 64
  value_weight (decimal minus whole back) = 64
  value_weight (float mantissa exponent) = 64
  value_weight (moment m) = 64
  value_weight (binary hex octets) = 64 + length octets
  value_weight (items vs) = 64 + values_weight vs
  value_weight (name n) = 64 + name_weight n

  pub values_weight : Values → ℕ
  values_weight no_more = 0
  values_weight (and v vs) = value_weight v + values_weight vs

abbrev pub weight : event.Happening → ℕ
weight event.sd = 64
weight event.ed = 64
weight (event.se n) = 64 + name_weight n
weight event.ee = 64
weight (event.at n v) = 64 + name_weight n + value_weight v
weight (event.ch v) = 64 + value_weight v
weight (event.ns uri prefix element) = 64 + text_weight uri + text_weight prefix
weight (event.sc place) = 64
weight (event.cm t) = 64 + text_weight t
weight (event.pi target t) = 64 + text_weight target + text_weight t
weight (event.dt n public system t) = 64 + text_weight n + text_weight public + text_weight system + text_weight t
weight (event.er n) = 64 + text_weight n
