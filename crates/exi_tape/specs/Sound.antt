-- What the values of the code's types keep: texts of scalar values, and numbers of so many bits. All of it can be spelled.
use Rattle.std.specs.Prelude.{◌≡◌, ℕ, ℤ, ◌^◌, ◌<◌, List, length, true, false, Option, Some, None, encode_utf8_all, FitsSigned, ⊤}
use Rattle.std.specs.Str.{chars, is_utf8}
use Rattle.std.specs.Int.{w16, w64}
use Rattle.exi_names.specs.Wholes.{Number}
use Rattle.exi_names.specs.Seen.{Value, Values, text, boolean, integer, decimal, float, moment, binary, items, name, no_more, and}
use Rattle.exi_names.specs.Events as event
use Rattle.exi_names.specs.declared.names.QName.{QName}
use Rattle.exi_names.specs.declared.moment.Moment.{Moment}
use Rattle.exi_tape.specs.Spelling.{count_of}

abbrev pub SoundText : List ℕ → Type 0
SoundText t = (is_utf8 (encode_utf8_all t) ≡ true) × (chars (encode_utf8_all t) ≡ t) × (length (encode_utf8_all t) < 2 ^ 64)

abbrev pub SoundPrefix : Option (List ℕ) → Type 0
SoundPrefix None = ⊤
SoundPrefix (Some t) = SoundText t

abbrev pub SoundName : QName → Type 0
SoundName n = SoundText n.uri × SoundText n.local × SoundPrefix n.prefix

abbrev pub SoundFraction : Option ℕ → Type 0
SoundFraction None = ⊤
SoundFraction (Some n) = n < 2 ^ 128

abbrev pub SoundZone : Option ℤ → Type 0
SoundZone None = ⊤
SoundZone (Some z) = FitsSigned w16 z

abbrev pub SoundMoment : Moment → Type 0
SoundMoment m = FitsSigned w64 m.year × SoundFraction m.fraction × SoundZone m.zone

-- there is no minus zero
abbrev pub SoundNumber : Number → Type 0
SoundNumber n = (n.size < 2 ^ 128) × (n.size ≡ 0 → n.minus ≡ false)

abbrev mutual
  pub SoundValue : Value → Type 0
  SoundValue (text t) = SoundText t
  SoundValue (boolean truth digit) = ⊤
  SoundValue (integer n) = SoundNumber n
  SoundValue (decimal minus whole back) = (whole < 2 ^ 128) × (back < 2 ^ 128)
  SoundValue (float mantissa exponent) = FitsSigned w64 mantissa × FitsSigned w16 exponent
  SoundValue (moment m) = SoundMoment m
  SoundValue (binary hex octets) = length octets < 2 ^ 64
  SoundValue (items vs) = (count_of vs < 2 ^ 64) × SoundValues vs
  SoundValue (name n) = SoundName n

  pub SoundValues : Values → Type 0
  SoundValues no_more = ⊤
  SoundValues (and v vs) = SoundValue v × SoundValues vs

abbrev pub Sound : event.Happening → Type 0
Sound event.sd = ⊤
Sound event.ed = ⊤
Sound (event.se n) = SoundName n
Sound event.ee = ⊤
Sound (event.at n v) = SoundName n × SoundValue v
Sound (event.ch v) = SoundValue v
Sound (event.ns uri prefix element) = SoundText uri × SoundText prefix
Sound (event.sc place) = place < 2 ^ 64
Sound (event.cm t) = SoundText t
Sound (event.pi target t) = SoundText target × SoundText t
Sound (event.dt n public system t) = SoundText n × SoundText public × SoundText system × SoundText t
Sound (event.er n) = SoundText n

abbrev pub SoundList : Values → Type 0
SoundList vs = (count_of vs < 2 ^ 64) × SoundValues vs
