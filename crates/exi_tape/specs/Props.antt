-- What events and values keep is a fact: there is one proof of it at most.
use Rattle.std.specs.Prelude.{ℕ, ℤ, List, [], ◌∷◌, Option, Some, None}
use Rattle.std.proofs.Props.{props}
use Rattle.exi_names.specs.Wholes.{Number}
use Rattle.exi_names.specs.Seen.{Value, Values, text, boolean, integer, decimal, float, moment, binary, items, name, no_more, and}
use Rattle.exi_names.specs.Events as event
use Rattle.exi_names.specs.declared.names.QName.{QName}
use Rattle.exi_names.specs.declared.moment.Moment.{Moment}
use Rattle.exi_tape.specs.Sound.{SoundText, SoundPrefix, SoundName, SoundFraction, SoundZone, SoundMoment, SoundNumber, SoundValue, SoundValues, Sound}
use Rattle.exi_tape.specs.Tapes.{AllSound}

SoundText-prop : (t : List ℕ) → IsProp (SoundText t)
SoundText-prop t = Prim.hlevel props

SoundPrefix-prop : (p : Option (List ℕ)) → IsProp (SoundPrefix p)
SoundPrefix-prop None = Prim.hlevel props
SoundPrefix-prop (Some t) = SoundText-prop t

SoundName-prop : (n : QName) → IsProp (SoundName n)
SoundName-prop n = Prim.hlevel (props, SoundPrefix-prop)

SoundFraction-prop : (f : Option ℕ) → IsProp (SoundFraction f)
SoundFraction-prop None = Prim.hlevel props
SoundFraction-prop (Some n) = Prim.hlevel props

SoundZone-prop : (z : Option ℤ) → IsProp (SoundZone z)
SoundZone-prop None = Prim.hlevel props
SoundZone-prop (Some z) = Prim.hlevel props

SoundMoment-prop : (m : Moment) → IsProp (SoundMoment m)
SoundMoment-prop m = Prim.hlevel (props, SoundFraction-prop, SoundZone-prop)

SoundNumber-prop : (n : Number) → IsProp (SoundNumber n)
SoundNumber-prop n = Prim.hlevel props

mutual
  SoundValue-prop : (v : Value) → IsProp (SoundValue v)
  SoundValue-prop (text t) = SoundText-prop t
  SoundValue-prop (boolean a b) = Prim.hlevel props
  SoundValue-prop (integer n) = SoundNumber-prop n
  SoundValue-prop (decimal a m n) = Prim.hlevel props
  SoundValue-prop (float m e) = Prim.hlevel props
  SoundValue-prop (moment m) = SoundMoment-prop m
  SoundValue-prop (binary a o) = Prim.hlevel props
  SoundValue-prop (items vs) = let all = SoundValues-prop vs in Prim.hlevel (props, all)
  SoundValue-prop (name n) = SoundName-prop n

  SoundValues-prop : (vs : Values) → IsProp (SoundValues vs)
  SoundValues-prop no_more = Prim.hlevel props
  SoundValues-prop (and v vs) = let one = SoundValue-prop v in let all = SoundValues-prop vs in Prim.hlevel (props, one, all)

Sound-prop : (e : event.Happening) → IsProp (Sound e)
Sound-prop event.sd = Prim.hlevel props
Sound-prop event.ed = Prim.hlevel props
Sound-prop (event.se n) = SoundName-prop n
Sound-prop event.ee = Prim.hlevel props
Sound-prop (event.at n v) = let one = SoundName-prop n in let two = SoundValue-prop v in Prim.hlevel (props, one, two)
Sound-prop (event.ch v) = SoundValue-prop v
Sound-prop (event.ns u p e) = Prim.hlevel props
Sound-prop (event.sc n) = Prim.hlevel props
Sound-prop (event.cm t) = SoundText-prop t
Sound-prop (event.pi a b) = Prim.hlevel props
Sound-prop (event.dt a b c d) = Prim.hlevel props
Sound-prop (event.er t) = SoundText-prop t

pub AllSound-prop : (es : List event.Happening) → IsProp (AllSound es)
AllSound-prop [] = Prim.hlevel props
AllSound-prop (e ∷ es) = let one = Sound-prop e in let all = AllSound-prop es in Prim.hlevel (props, one, all)
