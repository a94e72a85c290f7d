-- What is handed on behind a code, and where what takes the events stopped.
use Rattle.std.proofs.Common.{◌≡◌, inl, inr, ℕ, List, [], ◌∷◌, Option, Some, None, Result, Ok, Err, refl, ap, ◌∙◌}
use Rattle.std.specs.Result.{IsErrOf}
use Rattle.exi_bits.specs.declared.fault.Fault.{Fault}
use Rattle.exi_names.specs.Events.{Happening}
use Rattle.exi_names.specs.declared.stops.PushStop.{PushStop}
use Rattle.exi_names.specs.declared.stops.PushStop.TheVariants as push
use Rattle.exi_typed.specs.ReadStates.{Failure}
use Rattle.exi_processing.specs.Configurations.{Config}
use Rattle.exi_processing.specs.Handing.{Hands, HandsAny, HandsFragment, Standing, push_halt}
use Rattle.exi_processing.specs.OneEvent.{at_event, moved_limit}
use Rattle.exi_processing.specs.Plans.{Given}
use Rattle.exi_processing.specs.declared.halt.Halt.TheVariants as halt

module _ {T : Type 0} (took : T → List Happening → T → Type 0) (broke : T → Happening → T → Type 0) (bit : ℕ) (made read : Result Given Failure) (is : read ≡ at_event bit made) (before after : T) where
  pub hands_none : (c : Config) → Hands took broke (Ok tt) c made before after → Hands took broke (Ok tt) c read before after
  hands_none c h = (h.0, is ∙ ap (at_event bit) h.1, h.2, h.3)

  pub hands_some : (byte : ℕ) (s : Standing) → HandsFragment took broke (Ok byte) s made before after → HandsFragment took broke (Ok byte) s read before after
  hands_some byte s h = (is ∙ ap (at_event bit) h.0, h.1)

  pub hands_ok : (x : Option ℕ) (s : Standing) → HandsAny took broke (Ok x) s made before after → HandsAny took broke (Ok x) s read before after
  hands_ok None s h = hands_none s.config h
  hands_ok (Some byte) s h = hands_some byte s h

  pub hands_fault : (f : Fault) (c : Config) → Hands took broke (Err (halt.Fault f)) c made before after → Hands took broke (Err (halt.Fault (moved_limit bit f))) c read before after
  hands_fault f c h = (is ∙ ap (at_event bit) h.0, h.1)

  pub hands_memory : (c : Config) → Hands took broke (Err halt.Memory) c made before after → Hands took broke (Err halt.Memory) c read before after
  hands_memory c (inl t) = inl t
  hands_memory c (inr h) = inr (h.0, h.1, is ∙ ap (at_event bit) h.2, h.3)

  pub hands_stopped : (c : Config) → Hands took broke (Err halt.Stopped) c made before after → Hands took broke (Err halt.Stopped) c read before after
  hands_stopped c h = (h.0, h.1, is ∙ ap (at_event bit) h.2, h.3)

-- what takes the events stopped, at this event
pub see_stops : {T : Type 0} (took : T → List Happening → T → Type 0) (broke : T → Happening → T → Type 0) (e : PushStop) (s : Standing) (read : Result Given Failure) (event_is : Happening) (next : Config) (before after : T) → read ≡ Ok (Some event_is, next) → (IsErrOf {T = Unit {0}} (Err e) push.Memory → took before [] after) → (IsErrOf {T = Unit {0}} (Err e) push.Stopped → broke before event_is after) → HandsAny took broke (Err (push_halt e)) s read before after
see_stops took broke push.Memory s read event_is next before after is m b = inl (m refl)
see_stops took broke push.Stopped s read event_is next before after is m b = (event_is, next, is, b refl)
