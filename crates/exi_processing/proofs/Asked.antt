-- What is spelled is read under any meter that takes its dues.
use Rattle.std.proofs.Common.{◌≡◌, ℕ, Bool, true, false, cond, List, [], ◌∷◌, Result, Ok, Err, refl, sym, ap, ◌∙◌}
use Rattle.exi_bits.specs.declared.fault.Fault.{Fault}
use Rattle.exi_bits.specs.Bits.{rest}
use Rattle.exi_meter.specs.Metering.{Metering}
use Rattle.exi_typed.proofs.ContextItems.{fine, told}
use Rattle.exi_processing.specs.Metered.{Due, Outcome, SpelledIsAsked, due_fits, limit_of, paying, with_due}
use Rattle.exi_processing.specs.OneEvent.{one}
use Rattle.exi_processing.specs.Plans.{Given}
use Rattle.exi_processing.proofs.EventOne.{spelled_is_one}
use Rattle.exi_processing.proofs.Metering.{one_is_metered}

-- what comes to an event has an outcome
outcome_there : (bit : ℕ) (ds : List Due) (m : Metering) (r : Result Outcome Fault) (given : Given) → paying bit ds m r ≡ told given → (o : Outcome) × (r ≡ fine o)
outcome_there bit [] m (Ok o) given e = (o, refl)
outcome_there bit [] m (Err f) given e = absurd cc
outcome_there bit (d ∷ ds) m r given e = by_fit (λ h. outcome_there bit ds (with_due d m) r given h) (due_fits d m) e
  where
    by_fit : (paying bit ds (with_due d m) r ≡ told given → (o : Outcome) × (r ≡ fine o))
        → (b : Bool) → cond b (paying bit ds (with_due d m) r) (Err (record { fault = record { kind = limit_of d; bit = bit }; meter = m })) ≡ told given → (o : Outcome) × (r ≡ fine o)
    by_fit more true h = more h
    by_fit more false h = absurd cc

pub spelled_is_asked : SpelledIsAsked
spelled_is_asked g bytes c given text more book at h e =
    let paid = one_is_metered g bytes c in
    let read : one g bytes c ≡ told given = spelled_is_one g bytes c given text more book at h e in
    let own : paying c.place paid.dues c.meter paid.rest ≡ told given = sym (paid.is c.meter) ∙ read in
    let o = outcome_there c.place paid.dues c.meter paid.rest given own in
    record {
      dues = paid.dues;
      outcome_is = o.0;
      is = λ m. paid.is m ∙ ap (λ (r : Result Outcome Fault). paying c.place paid.dues m r) o.1;
      own = ap (λ (r : Result Outcome Fault). paying c.place paid.dues c.meter r) (sym o.1) ∙ own;
    }
