-- One event of a list is written by the production that is chosen for it.
use Rattle.std.proofs.Common.{◌≡◌, ℕ, Bool, true, false, cond, sym, ap, subst}
use Rattle.std.specs.Prelude.{Result, Ok, Err}
use Rattle.exi_names.specs.Events.{Happening}
use Rattle.exi_names.specs.Events as event
use Rattle.exi_names.specs.Seen.{Value}
use Rattle.exi_names.specs.declared.names.QName.{QName}
use Rattle.exi_processing.specs.Configurations.{Config, Setting}
use Rattle.exi_processing.specs.Runs.{has_ended}
use Rattle.exi_writing.specs.OneEvent.{Refused, Written, not_derived, written}
use Rattle.exi_writing.specs.Pruned.{pruned_name, pruned_value}
use Rattle.exi_toll.specs.declared.stop.PutStop.{PutStop}
use Rattle.exi_toll.specs.declared.stop.PutStop.TheVariants as stop
use Rattle.exi_pen.specs.Pages.{Page, Writes, WritesFragment, by_chosen}
use Rattle.exi_pen.specs.Steps.{StepsAs, begins_fragment, left_of}

written_is : (g : Setting) (c : Config) (e : Happening) → has_ended c ≡ false → by_chosen g c e ≡ written g c e
unfolding written
written_is g c e h = ap (λ (ended : Bool). cond ended (Err not_derived) (by_chosen g c e)) (sym h)

-- ---- an event that is no SC
pub plain_ok : (x : Unit {0}) (old new : Page) (e : Happening) → has_ended old.config ≡ false → begins_fragment e ≡ false
    → Writes {X = Unit {0}} (Ok x) old new (by_chosen old.setting old.config (left_of old.setting.options e))
    → StepsAs (begins_fragment e) (Ok false) old new (written old.setting old.config (left_of old.setting.options e))
plain_ok x old new e going plain k =
    let w = written_is old.setting old.config (left_of old.setting.options e) going in
    subst (λ (b : Bool). StepsAs b (Ok false) old new (written old.setting old.config (left_of old.setting.options e))) (sym plain)
    (subst (λ (r : Result Written Refused). Writes {X = Unit {0}} (Ok x) old new r) w k)

stops_any : (X Y : Type 0) (stopped : PutStop) (old new : Page) (r : Result Written Refused) → Writes {X = X} (Err stopped) old new r → Writes {X = Y} (Err stopped) old new r
stops_any X Y stop.NotDerived old new r h = h
stops_any X Y (stop.Limit k) old new r h = h
stops_any X Y stop.Memory old new r h = tt

pub plain_err : (stopped : PutStop) (old new : Page) (e : Happening) → has_ended old.config ≡ false → begins_fragment e ≡ false
    → Writes {X = Unit {0}} (Err stopped) old new (by_chosen old.setting old.config (left_of old.setting.options e))
    → StepsAs (begins_fragment e) (Err stopped) old new (written old.setting old.config (left_of old.setting.options e))
plain_err stopped old new e going plain k =
    let w = written_is old.setting old.config (left_of old.setting.options e) going in
    subst (λ (b : Bool). StepsAs b (Err stopped) old new (written old.setting old.config (left_of old.setting.options e))) (sym plain)
    (stops_any (Unit {0}) Bool stopped old new (written old.setting old.config (left_of old.setting.options e)) (subst (λ (r : Result Written Refused). Writes {X = Unit {0}} (Err stopped) old new r) w k))

-- ---- SC
fragments_any : (X Y : Type 0) (stopped : PutStop) (old new : Page) (r : Result Written Refused) → WritesFragment {X = X} (Err stopped) old new r → WritesFragment {X = Y} (Err stopped) old new r
fragments_any X Y stop.NotDerived old new r h = h
fragments_any X Y (stop.Limit k) old new r h = h
fragments_any X Y stop.Memory old new r h = tt

fragment_by : (P : Result Written Refused → Type 0) (old : Page) (byte : ℕ) → has_ended old.config ≡ false → P (by_chosen old.setting old.config (event.sc byte)) → P (written old.setting old.config (event.sc byte))
fragment_by P old byte going k = subst P (written_is old.setting old.config (event.sc byte) going) k

pub fragment_ok : (x : Unit {0}) (old new : Page) (e : Happening) → has_ended old.config ≡ false → begins_fragment e ≡ true
    → ((byte : ℕ) → WritesFragment {X = Unit {0}} (Ok x) old new (by_chosen old.setting old.config (event.sc byte)))
    → StepsAs (begins_fragment e) (Ok true) old new (written old.setting old.config (left_of old.setting.options e))
fragment_ok x old new (event.sc byte) going h k = fragment_by (λ r. WritesFragment {X = Unit {0}} (Ok x) old new r) old byte going (k byte)
fragment_ok x old new event.sd going h k = absurd cc
fragment_ok x old new event.ed going h k = absurd cc
fragment_ok x old new (event.se n) going h k = absurd cc
fragment_ok x old new event.ee going h k = absurd cc
fragment_ok x old new (event.at n v) going h k = absurd cc
fragment_ok x old new (event.ch v) going h k = absurd cc
fragment_ok x old new (event.ns uri prefix own) going h k = absurd cc
fragment_ok x old new (event.cm t) going h k = absurd cc
fragment_ok x old new (event.pi target t) going h k = absurd cc
fragment_ok x old new (event.dt n public system t) going h k = absurd cc
fragment_ok x old new (event.er n) going h k = absurd cc

pub fragment_err : (stopped : PutStop) (old new : Page) (e : Happening) → has_ended old.config ≡ false → begins_fragment e ≡ true
    → ((byte : ℕ) → WritesFragment {X = Unit {0}} (Err stopped) old new (by_chosen old.setting old.config (event.sc byte)))
    → StepsAs (begins_fragment e) (Err stopped) old new (written old.setting old.config (left_of old.setting.options e))
fragment_err stopped old new (event.sc byte) going h k =
    fragments_any (Unit {0}) Bool stopped old new (written old.setting old.config (event.sc byte)) (fragment_by (λ r. WritesFragment {X = Unit {0}} (Err stopped) old new r) old byte going (k byte))
fragment_err stopped old new event.sd going h k = absurd cc
fragment_err stopped old new event.ed going h k = absurd cc
fragment_err stopped old new (event.se n) going h k = absurd cc
fragment_err stopped old new event.ee going h k = absurd cc
fragment_err stopped old new (event.at n v) going h k = absurd cc
fragment_err stopped old new (event.ch v) going h k = absurd cc
fragment_err stopped old new (event.ns uri prefix own) going h k = absurd cc
fragment_err stopped old new (event.cm t) going h k = absurd cc
fragment_err stopped old new (event.pi target t) going h k = absurd cc
fragment_err stopped old new (event.dt n public system t) going h k = absurd cc
fragment_err stopped old new (event.er n) going h k = absurd cc

-- ---- names as they are handed over
pub shown_element : (r : Result (Unit {0}) PutStop) (old new : Page) (e : Happening) (n shown : QName) → e ≡ event.se n → shown ≡ n
    → Writes {X = Unit {0}} r old new (by_chosen old.setting old.config (event.se (pruned_name old.setting.options shown)))
    → Writes {X = Unit {0}} r old new (by_chosen old.setting old.config (left_of old.setting.options e))
shown_element r old new e n shown h f k =
    subst (λ (z : Happening). Writes {X = Unit {0}} r old new (by_chosen old.setting old.config (left_of old.setting.options z))) (sym h)
    (subst (λ (x : QName). Writes {X = Unit {0}} r old new (by_chosen old.setting old.config (event.se (pruned_name old.setting.options x)))) f k)

pub shown_attribute : (r : Result (Unit {0}) PutStop) (old new : Page) (e : Happening) (n shown : QName) (v : Value) → e ≡ event.at n v → shown ≡ n
    → Writes {X = Unit {0}} r old new (by_chosen old.setting old.config (event.at (pruned_name old.setting.options shown) (pruned_value old.setting.options v)))
    → Writes {X = Unit {0}} r old new (by_chosen old.setting old.config (left_of old.setting.options e))
shown_attribute r old new e n shown v h f k =
    subst (λ (z : Happening). Writes {X = Unit {0}} r old new (by_chosen old.setting old.config (left_of old.setting.options z))) (sym h)
    (subst (λ (x : QName). Writes {X = Unit {0}} r old new (by_chosen old.setting old.config (event.at (pruned_name old.setting.options x) (pruned_value old.setting.options v)))) f k)
