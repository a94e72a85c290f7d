-- A name that a production tells, by its reading: how the tables grow by it, and what it keeps.
use Rattle.std.proofs.Common.{◌≡◌, ◌≤◌, ◌+◌, ◌-◌, ◌^◌, ℕ, Bool, true, false, cond, List, [], length, Option, Some, Result, Ok, Err, sym, ap, ◌∙◌, arith}
use Rattle.std.specs.Prelude.{IfOk}
use Rattle.std.proofs.lemmas.Option.{get_or_from_slice_get}
use Rattle.exi_bits.specs.Bits.{Spot}
use Rattle.exi_bits.specs.Unsigned.{◌>>=◌}
use Rattle.exi_bits.specs.declared.fault.Fault.{Fault}
use Rattle.exi_bits.specs.declared.fault.Kind.TheVariants as kind
use Rattle.exi_bits.specs.declared.fault.Stop.{Stop}
use Rattle.exi_items.specs.Charges.{text_charge}
use Rattle.exi_bits.specs.declared.align.Align.{Align}
use Rattle.exi_gram.specs.Switches.{align_of, prefixes}
use Rattle.exi_meter.specs.Metering.{Metering, text_fits, with_text}
use Rattle.exi_tables.specs.Growth.{NoneLonger}
use Rattle.exi_tables.specs.Partitions.{Partitions, live_at, uris}
use Rattle.exi_typed.specs.Continues.{ReadsOn}
use Rattle.exi_typed.specs.Places.{text_in}
use Rattle.exi_typed.specs.ReadStates.{Failure, GoesOrStops, ReadState, failing, read_state}
use Rattle.exi_typed.specs.Strings.{Named, charged_at, name_under, placed_at}
use Rattle.exi_typed.proofs.Additions.{Adding, Grows, Within, chained_up, few_up, known_up, name_up, none_added, nothing_within, one_name, placed_up, under_up, up_within}
use Rattle.exi_typed.proofs.ContextItems.{told}
use Rattle.exi_typed.proofs.Goings.{chained_goes, known_goes, name_goes, placed_goes, under_goes}
use Rattle.exi_processing.specs.Configurations.{Setting}
use Rattle.exi_processing.specs.Contents.{told_name_at, under_at}
use Rattle.exi_processing.specs.Rules.{Telling, known, spelled, under}

abbrev local_alone : Adding
local_alone = record { uris = 0; locals = 1; prefixes = 0; values = 0 }

local_within : Within local_alone one_name
local_within = record { uris = omega arith; locals = omega arith; prefixes = omega arith; values = omega arith }

module _ (keep : Bool) (a : Align) (uri : ℕ) where
  behind_uri_up : Grows {X = Named} one_name (under_at keep a uri)
  unfolding under_at
  behind_uri_up x b d r = up_within local_alone one_name b.context.tables d.context.tables local_within
      (chained_up none_added local_alone (λ c. placed_at b.spot (live_at (uris c.context.tables) uri) c) (λ text c. name_under keep a uri text c) (λ y c. placed_up b.spot (live_at (uris c.context.tables) uri) y c) (λ text. under_up keep a uri text) x b d r)

  behind_uri_goes : ReadsOn {X = Named} (under_at keep a uri)
  unfolding under_at
  behind_uri_goes x b d r = chained_goes (λ c. placed_at b.spot (live_at (uris c.context.tables) uri) c) (λ text c. name_under keep a uri text c) (λ y c. placed_goes b.spot (live_at (uris c.context.tables) uri) y c) (λ text. under_goes keep a uri text) x b d r

told_up : (g : Setting) (t : Telling) → Grows {X = Named} one_name (told_name_at g t)
told_up g spelled x c d r = name_up (prefixes g.options) (align_of g.options) x c d r
told_up g (under uri) x c d r = behind_uri_up (prefixes g.options) (align_of g.options) uri x c d r
told_up g (known id) x c d r = up_within none_added one_name c.context.tables d.context.tables (nothing_within one_name) (known_up (prefixes g.options) (align_of g.options) id x c d r)

told_goes : (g : Setting) (t : Telling) → ReadsOn {X = Named} (told_name_at g t)
told_goes g spelled x c d r = name_goes (prefixes g.options) (align_of g.options) x c d r
told_goes g (under uri) x c d r = behind_uri_goes (prefixes g.options) (align_of g.options) uri x c d r
told_goes g (known id) x c d r = known_goes (prefixes g.options) (align_of g.options) id x c d r

-- ---- so there are few texts behind it
told_longer : (g : Setting) (t : Telling) (x : Named) (c d : ReadState) (most more : ℕ) → most + 1 ≤ more → told_name_at g t c ≡ told (x, d) → NoneLonger most c.context.tables → NoneLonger more d.context.tables
told_longer g t x c d most more le e few = few_up most 1 more one_name c.context.tables d.context.tables (omega arith) (omega arith) (omega arith) (omega arith) le (told_up g t x c d e) few

pub told_few : (g : Setting) (t : Telling) (x : Named) (c d : ReadState) → told_name_at g t c ≡ told (x, d) → NoneLonger (2 ^ 31 - 2) c.context.tables → NoneLonger (2 ^ 31) d.context.tables
told_few g t x c d e few = told_longer g t x c d (2 ^ 31 - 2) (2 ^ 31) (omega arith) e few

pub few_behind : {X : Type 0} (g : Setting) (t : Telling) (c k : ReadState) (m : Metering) (view : X → Named) (result : Result X Stop) → GoesOrStops (λ n. (view n, k)) m result (told_name_at g t c) → NoneLonger (2 ^ 31 - 2) c.context.tables → IfOk result (λ n. NoneLonger (2 ^ 31) k.context.tables)
few_behind g t c k m view (Ok x) h few = told_few g t (view x) c k h few
few_behind g t c k m view (Err e) h few = tt

-- and room for what may still be charged
pub told_roomy : (g : Setting) (t : Telling) (x : Named) (c d : ReadState) → told_name_at g t c ≡ told (x, d) → NoneLonger (2 ^ 31 - 2 ^ 28 - 2 + c.context.meter.used.text) c.context.tables → NoneLonger (2 ^ 31 - 2 ^ 28 + d.context.meter.used.text) d.context.tables
told_roomy g t x c d e few =
    let k = told_goes g t x c d e in
    let more : d.context.meter.used.text ≡ c.context.meter.used.text + k.units = ap (λ (m : Metering). m.used.text) k.meter in
    told_longer g t x c d (2 ^ 31 - 2 ^ 28 - 2 + c.context.meter.used.text) (2 ^ 31 - 2 ^ 28 + d.context.meter.used.text) (omega (arith, more)) e few

-- ---- a URI that the code told is charged
abbrev charged_text : List ℕ → Spot → Partitions → Metering → Result (List ℕ × ReadState) Failure
charged_text text s p m = Ok (text, read_state s m p)

abbrev paid : Metering → Result Metering Fault
paid m = Ok m

abbrev unpaid : ℕ → Result Metering Fault
unpaid bit = Err (record { kind = kind.TextLimit; bit = bit })

module _ (p : Partitions) (uri units : ℕ) (text : List ℕ) (s : Spot) (m : Metering) (there : Some text ≡ live_at (uris p) uri) (count : units ≡ length text) where
  placed_charge : placed_at s (live_at (uris p) uri) (read_state s m p) ≡ (failing m (text_charge units s.place m) >>= λ n. charged_text text s p n)
  unfolding charged_at
  placed_charge =
      ap (λ (o : Option (List ℕ)). placed_at s o (read_state s m p)) (sym there)
      ∙ ap (λ (u : ℕ). failing m (text_charge u s.place m) >>= λ n. charged_text text s p n) (sym count)

  charge_by : (b : Bool) → text_fits m units ≡ b → text_charge units s.place m ≡ cond b (paid (with_text m units)) (unpaid s.place)
  unfolding text_charge
  charge_by b e = ap (λ (z : Bool). cond z (paid (with_text m units)) (unpaid s.place)) e

  pub uri_charged : (n : Metering) → true ≡ text_fits m units → n ≡ with_text m units → placed_at s (live_at (uris p) uri) (read_state s m p) ≡ Ok (text_in (uris p) uri, read_state s n p)
  uri_charged n fits new =
      placed_charge
      ∙ (ap (λ (r : Result Metering Fault). failing m r >>= λ z. charged_text text s p z) (charge_by true (sym fits))
      ∙ (ap (λ (z : Metering). charged_text text s p z) (sym new)
      ∙ ap (λ (t : List ℕ). charged_text t s p n) (sym (get_or_from_slice_get (uris p) uri text [] (sym there)))))

  pub uri_uncharged : (n : Metering) (bit : ℕ) → false ≡ text_fits m units → n ≡ m → bit ≡ s.place → placed_at s (live_at (uris p) uri) (read_state s m p) ≡ Err (record { fault = record { kind = kind.TextLimit; bit = bit }; meter = n })
  uri_uncharged n bit fits new at =
      placed_charge
      ∙ (ap (λ (r : Result Metering Fault). failing m r >>= λ z. charged_text text s p z) (charge_by false (sym fits))
      ∙ (ap (λ (z : Metering). limited s.place z) (sym new)
      ∙ ap (λ (b : ℕ). limited b n) (sym at)))
    where
      limited : ℕ → Metering → Result (List ℕ × ReadState) Failure
      limited b z = Err (record { fault = record { kind = kind.TextLimit; bit = b }; meter = z })
