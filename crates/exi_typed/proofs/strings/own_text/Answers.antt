use Rattle.std.proofs.Common.{◌≡◌, ℕ, Option, Some, None, Result, Ok, Err, IfNone, IsErr, refl, sym, true≢false, ap, ◌∙◌, cond, ltb, arith}
use Rattle.std.proofs.lemmas.Bool.{le-ltb}
use Rattle.std.specs.Option.{option_and_then, option_map}
use Rattle.std.specs.Prelude.{slice_get, unwrap_or}
use Rattle.exi_bits.specs.declared.align.Align.{Align}
use Rattle.exi_bits.specs.declared.fault.Fault.{Fault}
use Rattle.exi_bits.specs.declared.fault.Kind.{Kind}
use Rattle.exi_bits.specs.declared.fault.Kind.TheVariants as kind
use Rattle.exi_bits.specs.Bits.{Spot}
use Rattle.exi_bits.specs.Unsigned.{◌>>=◌, below_at, fault_at, field_at}
use Rattle.exi_bits.specs.Widths.{width_for}
use Rattle.exi_names.specs.declared.names.NameId.{NameId}
use Rattle.exi_tables.specs.Partitions.{Partitions}
use Rattle.exi_tables.specs.Values.{name_place}
use Rattle.exi_typed.specs.ReadStates.{ReadState, at_spot_of, failing}
use Rattle.exi_typed.specs.Strings.{Partition, hit_at, own_values, placed_at}
use Rattle.exi_typed.proofs.strings.own_text.Goals as goal

-- no place is below 0
none_below : (a : Align) (k : Kind) (s : Spot) → IsErr (below_at 0 a k s)
unfolding below_at
none_below a k s = by (field_at (width_for 0) a s)
  where
    by : (r : Result (ℕ × Spot) Fault) → IsErr (r >>= λ found. cond (ltb found.0 0) (Ok found) (fault_at k s))
    by (Ok found) = rw (le-ltb found.0 0 (omega arith)) refl
    by (Err f) = refl

-- so nothing is hit where there are no places
none_hit : (a : Align) (p : Partition) (c : ReadState) → p.count ≡ 0 → IsErr (hit_at a p c)
unfolding hit_at
none_hit a p c none = by (below_at p.count a kind.BadPlace c.spot) (rw none (none_below a kind.BadPlace c.spot))
  where
    by : (r : Result (ℕ × Spot) Fault) → IsErr r → IsErr (failing c.context.meter r >>= λ place. placed_at c.spot (p.text_at place.0) (at_spot_of c place.1))
    by (Ok place) h = absurd (true≢false (sym h))
    by (Err f) h = refl

none_given : (name : NameId) (p : Partitions) → name_place name p.values.given ≡ None → (own_values p name).count ≡ 0
none_given name p e = ap (λ place. unwrap_or (option_map (λ g. g.count) (option_and_then (slice_get p.values.given) place)) 0) e

if_none : {T : Type 0} (o : Option T) (P : Type 0) → P → IfNone o P
if_none None P p = p
if_none (Some x) P p = tt

pub returns-in_err-number-clause-none : goal.returns-in_err-number-clause-none
returns-in_err-number-clause-none g c =
    let tables = g.T.Tables.held c.args.tables.now in
    if_none c.from_residual.result _ (none_hit c.args.align (own_values tables c.args.name) _ (none_given c.args.name tables (sym c.own_number.ensures ∙ c.in_err-number.was)))
