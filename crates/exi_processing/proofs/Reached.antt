-- The first configuration is sound, and so is each that turns lead to.
use Rattle.std.proofs.Common.{◌≡◌, inl, ℕ, Bool, true, false, List, [], ◌∷◌, Option, refl, subst, arith}
use Rattle.std.proofs.lemmas.List.Elements.{All-nil}
use Rattle.exi_builtin.specs.Learning.{nothing_learned}
use Rattle.exi_gram.specs.Switches.{fragment}
use Rattle.exi_names.specs.Events.{Happening}
use Rattle.exi_names.specs.StartTables.{IsStart}
use Rattle.exi_tables.specs.Partitions.{Partitions}
use Rattle.exi_typed.proofs.Goings.{same_keeps}
use Rattle.exi_processing.specs.Configurations.{Config, IsSetting, Setting, body_outer, first_outer, first_tables}
use Rattle.exi_processing.specs.OneEvent.{one}
use Rattle.exi_processing.specs.Runs.{Leads, first}
use Rattle.exi_processing.specs.Sound.{FirstIsSound, IsElementOfName, IsOuter, IsSound, IsSoundAside, IsSoundElement, IsSoundGrammar, ReachedAreSound, levels_in}
use Rattle.exi_processing.specs.declared.start.Start.{Start}
use Rattle.exi_processing.specs.declared.start.Start.TheVariants as start
use Rattle.exi_processing.proofs.Sequences.{by_result}
use Rattle.exi_processing.proofs.Soundness.{levels_none, steps_keep_sound}

-- ---- the first configuration
body_is_outer : (g : Setting) (known is_fragment : Bool) → g.schema.known ≡ known → IsOuter g (body_outer known is_fragment)
body_is_outer g known false k = inl refl
body_is_outer g true true k = (refl, k, inl refl)
body_is_outer g false true k = k

first_is_outer : (g : Setting) (s : Start) → IsOuter g (first_outer g s)
first_is_outer g start.Body = body_is_outer g g.schema.known (fragment g.options) refl
first_is_outer g (start.Fragment byte) = tt

pub first_is_sound : FirstIsSound
first_is_sound j s limits names =
    let p : Partitions = first_tables j.setting in
    let n : levels_in [] (first_outer j.setting s) ≡ 0 = levels_none (first_outer j.setting s) in
    record {
      body = record {
        kept = same_keeps p;
        learned = record { grammars = All-nil (IsSoundGrammar p); fragment = All-nil (IsElementOfName p) };
        elements = All-nil (IsSoundElement j.setting p nothing_learned);
        outside = λ some. absurd (some refl);
        outer_is = first_is_outer j.setting s;
      };
      level = omega (arith, n);
      after_start = λ e. absurd cc;
      aside = All-nil (IsSoundAside j.setting);
    }

-- ---- what is reached
led_sound : (g : Setting) (bytes : List ℕ) (turns : List (Option Happening)) (c last : Config) → IsSetting g → IsStart g.schema.names → IsSound g c → Leads g bytes c turns last → IsSound g last
led_sound g bytes [] c last setting names s l = subst (λ (z : Config). IsSound g z) l s
led_sound g bytes (e ∷ turns) c last setting names s l = led_sound g bytes turns l.0 last setting names (steps_keep_sound g bytes c l.0 e setting names s (by_result bytes c (one g bytes c) e l.0 l.1)) l.2

pub reached_are_sound : ReachedAreSound
reached_are_sound j s limits turns last setting names l = led_sound j.setting j.bytes turns (first j s limits) last setting names (first_is_sound j s limits names) l
