-- Sequential processing does not look at what the options say of a schema.
use Rattle.std.proofs.Common.{◌≡◌, ℕ, List, [], ◌∷◌, refl, ap, ◌∙◌}
use Rattle.std.specs.Prelude.{Option, Result, Ok, Err}
use Rattle.exi_bits.specs.Bits.{Spot}
use Rattle.exi_bits.specs.Unsigned.{◌>>=◌}
use Rattle.exi_gram.specs.Codes.{code_at}
use Rattle.exi_gram.specs.Outlines.{Outline}
use Rattle.exi_gram.specs.Switches.{align_of}
use Rattle.exi_gram.specs.declared.options.Options.{Options}
use Rattle.exi_gram.specs.declared.options.SchemaWord.{SchemaWord}
use Rattle.exi_meter.specs.Metering.{stream_bounds}
use Rattle.exi_names.specs.Events.{Happening}
use Rattle.exi_opening.specs.Openings.{setting_by}
use Rattle.exi_processing.specs.Configurations.{Config, Setting, first_config, rules_of, spot_in}
use Rattle.exi_processing.specs.Contents.{attribute_value_at}
use Rattle.exi_processing.specs.OneEvent.{charge_at, followed, one}
use Rattle.exi_processing.specs.Plans.{Alone, alone_in, plan_of, plan_on}
use Rattle.exi_processing.specs.Rules.{Rule, Terminal, attribute, characters, comment, declaration, document_type, element, end_document, end_element, entity, instruction, self_contained, start_document}
use Rattle.exi_processing.specs.Runs.{IsRun, Leads, turned_by}
use Rattle.exi_processing.specs.declared.end.End.{End}
use Rattle.exi_processing.specs.declared.start.Start.TheVariants as start
use Rattle.exi_run.specs.declared.ending.Ending.{Ending}
use Rattle.exi_run.specs.Wholes.{IsBody}
use Rattle.exi_typed.specs.ReadStates.{Failure, failing}

-- a schema under options that say this of it
abbrev pub setting_told : Outline → Options → SchemaWord → Setting
setting_told s o word = setting_by s (record o { schema = word })

-- ---- one event
same_plan : (s : Outline) (o : Options) (word : SchemaWord) (bytes : List ℕ) (bit : ℕ) (a : Alone) (c d : Config) (r : Rule) (on : Terminal) → followed bytes bit (plan_on (setting_told s o word) a c r on) d ≡ followed bytes bit (plan_on (setting_by s o) a c r on) d
unfolding charge_at followed attribute_value_at
same_plan s o word bytes bit a c d r start_document = refl
same_plan s o word bytes bit a c d r end_document = refl
same_plan s o word bytes bit a c d r (element t) = refl
same_plan s o word bytes bit a c d r (attribute t v) = refl
same_plan s o word bytes bit a c d r (characters x) = refl
same_plan s o word bytes bit a c d r end_element = refl
same_plan s o word bytes bit a c d r declaration = refl
same_plan s o word bytes bit a c d r self_contained = refl
same_plan s o word bytes bit a c d r comment = refl
same_plan s o word bytes bit a c d r instruction = refl
same_plan s o word bytes bit a c d r document_type = refl
same_plan s o word bytes bit a c d r entity = refl

same_behind : (s : Outline) (o : Options) (word : SchemaWord) (bytes : List ℕ) (c : Config) (x : Result (Rule × Spot) Failure) → (x >>= λ chosen. followed bytes c.place (plan_of (setting_told s o word) c chosen.0) (record c { place = chosen.1.place })) ≡ (x >>= λ chosen. followed bytes c.place (plan_of (setting_by s o) c chosen.0) (record c { place = chosen.1.place }))
same_behind s o word bytes c (Ok y) = same_plan s o word bytes c.place (alone_in c.elements c.outer) c (record c { place = y.1.place }) y.0 y.0.on
same_behind s o word bytes c (Err e) = refl

same_one : (s : Outline) (o : Options) (word : SchemaWord) (bytes : List ℕ) (c : Config) → one (setting_told s o word) bytes c ≡ one (setting_by s o) bytes c
unfolding one
same_one s o word bytes c = same_behind s o word bytes c (failing c.meter (code_at (align_of o) (rules_of (setting_by s o) c) (spot_in bytes c)))

-- ---- one turn after another
same_leads : (s : Outline) (o : Options) (word : SchemaWord) (bytes : List ℕ) (first last : Config) (turns : List (Option Happening)) → Leads (setting_by s o) bytes first turns last → Leads (setting_told s o word) bytes first turns last
same_leads s o word bytes first last [] is = is
same_leads s o word bytes first last (e ∷ es) (next, at, more) = (next, ap (turned_by bytes first) (same_one s o word bytes first) ∙ at, same_leads s o word bytes next last es more)

same_run : (s : Outline) (o : Options) (word : SchemaWord) (bytes : List ℕ) (first : Config) (turns : List (Option Happening)) (e : End) → IsRun (setting_by s o) bytes first turns e → IsRun (setting_told s o word) bytes first turns e
same_run s o word bytes first turns e run = record {
  before = run.before;
  reached = run.reached;
  leads = same_leads s o word bytes first run.reached run.before run.leads;
  event = run.event;
  at_end = ap (turned_by bytes run.reached) (same_one s o word bytes run.reached) ∙ run.at_end;
  all = run.all;
}

-- the body has the same events and the same end
pub same_body : (s : Outline) (o : Options) (word : SchemaWord) (bytes : List ℕ) (n : ℕ) (es : List Happening) (e : Ending) → IsBody (record { setting = setting_by s o; bytes = bytes; body = n }) es e → IsBody (record { setting = setting_told s o word; bytes = bytes; body = n }) es e
same_body s o word bytes n es e (last, count, (turns, run, events, counted), is) = (last, count, (turns, same_run s o word bytes (first_config (setting_by s o) n start.Body stream_bounds) turns last run, events, counted), is)
