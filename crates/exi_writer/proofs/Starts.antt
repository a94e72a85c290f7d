-- Where writing begins.
use Rattle.std.proofs.Common.{◌≡◌, ℕ, ◌+◌, ◌*◌, ◌/◌, ◌%◌, List, [], ◌∷◌, length, Bool, false, refl, sym, ap, ◌∙◌, subst, arith}
use Rattle.std.specs.Prelude.{Result, Ok, Err}
use Rattle.std.proofs.lemmas.List.{length-append, length-replicate}
use Rattle.exi_bits.specs.Bits.{bits}
use Rattle.exi_bits.specs.Written.{IsWholeBytes, padded, to_byte, zeros}
use Rattle.exi_bits.proofs.BitLaws.{length-bits}
use Rattle.exi_gram.specs.Switches.{align_of}
use Rattle.exi_meter.specs.Metering.{Bounds, IsWithinStream}
use Rattle.exi_names.specs.Events as event
use Rattle.exi_names.specs.declared.names.QName.{QName}
use Rattle.exi_names.specs.StartTables.{IsStart}
use Rattle.exi_pen.specs.Pages.{Page, StartsAt, first_page}
use Rattle.exi_processing.specs.Configurations.{IsSetting, Setting, first_place}
use Rattle.exi_processing.specs.declared.start.Start.{Start}
use Rattle.exi_processing.specs.declared.start.Start.TheVariants as start
use Rattle.exi_tables.proofs.Sound.{first_sound}
use Rattle.exi_toll.specs.declared.stop.PutStop.{PutStop}
use Rattle.exi_toll.specs.declared.stop.PutStop.TheVariants as stop
use Rattle.exi_writing.specs.OneEvent.{Refused}
use Rattle.exi_writing.specs.Pruned.{pruned_name}
use Rattle.exi_writing.specs.Runs.{Run, opened, written_all}
use Rattle.exi_writer.proofs.Putting.{view}
use Rattle.exi_writer.specs.Writing.{Composing, IsComposed, Opens, WritesAll, composing_at}

-- ---- the first bit
starts_at : (s : Start) (bits : ℕ) → StartsAt s bits → first_place bits s ≡ bits
starts_at start.Body bits h = refl
starts_at (start.Fragment byte) bits h = h

first_composed : (g : Setting) (s : Start) (limits : Bounds) (head : List Bool) → IsWithinStream limits → IsSetting g → IsStart g.schema.names → StartsAt s (length head) → IsWholeBytes (align_of g.options) head → IsComposed (composing_at (first_page g s limits head))
first_composed g s limits head within setting names starts aligned = record {
  body = length head;
  start = s;
  limits = limits;
  within = within;
  is_setting = setting;
  names = names;
  sound = record { here = first_sound _; aside = tt };
  named = λ h. absurd cc;
  place = starts_at s (length head) starts;
  aligned = aligned;
  leads = λ bytes more octets are. ([], refl);
}

pub begun : (p : Page) (g : Setting) (s : Start) (limits : Bounds) (head : List Bool) → p ≡ first_page g s limits head → IsWithinStream limits → IsSetting g → IsStart g.schema.names → StartsAt s (length head) → IsWholeBytes (align_of g.options) head → IsComposed (composing_at p)
begun p g s limits head is within setting names starts aligned = subst (λ (z : Page). IsComposed (composing_at z)) (sym is) (first_composed g s limits head within setting names starts aligned)

-- ---- a fragment, at a whole byte
pub at_byte : (bytes : List ℕ) (head : List Bool) → bits bytes ≡ padded head → length head % 8 ≡ 0 → 8 * length bytes ≡ length head
at_byte bytes head is whole =
    let n : 8 * length bytes ≡ length head + length (zeros (to_byte (length head))) = sym (length-bits bytes) ∙ ap length is ∙ length-append head (zeros (to_byte (length head))) in
    let m : length (zeros (to_byte (length head))) ≡ to_byte (length head) = length-replicate (to_byte (length head)) false in
    omega (arith, n, m, whole)

-- what a writer of it is
abbrev pub opened_as : Result (Unit {0}) PutStop → Composing → Result Composing PutStop
opened_as (Ok x) w = Ok w
opened_as (Err s) w = Err s

opens_by : (res : Result (Unit {0}) PutStop) (q : Page) (g : Setting) (byte : ℕ) (limits : Bounds) (head : List Bool) (runs : Result Run Refused) → WritesAll res (first_page g (start.Fragment byte) limits head) q runs → Opens (opened_as res (view q false)) g head runs
opens_by (Ok x) q g byte limits head runs h = (h.0, h.1, ap (λ (z : Page). view z false) h.2)
opens_by (Err stop.NotDerived) q g byte limits head runs h = h
opens_by (Err (stop.Limit k)) q g byte limits head runs h = (q.config.meter, h)
opens_by (Err stop.Memory) q g byte limits head runs h = tt

byte_is : (byte n : ℕ) → 8 * byte ≡ n → byte ≡ n / 8
byte_is byte n e = omega (arith, e)

pub opens : (res : Result (Unit {0}) PutStop) (p q : Page) (g : Setting) (byte : ℕ) (limits : Bounds) (head : List Bool) (name : QName) → p ≡ first_page g (start.Fragment byte) limits head → 8 * byte ≡ length head → WritesAll res p q (written_all p.setting p.config (event.sd ∷ event.se (pruned_name p.setting.options name) ∷ [])) → Opens (opened_as res (view q false)) g head (opened g (length head / 8) limits (pruned_name g.options name))
opens res p q g byte limits head name is e h =
    let at : WritesAll res (first_page g (start.Fragment byte) limits head) q (opened g byte limits (pruned_name g.options name)) = subst (λ (z : Page). WritesAll res z q (written_all z.setting z.config (event.sd ∷ event.se (pruned_name z.setting.options name) ∷ []))) is h in
    opens_by res q g byte limits head (opened g (length head / 8) limits (pruned_name g.options name)) (subst (λ (n : ℕ). WritesAll res (first_page g (start.Fragment byte) limits head) q (opened g n limits (pruned_name g.options name))) (byte_is byte (length head) e) at)

-- of this name
pub opens_so : (res : Result (Unit {0}) PutStop) (p q : Page) (g : Setting) (byte : ℕ) (limits : Bounds) (head : List Bool) (name known : QName) → name ≡ known → p ≡ first_page g (start.Fragment byte) limits head → 8 * byte ≡ length head → WritesAll res p q (written_all p.setting p.config (event.sd ∷ event.se (pruned_name p.setting.options name) ∷ [])) → Opens (opened_as res (view q false)) g head (opened g (length head / 8) limits (pruned_name g.options known))
opens_so res p q g byte limits head name known same is e h = subst (λ (n : QName). Opens (opened_as res (view q false)) g head (opened g (length head / 8) limits (pruned_name g.options n))) same (opens res p q g byte limits head name is e h)
