-- A fragment that was written apart is taken where it stands: reading goes through it as it went by itself.
use Rattle.std.proofs.Common.{◌≡◌, ℕ, ◌*◌, ◌%◌, ◌<◌, Bool, true, false, List, [], ◌∷◌, ◌++◌, length, Option, Some, refl, sym, ap, ◌∙◌, subst, append_assoc, arith}
use Rattle.std.proofs.lemmas.List.{length-append}
use Rattle.exi_meter.specs.Metering.{tally_fits, with_tally}
use Rattle.exi_meter.specs.declared.tally.Tally.{Tally}
use Rattle.exi_names.specs.Events.{Happening}
use Rattle.exi_names.specs.declared.names.QName.{QName}
use Rattle.exi_pen.specs.Pages.{Page, spliced_page}
use Rattle.exi_processing.specs.Changes.{put_aside, resumed}
use Rattle.exi_processing.specs.Configurations.{Body, Config, Setting, first_config}
use Rattle.exi_processing.specs.Runs.{IsSequence, Leads}
use Rattle.exi_processing.specs.Splices.{GoesAs, Spliced, SplicesAreRuns, on_behind, with_root}
use Rattle.exi_processing.specs.declared.end.End.{End}
use Rattle.exi_processing.specs.declared.end.End.TheVariants as end
use Rattle.exi_processing.specs.declared.start.Start.TheVariants as start
use Rattle.exi_writing.specs.Sound.{AreSound, HasSoundTables}
use Rattle.exi_writer.proofs.Composed.{ready}
use Rattle.exi_writer.proofs.Names.{resumed_again}
use Rattle.exi_writer.proofs.Putting.{no_wait, view}
use Rattle.exi_writer.specs.Writing.{Composing, IsAtFragment, IsComposed, IsPart, MayGoOn, is_named, spliced_behind}

-- ---- what is taken
pub spliced_level : (p : Page) (w : Bool) (r : Composing) → view p w ≡ r → r.waits ≡ true → IsAtFragment r → 0 < p.config.meter.level
spliced_level p false r e h k = no_wait (sym (ap (λ (z : Composing). z.waits) e ∙ h))
spliced_level p true r e h k =
    let at : IsAtFragment (view p true) = subst IsAtFragment (sym e) k in
    let q : Page = record { setting = p.setting; bits = p.bits; config = put_aside p.setting p.config } in
    (ready (view p true) q at.composed refl).levels.aside (λ x. absurd cc)

pub splice_is : (p q : Page) (w : Bool) (r : Composing) (text : List Bool) (tally : Tally) → view p w ≡ r → r.waits ≡ true → q ≡ spliced_page text tally p → view q false ≡ spliced_behind r text tally
splice_is p q false r text tally e h is = no_wait (sym (ap (λ (z : Composing). z.waits) e ∙ h))
splice_is p q true r text tally e h is = ap (λ (z : Page). view z false) is ∙ ap (λ (z : Composing). spliced_behind z text tally) e

-- ---- reading goes through it
resumed_place : (bs : List Body) (c : Config) → (resumed bs c).place ≡ c.place
resumed_place [] c = refl
resumed_place (b ∷ bs) c = refl

resumed_sound : (bs : List Body) (c : Config) → c.aside ≡ bs → HasSoundTables c → HasSoundTables (resumed bs c)
resumed_sound [] c is s = record { here = s.here; aside = s.aside }
resumed_sound (b ∷ bs) c is s =
    let all : AreSound (b ∷ bs) = subst (AreSound) is s.aside in
    record { here = all.0; aside = all.1 }

with_same : (bs : List Body) (c : Config) (e : End) (name : QName) → is_named bs name ≡ true → with_root bs c e (Some name) ≡ on_behind c e
with_same [] c e name h = refl
with_same (b ∷ bs) c e name h = rw h refl

leads_append : (g : Setting) (bytes : List ℕ) (turns more : List (Option Happening)) (c mid last : Config) → Leads g bytes c turns mid → Leads g bytes mid more last → Leads g bytes c (turns ++ more) last
leads_append g bytes [] more c mid last l m = subst (λ (z : Config). Leads g bytes z more last) (sym l) m
leads_append g bytes (e ∷ turns) more c mid last l m = (l.0, l.1, leads_append g bytes turns more l.0 mid last l.2 m)

same_byte : (a b n : ℕ) → n ≡ 8 * a → n ≡ 8 * b → a ≡ b
same_byte a b n e f = omega (arith, e, f)

whole_both : (xs ys : List Bool) (byte : ℕ) → length xs ≡ 8 * byte → length ys % 8 ≡ 0 → length (xs ++ ys) % 8 ≡ 0
whole_both xs ys byte e f = let n = length-append xs ys in omega (arith, n, e, f)

pub part_composed : SplicesAreRuns → (w : Composing) (text : List Bool) (tally : Tally) → IsAtFragment w → length text % 8 ≡ 0 → tally_fits w.config.meter tally ≡ true → IsPart w text tally → IsComposed (spliced_behind w text tally)
part_composed law w text tally at whole fitting part =
    let k = at.composed in
    let behind : Config = record w.config { place = length (w.bits ++ text); meter = with_tally w.config.meter tally; after_start = false } in
    record {
      body = k.body;
      start = k.start;
      limits = k.limits;
      within = k.within;
      is_setting = k.is_setting;
      names = k.names;
      sound = resumed_sound w.config.aside behind refl record { here = k.sound.here; aside = k.sound.aside };
      named = resumed_again w.config.aside behind refl;
      place = resumed_place w.config.aside behind;
      aligned = λ b. whole_both w.bits text at.byte (sym k.place ∙ at.at.place) whole;
      leads = λ bytes more octets are. (
          let l = k.leads bytes (text ++ more) octets (are ∙ append_assoc w.bits text more) in
          let e : End = end.Done (length (w.bits ++ text)) tally (Some part.name) in
          let s : IsSequence (record { setting = w.setting; bytes = bytes; body = 0 }) (start.Fragment at.byte) part.limits part.events e part.count = subst (λ (n : ℕ). IsSequence (record { setting = w.setting; bytes = bytes; body = 0 }) (start.Fragment n) part.limits part.events e part.count) (same_byte part.byte at.byte w.config.place part.stands at.at.place) (part.read bytes more octets are) in
          let go = law (record { setting = w.setting; bytes = bytes; body = 0 }) at.byte w.config part.limits part.events e part.count octets k.is_setting k.names at.at s fitting in
          let on : GoesAs w.setting bytes w.config part.events (on_behind w.config e) = subst (λ (z : Spliced). GoesAs w.setting bytes w.config part.events z) (with_same w.config.aside w.config e part.name part.same) go in
          (l.0 ++ on.0, leads_append w.setting bytes l.0 on.0 (first_config w.setting k.body k.start k.limits) w.config (resumed w.config.aside behind) l.1 on.1)
          );
    }

pub splice_may : SplicesAreRuns → (p q : Page) (w : Bool) (r : Composing) (text : List Bool) (tally : Tally) → view p w ≡ r → r.waits ≡ true → IsAtFragment r → length text % 8 ≡ 0 → tally_fits r.config.meter tally ≡ true → q ≡ spliced_page text tally p → IsPart r text tally → MayGoOn (view q false)
splice_may law p q w r text tally e h at whole fitting is part = λ going. subst IsComposed (sym (splice_is p q w r text tally e h is)) (part_composed law r text tally at whole fitting part)
