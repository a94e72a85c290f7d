-- A fragment that was written by itself is a part of a list, wherever it stands there.
use Rattle.std.proofs.Common.{◌≡◌, ◌+◌, ◌*◌, ◌/◌, ◌%◌, ◌≤◌, ℕ, Bool, true, false, List, [], ◌∷◌, ◌++◌, length, drop, Option, Some, None, refl, sym, ap, ◌∙◌, subst, append_assoc, arith}
use Rattle.std.specs.Prelude.{◌-◌, Result, Ok, if◌then◌else◌}
use Rattle.std.proofs.lemmas.List.{append_cancel_left, length-append, length-drop}
use Rattle.exi_bits.specs.Bits.{IsBytes, bits, rest}
use Rattle.exi_bits.proofs.BitLaws.{length-bits}
use Rattle.exi_meter.specs.Metering.{Bounds}
use Rattle.exi_meter.specs.declared.tally.Tally.{Tally}
use Rattle.exi_names.specs.declared.names.QName.{QName}
use Rattle.exi_names.specs.Events.{Happening}
use Rattle.exi_names.specs.Events as event
use Rattle.exi_pen.specs.Steps.{begins_fragment}
use Rattle.exi_processing.specs.Configurations.{Config, IsSetting, Setting, first_config, spot_in}
use Rattle.exi_processing.specs.OneEvent.{one}
use Rattle.exi_processing.specs.Runs.{IsRun, Job, closing, done, ends, events_of, goes, has_ended, is_end, turn, turned_by}
use Rattle.exi_processing.specs.Spelled.{IsIn}
use Rattle.exi_processing.specs.declared.end.End.{End}
use Rattle.exi_processing.specs.declared.end.End.TheVariants as end
use Rattle.exi_processing.specs.declared.start.Start.{Start}
use Rattle.exi_processing.specs.declared.start.Start.TheVariants as start
use Rattle.exi_tables.proofs.Sound.{first_sound}
use Rattle.exi_writing.specs.Laws.{IsStep, OneIsRead}
use Rattle.exi_writing.specs.OneEvent.{Refused, Written, ◌>>=◌, written}
use Rattle.exi_writing.specs.Runs.{Run, in_front, nothing_from, own, put, then_run, written_all}
use Rattle.exi_writing.specs.Sound.{HasSoundTables}
use Rattle.exi_writing.proofs.OneEvent.{bind_parts, one_going}
use Rattle.exi_writer.proofs.Composed.{then_parts}
use Rattle.exi_writer.specs.Writing.{Composing, IsAtFragment, IsPart, is_named}
use Rattle.exi_apart.specs.Parts.{ApartBegins, ApartEnters, ApartIsPart, ApartPuts, IsApart}
use Rattle.exi_derived.proofs.Lists.{KeptRun, all_again}
use Rattle.exi_derived.proofs.OneEvent.{Again}
use Rattle.exi_derived.proofs.Places.{no_wider}
use Rattle.exi_apart.proofs.Roots.{IsRooted, IsStarted, given_run, root_stays, rooted, rooted_over, run_is, started, true_false}

-- ---- events, and others behind them
abbrev both : Run → Run → Run
both r s = record { bits = r.bits ++ s.bits; events = r.events ++ s.events; last = s.last }

in_front_both : (w : Written) (r s : Run) → both (in_front w r) s ≡ in_front w (both r s)
in_front_both w r s = ap (λ (x : List Bool). record { bits = x; events = w.given.0 ∷ (r.events ++ s.events); last = s.last }) (append_assoc w.bits r.bits s.bits)

all_both : (g : Setting) (es fs : List Happening) (c : Config) (r s : Run) → written_all g c es ≡ Ok r → written_all g r.last fs ≡ Ok s → written_all g c (es ++ fs) ≡ Ok (both r s)
all_both g [] fs c r s h k =
    let is : nothing_from c ≡ r = run_is (nothing_from c) r h in
    subst (λ (x : Run). written_all g x.last fs ≡ Ok s → written_all g c fs ≡ Ok (both x s)) is (λ z. z) k
all_both g (e ∷ es) fs c r s h k =
    let a = bind_parts (written g c e) _ r h in
    let v = a.0 in
    let t = then_parts v (written_all g v.given.1 es) r a.2 in
    let last : written_all g t.0.last fs ≡ Ok s = subst (λ (x : Run). written_all g x.last fs ≡ Ok s) t.2 k in
    ap (λ (z : Result Written Refused). z >>= (λ x. then_run x (written_all g x.given.1 (es ++ fs)))) a.1
    ∙ ap (then_run v) (all_both g es fs v.given.1 t.0 s t.1 last)
    ∙ ap given_run (sym (in_front_both v t.0 s) ∙ ap (λ (x : Run). both x s) (sym t.2))

-- ---- a writer goes on
goes_apart : (head : List Bool) (limits : Bounds) (name : QName) (old new : Composing) (es : List Happening) (r : Run) → IsApart head limits name old → written_all old.setting old.config es ≡ Ok r → new.setting ≡ old.setting → new.bits ≡ old.bits ++ r.bits → new.config ≡ r.last → IsApart head limits name new
goes_apart head limits name old new es r k h setting text config =
    let g = old.setting in
    let first = first_config g 0 (start.Fragment (length head / 8)) limits in
    let from : written_all g k.run.last es ≡ Ok r = subst (λ (c : Config). written_all g c es ≡ Ok r) k.config h in
    let all = all_both g (event.sd ∷ event.se name ∷ k.events) es first k.run r k.are from in
    record {
      events = k.events ++ es;
      run = both k.run r;
      are = subst (λ (z : Setting). written_all z (first_config z 0 (start.Fragment (length head / 8)) limits) (event.sd ∷ event.se name ∷ (k.events ++ es)) ≡ Ok (both k.run r)) (sym setting) all;
      bits = text ∙ ap (λ (x : List Bool). x ++ r.bits) k.bits ∙ append_assoc head k.run.bits r.bits;
      config = config;
    }

pub apart_begins : ApartBegins
apart_begins head g limits name v h =
    let r = h.0 in
    rw h.2 record { events = []; run = r; are = h.1; bits = refl; config = refl }

-- an event, and what the fragment has of its own behind it
record IsAll (g : Setting) (c : Config) (r : Run) : Type 0 where
  events : List Happening
  are : written_all g c events ≡ Ok r

put_all : (g : Setting) (c : Config) (e : Happening) (r : Run) → put g c e ≡ Ok r → IsAll g c r
unfolding put
put_all g c e r h =
    let a = bind_parts (written g c e) _ r h in
    let v = a.0 in
    record { events = e ∷ own v.given.1; are = ap (λ (z : Result Written Refused). z >>= (λ x. then_run x (written_all g x.given.1 (own v.given.1)))) a.1 ∙ a.2 }

so_far_all : (g : Setting) (c : Config) (e : Happening) (begins : Bool) (r : Run) → (if begins then written_all g c (e ∷ []) else put g c e) ≡ Ok r → IsAll g c r
so_far_all g c e true r h = record { events = e ∷ []; are = h }
so_far_all g c e false r h = put_all g c e r h

pub apart_puts : ApartPuts
apart_puts head limits name old new begins None k h = subst (IsApart head limits name) (sym h.1) k
apart_puts head limits name old new begins (Some e) k h =
    let r = h.0.0 in
    let all = so_far_all old.setting old.config e (begins_fragment e) r h.0.1 in
    goes_apart head limits name old new all.events r k all.are (ap (λ (z : Composing). z.setting) h.0.2) (ap (λ (z : Composing). z.bits) h.0.2) (ap (λ (z : Composing). z.config) h.0.2)

pub apart_enters : ApartEnters
apart_enters head limits name old new k h =
    let r = h.0 in
    goes_apart head limits name old new (own old.config) r k h.1 (ap (λ (z : Composing). z.setting) h.2) (ap (λ (z : Composing). z.bits) h.2) (ap (λ (z : Composing). z.config) h.2)

-- ---- to the fragment's end
-- the turns of a run, its last bit, and what stands behind
record Ran (g : Setting) (bytes : List ℕ) (c : Config) (r : Run) (more : List Bool) : Type 0 where
  run : IsRun g bytes c r.events (done r.last)
  stands : IsIn g bytes r.last
  left : rest (spot_in bytes r.last) ≡ more

goes_ran : (g : Setting) (bytes : List ℕ) (c : Config) (v : Written) (s : Run) (more : List Bool) → one g bytes c ≡ Ok v.given → has_ended v.given.1 ≡ false → Ran g bytes v.given.1 s more → Ran g bytes c (in_front v s) more
goes_ran g bytes c v s more read going n =
    let step : turn g bytes c ≡ goes v.given.0 v.given.1 = ap (turned_by bytes c) read ∙ rw going refl in
    record {
      run = record {
        before = v.given.0 ∷ n.run.before;
        reached = n.run.reached;
        leads = (v.given.1, step, n.run.leads);
        event = n.run.event;
        at_end = n.run.at_end;
        all = ap (λ (x : List (Option Happening)). v.given.0 ∷ x) n.run.all;
      };
      stands = n.stands;
      left = n.left;
    }

ends_ran : (g : Setting) (bytes : List ℕ) (c : Config) (v : Written) (byte : ℕ) (more : List Bool) → IsStep g bytes c v more → has_ended v.given.1 ≡ true → v.given.1.start ≡ start.Fragment byte → Ran g bytes c (in_front v (nothing_from v.given.1)) more
ends_ran g bytes c v byte more k ended from =
    let step : turn g bytes c ≡ ends v.given.0 (closing v.given.1.start bytes v.given.1) = ap (turned_by bytes c) k.read ∙ rw ended refl in
    record {
      run = record { before = []; reached = c; leads = refl; event = v.given.0; at_end = step ∙ ap (λ (s : Start). ends v.given.0 (closing s bytes v.given.1)) from; all = refl };
      stands = k.stands;
      left = k.left;
    }

-- an event that is written, and read
record Stepped (g : Setting) (bytes : List ℕ) (c : Config) (e : Happening) (es : List Happening) (r : Run) (more : List Bool) : Type 0 where
  v : Written
  s : Run
  are : written_all g v.given.1 es ≡ Ok s
  is : r ≡ in_front v s
  step : IsStep g bytes c v (s.bits ++ more)
  wrote : written g c e ≡ Ok v

one_stepped : OneIsRead → (g : Setting) (bytes : List ℕ) (c : Config) (e : Happening) (es : List Happening) (r : Run) (more : List Bool) → IsSetting g → IsIn g bytes c → HasSoundTables c → written_all g c (e ∷ es) ≡ Ok r → rest (spot_in bytes c) ≡ r.bits ++ more → Stepped g bytes c e es r more
one_stepped law g bytes c e es r more book stands sound h front =
    let a = bind_parts (written g c e) _ r h in
    let v = a.0 in
    let t = then_parts v (written_all g v.given.1 es) r a.2 in
    let s = t.0 in
    let text : rest (spot_in bytes c) ≡ v.bits ++ (s.bits ++ more) = front ∙ ap (λ (x : Run). x.bits ++ more) t.2 ∙ append_assoc v.bits s.bits more in
    record { v = v; s = s; are = t.1; is = t.2; step = law g bytes c e v (s.bits ++ more) book stands sound a.1 text; wrote = a.1 }

all_ran : OneIsRead → (g : Setting) (bytes : List ℕ) (byte : ℕ) (e : Happening) (es : List Happening) (c : Config) (r : Run) (more : List Bool) → IsSetting g → IsIn g bytes c → HasSoundTables c → c.start ≡ start.Fragment byte → has_ended r.last ≡ true → written_all g c (e ∷ es) ≡ Ok r → rest (spot_in bytes c) ≡ r.bits ++ more → Ran g bytes c r more
all_ran law g bytes byte e [] c r more book stands sound from ended h front =
    let k = one_stepped law g bytes c e [] r more book stands sound h front in
    let last : nothing_from k.v.given.1 ≡ k.s = run_is (nothing_from k.v.given.1) k.s k.are in
    let is : r ≡ in_front k.v (nothing_from k.v.given.1) = k.is ∙ ap (in_front k.v) (sym last) in
    let step : IsStep g bytes c k.v more = subst (λ (x : Run). IsStep g bytes c k.v (x.bits ++ more)) (sym last) k.step in
    let over : has_ended k.v.given.1 ≡ true = ap (λ (x : Run). has_ended x.last) (sym is) ∙ ended in
    subst (λ (x : Run). Ran g bytes c x more) (sym is) (ends_ran g bytes c k.v byte more step over (step.start ∙ from))
all_ran law g bytes byte e (f ∷ fs) c r more book stands sound from ended h front =
    let k = one_stepped law g bytes c e (f ∷ fs) r more book stands sound h front in
    let a = bind_parts (written g k.v.given.1 f) _ k.s k.are in
    let going : has_ended k.v.given.1 ≡ false = one_going g k.v.given.1 f a.0 a.1 in
    let over : has_ended k.s.last ≡ true = ap (λ (x : Run). has_ended x.last) (sym k.is) ∙ ended in
    let n = all_ran law g bytes byte f fs k.v.given.1 k.s more book k.step.stands k.step.sound (k.step.start ∙ from) over k.are k.step.left in
    subst (λ (x : Run). Ran g bytes c x more) (sym k.is) (goes_ran g bytes c k.v k.s more k.step.read going n)

-- ---- where the fragment is to stand
drop_front : (a b : List Bool) → drop (length a) (a ++ b) ≡ b
drop_front [] b = refl
drop_front (x ∷ a) b = drop_front a b

ends_at : (place : ℕ) (bytes : List ℕ) (text more : List Bool) → bits bytes ≡ text ++ more → place ≤ 8 * length bytes → drop place (bits bytes) ≡ more → place ≡ length text
ends_at place bytes text more are within left =
    let n : 8 * length bytes ≡ length text + length more = sym (length-bits bytes) ∙ ap length are ∙ length-append text more in
    let m : length (bits bytes) - place ≡ length more = sym (length-drop place (bits bytes)) ∙ ap length left in
    let k : length (bits bytes) ≡ 8 * length bytes = length-bits bytes in
    omega (arith, n, m, k, within)

module _ (law : OneIsRead) (w : Composing) (at : IsAtFragment w) (limits : Bounds) (name : QName) where
  abbrev g : Setting
  g = w.setting

  abbrev first : Config
  first = first_config g 0 (start.Fragment at.byte) limits

  abbrev job : List ℕ → Job
  job bytes = record { setting = w.setting; bytes = bytes; body = 0 }

  module _ (bytes : List ℕ) (octets : IsBytes bytes) where
    -- the whole fragment is read so
    record Whole (r : Run) (more : List Bool) : Type 0 where
      ran : Ran g bytes first r more
      root : r.last.root ≡ Some name

    tail_ran : (es : List Happening) (c : Config) (r : Run) (more : List Bool) → IsIn g bytes c → HasSoundTables c → c.start ≡ start.Fragment at.byte → has_ended c ≡ false → has_ended r.last ≡ true → written_all g c es ≡ Ok r → rest (spot_in bytes c) ≡ r.bits ++ more → Ran g bytes c r more
    tail_ran [] c r more stands sound from going ended h front = true_false (has_ended c) (ap (λ (x : Run). has_ended x.last) (run_is (nothing_from c) r h) ∙ ended) going
    tail_ran (e ∷ es) c r more stands sound from going ended h front = all_ran law g bytes at.byte e es c r more at.composed.is_setting stands sound from ended h front

    whole_read : (es : List Happening) (r : Run) (more : List Bool) → IsIn g bytes first → written_all g first (event.sd ∷ event.se name ∷ es) ≡ Ok r → has_ended r.last ≡ true → rest (spot_in bytes first) ≡ r.bits ++ more → Whole r more
    whole_read es r more stands h ended front =
        let book = at.composed.is_setting in
        let tables : HasSoundTables first = record { here = first_sound _; aside = tt } in
        let a = one_stepped law g bytes first event.sd (event.se name ∷ es) r more book stands tables h front in
        let f1 = a.v.given.1 in
        let begun : IsStarted f1 = started g first a.v refl refl refl a.wrote in
        let b = one_stepped law g bytes f1 (event.se name) es a.s more book a.step.stands a.step.sound a.are a.step.left in
        let f2 = b.v.given.1 in
        let rt : IsRooted name f2 = rooted g f1 name b.v begun b.wrote in
        let from2 : f2.start ≡ start.Fragment at.byte = b.step.start ∙ a.step.start in
        let last : r.last ≡ b.s.last = ap (λ (x : Run). x.last) a.is ∙ ap (λ (x : Run). x.last) b.is in
        let over : has_ended f2 ≡ false = ap is_end rt.outer_is in
        let n : Ran g bytes f2 b.s more = tail_ran es f2 b.s more b.step.stands b.step.sound from2 over (ap has_ended (sym last) ∙ ended) b.are b.step.left in
        let second : Ran g bytes f1 a.s more = subst (λ (x : Run). Ran g bytes f1 x more) (sym b.is) (goes_ran g bytes f1 b.v b.s more b.step.read over n) in
        record {
          ran = subst (λ (x : Run). Ran g bytes first x more) (sym a.is) (goes_ran g bytes first a.v a.s more a.step.read (ap is_end begun.outer_is) second);
          root = ap (λ (c : Config). c.root) last ∙ root_stays g es f2 b.s (rooted_over f2 rt.outer_is rt.aside) b.are ∙ rt.root;
        }

  -- behind the bits of the list
  part_read : (es : List Happening) (r : Run) (bytes : List ℕ) (more : List Bool) → written_all g first (event.sd ∷ event.se name ∷ es) ≡ Ok r → has_ended r.last ≡ true → IsBytes bytes → bits bytes ≡ (w.bits ++ r.bits) ++ more → IsRun g bytes first r.events (end.Done (length (w.bits ++ r.bits)) r.last.meter.used (Some name))
  part_read es r bytes more h ended octets are =
      let text : bits bytes ≡ w.bits ++ (r.bits ++ more) = are ∙ append_assoc w.bits r.bits more in
      let long : 8 * length bytes ≡ length w.bits + length (r.bits ++ more) = sym (length-bits bytes) ∙ ap length text ∙ length-append w.bits (r.bits ++ more) in
      let here : 8 * at.byte ≡ length w.bits = sym at.at.place ∙ at.composed.place in
      let stands : IsIn g bytes first = record { octets = octets; within = omega (arith, long, here); aligned = λ b. omega arith } in
      let front : rest (spot_in bytes first) ≡ r.bits ++ more = ap (λ (i : ℕ). drop i (bits bytes)) here ∙ ap (drop (length w.bits)) text ∙ drop_front w.bits (r.bits ++ more) in
      let k = whole_read bytes octets es r more stands h ended front in
      let place : r.last.place ≡ length (w.bits ++ r.bits) = ends_at r.last.place bytes (w.bits ++ r.bits) more are k.ran.stands.within k.ran.left in
      subst (λ (e : End). IsRun g bytes first r.events e) (ap (λ (i : ℕ). end.Done i r.last.meter.used r.last.root) place ∙ ap (λ (x : Option QName). end.Done (length (w.bits ++ r.bits)) r.last.meter.used x) k.root) k.ran.run

  is_part : (es : List Happening) (r : Run) (text : List Bool) (tally : Tally) → written_all g first (event.sd ∷ event.se name ∷ es) ≡ Ok r → has_ended r.last ≡ true → r.bits ≡ text → r.last.meter.used ≡ tally → is_named w.config.aside name ≡ true → IsPart w text tally
  is_part es r text tally h ended same paid is = rw (← same, ← paid) record {
    byte = at.byte;
    stands = at.at.place;
    limits = limits;
    events = events_of r.events;
    count = length r.events;
    name = name;
    same = is;
    read = λ bytes more octets are. (r.events, part_read es r bytes more h ended octets are, refl, refl);
  }

-- ---- written at another byte
whole_bytes_apart : (a b : ℕ) → (8 * a) % 8 ≡ (8 * b) % 8
whole_bytes_apart a b = omega arith

abbrev AsAgain : (g : Setting) (byte other : ℕ) (limits : Bounds) (r : Run) → Result Run Refused → Type 0
AsAgain g byte other limits r z = (s : Run) × (z ≡ Ok s) × KeptRun (limits ≡ limits) (λ s. start.Fragment other) (8 * byte) (8 * other) limits r s

again_there : (g : Setting) (byte other : ℕ) (limits : Bounds) (es : List Happening) (r : Run) → written_all g (first_config g 0 (start.Fragment byte) limits) es ≡ Ok r → AsAgain g byte other limits r (written_all g (first_config g 0 (start.Fragment other) limits) es)
again_there g byte other limits es r h =
    let begun : Start → Start = λ s. start.Fragment other in
    let k = all_again (limits ≡ limits) begun g es (first_config g 0 (start.Fragment byte) limits) (8 * other) limits record { wide = no_wider limits; same = λ is. refl } in
    subst (λ (z : Result Run Refused). Again (limits ≡ limits) begun (KeptRun (limits ≡ limits) begun (8 * byte) (8 * other) limits) z (written_all g (first_config g 0 (start.Fragment other) limits) es)) h k

pub apart_is_part : OneIsRead → ApartIsPart
apart_is_part law w v head text limits name at setting k ended are is =
    let g = w.setting in
    let es = event.sd ∷ event.se name ∷ k.events in
    let byte : ℕ = length head / 8 in
    let own_run : written_all g (first_config g 0 (start.Fragment byte) limits) es ≡ Ok k.run = subst (λ (z : Setting). written_all z (first_config z 0 (start.Fragment byte) limits) es ≡ Ok k.run) setting k.are in
    let there = again_there g byte at.byte limits es k.run own_run in
    let s = there.0 in
    let kept = there.2 in
    let same : s.bits ≡ k.run.bits = (kept.whole (whole_bytes_apart at.byte byte)).bits_are in
    let over : has_ended s.last ≡ true = ap has_ended kept.next ∙ ap has_ended (sym k.config) ∙ ended in
    let paid : s.last.meter.used ≡ v.config.meter.used = ap (λ (c : Config). c.meter.used) kept.next ∙ ap (λ (c : Config). c.meter.used) (sym k.config) in
    let cut : k.run.bits ≡ text = append_cancel_left head k.run.bits text (sym k.bits ∙ are) in
    is_part law w at limits name k.events s text v.config.meter.used there.1 over (same ∙ cut) paid is
