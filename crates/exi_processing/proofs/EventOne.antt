-- One event: what is read is what is spelled, for every plan.
use Rattle.std.proofs.Common.{◌≡◌, ℕ, ◌+◌, ◌-◌, ◌*◌, ◌/◌, ◌%◌, ◌≤◌, Bool, true, false, cond, List, [], ◌++◌, length, take, drop, Option, Some, None, Result, Ok, Err, refl, sym, ap, ◌∙◌, subst, append_assoc, arith}
use Rattle.std.proofs.lemmas.List.{drop-drop, drop_at, length-append, length-drop, length-take, take-append-drop, take_at}
use Rattle.exi_bits.specs.declared.align.Align.{Align}
use Rattle.exi_bits.specs.declared.align.Align.TheVariants as align
use Rattle.exi_bits.specs.declared.fault.Kind.{Kind}
use Rattle.exi_bits.specs.declared.fault.Kind.TheVariants as kind
use Rattle.exi_bits.specs.Bits.{Spot, Front, IsAligned, IsBytes, at_next_byte, bits, moved, rest}
use Rattle.exi_bits.specs.Unsigned.{◌>>=◌}
use Rattle.exi_bits.proofs.BitLaws.{length-bits}
use Rattle.exi_gram.specs.Codes.{code_at}
use Rattle.exi_gram.specs.Switches.{align_of}
use Rattle.exi_gram.proofs.CodeLaws.{spelled_item}
use Rattle.exi_meter.specs.Metering.{Metering, event_fits, level_fits, with_event, with_level}
use Rattle.exi_typed.specs.ReadStates.{Context, ReadState, Failure, failing}
use Rattle.exi_typed.proofs.ContextItems.{ContextItem, bind_told, fine, not_failing, told, told_is, was_taken, where_taken}
use Rattle.exi_processing.specs.Configurations.{Config, Setting, read_state_in, reached, rules_of, spot_in}
use Rattle.exi_processing.specs.OneEvent.{at_event, behind, charge_at, event_charge, followed, level_charge, one, remembered, unless}
use Rattle.exi_processing.specs.Plans.{Given, Plan, alone_in, plan_of}
use Rattle.exi_processing.specs.Rules.{Rule}
use Rattle.exi_processing.specs.Spelled.{IsCharged, IsFollowed, IsOne, IsPadding, OneAtMost, OneIsSpelled, SpelledIsOne, counted_by, entered_by, further}
use Rattle.exi_processing.proofs.ClosedUp.{closed_up}
use Rattle.exi_processing.proofs.PlanFacts.{made_stays, plan_reads}

-- ---- charges
guard_told : {X : Type 0} (b : Bool) (p q : X) (f : Failure) → cond b (told p) (Err f) ≡ told q → (b ≡ true) × (p ≡ q)
guard_told true p q f e = (refl, told_is p q e)
guard_told false p q f e = absurd cc

pub unless_is : (o : Option Kind) (bit : ℕ) (m n : Metering) → unless o bit m ≡ told n → (o ≡ None) × (m ≡ n)
unless_is None bit m n e = (refl, told_is m n e)
unless_is (Some k) bit m n e = absurd cc

pub event_is : (b : Bool) (bit : ℕ) (m n : Metering) → event_charge b bit m ≡ told n → (b ≡ true → event_fits m ≡ true) × (counted_by b m ≡ n)
event_is true bit m n e = let g = guard_told (event_fits m) (with_event m) n (record { fault = record { kind = kind.EventLimit; bit = bit }; meter = m }) e in (λ h. g.0, g.1)
event_is false bit m n e = (λ h. absurd cc, told_is m n e)

pub level_is : (b : Bool) (bit : ℕ) (m n : Metering) → level_charge b bit m ≡ told n → (b ≡ true → level_fits m ≡ true) × (entered_by b m ≡ n)
level_is true bit m n e = let g = guard_told (level_fits m) (with_level m) n (record { fault = record { kind = kind.DepthLimit; bit = bit }; meter = m }) e in (λ h. g.0, g.1)
level_is false bit m n e = (λ h. absurd cc, told_is m n e)

pub charge_is : (bit : ℕ) (p : Plan) (m n : Metering) → charge_at bit p m ≡ told n → IsCharged p m n
unfolding charge_at
charge_is bit p m n e =
    let u = bind_told (unless p.barred bit m) (λ (x : Metering). event_charge p.counted bit x >>= λ y. unless p.misplaced bit y >>= λ z. level_charge p.entered bit z) n e in
    let f = unless_is p.barred bit m u.0 u.1 in
    let v = bind_told (event_charge p.counted bit u.0) (λ (y : Metering). unless p.misplaced bit y >>= λ z. level_charge p.entered bit z) n u.2 in
    let g = event_is p.counted bit u.0 v.0 v.1 in
    let w = bind_told (unless p.misplaced bit v.0) (λ (z : Metering). level_charge p.entered bit z) n v.2 in
    let h = unless_is p.misplaced bit v.0 w.0 w.1 in
    let k = level_is p.entered bit w.0 n w.2 in
    let same : counted_by p.counted m ≡ w.0 = ap (λ (z : Metering). counted_by p.counted z) f.1 ∙ g.1 ∙ h.1 in
    record {
      free = f.0;
      counted = λ b. subst (λ (z : Metering). event_fits z ≡ true) (sym f.1) (g.0 b);
      placed = h.0;
      entered = λ b. subst (λ (z : Metering). level_fits z ≡ true) (sym same) (k.0 b);
      after = sym k.1 ∙ ap (λ (z : Metering). entered_by p.entered z) (sym same);
    }

pub event_again : (b : Bool) (bit : ℕ) (m : Metering) → (b ≡ true → event_fits m ≡ true) → event_charge b bit m ≡ told (counted_by b m)
event_again true bit m h = rw (h refl) refl
event_again false bit m h = refl

level_again : (b : Bool) (bit : ℕ) (m : Metering) → (b ≡ true → level_fits m ≡ true) → level_charge b bit m ≡ told (entered_by b m)
level_again true bit m h = rw (h refl) refl
level_again false bit m h = refl

pub charge_again : (bit : ℕ) (p : Plan) (m n : Metering) → IsCharged p m n → charge_at bit p m ≡ told n
unfolding charge_at
charge_again bit p m n h = rw (h.free, event_again p.counted bit m h.counted, h.placed, level_again p.entered bit (counted_by p.counted m) h.entered) (ap (λ (z : Metering). told z) (sym h.after))

-- ---- the reading of a content
pub at_event_is : {X : Type 0} (bit : ℕ) (r : Result X Failure) (x : X) → at_event bit r ≡ told x → r ≡ told x
at_event_is bit (Ok y) x e = ap (λ z. told z) (told_is y x e)
at_event_is bit (Err f) x e = absurd cc

-- ---- places
front_moved : (s t : Spot) (text : List Bool) → Front s text t → t ≡ moved s (length text)
front_moved s t text f = ap (λ (z : List ℕ). record { bytes = z; place = t.place }) f.bytes ∙ ap (λ (z : ℕ). record { bytes = s.bytes; place = z }) f.place

front_then : (s t u : Spot) (first second : List Bool) → Front s first t → Front t second u → Front s (first ++ second) u
front_then s t u first second f g = record {
  parts = f.parts ∙ ap (λ (x : List Bool). first ++ x) g.parts ∙ sym (append_assoc first second (rest u));
  bytes = g.bytes ∙ f.bytes;
  place = omega (arith, f.place, g.place, length-append first second);
}

pub rest_moved : (s : Spot) (text more : List Bool) → rest s ≡ text ++ more → rest (moved s (length text)) ≡ more
rest_moved s text more e = sym (drop-drop (length text) s.place (bits s.bytes)) ∙ ap (λ (x : List Bool). drop (length text) x) e ∙ drop_at text more (length text) refl

pub aligned_on : (b : Align) (s : Spot) (n : ℕ) → IsAligned b s → (b ≡ align.Bytes → n % 8 ≡ 0) → IsAligned b (moved s n)
aligned_on b s n al whole e =
    let p : s.place % 8 ≡ 0 = al e in
    let q : n % 8 ≡ 0 = whole e in
    omega arith

-- what was taken from within the bytes ends within them
front_within : (s t : Spot) (text : List Bool) → Front s text t → s.place ≤ 8 * length s.bytes → t.place ≤ 8 * length s.bytes
front_within s t text f le =
    let n : length (rest s) ≡ length text + length (rest t) = ap (λ (x : List Bool). length x) f.parts ∙ length-append text (rest t) in
    omega (arith, n, f.place, le, length-drop s.place (bits s.bytes), length-bits s.bytes)

-- ---- up to the next whole byte
next_byte : (n : ℕ) → n ≤ (n + 7) / 8 * 8
next_byte n = omega arith

-- the bits that are left out
skipped : Spot → List Bool
skipped s = take ((s.place + 7) / 8 * 8 - s.place) (rest s)

-- what stands at the next whole byte
pub record Padded (b : Bool) (a : Align) (s t : Spot) : Type 0 where
  pub text : List Bool
  pub padding : IsPadding b s.place text
  pub front : Front s text t
  pub aligned : IsAligned a t

to_byte : (a : Align) (s : Spot) → s.place ≤ 8 * length s.bytes → Padded true a s (at_next_byte s)
unfolding skipped
to_byte a s le =
    let n : ℕ = (s.place + 7) / 8 * 8 - s.place in
    let there : s.place + n ≡ (s.place + 7) / 8 * 8 = omega (arith, next_byte s.place) in
    let within : n ≤ length (rest s) = omega (arith, le, there, length-drop s.place (bits s.bytes), length-bits s.bytes) in
    let count : length (skipped s) ≡ n = omega (arith, length-take n (rest s), within) in
    let behind_it : drop n (rest s) ≡ rest (at_next_byte s) = drop-drop n s.place (bits s.bytes) ∙ ap (λ (p : ℕ). drop p (bits s.bytes)) there in
    record {
      text = skipped s;
      padding = omega (arith, count, there);
      front = record {
        parts = sym (take-append-drop n (rest s)) ∙ ap (λ (x : List Bool). skipped s ++ x) behind_it;
        bytes = refl;
        place = omega (arith, count, there);
      };
      aligned = λ e. omega arith;
    }

padded_by : (b : Bool) (a : Align) (k : ReadState) → k.spot.place ≤ 8 * length k.spot.bytes → IsAligned a k.spot → Padded b a k.spot (behind b k).spot
padded_by true a k le al = to_byte a k.spot le
padded_by false a k le al = record { text = []; padding = refl; front = record { parts = refl; bytes = refl; place = omega arith }; aligned = al }

behind_context : (b : Bool) (k : ReadState) → (behind b k).context ≡ k.context
behind_context true k = refl
behind_context false k = refl

-- the place behind the padding
padded_place : (b : Bool) (s : Spot) (w : Context) (text : List Bool) → IsPadding b s.place text → (behind b (record { spot = s; context = w })) ≡ record { spot = moved s (length text); context = w }
padded_place true s w text h = ap (λ (p : ℕ). record { spot = record { bytes = s.bytes; place = p }; context = w }) (sym h)
padded_place false s w text h =
    let e : s.place ≡ s.place + length text = omega (arith, ap (λ (t : List Bool). length t) h) in
    ap (λ (p : ℕ). record { spot = record { bytes = s.bytes; place = p }; context = w }) e

-- ---- what stands behind a code
pub same_spot : (s t : Spot) → s.bytes ≡ t.bytes → s.place ≡ t.place → s ≡ t
same_spot s t e f = ap (λ (z : List ℕ). record { bytes = z; place = s.place }) e ∙ ap (λ (z : ℕ). record { bytes = t.bytes; place = z }) f

abbrev pub at_place : Config → ℕ → Config
at_place c place = record c { place = place }

abbrev pub Keeps : Plan → Type 0
Keeps p = (x : p.Item) (k : Config) → (p.make x k).1.place ≡ k.place

-- a plan that came to its end, point by point
pub record Parted (bytes : List ℕ) (p : Plan) (c : Config) (given : Given) : Type 0 where
  pub meter : Metering
  pub charged : IsCharged p c.meter meter
  pub item : p.Item
  pub read_state : ReadState
  pub read : p.read (read_state_in bytes meter c) ≡ told (item, read_state)
  pub free : p.refused item ≡ None
  pub is : given ≡ remembered (p.make item (reached (behind p.padded read_state) c))

pub parted : (bytes : List ℕ) (bit : ℕ) (p : Plan) (c : Config) (given : Given) → followed bytes bit p c ≡ told given → Parted bytes p c given
unfolding followed
parted bytes bit p c given h =
    let u = bind_told (charge_at bit p c.meter) (λ (m : Metering). at_event bit (p.read (read_state_in bytes m c)) >>= λ found. unless (p.refused found.0) bit found.1.context.meter >>= λ free. told (remembered (p.make found.0 (reached (behind p.padded found.1) c)))) given h in
    let v = bind_told (at_event bit (p.read (read_state_in bytes u.0 c))) (λ (found : p.Item × ReadState). unless (p.refused found.0) bit found.1.context.meter >>= λ free. told (remembered (p.make found.0 (reached (behind p.padded found.1) c)))) given u.2 in
    let w = bind_told (unless (p.refused v.0.0) bit v.0.1.context.meter) (λ (free : Metering). told (remembered (p.make v.0.0 (reached (behind p.padded v.0.1) c)))) given v.2 in
    record {
      meter = u.0;
      charged = charge_is bit p c.meter u.0 u.1;
      item = v.0.0;
      read_state = v.0.1;
      read = at_event_is bit (p.read (read_state_in bytes u.0 c)) v.0 v.1;
      free = (unless_is (p.refused v.0.0) bit v.0.1.context.meter w.0 w.1).0;
      is = sym (told_is (remembered (p.make v.0.0 (reached (behind p.padded v.0.1) c))) given w.2);
    }

module _ (b : Align) (bytes : List ℕ) (fits : IsBytes bytes) where
  pub record Taken (p : Plan) (c : Config) (given : Given) : Type 0 where
    pub text : List Bool
    pub followed : IsFollowed p c given text
    pub front : Front (spot_in bytes c) text (spot_in bytes given.1)
    pub aligned : IsAligned b (spot_in bytes given.1)

  further_is : (c : Config) (k : ReadState) (w : Context) (n : ℕ) → k.spot.place ≡ c.place + n → k.context ≡ w → reached k c ≡ further c n w
  further_is c k w n e f = ap (λ (z : ℕ). record c { place = z; meter = k.context.meter; tables = k.context.tables }) e ∙ ap (λ (z : Context). further c n z) f

  pub followed_takes : (p : Plan) → ContextItem {X = p.Item} b p.read p.Spells → Keeps p → (c : Config) (given : Given) → c.place ≤ 8 * length bytes → IsAligned b (spot_in bytes c) → Parted bytes p c given → Taken p c given
  followed_takes p item keeps c given le al h =
      let k : ReadState = h.read_state in
      let t = item.takes h.item (read_state_in bytes h.meter c) k fits al h.read in
      let in_bytes : k.spot.bytes ≡ bytes = t.front.bytes in
      let within : k.spot.place ≤ 8 * length k.spot.bytes = subst (λ (z : List ℕ). k.spot.place ≤ 8 * length z) (sym in_bytes) (front_within (spot_in bytes c) k.spot t.text t.front le) in
      let pad = padded_by p.padded b k within t.aligned in
      let far : Spot = (behind p.padded k).spot in
      let front : Front (spot_in bytes c) (t.text ++ pad.text) far = front_then (spot_in bytes c) k.spot far t.text pad.text t.front pad.front in
      let there : given.1.place ≡ far.place = ap (λ (z : Given). z.1.place) h.is ∙ keeps h.item (reached (behind p.padded k) c) in
      let same : far ≡ spot_in bytes given.1 = same_spot far (spot_in bytes given.1) front.bytes (sym there) in
      record {
        text = t.text ++ pad.text;
        followed = record {
          meter = h.meter;
          charged = h.charged;
          item = h.item;
          content = t.text;
          padding = pad.text;
          parts = refl;
          after = k.context;
          charges = t.charges;
          spelled = t.spelled;
          taken = was_taken b p.Spells p.read item h.item (read_state_in bytes h.meter c) k fits al h.read t;
          free = h.free;
          padded = subst (λ (z : ℕ). IsPadding p.padded z pad.text) t.front.place pad.padding;
          is = h.is ∙ ap (λ (z : Config). remembered (p.make h.item z)) (further_is c (behind p.padded k) k.context (length (t.text ++ pad.text)) front.place (behind_context p.padded k));
        };
        front = subst (λ (s : Spot). Front (spot_in bytes c) (t.text ++ pad.text) s) same front;
        aligned = subst (λ (s : Spot). IsAligned b s) same pad.aligned;
      }

  pub followed_again : (bit : ℕ) (p : Plan) → ContextItem {X = p.Item} b p.read p.Spells → (c : Config) (given : Given) (text more : List Bool) → IsAligned b (spot_in bytes c) → IsFollowed p c given text → rest (spot_in bytes c) ≡ text ++ more → followed bytes bit p c ≡ told given
  unfolding followed
  followed_again bit p item c given text more al h e =
      let w : Context = record { meter = h.meter; tables = c.tables } in
      let parts : rest (spot_in bytes c) ≡ h.content ++ (h.padding ++ more) = e ∙ ap (λ (x : List Bool). x ++ more) h.parts ∙ append_assoc h.content h.padding more in
      let r1 : charge_at bit p c.meter ≡ told h.meter = charge_again bit p c.meter h.meter h.charged in
      let at_item : ReadState = record { spot = moved (spot_in bytes c) (length h.content); context = h.after } in
      let r2 : p.read (read_state_in bytes h.meter c) ≡ told (h.item, at_item) = where_taken b p.Spells p.read item h.item (spot_in bytes c) w h.after h.charges h.content (h.padding ++ more) fits al h.spelled h.taken parts in
      let far : behind p.padded at_item ≡ record { spot = moved (moved (spot_in bytes c) (length h.content)) (length h.padding); context = h.after } = padded_place p.padded (moved (spot_in bytes c) (length h.content)) h.after h.padding h.padded in
      let count : length text ≡ length h.content + length h.padding = ap (λ (x : List Bool). length x) h.parts ∙ length-append h.content h.padding in
      let place : (behind p.padded at_item).spot.place ≡ c.place + length text = ap (λ (z : ReadState). z.spot.place) far ∙ omega (arith, count) in
      let there : reached (behind p.padded at_item) c ≡ further c (length text) h.after = further_is c (behind p.padded at_item) h.after (length text) place (ap (λ (z : ReadState). z.context) far) in
      rw (r1, r2, h.free) (ap (λ (z : Config). told (remembered (p.make h.item z))) there ∙ ap (λ (z : Given). told z) (sym h.is))

-- ---- one event
abbrev keeps_place : (g : Setting) (c : Config) (r : Rule) → Keeps (plan_of g c r)
keeps_place g c r x k = (made_stays g (alone_in c.elements c.outer) c r r.on x k).place

-- one event that is given: the production, and how its plan came to its end
pub record Stepped (g : Setting) (bytes : List ℕ) (c : Config) (given : Given) : Type 0 where
  pub rule : Rule
  pub spot : Spot
  pub code : code_at (align_of g.options) (rules_of g c) (spot_in bytes c) ≡ fine (rule, spot)
  pub rest_is : Parted bytes (plan_of g c rule) (at_place c spot.place) given

pub stepped : (g : Setting) (bytes : List ℕ) (c : Config) (given : Given) → one g bytes c ≡ told given → Stepped g bytes c given
unfolding one
stepped g bytes c given h =
    let u = bind_told (failing c.meter (code_at (align_of g.options) (rules_of g c) (spot_in bytes c))) (λ (chosen : Rule × Spot). followed bytes c.place (plan_of g c chosen.0) (at_place c chosen.1.place)) given h in
    record {
      rule = u.0.0;
      spot = u.0.1;
      code = not_failing c.meter (code_at (align_of g.options) (rules_of g c) (spot_in bytes c)) u.0 u.1;
      rest_is = parted bytes c.place (plan_of g c u.0.0) (at_place c u.0.1.place) given u.2;
    }

pub one_is_spelled : OneIsSpelled
one_is_spelled g bytes c given book at h =
    let b : Align = align_of g.options in
    let s : Spot = spot_in bytes c in
    let u = stepped g bytes c given h in
    let rule : Rule = u.rule in
    let on : Config = at_place c u.spot.place in
    let k = (spelled_item (rules_of g c) (closed_up g c book) b).takes rule s u.spot at.octets at.aligned u.code in
    let same : u.spot ≡ spot_in bytes on = same_spot u.spot (spot_in bytes on) k.front.bytes refl in
    let al : IsAligned b (spot_in bytes on) = subst (λ (z : Spot). IsAligned b z) same k.aligned in
    let within : u.spot.place ≤ 8 * length bytes = front_within s u.spot k.text k.front at.within in
    let t = followed_takes b bytes at.octets (plan_of g c rule) (plan_reads g (alone_in c.elements c.outer) c rule rule.on).item (keeps_place g c rule) on given within al u.rest_is in
    let front : Front s (k.text ++ t.text) (spot_in bytes given.1) = front_then s (spot_in bytes on) (spot_in bytes given.1) k.text t.text (subst (λ (z : Spot). Front s k.text z) same k.front) t.front in (
      k.text ++ t.text,
      record {
        rule = rule;
        code = k.text;
        content = t.text;
        parts = refl;
        told = k.spelled;
        followed = subst (λ (n : ℕ). IsFollowed (plan_of g c rule) (at_place c n) given t.text) k.front.place t.followed;
      },
      front,
      record { octets = at.octets; within = front_within s (spot_in bytes given.1) (k.text ++ t.text) front at.within; aligned = t.aligned },
    )

pub spelled_is_one : SpelledIsOne
unfolding one
spelled_is_one g bytes c given text more book at h e =
    let b : Align = align_of g.options in
    let s : Spot = spot_in bytes c in
    let item = spelled_item (rules_of g c) (closed_up g c book) b in
    let parts : rest s ≡ h.code ++ (h.content ++ more) = e ∙ ap (λ (x : List Bool). x ++ more) h.parts ∙ append_assoc h.code h.content more in
    let r1 = item.again h.rule h.code s (h.content ++ more) at.octets at.aligned h.told parts in
    let al : IsAligned b (moved s (length h.code)) = aligned_on b s (length h.code) at.aligned (item.whole h.rule h.code h.told) in
    let r2 = followed_again b bytes at.octets c.place (plan_of g c h.rule) (plan_reads g (alone_in c.elements c.outer) c h.rule h.rule.on).item (at_place c (c.place + length h.code)) given h.content more al h.followed (rest_moved s h.code (h.content ++ more) parts) in
    rw (r1, r2) refl

-- ---- it is one
one_moves : (g : Setting) (c : Config) (given : Given) (text : List Bool) → IsOne g c given text → given.1.place ≡ c.place + length text
one_moves g c given text h =
    let f = h.followed in
    let m : given.1.place ≡ c.place + length h.code + length h.content = ap (λ (z : Given). z.1.place) f.is ∙ keeps_place g c h.rule f.item (further (at_place c (c.place + length h.code)) (length h.content) f.after) in
    omega (arith, m, ap (λ (t : List Bool). length t) h.parts, length-append h.code h.content)

same_front : (xs text words more less : List Bool) → xs ≡ text ++ more → xs ≡ words ++ less → length text ≡ length words → text ≡ words
same_front xs text words more less e f n =
    sym (take_at text more (length text) refl) ∙ ap (λ (t : List Bool). take (length text) t) (sym e ∙ f) ∙ ap (λ (k : ℕ). take k (words ++ less)) n ∙ take_at words less (length words) refl

pub one_at_most : OneAtMost
one_at_most g bytes c given other text words more less book at p q e f =
    let one : given ≡ other = told_is given other (sym (spelled_is_one g bytes c given text more book at p e) ∙ spelled_is_one g bytes c other words less book at q f) in
    let m = one_moves g c given text p in
    let n = one_moves g c other words q in
    let same : given.1.place ≡ other.1.place = ap (λ (z : Given). z.1.place) one in
    (one, same_front (rest (spot_in bytes c)) text words more less e f (omega (arith, m, n, same)))
