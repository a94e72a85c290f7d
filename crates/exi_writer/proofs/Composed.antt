-- A writer stands where reading of what it wrote leads, so that what holds of each configuration that is read holds there.
use Rattle.std.proofs.Common.{◌≡◌, ◌+◌, ◌*◌, ◌%◌, ◌≤◌, ◌<◌, ◌^◌, ℕ, zero, suc, Bool, false, List, [], ◌∷◌, ◌++◌, length, drop, Option, Some, refl, sym, ap, ◌∙◌, subst, arith, append_assoc, append-nil}
use Rattle.std.specs.Prelude.{◌-◌, Result, Ok, Err, replicate}
use Rattle.std.proofs.lemmas.List.{length-append, length-drop}
use Rattle.exi_bits.specs.Bits.{IsBytes, bits, number_bits, rest, value_of}
use Rattle.exi_bits.specs.Written.{IsWholeBytes}
use Rattle.exi_bits.proofs.BitLaws.{length-bits, number_bits-value_of, value_of_below}
use Rattle.exi_gram.specs.Switches.{align_of}
use Rattle.exi_names.specs.Events.{Happening}
use Rattle.exi_names.specs.Events as event
use Rattle.exi_processing.specs.Changes.{put_aside}
use Rattle.exi_processing.specs.Configurations.{Config, first_config, spot_in}
use Rattle.exi_processing.specs.Handing.{IsSteady}
use Rattle.exi_processing.specs.OneEvent.{one}
use Rattle.exi_processing.specs.Plans.{Given}
use Rattle.exi_processing.specs.Reading.{IsReached, Reading}
use Rattle.exi_processing.specs.Runs.{has_ended}
use Rattle.exi_processing.specs.Splices.{AtFragment}
use Rattle.exi_processing.specs.Spelled.{IsIn}
use Rattle.exi_processing.proofs.Reached.{reached_are_sound}
use Rattle.exi_processing.proofs.Steady.{steady}
use Rattle.exi_processing.proofs.Turning.{leads_push, stays_fragment, turn_went, view}
use Rattle.exi_writing.specs.Laws.{IsStep, OneIsRead}
use Rattle.exi_writing.specs.OneEvent.{Refused, Written, written}
use Rattle.exi_writing.specs.Runs.{Run, in_front, nothing_from, then_run, written_all}
use Rattle.exi_writing.proofs.OneEvent.{bind_parts, one_going, one_sound}
use Rattle.exi_pen.specs.Pages.{IsReady, Page}
use Rattle.exi_writer.proofs.Names.{written_again}
use Rattle.exi_writer.specs.Writing.{Composing, IsComposed, MayGoOn, composed_behind}

-- ---- bytes that begin with given bits
abbrev Bits8 : Bool → Bool → Bool → Bool → Bool → Bool → Bool → Bool → List Bool
Bits8 a b c d e f g h = a ∷ b ∷ c ∷ d ∷ e ∷ f ∷ g ∷ h ∷ []

record Filled (text : List Bool) : Type 0 where
  bytes : List ℕ
  more : List Bool
  octets : IsBytes bytes
  are : bits bytes ≡ text ++ more

byte_below : (byte : ℕ) (bytes : List ℕ) → byte < 256 → IsBytes bytes → IsBytes (byte ∷ bytes)
byte_below byte bytes less h zero = less
byte_below byte bytes less h (suc i) = h i

byte_bits : (text : List Bool) → length text ≡ 8 → (value_of text < 256) × (number_bits 8 (value_of text) ≡ text)
byte_bits text e =
    let k = value_of_below text in
    let n = number_bits-value_of text in
    (subst (λ (i : ℕ). value_of text < 2 ^ i) e k, subst (λ (i : ℕ). number_bits i (value_of text) ≡ text) e n)

filled_one : (text : List Bool) (pad : List Bool) → length (text ++ pad) ≡ 8 → Filled text
unfolding bits number_bits
filled_one text pad e =
    let k = byte_bits (text ++ pad) e in
    record { bytes = value_of (text ++ pad) ∷ []; more = pad; octets = byte_below (value_of (text ++ pad)) [] k.0 (λ i. omega arith); are = append-nil (number_bits 8 (value_of (text ++ pad))) ∙ k.1 }

filled : (n : ℕ) (text : List Bool) → length text ≤ n → Filled text
unfolding bits number_bits
filled n [] le = record { bytes = []; more = []; octets = λ i. omega arith; are = refl }
filled n (a ∷ []) le = filled_one (a ∷ []) (replicate 7 false) refl
filled n (a ∷ b ∷ []) le = filled_one (a ∷ b ∷ []) (replicate 6 false) refl
filled n (a ∷ b ∷ c ∷ []) le = filled_one (a ∷ b ∷ c ∷ []) (replicate 5 false) refl
filled n (a ∷ b ∷ c ∷ d ∷ []) le = filled_one (a ∷ b ∷ c ∷ d ∷ []) (replicate 4 false) refl
filled n (a ∷ b ∷ c ∷ d ∷ e ∷ []) le = filled_one (a ∷ b ∷ c ∷ d ∷ e ∷ []) (replicate 3 false) refl
filled n (a ∷ b ∷ c ∷ d ∷ e ∷ f ∷ []) le = filled_one (a ∷ b ∷ c ∷ d ∷ e ∷ f ∷ []) (replicate 2 false) refl
filled n (a ∷ b ∷ c ∷ d ∷ e ∷ f ∷ g ∷ []) le = filled_one (a ∷ b ∷ c ∷ d ∷ e ∷ f ∷ g ∷ []) (replicate 1 false) refl
filled zero (a ∷ b ∷ c ∷ d ∷ e ∷ f ∷ g ∷ h ∷ text) le = absurd (omega (arith, le))
filled (suc n) (a ∷ b ∷ c ∷ d ∷ e ∷ f ∷ g ∷ h ∷ text) le =
    let r = filled n text (omega (arith, le)) in
    let k = byte_bits (Bits8 a b c d e f g h) refl in
    record {
      bytes = value_of (Bits8 a b c d e f g h) ∷ r.bytes;
      more = r.more;
      octets = byte_below (value_of (Bits8 a b c d e f g h)) r.bytes k.0 r.octets;
      are = ap (λ (z : List Bool). z ++ bits r.bytes) k.1 ∙ ap (λ (z : List Bool). Bits8 a b c d e f g h ++ z) r.are;
    }

-- ---- what an event needs
pub ready : (w : Composing) (p : Page) → IsComposed w → p ≡ record { setting = w.setting; bits = w.bits; config = w.config } → IsReady p
ready w p k e =
    let f = filled (length w.bits) w.bits (omega arith) in
    let l = k.leads f.bytes f.more f.octets f.are in
    let s : IsSteady (record { setting = w.setting; bytes = f.bytes; config = w.config }) = steady (record { setting = w.setting; bytes = f.bytes; body = k.body }) k.start k.limits l.0 w.config k.within k.is_setting k.names l.1 in
    rw e record {
      place = k.place;
      there = s.there;
      elements = s.elements;
      room = s.room;
      levels = s.levels;
      sound = reached_are_sound (record { setting = w.setting; bytes = f.bytes; body = k.body }) k.start k.limits l.0 w.config k.is_setting k.names l.1;
      is_setting = k.is_setting;
      names = k.names;
    }

-- ---- the same bits, as far
pub composed_same : (v w : Composing) → v.setting ≡ w.setting → v.bits ≡ w.bits → v.config ≡ w.config → IsComposed v → IsComposed w
composed_same v w a b c k = rw (← a, ← b, ← c) record {
  body = k.body;
  start = k.start;
  limits = k.limits;
  within = k.within;
  is_setting = k.is_setting;
  names = k.names;
  sound = k.sound;
  named = k.named;
  place = k.place;
  aligned = k.aligned;
  leads = k.leads;
}

-- ---- one event more
drop_front : (a b : List Bool) → drop (length a) (a ++ b) ≡ b
drop_front [] b = refl
drop_front (x ∷ a) b = drop_front a b

is_in : (w : Composing) (bytes : List ℕ) (more : List Bool) → IsComposed w → IsBytes bytes → bits bytes ≡ w.bits ++ more → IsIn w.setting bytes w.config
is_in w bytes more k octets e =
    let n : 8 * length bytes ≡ length w.bits + length more = sym (length-bits bytes) ∙ ap length e ∙ length-append w.bits more in
    record {
      octets = octets;
      within = (let p = k.place in omega (arith, n, p));
      aligned = λ b. ap (λ (i : ℕ). i % 8) k.place ∙ k.aligned b;
    }

-- where the bits end behind an event
record IsBehind (w : Composing) (v : Written) : Type 0 where
  place : v.given.1.place ≡ length (w.bits ++ v.bits)
  aligned : IsWholeBytes (align_of w.setting.options) (w.bits ++ v.bits)

-- reading of the event, whatever follows
read_of : OneIsRead → (w : Composing) (e : Happening) (v : Written) (bytes : List ℕ) (more : List Bool) → IsComposed w → written w.setting w.config e ≡ Ok v → IsBytes bytes → bits bytes ≡ w.bits ++ (v.bits ++ more) → IsStep w.setting bytes w.config v more
read_of law w e v bytes more k h octets are =
    let left : rest (spot_in bytes w.config) ≡ v.bits ++ more = ap (λ (i : ℕ). drop i (bits bytes)) k.place ∙ ap (drop (length w.bits)) are ∙ drop_front w.bits (v.bits ++ more) in
    law w.setting bytes w.config e v more k.is_setting (is_in w bytes (v.bits ++ more) k octets are) k.sound h left

ends_at : (place : ℕ) (bytes : List ℕ) (text more : List Bool) → bits bytes ≡ text ++ more → place ≤ 8 * length bytes → drop place (bits bytes) ≡ more → place ≡ length text
ends_at place bytes text more are within left =
    let n : 8 * length bytes ≡ length text + length more = sym (length-bits bytes) ∙ ap length are ∙ length-append text more in
    let m : length (bits bytes) - place ≡ length more = sym (length-drop place (bits bytes)) ∙ ap length left in
    let k : length (bits bytes) ≡ 8 * length bytes = length-bits bytes in
    omega (arith, n, m, k, within)

behind_of : OneIsRead → (w : Composing) (e : Happening) (v : Written) → IsComposed w → written w.setting w.config e ≡ Ok v → IsBehind w v
behind_of law w e v k h =
    let f = filled (length (w.bits ++ v.bits)) (w.bits ++ v.bits) (omega arith) in
    let s = read_of law w e v f.bytes f.more k h f.octets (f.are ∙ append_assoc w.bits v.bits f.more) in
    let place : v.given.1.place ≡ length (w.bits ++ v.bits) = ends_at v.given.1.place f.bytes (w.bits ++ v.bits) f.more f.are s.stands.within s.left in
    record { place = place; aligned = λ b. ap (λ (i : ℕ). i % 8) (sym place) ∙ s.stands.aligned b }

pub composed_on : OneIsRead → (w new : Composing) (e : Happening) (v : Written) → IsComposed w → written w.setting w.config e ≡ Ok v → new.setting ≡ w.setting → new.bits ≡ w.bits ++ v.bits → new.config ≡ v.given.1 → has_ended v.given.1 ≡ false → IsComposed new
composed_on law w new e v k h setting text config going =
    let b = behind_of law w e v k h in
    composed_same (record { setting = w.setting; bits = w.bits ++ v.bits; config = v.given.1; waits = false }) new (sym setting) (sym text) (sym config) record {
      body = k.body;
      start = k.start;
      limits = k.limits;
      within = k.within;
      is_setting = k.is_setting;
      names = k.names;
      sound = one_sound w.setting w.config e v k.sound h;
      named = written_again w.setting w.config e v h;
      place = b.place;
      aligned = b.aligned;
      leads = λ bytes more octets are. (
          let behind : bits bytes ≡ w.bits ++ (v.bits ++ more) = are ∙ append_assoc w.bits v.bits more in
          let l = k.leads bytes (v.bits ++ more) octets behind in
          let s = read_of law w e v bytes more k h octets behind in
          (l.0 ++ v.given.0 ∷ [], leads_push w.setting bytes (first_config w.setting k.body k.start k.limits) w.config v.given.1 l.0 v.given.0 l.1 (turn_went w.setting bytes w.config v.given.1 v.given.0 s.read going))
          );
    }

-- ---- at a fragment
abbrev reading : Composing → List ℕ → Reading
reading w bytes = view (record { setting = w.setting; bytes = bytes; config = w.config }) false

reached : (w : Composing) (bytes : List ℕ) (more : List Bool) → IsComposed w → IsBytes bytes → bits bytes ≡ w.bits ++ more → IsReached (reading w bytes)
reached w bytes more k octets are =
    let l = k.leads bytes more octets are in
    record { body = k.body; start = k.start; limits = k.limits; within = k.within; book = k.is_setting; names = k.names; octets = octets; turns = l.0; leads = l.1; fragment = λ e. absurd cc }

given_is : (v : Written) (e : Happening) (c : Config) → v.given.0 ≡ Some e → v.given.1 ≡ c → v.given ≡ (Some e, c)
given_is v e c h k = ap (λ (o : Option Happening). (o, v.given.1)) h ∙ ap (λ (z : Config). (Some e, z)) k

-- where SC was written a fragment begins
pub fragment_at : OneIsRead → (w : Composing) (e : Happening) (v : Written) (byte : ℕ) (c : Config) → IsComposed w → written w.setting w.config e ≡ Ok v → v.given.0 ≡ Some (event.sc byte) → v.given.1 ≡ put_aside w.setting c → (at : ℕ) × AtFragment w.setting at (put_aside w.setting c)
fragment_at law w e v byte c k h given next =
    let f = filled (length (w.bits ++ v.bits)) (w.bits ++ v.bits) (omega arith) in
    let are : bits f.bytes ≡ w.bits ++ (v.bits ++ f.more) = f.are ∙ append_assoc w.bits v.bits f.more in
    let s = read_of law w e v f.bytes f.more k h f.octets are in
    let step : one w.setting f.bytes w.config ≡ Ok (Some (event.sc byte), put_aside w.setting c) = s.read ∙ ap (λ (z : Given). Ok z) (given_is v (event.sc byte) (put_aside w.setting c) given next) in
    (stays_fragment byte (record { setting = w.setting; bytes = f.bytes; config = w.config }) (record { setting = w.setting; bytes = f.bytes; config = c }) false (reading w f.bytes) refl refl (reached w f.bytes (v.bits ++ f.more) k f.octets are) step refl refl).fragment refl

-- ---- several events
pub may_same : (v w : Composing) → v.setting ≡ w.setting → v.bits ≡ w.bits → v.config ≡ w.config → MayGoOn v → MayGoOn w
may_same v w a b c k going = composed_same v w a b c (k (ap has_ended c ∙ going))

abbrev given_run : Run → Result Run Refused
given_run r = Ok r

run_is : (a b : Run) → given_run a ≡ given_run b → a ≡ b
run_is a b e = cc

pub then_parts : (w : Written) (o : Result Run Refused) (r : Run) → then_run w o ≡ Ok r → (s : Run) × (o ≡ Ok s) × (r ≡ in_front w s)
then_parts w (Ok s) r e = (s, refl, sym (run_is (in_front w s) r e))
then_parts w (Err why) r e = absurd cc

pub may_all : OneIsRead → (es : List Happening) (w : Composing) (r : Run) → MayGoOn w → written_all w.setting w.config es ≡ Ok r → MayGoOn (composed_behind w r false)
may_all law [] w r k h =
    let is : nothing_from w.config ≡ r = run_is (nothing_from w.config) r h in
    may_same w (composed_behind w r false) refl (sym (append-nil w.bits) ∙ ap (λ (x : Run). w.bits ++ x.bits) is) (ap (λ (x : Run). x.last) is) k
may_all law (e ∷ es) w r k h =
    let a = bind_parts (written w.setting w.config e) _ r h in
    let v = a.0 in
    let t = then_parts v (written_all w.setting v.given.1 es) r a.2 in
    let s = t.0 in
    let mid : Composing = record { setting = w.setting; bits = w.bits ++ v.bits; config = v.given.1; waits = false } in
    let here : MayGoOn mid = λ going. composed_on law w mid e v (k (one_going w.setting w.config e v a.1)) a.1 refl refl refl going in
    let there : MayGoOn (composed_behind mid s false) = may_all law es mid s here t.1 in
    may_same (composed_behind mid s false) (composed_behind w r false) refl (append_assoc w.bits v.bits s.bits ∙ ap (λ (x : Run). w.bits ++ x.bits) (sym t.2)) (ap (λ (x : Run). x.last) (sym t.2)) there
