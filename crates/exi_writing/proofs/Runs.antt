-- What is written is read, event by event, and so is a list.
use Rattle.std.proofs.Common.{◌≡◌, ℕ, suc, Bool, true, false, List, [], ◌∷◌, ◌++◌, length, Option, Some, None, refl, sym, ap, ◌∙◌, subst, inl, inr, append_assoc, arith}
use Rattle.std.specs.Prelude.{Result, Ok, Err, nat_lt}
use Rattle.std.proofs.lemmas.Bool.{cases_Bool, le-ltb}
use Rattle.std.proofs.lemmas.List.{append_cancel_left}
use Rattle.exi_bits.specs.Bits.{rest}
use Rattle.exi_names.specs.Events.{Happening}
use Rattle.exi_tables.proofs.Sound.{first_sound}
use Rattle.exi_gram.specs.Switches.{fragment}
use Rattle.exi_processing.specs.Configurations.{Config, IsSetting, Setting, body_outer, spot_in}
use Rattle.exi_processing.specs.OneEvent.{one}
use Rattle.exi_processing.specs.Runs.{IsRun, Job, closing, done, ends, first, goes, has_ended, is_end, turn, turned_by, whole_bytes}
use Rattle.exi_processing.specs.declared.end.End.{End}
use Rattle.exi_processing.specs.declared.start.Start.{Start}
use Rattle.exi_processing.specs.Spelled.{IsIn, OneAtMost, SpelledIsOne}
use Rattle.exi_processing.specs.Spelled.{OneIsSpelled as ReadIsSpelled}
use Rattle.exi_processing.specs.declared.start.Start.TheVariants as start
use Rattle.exi_writing.specs.Laws.{ListIsRead, OneIsRead, OneIsSpelled}
use Rattle.exi_writing.specs.OneEvent.{Refused, Written, written}
use Rattle.exi_writing.specs.Pruned.{pruned}
use Rattle.exi_writing.specs.Runs.{Refusal, Run, behind_run, body, go_on, in_front, nothing_from, own, put, put_from, put_then, then_run, written_all}
use Rattle.exi_writing.specs.Sound.{HasSoundTables}
use Rattle.exi_writing.proofs.OneEvent.{bind_parts, one_going, one_sound, one_spelled, one_start}

pub spelled_law : OneIsSpelled
spelled_law g c e w sound h = one_spelled g c e w sound h

-- the laws of reading
pub record Laws : Type 0 where
  pub spelled : ReadIsSpelled
  pub read : SpelledIsOne
  pub most : OneAtMost

-- ---- one event
pub one_read : Laws → OneIsRead
one_read laws g bytes c e w more book stands sound h front =
    let is_one = one_spelled g c e w sound h in
    let read : one g bytes c ≡ Ok w.given = laws.read g bytes c w.given w.bits more book stands is_one front in
    let back = laws.spelled g bytes c w.given book stands read in
    let text = back.0 in
    let behind = back.2 in
    let left = rest (spot_in bytes w.given.1) in
    let parts : rest (spot_in bytes c) ≡ text ++ left = behind.parts in
    let same : text ≡ w.bits = (laws.most g bytes c w.given w.given text w.bits left more book stands back.1 is_one parts front).1 in
    let joined : w.bits ++ left ≡ w.bits ++ more = ap (λ (x : List Bool). x ++ left) (sym same) ∙ sym parts ∙ front in
    record { read = read; stands = back.3; left = append_cancel_left w.bits left more joined; sound = one_sound g c e w sound h; start = one_start g c e w sound h }

-- ---- events one after another
-- each leads on by one step of reading, and none is ended before the last
abbrev Chain : Setting → List ℕ → Config → List (Option Happening) → Config → Type 0
Chain g bytes c [] last = c ≡ last
Chain g bytes c (e ∷ es) last = (has_ended c ≡ false) × ((next : Config) × (one g bytes c ≡ Ok (e, next)) × (next.start ≡ c.start) × Chain g bytes next es last)

chain_both : (g : Setting) (bytes : List ℕ) (c d last : Config) (es fs : List (Option Happening)) → Chain g bytes c es d → Chain g bytes d fs last → Chain g bytes c (es ++ fs) last
chain_both g bytes c d last [] fs p q = subst (λ (x : Config). Chain g bytes x fs last) (sym p) q
chain_both g bytes c d last (e ∷ es) fs p q = (p.0, (p.1.0, p.1.1, p.1.2, chain_both g bytes p.1.0 d last es fs p.1.3 q))

record Chained (g : Setting) (bytes : List ℕ) (c : Config) (r : Run) (more : List Bool) : Type 0 where
  chain : Chain g bytes c r.events r.last
  stands : IsIn g bytes r.last
  left : rest (spot_in bytes r.last) ≡ more
  sound : HasSoundTables r.last

abbrev given_run : Run → Result Run Refused
given_run r = Ok r

run_is : (a b : Run) → given_run a ≡ given_run b → a ≡ b
run_is a b e = cc

-- an event in front of others
chained_front : Laws → (g : Setting) (bytes : List ℕ) (c : Config) (e : Happening) (w : Written) (r : Run) (more : List Bool) → IsSetting g → IsIn g bytes c → HasSoundTables c → written g c e ≡ Ok w → rest (spot_in bytes c) ≡ (w.bits ++ r.bits) ++ more
    → ((IsIn g bytes w.given.1) → (HasSoundTables w.given.1) → rest (spot_in bytes w.given.1) ≡ r.bits ++ more → Chained g bytes w.given.1 r more) → Chained g bytes c (in_front w r) more
chained_front laws g bytes c e w r more book stands sound h front others =
    let s = one_read laws g bytes c e w (r.bits ++ more) book stands sound h (front ∙ append_assoc w.bits r.bits more) in
    let k = others s.stands s.sound s.left in
    record { chain = (one_going g c e w h, (w.given.1, s.read, s.start, k.chain)); stands = k.stands; left = k.left; sound = k.sound }

then_parts : (w : Written) (o : Result Run Refused) (r : Run) → then_run w o ≡ Ok r → (s : Run) × (o ≡ Ok s) × (r ≡ in_front w s)
then_parts w (Ok s) r e = (s, refl, sym (run_is (in_front w s) r e))
then_parts w (Err why) r e = absurd cc

all_read : Laws → (g : Setting) (bytes : List ℕ) (c : Config) (es : List Happening) (r : Run) (more : List Bool) → IsSetting g → IsIn g bytes c → HasSoundTables c → written_all g c es ≡ Ok r → rest (spot_in bytes c) ≡ r.bits ++ more → Chained g bytes c r more
all_read laws g bytes c [] r more book stands sound h front =
    let is = run_is (nothing_from c) r h in
    rw (← is) record { chain = refl; stands = stands; left = subst (λ (x : Run). rest (spot_in bytes c) ≡ x.bits ++ more) (sym is) front; sound = sound }
all_read laws g bytes c (e ∷ es) r more book stands sound h front =
    let a = bind_parts (written g c e) _ r h in
    let w = a.0 in
    let t = then_parts w (written_all g w.given.1 es) r a.2 in
    let s = t.0 in
    rw t.2 (chained_front laws g bytes c e w s more book stands sound a.1 (subst (λ (x : Run). rest (spot_in bytes c) ≡ x.bits ++ more) t.2 front)
    (λ st so fr. all_read laws g bytes w.given.1 es s more book st so t.1 fr))

put_read : Laws → (g : Setting) (bytes : List ℕ) (c : Config) (e : Happening) (r : Run) (more : List Bool) → IsSetting g → IsIn g bytes c → HasSoundTables c → put g c e ≡ Ok r → rest (spot_in bytes c) ≡ r.bits ++ more → Chained g bytes c r more
unfolding put
put_read laws g bytes c e r more book stands sound h front =
    let a = bind_parts (written g c e) _ r h in
    let w = a.0 in
    let t = then_parts w (written_all g w.given.1 (own w.given.1)) r a.2 in
    let s = t.0 in
    rw t.2 (chained_front laws g bytes c e w s more book stands sound a.1 (subst (λ (x : Run). rest (spot_in bytes c) ≡ x.bits ++ more) t.2 front)
    (λ st so fr. all_read laws g bytes w.given.1 (own w.given.1) s more book st so t.1 fr))

-- ---- a list
record Whole (g : Setting) (bytes : List ℕ) (c : Config) (r : Run) (more : List Bool) : Type 0 where
  chained : Chained g bytes c r more
  ended : has_ended r.last ≡ true

abbrev listed_run : Run → Result Run Refusal
listed_run r = Ok r

listed_is : (a b : Run) → listed_run a ≡ listed_run b → a ≡ b
listed_is a b e = cc

behind_run_parts : (r : Run) (o : Result Run Refusal) (t : Run) → behind_run r o ≡ Ok t → (s : Run) × (o ≡ Ok s) × (t ≡ record { bits = r.bits ++ s.bits; events = r.events ++ s.events; last = s.last })
behind_run_parts r (Ok s) t e = (s, refl, sym (listed_is (record { bits = r.bits ++ s.bits; events = r.events ++ s.events; last = s.last }) t e))
behind_run_parts r (Err why) t e = absurd cc

-- what is read of the others
abbrev Others : Setting → List ℕ → (Config → Result Run Refusal) → Type 0
Others g bytes others = (d : Config) (r : Run) (more : List Bool) → IsIn g bytes d → HasSoundTables d → others d ≡ Ok r → rest (spot_in bytes d) ≡ r.bits ++ more → Whole g bytes d r more

on_read : Laws → (n : ℕ) (g : Setting) (bytes : List ℕ) (c : Config) (e : Happening) (o : Result Run Refused) (others : Config → Result Run Refusal) (r : Run) (more : List Bool) → IsSetting g → IsIn g bytes c → HasSoundTables c → Others g bytes others → put g c e ≡ o → go_on n o others ≡ Ok r → rest (spot_in bytes c) ≡ r.bits ++ more → Whole g bytes c r more
on_read laws n g bytes c e (Err why) others r more book stands sound read is h front = absurd cc
on_read laws n g bytes c e (Ok s) others r more book stands sound read is h front =
    let b = behind_run_parts s (others s.last) r h in
    let t = b.0 in
    let whole : rest (spot_in bytes c) ≡ s.bits ++ (t.bits ++ more) = subst (λ (x : Run). rest (spot_in bytes c) ≡ x.bits ++ more) b.2 front ∙ append_assoc s.bits t.bits more in
    let one = put_read laws g bytes c e s (t.bits ++ more) book stands sound is whole in
    let more_read = read s.last t more one.stands one.sound b.1 one.left in
    rw b.2 record {
      chained = record { chain = chain_both g bytes c s.last t.last s.events t.events one.chain more_read.chained.chain; stands = more_read.chained.stands; left = more_read.chained.left; sound = more_read.chained.sound };
      ended = more_read.ended;
    }

then_read : Laws → (n : ℕ) (g : Setting) (bytes : List ℕ) (c : Config) (o : Option Happening) (others : Config → Result Run Refusal) (r : Run) (more : List Bool) → IsSetting g → IsIn g bytes c → HasSoundTables c → Others g bytes others → put_then n g c o others ≡ Ok r → rest (spot_in bytes c) ≡ r.bits ++ more → Whole g bytes c r more
then_read laws n g bytes c None others r more book stands sound read h front = read c r more stands sound h front
then_read laws n g bytes c (Some e) others r more book stands sound read h front = on_read laws n g bytes c e (put g c e) others r more book stands sound read refl h front

from_read : Laws → (n : ℕ) (g : Setting) (bytes : List ℕ) (c : Config) (es : List Happening) (r : Run) (more : List Bool) → IsSetting g → IsIn g bytes c → HasSoundTables c → put_from n g c es ≡ Ok r → rest (spot_in bytes c) ≡ r.bits ++ more → Whole g bytes c r more
from_read laws n g bytes c [] r more book stands sound h front = elim (cases_Bool (has_ended c)) [
  | inl k ↦
      let is = listed_is (nothing_from c) r (rw k at h) in
      rw (← is) record {
        chained = record { chain = refl; stands = stands; left = subst (λ (x : Run). rest (spot_in bytes c) ≡ x.bits ++ more) (sym is) front; sound = sound };
        ended = k;
      }
  | inr k ↦ absurd (let f = rw k at h in cc)
]
from_read laws n g bytes c (e ∷ es) r more book stands sound h front =
    then_read laws n g bytes c (pruned g.options e) (λ d. put_from (suc n) g d es) r more book stands sound (λ d t left st so is fr. from_read laws (suc n) g bytes d es t left book st so is fr) h front

-- ---- a chain to an end is a run
abbrev end_of : List ℕ → Config → End
end_of bytes c = closing c.start bytes c

chain_run : (g : Setting) (bytes : List ℕ) (c last : Config) (e : Option Happening) (es : List (Option Happening)) → Chain g bytes c (e ∷ es) last → has_ended last ≡ true → IsRun g bytes c (e ∷ es) (end_of bytes last)
chain_run g bytes c last e [] p ended =
    let next = p.1.0 in
    let same : next ≡ last = p.1.3 in
    let here : has_ended next ≡ true = subst (λ (x : Config). has_ended x ≡ true) (sym same) ended in
    let step : turn g bytes c ≡ ends e (end_of bytes next) = ap (turned_by bytes c) p.1.1 ∙ rw here refl in
    record { before = []; reached = c; leads = refl; event = e; at_end = step ∙ ap (λ (x : Config). ends e (end_of bytes x)) same; all = refl }
chain_run g bytes c last e (f ∷ fs) p ended =
    let next = p.1.0 in
    let k = chain_run g bytes next last f fs p.1.3 ended in
    let going : has_ended next ≡ false = p.1.3.0 in
    let step : turn g bytes c ≡ goes e next = ap (turned_by bytes c) p.1.1 ∙ rw going refl in
    record { before = e ∷ k.before; reached = k.reached; leads = (next, step, k.leads); event = k.event; at_end = k.at_end; all = ap (λ (x : List (Option Happening)). e ∷ x) k.all }

-- the start stays
chain_start : (g : Setting) (bytes : List ℕ) (c last : Config) (es : List (Option Happening)) → Chain g bytes c es last → last.start ≡ c.start
chain_start g bytes c last [] p = ap (λ (x : Config). x.start) (sym p)
chain_start g bytes c last (e ∷ es) p = chain_start g bytes p.1.0 last es p.1.3 ∙ p.1.2

first_going : (known b : Bool) → is_end (body_outer known b) ≡ false
first_going known false = refl
first_going true true = refl
first_going false true = refl

true_false : true ≡ false → ⊥
true_false e = absurd cc

list_run : (j : Job) (c : Config) (r : Run) (es : List (Option Happening)) → c.start ≡ start.Body → has_ended c ≡ false → es ≡ r.events → Chain j.setting j.bytes c es r.last → has_ended r.last ≡ true → length j.bytes ≡ whole_bytes r.last.place → IsRun j.setting j.bytes c r.events (done r.last)
list_run j c r [] from going is p ended long = absurd (true_false (sym ended ∙ ap has_ended (sym p) ∙ going))
list_run j c r (e ∷ es) from going is p ended long =
    let k = chain_run j.setting j.bytes c r.last e es p ended in
    let start_is : r.last.start ≡ start.Body = chain_start j.setting j.bytes c r.last (e ∷ es) p ∙ from in
    let fits : nat_lt (whole_bytes r.last.place) (length j.bytes) ≡ false = ap (nat_lt (whole_bytes r.last.place)) long ∙ le-ltb (whole_bytes r.last.place) (whole_bytes r.last.place) (omega arith) in
    let closed : end_of j.bytes r.last ≡ done r.last = ap (λ (s : Start). closing s j.bytes r.last) start_is ∙ rw fits refl in
    subst (λ (x : List (Option Happening)). IsRun j.setting j.bytes c x (done r.last)) is (subst (λ (x : End). IsRun j.setting j.bytes c (e ∷ es) x) closed k)

pub list_read : Laws → ListIsRead
unfolding body
list_read laws j limits es r more book stands h front long =
    let c = first j start.Body limits in
    let tables : HasSoundTables c = record { here = first_sound _; aside = tt } in
    let w = from_read laws 1 j.setting j.bytes c es r more book stands tables h front in
    list_run j c r r.events refl (first_going j.setting.schema.known (fragment j.setting.options)) refl w.chained.chain w.ended long
