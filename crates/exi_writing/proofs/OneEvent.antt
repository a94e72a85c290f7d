-- One event that is written is spelled so.
use Rattle.std.proofs.Common.{◌≡◌, ◌+◌, ◌-◌, ◌*◌, ◌/◌, ℕ, suc, Bool, true, false, ◌&&◌, eqb, List, [], ◌∷◌, ◌++◌, length, Option, Some, None, refl, sym, ap, ◌∙◌, subst, inl, inr, arith}
use Rattle.std.specs.Prelude.{Result, Ok, Err, replicate, slice_get}
use Rattle.std.specs.Option.{is_none}
use Rattle.std.proofs.lemmas.Bool.{and_parts, cases_Bool}
use Rattle.std.proofs.lemmas.List.{length-replicate}
use Rattle.exi_bits.specs.declared.fault.Kind.{Kind}
use Rattle.exi_gram.specs.Codes.{Coded, code_bits, coded}
use Rattle.exi_gram.specs.Laws.{codes}
use Rattle.exi_gram.specs.Switches.{align_of}
use Rattle.exi_meter.specs.Metering.{Metering, event_fits, level_fits, text_fits, with_text}
use Rattle.exi_tables.specs.Partitions.{Partitions}
use Rattle.exi_typed.specs.Charging.{Charge, IsTaken, units_of}
use Rattle.exi_typed.specs.ReadStates.{Context}
use Rattle.exi_names.specs.Events.{Happening}
use Rattle.exi_processing.specs.Configurations.{Config, Setting, rules_of}
use Rattle.exi_processing.specs.OneEvent.{remembered}
use Rattle.exi_processing.specs.Plans.{Given, Plan, alone_in, plan_of}
use Rattle.exi_processing.specs.Rules.{Rule}
use Rattle.exi_processing.specs.Runs.{has_ended}
use Rattle.exi_processing.specs.Spelled.{IsFollowed, IsOne, IsPadding, counted_by, entered_by, further}
use Rattle.exi_writing.specs.OneEvent.{Refused, Written, ◌>>=◌, behind_code, by_code, chosen, fewest, first_of, followed, followed_by, is_taken, matches, one_deeper, one_more, or_else, padding, paid, written, written_by}
use Rattle.exi_writing.specs.Pieces.{Piece}
use Rattle.exi_writing.specs.Sound.{HasSoundTables}
use Rattle.exi_writing.proofs.Contents.{IsContent, contents_agree}
use Rattle.exi_writing.proofs.Tables.{made_sound, made_start}

-- ---- which production
pub record Stands (test : Rule → Bool) (xs : List (Coded Rule)) (x : Coded Rule) : Type 0 where
  pub place : ℕ
  pub there : slice_get xs place ≡ Some x
  pub passes : test x.item ≡ true

coded_is : (x y : Coded Rule) → Some x ≡ Some y → x ≡ y
coded_is x y e = cc

first_stands : (n : ℕ) (test : Rule → Bool) (xs : List (Coded Rule)) (x : Coded Rule) → first_of n test xs ≡ Some x → Stands test xs x
first_stands n test [] x e = absurd cc
first_stands n test (y ∷ ys) x e = elim (cases_Bool (eqb (length y.parts) n && test y.item)) [
  | inl h ↦
      let same : y ≡ x = coded_is y x (rw h at e) in
      record { place = 0; there = ap (λ (z : Coded Rule). Some z) same; passes = ap (λ (z : Coded Rule). test z.item) (sym same) ∙ (and_parts (eqb (length y.parts) n) (test y.item) h).1 }
  | inr h ↦
      let k = first_stands n test ys x (rw h at e) in
      record { place = suc k.place; there = k.there; passes = k.passes }
]

or_stands : (test : Rule → Bool) (xs : List (Coded Rule)) (a b : Option (Coded Rule)) (x : Coded Rule) → ((y : Coded Rule) → a ≡ Some y → Stands test xs y) → ((y : Coded Rule) → b ≡ Some y → Stands test xs y) → or_else a b ≡ Some x → Stands test xs x
or_stands test xs None b x first second e = second x e
or_stands test xs (Some y) b x first second e = first x e

pub fewest_stands : (test : Rule → Bool) (xs : List (Coded Rule)) (x : Coded Rule) → fewest test xs ≡ Some x → Stands test xs x
fewest_stands test xs x e =
    or_stands test xs (first_of 1 test xs) (or_else (first_of 2 test xs) (first_of 3 test xs)) x (λ y f. first_stands 1 test xs y f)
    (λ y f. or_stands test xs (first_of 2 test xs) (first_of 3 test xs) y (λ z h. first_stands 2 test xs z h) (λ z h. first_stands 3 test xs z h) f) e

-- ---- charges
more_parts : (b : Bool) (m n : Metering) → one_more b m ≡ Ok n → (b ≡ true → event_fits m ≡ true) × (n ≡ counted_by b m)
more_parts false m n e = (λ h. absurd cc, let k : Ok m ≡ Ok n = e in sym cc)
more_parts true m n e = elim (cases_Bool (event_fits m)) [
  | inl h ↦ (λ k. h, let k = rw h at e in sym cc)
  | inr h ↦ absurd (let k = rw h at e in cc)
]

deeper_parts : (b : Bool) (m n : Metering) → one_deeper b m ≡ Ok n → (b ≡ true → level_fits m ≡ true) × (n ≡ entered_by b m)
deeper_parts false m n e = (λ h. absurd cc, let k : Ok m ≡ Ok n = e in sym cc)
deeper_parts true m n e = elim (cases_Bool (level_fits m)) [
  | inl h ↦ (λ k. h, let k = rw h at e in sym cc)
  | inr h ↦ absurd (let k = rw h at e in cc)
]

pub bind_parts : {A B : Type 0} (r : Result A Refused) (f : A → Result B Refused) (b : B) → (r >>= f) ≡ Ok b → (a : A) × (r ≡ Ok a) × (f a ≡ Ok b)
bind_parts {A} {B} (Ok a) f b e = (a, refl, e)
bind_parts {A} {B} (Err why) f b e = absurd cc

-- what is paid is taken in turn
taken_of : (ks : List Charge) (m n : Metering) → paid (units_of ks) m ≡ Ok n → IsTaken ks m n
taken_of [] m n e = let k : Ok m ≡ Ok n = e in sym cc
taken_of (k ∷ ks) m n e = elim (cases_Bool (text_fits m k.units)) [
  | inl h ↦ (h, taken_of ks (with_text m k.units) n (rw h at e))
  | inr h ↦ absurd (let f = rw h at e in cc)
]

abbrev pub context : Metering → Partitions → Context
context m p = record { meter = m; tables = p }

-- ---- padding
is_padded : (padded : Bool) (place : ℕ) → IsPadding padded place (padding padded place)
is_padded false place = refl
is_padded true place =
    let long : length (replicate ((place + 7) / 8 * 8 - place) false) ≡ (place + 7) / 8 * 8 - place = length-replicate ((place + 7) / 8 * 8 - place) false in
    omega (arith, long)

-- ---- what a plan does behind the code
none_is : {X : Type 0} (o : Option X) → is_none o ≡ true → o ≡ None
none_is {X} None h = refl
none_is {X} (Some x) h = absurd cc

pub record MayStand (plan : Plan) : Type 1 where
  pub free : plan.barred ≡ None
  pub placed : plan.misplaced ≡ None

pub record FollowedBy (plan : Plan) (c : Config) (piece : Piece plan.Item) (w : Written) : Type 0 where
  pub followed : IsFollowed plan c w.given w.bits
  pub meter : Metering
  pub given_is : w.given ≡ remembered (plan.make piece.item (further c (length w.bits) (context meter piece.tables)))

followed_spelled : (plan : Plan) (c : Config) (piece : Piece plan.Item) (w : Written) → MayStand plan → plan.refused piece.item ≡ None → IsContent plan c.tables piece → followed_by plan c piece ≡ Ok w → FollowedBy plan c piece w
unfolding followed_by
followed_spelled plan c piece w may free content e =
    let a = bind_parts (one_more plan.counted c.meter) _ w e in
    let b = bind_parts (one_deeper plan.entered a.0) _ w a.2 in
    let d = bind_parts (paid piece.units b.0) _ w b.2 in
    let counted = more_parts plan.counted c.meter a.0 a.1 in
    let entered = deeper_parts plan.entered a.0 b.0 b.1 in
    let last : Ok _ ≡ Ok w = d.2 in
    let is : _ ≡ w = cc in
    rw (← is) record {
      followed = record {
        meter = b.0;
        charged = record {
          free = may.free;
          counted = counted.0;
          placed = may.placed;
          entered = λ h. subst (λ (m : Metering). level_fits m ≡ true) counted.1 (entered.0 h);
          after = entered.1 ∙ ap (entered_by plan.entered) counted.1;
        };
        item = piece.item;
        content = piece.bits;
        padding = padding plan.padded (c.place + length piece.bits);
        parts = refl;
        after = context d.0 piece.tables;
        charges = content.written.charges;
        spelled = content.written.spelled;
        taken = taken_of content.written.charges b.0 d.0 (subst (λ (us : List ℕ). paid us b.0 ≡ Ok d.0) (sym content.written.are) d.1);
        free = free;
        padded = is_padded plan.padded (c.place + length piece.bits);
        is = refl;
      };
      meter = d.0;
      given_is = refl;
    }

-- ---- one event
taken_parts : {X : Type 0} (refused : X → Option Kind) (o : Option (Piece X)) → is_taken refused o ≡ true → (w : Piece X) × (o ≡ Some w) × (refused w.item ≡ None)
taken_parts {X} refused None h = absurd cc
taken_parts {X} refused (Some w) h = (w, refl, none_is (refused w.item) h)

behind_parts : (code : List Bool) (r : Result Written Refused) (w : Written) → behind_code code r ≡ Ok w → (v : Written) × (r ≡ Ok v) × (w ≡ record { bits = code ++ v.bits; given = v.given })
behind_parts code (Ok v) w e = (v, refl, let k : Ok (record { bits = code ++ v.bits; given = v.given }) ≡ Ok w = e in sym cc)
behind_parts code (Err why) w e = absurd cc

pub record IsWritten (g : Setting) (c : Config) (w : Written) : Type 0 where
  pub one : IsOne g c w.given w.bits
  pub sound : HasSoundTables w.given.1
  pub start : w.given.1.start ≡ c.start

one_spelled_by : (g : Setting) (c : Config) (e : Happening) (w : Written) (o : Option (Coded Rule)) → HasSoundTables c → chosen g c e ≡ o → by_code g c e o ≡ Ok w → IsWritten g c w
one_spelled_by g c e w None sound is h = absurd cc
one_spelled_by g c e w (Some x) sound is h =
    let stands = fewest_stands (matches g c e) (coded (rules_of g c)) x is in
    let plan = plan_of g c x.item in
    let m = and_parts (is_none plan.barred && is_none plan.misplaced) (is_taken plan.refused (written_by g c x.item e c.tables)) stands.passes in
    let free = and_parts (is_none plan.barred) (is_none plan.misplaced) m.0 in
    let t = taken_parts plan.refused (written_by g c x.item e c.tables) m.1 in
    let piece = t.0 in
    let code = code_bits (align_of g.options) (codes (rules_of g c)) x.parts in
    let further_on : Config = record c { place = c.place + length code } in
    let b = behind_parts code (followed plan further_on (written_by g c x.item e c.tables)) w h in
    let content = contents_agree g (alone_in c.elements c.outer) c x.item x.item.on e c.tables piece sound.here t.1 in
    let v = b.0 in
    let given_piece : followed_by plan further_on piece ≡ Ok v = ap (followed plan further_on) (sym t.1) ∙ b.1 in
    let f = followed_spelled plan further_on piece v record { free = none_is plan.barred free.0; placed = none_is plan.misplaced free.1 } t.2 content given_piece in
    rw b.2 record {
      one = record {
        rule = x.item;
        code = code;
        content = v.bits;
        parts = refl;
        told = record { place = stands.place; parts = x.parts; there = stands.there; bits = refl };
        followed = f.followed;
      };
      sound = subst (λ (z : Given). HasSoundTables z.1) (sym f.given_is) (made_sound g (alone_in c.elements c.outer) c x.item x.item.on piece.item (further further_on (length v.bits) (context f.meter piece.tables)) record { here = content.sound; aside = sound.aside });
      start = ap (λ (z : Given). z.1.start) f.given_is ∙ made_start g (alone_in c.elements c.outer) c x.item x.item.on piece.item (further further_on (length v.bits) (context f.meter piece.tables));
    }

record Went (g : Setting) (c : Config) (e : Happening) (w : Written) : Type 0 where
  going : has_ended c ≡ false
  by : by_code g c e (chosen g c e) ≡ Ok w

went : (g : Setting) (c : Config) (e : Happening) (w : Written) → written g c e ≡ Ok w → Went g c e w
unfolding written
went g c e w h = elim (cases_Bool (has_ended c)) [
  | inl k ↦ absurd (let f = rw k at h in cc)
  | inr k ↦ record { going = k; by = rw k at h }
]

pub one_spelled : (g : Setting) (c : Config) (e : Happening) (w : Written) → HasSoundTables c → written g c e ≡ Ok w → IsOne g c w.given w.bits
one_spelled g c e w sound h = (one_spelled_by g c e w (chosen g c e) sound refl (went g c e w h).by).one

pub one_sound : (g : Setting) (c : Config) (e : Happening) (w : Written) → HasSoundTables c → written g c e ≡ Ok w → HasSoundTables w.given.1
one_sound g c e w sound h = (one_spelled_by g c e w (chosen g c e) sound refl (went g c e w h).by).sound

pub one_going : (g : Setting) (c : Config) (e : Happening) (w : Written) → written g c e ≡ Ok w → has_ended c ≡ false
one_going g c e w h = (went g c e w h).going

pub one_start : (g : Setting) (c : Config) (e : Happening) (w : Written) → HasSoundTables c → written g c e ≡ Ok w → w.given.1.start ≡ c.start
one_start g c e w sound h = (one_spelled_by g c e w (chosen g c e) sound refl (went g c e w h).by).start
