-- One event, written again at another place, under limits that are no narrower, and where writing may have begun elsewhere: by
-- the same production, and on to a configuration that differs again in these alone.
use Rattle.std.proofs.Common.{◌≡◌, ◌+◌, ◌*◌, ◌/◌, ◌%◌, ◌≤◌, ℕ, Bool, true, false, eqb, leb, ◌&&◌, List, [], ◌∷◌, ◌++◌, length, Option, Some, None, refl, sym, ap, ◌∙◌, subst, arith}
use Rattle.std.specs.Prelude.{◌-◌, Result, Ok, Err, replicate, if◌then◌else◌}
use Rattle.std.specs.Option.{is_none}
use Rattle.std.proofs.lemmas.Bool.{leb-true, le-leb}
use Rattle.exi_bits.specs.declared.fault.Kind.{Kind}
use Rattle.exi_bits.specs.declared.fault.Kind.TheVariants as kind
use Rattle.exi_gram.specs.Codes.{Coded, code_bits, coded}
use Rattle.exi_gram.specs.Laws.{codes}
use Rattle.exi_gram.specs.Switches.{align_of}
use Rattle.exi_meter.specs.Metering.{Bounds, Metering, event_fits, level_fits, text_fits, with_event, with_level, with_text}
use Rattle.exi_names.specs.Events.{Happening}
use Rattle.exi_processing.specs.Configurations.{Config, Setting, rules_of}
use Rattle.exi_processing.specs.OneEvent.{is_start}
use Rattle.exi_processing.specs.Plans.{Plan, alone_in, plan_of}
use Rattle.exi_processing.specs.Rules.{Rule}
use Rattle.exi_processing.specs.Runs.{has_ended}
use Rattle.exi_processing.specs.Spelled.{further}
use Rattle.exi_processing.specs.declared.start.Start.{Start}
use Rattle.exi_writing.specs.OneEvent.{Refused, Written, ◌>>=◌, at_end, behind, behind_code, by_code, chosen, fewest, first_of, followed, followed_by, is_taken, limit, matches, not_derived, one_deeper, one_more, or_else, padding, paid, written, written_by}
use Rattle.exi_writing.specs.Pieces.{Piece}
use Rattle.exi_derived.specs.Laws.{IsNoWider}
use Rattle.exi_derived.proofs.Places.{limited, shifted}
use Rattle.exi_derived.proofs.Plans.{MakesAlike, makes_alike, same_plan}

-- ---- the production that is taken is the same
first_same : (n : ℕ) (test other : Rule → Bool) (xs : List (Coded Rule)) → ((r : Rule) → test r ≡ other r) → first_of n test xs ≡ first_of n other xs
first_same n test other [] same = refl
first_same n test other (x ∷ xs) same =
    ap (λ (b : Bool). if (eqb (length x.parts) n && b) then Some x else first_of n test xs) (same x.item) ∙ ap (λ (o : Option (Coded Rule)). if (eqb (length x.parts) n && other x.item) then Some x else o) (first_same n test other xs same)

fewest_same : (test other : Rule → Bool) (xs : List (Coded Rule)) → ((r : Rule) → test r ≡ other r) → fewest test xs ≡ fewest other xs
fewest_same test other xs same =
    ap (λ (o : Option (Coded Rule)). or_else o (or_else (first_of 2 test xs) (first_of 3 test xs))) (first_same 1 test other xs same)
    ∙ ap (λ (o : Option (Coded Rule)). or_else (first_of 1 other xs) (or_else o (first_of 3 test xs))) (first_same 2 test other xs same)
    ∙ ap (λ (o : Option (Coded Rule)). or_else (first_of 1 other xs) (or_else (first_of 2 other xs) o)) (first_same 3 test other xs same)

abbrev may_stand : (plan : Plan) → Option (Piece plan.Item) → Bool
may_stand plan o = is_none plan.barred && is_none plan.misplaced && is_taken plan.refused o

module _ (begun : Start → Start) (g : Setting) (c : Config) (e : Happening) (to : ℕ) (limits : Bounds) where
  matches_same : (r : Rule) → matches g c e r ≡ matches g (shifted begun to limits c) e r
  matches_same r = same_plan g (alone_in c.elements c.outer) c r e c.tables begun to limits (λ plan o. matches g c e r ≡ may_stand plan o) r.on refl

  pub chosen_same : chosen g c e ≡ chosen g (shifted begun to limits c) e
  chosen_same = fewest_same (matches g c e) (matches g (shifted begun to limits c) e) (coded (rules_of g c)) matches_same

  abbrev pub code_of : Coded Rule → List Bool
  code_of x = code_bits (align_of g.options) (codes (rules_of g c)) x.parts

-- ---- places so many whole bytes apart
whole_on : (a b n : ℕ) → a % 8 ≡ b % 8 → (a + n) % 8 ≡ (b + n) % 8
whole_on a b n e = omega (arith, e)

whole_after : (a b n m last : ℕ) → a % 8 ≡ b % 8 → n ≡ m → last ≡ b + m → (a + n) % 8 ≡ last % 8
whole_after a b n m last e f h = omega (arith, e, f, h)

padding_whole : (padded : Bool) (a b : ℕ) → a % 8 ≡ b % 8 → padding padded a ≡ padding padded b
padding_whole false a b e = refl
padding_whole true a b e = ap (λ (n : ℕ). replicate n false) (let same : (a + 7) / 8 * 8 - a ≡ (b + 7) / 8 * 8 - b = omega (arith, e) in same)

-- whether the limits are the same is for whoever says so
module _ (Same : Type 0) (begun : Start → Start) where
  -- ---- answers again: what was there is there, as this relates it; a production that was missing is missing; behind a limit
  -- anything may come, but where the limits are the same, and then that limit again
  abbrev pub Again : {X : Type 0} → (X → X → Type 0) → Result X Refused → Result X Refused → Type 0
  Again {X} Kept (Ok x) s = (y : X) × (s ≡ Ok y) × Kept x y
  Again {X} Kept (Err not_derived) s = s ≡ Err not_derived
  Again {X} Kept (Err (limit k m)) s = Same → s ≡ Err (limit k m)

  pub again_then : {X Y : Type 0} (K : X → X → Type 0) (L : Y → Y → Type 0) (r s : Result X Refused) (f h : X → Result Y Refused) → Again K r s → ((x y : X) → K x y → Again L (f x) (h y)) → Again L (r >>= f) (s >>= h)
  again_then {X} {Y} K L (Ok x) s f h k more = subst (λ (z : Result X Refused). Again L (f x) (z >>= h)) (sym k.1) (more x k.0 k.2)
  again_then {X} {Y} K L (Err not_derived) s f h is more = ap (λ (z : Result X Refused). z >>= h) is
  again_then {X} {Y} K L (Err (limit k m)) s f h is more = λ same. ap (λ (z : Result X Refused). z >>= h) (is same)

  -- limits that are no narrower than the configuration's own, and the same where that is said
  pub record Fits (own limits : Bounds) : Type 0 where
    pub wide : IsNoWider own limits
    pub same : Same → limits ≡ own

  -- ---- charges
  abbrev pub KeptMeter : Bounds → Metering → Metering → Type 0
  KeptMeter limits m n = (n ≡ limited limits m) × Fits m.limits limits

  limited_same : (limits : Bounds) (m : Metering) → Fits m.limits limits → Same → limited limits m ≡ m
  limited_same limits m room same = ap (λ (b : Bounds). limited b m) (room.same same)

  by_fit : (limits : Bounds) (k : Kind) (m x : Metering) (own there : Bool) → (own ≡ true → there ≡ true) → (Same → there ≡ own) → Fits m.limits limits → Fits x.limits limits → Again (KeptMeter limits) (if own then Ok x else Err (limit k m)) (if there then Ok (limited limits x) else Err (limit k (limited limits m)))
  by_fit limits k m x false false fits alike here room = λ same. ap (λ (z : Metering). Err (limit k z)) (limited_same limits m here same)
  by_fit limits k m x false true fits alike here room = λ same. absurd (let f = alike same in cc)
  by_fit limits k m x true true fits alike here room = (limited limits x, refl, (refl, room))
  by_fit limits k m x true false fits alike here room = absurd (let f = fits refl in cc)

  up_to : (a b c : ℕ) → b ≤ c → leb a b ≡ true → leb a c ≡ true
  up_to a b c le h = le-leb a c (let f = leb-true a b h in omega (arith, f, le))

  more_again : (b : Bool) (limits : Bounds) (m : Metering) → Fits m.limits limits → Again (KeptMeter limits) (one_more b m) (one_more b (limited limits m))
  more_again false limits m room = (limited limits m, refl, (refl, room))
  more_again true limits m room = by_fit limits kind.EventLimit m (with_event m) (event_fits m) (event_fits (limited limits m)) (up_to (m.used.events + 1) m.limits.events limits.events room.wide.events) (λ same. ap event_fits (limited_same limits m room same)) room record { wide = room.wide; same = room.same }

  deeper_again : (b : Bool) (limits : Bounds) (m : Metering) → Fits m.limits limits → Again (KeptMeter limits) (one_deeper b m) (one_deeper b (limited limits m))
  deeper_again false limits m room = (limited limits m, refl, (refl, room))
  deeper_again true limits m room = by_fit limits kind.DepthLimit m (with_level m) (level_fits m) (level_fits (limited limits m)) (up_to (m.level + 1) m.limits.depth limits.depth room.wide.depth) (λ same. ap level_fits (limited_same limits m room same)) room record { wide = room.wide; same = room.same }

  paid_again : (us : List ℕ) (limits : Bounds) (m : Metering) → Fits m.limits limits → Again (KeptMeter limits) (paid us m) (paid us (limited limits m))
  paid_again [] limits m room = (limited limits m, refl, (refl, room))
  paid_again (u ∷ us) limits m room = by_text (text_fits m u) (text_fits (limited limits m) u) (up_to (m.used.text + u) m.limits.text limits.text room.wide.text) (λ same. ap (λ (z : Metering). text_fits z u) (limited_same limits m room same)) (paid_again us limits (with_text m u) record { wide = room.wide; same = room.same })
    where
      by_text : (own there : Bool) → (own ≡ true → there ≡ true) → (Same → there ≡ own) → Again (KeptMeter limits) (paid us (with_text m u)) (paid us (limited limits (with_text m u)))
          → Again (KeptMeter limits) (if own then paid us (with_text m u) else Err (limit kind.TextLimit m)) (if there then paid us (limited limits (with_text m u)) else Err (limit kind.TextLimit (limited limits m)))
      by_text false false fits alike more = λ same. ap (λ (z : Metering). Err (limit kind.TextLimit z)) (limited_same limits m room same)
      by_text false true fits alike more = λ same. absurd (let f = alike same in cc)
      by_text true true fits alike more = more
      by_text true false fits alike more = absurd (let f = fits refl in cc)

  -- ---- what is written and where it leads, of a configuration at one place and then at another
  pub record IsSame {E : Type 0} (bits words : List Bool) (e f : E) (place other : ℕ) : Type 0 where
    pub bits_are : words ≡ bits
    pub event : f ≡ e
    pub place_is : other ≡ place

  -- and at places so many whole bytes apart
  pub record IsBytesApart (bits words : List Bool) (place other : ℕ) : Type 0 where
    pub bits_are : words ≡ bits
    pub apart : other % 8 ≡ place % 8

  -- the next configurations differ in place, limits and where reading began alone; where the places were the same, so are all bits
  -- and events, and where they were whole bytes apart, so are all bits
  pub record Kept {E : Type 0} (from to : ℕ) (limits : Bounds) (bits words : List Bool) (e f : E) (c d : Config) : Type 0 where
    pub place : ℕ
    pub next : d ≡ shifted begun place limits c
    pub room : Fits c.meter.limits limits
    pub same : to ≡ from → IsSame bits words e f c.place place
    pub whole : to % 8 ≡ from % 8 → IsBytesApart bits words c.place place

  abbrev pub KeptOne : ℕ → ℕ → Bounds → Written → Written → Type 0
  KeptOne from to limits w v = Kept from to limits w.bits v.bits w.given.0 v.given.0 w.given.1 v.given.1

  -- ---- behind the code
  module _ (plan : Plan) (alike : MakesAlike plan) (c : Config) (piece : Piece plan.Item) (to : ℕ) (limits : Bounds) where
    abbrev text_at : Config → List Bool
    text_at k = piece.bits ++ padding plan.padded (k.place + length piece.bits)

    abbrev item_at : Config → Metering → Config
    item_at k m = further k (length (text_at k)) (record { meter = m; tables = piece.tables })

    text_whole : to % 8 ≡ c.place % 8 → text_at (shifted begun to limits c) ≡ text_at c
    text_whole is = ap (λ (z : List Bool). piece.bits ++ z) (padding_whole plan.padded (to + length piece.bits) (c.place + length piece.bits) (whole_on to c.place (length piece.bits) is))

    end_kept : (m : Metering) → Fits m.limits limits → KeptOne c.place to limits (at_end plan.padded plan.make c piece m (text_at c)) (at_end plan.padded plan.make (shifted begun to limits c) piece (limited limits m) (text_at (shifted begun to limits c)))
    end_kept m room =
        let k = item_at c m in
        let place = to + length (text_at (shifted begun to limits c)) in
        let s = alike.next piece.item in
        let next = s.next begun place limits k in
        let begins = alike.begins piece.item begun place limits k in
        let stays : (plan.make piece.item k).1.place ≡ k.place = s.place k in
        record {
          place = place;
          next = ap (λ (d : Config). record d { after_start = is_start (plan.make piece.item (shifted begun place limits k)).0 }) next ∙ ap (λ (b : Bool). record (shifted begun place limits (plan.make piece.item k).1) { after_start = b }) begins;
          room = subst (λ (b : Bounds). Fits b limits) (sym (s.limits k)) room;
          same = λ is. record {
            bits_are = ap (λ (p : ℕ). text_at (shifted begun p limits c)) is;
            event = ap (λ (p : ℕ). (plan.make piece.item (shifted begun (p + length (text_at (shifted begun p limits c))) limits k)).0) is ∙ alike.event piece.item begun limits k;
            place_is = ap (λ (p : ℕ). p + length (text_at (shifted begun p limits c))) is ∙ sym stays;
          };
          whole = λ is.
              let text = text_whole is in
              record { bits_are = text; apart = whole_after to c.place (length (text_at (shifted begun to limits c))) (length (text_at c)) (plan.make piece.item k).1.place is (ap length text) stays };
        }

    pub followed_again : Fits c.meter.limits limits → Again (KeptOne c.place to limits) (followed_by plan c piece) (followed_by plan (shifted begun to limits c) piece)
    unfolding followed_by
    followed_again room =
        again_then (KeptMeter limits) (KeptOne c.place to limits) (one_more plan.counted c.meter) (one_more plan.counted (limited limits c.meter)) _ _ (more_again plan.counted limits c.meter room)
        (λ x y k. again_then (KeptMeter limits) (KeptOne c.place to limits) (one_deeper plan.entered x) (one_deeper plan.entered y) _ _ (subst (λ (z : Metering). Again (KeptMeter limits) (one_deeper plan.entered x) (one_deeper plan.entered z)) (sym k.0) (deeper_again plan.entered limits x k.1))
        (λ u v l. again_then (KeptMeter limits) (KeptOne c.place to limits) (paid piece.units u) (paid piece.units v) _ _ (subst (λ (z : Metering). Again (KeptMeter limits) (paid piece.units u) (paid piece.units z)) (sym l.0) (paid_again piece.units limits u l.1))
        (λ m n j. (at_end plan.padded plan.make (shifted begun to limits c) piece (limited limits m) (text_at (shifted begun to limits c)), ap (λ (z : Metering). Ok (at_end plan.padded plan.make (shifted begun to limits c) piece z (text_at (shifted begun to limits c)))) j.0, end_kept m j.1))))

  -- ---- the event
  module _ (g : Setting) (c : Config) (e : Happening) (to : ℕ) (limits : Bounds) where
    content_again : (plan : Plan) (o : Option (Piece plan.Item)) (k : Config) (place : ℕ) → MakesAlike plan → Fits k.meter.limits limits → Again (KeptOne k.place place limits) (followed plan k o) (followed plan (shifted begun place limits k) o)
    content_again plan None k place alike room = refl
    content_again plan (Some piece) k place alike room = followed_again plan alike k piece place limits room

    kept_behind : (code : List Bool) (w v : Written) → KeptOne (c.place + length code) (to + length code) limits w v → KeptOne c.place to limits (behind code w) (behind code v)
    kept_behind code w v k = record {
      place = k.place;
      next = k.next;
      room = k.room;
      same = λ is. let s = k.same (ap (λ (p : ℕ). p + length code) is) in record { bits_are = ap (λ (b : List Bool). code ++ b) s.bits_are; event = s.event; place_is = s.place_is };
      whole = λ is. let s = k.whole (whole_on to c.place (length code) is) in record { bits_are = ap (λ (b : List Bool). code ++ b) s.bits_are; apart = s.apart };
    }

    behind_again : (code : List Bool) (r s : Result Written Refused) → Again (KeptOne (c.place + length code) (to + length code) limits) r s → Again (KeptOne c.place to limits) (behind_code code r) (behind_code code s)
    behind_again code (Ok w) s k = (behind code k.0, ap (behind_code code) k.1, kept_behind code w k.0 k.2)
    behind_again code (Err not_derived) s is = ap (behind_code code) is
    behind_again code (Err (limit k m)) s is = λ same. ap (behind_code code) (is same)

    by_code_again : Fits c.meter.limits limits → (o : Option (Coded Rule)) → Again (KeptOne c.place to limits) (by_code g c e o) (by_code g (shifted begun to limits c) e o)
    by_code_again room None = refl
    by_code_again room (Some x) =
        let a = alone_in c.elements c.outer in
        let k : Config = record c { place = c.place + length (code_of begun g c e to limits x) } in
        let place = to + length (code_of begun g c e to limits x) in
        behind_again (code_of begun g c e to limits x) (followed (plan_of g c x.item) k (written_by g c x.item e c.tables)) (followed (plan_of g (shifted begun to limits c) x.item) (shifted begun place limits k) (written_by g (shifted begun to limits c) x.item e c.tables))
        (same_plan g a c x.item e c.tables begun to limits (λ plan o. Again (KeptOne k.place place limits) (followed (plan_of g c x.item) k (written_by g c x.item e c.tables)) (followed plan (shifted begun place limits k) o)) x.item.on
        (content_again (plan_of g c x.item) (written_by g c x.item e c.tables) k place (makes_alike g a c x.item x.item.on) room))

    going_again : (ended : Bool) (r s : Result Written Refused) → Again (KeptOne c.place to limits) r s → Again (KeptOne c.place to limits) (if ended then Err not_derived else r) (if ended then Err not_derived else s)
    going_again true r s k = refl
    going_again false r s k = k

    pub one_again : Fits c.meter.limits limits → Again (KeptOne c.place to limits) (written g c e) (written g (shifted begun to limits c) e)
    unfolding written
    one_again room =
        going_again (has_ended c) (by_code g c e (chosen g c e)) (by_code g (shifted begun to limits c) e (chosen g (shifted begun to limits c) e))
        (subst (λ (o : Option (Coded Rule)). Again (KeptOne c.place to limits) (by_code g c e (chosen g c e)) (by_code g (shifted begun to limits c) e o)) (chosen_same begun g c e to limits) (by_code_again room (chosen g c e)))
