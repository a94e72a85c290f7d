-- A reader at a fragment that was read by itself: it can take what came of it, and turns lead to where it is then.
use Rattle.std.proofs.Common.{◌≡◌, ◌≤◌, ℕ, ◌+◌, ◌*◌, Bool, true, false, cond, List, [], ◌∷◌, ◌++◌, length, Option, Some, None, refl, sym, ap, ◌∙◌, subst, arith}
use Rattle.exi_bits.specs.Bits.{IsAligned, IsBytes}
use Rattle.exi_gram.specs.Switches.{align_of}
use Rattle.exi_meter.specs.Metering.{IsWithin}
use Rattle.exi_names.specs.Events.{Happening}
use Rattle.exi_names.specs.StartTables.{IsStart}
use Rattle.exi_names.specs.declared.names.QName.{QName}
use Rattle.exi_processing.specs.Changes.{innermost, put_aside, same_texts, texts_of}
use Rattle.exi_processing.specs.Configurations.{Config, IsSetting, Setting, first_config}
use Rattle.exi_processing.specs.Handing.{Standing}
use Rattle.exi_processing.specs.Joins.{CanJoin, CanSplice, IsPlaceBehind, JoinedAs}
use Rattle.exi_processing.specs.OneEvent.{one}
use Rattle.exi_processing.specs.Reading.{GoesOnReached, IsOutcome, IsReached, Reading}
use Rattle.exi_processing.specs.Runs.{Leads}
use Rattle.exi_processing.specs.Spelled.{IsIn}
use Rattle.exi_processing.specs.Splices.{AtFragment, GoesAs, Spliced, ended, fits, on, on_behind, other_root, root_of, spliced, with_root, wrong_root}
use Rattle.exi_processing.specs.declared.end.End.{End}
use Rattle.exi_processing.specs.declared.end.End.TheVariants as end
use Rattle.exi_processing.specs.declared.spliced.Spliced.{Spliced as Joined}
use Rattle.exi_processing.specs.declared.spliced.Spliced.TheVariants as joined
use Rattle.exi_processing.proofs.EventOne.{one_is_spelled}
use Rattle.exi_processing.proofs.Sequences.{by_result}
use Rattle.exi_processing.proofs.SpliceRuns.{splices_are_runs}
use Rattle.exi_processing.proofs.Splicing.{levels_of}
use Rattle.exi_processing.proofs.Turning.{reached_sound, reader_name, view}
use Rattle.exi_processing.proofs.Withins.{run_kept}

-- ---- turns
leads_in : (g : Setting) (bytes : List ℕ) (turns : List (Option Happening)) (c last : Config) → IsSetting g → IsIn g bytes c → Leads g bytes c turns last → IsIn g bytes last
leads_in g bytes [] c last book at l = subst (λ (z : Config). IsIn g bytes z) l at
leads_in g bytes (e ∷ turns) c last book at l = leads_in g bytes turns l.0 last book (one_is_spelled g bytes c (e, l.0) book at (by_result bytes c (one g bytes c) e l.0 l.1)).3 l.2

leads_append : (g : Setting) (bytes : List ℕ) (turns more : List (Option Happening)) (c mid last : Config) → Leads g bytes c turns mid → Leads g bytes mid more last → Leads g bytes c (turns ++ more) last
leads_append g bytes [] more c mid last l m = subst (λ (z : Config). Leads g bytes z more last) (sym l) m
leads_append g bytes (e ∷ turns) more c mid last l m = (l.0, l.1, leads_append g bytes turns more l.0 mid last l.2 m)

-- ---- a reader at a fragment
module _ (s : Standing) (e : End) (at : IsReached (view s true)) (out : IsOutcome (view s true) e) (fit : fits s.config e ≡ true) where
  abbrev c : Config
  c = put_aside s.setting s.config

  at_byte : AtFragment s.setting out.byte c
  at_byte =
      let f = at.fragment refl in
      let same : f.0 ≡ out.byte = omega (arith, f.1.place, out.stands) in
      subst (λ (n : ℕ). AtFragment s.setting n c) same f.1

  goes : GoesAs s.setting s.bytes c out.events (spliced c e)
  goes = splices_are_runs (record { setting = s.setting; bytes = s.bytes; body = out.body }) out.byte c out.limits out.events e out.count at.octets at.book at.names at_byte out.sequence fit

  -- ---- where it goes on
  on_is : (a b : Config) → on a ≡ on b → a ≡ b
  on_is a b h = cc

  place_behind : (other : End) (next : Config) → on_behind c other ≡ on next → IsIn s.setting s.bytes next → IsPlaceBehind s.setting s.bytes other
  place_behind (end.Done bit tally root) next h i =
      let there : bit ≡ next.place = ap (λ (z : Spliced). place_in z) h in
      (subst (λ (n : ℕ). n ≤ 8 * length s.bytes) (sym there) i.within, subst (λ (n : ℕ). IsAligned (align_of s.setting.options) (record { bytes = s.bytes; place = n })) (sym there) i.aligned)
    where
      place_in : Spliced → ℕ
      place_in (on d) = d.place
      place_in (ended d) = 0
      place_in (wrong_root d) = 0
  place_behind (end.Fault fault tally root) next h i = tt

  behind_if : (b : Bool) (name : QName) (next : Config) → cond b (on_behind c e) (wrong_root (other_root c name)) ≡ on next → on_behind c e ≡ on next
  behind_if true name next h = h
  behind_if false name next h = absurd cc

  behind_root : (root : Option QName) (next : Config) → with_root c.aside c e root ≡ on next → on_behind c e ≡ on next
  behind_root None next h = h
  behind_root (Some name) next h = behind_if (same_texts (texts_of s.config.tables (innermost s.config.elements)) name) name next h

  module _ (place : s.config.place ≤ 8 * length s.bytes) (meter : IsWithin s.config.meter) where
    in_bytes : IsIn s.setting s.bytes c
    in_bytes = record { octets = at.octets; within = place; aligned = λ h. omega (arith, at_byte.place) }

    can_join : (q : Spliced) → spliced c e ≡ q → GoesAs s.setting s.bytes c out.events q → CanJoin s e q
    can_join (on next) h g = place_behind e next (behind_root (root_of e) next h) (leads_in s.setting s.bytes g.0 c next at.book in_bytes g.1)
    can_join (ended other) h g = tt
    can_join (wrong_root other) h g = (run_kept s.setting s.bytes s.config.meter.limits c g.0 other (record { same = refl; kept = record { events = meter.events; text = meter.text; depth = meter.depth } }) g.1).text

    some_aside : c.aside ≡ [] → ⊥
    some_aside h = absurd cc

    can_splice : CanSplice s e
    can_splice = record {
      name = reader_name s true (view s true) refl refl at;
      fitting = fit;
      level = omega (arith, (levels_of s.setting c (reached_sound (view s true) at)).behind_it some_aside);
      join = can_join (spliced c e) refl goes;
    }

  -- ---- and turns lead there
  reached_on : (q : Reading) (r : Spliced) → GoesAs s.setting s.bytes c out.events r → r ≡ on q.config → q.setting ≡ s.setting → q.bytes ≡ s.bytes → q.waits ≡ false → IsReached q
  reached_on q (on next) g h a b w =
      let l : Leads s.setting s.bytes c g.0 q.config = subst (λ (z : Config). Leads s.setting s.bytes c g.0 z) (on_is next q.config h) g.1 in
      record {
        body = at.body;
        start = at.start;
        limits = at.limits;
        within = at.within;
        book = subst IsSetting (sym a) at.book;
        names = subst (λ (z : Setting). IsStart z.schema.names) (sym a) at.names;
        octets = subst IsBytes (sym b) at.octets;
        turns = at.turns ++ g.0;
        leads = subst (λ (z : Setting). Leads z q.bytes (first_config z at.body at.start at.limits) (at.turns ++ g.0) q.config) (sym a) (subst (λ (z : List ℕ). Leads s.setting z (first_config s.setting at.body at.start at.limits) (at.turns ++ g.0) q.config) (sym b) (leads_append s.setting s.bytes at.turns g.0 (first_config s.setting at.body at.start at.limits) c q.config at.leads l));
        fragment = λ k. absurd (true_no_false (sym k ∙ w));
      }
    where
      true_no_false : true ≡ false → ⊥
      true_no_false k = absurd cc
  reached_on q (ended d) g h a b w = absurd cc
  reached_on q (wrong_root d) g h a b w = absurd cc

-- ---- of a reader
waits_so : (s : Standing) (w : Bool) (r : Reading) → view s w ≡ r → r.waits ≡ true → view s true ≡ r
waits_so s true r h k = h
waits_so s false r h k = absurd (false_true (ap (λ (z : Reading). z.waits) h ∙ k))
  where
    false_true : false ≡ true → ⊥
    false_true e = absurd cc

module _ (s : Standing) (w : Bool) (r : Reading) (e : End) (is : view s w ≡ r) (waits : r.waits ≡ true) (at : IsReached r) (out : IsOutcome r e) (fit : fits r.config e ≡ true) where
  same : view s true ≡ r
  same = waits_so s w r is waits

  there : IsReached (view s true)
  there = subst IsReached (sym same) at

  outcome_there : IsOutcome (view s true) e
  outcome_there = subst (λ (z : Reading). IsOutcome z e) (sym same) out

  fits_there : fits s.config e ≡ true
  fits_there = subst (λ (z : Reading). fits z.config e ≡ true) (sym same) fit

  pub reader_can : s.config.place ≤ 8 * length s.bytes → IsWithin s.config.meter → CanSplice s e
  reader_can place meter = can_splice s e there outcome_there fits_there place meter

  pub reader_reached : (x : Joined) (new : Standing) → JoinedAs x new (spliced (put_aside s.setting s.config) e) → new.setting ≡ s.setting → new.bytes ≡ s.bytes → GoesOnReached x (view new false)
  reader_reached joined.On new h a b = reached_on s e there outcome_there fits_there (view new false) (spliced (put_aside s.setting s.config) e) (goes s e there outcome_there fits_there) h a b refl
  reader_reached (joined.Ended d) new h a b = tt
  reader_reached (joined.WrongRoot d) new h a b = tt
