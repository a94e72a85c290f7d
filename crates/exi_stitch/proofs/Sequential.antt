-- Whatever the moves are, the reader is where sequential processing comes to.
use Rattle.std.proofs.Common.{◌≡◌, ◌≢◌, ◌∙◌, ℕ, zero, suc, ◌+◌, ◌==◌, Bool, true, false, cond, List, [], ◌∷◌, ◌++◌, Option, Some, None, slice_get, ◌⊎◌, inl, inr, refl, sym, ap, subst}
use Rattle.std.proofs.lemmas.Bool.Decides.{eqb_tells}
use Rattle.std.proofs.lemmas.List.{append-nil}
use Rattle.exi_bits.specs.Bits.{IsBytes}
use Rattle.exi_meter.specs.Metering.{Bounds}
use Rattle.exi_names.specs.Events.{Happening}
use Rattle.exi_names.specs.Events as event
use Rattle.exi_names.specs.StartTables.{IsStart}
use Rattle.exi_processing.specs.Configurations.{Config, IsSetting, Setting}
use Rattle.exi_processing.specs.Handing.{listed}
use Rattle.exi_processing.specs.Reading.{IsFront}
use Rattle.exi_processing.specs.Runs.{IsSequence, Job, Turn, ends, first, goes, turn}
use Rattle.exi_processing.specs.Splices.{AtFragment, GoesAs, IsFragmentOutcome, Spliced, ended, fits, on, spliced, wrong_root}
use Rattle.exi_processing.specs.declared.start.Start.{Start}
use Rattle.exi_processing.proofs.Begins.{sc_leads_to_fragment}
use Rattle.exi_processing.proofs.SpliceRuns.{splices_are_runs}
use Rattle.exi_processing.proofs.Turning.{front_by}
use Rattle.exi_stitch.proofs.Ways.{ended_by, ends_with, joins, on_the_way}
use Rattle.exi_stitch.specs.Moves.{Board, IsOnTheWay, IsSequential, Led, Move, Moves, Place, Posting, ReaderIsSequential, after_turn, arrive, arrived, arrived_at, by_posting, by_word, byte_in, byte_of, changed, claim, drop, each, first_board, next_turn, over, post, reading, stands, taken, taken_where, turned_at, waiting, with_word, word}

abbrev given : Happening → Option Happening
given e = Some e

-- ---- numbers and lists
equal : (a b : ℕ) → ((a == b ≡ true) × (a ≡ b)) ⊎ ((a == b ≡ false) × (a ≢ b)) → a == b ≡ true → a ≡ b
equal a b (inl x) h = x.1
equal a b (inr x) h = both_no (sym h ∙ x.0)
  where
    both_no : true ≡ false → a ≡ b
    both_no k = absurd cc

get_each : (os : List ℕ) (h : ℕ) (p : Posting) → slice_get (each None os) h ≡ Some (Some p) → ⊥
get_each [] h p e = absurd cc
get_each (o ∷ os) zero p e = absurd cc
get_each (o ∷ os) (suc h) p e = get_each os h p e

module _ (j : Job) (s : Start) (limits ahead : Bounds) (offsets : List ℕ) (octets : IsBytes j.bytes) (book : IsSetting j.setting) (names : IsStart j.setting.schema.names) where
  abbrev g : Setting
  g = j.setting

  -- what is posted at a hint is the outcome of the fragment at its byte
  abbrev Posted : List (Option Posting) → Type 0
  Posted ps = (h byte : ℕ) (p : Posting) → slice_get offsets h ≡ Some byte → slice_get ps h ≡ Some (Some p) → IsFragmentOutcome j byte ahead p.events p.end

  -- a reader that waits stands at a fragment
  abbrev Stands : Place → Type 0
  Stands (reading c) = Unit {0}
  Stands (waiting byte c) = AtFragment g byte c
  Stands (over end) = Unit {0}

  record Kept (b : Board) : Type 0 where
    sequential : IsSequential j s limits b.reader b.events
    fragment : Stands b.reader
    outcomes : Posted b.postings

  -- ---- the reader's turn
  at_place : (byte : Option ℕ) (next : Config) (es : List Happening) → IsOnTheWay j s limits next es → IsSequential j s limits (stands byte next) es
  at_place None next es w = w
  at_place (Some byte) next es w = w

  begins_at : (e : Happening) (byte : ℕ) → byte_of e ≡ Some byte → e ≡ event.sc byte
  begins_at (event.sc other) byte h = cc
  begins_at event.sd byte h = absurd cc
  begins_at event.ed byte h = absurd cc
  begins_at (event.se name) byte h = absurd cc
  begins_at event.ee byte h = absurd cc
  begins_at (event.at name found) byte h = absurd cc
  begins_at (event.ch found) byte h = absurd cc
  begins_at (event.ns uri prefix element) byte h = absurd cc
  begins_at (event.cm text) byte h = absurd cc
  begins_at (event.pi target text) byte h = absurd cc
  begins_at (event.dt name public system text) byte h = absurd cc
  begins_at (event.er name) byte h = absurd cc

  given_at : (e : Option Happening) (byte : ℕ) → byte_in e ≡ Some byte → e ≡ Some (event.sc byte)
  given_at None byte h = absurd cc
  given_at (Some e) byte h = ap (λ (z : Happening). given z) (begins_at e byte h)

  stands_by : (e : Option Happening) (o : Option ℕ) (c next : Config) (es : List Happening) → byte_in e ≡ o → IsOnTheWay j s limits c es → turn g j.bytes c ≡ goes e next → Stands (stands o next)
  stands_by e None c next es k w h = tt
  stands_by e (Some byte) c next es k w h = sc_leads_to_fragment j s limits w.turns c next byte book names w.leads (subst (λ (z : Option Happening). turn g j.bytes c ≡ goes z next) (given_at e byte k) h)

  after : (b : Board) (c : Config) (t : Turn) → IsOnTheWay j s limits c b.events → Posted b.postings → turn g j.bytes c ≡ t → Kept (after_turn t b)
  after b c (goes e next) w ps h = record { sequential = at_place (byte_in e) next (b.events ++ listed e) (on_the_way j s limits c next b.events e w h); fragment = stands_by e (byte_in e) c next b.events refl w h; outcomes = ps }
  after b c (ends e end) w ps h = record { sequential = ended_by j s limits c b.events e end w h; fragment = tt; outcomes = ps }

  turned_kept : (b : Board) (r : Place) → b.reader ≡ r → IsSequential j s limits r b.events → Stands r → Posted b.postings → Kept (turned_at j r b)
  turned_kept b (reading c) k q f ps = after b c (turn g j.bytes c) q ps refl
  turned_kept b (waiting byte c) k q f ps = after b c (turn g j.bytes c) q ps refl
  turned_kept b (over end) k q f ps = record { sequential = subst (λ (z : Place). IsSequential j s limits z b.events) (sym k) q; fragment = subst Stands (sym k) tt; outcomes = ps }

  -- ---- a posting that is taken
  takes : (b : Board) (c : Config) (es : List Happening) (x : Spliced) → IsOnTheWay j s limits c b.events → Posted b.postings → GoesAs g j.bytes c es x → Kept (taken es x b)
  takes b c es (on next) w ps h = record { sequential = joins j s limits c next b.events es w h; fragment = tt; outcomes = ps }
  takes b c es (ended end) w ps h = record { sequential = ends_with j s limits c end b.events es w h; fragment = tt; outcomes = ps }
  takes b c es (wrong_root end) w ps h =
      let q = ends_with j s limits c end b.events [] w h in
      record { sequential = (q.0, subst (λ (z : List Happening). IsSequence j s limits z end q.0) (append-nil b.events) q.1); fragment = tt; outcomes = ps }

  takes_where : (b : Board) (byte : ℕ) (c : Config) (p : Posting) (f : Bool) → fits c p.end ≡ f → b.reader ≡ waiting byte c → IsOnTheWay j s limits c b.events → AtFragment g byte c → Posted b.postings → IsFragmentOutcome j byte ahead p.events p.end → Kept (taken_where f c p b)
  takes_where b byte c p true k r w a ps o = takes b c p.events (spliced c p.end) w ps (splices_are_runs j byte c ahead p.events p.end o.count octets book names a o.sequence k)
  takes_where b byte c p false k r w a ps o = record { sequential = subst (λ (z : Place). IsSequential j s limits z b.events) (sym r) w; fragment = subst Stands (sym r) a; outcomes = ps }

  stays : (b : Board) (byte : ℕ) (c : Config) → b.reader ≡ waiting byte c → IsOnTheWay j s limits c b.events → AtFragment g byte c → Posted b.postings → Kept b
  stays b byte c r w a ps = record { sequential = subst (λ (z : Place). IsSequential j s limits z b.events) (sym r) w; fragment = subst Stands (sym r) a; outcomes = ps }

  by_posting_kept : (b : Board) (h byte : ℕ) (c : Config) (o : Option (Option Posting)) → slice_get b.postings h ≡ o → slice_get offsets h ≡ Some byte → b.reader ≡ waiting byte c → IsOnTheWay j s limits c b.events → AtFragment g byte c → Posted b.postings → Kept (by_posting c o b)
  by_posting_kept b h byte c None k here r w a ps = stays b byte c r w a ps
  by_posting_kept b h byte c (Some None) k here r w a ps = stays b byte c r w a ps
  by_posting_kept b h byte c (Some (Some p)) k here r w a ps = takes_where b byte c p (fits c p.end) refl r w a ps (ps h byte p here k)

  by_word_kept : (b : Board) (h byte : ℕ) (c : Config) (f : Bool) → slice_get offsets h ≡ Some byte → b.reader ≡ waiting byte c → IsOnTheWay j s limits c b.events → AtFragment g byte c → Posted b.postings → Kept (by_word f h c b)
  by_word_kept b h byte c true here r w a ps = by_posting_kept b h byte c (slice_get b.postings h) refl here r w a ps
  by_word_kept b h byte c false here r w a ps = stays b byte c r w a ps

  -- ---- the other moves
  with_word_kept : (b : Board) (h n : ℕ) → Kept b → Kept (with_word h n b)
  with_word_kept b h n k = record { sequential = k.sequential; fragment = k.fragment; outcomes = k.outcomes }

  arrived_where : (f : Bool) (b : Board) (h stood byte : ℕ) (c : Config) → stood == byte ≡ f → slice_get offsets h ≡ Some byte → b.reader ≡ waiting stood c → Kept b → Kept (cond f (by_word (word b h == 1) h c (with_word h 2 b)) b)
  arrived_where true b h stood byte c e k r kept =
      let same : stood ≡ byte = equal stood byte (eqb_tells stood byte) e in
      let there : b.reader ≡ waiting byte c = r ∙ ap (λ (z : ℕ). waiting z c) same in
      by_word_kept (with_word h 2 b) h byte c (word b h == 1) k there
      (subst (λ (z : Place). IsSequential j s limits z b.events) there kept.sequential) (subst Stands there kept.fragment) kept.outcomes
  arrived_where false b h stood byte c e k r kept = kept

  arrived_kept : (b : Board) (r : Place) (h byte : ℕ) → b.reader ≡ r → slice_get offsets h ≡ Some byte → Kept b → Kept (arrived_at r byte h b)
  arrived_kept b (reading c) h byte r k kept = kept
  arrived_kept b (over end) h byte r k kept = kept
  arrived_kept b (waiting stood c) h byte r k kept = arrived_where (stood == byte) b h stood byte c refl k r kept

  changed_get : (ps : List (Option Posting)) (h k : ℕ) (p q : Posting) → slice_get (changed h (Some p) ps) k ≡ Some (Some q) → ((h ≡ k) × (p ≡ q)) ⊎ (slice_get ps k ≡ Some (Some q))
  changed_get [] h k p q e = absurd cc
  changed_get (y ∷ ys) zero zero p q e = inl (refl, cc)
  changed_get (y ∷ ys) zero (suc k) p q e = inr e
  changed_get (y ∷ ys) (suc h) zero p q e = inr e
  changed_get (y ∷ ys) (suc h) (suc k) p q e = deeper (changed_get ys h k p q e)
    where
      deeper : ((h ≡ k) × (p ≡ q)) ⊎ (slice_get ys k ≡ Some (Some q)) → ((suc h ≡ suc k) × (p ≡ q)) ⊎ (slice_get ys k ≡ Some (Some q))
      deeper (inl x) = inl (ap (λ (z : ℕ). suc z) x.0, x.1)
      deeper (inr x) = inr x

  same_byte : (os : List ℕ) (h k a b : ℕ) → h ≡ k → slice_get os h ≡ Some a → slice_get os k ≡ Some b → a ≡ b
  same_byte os h k a b e x y = some_is a b (sym x ∙ (ap (λ (z : ℕ). slice_get os z) e ∙ y))
    where
      some_is : (m n : ℕ) → Some m ≡ Some n → m ≡ n
      some_is m n i = cc

  posting_in : (ps : List (Option Posting)) (h place : ℕ) (p : Posting) → slice_get offsets h ≡ Some place → IsFragmentOutcome j place ahead p.events p.end → Posted ps → Posted (changed h (Some p) ps)
  posting_in ps h place p k o rest x byte q here there = by (changed_get ps h x p q there)
    where
      by : ((h ≡ x) × (p ≡ q)) ⊎ (slice_get ps x ≡ Some (Some q)) → IsFragmentOutcome j byte ahead q.events q.end
      by (inl e) = subst (λ (z : Posting). IsFragmentOutcome j byte ahead z.events z.end) e.1 (subst (λ (z : ℕ). IsFragmentOutcome j z ahead p.events p.end) (same_byte offsets h x place byte e.0 k here) o)
      by (inr e) = rest x byte q here e

  posted_where : (f : Bool) (b : Board) (h place : ℕ) (p : Posting) → slice_get offsets h ≡ Some place → IsFragmentOutcome j place ahead p.events p.end → Kept b → Kept (cond f (record (with_word h 1 b) { postings = changed h (Some p) b.postings }) b)
  posted_where true b h place p k o kept = record { sequential = kept.sequential; fragment = kept.fragment; outcomes = posting_in b.postings h place p k o kept.outcomes }
  posted_where false b h place p k o kept = kept

  word_where : (f : Bool) (b : Board) (h n : ℕ) → Kept b → Kept (cond f (with_word h n b) b)
  word_where true b h n kept = with_word_kept b h n kept
  word_where false b h n kept = kept

  arrives : (seat : ℕ) (b : Board) (h byte : ℕ) → slice_get offsets h ≡ Some byte → Kept b → Kept (arrived seat byte h b)
  arrives zero b h byte k kept = arrived_kept b b.reader h byte refl k kept
  arrives (suc seat) b h byte k kept = with_word_kept b h 2 kept

  moved : (m : Move) (b d : Board) → Moves j ahead offsets m b d → Kept b → Kept d
  moved (claim seat h) b d m kept = subst Kept (sym m) (word_where (word b h == 0) b h (3 + seat) kept)
  moved (post seat h) b d m kept = subst Kept (sym m.4) (posted_where (word b h == 3 + seat) b h m.0 m.1 m.2 m.3 kept)
  moved (drop seat h) b d m kept = subst Kept (sym m) (word_where (word b h == 3 + seat) b h 2 kept)
  moved (arrive seat h) b d m kept = subst Kept (sym m.2) (arrives seat b h m.0 m.1 kept)
  moved next_turn b d m kept = subst Kept (sym m) (turned_kept b b.reader refl kept.sequential kept.fragment kept.outcomes)

  led : (ms : List Move) (b d : Board) → Led j ahead offsets ms b d → Kept b → Kept d
  led [] b d m kept = subst Kept m kept
  led (x ∷ ms) b d m kept = led ms m.0 d m.2 (moved x b m.0 m.1 kept)

  begun : Kept (first_board j s limits offsets)
  begun =
      let front : IsFront j s limits [] = front_by j s limits [] (first j s limits) refl in
      record { sequential = record { turns = []; leads = refl; gave = refl; front = front }; fragment = tt; outcomes = λ h byte p here there. absurd (get_each offsets h p there) }

pub reader_is_sequential : ReaderIsSequential
reader_is_sequential j s limits ahead offsets moves b octets book names m = (led j s limits ahead offsets octets book names moves (first_board j s limits offsets) b m (begun j s limits ahead offsets octets book names)).sequential
