-- What is spelled and what is read, for items that go through the meter and the string tables.
use Rattle.std.proofs.Common.{◌≡◌, ℕ, ◌+◌, ◌%◌, ◌≤◌, Bool, true, false, cond, List, [], ◌∷◌, ◌++◌, length, drop, Option, Some, None, Result, Ok, Err, refl, sym, ap, ◌∙◌, subst, append_assoc, arith}
use Rattle.std.proofs.lemmas.Bool.{le-leb}
use Rattle.std.proofs.lemmas.List.{drop-drop, drop_at, length-append}
use Rattle.exi_bits.specs.declared.align.Align.{Align}
use Rattle.exi_bits.specs.declared.align.Align.TheVariants as align
use Rattle.exi_bits.specs.declared.fault.Fault.{Fault}
use Rattle.exi_bits.specs.declared.fault.Kind.TheVariants as kind
use Rattle.exi_bits.specs.Bits.{Spot, Front, IsAligned, IsBytes, bits, moved, rest}
use Rattle.exi_bits.specs.Repeat.{Reader, times}
use Rattle.exi_bits.specs.Unsigned.{◌>>=◌}
use Rattle.exi_items.specs.Charges.{Charged, text_charge}
use Rattle.exi_items.proofs.Items.{Item, Row, Taken, given, item_times}
use Rattle.exi_items.proofs.NoPrefix.{item_no_prefix}
use Rattle.exi_meter.specs.Metering.{Metering, text_fits, with_text}
use Rattle.exi_tables.specs.Partitions.{Partitions}
use Rattle.exi_text.specs.Literals.{char_at, chars_at}
use Rattle.exi_text.specs.Spelled.{SpellsChar}
use Rattle.exi_typed.specs.Charging.{Charge, IsTaken, Unmetered, charging, later, metered, one_charge}
use Rattle.exi_text.proofs.Letters.{item_char}
use Rattle.exi_typed.specs.ReadStates.{Context, ReadState, ContextReader, Failure, at_spot_of, failing}
use Rattle.exi_typed.specs.Laws.{NoneIsPrefix, ReadIsSpelled, SpelledIsRead, Spelling}
use Rattle.exi_typed.specs.Spelled.{Behind, Follows, IsMissed, IsNothing, OneSpelling}
use Rattle.exi_typed.specs.Strings.{Growth, charged_at, missed_at, placed_at}

abbrev pub read_state : Spot → Context → ReadState
read_state s w = record { spot = s; context = w }

abbrev pub context : Metering → Partitions → Context
context m p = record { meter = m; tables = p }

abbrev pub charged : Spot → Metering → Charged
charged s m = record { spot = s; meter = m }

-- ---- the three laws between a spelling and a reading
pub record Agrees {X : Type 0} (a : Align) (Spells : Spelling X) (read : ContextReader X) : Type 0 where
  pub is_spelled : ReadIsSpelled a Spells read
  pub is_read : SpelledIsRead a Spells read
  pub is_no_prefix : NoneIsPrefix Spells

-- ---- results
abbrev pub told : {X : Type 0} → X → Result X Failure
told p = Ok p

abbrev pub fine : {X : Type 0} → X → Result X Fault
fine p = Ok p

pub told_is : {X : Type 0} (p q : X) → told p ≡ told q → p ≡ q
told_is p q e = cc

pub fine_is : {X : Type 0} (p q : X) → fine p ≡ fine q → p ≡ q
fine_is p q e = cc

pub bind_told : {X Y : Type 0} (r : Result X Failure) (f : X → Result Y Failure) (q : Y) → (r >>= f) ≡ told q → (p : X) × (r ≡ told p) × (f p ≡ told q)
bind_told (Ok p) f q e = (p, refl, e)
bind_told (Err x) f q e = absurd cc

pub bind_fine : {X Y : Type 0} (r : Result X Fault) (f : X → Result Y Fault) (q : Y) → (r >>= f) ≡ fine q → (p : X) × (r ≡ fine p) × (f p ≡ fine q)
bind_fine (Ok p) f q e = (p, refl, e)
bind_fine (Err x) f q e = absurd cc

-- of bits alone, where the meter goes along
pub not_failing : {X : Type 0} (m : Metering) (r : Result X Fault) (q : X) → failing m r ≡ told q → r ≡ fine q
not_failing {X} m (Ok p) q e = ap (λ (x : X). fine x) (told_is p q e)
not_failing m (Err f) q e = absurd cc

pub guard_fine : {X : Type 0} (b : Bool) (p q : X) (f : Fault) → cond b (fine p) (Err f) ≡ fine q → (b ≡ true) × (p ≡ q)
guard_fine true p q f e = (refl, fine_is p q e)
guard_fine false p q f e = absurd cc

-- ---- places
rest_moved : (s : Spot) (text more : List Bool) → rest s ≡ text ++ more → rest (moved s (length text)) ≡ more
rest_moved s text more e = sym (drop-drop (length text) s.place (bits s.bytes)) ∙ ap (λ (x : List Bool). drop (length text) x) e ∙ drop_at text more (length text) refl

moved_on : (s : Spot) (text first second : List Bool) → text ≡ first ++ second → moved (moved s (length first)) (length second) ≡ moved s (length text)
moved_on s text first second e =
    let n : length text ≡ length first + length second = ap length e ∙ length-append first second in
    let p : s.place + length first + length second ≡ s.place + length text = omega arith in
    ap (λ (place : ℕ). record { bytes = s.bytes; place = place }) p

not_moved : (s : Spot) (text : List Bool) → text ≡ [] → s ≡ moved s (length text)
not_moved s text e =
    let p : s.place ≡ s.place + length text = omega (arith, ap length e) in
    ap (λ (place : ℕ). record { bytes = s.bytes; place = place }) p

front_then : (s t u : Spot) (first second : List Bool) → Front s first t → Front t second u → Front s (first ++ second) u
front_then s t u first second f g = record {
  parts = f.parts ∙ ap (λ (x : List Bool). first ++ x) g.parts ∙ sym (append_assoc first second (rest u));
  bytes = g.bytes ∙ f.bytes;
  place = omega (arith, f.place, g.place, length-append first second);
}

front_none : (s : Spot) → Front s [] s
front_none s = record { parts = refl; bytes = refl; place = omega arith }

aligned_on : (a : Align) (s : Spot) (n : ℕ) → IsAligned a s → (a ≡ align.Bytes → n % 8 ≡ 0) → IsAligned a (moved s n)
aligned_on a s n al whole e =
    let p : s.place % 8 ≡ 0 = al e in
    let q : n % 8 ≡ 0 = whole e in
    omega arith

-- ---- charges
-- later by one number, and then by another
later_later : (i n : ℕ) (ks : List Charge) → later n (later i ks) ≡ later (n + i) ks
later_later i n [] = refl
later_later i n (k ∷ ks) =
    let e : k.bit + i + n ≡ k.bit + (n + i) = omega arith in
    ap (λ (b : ℕ). record { units = k.units; bit = b } ∷ later n (later i ks)) e ∙ ap (λ (js : List Charge). record { units = k.units; bit = k.bit + (n + i) } ∷ js) (later_later i n ks)

pub later_none : (ks : List Charge) → later 0 ks ≡ ks
later_none [] = refl
later_none (k ∷ ks) =
    let e : k.bit + 0 ≡ k.bit = omega arith in
    ap (λ (b : ℕ). record { units = k.units; bit = b } ∷ later 0 ks) e ∙ ap (λ (js : List Charge). k ∷ js) (later_none ks)

pub later_one : (units n : ℕ) → later n (one_charge units 0) ≡ one_charge units n
later_one units n =
    let e : 0 + n ≡ n = omega arith in
    ap (λ (b : ℕ). one_charge units b) e

later_both : (n : ℕ) (ks js : List Charge) → later n (ks ++ js) ≡ later n ks ++ later n js
later_both n [] js = refl
later_both n (k ∷ ks) js = ap (λ (r : List Charge). record { units = k.units; bit = k.bit + n } ∷ r) (later_both n ks js)

abbrev stopped : {X : Type 0} → Charge → Metering → Result (X × ReadState) Failure
stopped k m = Err (record { fault = record { kind = kind.TextLimit; bit = k.bit }; meter = m })

abbrev got : {X : Type 0} → X → Spot → Partitions → Unmetered X
got x s p = Ok (x, (s, p))

-- charges of one reading, and those of what follows
charging_then : {X Y : Type 0} (two : X → ContextReader Y) (x : X) (t : Spot) (q : Partitions) (r : Unmetered Y) (js : List Charge) → ((m : Metering) → two x (read_state t (context m q)) ≡ charging js m r)
    → (ks : List Charge) (m : Metering) → (charging ks m (got x t q) >>= λ y. two y.0 y.1) ≡ charging (ks ++ js) m r
charging_then two x t q r js more [] m = more m
charging_then {X} {Y} two x t q r js more (k ∷ ks) m = by_fit (charging_then two x t q r js more ks (with_text m k.units)) (text_fits m k.units)
  where
    by_fit : (charging ks (with_text m k.units) (got x t q) >>= λ y. two y.0 y.1) ≡ charging (ks ++ js) (with_text m k.units) r
        → (b : Bool) → (cond b (charging ks (with_text m k.units) (got x t q)) (stopped {X = X} k m) >>= λ y. two y.0 y.1) ≡ cond b (charging (ks ++ js) (with_text m k.units) r) (stopped {X = Y} k m)
    by_fit e true = e
    by_fit e false = refl

charging_made : {X Y : Type 0} (f : X → Partitions → Y) (x : X) (t : Spot) (q : Partitions) (ks : List Charge) (m : Metering) → (charging ks m (got x t q) >>= λ y. told {X = Y × ReadState} (f y.0 y.1.context.tables, y.1)) ≡ charging ks m (got (f x q) t q)
charging_made f x t q [] m = refl
charging_made {X} {Y} f x t q (k ∷ ks) m = by_fit (charging_made f x t q ks (with_text m k.units)) (text_fits m k.units)
  where
    by_fit : (charging ks (with_text m k.units) (got x t q) >>= λ y. told {X = Y × ReadState} (f y.0 y.1.context.tables, y.1)) ≡ charging ks (with_text m k.units) (got (f x q) t q)
        → (b : Bool) → (cond b (charging ks (with_text m k.units) (got x t q)) (stopped {X = X} k m) >>= λ y. told {X = Y × ReadState} (f y.0 y.1.context.tables, y.1)) ≡ cond b (charging ks (with_text m k.units) (got (f x q) t q)) (stopped {X = Y} k m)
    by_fit e true = e
    by_fit e false = refl

-- where reading comes to its end, the charges were taken in turn
pub charges_taken : {X : Type 0} (x y : X) (t : Spot) (q : Partitions) (d : ReadState) (n : ℕ) (ks : List Charge) (m : Metering) → charging (later n ks) m (got x t q) ≡ told (y, d) → IsTaken ks m d.context.meter
charges_taken {X} x y t q d n [] m e = ap (λ (z : X × ReadState). z.1.context.meter) (sym (told_is (x, read_state t (context m q)) (y, d) e))
charges_taken {X} x y t q d n (k ∷ ks) m e = by_fit (λ h. charges_taken x y t q d n ks (with_text m k.units) h) (text_fits m k.units) refl e
  where
    by_fit : (charging (later n ks) (with_text m k.units) (got x t q) ≡ told (y, d) → IsTaken ks (with_text m k.units) d.context.meter)
        → (b : Bool) → text_fits m k.units ≡ b → cond b (charging (later n ks) (with_text m k.units) (got x t q)) (stopped {X = X} (record { units = k.units; bit = k.bit + n }) m) ≡ told (y, d) → IsTaken (k ∷ ks) m d.context.meter
    by_fit more true f h = (f, more h)
    by_fit more false f h = absurd cc

-- and where the meter takes them in turn, reading comes to its end
pub taken_charges : {X : Type 0} (x : X) (t : Spot) (q : Partitions) (v : Metering) (n : ℕ) (ks : List Charge) (m : Metering) → IsTaken ks m v → charging (later n ks) m (got x t q) ≡ told (x, read_state t (context v q))
taken_charges {X} x t q v n [] m e = ap (λ (z : Metering). told {X = X × ReadState} (x, read_state t (context z q))) (sym e)
taken_charges x t q v n (k ∷ ks) m h = rw h.0 (taken_charges x t q v n ks (with_text m k.units) h.1)

-- ---- an item
-- bits that spell something were taken from the front, and under Bytes they are whole bytes
pub record Went (a : Align) (Spells : OneSpelling) (c d : ReadState) : Type 0 where
  pub text : List Bool
  pub charges : List Charge
  pub spelled : Spells c.context.tables d.context.tables charges text
  pub front : Front c.spot text d.spot
  pub aligned : IsAligned a d.spot
  pub fits : IsBytes d.spot.bytes

pub record ContextItem {X : Type 0} (a : Align) (read : ContextReader X) (Spells : Spelling X) : Type 0 where
  pub takes : (x : X) (c d : ReadState) → IsBytes c.spot.bytes → IsAligned a c.spot → read c ≡ told (x, d) → Went a (Spells x) c d
  pub again : (x : X) (s : Spot) (p q : Partitions) (ks : List Charge) (text more : List Bool) → IsBytes s.bytes → IsAligned a s → Spells x p q ks text → rest s ≡ text ++ more → (m : Metering) → read (read_state s (context m p)) ≡ charging (later s.place ks) m (got x (moved s (length text)) q)
  pub whole : (x : X) (p q : Partitions) (ks : List Charge) (text : List Bool) → Spells x p q ks text → a ≡ align.Bytes → length text % 8 ≡ 0

-- the same spelling in other words
pub in_words : {X : Type 0} (a : Align) (read : ContextReader X) (Spells Others : Spelling X) → ((x : X) (p q : Partitions) (ks : List Charge) (text : List Bool) → Spells x p q ks text → Others x p q ks text) → ((x : X) (p q : Partitions) (ks : List Charge) (text : List Bool) → Others x p q ks text → Spells x p q ks text)
    → ContextItem a read Spells → ContextItem a read Others
in_words {X} a read Spells Others to from item = record {
  takes = taking;
  again = λ x s p q ks text more fits al h e m. item.again x s p q ks text more fits al (from x p q ks text h) e m;
  whole = λ x p q ks text h. item.whole x p q ks text (from x p q ks text h);
}
  where
    taking : (x : X) (c d : ReadState) → IsBytes c.spot.bytes → IsAligned a c.spot → read c ≡ told (x, d) → Went a (Others x) c d
    taking x c d fits al r =
        let k = item.takes x c d fits al r in
        record { text = k.text; charges = k.charges; spelled = to x c.context.tables d.context.tables k.charges k.text k.spelled; front = k.front; aligned = k.aligned; fits = k.fits }

-- a reading and a spelling that depend on what stands at its start
pub at_start : {X : Type 0} (a : Align) (read : Spot → Partitions → ContextReader X) (Spells : Partitions → Spelling X) → ((s : Spot) (p : Partitions) → ContextItem a (read s p) (Spells p)) → ContextItem {X = X} a (λ c. read c.spot c.context.tables c) (λ x p. Spells p x p)
at_start a read Spells item = record {
  takes = λ x c d fits al r. (let k = (item c.spot c.context.tables).takes x c d fits al r in record { text = k.text; charges = k.charges; spelled = k.spelled; front = k.front; aligned = k.aligned; fits = k.fits });
  again = λ x s p q ks text more fits al h e m. (item s p).again x s p q ks text more fits al h e m;
  whole = λ x p q ks text h. (item (record { bytes = []; place = 0 }) p).whole x p q ks text h;
}

-- one of two, as a test tells
abbrev pub Chosen : {X : Type 0} → Bool → Spelling X → Spelling X → Spelling X
Chosen true First Second = First
Chosen false First Second = Second

pub chosen : {X : Type 0} (a : Align) (b : Bool) (one two : ContextReader X) (First Second : Spelling X) → ContextItem a one First → ContextItem a two Second → ContextItem {X = X} a (λ c. cond b (one c) (two c)) (Chosen b First Second)
chosen a true one two First Second i j = i
chosen a false one two First Second i j = j

-- nothing is read
pub record IsPure {X : Type 0} (y x : X) (p q : Partitions) (ks : List Charge) (text : List Bool) : Type 0 where
  pub is : y ≡ x
  pub nothing : IsNothing p q ks text

pub no_bits : (a : Align) (text : List Bool) → text ≡ [] → a ≡ align.Bytes → length text % 8 ≡ 0
no_bits a text e f = rw e refl

pub pure : {X : Type 0} (a : Align) (y : X) → ContextItem {X = X} a (λ c. Ok (y, c)) (IsPure y)
pure {X} a y = record { takes = taking; again = reading; whole = λ x p q ks text h. no_bits a text h.nothing.bits }
  where
    taking : (x : X) (c d : ReadState) → IsBytes c.spot.bytes → IsAligned a c.spot → told {X = X × ReadState} (y, c) ≡ told (x, d) → Went a (IsPure y x) c d
    taking x c d fits al r =
        let e : (y, c) ≡ (x, d) = told_is (y, c) (x, d) r in
        subst (λ (z : X × ReadState). Went a (IsPure y z.0) c z.1) e (record { text = []; charges = []; spelled = record { is = refl; nothing = record { bits = refl; charges = refl; after = refl } }; front = front_none c.spot; aligned = al; fits = fits })

    reading : (x : X) (s : Spot) (p q : Partitions) (ks : List Charge) (text more : List Bool) → IsBytes s.bytes → IsAligned a s → IsPure y x p q ks text → rest s ≡ text ++ more → (m : Metering) → told {X = X × ReadState} (y, read_state s (context m p)) ≡ charging (later s.place ks) m (got x (moved s (length text)) q)
    reading x s p q ks text more fits al h e m =
        ap (λ (z : X). told {X = X × ReadState} (z, read_state s (context m p))) h.is
        ∙ ap (λ (t : Spot). told {X = X × ReadState} (x, read_state t (context m p))) (not_moved s text h.nothing.bits)
        ∙ ap (λ (u : Partitions). told {X = X × ReadState} (x, read_state (moved s (length text)) (context m u))) (sym h.nothing.after)
        ∙ ap (λ (js : List Charge). charging (later s.place js) m (got x (moved s (length text)) q)) (sym h.nothing.charges)

-- bits alone, and behind them what depends on their value
pub record BehindValue {X Y : Type 0} (First : X → List Bool → Type 0) (Second : X → Spelling Y) (y : Y) (p q : Partitions) (ks : List Charge) (text : List Bool) : Type 0 where
  pub from : X
  pub spelled : Behind (First from) (Second from y) p q ks text

pub behind : {X Y : Type 0} (a : Align) (one : Reader X) (two : X → ContextReader Y) (First : X → List Bool → Type 0) (Second : X → Spelling Y) → Item a one First → ((x : X) → ContextItem a (two x) (Second x))
    → ContextItem {X = Y} a (λ c. failing c.context.meter (one c.spot) >>= λ x. two x.0 (at_spot_of c x.1)) (BehindValue First Second)
behind {X} {Y} a one two First Second i j = record { takes = taking; again = reading; whole = wholly }
  where
    taking : (y : Y) (c d : ReadState) → IsBytes c.spot.bytes → IsAligned a c.spot → (failing c.context.meter (one c.spot) >>= λ x. two x.0 (at_spot_of c x.1)) ≡ told (y, d) → Went a (BehindValue First Second y) c d
    taking y c d fits al r =
        let u = bind_told (failing c.context.meter (one c.spot)) (λ (x : X × Spot). two x.0 (at_spot_of c x.1)) (y, d) r in
        let k = i.takes u.0.0 c.spot u.0.1 fits al (not_failing c.context.meter (one c.spot) u.0 u.1) in
        let l = (j u.0.0).takes y (at_spot_of c u.0.1) d k.fits k.aligned u.2 in
        record {
          text = k.text ++ l.text;
          charges = later (length k.text) l.charges;
          spelled = record { from = u.0.0; spelled = record { first = k.text; second = l.text; parts = refl; owed = l.charges; charges = refl; front = k.spelled; behind = l.spelled } };
          front = front_then c.spot u.0.1 d.spot k.text l.text k.front l.front;
          aligned = l.aligned;
          fits = l.fits;
        }

    reading : (y : Y) (s : Spot) (p q : Partitions) (ks : List Charge) (text more : List Bool) → IsBytes s.bytes → IsAligned a s → BehindValue First Second y p q ks text → rest s ≡ text ++ more
        → (m : Metering) → (failing m (one s) >>= λ x. two x.0 (read_state x.1 (context m p))) ≡ charging (later s.place ks) m (got y (moved s (length text)) q)
    reading y s p q ks text more fits al z e m =
        let h = z.spelled in
        let e' : rest s ≡ h.first ++ (h.second ++ more) = e ∙ ap (λ (x : List Bool). x ++ more) h.parts ∙ append_assoc h.first h.second more in
        let al' : IsAligned a (moved s (length h.first)) = aligned_on a s (length h.first) al (i.whole z.from h.first h.front) in
        let r1 : one s ≡ given (z.from, moved s (length h.first)) = i.again z.from h.first s (h.second ++ more) fits al h.front e' in
        let r2 : two z.from (read_state (moved s (length h.first)) (context m p)) ≡ charging (later (s.place + length h.first) h.owed) m (got y (moved (moved s (length h.first)) (length h.second)) q) =
        (j z.from).again y (moved s (length h.first)) p q h.owed h.second more fits al' h.behind (rest_moved s h.first (h.second ++ more) e') m in
        let charges : later (s.place + length h.first) h.owed ≡ later s.place ks = sym (later_later (length h.first) s.place h.owed) ∙ ap (λ (js : List Charge). later s.place js) (sym h.charges) in
        rw (r1, r2) (ap (λ (js : List Charge). charging js m (got y (moved (moved s (length h.first)) (length h.second)) q)) charges ∙ ap (λ (t : Spot). charging (later s.place ks) m (got y t q)) (moved_on s text h.first h.second h.parts))

    wholly : (y : Y) (p q : Partitions) (ks : List Charge) (text : List Bool) → BehindValue First Second y p q ks text → a ≡ align.Bytes → length text % 8 ≡ 0
    wholly y p q ks text z e =
        let h = z.spelled in
        let m : length h.first % 8 ≡ 0 = i.whole z.from h.first h.front e in
        let n : length h.second % 8 ≡ 0 = (j z.from).whole y p q h.owed h.second h.behind e in
        omega (arith, ap length h.parts, length-append h.first h.second)

-- one behind the other, which may depend on it and on the tables in between
pub record Chained {X Y : Type 0} (First : Spelling X) (Second : X → Spelling Y) (y : Y) (p q : Partitions) (ks : List Charge) (text : List Bool) : Type 0 where
  pub from : X
  pub spelled : Follows (First from) (Second from y) p q ks text

pub chained : {X Y : Type 0} (a : Align) (one : ContextReader X) (two : X → ContextReader Y) (First : Spelling X) (Second : X → Spelling Y) → ContextItem a one First → ((x : X) → ContextItem a (two x) (Second x))
    → ContextItem {X = Y} a (λ c. one c >>= λ x. two x.0 x.1) (Chained First Second)
chained {X} {Y} a one two First Second i j = record { takes = taking; again = reading; whole = wholly }
  where
    taking : (y : Y) (c d : ReadState) → IsBytes c.spot.bytes → IsAligned a c.spot → (one c >>= λ x. two x.0 x.1) ≡ told (y, d) → Went a (Chained First Second y) c d
    taking y c d fits al r =
        let u = bind_told (one c) (λ (x : X × ReadState). two x.0 x.1) (y, d) r in
        let k = i.takes u.0.0 c u.0.1 fits al u.1 in
        let l = (j u.0.0).takes y u.0.1 d k.fits k.aligned u.2 in
        record {
          text = k.text ++ l.text;
          charges = k.charges ++ later (length k.text) l.charges;
          spelled = record {
            from = u.0.0;
            spelled = record { between = u.0.1.context.tables; first = k.text; second = l.text; parts = refl; paid = k.charges; owed = l.charges; charges = refl; front = k.spelled; behind = l.spelled };
          };
          front = front_then c.spot u.0.1.spot d.spot k.text l.text k.front l.front;
          aligned = l.aligned;
          fits = l.fits;
        }

    reading : (y : Y) (s : Spot) (p q : Partitions) (ks : List Charge) (text more : List Bool) → IsBytes s.bytes → IsAligned a s → Chained First Second y p q ks text → rest s ≡ text ++ more
        → (m : Metering) → (one (read_state s (context m p)) >>= λ x. two x.0 x.1) ≡ charging (later s.place ks) m (got y (moved s (length text)) q)
    reading y s p q ks text more fits al z e m =
        let h = z.spelled in
        let e' : rest s ≡ h.first ++ (h.second ++ more) = e ∙ ap (λ (x : List Bool). x ++ more) h.parts ∙ append_assoc h.first h.second more in
        let next : Spot = moved s (length h.first) in
        let last : Unmetered Y = got y (moved next (length h.second)) q in
        let al' : IsAligned a next = aligned_on a s (length h.first) al (i.whole z.from p h.between h.paid h.first h.front) in
        let r1 : one (read_state s (context m p)) ≡ charging (later s.place h.paid) m (got z.from next h.between) = i.again z.from s p h.between h.paid h.first (h.second ++ more) fits al h.front e' m in
        let r2 : (n : Metering) → two z.from (read_state next (context n h.between)) ≡ charging (later next.place h.owed) n last =
        λ n. (j z.from).again y next h.between q h.owed h.second more fits al' h.behind (rest_moved s h.first (h.second ++ more) e') n in
        let r3 : (charging (later s.place h.paid) m (got z.from next h.between) >>= λ x. two x.0 x.1) ≡ charging (later s.place h.paid ++ later next.place h.owed) m last = charging_then two z.from next h.between last (later next.place h.owed) r2 (later s.place h.paid) m in
        let charges : later s.place h.paid ++ later next.place h.owed ≡ later s.place ks =
        ap (λ (js : List Charge). later s.place h.paid ++ js) (sym (later_later (length h.first) s.place h.owed)) ∙ sym (later_both s.place h.paid (later (length h.first) h.owed)) ∙ ap (λ (js : List Charge). later s.place js) (sym h.charges) in
        ap (λ (z : Result (X × ReadState) Failure). z >>= λ x. two x.0 x.1) r1 ∙ r3 ∙ ap (λ (js : List Charge). charging js m last) charges ∙ ap (λ (t : Spot). charging (later s.place ks) m (got y t q)) (moved_on s text h.first h.second h.parts)

    wholly : (y : Y) (p q : Partitions) (ks : List Charge) (text : List Bool) → Chained First Second y p q ks text → a ≡ align.Bytes → length text % 8 ≡ 0
    wholly y p q ks text z e =
        let h = z.spelled in
        let m : length h.first % 8 ≡ 0 = i.whole z.from p h.between h.paid h.first h.front e in
        let n : length h.second % 8 ≡ 0 = (j z.from).whole y h.between q h.owed h.second h.behind e in
        omega (arith, ap length h.parts, length-append h.first h.second)

-- what is made of a value and of the tables afterwards
pub record MadeInContext {X Y : Type 0} (f : X → Partitions → Y) (Spells : Spelling X) (y : Y) (p q : Partitions) (ks : List Charge) (text : List Bool) : Type 0 where
  pub from : X
  pub is : f from q ≡ y
  pub spelled : Spells from p q ks text

pub made : {X Y : Type 0} (a : Align) (read : ContextReader X) (f : X → Partitions → Y) (Spells : Spelling X) → ContextItem a read Spells → ContextItem {X = Y} a (λ c. read c >>= λ x. told {X = Y × ReadState} (f x.0 x.1.context.tables, x.1)) (MadeInContext f Spells)
made {X} {Y} a read f Spells item = record { takes = taking; again = reading; whole = λ y p q ks text m. item.whole m.from p q ks text m.spelled }
  where
    taking : (y : Y) (c d : ReadState) → IsBytes c.spot.bytes → IsAligned a c.spot → (read c >>= λ x. told {X = Y × ReadState} (f x.0 x.1.context.tables, x.1)) ≡ told (y, d) → Went a (MadeInContext f Spells y) c d
    taking y c d fits al r =
        let u = bind_told (read c) (λ (x : X × ReadState). told {X = Y × ReadState} (f x.0 x.1.context.tables, x.1)) (y, d) r in
        let e : (f u.0.0 u.0.1.context.tables, u.0.1) ≡ (y, d) = told_is (f u.0.0 u.0.1.context.tables, u.0.1) (y, d) u.2 in
        let k = item.takes u.0.0 c u.0.1 fits al u.1 in
        subst (λ (z : Y × ReadState). Went a (MadeInContext f Spells z.0) c z.1) e (record { text = k.text; charges = k.charges; spelled = record { from = u.0.0; is = refl; spelled = k.spelled }; front = k.front; aligned = k.aligned; fits = k.fits })

    reading : (y : Y) (s : Spot) (p q : Partitions) (ks : List Charge) (text more : List Bool) → IsBytes s.bytes → IsAligned a s → MadeInContext f Spells y p q ks text → rest s ≡ text ++ more
        → (m : Metering) → (read (read_state s (context m p)) >>= λ x. told {X = Y × ReadState} (f x.0 x.1.context.tables, x.1)) ≡ charging (later s.place ks) m (got y (moved s (length text)) q)
    reading y s p q ks text more fits al h e m =
        let r = item.again h.from s p q ks text more fits al h.spelled e m in
        ap (λ (z : Result (X × ReadState) Failure). z >>= λ x. told {X = Y × ReadState} (f x.0 x.1.context.tables, x.1)) r
        ∙ charging_made f h.from (moved s (length text)) q (later s.place ks) m
        ∙ ap (λ (z : Y). charging (later s.place ks) m (got z (moved s (length text)) q)) h.is

-- ---- charges
pub charge_is : (units bit : ℕ) (m n : Metering) → text_charge units bit m ≡ fine n → (text_fits m units ≡ true) × (with_text m units ≡ n)
unfolding text_charge
charge_is units bit m n e = guard_fine (text_fits m units) (with_text m units) n (record { kind = kind.TextLimit; bit = bit }) e

-- so many units are charged, and nothing is coded for them
pub record PaysFirst {X : Type 0} (units : ℕ) (Spells : Spelling X) (x : X) (p q : Partitions) (ks : List Charge) (text : List Bool) : Type 0 where
  pub owed : List Charge
  pub charges : ks ≡ one_charge units 0 ++ owed
  pub spelled : Spells x p q owed text

pub paying : {X : Type 0} (a : Align) (units : ℕ) (read : ContextReader X) (Spells : Spelling X) → ContextItem a read Spells
    → ContextItem {X = X} a (λ c. failing c.context.meter (text_charge units c.spot.place c.context.meter) >>= λ meter. read (read_state c.spot (context meter c.context.tables))) (PaysFirst units Spells)
unfolding text_charge
paying {X} a units read Spells item = record { takes = taking; again = reading; whole = λ x p q ks text h. item.whole x p q h.owed text h.spelled }
  where
    taking : (x : X) (c d : ReadState) → IsBytes c.spot.bytes → IsAligned a c.spot → (failing c.context.meter (text_charge units c.spot.place c.context.meter) >>= λ meter. read (read_state c.spot (context meter c.context.tables))) ≡ told (x, d) → Went a (PaysFirst units Spells x) c d
    taking x c d fits al r =
        let u = bind_told (failing c.context.meter (text_charge units c.spot.place c.context.meter)) (λ (m : Metering). read (read_state c.spot (context m c.context.tables))) (x, d) r in
        let k = item.takes x (read_state c.spot (context u.0 c.context.tables)) d fits al u.2 in
        record { text = k.text; charges = one_charge units 0 ++ k.charges; spelled = record { owed = k.charges; charges = refl; spelled = k.spelled }; front = k.front; aligned = k.aligned; fits = k.fits }

    reading : (x : X) (s : Spot) (p q : Partitions) (ks : List Charge) (text more : List Bool) → IsBytes s.bytes → IsAligned a s → PaysFirst units Spells x p q ks text → rest s ≡ text ++ more
        → (m : Metering) → (failing m (text_charge units s.place m) >>= λ meter. read (read_state s (context meter p))) ≡ charging (later s.place ks) m (got x (moved s (length text)) q)
    reading x s p q ks text more fits al h e m =
        by_fit (text_fits m units) ∙ ap (λ (js : List Charge). charging (js ++ later s.place h.owed) m (got x (moved s (length text)) q)) (sym (later_one units s.place)) ∙ ap (λ (js : List Charge). charging (later s.place js) m (got x (moved s (length text)) q)) (sym h.charges)
      where
        limit : Fault
        limit = record { kind = kind.TextLimit; bit = s.place }

        by_fit : (b : Bool) → (failing m (cond b (Ok (with_text m units)) (Err limit)) >>= λ meter. read (read_state s (context meter p))) ≡ cond b (charging (later s.place h.owed) (with_text m units) (got x (moved s (length text)) q)) (Err (record { fault = limit; meter = m }))
        by_fit true = item.again x s p q h.owed text more fits al h.spelled e (with_text m units)
        by_fit false = refl

-- a text that a place tells
pub record IsTold (o : Option (List ℕ)) (x : List ℕ) (p q : Partitions) (ks : List Charge) (text : List Bool) : Type 0 where
  pub stands : o ≡ Some x
  pub bits : text ≡ []
  pub charges : ks ≡ one_charge (length x) 0
  pub after : q ≡ p

pub some_is : (x y : List ℕ) → Some x ≡ Some y → x ≡ y
some_is x y e = cc

charged_item : (a : Align) (x : List ℕ) → ContextItem {X = List ℕ} a (charged_at x) (IsTold (Some x))
unfolding charged_at
charged_item a x = in_words a (charged_at x) (PaysFirst (length x) (IsPure x)) (IsTold (Some x)) to from (paying a (length x) (λ c. Ok (x, c)) (IsPure x) (pure a x))
  where
    to : (y : List ℕ) (p q : Partitions) (ks : List Charge) (text : List Bool) → PaysFirst (length x) (IsPure x) y p q ks text → IsTold (Some x) y p q ks text
    to y p q ks text z =
        let k = z.spelled in
        record {
          stands = ap (λ (t : List ℕ). Some t) k.is;
          bits = k.nothing.bits;
          charges = z.charges ∙ ap (λ (js : List Charge). one_charge (length x) 0 ++ js) k.nothing.charges ∙ ap (λ (t : List ℕ). one_charge (length t) 0) k.is;
          after = k.nothing.after;
        }

    from : (y : List ℕ) (p q : Partitions) (ks : List Charge) (text : List Bool) → IsTold (Some x) y p q ks text → PaysFirst (length x) (IsPure x) y p q ks text
    from y p q ks text h =
        let same : x ≡ y = some_is x y h.stands in
        record { owed = []; charges = h.charges ∙ ap (λ (t : List ℕ). one_charge (length t) 0) (sym same); spelled = record { is = same; nothing = record { bits = h.bits; charges = refl; after = h.after } } }

pub placed : (a : Align) (s : Spot) (o : Option (List ℕ)) → ContextItem {X = List ℕ} a (placed_at s o) (IsTold o)
placed a s (Some x) = charged_item a x
placed a s None = record { takes = λ x c d fits al r. absurd cc; again = λ x t p q ks text more fits al h e m. absurd (none x h.stands); whole = λ x p q ks text h. no_bits a text h.bits }
  where
    none : (x : List ℕ) → None ≡ Some x → ⊥
    none x e = absurd cc

-- ---- a miss
-- of so many characters
pub record MissedOf (set : Option (List ℕ)) (a : Align) (grow : Growth) (count : ℕ) (x : List ℕ) (p q : Partitions) (ks : List Charge) (text : List Bool) : Type 0 where
  pub long : length x ≡ count
  pub missed : IsMissed set a grow x p q ks text

abbrev pub grown : Growth → Partitions → Result (List ℕ × Spot) Fault → Unmetered (List ℕ)
grown grow p (Ok text) = Ok (text.0, (text.1, grow p text.0))
grown grow p (Err f) = Err f

abbrev missing : Growth → Partitions → List ℕ × Charged → Result (List ℕ × ReadState) Failure
missing grow p text = told (text.0, read_state text.1.spot (context text.1.meter (grow p text.0)))

-- one charge, and then the characters
pub missed_charges : (set : Option (List ℕ)) (a : Align) (grow : Growth) (count : ℕ) (s : Spot) (p : Partitions) (m : Metering) → missed_at set a grow count (read_state s (context m p)) ≡ charging (one_charge count s.place) m (grown grow p (times (char_at set a) count s))
unfolding missed_at chars_at text_charge
missed_charges set a grow count s p m = by_fit (text_fits m count)
  where
    limit : Fault
    limit = record { kind = kind.TextLimit; bit = s.place }

    in_chars : (n : Metering) (r : Result (List ℕ × Spot) Fault) → (failing n (r >>= λ text. fine {X = List ℕ × Charged} (text.0, charged text.1 n)) >>= missing grow p) ≡ metered n (grown grow p r)
    in_chars n (Ok text) = refl
    in_chars n (Err f) = refl

    by_fit : (b : Bool) → (failing (cond b (with_text m count) m) (cond b (Ok (with_text m count)) (Err limit) >>= λ n. times (char_at set a) count s >>= λ text. fine {X = List ℕ × Charged} (text.0, charged text.1 n)) >>= missing grow p) ≡ cond b (metered (with_text m count) (grown grow p (times (char_at set a) count s))) (Err (record { fault = limit; meter = m }))
    by_fit true = in_chars (with_text m count) (times (char_at set a) count s)
    by_fit false = refl

module _ (set : Option (List ℕ)) (a : Align) (grow : Growth) where
  row : (count : ℕ) → Item {X = List ℕ} a (times (char_at set a) count) (Row (SpellsChar set a) count)
  row count = item_times a (char_at set a) (SpellsChar set a) (item_char set a) count

  -- its end: the characters, and where they end
  missed_ends : (count : ℕ) (x : List ℕ) (c d : ReadState) (r : Result (List ℕ × Spot) Fault) → charging (one_charge count c.spot.place) c.context.meter (grown grow c.context.tables r) ≡ told (x, d)
      → (r ≡ fine (x, d.spot)) × (d.context.tables ≡ grow c.context.tables x)
  missed_ends count x c d r e = by_fit (text_fits c.context.meter count) r e
    where
      by_fit : (b : Bool) (r : Result (List ℕ × Spot) Fault) → cond b (metered (with_text c.context.meter count) (grown grow c.context.tables r)) (stopped {X = List ℕ} (record { units = count; bit = c.spot.place }) c.context.meter) ≡ told (x, d) → (r ≡ fine (x, d.spot)) × (d.context.tables ≡ grow c.context.tables x)
      by_fit true (Ok t) h =
          let e : (t.0, read_state t.1 (context (with_text c.context.meter count) (grow c.context.tables t.0))) ≡ (x, d) = told_is (t.0, read_state t.1 (context (with_text c.context.meter count) (grow c.context.tables t.0))) (x, d) h in
          let text : t.0 ≡ x = ap (λ (z : List ℕ × ReadState). z.0) e in (
            ap (λ (z : List ℕ × ReadState). fine {X = List ℕ × Spot} (z.0, z.1.spot)) e,
            sym (ap (λ (z : List ℕ × ReadState). z.1.context.tables) e) ∙ ap (λ (z : List ℕ). grow c.context.tables z) text,
          )
      by_fit true (Err f) h = absurd cc
      by_fit false r h = absurd cc

  missed_takes : (count : ℕ) (x : List ℕ) (c d : ReadState) → IsBytes c.spot.bytes → IsAligned a c.spot → missed_at set a grow count c ≡ told (x, d) → Went a (MissedOf set a grow count x) c d
  missed_takes count x c d fits al r =
      let u = missed_ends count x c d (times (char_at set a) count c.spot) (sym (missed_charges set a grow count c.spot c.context.tables c.context.meter) ∙ r) in
      let k = (row count).takes x c.spot d.spot fits al u.0 in
      record {
        text = k.text;
        charges = one_charge (length x) 0;
        spelled = record { long = k.spelled.count; missed = record { spelled = k.spelled.each; charges = refl; after = u.1 } };
        front = k.front;
        aligned = k.aligned;
        fits = k.fits;
      }

pub missed : (set : Option (List ℕ)) (a : Align) (grow : Growth) (count : ℕ) → ContextItem {X = List ℕ} a (missed_at set a grow count) (MissedOf set a grow count)
missed set a grow count = record { takes = missed_takes set a grow count; again = reading; whole = wholly }
  where
    reading : (x : List ℕ) (s : Spot) (p q : Partitions) (ks : List Charge) (text more : List Bool) → IsBytes s.bytes → IsAligned a s → MissedOf set a grow count x p q ks text → rest s ≡ text ++ more
        → (m : Metering) → missed_at set a grow count (read_state s (context m p)) ≡ charging (later s.place ks) m (got x (moved s (length text)) q)
    reading x s p q ks text more fits al h e m =
        let r : times (char_at set a) count s ≡ given (x, moved s (length text)) = (row set a grow count).again x text s more fits al (record { count = h.long; each = h.missed.spelled }) e in
        missed_charges set a grow count s p m
        ∙ ap (λ (z : Result (List ℕ × Spot) Fault). charging (one_charge count s.place) m (grown grow p z)) r
        ∙ ap (λ (z : Partitions). charging (one_charge count s.place) m (got x (moved s (length text)) z)) (sym h.missed.after)
        ∙ ap (λ (n : ℕ). charging (one_charge n s.place) m (got x (moved s (length text)) q)) (sym h.long)
        ∙ ap (λ (js : List Charge). charging js m (got x (moved s (length text)) q)) (sym (later_one (length x) s.place))
        ∙ ap (λ (js : List Charge). charging (later s.place js) m (got x (moved s (length text)) q)) (sym h.missed.charges)

    wholly : (x : List ℕ) (p q : Partitions) (ks : List Charge) (text : List Bool) → MissedOf set a grow count x p q ks text → a ≡ align.Bytes → length text % 8 ≡ 0
    wholly x p q ks text h = (row set a grow count).whole x text (record { count = h.long; each = h.missed.spelled })

-- ---- the laws of an item
-- the fault without the meter
abbrev fault_alone : {X : Type 0} → Result X Failure → Result X Fault
fault_alone (Ok x) = Ok x
fault_alone (Err f) = Err f.fault

told_alone : {X : Type 0} (r : Result X Failure) (q : X) → fault_alone r ≡ fine q → r ≡ told q
told_alone {X} (Ok p) q e = ap (λ (x : X). told x) (fine_is p q e)
told_alone (Err f) q e = absurd cc

-- ---- a meter that takes them all
abbrev pub sum_of : List Charge → ℕ
sum_of [] = 0
sum_of (k ∷ ks) = k.units + sum_of ks

pub record Takes (ks : List Charge) (m : Metering) : Type 0 where
  pub after : Metering
  pub taken : IsTaken ks m after

enough : (ks : List Charge) (m : Metering) → m.used.text + sum_of ks ≤ m.limits.text → Takes ks m
enough [] m le = record { after = m; taken = refl }
enough (k ∷ ks) m le =
    let whole : m.used.text + (k.units + sum_of ks) ≤ m.limits.text = le in
    let one : m.used.text + k.units ≤ m.limits.text = omega (arith, whole) in
    let all : m.used.text + k.units + sum_of ks ≤ m.limits.text = omega (arith, whole) in
    let t = enough ks (with_text m k.units) all in
    record { after = t.after; taken = (le-leb (m.used.text + k.units) m.limits.text one, t.taken) }

abbrev ample : ℕ → Metering
ample units = record { limits = record { events = 0; text = units; depth = 0 }; used = record { events = 0; text = 0; deepest = 0 }; level = 0 }

module _ {X : Type 0} (a : Align) (Spells : Spelling X) (read : ContextReader X) (item : ContextItem a read Spells) where
  -- the charges of what is read were taken in turn
  pub was_taken : (x : X) (c d : ReadState) → IsBytes c.spot.bytes → IsAligned a c.spot → read c ≡ told (x, d) → (k : Went a (Spells x) c d) → IsTaken k.charges c.context.meter d.context.meter
  was_taken x c d fits al r k =
      charges_taken x x (moved c.spot (length k.text)) d.context.tables d c.spot.place k.charges c.context.meter
      (sym (item.again x c.spot c.context.tables d.context.tables k.charges k.text (rest d.spot) fits al k.spelled k.front.parts c.context.meter) ∙ r)

  -- what is spelled is read where the meter takes its charges
  pub where_taken : (x : X) (s : Spot) (w v : Context) (ks : List Charge) (text more : List Bool) → IsBytes s.bytes → IsAligned a s → Spells x w.tables v.tables ks text → IsTaken ks w.meter v.meter → rest s ≡ text ++ more → read (read_state s w) ≡ told (x, read_state (moved s (length text)) v)
  where_taken x s w v ks text more fits al h t e = item.again x s w.tables v.tables ks text more fits al h e w.meter ∙ taken_charges x (moved s (length text)) v.tables v.meter s.place ks w.meter t

  -- under a meter
  record Under (w : Context) (z : X × Context) (text : List Bool) : Type 0 where
    charges : List Charge
    spelled : Spells z.0 w.tables z.1.tables charges text
    taken : IsTaken charges w.meter z.1.meter

  -- the same from a meter and tables, over bits alone
  abbrev from_context : Context → Reader (X × Context)
  from_context w s = fault_alone (read (read_state s w)) >>= λ x. Ok ((x.0, x.1.context), x.1.spot)

  alone : (w : Context) → Item {X = X × Context} a (from_context w) (Under w)
  alone w = record { takes = taking; again = reading; whole = λ z text h. item.whole z.0 w.tables z.1.tables h.charges text h.spelled }
    where
      taking : (p : X × Context) (s t : Spot) → IsBytes s.bytes → IsAligned a s → from_context w s ≡ given (p, t) → Taken a (Under w p) s t
      taking p s t fits al r =
          let u = bind_fine (fault_alone (read (read_state s w))) (λ (x : X × ReadState). given ((x.0, x.1.context), x.1.spot)) (p, t) r in
          let e : ((u.0.0, u.0.1.context), u.0.1.spot) ≡ (p, t) = fine_is ((u.0.0, u.0.1.context), u.0.1.spot) (p, t) u.2 in
          let r' : read (read_state s w) ≡ told u.0 = told_alone (read (read_state s w)) u.0 u.1 in
          let k = item.takes u.0.0 (read_state s w) u.0.1 fits al r' in
          let under : Under w (u.0.0, u.0.1.context) k.text = record { charges = k.charges; spelled = k.spelled; taken = was_taken u.0.0 (read_state s w) u.0.1 fits al r' k } in
          subst (λ (z : (X × Context) × Spot). Taken a (Under w z.0) s z.1) e (record { text = k.text; spelled = under; front = k.front; aligned = k.aligned; fits = k.fits })

      reading : (p : X × Context) (text : List Bool) (s : Spot) (more : List Bool) → IsBytes s.bytes → IsAligned a s → Under w p text → rest s ≡ text ++ more → from_context w s ≡ given (p, moved s (length text))
      reading p text s more fits al h e = rw (where_taken p.0 s w p.1 h.charges text more fits al h.spelled h.taken e) refl

  pub agrees : Agrees a Spells read
  agrees = record {
    is_spelled = λ x c d fits al r. (let k = item.takes x c d fits al r in (k.text, k.charges, k.spelled, was_taken x c d fits al r k, k.front));
    is_read = λ x s p q ks text more fits al h e m. item.again x s p q ks text more fits al h e m;
    is_no_prefix = no_prefix;
  }
    where
      no_prefix : (x y : X) (p q r : Partitions) (ks js : List Charge) (text other more : List Bool) → Spells x p q ks text → Spells y p r js other → text ≡ other ++ more → (x ≡ y) × (q ≡ r) × (more ≡ [])
      no_prefix x y p q r ks js text other more g h e =
          let m : Metering = ample (sum_of ks + sum_of js) in
          let w : Context = context m p in
          let one = enough ks m (omega arith) in
          let two = enough js m (omega arith) in
          let first : Under w (x, context one.after q) text = record { charges = ks; spelled = g; taken = one.taken } in
          let second : Under w (y, context two.after r) other = record { charges = js; spelled = h; taken = two.taken } in
          let k = item_no_prefix a (from_context w) (Under w) (alone w) (x, context one.after q) (y, context two.after r) text other more first second e in
          (ap (λ (z : X × Context). z.0) k.0, ap (λ (z : X × Context). z.1.tables) k.0, k.1)
