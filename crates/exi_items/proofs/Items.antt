-- What is spelled and what is read, for items that are put together.
use Rattle.std.proofs.Common.{◌≡◌, ℕ, zero, suc, ◌+◌, ◌*◌, ◌%◌, ◌^◌, ◌<◌, Bool, true, false, cond, ltb, List, [], ◌∷◌, ◌++◌, length, drop, Option, Some, None, Result, Ok, Err, refl, sym, ap, ◌∙◌, subst, append_assoc, arith}
use Rattle.std.proofs.lemmas.List.{drop-drop, drop_at, length-append}
use Rattle.exi_bits.specs.declared.align.Align.{Align}
use Rattle.exi_bits.specs.declared.align.Align.TheVariants as align
use Rattle.exi_bits.specs.declared.fault.Fault.{Fault}
use Rattle.exi_bits.specs.declared.fault.Kind.{Kind}
use Rattle.exi_bits.specs.Bits.{Spot, Front, IsAligned, IsBytes, bits, moved, number, number_at, rest, taken}
use Rattle.exi_bits.specs.Repeat.{Reader, times}
use Rattle.exi_bits.specs.Unsigned.{◌>>=◌, at_spot, field_at, needed, below_at, unsigned_at}
use Rattle.exi_bits.specs.Widths.{width_for}
use Rattle.exi_bits.proofs.BitLaws.{length-bits}
use Rattle.exi_bits.proofs.InBytes.{length-number, number_read, number_spelled}
use Rattle.exi_bits.proofs.UnsignedLaws.{unsigned_read, unsigned_spelled}
use Rattle.exi_items.specs.Spellings.{Each, Made, SpellsUnsigned, Then}

-- ---- results
abbrev pub given : {X : Type 0} → X × Spot → Result (X × Spot) Fault
given p = Ok p

pub ok_is : {X : Type 0} (p q : X × Spot) → given p ≡ given q → p ≡ q
ok_is p q e = cc

pub bind_ok : {X Y : Type 0} (r : Result (X × Spot) Fault) (f : X × Spot → Result (Y × Spot) Fault) (q : Y × Spot) → (r >>= f) ≡ given q → (p : X × Spot) × (r ≡ given p) × (f p ≡ given q)
bind_ok (Ok p) f q e = (p, refl, e)
bind_ok (Err x) f q e = absurd cc

pub guard_ok : {X : Type 0} (b : Bool) (p q : X × Spot) (f : Fault) → cond b (given p) (Err f) ≡ given q → (b ≡ true) × (p ≡ q)
guard_ok true p q f e = (refl, ok_is p q e)
guard_ok false p q f e = absurd cc

-- ---- places
rest_moved : (s : Spot) (text more : List Bool) → rest s ≡ text ++ more → rest (moved s (length text)) ≡ more
rest_moved s text more e = sym (drop-drop (length text) s.place (bits s.bytes)) ∙ ap (λ (x : List Bool). drop (length text) x) e ∙ drop_at text more (length text) refl

moved_on : (s : Spot) (text first second : List Bool) → text ≡ first ++ second → moved (moved s (length first)) (length second) ≡ moved s (length text)
moved_on s text first second e =
    let n : length text ≡ length first + length second = ap length e ∙ length-append first second in
    let p : s.place + length first + length second ≡ s.place + length text = omega arith in
    ap (λ (place : ℕ). record { bytes = s.bytes; place = place }) p

front_then : (s t u : Spot) (first second : List Bool) → Front s first t → Front t second u → Front s (first ++ second) u
front_then s t u first second f g = record {
  parts = f.parts ∙ ap (λ (x : List Bool). first ++ x) g.parts ∙ sym (append_assoc first second (rest u));
  bytes = g.bytes ∙ f.bytes;
  place = omega (arith, f.place, g.place, length-append first second);
}

-- ---- an item
-- bits that spell something were taken from the front, and under Bytes they are whole bytes
pub record Taken (a : Align) (Spells : List Bool → Type 0) (s t : Spot) : Type 0 where
  pub text : List Bool
  pub spelled : Spells text
  pub front : Front s text t
  pub aligned : IsAligned a t
  pub fits : IsBytes t.bytes

pub record Item {X : Type 0} (a : Align) (read : Reader X) (Spells : X → List Bool → Type 0) : Type 0 where
  pub takes : (x : X) (s t : Spot) → IsBytes s.bytes → IsAligned a s → read s ≡ given (x, t) → Taken a (Spells x) s t
  pub again : (x : X) (text : List Bool) (s : Spot) (more : List Bool) → IsBytes s.bytes → IsAligned a s → Spells x text → rest s ≡ text ++ more → read s ≡ given (x, moved s (length text))
  pub whole : (x : X) (text : List Bool) → Spells x text → a ≡ align.Bytes → length text % 8 ≡ 0

-- the same reading, the same spelling
pub item_same : {X : Type 0} (a : Align) (read other : Reader X) (Spells : X → List Bool → Type 0) → ((s : Spot) → other s ≡ read s) → Item a read Spells → Item a other Spells
item_same a read other Spells e item = record {
  takes = λ x s t fits al r. item.takes x s t fits al (sym (e s) ∙ r);
  again = λ x text s more fits al spelled rests. e s ∙ item.again x text s more fits al spelled rests;
  whole = item.whole;
}

pub item_spelled : {X : Type 0} (a : Align) (read : Reader X) (Spells Others : X → List Bool → Type 0) → ((x : X) (text : List Bool) → Spells x text → Others x text) → ((x : X) (text : List Bool) → Others x text → Spells x text) → Item a read Spells → Item a read Others
item_spelled {X} a read Spells Others to from item = record {
  takes = taking;
  again = λ x text s more fits al spelled rests. item.again x text s more fits al (from x text spelled) rests;
  whole = λ x text spelled. item.whole x text (from x text spelled);
}
  where
    taking : (x : X) (s t : Spot) → IsBytes s.bytes → IsAligned a s → read s ≡ given (x, t) → Taken a (Others x) s t
    taking x s t fits al r =
        let k = item.takes x s t fits al r in
        record { text = k.text; spelled = to x k.text k.spelled; front = k.front; aligned = k.aligned; fits = k.fits }

aligned_on : (a : Align) (s : Spot) (n : ℕ) → IsAligned a s → (a ≡ align.Bytes → n % 8 ≡ 0) → IsAligned a (moved s n)
aligned_on a s n al whole e =
    let p : s.place % 8 ≡ 0 = al e in
    let q : n % 8 ≡ 0 = whole e in
    omega arith

-- one behind the other, which may depend on it
pub item_for : {X Y : Type 0} (a : Align) (one : Reader X) (two : X → Reader Y) (First : X → List Bool → Type 0) (Second : X → Y → List Bool → Type 0) → Item a one First → ((x : X) → Item a (two x) (Second x))
    → Item {X = X × Y} a (λ s. one s >>= λ x. two x.0 x.1 >>= λ y. Ok ((x.0, y.0), y.1)) (λ p. Then (First p.0) (Second p.0 p.1))
item_for {X} {Y} a one two First Second i j = record { takes = taking; again = reading; whole = wholly }
  where
    taking : (p : X × Y) (s t : Spot) → IsBytes s.bytes → IsAligned a s → (one s >>= λ x. two x.0 x.1 >>= λ y. Ok ((x.0, y.0), y.1)) ≡ given (p, t) → Taken a (Then (First p.0) (Second p.0 p.1)) s t
    taking p s t fits al r =
        let u = bind_ok (one s) (λ (x : X × Spot). two x.0 x.1 >>= λ y. Ok ((x.0, y.0), y.1)) (p, t) r in
        let v = bind_ok (two u.0.0 u.0.1) (λ (y : Y × Spot). Ok ((u.0.0, y.0), y.1)) (p, t) u.2 in
        let e : ((u.0.0, v.0.0), v.0.1) ≡ (p, t) = ok_is ((u.0.0, v.0.0), v.0.1) (p, t) v.2 in
        let k = i.takes u.0.0 s u.0.1 fits al u.1 in
        let l = (j u.0.0).takes v.0.0 u.0.1 v.0.1 k.fits k.aligned v.1 in
        subst (λ (w : (X × Y) × Spot). Taken a (Then (First w.0.0) (Second w.0.0 w.0.1)) s w.1) e (record {
          text = k.text ++ l.text;
          spelled = record { first = k.text; second = l.text; parts = refl; front = k.spelled; behind = l.spelled };
          front = front_then s u.0.1 v.0.1 k.text l.text k.front l.front;
          aligned = l.aligned;
          fits = l.fits;
        })

    reading : (p : X × Y) (text : List Bool) (s : Spot) (more : List Bool) → IsBytes s.bytes → IsAligned a s → Then (First p.0) (Second p.0 p.1) text → rest s ≡ text ++ more → (one s >>= λ x. two x.0 x.1 >>= λ y. Ok ((x.0, y.0), y.1)) ≡ given (p, moved s (length text))
    reading p text s more fits al w e =
        let e' : rest s ≡ w.first ++ (w.second ++ more) = e ∙ ap (λ (x : List Bool). x ++ more) w.parts ∙ append_assoc w.first w.second more in
        let al' : IsAligned a (moved s (length w.first)) = aligned_on a s (length w.first) al (i.whole p.0 w.first w.front) in
        let r1 : one s ≡ given (p.0, moved s (length w.first)) = i.again p.0 w.first s (w.second ++ more) fits al w.front e' in
        let r2 : two p.0 (moved s (length w.first)) ≡ given (p.1, moved (moved s (length w.first)) (length w.second)) = (j p.0).again p.1 w.second (moved s (length w.first)) more fits al' w.behind (rest_moved s w.first (w.second ++ more) e') in
        rw (r1, r2) (ap (λ (u : Spot). given (p, u)) (moved_on s text w.first w.second w.parts))

    wholly : (p : X × Y) (text : List Bool) → Then (First p.0) (Second p.0 p.1) text → a ≡ align.Bytes → length text % 8 ≡ 0
    wholly p text w e =
        let m : length w.first % 8 ≡ 0 = i.whole p.0 w.first w.front e in
        let n : length w.second % 8 ≡ 0 = (j p.0).whole p.1 w.second w.behind e in
        omega (arith, ap length w.parts, length-append w.first w.second)

pub item_then : {X Y : Type 0} (a : Align) (one : Reader X) (two : Reader Y) (First : X → List Bool → Type 0) (Second : Y → List Bool → Type 0) → Item a one First → Item a two Second
    → Item {X = X × Y} a (λ s. one s >>= λ x. two x.1 >>= λ y. Ok ((x.0, y.0), y.1)) (λ p. Then (First p.0) (Second p.1))
item_then a one two First Second i j = item_for a one (λ x. two) First (λ x. Second) i (λ x. j)

-- what is made of a value
pub item_made : {X Y : Type 0} (a : Align) (read : Reader X) (Spells : X → List Bool → Type 0) (f : X → Y) → Item a read Spells → Item {X = Y} a (λ s. read s >>= λ x. Ok (f x.0, x.1)) (Made f Spells)
item_made {X} {Y} a read Spells f item = record { takes = taking; again = reading; whole = λ y text m. item.whole m.from text m.spelled }
  where
    taking : (y : Y) (s t : Spot) → IsBytes s.bytes → IsAligned a s → (read s >>= λ x. Ok (f x.0, x.1)) ≡ given (y, t) → Taken a (Made f Spells y) s t
    taking y s t fits al r =
        let u = bind_ok (read s) (λ (x : X × Spot). Ok (f x.0, x.1)) (y, t) r in
        let e : (f u.0.0, u.0.1) ≡ (y, t) = ok_is (f u.0.0, u.0.1) (y, t) u.2 in
        let k = item.takes u.0.0 s u.0.1 fits al u.1 in
        subst (λ (w : Y × Spot). Taken a (Made f Spells w.0) s w.1) e (record { text = k.text; spelled = record { from = u.0.0; is = refl; spelled = k.spelled }; front = k.front; aligned = k.aligned; fits = k.fits })

    reading : (y : Y) (text : List Bool) (s : Spot) (more : List Bool) → IsBytes s.bytes → IsAligned a s → Made f Spells y text → rest s ≡ text ++ more → (read s >>= λ x. Ok (f x.0, x.1)) ≡ given (y, moved s (length text))
    reading y text s more fits al m e =
        let r = item.again m.from text s more fits al m.spelled e in
        rw r (ap (λ (z : Y). given (z, moved s (length text))) m.is)

-- what passes a test
pub item_tested : {X : Type 0} (a : Align) (read : Reader X) (Spells : X → List Bool → Type 0) (test : X → Bool) (fault : Spot → X × Spot → Fault) → Item a read Spells
    → Item {X = X} a (λ s. read s >>= λ x. cond (test x.0) (Ok x) (Err (fault s x))) (λ x text. (test x ≡ true) × Spells x text)
item_tested {X} a read Spells test fault item = record { takes = taking; again = reading; whole = λ x text m. item.whole x text m.1 }
  where
    taking : (x : X) (s t : Spot) → IsBytes s.bytes → IsAligned a s → (read s >>= λ x. cond (test x.0) (Ok x) (Err (fault s x))) ≡ given (x, t) → Taken a (λ text. (test x ≡ true) × Spells x text) s t
    taking x s t fits al r =
        let u = bind_ok (read s) (λ (x : X × Spot). cond (test x.0) (Ok x) (Err (fault s x))) (x, t) r in
        let g = guard_ok (test u.0.0) u.0 (x, t) (fault s u.0) u.2 in
        let k = item.takes u.0.0 s u.0.1 fits al u.1 in
        subst (λ (w : X × Spot). Taken a (λ text. (test w.0 ≡ true) × Spells w.0 text) s w.1) g.1 (record { text = k.text; spelled = (g.0, k.spelled); front = k.front; aligned = k.aligned; fits = k.fits })

    reading : (x : X) (text : List Bool) (s : Spot) (more : List Bool) → IsBytes s.bytes → IsAligned a s → (test x ≡ true) × Spells x text → rest s ≡ text ++ more → (read s >>= λ x. cond (test x.0) (Ok x) (Err (fault s x))) ≡ given (x, moved s (length text))
    reading x text s more fits al m e = rw (item.again x text s more fits al m.1 e, m.0) refl

-- ---- numbers
field_ok : (o : Option (ℕ × Spot)) (s : Spot) (q : ℕ × Spot) → at_spot s (needed o) ≡ given q → o ≡ Some q
field_ok None s q e = absurd cc
field_ok (Some p) s q e = ap (λ (x : ℕ × Spot). Some x) (ok_is p q e)

pub item_field : (n : ℕ) (a : Align) → Item a (field_at n a) (λ v text. (text ≡ number n a v) × (v < 2 ^ taken n a))
unfolding field_at
item_field n a = record { takes = taking; again = reading; whole = wholly }
  where
    whole_taken : (b : Align) → b ≡ align.Bytes → taken n b % 8 ≡ 0
    whole_taken align.Bits e = absurd cc
    whole_taken align.Bytes e = omega arith

    wholly : (v : ℕ) (text : List Bool) → (text ≡ number n a v) × (v < 2 ^ taken n a) → a ≡ align.Bytes → length text % 8 ≡ 0
    wholly v text m e = let h = whole_taken a e in omega (arith, ap length m.0, length-number n v a)

    taking : (v : ℕ) (s t : Spot) → IsBytes s.bytes → IsAligned a s → field_at n a s ≡ given (v, t) → Taken a (λ text. (text ≡ number n a v) × (v < 2 ^ taken n a)) s t
    taking v s t fits al r =
        let k = number_spelled n v a s t fits al (field_ok (number_at n a s) s (v, t) r) in
        record {
          text = number n a v;
          spelled = (refl, k.1);
          front = k.0;
          aligned = λ e. (let h = whole_taken a e in let p : s.place % 8 ≡ 0 = al e in omega (arith, k.0.place, length-number n v a));
          fits = subst IsBytes (sym k.0.bytes) fits;
        }

    reading : (v : ℕ) (text : List Bool) (s : Spot) (more : List Bool) → IsBytes s.bytes → IsAligned a s → (text ≡ number n a v) × (v < 2 ^ taken n a) → rest s ≡ text ++ more → field_at n a s ≡ given (v, moved s (length text))
    reading v text s more fits al m e =
        let r = number_read n v a s more fits al m.1 (e ∙ ap (λ (x : List Bool). x ++ more) m.0) in
        let l : taken n a ≡ length text = sym (ap length m.0 ∙ length-number n v a) in
        rw r (ap (λ (k : ℕ). given (v, moved s k)) l)

pub item_below : (count : ℕ) (a : Align) (k : Kind) → Item a (below_at count a k) (λ v text. (ltb v count ≡ true) × ((text ≡ number (width_for count) a v) × (v < 2 ^ taken (width_for count) a)))
unfolding below_at
item_below count a k = item_tested a (field_at (width_for count) a) (λ v text. (text ≡ number (width_for count) a v) × (v < 2 ^ taken (width_for count) a)) (λ v. ltb v count) (λ s x. record { kind = k; bit = s.place }) (item_field (width_for count) a)

pub item_unsigned : (a : Align) → Item a unsigned_at SpellsUnsigned
item_unsigned a = record { takes = taking; again = reading; whole = wholly }
  where
    taking : (v : ℕ) (s t : Spot) → IsBytes s.bytes → IsAligned a s → unsigned_at s ≡ given (v, t) → Taken a (SpellsUnsigned v) s t
    taking v s t fits al r =
        let k = unsigned_spelled v s t r in
        record {
          text = bits k.0;
          spelled = record { octets = k.0; unsigned = k.1; bits = refl };
          front = k.2;
          aligned = λ e. (let p : s.place % 8 ≡ 0 = al e in omega (arith, k.2.place, length-bits k.0));
          fits = subst IsBytes (sym k.2.bytes) fits;
        }

    reading : (v : ℕ) (text : List Bool) (s : Spot) (more : List Bool) → IsBytes s.bytes → IsAligned a s → SpellsUnsigned v text → rest s ≡ text ++ more → unsigned_at s ≡ given (v, moved s (length text))
    reading v text s more fits al m e =
        let r = unsigned_read v m.octets s more m.unsigned (e ∙ ap (λ (x : List Bool). x ++ more) m.bits) in
        let l : 8 * length m.octets ≡ length text = sym (ap length m.bits ∙ length-bits m.octets) in
        rw r (ap (λ (k : ℕ). given (v, moved s k)) l)

    wholly : (v : ℕ) (text : List Bool) → SpellsUnsigned v text → a ≡ align.Bytes → length text % 8 ≡ 0
    wholly v text m e = omega (arith, ap length m.bits, length-bits m.octets)

-- ---- one after another
pub record Row {X : Type 0} (Spells : X → List Bool → Type 0) (n : ℕ) (xs : List X) (text : List Bool) : Type 0 where
  pub count : length xs ≡ n
  pub each : Each Spells xs text

-- two readers and what is made of both
pub then_made : {X Y Z : Type 0} (f : X → Y → Z) (r : Result (X × Spot) Fault) (two : Spot → Result (Y × Spot) Fault)
    → (r >>= λ x. two x.1 >>= λ y. given {X = Z} (f x.0 y.0, y.1)) ≡ ((r >>= λ x. two x.1 >>= λ y. given {X = X × Y} ((x.0, y.0), y.1)) >>= λ z. given {X = Z} (f z.0.0 z.0.1, z.1))
then_made {X} {Y} {Z} f (Ok x) two = inner (two x.1)
  where
    inner : (q : Result (Y × Spot) Fault) → (q >>= λ y. given {X = Z} (f x.0 y.0, y.1)) ≡ ((q >>= λ y. given {X = X × Y} ((x.0, y.0), y.1)) >>= λ z. given {X = Z} (f z.0.0 z.0.1, z.1))
    inner (Ok y) = refl
    inner (Err e) = refl
then_made f (Err e) two = refl

times_none : {X : Type 0} (a : Align) (read : Reader X) (Spells : X → List Bool → Type 0) → Item {X = List X} a (times read zero) (Row Spells zero)
unfolding times Each
times_none {X} a read Spells = record { takes = taking; again = reading; whole = wholly }
  where
    taking : (xs : List X) (s t : Spot) → IsBytes s.bytes → IsAligned a s → times read zero s ≡ given (xs, t) → Taken a (Row Spells zero xs) s t
    taking xs s t fits al r =
        let e : ([], s) ≡ (xs, t) = ok_is ([], s) (xs, t) r in
        subst (λ (w : List X × Spot). Taken a (Row Spells zero w.0) s w.1) e (record {
          text = [];
          spelled = record { count = refl; each = refl };
          front = record { parts = refl; bytes = refl; place = omega arith };
          aligned = al;
          fits = fits;
        })

    none : (xs : List X) (text : List Bool) → Row Spells zero xs text → (xs ≡ []) × (text ≡ [])
    none [] text w = (refl, w.each)
    none (x ∷ xs) text w = let e : suc (length xs) ≡ 0 = w.count in absurd (omega arith)

    reading : (xs : List X) (text : List Bool) (s : Spot) (more : List Bool) → IsBytes s.bytes → IsAligned a s → Row Spells zero xs text → rest s ≡ text ++ more → times read zero s ≡ given (xs, moved s (length text))
    reading xs text s more fits al w e =
        let k = none xs text w in
        let p : s.place + 0 ≡ s.place = omega arith in
        rw (k.0, k.1) (ap (λ (place : ℕ). given ([], record { bytes = s.bytes; place = place })) (sym p))

    wholly : (xs : List X) (text : List Bool) → Row Spells zero xs text → a ≡ align.Bytes → length text % 8 ≡ 0
    wholly xs text w e = let k = none xs text w in rw k.1 refl

times_more : {X : Type 0} (a : Align) (read : Reader X) (Spells : X → List Bool → Type 0) (n : ℕ) → Item a read Spells → Item {X = List X} a (times read n) (Row Spells n) → Item {X = List X} a (times read (suc n)) (Row Spells (suc n))
unfolding times Each
times_more {X} a read Spells n one others =
    item_spelled a (times read (suc n)) (Made joined (λ p. Then (Spells p.0) (Row Spells n p.1))) (Row Spells (suc n)) to from
    (item_same a (λ s. (read s >>= λ x. times read n x.1 >>= λ y. given {X = X × List X} ((x.0, y.0), y.1)) >>= λ z. given {X = List X} (joined z.0, z.1)) (times read (suc n)) (Made joined (λ p. Then (Spells p.0) (Row Spells n p.1))) (λ s. then_made (λ x xs. x ∷ xs) (read s) (times read n))
    (item_made a (λ s. read s >>= λ x. times read n x.1 >>= λ y. given {X = X × List X} ((x.0, y.0), y.1)) (λ p. Then (Spells p.0) (Row Spells n p.1)) joined
    (item_then a read (times read n) Spells (Row Spells n) one others)))
  where
    joined : X × List X → List X
    joined p = p.0 ∷ p.1

    to : (xs : List X) (text : List Bool) → Made joined (λ p. Then (Spells p.0) (Row Spells n p.1)) xs text → Row Spells (suc n) xs text
    to xs text m = subst (λ (ys : List X). Row Spells (suc n) ys text) m.is (record {
      count = omega (arith, m.spelled.behind.count);
      each = record { first = m.spelled.first; second = m.spelled.second; parts = m.spelled.parts; front = m.spelled.front; behind = m.spelled.behind.each };
    })

    from : (xs : List X) (text : List Bool) → Row Spells (suc n) xs text → Made joined (λ p. Then (Spells p.0) (Row Spells n p.1)) xs text
    from [] text w = let e : 0 ≡ suc n = w.count in absurd (omega arith)
    from (x ∷ xs) text w = record {
      from = (x, xs);
      is = refl;
      spelled = record { first = w.each.first; second = w.each.second; parts = w.each.parts; front = w.each.front; behind = record { count = omega (arith, w.count); each = w.each.behind } };
    }

pub item_times : {X : Type 0} (a : Align) (read : Reader X) (Spells : X → List Bool → Type 0) → Item a read Spells → (n : ℕ) → Item {X = List X} a (times read n) (Row Spells n)
item_times a read Spells item zero = times_none a read Spells
item_times a read Spells item (suc n) = times_more a read Spells n item (item_times a read Spells item n)
