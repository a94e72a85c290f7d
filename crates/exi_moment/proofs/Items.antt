-- What an item reads is spelled so, and what is spelled so it reads.
use Rattle.std.proofs.Common.{◌≡◌, ℕ, zero, suc, ◌+◌, ◌*◌, ◌^◌, ◌<◌, ◌≤◌, Bool, true, false, cond, ltb, List, [], ◌++◌, length, drop, Option, Some, None, Result, Ok, Err, refl, sym, ap, ◌∙◌, subst, append_assoc, arith}
use Rattle.std.proofs.lemmas.List.{length-append, drop-drop, drop_at}
use Rattle.std.proofs.lemmas.Bool.{lt-ltb, ltb-true}
use Rattle.std.specs.Prelude.{IfSome}
use Rattle.exi_bits.specs.declared.align.Align.{Align}
use Rattle.exi_bits.specs.declared.align.Align.TheVariants as align
use Rattle.exi_bits.specs.declared.fault.Fault.{Fault}
use Rattle.exi_bits.specs.declared.fault.Kind.TheVariants as fault
use Rattle.exi_bits.specs.Bits.{Spot, Front, IsAligned, IsBytes, bits, moved, number, number_at, rest, taken}
use Rattle.exi_bits.specs.Repeat.{Reader}
use Rattle.exi_bits.specs.Widths.{width_from}
use Rattle.exi_bits.specs.Unsigned.{◌>>=◌, at_spot, fault_at, field_at, needed, below_at, unsigned_at}
use Rattle.exi_bits.proofs.BitLaws.{length-bits, pow_up}
use Rattle.exi_bits.proofs.InBytes.{length-number, number_read, number_spelled}
use Rattle.exi_bits.proofs.UnsignedLaws.{unsigned_read, unsigned_spelled}
use Rattle.exi_items.specs.Spellings.{SpellsUnsigned, Then}
use Rattle.exi_moment.specs.Spelling.{SpellsNumber, SpellsOptional, Where}
use Rattle.exi_moment.specs.Reading.{in_range, optional, where_it_counts}

-- ---- results
abbrev pub given : {A : Type 0} → A → Result A Fault
given x = Ok x

pub ok_is : {A : Type 0} → (x y : A) → given x ≡ given y → x ≡ y
ok_is x y e = cc

pub bind_ok : {A B : Type 0} → (r : Result A Fault) (f : A → Result B Fault) (y : B) → (r >>= f) ≡ given y → (x : A) × (r ≡ given x) × (f x ≡ given y)
bind_ok (Ok x) f y e = (x, refl, e)
bind_ok (Err k) f y e = absurd cc

pub guard_ok : {A : Type 0} → (b : Bool) (x : Result A Fault) (y : A) (f : Fault) → cond b x (Err f) ≡ given y → (b ≡ true) × (x ≡ given y)
guard_ok true x y f e = (refl, e)
guard_ok false x y f e = absurd cc

abbrev pub some : {X : Type 0} → X → Option X
some x = Some x

pub in_range_ok : {X : Type 0} → (s t u : Spot) (o : Option X) (x : X) → in_range s t o ≡ given (x, u) → (o ≡ some x) × (t ≡ u)
in_range_ok s t u None x e = absurd cc
in_range_ok s t u (Some y) x e = let p = ok_is (y, t) (x, u) e in (ap (λ q. some q.0) p, ap (λ q. q.1) p)

at_needed : (o : Option (ℕ × Spot)) (s : Spot) (p : ℕ × Spot) → at_spot s (needed o) ≡ given p → o ≡ some p
at_needed None s p e = absurd cc
at_needed (Some x) s p e = ap some (ok_is x p e)

-- ---- spots
pub front_none : (s : Spot) → Front s [] s
front_none s = record { parts = refl; bytes = refl; place = omega arith }

pub front_append : (s t u : Spot) (p q : List Bool) → Front s p t → Front t q u → Front s (p ++ q) u
front_append s t u p q f g = record {
  parts = f.parts ∙ ap (λ (x : List Bool). p ++ x) g.parts ∙ sym (append_assoc p q (rest u));
  bytes = g.bytes ∙ f.bytes;
  place = omega (arith, f.place, g.place, length-append p q);
}

landed : (s : Spot) (text more : List Bool) (n : ℕ) → length text ≡ n → rest s ≡ text ++ more → Front s text (moved s n) × (rest (moved s n) ≡ more)
landed s text more n len e =
    let behind : rest (moved s n) ≡ more = sym (drop-drop n s.place (bits s.bytes)) ∙ ap (λ (x : List Bool). drop n x) e ∙ drop_at text more n len in (
      record {
        parts = e ∙ ap (λ (x : List Bool). text ++ x) (sym behind);
        bytes = refl;
        place = omega (arith, len);
      },
      behind,
    )

number_keeps : (a : Align) (n : ℕ) (s t : Spot) → IsAligned a s → t.place ≡ s.place + taken n a → IsAligned a t
number_keeps align.Bits n s t whole e = λ b. absurd cc
number_keeps align.Bytes n s t whole e = λ b. let h = whole refl in omega arith

octets_keep : (a : Align) (n : ℕ) (s t : Spot) → IsAligned a s → t.place ≡ s.place + 8 * n → IsAligned a t
octets_keep a n s t whole e = λ b. let h = whole b in omega arith

same_fits : (s t : Spot) → t.bytes ≡ s.bytes → IsBytes s.bytes → IsBytes t.bytes
same_fits s t e fits = subst (λ (bs : List ℕ). IsBytes bs) (sym e) fits

-- ---- what was read is spelled
pub record Told (a : Align) (P : List Bool → Type 0) (s t : Spot) : Type 0 where
  pub text : List Bool
  pub spells : P text
  pub front : Front s text t
  pub fits : IsBytes t.bytes
  pub aligned : IsAligned a t

pub told_both : (a : Align) (P Q : List Bool → Type 0) (s t u : Spot) → Told a P s t → Told a Q t u → Told a (Then P Q) s u
told_both a P Q s t u p q = record {
  text = p.text ++ q.text;
  spells = record { first = p.text; second = q.text; parts = refl; front = p.spells; behind = q.spells };
  front = front_append s t u p.text q.text p.front q.front;
  fits = q.fits;
  aligned = q.aligned;
}

pub field_told : (n v : ℕ) (a : Align) (s t : Spot) → IsBytes s.bytes → IsAligned a s → field_at n a s ≡ given (v, t) → Told a (SpellsNumber a n v) s t
unfolding field_at
field_told n v a s t fits whole e =
    let f = number_spelled n v a s t fits whole (at_needed (number_at n a s) s (v, t) e) in record {
      text = number n a v;
      spells = refl;
      front = f.0;
      fits = same_fits s t f.0.bytes fits;
      aligned = number_keeps a n s t whole (f.0.place ∙ ap (λ (x : ℕ). s.place + x) (length-number n v a));
    }

pub unsigned_told : (v : ℕ) (a : Align) (s t : Spot) → IsBytes s.bytes → IsAligned a s → unsigned_at s ≡ given (v, t) → Told a (SpellsUnsigned v) s t
unsigned_told v a s t fits whole e =
    let u = unsigned_spelled v s t e in record {
      text = bits u.0;
      spells = record { octets = u.0; unsigned = u.1; bits = refl };
      front = u.2;
      fits = same_fits s t u.2.bytes fits;
      aligned = octets_keep a (length u.0) s t whole (u.2.place ∙ ap (λ (x : ℕ). s.place + x) (length-bits u.0));
    }

pub told_told : (v : ℕ) (a : Align) (s t : Spot) → IsBytes s.bytes → IsAligned a s → below_at 2 a fault.BadPlace s ≡ given (v, t) → Told a (SpellsNumber a 1 v) s t × (v < 2)
unfolding below_at width_from
told_told v a s t fits whole e =
    let b = bind_ok (field_at 1 a s) (λ found. cond (ltb found.0 2) (Ok found) (fault_at fault.BadPlace s)) (v, t) e in
    let g = guard_ok (ltb b.0.0 2) (given b.0) (v, t) (record { kind = fault.BadPlace; bit = s.place }) b.2 in
    let p = ok_is b.0 (v, t) g.1 in (
      field_told 1 v a s t fits whole (b.1 ∙ ap (λ (x : ℕ × Spot). given x) p),
      subst (λ (x : ℕ × Spot). x.0 < 2) p (ltb-true b.0.0 2 g.0),
    )

-- an item reads only what is spelled so, and what has a property
abbrev pub Tells : {X : Type 0} → Align → Reader X → (X → List Bool → Type 0) → (X → Type 0) → Type 0
Tells {X} a read P R = (x : X) (s t : Spot) → IsBytes s.bytes → IsAligned a s → read s ≡ given (x, t) → Told a (P x) s t × R x

optional_case : {X : Type 0} → (a : Align) (read : Reader X) (P : X → List Bool → Type 0) (R : X → Type 0) → Tells a read P R → (v : ℕ) (o : Option X) (s t u : Spot) → v < 2 → Told a (SpellsNumber a 1 v) s u → optional (v, u) read ≡ given (o, t) → Told a (SpellsOptional a P o) s t × IfSome o R
optional_case a read P R tells zero o s t u lt told e =
    subst (λ q. Told a (SpellsOptional a P q.0) s q.1 × IfSome q.0 R) (ok_is (None, u) (o, t) e) (told, tt)
optional_case a read P R tells (suc zero) o s t u lt told e =
    let b = bind_ok (read u) (λ x. Ok (Some x.0, x.1)) (o, t) e in
    let x = tells b.0.0 u b.0.1 told.fits told.aligned b.1 in
    subst (λ q. Told a (SpellsOptional a P q.0) s q.1 × IfSome q.0 R) (ok_is (some b.0.0, b.0.1) (o, t) b.2) (told_both a (SpellsNumber a 1 1) (P b.0.0) s u b.0.1 told x.0, x.1)
optional_case a read P R tells (suc (suc v)) o s t u lt told e = absurd (omega arith)

pub optional_told : {X : Type 0} → (a : Align) (read : Reader X) (P : X → List Bool → Type 0) (R : X → Type 0) → Tells a read P R → (o : Option X) (s t : Spot) → IsBytes s.bytes → IsAligned a s → (below_at 2 a fault.BadPlace s >>= λ told. optional told read) ≡ given (o, t) → Told a (SpellsOptional a P o) s t × IfSome o R
optional_told a read P R tells o s t fits whole e =
    let b = bind_ok (below_at 2 a fault.BadPlace s) (λ told. optional told read) (o, t) e in
    let p = told_told b.0.0 a s b.0.1 fits whole b.1 in
    optional_case a read P R tells b.0.0 o s t b.0.1 p.1 p.0 b.2

pub where_told : {X : Type 0} → (a : Align) (b : Bool) (none : X) (read : Reader X) (P : X → List Bool → Type 0) (R : X → Type 0) → Tells a read P R → (x : X) (s t : Spot) → IsBytes s.bytes → IsAligned a s → where_it_counts b none read s ≡ given (x, t) → Told a (Where b (P x)) s t × (b ≡ true → R x) × (b ≡ false → x ≡ none)
where_told a true none read P R tells x s t fits whole e = let g = tells x s t fits whole e in (g.0, λ h. g.1, λ h. absurd cc)
where_told a false none read P R tells x s t fits whole e =
    let p = ok_is (none, s) (x, t) e in
    subst (λ q. Told a (λ (text : List Bool). text ≡ []) s q.1 × (false ≡ true → R q.0) × (false ≡ false → q.0 ≡ none)) p (record { text = []; spells = refl; front = front_none s; fits = fits; aligned = whole }, λ h. absurd cc, λ h. refl)

-- ---- what is spelled is read
pub record Again (X : Type 0) (a : Align) (read : Result (X × Spot) Fault) (x : X) (s : Spot) (text more : List Bool) : Type 0 where
  pub next : Spot
  pub reads : read ≡ given (x, next)
  pub front : Front s text next
  pub behind : rest next ≡ more
  pub fits : IsBytes next.bytes
  pub aligned : IsAligned a next

pub field_again : (n v : ℕ) (a : Align) (s : Spot) (text more : List Bool) → IsBytes s.bytes → IsAligned a s → v < 2 ^ n → SpellsNumber a n v text → rest s ≡ text ++ more → Again ℕ a (field_at n a s) v s text more
unfolding field_at
field_again n v a s text more fits whole lt is e =
    let same : rest s ≡ number n a v ++ more = e ∙ ap (λ (x : List Bool). x ++ more) is in
    let l = landed s text more (taken n a) (ap length is ∙ length-number n v a) e in record {
      next = moved s (taken n a);
      reads = rw (number_read n v a s more fits whole (wider n v a lt) same) refl;
      front = l.0;
      behind = l.1;
      fits = fits;
      aligned = number_keeps a n s (moved s (taken n a)) whole refl;
    }
  where
    wider : (n v : ℕ) (a : Align) → v < 2 ^ n → v < 2 ^ taken n a
    wider n v align.Bits lt = lt
    wider n v align.Bytes lt = let p : 2 ^ n ≤ 2 ^ taken n align.Bytes = pow_up n (taken n align.Bytes) (omega arith) in omega arith

pub unsigned_again : (v : ℕ) (a : Align) (s : Spot) (text more : List Bool) → IsBytes s.bytes → IsAligned a s → SpellsUnsigned v text → rest s ≡ text ++ more → Again ℕ a (unsigned_at s) v s text more
unsigned_again v a s text more fits whole u e =
    let same : rest s ≡ bits u.octets ++ more = e ∙ ap (λ (x : List Bool). x ++ more) u.bits in
    let l = landed s text more (8 * length u.octets) (ap length u.bits ∙ length-bits u.octets) e in record {
      next = moved s (8 * length u.octets);
      reads = unsigned_read v u.octets s more u.unsigned same;
      front = l.0;
      behind = l.1;
      fits = fits;
      aligned = octets_keep a (length u.octets) s (moved s (8 * length u.octets)) whole refl;
    }

pub told_again : (v : ℕ) (a : Align) (s : Spot) (text more : List Bool) → IsBytes s.bytes → IsAligned a s → v < 2 → SpellsNumber a 1 v text → rest s ≡ text ++ more → Again ℕ a (below_at 2 a fault.BadPlace s) v s text more
unfolding below_at width_from
told_again v a s text more fits whole lt is e =
    let f = field_again 1 v a s text more fits whole lt is e in record {
      next = f.next;
      reads = rw (f.reads, lt-ltb v 2 lt) refl;
      front = f.front;
      behind = f.behind;
      fits = f.fits;
      aligned = f.aligned;
    }

pub split : (s : Spot) (p q text more : List Bool) → text ≡ p ++ q → rest s ≡ text ++ more → rest s ≡ p ++ (q ++ more)
split s p q text more is e = e ∙ ap (λ (x : List Bool). x ++ more) is ∙ append_assoc p q more

-- one item, and another behind it
pub joined : (s t u : Spot) (p q text : List Bool) → text ≡ p ++ q → Front s p t → Front t q u → Front s text u
joined s t u p q text is f g = subst (λ (x : List Bool). Front s x u) (sym is) (front_append s t u p q f g)

-- an item reads what is spelled so
abbrev pub Reread : {X : Type 0} → Align → Reader X → (X → List Bool → Type 0) → X → Type 0
Reread {X} a read P x = (s : Spot) (text more : List Bool) → IsBytes s.bytes → IsAligned a s → P x text → rest s ≡ text ++ more → Again X a (read s) x s text more

pub optional_again : {X : Type 0} → (a : Align) (read : Reader X) (P : X → List Bool → Type 0) (o : Option X) → IfSome o (λ x. Reread a read P x) → (s : Spot) (text more : List Bool) → IsBytes s.bytes → IsAligned a s → SpellsOptional a P o text → rest s ≡ text ++ more → Again (Option X) a (below_at 2 a fault.BadPlace s >>= λ told. optional told read) o s text more
optional_again a read P None again s text more fits whole is e =
    let f = told_again 0 a s text more fits whole (omega arith) is e in record {
      next = f.next;
      reads = rw (f.reads) refl;
      front = f.front;
      behind = f.behind;
      fits = f.fits;
      aligned = f.aligned;
    }
optional_again a read P (Some x) again s text more fits whole is e =
    let f = told_again 1 a s is.first (is.second ++ more) fits whole (omega arith) is.front (split s is.first is.second text more is.parts e) in
    let g = again f.next is.second more f.fits f.aligned is.behind f.behind in record {
      next = g.next;
      reads = rw (f.reads, g.reads) refl;
      front = joined s f.next g.next is.first is.second text is.parts f.front g.front;
      behind = g.behind;
      fits = g.fits;
      aligned = g.aligned;
    }

pub where_again : {X : Type 0} → (a : Align) (b : Bool) (none : X) (read : Reader X) (P : X → List Bool → Type 0) (x : X) → (b ≡ true → Reread a read P x) → (b ≡ false → x ≡ none) → (s : Spot) (text more : List Bool) → IsBytes s.bytes → IsAligned a s → Where b (P x) text → rest s ≡ text ++ more → Again X a (where_it_counts b none read s) x s text more
where_again a true none read P x again absent s text more fits whole is e = again refl s text more fits whole is e
where_again a false none read P x again absent s text more fits whole is e = record {
  next = s;
  reads = ap (λ y. given (y, s)) (sym (absent refl));
  front = subst (λ (t : List Bool). Front s t s) (sym is) (front_none s);
  behind = e ∙ ap (λ (t : List Bool). t ++ more) is;
  fits = fits;
  aligned = whole;
}
