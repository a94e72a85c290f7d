-- One code after another.
use Rattle.std.proofs.Common.{◌≡◌, ℕ, zero, suc, ◌+◌, ◌*◌, ◌-◌, ◌<◌, ◌≤◌, Bool, true, false, cond, eqb, leb, ltb, List, [], ◌∷◌, ◌++◌, length, get_or, slice_get, Option, Some, None, Result, Ok, Err, refl, sym, ap, ◌∙◌, subst, inl, inr, arith}
use Rattle.std.proofs.lemmas.Bool.{cases_Bool, cases_lt, eqb-true, lt-ltb, ltb-true}
use Rattle.exi_bits.specs.declared.align.Align.TheVariants as align
use Rattle.exi_bits.specs.declared.fault.Fault.{Fault}
use Rattle.exi_bits.specs.declared.fault.Kind.TheVariants as kind
use Rattle.exi_bits.specs.Bits.{Spot, left, moved, number_at, value_at as number_value}
use Rattle.exi_bits.specs.Repeat.{Reader, times}
use Rattle.exi_bits.specs.declared.fault.Stop.{Stop}
use Rattle.exi_bits.specs.declared.fault.Stop.TheVariants as stop
use Rattle.exi_bits.specs.Unsigned.{◌>>=◌, StopsAs, at_spot, below_at, fault_at, field_at, needed, unsigned_at}
use Rattle.exi_bits.specs.Widths.{width_for}
use Rattle.exi_bits.proofs.UnsignedLaws.{unsigned_spelled}
use Rattle.exi_gram.specs.Codes.{Productions, code_at, first_told, part_at}
use Rattle.exi_items.proofs.Items.{bind_ok, given, guard_ok, ok_is}
use Rattle.exi_names.specs.Characters.{is_xml_char}
use Rattle.exi_text.specs.Literals.{char_at, code_at as character_at}
use Rattle.exi_options.specs.declared.table.Sign.{Sign}
use Rattle.exi_options.specs.declared.table.Sign.TheVariants as sign
use Rattle.exi_options.specs.declared.table.State.{State}
use Rattle.exi_options.specs.declared.table.State.TheVariants as state
use Rattle.exi_options.specs.declared.told.Told.{Told}
use Rattle.exi_gram.specs.declared.options.SchemaWord.TheVariants as schema
use Rattle.exi_options.specs.Document.{Code, ahead, codes, flag, productions}
use Rattle.exi_options.specs.Reading.{codes_at, document_at, name_at, switched, untold, value_at, with_block, with_capacity, with_most, with_schema, with_schema_bit}
use Rattle.exi_options.proofs.Tables.{falls_at, lives}

-- ---- bits
needed_is : (o : Option (ℕ × Spot)) (s : Spot) (q : ℕ × Spot) → at_spot s (needed o) ≡ given q → o ≡ Some q
needed_is None s q e = absurd cc
needed_is (Some p) s q e = ap (λ (z : ℕ × Spot). Some z) (ok_is p q e)

number_moved : (b : Bool) (p q : ℕ × Spot) → cond b None (Some p) ≡ Some q → p ≡ q
number_moved true p q e = absurd cc
number_moved false p q e = cc

-- so many bits were there, and reading is behind them
pub record IsMoved (n : ℕ) (s t : Spot) : Type 0 where
  pub room : n ≤ left s
  pub bytes : t.bytes ≡ s.bytes
  pub place : t.place ≡ s.place + n

abbrev refused_code : Fault → Result (Code × Spot) Fault
refused_code f = Err f

abbrev refused : Fault → Result (ℕ × Spot) Fault
refused f = Err f

field_room : (n : ℕ) (s : Spot) (q : ℕ × Spot) → field_at n align.Bits s ≡ given q → n ≤ left s
unfolding field_at number_at
field_room n s q e = elim (cases_lt (left s) n) [
  | inl few ↦
      let none : field_at n align.Bits s ≡ refused (record { kind = kind.Short; bit = s.place }) = rw (lt-ltb (left s) n few) refl in
      let h : refused (record { kind = kind.Short; bit = s.place }) ≡ given q = sym none ∙ e in
      absurd cc
  | inr room ↦ room
]

field_moved : (n : ℕ) (s : Spot) (q : ℕ × Spot) → field_at n align.Bits s ≡ given q → IsMoved n s q.1
unfolding field_at number_at
field_moved n s q e =
    let room = field_room n s q e in
    let h = needed_is (cond (ltb (left s) n) None (Some (number_value n align.Bits s, moved s n))) s q e in
    let k = number_moved (ltb (left s) n) (number_value n align.Bits s, moved s n) q h in
    subst (λ (z : ℕ × Spot). IsMoved n s z.1) k (record { room = room; bytes = refl; place = refl })

-- ---- a code
pub record IsPart (n : ℕ) (s : Spot) (p : ℕ × Spot) : Type 0 where
  pub below : p.0 < n
  pub moved : IsMoved (width_for n) s p.1

part_is : (n : ℕ) (s : Spot) (p : ℕ × Spot) → part_at n align.Bits s ≡ given p → IsPart n s p
unfolding part_at below_at
part_is n s p e =
    let b = bind_ok (field_at (width_for n) align.Bits s) (λ (found : ℕ × Spot). cond (ltb found.0 n) (given found) (fault_at kind.NoCode s)) p e in
    let g = guard_ok (ltb b.0.0 n) b.0 p (record { kind = kind.NoCode; bit = s.place }) b.2 in
    subst (λ (q : ℕ × Spot). IsPart n s q) g.1 (record { below = ltb-true b.0.0 n g.0; moved = field_moved (width_for n) s b.0 b.1 })

abbrev of_one_part : List Code → Productions Code
of_one_part cs = record { firsts = cs; seconds = [] }

pub code_is : (cs : List Code) (s : Spot) → code_at align.Bits (of_one_part cs) s ≡ (part_at (length cs) align.Bits s >>= λ f. first_told align.Bits [] (slice_get cs f.0) f.1)
unfolding code_at
code_is cs s =
    let e : length cs + 0 ≡ length cs = omega arith in
    ap (λ (n : ℕ). part_at n align.Bits s >>= λ f. first_told align.Bits [] (slice_get cs f.0) f.1) e

pub code_some : (cs : List Code) (s t : Spot) (v : ℕ) (c : Code) → part_at (length cs) align.Bits s ≡ Ok (v, t) → slice_get cs v ≡ Some c → code_at align.Bits (of_one_part cs) s ≡ Ok (c, t)
code_some cs s t v c e f = code_is cs s ∙ (rw (e, f) refl)

pub code_fault : (cs : List Code) (s : Spot) (f : Fault) → part_at (length cs) align.Bits s ≡ Err f → code_at align.Bits (of_one_part cs) s ≡ Err f
code_fault cs s f e = code_is cs s ∙ (rw e refl)

pub get_is : (cs : List Code) (i : ℕ) (d : Code) → i < length cs → slice_get cs i ≡ Some (get_or cs i d)
get_is [] i d lt = absurd (omega arith)
get_is (c ∷ cs) zero d lt = refl
get_is (c ∷ cs) (suc i) d lt = get_is cs i d (omega arith)

pub get_some : (cs : List Code) (i : ℕ) → i < length cs → (c : Code) × (slice_get cs i ≡ Some c)
get_some [] i lt = absurd (omega arith)
get_some (c ∷ cs) zero lt = (c, refl)
get_some (c ∷ cs) (suc i) lt = get_some cs i (omega arith)

pub record IsCode (cs : List Code) (s : Spot) (q : Code × Spot) : Type 0 where
  pub place : ℕ
  pub there : slice_get cs place ≡ Some q.0
  pub moved : IsMoved (width_for (length cs)) s q.1

pub code_found : (cs : List Code) (s : Spot) (q : Code × Spot) → code_at align.Bits (of_one_part cs) s ≡ given q → IsCode cs s q
code_found cs s q e =
    let b = bind_ok (part_at (length cs) align.Bits s) (λ (f : ℕ × Spot). first_told align.Bits [] (slice_get cs f.0) f.1) q (sym (code_is cs s) ∙ e) in
    let p = part_is (length cs) s b.0 b.1 in
    let g = get_some cs b.0.0 p.below in
    let h : given (g.0, b.0.1) ≡ given q = sym (ap (λ (o : Option Code). first_told align.Bits [] o b.0.1) g.1) ∙ b.2 in
    subst (λ (z : Code × Spot). IsCode cs s z) (ok_is (g.0, b.0.1) q h) (record { place = b.0.0; there = g.1; moved = p.moved })

-- as a call takes it that has the codes
pub part_fails : (st : State) (cs : List Code) (s : Spot) (f : Fault) → cs ≡ codes st → part_at (length cs) align.Bits s ≡ Err f → code_at align.Bits (productions st) s ≡ Err f
part_fails st cs s f same e = subst (λ (x : List Code). code_at align.Bits (of_one_part x) s ≡ refused_code f) same (code_fault cs s f e)

pub part_tells : (st : State) (cs : List Code) (s t : Spot) (v : ℕ) (d : Code) → cs ≡ codes st → v < length cs → part_at (length cs) align.Bits s ≡ Ok (v, t) → code_at align.Bits (productions st) s ≡ Ok (get_or cs v d, t)
part_tells st cs s t v d same lt e = subst (λ (x : List Code). code_at align.Bits (of_one_part x) s ≡ given (get_or cs v d, t)) same (code_some cs s t v (get_or cs v d) e (get_is cs v d lt))

-- ---- a value
-- further on in the same bytes, or there
pub record Further (s t : Spot) : Type 0 where
  pub bytes : t.bytes ≡ s.bytes
  pub place : s.place ≤ t.place

abbrev GoesFurther : {X : Type 0} → Reader X → Type 0
GoesFurther {X} read = (q : X × Spot) (s : Spot) → read s ≡ given q → Further s q.1

there : (s : Spot) → Further s s
there s = record { bytes = refl; place = omega arith }

further_then : (s t u : Spot) → Further s t → Further t u → Further s u
further_then s t u f g = record { bytes = g.bytes ∙ f.bytes; place = omega (arith, f.place, g.place) }

unsigned_goes : GoesFurther unsigned_at
unsigned_goes q s r = let k = unsigned_spelled q.0 s q.1 r in record { bytes = k.2.bytes; place = omega (arith, k.2.place) }

character_goes : GoesFurther character_at
unfolding character_at
character_goes q s r =
    let u = bind_ok (unsigned_at s) (λ (x : ℕ × Spot). cond (is_xml_char x.0) (given x) (Err (record { kind = kind.BadChar; bit = s.place }))) q r in
    let g = guard_ok (is_xml_char u.0.0) u.0 q (record { kind = kind.BadChar; bit = s.place }) u.2 in
    subst (λ (z : ℕ × Spot). Further s z.1) g.1 (unsigned_goes u.0 s u.1)

times_goes : {X : Type 0} (read : Reader X) → GoesFurther read → (n : ℕ) → GoesFurther {X = List X} (times read n)
unfolding times
times_goes {X} read one zero q s r = subst (λ (z : List X × Spot). Further s z.1) (ok_is ([], s) q r) (there s)
times_goes {X} read one (suc n) q s r =
    let u = bind_ok (read s) (λ (x : X × Spot). times read n x.1 >>= λ xs. given {X = List X} (x.0 ∷ xs.0, xs.1)) q r in
    let v = bind_ok (times read n u.0.1) (λ (xs : List X × Spot). given {X = List X} (u.0.0 ∷ xs.0, xs.1)) q u.2 in
    subst (λ (z : List X × Spot). Further s z.1) (ok_is (u.0.0 ∷ v.0.0, v.0.1) q v.2) (further_then s u.0.1 v.0.1 (one u.0 s u.1) (times_goes read one n v.0 u.0.1 v.1))

name_goes : GoesFurther {X = List ℕ} name_at
unfolding name_at
name_goes q s r =
    let u = bind_ok (unsigned_at s) (λ (n : ℕ × Spot). cond (leb 2 n.0) (cond (leb (n.0 - 2) 65536) (times (char_at None align.Bits) (n.0 - 2) n.1) (fault_at kind.TextLimit s)) (fault_at kind.BadPlace n.1)) q r in
    by (leb 2 u.0.0) (leb (u.0.0 - 2) 65536) u.0 (unsigned_goes u.0 s u.1) u.2
  where
    by : (a b : Bool) (p : ℕ × Spot) → Further s p.1 → cond a (cond b (times (char_at None align.Bits) (p.0 - 2) p.1) (fault_at kind.TextLimit s)) (fault_at kind.BadPlace p.1) ≡ given q → Further s q.1
    by true true p f h = further_then s p.1 q.1 f (times_goes character_at character_goes (p.0 - 2) q p.1 h)
    by true false p f h = absurd cc
    by false b p f h = absurd cc

stays : (t : Told) (s : Spot) (q : Told × Spot) → given (t, s) ≡ given q → Further s q.1
stays t s q e = subst (λ (z : Told × Spot). Further s z.1) (ok_is (t, s) q e) (there s)

made : {X : Type 0} (read : Reader X) (f : X → Told) (s : Spot) (q : Told × Spot) → GoesFurther read → (read s >>= λ n. given (f n.0, n.1)) ≡ given q → Further s q.1
made {X} read f s q goes e =
    let u = bind_ok (read s) (λ (n : X × Spot). given (f n.0, n.1)) q e in
    subst (λ (z : Told × Spot). Further s z.1) (ok_is (f u.0.0, u.0.1) q u.2) (goes u.0 s u.1)

pub value_goes : (sn : Sign) (bit : ℕ) (t : Told) (s : Spot) (q : Told × Spot) → value_at sn bit t s ≡ given q → Further s q.1
unfolding value_at
value_goes (sign.Opens e) bit t s q r = stays t s q r
value_goes sign.Ends bit t s q r = stays t s q r
value_goes (sign.Switch f) bit t s q r = stays (switched f t) s q r
value_goes sign.Byte bit t s q r = stays (switched (flag 8) t) s q r
value_goes sign.BlockSize bit t s q r = made unsigned_at (λ n. with_block n t) s q unsigned_goes r
value_goes sign.ValueMaxLength bit t s q r = made unsigned_at (λ n. with_most n t) s q unsigned_goes r
value_goes sign.ValuePartitionCapacity bit t s q r = made unsigned_at (λ n. with_capacity n t) s q unsigned_goes r
value_goes sign.SchemaId bit t s q r = stays (with_schema_bit bit t) s q r
value_goes sign.Text bit t s q r = made name_at (λ n. with_schema (schema.Id n) t) s q name_goes r
value_goes sign.False bit t s q r = stays t s q r
value_goes sign.True bit t s q r = stays (with_schema schema.Nil t) s q r
value_goes (sign.Refused p) bit t s q r = absurd cc

-- ---- a step
abbrev pub left_to_come : State → Spot → ℕ
left_to_come st s = ahead st + 2 * left s

pub comes_less : (st : State) (s : Spot) (t : Told) (c : Code × Spot) (q : Told × Spot) → code_at align.Bits (productions st) s ≡ given c → value_at c.0.0 s.place t c.1 ≡ given q → left_to_come c.0.1 q.1 < left_to_come st s
comes_less st s t c q e f =
    let k = code_found (codes st) s c e in
    let fall = falls_at st k.place c.0 k.there in
    let on = value_goes c.0.0 s.place t c.1 q f in
    let bytes : length q.1.bytes ≡ length s.bytes = ap (λ (x : List ℕ). length x) (on.bytes ∙ k.moved.bytes) in
    omega (arith, fall, bytes, on.place, k.moved.place, k.moved.room)

pub step_is : (n : ℕ) (st : State) (t : Told) (s : Spot) (c : Code × Spot) (q : Told × Spot) → eqb (length (codes st)) 0 ≡ false → code_at align.Bits (productions st) s ≡ Ok c → value_at c.0.0 s.place t c.1 ≡ Ok q → codes_at (suc n) st t s ≡ codes_at n c.0.1 q.0 q.1
unfolding codes_at
step_is n st t s c q some e f = rw (some, e, f) refl

code_stops : (n : ℕ) (st : State) (t : Told) (s : Spot) (fault : Fault) → eqb (length (codes st)) 0 ≡ false → code_at align.Bits (productions st) s ≡ Err fault → codes_at (suc n) st t s ≡ Err fault
unfolding codes_at
code_stops n st t s fault some e = rw (some, e) refl

value_stops : (n : ℕ) (st : State) (t : Told) (s : Spot) (c : Code × Spot) (fault : Fault) → eqb (length (codes st)) 0 ≡ false → code_at align.Bits (productions st) s ≡ Ok c → value_at c.0.0 s.place t c.1 ≡ Err fault → codes_at (suc n) st t s ≡ Err fault
unfolding codes_at
value_stops n st t s c fault some e f = rw (some, e, f) refl

pub none_is_end : (n : ℕ) (st : State) (t : Told) (s : Spot) → eqb (length (codes st)) 0 ≡ true → codes_at n st t s ≡ Ok (t, s)
unfolding codes_at
none_is_end zero st t s none = refl
none_is_end (suc n) st t s none = rw none refl

-- ---- for the loop: what is told so far goes on as all that is read from the first spot
pub record Goes (first : Spot) (st : State) (t : Told) (s : Spot) : Type 0 where
  pub most : ℕ
  pub enough : left_to_come st s ≤ most
  pub so_far : document_at first ≡ codes_at most st t s
  pub bytes : s.bytes ≡ first.bytes

pub goes_starts : (s : Spot) → Goes s state.Document untold s
unfolding document_at
goes_starts s = record { most = left_to_come state.Document s; enough = omega arith; so_far = refl; bytes = refl }

-- there is a code more
pub record Another (first : Spot) (st : State) (t : Told) (s : Spot) : Type 0 where
  pub most : ℕ
  pub enough : left_to_come st s ≤ suc most
  pub so_far : document_at first ≡ codes_at (suc most) st t s

another : (first : Spot) (st : State) (t : Told) (s : Spot) → eqb (length (codes st)) 0 ≡ false → Goes first st t s → Another first st t s
another first st t s some g = by g.most g.enough g.so_far
  where
    by : (n : ℕ) → left_to_come st s ≤ n → document_at first ≡ codes_at n st t s → Another first st t s
    by zero le e = let pos : 0 < ahead st = ltb-true 0 (ahead st) (lives st some) in absurd (omega arith)
    by (suc n) le e = record { most = n; enough = le; so_far = e }

pub goes_on : (first : Spot) (st : State) (t : Told) (s : Spot) (c : Code × Spot) (q : Told × Spot) → eqb (length (codes st)) 0 ≡ false → code_at align.Bits (productions st) s ≡ Ok c → value_at c.0.0 s.place t c.1 ≡ Ok q → q.1.bytes ≡ first.bytes → Goes first st t s → Goes first c.0.1 q.0 q.1
goes_on first st t s c q some e f bytes g =
    let a = another first st t s some g in
    let less = comes_less st s t c q e f in
    record { most = a.most; enough = omega (arith, less, a.enough); so_far = a.so_far ∙ step_is a.most st t s c q some e f; bytes = bytes }

pub goes_to_code : (first : Spot) (st : State) (t : Told) (s : Spot) (fault : Fault) → eqb (length (codes st)) 0 ≡ false → code_at align.Bits (productions st) s ≡ Err fault → Goes first st t s → document_at first ≡ Err fault
goes_to_code first st t s fault some e g =
    let a = another first st t s some g in
    a.so_far ∙ code_stops a.most st t s fault some e

pub goes_to_value : (first : Spot) (st : State) (t : Told) (s : Spot) (c : Code × Spot) (fault : Fault) → eqb (length (codes st)) 0 ≡ false → code_at align.Bits (productions st) s ≡ Ok c → value_at c.0.0 s.place t c.1 ≡ Err fault → Goes first st t s → document_at first ≡ Err fault
goes_to_value first st t s c fault some e f g =
    let a = another first st t s some g in
    a.so_far ∙ value_stops a.most st t s c fault some e f

pub goes_to_end : (first : Spot) (st : State) (t : Told) (s : Spot) → eqb (length (codes st)) 0 ≡ true → Goes first st t s → document_at first ≡ Ok (t, s)
goes_to_end first st t s none g = g.so_far ∙ none_is_end g.most st t s none

-- the same of a call that may run out of memory
pub goes_to_stop : (first : Spot) (st : State) (t : Told) (s : Spot) (c : Code × Spot) (bit : ℕ) (e : Stop) → eqb (length (codes st)) 0 ≡ false → code_at align.Bits (productions st) s ≡ Ok c → bit ≡ s.place → StopsAs {Y = Told × Spot} e (value_at c.0.0 bit t c.1) → Goes first st t s → StopsAs {Y = Told × Spot} e (document_at first)
goes_to_stop first st t s c bit stop.Memory some e at f g = tt
goes_to_stop first st t s c bit (stop.Fault fault) some e at f g = goes_to_value first st t s c fault some e (ap (λ (b : ℕ). value_at c.0.0 b t c.1) (sym at) ∙ f) g
