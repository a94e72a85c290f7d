-- Reading goes onward: in the same bytes, with the text charged, and over tables that keep each place.
use Rattle.std.proofs.Common.{◌≡◌, ℕ, zero, suc, ◌+◌, ◌-◌, ◌≤◌, Bool, true, false, cond, eqb, ltb, List, [], ◌∷◌, length, get_or, Option, Some, None, Result, Err, refl, ap, ◌∙◌, subst, arith}
use Rattle.std.proofs.lemmas.Bool.{leb-true}
use Rattle.exi_bits.specs.declared.align.Align.{Align}
use Rattle.exi_bits.specs.declared.fault.Fault.{Fault}
use Rattle.exi_bits.specs.declared.fault.Kind.{Kind}
use Rattle.exi_bits.specs.declared.fault.Kind.TheVariants as kind
use Rattle.exi_bits.specs.Bits.{Spot, left, moved, number_at, taken, value_at as number_there}
use Rattle.exi_bits.specs.Repeat.{Reader, times}
use Rattle.exi_bits.specs.Unsigned.{◌>>=◌, at_spot, field_at, needed, below_at, unsigned_at}
use Rattle.exi_bits.specs.Widths.{width_for}
use Rattle.exi_bits.proofs.Spelled.{guard_some}
use Rattle.exi_bits.proofs.UnsignedLaws.{unsigned_spelled}
use Rattle.exi_items.specs.Charges.{Charged, after_text, text_charge}
use Rattle.exi_meter.specs.Metering.{Metering, with_text}
use Rattle.exi_names.specs.Characters.{is_xml_char}
use Rattle.exi_names.specs.declared.names.NameId.{NameId}
use Rattle.exi_tables.specs.Growth.{KeepsAll}
use Rattle.exi_tables.specs.Partitions.{Partitions, live_at, locals, prefixes, uris, values, with_local, with_prefix, with_uri, with_value}
use Rattle.exi_tables.proofs.Growing.{keeps_local, keeps_prefix, keeps_same, keeps_uri, keeps_value}
use Rattle.exi_text.specs.Literals.{char_at, chars_at, code_at, in_set_at, width_in}
use Rattle.exi_typed.specs.ReadStates.{ReadState, ContextReader, at_spot_of, failing}
use Rattle.exi_typed.specs.NameValues.{name_value_at}
use Rattle.exi_typed.specs.Continues.{KeepsEach, ReadsOn, Continues}
use Rattle.exi_typed.specs.Strings.{Declaration, Growth, Named, Partition, charged_at, declaration_at, declared_under, hit_at, indexed_at, known_at, listed, literal_at, local_at, missed_at, name_at, name_under, own_values, place_in, placed_at, prefix_at, told_prefix, uri_at, value_at}
use Rattle.exi_typed.proofs.ContextItems.{context, bind_fine, bind_told, charge_is, charged, read_state, fine, fine_is, guard_fine, not_failing, told, told_is}

-- ---- bits
-- further on in the same bytes, or there
pub record Further (s t : Spot) : Type 0 where
  pub bytes : t.bytes ≡ s.bytes
  pub place : s.place ≤ t.place

abbrev pub GoesFurther : {X : Type 0} → Reader X → Type 0
GoesFurther {X} read = (q : X × Spot) (s : Spot) → read s ≡ fine q → Further s q.1

pub further_then : (s t u : Spot) → Further s t → Further t u → Further s u
further_then s t u f g = record { bytes = g.bytes ∙ f.bytes; place = omega (arith, f.place, g.place) }

field_some : (o : Option (ℕ × Spot)) (s : Spot) (q : ℕ × Spot) → at_spot s (needed o) ≡ fine q → o ≡ Some q
field_some None s q e = absurd cc
field_some (Some p) s q e = ap (λ (x : ℕ × Spot). Some x) (fine_is p q e)

pub field_goes : (n : ℕ) (a : Align) → GoesFurther (field_at n a)
unfolding field_at number_at
field_goes n a q s r =
    let g = guard_some (ltb (left s) (taken n a)) (number_there n a s, moved s (taken n a)) q (field_some (number_at n a s) s q r) in
    subst (λ (z : ℕ × Spot). Further s z.1) g.1 (record { bytes = refl; place = omega arith })

below_goes : (count : ℕ) (a : Align) (k : Kind) → GoesFurther (below_at count a k)
unfolding below_at
below_goes count a k q s r =
    let u = bind_fine (field_at (width_for count) a s) (λ (x : ℕ × Spot). cond (ltb x.0 count) (fine x) (Err (record { kind = k; bit = s.place }))) q r in
    let g = guard_fine (ltb u.0.0 count) u.0 q (record { kind = k; bit = s.place }) u.2 in
    subst (λ (z : ℕ × Spot). Further s z.1) g.1 (field_goes (width_for count) a u.0 s u.1)

unsigned_goes : GoesFurther unsigned_at
unsigned_goes q s r = let k = unsigned_spelled q.0 s q.1 r in record { bytes = k.2.bytes; place = omega (arith, k.2.place) }

code_goes : GoesFurther code_at
unfolding code_at
code_goes q s r =
    let u = bind_fine (unsigned_at s) (λ (x : ℕ × Spot). cond (is_xml_char x.0) (fine x) (Err (record { kind = kind.BadChar; bit = s.place }))) q r in
    let g = guard_fine (is_xml_char u.0.0) u.0 q (record { kind = kind.BadChar; bit = s.place }) u.2 in
    subst (λ (z : ℕ × Spot). Further s z.1) g.1 (unsigned_goes u.0 s u.1)

in_set_goes : (set : List ℕ) (a : Align) → GoesFurther (in_set_at set a)
unfolding in_set_at
in_set_goes set a q s r =
    let u = bind_fine (field_at (width_in set) a s) (λ (x : ℕ × Spot). cond (ltb x.0 (length set)) (fine {X = ℕ × Spot} (get_or set x.0 0, x.1)) (cond (eqb x.0 (length set)) (code_at x.1) (Err (record { kind = kind.BadChar; bit = s.place })))) q r in
    by_place (ltb u.0.0 (length set)) (eqb u.0.0 (length set)) u.0 (field_goes (width_in set) a u.0 s u.1) u.2
  where
    by_place : (b d : Bool) (p : ℕ × Spot) → Further s p.1 → cond b (fine {X = ℕ × Spot} (get_or set p.0 0, p.1)) (cond d (code_at p.1) (Err (record { kind = kind.BadChar; bit = s.place }))) ≡ fine q → Further s q.1
    by_place true d p f h = subst (λ (z : ℕ × Spot). Further s z.1) (fine_is (get_or set p.0 0, p.1) q h) f
    by_place false true p f h = further_then s p.1 q.1 f (code_goes q p.1 h)
    by_place false false p f h = absurd cc

char_goes : (set : Option (List ℕ)) (a : Align) → GoesFurther (char_at set a)
char_goes None a = code_goes
char_goes (Some set) a = in_set_goes set a

times_goes : {X : Type 0} (read : Reader X) → GoesFurther read → (n : ℕ) → GoesFurther {X = List X} (times read n)
unfolding times
times_goes {X} read one zero q s r = subst (λ (z : List X × Spot). Further s z.1) (fine_is ([], s) q r) (record { bytes = refl; place = omega arith })
times_goes {X} read one (suc n) q s r =
    let u = bind_fine (read s) (λ (x : X × Spot). times read n x.1 >>= λ xs. fine {X = List X × Spot} (x.0 ∷ xs.0, xs.1)) q r in
    let v = bind_fine (times read n u.0.1) (λ (xs : List X × Spot). fine {X = List X × Spot} (u.0.0 ∷ xs.0, xs.1)) q u.2 in
    subst (λ (z : List X × Spot). Further s z.1) (fine_is (u.0.0 ∷ v.0.0, v.0.1) q v.2) (further_then s u.0.1 v.0.1 (one u.0 s u.1) (times_goes read one n v.0 u.0.1 v.1))

-- ---- courses
pub same_keeps : (p : Partitions) → KeepsAll p p
same_keeps p = record {
  each_uri = keeps_same (uris p);
  each_local = λ uri. keeps_same (locals p uri);
  each_prefix = λ uri. keeps_same (prefixes p uri);
}

keeps_then : (p q r : Partitions) → KeepsAll p q → KeepsAll q r → KeepsAll p r
keeps_then p q r f g = record {
  each_uri = λ place text is. g.each_uri place text (f.each_uri place text is);
  each_local = λ uri place text is. g.each_local uri place text (f.each_local uri place text is);
  each_prefix = λ uri place text is. g.each_prefix uri place text (f.each_prefix uri place text is);
}

abbrev used_text : Metering → ℕ → Metering
used_text m text = record m { used = record m.used { text = text } }

no_units : (m : Metering) → m ≡ with_text m 0
no_units m = let e : m.used.text ≡ m.used.text + 0 = omega arith in ap (λ (n : ℕ). used_text m n) e

units_then : (m : Metering) (i j : ℕ) → with_text (with_text m i) j ≡ with_text m (i + j)
units_then m i j = let e : m.used.text + i + j ≡ m.used.text + (i + j) = omega arith in ap (λ (n : ℕ). used_text m n) e

pub spot_continues : (c : ReadState) (t : Spot) → Further c.spot t → Continues c (at_spot_of c t)
spot_continues c t f = record { bytes = f.bytes; place = f.place; units = 0; meter = no_units c.context.meter; within = λ h. h; keeps = same_keeps c.context.tables }

pub same_continues : (c : ReadState) → Continues c c
same_continues c = spot_continues c c.spot (record { bytes = refl; place = omega arith })

pub continues_then : (c d e : ReadState) → Continues c d → Continues d e → Continues c e
continues_then c d e f g = record {
  bytes = g.bytes ∙ f.bytes;
  place = omega (arith, f.place, g.place);
  units = f.units + g.units;
  meter = g.meter ∙ ap (λ (m : Metering). with_text m g.units) f.meter ∙ units_then c.context.meter f.units g.units;
  within = λ h. g.within (f.within h);
  keeps = keeps_then c.context.tables d.context.tables e.context.tables f.keeps g.keeps;
}

charge_goes : (units : ℕ) (c : ReadState) (m : Metering) → failing c.context.meter (text_charge units c.spot.place c.context.meter) ≡ told m → Continues c (read_state c.spot (context m c.context.tables))
charge_goes units c m r =
    let g = charge_is units c.spot.place c.context.meter m (not_failing c.context.meter (text_charge units c.spot.place c.context.meter) m r) in
    subst (λ (n : Metering). Continues c (read_state c.spot (context n c.context.tables))) g.1 (record {
      bytes = refl;
      place = omega arith;
      units = units;
      meter = refl;
      within = λ h. leb-true (c.context.meter.used.text + units) c.context.meter.limits.text g.0;
      keeps = same_keeps c.context.tables;
    })

-- ---- put together
pub behind_goes : {X Y : Type 0} (one : Reader X) (two : X → ContextReader Y) → GoesFurther one → ((x : X) → ReadsOn (two x)) → ReadsOn {X = Y} (λ c. failing c.context.meter (one c.spot) >>= λ x. two x.0 (at_spot_of c x.1))
behind_goes {X} one two f g y c d r =
    let u = bind_told (failing c.context.meter (one c.spot)) (λ (x : X × Spot). two x.0 (at_spot_of c x.1)) (y, d) r in
    continues_then c (at_spot_of c u.0.1) d (spot_continues c u.0.1 (f u.0 c.spot (not_failing c.context.meter (one c.spot) u.0 u.1))) (g u.0.0 y (at_spot_of c u.0.1) d u.2)

pub chained_goes : {X Y : Type 0} (one : ContextReader X) (two : X → ContextReader Y) → ReadsOn one → ((x : X) → ReadsOn (two x)) → ReadsOn {X = Y} (λ c. one c >>= λ x. two x.0 x.1)
chained_goes {X} one two f g y c d r =
    let u = bind_told (one c) (λ (x : X × ReadState). two x.0 x.1) (y, d) r in
    continues_then c u.0.1 d (f u.0.0 c u.0.1 u.1) (g u.0.0 y u.0.1 d u.2)

pub paying_goes : {X : Type 0} (units : ℕ) (read : ContextReader X) → ReadsOn read → ReadsOn {X = X} (λ c. failing c.context.meter (text_charge units c.spot.place c.context.meter) >>= λ meter. read (read_state c.spot (context meter c.context.tables)))
paying_goes units read f x c d r =
    let u = bind_told (failing c.context.meter (text_charge units c.spot.place c.context.meter)) (λ (m : Metering). read (read_state c.spot (context m c.context.tables))) (x, d) r in
    continues_then c (read_state c.spot (context u.0 c.context.tables)) d (charge_goes units c u.0 u.1) (f x (read_state c.spot (context u.0 c.context.tables)) d u.2)

-- what is made of a value and of the meter and tables afterwards
pub told_goes : {X : Type 0} (f : ReadState → X) → ReadsOn {X = X} (λ c. told {X = X × ReadState} (f c, c))
told_goes {X} f x c d r = subst (λ (z : X × ReadState). Continues c z.1) (told_is (f c, c) (x, d) r) (same_continues c)

chosen_goes : {X : Type 0} (b : Bool) (one two : ContextReader X) → ReadsOn one → ReadsOn two → ReadsOn {X = X} (λ c. cond b (one c) (two c))
chosen_goes true one two f g = f
chosen_goes false one two f g = g

-- ---- texts
pub placed_goes : (s : Spot) (o : Option (List ℕ)) → ReadsOn {X = List ℕ} (placed_at s o)
unfolding charged_at
placed_goes s None x c d r = absurd cc
placed_goes s (Some text) x c d r = paying_goes (length text) (λ e. told {X = List ℕ × ReadState} (text, e)) (told_goes (λ e. text)) x c d r

hit_goes : (a : Align) (partition : Partition) → ReadsOn {X = List ℕ} (hit_at a partition)
unfolding hit_at
hit_goes a partition x c d r =
    behind_goes (below_at partition.count a kind.BadPlace) (λ place. placed_at c.spot (partition.text_at place)) (below_goes partition.count a kind.BadPlace) (λ place. placed_goes c.spot (partition.text_at place)) x c d r

missed_goes : (set : Option (List ℕ)) (a : Align) (grow : Growth) (count : ℕ) → KeepsEach grow → ReadsOn {X = List ℕ} (missed_at set a grow count)
unfolding missed_at chars_at
missed_goes set a grow count keeps x c d r =
    let u = bind_told (failing (after_text c.context.meter count) (chars_at set a count (charged c.spot c.context.meter))) (λ (p : List ℕ × Charged). told {X = List ℕ × ReadState} (p.0, read_state p.1.spot (context p.1.meter (grow c.context.tables p.0)))) (x, d) r in
    let v = not_failing (after_text c.context.meter count) (chars_at set a count (charged c.spot c.context.meter)) u.0 u.1 in
    let m = bind_fine (text_charge count c.spot.place c.context.meter) (λ (n : Metering). times (char_at set a) count c.spot >>= λ text. fine {X = List ℕ × Charged} (text.0, charged text.1 n)) u.0 v in
    let t = bind_fine (times (char_at set a) count c.spot) (λ (text : List ℕ × Spot). fine {X = List ℕ × Charged} (text.0, charged text.1 m.0)) u.0 m.2 in
    let e : (t.0.0, charged t.0.1 m.0) ≡ u.0 = fine_is (t.0.0, charged t.0.1 m.0) u.0 t.2 in
    let f : (t.0.0, read_state t.0.1 (context m.0 (grow c.context.tables t.0.0))) ≡ (x, d) =
    ap (λ (p : List ℕ × Charged). (p.0, read_state p.1.spot (context p.1.meter (grow c.context.tables p.0)))) e ∙ told_is (u.0.0, read_state u.0.1.spot (context u.0.1.meter (grow c.context.tables u.0.0))) (x, d) u.2 in
    let paid = charge_goes count c m.0 (ap (λ (n : Result Metering Fault). failing c.context.meter n) m.1) in
    let far = times_goes (char_at set a) (char_goes set a) count t.0 c.spot t.1 in
    subst (λ (z : List ℕ × ReadState). Continues c z.1) f (record {
      bytes = far.bytes;
      place = far.place;
      units = paid.units;
      meter = paid.meter;
      within = paid.within;
      keeps = keeps c.context.tables t.0.0;
    })

pub literal_goes : (a : Align) (grow : Growth) → KeepsEach grow → ReadsOn {X = List ℕ} (literal_at a grow)
unfolding literal_at
literal_goes a grow keeps = behind_goes unsigned_at (missed_at None a grow) unsigned_goes (λ count. missed_goes None a grow count keeps)

indexed_goes : (a : Align) (partition : List (List ℕ)) (grow : Growth) → KeepsEach grow → ReadsOn {X = List ℕ} (indexed_at a partition grow)
unfolding indexed_at
indexed_goes a partition grow keeps x c d r =
    behind_goes (below_at (length partition + 1) a kind.BadPlace) (λ code e. cond (eqb code 0) (literal_at a grow e) (placed_at c.spot (live_at partition (code - 1)) e)) (below_goes (length partition + 1) a kind.BadPlace)
    (λ code. chosen_goes (eqb code 0) (literal_at a grow) (placed_at c.spot (live_at partition (code - 1))) (literal_goes a grow keeps) (placed_goes c.spot (live_at partition (code - 1)))) x c d r

pub uri_goes : (a : Align) → ReadsOn {X = List ℕ} (uri_at a)
uri_goes a x c d r = indexed_goes a (uris c.context.tables) with_uri keeps_uri x c d r

pub local_goes : (a : Align) (uri : ℕ) → ReadsOn {X = List ℕ} (local_at a uri)
unfolding local_at
local_goes a uri = behind_goes unsigned_at (λ code c. cond (eqb code 0) (hit_at a (listed (locals c.context.tables uri)) c) (missed_at None a (λ p. with_local p uri) (code - 1) c)) unsigned_goes
    (λ code. chosen_goes (eqb code 0) (λ c. hit_at a (listed (locals c.context.tables uri)) c) (missed_at None a (λ p. with_local p uri) (code - 1)) (λ x c. hit_goes a (listed (locals c.context.tables uri)) x c) (missed_goes None a (λ p. with_local p uri) (code - 1) (λ p. keeps_local p uri)))

pub value_goes : (set : Option (List ℕ)) (a : Align) (name : NameId) → ReadsOn {X = List ℕ} (value_at set a name)
unfolding value_at
value_goes set a name = behind_goes unsigned_at
    (λ code c. cond (eqb code 0) (hit_at a (own_values c.context.tables name) c) (cond (eqb code 1) (hit_at a (listed (values c.context.tables)) c) (missed_at set a (λ p. with_value p name) (code - 2) c))) unsigned_goes
    (λ code. chosen_goes (eqb code 0) (λ c. hit_at a (own_values c.context.tables name) c) (λ c. cond (eqb code 1) (hit_at a (listed (values c.context.tables)) c) (missed_at set a (λ p. with_value p name) (code - 2) c)) (λ x c. hit_goes a (own_values c.context.tables name) x c)
    (chosen_goes (eqb code 1) (λ c. hit_at a (listed (values c.context.tables)) c) (missed_at set a (λ p. with_value p name) (code - 2)) (λ x c. hit_goes a (listed (values c.context.tables)) x c) (missed_goes set a (λ p. with_value p name) (code - 2) (λ p. keeps_value p name))))

-- ---- names
prefix_in_goes : (a : Align) (partition : List (List ℕ)) → ReadsOn {X = Option (List ℕ)} (told_prefix a partition)
prefix_in_goes a [] = told_goes (λ c. None)
prefix_in_goes a (p ∷ ps) = chained_goes (hit_at a (listed (p ∷ ps))) (λ text c. told {X = Option (List ℕ) × ReadState} (Some text, c)) (hit_goes a (listed (p ∷ ps))) (λ text. told_goes (λ c. Some text))

pub prefix_goes : (keep : Bool) (a : Align) (uri : ℕ) → ReadsOn {X = Option (List ℕ)} (prefix_at keep a uri)
prefix_goes true a uri x c d r = prefix_in_goes a (prefixes c.context.tables uri) x c d r
prefix_goes false a uri x c d r = told_goes (λ e. None) x c d r

abbrev named_of : NameId → List ℕ → List ℕ → Option (List ℕ) → Named
named_of id uri local prefix = record { id = id; name = record { uri = uri; local = local; prefix = prefix } }

module _ (keep : Bool) (a : Align) where
  abbrev in_space : ℕ → List ℕ → List ℕ → Option (List ℕ) → ReadState → Named
  in_space uri space local prefix c = named_of (record { uri = uri; local = place_in (locals c.context.tables uri) local }) space local prefix

  pub under_goes : (uri : ℕ) (space : List ℕ) → ReadsOn {X = Named} (name_under keep a uri space)
  unfolding name_under
  under_goes uri space = chained_goes (local_at a uri) (λ local c. prefix_at keep a uri c >>= λ prefix. told {X = Named × ReadState} (in_space uri space local prefix.0 prefix.1, prefix.1)) (local_goes a uri)
      (λ local. chained_goes (prefix_at keep a uri) (λ prefix c. told {X = Named × ReadState} (in_space uri space local prefix c, c)) (prefix_goes keep a uri) (λ prefix. told_goes (in_space uri space local prefix)))

  pub name_goes : ReadsOn {X = Named} (name_at keep a)
  unfolding name_at
  name_goes = chained_goes (uri_at a) (λ space c. name_under keep a (place_in (uris c.context.tables) space) space c) (uri_goes a) (λ space x c. under_goes (place_in (uris c.context.tables) space) space x c)

  pub known_goes : (id : NameId) → ReadsOn {X = Named} (known_at keep a id)
  unfolding known_at
  known_goes id x b d r =
      chained_goes (λ c. placed_at b.spot (live_at (uris c.context.tables) id.uri) c)
      (λ uri c. placed_at b.spot (live_at (locals c.context.tables id.uri) id.local) c >>= λ local. prefix_at keep a id.uri local.1 >>= λ prefix. told {X = Named × ReadState} (named_of id uri local.0 prefix.0, prefix.1))
      (λ y c. placed_goes b.spot (live_at (uris c.context.tables) id.uri) y c)
      (λ uri. chained_goes (λ c. placed_at b.spot (live_at (locals c.context.tables id.uri) id.local) c)
      (λ local c. prefix_at keep a id.uri c >>= λ prefix. told {X = Named × ReadState} (named_of id uri local prefix.0, prefix.1))
      (λ y c. placed_goes b.spot (live_at (locals c.context.tables id.uri) id.local) y c)
      (λ local. chained_goes (prefix_at keep a id.uri) (λ prefix c. told {X = Named × ReadState} (named_of id uri local prefix, c)) (prefix_goes keep a id.uri) (λ prefix. told_goes (λ c. named_of id uri local prefix))))
      x b d r

  pub name_value_goes : ReadsOn {X = Named} (name_value_at keep a)
  unfolding name_value_at
  name_value_goes = paying_goes 1 (name_at keep a) name_goes

-- ---- namespace declarations
module _ (a : Align) where
  abbrev space_of : List ℕ → ReadState → ℕ
  space_of uri c = place_in (uris c.context.tables) uri

  abbrev declared_as : List ℕ → List ℕ → ℕ → Declaration
  declared_as uri prefix flag = record { uri = uri; prefix = prefix; element = eqb flag 1 }

  pub declaration_goes : ReadsOn {X = Declaration} (declaration_at a)
  unfolding declaration_at declared_under
  declaration_goes = chained_goes (uri_at a)
      (λ uri c. indexed_at a (prefixes c.context.tables (space_of uri c)) (λ p. with_prefix p (space_of uri c)) c >>= λ prefix. failing prefix.1.context.meter (below_at 2 a kind.BadPlace prefix.1.spot) >>= λ flag. told {X = Declaration × ReadState} (declared_as uri prefix.0 flag.0, at_spot_of prefix.1 flag.1))
      (uri_goes a)
      (λ uri. chained_goes (λ c. indexed_at a (prefixes c.context.tables (space_of uri c)) (λ p. with_prefix p (space_of uri c)) c)
      (λ prefix c. failing c.context.meter (below_at 2 a kind.BadPlace c.spot) >>= λ flag. told {X = Declaration × ReadState} (declared_as uri prefix flag.0, at_spot_of c flag.1))
      (λ x c. indexed_goes a (prefixes c.context.tables (space_of uri c)) (λ p. with_prefix p (space_of uri c)) (λ p. keeps_prefix p (space_of uri c)) x c)
      (λ prefix. behind_goes (below_at 2 a kind.BadPlace) (λ flag c. told {X = Declaration × ReadState} (declared_as uri prefix flag, c)) (below_goes 2 a kind.BadPlace) (λ flag. told_goes (λ c. declared_as uri prefix flag))))
