-- What stands behind a code: what is read is what is spelled, and it goes onward.
use Rattle.std.proofs.Common.{◌≡◌, ℕ, Bool, true, false, cond, List, [], ◌∷◌, ◌++◌, length, Result, Ok, Err, refl, sym, ap, ◌∙◌, subst}
use Rattle.exi_bits.specs.declared.align.Align.{Align}
use Rattle.exi_bits.specs.declared.fault.Kind.TheVariants as kind
use Rattle.exi_bits.specs.Bits.{Spot, IsAligned, IsBytes, moved, rest}
use Rattle.exi_bits.specs.Unsigned.{◌>>=◌}
use Rattle.exi_gram.specs.Switches.{align_of, prefixes}
use Rattle.exi_names.specs.Datatypes.{Representation}
use Rattle.exi_names.specs.declared.names.NameId.{NameId}
use Rattle.exi_names.specs.Seen.{Value}
use Rattle.exi_meter.specs.Metering.{Metering, text_fits, with_text}
use Rattle.exi_tables.specs.Partitions.{Partitions}
use Rattle.exi_typed.specs.Charging.{Charge, charging, later}
use Rattle.exi_typed.specs.ReadStates.{Context, ReadState, ContextReader, Failure}
use Rattle.exi_typed.specs.Laws.{Spelling}
use Rattle.exi_typed.specs.Metered.{IsMetered}
use Rattle.exi_typed.specs.Continues.{ReadsOn, Continues}
use Rattle.exi_typed.specs.Refused.{IsRefusal, Refusing, RefusesDeclaration, RefusesNext, wrong}
use Rattle.exi_typed.specs.Spelled.{Follows, SpellsDeclaration}
use Rattle.exi_typed.specs.Strings.{Declaration, Named, declaration_at, no_growth}
use Rattle.exi_typed.proofs.ContextItems.{Chained, ContextItem, IsPure, MadeInContext, Went, bind_told, chained, context, read_state, in_words, made, pure, told, told_is}
use Rattle.exi_typed.proofs.Goings.{chained_goes, declaration_goes, known_goes, literal_goes, name_goes, same_keeps, told_goes}
use Rattle.exi_typed.proofs.Meters.{bind_metered, declaration_metered, known_metered, literal_metered, name_metered, pure_metered}
use Rattle.exi_typed.proofs.NameItems.{item_declaration, item_known, item_name}
use Rattle.exi_typed.proofs.Refusals.{declaration_refusal, fails, known_refusal, literal_refusal, name_refusal, next_refusal, start_refusal, told_refusal}
use Rattle.exi_typed.proofs.Texts.{item_literal}
use Rattle.exi_values.specs.Refused.{RefusesValued}
use Rattle.exi_values.specs.Spelled.{SpellsValued}
use Rattle.exi_values.specs.Valued.{valued_at}
use Rattle.exi_values.proofs.Goings.{values_go_on}
use Rattle.exi_values.proofs.Meters.{values_are_metered}
use Rattle.exi_values.proofs.Refusals.{values_refused}
use Rattle.exi_values.proofs.Values.{item_valued}
use Rattle.exi_processing.specs.Configurations.{Setting}
use Rattle.exi_processing.specs.Contents.{RefusesAttribute, RefusesAttributeValue, RefusesCharacters, RefusesFourTexts, RefusesNothing, RefusesText, RefusesTold, RefusesTwoTexts, SpellsAttribute, SpellsAttributeValue, SpellsBoth, SpellsCharacters, SpellsFourTexts, SpellsNothing, SpellsText, SpellsTold, SpellsTwoTexts, attribute_at, attribute_value_at, both_at, characters_at, four_texts_at, is_missing, nothing_at, represented_by, text_at, told_name_at, two_texts_at}
use Rattle.exi_processing.specs.Rules.{Telling, Valuing, known, spelled, under}
use Rattle.exi_processing.proofs.UnderNames.{under_goes_on, under_is_metered, under_item, under_refused}

-- what is known of a reading
pub record Reads {X : Type 0} (a : Align) (read : ContextReader X) (Spells : Spelling X) (Refuses : Refusing) : Type 0 where
  pub refusal : IsRefusal a read Refuses
  pub item : ContextItem a read Spells
  pub goes : ReadsOn read
  pub metered : IsMetered read

-- ---- nothing
one_unit : (x : Unit {0}) → tt ≡ x
one_unit tt = refl

never : (x : Unit {0} × ReadState) (e : Failure) → told x ≡ fails e → ⊥
never x e h = cc

pub nothing_reads : (a : Align) → Reads {X = Unit {0}} a nothing_at SpellsNothing RefusesNothing
nothing_reads a = record {
  refusal = record { fails = λ w s e octets al h. never (tt, read_state s w) e h; again = λ w s e octets al h. absurd h };
  item = in_words a nothing_at (IsPure tt) SpellsNothing (λ x w v ks text h. h.nothing) (λ x w v ks text h. record { is = one_unit x; nothing = h }) (pure a tt);
  goes = told_goes (λ c. tt);
  metered = pure_metered tt;
}

-- ---- one behind the other
module _ {X Y : Type 0} (a : Align) (one : ContextReader X) (two : X → ContextReader Y) (One : Spelling X) (Two : X → Spelling Y) where
  abbrev in_pair : X → Y → Partitions → X × Y
  in_pair x y b = (x, y)

  abbrev Pairs : Spelling (X × Y)
  Pairs = Chained One (λ x. MadeInContext (in_pair x) (Two x))

  to_pair : (p : X × Y) (w v : Partitions) (ks : List Charge) (text : List Bool) → Pairs p w v ks text → SpellsBoth One Two p w v ks text
  to_pair p w v ks text z = subst (λ (q : X × Y). Follows (One q.0) (Two q.0 q.1) w v ks text) z.spelled.behind.is (record {
    between = z.spelled.between;
    first = z.spelled.first;
    second = z.spelled.second;
    parts = z.spelled.parts;
    paid = z.spelled.paid;
    owed = z.spelled.owed;
    charges = z.spelled.charges;
    front = z.spelled.front;
    behind = z.spelled.behind.spelled;
  })

  from_pair : (p : X × Y) (w v : Partitions) (ks : List Charge) (text : List Bool) → SpellsBoth One Two p w v ks text → Pairs p w v ks text
  from_pair p w v ks text h = record {
    from = p.0;
    spelled = record { between = h.between; first = h.first; second = h.second; parts = h.parts; paid = h.paid; owed = h.owed; charges = h.charges; front = h.front; behind = record { from = p.1; is = refl; spelled = h.behind } };
  }

  both_item : ContextItem a one One → ((x : X) → ContextItem a (two x) (Two x)) → ContextItem {X = X × Y} a (both_at one two) (SpellsBoth One Two)
  unfolding both_at
  both_item i j = in_words a (both_at one two) Pairs (SpellsBoth One Two) to_pair from_pair
      (chained a one (λ x c. two x c >>= λ y. told {X = (X × Y) × ReadState} ((x, y.0), y.1)) One (λ x. MadeInContext (in_pair x) (Two x)) i (λ x. made a (two x) (in_pair x) (Two x) (j x)))

  both_goes : ReadsOn one → ((x : X) → ReadsOn (two x)) → ReadsOn {X = X × Y} (both_at one two)
  unfolding both_at
  both_goes f g = chained_goes one (λ x c. two x c >>= λ y. told {X = (X × Y) × ReadState} ((x, y.0), y.1)) f (λ x. chained_goes (two x) (λ y c. told {X = (X × Y) × ReadState} ((x, y), c)) (g x) (λ y. told_goes (λ c. (x, y))))

  both_metered : IsMetered one → ((x : X) → IsMetered (two x)) → IsMetered {X = X × Y} (both_at one two)
  unfolding both_at
  both_metered f g = bind_metered one (λ x c. two x c >>= λ y. told {X = (X × Y) × ReadState} ((x, y.0), y.1)) f (λ x. bind_metered (two x) (λ y c. told {X = (X × Y) × ReadState} ((x, y), c)) (g x) (λ y. pure_metered (x, y)))

  both_refused : (RefOne : Refusing) (RefTwo : X → Refusing) → IsRefusal a one RefOne → ContextItem a one One → ((x : X) → IsRefusal a (two x) (RefTwo x)) → IsRefusal {X = X × Y} a (both_at one two) (RefusesNext RefOne One RefTwo)
  unfolding both_at
  both_refused RefOne RefTwo r i s = next_refusal a one (λ x c. two x c >>= λ y. told {X = (X × Y) × ReadState} ((x, y.0), y.1)) RefOne One RefTwo r i (λ x. told_refusal a (two x) (RefTwo x) (λ y c. (x, y)) (s x))

  pub both_reads : (RefOne : Refusing) (RefTwo : X → Refusing) → Reads a one One RefOne → ((x : X) → Reads a (two x) (Two x) (RefTwo x)) → Reads {X = X × Y} a (both_at one two) (SpellsBoth One Two) (RefusesNext RefOne One RefTwo)
  both_reads RefOne RefTwo r s = record { refusal = both_refused RefOne RefTwo r.refusal r.item (λ x. (s x).refusal); item = both_item r.item (λ x. (s x).item); goes = both_goes r.goes (λ x. (s x).goes); metered = both_metered r.metered (λ x. (s x).metered) }

-- ---- names
pub name_reads : (g : Setting) (t : Telling) → Reads {X = Named} (align_of g.options) (told_name_at g t) (SpellsTold g t) (RefusesTold g t)
name_reads g spelled = record { refusal = name_refusal (align_of g.options) (prefixes g.options); item = item_name (prefixes g.options) (align_of g.options); goes = name_goes (prefixes g.options) (align_of g.options); metered = name_metered (prefixes g.options) (align_of g.options) }
name_reads g (under uri) = record { refusal = under_refused (prefixes g.options) (align_of g.options) uri; item = under_item (prefixes g.options) (align_of g.options) uri; goes = under_goes_on (prefixes g.options) (align_of g.options) uri; metered = under_is_metered (prefixes g.options) (align_of g.options) uri }
name_reads g (known id) = record { refusal = known_refusal (align_of g.options) (prefixes g.options) id; item = item_known (prefixes g.options) (align_of g.options) id; goes = known_goes (prefixes g.options) (align_of g.options) id; metered = known_metered (prefixes g.options) (align_of g.options) id }

-- ---- values
-- of every datatype, under a name
valued_reads : (r : Representation) (a : Align) (name : NameId) → Reads {X = Value} a (valued_at r a name) (SpellsValued r a name) (RefusesValued r a name)
valued_reads r a name = record { refusal = values_refused r a name; item = item_valued r a name; goes = values_go_on r a name; metered = values_are_metered r a name }

failure_is : (e f : Failure) → fails {X = Value × ReadState} e ≡ fails f → e ≡ f
failure_is e f h = cc

no_value : (x : Value × ReadState) (e : Failure) → told x ≡ fails e → ⊥
no_value x e h = cc

module _ (g : Setting) (v : Valuing) (name : Named) where
  abbrev a : Align
  a = align_of g.options

  abbrev shape : Representation
  shape = represented_by g v name

  abbrev item : ContextReader Value
  item c = valued_at shape a name.id c

  abbrev missing : Value → Bool
  missing found = is_missing g v name.id found

  no_type : ReadState → Value × ReadState → Result (Value × ReadState) Failure
  no_type c found = Err (record { fault = record { kind = kind.BadType; bit = c.spot.place }; meter = found.1.context.meter })

  lax : (b : Bool) (c : ReadState) (p q : Value × ReadState) → cond b (no_type c p) (told p) ≡ told q → (b ≡ false) × (p ≡ q)
  unfolding no_type
  lax true c p q e = absurd cc
  lax false c p q e = (refl, told_is p q e)

  abbrev stopped : Charge → Metering → Result (Value × ReadState) Failure
  stopped k m = Err (record { fault = record { kind = kind.TextLimit; bit = k.bit }; meter = m })

  -- of a type that is there nothing more is charged or refused
  there_again : (c : ReadState) (x : Value) (t : Spot) (q : Partitions) (ks : List Charge) (m : Metering) → missing x ≡ false
      → (charging ks m (Ok (x, (t, q))) >>= λ found. cond (missing found.0) (no_type c found) (told found)) ≡ charging ks m (Ok (x, (t, q)))
  there_again c x t q [] m h = rw h refl
  there_again c x t q (k ∷ ks) m h = by_fit (there_again c x t q ks (with_text m k.units) h) (text_fits m k.units)
    where
      by_fit : (charging ks (with_text m k.units) (Ok (x, (t, q))) >>= λ found. cond (missing found.0) (no_type c found) (told found)) ≡ charging ks (with_text m k.units) (Ok (x, (t, q)))
          → (b : Bool) → (cond b (charging ks (with_text m k.units) (Ok (x, (t, q)))) (stopped k m) >>= λ found. cond (missing found.0) (no_type c found) (told found)) ≡ cond b (charging ks (with_text m k.units) (Ok (x, (t, q)))) (stopped k m)
      by_fit e true = e
      by_fit e false = refl

  value_item : ContextItem {X = Value} a (attribute_value_at g v name) (SpellsAttributeValue g v name)
  unfolding attribute_value_at no_type
  value_item = record { takes = taking; again = reading; whole = λ x w v ks text h. (item_valued shape a name.id).whole x w v ks text h.spelled }
    where
      taking : (x : Value) (c d : ReadState) → IsBytes c.spot.bytes → IsAligned a c.spot → attribute_value_at g v name c ≡ told (x, d) → Went a (SpellsAttributeValue g v name x) c d
      taking x c d fits al r =
          let u = bind_told (item c) (λ (found : Value × ReadState). cond (missing found.0) (no_type c found) (told found)) (x, d) r in
          let e = lax (missing u.0.0) c u.0 (x, d) u.2 in
          let k = (item_valued shape a name.id).takes u.0.0 c u.0.1 fits al u.1 in
          subst (λ (z : Value × ReadState). Went a (SpellsAttributeValue g v name z.0) c z.1) e.1 (record {
            text = k.text;
            charges = k.charges;
            spelled = record { there = e.0; spelled = k.spelled };
            front = k.front;
            aligned = k.aligned;
            fits = k.fits;
          })

      reading : (x : Value) (s : Spot) (p q : Partitions) (ks : List Charge) (text more : List Bool) → IsBytes s.bytes → IsAligned a s → SpellsAttributeValue g v name x p q ks text → rest s ≡ text ++ more
          → (m : Metering) → attribute_value_at g v name (read_state s (context m p)) ≡ charging (later s.place ks) m (Ok (x, (moved s (length text), q)))
      reading x s p q ks text more fits al h e m =
          let r = (item_valued shape a name.id).again x s p q ks text more fits al h.spelled e m in
          ap (λ (z : Result (Value × ReadState) Failure). z >>= λ found. cond (missing found.0) (no_type (read_state s (context m p)) found) (told found)) r
          ∙ there_again (read_state s (context m p)) x (moved s (length text)) q (later s.place ks) m h.there

  value_goes : ReadsOn {X = Value} (attribute_value_at g v name)
  unfolding attribute_value_at no_type
  value_goes x c d r =
      let u = bind_told (item c) (λ (found : Value × ReadState). cond (missing found.0) (no_type c found) (told found)) (x, d) r in
      let e = lax (missing u.0.0) c u.0 (x, d) u.2 in
      subst (λ (z : Value × ReadState). Continues c z.1) e.1 (values_go_on shape a name.id u.0.0 c u.0.1 u.1)

  -- the type is not there
  none_there : Spot → Value → ContextReader Value
  none_there s found k = cond (missing found) (Err (record { fault = record { kind = kind.BadType; bit = s.place }; meter = k.context.meter })) (told {X = Value × ReadState} (found, k))

  value_metered : IsMetered {X = Value} (attribute_value_at g v name)
  unfolding attribute_value_at none_there
  value_metered s p = bind_metered item (none_there s) (values_are_metered shape a name.id) (λ found. by_missing found (missing found)) s p
    where
      by_missing : (found : Value) (b : Bool) → IsMetered {X = Value} (λ k. cond b (Err (record { fault = record { kind = kind.BadType; bit = s.place }; meter = k.context.meter })) (told {X = Value × ReadState} (found, k)))
      by_missing found true t q = record { charges = []; rest = Err (record { kind = kind.BadType; bit = s.place }); is = λ m. refl }
      by_missing found false t q = pure_metered found t q

  abbrev NoneThere : Spot → Value → Refusing
  NoneThere s found u t f = (missing found ≡ true) × (f ≡ wrong kind.BadType s.place u.meter)

  none_refused : (s : Spot) (found : Value) → IsRefusal {X = Value} a (none_there s found) (NoneThere s found)
  unfolding none_there
  none_refused s found = record { fails = λ u t f octets al h. by_missing u t f (missing found) refl h; again = λ u t f octets al h. rw h.0 (ap (λ (z : Failure). fails z) (sym h.1)) }
    where
      by_missing : (u : Context) (t : Spot) (f : Failure) (b : Bool) → missing found ≡ b → cond b (Err (wrong kind.BadType s.place u.meter)) (told {X = Value × ReadState} (found, read_state t u)) ≡ fails f → NoneThere s found u t f
      by_missing u t f true e h = (e, sym (failure_is (wrong kind.BadType s.place u.meter) f h))
      by_missing u t f false e h = absurd (no_value (found, read_state t u) f h)

  value_refused : IsRefusal {X = Value} a (attribute_value_at g v name) (RefusesAttributeValue g v name)
  unfolding attribute_value_at none_there
  value_refused = start_refusal a (λ s w c. item c >>= λ found. none_there s found.0 found.1) (λ s w. RefusesNext (RefusesValued shape a name.id) (SpellsValued shape a name.id) (NoneThere s))
      (λ s w. next_refusal a item (none_there s) (RefusesValued shape a name.id) (SpellsValued shape a name.id) (NoneThere s) (values_refused shape a name.id) (item_valued shape a name.id) (none_refused s))

  pub value_reads : Reads {X = Value} a (attribute_value_at g v name) (SpellsAttributeValue g v name) (RefusesAttributeValue g v name)
  value_reads = record { refusal = value_refused; item = value_item; goes = value_goes; metered = value_metered }

pub attribute_reads : (g : Setting) (t : Telling) (v : Valuing) → Reads {X = Named × Value} (align_of g.options) (attribute_at g t v) (SpellsAttribute g t v) (RefusesAttribute g t v)
attribute_reads g t v = both_reads (align_of g.options) (told_name_at g t) (λ name. attribute_value_at g v name) (SpellsTold g t) (λ name. SpellsAttributeValue g v name) (RefusesTold g t) (λ name. RefusesAttributeValue g v name) (name_reads g t) (λ name. value_reads g v name)

pub characters_reads : (g : Setting) (r : Representation) (name : NameId) → Reads {X = Value} (align_of g.options) (characters_at g r name) (SpellsCharacters g r name) (RefusesCharacters g r name)
characters_reads g r name = valued_reads r (align_of g.options) name

pub declaration_reads : (a : Align) → Reads {X = Declaration} a (declaration_at a) (SpellsDeclaration a) (RefusesDeclaration a)
declaration_reads a = record { refusal = declaration_refusal a; item = item_declaration a; goes = declaration_goes a; metered = declaration_metered a }

-- ---- texts
pub text_reads : (g : Setting) → Reads {X = List ℕ} (align_of g.options) (text_at g) (SpellsText g) (RefusesText g)
text_reads g = record { refusal = literal_refusal (align_of g.options) no_growth; item = item_literal (align_of g.options) no_growth; goes = literal_goes (align_of g.options) no_growth (λ p text. same_keeps p); metered = literal_metered (align_of g.options) no_growth }

pub two_texts_read : (g : Setting) → Reads {X = List ℕ × List ℕ} (align_of g.options) (two_texts_at g) (SpellsTwoTexts g) (RefusesTwoTexts g)
two_texts_read g = both_reads (align_of g.options) (text_at g) (λ first. text_at g) (SpellsText g) (λ first. SpellsText g) (RefusesText g) (λ first. RefusesText g) (text_reads g) (λ first. text_reads g)

pub four_texts_read : (g : Setting) → Reads {X = (List ℕ × List ℕ) × (List ℕ × List ℕ)} (align_of g.options) (four_texts_at g) (SpellsFourTexts g) (RefusesFourTexts g)
four_texts_read g = both_reads (align_of g.options) (two_texts_at g) (λ first. two_texts_at g) (SpellsTwoTexts g) (λ first. SpellsTwoTexts g) (RefusesTwoTexts g) (λ first. RefusesTwoTexts g) (two_texts_read g) (λ first. two_texts_read g)
