-- What a production writes of an event is a spelling of its content.
use Rattle.std.proofs.Common.{◌≡◌, ℕ, true, List, [], ◌++◌, Option, Some, None, refl, sym, ap, ◌∙◌, subst, inl, inr}
use Rattle.std.proofs.lemmas.Bool.{cases_Bool}
use Rattle.exi_gram.specs.Switches.{align_of, prefixes}
use Rattle.exi_lexical.specs.Values.{value}
use Rattle.exi_lexical.proofs.Again.{value_kept}
use Rattle.exi_names.specs.Datatypes.{Representation}
use Rattle.exi_names.specs.declared.names.NameId.{NameId}
use Rattle.exi_names.specs.declared.names.QName.{QName}
use Rattle.exi_names.specs.Events.{Happening}
use Rattle.exi_names.specs.Seen.{Value}
use Rattle.exi_names.specs.Seen as shape
use Rattle.exi_tables.specs.Growth.{IsSound}
use Rattle.exi_tables.specs.Partitions.{Partitions}
use Rattle.exi_typed.specs.Items.{SpellsItem, qualified}
use Rattle.exi_typed.specs.Laws.{Spelling}
use Rattle.exi_typed.specs.Strings.{Declaration, Named}
use Rattle.exi_typed.specs.WrittenLaws.{IsWritten}
use Rattle.exi_typed.proofs.WrittenSpelled.{written_then}
use Rattle.exi_processing.specs.Changes.{innermost}
use Rattle.exi_processing.specs.Configurations.{Config, Setting}
use Rattle.exi_values.specs.Spelled.{SpellsValued}
use Rattle.exi_processing.specs.Contents.{SpellsAttributeValue, SpellsBoth, SpellsFourTexts, SpellsNothing, SpellsText, SpellsTold, SpellsTwoTexts, acts_as_type, is_missing, represented_by}
use Rattle.exi_processing.specs.Contents as contents
use Rattle.exi_processing.specs.Plans.{Alone, Plan, plan_on}
use Rattle.exi_processing.specs.Rules.{Rule, Telling, Terminal, Valuing, attribute, by_name, characters, comment, declaration, document_type, element, end_document, end_element, entity, instruction, known, self_contained, spelled, start_document, typed, under, untyped}
use Rattle.exi_writing.specs.Contents.{at_parts, attribute_by, attribute_value, ch_value, cm_text, dt_parts, er_name, four_texts, is_ed, is_ee, is_sc, is_sd, nothing, ns_parts, of, pi_parts, se_name, text, text_of, told_name, two_texts, type_value, valued, written_on}
use Rattle.exi_writing.specs.Pieces as piece
use Rattle.exi_writing.specs.Pieces.{Piece, Writing, as_bits, both, both_by}
use Rattle.exi_writing.proofs.Leaves.{Fits, declaration_fits, known_fits, literal_fits, name_fits, name_value_fits, name_value_item, piece_is, under_fits, value_fits}

-- ---- one behind another
record BothBy {X Y : Type 0} (two : X → Writing Y) (f : Piece X) (w : Piece (X × Y)) : Type 0 where
  second : Piece Y
  second_is : two f.item f.tables ≡ Some second
  is : w ≡ record { item = (f.item, second.item); bits = f.bits ++ second.bits; tables = second.tables; units = f.units ++ second.units }

joined_parts : {X Y : Type 0} (two : X → Writing Y) (f : Piece X) (o : Option (Piece Y)) (w : Piece (X × Y)) → two f.item f.tables ≡ o → piece.joined f o ≡ Some w → BothBy two f w
joined_parts two f None w e h = absurd cc
joined_parts two f (Some s) w e h = record { second = s; second_is = e; is = sym (piece_is _ w h) }

both_parts : {X Y : Type 0} (two : X → Writing Y) (o : Option (Piece X)) (w : Piece (X × Y)) → both_by two o ≡ Some w → (f : Piece X) × (o ≡ Some f) × BothBy two f w
both_parts two None w e = absurd cc
both_parts two (Some f) w e = (f, refl, joined_parts two f (two f.item f.tables) w refl e)

both_fit : {X Y : Type 0} (One : Spelling X) (Two : X → Spelling Y) (one : Writing X) (two : X → Writing Y) (p : Partitions) (w : Piece (X × Y))
    → ((f : Piece X) → one p ≡ Some f → Fits One p f)
    → ((x : X) (q : Partitions) (s : Piece Y) → IsSound q.values → two x q ≡ Some s → Fits (Two x) q s)
    → both one two p ≡ Some w → Fits (SpellsBoth One Two) p w
both_fit {X} {Y} One Two one two p w first_fits second_fits e =
    let k = both_parts two (one p) w e in
    let f = k.0 in
    let ff = first_fits f k.1 in
    let s = k.2.second in
    let sf = second_fits f.item f.tables s ff.sound k.2.second_is in
    rw k.2.is record {
      written = (let t = written_then (One f.item) (Two f.item s.item) f.units s.units p f.tables s.tables f.bits s.bits ff.written sf.written in record { charges = t.charges; are = t.are; spelled = t.spelled });
      sound = sf.sound;
    }

-- of nothing, nothing is written
of_parts : {A X : Type 0} (o : Option A) (write : A → Writing X) (p : Partitions) (w : Piece X) → of o write p ≡ Some w → (x : A) × (o ≡ Some x) × (write x p ≡ Some w)
of_parts {A} {X} None write p w e = absurd cc
of_parts {A} {X} (Some x) write p w e = (x, refl, e)

-- the same bits, of another thing
turned_parts : {X Y : Type 0} (f : X → Y) (o : Option (Piece X)) (w : Piece Y) → piece.turned f o ≡ Some w → (v : Piece X) × (o ≡ Some v) × (w ≡ record { item = f v.item; bits = v.bits; tables = v.tables; units = v.units })
turned_parts {X} {Y} f None w e = absurd cc
turned_parts {X} {Y} f (Some v) w e = (v, refl, sym (piece_is _ w e))

nothing_fits : (o : Option (Unit {0})) (p : Partitions) (w : Piece (Unit {0})) → IsSound p.values → nothing o p ≡ Some w → Fits SpellsNothing p w
nothing_fits None p w sound e = absurd cc
nothing_fits (Some x) p w sound e =
    let is = piece_is (record { item = x; bits = []; tables = p; units = [] }) w e in
    rw (← is) record { written = record { charges = []; are = refl; spelled = record { bits = refl; charges = refl; after = refl } }; sound = sound }

told_fits : (g : Setting) (t : Telling) (n : QName) (p : Partitions) (w : Piece Named) → IsSound p.values → told_name g t n p ≡ Some w → Fits (SpellsTold g t) p w
told_fits g spelled n p w sound e =
    let k = name_fits (prefixes g.options) (align_of g.options) n p w sound e in
    record { written = record { charges = k.written.charges; are = k.written.are; spelled = k.written.spelled }; sound = k.sound }
told_fits g (under uri) n p w sound e =
    let k = under_fits (prefixes g.options) (align_of g.options) uri n p w sound e in
    record { written = record { charges = k.written.charges; are = k.written.are; spelled = k.written.spelled }; sound = k.sound }
told_fits g (known id) n p w sound e =
    let k = known_fits (prefixes g.options) (align_of g.options) id n p w sound e in
    record { written = record { charges = k.written.charges; are = k.written.are; spelled = k.written.spelled }; sound = k.sound }

-- ---- values
-- the value that the text has is of the datatype's form
valued_fits : (g : Setting) (r : Representation) (name : NameId) (v : Value) (p : Partitions) (w : Piece Value) → IsSound p.values → valued g r name v p ≡ Some w → Fits (SpellsValued r (align_of g.options) name) p w
valued_fits g r name v p w sound e =
    let t = of_parts (text_of v) (λ (t : List ℕ). of (value r t) (piece.value r (align_of g.options) name)) p w e in
    let x = of_parts (value r t.0) (piece.value r (align_of g.options) name) p w t.2 in
    value_fits r (align_of g.options) name x.0 p w (value_kept r t.0 x.0 x.1).of sound x.2

type_fits : (g : Setting) (name : NameId) (v : Value) (p : Partitions) (w : Piece Value) → IsSound p.values → type_value g v p ≡ Some w → Fits (SpellsItem (qualified (prefixes g.options)) (align_of g.options) name) p w
type_fits g name (shape.name n) p w sound e =
    let t = turned_parts (λ (x : Named). shape.name x.name) (piece.name_value (prefixes g.options) (align_of g.options) n p) w e in
    let k = name_value_fits (prefixes g.options) (align_of g.options) n p t.0 sound t.1 in
    rw t.2 record { written = record { charges = k.written.charges; are = k.written.are; spelled = record { name = t.0.item; is = refl; spelled = k.written.spelled } }; sound = k.sound }
type_fits g name (shape.text t) p w sound e = absurd cc
type_fits g name (shape.boolean truth digit) p w sound e = absurd cc
type_fits g name (shape.integer n) p w sound e = absurd cc
type_fits g name (shape.decimal minus whole back) p w sound e = absurd cc
type_fits g name (shape.float mantissa exponent) p w sound e = absurd cc
type_fits g name (shape.moment m) p w sound e = absurd cc
type_fits g name (shape.binary hex octets) p w sound e = absurd cc
type_fits g name (shape.items vs) p w sound e = absurd cc

-- the name that is written is the one that was given
type_item : (g : Setting) (v : Value) (p : Partitions) (w : Piece Value) → type_value g v p ≡ Some w → w.item ≡ v
type_item g (shape.name n) p w e =
    let t = turned_parts (λ (x : Named). shape.name x.name) (piece.name_value (prefixes g.options) (align_of g.options) n p) w e in
    rw t.2 (ap (λ (m : QName). shape.name m) (name_value_item (prefixes g.options) (align_of g.options) n p t.0 t.1))
type_item g (shape.text t) p w e = absurd cc
type_item g (shape.boolean truth digit) p w e = absurd cc
type_item g (shape.integer n) p w e = absurd cc
type_item g (shape.decimal minus whole back) p w e = absurd cc
type_item g (shape.float mantissa exponent) p w e = absurd cc
type_item g (shape.moment m) p w e = absurd cc
type_item g (shape.binary hex octets) p w e = absurd cc
type_item g (shape.items vs) p w e = absurd cc

-- where an attribute acts as xsi:type its value is a name
represented_type : (g : Setting) (v : Valuing) (name : Named) → acts_as_type v name.id ≡ true → represented_by g v name ≡ contents.type_value g
represented_type g untyped name h = rw h refl
represented_type g (typed r) name h = absurd cc
represented_type g by_name name h = rw h refl

attribute_value_fits : (g : Setting) (v : Valuing) (name : Named) (x : Value) (p : Partitions) (w : Piece Value) → IsSound p.values → attribute_value g v name x p ≡ Some w → Fits (SpellsAttributeValue g v name) p w
attribute_value_fits g v name x p w sound e = elim (cases_Bool (acts_as_type v name.id)) [
  | inl h ↦ elim (cases_Bool (is_missing g v name.id x)) [
    | inl k ↦ absurd (let f = rw (k, h) at e in cc)
    | inr k ↦
        let written : type_value g x p ≡ Some w = rw (k, h) at e in
        let tf = type_fits g name.id x p w sound written in
        record {
          written = record {
            charges = tf.written.charges;
            are = tf.written.are;
            spelled = record {
              there = ap (is_missing g v name.id) (type_item g x p w written) ∙ k;
              spelled = subst (λ (r : Representation). SpellsValued r (align_of g.options) name.id w.item p w.tables tf.written.charges w.bits) (sym (represented_type g v name h)) tf.written.spelled;
            };
          };
          sound = tf.sound;
        }
  ]
  | inr h ↦
      let vf = valued_fits g (represented_by g v name) name.id x p w sound (rw h at e) in
      record { written = record { charges = vf.written.charges; are = vf.written.are; spelled = record { there = rw h refl; spelled = vf.written.spelled } }; sound = vf.sound }
]

-- ---- texts
text_fits_in : (g : Setting) (x : List ℕ) (p : Partitions) (w : Piece (List ℕ)) → IsSound p.values → text g x p ≡ Some w → Fits (SpellsText g) p w
text_fits_in g x p w sound e =
    let k = literal_fits (align_of g.options) x p w sound e in
    record { written = record { charges = k.written.charges; are = k.written.are; spelled = k.written.spelled }; sound = k.sound }

two_fit : (g : Setting) (x : List ℕ × List ℕ) (p : Partitions) (w : Piece (List ℕ × List ℕ)) → IsSound p.values → two_texts g x p ≡ Some w → Fits (SpellsTwoTexts g) p w
two_fit g x p w sound e =
    let k = both_fit (SpellsText g) (λ y. SpellsText g) (text g x.0) (λ y. text g x.1) p w (λ f is. text_fits_in g x.0 p f sound is) (λ y q s s_sound is. text_fits_in g x.1 q s s_sound is) e in
    record { written = record { charges = k.written.charges; are = k.written.are; spelled = k.written.spelled }; sound = k.sound }

four_fit : (g : Setting) (x : (List ℕ × List ℕ) × (List ℕ × List ℕ)) (p : Partitions) (w : Piece ((List ℕ × List ℕ) × (List ℕ × List ℕ))) → IsSound p.values → four_texts g x p ≡ Some w → Fits (SpellsFourTexts g) p w
four_fit g x p w sound e =
    let k = both_fit (SpellsTwoTexts g) (λ y. SpellsTwoTexts g) (two_texts g x.0) (λ y. two_texts g x.1) p w (λ f is. two_fit g x.0 p f sound is) (λ y q s s_sound is. two_fit g x.1 q s s_sound is) e in
    record { written = record { charges = k.written.charges; are = k.written.are; spelled = k.written.spelled }; sound = k.sound }

-- ---- every production
pub record IsContent (plan : Plan) (p : Partitions) (w : Piece plan.Item) : Type 0 where
  pub written : IsWritten (plan.Spells w.item) w.units p w.tables w.bits
  pub sound : IsSound w.tables.values

pub contents_agree : (g : Setting) (a : Alone) (c : Config) (r : Rule) (t : Terminal) (e : Happening) (p : Partitions) (w : Piece (plan_on g a c r t).Item) → IsSound p.values → written_on g a c r t e p ≡ Some w → IsContent (plan_on g a c r t) p w
contents_agree g a c r start_document e p w sound h =
    let k = nothing_fits (is_sd e) p w sound h in
    record { written = record { charges = k.written.charges; are = k.written.are; spelled = k.written.spelled }; sound = k.sound }
contents_agree g a c r end_document e p w sound h =
    let k = nothing_fits (is_ed e) p w sound h in
    record { written = record { charges = k.written.charges; are = k.written.are; spelled = k.written.spelled }; sound = k.sound }
contents_agree g a c r (element t) e p w sound h =
    let o = of_parts (se_name e) (told_name g t) p w h in
    let k = told_fits g t o.0 p w sound o.2 in
    record { written = record { charges = k.written.charges; are = k.written.are; spelled = k.written.spelled }; sound = k.sound }
contents_agree g a c r (attribute t v) e p w sound h =
    let o = of_parts (at_parts e) (attribute_by g t v) p w h in
    let k = both_fit (SpellsTold g t) (λ name. SpellsAttributeValue g v name) (told_name g t o.0.0) (λ name. attribute_value g v name o.0.1) p w (λ f is. told_fits g t o.0.0 p f sound is) (λ y q s s_sound is. attribute_value_fits g v y o.0.1 q s s_sound is) o.2 in
    record { written = record { charges = k.written.charges; are = k.written.are; spelled = k.written.spelled }; sound = k.sound }
contents_agree g a c r (characters d) e p w sound h =
    let o = of_parts (ch_value e) (valued g d (innermost c.elements)) p w h in
    let k = valued_fits g d (innermost c.elements) o.0 p w sound o.2 in
    record { written = record { charges = k.written.charges; are = k.written.are; spelled = k.written.spelled }; sound = k.sound }
contents_agree g a c r end_element e p w sound h =
    let k = nothing_fits (is_ee e) p w sound h in
    record { written = record { charges = k.written.charges; are = k.written.are; spelled = k.written.spelled }; sound = k.sound }
contents_agree g a c r declaration e p w sound h =
    let o = of_parts (ns_parts e) (piece.declaration (align_of g.options)) p w h in
    let k = declaration_fits (align_of g.options) o.0 p w sound o.2 in
    record { written = record { charges = k.written.charges; are = k.written.are; spelled = k.written.spelled }; sound = k.sound }
contents_agree g a c r self_contained e p w sound h =
    let k = nothing_fits (is_sc e) p w sound h in
    record { written = record { charges = k.written.charges; are = k.written.are; spelled = k.written.spelled }; sound = k.sound }
contents_agree g a c r comment e p w sound h =
    let o = of_parts (cm_text e) (text g) p w h in
    let k = text_fits_in g o.0 p w sound o.2 in
    record { written = record { charges = k.written.charges; are = k.written.are; spelled = k.written.spelled }; sound = k.sound }
contents_agree g a c r instruction e p w sound h =
    let o = of_parts (pi_parts e) (two_texts g) p w h in
    let k = two_fit g o.0 p w sound o.2 in
    record { written = record { charges = k.written.charges; are = k.written.are; spelled = k.written.spelled }; sound = k.sound }
contents_agree g a c r document_type e p w sound h =
    let o = of_parts (dt_parts e) (four_texts g) p w h in
    let k = four_fit g o.0 p w sound o.2 in
    record { written = record { charges = k.written.charges; are = k.written.are; spelled = k.written.spelled }; sound = k.sound }
contents_agree g a c r entity e p w sound h =
    let o = of_parts (er_name e) (text g) p w h in
    let k = text_fits_in g o.0 p w sound o.2 in
    record { written = record { charges = k.written.charges; are = k.written.are; spelled = k.written.spelled }; sound = k.sound }
