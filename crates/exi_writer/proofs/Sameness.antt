-- What is read of an event that was written is the event that was given.
use Rattle.std.proofs.Common.{◌≡◌, inl, inr, ℕ, Bool, true, false, List, [], ◌∷◌, ◌++◌, Option, Some, None, refl, sym, ap, ◌∙◌, subst}
use Rattle.std.proofs.lemmas.Bool.{cases_Bool}
use Rattle.exi_gram.specs.Switches.{align_of, prefixes}
use Rattle.exi_lexical.specs.Values.{value}
use Rattle.exi_names.specs.Datatypes.{Representation}
use Rattle.exi_names.specs.declared.names.NameId.{NameId}
use Rattle.exi_names.specs.declared.names.QName.{QName}
use Rattle.exi_names.specs.Events.{Happening}
use Rattle.exi_names.specs.Events as event
use Rattle.exi_names.specs.Seen.{Value}
use Rattle.exi_names.specs.Seen as shape
use Rattle.exi_tables.specs.Partitions.{Partitions}
use Rattle.exi_typed.specs.Strings.{Declaration, Named}
use Rattle.exi_processing.specs.Changes.{innermost}
use Rattle.exi_processing.specs.Configurations.{Config, Setting}
use Rattle.exi_processing.specs.Contents.{acts_as_type, is_missing, represented_by}
use Rattle.exi_processing.specs.Plans.{nowhere, plan_on}
use Rattle.exi_processing.specs.Rules.{Rule, Telling, Terminal, Valuing, attribute, characters, comment, declaration, document_type, element, end_document, end_element, entity, instruction, known, self_contained, spelled, start_document, under}
use Rattle.exi_writing.specs.Contents.{at_parts, attribute_by, attribute_value, ch_value, cm_text, dt_parts, er_name, four_texts, is_ed, is_ee, is_sc, is_sd, ns_parts, of, pi_parts, se_name, text, text_of, told_name, two_texts, type_value, valued, written_on}
use Rattle.exi_writing.specs.Pieces as piece
use Rattle.exi_writing.specs.Pieces.{Piece, Writing, both_by, if_spelled}
use Rattle.exi_writer.specs.Same.{IsSame, IsSameValue, IsTypedBy, IsValueOf}

-- ---- of which kind an event is
abbrev IsFor : {A : Type 0} → Option A → (A → Type 0) → Type 0
IsFor None P = Unit {0}
IsFor (Some a) P = P a

record Kinds (e : Happening) : Type 0 where
  sd : IsFor (is_sd e) (λ x. e ≡ event.sd)
  ed : IsFor (is_ed e) (λ x. e ≡ event.ed)
  se : IsFor (se_name e) (λ n. e ≡ event.se n)
  ee : IsFor (is_ee e) (λ x. e ≡ event.ee)
  at : IsFor (at_parts e) (λ x. e ≡ event.at x.0 x.1)
  ch : IsFor (ch_value e) (λ v. e ≡ event.ch v)
  ns : IsFor (ns_parts e) (λ d. e ≡ event.ns d.uri d.prefix d.element)
  sc : IsFor (is_sc e) (λ x. (byte : ℕ) × (e ≡ event.sc byte))
  cm : IsFor (cm_text e) (λ t. e ≡ event.cm t)
  pi : IsFor (pi_parts e) (λ x. e ≡ event.pi x.0 x.1)
  dt : IsFor (dt_parts e) (λ x. e ≡ event.dt x.0.0 x.0.1 x.1.0 x.1.1)
  er : IsFor (er_name e) (λ n. e ≡ event.er n)

kinds : (e : Happening) → Kinds e
kinds event.sd = record { sd = refl; ed = tt; se = tt; ee = tt; at = tt; ch = tt; ns = tt; sc = tt; cm = tt; pi = tt; dt = tt; er = tt }
kinds event.ed = record { sd = tt; ed = refl; se = tt; ee = tt; at = tt; ch = tt; ns = tt; sc = tt; cm = tt; pi = tt; dt = tt; er = tt }
kinds (event.se n) = record { sd = tt; ed = tt; se = refl; ee = tt; at = tt; ch = tt; ns = tt; sc = tt; cm = tt; pi = tt; dt = tt; er = tt }
kinds event.ee = record { sd = tt; ed = tt; se = tt; ee = refl; at = tt; ch = tt; ns = tt; sc = tt; cm = tt; pi = tt; dt = tt; er = tt }
kinds (event.at n v) = record { sd = tt; ed = tt; se = tt; ee = tt; at = refl; ch = tt; ns = tt; sc = tt; cm = tt; pi = tt; dt = tt; er = tt }
kinds (event.ch v) = record { sd = tt; ed = tt; se = tt; ee = tt; at = tt; ch = refl; ns = tt; sc = tt; cm = tt; pi = tt; dt = tt; er = tt }
kinds (event.ns uri prefix own) = record { sd = tt; ed = tt; se = tt; ee = tt; at = tt; ch = tt; ns = refl; sc = tt; cm = tt; pi = tt; dt = tt; er = tt }
kinds (event.sc byte) = record { sd = tt; ed = tt; se = tt; ee = tt; at = tt; ch = tt; ns = tt; sc = (byte, refl); cm = tt; pi = tt; dt = tt; er = tt }
kinds (event.cm t) = record { sd = tt; ed = tt; se = tt; ee = tt; at = tt; ch = tt; ns = tt; sc = tt; cm = refl; pi = tt; dt = tt; er = tt }
kinds (event.pi target t) = record { sd = tt; ed = tt; se = tt; ee = tt; at = tt; ch = tt; ns = tt; sc = tt; cm = tt; pi = refl; dt = tt; er = tt }
kinds (event.dt n public system t) = record { sd = tt; ed = tt; se = tt; ee = tt; at = tt; ch = tt; ns = tt; sc = tt; cm = tt; pi = tt; dt = refl; er = tt }
kinds (event.er n) = record { sd = tt; ed = tt; se = tt; ee = tt; at = tt; ch = tt; ns = tt; sc = tt; cm = tt; pi = tt; dt = tt; er = refl }

is_for : {A : Type 0} (o : Option A) (P : A → Type 0) (a : A) → IsFor o P → o ≡ Some a → P a
is_for {A} o P a k h = subst (λ (z : Option A). IsFor z P) h k

-- ---- pieces
item_of : {X : Type 0} (a b : Piece X) → Some a ≡ Some b → b.item ≡ a.item
item_of {X} a b e = cc

item_if : {X : Type 0} (b : Bool) (a w : Piece X) → if_spelled b a ≡ Some w → w.item ≡ a.item
item_if {X} true a w e = item_of a w e
item_if {X} false a w e = absurd cc

of_parts : {A X : Type 0} (o : Option A) (write : A → Writing X) (p : Partitions) (w : Piece X) → of o write p ≡ Some w → (x : A) × (o ≡ Some x) × (write x p ≡ Some w)
of_parts {A} {X} None write p w e = absurd cc
of_parts {A} {X} (Some x) write p w e = (x, refl, e)

turned_item : {X Y : Type 0} (f : X → Y) (o : Option (Piece X)) (w : Piece Y) → piece.turned f o ≡ Some w → (v : Piece X) × (o ≡ Some v) × (w.item ≡ f v.item)
turned_item {X} {Y} f None w e = absurd cc
turned_item {X} {Y} f (Some v) w e = (v, refl, item_of (record { item = f v.item; bits = v.bits; tables = v.tables; units = v.units }) w e)

record Both {X Y : Type 0} (one : Option (Piece X)) (two : X → Writing Y) (w : Piece (X × Y)) : Type 0 where
  first : Piece X
  first_is : one ≡ Some first
  second : Piece Y
  second_is : two first.item first.tables ≡ Some second
  is : w.item ≡ (first.item, second.item)

joined_item : {X Y : Type 0} (two : X → Writing Y) (f : Piece X) (o : Option (Piece Y)) (w : Piece (X × Y)) → two f.item f.tables ≡ o → piece.joined f o ≡ Some w → Both (Some f) two w
joined_item {X} {Y} two f None w is e = absurd cc
joined_item {X} {Y} two f (Some s) w is e = record { first = f; first_is = refl; second = s; second_is = is; is = item_of (record { item = (f.item, s.item); bits = f.bits ++ s.bits; tables = s.tables; units = f.units ++ s.units }) w e }

both_item : {X Y : Type 0} (two : X → Writing Y) (o : Option (Piece X)) (w : Piece (X × Y)) → both_by two o ≡ Some w → Both o two w
both_item {X} {Y} two None w e = absurd cc
both_item {X} {Y} two (Some f) w e = joined_item two f (two f.item f.tables) w refl e

-- ---- names, texts and values
told_item : (g : Setting) (t : Telling) (n : QName) (p : Partitions) (w : Piece Named) → told_name g t n p ≡ Some w → w.item.name ≡ n
told_item g spelled n p w e = ap (λ (z : Named). z.name) (item_if _ _ w e)
told_item g (under uri) n p w e = ap (λ (z : Named). z.name) (item_if _ _ w e)
told_item g (known id) n p w e = ap (λ (z : Named). z.name) (item_if _ _ w e)

text_item : (g : Setting) (x : List ℕ) (p : Partitions) (w : Piece (List ℕ)) → text g x p ≡ Some w → w.item ≡ x
text_item g x p w e = item_if _ _ w e

two_item : (g : Setting) (x : List ℕ × List ℕ) (p : Partitions) (w : Piece (List ℕ × List ℕ)) → two_texts g x p ≡ Some w → (w.item.0 ≡ x.0) × (w.item.1 ≡ x.1)
two_item g x p w e =
    let k = both_item (λ (first : List ℕ). text g x.1) (text g x.0 p) w e in
    (ap (λ (z : List ℕ × List ℕ). z.0) k.is ∙ text_item g x.0 p k.first k.first_is, ap (λ (z : List ℕ × List ℕ). z.1) k.is ∙ text_item g x.1 k.first.tables k.second k.second_is)

-- of the datatype
valued_item : (g : Setting) (r : Representation) (name : NameId) (v : Value) (p : Partitions) (w : Piece Value) → valued g r name v p ≡ Some w → IsValueOf r v w.item
valued_item g r name v p w e =
    let o = of_parts (text_of v) (λ (t : List ℕ). of (value r t) (piece.value r (align_of g.options) name)) p w e in
    let u = of_parts (value r o.0) (piece.value r (align_of g.options) name) p w o.2 in
    (o.0, o.1, u.1 ∙ ap (λ (x : Value). Some x) (sym (item_if _ _ w u.2)))

unit_item : (o : Option (Piece Named)) (w : Piece Named) → piece.with_unit o ≡ Some w → (v : Piece Named) × (o ≡ Some v) × (w.item ≡ v.item)
unit_item None w e = absurd cc
unit_item (Some v) w e = (v, refl, item_of (record v { units = 1 ∷ v.units }) w e)

type_item : (Stands : Value → Value → Type 0) (g : Setting) (v : Value) (p : Partitions) (w : Piece Value) → type_value g v p ≡ Some w → IsSameValue Stands v w.item
type_item Stands g (shape.name n) p w e =
    let t = turned_item (λ (x : Named). shape.name x.name) (piece.name_value (prefixes g.options) (align_of g.options) n p) w e in
    let u = unit_item (piece.name (prefixes g.options) (align_of g.options) n p) t.0 t.1 in
    t.2 ∙ (ap (λ (x : Named). shape.name x.name) u.2 ∙ ap (λ (x : Named). shape.name x.name) (item_if _ _ u.0 u.1))
type_item Stands g (shape.text t) p w e = absurd cc
type_item Stands g (shape.boolean truth digit) p w e = absurd cc
type_item Stands g (shape.integer n) p w e = absurd cc
type_item Stands g (shape.decimal minus whole back) p w e = absurd cc
type_item Stands g (shape.float mantissa exponent) p w e = absurd cc
type_item Stands g (shape.moment m) p w e = absurd cc
type_item Stands g (shape.binary hex octets) p w e = absurd cc
type_item Stands g (shape.items vs) p w e = absurd cc

-- a name has no text
same_value : (Stands : Value → Value → Type 0) (r : Representation) (v u : Value) → IsValueOf r v u → Stands v u → IsSameValue Stands v u
same_value Stands r (shape.name n) u h k = absurd (let f = h.1 in cc)
same_value Stands r (shape.text t) u h k = k
same_value Stands r (shape.boolean truth digit) u h k = k
same_value Stands r (shape.integer n) u h k = k
same_value Stands r (shape.decimal minus whole back) u h k = k
same_value Stands r (shape.float mantissa exponent) u h k = k
same_value Stands r (shape.moment m) u h k = k
same_value Stands r (shape.binary hex octets) u h k = k
same_value Stands r (shape.items vs) u h k = k

attribute_item : (Stands : Value → Value → Type 0) (g : Setting) (u : Valuing) (name : Named) (v : Value) (p : Partitions) (w : Piece Value) → (IsValueOf (represented_by g u name) v w.item → Stands v w.item) → attribute_value g u name v p ≡ Some w → IsSameValue Stands v w.item
attribute_item Stands g u name v p w typed e = elim (cases_Bool (acts_as_type u name.id)) [
  | inl h ↦ elim (cases_Bool (is_missing g u name.id v)) [
    | inl k ↦ absurd (let f = rw (k, h) at e in cc)
    | inr k ↦ type_item Stands g v p w (rw (k, h) at e)
  ]
  | inr h ↦
      let is = valued_item g (represented_by g u name) name.id v p w (rw h at e) in
      same_value Stands (represented_by g u name) v w.item is (typed is)
]

-- ---- every production, outside of a fragment's own events
pub record Seen (Stands : Value → Value → Type 0) (e : Happening) (o : Option Happening) : Type 0 where
  pub event : Happening
  pub is : o ≡ Some event
  pub same : IsSame Stands e event

seen_of : (Stands : Happening → Value → Value → Type 0) (e f x : Happening) → e ≡ f → IsSame (Stands f) f x → Seen (Stands e) e (Some x)
seen_of Stands e f x is h = record { event = x; is = refl; same = subst (λ (z : Happening). IsSame (Stands z) z x) (sym is) h }

sc_same : (Stands : Value → Value → Type 0) (e x : Happening) → ((byte : ℕ) × (e ≡ event.sc byte)) → ((place : ℕ) × (x ≡ event.sc place)) → IsSame Stands e x
sc_same Stands e x h k = subst (λ (z : Happening). IsSame Stands z x) (sym h.1) k

pub same_on : (g : Setting) (c d : Config) (r : Rule) (t : Terminal) (e : Happening) (p : Partitions) (w : Piece (plan_on g nowhere c r t).Item) → written_on g nowhere c r t e p ≡ Some w → Seen (IsTypedBy g p t e) e ((plan_on g nowhere c r t).make w.item d).0
same_on g c d r start_document e p w h =
    let o = of_parts (is_sd e) (λ x. piece.as_bits x []) p w h in
    seen_of (IsTypedBy g p start_document) e event.sd event.sd (is_for (is_sd e) _ o.0 (kinds e).sd o.1) refl
same_on g c d r end_document e p w h =
    let o = of_parts (is_ed e) (λ x. piece.as_bits x []) p w h in
    seen_of (IsTypedBy g p end_document) e event.ed event.ed (is_for (is_ed e) _ o.0 (kinds e).ed o.1) refl
same_on g c d r (element t) e p w h =
    let o = of_parts (se_name e) (told_name g t) p w h in
    seen_of (IsTypedBy g p (element t)) e (event.se o.0) (event.se w.item.name) (is_for (se_name e) _ o.0 (kinds e).se o.1) (ap (λ (n : QName). event.se n) (told_item g t o.0 p w o.2))
same_on g c d r (attribute t u) e p w h =
    let o = of_parts (at_parts e) (attribute_by g t u) p w h in
    let k = both_item (λ (name : Named). attribute_value g u name o.0.1) (told_name g t o.0.0 p) w o.2 in
    let Stands : Value → Value → Type 0 = IsTypedBy g p (attribute t u) (event.at o.0.0 o.0.1) in
    let v = attribute_item Stands g u k.first.item o.0.1 k.first.tables k.second (λ is. (represented_by g u k.first.item, (k.first, k.first_is, refl), is)) k.second_is in
    let named : w.item.0.name ≡ o.0.0 = ap (λ (z : Named × Value). z.0.name) k.is ∙ told_item g t o.0.0 p k.first k.first_is in
    let value : k.second.item ≡ w.item.1 = ap (λ (z : Named × Value). z.1) (sym k.is) in
    seen_of (IsTypedBy g p (attribute t u)) e (event.at o.0.0 o.0.1) (event.at w.item.0.name w.item.1) (is_for (at_parts e) _ o.0 (kinds e).at o.1)
    (w.item.1, subst (λ (x : Value). IsSameValue Stands o.0.1 x) value v, ap (λ (n : QName). event.at n w.item.1) named)
same_on g c d r (characters k) e p w h =
    let o = of_parts (ch_value e) (valued g k (innermost c.elements)) p w h in
    seen_of (IsTypedBy g p (characters k)) e (event.ch o.0) (event.ch w.item) (is_for (ch_value e) _ o.0 (kinds e).ch o.1) (w.item, (k, refl, valued_item g k (innermost c.elements) o.0 p w o.2), refl)
same_on g c d r end_element e p w h =
    let o = of_parts (is_ee e) (λ x. piece.as_bits x []) p w h in
    seen_of (IsTypedBy g p end_element) e event.ee event.ee (is_for (is_ee e) _ o.0 (kinds e).ee o.1) refl
same_on g c d r declaration e p w h =
    let o = of_parts (ns_parts e) (piece.declaration (align_of g.options)) p w h in
    seen_of (IsTypedBy g p declaration) e (event.ns o.0.uri o.0.prefix o.0.element) (event.ns w.item.uri w.item.prefix w.item.element) (is_for (ns_parts e) _ o.0 (kinds e).ns o.1) (ap (λ (z : Declaration). event.ns z.uri z.prefix z.element) (item_if _ _ w o.2))
same_on g c d r self_contained e p w h =
    let o = of_parts (is_sc e) (λ x. piece.as_bits x []) p w h in
    record { event = _; is = refl; same = sc_same (IsTypedBy g p self_contained e) e _ (is_for (is_sc e) _ o.0 (kinds e).sc o.1) (_, refl) }
same_on g c d r comment e p w h =
    let o = of_parts (cm_text e) (text g) p w h in
    seen_of (IsTypedBy g p comment) e (event.cm o.0) (event.cm w.item) (is_for (cm_text e) _ o.0 (kinds e).cm o.1) (ap (λ (x : List ℕ). event.cm x) (text_item g o.0 p w o.2))
same_on g c d r instruction e p w h =
    let o = of_parts (pi_parts e) (two_texts g) p w h in
    let k = two_item g o.0 p w o.2 in
    seen_of (IsTypedBy g p instruction) e (event.pi o.0.0 o.0.1) (event.pi w.item.0 w.item.1) (is_for (pi_parts e) _ o.0 (kinds e).pi o.1) (ap (λ (x : List ℕ). event.pi x w.item.1) k.0 ∙ ap (λ (x : List ℕ). event.pi o.0.0 x) k.1)
same_on g c d r document_type e p w h =
    let o = of_parts (dt_parts e) (four_texts g) p w h in
    let k = both_item (λ (first : List ℕ × List ℕ). two_texts g o.0.1) (two_texts g o.0.0 p) w o.2 in
    let one = two_item g o.0.0 p k.first k.first_is in
    let two = two_item g o.0.1 k.first.tables k.second k.second_is in
    let is : event.dt w.item.0.0 w.item.0.1 w.item.1.0 w.item.1.1 ≡ event.dt o.0.0.0 o.0.0.1 o.0.1.0 o.0.1.1 =
    ap (λ (z : (List ℕ × List ℕ) × (List ℕ × List ℕ)). event.dt z.0.0 z.0.1 z.1.0 z.1.1) k.is ∙ rw (one.0, one.1, two.0, two.1) refl in
    seen_of (IsTypedBy g p document_type) e (event.dt o.0.0.0 o.0.0.1 o.0.1.0 o.0.1.1) (event.dt w.item.0.0 w.item.0.1 w.item.1.0 w.item.1.1) (is_for (dt_parts e) _ o.0 (kinds e).dt o.1) is
same_on g c d r entity e p w h =
    let o = of_parts (er_name e) (text g) p w h in
    seen_of (IsTypedBy g p entity) e (event.er o.0) (event.er w.item) (is_for (er_name e) _ o.0 (kinds e).er o.1) (ap (λ (x : List ℕ). event.er x) (text_item g o.0 p w o.2))

-- ---- where what stands for a value is known better
value_map : (A B : Value → Value → Type 0) → ((v u : Value) → A v u → B v u) → (v u : Value) → IsSameValue A v u → IsSameValue B v u
value_map A B f (shape.name n) u h = h
value_map A B f (shape.text t) u h = f (shape.text t) u h
value_map A B f (shape.boolean truth digit) u h = f (shape.boolean truth digit) u h
value_map A B f (shape.integer n) u h = f (shape.integer n) u h
value_map A B f (shape.decimal minus whole back) u h = f (shape.decimal minus whole back) u h
value_map A B f (shape.float mantissa exponent) u h = f (shape.float mantissa exponent) u h
value_map A B f (shape.moment m) u h = f (shape.moment m) u h
value_map A B f (shape.binary hex octets) u h = f (shape.binary hex octets) u h
value_map A B f (shape.items vs) u h = f (shape.items vs) u h

pub same_map : (A B : Value → Value → Type 0) → ((v u : Value) → A v u → B v u) → (e d : Happening) → IsSame A e d → IsSame B e d
same_map A B f event.sd d h = h
same_map A B f event.ed d h = h
same_map A B f (event.se n) d h = h
same_map A B f event.ee d h = h
same_map A B f (event.at n v) d h = (h.0, value_map A B f v h.0 h.1, h.2)
same_map A B f (event.ch v) d h = (h.0, f v h.0 h.1, h.2)
same_map A B f (event.ns uri prefix own) d h = h
same_map A B f (event.sc byte) d h = h
same_map A B f (event.cm t) d h = h
same_map A B f (event.pi target t) d h = h
same_map A B f (event.dt n public system t) d h = h
same_map A B f (event.er n) d h = h

pub seen_map : (A B : Value → Value → Type 0) → ((v u : Value) → A v u → B v u) → (e : Happening) (o : Option Happening) → Seen A e o → Seen B e o
seen_map A B f e o s = record { event = s.event; is = s.is; same = same_map A B f e s.event s.same }
