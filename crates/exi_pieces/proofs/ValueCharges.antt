-- What a value charges, and what it needs to be written.
use Rattle.std.proofs.Common.{◌≡◌, ℕ, ◌+◌, ◌-◌, ◌≤◌, ◌^◌, true, false, List, [], ◌∷◌, ◌++◌, drop, length, refl, sym, ap, ◌∙◌, subst, inl, inr, arith}
use Rattle.std.specs.Prelude.{Ok, Err}
use Rattle.std.proofs.lemmas.Bool.{and_parts, cases_Bool}
use Rattle.std.proofs.lemmas.List.{drop_all}
use Rattle.exi_meter.specs.Metering.{Metering, text_fits, with_text}
use Rattle.exi_names.specs.Datatypes.{Representation}
use Rattle.exi_names.specs.Datatypes as datatype
use Rattle.exi_names.specs.Forms.{AreOf, IsOf, length_of}
use Rattle.exi_names.specs.Seen.{Value, Values, and, no_more, values_of}
use Rattle.exi_names.specs.Seen as value
use Rattle.exi_tables.specs.Partitions.{Partitions}
use Rattle.exi_text.specs.Literals.{all_xml}
use Rattle.exi_toll.specs.Charges.{AreKept, Charged, charge, is_within}
use Rattle.exi_toll.proofs.Charges.{charge_append, charge_none}
use Rattle.exi_values.specs.Stops.{IsRoomy}
use Rattle.exi_values.specs.Written.{has_xml, have_xml, items_among, items_in, items_listed}
use Rattle.exi_values.specs.WrittenLaws.{list_units, row_units, valued_units}
use Rattle.exi_values.specs.WriteStops.{HasRoomFor}
use Rattle.exi_writing.specs.OneEvent.{paid}
use Rattle.exi_writing.specs.Pieces.{can_all_be_valued, can_be_valued}

-- ---- characters
mutual
  pub spelled_xml : (v : Value) → can_be_valued v ≡ true → has_xml v ≡ true
  spelled_xml (value.text x) h = (and_parts _ (all_xml x) h).1
  spelled_xml (value.boolean truth digit) h = refl
  spelled_xml (value.integer n) h = refl
  spelled_xml (value.decimal minus whole back) h = refl
  spelled_xml (value.float mantissa exponent) h = refl
  spelled_xml (value.moment m) h = refl
  spelled_xml (value.binary hex octets) h = refl
  spelled_xml (value.items vs) h = all_spelled_xml vs h
  spelled_xml (value.name n) h = absurd cc

  all_spelled_xml : (vs : Values) → can_all_be_valued vs ≡ true → have_xml vs ≡ true
  all_spelled_xml no_more h = refl
  all_spelled_xml (and v vs) h = let p = and_parts (can_be_valued v) (can_all_be_valued vs) h in rw (spelled_xml v p.0, all_spelled_xml vs p.1) refl

-- ---- charges
-- a loop that charges the items of a list
module _ (item : Representation) (all : List Value) (old : Charged) where
  -- so many are charged: the others lead to the same
  pub record InCharges (i : ℕ) (now : Charged) : Type 0 where
    pub left : charge (row_units (valued_units item) (values_of (drop i all))) now ≡ charge (row_units (valued_units item) (values_of all)) old
    pub form : AreOf item (values_of (drop i all))
    pub spelled : can_all_be_valued (values_of (drop i all)) ≡ true

  pub charges_start : AreOf item (values_of all) → can_all_be_valued (values_of all) ≡ true → InCharges 0 old
  charges_start form spelled = record { left = refl; form = form; spelled = spelled }

  pub charges_end : (i : ℕ) (now : Charged) → InCharges i now → length all ≤ i → now ≡ charge (row_units (valued_units item) (values_of all)) old
  charges_end i now h le = sym (charge_none now) ∙ ap (λ (ws : List Value). charge (row_units (valued_units item) (values_of ws)) now) (sym (drop_all i all le)) ∙ h.left

  module _ (i : ℕ) (now : Charged) (x : Value) (h : InCharges i now) (parts : drop i all ≡ x ∷ drop (i + 1) all) where
    form_here : IsOf item x × AreOf item (values_of (drop (i + 1) all))
    form_here = subst (λ (ws : List Value). AreOf item (values_of ws)) parts h.form

    spelled_here : (can_be_valued x ≡ true) × (can_all_be_valued (values_of (drop (i + 1) all)) ≡ true)
    spelled_here = and_parts (can_be_valued x) (can_all_be_valued (values_of (drop (i + 1) all))) (ap (λ (ws : List Value). can_all_be_valued (values_of ws)) (sym parts) ∙ h.spelled)

    pub item_form : IsOf item x
    item_form = form_here.0

    pub item_spelled : can_be_valued x ≡ true
    item_spelled = spelled_here.0

    pub charges_go : (new : Charged) → new ≡ charge (valued_units item x) now → InCharges (i + 1) new
    charges_go new e = record {
      left = ap (charge (row_units (valued_units item) (values_of (drop (i + 1) all)))) e ∙ sym (charge_append (valued_units item x) (row_units (valued_units item) (values_of (drop (i + 1) all))) now) ∙ ap (λ (ws : List Value). charge (row_units (valued_units item) (values_of ws)) now) (sym parts) ∙ h.left;
      form = form_here.1;
      spelled = spelled_here.1;
    }

-- ---- room
abbrev total : List ℕ → ℕ
total [] = 0
total (n ∷ ns) = n + total ns

total_append : (a b : List ℕ) → total (a ++ b) ≡ total a + total b
total_append [] b = let same : total b ≡ 0 + total b = omega arith in same
total_append (n ∷ a) b =
    let e : total (a ++ b) ≡ total a + total b = total_append a b in
    let sum : n + total (a ++ b) ≡ n + total a + total b = omega (arith, e) in
    sum

row_few : (more : Value → ℕ) (units : Value → List ℕ) → ((v : Value) → more v ≤ total (units v)) → (vs : Values) → items_among more vs ≤ length_of vs + total (row_units units vs)
row_few more units one no_more = omega arith
row_few more units one (and v vs) =
    let e : total (units v ++ row_units units vs) ≡ total (units v) + total (row_units units vs) = total_append (units v) (row_units units vs) in
    let first : more v ≤ total (units v) = one v in
    let others : items_among more vs ≤ length_of vs + total (row_units units vs) = row_few more units one vs in
    omega (arith, e, first, others)

list_few : (more : Value → ℕ) (units : Value → List ℕ) → ((v : Value) → more v ≤ total (units v)) → (v : Value) → items_listed more v ≤ total (list_units units v)
list_few more units one (value.items vs) = row_few more units one vs
list_few more units one (value.text x) = omega arith
list_few more units one (value.boolean truth digit) = omega arith
list_few more units one (value.integer n) = omega arith
list_few more units one (value.decimal minus whole back) = omega arith
list_few more units one (value.float mantissa exponent) = omega arith
list_few more units one (value.moment m) = omega arith
list_few more units one (value.binary hex octets) = omega arith
list_few more units one (value.name n) = omega arith

-- each item of a list is charged
items_few : (r : Representation) (v : Value) → items_in r v ≤ total (valued_units r v)
unfolding valued_units
items_few (datatype.small least count) v = omega arith
items_few datatype.unsigned v = omega arith
items_few datatype.integer v = omega arith
items_few (datatype.boolean pattern) v = omega arith
items_few (datatype.binary hex) v = omega arith
items_few datatype.decimal v = omega arith
items_few datatype.float v = omega arith
items_few (datatype.moment kind) v = omega arith
items_few (datatype.list item) v = list_few (items_in item) (valued_units item) (items_few item) v
items_few (datatype.choice base values) v = omega arith
items_few datatype.text v = omega arith
items_few (datatype.chars set) v = omega arith
items_few (datatype.name keep) v = omega arith

paid_used : (us : List ℕ) (m n : Metering) → paid us m ≡ Ok n → n.used.text ≡ m.used.text + total us
paid_used [] m n e =
    let same : m ≡ n = (let k : Ok m ≡ Ok n = e in cc) in
    let used : m.used.text ≡ n.used.text = ap (λ (k : Metering). k.used.text) same in
    let sum : n.used.text ≡ m.used.text + 0 = omega (arith, used) in
    sum
paid_used (u ∷ us) m n e = elim (cases_Bool (text_fits m u)) [
  | inl h ↦ (
      let used : n.used.text ≡ m.used.text + u + total us = paid_used us (with_text m u) n (rw h at e) in
      let sum : n.used.text ≡ m.used.text + (u + total us) = omega (arith, used) in
      sum
      )
  | inr h ↦ absurd (let f = rw h at e in cc)
]

-- where no charge passes its limit there is room for the items
pub room_left : (r : Representation) (v : Value) (p : Partitions) (old new : Charged) → new ≡ charge (valued_units r v) old → is_within new ≡ true → AreKept new → ((m : Metering) → old ≡ Ok m → IsRoomy m p) → HasRoomFor r v p
room_left r v p (Ok m) (Ok n) e h within roomy =
    let used : n.used.text ≡ m.used.text + total (valued_units r v) = paid_used (valued_units r v) m n (sym e) in
    let few : items_in r v ≤ total (valued_units r v) = items_few r v in
    let most : n.used.text ≤ n.limits.text = within.text in
    let bound : n.limits.text ≤ 2 ^ 28 = within.limits.text in
    record { most = 2 ^ 31 - 2 ^ 28 + m.used.text; few = roomy m refl; fits = omega (arith, used, few, most, bound) }
room_left r v p (Err why) (Ok n) e h within roomy = absurd (let k : Ok n ≡ Err why = e in cc)
room_left r v p old (Err why) e h within roomy = absurd (let k : false ≡ true = h in cc)
