-- A loop that writes the items of a list.
use Rattle.std.proofs.Common.{◌≡◌, ℕ, suc, ◌+◌, ◌<◌, ◌≤◌, Bool, true, List, [], ◌∷◌, ◌++◌, take, drop, map, get_or, length, Option, Some, None, refl, sym, ap, ◌∙◌, subst, inr, arith}
use Rattle.std.proofs.lemmas.Bool.{and_parts}
use Rattle.std.proofs.lemmas.List.{drop-map, drop_all, drop_more, length-map, map-append, take-append-drop, take-map, take_all, take_more}
use Rattle.exi_bits.specs.declared.align.Align.{Align}
use Rattle.exi_items.specs.Fronts.{HoldsFront}
use Rattle.exi_items.proofs.Pieces.{Goes, goes_ends, goes_on, goes_starts, goes_stops}
use Rattle.exi_names.specs.Datatypes.{Representation}
use Rattle.exi_names.specs.Datatypes as datatype
use Rattle.exi_names.specs.Forms.{AreOf, IsOf, length_of}
use Rattle.exi_names.specs.Seen.{Value, Values, and, no_more, seen, values_of}
use Rattle.exi_names.specs.Seen as value
use Rattle.exi_names.specs.declared.names.NameId.{NameId}
use Rattle.exi_names.specs.declared.names.QName.{QName}
use Rattle.exi_names.specs.declared.val.Val.{Val}
use Rattle.exi_tables.specs.Growth.{KeepsAll, NoneLonger}
use Rattle.exi_tables.specs.Partitions.{IsName, Partitions, least_place, locals, uris, values, with_local, with_uri, with_value}
use Rattle.exi_tables.proofs.Growing.{keeps_local, keeps_uri, keeps_value}
use Rattle.exi_typed.specs.Written.{after_item, after_name, after_string, after_uri, own_place, space_for, unless_found}
use Rattle.exi_typed.proofs.Additions.{Adding, Up, Within, few_up, local_more, none_added, nothing_within, one_item, up_same, up_then, up_within, uri_more, value_more}
use Rattle.exi_typed.proofs.Goings.{same_keeps}
use Rattle.exi_values.specs.WriteStops.{HasPlaces, LeavesWritten}
use Rattle.exi_values.specs.Written.{after_list, after_row, after_set, after_valued, has_xml, have_xml, items_among, items_in, items_listed, row_bits, valued_bits}
use Rattle.exi_values.proofs.Growths.{few_more}
use Rattle.exi_values.proofs.Rows.{name_kept}

-- ---- how much one item adds
abbrev one_uri : Adding
one_uri = record { uris = 1; locals = 0; prefixes = 0; values = 0 }

abbrev one_local : Adding
one_local = record { uris = 0; locals = 1; prefixes = 0; values = 0 }

abbrev one_value : Adding
one_value = record { uris = 0; locals = 0; prefixes = 0; values = 1 }

abbrev one_name : Adding
one_name = record { uris = 1; locals = 1; prefixes = 0; values = 0 }

unless_up : (n : Adding) (o : Option ℕ) (p q : Partitions) → Up n p q → Up n p (unless_found o p q)
unless_up n (Some place) p q u = up_within none_added n p p (nothing_within n) (up_same p)
unless_up n None p q u = u

value_item : Within one_value one_item
value_item = record { uris = omega arith; locals = omega arith; prefixes = omega arith; values = omega arith }

name_item : Within one_name one_item
name_item = record { uris = omega arith; locals = omega arith; prefixes = omega arith; values = omega arith }

none_up : (p : Partitions) → Up one_item p p
none_up p = up_within none_added one_item p p (nothing_within one_item) (up_same p)

string_up : (p : Partitions) (name : NameId) (x : List ℕ) → Up one_item p (after_string p name x)
string_up p name x = up_within one_value one_item p (after_string p name x) value_item
    (unless_up one_value (own_place p name x) p (unless_found (least_place (values p) x) p (with_value p name x)) (unless_up one_value (least_place (values p) x) p (with_value p name x) (value_more name p x)))

name_up : (p : Partitions) (n : QName) → Up one_item p (after_name p n)
name_up p n =
    let q : Partitions = after_uri p n.uri in
    let u = unless_up one_uri (least_place (uris p) n.uri) p (with_uri p n.uri) (uri_more p n.uri) in
    let v = unless_up one_local (least_place (locals q (space_for p n.uri)) n.local) q (with_local q (space_for p n.uri) n.local) (local_more (space_for p n.uri) q n.local) in
    up_within one_name one_item p (after_name p n) name_item (up_then one_uri one_local p q (after_name p n) u v)

text_up : (p : Partitions) (name : NameId) (v : Value) → Up one_item p (after_item datatype.text p name v)
text_up p name (value.text x) = string_up p name x
text_up p name (value.boolean t d) = none_up p
text_up p name (value.integer n) = none_up p
text_up p name (value.decimal m w b) = none_up p
text_up p name (value.float m e) = none_up p
text_up p name (value.moment m) = none_up p
text_up p name (value.binary h o) = none_up p
text_up p name (value.items vs) = none_up p
text_up p name (value.name n) = none_up p

named_up : (keep : Bool) (p : Partitions) (name : NameId) (v : Value) → Up one_item p (after_item (datatype.name keep) p name v)
named_up keep p name (value.text x) = none_up p
named_up keep p name (value.boolean t d) = none_up p
named_up keep p name (value.integer n) = none_up p
named_up keep p name (value.decimal m w b) = none_up p
named_up keep p name (value.float m e) = none_up p
named_up keep p name (value.moment m) = none_up p
named_up keep p name (value.binary h o) = none_up p
named_up keep p name (value.items vs) = none_up p
named_up keep p name (value.name n) = name_up p n

set_up : (p : Partitions) (name : NameId) (v : Value) → Up one_item p (after_set p name v)
set_up p name (value.text x) = string_up p name x
set_up p name (value.boolean t d) = none_up p
set_up p name (value.integer n) = none_up p
set_up p name (value.decimal m w b) = none_up p
set_up p name (value.float m e) = none_up p
set_up p name (value.moment m) = none_up p
set_up p name (value.binary h o) = none_up p
set_up p name (value.items vs) = none_up p
set_up p name (value.name n) = none_up p

row_grows : (after : Partitions → Value → Partitions) (more : Value → ℕ) → ((v : Value) (k : ℕ) (p : Partitions) → NoneLonger k p → NoneLonger (k + 1 + more v) (after p v)) → (vs : Values) (k : ℕ) (p : Partitions) → NoneLonger k p → NoneLonger (k + items_among more vs) (after_row after p vs)
row_grows after more one no_more k p few = few_more k (k + 0) p (omega arith) few
row_grows after more one (and v vs) k p few = few_more (k + 1 + more v + items_among more vs) (k + (suc (more v) + items_among more vs)) (after_row after (after p v) vs) (omega arith) (row_grows after more one vs (k + 1 + more v) (after p v) (one v k p few))

list_grows : (after : Partitions → Value → Partitions) (more : Value → ℕ) → ((v : Value) (k : ℕ) (p : Partitions) → NoneLonger k p → NoneLonger (k + 1 + more v) (after p v)) → (v : Value) (k : ℕ) (p : Partitions) → NoneLonger k p → NoneLonger (k + 1 + items_listed more v) (after_list after p v)
list_grows after more one (value.items vs) k p few = few_more (k + items_among more vs) (k + 1 + items_among more vs) (after_row after p vs) (omega arith) (row_grows after more one vs k p few)
list_grows after more one (value.text x) k p few = few_more k (k + 1 + 0) p (omega arith) few
list_grows after more one (value.boolean t d) k p few = few_more k (k + 1 + 0) p (omega arith) few
list_grows after more one (value.integer n) k p few = few_more k (k + 1 + 0) p (omega arith) few
list_grows after more one (value.decimal m w b) k p few = few_more k (k + 1 + 0) p (omega arith) few
list_grows after more one (value.float m e) k p few = few_more k (k + 1 + 0) p (omega arith) few
list_grows after more one (value.moment m) k p few = few_more k (k + 1 + 0) p (omega arith) few
list_grows after more one (value.binary h o) k p few = few_more k (k + 1 + 0) p (omega arith) few
list_grows after more one (value.name n) k p few = few_more k (k + 1 + 0) p (omega arith) few

one_grows : (k : ℕ) (p q : Partitions) → Up one_item p q → NoneLonger k p → NoneLonger (k + 1 + 0) q
one_grows k p q up few = few_up k 1 (k + 1 + 0) one_item p q (omega arith) (omega arith) (omega arith) (omega arith) (omega arith) up few

grows_written : (r : Representation) (name : NameId) (v : Value) (k : ℕ) (p : Partitions) → NoneLonger k p → NoneLonger (k + 1 + items_in r v) (after_valued r name p v)
unfolding after_valued
grows_written (datatype.small least count) name v k p few = one_grows k p p (none_up p) few
grows_written datatype.unsigned name v k p few = one_grows k p p (none_up p) few
grows_written datatype.integer name v k p few = one_grows k p p (none_up p) few
grows_written (datatype.boolean pattern) name v k p few = one_grows k p p (none_up p) few
grows_written (datatype.binary hex) name v k p few = one_grows k p p (none_up p) few
grows_written datatype.decimal name v k p few = one_grows k p p (none_up p) few
grows_written datatype.float name v k p few = one_grows k p p (none_up p) few
grows_written (datatype.moment m) name v k p few = one_grows k p p (none_up p) few
grows_written (datatype.list item) name v k p few = list_grows (after_valued item name) (items_in item) (grows_written item name) v k p few
grows_written (datatype.choice base vs) name v k p few = one_grows k p p (none_up p) few
grows_written datatype.text name v k p few = one_grows k p (after_item datatype.text p name v) (text_up p name v) few
grows_written (datatype.chars set) name v k p few = one_grows k p (after_set p name v) (set_up p name v) few
grows_written (datatype.name keep) name v k p few = one_grows k p (after_item (datatype.name keep) p name v) (named_up keep p name v) few

-- ---- each place keeps its text
keeps_both : (p q r : Partitions) → KeepsAll p q → KeepsAll q r → KeepsAll p r
keeps_both p q r f g = record {
  each_uri = λ place text is. g.each_uri place text (f.each_uri place text is);
  each_local = λ uri place text is. g.each_local uri place text (f.each_local uri place text is);
  each_prefix = λ uri place text is. g.each_prefix uri place text (f.each_prefix uri place text is);
}

keeps_unless : (o : Option ℕ) (p q : Partitions) → KeepsAll p q → KeepsAll p (unless_found o p q)
keeps_unless (Some place) p q k = same_keeps p
keeps_unless None p q k = k

string_keeps : (p : Partitions) (name : NameId) (x : List ℕ) → KeepsAll p (after_string p name x)
string_keeps p name x = keeps_unless (own_place p name x) p (unless_found (least_place (values p) x) p (with_value p name x)) (keeps_unless (least_place (values p) x) p (with_value p name x) (keeps_value p name x))

name_keeps : (p : Partitions) (n : QName) → KeepsAll p (after_name p n)
name_keeps p n =
    let q : Partitions = after_uri p n.uri in
    keeps_both p q (after_name p n) (keeps_unless (least_place (uris p) n.uri) p (with_uri p n.uri) (keeps_uri p n.uri))
    (keeps_unless (least_place (locals q (space_for p n.uri)) n.local) q (with_local q (space_for p n.uri) n.local) (keeps_local q (space_for p n.uri) n.local))

text_keeps : (p : Partitions) (name : NameId) (v : Value) → KeepsAll p (after_item datatype.text p name v)
text_keeps p name (value.text x) = string_keeps p name x
text_keeps p name (value.boolean t d) = same_keeps p
text_keeps p name (value.integer n) = same_keeps p
text_keeps p name (value.decimal m w b) = same_keeps p
text_keeps p name (value.float m e) = same_keeps p
text_keeps p name (value.moment m) = same_keeps p
text_keeps p name (value.binary h o) = same_keeps p
text_keeps p name (value.items vs) = same_keeps p
text_keeps p name (value.name n) = same_keeps p

named_keeps : (keep : Bool) (p : Partitions) (name : NameId) (v : Value) → KeepsAll p (after_item (datatype.name keep) p name v)
named_keeps keep p name (value.text x) = same_keeps p
named_keeps keep p name (value.boolean t d) = same_keeps p
named_keeps keep p name (value.integer n) = same_keeps p
named_keeps keep p name (value.decimal m w b) = same_keeps p
named_keeps keep p name (value.float m e) = same_keeps p
named_keeps keep p name (value.moment m) = same_keeps p
named_keeps keep p name (value.binary h o) = same_keeps p
named_keeps keep p name (value.items vs) = same_keeps p
named_keeps keep p name (value.name n) = name_keeps p n

set_keeps : (p : Partitions) (name : NameId) (v : Value) → KeepsAll p (after_set p name v)
set_keeps p name (value.text x) = string_keeps p name x
set_keeps p name (value.boolean t d) = same_keeps p
set_keeps p name (value.integer n) = same_keeps p
set_keeps p name (value.decimal m w b) = same_keeps p
set_keeps p name (value.float m e) = same_keeps p
set_keeps p name (value.moment m) = same_keeps p
set_keeps p name (value.binary h o) = same_keeps p
set_keeps p name (value.items vs) = same_keeps p
set_keeps p name (value.name n) = same_keeps p

row_keeps : (after : Partitions → Value → Partitions) → ((v : Value) (p : Partitions) → KeepsAll p (after p v)) → (vs : Values) (p : Partitions) → KeepsAll p (after_row after p vs)
row_keeps after one no_more p = same_keeps p
row_keeps after one (and v vs) p = keeps_both p (after p v) (after_row after (after p v) vs) (one v p) (row_keeps after one vs (after p v))

list_keeps : (after : Partitions → Value → Partitions) → ((v : Value) (p : Partitions) → KeepsAll p (after p v)) → (v : Value) (p : Partitions) → KeepsAll p (after_list after p v)
list_keeps after one (value.items vs) p = row_keeps after one vs p
list_keeps after one (value.text x) p = same_keeps p
list_keeps after one (value.boolean t d) p = same_keeps p
list_keeps after one (value.integer n) p = same_keeps p
list_keeps after one (value.decimal m w b) p = same_keeps p
list_keeps after one (value.float m e) p = same_keeps p
list_keeps after one (value.moment m) p = same_keeps p
list_keeps after one (value.binary h o) p = same_keeps p
list_keeps after one (value.name n) p = same_keeps p

keeps_written : (r : Representation) (name : NameId) (v : Value) (p : Partitions) → KeepsAll p (after_valued r name p v)
unfolding after_valued
keeps_written (datatype.small least count) name v p = same_keeps p
keeps_written datatype.unsigned name v p = same_keeps p
keeps_written datatype.integer name v p = same_keeps p
keeps_written (datatype.boolean pattern) name v p = same_keeps p
keeps_written (datatype.binary hex) name v p = same_keeps p
keeps_written datatype.decimal name v p = same_keeps p
keeps_written datatype.float name v p = same_keeps p
keeps_written (datatype.moment m) name v p = same_keeps p
keeps_written (datatype.list item) name v p = list_keeps (after_valued item name) (keeps_written item name) v p
keeps_written (datatype.choice base vs) name v p = same_keeps p
keeps_written datatype.text name v p = text_keeps p name v
keeps_written (datatype.chars set) name v p = set_keeps p name v
keeps_written (datatype.name keep) name v p = named_keeps keep p name v

-- ---- the tables behind one item more
row_next : (after : Partitions → Value → Partitions) (xs : List Value) (x : Value) (p : Partitions) → after_row after p (values_of (xs ++ x ∷ [])) ≡ after (after_row after p (values_of xs)) x
row_next after [] x p = refl
row_next after (y ∷ ys) x p = row_next after ys x (after p y)

-- the item that the loop writes
step_in : (vs : List Val) (i : ℕ) (v : Val) → i < length vs → v ≡ get_or vs i v → drop i (map seen vs) ≡ seen v ∷ drop (i + 1) (map seen vs)
step_in vs i v lt is = drop-map seen i vs ∙ ap (λ (ws : List Val). map seen ws) (drop_more vs i v lt) ∙ ap (λ (w : Val). seen w ∷ map seen (drop (i + 1) vs)) (sym is) ∙ ap (λ (ws : List Value). seen v ∷ ws) (sym (drop-map seen (i + 1) vs))

pub step_at : (all vs : List Val) (i : ℕ) (v : Val) → vs ≡ all → i < length vs → v ≡ get_or vs i v → drop i (map seen all) ≡ seen v ∷ drop (i + 1) (map seen all)
step_at all vs i v same lt is = subst (λ (ws : List Val). drop i (map seen ws) ≡ seen v ∷ drop (i + 1) (map seen ws)) same (step_in vs i v lt is)

module _ (item : Representation) (a : Align) (name : NameId) (all : List Value) (p : Partitions) (old : List Bool) where
  abbrev one : Partitions → Value → List Bool
  one q v = valued_bits item a name q v

  abbrev after : Partitions → Value → Partitions
  after q v = after_valued item name q v

  abbrev total : List Bool
  total = row_bits one after p (values_of all)

  -- where the loop stands: so many are written
  pub record InRow (i : ℕ) (q : Partitions) (out : List Bool) : Type 0 where
    pub going : Goes old total (row_bits one after q (values_of (drop i all))) out
    pub tables : q ≡ after_row after p (values_of (take i all))
    pub form : AreOf item (values_of (drop i all))
    pub xml : have_xml (values_of (drop i all)) ≡ true
    pub room : HasPlaces (items_among (items_in item) (values_of (drop i all))) q
    pub named : IsName q name

  pub in_row_starts : AreOf item (values_of all) → have_xml (values_of all) ≡ true → HasPlaces (items_among (items_in item) (values_of all)) p → IsName p name → InRow 0 p old
  in_row_starts form xml room named = record { going = goes_starts old total; tables = refl; form = form; xml = xml; room = room; named = named }

  module _ (i : ℕ) (q : Partitions) (out : List Bool) (x : Value) (h : InRow i q out) (parts : drop i all ≡ x ∷ drop (i + 1) all) where
    abbrev rest : List Value
    rest = drop (i + 1) all

    form_here : IsOf item x × AreOf item (values_of rest)
    form_here = subst (λ (ws : List Value). AreOf item (values_of ws)) parts h.form

    xml_here : (has_xml x ≡ true) × (have_xml (values_of rest) ≡ true)
    xml_here = and_parts (has_xml x) (have_xml (values_of rest)) (ap (λ (ws : List Value). have_xml (values_of ws)) (sym parts) ∙ h.xml)

    count_here : items_among (items_in item) (values_of (drop i all)) ≡ suc (items_in item x) + items_among (items_in item) (values_of rest)
    count_here = ap (λ (ws : List Value). items_among (items_in item) (values_of ws)) parts

    left_here : row_bits one after q (values_of (drop i all)) ≡ one q x ++ row_bits one after (after q x) (values_of rest)
    left_here = ap (λ (ws : List Value). row_bits one after q (values_of ws)) parts

    whole_here : all ≡ take i all ++ x ∷ rest
    whole_here = sym (take-append-drop i all) ∙ ap (λ (ws : List Value). take i all ++ ws) parts

    pub item_form : IsOf item x
    item_form = form_here.0

    pub item_xml : has_xml x ≡ true
    item_xml = xml_here.0

    pub item_room : HasPlaces (items_in item x) q
    item_room = record { most = h.room.most; few = h.room.few; fits = omega (arith, h.room.fits, count_here) }

    pub in_row_goes : (next : Partitions) (new : List Bool) → take (i + 1) all ≡ take i all ++ x ∷ [] → next ≡ after q x → new ≡ out ++ one q x → InRow (i + 1) next new
    in_row_goes next new took tables wrote =
        let few : NoneLonger (h.room.most + 1 + items_in item x) next = subst (λ (z : Partitions). NoneLonger (h.room.most + 1 + items_in item x) z) (sym tables) (grows_written item name x h.room.most q h.room.few) in
        record {
          going = subst (λ (z : Partitions). Goes old total (row_bits one after z (values_of rest)) new) (sym tables) (goes_on old total (one q x) (row_bits one after (after q x) (values_of rest)) (row_bits one after q (values_of (drop i all))) out new h.going left_here wrote);
          tables = tables ∙ ap (λ (z : Partitions). after z x) h.tables ∙ sym (row_next after (take i all) x p) ∙ ap (λ (ws : List Value). after_row after p (values_of ws)) (sym took);
          form = form_here.1;
          xml = xml_here.1;
          room = record { most = h.room.most + 1 + items_in item x; few = few; fits = omega (arith, h.room.fits, count_here) };
          named = name_kept q next name (subst (λ (z : Partitions). KeepsAll q z) (sym tables) (keeps_written item name x q)) h.named;
        }

    pub in_row_stops : (new : List Bool) → HoldsFront out (one q x) new → HoldsFront old total new
    in_row_stops new w = goes_stops old total (one q x) (row_bits one after (after q x) (values_of rest)) (row_bits one after q (values_of (drop i all))) out new h.going left_here w

    pub in_row_leaves : (new : Partitions) → LeavesWritten item name x q new → LeavesWritten (datatype.list item) name (value.items (values_of all)) p new
    in_row_leaves new left = inr (record {
      before = take i all;
      next = x;
      more = rest;
      parts = ap (λ (ws : List Value). value.items (values_of ws)) whole_here;
      left = subst (λ (z : Partitions). LeavesWritten item name x z new) h.tables left;
    })

  pub in_row_ends : (i : ℕ) (q : Partitions) (out : List Bool) → InRow i q out → length all ≤ i → (out ≡ old ++ total) × (q ≡ after_row after p (values_of all))
  in_row_ends i q out h le = (
    goes_ends old total (row_bits one after q (values_of (drop i all))) out h.going (ap (λ (ws : List Value). row_bits one after q (values_of ws)) (drop_all i all le)),
    h.tables ∙ ap (λ (ws : List Value). after_row after p (values_of ws)) (take_all i all le),
  )

pub length_values : (xs : List Value) → length_of (values_of xs) ≡ length xs
length_values [] = refl
length_values (x ∷ xs) = ap suc (length_values xs)

took_in : (vs : List Val) (i : ℕ) (v : Val) → i < length vs → v ≡ get_or vs i v → take (i + 1) (map seen vs) ≡ take i (map seen vs) ++ seen v ∷ []
took_in vs i v lt is = take-map seen (i + 1) vs ∙ ap (λ (ws : List Val). map seen ws) (take_more vs i v lt) ∙ map-append seen (take i vs) (get_or vs i v ∷ []) ∙ ap (λ (w : Val). map seen (take i vs) ++ seen w ∷ []) (sym is) ∙ ap (λ (ws : List Value). ws ++ seen v ∷ []) (sym (take-map seen i vs))

pub took_at : (all vs : List Val) (i : ℕ) (v : Val) → vs ≡ all → i < length vs → v ≡ get_or vs i v → take (i + 1) (map seen all) ≡ take i (map seen all) ++ seen v ∷ []
took_at all vs i v same lt is = subst (λ (ws : List Val). take (i + 1) (map seen ws) ≡ take i (map seen ws) ++ seen v ∷ []) same (took_in vs i v lt is)

pub few_values : (all vs : List Val) (i : ℕ) → vs ≡ all → length vs ≤ i → length (map seen all) ≤ i
few_values all vs i same le = rw length-map (omega (arith, le, ap length same))

pub counted : (vs : List Val) (all : List Value) → map seen vs ≡ all → length vs ≡ length_of (values_of all)
counted vs all same = sym (length-map vs seen) ∙ ap length same ∙ sym (length_values all)
