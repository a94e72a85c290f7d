-- What is written of a text, a name or a declaration is one of its spellings, and leaves sound tables.
use Rattle.std.proofs.Common.{◌≡◌, ◌<◌, ◌^◌, ℕ, Bool, true, false, ◌&&◌, ltb, List, [], ◌∷◌, ◌++◌, length, Option, Some, None, refl, sym, ap, ◌∙◌, subst, arith}
use Rattle.std.specs.Option.{is_some}
use Rattle.std.proofs.lemmas.Bool.{and_parts, ltb-true}
use Rattle.std.proofs.lemmas.Slice.Eq.{bytes_eq-Decides}
use Rattle.exi_bits.specs.declared.align.Align.{Align}
use Rattle.exi_names.specs.Datatypes.{Representation}
use Rattle.exi_names.specs.Datatypes as datatype
use Rattle.exi_names.specs.Forms.{AreOf, IsOf}
use Rattle.exi_names.specs.Seen.{Value, Values, and, no_more}
use Rattle.exi_names.specs.Seen as shape
use Rattle.exi_names.specs.declared.names.NameId.{NameId}
use Rattle.exi_names.specs.declared.names.QName.{QName}
use Rattle.exi_tables.specs.Growth.{IsSound}
use Rattle.exi_tables.specs.Partitions.{Partitions, least_place, live_at, locals, prefixes, uris, with_local, with_prefix, with_uri}
use Rattle.exi_tables.specs.Values.{ValueTable}
use Rattle.exi_text.specs.Literals.{all_xml}
use Rattle.exi_typed.specs.Charging.{Charge, one_charge}
use Rattle.exi_typed.specs.Laws.{Spelling}
use Rattle.exi_typed.specs.NameValues.{SpellsNameValue}
use Rattle.exi_typed.specs.Refused.{SpellsPlaced}
use Rattle.exi_typed.specs.Spelled.{ChargesOnly, SpellsDeclaration, SpellsKnown, SpellsLiteral, SpellsLocal, SpellsName, SpellsNameUnder, SpellsPrefix}
use Rattle.exi_typed.specs.Strings.{Declaration, Named, no_growth}
use Rattle.exi_typed.specs.Written.{after_declaration, after_local, after_name, after_uri, local_bits, prefix_bits, prefix_bits_of, space_for, under_bits, unless_found}
use Rattle.exi_typed.specs.WrittenLaws.{CanTell, CanWrite, CanWriteName, IsWritten, name_units, prefix_units}
use Rattle.exi_typed.proofs.NewSpaces.{prefixes_local}
use Rattle.exi_typed.proofs.WrittenSpelled.{declaration_written, literal_written, local_written, name_written, prefix_written, written_then}
use Rattle.exi_values.specs.Readings.{units_in}
use Rattle.exi_values.specs.Spelled.{SpellsValued}
use Rattle.exi_values.specs.Written.{after_valued}
use Rattle.exi_values.specs.WrittenLaws.{CanWriteList, CanWriteRow, CanWriteText, CanWriteValue}
use Rattle.exi_values.proofs.Written.{stays_sound, values_written}
use Rattle.exi_processing.specs.Contents.{SpellsUnder}
use Rattle.exi_writing.specs.Pieces as piece
use Rattle.exi_writing.specs.Pieces.{Piece, can_all_be_valued, can_be_spelled, can_be_valued, can_know, can_know_under, can_name, can_tell, if_spelled, is_at, is_text, named_under, no_texts, prefixes_for, stands_at, tells}

-- ---- what is written, and sound tables behind it
pub record Fits {X : Type 0} (Spells : Spelling X) (p : Partitions) (w : Piece X) : Type 0 where
  pub written : IsWritten (Spells w.item) w.units p w.tables w.bits
  pub sound : IsSound w.tables.values

pub piece_is : {X : Type 0} (a b : Piece X) → Some a ≡ Some b → a ≡ b
piece_is {X} a b e = cc

pub spelled_if : {X : Type 0} (b : Bool) (piece w : Piece X) → if_spelled b piece ≡ Some w → (b ≡ true) × (piece ≡ w)
spelled_if {X} true piece w e = (refl, piece_is piece w e)
spelled_if {X} false piece w e = absurd cc

can_write : (x : List ℕ) → can_be_spelled x ≡ true → CanWrite x
can_write x h =
    let k = and_parts (ltb (length x) (2 ^ 64)) (all_xml x) h in
    record { xml = k.1; short = ltb-true (length x) (2 ^ 64) k.0 }

-- ---- tables
unless_same : (o : Option ℕ) (p q : Partitions) → q.values ≡ p.values → (unless_found o p q).values ≡ p.values
unless_same (Some place) p q e = refl
unless_same None p q e = e

uri_same : (p : Partitions) (x : List ℕ) → (after_uri p x).values ≡ p.values
uri_same p x = unless_same (least_place (uris p) x) p (with_uri p x) refl

name_same : (p : Partitions) (n : QName) → (after_name p n).values ≡ p.values
name_same p n =
    let q = after_uri p n.uri in
    let s = space_for p n.uri in
    unless_same (least_place (locals q s) n.local) q (with_local q s n.local) refl ∙ uri_same p n.uri

declaration_same : (p : Partitions) (d : Declaration) → (after_declaration p d).values ≡ p.values
declaration_same p d =
    let q = after_uri p d.uri in
    let s = space_for p d.uri in
    unless_same (least_place (prefixes q s) d.prefix) q (with_prefix q s d.prefix) refl ∙ uri_same p d.uri

sound_as : (p q : Partitions) → q.values ≡ p.values → IsSound p.values → IsSound q.values
sound_as p q e s = subst (λ (v : ValueTable). IsSound v) (sym e) s

-- ---- texts
pub literal_fits : (a : Align) (x : List ℕ) (p : Partitions) (w : Piece (List ℕ)) → IsSound p.values → piece.literal a x p ≡ Some w → Fits (λ y. SpellsLiteral a no_growth y) p w
literal_fits a x p w s e =
    let k = spelled_if (can_be_spelled x) _ w e in
    rw (← k.1) record { written = literal_written a x p (can_write x k.0); sound = s }

-- ---- values of a datatype's form
octets_few : (hex : Bool) (v : Value) → IsOf (datatype.binary hex) v → can_be_valued v ≡ true → units_in v < 2 ^ 128
octets_few hex (shape.binary spelled octets) of h = let few = ltb-true (length octets) (2 ^ 64) h in omega (arith, few)
octets_few hex (shape.text x) of h = absurd of
octets_few hex (shape.boolean truth digit) of h = absurd of
octets_few hex (shape.integer n) of h = absurd of
octets_few hex (shape.decimal minus whole back) of h = absurd of
octets_few hex (shape.float mantissa exponent) of h = absurd of
octets_few hex (shape.moment m) of h = absurd of
octets_few hex (shape.items vs) of h = absurd of
octets_few hex (shape.name n) of h = absurd of

can_text : (v : Value) → IsOf datatype.text v → can_be_valued v ≡ true → CanWriteText v
can_text (shape.text x) of h = can_write x h
can_text (shape.boolean truth digit) of h = absurd of
can_text (shape.integer n) of h = absurd of
can_text (shape.decimal minus whole back) of h = absurd of
can_text (shape.float mantissa exponent) of h = absurd of
can_text (shape.moment m) of h = absurd of
can_text (shape.binary hex octets) of h = absurd of
can_text (shape.items vs) of h = absurd of
can_text (shape.name n) of h = absurd of

can_text_in : (set : List ℕ) (v : Value) → IsOf (datatype.chars set) v → can_be_valued v ≡ true → CanWriteText v
can_text_in set (shape.text x) of h = can_write x h
can_text_in set (shape.boolean truth digit) of h = absurd of
can_text_in set (shape.integer n) of h = absurd of
can_text_in set (shape.decimal minus whole back) of h = absurd of
can_text_in set (shape.float mantissa exponent) of h = absurd of
can_text_in set (shape.moment m) of h = absurd of
can_text_in set (shape.binary hex octets) of h = absurd of
can_text_in set (shape.items vs) of h = absurd of
can_text_in set (shape.name n) of h = absurd of

no_name : (keep : Bool) (v : Value) → IsOf (datatype.name keep) v → can_be_valued v ≡ true → ⊥
no_name keep (shape.name n) of h = absurd cc
no_name keep (shape.text x) of h = of
no_name keep (shape.boolean truth digit) of h = of
no_name keep (shape.integer n) of h = of
no_name keep (shape.decimal minus whole back) of h = of
no_name keep (shape.float mantissa exponent) of h = of
no_name keep (shape.moment m) of h = of
no_name keep (shape.binary hex octets) of h = of
no_name keep (shape.items vs) of h = of

-- items that can each be written
row_can : (item : Representation) (Can : Partitions → Value → Type 0) (after : Partitions → Value → Partitions) → ((q : Partitions) (v : Value) → IsOf item v → can_be_valued v ≡ true → Can q v) → (p : Partitions) (vs : Values) → AreOf item vs → can_all_be_valued vs ≡ true → CanWriteRow Can after p vs
row_can item Can after one p no_more of h = tt
row_can item Can after one p (and v vs) of h =
    let k = and_parts (can_be_valued v) (can_all_be_valued vs) h in
    (one p v of.0 k.0, row_can item Can after one (after p v) vs of.1 k.1)

list_can : (item : Representation) (Can : Partitions → Value → Type 0) (after : Partitions → Value → Partitions) → ((q : Partitions) (v : Value) → IsOf item v → can_be_valued v ≡ true → Can q v) → (p : Partitions) (v : Value) → IsOf (datatype.list item) v → can_be_valued v ≡ true → CanWriteList Can after p v
list_can item Can after one p (shape.items vs) of h = (of.0, row_can item Can after one p vs of.1 h)
list_can item Can after one p (shape.text x) of h = absurd of
list_can item Can after one p (shape.boolean truth digit) of h = absurd of
list_can item Can after one p (shape.integer n) of h = absurd of
list_can item Can after one p (shape.decimal minus whole back) of h = absurd of
list_can item Can after one p (shape.float mantissa exponent) of h = absurd of
list_can item Can after one p (shape.moment m) of h = absurd of
list_can item Can after one p (shape.binary hex octets) of h = absurd of
list_can item Can after one p (shape.name n) of h = absurd of

can_value : (r : Representation) (name : NameId) (p : Partitions) (v : Value) → IsOf r v → can_be_valued v ≡ true → CanWriteValue r name p v
can_value (datatype.small least count) name p v of h = of
can_value datatype.unsigned name p v of h = of
can_value datatype.integer name p v of h = of
can_value (datatype.boolean pattern) name p v of h = of
can_value (datatype.binary hex) name p v of h = (of, octets_few hex v of h)
can_value datatype.decimal name p v of h = of
can_value datatype.float name p v of h = of
can_value (datatype.moment kind) name p v of h = of
can_value (datatype.list item) name p v of h = list_can item (CanWriteValue item name) (after_valued item name) (λ q w. can_value item name q w) p v of h
can_value (datatype.choice base enumerated) name p v of h = of
can_value datatype.text name p v of h = can_text v of h
can_value (datatype.chars set) name p v of h = can_text_in set v of h
can_value (datatype.name keep) name p v of h = absurd (no_name keep v of h)

pub value_fits : (r : Representation) (a : Align) (name : NameId) (v : Value) (p : Partitions) (w : Piece Value) → IsOf r v → IsSound p.values → piece.value r a name v p ≡ Some w → Fits (SpellsValued r a name) p w
value_fits r a name v p w of s e =
    let k = spelled_if (can_be_valued v) _ w e in
    rw (← k.1) record { written = values_written r a name p v s (can_value r name p v of k.0); sound = stays_sound r name v p s }

-- ---- names
none_there : (texts : List (List ℕ)) → no_texts texts ≡ true → texts ≡ []
none_there [] h = refl
none_there (x ∷ texts) h = absurd cc

some_there : (o : Option ℕ) → is_some o ≡ true → (place : ℕ) × (o ≡ Some place)
some_there None h = absurd cc
some_there (Some place) h = (place, refl)

told_by : (keep : Bool) (texts : List (List ℕ)) (x : Option (List ℕ)) → can_tell keep texts x ≡ true → CanTell keep texts x
told_by false texts None h = tt
told_by false texts (Some x) h = absurd cc
told_by true texts None h = none_there texts h
told_by true texts (Some x) h = some_there (least_place texts x) h

can_write_name : (keep : Bool) (p : Partitions) (n : QName) → can_name keep p n ≡ true → CanWriteName keep p n
can_write_name keep p n h =
    let k = and_parts (can_be_spelled n.uri) (can_be_spelled n.local && can_tell keep (prefixes_for p n.uri) n.prefix) h in
    let l = and_parts (can_be_spelled n.local) (can_tell keep (prefixes_for p n.uri) n.prefix) k.1 in
    record { uri = can_write n.uri k.0; local = can_write n.local l.0; prefix = told_by keep (prefixes_for p n.uri) n.prefix l.1 }

pub name_fits : (keep : Bool) (a : Align) (n : QName) (p : Partitions) (w : Piece Named) → IsSound p.values → piece.name keep a n p ≡ Some w → Fits (SpellsName keep a) p w
name_fits keep a n p w s e =
    let k = spelled_if (can_name keep p n) _ w e in
    rw (← k.1) record { written = name_written keep a n p (can_write_name keep p n k.0); sound = sound_as p (after_name p n) (name_same p n) s }

text_stands : (o : Option (List ℕ)) (x : List ℕ) → is_text o x ≡ true → o ≡ Some x
text_stands None x h = absurd cc
text_stands (Some y) x h = ap (λ (z : List ℕ). Some z) ((bytes_eq-Decides y x).0 h)

known_written : (keep : Bool) (a : Align) (id : NameId) (n : QName) (p : Partitions) → is_at p id n ≡ true → can_know keep p id n ≡ true → IsWritten (SpellsKnown keep a id (record { id = id; name = n })) (length n.uri ∷ length n.local ∷ prefix_units n.prefix) p p (prefix_bits keep a p id.uri n.prefix)
known_written keep a id n p at can =
    let stands = and_parts (stands_at (uris p) id.uri n.uri) (stands_at (locals p id.uri) id.local n.local) at in
    let k = and_parts (can_be_spelled n.uri) (can_be_spelled n.local && can_tell keep (prefixes p id.uri) n.prefix) can in
    let l = and_parts (can_be_spelled n.local) (can_tell keep (prefixes p id.uri) n.prefix) k.1 in
    let owed : List Charge = one_charge (length n.uri) 0 ++ one_charge (length n.local) 0 in
    let front : IsWritten (ChargesOnly owed) (length n.uri ∷ length n.local ∷ []) p p [] = record { charges = owed; are = refl; spelled = record { bits = refl; charges = refl; after = refl } } in
    let all = written_then (ChargesOnly owed) (SpellsPrefix keep a id.uri n.prefix) (length n.uri ∷ length n.local ∷ []) (prefix_units n.prefix) p p p [] (prefix_bits keep a p id.uri n.prefix) front (prefix_written keep a id.uri n.prefix p (told_by keep (prefixes p id.uri) n.prefix l.1)) in
    record {
      charges = all.charges;
      are = all.are;
      spelled = record { id_is = refl; uri_stands = text_stands (live_at (uris p) id.uri) n.uri stands.0; local_stands = text_stands (live_at (locals p id.uri) id.local) n.local stands.1; spelled = all.spelled };
    }

pub known_fits : (keep : Bool) (a : Align) (id : NameId) (n : QName) (p : Partitions) (w : Piece Named) → IsSound p.values → piece.known keep a id n p ≡ Some w → Fits (SpellsKnown keep a id) p w
known_fits keep a id n p w s e =
    let k = spelled_if (is_at p id n && can_know keep p id n) _ w e in
    let b = and_parts (is_at p id n) (can_know keep p id n) k.0 in
    rw (← k.1) record { written = known_written keep a id n p b.0 b.1; sound = s }

-- a name under a URI that the event's code tells
local_same : (p : Partitions) (uri : ℕ) (x : List ℕ) → (after_local p uri x).values ≡ p.values
local_same p uri x = unless_same (least_place (locals p uri) x) p (with_local p uri x) refl

after_prefixes : (p : Partitions) (uri : ℕ) (x : List ℕ) → prefixes (after_local p uri x) uri ≡ prefixes p uri
after_prefixes p uri x = by_place (least_place (locals p uri) x)
  where
    by_place : (o : Option ℕ) → prefixes (unless_found o p (with_local p uri x)) uri ≡ prefixes p uri
    by_place (Some place) = refl
    by_place None = prefixes_local p uri x

under_written : (keep : Bool) (a : Align) (uri : ℕ) (n : QName) (p : Partitions) → can_know_under keep p uri n ≡ true → IsWritten (SpellsUnder keep a uri (named_under p uri n)) (name_units n) p (after_local p uri n.local) (under_bits keep a p uri n.local n.prefix)
under_written keep a uri n p can =
    let b = and_parts (stands_at (uris p) uri n.uri) (can_be_spelled n.uri && (can_be_spelled n.local && can_tell keep (prefixes p uri) n.prefix)) can in
    let k = and_parts (can_be_spelled n.uri) (can_be_spelled n.local && can_tell keep (prefixes p uri) n.prefix) b.1 in
    let l = and_parts (can_be_spelled n.local) (can_tell keep (prefixes p uri) n.prefix) k.1 in
    let r = after_local p uri n.local in
    let named = named_under p uri n in
    let same = after_prefixes p uri n.local in
    let tell : CanTell keep (prefixes r uri) n.prefix = subst (λ (ts : List (List ℕ)). CanTell keep ts n.prefix) (sym same) (told_by keep (prefixes p uri) n.prefix l.1) in
    let prefix : IsWritten (SpellsPrefix keep a uri n.prefix) (prefix_units n.prefix) r r (prefix_bits keep a p uri n.prefix) =
    subst (λ (ts : List (List ℕ)). IsWritten (SpellsPrefix keep a uri n.prefix) (prefix_units n.prefix) r r (prefix_bits_of keep a ts n.prefix)) same (prefix_written keep a uri n.prefix r tell) in
    let both = written_then (SpellsLocal a uri n.local) (SpellsPrefix keep a uri n.prefix) (length n.local ∷ []) (prefix_units n.prefix) p r r (local_bits a p uri n.local) (prefix_bits keep a p uri n.prefix) (local_written a uri n.local p (can_write n.local l.0)) prefix in
    let behind : IsWritten (SpellsNameUnder keep a uri n.uri named) (length n.local ∷ prefix_units n.prefix) p r (under_bits keep a p uri n.local n.prefix) =
    record { charges = both.charges; are = both.are; spelled = record { spelled = both.spelled; space_is = refl; id_is = refl } } in
    let front : IsWritten (SpellsPlaced (live_at (uris p) uri) n.uri) (length n.uri ∷ []) p p [] =
    record { charges = one_charge (length n.uri) 0; are = refl; spelled = record { stands = text_stands (live_at (uris p) uri) n.uri b.0; charged = record { bits = refl; charges = refl; after = refl } } } in
    let all = written_then (SpellsPlaced (live_at (uris p) uri) n.uri) (SpellsNameUnder keep a uri n.uri named) (length n.uri ∷ []) (length n.local ∷ prefix_units n.prefix) p p r [] (under_bits keep a p uri n.local n.prefix) front behind in
    record { charges = all.charges; are = all.are; spelled = record { space = n.uri; spelled = all.spelled } }

pub under_fits : (keep : Bool) (a : Align) (uri : ℕ) (n : QName) (p : Partitions) (w : Piece Named) → IsSound p.values → piece.under keep a uri n p ≡ Some w → Fits (SpellsUnder keep a uri) p w
under_fits keep a uri n p w s e =
    let k = spelled_if (can_know_under keep p uri n) _ w e in
    rw (← k.1) record { written = under_written keep a uri n p k.0; sound = sound_as p (after_local p uri n.local) (local_same p uri n.local) s }

unit_parts : (o : Option (Piece Named)) (w : Piece Named) → piece.with_unit o ≡ Some w → (v : Piece Named) × (o ≡ Some v) × (w ≡ record v { units = 1 ∷ v.units })
unit_parts None w e = absurd cc
unit_parts (Some v) w e = (v, refl, sym (piece_is _ w e))

pub name_value_fits : (keep : Bool) (a : Align) (n : QName) (p : Partitions) (w : Piece Named) → IsSound p.values → piece.name_value keep a n p ≡ Some w → Fits (SpellsNameValue keep a) p w
name_value_fits keep a n p w s e =
    let k = unit_parts (piece.name keep a n p) w e in
    let v = k.0 in
    let f = name_fits keep a n p v s k.1 in
    let owed : List Charge = one_charge 1 0 in
    let front : IsWritten (ChargesOnly owed) (1 ∷ []) p p [] = record { charges = owed; are = refl; spelled = record { bits = refl; charges = refl; after = refl } } in
    rw k.2 record { written = written_then (ChargesOnly owed) (SpellsName keep a v.item) (1 ∷ []) v.units p p v.tables [] v.bits front f.written; sound = f.sound }

pub name_value_item : (keep : Bool) (a : Align) (n : QName) (p : Partitions) (w : Piece Named) → piece.name_value keep a n p ≡ Some w → w.item.name ≡ n
name_value_item keep a n p w e =
    let k = unit_parts (piece.name keep a n p) w e in
    let f = spelled_if (can_name keep p n) _ k.0 k.1 in
    rw k.2 (ap (λ (z : Piece Named). z.item.name) (sym f.1))

-- ---- namespace declarations
pub declaration_fits : (a : Align) (d : Declaration) (p : Partitions) (w : Piece Declaration) → IsSound p.values → piece.declaration a d p ≡ Some w → Fits (λ y. SpellsDeclaration a y) p w
declaration_fits a d p w s e =
    let k = spelled_if (can_be_spelled d.uri && can_be_spelled d.prefix) _ w e in
    let b = and_parts (can_be_spelled d.uri) (can_be_spelled d.prefix) k.0 in
    rw (← k.1) record { written = declaration_written a d p (record { uri = can_write d.uri b.0; prefix = can_write d.prefix b.1 }); sound = sound_as p (after_declaration p d) (declaration_same p d) s }
