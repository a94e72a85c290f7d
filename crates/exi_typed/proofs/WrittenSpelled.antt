-- What is written is spelled so.
use Rattle.std.proofs.Common.{◌≡◌, ℕ, suc, ◌+◌, ◌<◌, ◌^◌, ◌⊎◌, inl, inr, ◌&&◌, Bool, true, false, List, [], ◌∷◌, ◌++◌, length, Option, Some, None, refl, sym, ap, ◌∙◌, subst, arith}
use Rattle.std.specs.Prelude.{nat_eq, nat_lt, slice_get}
use Rattle.std.specs.Str.{bytes_eq}
use Rattle.std.proofs.lemmas.Bool.{cases_Bool, cases_lt, eq-eqb, ltb-true}
use Rattle.std.proofs.lemmas.Option.{slice_get_within}
use Rattle.std.proofs.lemmas.Slice.Eq.{bytes_eq-Decides}
use Rattle.exi_bits.specs.declared.align.Align.{Align}
use Rattle.exi_bits.specs.Bits.{bits, number}
use Rattle.exi_bits.specs.Unsigned.{shortest}
use Rattle.exi_bits.specs.Widths.{width_for}
use Rattle.exi_bits.proofs.UnsignedLaws.{shortest_spelled}
use Rattle.exi_items.specs.Spellings.{SpellsUnsigned}
use Rattle.exi_names.specs.NameMaps.{same_name}
use Rattle.exi_names.specs.declared.names.NameId.{NameId}
use Rattle.exi_tables.specs.declared.live.Live.{Live}
use Rattle.exi_tables.specs.Growth.{IsSound}
use Rattle.exi_tables.specs.Partitions.{Partitions, least_place, locals, name_value_place, name_values, prefixes, uris, values, with_local, with_prefix, with_uri, with_value}
use Rattle.exi_tables.specs.Values.{ValueTable, is_value, least_under, or_less, stands_under, text_under}
use Rattle.exi_tables.proofs.Found.{one_text}
use Rattle.exi_tables.proofs.Given.{same_is}
use Rattle.exi_tables.proofs.Least.{least_found}
use Rattle.exi_tables.proofs.Looked.{stood}
use Rattle.exi_text.specs.Literals.{chars_bits}
use Rattle.exi_text.proofs.Letters.{chars_written}
use Rattle.exi_typed.specs.Charging.{Charge, later, one_charge, units_of}
use Rattle.exi_typed.specs.Laws.{Spelling}
use Rattle.exi_typed.specs.ReadStates.{ContextReader}
use Rattle.exi_typed.specs.Spelled.{Behind, Follows, IsHit, IsMissed, OneSpelling, SpellsDeclaration, SpellsFlag, SpellsIndexed, SpellsLiteral, SpellsLocal, SpellsName, SpellsNameUnder, SpellsNewPrefix, SpellsPrefix, SpellsUri, SpellsValue}
use Rattle.exi_typed.specs.Strings.{Growth, declaration_at, listed, literal_at, name_at, no_growth, own_values, place_in, value_at}
use Rattle.exi_typed.specs.Written.{after_declaration, after_local, after_name, after_prefix, after_string, after_uri, below_count, declaration_bits, declared_bits, flag_number, indexed_bits, listed_bits, literal_bits, local_bits, name_bits, own_place, prefix_bits, prefix_bits_of, space_for, string_bits, string_bits_by, under_bits, unless_found, uri_bits}
use Rattle.exi_typed.specs.WrittenLaws.{CanTell, CanWrite, DeclarationIsWritten, IsWritten, LiteralIsWritten, LocalIsWritten, NameIsWritten, PrefixIsWritten, ReadsBack, StringIsWritten, UriIsWritten, WrittenIsRead, declaration_units, name_units, named_for, prefix_units}
use Rattle.exi_typed.proofs.Agree.{declarations_agree, literals_agree, names_agree, values_agree}
use Rattle.exi_typed.proofs.ContextItems.{Agrees}
use Rattle.exi_typed.proofs.NewSpaces.{prefixes_local}

-- the shortest Unsigned Integer
unsigned : (v : ℕ) → v < 2 ^ 128 → SpellsUnsigned v (bits (shortest v))
unsigned v narrow = record { octets = shortest v; unsigned = shortest_spelled v narrow; bits = refl }

-- ---- put together
units_later : (n : ℕ) (ks : List Charge) → units_of (later n ks) ≡ units_of ks
units_later n [] = refl
units_later n (k ∷ ks) = ap (λ (us : List ℕ). k.units ∷ us) (units_later n ks)

units_both : (ks js : List Charge) → units_of (ks ++ js) ≡ units_of ks ++ units_of js
units_both [] js = refl
units_both (k ∷ ks) js = ap (λ (us : List ℕ). k.units ∷ us) (units_both ks js)

pub written_as : (First Second : OneSpelling) (units : List ℕ) (p q : Partitions) (text : List Bool) → ((ks : List Charge) → First p q ks text → Second p q ks text) → IsWritten First units p q text → IsWritten Second units p q text
written_as First Second units p q text to w = record { charges = w.charges; are = w.are; spelled = to w.charges w.spelled }

pub written_behind : (First : List Bool → Type 0) (Second : OneSpelling) (units : List ℕ) (p q : Partitions) (first second : List Bool) → First first → IsWritten Second units p q second → IsWritten (Behind First Second) units p q (first ++ second)
written_behind First Second units p q first second front w = record {
  charges = later (length first) w.charges;
  are = units_later (length first) w.charges ∙ w.are;
  spelled = record { first = first; second = second; parts = refl; owed = w.charges; charges = refl; front = front; behind = w.spelled };
}

pub written_then : (First Second : OneSpelling) (us ws : List ℕ) (p r q : Partitions) (first second : List Bool) → IsWritten First us p r first → IsWritten Second ws r q second → IsWritten (Follows First Second) (us ++ ws) p q (first ++ second)
written_then First Second us ws p r q first second v w = record {
  charges = v.charges ++ later (length first) w.charges;
  are = units_both v.charges (later (length first) w.charges) ∙ ap (λ (z : List ℕ). units_of v.charges ++ z) (units_later (length first) w.charges ∙ w.are) ∙ ap (λ (z : List ℕ). z ++ ws) v.are;
  spelled = record { between = r; first = first; second = second; parts = refl; paid = v.charges; owed = w.charges; charges = refl; front = v.spelled; behind = w.spelled };
}

-- ---- one text
missed : (set : Option (List ℕ)) (a : Align) (grow : Growth) (x : List ℕ) (p : Partitions) → CanWrite x → IsWritten (IsMissed set a grow x) (length x ∷ []) p (grow p x) (chars_bits set a x)
missed set a grow x p can = record { charges = one_charge (length x) 0; are = refl; spelled = record { spelled = chars_written set a x can.xml; charges = refl; after = refl } }

literal : (a : Align) (grow : Growth) (x : List ℕ) (p : Partitions) → CanWrite x → IsWritten (SpellsLiteral a grow x) (length x ∷ []) p (grow p x) (literal_bits a x)
literal a grow x p can = written_behind (SpellsUnsigned (length x)) (IsMissed None a grow x) (length x ∷ []) p (grow p x) (bits (shortest (length x))) (chars_bits None a x) (unsigned (length x) (let s = can.short in omega arith)) (missed None a grow x p can)

pub literal_written : LiteralIsWritten
literal_written a x p can = literal a no_growth x p can

indexed : (a : Align) (texts : List (List ℕ)) (grow : Growth) (x : List ℕ) (p : Partitions) → CanWrite x
    → IsWritten (SpellsIndexed a texts grow x) (length x ∷ []) p (unless_found (least_place texts x) p (grow p x)) (indexed_bits a (length texts) x (least_place texts x))
indexed a texts grow x p can = by_place (least_place texts x) refl
  where
    by_place : (o : Option ℕ) → least_place texts x ≡ o → IsWritten (SpellsIndexed a texts grow x) (length x ∷ []) p (unless_found o p (grow p x)) (indexed_bits a (length texts) x o)
    by_place (Some place) e = record {
      charges = one_charge (length x) (length (number (width_for (length texts + 1)) a (place + 1)));
      are = refl;
      spelled = inr (record { place = place; stands = (least_found texts x place e).found; bits = refl; charges = refl; after = refl });
    }
    by_place None e =
        let code : List Bool = number (width_for (length texts + 1)) a 0 in
        let w = written_behind (λ z. z ≡ code) (SpellsLiteral a grow x) (length x ∷ []) p (grow p x) code (literal_bits a x) refl (literal a grow x p can) in
        record { charges = w.charges; are = w.are; spelled = inl w.spelled }

pub uri_written : UriIsWritten
uri_written a x p can = let w = indexed a (uris p) with_uri x p can in record { charges = w.charges; are = w.are; spelled = w.spelled }

hit : (a : Align) (texts : List (List ℕ)) (x : List ℕ) (place : ℕ) (p : Partitions) → least_place texts x ≡ Some place → IsWritten (IsHit a (listed texts) x) (length x ∷ []) p p (number (width_for (length texts)) a place)
hit a texts x place p e =
    let f = (least_found texts x place e).found in
    record { charges = one_charge (length x) (length (number (width_for (length texts)) a place)); are = refl; spelled = record { place = place; within = slice_get_within texts place x f; stands = f; bits = refl; charges = refl; after = refl } }

pub local_written : LocalIsWritten
local_written a uri x p can = by_place (least_place (locals p uri) x) refl
  where
    by_place : (o : Option ℕ) → least_place (locals p uri) x ≡ o → IsWritten (SpellsLocal a uri x) (length x ∷ []) p (unless_found o p (with_local p uri x)) (listed_bits a (length (locals p uri)) x o)
    by_place (Some place) e =
        let w = written_behind (SpellsUnsigned 0) (IsHit a (listed (locals p uri)) x) (length x ∷ []) p p (bits (shortest 0)) (number (width_for (length (locals p uri))) a place) (unsigned 0 (omega arith)) (hit a (locals p uri) x place p e) in
        record { charges = w.charges; are = w.are; spelled = inl w.spelled }
    by_place None e =
        let front : SpellsUnsigned (suc (length x)) (bits (shortest (length x + 1))) = subst (λ (n : ℕ). SpellsUnsigned n (bits (shortest (length x + 1)))) (let e : length x + 1 ≡ suc (length x) = omega arith in e) (unsigned (length x + 1) (let s = can.short in omega arith)) in
        let w = written_behind (SpellsUnsigned (suc (length x))) (IsMissed None a (λ r. with_local r uri) x) (length x ∷ []) p (with_local p uri x) (bits (shortest (length x + 1))) (chars_bits None a x) front (missed None a (λ r. with_local r uri) x p can) in
        record { charges = w.charges; are = w.are; spelled = inr w.spelled }

-- ---- a string
both : (a b : Bool) → (a && b) ≡ true → (a ≡ true) × (b ≡ true)
both true b h = (refl, h)
both false b h = absurd cc

-- some live value has the least place
record Stood (name : NameId) (text : List ℕ) (place : ℕ) (live : List Live) : Type 0 where
  at : ℕ
  value : Live
  here : slice_get live at ≡ Some value
  under : name ≡ value.name
  local : place ≡ value.local
  is : value.text ≡ text

further : (name : NameId) (text : List ℕ) (place : ℕ) (l : Live) (live : List Live) → Stood name text place live → Stood name text place (l ∷ live)
further name text place l live s = record { at = suc s.at; value = s.value; here = s.here; under = s.under; local = s.local; is = s.is }

some_is : (i j : ℕ) → Some i ≡ Some j → i ≡ j
some_is i j e = cc

least_of_two : (i j : ℕ) → (or_less i (Some j) ≡ i) ⊎ (or_less i (Some j) ≡ j)
least_of_two i j = elim (cases_lt i j) [
  | inl before ↦ inl (omega (arith, before))
  | inr same ↦ inr (omega (arith, same))
]

least_stood : (name : NameId) (text : List ℕ) (place : ℕ) (live : List Live) → least_under name text live ≡ Some place → Stood name text place live
least_stood name text place [] e = absurd cc
least_stood name text place (l ∷ live) e = elim (cases_Bool (is_value name text l)) [
  | inl yes_is ↦ here_or (both (same_name name l.name) (bytes_eq l.text text) yes_is) (least_under name text live) refl (rw yes_is at e) (λ h. least_stood name text place live h)
  | inr no_is ↦ further name text place l live (least_stood name text place live (rw no_is at e))
]
  where
    this : (same_name name l.name ≡ true) × (bytes_eq l.text text ≡ true) → l.local ≡ place → Stood name text place (l ∷ live)
    this ok same = record { at = 0; value = l; here = refl; under = same_is name l.name ok.0; local = sym same; is = (bytes_eq-Decides l.text text).0 ok.1 }

    here_or : (same_name name l.name ≡ true) × (bytes_eq l.text text ≡ true) → (o : Option ℕ) → least_under name text live ≡ o → Some (or_less l.local o) ≡ Some place → (least_under name text live ≡ Some place → Stood name text place live) → Stood name text place (l ∷ live)
    here_or ok None f h more = this ok (some_is l.local place h)
    here_or ok (Some other) f h more = lesser (least_of_two l.local other) (some_is (or_less l.local (Some other)) place h)
      where
        lesser : (or_less l.local (Some other) ≡ l.local) ⊎ (or_less l.local (Some other) ≡ other) → or_less l.local (Some other) ≡ place → Stood name text place (l ∷ live)
        lesser (inl e1) h1 = this ok (sym e1 ∙ h1)
        lesser (inr e2) h2 = further name text place l live (more (f ∙ ap (λ (n : ℕ). Some n) (sym e2 ∙ h2)))

stands_it : (name n : NameId) (place i : ℕ) → name ≡ n → place ≡ i → (same_name name n && nat_eq i place) ≡ true
stands_it name n place i h e = rw (h, e, eq-eqb n.uri n.uri refl, eq-eqb n.local n.local refl, eq-eqb i i refl) refl

-- then it stands at that place of the name's own values, where no place of the name was given twice
own_stands : (t : ValueTable) (name : NameId) (text : List ℕ) (place : ℕ) → IsSound t → least_under name text t.live ≡ Some place → text_under name t.live place ≡ Some text
own_stands t name text place sound e =
    let s = least_stood name text place t.live e in
    let ok : stands_under name place s.value ≡ true = stands_it name s.value.name place s.value.local s.under s.local in
    sym (one_text name place t.live s.at s.value s.here ok (λ j m there passes.
    let k = stood name place m passes in
    sound.once j s.at m s.value there s.here (sym k.0 ∙ s.under) (sym k.1 ∙ s.local))) ∙ ap (λ (x : List ℕ). Some x) s.is

own_hit : (a : Align) (name : NameId) (x : List ℕ) (place : ℕ) (p : Partitions) → IsSound p.values → own_place p name x ≡ Some place
    → IsWritten (IsHit a (own_values p name) x) (length x ∷ []) p p (number (width_for (name_values p name)) a place)
own_hit a name x place p sound e = by_place (name_value_place p name x) refl e
  where
    by_place : (o : Option ℕ) → name_value_place p name x ≡ o → below_count (name_values p name) o ≡ Some place → IsWritten (IsHit a (own_values p name) x) (length x ∷ []) p p (number (width_for (name_values p name)) a place)
    by_place None f h = absurd cc
    by_place (Some i) f h = elim (cases_Bool (nat_lt i (name_values p name))) [
      | inl below ↦ (let same : i ≡ place = some_is i place (rw below at h) in
          record {
            charges = one_charge (length x) (length (number (width_for (name_values p name)) a place));
            are = refl;
            spelled = record {
              place = place;
              within = subst (λ (n : ℕ). n < name_values p name) same (ltb-true i (name_values p name) below);
              stands = own_stands p.values name x place sound (f ∙ ap (λ (n : ℕ). Some n) same);
              bits = refl;
              charges = refl;
              after = refl;
            };
          })
      | inr not_below ↦ (let none : None ≡ Some place = rw not_below at h in absurd cc)
    ]

pub string_written : StringIsWritten
string_written set a name x p sound can = by_own (own_place p name x) refl
  where
    by_all : (o : Option ℕ) → least_place (values p) x ≡ o
        → IsWritten (SpellsValue set a name x) (length x ∷ []) p (unless_found o p (with_value p name x)) (string_bits_by set a (name_values p name) (length (values p)) x None o)
    by_all (Some place) e =
        let w = written_behind (SpellsUnsigned 1) (IsHit a (listed (values p)) x) (length x ∷ []) p p (bits (shortest 1)) (number (width_for (length (values p))) a place) (unsigned 1 (omega arith)) (hit a (values p) x place p e) in
        record { charges = w.charges; are = w.are; spelled = inr (inl w.spelled) }
    by_all None e =
        let front : SpellsUnsigned (suc (suc (length x))) (bits (shortest (length x + 2))) = subst (λ (n : ℕ). SpellsUnsigned n (bits (shortest (length x + 2)))) (let e2 : length x + 2 ≡ suc (suc (length x)) = omega arith in e2) (unsigned (length x + 2) (let s = can.short in omega arith)) in
        let w = written_behind (SpellsUnsigned (suc (suc (length x)))) (IsMissed set a (λ r. with_value r name) x) (length x ∷ []) p (with_value p name x) (bits (shortest (length x + 2))) (chars_bits set a x) front (missed set a (λ r. with_value r name) x p can) in
        record { charges = w.charges; are = w.are; spelled = inr (inr w.spelled) }

    by_own : (o : Option ℕ) → own_place p name x ≡ o
        → IsWritten (SpellsValue set a name x) (length x ∷ []) p (unless_found o p (unless_found (least_place (values p) x) p (with_value p name x))) (string_bits_by set a (name_values p name) (length (values p)) x o (least_place (values p) x))
    by_own (Some place) e =
        let w = written_behind (SpellsUnsigned 0) (IsHit a (own_values p name) x) (length x ∷ []) p p (bits (shortest 0)) (number (width_for (name_values p name)) a place) (unsigned 0 (omega arith)) (own_hit a name x place p sound e) in
        record { charges = w.charges; are = w.are; spelled = inl w.spelled }
    by_own None e = by_all (least_place (values p) x) refl

-- ---- names
prefix_by : (keep : Bool) (a : Align) (uri : ℕ) (x : Option (List ℕ)) (p : Partitions) (texts : List (List ℕ)) → prefixes p uri ≡ texts → CanTell keep texts x → IsWritten (SpellsPrefix keep a uri x) (prefix_units x) p p (prefix_bits_of keep a texts x)
prefix_by false a uri None p texts e can = record { charges = []; are = refl; spelled = record { bits = refl; charges = refl; after = refl } }
prefix_by false a uri (Some x) p texts e can = absurd can
prefix_by true a uri None p texts e can = record { charges = []; are = refl; spelled = (e ∙ can, record { bits = refl; charges = refl; after = refl }) }
prefix_by true a uri (Some x) p texts e can =
    let w = hit a texts x can.0 p can.1 in
    let bits : List Bool = number (width_for (length texts)) a can.0 in
    rw can.1 (record { charges = w.charges; are = w.are; spelled = subst (λ (ts : List (List ℕ)). IsHit a (listed ts) x p p w.charges bits) (sym e) w.spelled })

pub prefix_written : PrefixIsWritten
prefix_written keep a uri x p can = prefix_by keep a uri x p (prefixes p uri) refl can

after_prefixes : (p : Partitions) (uri : ℕ) (x : List ℕ) → prefixes (after_local p uri x) uri ≡ prefixes p uri
after_prefixes p uri x = by_place (least_place (locals p uri) x)
  where
    by_place : (o : Option ℕ) → prefixes (unless_found o p (with_local p uri x)) uri ≡ prefixes p uri
    by_place (Some place) = refl
    by_place None = prefixes_local p uri x

pub name_written : NameIsWritten
name_written keep a n p can =
    let q = after_uri p n.uri in
    let u = space_for p n.uri in
    let r = after_local q u n.local in
    let prefix : IsWritten (SpellsPrefix keep a u n.prefix) (prefix_units n.prefix) r r (prefix_bits keep a q u n.prefix) = prefix_by keep a u n.prefix r (prefixes q u) (after_prefixes q u n.local) can.prefix in
    let both = written_then (SpellsLocal a u n.local) (SpellsPrefix keep a u n.prefix) (length n.local ∷ []) (prefix_units n.prefix) q r r (local_bits a q u n.local) (prefix_bits keep a q u n.prefix) (local_written a u n.local q can.local) prefix in
    let under : IsWritten (λ z. SpellsNameUnder keep a (place_in (uris z) n.uri) n.uri (named_for p n) z) (length n.local ∷ prefix_units n.prefix) q r (under_bits keep a q u n.local n.prefix) =
    record { charges = both.charges; are = both.are; spelled = record { spelled = both.spelled; space_is = refl; id_is = refl } } in
    let w = written_then (SpellsUri a n.uri) (λ z. SpellsNameUnder keep a (place_in (uris z) n.uri) n.uri (named_for p n) z) (length n.uri ∷ []) (length n.local ∷ prefix_units n.prefix) p q r (uri_bits a p n.uri) (under_bits keep a q u n.local n.prefix) (uri_written a n.uri p can.uri) under in
    record { charges = w.charges; are = w.are; spelled = w.spelled }

-- ---- namespace declarations
pub declaration_written : DeclarationIsWritten
declaration_written a d p can =
    let q = after_uri p d.uri in
    let u = space_for p d.uri in
    let r = after_prefix q u d.prefix in
    let flag : IsWritten (SpellsFlag a d.element) [] r r (number 1 a (flag_number d.element)) = record { charges = []; are = refl; spelled = record { bits = refl; charges = refl; after = refl } } in
    let index = indexed a (prefixes q u) (λ z. with_prefix z u) d.prefix q can.prefix in
    let prefix : IsWritten (SpellsNewPrefix a d.uri d.prefix) (length d.prefix ∷ []) q r (indexed_bits a (length (prefixes q u)) d.prefix (least_place (prefixes q u) d.prefix)) = record { charges = index.charges; are = index.are; spelled = index.spelled } in
    let both = written_then (SpellsNewPrefix a d.uri d.prefix) (SpellsFlag a d.element) (length d.prefix ∷ []) [] q r r (indexed_bits a (length (prefixes q u)) d.prefix (least_place (prefixes q u) d.prefix)) (number 1 a (flag_number d.element)) prefix flag in
    let w = written_then (SpellsUri a d.uri) (Follows (SpellsNewPrefix a d.uri d.prefix) (SpellsFlag a d.element)) (length d.uri ∷ []) (length d.prefix ∷ []) p q r (uri_bits a p d.uri) (declared_bits a q u d.prefix d.element) (uri_written a d.uri p can.uri) both in
    record { charges = w.charges; are = w.are; spelled = w.spelled }

-- ---- and read back
read_back : {X : Type 0} (a : Align) (Spells : Spelling X) (read : ContextReader X) (x : X) (units : List ℕ) (p q : Partitions) (text : List Bool) → Agrees a Spells read → IsWritten (Spells x) units p q text → ReadsBack a read x units p q text
read_back a Spells read x units p q text laws w s more bytes aligned e = record {
  charges = later s.place w.charges;
  are = units_later s.place w.charges ∙ w.are;
  is = laws.is_read x s p q w.charges text more bytes aligned w.spelled e;
}

pub written_read : WrittenIsRead
written_read = record {
  literal = λ a x p can. read_back a (SpellsLiteral a no_growth) (literal_at a no_growth) x (length x ∷ []) p p (literal_bits a x) (literals_agree a no_growth) (literal_written a x p can);
  string = λ set a name x p sound can. read_back a (SpellsValue set a name) (value_at set a name) x (length x ∷ []) p (after_string p name x) (string_bits set a p name x) (values_agree set a name) (string_written set a name x p sound can);
  name = λ keep a n p can. read_back a (SpellsName keep a) (name_at keep a) (named_for p n) (name_units n) p (after_name p n) (name_bits keep a p n) (names_agree keep a) (name_written keep a n p can);
  declaration = λ a d p can. read_back a (SpellsDeclaration a) (declaration_at a) d (declaration_units d) p (after_declaration p d) (declaration_bits a p d) (declarations_agree a) (declaration_written a d p can);
}
