-- Nothing that reading charges passes its limit, wherever it ends.
use Rattle.std.proofs.Common.{◌≡◌, ℕ, ◌+◌, ◌-◌, ◌≤◌, Bool, true, false, cond, eqb, List, [], ◌∷◌, length, Option, Some, None, Result, Ok, Err, refl, ap, arith}
use Rattle.std.proofs.lemmas.Bool.{leb-true}
use Rattle.exi_bits.specs.declared.align.Align.{Align}
use Rattle.exi_bits.specs.declared.fault.Fault.{Fault}
use Rattle.exi_bits.specs.declared.fault.Kind.TheVariants as kind
use Rattle.exi_bits.specs.Bits.{Spot}
use Rattle.exi_bits.specs.Unsigned.{◌>>=◌, below_at, unsigned_at}
use Rattle.exi_bits.specs.Repeat.{times}
use Rattle.exi_items.specs.Charges.{Charged, text_charge}
use Rattle.exi_meter.specs.Metering.{Bounds, Metering, text_fits, with_text}
use Rattle.exi_names.specs.declared.names.NameId.{NameId}
use Rattle.exi_tables.specs.Partitions.{live_at, locals, prefixes as prefixes_of, uris, values, with_local, with_prefix, with_uri, with_value}
use Rattle.exi_text.specs.Literals.{char_at, chars_at}
use Rattle.exi_typed.specs.ReadStates.{ReadState, ContextReader, Failure, at_spot_of, failing}
use Rattle.exi_typed.specs.Limits.{EndsWithin, IsWithin, StaysWithin}
use Rattle.exi_typed.specs.NameValues.{name_value_at, with_meter}
use Rattle.exi_typed.specs.Strings.{Declaration, Growth, Named, Partition, charged_at, declaration_at, declared_under, hit_at, indexed_at, known_at, listed, literal_at, local_at, missed_at, name_at, name_under, own_values, place_in, placed_at, prefix_at, told_prefix, uri_at, value_at}

-- ---- put together
fine_bind : {X Y : Type 0} (limits : Bounds) (r : Result (X × ReadState) Failure) (two : X → ContextReader Y) → EndsWithin limits r → ((x : X) → StaysWithin (two x)) → EndsWithin limits (r >>= λ x. two x.0 x.1)
fine_bind limits (Ok x) two f more = more x.0 limits x.1 f
fine_bind limits (Err e) two f more = f

within_bind : {X Y : Type 0} (one : ContextReader X) (two : X → ContextReader Y) → StaysWithin one → ((x : X) → StaysWithin (two x)) → StaysWithin {X = Y} (λ c. one c >>= λ x. two x.0 x.1)
within_bind one two first more limits c w = fine_bind limits (one c) two (first limits c w) more

fine_made : {X Y : Type 0} (limits : Bounds) (r : Result (X × ReadState) Failure) (make : X → ReadState → Y) → EndsWithin limits r → EndsWithin {X = Y} limits (r >>= λ x. Ok (make x.0 x.1, x.1))
fine_made limits (Ok x) make f = f
fine_made limits (Err e) make f = f

within_made : {X Y : Type 0} (read : ContextReader X) (make : X → ReadState → Y) → StaysWithin read → StaysWithin {X = Y} (λ c. read c >>= λ x. Ok (make x.0 x.1, x.1))
within_made read make stays limits c w = fine_made limits (read c) make (stays limits c w)

-- bits alone, which charge nothing
fine_behind : {X Y : Type 0} (limits : Bounds) (c : ReadState) (r : Result (X × Spot) Fault) (two : X → ContextReader Y) → IsWithin limits c.context.meter → ((x : X) → StaysWithin (two x)) → EndsWithin limits (failing c.context.meter r >>= λ x. two x.0 (at_spot_of c x.1))
fine_behind limits c (Ok x) two w more = more x.0 limits (at_spot_of c x.1) w
fine_behind limits c (Err e) two w more = w

within_either : {X : Type 0} (b : Bool) (one other : ContextReader X) → StaysWithin one → StaysWithin other → StaysWithin {X = X} (λ c. cond b (one c) (other c))
within_either true one other p q limits c w = p limits c w
within_either false one other p q limits c w = q limits c w

within_given : {X : Type 0} (x : X) → StaysWithin {X = X} (λ c. Ok (x, c))
within_given x limits c w = w

-- ---- charges
text_within : (limits : Bounds) (m : Metering) (units : ℕ) → IsWithin limits m → text_fits m units ≡ true → IsWithin limits (with_text m units)
text_within limits m units w fits =
    let le : m.used.text + units ≤ m.limits.text = leb-true (m.used.text + units) m.limits.text fits in
    let same : m.limits.text ≡ limits.text = ap (λ (z : Bounds). z.text) w.same in
    record { same = w.same; events = w.events; text = omega (arith, le, same); depth = w.depth }

after_within : (limits : Bounds) (m : Metering) (units : ℕ) (b : Bool) → text_fits m units ≡ b → IsWithin limits m → IsWithin limits (cond b (with_text m units) m)
after_within limits m units true e w = text_within limits m units w e
after_within limits m units false e w = w

fine_paying : {X : Type 0} (limits : Bounds) (c : ReadState) (units bit : ℕ) (b : Bool) (more : Metering → Result (X × ReadState) Failure) → text_fits c.context.meter units ≡ b → IsWithin limits c.context.meter → ((m : Metering) → IsWithin limits m → EndsWithin limits (more m))
    → EndsWithin limits (failing c.context.meter (cond b (Ok (with_text c.context.meter units)) (Err (record { kind = kind.TextLimit; bit = bit }))) >>= more)
fine_paying limits c units bit true more e w f = f (with_text c.context.meter units) (text_within limits c.context.meter units w e)
fine_paying limits c units bit false more e w f = w

charged_within : (text : List ℕ) → StaysWithin (charged_at text)
unfolding charged_at text_charge
charged_within text limits c w = fine_paying limits c (length text) c.spot.place (text_fits c.context.meter (length text)) (λ (m : Metering). Ok (text, record { spot = c.spot; context = record { meter = m; tables = c.context.tables } })) refl w (λ m k. k)

placed_within : (s : Spot) (o : Option (List ℕ)) → StaysWithin (placed_at s o)
placed_within s (Some text) limits c w = charged_within text limits c w
placed_within s None limits c w = w

hit_within : (a : Align) (partition : Partition) → StaysWithin (hit_at a partition)
unfolding hit_at
hit_within a partition limits c w = fine_behind limits c (below_at partition.count a kind.BadPlace c.spot) (λ (place : ℕ). placed_at c.spot (partition.text_at place)) w (λ place. placed_within c.spot (partition.text_at place))

-- ---- a miss
abbrev missing : Growth → ReadState → List ℕ × Charged → ReadState
missing grow c text = record { spot = text.1.spot; context = record { meter = text.1.meter; tables = grow c.context.tables text.0 } }

abbrev charged : List ℕ × Charged → Result (List ℕ × Charged) Fault
charged p = Ok p

abbrev given_missing : Growth → ReadState → List ℕ × Charged → Result (List ℕ × ReadState) Failure
given_missing grow c text = Ok (text.0, missing grow c text)

-- what was charged before the characters failed, or after they were read
fine_missed : (limits : Bounds) (c : ReadState) (set : Option (List ℕ)) (a : Align) (grow : Growth) (count : ℕ) (b : Bool) → text_fits c.context.meter count ≡ b → IsWithin limits c.context.meter → EndsWithin limits (missed_at set a grow count c)
unfolding missed_at chars_at text_charge
fine_missed limits c set a grow count true e w = rw e (by_chars (times (char_at set a) count c.spot))
  where
    by_chars : (r : Result (List ℕ × Spot) Fault) → EndsWithin limits (failing (with_text c.context.meter count) (r >>= λ text. charged (text.0, record { spot = text.1; meter = with_text c.context.meter count })) >>= given_missing grow c)
    by_chars (Ok text) = text_within limits c.context.meter count w e
    by_chars (Err f) = text_within limits c.context.meter count w e
fine_missed limits c set a grow count false e w = rw e w

missed_within : (set : Option (List ℕ)) (a : Align) (grow : Growth) (count : ℕ) → StaysWithin (missed_at set a grow count)
missed_within set a grow count limits c w = fine_missed limits c set a grow count (text_fits c.context.meter count) refl w

pub literal_within : (a : Align) (grow : Growth) → StaysWithin (literal_at a grow)
unfolding literal_at
literal_within a grow limits c w = fine_behind limits c (unsigned_at c.spot) (λ (count : ℕ). missed_at None a grow count) w (λ count. missed_within None a grow count)

indexed_within : (a : Align) (partition : List (List ℕ)) (grow : Growth) → StaysWithin (indexed_at a partition grow)
unfolding indexed_at
indexed_within a partition grow limits c w =
    fine_behind limits c (below_at (length partition + 1) a kind.BadPlace c.spot)
    (λ (code : ℕ) d. cond (eqb code 0) (literal_at a grow d) (placed_at c.spot (live_at partition (code - 1)) d)) w
    (λ code. within_either (eqb code 0) (literal_at a grow) (placed_at c.spot (live_at partition (code - 1))) (literal_within a grow) (placed_within c.spot (live_at partition (code - 1))))

-- ---- names
pub uri_within : (a : Align) → StaysWithin (uri_at a)
uri_within a limits c w = indexed_within a (uris c.context.tables) with_uri limits c w

pub local_within : (a : Align) (uri : ℕ) → StaysWithin (local_at a uri)
unfolding local_at
local_within a uri limits c w =
    fine_behind limits c (unsigned_at c.spot)
    (λ (code : ℕ) d. cond (eqb code 0) (hit_at a (listed (locals c.context.tables uri)) d) (missed_at None a (λ p. with_local p uri) (code - 1) d)) w
    (λ code. within_either (eqb code 0) (hit_at a (listed (locals c.context.tables uri))) (missed_at None a (λ p. with_local p uri) (code - 1)) (hit_within a (listed (locals c.context.tables uri))) (missed_within None a (λ p. with_local p uri) (code - 1)))

told_within : (a : Align) (partition : List (List ℕ)) → StaysWithin (told_prefix a partition)
told_within a [] limits c w = w
told_within a (p ∷ ps) limits c w = fine_made limits (hit_at a (listed (p ∷ ps)) c) (λ text end. Some text) (hit_within a (listed (p ∷ ps)) limits c w)

prefix_within : (keep : Bool) (a : Align) (uri : ℕ) → StaysWithin (prefix_at keep a uri)
prefix_within true a uri limits c w = told_within a (prefixes_of c.context.tables uri) limits c w
prefix_within false a uri limits c w = w

abbrev under : ℕ → List ℕ → List ℕ → Option (List ℕ) → ReadState → Named
under uri text local prefix c = record {
  id = record { uri = uri; local = place_in (locals c.context.tables uri) local };
  name = record { uri = text; local = local; prefix = prefix };
}

under_within : (keep : Bool) (a : Align) (uri : ℕ) (text : List ℕ) → StaysWithin (name_under keep a uri text)
unfolding name_under
under_within keep a uri text =
    within_bind (local_at a uri) (λ local c. prefix_at keep a uri c >>= λ prefix. Ok (under uri text local prefix.0 prefix.1, prefix.1)) (local_within a uri)
    (λ local. within_made (prefix_at keep a uri) (λ prefix end. under uri text local prefix end) (prefix_within keep a uri))

pub name_within : (keep : Bool) (a : Align) → StaysWithin (name_at keep a)
unfolding name_at
name_within keep a =
    within_bind (uri_at a) (λ uri c. name_under keep a (place_in (uris c.context.tables) uri) uri c) (uri_within a)
    (λ uri limits c w. under_within keep a (place_in (uris c.context.tables) uri) uri limits c w)

abbrev known : NameId → List ℕ → List ℕ → Option (List ℕ) → Named
known id uri local prefix = record { id = id; name = record { uri = uri; local = local; prefix = prefix } }

pub known_within : (keep : Bool) (a : Align) (id : NameId) → StaysWithin (known_at keep a id)
unfolding known_at
known_within keep a id limits c w =
    within_bind (λ d. placed_at c.spot (live_at (uris d.context.tables) id.uri) d)
    (λ uri d. placed_at c.spot (live_at (locals d.context.tables id.uri) id.local) d >>= λ local. prefix_at keep a id.uri local.1 >>= λ prefix. Ok (known id uri local.0 prefix.0, prefix.1))
    (λ bounds d k. placed_within c.spot (live_at (uris d.context.tables) id.uri) bounds d k)
    (λ uri. within_bind (λ d. placed_at c.spot (live_at (locals d.context.tables id.uri) id.local) d)
    (λ local d. prefix_at keep a id.uri d >>= λ prefix. Ok (known id uri local prefix.0, prefix.1))
    (λ bounds d k. placed_within c.spot (live_at (locals d.context.tables id.uri) id.local) bounds d k)
    (λ local. within_made (prefix_at keep a id.uri) (λ prefix end. known id uri local prefix) (prefix_within keep a id.uri)))
    limits c w

pub name_value_within : (keep : Bool) (a : Align) → StaysWithin (name_value_at keep a)
unfolding name_value_at text_charge
name_value_within keep a limits c w = fine_paying limits c 1 c.spot.place (text_fits c.context.meter 1) (λ (m : Metering). name_at keep a (with_meter c m)) refl w (λ m k. name_within keep a limits (with_meter c m) k)

abbrev declared : List ℕ → List ℕ → ℕ → Declaration
declared uri prefix flag = record { uri = uri; prefix = prefix; element = eqb flag 1 }

flag_within : (a : Align) (uri prefix : List ℕ) → StaysWithin {X = Declaration} (λ d. failing d.context.meter (below_at 2 a kind.BadPlace d.spot) >>= λ flag. Ok (declared uri prefix flag.0, at_spot_of d flag.1))
flag_within a uri prefix limits d w = fine_behind limits d (below_at 2 a kind.BadPlace d.spot) (λ (flag : ℕ) e. Ok (declared uri prefix flag, e)) w (λ flag. within_given (declared uri prefix flag))

pub declaration_within : (a : Align) → StaysWithin (declaration_at a)
unfolding declaration_at declared_under
declaration_within a =
    within_bind (uri_at a)
    (λ uri c. indexed_at a (prefixes_of c.context.tables (place_in (uris c.context.tables) uri)) (λ p. with_prefix p (place_in (uris c.context.tables) uri)) c >>= λ prefix. failing prefix.1.context.meter (below_at 2 a kind.BadPlace prefix.1.spot) >>= λ flag. Ok (declared uri prefix.0 flag.0, at_spot_of prefix.1 flag.1))
    (uri_within a)
    (λ uri. within_bind (λ c. indexed_at a (prefixes_of c.context.tables (place_in (uris c.context.tables) uri)) (λ p. with_prefix p (place_in (uris c.context.tables) uri)) c)
    (λ prefix d. failing d.context.meter (below_at 2 a kind.BadPlace d.spot) >>= λ flag. Ok (declared uri prefix flag.0, at_spot_of d flag.1))
    (λ limits c w. indexed_within a (prefixes_of c.context.tables (place_in (uris c.context.tables) uri)) (λ p. with_prefix p (place_in (uris c.context.tables) uri)) limits c w)
    (λ prefix. flag_within a uri prefix))

pub value_within : (set : Option (List ℕ)) (a : Align) (name : NameId) → StaysWithin (value_at set a name)
unfolding value_at
value_within set a name limits c w =
    fine_behind limits c (unsigned_at c.spot)
    (λ (code : ℕ) d. cond (eqb code 0) (hit_at a (own_values c.context.tables name) d) (cond (eqb code 1) (hit_at a (listed (values c.context.tables)) d) (missed_at set a (λ p. with_value p name) (code - 2) d))) w
    (λ code. within_either (eqb code 0) (hit_at a (own_values c.context.tables name)) (λ d. cond (eqb code 1) (hit_at a (listed (values c.context.tables)) d) (missed_at set a (λ p. with_value p name) (code - 2) d)) (hit_within a (own_values c.context.tables name))
    (within_either (eqb code 1) (hit_at a (listed (values c.context.tables))) (missed_at set a (λ p. with_value p name) (code - 2)) (hit_within a (listed (values c.context.tables))) (missed_within set a (λ p. with_value p name) (code - 2))))
