-- Each reading charges a list of texts, whatever the meter is.
use Rattle.std.proofs.Common.{◌≡◌, ℕ, ◌+◌, ◌-◌, Bool, true, false, cond, eqb, List, [], ◌∷◌, ◌++◌, length, Option, Some, None, Result, Ok, Err, refl, ap, ◌∙◌}
use Rattle.exi_bits.specs.declared.align.Align.{Align}
use Rattle.exi_bits.specs.declared.fault.Fault.{Fault}
use Rattle.exi_bits.specs.declared.fault.Kind.TheVariants as kind
use Rattle.exi_bits.specs.Bits.{Spot}
use Rattle.exi_bits.specs.Repeat.{Reader, times}
use Rattle.exi_bits.specs.Unsigned.{◌>>=◌, below_at, unsigned_at}
use Rattle.exi_items.specs.Charges.{text_charge}
use Rattle.exi_meter.specs.Metering.{Metering, text_fits, with_text}
use Rattle.exi_names.specs.declared.names.NameId.{NameId}
use Rattle.exi_names.specs.Seen.{Value}
use Rattle.exi_names.specs.Seen as value
use Rattle.exi_tables.specs.Partitions.{Partitions, live_at, locals, prefixes, uris, values, with_local, with_prefix, with_uri, with_value}
use Rattle.exi_text.specs.Literals.{char_at}
use Rattle.exi_typed.specs.ReadStates.{ReadState, ContextReader, Failure, at_spot_of, failing}
use Rattle.exi_typed.specs.Items.{Tabled, item_at, qualified, string}
use Rattle.exi_typed.specs.Charging.{Charge, Unmetered, charging, metered}
use Rattle.exi_typed.specs.Metered.{IsMetered, Metered, ReadingsAreMetered}
use Rattle.exi_typed.specs.NameValues.{name_value_at}
use Rattle.exi_typed.specs.Strings.{Declaration, Growth, Named, Partition, charged_at, declaration_at, declared_under, hit_at, indexed_at, known_at, listed, literal_at, local_at, missed_at, name_at, name_under, own_values, place_in, placed_at, prefix_at, told_prefix, uri_at, value_at}
use Rattle.exi_typed.proofs.ContextItems.{context, grown, missed_charges, read_state, told}

-- ---- under `do`
-- a result goes into what follows
abbrev then_charges : {X Y : Type 0} (two : X → ContextReader Y) → ((x : X) → IsMetered (two x)) → Unmetered X → List Charge
then_charges two more (Ok found) = (more found.0 found.1.0 found.1.1).charges
then_charges two more (Err f) = []

abbrev then_rest : {X Y : Type 0} (two : X → ContextReader Y) → ((x : X) → IsMetered (two x)) → Unmetered X → Unmetered Y
then_rest two more (Ok found) = (more found.0 found.1.0 found.1.1).rest
then_rest two more (Err f) = Err f

none_then : {X Y : Type 0} (two : X → ContextReader Y) (more : (x : X) → IsMetered (two x)) (r : Unmetered X) (m : Metering) → (metered m r >>= λ x. two x.0 x.1) ≡ charging (then_charges two more r) m (then_rest two more r)
none_then two more (Ok found) m = (more found.0 found.1.0 found.1.1).is m
none_then two more (Err f) m = refl

abbrev stopped : {X : Type 0} → Charge → Metering → Result (X × ReadState) Failure
stopped k m = Err (record { fault = record { kind = kind.TextLimit; bit = k.bit }; meter = m })

charges_then : {X Y : Type 0} (two : X → ContextReader Y) (more : (x : X) → IsMetered (two x)) (r : Unmetered X) (ks : List Charge) (m : Metering) → (charging ks m r >>= λ x. two x.0 x.1) ≡ charging (ks ++ then_charges two more r) m (then_rest two more r)
charges_then two more r [] m = none_then two more r m
charges_then {X} {Y} two more r (k ∷ ks) m = by_fit (charges_then two more r ks (with_text m k.units)) (text_fits m k.units)
  where
    by_fit : (charging ks (with_text m k.units) r >>= λ x. two x.0 x.1) ≡ charging (ks ++ then_charges two more r) (with_text m k.units) (then_rest two more r)
        → (b : Bool) → (cond b (charging ks (with_text m k.units) r) (stopped {X = X} k m) >>= λ x. two x.0 x.1) ≡ cond b (charging (ks ++ then_charges two more r) (with_text m k.units) (then_rest two more r)) (stopped {X = Y} k m)
    by_fit e true = e
    by_fit e false = refl

-- one reading behind another
pub bind_metered : {X Y : Type 0} (one : ContextReader X) (two : X → ContextReader Y) → IsMetered one → ((x : X) → IsMetered (two x)) → IsMetered {X = Y} (λ c. one c >>= λ x. two x.0 x.1)
bind_metered {X} {Y} one two first more s p = record {
  charges = (first s p).charges ++ then_charges two more (first s p).rest;
  rest = then_rest two more (first s p).rest;
  is = λ m. ap (λ (z : Result (X × ReadState) Failure). z >>= λ x. two x.0 x.1) ((first s p).is m) ∙ charges_then two more (first s p).rest (first s p).charges m;
}

-- ---- what charges nothing
pub pure_metered : {X : Type 0} (x : X) → IsMetered {X = X} (λ c. Ok (x, c))
pure_metered x s p = record { charges = []; rest = Ok (x, (s, p)); is = λ m. refl }

-- bits alone, and then a reading
after_bits : {X Y : Type 0} (p : Partitions) (two : X → ContextReader Y) → ((x : X) → IsMetered (two x)) → (r : Result (X × Spot) Fault) → Metered {X = Y} (λ m. failing m r >>= λ x. two x.0 (read_state x.1 (context m p)))
after_bits p two more (Ok x) = record { charges = (more x.0 x.1 p).charges; rest = (more x.0 x.1 p).rest; is = λ m. (more x.0 x.1 p).is m }
after_bits p two more (Err f) = record { charges = []; rest = Err f; is = λ m. refl }

pub behind_metered : {X Y : Type 0} (one : Reader X) (two : X → ContextReader Y) → ((x : X) → IsMetered (two x)) → IsMetered {X = Y} (λ c. failing c.context.meter (one c.spot) >>= λ x. two x.0 (at_spot_of c x.1))
behind_metered one two more s p = after_bits p two more (one s)

pub chosen_metered : {X : Type 0} (b : Bool) (one two : ContextReader X) → IsMetered one → IsMetered two → IsMetered {X = X} (λ c. cond b (one c) (two c))
chosen_metered true one two f g = f
chosen_metered false one two f g = g

-- what depends on the spot and the tables at its start
pub at_start_metered : {X : Type 0} (read : Spot → Partitions → ContextReader X) → ((s : Spot) (p : Partitions) → IsMetered (read s p)) → IsMetered {X = X} (λ c. read c.spot c.context.tables c)
at_start_metered read more s p = more s p s p

-- ---- a charge, and what follows
pub paying_metered : {X : Type 0} (units : ℕ) (read : ContextReader X) → IsMetered read → IsMetered {X = X} (λ c. failing c.context.meter (text_charge units c.spot.place c.context.meter) >>= λ meter. read (read_state c.spot (context meter c.context.tables)))
unfolding text_charge
paying_metered {X} units read more s p = record {
  charges = record { units = units; bit = s.place } ∷ (more s p).charges;
  rest = (more s p).rest;
  is = λ m. by_fit m (text_fits m units);
}
  where
    limit : Fault
    limit = record { kind = kind.TextLimit; bit = s.place }

    by_fit : (m : Metering) (b : Bool) → (failing m (cond b (Ok (with_text m units)) (Err limit)) >>= λ meter. read (read_state s (context meter p))) ≡ cond b (charging (more s p).charges (with_text m units) (more s p).rest) (Err (record { fault = limit; meter = m }))
    by_fit m true = (more s p).is (with_text m units)
    by_fit m false = refl

charged_metered : (text : List ℕ) → IsMetered (charged_at text)
unfolding charged_at
charged_metered text = paying_metered (length text) (λ c. told {X = List ℕ × ReadState} (text, c)) (pure_metered text)

pub placed_metered : (s : Spot) (o : Option (List ℕ)) → IsMetered (placed_at s o)
placed_metered s (Some text) t p = charged_metered text t p
placed_metered s None t p = record { charges = []; rest = Err (record { kind = kind.BadPlace; bit = s.place }); is = λ m. refl }

hit_metered : (a : Align) (partition : Partition) → IsMetered (hit_at a partition)
unfolding hit_at
hit_metered a partition s p = behind_metered (below_at partition.count a kind.BadPlace) (λ place. placed_at s (partition.text_at place)) (λ place. placed_metered s (partition.text_at place)) s p

-- ---- a miss
missed_metered : (set : Option (List ℕ)) (a : Align) (grow : Growth) (count : ℕ) → IsMetered (missed_at set a grow count)
missed_metered set a grow count s p = record {
  charges = record { units = count; bit = s.place } ∷ [];
  rest = grown grow p (times (char_at set a) count s);
  is = λ m. missed_charges set a grow count s p m;
}

pub literal_metered : (a : Align) (grow : Growth) → IsMetered (literal_at a grow)
unfolding literal_at
literal_metered a grow = behind_metered unsigned_at (missed_at None a grow) (missed_metered None a grow)

indexed_metered : (a : Align) (partition : List (List ℕ)) (grow : Growth) → IsMetered (indexed_at a partition grow)
unfolding indexed_at
indexed_metered a partition grow s p =
    behind_metered (below_at (length partition + 1) a kind.BadPlace) (λ code e. cond (eqb code 0) (literal_at a grow e) (placed_at s (live_at partition (code - 1)) e))
    (λ code. chosen_metered (eqb code 0) (literal_at a grow) (placed_at s (live_at partition (code - 1))) (literal_metered a grow) (placed_metered s (live_at partition (code - 1)))) s p

uri_metered : (a : Align) → IsMetered (uri_at a)
uri_metered a s p = indexed_metered a (uris p) with_uri s p

local_metered : (a : Align) (uri : ℕ) → IsMetered (local_at a uri)
unfolding local_at
local_metered a uri s p = behind_metered unsigned_at (λ code c. cond (eqb code 0) (hit_at a (listed (locals p uri)) c) (missed_at None a (λ q. with_local q uri) (code - 1) c))
    (λ code. chosen_metered (eqb code 0) (hit_at a (listed (locals p uri))) (missed_at None a (λ q. with_local q uri) (code - 1)) (hit_metered a (listed (locals p uri))) (missed_metered None a (λ q. with_local q uri) (code - 1))) s p

pub value_metered : (set : Option (List ℕ)) (a : Align) (name : NameId) → IsMetered (value_at set a name)
unfolding value_at
value_metered set a name s p = behind_metered unsigned_at
    (λ code c. cond (eqb code 0) (hit_at a (own_values p name) c) (cond (eqb code 1) (hit_at a (listed (values p)) c) (missed_at set a (λ q. with_value q name) (code - 2) c)))
    (λ code. chosen_metered (eqb code 0) (hit_at a (own_values p name)) (λ c. cond (eqb code 1) (hit_at a (listed (values p)) c) (missed_at set a (λ q. with_value q name) (code - 2) c)) (hit_metered a (own_values p name))
    (chosen_metered (eqb code 1) (hit_at a (listed (values p))) (missed_at set a (λ q. with_value q name) (code - 2)) (hit_metered a (listed (values p))) (missed_metered set a (λ q. with_value q name) (code - 2)))) s p

-- ---- names
prefix_in_metered : (a : Align) (partition : List (List ℕ)) → IsMetered (told_prefix a partition)
prefix_in_metered a [] = pure_metered None
prefix_in_metered a (q ∷ qs) = bind_metered (hit_at a (listed (q ∷ qs))) (λ text c. told {X = Option (List ℕ) × ReadState} (Some text, c)) (hit_metered a (listed (q ∷ qs))) (λ text. pure_metered (Some text))

prefix_metered : (keep : Bool) (a : Align) (uri : ℕ) → IsMetered (prefix_at keep a uri)
prefix_metered true a uri s p = prefix_in_metered a (prefixes p uri) s p
prefix_metered false a uri s p = pure_metered None s p

abbrev named_of : NameId → List ℕ → List ℕ → Option (List ℕ) → Named
named_of id uri local prefix = record { id = id; name = record { uri = uri; local = local; prefix = prefix } }

module _ (keep : Bool) (a : Align) where
  abbrev in_space : ℕ → List ℕ → List ℕ → Option (List ℕ) → Partitions → Named
  in_space uri space local prefix p = named_of (record { uri = uri; local = place_in (locals p uri) local }) space local prefix

  pub under_metered : (uri : ℕ) (space : List ℕ) → IsMetered (name_under keep a uri space)
  unfolding name_under
  under_metered uri space = bind_metered (local_at a uri) (λ local c. prefix_at keep a uri c >>= λ prefix. told {X = Named × ReadState} (in_space uri space local prefix.0 prefix.1.context.tables, prefix.1)) (local_metered a uri)
      (λ local. bind_metered (prefix_at keep a uri) (λ prefix c. told {X = Named × ReadState} (in_space uri space local prefix c.context.tables, c)) (prefix_metered keep a uri)
      (λ prefix s p. record { charges = []; rest = Ok (in_space uri space local prefix p, (s, p)); is = λ m. refl }))

  pub name_metered : IsMetered (name_at keep a)
  unfolding name_at
  name_metered = bind_metered (uri_at a) (λ space c. name_under keep a (place_in (uris c.context.tables) space) space c) (uri_metered a) (λ space s p. under_metered (place_in (uris p) space) space s p)

  pub known_metered : (id : NameId) → IsMetered (known_at keep a id)
  unfolding known_at
  known_metered id s p =
      bind_metered (λ c. placed_at s (live_at (uris c.context.tables) id.uri) c)
      (λ uri c. placed_at s (live_at (locals c.context.tables id.uri) id.local) c >>= λ local. prefix_at keep a id.uri local.1 >>= λ prefix. told {X = Named × ReadState} (named_of id uri local.0 prefix.0, prefix.1))
      (λ t q. placed_metered s (live_at (uris q) id.uri) t q)
      (λ uri. bind_metered (λ c. placed_at s (live_at (locals c.context.tables id.uri) id.local) c)
      (λ local c. prefix_at keep a id.uri c >>= λ prefix. told {X = Named × ReadState} (named_of id uri local prefix.0, prefix.1))
      (λ t q. placed_metered s (live_at (locals q id.uri) id.local) t q)
      (λ local. bind_metered (prefix_at keep a id.uri) (λ prefix c. told {X = Named × ReadState} (named_of id uri local prefix, c)) (prefix_metered keep a id.uri) (λ prefix. pure_metered (named_of id uri local prefix))))
      s p

  pub name_value_metered : IsMetered (name_value_at keep a)
  unfolding name_value_at
  name_value_metered = paying_metered 1 (name_at keep a) name_metered

-- ---- namespace declarations
module _ (a : Align) where
  abbrev space_of : List ℕ → Partitions → ℕ
  space_of uri p = place_in (uris p) uri

  abbrev declared_as : List ℕ → List ℕ → ℕ → Declaration
  declared_as uri prefix flag = record { uri = uri; prefix = prefix; element = eqb flag 1 }

  pub declaration_metered : IsMetered (declaration_at a)
  unfolding declaration_at declared_under
  declaration_metered = bind_metered (uri_at a)
      (λ uri c. indexed_at a (prefixes c.context.tables (space_of uri c.context.tables)) (λ q. with_prefix q (space_of uri c.context.tables)) c >>= λ prefix. failing prefix.1.context.meter (below_at 2 a kind.BadPlace prefix.1.spot) >>= λ flag. told {X = Declaration × ReadState} (declared_as uri prefix.0 flag.0, at_spot_of prefix.1 flag.1))
      (uri_metered a)
      (λ uri. bind_metered (λ c. indexed_at a (prefixes c.context.tables (space_of uri c.context.tables)) (λ q. with_prefix q (space_of uri c.context.tables)) c)
      (λ prefix c. failing c.context.meter (below_at 2 a kind.BadPlace c.spot) >>= λ flag. told {X = Declaration × ReadState} (declared_as uri prefix flag.0, at_spot_of c flag.1))
      (λ s p. indexed_metered a (prefixes p (space_of uri p)) (λ q. with_prefix q (space_of uri p)) s p)
      (λ prefix. behind_metered (below_at 2 a kind.BadPlace) (λ flag c. told {X = Declaration × ReadState} (declared_as uri prefix flag, c)) (λ flag. pure_metered (declared_as uri prefix flag))))

-- ---- items
pub item_metered : (kind : Tabled) (a : Align) (name : NameId) → IsMetered (item_at kind a name)
unfolding item_at
item_metered string a name = bind_metered (value_at None a name) (λ text c. told {X = Value × ReadState} (value.text text, c)) (value_metered None a name) (λ text. pure_metered (value.text text))
item_metered (qualified keep) a name = bind_metered (name_value_at keep a) (λ n c. told {X = Value × ReadState} (value.name n.name, c)) (name_value_metered keep a) (λ n. pure_metered (value.name n.name))

pub readings_are_metered : ReadingsAreMetered
readings_are_metered = record {
  literals = literal_metered;
  names = name_metered;
  known = known_metered;
  declarations = declaration_metered;
  values = value_metered;
  name_values = name_value_metered;
  items = item_metered;
}
