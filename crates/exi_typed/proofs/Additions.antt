-- How much a reading adds to the string tables at most.
use Rattle.std.proofs.Common.{◌≡◌, ℕ, ◌+◌, ◌-◌, ◌≤◌, Bool, true, false, cond, eqb, List, [], ◌∷◌, ◌++◌, length, Option, Some, None, refl, ap, subst, arith, inl, inr, length-append}
use Rattle.std.proofs.lemmas.Bool.{cases_eq}
use Rattle.std.proofs.lemmas.List.{map-append}
use Rattle.std.specs.Prelude.{option_map, slice_get}
use Rattle.exi_bits.specs.declared.align.Align.{Align}
use Rattle.exi_bits.specs.declared.fault.Kind.TheVariants as kind
use Rattle.exi_bits.specs.Bits.{Spot}
use Rattle.exi_bits.specs.Repeat.{Reader}
use Rattle.exi_bits.specs.Unsigned.{◌>>=◌, below_at, unsigned_at}
use Rattle.exi_items.specs.Charges.{Charged, after_text, text_charge}
use Rattle.exi_meter.specs.Metering.{Metering}
use Rattle.exi_names.specs.declared.names.NameId.{NameId}
use Rattle.exi_names.specs.Seen.{Value}
use Rattle.exi_names.specs.Seen as value
use Rattle.exi_tables.specs.Growth.{NoneLonger}
use Rattle.exi_tables.specs.Partitions.{Namespace, Partitions, and_local, and_prefix, live_at, locals, locals_in, name_values, prefixes, prefixes_in, uris, values, with_local, with_prefix, with_uri, with_value}
use Rattle.exi_tables.specs.Values.{changed_at}
use Rattle.exi_tables.proofs.Growing.{changed_others, get_appended, get_changed, longer_locals, longer_prefixes, uris_changed}
use Rattle.exi_tables.proofs.Longer.{own_longer, texts_longer}
use Rattle.exi_text.specs.Literals.{chars_at}
use Rattle.exi_typed.specs.ReadStates.{ReadState, ContextReader, at_spot_of, failing}
use Rattle.exi_typed.specs.Items.{Tabled, item_at, qualified, string}
use Rattle.exi_typed.specs.NameValues.{name_value_at}
use Rattle.exi_typed.specs.Strings.{Declaration, Growth, Named, Partition, charged_at, declaration_at, declared_under, hit_at, indexed_at, known_at, listed, literal_at, local_at, missed_at, name_at, name_under, no_growth, own_values, place_in, placed_at, prefix_at, told_prefix, uri_at, value_at}
use Rattle.exi_typed.proofs.ContextItems.{context, bind_told, read_state, told, told_is}

-- so many texts to each list of a kind
pub record Adding : Type 0 where
  pub uris : ℕ
  pub locals : ℕ
  pub prefixes : ℕ
  pub values : ℕ

abbrev pub none_added : Adding
none_added = record { uris = 0; locals = 0; prefixes = 0; values = 0 }

abbrev pub plus : Adding → Adding → Adding
plus m n = record { uris = m.uris + n.uris; locals = m.locals + n.locals; prefixes = m.prefixes + n.prefixes; values = m.values + n.values }

pub record Up (n : Adding) (old new : Partitions) : Type 0 where
  pub few_uris : length (uris new) ≤ length (uris old) + n.uris
  pub few_locals : (uri : ℕ) → length (locals new uri) ≤ length (locals old uri) + n.locals
  pub few_prefixes : (uri : ℕ) → length (prefixes new uri) ≤ length (prefixes old uri) + n.prefixes
  pub few_values : length (values new) ≤ length (values old) + n.values
  pub few_own : (name : NameId) → name_values new name ≤ name_values old name + n.values

pub record Within (m n : Adding) : Type 0 where
  pub uris : m.uris ≤ n.uris
  pub locals : m.locals ≤ n.locals
  pub prefixes : m.prefixes ≤ n.prefixes
  pub values : m.values ≤ n.values

pub up_same : (p : Partitions) → Up none_added p p
up_same p = record { few_uris = omega arith; few_locals = λ uri. omega arith; few_prefixes = λ uri. omega arith; few_values = omega arith; few_own = λ name. omega arith }

pub up_within : (m n : Adding) (p q : Partitions) → Within m n → Up m p q → Up n p q
up_within m n p q w u = record {
  few_uris = omega (arith, w.uris, u.few_uris);
  few_locals = λ uri. omega (arith, w.locals, u.few_locals uri);
  few_prefixes = λ uri. omega (arith, w.prefixes, u.few_prefixes uri);
  few_values = omega (arith, w.values, u.few_values);
  few_own = λ name. omega (arith, w.values, u.few_own name);
}

pub nothing_within : (n : Adding) → Within none_added n
nothing_within n = record { uris = omega arith; locals = omega arith; prefixes = omega arith; values = omega arith }

pub up_then : (m n : Adding) (p q r : Partitions) → Up m p q → Up n q r → Up (plus m n) p r
up_then m n p q r u v = record {
  few_uris = omega (arith, u.few_uris, v.few_uris);
  few_locals = λ uri. omega (arith, u.few_locals uri, v.few_locals uri);
  few_prefixes = λ uri. omega (arith, u.few_prefixes uri, v.few_prefixes uri);
  few_values = omega (arith, u.few_values, v.few_values);
  few_own = λ name. omega (arith, u.few_own name, v.few_own name);
}

-- ---- one text more
abbrev one_uri : Adding
one_uri = record { uris = 1; locals = 0; prefixes = 0; values = 0 }

abbrev one_local : Adding
one_local = record { uris = 0; locals = 1; prefixes = 0; values = 0 }

abbrev one_prefix : Adding
one_prefix = record { uris = 0; locals = 0; prefixes = 1; values = 0 }

abbrev one_value : Adding
one_value = record { uris = 0; locals = 0; prefixes = 0; values = 1 }

-- a namespace more, of which the list is empty
appended_same : (h : Option Namespace → List (List ℕ)) (ns : List Namespace) (n : Namespace) (i : ℕ) → h None ≡ [] → h (Some n) ≡ [] → h (slice_get (ns ++ n ∷ []) i) ≡ h (slice_get ns i)
appended_same h ns n i none some = elim (get_appended ns n i) [
  | inl same ↦ ap h same
  | inr past ↦ rw (past.0, past.1, none, some) refl
]

changed_up : (h : Option Namespace → List (List ℕ)) (f : Namespace → Namespace) (most : ℕ) (ns : List Namespace) (uri i : ℕ) → ((o : Option Namespace) → length (h (option_map f o)) ≤ length (h o) + most) → length (h (slice_get (changed_at ns uri f) i)) ≤ length (h (slice_get ns i)) + most
changed_up h f most ns uri i more = elim (cases_eq i uri) [
  | inl same ↦ rw (same, get_changed ns uri f) (more (slice_get ns uri))
  | inr other ↦ rw (changed_others h f ns uri i other) (omega arith)
]

grows_local : (text : List ℕ) (o : Option Namespace) → length (prefixes_in (option_map (and_local text) o)) ≤ length (prefixes_in o) + 0
grows_local text None = omega arith
grows_local text (Some n) = omega arith

grows_prefix : (text : List ℕ) (o : Option Namespace) → length (locals_in (option_map (and_prefix text) o)) ≤ length (locals_in o) + 0
grows_prefix text None = omega arith
grows_prefix text (Some n) = omega arith

-- what is added, so much at most
abbrev pub GrowsBy : Adding → Growth → Type 0
GrowsBy n grow = (p : Partitions) (text : List ℕ) → Up n p (grow p text)

pub no_growth_up : GrowsBy none_added no_growth
no_growth_up p text = up_same p

pub uri_more : GrowsBy one_uri with_uri
uri_more p text =
    let n : Namespace = record { uri = text; locals = []; prefixes = [] } in
    let long : uris (with_uri p text) ≡ uris p ++ text ∷ [] = map-append (λ m. m.uri) p.namespaces (n ∷ []) in
    record {
      few_uris = rw long (omega (arith, length-append (uris p) (text ∷ [])));
      few_locals = λ uri. rw (appended_same locals_in p.namespaces n uri refl refl) (omega arith);
      few_prefixes = λ uri. rw (appended_same prefixes_in p.namespaces n uri refl refl) (omega arith);
      few_values = omega arith;
      few_own = λ name. omega arith;
    }

pub local_more : (uri : ℕ) → GrowsBy one_local (λ p. with_local p uri)
local_more uri p text =
    let f : Namespace → Namespace = and_local text in
    record {
      few_uris = rw (uris_changed f p.namespaces uri (λ n. refl)) (omega arith);
      few_locals = λ i. changed_up locals_in f 1 p.namespaces uri i (longer_locals text);
      few_prefixes = λ i. changed_up prefixes_in f 0 p.namespaces uri i (grows_local text);
      few_values = omega arith;
      few_own = λ name. omega arith;
    }

pub prefix_more : (uri : ℕ) → GrowsBy one_prefix (λ p. with_prefix p uri)
prefix_more uri p text =
    let f : Namespace → Namespace = and_prefix text in
    record {
      few_uris = rw (uris_changed f p.namespaces uri (λ n. refl)) (omega arith);
      few_locals = λ i. changed_up locals_in f 0 p.namespaces uri i (grows_prefix text);
      few_prefixes = λ i. changed_up prefixes_in f 1 p.namespaces uri i (longer_prefixes text);
      few_values = omega arith;
      few_own = λ name. omega arith;
    }

pub value_more : (name : NameId) → GrowsBy one_value (λ p. with_value p name)
value_more name p text = record {
  few_uris = omega arith;
  few_locals = λ i. omega arith;
  few_prefixes = λ i. omega arith;
  few_values = texts_longer p.values name text;
  few_own = λ other. own_longer p.values name other text;
}

-- ---- readings
-- a reading that adds so much at most
abbrev pub Grows : {X : Type 0} → Adding → ContextReader X → Type 0
Grows {X} n read = (x : X) (c d : ReadState) → read c ≡ told (x, d) → Up n c.context.tables d.context.tables

pub grows_within : {X : Type 0} (m n : Adding) (read : ContextReader X) → Within m n → Grows m read → Grows n read
grows_within m n read w g x c d r = up_within m n c.context.tables d.context.tables w (g x c d r)

pub behind_up : {X Y : Type 0} (n : Adding) (one : Reader X) (two : X → ContextReader Y) → ((x : X) → Grows n (two x)) → Grows {X = Y} n (λ c. failing c.context.meter (one c.spot) >>= λ x. two x.0 (at_spot_of c x.1))
behind_up {X} n one two g y c d r =
    let u = bind_told (failing c.context.meter (one c.spot)) (λ (x : X × Spot). two x.0 (at_spot_of c x.1)) (y, d) r in
    g u.0.0 y (at_spot_of c u.0.1) d u.2

pub chained_up : {X Y : Type 0} (m n : Adding) (one : ContextReader X) (two : X → ContextReader Y) → Grows m one → ((x : X) → Grows n (two x)) → Grows {X = Y} (plus m n) (λ c. one c >>= λ x. two x.0 x.1)
chained_up {X} m n one two f g y c d r =
    let u = bind_told (one c) (λ (x : X × ReadState). two x.0 x.1) (y, d) r in
    up_then m n c.context.tables u.0.1.context.tables d.context.tables (f u.0.0 c u.0.1 u.1) (g u.0.0 y u.0.1 d u.2)

pub paying_up : {X : Type 0} (n : Adding) (units : ℕ) (read : ContextReader X) → Grows n read → Grows {X = X} n (λ c. failing c.context.meter (text_charge units c.spot.place c.context.meter) >>= λ meter. read (read_state c.spot (context meter c.context.tables)))
paying_up n units read f x c d r =
    let u = bind_told (failing c.context.meter (text_charge units c.spot.place c.context.meter)) (λ (m : Metering). read (read_state c.spot (context m c.context.tables))) (x, d) r in
    f x (read_state c.spot (context u.0 c.context.tables)) d u.2

pub told_up : {X : Type 0} (f : ReadState → X) → Grows {X = X} none_added (λ c. told {X = X × ReadState} (f c, c))
told_up {X} f x c d r = subst (λ (z : X × ReadState). Up none_added c.context.tables z.1.context.tables) (told_is (f c, c) (x, d) r) (up_same c.context.tables)

chosen_up : {X : Type 0} (n : Adding) (b : Bool) (one two : ContextReader X) → Grows n one → Grows n two → Grows {X = X} n (λ c. cond b (one c) (two c))
chosen_up n true one two f g = f
chosen_up n false one two f g = g

pub placed_up : (s : Spot) (o : Option (List ℕ)) → Grows {X = List ℕ} none_added (placed_at s o)
unfolding charged_at
placed_up s None x c d r = absurd cc
placed_up s (Some text) x c d r = paying_up none_added (length text) (λ e. told {X = List ℕ × ReadState} (text, e)) (told_up (λ e. text)) x c d r

hit_up : (a : Align) (partition : Partition) → Grows {X = List ℕ} none_added (hit_at a partition)
unfolding hit_at
hit_up a partition x c d r = behind_up none_added (below_at partition.count a kind.BadPlace) (λ place. placed_at c.spot (partition.text_at place)) (λ place. placed_up c.spot (partition.text_at place)) x c d r

missed_up : (n : Adding) (set : Option (List ℕ)) (a : Align) (grow : Growth) (count : ℕ) → GrowsBy n grow → Grows {X = List ℕ} n (missed_at set a grow count)
unfolding missed_at
missed_up n set a grow count more x c d r =
    let u = bind_told (failing (after_text c.context.meter count) (chars_at set a count (record { spot = c.spot; meter = c.context.meter }))) (λ (p : List ℕ × Charged). told {X = List ℕ × ReadState} (p.0, read_state p.1.spot (context p.1.meter (grow c.context.tables p.0)))) (x, d) r in
    subst (λ (z : List ℕ × ReadState). Up n c.context.tables z.1.context.tables) (told_is (u.0.0, read_state u.0.1.spot (context u.0.1.meter (grow c.context.tables u.0.0))) (x, d) u.2) (more c.context.tables u.0.0)

pub literal_up : (n : Adding) (a : Align) (grow : Growth) → GrowsBy n grow → Grows {X = List ℕ} n (literal_at a grow)
unfolding literal_at
literal_up n a grow more = behind_up n unsigned_at (missed_at None a grow) (λ count. missed_up n None a grow count more)

indexed_up : (n : Adding) (a : Align) (partition : List (List ℕ)) (grow : Growth) → GrowsBy n grow → Grows {X = List ℕ} n (indexed_at a partition grow)
unfolding indexed_at
indexed_up n a partition grow more x c d r =
    behind_up n (below_at (length partition + 1) a kind.BadPlace) (λ code e. cond (eqb code 0) (literal_at a grow e) (placed_at c.spot (live_at partition (code - 1)) e))
    (λ code. chosen_up n (eqb code 0) (literal_at a grow) (placed_at c.spot (live_at partition (code - 1))) (literal_up n a grow more) (grows_within none_added n (placed_at c.spot (live_at partition (code - 1))) (nothing_within n) (placed_up c.spot (live_at partition (code - 1))))) x c d r

uri_up : (a : Align) → Grows {X = List ℕ} one_uri (uri_at a)
uri_up a x c d r = indexed_up one_uri a (uris c.context.tables) with_uri uri_more x c d r

local_up : (a : Align) (uri : ℕ) → Grows {X = List ℕ} one_local (local_at a uri)
unfolding local_at
local_up a uri = behind_up one_local unsigned_at (λ code c. cond (eqb code 0) (hit_at a (listed (locals c.context.tables uri)) c) (missed_at None a (λ p. with_local p uri) (code - 1) c))
    (λ code. chosen_up one_local (eqb code 0) (λ c. hit_at a (listed (locals c.context.tables uri)) c) (missed_at None a (λ p. with_local p uri) (code - 1)) (λ x c d r. up_within none_added one_local c.context.tables d.context.tables (nothing_within one_local) (hit_up a (listed (locals c.context.tables uri)) x c d r)) (missed_up one_local None a (λ p. with_local p uri) (code - 1) (local_more uri)))

value_up : (set : Option (List ℕ)) (a : Align) (name : NameId) → Grows {X = List ℕ} one_value (value_at set a name)
unfolding value_at
value_up set a name = behind_up one_value unsigned_at
    (λ code c. cond (eqb code 0) (hit_at a (own_values c.context.tables name) c) (cond (eqb code 1) (hit_at a (listed (values c.context.tables)) c) (missed_at set a (λ p. with_value p name) (code - 2) c)))
    (λ code. chosen_up one_value (eqb code 0) (λ c. hit_at a (own_values c.context.tables name) c) (λ c. cond (eqb code 1) (hit_at a (listed (values c.context.tables)) c) (missed_at set a (λ p. with_value p name) (code - 2) c)) (λ x c d r. up_within none_added one_value c.context.tables d.context.tables (nothing_within one_value) (hit_up a (own_values c.context.tables name) x c d r))
    (chosen_up one_value (eqb code 1) (λ c. hit_at a (listed (values c.context.tables)) c) (missed_at set a (λ p. with_value p name) (code - 2)) (λ x c d r. up_within none_added one_value c.context.tables d.context.tables (nothing_within one_value) (hit_up a (listed (values c.context.tables)) x c d r)) (missed_up one_value set a (λ p. with_value p name) (code - 2) (value_more name))))

-- ---- names
prefix_in_up : (a : Align) (partition : List (List ℕ)) → Grows {X = Option (List ℕ)} none_added (told_prefix a partition)
prefix_in_up a [] = told_up (λ c. None)
prefix_in_up a (p ∷ ps) = chained_up none_added none_added (hit_at a (listed (p ∷ ps))) (λ text c. told {X = Option (List ℕ) × ReadState} (Some text, c)) (hit_up a (listed (p ∷ ps))) (λ text. told_up (λ c. Some text))

prefix_up : (keep : Bool) (a : Align) (uri : ℕ) → Grows {X = Option (List ℕ)} none_added (prefix_at keep a uri)
prefix_up true a uri x c d r = prefix_in_up a (prefixes c.context.tables uri) x c d r
prefix_up false a uri x c d r = told_up (λ e. None) x c d r

abbrev named_of : NameId → List ℕ → List ℕ → Option (List ℕ) → Named
named_of id uri local prefix = record { id = id; name = record { uri = uri; local = local; prefix = prefix } }

-- a name adds a URI and a local name at most
abbrev pub one_name : Adding
one_name = record { uris = 1; locals = 1; prefixes = 0; values = 0 }

module _ (keep : Bool) (a : Align) where
  abbrev in_space : ℕ → List ℕ → List ℕ → Option (List ℕ) → ReadState → Named
  in_space uri space local prefix c = named_of (record { uri = uri; local = place_in (locals c.context.tables uri) local }) space local prefix

  pub under_up : (uri : ℕ) (space : List ℕ) → Grows {X = Named} one_local (name_under keep a uri space)
  unfolding name_under
  under_up uri space = chained_up one_local none_added (local_at a uri) (λ local c. prefix_at keep a uri c >>= λ prefix. told {X = Named × ReadState} (in_space uri space local prefix.0 prefix.1, prefix.1)) (local_up a uri)
      (λ local. chained_up none_added none_added (prefix_at keep a uri) (λ prefix c. told {X = Named × ReadState} (in_space uri space local prefix c, c)) (prefix_up keep a uri) (λ prefix. told_up (in_space uri space local prefix)))

  pub name_up : Grows {X = Named} one_name (name_at keep a)
  unfolding name_at
  name_up = chained_up one_uri one_local (uri_at a) (λ space c. name_under keep a (place_in (uris c.context.tables) space) space c) (uri_up a) (λ space x c. under_up (place_in (uris c.context.tables) space) space x c)

  pub known_up : (id : NameId) → Grows {X = Named} none_added (known_at keep a id)
  unfolding known_at
  known_up id x b d r =
      chained_up none_added none_added (λ c. placed_at b.spot (live_at (uris c.context.tables) id.uri) c)
      (λ uri c. placed_at b.spot (live_at (locals c.context.tables id.uri) id.local) c >>= λ local. prefix_at keep a id.uri local.1 >>= λ prefix. told {X = Named × ReadState} (named_of id uri local.0 prefix.0, prefix.1))
      (λ y c. placed_up b.spot (live_at (uris c.context.tables) id.uri) y c)
      (λ uri. chained_up none_added none_added (λ c. placed_at b.spot (live_at (locals c.context.tables id.uri) id.local) c)
      (λ local c. prefix_at keep a id.uri c >>= λ prefix. told {X = Named × ReadState} (named_of id uri local prefix.0, prefix.1))
      (λ y c. placed_up b.spot (live_at (locals c.context.tables id.uri) id.local) y c)
      (λ local. chained_up none_added none_added (prefix_at keep a id.uri) (λ prefix c. told {X = Named × ReadState} (named_of id uri local prefix, c)) (prefix_up keep a id.uri) (λ prefix. told_up (λ c. named_of id uri local prefix))))
      x b d r

  pub name_value_up : Grows {X = Named} one_name (name_value_at keep a)
  unfolding name_value_at
  name_value_up = paying_up one_name 1 (name_at keep a) name_up

-- ---- namespace declarations
-- a URI and a prefix
abbrev pub one_declaration : Adding
one_declaration = record { uris = 1; locals = 0; prefixes = 1; values = 0 }

module _ (a : Align) where
  abbrev space_of : List ℕ → ReadState → ℕ
  space_of uri c = place_in (uris c.context.tables) uri

  abbrev declared_as : List ℕ → List ℕ → ℕ → Declaration
  declared_as uri prefix flag = record { uri = uri; prefix = prefix; element = eqb flag 1 }

  pub declaration_up : Grows {X = Declaration} one_declaration (declaration_at a)
  unfolding declaration_at declared_under
  declaration_up = chained_up one_uri one_prefix (uri_at a)
      (λ uri c. indexed_at a (prefixes c.context.tables (space_of uri c)) (λ p. with_prefix p (space_of uri c)) c >>= λ prefix. failing prefix.1.context.meter (below_at 2 a kind.BadPlace prefix.1.spot) >>= λ flag. told {X = Declaration × ReadState} (declared_as uri prefix.0 flag.0, at_spot_of prefix.1 flag.1))
      (uri_up a)
      (λ uri. chained_up one_prefix none_added (λ c. indexed_at a (prefixes c.context.tables (space_of uri c)) (λ p. with_prefix p (space_of uri c)) c)
      (λ prefix c. failing c.context.meter (below_at 2 a kind.BadPlace c.spot) >>= λ flag. told {X = Declaration × ReadState} (declared_as uri prefix flag.0, at_spot_of c flag.1))
      (λ x c. indexed_up one_prefix a (prefixes c.context.tables (space_of uri c)) (λ p. with_prefix p (space_of uri c)) (prefix_more (space_of uri c)) x c)
      (λ prefix. behind_up none_added (below_at 2 a kind.BadPlace) (λ flag c. told {X = Declaration × ReadState} (declared_as uri prefix flag, c)) (λ flag. told_up (λ c. declared_as uri prefix flag))))

-- ---- values
-- a URI and a local name, or a value
abbrev pub one_item : Adding
one_item = record { uris = 1; locals = 1; prefixes = 0; values = 1 }

value_within : Within one_value one_item
value_within = record { uris = omega arith; locals = omega arith; prefixes = omega arith; values = omega arith }

name_within : Within one_name one_item
name_within = record { uris = omega arith; locals = omega arith; prefixes = omega arith; values = omega arith }

pub item_up : (kind : Tabled) (a : Align) (name : NameId) → Grows {X = Value} one_item (item_at kind a name)
unfolding item_at
item_up string a name x c d r = up_within one_value one_item c.context.tables d.context.tables value_within (chained_up one_value none_added (value_at None a name) (λ text c. told {X = Value × ReadState} (value.text text, c)) (value_up None a name) (λ text. told_up (λ c. value.text text)) x c d r)
item_up (qualified keep) a name x c d r = up_within one_name one_item c.context.tables d.context.tables name_within (chained_up one_name none_added (name_value_at keep a) (λ n c. told {X = Value × ReadState} (value.name n.name, c)) (name_value_up keep a) (λ n. told_up (λ c. value.name n.name)) x c d r)

-- ---- from so many at most
pub few_up : (k n m : ℕ) (a : Adding) (p q : Partitions) → a.uris ≤ n → a.locals ≤ n → a.prefixes ≤ n → a.values ≤ n → k + n ≤ m → Up a p q → NoneLonger k p → NoneLonger m q
few_up k n m a p q u l x v le up few = record {
  few_uris = omega (arith, u, le, up.few_uris, few.few_uris);
  few_locals = λ i. omega (arith, l, le, up.few_locals i, few.few_locals i);
  few_prefixes = λ i. omega (arith, x, le, up.few_prefixes i, few.few_prefixes i);
  few_values = omega (arith, v, le, up.few_values, few.few_values);
  few_own = λ name. omega (arith, v, le, up.few_own name, few.few_own name);
}
