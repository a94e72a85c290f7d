-- The values of string tables (EXI 1.0, section 7.3.3), with bounds or without (valueMaxLength and
-- valuePartitionCapacity: section 5.4).
--
-- A value that is added takes a place among all values and a place under its name. With a capacity the places among
-- all values go round, and what stood at the place is pushed out: it is no longer live, and its place under its name
-- is never given again. So the live values are those after which fewer values than the capacity were added.
--
-- Nothing is said here of a text that was pushed out, so that none has to be kept.
use Rattle.std.specs.Prelude.{◌≡◌, ℕ, zero, suc, ◌+◌, ◌%◌, ◌==◌, ◌&&◌, min, nat_lt, nat_le, Bool, true, length, List, [], ◌∷◌, ◌++◌, map, find, position, slice_get, Option, Some, None, option_map, option_and_then, unwrap_or, if◌then◌else◌}
use Rattle.std.specs.Str.{bytes_eq}
use Rattle.exi_names.specs.NameMaps.{same_name}
use Rattle.exi_names.specs.declared.names.NameId.{NameId}
use Rattle.exi_tables.specs.declared.live.Bounds.{Bounds}
use Rattle.exi_tables.specs.declared.live.Given.{Given}
use Rattle.exi_tables.specs.declared.live.Live.{Live}
use Rattle.exi_tables.specs.declared.standing.Standing.{Standing}
use Rattle.exi_tables.specs.declared.standing.Standing.TheVariants as stands

pub record ValueTable : Type 0 where
  pub bounds : Bounds
  -- the live values, by their places among all
  pub live : List Live
  -- the place among all that the next value takes
  pub next : ℕ
  -- the names under which values were added, in the order of their first ones
  pub given : List Given

-- no values
abbrev pub no_values : Bounds → ValueTable
no_values b = record { bounds = b; live = []; next = 0; given = [] }

-- ---- what is looked up
-- the texts of the live values, by their places among all
abbrev pub texts_of : ValueTable → List (List ℕ)
texts_of t = map (λ l. l.text) t.live

-- where a name stands among those under which values were added
abbrev pub name_place : NameId → List Given → Option ℕ
name_place name given = position (λ g. same_name name g.name) given

-- how many places were given under a name
abbrev pub given_to : NameId → List Given → ℕ
given_to name given = unwrap_or (option_map (λ g. g.count) (option_and_then (slice_get given) (name_place name given))) 0

abbrev pub stands_under : NameId → ℕ → Live → Bool
stands_under name place l = same_name name l.name && (l.local == place)

-- the text of the live value that has this place under the name
abbrev pub text_under : NameId → List Live → ℕ → Option (List ℕ)
text_under name live place = option_map (λ l. l.text) (find (stands_under name place) live)

abbrev pub is_value : NameId → List ℕ → Live → Bool
is_value name text l = same_name name l.name && bytes_eq l.text text

abbrev pub or_less : ℕ → Option ℕ → ℕ
or_less place None = place
or_less place (Some other) = min place other

-- the least place under the name of a live value with this text
abbrev pub least_under : NameId → List ℕ → List Live → Option ℕ
least_under name text [] = None
least_under name text (l ∷ more) =
    if is_value name text l then Some (or_less l.local (least_under name text more)) else least_under name text more

-- where a value stands: at its least place under its name, and else at its least place among all
abbrev pub StandsAs : Standing → Option ℕ → Option ℕ → Type 0
StandsAs (stands.Own place) own all = own ≡ Some place
StandsAs (stands.Global place) own all = (own ≡ None) × (all ≡ Some place)
StandsAs stands.Missing own all = (own ≡ None) × (all ≡ None)

-- ---- what a missed value adds
abbrev pub is_short : Option ℕ → ℕ → Bool
is_short None count = true
is_short (Some most) count = nat_le count most

abbrev pub has_room : Option ℕ → Bool
has_room None = true
has_room (Some capacity) = nat_lt 0 capacity

-- a value is added where it has a character, is not too long, and the capacity is not 0
abbrev pub is_added : Bounds → List ℕ → Bool
is_added b text = nat_lt 0 (length text) && is_short b.most (length text) && has_room b.capacity

-- the place after a place: that of the value number i is i, or i modulo the capacity
abbrev pub place_after : Option ℕ → ℕ → ℕ
place_after None place = place + 1
place_after (Some capacity) place = (place + 1) % capacity

-- the list with x at a place, in place of what stood there, or at the end
abbrev pub put_at : {X : Type 0} → ℕ → X → List X → List X
put_at place x [] = x ∷ []
put_at zero x (y ∷ ys) = x ∷ ys
put_at (suc place) x (y ∷ ys) = y ∷ put_at place x ys

-- the list with the item at a place changed
abbrev pub changed_at : {X : Type 0} → List X → ℕ → (X → X) → List X
changed_at [] place change = []
changed_at (x ∷ xs) zero change = change x ∷ xs
changed_at (x ∷ xs) (suc place) change = x ∷ changed_at xs place change

-- one more place under the name that stands here, or under a new one
abbrev pub one_more_at : NameId → List Given → Option ℕ → List Given
one_more_at name given (Some place) = changed_at given place (λ g. record { name = g.name; count = g.count + 1 })
one_more_at name given None = given ++ record { name = name; count = 1 } ∷ []

abbrev pub one_more : NameId → List Given → List Given
one_more name given = one_more_at name given (name_place name given)

abbrev pub with_added : ValueTable → NameId → List ℕ → ValueTable
with_added t name text = record {
  bounds = t.bounds;
  live = put_at t.next (record { name = name; local = given_to name t.given; text = text }) t.live;
  next = place_after t.bounds.capacity t.next;
  given = one_more name t.given;
}

abbrev pub with_missed : ValueTable → NameId → List ℕ → ValueTable
with_missed t name text = if is_added t.bounds text then with_added t name text else t
