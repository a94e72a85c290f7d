-- The definitions on a few values under one name.
use Rattle.std.proofs.Common.{◌≡◌, ℕ, List, [], ◌∷◌, length, Option, Some, None, refl}
use Rattle.exi_names.specs.StartTables.{first_names}
use Rattle.exi_names.specs.declared.names.NameId.{NameId}
use Rattle.exi_tables.specs.Partitions.{Partitions, first_partitions, least_place, live_at, name_value_at, name_value_place, name_values, values, with_value}

abbrev name : NameId
name = record { uri = 2; local = 0 }

abbrev x : List ℕ
x = 0x78 ∷ []

abbrev y : List ℕ
y = 0x79 ∷ []

abbrev z : List ℕ
z = 0x7A ∷ []

abbrev start : Option ℕ → Option ℕ → Partitions
start most capacity = first_partitions first_names most capacity

-- ---- x twice, without bounds: the least place is told, and both count
abbrev twice : Partitions
twice = with_value (with_value (start None None) name x) name x

least_is_first : least_place (values twice) x ≡ Some 0
least_is_first = refl

both_count : length (values twice) ≡ 2
both_count = refl

both_count_under : name_values twice name ≡ 2
both_count_under = refl

-- ---- x, y and z, of which two are live: z has the place of x, which is found no longer
abbrev three : Partitions
three = with_value (with_value (with_value (start None (Some 2)) name x) name y) name z

two_live : length (values three) ≡ 2
two_live = refl

three_given : name_values three name ≡ 3
three_given = refl

z_first : live_at (values three) 0 ≡ Some z
z_first = refl

no_first_under : name_value_at three name 0 ≡ None
no_first_under = refl

no_x : least_place (values three) x ≡ None
no_x = refl

no_x_under : name_value_place three name x ≡ None
no_x_under = refl

y_stays : name_value_place three name y ≡ Some 1
y_stays = refl

-- ---- nothing is added: no character, too many, no capacity
none_empty : with_value (start None None) name [] ≡ start None None
none_empty = refl

none_long : with_value (start (Some 1) None) name (0x78 ∷ 0x79 ∷ []) ≡ start (Some 1) None
none_long = refl

none_kept : with_value (start None (Some 0)) name x ≡ start None (Some 0)
none_kept = refl

-- ---- a capacity near 2^128 bounds nothing here
far_away : live_at (values (with_value (with_value (start None (Some 340282366920938463463374607431768211455)) name x) name y)) 1 ≡ Some y
far_away = refl
