-- Which productions of a state can write an event: those of a class and of a name or URI by its least places, in the
-- order in which they are tried, with fewer parts first and then by their codes (EXI 1.0, section 6.2).
use Rattle.std.specs.Prelude.{◌≡◌, ℕ, suc, ◌==◌, ◌&&◌, Bool, Option, Some, None, List, [], ◌∷◌, ◌++◌, length, if◌then◌else◌}
use Rattle.std.specs.Map.{lookup}
use Rattle.exi_names.specs.NameMaps.{same_name}
use Rattle.exi_names.specs.declared.names.NameId.{NameId}
use Rattle.exi_gram.specs.declared.class.Class.{Class}
use Rattle.exi_gram.specs.declared.class.Class.TheVariants as class
use Rattle.exi_gram.specs.declared.index.IndexKey.{IndexKey}
use Rattle.exi_gram.specs.declared.named.Named.{Named}
use Rattle.exi_gram.specs.declared.named.Named.TheVariants as named
use Rattle.exi_gram.specs.Codes.{Coded, Productions, coded}
use Rattle.exi_gram.specs.Naming.{Entry}
use Rattle.exi_gram.specs.Terminals.{Symbol, sd, ed, se, se_in, se_any, at, at_in, at_any, at_text, at_any_text, xsi_type, xsi_nil, ch, ch_text, ee, ns, sc, er, cm, pi, dt}

-- the class of a terminal, and its number
abbrev pub class_of : Symbol → Class
class_of sd = class.Sd
class_of ed = class.Ed
class_of (se name) = class.Se
class_of (se_in uri) = class.SeIn
class_of se_any = class.SeAny
class_of (at name representation) = class.At
class_of (at_in uri) = class.AtIn
class_of at_any = class.AtAny
class_of (at_text name) = class.AtText
class_of at_any_text = class.AtAnyText
class_of xsi_type = class.XsiType
class_of xsi_nil = class.XsiNil
class_of (ch representation) = class.Ch
class_of ch_text = class.ChText
class_of ee = class.Ee
class_of ns = class.Ns
class_of sc = class.Sc
class_of er = class.Er
class_of cm = class.Cm
class_of pi = class.Pi
class_of dt = class.Dt

abbrev pub class_number : Class → ℕ
class_number class.Sd = 0
class_number class.Ed = 1
class_number class.Se = 2
class_number class.SeIn = 3
class_number class.SeAny = 4
class_number class.At = 5
class_number class.AtIn = 6
class_number class.AtAny = 7
class_number class.AtText = 8
class_number class.AtAnyText = 9
class_number class.XsiType = 10
class_number class.XsiNil = 11
class_number class.Ch = 12
class_number class.ChText = 13
class_number class.Ee = 14
class_number class.Ns = 15
class_number class.Sc = 16
class_number class.Er = 17
class_number class.Cm = 18
class_number class.Pi = 19
class_number class.Dt = 20

abbrev pub same_class : Class → Class → Bool
same_class a b = class_number a == class_number b

-- the places by which a production is sought; zeros stand where it has none
abbrev pub sought_by : Named → NameId
sought_by named.Nothing = record { uri = 0; local = 0 }
sought_by (named.Uri uri) = record { uri = uri; local = 0 }
sought_by (named.Name name) = name

abbrev pub is_sought : Class → NameId → Entry → Bool
is_sought class name e = same_class (class_of e.rule.on) class && same_name (sought_by e.named) name

-- the places, from one on, of those that have so many parts
abbrev pub sought_from : ℕ → Class → NameId → ℕ → List (Coded Entry) → List ℕ
sought_from parts class name place [] = []
sought_from parts class name place (c ∷ cs) = if length c.parts == parts && is_sought class name c.item then place ∷ sought_from parts class name (suc place) cs else sought_from parts class name (suc place) cs

-- all of them, in the order in which they are tried
abbrev pub candidates : Class → NameId → List (Coded Entry) → List ℕ
candidates class name cs = sought_from 1 class name 0 cs ++ (sought_from 2 class name 0 cs ++ sought_from 3 class name 0 cs)

-- ---- how they are kept: the places of each class and name by a key
abbrev pub Listed : Type 0
Listed = List (IndexKey × List ℕ)

abbrev pub index_key : Class → NameId → IndexKey
index_key class name = record { class = class_number class; uri = name.uri; local = name.local }

abbrev pub same_key : IndexKey → IndexKey → Bool
same_key a b = (a.class == b.class) && ((a.uri == b.uri) && (a.local == b.local))

abbrev pub listed_or : Option (List ℕ) → List ℕ
listed_or None = []
listed_or (Some places) = places

abbrev pub found : Listed → Class → NameId → List ℕ
found kept class name = listed_or (lookup (same_key (index_key class name)) kept)

-- an index finds the candidates of a state, and those of a grammar and of all grammars those of each of its states
abbrev pub Finds : Listed → Productions Entry → Type 0
Finds kept p = (class : Class) (name : NameId) → found kept class name ≡ candidates class name (coded p)

abbrev pub FindInStates : List Listed → List (Productions Entry) → Type 0
FindInStates [] [] = Unit {0}
FindInStates [] (p ∷ ps) = ⊥
FindInStates (kept ∷ others) [] = ⊥
FindInStates (kept ∷ others) (p ∷ ps) = Finds kept p × FindInStates others ps

abbrev pub FindInAll : List (List Listed) → List (List (Productions Entry)) → Type 0
FindInAll [] [] = Unit {0}
FindInAll [] (ps ∷ pss) = ⊥
FindInAll (indexes ∷ others) [] = ⊥
FindInAll (indexes ∷ others) (ps ∷ pss) = FindInStates indexes ps × FindInAll others pss
