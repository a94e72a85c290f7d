-- What is collected of a schema's names on the way to its vocabulary.
use Rattle.std.specs.Prelude.{◌≡◌, ℕ, Option, Some, None, List, [], ◌∷◌, ◌++◌, take, drop, fold, if◌then◌else◌}
use Rattle.std.specs.List.{list_any}
use Rattle.std.specs.Map.{lookup}
use Rattle.std.specs.Str.{bytes_eq}
use Rattle.exi_names.specs.declared.names.QName.{QName}
use Rattle.exi_gram.specs.Orders.{in_order, text_before}
use Rattle.exi_vocabulary.specs.FirstNames.{known_locals}
use Rattle.exi_vocabulary.specs.Vocabulary.{Pair}

abbrev pub pair_of : QName → Pair
pair_of n = (n.local, n.uri)

-- ---- texts without repeats
-- one more, behind the others, unless it is among them
abbrev pub with_text : List (List ℕ) → List ℕ → List (List ℕ)
with_text texts text = if list_any (bytes_eq text) texts then texts else texts ++ text ∷ []

abbrev pub with_texts : List (List ℕ) → List (List ℕ) → List (List ℕ)
with_texts texts more = fold with_text texts more

-- the first ones stay, and the others stand in order
abbrev pub in_order_behind : ℕ → List (List ℕ) → List (List ℕ)
in_order_behind first texts = take first texts ++ in_order text_before (drop first texts)

-- ---- local names by URI
abbrev pub Rows : Type 0
Rows = List (List ℕ × List (List ℕ))

abbrev pub or_known : List ℕ → Option (List (List ℕ)) → List (List ℕ)
or_known uri None = known_locals uri
or_known uri (Some locals) = locals

-- those of a URI; where there are none yet, the known ones
abbrev pub row_of : Rows → List ℕ → List (List ℕ)
row_of rows uri = or_known uri (lookup (bytes_eq uri) rows)

-- the local name is one more of them, where the name has the URI
abbrev pub with_name : List ℕ → List (List ℕ) → Pair → List (List ℕ)
with_name uri locals name = if bytes_eq uri name.1 then with_text locals name.0 else locals

abbrev pub with_names : List ℕ → List (List ℕ) → List Pair → List (List ℕ)
with_names uri locals names = fold (with_name uri) locals names

-- a name is put among the rows
abbrev pub IsPut : Rows → Rows → Pair → Type 0
IsPut old new name =
    (uri : List ℕ) → lookup (bytes_eq uri) new ≡ (if bytes_eq uri name.1 then Some (with_text (row_of old name.1) name.0) else lookup (bytes_eq uri) old)
