-- White space in the text of a value (XML Schema 1.0 Part 2, section 4.3.6: tab, line feed, carriage return
-- and space), and what is left without it.
use Rattle.std.specs.Prelude.{◌≡◌, ℕ, ◌==◌, Bool, true, false, ◌||◌, ◌&&◌, not, nat_lt, if◌then◌else◌, List, [], ◌∷◌, filter}
use Rattle.std.specs.List.{slice_split}

-- tab, line feed, carriage return or space
unfoldable pub is_space : ℕ → Bool
is_space c = c == 9 || c == 10 || c == 13 || c == 32

-- without the white space at the front
abbrev pub without_front : List ℕ → List ℕ
without_front [] = []
without_front (c ∷ cs) = if is_space c then without_front cs else c ∷ cs

-- a character before what is left of those behind it; a white space stays only where something is left
abbrev pub before_rest : ℕ → List ℕ → List ℕ
before_rest c [] = if is_space c then [] else c ∷ []
before_rest c (d ∷ ds) = c ∷ d ∷ ds

-- without the white space at the end
abbrev pub without_back : List ℕ → List ℕ
without_back [] = []
without_back (c ∷ cs) = before_rest c (without_back cs)

-- without the white space at either end
abbrev pub trimmed : List ℕ → List ℕ
trimmed cs = without_back (without_front cs)

-- without any white space
abbrev pub squeezed : List ℕ → List ℕ
squeezed cs = filter (λ c. not (is_space c)) cs

-- whether none is white space
abbrev pub has_no_space : List ℕ → Bool
has_no_space [] = true
has_no_space (c ∷ cs) = not (is_space c) && has_no_space cs

-- no characters, or a white space first
abbrev pub IsBehindWord : List ℕ → Type 0
IsBehindWord [] = Unit {0}
IsBehindWord (c ∷ cs) = is_space c ≡ true

-- whether there is a character at all
abbrev pub is_some_text : List ℕ → Bool
is_some_text [] = false
is_some_text (c ∷ cs) = true

-- what stands between white space, as the items of a list do
abbrev pub words : List ℕ → List (List ℕ)
words cs = filter is_some_text (slice_split is_space cs)

-- whether each is ASCII, below 128
abbrev pub all_ascii : List ℕ → Bool
all_ascii [] = true
all_ascii (c ∷ cs) = nat_lt c 128 && all_ascii cs
