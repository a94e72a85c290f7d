-- The words of a text, one character after another.
use Rattle.std.specs.Prelude.{ℕ, List, [], ◌∷◌, ◌++◌, filter}
use Rattle.std.specs.List.{slice_split}
use Rattle.exi_lexical.specs.Spaces.{is_some_text, is_space}

-- a text before the first of these parts
abbrev pub put : List ℕ → List (List ℕ) → List (List ℕ)
put w [] = w ∷ []
put w (p ∷ ps) = (w ++ p) ∷ ps

-- words, and behind them those of a text of which a word has begun
abbrev pub words_behind : List (List ℕ) → List ℕ → List ℕ → List (List ℕ)
words_behind done w cs = done ++ filter is_some_text (put w (slice_split is_space cs))
