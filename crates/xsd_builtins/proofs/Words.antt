-- Words of text, and where a text stands among them.
use Rattle.std.proofs.Common.{◌≡◌, ℕ, ◌+◌, ◌<◌, ◌≤◌, length, get_or, Bor, Bool, true, false, cond, Option, Some, None, List, ◌∷◌, map, drop, sym, ap, ◌∙◌, encode_utf8_all}
use Rattle.std.specs.Str.{IsUtf8, bytes_eq, chars}
use Rattle.std.proofs.lemmas.List.{drop-map, drop_all, drop_more}
use Rattle.std.proofs.lemmas.Str.{encodes-chars}
use Rattle.exi_names.specs.TextLaws.{spelled_same}
use Rattle.xsd_builtins.specs.BuiltIns.{built_in_names, place_among}

pub word_same : (t bytes word : List ℕ) (r : Bool) → bytes ≡ encode_utf8_all t → IsUtf8 word → r ≡ bytes_eq bytes word → r ≡ bytes_eq t (chars word)
word_same t bytes word r b u e =
    e ∙ ap (λ x. bytes_eq x word) b ∙ ap (λ y. bytes_eq (encode_utf8_all t) y) (sym (encodes-chars word u)) ∙ spelled_same t (chars word)

-- a word as its characters
abbrev pub spelled : Bor (List ℕ) → List ℕ
spelled w = chars w.now

-- the words from a place on
pub words_at : (words : List (Bor (List ℕ))) (all : List (List ℕ)) (place : ℕ) (d : Bor (List ℕ)) → map spelled words ≡ all → place < length words → drop place all ≡ spelled (get_or words place d) ∷ drop (place + 1) all
words_at words all place d m less =
    ap (drop place) (sym m)
    ∙ drop-map spelled place words
    ∙ ap (map spelled) (drop_more words place d less)
    ∙ ap (λ t. spelled (get_or words place d) ∷ t) (sym (drop-map spelled (place + 1) words) ∙ ap (drop (place + 1)) m)

-- the word at a place is the name
pub found : (d : Bor (List ℕ)) (name : List ℕ) (words : List (Bor (List ℕ))) (place : ℕ) (r : Bool) (all : Option ℕ) → map spelled words ≡ built_in_names → place < length words → r ≡ true → r ≡ bytes_eq name (spelled (get_or words place d)) → place_among name place (drop place built_in_names) ≡ all → Some place ≡ all
found d name words place r all m less yes_is e q =
    ap (λ b. cond b (Some place) (place_among name (place + 1) (drop (place + 1) built_in_names))) (sym yes_is ∙ e)
    ∙ ap (place_among name place) (sym (words_at words built_in_names place d m less))
    ∙ q

-- it is another
pub passed : (d : Bor (List ℕ)) (name : List ℕ) (words : List (Bor (List ℕ))) (place : ℕ) (r : Bool) (all : Option ℕ) → map spelled words ≡ built_in_names → place < length words → r ≡ false → r ≡ bytes_eq name (spelled (get_or words place d)) → place_among name place (drop place built_in_names) ≡ all → place_among name (place + 1) (drop (place + 1) built_in_names) ≡ all
passed d name words place r all m less no_is e q =
    ap (λ b. cond b (Some place) (place_among name (place + 1) (drop (place + 1) built_in_names))) (sym no_is ∙ e)
    ∙ ap (place_among name place) (sym (words_at words built_in_names place d m less))
    ∙ q

-- no word is
pub ended : (name : List ℕ) (words : List (Bor (List ℕ))) (place : ℕ) (all : Option ℕ) → map spelled words ≡ built_in_names → length words ≤ place → place_among name place (drop place built_in_names) ≡ all → None ≡ all
ended name words place all m le q =
    ap (place_among name place) (sym (ap (drop place) (sym m) ∙ drop-map spelled place words ∙ ap (map spelled) (drop_all place words le))) ∙ q
