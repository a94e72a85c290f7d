-- Tests and look-ups in a list from a place on.
use Rattle.std.proofs.Common.{◌≡◌, ℕ, ◌+◌, ◌<◌, ◌≤◌, length, get_or, Bool, true, false, cond, ◌&&◌, Option, Some, None, List, drop, sym, ap, ◌∙◌}
use Rattle.std.specs.List.{list_all}
use Rattle.std.specs.Str.{bytes_eq}
use Rattle.std.proofs.lemmas.List.{drop_all, drop_more}
use Rattle.xsd_names.specs.Names.{uri_in}

pub all_failed : {X : Type 0} (d : X) (test : X → Bool) (xs : List X) (i : ℕ) (r all : Bool) → i < length xs → r ≡ false → r ≡ test (get_or xs i d) → list_all test (drop i xs) ≡ all → false ≡ all
all_failed d test xs i r all less no_is e q = ap (λ b. b && list_all test (drop (i + 1) xs)) (sym no_is ∙ e) ∙ ap (list_all test) (sym (drop_more xs i d less)) ∙ q

pub all_passed : {X : Type 0} (d : X) (test : X → Bool) (xs : List X) (i : ℕ) (r all : Bool) → i < length xs → r ≡ true → r ≡ test (get_or xs i d) → list_all test (drop i xs) ≡ all → list_all test (drop (i + 1) xs) ≡ all
all_passed d test xs i r all less yes_is e q = ap (λ b. b && list_all test (drop (i + 1) xs)) (sym yes_is ∙ e) ∙ ap (list_all test) (sym (drop_more xs i d less)) ∙ q

pub all_ended : {X : Type 0} (test : X → Bool) (xs : List X) (i : ℕ) (all : Bool) → length xs ≤ i → list_all test (drop i xs) ≡ all → true ≡ all
all_ended test xs i all le q = ap (list_all test) (sym (drop_all i xs le)) ∙ q

-- the namespace that is declared for a prefix
abbrev pub Declared : Type 0
Declared = List ℕ × List ℕ

pub uri_found : (d : Declared) (prefix : List ℕ) (xs : List Declared) (i : ℕ) (r : Bool) (all : Option (List ℕ)) → i < length xs → r ≡ true → r ≡ bytes_eq (get_or xs i d).0 prefix → uri_in prefix (drop i xs) ≡ all → Some (get_or xs i d).1 ≡ all
uri_found d prefix xs i r all less yes_is e q = ap (λ b. cond b (Some (get_or xs i d).1) (uri_in prefix (drop (i + 1) xs))) (sym yes_is ∙ e) ∙ ap (uri_in prefix) (sym (drop_more xs i d less)) ∙ q

pub uri_passed : (d : Declared) (prefix : List ℕ) (xs : List Declared) (i : ℕ) (r : Bool) (all : Option (List ℕ)) → i < length xs → r ≡ false → r ≡ bytes_eq (get_or xs i d).0 prefix → uri_in prefix (drop i xs) ≡ all → uri_in prefix (drop (i + 1) xs) ≡ all
uri_passed d prefix xs i r all less no_is e q = ap (λ b. cond b (Some (get_or xs i d).1) (uri_in prefix (drop (i + 1) xs))) (sym no_is ∙ e) ∙ ap (uri_in prefix) (sym (drop_more xs i d less)) ∙ q

pub uri_ended : (prefix : List ℕ) (xs : List Declared) (i : ℕ) (all : Option (List ℕ)) → length xs ≤ i → uri_in prefix (drop i xs) ≡ all → None ≡ all
uri_ended prefix xs i all le q = ap (uri_in prefix) (sym (drop_all i xs le)) ∙ q
