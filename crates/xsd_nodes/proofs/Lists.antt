-- A test of the items of a list from a place on.
use Rattle.std.proofs.Common.{◌≡◌, ℕ, ◌+◌, ◌<◌, ◌≤◌, length, get_or, Bool, true, false, cond, ◌&&◌, ◌||◌, Option, Some, None, List, [], ◌∷◌, drop, sym, ap, ◌∙◌}
use Rattle.std.specs.List.{list_any}
use Rattle.std.specs.Str.{bytes_eq}
use Rattle.std.proofs.lemmas.List.{drop_all, drop_more}
use Rattle.exi_names.specs.declared.names.QName.{QName}
use Rattle.xsd_nodes.specs.Nodes.{text_in}

pub any_found : {X : Type 0} (d : X) (test : X → Bool) (xs : List X) (i : ℕ) (r all : Bool) → i < length xs → r ≡ true → r ≡ test (get_or xs i d) → list_any test (drop i xs) ≡ all → true ≡ all
any_found d test xs i r all less yes_is e q = ap (λ b. b || list_any test (drop (i + 1) xs)) (sym yes_is ∙ e) ∙ ap (list_any test) (sym (drop_more xs i d less)) ∙ q

pub any_passed : {X : Type 0} (d : X) (test : X → Bool) (xs : List X) (i : ℕ) (r all : Bool) → i < length xs → r ≡ false → r ≡ test (get_or xs i d) → list_any test (drop i xs) ≡ all → list_any test (drop (i + 1) xs) ≡ all
any_passed d test xs i r all less no_is e q = ap (λ b. b || list_any test (drop (i + 1) xs)) (sym no_is ∙ e) ∙ ap (list_any test) (sym (drop_more xs i d less)) ∙ q

pub any_ended : {X : Type 0} (test : X → Bool) (xs : List X) (i : ℕ) (all : Bool) → length xs ≤ i → list_any test (drop i xs) ≡ all → false ≡ all
any_ended test xs i all le q = ap (list_any test) (sym (drop_all i xs le)) ∙ q

-- an attribute's text
abbrev pub Attribute : Type 0
Attribute = QName × List ℕ

abbrev pub is_wanted : List ℕ → Attribute → Bool
is_wanted name a = bytes_eq a.0.uri [] && bytes_eq a.0.local name

pub text_found : (d : Attribute) (name : List ℕ) (xs : List Attribute) (i : ℕ) (r : Bool) (all : Option (List ℕ)) → i < length xs → r ≡ true → r ≡ is_wanted name (get_or xs i d) → text_in name (drop i xs) ≡ all → Some (get_or xs i d).1 ≡ all
text_found d name xs i r all less yes_is e q = ap (λ b. cond b (Some (get_or xs i d).1) (text_in name (drop (i + 1) xs))) (sym yes_is ∙ e) ∙ ap (text_in name) (sym (drop_more xs i d less)) ∙ q

pub text_passed : (d : Attribute) (name : List ℕ) (xs : List Attribute) (i : ℕ) (r : Bool) (all : Option (List ℕ)) → i < length xs → r ≡ false → r ≡ is_wanted name (get_or xs i d) → text_in name (drop i xs) ≡ all → text_in name (drop (i + 1) xs) ≡ all
text_passed d name xs i r all less no_is e q = ap (λ b. cond b (Some (get_or xs i d).1) (text_in name (drop (i + 1) xs))) (sym no_is ∙ e) ∙ ap (text_in name) (sym (drop_more xs i d less)) ∙ q

pub text_ended : (name : List ℕ) (xs : List Attribute) (i : ℕ) (all : Option (List ℕ)) → length xs ≤ i → text_in name (drop i xs) ≡ all → None ≡ all
text_ended name xs i all le q = ap (text_in name) (sym (drop_all i xs le)) ∙ q
