-- The places of a list, one more at a time.
use Rattle.std.proofs.Common.{◌≡◌, ℕ, suc, ◌+◌, ◌<◌, List, [], ◌∷◌, ◌++◌, get_or, length, take, ap, ◌∙◌, arith}
use Rattle.std.proofs.lemmas.List.{length-take, take_more}
use Rattle.exi_gram.specs.Laws.{places_from}

pub places-push : {X : Type 0} (n : ℕ) (xs : List X) (x : X) → places_from n (xs ++ x ∷ []) ≡ places_from n xs ++ (n + length xs) ∷ []
places-push n [] x = let e : n ≡ n + 0 = omega arith in ap (λ k. k ∷ []) e
places-push n (y ∷ ys) x =
    let e : suc n + length ys ≡ n + suc (length ys) = omega arith in
    ap (λ l. n ∷ l) (places-push (suc n) ys x ∙ ap (λ k. places_from (suc n) ys ++ k ∷ []) e)

pub places-more : {X : Type 0} (xs : List X) (i : ℕ) (d : X) → i < length xs → places_from 0 (take (i + 1) xs) ≡ places_from 0 (take i xs) ++ i ∷ []
places-more xs i d less =
    let e : 0 + length (take i xs) ≡ i = omega (arith, length-take i xs) in
    ap (places_from 0) (take_more xs i d less) ∙ places-push 0 (take i xs) (get_or xs i d) ∙ ap (λ k. places_from 0 (take i xs) ++ k ∷ []) e
