-- Texts that are added one by one, each unless it is among them, are those of the definitions.
use Rattle.std.proofs.Common.{◌≡◌, ℕ, suc, ◌≤◌, Bool, true, false, cond, ◌||◌, List, [], ◌∷◌, ◌++◌, length, drop, map, refl, sym, ap, ◌∙◌, arith, append_assoc}
use Rattle.std.specs.List.{filter, list_any}
use Rattle.std.specs.Str.{bytes_eq}
use Rattle.std.proofs.Math.Seq.{take-append_seam, drop-append_seam}
use Rattle.std.proofs.lemmas.List.{append-nil}
use Rattle.std.proofs.lemmas.List.Folds.{list_any-append}
use Rattle.std.proofs.lemmas.Slice.Eq.{bytes_eq-Decides}
use Rattle.exi_names.specs.declared.names.QName.{QName}
use Rattle.exi_gram.specs.Orders.{in_order, text_before}
use Rattle.exi_vocabulary.specs.Collected.{in_order_behind, pair_of, with_names, with_text, with_texts}
use Rattle.exi_vocabulary.specs.FirstNames.{distinct_behind, is_text_among, locals_under, sorted_but}
use Rattle.exi_vocabulary.specs.Vocabulary.{Pair}

abbrev pub any_text : List ℕ → List (List ℕ) → Bool
any_text text texts = list_any (bytes_eq text) texts

pub among : (text : List ℕ) (texts : List (List ℕ)) → is_text_among text texts ≡ any_text text texts
among text [] = refl
among text (t ∷ ts) = ap (λ b. bytes_eq text t || b) (among text ts)

-- what is seen tells by what is among it alone
behind_alike : (a b ts : List (List ℕ)) → ((u : List ℕ) → any_text u a ≡ any_text u b) → distinct_behind a ts ≡ distinct_behind b ts
behind_alike a b [] e = refl
behind_alike a b (t ∷ ts) e =
    ap (λ x. cond x (distinct_behind a ts) (t ∷ distinct_behind (t ∷ a) ts)) (among t a ∙ e t ∙ sym (among t b))
    ∙ ap (λ l. cond (is_text_among t b) l (t ∷ distinct_behind (t ∷ a) ts)) (behind_alike a b ts e)
    ∙ ap (λ l. cond (is_text_among t b) (distinct_behind b ts) (t ∷ l)) (behind_alike (t ∷ a) (t ∷ b) ts (λ u. ap (λ x. bytes_eq u t || x) (e u)))

last_first : (a b : Bool) → (a || (b || false)) ≡ (b || a)
last_first true true = refl
last_first true false = refl
last_first false true = refl
last_first false false = refl

pub at_end : (known : List (List ℕ)) (t u : List ℕ) → any_text u (known ++ t ∷ []) ≡ any_text u (t ∷ known)
at_end known t u = list_any-append (bytes_eq u) known (t ∷ []) ∙ last_first (any_text u known) (bytes_eq u t)

pub with_texts_is : (known ts : List (List ℕ)) → with_texts known ts ≡ known ++ distinct_behind known ts
with_texts_is known [] = sym (append-nil known)
with_texts_is known (t ∷ ts) =
    by (any_text t known) (with_texts_is known ts) (with_texts_is (known ++ t ∷ []) ts)
    ∙ ap (λ b. known ++ cond b (distinct_behind known ts) (t ∷ distinct_behind (t ∷ known) ts)) (sym (among t known))
  where
    by : (b : Bool) → with_texts known ts ≡ known ++ distinct_behind known ts → with_texts (known ++ t ∷ []) ts ≡ (known ++ t ∷ []) ++ distinct_behind (known ++ t ∷ []) ts → with_texts (cond b known (known ++ t ∷ [])) ts ≡ known ++ cond b (distinct_behind known ts) (t ∷ distinct_behind (t ∷ known) ts)
    by true e h = e
    by false e h =
        h ∙ append_assoc known (t ∷ []) (distinct_behind (known ++ t ∷ []) ts)
        ∙ ap (λ l. known ++ t ∷ l) (behind_alike (known ++ t ∷ []) (t ∷ known) ts (at_end known t))

-- those that are known stay in front, and the others are in order
pub behind_known : (known ts : List (List ℕ)) → in_order_behind (length known) (with_texts known ts) ≡ known ++ sorted_but known ts
behind_known known ts =
    ap (in_order_behind (length known)) (with_texts_is known ts)
    ∙ ap (λ l. l ++ in_order text_before (drop (length known) (known ++ distinct_behind known ts))) (take-append_seam known (distinct_behind known ts))
    ∙ ap (λ l. known ++ in_order text_before l) (drop-append_seam known (distinct_behind known ts))

-- ---- the local names under a URI
abbrev pub under : List ℕ → List Pair → List (List ℕ)
under uri names = map (λ (k : Pair). k.0) (filter (λ k. bytes_eq uri k.1) names)

pub with_names_is : (uri : List ℕ) (locals : List (List ℕ)) (names : List Pair) → with_names uri locals names ≡ with_texts locals (under uri names)
with_names_is uri locals [] = refl
with_names_is uri locals (n ∷ ns) = by (bytes_eq uri n.1) (with_names_is uri (with_text locals n.0) ns) (with_names_is uri locals ns)
  where
    by : (b : Bool) → with_names uri (with_text locals n.0) ns ≡ with_texts (with_text locals n.0) (under uri ns) → with_names uri locals ns ≡ with_texts locals (under uri ns) → with_names uri (cond b (with_text locals n.0) locals) ns ≡ with_texts locals (map (λ (k : Pair). k.0) (cond b (n ∷ filter (λ k. bytes_eq uri k.1) ns) (filter (λ k. bytes_eq uri k.1) ns)))
    by true e h = e
    by false e h = h

pub under_is : (uri : List ℕ) (names : List QName) → under uri (map pair_of names) ≡ locals_under uri names
under_is uri [] = refl
under_is uri (n ∷ ns) = by (bytes_eq uri n.uri) (under_is uri ns)
  where
    by : (b : Bool) → under uri (map pair_of ns) ≡ locals_under uri ns → map (λ (k : Pair). k.0) (cond b (pair_of n ∷ filter (λ k. bytes_eq uri k.1) (map pair_of ns)) (filter (λ k. bytes_eq uri k.1) (map pair_of ns))) ≡ map (λ (m : QName). m.local) (cond b (n ∷ filter (λ m. bytes_eq uri m.uri) ns) (filter (λ m. bytes_eq uri m.uri) ns))
    by true e = ap (λ l. n.local ∷ l) e
    by false e = e

-- ---- how many there are
length_behind : (seen ts : List (List ℕ)) → length (distinct_behind seen ts) ≤ length ts
length_behind seen [] = omega arith
length_behind seen (t ∷ ts) = by (is_text_among t seen) (length_behind seen ts) (length_behind (t ∷ seen) ts)
  where
    by : (b : Bool) → length (distinct_behind seen ts) ≤ length ts → length (distinct_behind (t ∷ seen) ts) ≤ length ts → length (cond b (distinct_behind seen ts) (t ∷ distinct_behind (t ∷ seen) ts)) ≤ suc (length ts)
    by true e h = omega (arith, e)
    by false e h = omega (arith, h)

pub few_behind : (seen ts : List (List ℕ)) → length (distinct_behind seen ts) ≤ length ts
few_behind = length_behind

-- ---- each is among them
same_among : (u t : List ℕ) (known : List (List ℕ)) → bytes_eq u t ≡ true → any_text t known ≡ true → any_text u known ≡ true
same_among u t known e h = ap (λ x. any_text x known) ((bytes_eq-Decides u t).0 e) ∙ h

pub told : (known ts : List (List ℕ)) (u : List ℕ) → any_text u ts ≡ true → any_text u (known ++ distinct_behind known ts) ≡ true
told known [] u e = absurd cc
told known (t ∷ ts) u e =
    ap (λ b. any_text u (known ++ cond b (distinct_behind known ts) (t ∷ distinct_behind (t ∷ known) ts))) (among t known)
    ∙ by (any_text t known) (bytes_eq u t) refl refl e (told known ts u) (told (t ∷ known) ts u)
  where
    or_here : (a b : Bool) → a ≡ true → (a || b) ≡ true
    or_here true b e = refl
    or_here false b e = absurd cc

    or_there : (a b : Bool) → b ≡ true → (a || b) ≡ true
    or_there true b e = refl
    or_there false b e = e

    moved : (d : List (List ℕ)) → any_text u ((t ∷ known) ++ d) ≡ true → any_text u (known ++ t ∷ d) ≡ true
    moved d h = list_any-append (bytes_eq u) known (t ∷ d) ∙ turned (any_text u known) (bytes_eq u t) (any_text u d) ∙ ap (λ x. bytes_eq u t || x) (sym (list_any-append (bytes_eq u) known d)) ∙ h
      where
        turned : (a b c : Bool) → (a || (b || c)) ≡ (b || (a || c))
        turned true true c = refl
        turned true false c = refl
        turned false b c = refl

    by : (b q : Bool) → any_text t known ≡ b → bytes_eq u t ≡ q → (q || any_text u ts) ≡ true → (any_text u ts ≡ true → any_text u (known ++ distinct_behind known ts) ≡ true) → (any_text u ts ≡ true → any_text u ((t ∷ known) ++ distinct_behind (t ∷ known) ts) ≡ true) → any_text u (known ++ cond b (distinct_behind known ts) (t ∷ distinct_behind (t ∷ known) ts)) ≡ true
    by true true e h g f r = list_any-append (bytes_eq u) known (distinct_behind known ts) ∙ or_here (any_text u known) (any_text u (distinct_behind known ts)) (same_among u t known h e)
    by true false e h g f r = f g
    by false true e h g f r = moved (distinct_behind (t ∷ known) ts) (or_here (bytes_eq u t) (any_text u (known ++ distinct_behind (t ∷ known) ts)) h)
    by false false e h g f r = moved (distinct_behind (t ∷ known) ts) (r g)
