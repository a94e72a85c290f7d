-- The types, one after another.
use Rattle.std.proofs.Common.{◌≡◌, Bor, ℕ, suc, ◌+◌, ◌<◌, ◌≤◌, Bool, true, false, List, [], ◌∷◌, ◌++◌, append-nil, append_assoc, drop, filter, get_or, length, map, refl, sym, ap, ◌∙◌, arith}
use Rattle.std.proofs.lemmas.List.{drop-map, drop_all, map-append}
use Rattle.xsd_builtins.specs.BuiltIns.{built_in_names}
use Rattle.xsd_builtins.proofs.Words.{spelled, words_at}
use Rattle.xsd_tree.specs.declared.node.Node.{Node}
use Rattle.xsd_nodes.specs.Nodes.{places}
use Rattle.xsd_declared.specs.Lists.{one_of}
use Rattle.xsd_declared.proofs.Listed.{listed, listed_all, listed_next, listed_none}
use Rattle.xsd_schema.specs.Seen.{TypeSeen}
use Rattle.xsd_schema.specs.Types.{built_in_from, built_in_type}

-- ---- the built-in types: those that are made, and those that are left
pub built_more : {X : Type 0} (f : X → TypeSeen) (words : List (Bor (List ℕ))) (n : ℕ) (d : Bor (List ℕ)) (found new : List X) (x : X) (all : List TypeSeen) → map spelled words ≡ built_in_names → n < length words → f x ≡ built_in_type n (spelled (get_or words n d)) → new ≡ found ++ x ∷ [] → map f found ++ built_in_from n (drop n built_in_names) ≡ all → map f new ++ built_in_from (n + 1) (drop (n + 1) built_in_names) ≡ all
built_more f words n d found new x all words_are less x_is new_is e =
    let next : n + 1 ≡ suc n = omega arith in
    let rest : List TypeSeen = built_in_from (n + 1) (drop (n + 1) built_in_names) in
    ap (λ l. map f l ++ rest) new_is
    ∙ ap (λ (l : List TypeSeen). l ++ rest) (map-append f found (x ∷ []))
    ∙ append_assoc (map f found) (f x ∷ []) rest
    ∙ ap (λ (t : TypeSeen). map f found ++ t ∷ rest) x_is
    ∙ ap (λ (k : ℕ). map f found ++ built_in_type n (spelled (get_or words n d)) ∷ built_in_from k (drop (n + 1) built_in_names)) next
    ∙ sym (ap (λ (l : List (List ℕ)). map f found ++ built_in_from n l) (words_at words built_in_names n d words_are less))
    ∙ e

pub built_ended : {X : Type 0} (f : X → TypeSeen) (words : List (Bor (List ℕ))) (n : ℕ) (found : List X) (all : List TypeSeen) → map spelled words ≡ built_in_names → length words ≤ n → map f found ++ built_in_from n (drop n built_in_names) ≡ all → map f found ≡ all
built_ended f words n found all words_are le e =
    let none : drop n built_in_names ≡ [] = ap (drop n) (sym words_are) ∙ drop-map spelled n words ∙ ap (map spelled) (drop_all n words le) in
    sym (append-nil (map f found)) ∙ sym (ap (λ (l : List (List ℕ)). map f found ++ built_in_from n l) none) ∙ e

-- ---- those of the document, behind these
module _ {X Y : Type 0} (f : X → Y) (before : List Y) (g : ℕ → Y) (test : ℕ → Bool) where
  pub typed_none : (found : List X) → map f found ≡ before → map f found ≡ before ++ listed g test 0
  typed_none found e = e ∙ sym (append-nil before) ∙ ap (λ (l : List Y). before ++ l) (listed_none g test)

  pub typed_next : (n : ℕ) (found new : List X) → map f new ≡ map f found ++ one_of (test n) (g n) → map f found ≡ before ++ listed g test n → map f new ≡ before ++ listed g test (n + 1)
  typed_next n found new new_is e =
      new_is
      ∙ ap (λ (l : List Y). l ++ one_of (test n) (g n)) e
      ∙ append_assoc before (listed g test n) (one_of (test n) (g n))
      ∙ ap (λ (l : List Y). before ++ l) (listed_next g test n (listed g test n) (listed g test n ++ one_of (test n) (g n)) refl refl)

  pub typed_all : (ns : List Node) (n : ℕ) (found : List X) → n ≡ length ns → map f found ≡ before ++ listed g test n → map f found ≡ before ++ map g (filter test (places ns))
  typed_all ns n found n_is e = e ∙ ap (λ (l : List Y). before ++ l) (listed_all g test ns n (listed g test n) n_is refl)
