-- Texts that are sorted by their UTF-8 are in order.
use Rattle.std.proofs.Common.{◌≡◌, ℕ, Bor, Bool, true, ◌||◌, List, ◌++◌, map, sym, ap, ◌∙◌}
use Rattle.std.specs.Cmp.Lexicographic.{slice_cmp, nat_list_cmp_total}
use Rattle.std.specs.List.Sorted.{IsSortedBy, IsStableBy}
use Rattle.std.specs.Ordering.{is_lt, nat_cmp}
use Rattle.std.specs.Str.{bytes_eq, encode_utf8_all}
use Rattle.std.proofs.lemmas.List.Folds.{list_any-append}
use Rattle.std.proofs.lemmas.List.Sorted.{list_any-IsPermutation, ranks_by}
use Rattle.exi_gram.specs.Orders.{in_order, text_before}
use Rattle.exi_order.proofs.InOrder.{in_order-map, in_order-permutes}
use Rattle.exi_order.proofs.Stable.{is_in_order}
use Rattle.exi_order.proofs.Texts.{before_is, by_utf8}
use Rattle.exi_vocabulary.specs.FirstNames.{distinct_behind, sorted_but}
use Rattle.exi_vocabulary.proofs.Distinct.{any_text, told}

abbrev spelled_before : List ℕ → List ℕ → Bool
spelled_before x y = is_lt (slice_cmp nat_cmp (encode_utf8_all x) (encode_utf8_all y))

one_order : (x y : List ℕ) → spelled_before x y ≡ text_before x y
one_order x y = ap is_lt (by_utf8 x y) ∙ sym (before_is x y)

pub refs_sorted : (xs ys : List (Bor (List ℕ))) → IsSortedBy (λ x y. spelled_before x.now y.now) ys → IsStableBy (λ x y. spelled_before x.now y.now) xs ys → map (λ t. t.now) ys ≡ in_order text_before (map (λ t. t.now) xs)
refs_sorted xs ys up stable =
    ap (map (λ (t : Bor (List ℕ)). t.now)) (is_in_order (λ x y. spelled_before x.now y.now) (ranks_by nat_list_cmp_total (λ (t : Bor (List ℕ)). encode_utf8_all t.now)) xs ys up stable)
    ∙ in_order-map (λ (t : Bor (List ℕ)). t.now) spelled_before xs
    ∙ ap (λ before. in_order before (map (λ (t : Bor (List ℕ)). t.now) xs)) (λ i x y. one_order x y i)

-- ---- each is among those in order
pub any-sorted : (u : List ℕ) (known ts : List (List ℕ)) → any_text u ts ≡ true → any_text u (known ++ sorted_but known ts) ≡ true
any-sorted u known ts e =
    list_any-append (bytes_eq u) known (sorted_but known ts)
    ∙ ap (λ b. any_text u known || b) (sym (list_any-IsPermutation (bytes_eq u) (distinct_behind known ts) (sorted_but known ts) (in_order-permutes text_before (distinct_behind known ts))))
    ∙ sym (list_any-append (bytes_eq u) known (distinct_behind known ts))
    ∙ told known ts u e
