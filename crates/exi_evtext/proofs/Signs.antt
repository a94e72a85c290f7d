-- Octets as hexadecimal digits, one after another.
use Rattle.std.proofs.Common.{◌≡◌, ◌<◌, ◌≤◌, ◌+◌, ◌/◌, ◌%◌, ℕ, List, [], ◌∷◌, ◌++◌, length, drop, get_or, sym, ap, ◌∙◌, append_assoc}
use Rattle.std.proofs.lemmas.List.{append-nil, drop_all, drop_more}
use Rattle.exi_lexical.specs.Binaries.{hex_sign, hex_text}

pub hex_step : (os out mid new goal : List ℕ) (i high low : ℕ) → i < length os → out ++ hex_text (drop i os) ≡ goal → mid ≡ out ++ high ∷ [] → new ≡ mid ++ low ∷ []
    → high ≡ hex_sign (get_or os i 0 / 16) → low ≡ hex_sign (get_or os i 0 % 16) → new ++ hex_text (drop (i + 1) os) ≡ goal
unfolding hex_text
hex_step os out mid new goal i high low lt done one two highs lows =
    let o = get_or os i 0 in
    let rest = hex_text (drop (i + 1) os) in
    let front : hex_text (drop i os) ≡ hex_sign (o / 16) ∷ hex_sign (o % 16) ∷ rest = ap hex_text (drop_more os i 0 lt) in
    let signs : hex_sign (o / 16) ∷ hex_sign (o % 16) ∷ rest ≡ high ∷ low ∷ rest = ap (λ (n : ℕ). n ∷ hex_sign (o % 16) ∷ rest) (sym highs) ∙ ap (λ (n : ℕ). high ∷ n ∷ rest) (sym lows) in
    ap (λ (x : List ℕ). x ++ rest) (two ∙ ap (λ (x : List ℕ). x ++ low ∷ []) one)
    ∙ append_assoc (out ++ high ∷ []) (low ∷ []) rest
    ∙ append_assoc out (high ∷ []) (low ∷ rest)
    ∙ ap (λ (x : List ℕ). out ++ x) (sym (front ∙ signs))
    ∙ done

pub hex_end : (os out goal : List ℕ) (i : ℕ) → length os ≤ i → out ++ hex_text (drop i os) ≡ goal → out ≡ goal
unfolding hex_text
hex_end os out goal i le done = sym (append-nil out) ∙ ap (λ (x : List ℕ). out ++ hex_text x) (sym (drop_all i os le)) ∙ done
