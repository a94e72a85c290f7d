-- A text has a character where its UTF-8 has a byte.
use Rattle.std.proofs.Common.{◌≡◌, ℕ, not, List, [], ◌∷◌, length, refl, ap, ◌∙◌, eqb, ltb, arith}
use Rattle.std.specs.Prelude.{encode_utf8_all}
use Rattle.std.specs.Str.{chars}
use Rattle.std.proofs.lemmas.Bool.{lt-ltb, ne_eqb}
use Rattle.std.proofs.lemmas.Str.{chars-nil}

some_list : (c : ℕ) (cs : List ℕ) → c ∷ cs ≡ [] → ⊥
some_list c cs e = absurd (omega (arith, ap length e))

-- no character and no byte, or some of both
pub has_some : (text bs : List ℕ) → text ≡ chars bs → bs ≡ encode_utf8_all text → ltb 0 (length text) ≡ not (eqb (length bs) 0)
has_some [] bs from to = rw to refl
has_some (c ∷ cs) [] from to = absurd (some_list c cs (from ∙ chars-nil))
has_some (c ∷ cs) (b ∷ bs) from to =
    rw (lt-ltb 0 (length (c ∷ cs)) (omega arith), ne_eqb (length (b ∷ bs)) 0 (λ e. absurd (omega (arith, e)))) refl
