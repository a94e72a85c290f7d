-- A text of few characters, each of XML.
use Rattle.std.proofs.Common.{◌≡◌, ◌<◌, ◌-◌, ◌&&◌, ℕ, zero, suc, List, ◌∷◌, refl, arith}
use Rattle.exi_names.specs.Characters.{is_xml_char}
use Rattle.exi_words.specs.Values.{are_few_xml}

pub few_more : (n c : ℕ) (cs : List ℕ) → 0 < n → are_few_xml n (c ∷ cs) ≡ (is_xml_char c && are_few_xml (n - 1) cs)
few_more zero c cs h = absurd (omega (arith, h))
few_more (suc m) c cs h = let e : suc m - 1 ≡ m = omega arith in rw e refl
