-- Which texts have a list as their value.
use Rattle.std.proofs.Common.{◌≡◌, ℕ, Bool, true, false, ◌&&◌, if◌then◌else◌, nat_le, ◌==◌, not, ◌<◌, ◌≤◌, List, [], ◌∷◌, length, Option, Some, None, option_map, refl, sym, ap, ◌∙◌, arith}
use Rattle.std.proofs.lemmas.List.{append-nil}
use Rattle.std.proofs.lemmas.Bool.Decides.{nat_tests}
use Rattle.std.proofs.Math.Dec.{eqb-suc-zero}
use Rattle.std.specs.List.{list_all}
use Rattle.std.specs.Option.{is_some}
use Rattle.exi_names.specs.declared.val.TheConstants.{MOST_ITEMS}
use Rattle.exi_names.specs.Datatypes.{Representation}
use Rattle.exi_names.specs.Datatypes as datatype
use Rattle.exi_names.specs.Seen.{Value, items, values_of}
use Rattle.exi_lexical.specs.Spaces.{is_some_text, words}
use Rattle.exi_lexical.specs.Values.{each_value, list_value, value, value_before}
use Rattle.exi_lexical.proofs.Blanks.{word_first}
use Rattle.exi_lexical.proofs.Lists.{too_many}
use Rattle.exi_lexical.proofs.Joined.{AllWords, IsWord}
use Rattle.exi_lexical.proofs.Trims.{words_are}
use Rattle.xsd_form_values.specs.Innermost.{innermost}

before_has : (v : Option Value) (vs : Option (List Value)) → is_some (value_before v vs) ≡ (is_some v && is_some vs)
before_has None vs = refl
before_has (Some v) None = refl
before_has (Some v) (Some vs) = refl

each_has : (f : List ℕ → Option Value) (ws : List (List ℕ)) → is_some (each_value f ws) ≡ list_all (λ w. is_some (f w)) ws
each_has f [] = refl
each_has f (w ∷ ws) = before_has (f w) (each_value f ws) ∙ ap (λ (b : Bool). is_some (f w) && b) (each_has f ws)

few_has : (few : Bool) (vs : Option (List Value)) → is_some (if few then option_map (λ (v : List Value). items (values_of v)) vs else None) ≡ (few && is_some vs)
few_has true None = refl
few_has true (Some vs) = refl
few_has false vs = refl

-- few words, each with a value
pub list_has : (f : List ℕ → Option Value) (t : List ℕ) → is_some (list_value f t) ≡ (nat_le (length (words t)) MOST_ITEMS && list_all (λ w. is_some (f w)) (words t))
unfolding list_value
list_has f t =
    few_has (nat_le (length (words t)) MOST_ITEMS) (each_value f (words t)) ∙ ap (λ (b : Bool). nat_le (length (words t)) MOST_ITEMS && b) (each_has f (words t))

pub few_items : (f : List ℕ → Option Value) (t : List ℕ) → length (words t) ≤ MOST_ITEMS → list_all (λ w. is_some (f w)) (words t) ≡ is_some (list_value f t)
few_items f t few =
    let e : nat_le (length (words t)) MOST_ITEMS ≡ true = grind (arith, nat_tests) in
    sym (list_has f t ∙ ap (λ (b : Bool). b && list_all (λ w. is_some (f w)) (words t)) e)

pub many_items : (f : List ℕ → Option Value) (t : List ℕ) → MOST_ITEMS < length (words t) → false ≡ is_some (list_value f t)
many_items f t many = sym (ap is_some (too_many f t many))

-- ---- a word is a list of one
one_word : (w : List ℕ) → IsWord w → words w ≡ w ∷ []
one_word w word = ap words (sym (append-nil w)) ∙ word_first w [] word.0 word.1 tt

and_true : (b : Bool) → (b && true) ≡ b
and_true true = refl
and_true false = refl

word_has : (f : List ℕ → Option Value) (w : List ℕ) → IsWord w → is_some (list_value f w) ≡ is_some (f w)
word_has f w word =
    list_has f w ∙ ap (λ (ws : List (List ℕ)). nat_le (length ws) MOST_ITEMS && list_all (λ v. is_some (f v)) ws) (one_word w word) ∙ and_true (is_some (f w))

innermost_has : (r : Representation) (w : List ℕ) → IsWord w → is_some (value r w) ≡ is_some (value (innermost r) w)
unfolding value
innermost_has (datatype.small least count) w word = refl
innermost_has datatype.unsigned w word = refl
innermost_has datatype.integer w word = refl
innermost_has (datatype.boolean pattern) w word = refl
innermost_has (datatype.binary hex) w word = refl
innermost_has datatype.decimal w word = refl
innermost_has datatype.float w word = refl
innermost_has (datatype.moment kind) w word = refl
innermost_has (datatype.list r) w word = word_has (λ v. value r v) w word ∙ innermost_has r w word
innermost_has (datatype.choice r vs) w word = refl
innermost_has datatype.text w word = refl
innermost_has (datatype.chars cs) w word = refl
innermost_has (datatype.name prefixes) w word = refl

-- ---- lists whose items are innermost the same
all_same : (p q : List ℕ → Bool) (ws : List (List ℕ)) → AllWords ws → ((w : List ℕ) → IsWord w → p w ≡ q w) → list_all p ws ≡ list_all q ws
all_same p q [] are same = refl
all_same p q (w ∷ ws) are same = ap (λ (b : Bool). b && list_all p ws) (same w are.0) ∙ ap (λ (b : Bool). q w && b) (all_same p q ws are.1 same)

abbrev has : Representation → List ℕ → Bool
has r w = is_some (value r w)

module _ (r s : Representation) (same : innermost r ≡ innermost s) where
  same_word : (w : List ℕ) → IsWord w → has r w ≡ has s w
  same_word w word = innermost_has r w word ∙ ap (λ (q : Representation). has q w) same ∙ sym (innermost_has s w word)

  same_items : (t : List ℕ) → is_some (list_value (λ w. value r w) t) ≡ is_some (list_value (λ w. value s w) t)
  same_items t =
      list_has (λ w. value r w) t
      ∙ ap (λ (b : Bool). nat_le (length (words t)) MOST_ITEMS && b) (all_same (has r) (has s) (words t) (words_are t) same_word)
      ∙ sym (list_has (λ w. value s w) t)

  -- a list of them
  pub same_lists : (t : List ℕ) → is_some (value (datatype.list r) t) ≡ is_some (list_value (λ w. value s w) t)
  unfolding value
  same_lists t = same_items t

-- ---- no word is empty
pub text_is : (w : List ℕ) → is_some_text w ≡ not (length w == 0)
text_is [] = refl
text_is (c ∷ cs) = rw (eqb-suc-zero (length cs)) refl
