-- The words of a command.
use Rattle.std.proofs.Common.{◌≡◌, ◌<◌, ◌≤◌, ◌-◌, ℕ, zero, suc, List, [], ◌∷◌, length, get_or, drop, Option, Some, None, refl, arith}
use Rattle.std.specs.Prelude.{false, ◌&&◌, ◌==◌, is_some, option_copied}
use Rattle.std.specs.Borrow.{Bor}
use Rattle.exi_names.specs.Characters.{is_xml_char}
use Rattle.exi_run.specs.declared.words.Next.{Next}
use Rattle.exi_run.specs.Tasks.{task_by, task_of, verb_of}
use Rattle.exi_run.specs.Words.{Given, are_few_xml, given_by, is_hyphened, text, word_taken, words_taken}

-- ---- a schema's name
pub few_none : (c : ℕ) (cs : List ℕ) → are_few_xml 0 (c ∷ cs) ≡ false
few_none c cs = refl

pub few_more : (n c : ℕ) (cs : List ℕ) → 0 < n → are_few_xml n (c ∷ cs) ≡ (is_xml_char c && are_few_xml (n - 1) cs)
few_more zero c cs h = absurd (omega (arith, h))
few_more (suc m) c cs h = let e : suc m - 1 ≡ m = omega arith in rw e refl

-- ---- one word after another
-- no words bring back what was refused
pub none_taken : (words : List (List ℕ)) → words_taken None words ≡ None
none_taken [] = refl
none_taken (word ∷ words) = refl

pub words_first : (g : Given) (n : Next) (ws others : List (List ℕ)) (word d : List ℕ) → 1 ≤ length ws → word ≡ get_or ws 0 d → others ≡ drop 1 ws → words_taken (Some (g, n)) ws ≡ words_taken (word_taken g n word) others
words_first g n [] others word d few w o = absurd (omega (arith, few))
words_first g n (x ∷ xs) others word d few w o = rw (w, o) refl

pub task_first : (ws others : List (List ℕ)) (word d : List ℕ) → 1 ≤ length ws → word ≡ get_or ws 0 d → others ≡ drop 1 ws → task_of ws ≡ task_by (verb_of (text word)) (given_by others)
task_first [] others word d few w o = absurd (omega (arith, few))
task_first (x ∷ xs) others word d few w o = rw (w, o) refl

pub some_copied : {X : Type 0} (o : Option (Bor X)) → is_some (option_copied o) ≡ is_some o
some_copied None = refl
some_copied (Some x) = refl

-- ---- a hyphen in front
pub hyphen_first : (t : List ℕ) (c d : ℕ) → 1 < length t → c ≡ get_or t 0 d → is_hyphened t ≡ (c == 45)
hyphen_first [] c d many is = absurd (omega (arith, many))
hyphen_first (x ∷ []) c d many is = absurd (omega (arith, many))
hyphen_first (x ∷ y ∷ ys) c d many is = rw is refl

pub no_hyphen : (t : List ℕ) → length t ≤ 1 → is_hyphened t ≡ false
no_hyphen [] few = refl
no_hyphen (x ∷ []) few = refl
no_hyphen (x ∷ y ∷ ys) few = absurd (omega (arith, few))
