-- What is told from the end to the front: of each name what is said last counts.
use Rattle.std.proofs.Common.{◌≡◌, ℕ, Bool, true, false, cond, ◌||◌, List, [], ◌∷◌, ◌++◌, option_to_list, refl, sym, ap, ◌∙◌}
use Rattle.std.specs.Str.{bytes_eq}
use Rattle.std.specs.List.{flat_map}
use Rattle.std.specs.Cmp.Lexicographic.{bytes_decides}
use Rattle.std.proofs.lemmas.Bool.{and_from, and_parts, cond-true, or_left, or_right}
use Rattle.std.proofs.lemmas.List.{reverse-append}
use Rattle.std.proofs.Math.Bool.{or_assoc, or_comm}
use Rattle.exi_inherited.specs.Told.{left_of, told_with, told_with_all, use_said}
use Rattle.exi_inherited.specs.Uses.{Said, same_pair, says, uses_left}
use Rattle.exi_inherited.specs.Walks.{knows}

-- ---- names
pub same_self : (a : List ℕ × List ℕ) → same_pair a a ≡ true
same_self a = and_from (bytes_eq a.0 a.0) (bytes_eq a.1 a.1) ((bytes_decides a.0 a.0).1 refl) ((bytes_decides a.1 a.1).1 refl)

pub same_is : (a b : List ℕ × List ℕ) → same_pair a b ≡ true → a ≡ b
same_is (a, u) (b, v) e =
    let both = and_parts (bytes_eq a b) (bytes_eq u v) e in
    let first : a ≡ b = (bytes_decides a b).0 both.0 in
    let second : u ≡ v = (bytes_decides u v).0 both.1 in
    ap (λ (x : List ℕ). (x, u)) first ∙ ap (λ (x : List ℕ). (b, x)) second

or_false : (a : Bool) → (a || false) ≡ a
or_false true = refl
or_false false = refl

-- ---- who says what
says_append : (n : List ℕ × List ℕ) (xs ys : List Said) → says n (xs ++ ys) ≡ (says n xs || says n ys)
says_append n [] ys = refl
says_append n (x ∷ xs) ys = ap (λ (b : Bool). same_pair n x.name || b) (says_append n xs ys) ∙ sym (or_assoc (same_pair n x.name) (says n xs) (says n ys))

says_here : (n : List ℕ × List ℕ) (s : Said) (told : List Said) (b : Bool) → same_pair n s.name ≡ b → says s.name told ≡ true → says n told ≡ (b || says n told)
says_here n s told false e there = refl
says_here n s told true e there = ap (λ (m : List ℕ × List ℕ). says m told) (same_is n s.name e) ∙ there

says_with : (n : List ℕ × List ℕ) (s : Said) (told : List Said) (b : Bool) → says s.name told ≡ b → says n (cond b told (told ++ s ∷ [])) ≡ (same_pair n s.name || says n told)
says_with n s told true e = says_here n s told (same_pair n s.name) refl e
says_with n s told false e =
    says_append n told (s ∷ [])
    ∙ ap (λ (b : Bool). says n told || b) (or_false (same_pair n s.name))
    ∙ or_comm (says n told) (same_pair n s.name)

pub told_says : (n : List ℕ × List ℕ) (ss told : List Said) → says n (told_with_all ss told) ≡ (says n ss || says n told)
told_says n [] told = refl
told_says n (s ∷ ss) told =
    says_with n s (told_with_all ss told) (says s.name (told_with_all ss told)) refl
    ∙ ap (λ (b : Bool). same_pair n s.name || b) (told_says n ss told)
    ∙ sym (or_assoc (same_pair n s.name) (says n ss) (says n told))

pub told_append : (xs ys told : List Said) → told_with_all (xs ++ ys) told ≡ told_with_all xs (told_with_all ys told)
told_append [] ys told = refl
told_append (x ∷ xs) ys told = ap (told_with x) (told_append xs ys told)

-- ---- what is known
pub knows_more : (told more ss : List Said) → ((n : List ℕ × List ℕ) → says n told ≡ true → says n more ≡ true) → knows told ss ≡ true → knows more ss ≡ true
knows_more told more [] h e = refl
knows_more told more (s ∷ ss) h e =
    let both = and_parts (says s.name told) (knows told ss) e in and_from (says s.name more) (knows more ss) (h s.name both.0) (knows_more told more ss h both.1)

pub knows_grows : (told more ss : List Said) → knows told ss ≡ true → knows (told_with_all more told) ss ≡ true
knows_grows told more ss e = knows_more told (told_with_all more told) ss (λ n f. told_says n more told ∙ or_right (says n more) (says n told) f) e

knows_each : (told ss : List Said) → ((n : List ℕ × List ℕ) → says n ss ≡ true → says n told ≡ true) → knows told ss ≡ true
knows_each told [] h = refl
knows_each told (s ∷ ss) h =
    and_from (says s.name told) (knows told ss) (h s.name (or_left (same_pair s.name s.name) (says s.name ss) (same_self s.name))) (knows_each told ss (λ n e. h n (or_right (same_pair n s.name) (says n ss) e)))

-- what was told is known
pub knows_told : (told ss : List Said) → knows (told_with_all ss told) ss ≡ true
knows_told told ss = knows_each (told_with_all ss told) ss (λ n e. told_says n ss told ∙ or_left (says n ss) (says n told) e)

-- what is known already changes nothing
pub told_again : (ss told : List Said) → knows told ss ≡ true → told_with_all ss told ≡ told
told_again [] told e = refl
told_again (s ∷ ss) told e =
    let both = and_parts (says s.name told) (knows told ss) e in ap (told_with s) (told_again ss told both.1) ∙ cond-true (says s.name told) told (told ++ s ∷ []) both.0

-- ---- what counts
left_with : (s : Said) (told : List Said) → left_of (told ++ s ∷ []) ≡ use_said s ++ left_of told
left_with s told = ap (flat_map use_said) (reverse-append told (s ∷ []))

left_if : (s : Said) (ss told : List Said) (b : Bool) → left_of told ≡ uses_left ss → left_of (cond b told (told ++ s ∷ [])) ≡ cond b (uses_left ss) (option_to_list s.use_of ++ uses_left ss)
left_if s ss told true e = e
left_if s ss told false e = left_with s told ∙ ap (λ us. use_said s ++ us) e

pub left_is : (ss : List Said) → left_of (told_with_all ss []) ≡ uses_left ss
left_is [] = refl
left_is (s ∷ ss) =
    let told = told_with_all ss [] in
    let same : says s.name told ≡ says s.name ss = told_says s.name ss [] ∙ or_false (says s.name ss) in
    ap (λ (b : Bool). left_of (cond b told (told ++ s ∷ []))) same ∙ left_if s ss told (says s.name ss) (left_is ss)
