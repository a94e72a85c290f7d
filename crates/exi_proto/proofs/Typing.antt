-- The grammars of types, as their states are made.
use Rattle.std.proofs.Common.{◌≡◌, ◌≤◌, ℕ, ◌+◌, ◌*◌, Bool, true, false, cond, Option, None, List, [], ◌∷◌, ◌++◌, length, map, refl, sym, ap, subst, ◌∙◌, arith}
use Rattle.exi_gram.specs.declared.grammar.Step.{Step}
use Rattle.xsd_model.specs.declared.parts.Wild.{Wild}
use Rattle.xsd_model.specs.Parts.{Parts}
use Rattle.exi_counts.specs.Counts as count
use Rattle.exi_counts.specs.Counts.{most_states, sum_of, wild_states}
use Rattle.exi_inherited.specs.Contents.{Whole, content_of}
use Rattle.exi_inherited.specs.Uses.{uses_of}
use Rattle.exi_draft.specs.Drafts.{Draft, States}
use Rattle.exi_proto.specs.Attributes.{made_of}
use Rattle.exi_proto.specs.Pieces.{empty_states, ending}
use Rattle.exi_proto.specs.Places.{led_from, set}
use Rattle.exi_proto.specs.Protos.{attribute_states, complex_draft, content_states, states_count}
use Rattle.exi_proto.proofs.Behind.{complex_made, length-led, length-made, set-empty}
use Rattle.exi_proto.proofs.Counted.{length-content, sum-attributes}
use Rattle.exi_proto.proofs.Inside.{good_content}

abbrev drafted : States → ℕ → Draft
drafted states content = record { states = states; content = content }

-- ---- how many states there are
count-sum : (zs : List States) → states_count zs ≡ sum_of (map (λ b. length b) zs)
count-sum [] = refl
count-sum (a ∷ zs) = ap (λ (k : ℕ). length a + k) (count-sum zs)

some_content : (p : Parts) (w : Whole) → 1 ≤ count.content_states p w
some_content p w = subst (λ (n : ℕ). 1 ≤ n) (length-content p w) (good_content p w).some

-- of attributes
pub length-attributes : (p : Parts) (of : ℕ) (w : Option Wild) (old : List (List Step)) → made_of old ≡ led_from 0 (attribute_states p of w) → length old ≡ 2 * length (uses_of p of) + wild_states w
length-attributes p of w old is =
    sym (length-made old) ∙ ap (λ (x : States). length x) is ∙ length-led 0 (attribute_states p of w) ∙ count-sum (attribute_states p of w) ∙ sum-attributes p of w

-- what a grammar that is not too large leaves room for
pub room_uses : (p : Parts) (of : ℕ) (w : Option Wild) (empty : Bool) → 2 * length (uses_of p of) + (wild_states w + cond empty 1 (count.content_states p (content_of p of))) ≤ most_states → 2 * length (uses_of p of) + 1 ≤ most_states
room_uses p of w true few = omega (arith, few)
room_uses p of w false few = let some = some_content p (content_of p of) in omega (arith, few, some)

pub room_content : (p : Parts) (of : ℕ) (w : Option Wild) (empty : Bool) (v : Whole) (old : List (List Step)) → v ≡ content_of p of → empty ≡ false → made_of old ≡ led_from 0 (attribute_states p of w) → 2 * length (uses_of p of) + (wild_states w + cond empty 1 (count.content_states p (content_of p of))) ≤ most_states → length old + length (content_states p v) ≤ most_states
room_content p of w empty v old is full was few =
    let l = length-attributes p of w old was in
    let n : length (content_states p v) ≡ count.content_states p (content_of p of) = ap (λ (x : Whole). length (content_states p x)) is ∙ length-content p (content_of p of) in
    let so : 2 * length (uses_of p of) + (wild_states w + count.content_states p (content_of p of)) ≤ most_states = subst (λ (b : Bool). 2 * length (uses_of p of) + (wild_states w + cond b 1 (count.content_states p (content_of p of))) ≤ most_states) full few in
    omega (arith, l, n, so)

pub end_there : (p : Parts) (of : ℕ) (w : Option Wild) (empty : Bool) → 2 * length (uses_of p of) + (wild_states w + cond empty 1 (count.content_states p (content_of p of))) ≤ most_states → 2 * length (uses_of p of) + wild_states w ≤ most_states
end_there p of w true few = omega (arith, few)
end_there p of w false few = omega (arith, few)

pub room_end : (p : Parts) (of : ℕ) (w : Option Wild) (empty : Bool) (old more : List (List Step)) (n : ℕ) → empty ≡ true → made_of old ≡ led_from 0 (attribute_states p of w) → made_of more ≡ (ending n ∷ []) ∷ [] → 2 * length (uses_of p of) + (wild_states w + cond empty 1 (count.content_states p (content_of p of))) ≤ most_states → length old + length more ≤ most_states
room_end p of w empty old more n none was end few =
    let l = length-attributes p of w old was in
    let one : length more ≡ 1 = sym (length-made more) ∙ ap (λ (x : States). length x) end in
    let so : 2 * length (uses_of p of) + (wild_states w + 1) ≤ most_states = subst (λ (b : Bool). 2 * length (uses_of p of) + (wild_states w + cond b 1 (count.content_states p (content_of p of))) ≤ most_states) none few in
    omega (arith, l, one, so)

-- the content that was put together
pub whole_there : (p q : Parts) (of : ℕ) (w : Whole) → q ≡ p → w ≡ content_of q of → w ≡ content_of p of
whole_there p q of w same is = is ∙ ap (λ (x : Parts). content_of x of) same

-- ---- the grammar
-- an end behind attributes
pub complex_end : (zs : List States) (c : States) (empty : Bool) (old more new all : List (List Step)) (n : ℕ) → empty ≡ true → made_of old ≡ led_from 0 zs → made_of more ≡ (ending n ∷ []) ∷ [] → made_of new ≡ made_of old ++ made_of more → all ≡ new → n ≡ length old → drafted (made_of all) n ≡ complex_draft zs (cond empty empty_states c)
complex_end zs c empty old more new all n none was end is so here =
    complex_made zs empty_states old all n was
    (ap made_of so ∙ is ∙ ap (λ (x : States). made_of old ++ x) (end ∙ set-empty n ∙ ap (λ (k : ℕ). set k 0 None empty_states) here))
    here
    ∙ ap (λ (b : Bool). complex_draft zs (cond b empty_states c)) (sym none)

-- a content behind attributes
pub complex_content : (p : Parts) (zs : List States) (w v : Whole) (empty : Bool) (old new all : List (List Step)) (n : ℕ) → empty ≡ false → w ≡ v → made_of old ≡ led_from 0 zs → made_of new ≡ made_of old ++ set (length old) 0 None (content_states p w) → all ≡ new → n ≡ length old → drafted (made_of all) n ≡ complex_draft zs (cond empty empty_states (content_states p v))
complex_content p zs w v empty old new all n full is was more so here =
    complex_made zs (content_states p w) old all n was (ap made_of so ∙ more) here
    ∙ ap (λ (x : Whole). complex_draft zs (content_states p x)) is
    ∙ ap (λ (b : Bool). complex_draft zs (cond b empty_states (content_states p v))) (sym full)
