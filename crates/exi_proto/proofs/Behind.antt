-- Grammars one behind another: attributes, and then a content.
use Rattle.std.proofs.Common.{◌≡◌, ℕ, suc, ◌+◌, Bool, true, false, Option, Some, None, List, [], ◌∷◌, ◌++◌, length, map, refl, sym, ap, ◌∙◌, arith, append_assoc, length-append}
use Rattle.std.proofs.lemmas.List.{length-map, map-append}
use Rattle.exi_gram.specs.declared.grammar.Step.{Step}
use Rattle.exi_gram.specs.Terminals.{StepRule, Symbol, ch_text, step_rule}
use Rattle.xsd_model.specs.declared.parts.Wild.{Wild}
use Rattle.xsd_model.specs.Parts.{Parts}
use Rattle.exi_draft.specs.Drafts.{Draft, States}
use Rattle.exi_proto.specs.Attributes.{attribute_at, made_of, wild_at}
use Rattle.exi_proto.specs.Contents.{text_at}
use Rattle.exi_proto.specs.Pieces.{empty_states, ending, joined, joined_all, joined_behind, leading, place_behind, reading, with_text, with_text_from}
use Rattle.exi_proto.specs.Places.{led_from, set, set_step}
use Rattle.exi_proto.specs.Protos.{complex_draft, last_wild, states_count, use_states, wild_steps}
use Rattle.exi_proto.proofs.Leafing.{on_unless, set-ends, set-reading, set-use, set-wild_steps}
use Rattle.exi_proto.proofs.Looping.{push_made}
use Rattle.exi_proto.proofs.Placing.{length-set, set-joined}

-- ---- where a grammar stands first
place_zero : (q : Option ℕ) → place_behind 0 q ≡ q
place_zero None = refl
place_zero (Some n) = let e : n + 0 ≡ n = omega arith in ap (λ (k : ℕ). Some k) e

abbrev stepped : Option Symbol → ℕ → Option ℕ → Option ℕ → StepRule
stepped on to inner particle = record { on = on; to = to; inner = inner; particle = particle }

step_zero : (s : StepRule) → set_step 0 0 None s ≡ s
step_zero s =
    let e : s.to + 0 ≡ s.to = omega arith in
    ap (λ (k : ℕ). stepped s.on k s.inner (place_behind 0 s.particle)) e
    ∙ ap (λ (q : Option ℕ). stepped s.on s.to s.inner q) (place_zero s.particle)

steps_zero : (steps : List StepRule) → map (set_step 0 0 None) steps ≡ steps
steps_zero [] = refl
steps_zero (s ∷ steps) = ap (λ (x : StepRule). x ∷ map (set_step 0 0 None) steps) (step_zero s) ∙ ap (λ (xs : List StepRule). s ∷ xs) (steps_zero steps)

pub set-first : (a : States) → set 0 0 None a ≡ a
set-first [] = refl
set-first (x ∷ a) = ap (λ (y : List StepRule). y ∷ set 0 0 None a) (steps_zero x) ∙ ap (λ (ys : States). x ∷ ys) (set-first a)

-- ---- each leads to what stands behind it
pub length-led : (f : ℕ) (zs : List States) → length (led_from f zs) ≡ states_count zs
length-led f [] = refl
length-led f (a ∷ zs) =
    let l = length-append (set f 0 (Some (f + length a)) a) (led_from (f + length a) zs) in
    let s = length-set f 0 (Some (f + length a)) a in
    let h = length-led (f + length a) zs in
    omega (arith, l, s, h)

pub led_more : (f : ℕ) (zs ys : List States) → led_from f (zs ++ ys) ≡ led_from f zs ++ led_from (f + states_count zs) ys
led_more f [] ys = let e : f ≡ f + 0 = omega arith in ap (λ (k : ℕ). led_from k ys) e
led_more f (a ∷ zs) ys =
    let e : f + length a + states_count zs ≡ f + (length a + states_count zs) = omega arith in
    ap (λ (x : States). set f 0 (Some (f + length a)) a ++ x) (led_more (f + length a) zs ys ∙ ap (λ (k : ℕ). led_from (f + length a) zs ++ led_from k ys) e)
    ∙ sym (append_assoc (set f 0 (Some (f + length a)) a) (led_from (f + length a) zs) (led_from (f + (length a + states_count zs)) ys))

behind_some : (a : States) (zs : List States) (c : States) → joined_behind a (zs ++ c ∷ []) ≡ joined a (joined_all (zs ++ c ∷ []))
behind_some a [] c = refl
behind_some a (b ∷ zs) c = refl

set-all : (f : ℕ) (zs : List States) (c : States) → set f 0 None (joined_all (zs ++ c ∷ [])) ≡ led_from f zs ++ set (f + states_count zs) 0 None c
set-all f [] c = let e : f ≡ f + 0 = omega arith in ap (λ (k : ℕ). set k 0 None c) e
set-all f (a ∷ zs) c =
    let e : f + length a + states_count zs ≡ f + (length a + states_count zs) = omega arith in
    ap (set f 0 None) (behind_some a zs c)
    ∙ set-joined f 0 (f + length a) None a (joined_all (zs ++ c ∷ [])) refl
    ∙ ap (λ (x : States). set f 0 (Some (f + length a)) a ++ x) (set-all (f + length a) zs c ∙ ap (λ (k : ℕ). led_from (f + length a) zs ++ set k 0 None c) e)
    ∙ sym (append_assoc (set f 0 (Some (f + length a)) a) (led_from (f + length a) zs) (set (f + (length a + states_count zs)) 0 None c))

pub all_are : (zs : List States) (c : States) → joined_all (zs ++ c ∷ []) ≡ led_from 0 zs ++ set (states_count zs) 0 None c
all_are zs c = let e : 0 + states_count zs ≡ states_count zs = omega arith in sym (set-first (joined_all (zs ++ c ∷ []))) ∙ set-all 0 zs c ∙ ap (λ (k : ℕ). led_from 0 zs ++ set k 0 None c) e

pub length-made : (a : List (List Step)) → length (made_of a) ≡ length a
length-made a = length-map a (map step_rule)

abbrev drafted : States → ℕ → Draft
drafted states content = record { states = states; content = content }

-- a content behind attributes
pub complex_made : (zs : List States) (c : States) (old new : List (List Step)) (n : ℕ) → made_of old ≡ led_from 0 zs → made_of new ≡ made_of old ++ set (length old) 0 None c → n ≡ length old → drafted (made_of new) n ≡ complex_draft zs c
complex_made zs c old new n was is here =
    let count : length old ≡ states_count zs = sym (length-made old) ∙ ap (λ (x : States). length x) was ∙ length-led 0 zs in
    ap (λ (x : States). drafted x n) (is ∙ ap (λ (x : States). x ++ set (length old) 0 None c) was ∙ ap (λ (k : ℕ). led_from 0 zs ++ set k 0 None c) count ∙ sym (all_are zs c))
    ∙ ap (λ (k : ℕ). drafted (joined_all (zs ++ c ∷ [])) k) (here ∙ count)

-- an end behind attributes
pub set-empty : (f : ℕ) → (ending f ∷ []) ∷ [] ≡ set f 0 None empty_states
set-empty f = ap (λ (x : StepRule). (x ∷ []) ∷ []) (sym (set-ends f 0 0 f None (omega arith)))

-- ---- text
set-text : (n f g : ℕ) (a : States) → n + f ≡ g → set f 0 None (with_text_from n a) ≡ with_text_from g (set f 0 None a)
set-text n f g [] is = refl
set-text n f g (x ∷ a) is =
    let next : suc n + f ≡ suc g = omega (arith, is) in
    ap (λ (y : List StepRule). y ∷ set f 0 None (with_text_from (suc n) a))
    (map-append (set_step f 0 None) x (reading ch_text n ∷ []) ∙ ap (λ (s : StepRule). map (set_step f 0 None) x ++ s ∷ []) (set-reading f 0 n g None ch_text refl is))
    ∙ ap (λ (ys : States). (map (set_step f 0 None) x ++ reading ch_text g ∷ []) ∷ ys) (set-text (suc n) f (suc g) a next)

pub text_set : (mixed : Bool) (f : ℕ) (a : States) → text_at mixed f (set f 0 None a) ≡ set f 0 None (with_text mixed a)
text_set true f a = sym (set-text 0 f f a (omega arith))
text_set false f a = refl

-- ---- the states of one attribute
pub use_made : (p : Parts) (w : Option Wild) (attribute : ℕ) (required : Bool) (f to : ℕ) (old one two : List (List Step)) (typed led all : List Step) → map step_rule typed ≡ attribute_at (f + 1) p attribute → map step_rule led ≡ map step_rule typed ++ on_unless required to → map step_rule all ≡ map step_rule led ++ wild_at f w → one ≡ old ++ all ∷ [] → made_of two ≡ made_of one ++ (leading to ∷ []) ∷ [] → made_of two ≡ made_of old ++ set f 0 (Some to) (use_states p w attribute required)
use_made p w attribute required f to old one two typed led all is_typed is_led is_all is_one is_two =
    let steps : map step_rule all ≡ attribute_at (f + 1) p attribute ++ (on_unless required to ++ wild_at f w) =
    is_all ∙ ap (λ (x : List StepRule). x ++ wild_at f w) (is_led ∙ ap (λ (x : List StepRule). x ++ on_unless required to) is_typed)
    ∙ append_assoc (attribute_at (f + 1) p attribute) (on_unless required to) (wild_at f w) in
    is_two
    ∙ ap (λ (x : States). x ++ (leading to ∷ []) ∷ []) (push_made old one all (attribute_at (f + 1) p attribute ++ (on_unless required to ++ wild_at f w)) is_one steps)
    ∙ append_assoc (made_of old) ((attribute_at (f + 1) p attribute ++ (on_unless required to ++ wild_at f w)) ∷ []) ((leading to ∷ []) ∷ [])
    ∙ ap (λ (x : States). made_of old ++ x) (sym (set-use p w attribute required f to))

-- ---- the state of a wildcard alone
pub last_made : (w : Option Wild) (v : Wild) (f to : ℕ) (old new : List (List Step)) (wilds steps : List Step) → w ≡ Some v → f ≡ length old → to ≡ f + 1 → map step_rule wilds ≡ wild_at f w → map step_rule steps ≡ map step_rule wilds ++ leading to ∷ [] → new ≡ old ++ steps ∷ [] → made_of new ≡ made_of old ++ led_from (length old) (last_wild w)
last_made w v f to old new wilds steps is first next is_wild is_steps is_new =
    let all : map step_rule steps ≡ wild_at f (Some v) ++ leading (f + 1) ∷ [] =
    is_steps ∙ ap (λ (x : List StepRule). x ++ leading to ∷ []) (is_wild ∙ ap (wild_at f) is) ∙ ap (λ (k : ℕ). wild_at f (Some v) ++ leading k ∷ []) next in
    let moved_to : map (set_step f 0 (Some (f + 1))) (wild_steps (Some v) ++ ending 0 ∷ []) ≡ wild_at f (Some v) ++ leading (f + 1) ∷ [] =
    map-append (set_step f 0 (Some (f + 1))) (wild_steps (Some v)) (ending 0 ∷ [])
    ∙ ap (λ (x : List StepRule). x ++ leading (f + 1) ∷ []) (set-wild_steps f 0 (Some (f + 1)) (Some v)) in
    push_made old new steps (wild_at f (Some v) ++ leading (f + 1) ∷ []) is_new all
    ∙ ap (λ (x : List StepRule). made_of old ++ x ∷ []) (sym moved_to)
    ∙ ap (λ (k : ℕ). made_of old ++ led_from k (last_wild (Some v))) first
    ∙ ap (λ (o : Option Wild). made_of old ++ led_from (length old) (last_wild o)) (sym is)

-- ---- one attribute after another
-- all attributes, and then a wildcard alone
pub attributes_made : (zs ys : List States) (old new : List (List Step)) → made_of old ≡ led_from 0 zs → made_of new ≡ made_of old ++ led_from (length old) ys → made_of new ≡ led_from 0 (zs ++ ys)
attributes_made zs ys old new was is =
    let count : length old ≡ 0 + states_count zs = sym (length-made old) ∙ ap (λ (x : States). length x) was ∙ length-led 0 zs ∙ omega arith in
    is ∙ ap (λ (x : States). x ++ led_from (length old) ys) was ∙ ap (λ (k : ℕ). led_from 0 zs ++ led_from k ys) count ∙ sym (led_more 0 zs ys)
