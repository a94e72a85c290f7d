-- A type's grammar has as many states as were counted.
use Rattle.std.proofs.Common.{◌≡◌, ℕ, suc, ◌+◌, ◌*◌, Bool, true, false, cond, Option, Some, None, List, [], ◌∷◌, ◌++◌, length, map, slice_get, refl, sym, ap, ◌∙◌, arith, if◌then◌else◌}
use Rattle.xsd_model.specs.declared.parts.TypeBody.{TypeBody}
use Rattle.xsd_model.specs.declared.parts.TypeBody.TheVariants as body
use Rattle.xsd_model.specs.declared.parts.TypeDef.{TypeDef}
use Rattle.xsd_model.specs.declared.parts.Wild.{Wild}
use Rattle.xsd_model.specs.Parts.{Parts}
use Rattle.exi_counts.specs.Counts as count
use Rattle.exi_counts.specs.Counts.{in_sequence, sum_of, type_states}
use Rattle.exi_inherited.specs.Contents.{Whole, content_of, elements, value}
use Rattle.exi_inherited.specs.declared.uses.Use.{Use}
use Rattle.exi_inherited.specs.Uses.{uses_of}
use Rattle.exi_draft.specs.Drafts.{States}
use Rattle.exi_proto.specs.Pieces.{counts_of, empty_states, sequence, with_text, with_text_from}
use Rattle.exi_proto.specs.Protos.{any_pieces, attribute_states, body_draft, complex_draft, content_states, draft_of_type, last_wild, piece_of, type_draft, use_states}
use Rattle.exi_proto.proofs.Counting.{length-joined_all, length-sequence, length-within}

length-text : (n : ℕ) (a : States) → length (with_text_from n a) ≡ length a
length-text n [] = refl
length-text n (x ∷ a) = ap suc (length-text (suc n) a)

length-mixed : (b : Bool) (a : States) → length (with_text b a) ≡ length a
length-mixed true a = length-text 0 a
length-mixed false a = refl

counts-pieces : (p : Parts) (places : List ℕ) → counts_of (map (piece_of p) places) ≡ map (count.states_of p) places
counts-pieces p [] = refl
counts-pieces p (x ∷ places) =
    ap (λ (k : ℕ). k ∷ counts_of (map (piece_of p) places)) (length-within (suc (length p.particles)) p x)
    ∙ ap (λ (ks : List ℕ). count.states_of p x ∷ ks) (counts-pieces p places)

counts-any : (p : Parts) (b : Bool) (places : List ℕ) → counts_of (any_pieces b ++ map (piece_of p) places) ≡ count.any_states b ++ map (count.states_of p) places
counts-any p true places = ap (λ (ks : List ℕ). 2 ∷ ks) (counts-pieces p places)
counts-any p false places = counts-pieces p places

pub length-content : (p : Parts) (w : Whole) → length (content_states p w) ≡ count.content_states p w
length-content p (value place) = refl
length-content p (elements any places mixed) =
    length-mixed mixed (sequence (any_pieces any ++ map (piece_of p) places)).states
    ∙ length-sequence (any_pieces any ++ map (piece_of p) places)
    ∙ ap in_sequence (counts-any p any places)

abbrev lengths : List States → List ℕ
lengths zs = map (λ b. length b) zs

last-one : (zs : List States) (a : States) → in_sequence (lengths (zs ++ a ∷ [])) ≡ sum_of (lengths zs) + length a
last-one [] a = omega arith
last-one (b ∷ zs) a = let e = rest zs in omega (arith, e)
  where
    rest : (zs : List States) → sum_of (lengths (zs ++ a ∷ [])) ≡ sum_of (lengths zs) + length a
    rest [] = omega arith
    rest (b ∷ zs) = let e = rest zs in omega (arith, e)

pub length-complex : (zs : List States) (a : States) → length (complex_draft zs a).states ≡ sum_of (lengths zs) + length a
length-complex zs a = length-joined_all (zs ++ a ∷ []) ∙ last-one zs a

sum-uses : (p : Parts) (w : Option Wild) (us : List Use) (zs : List States) → sum_of (lengths (map (λ u. use_states p w u.attribute u.required) us ++ zs)) ≡ 2 * length us + sum_of (lengths zs)
sum-uses p w [] zs = omega arith
sum-uses p w (u ∷ us) zs = let e = sum-uses p w us zs in omega (arith, e)

sum-last : (w : Option Wild) → sum_of (lengths (last_wild w)) ≡ count.wild_states w
sum-last None = refl
sum-last (Some w) = refl

pub sum-attributes : (p : Parts) (place : ℕ) (w : Option Wild) → sum_of (lengths (attribute_states p place w)) ≡ 2 * length (uses_of p place) + count.wild_states w
sum-attributes p place w = sum-uses p w (uses_of p place) (last_wild w) ∙ ap (λ (k : ℕ). 2 * length (uses_of p place) + k) (sum-last w)

length-if : (b : Bool) (x y : States) (m n : ℕ) → length x ≡ m → length y ≡ n → length (cond b x y) ≡ cond b m n
length-if true x y m n e f = e
length-if false x y m n e f = f

-- the count by what a type is
abbrev count_body : Parts → ℕ → Bool → TypeBody → ℕ
count_body p place empty (body.Simple form union) = if empty then 1 else 2
count_body p place empty body.Ur = 2
count_body p place empty (body.Complex complex) = 2 * length (uses_of p place) + (count.wild_states complex.wild + (if empty then 1 else count.content_states p (content_of p place)))

abbrev count_type : Parts → ℕ → Bool → Option TypeDef → ℕ
count_type p place empty None = 1
count_type p place empty (Some t) = count_body p place empty t.body

pub count_is : (p : Parts) (of : ℕ) (empty : Bool) → type_states p of empty ≡ count_type p of empty (slice_get p.types of)
count_is p of empty = refl

pub counted_body : (p : Parts) (of : ℕ) (empty : Bool) (b : TypeBody) → length (body_draft p of empty b).states ≡ count_body p of empty b
counted_body p of true (body.Simple form union) = refl
counted_body p of false (body.Simple form union) = refl
counted_body p of true body.Ur = refl
counted_body p of false body.Ur = refl
counted_body p of empty (body.Complex complex) =
    let l = length-complex (attribute_states p of complex.wild) (cond empty empty_states (content_states p (content_of p of))) in
    let s = sum-attributes p of complex.wild in
    let c = length-if empty empty_states (content_states p (content_of p of)) 1 (count.content_states p (content_of p of)) refl (length-content p (content_of p of)) in
    omega (arith, l, s, c)

counted_option : (p : Parts) (of : ℕ) (empty : Bool) (o : Option TypeDef) → length (type_draft p of empty o).states ≡ count_type p of empty o
counted_option p of empty None = refl
counted_option p of empty (Some t) = counted_body p of empty t.body

pub counted : (p : Parts) (of : ℕ) (empty : Bool) → length (draft_of_type p of empty).states ≡ type_states p of empty
counted p of empty = counted_option p of empty (slice_get p.types of) ∙ sym (count_is p of empty)
