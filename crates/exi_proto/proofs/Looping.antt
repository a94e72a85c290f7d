-- Loops over lists, as far as they have come.
use Rattle.std.proofs.Common.{◌≡◌, ◌<◌, ◌≤◌, ℕ, zero, suc, ◌+◌, Option, List, [], ◌∷◌, ◌++◌, drop, get_or, length, map, refl, sym, ap, ◌∙◌, arith, append_assoc}
use Rattle.std.proofs.lemmas.List.{map-append}
use Rattle.exi_gram.specs.declared.grammar.Step.{Step}
use Rattle.exi_gram.specs.Terminals.{StepRule, step_rule}
use Rattle.xsd_model.specs.Parts.{Parts}
use Rattle.exi_counts.specs.Counts.{sum_of}
use Rattle.exi_draft.specs.Drafts.{States}
use Rattle.exi_proto.specs.declared.work.End.{End}
use Rattle.exi_proto.specs.Pieces.{counts_of, leading}
use Rattle.exi_proto.specs.Places.{laid, set, starts_by, starts_evenly, with_ends, with_first}
use Rattle.exi_proto.specs.Protos.{opening_piece, piece_of}
use Rattle.exi_proto.specs.Tasks.{end_rule}
use Rattle.exi_proto.proofs.Making.{with_none}

pub drop_here : {X : Type 0} (xs : List X) (i : ℕ) (d : X) → i < length xs → drop i xs ≡ get_or xs i d ∷ drop (i + 1) xs
drop_here [] i d less = absurd (omega (arith, less))
drop_here (x ∷ xs) zero d less = refl
drop_here (x ∷ xs) (suc i) d less =
    let next : suc i + 1 ≡ suc (i + 1) = omega arith in
    drop_here xs i d (omega (arith, less)) ∙ ap (λ (j : ℕ). get_or xs i d ∷ drop j (x ∷ xs)) (sym next)

-- what was put behind is taken from what is left
pub moved : {X : Type 0} (old new x left rest : List X) → new ≡ old ++ x → left ≡ x ++ rest → new ++ rest ≡ old ++ left
moved old new x left rest e f = ap (λ (y : List _). y ++ rest) e ∙ append_assoc old x rest ∙ ap (λ (y : List _). old ++ y) (sym f)

pub push_steps : (old new : List Step) (x : Step) (s : StepRule) → new ≡ old ++ x ∷ [] → step_rule x ≡ s → map step_rule new ≡ map step_rule old ++ s ∷ []
push_steps old new x s e f = ap (map step_rule) e ∙ map-append step_rule old (x ∷ []) ∙ ap (λ (y : StepRule). map step_rule old ++ y ∷ []) f

pub push_made : (old new : List (List Step)) (x : List Step) (s : List StepRule) → new ≡ old ++ x ∷ [] → map step_rule x ≡ s → map (map step_rule) new ≡ map (map step_rule) old ++ s ∷ []
push_made old new x s e f = ap (map (map step_rule)) e ∙ map-append (map step_rule) old (x ∷ []) ∙ ap (λ (y : List StepRule). map (map step_rule) old ++ y ∷ []) f

-- ---- ends that waited
with_last : (fs : List End) (e : End) (x : List StepRule) → with_ends (map end_rule (fs ++ e ∷ [])) x ≡ with_ends (map end_rule fs) (x ++ end_rule e ∷ [])
with_last [] e x = refl
with_last (f ∷ fs) e x = ap (λ (y : List StepRule). y ++ end_rule f ∷ []) (with_last fs e x)

pub pop_ends : (es fs : List End) (e : End) (old new : List Step) (x : Step) → es ≡ fs ++ e ∷ [] → new ≡ old ++ x ∷ [] → step_rule x ≡ end_rule e → with_ends (map end_rule fs) (map step_rule new) ≡ with_ends (map end_rule es) (map step_rule old)
pop_ends es fs e old new x is more same =
    ap (with_ends (map end_rule fs)) (push_steps old new x (end_rule e) more same)
    ∙ sym (with_last fs e (map step_rule old))
    ∙ ap (λ (y : List End). with_ends (map end_rule y) (map step_rule old)) (sym is)

-- ---- steps to the starts of others
pub evenly_next : {X : Type 0} (n m : ℕ) (xs : List X) (i : ℕ) (d : X) (old new : List Step) (x : Step) → i < length xs → new ≡ old ++ x ∷ [] → step_rule x ≡ leading n → m ≡ n + 2 → map step_rule new ++ starts_evenly m (drop (i + 1) xs) ≡ map step_rule old ++ starts_evenly n (drop i xs)
evenly_next n m xs i d old new x less more same is =
    moved (map step_rule old) (map step_rule new) (leading n ∷ []) (starts_evenly n (drop i xs)) (starts_evenly m (drop (i + 1) xs)) (push_steps old new x (leading n) more same)
    (ap (starts_evenly n) (drop_here xs i d less) ∙ ap (λ (k : ℕ). leading n ∷ starts_evenly k (drop (i + 1) xs)) (sym is))

pub starts_next : (p : Parts) (n m : ℕ) (xs : List ℕ) (i : ℕ) (old new : List Step) (x : Step) → i < length xs → new ≡ old ++ x ∷ [] → step_rule x ≡ leading n → m ≡ n + length (piece_of p (get_or xs i 0)).states → map step_rule new ++ starts_by m (counts_of (map (piece_of p) (drop (i + 1) xs))) ≡ map step_rule old ++ starts_by n (counts_of (map (piece_of p) (drop i xs)))
starts_next p n m xs i old new x less more same is =
    moved (map step_rule old) (map step_rule new) (leading n ∷ []) (starts_by n (counts_of (map (piece_of p) (drop i xs)))) (starts_by m (counts_of (map (piece_of p) (drop (i + 1) xs)))) (push_steps old new x (leading n) more same)
    (ap (λ (ys : List ℕ). starts_by n (counts_of (map (piece_of p) ys))) (drop_here xs i 0 less) ∙ ap (λ (k : ℕ). leading n ∷ starts_by k (counts_of (map (piece_of p) (drop (i + 1) xs)))) (sym is))

-- ---- elements one behind another
pub laid_next : (p : Parts) (f b g d : ℕ) (e : Option ℕ) (xs : List ℕ) (i x : ℕ) (old new : States) → i < length xs → get_or xs i 0 ≡ x → new ≡ old ++ with_first [] (set f b e (opening_piece p x).states) → g ≡ f + 2 → d ≡ b + 1 → new ++ laid g d e (map (opening_piece p) (drop (i + 1) xs)) ≡ old ++ laid f b e (map (opening_piece p) (drop i xs))
laid_next p f b g d e xs i x old new less here more is so =
    let rest : List ℕ = drop (i + 1) xs in
    moved old new (set f b e (opening_piece p x).states) (laid f b e (map (opening_piece p) (drop i xs))) (laid g d e (map (opening_piece p) rest))
    (more ∙ ap (λ (y : States). old ++ y) (with_none (set f b e (opening_piece p x).states)))
    (ap (λ (ys : List ℕ). laid f b e (map (opening_piece p) ys)) (drop_here xs i 0 less ∙ ap (λ (k : ℕ). k ∷ rest) here)
    ∙ ap (λ (k : ℕ). set f b e (opening_piece p x).states ++ laid k (b + 1) e (map (opening_piece p) rest)) (sym is)
    ∙ ap (λ (k : ℕ). set f b e (opening_piece p x).states ++ laid g k e (map (opening_piece p) rest)) (sym so))

-- ---- the end of a list
pub drop_all : {X : Type 0} (xs : List X) (i : ℕ) → length xs ≤ i → drop i xs ≡ []
drop_all [] zero le = refl
drop_all [] (suc i) le = refl
drop_all (x ∷ xs) zero le = absurd (omega (arith, le))
drop_all (x ∷ xs) (suc i) le = drop_all xs i (omega (arith, le))

pub sum_next : (p : Parts) (xs : List ℕ) (i : ℕ) → i < length xs → sum_of (counts_of (map (piece_of p) (drop i xs))) ≡ length (piece_of p (get_or xs i 0)).states + sum_of (counts_of (map (piece_of p) (drop (i + 1) xs)))
sum_next p xs i less = ap (λ (ys : List ℕ). sum_of (counts_of (map (piece_of p) ys))) (drop_here xs i 0 less)
