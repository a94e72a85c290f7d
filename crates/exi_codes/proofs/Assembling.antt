-- Grammars and books that are put together state by state.
use Rattle.std.proofs.Common.{◌≡◌, ℕ, zero, suc, ◌+◌, ◌-◌, ◌^◌, ◌<◌, Bool, true, false, inl, inr, Option, Some, None, List, [], ◌∷◌, ◌++◌, length, map, take, drop, get_or, slice_get, All, refl, sym, ap, ◌∙◌, subst, arith}
use Rattle.std.specs.Prelude.{◌==◌, if◌then◌else◌}
use Rattle.std.proofs.lemmas.Bool.{cases_Bool}
use Rattle.std.proofs.lemmas.List.{get_or-drop, get_or-map, length-append, length-drop, length-map}
use Rattle.std.proofs.lemmas.List.Elements.{All-from_get_or, All-get_or, All-head, All-tail}
use Rattle.exi_gram.specs.declared.class.Class.TheVariants as class
use Rattle.exi_names.specs.declared.names.QName.{QName}
use Rattle.exi_gram.specs.declared.entry.ElementEntry.{ElementEntry}
use Rattle.exi_gram.specs.declared.grammar.Grammar.{Grammar}
use Rattle.exi_gram.specs.declared.grammar.Production.{Production}
use Rattle.exi_gram.specs.Additions.{at_copy, attribute_states, early_added, early_state, end_added, firsts_of, has_class, is_early, is_of, later_added, later_state, loose_from, loose_state, made_states, part_states, start_added, start_state}
use Rattle.exi_gram.specs.Candidates.{FindInAll, FindInStates, Listed}
use Rattle.exi_gram.specs.Codes.{Productions, coded, single}
use Rattle.exi_gram.specs.Naming.{Entry}
use Rattle.exi_gram.specs.Outlines.{Outline}
use Rattle.exi_gram.specs.Schemas.{IsSchema}
use Rattle.exi_gram.specs.Terminals.{Rule, Rules, ed, ee, rule, rules_of, se_any}
use Rattle.exi_gram.specs.Wholes.{document, document_content, document_end, fragment, fragment_content, listed, opening, plain, whole_grammar, whole_start, without_schema}
use Rattle.exi_gram.proofs.Leaving.{size_total, total}
use Rattle.exi_codes.proofs.Making.{map_more}
use Rattle.exi_codes.specs.Made.{loose_by}

-- ---- states of a grammar that is not kept to strictly
pub early_is : (g : Rules) (state copy : ℕ) (early : Bool) (firsts : List Rule) → early ≡ is_early g (attribute_states g) state → copy ≡ length g.states → loose_by early state copy firsts ≡ loose_state g (attribute_states g) state firsts
early_is g state copy early firsts e c = ap (λ b. loose_by b state copy firsts) e ∙ ap (λ n. loose_by (is_early g (attribute_states g) state) state n firsts) c ∙ by (state == 0) (is_early g (attribute_states g) state)
  where
    by : (a b : Bool) → record { firsts = firsts; seconds = if a then start_added 0 (length g.states) firsts else if b then early_added state (length g.states) firsts else later_added state firsts } ≡ (if a then start_state (length g.states) firsts else if b then early_state state (length g.states) firsts else later_state state firsts)
    by true b = refl
    by false true = refl
    by false false = refl

loose-append : (g : Rules) (reached : List ℕ) (k : ℕ) (xs : List (List Rule)) (x : List Rule) → loose_from g reached k (xs ++ x ∷ []) ≡ loose_from g reached k xs ++ loose_state g reached (k + length xs) (firsts_of x) ∷ []
loose-append g reached k [] x = let e : k ≡ k + 0 = omega arith in ap (λ n. loose_state g reached n (firsts_of x) ∷ []) e
loose-append g reached k (y ∷ ys) x =
    let e : suc k + length ys ≡ k + suc (length ys) = omega arith in
    ap (λ (z : List (Productions Rule)). loose_state g reached k (firsts_of y) ∷ z) (loose-append g reached (suc k) ys x ∙ ap (λ n. loose_from g reached (suc k) ys ++ loose_state g reached n (firsts_of x) ∷ []) e)

length-take-less : {X : Type 0} (i : ℕ) (xs : List X) → i < length xs → length (take i xs) ≡ i
length-take-less zero xs less = refl
length-take-less (suc i) [] less = absurd (omega (arith, less))
length-take-less (suc i) (x ∷ xs) less = ap suc (length-take-less i xs (omega (arith, less)))

pub loose_more : (g : Rules) (reached : List ℕ) (states : List (List Production)) (i : ℕ) (x : List Production) → i < length states → x ≡ get_or states i x → loose_from g reached 0 (map (map rule) (take (i + 1) states)) ≡ loose_from g reached 0 (map (map rule) (take i states)) ++ loose_state g reached i (firsts_of (map rule x)) ∷ []
loose_more g reached states i x less e =
    let n : 0 + length (map (map rule) (take i states)) ≡ i = omega (arith, length-map (take i states) (map rule), length-take-less i states less) in
    ap (loose_from g reached 0) (map_more (map rule) states i x less e) ∙ loose-append g reached 0 (map (map rule) (take i states)) (map rule x)
    ∙ ap (λ k. loose_from g reached 0 (map (map rule) (take i states)) ++ loose_state g reached k (firsts_of (map rule x)) ∷ []) n

-- the copy has an end where the state has one
copied_end : (copy : ℕ) (firsts : List Rule) → has_class class.Ee (map (at_copy copy) firsts) ≡ has_class class.Ee firsts
copied_end copy [] = refl
copied_end copy (r ∷ rs) = elim (cases_Bool (is_of class.Ee r)) [
  | inl yes_is ↦ rw yes_is refl
  | inr no_is ↦ rw (no_is, no_is) (copied_end copy rs)
]

pub end_copied : (copy to : ℕ) (firsts : List Rule) → end_added to (map (at_copy copy) firsts) ≡ end_added to firsts
end_copied copy to firsts = ap (λ b. if b then [] else single (plain ee to) ∷ []) (copied_end copy firsts)

-- ---- all grammars
-- the indexes of one grammar more
pub all_more : (indexes : List (List Listed)) (states : List (List (Productions Entry))) (index : List Listed) (state : List (Productions Entry)) → FindInAll indexes states → FindInStates index state → FindInAll (indexes ++ index ∷ []) (states ++ state ∷ [])
all_more [] [] index state a b = (b, tt)
all_more [] (s ∷ ss) index state a b = absurd a
all_more (i ∷ is) [] index state a b = absurd a
all_more (i ∷ is) (s ∷ ss) index state a b = (a.0, all_more is ss index state a.1 b)

-- ---- how much there is
abbrev or_else : Rules → Option Rules → Rules
or_else d None = d
or_else d (Some g) = g

first_has : (P : Rules → Type 0) (gs : List Rules) (g : Rules) → slice_get gs 0 ≡ Some g → All P gs → P g
first_has P [] g e a = absurd cc
first_has P (h ∷ gs) g e a = subst P (ap (or_else h) e) (All-head P h gs a)

second_has : (P : Rules → Type 0) (gs : List Rules) (g : Rules) → slice_get gs 1 ≡ Some g → All P gs → P g
second_has P [] g e a = absurd cc
second_has P (h ∷ gs) g e a = first_has P gs g e (All-tail P h gs a)

listed_count : (p : Productions Rule) → length (listed p) ≡ length p.firsts + total p.seconds
listed_count p = length-map (coded p) (λ c. c.item) ∙ size_total p

abbrev FewIn : Rules → Type 0
FewIn g = All (λ (s : List Rule). length s < 2 ^ 30) g.states

second_few : (a b : List Rule) (more : List (List Rule)) → All (λ (s : List Rule). length s < 2 ^ 30) (a ∷ b ∷ more) → length b < 2 ^ 30
second_few a b more h = All-head (λ (s : List Rule). length s < 2 ^ 30) b more (All-tail (λ (s : List Rule). length s < 2 ^ 30) a (b ∷ more) h)

pub globals_few : (o : Outline) → IsSchema o → length o.globals < 2 ^ 30
globals_few o s =
    let opened : ElementEntry → QName × ℕ = λ e. (e.name, e.full) in
    let xs = map opened o.globals in
    let few : FewIn (whole_grammar (document xs)) = first_has FewIn o.grammars (whole_grammar (document xs)) s.has_wholes.document s.small.productions in
    let content : length (listed (document_content xs)) < 2 ^ 30 = second_few (listed whole_start) (listed (document_content xs)) (listed document_end ∷ []) few in
    let firsts : length (document_content xs).firsts ≡ length (map (opening 2) xs) + 1 = length-append (map (opening 2) xs) (plain se_any 2 ∷ []) in
    omega (arith, content, listed_count (document_content xs), firsts, length-map xs (opening 2), length-map o.globals opened)

pub fragment_few : (o : Outline) → o.known ≡ true → IsSchema o → length o.fragment < 2 ^ 30
fragment_few o k s =
    let xs = o.fragment in
    let few : FewIn (whole_grammar (fragment xs)) = second_has FewIn o.grammars (whole_grammar (fragment xs)) (s.has_wholes.fragment k) s.small.productions in
    let content : length (listed (fragment_content xs)) < 2 ^ 30 = second_few (listed whole_start) (listed (fragment_content xs)) [] few in
    let firsts : length (fragment_content xs).firsts ≡ length (map (opening 1) xs) + 2 = length-append (map (opening 1) xs) (plain se_any 1 ∷ plain ed 1 ∷ []) in
    omega (arith, content, listed_count (fragment_content xs), firsts, length-map xs (opening 1))

-- of each grammar past the wholes
pub states_few : (o : Outline) (gs : List Grammar) (i : ℕ) (g : Grammar) → map rules_of gs ≡ o.grammars → IsSchema o → i < length (drop 2 gs) → g ≡ get_or (drop 2 gs) i g → length g.states < 2 ^ 30
states_few o gs i g m s less e =
    let few : i < length gs - 2 = omega (arith, less, length-drop 2 gs) in
    let within : 2 + i < length gs = omega (arith, few) in
    let P : Rules → Type 0 = λ r. length r.states < 2 ^ 30 in
    let h : P (get_or (map rules_of gs) (2 + i) (rules_of g)) = All-get_or P (map rules_of gs) (2 + i) (rules_of g) (omega (arith, within, length-map gs rules_of)) (subst (All P) (sym m) s.small.states) in
    let at : get_or (map rules_of gs) (2 + i) (rules_of g) ≡ rules_of g = get_or-map rules_of gs (2 + i) g (rules_of g) within ∙ ap rules_of (sym (get_or-drop 2 gs i g) ∙ sym e) in
    let r : length (map (map rule) g.states) < 2 ^ 30 = subst P at h in
    omega (arith, r, length-map g.states (map rule))

pub productions_few : (o : Outline) (gs : List Grammar) (i : ℕ) (g : Grammar) → map rules_of gs ≡ o.grammars → IsSchema o → i < length (drop 2 gs) → g ≡ get_or (drop 2 gs) i g → All (λ (state : List Production). length state < 2 ^ 30) g.states
productions_few o gs i g m s less e =
    let few : i < length gs - 2 = omega (arith, less, length-drop 2 gs) in
    let within : 2 + i < length gs = omega (arith, few) in
    let h : FewIn (get_or (map rules_of gs) (2 + i) (rules_of g)) = All-get_or FewIn (map rules_of gs) (2 + i) (rules_of g) (omega (arith, within, length-map gs rules_of)) (subst (All FewIn) (sym m) s.small.productions) in
    let at : get_or (map rules_of gs) (2 + i) (rules_of g) ≡ rules_of g = get_or-map rules_of gs (2 + i) g (rules_of g) within ∙ ap rules_of (sym (get_or-drop 2 gs i g) ∙ sym e) in
    few_back g.states (subst FewIn at h)
  where
    few_back : (states : List (List Production)) → All (λ (s : List Rule). length s < 2 ^ 30) (map (map rule) states) → All (λ (s : List Production). length s < 2 ^ 30) states
    few_back states a = All-from_get_or (λ (s : List Production). length s < 2 ^ 30) states [] (λ k in'.
        let b : length (get_or (map (map rule) states) k []) < 2 ^ 30 = All-get_or (λ (s : List Rule). length s < 2 ^ 30) (map (map rule) states) k [] (omega (arith, in', length-map states (map rule))) a in
        let q : get_or (map (map rule) states) k [] ≡ map rule (get_or states k []) = get_or-map (map rule) states k [] [] in' in
        omega (arith, b, ap length q, length-map (get_or states k []) rule))

again : {X : Type 0} (xs : List X) (k : ℕ) (d : X) → k < length xs → get_or xs k d ≡ get_or xs k (get_or xs k d)
again [] k d less = absurd (omega (arith, less))
again (x ∷ xs) zero d less = refl
again (x ∷ xs) (suc k) d less = again xs k d (omega (arith, less))

pub all_states_few : (o : Outline) (gs : List Grammar) → map rules_of gs ≡ o.grammars → IsSchema o → All (λ (g : Grammar). length g.states < 2 ^ 30) (drop 2 gs)
all_states_few o gs m s = λ k d less. states_few o gs k (get_or (drop 2 gs) k d) m s less (again (drop 2 gs) k d less)

pub all_productions_few : (o : Outline) (gs : List Grammar) → map rules_of gs ≡ o.grammars → IsSchema o → All (λ (g : Grammar). All (λ (state : List Production). length state < 2 ^ 30) g.states) (drop 2 gs)
all_productions_few o gs m s = λ k d less. productions_few o gs k (get_or (drop 2 gs) k d) m s less (again (drop 2 gs) k d less)

-- ---- with a schema, and without one
pub known_is : (strict : Bool) (o : Outline) → o.known ≡ true → made_states strict o ≡ document (map (λ (e : ElementEntry). (e.name, e.full)) o.globals) ∷ fragment o.fragment ∷ map (part_states strict) (drop 2 o.grammars)
known_is strict o k = rw k refl

pub unknown_is : (strict : Bool) (o : Outline) → o.known ≡ false → IsSchema o → made_states strict o ≡ document (map (λ (e : ElementEntry). (e.name, e.full)) o.globals) ∷ []
unknown_is strict o k s =
    let e : o ≡ without_schema = s.has_wholes.without k in
    ap (made_states strict) e ∙ sym (ap (λ (z : Outline). document (map (λ (e : ElementEntry). (e.name, e.full)) z.globals) ∷ []) e)
