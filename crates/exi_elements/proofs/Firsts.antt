-- The first declarations that open grammars, one declaration at a time.
use Rattle.std.proofs.Common.{◌≡◌, ℕ, zero, suc, ◌+◌, ◌<◌, ◌==◌, Bool, true, false, cond, ◌&&◌, Option, Some, None, inl, inr, List, [], ◌∷◌, ◌++◌, length, get_or, take, refl, sym, ap, ◌∙◌, arith}
use mathlib.Core.Bool.{beq}
use Rattle.std.specs.Bool.{one_answer}
use Rattle.std.specs.Cmp.Lexicographic.{bytes_decides}
use Rattle.std.specs.List.{slice_get}
use Rattle.std.specs.Map.{lookup}
use Rattle.std.specs.Str.{bytes_eq}
use Rattle.std.proofs.lemmas.Bool.{and_parts, cases_eq, eq-eqb, eqb-true}
use Rattle.std.proofs.lemmas.List.{get_or_append_left, get_or_push, length-take, take_more}
use Rattle.xsd_model.specs.declared.parts.ElementDecl.{ElementDecl}
use Rattle.xsd_model.specs.Parts.{Parts}
use Rattle.exi_elements.specs.declared.opening.Opening.{Opening}
use Rattle.exi_elements.specs.StandIns.{first_alike, opener, opens_alike, same_flag}
use Rattle.exi_elements.specs.Openings.{AreFirsts, IsOpening, first_from, opens, or_place, same_opening}
use Rattle.exi_elements.proofs.Totals.{same_sides}

-- ---- what is alike
bytes_same : (xs ys : List ℕ) → bytes_eq xs ys ≡ true → xs ≡ ys
bytes_same xs ys h = (bytes_decides xs ys).0 h

bytes_sides : (xs ys : List ℕ) → bytes_eq xs ys ≡ bytes_eq ys xs
bytes_sides xs ys = one_answer (bytes_eq xs ys) (bytes_eq ys xs) (bytes_decides xs ys) (λ e. sym ((bytes_decides ys xs).0 e), λ e. (bytes_decides ys xs).1 (sym e))

flag_sides : (a b : Bool) → same_flag a b ≡ beq b a
flag_sides true true = refl
flag_sides true false = refl
flag_sides false true = refl
flag_sides false false = refl

flag_same : (a b : Bool) → beq a b ≡ true → a ≡ b
flag_same true true h = refl
flag_same true false h = sym h
flag_same false true h = h
flag_same false false h = refl

record Alike (a b : Opening) : Type 0 where
  pub local : a.local.now ≡ b.local.now
  pub uri : a.uri.now ≡ b.uri.now
  pub of : a.of ≡ b.of
  pub nillable : a.nillable ≡ b.nillable

alike : (a b : Opening) → same_opening a b ≡ true → Alike a b
alike a b h =
    let first = and_parts (bytes_eq a.local.now b.local.now) (bytes_eq a.uri.now b.uri.now && ((a.of == b.of) && beq a.nillable b.nillable)) h in
    let second = and_parts (bytes_eq a.uri.now b.uri.now) ((a.of == b.of) && beq a.nillable b.nillable) first.1 in
    let third = and_parts (a.of == b.of) (beq a.nillable b.nillable) second.1 in record {
      local = bytes_same a.local.now b.local.now first.0;
      uri = bytes_same a.uri.now b.uri.now second.0;
      of = eqb-true a.of b.of third.0;
      nillable = flag_same a.nillable b.nillable third.1;
    }

abbrev four : Bool → Bool → Bool → Bool → Bool
four a b c d = a && (b && (c && d))

opens_alike_both : (a b : Opening) → Alike a b → (e : ElementDecl) → opens a e ≡ opens b e
opens_alike_both a b h e =
    ap (λ l. four (bytes_eq l e.name.local) (bytes_eq a.uri.now e.name.uri) (a.of == e.of) (same_flag a.nillable e.nillable)) h.local
    ∙ ap (λ l. four (bytes_eq b.local.now e.name.local) (bytes_eq l e.name.uri) (a.of == e.of) (same_flag a.nillable e.nillable)) h.uri
    ∙ ap (λ n. four (bytes_eq b.local.now e.name.local) (bytes_eq b.uri.now e.name.uri) (n == e.of) (same_flag a.nillable e.nillable)) h.of
    ∙ ap (λ f. four (bytes_eq b.local.now e.name.local) (bytes_eq b.uri.now e.name.uri) (b.of == e.of) (same_flag f e.nillable)) h.nillable

-- what has this element's is what the element has
opens_is : (k q : Opening) (e : ElementDecl) → IsOpening k e → opens q e ≡ same_opening k q
opens_is k q e h =
    ap (λ l. four (bytes_eq q.local.now l) (bytes_eq q.uri.now e.name.uri) (q.of == e.of) (same_flag q.nillable e.nillable)) (sym h.local)
    ∙ ap (λ l. four (bytes_eq q.local.now k.local.now) (bytes_eq q.uri.now l) (q.of == e.of) (same_flag q.nillable e.nillable)) (sym h.uri)
    ∙ ap (λ n. four (bytes_eq q.local.now k.local.now) (bytes_eq q.uri.now k.uri.now) (q.of == n) (same_flag q.nillable e.nillable)) (sym h.of)
    ∙ ap (λ f. four (bytes_eq q.local.now k.local.now) (bytes_eq q.uri.now k.uri.now) (q.of == k.of) (same_flag q.nillable f)) (sym h.nillable)
    ∙ ap (λ b. four b (bytes_eq q.uri.now k.uri.now) (q.of == k.of) (same_flag q.nillable k.nillable)) (bytes_sides q.local.now k.local.now)
    ∙ ap (λ b. four (bytes_eq k.local.now q.local.now) b (q.of == k.of) (same_flag q.nillable k.nillable)) (bytes_sides q.uri.now k.uri.now)
    ∙ ap (λ b. four (bytes_eq k.local.now q.local.now) (bytes_eq k.uri.now q.uri.now) b (same_flag q.nillable k.nillable)) (same_sides q.of k.of)
    ∙ ap (λ b. four (bytes_eq k.local.now q.local.now) (bytes_eq k.uri.now q.uri.now) (k.of == q.of) b) (flag_sides q.nillable k.nillable)

opens_it : (k : Opening) (e : ElementDecl) → IsOpening k e → (d : ElementDecl) → opens k d ≡ opens_alike e d
opens_it k e h d =
    ap (λ l. four (bytes_eq l d.name.local) (bytes_eq k.uri.now d.name.uri) (k.of == d.of) (same_flag k.nillable d.nillable)) h.local
    ∙ ap (λ l. four (bytes_eq e.name.local d.name.local) (bytes_eq l d.name.uri) (k.of == d.of) (same_flag k.nillable d.nillable)) h.uri
    ∙ ap (λ n. four (bytes_eq e.name.local d.name.local) (bytes_eq e.name.uri d.name.uri) (n == d.of) (same_flag k.nillable d.nillable)) h.of
    ∙ ap (λ f. four (bytes_eq e.name.local d.name.local) (bytes_eq e.name.uri d.name.uri) (e.of == d.of) (same_flag f d.nillable)) h.nillable

same_itself : (k : Opening) → same_opening k k ≡ true
same_itself k =
    ap (λ b. four b (bytes_eq k.uri.now k.uri.now) (k.of == k.of) (beq k.nillable k.nillable)) ((bytes_decides k.local.now k.local.now).1 refl)
    ∙ ap (λ b. four true b (k.of == k.of) (beq k.nillable k.nillable)) ((bytes_decides k.uri.now k.uri.now).1 refl)
    ∙ ap (λ b. four true true b (beq k.nillable k.nillable)) (eq-eqb k.of k.of refl)
    ∙ by k.nillable
  where
    by : (b : Bool) → beq b b ≡ true
    by true = refl
    by false = refl

-- ---- the first that passes
abbrev or_else : Option ℕ → Option ℕ → Option ℕ
or_else None o = o
or_else (Some x) o = Some x

first_push : (n : ℕ) (test : ElementDecl → Bool) (es : List ElementDecl) (e : ElementDecl) → first_from n test (es ++ e ∷ []) ≡ or_else (first_from n test es) (cond (test e) (Some (n + length es)) None)
first_push n test [] e = let same : n ≡ n + 0 = omega arith in ap (λ k. cond (test e) (Some k) None) same
first_push n test (d ∷ ds) e = by (test d) (first_push (suc n) test ds e)
  where
    next : suc n + length ds ≡ n + suc (length ds)
    next = omega arith

    by : (b : Bool) → first_from (suc n) test (ds ++ e ∷ []) ≡ or_else (first_from (suc n) test ds) (cond (test e) (Some (suc n + length ds)) None) → cond b (Some n) (first_from (suc n) test (ds ++ e ∷ [])) ≡ or_else (cond b (Some n) (first_from (suc n) test ds)) (cond (test e) (Some (n + suc (length ds))) None)
    by true h = refl
    by false h = h ∙ ap (λ k. or_else (first_from (suc n) test ds) (cond (test e) (Some k) None)) next

first_agree : (n : ℕ) (f g : ElementDecl → Bool) (es : List ElementDecl) → ((e : ElementDecl) → f e ≡ g e) → first_from n f es ≡ first_from n g es
first_agree n f g [] h = refl
first_agree n f g (e ∷ es) h =
    ap (λ b. cond b (Some n) (first_from (suc n) f es)) (h e) ∙ ap (λ o. cond (g e) (Some n) o) (first_agree (suc n) f g es h)

or_else_place : (place : ℕ) (o : Option ℕ) → or_else o (Some place) ≡ Some (or_place place o)
or_else_place place None = refl
or_else_place place (Some x) = refl

or_else_none : (o : Option ℕ) → or_else o None ≡ o
or_else_none None = refl
or_else_none (Some x) = refl

-- one more that is kept
pub firsts_more : (old new : List (Opening × ℕ)) (es : List ElementDecl) (i first : ℕ) (k : Opening) (e d : ElementDecl) → i < length es → e ≡ get_or es i d → IsOpening k e → AreFirsts old (take i es)
    → first ≡ or_place i (lookup (same_opening k) old)
    → ((q : Opening) → lookup (same_opening q) new ≡ cond (same_opening k q) (Some first) (lookup (same_opening q) old))
    → AreFirsts new (take (i + 1) es)
firsts_more old new es i first k e d less at is kept first_is puts q =
    puts q ∙ by (same_opening k q) refl ∙ sym grown
  where
    so_far : 0 + length (take i es) ≡ i
    so_far = omega (arith, length-take i es, less)

    grown : first_from 0 (opens q) (take (i + 1) es) ≡ or_else (first_from 0 (opens q) (take i es)) (cond (same_opening k q) (Some i) None)
    grown =
        ap (first_from 0 (opens q)) (take_more es i d less ∙ ap (λ x. take i es ++ x ∷ []) (sym at))
        ∙ first_push 0 (opens q) (take i es) e
        ∙ ap (λ n. or_else (first_from 0 (opens q) (take i es)) (cond (opens q e) (Some n) None)) so_far
        ∙ ap (λ b. or_else (first_from 0 (opens q) (take i es)) (cond b (Some i) None)) (opens_is k q e is)

    by : (b : Bool) → same_opening k q ≡ b → cond b (Some first) (lookup (same_opening q) old) ≡ or_else (first_from 0 (opens q) (take i es)) (cond b (Some i) None)
    by true same =
        ap Some (first_is ∙ ap (or_place i) (kept k ∙ first_agree 0 (opens k) (opens q) (take i es) (opens_alike_both k q (alike k q same))))
        ∙ sym (or_else_place i (first_from 0 (opens q) (take i es)))
    by false apart = kept q ∙ sym (or_else_none (first_from 0 (opens q) (take i es)))

-- ---- the opener
first_told : (n : ℕ) (e : ElementDecl) (test : ElementDecl → Bool) → ((d : ElementDecl) → test d ≡ opens_alike e d) → (i : ℕ) (es : List ElementDecl) (d : ElementDecl) → i < length es → test (get_or es i d) ≡ true → or_place (n + i) (first_from n test (take i es)) ≡ first_alike n e es
first_told n e test same i [] d less here = absurd (omega (arith, less))
first_told n e test same zero (x ∷ xs) d less here =
    let at : n + 0 ≡ n = omega arith in
    at ∙ sym (ap (λ b. cond b n (first_alike (suc n) e xs)) (sym (same x) ∙ here))
first_told n e test same (suc i) (x ∷ xs) d less here =
    let next : suc n + i ≡ n + suc i = omega arith in
    by (test x) (ap (λ m. or_place m (first_from (suc n) test (take i xs))) (sym next) ∙ first_told (suc n) e test same i xs d (omega (arith, less)) here)
    ∙ ap (λ b. cond b n (first_alike (suc n) e xs)) (same x)
  where
    by : (b : Bool) → or_place (n + suc i) (first_from (suc n) test (take i xs)) ≡ first_alike (suc n) e xs → or_place (n + suc i) (cond b (Some n) (first_from (suc n) test (take i xs))) ≡ cond b n (first_alike (suc n) e xs)
    by true h = refl
    by false h = h

slot_is : {X : Type 0} (xs : List X) (i : ℕ) (d : X) → i < length xs → slice_get xs i ≡ Some (get_or xs i d)
slot_is [] i d less = absurd (omega (arith, less))
slot_is (x ∷ xs) zero d less = refl
slot_is (x ∷ xs) (suc i) d less = slot_is xs i d (omega (arith, less))

pub opener_is : (p : Parts) (kept : List (Opening × ℕ)) (i first : ℕ) (k : Opening) (e d : ElementDecl) → i < length p.elements → e ≡ get_or p.elements i d → IsOpening k e → AreFirsts kept (take i p.elements)
    → first ≡ or_place i (lookup (same_opening k) kept) → first ≡ opener p i
opener_is p kept i first k e d less at is are first_is =
    let slot : slice_get p.elements i ≡ Some e = slot_is p.elements i d less ∙ ap Some (sym at) in
    let it : opens k (get_or p.elements i d) ≡ true = ap (opens k) (sym at) ∙ opens_is k k e is ∙ same_itself k in
    let from_none : i ≡ 0 + i = omega arith in
    first_is
    ∙ ap (or_place i) (are k)
    ∙ ap (λ m. or_place m (first_from 0 (opens k) (take i p.elements))) from_none
    ∙ first_told 0 e (opens k) (opens_it k e is) i p.elements d less it
    ∙ sym (opened slot)
  where
    opened : slice_get p.elements i ≡ Some e → opener p i ≡ first_alike 0 e p.elements
    opened slot = rw slot refl

-- one more opener
pub openers_next : (p : Parts) (old new : List ℕ) (i first : ℕ) → length old ≡ i → ((j : ℕ) → j < i → get_or old j 0 ≡ opener p j) → first ≡ opener p i → new ≡ old ++ first ∷ [] → (j : ℕ) → j < i + 1 → get_or new j 0 ≡ opener p j
openers_next p old new i first count each first_is new_is j less =
    ap (λ l. get_or l j 0) new_is ∙ elim (cases_eq j i) [
      | inl e ↦ get_or_push old first 0 j (count ∙ sym e) ∙ first_is ∙ ap (opener p) (sym e)
      | inr n ↦ get_or_append_left old (first ∷ []) 0 j (omega (arith, count, n, less)) ∙ each j (omega (arith, n, less))
    ]
