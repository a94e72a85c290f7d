-- What is told of a name, one declaration after another, tells whether all of its declarations agree.
use Rattle.std.proofs.Common.{◌≡◌, ℕ, ◌==◌, Bool, true, false, cond, ◌&&◌, ◌||◌, Some, None, List, [], ◌∷◌, map, fold, All, refl, sym, ap, ◌∙◌, arith}
use Rattle.std.specs.List.{Contains, list_any}
use Rattle.std.specs.Str.{bytes_eq}
use Rattle.std.proofs.lemmas.Bool.{and_from, and_parts, eqb-true, false≢true}
use Rattle.std.proofs.lemmas.List.Elements.{All-cons, All-contains, All-contains_itself, All-head, All-nil, All-tail, All-weaker}
use Rattle.std.proofs.lemmas.Slice.Eq.{bytes_eq-Decides}
use Rattle.xsd_model.specs.declared.parts.AttributeDecl.{AttributeDecl}
use Rattle.xsd_model.specs.declared.parts.ElementDecl.{ElementDecl}
use Rattle.exi_vocabulary.specs.Agreement.{Decl, agree_or, all_same, has_same, of_attribute, of_element, told_by, told_more, told_of}
use Rattle.exi_vocabulary.specs.Vocabulary.{Pair, all_alike, all_of_type, same_flag, same_pair}
use Rattle.exi_vocabulary.specs.declared.agreement.Told.{Told}

-- ---- tests
flag_itself : (b : Bool) → same_flag b b ≡ true
flag_itself true = refl
flag_itself false = refl

same_flags : (a b : Bool) → same_flag a b ≡ true → a ≡ b
same_flags true true e = refl
same_flags true false e = absurd (false≢true e)
same_flags false true e = absurd (false≢true e)
same_flags false false e = refl

number_itself : (n : ℕ) → (n == n) ≡ true
number_itself n = grind arith

pub pair_itself : (n : Pair) → same_pair n n ≡ true
pair_itself n = and_from (bytes_eq n.0 n.0) (bytes_eq n.1 n.1) ((bytes_eq-Decides n.0 n.0).1 refl) ((bytes_eq-Decides n.1 n.1).1 refl)

pub pair_is : (n m : Pair) → same_pair n m ≡ true → n ≡ m
pair_is n m e =
    let parts = and_parts (bytes_eq n.0 m.0) (bytes_eq n.1 m.1) e in
    let first : n.0 ≡ m.0 = (bytes_eq-Decides n.0 m.0).0 parts.0 in
    let second : n.1 ≡ m.1 = (bytes_eq-Decides n.1 m.1).0 parts.1 in
    λ i. (first i, second i)

same_itself : (d : Decl) → has_same d d ≡ true
same_itself d = and_from (d.of == d.of) (same_flag d.nillable d.nillable) (number_itself d.of) (flag_itself d.nillable)

-- declarations of one name that have the same are one
one_decl : (a b : Decl) → same_pair a.name b.name ≡ true → has_same a b ≡ true → a ≡ b
one_decl a b n e =
    let parts = and_parts (a.of == b.of) (same_flag a.nillable b.nillable) e in
    let name : a.name ≡ b.name = pair_is a.name b.name n in
    let of : a.of ≡ b.of = eqb-true a.of b.of parts.0 in
    let nillable : a.nillable ≡ b.nillable = same_flags a.nillable b.nillable parts.1 in
    λ i. record { name = name i; of = of i; nillable = nillable i }

-- ---- all that is told of a name, with what its first declaration has
abbrev first_of : Pair → Told → Decl
first_of name t = record { name = name; of = t.of; nillable = t.nillable }

and_and : (a b c : Bool) → ((a && b) && c) ≡ (a && (b && c))
and_and true b c = refl
and_and false b c = refl

told_on : (name : Pair) (t : Told) (ds : List Decl) → agree_or (fold (told_more name) (Some t) ds) ≡ (t.agree && all_same (first_of name t) ds)
told_on name t [] = by t.agree
  where
    by : (b : Bool) → b ≡ (b && true)
    by true = refl
    by false = refl
told_on name t (d ∷ ds) = by (same_pair name d.name) (told_on name (told_by (Some t) d) ds) (told_on name t ds)
  where
    by : (b : Bool) → agree_or (fold (told_more name) (Some (told_by (Some t) d)) ds) ≡ ((t.agree && has_same (first_of name t) d) && all_same (first_of name t) ds) → agree_or (fold (told_more name) (Some t) ds) ≡ (t.agree && all_same (first_of name t) ds) → agree_or (fold (told_more name) (cond b (Some (told_by (Some t) d)) (Some t)) ds) ≡ (t.agree && cond b (has_same (first_of name t) d && all_same (first_of name t) ds) (all_same (first_of name t) ds))
    by true e h = e ∙ and_and t.agree (has_same (first_of name t) d) (all_same (first_of name t) ds)
    by false e h = h

-- ---- each of a name has the same, and the converse
abbrev IsSame : Decl → Decl → Type 0
IsSame d x = same_pair d.name x.name ≡ true → has_same d x ≡ true

each_same : (d : Decl) (ds : List Decl) → all_same d ds ≡ true → All (IsSame d) ds
each_same d [] e = All-nil (IsSame d)
each_same d (x ∷ xs) e = by (same_pair d.name x.name) refl e (each_same d xs)
  where
    by : (b : Bool) → same_pair d.name x.name ≡ b → cond b (has_same d x && all_same d xs) (all_same d xs) ≡ true → (all_same d xs ≡ true → All (IsSame d) xs) → All (IsSame d) (x ∷ xs)
    by true h e f =
        let parts = and_parts (has_same d x) (all_same d xs) e in
        All-cons (IsSame d) x xs (λ _. parts.0) (f parts.1)
    by false h e f = All-cons (IsSame d) x xs (λ g. absurd (false≢true (sym h ∙ g))) (f e)

iff : (a b : Bool) → (a ≡ true → b ≡ true) → (b ≡ true → a ≡ true) → a ≡ b
iff true b f g = sym (f refl)
iff false true f g = g refl
iff false false f g = refl

-- two of one name among the declarations tell the same of all
one_tells : (all : List Decl) (f d : Decl) → Contains all f → Contains all d → same_pair f.name d.name ≡ true → all_same f all ≡ all_same d all
one_tells all f d f_in d_in e =
    let turned : same_pair d.name f.name ≡ true = ap (λ n. same_pair n f.name) (sym (pair_is f.name d.name e)) ∙ pair_itself f.name in
    iff (all_same f all) (all_same d all)
    (λ h. ap (λ x. all_same x all) (sym (one_decl f d e (All-contains (IsSame f) all d (each_same f all h) d_in e))) ∙ h)
    (λ h. ap (λ x. all_same x all) (sym (one_decl d f turned (All-contains (IsSame d) all f (each_same d all h) f_in turned))) ∙ h)

-- the first of a name tells
record Tells (name : Pair) (ds : List Decl) : Type 0 where
  first : Decl
  among : Contains ds first
  named : same_pair name first.name ≡ true
  tells : agree_or (told_of name ds) ≡ all_same first ds

abbrev has_name : Pair → Decl → Bool
has_name name d = same_pair name d.name

first_tells : (name : Pair) (x : Decl) (xs : List Decl) → same_pair name x.name ≡ true → Tells name (x ∷ xs)
first_tells name x xs e = record {
  first = x;
  among = All-head (Contains (x ∷ xs)) x xs (All-contains_itself (x ∷ xs));
  named = e;
  tells =
      (let t : Told = record { of = x.of; nillable = x.nillable; agree = true } in
      let named : first_of name t ≡ x = (let same : name ≡ x.name = pair_is name x.name e in λ i. record { name = same i; of = x.of; nillable = x.nillable }) in
      ap (λ b. agree_or (fold (told_more name) (cond b (Some t) None) xs)) e
      ∙ told_on name t xs
      ∙ ap (λ f. all_same f xs) named
      ∙ ap (λ b. b && all_same x xs) (sym (same_itself x))
      ∙ ap (λ b. cond b (has_same x x && all_same x xs) (all_same x xs)) (sym (pair_itself x.name)));
}

later_tells : (name : Pair) (x : Decl) (xs : List Decl) → same_pair name x.name ≡ false → Tells name xs → Tells name (x ∷ xs)
later_tells name x xs e t = record {
  first = t.first;
  among = All-contains (Contains (x ∷ xs)) xs t.first (All-tail (Contains (x ∷ xs)) x xs (All-contains_itself (x ∷ xs))) t.among;
  named = t.named;
  tells =
      (let other : same_pair t.first.name x.name ≡ false = ap (λ n. same_pair n x.name) (sym (pair_is name t.first.name t.named)) ∙ e in
      ap (λ b. agree_or (fold (told_more name) (cond b (Some (told_by None x)) None) xs)) e
      ∙ t.tells
      ∙ ap (λ b. cond b (has_same t.first x && all_same t.first xs) (all_same t.first xs)) (sym other));
}

one_of_name : (name : Pair) (ds : List Decl) → list_any (has_name name) ds ≡ true → Tells name ds
one_of_name name [] e = absurd (false≢true e)
one_of_name name (x ∷ xs) e = by (same_pair name x.name) refl e (one_of_name name xs)
  where
    by : (b : Bool) → same_pair name x.name ≡ b → (b || list_any (has_name name) xs) ≡ true → (list_any (has_name name) xs ≡ true → Tells name xs) → Tells name (x ∷ xs)
    by true h e f = first_tells name x xs h
    by false h e f = later_tells name x xs h (f e)

or_here : (a b : Bool) → a ≡ true → (a || b) ≡ true
or_here true b e = refl
or_here false b e = absurd (false≢true e)

or_there : (a b : Bool) → b ≡ true → (a || b) ≡ true
or_there true b e = refl
or_there false b e = e

all_named : (ds : List Decl) → All (λ d. list_any (has_name d.name) ds ≡ true) ds
all_named [] = All-nil (λ (d : Decl). list_any (has_name d.name) [] ≡ true)
all_named (x ∷ xs) =
    All-cons (λ (d : Decl). list_any (has_name d.name) (x ∷ xs) ≡ true) x xs (or_here (same_pair x.name x.name) (list_any (has_name x.name) xs) (pair_itself x.name))
    (All-weaker (λ (d : Decl). list_any (has_name d.name) xs ≡ true) (λ (d : Decl). list_any (has_name d.name) (x ∷ xs) ≡ true) (λ d h. or_there (same_pair d.name x.name) (list_any (has_name d.name) xs) h) xs (all_named xs))

agree_is : (ds : List Decl) (d : Decl) → Contains ds d → agree_or (told_of d.name ds) ≡ all_same d ds
agree_is ds d d_in =
    let t = one_of_name d.name ds (All-contains (λ (x : Decl). list_any (has_name x.name) ds ≡ true) ds d (all_named ds) d_in) in
    let turned : same_pair t.first.name d.name ≡ true = ap (λ n. same_pair n d.name) (sym (pair_is d.name t.first.name t.named)) ∙ pair_itself d.name in
    t.tells ∙ one_tells ds t.first d t.among d_in turned

map_alike : {X Y : Type 0} (g h : X → Y) (xs : List X) → All (λ x. g x ≡ h x) xs → map g xs ≡ map h xs
map_alike g h [] all = refl
map_alike g h (x ∷ xs) all =
    ap (λ y. y ∷ map g xs) (All-head (λ x. g x ≡ h x) x xs all) ∙ ap (λ l. h x ∷ l) (map_alike g h xs (All-tail (λ x. g x ≡ h x) x xs all))

pub all_agree : (ds : List Decl) → map (λ (d : Decl). agree_or (told_of d.name ds)) ds ≡ map (λ d. all_same d ds) ds
all_agree ds =
    map_alike (λ (d : Decl). agree_or (told_of d.name ds)) (λ d. all_same d ds) ds
    (All-weaker (Contains ds) (λ (d : Decl). agree_or (told_of d.name ds) ≡ all_same d ds) (agree_is ds) ds (All-contains_itself ds))

-- ---- elements and attributes
alike_is : (e : ElementDecl) (es : List ElementDecl) → all_same (of_element e) (map of_element es) ≡ all_alike e es
alike_is e [] = refl
alike_is e (d ∷ ds) = ap (λ b. cond (same_pair (of_element e).name (of_element d).name) (has_same (of_element e) (of_element d) && b) b) (alike_is e ds)

map_same : {X Y : Type 0} (g h : X → Y) (xs : List X) → ((x : X) → g x ≡ h x) → map g xs ≡ map h xs
map_same g h [] e = refl
map_same g h (x ∷ xs) e = ap (λ y. y ∷ map g xs) (e x) ∙ ap (λ l. h x ∷ l) (map_same g h xs e)

mapped : {X Y Z : Type 0} (g : Y → Z) (f : X → Y) (xs : List X) → map g (map f xs) ≡ map (λ x. g (f x)) xs
mapped g f [] = refl
mapped g f (x ∷ xs) = ap (λ l. g (f x) ∷ l) (mapped g f xs)

pub elements_agree : (es : List ElementDecl) → map (λ d. all_same d (map of_element es)) (map of_element es) ≡ map (λ e. all_alike e es) es
elements_agree es =
    mapped (λ d. all_same d (map of_element es)) of_element es
    ∙ map_same (λ e. all_same (of_element e) (map of_element es)) (λ e. all_alike e es) es (λ e. alike_is e es)

one_and : (b : Bool) → (b && true) ≡ b
one_and true = refl
one_and false = refl

of_type_is : (a : AttributeDecl) (ads : List AttributeDecl) → all_same (of_attribute a) (map of_attribute ads) ≡ all_of_type a ads
of_type_is a [] = refl
of_type_is a (d ∷ ds) =
    ap (λ b. cond (same_pair (of_attribute a).name (of_attribute d).name) (has_same (of_attribute a) (of_attribute d) && b) b) (of_type_is a ds)
    ∙ ap (λ b. cond (same_pair (of_attribute a).name (of_attribute d).name) (b && all_of_type a ds) (all_of_type a ds)) (one_and (a.of == d.of))

pub attributes_agree : (ads : List AttributeDecl) → map (λ d. all_same d (map of_attribute ads)) (map of_attribute ads) ≡ map (λ a. all_of_type a ads) ads
attributes_agree ads =
    mapped (λ d. all_same d (map of_attribute ads)) of_attribute ads
    ∙ map_same (λ a. all_same (of_attribute a) (map of_attribute ads)) (λ a. all_of_type a ads) ads (λ a. of_type_is a ads)
