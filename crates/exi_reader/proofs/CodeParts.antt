-- The production that a code tells, read by its place among those of a state.
use Rattle.std.proofs.Common.{◌≡◌, ◌⊎◌, inl, inr, ◌<◌, ℕ, zero, suc, ◌+◌, true, false, List, [], ◌∷◌, ◌++◌, length, map, get_or, Option, None, Result, Ok, Err, refl, sym, ap, ◌∙◌, subst, arith}
use Rattle.std.specs.Prelude.{slice_get}
use Rattle.std.proofs.lemmas.Bool.{le-ltb}
use Rattle.std.proofs.lemmas.List.{map-append}
use Rattle.exi_bits.specs.declared.align.Align.{Align}
use Rattle.exi_bits.specs.declared.fault.Fault.{Fault}
use Rattle.exi_bits.specs.declared.align.Align.TheVariants as align
use Rattle.exi_bits.specs.declared.fault.Kind.{Kind}
use Rattle.exi_bits.specs.declared.fault.Kind.TheVariants as kind
use Rattle.exi_bits.specs.Bits.{Spot, le_value, left, number_at, value_of}
use Rattle.exi_bits.specs.Unsigned.{◌>>=◌, below_at, fault_at, field_at}
use Rattle.exi_bits.specs.Widths.{width_from}
use Rattle.exi_bits.proofs.Below.{below_one}
use Rattle.exi_builtin.specs.declared.learnable.Learnable.{Learnable}
use Rattle.exi_builtin.specs.declared.learnable.Learnable.TheVariants as learnable
use Rattle.exi_builtin.specs.declared.learnable.Room.{Room}
use Rattle.exi_builtin.specs.BuiltIn.{BuiltInRule}
use Rattle.exi_builtin.specs.Learning.{Learning, productions, rule_in as learned_rule, state_behind}
use Rattle.exi_builtin.proofs.Rules.{rules_are}
use Rattle.exi_gram.specs.declared.named.Named.TheVariants as named
use Rattle.exi_gram.specs.Books.{state_at}
use Rattle.exi_gram.specs.Codes.{Coded, Productions, Second, code_at, coded, coded_from, coded_second, coded_seconds, first_told, group, mapped, mapped_second, part_at, single}
use Rattle.exi_gram.specs.Laws.{members, placed, placed_second, placed_seconds, places_from}
use Rattle.exi_gram.specs.Naming.{Entry}
use Rattle.exi_gram.specs.Switches.{align_of}
use Rattle.exi_gram.specs.Tables.{coded_of, kept_entry}
use Rattle.exi_gram.specs.Terminals as gram
use Rattle.exi_gram.specs.declared.code.Coded.{Coded as Kept}
use Rattle.exi_gram.specs.Wholes.{listed}
use Rattle.exi_gram.proofs.CodeLaws.{mapped_read}
use Rattle.exi_processing.specs.Configurations.{Setting, built_in, in_book, outer_rules}
use Rattle.exi_processing.specs.declared.frames.Outer.{Outer}
use Rattle.exi_processing.specs.declared.frames.Outer.TheVariants as outer
use Rattle.exi_processing.specs.Rules.{Rule, book_rule, built_in_rule, built_in_terminal, fragment_start, rule_of, start_document}

-- ---- what stands at the places from one on
abbrev Agrees : {X : Type 0} → (ℕ → X) → ℕ → List X → Type 0
Agrees f n [] = Unit {0}
Agrees f n (x ∷ xs) = (f n ≡ x) × Agrees f (suc n) xs

agrees_left : {X : Type 0} (f : ℕ → X) (n : ℕ) (xs ys : List X) → Agrees f n (xs ++ ys) → Agrees f n xs
agrees_left f n [] ys h = tt
agrees_left f n (x ∷ xs) ys h = (h.0, agrees_left f (suc n) xs ys h.1)

agrees_right : {X : Type 0} (f : ℕ → X) (n : ℕ) (xs ys : List X) → Agrees f n (xs ++ ys) → Agrees f (n + length xs) ys
agrees_right f n [] ys h = let e : n ≡ n + 0 = omega arith in subst (λ (i : ℕ). Agrees f i ys) e h
agrees_right f n (x ∷ xs) ys h = let e : suc n + length xs ≡ n + suc (length xs) = omega arith in subst (λ (i : ℕ). Agrees f i ys) e (agrees_right f (suc n) xs ys h.1)

agrees_get : {X : Type 0} (f : ℕ → X) (d : X) (n : ℕ) (xs : List X) → ((i : ℕ) → f (n + i) ≡ get_or xs i d) → Agrees f n xs
agrees_get f d n [] h = tt
agrees_get {X} f d n (x ∷ xs) h =
    let e : n + 0 ≡ n = omega arith in
    (ap f (sym e) ∙ h 0, agrees_get f d (suc n) xs (λ i. let k : suc n + i ≡ n + suc i = omega arith in ap f k ∙ h (suc i)))

-- ---- so productions are what stands at their places
cons_same : {X : Type 0} (x y : X) (xs ys : List X) → x ≡ y → xs ≡ ys → x ∷ xs ≡ y ∷ ys
cons_same x y xs ys e h = cc (e, h)

places_back : {X : Type 0} (f : ℕ → X) (n : ℕ) (xs : List X) → Agrees f n xs → map f (places_from n xs) ≡ xs
places_back f n [] h = refl
places_back f n (x ∷ xs) h = cons_same (f n) x (map f (places_from (suc n) xs)) xs h.0 (places_back f (suc n) xs h.1)

abbrev items : {X : Type 0} → List (Coded X) → List X
items cs = map (λ c. c.item) cs

from_items : {X : Type 0} (front : List ℕ) (part : ℕ) (xs : List X) → items (coded_from front part xs) ≡ xs
from_items front part [] = refl
from_items {X} front part (x ∷ xs) = ap (λ (ys : List X). x ∷ ys) (from_items front (suc part) xs)

abbrev second_items : {X : Type 0} → Second X → List X
second_items (single x) = x ∷ []
second_items (group xs) = xs

abbrev flat : {X : Type 0} → List (Second X) → List X
flat [] = []
flat (x ∷ xs) = second_items x ++ flat xs

coded_second_items : {X : Type 0} (front : List ℕ) (part : ℕ) (x : Second X) → items (coded_second front part x) ≡ second_items x
coded_second_items front part (single x) = refl
coded_second_items front part (group xs) = from_items (front ++ part ∷ []) 0 xs

append_items : {X : Type 0} (xs ys : List (Coded X)) → items (xs ++ ys) ≡ items xs ++ items ys
append_items xs ys = map-append (λ c. c.item) xs ys

coded_items : {X : Type 0} (front : List ℕ) (part : ℕ) (xs : List (Second X)) → items (coded_seconds front part xs) ≡ flat xs
coded_items front part [] = refl
coded_items {X} front part (x ∷ xs) =
    append_items (coded_second front part x) (coded_seconds front (suc part) xs)
    ∙ (ap (λ (ys : List X). ys ++ items (coded_seconds front (suc part) xs)) (coded_second_items front part x)
    ∙ ap (λ (ys : List X). second_items x ++ ys) (coded_items front (suc part) xs))

listed_is : {X : Type 0} (p : Productions X) → listed p ≡ p.firsts ++ flat p.seconds
listed_is {X} p =
    is_items
    ∙ (append_items (coded_from [] 0 p.firsts) (coded_seconds (length p.firsts ∷ []) 0 p.seconds)
    ∙ (ap (λ (ys : List X). ys ++ items (coded_seconds (length p.firsts ∷ []) 0 p.seconds)) (from_items [] 0 p.firsts)
    ∙ ap (λ (ys : List X). p.firsts ++ ys) (coded_items (length p.firsts ∷ []) 0 p.seconds)))
  where
    is_items : listed p ≡ items (coded p)
    is_items = refl

second_back : {X : Type 0} (f : ℕ → X) (n : ℕ) (x : Second X) → Agrees f n (second_items x) → mapped_second f (placed_second n x) ≡ x
second_back {X} f n (single x) h = ap (λ (y : X). single y) h.0
second_back {X} f n (group xs) h = ap (λ (ys : List X). group ys) (places_back f n xs h)

second_count : {X : Type 0} (x : Second X) → length (second_items x) ≡ members x
second_count (single x) = refl
second_count (group xs) = refl

seconds_back : {X : Type 0} (f : ℕ → X) (n : ℕ) (xs : List (Second X)) → Agrees f n (flat xs) → map (mapped_second f) (placed_seconds n xs) ≡ xs
seconds_back f n [] h = refl
seconds_back {X} f n (x ∷ xs) h =
    let behind = agrees_right f n (second_items x) (flat xs) h in
    cons_same (mapped_second f (placed_second n x)) x (map (mapped_second f) (placed_seconds (n + members x) xs)) xs
    (second_back f n x (agrees_left f n (second_items x) (flat xs) h))
    (seconds_back f (n + members x) xs (subst (λ (k : ℕ). Agrees f (n + k) (flat xs)) (second_count x) behind))

abbrev of_parts : {X : Type 0} → List X → List (Second X) → Productions X
of_parts firsts seconds = record { firsts = firsts; seconds = seconds }

placed_back : {X : Type 0} (d : X) (p : Productions X) → mapped (λ i. get_or (listed p) i d) (placed p) ≡ p
placed_back {X} d p =
    let f : ℕ → X = λ i. get_or (listed p) i d in
    let all : Agrees f 0 (p.firsts ++ flat p.seconds) = subst (λ (xs : List X). Agrees f 0 xs) (listed_is p) (agrees_get f d 0 (listed p) (λ i. ap f (zero_plus i))) in
    ap (λ (front : List X). of_parts front (map (mapped_second f) (placed_seconds (length p.firsts) p.seconds))) (places_back f 0 p.firsts (agrees_left f 0 p.firsts (flat p.seconds) all))
    ∙ ap (λ (xs : List (Second X)). of_parts p.firsts xs) (seconds_back f (length p.firsts) p.seconds (subst (λ (k : ℕ). Agrees f k (flat p.seconds)) (zero_plus (length p.firsts)) (agrees_right f 0 p.firsts (flat p.seconds) all)))
  where
    zero_plus : (i : ℕ) → 0 + i ≡ i
    zero_plus i = omega arith

abbrev told_rule : Rule × Spot → Result (Rule × Spot) Fault
told_rule z = Ok z

abbrev told_entry : Entry × Spot → Result (Entry × Spot) Fault
told_entry z = Ok z

-- ---- a book's production, by its place
abbrev no_entry : Entry
no_entry = record { rule = record { on = gram.sd; to = 0; inner = None }; named = named.Nothing }

abbrev entry_at : Productions Entry → ℕ → Entry
entry_at p i = get_or (listed p) i no_entry

bind_ok : {A B : Type 0} (r : Result A Fault) (x : A) (f : A → Result B Fault) → r ≡ Ok x → (r >>= f) ≡ f x
bind_ok {A} {B} r x f e = ap (λ (q : Result A Fault). q >>= f) e

bind_err : {A B : Type 0} (r : Result A Fault) (f : Fault) (k : A → Result B Fault) → r ≡ Err f → (r >>= k) ≡ Err f
bind_err {A} {B} r f k e = ap (λ (q : Result A Fault). q >>= k) e

-- what a code tells in the place of the productions
in_book_is : (g : Setting) (grammar state : ℕ) (s : Spot) → code_at (align_of g.options) (in_book g grammar state) s ≡ (code_at (align_of g.options) (placed (state_at g grammar state)) s >>= λ i. told_rule (book_rule (entry_at (state_at g grammar state) i.0), i.1))
in_book_is g grammar state s =
    let p : Productions Entry = state_at g grammar state in
    let a : Align = align_of g.options in
    mapped_read book_rule p a s
    ∙ (ap (λ (q : Result (Entry × Spot) Fault). q >>= λ x. told_rule (book_rule x.0, x.1)) (ap (λ (z : Productions Entry). code_at a z s) (sym (placed_back no_entry p)) ∙ mapped_read (entry_at p) (placed p) a s)
    ∙ twice (code_at a (placed p) s) (entry_at p))
  where
    twice : (q : Result (ℕ × Spot) Fault) (f : ℕ → Entry) → ((q >>= λ i. told_entry (f i.0, i.1)) >>= λ x. told_rule (book_rule x.0, x.1)) ≡ (q >>= λ i. told_rule (book_rule (f i.0), i.1))
    twice (Ok x) f = refl
    twice (Err e) f = refl

book_told : (g : Setting) (grammar state : ℕ) (s t : Spot) (i : ℕ) → code_at (align_of g.options) (placed (state_at g grammar state)) s ≡ Ok (i, t) → code_at (align_of g.options) (in_book g grammar state) s ≡ Ok (book_rule (entry_at (state_at g grammar state) i), t)
book_told g grammar state s t i e = in_book_is g grammar state s ∙ bind_ok (code_at (align_of g.options) (placed (state_at g grammar state)) s) (i, t) (λ i. told_rule (book_rule (entry_at (state_at g grammar state) i.0), i.1)) e

pub book_fails : (g : Setting) (grammar state : ℕ) (s : Spot) (f : Fault) → code_at (align_of g.options) (placed (state_at g grammar state)) s ≡ Err f → code_at (align_of g.options) (in_book g grammar state) s ≡ Err f
book_fails g grammar state s f e = in_book_is g grammar state s ∙ bind_err (code_at (align_of g.options) (placed (state_at g grammar state)) s) f (λ i. told_rule (book_rule (entry_at (state_at g grammar state) i.0), i.1)) e

-- ---- a built-in grammar's production
abbrev told_built : BuiltInRule × Spot → Result (BuiltInRule × Spot) Fault
told_built z = Ok z

abbrev rule_for : Room → Learnable → Rule
rule_for r x = record { on = built_in_terminal x; to = state_behind r x; inner = None }

built_in_is : (g : Setting) (l : Learning) (r : Room) (s : Spot) → code_at (align_of g.options) (built_in g l r) s ≡ (code_at (align_of g.options) (productions g.options l r) s >>= λ x. told_rule (rule_for r x.0, x.1))
built_in_is g l r s =
    let a : Align = align_of g.options in
    ap (λ (z : Productions BuiltInRule). code_at a (mapped built_in_rule z) s) (rules_are g.options l r)
    ∙ (mapped_read built_in_rule (mapped (learned_rule l r) (productions g.options l r)) a s
    ∙ (ap (λ (q : Result (BuiltInRule × Spot) Fault). q >>= λ x. told_rule (built_in_rule x.0, x.1)) (mapped_read (learned_rule l r) (productions g.options l r) a s)
    ∙ twice (code_at a (productions g.options l r) s)))
  where
    twice : (q : Result (Learnable × Spot) Fault) → ((q >>= λ x. told_built (learned_rule l r x.0, x.1)) >>= λ x. told_rule (built_in_rule x.0, x.1)) ≡ (q >>= λ x. told_rule (rule_for r x.0, x.1))
    twice (Ok x) = refl
    twice (Err e) = refl

built_in_told : (g : Setting) (l : Learning) (r : Room) (s t : Spot) (x : Learnable) → code_at (align_of g.options) (productions g.options l r) s ≡ Ok (x, t) → code_at (align_of g.options) (built_in g l r) s ≡ Ok (rule_for r x, t)
built_in_told g l r s t x e = built_in_is g l r s ∙ bind_ok (code_at (align_of g.options) (productions g.options l r) s) (x, t) (λ x. told_rule (rule_for r x.0, x.1)) e

pub built_in_fails : (g : Setting) (l : Learning) (r : Room) (s : Spot) (f : Fault) → code_at (align_of g.options) (productions g.options l r) s ≡ Err f → code_at (align_of g.options) (built_in g l r) s ≡ Err f
built_in_fails g l r s f e = built_in_is g l r s ∙ bind_err (code_at (align_of g.options) (productions g.options l r) s) f (λ x. told_rule (rule_for r x.0, x.1)) e

-- ---- as a reader answers them
abbrev pub behind_bits : Spot → Spot → Spot
behind_bits s t = record { bytes = s.bytes; place = t.place }

abbrev answer : Rule → Spot → Result (Rule × Spot) Fault
answer r t = Ok (r, t)

abbrev spot_of : List ℕ → ℕ → Spot
spot_of b place = record { bytes = b; place = place }

same_bits : (s t : Spot) → t.bytes ≡ s.bytes → t ≡ behind_bits s t
same_bits s t h = ap (λ (b : List ℕ). spot_of b t.place) h

abbrev leading : Learnable → ℕ → Rule
leading x to = record { on = built_in_terminal x; to = to; inner = None }

pub built_in_picks : (g : Setting) (l : Learning) (r : Room) (s t : Spot) (x : Learnable) (to : ℕ) (found : Rule) → code_at (align_of g.options) (productions g.options l r) s ≡ Ok (x, t) → found ≡ leading x to → to ≡ state_behind r x → t.bytes ≡ s.bytes →
    code_at (align_of g.options) (built_in g l r) s ≡ Ok (found, behind_bits s t)
built_in_picks g l r s t x to found e a b h =
    built_in_told g l r s t x e
    ∙ (ap (λ (z : ℕ). answer (leading x z) t) (sym b)
    ∙ (ap (λ (z : Rule). answer z t) (sym a)
    ∙ ap (λ (z : Spot). answer found z) (same_bits s t h)))

get_map : {A B : Type 0} (f : A → B) (xs : List A) (i : ℕ) (d : A) (e : B) → i < length xs → get_or (map f xs) i e ≡ f (get_or xs i d)
get_map f [] i d e less = absurd (omega (arith, less))
get_map f (x ∷ xs) zero d e less = refl
get_map f (x ∷ xs) (suc i) d e less = get_map f xs i d e (omega (arith, less))

map_items : (cs : List Kept) → items (map coded_of cs) ≡ map kept_entry cs
map_items [] = refl
map_items (c ∷ cs) = ap (λ (es : List Entry). kept_entry c ∷ es) (map_items cs)

entry_kept : (p : Productions Entry) (cs : List Kept) (place : ℕ) (d : Kept) → map coded_of cs ≡ coded p → place < length cs → entry_at p place ≡ kept_entry (get_or cs place d)
entry_kept p cs place d h less =
    let n : listed p ≡ map kept_entry cs = listed_items p ∙ (ap items (sym h) ∙ map_items cs) in
    ap (λ (es : List Entry). get_or es place no_entry) n ∙ get_map kept_entry cs place d no_entry less
  where
    listed_items : (p : Productions Entry) → listed p ≡ items (coded p)
    listed_items p = refl

abbrev of_entry : Entry → Spot → Result (Rule × Spot) Fault
of_entry z t = Ok (book_rule z, t)

pub book_picks : (g : Setting) (grammar state : ℕ) (s t : Spot) (place : ℕ) (cs : List Kept) (c : Kept) (found : Rule) → code_at (align_of g.options) (placed (state_at g grammar state)) s ≡ Ok (place, t) → map coded_of cs ≡ coded (state_at g grammar state) → place < length cs → c ≡ get_or cs place c →
    found ≡ rule_of c.named (gram.rule c.production) → t.bytes ≡ s.bytes →
    code_at (align_of g.options) (in_book g grammar state) s ≡ Ok (found, behind_bits s t)
book_picks g grammar state s t place cs c found e h less is a b =
    book_told g grammar state s t place e
    ∙ (ap (λ (z : Entry). of_entry z t) (entry_kept (state_at g grammar state) cs place c h less)
    ∙ (ap (λ (z : Kept). of_entry (kept_entry z) t) (sym is)
    ∙ (ap (λ (z : Rule). answer z t) (sym a)
    ∙ ap (λ (z : Spot). answer found z) (same_bits s t b))))

-- ---- the start of a fragment, and behind the last event
pub start_told : (g : Setting) (s : Spot) → code_at (align_of g.options) fragment_start s ≡ Ok (record { on = start_document; to = 1; inner = None }, s)
unfolding code_at part_at
start_told g s = ap (λ (q : Result (ℕ × Spot) Fault). q >>= λ first. first_told (align_of g.options) fragment_start.seconds (slice_get fragment_start.firsts first.0) first.1) (below_one 1 (align_of g.options) kind.NoCode s refl)

-- where a fragment, or one that stands for one element, starts
abbrev Starts : Outer → Type 0
Starts o = (o ≡ outer.FragmentStart) ⊎ (o ≡ outer.AloneStart)

start_rules : (g : Setting) (l : Learning) (o : Outer) → Starts o → outer_rules g l o ≡ fragment_start
start_rules g l o (inl e) = ap (λ (z : Outer). outer_rules g l z) e
start_rules g l o (inr e) = ap (λ (z : Outer). outer_rules g l z) e

pub outer_starts : (g : Setting) (l : Learning) (o : Outer) (s : Spot) (found : Rule) → Starts o → found ≡ record { on = start_document; to = 1; inner = None } → code_at (align_of g.options) (outer_rules g l o) s ≡ Ok (found, s)
outer_starts g l o s found e a =
    ap (λ (z : Productions Rule). code_at (align_of g.options) z s) (start_rules g l o e)
    ∙ (start_told g s ∙ ap (λ (z : Rule). answer z s) (sym a))

below_none : (a : Align) (k : Kind) (s : Spot) → below_at 0 a k s ≡ fault_at k s
unfolding below_at field_at number_at width_from value_of le_value
below_none align.Bits k s = rw (le-ltb (left s) 0 (omega arith)) refl
below_none align.Bytes k s = rw (le-ltb (left s) 0 (omega arith)) refl

abbrev no_rules : Productions Rule
no_rules = record { firsts = []; seconds = [] }

pub none_told : (g : Setting) (s : Spot) → code_at (align_of g.options) no_rules s ≡ Err (record { kind = kind.NoCode; bit = s.place })
unfolding code_at part_at
none_told g s = ap (λ (q : Result (ℕ × Spot) Fault). q >>= λ first. first_told (align_of g.options) no_rules.seconds (slice_get no_rules.firsts first.0) first.1) (below_none (align_of g.options) kind.NoCode s)
