-- Each step of a type's grammar leads to one of its states.
use Rattle.std.proofs.Common.{◌≡◌, ◌<◌, ◌≤◌, ℕ, zero, suc, ◌+◌, ◌-◌, Bool, true, false, cond, min, Option, Some, None, List, [], ◌∷◌, ◌++◌, All, length, map, slice_get, refl, sym, subst, arith, length-append}
use Rattle.std.proofs.Math.ListN.{replicate}
use Rattle.std.proofs.lemmas.List.{length-map}
use Rattle.std.proofs.lemmas.List.Elements.{All-append, All-cons, All-head, All-nil, All-tail}
use Rattle.exi_gram.specs.Terminals.{StepRule, at_any, ch_text, se_any}
use Rattle.xsd_model.specs.declared.parts.AttributeDecl.{AttributeDecl}
use Rattle.xsd_model.specs.declared.parts.ElementDecl.{ElementDecl}
use Rattle.xsd_model.specs.declared.parts.Group.{Group}
use Rattle.xsd_model.specs.declared.parts.Particle.{Particle}
use Rattle.xsd_model.specs.declared.parts.Term.{Term}
use Rattle.xsd_model.specs.declared.parts.Term.TheVariants as term
use Rattle.xsd_model.specs.declared.parts.TypeBody.{TypeBody}
use Rattle.xsd_model.specs.declared.parts.TypeBody.TheVariants as body
use Rattle.xsd_model.specs.declared.parts.TypeDef.{TypeDef}
use Rattle.xsd_model.specs.declared.parts.Wild.{Wild}
use Rattle.xsd_model.specs.declared.parts.Wild.TheVariants as wild
use Rattle.xsd_model.specs.Parts.{Parts}
use Rattle.exi_draft.specs.Drafts.{Draft, LeadsInside, States, ends}
use Rattle.exi_elements.specs.StandIns.{stand_ins}
use Rattle.exi_inherited.specs.declared.uses.Use.{Use}
use Rattle.exi_inherited.specs.Contents.{Whole, content_of, elements, value}
use Rattle.exi_inherited.specs.Uses.{uses_of}
use Rattle.exi_proto.specs.Pieces.{Piece, behind, behind_step, branches_from, choice, copied, copies_of, empty_states, ending, joined, joined_all, joined_behind, leading, led, led_step, optional, placed, raised, raised_step, reading, reading_one, repeated, sequence, starts_from, with_text, with_text_from}
use Rattle.exi_proto.specs.Protos.{any_draft, any_empty_draft, any_pieces, attribute_of, attribute_states, attribute_steps, body_draft, complex_draft, content_states, draft_of_type, end_unless, group_piece, in_each_from, last_wild, of_each_uri, one_of_them, opening, opening_of, opening_piece, particle_piece, piece_of, piece_within, states_count, term_piece, type_draft, use_states, value_states, wild_piece, wild_steps}
use Rattle.exi_proto.proofs.Counting.{length-joined}

-- ---- steps that lead to states below a bound
abbrev pub Below : ℕ → StepRule → Type 0
Below n s = s.to < n

abbrev pub Steps : ℕ → List StepRule → Type 0
Steps n steps = All (Below n) steps

abbrev pub Inside : ℕ → States → Type 0
Inside n a = All (Steps n) a

pub record Good (a : States) : Type 0 where
  pub some : 1 ≤ length a
  pub inside : Inside (length a) a

each_step : (m n : ℕ) (g : StepRule → StepRule) → ((s : StepRule) → Below m s → Below n (g s)) → (steps : List StepRule) → Steps m steps → Steps n (map g steps)
each_step m n g h [] all = All-nil (Below n)
each_step m n g h (s ∷ steps) all = All-cons (Below n) (g s) (map g steps) (h s (All-head (Below m) s steps all)) (each_step m n g h steps (All-tail (Below m) s steps all))

each : (m n : ℕ) (g : StepRule → StepRule) → ((s : StepRule) → Below m s → Below n (g s)) → (a : States) → Inside m a → Inside n (map (map g) a)
each m n g h [] all = All-nil (Steps n)
each m n g h (x ∷ a) all = All-cons (Steps n) (map g x) (map (map g) a) (each_step m n g h x (All-head (Steps m) x a all)) (each m n g h a (All-tail (Steps m) x a all))

raised_below : (m n k : ℕ) (s : StepRule) → m + k ≤ n → Below m s → Below n (raised_step k s)
raised_below m n k s le less = omega (arith, le, less)

led_below : (m n to : ℕ) (s : StepRule) → m ≤ n → to < n → Below m s → Below n (led_step to s)
led_below m n to s le there less = by_end (ends s.on)
  where
    by_end : (b : Bool) → Below n (cond b (leading to) s)
    by_end true = there
    by_end false = omega (arith, le, less)

pub inside_raised : (m n k : ℕ) (a : States) → m + k ≤ n → Inside m a → Inside n (raised k a)
inside_raised m n k a le all = each m n (raised_step k) (λ s less. raised_below m n k s le less) a all

pub inside_led : (m n to : ℕ) (a : States) → m ≤ n → to < n → Inside m a → Inside n (led to a)
inside_led m n to a le there all = each m n (led_step to) (λ s less. led_below m n to s le there less) a all

inside_behind : (m k : ℕ) (a : States) → Inside m a → Inside m (behind k a)
inside_behind m k a all = each m m (behind_step k) (λ s less. less) a all

-- ---- joined
pub good_joined : (a b : States) → Good a → Good b → Good (joined a b)
good_joined a b x y =
    let n = length-joined a b in
    let some : 1 ≤ length b = y.some in
    let more : 1 ≤ length a = x.some in record {
      some = omega (arith, n, some);
      inside = subst (λ (k : ℕ). Inside k (joined a b)) (sym n) (All-append (Steps (length a + length b)) (led (length a) a) (raised (length a) b)
          (inside_led (length a) (length a + length b) (length a) a (omega arith) (omega (arith, some)) x.inside)
          (inside_raised (length b) (length a + length b) (length a) b (omega arith) y.inside));
    }

abbrev pub AllGood : List States → Type 0
AllGood [] = Unit {0}
AllGood (a ∷ others) = Good a × AllGood others

pub good_behind_all : (a : States) (bs : List States) → Good a → AllGood bs → Good (joined_behind a bs)
good_behind_all a [] x all = x
good_behind_all a (b ∷ bs) x all = good_joined a (joined_behind b bs) x (good_behind_all b bs all.0 all.1)

one_step : (n to : ℕ) (s : StepRule) → s.to < n → Steps n (s ∷ [])
one_step n to s less = All-cons (Below n) s [] less (All-nil (Below n))

pub good_empty : Good empty_states
good_empty = record { some = omega arith; inside = All-cons (Steps 1) (ending 0 ∷ []) [] (one_step 1 0 (ending 0) (omega arith)) (All-nil (Steps 1)) }

pub good_joined_all : (xs : List States) → AllGood xs → Good (joined_all xs)
good_joined_all [] all = good_empty
good_joined_all (a ∷ others) all = good_behind_all a others all.0 all.1

-- ---- pieces
abbrev pub GoodPieces : List Piece → Type 0
GoodPieces [] = Unit {0}
GoodPieces (x ∷ xs) = Good x.states × GoodPieces xs

good_behind : (k : ℕ) (a : States) → Good a → Good (behind k a)
good_behind k a x =
    let n = length-map a (map (behind_step k)) in
    let some : 1 ≤ length a = x.some in
    record { some = omega (arith, n, some); inside = subst (λ (j : ℕ). Inside j (behind k a)) (sym n) (inside_behind (length a) k a x.inside) }

good_placed : (n : ℕ) (xs : List Piece) → GoodPieces xs → AllGood (placed n xs)
good_placed n [] all = tt
good_placed n (x ∷ xs) all = (good_behind n x.states all.0, good_placed (n + x.particles) xs all.1)

pub good_sequence : (xs : List Piece) → GoodPieces xs → Good (sequence xs).states
good_sequence xs all = good_joined_all (placed 0 xs) (good_placed 0 xs all)

-- ---- copies
pub good_optional : (a : States) → Good a → Good (optional a)
good_optional [] x = x
good_optional (steps ∷ a) x =
    let n : ℕ = length (steps ∷ a) in record {
      some = omega arith;
      inside = All-cons (Steps n) (steps ++ ending 0 ∷ []) a
          (All-append (Below n) steps (ending 0 ∷ []) (All-head (Steps n) steps a x.inside) (one_step n 0 (ending 0) (omega arith)))
          (All-tail (Steps n) steps a x.inside);
    }

pub good_repeated : (a : States) → Good a → Good (repeated a)
good_repeated a x =
    let n = length-map a (map (led_step 0)) in
    let some : 1 ≤ length a = x.some in
    good_optional (led 0 a) (record { some = omega (arith, n, some); inside = subst (λ (k : ℕ). Inside k (led 0 a)) (sym n) (inside_led (length a) (length a) 0 a (omega arith) (omega (arith, some)) x.inside) })

good_replicate : (n : ℕ) (a : States) → Good a → AllGood (replicate n a)
good_replicate zero a x = tt
good_replicate (suc n) a x = (x, good_replicate n a x)

good_append : (xs ys : List States) → AllGood xs → AllGood ys → AllGood (xs ++ ys)
good_append [] ys x y = y
good_append (a ∷ xs) ys x y = (x.0, good_append xs ys x.1 y)

good_copies : (least : ℕ) (most : Option ℕ) (a : States) → Good a → AllGood (copies_of least most a)
good_copies least None a x = good_append (replicate least a) (repeated a ∷ []) (good_replicate least a x) (good_repeated a x, tt)
good_copies least (Some most) a x = good_append (replicate (min least most) a) (replicate (most - least) (optional a)) (good_replicate (min least most) a x) (good_replicate (most - least) (optional a) (good_optional a x))

pub good_copied : (least : ℕ) (most : Option ℕ) (x : Piece) → Good x.states → Good (copied least most x).states
good_copied least most x g = good_joined_all (copies_of least most x.states) (good_copies least most x.states g)

-- ---- choices
abbrev all_states : List States → ℕ
all_states [] = 0
all_states (a ∷ others) = length a + all_states others

length_branches : (n : ℕ) (xs : List States) → length (branches_from n xs) ≡ all_states xs
length_branches n [] = refl
length_branches n (a ∷ xs) =
    let l = length-append (raised n a) (branches_from (n + length a) xs) in
    let m = length-map a (map (raised_step n)) in
    let r = length_branches (n + length a) xs in
    omega (arith, l, m, r)

starts_below : (n k : ℕ) (xs : List States) → AllGood xs → n + all_states xs ≤ k → Steps k (starts_from n xs)
starts_below n k [] all le = All-nil (Below k)
starts_below n k (a ∷ xs) all le =
    let some : 1 ≤ length a = all.0.some in
    All-cons (Below k) (leading n) (starts_from (n + length a) xs) (omega (arith, some, le)) (starts_below (n + length a) k xs all.1 (omega (arith, le)))

inside_branches : (n k : ℕ) (xs : List States) → AllGood xs → n + all_states xs ≤ k → Inside k (branches_from n xs)
inside_branches n k [] all le = All-nil (Steps k)
inside_branches n k (a ∷ xs) all le = All-append (Steps k) (raised n a) (branches_from (n + length a) xs) (inside_raised (length a) k n a (omega (arith, le)) all.0.inside) (inside_branches (n + length a) k xs all.1 (omega (arith, le)))

pub good_choice : (xs : List Piece) → GoodPieces xs → Good (choice xs).states
good_choice xs all =
    let bs : List States = placed 0 xs in
    let good : AllGood bs = good_placed 0 xs all in
    let n = length_branches 1 bs in
    let k : ℕ = length (choice xs).states in
    let le : 1 + all_states bs ≤ k = omega (arith, n) in record {
      some = omega arith;
      inside = All-cons (Steps k) (starts_from 1 bs) (branches_from 1 bs) (starts_below 1 k bs good le) (inside_branches 1 k bs good le);
    }

-- ---- what reads one thing
pub good_reading : (steps : List StepRule) → Steps 2 steps → Good (reading_one steps)
good_reading steps all = record {
  some = omega arith;
  inside = All-cons (Steps 2) steps ((ending 1 ∷ []) ∷ []) all (All-cons (Steps 2) (ending 1 ∷ []) [] (one_step 2 1 (ending 1) (omega arith)) (All-nil (Steps 2)));
}

pub good_opening : (p : Parts) (place : ℕ) → Good (opening_piece p place).states
good_opening p place = good_reading (opening p place) (by_option (slice_get p.elements place))
  where
    by_option : (o : Option ElementDecl) → Steps 2 (opening_of p place o)
    by_option None = All-nil (Below 2)
    by_option (Some e) = All-cons (Below 2) _ [] (omega arith) (All-nil (Below 2))

good_openings : (p : Parts) (places : List ℕ) → GoodPieces (map (opening_piece p) places)
good_openings p [] = tt
good_openings p (x ∷ places) = (good_opening p x, good_openings p places)

good_one_of : (p : Parts) (places : List ℕ) → Good (one_of_them (map (opening_piece p) places)).states
good_one_of p [] = good_choice [] tt
good_one_of p (x ∷ []) = good_opening p x
good_one_of p (x ∷ (y ∷ ys)) = good_choice (map (opening_piece p) (x ∷ y ∷ ys)) (good_openings p (x ∷ y ∷ ys))

pub good_wild : (w : Wild) → Good (wild_piece w).states
good_wild wild.Any = good_reading _ (All-cons (Below 2) _ [] (omega arith) (All-nil (Below 2)))
good_wild (wild.Listed uris) = good_reading (in_each_from 0 uris) (listed 0 uris)
  where
    listed : (n : ℕ) (uris : List (List ℕ)) → Steps 2 (in_each_from n uris)
    listed n [] = All-nil (Below 2)
    listed n (uri ∷ uris) = All-cons (Below 2) _ (in_each_from (suc n) uris) (omega arith) (listed (suc n) uris)

-- ---- particles
good_map : (f : ℕ → Piece) → ((x : ℕ) → Good (f x).states) → (xs : List ℕ) → GoodPieces (map f xs)
good_map f h [] = tt
good_map f h (x ∷ xs) = (h x, good_map f h xs)

good_group : (f : ℕ → Piece) → ((x : ℕ) → Good (f x).states) → (o : Option Group) → Good (group_piece f o).states
good_group f h None = good_empty
good_group f h (Some g) = of_option g.particle
  where
    of_option : (o : Option ℕ) → Good (group_piece f (Some (record { particle = o; event = 0 }))).states
    of_option None = good_empty
    of_option (Some q) = h q

good_term : (p : Parts) (f : ℕ → Piece) → ((x : ℕ) → Good (f x).states) → (t : Term) → Good (term_piece p f t).states
good_term p f h (term.Element element) = good_one_of p (stand_ins p element)
good_term p f h (term.Group group) = good_group f h (slice_get p.groups group)
good_term p f h (term.Sequence places) = good_sequence (map f places) (good_map f h places)
good_term p f h (term.Choice places) = good_choice (map f places) (good_map f h places)
good_term p f h (term.Wild w) = good_wild w

good_particle : (p : Parts) (f : ℕ → Piece) → ((x : ℕ) → Good (f x).states) → (o : Option Particle) → Good (particle_piece p f o).states
good_particle p f h None = good_empty
good_particle p f h (Some x) = good_copied x.least x.most (term_piece p f x.term) (good_term p f h x.term)

good_within : (n : ℕ) (p : Parts) (place : ℕ) → Good (piece_within n p place).states
good_within zero p place = good_empty
good_within (suc n) p place = good_particle p (piece_within n p) (good_within n p) (slice_get p.particles place)

pub good_piece : (p : Parts) (place : ℕ) → Good (piece_of p place).states
good_piece p place = good_within (suc (length p.particles)) p place

-- one copy of what a particle is of
pub good_copy : (p : Parts) (t : Term) → Good (term_piece p (piece_of p) t).states
good_copy p t = good_term p (piece_of p) (good_piece p) t

-- ---- text
inside_text : (n k : ℕ) (a : States) → n + length a ≤ k → Inside k a → Inside k (with_text_from n a)
inside_text n k [] le all = All-nil (Steps k)
inside_text n k (x ∷ a) le all =
    All-cons (Steps k) (x ++ reading ch_text n ∷ []) (with_text_from (suc n) a)
    (All-append (Below k) x (reading ch_text n ∷ []) (All-head (Steps k) x a all) (one_step k n (reading ch_text n) (omega (arith, le))))
    (inside_text (suc n) k a (omega (arith, le)) (All-tail (Steps k) x a all))

length_text : (n : ℕ) (a : States) → length (with_text_from n a) ≡ length a
length_text n [] = refl
length_text n (x ∷ a) = let e = length_text (suc n) a in omega (arith, e)

good_text : (mixed : Bool) (a : States) → Good a → Good (with_text mixed a)
good_text false a x = x
good_text true a x =
    let n = length_text 0 a in
    let some : 1 ≤ length a = x.some in
    record { some = omega (arith, n, some); inside = subst (λ (k : ℕ). Inside k (with_text_from 0 a)) (sym n) (inside_text 0 (length a) a (omega arith) x.inside) }

-- ---- contents and attributes
pub good_value : (p : Parts) (place : ℕ) → Good (value_states p place)
good_value p place = good_reading _ (All-cons (Below 2) _ [] (omega arith) (All-nil (Below 2)))

pub good_content : (p : Parts) (w : Whole) → Good (content_states p w)
good_content p (value place) = good_value p place
good_content p (elements any places mixed) = good_text mixed (sequence (any_pieces any ++ map (piece_of p) places)).states (good_sequence (any_pieces any ++ map (piece_of p) places) (any_front any))
  where
    any_front : (any : Bool) → GoodPieces (any_pieces any ++ map (piece_of p) places)
    any_front true = (good_copied 0 None (wild_piece wild.Any) (good_wild wild.Any), good_map (piece_of p) (good_piece p) places)
    any_front false = good_map (piece_of p) (good_piece p) places

wild_below : (n : ℕ) (w : Option Wild) → 1 ≤ n → Steps n (wild_steps w)
wild_below n None le = All-nil (Below n)
wild_below n (Some wild.Any) le = All-cons (Below n) _ [] (omega (arith, le)) (All-nil (Below n))
wild_below n (Some (wild.Listed uris)) le = each_uri uris
  where
    each_uri : (uris : List (List ℕ)) → Steps n (of_each_uri uris)
    each_uri [] = All-nil (Below n)
    each_uri (uri ∷ uris) = All-cons (Below n) _ (of_each_uri uris) (omega (arith, le)) (each_uri uris)

good_use : (p : Parts) (w : Option Wild) (attribute : ℕ) (needed : Bool) → Good (use_states p w attribute needed)
good_use p w attribute needed =
    good_reading (attribute_steps p attribute ++ (end_unless needed ++ wild_steps w))
    (All-append (Below 2) (attribute_steps p attribute) (end_unless needed ++ wild_steps w) (by_option (slice_get p.attributes attribute))
    (All-append (Below 2) (end_unless needed) (wild_steps w) (by_need needed) (wild_below 2 w (omega arith))))
  where
    by_option : (o : Option AttributeDecl) → Steps 2 (attribute_of p o)
    by_option None = All-nil (Below 2)
    by_option (Some a) = All-cons (Below 2) _ [] (omega arith) (All-nil (Below 2))

    by_need : (b : Bool) → Steps 2 (end_unless b)
    by_need true = All-nil (Below 2)
    by_need false = one_step 2 0 (ending 0) (omega arith)

good_uses : (p : Parts) (w : Option Wild) (us : List Use) → AllGood (map (λ u. use_states p w u.attribute u.required) us)
good_uses p w [] = tt
good_uses p w (u ∷ us) = (good_use p w u.attribute u.required, good_uses p w us)

good_last : (w : Option Wild) → AllGood (last_wild w)
good_last None = tt
good_last (Some w) = (
  record {
    some = omega arith;
    inside = All-cons (Steps 1) (wild_steps (Some w) ++ ending 0 ∷ []) [] (All-append (Below 1) (wild_steps (Some w)) (ending 0 ∷ []) (wild_below 1 (Some w) (omega arith)) (one_step 1 0 (ending 0) (omega arith))) (All-nil (Steps 1));
  },
  tt,
)

-- ---- types
length_line : (xs : List States) (a : States) → length (joined_all (xs ++ a ∷ [])) ≡ states_count xs + length a
length_line [] a = omega arith
length_line (b ∷ []) a = let e = length-joined b a in omega (arith, e)
length_line (b ∷ (c ∷ xs)) a =
    let e = length-joined b (joined_all (c ∷ xs ++ a ∷ [])) in
    let r = length_line (c ∷ xs) a in
    omega (arith, e, r)

leads_complex : (xs : List States) (a : States) → AllGood xs → Good a → LeadsInside (complex_draft xs a)
leads_complex xs a all x =
    let good = good_joined_all (xs ++ a ∷ []) (good_append xs (a ∷ []) all (x, tt)) in
    let n = length_line xs a in
    let some : 1 ≤ length a = x.some in
    record { some = good.some; steps = good.inside; content = omega (arith, n, some) }

leads_if : (b : Bool) (c d : Draft) → LeadsInside c → LeadsInside d → LeadsInside (cond b c d)
leads_if true c d x y = x
leads_if false c d x y = y

good_if : (b : Bool) (c d : States) → Good c → Good d → Good (cond b c d)
good_if true c d x y = x
good_if false c d x y = y

two : (steps more : List StepRule) → Steps 2 steps → Steps 2 more → Inside 2 (steps ∷ more ∷ [])
two steps more x y = All-cons (Steps 2) steps (more ∷ []) x (All-cons (Steps 2) more [] y (All-nil (Steps 2)))

zero_below : 0 < 2
zero_below = omega arith

one_below : 1 < 2
one_below = omega arith

-- step by step
abbrev pub Each : ℕ → List StepRule → Type 0
Each n [] = Unit {0}
Each n (s ∷ steps) = (s.to < n) × Each n steps

all_of : (n : ℕ) (steps : List StepRule) → Each n steps → Steps n steps
all_of n [] h = All-nil (Below n)
all_of n (s ∷ steps) h = All-cons (Below n) s steps h.0 (all_of n steps h.1)

leads_any : LeadsInside any_draft
leads_any = record {
  some = omega arith;
  steps = two (reading at_any 0 ∷ reading se_any 1 ∷ ending 0 ∷ reading ch_text 1 ∷ []) (reading se_any 1 ∷ ending 1 ∷ reading ch_text 1 ∷ [])
      (all_of 2 (reading at_any 0 ∷ reading se_any 1 ∷ ending 0 ∷ reading ch_text 1 ∷ []) (zero_below, (one_below, (zero_below, (one_below, tt)))))
      (all_of 2 (reading se_any 1 ∷ ending 1 ∷ reading ch_text 1 ∷ []) (one_below, (one_below, (one_below, tt))));
  content = one_below;
}

leads_any_empty : LeadsInside any_empty_draft
leads_any_empty = record {
  some = omega arith;
  steps = two (reading at_any 0 ∷ ending 0 ∷ []) (ending 1 ∷ [])
      (all_of 2 (reading at_any 0 ∷ ending 0 ∷ []) (zero_below, (zero_below, tt)))
      (all_of 2 (ending 1 ∷ []) (one_below, tt));
  content = one_below;
}

leads_body : (p : Parts) (place : ℕ) (empty : Bool) (b : TypeBody) → LeadsInside (body_draft p place empty b)
leads_body p place empty (body.Simple form union) = leads_complex [] (cond empty empty_states (value_states p place)) tt (good_if empty empty_states (value_states p place) good_empty (good_value p place))
leads_body p place empty body.Ur = leads_if empty any_empty_draft any_draft leads_any_empty leads_any
leads_body p place empty (body.Complex complex) =
    leads_complex (attribute_states p place complex.wild) (cond empty empty_states (content_states p (content_of p place)))
    (good_append (map (λ u. use_states p complex.wild u.attribute u.required) (uses_of p place)) (last_wild complex.wild) (good_uses p complex.wild (uses_of p place)) (good_last complex.wild))
    (good_if empty empty_states (content_states p (content_of p place)) good_empty (good_content p (content_of p place)))

leads_type : (p : Parts) (place : ℕ) (empty : Bool) (o : Option TypeDef) → LeadsInside (type_draft p place empty o)
leads_type p place empty None = leads_complex [] empty_states tt good_empty
leads_type p place empty (Some t) = leads_body p place empty t.body

pub leads_inside : (p : Parts) (place : ℕ) (empty : Bool) → LeadsInside (draft_of_type p place empty)
leads_inside p place empty = leads_type p place empty (slice_get p.types place)
