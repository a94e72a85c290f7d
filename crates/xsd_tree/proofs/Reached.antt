-- The elements so far: what they and those of the events to come make together is what all events make.
use Rattle.std.proofs.Common.{◌≡◌, ℕ, zero, suc, ◌+◌, ◌-◌, ◌<◌, ◌≤◌, Bool, true, false, eqb, ◌&&◌, List, [], ◌∷◌, ◌++◌, length, drop, Option, Some, None, Result, Ok, Err, refl, sym, ap, ◌∙◌, arith}
use Rattle.std.specs.Prelude.{IsSome, option_to_list, reverse, slice_get}
use Rattle.std.proofs.lemmas.Bool.{eqb-true, ne_eqb}
use Rattle.std.proofs.lemmas.List.{append-nil, append_assoc, length-append, length-reverse, reverse-append, reverse-reverse}
use Rattle.exi_names.specs.Events.{Happening, happens, se, ee}
use Rattle.exi_names.specs.declared.names.QName.{QName}
use Rattle.exi_names.specs.declared.event.Event.{Event}
use Rattle.exi_names.specs.declared.event.Event.TheVariants as event
use Rattle.xsd_model.specs.declared.fault.SchemaFault.{SchemaFault}
use Rattle.xsd_tree.specs.Reading.{at_end, innermost, may_start, node_before, node_of, nodes_at, nodes_of, not_schema}
use Rattle.xsd_tree.specs.Trees.{ArePlaced, IsPlaced, is_schema}
use Rattle.xsd_tree.specs.declared.node.Node.{Node}

-- elements in front of those to come
abbrev pub with_front : List Node → Result (List Node) SchemaFault → Result (List Node) SchemaFault
with_front front (Ok more) = Ok (front ++ more)
with_front front (Err f) = Err f

-- each place is below
abbrev pub AllBelow : ℕ → List ℕ → Type 0
AllBelow most [] = Unit {0}
AllBelow most (place ∷ places) = (place < most) × AllBelow most places

pub record Reached (events : List Happening) (index : ℕ) (open_nodes : List ℕ) (nodes : List Node) : Type 0 where
  pub so_far : with_front nodes (nodes_at index open_nodes (length nodes) (drop index events)) ≡ nodes_of events
  pub few : length nodes ≤ index
  pub placed : ArePlaced 0 nodes
  pub below : AllBelow (length nodes) open_nodes

no_front : (read : Result (List Node) SchemaFault) → with_front [] read ≡ read
no_front (Ok ns) = refl
no_front (Err f) = refl

one_front : (front : List Node) (n : Node) (read : Result (List Node) SchemaFault) → with_front front (node_before n read) ≡ with_front (front ++ n ∷ []) read
one_front front n (Ok ns) = ap (λ (t : List Node). Ok t) (sym (append_assoc front (n ∷ []) ns))
one_front front n (Err f) = refl

below_more : (m n : ℕ) (places : List ℕ) → m ≤ n → AllBelow m places → AllBelow n places
below_more m n [] le h = tt
below_more m n (p ∷ ps) le h = (omega (arith, h.0), below_more m n ps le h.1)

placed_more : (k : ℕ) (ns : List Node) (n : Node) → ArePlaced k ns → IsPlaced (k + length ns) n.name n.parent → ArePlaced k (ns ++ n ∷ [])
placed_more k [] n h p = (let e : k + 0 ≡ k = omega arith in rw e at p, tt)
placed_more k (m ∷ ns) n h p = (h.0, placed_more (suc k) ns n h.1 (let e : k + suc (length ns) ≡ suc k + length ns = omega arith in rw e at p))

placed_start : (name : QName) (open_nodes : List ℕ) (place : ℕ) → may_start name (innermost open_nodes) place ≡ true → AllBelow place open_nodes → IsPlaced place name (innermost open_nodes)
placed_start name [] place may h = and_second (eqb place 0) (is_schema name) may
  where
    and_second : (a b : Bool) → a && b ≡ true → b ≡ true
    and_second true b e = e
    and_second false b e = absurd cc
placed_start name (p ∷ ps) place may h = h.0

one_longer : (ns : List Node) (n : Node) → length (ns ++ n ∷ []) ≡ length ns + 1
one_longer ns n = length-append ns (n ∷ [])

starts : (name : QName) (open_nodes : List ℕ) (index place : ℕ) (es : List Happening) → may_start name (innermost open_nodes) place ≡ true → nodes_at index open_nodes place (se name ∷ es) ≡ node_before (node_of name (innermost open_nodes) (index + 1) es) (nodes_at (index + 1) (place ∷ open_nodes) (place + 1) es)
unfolding nodes_at
starts name open_nodes index place es may = rw may refl

starts_not : (name : QName) (open_nodes : List ℕ) (index place : ℕ) (es : List Happening) → may_start name (innermost open_nodes) place ≡ false → nodes_at index open_nodes place (se name ∷ es) ≡ Err (not_schema (index + 1))
unfolding nodes_at
starts_not name open_nodes index place es may = rw may refl

pub reached_start : (events es : List Happening) (index : ℕ) (open_nodes : List ℕ) (nodes : List Node) (name : QName) → drop index events ≡ se name ∷ es → drop (index + 1) events ≡ es → may_start name (innermost open_nodes) (length nodes) ≡ true → Reached events index open_nodes nodes → Reached events (index + 1) (length nodes ∷ open_nodes) (nodes ++ node_of name (innermost open_nodes) (index + 1) es ∷ [])
reached_start events es index open_nodes nodes name here next may r =
    let n = node_of name (innermost open_nodes) (index + 1) es in
    let long = one_longer nodes n in
    record {
      so_far =
          ap (λ k. with_front (nodes ++ n ∷ []) (nodes_at (index + 1) (length nodes ∷ open_nodes) k (drop (index + 1) events))) long
          ∙ ap (λ t. with_front (nodes ++ n ∷ []) (nodes_at (index + 1) (length nodes ∷ open_nodes) (length nodes + 1) t)) next
          ∙ sym (one_front nodes n (nodes_at (index + 1) (length nodes ∷ open_nodes) (length nodes + 1) es))
          ∙ ap (with_front nodes) (sym (starts name open_nodes index (length nodes) es may))
          ∙ ap (λ t. with_front nodes (nodes_at index open_nodes (length nodes) t)) (sym here)
          ∙ r.so_far;
      few = omega (arith, long, r.few);
      placed = placed_more 0 nodes n r.placed (let e : 0 + length nodes ≡ length nodes = omega arith in rw e (placed_start name open_nodes (length nodes) may r.below));
      below = (omega (arith, long), below_more (length nodes) (length (nodes ++ n ∷ [])) open_nodes (omega (arith, long)) r.below);
    }

pub refused_start : (events es : List Happening) (index : ℕ) (open_nodes : List ℕ) (nodes : List Node) (name : QName) → drop index events ≡ se name ∷ es → may_start name (innermost open_nodes) (length nodes) ≡ false → Reached events index open_nodes nodes → nodes_of events ≡ Err (not_schema (index + 1))
refused_start events es index open_nodes nodes name here may r =
    sym r.so_far
    ∙ ap (λ t. with_front nodes (nodes_at index open_nodes (length nodes) t)) here
    ∙ ap (with_front nodes) (starts_not name open_nodes index (length nodes) es may)

ends : (open_node : ℕ) (open_nodes : List ℕ) (index place : ℕ) (es : List Happening) → nodes_at index (open_node ∷ open_nodes) place (ee ∷ es) ≡ nodes_at (index + 1) open_nodes place es
unfolding nodes_at
ends open_node open_nodes index place es = refl

ends_not : (index place : ℕ) (es : List Happening) → nodes_at index [] place (ee ∷ es) ≡ Err (not_schema (index + 1))
unfolding nodes_at
ends_not index place es = refl

pub reached_end : (events es : List Happening) (index open_node : ℕ) (open_nodes : List ℕ) (nodes : List Node) → drop index events ≡ ee ∷ es → drop (index + 1) events ≡ es → Reached events index (open_node ∷ open_nodes) nodes → Reached events (index + 1) open_nodes nodes
reached_end events es index open_node open_nodes nodes here next r = record {
  so_far =
      ap (λ t. with_front nodes (nodes_at (index + 1) open_nodes (length nodes) t)) next
      ∙ ap (with_front nodes) (sym (ends open_node open_nodes index (length nodes) es))
      ∙ ap (λ t. with_front nodes (nodes_at index (open_node ∷ open_nodes) (length nodes) t)) (sym here)
      ∙ r.so_far;
  few = omega (arith, r.few);
  placed = r.placed;
  below = r.below.1;
}

pub refused_end : (events es : List Happening) (index : ℕ) (nodes : List Node) → drop index events ≡ ee ∷ es → Reached events index [] nodes → nodes_of events ≡ Err (not_schema (index + 1))
refused_end events es index nodes here r =
    sym r.so_far
    ∙ ap (λ t. with_front nodes (nodes_at index [] (length nodes) t)) here
    ∙ ap (with_front nodes) (ends_not index (length nodes) es)

passes : (e : Event) (open_nodes : List ℕ) (index place : ℕ) (es : List Happening) → ((n : QName) → e ≡ event.Se n → ⊥) → (e ≡ event.Ee → ⊥) → nodes_at index open_nodes place (happens e ∷ es) ≡ nodes_at (index + 1) open_nodes place es
unfolding nodes_at
passes event.Sd open_nodes index place es h k = refl
passes event.Ed open_nodes index place es h k = refl
passes (event.Se n) open_nodes index place es h k = absurd (h n refl)
passes event.Ee open_nodes index place es h k = absurd (k refl)
passes (event.At n v) open_nodes index place es h k = refl
passes (event.Ch v) open_nodes index place es h k = refl
passes (event.Ns uri prefix element) open_nodes index place es h k = refl
passes (event.Sc at) open_nodes index place es h k = refl
passes (event.Cm t) open_nodes index place es h k = refl
passes (event.Pi target t) open_nodes index place es h k = refl
passes (event.Dt n public system t) open_nodes index place es h k = refl
passes (event.Er n) open_nodes index place es h k = refl

pub reached_other : (events es : List Happening) (index : ℕ) (open_nodes : List ℕ) (nodes : List Node) (e : Event) → ((n : QName) → e ≡ event.Se n → ⊥) → (e ≡ event.Ee → ⊥) → drop index events ≡ happens e ∷ es → drop (index + 1) events ≡ es → Reached events index open_nodes nodes → Reached events (index + 1) open_nodes nodes
reached_other events es index open_nodes nodes e h k here next r = record {
  so_far =
      ap (λ t. with_front nodes (nodes_at (index + 1) open_nodes (length nodes) t)) next
      ∙ ap (with_front nodes) (sym (passes e open_nodes index (length nodes) es h k))
      ∙ ap (λ t. with_front nodes (nodes_at index open_nodes (length nodes) t)) (sym here)
      ∙ r.so_far;
  few = omega (arith, r.few);
  placed = r.placed;
  below = r.below;
}

at_last : (open_nodes : List ℕ) (index place : ℕ) → nodes_at index open_nodes place [] ≡ at_end open_nodes place index
unfolding nodes_at
at_last open_nodes index place = refl

pub all_read : (events : List Happening) (index : ℕ) (nodes : List Node) → drop index events ≡ [] → 0 < length nodes → Reached events index [] nodes → nodes_of events ≡ Ok nodes
all_read events index nodes here some_node r =
    sym r.so_far
    ∙ ap (λ t. with_front nodes (nodes_at index [] (length nodes) t)) here
    ∙ ap (with_front nodes) (at_last [] index (length nodes) ∙ ended (length nodes) index some_node)
    ∙ ap (λ (t : List Node). Ok t) (append-nil nodes)
  where
    ended : (place events : ℕ) → 0 < place → at_end [] place events ≡ Ok []
    ended place n h = rw (ne_eqb place 0 (λ e. omega arith)) refl

pub stays_open : (events : List Happening) (index : ℕ) (open_nodes : List ℕ) (nodes : List Node) → drop index events ≡ [] → 0 < length open_nodes → Reached events index open_nodes nodes → nodes_of events ≡ Err (not_schema index)
stays_open events index [] nodes here some_open r = absurd (omega arith)
stays_open events index (o ∷ open_nodes) nodes here some_open r =
    sym r.so_far
    ∙ ap (λ t. with_front nodes (nodes_at index (o ∷ open_nodes) (length nodes) t)) here
    ∙ ap (with_front nodes) (at_last (o ∷ open_nodes) index (length nodes))

pub no_element : (events : List Happening) (index : ℕ) (open_nodes : List ℕ) → drop index events ≡ [] → Reached events index open_nodes [] → nodes_of events ≡ Err (not_schema index)
no_element events index [] here r =
    sym r.so_far
    ∙ ap (λ t. with_front [] (nodes_at index [] 0 t)) here
    ∙ ap (with_front []) (at_last [] index 0)
no_element events index (o ∷ open_nodes) here r =
    sym r.so_far
    ∙ ap (λ t. with_front [] (nodes_at index (o ∷ open_nodes) 0 t)) here
    ∙ ap (with_front []) (at_last (o ∷ open_nodes) index 0)

-- ---- the innermost is the last that was put on the stack
end_item : (zs : List ℕ) (y : ℕ) → slice_get (zs ++ y ∷ []) (length zs) ≡ Some y
end_item [] y = refl
end_item (z ∷ zs) y = end_item zs y

last_of_reverse : (ys : List ℕ) → slice_get (reverse ys) (length (reverse ys) - 1) ≡ innermost ys
last_of_reverse [] = refl
last_of_reverse (y ∷ ys) =
    let parts : reverse (y ∷ ys) ≡ reverse ys ++ y ∷ [] = reverse-append (y ∷ []) ys in
    let long = length-append (reverse ys) (y ∷ []) in
    let e : length (reverse ys ++ y ∷ []) - 1 ≡ length (reverse ys) = omega (arith, long) in
    ap (λ t. slice_get t (length t - 1)) parts ∙ ap (λ (n : ℕ). slice_get (reverse ys ++ y ∷ []) n) e ∙ end_item (reverse ys) y

pub innermost_is : (xs : List ℕ) → slice_get xs (length xs - 1) ≡ innermost (reverse xs)
innermost_is xs = ap (λ t. slice_get t (length t - 1)) (sym (reverse-reverse xs)) ∙ last_of_reverse (reverse xs)

pub pushed : (xs : List ℕ) (y : ℕ) → reverse (xs ++ y ∷ []) ≡ y ∷ reverse xs
pushed xs y = reverse-append xs (y ∷ [])

-- ---- for the answers
pub popped : (old new : List ℕ) (r : Option ℕ) → old ≡ new ++ option_to_list r → IsSome r → (x : ℕ) × (reverse old ≡ x ∷ reverse new)
popped old new None e h = absurd cc
popped old new (Some x) e h = (x, ap reverse e ∙ pushed new x)

pub reached_popped : (events es : List Happening) (index : ℕ) (old new : List ℕ) (r : Option ℕ) (nodes : List Node) → old ≡ new ++ option_to_list r → IsSome r → drop index events ≡ ee ∷ es → drop (index + 1) events ≡ es → Reached events index (reverse old) nodes → Reached events (index + 1) (reverse new) nodes
reached_popped events es index old new r nodes e some_r here next reached =
    let p = popped old new r e some_r in
    reached_end events es index p.0 (reverse new) nodes here next (rw p.1 at reached)

pub empty_stack : (xs : List ℕ) → length xs ≡ 0 → reverse xs ≡ []
empty_stack [] h = refl
empty_stack (x ∷ xs) h = absurd (omega arith)

pub refused_pop : (events es : List Happening) (index : ℕ) (stack : List ℕ) (nodes : List Node) → length stack ≡ 0 → drop index events ≡ ee ∷ es → Reached events index (reverse stack) nodes → nodes_of events ≡ Err (not_schema (index + 1))
refused_pop events es index stack nodes none here r = refused_end events es index nodes here (rw (empty_stack stack none) at r)

pub same_reached : (events : List Happening) (index : ℕ) (open_nodes opened : List ℕ) (nodes noded : List Node) → opened ≡ open_nodes → noded ≡ nodes → Reached events index open_nodes nodes → Reached events index opened noded
same_reached events index open_nodes opened nodes noded o n r = rw (o, n) r

pub none_is : (n : ℕ) (b : Bool) → b ≡ eqb n 0 → b ≡ true → n ≡ 0
none_is n b e h = eqb-true n 0 (sym e ∙ h)

pub some_is : (n : ℕ) (b : Bool) → b ≡ eqb n 0 → b ≡ false → 0 < n
some_is zero b e h = absurd cc
some_is (suc n) b e h = omega arith

-- ---- an element starts, as the loop's answers have it
pub stacked : (events es : List Happening) (index : ℕ) (stack new_stack : List ℕ) (nodes new_nodes : List Node) (name : QName) (n : Node) → drop index events ≡ se name ∷ es → drop (index + 1) events ≡ es → may_start name (innermost (reverse stack)) (length nodes) ≡ true → n ≡ node_of name (innermost (reverse stack)) (index + 1) es → new_stack ≡ stack ++ length nodes ∷ [] → new_nodes ≡ nodes ++ n ∷ [] → Reached events index (reverse stack) nodes → Reached events (index + 1) (reverse new_stack) new_nodes
stacked events es index stack new_stack nodes new_nodes name n here next may n_is stack_is nodes_is r =
    same_reached events (index + 1) (length nodes ∷ reverse stack) (reverse new_stack) (nodes ++ node_of name (innermost (reverse stack)) (index + 1) es ∷ []) new_nodes
    (ap reverse stack_is ∙ pushed stack (length nodes))
    (nodes_is ∙ ap (λ m. nodes ++ m ∷ []) n_is)
    (reached_start events es index (reverse stack) nodes name here next may r)

-- ---- at the end
no_nodes : (ns : List Node) → length ns ≡ 0 → ns ≡ []
no_nodes [] h = refl
no_nodes (n ∷ ns) h = absurd (omega arith)

pub none_read : (events : List Happening) (index : ℕ) (open_nodes : List ℕ) (nodes : List Node) → drop index events ≡ [] → length nodes ≡ 0 → Reached events index open_nodes nodes → nodes_of events ≡ Err (not_schema index)
none_read events index open_nodes nodes here none r = no_element events index open_nodes here (rw (no_nodes nodes none) at r)

pub open_at_end : (events : List Happening) (index : ℕ) (stack : List ℕ) (nodes : List Node) → drop index events ≡ [] → 0 < length stack → Reached events index (reverse stack) nodes → nodes_of events ≡ Err (not_schema index)
open_at_end events index stack nodes here some_open r = stays_open events index (reverse stack) nodes here (omega (arith, some_open, length-reverse stack)) r

pub closed_at_end : (events : List Happening) (index : ℕ) (stack : List ℕ) (nodes : List Node) → drop index events ≡ [] → length stack ≡ 0 → 0 < length nodes → Reached events index (reverse stack) nodes → nodes_of events ≡ Ok nodes
closed_at_end events index stack nodes here none some_node r = all_read events index nodes here some_node (rw (empty_stack stack none) at r)
