-- What is written, and what stands in the tables afterwards.
use Rattle.std.proofs.Common.{◌≡◌, ℕ, ◌+◌, ◌-◌, ◌%◌, ◌<◌, ◌^◌, ◌∙◌, ap, List, [], ◌∷◌, length, Option, Some, None, refl, sym, arith, inl, inr, Bool, ◌++◌, Result, Ok, Err, OnErr}
use Rattle.std.specs.Prelude.{IfSome}
use Rattle.std.proofs.lemmas.List.{append-nil}
use Rattle.std.proofs.lemmas.Option.{slice_get_within}
use Rattle.std.proofs.Math.Nat.{div-eq_of_lt, mod-eq_of_lt}
use Rattle.exi_bits.specs.Bits.{bits, number_bits}
use Rattle.exi_bits.specs.Unsigned.{groups, shortest}
use Rattle.exi_bits.specs.Widths.{width_for}
use Rattle.exi_bits.proofs.BitLaws.{number_bits-add, one_byte, pow_up}
use Rattle.exi_tables.specs.Growth.{NoneLonger}
use Rattle.exi_tables.specs.Partitions.{IsName, Partitions, least_place, locals, prefixes, uris, with_local, with_uri}
use Rattle.exi_tables.proofs.Least.{least_found}
use Rattle.exi_text.proofs.Sets.{width_covers}
use Rattle.exi_typed.specs.ReadStates.{MayHaveUri}
use Rattle.exi_bits.specs.declared.align.Align.{Align}
use Rattle.exi_items.specs.Fronts.{HoldsFront}
use Rattle.exi_items.proofs.Pieces.{then_front}
use Rattle.exi_names.specs.declared.names.QName.{QName}
use Rattle.exi_typed.specs.Strings.{Declaration, place_in}
use Rattle.exi_typed.specs.Written.{after_local, after_uri, declaration_bits, declared_bits, name_bits, space_for, under_bits, unless_found, uri_bits}
use Rattle.exi_typed.proofs.NewSpaces.{local_ends, locals_in_context, prefixes_in_context, uri_ends, uris_local}

-- a place below the count fits its width
pub fits : (count place : ℕ) → place < count → place < 2 ^ width_for count
fits count place lt = let h = width_covers count in omega arith

pub wider : (w v : ℕ) → v < 2 ^ w → v < 2 ^ (w + 8)
wider w v less = let up = pow_up w (w + 8) (omega arith) in omega (arith, less)

zero_octet : shortest 0 ≡ 0 ∷ []
unfolding groups
zero_octet = refl

-- behind an octet 0, as one number of both
pub behind_zero : (w v : ℕ) → v < 2 ^ w → number_bits (w + 8) v ≡ bits (shortest 0) ++ number_bits w v
behind_zero w v less =
    let flip : w + 8 ≡ 8 + w = omega arith in
    let all : v < 2 ^ (8 + w) = rw (← flip) (wider w v less) in
    ap (λ (n : ℕ). number_bits n v) flip ∙ number_bits-add 8 w v all
    ∙ ap (λ (n : ℕ). number_bits 8 n ++ number_bits w (v % 2 ^ w)) (div-eq_of_lt less) ∙ ap (λ (n : ℕ). number_bits 8 0 ++ number_bits w n) (mod-eq_of_lt less)
    ∙ ap (λ (z : List Bool). z ++ number_bits w v) (sym (one_byte 0) ∙ ap bits (sym zero_octet))

-- the least place of a text is below the count
pub least_within : (texts : List (List ℕ)) (text : List ℕ) (o : Option ℕ) → o ≡ least_place texts text → IfSome o (λ i. i < length texts)
least_within texts text None e = tt
least_within texts text (Some i) e = slice_get_within texts i text (least_found texts text i (sym e)).found

-- ---- a URI that is written has its least place
pub space_found : (p : Partitions) (text : List ℕ) (place : ℕ) → Some place ≡ least_place (uris p) text → place ≡ space_for p text
space_found p text place e = rw (sym e, sym e) refl

pub space_new : (p : Partitions) (text : List ℕ) → None ≡ least_place (uris p) text → length (uris p) ≡ space_for p text
space_new p text e = rw (sym e) (uri_ends p text (length (uris p)) (rw (sym e) refl)).least

pub may_have : (p : Partitions) (text : List ℕ) → MayHaveUri p (after_uri p text)
may_have p text = by_place (least_place (uris p) text)
  where
    by_place : (o : Option ℕ) → MayHaveUri p (unless_found o p (with_uri p text))
    by_place (Some place) = inl refl
    by_place None = inr (text, refl)

pub room_for_local_after : (p : Partitions) (text : List ℕ) (uri : ℕ) → NoneLonger (2 ^ 31) p → length (locals (after_uri p text) uri) < 2 ^ 32 - 1
room_for_local_after p text uri few = by_place (least_place (uris p) text)
  where
    by_place : (o : Option ℕ) → length (locals (unless_found o p (with_uri p text)) uri) < 2 ^ 32 - 1
    by_place (Some place) = let f = few.few_locals uri in omega arith
    by_place None = rw (locals_in_context p text uri) (let f = few.few_locals uri in omega arith)

pub room_for_prefix_after : (p : Partitions) (text : List ℕ) (uri : ℕ) → NoneLonger (2 ^ 31) p → length (prefixes (after_uri p text) uri) < 2 ^ 32 - 1
room_for_prefix_after p text uri few = by_place (least_place (uris p) text)
  where
    by_place : (o : Option ℕ) → length (prefixes (unless_found o p (with_uri p text)) uri) < 2 ^ 32 - 1
    by_place (Some place) = let f = few.few_prefixes uri in omega arith
    by_place None = rw (prefixes_in_context p text uri) (let f = few.few_prefixes uri in omega arith)

-- ---- where memory ran out
pub always : {X E : Type 0} {P : Type 0} (r : Result X E) → P → OnErr r P
always (Ok x) p = tt
always (Err e) p = p

pub held_all : (old text new : List Bool) → new ≡ old ++ text → HoldsFront old text new
held_all old text new e = record { front = text; behind = []; parts = sym (append-nil text); held = e }

pub declaration_front : (a : Align) (p q : Partitions) (d : Declaration) (u : ℕ) (old mid new : List Bool) → q ≡ after_uri p d.uri → u ≡ space_for p d.uri → mid ≡ old ++ uri_bits a p d.uri
    → HoldsFront mid (declared_bits a q u d.prefix d.element) new → HoldsFront old (declaration_bits a p d) new
declaration_front a p q d u old mid new h f e w =
    then_front old (uri_bits a p d.uri) (declared_bits a (after_uri p d.uri) (space_for p d.uri) d.prefix d.element) mid new e (rw (h, f) at w)

pub name_front : (keep : Bool) (a : Align) (p q : Partitions) (n : QName) (u : ℕ) (old mid new : List Bool) → q ≡ after_uri p n.uri → u ≡ space_for p n.uri → mid ≡ old ++ uri_bits a p n.uri
    → HoldsFront mid (under_bits keep a q u n.local n.prefix) new → HoldsFront old (name_bits keep a p n) new
name_front keep a p q n u old mid new h f e w =
    then_front old (uri_bits a p n.uri) (under_bits keep a (after_uri p n.uri) (space_for p n.uri) n.local n.prefix) mid new e (rw (h, f) at w)

-- ---- so has a local name
pub new_local : (p q : Partitions) (uri place : ℕ) (text : List ℕ) → uri < length (uris p) → None ≡ least_place (locals p uri) text → place ≡ length (locals p uri) → q ≡ with_local p uri text
    → (place ≡ place_in (locals q uri) text) × IsName q (record { uri = uri; local = place })
new_local p q uri place text within none e f =
    let k = local_ends p uri text place within (rw (sym none) e) in
    rw f (k.least, record { within_uris = rw (uris_local p uri text) within; within_locals = k.within })

pub local_found : (p : Partitions) (uri : ℕ) (text : List ℕ) (place : ℕ) → Some place ≡ least_place (locals p uri) text → place ≡ place_in (locals (after_local p uri text) uri) text
local_found p uri text place e = rw (sym e, sym e) refl

pub local_new : (p : Partitions) (uri : ℕ) (text : List ℕ) → uri < length (uris p) → None ≡ least_place (locals p uri) text → length (locals p uri) ≡ place_in (locals (after_local p uri text) uri) text
local_new p uri text within e = rw (sym e) (local_ends p uri text (length (locals p uri)) within (rw (sym e) refl)).least
