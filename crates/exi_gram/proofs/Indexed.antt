-- What is found of the productions that were added to an index.
use Rattle.std.proofs.Common.{Some, ◌≡◌, inl, inr, ℕ, zero, suc, ◌+◌, ◌<◌, ◌==◌, ◌&&◌, Bool, true, false, cond, List, [], ◌∷◌, ◌++◌, length, map, take, get_or, subst, refl, sym, ap, ◌∙◌, append_assoc, arith}
use Rattle.std.specs.Map.{lookup}
use Rattle.std.proofs.lemmas.Bool.{cases_Bool, eqb-true}
use Rattle.std.proofs.lemmas.List.{append-nil, length-map, length-take, map-append, take_more}
use Rattle.std.proofs.lemmas.Option.{get_or_from_slice_get, slice_get-get_or}
use Rattle.exi_names.specs.NameMaps.{same_name}
use Rattle.exi_names.specs.declared.names.NameId.{NameId}
use Rattle.exi_gram.specs.declared.class.Class.{Class}
use Rattle.exi_gram.specs.declared.code.Coded.{Coded as Kept}
use Rattle.exi_gram.specs.declared.index.IndexKey.{IndexKey}
use Rattle.exi_gram.specs.declared.second.SecondPart.{SecondPart}
use Rattle.exi_gram.specs.Candidates.{FindInAll, FindInStates, Finds, Listed, found, index_key, is_sought, listed_or, same_class, same_key, sought_from}
use Rattle.exi_gram.specs.Codes.{Coded, Productions, coded}
use Rattle.exi_gram.specs.Naming.{Entry}
use Rattle.exi_gram.specs.Tables.{IsTable, coded_of, items_of, no_productions, table_of}

-- one production that has so many parts, or not
abbrev pub one_sought : ℕ → Class → NameId → ℕ → Coded Entry → List ℕ
one_sought parts class name place c = sought_from parts class name place (c ∷ [])

sought-append : (parts : ℕ) (class : Class) (name : NameId) (from : ℕ) (cs ds : List (Coded Entry)) → sought_from parts class name from (cs ++ ds) ≡ sought_from parts class name from cs ++ sought_from parts class name (from + length cs) ds
sought-append parts class name from [] ds = let e : from ≡ from + 0 = omega arith in ap (λ (k : ℕ). sought_from parts class name k ds) e
sought-append parts class name from (c ∷ cs) ds =
    let e : suc from + length cs ≡ from + length (c ∷ cs) = omega arith in
    let h = sought-append parts class name (suc from) cs ds ∙ ap (λ (k : ℕ). sought_from parts class name (suc from) cs ++ sought_from parts class name k ds) e in
    elim (cases_Bool (length c.parts == parts && is_sought class name c.item)) [
      | inl yes_is ↦ rw yes_is (ap (λ (z : List ℕ). from ∷ z) h)
      | inr no_is ↦ rw no_is h
    ]

-- with one more
pub sought_next : (parts : ℕ) (class : Class) (name : NameId) (cs : List Kept) (index : ℕ) (d : Kept) → index < length cs
    → sought_from parts class name 0 (map coded_of (take (index + 1) cs)) ≡ sought_from parts class name 0 (map coded_of (take index cs)) ++ one_sought parts class name index (coded_of (get_or cs index d))
sought_next parts class name cs index d within =
    let n : 0 + length (map coded_of (take index cs)) ≡ index = omega (arith, length-map (take index cs) coded_of, length-take index cs) in
    ap (λ (z : List Kept). sought_from parts class name 0 (map coded_of z)) (take_more cs index d within)
    ∙ ap (sought_from parts class name 0) (map-append coded_of (take index cs) (get_or cs index d ∷ []))
    ∙ sought-append parts class name 0 (map coded_of (take index cs)) (coded_of (get_or cs index d) ∷ [])
    ∙ ap (λ (k : ℕ). sought_from parts class name 0 (map coded_of (take index cs)) ++ one_sought parts class name k (coded_of (get_or cs index d))) n

added : (b : Bool) (xs : List ℕ) (place : ℕ) → cond b (xs ++ place ∷ []) xs ≡ xs ++ cond b (place ∷ []) []
added true xs place = refl
added false xs place = sym (append-nil xs)

-- what is found once it was added, and where it has another number of parts
pub found_here : (parts : ℕ) (class : Class) (name : NameId) (cs : List Kept) (index : ℕ) (c : Kept) (first now new : List ℕ) → index < length cs → c ≡ get_or cs index c → length (coded_of c).parts == parts ≡ true
    → now ≡ first ++ sought_from parts class name 0 (map coded_of (take index cs))
    → new ≡ cond (is_sought class name (coded_of c).item) (now ++ index ∷ []) now
    → new ≡ first ++ sought_from parts class name 0 (map coded_of (take (index + 1) cs))
found_here parts class name cs index c first now new within e has so_far n =
    let one : one_sought parts class name index (coded_of c) ≡ cond (is_sought class name (coded_of c).item) (index ∷ []) [] = rw has refl in
    n
    ∙ added (is_sought class name (coded_of c).item) now index
    ∙ ap (λ (z : List ℕ). now ++ z) (sym one)
    ∙ ap (λ (z : List ℕ). z ++ one_sought parts class name index (coded_of c)) so_far
    ∙ append_assoc first (sought_from parts class name 0 (map coded_of (take index cs))) (one_sought parts class name index (coded_of c))
    ∙ ap (λ (z : List ℕ). first ++ z) (ap (λ (c : Kept). sought_from parts class name 0 (map coded_of (take index cs)) ++ one_sought parts class name index (coded_of c)) e ∙ sym (sought_next parts class name cs index c within))

pub found_past : (parts : ℕ) (class : Class) (name : NameId) (cs : List Kept) (index : ℕ) (c : Kept) (first now : List ℕ) → index < length cs → c ≡ get_or cs index c → length (coded_of c).parts == parts ≡ false
    → now ≡ first ++ sought_from parts class name 0 (map coded_of (take index cs))
    → now ≡ first ++ sought_from parts class name 0 (map coded_of (take (index + 1) cs))
found_past parts class name cs index c first now within e hasnt so_far =
    let one : one_sought parts class name index (coded_of c) ≡ [] = rw hasnt refl in
    so_far
    ∙ ap (λ (z : List ℕ). first ++ z) (append-nil' (sought_from parts class name 0 (map coded_of (take index cs))) ∙ ap (λ (z : List ℕ). sought_from parts class name 0 (map coded_of (take index cs)) ++ z) (sym one)
    ∙ ap (λ (c : Kept). sought_from parts class name 0 (map coded_of (take index cs)) ++ one_sought parts class name index (coded_of c)) e ∙ sym (sought_next parts class name cs index c within))
  where
    append-nil' : (xs : List ℕ) → xs ≡ xs ++ []
    append-nil' xs = sym (append-nil xs)

-- ---- what is kept for a key
both_hold : (a b : Bool) → a && b ≡ true → (a ≡ true) × (b ≡ true)
both_hold true b h = (refl, h)
both_hold false b h = absurd (cc)

key_is : (a b : IndexKey) → same_key a b ≡ true → a ≡ b
key_is a b h =
    let p = both_hold (a.class == b.class) ((a.uri == b.uri) && (a.local == b.local)) h in
    let q = both_hold (a.uri == b.uri) (a.local == b.local) p.1 in
    ap (λ k. record { class = k; uri = a.uri; local = a.local }) (eqb-true a.class b.class p.0)
    ∙ ap (λ u. record { class = b.class; uri = u; local = a.local }) (eqb-true a.uri b.uri q.0)
    ∙ ap (λ l. record { class = b.class; uri = b.uri; local = l }) (eqb-true a.local b.local q.1)

-- one more place for a class and a name
pub found_added : (old new : Listed) (class : Class) (name : NameId) (places : List ℕ) (place : ℕ) → places ≡ found old class name ++ place ∷ []
    → ((q : IndexKey) → lookup (same_key q) new ≡ cond (same_key (index_key class name) q) (Some places) (lookup (same_key q) old))
    → (c : Class) (n : NameId) → found new c n ≡ cond (same_class class c && same_name name n) (found old c n ++ place ∷ []) (found old c n)
found_added old new class name places place p u c n =
    let h : found new c n ≡ listed_or (cond (same_key (index_key class name) (index_key c n)) (Some places) (lookup (same_key (index_key c n)) old)) = ap listed_or (u (index_key c n)) in
    elim (cases_Bool (same_key (index_key class name) (index_key c n))) [
      | inl yes_is ↦
          rw yes_is
          (h
          ∙ ap (λ (b : Bool). listed_or (cond b (Some places) (lookup (same_key (index_key c n)) old))) yes_is
          ∙ p
          ∙ ap (λ (q : IndexKey). listed_or (lookup (same_key q) old) ++ place ∷ []) (key_is (index_key class name) (index_key c n) yes_is))
      | inr no_is ↦ rw no_is (h ∙ ap (λ (b : Bool). listed_or (cond b (Some places) (lookup (same_key (index_key c n)) old))) no_is)
    ]

-- ---- the indexes of a book
pub states_more : (indexes : List Listed) (ps : List (Productions Entry)) (maps : Listed) (p : Productions Entry) → FindInStates indexes ps → Finds maps p → FindInStates (indexes ++ maps ∷ []) (ps ++ p ∷ [])
states_more [] [] maps p h f = (f, tt)
states_more [] (q ∷ ps) maps p h f = absurd h
states_more (other ∷ indexes) [] maps p h f = absurd h
states_more (other ∷ indexes) (q ∷ ps) maps p h f = (h.0, states_more indexes ps maps p h.1 f)

pub states_count : (indexes : List Listed) (ps : List (Productions Entry)) → FindInStates indexes ps → length indexes ≡ length ps
states_count [] [] h = refl
states_count [] (p ∷ ps) h = absurd h
states_count (maps ∷ indexes) [] h = absurd h
states_count (maps ∷ indexes) (p ∷ ps) h = ap suc (states_count indexes ps h.1)

pub all_count : (all : List (List Listed)) (states : List (List (Productions Entry))) → FindInAll all states → length all ≡ length states
all_count [] [] h = refl
all_count [] (ps ∷ pss) h = absurd h
all_count (indexes ∷ all) [] h = absurd h
all_count (indexes ∷ all) (ps ∷ pss) h = ap suc (all_count all pss h.1)

pub all_at : (all : List (List Listed)) (states : List (List (Productions Entry))) (grammar : ℕ) → FindInAll all states → FindInStates (get_or all grammar []) (get_or states grammar [])
all_at [] [] grammar h = tt
all_at [] (ps ∷ pss) grammar h = absurd h
all_at (indexes ∷ all) [] grammar h = absurd h
all_at (indexes ∷ all) (ps ∷ pss) zero h = h.0
all_at (indexes ∷ all) (ps ∷ pss) (suc grammar) h = all_at all pss grammar h.1

pub state_finds : (indexes : List Listed) (ps : List (Productions Entry)) (state : ℕ) (d : Listed) → FindInStates indexes ps → state < length ps → Finds (get_or indexes state d) (get_or ps state no_productions)
state_finds [] [] state d h within = absurd (omega arith)
state_finds [] (p ∷ ps) state d h within = absurd h
state_finds (maps ∷ indexes) [] state d h within = absurd h
state_finds (maps ∷ indexes) (p ∷ ps) zero d h within = h.0
state_finds (maps ∷ indexes) (p ∷ ps) (suc state) d h within = state_finds indexes ps state d h.1 (omega arith)

-- what is found of what is kept
pub kept_finds : (cs : List Kept) (firsts : ℕ) (ss : List SecondPart) (lent : List Kept) (p : Productions Entry) → IsTable cs firsts ss → table_of (items_of cs) firsts ss ≡ p → lent ≡ cs → map coded_of lent ≡ coded p
kept_finds cs firsts ss lent p t v l = ap (map coded_of) l ∙ t.codes ∙ ap coded v

-- whatever is told past the end
told_at : {X : Type 0} (xs lent : List X) (index : ℕ) (x d : X) → lent ≡ xs → index < length xs → x ≡ get_or lent index x → x ≡ get_or xs index d
told_at {X} xs lent index x d e within is =
    is ∙ sym (get_or_from_slice_get lent index (get_or lent index x) d (slice_get-get_or lent index x (subst (λ (z : List X). index < length z) (sym e) within))) ∙ ap (λ (z : List X). get_or z index d) e

-- a state's index, as it is looked up in all of them
pub row_at : (all lent : List (List Listed)) (states : List (List (Productions Entry))) (grammar : ℕ) (row lent_row : List Listed) → FindInAll all states → lent ≡ all → grammar < length states → row ≡ get_or lent grammar row → lent_row ≡ row → FindInStates lent_row (get_or states grammar [])
row_at all lent states grammar row lent_row h e within is l =
    let n = all_count all states h in
    let r : lent_row ≡ get_or all grammar [] = l ∙ told_at all lent grammar row [] e (omega arith) is in
    subst (λ (z : List Listed). FindInStates z (get_or states grammar [])) (sym r) (all_at all states grammar h)

pub index_at : (row : List Listed) (ps : List (Productions Entry)) (state : ℕ) (maps : Listed) → FindInStates row ps → state < length ps → maps ≡ get_or row state maps → Finds maps (get_or ps state no_productions)
index_at row ps state maps h within is = subst (λ (z : Listed). Finds z (get_or ps state no_productions)) (sym is) (state_finds row ps state maps h within)
