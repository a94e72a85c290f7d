-- The walk, step by step.
use Rattle.std.proofs.Common.{◌≡◌, ℕ, zero, suc, ◌+◌, ◌-◌, ◌<◌, ◌≤◌, Bool, true, false, cond, List, [], ◌∷◌, ◌++◌, length, map, get_or, take, drop, refl, sym, ap, subst, ◌∙◌, arith, append_assoc, length-append}
use Rattle.std.specs.Prelude.{Option, None, Some, reverse}
use Rattle.std.proofs.lemmas.List.{append-nil, drop_more, get_or-map, length-map, length-reverse, reverse-append, length_push}
use Rattle.exi_gram.specs.Reaching.{is_among}
use Rattle.exi_normal.specs.Numbers.{into, move_count, moves_at, read_by, reading, readings, readings_from}
use Rattle.exi_normal.specs.declared.numbered.Move.{Move}
use Rattle.exi_normal.specs.declared.walk.Reading.{Reading}
use Rattle.exi_normal.proofs.Seen.{more_at_end, unseen, unseen_from_start}

reverse_last : {X : Type 0} (x : X) (xs : List X) → reverse (xs ++ x ∷ []) ≡ x ∷ reverse xs
reverse_last x xs = reverse-append xs (x ∷ [])

pub record IsWalked (states : List (List Move)) (members : List ℕ) (out : List Reading) (seen : List ℕ) (todo : List Move) : Type 0 where
  pub fuel : ℕ
  pub enough : length todo + unseen 0 states seen < fuel
  pub so_far : out ++ readings states fuel seen (reverse todo) ≡ readings_from states members

unseen_none : (from : ℕ) (states : List (List Move)) → unseen from states [] ≡ move_count states
unseen_none from [] = refl
unseen_none from (s ∷ ss) = ap (λ n. length s + n) (unseen_none (suc from) ss)

pub walk_begins : (states : List (List Move)) (members : List ℕ) (todo : List Move) → reverse todo ≡ map into members ++ reverse [] → IsWalked states members [] [] todo
walk_begins states members todo e =
    let m : reverse todo ≡ map into members = e ∙ append-nil (map into members) in
    let k : length todo ≡ length members = sym (length-reverse todo) ∙ ap length m ∙ length-map members into in
    let u : unseen 0 states [] ≡ move_count states = unseen_none 0 states in
    record { fuel = suc (length members + move_count states); enough = omega (arith, k, u); so_far = ap (readings states (suc (length members + move_count states)) []) m }

ended : (states : List (List Move)) (n : ℕ) (seen : List ℕ) → readings states n seen [] ≡ []
unfolding readings
ended states zero seen = refl
ended states (suc n) seen = refl

pub walk_ends : (states : List (List Move)) (members : List ℕ) (out : List Reading) (seen : List ℕ) (todo : List Move) → todo ≡ [] → IsWalked states members out seen todo → out ≡ readings_from states members
walk_ends states members out seen todo e w =
    sym (append-nil out) ∙ ap (λ z. out ++ z) (sym (ap (λ t. readings states w.fuel seen (reverse t)) e ∙ ended states w.fuel seen)) ∙ w.so_far

-- what is looked at next
one_on : (states : List (List Move)) (n : ℕ) (seen : List ℕ) (m : Move) (ms : List Move) → readings states (suc n) seen (m ∷ ms)
    ≡ read_by m m.on (readings states n seen ms) (cond (is_among m.to seen) (readings states n seen ms) (readings states n (seen ++ m.to ∷ []) (moves_at states m.to ++ ms)))
unfolding readings
one_on states n seen m ms = refl

last_todo : (todo rest : List Move) (m : Move) → todo ≡ rest ++ m ∷ [] → reverse todo ≡ m ∷ reverse rest
last_todo todo rest m e = ap reverse e ∙ reverse_last m rest

last_length : (todo rest : List Move) (m : Move) → todo ≡ rest ++ m ∷ [] → length todo ≡ length rest + 1
last_length todo rest m e = ap length e ∙ length_push rest m

fuel_is : (n k : ℕ) → k < n → n ≡ suc (n - 1)
fuel_is n k less = omega (arith, less)

pub walk_reads : (states : List (List Move)) (members : List ℕ) (out new : List Reading) (seen : List ℕ) (todo rest : List Move) (m : Move) (on : ℕ) → todo ≡ rest ++ m ∷ [] → m.on ≡ Some on
    → new ≡ out ++ reading on m ∷ [] → IsWalked states members out seen todo → IsWalked states members new seen rest
walk_reads states members out new seen todo rest m on e o p w =
    let k : length todo ≡ length rest + 1 = last_length todo rest m e in
    let f : w.fuel ≡ suc (w.fuel - 1) = fuel_is w.fuel (length todo + unseen 0 states seen) w.enough in
    let one : readings states w.fuel seen (reverse todo) ≡ reading on m ∷ readings states (w.fuel - 1) seen (reverse rest) =
    (λ i. readings states (f i) seen (last_todo todo rest m e i))
    ∙ one_on states (w.fuel - 1) seen m (reverse rest)
    ∙ ap (λ z. read_by m z (readings states (w.fuel - 1) seen (reverse rest)) (cond (is_among m.to seen) (readings states (w.fuel - 1) seen (reverse rest)) (readings states (w.fuel - 1) (seen ++ m.to ∷ []) (moves_at states m.to ++ reverse rest)))) o in
    record {
      fuel = w.fuel - 1;
      enough = let h : length todo + unseen 0 states seen < w.fuel = w.enough in omega (arith, k, h);
      so_far =
          ap (λ z. z ++ readings states (w.fuel - 1) seen (reverse rest)) p
          ∙ append_assoc out (reading on m ∷ []) (readings states (w.fuel - 1) seen (reverse rest))
          ∙ ap (λ z. out ++ z) (sym one)
          ∙ w.so_far;
    }

free_on : (states : List (List Move)) (n : ℕ) (seen : List ℕ) (todo rest : List Move) (m : Move) (k : ℕ) → k < n → todo ≡ rest ++ m ∷ [] → m.on ≡ None
    → readings states n seen (reverse todo) ≡ cond (is_among m.to seen) (readings states (n - 1) seen (reverse rest)) (readings states (n - 1) (seen ++ m.to ∷ []) (moves_at states m.to ++ reverse rest))
free_on states n seen todo rest m k less e o =
    (λ i. readings states (fuel_is n k less i) seen (last_todo todo rest m e i))
    ∙ one_on states (n - 1) seen m (reverse rest)
    ∙ ap (λ z. read_by m z (readings states (n - 1) seen (reverse rest)) (cond (is_among m.to seen) (readings states (n - 1) seen (reverse rest)) (readings states (n - 1) (seen ++ m.to ∷ []) (moves_at states m.to ++ reverse rest)))) o

pub walk_skips : (states : List (List Move)) (members : List ℕ) (out : List Reading) (seen : List ℕ) (todo rest : List Move) (m : Move) → todo ≡ rest ++ m ∷ [] → m.on ≡ None → is_among m.to seen ≡ true
    → IsWalked states members out seen todo → IsWalked states members out seen rest
walk_skips states members out seen todo rest m e o among w =
    let k : length todo ≡ length rest + 1 = last_length todo rest m e in
    let one = free_on states w.fuel seen todo rest m (length todo + unseen 0 states seen) w.enough e o
    ∙ ap (λ b. cond b (readings states (w.fuel - 1) seen (reverse rest)) (readings states (w.fuel - 1) (seen ++ m.to ∷ []) (moves_at states m.to ++ reverse rest))) among in
    record {
      fuel = w.fuel - 1;
      enough = let h : length todo + unseen 0 states seen < w.fuel = w.enough in omega (arith, k, h);
      so_far = ap (λ z. out ++ z) (sym one) ∙ w.so_far;
    }

-- a state that is come to
come_less : (states : List (List Move)) (seen now : List ℕ) (todo rest new : List Move) (m : Move) → todo ≡ rest ++ m ∷ [] → is_among m.to seen ≡ false → now ≡ seen ++ m.to ∷ []
    → reverse new ≡ moves_at states m.to ++ reverse rest → suc (length new + unseen 0 states now) ≡ length todo + unseen 0 states seen
come_less states seen now todo rest new m e among n r =
    let k : length todo ≡ length rest + 1 = last_length todo rest m e in
    let l : length new ≡ length (get_or states m.to []) + length rest =
    sym (length-reverse new) ∙ ap length r ∙ length-append (moves_at states m.to) (reverse rest) ∙ ap (λ z. length (get_or states m.to []) + z) (length-reverse rest) in
    let u : unseen 0 states (seen ++ m.to ∷ []) + length (get_or states m.to []) ≡ unseen 0 states seen = unseen_from_start states seen (seen ++ m.to ∷ []) m.to (more_at_end m.to seen) among in
    let v : unseen 0 states now ≡ unseen 0 states (seen ++ m.to ∷ []) = ap (unseen 0 states) n in
    omega (arith, k, l, u, v)

pub walk_comes : (states : List (List Move)) (members : List ℕ) (out : List Reading) (seen now : List ℕ) (todo rest new : List Move) (m : Move) → todo ≡ rest ++ m ∷ [] → m.on ≡ None → is_among m.to seen ≡ false
    → now ≡ seen ++ m.to ∷ [] → reverse new ≡ moves_at states m.to ++ reverse rest → IsWalked states members out seen todo → IsWalked states members out now new
walk_comes states members out seen now todo rest new m e o among n r w =
    let less : suc (length new + unseen 0 states now) ≡ length todo + unseen 0 states seen = come_less states seen now todo rest new m e among n r in
    let one = free_on states w.fuel seen todo rest m (length todo + unseen 0 states seen) w.enough e o
    ∙ ap (λ b. cond b (readings states (w.fuel - 1) seen (reverse rest)) (readings states (w.fuel - 1) (seen ++ m.to ∷ []) (moves_at states m.to ++ reverse rest))) among in
    record {
      fuel = w.fuel - 1;
      enough = let h : length todo + unseen 0 states seen < w.fuel = w.enough in omega (arith, less, h);
      so_far = (λ i. out ++ readings states (w.fuel - 1) (n i) (r i)) ∙ ap (λ z. out ++ z) (sym one) ∙ w.so_far;
    }

pub come_smaller : (states : List (List Move)) (seen now : List ℕ) (todo rest new : List Move) (m : Move) → todo ≡ rest ++ m ∷ [] → is_among m.to seen ≡ false → now ≡ seen ++ m.to ∷ []
    → reverse new ≡ moves_at states m.to ++ reverse rest → length new + unseen 0 states now < length todo + unseen 0 states seen
come_smaller states seen now todo rest new m e among n r = let less = come_less states seen now todo rest new m e among n r in omega (arith, less)

pub pop_smaller : (states : List (List Move)) (seen : List ℕ) (todo rest : List Move) (m : Move) → todo ≡ rest ++ m ∷ [] → length rest + unseen 0 states seen < length todo + unseen 0 states seen
pop_smaller states seen todo rest m e = let k : length todo ≡ length rest + 1 = last_length todo rest m e in omega (arith, k)

-- ---- last first
pub pushed_back : {X : Type 0} (all old todo new : List X) (i : ℕ) (x d : X) → i < length all → x ≡ get_or all (length all - 1 - i) d → reverse todo ≡ drop (length all - i) all ++ reverse old → new ≡ todo ++ x ∷ []
    → reverse new ≡ drop (length all - (i + 1)) all ++ reverse old
pushed_back all old todo new i x d less e h n =
    let p : length all - (i + 1) ≡ length all - 1 - i = omega arith in
    let q : (length all - (i + 1)) + 1 ≡ length all - i = omega (arith, less) in
    let below : length all - (i + 1) < length all = omega (arith, less) in
    ap reverse n
    ∙ reverse_last x todo
    ∙ ap (λ z. x ∷ z) h
    ∙ ap (λ z. z ∷ (drop (length all - i) all ++ reverse old)) (e ∙ ap (λ k. get_or all k d) (sym p))
    ∙ ap (λ k. get_or all (length all - (i + 1)) d ∷ (drop k all ++ reverse old)) (sym q)
    ∙ ap (λ z. z ++ reverse old) (sym (drop_more all (length all - (i + 1)) d below))

pub members_back : (members : List ℕ) (old todo new : List Move) (i m : ℕ) → i < length members → m ≡ get_or members (length members - 1 - i) 0
    → reverse todo ≡ drop (length members - i) (map into members) ++ reverse old → new ≡ todo ++ into m ∷ [] → reverse new ≡ drop (length members - (i + 1)) (map into members) ++ reverse old
members_back members old todo new i m less e h n =
    let k : length (map into members) ≡ length members = length-map members into in
    let at : length members - 1 - i < length members = omega (arith, less) in
    let x : into m ≡ get_or (map into members) (length (map into members) - 1 - i) (into m) =
    ap into e ∙ sym (get_or-map into members (length members - 1 - i) 0 (into m) at) ∙ ap (λ z. get_or (map into members) (z - 1 - i) (into m)) (sym k)
    in
    let a : reverse todo ≡ drop (length (map into members) - i) (map into members) ++ reverse old = h ∙ ap (λ z. drop (z - i) (map into members) ++ reverse old) (sym k) in
    pushed_back (map into members) old todo new i (into m) (into m) (omega (arith, less, k)) x a n ∙ ap (λ z. drop (z - (i + 1)) (map into members) ++ reverse old) k
