-- Names as keys, and what is told by them.
use Rattle.std.proofs.Common.{◌≡◌, ℕ, ◌+◌, ◌<◌, Bool, true, false, cond, ◌||◌, Some, None, List, [], ◌∷◌, ◌++◌, get_or, length, map, take, drop, refl, sym, ap, ◌∙◌, arith}
use Rattle.std.specs.List.{list_any}
use Rattle.std.specs.Map.{lookup}
use Rattle.std.proofs.lemmas.List.{get_or-map, length-map, map-append, take_more}
use Rattle.std.proofs.lemmas.List.Sums.{fold-append}
use Rattle.exi_order.specs.Keys.{key_of, keys_of}
use Rattle.exi_order.specs.declared.Key.{Key}
use Rattle.exi_vocabulary.specs.Agreement.{Decl, Tolds, agree_or, shown, told_by, told_in, told_more, told_of}
use Rattle.exi_vocabulary.specs.Named.{name_pair}
use Rattle.exi_vocabulary.specs.Vocabulary.{Pair, same_pair}
use Rattle.exi_vocabulary.specs.declared.agreement.Declared.{Declared}
use Rattle.exi_vocabulary.specs.declared.agreement.Told.{Told}
use Rattle.exi_vocabulary.specs.declared.name.Name.{Name}
use Rattle.exi_vocabulary.proofs.Agrees.{pair_is, pair_itself}
use Rattle.exi_vocabulary.proofs.Firsts.{any_pair, found, goes_on, passed}

abbrev pub same_name : Name → Name → Bool
same_name a b = same_pair (name_pair a) (name_pair b)

pub any_named : (n : Name) (ns : List Name) → list_any (same_name n) ns ≡ any_pair (name_pair n) (map name_pair ns)
any_named n [] = refl
any_named n (m ∷ ms) = ap (λ b. same_name n m || b) (any_named n ms)

-- what is told by one declaration more
told_alike : (tolds : Tolds) (a b : Name) → name_pair a ≡ name_pair b → told_in tolds a ≡ told_in tolds b
told_alike tolds a b e = ap (λ p. lookup (λ n. same_pair p (name_pair n)) tolds) e

turned : (a b : Pair) → same_pair a b ≡ same_pair b a
turned a b = iff (same_pair a b) (same_pair b a) (λ h. ap (λ x. same_pair b x) (pair_is a b h) ∙ pair_itself b) (λ h. ap (λ x. same_pair a x) (pair_is b a h) ∙ pair_itself a)
  where
    iff : (x y : Bool) → (x ≡ true → y ≡ true) → (y ≡ true → x ≡ true) → x ≡ y
    iff true y f g = sym (f refl)
    iff false true f g = g refl
    iff false false f g = refl

pub told_put : (old new : Tolds) (name : Name) (d : Decl) (t : Told) → d.name ≡ name_pair name → t ≡ told_by (told_in old name) d → ((q : Name) → told_in new q ≡ cond (same_name name q) (Some t) (told_in old q)) → (q : Name) → told_in new q ≡ told_more (name_pair q) (told_in old q) d
told_put old new name d t n is put q =
    put q
    ∙ ap (λ b. cond b (Some t) (told_in old q)) (turned (name_pair name) (name_pair q) ∙ ap (same_pair (name_pair q)) (sym n))
    ∙ by (same_pair (name_pair q) d.name) refl
  where
    by : (b : Bool) → same_pair (name_pair q) d.name ≡ b → cond b (Some t) (told_in old q) ≡ cond b (Some (told_by (told_in old q) d)) (told_in old q)
    by true e = ap Some (is ∙ ap (λ o. told_by o d) (told_alike old name q (sym n ∙ sym (pair_is (name_pair q) d.name e))))
    by false e = refl

longer : (ks : List Key) (i : ℕ) → i < length ks → i < length (keys_of ks)
longer ks i less = let e : length (keys_of ks) ≡ length ks = length-map ks key_of in omega (arith, e, less)

key_there : (ks : List Key) (i : ℕ) (k : Key) → i < length ks → k ≡ get_or ks i k → key_of k ≡ get_or (keys_of ks) i (key_of k)
key_there ks i k less is = ap key_of is ∙ sym (get_or-map key_of ks i k (key_of k) less)

pub told_next : (old new : Tolds) (ds : List Declared) (i : ℕ) (d : Declared) → i < length ds → d ≡ get_or ds i d → ((q : Name) → told_in new q ≡ told_more (name_pair q) (told_in old q) (shown d)) → ((q : Name) → told_in old q ≡ told_of (name_pair q) (map shown (take i ds))) → (q : Name) → told_in new q ≡ told_of (name_pair q) (map shown (take (i + 1) ds))
told_next old new ds i d less is more so_far q =
    more q
    ∙ ap (λ o. told_more (name_pair q) o (shown d)) (so_far q)
    ∙ ap (λ x. told_more (name_pair q) (told_of (name_pair q) (map shown (take i ds))) (shown x)) is
    ∙ sym (fold-append (told_more (name_pair q)) None (map shown (take i ds)) (shown (get_or ds i d) ∷ []))
    ∙ ap (told_of (name_pair q)) (sym (map-append shown (take i ds) (get_or ds i d ∷ [])))
    ∙ ap (λ l. told_of (name_pair q) (map shown l)) (sym (take_more ds i d less))

-- ---- whether they agree
pub agreed_more : (ds : List Declared) (i : ℕ) (d : Declared) (old new : List Bool) (a : Bool) → i < length ds → d ≡ get_or ds i d → new ≡ old ++ a ∷ [] → a ≡ agree_or (told_of (name_pair d.name) (map shown ds)) → old ≡ map (λ (x : Decl). agree_or (told_of x.name (map shown ds))) (map shown (take i ds)) → new ≡ map (λ (x : Decl). agree_or (told_of x.name (map shown ds))) (map shown (take (i + 1) ds))
agreed_more ds i d old new a less is n value so_far =
    let agree : Decl → Bool = λ x. agree_or (told_of x.name (map shown ds)) in
    n
    ∙ ap (λ l. l ++ a ∷ []) so_far
    ∙ ap (λ x. map agree (map shown (take i ds)) ++ x ∷ []) (value ∙ ap (λ x. agree (shown x)) is)
    ∙ sym (map-append agree (map shown (take i ds)) (shown (get_or ds i d) ∷ []))
    ∙ ap (map agree) (sym (map-append shown (take i ds) (get_or ds i d ∷ [])))
    ∙ ap (λ l. map agree (map shown l)) (sym (take_more ds i d less))

-- ---- the names that come first
pub first_kept : (ks : List Key) (i : ℕ) (k : Key) (name : Name) (old new : List Name) (done all : List ℕ) → i < length ks → k ≡ get_or ks i k → name_pair name ≡ key_of k → new ≡ cond (list_any (same_name name) old) old (old ++ name ∷ []) → list_any (same_name name) old ≡ true → goes_on done (map name_pair old) i (drop i (keys_of ks)) ≡ all → goes_on done (map name_pair new) (i + 1) (drop (i + 1) (keys_of ks)) ≡ all
first_kept ks i k name old new done all less is n keys e h =
    ap (λ l. goes_on done (map name_pair l) (i + 1) (drop (i + 1) (keys_of ks))) (keys ∙ ap (λ b. cond b old (old ++ name ∷ [])) e)
    ∙ passed done (map name_pair old) (keys_of ks) i (name_pair name) (key_of k) all (longer ks i less) (n ∙ key_there ks i k less is) (sym (any_named name old) ∙ e) h

pub first_added : (ks : List Key) (i : ℕ) (k : Key) (name : Name) (old new : List Name) (done all : List ℕ) → i < length ks → k ≡ get_or ks i k → name_pair name ≡ key_of k → new ≡ cond (list_any (same_name name) old) old (old ++ name ∷ []) → list_any (same_name name) old ≡ false → goes_on done (map name_pair old) i (drop i (keys_of ks)) ≡ all → goes_on (done ++ i ∷ []) (map name_pair new) (i + 1) (drop (i + 1) (keys_of ks)) ≡ all
first_added ks i k name old new done all less is n keys e h =
    ap (λ l. goes_on (done ++ i ∷ []) (map name_pair l) (i + 1) (drop (i + 1) (keys_of ks))) (keys ∙ ap (λ b. cond b old (old ++ name ∷ [])) e)
    ∙ ap (λ l. goes_on (done ++ i ∷ []) l (i + 1) (drop (i + 1) (keys_of ks))) (map-append name_pair old (name ∷ []))
    ∙ found done (map name_pair old) (keys_of ks) i (name_pair name) (key_of k) all (longer ks i less) (n ∙ key_there ks i k less is) (sym (any_named name old) ∙ e) h
