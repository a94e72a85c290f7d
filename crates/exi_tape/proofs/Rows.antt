-- Values that are read one after another.
use Rattle.std.proofs.Common.{◌≡◌, ℕ, suc, ◌+◌, ◌-◌, ◌<◌, ◌≤◌, List, [], ◌∷◌, ◌++◌, Option, Some, None, ap, ◌∙◌, sym, refl, arith, append_assoc}
use Rattle.std.proofs.lemmas.List.{append-nil}
use Rattle.exi_names.specs.Seen.{Value, values_of}
use Rattle.exi_tape.specs.declared.walk.Unread.{Unread}
use Rattle.exi_tape.specs.declared.walk.Unread.TheVariants as unread
use Rattle.exi_tape.specs.Walks.{IsUnread}
use Rattle.exi_tape.specs.Reading.{◌>>=◌, number_at, times, list_at, values_at, value_at}

module _ {A : Type 0} where
  -- what is read, after some that were
  abbrev pub with_front : List A → Option (List A × List ℕ) → Option (List A × List ℕ)
  with_front xs None = None
  with_front xs (Some r) = Some (xs ++ r.0, r.1)

  row_starts : (r : Option (List A × List ℕ)) → with_front [] r ≡ r
  row_starts None = refl
  row_starts (Some r) = refl

  row_joins : (xs : List A) (v : A) (r : Option (List A × List ℕ)) → with_front xs (r >>= λ more. Some (v ∷ more.0, more.1)) ≡ with_front (xs ++ v ∷ []) r
  row_joins xs v None = refl
  row_joins xs v (Some r) = ap (λ l. Some (l, r.1)) (sym (append_assoc xs (v ∷ []) r.0))

  -- after i of n, those before were xs and these bytes are left
  pub record InRow (item : List ℕ → Option (A × List ℕ)) (n i : ℕ) (start : List ℕ) (xs : List A) (rest : List ℕ) : Type 0 where
    pub so_far : with_front xs (times item (n - i) rest) ≡ times item n start
    pub within : i ≤ n

  pub in_row_starts : (item : List ℕ → Option (A × List ℕ)) (n : ℕ) (start : List ℕ) (xs : List A) → xs ≡ [] → InRow item n 0 start xs start
  in_row_starts item n start xs none =
      let e : n - 0 ≡ n = omega arith in
      record { so_far = ap (λ l. with_front l (times item (n - 0) start)) none ∙ row_starts (times item (n - 0) start) ∙ ap (λ k. times item k start) e; within = omega arith }

  more_times : (item : List ℕ → Option (A × List ℕ)) (m : ℕ) (bs mid : List ℕ) (v : A) (xs : List A) → item bs ≡ Some (v, mid) → with_front xs (times item (suc m) bs) ≡ with_front (xs ++ v ∷ []) (times item m mid)
  unfolding times
  more_times item m bs mid v xs e = ap (λ r. with_front xs (r >>= λ first. times item m first.1 >>= λ more. Some (first.0 ∷ more.0, more.1))) e ∙ row_joins xs v (times item m mid)

  no_times_more : (item : List ℕ → Option (A × List ℕ)) (m : ℕ) (bs : List ℕ) (xs : List A) → item bs ≡ None → with_front xs (times item (suc m) bs) ≡ None
  unfolding times
  no_times_more item m bs xs e = ap (λ r. with_front xs (r >>= λ first. times item m first.1 >>= λ more. Some (first.0 ∷ more.0, more.1))) e

  end_times : (item : List ℕ → Option (A × List ℕ)) (bs : List ℕ) (xs : List A) → with_front xs (times item 0 bs) ≡ Some (xs, bs)
  unfolding times
  end_times item bs xs = ap (λ l. Some (l, bs)) (append-nil xs)

  pub in_row_goes : (item : List ℕ → Option (A × List ℕ)) (n i : ℕ) (start rest mid : List ℕ) (xs ys : List A) (v : A) → InRow item n i start xs rest → i < n → item rest ≡ Some (v, mid) → ys ≡ xs ++ v ∷ [] → InRow item n (i + 1) start ys mid
  in_row_goes item n i start rest mid xs ys v row lt e grown =
      let one : n - i ≡ suc (n - (i + 1)) = omega arith in record {
        so_far = ap (λ l. with_front l (times item (n - (i + 1)) mid)) grown ∙ sym (more_times item (n - (i + 1)) rest mid v xs e) ∙ ap (λ k. with_front xs (times item k rest)) (sym one) ∙ row.so_far;
        within = omega arith;
      }

  pub in_row_fails : (item : List ℕ → Option (A × List ℕ)) (n i : ℕ) (start rest : List ℕ) (xs : List A) → InRow item n i start xs rest → i < n → item rest ≡ None → times item n start ≡ None
  in_row_fails item n i start rest xs row lt e =
      let one : n - i ≡ suc (n - (i + 1)) = omega arith in
      sym row.so_far ∙ ap (λ k. with_front xs (times item k rest)) one ∙ no_times_more item (n - (i + 1)) rest xs e

  pub in_row_ends : (item : List ℕ → Option (A × List ℕ)) (n i : ℕ) (start rest : List ℕ) (xs : List A) → InRow item n i start xs rest → n ≤ i → times item n start ≡ Some (xs, rest)
  in_row_ends item n i start rest xs row le =
      let none : n - i ≡ 0 = omega arith in
      sym row.so_far ∙ ap (λ k. with_front xs (times item k rest)) none ∙ end_times item rest xs

-- ---- the values of a list
deeper : (d : ℕ) (bs : List ℕ) → values_at (suc d) bs ≡ (number_at bs >>= λ count. times (value_at d) count.0 count.1 >>= λ all. Some (values_of all.0, all.1))
unfolding values_at list_at value_at
deeper d bs = refl

pub list_is : (depth count : ℕ) (bs mid : List ℕ) (r : Option (List Value × List ℕ)) → 0 < depth → number_at bs ≡ Some (count, mid) → times (value_at (depth - 1)) count mid ≡ r
    → values_at depth bs ≡ (r >>= λ all. Some (values_of all.0, all.1))
list_is depth count bs mid r some e f =
    let one : depth ≡ suc (depth - 1) = omega arith in
    ap (λ k. values_at k bs) one ∙ deeper (depth - 1) bs ∙ ap (λ q. q >>= λ n. times (value_at (depth - 1)) n.0 n.1 >>= λ all. Some (values_of all.0, all.1)) e
    ∙ ap (λ q. q >>= λ all. Some (values_of all.0, all.1)) f

no_depth : (depth : ℕ) (bs : List ℕ) → depth ≡ 0 → values_at depth bs ≡ None
unfolding values_at
no_depth depth bs e = ap (λ k. values_at k bs) e

pub shallow : (depth : ℕ) (bs : List ℕ) → depth ≡ 0 → values_at depth bs ≡ None
shallow = no_depth

pub no_count : (depth : ℕ) (bs : List ℕ) → 0 < depth → number_at bs ≡ None → values_at depth bs ≡ None
no_count depth bs some e =
    let one : depth ≡ suc (depth - 1) = omega arith in
    ap (λ k. values_at k bs) one ∙ deeper (depth - 1) bs ∙ ap (λ q. q >>= λ n. times (value_at (depth - 1)) n.0 n.1 >>= λ all. Some (values_of all.0, all.1)) e

-- where the one is not read, the other is not
pub unread_on : {A B : Type 0} (e : Unread) (r : Option A) (q : Option B) → IsUnread e r → (r ≡ None → q ≡ None) → IsUnread e q
unread_on unread.Memory r q h f = tt
unread_on unread.Broken r q h f = f h
