-- A loop that reads the items of a list.
use Rattle.std.proofs.Common.{◌≡◌, ℕ, zero, suc, ◌+◌, ◌-◌, ◌^◌, ◌<◌, ◌≤◌, List, [], ◌∷◌, ◌++◌, Result, Ok, Err, refl, sym, ap, ◌∙◌, subst, inl, inr, arith, get_or, length}
use Rattle.std.specs.Prelude.{slice_get}
use Rattle.std.proofs.lemmas.Option.{slice_get-get_or, slice_get_within}
use Rattle.exi_bits.specs.declared.align.Align.{Align}
use Rattle.exi_bits.specs.declared.fault.Fault.{Fault}
use Rattle.exi_bits.specs.declared.fault.Stop.{Stop}
use Rattle.exi_bits.specs.declared.fault.Stop.TheVariants as stop
use Rattle.exi_bits.specs.Unsigned.{◌>>=◌}
use Rattle.exi_meter.specs.Metering.{IsWithin, Metering}
use Rattle.exi_names.specs.Datatypes.{Representation}
use Rattle.exi_names.specs.Datatypes as datatype
use Rattle.exi_names.specs.Seen.{Value, values_of}
use Rattle.exi_names.specs.Seen as value
use Rattle.exi_names.specs.declared.names.NameId.{NameId}
use Rattle.exi_names.specs.declared.val.Val.{Val}
use Rattle.exi_tables.specs.Growth.{KeepsAll, KeepsPlaces, NoneLonger}
use Rattle.exi_tables.specs.Partitions.{IsName, Partitions, locals, uris}
use Rattle.exi_typed.specs.ReadStates.{ContextReader, Failure, GoesOrStops, ReadState}
use Rattle.exi_typed.proofs.ContextItems.{bind_told, told, told_is}
use Rattle.exi_values.specs.Growths.{used}
use Rattle.exi_values.specs.Readings.{charged_count_at, each_at, list_at}
use Rattle.exi_values.specs.Stops.{HasRoom, IsRoomy, LeavesAfter}
use Rattle.exi_values.specs.Valued.{valued_at}
use Rattle.exi_values.proofs.Goings.{values_go_on}
use Rattle.exi_values.proofs.Growths.{count_pays, few_more, values_grow}

-- ---- one item more
module _ {X : Type 0} (item : ContextReader X) where
  each_next : (i : ℕ) (xs : List X) (begun at end : ReadState) (x : X) → each_at item i begun ≡ told (xs, at) → item at ≡ told (x, end) → each_at item (suc i) begun ≡ told (xs ++ x ∷ [], end)
  unfolding each_at
  each_next zero xs begun at end x r h =
      let e : ([], begun) ≡ (xs, at) = told_is ([], begun) (xs, at) r in
      let one : item begun ≡ told (x, end) = ap (λ (z : List X × ReadState). item z.1) e ∙ h in
      rw one (ap (λ (z : List X × ReadState). told {X = List X × ReadState} (z.0 ++ x ∷ [], end)) e)
  each_next (suc n) xs begun at end x r h =
      let u = bind_told (item begun) (λ (y : X × ReadState). each_at item n y.1 >>= λ ys. told {X = List X × ReadState} (y.0 ∷ ys.0, ys.1)) (xs, at) r in
      let v = bind_told (each_at item n u.0.1) (λ (ys : List X × ReadState). told {X = List X × ReadState} (u.0.0 ∷ ys.0, ys.1)) (xs, at) u.2 in
      let e : (u.0.0 ∷ v.0.0, v.0.1) ≡ (xs, at) = told_is (u.0.0 ∷ v.0.0, v.0.1) (xs, at) v.2 in
      let one : item v.0.1 ≡ told (x, end) = ap (λ (z : List X × ReadState). item z.1) e ∙ h in
      let more : each_at item (suc n) u.0.1 ≡ told (v.0.0 ++ x ∷ [], end) = each_next n v.0.0 u.0.1 v.0.1 end x v.1 one in
      ap (λ (z : Result (X × ReadState) Failure). z >>= λ y. each_at item (suc n) y.1 >>= λ ys. told {X = List X × ReadState} (y.0 ∷ ys.0, ys.1)) u.1
      ∙ ap (λ (z : Result (List X × ReadState) Failure). z >>= λ ys. told {X = List X × ReadState} (u.0.0 ∷ ys.0, ys.1)) more
      ∙ ap (λ (z : List X × ReadState). told {X = List X × ReadState} (z.0 ++ x ∷ [], end)) e

  -- or the next fails
  each_fails : (i n : ℕ) (xs : List X) (begun at : ReadState) (f : Failure) → i < n → each_at item i begun ≡ told (xs, at) → item at ≡ Err f → each_at item n begun ≡ Err f
  unfolding each_at
  each_fails zero zero xs begun at f lt r h = absurd (omega (arith, lt))
  each_fails zero (suc n) xs begun at f lt r h =
      let e : ([], begun) ≡ (xs, at) = told_is ([], begun) (xs, at) r in
      let one : item begun ≡ Err f = ap (λ (z : List X × ReadState). item z.1) e ∙ h in
      ap (λ (z : Result (X × ReadState) Failure). z >>= λ y. each_at item n y.1 >>= λ ys. told {X = List X × ReadState} (y.0 ∷ ys.0, ys.1)) one
  each_fails (suc i) zero xs begun at f lt r h = absurd (omega (arith, lt))
  each_fails (suc i) (suc n) xs begun at f lt r h =
      let u = bind_told (item begun) (λ (y : X × ReadState). each_at item i y.1 >>= λ ys. told {X = List X × ReadState} (y.0 ∷ ys.0, ys.1)) (xs, at) r in
      let v = bind_told (each_at item i u.0.1) (λ (ys : List X × ReadState). told {X = List X × ReadState} (u.0.0 ∷ ys.0, ys.1)) (xs, at) u.2 in
      let e : (u.0.0 ∷ v.0.0, v.0.1) ≡ (xs, at) = told_is (u.0.0 ∷ v.0.0, v.0.1) (xs, at) v.2 in
      let one : item v.0.1 ≡ Err f = ap (λ (z : List X × ReadState). item z.1) e ∙ h in
      let more : each_at item n u.0.1 ≡ Err f = each_fails i n v.0.0 u.0.1 v.0.1 f (omega (arith, lt)) v.1 one in
      ap (λ (z : Result (X × ReadState) Failure). z >>= λ y. each_at item n y.1 >>= λ ys. told {X = List X × ReadState} (y.0 ∷ ys.0, ys.1)) u.1
      ∙ ap (λ (z : Result (List X × ReadState) Failure). z >>= λ ys. told {X = List X × ReadState} (u.0.0 ∷ ys.0, ys.1)) more

-- ---- a name whose places are kept
place_kept : (old new : List (List ℕ)) (place : ℕ) → KeepsPlaces old new → place < length old → place < length new
place_kept old new place k less = slice_get_within new place (get_or old place []) (k place (get_or old place []) (slice_get-get_or old place [] less))

pub name_kept : (p q : Partitions) (name : NameId) → KeepsAll p q → IsName p name → IsName q name
name_kept p q name k h = record {
  within_uris = place_kept (uris p) (uris q) name.uri k.each_uri h.within_uris;
  within_locals = place_kept (locals p name.uri) (locals q name.uri) name.local (k.each_local name.uri) h.within_locals;
}

-- the room that any datatype asks
pub room_for : (r : Representation) (m : Metering) (p : Partitions) → IsRoomy m p → HasRoom r m p
room_for (datatype.list r) m p h = h
room_for (datatype.small least n) m p h = tt
room_for datatype.unsigned m p h = tt
room_for datatype.integer m p h = tt
room_for (datatype.boolean pattern) m p h = tt
room_for (datatype.binary hex) m p h = tt
room_for datatype.decimal m p h = tt
room_for datatype.float m p h = tt
room_for (datatype.moment k) m p h = tt
room_for (datatype.choice base values) m p h = tt
room_for datatype.text m p h = tt
room_for (datatype.chars set) m p h = tt
room_for (datatype.name keep) m p h = tt

-- ---- where the loop stands: so many of the items were read, and there is room for the others
pub record InList (item : Representation) (a : Align) (name : NameId) (begun : ReadState) (count i : ℕ) (xs : List Value) (at : ReadState) : Type 0 where
  pub read : each_at (valued_at item a name) i begun ≡ Ok (xs, at)
  pub within : i ≤ count
  pub room : ℕ
  pub tight : room + (count - i) ≤ 2 ^ 31 - 2 ^ 28 + used at
  pub few : NoneLonger room at.context.tables
  pub most : at.context.meter.limits.text ≤ 2 ^ 28
  pub kept : used at ≤ at.context.meter.limits.text
  pub name_is : IsName at.context.tables name

module _ (item : Representation) (a : Align) (name : NameId) (begun : ReadState) (count : ℕ) where
  pub in_list_starts : (c : ReadState) (xs : List Value) → xs ≡ [] → charged_count_at c ≡ Ok (count, begun) → IsRoomy c.context.meter c.context.tables → IsWithin begun.context.meter → IsName c.context.tables name → InList item a name begun count 0 xs begun
  unfolding each_at
  in_list_starts c xs none counted roomy w named =
      let p = count_pays count c begun counted in
      let most : begun.context.meter.limits.text ≤ 2 ^ 28 = w.limits.text in
      record {
        read = ap (λ (ys : List Value). told {X = List Value × ReadState} (ys, begun)) (sym none);
        within = omega arith;
        room = 2 ^ 31 - 2 ^ 28 + used c;
        tight = omega (arith, p.0);
        few = subst (λ (q : Partitions). NoneLonger (2 ^ 31 - 2 ^ 28 + used c) q) (sym p.1) roomy;
        most = most;
        kept = w.text;
        name_is = subst (λ (q : Partitions). IsName q name) (sym p.1) named;
      }

  pub in_list_goes : (i : ℕ) (xs ys : List Value) (at end : ReadState) (v : Value) → InList item a name begun count i xs at → i < count → valued_at item a name at ≡ Ok (v, end) → ys ≡ xs ++ v ∷ [] → InList item a name begun count (i + 1) ys end
  in_list_goes i xs ys at end v h lt r parts =
      let k = values_go_on item a name v at end r in
      let g = values_grow item a name v at end r in
      let room : ℕ = h.room + 1 + (used end - used at) in
      let next : suc i ≡ i + 1 = omega arith in
      let limits : end.context.meter.limits.text ≡ at.context.meter.limits.text = ap (λ (m : Metering). m.limits.text) k.meter in
      record {
        read = subst (λ (n : ℕ). each_at (valued_at item a name) n begun ≡ told (ys, end)) next (each_next (valued_at item a name) i xs begun at end v h.read r ∙ ap (λ (zs : List Value). told {X = List Value × ReadState} (zs, end)) (sym parts));
        within = omega (arith, lt);
        room = room;
        tight = omega (arith, h.tight, g.charged, lt);
        few = g.few h.room room (omega (arith, g.charged)) h.few;
        most = omega (arith, limits, h.most);
        kept = k.within h.kept;
        name_is = name_kept at.context.tables end.context.tables name k.keeps h.name_is;
      }

  pub item_few : (i : ℕ) (xs : List Value) (at : ReadState) → InList item a name begun count i xs at → NoneLonger (2 ^ 31) at.context.tables
  item_few i xs at h = few_more h.room (2 ^ 31) at.context.tables (omega (arith, h.tight, h.most, h.kept)) h.few

  pub item_room : (i : ℕ) (xs : List Value) (at : ReadState) → InList item a name begun count i xs at → HasRoom item at.context.meter at.context.tables
  item_room i xs at h = room_for item at.context.meter at.context.tables (few_more h.room (2 ^ 31 - 2 ^ 28 + used at) at.context.tables (omega (arith, h.tight)) h.few)

  -- ---- the end
  abbrev whole : List Value × ReadState → Result (Value × ReadState) Failure
  whole xs = told (value.items (values_of xs.0), xs.1)

  pub list_ends : (i : ℕ) (xs : List Value) (c at : ReadState) (v : Value) → charged_count_at c ≡ Ok (count, begun) → InList item a name begun count i xs at → count ≤ i → v ≡ value.items (values_of xs) → list_at (valued_at item a name) c ≡ Ok (v, at)
  unfolding list_at
  list_ends i xs c at v counted h le is =
      let same : i ≡ count = omega (arith, h.within, le) in
      let all : each_at (valued_at item a name) count begun ≡ told (xs, at) = subst (λ (n : ℕ). each_at (valued_at item a name) n begun ≡ told (xs, at)) same h.read in
      ap (λ (z : Result (ℕ × ReadState) Failure). z >>= λ n. each_at (valued_at item a name) n.0 n.1 >>= whole) counted
      ∙ ap (λ (z : Result (List Value × ReadState) Failure). z >>= whole) all
      ∙ ap (λ (z : Value). told {X = Value × ReadState} (z, at)) (sym is)

  list_fails : (i : ℕ) (xs : List Value) (c at : ReadState) (f : Failure) → charged_count_at c ≡ Ok (count, begun) → InList item a name begun count i xs at → i < count → valued_at item a name at ≡ Err f → list_at (valued_at item a name) c ≡ Err f
  unfolding list_at
  list_fails i xs c at f counted h lt r =
      let all : each_at (valued_at item a name) count begun ≡ Err f = each_fails (valued_at item a name) i count xs begun at f lt h.read r in
      ap (λ (z : Result (ℕ × ReadState) Failure). z >>= λ k. each_at (valued_at item a name) k.0 k.1 >>= whole) counted
      ∙ ap (λ (z : Result (List Value × ReadState) Failure). z >>= whole) all

  pub list_stops : (view other : Val → Value × ReadState) (m : Metering) (s : Stop) (i : ℕ) (xs : List Value) (c at : ReadState) → charged_count_at c ≡ Ok (count, begun) → InList item a name begun count i xs at → i < count
      → GoesOrStops {X = Val} {Y = Value} view m (Err s) (valued_at item a name at) → GoesOrStops {X = Val} {Y = Value} other m (Err s) (list_at (valued_at item a name) c)
  list_stops view other m stop.Memory i xs c at counted h lt r = tt
  list_stops view other m (stop.Fault f) i xs c at counted h lt r = list_fails i xs c at (record { fault = f; meter = m }) counted h lt r

  -- ---- what a stop leaves
  stays : (r : Representation) (at : ReadState) → LeavesAfter r a name (Err stop.Memory) at at.context.tables
  stays (datatype.list r) at = inl refl
  stays (datatype.small least n) at = inl refl
  stays datatype.unsigned at = inl refl
  stays datatype.integer at = inl refl
  stays (datatype.boolean pattern) at = inl refl
  stays (datatype.binary hex) at = inl refl
  stays datatype.decimal at = inl refl
  stays datatype.float at = inl refl
  stays (datatype.moment k) at = inl refl
  stays (datatype.choice base values) at = inl refl
  stays datatype.text at = inl refl
  stays (datatype.chars set) at = inl refl
  stays (datatype.name keep) at = inl refl

  pub item_leaves : (s : Stop) (i : ℕ) (xs : List Value) (c at : ReadState) (new : Partitions) → charged_count_at c ≡ Ok (count, begun) → InList item a name begun count i xs at → LeavesAfter item a name (Err s) at new → LeavesAfter (datatype.list item) a name (Err s) c new
  item_leaves s i xs c at new counted h left = inr (record { count = count; begun = begun; counted = counted; done = i; within = h.within; before = xs; at = at; read = h.read; left = left })

  -- memory ran out behind an item
  pub all_leaves : (i : ℕ) (xs : List Value) (c at end : ReadState) (v : Value) → charged_count_at c ≡ Ok (count, begun) → InList item a name begun count i xs at → i < count → valued_at item a name at ≡ Ok (v, end) → LeavesAfter (datatype.list item) a name (Err stop.Memory) c end.context.tables
  all_leaves i xs c at end v counted h lt r =
      item_leaves stop.Memory (i + 1) (xs ++ v ∷ []) c end end.context.tables counted (in_list_goes i xs (xs ++ v ∷ []) at end v h lt r refl) (stays item end)
