-- A walk over groups tells what is said: what it has left and what it was told make up the whole at each turn.
use Rattle.std.proofs.Common.{◌≡◌, ℕ, zero, suc, ◌+◌, ◌<◌, ◌≤◌, ◌||◌, Bool, true, false, cond, Some, None, inl, inr, List, [], ◌∷◌, ◌++◌, drop, length, map, slice_get, take, refl, sym, ap, subst, ◌∙◌, arith}
use Rattle.std.specs.Prelude.{◌==◌}
use Rattle.std.specs.List.{flat_map, list_any}
use Rattle.std.proofs.lemmas.Bool.{and_from, eqb-true, false≢true, or_cases}
use Rattle.std.proofs.lemmas.Grind.{flat_map-append}
use Rattle.std.proofs.lemmas.List.{append-nil, drop_all, map-append, take_all}
use Rattle.std.proofs.lemmas.List.Folds.{list_all-append}
use Rattle.std.proofs.lemmas.Option.{none-some}
use Rattle.xsd_model.specs.declared.parts.AttributeUse.{AttributeUse}
use Rattle.xsd_model.specs.declared.parts.AttributeUse.TheVariants as usage
use Rattle.xsd_model.specs.Parts.{Parts}
use Rattle.exi_inherited.specs.Told.{group_named, leaf, told_with_all}
use Rattle.exi_inherited.specs.Uses.{Said, group_uses, said_of, says}
use Rattle.exi_inherited.specs.Walks.{AreOpen, AreWalked, at_end, done_in, ending, entered, knows, left_in, total, turns, turns_in, weight}
use Rattle.exi_inherited.specs.declared.groups.Frame.{Frame}
use Rattle.exi_inherited.proofs.Levels.{Ends, group_said, group_weight}
use Rattle.exi_inherited.proofs.Telling.{knows_grows, knows_told, told_again, told_append}

-- ---- lists
total_append : (xs ys : List ℕ) → total (xs ++ ys) ≡ total xs + total ys
total_append [] ys = omega arith
total_append (x ∷ xs) ys = let h : total (xs ++ ys) ≡ total xs + total ys = total_append xs ys in omega (arith, h)

some_is : {X : Type 0} (x y : X) → Some x ≡ Some y → x ≡ y
some_is x y e = cc

take_next : {X : Type 0} (xs : List X) (k : ℕ) (x : X) → slice_get xs k ≡ Some x → take (suc k) xs ≡ take k xs ++ x ∷ []
take_next [] k x e = absurd (none-some x e)
take_next (y ∷ ys) zero x e = ap (λ z. z ∷ []) (some_is y x e)
take_next (y ∷ ys) (suc k) x e = ap (λ zs. y ∷ zs) (take_next ys k x e)

drop_next : {X : Type 0} (xs : List X) (k : ℕ) (x : X) → slice_get xs k ≡ Some x → drop k xs ≡ x ∷ drop (suc k) xs
drop_next [] k x e = absurd (none-some x e)
drop_next (y ∷ ys) zero x e = ap (λ z. z ∷ ys) (some_is y x e)
drop_next (y ∷ ys) (suc k) x e = drop_next ys k x e

take_none : {X : Type 0} (xs : List X) (k : ℕ) → slice_get xs k ≡ None → take (suc k) xs ≡ take k xs
take_none [] zero e = refl
take_none [] (suc k) e = refl
take_none (y ∷ ys) zero e = absurd (none-some y (sym e))
take_none (y ∷ ys) (suc k) e = ap (λ zs. y ∷ zs) (take_none ys k e)

drop_none : {X : Type 0} (xs : List X) (k : ℕ) → slice_get xs k ≡ None → drop k xs ≡ drop (suc k) xs
drop_none [] zero e = refl
drop_none [] (suc k) e = refl
drop_none (y ∷ ys) zero e = absurd (none-some y (sym e))
drop_none (y ∷ ys) (suc k) e = drop_none ys k e

-- ---- frames one behind another
pub ending_append : (p : Parts) (fs gs : List Frame) (told : List Said) → ending p (fs ++ gs) told ≡ ending p fs (ending p gs told)
ending_append p fs gs told = ap (λ ss. told_with_all ss told) (flat_map-append (left_in p) fs gs) ∙ told_append (flat_map (left_in p) fs) (flat_map (left_in p) gs) told

ending_one : (p : Parts) (f : Frame) (told : List Said) → ending p (f ∷ []) told ≡ told_with_all (left_in p f) told
ending_one p f told = ap (λ ss. told_with_all ss told) (append-nil (left_in p f))

pub turns_append : (p : Parts) (fs gs : List Frame) → turns p (fs ++ gs) ≡ turns p fs + turns p gs
turns_append p fs gs = ap total (map-append (turns_in p) fs gs) ∙ total_append (map (turns_in p) fs) (map (turns_in p) gs)

pub open_parts : (p : Parts) (fs gs : List Frame) (told : List Said) → AreOpen p (fs ++ gs) told → AreOpen p fs (ending p gs told) × AreOpen p gs told
open_parts p [] gs told h = (tt, h)
open_parts p (f ∷ fs) gs told h =
    let rest = open_parts p fs gs told h.1 in ((ap (λ t. knows t (done_in p f)) (sym (ending_append p fs gs told)) ∙ h.0, rest.0), rest.1)

pub open_from : (p : Parts) (fs gs : List Frame) (told : List Said) → AreOpen p fs (ending p gs told) → AreOpen p gs told → AreOpen p (fs ++ gs) told
open_from p [] gs told h k = k
open_from p (f ∷ fs) gs told h k = (ap (λ t. knows t (done_in p f)) (ending_append p fs gs told) ∙ h.0, open_from p fs gs told h.1 k)

-- ---- groups that were walked
pub walked_none : (p : Parts) (told : List Said) → AreWalked p [] told
walked_none p told = λ group e. absurd (false≢true e)

pub walked_grows : (p : Parts) (walked : List ℕ) (told more : List Said) → AreWalked p walked told → AreWalked p walked (told_with_all more told)
walked_grows p walked told more h = λ group e. knows_grows told more (said_of p (usage.Group group)) (h group e)

any_push : (test : ℕ → Bool) (xs : List ℕ) (x : ℕ) → list_any test (xs ++ x ∷ []) ≡ (list_any test xs || test x)
any_push test [] x = or_no (test x)
  where
    or_no : (b : Bool) → (b || false) ≡ b
    or_no true = refl
    or_no false = refl
any_push test (y ∷ ys) x = go (test y) (any_push test ys x)
  where
    go : (b : Bool) → list_any test (ys ++ x ∷ []) ≡ (list_any test ys || test x) → (b || list_any test (ys ++ x ∷ [])) ≡ ((b || list_any test ys) || test x)
    go true e = refl
    go false e = e

walked_push : (p : Parts) (walked : List ℕ) (told : List Said) (group : ℕ) → AreWalked p walked told → knows told (said_of p (usage.Group group)) ≡ true → AreWalked p (walked ++ group ∷ []) told
walked_push p walked told group h k = λ g e. elim (or_cases (list_any (λ x. g == x) walked) (g == group) (sym (any_push (λ x. g == x) walked group) ∙ e)) [
  | inl before ↦ h g before
  | inr now ↦ ap (λ (x : ℕ). knows told (said_of p (usage.Group x))) (eqb-true g group now) ∙ k
]

walked_if : (b : Bool) (p : Parts) (walked : List ℕ) (told : List Said) (group : ℕ) → AreWalked p walked told → knows told (said_of p (usage.Group group)) ≡ true → AreWalked p (cond b walked (walked ++ group ∷ [])) told
walked_if true p walked told group h k = h
walked_if false p walked told group h k = walked_push p walked told group h k

-- ---- out of a group
pub record Out (p : Parts) (ks : List ℕ) (fs : List Frame) (f : Frame) (told : List Said) : Type 0 where
  pub walked : AreWalked p (cond (list_any (λ g. f.group == g) ks) ks (ks ++ f.group ∷ [])) told
  pub frames : AreOpen p fs told
  pub end : ending p fs told ≡ ending p (fs ++ f ∷ []) told
  pub fewer : turns p fs < turns p (fs ++ f ∷ [])

nothing_left : (p : Parts) (f : Frame) → f.left ≡ 0 → left_in p f ≡ []
nothing_left p f e = ap (λ (n : ℕ). flat_map (said_of p) (take n (group_uses p f.group))) e

all_done : (p : Parts) (f : Frame) → f.left ≡ 0 → done_in p f ≡ flat_map (said_of p) (group_uses p f.group)
all_done p f e = ap (λ (n : ℕ). flat_map (said_of p) (drop n (group_uses p f.group))) e

pub out : (p : Parts) (walked : List ℕ) (fs : List Frame) (f : Frame) (told : List Said) → Ends p → f.left ≡ 0 → AreWalked p walked told → AreOpen p (fs ++ f ∷ []) told → Out p walked fs f told
out p walked fs f told ends none w h =
    let parts = open_parts p fs (f ∷ []) told h in
    let over : ending p (f ∷ []) told ≡ told = ending_one p f told ∙ ap (λ ss. told_with_all ss told) (nothing_left p f none) in
    let known : knows told (said_of p (usage.Group f.group)) ≡ true = ap (knows told) (group_said p ends f.group ∙ sym (all_done p f none)) ∙ parts.1.0 in
    let more : turns p (fs ++ f ∷ []) ≡ turns p fs + turns p (f ∷ []) = turns_append p fs (f ∷ []) in
    record {
      walked = walked_if (list_any (λ g. f.group == g) walked) p walked told f.group w known;
      frames = subst (AreOpen p fs) over parts.0;
      end = ap (ending p fs) (sym over) ∙ sym (ending_append p fs (f ∷ []) told);
      fewer = let one : turns p (f ∷ []) ≡ turns_in p f + 0 = refl in let some : 1 ≤ turns_in p f = omega arith in omega (arith, more, one, some);
    }

-- ---- before a use
abbrev pub before : Frame → ℕ → Frame
before f left = record { group = f.group; left = left }

left_before : (p : Parts) (f : Frame) (k : ℕ) (u : AttributeUse) → f.left ≡ suc k → slice_get (group_uses p f.group) k ≡ Some u → left_in p f ≡ left_in p (before f k) ++ said_of p u
left_before p f k u n e =
    ap (λ (m : ℕ). flat_map (said_of p) (take m (group_uses p f.group))) n
    ∙ ap (flat_map (said_of p)) (take_next (group_uses p f.group) k u e)
    ∙ flat_map-append (said_of p) (take k (group_uses p f.group)) (u ∷ [])
    ∙ ap (λ ss. left_in p (before f k) ++ ss) (append-nil (said_of p u))

done_before : (p : Parts) (f : Frame) (k : ℕ) (u : AttributeUse) → f.left ≡ suc k → slice_get (group_uses p f.group) k ≡ Some u → done_in p (before f k) ≡ said_of p u ++ done_in p f
done_before p f k u n e =
    ap (flat_map (said_of p)) (drop_next (group_uses p f.group) k u e) ∙ ap (λ (m : ℕ). said_of p u ++ flat_map (said_of p) (drop m (group_uses p f.group))) (sym n)

ending_before : (p : Parts) (f : Frame) (k : ℕ) (u : AttributeUse) (told : List Said) → f.left ≡ suc k → slice_get (group_uses p f.group) k ≡ Some u → ending p (f ∷ []) told ≡ ending p (before f k ∷ []) (told_with_all (said_of p u) told)
ending_before p f k u told n e =
    ending_one p f told
    ∙ ap (λ ss. told_with_all ss told) (left_before p f k u n e)
    ∙ told_append (left_in p (before f k)) (said_of p u) told
    ∙ sym (ending_one p (before f k) (told_with_all (said_of p u) told))

pub moved_end : (p : Parts) (fs : List Frame) (f : Frame) (k : ℕ) (u : AttributeUse) (told : List Said) → f.left ≡ suc k → slice_get (group_uses p f.group) k ≡ Some u → ending p (fs ++ before f k ∷ []) (told_with_all (said_of p u) told) ≡ ending p (fs ++ f ∷ []) told
moved_end p fs f k u told n e =
    ending_append p fs (before f k ∷ []) (told_with_all (said_of p u) told)
    ∙ ap (ending p fs) (sym (ending_before p f k u told n e))
    ∙ sym (ending_append p fs (f ∷ []) told)

knows_append : (told xs ys : List Said) → knows told xs ≡ true → knows told ys ≡ true → knows told (xs ++ ys) ≡ true
knows_append told xs ys a b = list_all-append (λ s. says s.name told) xs ys ∙ and_from (knows told xs) (knows told ys) a b

pub moved_open : (p : Parts) (fs : List Frame) (f : Frame) (k : ℕ) (u : AttributeUse) (told : List Said) → f.left ≡ suc k → slice_get (group_uses p f.group) k ≡ Some u → AreOpen p (fs ++ f ∷ []) told → AreOpen p (fs ++ before f k ∷ []) (told_with_all (said_of p u) told)
moved_open p fs f k u told n e h =
    let parts = open_parts p fs (f ∷ []) told h in
    let more = told_with_all (said_of p u) told in
    open_from p fs (before f k ∷ []) more (subst (AreOpen p fs) (ending_before p f k u told n e) parts.0) (ap (knows more) (done_before p f k u n e) ∙ knows_append more (said_of p u) (done_in p f) (knows_told told (said_of p u)) (knows_grows told (said_of p u) (done_in p f) parts.1.0), tt)

weights_before : (p : Parts) (f : Frame) (k : ℕ) (u : AttributeUse) → f.left ≡ suc k → slice_get (group_uses p f.group) k ≡ Some u → turns_in p f ≡ suc (turns_in p (before f k) + weight p u)
weights_before p f k u n e =
    let all = group_uses p f.group in
    let front : total (map (weight p) (take f.left all)) ≡ total (map (weight p) (take k all)) + (weight p u + 0) = ap (λ (m : ℕ). total (map (weight p) (take m all))) n ∙ ap (λ us. total (map (weight p) us)) (take_next all k u e) ∙ ap total (map-append (weight p) (take k all) (u ∷ [])) ∙ total_append (map (weight p) (take k all)) (weight p u ∷ []) in
    omega (arith, front, n)

pub moved_turns : (p : Parts) (fs : List Frame) (f : Frame) (k : ℕ) (u : AttributeUse) (new : ℕ) → f.left ≡ suc k → slice_get (group_uses p f.group) k ≡ Some u → new ≤ turns p (fs ++ before f k ∷ []) + weight p u → new < turns p (fs ++ f ∷ [])
moved_turns p fs f k u new n e le =
    let w : turns_in p f ≡ suc (turns_in p (before f k) + weight p u) = weights_before p f k u n e in
    let a : turns p (fs ++ before f k ∷ []) ≡ turns p fs + (turns_in p (before f k) + 0) = turns_append p fs (before f k ∷ []) in
    let b : turns p (fs ++ f ∷ []) ≡ turns p fs + (turns_in p f + 0) = turns_append p fs (f ∷ []) in
    omega (arith, w, a, b, le)

-- ---- where there is no use
left_past : (p : Parts) (f : Frame) (k : ℕ) → f.left ≡ suc k → slice_get (group_uses p f.group) k ≡ None → left_in p f ≡ left_in p (before f k)
left_past p f k n e = ap (λ (m : ℕ). flat_map (said_of p) (take m (group_uses p f.group))) n ∙ ap (flat_map (said_of p)) (take_none (group_uses p f.group) k e)

done_past : (p : Parts) (f : Frame) (k : ℕ) → f.left ≡ suc k → slice_get (group_uses p f.group) k ≡ None → done_in p (before f k) ≡ done_in p f
done_past p f k n e = ap (flat_map (said_of p)) (drop_none (group_uses p f.group) k e) ∙ ap (λ (m : ℕ). flat_map (said_of p) (drop m (group_uses p f.group))) (sym n)

ending_past : (p : Parts) (f : Frame) (k : ℕ) (told : List Said) → f.left ≡ suc k → slice_get (group_uses p f.group) k ≡ None → ending p (f ∷ []) told ≡ ending p (before f k ∷ []) told
ending_past p f k told n e = ending_one p f told ∙ ap (λ ss. told_with_all ss told) (left_past p f k n e) ∙ sym (ending_one p (before f k) told)

pub past_end : (p : Parts) (fs : List Frame) (f : Frame) (k : ℕ) (told : List Said) → f.left ≡ suc k → slice_get (group_uses p f.group) k ≡ None → ending p (fs ++ before f k ∷ []) told ≡ ending p (fs ++ f ∷ []) told
past_end p fs f k told n e = ending_append p fs (before f k ∷ []) told ∙ ap (ending p fs) (sym (ending_past p f k told n e)) ∙ sym (ending_append p fs (f ∷ []) told)

pub past_open : (p : Parts) (fs : List Frame) (f : Frame) (k : ℕ) (told : List Said) → f.left ≡ suc k → slice_get (group_uses p f.group) k ≡ None → AreOpen p (fs ++ f ∷ []) told → AreOpen p (fs ++ before f k ∷ []) told
past_open p fs f k told n e h =
    let parts = open_parts p fs (f ∷ []) told h in
    open_from p fs (before f k ∷ []) told (subst (AreOpen p fs) (ending_past p f k told n e) parts.0) (ap (knows told) (done_past p f k n e) ∙ parts.1.0, tt)

pub past_turns : (p : Parts) (fs : List Frame) (f : Frame) (k : ℕ) → f.left ≡ suc k → slice_get (group_uses p f.group) k ≡ None → turns p (fs ++ before f k ∷ []) < turns p (fs ++ f ∷ [])
past_turns p fs f k n e =
    let all = group_uses p f.group in
    let front : total (map (weight p) (take f.left all)) ≡ total (map (weight p) (take k all)) = ap (λ (m : ℕ). total (map (weight p) (take m all))) n ∙ ap (λ us. total (map (weight p) us)) (take_none all k e) in
    let a : turns p (fs ++ before f k ∷ []) ≡ turns p fs + (turns_in p (before f k) + 0) = turns_append p fs (before f k ∷ []) in
    let b : turns p (fs ++ f ∷ []) ≡ turns p fs + (turns_in p f + 0) = turns_append p fs (f ∷ []) in
    omega (arith, front, a, b, n)

-- ---- a look at a use
pub record Looked (p : Parts) (u : AttributeUse) (ks : List ℕ) (told : List Said) (fs new : List Frame) (now : List Said) : Type 0 where
  pub walked : AreWalked p ks now
  pub frames : AreOpen p new now
  pub end : ending p new now ≡ ending p fs (told_with_all (said_of p u) told)
  pub fewer : turns p new ≤ turns p fs + weight p u

-- at one that names no group
leaf_said : (p : Parts) (u : AttributeUse) → group_named u ≡ None → leaf p u ≡ said_of p u
leaf_said p (usage.Use attribute required) e = refl
leaf_said p (usage.Prohibited name) e = refl
leaf_said p (usage.Group group) e = absurd (none-some group (sym e))

pub looked_at_leaf : (p : Parts) (u : AttributeUse) (walked : List ℕ) (told : List Said) (fs : List Frame) (now : List Said) → group_named u ≡ None → now ≡ told_with_all (leaf p u) told → AreWalked p walked told → AreOpen p fs (told_with_all (said_of p u) told) → Looked p u walked told fs fs now
looked_at_leaf p u walked told fs now none e w h =
    let same : told_with_all (said_of p u) told ≡ now = ap (λ ss. told_with_all ss told) (sym (leaf_said p u none)) ∙ sym e in
    record {
      walked = subst (AreWalked p walked) same (walked_grows p walked told (said_of p u) w);
      frames = subst (AreOpen p fs) same h;
      end = ap (ending p fs) (sym same);
      fewer = omega arith;
    }

-- at a group that is entered, or was walked
end_left : (p : Parts) → Ends p → (group : ℕ) → left_in p (at_end p group) ≡ said_of p (usage.Group group)
end_left p ends group = ap (flat_map (said_of p)) (take_all (length (group_uses p group)) (group_uses p group) (omega arith)) ∙ sym (group_said p ends group)

end_done : (p : Parts) (group : ℕ) → done_in p (at_end p group) ≡ []
end_done p group = ap (flat_map (said_of p)) (drop_all (length (group_uses p group)) (group_uses p group) (omega arith))

end_turns : (p : Parts) → Ends p → (group : ℕ) → turns_in p (at_end p group) ≡ weight p (usage.Group group)
end_turns p ends group =
    ap (λ us. suc (length (group_uses p group) + total (map (weight p) us))) (take_all (length (group_uses p group)) (group_uses p group) (omega arith)) ∙ sym (group_weight p ends group)

looked_if : (b : Bool) (p : Parts) (group : ℕ) (walked : List ℕ) (told : List Said) (fs : List Frame) → Ends p → list_any (λ g. group == g) walked ≡ b → AreWalked p walked told → AreOpen p fs (told_with_all (said_of p (usage.Group group)) told) → Looked p (usage.Group group) walked told fs (cond b fs (fs ++ at_end p group ∷ [])) told
looked_if true p group walked told fs ends e w h =
    let same : told_with_all (said_of p (usage.Group group)) told ≡ told = told_again (said_of p (usage.Group group)) told (w group e) in record {
      walked = w;
      frames = subst (AreOpen p fs) same h;
      end = ap (ending p fs) (sym same);
      fewer = omega arith;
    }
looked_if false p group walked told fs ends e w h =
    let f = at_end p group in
    let over : ending p (f ∷ []) told ≡ told_with_all (said_of p (usage.Group group)) told = ending_one p f told ∙ ap (λ ss. told_with_all ss told) (end_left p ends group) in
    let a : turns p (fs ++ f ∷ []) ≡ turns p fs + (turns_in p f + 0) = turns_append p fs (f ∷ []) in
    let b : turns_in p f ≡ weight p (usage.Group group) = end_turns p ends group in
    record {
      walked = w;
      frames = open_from p fs (f ∷ []) told (subst (AreOpen p fs) (sym over) h) (ap (knows told) (end_done p group), tt);
      end = ending_append p fs (f ∷ []) told ∙ ap (ending p fs) over;
      fewer = omega (arith, a, b);
    }

pub looked_at_group : (p : Parts) (u : AttributeUse) (group : ℕ) (walked : List ℕ) (told : List Said) (fs : List Frame) (now : List Said) → Ends p → group_named u ≡ Some group → now ≡ told_with_all (leaf p u) told → AreWalked p walked told → AreOpen p fs (told_with_all (said_of p u) told) → Looked p u walked told fs (entered p walked group fs) now
looked_at_group p (usage.Use attribute required) group walked told fs now ends some e w h = absurd (none-some group some)
looked_at_group p (usage.Prohibited name) group walked told fs now ends some e w h = absurd (none-some group some)
looked_at_group p (usage.Group named) group walked told fs now ends some e w h =
    subst (λ (ss : List Said). Looked p (usage.Group named) walked told fs (entered p walked group fs) ss) (sym e)
    (subst (λ (g : ℕ). Looked p (usage.Group named) walked told fs (entered p walked g fs) told) (some_is named group some)
    (looked_if (list_any (λ g. named == g) walked) p named walked told fs ends refl w h))

pub look_group : (p : Parts) (u : AttributeUse) (group : ℕ) (walked keys : List ℕ) (told : List Said) (fs new : List Frame) (now : List Said) → Ends p → group_named u ≡ Some group → now ≡ told_with_all (leaf p u) told → keys ≡ walked → new ≡ entered p walked group fs → AreWalked p walked told → AreOpen p fs (told_with_all (said_of p u) told) → Looked p u keys told fs new now
look_group p u group walked keys told fs new now ends some e keys_are new_is w h =
    subst (λ (ks : List ℕ). Looked p u ks told fs new now) (sym keys_are)
    (subst (λ (gs : List Frame). Looked p u walked told fs gs now) (sym new_is) (looked_at_group p u group walked told fs now ends some e w h))

-- ---- uses from the last to the first
pub walk_next : (p : Parts) (rest front : List AttributeUse) (u : AttributeUse) (told now whole : List Said) → rest ≡ front ++ u ∷ [] → now ≡ told_with_all (said_of p u) told → told_with_all (flat_map (said_of p) rest) told ≡ whole → told_with_all (flat_map (said_of p) front) now ≡ whole
walk_next p rest front u told now whole e f before =
    ap (told_with_all (flat_map (said_of p) front)) f
    ∙ sym (told_append (flat_map (said_of p) front) (said_of p u) told)
    ∙ ap (λ ss. told_with_all ss told) (ap (λ ss. flat_map (said_of p) front ++ ss) (sym (append-nil (said_of p u))) ∙ sym (flat_map-append (said_of p) front (u ∷ [])) ∙ ap (flat_map (said_of p)) (sym e))
    ∙ before
