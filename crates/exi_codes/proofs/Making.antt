-- States that are put together one production after another.
use Rattle.std.proofs.Common.{◌≡◌, ℕ, zero, suc, ◌+◌, ◌<◌, ◌≤◌, Bool, true, false, ◌||◌, inl, inr, List, [], ◌∷◌, ◌++◌, length, map, filter, take, get_or, refl, sym, ap, ◌∙◌, append_assoc, subst, arith}
use Rattle.std.specs.List.{flat_map}
use Rattle.std.proofs.lemmas.Bool.{cases_Bool}
use Rattle.std.proofs.lemmas.List.{append-nil, length-append, length-map, map-append, take_all, take_more}
use Rattle.exi_names.specs.StartTables.{Names}
use Rattle.exi_gram.specs.declared.options.Options.{Options}
use Rattle.exi_gram.specs.declared.grammar.Production.{Production}
use Rattle.exi_gram.specs.declared.named.Named.{Named}
use Rattle.exi_gram.specs.Additions.{firsts_of, has_first_code, untyped_of, untyped_on}
use Rattle.exi_gram.specs.Orders.{rule_before}
use Rattle.exi_order.proofs.InOrder.{in_order-length}
use Rattle.exi_gram.specs.Books.{is_kept, state_of}
use Rattle.exi_gram.specs.Codes.{Productions, Second, group, group_unless_empty, kept_second, kept_seconds, mapped_second, single}
use Rattle.exi_gram.specs.Naming.{Entry, entry, entry_of}
use Rattle.exi_gram.specs.Tables.{ends_in_group, no_productions, size, with_first, with_member, with_second, with_seconds}
use Rattle.exi_gram.specs.Terminals.{Rule, Symbol, is_left, rule, symbol, sd, ed, se, se_in, se_any, at, at_in, at_any, at_text, at_any_text, xsi_type, xsi_nil, ch, ch_text, ee, ns, sc, er, cm, pi, dt}
use Rattle.exi_gram.specs.Wholes.{plain}
use Rattle.exi_gram.proofs.Leaving.{filter_few, firsts_size, group_ends, group_goes_on, group_size, group_starts, is_any, size_total, total}
use Rattle.exi_codes.specs.Made.{entries, grouped, in_group, with_part, with_parts, with_rules}

-- ---- lists
pub map_more : {X Y : Type 0} (f : X → Y) (xs : List X) (i : ℕ) (x : X) → i < length xs → x ≡ get_or xs i x → map f (take (i + 1) xs) ≡ map f (take i xs) ++ f x ∷ []
map_more {X} {Y} f xs i x less e = ap (map f) (take_more xs i x less) ∙ map-append f (take i xs) (get_or xs i x ∷ []) ∙ ap (λ (z : X). map f (take i xs) ++ f z ∷ []) (sym e)

flat-append : {X Y : Type 0} (f : X → List Y) (xs ys : List X) → flat_map f (xs ++ ys) ≡ flat_map f xs ++ flat_map f ys
flat-append f [] ys = refl
flat-append {X} {Y} f (x ∷ xs) ys = ap (λ (z : List Y). f x ++ z) (flat-append f xs ys) ∙ sym (append_assoc (f x) (flat_map f xs) (flat_map f ys))

pub flat_more : {X Y : Type 0} (f : X → List Y) (xs : List X) (x : X) → flat_map f (xs ++ x ∷ []) ≡ flat_map f xs ++ f x
flat_more {X} {Y} f xs x = flat-append f xs (x ∷ []) ∙ ap (λ (z : List Y). flat_map f xs ++ z) (append-nil (f x))

pub filter-append : {X : Type 0} (keep : X → Bool) (xs ys : List X) → filter keep (xs ++ ys) ≡ filter keep xs ++ filter keep ys
filter-append keep [] ys = refl
filter-append keep (x ∷ xs) ys = elim (cases_Bool (keep x)) [
  | inl yes_is ↦ rw yes_is (ap (λ l. x ∷ l) (filter-append keep xs ys))
  | inr no_is ↦ rw no_is (filter-append keep xs ys)
]

pub entries-append : (o : Options) (names : Names) (rs ss : List Rule) → entries o names (rs ++ ss) ≡ entries o names rs ++ entries o names ss
entries-append o names rs ss = ap (filter (is_kept o)) (map-append (entry_of names) rs ss) ∙ filter-append (is_kept o) (map (entry_of names) rs) (map (entry_of names) ss)

pub entries-few : (o : Options) (names : Names) (rs : List Rule) → length (entries o names rs) ≤ length rs
entries-few o names rs = omega (arith, filter_few (is_kept o) (map (entry_of names) rs), length-map rs (entry_of names))

-- ---- codes of one part
pub rules_none : (o : Options) (names : Names) (p : Productions Entry) → p ≡ with_rules o names p []
rules_none o names p = ap (λ (z : List Entry). record { firsts = z; seconds = p.seconds }) (sym (append-nil p.firsts))

pub rules_more : (o : Options) (names : Names) (p : Productions Entry) (rs ss : List Rule) → with_rules o names (with_rules o names p rs) ss ≡ with_rules o names p (rs ++ ss)
rules_more o names p rs ss = ap (λ (z : List Entry). record { firsts = z; seconds = p.seconds }) (append_assoc p.firsts (entries o names rs) (entries o names ss) ∙ ap (λ (z : List Entry). p.firsts ++ z) (sym (entries-append o names rs ss)))

pub rules_few : (o : Options) (names : Names) (p : Productions Entry) (rs : List Rule) → size (with_rules o names p rs) ≤ size p + length rs
rules_few o names p rs = omega (arith, firsts_size p (entries o names rs), entries-few o names rs)

-- one where it is left, and where it is not
pub rule_left : (o : Options) (names : Names) (p : Productions Entry) (r : Rule) → is_kept o (entry_of names r) ≡ true → with_first p (entry_of names r) ≡ with_rules o names p (r ∷ [])
rule_left o names p r e = rw e refl

pub rule_past : (o : Options) (names : Names) (p : Productions Entry) (r : Rule) → is_kept o (entry_of names r) ≡ false → p ≡ with_rules o names p (r ∷ [])
rule_past o names p r e = rw e (rules_none o names p)

-- ---- longer codes
pub parts_none : (o : Options) (names : Names) (p : Productions Entry) → p ≡ with_parts o names p []
parts_none o names p = ap (λ (z : List (Second Entry)). record { firsts = p.firsts; seconds = z }) (sym (append-nil p.seconds))

pub kept-append : {X : Type 0} (keep : X → Bool) (xs ys : List (Second X)) → kept_seconds keep (xs ++ ys) ≡ kept_seconds keep xs ++ kept_seconds keep ys
kept-append keep [] ys = refl
kept-append {X} keep (x ∷ xs) ys = ap (λ (z : List (Second X)). kept_second keep x ++ z) (kept-append keep xs ys) ∙ sym (append_assoc (kept_second keep x) (kept_seconds keep xs) (kept_seconds keep ys))

pub parts_more : (o : Options) (names : Names) (p : Productions Entry) (xs ys : List (Second Rule)) → with_parts o names (with_parts o names p xs) ys ≡ with_parts o names p (xs ++ ys)
parts_more o names p xs ys =
    let f = mapped_second (entry_of names) in
    let k = kept_seconds (is_kept o) in
    ap (λ (z : List (Second Entry)). record { firsts = p.firsts; seconds = z })
    (append_assoc p.seconds (k (map f xs)) (k (map f ys)) ∙ ap (λ (z : List (Second Entry)). p.seconds ++ z) (sym (ap k (map-append f xs ys) ∙ kept-append (is_kept o) (map f xs) (map f ys))))

pub part_then : (o : Options) (names : Names) (p : Productions Entry) (x : Second Rule) (xs : List (Second Rule)) → with_parts o names (with_part o names p x) xs ≡ with_parts o names p (x ∷ xs)
part_then o names p x xs =
    let f = mapped_second (entry_of names) in
    ap (λ (z : List (Second Entry)). record { firsts = p.firsts; seconds = z })
    (append_assoc p.seconds (kept_second (is_kept o) (f x)) (kept_seconds (is_kept o) (map f xs)))

-- a state after the next part, after more of them, and with no more
pub then_part : (o : Options) (names : Names) (old mid new : Productions Entry) (x : Second Rule) (xs : List (Second Rule)) → mid ≡ with_part o names old x → new ≡ with_parts o names mid xs → new ≡ with_parts o names old (x ∷ xs)
then_part o names old mid new x xs e h = h ∙ ap (λ (z : Productions Entry). with_parts o names z xs) e ∙ part_then o names old x xs

pub then_parts : (o : Options) (names : Names) (old mid new : Productions Entry) (xs ys : List (Second Rule)) → mid ≡ with_parts o names old xs → new ≡ with_parts o names mid ys → new ≡ with_parts o names old (xs ++ ys)
then_parts o names old mid new xs ys e h = h ∙ ap (λ (z : Productions Entry). with_parts o names z ys) e ∙ parts_more o names old xs ys

pub then_last : (o : Options) (names : Names) (old new : Productions Entry) (x : Second Rule) → new ≡ with_part o names old x → new ≡ with_parts o names old (x ∷ [])
then_last o names old new x e = then_part o names old new new x [] e (parts_none o names new)

-- one where it is left, and where it is not
pub single_left : (o : Options) (names : Names) (p : Productions Entry) (r : Rule) → is_kept o (entry_of names r) ≡ true → with_second p (single (entry_of names r)) ≡ with_part o names p (single r)
single_left o names p r e = rw e refl

pub single_past : (o : Options) (names : Names) (p : Productions Entry) (r : Rule) → is_kept o (entry_of names r) ≡ false → p ≡ with_part o names p (single r)
single_past o names p r e = rw e (ap (λ (z : List (Second Entry)). record { firsts = p.firsts; seconds = z }) (sym (append-nil p.seconds)))

total-append : {X : Type 0} (xs ys : List (Second X)) → total (xs ++ ys) ≡ total xs + total ys
total-append [] ys = omega arith
total-append (x ∷ xs) ys = omega (arith, total-append xs ys)

pub seconds_size : (p : Productions Entry) (xs : List (Second Entry)) → size (with_seconds p xs) ≡ size p + total xs
seconds_size p xs = omega (arith, size_total p, size_total (with_seconds p xs), total-append p.seconds xs)

pub single_few : (o : Options) (names : Names) (p : Productions Entry) (r : Rule) → size (with_part o names p (single r)) ≤ size p + 1
single_few o names p r = elim (cases_Bool (is_kept o (entry_of names r))) [
  | inl yes_is ↦ rw yes_is (omega (arith, seconds_size p (single (entry_of names r) ∷ [])))
  | inr no_is ↦ rw no_is (omega (arith, seconds_size p []))
]

pub group_few : (o : Options) (names : Names) (p : Productions Entry) (rs : List Rule) → size (with_part o names p (group rs)) ≤ size p + length rs
group_few o names p rs = omega (arith, group_size p (entries o names rs), entries-few o names rs)

-- ---- groups
-- the members so far, and whether there is one
pub record Grouping (o : Options) (names : Names) (p : Productions Entry) (rs : List Rule) (any : Bool) (now : Productions Entry) : Type 0 where
  pub members_are : now ≡ with_seconds p (group_unless_empty (entries o names rs))
  pub any_is : any ≡ is_any (entries o names rs)

pub group_none : (o : Options) (names : Names) (p : Productions Entry) → Grouping o names p [] false p
group_none o names p = record { members_are = ap (λ (z : List (Second Entry)). record { firsts = p.firsts; seconds = z }) (sym (append-nil p.seconds)); any_is = refl }

any_last : {X : Type 0} (xs : List X) (x : X) → is_any (xs ++ x ∷ []) ≡ true
any_last [] x = refl
any_last (y ∷ ys) x = refl

or_true : (b : Bool) → b || true ≡ true
or_true true = refl
or_true false = refl

or_false : (b : Bool) → b || false ≡ b
or_false true = refl
or_false false = refl

in_group_is : (p : Productions Entry) (es : List Entry) (e : Entry) (any : Bool) → any ≡ is_any es → in_group any (with_seconds p (group_unless_empty es)) e ≡ with_seconds p (group_unless_empty (es ++ e ∷ []))
in_group_is p es e true h = group_goes_on p es e (sym h)
in_group_is p es e false h = group_starts p es e (sym h)

pub group_more : (o : Options) (names : Names) (p : Productions Entry) (rs : List Rule) (any more : Bool) (now new : Productions Entry) (r : Rule) →
    Grouping o names p rs any now → more ≡ (any || is_kept o (entry_of names r)) → new ≡ grouped o names any now r → Grouping o names p (rs ++ r ∷ []) more new
group_more o names p rs any more now new r g m n = elim (cases_Bool (is_kept o (entry_of names r))) [
  | inl yes_is ↦
      let es : entries o names (rs ++ r ∷ []) ≡ entries o names rs ++ entry_of names r ∷ [] = entries-append o names rs (r ∷ []) ∙ ap (λ (z : List Entry). entries o names rs ++ z) (rw yes_is refl) in
      let here : grouped o names any now r ≡ in_group any now (entry_of names r) = rw yes_is refl in
      record {
        members_are = n ∙ here ∙ ap (λ (z : Productions Entry). in_group any z (entry_of names r)) g.members_are ∙ in_group_is p (entries o names rs) (entry_of names r) any g.any_is ∙ ap (λ (z : List Entry). with_seconds p (group_unless_empty z)) (sym es);
        any_is = m ∙ ap (λ b. any || b) yes_is ∙ or_true any ∙ sym (ap is_any es ∙ any_last (entries o names rs) (entry_of names r));
      }
  | inr no_is ↦
      let es : entries o names (rs ++ r ∷ []) ≡ entries o names rs = entries-append o names rs (r ∷ []) ∙ ap (λ (z : List Entry). entries o names rs ++ z) (rw no_is refl) ∙ append-nil (entries o names rs) in
      let here : grouped o names any now r ≡ now = rw no_is refl in
      record {
        members_are = n ∙ here ∙ g.members_are ∙ ap (λ (z : List Entry). with_seconds p (group_unless_empty z)) (sym es);
        any_is = m ∙ ap (λ b. any || b) no_is ∙ or_false any ∙ g.any_is ∙ sym (ap is_any es);
      }
]

pub group_has : (o : Options) (names : Names) (p : Productions Entry) (rs : List Rule) (any : Bool) (now : Productions Entry) → Grouping o names p rs any now → any ≡ true → ends_in_group now.seconds ≡ true
group_has o names p rs any now g e = ap (λ (z : Productions Entry). ends_in_group z.seconds) g.members_are ∙ group_ends p (entries o names rs) (sym g.any_is ∙ e)

pub grouping_few : (o : Options) (names : Names) (p : Productions Entry) (rs : List Rule) (any : Bool) (now : Productions Entry) → Grouping o names p rs any now → size now ≤ size p + length rs
grouping_few o names p rs any now g = omega (arith, ap size g.members_are, group_size p (entries o names rs), entries-few o names rs)

-- ---- what a call adds
kept_is : (o : Options) (names : Names) (p : Production) (b : Bool) → is_left o (symbol p.on) ≡ b → is_kept o (entry_of names (rule p)) ≡ b
kept_is o names p b e = e

entry_is : (names : Names) (p : Production) (named : Named) → named ≡ (entry_of names (plain (symbol p.on) 0)).named → entry p named ≡ entry_of names (rule p)
entry_is names p named e = ap (λ (z : Named). record { rule = rule p; named = z }) e

pub first_pushed : (o : Options) (names : Names) (p : Production) (named : Named) (old new : Productions Entry) → is_left o (symbol p.on) ≡ true → named ≡ (entry_of names (plain (symbol p.on) 0)).named → new ≡ with_first old (entry p named) → new ≡ with_rules o names old (rule p ∷ [])
first_pushed o names p named old new k e n = n ∙ ap (with_first old) (entry_is names p named e) ∙ rule_left o names old (rule p) (kept_is o names p true k)

pub first_passed : (o : Options) (names : Names) (p : Production) (old new : Productions Entry) → is_left o (symbol p.on) ≡ false → new ≡ old → new ≡ with_rules o names old (rule p ∷ [])
first_passed o names p old new k n = n ∙ rule_past o names old (rule p) (kept_is o names p false k)

pub single_pushed : (o : Options) (names : Names) (p : Production) (named : Named) (old new : Productions Entry) → is_left o (symbol p.on) ≡ true → named ≡ (entry_of names (plain (symbol p.on) 0)).named → new ≡ with_second old (single (entry p named)) → new ≡ with_part o names old (single (rule p))
single_pushed o names p named old new k e n = n ∙ ap (λ (z : Entry). with_second old (single z)) (entry_is names p named e) ∙ single_left o names old (rule p) (kept_is o names p true k)

pub single_passed : (o : Options) (names : Names) (p : Production) (old new : Productions Entry) → is_left o (symbol p.on) ≡ false → new ≡ old → new ≡ with_part o names old (single (rule p))
single_passed o names p old new k n = n ∙ single_past o names old (rule p) (kept_is o names p false k)

pub single_size : (o : Options) (names : Names) (old new : Productions Entry) (r : Rule) → new ≡ with_part o names old (single r) → size new ≤ size old + 1
single_size o names old new r e = omega (arith, ap size e, single_few o names old r)

pub member_passed : (o : Options) (names : Names) (p : Production) (any : Bool) (old new : Productions Entry) → is_left o (symbol p.on) ≡ false → new ≡ old → new ≡ grouped o names any old (rule p)
member_passed o names p any old new k n = n ∙ rw (kept_is o names p false k) refl

pub any_passed : (o : Options) (names : Names) (p : Production) (any : Bool) → is_left o (symbol p.on) ≡ false → any ≡ (any || is_kept o (entry_of names (rule p)))
any_passed o names p any k = sym (ap (λ b. any || b) (kept_is o names p false k) ∙ or_false any)

pub any_pushed : (o : Options) (names : Names) (p : Production) (any : Bool) → is_left o (symbol p.on) ≡ true → true ≡ (any || is_kept o (entry_of names (rule p)))
any_pushed o names p any k = sym (ap (λ b. any || b) (kept_is o names p true k) ∙ or_true any)

pub member_joined : (o : Options) (names : Names) (p : Production) (named : Named) (any : Bool) (old new : Productions Entry) → is_left o (symbol p.on) ≡ true → named ≡ (entry_of names (plain (symbol p.on) 0)).named → any ≡ true → new ≡ with_member old (entry p named) → new ≡ grouped o names any old (rule p)
member_joined o names p named any old new k e a n = n ∙ ap (with_member old) (entry_is names p named e) ∙ rw (kept_is o names p true k, a) refl

pub member_begun : (o : Options) (names : Names) (p : Production) (named : Named) (any : Bool) (old new : Productions Entry) → is_left o (symbol p.on) ≡ true → named ≡ (entry_of names (plain (symbol p.on) 0)).named → any ≡ false → new ≡ with_second old (group (entry p named ∷ [])) → new ≡ grouped o names any old (rule p)
member_begun o names p named any old new k e a n = n ∙ ap (λ (z : Entry). with_second old (group (z ∷ []))) (entry_is names p named e) ∙ rw (kept_is o names p true k, a) refl

-- a group that has all its members
pub group_all : (o : Options) (names : Names) (p : Productions Entry) (rs : List Rule) (any : Bool) (now : Productions Entry) → Grouping o names p rs any now → now ≡ with_part o names p (group rs)
group_all o names p rs any now g = g.members_are

pub group_all_few : (o : Options) (names : Names) (p : Productions Entry) (rs : List Rule) (n : ℕ) (any : Bool) (now : Productions Entry) → Grouping o names p rs any now → length rs ≤ n → size now ≤ size p + n
group_all_few o names p rs n any now g few = omega (arith, grouping_few o names p rs any now g, few)

-- ---- whole states
pub state_is : (o : Options) (names : Names) (p q r : Productions Entry) (rs : List Rule) (xs : List (Second Rule)) → p ≡ no_productions → q ≡ with_rules o names p rs → r ≡ with_parts o names q xs → r ≡ state_of o names (record { firsts = rs; seconds = xs })
state_is o names p q r rs xs a b c = c ∙ ap (λ (z : Productions Entry). with_parts o names z xs) (b ∙ ap (λ (z : Productions Entry). with_rules o names z rs) a)

pub then_rules : (o : Options) (names : Names) (old mid new : Productions Entry) (rs ss : List Rule) → mid ≡ with_rules o names old rs → new ≡ with_rules o names mid ss → new ≡ with_rules o names old (rs ++ ss)
then_rules o names old mid new rs ss e h = h ∙ ap (λ (z : Productions Entry). with_rules o names z ss) e ∙ rules_more o names old rs ss

pub no_longer : (o : Options) (names : Names) (old new : Productions Entry) (rs : List Rule) → new ≡ with_rules o names old rs → old.seconds ≡ [] → new.seconds ≡ []
no_longer o names old new rs e h = ap (λ (z : Productions Entry). z.seconds) e ∙ h

pub rules_size : (o : Options) (names : Names) (old new : Productions Entry) (rs : List Rule) (n : ℕ) → new ≡ with_rules o names old rs → length rs ≤ n → size new ≤ size old + n
rules_size o names old new rs n e few = omega (arith, ap size e, rules_few o names old rs, few)

-- ---- room for more
take_few : {X : Type 0} (i : ℕ) (xs : List X) → length (take i xs) ≤ i
take_few zero xs = omega arith
take_few (suc i) [] = omega arith
take_few (suc i) (x ∷ xs) = omega (arith, take_few i xs)

pub rules_room : {X : Type 0} (o : Options) (names : Names) (old now : Productions Entry) (f : X → Rule) (xs : List X) (i most : ℕ) → now ≡ with_rules o names old (map f (take i xs)) → i < length xs → size old + length xs ≤ most → size now < most
rules_room o names old now f xs i most e less room =
    let few : length (map f (take i xs)) ≤ i = omega (arith, length-map (take i xs) f, take_few i xs) in
    omega (arith, rules_size o names old now (map f (take i xs)) i e few, less, room)

pub rules_room_of : {X Y : Type 0} (o : Options) (names : Names) (old now : Productions Entry) (f : Y → Rule) (g : X → Y) (xs : List X) (i most : ℕ) → now ≡ with_rules o names old (map f (map g (take i xs))) → i < length xs → size old + length xs ≤ most → size now < most
rules_room_of o names old now f g xs i most e less room =
    let few : length (map f (map g (take i xs))) ≤ i = omega (arith, length-map (map g (take i xs)) f, length-map (take i xs) g, take_few i xs) in
    omega (arith, rules_size o names old now (map f (map g (take i xs))) i e few, less, room)

singles_total : (o : Options) (names : Names) (rs : List Rule) → total (kept_seconds (is_kept o) (map (mapped_second (entry_of names)) (map single rs))) ≤ length rs
singles_total o names [] = omega arith
singles_total o names (r ∷ rs) = elim (cases_Bool (is_kept o (entry_of names r))) [
  | inl yes_is ↦ rw yes_is (omega (arith, singles_total o names rs))
  | inr no_is ↦ rw no_is (omega (arith, singles_total o names rs))
]

pub singles_room : {X : Type 0} (o : Options) (names : Names) (old now : Productions Entry) (keep : Rule → Bool) (f : X → Rule) (xs : List X) (i most : ℕ) → now ≡ with_parts o names old (map single (filter keep (map f (take i xs)))) → i < length xs → size old + length xs ≤ most → size now < most
singles_room o names old now keep f xs i most e less room =
    let rs = filter keep (map f (take i xs)) in
    let few : length rs ≤ i = omega (arith, filter_few keep (map f (take i xs)), length-map (take i xs) f, take_few i xs) in
    omega (arith, ap size e, seconds_size old (kept_seconds (is_kept o) (map (mapped_second (entry_of names)) (map single rs))), singles_total o names rs, few, less, room)

pub none_size : (p : Productions Entry) → p ≡ no_productions → size p ≡ 0
none_size p e = ap size e

-- the first productions of a state are some of its productions
pub firsts_few : {X : Type 0} (f : X → Rule) (kept : List X) (rs : List Rule) → map f kept ≡ firsts_of rs → length kept ≤ length rs
firsts_few f kept rs e = omega (arith, sym (length-map kept f), ap length e, in_order-length rule_before (filter has_first_code rs), filter_few has_first_code rs)

pub made_few : {X : Type 0} (o : Options) (names : Names) (old now : Productions Entry) (f : X → Rule) (xs : List X) → old ≡ no_productions → now ≡ with_rules o names old (map f xs) → size now ≤ length xs
made_few o names old now f xs none e = omega (arith, none_size old none, rules_size o names old now (map f xs) (length (map f xs)) e (omega arith), length-map xs f)

pub made_few_of : {X Y : Type 0} (o : Options) (names : Names) (old now : Productions Entry) (f : Y → Rule) (g : X → Y) (xs : List X) → old ≡ no_productions → now ≡ with_rules o names old (map f (map g xs)) → size now ≤ length xs
made_few_of o names old now f g xs none e = omega (arith, made_few o names old now f (map g xs) none e, length-map xs g)

-- ---- groups of comments and processing instructions, and of untyped attributes
pub second_size : (old new : Productions Entry) (e : Entry) → new ≡ with_second old (single e) → size new ≤ size old + 1
second_size old new e h = omega (arith, ap size h, seconds_size old (single e ∷ []))

pub first_member : (o : Options) (names : Names) (old new : Productions Entry) (r : Rule) (any : Bool) → any ≡ (false || is_kept o (entry_of names r)) → new ≡ grouped o names false old r → Grouping o names old (r ∷ []) any new
first_member o names old new r any a e = group_more o names old [] false any old new r (group_none o names old) a e

pub both_members : (o : Options) (names : Names) (old mid new : Productions Entry) (r s x y : Rule) (any more : Bool) → r ≡ x → s ≡ y → any ≡ (false || is_kept o (entry_of names r)) → mid ≡ grouped o names false old r → more ≡ (any || is_kept o (entry_of names s)) → new ≡ grouped o names any mid s → Grouping o names old (x ∷ y ∷ []) more new
both_members o names old mid new r s x y any more p q a e b h =
    subst (λ (z : List Rule). Grouping o names old z more new) (λ i. p i ∷ q i ∷ [])
    (group_more o names old (r ∷ []) any more mid new s (first_member o names old mid r any a e) b h)

-- the attributes so far, and that of any name
pub untyped_few : (rs : List Rule) → length (flat_map untyped_of rs) ≤ length rs
untyped_few [] = omega arith
untyped_few (r ∷ rs) = omega (arith, length-append (untyped_of r) (flat_map untyped_of rs), one_at_most r.on r.to, untyped_few rs)
  where
    one_at_most : (on : Symbol) (to : ℕ) → length (map (λ s. plain s to) (untyped_on on)) ≤ 1
    one_at_most (at name representation) to = omega arith
    one_at_most sd to = omega arith
    one_at_most ed to = omega arith
    one_at_most (se name) to = omega arith
    one_at_most (se_in uri) to = omega arith
    one_at_most se_any to = omega arith
    one_at_most (at_in uri) to = omega arith
    one_at_most at_any to = omega arith
    one_at_most (at_text name) to = omega arith
    one_at_most at_any_text to = omega arith
    one_at_most xsi_type to = omega arith
    one_at_most xsi_nil to = omega arith
    one_at_most (ch representation) to = omega arith
    one_at_most ch_text to = omega arith
    one_at_most ee to = omega arith
    one_at_most ns to = omega arith
    one_at_most sc to = omega arith
    one_at_most er to = omega arith
    one_at_most cm to = omega arith
    one_at_most pi to = omega arith
    one_at_most dt to = omega arith

pub untyped_room : {X : Type 0} (o : Options) (names : Names) (old now : Productions Entry) (f : X → Rule) (xs : List X) (i : ℕ) (any : Bool) → Grouping o names old (flat_map untyped_of (map f (take i xs))) any now → size now ≤ size old + i
untyped_room o names old now f xs i any g =
    omega (arith, grouping_few o names old (flat_map untyped_of (map f (take i xs))) any now g, untyped_few (map f (take i xs)), length-map (take i xs) f, take_few i xs)

-- one attribute more, and one production that is none
pub untyped_more : {X : Type 0} (o : Options) (names : Names) (old now new : Productions Entry) (f : X → Rule) (xs : List X) (i : ℕ) (x : X) (any more : Bool) (r : Rule) → i < length xs → x ≡ get_or xs i x → untyped_of (f x) ≡ r ∷ [] → more ≡ (any || is_kept o (entry_of names r)) → new ≡ grouped o names any now r →
    Grouping o names old (flat_map untyped_of (map f (take i xs))) any now → Grouping o names old (flat_map untyped_of (map f (take (i + 1) xs))) more new
untyped_more o names old now new f xs i x any more r less e u a h g =
    let l : flat_map untyped_of (map f (take (i + 1) xs)) ≡ flat_map untyped_of (map f (take i xs)) ++ r ∷ [] =
    ap (flat_map untyped_of) (map_more f xs i x less e) ∙ flat_more untyped_of (map f (take i xs)) (f x) ∙ ap (λ (z : List Rule). flat_map untyped_of (map f (take i xs)) ++ z) u in
    subst (λ (z : List Rule). Grouping o names old z more new) (sym l) (group_more o names old (flat_map untyped_of (map f (take i xs))) any more now new r g a h)

pub untyped_past : {X : Type 0} (o : Options) (names : Names) (old now : Productions Entry) (f : X → Rule) (xs : List X) (i : ℕ) (x : X) (any : Bool) → i < length xs → x ≡ get_or xs i x → untyped_of (f x) ≡ [] →
    Grouping o names old (flat_map untyped_of (map f (take i xs))) any now → Grouping o names old (flat_map untyped_of (map f (take (i + 1) xs))) any now
untyped_past o names old now f xs i x any less e u g =
    let l : flat_map untyped_of (map f (take (i + 1) xs)) ≡ flat_map untyped_of (map f (take i xs)) =
    ap (flat_map untyped_of) (map_more f xs i x less e) ∙ flat_more untyped_of (map f (take i xs)) (f x) ∙ ap (λ (z : List Rule). flat_map untyped_of (map f (take i xs)) ++ z) u ∙ append-nil (flat_map untyped_of (map f (take i xs))) in
    subst (λ (z : List Rule). Grouping o names old z any now) (sym l) g

pub untyped_all : {X : Type 0} (o : Options) (names : Names) (old now new : Productions Entry) (f : X → Rule) (xs : List X) (i : ℕ) (any more : Bool) (r : Rule) (to : ℕ) → length xs ≤ i → r ≡ plain at_any_text to → more ≡ (any || is_kept o (entry_of names r)) → new ≡ grouped o names any now r →
    Grouping o names old (flat_map untyped_of (map f (take i xs))) any now → Grouping o names old (flat_map untyped_of (map f xs) ++ plain at_any_text to ∷ []) more new
untyped_all {X} o names old now new f xs i any more r to past e a h g =
    subst (λ (z : List Rule). Grouping o names old z more new)
    (ap (λ (z : List X). flat_map untyped_of (map f z) ++ r ∷ []) (take_all i xs past) ∙ ap (λ (z : Rule). flat_map untyped_of (map f xs) ++ z ∷ []) e)
    (group_more o names old (flat_map untyped_of (map f (take i xs))) any more now new r g a h)

pub untyped_all_few : {X : Type 0} (o : Options) (names : Names) (old new : Productions Entry) (f : X → Rule) (xs : List X) (more : Bool) (to : ℕ) → Grouping o names old (flat_map untyped_of (map f xs) ++ plain at_any_text to ∷ []) more new → size new ≤ size old + (length xs + 1)
untyped_all_few o names old new f xs more to g =
    omega (arith, grouping_few o names old (flat_map untyped_of (map f xs) ++ plain at_any_text to ∷ []) more new g, length-append (flat_map untyped_of (map f xs)) (plain at_any_text to ∷ []), untyped_few (map f xs), length-map xs f)

-- ---- what a loop adds
pub single_more : {X : Type 0} (o : Options) (names : Names) (old now new : Productions Entry) (keep : Rule → Bool) (f : X → Rule) (xs : List X) (i : ℕ) (x : X) (r : Rule) → i < length xs → x ≡ get_or xs i x → keep (f x) ≡ true → r ≡ f x → now ≡ with_parts o names old (map single (filter keep (map f (take i xs)))) → new ≡ with_part o names now (single r) → new ≡ with_parts o names old (map single (filter keep (map f (take (i + 1) xs))))
single_more o names old now new keep f xs i x r less e k p a n =
    let rs = map f (take i xs) in
    let l : filter keep (map f (take (i + 1) xs)) ≡ filter keep rs ++ r ∷ [] =
    ap (filter keep) (map_more f xs i x less e) ∙ filter-append keep rs (f x ∷ []) ∙ ap (λ (z : List Rule). filter keep rs ++ z) (rw k refl ∙ ap (λ (z : Rule). z ∷ []) (sym p)) in
    then_parts o names old now new (map single (filter keep rs)) (single r ∷ []) a (then_last o names now new (single r) n)
    ∙ ap (with_parts o names old) (sym (ap (map single) l ∙ map-append single (filter keep rs) (r ∷ [])))

pub single_none : {X : Type 0} (o : Options) (names : Names) (old now : Productions Entry) (keep : Rule → Bool) (f : X → Rule) (xs : List X) (i : ℕ) (x : X) → i < length xs → x ≡ get_or xs i x → keep (f x) ≡ false → now ≡ with_parts o names old (map single (filter keep (map f (take i xs)))) → now ≡ with_parts o names old (map single (filter keep (map f (take (i + 1) xs))))
single_none o names old now keep f xs i x less e k a =
    let rs = map f (take i xs) in
    let l : filter keep (map f (take (i + 1) xs)) ≡ filter keep rs =
    ap (filter keep) (map_more f xs i x less e) ∙ filter-append keep rs (f x ∷ []) ∙ ap (λ (z : List Rule). filter keep rs ++ z) (rw k refl) ∙ append-nil (filter keep rs) in
    a ∙ ap (λ (z : List Rule). with_parts o names old (map single z)) (sym l)
