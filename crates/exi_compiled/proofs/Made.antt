-- What holds of the grammars that are made, one after another.
use Rattle.std.proofs.Common.{◌≡◌, ◌≢◌, ℕ, suc, ◌+◌, ◌-◌, ◌*◌, ◌<◌, ◌≤◌, Bool, true, false, if◌then◌else◌, Option, Some, None, Result, Ok, Err, List, [], ◌∷◌, ◌++◌, All, length, map, refl, subst, arith}
use Rattle.std.proofs.lemmas.List.{length-append, length-map}
use Rattle.std.proofs.lemmas.List.Elements.{All-append, All-cons, All-head, All-nil, All-tail, All-weaker}
use Rattle.exi_gram.specs.Schemas.{AllIn, LeadsWithin}
use Rattle.exi_gram.specs.Terminals.{Rule, Rules, Symbol, xsi_nil, xsi_type}
use Rattle.exi_gram.specs.Wholes.{plain}
use Rattle.xsd_model.specs.declared.fault.SchemaFault.{SchemaFault}
use Rattle.xsd_model.specs.declared.fault.SchemaKind.TheVariants as kind
use Rattle.xsd_model.specs.Parts.{Parts}
use Rattle.exi_counts.specs.Counts.{most_states}
use Rattle.exi_normal.specs.Normals.{Refusal, normal_of}
use Rattle.exi_proto.specs.Protos.{draft_of_type}
use Rattle.exi_compiled.specs.Compiled.{Item, Made, and_then, can_be_cast, instance_rules, is_nillable, is_small, item_type, items_of, opened, opened_at, opened_rule, fault_at, item_event, with_empty, with_full, with_instance, with_item, with_items}
use Rattle.exi_compiled.proofs.Drafts.{draft_is}
use Rattle.exi_compiled.proofs.Good.{HasNames, IsGood, Opened, nil_good, type_good}
use Rattle.exi_compiled.proofs.Lists.{by_test, in_all, one, two}
use Rattle.exi_compiled.proofs.Normal.{IsNormal, OfRule, normal_is}
use Rattle.exi_compiled.proofs.Places.{IsFullBelow, element_full, full_more}

-- a grammar of an element or type, or an empty form, among so many grammars
pub record IsPart (p : Parts) (count : ℕ) (g : Rules) : Type 0 where
  pub some : 1 ≤ length g.states
  pub few : length g.states ≤ most_states
  pub within : LeadsWithin g
  pub all : AllIn (OfRule (IsGood p (IsFullBelow count))) g

pub good_more : (p : Parts) (Q R : ℕ → Type 0) → ((place : ℕ) → Q place → R place) → (on : Symbol) (inner : Option ℕ) → IsGood p Q on inner → IsGood p R on inner
good_more p Q R h on inner g = record { named = g.named; no_start = g.no_start; no_end = g.no_end; opens = g.opens; opened = by inner g.opened }
  where
    by : (o : Option ℕ) → Opened Q o → Opened R o
    by None q = tt
    by (Some place) q = h place q

pub part_more : (p : Parts) (count more : ℕ) → count ≤ more → (g : Rules) → IsPart p count g → IsPart p more g
part_more p count more le g h = record {
  some = h.some;
  few = h.few;
  within = h.within;
  all =
      All-weaker (All (OfRule (IsGood p (IsFullBelow count)))) (All (OfRule (IsGood p (IsFullBelow more))))
      (λ state. All-weaker (OfRule (IsGood p (IsFullBelow count))) (OfRule (IsGood p (IsFullBelow more)))
      (λ r. good_more p (IsFullBelow count) (IsFullBelow more) (λ place. full_more count more place le) r.on r.inner) state)
      g.states h.all;
}

-- how many grammars there are without those of a fragment's elements
abbrev pub item_grammars : Parts → ℕ
item_grammars p = 2 + 2 * length (items_of p)

-- ---- elements are opened by places of grammars
module _ (p : Parts) where
  abbrev Below : ℕ → Type 0
  Below place = place < length p.elements

  abbrev Full : ℕ → Type 0
  Full = IsFullBelow (item_grammars p)

  opens_some : (o : Option ℕ) → o ≢ None → opened_at p o ≢ None
  opens_some None h = absurd (h refl)
  opens_some (Some place) h = λ e. cc

  opens_full : (o : Option ℕ) → Opened Below o → Opened Full (opened_at p o)
  opens_full None h = tt
  opens_full (Some place) h = element_full p place h

  rule_opened : (r : Rule) → OfRule (IsGood p Below) r → OfRule (IsGood p Full) (opened_rule p r)
  rule_opened r g = record {
    named = g.named;
    no_start = g.no_start;
    no_end = g.no_end;
    opens = λ name e. opens_some r.inner (g.opens name e);
    opened = opens_full r.inner g.opened;
  }

  leads_opened : (m n : ℕ) (states : List (List Rule)) → m ≤ n → All (All (λ r. r.to < m)) states → All (All (λ r. r.to < n)) (map (map (opened_rule p)) states)
  leads_opened m n states le h =
      in_all (All (λ (r : Rule). r.to < n)) (All (λ (r : Rule). r.to < m)) (map (opened_rule p)) states
      (λ state. in_all (λ (r : Rule). r.to < n) (λ (r : Rule). r.to < m) (opened_rule p) state (λ r less. omega arith)) h

  pub opened_is : (most : ℕ) (g : Rules) → most ≤ most_states → IsNormal (IsGood p Below) most g → IsPart p (item_grammars p) (opened p g)
  opened_is most g le h =
      let long : length (map (map (opened_rule p)) g.states) ≡ length g.states = length-map g.states (map (opened_rule p)) in
      let some : 1 ≤ length g.states = h.some in
      let few : length g.states ≤ most = h.few in
      let content : g.content < length g.states = h.within.content in
      record {
        some = omega (arith, long, some);
        few = omega (arith, long, few);
        within = record {
          content = omega (arith, long, content);
          states = leads_opened (length g.states) (length (map (map (opened_rule p)) g.states)) g.states (omega (arith, long)) h.within.states;
        };
        all =
            in_all (All (OfRule (IsGood p Full))) (All (OfRule (IsGood p Below))) (map (opened_rule p)) g.states
            (λ state. in_all (OfRule (IsGood p Full)) (OfRule (IsGood p Below)) (opened_rule p) state rule_opened) h.all;
      }

-- ---- what stands last in the first state
pub instance_is : (p : Parts) (count : ℕ) (rules : List Rule) (g : Rules) → All (OfRule (IsGood p (IsFullBelow count))) rules → All (λ r. r.to ≡ 0) rules → IsPart p count g → IsPart p count (with_instance rules g)
instance_is p count rules g good start h = by g.states g.content h
  where
    by : (states : List (List Rule)) (content : ℕ) → IsPart p count (record { states = states; content = content }) → IsPart p count (with_instance rules (record { states = states; content = content }))
    by [] content k = let none : 1 ≤ 0 = k.some in absurd (omega arith)
    by (s ∷ ss) content k = record {
      some = k.some;
      few = k.few;
      within = record {
        content = k.within.content;
        states =
            All-cons (All (λ (r : Rule). r.to < suc (length ss))) (s ++ rules) ss
            (All-append (λ (r : Rule). r.to < suc (length ss)) s rules (All-head (All (λ (r : Rule). r.to < suc (length ss))) s ss k.within.states) (All-weaker (λ (r : Rule). r.to ≡ 0) (λ (r : Rule). r.to < suc (length ss)) (λ r e. omega arith) rules start))
            (All-tail (All (λ (r : Rule). r.to < suc (length ss))) s ss k.within.states);
      };
      all =
          All-cons (All (OfRule (IsGood p (IsFullBelow count)))) (s ++ rules) ss
          (All-append (OfRule (IsGood p (IsFullBelow count))) s rules (All-head (All (OfRule (IsGood p (IsFullBelow count)))) s ss k.all) good)
          (All-tail (All (OfRule (IsGood p (IsFullBelow count)))) s ss k.all);
    }

instance_all : (P : Rule → Type 0) → P (plain xsi_type 0) → P (plain xsi_nil 0) → (cast nillable : Bool) → All P (instance_rules cast nillable)
instance_all P a b cast nillable =
    All-append P (if cast then plain xsi_type 0 ∷ [] else []) (if nillable then plain xsi_nil 0 ∷ [] else [])
    (by_test P cast (plain xsi_type 0 ∷ []) [] (one P (plain xsi_type 0) a) (All-nil P))
    (by_test P nillable (plain xsi_nil 0 ∷ []) [] (one P (plain xsi_nil 0) b) (All-nil P))

pub with_instance_is : (p : Parts) (count : ℕ) (cast nillable : Bool) (g : Rules) → IsPart p count g → IsPart p count (with_instance (instance_rules cast nillable) g)
with_instance_is p count cast nillable g h =
    instance_is p count (instance_rules cast nillable) g
    (instance_all (OfRule (IsGood p (IsFullBelow count))) (type_good p (IsFullBelow count)) (nil_good p (IsFullBelow count)) cast nillable)
    (instance_all (λ (r : Rule). r.to ≡ 0) refl refl cast nillable) h

-- ---- one item more
module _ (p : Parts) (names : HasNames p) where
  abbrev AllParts : List Rules → Type 0
  AllParts gs = All (IsPart p (item_grammars p)) gs

  pair_is : (item : Item) (made : Made) (full empty : Rules) (a b : ℕ) → a ≤ most_states → b ≤ most_states
      → normal_of (draft_of_type p (item_type p item) false) a ≡ Ok full → normal_of (draft_of_type p (item_type p item) true) b ≡ Ok empty
      → AllParts made.grammars → AllParts (made.grammars ++ with_instance (instance_rules (can_be_cast p (item_type p item)) (is_nillable p item)) (opened p full) ∷ opened p empty ∷ [])
  pair_is item made full empty a b la lb ea eb h =
      let first = opened_is p a full la (normal_is (IsGood p (λ place. place < length p.elements)) (draft_of_type p (item_type p item) false) a full (draft_is p names (item_type p item) false) ea) in
      let second = opened_is p b empty lb (normal_is (IsGood p (λ place. place < length p.elements)) (draft_of_type p (item_type p item) true) b empty (draft_is p names (item_type p item) true) eb) in
      All-append (IsPart p (item_grammars p)) made.grammars (with_instance (instance_rules (can_be_cast p (item_type p item)) (is_nillable p item)) (opened p full) ∷ opened p empty ∷ []) h
      (two (IsPart p (item_grammars p)) (with_instance (instance_rules (can_be_cast p (item_type p item)) (is_nillable p item)) (opened p full)) (opened p empty)
      (with_instance_is p (item_grammars p) (can_be_cast p (item_type p item)) (is_nillable p item) (opened p full) first) second)

  -- what is made then
  pub record IsMade (made now : Made) (more : ℕ) : Type 0 where
    pub all : AllParts now.grammars
    pub count : length now.grammars ≡ length made.grammars + more

  full_made : (item : Item) (made now : Made) (empty : Rules) (b : ℕ) → b ≤ most_states → normal_of (draft_of_type p (item_type p item) true) b ≡ Ok empty → (a : ℕ) → a ≤ most_states
      → (r : Result Rules Refusal) → normal_of (draft_of_type p (item_type p item) false) a ≡ r → AllParts made.grammars → with_full p item made empty r ≡ Ok now → IsMade made now 2
  full_made item made now empty b lb eb a la (Err why) ea h e = absurd cc
  full_made item made now empty b lb eb a la (Ok full) ea h e =
      let gs = made.grammars ++ with_instance (instance_rules (can_be_cast p (item_type p item)) (is_nillable p item)) (opened p full) ∷ opened p empty ∷ [] in
      let same : record { total = made.total + (length full.states + length empty.states); grammars = gs } ≡ now = cc in
      let long : length gs ≡ length made.grammars + 2 = length-append made.grammars (with_instance (instance_rules (can_be_cast p (item_type p item)) (is_nillable p item)) (opened p full) ∷ opened p empty ∷ []) in
      subst (λ (m : Made). IsMade made m 2) same (record { all = pair_is item made full empty a b la lb ea eb h; count = long })

  empty_made : (item : Item) (made now : Made) (b : ℕ) → b ≤ most_states → (r : Result Rules Refusal) → normal_of (draft_of_type p (item_type p item) true) b ≡ r
      → AllParts made.grammars → with_empty p item made r ≡ Ok now → IsMade made now 2
  empty_made item made now b lb (Err why) eb h e = absurd cc
  empty_made item made now b lb (Ok empty) eb h e =
      full_made item made now empty b lb eb (most_states - (made.total + length empty.states)) (omega arith)
      (normal_of (draft_of_type p (item_type p item) false) (most_states - (made.total + length empty.states))) refl h e

  item_made : (item : Item) (made now : Made) → AllParts made.grammars → with_item p item made ≡ Ok now → IsMade made now 2
  item_made item made now h e = by (is_small p (item_type p item)) e
    where
      by : (b : Bool) → (if b then with_empty p item made (normal_of (draft_of_type p (item_type p item) true) (most_states - made.total)) else Err (fault_at kind.TooLarge (item_event p item))) ≡ Ok now → IsMade made now 2
      by true e = empty_made item made now (most_states - made.total) (omega arith) (normal_of (draft_of_type p (item_type p item) true) (most_states - made.total)) refl h e
      by false e = absurd cc

  pub items_made : (items : List Item) (made now : Made) → AllParts made.grammars → with_items p items made ≡ Ok now → IsMade made now (2 * length items)
  items_made [] made now h e = let same : made ≡ now = cc in subst (λ (m : Made). IsMade made m 0) same (record { all = h; count = omega arith })
  items_made (i ∷ is) made now h e = by (with_item p i made) refl e (items_made is)
    where
      by : (r : Result Made SchemaFault) → with_item p i made ≡ r → and_then r (λ m. with_items p is m) ≡ Ok now
          → ((made now : Made) → AllParts made.grammars → with_items p is made ≡ Ok now → IsMade made now (2 * length is)) → IsMade made now (2 * length (i ∷ is))
      by (Err fault) w e go = absurd cc
      by (Ok m) w e go =
          let first : IsMade made m 2 = item_made i made m h w in
          let rest : IsMade m now (2 * length is) = go m now first.all e in
          let a : length m.grammars ≡ length made.grammars + 2 = first.count in
          let b : length now.grammars ≡ length m.grammars + 2 * length is = rest.count in
          record { all = rest.all; count = omega (arith, a, b) }
