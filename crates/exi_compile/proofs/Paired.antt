-- What is made of an item is made of its type.
use Rattle.std.proofs.Common.{◌≡◌, ℕ, ◌+◌, ◌-◌, Bool, true, false, if◌then◌else◌, Result, Ok, Err, length, refl, sym, ap, ◌∙◌, subst}
use Rattle.exi_gram.specs.Terminals.{Rules}
use Rattle.xsd_model.specs.declared.fault.SchemaKind.{SchemaKind}
use Rattle.xsd_model.specs.declared.fault.SchemaKind.TheVariants as kind
use Rattle.xsd_model.specs.declared.fault.SchemaStop.{SchemaStop}
use Rattle.xsd_model.specs.declared.fault.SchemaStop.TheVariants as stop
use Rattle.xsd_model.specs.Parts.{Parts}
use Rattle.exi_counts.specs.Counts.{most_states}
use Rattle.exi_normal.specs.Normals.{Refusal, normal_of, too_large}
use Rattle.exi_proto.specs.Protos.{draft_of_type}
use Rattle.exi_compiled.specs.Compiled.{Item, Made, fault_at, is_small, item_event, item_type, refused, with_empty, with_full, with_item}
use Rattle.exi_compile.specs.Makings.{Makes, item_made}
use Rattle.exi_compile.specs.Pairs.{pair_behind, pair_of, pair_with}

full_same : (p : Parts) (item : Item) (made : Made) (empty : Rules) (r : Result Rules Refusal) → with_full p item made empty r ≡ item_made p item made (pair_with empty r)
full_same p item made empty (Err why) = refl
full_same p item made empty (Ok full) = refl

empty_same : (p : Parts) (item : Item) (made : Made) (r : Result Rules Refusal) → with_empty p item made r ≡ item_made p item made (pair_behind p (item_type p item) made.total r)
empty_same p item made (Err why) = refl
empty_same p item made (Ok empty) = full_same p item made empty (normal_of (draft_of_type p (item_type p item) false) (most_states - (made.total + length empty.states)))

item_same : (p : Parts) (item : Item) (made : Made) → with_item p item made ≡ item_made p item made (pair_of p (item_type p item) made.total)
item_same p item made = by (is_small p (item_type p item)) (normal_of (draft_of_type p (item_type p item) true) (most_states - made.total))
  where
    by : (b : Bool) (r : Result Rules Refusal) → (if b then with_empty p item made r else Err (fault_at kind.TooLarge (item_event p item)))
        ≡ item_made p item made (if b then pair_behind p (item_type p item) made.total r else Err too_large)
    by true r = empty_same p item made r
    by false r = refl

-- by the parts and the type that equal its own
pub item_is : (p q : Parts) (item : Item) (made : Made) (of : ℕ) (r : Result (Rules × Rules) Refusal) → q ≡ p → of ≡ item_type p item → pair_of q of made.total ≡ r → with_item p item made ≡ item_made p item made r
item_is p q item made of r same own e = item_same p item made ∙ ap (item_made p item made) ((λ j. pair_of (sym same j) (sym own j) made.total) ∙ e)

-- a fault of this kind
pub item_stops : (X : Type 0) (p : Parts) (item : Item) (made new : Made) (why : Refusal) (event : ℕ) (k : SchemaKind) (s : SchemaStop) → s ≡ stop.Fault (fault_at k event)
    → refused why (item_event p item) ≡ fault_at k event → with_item p item made ≡ item_made p item made (Err why) → Makes {X = X} (Err s) new (with_item p item made)
item_stops X p item made new why event k s is same e = subst (λ z. Makes {X = X} (Err z) new (with_item p item made)) (sym is) (e ∙ ap (λ f. Err f) same)
