-- Where the productions lead that a grammar of an element or type has with its codes, added ones among them.
use Rattle.std.proofs.Common.{◌≡◌, ◌≢◌, ℕ, suc, ◌+◌, ◌<◌, ◌≤◌, ◌==◌, Bool, true, false, if◌then◌else◌, None, List, [], ◌∷◌, length, map, filter, flat_map, get_or, All, refl, sym, ap, subst, arith, length-append}
use Rattle.std.proofs.lemmas.List.{length-map}
use Rattle.std.proofs.lemmas.List.Elements.{All-append, All-cons, All-filter, All-get_or, All-head, All-map, All-nil, All-tail, All-weaker}
use Rattle.exi_names.specs.declared.names.QName.{QName}
use Rattle.exi_gram.specs.declared.class.Class.TheVariants as class
use Rattle.exi_gram.specs.Additions.{at_copy, attribute_states, content_added, content_copy, early_state, end_added, firsts_of, has_class, has_first_code, is_early, is_of, is_of_instance, later_state, loose_from, loose_state, loose_states, part_states, start_state, strict_state, untyped, untyped_of, untyped_on}
use Rattle.exi_gram.specs.Codes.{Second, group, single}
use Rattle.exi_gram.specs.Naming.{named_in}
use Rattle.exi_gram.specs.Orders.{rule_before}
use Rattle.exi_gram.specs.Outlines.{Outline}
use Rattle.exi_gram.specs.Schemas.{AllIn, IsInner, Opens}
use Rattle.exi_gram.specs.Terminals.{Rule, Rules, Symbol, sd, ed, se, se_in, se_any, at, at_in, at_any, at_text, at_any_text, xsi_type, xsi_nil, ch, ch_text, ee, ns, sc, er, cm, pi, dt}
use Rattle.exi_gram.specs.Wholes.{plain}
use Rattle.exi_gram.proofs.CodeTells.{Each, EachOf}
use Rattle.exi_ways.proofs.Lists.{in_order-all}

-- a production of a grammar that has so many states
pub record IsWay (o : Outline) (count : ℕ) (r : Rule) : Type 0 where
  pub no_start : r.on ≢ sd
  pub no_end : r.on ≢ ed
  pub to : r.to < count
  pub inner : IsInner o r.inner
  pub opens : Opens r
  pub stands : named_in o.names r.on ≢ None

-- a grammar whose productions are so
pub record IsGood (o : Outline) (g : Rules) : Type 0 where
  pub content : g.content < length g.states
  pub rules : AllIn (IsWay o (length g.states)) g

module _ (o : Outline) (count : ℕ) where
  abbrev Way : Rule → Type 0
  Way = IsWay o count

  -- ---- one production that is added
  plain_way : (on : Symbol) (to : ℕ) → on ≢ sd → on ≢ ed → ((name : QName) → on ≢ se name) → named_in o.names on ≢ None → to < count → Way (plain on to)
  plain_way on to no_start no_end none stands less = record { no_start = no_start; no_end = no_end; to = less; inner = tt; opens = λ name e. absurd (none name e); stands = stands }

  any_way : (to : ℕ) → to < count → Way (plain se_any to)
  any_way to less = plain_way se_any to (λ e. cc) (λ e. cc) (λ name e. cc) (λ e. cc) less

  text_way : (to : ℕ) → to < count → Way (plain ch_text to)
  text_way to less = plain_way ch_text to (λ e. cc) (λ e. cc) (λ name e. cc) (λ e. cc) less

  entity_way : (to : ℕ) → to < count → Way (plain er to)
  entity_way to less = plain_way er to (λ e. cc) (λ e. cc) (λ name e. cc) (λ e. cc) less

  comment_way : (to : ℕ) → to < count → Way (plain cm to)
  comment_way to less = plain_way cm to (λ e. cc) (λ e. cc) (λ name e. cc) (λ e. cc) less

  instruction_way : (to : ℕ) → to < count → Way (plain pi to)
  instruction_way to less = plain_way pi to (λ e. cc) (λ e. cc) (λ name e. cc) (λ e. cc) less

  end_way : (to : ℕ) → to < count → Way (plain ee to)
  end_way to less = plain_way ee to (λ e. cc) (λ e. cc) (λ name e. cc) (λ e. cc) less

  type_way : (to : ℕ) → to < count → Way (plain xsi_type to)
  type_way to less = plain_way xsi_type to (λ e. cc) (λ e. cc) (λ name e. cc) (λ e. cc) less

  nil_way : (to : ℕ) → to < count → Way (plain xsi_nil to)
  nil_way to less = plain_way xsi_nil to (λ e. cc) (λ e. cc) (λ name e. cc) (λ e. cc) less

  at_any_way : (to : ℕ) → to < count → Way (plain at_any to)
  at_any_way to less = plain_way at_any to (λ e. cc) (λ e. cc) (λ name e. cc) (λ e. cc) less

  any_text_way : (to : ℕ) → to < count → Way (plain at_any_text to)
  any_text_way to less = plain_way at_any_text to (λ e. cc) (λ e. cc) (λ name e. cc) (λ e. cc) less

  space_way : (to : ℕ) → to < count → Way (plain ns to)
  space_way to less = plain_way ns to (λ e. cc) (λ e. cc) (λ name e. cc) (λ e. cc) less

  contained_way : (to : ℕ) → to < count → Way (plain sc to)
  contained_way to less = plain_way sc to (λ e. cc) (λ e. cc) (λ name e. cc) (λ e. cc) less

  -- ---- what is added
  none_more : All (EachOf Way) []
  none_more = All-nil (EachOf Way)

  more : (s : Second Rule) (ss : List (Second Rule)) → EachOf Way s → All (EachOf Way) ss → All (EachOf Way) (s ∷ ss)
  more s ss h hs = All-cons (EachOf Way) s ss h hs

  alone : (r : Rule) → Way r → All Way (r ∷ [])
  alone r h = All-cons Way r [] h (All-nil Way)

  end_ways : (state : ℕ) (firsts : List Rule) → state < count → All (EachOf Way) (end_added state firsts)
  end_ways state firsts less = by (has_class class.Ee firsts)
    where
      by : (b : Bool) → All (EachOf Way) (if b then [] else single (plain ee state) ∷ [])
      by true = none_more
      by false = more (single (plain ee state)) [] (end_way state less) none_more

  untyped_rule : (r : Rule) → Way r → All Way (untyped_of r)
  untyped_rule r way = by r.on way.stands
    where
      by : (on : Symbol) → named_in o.names on ≢ None → All Way (map (λ z. plain z r.to) (untyped_on on))
      by (at name representation) stands = alone (plain (at_text name) r.to) (plain_way (at_text name) r.to (λ e. cc) (λ e. cc) (λ other e. cc) stands way.to)
      by sd stands = All-nil Way
      by ed stands = All-nil Way
      by (se name) stands = All-nil Way
      by (se_in uri) stands = All-nil Way
      by se_any stands = All-nil Way
      by (at_in uri) stands = All-nil Way
      by at_any stands = All-nil Way
      by (at_text name) stands = All-nil Way
      by at_any_text stands = All-nil Way
      by xsi_type stands = All-nil Way
      by xsi_nil stands = All-nil Way
      by (ch representation) stands = All-nil Way
      by ch_text stands = All-nil Way
      by ee stands = All-nil Way
      by ns stands = All-nil Way
      by sc stands = All-nil Way
      by er stands = All-nil Way
      by cm stands = All-nil Way
      by pi stands = All-nil Way
      by dt stands = All-nil Way

  untyped_rules : (firsts : List Rule) → All Way firsts → All Way (flat_map untyped_of firsts)
  untyped_rules [] h = All-nil Way
  untyped_rules (r ∷ rs) h = All-append Way (untyped_of r) (flat_map untyped_of rs) (untyped_rule r (All-head Way r rs h)) (untyped_rules rs (All-tail Way r rs h))

  untyped_ways : (state : ℕ) (firsts : List Rule) → state < count → All Way firsts → EachOf Way (untyped state firsts)
  untyped_ways state firsts less h = All-append Way (flat_map untyped_of firsts) (plain at_any_text state ∷ []) (untyped_rules firsts h) (alone (plain at_any_text state) (any_text_way state less))

  content_ways : (to : ℕ) → to < count → All (EachOf Way) (content_added to)
  content_ways to less =
      let both : EachOf Way (group (plain cm to ∷ plain pi to ∷ [])) = All-cons Way (plain cm to) (plain pi to ∷ []) (comment_way to less) (alone (plain pi to) (instruction_way to less)) in
      let three = more (group (plain cm to ∷ plain pi to ∷ [])) [] both none_more in
      let two = more (single (plain er to)) (group (plain cm to ∷ plain pi to ∷ []) ∷ []) (entity_way to less) three in
      let one = more (single (plain ch_text to)) (single (plain er to) ∷ group (plain cm to ∷ plain pi to ∷ []) ∷ []) (text_way to less) two in
      more (single (plain se_any to)) (single (plain ch_text to) ∷ single (plain er to) ∷ group (plain cm to ∷ plain pi to ∷ []) ∷ []) (any_way to less) one

  start_ways : (copy : ℕ) (firsts : List Rule) → 0 < count → copy < count → All Way firsts → Each Way (start_state copy firsts)
  start_ways copy firsts less here h =
      let content = content_ways copy here in
      let six = more (single (plain sc 0)) (content_added copy) (contained_way 0 less) content in
      let five = more (single (plain ns 0)) (single (plain sc 0) ∷ content_added copy) (space_way 0 less) six in
      let four = more (untyped 0 firsts) (single (plain ns 0) ∷ single (plain sc 0) ∷ content_added copy) (untyped_ways 0 firsts less h) five in
      let three = more (single (plain at_any 0)) (untyped 0 firsts ∷ single (plain ns 0) ∷ single (plain sc 0) ∷ content_added copy) (at_any_way 0 less) four in
      let two = more (single (plain xsi_nil 0)) (single (plain at_any 0) ∷ untyped 0 firsts ∷ single (plain ns 0) ∷ single (plain sc 0) ∷ content_added copy) (nil_way 0 less) three in
      let one = more (single (plain xsi_type 0)) (single (plain xsi_nil 0) ∷ single (plain at_any 0) ∷ untyped 0 firsts ∷ single (plain ns 0) ∷ single (plain sc 0) ∷ content_added copy) (type_way 0 less) two in
      record {
        firsts = h;
        seconds = All-append (EachOf Way) (end_added 0 firsts) (single (plain xsi_type 0) ∷ single (plain xsi_nil 0) ∷ single (plain at_any 0) ∷ untyped 0 firsts ∷ single (plain ns 0) ∷ single (plain sc 0) ∷ content_added copy) (end_ways 0 firsts less) one;
      }

  early_ways : (state copy : ℕ) (firsts : List Rule) → state < count → copy < count → All Way firsts → Each Way (early_state state copy firsts)
  early_ways state copy firsts less here h =
      let two = more (untyped state firsts) (content_added copy) (untyped_ways state firsts less h) (content_ways copy here) in
      let one = more (single (plain at_any state)) (untyped state firsts ∷ content_added copy) (at_any_way state less) two in
      record { firsts = h; seconds = All-append (EachOf Way) (end_added state firsts) (single (plain at_any state) ∷ untyped state firsts ∷ content_added copy) (end_ways state firsts less) one }

  later_ways : (state : ℕ) (firsts : List Rule) → state < count → All Way firsts → Each Way (later_state state firsts)
  later_ways state firsts less h = record { firsts = h; seconds = All-append (EachOf Way) (end_added state firsts) (content_added state) (end_ways state firsts less) (content_ways state less) }

  -- ---- a state
  firsts_ways : (rs : List Rule) → All Way rs → All Way (firsts_of rs)
  firsts_ways rs h = in_order-all Way rule_before (filter has_first_code rs) (All-filter has_first_code Way rs h)

  strict_ways : (rs : List Rule) → All Way rs → Each Way (strict_state rs)
  strict_ways rs h = record {
    firsts = firsts_ways rs h;
    seconds = All-map (EachOf Way) single (filter is_of_instance rs) (All-filter is_of_instance Way rs h);
  }

  loose_ways : (g : Rules) (reached : List ℕ) (state : ℕ) (firsts : List Rule) → state < count → length g.states < count → All Way firsts → Each Way (loose_state g reached state firsts)
  loose_ways g reached state firsts less here h = by (state == 0) (is_early g reached state)
    where
      first : 0 < count
      first = omega (arith, less)

      by : (b c : Bool) → Each Way (if b then start_state (length g.states) firsts else if c then early_state state (length g.states) firsts else later_state state firsts)
      by true c = start_ways (length g.states) firsts first here h
      by false true = early_ways state (length g.states) firsts less here h
      by false false = later_ways state firsts less h

  loose_all : (g : Rules) (reached : List ℕ) (state : ℕ) (states : List (List Rule)) → state + length states ≤ length g.states → length g.states < count → All (All Way) states → All (Each Way) (loose_from g reached state states)
  loose_all g reached state [] fits here h = All-nil (Each Way)
  loose_all g reached state (rs ∷ states) fits here h =
      let less : state < count = omega (arith, fits, here) in
      let rest : suc state + length states ≤ length g.states = omega (arith, fits) in
      All-cons (Each Way) (loose_state g reached state (firsts_of rs)) (loose_from g reached (suc state) states) (loose_ways g reached state (firsts_of rs) less here (firsts_ways rs (All-head (All Way) rs states h))) (loose_all g reached (suc state) states rest here (All-tail (All Way) rs states h))

  copy_way : (copy : ℕ) → copy < count → (r : Rule) → Way r → Way (at_copy copy r)
  copy_way copy less r h = by (is_of class.Ee r)
    where
      by : (b : Bool) → Way (if b then plain ee copy else r)
      by true = end_way copy less
      by false = h

  copy_ways : (g : Rules) → g.content < length g.states → length g.states < count → All (All Way) g.states → Each Way (content_copy g)
  copy_ways g content here h =
      let rs = get_or g.states g.content [] in
      let firsts = firsts_ways rs (All-get_or (All Way) g.states g.content [] content h) in
      later_ways (length g.states) (map (at_copy (length g.states)) (firsts_of rs)) here (All-map Way (at_copy (length g.states)) (firsts_of rs) (All-weaker Way (λ r. Way (at_copy (length g.states) r)) (copy_way (length g.states) here) (firsts_of rs) firsts))

-- ---- a grammar
wider : (o : Outline) (n m : ℕ) → n ≤ m → (r : Rule) → IsWay o n r → IsWay o m r
wider o n m le r way = let less : r.to < m = omega (arith, le, way.to) in record { no_start = way.no_start; no_end = way.no_end; to = less; inner = way.inner; opens = way.opens; stands = way.stands }

loose_length : (g : Rules) (reached : List ℕ) (state : ℕ) (states : List (List Rule)) → length (loose_from g reached state states) ≡ length states
loose_length g reached state [] = refl
loose_length g reached state (rs ∷ states) = ap suc (loose_length g reached (suc state) states)

loose_count : (g : Rules) → length (loose_states g) ≡ length g.states + 1
loose_count g = omega (arith, length-append (loose_from g (attribute_states g) 0 g.states) (content_copy g ∷ []), loose_length g (attribute_states g) 0 g.states)

module _ (o : Outline) (g : Rules) (good : IsGood o g) where
  strict_part : All (Each (IsWay o (length (part_states true g)))) (part_states true g)
  strict_part = subst (λ n. All (Each (IsWay o n)) (map strict_state g.states)) (sym (length-map g.states strict_state)) (All-map (Each (IsWay o (length g.states))) strict_state g.states (All-weaker (All (IsWay o (length g.states))) (λ rs. Each (IsWay o (length g.states)) (strict_state rs)) (strict_ways o (length g.states)) g.states good.rules))

  loose_rules : All (All (IsWay o (length g.states + 1))) g.states
  loose_rules =
      let more : length g.states ≤ length g.states + 1 = omega arith in
      All-weaker (All (IsWay o (length g.states))) (All (IsWay o (length g.states + 1))) (λ rs h. All-weaker (IsWay o (length g.states)) (IsWay o (length g.states + 1)) (wider o (length g.states) (length g.states + 1) more) rs h) g.states good.rules

  loose_part : All (Each (IsWay o (length (part_states false g)))) (part_states false g)
  loose_part =
      let fits : 0 + length g.states ≤ length g.states = omega arith in
      let here : length g.states < length g.states + 1 = omega arith in
      let way = IsWay o (length g.states + 1) in
      let states = loose_all o (length g.states + 1) g (attribute_states g) 0 g.states fits here loose_rules in
      let copy = copy_ways o (length g.states + 1) g good.content here loose_rules in
      subst (λ n. All (Each (IsWay o n)) (loose_states g)) (sym (loose_count g)) (All-append (Each way) (loose_from g (attribute_states g) 0 g.states) (content_copy g ∷ []) states (All-cons (Each way) (content_copy g) [] copy (All-nil (Each way))))

  pub part_ways : (strict : Bool) → All (Each (IsWay o (length (part_states strict g)))) (part_states strict g)
  part_ways true = strict_part
  part_ways false = loose_part

-- a part has states where its normal grammar has
pub part_begins : (strict : Bool) (g : Rules) → 1 ≤ length g.states → 1 ≤ length (part_states strict g)
part_begins true g some = omega (arith, some, length-map g.states strict_state)
part_begins false g some = omega (arith, loose_count g)
