-- What the parts of a schema become is a schema.
use Rattle.std.proofs.Common.{◌≡◌, ◌≢◌, ℕ, ◌+◌, ◌*◌, ◌%◌, ◌<◌, ◌≤◌, ◌^◌, Bool, true, false, leb, if◌then◌else◌, Option, Some, None, Result, Ok, Err, List, [], ◌∷◌, ◌++◌, All, length, map, refl, sym, subst, arith}
use Rattle.std.proofs.lemmas.List.{length-append}
use Rattle.std.proofs.lemmas.List.Elements.{All-append, All-cons, All-map, All-nil, All-weaker}
use Rattle.exi_names.specs.declared.names.QName.{QName}
use Rattle.exi_gram.specs.declared.entry.ElementEntry.{ElementEntry}
use Rattle.exi_gram.specs.declared.entry.TypeEntry.{TypeEntry}
use Rattle.exi_gram.specs.Naming.{named_in}
use Rattle.exi_gram.specs.Outlines.{Outline}
use Rattle.exi_gram.specs.Schemas.{AllIn, IsFull, IsInner, IsOfPart, IsSchema, LeadsWithin, Opens, Stands, StandsIfAny}
use Rattle.exi_gram.specs.Terminals.{Rule, Rules}
use Rattle.exi_gram.specs.Wholes.{document, fragment, whole_grammar}
use Rattle.xsd_model.specs.declared.fault.SchemaFault.{SchemaFault}
use Rattle.xsd_model.specs.declared.fault.SchemaKind.TheVariants as kind
use Rattle.xsd_model.specs.declared.parts.ElementDecl.{ElementDecl}
use Rattle.xsd_model.specs.Parts.{Parts}
use Rattle.exi_counts.specs.Counts.{most_states}
use Rattle.exi_compiled.specs.Compiled.{Made, all_made, and_then, elements_of, fault_at, global_entries, instance_rules, items_of, outline_of, outlined, type_entries_from, with_fragment, with_instance, with_items}
use Rattle.exi_compiled.specs.FragmentGrammar.{element_fragment, empty_fragment}
use Rattle.exi_compiled.specs.Sound.{CompiledIsSchema, HasFewProductions}
use Rattle.exi_vocabulary.specs.FirstNames.{IsOfSize, first_names_of, told_uris}
use Rattle.exi_compiled.proofs.Entries.{IsEntry, OfElement, OfType, attributes_is, globals_is, types_is}
use Rattle.exi_compiled.proofs.Fragments.{IsOpened, all_grammars, elements_is, empty_is, fragment_count, fragment_is as fragment_part, items_all}
use Rattle.exi_compiled.proofs.Good.{HasNames, IsGood, Opened}
use Rattle.exi_compiled.proofs.Lists.{two}
use Rattle.exi_compiled.proofs.Made.{IsPart, item_grammars, items_made, part_more, with_instance_is}
use Rattle.exi_compiled.proofs.Named.{has_names}
use Rattle.exi_compiled.proofs.Normal.{OfRule}
use Rattle.exi_compiled.proofs.Places.{IsFullBelow, items_few}
use Rattle.exi_compiled.proofs.Wholes.{IsPlain, IsWhole, document_is, fragment_is}

-- ---- all that are made
record AreMade (p : Parts) (made : Made) : Type 0 where
  all : All (IsPart p (all_grammars p)) made.grammars
  count : 2 + length made.grammars ≡ all_grammars p

module _ (p : Parts) (names : HasNames p) where
  fragment_made : (es : List ElementDecl) (made now : Made) → p.elements ≡ es → All (IsPart p (all_grammars p)) made.grammars → with_fragment p es made ≡ Ok now
      → All (IsPart p (all_grammars p)) now.grammars × (length now.grammars ≡ length made.grammars + fragment_count es)
  fragment_made [] made now is h e =
      let same : made ≡ now = cc in
      subst (λ (m : Made). All (IsPart p (all_grammars p)) m.grammars × (length m.grammars ≡ length made.grammars + 0)) same (h, omega arith)
  fragment_made (d ∷ ds) made now is h e = by (leb (made.total + 4) most_states) e
    where
      pair : List Rules
      pair = with_instance (instance_rules true true) (element_fragment p (elements_of p)) ∷ empty_fragment p ∷ []

      by : (b : Bool) → (if b then Ok (record { total = made.total + 4; grammars = made.grammars ++ pair }) else Err (fault_at kind.TooLarge d.event)) ≡ Ok now
          → All (IsPart p (all_grammars p)) now.grammars × (length now.grammars ≡ length made.grammars + 2)
      by false e = absurd cc
      by true e =
          let same : record { total = made.total + 4; grammars = made.grammars ++ pair } ≡ now = cc in
          let full = with_instance_is p (all_grammars p) true true (element_fragment p (elements_of p)) (fragment_part p names) in
          subst (λ (m : Made). All (IsPart p (all_grammars p)) m.grammars × (length m.grammars ≡ length made.grammars + 2)) same (
            All-append (IsPart p (all_grammars p)) made.grammars pair h (two (IsPart p (all_grammars p)) (with_instance (instance_rules true true) (element_fragment p (elements_of p))) (empty_fragment p) full (empty_is p names)),
            length-append made.grammars pair,
          )

  are_made : (now : Made) → all_made p ≡ Ok now → AreMade p now
  are_made now e = by (with_items p (items_of p) (record { total = 0; grammars = [] })) refl e
    where
      by : (r : Result Made SchemaFault) → with_items p (items_of p) (record { total = 0; grammars = [] }) ≡ r → and_then r (with_fragment p p.elements) ≡ Ok now → AreMade p now
      by (Err fault) w e = absurd cc
      by (Ok made) w e =
          let first = items_made p names (items_of p) (record { total = 0; grammars = [] }) made (All-nil (IsPart p (item_grammars p))) w in
          let more = All-weaker (IsPart p (item_grammars p)) (IsPart p (all_grammars p)) (part_more p (item_grammars p) (all_grammars p) (items_all p)) made.grammars first.all in
          let last = fragment_made p.elements made now refl more e in
          let a : length made.grammars ≡ 0 + 2 * length (items_of p) = first.count in
          let b : length now.grammars ≡ length made.grammars + fragment_count p.elements = last.1 in
          record { all = last.0; count = omega (arith, a, b) }

-- ---- the schema
few_fragment : (es : List ElementDecl) → (n : ℕ) → ((2 + 2 * n + fragment_count es) % 2 ≡ 0) × (fragment_count es ≤ 2)
few_fragment [] n = (let e : (2 + 2 * n + 0) % 2 ≡ 0 = omega arith in e, omega arith)
few_fragment (e ∷ es) n = (let e : (2 + 2 * n + 2) % 2 ≡ 0 = omega arith in e, omega arith)

module _ (p : Parts) (names : HasNames p) (size : IsOfSize p) (made : Made) (are : AreMade p made) where
  abbrev o : Outline
  o = outline_of p made

  abbrev doc : Rules
  doc = whole_grammar (document (map (λ e. (e.name, e.full)) (global_entries p)))

  abbrev frag : Rules
  frag = whole_grammar (fragment (elements_of p))

  opened_globals : All (λ (e : QName × ℕ). Stands (first_names_of p) e.0 × IsFullBelow (all_grammars p) e.1) (map (λ e. (e.name, e.full)) (global_entries p))
  opened_globals =
      All-map (λ (e : QName × ℕ). Stands (first_names_of p) e.0 × IsFullBelow (all_grammars p) e.1) (λ (e : ElementEntry). (e.name, e.full)) (global_entries p)
      (All-weaker (OfElement p names) (λ (e : ElementEntry). Stands (first_names_of p) e.name × IsFullBelow (all_grammars p) e.full) (λ e x. (x.1, x.0.full_is)) (global_entries p) (globals_is p names))

  doc_is : IsWhole p (all_grammars p) doc
  doc_is = document_is p (all_grammars p) (map (λ e. (e.name, e.full)) (global_entries p)) opened_globals

  frag_is : IsWhole p (all_grammars p) frag
  frag_is = fragment_is p (all_grammars p) (elements_of p) (elements_is p names)

  -- the wholes, and the others
  each_grammar : (P : Rules → Type 0) → ((g : Rules) → IsWhole p (all_grammars p) g → P g) → ((g : Rules) → IsPart p (all_grammars p) g → P g) → All P (doc ∷ frag ∷ made.grammars)
  each_grammar P h k = All-cons P doc (frag ∷ made.grammars) (h doc doc_is) (All-cons P frag made.grammars (h frag frag_is) (All-weaker (IsPart p (all_grammars p)) P k made.grammars are.all))

  -- each of their productions
  each_rule : (P : Rule → Type 0) → ((r : Rule) → OfRule (IsPlain p (all_grammars p)) r → P r) → ((r : Rule) → OfRule (IsGood p (IsFullBelow (all_grammars p))) r → P r) → All (AllIn P) (doc ∷ frag ∷ made.grammars)
  each_rule P h k =
      each_grammar (AllIn P)
      (λ g w. All-weaker (All (OfRule (IsPlain p (all_grammars p)))) (All P) (λ state. All-weaker (OfRule (IsPlain p (all_grammars p))) P h state) g.states w.all)
      (λ g w. All-weaker (All (OfRule (IsGood p (IsFullBelow (all_grammars p))))) (All P) (λ state. All-weaker (OfRule (IsGood p (IsFullBelow (all_grammars p)))) P k state) g.states w.all)

  count : length (doc ∷ frag ∷ made.grammars) ≡ all_grammars p
  count = let c : 2 + length made.grammars ≡ all_grammars p = are.count in omega (arith, c)

  is_full : (place : ℕ) → IsFullBelow (all_grammars p) place → IsFull o place
  is_full place h = let below : place + 1 < all_grammars p = h.below in record { past_wholes = h.past; even = h.even; empty_form = omega (arith, count, below) }

  is_inner : (inner : Option ℕ) → Opened (IsFullBelow (all_grammars p)) inner → IsInner o inner
  is_inner None h = tt
  is_inner (Some place) h = is_full place h

  few : length (doc ∷ frag ∷ made.grammars) < 2 ^ 30
  few =
      let items : length (items_of p) ≤ length p.types + length p.elements = items_few p in
      let more = (few_fragment p.elements 0).1 in
      let least : length p.elements + (length p.attributes + (length p.types + length (told_uris p))) ≤ 268435456 = size in
      let goal : length (doc ∷ frag ∷ made.grammars) < 1073741824 = omega (arith, count, items, more, least) in
      goal

  small_states : (g : Rules) (most : ℕ) → length g.states ≤ most → most ≤ 65536 → length g.states < 2 ^ 30
  small_states g most le m = let goal : length g.states < 1073741824 = omega arith in goal

  entry_full : {full empty : ℕ} → IsEntry p full empty → IsFull o full × (empty ≡ full + 1)
  entry_full {full} h = (is_full full h.full_is, h.empty_is)

  outline_is : HasFewProductions o → IsSchema o
  outline_is productions = record {
    small = record {
      grammars = few;
      states = each_grammar (λ g. length g.states < 2 ^ 30) (λ g w. small_states g 3 w.few (omega arith)) (λ g w. small_states g most_states w.few (omega arith));
      productions = productions;
    };
    has_states = each_grammar (λ g. 1 ≤ length g.states) (λ g w. w.some) (λ g w. w.some);
    opens_all = each_rule Opens (λ r h. h.opens) (λ r h. h.opens);
    within = each_grammar LeadsWithin (λ g w. w.within) (λ g w. w.within);
    has_wholes = record { document = refl; fragment = λ e. refl; without = λ e. absurd cc };
    ends =
        All-weaker (IsPart p (all_grammars p)) (AllIn IsOfPart)
        (λ g w. All-weaker (All (OfRule (IsGood p (IsFullBelow (all_grammars p))))) (All IsOfPart) (λ state. All-weaker (OfRule (IsGood p (IsFullBelow (all_grammars p)))) IsOfPart (λ r h. record { no_start = h.no_start; no_end = h.no_end }) state) g.states w.all)
        made.grammars are.all;
    paired = record {
      pairs = λ e. subst (λ (n : ℕ). n % 2 ≡ 0) (sym count) (few_fragment p.elements (length (items_of p))).0;
      inners = each_rule (λ r. IsInner o r.inner) (λ r h. is_inner r.inner h.opened) (λ r h. is_inner r.inner h.opened);
      globals = All-weaker (OfElement p names) (λ (e : ElementEntry). IsFull o e.full × (e.empty ≡ e.full + 1)) (λ e x. entry_full x.0) (global_entries p) (globals_is p names);
      types = All-weaker (OfType p names) (λ (e : TypeEntry). IsFull o e.full × (e.empty ≡ e.full + 1)) (λ e x. entry_full x.0) (type_entries_from p 0 p.types) (types_is p names);
      fragment = All-weaker (IsOpened p names) (λ (e : QName × ℕ). IsFull o e.1) (λ e x. is_full e.1 x.1) (elements_of p) (elements_is p names);
    };
    told = record {
      productions = each_rule (λ r. named_in (first_names_of p) r.on ≢ None) (λ r h. h.named) (λ r h. h.named);
      globals = All-weaker (OfElement p names) (λ (e : ElementEntry). Stands (first_names_of p) e.name) (λ e x. x.1) (global_entries p) (globals_is p names);
      fragment = All-weaker (IsOpened p names) (λ (e : QName × ℕ). Stands (first_names_of p) e.0) (λ e x. x.0) (elements_of p) (elements_is p names);
      attributes = attributes_is p names;
      types = All-weaker (OfType p names) (λ (e : TypeEntry). StandsIfAny (first_names_of p) e.name) (λ e x. x.1) (type_entries_from p 0 p.types) (types_is p names);
    };
  }

pub compiled_is : CompiledIsSchema
compiled_is p o parts size made few = by (all_made p) refl made
  where
    by : (r : Result Made SchemaFault) → all_made p ≡ r → outlined p r ≡ Ok o → IsSchema o
    by (Err fault) w e = absurd cc
    by (Ok now) w e =
        let same : outline_of p now ≡ o = cc in
        subst (λ (q : Outline). HasFewProductions q → IsSchema q) same (outline_is p (has_names p) size now (are_made p (has_names p) now w)) few
