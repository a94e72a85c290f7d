-- A document that shows no fault: each condition fails at each element that no annotation holds.
use Rattle.std.proofs.Common.{◌≡◌, ℕ, zero, suc, ◌+◌, ◌<◌, Bool, true, false, cond, Option, Some, None, List, [], ◌∷◌, length, refl, sym, ap, ◌∙◌, arith}
use Rattle.std.proofs.lemmas.Bool.{or_parts}
use Rattle.std.proofs.lemmas.Option.{none-some}
use Rattle.xsd_model.specs.declared.fault.SchemaFault.{SchemaFault}
use Rattle.xsd_model.specs.declared.fault.SchemaKind.{SchemaKind}
use Rattle.xsd_model.specs.declared.fault.SchemaKind.TheVariants as kind
use Rattle.xsd_tree.specs.declared.node.Node.{Node}
use Rattle.xsd_nodes.specs.declared.attribute_name.AttributeName.TheVariants as attribute
use Rattle.xsd_nodes.specs.declared.part.Part.TheVariants as part
use Rattle.xsd_nodes.specs.Nodes.{is_skipped}
use Rattle.xsd_conditions.specs.Conditions.{has_bad_name, is_second, lacks_item, lacks_name, lacks_simple_base, lacks_type, lacks_value, restricts_nothing}
use Rattle.xsd_schema.specs.Facets.{enumerates_no_value, is_no_value, is_second_pattern, lacks_member, pattern_is_refused}
use Rattle.xsd_schema.specs.Shown.{first_from, is_circular, or_else, or_later}
use Rattle.xsd_schema.specs.Fitting.{lacks_fitting_base}
use Rattle.xsd_schema.specs.Shows.{is_bad, is_unread_or_wild, is_unresolved, is_unsupported, kind_at, shows_at}
use Rattle.xsd_slots.specs.Slots.{is_unknown}
use Rattle.xsd_told.specs.Told.{has_bad_bounds, is_named_and_refers, is_nameless, is_unread, lacks_base, lacks_head, names_no_type, refers_to_missing, refers_to_none}
use Rattle.xsd_type_wildcards.specs.TypeWildcards.{is_second_wild}
use Rattle.xsd_wildcards.specs.Wildcards.{is_foreign_wild}

-- no condition holds of this element
pub record IsFree (joined : Bool) (ns : List Node) (i : ℕ) : Type 0 where
  pub unknown : is_unknown ns i ≡ false
  pub unread : is_unread joined ns i ≡ false
  pub foreign_wild : is_foreign_wild ns i ≡ false
  pub second_wild : is_second_wild ns i ≡ false
  pub no_enumerated : enumerates_no_value ns i ≡ false
  pub second_pattern : is_second_pattern ns i ≡ false
  pub no_name : lacks_name ns i ≡ false
  pub bad_name : has_bad_name ns i ≡ false
  pub nameless : is_nameless ns i ≡ false
  pub no_reference : refers_to_none ns i ≡ false
  pub named_and_refers : is_named_and_refers ns i ≡ false
  pub no_base : lacks_base ns i ≡ false
  pub nothing_restricted : restricts_nothing ns i ≡ false
  pub no_item_type : lacks_type ns part.List attribute.ItemType i ≡ false
  pub no_member_types : lacks_type ns part.Union attribute.MemberTypes i ≡ false
  pub bad_bounds : has_bad_bounds ns i ≡ false
  pub no_facet_value : lacks_value ns i ≡ false
  pub no_value : is_no_value ns i ≡ false
  pub second : is_second ns i ≡ false
  pub no_type : names_no_type ns i ≡ false
  pub missing : refers_to_missing ns i ≡ false
  pub no_head : lacks_head ns i ≡ false
  pub no_simple_base : lacks_simple_base ns i ≡ false
  pub no_item : lacks_item ns i ≡ false
  pub no_member : lacks_member ns i ≡ false
  pub no_fitting_base : lacks_fitting_base ns i ≡ false
  pub circular : is_circular ns i ≡ false
  pub refused : pattern_is_refused ns i ≡ false

some_none : {X : Type 0} (x : X) → Some x ≡ None → ⊥
some_none x e = none-some x (sym e)

-- ---- the first that holds, where none does
else_parts : (b : Bool) (k : SchemaKind) (more : Option SchemaKind) → or_else b k more ≡ None → (b ≡ false) × (more ≡ None)
else_parts true k more e = absurd (some_none k e)
else_parts false k more e = (refl, e)

kind_free : (joined : Bool) (ns : List Node) (i : ℕ) → kind_at joined ns i ≡ None → IsFree joined ns i
unfolding is_unread_or_wild
kind_free joined ns i e =
    let at1 = else_parts (is_unknown ns i) kind.UnknownPart _ e in
    let at2 = else_parts (is_unsupported joined ns i) kind.Unsupported _ at1.1 in
    let at3 = else_parts (is_bad ns i) kind.BadPart _ at2.1 in
    let at4 = else_parts (is_second ns i) kind.TwiceDeclared _ at3.1 in
    let at5 = else_parts (is_unresolved ns i) kind.Unresolved _ at4.1 in
    let at6 = else_parts (is_circular ns i) kind.Circular _ at5.1 in
    let at7 = else_parts (pattern_is_refused ns i) kind.PatternRefused None at6.1 in
    -- unsupported
    let u1 = or_parts _ (is_second_pattern ns i) at2.0 in
    let u2 = or_parts (is_unread_or_wild joined ns i) (enumerates_no_value ns i) u1.0 in
    let u3 = or_parts _ (is_second_wild ns i) u2.0 in
    let u4 = or_parts (is_unread joined ns i) (is_foreign_wild ns i) u3.0 in
    -- bad
    let b1 = or_parts _ (is_no_value ns i) at3.0 in
    let b2 = or_parts _ (lacks_value ns i) b1.0 in
    let b3 = or_parts _ (has_bad_bounds ns i) b2.0 in
    let b4 = or_parts _ (lacks_type ns part.Union attribute.MemberTypes i) b3.0 in
    let b5 = or_parts _ (lacks_type ns part.List attribute.ItemType i) b4.0 in
    let b6 = or_parts _ (restricts_nothing ns i) b5.0 in
    let b7 = or_parts _ (lacks_base ns i) b6.0 in
    let b8 = or_parts _ (is_named_and_refers ns i) b7.0 in
    let b9 = or_parts _ (refers_to_none ns i) b8.0 in
    let b10 = or_parts _ (is_nameless ns i) b9.0 in
    let b11 = or_parts (lacks_name ns i) (has_bad_name ns i) b10.0 in
    -- unresolved
    let r1 = or_parts _ (lacks_fitting_base ns i) at5.0 in
    let r2 = or_parts _ (lacks_member ns i) r1.0 in
    let r3 = or_parts _ (lacks_item ns i) r2.0 in
    let r4 = or_parts _ (lacks_simple_base ns i) r3.0 in
    let r5 = or_parts _ (lacks_head ns i) r4.0 in
    let r6 = or_parts (names_no_type ns i) (refers_to_missing ns i) r5.0 in
    record {
      unknown = at1.0;
      unread = u4.0;
      foreign_wild = u4.1;
      second_wild = u3.1;
      no_enumerated = u2.1;
      second_pattern = u1.1;
      no_name = b11.0;
      bad_name = b11.1;
      nameless = b10.1;
      no_reference = b9.1;
      named_and_refers = b8.1;
      no_base = b7.1;
      nothing_restricted = b6.1;
      no_item_type = b5.1;
      no_member_types = b4.1;
      bad_bounds = b3.1;
      no_facet_value = b2.1;
      no_value = b1.1;
      second = at4.0;
      no_type = r6.0;
      missing = r6.1;
      no_head = r5.1;
      no_simple_base = r4.1;
      no_item = r3.1;
      no_member = r2.1;
      no_fitting_base = r1.1;
      circular = at6.0;
      refused = at7.0;
    }

-- ---- none of the elements shows anything
later_parts : (event : ℕ) (o : Option SchemaKind) (later : Option SchemaFault) → or_later event o later ≡ None → (o ≡ None) × (later ≡ None)
later_parts event None later e = (refl, e)
later_parts event (Some k) later e = absurd (some_none (record { kind = k; event = event }) e)

none_shows : (shows : ℕ → Option SchemaKind) (i : ℕ) (ns : List Node) → first_from shows i ns ≡ None → (j : ℕ) → j < length ns → shows (i + j) ≡ None
none_shows shows i [] e j less = absurd (omega (arith, less))
none_shows shows i (n ∷ ns) e zero less =
    let here : i + zero ≡ i = omega arith in
    ap shows here ∙ (later_parts n.event (shows i) (first_from shows (suc i) ns) e).0
none_shows shows i (n ∷ ns) e (suc j) less =
    let there : i + suc j ≡ suc i + j = omega arith in
    ap shows there ∙ none_shows shows (suc i) ns (later_parts n.event (shows i) (first_from shows (suc i) ns) e).1 j (omega (arith, less))

pub free_at : (joined : Bool) (ns : List Node) (i : ℕ) → first_from (shows_at joined ns) 0 ns ≡ None → i < length ns → is_skipped ns i ≡ false → IsFree joined ns i
unfolding shows_at
free_at joined ns i e less free =
    let zero_plus : 0 + i ≡ i = omega arith in
    kind_free joined ns i
    (sym (ap (λ b. cond b None (kind_at joined ns i)) free)
    ∙ sym (ap (shows_at joined ns) zero_plus)
    ∙ none_shows (shows_at joined ns) 0 ns e i less)
