-- The wildcard of a type is the one that it has from where it is told.
use Rattle.std.proofs.Common.{◌≡◌, ℕ, zero, suc, eqb, Bool, true, false, cond, ◌&&◌, Option, Some, None, List, length, refl, sym, ap, ◌∙◌}
use Rattle.std.specs.Option.{is_some}
use Rattle.xsd_tree.specs.declared.node.Node.{Node}
use Rattle.xsd_nodes.specs.Nodes.{has, is_at}
use Rattle.xsd_nodes.specs.declared.part.Part.TheVariants as part
use Rattle.xsd_builtins.specs.BuiltIns.{any_type}
use Rattle.xsd_components.specs.References.{base, is_simple}
use Rattle.xsd_components.specs.declared.type_at.TypeAt.{TypeAt}
use Rattle.xsd_components.specs.declared.type_at.TypeAt.TheVariants as type_at
use Rattle.xsd_paths.specs.Paths.{has_whole_groups, is_whole_type}
use Rattle.xsd_wildcards.specs.declared.allowed.Allowed.{Allowed}
use Rattle.xsd_wildcards.specs.declared.allowed.Allowed.TheVariants as allows
use Rattle.xsd_type_wildcards.specs.Sources.{holder_or, inherited, is_wild, source_of, source_of_base, source_within, wild_at}
use Rattle.xsd_type_wildcards.specs.Told.{AreTypes, if_whole, is_present, is_told, own_told, told_in}
use Rattle.xsd_type_wildcards.specs.TypeWildcards.{attributes_in, derives_content, has_all_groups, has_wild_base, has_wild_type, is_second_wild, or_inherited, own_wild, type_wild, type_wild_within, wild_of_base}
use Rattle.xsd_type_wildcards.specs.declared.source.Source.{Source}
use Rattle.xsd_type_wildcards.specs.declared.source.Source.TheVariants as source

-- a type has this wildcard from there
pub record IsFrom (ns : List Node) (s : Source) (w : Option Allowed) : Type 0 where
  pub is : wild_at ns s ≡ w
  pub wild : is_wild s ≡ has w

nowhere : (ns : List Node) → IsFrom ns source.Nowhere None
nowhere ns = record { is = refl; wild = refl }

any_type_from : (ns : List Node) (any : Bool) → IsFrom ns (cond any source.AnyType source.Nowhere) (cond any (Some allows.Every) None)
any_type_from ns true = record { is = refl; wild = refl }
any_type_from ns false = nowhere ns

abbrev AreFrom : List Node → ℕ → Type 0
AreFrom ns n = (t : TypeAt) → IsFrom ns (source_within n ns t) (type_wild_within n ns t)

inherited_from : (ns : List Node) (n : ℕ) → AreFrom ns n → (extends : Bool) (b : Option TypeAt) → IsFrom ns (cond extends (source_of_base (source_within n ns) b) source.Nowhere) (cond extends (wild_of_base (type_wild_within n ns) b) None)
inherited_from ns n h false b = nowhere ns
inherited_from ns n h true None = nowhere ns
inherited_from ns n h true (Some t) = h t

held_from : (ns : List Node) (n d : ℕ) → AreFrom ns n → (own : Option Allowed) → own_wild ns d ≡ own → IsFrom ns (holder_or (has own) d (inherited ns (source_within n ns) d)) (or_inherited ns (type_wild_within n ns) d own)
held_from ns n d h (Some a) e = record { is = e; wild = refl }
held_from ns n d h None e = inherited_from ns n h (is_at ns part.Extension d) (base ns d)

node_from : (ns : List Node) (n d : ℕ) → AreFrom ns n → (simple : Bool) → IsFrom ns (cond simple source.Nowhere (holder_or (has (own_wild ns d)) d (inherited ns (source_within n ns) d))) (cond simple None (or_inherited ns (type_wild_within n ns) d (own_wild ns d)))
node_from ns n d h true = nowhere ns
node_from ns n d h false = held_from ns n d h (own_wild ns d) refl

pub from_within : (ns : List Node) (n : ℕ) → AreFrom ns n
from_within ns zero t = nowhere ns
from_within ns (suc n) (type_at.Built place) = any_type_from ns (eqb place any_type)
from_within ns (suc n) (type_at.Node i) = node_from ns n (attributes_in ns i) (from_within ns n) (is_simple ns (type_at.Node i))

pub is_from : (ns : List Node) (t : TypeAt) → IsFrom ns (source_of ns t) (type_wild ns t)
unfolding source_of type_wild
is_from ns t = from_within ns (suc (length ns)) t

-- ---- what is told
present_is : (whole : Bool) (s : Source) → is_present (if_whole whole s) ≡ (whole && is_wild s)
present_is true s = refl
present_is false s = refl

pub told_own_is : (whole own : Bool) → is_told (if_whole whole own) ≡ (whole && own)
told_own_is true own = refl
told_own_is false own = refl

pub wild_type_is : (ns : List Node) (types : List (Option Source)) (t : TypeAt) → AreTypes ns types → (is_whole_type ns t && is_present (told_in types t)) ≡ has_wild_type ns (Some t)
wild_type_is ns types t h = by (is_whole_type ns t) refl
  where
    by : (whole : Bool) → is_whole_type ns t ≡ whole → (whole && is_present (told_in types t)) ≡ (whole && has_all_groups ns t && has (type_wild ns t))
    by false e = refl
    by true e = ap is_present (h.each t e) ∙ present_is (has_all_groups ns t) (source_of ns t) ∙ ap (λ b. has_all_groups ns t && b) (is_from ns t).wild

pub wild_type_found : (ns : List Node) (types : List (Option Source)) (t : TypeAt) (whole found : Bool) (told : Option Source) → AreTypes ns types → whole ≡ is_whole_type ns t → whole ≡ true → told ≡ told_in types t → found ≡ is_present told → found ≡ has_wild_type ns (Some t)
wild_type_found ns types t whole found told h whole_is all_there told_is found_is =
    found_is ∙ ap is_present told_is ∙ ap (λ b. b && is_present (told_in types t)) (sym all_there ∙ whole_is) ∙ wild_type_is ns types t h

-- ---- an element that derives with a wildcard from a type that has one
second_by : (derives whole own base : Bool) → derives ≡ true → (whole && own) ≡ true → base ≡ (derives && whole && own && base)
second_by derives whole own base e f = ap (λ b. b && base) (sym f) ∙ ap (λ b. b && whole && own && base) (sym e)

not_second_by : (derives whole own base : Bool) → (whole && own) ≡ false → false ≡ (derives && whole && own && base)
not_second_by true whole own base f = ap (λ b. b && base) (sym f)
not_second_by false whole own base f = refl

pub is_second : (ns : List Node) (i : ℕ) (derives so found : Bool) (own : Option Bool) → derives ≡ derives_content ns i → derives ≡ true → own ≡ own_told ns i → so ≡ is_told own → so ≡ true → found ≡ has_wild_base ns i (base ns i) → found ≡ is_second_wild ns i
is_second ns i derives so found own derives_is derived own_is so_is told found_is =
    let held : (has_whole_groups ns i && has (own_wild ns i)) ≡ true = sym (told_own_is (has_whole_groups ns i) (has (own_wild ns i))) ∙ ap is_told (sym own_is) ∙ sym so_is ∙ told in
    found_is ∙ second_by (derives_content ns i) (has_whole_groups ns i) (has (own_wild ns i)) (has_wild_base ns i (base ns i)) (sym derives_is ∙ derived) held

pub is_not_second : (ns : List Node) (i : ℕ) (so : Bool) (own : Option Bool) → own ≡ own_told ns i → so ≡ is_told own → so ≡ false → false ≡ is_second_wild ns i
is_not_second ns i so own own_is so_is not_told =
    not_second_by (derives_content ns i) (has_whole_groups ns i) (has (own_wild ns i)) (has_wild_base ns i (base ns i)) (sym (told_own_is (has_whole_groups ns i) (has (own_wild ns i))) ∙ ap is_told (sym own_is) ∙ sym so_is ∙ not_told)

-- ---- where a type has its wildcard from
pub source_is : (ns : List Node) (types : List (Option Source)) (t : TypeAt) → AreTypes ns types → is_whole_type ns t ≡ true → has_all_groups ns t ≡ true → told_in types t ≡ Some (source_of ns t)
source_is ns types t h whole groups = h.each t whole ∙ ap (λ b. if_whole b (source_of ns t)) groups

pub wild_is : (ns : List Node) (t : TypeAt) (s : Source) → s ≡ source_of ns t → wild_at ns s ≡ type_wild ns t
wild_is ns t s e = ap (wild_at ns) e ∙ (is_from ns t).is

some_whole : (whole : Bool) (s : Source) → is_some (if_whole whole s) ≡ whole
some_whole true s = refl
some_whole false s = refl

pub all_groups_told : (ns : List Node) (types : List (Option Source)) (t : TypeAt) → AreTypes ns types → is_whole_type ns t ≡ true → is_some (told_in types t) ≡ has_all_groups ns t
all_groups_told ns types t h whole = ap is_some (h.each t whole) ∙ some_whole (has_all_groups ns t) (source_of ns t)
