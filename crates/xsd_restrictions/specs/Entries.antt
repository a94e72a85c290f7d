-- What is kept of a simple type: its values' representation by its place among those that types share.
use Rattle.std.specs.Prelude.{◌≡◌, ℕ, ◌+◌, ◌<◌, ◌≤◌, Bool, true, false, ◌&&◌, not, Option, Some, None, option_map, List, length, take}
use Rattle.exi_names.specs.Datatypes.{Representation, list, choice, text}
use Rattle.exi_names.specs.Seen.{Value}
use Rattle.xsd_bounds.specs.Bounds.{stands_at}
use Rattle.xsd_restrictions.specs.Restrictions.{Simple, Variety, atomic, form_at, form_of, listed, united}
use Rattle.xsd_restrictions.specs.declared.entry.Entry.{Entry}
use Rattle.xsd_restrictions.specs.declared.entry.Kind.{Kind}
use Rattle.xsd_restrictions.specs.declared.entry.Kind.TheVariants as kind

-- what a list's items are represented as
abbrev pub item_of : Representation → Representation
item_of (list r) = r
item_of r = text

abbrev pub variety_in : Kind → Representation → Variety
variety_in kind.Atomic r = atomic
variety_in kind.Listed r = listed (item_of r)
variety_in kind.United r = united

abbrev pub values_of : Representation → Option (Representation × List Value)
values_of (choice r vs) = Some (r, vs)
values_of r = None

abbrev pub values_in : Bool → Representation → Option (Representation × List Value)
values_in true r = values_of r
values_in false r = None

-- the type that is kept so
abbrev pub simple_in : Representation → Entry → Simple
simple_in r e = record {
  variety = variety_in e.kind r;
  family = e.family;
  least = option_map stands_at e.least;
  most = option_map stands_at e.most;
  patterned = e.patterned;
  letters = e.letters;
  values = values_in e.enumerated r;
}

abbrev pub simple_at : List Representation → Entry → Simple
simple_at forms e = simple_in (form_at forms e.form) e

abbrev pub is_choice : Representation → Bool
is_choice (choice r vs) = true
is_choice r = false

-- the representation is there, and the type's; enumerated values are those of a choice
pub record IsEntry (forms : List Representation) (e : Entry) : Type 0 where
  pub there : e.form < length forms
  pub form : form_at forms e.form ≡ form_of (simple_at forms e)
  pub values : e.enumerated ≡ true → is_choice (form_at forms e.form) ≡ true

-- whether its representation changes with its bounds and patterns
abbrev pub is_single : Kind → Bool
is_single kind.Atomic = true
is_single kind.Listed = false
is_single kind.United = false

abbrev pub is_plain : Entry → Bool
is_plain e = is_single e.kind && not e.enumerated

-- few representations more
pub record Grew (old new : List Representation) : Type 0 where
  pub before : take (length old) new ≡ old
  pub few : length new ≤ length old + 2
