-- Whether the declarations of one name agree.
use Rattle.std.specs.Prelude.{ℕ, ◌==◌, ◌&&◌, Bool, true, false, Option, Some, None, List, [], ◌∷◌, fold, if◌then◌else◌}
use Rattle.std.specs.Map.{lookup}
use Rattle.xsd_model.specs.declared.parts.AttributeDecl.{AttributeDecl}
use Rattle.xsd_model.specs.declared.parts.ElementDecl.{ElementDecl}
use Rattle.exi_vocabulary.specs.Named.{name_pair}
use Rattle.exi_vocabulary.specs.Vocabulary.{Pair, attribute_name, element_name, same_flag, same_pair}
use Rattle.exi_vocabulary.specs.declared.agreement.Declared.{Declared}
use Rattle.exi_vocabulary.specs.declared.agreement.Told.{Told}
use Rattle.exi_vocabulary.specs.declared.name.Name.{Name}

-- a name with what all its declarations have to have alike
pub record Decl : Type 0 where
  pub name : Pair
  pub of : ℕ
  pub nillable : Bool

abbrev pub shown : Declared → Decl
shown d = record { name = name_pair d.name; of = d.of; nillable = d.nillable }

abbrev pub of_element : ElementDecl → Decl
of_element e = record { name = element_name e; of = e.of; nillable = e.nillable }

abbrev pub of_attribute : AttributeDecl → Decl
of_attribute a = record { name = attribute_name a; of = a.of; nillable = false }

abbrev pub has_same : Decl → Decl → Bool
has_same a b = a.of == b.of && same_flag a.nillable b.nillable

abbrev pub all_same : Decl → List Decl → Bool
all_same d [] = true
all_same d (x ∷ xs) = if same_pair d.name x.name then has_same d x && all_same d xs else all_same d xs

-- ---- what is told of a name by its declarations, one after another
abbrev pub told_by : Option Told → Decl → Told
told_by None d = record { of = d.of; nillable = d.nillable; agree = true }
told_by (Some t) d = record { of = t.of; nillable = t.nillable; agree = t.agree && (t.of == d.of && same_flag t.nillable d.nillable) }

abbrev pub told_more : Pair → Option Told → Decl → Option Told
told_more name told d = if same_pair name d.name then Some (told_by told d) else told

abbrev pub told_of : Pair → List Decl → Option Told
told_of name ds = fold (told_more name) None ds

abbrev pub Tolds : Type 0
Tolds = List (Name × Told)

abbrev pub told_in : Tolds → Name → Option Told
told_in tolds name = lookup (λ n. same_pair (name_pair name) (name_pair n)) tolds

abbrev pub agree_or : Option Told → Bool
agree_or None = true
agree_or (Some t) = t.agree
