-- What the uses of productions add to a state (EXI 1.0, sections 8.4.2 and 8.4.3).
use Rattle.std.specs.Prelude.{◌&&◌, Bool, true, false, List}
use Rattle.std.specs.List.{list_any}
use Rattle.exi_names.specs.declared.names.NameId.{NameId}
use Rattle.exi_names.specs.NameMaps.{same_name}
use Rattle.exi_builtin.specs.declared.learnable.Learnable.{Learnable}
use Rattle.exi_builtin.specs.declared.learnable.Learnable.TheVariants as learnable
use Rattle.exi_builtin.specs.declared.learnable.Learned.{Learned}
use Rattle.exi_builtin.specs.declared.learnable.Learned.TheVariants as learned

-- the name of xsi:type: the URI and the local name at these places of the first string tables (appendix D)
abbrev pub is_type : NameId → Bool
is_type name = same_name name (record { uri = 2; local = 1 })

-- the production that a use adds
abbrev pub added_by : Learned → Learnable
added_by (learned.Se name) = learnable.Known name false
added_by (learned.At name) = learnable.Known name true
added_by learned.Ch = learnable.Ch true
added_by learned.Ee = learnable.Ee true

-- a production of one part for CH, for EE, for AT(xsi:type)
abbrev pub is_characters : Learnable → Bool
is_characters (learnable.Ch one_part) = one_part
is_characters other = false

abbrev pub is_end : Learnable → Bool
is_end (learnable.Ee one_part) = one_part
is_end other = false

abbrev pub is_known_type : Learnable → Bool
is_known_type (learnable.Known name attribute) = attribute && is_type name
is_known_type other = false

-- CH, EE and AT(xsi:type) are added once only: not where the state has a production of one part for them.
-- Any other attribute is added at each use of AT(*), and an element at each use of SE(*)
abbrev pub stands_already : Learned → List Learnable → Bool
stands_already (learned.Se name) firsts = false
stands_already (learned.At name) firsts = is_type name && list_any is_known_type firsts
stands_already learned.Ch firsts = list_any is_characters firsts
stands_already learned.Ee firsts = list_any is_end firsts
