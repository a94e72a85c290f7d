-- What is kept for names, which are told apart by their places in the string tables (EXI 1.0, section 7.3).
use Rattle.std.specs.Prelude.{◌==◌, ◌&&◌, Bool, Option, None, List, [], slice_index_or}
use Rattle.exi_names.specs.declared.names.NameId.{NameId}

-- names are the same where both places are: whoever asks has looked up the least places of their texts
abbrev pub same_name : NameId → NameId → Bool
same_name a b = (a.uri == b.uri) && (a.local == b.local)

-- what is kept for a name, and nothing where nothing is
abbrev pub kept_for : {X : Type 0} → List (List (Option X)) → NameId → Option X
kept_for rows name = slice_index_or (slice_index_or rows name.uri []) name.local None
