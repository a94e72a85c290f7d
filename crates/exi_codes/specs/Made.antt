-- How a state of a book is put together, one production after another: each with the places of what it names, where the
-- options leave it (EXI 1.0, sections 6.2 and 8.3).
use Rattle.std.specs.Prelude.{◌==◌, ℕ, Bool, true, false, List, [], ◌∷◌, map, filter, if◌then◌else◌}
use Rattle.exi_names.specs.StartTables.{Names}
use Rattle.exi_gram.specs.declared.options.Options.{Options}
use Rattle.exi_gram.specs.Additions.{content_added, early_added, later_added, start_added, untyped}
use Rattle.exi_gram.specs.Books.{is_kept}
use Rattle.exi_gram.specs.Codes.{Productions, Second, group, kept_second, kept_seconds, mapped_second, single}
use Rattle.exi_gram.specs.Naming.{Entry, entry_of}
use Rattle.exi_gram.specs.Tables.{with_firsts, with_member, with_second, with_seconds}
use Rattle.exi_gram.specs.Terminals.{Rule, at_any, ns, sc, xsi_nil, xsi_type}
use Rattle.exi_gram.specs.Wholes.{plain}

-- what the options leave of productions
abbrev pub entries : Options → Names → List Rule → List Entry
entries o names rs = filter (is_kept o) (map (entry_of names) rs)

-- with more codes of one part
abbrev pub with_rules : Options → Names → Productions Entry → List Rule → Productions Entry
with_rules o names p rs = with_firsts p (entries o names rs)

-- with one more second part, and with more of them
abbrev pub with_part : Options → Names → Productions Entry → Second Rule → Productions Entry
with_part o names p x = with_seconds p (kept_second (is_kept o) (mapped_second (entry_of names) x))

abbrev pub with_parts : Options → Names → Productions Entry → List (Second Rule) → Productions Entry
with_parts o names p xs = with_seconds p (kept_seconds (is_kept o) (map (mapped_second (entry_of names)) xs))

-- with one more in the last group, which begins with it where there is none yet
abbrev pub in_group : Bool → Productions Entry → Entry → Productions Entry
in_group true p e = with_member p e
in_group false p e = with_second p (group (e ∷ []))

abbrev pub grouped : Options → Names → Bool → Productions Entry → Rule → Productions Entry
grouped o names any p r = if is_kept o (entry_of names r) then in_group any p (entry_of names r) else p

-- what is added to a state of a grammar that is not kept to strictly: the start, an early one or another
abbrev pub added_by : Bool → ℕ → ℕ → List Rule → List (Second Rule)
added_by early state copy firsts = if state == 0 then start_added 0 copy firsts else if early then early_added state copy firsts else later_added state firsts

-- the state with these
abbrev pub loose_by : Bool → ℕ → ℕ → List Rule → Productions Rule
loose_by early state copy firsts = record { firsts = firsts; seconds = added_by early state copy firsts }

-- what is added past the end of the element
abbrev pub start_rest : ℕ → List Rule → List (Second Rule)
start_rest copy firsts = single (plain xsi_type 0) ∷ single (plain xsi_nil 0) ∷ single (plain at_any 0) ∷ untyped 0 firsts ∷ single (plain ns 0) ∷ single (plain sc 0) ∷ content_added copy

abbrev pub early_rest : ℕ → ℕ → List Rule → List (Second Rule)
early_rest state copy firsts = single (plain at_any state) ∷ untyped state firsts ∷ content_added copy
