-- Some patterns and their characters.
use Rattle.std.proofs.Common.{◌≡◌, ℕ, List, refl}
use Rattle.std.specs.Prelude.{codes}
use Rattle.exi_pattern.specs.declared.charset.CharSet.TheVariants as charset
use Rattle.exi_names.specs.Characters.{is_xml_char}
use Rattle.exi_pattern.specs.Escapes.{escape, escaped}
use Rattle.exi_pattern.specs.Groups.{group, member, members, single}
use Rattle.exi_pattern.specs.Quantities.{is_quantity, quantity}
use Rattle.exi_pattern.specs.Patterns.{atom_at, chars_of, piece, pieces}

three_digits : chars_of (codes "[0-9]{3}") ≡ charset.Set (codes "0123456789")
unfolding chars_of pieces piece atom_at group members member single escape quantity is_quantity is_xml_char
three_digits = refl

taken_away : chars_of (codes "[a-z-[x]]") ≡ charset.Refused 4
unfolding chars_of pieces piece atom_at group members member single escape quantity is_quantity is_xml_char
taken_away = refl

any_digit : chars_of (codes "\\d") ≡ charset.Any
unfolding chars_of pieces piece atom_at group members member single escape quantity is_quantity is_xml_char
any_digit = refl
