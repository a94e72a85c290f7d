use Rattle.std.proofs.Common.{◌≡◌, ◌<◌, ◌-◌, ◌^◌, Some, None, true, is_some, length, sym, ap, ◌∙◌}
use Rattle.std.specs.Prelude.{position}
use Rattle.std.specs.Map.{keys_of, lookup}
use Rattle.std.specs.Str.{bytes_eq}
use Rattle.std.proofs.lemmas.List.{length-map}
use Rattle.exi_tables.proofs.ByHash.{known_kept, known_puts, known_text, new_kept, new_puts, new_text, none_of}
use Rattle.exi_tables.proofs.hash_texts.HashTextsTexts.push.Goals as goal

pub invariant_of-self-in-Some : goal.invariant_of-self-in-Some
invariant_of-self-in-Some c =
    let entries = c.self.inside.numbers.entries in
    let places = c.self.inside.places.items in
    let room : length places < 2 ^ 32 - 1 = rw (← c.self.view_is, length-map) at c.requires in
    let found : position (bytes_eq c.args.text) (keys_of entries) ≡ Some c.in-Some.index = sym c.get_index_of.ensures.index ∙ c.in-Some.is in
    rw (c.push_reserved.ensures.items, c.in_ok-reserve.ensures.items)
    (known_kept entries places c.args.text c.in-Some.index c.self.invariant room found)

pub returns-in-Some-clause-texts : goal.returns-in-Some-clause-texts
returns-in-Some-clause-texts c =
    let entries = c.self.inside.numbers.entries in
    let places = c.self.inside.places.items in
    let found : position (bytes_eq c.args.text) (keys_of entries) ≡ Some c.in-Some.index = sym c.get_index_of.ensures.index ∙ c.in-Some.is in
    rw (c.push_reserved.ensures.items, c.in_ok-reserve.ensures.items, ← c.self.view_is)
    (known_text entries places c.args.text c.in-Some.index found)

pub returns-in-Some-clause-known : goal.returns-in-Some-clause-known
returns-in-Some-clause-known c =
    let entries = c.self.inside.numbers.entries in
    let some : true ≡ is_some (lookup (bytes_eq c.args.text) entries) = ap is_some (sym c.in-Some.is) ∙ c.get_index_of.ensures.found in
    rw (← c.self.view_is) (known_puts entries c.args.text c.args.number some)

pub invariant_of-self-2 : goal.invariant_of-self-2
invariant_of-self-2 c =
    let entries = c.self.inside.numbers.entries in
    let places = c.self.inside.places.items in
    let room : length places < 2 ^ 32 - 1 = rw (← c.self.view_is, length-map) at c.requires in
    let absent : lookup (bytes_eq c.args.text) entries ≡ None = none_of (lookup (bytes_eq c.args.text) entries) (ap is_some (sym c.in_default.is) ∙ c.get_index_of.ensures.found) in
    rw (c.push_reserved-2.ensures.items, c.in_ok-reserve.ensures.items)
    (new_kept entries c.insert_full.new.self.entries places c.args.text c.args.number c.in_ok-index.index c.self.invariant absent c.in_ok-index.ensures.entries c.in_ok-index.ensures.index room)

pub returns-clause-texts : goal.returns-clause-texts
returns-clause-texts c =
    let entries = c.self.inside.numbers.entries in
    let places = c.self.inside.places.items in
    let absent : lookup (bytes_eq c.args.text) entries ≡ None = none_of (lookup (bytes_eq c.args.text) entries) (ap is_some (sym c.in_default.is) ∙ c.get_index_of.ensures.found) in
    rw (c.push_reserved-2.ensures.items, c.in_ok-reserve.ensures.items, ← c.self.view_is)
    (new_text entries c.insert_full.new.self.entries places c.args.text c.args.number c.in_ok-index.index c.self.invariant absent c.in_ok-index.ensures.entries c.in_ok-index.ensures.index)

pub returns-clause-known : goal.returns-clause-known
returns-clause-known c =
    let entries = c.self.inside.numbers.entries in
    let places = c.self.inside.places.items in
    let absent : lookup (bytes_eq c.args.text) entries ≡ None = none_of (lookup (bytes_eq c.args.text) entries) (ap is_some (sym c.in_default.is) ∙ c.get_index_of.ensures.found) in
    rw (← c.self.view_is)
    (new_puts entries c.insert_full.new.self.entries places c.args.text c.args.number c.in_ok-index.index c.self.invariant absent c.in_ok-index.ensures.entries c.in_ok-index.ensures.index c.in_ok-index.ensures.updates.0)
