use Rattle.std.proofs.Common.{Option, Some, None, List, ℕ, Bool, refl, ap, ◌∙◌}
use Rattle.exi_names.specs.Shown.{named}
use Rattle.exi_gram.specs.Globals.{Places, first_at, is_named, name_hash, places_under, type_grammar}
use Rattle.exi_gram.specs.declared.entry.TypeEntry.{TypeEntry}
use Rattle.exi_gram.proofs.Hashes.{first_is, has_named}
use Rattle.exi_gram.proofs.globals.Globals.type_grammar.Goals as goal

pub returns : goal.returns
returns c =
    let name = named c.args.name in
    let test : TypeEntry → Bool = λ t. is_named t.name name in
    let answer : TypeEntry → Option ℕ = λ t. Some t.full in
    c.type_among.ensures
    ∙ ap (first_at test answer None c.types.result.now) (c.find.ensures ∙ ap (λ (p : Places). places_under p.types (name_hash name.uri name.local)) c.self.view_is)
    ∙ ap (λ (ts : List TypeEntry). first_at test answer None ts (places_under c.args.self.now.types (name_hash name.uri name.local))) c.types.ensures.types
    ∙ first_is (λ (ts : List TypeEntry). type_grammar ts name) test answer None refl (λ t ts. refl) (λ t. t.name) (name_hash name.uri name.local) (λ t h. has_named t.name name h) c.args.self.now.types c.args.schema.now.types c.requires.finds.types
