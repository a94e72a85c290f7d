use Rattle.std.proofs.Common.{Option, Some, None, List, ℕ, Bool, refl, ap, ◌∙◌}
use Rattle.exi_names.specs.Shown.{named}
use Rattle.exi_gram.specs.Globals.{Places, element_grammar, first_at, name_hash, places_under, same_texts}
use Rattle.exi_gram.specs.declared.entry.ElementEntry.{ElementEntry}
use Rattle.exi_gram.proofs.Hashes.{first_is, has_own}
use Rattle.exi_gram.proofs.globals.Globals.element_grammar.Goals as goal

pub returns : goal.returns
returns c =
    let name = named c.args.name in
    let test : ElementEntry → Bool = λ e. same_texts e.name name in
    let answer : ElementEntry → Option ℕ = λ e. Some e.full in
    c.element_among.ensures
    ∙ ap (first_at test answer None c.globals-elements.result.now) (c.find.ensures ∙ ap (λ (p : Places). places_under p.elements (name_hash name.uri name.local)) c.self.view_is)
    ∙ ap (λ (es : List ElementEntry). first_at test answer None es (places_under c.args.self.now.elements (name_hash name.uri name.local))) c.globals-elements.ensures.globals
    ∙ first_is (λ (es : List ElementEntry). element_grammar es name) test answer None refl (λ e es. refl) (λ e. Some e.name) (name_hash name.uri name.local) (λ e h. has_own e.name name h) c.args.self.now.elements c.args.schema.now.globals c.requires.finds.elements
