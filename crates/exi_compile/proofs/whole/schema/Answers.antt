use Rattle.std.proofs.Common.{◌≡◌, ◌∷◌, List, ap, map, subst, ◌∙◌}
use Rattle.exi_gram.specs.declared.grammar.Grammar.{Grammar}
use Rattle.exi_gram.specs.Outlines.{attribute_of}
use Rattle.exi_gram.specs.Terminals.{rules_of}
use Rattle.exi_gram.specs.Wholes.{document, fragment, whole_grammar}
use Rattle.exi_compile.specs.Entries.{opened_as}
use Rattle.exi_compile.specs.Makings.{made_of}
use Rattle.exi_compile.specs.Whole.{AreFew}
use Rattle.exi_compile.proofs.Compiling.{outline_is, schema_is, schema_of}
use Rattle.exi_compile.proofs.whole.schema.Goals as goal

pub of-requires : goal.of-requires
of-requires c =
    let p = c.args.parts.now in
    let made = made_of c.args.making in
    let grammars = map rules_of c.in_ok-grammars.grammars in
    let globals = c.in_ok-globals.globals in
    let named = c.args.tables.named in
    let attributes = map attribute_of c.in_ok-attributes.attributes in
    let types = c.in_ok-types.types in
    let names = c.in_ok-names.names in
    let all : grammars ≡ whole_grammar (document (map opened_as globals)) ∷ whole_grammar (fragment named) ∷ made.grammars =
    c.in_ok-grammars.ensures
    ∙ ap (λ g. whole_grammar (document (map opened_as g)) ∷ whole_grammar (fragment c.as_slice-5.result.now) ∷ made.grammars) c.as_slice-4.ensures
    ∙ ap (λ n. whole_grammar (document (map opened_as globals)) ∷ whole_grammar (fragment n) ∷ made.grammars) c.as_slice-5.ensures in
    let few : AreFew grammars = subst (λ (g : List Grammar). AreFew (map rules_of g)) c.as_slice-6.ensures (c.have_few.ensures c.if-not-have_few.false) in
    let same = outline_is p made grammars globals named attributes types names all c.in_ok-globals.ensures c.requires.tables.named c.in_ok-attributes.ensures c.in_ok-types.ensures c.in_ok-names.ensures in
    record { schema = schema_is p made (schema_of grammars globals named attributes types names) c.compiled_is_schema.ensures c.requires.tables.parts c.requires.size c.requires.made same few }
