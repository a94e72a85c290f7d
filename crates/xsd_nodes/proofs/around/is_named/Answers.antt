use Rattle.std.proofs.Common.{sym, ap, ◌∙◌, ◌&&◌}
use Rattle.std.specs.Str.{bytes_eq, chars}
use Rattle.xsd_nodes.specs.AttributeNames.{attribute_word}
use Rattle.xsd_nodes.proofs.Words.{no_chars, word_chars}
use Rattle.xsd_nodes.proofs.around.is_named.Goals as goal

pub returns-then-is_text : goal.returns-then-is_text
returns-then-is_text c =
    c.is_text-then-is_text.ensures
    ∙ ap (λ w. bytes_eq c.args.name.now.local w) (ap (λ w. chars w) c.word.ensures.word ∙ word_chars c.args.wanted)
    ∙ ap (λ b. b && bytes_eq c.args.name.now.local (attribute_word c.args.wanted)) (sym c.if-is_text.true ∙ c.is_text.ensures ∙ ap (bytes_eq c.args.name.now.uri) no_chars)

pub returns-else-is_text : goal.returns-else-is_text
returns-else-is_text c =
    c.if-is_text.false
    ∙ ap (λ b. b && bytes_eq c.args.name.now.local (attribute_word c.args.wanted)) (sym c.if-is_text.false ∙ c.is_text.ensures ∙ ap (bytes_eq c.args.name.now.uri) no_chars)
