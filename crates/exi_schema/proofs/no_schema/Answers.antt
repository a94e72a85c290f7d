use Rattle.exi_gram.proofs.WithoutSchema.{without_is_schema}
use Rattle.exi_schema.proofs.no_schema.Goals as goal

pub of-requires : goal.of-requires
of-requires c = record {
  schema = rw (
    c.grammars-2.view_is,
    c.in_ok-push.ensures.ok,
    c.new-grammars.ensures,
    c.in_ok-document_grammar.ensures,
    c.new.ensures,
    c.new-2.ensures,
    c.new-3.ensures,
    c.new-4.ensures,
    c.in_ok-without_schema.ensures,
  ) without_is_schema;
}
