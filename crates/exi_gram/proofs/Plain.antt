-- A book without a schema has the Document grammar alone.
use Rattle.std.proofs.Common.{◌≡◌, false, List, [], ◌∷◌, map, refl, ap, ◌∙◌}
use Rattle.exi_gram.specs.Additions.{made_states}
use Rattle.exi_gram.specs.Books.{Contents, IsBook, IsPlainBook, state_of}
use Rattle.exi_gram.specs.Codes.{Productions}
use Rattle.exi_gram.specs.Switches.{strict}
use Rattle.exi_gram.specs.Terminals.{Rule}
use Rattle.exi_gram.specs.Wholes.{document}

pub plain_made : (b : Contents) → b.schema.known ≡ false → made_states (strict b.options) b.schema ≡ document [] ∷ []
plain_made b plain = rw plain refl

pub plain_book : (b : Contents) → IsBook b → b.schema.known ≡ false → IsPlainBook b
plain_book b is plain = record {
  no_conflict = is.no_conflict;
  states = is.states ∙ ap (λ (z : List (List (Productions Rule))). map (map (state_of b.options b.schema.names)) z) (plain_made b plain);
}
