use Rattle.std.proofs.Common.{rules, tests, ap, ◌∙◌}
use Rattle.std.proofs.lemmas.Iterator.Consumers.{YieldsList-from_filter, map_from_collect}
use Rattle.std.proofs.lemmas.Iterator.Splits.{YieldsList-from_slice_split}
use Rattle.std.specs.Slice.Iter as slice
use Rattle.exi_lexical.specs.Spaces.{is_some_text, is_space}
use Rattle.xsd_form_values.proofs.Words.{text_is}
use Rattle.xsd_form_values.proofs.items.words_of.Goals as goal

pub returns : goal.returns
returns c =
    let source = c.filter.ensures.source in
    map_from_collect _ c.collect.ensures.ran (YieldsList-from_filter _ is_some_text
    (YieldsList-from_slice_split _ is_space c.args.letters.now
    (ap (λ s. slice.split_rest s) source ∙ c.split.ensures.rest)
    (ap (λ s. slice.split_done s) source ∙ c.split.ensures.done)
    (ap (λ s. slice.split_callee s) source ∙ c.split.ensures.closure)
    (λ x r q k. search (rules, tests)))
    c.filter.ensures.closure (λ x r q k. let e = text_is x.now in search (rules, tests)))
