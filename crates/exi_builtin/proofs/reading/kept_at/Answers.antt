use Rattle.std.proofs.Common.{rules, tests, ◌∙◌, None, Some, Option, ◌≡◌, refl}
use Rattle.std.specs.Prelude.{option_map}
use Rattle.std.proofs.lemmas.Iterator.{YieldsList-from_slice}
use Rattle.std.proofs.lemmas.Iterator.Consumers.{YieldsList-at, YieldsList-from_copied, YieldsList-from_filter, nth_from_yields_List}
use Rattle.exi_builtin.specs.BuiltIn.{is_kept}
use Rattle.exi_builtin.proofs.reading.kept_at.Goals as goal

as_is : {X : Type 0} (o : Option X) → o ≡ option_map (λ x. x) o
as_is None = refl
as_is (Some x) = refl

pub returns : goal.returns
returns c =
    as_is c.nth.result
    ∙ nth_from_yields_List c.nth.result _ c.args.place c.nth.ensures.ran
    (YieldsList-from_filter _ (is_kept c.args.options.now)
    (YieldsList-at c.filter.ensures.source (YieldsList-from_copied (YieldsList-at c.copied.ensures.source (YieldsList-from_slice c.args.list.now cc))))
    c.filter.ensures.closure (λ x r q k. search (rules, tests)))
