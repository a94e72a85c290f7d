use Rattle.std.proofs.Common.{◌≡◌, map, drop}
use Rattle.std.specs.List.{list_all}
use Rattle.std.specs.Option.{is_some}
use Rattle.exi_names.specs.Datatypes.{represented}
use Rattle.exi_lexical.specs.Values.{value}
use Rattle.xsd_form_values.proofs.items.each_has.Given as goal

abbrev pub invariant-loop-word : goal.invariant-loop-word
invariant-loop-word l =
    list_all (λ w. is_some (value (represented l.fn.item) w)) (map (λ w. w.now) (drop l.word-index l.fn.words))
    ≡ list_all (λ w. is_some (value (represented l.fn.item) w)) (map (λ w. w.now) l.fn.words)
