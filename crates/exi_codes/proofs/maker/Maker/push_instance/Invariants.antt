use Rattle.std.proofs.Common.{◌≡◌, filter, map, take}
use Rattle.exi_gram.specs.Additions.{is_of_instance}
use Rattle.exi_gram.specs.Codes.{single}
use Rattle.exi_gram.specs.Terminals.{rule}
use Rattle.exi_codes.specs.Made.{with_parts}
use Rattle.exi_codes.proofs.maker.Maker.push_instance.Given as goal

abbrev pub invariant-loop-production : goal.invariant-loop-production
invariant-loop-production l = l.made ≡ with_parts l.self.options.now l.self.places.now l.fn.made (map single (filter is_of_instance (map rule (take l.production-index l.state))))
