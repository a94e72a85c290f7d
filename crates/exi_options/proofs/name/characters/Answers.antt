use Rattle.std.proofs.Common.{ap, ◌∙◌}
use Rattle.exi_bits.specs.declared.align.Align.TheVariants as align
use Rattle.exi_meter.specs.Metering.{nothing_used}
use Rattle.exi_options.proofs.Names.{stops_of}
use Rattle.exi_options.proofs.name.characters.Goals as goal

pub returns-clause-read : goal.returns-clause-read
returns-clause-read c =
    stops_of c.read_chars.result align.Bits c.args.count c.args.input.now c.read_chars.new.input c.read_chars.new.meter c.new-meter.result c.requires.few (c.new-meter.ensures.value ∙ ap nothing_used c.of_stream.ensures) c.read_chars.ensures.read
