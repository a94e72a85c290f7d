-- A stop of what a command uses is a stop of the command.
use Rattle.exi_names.specs.declared.stops.TextStop.{TextStop}
use Rattle.exi_names.specs.declared.stops.TextStop.TheVariants as text_stop
use Rattle.exi_ports.specs.declared.sink.SinkStop.{SinkStop}
use Rattle.exi_ports.specs.declared.sink.SinkStop.TheVariants as sink_stop
use Rattle.exi_run.specs.declared.halt.Halt.{Halt}
use Rattle.exi_run.specs.declared.halt.Halt.TheVariants as halt
use Rattle.exi_run.specs.declared.halt.Refusal.TheVariants as refusal
use Rattle.exi_run.specs.declared.unwritten.Unwritten.TheVariants as unwritten
use Rattle.exi_writer.specs.declared.fault.WriteFault.{WriteFault}
use Rattle.exi_writer.specs.declared.fault.WriteFault.TheVariants as fault
use Rattle.exi_processing.specs.declared.turn.ReadStop.{ReadStop}
use Rattle.exi_processing.specs.declared.turn.ReadStop.TheVariants as read_stop

-- of the sink
abbrev pub halt_of : SinkStop → Halt
halt_of sink_stop.Failed = halt.Write
halt_of sink_stop.Memory = halt.Memory

-- of the reader, whose events go to the sink
abbrev pub halt_by : ReadStop → Halt
halt_by read_stop.Stopped = halt.Write
halt_by read_stop.Memory = halt.Memory

-- of the event text
abbrev pub halt_at : TextStop → Halt
halt_at (text_stop.Syntax line) = halt.Refused (refusal.Events (unwritten.Syntax line))
halt_at text_stop.Memory = halt.Memory

-- of the writer
abbrev pub halt_for : WriteFault → Halt
halt_for (fault.NotDerived event) = halt.Refused (refusal.Events (unwritten.NotDerived event))
halt_for (fault.Limit event k) = halt.Refused (refusal.Events (unwritten.Limit event k))
halt_for fault.Memory = halt.Memory
