use Rattle.std.proofs.Common.{[], ◌∷◌, length}
use Rattle.std.specs.Prelude.{Ok, Err}
use Rattle.std.proofs.lemmas.Result.{err_from_is_err_and}
use Rattle.exi_names.specs.Events as event
use Rattle.exi_names.specs.Shown.{named}
use Rattle.exi_processing.specs.declared.start.Start.TheVariants as start
use Rattle.exi_writer.proofs.Putting.{enters_may}
use Rattle.exi_writer.proofs.Starts.{at_byte, begun, opens_so}
use Rattle.exi_writing.specs.Pruned.{pruned_name}
use Rattle.exi_writer.proofs.writer.Writer.new.Goals as goal

pub new-requires-in-Fragment-clause-place : goal.new-requires-in-Fragment-clause-place
new-requires-in-Fragment-clause-place g c = at_byte c.bytes.result.now c.args.head c.bytes.ensures.bits (rw c.in-Fragment.is at c.requires.aligned)

pub start_fragment-requires-clause-composed : goal.start_fragment-requires-clause-composed
start_fragment-requires-clause-composed g c =
    let whole = rw c.in-Fragment.is at c.requires.aligned in
    begun c.in_ok-pen-in-Fragment.pen c.args.book.now (start.Fragment (length c.bytes.result.now)) c.args.limits c.args.head c.in_ok-pen-in-Fragment.ensures.first c.in_ok-pen-in-Fragment.ensures.within c.in_ok-pen-in-Fragment.ensures.setting c.in_ok-pen-in-Fragment.ensures.names (at_byte c.bytes.result.now c.args.head c.bytes.ensures.bits whole) (λ b. whole)

pub returns-in_err-start_fragment-in-Fragment-clause-starts : goal.returns-in_err-start_fragment-in-Fragment-clause-starts
returns-in_err-start_fragment-in-Fragment-clause-starts g c =
    let p = err_from_is_err_and c.from_residual-in_err-start_fragment-in-Fragment.result c.from_residual-in_err-start_fragment-in-Fragment.ensures.1 in
    let place = at_byte c.bytes.result.now c.args.head c.bytes.ensures.bits (rw c.in-Fragment.is at c.requires.aligned) in
    rw (c.in-Fragment.is, p.1, p.2) (opens_so (Err c.in_err-start_fragment-in-Fragment.field-0.0) c.in_ok-pen-in-Fragment.pen c.start_fragment.new.pen c.args.book.now (length c.bytes.result.now) c.args.limits c.args.head (named c.as_ref.result) c.in-Fragment.name.now c.as_ref.ensures c.in_ok-pen-in-Fragment.ensures.first place c.in_err-start_fragment-in-Fragment.ensures)

pub returns-in_ok-new-in-Body-clause-composed : goal.returns-in_ok-new-in-Body-clause-composed
returns-in_ok-new-in-Body-clause-composed g c =
    let whole = rw c.in-Body.is at c.requires.aligned in
    λ going. begun c.in_ok-new-in-Body.field-0 c.args.book.now start.Body c.args.limits c.args.head c.in_ok-new-in-Body.ensures.first c.in_ok-new-in-Body.ensures.within c.in_ok-new-in-Body.ensures.setting c.in_ok-new-in-Body.ensures.names tt whole

pub returns-in_ok-start_fragment-in-Fragment-clause-starts : goal.returns-in_ok-start_fragment-in-Fragment-clause-starts
returns-in_ok-start_fragment-in-Fragment-clause-starts g c =
    let place = at_byte c.bytes.result.now c.args.head c.bytes.ensures.bits (rw c.in-Fragment.is at c.requires.aligned) in
    rw c.in-Fragment.is (opens_so (Ok c.in_ok-start_fragment-in-Fragment.field-0) c.in_ok-pen-in-Fragment.pen c.start_fragment.new.pen c.args.book.now (length c.bytes.result.now) c.args.limits c.args.head (named c.as_ref.result) c.in-Fragment.name.now c.as_ref.ensures c.in_ok-pen-in-Fragment.ensures.first place c.in_ok-start_fragment-in-Fragment.ensures)

pub returns-in_ok-start_fragment-in-Fragment-clause-composed : goal.returns-in_ok-start_fragment-in-Fragment-clause-composed
returns-in_ok-start_fragment-in-Fragment-clause-composed g c =
    let whole = rw c.in-Fragment.is at c.requires.aligned in
    let here = begun c.in_ok-pen-in-Fragment.pen c.args.book.now (start.Fragment (length c.bytes.result.now)) c.args.limits c.args.head c.in_ok-pen-in-Fragment.ensures.first c.in_ok-pen-in-Fragment.ensures.within c.in_ok-pen-in-Fragment.ensures.setting c.in_ok-pen-in-Fragment.ensures.names (at_byte c.bytes.result.now c.args.head c.bytes.ensures.bits whole) (λ b. whole) in
    enters_may c.written_is_read.ensures.one c.in_ok-pen-in-Fragment.pen c.start_fragment.new.pen (event.sd ∷ event.se (pruned_name c.in_ok-pen-in-Fragment.pen.setting.options (named c.as_ref.result)) ∷ []) here c.in_ok-start_fragment-in-Fragment.ensures
