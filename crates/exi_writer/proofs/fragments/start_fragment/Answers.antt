use Rattle.std.proofs.Common.{[], ◌∷◌, refl}
use Rattle.std.proofs.lemmas.Result.{err_from_is_err_and}
use Rattle.exi_names.specs.Events as event
use Rattle.exi_names.specs.Shown.{named}
use Rattle.exi_writer.proofs.Composed.{ready}
use Rattle.exi_writer.proofs.Putting.{starts_on, starts_ready, starts_stop}
use Rattle.exi_writer.specs.Writing.{composing_at}
use Rattle.exi_writing.specs.Pruned.{pruned_name}
use Rattle.exi_writer.proofs.fragments.start_fragment.Goals as goal

pub start_document-requires : goal.start_document-requires
start_document-requires g c = record { ready = ready (composing_at c.args.pen.now) c.args.pen.now c.requires.composed refl }

pub returns-in_err-start_document : goal.returns-in_err-start_document
returns-in_err-start_document g c =
    let p = err_from_is_err_and c.from_residual.result c.from_residual.ensures.1 in
    rw (p.1, p.2) (starts_stop c.in_err-start_document.field-0.0 c.args.pen.now c.start_document.new.self (event.se (pruned_name c.args.pen.now.setting.options (named c.args.name)) ∷ []) c.requires.start c.in_err-start_document.ensures.writes)

pub element-requires : goal.element-requires
element-requires g c = record { ready = starts_ready c.written_is_read.ensures.one c.args.pen.now c.start_document.new.self c.requires.start c.requires.composed c.in_ok-start_document.ensures.writes }

pub returns : goal.returns
returns g c = starts_on c.element.result c.args.pen.now c.start_document.new.self c.element.new.self (named c.args.name) c.requires.start c.in_ok-start_document.ensures.writes c.element.ensures.writes
