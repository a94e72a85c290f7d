use Rattle.std.proofs.Common.{◌≡◌, ◌∙◌, ap, sym}
use Rattle.std.specs.Prelude.{Some, None, slice_get}
use Rattle.exi_gram.specs.Reaching.{is_among}
use Rattle.exi_normal.proofs.Marked.{marked_none, marked_some, read_none, read_some}
use Rattle.exi_normal.proofs.marks.Marks.has.Goals as goal

pub returns-in-Some-get : goal.returns-in-Some-get
returns-in-Some-get c =
    let place : slice_get c.self.inside.places.items c.args.state ≡ Some c.in-Some.place.now =
    ap (λ z. slice_get z c.args.state) (sym c.deref.ensures.value) ∙ read_some c.deref.result.now c.args.state c.in-Some.place.now c.in-Some.ensures.lookup.0 c.in-Some.ensures.lookup.1 in
    let other : slice_get c.self.inside.states.items c.in-Some.place.now ≡ Some c.in-Some-get.other.now =
    ap (λ z. slice_get z c.in-Some.place.now) (sym c.deref-in-Some.ensures.value) ∙ read_some c.deref-in-Some.result.now c.in-Some.place.now c.in-Some-get.other.now c.in-Some-get.ensures.lookup.0 c.in-Some-get.ensures.lookup.1 in
    marked_some c.self.inside.places.items c.self.inside.states.items c.args.state c.in-Some.place.now c.in-Some-get.other.now c.self.invariant place other ∙ ap (is_among c.args.state) c.self.view_is

pub returns-in-None-get : goal.returns-in-None-get
returns-in-None-get c =
    let place : slice_get c.self.inside.places.items c.args.state ≡ Some c.in-Some.place.now =
    ap (λ z. slice_get z c.args.state) (sym c.deref.ensures.value) ∙ read_some c.deref.result.now c.args.state c.in-Some.place.now c.in-Some.ensures.lookup.0 c.in-Some.ensures.lookup.1 in
    let none : slice_get c.self.inside.states.items c.in-Some.place.now ≡ None =
    ap (λ z. slice_get z c.in-Some.place.now) (sym c.deref-in-Some.ensures.value) ∙ read_none c.deref-in-Some.result.now c.in-Some.place.now c.in-None-get.ensures.lookup.0 in
    marked_none c.self.inside.places.items c.self.inside.states.items c.args.state c.in-Some.place.now c.self.invariant place none ∙ ap (is_among c.args.state) c.self.view_is
