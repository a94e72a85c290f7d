use Rattle.std.proofs.Common.{◌≡◌, ◌++◌, OnOk, ◌∙◌, subst}
use Rattle.exi_proto.specs.Pieces.{Piece}
use Rattle.exi_proto.specs.Places.{with_first}
use Rattle.exi_proto.specs.Tasks.{ends_left, made, set_at}
use Rattle.exi_proto.proofs.Parted.{opening_alone, openings_are, openings_fit}
use Rattle.exi_proto.proofs.work.Work.push_element.Goals as goal

pub returns-then-places-eq1-clause-made : goal.returns-then-places-eq1-clause-made
returns-then-places-eq1-clause-made c =
    let o = c.args.self.now in
    subst (λ (x : Piece). OnOk c.push_opening.result (made c.push_opening.new.self ≡ made o ++ with_first (ends_left o) (set_at c.args.spot x.states)))
    (opening_alone c.args.elements.now c.as_slice-places.result.now _ 0 (c.as_slice-places.ensures ∙ c.in_ok-places.ensures) c.if-places-eq1.true)
    c.push_opening.ensures.made

pub push_openings-requires : goal.push_openings-requires
push_openings-requires c = record { fits = openings_fit c.args.elements.now c.as_slice-places.result.now _ c.args.spot (c.as_slice-places.ensures ∙ c.in_ok-places.ensures) c.if-places-eq1.false c.requires.fits }

pub returns-clause-made : goal.returns-clause-made
returns-clause-made c =
    let o = c.args.self.now in
    subst (λ (x : Piece). OnOk c.push_openings.result (made c.push_openings.new.self ≡ made o ++ with_first (ends_left o) (set_at c.args.spot x.states)))
    (openings_are c.args.elements.now c.as_slice-places.result.now _ (c.as_slice-places.ensures ∙ c.in_ok-places.ensures) c.if-places-eq1.false)
    c.push_openings.ensures.made
