use Rattle.std.proofs.Common.{◌≡◌, ◌++◌, ◌∷◌, ◌<◌, ◌∙◌, [], ap, length, refl, set, sym, subst}
use Rattle.std.specs.Prelude.{None, Some, slice_get}
use Rattle.std.proofs.lemmas.Option.{slice_get_read}
use Rattle.exi_normal.specs.Numbers.{AreNoted, group_of, place_on}
use Rattle.exi_normal.proofs.Marked.{found_there, noted_found, noted_new, noted_past, put_found, put_new}
use Rattle.exi_normal.proofs.groups.put.Goals as goal

pub index_mut-requires : goal.index_mut-requires
index_mut-requires c =
    let e : Some c.in-Some.place ≡ place_on c.args.reading.on c.args.groups.now.items = c.in-Some.ensures ∙ ap (place_on c.args.reading.on) c.as_slice.ensures.value in
    subst (λ n. c.in-Some.place < n) (sym c.args.groups.now.ok.0) (found_there c.args.reading.on c.args.groups.now.items c.in-Some.place e)

pub returns-in_ok-join-in-Some-clause-groups : goal.returns-in_ok-join-in-Some-clause-groups
returns-in_ok-join-in-Some-clause-groups c =
    let gs = c.args.groups.now.items in
    let place = c.in-Some.place in
    let e : Some place ≡ place_on c.args.reading.on gs = c.in-Some.ensures ∙ ap (place_on c.args.reading.on) c.as_slice.ensures.value in
    let p : slice_get gs place ≡ Some c.index_mut.result.now = slice_get_read gs (length gs) place c.index_mut.result.now refl (found_there c.args.reading.on gs place e) c.index_mut.ensures.value in
    ap (set gs place) c.in_ok-join-in-Some.ensures ∙ sym (put_found c.args.reading gs place c.index_mut.result.now e p)

pub returns-in_ok-join-in-Some-clause-noted : goal.returns-in_ok-join-in-Some-clause-noted
returns-in_ok-join-in-Some-clause-noted c =
    let gs = c.args.groups.now.items in
    let place = c.in-Some.place in
    let e : Some place ≡ place_on c.args.reading.on gs = c.in-Some.ensures ∙ ap (place_on c.args.reading.on) c.as_slice.ensures.value in
    let p : slice_get gs place ≡ Some c.index_mut.result.now = slice_get_read gs (length gs) place c.index_mut.result.now refl (found_there c.args.reading.on gs place e) c.index_mut.ensures.value in
    subst (λ z. AreNoted c.args.notes.now z) (ap (set gs place) (sym c.in_ok-join-in-Some.ensures)) (noted_found c.args.notes.now gs place c.args.reading c.index_mut.result.now c.requires.noted p)

pub returns-then-reading-notes-clause-groups : goal.returns-then-reading-notes-clause-groups
returns-then-reading-notes-clause-groups c =
    let gs = c.args.groups.now.items in
    let e : None ≡ place_on c.args.reading.on gs = c.in-None.ensures ∙ ap (place_on c.args.reading.on) c.as_slice.ensures.value in
    c.in_ok-push-in-None.ensures.items ∙ ap (λ z. gs ++ z ∷ []) c.in_ok-of-in-None.ensures ∙ sym (put_new c.args.reading gs e)

pub returns-then-reading-notes-clause-noted : goal.returns-then-reading-notes-clause-noted
returns-then-reading-notes-clause-noted c =
    let gs = c.args.groups.now.items in
    let e : None ≡ place_on c.args.reading.on gs = c.in-None.ensures ∙ ap (place_on c.args.reading.on) c.as_slice.ensures.value in
    let many : c.len-place.result ≡ length gs = c.len-place.ensures ∙ c.args.groups.now.ok.0 in
    let new : c.push.new.self.items ≡ gs ++ group_of c.args.reading ∷ [] = c.in_ok-push-in-None.ensures.items ∙ ap (λ z. gs ++ z ∷ []) c.in_ok-of-in-None.ensures in
    subst (λ n. AreNoted (set c.args.notes.now c.args.reading.on n) c.push.new.self.items) (sym many)
    (subst (λ z. AreNoted (set c.args.notes.now c.args.reading.on (length gs)) z) (sym new) (noted_new c.args.notes.now gs c.args.reading c.requires.noted e))

pub returns-else-reading-notes-clause-groups : goal.returns-else-reading-notes-clause-groups
returns-else-reading-notes-clause-groups c =
    let gs = c.args.groups.now.items in
    let e : None ≡ place_on c.args.reading.on gs = c.in-None.ensures ∙ ap (place_on c.args.reading.on) c.as_slice.ensures.value in
    c.in_ok-push-in-None.ensures.items ∙ ap (λ z. gs ++ z ∷ []) c.in_ok-of-in-None.ensures ∙ sym (put_new c.args.reading gs e)

pub returns-else-reading-notes-clause-noted : goal.returns-else-reading-notes-clause-noted
returns-else-reading-notes-clause-noted c =
    let gs = c.args.groups.now.items in
    let new : c.push.new.self.items ≡ gs ++ group_of c.args.reading ∷ [] = c.in_ok-push-in-None.ensures.items ∙ ap (λ z. gs ++ z ∷ []) c.in_ok-of-in-None.ensures in
    subst (λ z. AreNoted c.args.notes.now z) (sym new) (noted_past c.args.notes.now gs c.args.reading c.requires.noted c.if-reading-notes.false)
