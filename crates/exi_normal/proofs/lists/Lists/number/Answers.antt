use Rattle.std.proofs.Common.{◌≡◌, ◌<◌, ◌∙◌, List, ap, length, map, sym, subst}
use Rattle.std.specs.Prelude.{bytes_eq, nat_lt}
use Rattle.std.specs.List.{position_or_len}
use Rattle.std.specs.Vec.{vec_items}
use Rattle.std.proofs.lemmas.Bool.{ltb-true}
use Rattle.std.proofs.lemmas.Option.{cond_some}
use Rattle.exi_normal.specs.Normals.{number_of, with_list}
use Rattle.exi_normal.proofs.Works.{known_list, known_number, put_list, put_number}
use Rattle.exi_normal.proofs.lists.Lists.number.Goals as goal

pub returns-in-Some-clause-number : goal.returns-in-Some-clause-number
returns-in-Some-clause-number c =
    let keys = c.self.inside.lists.keys in
    let w = cond_some (nat_lt (position_or_len (λ k. bytes_eq c.args.list.now (vec_items k)) keys) (length keys)) (position_or_len (λ k. bytes_eq c.args.list.now (vec_items k)) keys) c.in-Some.place (sym c.in-Some.ensures.index) in
    sym w.1 ∙ known_number vec_items keys c.args.list.now ∙ ap (number_of c.args.list.now) c.self.view_is

pub returns-in-Some-clause-lists : goal.returns-in-Some-clause-lists
returns-in-Some-clause-lists c =
    let keys = c.self.inside.lists.keys in
    let w = cond_some (nat_lt (position_or_len (λ k. bytes_eq c.args.list.now (vec_items k)) keys) (length keys)) (position_or_len (λ k. bytes_eq c.args.list.now (vec_items k)) keys) c.in-Some.place (sym c.in-Some.ensures.index) in
    let less : position_or_len (λ k. bytes_eq c.args.list.now (vec_items k)) keys < length keys = ltb-true (position_or_len (λ k. bytes_eq c.args.list.now (vec_items k)) keys) (length keys) w.0 in
    subst (λ z. z ≡ with_list c.args.list.now z) c.self.view_is (known_list vec_items keys c.args.list.now less)

pub returns-in_ok-place-in-None-clause-number : goal.returns-in_ok-place-in-None-clause-number
returns-in_ok-place-in-None-clause-number c =
    c.in_ok-place-in-None.ensures.index
    ∙ put_number vec_items c.self.inside.lists.keys c.in_ok-copy-in-None.copy
    ∙ (λ i. number_of (c.in_ok-copy-in-None.ensures i) (c.self.view_is i))

pub returns-in_ok-place-in-None-clause-lists : goal.returns-in_ok-place-in-None-clause-lists
returns-in_ok-place-in-None-clause-lists c =
    ap (λ ks. map vec_items ks) c.in_ok-place-in-None.ensures.keys
    ∙ put_list vec_items c.self.inside.lists.keys c.in_ok-copy-in-None.copy
    ∙ (λ i. with_list (c.in_ok-copy-in-None.ensures i) (c.self.view_is i))
