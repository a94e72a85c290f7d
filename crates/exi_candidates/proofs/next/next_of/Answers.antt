use Rattle.std.proofs.Common.{◌≡◌, ◌∙◌, ℕ, None, Option, List, ap, sym, subst, map}
use Rattle.std.specs.Prelude.{fold}
use Rattle.std.proofs.lemmas.List.{take_all}
use Rattle.exi_gram.specs.Books.{state_at}
use Rattle.exi_gram.specs.Codes.{Coded, coded}
use Rattle.exi_gram.specs.Naming.{Entry}
use Rattle.exi_gram.specs.Tables.{coded_of}
use Rattle.exi_candidates.specs.declared.key.Key.{Key}
use Rattle.exi_candidates.specs.Order.{IsNext, first_in, first_of, floor_in, floor_of}
use Rattle.exi_candidates.proofs.Firsts.{candidates_within, next_is}
use Rattle.exi_candidates.proofs.next.next_of.Goals as goal

pub nearest-best-requires-clause-places : goal.nearest-best-requires-clause-places
nearest-best-requires-clause-places c = rw (c.candidates-places.ensures, c.coded-coded.ensures.count, c.state.ensures) (candidates_within (coded (state_at c.args.book.now c.args.grammar c.args.state)) _ _)

pub returns : goal.returns
returns c =
    let p = state_at c.args.book.now c.args.grammar c.args.state in
    let codes : map coded_of c.coded-coded.result.now ≡ coded p = c.coded-coded.ensures.codes ∙ ap coded c.state.ensures in
    let is : c.loop-key.best ≡ first_of (coded p) (floor_of p c.args.after) c.args.keys.now =
    c.loop-key.invariant.best
    ∙ ap (λ (ks : List Key). fold (first_in (map coded_of c.coded-coded.result.now) c.floor-floor.result) None ks) (take_all c.loop-key.key-index c.args.keys.now c.loop-key-test.false)
    ∙ ap (λ (f : ℕ). fold (first_in (map coded_of c.coded-coded.result.now) f) None c.args.keys.now) c.floor-floor.ensures
    ∙ ap (λ (cs : List (Coded Entry)). fold (first_in cs (floor_in cs c.args.after)) None c.args.keys.now) codes in
    subst (λ (n : Option ℕ). IsNext p c.args.keys.now c.args.after n) (sym is) (next_is p c.args.keys.now c.args.after c.coded-coded.result.now codes)
