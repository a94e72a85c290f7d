use Rattle.exi_gram.specs.Tables.{coded_of}
use Rattle.exi_choice.specs.Choices.{wanting}
use Rattle.exi_choice.proofs.Searching.{IsKept, all_behind, kept_at, less_left, none_left, place_kept, place_there, still_behind, this_found}
use Rattle.exi_choice.proofs.found.first_of_candidates.Goals as goal

pub loop-place-init : goal.loop-place-init
loop-place-init c =
    let kept : IsKept c.args.book.now c.args.grammar c.args.state c.coded-coded.result.now = record {
      book = c.schema-schema.ensures.book;
      schema = rw c.schema-schema.ensures.schema at c.is_known.ensures.schema;
      exists = c.requires.exists;
      codes = rw c.state.ensures at c.coded-coded.ensures.codes;
      small = c.coded-coded.ensures.small;
    } in
    record {
      kept = kept;
      there = tt;
      behind = all_behind c.args.book.now c.args.grammar c.args.state (wanting c.args.wanted) c.coded-coded.result.now kept;
    }

pub bounds-coded-place : goal.bounds-coded-place
bounds-coded-place c = place_kept c.args.book.now c.args.grammar c.args.state (wanting c.args.wanted) c.coded-coded.result.now c.loop-place.invariant.kept _ _ c.in-Some.place c.in-Some.ensures

pub returns-in-Some-2 : goal.returns-in-Some-2
returns-in-Some-2 c =
    let b = c.args.book.now in
    let s = wanting c.args.wanted in
    let ks = c.coded-coded.result.now in
    let kept = c.loop-place.invariant.kept in
    let place = c.in-Some.place in
    let coded = c.index-coded-place.result in
    let within = place_kept b c.args.grammar c.args.state s ks kept _ _ place c.in-Some.ensures in
    this_found b c.args.grammar c.args.state s ks kept c.loop-place.after c.loop-place.invariant.behind place (rw c.sought_for-sought.ensures at c.in-Some.ensures) (coded_of coded) (kept_at b c.args.grammar c.args.state s ks kept place coded within c.index-coded-place.is) c.in-Some-2.value
    (rw c.in-Some-2.is at c.in_ok-value.ensures)

pub loop-place-smaller : goal.loop-place-smaller
loop-place-smaller c = less_left c.args.book.now c.args.grammar c.args.state (wanting c.args.wanted) c.coded-coded.result.now c.loop-place.invariant.kept _ c.loop-place.after c.in-Some.place c.in-Some.ensures

pub loop-place-preserved : goal.loop-place-preserved
loop-place-preserved c =
    let b = c.args.book.now in
    let s = wanting c.args.wanted in
    let ks = c.coded-coded.result.now in
    let kept = c.loop-place.invariant.kept in
    let place = c.in-Some.place in
    let coded = c.index-coded-place.result in
    let within = place_kept b c.args.grammar c.args.state s ks kept _ _ place c.in-Some.ensures in
    record {
      kept = kept;
      there = place_there b c.args.grammar c.args.state s ks kept _ _ place c.in-Some.ensures;
      behind = still_behind b c.args.grammar c.args.state s ks kept c.loop-place.after c.loop-place.invariant.behind place (rw c.sought_for-sought.ensures at c.in-Some.ensures) (coded_of coded) (kept_at b c.args.grammar c.args.state s ks kept place coded within c.index-coded-place.is)
          (rw c.in_default-2.is at c.in_ok-value.ensures);
    }

pub returns : goal.returns
returns c = none_left c.args.book.now c.args.grammar c.args.state (wanting c.args.wanted) c.coded-coded.result.now c.loop-place.invariant.kept c.loop-place.after c.loop-place.invariant.behind (rw (c.sought_for-sought.ensures, c.in_default.is) at c.next_candidate.ensures)
