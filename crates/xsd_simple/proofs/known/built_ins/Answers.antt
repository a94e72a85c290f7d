use Rattle.std.proofs.Common.{◌≡◌, ℕ, ◌+◌, ◌<◌, ◌≤◌, ◌*◌, length, [], ◌∷◌, refl, sym, ap, ◌∙◌, arith, subst}
use Rattle.std.proofs.lemmas.List.{length-append}
use Rattle.xsd_restrictions.specs.Restrictions.{built_in_simple}
use Rattle.xsd_simple.specs.Kept.{AreBuilt, simples}
use Rattle.xsd_simple.proofs.Kept.{built_more, count_simples, entries_more, simples_more}
use Rattle.xsd_simple.proofs.known.built_ins.Goals as goal

pub built_in-requires : goal.built_in-requires
built_in-requires c = record { few = let few = c.loop-place.invariant.few in let less = c.loop-place-test.true in omega (arith, few, less) }

pub loop-place-preserved : goal.loop-place-preserved
loop-place-preserved c =
    let old = c.loop-place.forms in
    let new = c.built_in.new.forms in
    let es = c.loop-place.entries.items in
    let items = c.push.new.self.items in
    let e = c.in_ok-built_in.field-0 in
    let n = c.loop-place.place in
    let before = c.loop-place.invariant in
    let g = c.built_in.ensures.more in
    let pushed = c.in_ok-push.ensures.items in
    let is = c.in_ok-built_in.ensures.kept in
    let s_is = c.in_ok-built_in.ensures.simple in
    let few = before.few in
    let more = g.few in
    record {
      kept = entries_more old new es items e g before.kept is pushed;
      built = built_more n (simples old es) (simples new items) (built_in_simple n) (count_simples old es ∙ before.count) (simples_more old new es items e g before.kept is pushed (built_in_simple n) s_is) refl before.built;
      count = ap length pushed ∙ length-append es (e ∷ []) ∙ ap (λ (m : ℕ). m + 1) before.count;
      few = omega (arith, few, more);
    }

pub returns-clause-kept : goal.returns-clause-kept
returns-clause-kept c = c.loop-place.invariant.kept

pub returns-clause-built : goal.returns-clause-built
returns-clause-built c = let over = c.loop-place-test.false in let end = c.loop-place.auto.place-end in let e : c.loop-place.place ≡ 47 = omega (arith, over, end) in subst (λ (n : ℕ). AreBuilt n (simples c.loop-place.forms c.loop-place.entries.items)) e c.loop-place.invariant.built

pub returns-clause-count : goal.returns-clause-count
returns-clause-count c = let over = c.loop-place-test.false in let end = c.loop-place.auto.place-end in let e : c.loop-place.place ≡ 47 = omega (arith, over, end) in c.loop-place.invariant.count ∙ e
