use Rattle.std.proofs.Common.{true, false, drop, map, refl, sym, ap, ◌+◌, ◌∙◌}
use Rattle.std.specs.List.{list_any}
use Rattle.exi_order.specs.Keys.{keys_of}
use Rattle.exi_vocabulary.specs.Named.{name_pair}
use Rattle.exi_vocabulary.specs.declared.name.Name.{Name}
use Rattle.exi_vocabulary.proofs.Firsts.{goes_on, of_not}
use Rattle.exi_vocabulary.proofs.Tellings.{first_added, first_kept, same_name}
use Rattle.exi_vocabulary.proofs.places.firsts.Goals as goal
use Rattle.exi_vocabulary.proofs.places.firsts.Goals.{then-new+in_ok-push, else-new}

pub loop-place-preserved : goal.loop-place-preserved
loop-place-preserved c =
    let name : Name = record { local = c.index-keys-place.result.first; uri = c.index-keys-place.result.second } in
    let seen = map name_pair c.insert_full.new.self.keys in
    let rest = drop (c.loop-place.place + 1) (keys_of c.args.keys.now) in
    elim c.if-new.branch [
      | then-new+in_ok-push w ↦
          ap (λ l. goes_on l seen (c.loop-place.place + 1) rest) (ap (λ v. v.items) w.firsts-is ∙ w.in_ok-push.ensures.items)
          ∙ first_added c.args.keys.now c.loop-place.place c.index-keys-place.result name c.loop-place.names.keys c.insert_full.new.self.keys c.loop-place.firsts.items _
          c.loop-place-test.true c.index-keys-place.is refl c.in_ok-new.ensures.keys
          (of_not (list_any (same_name name) c.loop-place.names.keys) false (sym c.in_ok-new.ensures.added ∙ w.if-new.true)) c.loop-place.invariant
      | else-new w ↦
          ap (λ l. goes_on l seen (c.loop-place.place + 1) rest) (ap (λ v. v.items) w.firsts-is)
          ∙ first_kept c.args.keys.now c.loop-place.place c.index-keys-place.result name c.loop-place.names.keys c.insert_full.new.self.keys c.loop-place.firsts.items _
          c.loop-place-test.true c.index-keys-place.is refl c.in_ok-new.ensures.keys
          (of_not (list_any (same_name name) c.loop-place.names.keys) true (sym c.in_ok-new.ensures.added ∙ w.if-new.false)) c.loop-place.invariant
    ]
