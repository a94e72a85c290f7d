-- Four texts one behind the other, of which a front was added.
use Rattle.std.proofs.Common.{◌≡◌, Bool, List, ◌++◌, ap, ◌∙◌, append_assoc}
use Rattle.exi_items.specs.Fronts.{HoldsFront}
use Rattle.exi_items.proofs.Pieces.{first_front as front_more, then_front}

pub first_front : (p q r z old new : List Bool) → HoldsFront old p new → HoldsFront old (p ++ q ++ r ++ z) new
first_front p q r z old new f = front_more old (p ++ q ++ r) z new (front_more old (p ++ q) r new (front_more old p q new f))

pub second_front : (p q r z old mid new : List Bool) → mid ≡ old ++ p → HoldsFront mid q new → HoldsFront old (p ++ q ++ r ++ z) new
second_front p q r z old mid new e f = front_more old (p ++ q ++ r) z new (front_more old (p ++ q) r new (then_front old p q mid new e f))

pub third_front : (p q r z old mid last new : List Bool) → mid ≡ old ++ p → last ≡ mid ++ q → HoldsFront last r new → HoldsFront old (p ++ q ++ r ++ z) new
third_front p q r z old mid last new e g f =
    let two : last ≡ old ++ (p ++ q) = g ∙ ap (λ (x : List Bool). x ++ q) e ∙ append_assoc old p q in
    front_more old (p ++ q ++ r) z new (then_front old (p ++ q) r last new two f)

pub fourth_front : (p q r z old mid last end new : List Bool) → mid ≡ old ++ p → last ≡ mid ++ q → end ≡ last ++ r → HoldsFront end z new → HoldsFront old (p ++ q ++ r ++ z) new
fourth_front p q r z old mid last end new e g h f =
    let two : last ≡ old ++ (p ++ q) = g ∙ ap (λ (x : List Bool). x ++ q) e ∙ append_assoc old p q in
    let three : end ≡ old ++ (p ++ q ++ r) = h ∙ ap (λ (x : List Bool). x ++ r) two ∙ append_assoc old (p ++ q) r in
    then_front old (p ++ q ++ r) z end new three f
