-- The rules of a state are those of its productions.
use Rattle.std.proofs.Common.{◌≡◌, Bool, List, [], ◌∷◌, ◌++◌, map, filter, refl, ap, sym, ◌∙◌, inl, inr}
use Rattle.std.proofs.lemmas.Bool.{cases_Bool}
use Rattle.std.proofs.lemmas.List.{map-append}
use Rattle.exi_gram.specs.Codes.{Productions, Second, group, group_unless_empty, kept_second, kept_seconds, mapped, mapped_second, pruned, single}
use Rattle.exi_builtin.specs.declared.learnable.Learnable.{Learnable}
use Rattle.exi_builtin.specs.declared.learnable.Room.TheVariants as room
use Rattle.exi_builtin.specs.BuiltIn.{BuiltInRule, is_kept, written_rules}
use Rattle.exi_builtin.specs.Learning.{RulesAreProductions, behind_learned, learned_in, rule_in}

-- the things that are made again of what they read
abbrev Again : {X Y : Type 0} → (X → Y) → (Y → X) → List X → Type 0
Again on make [] = Unit {0}
Again on make (x ∷ xs) = (make (on x) ≡ x) × Again on make xs

abbrev SecondAgain : {X Y : Type 0} → (X → Y) → (Y → X) → Second X → Type 0
SecondAgain on make (single x) = make (on x) ≡ x
SecondAgain on make (group xs) = Again on make xs

abbrev SecondsAgain : {X Y : Type 0} → (X → Y) → (Y → X) → List (Second X) → Type 0
SecondsAgain on make [] = Unit {0}
SecondsAgain on make (x ∷ xs) = SecondAgain on make x × SecondsAgain on make xs

filter_again : {X Y : Type 0} (on : X → Y) (make : Y → X) (keep : Y → Bool) (xs : List X) → Again on make xs → filter (λ x. keep (on x)) xs ≡ map make (filter keep (map on xs))
filter_again on make keep [] h = refl
filter_again on make keep (x ∷ xs) h = elim (cases_Bool (keep (on x))) [
  | inl yes_is ↦ rw yes_is (ap (λ ys. x ∷ ys) (filter_again on make keep xs h.1) ∙ ap (λ y. y ∷ map make (filter keep (map on xs))) (sym h.0))
  | inr no_is ↦ rw no_is (filter_again on make keep xs h.1)
]

group_again : {X Y : Type 0} (make : Y → X) (ys : List Y) → group_unless_empty (map make ys) ≡ map (mapped_second make) (group_unless_empty ys)
group_again make [] = refl
group_again make (y ∷ ys) = refl

second_again : {X Y : Type 0} (on : X → Y) (make : Y → X) (keep : Y → Bool) (x : Second X) → SecondAgain on make x → kept_second (λ x. keep (on x)) x ≡ map (mapped_second make) (kept_second keep (mapped_second on x))
second_again on make keep (single x) h = elim (cases_Bool (keep (on x))) [
  | inl yes_is ↦ rw yes_is (ap (λ y. single y ∷ []) (sym h))
  | inr no_is ↦ rw no_is refl
]
second_again on make keep (group xs) h = ap group_unless_empty (filter_again on make keep xs h) ∙ group_again make (filter keep (map on xs))

seconds_again : {X Y : Type 0} (on : X → Y) (make : Y → X) (keep : Y → Bool) (xs : List (Second X)) → SecondsAgain on make xs → kept_seconds (λ x. keep (on x)) xs ≡ map (mapped_second make) (kept_seconds keep (map (mapped_second on) xs))
seconds_again on make keep [] h = refl
seconds_again {X} {Y} on make keep (x ∷ xs) h =
    ap (λ (ys : List (Second X)). ys ++ kept_seconds (λ x. keep (on x)) xs) (second_again on make keep x h.0)
    ∙ ap (λ (ys : List (Second X)). map (mapped_second make) (kept_second keep (mapped_second on x)) ++ ys) (seconds_again on make keep xs h.1)
    ∙ sym (map-append (mapped_second make) (kept_second keep (mapped_second on x)) (kept_seconds keep (map (mapped_second on) xs)))

shape_again : (keep : Learnable → Bool) (make : Learnable → BuiltInRule) (learned : List Learnable) (p : Productions BuiltInRule) → Again (λ r. r.on) make p.firsts → SecondsAgain (λ r. r.on) make p.seconds →
    behind_learned (map make learned) (pruned (λ r. keep r.on) p) ≡ mapped make (behind_learned learned (pruned keep (mapped (λ r. r.on) p)))
shape_again keep make learned p firsts seconds =
    ap (λ (fs : List BuiltInRule). record { firsts = map make learned ++ fs; seconds = kept_seconds (λ r. keep r.on) p.seconds }) (filter_again (λ (r : BuiltInRule). r.on) make keep p.firsts firsts)
    ∙ ap (λ (ss : List (Second BuiltInRule)). record { firsts = map make learned ++ map make (filter keep (map (λ r. r.on) p.firsts)); seconds = ss }) (seconds_again (λ (r : BuiltInRule). r.on) make keep p.seconds seconds)
    ∙ ap (λ (fs : List BuiltInRule). record { firsts = fs; seconds = map (mapped_second make) (kept_seconds keep (map (mapped_second (λ r. r.on)) p.seconds)) }) (sym (map-append make learned (filter keep (map (λ r. r.on) p.firsts))))

pub rules_are : RulesAreProductions
rules_are o l (room.StartTag number) = shape_again (is_kept o) (rule_in l (room.StartTag number)) (learned_in l (room.StartTag number)) (written_rules (room.StartTag number)) tt (refl, (refl, (refl, (refl, (refl, (refl, (refl, ((refl, (refl, tt)), tt))))))))
rules_are o l (room.Content number) = shape_again (is_kept o) (rule_in l (room.Content number)) (learned_in l (room.Content number)) (written_rules (room.Content number)) (refl, tt) (refl, (refl, (refl, ((refl, (refl, tt)), tt))))
rules_are o l room.Fragment = shape_again (is_kept o) (rule_in l room.Fragment) (learned_in l room.Fragment) (written_rules room.Fragment) (refl, (refl, tt)) (refl, (refl, tt))
