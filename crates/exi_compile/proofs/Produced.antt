-- Productions that are put one behind another.
use Rattle.std.proofs.Common.{◌≡◌, ℕ, suc, ◌+◌, ◌<◌, ◌≤◌, List, [], ◌∷◌, ◌++◌, length, map, get_or, take, drop, set, arith, refl, sym, ap, ◌∙◌, append_assoc}
use Rattle.std.proofs.lemmas.List.{append-nil, drop_all, drop_more, get_or-map, get_or_at, length-map, length-take-le, map-append, map-set, map_more, map_push, set_at, take_all}
use Rattle.exi_names.specs.declared.names.QName.{QName}
use Rattle.exi_gram.specs.Codes.{Coded, Productions, coded_from, coded_seconds}
use Rattle.exi_gram.specs.Terminals.{Rule, cm, dt, ed, pi, se_any}
use Rattle.exi_gram.specs.Wholes.{document_content, fragment_content, listed, opening, plain}

-- ---- one more behind what stands behind some
pub pushed : {X Y : Type 0} (f : X → Y) (before : List Y) (now new : List X) (x : X) (y : Y) (ys : List Y) → map f now ≡ before ++ ys → new ≡ now ++ x ∷ [] → f x ≡ y → map f new ≡ before ++ (ys ++ y ∷ [])
pushed f before now new x y ys h e same = ap (map f) e ∙ map_push f now x ∙ ap (λ z. map f now ++ z ∷ []) same ∙ ap (λ z. z ++ y ∷ []) h ∙ append_assoc before ys (y ∷ [])

-- ---- in the order of the codes
from_items : (front : List ℕ) (part : ℕ) (rs : List Rule) → map (λ (c : Coded Rule). c.item) (coded_from front part rs) ≡ rs
from_items front part [] = refl
from_items front part (r ∷ rs) = ap (λ z. r ∷ z) (from_items front (suc part) rs)

pub listed_is : (p : Productions Rule) → listed p ≡ p.firsts ++ map (λ (c : Coded Rule). c.item) (coded_seconds (length p.firsts ∷ []) 0 p.seconds)
listed_is p =
    map-append (λ (c : Coded Rule). c.item) (coded_from [] 0 p.firsts) (coded_seconds (length p.firsts ∷ []) 0 p.seconds)
    ∙ ap (λ z. z ++ map (λ (c : Coded Rule). c.item) (coded_seconds (length p.firsts ∷ []) 0 p.seconds)) (from_items [] 0 p.firsts)

pub document_listed : (es : List (QName × ℕ)) → listed (document_content es) ≡ map (opening 2) es ++ plain se_any 2 ∷ plain dt 1 ∷ plain cm 1 ∷ plain pi 1 ∷ []
document_listed es = listed_is (document_content es) ∙ append_assoc (map (opening 2) es) (plain se_any 2 ∷ []) (plain dt 1 ∷ plain cm 1 ∷ plain pi 1 ∷ [])

pub fragment_listed : (es : List (QName × ℕ)) → listed (fragment_content es) ≡ map (opening 1) es ++ plain se_any 1 ∷ plain ed 1 ∷ plain cm 1 ∷ plain pi 1 ∷ []
fragment_listed es = listed_is (fragment_content es) ∙ append_assoc (map (opening 1) es) (plain se_any 1 ∷ plain ed 1 ∷ []) (plain cm 1 ∷ plain pi 1 ∷ [])

-- ---- some of a list are put in the place of what they were, from the first on
pub replaced_more : {Y : Type 0} (f : Y → Y) (qs rs new : List Y) (i : ℕ) (d : Y) → i < length qs → rs ≡ map f (take i qs) ++ drop i qs → new ≡ set rs i (f (get_or rs i d))
    → new ≡ map f (take (i + 1) qs) ++ drop (i + 1) qs
replaced_more f qs rs new i d less h e =
    let q = get_or qs i d in
    let before = map f (take i qs) in
    let rest = drop (i + 1) qs in
    let long : length before ≡ i = length-map (take i qs) f ∙ length-take-le i qs (omega arith) in
    let split : rs ≡ before ++ q ∷ rest = h ∙ ap (λ z. before ++ z) (drop_more qs i d less) in
    let here : get_or rs i d ≡ q = ap (λ z. get_or z i d) split ∙ get_or_at before q rest d i long in
    e
    ∙ (λ j. set (split j) i (f (here j)))
    ∙ set_at before q rest (f q) i long
    ∙ sym (append_assoc before (f q ∷ []) rest)
    ∙ ap (λ z. z ++ rest) (sym (map_more f qs i d less))

pub replaced_all : {Y : Type 0} (f : Y → Y) (qs rs : List Y) (i : ℕ) → length qs ≤ i → rs ≡ map f (take i qs) ++ drop i qs → rs ≡ map f qs
replaced_all f qs rs i past h = h ∙ (λ j. map f (take_all i qs past j) ++ drop_all i qs past j) ∙ append-nil (map f qs)

-- what is shown of each is so replaced
pub replaced_seen : {X Y : Type 0} (r : X → Y) (f : Y → Y) (before now : List X) (i : ℕ) (d x : X) → i < length before → length now ≡ length before → r x ≡ f (r (get_or now i d))
    → map r now ≡ map f (take i (map r before)) ++ drop i (map r before) → map r (set now i x) ≡ map f (take (i + 1) (map r before)) ++ drop (i + 1) (map r before)
replaced_seen r f before now i d x less same is h =
    let there : i < length now = omega arith in
    let long : length (map r before) ≡ length before = length-map before r in
    let within : i < length (map r before) = omega arith in
    replaced_more f (map r before) (map r now) (map r (set now i x)) i (r d) within h
    (map-set r now i x ∙ ap (set (map r now) i) (is ∙ ap f (sym (get_or-map r now i d (r d) there))))

-- these in the place of as many
pub written_same : {X : Type 0} (old new : List X) → length new ≡ length old → take (length old) (new ++ drop (length new) old) ≡ new
written_same old new same =
    ap (λ z. take (length old) (new ++ z)) (drop_all (length new) old (omega arith)) ∙ ap (take (length old)) (append-nil new) ∙ take_all (length old) new (omega arith)

-- ---- several more
pub three_pushed : {X Y : Type 0} (f : X → Y) (old : List Y) (s0 s1 s2 s3 : List X) (a b c : X) (w x y : Y) → map f s0 ≡ old → s1 ≡ s0 ++ a ∷ [] → s2 ≡ s1 ++ b ∷ [] → s3 ≡ s2 ++ c ∷ []
    → f a ≡ w → f b ≡ x → f c ≡ y → map f s3 ≡ old ++ w ∷ x ∷ y ∷ []
three_pushed f old s0 s1 s2 s3 a b c w x y h e1 e2 e3 fa fb fc =
    pushed f old s2 s3 c y (w ∷ x ∷ []) (pushed f old s1 s2 b x (w ∷ []) (pushed f old s0 s1 a w [] (h ∙ sym (append-nil old)) e1 fa) e2 fb) e3 fc

pub four_pushed : {X Y : Type 0} (f : X → Y) (old : List Y) (s0 s1 s2 s3 s4 : List X) (a b c d : X) (w x y z : Y) → map f s0 ≡ old → s1 ≡ s0 ++ a ∷ [] → s2 ≡ s1 ++ b ∷ [] → s3 ≡ s2 ++ c ∷ [] → s4 ≡ s3 ++ d ∷ []
    → f a ≡ w → f b ≡ x → f c ≡ y → f d ≡ z → map f s4 ≡ old ++ w ∷ x ∷ y ∷ z ∷ []
four_pushed f old s0 s1 s2 s3 s4 a b c d w x y z h e1 e2 e3 e4 fa fb fc fd =
    pushed f old s3 s4 d z (w ∷ x ∷ y ∷ []) (three_pushed f old s0 s1 s2 s3 a b c w x y h e1 e2 e3 fa fb fc) e4 fd

pub twice_mapped : {X Y Z : Type 0} (g : Y → Z) (f : X → Y) (xs : List X) → map (λ x. g (f x)) xs ≡ map g (map f xs)
twice_mapped g f [] = refl
twice_mapped g f (x ∷ xs) = ap (λ z. g (f x) ∷ z) (twice_mapped g f xs)
