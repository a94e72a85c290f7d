use Rattle.std.proofs.Common.{◌≡◌, Global, Vec, ℕ, ◌+◌, ◌<◌, Bool, true, false, cond, not, Option, Some, None, List, [], ◌∷◌, ◌++◌, get_or, length, take, refl, sym, ap, ◌∙◌, arith}
use Rattle.std.specs.List.{filter}
use Rattle.std.specs.Option.{is_some, option_to_list}
use Rattle.std.proofs.lemmas.List.{append-nil, take_all}
use Rattle.exi_gram.specs.Laws.{places_from}
use Rattle.xsd_model.specs.declared.parts.ElementDecl.{ElementDecl}
use Rattle.xsd_model.specs.Parts.{Parts, heads_at}
use Rattle.exi_elements.specs.Members.{has_none}
use Rattle.exi_elements.proofs.Counting.{length_places}
use Rattle.exi_elements.proofs.Joined.{heads_of, kept_more}
use Rattle.exi_elements.proofs.counted.roots_of.Goals as goal
use Rattle.exi_elements.proofs.counted.roots_of.Goals.{then-is_none+in_ok-push, else-is_none}

abbrev is_root : Parts → ℕ → Bool
is_root p place = has_none (heads_at p place)

-- whether an element stands for no other
rooted : (p : Parts) (i : ℕ) (e : ElementDecl) (b : Bool) → i < length p.elements → e ≡ get_or p.elements i e → is_some e.head ≡ b → is_root p i ≡ cond b false true
rooted p i e b less at none = ap has_none (heads_of p i e less at) ∙ by e.head ∙ ap (λ q. cond q false true) none
  where
    by : (o : Option ℕ) → has_none (option_to_list o) ≡ cond (is_some o) false true
    by None = refl
    by (Some x) = refl

kept : (p : Parts) (i : ℕ) (b : Bool) (places : List ℕ) → i < length p.elements → places ≡ filter (is_root p) (take i (places_from 0 p.elements)) → is_root p i ≡ b → places ++ cond b (i ∷ []) [] ≡ filter (is_root p) (take (i + 1) (places_from 0 p.elements))
kept p i b places less so_far is =
    ap (λ l. l ++ cond b (i ∷ []) []) so_far
    ∙ ap (λ q. filter (is_root p) (take i (places_from 0 p.elements)) ++ cond q (i ∷ []) []) (sym is)
    ∙ sym (kept_more (is_root p) p.elements i less)

pub loop-place-preserved : goal.loop-place-preserved
loop-place-preserved c =
    let p = c.args.parts.now in
    let place = c.loop-place.place in
    let e = c.index-elements-place.result in
    let at : e ≡ get_or p.elements place e = c.index-elements-place.is ∙ ap (λ (l : List ElementDecl). get_or l place e) c.elements-elements.ensures.elements in
    let many : length c.elements-elements.result.now ≡ length p.elements = ap length c.elements-elements.ensures.elements in
    let less : place < length p.elements = omega (arith, many, c.loop-place-test.true) in
    let root : is_root p place ≡ cond (not c.is_none.result) false true = rooted p place e (not c.is_none.result) less at (ap (λ (d : ElementDecl). is_some d.head) c.index-elements-place.is ∙ c.is_none.ensures) in
    elim c.if-is_none.branch [
      | then-is_none+in_ok-push w ↦
          let none : is_root p place ≡ true = root ∙ ap (λ b. cond (not b) false true) w.if-is_none.true in
          ap (λ (v : Vec ℕ Global). v.items) w.places-is ∙ w.in_ok-push.ensures.items ∙ kept p place true c.loop-place.places.items less c.loop-place.invariant none
      | else-is_none w ↦
          let some : is_root p place ≡ false = root ∙ ap (λ b. cond (not b) false true) w.if-is_none.false in
          ap (λ (v : Vec ℕ Global). v.items) w.places-is ∙ sym (append-nil c.loop-place.places.items) ∙ kept p place false c.loop-place.places.items less c.loop-place.invariant some
    ]

pub returns : goal.returns
returns c =
    let p = c.args.parts.now in
    let many : length c.elements-elements.result.now ≡ length p.elements = ap length c.elements-elements.ensures.elements in
    c.loop-place.invariant ∙ ap (filter (is_root p)) (take_all c.loop-place.place (places_from 0 p.elements) (omega (arith, many, length_places 0 p.elements, c.loop-place-test.false)))
