-- What reads one thing, where its states stand.
use Rattle.std.proofs.Common.{◌≡◌, ℕ, suc, ◌+◌, Bool, true, false, cond, Option, Some, None, List, [], ◌∷◌, ◌++◌, length, map, slice_get, refl, sym, ap, ◌∙◌, arith, append_assoc}
use Rattle.std.proofs.lemmas.List.{map-append}
use Rattle.exi_gram.specs.Terminals.{StepRule, Symbol, at, at_any, at_in, se, se_any, se_in}
use Rattle.xsd_model.specs.declared.parts.AttributeDecl.{AttributeDecl}
use Rattle.xsd_model.specs.declared.parts.ElementDecl.{ElementDecl}
use Rattle.xsd_model.specs.declared.parts.Wild.{Wild}
use Rattle.xsd_model.specs.declared.parts.Wild.TheVariants as wild
use Rattle.xsd_model.specs.Parts.{Parts}
use Rattle.exi_draft.specs.Drafts.{States, is_end}
use Rattle.exi_elements.specs.StandIns.{opener}
use Rattle.exi_proto.specs.Pieces.{counts_of, choice, ending, leading, reading}
use Rattle.exi_proto.specs.Places.{allowed_at, end_step, in_each_at, laid, set, set_step, starts_by, starts_evenly, with_ends, with_first}
use Rattle.exi_proto.specs.Protos.{attribute_of, attribute_steps, end_unless, in_each_from, of_each_uri, one_of_them, opening_of, opening_piece, representation_of, use_states, wild_piece, wild_steps}
use Rattle.exi_proto.specs.Attributes.{attribute_at, attribute_in, each_uri_at, wild_at}
use Rattle.exi_proto.specs.Tasks.{opening_at, opening_in}
use Rattle.exi_proto.proofs.Placing.{set-choice}

abbrev stepped : Option Symbol → ℕ → Option ℕ → Option ℕ → StepRule
stepped on to inner particle = record { on = on; to = to; inner = inner; particle = particle }

to_is : (on : Option Symbol) (i j : ℕ) (inner particle : Option ℕ) → i ≡ j → stepped on i inner particle ≡ stepped on j inner particle
to_is on i j inner particle e = ap (λ (n : ℕ). stepped on n inner particle) e

particle_is : (on : Option Symbol) (to : ℕ) (inner : Option ℕ) (i j : ℕ) → i ≡ j → stepped on to inner (Some i) ≡ stepped on to inner (Some j)
particle_is on to inner i j e = ap (λ (n : ℕ). stepped on to inner (Some n)) e

-- ---- one step
-- one that reads something other than an end
pub set-reading : (f b to g : ℕ) (e : Option ℕ) (on : Symbol) → is_end on ≡ false → to + f ≡ g → set_step f b e (reading on to) ≡ reading on g
set-reading f b to g None on other is = to_is (Some on) (to + f) g None None is
set-reading f b to g (Some next) on other is =
    ap (λ (x : Bool). cond x (leading next) (stepped (Some on) (to + f) None None)) other ∙ to_is (Some on) (to + f) g None None is

pub set-ends : (f b n g : ℕ) (e : Option ℕ) → n + f ≡ g → set_step f b e (ending n) ≡ end_step g e
set-ends f b n g None is = to_is (ending n).on (n + f) g None None is
set-ends f b n g (Some to) is = refl

-- ---- elements
pub set-opening : (p : Parts) (place f b : ℕ) (e : Option ℕ) → set f b e (opening_piece p place).states ≡ opening_at p place (f + 1) b ∷ (end_step (f + 1) e ∷ []) ∷ []
set-opening p place f b e =
    ap (λ (x : List StepRule). x ∷ (set_step f b e (ending 1) ∷ []) ∷ []) (first e (slice_get p.elements place))
    ∙ ap (λ (x : StepRule). opening_at p place (f + 1) b ∷ (x ∷ []) ∷ []) (set-ends f b 1 (f + 1) e (omega arith))
  where
    first : (e : Option ℕ) (o : Option ElementDecl) → map (set_step f b e) (opening_of p place o) ≡ opening_in p place (f + 1) b o
    first e None = refl
    first None (Some d) = ap (λ (x : StepRule). x ∷ []) (to_is (Some (se d.name)) (1 + f) (f + 1) (Some (opener p place)) (Some (0 + b)) (omega arith) ∙ particle_is (Some (se d.name)) (f + 1) (Some (opener p place)) (0 + b) b (omega arith))
    first (Some to) (Some d) = ap (λ (x : StepRule). x ∷ []) (to_is (Some (se d.name)) (1 + f) (f + 1) (Some (opener p place)) (Some (0 + b)) (omega arith) ∙ particle_is (Some (se d.name)) (f + 1) (Some (opener p place)) (0 + b) b (omega arith))

starts-openings : (p : Parts) (n : ℕ) (places : List ℕ) → starts_by n (counts_of (map (opening_piece p) places)) ≡ starts_evenly n places
starts-openings p n [] = refl
starts-openings p n (x ∷ places) = ap (λ (y : List StepRule). leading n ∷ y) (starts-openings p (n + 2) places)

pub set-openings : (p : Parts) (places : List ℕ) (f b : ℕ) (e : Option ℕ) → set f b e (choice (map (opening_piece p) places)).states ≡ starts_evenly (f + 1) places ∷ laid (f + 1) b e (map (opening_piece p) places)
set-openings p places f b e = set-choice f b e (map (opening_piece p) places) ∙ ap (λ (x : List StepRule). x ∷ laid (f + 1) b e (map (opening_piece p) places)) (starts-openings p (f + 1) places)

pub one_alone : (p : Parts) (x : ℕ) (places : List ℕ) → places ≡ x ∷ [] → one_of_them (map (opening_piece p) places) ≡ opening_piece p x
one_alone p x places e = ap (λ (xs : List ℕ). one_of_them (map (opening_piece p) xs)) e

pub not_alone : (p : Parts) (places : List ℕ) → (length places ≡ 1 → ⊥) → one_of_them (map (opening_piece p) places) ≡ choice (map (opening_piece p) places)
not_alone p [] h = refl
not_alone p (x ∷ []) h = absurd (h refl)
not_alone p (x ∷ (y ∷ ys)) h = refl

-- ---- wildcards for elements
each-listed : (f b n g to : ℕ) (e : Option ℕ) (uris : List (List ℕ)) → n + b ≡ g → 1 + f ≡ to → map (set_step f b e) (in_each_from n uris) ≡ in_each_at to g uris
each-listed f b n g to e [] is so = refl
each-listed f b n g to e (uri ∷ uris) is so =
    ap (λ (x : StepRule). x ∷ map (set_step f b e) (in_each_from (suc n) uris)) (one e)
    ∙ ap (λ (xs : List StepRule). stepped (Some (se_in uri)) to None (Some g) ∷ xs) (each-listed f b (suc n) (g + 1) to e uris (omega (arith, is)) so)
  where
    one : (e : Option ℕ) → set_step f b e (stepped (Some (se_in uri)) 1 None (Some n)) ≡ stepped (Some (se_in uri)) to None (Some g)
    one None = to_is (Some (se_in uri)) (1 + f) to None (Some (n + b)) so ∙ particle_is (Some (se_in uri)) to None (n + b) g is
    one (Some next) = to_is (Some (se_in uri)) (1 + f) to None (Some (n + b)) so ∙ particle_is (Some (se_in uri)) to None (n + b) g is

pub set-wild : (w : Wild) (f b : ℕ) (e : Option ℕ) → set f b e (wild_piece w).states ≡ allowed_at (f + 1) b w ∷ (end_step (f + 1) e ∷ []) ∷ []
set-wild w f b e =
    shape w ∙ ap (λ (x : StepRule). allowed_at (f + 1) b w ∷ (x ∷ []) ∷ []) (set-ends f b 1 (f + 1) e (omega arith))
  where
    shape : (w : Wild) → set f b e (wild_piece w).states ≡ allowed_at (f + 1) b w ∷ (set_step f b e (ending 1) ∷ []) ∷ []
    shape wild.Any = ap (λ (x : StepRule). (x ∷ []) ∷ (set_step f b e (ending 1) ∷ []) ∷ []) (set-reading f b 1 (f + 1) e se_any refl (omega arith))
    shape (wild.Listed uris) = ap (λ (x : List StepRule). x ∷ (set_step f b e (ending 1) ∷ []) ∷ []) (each-listed f b 0 b (f + 1) e uris (omega arith) (omega arith))

-- ---- attributes
set-each_uri : (f b : ℕ) (e : Option ℕ) (uris : List (List ℕ)) → map (set_step f b e) (of_each_uri uris) ≡ each_uri_at f uris
set-each_uri f b e [] = refl
set-each_uri f b e (uri ∷ uris) =
    ap (λ (x : StepRule). x ∷ map (set_step f b e) (of_each_uri uris)) (set-reading f b 0 f e (at_in uri) refl (omega arith))
    ∙ ap (λ (xs : List StepRule). reading (at_in uri) f ∷ xs) (set-each_uri f b e uris)

pub set-wild_steps : (f b : ℕ) (e : Option ℕ) (w : Option Wild) → map (set_step f b e) (wild_steps w) ≡ wild_at f w
set-wild_steps f b e None = refl
set-wild_steps f b e (Some wild.Any) = ap (λ (x : StepRule). x ∷ []) (set-reading f b 0 f e at_any refl (omega arith))
set-wild_steps f b e (Some (wild.Listed uris)) = set-each_uri f b e uris

set-attribute : (p : Parts) (f b : ℕ) (e : Option ℕ) (o : Option AttributeDecl) → map (set_step f b e) (attribute_of p o) ≡ attribute_in (f + 1) p o
set-attribute p f b e None = refl
set-attribute p f b e (Some a) = ap (λ (x : StepRule). x ∷ []) (set-reading f b 1 (f + 1) e (at a.name (representation_of p a.of)) refl (omega arith))

-- the end of one that is not required leads on
abbrev pub on_unless : Bool → ℕ → List StepRule
on_unless required to = cond required [] (leading to ∷ [])

set-unless : (required : Bool) (f b to : ℕ) → map (set_step f b (Some to)) (end_unless required) ≡ on_unless required to
set-unless true f b to = refl
set-unless false f b to = refl

pub set-use : (p : Parts) (w : Option Wild) (attribute : ℕ) (required : Bool) (f to : ℕ) → set f 0 (Some to) (use_states p w attribute required) ≡ (attribute_at (f + 1) p attribute ++ (on_unless required to ++ wild_at f w)) ∷ (leading to ∷ []) ∷ []
set-use p w attribute required f to =
    ap (λ (x : List StepRule). x ∷ (leading to ∷ []) ∷ [])
    (map-append (set_step f 0 (Some to)) (attribute_steps p attribute) (end_unless required ++ wild_steps w)
    ∙ ap (λ (x : List StepRule). x ++ map (set_step f 0 (Some to)) (end_unless required ++ wild_steps w)) (set-attribute p f 0 (Some to) (slice_get p.attributes attribute))
    ∙ ap (λ (x : List StepRule). attribute_at (f + 1) p attribute ++ x)
    (map-append (set_step f 0 (Some to)) (end_unless required) (wild_steps w)
    ∙ ap (λ (x : List StepRule). x ++ map (set_step f 0 (Some to)) (wild_steps w)) (set-unless required f 0 to)
    ∙ ap (λ (x : List StepRule). on_unless required to ++ x) (set-wild_steps f 0 (Some to) w)))

pub openings_made : (p : Parts) (places : List ℕ) (f b g d : ℕ) (e h : Option ℕ) (o m n : States) (es : List StepRule) (x : List StepRule) → m ≡ o ++ with_ends es x ∷ [] → x ≡ starts_evenly (f + 1) places → n ≡ m ++ laid g d h (map (opening_piece p) places) → g ≡ f + 1 → d ≡ b → h ≡ e → n ≡ o ++ with_first es (set f b e (choice (map (opening_piece p) places)).states)
openings_made p places f b g d e h o m n es x is starts more first before next =
    more
    ∙ ap (λ (y : States). y ++ laid g d h (map (opening_piece p) places)) is
    ∙ append_assoc o (with_ends es x ∷ []) (laid g d h (map (opening_piece p) places))
    ∙ ap (λ (y : List StepRule). o ++ (with_ends es y ∷ laid g d h (map (opening_piece p) places))) starts
    ∙ ap (λ (k : ℕ). o ++ (with_ends es (starts_evenly (f + 1) places) ∷ laid k d h (map (opening_piece p) places))) first
    ∙ ap (λ (k : ℕ). o ++ (with_ends es (starts_evenly (f + 1) places) ∷ laid (f + 1) k h (map (opening_piece p) places))) before
    ∙ ap (λ (k : Option ℕ). o ++ (with_ends es (starts_evenly (f + 1) places) ∷ laid (f + 1) b k (map (opening_piece p) places))) next
    ∙ ap (λ (y : States). o ++ with_first es y) (sym (set-openings p places f b e))
