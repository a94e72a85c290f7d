-- AT of the attributes that are declared anywhere.
use Rattle.std.proofs.Common.{◌≡◌, ℕ, ◌+◌, ◌<◌, ◌≤◌, Bool, Some, List, [], ◌∷◌, ◌++◌, length, map, get_or, take, refl, sym, ap, ◌∙◌}
use Rattle.std.specs.Prelude.{slice_get}
use Rattle.std.specs.List.{flat_map}
use Rattle.std.proofs.lemmas.List.{flat_map_more, get_or-map, take_more}
use Rattle.std.proofs.lemmas.Option.{slice_get_past, slice_get_read}
use Rattle.xsd_model.specs.declared.parts.AttributeDecl.{AttributeDecl}
use Rattle.xsd_model.specs.Parts.{Parts}
use Rattle.exi_compiled.specs.FragmentGrammar.{attribute_rule}
use Rattle.exi_vocabulary.specs.Vocabulary.{all_of_type}
use Rattle.exi_compile.specs.Fragments.{attribute_at}

pub attribute_here : (p : Parts) (agree : List Bool) (place : ℕ) (a : AttributeDecl) (agrees d : Bool) → agree ≡ map (λ x. all_of_type x p.attributes) p.attributes → place < length p.attributes
    → a ≡ get_or p.attributes place a → agrees ≡ get_or agree place d → attribute_rule p place ≡ attribute_at p a agrees ∷ []
attribute_here p agree place a agrees d all less is told =
    let there : slice_get p.attributes place ≡ Some a = slice_get_read p.attributes (length p.attributes) place a refl less is in
    let same : agrees ≡ all_of_type a p.attributes =
    told ∙ ap (λ (l : List Bool). get_or l place d) all ∙ get_or-map (λ x. all_of_type x p.attributes) p.attributes place a d less ∙ ap (λ x. all_of_type x p.attributes) (sym is) in
    rw (there, same) refl

pub attribute_past : (p : Parts) (place : ℕ) → length p.attributes ≤ place → attribute_rule p place ≡ []
attribute_past p place past = rw (slice_get_past p.attributes place past) refl

-- ---- those of some places, one after another
pub flat_more : {X Y : Type 0} (f : X → List Y) (now new : List Y) (xs : List X) (i : ℕ) (d : X) → i < length xs → new ≡ now ++ f (get_or xs i d) → now ≡ flat_map f (take i xs) → new ≡ flat_map f (take (i + 1) xs)
flat_more f now new xs i d less e h =
    e ∙ ap (λ z. z ++ f (get_or xs i d)) h ∙ flat_map_more f [] (take i xs) (get_or xs i d) ∙ ap (flat_map f) (sym (take_more xs i d less))
