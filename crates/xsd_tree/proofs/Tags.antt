-- The attributes and namespaces of a start tag so far.
use Rattle.std.proofs.Common.{◌≡◌, ℕ, true, false, cond, List, [], ◌∷◌, ◌++◌, sym, ap, ◌∙◌}
use Rattle.std.proofs.lemmas.List.{append-nil, append_assoc}
use Rattle.exi_names.specs.Events.{Happening}
use Rattle.exi_names.specs.declared.names.QName.{QName}
use Rattle.xsd_tree.specs.StartTags.{attributes_in, attributes_of, is_in_tag, scope_in, scope_of}

abbrev pub Attribute : Type 0
Attribute = QName × List ℕ

abbrev pub Binding : Type 0
Binding = List ℕ × List ℕ

pub no_more : {X : Type 0} (front : List X) → front ≡ front ++ []
no_more front = sym (append-nil front)

pub attribute_more : (front new : List Attribute) (e : Happening) (es here : List Happening) (all : List Attribute) → here ≡ e ∷ es → is_in_tag e ≡ true → new ≡ front ++ attributes_in e → front ++ attributes_of here ≡ all → new ++ attributes_of es ≡ all
attribute_more front new e es here all h tag new_is q =
    ap (λ t. t ++ attributes_of es) new_is
    ∙ append_assoc front (attributes_in e) (attributes_of es)
    ∙ ap (λ b. front ++ cond b (attributes_in e ++ attributes_of es) []) (sym tag)
    ∙ ap (λ x. front ++ attributes_of x) (sym h)
    ∙ q

pub attributes_end : (front : List Attribute) (e : Happening) (es here : List Happening) (all : List Attribute) → here ≡ e ∷ es → is_in_tag e ≡ false → front ++ attributes_of here ≡ all → front ≡ all
attributes_end front e es here all h tag q =
    sym (append-nil front)
    ∙ ap (λ b. front ++ cond b (attributes_in e ++ attributes_of es) []) (sym tag)
    ∙ ap (λ x. front ++ attributes_of x) (sym h)
    ∙ q

pub attributes_all : (front : List Attribute) (here : List Happening) (all : List Attribute) → here ≡ [] → front ++ attributes_of here ≡ all → front ≡ all
attributes_all front here all h q = sym (append-nil front) ∙ ap (λ x. front ++ attributes_of x) (sym h) ∙ q

pub scope_more : (front new : List Binding) (e : Happening) (es here : List Happening) (all : List Binding) → here ≡ e ∷ es → is_in_tag e ≡ true → new ≡ front ++ scope_in e → front ++ scope_of here ≡ all → new ++ scope_of es ≡ all
scope_more front new e es here all h tag new_is q =
    ap (λ t. t ++ scope_of es) new_is
    ∙ append_assoc front (scope_in e) (scope_of es)
    ∙ ap (λ b. front ++ cond b (scope_in e ++ scope_of es) []) (sym tag)
    ∙ ap (λ x. front ++ scope_of x) (sym h)
    ∙ q

pub scope_end : (front : List Binding) (e : Happening) (es here : List Happening) (all : List Binding) → here ≡ e ∷ es → is_in_tag e ≡ false → front ++ scope_of here ≡ all → front ≡ all
scope_end front e es here all h tag q =
    sym (append-nil front)
    ∙ ap (λ b. front ++ cond b (scope_in e ++ scope_of es) []) (sym tag)
    ∙ ap (λ x. front ++ scope_of x) (sym h)
    ∙ q

pub scope_all : (front : List Binding) (here : List Happening) (all : List Binding) → here ≡ [] → front ++ scope_of here ≡ all → front ≡ all
scope_all front here all h q = sym (append-nil front) ∙ ap (λ x. front ++ scope_of x) (sym h) ∙ q
