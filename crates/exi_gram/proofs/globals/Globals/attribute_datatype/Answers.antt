use Rattle.std.proofs.Common.{Some, List, Bool, map, refl, sym, ap, ◌∙◌}
use Rattle.exi_names.specs.Datatypes.{Representation}
use Rattle.exi_names.specs.Datatypes as datatype
use Rattle.exi_names.specs.Shown.{named}
use Rattle.exi_names.specs.declared.names.QName.{QName}
use Rattle.exi_gram.specs.Globals.{Places, attribute_datatype, first_at, name_hash, places_under, represented_by, same_texts}
use Rattle.exi_gram.specs.Outlines.{attribute_of}
use Rattle.exi_gram.proofs.Hashes.{first_is, has_own, outlined_names}
use Rattle.exi_gram.proofs.LookUps.{Declared}
use Rattle.exi_gram.proofs.globals.Globals.attribute_datatype.Goals as goal

pub returns : goal.returns
returns c =
    let name = named c.args.name in
    let own = c.attributes-attributes.result.now in
    let test : Declared → Bool = λ a. same_texts a.0 name in
    let answer : Declared → Representation = λ a. represented_by (Some a.1) in
    c.attribute_among.ensures
    ∙ ap (first_at test answer datatype.text own) (c.find.ensures ∙ ap (λ (p : Places). places_under p.attributes (name_hash name.uri name.local)) c.self.view_is)
    ∙ first_is (λ (as_ : List Declared). attribute_datatype (map attribute_of as_) name) test answer datatype.text refl (λ a as_. refl) (λ a. Some a.0) (name_hash name.uri name.local) (λ a h. has_own a.0 name h) c.args.self.now.attributes own
    (λ hash. c.requires.finds.attributes hash ∙ sym (outlined_names hash own c.args.schema.now.attributes c.attributes-attributes.ensures.attributes))
    ∙ ap (λ (as_ : List (QName × Representation)). attribute_datatype as_ name) c.attributes-attributes.ensures.attributes
