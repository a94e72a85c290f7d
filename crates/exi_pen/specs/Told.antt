-- What a production tells of the name and the value of an element or an attribute, and what comes of an attribute's value.
use Rattle.std.specs.Prelude.{◌≡◌, Some}
use Rattle.exi_choice.specs.Fitting.{Declared, as_nil, as_type, by_datatype, declared_in}
use Rattle.exi_gram.specs.Outlines.{Outline}
use Rattle.exi_names.specs.Seen.{Value}
use Rattle.exi_names.specs.declared.names.NameId.{NameId}
use Rattle.exi_names.specs.declared.names.QName.{QName}
use Rattle.exi_processing.specs.Changes.{Effect, leads, nil_effect, stays, type_effect}
use Rattle.exi_processing.specs.Configurations.{Setting}
use Rattle.exi_processing.specs.Contents.{named_type}
use Rattle.exi_processing.specs.Rules.{Telling, Terminal, Valuing, attribute, by_name, characters, comment, declaration, document_type, element, end_document, end_element, entity, instruction, self_contained, spelled, start_document, typed, untyped}

-- how a production tells the name of an element or an attribute
abbrev pub told_in : Terminal → Telling
told_in (element t) = t
told_in (attribute t v) = t
told_in start_document = spelled
told_in end_document = spelled
told_in (characters d) = spelled
told_in end_element = spelled
told_in declaration = spelled
told_in self_contained = spelled
told_in comment = spelled
told_in instruction = spelled
told_in document_type = spelled
told_in entity = spelled

abbrev pub valuing_on : Terminal → Valuing
valuing_on (element t) = untyped
valuing_on (attribute t v) = v
valuing_on start_document = untyped
valuing_on end_document = untyped
valuing_on (characters d) = untyped
valuing_on end_element = untyped
valuing_on declaration = untyped
valuing_on self_contained = untyped
valuing_on comment = untyped
valuing_on instruction = untyped
valuing_on document_type = untyped
valuing_on entity = untyped

-- so is the value of an attribute represented whose name stands at these places
abbrev pub IsDeclaredAt : Outline → Valuing → NameId → Declared → Type 0
IsDeclaredAt s v id d = (n : QName) × (d ≡ declared_in s v (Some id) n)

-- what comes of an attribute that names a type which is not there
abbrev pub effect_without_type : Valuing → Effect
effect_without_type untyped = leads
effect_without_type (typed r) = stays
effect_without_type by_name = stays

-- what comes of an attribute whose value is represented so
abbrev pub effect_as : Setting → Declared → Valuing → Value → Effect
effect_as g as_type v x = type_effect (effect_without_type v) (named_type g x)
effect_as g as_nil v x = nil_effect x
effect_as g (by_datatype r) v x = leads
