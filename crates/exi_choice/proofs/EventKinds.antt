-- Of which kind a production is that stands for an event.
use Rattle.std.proofs.Common.{◌≡◌, true, refl}
use Rattle.exi_names.specs.Datatypes.{Representation}
use Rattle.exi_processing.specs.Rules.{Telling, Terminal, Valuing, attribute, characters, comment, declaration, document_type, element, end_document, end_element, entity, instruction, self_contained, start_document}
use Rattle.exi_processing.specs.declared.rule.Content.TheVariants as content
use Rattle.exi_processing.specs.declared.rule.Telling.{Telling as Told}
use Rattle.exi_processing.specs.declared.rule.Valuing.{Valuing as Kind}
use Rattle.exi_choice.specs.Wanted.{is_of, is_told}

pub only_start_document : (t : Terminal) → is_of content.StartDocument t ≡ true → t ≡ start_document
only_start_document start_document h = refl
only_start_document end_document h = absurd cc
only_start_document (element t) h = absurd cc
only_start_document (attribute t u) h = absurd cc
only_start_document (characters d) h = absurd cc
only_start_document end_element h = absurd cc
only_start_document declaration h = absurd cc
only_start_document self_contained h = absurd cc
only_start_document comment h = absurd cc
only_start_document instruction h = absurd cc
only_start_document document_type h = absurd cc
only_start_document entity h = absurd cc

pub only_end_document : (t : Terminal) → is_of content.EndDocument t ≡ true → t ≡ end_document
only_end_document start_document h = absurd cc
only_end_document end_document h = refl
only_end_document (element t) h = absurd cc
only_end_document (attribute t u) h = absurd cc
only_end_document (characters d) h = absurd cc
only_end_document end_element h = absurd cc
only_end_document declaration h = absurd cc
only_end_document self_contained h = absurd cc
only_end_document comment h = absurd cc
only_end_document instruction h = absurd cc
only_end_document document_type h = absurd cc
only_end_document entity h = absurd cc

pub only_characters : (t : Terminal) → is_of content.Characters t ≡ true → (d : Representation) × (t ≡ characters d)
only_characters start_document h = absurd cc
only_characters end_document h = absurd cc
only_characters (element t) h = absurd cc
only_characters (attribute t u) h = absurd cc
only_characters (characters d) h = (d, refl)
only_characters end_element h = absurd cc
only_characters declaration h = absurd cc
only_characters self_contained h = absurd cc
only_characters comment h = absurd cc
only_characters instruction h = absurd cc
only_characters document_type h = absurd cc
only_characters entity h = absurd cc

pub only_end_element : (t : Terminal) → is_of content.EndElement t ≡ true → t ≡ end_element
only_end_element start_document h = absurd cc
only_end_element end_document h = absurd cc
only_end_element (element t) h = absurd cc
only_end_element (attribute t u) h = absurd cc
only_end_element (characters d) h = absurd cc
only_end_element end_element h = refl
only_end_element declaration h = absurd cc
only_end_element self_contained h = absurd cc
only_end_element comment h = absurd cc
only_end_element instruction h = absurd cc
only_end_element document_type h = absurd cc
only_end_element entity h = absurd cc

pub only_declaration : (t : Terminal) → is_of content.Declaration t ≡ true → t ≡ declaration
only_declaration start_document h = absurd cc
only_declaration end_document h = absurd cc
only_declaration (element t) h = absurd cc
only_declaration (attribute t u) h = absurd cc
only_declaration (characters d) h = absurd cc
only_declaration end_element h = absurd cc
only_declaration declaration h = refl
only_declaration self_contained h = absurd cc
only_declaration comment h = absurd cc
only_declaration instruction h = absurd cc
only_declaration document_type h = absurd cc
only_declaration entity h = absurd cc

pub only_self_contained : (t : Terminal) → is_of content.SelfContained t ≡ true → t ≡ self_contained
only_self_contained start_document h = absurd cc
only_self_contained end_document h = absurd cc
only_self_contained (element t) h = absurd cc
only_self_contained (attribute t u) h = absurd cc
only_self_contained (characters d) h = absurd cc
only_self_contained end_element h = absurd cc
only_self_contained declaration h = absurd cc
only_self_contained self_contained h = refl
only_self_contained comment h = absurd cc
only_self_contained instruction h = absurd cc
only_self_contained document_type h = absurd cc
only_self_contained entity h = absurd cc

pub only_comment : (t : Terminal) → is_of content.Comment t ≡ true → t ≡ comment
only_comment start_document h = absurd cc
only_comment end_document h = absurd cc
only_comment (element t) h = absurd cc
only_comment (attribute t u) h = absurd cc
only_comment (characters d) h = absurd cc
only_comment end_element h = absurd cc
only_comment declaration h = absurd cc
only_comment self_contained h = absurd cc
only_comment comment h = refl
only_comment instruction h = absurd cc
only_comment document_type h = absurd cc
only_comment entity h = absurd cc

pub only_instruction : (t : Terminal) → is_of content.Instruction t ≡ true → t ≡ instruction
only_instruction start_document h = absurd cc
only_instruction end_document h = absurd cc
only_instruction (element t) h = absurd cc
only_instruction (attribute t u) h = absurd cc
only_instruction (characters d) h = absurd cc
only_instruction end_element h = absurd cc
only_instruction declaration h = absurd cc
only_instruction self_contained h = absurd cc
only_instruction comment h = absurd cc
only_instruction instruction h = refl
only_instruction document_type h = absurd cc
only_instruction entity h = absurd cc

pub only_document_type : (t : Terminal) → is_of content.DocumentType t ≡ true → t ≡ document_type
only_document_type start_document h = absurd cc
only_document_type end_document h = absurd cc
only_document_type (element t) h = absurd cc
only_document_type (attribute t u) h = absurd cc
only_document_type (characters d) h = absurd cc
only_document_type end_element h = absurd cc
only_document_type declaration h = absurd cc
only_document_type self_contained h = absurd cc
only_document_type comment h = absurd cc
only_document_type instruction h = absurd cc
only_document_type document_type h = refl
only_document_type entity h = absurd cc

pub only_entity : (t : Terminal) → is_of content.Entity t ≡ true → t ≡ entity
only_entity start_document h = absurd cc
only_entity end_document h = absurd cc
only_entity (element t) h = absurd cc
only_entity (attribute t u) h = absurd cc
only_entity (characters d) h = absurd cc
only_entity end_element h = absurd cc
only_entity declaration h = absurd cc
only_entity self_contained h = absurd cc
only_entity comment h = absurd cc
only_entity instruction h = absurd cc
only_entity document_type h = absurd cc
only_entity entity h = refl

pub only_element : (own : Told) (t : Terminal) → is_of (content.Element own) t ≡ true → (k : Telling) × (t ≡ element k) × (is_told own k ≡ true)
only_element own start_document h = absurd cc
only_element own end_document h = absurd cc
only_element own (element t) h = (t, refl, h)
only_element own (attribute t u) h = absurd cc
only_element own (characters d) h = absurd cc
only_element own end_element h = absurd cc
only_element own declaration h = absurd cc
only_element own self_contained h = absurd cc
only_element own comment h = absurd cc
only_element own instruction h = absurd cc
only_element own document_type h = absurd cc
only_element own entity h = absurd cc

pub only_attribute : (own : Told) (v : Kind) (t : Terminal) → is_of (content.Attribute own v) t ≡ true → (k : Telling) × (u : Valuing) × (t ≡ attribute k u) × (is_told own k ≡ true)
only_attribute own v start_document h = absurd cc
only_attribute own v end_document h = absurd cc
only_attribute own v (element t) h = absurd cc
only_attribute own v (attribute t u) h = (t, u, refl, h)
only_attribute own v (characters d) h = absurd cc
only_attribute own v end_element h = absurd cc
only_attribute own v declaration h = absurd cc
only_attribute own v self_contained h = absurd cc
only_attribute own v comment h = absurd cc
only_attribute own v instruction h = absurd cc
only_attribute own v document_type h = absurd cc
only_attribute own v entity h = absurd cc
