-- By what the productions of a state of a book are looked up for an event: by its kind, and by what a code can tell of its
-- name (EXI 1.0, section 8.5.4).
use Rattle.std.specs.Prelude.{if◌then◌else◌}
use Rattle.exi_builtin.specs.Learning.{is_type}
use Rattle.exi_candidates.specs.declared.sought.Sought.{Sought}
use Rattle.exi_candidates.specs.declared.sought.Sought.TheVariants as sought
use Rattle.exi_gram.specs.declared.named.Named.{Named}
use Rattle.exi_gram.specs.declared.named.Named.TheVariants as named
use Rattle.exi_processing.specs.Contents.{is_nil}
use Rattle.exi_processing.specs.declared.rule.Content.{Content}
use Rattle.exi_processing.specs.declared.rule.Content.TheVariants as content
use Rattle.exi_processing.specs.declared.rule.Telling.{Telling as Told}
use Rattle.exi_processing.specs.declared.rule.Telling.TheVariants as told

abbrev pub naming : Told → Named
naming told.Spelled = named.Nothing
naming (told.Under uri) = named.Uri uri
naming (told.Known id) = named.Name id

-- xsi:type and xsi:nil have productions of their own beside those for attributes
abbrev pub sought_attribute : Told → Sought
sought_attribute told.Spelled = sought.At named.Nothing
sought_attribute (told.Under uri) = sought.At (named.Uri uri)
sought_attribute (told.Known id) = if is_type id then sought.Type (named.Name id) else (if is_nil id then sought.Nil (named.Name id) else sought.At (named.Name id))

abbrev pub sought_for : Content → Sought
sought_for content.StartDocument = sought.Sd
sought_for content.EndDocument = sought.Ed
sought_for (content.Element own) = sought.Se (naming own)
sought_for (content.Attribute own v) = sought_attribute own
sought_for content.Characters = sought.Ch
sought_for content.EndElement = sought.Ee
sought_for content.Declaration = sought.Ns
sought_for content.SelfContained = sought.Sc
sought_for content.Comment = sought.Cm
sought_for content.Instruction = sought.Pi
sought_for content.DocumentType = sought.Dt
sought_for content.Entity = sought.Er
