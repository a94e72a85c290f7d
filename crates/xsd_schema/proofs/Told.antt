-- What a document declares, where it is read without a fault, fits together.
use Rattle.std.proofs.Common.{◌≡◌, Bool, Option, Some, None, List, All, length, map, Result, Ok, Err, refl, sym, ap}
use Rattle.std.proofs.lemmas.Option.{none-some}
use Rattle.xsd_schema.specs.Views.{as_told}
use Rattle.xsd_model.specs.Parts.{IsSchemaParts, Parts}
use Rattle.xsd_model.specs.declared.fault.SchemaFault.{SchemaFault}
use Rattle.xsd_tree.specs.Trees.{IsTree}
use Rattle.xsd_tree.specs.declared.node.Node.{Node}
use Rattle.xsd_schema.specs.Shown.{first_from}
use Rattle.xsd_schema.specs.Documents.{Declared, declared, parts_of}
use Rattle.xsd_schema.specs.Shows.{shows_at}
use Rattle.xsd_schema.specs.Seen.{type_seen}
use Rattle.xsd_schema.specs.Types.{HasFormIn, or_fault}
use Rattle.xsd_schema.proofs.Fits.{fit}

abbrev or_this : Declared → Result Declared SchemaFault → Declared
or_this d (Ok x) = x
or_this d (Err f) = d

abbrev fault_in : Result Declared SchemaFault → Option SchemaFault
fault_in (Ok x) = None
fault_in (Err f) = Some f

no_fault : (o : Option SchemaFault) (x y : Declared) → or_fault o x ≡ Ok y → (o ≡ None) × (x ≡ y)
no_fault None x y e = (refl, ap (or_this x) e)
no_fault (Some f) x y e = absurd (none-some f (sym (ap fault_in e)))

pub told_fit : (joined : Bool) (ns : List Node) (p : Parts) → IsTree ns → parts_of joined ns ≡ Ok (as_told p) → All (HasFormIn (length p.forms)) p.types → IsSchemaParts p
unfolding parts_of
told_fit joined ns p tree e has =
    let both = no_fault (first_from (shows_at joined ns) 0 ns) (declared ns) (as_told p) e in
    let same : as_told p ≡ declared ns = sym both.1 in
    fit joined ns p tree both.0
    (record {
      elements = ap (λ (d : Declared). d.elements) same;
      attributes = ap (λ (d : Declared). d.attributes) same;
      types = ap (λ (d : Declared). d.types) same;
      formed = has;
      groups = ap (λ (d : Declared). d.groups) same;
      attribute_groups = ap (λ (d : Declared). d.attribute_groups) same;
      particles = ap (λ (d : Declared). d.particles) same;
    })
