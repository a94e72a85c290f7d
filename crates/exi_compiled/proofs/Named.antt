-- Names that are declared, and URIs that are told, stand in the first string tables.
use Rattle.xsd_model.specs.Parts.{Parts}
use Rattle.exi_vocabulary.proofs.Standing.{all_have_places, attributes_stand, elements_stand, types_stand}
use Rattle.exi_compiled.proofs.Good.{HasNames}

pub has_names : (p : Parts) → HasNames p
has_names p = record { elements = elements_stand p; attributes = attributes_stand p; types = types_stand p; uris = all_have_places p }
