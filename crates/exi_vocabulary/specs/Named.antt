-- Names as the keys of maps.
use Rattle.exi_vocabulary.specs.declared.name.Name.{Name}
use Rattle.exi_vocabulary.specs.Vocabulary.{Pair}

abbrev pub name_pair : Name → Pair
name_pair n = (n.local.now, n.uri.now)
