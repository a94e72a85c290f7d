-- Where items go through the tables they are read as there.
use Rattle.std.proofs.Common.{refl}
use Rattle.exi_names.specs.Datatypes as datatype
use Rattle.exi_values.specs.Valued.{ReadsTabled, valued_at}

pub same_read : ReadsTabled
unfolding valued_at
same_read datatype.text a name c h = refl
same_read (datatype.name keep) a name c h = refl
same_read (datatype.small least count) a name c h = absurd (h refl)
same_read datatype.unsigned a name c h = absurd (h refl)
same_read datatype.integer a name c h = absurd (h refl)
same_read (datatype.boolean pattern) a name c h = absurd (h refl)
same_read (datatype.binary hex) a name c h = absurd (h refl)
same_read datatype.decimal a name c h = absurd (h refl)
same_read datatype.float a name c h = absurd (h refl)
same_read (datatype.moment kind) a name c h = absurd (h refl)
same_read (datatype.list item) a name c h = absurd (h refl)
same_read (datatype.choice base values) a name c h = absurd (h refl)
same_read (datatype.chars set) a name c h = absurd (h refl)
