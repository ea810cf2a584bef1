-- The canonical text of the entries of a mapping reads back.
use Rattle.read_back.specs.Laws.{CanonicalTextReadsBack}
use Rattle.read_back.proofs.Kept.{mappings_keep}
use Rattle.read_back.proofs.Whole.{reads_back}

pub law : CanonicalTextReadsBack
law text p q m es a b is w = reads_back p q m es a b (mappings_keep text m is) w
