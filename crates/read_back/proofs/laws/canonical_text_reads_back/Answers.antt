use Rattle.read_back.proofs.Law.{law}
use Rattle.read_back.proofs.laws.canonical_text_reads_back.Goals as goal

pub returns : goal.returns
returns c = law
