use Rattle.c_meaning.proofs.BlockedLemmas.{blocked-not_able}
use Rattle.c_meaning.proofs.laws.only_unable_threads_are_blocked.Goals as goal

pub returns : goal.returns
returns c = blocked-not_able
