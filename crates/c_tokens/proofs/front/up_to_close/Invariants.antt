use Rattle.c_tokens.proofs.Closing.{Searched}
use Rattle.c_tokens.proofs.front.up_to_close.Given as goal

abbrev pub invariant-bytes : goal.invariant-bytes
invariant-bytes l = Searched l.i l.bytes
