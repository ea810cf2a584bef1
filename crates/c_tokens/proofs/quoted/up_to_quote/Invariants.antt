use Rattle.c_tokens.proofs.Quoting.{Searched}
use Rattle.c_tokens.proofs.quoted.up_to_quote.Given as goal

abbrev pub invariant-bytes : goal.invariant-bytes
invariant-bytes l = Searched l.quote l.rest l.i l.escaped
