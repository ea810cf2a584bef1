use Rattle.c_tokens.proofs.Numbers.{Counted}
use Rattle.c_tokens.proofs.literal.capped_number.Given as goal

abbrev pub invariant-digits : goal.invariant-digits
invariant-digits l = Counted l.number l.base l.digits l.b-index
