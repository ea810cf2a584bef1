use Rattle.c_tokens.proofs.Quoting.{Read}
use Rattle.c_tokens.proofs.quoted.text_of.Given as goal

abbrev pub invariant-bytes : goal.invariant-bytes
invariant-bytes l = Read l.body l.bytes.items l.b-index l.escaped
