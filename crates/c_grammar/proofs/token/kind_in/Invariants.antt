use Rattle.std.proofs.Common.{◌≡◌, drop}
use Rattle.std.specs.Prelude.{map}
use Rattle.c_grammar.specs.Tokens.{kind_in}
use Rattle.c_grammar.proofs.token.kind_in.Given as goal

abbrev pub invariant-loop-entry : goal.invariant-loop-entry
invariant-loop-entry l =
    kind_in (map (λ w. record { text = w.0.now; kind = w.1 }) l.words) l.word ≡ kind_in (map (λ w. record { text = w.0.now; kind = w.1 }) (drop l.entry-index l.words)) l.word
