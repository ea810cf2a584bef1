use Rattle.std.proofs.Common.{◌≡◌, ◌+◌, ◌++◌, drop}
use Rattle.target_code.specs.Operands.{sizes, args_code}
use Rattle.lower.proofs.expressions.put_args.Given as goal

-- what is put so far, and where the rest begins
abbrev pub invariant-each : goal.invariant-each
invariant-each l =
    (l.out.items ++ args_code l.from (drop l.i l.args) ≡ l.initial.out.items ++ args_code l.at l.args)
    × (l.from + sizes (drop l.i l.args) ≡ l.at + sizes l.args)
