use Rattle.std.proofs.Common.{◌≡◌, ◌++◌, length, drop}
use Rattle.target_code.specs.Code.{functions_code, texts_of}
use Rattle.lower.proofs.program.lower.Given as goal

-- what is put so far and what the rest has are the whole
abbrev pub invariant-functions : goal.invariant-functions
invariant-functions l =
    (l.codes.items ++ functions_code l.target.program (length l.texts.items) (drop l.f l.target.program.functions) ≡ functions_code l.target.program 0 l.target.program.functions)
    × (l.texts.items ++ texts_of (drop l.f l.target.program.functions) ≡ texts_of l.target.program.functions)
