use Rattle.std.proofs.Common.{◌∙◌, map, string_bytes}
use Rattle.clap.specs.Words.{app_of, found_of, kind_of, rows_of}
use Rattle.command_line.proofs.BareLemmas.{found_rows, found_none}
use Rattle.command_line.proofs.matches.found_in.Goals as goal

pub returns-in-Ok : goal.returns-in-Ok
returns-in-Ok c = λ bare. found_rows (app_of c.args.command) (map string_bytes c.args.words.now) (rows_of (found_of c.in-Ok.matches)) bare
    (c.in-Ok.ensures.matches bare.simple).0 (c.in-Ok.ensures.kinds bare.free)

pub returns : goal.returns
returns c = λ bare. found_none (app_of c.args.command) (map string_bytes c.args.words.now) (kind_of c.in-Err.error) c.in-Err.ensures.passes
    (λ e. c.in_default.not-OutOfMemory (c.kind.ensures ∙ e))
