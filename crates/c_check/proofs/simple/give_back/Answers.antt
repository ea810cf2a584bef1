use Rattle.std.proofs.Common.{Some, ◌∙◌, ap, sym}
use Rattle.c_tree.specs.declared.cause.CheckCause.TheVariants as cause
use Rattle.c_tree.specs.Fault.{fault}
use Rattle.c_check.specs.declared.types.Test.TheVariants as test
use Rattle.c_check.specs.Inner.{around}
use Rattle.c_check.specs.Words.{noted, valued}
use Rattle.c_check.specs.Statements.{returned}
use Rattle.c_check.proofs.NoteLemmas.{noted_then}
use Rattle.c_check.proofs.StatementLemmas.{returned-void-Some}
use Rattle.c_check.proofs.simple.give_back.Goals as goal

pub returns-in_ok-value-in-Void-Some : goal.returns-in_ok-value-in-Void-Some
returns-in_ok-value-in-Void-Some c =
    let sc = around c.args.file.now c.args.locals.now in
    let x = c.in-Void-Some.x in
    noted_then c.args.first.now c.note.new.first c.value.new.first (fault c.args.at cause.ReturnValue) (valued sc test.Anything x)
    c.note.ensures c.in_ok-value-in-Void-Some.ensures.faults
    ∙ ap (noted c.args.first.now) (sym (returned-void-Some sc c.args.at x) ∙ (ap (λ t. returned sc c.args.at t (Some x)) (sym c.in-Void-Some.is-0)
    ∙ ap (returned sc c.args.at c.args.ret.now) (sym c.in-Void-Some.is-1)))
