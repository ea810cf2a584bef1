-- What unfolds where codes of literal programs, and their runs, are computed: `unfolding
-- target_literals`.
unfoldable pub target_literals : Unit {0}
unfolding
    Rattle.c_tree.specs.Compute.literals
    Rattle.target_code.specs.Operands.size
    Rattle.target_code.specs.Operands.expr_code
    Rattle.target_code.specs.Code.stmt_size
    Rattle.target_code.specs.Code.rows_size
    Rattle.target_code.specs.Code.stmt_code
    Rattle.target_code.specs.Code.rows_code
    Rattle.target_code.specs.Code.stmt_marks
    Rattle.target_code.specs.Code.rows_marks
    Rattle.target_code.specs.TargetRun.target_next
target_literals = tt
