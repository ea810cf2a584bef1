-- What is asked of a value.
use Rattle.std.specs.Prelude.{Bool}
use Rattle.c_tree.specs.declared.ty.Ty.{Ty}
use Rattle.c_tree.specs.declared.op.UnOp.{UnOp}
use Rattle.c_tree.specs.declared.op.UnOp.TheVariants as un
use Rattle.c_tree.specs.Types.{Side, is_int, is_pointer, is_testable, is_thread}
use Rattle.c_tree.specs.Typing.{anything, is_freeable}
use Rattle.c_check.specs.declared.types.Test.{Test}
use Rattle.c_check.specs.declared.types.Test.TheVariants as test
use Rattle.c_check.specs.declared.types.Operand.{Operand}

-- the types that a test passes; the flag tells a literal 0
abbrev pub passes : Test → Bool → Ty → Bool
passes test.Int literal = is_int
passes test.Pointer literal = is_pointer
passes test.Testable literal = is_testable
passes test.Thread literal = is_thread
passes test.Freeable literal = is_freeable literal
passes test.Anything literal = anything

-- the test for the operand of a prefix operator
abbrev pub test_of : UnOp → Test
test_of un.Not = test.Testable
test_of _ = test.Int

-- an operand as a side of an operator
abbrev pub side_of : Operand → Side
side_of a = record { type = a.ty; zero = a.is_zero }
