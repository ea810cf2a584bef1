-- The refusals of the reader, of the checker and of the lifting, as refusals of a source.
use Rattle.std.specs.Prelude.{ℕ, List}
use Rattle.c_tree.specs.declared.cause.SourceCause.TheVariants as cause
use Rattle.c_tokens.specs.declared.refused.ReadRefused.{ReadRefused}
use Rattle.c_tokens.specs.declared.refused.ReadRefused.TheVariants as read
use Rattle.c_check.specs.declared.refusal.CheckRefused.{CheckRefused}
use Rattle.c_check.specs.declared.refusal.CheckRefused.TheVariants as check
use Rattle.c_lift.specs.declared.refusal.LiftRefused.{LiftRefused}
use Rattle.c_lift.specs.declared.refusal.LiftRefused.TheVariants as lift
use Rattle.c_source.specs.declared.refused.SourceRefused.{SourceRefused}
use Rattle.c_source.specs.declared.refused.SourceRefused.TheVariants.{At, Memory}
use Rattle.c_source.specs.Source.{IsRefused}

-- a refusal of the reader
abbrev pub unread : ReadRefused → SourceRefused
unread (read.At at c) = At at (cause.Read c)
unread (read.Memory e) = Memory e

-- a refusal of the checker
abbrev pub ill_typed : CheckRefused → SourceRefused
ill_typed (check.At at c) = At at (cause.Check c)
ill_typed (check.Memory e) = Memory e

-- a refusal of the lifting: a function passes a limit
abbrev pub too_large : LiftRefused → SourceRefused
too_large (lift.Limit at kind) = At at (cause.Lift kind)
too_large (lift.Memory e) = Memory e

-- What a refusal of a source says; want of memory may come at any time.
abbrev pub IsRefusal : List ℕ → SourceRefused → Type 0
IsRefusal source (At at why) = IsRefused source at why
IsRefusal source (Memory e) = Unit {0}
