-- Which sources are accepted, what program each is, and why the others are refused.
use Rattle.std.specs.Prelude.{◌≡◌, ◌⊎◌, ℕ, List, Some, None}
use Rattle.c_tree.specs.declared.cause.ReadCause.{ReadCause}
use Rattle.c_tree.specs.declared.cause.CheckCause.{CheckCause}
use Rattle.c_tree.specs.declared.cause.LimitKind.{LimitKind}
use Rattle.c_tree.specs.declared.cause.SourceCause.{SourceCause}
use Rattle.c_tree.specs.declared.cause.SourceCause.TheVariants as cause
use Rattle.c_tree.specs.declared.lifted.Lifted.{Lifted}
use Rattle.c_tree.specs.declared.program.Program.{Program}
use Rattle.c_tree.specs.Lifting.{lift, lift_limit}
use Rattle.c_tree.specs.Typing.{IsWellTyped, first_cause}
use Rattle.c_grammar.specs.Source.{IsProgramOf, IsFirstFault}

-- The bytes are the text of a well-typed tree, whose lifting is this program and keeps the limits.
pub record IsAccepted (source : List ℕ) (p : Lifted) : Type 0 where
  pub tree : Program
  pub read : IsProgramOf source tree
  pub typed : IsWellTyped tree
  pub small : lift_limit tree ≡ None
  pub lifted : p ≡ lift tree

-- The bytes are refused at an offset: by the first fault of their text; by the first fault of their tree's typing; or by the
-- first function that passes a limit.
pub data IsRefused (source : List ℕ) (at : ℕ) (why : SourceCause) : Type 0 where
  unread : (c : ReadCause) → why ≡ cause.Read c → IsFirstFault source at c → IsRefused source at why
  ill_typed : (tree : Program) (c : CheckCause) → why ≡ cause.Check c → IsProgramOf source tree → first_cause tree ≡ Some (record { at = at; it = c }) → IsRefused source at why
  too_large : (tree : Program) (kind : LimitKind) → why ≡ cause.Lift kind → IsProgramOf source tree → IsWellTyped tree → lift_limit tree ≡ Some (at, kind) → IsRefused source at why

-- A source is accepted, and then a fact holds of its program; or it is refused, and then one of the offset and the cause.
abbrev pub Judged : List ℕ → (Lifted → Type 0) → (ℕ → SourceCause → Type 0) → Type 0
Judged source Taken Refused = ((p : Lifted) × IsAccepted source p × Taken p) ⊎ ((at : ℕ) × (why : SourceCause) × IsRefused source at why × Refused at why)
