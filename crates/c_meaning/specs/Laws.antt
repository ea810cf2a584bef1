-- What holds of every step.
use Rattle.std.specs.Prelude.{◌≡◌, ◌↔◌, ℕ, false}
use Rattle.c_tree.specs.declared.lifted.Lifted.{Lifted}
use Rattle.c_tree.specs.declared.state.State.{State}
use Rattle.c_tree.specs.Able.{able}
use Rattle.c_tree.specs.Step.{Blocked, step}

-- a step is blocked exactly where the thread isn't able
abbrev pub BlockedWhereNotAble : Type 0
BlockedWhereNotAble = (p : Lifted) (t : ℕ) (s : State) → (step p t s ≡ Blocked) ↔ (able p s t ≡ false)
