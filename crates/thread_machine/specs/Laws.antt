-- What holds of the threads of the target machine.
use Rattle.std.specs.Prelude.{◌≡◌, true}
use Rattle.c_tree.specs.declared.lifted.Lifted.{Lifted}
use Rattle.c_tree.specs.Able.{is_update_place}
use Rattle.c_tree.specs.Step.{top_of, at_frame}
use Rattle.target_code.specs.Between.{IsRunning}
use Rattle.target_code.specs.Code.{code_of}
use Rattle.target_code.specs.Seen.{seen}
use Rattle.target_code.specs.Target.{Target}
use Rattle.thread_machine.specs.Standing.{IsAtUpdate}

-- a running thread whose innermost frame is at an update place is at the mark and the flag of one
abbrev pub AnUpdatePlaceHasAFlag : Type 0
AnUpdatePlaceHasAFlag =
    (p : Lifted) (x : Target) → IsRunning p x
    → is_update_place (at_frame p (top_of (seen (code_of p) x))).act ≡ true → IsAtUpdate (code_of p) x
