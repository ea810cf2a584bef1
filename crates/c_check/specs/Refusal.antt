-- What a refusal says of a program.
use Rattle.std.specs.Prelude.{◌≡◌, Some}
use Rattle.c_tree.specs.declared.program.Program.{Program}
use Rattle.c_tree.specs.Typing.{first_cause}
use Rattle.c_check.specs.declared.refusal.CheckRefused.{CheckRefused}
use Rattle.c_check.specs.declared.refusal.CheckRefused.TheVariants as refused

-- a refusal at an offset is the program's first fault; of want of memory nothing is said
abbrev pub IsRefusal : Program → CheckRefused → Type 0
IsRefusal p (refused.At at cause) = first_cause p ≡ Some (record { at = at; it = cause })
IsRefusal p (refused.Memory e) = Unit {0}
