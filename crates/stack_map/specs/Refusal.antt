-- What a refusal says.
use Rattle.std.specs.Prelude.{◌≡◌, Result, Err}
use Rattle.c_tree.specs.declared.event.Reason.{Reason}
use Rattle.stack_map.specs.declared.end.MapEnd.{MapEnd}
use Rattle.stack_map.specs.declared.end.MapEnd.TheVariants as end

-- it is the reason of the definition; want of memory may come at any time
abbrev pub IsRefusal : {A : Type 0} → Result A Reason → MapEnd → Type 0
IsRefusal a (end.Refused r) = a ≡ Err r
IsRefusal a (end.Memory e) = Unit {0}
