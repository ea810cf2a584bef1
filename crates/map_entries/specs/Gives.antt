-- What a call gives where something is meant.
use Rattle.std.specs.Prelude.{◌≡◌, ⊤, Result, Ok, Err}
use Rattle.c_tree.specs.declared.cause.EntryCause.{EntryCause}
use Rattle.map_entries.specs.declared.refused.EntryRefused.{EntryRefused}
use Rattle.map_entries.specs.declared.refused.EntryRefused.TheVariants.{Cause, Memory}

-- it is what is meant; want of memory says nothing
abbrev pub Gives : {A : Type 0} → Result A EntryRefused → Result A EntryCause → Type 0
Gives (Ok x) meant = meant ≡ Ok x
Gives (Err (Cause c)) meant = meant ≡ Err c
Gives (Err (Memory e)) meant = ⊤
