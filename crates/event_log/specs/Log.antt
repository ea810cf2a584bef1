-- What a log keeps, and the events that it stands for.
use Rattle.std.specs.Prelude.{ℕ, ◌-◌, ◌^◌, min, length, vec_len, vec_capacity}
use Rattle.event_log.specs.Seen.{Log}
use Rattle.event_log.specs.Named.{events_of, AllNamed}
use Rattle.event_log.specs.declared.log.EventLog.TheInside.{Inside}

-- an event needs a place for its word, and may need a place aside and a number below 2 ^ 31 there
abbrev pub room_of : Inside → ℕ
room_of l =
    min (vec_capacity l.words - vec_len l.words)
    (min (vec_capacity l.aside - vec_len l.aside) (2 ^ 31 - length l.aside.items))

-- what contracts see
abbrev pub log_of : Inside → Log
log_of l = record { items = events_of l.aside.items l.words.items; room = room_of l }

-- what a log keeps
abbrev pub IsWhole : Inside → Type 0
IsWhole l = AllNamed l.aside.items l.words.items
