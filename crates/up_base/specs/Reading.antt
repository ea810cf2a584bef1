-- Counts of reads, and how each read changes them.
use Rattle.std.specs.Prelude.{ℕ, ◌+◌, ◌-◌, ◌^◌, min, max, Result, Ok, Err, Vec}
use Rattle.std.specs.declared.alloc.Global.{Global}
use Rattle.up_base.specs.declared.reading.Reading.{Reading}
use Rattle.up_base.specs.declared.refusal.ReadEnd.{ReadEnd}
use Rattle.up_base.specs.declared.refusal.ReadEnd.TheVariants as read

-- A count with one more; it stands still at its type's end.
abbrev pub next : ℕ → ℕ
next n = min (n + 1) (2 ^ 64 - 1)

-- the counts before the first read
abbrev pub none_yet : Reading
none_yet = record { reads = 0; faults = 0; missed = 0; overran = 0; limit = 0 }

-- One more read was asked for, of so many bytes at most.
abbrev pub asked : ℕ → Reading → Reading
asked limit r = record r { reads = next r.reads; limit = max r.limit limit }

-- a read met a fault
abbrev pub faulted : Reading → Reading
faulted r = record r { faults = next r.faults }

-- a read found no file of the name
abbrev pub missed : Reading → Reading
missed r = record r { missed = next r.missed }

-- a read found more bytes than were asked for
abbrev pub overran : Reading → Reading
overran r = record r { overran = next r.overran }

-- the counts after a read of at most so many bytes, by what it came to
abbrev pub counted : ℕ → Result (Vec ℕ Global) ReadEnd → Reading → Reading
counted limit (Ok bytes) r = asked limit r
counted limit (Err read.Failed) r = faulted (asked limit r)
counted limit (Err read.Missing) r = missed (asked limit r)
counted limit (Err read.TooLong) r = overran (asked limit r)
counted limit (Err (read.Memory e)) r = asked limit r
