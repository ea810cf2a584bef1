-- What can be told of files and of a sink, and what their calls do.
use Rattle.std.specs.Prelude.{◌≡◌, ◌⊎◌, ℕ, ◌+◌, ◌-◌, ◌^◌, ◌<◌, ◌≤◌, min, List, ◌++◌, length, take, Option, Some, None, Result, IfOk, OnOk, OnErr, IsErrOf, Vec, if◌then◌else◌}
use Rattle.std.specs.Str.{bytes_eq}
use Rattle.std.specs.declared.alloc.Global.{Global}
use Rattle.up_base.specs.Reading.{counted}
use Rattle.up_base.specs.declared.reading.Reading.{Reading}
use Rattle.up_base.specs.declared.refusal.ReadEnd.{ReadEnd}
use Rattle.up_base.specs.declared.refusal.ReadEnd.TheVariants as read
use Rattle.up_base.specs.declared.refusal.PutEnd.{PutEnd}
use Rattle.up_base.specs.declared.refusal.PutEnd.TheVariants as put

-- A count rose, or stands at its type's end.
abbrev pub Rose : ℕ → ℕ → Type 0
Rose before now = min (before + 1) (2 ^ 64 - 1) ≤ now

-- what each name holds, where it is there
abbrev pub Contents : Type 0
Contents = List ℕ → Option (List ℕ)

-- what can be told of files: their contents, where these are told, the counts of their reads, and that of faults of writing
pub record Shelf : Type 0 where
  pub held : Option Contents
  pub reading : Reading
  pub write_faults : ℕ

-- what can be told of a sink: the bytes taken so far, where these are told, and the count of faults
pub record Sunk : Type 0 where
  pub taken : Option (List ℕ)
  pub faults : ℕ

-- Where contents are told, the name holds these bytes.
abbrev pub Holds : Option Contents → List ℕ → List ℕ → Type 0
Holds None name bytes = Unit {0}
Holds (Some m) name bytes = m name ≡ Some bytes

-- Where contents are told, the name holds more than that.
abbrev pub HoldsMore : Option Contents → List ℕ → ℕ → Type 0
HoldsMore None name limit = Unit {0}
HoldsMore (Some m) name limit = (bytes : List ℕ) × (m name ≡ Some bytes) × (limit < length bytes)

-- Where contents are told, the name isn't there.
abbrev pub Lacks : Option Contents → List ℕ → Type 0
Lacks None name = Unit {0}
Lacks (Some m) name = m name ≡ None

-- What a read does: it leaves all contents, is counted by what it came to, and comes to that only where the name holds it.
pub record Reads (before now : Shelf) (name : List ℕ) (limit : ℕ) (result : Result (Vec ℕ Global) ReadEnd) : Type 0 where
  pub held : now.held ≡ before.held
  pub writes : now.write_faults ≡ before.write_faults
  pub counts : now.reading ≡ counted limit result before.reading
  pub later : before.reading.faults ≤ now.reading.faults
  pub whole : IfOk result (λ v. (length v.items ≤ limit) × Holds before.held name v.items)
  pub long : IsErrOf result read.TooLong → HoldsMore before.held name limit
  pub missing : IsErrOf result read.Missing → Lacks before.held name

-- the contents after a name was given these bytes
abbrev pub given : Contents → List ℕ → List ℕ → Contents
given m name bytes = λ q. if bytes_eq name q then Some bytes else m q

-- what is told of contents after that
abbrev pub written : Option Contents → List ℕ → List ℕ → Option Contents
written None name bytes = None
written (Some m) name bytes = Some (given m name bytes)

-- the first bytes of a text, or all of it
abbrev pub IsPart : List ℕ → List ℕ → Type 0
IsPart part bytes = (n : ℕ) × (n ≤ length bytes) × (part ≡ take n bytes)

-- What a write does: it changes that name alone, and a fault of it is counted.
pub record Writes (before now : Shelf) (name bytes : List ℕ) (result : Result (Unit {0}) PutEnd) : Type 0 where
  pub reads : now.reading ≡ before.reading
  pub later : before.write_faults ≤ now.write_faults
  pub whole : OnOk result (now.held ≡ written before.held name bytes)
  -- After an error the name holds what it held, or a part of the bytes.
  pub part : OnErr result ((now.held ≡ before.held) ⊎ ((p : List ℕ) × IsPart p bytes × (now.held ≡ written before.held name p)))
  pub failed : IsErrOf result put.Failed → Rose before.write_faults now.write_faults

-- what a sink has taken after more bytes
abbrev pub grown : Option (List ℕ) → List ℕ → Option (List ℕ)
grown None bytes = None
grown (Some old) bytes = Some (old ++ bytes)

-- What a put does: it appends the first bytes, or nothing, and a fault of it is counted.
pub record Puts (before now : Sunk) (bytes : List ℕ) (result : Result ℕ PutEnd) : Type 0 where
  pub later : before.faults ≤ now.faults
  pub within : IfOk result (λ k. (k ≤ length bytes) × (0 < length bytes → 0 < k))
  pub took : IfOk result (λ k. now.taken ≡ grown before.taken (take k bytes))
  pub nothing : OnErr result (now.taken ≡ before.taken)
  pub failed : IsErrOf result put.Failed → Rose before.faults now.faults

-- What putting all bytes does: it appends them, or the first of them, and a fault of it is counted.
pub record PutsAll (before now : Sunk) (bytes : List ℕ) (result : Result (Unit {0}) PutEnd) : Type 0 where
  pub later : before.faults ≤ now.faults
  pub whole : OnOk result (now.taken ≡ grown before.taken bytes)
  pub part : OnErr result ((p : List ℕ) × IsPart p bytes × (now.taken ≡ grown before.taken p))
  pub failed : IsErrOf result put.Failed → Rose before.faults now.faults
