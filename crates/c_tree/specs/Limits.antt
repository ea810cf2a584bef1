-- The limits of a source, of a program and of a run.
use Rattle.std.specs.Prelude.{ℕ}

-- a source has at most so many functions with a body
abbrev pub max_functions : ℕ
max_functions = 2000

-- a function has at most so many parameters and locals
abbrev pub max_locals : ℕ
max_locals = 64

-- an array has at most so many elements
abbrev pub max_length : ℕ
max_length = 65536

-- the globals have at most so many words together
abbrev pub max_words : ℕ
max_words = 1000000

-- a function has at most so many places
abbrev pub max_places : ℕ
max_places = 10000

-- a function has at most so many slots, its temporaries among them
abbrev pub max_slots : ℕ
max_slots = 128

-- a thread has at most so many frames at once
abbrev pub max_frames : ℕ
max_frames = 10000

-- so many threads may live at once
abbrev pub max_live : ℕ
max_live = 64

-- a run makes at most so many threads, the first among them
abbrev pub max_threads : ℕ
max_threads = 1000

-- a run makes at most so many objects
abbrev pub max_objects : ℕ
max_objects = 1000000

-- a run puts out at most so many bytes
abbrev pub max_output : ℕ
max_output = 4194304
