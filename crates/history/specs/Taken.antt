-- What is taken from the front of bytes, and what bytes lack.
use Rattle.std.specs.Prelude.{◌≡◌, ℕ, ◌==◌, ◌||◌, if◌then◌else◌, ⊤, List, [], ◌∷◌, ◌++◌, length, take, codes, All, Option, Some, None, unwrap_or}
use Rattle.std.specs.Fmt.{decimal}
use Rattle.std.specs.Int.{IsInRange}
use Rattle.std.specs.List.{flat_map}
use Rattle.c_tree.specs.declared.event.EventKind.{EventKind}
use Rattle.c_tree.specs.declared.event.Event.{Event}
use Rattle.c_tree.specs.declared.event.Reason.{Reason}
use Rattle.history.specs.declared.word.Word.{Word}
use Rattle.history.specs.declared.word.Word.TheVariants as w
use Rattle.history.specs.History.{spaced, kind_text, reason_numbers, line, IsShort, IsKind, IsEvent}

-- the bytes don't begin with a digit
abbrev pub NoDigit : List ℕ → Type 0
NoDigit [] = ⊤
NoDigit (c ∷ cs) = ¬ (IsInRange 48 57 c)

-- the bytes are a number's and the rest, which begins with no digit
abbrev pub TakesNumber : List ℕ → ℕ → List ℕ → Type 0
TakesNumber bytes n rest = IsShort n × (bytes ≡ decimal n ++ rest) × NoDigit rest

-- no number stands at the front, before a byte that is no digit
abbrev pub LacksNumber : List ℕ → Type 0
LacksNumber bytes =
    (n : ℕ) (more : List ℕ) → IsShort n → NoDigit more → bytes ≡ decimal n ++ more → ⊥

-- no space stands at the front
abbrev pub LacksSpace : List ℕ → Type 0
LacksSpace bytes = (more : List ℕ) → bytes ≡ 32 ∷ more → ⊥

-- the bytes are a space, a number and the rest, which begins with no digit
abbrev pub TakesSpaced : List ℕ → ℕ → List ℕ → Type 0
TakesSpaced bytes n rest = IsShort n × (bytes ≡ spaced n ++ rest) × NoDigit rest

-- no number stands at the front after a space, before a byte that is no digit
abbrev pub LacksSpaced : List ℕ → Type 0
LacksSpaced bytes =
    (n : ℕ) (more : List ℕ) → IsShort n → NoDigit more → bytes ≡ spaced n ++ more → ⊥

-- the bytes are numbers, each after a space, a newline and the rest
abbrev pub TakesNumbers : List ℕ → List ℕ → List ℕ → Type 0
TakesNumbers bytes ns rest = All IsShort ns × (bytes ≡ flat_map spaced ns ++ 10 ∷ rest)

-- no such count of numbers stands at the front, before a newline
abbrev pub LacksNumbers : ℕ → List ℕ → Type 0
LacksNumbers count bytes =
    (ns more : List ℕ) → length ns ≡ count → All IsShort ns
    → bytes ≡ flat_map spaced ns ++ 10 ∷ more → ⊥

-- the letters of a word
abbrev pub letters : Word → List ℕ
letters w.Step = codes "step"
letters w.Request = codes "request"
letters w.Park = codes "park"
letters w.Update = codes "update"
letters w.Refuse = codes "refuse"
letters w.Resume = codes "resume"

-- no word stands at the front
abbrev pub LacksWord : List ℕ → Type 0
LacksWord bytes = (word : Word) (more : List ℕ) → bytes ≡ letters word ++ more → ⊥

-- the bytes are a reason's numbers, a newline and the rest
abbrev pub TakesReason : List ℕ → Reason → List ℕ → Type 0
TakesReason bytes reason rest = TakesNumbers bytes (reason_numbers reason) rest

-- no reason's numbers stand at the front, before a newline
abbrev pub LacksReason : List ℕ → Type 0
LacksReason bytes =
    (reason : Reason) (more : List ℕ) → All IsShort (reason_numbers reason)
    → bytes ≡ flat_map spaced (reason_numbers reason) ++ 10 ∷ more → ⊥

-- the bytes are a kind's text and the rest
abbrev pub TakesKind : List ℕ → EventKind → List ℕ → Type 0
TakesKind bytes kind rest = IsKind kind × (bytes ≡ kind_text kind ++ rest)

-- no kind's text stands at the front
abbrev pub LacksKind : List ℕ → Type 0
LacksKind bytes =
    (kind : EventKind) (more : List ℕ) → IsKind kind → bytes ≡ kind_text kind ++ more → ⊥

-- the bytes are an event's line and the rest
abbrev pub TakesLine : List ℕ → Event → List ℕ → Type 0
TakesLine bytes event rest = IsEvent event × (bytes ≡ line event ++ rest)

-- how many numbers stand after a reason's code
abbrev pub numbers_after : ℕ → Option ℕ
numbers_after code =
    if code == 8 then Some 0 else if (code == 2) || (code == 3) || (code == 9) then Some 1
    else if (code == 1) || (code == 4) || (code == 5) then Some 2 else if code == 6 then Some 3
    else if code == 7 then Some 4 else None

-- a code, and as many of the numbers as stand after it
abbrev pub coded : ℕ → List ℕ → List ℕ
coded code ns = code ∷ take (unwrap_or (numbers_after code) 0) ns
