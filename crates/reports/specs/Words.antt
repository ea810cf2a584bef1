-- The words for why an update was refused.
use Rattle.std.specs.Prelude.{ℕ, zero, suc, List, [], ◌∷◌, ◌++◌, find, map, unwrap_or, Option, Some, None, codes}
use Rattle.std.specs.List.{flat_map}
use Rattle.std.specs.Fmt.{decimal}
use Rattle.c_tree.specs.declared.event.Reason.{Reason}
use Rattle.c_tree.specs.declared.event.Reason.TheVariants as why
use Rattle.c_tree.specs.declared.lifted.Lifted.{Lifted}
use Rattle.c_tree.specs.declared.lifted.Slot.{Slot}
use Rattle.c_tree.specs.declared.mapping.LEntry.{LEntry}
use Rattle.c_tree.specs.declared.mapping.LEntry.TheVariants as n
use Rattle.c_tree.specs.declared.mapping.LPart.{LPart}
use Rattle.c_tree.specs.Canonical.{point_text}
use Rattle.c_tree.specs.Link.{Link, match_at}
use Rattle.c_tree.specs.MapStack.{is_point_of}
use Rattle.c_tree.specs.Names.{name_at, slot_name, field_name}
use Rattle.c_tree.specs.Points.{point_of}
use Rattle.c_tree.specs.Step.{function_of}
use Rattle.reports.specs.Trap.{numbered}

-- what a check came to: 0, or a trap
abbrev pub check_word : ℕ → List ℕ
check_word zero = codes "is 0"
check_word (suc n) = numbered (suc n)

-- a frame of a thread
abbrev pub frame : ℕ → ℕ → List ℕ
frame t f = codes "thread " ++ (decimal t ++ (codes " frame " ++ decimal f))

-- the function and the point of a place of a program
abbrev pub place : Lifted → ℕ → ℕ → List ℕ
place p f n = (function_of p f).name ++ (codes " " ++ point_text (point_of (function_of p f) n))

-- a frame of the old program that has no map
abbrev pub unmapped : Lifted → ℕ × ℕ → ℕ → ℕ → List ℕ
unmapped p at t f = frame t f ++ (codes " " ++ (place p at.0 at.1 ++ codes " unmapped"))

-- the match of a struct, where there is one
abbrev pub matched_struct : Link → ℕ → ℕ
matched_struct k s = unwrap_or (match_at k.structs s) 0

-- the new struct of an object whose old struct is s, and a field of it
abbrev pub field : Link → ℕ → ℕ → List ℕ
field k s i = name_at k.new 1 (matched_struct k s) ++ (codes "." ++ field_name k.new (matched_struct k s) i)

-- the match of a function, where there is one
abbrev pub matched_function : Link → ℕ → ℕ
matched_function k f = unwrap_or (match_at k.functions f) 0

-- the functions of parts, outermost first
abbrev pub functions_of : List LPart → List ℕ
functions_of parts = map (λ p. p.function) parts

-- the parts that an entry declares
abbrev pub declared : Option LEntry → Option (List LPart)
declared (Some (n.Point f p parts)) = Some parts
declared _ = None

-- the functions of declared parts, or else the match of f
abbrev pub functions_by : Link → ℕ → Option (List LPart) → List ℕ
functions_by k f None = matched_function k f ∷ []
functions_by k f (Some parts) = functions_of parts

-- the slots of new functions, one function after the other
abbrev pub slots_in : Link → List ℕ → List Slot
slots_in k functions = flat_map (λ g. (function_of k.new g).slots) functions

-- the slots of all parts of a frame of the function f at the place p
abbrev pub part_slots : Link → List LEntry → ℕ → ℕ → List Slot
part_slots k entries f p = slots_in k (functions_by k f (declared (find (is_point_of f p) entries)))

-- a slot of those of all parts of a frame, by its number among them
abbrev pub slot : Link → List LEntry → ℕ × ℕ → ℕ → List ℕ
slot k entries at i = slot_name (part_slots k entries at.0 at.1) i

-- The words of a reason. What it names in the old state has two numbers: the function and the place of a frame, or the struct of
-- an object.
abbrev pub reason : Link → List LEntry → ℕ × ℕ → Reason → List ℕ
reason k entries at (why.Unmapped t f) = unmapped k.old at t f
reason k entries at (why.Held m) = codes "mutex " ++ (name_at k.old 3 m ++ codes " held")
reason k entries at (why.Removed o) = codes "object " ++ (decimal o ++ codes " removed")
reason k entries at (why.Check i c) = codes "check " ++ (decimal i ++ (codes " " ++ check_word c))
reason k entries at (why.Global g c) = codes "global " ++ (name_at k.new 2 g ++ (codes " " ++ numbered c))
reason k entries at (why.Field o i c) = codes "field " ++ (decimal o ++ (codes " " ++ (field k at.0 i ++ (codes " " ++ numbered c))))
reason k entries at (why.Slot t f i c) = codes "slot " ++ (frame t f ++ (codes " " ++ (slot k entries at i ++ (codes " " ++ numbered c))))
reason k entries at why.Memory = codes "memory"
reason k entries at (why.Depth t) = codes "thread " ++ (decimal t ++ codes " too deep")
