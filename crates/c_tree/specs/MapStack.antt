-- How the frames of an old thread become those of a new one.
use Rattle.std.specs.Prelude.{ℕ, ◌+◌, Bool, false, not, ◌&&◌, ◌==◌, nat_lt, is_none, if◌then◌else◌, List, [], ◌∷◌, ◌++◌, map, find, length, Option, Some, None, Result, Ok, Err}
use Rattle.std.specs.Option.{option_map, option_or}
use Rattle.std.specs.List.{enumerate_from, sum}
use Rattle.c_tree.specs.declared.lifted.LExpr.{LExpr}
use Rattle.c_tree.specs.declared.lifted.LExpr.TheVariants as l
use Rattle.c_tree.specs.declared.lifted.Slot.{Slot}
use Rattle.c_tree.specs.declared.place.PlaceKind.TheVariants as kind
use Rattle.c_tree.specs.declared.mapping.LFill.{LFill}
use Rattle.c_tree.specs.declared.mapping.LPart.{LPart}
use Rattle.c_tree.specs.declared.mapping.LEntry.{LEntry}
use Rattle.c_tree.specs.declared.mapping.LEntry.TheVariants as n
use Rattle.c_tree.specs.declared.state.Frame.{Frame}
use Rattle.c_tree.specs.declared.state.State.{State}
use Rattle.c_tree.specs.declared.event.Reason.{Reason}
use Rattle.c_tree.specs.declared.event.Reason.TheVariants as why
use Rattle.c_tree.specs.Limits.{max_frames}
use Rattle.c_tree.specs.Value.{View}
use Rattle.c_tree.specs.Step.{function_of, view_of}
use Rattle.c_tree.specs.Refusal.{onward, unless_refused}
use Rattle.c_tree.specs.Points.{is_kind, kind_in}
use Rattle.c_tree.specs.Link.{Link, match_at}
use Rattle.c_tree.specs.Same.{is_unchanged}
use Rattle.c_tree.specs.Fillings.{carried, filling, filled}

-- what an entry fills a slot with
abbrev pub fill_for : List LFill → ℕ → Option LExpr
fill_for fills i = option_map (λ x. x.expr) (find (λ x. x.slot == i) fills)

-- what fills the slots of a new frame
abbrev pub slot_fillings : Link → List Slot → List LFill → List Slot → List LExpr
slot_fillings k olds fills news = map (λ x. filling (fill_for fills x.0) (option_map (λ i. l.Slot i) (carried k olds x.1))) (enumerate_from 0 news)

-- a frame becomes parts: functions of the new program, each with a place and what fills its slots
pub record Part : Type 0 where
  pub function : ℕ
  pub place : ℕ
  pub fillings : List LExpr

-- the part at place m of the function g, to which these old slots are carried over
abbrev pub part : Link → List Slot → ℕ → ℕ → List LFill → Part
part k olds g m fills = record { function = g; place = m; fillings = slot_fillings k olds fills (function_of k.new g).slots }

-- the parts of a frame with these old slots: only to the first are they carried over
abbrev pub parts_of : Link → List Slot → List LPart → List Part
parts_of k olds [] = []
parts_of k olds (p ∷ added) = part k olds p.function p.place p.fills ∷ parts_of k [] added

-- whether an entry maps a place of an old function
abbrev pub is_point_of : ℕ → ℕ → LEntry → Bool
is_point_of f i (n.Point g j _) = f == g && i == j
is_point_of f i _ = false

-- the parts that an entry declares
abbrev pub declared_parts : Link → ℕ → Option LEntry → Option (List Part)
declared_parts k f (Some (n.Point _ _ parts)) = Some (parts_of k (function_of k.old f).slots parts)
declared_parts k f _ = None

-- a place of an unchanged function that is no plain one: the same place
abbrev pub unchanged_parts : Link → ℕ → ℕ → ℕ → Option (List Part)
unchanged_parts k f g i =
    if is_unchanged k f g && not (is_kind kind.Plain (kind_in (function_of k.old f) i)) then Some (part k (function_of k.old f).slots g i [] ∷ []) else None

-- the parts of a place of a function that has a match
abbrev pub parts_of_match : Link → List LEntry → ℕ → ℕ → Option ℕ → Option (List Part)
parts_of_match k entries f i None = None
parts_of_match k entries f i (Some g) = option_or (declared_parts k f (find (is_point_of f i) entries)) (unchanged_parts k f g i)

-- the map of places: the declared one, else that of an unchanged function
abbrev pub parts_at : Link → List LEntry → ℕ → ℕ → Option (List Part)
parts_at k entries f i = parts_of_match k entries f i (match_at k.functions f)

-- the first frame that has no map; the first frame has number i
abbrev pub unmapped : Link → List LEntry → ℕ → ℕ → List Frame → Option Reason
unmapped k entries t i [] = None
unmapped k entries t i (f ∷ rest) =
    if is_none (parts_at k entries f.function f.place) then Some (why.Unmapped t i) else unmapped k entries t (i + 1) rest

-- how many parts there are
abbrev pub count_of : Option (List Part) → ℕ
count_of None = 0
count_of (Some parts) = length parts

-- how many frames the new stack has
abbrev pub new_depth : Link → List LEntry → List Frame → ℕ
new_depth k entries frames = sum (map (λ f. count_of (parts_at k entries f.function f.place)) frames)

-- a new stack of more frames than a thread may have
abbrev pub too_deep : Link → List LEntry → ℕ → List Frame → Option Reason
too_deep k entries t frames = if nat_lt max_frames (new_depth k entries frames) then Some (why.Depth t) else None

-- the frames of parts; slots are numbered through all parts
abbrev pub part_frames : View → (ℕ → ℕ → Reason) → ℕ → List Part → Result (List Frame) Reason
part_frames x because i [] = Ok []
part_frames x because i (p ∷ rest) =
    onward (filled x because i p.fillings) (λ vs. onward (part_frames x because (i + length p.fillings) rest) (λ fs.
    Ok (record { function = p.function; place = p.place; slots = vs } ∷ fs)))

-- the frames of parts that are there, or the reason that a frame has no map
abbrev pub frames_by : Option (List Part) → View → ℕ → ℕ → Result (List Frame) Reason
frames_by None x t i = Err (why.Unmapped t i)
frames_by (Some parts) x t i = part_frames x (λ j c. why.Slot t i j c) 0 parts

-- a frame becomes the frames of its parts
abbrev pub map_frame : Link → List LEntry → State → ℕ → ℕ → Frame → Result (List Frame) Reason
map_frame k entries s t i f = frames_by (parts_at k entries f.function f.place) (view_of s f) t i

-- so do frames, of which the first has number i
abbrev pub map_frames : Link → List LEntry → State → ℕ → ℕ → List Frame → Result (List Frame) Reason
map_frames k entries s t i [] = Ok []
map_frames k entries s t i (f ∷ rest) =
    onward (map_frame k entries s t i f) (λ fs. onward (map_frames k entries s t (i + 1) rest) (λ gs. Ok (fs ++ gs)))

-- a thread's frames, or the first that has no map, or else that they are too many, or else the first slot that traps
abbrev pub map_stack : Link → List LEntry → State → ℕ → List Frame → Result (List Frame) Reason
map_stack k entries s t frames =
    unless_refused (unmapped k entries t 0 frames) (unless_refused (too_deep k entries t frames) (map_frames k entries s t 0 frames))
