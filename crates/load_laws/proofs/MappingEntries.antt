-- The entries of the mapping between the two programs, by names and by numbers.
use Rattle.std.proofs.Common.{ℕ, ◌+◌, ◌-◌, pos, List, [], ◌∷◌, ◌++◌, None, codes}
use Rattle.std.specs.List.{flat_map, range_with_len}
use Rattle.c_tree.specs.declared.op.BinOp.TheVariants as bin
use Rattle.c_tree.specs.declared.place.PlaceKind.TheVariants as kind
use Rattle.c_tree.specs.declared.program.ExprKind.TheVariants as e
use Rattle.c_tree.specs.declared.lifted.LExpr.TheVariants as l
use Rattle.c_tree.specs.declared.mapping.Pt.{Pt}
use Rattle.c_tree.specs.declared.mapping.Fill.{Fill}
use Rattle.c_tree.specs.declared.mapping.Part.{Part}
use Rattle.c_tree.specs.declared.mapping.LFill.{LFill}
use Rattle.c_tree.specs.declared.mapping.LPart.{LPart}
use Rattle.c_tree.specs.declared.mapping.Entry.{Entry}
use Rattle.c_tree.specs.declared.mapping.Entry.TheVariants as by_name
use Rattle.c_tree.specs.declared.mapping.LEntry.{LEntry}
use Rattle.c_tree.specs.declared.mapping.LEntry.TheVariants as by_number
use Rattle.load_laws.proofs.Programs.{function_name, node}

-- By names. Their offsets play no part.

-- the points that are mapped
abbrev pub entry_point : Pt
entry_point = record { kind = kind.Entry; number = 1 }

abbrev pub loop_point : Pt
loop_point = record { kind = kind.LoopEnd; number = 1 }

abbrev pub call_point : Pt
call_point = record { kind = kind.Call; number = 1 }

abbrev pub block_point : ℕ → Pt
block_point i = record { kind = kind.Block; number = i }

-- a part of the match of the old function
abbrev pub match_part : Pt → List Fill → Part
match_part point fills = record { function = None; point = point; fills = fills }

-- a point goes to one part, the point of the same name
abbrev pub kept_point : List ℕ → Pt → List Fill → Entry
kept_point name point fills = by_name.Point name point (match_part point fills ∷ [])

-- the new slot gets a value
abbrev pub fill_of : ℕ → Fill
fill_of k = record { slot = codes "z"; expr = node 0 (e.Bin bin.Mul (node 0 (e.Name (codes "i"))) (node 0 (e.Num (pos k)))) }

-- the points of the first function, of the function k and of the main function
abbrev pub first_named : List Entry
first_named = kept_point (function_name 1) entry_point [] ∷ kept_point (function_name 1) loop_point (fill_of 1 ∷ []) ∷ []

abbrev pub next_named : ℕ → List Entry
next_named k =
    kept_point (function_name k) entry_point []
    ∷ kept_point (function_name k) loop_point (fill_of k ∷ [])
    ∷ kept_point (function_name k) call_point (fill_of k ∷ [])
    ∷ []

abbrev pub main_named : List Entry
main_named =
    kept_point (codes "main") entry_point []
    ∷ kept_point (codes "main") (block_point 1) []
    ∷ kept_point (codes "main") (block_point 2) []
    ∷ kept_point (codes "main") (block_point 3) []
    ∷ kept_point (codes "main") (block_point 4) []
    ∷ []

abbrev pub named_entries : ℕ → List Entry
named_entries n = first_named ++ (flat_map next_named (range_with_len 2 (n - 1)) ++ main_named)

-- By numbers.

-- a part by its function, its place and what fills its slots
abbrev pub part_at : ℕ → ℕ → List LFill → LPart
part_at f place values = record { function = f; place = place; fills = values }

-- a place goes to one part, the place of the same number
abbrev pub kept_place : ℕ → ℕ → List LFill → LEntry
kept_place f place values = by_number.Point f place (part_at f place values ∷ [])

abbrev pub value_of : ℕ → LFill
value_of k = record { slot = 2; expr = l.Bin bin.Mul (l.Slot 1) (l.Num (pos k)) }

abbrev pub first_numbered : List LEntry
first_numbered = kept_place 0 0 [] ∷ kept_place 0 5 (value_of 1 ∷ []) ∷ []

abbrev pub next_numbered : ℕ → List LEntry
next_numbered k = kept_place (k - 1) 0 [] ∷ kept_place (k - 1) 5 (value_of k ∷ []) ∷ kept_place (k - 1) 6 (value_of k ∷ []) ∷ []

-- the main function has the number m
abbrev pub main_numbered : ℕ → List LEntry
main_numbered m = kept_place m 0 [] ∷ kept_place m 5 [] ∷ kept_place m 6 [] ∷ kept_place m 7 [] ∷ kept_place m 8 [] ∷ []

-- the entries of a load's patch
abbrev pub load_entries : ℕ → List LEntry
load_entries n = first_numbered ++ (flat_map next_numbered (range_with_len 2 (n - 1)) ++ main_numbered (n + 1))
