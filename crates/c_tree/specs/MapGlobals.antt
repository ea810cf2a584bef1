-- How the globals of an old state become those of a new one.
use Rattle.std.specs.Prelude.{ℕ, ◌+◌, ◌-◌, ℤ, pos, Bool, ◌&&◌, ◌==◌, is_some, is_none, if◌then◌else◌, List, [], ◌∷◌, ◌++◌, map, length, take, replicate, slice_index_or, Option, Some, None, Result, Ok}
use Rattle.c_tree.specs.declared.lifted.LExpr.{LExpr}
use Rattle.c_tree.specs.declared.lifted.LExpr.TheVariants as l
use Rattle.c_tree.specs.declared.lifted.LGlobal.{LGlobal}
use Rattle.c_tree.specs.declared.ty.Ty.TheVariants as ty
use Rattle.c_tree.specs.declared.mapping.LEntry.{LEntry}
use Rattle.c_tree.specs.declared.mapping.LEntry.TheVariants as n
use Rattle.c_tree.specs.declared.state.State.{State}
use Rattle.c_tree.specs.declared.event.Reason.{Reason}
use Rattle.c_tree.specs.declared.event.Reason.TheVariants as why
use Rattle.c_tree.specs.Value.{View, view, value}
use Rattle.c_tree.specs.Refusal.{onward, first_some}
use Rattle.c_tree.specs.Link.{Link, origin, is_image}
use Rattle.c_tree.specs.Fillings.{with_reason}

-- what an entry fills a global with
abbrev pub init_of : ℕ → LEntry → Option LExpr
init_of g (n.Init h x) = if g == h then Some x else None
init_of g _ = None

-- an old global carries its values over: it has the same image type, and both or neither are arrays
abbrev pub carries : Link → LGlobal → LGlobal → Bool
carries k o g = (if is_some o.count then is_some g.count else is_none g.count) && is_image k o.ty g.ty

-- what stands for a global that is not there
abbrev pub no_global : LGlobal
no_global = record { name = []; ty = ty.Void; count = None; init = pos 0 }

-- the matched old global, where it carries its values over
abbrev pub if_carried : Link → LGlobal → Option ℕ → Option ℕ
if_carried k g None = None
if_carried k g (Some o) = if carries k (slice_index_or k.old.globals o no_global) g then Some o else None

-- the declared expression, else the old global, else the initialiser
abbrev pub global_filling : Option LExpr → Option ℕ → ℤ → LExpr
global_filling (Some declared) o init = declared
global_filling None (Some o) init = l.Global o
global_filling None None init = l.Num init

-- the values of an old global; none where there is none
abbrev pub values_at : State → Option ℕ → List ℤ
values_at s None = []
values_at s (Some o) = slice_index_or s.globals o []

-- the first n values, and 0 after them
abbrev pub resized : ℕ → List ℤ → List ℤ
resized n values = take n values ++ replicate (n - length values) (pos 0)

-- what an expression over globals reads, in the old state
abbrev pub global_view : State → View
global_view s = view [] [] s.globals s.heap.objects

-- the value of a scalar, or the reason that its expression traps
abbrev pub map_scalar : State → ℕ → LExpr → Result (List ℤ) Reason
map_scalar s g x = onward (with_reason (λ c. why.Global g c) (value (global_view s) x)) (λ v. Ok (v ∷ []))

-- a new global by the old one whose values it takes; an array takes as many as it has room for
abbrev pub map_global_by : List LEntry → State → ℕ → LGlobal → Option ℕ → Option ℕ → Result (List ℤ) Reason
map_global_by entries s g x o (Some n) = Ok (resized n (values_at s o))
map_global_by entries s g x o None = map_scalar s g (global_filling (first_some (map (init_of g) entries)) o x.init)

-- the values of the new global of number g
abbrev pub map_global : Link → List LEntry → State → ℕ → LGlobal → Result (List ℤ) Reason
map_global k entries s g x = map_global_by entries s g x (if_carried k x (origin k.globals g)) x.count

-- the values of the new globals from number g on
abbrev pub map_globals_from : Link → List LEntry → State → ℕ → List LGlobal → Result (List (List ℤ)) Reason
map_globals_from k entries s g [] = Ok []
map_globals_from k entries s g (x ∷ rest) =
    onward (map_global k entries s g x) (λ v. onward (map_globals_from k entries s (g + 1) rest) (λ vs. Ok (v ∷ vs)))

-- the values of all new globals, or the reason of the first that traps
abbrev pub map_globals : Link → List LEntry → State → Result (List (List ℤ)) Reason
map_globals k entries s = map_globals_from k entries s 0 k.new.globals
