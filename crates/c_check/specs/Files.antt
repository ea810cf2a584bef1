-- The words of the inner contracts on declarations of a file. Each is one of the definitions of typing, which a proof takes whole.
use Rattle.std.specs.Prelude.{ℕ, ◌+◌, Bool, false, ◌&&◌, nat_lt, nat_le, List, [], ◌∷◌, ◌++◌, map, filter, find, drop, is_some, codes, Option}
use Rattle.std.specs.List.{flat_map}
use Rattle.c_tree.specs.declared.ty.Ty.{Ty}
use Rattle.c_tree.specs.declared.ty.Ty.TheVariants as ty
use Rattle.c_tree.specs.declared.cause.CheckCause.TheVariants as c
use Rattle.c_tree.specs.declared.cause.LimitKind.TheVariants as limit
use Rattle.c_tree.specs.declared.scope.Fault.{Fault}
use Rattle.c_tree.specs.declared.scope.Named.{Named}
use Rattle.c_tree.specs.declared.program.At.{At}
use Rattle.c_tree.specs.declared.program.Const.{Const}
use Rattle.c_tree.specs.declared.program.Count.{Count}
use Rattle.c_tree.specs.declared.program.Field.{Field}
use Rattle.c_tree.specs.declared.program.Struct.{Struct}
use Rattle.c_tree.specs.declared.program.GlobalDecl.{GlobalDecl}
use Rattle.c_tree.specs.declared.program.Function.{Function}
use Rattle.c_tree.specs.declared.program.Program.{Program}
use Rattle.c_tree.specs.declared.program.Stmt.{Stmt}
use Rattle.c_tree.specs.Fault.{fault, unless}
use Rattle.c_tree.specs.Scope.{file_scope, has_name, names_of, is_defined}
use Rattle.c_tree.specs.Typing.{parameter_faults, body_faults, function_faults, second_names, struct_faults, type_faults, name_repeats, words, length_faults, init_faults, global_faults, may_follow}
use Rattle.c_tree.specs.Limits.{max_length, max_words}
use Rattle.c_check.specs.Inner.{Inner, declares}
use Rattle.c_check.specs.Statements.{stand}

-- the names and the slots after parameters
unfoldable pub all_declared : Inner → List Field → Inner
all_declared l [] = l
all_declared l (q ∷ qs) = all_declared (declares l q.name.at q.name.it q.ty) qs

-- the faults of a function's parameters
unfoldable pub parametered : Program → Inner → List Field → List Fault
parametered p l qs = parameter_faults (stand p l ty.Int false) qs

-- the faults of a function's body, beside its parameters
unfoldable pub bodied : Program → Inner → Ty → Option (List Stmt) → List Fault
bodied p l ret body = body_faults (stand p l ret false) body

-- the faults of a function
unfoldable pub of_function : Program → Function → List Fault
of_function p f = function_faults (file_scope p) f

-- the faults of some functions of a file
unfoldable pub of_functions : Program → List Function → List Fault
of_functions p fs = flat_map (function_faults (file_scope p)) fs

-- the faults of the functions with a body that stand past a number of such functions
unfoldable pub past : ℕ → List Function → List Fault
past n fs = flat_map (λ f. fault f.name.at (c.Limit limit.Functions)) (drop n (filter (λ f. is_some f.body) fs))

-- the faults of names that stand a second time among those of one kind
unfoldable pub seconds : List (List ℕ) → List (At (List ℕ)) → List Fault
seconds seen names = second_names seen names

-- the faults of the types of a struct's fields
unfoldable pub of_fields : Program → List Field → List Fault
of_fields p fs = flat_map (λ f. type_faults (file_scope p) f.name.at f.ty) fs

-- the faults of a struct
unfoldable pub of_struct : Program → Struct → List Fault
of_struct p d = struct_faults (file_scope p) d

-- the faults of some structs of a file
unfoldable pub of_structs : Program → List Struct → List Fault
of_structs p ds = flat_map (struct_faults (file_scope p)) ds

-- the faults of names that are declared again, where others were seen before
unfoldable pub repeats : Program → List Named → List Named → List Fault
repeats p seen names = name_repeats p seen names

-- whether a name may be declared where these were seen before
unfoldable pub may_stand : Program → List Named → Named → Bool
may_stand p seen x = may_follow p seen (find (has_name x.name) seen) x

-- how many words a global takes
unfoldable pub size_of : Program → Option (At Count) → ℕ
size_of p count = words (file_scope p) count

-- the faults of a global's count, where it has one
unfoldable pub lengthed : Program → Option (At Count) → List Fault
lengthed p count = length_faults (file_scope p) count

-- the faults of a global's initialiser, where it has one
unfoldable pub initialised : Program → Ty → Option (At Const) → List Fault
initialised p t init = init_faults (file_scope p) t init

-- the faults of a global that so many words stand before
unfoldable pub of_global : Program → ℕ → GlobalDecl → List Fault
of_global p before g =
    type_faults (file_scope p) g.name.at g.ty ++ length_faults (file_scope p) g.count
    ++ unless (nat_lt 0 (words (file_scope p) g.count) && nat_le (words (file_scope p) g.count) max_length) (fault g.name.at (c.Limit limit.ArrayLength))
    ++ init_faults (file_scope p) g.ty g.init
    ++ unless (nat_le (before + words (file_scope p) g.count) max_words) (fault g.name.at (c.Limit limit.GlobalWords))

-- the faults of some globals that so many words stand before
unfoldable pub of_globals : Program → ℕ → List GlobalDecl → List Fault
of_globals p before gs = global_faults (file_scope p) before gs

-- the faults of all that a file declares but its functions
unfoldable pub of_declarations : Program → List Fault
of_declarations p = seconds [] (map (λ d. d.name) p.structs) ++ of_structs p p.structs ++ repeats p [] (names_of p) ++ of_globals p 0 p.globals

-- the fault of a file in which no `main` has a body
unfoldable pub of_main : Program → List Fault
of_main p = unless (is_defined p (codes "main")) (fault p.len c.NoMain)

-- the faults of a file's functions: too many of them, their own, and that `main` is missing
unfoldable pub of_routines : Program → List Fault
of_routines p = past 2000 p.functions ++ of_functions p p.functions ++ of_main p
