-- What a program declares outside its functions, and the head of a function.
use Rattle.std.specs.Prelude.{ℕ, zero, suc, ℤ, pos, negsuc, List, [], ◌∷◌, ◌++◌, take, drop, codes, Option, Some, None}
use Rattle.std.specs.List.{flat_map}
use Rattle.std.specs.Fmt.{decimal, signed_decimal}
use Rattle.c_tree.specs.declared.ty.Ty.{Ty}
use Rattle.c_tree.specs.declared.ty.Ty.TheVariants as ty
use Rattle.c_tree.specs.declared.lifted.LStruct.{LStruct}
use Rattle.c_tree.specs.declared.lifted.LGlobal.{LGlobal}
use Rattle.c_tree.specs.declared.lifted.LFunction.{LFunction}
use Rattle.c_tree.specs.declared.lifted.Slot.{Slot}
use Rattle.frame_transform.specs.Line.{line, listed}

-- a type as it stands directly before a name
abbrev pub typed : Ty → List ℕ
typed ty.Int = codes "int "
typed ty.Thread = codes "pthread_t "
typed ty.Void = codes "void "
typed ty.AnyPtr = codes "void *"
typed (ty.Ptr owner) = codes "struct " ++ (owner ++ codes " *")

-- the declaration of a slot or a field, without its semicolon
abbrev pub declared : Slot → List ℕ
declared slot = typed slot.ty ++ slot.name

-- a struct with its fields
abbrev pub struct_text : LStruct → List ℕ
struct_text x = codes "struct " ++ (x.name ++ (codes " { " ++ (flat_map (λ field. declared field ++ codes "; ") x.fields ++ codes "};")))

-- what a global begins as, where that is not 0
abbrev pub start_text : ℤ → List ℕ
start_text (pos zero) = []
start_text (pos (suc n)) = codes " = " ++ signed_decimal (pos (suc n))
start_text (negsuc n) = codes " = " ++ signed_decimal (negsuc n)

-- the length of an array, or what another global begins as
abbrev pub size_text : Option ℕ → ℤ → List ℕ
size_text (Some count) init = codes "[" ++ (decimal count ++ codes "]")
size_text None init = start_text init

-- a global variable
abbrev pub global_text : LGlobal → List ℕ
global_text x = typed x.ty ++ (x.name ++ (size_text x.count x.init ++ codes ";"))

-- a mutex
abbrev pub mutex_text : List ℕ → List ℕ
mutex_text name = codes "pthread_mutex_t " ++ (name ++ codes ";")

-- the parameters in the head of a function
abbrev pub parameters_text : List Slot → List ℕ
parameters_text [] = codes "void"
parameters_text (slot ∷ rest) = listed declared (slot ∷ rest)

-- the head of a function
abbrev pub head_text : LFunction → List ℕ
head_text f = typed f.ret ++ (f.name ++ (codes "(" ++ (parameters_text (take f.params f.slots) ++ codes ") {")))

-- the lines that declare the other slots of a function
abbrev pub locals_text : LFunction → List ℕ
locals_text f = flat_map (λ slot. line 1 (declared slot ++ codes ";")) (drop f.params f.slots)
