-- What each lifting of a well-typed program keeps, and all that is done with one rests on.
use Rattle.std.specs.Prelude.{◌≡◌, ℕ, ◌+◌, ◌<◌, ◌≤◌, pos, Bool, true, false, ◌&&◌, is_some, IsTrue, if◌then◌else◌, ⊤, List, [], map, length, slice_get, sum, All, Option, Some, None, codes}
use Rattle.std.specs.List.{AllZip, IsDistinct}
use Rattle.c_tree.specs.declared.ty.Ty.{Ty}
use Rattle.c_tree.specs.declared.ty.Ty.TheVariants as ty
use Rattle.c_tree.specs.declared.op.UnOp.{UnOp}
use Rattle.c_tree.specs.declared.op.UnOp.TheVariants as un
use Rattle.c_tree.specs.declared.op.BinOp.{BinOp}
use Rattle.c_tree.specs.declared.op.BinOp.TheVariants as bin
use Rattle.c_tree.specs.declared.lifted.Slot.{Slot}
use Rattle.c_tree.specs.declared.lifted.LStruct.{LStruct}
use Rattle.c_tree.specs.declared.lifted.LGlobal.{LGlobal}
use Rattle.c_tree.specs.declared.lifted.LFunction.{LFunction}
use Rattle.c_tree.specs.declared.lifted.Lifted.{Lifted}
use Rattle.c_tree.specs.declared.lifted.Dest.{Dest}
use Rattle.c_tree.specs.declared.lifted.Dest.TheVariants as d
use Rattle.c_tree.specs.declared.lifted.LExpr.{LExpr, more_of-LExpr as only}
use Rattle.c_tree.specs.declared.lifted.LExpr.TheVariants as e
use Rattle.c_tree.specs.declared.lifted.LStmt.{LStmt, Row_of-LStmt, end_of-LStmt, more_of-LStmt}
use Rattle.c_tree.specs.declared.lifted.LStmt.TheBlock.{hidden-the_row-LStmt-0 as row_of}
use Rattle.c_tree.specs.declared.lifted.LStmt.TheVariants as s
use Rattle.c_tree.specs.Scope.{is_same_name}
use Rattle.c_tree.specs.Types.{is_pointer}
use Rattle.c_tree.specs.StartForm.{parameters_of, CanStart}
use Rattle.c_tree.specs.Typing.{directives}
use Rattle.c_tree.specs.Layout.{size_of}
use Rattle.c_tree.specs.Limits.{max_functions, max_places, max_slots, max_length, max_words}

-- the sorts of values; all pointers are of one sort
pub data Sort : Type 0 where
  int : Sort
  thread : Sort
  pointer : Sort

-- the sort of a type's values; `void` has none
abbrev pub sort_of_type : Ty → Option Sort
sort_of_type ty.Int = Some int
sort_of_type ty.Thread = Some thread
sort_of_type ty.Void = None
sort_of_type ty.AnyPtr = Some pointer
sort_of_type (ty.Ptr name) = Some pointer

-- the sort of a slot's or a field's values
abbrev pub sort_of_slot : Option Slot → Option Sort
sort_of_slot None = None
sort_of_slot (Some x) = sort_of_type x.ty

-- the sort of a global that is no array; none of an array
abbrev pub sort_of_scalar : Option LGlobal → Option Sort
sort_of_scalar None = None
sort_of_scalar (Some g) = if is_some g.count then None else sort_of_type g.ty

-- the sort of an array's elements; none of a global that is no array
abbrev pub sort_of_element : Option LGlobal → Option Sort
sort_of_element None = None
sort_of_element (Some g) = if is_some g.count then sort_of_type g.ty else None

-- the fields of a struct; none where no struct is there
abbrev pub fields_in : Option LStruct → List Slot
fields_in None = []
fields_in (Some x) = x.fields

-- whether a value is an `int`
abbrev pub is_int_sort : Option Sort → Bool
is_int_sort (Some int) = true
is_int_sort _ = false

-- whether a value is a pointer
abbrev pub is_pointer_sort : Option Sort → Bool
is_pointer_sort (Some pointer) = true
is_pointer_sort _ = false

-- whether a value can be tested for 0: an `int` or a pointer
abbrev pub is_testable_sort : Option Sort → Bool
is_testable_sort (Some int) = true
is_testable_sort (Some pointer) = true
is_testable_sort _ = false

-- whether `==` and `!=` take two values: two `int`s or two pointers
abbrev pub are_alike_sorts : Option Sort → Option Sort → Bool
are_alike_sorts (Some int) b = is_int_sort b
are_alike_sorts (Some pointer) b = is_pointer_sort b
are_alike_sorts _ b = false

-- whether a prefix operator takes an operand of this sort
abbrev pub takes_one : UnOp → Option Sort → Bool
takes_one un.Not a = is_testable_sort a
takes_one _ a = is_int_sort a

-- whether a binary operator takes two sides of these sorts
abbrev pub takes_two : BinOp → Option Sort → Option Sort → Bool
takes_two bin.Eq a b = are_alike_sorts a b
takes_two bin.Ne a b = are_alike_sorts a b
takes_two bin.And a b = is_testable_sort a && is_testable_sort b
takes_two bin.Or a b = is_testable_sort a && is_testable_sort b
takes_two _ a b = is_int_sort a && is_int_sort b

-- a sort, where a condition holds
abbrev pub sort_if : Bool → Option Sort → Option Sort
sort_if true a = a
sort_if false a = None

-- the sort of an expression beside these slots;
-- none where an index lies outside, or an operand has another sort than is asked
unfoldable pub sort_of : Lifted → List Slot → LExpr → Option Sort
sort_of p slots (e.Num n) = Some int
sort_of p slots e.Null = Some pointer
sort_of p slots (e.Slot i) = sort_of_slot (slice_get slots i)
sort_of p slots (e.Global g) = sort_of_scalar (slice_get p.globals g)
sort_of p slots (e.Elem' g _ (only i _)) = sort_if (is_int_sort (sort_of p slots i)) (sort_of_element (slice_get p.globals g))
sort_of p slots (e.Field' _ (only o _) owner field) =
    sort_if (is_pointer_sort (sort_of p slots o)) (sort_of_slot (slice_get (fields_in (slice_get p.structs owner)) field))
sort_of p slots (e.Own i) = None
sort_of p slots (e.Un' op _ (only a _)) = sort_if (takes_one op (sort_of p slots a)) (Some int)
sort_of p slots (e.Bin' op _ (only a _) _ (only b _)) = sort_if (takes_two op (sort_of p slots a) (sort_of p slots b)) (Some int)

-- the sort that a destination asks
abbrev pub sort_at : Lifted → List Slot → Dest → Option Sort
sort_at p slots (d.Slot i) = sort_of_slot (slice_get slots i)
sort_at p slots (d.Global g) = sort_of_scalar (slice_get p.globals g)
sort_at p slots (d.Elem g i) = sort_if (is_int_sort (sort_of p slots i)) (sort_of_element (slice_get p.globals g))
sort_at p slots (d.Field o owner field) = sort_if (is_pointer_sort (sort_of p slots o)) (sort_of_slot (slice_get (fields_in (slice_get p.structs owner)) field))

-- a value has the sort that is asked, and one is asked
abbrev pub HasSort : Option Sort → Option Sort → Type 0
HasSort None b = ⊥
HasSort (Some a) b = b ≡ Some a

-- the arguments of a call have the sorts of its parameters, one by one
abbrev pub AreArguments : Lifted → List Slot → List Slot → List LExpr → Type 0
AreArguments p slots params args = AllZip (λ q x. HasSort (sort_of_type q.ty) (sort_of p slots x)) params args

-- the result of a call has a place
abbrev pub TakesResult : List Slot → Ty → Option ℕ → Type 0
TakesResult slots ret None = ⊤
TakesResult slots ret (Some k) = HasSort (sort_of_slot (slice_get slots k)) (sort_of_type ret)

-- the function of a call is there, takes the arguments, and its result fits the slot that takes it
abbrev pub IsCall : Lifted → List Slot → Option ℕ → Option LFunction → List LExpr → Type 0
IsCall p slots to None args = ⊥
IsCall p slots to (Some g) args = AreArguments p slots (parameters_of g) args × TakesResult slots g.ret to

-- a function has the form `void *f(void *)`, which a thread can start
abbrev pub HasStartForm : Option LFunction → Type 0
HasStartForm None = ⊥
HasStartForm (Some g) = CanStart g

-- a return has a value where the function gives one
abbrev pub IsReturn : Lifted → List Slot → Ty → Option LExpr → Type 0
IsReturn p slots ret None = ret ≡ ty.Void
IsReturn p slots ret (Some x) = HasSort (sort_of_type ret) (sort_of p slots x)

-- a statement beside these slots, in a function of that result type
unfoldable mutual
  pub HasSortsIn : Lifted → List Slot → Ty → LStmt → Type 0
  HasSortsIn p slots ret (s.Assign to x) = HasSort (sort_at p slots to) (sort_of p slots x)
  HasSortsIn p slots ret (s.New k owner) = (sort_of_slot (slice_get slots k) ≡ Some pointer) × (owner < length p.structs)
  HasSortsIn p slots ret (s.Getc k) = sort_of_slot (slice_get slots k) ≡ Some int
  HasSortsIn p slots ret (s.Print text args) = All (λ x. sort_of p slots x ≡ Some int) args
  HasSortsIn p slots ret (s.Free x) = sort_of p slots x ≡ Some pointer
  HasSortsIn p slots ret (s.Call to f args) = IsCall p slots to (slice_get p.functions f) args
  HasSortsIn p slots ret (s.Spawn to f x) = (sort_at p slots to ≡ Some thread) × HasStartForm (slice_get p.functions f) × (sort_of p slots x ≡ Some pointer)
  HasSortsIn p slots ret (s.Join x) = sort_of p slots x ≡ Some thread
  HasSortsIn p slots ret (s.Lock m) = m < length p.mutexes
  HasSortsIn p slots ret (s.Unlock m) = m < length p.mutexes
  HasSortsIn p slots ret (s.Return x) = IsReturn p slots ret x
  HasSortsIn p slots ret (s.If' x _ a _ b) = IsTrue (is_testable_sort (sort_of p slots x)) × HaveSortsIn p slots ret a × HaveSortsIn p slots ret b
  HasSortsIn p slots ret (s.Loop' _ calls x _ body _ step) =
      HaveSortsIn p slots ret calls × IsTrue (is_testable_sort (sort_of p slots x)) × HaveSortsIn p slots ret body × HaveSortsIn p slots ret step
  HasSortsIn p slots ret s.Break = ⊤
  HasSortsIn p slots ret s.Continue = ⊤

  pub HaveSortsIn : Lifted → List Slot → Ty → {m : _} → Row_of-LStmt m → Type 0
  HaveSortsIn p slots ret end_of-LStmt = ⊤
  HaveSortsIn p slots ret (more_of-LStmt x rest) = HasSortsIn p slots ret x × HaveSortsIn p slots ret rest

-- `Break` and `Continue` stand in the body of their innermost loop; the flag tells whether a loop's body is around
unfoldable mutual
  pub StaysInLoop : Bool → LStmt → Type 0
  StaysInLoop inside (s.If' x _ a _ b) = StayInLoop inside a × StayInLoop inside b
  StaysInLoop inside (s.Loop' _ calls x _ body _ step) = StayInLoop false calls × StayInLoop true body × StayInLoop false step
  StaysInLoop inside s.Break = IsTrue inside
  StaysInLoop inside s.Continue = IsTrue inside
  StaysInLoop inside _ = ⊤

  pub StayInLoop : Bool → {m : _} → Row_of-LStmt m → Type 0
  StayInLoop inside end_of-LStmt = ⊤
  StayInLoop inside (more_of-LStmt x rest) = StaysInLoop inside x × StayInLoop inside rest

-- a `printf` has one argument per `%d`, and no directive but `%d` and `%%`
unfoldable mutual
  pub PrintFits : LStmt → Type 0
  PrintFits (s.Print text args) = directives text ≡ Some (length args)
  PrintFits (s.If' x _ a _ b) = PrintsFit a × PrintsFit b
  PrintFits (s.Loop' _ calls x _ body _ step) = PrintsFit calls × PrintsFit body × PrintsFit step
  PrintFits _ = ⊤

  pub PrintsFit : {m : _} → Row_of-LStmt m → Type 0
  PrintsFit end_of-LStmt = ⊤
  PrintsFit (more_of-LStmt x rest) = PrintFits x × PrintsFit rest

-- how many words a global takes
abbrev pub words_of : LGlobal → ℕ
words_of g = words g.count where
  words : Option ℕ → ℕ
  words None = 1
  words (Some n) = n

-- the counts keep the limits: 2,000 functions, 10,000 places and 128 slots a function, arrays of 1 to 65,536 words, and a million words of globals
pub record IsWithinLimits (p : Lifted) : Type 0 where
  pub functions : length p.functions ≤ max_functions
  pub places : All (λ f. size_of f.body + 2 ≤ max_places) p.functions
  pub slots : All (λ f. length f.slots ≤ max_slots) p.functions
  pub arrays : All (λ g. (0 < words_of g) × (words_of g ≤ max_length)) p.globals
  pub words : sum (map words_of p.globals) ≤ max_words

-- no two names are the same
abbrev pub AreDifferent : List (List ℕ) → Type 0
AreDifferent names = IsDistinct is_same_name names

-- the names of one kind are different, and so are those of one struct's fields
pub record HasDifferentNames (p : Lifted) : Type 0 where
  pub structs : AreDifferent (map (λ x. x.name) p.structs)
  pub fields : All (λ x. AreDifferent (map (λ f. f.name) x.fields)) p.structs
  pub globals : AreDifferent (map (λ x. x.name) p.globals)
  pub mutexes : AreDifferent p.mutexes
  pub functions : AreDifferent (map (λ x. x.name) p.functions)

-- the names of one function's slots are different
abbrev pub HasDifferentSlots : Lifted → Type 0
HasDifferentSlots p = All (λ f. AreDifferent (map (λ x. x.name) f.slots)) p.functions

-- a function's parameters are its first slots
abbrev pub ParametersComeFirst : Lifted → Type 0
ParametersComeFirst p = All (λ f. f.params ≤ length f.slots) p.functions

-- `main` lies inside; it is an `int` without parameters, and has that name
abbrev pub IsMain : Option LFunction → Type 0
IsMain None = ⊥
IsMain (Some f) = (f.ret ≡ ty.Int) × (f.params ≡ 0) × (is_same_name f.name (codes "main") ≡ true)

-- the program's `main` is there and has the form of one
abbrev pub HasMain : Lifted → Type 0
HasMain p = IsMain (slice_get p.functions p.main)

-- a pointer's initialiser is 0
abbrev pub PointersStartNull : Lifted → Type 0
PointersStartNull p = All (λ g. is_pointer g.ty ≡ true → g.init ≡ pos 0) p.globals

-- an array starts as zeros
abbrev pub ArraysStartAtZero : Lifted → Type 0
ArraysStartAtZero p = All (λ g. is_some g.count ≡ true → g.init ≡ pos 0) p.globals

-- in each function, `break` and `continue` stand inside loops
abbrev pub LoopsAreKept : Lifted → Type 0
LoopsAreKept p = All (λ f. StayInLoop false (row_of f.body)) p.functions

-- each `printf` of a program has the arguments that its text asks
abbrev pub HasFittingPrints : Lifted → Type 0
HasFittingPrints p = All (λ f. PrintsFit (row_of f.body)) p.functions

-- each expression and destination has the sort that its place asks, so all numbers that they name lie inside; a call has one argument per parameter, a started function the start form, and no field of an old object occurs
abbrev pub HasSorts : Lifted → Type 0
HasSorts p = All (λ f. HaveSortsIn p f.slots f.ret (row_of f.body)) p.functions

-- the form of each lifting of a well-typed program, on which its runs and updates rest
pub record IsFormed (p : Lifted) : Type 0 where
  pub limits : IsWithinLimits p
  pub names : HasDifferentNames p
  pub slots : HasDifferentSlots p
  pub parameters : ParametersComeFirst p
  pub main : HasMain p
  pub starts : PointersStartNull p
  pub arrays : ArraysStartAtZero p
  pub loops : LoopsAreKept p
  pub prints : HasFittingPrints p
  pub sorts : HasSorts p
