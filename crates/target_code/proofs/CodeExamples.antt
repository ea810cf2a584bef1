-- The codes of small programs, which have all instructions between them.
use Rattle.std.specs.Prelude.{◌≡◌, pos, List, [], ◌∷◌, map, refl, Some, codes}
use Rattle.c_tree.specs.declared.lifted.LExpr.TheVariants as e
use Rattle.c_tree.specs.declared.lifted.Lifted.{Lifted}
use Rattle.c_tree.specs.declared.op.BinOp.TheVariants as bin
use Rattle.c_tree.specs.declared.op.UnOp.TheVariants as un
use Rattle.target_code.specs.declared.code.CallSpot.{CallSpot}
use Rattle.target_code.specs.declared.instr.Instr.{Instr}
use Rattle.target_code.specs.declared.instr.Instr.TheVariants as i
use Rattle.target_code.specs.Code.{code_of}
use Rattle.target_code.specs.Compute.{target_literals}
use Rattle.target_code.specs.Operands.{expr_code}
use Rattle.target_code.proofs.Programs.{hello, reads, asks_old, items_old, crossed, array}

-- the instructions of each function
abbrev pub bodies : Lifted → List (List Instr)
bodies p = map (λ f. f.body) (code_of p).functions

pub hello_code : bodies hello ≡
    (i.Restore
    ∷ i.Mark 0 ∷ i.Flag 0
    ∷ i.Mark 1 ∷ i.Print 0
    ∷ i.Mark 2 ∷ i.Const (pos 3) ∷ i.Ret
    ∷ i.Mark 3 ∷ i.Const (pos 0) ∷ i.Ret
    ∷ []) ∷ []
unfolding target_literals
hello_code = refl

pub reads_code : bodies reads ≡
    (i.Restore
    ∷ i.Mark 0 ∷ i.Flag 0
    ∷ i.Mark 1 ∷ i.Getc ∷ i.Set 0
    ∷ i.Mark 2 ∷ i.Get 0 ∷ i.Print 0
    ∷ i.Mark 3 ∷ i.Const (pos 0) ∷ i.Ret
    ∷ i.Mark 4 ∷ i.Const (pos 0) ∷ i.Ret
    ∷ []) ∷ []
unfolding target_literals
reads_code = refl

-- A function with a loop, and a caller with a rebuilding part.

pub asks_code : bodies asks_old ≡
    (i.Restore
    ∷ i.Mark 0 ∷ i.Flag 0
    ∷ i.Mark 1 ∷ i.Const (pos 0) ∷ i.Gset 0
    ∷ i.Mark 2 ∷ i.Gget 1 ∷ i.Const (pos 2) ∷ i.Bin bin.Lt ∷ i.Jz 19
    ∷ i.Mark 3 ∷ i.Gget 1 ∷ i.Const (pos 1) ∷ i.Bin bin.Add ∷ i.Gset 1
    ∷ i.Mark 4 ∷ i.Flag 4 ∷ i.Jump 6
    ∷ i.Mark 5 ∷ i.Get 0 ∷ i.Ret
    ∷ i.Mark 6 ∷ i.Const (pos 0) ∷ i.Ret
    ∷ [])
    ∷ (i.Restore
    ∷ i.Mark 0 ∷ i.Flag 0
    ∷ i.Mark 1 ∷ i.Const (pos 10) ∷ i.Gget 0 ∷ i.Bin bin.Div ∷ i.Call 0 ∷ i.After 1 (Some 0)
    ∷ i.Mark 2 ∷ i.Get 0 ∷ i.Print 0
    ∷ i.Mark 3 ∷ i.Const (pos 0) ∷ i.Ret
    ∷ i.Mark 4 ∷ i.Const (pos 0) ∷ i.Ret
    ∷ i.Const (pos 0) ∷ i.Call 0 ∷ i.Jump 8
    ∷ [])
    ∷ []
unfolding target_literals
asks_code = refl

pub asks_marks : map (λ f. f.marks) (code_of asks_old).functions ≡
    (1 ∷ 3 ∷ 6 ∷ 11 ∷ 16 ∷ 19 ∷ 22 ∷ []) ∷ (1 ∷ 3 ∷ 9 ∷ 12 ∷ 15 ∷ []) ∷ []
unfolding target_literals
asks_marks = refl

abbrev pub the_call : CallSpot
the_call = record { place = 1; after = 8; rebuild = 18 }

pub asks_calls : map (λ f. f.calls) (code_of asks_old).functions ≡ [] ∷ (the_call ∷ []) ∷ []
unfolding target_literals
asks_calls = refl

pub asks_texts : (code_of asks_old).texts ≡ codes "%d\n" ∷ []
unfolding target_literals
asks_texts = refl

-- Objects: made, written, read and freed.

pub items_code : bodies items_old ≡
    (i.Restore
    ∷ i.Mark 0 ∷ i.Flag 0
    ∷ i.Mark 1 ∷ i.New 0 ∷ i.Set 0
    ∷ i.Mark 2 ∷ i.Get 0 ∷ i.Const (pos 5) ∷ i.Fset 0 0
    ∷ i.Mark 3 ∷ i.Get 0 ∷ i.Gset 0
    ∷ i.Mark 4 ∷ i.New 0 ∷ i.Set 0
    ∷ i.Mark 5 ∷ i.Get 0 ∷ i.Const (pos 7) ∷ i.Fset 0 0
    ∷ i.Mark 6 ∷ i.New 0 ∷ i.Set 0
    ∷ i.Mark 7 ∷ i.Get 0 ∷ i.Const (pos 9) ∷ i.Fset 0 0
    ∷ i.Mark 8 ∷ i.Get 0 ∷ i.Free
    ∷ i.Mark 9 ∷ i.Const (pos 0) ∷ i.Set 0
    ∷ i.Mark 10 ∷ i.Gget 1 ∷ i.Const (pos 1) ∷ i.Bin bin.Lt ∷ i.Jz 46
    ∷ i.Mark 11 ∷ i.Gget 1 ∷ i.Const (pos 1) ∷ i.Bin bin.Add ∷ i.Gset 1
    ∷ i.Mark 12 ∷ i.Flag 12 ∷ i.Jump 33
    ∷ i.Mark 13 ∷ i.Gget 0 ∷ i.Fget 0 0 ∷ i.Print 0
    ∷ i.Mark 14 ∷ i.Const (pos 0) ∷ i.Ret
    ∷ i.Mark 15 ∷ i.Const (pos 0) ∷ i.Ret
    ∷ []) ∷ []
unfolding target_literals
items_code = refl

-- Threads and mutexes.

pub crossed_code : bodies crossed ≡
    (i.Restore
    ∷ i.Mark 0 ∷ i.Flag 0
    ∷ i.Mark 1 ∷ i.Flag 1 ∷ i.Lock 1
    ∷ i.Mark 2 ∷ i.Flag 2 ∷ i.Lock 0
    ∷ i.Mark 3 ∷ i.Unlock 0
    ∷ i.Mark 4 ∷ i.Unlock 1
    ∷ i.Mark 5 ∷ i.Const (pos 0) ∷ i.Ret
    ∷ i.Mark 6 ∷ i.Const (pos 0) ∷ i.Ret
    ∷ [])
    ∷ (i.Restore
    ∷ i.Mark 0 ∷ i.Flag 0
    ∷ i.Mark 1 ∷ i.Const (pos 0) ∷ i.Spawn 0 ∷ i.Set 0
    ∷ i.Mark 2 ∷ i.Flag 2 ∷ i.Lock 0
    ∷ i.Mark 3 ∷ i.Flag 3 ∷ i.Lock 1
    ∷ i.Mark 4 ∷ i.Unlock 1
    ∷ i.Mark 5 ∷ i.Unlock 0
    ∷ i.Mark 6 ∷ i.Flag 6 ∷ i.Get 0 ∷ i.Join
    ∷ i.Mark 7 ∷ i.Const (pos 0) ∷ i.Ret
    ∷ i.Mark 8 ∷ i.Const (pos 0) ∷ i.Ret
    ∷ [])
    ∷ []
unfolding target_literals
crossed_code = refl

-- `continue` goes to the step, `break` behind the loop; a branch without an `else` has no jump behind it.

pub array_code : bodies array ≡
    (i.Restore
    ∷ i.Mark 0 ∷ i.Flag 0
    ∷ i.Mark 1 ∷ i.Const (pos 0) ∷ i.Set 0
    ∷ i.Mark 2 ∷ i.Get 0 ∷ i.Const (pos 3) ∷ i.Bin bin.Lt ∷ i.Jz 43
    ∷ i.Mark 3 ∷ i.Get 0 ∷ i.Const (pos 1) ∷ i.Bin bin.Eq ∷ i.Jz 17
    ∷ i.Jump 35
    ∷ i.Mark 4 ∷ i.Get 0 ∷ i.Get 0 ∷ i.Un un.Flip ∷ i.Aset 0
    ∷ i.Mark 5
    ∷ i.Get 0 ∷ i.Aget 0 ∷ i.Jz 31
    ∷ i.Get 0 ∷ i.Un un.Not ∷ i.Un un.Not ∷ i.Un un.Not ∷ i.Jump 32
    ∷ i.Const (pos 0)
    ∷ i.Jz 34
    ∷ i.Jump 35
    ∷ i.Jump 43
    ∷ i.Mark 6 ∷ i.Get 0 ∷ i.Const (pos 1) ∷ i.Bin bin.Add ∷ i.Set 0
    ∷ i.Mark 7 ∷ i.Flag 7 ∷ i.Jump 6
    ∷ i.Mark 8 ∷ i.Get 0 ∷ i.Aget 0 ∷ i.Print 0
    ∷ i.Mark 9 ∷ i.Const (pos 0) ∷ i.Ret
    ∷ i.Mark 10 ∷ i.Const (pos 0) ∷ i.Ret
    ∷ []) ∷ []
unfolding target_literals
array_code = refl

-- `||`: where the left side is true, 1; else whether the right side is true.

pub or_code : expr_code 5 (e.Bin bin.Or (e.Slot 0) (e.Slot 1)) ≡
    i.Get 0 ∷ i.Jz 9
    ∷ i.Const (pos 1) ∷ i.Jump 12
    ∷ i.Get 1 ∷ i.Un un.Not ∷ i.Un un.Not
    ∷ []
unfolding target_literals
or_code = refl
