-- What becomes of an instruction that changes nothing but operands and the position.
use Rattle.std.proofs.Common.{◌≡◌, ℕ, ℤ, List, refl, ap}
use Rattle.store_mem.specs.Memory.{Memory}
use Rattle.target_code.specs.declared.activation.Activation.{Activation}
use Rattle.target_code.specs.declared.instr.Instr.{Instr}
use Rattle.target_code.specs.declared.instr.Instr.TheVariants as i
use Rattle.target_code.specs.Machine.{Setting}
use Rattle.thread_turns.specs.declared.cursor.Cursor.{Cursor}
use Rattle.thread_turns.specs.declared.cursor.Did.{Did}
use Rattle.thread_turns.specs.declared.cursor.Did.TheVariants as did
use Rattle.thread_turns.specs.declared.cursor.Stop.TheVariants as stop
use Rattle.thread_turns.specs.Now.{IsPlain, Keeps, Performs, now}
use Rattle.thread_turns.specs.Turns.{IsBehind, IsDone, IsSameButWhere}

-- a thread whose returned value stays, with the same frames and memory
same_where : (a b : Cursor) (words others : List ℤ) (frames : List Activation) (memory : Memory) → b.returned ≡ a.returned → IsSameButWhere (now a words frames memory) (now b others frames memory)
same_where a b words others frames memory e = ap (λ (r : ℤ). record (now b others frames memory) { returned = r }) e

-- of the plain instructions only these two stand behind an effect
not_behind : (x : Instr) → IsPlain x → ((to : ℕ) → x ≡ i.Jump to → ⊥) → (x ≡ i.Restore → ⊥) → IsBehind x → ⊥
not_behind (i.Jump to) p j r b = j to refl
not_behind i.Restore p j r b = r refl
not_behind (i.After n to) p j r b = p
not_behind (i.Set k) p j r b = p
not_behind (i.Gset g) p j r b = p
not_behind _ p j r b = b

-- what is evaluated is done
pub evaluated_done : (w : Setting) (x : Instr) (d : Did) (a b : Cursor) (words others : List ℤ) (frames : List Activation) (memory : Memory) → IsPlain x → ((to : ℕ) → x ≡ i.Jump to → ⊥) → (x ≡ i.Restore → ⊥) → Performs w x d (now a words frames memory) (now b others frames memory) → Keeps d a b → IsDone w x d (now a words frames memory) (now b others frames memory)
evaluated_done w x did.Goes a b words others frames memory p j r h k = (h, refl)
evaluated_done w x did.Moves a b words others frames memory p j r h k = h
evaluated_done w x (did.Ends (stop.Trapped cause)) a b words others frames memory p j r h k = (h, not_behind x p j r, same_where a b words others frames memory k.1, k.0)
evaluated_done w x (did.Ends stop.Blocked) a b words others frames memory p j r h k = (h, not_behind x p j r, same_where a b words others frames memory k.1, k.0)
evaluated_done w x (did.Ends stop.Full) a b words others frames memory p j r h k = (tt, not_behind x p j r, same_where a b words others frames memory k.1, k.0)
evaluated_done w x (did.Ends stop.Memory) a b words others frames memory p j r h k = (tt, not_behind x p j r, same_where a b words others frames memory k.1, k.0)
evaluated_done w x (did.Ends _) a b words others frames memory p j r h k = absurd h
