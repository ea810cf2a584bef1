-- What becomes of an instruction that isn't plain.
use Rattle.std.proofs.Common.{◌≡◌, ℤ, List, Some, refl, sym, ap, ◌∙◌, subst}
use Rattle.store_mem.specs.Memory.{Memory}
use Rattle.target_code.specs.declared.activation.Activation.{Activation}
use Rattle.target_code.specs.declared.activation.Mode.TheVariants.{Running}
use Rattle.target_code.specs.declared.instr.Instr.{Instr}
use Rattle.target_code.specs.declared.instr.Instr.TheVariants as i
use Rattle.target_code.specs.Machine.{Setting, Machine, Goes, act}
use Rattle.target_laws.specs.Effects.{HasEffect}
use Rattle.thread_turns.specs.declared.cursor.Cursor.{Cursor}
use Rattle.thread_turns.specs.declared.cursor.Did.{Did}
use Rattle.thread_turns.specs.declared.cursor.Did.TheVariants as did
use Rattle.thread_turns.specs.declared.cursor.Stop.{Stop}
use Rattle.thread_turns.specs.declared.cursor.Stop.TheVariants as stop
use Rattle.thread_turns.specs.Now.{IsWait, Performs, Stays, now}
use Rattle.thread_turns.specs.Turns.{EndsSame, IsBehind, IsDone, IsEnd, IsSameButWhere}
use Rattle.thread_turns.proofs.WayLemmas.{effect_affects}

-- a thread whose returned value, frames and memory stay
stay_same : (a b : Cursor) (ws vs : List ℤ) (frames frames' : List Activation) (memory memory' : Memory) → b.returned ≡ a.returned → frames' ≡ frames → memory' ≡ memory → IsSameButWhere (now a ws frames memory) (now b vs frames' memory')
stay_same a b ws vs frames frames' memory memory' r f e =
    ap (λ k. now b vs k memory') f
    ∙ (ap (λ k. now b vs frames k) e
    ∙ ap (λ (k : ℤ). record (now b vs frames memory) { returned = k }) r)

ended_stays : (s : Stop) (a b : Cursor) (ws vs : List ℤ) (frames frames' : List Activation) (memory memory' : Memory) → Stays (did.Ends s) a frames memory b frames' memory' → EndsSame (did.Ends s) (now a ws frames memory) (now b vs frames' memory')
ended_stays s a b ws vs frames frames' memory memory' h = (stay_same a b ws vs frames frames' memory memory' h.0 h.2 h.3, h.1)

-- what an instruction performs that stands behind no effect
performed_ends : (w : Setting) (x : Instr) (s : Stop) (m to : Machine) → Performs w x (did.Ends s) m to → IsEnd w x s m
performed_ends w x (stop.Trapped cause) m to h = h
performed_ends w x stop.Blocked m to h = h
performed_ends w x stop.Full m to h = tt
performed_ends w x stop.Memory m to h = tt
performed_ends w x _ m to h = absurd h

pub performed_done : (w : Setting) (x : Instr) (d : Did) (m to : Machine) → HasEffect x → (IsBehind x → ⊥) → m.mode ≡ Running → Performs w x d m to → EndsSame d m to → IsDone w x d m to
performed_done w x did.Goes m to ef nb r h s = (h, (effect_affects w x m to ef r h).function)
performed_done w x did.Moves m to ef nb r h s = h
performed_done w x (did.Ends e) m to ef nb r h s = (performed_ends w x e m to h, nb, s.0, s.1)

ends_same : (d : Did) (a b : Cursor) (ws vs : List ℤ) (frames frames' : List Activation) (memory memory' : Memory) → Stays d a frames memory b frames' memory' → EndsSame d (now a ws frames memory) (now b vs frames' memory')
ends_same did.Goes a b ws vs frames frames' memory memory' h = tt
ends_same did.Moves a b ws vs frames frames' memory memory' h = tt
ends_same (did.Ends s) a b ws vs frames frames' memory memory' h = ended_stays s a b ws vs frames frames' memory memory' h

-- an instruction with an effect is done, but for those that may stand behind one
pub stays_done : (w : Setting) (x y : Instr) (d : Did) (a b : Cursor) (ws vs : List ℤ) (frames frames' : List Activation) (memory memory' : Memory) → y ≡ x → HasEffect x → (IsBehind x → ⊥) → Performs w x d (now a ws frames memory) (now b vs frames' memory') → Stays d a frames memory b frames' memory' → IsDone w y d (now a ws frames memory) (now b vs frames' memory')
stays_done w x y d a b ws vs frames frames' memory memory' is ef nb h s =
    subst (λ k. IsDone w k d (now a ws frames memory) (now b vs frames' memory')) (sym is) (performed_done w x d (now a ws frames memory) (now b vs frames' memory') ef nb refl h (ends_same d a b ws vs frames frames' memory memory' s))

-- so are these, which never end a turn
pub goes_done : (w : Setting) (x y : Instr) (d : Did) (m to : Machine) → y ≡ x → HasEffect x → m.mode ≡ Running → d ≡ did.Goes → Performs w x d m to → IsDone w y d m to
goes_done w x y d m to is ef r e h =
    let goes : act w (Some x) m ≡ Goes to = subst (λ k. Performs w x k m to) e h in
    subst (λ k. IsDone w k d m to) (sym is) (subst (λ k. IsDone w x k m to) (sym e) (goes, (effect_affects w x m to ef r goes).function))

-- a call is done
pub call_done : (w : Setting) (x y : Instr) (d : Did) (m to : Machine) → y ≡ x → (IsBehind x → ⊥) → (d ≡ did.Goes → ⊥) → Performs w x d m to → EndsSame d m to → IsDone w y d m to
call_done w x y did.Goes m to is nb ng h s = absurd (ng refl)
call_done w x y did.Moves m to is nb ng h s = subst (λ k. IsDone w k did.Moves m to) (sym is) h
call_done w x y (did.Ends e) m to is nb ng h s = subst (λ k. IsDone w k (did.Ends e) m to) (sym is) (performed_ends w x e m to h, nb, s.0, s.1)

-- a return is done
pub moves_done : (w : Setting) (x : Instr) (d : Did) (m to : Machine) → d ≡ did.Moves → Performs w x d m to → IsDone w x d m to
moves_done w x d m to e h = subst (λ k. IsDone w x k m to) (sym e) (subst (λ k. Performs w x k m to) e h)

-- an instruction by which threads wait may stand behind no effect
pub wait_not_behind : (x : Instr) → IsWait x → IsBehind x → ⊥
wait_not_behind (i.Lock k) h b = b
wait_not_behind (i.Unlock k) h b = b
wait_not_behind i.Join h b = b
wait_not_behind _ h b = h
