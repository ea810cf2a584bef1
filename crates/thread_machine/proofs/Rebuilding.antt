-- A rebuilding, with its activations and its count.
use Rattle.std.proofs.Common.{◌≡◌, ℕ, zero, suc, ◌+◌, ◌*◌, ◌-◌, ◌<◌, ◌≤◌, ℤ, pos, true, false, List, [], ◌∷◌, ◌++◌, length, reverse, take, drop, replicate, Some, refl, sym, ap, ◌∙◌, subst, arith, lt-ltb}
use Rattle.std.specs.Prelude.{slice_get, nat_lt, slice_index_or}
use Rattle.std.proofs.Math.ListN.{drop_of_length-le}
use Rattle.std.proofs.lemmas.List.{length-replicate}
use Rattle.std.proofs.lemmas.Option.{get_or_from_slice_get, slice_get_within}
use Rattle.c_tree.specs.declared.lifted.Lifted.{Lifted}
use Rattle.c_tree.specs.declared.place.Place.{Place}
use Rattle.c_tree.specs.declared.state.Frame.{Frame}
use Rattle.c_tree.specs.Limits.{max_frames}
use Rattle.c_tree.specs.Step.{function_of}
use Rattle.c_tree.specs.Formed.{IsFormed}
use Rattle.c_tree.specs.Start.{start}
use Rattle.store_mem.specs.Memory.{Memory, memory_of}
use Rattle.target_code.specs.declared.activation.Activation.{Activation}
use Rattle.target_code.specs.declared.activation.Mode.TheVariants.{Running, Rebuilding}
use Rattle.target_code.specs.declared.code.CodeFunction.{CodeFunction}
use Rattle.target_code.specs.declared.instr.Instr.{Instr}
use Rattle.target_code.specs.declared.instr.Instr.TheVariants as i
use Rattle.target_code.specs.Between.{body_at, Stands, IsRunning}
use Rattle.target_code.specs.Code.{TargetCode, IsCode, marks, part, code_of}
use Rattle.target_code.specs.Machine.{Setting, Machine, Ran, Stopped, function_in, part_at, pushed, go, rebuilds, machine_of, target_of}
use Rattle.target_code.specs.Operands.{sizes}
use Rattle.target_code.specs.Seen.{seen}
use Rattle.target_code.specs.Target.{Target}
use Rattle.target_laws.specs.SavedFrames.{AtCall, AreSoundFrom, AreSound}
use Rattle.target_laws.proofs.Blocks.{HasAt, has_back}
use Rattle.target_laws.proofs.Halts.{Halts, halts_step, halts_at}
use Rattle.target_laws.proofs.Over.{IsOver, longer}
use Rattle.target_laws.proofs.Parts.{part_stands}
use Rattle.target_laws.proofs.Places.{code_at}
use Rattle.target_laws.proofs.Rebuilds.{rebuilding_loads}
use Rattle.target_laws.proofs.SeenFrames.{mark_in}
use Rattle.thread_machine.specs.Rebuilt.{params_in, rebuilt, rebuilt_on, rebuilding_cost, AreReady}
use Rattle.thread_machine.specs.Threads.{setting, CanRebuild, HasRebuilt}
use Rattle.thread_machine.proofs.StackLemmas.{top_on_below}
use Rattle.thread_machine.proofs.StartLemmas.{few_in_code, first_in_code}
use Rattle.thread_machine.proofs.Unwinding.{few_slots}

-- a thread that runs, with these activations
abbrev pub runs_with : List Activation → ℤ → ℕ → Target
runs_with acts ret count = record { mode = Running; activations = acts; returned = ret; saved = []; count = count }

-- the run has stopped with these activations, and with this count
abbrev pub Loads : List Activation → ℤ → Memory → ℕ → Ran → Type 0
Loads acts ret memory count r = r ≡ Stopped (machine_of (runs_with acts ret count) memory)

-- at `restore`, with these saved frames
abbrev loading : ℕ → List ℤ → List Activation → List Frame → ℤ → Memory → ℕ → Machine
loading f slots below saved ret memory c = record {
  mode = Rebuilding;
  function = f;
  pc = 0;
  slots = slots;
  below = below;
  operands = [];
  returned = ret;
  saved = saved;
  memory = memory;
  count = c;
}

-- in a rebuilding part
abbrev parting : Frame → ℕ → List ℤ → List Activation → List Frame → ℤ → Memory → ℕ → Machine
parting f pc ops below saved ret memory c = record (loading f.function f.slots below saved ret memory c) { pc = pc; operands = ops }

-- an activation of a frame
abbrev act_at : Frame → ℕ → Activation
act_at f pc = record { function = f.function; pc = pc; slots = f.slots }

sound_within : (p : Lifted) (rest : List Frame) (f : Frame) → AreSoundFrom p f rest → f.function < length p.functions
sound_within p [] f h = h.1.fits.within
sound_within p (g ∷ rest) f h = h.0.fits.within

-- the callee's parameters, in the code and in the program
same_params : (p : Lifted) (g : ℕ) → g < length p.functions → params_in (code_of p) g ≡ (function_of p g).params
same_params p g within = ap (λ (k : CodeFunction). k.params) (code_at p g within).is

-- the rebuilding part of a frame's call stands in its code
pub part_of_call : (p : Lifted) (f : Frame) (g : ℕ) (q : AtCall p f g) → HasAt (body_at p f.function) (part_at (function_in (code_of p) f.function).calls f.place) (part p g (q.mark + 1 + sizes q.args + 1))
part_of_call p f g q =
    let code = code_at p f.function q.fits.within in
    let after = q.mark + 1 + sizes q.args + 1 in
    let h = part_stands p code.t (function_of p f.function) f.place q.mark q.to g q.args q.mark_is (ap (λ (a : Place). a.act) q.call) in
    subst (λ (k : CodeFunction). HasAt k.body (part_at k.calls f.place) (part p g after)) (sym code.is) h

-- each function of the code begins with `restore`
starts_with_restore : (p : Lifted) (f : ℕ) → f < length p.functions → slice_get (body_at p f) 0 ≡ Some i.Restore
starts_with_restore p f within =
    subst (λ (k : CodeFunction). slice_get k.body 0 ≡ Some i.Restore) (sym (code_at p f within).is) refl

-- the mark of the innermost frame, as the code has it
pub mark_of_place : (p : Lifted) (f : Frame) (pc : ℕ) → Stands p f pc → slice_index_or (function_in (code_of p) f.function).marks f.place 0 ≡ pc
mark_of_place p f pc stands =
    subst (λ (k : CodeFunction). slice_index_or k.marks f.place 0 ≡ pc) (sym (code_at p f.function stands.fits.within).is) (get_or_from_slice_get (marks (function_of p f.function)) f.place pc 0 stands.mark)

module _ (p : Lifted) (t : ℕ) (ret : ℤ) (memory : Memory) where
  abbrev w : Setting
  w = setting (code_of p) t false

  -- the zeros of a part
  zeros : (n : ℕ) (f : Frame) (pc k c : ℕ) (rest : List Instr) (below : List Activation) (saved : List Frame) (Q : Ran → Type 0)
      → HasAt (body_at p f.function) pc (replicate n (i.Const (pos 0)) ++ rest)
      → ((pc' c' : ℕ) (ops : List ℤ) → pc' ≡ pc + n → c' ≡ c + n → length ops ≡ k + n → HasAt (body_at p f.function) pc' rest → Halts w (parting f pc' ops below saved ret memory c') Q)
      → (ops : List ℤ) → length ops ≡ k → Halts w (parting f pc ops below saved ret memory c) Q
  zeros zero f pc k c rest below saved Q h next ops e = next pc c ops (omega arith) (omega arith) (omega (arith, e)) h
  zeros (suc n) f pc k c rest below saved Q h next ops e =
      halts_step w (parting f pc ops below saved ret memory c) (parting f (pc + 1) (pos 0 ∷ ops) below saved ret memory (c + 1)) (i.Const (pos 0)) Q h.0 refl
      (zeros n f (pc + 1) (k + 1) (c + 1) rest below saved Q h.1 (λ pc' c' ops' e1 e2 e3 h'. next pc' c' ops' (omega (arith, e1)) (omega (arith, e2)) (omega (arith, e3)) h') (pos 0 ∷ ops) (omega (arith, e)))

  -- the innermost frame, at its mark
  loads_last : (f : Frame) (slots : List ℤ) (below : List Activation) → AreSoundFrom p f [] → (c : ℕ)
      → Halts w (loading f.function slots below (f ∷ []) ret memory c) (Loads (rebuilt_on (code_of p) (f ∷ []) below) ret memory (c + 1))
  loads_last f slots below sound c =
      let pc = slice_index_or (function_in (code_of p) f.function).marks f.place 0 in
      let at = mark_of_place p f sound.0 sound.1 in
      let mark : slice_get (body_at p f.function) pc ≡ Some (i.Mark f.place) = subst (λ k. slice_get (body_at p f.function) k ≡ Some (i.Mark f.place)) (sym at) (mark_in p f sound.0 sound.1) in
      let there = machine_of (runs_with (act_at f pc ∷ below) ret (c + 1)) memory in
      let Q = Loads (act_at f pc ∷ below) ret memory (c + 1) in
      halts_step w (loading f.function slots below (f ∷ []) ret memory c) there i.Restore Q (starts_with_restore p f.function sound.1.fits.within) refl
      (halts_at w there (i.Mark f.place) (Stopped there) Q mark refl refl)

  loads : (rest : List Frame) (f : Frame) (slots : List ℤ) (below : List Activation) → AreSoundFrom p f rest → length below + 1 + length rest ≤ max_frames → (c : ℕ)
      → Halts w (loading f.function slots below (f ∷ rest) ret memory c) (Loads (rebuilt_on (code_of p) (f ∷ rest) below) ret memory (c + rebuilding_cost (code_of p) (f ∷ rest)))
  loads [] f slots below sound room c = loads_last f slots below sound c
  loads (g ∷ rest) f slots below sound room c =
      let code = code_of p in
      let q = sound.0 in
      let within_g = sound_within p rest g sound.1 in
      let params = same_params p g.function within_g in
      let n = params_in code g.function in
      let m = (function_of p g.function).params in
      let from = part_at (function_in code f.function).calls f.place in
      let after = q.mark + 1 + sizes q.args + 1 in
      let rest_cost = rebuilding_cost code (g ∷ rest) in
      let Q = Loads (rebuilt_on code (f ∷ g ∷ rest) below) ret memory (c + rebuilding_cost code (f ∷ g ∷ rest)) in
      let fits : nat_lt (length below + 1) max_frames ≡ true = lt-ltb _ _ (omega (arith, room)) in
      halts_step w (loading f.function slots below (f ∷ g ∷ rest) ret memory c) (parting f from [] below (g ∷ rest) ret memory (c + 1)) i.Restore Q (starts_with_restore p f.function q.fits.within) refl
      (zeros m f from 0 (c + 1) (i.Call g.function ∷ i.Jump after ∷ []) below (g ∷ rest) Q (part_of_call p f g.function q) (λ pc c1 ops e1 e2 e3 h.
      let args = reverse (take n ops) in
      let zs = args ++ replicate ((function_in code g.function).slots - length args) (pos 0) in
      let none : drop n ops ≡ [] = drop_of_length-le ops (omega (arith, e3, params)) in
      let a = act_at f (pc + 1) in
      let next_room : length (a ∷ below) + 1 + length rest ≤ max_frames = omega (arith, room) in
      let there0 = loads rest g zs (a ∷ below) sound.1 next_room (c1 + 1) in
      let M0 = loading g.function zs (a ∷ below) (g ∷ rest) ret memory (c1 + 1) in
      let place : pc + 1 ≡ from + (n + 1) = omega (arith, e1, params) in
      let sum : c1 + 1 + rest_cost ≡ c + (n + 2 + rest_cost) = omega (arith, e2, params) in
      let there1 = subst (λ k. Halts w M0 (Loads (rebuilt_on code (g ∷ rest) (act_at f k ∷ below)) ret memory (c1 + 1 + rest_cost))) place there0 in
      let there2 : Halts w M0 Q = subst (λ k. Halts w M0 (Loads (rebuilt_on code (f ∷ g ∷ rest) below) ret memory k)) sum there1 in
      let there3 = subst (λ o. Halts w (record M0 { operands = o }) Q) (sym none) there2 in
      halts_step w (parting f pc ops below (g ∷ rest) ret memory c1) (record M0 { operands = drop n ops }) (i.Call g.function) Q h.0 (ap (λ b. pushed b (function_in code g.function) g.function (parting f pc ops below (g ∷ rest) ret memory c1)) fits) there3) [] refl)

abbrev outcome : TargetCode → Target → Target
outcome code x = runs_with (rebuilt_on code x.saved []) x.returned (x.count + rebuilding_cost code x.saved)

-- the run of a rebuilding, to its end
ends : (p : Lifted) (x : Target) (t : ℕ) (memory : Memory) → AreSound p x.saved → length x.saved ≤ max_frames
    → (n : ℕ) × (go (setting (code_of p) t false) n (rebuilds (code_of p) x memory) ≡ Stopped (machine_of (outcome (code_of p) x) memory))
ends p x t memory sound room = from x.saved refl sound room where
  from : (fs : List Frame) → x.saved ≡ fs → AreSound p fs → length fs ≤ max_frames → (n : ℕ) × (go (setting (code_of p) t false) n (rebuilds (code_of p) x memory) ≡ Stopped (machine_of (outcome (code_of p) x) memory))
  from [] e h room = absurd h
  from (f ∷ rest) e h room =
      let code = code_of p in
      let zs = replicate (function_in code f.function).slots (pos 0) in
      let start = loading f.function zs [] (f ∷ rest) x.returned memory x.count in
      let same : rebuilds code x memory ≡ start = ap (λ fs. rebuilds code (record x { saved = fs }) memory) e in
      let r = loads p t x.returned memory rest f zs [] h (omega (arith, room)) x.count in
      (r.0, ap (λ b. go (setting code t false) r.0 b) same ∙ r.1 ∙ ap (λ fs. Stopped (machine_of (outcome code (record x { saved = fs })) memory)) (sym e))

rebuilt_some : (code : TargetCode) (fs : List Frame) (below : List Activation) → 0 < length below → 0 < length (rebuilt_on code fs below)
rebuilt_some code [] below h = h
rebuilt_some code (f ∷ rest) below h = rebuilt_some code rest (rebuilt code f rest ∷ below) (omega arith)

some_rebuilt : (p : Lifted) (fs : List Frame) → AreSound p fs → 0 < length (rebuilt_on (code_of p) fs [])
some_rebuilt p [] h = absurd h
some_rebuilt p (f ∷ rest) h = rebuilt_some (code_of p) rest (rebuilt (code_of p) f rest ∷ []) (omega arith)

-- a thread with an activation is that of its machine
target_of_machine : (x : Target) (memory : Memory) → 0 < length x.activations → x ≡ target_of (machine_of x memory)
target_of_machine x memory some = ap (λ l. record x { activations = l }) (top_on_below x.activations some)

stop_of : (a b : Machine) → Stopped a ≡ Stopped b → a ≡ b
stop_of a b e = cc

one_stop : (w : Setting) (m a b : Machine) (j k : ℕ) → go w j m ≡ Stopped a → go w k m ≡ Stopped b → a ≡ b
one_stop w m a b j k e f =
    let over_a : IsOver (go w j m) = subst IsOver (sym e) tt in
    let over_b : IsOver (go w k m) = subst IsOver (sym f) tt in
    let la : go w (j + k) m ≡ go w j m = longer w j (j + k) m (omega arith) over_a in
    let lb : go w (j + k) m ≡ go w k m = longer w k (j + k) m (omega arith) over_b in
    stop_of a b (sym e ∙ sym la ∙ lb ∙ f)

-- so many instructions rebuild frames at most
cost_le : (code : TargetCode) (fs : List Frame) → IsCode code → rebuilding_cost code fs ≤ 130 * length fs
cost_le code [] coded = omega arith
cost_le code (f ∷ []) coded = omega arith
cost_le code (f ∷ g ∷ rest) coded =
    let h = cost_le code (g ∷ rest) coded in
    let few = few_in_code code g.function coded in
    let first = first_in_code code g.function coded in
    omega (arith, h, few, first)

-- what a rebuilding comes to
record Comes (p : Lifted) (x y : Target) : Type 0 where
  pub rebuilds :
      (t : ℕ) (memory : Memory)
      → (n : ℕ) × (m : Machine) × (go (setting (code_of p) t false) n (rebuilds (code_of p) x memory) ≡ Stopped m)
      × (y ≡ target_of m) × (m.memory ≡ memory)
  pub runs : IsRunning p y
  pub stands : seen (code_of p) y ≡ x.saved

comes : (p : Lifted) (x : Target) → AreSound p x.saved → length x.saved ≤ max_frames → Comes p x (outcome (code_of p) x)
comes p x sound room =
    let code = code_of p in
    let y = outcome code x in
    let some = some_rebuilt p x.saved sound in
    let memory0 = memory_of p (start p []) in
    let there = target_of_machine y memory0 some in
    let law = rebuilding_loads p 0 x memory0 sound room in
    let mine = ends p x 0 memory0 sound room in
    let same : law.1 ≡ machine_of y memory0 = one_stop (setting code 0 false) (rebuilds code x memory0) law.1 (machine_of y memory0) law.0 mine.0 law.2 mine.1 in
    let is : target_of law.1 ≡ y = ap target_of same ∙ sym there in
    record {
      rebuilds = λ t memory.
          let r = ends p x t memory sound room in
          (r.0, machine_of y memory, r.1, target_of_machine y memory some, refl);
      runs = subst (λ z. IsRunning p z) is law.3;
      stands = sym (ap (λ z. seen code z) is) ∙ law.4;
    }

-- a thread whose saved frames can be rebuilt has rebuilt them, where its activations and its count are these
pub has_rebuilt : (code : TargetCode) (v x y : Target) → v ≡ x → CanRebuild code x → v.activations ≡ [] → y.mode ≡ Running → y.activations ≡ rebuilt_on code v.saved v.activations → y.returned ≡ v.returned → y.saved ≡ [] → y.count ≡ v.count + rebuilding_cost code v.saved → HasRebuilt code x y
has_rebuilt code v x y is can none mode acts returned saved count =
    let p = can.coded.program in
    let coded = can.coded.is in
    let whole : y ≡ outcome code v =
    ap (λ m. record y { mode = m }) mode ∙ ap (λ l. record y { mode = Running; activations = l }) (acts ∙ ap (λ l. rebuilt_on code v.saved l) none) ∙ ap (λ r. record y { mode = Running; activations = rebuilt_on code v.saved []; returned = r }) returned ∙ ap (λ fs. record y { mode = Running; activations = rebuilt_on code v.saved []; returned = v.returned; saved = fs }) saved ∙ ap (λ k. runs_with (rebuilt_on code v.saved []) v.returned k) count in
    let full : y ≡ outcome code x = whole ∙ ap (λ z. outcome code z) is in
    let there : y ≡ outcome (code_of p) x = full ∙ ap (λ c. outcome c x) coded in
    let r = subst (λ z. Comes p x z) (sym there) (comes p x can.sound can.few) in
    record {
      rebuilds = subst (λ c. (t : ℕ) (memory : Memory) → (n : ℕ) × (m : Machine) × (go (setting c t false) n (rebuilds c x memory) ≡ Stopped m) × (y ≡ target_of m) × (m.memory ≡ memory)) (sym coded) r.rebuilds;
      between = record { coded = can.coded; runs = r.runs };
      stands = subst (λ c. seen c y ≡ x.saved) (sym coded) r.stands;
      quick = let most = cost_le code x.saved can.coded in omega (arith, most, ap (λ (z : Target). z.count) full);
    }

ready : (p : Lifted) (rest : List Frame) (f : Frame) → IsFormed p → ((g : ℕ) → length (body_at p g) ≤ 4294967296) → AreSoundFrom p f rest → AreReady (code_of p) (f ∷ rest)
ready p [] f formed short sound =
    let at = mark_of_place p f sound.0 sound.1 in
    let within = slice_get_within (body_at p f.function) sound.0 (i.Mark f.place) (mark_in p f sound.0 sound.1) in
    let most = short f.function in
    (few_slots p f formed sound.1.fits, omega (arith, at, within, most), tt)
ready p (g ∷ rest) f formed short sound =
    let q = sound.0 in
    let n = (function_of p g.function).params in
    let from = part_at (function_in (code_of p) f.function).calls f.place in
    let zeros = replicate n (i.Const (pos 0)) in
    let h = has_back (body_at p f.function) from n zeros (i.Call g.function ∷ i.Jump (q.mark + 1 + sizes q.args + 1) ∷ []) (length-replicate n (i.Const (pos 0))) (part_of_call p f g.function q) in
    let within = slice_get_within (body_at p f.function) (from + n + 1) (i.Jump (q.mark + 1 + sizes q.args + 1)) h.1.0 in
    let params = same_params p g.function (sound_within p rest g sound.1) in
    let most = short f.function in
    (few_slots p f formed q.fits, omega (arith, within, params, most), ready p rest g formed short sound.1)

-- frames that can be rebuilt can be pushed
pub are_ready : (code : TargetCode) (v x : Target) → v ≡ x → CanRebuild code x → AreReady code v.saved
are_ready code v x is can =
    let p = can.coded.program in
    let short = subst (λ c. (f : ℕ) → length (function_in c f).body ≤ 4294967296) can.coded.is can.short in
    subst (λ c. AreReady c v.saved) (sym can.coded.is) (subst (λ (z : Target). AreReady (code_of p) z.saved) (sym is) (from x.saved can.sound short)) where
      from : (fs : List Frame) → AreSound can.coded.program fs → ((f : ℕ) → length (function_in (code_of can.coded.program) f).body ≤ 4294967296) → AreReady (code_of can.coded.program) fs
      from [] h short = absurd h
      from (f ∷ rest) h short = ready can.coded.program rest f can.coded.formed short h
