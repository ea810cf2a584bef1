-- A rebuilding ends with the saved frames as activations, at the innermost frame's mark.
use Rattle.std.proofs.Common.{◌≡◌, inr, ℕ, zero, suc, ◌+◌, ◌-◌, ◌<◌, ◌≤◌, ℤ, pos, true, false, List, [], ◌∷◌, ◌++◌, length, reverse, take, drop, replicate, Some, refl, sym, ap, ◌∙◌, subst, arith, lt-ltb}
use Rattle.std.specs.Prelude.{slice_get, nat_lt, slice_index_or}
use Rattle.std.proofs.Math.ListN.{drop_of_length-le}
use Rattle.std.proofs.lemmas.Option.{get_or_from_slice_get}
use mathlib.Core.List.{reverse_aux}
use Rattle.c_tree.specs.declared.lifted.LStmt.TheVariants as s
use Rattle.c_tree.specs.declared.lifted.Lifted.{Lifted}
use Rattle.c_tree.specs.declared.place.Act.TheVariants.{Do}
use Rattle.c_tree.specs.declared.place.Place.{Place}
use Rattle.c_tree.specs.declared.state.Frame.{Frame}
use Rattle.c_tree.specs.Limits.{max_frames}
use Rattle.c_tree.specs.Step.{function_of}
use Rattle.store_mem.specs.Memory.{Memory}
use Rattle.target_code.specs.declared.activation.Mode.TheVariants.{Rebuilding}
use Rattle.target_code.specs.declared.code.CodeFunction.{CodeFunction}
use Rattle.target_code.specs.declared.instr.Instr.{Instr}
use Rattle.target_code.specs.declared.instr.Instr.TheVariants as i
use Rattle.target_code.specs.Between.{body_at, Reaches, Stands, Wait, Waits, AllWait, acts, frames, IsRunning}
use Rattle.target_code.specs.Code.{act_size, marks, body_of, part, code_of}
use Rattle.target_code.specs.Machine.{Setting, Machine, Ran, Stopped, function_in, part_at, pushed, go, rebuilds, target_of}
use Rattle.target_code.specs.Operands.{sizes, args_code}
use Rattle.target_code.specs.Seen.{seen}
use Rattle.target_laws.specs.SavedFrames.{AreSoundFrom, AreSound}
use Rattle.target_laws.specs.Laws.{setting}
use Rattle.target_laws.specs.Laws as law
use Rattle.target_laws.proofs.Blocks.{HasAt, has_back}
use Rattle.target_laws.proofs.Halts.{Halts, halts_step, halts_at, run_of}
use Rattle.target_laws.proofs.Lengths.{args_length}
use Rattle.target_laws.proofs.Parts.{part_stands}
use Rattle.target_laws.proofs.Places.{Here, here, mark_here, code_at}
use Rattle.target_laws.proofs.SeenFrames.{stands_seen}

-- the thread is between two turns and stands for these frames
pub record Rebuilt (p : Lifted) (fs : List Frame) (memory : Memory) (m : Machine) : Type 0 where
  pub frame : Frame
  pub pc : ℕ
  pub waits : List Wait
  pub returned : ℤ
  pub count : ℕ
  pub is : m ≡ run_of frame pc waits returned memory count
  pub stands : Stands p frame pc
  pub all_wait : AllWait p waits
  pub frames_are : reverse (frame ∷ frames waits) ≡ fs

abbrev pub HasRebuilt : Lifted → List Frame → Memory → Ran → Type 0
HasRebuilt p fs memory r = (m : Machine) × (r ≡ Stopped m) × Rebuilt p fs memory m

-- at `restore`, with these saved frames
abbrev loading : Frame → List ℤ → List Wait → List Frame → ℤ → Memory → ℕ → Machine
loading f slots ws saved ret memory c = record (run_of f 0 ws ret memory c) { mode = Rebuilding; slots = slots; saved = saved }

-- in a rebuilding part
abbrev parting : Frame → ℕ → List ℤ → List Wait → List Frame → ℤ → Memory → ℕ → Machine
parting f pc ops ws saved ret memory c = record (loading f f.slots ws saved ret memory c) { pc = pc; operands = ops }

acts_long : (ws : List Wait) → length (acts ws) ≡ length ws
acts_long [] = refl
acts_long (x ∷ ws) = ap suc (acts_long ws)

sound_within : (p : Lifted) (rest : List Frame) (f : Frame) → AreSoundFrom p f rest → f.function < length p.functions
sound_within p [] f h = h.1.fits.within
sound_within p (g ∷ rest) f h = h.0.fits.within

module _ (p : Lifted) (t : ℕ) (ret : ℤ) (st : Memory) where
  abbrev w : Setting
  w = setting p t false

  -- the zeros of a part
  zeros : (n : ℕ) (f : Frame) (pc k : ℕ) (rest : List Instr) (ws : List Wait) (saved : List Frame) (Q : Ran → Type 0) → HasAt (body_at p f.function) pc (replicate n (i.Const (pos 0)) ++ rest) → ((pc' c : ℕ) (ops : List ℤ) → length ops ≡ k + n → HasAt (body_at p f.function) pc' rest → Halts w (parting f pc' ops ws saved ret st c) Q) → (ops : List ℤ) → length ops ≡ k → (c : ℕ) → Halts w (parting f pc ops ws saved ret st c) Q
  zeros zero f pc k rest ws saved Q h go ops e c = go pc c ops (omega (arith, e)) h
  zeros (suc n) f pc k rest ws saved Q h go ops e c =
      halts_step w (parting f pc ops ws saved ret st c) (parting f (pc + 1) (pos 0 ∷ ops) ws saved ret st (c + 1)) (i.Const (pos 0)) Q h.0 refl (zeros n f (pc + 1) (k + 1) rest ws saved Q h.1 (λ pc' c' ops' e' h'. go pc' c' ops' (omega (arith, e')) h') (pos 0 ∷ ops) (omega (arith, e)) (c + 1))

  loads : (rest : List Frame) (f : Frame) (slots : List ℤ) (ws : List Wait) → AreSoundFrom p f rest → AllWait p ws → length ws + 1 + length rest ≤ max_frames → (c : ℕ) → Halts w (loading f slots ws (f ∷ rest) ret st c) (HasRebuilt p (reverse_aux (frames ws) (f ∷ rest)) st)
  loads [] f slots ws sound waits room c =
      let pc = sound.0 in
      let stands = sound.1 in
      let code = code_at p f.function stands.fits.within in
      let first : slice_get (body_at p f.function) 0 ≡ Some i.Restore = subst (λ (k : CodeFunction). slice_get k.body 0 ≡ Some i.Restore) (sym code.is) refl in
      let mark : slice_get (body_at p f.function) pc ≡ Some (i.Mark f.place) = subst (λ (k : CodeFunction). slice_get k.body pc ≡ Some (i.Mark f.place)) (sym code.is) (mark_here p code.t (function_of p f.function) f.place pc stands.mark) in
      let at : slice_index_or (function_in (code_of p) f.function).marks f.place 0 ≡ pc = subst (λ (k : CodeFunction). slice_index_or k.marks f.place 0 ≡ pc) (sym code.is) (get_or_from_slice_get (marks (function_of p f.function)) f.place pc 0 stands.mark) in
      let Q = HasRebuilt p (reverse_aux (frames ws) (f ∷ [])) st in
      let there : Halts w (run_of f pc ws ret st (c + 1)) Q = halts_at w (run_of f pc ws ret st (c + 1)) (i.Mark f.place) (Stopped (run_of f pc ws ret st (c + 1))) Q mark refl (
        run_of f pc ws ret st (c + 1),
        refl,
        record {
          frame = f;
          pc = pc;
          waits = ws;
          returned = ret;
          count = c + 1;
          is = refl;
          stands = stands;
          all_wait = waits;
          frames_are = refl;
        },
      ) in
      halts_step w (loading f slots ws (f ∷ []) ret st c) (run_of f (slice_index_or (function_in (code_of p) f.function).marks f.place 0) ws ret st (c + 1)) i.Restore Q first refl (subst (λ k. Halts w (run_of f k ws ret st (c + 1)) Q) (sym at) there)
  loads (g ∷ rest) f slots ws sound waits room c =
      let q = sound.0 in
      let code = code_at p f.function q.fits.within in
      let fn = function_of p f.function in
      let after = q.mark + 1 + sizes q.args + 1 in
      let b = subst (λ at. Here code.t (body_of p code.t fn) (marks fn) f.place q.mark at) q.call (here p code.t fn f.place q.mark q.mark_is) in
      let h0 = part_stands p code.t fn f.place q.mark q.to g.function q.args q.mark_is (ap (λ (a : Place). a.act) q.call) in
      let h1 : HasAt (body_at p f.function) (part_at (function_in (code_of p) f.function).calls f.place) (part p g.function after) = subst (λ (k : CodeFunction). HasAt k.body (part_at k.calls f.place) (part p g.function after)) (sym code.is) h0 in
      let called = has_back (body_of p code.t fn) (q.mark + 1) (sizes q.args) (args_code (q.mark + 1) q.args) (i.Call g.function ∷ i.After f.place q.to ∷ []) (args_length (q.mark + 1) q.args) b.has.1 in
      let has_after : slice_get (body_at p f.function) after ≡ Some (i.After f.place q.to) = subst (λ (k : CodeFunction). slice_get k.body after ≡ Some (i.After f.place q.to)) (sym code.is) called.1.0 in
      let e1 : q.mark + act_size (Do (s.Call q.to g.function q.args)) ≡ after + 1 = omega arith in
      let leads0 = subst (λ k. Reaches (body_of p code.t fn) (marks fn) k q.next) e1 b.leads in
      let leads : Reaches (body_at p f.function) (marks fn) (after + 1) q.next = subst (λ (k : CodeFunction). Reaches k.body (marks fn) (after + 1) q.next) (sym code.is) leads0 in
      let first : slice_get (body_at p f.function) 0 ≡ Some i.Restore = subst (λ (k : CodeFunction). slice_get k.body 0 ≡ Some i.Restore) (sym code.is) refl in
      let from = part_at (function_in (code_of p) f.function).calls f.place in
      let Q = HasRebuilt p (reverse_aux (frames ws) (f ∷ g ∷ rest)) st in
      let within_g = sound_within p rest g sound.1 in
      let code_g = code_at p g.function within_g in
      let params : (function_in (code_of p) g.function).params ≡ (function_of p g.function).params = ap (λ (k : CodeFunction). k.params) code_g.is in
      let small : length (acts ws) + 1 < max_frames = omega (arith, room, acts_long ws) in
      let fits : nat_lt (length (acts ws) + 1) max_frames ≡ true = lt-ltb _ _ small in
      halts_step w (loading f slots ws (f ∷ g ∷ rest) ret st c) (parting f from [] ws (g ∷ rest) ret st (c + 1)) i.Restore Q first refl (zeros (function_of p g.function).params f from 0 (i.Call g.function ∷ i.Jump after ∷ []) ws (g ∷ rest) Q h1 (λ pc c1 ops e h.
      let x : Wait = record { frame = f; pc = pc + 1 } in
      let n = (function_in (code_of p) g.function).params in
      let args = reverse (take n ops) in
      let zs = args ++ replicate ((function_in (code_of p) g.function).slots - length args) (pos 0) in
      let none : drop n ops ≡ [] = drop_of_length-le ops (omega (arith, e, params)) in
      let wait : Waits p x = record { fits = q.fits; to = q.to; callee = g.function; args = q.args; next = q.next; call = q.call; after = after; has = has_after; leads = leads; at = inr h.1.0 } in
      let next_room : length (x ∷ ws) + 1 + length rest ≤ max_frames = omega (arith, room) in
      let there = loads rest g zs (x ∷ ws) sound.1 (wait, waits) next_room (c1 + 1) in
      let there' = subst (λ o. Halts w (record (loading g zs (x ∷ ws) (g ∷ rest) ret st (c1 + 1)) { operands = o }) Q) (sym none) there in
      halts_step w (parting f pc ops ws (g ∷ rest) ret st c1) (record (loading g zs (x ∷ ws) (g ∷ rest) ret st (c1 + 1)) { operands = drop n ops }) (i.Call g.function) Q h.0 (ap (λ b. pushed b (function_in (code_of p) g.function) g.function (parting f pc ops ws (g ∷ rest) ret st c1)) fits) there') [] refl (c + 1))

rebuilt_is : (p : Lifted) (fs : List Frame) (memory : Memory) (m : Machine) → Rebuilt p fs memory m → IsRunning p (target_of m) × (seen (code_of p) (target_of m) ≡ fs) × (m.memory ≡ memory)
rebuilt_is p fs memory m r =
    let there = run_of r.frame r.pc r.waits r.returned memory r.count in
    let runs : IsRunning p (target_of there) = record { frame = r.frame; pc = r.pc; waits = r.waits; is = refl; stands = r.stands; wait = r.all_wait } in
    let seen_is : seen (code_of p) (target_of there) ≡ fs = stands_seen p r.frame r.pc r.waits r.returned r.count r.stands r.all_wait ∙ r.frames_are in
    subst (λ k. IsRunning p (target_of k) × (seen (code_of p) (target_of k) ≡ fs) × (k.memory ≡ memory)) (sym r.is) (runs, seen_is, refl)

-- a thread whose saved frames are sound rebuilds exactly these frames
pub rebuilding_loads : law.ARebuildingLoads
rebuilding_loads p t x memory sound room = from x.saved refl sound room where
  from : (fs : List Frame) → x.saved ≡ fs → AreSound p fs → length fs ≤ max_frames → law.Rebuilds p t x memory fs
  from [] e h room = absurd h
  from (f ∷ rest) e h room =
      let zeros = replicate (function_in (code_of p) f.function).slots (pos 0) in
      let start = record (loading f zeros [] (f ∷ rest) x.returned memory x.count) { operands = [] } in
      let same : rebuilds (code_of p) x memory ≡ start = ap (λ fs. rebuilds (code_of p) (record x { saved = fs }) memory) e in
      let r = loads p t x.returned memory rest f zeros [] h tt (omega (arith, room)) x.count in
      let q = r.1 in
      let is = rebuilt_is p (f ∷ rest) memory q.0 q.2 in
      (r.0, q.0, ap (λ b. go (setting p t false) r.0 b) same ∙ q.1, is.0, is.1, is.2)
