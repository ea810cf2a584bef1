-- Parking and resuming lead the core to the same state.
use Rattle.std.proofs.Common.{◌≡◌, inl, inr, ℕ, ◌≤◌, Bool, true, false, ◌++◌, length, map, reverse, Option, Some, refl, sym, ap, ◌∙◌, subst}
use Rattle.std.specs.Prelude.{All, slice_get, slice_set}
use Rattle.std.specs.Option.{option_and_then, option_map}
use Rattle.std.proofs.lemmas.List.Elements.{All-set}
use Rattle.c_tree.specs.declared.event.EventKind.{EventKind}
use Rattle.c_tree.specs.declared.event.EventKind.TheVariants as e
use Rattle.c_tree.specs.declared.lifted.Lifted.{Lifted}
use Rattle.c_tree.specs.declared.run.Settings.{Settings}
use Rattle.c_tree.specs.Able.{is_update_place}
use Rattle.c_tree.specs.Limits.{max_frames}
use Rattle.c_tree.specs.Step.{top_of, at_frame}
use Rattle.store_mem.specs.Laws.{with_threads}
use Rattle.store_mem.specs.Memory.{Memory, Marked}
use Rattle.target_code.specs.declared.activation.Mode.{Mode}
use Rattle.target_code.specs.declared.activation.Mode.TheVariants.{Saved}
use Rattle.target_code.specs.Between.{IsRunning, IsAtRest, IsBetween}
use Rattle.target_code.specs.Code.{code_of}
use Rattle.target_code.specs.Machine.{turn, go, machine_of, rebuilds, target_of, all_saved}
use Rattle.target_code.specs.Seen.{seen, seen_in}
use Rattle.target_code.specs.Target.{Target}
use Rattle.target_code.specs.TargetRun.{TargetCore, seen_threads, state_of, setting_of, counted, with_target, trace_mark, live_in, after_unwinding, after_rebuilding, target_next}
use Rattle.target_laws.specs.Laws.{setting}
use Rattle.target_laws.specs.SavedFrames.{AreSound}
use Rattle.target_laws.proofs.Rebuilds.{rebuilding_loads}
use Rattle.target_laws.proofs.SavedThreads.{Rests, is_saved, is_saved_mode}
use Rattle.target_laws.proofs.Slices.{get_map, map_set, set_same}
use Rattle.target_laws.proofs.Unwinds.{unwinding_saves}

-- an event leads a core to one that stands for the same state, in which one thread is another, saved or not
pub record Moved (p : Lifted) (k : Settings) (c : TargetCore) (t : ℕ) (kind : EventKind) (saved : Bool) : Type 0 where
  pub fuel : ℕ
  pub core : TargetCore
  pub next : target_next fuel k c kind ≡ Some core
  pub state : state_of core ≡ state_of c
  pub between : IsBetween p core
  pub thread : Option Target
  pub threads : core.threads ≡ slice_set c.threads t thread
  pub is_so : is_saved thread ≡ saved

module _ (p : Lifted) (k : Settings) (c : TargetCore) (b : IsBetween p (record c { code = code_of p })) (t : ℕ) (x : Target) (there : slice_get c.threads t ≡ Some (Some x)) where
  abbrev core : TargetCore
  core = record c { code = code_of p }

  -- the threads with another one in place of t, which stands for the same frames
  same_seen : (y : Target) → seen (code_of p) y ≡ seen (code_of p) x → seen_threads (code_of p) (slice_set c.threads t (Some y)) ≡ seen_threads (code_of p) c.threads
  same_seen y same =
      let view = λ (o : Option Target). option_map (λ y. seen (code_of p) y) o in
      map_set view c.threads t (Some y)
      ∙ (ap (λ l. slice_set (seen_threads (code_of p) c.threads) t (Some l)) same
      ∙ set_same (seen_threads (code_of p) c.threads) t (Some (seen (code_of p) x)) (get_map view c.threads t (Some x) there))

  between : (d : TargetCore) (y : Target) → seen (code_of p) y ≡ seen (code_of p) x → IsAtRest p y → d.code ≡ code_of p → d.memory ≡ c.memory → d.threads ≡ slice_set c.threads t (Some y) → IsBetween p d
  between d y same rests code memory threads =
      let seen_is : seen_threads d.code d.threads ≡ seen_threads (code_of p) c.threads =
      ap (λ k. seen_threads k d.threads) code ∙ (ap (λ l. seen_threads (code_of p) l) threads ∙ same_seen y same) in
      record {
        formed = b.formed;
        code = code;
        fields = ap (λ (m : Memory). m.fields) memory ∙ b.fields;
        shared = ap (λ (m : Memory). m.state.threads) memory ∙ b.shared;
        marked = subst (λ l. Marked d.memory.marks l) (sym seen_is) (subst (λ (m : Memory). Marked m.marks (seen_threads (code_of p) c.threads)) (sym memory) b.marked);
        threads = subst (λ l. All (λ o. Rests p o) l) (sym threads) (All-set (λ o. Rests p o) c.threads t (Some y) rests b.threads);
      }

  parks_core : IsRunning p x → is_update_place (at_frame p (top_of (seen (code_of p) x))).act ≡ true → Moved p k core t (e.Park t) true
  unfolding target_next
  parks_core runs update =
      let r = unwinding_saves p t x c.memory runs update in
      let fs = seen (code_of p) x in
      let y = all_saved x fs r.1 in
      let d : TargetCore = record (with_target (counted core x.count r.1) t (Some y)) { trace = c.trace ++ map (trace_mark true t c.new) (reverse fs) } in
      let ran : target_next r.0 k core (e.Park t) ≡ after_unwinding core t x (turn (setting p t true) r.0 (machine_of x c.memory)) =
      ap (λ o. option_and_then (λ y. after_unwinding core t y (turn (setting_of core t true) r.0 (machine_of y c.memory))) (live_in o)) there in
      record {
        fuel = r.0;
        core = d;
        next = ran ∙ ap (λ q. after_unwinding core t x q) r.2;
        state = ap (λ l. with_threads l c.memory.state) (same_seen y refl);
        between = between d y refl (inr (record { mode = refl; activations = refl })) refl refl refl;
        thread = Some y;
        threads = refl;
        is_so = refl;
      }

  rebuilds_core : x.mode ≡ Saved → AreSound p x.saved → length x.saved ≤ max_frames → Moved p k core t (e.Resume t) false
  unfolding target_next
  rebuilds_core mode sound room =
      let r = rebuilding_loads p t x c.memory sound room in
      let m = r.1 in
      let y = target_of m in
      let was : seen (code_of p) x ≡ x.saved = ap (λ (k : Mode). seen_in (code_of p) k x.activations x.saved) mode in
      let same : seen (code_of p) y ≡ seen (code_of p) x = r.4 ∙ sym was in
      let d : TargetCore = record (with_target (counted core x.count m.count) t (Some y)) { trace = c.trace ++ map (trace_mark false t c.new) x.saved } in
      let ran : target_next r.0 k core (e.Resume t) ≡ after_rebuilding core t x (go (setting p t false) r.0 (rebuilds (code_of p) x c.memory)) =
      ap (λ o. option_and_then (λ y. after_rebuilding core t y (go (setting_of core t false) r.0 (rebuilds (code_of p) y c.memory))) (live_in o)) there in
      record {
        fuel = r.0;
        core = d;
        next = ran ∙ ap (λ q. after_rebuilding core t x q) r.2;
        state = ap (λ l. with_threads l c.memory.state) (same_seen y same);
        between = between d y same (inl r.3) refl refl refl;
        thread = Some y;
        threads = refl;
        is_so = ap (λ (k : Target). is_saved_mode k.mode) r.3.is;
      }

-- a thread that runs and stands at an update place parks
pub parks_on : (p : Lifted) (k : Settings) (c : TargetCore) (t : ℕ) (x : Target) → IsBetween p c → slice_get c.threads t ≡ Some (Some x) → IsRunning p x → is_update_place (at_frame p (top_of (seen (code_of p) x))).act ≡ true → Moved p k c t (e.Park t) true
parks_on p k c t x b there runs update =
    subst (λ code. IsBetween p (record c { code = code }) → Moved p k (record c { code = code }) t (e.Park t) true) (sym b.code) (λ b. parks_core p k c b t x there runs update) b

-- a thread whose saved frames are sound resumes
pub resumes_on : (p : Lifted) (k : Settings) (c : TargetCore) (t : ℕ) (x : Target) → IsBetween p c → slice_get c.threads t ≡ Some (Some x) → x.mode ≡ Saved → AreSound p x.saved → length x.saved ≤ max_frames → Moved p k c t (e.Resume t) false
resumes_on p k c t x b there mode sound room =
    subst (λ code. IsBetween p (record c { code = code }) → Moved p k (record c { code = code }) t (e.Resume t) false) (sym b.code) (λ b. rebuilds_core p k c b t x there mode sound room) b
