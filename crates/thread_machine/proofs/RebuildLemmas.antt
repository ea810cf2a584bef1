-- What a rebuilding in the stack leaves.
use Rattle.std.proofs.Common.{◌≡◌, ℕ, ◌+◌, ◌<◌, ◌≤◌, List, [], ◌∷◌, length, drop, get_or, sym, ap, ◌∙◌, arith}
use Rattle.std.proofs.lemmas.List.{drop-drop}
use Rattle.c_tree.specs.declared.state.Frame.{Frame}
use Rattle.target_code.specs.declared.activation.Activation.{Activation}
use Rattle.target_code.specs.Code.{TargetCode}
use Rattle.target_code.specs.Stack.{words}
use Rattle.thread_machine.specs.Rebuilt.{rebuilt_on, position_of, AreReady}
use Rattle.thread_machine.specs.Room.{room_of}

-- the first of these frames, rebuilt
pub first_rebuilt : (code : TargetCode) (fs : List Frame) (f d : Frame) (below : List Activation) (pc : ℕ) → 0 < length fs → f ≡ get_or fs 0 d → pc ≡ position_of code fs → rebuilt_on code (drop 1 fs) (record { function = f.function; pc = pc; slots = f.slots } ∷ below) ≡ rebuilt_on code fs below
first_rebuilt code [] f d below pc some is at = absurd (omega (arith, some))
first_rebuilt code (x ∷ rest) f d below pc some is at =
    ap (λ (g : Frame). rebuilt_on code rest (record { function = g.function; pc = pc; slots = g.slots } ∷ below)) is
    ∙ ap (λ n. rebuilt_on code rest (record { function = x.function; pc = n; slots = x.slots } ∷ below)) at

pub first_few : (code : TargetCode) (fs : List Frame) (f d : Frame) → 0 < length fs → f ≡ get_or fs 0 d → AreReady code fs → length f.slots ≤ 128
first_few code [] f d some is h = absurd (omega (arith, some))
first_few code (x ∷ rest) f d some is h = let e = ap (λ (g : Frame). length g.slots) is in omega (arith, e, h.0)

pub first_fits : (code : TargetCode) (fs : List Frame) → 0 < length fs → AreReady code fs → position_of code fs < 4294967296
first_fits code [] some h = absurd (omega (arith, some))
first_fits code (x ∷ rest) some h = h.1

pub first_room : (fs : List Frame) (f d : Frame) → 0 < length fs → f ≡ get_or fs 0 d → room_of fs ≡ words (length f.slots) + room_of (drop 1 fs)
first_room [] f d some is = absurd (omega (arith, some))
first_room (x ∷ rest) f d some is = ap (λ (g : Frame). words (length g.slots) + room_of rest) (sym is)

pub ready_rest : (code : TargetCode) (fs : List Frame) → AreReady code fs → AreReady code (drop 1 fs)
ready_rest code [] h = tt
ready_rest code (x ∷ rest) h = h.2

pub next_rest : (fs : List Frame) (k : ℕ) → drop 1 (drop k fs) ≡ drop (k + 1) fs
next_rest fs k = drop-drop 1 k fs
