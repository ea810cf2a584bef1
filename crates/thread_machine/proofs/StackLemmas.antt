-- Lists of activations that are taken off a stack, and put back.
use Rattle.std.proofs.Common.{◌≡◌, ℕ, zero, suc, ◌+◌, ◌*◌, ◌<◌, ◌≤◌, ℤ, pos, Option, Some, None, List, [], ◌∷◌, ◌++◌, length, reverse, take, drop, get_or, set, refl, ap, ◌∙◌, arith, length-append}
use Rattle.std.proofs.lemmas.List.{reverse-append}
use Rattle.c_tree.specs.declared.state.Frame.{Frame}
use Rattle.c_tree.specs.Limits.{max_slots}
use Rattle.target_code.specs.declared.activation.Activation.{Activation}
use Rattle.target_code.specs.declared.instr.Instr.{Instr}
use Rattle.target_code.specs.declared.instr.Instr.TheVariants as i
use Rattle.target_code.specs.Code.{TargetCode}
use Rattle.target_code.specs.Stack.{words, words_of, with_slot}
use Rattle.target_code.specs.Target.{top_of, below_of}
use Rattle.thread_machine.specs.Room.{words_of_all, room_of, HaveFewSlots}
use Rattle.thread_machine.specs.Standing.{saved_frame, saved_frames, saving_cost, cost_by, instr_of}

-- one slot more is filled
set_next : (vs xs : List ℤ) (k : ℕ) (v : ℤ) → k < length vs → length xs ≡ length vs → v ≡ get_or vs k (pos 0) → set (take k vs ++ drop k xs) k v ≡ take (suc k) vs ++ drop (suc k) xs
set_next [] xs k v h e q = absurd (omega (arith, h))
set_next (y ∷ vs) [] k v h e q = absurd (omega (arith, e))
set_next (y ∷ vs) (x ∷ xs) zero v h e q = ap (λ z. z ∷ xs) q
set_next (y ∷ vs) (x ∷ xs) (suc k) v h e q = ap (λ l. y ∷ l) (set_next vs xs k v (omega (arith, h)) (omega (arith, e)) q)

-- all slots are filled
pub set_all : (vs xs : List ℤ) (n : ℕ) → n ≡ length vs → length xs ≡ length vs → take n vs ++ drop n xs ≡ vs
set_all [] [] zero h e = refl
set_all [] [] (suc n) h e = absurd (omega (arith, h))
set_all [] (x ∷ xs) n h e = absurd (omega (arith, e))
set_all (y ∷ vs) [] n h e = absurd (omega (arith, e))
set_all (y ∷ vs) (x ∷ xs) zero h e = absurd (omega (arith, h))
set_all (y ∷ vs) (x ∷ xs) (suc n) h e = ap (λ l. y ∷ l) (set_all vs xs n (omega (arith, h)) (omega (arith, e)))

-- the innermost activation with its first k slots filled, on the others
abbrev pub filled : List Activation → List ℤ → ℕ → List Activation
filled acts vs k = record (top_of acts) { slots = take k vs ++ drop k (top_of acts).slots } ∷ below_of acts

pub fill_next : (acts now : List Activation) (vs : List ℤ) (k : ℕ) (v : ℤ) → k < length vs → length (top_of acts).slots ≡ length vs → v ≡ get_or vs k (pos 0) → now ≡ filled acts vs k → with_slot k v now ≡ filled acts vs (k + 1)
fill_next acts now vs k v h e q is =
    let one : suc k ≡ k + 1 = omega arith in
    ap (λ l. with_slot k v l) is
    ∙ ap (λ (l : List ℤ). record (top_of acts) { slots = l } ∷ below_of acts) (set_next vs (top_of acts).slots k v h e q)
    ∙ ap (λ n. filled acts vs n) one

pub fill_all : (acts : List Activation) (vs : List ℤ) (n : ℕ) → n ≡ length vs → length (top_of acts).slots ≡ length vs → filled acts vs n ≡ record (top_of acts) { slots = vs } ∷ below_of acts
fill_all acts vs n h e = ap (λ (l : List ℤ). record (top_of acts) { slots = l } ∷ below_of acts) (set_all vs (top_of acts).slots n h e)

pub words_snoc : (xs : List Activation) (a : Activation) → words_of_all (xs ++ a ∷ []) ≡ words_of_all xs + words_of a
words_snoc [] a = omega arith
words_snoc (x ∷ xs) a = let h = words_snoc xs a in omega (arith, h)

pub few_snoc : (xs : List Activation) (a : Activation) → HaveFewSlots (xs ++ a ∷ []) → HaveFewSlots xs × (length a.slots ≤ max_slots)
few_snoc [] a h = (tt, h.0)
few_snoc (x ∷ xs) a h = let r = few_snoc xs a h.1 in ((h.0, r.0), r.1)

saved_snoc : (code : TargetCode) (xs : List Activation) (a : Activation) → saved_frames code (xs ++ a ∷ []) ≡ saved_frames code xs ++ saved_frame code a ∷ []
saved_snoc code [] a = refl
saved_snoc code (x ∷ xs) a = ap (λ l. saved_frame code x ∷ l) (saved_snoc code xs a)

pub saved_reverse : (code : TargetCode) (xs : List Activation) (a : Activation) → reverse (saved_frames code (xs ++ a ∷ [])) ≡ saved_frame code a ∷ reverse (saved_frames code xs)
saved_reverse code xs a =
    ap (λ (l : List Frame). reverse l) (saved_snoc code xs a) ∙ reverse-append (saved_frames code xs) (saved_frame code a ∷ [])

pub cost_snoc : (code : TargetCode) (xs : List Activation) (a : Activation) → saving_cost code (xs ++ a ∷ []) ≡ cost_by (instr_of code a) + saving_cost code xs
cost_snoc code [] a = refl
cost_snoc code (x ∷ xs) a = let h = cost_snoc code xs a in omega (arith, h)

-- the innermost activation on the others
pub top_on_below : (acts : List Activation) → 0 < length acts → acts ≡ top_of acts ∷ below_of acts
top_on_below [] h = absurd (omega (arith, h))
top_on_below (a ∷ acts) h = refl

pub few_front : (xs ys : List Activation) → HaveFewSlots (xs ++ ys) → HaveFewSlots xs
few_front [] ys h = tt
few_front (x ∷ xs) ys h = (h.0, few_front xs ys h.1)

cost_le : (o : Option Instr) → cost_by o ≤ 2
cost_le (Some (i.After n to)) = omega arith
cost_le (Some (i.Mark n)) = omega arith
cost_le (Some (i.Flag n)) = omega arith
cost_le (Some i.Restore) = omega arith
cost_le (Some (i.Const v)) = omega arith
cost_le (Some (i.Get k)) = omega arith
cost_le (Some (i.Gget k)) = omega arith
cost_le (Some (i.Set k)) = omega arith
cost_le (Some (i.Gset k)) = omega arith
cost_le (Some (i.Aget k)) = omega arith
cost_le (Some (i.Aset k)) = omega arith
cost_le (Some (i.Fget s k)) = omega arith
cost_le (Some (i.Fset s k)) = omega arith
cost_le (Some (i.Un op)) = omega arith
cost_le (Some (i.Bin op)) = omega arith
cost_le (Some (i.Jump to)) = omega arith
cost_le (Some (i.Jz to)) = omega arith
cost_le (Some (i.Call g)) = omega arith
cost_le (Some i.Ret) = omega arith
cost_le (Some (i.New s)) = omega arith
cost_le (Some i.Getc) = omega arith
cost_le (Some i.Free) = omega arith
cost_le (Some (i.Print k)) = omega arith
cost_le (Some (i.Lock m)) = omega arith
cost_le (Some (i.Unlock m)) = omega arith
cost_le (Some i.Join) = omega arith
cost_le (Some (i.Spawn g)) = omega arith
cost_le None = omega arith

-- saving takes two instructions an activation at most
pub saving_cost_le : (code : TargetCode) (xs : List Activation) → saving_cost code xs ≤ 2 * length xs
saving_cost_le code [] = omega arith
saving_cost_le code (x ∷ xs) =
    let h = saving_cost_le code xs in
    let k = cost_le (instr_of code x) in
    omega (arith, h, k)

-- the saved frames take the room that their activations took
pub room_snoc : (xs : List Frame) (f : Frame) → room_of (xs ++ f ∷ []) ≡ room_of xs + words (length f.slots)
room_snoc [] f = omega arith
room_snoc (x ∷ xs) f = let h = room_snoc xs f in omega (arith, h)

pub room_saved : (code : TargetCode) (xs : List Activation) → room_of (reverse (saved_frames code xs)) ≡ words_of_all xs
room_saved code [] = refl
room_saved code (x ∷ xs) =
    let back = reverse (saved_frames code xs) in
    let e : room_of (reverse (saved_frames code (x ∷ xs))) ≡ room_of (back ++ saved_frame code x ∷ []) = ap (λ (l : List Frame). room_of l) (reverse-append (saved_frame code x ∷ []) (saved_frames code xs)) in
    let h = room_saved code xs in
    let k = room_snoc back (saved_frame code x) in
    omega (arith, e, h, k)

-- so many activations are saved with few instructions
pub saving_is_little : (code : TargetCode) (xs ys zs : List Activation) (n cost : ℕ) → xs ++ ys ≡ zs → n ≡ length zs → n < 4294967296 → cost ≡ saving_cost code xs → cost ≤ 8589934592
saving_is_little code xs ys zs n cost e long few is =
    let most = saving_cost_le code xs in
    let all = ap length e in
    let sum = length-append xs ys in
    omega (arith, most, all, sum, long, few, is)
