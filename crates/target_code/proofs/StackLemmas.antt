-- The activations of heads that stand in a vector, the innermost last.
use Rattle.std.proofs.Common.{◌≡◌, ℕ, suc, ◌+◌, ◌-◌, ◌<◌, ℤ, List, [], ◌∷◌, ◌++◌, length, reverse, take, drop, get_or, set, refl, sym, ap, ◌∙◌, subst, arith, length-append}
use Rattle.std.proofs.lemmas.List.{reverse-append, reverse-reverse, drop-set-add, take-set-le, length-set}
use Rattle.std.proofs.Math.Seq.{set-append_seam, get_or-append_seam}
use Rattle.target_code.specs.declared.activation.Activation.{Activation}
use Rattle.target_code.specs.declared.activation.FrameInfo.{FrameInfo}
use Rattle.target_code.specs.Stack.{frames_of, with_slot, with_head_pc}

-- there is an activation for each head
pub frames_of-length : (hs : List FrameInfo) (slots : List ℤ) → length (frames_of hs slots) ≡ length hs
frames_of-length [] slots = refl
frames_of-length (h ∷ below) slots = ap suc (frames_of-length below (take (length slots - h.slots) slots))

-- the activation of a head whose slots begin at a position
abbrev act_from : FrameInfo → ℕ → List ℤ → Activation
act_from h base slots = record { function = h.function; pc = h.pc; slots = drop base slots }

slot_set : (h : FrameInfo) (below : List FrameInfo) (slots : List ℤ) (k : ℕ) (v : ℤ) (base : ℕ)
    → base ≡ length slots - h.slots
    → frames_of (h ∷ below) (set slots (base + k) v) ≡ with_slot k v (frames_of (h ∷ below) slots)
slot_set h below slots k v base e =
    let long : length (set slots (base + k) v) - h.slots ≡ base = ap (λ n. n - h.slots) (length-set slots (base + k) v) ∙ sym e in
    let moved = ap (λ b. act_from h b (set slots (base + k) v) ∷ frames_of below (take b (set slots (base + k) v))) long in
    let top = ap (λ (l : List ℤ). record (act_from h base slots) { slots = l } ∷ frames_of below (take base (set slots (base + k) v))) (drop-set-add base slots k v) in
    let rest = ap (λ (l : List ℤ). record (act_from h base slots) { slots = set (drop base slots) k v } ∷ frames_of below l) (take-set-le base slots (base + k) v (omega arith)) in
    let there = ap (λ b. with_slot k v (act_from h b slots ∷ frames_of below (take b slots))) e in
    moved ∙ top ∙ rest ∙ there

-- a write to a slot of the innermost activation, seen in the vectors
pub frames_of-set : (hs : List FrameInfo) (h : FrameInfo) (below : List FrameInfo) (slots : List ℤ) (k : ℕ) (v : ℤ) (n : ℕ)
    → hs ≡ h ∷ below → n ≡ length slots
    → frames_of hs (set slots (n - h.slots + k) v) ≡ with_slot k v (frames_of hs slots)
frames_of-set hs h below slots k v n e en =
    subst (λ (l : List FrameInfo). frames_of l (set slots (n - h.slots + k) v) ≡ with_slot k v (frames_of l slots)) (sym e)
    (slot_set h below slots k v (n - h.slots) (ap (λ m. m - h.slots) en))

snoc_pc : (pc : ℕ) (xs : List FrameInfo) (a : FrameInfo) (n : ℕ) (x d : FrameInfo)
    → n ≡ length (xs ++ a ∷ []) → x ≡ get_or (xs ++ a ∷ []) (n - 1) d
    → reverse (set (xs ++ a ∷ []) (n - 1) (record x { pc = pc })) ≡ record a { pc = pc } ∷ reverse xs
snoc_pc pc xs a n x d en ex =
    let e1 : n - 1 ≡ length xs = omega (arith, en, length-append xs (a ∷ [])) in
    let e2 : x ≡ a = ex ∙ ap (λ k. get_or (xs ++ a ∷ []) k d) e1 ∙ get_or-append_seam xs a [] d in
    ap (λ k. reverse (set (xs ++ a ∷ []) k (record x { pc = pc }))) e1
    ∙ ap (λ (b : FrameInfo). reverse (set (xs ++ a ∷ []) (length xs) (record b { pc = pc }))) e2
    ∙ ap (λ (l : List FrameInfo). reverse l) (set-append_seam xs a [] (record a { pc = pc }))
    ∙ reverse-append xs (record a { pc = pc } ∷ [])

last_pc : (pc : ℕ) (xs ys : List FrameInfo) (n : ℕ) (x d : FrameInfo)
    → reverse xs ≡ ys → 0 < n → n ≡ length xs → x ≡ get_or xs (n - 1) d
    → reverse (set xs (n - 1) (record x { pc = pc })) ≡ with_head_pc pc ys
last_pc pc xs [] n x d e h en ex =
    let none : length xs ≡ 0 = ap length (sym (reverse-reverse xs) ∙ ap (λ (l : List FrameInfo). reverse l) e) in
    absurd (omega (arith, h, en, none))
last_pc pc xs (a ∷ ys) n x d e h en ex =
    let back : reverse ys ++ a ∷ [] ≡ xs = sym (reverse-append (a ∷ []) ys) ∙ sym (ap (λ (l : List FrameInfo). reverse l) e) ∙ reverse-reverse xs in
    let en' : n ≡ length (reverse ys ++ a ∷ []) = en ∙ sym (ap length back) in
    let ex' : x ≡ get_or (reverse ys ++ a ∷ []) (n - 1) d = ex ∙ sym (ap (λ (l : List FrameInfo). get_or l (n - 1) d) back) in
    let there = snoc_pc pc (reverse ys) a n x d en' ex' in
    subst (λ (l : List FrameInfo). reverse (set l (n - 1) (record x { pc = pc })) ≡ record a { pc = pc } ∷ ys) back
    (there ∙ ap (λ (l : List FrameInfo). record a { pc = pc } ∷ l) (reverse-reverse ys))

-- another position of the last head, seen from the end
pub reverse-set_pc : (pc : ℕ) (xs : List FrameInfo) (n : ℕ) (x d : FrameInfo)
    → 0 < n → n ≡ length xs → x ≡ get_or xs (n - 1) d
    → reverse (set xs (n - 1) (record x { pc = pc })) ≡ with_head_pc pc (reverse xs)
reverse-set_pc pc xs n x d h en ex = last_pc pc xs (reverse xs) n x d refl h en ex
