-- Looking for the end of a comment.
use Rattle.std.proofs.Common.{◌≡◌, ℕ, ◌+◌, ◌-◌, ◌<◌, ◌≤◌, true, false, List, length, take, drop, refl, sym, ap, ◌∙◌, arith, length-drop}
use Rattle.std.specs.Prelude.{Some, None, option_map, nat_eq, codes, if◌then◌else◌}
use Rattle.std.specs.List.{starts_with}
use Rattle.std.proofs.lemmas.List.{take_all, drop_more, drop_all}
use Rattle.c_tokens.specs.Comment.{up_to_close}
use Rattle.c_tokens.proofs.Shift.{shifted, shifted_more, shifted_none}

-- so far no end was met
abbrev pub Searched : ℕ → List ℕ → Type 0
Searched i bytes = up_to_close bytes ≡ shifted i (up_to_close (drop i bytes))

close_step : (bytes : List ℕ) (i : ℕ) → i < length bytes
    → up_to_close (drop i bytes) ≡ (if starts_with nat_eq (drop i bytes) (codes "*/") then Some 2 else option_map (λ n. 1 + n) (up_to_close (drop (i + 1) bytes)))
unfolding up_to_close
close_step bytes i lt = rw (drop_more bytes i 0) refl

pub close_first : (bytes : List ℕ) → Searched 0 bytes
close_first bytes = sym (shifted_none (up_to_close bytes))

pub close_found : (bytes : List ℕ) (i : ℕ) → i < length bytes → starts_with nat_eq (drop i bytes) (codes "*/") ≡ true → Searched i bytes → Some (i + 2) ≡ up_to_close bytes
close_found bytes i lt is so_far = sym (so_far ∙ ap (shifted i) (rw is at (close_step bytes i lt)))

pub close_more : (bytes : List ℕ) (i : ℕ) → i < length bytes → starts_with nat_eq (drop i bytes) (codes "*/") ≡ false → Searched i bytes → Searched (i + 1) bytes
close_more bytes i lt is so_far = so_far ∙ ap (shifted i) (rw is at (close_step bytes i lt)) ∙ shifted_more i (up_to_close (drop (i + 1) bytes))

pub close_none : (bytes : List ℕ) (i : ℕ) → length bytes ≤ i → Searched i bytes → None ≡ up_to_close bytes
unfolding up_to_close
close_none bytes i le so_far = sym (so_far ∙ ap (λ xs. shifted i (up_to_close xs)) (drop_all i bytes le))

-- the rest of a slice, as slicing gives it
pub rest_whole : (i : ℕ) (bytes : List ℕ) → take (length bytes - i) (drop i bytes) ≡ drop i bytes
rest_whole i bytes = take_all (length bytes - i) (drop i bytes) (omega (arith, length-drop i bytes))
