-- Which old functions stay as they are, read from the list of the answers.
--
-- Past the list there is no match, so the answer is no.
use Rattle.std.proofs.Common.{◌≡◌, ℕ, ◌<◌, ◌≤◌, Bool, false, List, length, get_or, None, sym, ◌∙◌, ap, arith}
use Rattle.std.specs.Prelude.{slice_get}
use Rattle.std.specs.Option.{option_flatten}
use Rattle.std.proofs.lemmas.List.FromFn.{length-map-range_with_len, get_or-map-range_with_len}
use Rattle.std.proofs.lemmas.Option.{slice_get_past}
use Rattle.c_tree.specs.Link.{Link}
use Rattle.stack_map.specs.Kept.{AreUnchanged, is_same_function, unchanged_by}

pub same_within : (k : Link) (same : List Bool) (f : ℕ) (b : Bool) → AreUnchanged k same → f < length same → b ≡ get_or same f b → b ≡ is_same_function k f
same_within k same f b are lt read =
    let n = length k.old.functions in
    let many : length same ≡ n = ap (λ xs. length xs) are ∙ length-map-range_with_len (is_same_function k) 0 n in
    read ∙ (ap (λ xs. get_or xs f b) are ∙ get_or-map-range_with_len (is_same_function k) 0 n f f b (omega arith) (omega arith))

pub same_past : (k : Link) (same : List Bool) (f : ℕ) → AreUnchanged k same → length k.functions ≡ length k.old.functions → length same ≤ f → false ≡ is_same_function k f
same_past k same f are whole past =
    let n = length k.old.functions in
    let many : length same ≡ n = ap (λ xs. length xs) are ∙ length-map-range_with_len (is_same_function k) 0 n in
    let none : slice_get k.functions f ≡ None = slice_get_past k.functions f (omega arith) in
    sym (ap (λ o. unchanged_by k f (option_flatten o)) none)
