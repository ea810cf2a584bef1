-- The text of a function from its parts.
use Rattle.std.proofs.Common.{◌≡◌, ◌∙◌, ℕ, ◌+◌, ◌<◌, ◌≤◌, List, [], ◌∷◌, ◌++◌, Some, None, length, get_or, take, sym, ap, arith}
use Rattle.std.specs.Prelude.{Result, OnOk}
use Rattle.std.specs.List.{flat_map}
use Rattle.std.proofs.lemmas.List.{flat_map_more, take_more}
use Rattle.c_tree.specs.declared.lifted.LFunction.{LFunction}
use Rattle.c_tree.specs.declared.lifted.LStmt.{LStmt}
use Rattle.c_tree.specs.declared.lifted.Lifted.{Lifted}
use Rattle.c_tree.specs.declared.place.Place.{Place}
use Rattle.c_tree.specs.Layout.{places, size_of}
use Rattle.c_tree.specs.MapExpr.{reads_of}
use Rattle.c_tree.specs.Step.{function_of}
use Rattle.c_places.proofs.FlowLemmas.{length-places}
use Rattle.frame_transform.specs.Blocks.{text_of}
use Rattle.frame_transform.specs.TargetText.{opening, closing, reads_in, function_text}
use Rattle.frame_transform.proofs.LineLemmas.{three_appended}

-- what the expressions of a function read, by its number
reads_are : (p : Lifted) (f : ℕ) (x : LFunction) → x ≡ function_of p f → reads_of p (Some f) None ≡ reads_in p x
reads_are p f x is = ap (λ y. reads_in p y) (sym is)

pub function_appended : {T E : Type 0} (res : Result T E) (p : Lifted) (f : ℕ) (x : LFunction) (body : List LStmt) (o o1 o2 o3 : List ℕ) → x ≡ function_of p f → body ≡ x.body
    → o1 ≡ o ++ opening x → o2 ≡ o1 ++ text_of (reads_of p (Some f) None) 1 0 1 0 body → OnOk res (o3 ≡ o2 ++ closing p x)
    → OnOk res (o3 ≡ o ++ function_text p x)
function_appended res p f x body o o1 o2 o3 is same e1 e2 e3 =
    three_appended res (opening x) (text_of (reads_in p x) 1 0 1 0 x.body) (closing p x) o o1 o2 o3 e1
    (e2 ∙ (ap (λ b. o1 ++ text_of (reads_of p (Some f) None) 1 0 1 0 b) same ∙ ap (λ r. o1 ++ text_of r 1 0 1 0 x.body) (reads_are p f x is)))
    e3

-- a short row leaves its function few places
pub short_body : (x : LFunction) (body : List LStmt) (row : List Place) → body ≡ x.body → row ≡ places x → length row ≤ 10000 → size_of body + 2 ≤ 10000
short_body x body row same is short = omega (arith, short, ap size_of same, ap length is, length-places x)

-- one function more
pub functions_more : (p : Lifted) (fs : List LFunction) (i : ℕ) (x : LFunction) (o o1 o2 : List ℕ) → i < length fs → x ≡ get_or fs i x
    → o1 ≡ o ++ flat_map (function_text p) (take i fs) → o2 ≡ o1 ++ function_text p x → o2 ≡ o ++ flat_map (function_text p) (take (i + 1) fs)
functions_more p fs i x o o1 o2 h is so_far more =
    more
    ∙ (ap (λ z. z ++ function_text p x) so_far
    ∙ (flat_map_more (function_text p) o (take i fs) x
    ∙ ap (λ xs. o ++ flat_map (function_text p) xs) (ap (λ y. take i fs ++ y ∷ []) is ∙ sym (take_more fs i x h))))
