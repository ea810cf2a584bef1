-- How many places statements have, form by form.
use Rattle.std.proofs.Common.{◌≡◌, ℕ, ◌+◌, ◌-◌, ◌<◌, ◌≤◌, true, false, List, [], ◌∷◌, length, Option, Some, None, refl, sym, ap, ◌∙◌, arith, nat_lt}
use Rattle.std.specs.Prelude.{if◌then◌else◌}
use Rattle.std.proofs.lemmas.Bool.Decides.{nat_tests}
use Rattle.c_tree.specs.Compute.{literals}
use Rattle.c_tree.specs.declared.lifted.LExpr.{LExpr}
use Rattle.c_tree.specs.declared.lifted.LStmt.{LStmt}
use Rattle.c_tree.specs.declared.lifted.LStmt as t
use Rattle.c_tree.specs.declared.lifted.Dest.{Dest}
use Rattle.c_tree.specs.declared.lifted.LFunction.{LFunction}
use Rattle.c_tree.specs.declared.cause.LimitKind.{LimitKind}
use Rattle.c_tree.specs.declared.cause.LimitKind.TheVariants as limit
use Rattle.c_tree.specs.Layout.{size_of}
use Rattle.c_tree.specs.Lifting.{passed_limit}
use Rattle.c_lift.specs.Places.{places_of, places_in}

pub places_of-If : (e : LExpr) (a b : List LStmt) → places_of (t.If e a b) ≡ 1 + places_in a + places_in b
unfolding literals places_of places_in
places_of-If e a b = refl

pub places_of-Loop : (c : List LStmt) (e : LExpr) (b u : List LStmt) → places_of (t.Loop c e b u) ≡ places_in c + 1 + places_in b + places_in u + 1
unfolding literals places_of places_in
places_of-Loop c e b u = refl

pub places_of-Break : places_of t.Break ≡ 0
unfolding literals places_of
places_of-Break = refl

pub places_of-Continue : places_of t.Continue ≡ 0
unfolding literals places_of
places_of-Continue = refl

pub places_of-Assign : (to : Dest) (e : LExpr) → places_of (t.Assign to e) ≡ 1
unfolding literals places_of
places_of-Assign to e = refl

pub places_of-New : (slot owner : ℕ) → places_of (t.New slot owner) ≡ 1
unfolding literals places_of
places_of-New slot owner = refl

pub places_of-Getc : (slot : ℕ) → places_of (t.Getc slot) ≡ 1
unfolding literals places_of
places_of-Getc slot = refl

pub places_of-Print : (text : List ℕ) (args : List LExpr) → places_of (t.Print text args) ≡ 1
unfolding literals places_of
places_of-Print text args = refl

pub places_of-Free : (e : LExpr) → places_of (t.Free e) ≡ 1
unfolding literals places_of
places_of-Free e = refl

pub places_of-Call : (to : Option ℕ) (f : ℕ) (args : List LExpr) → places_of (t.Call to f args) ≡ 1
unfolding literals places_of
places_of-Call to f args = refl

pub places_of-Spawn : (to : Dest) (f : ℕ) (e : LExpr) → places_of (t.Spawn to f e) ≡ 1
unfolding literals places_of
places_of-Spawn to f e = refl

pub places_of-Join : (e : LExpr) → places_of (t.Join e) ≡ 1
unfolding literals places_of
places_of-Join e = refl

pub places_of-Lock : (m : ℕ) → places_of (t.Lock m) ≡ 1
unfolding literals places_of
places_of-Lock m = refl

pub places_of-Unlock : (m : ℕ) → places_of (t.Unlock m) ≡ 1
unfolding literals places_of
places_of-Unlock m = refl

pub places_of-Return : (e : Option LExpr) → places_of (t.Return e) ≡ 1
unfolding literals places_of
places_of-Return e = refl

pub places_in-more : (s : LStmt) (rest : List LStmt) → places_in (s ∷ rest) ≡ places_of s + places_in rest
unfolding literals places_of places_in
places_in-more s rest = refl

pub places_in-none : places_in [] ≡ 0
unfolding literals places_in
places_in-none = refl

pub ruleset place_rules = (places_of-If, places_of-Loop, places_of-Break, places_of-Continue, places_of-Assign, places_of-New, places_of-Getc, places_of-Print, places_of-Free, places_of-Call, places_of-Spawn, places_of-Join, places_of-Lock, places_of-Unlock, places_of-Return, places_in-more, places_in-none)

-- what is left of some places after those of one statement more
pub room_more : (room left left' : ℕ) (stmts : List LStmt) (x : LStmt) (rest all : List LStmt) → stmts ≡ x ∷ rest → left - places_in stmts ≡ room - places_in all → left' ≡ left - places_of x →
    left' - places_in rest ≡ room - places_in all
room_more room left left' stmts x rest all is whole more =
    let e = ap places_in is ∙ places_in-more x rest in
    let d : left - (places_of x + places_in rest) ≡ room - places_in all = ap (λ n. left - n) (sym e) ∙ whole in
    omega (arith, d, more)

pub room_done : (room left : ℕ) (stmts all : List LStmt) → stmts ≡ [] → left - places_in stmts ≡ room - places_in all → left ≡ room - places_in all
room_done room left stmts all is whole = let e : left - 0 ≡ left = omega arith in sym e ∙ (ap (λ n. left - n) (sym (ap places_in is ∙ places_in-none)) ∙ whole)

-- the limit that a function passes
pub too_many_places : (f : LFunction) → 9999 - places_in f.body ≡ 0 → Some limit.Places ≡ passed_limit f
unfolding places_in
too_many_places f none = let e : nat_lt 10000 (size_of f.body + 2) ≡ true = grind (arith, nat_tests) in
    ap (λ b. if b then Some limit.Places else (if nat_lt 128 (length f.slots) then Some limit.Slots else None)) (sym e)

pub too_many_slots : (f : LFunction) → (9999 - places_in f.body ≡ 0 → ⊥) → 128 < length f.slots → Some limit.Slots ≡ passed_limit f
unfolding places_in
too_many_slots f some many =
    let e : nat_lt 10000 (size_of f.body + 2) ≡ false = grind (arith, nat_tests) in
    let d : nat_lt 128 (length f.slots) ≡ true = grind (arith, nat_tests) in
    ap (λ b. if b then Some limit.Slots else None) (sym d) ∙ ap (λ b. if b then Some limit.Places else (if nat_lt 128 (length f.slots) then Some limit.Slots else None)) (sym e)

pub within_limits : (f : LFunction) → (9999 - places_in f.body ≡ 0 → ⊥) → length f.slots ≤ 128 → None ≡ passed_limit f
unfolding places_in
within_limits f some few =
    let e : nat_lt 10000 (size_of f.body + 2) ≡ false = grind (arith, nat_tests) in
    let d : nat_lt 128 (length f.slots) ≡ false = grind (arith, nat_tests) in
    let none : Option LimitKind = None in
    ap (λ b. if b then Some limit.Slots else none) (sym d) ∙ ap (λ b. if b then Some limit.Places else (if nat_lt 128 (length f.slots) then Some limit.Slots else None)) (sym e)
