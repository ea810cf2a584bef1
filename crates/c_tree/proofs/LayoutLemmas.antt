-- The places of a statement from those of its parts, one equation for each form.
use Rattle.std.proofs.Common.{◌≡◌, ℕ, ◌+◌, List, [], ◌∷◌, ◌++◌, refl}
use Rattle.std.specs.Prelude.{Option}
use Rattle.c_tree.specs.declared.lifted.Dest.{Dest}
use Rattle.c_tree.specs.declared.lifted.LExpr.{LExpr}
use Rattle.c_tree.specs.declared.lifted.LStmt.{LStmt}
use Rattle.c_tree.specs.declared.lifted.LStmt.TheVariants as s
use Rattle.c_tree.specs.declared.place.Act.TheVariants.{Do, Test, EndLoop}
use Rattle.c_tree.specs.declared.place.Follow.TheVariants.{One, Two, Leaves}
use Rattle.c_tree.specs.declared.place.Exits.{Exits}
use Rattle.c_tree.specs.Compute.{literals}
use Rattle.c_tree.specs.Layout.{place, count, enter, layout, size_of, start_of, layout_of}

pub size_of-nil : size_of [] ≡ 0
unfolding literals
size_of-nil = refl

pub size_of-cons : (s : LStmt) (rest : List LStmt) → size_of (s ∷ rest) ≡ count s + size_of rest
unfolding literals
size_of-cons s rest = refl

pub count-Assign : (to : Dest) (e : LExpr) → count (s.Assign to e) ≡ 1
unfolding literals
count-Assign to e = refl

pub count-New : (slot owner : ℕ) → count (s.New slot owner) ≡ 1
unfolding literals
count-New slot owner = refl

pub count-Getc : (slot : ℕ) → count (s.Getc slot) ≡ 1
unfolding literals
count-Getc slot = refl

pub count-Print : (text : List ℕ) (args : List LExpr) → count (s.Print text args) ≡ 1
unfolding literals
count-Print text args = refl

pub count-Free : (e : LExpr) → count (s.Free e) ≡ 1
unfolding literals
count-Free e = refl

pub count-Call : (to : Option ℕ) (f : ℕ) (args : List LExpr) → count (s.Call to f args) ≡ 1
unfolding literals
count-Call to f args = refl

pub count-Spawn : (to : Dest) (f : ℕ) (e : LExpr) → count (s.Spawn to f e) ≡ 1
unfolding literals
count-Spawn to f e = refl

pub count-Join : (e : LExpr) → count (s.Join e) ≡ 1
unfolding literals
count-Join e = refl

pub count-Lock : (m : ℕ) → count (s.Lock m) ≡ 1
unfolding literals
count-Lock m = refl

pub count-Unlock : (m : ℕ) → count (s.Unlock m) ≡ 1
unfolding literals
count-Unlock m = refl

pub count-Return : (value : Option LExpr) → count (s.Return value) ≡ 1
unfolding literals
count-Return value = refl

pub count-If : (e : LExpr) (a b : List LStmt) → count (s.If e a b) ≡ 1 + size_of a + size_of b
unfolding literals
count-If e a b = refl

pub count-Loop : (c : List LStmt) (e : LExpr) (b t : List LStmt) → count (s.Loop c e b t) ≡ size_of c + 1 + size_of b + size_of t + 1
unfolding literals
count-Loop c e b t = refl

pub count-Break : count s.Break ≡ 0
unfolding literals
count-Break = refl

pub count-Continue : count s.Continue ≡ 0
unfolding literals
count-Continue = refl

pub start_of-nil : (x : Exits) (n next : ℕ) → start_of x n next [] ≡ next
unfolding literals
start_of-nil x n next = refl

pub start_of-cons : (x : Exits) (n next : ℕ) (s : LStmt) (rest : List LStmt) → start_of x n next (s ∷ rest) ≡ enter x n s
unfolding literals
start_of-cons x n next s rest = refl

pub enter-Assign : (x : Exits) (n : ℕ) (to : Dest) (e : LExpr) → enter x n (s.Assign to e) ≡ n
unfolding literals
enter-Assign x n to e = refl

pub enter-New : (x : Exits) (n : ℕ) (slot owner : ℕ) → enter x n (s.New slot owner) ≡ n
unfolding literals
enter-New x n slot owner = refl

pub enter-Getc : (x : Exits) (n : ℕ) (slot : ℕ) → enter x n (s.Getc slot) ≡ n
unfolding literals
enter-Getc x n slot = refl

pub enter-Print : (x : Exits) (n : ℕ) (text : List ℕ) (args : List LExpr) → enter x n (s.Print text args) ≡ n
unfolding literals
enter-Print x n text args = refl

pub enter-Free : (x : Exits) (n : ℕ) (e : LExpr) → enter x n (s.Free e) ≡ n
unfolding literals
enter-Free x n e = refl

pub enter-Call : (x : Exits) (n : ℕ) (to : Option ℕ) (f : ℕ) (args : List LExpr) → enter x n (s.Call to f args) ≡ n
unfolding literals
enter-Call x n to f args = refl

pub enter-Spawn : (x : Exits) (n : ℕ) (to : Dest) (f : ℕ) (e : LExpr) → enter x n (s.Spawn to f e) ≡ n
unfolding literals
enter-Spawn x n to f e = refl

pub enter-Join : (x : Exits) (n : ℕ) (e : LExpr) → enter x n (s.Join e) ≡ n
unfolding literals
enter-Join x n e = refl

pub enter-Lock : (x : Exits) (n : ℕ) (m : ℕ) → enter x n (s.Lock m) ≡ n
unfolding literals
enter-Lock x n m = refl

pub enter-Unlock : (x : Exits) (n : ℕ) (m : ℕ) → enter x n (s.Unlock m) ≡ n
unfolding literals
enter-Unlock x n m = refl

pub enter-Return : (x : Exits) (n : ℕ) (value : Option LExpr) → enter x n (s.Return value) ≡ n
unfolding literals
enter-Return x n value = refl

pub enter-If : (x : Exits) (n : ℕ) (e : LExpr) (a b : List LStmt) → enter x n (s.If e a b) ≡ n
unfolding literals
enter-If x n e a b = refl

pub enter-Loop : (x : Exits) (n : ℕ) (c : List LStmt) (e : LExpr) (b t : List LStmt) → enter x n (s.Loop c e b t) ≡ start_of x n (n + size_of c) c
unfolding literals
enter-Loop x n c e b t = refl

pub enter-Break : (x : Exits) (n : ℕ) → enter x n s.Break ≡ x.leave
unfolding literals
enter-Break x n = refl

pub enter-Continue : (x : Exits) (n : ℕ) → enter x n s.Continue ≡ x.again
unfolding literals
enter-Continue x n = refl

pub layout_of-nil : (x : Exits) (n next : ℕ) → layout_of x n next [] ≡ []
unfolding literals
layout_of-nil x n next = refl

pub layout_of-cons : (x : Exits) (n next : ℕ) (s : LStmt) (rest : List LStmt) → layout_of x n next (s ∷ rest) ≡ layout x n (start_of x (n + count s) next rest) s ++ layout_of x (n + count s) next rest
unfolding literals
layout_of-cons x n next s rest = refl

pub layout-Assign : (x : Exits) (n next : ℕ) (to : Dest) (e : LExpr) → layout x n next (s.Assign to e) ≡ place (Do (s.Assign to e)) (One next) ∷ []
unfolding literals
layout-Assign x n next to e = refl

pub layout-New : (x : Exits) (n next : ℕ) (slot owner : ℕ) → layout x n next (s.New slot owner) ≡ place (Do (s.New slot owner)) (One next) ∷ []
unfolding literals
layout-New x n next slot owner = refl

pub layout-Getc : (x : Exits) (n next : ℕ) (slot : ℕ) → layout x n next (s.Getc slot) ≡ place (Do (s.Getc slot)) (One next) ∷ []
unfolding literals
layout-Getc x n next slot = refl

pub layout-Print : (x : Exits) (n next : ℕ) (text : List ℕ) (args : List LExpr) → layout x n next (s.Print text args) ≡ place (Do (s.Print text args)) (One next) ∷ []
unfolding literals
layout-Print x n next text args = refl

pub layout-Free : (x : Exits) (n next : ℕ) (e : LExpr) → layout x n next (s.Free e) ≡ place (Do (s.Free e)) (One next) ∷ []
unfolding literals
layout-Free x n next e = refl

pub layout-Call : (x : Exits) (n next : ℕ) (to : Option ℕ) (f : ℕ) (args : List LExpr) → layout x n next (s.Call to f args) ≡ place (Do (s.Call to f args)) (One next) ∷ []
unfolding literals
layout-Call x n next to f args = refl

pub layout-Spawn : (x : Exits) (n next : ℕ) (to : Dest) (f : ℕ) (e : LExpr) → layout x n next (s.Spawn to f e) ≡ place (Do (s.Spawn to f e)) (One next) ∷ []
unfolding literals
layout-Spawn x n next to f e = refl

pub layout-Join : (x : Exits) (n next : ℕ) (e : LExpr) → layout x n next (s.Join e) ≡ place (Do (s.Join e)) (One next) ∷ []
unfolding literals
layout-Join x n next e = refl

pub layout-Lock : (x : Exits) (n next : ℕ) (m : ℕ) → layout x n next (s.Lock m) ≡ place (Do (s.Lock m)) (One next) ∷ []
unfolding literals
layout-Lock x n next m = refl

pub layout-Unlock : (x : Exits) (n next : ℕ) (m : ℕ) → layout x n next (s.Unlock m) ≡ place (Do (s.Unlock m)) (One next) ∷ []
unfolding literals
layout-Unlock x n next m = refl

pub layout-Return : (x : Exits) (n next : ℕ) (value : Option LExpr) → layout x n next (s.Return value) ≡ place (Do (s.Return value)) Leaves ∷ []
unfolding literals
layout-Return x n next value = refl

pub layout-If : (x : Exits) (n next : ℕ) (e : LExpr) (a b : List LStmt)
    → layout x n next (s.If e a b)
    ≡ place (Test e) (Two (start_of x (n + 1) next a) (start_of x (n + 1 + size_of a) next b)) ∷ (layout_of x (n + 1) next a ++ layout_of x (n + 1 + size_of a) next b)
unfolding literals
layout-If x n next e a b = refl

pub layout-Break : (x : Exits) (n next : ℕ) → layout x n next s.Break ≡ []
unfolding literals
layout-Break x n next = refl

pub layout-Continue : (x : Exits) (n next : ℕ) → layout x n next s.Continue ≡ []
unfolding literals
layout-Continue x n next = refl

-- the exits of a loop's body
abbrev pub within : ℕ → ℕ → Exits
within leave again = record { leave = leave; again = again }

pub layout-Loop : (x : Exits) (n next : ℕ) (c : List LStmt) (e : LExpr) (b t : List LStmt)
    → layout x n next (s.Loop c e b t)
    ≡ (let test = n + size_of c in
    let step = test + 1 + size_of b in
    let end = step + size_of t in
    let again = start_of x step end t in
    layout_of x n test c
    ++ (place (Test e) (Two (start_of (within next again) (test + 1) again b) next)
    ∷ (layout_of (within next again) (test + 1) again b
    ++ (layout_of x step end t ++ place EndLoop (One (start_of x n test c)) ∷ []))))
unfolding literals
layout-Loop x n next c e b t = refl

pub ruleset count_rules = (size_of-nil, size_of-cons, count-Assign, count-New, count-Getc, count-Print, count-Free, count-Call, count-Spawn, count-Join, count-Lock, count-Unlock, count-Return, count-If, count-Loop, count-Break, count-Continue)

pub ruleset enter_rules = (start_of-nil, start_of-cons, enter-Assign, enter-New, enter-Getc, enter-Print, enter-Free, enter-Call, enter-Spawn, enter-Join, enter-Lock, enter-Unlock, enter-Return, enter-If, enter-Loop, enter-Break, enter-Continue)

pub ruleset layout_rules = (layout_of-nil, layout_of-cons, layout-Assign, layout-New, layout-Getc, layout-Print, layout-Free, layout-Call, layout-Spawn, layout-Join, layout-Lock, layout-Unlock, layout-Return, layout-If, layout-Break, layout-Continue, layout-Loop)
