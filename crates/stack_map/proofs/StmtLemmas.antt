-- `same_stmt`, form by form.
use Rattle.std.proofs.Common.{◌≡◌, ℕ, List, Option, refl}
use Rattle.std.specs.Prelude.{◌&&◌, false}
use Rattle.c_tree.specs.declared.lifted.Dest.{Dest}
use Rattle.c_tree.specs.declared.lifted.LExpr.{LExpr}
use Rattle.c_tree.specs.declared.lifted.LStmt.{LStmt}
use Rattle.c_tree.specs.declared.lifted.LStmt.TheVariants as s
use Rattle.c_tree.specs.Compute.{literals}
use Rattle.c_tree.specs.Link.{Link, match_at}
use Rattle.c_tree.specs.Same.{same, same_stmt, same_dest, same_list, same_option, same_body, is_assign, is_new, is_getc, is_print, is_free, is_call, is_spawn, is_join, is_lock, is_unlock, is_return, is_break, is_continue}

pub same-Assign : (k : Link) (to : Dest) (v : LExpr) (y : LStmt) → same_stmt k (s.Assign to v) y ≡ is_assign (same_dest k to) (same k v) y
unfolding literals
same-Assign k to v y = refl

pub same-New : (k : Link) (slot owner : ℕ) (y : LStmt) → same_stmt k (s.New slot owner) y ≡ is_new slot (match_at k.structs owner) y
unfolding literals
same-New k slot owner y = refl

pub same-Getc : (k : Link) (slot : ℕ) (y : LStmt) → same_stmt k (s.Getc slot) y ≡ is_getc slot y
unfolding literals
same-Getc k slot y = refl

pub same-Print : (k : Link) (text : List ℕ) (args : List LExpr) (y : LStmt) → same_stmt k (s.Print text args) y ≡ is_print text (same_list k args) y
unfolding literals
same-Print k text args y = refl

pub same-Free : (k : Link) (v : LExpr) (y : LStmt) → same_stmt k (s.Free v) y ≡ is_free (same k v) y
unfolding literals
same-Free k v y = refl

pub same-Call : (k : Link) (to : Option ℕ) (f : ℕ) (args : List LExpr) (y : LStmt) → same_stmt k (s.Call to f args) y ≡ is_call to (match_at k.functions f) (same_list k args) y
unfolding literals
same-Call k to f args y = refl

pub same-Spawn : (k : Link) (to : Dest) (f : ℕ) (v : LExpr) (y : LStmt) → same_stmt k (s.Spawn to f v) y ≡ is_spawn (same_dest k to) (match_at k.functions f) (same k v) y
unfolding literals
same-Spawn k to f v y = refl

pub same-Join : (k : Link) (v : LExpr) (y : LStmt) → same_stmt k (s.Join v) y ≡ is_join (same k v) y
unfolding literals
same-Join k v y = refl

pub same-Lock : (k : Link) (m : ℕ) (y : LStmt) → same_stmt k (s.Lock m) y ≡ is_lock (match_at k.mutexes m) y
unfolding literals
same-Lock k m y = refl

pub same-Unlock : (k : Link) (m : ℕ) (y : LStmt) → same_stmt k (s.Unlock m) y ≡ is_unlock (match_at k.mutexes m) y
unfolding literals
same-Unlock k m y = refl

pub same-Return : (k : Link) (v : Option LExpr) (y : LStmt) → same_stmt k (s.Return v) y ≡ is_return (same_option k v) y
unfolding literals
same-Return k v y = refl

pub same-Break : (k : Link) (y : LStmt) → same_stmt k (s.Break) y ≡ is_break y
unfolding literals
same-Break k y = refl

pub same-Continue : (k : Link) (y : LStmt) → same_stmt k (s.Continue) y ≡ is_continue y
unfolding literals
same-Continue k y = refl

pub same-If-Assign : (k : Link) (test : LExpr) (thens elses : List LStmt) (t : Dest) (v2 : LExpr) → same_stmt k (s.If test thens elses) (s.Assign t v2) ≡ false
unfolding literals
same-If-Assign k test thens elses t v2 = refl

pub same-If-New : (k : Link) (test : LExpr) (thens elses : List LStmt) (i o : ℕ) → same_stmt k (s.If test thens elses) (s.New i o) ≡ false
unfolding literals
same-If-New k test thens elses i o = refl

pub same-If-Getc : (k : Link) (test : LExpr) (thens elses : List LStmt) (i : ℕ) → same_stmt k (s.If test thens elses) (s.Getc i) ≡ false
unfolding literals
same-If-Getc k test thens elses i = refl

pub same-If-Print : (k : Link) (test : LExpr) (thens elses : List LStmt) (t : List ℕ) (xs : List LExpr) → same_stmt k (s.If test thens elses) (s.Print t xs) ≡ false
unfolding literals
same-If-Print k test thens elses t xs = refl

pub same-If-Free : (k : Link) (test : LExpr) (thens elses : List LStmt) (w : LExpr) → same_stmt k (s.If test thens elses) (s.Free w) ≡ false
unfolding literals
same-If-Free k test thens elses w = refl

pub same-If-Call : (k : Link) (test : LExpr) (thens elses : List LStmt) (t : Option ℕ) (g : ℕ) (xs : List LExpr) → same_stmt k (s.If test thens elses) (s.Call t g xs) ≡ false
unfolding literals
same-If-Call k test thens elses t g xs = refl

pub same-If-Spawn : (k : Link) (test : LExpr) (thens elses : List LStmt) (t : Dest) (g : ℕ) (w : LExpr) → same_stmt k (s.If test thens elses) (s.Spawn t g w) ≡ false
unfolding literals
same-If-Spawn k test thens elses t g w = refl

pub same-If-Join : (k : Link) (test : LExpr) (thens elses : List LStmt) (w : LExpr) → same_stmt k (s.If test thens elses) (s.Join w) ≡ false
unfolding literals
same-If-Join k test thens elses w = refl

pub same-If-Lock : (k : Link) (test : LExpr) (thens elses : List LStmt) (n : ℕ) → same_stmt k (s.If test thens elses) (s.Lock n) ≡ false
unfolding literals
same-If-Lock k test thens elses n = refl

pub same-If-Unlock : (k : Link) (test : LExpr) (thens elses : List LStmt) (n : ℕ) → same_stmt k (s.If test thens elses) (s.Unlock n) ≡ false
unfolding literals
same-If-Unlock k test thens elses n = refl

pub same-If-Return : (k : Link) (test : LExpr) (thens elses : List LStmt) (w : Option LExpr) → same_stmt k (s.If test thens elses) (s.Return w) ≡ false
unfolding literals
same-If-Return k test thens elses w = refl

pub same-If-If : (k : Link) (test : LExpr) (thens elses : List LStmt) (t2 : LExpr) (y n : List LStmt) → same_stmt k (s.If test thens elses) (s.If t2 y n) ≡ same k test t2 && same_body k thens y && same_body k elses n
unfolding literals
same-If-If k test thens elses t2 y n = refl

pub same-If-Loop : (k : Link) (test : LExpr) (thens elses : List LStmt) (c2 : List LStmt) (t2 : LExpr) (b2 n2 : List LStmt) → same_stmt k (s.If test thens elses) (s.Loop c2 t2 b2 n2) ≡ false
unfolding literals
same-If-Loop k test thens elses c2 t2 b2 n2 = refl

pub same-If-Break : (k : Link) (test : LExpr) (thens elses : List LStmt) → same_stmt k (s.If test thens elses) (s.Break) ≡ false
unfolding literals
same-If-Break k test thens elses = refl

pub same-If-Continue : (k : Link) (test : LExpr) (thens elses : List LStmt) → same_stmt k (s.If test thens elses) (s.Continue) ≡ false
unfolding literals
same-If-Continue k test thens elses = refl

pub same-Loop-Assign : (k : Link) (calls : List LStmt) (test : LExpr) (body step : List LStmt) (t : Dest) (v2 : LExpr) → same_stmt k (s.Loop calls test body step) (s.Assign t v2) ≡ false
unfolding literals
same-Loop-Assign k calls test body step t v2 = refl

pub same-Loop-New : (k : Link) (calls : List LStmt) (test : LExpr) (body step : List LStmt) (i o : ℕ) → same_stmt k (s.Loop calls test body step) (s.New i o) ≡ false
unfolding literals
same-Loop-New k calls test body step i o = refl

pub same-Loop-Getc : (k : Link) (calls : List LStmt) (test : LExpr) (body step : List LStmt) (i : ℕ) → same_stmt k (s.Loop calls test body step) (s.Getc i) ≡ false
unfolding literals
same-Loop-Getc k calls test body step i = refl

pub same-Loop-Print : (k : Link) (calls : List LStmt) (test : LExpr) (body step : List LStmt) (t : List ℕ) (xs : List LExpr) → same_stmt k (s.Loop calls test body step) (s.Print t xs) ≡ false
unfolding literals
same-Loop-Print k calls test body step t xs = refl

pub same-Loop-Free : (k : Link) (calls : List LStmt) (test : LExpr) (body step : List LStmt) (w : LExpr) → same_stmt k (s.Loop calls test body step) (s.Free w) ≡ false
unfolding literals
same-Loop-Free k calls test body step w = refl

pub same-Loop-Call : (k : Link) (calls : List LStmt) (test : LExpr) (body step : List LStmt) (t : Option ℕ) (g : ℕ) (xs : List LExpr) → same_stmt k (s.Loop calls test body step) (s.Call t g xs) ≡ false
unfolding literals
same-Loop-Call k calls test body step t g xs = refl

pub same-Loop-Spawn : (k : Link) (calls : List LStmt) (test : LExpr) (body step : List LStmt) (t : Dest) (g : ℕ) (w : LExpr) → same_stmt k (s.Loop calls test body step) (s.Spawn t g w) ≡ false
unfolding literals
same-Loop-Spawn k calls test body step t g w = refl

pub same-Loop-Join : (k : Link) (calls : List LStmt) (test : LExpr) (body step : List LStmt) (w : LExpr) → same_stmt k (s.Loop calls test body step) (s.Join w) ≡ false
unfolding literals
same-Loop-Join k calls test body step w = refl

pub same-Loop-Lock : (k : Link) (calls : List LStmt) (test : LExpr) (body step : List LStmt) (n : ℕ) → same_stmt k (s.Loop calls test body step) (s.Lock n) ≡ false
unfolding literals
same-Loop-Lock k calls test body step n = refl

pub same-Loop-Unlock : (k : Link) (calls : List LStmt) (test : LExpr) (body step : List LStmt) (n : ℕ) → same_stmt k (s.Loop calls test body step) (s.Unlock n) ≡ false
unfolding literals
same-Loop-Unlock k calls test body step n = refl

pub same-Loop-Return : (k : Link) (calls : List LStmt) (test : LExpr) (body step : List LStmt) (w : Option LExpr) → same_stmt k (s.Loop calls test body step) (s.Return w) ≡ false
unfolding literals
same-Loop-Return k calls test body step w = refl

pub same-Loop-If : (k : Link) (calls : List LStmt) (test : LExpr) (body step : List LStmt) (t2 : LExpr) (y n : List LStmt) → same_stmt k (s.Loop calls test body step) (s.If t2 y n) ≡ false
unfolding literals
same-Loop-If k calls test body step t2 y n = refl

pub same-Loop-Loop : (k : Link) (calls : List LStmt) (test : LExpr) (body step : List LStmt) (c2 : List LStmt) (t2 : LExpr) (b2 n2 : List LStmt) → same_stmt k (s.Loop calls test body step) (s.Loop c2 t2 b2 n2) ≡ same_body k calls c2 && same k test t2 && same_body k body b2 && same_body k step n2
unfolding literals
same-Loop-Loop k calls test body step c2 t2 b2 n2 = refl

pub same-Loop-Break : (k : Link) (calls : List LStmt) (test : LExpr) (body step : List LStmt) → same_stmt k (s.Loop calls test body step) (s.Break) ≡ false
unfolding literals
same-Loop-Break k calls test body step = refl

pub same-Loop-Continue : (k : Link) (calls : List LStmt) (test : LExpr) (body step : List LStmt) → same_stmt k (s.Loop calls test body step) (s.Continue) ≡ false
unfolding literals
same-Loop-Continue k calls test body step = refl

pub ruleset stmt_rules = (same-Assign, same-New, same-Getc, same-Print, same-Free, same-Call, same-Spawn, same-Join, same-Lock, same-Unlock, same-Return, same-Break, same-Continue, same-If-Assign, same-If-New, same-If-Getc, same-If-Print, same-If-Free, same-If-Call, same-If-Spawn, same-If-Join, same-If-Lock, same-If-Unlock, same-If-Return, same-If-If, same-If-Loop, same-If-Break, same-If-Continue, same-Loop-Assign, same-Loop-New, same-Loop-Getc, same-Loop-Print, same-Loop-Free, same-Loop-Call, same-Loop-Spawn, same-Loop-Join, same-Loop-Lock, same-Loop-Unlock, same-Loop-Return, same-Loop-If, same-Loop-Loop, same-Loop-Break, same-Loop-Continue)
