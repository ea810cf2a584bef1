-- `same`, constructor by constructor.
use Rattle.std.proofs.Common.{◌≡◌, ℕ, refl}
use Rattle.std.specs.Prelude.{ℤ, ◌&&◌, false}
use Rattle.c_tree.specs.declared.op.UnOp.{UnOp}
use Rattle.c_tree.specs.declared.op.BinOp.{BinOp}
use Rattle.c_tree.specs.declared.lifted.LExpr.{LExpr}
use Rattle.c_tree.specs.declared.lifted.LExpr.TheVariants as e
use Rattle.c_tree.specs.Scope.{is_same_name}
use Rattle.c_tree.specs.Compute.{literals}
use Rattle.c_tree.specs.Names.{is_number}
use Rattle.c_tree.specs.Link.{Link, match_at}
use Rattle.c_tree.specs.Operators.{un_text, bin_text}
use Rattle.c_tree.specs.Same.{same, is_num, is_null, is_slot, is_own, is_global, is_member}

pub same-Num : (k : Link) (n : ℤ) (y : LExpr) → same k (e.Num n) y ≡ is_num n y
unfolding literals
same-Num k n y = refl

pub same-Null : (k : Link) (y : LExpr) → same k (e.Null) y ≡ is_null y
unfolding literals
same-Null k y = refl

pub same-Slot : (k : Link) (i : ℕ) (y : LExpr) → same k (e.Slot i) y ≡ is_slot i y
unfolding literals
same-Slot k i y = refl

pub same-Global : (k : Link) (g : ℕ) (y : LExpr) → same k (e.Global g) y ≡ is_global (match_at k.globals g) y
unfolding literals
same-Global k g y = refl

pub same-Own : (k : Link) (i : ℕ) (y : LExpr) → same k (e.Own i) y ≡ is_own i y
unfolding literals
same-Own k i y = refl

pub same-Elem-Num : (k : Link) (g : ℕ) (i : LExpr) (m : ℤ) → same k (e.Elem g i) (e.Num m) ≡ false
unfolding literals
same-Elem-Num k g i m = refl

pub same-Elem-Null : (k : Link) (g : ℕ) (i : LExpr) → same k (e.Elem g i) (e.Null) ≡ false
unfolding literals
same-Elem-Null k g i = refl

pub same-Elem-Slot : (k : Link) (g : ℕ) (i : LExpr) (j : ℕ) → same k (e.Elem g i) (e.Slot j) ≡ false
unfolding literals
same-Elem-Slot k g i j = refl

pub same-Elem-Global : (k : Link) (g : ℕ) (i : LExpr) (h : ℕ) → same k (e.Elem g i) (e.Global h) ≡ false
unfolding literals
same-Elem-Global k g i h = refl

pub same-Elem-Own : (k : Link) (g : ℕ) (i : LExpr) (j : ℕ) → same k (e.Elem g i) (e.Own j) ≡ false
unfolding literals
same-Elem-Own k g i j = refl

pub same-Elem-Elem : (k : Link) (g : ℕ) (i : LExpr) (h : ℕ) (j : LExpr) → same k (e.Elem g i) (e.Elem h j) ≡ is_number (match_at k.globals g) h && same k i j
unfolding literals
same-Elem-Elem k g i h j = refl

pub same-Elem-Field : (k : Link) (g : ℕ) (i : LExpr) (q : LExpr) (u v : ℕ) → same k (e.Elem g i) (e.Field q u v) ≡ false
unfolding literals
same-Elem-Field k g i q u v = refl

pub same-Elem-Un : (k : Link) (g : ℕ) (i : LExpr) (o : UnOp) (c : LExpr) → same k (e.Elem g i) (e.Un o c) ≡ false
unfolding literals
same-Elem-Un k g i o c = refl

pub same-Elem-Bin : (k : Link) (g : ℕ) (i : LExpr) (o : BinOp) (c d : LExpr) → same k (e.Elem g i) (e.Bin o c d) ≡ false
unfolding literals
same-Elem-Bin k g i o c d = refl

pub same-Field-Num : (k : Link) (p : LExpr) (w f : ℕ) (m : ℤ) → same k (e.Field p w f) (e.Num m) ≡ false
unfolding literals
same-Field-Num k p w f m = refl

pub same-Field-Null : (k : Link) (p : LExpr) (w f : ℕ) → same k (e.Field p w f) (e.Null) ≡ false
unfolding literals
same-Field-Null k p w f = refl

pub same-Field-Slot : (k : Link) (p : LExpr) (w f : ℕ) (j : ℕ) → same k (e.Field p w f) (e.Slot j) ≡ false
unfolding literals
same-Field-Slot k p w f j = refl

pub same-Field-Global : (k : Link) (p : LExpr) (w f : ℕ) (h : ℕ) → same k (e.Field p w f) (e.Global h) ≡ false
unfolding literals
same-Field-Global k p w f h = refl

pub same-Field-Own : (k : Link) (p : LExpr) (w f : ℕ) (j : ℕ) → same k (e.Field p w f) (e.Own j) ≡ false
unfolding literals
same-Field-Own k p w f j = refl

pub same-Field-Elem : (k : Link) (p : LExpr) (w f : ℕ) (h : ℕ) (j : LExpr) → same k (e.Field p w f) (e.Elem h j) ≡ false
unfolding literals
same-Field-Elem k p w f h j = refl

pub same-Field-Field : (k : Link) (p : LExpr) (w f : ℕ) (q : LExpr) (u v : ℕ) → same k (e.Field p w f) (e.Field q u v) ≡ same k p q && is_member k w f u v
unfolding literals
same-Field-Field k p w f q u v = refl

pub same-Field-Un : (k : Link) (p : LExpr) (w f : ℕ) (o : UnOp) (c : LExpr) → same k (e.Field p w f) (e.Un o c) ≡ false
unfolding literals
same-Field-Un k p w f o c = refl

pub same-Field-Bin : (k : Link) (p : LExpr) (w f : ℕ) (o : BinOp) (c d : LExpr) → same k (e.Field p w f) (e.Bin o c d) ≡ false
unfolding literals
same-Field-Bin k p w f o c d = refl

pub same-Un-Num : (k : Link) (op : UnOp) (a : LExpr) (m : ℤ) → same k (e.Un op a) (e.Num m) ≡ false
unfolding literals
same-Un-Num k op a m = refl

pub same-Un-Null : (k : Link) (op : UnOp) (a : LExpr) → same k (e.Un op a) (e.Null) ≡ false
unfolding literals
same-Un-Null k op a = refl

pub same-Un-Slot : (k : Link) (op : UnOp) (a : LExpr) (j : ℕ) → same k (e.Un op a) (e.Slot j) ≡ false
unfolding literals
same-Un-Slot k op a j = refl

pub same-Un-Global : (k : Link) (op : UnOp) (a : LExpr) (h : ℕ) → same k (e.Un op a) (e.Global h) ≡ false
unfolding literals
same-Un-Global k op a h = refl

pub same-Un-Own : (k : Link) (op : UnOp) (a : LExpr) (j : ℕ) → same k (e.Un op a) (e.Own j) ≡ false
unfolding literals
same-Un-Own k op a j = refl

pub same-Un-Elem : (k : Link) (op : UnOp) (a : LExpr) (h : ℕ) (j : LExpr) → same k (e.Un op a) (e.Elem h j) ≡ false
unfolding literals
same-Un-Elem k op a h j = refl

pub same-Un-Field : (k : Link) (op : UnOp) (a : LExpr) (q : LExpr) (u v : ℕ) → same k (e.Un op a) (e.Field q u v) ≡ false
unfolding literals
same-Un-Field k op a q u v = refl

pub same-Un-Un : (k : Link) (op : UnOp) (a : LExpr) (o : UnOp) (c : LExpr) → same k (e.Un op a) (e.Un o c) ≡ is_same_name (un_text op) (un_text o) && same k a c
unfolding literals
same-Un-Un k op a o c = refl

pub same-Un-Bin : (k : Link) (op : UnOp) (a : LExpr) (o : BinOp) (c d : LExpr) → same k (e.Un op a) (e.Bin o c d) ≡ false
unfolding literals
same-Un-Bin k op a o c d = refl

pub same-Bin-Num : (k : Link) (op : BinOp) (a b : LExpr) (m : ℤ) → same k (e.Bin op a b) (e.Num m) ≡ false
unfolding literals
same-Bin-Num k op a b m = refl

pub same-Bin-Null : (k : Link) (op : BinOp) (a b : LExpr) → same k (e.Bin op a b) (e.Null) ≡ false
unfolding literals
same-Bin-Null k op a b = refl

pub same-Bin-Slot : (k : Link) (op : BinOp) (a b : LExpr) (j : ℕ) → same k (e.Bin op a b) (e.Slot j) ≡ false
unfolding literals
same-Bin-Slot k op a b j = refl

pub same-Bin-Global : (k : Link) (op : BinOp) (a b : LExpr) (h : ℕ) → same k (e.Bin op a b) (e.Global h) ≡ false
unfolding literals
same-Bin-Global k op a b h = refl

pub same-Bin-Own : (k : Link) (op : BinOp) (a b : LExpr) (j : ℕ) → same k (e.Bin op a b) (e.Own j) ≡ false
unfolding literals
same-Bin-Own k op a b j = refl

pub same-Bin-Elem : (k : Link) (op : BinOp) (a b : LExpr) (h : ℕ) (j : LExpr) → same k (e.Bin op a b) (e.Elem h j) ≡ false
unfolding literals
same-Bin-Elem k op a b h j = refl

pub same-Bin-Field : (k : Link) (op : BinOp) (a b : LExpr) (q : LExpr) (u v : ℕ) → same k (e.Bin op a b) (e.Field q u v) ≡ false
unfolding literals
same-Bin-Field k op a b q u v = refl

pub same-Bin-Un : (k : Link) (op : BinOp) (a b : LExpr) (o : UnOp) (c : LExpr) → same k (e.Bin op a b) (e.Un o c) ≡ false
unfolding literals
same-Bin-Un k op a b o c = refl

pub same-Bin-Bin : (k : Link) (op : BinOp) (a b : LExpr) (o : BinOp) (c d : LExpr) → same k (e.Bin op a b) (e.Bin o c d) ≡ is_same_name (bin_text op) (bin_text o) && same k a c && same k b d
unfolding literals
same-Bin-Bin k op a b o c d = refl

pub ruleset same_rules = (same-Num, same-Null, same-Slot, same-Global, same-Own, same-Elem-Num, same-Elem-Null, same-Elem-Slot, same-Elem-Global, same-Elem-Own, same-Elem-Elem, same-Elem-Field, same-Elem-Un, same-Elem-Bin, same-Field-Num, same-Field-Null, same-Field-Slot, same-Field-Global, same-Field-Own, same-Field-Elem, same-Field-Field, same-Field-Un, same-Field-Bin, same-Un-Num, same-Un-Null, same-Un-Slot, same-Un-Global, same-Un-Own, same-Un-Elem, same-Un-Field, same-Un-Un, same-Un-Bin, same-Bin-Num, same-Bin-Null, same-Bin-Slot, same-Bin-Global, same-Bin-Own, same-Bin-Elem, same-Bin-Field, same-Bin-Un, same-Bin-Bin)
