-- The names and the slots after statements.
use Rattle.std.proofs.Common.{◌≡◌, ℕ, suc, ◌+◌, ◌-◌, ◌≤◌, ◌∙◌, arith, Bool, List, [], ◌∷◌, ◌++◌, length, map, take, drop, Option, Some, None, refl, sym, ap, subst, append_assoc, length-append}
use Rattle.std.proofs.lemmas.List.{append-nil, map-append, drop_at, take_at}
use Rattle.c_tree.specs.Compute.{literals}
use Rattle.c_tree.specs.declared.ty.Ty.{Ty}
use Rattle.c_tree.specs.declared.op.BinOp.{BinOp}
use Rattle.c_tree.specs.declared.scope.Named.{Named}
use Rattle.c_tree.specs.declared.scope.Meaning.TheVariants as m
use Rattle.c_tree.specs.declared.program.Program.{Program}
use Rattle.c_tree.specs.declared.program.Expr.{Expr}
use Rattle.c_tree.specs.declared.program.Stmt.{Stmt}
use Rattle.c_tree.specs.declared.program.StmtKind.{StmtKind}
use Rattle.c_tree.specs.declared.program.StmtKind.TheBlock.{hidden-the_row-Stmt-0 as row_of}
use Rattle.c_tree.specs.declared.program.StmtKind.TheVariants as s
use Rattle.c_tree.specs.Scope.{Variable, locals, locals_of}
use Rattle.c_tree.specs.Typing.{next, next_all}
use Rattle.c_check.specs.Inner.{Inner, declares, entered, around, left, cut}
use Rattle.c_check.specs.Statements.{stand, passed, all_passed, if_passed}

-- after declarations of these locals, of which some names may still be in use
pub record IsWithin (old new : Inner) (vars : List Variable) : Type 0 where
  pub added : List Named
  pub names : new.names ≡ added ++ old.names
  pub slots : new.slots ≡ old.slots ++ map (λ x. x.ty) vars

abbrev pub grown : Inner → List Variable → Inner
grown l vars = record { names = l.names; block = l.block; slots = l.slots ++ map (λ x. x.ty) vars }

pub within_passed : (l : Inner) (at : ℕ) (kind : StmtKind) → IsWithin l (passed l at kind) (locals kind)
unfolding passed
within_passed l at s.Empty = record { added = []; names = refl; slots = refl }
within_passed l at (s.Block' _ body) = record { added = []; names = refl; slots = refl }
within_passed l at (s.Declare t name value) = record { added = record { at = at; name = name; meaning = m.Local (length l.slots) } ∷ []; names = refl; slots = refl }
within_passed l at (s.If' test _ body other) = record { added = []; names = refl; slots = refl }
within_passed l at (s.While' test _ body) = record { added = []; names = refl; slots = refl }
within_passed l at (s.For' _ starts test step _ body) = record { added = []; names = refl; slots = refl }
within_passed l at s.Break = record { added = []; names = refl; slots = refl }
within_passed l at s.Continue = record { added = []; names = refl; slots = refl }
within_passed l at (s.Return value) = record { added = []; names = refl; slots = refl }
within_passed l at (s.Assign x op y) = record { added = []; names = refl; slots = refl }
within_passed l at (s.Run x) = record { added = []; names = refl; slots = refl }
within_passed l at (s.Free x) = record { added = []; names = refl; slots = refl }
within_passed l at (s.Print text args) = record { added = []; names = refl; slots = refl }

pub within_trans : (a b c : Inner) (vs ws : List Variable) → IsWithin a b vs → IsWithin b c ws → IsWithin a c (vs ++ ws)
within_trans a b c vs ws p q = record {
  added = q.added ++ p.added;
  names = q.names ∙ (ap (λ z. q.added ++ z) p.names ∙ sym (append_assoc q.added p.added a.names));
  slots = q.slots ∙ (ap (λ z. z ++ map (λ x. x.ty) ws) p.slots ∙ (append_assoc a.slots (map (λ x. x.ty) vs) (map (λ x. x.ty) ws) ∙ ap (λ z. a.slots ++ z) (sym (map-append (λ x. x.ty) vs ws))));
}

pub within_all : (l : Inner) (xs : List Stmt) → IsWithin l (all_passed l xs) (locals_of (row_of xs))
unfolding all_passed literals
within_all l [] = record { added = []; names = refl; slots = sym (append-nil l.slots) }
within_all l (x ∷ xs) = within_trans l (passed l x.at x.kind) (all_passed (passed l x.at x.kind) xs) (locals x.kind) (locals_of (row_of xs)) (within_passed l x.at x.kind) (within_all (passed l x.at x.kind) xs)

pub longer : (old new : Inner) (vars : List Variable) → IsWithin old new vars → length old.names ≤ length new.names
longer old new vars w = let e = ap length w.names ∙ length-append w.added old.names in omega (arith, e)

pub left-within : (old new : Inner) (vars : List Variable) → IsWithin old new vars → left (length old.names) old.block new ≡ grown old vars
unfolding left
left-within old new vars w =
    let n = ap length w.names ∙ length-append w.added old.names in
    let k : length w.added ≡ length new.names - length old.names = omega (arith, n) in
    ap (λ xs. record { names = xs; block = old.block; slots = new.slots }) (ap (drop (length new.names - length old.names)) w.names ∙ drop_at w.added old.names (length new.names - length old.names) k)
    ∙ ap (λ ts. record { names = old.names; block = old.block; slots = ts }) w.slots

-- in a block that has just begun
pub within_entered : (l new : Inner) (vars : List Variable) → IsWithin (entered l) new vars → IsWithin l new vars
within_entered l new vars w = record { added = w.added; names = w.names; slots = w.slots }

-- form by form
module _ (l : Inner) (at : ℕ) where
  pub passed-Declare : (t : Ty) (name : List ℕ) (value : Option Expr) → passed l at (s.Declare t name value) ≡ declares l at name t
  unfolding passed
  passed-Declare t name value = refl

  pub none_more : grown l [] ≡ l
  none_more = ap (λ z. record { names = l.names; block = l.block; slots = z }) (append-nil l.slots)

  pub passed-Empty : passed l at s.Empty ≡ l
  unfolding passed
  passed-Empty = none_more

  pub passed-Break : passed l at s.Break ≡ l
  unfolding passed
  passed-Break = none_more

  pub passed-Continue : passed l at s.Continue ≡ l
  unfolding passed
  passed-Continue = none_more

  pub passed-Return : (value : Option Expr) → passed l at (s.Return value) ≡ l
  unfolding passed
  passed-Return value = none_more

  pub passed-Assign : (x y : Expr) (op : Option BinOp) → passed l at (s.Assign x op y) ≡ l
  unfolding passed
  passed-Assign x y op = none_more

  pub passed-Run : (x : Expr) → passed l at (s.Run x) ≡ l
  unfolding passed
  passed-Run x = none_more

  pub passed-Free : (x : Expr) → passed l at (s.Free x) ≡ l
  unfolding passed
  passed-Free x = none_more

  pub passed-Print : (text : List ℕ) (args : List Expr) → passed l at (s.Print text args) ≡ l
  unfolding passed
  passed-Print text args = none_more

  pub passed-Block : (xs : List Stmt) → passed l at (s.Block xs) ≡ left (length l.names) l.block (all_passed (entered l) xs)
  unfolding passed literals
  passed-Block xs =
      sym (left-within l (all_passed (entered l) xs) (locals_of (row_of xs)) (within_entered l (all_passed (entered l) xs) (locals_of (row_of xs)) (within_all (entered l) xs)))

  pub passed-If : (test : Expr) (body : Stmt) (other : Option Stmt) → passed l at (s.If test body other) ≡ left (length l.names) l.block (if_passed (passed l body.at body.kind) other)
  unfolding passed if_passed literals
  passed-If test body None =
      ap (λ vs. grown l vs) (append-nil (locals body.kind)) ∙ sym (left-within l (passed l body.at body.kind) (locals body.kind) (within_passed l body.at body.kind))
  passed-If test body (Some x) =
      let a = passed l body.at body.kind in
      sym (left-within l (passed a x.at x.kind) (locals body.kind ++ locals x.kind)
      (within_trans l a (passed a x.at x.kind) (locals body.kind) (locals x.kind) (within_passed l body.at body.kind) (within_passed a x.at x.kind)))

  pub passed-While : (test : Expr) (body : Stmt) → passed l at (s.While test body) ≡ left (length l.names) l.block (passed l body.at body.kind)
  unfolding passed literals
  passed-While test body = sym (left-within l (passed l body.at body.kind) (locals body.kind) (within_passed l body.at body.kind))

  pub passed-For : (starts : List Stmt) (test : Option Expr) (step : Option Stmt) (body : Stmt) →
      passed l at (s.For starts test step body) ≡ left (length l.names) l.block (passed (all_passed (entered l) starts) body.at body.kind)
  unfolding passed literals
  passed-For starts test step body =
      let a = all_passed (entered l) starts in
      sym (left-within l (passed a body.at body.kind) (locals_of (row_of starts) ++ locals body.kind)
      (within_trans l a (passed a body.at body.kind) (locals_of (row_of starts)) (locals body.kind)
      (within_entered l a (locals_of (row_of starts)) (within_all (entered l) starts)) (within_passed a body.at body.kind)))

-- no name in use before is lost
pub longer-passed : (l : Inner) (at : ℕ) (kind : StmtKind) → length l.names ≤ length (passed l at kind).names
longer-passed l at kind = longer l (passed l at kind) (locals kind) (within_passed l at kind)

pub longer-all_passed : (l : Inner) (xs : List Stmt) → length l.names ≤ length (all_passed l xs).names
longer-all_passed l xs = longer l (all_passed l xs) (locals_of (row_of xs)) (within_all l xs)

pub longer-if_passed : (l : Inner) (other : Option Stmt) → length l.names ≤ length (if_passed l other).names
unfolding if_passed
longer-if_passed l None = omega arith
longer-if_passed l (Some x) = longer-passed l x.at x.kind

-- what is taken back after a statement
pub cut-within : (l new : Inner) (vars : List Variable) → IsWithin l new vars → cut (length l.slots) (left (length l.names) l.block new) ≡ l
unfolding cut
cut-within l new vars w =
    ap (cut (length l.slots)) (left-within l new vars w) ∙ ap (λ ts. record { names = l.names; block = l.block; slots = ts }) (take_at l.slots (map (λ x. x.ty) vars) (length l.slots) refl)

pub cut-left : (l : Inner) (other : Option Stmt) → cut (length l.slots) (left (length l.names) l.block (if_passed l other)) ≡ l
unfolding if_passed
cut-left l None = cut-within l l [] (record { added = []; names = refl; slots = sym (append-nil l.slots) })
cut-left l (Some x) = cut-within l (passed l x.at x.kind) (locals x.kind) (within_passed l x.at x.kind)

-- the stand of the next statement
pub next-stand : (p : Program) (l : Inner) (ret : Ty) (in_loop : Bool) (at : ℕ) (kind : StmtKind) → next (stand p l ret in_loop) at kind ≡ stand p (passed l at kind) ret in_loop
unfolding passed
next-stand p l ret in_loop at s.Empty = refl
next-stand p l ret in_loop at (s.Block' _ body) = refl
next-stand p l ret in_loop at (s.Declare t name value) = refl
next-stand p l ret in_loop at (s.If' test _ body other) = refl
next-stand p l ret in_loop at (s.While' test _ body) = refl
next-stand p l ret in_loop at (s.For' _ starts test step _ body) = refl
next-stand p l ret in_loop at s.Break = refl
next-stand p l ret in_loop at s.Continue = refl
next-stand p l ret in_loop at (s.Return value) = refl
next-stand p l ret in_loop at (s.Assign x op y) = refl
next-stand p l ret in_loop at (s.Run x) = refl
next-stand p l ret in_loop at (s.Free x) = refl
next-stand p l ret in_loop at (s.Print text args) = refl

pub next_all-stand : (p : Program) (l : Inner) (ret : Ty) (in_loop : Bool) (xs : List Stmt) → next_all (stand p l ret in_loop) (row_of xs) ≡ stand p (all_passed l xs) ret in_loop
unfolding all_passed literals
next_all-stand p l ret in_loop [] = refl
next_all-stand p l ret in_loop (x ∷ xs) =
    ap (λ st. next_all st (row_of xs)) (next-stand p l ret in_loop x.at x.kind) ∙ next_all-stand p (passed l x.at x.kind) ret in_loop xs
