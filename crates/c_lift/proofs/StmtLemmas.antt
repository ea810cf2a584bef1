-- Lifting statements, form by form.
use Rattle.std.proofs.Common.{◌≡◌, ℕ, ◌+◌, pos, List, [], ◌∷◌, ◌++◌, length, drop, Option, Some, None, refl, sym, ap, subst, ◌∙◌, append_assoc}
use Rattle.std.specs.Prelude.{map, reverse}
use Rattle.std.proofs.lemmas.List.{append-nil, reverse-append}
use Rattle.c_tree.specs.Compute.{literals}
use Rattle.c_tree.specs.declared.ty.Ty.{Ty}
use Rattle.c_tree.specs.declared.op.BinOp.{BinOp}
use Rattle.c_tree.specs.declared.lifted.LStmt.{LStmt}
use Rattle.c_tree.specs.declared.lifted.LStmt as t
use Rattle.c_tree.specs.declared.program.Expr.{Expr}
use Rattle.c_tree.specs.declared.program.Stmt.{Stmt}
use Rattle.c_tree.specs.declared.program.StmtKind.{StmtKind}
use Rattle.c_tree.specs.declared.program.StmtKind as s
use Rattle.c_tree.specs.declared.scope.Named.{Named}
use Rattle.c_tree.specs.declared.scope.Meaning.TheVariants.{Local}
use Rattle.c_tree.specs.declared.program.Program.{Program}
use Rattle.c_tree.specs.declared.program.StmtKind.TheVariants.{Declare}
use Rattle.c_tree.specs.Scope.{Scope, locals, after, with_local, names_of}
use Rattle.c_lift.specs.declared.spot.Setting.{Setting}
use Rattle.c_lift.specs.declared.spot.Locals.{Locals}
use Rattle.c_lift.specs.Around.{scope_in, standing}
use Rattle.c_lift.specs.Adding.{Adds}
use Rattle.c_tree.specs.Lifting.{Spot, Lift, at_scope, lift_of, followed_by, take_calls, take_test, start_value, give_back, assign, run, freed, printed, lift_stmt, lift_all, lift_else}
use Rattle.c_lift.specs.Lifts.{Lifts, LiftsAll, LiftsOther, lift_list, lift_other, after_list, locals_list, locals_other, types_of, declared_here}

pub lift-Empty : (w : Spot) (made : List Ty) (at : ℕ) → lift_stmt w made at s.Empty ≡ lift_of [] made
unfolding literals lift_stmt
lift-Empty w made at = refl

pub lift-Block : (w : Spot) (made : List Ty) (at : ℕ) (xs : List Stmt) → lift_stmt w made at (s.Block xs) ≡ lift_list w made xs
unfolding literals lift_stmt
lift-Block w made at xs = refl

pub lift-Declare : (w : Spot) (made : List Ty) (at : ℕ) (u : Ty) (name : List ℕ) (value : Option Expr) →
    lift_stmt w made at (s.Declare u name value) ≡ start_value (at_scope w (with_local w.scope at name u)) made (length w.scope.slots) u value
unfolding literals lift_stmt
lift-Declare w made at u name value = refl

abbrev pub if_lifted : Spot → List Ty → Expr → Stmt → Option Stmt → Lift
if_lifted w made test body other =
    let a = take_calls w made test.kind in
    let yes = lift_stmt w a.made body.at body.kind in
    let no = lift_other (at_scope w (after w.scope body.at body.kind)) yes.made other in
    lift_of (a.calls ++ t.If a.value yes.body no.body ∷ []) no.made

pub lift-If : (w : Spot) (made : List Ty) (at : ℕ) (test : Expr) (body : Stmt) (other : Option Stmt) → lift_stmt w made at (s.If test body other) ≡ if_lifted w made test body other
unfolding literals lift_stmt lift_else
lift-If w made at test body None = refl
lift-If w made at test body (Some x) = refl

abbrev pub while_lifted : Spot → List Ty → Expr → Stmt → Lift
while_lifted w made test body =
    let a = take_calls w made test.kind in
    let inner = lift_stmt w a.made body.at body.kind in
    lift_of (t.Loop a.calls a.value inner.body [] ∷ []) inner.made

pub lift-While : (w : Spot) (made : List Ty) (at : ℕ) (test : Expr) (body : Stmt) → lift_stmt w made at (s.While test body) ≡ while_lifted w made test body
unfolding literals lift_stmt
lift-While w made at test body = refl

abbrev pub for_lifted : Spot → List Ty → List Stmt → Option Expr → Option Stmt → Stmt → Lift
for_lifted w made starts test step body =
    let start = lift_list w made starts in
    let v = at_scope w (after_list w.scope starts) in
    let a = take_test v start.made test in
    let next = lift_other v a.made step in
    let inner = lift_stmt v next.made body.at body.kind in
    lift_of (start.body ++ t.Loop a.calls a.value inner.body next.body ∷ []) inner.made

pub lift-For : (w : Spot) (made : List Ty) (at : ℕ) (starts : List Stmt) (test : Option Expr) (step : Option Stmt) (body : Stmt) →
    lift_stmt w made at (s.For starts test step body) ≡ for_lifted w made starts test step body
unfolding literals lift_stmt lift_else
lift-For w made at starts test None body = refl
lift-For w made at starts test (Some x) body = refl

pub lift-Break : (w : Spot) (made : List Ty) (at : ℕ) → lift_stmt w made at s.Break ≡ lift_of (t.Break ∷ []) made
unfolding literals lift_stmt
lift-Break w made at = refl

pub lift-Continue : (w : Spot) (made : List Ty) (at : ℕ) → lift_stmt w made at s.Continue ≡ lift_of (t.Continue ∷ []) made
unfolding literals lift_stmt
lift-Continue w made at = refl

pub lift-Return : (w : Spot) (made : List Ty) (at : ℕ) (value : Option Expr) → lift_stmt w made at (s.Return value) ≡ give_back w made value
unfolding literals lift_stmt
lift-Return w made at value = refl

pub lift-Assign : (w : Spot) (made : List Ty) (at : ℕ) (x : Expr) (op : Option BinOp) (y : Expr) → lift_stmt w made at (s.Assign x op y) ≡ assign w made x op y
unfolding literals lift_stmt
lift-Assign w made at x op y = refl

pub lift-Run : (w : Spot) (made : List Ty) (at : ℕ) (x : Expr) → lift_stmt w made at (s.Run x) ≡ run w made x.kind
unfolding literals lift_stmt
lift-Run w made at x = refl

pub lift-Free : (w : Spot) (made : List Ty) (at : ℕ) (x : Expr) → lift_stmt w made at (s.Free x) ≡ freed w made x
unfolding literals lift_stmt
lift-Free w made at x = refl

pub lift-Print : (w : Spot) (made : List Ty) (at : ℕ) (text : List ℕ) (args : List Expr) → lift_stmt w made at (s.Print text args) ≡ printed w made text args
unfolding literals lift_stmt
lift-Print w made at text args = refl

-- one statement more, and none
pub list-more : (w : Spot) (made : List Ty) (x : Stmt) (rest : List Stmt) → lift_list w made (x ∷ rest) ≡
    (let a = lift_stmt w made x.at x.kind in followed_by a (lift_list (at_scope w (after w.scope x.at x.kind)) a.made rest))
unfolding literals lift_stmt lift_all
list-more w made x rest = refl

pub list-none : (w : Spot) (made : List Ty) → lift_list w made [] ≡ lift_of [] made
unfolding literals lift_all
list-none w made = refl

pub after-more : (sc : Scope) (x : Stmt) (rest : List Stmt) → after_list sc (x ∷ rest) ≡ after_list (after sc x.at x.kind) rest
unfolding literals
after-more sc x rest = refl

pub after-none : (sc : Scope) → after_list sc [] ≡ sc
unfolding literals
after-none sc = refl

pub locals-more : (x : Stmt) (rest : List Stmt) → locals_list (x ∷ rest) ≡ locals x.kind ++ locals_list rest
unfolding literals
locals-more x rest = refl

pub locals-none : locals_list [] ≡ []
unfolding literals
locals-none = refl

pub locals-Block : (xs : List Stmt) → locals (s.Block xs) ≡ locals_list xs
unfolding literals
locals-Block xs = refl

pub locals-If : (test : Expr) (body : Stmt) (other : Option Stmt) → locals (s.If test body other) ≡ locals body.kind ++ locals_other other
unfolding literals
locals-If test body None = refl
locals-If test body (Some x) = refl

pub locals-While : (test : Expr) (body : Stmt) → locals (s.While test body) ≡ locals body.kind
unfolding literals
locals-While test body = refl

pub locals-For : (starts : List Stmt) (test : Option Expr) (step : Option Stmt) (body : Stmt) → locals (s.For starts test step body) ≡ locals_list starts ++ locals body.kind
unfolding literals
locals-For starts test step body = refl

-- where the next statement stands
pub scope_after : (p : Program) (names names' : List Named) (slots slots' : List Ty) (at : ℕ) (kind : StmtKind) →
    names' ≡ names ++ declared_here (length slots) at kind → slots' ≡ slots ++ types_of (locals kind) → scope_in p names' slots' ≡ after (scope_in p names slots) at kind
scope_after p names names' slots slots' at (Declare u name value) known kept =
    ap (λ ns. scope_in p ns slots') known ∙ ap (λ ns. let sc : Scope = record { names = ns ++ names_of p; program = p; slots = slots' } in sc) (reverse-append names _)
    ∙ ap (λ us. let sc : Scope = record { names = record { at = at; name = name; meaning = Local (length slots) } ∷ (reverse names ++ names_of p); program = p; slots = us } in sc) kept
scope_after p names names' slots slots' at kind known kept =
    ap (λ ns. scope_in p ns slots') (known ∙ append-nil names) ∙ ap (scope_in p names) kept

pub standing_after : (w : Setting) (old new : Locals) (at : ℕ) (kind : StmtKind) →
    new.names.items ≡ old.names.items ++ declared_here (length old.slots.items) at kind → new.slots.items ≡ old.slots.items ++ types_of (locals kind) →
    standing w new ≡ at_scope (standing w old) (after (standing w old).scope at kind)
standing_after w old new at kind known kept =
    ap (at_scope (standing w old)) (scope_after w.file.now old.names.items new.names.items old.slots.items new.slots.items at kind known kept)

-- a statement that declares nothing
pub lifts_plain : {w : Setting} {at : ℕ} {kind : StmtKind} {old : Locals} {made new_made : List Ty} {body new_body : List LStmt} (form : StmtKind) (L : Lift) →
    kind ≡ form → lift_stmt (standing w old) made at form ≡ L → locals form ≡ [] → declared_here (length old.slots.items) at form ≡ [] → Adds L body new_body new_made →
    Lifts w at kind old made body old new_made new_body
lifts_plain {w = w} {at = at} {kind = kind} {old = old} {made = made} {new_made = new_made} {body = body} {new_body = new_body} form L is whole none no_name adds = record {
  adds = subst (λ y. Adds y body new_body new_made) (sym (ap (lift_stmt (standing w old) made at) is ∙ whole)) adds;
  slots_so = sym (append-nil old.slots.items) ∙ ap (λ xs. old.slots.items ++ types_of xs) (sym (ap locals is ∙ none));
  names_so = sym (append-nil old.names.items) ∙ ap (λ xs. old.names.items ++ xs) (sym (ap (declared_here (length old.slots.items) at) is ∙ no_name));
}

-- a declaration
pub lifts_declared : {w : Setting} {old new : Locals} {made new_made : List Ty} {body new_body : List LStmt} (at : ℕ) (u : Ty) (name : List ℕ) (value : Option Expr) (slot : ℕ) →
    new.names.items ≡ old.names.items ++ record { at = at; name = name; meaning = Local (length old.slots.items) } ∷ [] → new.slots.items ≡ old.slots.items ++ u ∷ [] → slot ≡ length old.slots.items →
    Adds (start_value (standing w new) made slot u value) body new_body new_made → Lifts w at (s.Declare u name value) old made body new new_made new_body
lifts_declared {w = w} {old = old} {new = new} {made = made} {new_made = new_made} {body = body} {new_body = new_body} at u name value slot known kept first adds = record {
  adds = subst (λ y. Adds y body new_body new_made)
      (ap (λ v. start_value v made slot u value) (standing_after w old new at (s.Declare u name value) known kept)
      ∙ ap (λ n. start_value (at_scope (standing w old) (with_local (standing w old).scope at name u)) made n u value) first ∙ sym (lift-Declare (standing w old) made at u name value)) adds;
  slots_so = kept;
  names_so = known;
}
