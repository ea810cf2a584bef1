-- The locals that statements declare, form by form.
use Rattle.std.proofs.Common.{◌≡◌, ℕ, List, [], ◌∷◌, ◌++◌, Option, Some, None, refl, sym, ap, ◌∙◌, append_assoc}
use Rattle.std.specs.Prelude.{map}
use Rattle.std.proofs.lemmas.List.{map-append, append-nil}
use Rattle.c_tree.specs.Compute.{literals}
use Rattle.c_tree.specs.declared.ty.Ty.{Ty}
use Rattle.c_tree.specs.declared.op.BinOp.{BinOp}
use Rattle.c_tree.specs.declared.program.Expr.{Expr}
use Rattle.c_tree.specs.declared.program.Stmt.{Stmt}
use Rattle.c_tree.specs.declared.program.StmtKind as s
use Rattle.c_tree.specs.declared.lifted.Slot.{Slot}
use Rattle.c_tree.specs.declared.program.Field.{Field}
use Rattle.c_tree.specs.declared.program.Function.{Function}
use Rattle.c_tree.specs.declared.program.StmtKind.{StmtKind}
use Rattle.c_tree.specs.Scope.{Variable, locals}
use Rattle.c_tree.specs.Lifting.{body_of, variables_of}
use Rattle.c_lift.specs.Lifts.{locals_list, locals_other}
use Rattle.c_lift.specs.Variables.{as_slot, slots_of, slots_list, slots_other}
use Rattle.c_lift.proofs.StmtLemmas.{locals-more, locals-none, locals-Block, locals-If, locals-While, locals-For}

pub slots_of-Block : (xs : List Stmt) → slots_of (s.Block xs) ≡ slots_list xs
unfolding slots_of slots_list
slots_of-Block xs = ap (λ ys. map as_slot ys) (locals-Block xs)

pub slots_of-Declare : (u : Ty) (name : List ℕ) (value : Option Expr) → slots_of (s.Declare u name value) ≡ record { name = name; ty = u } ∷ []
unfolding slots_of
slots_of-Declare u name value = refl

pub slots_of-If : (test : Expr) (body : Stmt) (other : Option Stmt) → slots_of (s.If test body other) ≡ slots_of body.kind ++ slots_other other
unfolding slots_of slots_other
slots_of-If test body other = ap (λ ys. map as_slot ys) (locals-If test body other) ∙ map-append as_slot (locals body.kind) (locals_other other)

pub slots_of-While : (test : Expr) (body : Stmt) → slots_of (s.While test body) ≡ slots_of body.kind
unfolding slots_of
slots_of-While test body = ap (λ ys. map as_slot ys) (locals-While test body)

pub slots_of-For : (starts : List Stmt) (test : Option Expr) (step : Option Stmt) (body : Stmt) → slots_of (s.For starts test step body) ≡ slots_list starts ++ slots_of body.kind
unfolding slots_of slots_list
slots_of-For starts test step body = ap (λ ys. map as_slot ys) (locals-For starts test step body) ∙ map-append as_slot (locals_list starts) (locals body.kind)

pub slots_of-Empty : slots_of s.Empty ≡ []
unfolding slots_of
slots_of-Empty = refl

pub slots_of-Break : slots_of s.Break ≡ []
unfolding slots_of
slots_of-Break = refl

pub slots_of-Continue : slots_of s.Continue ≡ []
unfolding slots_of
slots_of-Continue = refl

pub slots_of-Return : (value : Option Expr) → slots_of (s.Return value) ≡ []
unfolding slots_of
slots_of-Return value = refl

pub slots_of-Assign : (x : Expr) (op : Option BinOp) (y : Expr) → slots_of (s.Assign x op y) ≡ []
unfolding slots_of
slots_of-Assign x op y = refl

pub slots_of-Run : (x : Expr) → slots_of (s.Run x) ≡ []
unfolding slots_of
slots_of-Run x = refl

pub slots_of-Free : (x : Expr) → slots_of (s.Free x) ≡ []
unfolding slots_of
slots_of-Free x = refl

pub slots_of-Print : (text : List ℕ) (args : List Expr) → slots_of (s.Print text args) ≡ []
unfolding slots_of
slots_of-Print text args = refl

pub slots_list-more : (x : Stmt) (rest : List Stmt) → slots_list (x ∷ rest) ≡ slots_of x.kind ++ slots_list rest
unfolding slots_of slots_list
slots_list-more x rest = ap (λ ys. map as_slot ys) (locals-more x rest) ∙ map-append as_slot (locals x.kind) (locals_list rest)

pub slots_list-none : slots_list [] ≡ []
unfolding slots_list
slots_list-none = ap (λ ys. map as_slot ys) locals-none

pub slots_other-None : slots_other None ≡ []
unfolding slots_other
slots_other-None = refl

pub slots_other-Some : (x : Stmt) → slots_other (Some x) ≡ slots_of x.kind
unfolding slots_of slots_other
slots_other-Some x = refl

pub ruleset slot_rules = (
  slots_of-Block,
  slots_of-Declare,
  slots_of-If,
  slots_of-While,
  slots_of-For,
  slots_of-Empty,
  slots_of-Break,
  slots_of-Continue,
  slots_of-Return,
  slots_of-Assign,
  slots_of-Run,
  slots_of-Free,
  slots_of-Print,
  slots_list-more,
  slots_list-none,
  slots_other-None,
  slots_other-Some,
)

-- a statement that declares nothing
pub no_slots : (xs : List Slot) (kind form : StmtKind) → kind ≡ form → slots_of form ≡ [] → xs ≡ xs ++ slots_of kind
no_slots xs kind form is none = sym (append-nil xs) ∙ ap (λ ys. xs ++ ys) (sym (ap slots_of is ∙ none))

-- two parts, one after the other
pub slots_more : (old mid new all a b : List Slot) → mid ≡ old ++ a → new ≡ mid ++ b → all ≡ a ++ b → new ≡ old ++ all
slots_more old mid new all a b one two is = two ∙ (ap (λ xs. xs ++ b) one ∙ (append_assoc old a b ∙ ap (λ xs. old ++ xs) (sym is)))

-- the slots of those that are left
pub slots_left : (now then' all : List Slot) (left : List Stmt) (x : Stmt) (rest : List Stmt) → left ≡ x ∷ rest → now ++ slots_list left ≡ all → then' ≡ now ++ slots_of x.kind → then' ++ slots_list rest ≡ all
slots_left now then' all left x rest is whole more =
    ap (λ xs. xs ++ slots_list rest) more ∙ (append_assoc now (slots_of x.kind) (slots_list rest) ∙ (ap (λ xs. now ++ xs) (sym (ap slots_list is ∙ slots_list-more x rest)) ∙ whole))

pub slots_done : (now all : List Slot) (left : List Stmt) → left ≡ [] → now ++ slots_list left ≡ all → now ≡ all
slots_done now all left is whole = sym (append-nil now) ∙ (ap (λ xs. now ++ xs) (sym (ap slots_list is ∙ slots_list-none)) ∙ whole)

-- a function's parameters and locals
abbrev pub shown : Field → Variable
shown q = record { name = q.name.it; ty = q.ty }

pub parameters_are : (qs : List Field) → map (λ q. let x : Slot = record { name = q.name.it; ty = q.ty } in x) qs ≡ map as_slot (map shown qs)
parameters_are [] = refl
parameters_are (q ∷ qs) = ap (λ xs. as_slot (shown q) ∷ xs) (parameters_are qs)

pub variables_are : (f : Function) → map (λ q. let x : Slot = record { name = q.name.it; ty = q.ty } in x) f.params ++ slots_list (body_of f.body) ≡ map as_slot (variables_of f)
unfolding slots_list
variables_are f =
    ap (λ xs. xs ++ map as_slot (locals_list (body_of f.body))) (parameters_are f.params) ∙ sym (map-append as_slot (map shown f.params) (locals_list (body_of f.body)))
