-- Lifting the statements that hold statements.
use Rattle.std.proofs.Common.{◌≡◌, ℕ, ◌+◌, pos, List, [], ◌∷◌, ◌++◌, length, take, drop, Option, Some, None, refl, sym, ap, subst, ◌∙◌, append_assoc}
use Rattle.std.specs.Prelude.{map}
use Rattle.std.proofs.lemmas.List.{append-nil, map-append}
use Rattle.std.proofs.Math.Seq.{take-append_seam}
use Rattle.c_tree.specs.declared.ty.Ty.{Ty}
use Rattle.c_tree.specs.declared.lifted.LExpr.{LExpr}
use Rattle.c_tree.specs.declared.lifted.LStmt.{LStmt}
use Rattle.c_tree.specs.declared.lifted.LStmt as t
use Rattle.c_tree.specs.declared.program.Expr.{Expr}
use Rattle.c_tree.specs.declared.program.Stmt.{Stmt}
use Rattle.c_tree.specs.declared.program.StmtKind.{StmtKind}
use Rattle.c_tree.specs.declared.program.StmtKind as s
use Rattle.c_tree.specs.declared.scope.Named.{Named}
use Rattle.c_tree.specs.Scope.{Scope, Variable, locals, after}
use Rattle.c_tree.specs.Lifting.{Spot, Lift, Taken, at_scope, lift_of, take_calls, take_test, lift_stmt}
use Rattle.c_lift.specs.declared.spot.Setting.{Setting}
use Rattle.c_lift.specs.declared.spot.Locals.{Locals}
use Rattle.c_lift.specs.Around.{scope_in, standing}
use Rattle.c_lift.specs.Taking.{Took}
use Rattle.c_lift.specs.Adding.{Adds}
use Rattle.c_lift.specs.Lifts.{Lifts, LiftsAll, LiftsOther, lift_list, lift_other, after_list, locals_list, locals_other, types_of, declared_here}
use Rattle.c_lift.proofs.StmtLemmas.{if_lifted, while_lifted, for_lifted, lift-Block, lift-If, lift-While, lift-For, list-more, list-none, after-more, after-none, locals-more, locals-none, locals-Block, locals-If, locals-While, locals-For, standing_after}

-- what is left of the names when a block is left
pub left_names : {A : Type 0} (old more mid new : List A) → mid ≡ old ++ more → new ≡ take (length old) mid → new ≡ old ++ []
left_names old more mid new is left = left ∙ (ap (take (length old)) is ∙ (take-append_seam old more ∙ sym (append-nil old)))

pub types-append : (xs ys : List Variable) → types_of (xs ++ ys) ≡ types_of xs ++ types_of ys
types-append xs ys = map-append (λ x. x.ty) xs ys

-- two lists of locals one after the other
pub slots_twice : (old mid new : List Ty) (xs ys all : List Variable) → all ≡ xs ++ ys → mid ≡ old ++ types_of xs → new ≡ mid ++ types_of ys → new ≡ old ++ types_of all
slots_twice old mid new xs ys all is one two =
    two ∙ (ap (λ us. us ++ types_of ys) one ∙ (append_assoc old (types_of xs) (types_of ys) ∙ ap (λ us. old ++ us) (sym (ap types_of is ∙ types-append xs ys))))

-- the lifting of a statement of a form
pub lifts_as : {w : Setting} {at : ℕ} {kind : StmtKind} {old new : Locals} {made new_made : List Ty} {body new_body : List LStmt} (form : StmtKind) →
    kind ≡ form → Lifts w at form old made body new new_made new_body → Lifts w at kind old made body new new_made new_body
lifts_as {w = w} {at = at} {old = old} {new = new} {made = made} {new_made = new_made} {body = body} {new_body = new_body} form is lifts =
    subst (λ k. Lifts w at k old made body new new_made new_body) (sym is) lifts

pub lifts_block : {w : Setting} {old mid new : Locals} {kind : StmtKind} {made new_made : List Ty} {body new_body : List LStmt} (at : ℕ) (xs : List Stmt) →
    kind ≡ s.Block xs → LiftsAll w xs old made body mid new_made new_body →
    new.names.items ≡ take (length old.names.items) mid.names.items → new.slots.items ≡ mid.slots.items → Lifts w at kind old made body new new_made new_body
lifts_block {w = w} {old = old} {mid = mid} {new = new} {kind = kind} {made = made} {new_made = new_made} {body = body} {new_body = new_body} at xs is all names slots = record {
  adds = subst (λ y. Adds y body new_body new_made) (sym (ap (lift_stmt (standing w old) made at) is ∙ lift-Block (standing w old) made at xs)) all.adds;
  slots_so = slots ∙ all.slots_so ∙ ap (λ ys. old.slots.items ++ types_of ys) (sym (ap locals is ∙ locals-Block xs));
  names_so = left_names old.names.items all.more mid.names.items new.names.items all.names_so names ∙ ap (λ ys. old.names.items ++ ys) (sym (ap (declared_here (length old.slots.items) at) is));
}

pub lifts_if : {w : Setting} {old l1 l2 new : Locals} {kind : StmtKind} {v : LExpr} {told : Option Ty} {made made1 made2 made3 : List Ty} {body body1 body2 ys ns : List LStmt}
    (at : ℕ) (test : Expr) (b : Stmt) (other : Option Stmt) → kind ≡ s.If test b other → Took (standing w old) test.kind body made v told body1 made1 →
    Lifts w b.at b.kind old made1 [] l1 made2 ys → LiftsOther w other l1 made2 [] l2 made3 ns →
    new.names.items ≡ take (length old.names.items) l2.names.items → new.slots.items ≡ l2.slots.items → body2 ≡ body1 ++ t.If v ys ns ∷ [] → Lifts w at kind old made body new made3 body2
lifts_if {w = w} {old = old} {l1 = l1} {l2 = l2} {new = new} {kind = kind} {v = v} {made = made} {made1 = made1} {made2 = made2} {made3 = made3} {body = body} {body1 = body1} {body2 = body2} {ys = ys} {ns = ns}
    at test b other is took inner outer names slots added = record {
      adds = subst (λ y. Adds y body body2 made3) (sym (ap (lift_stmt w0 made at) is ∙ lift-If w0 made at test b other)) (record {
        added = added ∙ ap (λ c. c ++ t.If v ys ns ∷ []) took.added ∙ append_assoc body A.calls (t.If v ys ns ∷ []) ∙ ap (λ x. body ++ (A.calls ++ t.If x ys ns ∷ [])) took.left
            ∙ ap (λ x. body ++ (A.calls ++ t.If A.value x ns ∷ [])) (inner.adds.added ∙ ap (λ y. y.body) inner_is) ∙ ap (λ x. body ++ (A.calls ++ t.If A.value Y.body x ∷ [])) (outer.adds.added ∙ ap (λ y. y.body) outer_is);
        all = outer.adds.all ∙ ap (λ y. y.made) outer_is;
      });
      slots_so = slots ∙ slots_twice old.slots.items l1.slots.items l2.slots.items (locals b.kind) (locals_other other) (locals kind) (ap locals is ∙ locals-If test b other) inner.slots_so outer.slots_so;
      names_so = left_names old.names.items (declared_here (length old.slots.items) b.at b.kind ++ outer.more) l2.names.items new.names.items
          (outer.names_so ∙ ap (λ ns. ns ++ outer.more) inner.names_so ∙ append_assoc old.names.items _ outer.more) names
          ∙ ap (λ ys. old.names.items ++ ys) (sym (ap (declared_here (length old.slots.items) at) is));
    } where
      w0 : Spot
      w0 = standing w old

      A : Taken
      A = take_calls w0 made test.kind

      Y : Lift
      Y = lift_stmt w0 A.made b.at b.kind

      inner_is : lift_stmt w0 made1 b.at b.kind ≡ Y
      inner_is = ap (λ m. lift_stmt w0 m b.at b.kind) took.all

      outer_is : lift_other (standing w l1) made2 other ≡ lift_other (at_scope w0 (after w0.scope b.at b.kind)) Y.made other
      outer_is = ap (λ v. lift_other v made2 other) (standing_after w old l1 b.at b.kind inner.names_so inner.slots_so)
          ∙ ap (λ m. lift_other (at_scope w0 (after w0.scope b.at b.kind)) m other) (inner.adds.all ∙ ap (λ y. y.made) inner_is)

pub lifts_while : {w : Setting} {old l1 new : Locals} {kind : StmtKind} {v : LExpr} {made made1 made2 : List Ty} {body body2 calls ys : List LStmt} (at : ℕ) (test : Expr) (b : Stmt) →
    kind ≡ s.While test b → calls ≡ (take_calls (standing w old) made test.kind).calls → v ≡ (take_calls (standing w old) made test.kind).value → made1 ≡ (take_calls (standing w old) made test.kind).made →
    Lifts w b.at b.kind old made1 [] l1 made2 ys → new.names.items ≡ take (length old.names.items) l1.names.items → new.slots.items ≡ l1.slots.items →
    body2 ≡ body ++ t.Loop calls v ys [] ∷ [] → Lifts w at kind old made body new made2 body2
lifts_while {w = w} {old = old} {l1 = l1} {new = new} {kind = kind} {v = v} {made = made} {made1 = made1} {made2 = made2} {body = body} {body2 = body2} {calls = calls} {ys = ys} at test b is calls_is value_is made_is inner names slots added = record {
  adds = subst (λ y. Adds y body body2 made2) (sym (ap (lift_stmt w0 made at) is ∙ lift-While w0 made at test b)) (record {
    added = added ∙ ap (λ c. body ++ t.Loop c v ys [] ∷ []) calls_is ∙ ap (λ x. body ++ t.Loop A.calls x ys [] ∷ []) value_is
        ∙ ap (λ x. body ++ t.Loop A.calls A.value x [] ∷ []) (inner.adds.added ∙ ap (λ y. y.body) inner_is);
    all = inner.adds.all ∙ ap (λ y. y.made) inner_is;
  });
  slots_so = slots ∙ inner.slots_so ∙ ap (λ ys. old.slots.items ++ types_of ys) (sym (ap locals is ∙ locals-While test b));
  names_so = left_names old.names.items (declared_here (length old.slots.items) b.at b.kind) l1.names.items new.names.items inner.names_so names
      ∙ ap (λ ys. old.names.items ++ ys) (sym (ap (declared_here (length old.slots.items) at) is));
} where
  w0 : Spot
  w0 = standing w old

  A : Taken
  A = take_calls w0 made test.kind

  inner_is : lift_stmt w0 made1 b.at b.kind ≡ lift_stmt w0 A.made b.at b.kind
  inner_is = ap (λ m. lift_stmt w0 m b.at b.kind) made_is

pub lifts_for : {w : Setting} {old l1 l2 l3 new : Locals} {kind : StmtKind} {v : LExpr} {made made1 made2 made3 made4 : List Ty} {body body1 body2 calls ss ys : List LStmt}
    (at : ℕ) (starts : List Stmt) (test : Option Expr) (step : Option Stmt) (b : Stmt) →
    kind ≡ s.For starts test step b → LiftsAll w starts old made body l1 made1 body1 →
    calls ≡ (take_test (standing w l1) made1 test).calls → v ≡ (take_test (standing w l1) made1 test).value → made2 ≡ (take_test (standing w l1) made1 test).made →
    Adds (lift_other (standing w l1) made2 step) [] ss made3 → l2.names.items ≡ l1.names.items → l2.slots.items ≡ l1.slots.items →
    Lifts w b.at b.kind l2 made3 [] l3 made4 ys → new.names.items ≡ take (length old.names.items) l3.names.items → new.slots.items ≡ l3.slots.items →
    body2 ≡ body1 ++ t.Loop calls v ys ss ∷ [] → Lifts w at kind old made body new made4 body2
lifts_for {w = w} {old = old} {l1 = l1} {l2 = l2} {l3 = l3} {new = new} {kind = kind} {v = v} {made = made} {made1 = made1} {made2 = made2} {made3 = made3} {made4 = made4}
    {body = body} {body1 = body1} {body2 = body2} {calls = calls} {ss = ss} {ys = ys} at starts test step b is start calls_is value_is made_is next same_names same_slots inner names slots added = record {
      adds = subst (λ y. Adds y body body2 made4) (sym (ap (lift_stmt w0 made at) is ∙ lift-For w0 made at starts test step b)) (record {
        added = added ∙ ap (λ c. c ++ t.Loop calls v ys ss ∷ []) start.adds.added ∙ append_assoc body S.body (t.Loop calls v ys ss ∷ [])
            ∙ ap (λ c. body ++ (S.body ++ t.Loop c v ys ss ∷ [])) (calls_is ∙ ap (λ y. y.calls) test_is) ∙ ap (λ x. body ++ (S.body ++ t.Loop A.calls x ys ss ∷ [])) (value_is ∙ ap (λ y. y.value) test_is)
            ∙ ap (λ x. body ++ (S.body ++ t.Loop A.calls A.value x ss ∷ [])) (inner.adds.added ∙ ap (λ y. y.body) inner_is)
            ∙ ap (λ x. body ++ (S.body ++ t.Loop A.calls A.value B.body x ∷ [])) (next.added ∙ ap (λ y. y.body) next_is);
        all = inner.adds.all ∙ ap (λ y. y.made) inner_is;
      });
      slots_so = slots ∙ slots_twice old.slots.items l1.slots.items l3.slots.items (locals_list starts) (locals b.kind) (locals kind) (ap locals is ∙ locals-For starts test step b) start.slots_so
          (inner.slots_so ∙ ap (λ us. us ++ types_of (locals b.kind)) same_slots);
      names_so = left_names old.names.items (start.more ++ declared_here (length l2.slots.items) b.at b.kind) l3.names.items new.names.items
          (inner.names_so ∙ ap (λ ns. ns ++ declared_here (length l2.slots.items) b.at b.kind) (same_names ∙ start.names_so) ∙ append_assoc old.names.items start.more _) names
          ∙ ap (λ ys. old.names.items ++ ys) (sym (ap (declared_here (length old.slots.items) at) is));
    } where
      w0 : Spot
      w0 = standing w old

      S : Lift
      S = lift_list w0 made starts

      V : Spot
      V = at_scope w0 (after_list w0.scope starts)

      A : Taken
      A = take_test V S.made test

      N : Lift
      N = lift_other V A.made step

      B : Lift
      B = lift_stmt V N.made b.at b.kind

      here : standing w l1 ≡ V
      here = ap (at_scope w0) start.scope_so

      there : standing w l2 ≡ V
      there = ap (λ ns. at_scope w0 (scope_in w0.scope.program ns l2.slots.items)) same_names ∙ ap (λ us. at_scope w0 (scope_in w0.scope.program l1.names.items us)) same_slots ∙ here

      test_is : take_test (standing w l1) made1 test ≡ A
      test_is = ap (λ u. take_test u made1 test) here ∙ ap (λ m. take_test V m test) start.adds.all

      next_is : lift_other (standing w l1) made2 step ≡ N
      next_is = ap (λ u. lift_other u made2 step) here ∙ ap (λ m. lift_other V m step) (made_is ∙ ap (λ y. y.made) test_is)

      inner_is : lift_stmt (standing w l2) made3 b.at b.kind ≡ B
      inner_is = ap (λ u. lift_stmt u made3 b.at b.kind) there ∙ ap (λ m. lift_stmt V m b.at b.kind) (next.all ∙ ap (λ y. y.made) next_is)

-- the statements that are lifted and those that are left make the whole
pub record Whole (w : Setting) (xs : List Stmt) (now : Locals) (made : List Ty) (body : List LStmt) (bs : List LStmt) (ms : List Ty) (sc : Scope) (us : List Ty) (names : List Named) : Type 0 where
  pub body_so : body ++ (lift_list (standing w now) made xs).body ≡ bs
  pub made_so : (lift_list (standing w now) made xs).made ≡ ms
  pub scope_so : after_list (standing w now).scope xs ≡ sc
  pub slots_so : now.slots.items ++ types_of (locals_list xs) ≡ us
  pub more : List Named
  pub names_so : now.names.items ≡ names ++ more

pub whole_more : {w : Setting} {now then' : Locals} {made made1 ms us : List Ty} {body body1 bs : List LStmt} {sc : Scope} {names : List Named} {left : List Stmt} (x : Stmt) (rest : List Stmt) →
    left ≡ x ∷ rest → Whole w left now made body bs ms sc us names → Lifts w x.at x.kind now made body then' made1 body1 → Whole w rest then' made1 body1 bs ms sc us names
whole_more {w = w} {now = now} {then' = then'} {made = made} {made1 = made1} {body = body} {body1 = body1} {names = names} {left = left} x rest is whole lifts = record {
  body_so = ap (λ c. c ++ (lift_list (standing w then') made1 rest).body) lifts.adds.added ∙ ap (λ y. (body ++ A.body) ++ y.body) rest_is ∙ append_assoc body A.body B.body
      ∙ ap (λ y. body ++ y.body) (sym all_is) ∙ whole.body_so;
  made_so = ap (λ y. y.made) rest_is ∙ ap (λ y. y.made) (sym all_is) ∙ whole.made_so;
  scope_so = ap (λ v. after_list v.scope rest) here ∙ sym (ap (after_list w0.scope) is ∙ after-more w0.scope x rest) ∙ whole.scope_so;
  slots_so = ap (λ us. us ++ types_of (locals_list rest)) lifts.slots_so ∙ append_assoc now.slots.items (types_of (locals x.kind)) (types_of (locals_list rest))
      ∙ ap (λ us. now.slots.items ++ us) (sym (ap (λ ys. types_of (locals_list ys)) is ∙ ap types_of (locals-more x rest) ∙ types-append (locals x.kind) (locals_list rest))) ∙ whole.slots_so;
  more = whole.more ++ declared_here (length now.slots.items) x.at x.kind;
  names_so = lifts.names_so ∙ ap (λ ns. ns ++ declared_here (length now.slots.items) x.at x.kind) whole.names_so ∙ append_assoc names whole.more _;
} where
  w0 : Spot
  w0 = standing w now

  A : Lift
  A = lift_stmt w0 made x.at x.kind

  B : Lift
  B = lift_list (at_scope w0 (after w0.scope x.at x.kind)) A.made rest

  here : standing w then' ≡ at_scope w0 (after w0.scope x.at x.kind)
  here = standing_after w now then' x.at x.kind lifts.names_so lifts.slots_so

  rest_is : lift_list (standing w then') made1 rest ≡ B
  rest_is = ap (λ v. lift_list v made1 rest) here ∙ ap (λ m. lift_list (at_scope w0 (after w0.scope x.at x.kind)) m rest) lifts.adds.all

  all_is : lift_list w0 made left ≡ lift_of (A.body ++ B.body) B.made
  all_is = ap (lift_list w0 made) is ∙ list-more w0 made x rest

pub whole_all : {w : Setting} {old now : Locals} {made made0 : List Ty} {body body0 : List LStmt} {left : List Stmt} (xs : List Stmt) →
    left ≡ [] → Whole w left now made body (body0 ++ (lift_list (standing w old) made0 xs).body) (lift_list (standing w old) made0 xs).made (after_list (standing w old).scope xs)
    (old.slots.items ++ types_of (locals_list xs)) old.names.items → LiftsAll w xs old made0 body0 now made body
whole_all {w = w} {now = now} {made = made} {body = body} xs is whole =
    let all = ap (lift_list (standing w now) made) is ∙ list-none (standing w now) made in
    record {
      adds = record { added = sym (append-nil body) ∙ ap (λ y. body ++ y.body) (sym all) ∙ whole.body_so; all = ap (λ y. y.made) (sym all) ∙ whole.made_so };
      scope_so = sym (ap (after_list (standing w now).scope) is ∙ after-none (standing w now).scope) ∙ whole.scope_so;
      slots_so = sym (append-nil now.slots.items) ∙ ap (λ ys. now.slots.items ++ types_of ys) (sym (ap locals_list is ∙ locals-none)) ∙ whole.slots_so;
      more = whole.more;
      names_so = whole.names_so;
    }

-- a list that nothing is lifted of yet
pub whole_none : {w : Setting} {old : Locals} {made : List Ty} {body : List LStmt} (xs : List Stmt) →
    Whole w xs old made body (body ++ (lift_list (standing w old) made xs).body) (lift_list (standing w old) made xs).made (after_list (standing w old).scope xs)
    (old.slots.items ++ types_of (locals_list xs)) old.names.items
whole_none {old = old} xs = record { body_so = refl; made_so = refl; scope_so = refl; slots_so = refl; more = []; names_so = sym (append-nil old.names.items) }
