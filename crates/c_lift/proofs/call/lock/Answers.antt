use Rattle.std.proofs.Common.{[], ◌∷◌, ◌++◌, sym, ap, refl, ◌∙◌}
use Rattle.std.proofs.lemmas.List.{append-nil}
use Rattle.c_tree.specs.declared.lifted.LStmt.TheVariants as s
use Rattle.c_tree.specs.declared.program.ExprKind.TheVariants as e
use Rattle.c_tree.specs.Scope.{meaning}
use Rattle.c_tree.specs.Lifting.{mutex_number}
use Rattle.c_lift.specs.Around.{around}
use Rattle.c_lift.proofs.TakeLemmas.{took_zero, take-Lock}
use Rattle.c_lift.proofs.call.lock.Goals as goal

pub returns : goal.returns
returns c = λ made.
    let w = around c.args.at.now in
    let name = c.args.name.now in
    took_zero (e.Lock name) [] made (s.Lock (mutex_number (meaning w.scope name.it))) refl (take-Lock w made name)
    (ap (λ y. y.ty) c.in_ok-zero.ensures.value) (ap (λ y. y.value) c.in_ok-zero.ensures.value) (sym (append-nil c.args.calls.now.items))
    (c.in_ok-zero.ensures.calls ∙ ap (λ n. c.args.calls.now.items ++ s.Lock n ∷ []) (c.mutex_number.ensures ∙ ap mutex_number c.meaning.ensures)) refl
