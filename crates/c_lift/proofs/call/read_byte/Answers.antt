use Rattle.std.proofs.Common.{[], sym, ap, refl}
use Rattle.std.proofs.lemmas.List.{append-nil}
use Rattle.c_tree.specs.declared.ty.Ty.TheVariants as ty
use Rattle.c_tree.specs.declared.lifted.LStmt.TheVariants as s
use Rattle.c_tree.specs.declared.program.ExprKind.TheVariants as e
use Rattle.c_lift.specs.Around.{around}
use Rattle.c_lift.proofs.TakeLemmas.{took_temporary, take-Getchar}
use Rattle.c_lift.proofs.call.read_byte.Goals as goal

pub returns : goal.returns
returns c =
    took_temporary e.Getchar [] c.args.made.now.items ty.Int ty.Int (λ k. s.Getc k) c.in_ok-k.k refl (take-Getchar (around c.args.at.now) c.args.made.now.items)
    (ap (λ y. y.ty) c.int.ensures) (ap (λ y. y.value) c.int.ensures) (sym (append-nil c.args.calls.now.items)) refl refl c.in_ok-k.ensures.slot c.in_ok-k.ensures.made c.in_ok-add_call.ensures
