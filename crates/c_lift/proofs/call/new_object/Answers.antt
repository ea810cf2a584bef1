use Rattle.std.proofs.Common.{[], ◌∷◌, ◌++◌, Some, sym, ap, refl, ◌∙◌}
use Rattle.std.proofs.lemmas.List.{append-nil}
use Rattle.c_tree.specs.declared.ty.Ty.TheVariants as ty
use Rattle.c_tree.specs.declared.lifted.LStmt.TheVariants as s
use Rattle.c_tree.specs.declared.program.ExprKind.TheVariants as e
use Rattle.c_tree.specs.Lifting.{struct_number}
use Rattle.c_lift.specs.Around.{around}
use Rattle.c_lift.proofs.TakeLemmas.{took_temporary, take-Malloc}
use Rattle.c_lift.proofs.call.new_object.Goals as goal

pub returns : goal.returns
returns c =
    let name = c.args.name.now in
    let number = struct_number c.args.at.now.setting.now.file.now name.it in
    took_temporary (e.Malloc name) [] c.args.made.now.items _ (ty.Ptr name.it) (λ k. s.New k number) c.in_ok-k.k refl (take-Malloc (around c.args.at.now) c.args.made.now.items name)
    (ap (λ n. Some (ty.Ptr n)) c.in_ok-clone.ensures.cases) refl (sym (append-nil c.args.calls.now.items)) refl (c.in_ok-clone-2.ensures.cases ∙ ap ty.Ptr c.in_ok-clone.ensures.cases) c.in_ok-k.ensures.slot c.in_ok-k.ensures.made
    (c.in_ok-add_call.ensures ∙ ap (λ n. c.args.calls.now.items ++ s.New c.in_ok-k.k n ∷ []) c.struct_number.ensures)
