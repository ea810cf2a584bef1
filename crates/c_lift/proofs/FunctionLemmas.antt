-- A function's lifting from its parts.
use Rattle.std.proofs.Common.{◌≡◌, ℕ, List, [], ◌∷◌, ◌++◌, length, Option, Some, None, refl, sym, ap, subst, ◌∙◌}
use Rattle.std.specs.Prelude.{map}
use Rattle.std.proofs.lemmas.List.{length-map}
use Rattle.c_tree.specs.declared.ty.Ty.{Ty}
use Rattle.c_tree.specs.declared.lifted.LStmt.{LStmt}
use Rattle.c_tree.specs.declared.lifted.LFunction.{LFunction}
use Rattle.c_tree.specs.declared.lifted.Slot.{Slot}
use Rattle.c_tree.specs.declared.program.Stmt.{Stmt}
use Rattle.c_tree.specs.declared.program.Program.{Program}
use Rattle.c_tree.specs.declared.program.Function.{Function}
use Rattle.c_tree.specs.Scope.{Scope, file_scope, with_parameters}
use Rattle.c_tree.specs.Lifting.{Spot, Lift, body_of, variables_of, slots_from, temporary_slots, lift_function}
use Rattle.c_lift.specs.Adding.{Adds}
use Rattle.c_lift.specs.Lifts.{lift_list}
use Rattle.c_lift.specs.Variables.{as_slot, numbered_after}
use Rattle.c_lift.proofs.StmtLemmas.{list-none}
use Rattle.c_lift.proofs.NameNumberLemmas.{numbered_is}

-- the statements of a body
pub no_body : (w : Spot) (made : List Ty) (body : Option (List Stmt)) (lifted : List LStmt) → body ≡ None → lifted ≡ [] → Adds (lift_list w made (body_of body)) [] lifted made
no_body w made body lifted is none =
    subst (λ y. Adds y [] lifted made) (sym (ap (λ o. lift_list w made (body_of o)) is ∙ list-none w made)) (record { added = none; all = refl })

-- all parts
abbrev pub body_at : Program → Function → ℕ → Lift
body_at p f n =
    let w : Spot = record { scope = with_parameters (file_scope p) f.params; slots = n; ret = f.ret } in lift_list w [] (body_of f.body)

abbrev pub made_of : Function → List Slot → List LStmt → LFunction
made_of f slots body = record { name = f.name.it; ret = f.ret; params = length f.params; slots = slots; body = body }

pub function_is : (p : Program) (f : Function) (g : LFunction) (n : ℕ) (made : List Ty) (plain slots : List Slot) (body : List LStmt) → n ≡ length plain → plain ≡ map as_slot (variables_of f) →
    slots ≡ numbered_after [] plain ++ temporary_slots 1 made → Adds (body_at p f n) [] body made → g ≡ made_of f slots body → g ≡ lift_function p f
function_is p f g n made plain slots body count is_plain is_slots adds whole =
    whole ∙ ap (λ xs. made_of f xs body) (is_slots ∙ ap (λ xs. numbered_after [] xs ++ temporary_slots 1 made) is_plain ∙ ap (λ xs. xs ++ temporary_slots 1 made) (numbered_is [] (variables_of f)))
    ∙ ap (λ ms. made_of f (slots_from [] (variables_of f) ++ temporary_slots 1 ms) body) (adds.all ∙ ap (λ y. y.made) same)
    ∙ ap (λ ys. made_of f (slots_from [] (variables_of f) ++ temporary_slots 1 (body_at p f (length (variables_of f))).made) ys) (adds.added ∙ ap (λ y. y.body) same) where
      same : body_at p f n ≡ body_at p f (length (variables_of f))
      same = ap (body_at p f) (count ∙ ap length is_plain ∙ length-map (variables_of f) as_slot)
