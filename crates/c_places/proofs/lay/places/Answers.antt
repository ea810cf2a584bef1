use Rattle.std.proofs.Common.{◌≤◌, ◌∙◌, [], ap, get_or, length, map, subst, sym, take, arith}
use Rattle.std.proofs.lemmas.List.{take_all}
use Rattle.c_tree.specs.Layout as spec
use Rattle.c_places.proofs.TallyLemmas.{short_rows}
use Rattle.c_places.proofs.lay.places.Goals as goal

pub invariant_of-result : goal.invariant_of-result
invariant_of-result c =
    let fs = c.args.program.now.functions in
    let all = c.from_vec.ensures ∙ (c.loop-function.invariant ∙ (ap (λ xs. map spec.places (take c.loop-function.function-index xs)) c.as_slice-function-items.ensures ∙ ap (map spec.places) (take_all c.loop-function.function-index fs (omega (arith, ap length c.as_slice-function-items.ensures))))) in
    record { short = λ f. subst (λ rows. length (get_or rows f []) ≤ 10000) (sym all) (short_rows fs c.requires f) }
