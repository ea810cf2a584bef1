use Rattle.std.proofs.Common.{ap, sym, ◌∙◌}
use Rattle.c_tree.specs.MapStack.{count_of}
use Rattle.c_tree.specs.Step.{function_of}
use Rattle.stack_map.proofs.PartLemmas.{declared_at, many_parts}
use Rattle.stack_map.proofs.parts.count_at.Goals as goal

pub returns-in-Some-declared_point : goal.returns-in-Some-declared_point
returns-in-Some-declared_point c =
    let m = c.args.m.now in
    let k = m.link.now in
    let ps = c.in-Some-declared_point.parts.now in
    sym (many_parts k (function_of k.old c.args.function).slots ps)
    ∙ ap (λ o. count_of o) (sym (declared_at k m.entries.now c.args.function c.args.place c.in-Some.to ps (sym c.in-Some.ensures) c.in-Some-declared_point.ensures))
