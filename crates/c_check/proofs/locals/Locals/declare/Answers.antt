use Rattle.std.proofs.Common.{◌++◌, ◌∷◌, [], length, sym, ◌∙◌, ap, arith}
use Rattle.c_tree.specs.declared.scope.Meaning.TheVariants as m
use Rattle.c_check.specs.declared.locals.Entry.{Entry}
use Rattle.c_check.specs.Stack.{height_at}
use Rattle.c_check.proofs.StackLemmas.{pushed}
use Rattle.c_check.proofs.locals.Locals.declare.Goals as goal

pub invariant_of-self-2 : goal.invariant_of-self-2
invariant_of-self-2 c =
    let e : Entry = record { named = record { at = c.args.at; name = c.in_ok-clone.field-0; meaning = m.Local c.in_ok-narrowed.field-0 }; before = c.height_of-before.result } in
    pushed c.self.inside.heights c.set_height.new.heights c.self.inside.entries.items c.push_reserved.new.self.items c.self.inside.block e c.in_ok-key.key c.len-2.result
    c.self.invariant (c.push_reserved.ensures.items ∙ ap (λ z. z ++ e ∷ []) c.reserve.ensures.items)
    (c.height_of-before.ensures ∙ ap (height_at c.self.inside.heights) (sym c.in_ok-key.ensures.cases)) (c.in_ok-key.ensures.cases ∙ sym c.in_ok-clone.ensures.cases) (omega (arith, c.len-2.ensures, c.reserve.new.self.ok.0, ap length c.reserve.ensures.items))
    c.in_ok-set_height.ensures.ok
