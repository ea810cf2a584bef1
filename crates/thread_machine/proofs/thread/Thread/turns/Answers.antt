use Rattle.std.proofs.Common.{rules, ◌≡◌, [], sym, subst, w32}
use mir.Val.{to_z, of_z}
use Rattle.target_code.specs.declared.activation.Mode.TheVariants.{Running}
use Rattle.thread_turns.specs.Turns.{IsRow}
use Rattle.thread_machine.proofs.TurnLemmas.{made, row_of_parts}
use Rattle.thread_machine.proofs.thread.Thread.turns.Goals as goal

pub returns-clause-row : goal.returns-clause-row
returns-clause-row g c =
    let inside = c.self.inside in
    let kept = c.row-stop.new.kept in
    let code = c.args.code.now in
    let before = g.S.FrameStack.frames inside.stack in
    let after = g.S.FrameStack.frames c.row-stop.new.stack in
    let was : to_z w32 (of_z w32 inside.returned) ≡ inside.returned = search rules in
    let is : kept.returned ≡ to_z w32 (of_z w32 kept.returned) = search rules in
    let row = subst (λ r. IsRow code c.args.number c.row-stop.result (made Running before r [] inside.count) c.args.store.now kept.steps (made Running after kept.returned [] kept.count) c.row-stop.new.store) was c.row-stop.ensures.row in
    row_of_parts code c.args.number c.row-stop.result c.args.self.now c.args.store.now c.row-stop.new.store kept.steps inside.mode before after inside.returned kept.returned (to_z w32 (of_z w32 kept.returned)) inside.saved inside.count kept.count c.requires.thread (sym c.self.view_is) is row
