use Rattle.std.proofs.Common.{rules, ◌∙◌}
use Rattle.std.proofs.lemmas.Int.{to_z-of_z}
use mir.Val.{SFits}
use mir.Syntax.{w32}
use Rattle.state_transform.proofs.GlobalLemmas.{resized_next}
use Rattle.state_transform.proofs.globals.resized.Goals as goal

pub loop-i-preserved : goal.loop-i-preserved
loop-i-preserved c =
    let fits : SFits w32 c.value_at.result = search rules in
    resized_next c.loop-i.i c.args.values.now c.loop-i.made.items c.push.new.self.items _ c.in_ok-push.ensures.items c.loop-i.invariant (to_z-of_z w32 c.value_at.result fits ∙ c.value_at.ensures)
