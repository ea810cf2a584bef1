use Rattle.std.proofs.Common.{◌≡◌, ◌+◌, ◌∷◌, drop, ◌∙◌, ap, arith}
use Rattle.std.proofs.lemmas.Grind.{common_steps}
use Rattle.c_tree.specs.MapStack as spec
use Rattle.stack_map.specs.Added.{after}
use Rattle.stack_map.proofs.FrameLemmas.{frames_more}
use Rattle.stack_map.proofs.frames.map_frames.Goals as goal

pub loop-i-preserved : goal.loop-i-preserved
loop-i-preserved c =
    let k = c.args.m.now.link.now in
    let es = c.args.m.now.entries.now in
    let s = c.args.state.now in
    let t = c.args.thread in
    let i = c.loop-i.i in
    let fs = c.args.frames.now in
    let f = c.index-frames-i.result in
    let behind : drop i fs ≡ f ∷ drop (i + 1) fs = grind (arith, common_steps) in (
      c.loop-i.invariant.0
          ∙ (ap (λ gs. after c.loop-i.made.items (spec.map_frames k es s t i gs)) behind
          ∙ frames_more c.loop-i.made.items c.map_frame.new.made.items (spec.map_frame k es s t i f) (spec.map_frames k es s t (i + 1) (drop (i + 1) fs)) c.in-Ok.ensures.maps),
      c.in-Ok.ensures.tells,
    )
