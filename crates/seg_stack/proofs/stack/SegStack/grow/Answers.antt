use Rattle.std.proofs.Common.{◌+◌, List, ℤ, sym, ap, ◌∙◌, subst, arith}
use Rattle.target_code.specs.Stack.{Stack}
use Rattle.seg_stack.specs.Layout.{IsStack, frames_in}
use Rattle.seg_stack.proofs.PopLemmas.{grown}
use Rattle.seg_stack.proofs.stack.SegStack.grow.Goals as goal

pub invariant_of-self-2 : goal.invariant_of-self-2
invariant_of-self-2 c =
    let p = c.self.inside.place in let segs = c.self.inside.segments.items in let n = c.self.inside.segments.ok.0 in
    subst (λ (l : List (List ℤ)). IsStack l p.segment p.base p.end c.self.inside.depth (c.self.inside.spare + 3964)) (sym c.in_ok-push.ensures.items)
    (grown segs c.in_ok-new.field-0 p.segment p.base p.end c.self.inside.spare c.self.inside.depth c.self.invariant (omega (arith, c.len.ensures, c.if-len-ge-MOST_SEGMENTS.false, n))).0

pub returns-clause-frames : goal.returns-clause-frames
returns-clause-frames c =
    let p = c.self.inside.place in let segs = c.self.inside.segments.items in let n = c.self.inside.segments.ok.0 in
    ap (λ (l : List (List ℤ)). frames_in l p.segment p.base c.self.inside.depth) c.in_ok-push.ensures.items
    ∙ (grown segs c.in_ok-new.field-0 p.segment p.base p.end c.self.inside.spare c.self.inside.depth c.self.invariant (omega (arith, c.len.ensures, c.if-len-ge-MOST_SEGMENTS.false, n))).1
    ∙ ap (λ (s : Stack). s.frames) c.self.view_is
