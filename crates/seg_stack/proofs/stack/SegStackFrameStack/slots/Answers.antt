use Rattle.std.proofs.Common.{ap, arith}
use Rattle.target_code.specs.Stack.{Stack}
use Rattle.seg_stack.proofs.SeenLemmas.{seen, read-nth, slots-part}
use Rattle.seg_stack.proofs.stack.SegStackFrameStack.slots.Goals as goal

pub index-requires : goal.index-requires
index-requires c =
    let x = seen _ _ _ _ _ _ c.self.invariant _ (ap (λ (s : Stack). s.frames) c.self.view_is) c.requires in
    let n = c.self.inside.segments.ok.0 in omega (arith, x.there, n)

pub slice_bounds-result-count : goal.slice_bounds-result-count
slice_bounds-result-count c =
    let x = seen _ _ _ _ _ _ c.self.invariant _ (ap (λ (s : Stack). s.frames) c.self.view_is) c.requires in
    omega (arith, x.lies.ends)

pub slice_bounds-result-start : goal.slice_bounds-result-start
slice_bounds-result-start c =
    let x = seen _ _ _ _ _ _ c.self.invariant _ (ap (λ (s : Stack). s.frames) c.self.view_is) c.requires in
    omega (arith, x.lies.ends)

pub slice_bounds-result-end : goal.slice_bounds-result-end
slice_bounds-result-end c =
    let x = seen _ _ _ _ _ _ c.self.invariant _ (ap (λ (s : Stack). s.frames) c.self.view_is) c.requires in
    let n = c.words.ensures.len in omega (arith, x.lies.within, n)

pub returns : goal.returns
returns c =
    let x = seen _ _ _ _ _ _ c.self.invariant _ (ap (λ (s : Stack). s.frames) c.self.view_is) c.requires in
    slots-part _ _ _ _ _ _ c.words.result.now x (read-nth _ _ _ _ x.there c.words.ensures.words c.index.ensures)
