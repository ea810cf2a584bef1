use Rattle.std.proofs.Common.{◌≡◌, ◌-◌, ◌≤◌, List, ℤ, length, suc, sym, ap, ◌∙◌, subst, arith}
use Rattle.target_code.specs.declared.activation.Activation.{Activation}
use Rattle.target_code.specs.Stack.{Stack}
use Rattle.target_code.specs.Target.{below_of}
use Rattle.seg_stack.specs.Layout.{IsLaid, nth, before, frames_in}
use Rattle.seg_stack.proofs.SeenLemmas.{seen}
use Rattle.seg_stack.proofs.PopLemmas.{popped-stack}
use Rattle.seg_stack.proofs.stack.SegStackFrameStack.pop_frame.Goals as goal

pub overflow_sub-self : goal.overflow_sub-self
overflow_sub-self c =
    let x = seen _ _ _ _ _ _ c.self.invariant _ (ap (λ (s : Stack). s.frames) c.self.view_is) c.requires in omega (arith, x.lies.ends)

pub overflow_add-self : goal.overflow_add-self
overflow_add-self c =
    let x = seen _ _ _ _ _ _ c.self.invariant _ (ap (λ (s : Stack). s.frames) c.self.view_is) c.requires in
    let r = c.self.invariant.room in let f = c.self.invariant.few in omega (arith, r, f, x.lies.within)

pub overflow_sub-self-2 : goal.overflow_sub-self-2
overflow_sub-self-2 c =
    let x = seen _ _ _ _ _ _ c.self.invariant _ (ap (λ (s : Stack). s.frames) c.self.view_is) c.requires in x.live

pub outside-self-inside-requires-clause-there : goal.outside-self-inside-requires-clause-there
outside-self-inside-requires-clause-there c =
    let x = seen _ _ _ _ _ _ c.self.invariant _ (ap (λ (s : Stack). s.frames) c.self.view_is) c.requires in
    let n = ap (λ (l : List (List ℤ)). length l) c.as_slice.ensures.value in omega (arith, x.there, n)

pub outside-self-inside-requires-clause-laid : goal.outside-self-inside-requires-clause-laid
outside-self-inside-requires-clause-laid c =
    let x = seen _ _ _ _ _ _ c.self.invariant _ (ap (λ (s : Stack). s.frames) c.self.view_is) c.requires in
    let p = c.self.inside.place in
    subst (λ (l : List (List ℤ)). IsLaid (suc (c.self.inside.depth - 1)) (nth l p.segment) (before l p.segment) p.base p.end) (sym c.as_slice.ensures.value)
    (subst (λ d. IsLaid d (nth c.self.inside.segments.items p.segment) (before c.self.inside.segments.items p.segment) p.base p.end) (omega (arith, x.live)) c.self.invariant.laid)

pub invariant_of-self : goal.invariant_of-self
invariant_of-self c =
    let x = seen _ _ _ _ _ _ c.self.invariant _ (ap (λ (s : Stack). s.frames) c.self.view_is) c.requires in
    let p = c.self.inside.place in let q = c.outside-self-inside.result in let segs = c.self.inside.segments.items in let n = c.self.inside.depth - 1 in
    let is = c.as_slice.ensures.value in let e = c.outside-self-inside.ensures in
    popped-stack segs p.segment p.base p.end c.self.inside.depth c.self.inside.spare n q.segment q.base q.end c.self.invariant (omega (arith, x.live))
    (subst (λ (l : List (List ℤ)). IsLaid n (nth l q.segment) (before l q.segment) q.base q.end) is e.laid)
    (subst (λ (l : List (List ℤ)). frames_in l q.segment q.base n ≡ below_of (frames_in l p.segment p.base (suc n))) is e.frames)
    (subst (λ (l : List (List ℤ)). q.segment ≤ length l) is e.within.0) e.within.1

pub returns-clause-frames : goal.returns-clause-frames
returns-clause-frames c =
    let x = seen _ _ _ _ _ _ c.self.invariant _ (ap (λ (s : Stack). s.frames) c.self.view_is) c.requires in
    let p = c.self.inside.place in let q = c.outside-self-inside.result in let segs = c.self.inside.segments.items in let n = c.self.inside.depth - 1 in
    let d : suc n ≡ c.self.inside.depth = omega (arith, x.live) in
    subst (λ (l : List (List ℤ)). frames_in l q.segment q.base n ≡ below_of (frames_in l p.segment p.base (suc n))) c.as_slice.ensures.value c.outside-self-inside.ensures.frames
    ∙ ap (λ k. below_of (frames_in segs p.segment p.base k)) d
    ∙ ap (λ (s : Stack). below_of s.frames) c.self.view_is

pub returns-clause-spare : goal.returns-clause-spare
returns-clause-spare c =
    let x = seen _ _ _ _ _ _ c.self.invariant _ (ap (λ (s : Stack). s.frames) c.self.view_is) c.requires in
    let n = ap (λ (a : Activation). length a.slots) x.top in
    let s = ap (λ (s : Stack). s.spare) c.self.view_is in omega (arith, x.lies.ends, x.lies.size, n, s)
