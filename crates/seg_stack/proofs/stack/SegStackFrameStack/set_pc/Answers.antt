use Rattle.std.proofs.Common.{◌≡◌, ◌+◌, List, ℤ, pos, get_or, set, refl, sym, ap, ◌∙◌, subst, arith, w32, to_z, of_z}
use Rattle.std.proofs.lemmas.Int.{of_z-to_z}
use Rattle.target_code.specs.Stack.{Stack, with_pc}
use Rattle.seg_stack.specs.Layout.{IsStack, nth, frames_in}
use Rattle.seg_stack.proofs.SeenLemmas.{seen, read-nth}
use Rattle.seg_stack.proofs.SetLemmas.{pc-stays}
use Rattle.seg_stack.proofs.stack.SegStackFrameStack.set_pc.Goals as goal

pub index_mut-requires : goal.index_mut-requires
index_mut-requires c =
    let x = seen _ _ _ _ _ _ c.self.invariant _ (ap (λ (s : Stack). s.frames) c.self.view_is) c.requires in
    let n = c.self.inside.segments.ok.0 in omega (arith, x.there, n)

pub invariant_of-self : goal.invariant_of-self
invariant_of-self c =
    let x = seen _ _ _ _ _ _ c.self.invariant _ (ap (λ (s : Stack). s.frames) c.self.view_is) c.requires in
    let p = c.self.inside.place in let segs = c.self.inside.segments.items in let i = p.base + 1 in
    let v = to_z w32 (of_z w32 c.cast_signed.result) in
    let ev : v ≡ to_z w32 c.args.pc = ap (λ r. to_z w32 (of_z w32 r)) c.cast_signed.ensures ∙ ap (λ n. to_z w32 n) (of_z-to_z w32 c.args.pc c.ranges.pc.fits) in
    let e : c.set.new.self ≡ set (nth segs p.segment) i v =
    c.set.ensures.words ∙ ap (λ (l : List ℤ). set l i v) (read-nth _ _ _ _ x.there refl c.index_mut.ensures.value) in
    let held : get_or (set (nth segs p.segment) i v) i (pos 0) ≡ v = ap (λ (l : List ℤ). get_or l i (pos 0)) (sym e) ∙ c.set.ensures.held in
    subst (λ (m : List ℤ). IsStack (set segs p.segment m) p.segment p.base p.end c.self.inside.depth c.self.inside.spare) (sym e)
    (pc-stays segs p.segment p.base p.end c.self.inside.spare c.self.inside.depth c.args.pc i v c.self.invariant x.live refl held ev c.ranges.pc.fits).0

pub returns-clause-frames : goal.returns-clause-frames
returns-clause-frames c =
    let x = seen _ _ _ _ _ _ c.self.invariant _ (ap (λ (s : Stack). s.frames) c.self.view_is) c.requires in
    let p = c.self.inside.place in let segs = c.self.inside.segments.items in let i = p.base + 1 in
    let v = to_z w32 (of_z w32 c.cast_signed.result) in
    let ev : v ≡ to_z w32 c.args.pc = ap (λ r. to_z w32 (of_z w32 r)) c.cast_signed.ensures ∙ ap (λ n. to_z w32 n) (of_z-to_z w32 c.args.pc c.ranges.pc.fits) in
    let e : c.set.new.self ≡ set (nth segs p.segment) i v =
    c.set.ensures.words ∙ ap (λ (l : List ℤ). set l i v) (read-nth _ _ _ _ x.there refl c.index_mut.ensures.value) in
    let held : get_or (set (nth segs p.segment) i v) i (pos 0) ≡ v = ap (λ (l : List ℤ). get_or l i (pos 0)) (sym e) ∙ c.set.ensures.held in
    ap (λ (m : List ℤ). frames_in (set segs p.segment m) p.segment p.base c.self.inside.depth) e
    ∙ (pc-stays segs p.segment p.base p.end c.self.inside.spare c.self.inside.depth c.args.pc i v c.self.invariant x.live refl held ev c.ranges.pc.fits).1
    ∙ ap (λ (s : Stack). with_pc c.args.pc s.frames) c.self.view_is
