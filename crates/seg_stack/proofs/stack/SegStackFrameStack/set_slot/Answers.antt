use Rattle.std.proofs.Common.{◌≡◌, ◌+◌, List, ℤ, length, set, refl, sym, ap, ◌∙◌, subst, arith, w32, to_z, of_z}
use Rattle.std.proofs.lemmas.Int.{to_z-of_z}
use Rattle.target_code.specs.declared.activation.Activation.{Activation}
use Rattle.target_code.specs.Stack.{Stack, with_slot}
use Rattle.seg_stack.specs.Layout.{IsStack, nth, frames_in}
use Rattle.seg_stack.proofs.SeenLemmas.{seen, read-nth}
use Rattle.seg_stack.proofs.SetLemmas.{slot-stays}
use Rattle.seg_stack.proofs.stack.SegStackFrameStack.set_slot.Goals as goal

pub index_mut-requires : goal.index_mut-requires
index_mut-requires c =
    let x = seen _ _ _ _ _ _ c.self.invariant _ (ap (λ (s : Stack). s.frames) c.self.view_is) c.requires.live in
    let n = c.self.inside.segments.ok.0 in omega (arith, x.there, n)

pub set-requires : goal.set-requires
set-requires c =
    let x = seen _ _ _ _ _ _ c.self.invariant _ (ap (λ (s : Stack). s.frames) c.self.view_is) c.requires.live in
    let n = ap (λ (a : Activation). length a.slots) x.top in
    omega (arith, x.lies.ends, x.lies.size, x.lies.within, n, c.requires.within)

pub invariant_of-self : goal.invariant_of-self
invariant_of-self c =
    let x = seen _ _ _ _ _ _ c.self.invariant _ (ap (λ (s : Stack). s.frames) c.self.view_is) c.requires.live in
    let p = c.self.inside.place in let segs = c.self.inside.segments.items in let i = p.base + 4 + c.args.k in
    let n = ap (λ (a : Activation). length a.slots) x.top in
    let e : c.set.new.self ≡ set (nth segs p.segment) i c.args.value =
    c.set.ensures.words ∙ ap (λ (l : List ℤ). set l i (to_z w32 (of_z w32 c.args.value))) (read-nth _ _ _ _ x.there refl c.index_mut.ensures.value)
    ∙ ap (λ v. set (nth segs p.segment) i v) (to_z-of_z w32 c.args.value c.ranges.value) in
    subst (λ (m : List ℤ). IsStack (set segs p.segment m) p.segment p.base p.end c.self.inside.depth c.self.inside.spare) (sym e)
    (slot-stays segs p.segment p.base p.end c.self.inside.spare c.self.inside.depth c.args.k i c.args.value c.self.invariant x.live (omega (arith, n, c.requires.within)) refl).0

pub returns-clause-frames : goal.returns-clause-frames
returns-clause-frames c =
    let x = seen _ _ _ _ _ _ c.self.invariant _ (ap (λ (s : Stack). s.frames) c.self.view_is) c.requires.live in
    let p = c.self.inside.place in let segs = c.self.inside.segments.items in let i = p.base + 4 + c.args.k in
    let n = ap (λ (a : Activation). length a.slots) x.top in
    let e : c.set.new.self ≡ set (nth segs p.segment) i c.args.value =
    c.set.ensures.words ∙ ap (λ (l : List ℤ). set l i (to_z w32 (of_z w32 c.args.value))) (read-nth _ _ _ _ x.there refl c.index_mut.ensures.value)
    ∙ ap (λ v. set (nth segs p.segment) i v) (to_z-of_z w32 c.args.value c.ranges.value) in
    ap (λ (m : List ℤ). frames_in (set segs p.segment m) p.segment p.base c.self.inside.depth) e
    ∙ (slot-stays segs p.segment p.base p.end c.self.inside.spare c.self.inside.depth c.args.k i c.args.value c.self.invariant x.live (omega (arith, n, c.requires.within)) refl).1
    ∙ ap (λ (s : Stack). with_slot c.args.k c.args.value s.frames) c.self.view_is
