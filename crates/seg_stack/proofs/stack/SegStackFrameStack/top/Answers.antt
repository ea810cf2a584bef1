use Rattle.std.proofs.Common.{◌≡◌, ◌+◌, List, ℤ, length, ap, refl, sym, ◌∙◌, arith}
use Rattle.target_code.specs.declared.activation.Activation.{Activation}
use Rattle.target_code.specs.Stack.{Stack}
use Rattle.seg_stack.specs.Layout.{word_at}
use Rattle.seg_stack.proofs.SeenLemmas.{seen, read-nth}
use Rattle.seg_stack.proofs.stack.SegStackFrameStack.top.Goals as goal

pub index-segment-requires : goal.index-segment-requires
index-segment-requires c =
    let x = seen _ _ _ _ _ _ c.self.invariant _ (ap (λ (s : Stack). s.frames) c.self.view_is) c.requires in
    let n = c.self.inside.segments.ok.0 in omega (arith, x.there, n)

pub overflow_sub-result : goal.overflow_sub-result
overflow_sub-result c =
    let x = seen _ _ _ _ _ _ c.self.invariant _ (ap (λ (s : Stack). s.frames) c.self.view_is) c.requires in omega (arith, x.lies.ends)

pub overflow_sub-result-2 : goal.overflow_sub-result-2
overflow_sub-result-2 c =
    let x = seen _ _ _ _ _ _ c.self.invariant _ (ap (λ (s : Stack). s.frames) c.self.view_is) c.requires in omega (arith, x.lies.ends)

pub overflow_cast-result : goal.overflow_cast-result
overflow_cast-result c =
    let x = seen _ _ _ _ _ _ c.self.invariant _ (ap (λ (s : Stack). s.frames) c.self.view_is) c.requires in omega (arith, x.lies.ends, x.lies.within)

pub returns-clause-function : goal.returns-clause-function
returns-clause-function c =
    let x = seen _ _ _ _ _ _ c.self.invariant _ (ap (λ (s : Stack). s.frames) c.self.view_is) c.requires in
    c.word.ensures ∙ ap (λ (w : List ℤ). word_at w c.self.inside.place.base) (read-nth _ _ _ _ x.there refl c.index-segment.ensures) ∙ ap (λ (a : Activation). a.function) (sym x.top)

pub returns-clause-pc : goal.returns-clause-pc
returns-clause-pc c =
    let x = seen _ _ _ _ _ _ c.self.invariant _ (ap (λ (s : Stack). s.frames) c.self.view_is) c.requires in
    c.word-2.ensures ∙ ap (λ (w : List ℤ). word_at w (c.self.inside.place.base + 1)) (read-nth _ _ _ _ x.there refl c.index-segment.ensures) ∙ ap (λ (a : Activation). a.pc) (sym x.top)

pub returns-clause-slots : goal.returns-clause-slots
returns-clause-slots c =
    let x = seen _ _ _ _ _ _ c.self.invariant _ (ap (λ (s : Stack). s.frames) c.self.view_is) c.requires in
    let e : length (Rattle.target_code.specs.Target.top_of c.args.self.now.frames).slots ≡ _ = ap (λ (a : Activation). length a.slots) x.top in
    omega (arith, x.lies.ends, x.lies.size, e)
