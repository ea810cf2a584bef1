use Rattle.std.proofs.Common.{◌≡◌, ◌+◌, ◌-◌, ◌≤◌, List, ◌∷◌, suc, refl, ap, ◌∙◌, subst, arith}
use Rattle.target_code.specs.declared.activation.Activation.{Activation}
use Rattle.target_code.specs.Stack.{Stack, blank}
use Rattle.seg_stack.specs.Layout.{IsStack, frames_in}
use Rattle.seg_stack.proofs.StackLemmas.{next-there, end-within, depth-fits, pushed}
use Rattle.seg_stack.proofs.stack.SegStackFrameStack.push_frame.Goals as goal

pub inside-self-inside-requires-clause-within : goal.inside-self-inside-requires-clause-within
inside-self-inside-requires-clause-within c = end-within _ _ _ _ _ _ c.self.invariant

pub put-requires-clause-there : goal.put-requires-clause-there
put-requires-clause-there c =
    let p = c.self.inside.place in let segs = c.self.inside.segments in
    let ok = c.in_ok-make_room.ensures.ok in let e = ap (λ (s : Stack). s.spare) c.self.view_is in
    let x = next-there segs.items p.segment p.base p.end c.self.inside.depth c.self.inside.spare c.self.invariant p c.inside-self-inside.result c.args.slots refl refl (omega (arith, ok, e)) c.inside-self-inside.ensures c.requires.few in
    let n = segs.ok.0 in omega (arith, x.0, n)

pub overflow_add-self : goal.overflow_add-self
overflow_add-self c =
    let ok = c.in_ok-make_room.ensures.ok in let e = ap (λ (s : Stack). s.spare) c.self.view_is in
    let h = depth-fits _ _ _ _ _ _ c.self.invariant (omega (arith, ok, e)) in omega (arith, h)

pub invariant_of-self : goal.invariant_of-self
invariant_of-self c =
    let p = c.self.inside.place in let q = c.inside-self-inside.result in let segs = c.self.inside.segments.items in let d = c.self.inside.depth in
    let ok = c.in_ok-make_room.ensures.ok in let e = ap (λ (s : Stack). s.spare) c.self.view_is in
    let room : c.args.slots + 4 ≤ c.self.inside.spare = omega (arith, ok, e) in
    let x = next-there segs p.segment p.base p.end d c.self.inside.spare c.self.invariant p q c.args.slots refl refl room c.inside-self-inside.ensures c.requires.few in
    let y = pushed segs p.segment p.base p.end d c.self.inside.spare c.self.invariant c.put.new.segments.items p q c.args.function c.args.slots refl refl refl room c.requires.few c.put.ensures.begun c.inside-self-inside.ensures x.0 in
    subst (λ n. IsStack c.put.new.segments.items q.segment q.base q.end n (c.self.inside.spare - (c.args.slots + 4))) (omega arith) y.0

pub returns-clause-ok : goal.returns-clause-ok
returns-clause-ok c =
    let p = c.self.inside.place in let q = c.inside-self-inside.result in let segs = c.self.inside.segments.items in let d = c.self.inside.depth in
    let ok = c.in_ok-make_room.ensures.ok in let e = ap (λ (s : Stack). s.spare) c.self.view_is in
    let room : c.args.slots + 4 ≤ c.self.inside.spare = omega (arith, ok, e) in
    let x = next-there segs p.segment p.base p.end d c.self.inside.spare c.self.invariant p q c.args.slots refl refl room c.inside-self-inside.ensures c.requires.few in
    let y = pushed segs p.segment p.base p.end d c.self.inside.spare c.self.invariant c.put.new.segments.items p q c.args.function c.args.slots refl refl refl room c.requires.few c.put.ensures.begun c.inside-self-inside.ensures x.0 in
    let more : d + 1 ≡ suc d = omega arith in
    ap (λ n. frames_in c.put.new.segments.items q.segment q.base n) more
    ∙ y.1
    ∙ ap (λ (s : Stack). blank c.args.function c.args.slots ∷ s.frames) c.self.view_is
    ∙ ap (λ (fs : List Activation). blank c.args.function c.args.slots ∷ fs) c.in_ok-make_room.ensures.frames
