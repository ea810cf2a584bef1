use Rattle.std.proofs.Common.{◌≡◌, ◌∙◌, ◌+◌, ◌≤◌, length, drop, ap, arith, subst, List, ℤ, take, ◌++◌, replicate, pos}
use Rattle.seg_stack.specs.Layout.{with_head}
use Rattle.seg_stack.proofs.LayoutLemmas.{begun-act, begun-size, begun-below, begun-before}
use Rattle.seg_stack.proofs.segment.Segment.begin.Goals as goal

long : (c : goal.After-clear) → c.args.at + 4 ≤ length c.args.self.now
long c = omega (arith, c.requires, subst (λ (l : List ℤ). length l ≡ 4096) c.self.view_is c.self.invariant)

is : (c : goal.After-clear) → c.clear.new.self ≡ take (c.args.at + 4) (with_head c.args.self.now c.args.at c.args.function c.args.slots c.args.below) ++ (replicate c.args.slots (pos 0) ++ drop (c.args.at + 4 + c.args.slots) c.put_head.new.self)
is c = c.clear.ensures ∙ ap (λ (l : List ℤ). take (c.args.at + 4) l ++ (replicate c.args.slots (pos 0) ++ drop (c.args.at + 4 + c.args.slots) c.put_head.new.self)) c.put_head.ensures

pub returns-clause-act : goal.returns-clause-act
returns-clause-act c = begun-act c.args.self.now c.args.at c.args.function c.args.slots c.args.below (long c) _ _ (is c) c.ranges.slots.fits c.ranges.function.fits

pub returns-clause-size : goal.returns-clause-size
returns-clause-size c = begun-size c.args.self.now c.args.at c.args.function c.args.slots c.args.below (long c) _ _ (is c) c.ranges.slots.fits

pub returns-clause-below : goal.returns-clause-below
returns-clause-below c = begun-below c.args.self.now c.args.at c.args.function c.args.slots c.args.below (long c) _ _ (is c) c.ranges.below.fits

pub returns-clause-before : goal.returns-clause-before
returns-clause-before c = begun-before c.args.self.now c.args.at c.args.function c.args.slots c.args.below (long c) _ _ (is c)
