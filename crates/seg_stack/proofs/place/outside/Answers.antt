use Rattle.std.proofs.Common.{◌+◌, ◌-◌, [], suc, sym, ap, ◌∙◌, subst, arith}
use Rattle.target_code.specs.Target.{below_of}
use Rattle.seg_stack.specs.Layout.{IsLaid, nth, before, frames_in, below_at}
use Rattle.seg_stack.proofs.StackLemmas.{laid-lies}
use Rattle.seg_stack.proofs.SeenLemmas.{read-word}
use Rattle.seg_stack.proofs.PopLemmas.{popped-laid, popped-frames, last-laid, last-frames, left-below, left, begins-low'}
use Rattle.seg_stack.proofs.place.outside.Goals as goal

pub overflow_add-place : goal.overflow_add-place
overflow_add-place c =
    let x = laid-lies _ _ _ _ _ c.requires.laid (omega arith) in omega (arith, x.ends, x.within)

pub word-below-requires : goal.word-below-requires
word-below-requires c =
    let x = laid-lies _ _ _ _ _ c.requires.laid (omega arith) in omega (arith, x.ends, x.within)

pub returns-then-place-gt0-clause-laid : goal.returns-then-place-gt0-clause-laid
returns-then-place-gt0-clause-laid c =
    let segs = c.args.segments.now in let p = c.args.place in
    let low = read-word segs p.segment (p.base + 3) c.word-below.result c.index-segments-place.result c.requires.there c.word-below.ensures c.index-segments-place.is in
    subst (λ b. IsLaid c.args.depth (nth segs p.segment) (before segs p.segment) b p.base) (sym low)
    (popped-laid c.args.depth (nth segs p.segment) (before segs p.segment) p.base p.end c.if-place-gt0.true c.requires.laid)

pub returns-then-place-gt0-clause-frames : goal.returns-then-place-gt0-clause-frames
returns-then-place-gt0-clause-frames c =
    let segs = c.args.segments.now in let p = c.args.place in
    let low = read-word segs p.segment (p.base + 3) c.word-below.result c.index-segments-place.result c.requires.there c.word-below.ensures c.index-segments-place.is in
    ap (λ b. frames_in segs p.segment b c.args.depth) low
    ∙ popped-frames c.args.depth (nth segs p.segment) (before segs p.segment) p.base p.end c.if-place-gt0.true c.requires.laid

pub returns-then-place-gt0-clause-within : goal.returns-then-place-gt0-clause-within
returns-then-place-gt0-clause-within c =
    let segs = c.args.segments.now in let p = c.args.place in
    let low = read-word segs p.segment (p.base + 3) c.word-below.result c.index-segments-place.result c.requires.there c.word-below.ensures c.index-segments-place.is in
    let x = popped-laid c.args.depth (nth segs p.segment) (before segs p.segment) p.base p.end c.if-place-gt0.true c.requires.laid in
    let h = begins-low' c.args.depth (nth segs p.segment) (before segs p.segment) (below_at (nth segs p.segment) p.base) p.base x c.if-place-gt0.true in
    (omega (arith, c.requires.there), omega (arith, low, h))

pub returns-then-depth-eq0-clause-laid : goal.returns-then-depth-eq0-clause-laid
returns-then-depth-eq0-clause-laid c =
    let segs = c.args.segments.now in let p = c.args.place in
    let x = subst (λ d. IsLaid (suc d) (nth segs p.segment) (before segs p.segment) p.base p.end) c.if-depth-eq0.true c.requires.laid in
    subst (λ d. IsLaid d (nth segs 0) [] 0 0) (sym c.if-depth-eq0.true) (last-laid (nth segs p.segment) (nth segs 0) (before segs p.segment) p.base p.end x).1

pub returns-then-depth-eq0-clause-frames : goal.returns-then-depth-eq0-clause-frames
returns-then-depth-eq0-clause-frames c =
    ap (λ d. frames_in c.args.segments.now 0 0 d) c.if-depth-eq0.true
    ∙ last-frames (nth c.args.segments.now c.args.place.segment) (nth c.args.segments.now 0) (before c.args.segments.now c.args.place.segment) c.args.place.base
    ∙ ap (λ d. below_of (frames_in c.args.segments.now c.args.place.segment c.args.place.base (suc d))) (sym c.if-depth-eq0.true)

pub overflow_sub-segment : goal.overflow_sub-segment
overflow_sub-segment c =
    let segs = c.args.segments.now in let p = c.args.place in
    left-below segs p.segment c.args.depth p.end c.requires.there p.base (omega (arith, c.if-place-gt0.false)) (omega (arith, c.if-depth-eq0.false)) c.requires.laid

pub word-slots-requires : goal.word-slots-requires
word-slots-requires c =
    let segs = c.args.segments.now in let p = c.args.place in
    let low = read-word segs p.segment (p.base + 3) c.word-below.result c.index-segments-place.result c.requires.there c.word-below.ensures c.index-segments-place.is in
    let x = left segs p.segment c.args.depth p.end p.base c.word-below.result c.requires.there (omega (arith, c.if-place-gt0.false)) (omega (arith, c.if-depth-eq0.false)) low c.requires.laid in
    omega (arith, x.low)

pub returns-clause-laid : goal.returns-clause-laid
returns-clause-laid c =
    let segs = c.args.segments.now in let p = c.args.place in
    let low = read-word segs p.segment (p.base + 3) c.word-below.result c.index-segments-place.result c.requires.there c.word-below.ensures c.index-segments-place.is in
    let x = left segs p.segment c.args.depth p.end p.base c.word-below.result c.requires.there (omega (arith, c.if-place-gt0.false)) (omega (arith, c.if-depth-eq0.false)) low c.requires.laid in
    let size = read-word segs (p.segment - 1) (c.word-below.result + 2) c.word-slots.result c.index-segments-segment.result x.there c.word-slots.ensures c.index-segments-segment.is in
    subst (λ k. IsLaid c.args.depth (nth segs (p.segment - 1)) (before segs (p.segment - 1)) c.word-below.result (c.word-below.result + (k + 4))) (sym size) x.laid

pub returns-clause-frames : goal.returns-clause-frames
returns-clause-frames c =
    let segs = c.args.segments.now in let p = c.args.place in
    let low = read-word segs p.segment (p.base + 3) c.word-below.result c.index-segments-place.result c.requires.there c.word-below.ensures c.index-segments-place.is in
    let x = left segs p.segment c.args.depth p.end p.base c.word-below.result c.requires.there (omega (arith, c.if-place-gt0.false)) (omega (arith, c.if-depth-eq0.false)) low c.requires.laid in
    x.frames

pub returns-clause-within : goal.returns-clause-within
returns-clause-within c =
    let segs = c.args.segments.now in let p = c.args.place in
    let low = read-word segs p.segment (p.base + 3) c.word-below.result c.index-segments-place.result c.requires.there c.word-below.ensures c.index-segments-place.is in
    let x = left segs p.segment c.args.depth p.end p.base c.word-below.result c.requires.there (omega (arith, c.if-place-gt0.false)) (omega (arith, c.if-depth-eq0.false)) low c.requires.laid in
    (omega (arith, x.there), x.low)
