use Rattle.std.proofs.Common.{◌-◌, length, take, drop, refl, subst, arith}
use Rattle.std.proofs.lemmas.List.{take_rest}
use Rattle.patch_form.specs.Parts.{Is, IsCut, IsBad}
use Rattle.patch_form.proofs.Words.{word_short, word_bad, word_there}
use Rattle.patch_form.proofs.word.take_word.Goals as goal

pub returns-then-i-rest : goal.returns-then-i-rest
returns-then-i-rest c =
    let bytes = c.args.bytes.now in
    let at = c.args.at in
    subst (IsCut (Is c.args.word.now)) (take_rest bytes at) (word_short (take (length bytes - at) (drop at bytes)) c.args.word.now c.loop-i.i (omega arith) (omega arith) c.loop-i.invariant.same)

pub returns-then-rest-i : goal.returns-then-rest-i
returns-then-rest-i c =
    let bytes = c.args.bytes.now in
    let at = c.args.at in (
      c.loop-i.i,
      refl,
      subst (IsBad (Is c.args.word.now) c.loop-i.i) (take_rest bytes at) (word_bad (take (length bytes - at) (drop at bytes)) c.args.word.now c.loop-i.i (omega (arith, c.loop-i.invariant.within)) (omega arith) c.loop-i.invariant.same c.if-rest-i.true),
    )

pub returns : goal.returns
returns c =
    let bytes = c.args.bytes.now in
    let at = c.args.at in
    let there = word_there bytes (take (length bytes - at) (drop at bytes)) c.args.word.now at c.loop-i.i c.requires (omega arith) (take_rest bytes at) c.loop-i.invariant.within c.loop-i.invariant.same in
    (refl, there.0, there.1)
