use Rattle.patch_maker.proofs.MakerLemmas.{made}
use Rattle.patch_maker.proofs.maker.make_patch.Goals as goal

pub invariant_of-result : goal.invariant_of-result
invariant_of-result c =
    let is = made c.args.old c.args.new c.args.mapping.now c.as_slice.result.now c.in_ok-entries.entries.items c.from_vec.result c.requires.form c.as_slice.ensures
    c.in_ok-entries.ensures c.from_vec.ensures in
    (is.0, is.1, c.requires.old_limit, c.requires.new_limit)
