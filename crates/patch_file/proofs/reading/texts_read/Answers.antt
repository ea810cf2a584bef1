use Rattle.patch_file.proofs.Files.{of_itself}
use Rattle.patch_file.proofs.reading.texts_read.Goals as goal

pub canonical_only-requires-clause-made : goal.canonical_only-requires-clause-made
canonical_only-requires-clause-made c =
    of_itself c.args.frame.now c.in_ok-old.old c.in_ok-new.new c.in_ok-mapping.mapping c.in_ok-patch.patch
    (record { old = c.in_ok-old.ensures.read; new = c.in_ok-new.ensures.read; mapping = c.in_ok-mapping.ensures.read }) c.in_ok-patch.ensures
