use Rattle.theorems.proofs.WholePatches.{armed_by}
use Rattle.theorems.proofs.runs.whole_patches_arm_well.Goals as goal

pub returns : goal.returns
returns c = λ source p patch accepted whole of.
    armed_by source p patch accepted whole of c.accepted_programs_are_formed.ensures c.a_source_has_one_verdict.ensures c.lifted_entries_are_sound.ensures c.mappings_have_their_form.ensures
