use Rattle.patch_file.proofs.Made.{made_read_back}
use Rattle.patch_file.proofs.laws.made_patches_read_back.Goals as goal

pub returns : goal.returns
returns c = made_read_back c.bytes_have_one_answer.ensures
