use Rattle.name_index.proofs.FoundLemmas.{field_is}
use Rattle.name_index.proofs.file.File.field.Goals as goal

pub returns-in-Some-Some : goal.returns-in-Some-Some
returns-in-Some-Some c =
    field_is _ c.in-Some-Some.owner.now c.in-Some-Some.fields.now c.args.name.now c.as_slice.result.now _
    c.in-Some-Some.ensures c.in-Some-Some.ensures' c.as_slice.ensures c.at_number.ensures
