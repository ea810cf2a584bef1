use Rattle.std.specs.Prelude.{codes}
use Rattle.frame_transform.proofs.NameLemmas.{named_appended}
use Rattle.frame_transform.proofs.statements.append_new.Goals as goal

pub returns : goal.returns
returns c =
    named_appended c.append_named.result _ (codes " = malloc(sizeof(struct ") c.struct_name-name.result.now _ (codes "));") c.args.out.now.items c.append_slot.new.out.items c.append_named.new.out.items
    c.struct_name-name.ensures c.in_ok-append_slot.ensures c.append_named.ensures
