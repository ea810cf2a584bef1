use Rattle.frame_transform.proofs.FunctionLemmas.{function_appended, short_body}
use Rattle.frame_transform.proofs.function.append_function.Goals as goal

pub append_body-requires : goal.append_body-requires
append_body-requires c = short_body c.args.function.now c.as_slice.result.now c.args.row.now c.as_slice.ensures c.requires.row c.requires.short

pub returns : goal.returns
returns c =
    function_appended c.append_closing.result c.args.inside.now.program.now c.args.inside.now.function c.args.function.now c.as_slice.result.now c.args.out.now.items c.append_opening.new.out.items c.append_body.new.out.items c.append_closing.new.out.items
    c.requires.numbered c.as_slice.ensures c.in_ok-append_opening.ensures c.in_ok-append_body.ensures c.append_closing.ensures
