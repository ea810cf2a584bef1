use Rattle.std.specs.Prelude.{codes}
use Rattle.frame_transform.specs.Line.{numbered}
use Rattle.frame_transform.specs.TargetText.{empty_call}
use Rattle.frame_transform.proofs.LineLemmas.{two_appended}
use Rattle.frame_transform.proofs.rebuild.append_rebuild_call.Goals as goal

pub returns : goal.returns
returns c =
    two_appended c.append_empty_call.result (numbered (codes "UP_REBUILD(") c.args.n (codes "): ")) (empty_call c.args.program.now c.args.function) c.args.out.now.items c.append_numbered.new.out.items c.append_empty_call.new.out.items
    c.in_ok-append_numbered.ensures c.append_empty_call.ensures
