use Rattle.thread_machine.proofs.PartLemmas.{calls_ascend}
use Rattle.thread_machine.proofs.part.position.Goals as goal

pub part_of-requires : goal.part_of-requires
part_of-requires c = calls_ascend c.args.code.now c.index-frames-0.result.function c.requires.code
