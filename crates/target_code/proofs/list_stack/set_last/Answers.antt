use Rattle.std.proofs.Common.{◌∙◌, ◌<◌, subst, sym}
use Rattle.target_code.proofs.StackLemmas.{reverse-set_pc}
use Rattle.target_code.proofs.list_stack.set_last.Goals as goal

pub returns-clause-heads : goal.returns-clause-heads
returns-clause-heads c =
    reverse-set_pc c.args.pc c.args.heads.now.items c.len-last.result c.index_mut.result.now c.index_mut.result.now
    (subst (λ n. 0 < n) (sym c.len-last.ensures) c.requires)
    (c.len-last.ensures ∙ c.args.heads.now.ok.0)
    c.index_mut.ensures.value
