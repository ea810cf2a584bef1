use Rattle.history.proofs.LineLemmas.{lacks_worker, lacks_space, lacks_rest, takes_line}
use Rattle.history.proofs.line.take_line.Goals as goal

pub returns-in_err-worker : goal.returns-in_err-worker
returns-in_err-worker c = rw c.from_residual.ensures (lacks_worker c.args.bytes.now c.in_err-worker.ensures)

pub returns-in_err-rest : goal.returns-in_err-rest
returns-in_err-rest c =
    rw c.from_residual-in_err-rest.ensures (lacks_space c.args.bytes.now c.in_ok-worker.worker c.in_ok-worker.rest.now c.in_ok-worker.ensures c.in_err-rest.ensures)

pub returns-in_err-kind : goal.returns-in_err-kind
returns-in_err-kind c =
    rw c.from_residual-in_err-kind.ensures (lacks_rest c.args.bytes.now c.in_ok-worker.worker c.in_ok-worker.rest.now c.in_ok-rest.rest.now c.in_ok-worker.ensures c.in_ok-rest.ensures c.in_err-kind.ensures)

pub returns : goal.returns
returns c =
    takes_line (record { worker = c.in_ok-worker.worker; kind = c.in_ok-kind.kind }) c.args.bytes.now c.in_ok-worker.rest.now c.in_ok-rest.rest.now c.in_ok-kind.rest.now c.in_ok-worker.ensures c.in_ok-rest.ensures c.in_ok-kind.ensures
