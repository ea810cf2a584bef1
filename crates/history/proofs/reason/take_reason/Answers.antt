use Rattle.std.proofs.Common.{◌≡◌, Some, None, sym, ◌∙◌}
use Rattle.history.specs.Taken.{numbers_after}
use Rattle.history.proofs.ReasonLemmas.{lacks_name, lacks_numbers}
use Rattle.history.proofs.reason.take_reason.Goals as goal

pub returns-in_err-count : goal.returns-in_err-count
returns-in_err-count c =
    let named : numbers_after c.in_ok-code.code ≡ None = sym c.numbers_after.ensures ∙ c.in_err-count.was in
    rw c.from_residual-in_err-count.ensures (lacks_name c.args.bytes.now c.in_ok-code.code c.in_ok-code.rest.now c.in_ok-code.ensures named)

pub returns-in_err-numbers : goal.returns-in_err-numbers
returns-in_err-numbers c =
    let named : numbers_after c.in_ok-code.code ≡ Some c.in_ok-count.count = sym c.numbers_after.ensures ∙ c.in_ok-count.was in
    rw c.from_residual-in_err-numbers.ensures
    (lacks_numbers c.args.bytes.now c.in_ok-code.code c.in_ok-count.count c.in_ok-code.rest.now c.in_ok-code.ensures named c.in_err-numbers.ensures)
