use Rattle.std.proofs.Common.{sym}
use Rattle.c_tree.proofs.NumberLemmas.{number_before, number_now}
use Rattle.c_tree.proofs.index.add_number.Goals as goal

pub returns-in-Some : goal.returns-in-Some
returns-in-Some c = λ xs gives at. number_before c.args.numbers.now xs c.args.name.now _ gives (sym c.in-Some.ensures.value)

pub returns-in_ok-insert-in-None : goal.returns-in_ok-insert-in-None
returns-in_ok-insert-in-None c = λ xs gives at.
    number_now c.args.numbers.now c.insert.new.self _ xs c.args.name.now _ gives (sym c.in-None.ensures.value) c.in_ok-clone-in-None.ensures.cases at c.in_ok-insert-in-None.ensures.updates.0
