use Rattle.std.proofs.Common.{◌∙◌, arith}
use Rattle.lower.proofs.FunctionLemmas.{numbered-code}
use Rattle.lower.proofs.program.lower_function.Goals as goal

pub returns-clause-code : goal.returns-clause-code
returns-clause-code c =
    numbered-code c.code_with.result c.args.program.now c.args.function.now c.as_slice.result.now c.in_ok-past.past c.args.row.now c.args.texts.now.items c.number_texts.new.texts.items
    c.requires.places (c.as_slice.ensures.value ∙ c.in_ok-at.ensures.numbers) (omega (arith, c.in_ok-past.ensures, c.len.ensures, c.number_texts.new.texts.ok)) c.in_ok-at.ensures.texts c.code_with.ensures
