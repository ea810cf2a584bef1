use Rattle.c_grammar.proofs.SameWords.{same_words}
use Rattle.c_grammar.proofs.laws.words_are_those_of_the_tokens.Goals as goal

pub returns : goal.returns
returns c = same_words
