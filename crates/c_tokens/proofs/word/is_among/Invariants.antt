use Rattle.std.proofs.Common.{◌≡◌, drop}
use Rattle.std.specs.Prelude.{map}
use Rattle.c_tokens.specs.Word.{is_among}
use Rattle.c_tokens.proofs.word.is_among.Given as goal

abbrev pub invariant-words : goal.invariant-words
invariant-words l = is_among (map (λ w. w.now) l.words) l.word ≡ is_among (map (λ w. w.now) (drop l.w-index l.words)) l.word
