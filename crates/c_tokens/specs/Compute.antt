-- What unfolds when the definitions run on a literal text: `unfolding texts`.
unfoldable pub texts : Unit {0}
unfolding
    Rattle.c_tokens.specs.Quoted.up_to_quote
    Rattle.c_tokens.specs.Quoted.text_of
    Rattle.c_tokens.specs.Comment.up_to_close
    Rattle.c_tokens.specs.Tokens.tokens_from
    Rattle.c_tokens.specs.Source.scan_from
texts = tt
