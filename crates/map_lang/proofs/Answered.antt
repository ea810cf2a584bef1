-- Each text is a mapping or has a first fault.
use Rattle.std.proofs.Common.{◌≡◌, ℕ, inl, inr, List, length, Option, Some, None, refl}
use Rattle.c_tree.specs.declared.cause.ReadCause.{ReadCause}
use Rattle.c_tree.specs.declared.cause.ReadCause.TheVariants as cause
use Rattle.c_tree.specs.declared.program.At.{At}
use Rattle.c_tree.specs.declared.token.TokenKind.TheVariants as token
use Rattle.c_tokens.specs.Text.{text_of}
use Rattle.c_grammar.specs.declared.symbol.Symbol.{Symbol}
use Rattle.c_grammar.specs.Values.{mapping_in}
use Rattle.c_grammar.specs.Mapping.{map_pieces}
use Rattle.c_reader.proofs.Answered.{Parsed, parsed}
use Rattle.map_lang.specs.Formats.{IsMapStart}
use Rattle.map_lang.specs.Answered.{IsAnswered, EachIsAnswered}
use Rattle.map_lang.proofs.Readings.{start_fits, mapping_here, fault_behind, fault_behind_cut, fault_at_end, fault_here}

by_reading : (begin : List Symbol) (bytes : List ℕ) → IsMapStart begin → Parsed begin (map_pieces (text_of bytes)) → IsAnswered begin bytes
by_reading begin bytes start (inl (values, r)) = go (text_of bytes).fault refl
  where
    go : (o : Option (At ReadCause)) → (text_of bytes).fault ≡ o → IsAnswered begin bytes
    go None e = inl (mapping_in values, mapping_here begin (text_of bytes) values (mapping_in values) start r e refl)
    go (Some why) e = inr (why.at, why.it, fault_behind begin (text_of bytes) (length bytes) values why r e)
by_reading begin bytes start (inr (inl (i, c, f))) = inr (_, c, fault_here begin (text_of bytes) (length bytes) i (record { kind = token.Punct 0; at = 0; len = 0 }) c f)
by_reading begin bytes start (inr (inr cut)) = go (text_of bytes).fault refl
  where
    go : (o : Option (At ReadCause)) → (text_of bytes).fault ≡ o → IsAnswered begin bytes
    go None e = inr (length bytes, cause.Unexpected, fault_at_end begin (text_of bytes) (length bytes) cut e)
    go (Some why) e = inr (why.at, why.it, fault_behind_cut begin (text_of bytes) (length bytes) why cut e)

pub answered : (begin : List Symbol) → IsMapStart begin → EachIsAnswered begin
answered begin start bytes = by_reading begin bytes start (parsed begin (map_pieces (text_of bytes)) (start_fits begin start))
