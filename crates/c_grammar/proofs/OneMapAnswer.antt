-- The text of a mapping has at most one answer.
use Rattle.std.proofs.Common.{◌≡◌, ℕ, List, [], ◌∷◌, length, sym, ◌∙◌, ap, Option, Some, None}
use Rattle.std.specs.Prelude.{slice_get}
use Rattle.c_tree.specs.declared.program.At.{At}
use Rattle.c_tree.specs.declared.mapping.Mapping.{Mapping}
use Rattle.c_tree.specs.declared.cause.ReadCause.{ReadCause}
use Rattle.c_tokens.specs.declared.text_scan.TextScan.{TextScan}
use Rattle.c_tokens.specs.Text.{text_of}
use Rattle.c_grammar.specs.declared.symbol.Symbol.{Symbol}
use Rattle.c_grammar.specs.declared.value.Value.TheVariants as value
use Rattle.c_grammar.specs.Mapping.{map_pieces, IsMappingIn, IsMapFaultIn, at_token, at_scan, at_end, OneMapAnswer}
use Rattle.c_grammar.proofs.OneAnswer.{some_is, first_is_one, no_fault}

one_read : (m n : Mapping) → value.Mapping m ∷ [] ≡ value.Mapping n ∷ [] → m ≡ n
one_read m n e = cc

same_mapping : (begin : List Symbol) (scan : TextScan) (m n : Mapping) → IsMappingIn begin scan m → IsMappingIn begin scan n → m ≡ n
same_mapping begin scan m n a b = one_read m n (b.reading.only _ a.reading.reads)

same_fault : (begin : List Symbol) (scan : TextScan) (len a b : ℕ) (c d : ReadCause) → IsMapFaultIn begin scan len a c → IsMapFaultIn begin scan len b d → (a ≡ b) × (c ≡ d)
same_fault begin scan len a b c d (at_token i t s e f) (at_token j u s' e' g) =
    let both = first_is_one begin (map_pieces scan) i j c d f g in
    let same : t ≡ u = some_is (sym s ∙ ap (λ x. slice_get scan.tokens x) both.0 ∙ s') in
    (e ∙ ap (λ x. x.at) same ∙ sym e', both.1)
same_fault begin scan len a b c d (at_token i t s e f) (at_scan g live sound) = absurd (sound i c f.within f.here)
same_fault begin scan len a b c d (at_token i t s e f) (at_end n e' g cut) = absurd (cut.sound i c f.within f.here)
same_fault begin scan len a b c d (at_scan g live sound) (at_token j u s' e' f) = absurd (sound j d f.within f.here)
same_fault begin scan len a b c d (at_scan g live sound) (at_scan g' live' sound') =
    let same : ◌≡◌ {A = At ReadCause} (record { at = a; it = c }) (record { at = b; it = d }) = some_is (sym g ∙ g') in
    (ap (λ x. x.at) same, ap (λ x. x.it) same)
same_fault begin scan len a b c d (at_scan g live sound) (at_end n e' g' cut) = absurd (no_fault _ _ n g)
same_fault begin scan len a b c d (at_end n e g cut) (at_token j u s' e' f) = absurd (cut.sound j d f.within f.here)
same_fault begin scan len a b c d (at_end n e g cut) (at_scan g' live sound) = absurd (no_fault _ _ n g')
same_fault begin scan len a b c d (at_end n e f cut) (at_end n' e' f' cut') = (e ∙ sym e', f ∙ sym f')

not_both : (begin : List Symbol) (scan : TextScan) (len a : ℕ) (m : Mapping) (c : ReadCause) → IsMappingIn begin scan m → IsMapFaultIn begin scan len a c → ⊥
not_both begin scan len a m c r (at_token i t s e f) = r.reading.sound i c f.within f.here
not_both begin scan len a m c r (at_scan g live sound) = no_fault _ _ r.clean g
not_both begin scan len a m c r (at_end n e f cut) = cut.here _ r.reading.reads

pub one_map_answer : (begin : List Symbol) → OneMapAnswer begin
one_map_answer begin = record {
  one_mapping = λ bytes m n a b. same_mapping begin (text_of bytes) m n a b;
  one_fault = λ bytes a b c d f g. same_fault begin (text_of bytes) (length bytes) a b c d f g;
  never_both = λ bytes a m c r f. not_both begin (text_of bytes) (length bytes) a m c r f;
}
