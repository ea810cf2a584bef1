-- A file has at most one answer.
use Rattle.std.proofs.Common.{◌≡◌, ℕ, ◌<◌, ◌≤◌, ◌⊎◌, inl, inr, List, [], ◌∷◌, sym, ◌∙◌, ap, Option, Some, None, arith, length, subst}
use Rattle.std.specs.Prelude.{slice_get}
use Rattle.std.proofs.lemmas.Option.{slice_get_within}
use Rattle.c_tree.specs.declared.program.At.{At}
use Rattle.c_tokens.specs.declared.lexeme.Scan.{Scan}
use Rattle.c_tokens.specs.Source.{scan_of}
use Rattle.c_tree.specs.declared.program.Program.{Program}
use Rattle.c_tree.specs.declared.cause.ReadCause.{ReadCause}
use Rattle.c_tree.specs.declared.cause.ReadCause.TheVariants as cause
use Rattle.c_grammar.specs.declared.symbol.Symbol.{Symbol}
use Rattle.c_grammar.specs.declared.value.Value.{Value}
use Rattle.c_grammar.specs.declared.value.Value.TheVariants as value
use Rattle.c_grammar.specs.Tokens.{text_of}
use Rattle.c_grammar.specs.Values.{word_in}
use Rattle.c_grammar.specs.Rules.{start}
use Rattle.c_grammar.specs.Pieces.{Piece}
use Rattle.c_grammar.specs.Reading.{IsFault, rank, IsFirst, IsCutShort, IsReading}
use Rattle.c_grammar.specs.Source.{pieces_of, IsProgramIn, IsFaultIn, at_token, at_scan, at_end, IsProgramOf, IsFirstFault, too_long, within, OneAnswer}

pub some_is : {X : Type 0} {x y : X} → Some x ≡ Some y → x ≡ y
some_is e = cc

one_program : (p q : Program) → value.Program p ∷ [] ≡ value.Program q ∷ [] → p ≡ q
one_program p q e = cc

same_program : (scan : Scan) (len : ℕ) (p q : Program) → IsProgramIn scan len p → IsProgramIn scan len q → p ≡ q
same_program scan len p q a b =
    let e : a.read ≡ b.read = one_program a.read b.read (b.reading.only _ a.reading.reads) in
    a.whole ∙ ap {A = Program} (λ x. record x { len = len }) e ∙ sym b.whole

order : (i j : ℕ) → (i < j) ⊎ ((j < i) ⊎ (i ≡ j))
order i j = grind arith

same_cause : (begin : List Symbol) (ps : List Piece) (i : ℕ) (c d : ReadCause) → rank c ≡ rank d → IsFault begin ps i c → IsFault begin ps i d → c ≡ d
same_cause begin ps i (cause.LeftOut v) (cause.LeftOut w) e (p, f, k, g) (q, f', k', g') =
    let same : p ≡ q = some_is (sym f ∙ f') in ap cause.LeftOut (g ∙ ap (λ x. text_of (word_in (x.value ∷ [])).kind) same ∙ sym g')
same_cause begin ps i cause.TooDeep cause.TooDeep e h h' = cc
same_cause begin ps i cause.Unexpected cause.Unexpected e h h' = cc
same_cause begin ps i cause.TooLong d e h h' = absurd h
same_cause begin ps i cause.BadByte d e h h' = absurd h
same_cause begin ps i cause.BadToken d e h h' = absurd h
same_cause begin ps i cause.Unclosed d e h h' = absurd h
same_cause begin ps i cause.Literal d e h h' = absurd h
same_cause begin ps i c cause.TooLong e h h' = absurd h'
same_cause begin ps i c cause.BadByte e h h' = absurd h'
same_cause begin ps i c cause.BadToken e h h' = absurd h'
same_cause begin ps i c cause.Unclosed e h h' = absurd h'
same_cause begin ps i c cause.Literal e h h' = absurd h'
same_cause begin ps i (cause.LeftOut v) cause.TooDeep e h h' = absurd (omega arith)
same_cause begin ps i (cause.LeftOut v) cause.Unexpected e h h' = absurd (omega arith)
same_cause begin ps i cause.TooDeep (cause.LeftOut w) e h h' = absurd (omega arith)
same_cause begin ps i cause.TooDeep cause.Unexpected e h h' = absurd (omega arith)
same_cause begin ps i cause.Unexpected (cause.LeftOut w) e h h' = absurd (omega arith)
same_cause begin ps i cause.Unexpected cause.TooDeep e h h' = absurd (omega arith)

pub first_is_one : (begin : List Symbol) (ps : List Piece) (i j : ℕ) (c d : ReadCause) → IsFirst begin ps i c → IsFirst begin ps j d → (i ≡ j) × (c ≡ d)
first_is_one begin ps i j c d f g = elim (order i j) [
  | inl lt ↦ absurd (g.sound i c lt f.here)
  | inr (inl lt) ↦ absurd (f.sound j d lt g.here)
  | inr (inr e) ↦ at_one i j e f g
]
  where
    causes : (i : ℕ) → IsFirst begin ps i c → IsFirst begin ps i d → c ≡ d
    causes i f g = elim (order (rank c) (rank d)) [
      | inl lt ↦ absurd (g.least c lt f.here)
      | inr (inl lt) ↦ absurd (f.least d lt g.here)
      | inr (inr e) ↦ same_cause begin ps i c d e f.here g.here
    ]

    at_one : (i j : ℕ) → i ≡ j → IsFirst begin ps i c → IsFirst begin ps j d → (i ≡ j) × (c ≡ d)
    at_one i j e f g = (e, causes j (subst (λ x. IsFirst begin ps x c) e f) g)

pub no_fault : {X : Type 0} (o : Option X) (x : X) → o ≡ None → o ≡ Some x → ⊥
no_fault o x e f = let g : None ≡ Some x = sym e ∙ f in cc

same_fault : (scan : Scan) (len a b : ℕ) (c d : ReadCause) → IsFaultIn scan len a c → IsFaultIn scan len b d → (a ≡ b) × (c ≡ d)
same_fault scan len a b c d (at_token i t s e f) (at_token j u s' e' g) =
    let both = first_is_one start (pieces_of scan) i j c d f g in
    let same : t ≡ u = some_is (sym s ∙ ap (λ x. slice_get scan.lexemes x) both.0 ∙ s') in
    (e ∙ ap (λ x. x.at) same ∙ sym e', both.1)
same_fault scan len a b c d (at_token i t s e f) (at_scan g live sound) = absurd (sound i c f.within f.here)
same_fault scan len a b c d (at_token i t s e f) (at_end n e' g cut) = absurd (cut.sound i c f.within f.here)
same_fault scan len a b c d (at_scan g live sound) (at_token j u s' e' f) = absurd (sound j d f.within f.here)
same_fault scan len a b c d (at_scan g live sound) (at_scan g' live' sound') =
    let same : ◌≡◌ {A = At ReadCause} (record { at = a; it = c }) (record { at = b; it = d }) = some_is (sym g ∙ g') in
    (ap (λ x. x.at) same, ap (λ x. x.it) same)
same_fault scan len a b c d (at_scan g live sound) (at_end n e' g' cut) = absurd (no_fault _ _ n g)
same_fault scan len a b c d (at_end n e g cut) (at_token j u s' e' f) = absurd (cut.sound j d f.within f.here)
same_fault scan len a b c d (at_end n e g cut) (at_scan g' live sound) = absurd (no_fault _ _ n g')
same_fault scan len a b c d (at_end n e f cut) (at_end n' e' f' cut') = (e ∙ sym e', f ∙ sym f')

not_both : (scan : Scan) (len a : ℕ) (p : Program) (c : ReadCause) → IsProgramIn scan len p → IsFaultIn scan len a c → ⊥
not_both scan len a p c r (at_token i t s e f) = r.reading.sound i c f.within f.here
not_both scan len a p c r (at_scan g live sound) = no_fault _ _ r.clean g
not_both scan len a p c r (at_end n e f cut) = cut.here _ r.reading.reads

one_first_fault : (bytes : List ℕ) (a b : ℕ) (c d : ReadCause) → IsFirstFault bytes a c → IsFirstFault bytes b d → (a ≡ b) × (c ≡ d)
one_first_fault bytes a b c d (too_long l e f) (too_long l' e' f') = (e ∙ sym e', f ∙ sym f')
one_first_fault bytes a b c d (too_long l e f) (within l' g) = absurd (omega arith)
one_first_fault bytes a b c d (within l g) (too_long l' e' f') = absurd (omega arith)
one_first_fault bytes a b c d (within l g) (within l' g') = same_fault (scan_of bytes) (length bytes) a b c d g g'

never_both : (bytes : List ℕ) (a : ℕ) (p : Program) (c : ReadCause) → IsProgramOf bytes p → IsFirstFault bytes a c → ⊥
never_both bytes a p c r (too_long l e f) = let s : length bytes ≤ 1048576 = r.short in absurd (omega arith)
never_both bytes a p c r (within l g) = not_both (scan_of bytes) (length bytes) a p c r.is g

pub one_answer : OneAnswer
one_answer = record {
  one_program = λ bytes p q a b. same_program (scan_of bytes) (length bytes) p q a.is b.is;
  one_fault = one_first_fault;
  never_both = never_both;
}
