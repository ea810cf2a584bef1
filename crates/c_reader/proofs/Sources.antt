-- From the machine's answer to what is said of a source.
use Rattle.std.proofs.Common.{◌≡◌, ℕ, ◌<◌, ◌≤◌, List, [], ◌∷◌, length, get_or, Option, Some, None, Result, Ok, Err, MatchResult, refl, sym, ◌∙◌, subst, map}
use Rattle.std.proofs.lemmas.List.{length-map}
use Rattle.std.proofs.lemmas.Option.{slice_get-get_or}
use Rattle.c_tree.specs.declared.cause.ReadCause.{ReadCause}
use Rattle.c_tree.specs.declared.cause.ReadCause.TheVariants as cause
use Rattle.c_tree.specs.declared.program.At.{At}
use Rattle.c_tree.specs.declared.program.Program.{Program}
use Rattle.c_tokens.specs.declared.lexeme.Lexeme.{Lexeme}
use Rattle.c_tokens.specs.declared.lexeme.LexemeKind.TheVariants as kinds
use Rattle.c_tokens.specs.declared.lexeme.Scan.{Scan}
use Rattle.c_tokens.specs.Source.{scan_of}
use Rattle.c_grammar.specs.declared.symbol.Symbol.{Symbol}
use Rattle.c_grammar.specs.declared.value.Value.{Value}
use Rattle.c_grammar.specs.Pieces.{Piece, lexeme_piece}
use Rattle.c_grammar.specs.Values.{program_in}
use Rattle.c_grammar.specs.Effects.{State}
use Rattle.c_grammar.specs.Rules.{alternatives, start}
use Rattle.c_grammar.specs.Reading.{Test, Any, Aim, Part, Whole, Goes, stop, end, take_token, pass, act, expand, IsLive, IsFirst, IsCutShort, IsReading}
use Rattle.c_grammar.specs.Source.{pieces_of, IsProgramIn, IsFaultIn, at_token, at_scan, at_end, IsProgramOf, IsFirstFault, within}
use Rattle.c_tokens.specs.declared.refused.ReadRefused.{ReadRefused}
use Rattle.c_tokens.specs.declared.refused.ReadRefused.TheVariants as refused
use Rattle.c_reader.specs.Refusal.{IsRefusal, IsRefusalIn}
use Rattle.c_reader.proofs.Kept.{kept_lexeme}
use Rattle.c_reader.proofs.Trees.{AllKept, whole_is}

goes_live : {symbols : List Symbol} {state : State} {values : List Value} {ps : List Piece} → Goes alternatives (Whole values) symbols state ps → Goes alternatives (Part Any) symbols state ps
goes_live (stop ok) = absurd ok
goes_live (end e) = stop tt
goes_live (take_token e g) = take_token e (goes_live g)
goes_live (pass n g) = pass n (goes_live g)
goes_live (act g) = act (goes_live g)
goes_live (expand m g) = expand m (goes_live g)

pub reading_live : (begin : List Symbol) (ps : List Piece) (values : List Value) → IsReading begin ps values → IsLive begin ps
reading_live begin ps values r = goes_live r.reads

all_kept : (ls : List Lexeme) → AllKept (map lexeme_piece ls)
all_kept [] = tt
all_kept (l ∷ ls) = (kept_lexeme l, all_kept ls)

pub program_here : (scan : Scan) (len : ℕ) (values : List Value) (program : Program) → IsReading start (pieces_of scan) values → scan.fault ≡ None
    → program ≡ record (program_in values) { len = len } → IsProgramIn scan len program
program_here scan len values program r n e = record {
  clean = n;
  read = program_in values;
  reading = subst (λ v. IsReading start (pieces_of scan) v) (whole_is values (pieces_of scan) (all_kept scan.lexemes) r.reads) r;
  whole = e;
}

pub fault_behind : (scan : Scan) (len : ℕ) (values : List Value) (why : At ReadCause) → IsReading start (pieces_of scan) values → scan.fault ≡ Some why → IsFaultIn scan len why.at why.it
fault_behind scan len values why r e = at_scan e (reading_live start (pieces_of scan) values r) r.sound

pub fault_behind_cut : (scan : Scan) (len : ℕ) (why : At ReadCause) → IsCutShort start (pieces_of scan) → scan.fault ≡ Some why → IsFaultIn scan len why.at why.it
fault_behind_cut scan len why c e = at_scan e c.live c.sound

pub fault_at_end : (scan : Scan) (len : ℕ) → IsCutShort start (pieces_of scan) → scan.fault ≡ None → IsFaultIn scan len len cause.Unexpected
fault_at_end scan len c e = at_end e refl refl c

pub fault_here : (scan : Scan) (len i : ℕ) (d : Lexeme) (c : ReadCause) → IsFirst start (pieces_of scan) i c → IsFaultIn scan len (get_or scan.lexemes i d).at c
fault_here scan len i d c f =
    let lt' : i < length (pieces_of scan) = f.within in
    let lt : i < length scan.lexemes = rw length-map at lt' in
    at_token i (get_or scan.lexemes i d) (slice_get-get_or scan.lexemes i d lt) refl f

pub within_lexemes : (ls : List Lexeme) (i : ℕ) (c : ReadCause) → IsFirst start (map lexeme_piece ls) i c → i < length ls
within_lexemes ls i c f = let lt : i < length (map lexeme_piece ls) = f.within in rw length-map at lt

pub program_whole : (bytes : List ℕ) (scan : Scan) (program : Program) → length bytes ≤ 1048576 → scan ≡ scan_of bytes → IsProgramIn scan (length bytes) program → IsProgramOf bytes program
program_whole bytes scan program le e p = record { short = le; is = subst (λ s. IsProgramIn s (length bytes) program) e p }

refusal_whole : (bytes : List ℕ) (scan : Scan) (r : ReadRefused) → length bytes ≤ 1048576 → scan ≡ scan_of bytes → IsRefusalIn scan (length bytes) r → IsRefusal bytes r
refusal_whole bytes scan (refused.At at c) le e p = within le (subst (λ s. IsFaultIn s (length bytes) at c) e p)
refusal_whole bytes scan (refused.Memory m) le e p = tt

pub whole_answer : (bytes : List ℕ) (scan : Scan) (r : Result Program ReadRefused) → length bytes ≤ 1048576 → scan ≡ scan_of bytes
    → MatchResult r (IsProgramIn scan (length bytes)) (IsRefusalIn scan (length bytes)) → MatchResult r (IsProgramOf bytes) (IsRefusal bytes)
whole_answer bytes scan (Ok program) le e h = program_whole bytes scan program le e h
whole_answer bytes scan (Err r) le e h = refusal_whole bytes scan r le e h
