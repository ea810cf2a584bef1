-- From the machine's answer to what is said of a mapping.
use Rattle.std.proofs.Common.{◌≡◌, inl, inr, ℕ, ◌<◌, List, [], ◌∷◌, length, get_or, Option, Some, None, Result, MatchResult, refl, sym, ◌∙◌, ap, subst, map}
use Rattle.std.proofs.lemmas.List.{length-map}
use Rattle.std.proofs.lemmas.Option.{slice_get-get_or, slice_get-map}
use Rattle.std.specs.Option.{option_map}
use Rattle.c_tree.specs.declared.cause.ReadCause.{ReadCause}
use Rattle.c_tree.specs.declared.cause.ReadCause.TheVariants as cause
use Rattle.c_tree.specs.declared.mapping.Mapping.{Mapping}
use Rattle.c_tree.specs.declared.program.At.{At}
use Rattle.c_tree.specs.declared.token.Token.{Token}
use Rattle.c_tokens.specs.declared.text_scan.TextScan.{TextScan}
use Rattle.c_tokens.specs.Text.{scanned, text_of}
use Rattle.c_grammar.specs.declared.readable.MapToken.{MapToken}
use Rattle.c_grammar.specs.declared.symbol.Symbol.{Symbol}
use Rattle.c_grammar.specs.declared.value.Value.{Value}
use Rattle.c_grammar.specs.declared.value.Value.TheVariants as value
use Rattle.c_grammar.specs.Effects.{empty}
use Rattle.c_grammar.specs.Pieces.{Piece, map_piece}
use Rattle.c_grammar.specs.Values.{mapping_in}
use Rattle.c_grammar.specs.Rules.{map_start, first_map_start, alternatives}
use Rattle.c_grammar.specs.Reading.{Whole, Goes, IsFirst, IsCutShort, IsReading}
use Rattle.c_grammar.specs.Mapping.{map_pieces, IsMappingIn, IsMapFaultIn, at_token, at_scan, at_end}
use Rattle.c_reader.specs.declared.found.Found.{Found}
use Rattle.c_reader.specs.Follow.{FitsReader}
use Rattle.c_reader.specs.Outcome.{Parses}
use Rattle.c_reader.proofs.Kept.{kept_map_token}
use Rattle.c_reader.proofs.Outcomes.{at_case}
use Rattle.c_reader.proofs.Sources.{reading_live}
use Rattle.c_reader.proofs.Trees.{AllKept, mapping_is, first_mapping_is}
use Rattle.map_lang.specs.declared.refused.MapRefused.{MapRefused}
use Rattle.map_lang.specs.Formats.{IsMapStart}
use Rattle.map_lang.specs.Refusal.{IsRefusalIn}

pub map_fits : FitsReader map_start
map_fits = (refl, (λ k b m. m, tt))

pub first_fits : FitsReader first_map_start
first_fits = (refl, (λ k b m. m, tt))

pub start_fits : (begin : List Symbol) → IsMapStart begin → FitsReader begin
start_fits begin (inl e) = subst FitsReader (sym e) map_fits
start_fits begin (inr e) = subst FitsReader (sym e) first_fits

-- the tokens without the mapping's view of them
abbrev pub plain : List MapToken → List Token
plain ms = map (λ m. m.token) ms

pieces_are : (ms : List MapToken) → map (λ m. map_piece m.token) ms ≡ map map_piece (plain ms)
pieces_are [] = refl
pieces_are (m ∷ ms) = ap (λ ps. map_piece m.token ∷ ps) (pieces_are ms)

-- The machine's answer is of the tokens.
pub answer_at : (begin : List Symbol) (ms : List MapToken) (p q : Found) → Parses begin (map (λ m. map_piece m.token) ms) p → p ≡ q → Parses begin (map map_piece (plain ms)) q
answer_at begin ms p q h e = subst (λ ps. Parses begin ps q) (pieces_are ms) (at_case begin (map (λ m. map_piece m.token) ms) p q h e)

pub all_kept : (ts : List Token) → AllKept (map map_piece ts)
all_kept [] = tt
all_kept (t ∷ ts) = (kept_map_token t, all_kept ts)

-- What is left is one mapping.
mapping_left : (begin : List Symbol) (values : List Value) (ps : List Piece) → IsMapStart begin → AllKept ps → Goes alternatives (Whole values) begin empty ps
    → values ≡ value.Mapping (mapping_in values) ∷ []
mapping_left begin values ps (inl e) w g = mapping_is values ps w (subst (λ x. Goes alternatives (Whole values) x empty ps) e g)
mapping_left begin values ps (inr e) w g = first_mapping_is values ps w (subst (λ x. Goes alternatives (Whole values) x empty ps) e g)

pub mapping_here : (begin : List Symbol) (scan : TextScan) (values : List Value) (mapping : Mapping) → IsMapStart begin → IsReading begin (map_pieces scan) values → scan.fault ≡ None
    → mapping ≡ mapping_in values → IsMappingIn begin scan mapping
mapping_here begin scan values mapping start r n e = rw e (record {
  clean = n;
  reading = subst (λ v. IsReading begin (map_pieces scan) v) (mapping_left begin values (map_pieces scan) start (all_kept scan.tokens) r.reads) r;
})

pub fault_behind : (begin : List Symbol) (scan : TextScan) (len : ℕ) (values : List Value) (why : At ReadCause) → IsReading begin (map_pieces scan) values → scan.fault ≡ Some why
    → IsMapFaultIn begin scan len why.at why.it
fault_behind begin scan len values why r e = at_scan e (reading_live begin (map_pieces scan) values r) r.sound

pub fault_behind_cut : (begin : List Symbol) (scan : TextScan) (len : ℕ) (why : At ReadCause) → IsCutShort begin (map_pieces scan) → scan.fault ≡ Some why → IsMapFaultIn begin scan len why.at why.it
fault_behind_cut begin scan len why c e = at_scan e c.live c.sound

pub fault_at_end : (begin : List Symbol) (scan : TextScan) (len : ℕ) → IsCutShort begin (map_pieces scan) → scan.fault ≡ None → IsMapFaultIn begin scan len len cause.Unexpected
fault_at_end begin scan len c e = at_end e refl refl c

pub fault_here : (begin : List Symbol) (scan : TextScan) (len i : ℕ) (d : Token) (c : ReadCause) → IsFirst begin (map_pieces scan) i c → IsMapFaultIn begin scan len (get_or scan.tokens i d).at c
fault_here begin scan len i d c f =
    let lt' : i < length (map_pieces scan) = f.within in
    let lt : i < length scan.tokens = rw length-map at lt' in
    at_token i (get_or scan.tokens i d) (slice_get-get_or scan.tokens i d lt) refl f

pub within_tokens : (begin : List Symbol) (ms : List MapToken) (i : ℕ) (c : ReadCause) → IsFirst begin (map map_piece (plain ms)) i c → i < length ms
within_tokens begin ms i c f = let lt : i < length (map map_piece (plain ms)) = f.within in rw (length-map, length-map) at lt

-- The same, where the fault is named by the mapping's view of the token.
pub fault_seen : (begin : List Symbol) (ms : List MapToken) (fault : Option (At ReadCause)) (len i : ℕ) (d : MapToken) (c : ReadCause) → IsFirst begin (map map_piece (plain ms)) i c
    → IsMapFaultIn begin (scanned (plain ms) fault) len (get_or ms i d).token.at c
fault_seen begin ms fault len i d c f =
    at_token i (get_or ms i d).token (slice_get-map (λ m. m.token) ms i ∙ ap (option_map (λ m. m.token)) (slice_get-get_or ms i d (within_tokens begin ms i c f))) refl f

-- What is said of a scan is said of the text.
pub whole_answer : (begin : List Symbol) (bytes : List ℕ) (scan : TextScan) (r : Result Mapping MapRefused) → scan ≡ text_of bytes
    → MatchResult r (IsMappingIn begin scan) (IsRefusalIn begin scan (length bytes)) → MatchResult r (IsMappingIn begin (text_of bytes)) (IsRefusalIn begin (text_of bytes) (length bytes))
whole_answer begin bytes scan r e h = subst (λ s. MatchResult r (IsMappingIn begin s) (IsRefusalIn begin s (length bytes))) e h

-- Tokens that are viewed so and back are the same.
pub viewed : (ts : List Token) → plain (map (λ t. record { token = t }) ts) ≡ ts
viewed [] = refl
viewed (t ∷ ts) = ap (λ xs. t ∷ xs) (viewed ts)

-- The scan that the machine reads is that of the text.
pub scan_is : (bytes : List ℕ) (scan : TextScan) (ms : List MapToken) → scan ≡ text_of bytes → ms ≡ map (λ t. record { token = t }) scan.tokens → scanned (plain ms) scan.fault ≡ text_of bytes
scan_is bytes scan ms e m = ap (λ ts. scanned ts scan.fault) (ap plain m ∙ viewed scan.tokens) ∙ e
