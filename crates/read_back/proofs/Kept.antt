-- Each mapping that is read keeps the limits.
use Rattle.std.specs.Prelude.{◌≡◌, ℕ, List, [], ◌∷◌, map}
use Rattle.std.proofs.Common.{refl, sym, ◌∙◌, subst}
use Rattle.c_tree.specs.declared.token.Token.{Token}
use Rattle.c_grammar.specs.declared.action.Action.TheVariants as action
use Rattle.c_grammar.specs.declared.symbol.Symbol.{Symbol}
use Rattle.c_grammar.specs.declared.value.Value.{Value}
use Rattle.c_grammar.specs.declared.value.Value.TheVariants as value
use Rattle.c_grammar.specs.Effects.{State, effect, empty, with_token}
use Rattle.c_grammar.specs.Mapping.{map_pieces}
use Rattle.c_grammar.specs.Pieces.{Piece, map_piece}
use Rattle.c_grammar.specs.Rules.{map_start}
use Rattle.c_grammar.specs.Tokens.{map_kind_of}
use Rattle.c_grammar.specs.Values.{mapping_in, no_mapping}
use Rattle.c_reader.specs.Depth.{least}
use Rattle.c_reader.specs.Follow.{FitsReader}
use Rattle.c_reader.proofs.Bounded.{Bounded, bounded, done, takes_one, passes_on, acts, expands}
use Rattle.c_tokens.specs.Text.{text_of}
use Rattle.read_back.specs.Kept.{IsKept, EachMappingIsKept}
use Rattle.read_back.proofs.Contracts.{Doc, LeadsOn}
use Rattle.read_back.proofs.EntriesKept.{no_entries}
use Rattle.read_back.proofs.Literals.{HasLiteral, HaveLiterals, text_has}
use Rattle.read_back.proofs.MapRules.{does}

start_fits : FitsReader map_start
start_fits = (refl, (λ k b m. m, tt))

-- what the grammar sees of a token
record IsSeen (p : Piece) : Type 0 where
  pub token : Token
  pub value : p.value ≡ value.Word token
  pub kind : map_kind_of token.kind ≡ p.kind
  pub number : HasLiteral token.kind

abbrev AreSeen : List Piece → Type 0
AreSeen [] = Unit {0}
AreSeen (p ∷ ps) = IsSeen p × AreSeen ps

all_seen : (ts : List Token) → HaveLiterals ts → AreSeen (map map_piece ts)
all_seen [] h = tt
all_seen (t ∷ ts) h = (record { token = t; value = refl; kind = refl; number = h.0 }, all_seen ts h.1)

keeps_limits : {values : List Value} {symbols : List Symbol} {state : State} {low : ℕ} {ps : List Piece} → AreSeen ps → Bounded values symbols state low ps → LeadsOn symbols state low → IsKept (mapping_in values)
keeps_limits w (done e) h = subst (λ vs. IsKept (mapping_in vs)) (sym e) h
keeps_limits w (takes_one {mark = mark} {symbols = symbols} {state = state} same le few g) h =
    let seen = w.0 in
    keeps_limits w.1 g (subst (λ v. LeadsOn symbols (with_token mark v state) (least symbols (with_token mark v state).depth)) (sym seen.value) (h seen.token (seen.kind ∙ same) seen.number le few))
keeps_limits w (passes_on n g) h = keeps_limits w g h
keeps_limits w (acts g) h = keeps_limits w g h
keeps_limits w (expands {r = r} {symbols = symbols} {state = state} {low = low} m g) h = keeps_limits w g (does r m symbols state low h)

begun : Doc [] (effect action.StartMapping empty)
begun = record { mapping = no_mapping; values = refl; kept = no_entries; flat = refl }

pub mappings_keep : EachMappingIsKept
mappings_keep text m is =
    keeps_limits (all_seen (text_of text).tokens (text_has 0 0 text)) (bounded map_start (map_pieces (text_of text)) (value.Mapping m ∷ []) start_fits is.reading)
    ([], begun, λ after low d. subst (λ vs. IsKept (mapping_in vs)) (sym d.values) d.kept)
