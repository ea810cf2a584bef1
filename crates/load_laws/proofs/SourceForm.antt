-- The parts of a source lead from one program to the next.
use Rattle.std.proofs.Common.{◌≡◌, ℕ, suc, ◌+◌, ◌-◌, pos, Bool, true, false, List, [], ◌∷◌, ◌++◌, length, map, refl, codes}
use Rattle.std.specs.Fmt.{decimal}
use Rattle.c_tree.specs.declared.token.TokenKind.TheVariants as token
use Rattle.c_tree.specs.declared.program.Program.{Program}
use Rattle.c_tree.specs.Compute.{literals}
use Rattle.c_tokens.specs.declared.piece.Part.{Part}
use Rattle.c_tokens.specs.declared.piece.Part.TheVariants as part
use Rattle.c_tokens.specs.Compute.{texts}
use Rattle.c_grammar.specs.declared.kind.Kind.TheVariants as kind
use Rattle.c_grammar.specs.declared.rule.Rule.TheVariants as rule
use Rattle.c_grammar.specs.declared.symbol.Symbol.{Symbol}
use Rattle.c_grammar.specs.declared.symbol.Symbol.TheVariants.{Expand}
use Rattle.c_grammar.specs.declared.value.Value.TheVariants as value
use Rattle.c_grammar.specs.Pieces.{Piece, lexeme_piece}
use Rattle.c_grammar.specs.Effects.{State, with_function, with_global, with_mutex}
use Rattle.c_grammar.specs.Tokens.{word_kind}
use Rattle.c_grammar.specs.Words.{words, signs}
use Rattle.load_texts.specs.Texts.{added, main, threads, printed}
use Rattle.load_laws.proofs.Programs.{type_text, open_text, loop_text, return_text, end_text, called_text, work_text, total_text, function_name, declared, first_tree, next_tree, work_tree, main_tree, total_tree, named, word, after_name, after_declared, after_loop, after_call, after_called}
use Rattle.load_laws.proofs.SourceTokens.{lexed, moved, lexemes_of}
use Rattle.load_laws.proofs.Derivation.{reached, to}

-- what is to come where a part of a file ends, and what was read
abbrev pub items : List Symbol
items = Expand rule.Items ∷ []

abbrev pub read : Program → State
read p = record { values = value.Program p ∷ []; depth = 0; operators = 0 }

-- the pieces of a text without numbers, which some bytes follow
abbrev pub pieces_at : ℕ → Part → List ℕ → List ℕ → List Piece
pieces_at at p bytes rest = map lexeme_piece (map (moved at) (lexemes_of p bytes rest))

-- the piece of the name of a function, and of a number
abbrev pub name_piece : ℕ → ℕ → Piece
name_piece k at = record { kind = kind.Name; at = at; value = value.Word (record { kind = token.Word (function_name k); at = at; len = suc (length (decimal k)) }) }

abbrev pub number_piece : ℕ → ℕ → Piece
number_piece k at = record { kind = kind.Number; at = at; value = value.Word (record { kind = token.Number (pos k); at = at; len = length (decimal k) }) }

-- the pieces of the function k up to what it gives
abbrev pub looped_pieces : Bool → ℕ → ℕ → List ℕ → List ℕ → List ℕ → List ℕ → List Piece → List Piece
looped_pieces wide k at a b c d last =
    pieces_at at part.Head type_text a
    ++ (name_piece k (at + 4) ∷ (pieces_at (after_name k at) part.Middle open_text b
    ++ (pieces_at (after_name k at + 10) part.Middle (declared wide) c
    ++ (pieces_at (after_declared wide k at) part.Middle loop_text d
    ++ (number_piece k (after_declared wide k at + 43) ∷ last)))))

abbrev pub first_pieces : Bool → ℕ → List ℕ → List ℕ → List ℕ → List ℕ → List ℕ → List Piece
first_pieces wide at a b c d e = looped_pieces wide 1 at a b c d (pieces_at (after_loop wide 1 at) part.Middle end_text e)

pub first_reached : (wide : Bool) (at : ℕ) (a b c d e : List ℕ) (p : Program)
    → reached 3000 items (read p) (first_pieces wide at a b c d e) ≡ to items (read (with_function p (first_tree wide at)))
unfolding literals texts lexed word_kind words signs reached
first_reached false at a b c d e p = refl
first_reached true at a b c d e p = refl

abbrev pub next_pieces : Bool → ℕ → ℕ → List ℕ → List ℕ → List ℕ → List ℕ → List ℕ → List ℕ → List Piece
next_pieces wide k at a b c d e f =
    looped_pieces wide k at a b c d
    (pieces_at (after_loop wide k at) part.Middle return_text e
    ++ (name_piece (k - 1) (after_loop wide k at + 11) ∷ pieces_at (after_call wide k at) part.Middle called_text f))

pub next_reached : (wide : Bool) (k at : ℕ) (a b c d e f : List ℕ) (p : Program)
    → reached 3000 items (read p) (next_pieces wide k at a b c d e f) ≡ to items (read (with_function p (next_tree wide k at)))
unfolding literals texts lexed word_kind words signs reached
next_reached false k at a b c d e f p = refl
next_reached true k at a b c d e f p = refl

abbrev pub work_pieces : ℕ → ℕ → List ℕ → List ℕ → List Piece
work_pieces n at a b =
    pieces_at at part.Head work_text a ++ (name_piece n (at + 33) ∷ pieces_at (after_called n at) part.Middle added b)

pub work_reached : (n at : ℕ) (a b : List ℕ) (p : Program) → reached 3000 items (read p) (work_pieces n at a b) ≡ to items (read (with_function p (work_tree n at)))
unfolding literals texts lexed word_kind words signs reached added
work_reached n at a b p = refl

pub main_reached : (wide : Bool) (at : ℕ) (a : List ℕ) (p : Program)
    → reached 5000 items (read p) (pieces_at at part.Head (main (word wide)) a) ≡ to items (read (with_function p (main_tree wide at)))
unfolding literals texts lexed word_kind words signs reached threads printed
main_reached false at a p = refl
main_reached true at a p = refl

pub total_reached : (a : List ℕ) (p : Program)
    → reached 1000 items (read p) (pieces_at 0 part.Head total_text a)
    ≡ to items (read (with_mutex (with_global p total_tree) (named 27 (codes "m"))))
unfolding literals texts lexed word_kind words signs reached
total_reached a p = refl
