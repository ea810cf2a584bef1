-- C sources and their lexemes.
use Rattle.std.specs.Prelude.{◌≡◌, ℕ, pos, false, true, List, [], ◌∷◌, map, refl, Option, Some, None, option_map, codes}
use Rattle.c_tree.specs.declared.cause.ReadCause.{ReadCause}
use Rattle.c_tree.specs.declared.cause.ReadCause.TheVariants as cause
use Rattle.c_tree.specs.declared.program.At.{At}
use Rattle.c_tree.specs.declared.token.TokenKind.TheVariants as kind
use Rattle.c_tokens.specs.declared.lexeme.Lexeme.{Lexeme}
use Rattle.c_tokens.specs.declared.lexeme.LexemeKind.{LexemeKind}
use Rattle.c_tokens.specs.declared.lexeme.LexemeKind.TheVariants as lexeme
use Rattle.c_tokens.specs.declared.lexeme.Scan.{Scan}
use Rattle.c_tokens.specs.Compute.{texts}
use Rattle.c_tokens.specs.Source.{scan, scan_of}

-- the kinds of the lexemes, and the fault's offset and cause
abbrev pub told : Scan → List LexemeKind × Option (ℕ × ReadCause)
told s = (map (λ (l : Lexeme). l.kind) s.lexemes, option_map (λ (f : At ReadCause). (f.at, f.it)) s.fault)

abbrev word : LexemeKind
word = lexeme.Token (kind.Word (codes "x"))

abbrev define : ℕ → LexemeKind
define at = lexeme.Define (record { name = record { at = at; it = codes "N" }; minus = false; value = pos 3 })

pub include : scan_of (codes "#include <stdio.h>\nx") ≡ scan (record { kind = lexeme.Include; at = 0; len = 18 } ∷ record { kind = word; at = 19; len = 1 } ∷ []) None
unfolding texts
include = refl

pub define_minus : scan_of (codes " # define  N - 0x3 // three\n") ≡ scan (record { kind = lexeme.Define (record { name = record { at = 11; it = codes "N" }; minus = true; value = pos 3 }); at = 1; len = 17 } ∷ []) None
unfolding texts
define_minus = refl

-- a comment that ends on a later line makes the directive's line go on
pub comment_goes_on : told (scan_of (codes "#define N 3 /* \n */ x\nx")) ≡ (define 8 ∷ [], Some (20, cause.Unexpected))
unfolding texts
comment_goes_on = refl

pub comments_follow : told (scan_of (codes "#define N 3 /* \n */ //\nx")) ≡ (define 8 ∷ word ∷ [], None)
unfolding texts
comments_follow = refl

-- a `#` behind a comment begins no directive
pub hash_in_line : told (scan_of (codes "/* */ #define N 3")) ≡ ([], Some (6, cause.BadByte))
unfolding texts
hash_in_line = refl

pub hash_in_comment : told (scan_of (codes "/*\n# */ x")) ≡ (word ∷ [], None)
unfolding texts
hash_in_comment = refl

pub other_directives : told (scan_of (codes "x\n#pragma N")) ≡ (word ∷ [], Some (2, cause.LeftOut (codes "directive")))
unfolding texts
other_directives = refl

pub comment_before_word : told (scan_of (codes "#/**/define N 3")) ≡ ([], Some (0, cause.LeftOut (codes "directive")))
unfolding texts
comment_before_word = refl

pub hash_alone : told (scan_of (codes "#\ndefine N 3")) ≡ ([], Some (0, cause.LeftOut (codes "directive")))
unfolding texts
hash_alone = refl

pub bad_header : told (scan_of (codes "#include @")) ≡ (lexeme.Begun ∷ [], Some (9, cause.BadByte))
unfolding texts
bad_header = refl

pub no_header : told (scan_of (codes "#include \n")) ≡ (lexeme.Begun ∷ [], Some (9, cause.LeftOut (codes "include")))
unfolding texts
no_header = refl

pub spaced_header : told (scan_of (codes "#include < stdio.h>")) ≡ (lexeme.Begun ∷ [], Some (9, cause.LeftOut (codes "include")))
unfolding texts
spaced_header = refl

pub word_as_header : told (scan_of (codes "#include char")) ≡ (lexeme.Begun ∷ [], Some (9, cause.LeftOut (codes "include")))
unfolding texts
word_as_header = refl

pub define_ends_early : told (scan_of (codes "#define N\n3")) ≡ (lexeme.Begun ∷ [], Some (9, cause.Unexpected))
unfolding texts
define_ends_early = refl

pub define_of_keyword : told (scan_of (codes "#define int 3")) ≡ (lexeme.Begun ∷ [], Some (8, cause.Unexpected))
unfolding texts
define_of_keyword = refl

pub define_of_left_out : told (scan_of (codes "#define char 3")) ≡ (lexeme.Begun ∷ [], Some (8, cause.LeftOut (codes "char")))
unfolding texts
define_of_left_out = refl

pub comment_within : told (scan_of (codes "#define N /* */ 3")) ≡ (lexeme.Begun ∷ [], Some (10, cause.Unexpected))
unfolding texts
comment_within = refl

pub left_out_behind : told (scan_of (codes "#define N 3 char")) ≡ (define 8 ∷ [], Some (12, cause.LeftOut (codes "char")))
unfolding texts
left_out_behind = refl

pub left_out : told (scan_of (codes "x char @")) ≡ (word ∷ [], Some (2, cause.LeftOut (codes "char")))
unfolding texts
left_out = refl
