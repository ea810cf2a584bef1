-- A directive's line goes forward, and no further than the text.
use Rattle.std.proofs.Common.{◌≡◌, ℕ, ◌+◌, ◌<◌, ◌≤◌, Bool, true, false, List, length, take, drop, arith, length-drop}
use Rattle.std.specs.Prelude.{Option, Some, None, IfSome, ◌==◌, nat_eq, if◌then◌else◌, codes}
use Rattle.std.specs.List.{starts_with}
use Rattle.std.specs.Cmp.Lexicographic.{pointwise}
use Rattle.std.proofs.lemmas.List.Sums.{prefix_len-le-length}
use Rattle.c_tree.specs.declared.cause.ReadCause.{ReadCause}
use Rattle.c_tree.specs.declared.program.At.{At}
use Rattle.c_tree.specs.declared.token.TokenKind.{TokenKind}
use Rattle.c_tree.specs.declared.token.TokenKind.TheVariants as kind
use Rattle.c_tokens.specs.declared.front.Front.{Front}
use Rattle.c_tokens.specs.declared.front.Front.TheVariants as front
use Rattle.c_tokens.specs.declared.directive.Line.{Line}
use Rattle.c_tokens.specs.declared.directive.Line.TheVariants as line
use Rattle.c_tokens.specs.Byte.{is_gap, is_name_byte, name_run}
use Rattle.c_tokens.specs.Front.{size_of, front_of}
use Rattle.c_tokens.specs.Word.{is_name}
use Rattle.c_tokens.specs.Directive.{past, gap_len, past_gap, broken, headers, header_at, other_header, included, include, number_of, number, value_of, value, named, define_of, define, worded, with_word, directive}
use Rattle.c_tokens.proofs.Sizes.{starts_within, found_passes, at_most}

-- what a line needs ends behind an offset and not behind a total
abbrev pub LineFits : Line → ℕ → ℕ → Type 0
LineFits (line.Include end) at total = (at < end) × (end ≤ total)
LineFits (line.Define d end) at total = (at < end) × (end ≤ total)
LineFits (line.Broken why) at total = (at < why.at) × (why.at ≤ total)
LineFits line.Other at total = Unit {0}

abbrev GoesOn : (ℕ → List ℕ → Line) → Type 0
GoesOn next = (at0 at total : ℕ) (bytes : List ℕ) → at0 < at → at + length bytes ≤ total → LineFits (next at bytes) at0 total

past_fits : (n : ℕ) (next : ℕ → List ℕ → Line) (at0 at total : ℕ) (bytes : List ℕ) → GoesOn next → at0 < at + n → n ≤ length bytes → at + length bytes ≤ total → LineFits (past n next at bytes) at0 total
past_fits n next at0 at total bytes goes_on ahead short within = goes_on at0 (at + n) total (drop n bytes) ahead (omega (arith, length-drop n bytes))

gap_fits : (next : ℕ → List ℕ → Line) → GoesOn next → GoesOn (past_gap next)
gap_fits next goes_on at0 at total bytes ahead within = past_fits (gap_len bytes) next at0 at total bytes goes_on (omega arith) (prefix_len-le-length is_gap bytes) within

broken_fits : (why : ReadCause) (at0 at total : ℕ) → at0 < at → at ≤ total → LineFits (broken at why) at0 total
broken_fits why at0 at total ahead within = (ahead, within)

chosen : (test : Bool) (a b : Line) (at0 total : ℕ) → LineFits a at0 total → LineFits b at0 total → LineFits (if test then a else b) at0 total
chosen true a b at0 total then_ else_ = then_
chosen false a b at0 total then_ else_ = else_

header_within : (bytes : List ℕ) → IfSome (header_at bytes) (λ h. length h ≤ length bytes)
header_within bytes = weaker (header_at bytes) (found_passes (λ h. starts_with nat_eq bytes h) headers)
  where
    weaker : (o : Option (List ℕ)) → IfSome o (λ h. starts_with nat_eq bytes h ≡ true) → IfSome o (λ h. length h ≤ length bytes)
    weaker None is = tt
    weaker (Some h) is = starts_within bytes h is

included_fits : (o : Option (List ℕ)) (at0 at total : ℕ) (bytes : List ℕ) → IfSome o (λ h. length h ≤ length bytes) → at0 < at → at + length bytes ≤ total → LineFits (included o at bytes) at0 total
included_fits None at0 at total bytes short ahead within = broken_fits (other_header (front_of bytes)) at0 at total ahead (omega arith)
included_fits (Some h) at0 at total bytes short ahead within = (omega arith, omega arith)

include_fits : GoesOn include
include_fits at0 at total bytes ahead within = included_fits (header_at bytes) at0 at total bytes (header_within bytes) ahead within

number_of_fits : (name : At (List ℕ)) (f : Front) (at0 at total : ℕ) → at0 < at → at + size_of f ≤ total → LineFits (number_of name f at) at0 total
number_of_fits name (front.Token (kind.Number v) n) at0 at total ahead within = (omega arith, within)
number_of_fits name (front.Token (kind.Word w) n) at0 at total ahead within = (ahead, omega arith)
number_of_fits name (front.Token (kind.Char c) n) at0 at total ahead within = (ahead, omega arith)
number_of_fits name (front.Token (kind.Str t) n) at0 at total ahead within = (ahead, omega arith)
number_of_fits name (front.Token (kind.Punct p) n) at0 at total ahead within = (ahead, omega arith)
number_of_fits name front.End at0 at total ahead within = (ahead, omega arith)
number_of_fits name front.Blank at0 at total ahead within = (ahead, omega arith)
number_of_fits name (front.Comment n) at0 at total ahead within = (ahead, omega arith)
number_of_fits name (front.Fault why) at0 at total ahead within = (ahead, omega arith)

number_fits : (name : At (List ℕ)) → GoesOn (number name)
number_fits name at0 at total bytes ahead within = number_of_fits name (front_of bytes) at0 at total ahead (omega (arith, at_most bytes))

value_of_fits : (name : At (List ℕ)) (f : Front) (at0 at total : ℕ) (bytes : List ℕ) → size_of f ≤ length bytes → at0 < at → at + length bytes ≤ total → LineFits (value_of name f at bytes) at0 total
value_of_fits name (front.Token (kind.Number v) n) at0 at total bytes short ahead within = (omega arith, omega arith)
value_of_fits name (front.Token (kind.Punct p) n) at0 at total bytes short ahead within =
    chosen (p == 1) _ _ at0 total (past_fits n (past_gap (number name)) at0 at total bytes (gap_fits (number name) (number_fits name)) (omega arith) short within) (ahead, omega arith)
value_of_fits name (front.Token (kind.Word w) n) at0 at total bytes short ahead within = (ahead, omega arith)
value_of_fits name (front.Token (kind.Char c) n) at0 at total bytes short ahead within = (ahead, omega arith)
value_of_fits name (front.Token (kind.Str t) n) at0 at total bytes short ahead within = (ahead, omega arith)
value_of_fits name front.End at0 at total bytes short ahead within = (ahead, omega arith)
value_of_fits name front.Blank at0 at total bytes short ahead within = (ahead, omega arith)
value_of_fits name (front.Comment n) at0 at total bytes short ahead within = (ahead, omega arith)
value_of_fits name (front.Fault why) at0 at total bytes short ahead within = (ahead, omega arith)

value_fits : (name : At (List ℕ)) → GoesOn (value name)
value_fits name at0 at total bytes ahead within = value_of_fits name (front_of bytes) at0 at total bytes (at_most bytes) ahead within

named_fits : (k : TokenKind) (at0 at behind total : ℕ) (bytes : List ℕ) → at0 < at → at ≤ behind → behind + length bytes ≤ total → LineFits (named k at behind bytes) at0 total
named_fits (kind.Word w) at0 at behind total bytes ahead on within =
    let name : At (List ℕ) = record { at = at; it = w } in
    chosen (is_name w) _ _ at0 total (gap_fits (value name) (value_fits name) at0 behind total bytes (omega arith) within) (ahead, omega arith)
named_fits (kind.Number v) at0 at behind total bytes ahead on within = (ahead, omega arith)
named_fits (kind.Char c) at0 at behind total bytes ahead on within = (ahead, omega arith)
named_fits (kind.Str t) at0 at behind total bytes ahead on within = (ahead, omega arith)
named_fits (kind.Punct p) at0 at behind total bytes ahead on within = (ahead, omega arith)

define_of_fits : (f : Front) (at0 at total : ℕ) (bytes : List ℕ) → size_of f ≤ length bytes → at0 < at → at + length bytes ≤ total → LineFits (define_of f at bytes) at0 total
define_of_fits (front.Token k n) at0 at total bytes short ahead within = named_fits k at0 at (at + n) total (drop n bytes) ahead (omega arith) (omega (arith, length-drop n bytes))
define_of_fits front.End at0 at total bytes short ahead within = (ahead, omega arith)
define_of_fits front.Blank at0 at total bytes short ahead within = (ahead, omega arith)
define_of_fits (front.Comment n) at0 at total bytes short ahead within = (ahead, omega arith)
define_of_fits (front.Fault why) at0 at total bytes short ahead within = (ahead, omega arith)

define_fits : GoesOn define
define_fits at0 at total bytes ahead within = define_of_fits (front_of bytes) at0 at total bytes (at_most bytes) ahead within

worded_fits : (word : List ℕ) → GoesOn (worded word)
worded_fits word at0 at total bytes ahead within =
    chosen (pointwise nat_eq word (codes "include")) _ _ at0 total (gap_fits include include_fits at0 at total bytes ahead within)
    (chosen (pointwise nat_eq word (codes "define")) _ line.Other at0 total (gap_fits define define_fits at0 at total bytes ahead within) tt)

with_word_fits : GoesOn with_word
with_word_fits at0 at total bytes ahead within = past_fits (name_run bytes) (worded (take (name_run bytes) bytes)) at0 at total bytes (worded_fits (take (name_run bytes) bytes)) (omega arith) (prefix_len-le-length is_name_byte bytes) within

pub directive_fits : (at : ℕ) (bytes : List ℕ) → 1 ≤ length bytes → LineFits (directive at bytes) at (at + length bytes)
directive_fits at bytes some = past_fits 1 (past_gap with_word) at at (at + length bytes) bytes (gap_fits with_word with_word_fits) (omega arith) some (omega arith)
