-- What a refusal says.
use Rattle.std.specs.Prelude.{ℕ, List, length}
use Rattle.c_tokens.specs.declared.text_scan.TextScan.{TextScan}
use Rattle.c_tokens.specs.Text.{text_of}
use Rattle.c_grammar.specs.declared.symbol.Symbol.{Symbol}
use Rattle.c_grammar.specs.Rules.{map_start, first_map_start}
use Rattle.c_grammar.specs.Mapping.{IsMapFaultIn}
use Rattle.map_lang.specs.declared.refused.MapRefused.{MapRefused}
use Rattle.map_lang.specs.declared.refused.MapRefused.TheVariants as refused

-- It names the first fault; want of memory may come at any time.
abbrev pub IsRefusalIn : List Symbol → TextScan → ℕ → MapRefused → Type 0
IsRefusalIn begin scan len (refused.At at c) = IsMapFaultIn begin scan len at c
IsRefusalIn begin scan len (refused.Memory e) = Unit {0}

-- a refusal of a mapping's text names its first fault, or memory was wanted
abbrev pub IsRefusal : List ℕ → MapRefused → Type 0
IsRefusal bytes r = IsRefusalIn map_start (text_of bytes) (length bytes) r

-- the same of the text of a mapping of the first format
abbrev pub IsFirstRefusal : List ℕ → MapRefused → Type 0
IsFirstRefusal bytes r = IsRefusalIn first_map_start (text_of bytes) (length bytes) r
