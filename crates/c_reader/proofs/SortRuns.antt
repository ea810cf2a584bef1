-- The sorts of values, and what symbols make of them.
use Rattle.std.specs.Prelude.{List, [], ◌∷◌, ◌++◌, map, Bool, true, false, nat_eq, cond}
use Rattle.std.proofs.Common.{◌≡◌, Option, Some, None, refl, sym, ◌∙◌, ap, eqb-true}
use Rattle.c_grammar.specs.declared.symbol.Symbol.{Symbol}
use Rattle.c_grammar.specs.declared.symbol.Symbol.TheVariants.{Take, Unless, Act, Expand}
use Rattle.c_grammar.specs.declared.value.Value.{Value}
use Rattle.c_grammar.specs.Marks.{keeps}
use Rattle.c_grammar.specs.Values.{older}
use Rattle.c_reader.proofs.Sorts.{Sort, sort_code, sort_from, sort_back, sort_of, kept_sort, wants, makes, takes, gives}

abbrev pub sorts : List Value → List Sort
sorts vs = map sort_of vs

same_sort : (s q : Sort) → nat_eq (sort_code s) (sort_code q) ≡ true → s ≡ q
same_sort s q h = let e : Some s ≡ Some q = sym (sort_back s) ∙ ap sort_from (eqb-true _ _ h) ∙ sort_back q in cc

-- what is left without the wanted sorts in front
abbrev pub strip : List Sort → List Sort → Option (List Sort)
strip [] found = Some found
strip (w ∷ ws) [] = None
strip (w ∷ ws) (s ∷ found) = cond (nat_eq (sort_code w) (sort_code s)) (strip ws found) None

abbrev pub and_then : Option (List Sort) → (List Sort → Option (List Sort)) → Option (List Sort)
and_then None f = None
and_then (Some x) f = f x

-- the sorts after the symbols, if each finds what it wants
abbrev pub run : List Symbol → List Sort → Option (List Sort)
run [] found = Some found
run (Take k mark ∷ symbols) found = run symbols (cond (keeps mark) (kept_sort k ∷ found) found)
run (Unless k ∷ symbols) found = run symbols found
run (Act a ∷ symbols) found = and_then (strip (wants a) found) (λ rest. run symbols (makes a ++ rest))
run (Expand r ∷ symbols) found = and_then (strip (takes r) found) (λ rest. run symbols (gives r ++ rest))

pub strip_is : (ws found rest : List Sort) → strip ws found ≡ Some rest → found ≡ ws ++ rest
strip_is [] found rest e = cc
strip_is (w ∷ ws) [] rest e = cc
strip_is (w ∷ ws) (s ∷ found) rest e = go (nat_eq (sort_code w) (sort_code s)) refl e (strip_is ws found rest)
  where
    go : (b : Bool) → nat_eq (sort_code w) (sort_code s) ≡ b → cond b (strip ws found) None ≡ Some rest → (strip ws found ≡ Some rest → found ≡ ws ++ rest) → s ∷ found ≡ w ∷ (ws ++ rest)
    go true h e ih = let d : w ≡ s = same_sort w s h in let f : found ≡ ws ++ rest = ih e in cc
    go false h e ih = cc

pub older_sorts : (vs : List Value) (s : Sort) (rest : List Sort) → sorts vs ≡ s ∷ rest → sorts (older vs) ≡ rest
older_sorts [] s rest e = cc
older_sorts (v ∷ vs) s rest e = cc
