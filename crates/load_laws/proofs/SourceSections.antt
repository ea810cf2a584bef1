-- A whole source is read as its tree, and keeps the limit of a source.
use Rattle.std.proofs.Common.{◌≡◌, ℕ, zero, suc, ◌+◌, ◌-◌, ◌*◌, ◌≤◌, Bool, true, false, List, [], ◌∷◌, ◌++◌, length, refl, ◌∙◌, subst, arith, append_assoc, codes}
use Rattle.std.specs.Fmt.{decimal}
use Rattle.std.specs.List.{flat_map, range_with_len}
use Rattle.std.proofs.lemmas.List.{length-append}
use Rattle.std.proofs.lemmas.Fmt.{length-decimal-le}
use Rattle.c_tree.specs.declared.program.Program.{Program}
use Rattle.c_grammar.specs.Effects.{with_function, with_global, with_mutex}
use Rattle.c_grammar.specs.Values.{no_program}
use Rattle.load_texts.specs.Texts.{looped, first_function, next_function, next_functions, work, added, main, threads, printed, source, old_source, new_source}
use Rattle.load_laws.proofs.Programs.{open_text, loop_text, return_text, called_text, total_text, declared, word, named, text, tree, first_tree, next_trees, work_tree, main_tree, total_tree, at_first, at_second, at_work, at_main, after_functions}
use Rattle.load_laws.proofs.SourceTexts.{Section, both, first_section, next_sections, work_section, main_section, total_section, with_functions}

pub text_is : (wide : Bool) (n : ℕ) → text wide n ≡ source (declared wide) (word wide) n
unfolding old_source new_source
text_is false n = refl
text_is true n = refl

-- where the text behind some functions stands
after_is : (wide : Bool) (k at m : ℕ) → at + length (flat_map (next_function (declared wide)) (range_with_len k m)) ≡ after_functions wide k at m
after_is wide k at zero = omega arith
after_is wide k at (suc m) =
    let t = next_function (declared wide) k in
    let more = flat_map (next_function (declared wide)) (range_with_len (k + 1) m) in
    let e : at + length (t ++ more) ≡ at + length t + length more = omega (arith, length-append t more) in
    e ∙ after_is wide (k + 1) (at + length t) m

-- the tree as it is read, before the number of bytes is known
abbrev pub read_tree : Bool → ℕ → Program
read_tree wide n = record (tree wide n) { len = 0 }

pub whole_section : (wide : Bool) (n : ℕ) → n ≤ 1000 → Section (source (declared wide) (word wide) n) [] 0 no_program (read_tree wide n)
unfolding source
whole_section wide n small =
    let t0 = total_text in
    let t1 = first_function (declared wide) in
    let t2 = next_functions (declared wide) n in
    let t3 = work n in
    let t4 = main (word wide) in
    let f1 = first_tree wide at_first in
    let fs = next_trees wide 2 (at_second wide) (n - 1) in
    let w = work_tree n (at_work wide n) in
    let f = main_tree wide (at_main wide n) in
    let p1 = with_mutex (with_global no_program total_tree) (named 27 (codes "m")) in
    let p2 = with_function p1 f1 in
    let p3 = with_functions p2 fs in
    let p4 = with_function p3 w in
    let p5 = with_function p4 f in
    let s4 : Section t4 [] (at_main wide n) p4 p5 = main_section wide [] (at_main wide n) p4 in
    let s3 : Section (t3 ++ t4) [] (at_work wide n) p3 p5 = both t3 t4 [] (at_work wide n) (at_main wide n) p3 p4 p5 refl (work_section n (t4 ++ []) (at_work wide n) p3 (omega (arith, small))) s4 in
    let s2 : Section (t2 ++ (t3 ++ t4)) [] (at_second wide) p2 p5 =
    both t2 (t3 ++ t4) [] (at_second wide) (at_work wide n) p2 p3 p5 (after_is wide 2 (at_second wide) (n - 1)) (next_sections wide 2 (n - 1) ((t3 ++ t4) ++ []) (at_second wide) p2 (omega (arith, small))) s3 in
    let s1 : Section (t1 ++ (t2 ++ (t3 ++ t4))) [] at_first p1 p5 =
    both t1 (t2 ++ (t3 ++ t4)) [] at_first (at_second wide) p1 p2 p5 refl (first_section wide ((t2 ++ (t3 ++ t4)) ++ []) at_first p1) s2 in
    let s0 : Section (t0 ++ (t1 ++ (t2 ++ (t3 ++ t4)))) [] 0 no_program p5 =
    both t0 (t1 ++ (t2 ++ (t3 ++ t4))) [] 0 at_first no_program p1 p5 refl (total_section ((t1 ++ (t2 ++ (t3 ++ t4))) ++ []) no_program) s1 in
    subst (λ gs. Section (t0 ++ (t1 ++ (t2 ++ (t3 ++ t4)))) [] 0 no_program (record (read_tree wide n) { functions = f1 ∷ gs })) (append_assoc fs (w ∷ []) (f ∷ [])) s0

-- The size.

-- two parts that are short
pair : (a b : List ℕ) (m n k : ℕ) → length a ≤ m → length b ≤ n → m + n ≤ k → length (a ++ b) ≤ k
pair a b m n k first second small = omega (arith, length-append a b, first, second, small)

digits : (k : ℕ) → k ≤ 1001 → length (decimal k) ≤ 4
digits k small = length-decimal-le 4 k (omega arith) (omega (arith, small)) (omega (arith, small))

short_declared : (wide : Bool) → length (declared wide) ≤ 13
short_declared false = omega arith
short_declared true = omega arith

short_looped : (d : List ℕ) (k : ℕ) → length d ≤ 13 → k ≤ 1001 → length (looped d k) ≤ 90
short_looped d k short small =
    let r = return_text in
    let t4 = loop_text ++ (decimal k ++ r) in
    let t3 = d ++ t4 in
    let t2 = open_text ++ t3 in
    let a : length (decimal k ++ r) ≤ 15 = pair (decimal k) r 4 11 15 (digits k small) (omega arith) (omega arith) in
    let b : length t4 ≤ 58 = pair loop_text (decimal k ++ r) 43 15 58 (omega arith) a (omega arith) in
    let c : length t3 ≤ 71 = pair d t4 13 58 71 short b (omega arith) in
    let e : length t2 ≤ 81 = pair open_text t3 10 71 81 (omega arith) c (omega arith) in
    pair (codes "int f") (decimal k ++ t2) 5 85 90 (omega arith) (pair (decimal k) t2 4 81 85 (digits k small) e (omega arith)) (omega arith)

short_next : (wide : Bool) (k : ℕ) → k ≤ 1001 → length (next_function (declared wide) k) ≤ 102
short_next wide k small =
    let e = called_text in
    pair (looped (declared wide) k) (codes "f" ++ (decimal (k - 1) ++ e)) 90 12 102 (short_looped (declared wide) k (short_declared wide) small)
    (pair (codes "f") (decimal (k - 1) ++ e) 1 11 12 (omega arith) (pair (decimal (k - 1)) e 4 7 11 (digits (k - 1) (omega (arith, small))) (omega arith) (omega arith)) (omega arith)) (omega arith)

short_all : (wide : Bool) (k m : ℕ) → k + m ≤ 1002 → length (flat_map (next_function (declared wide)) (range_with_len k m)) ≤ 102 * m
short_all wide k zero small = omega arith
short_all wide k (suc m) small =
    pair (next_function (declared wide) k) (flat_map (next_function (declared wide)) (range_with_len (k + 1) m)) 102 (102 * m) (102 * suc m) (short_next wide k (omega (arith, small)))
    (short_all wide (k + 1) m (omega (arith, small))) (omega arith)

short_work : (n : ℕ) → n ≤ 1001 → length (work n) ≤ 200
unfolding added
short_work n small =
    pair (codes "void *work(void *a) { int r; r = f" ++ decimal n) added 38 162 200 (pair (codes "void *work(void *a) { int r; r = f") (decimal n) 34 4 38 (omega arith) (digits n small) (omega arith)) (omega arith) (omega arith)

short_main : (wide : Bool) → length (main (word wide)) ≤ 400
unfolding threads printed
short_main false = omega arith
short_main true = omega arith

pub short_source : (wide : Bool) (n : ℕ) → n ≤ 1000 → length (source (declared wide) (word wide) n) ≤ 1048576
unfolding source
short_source wide n small =
    let t0 = total_text in
    let t1 = first_function (declared wide) in
    let t2 = next_functions (declared wide) n in
    let t3 = work n in
    let t4 = main (word wide) in
    let one : length t1 ≤ 100 = pair (looped (declared wide) 1) (codes "x; }\n") 90 5 100 (short_looped (declared wide) 1 (short_declared wide) (omega arith)) (omega arith) (omega arith) in
    let two : length t2 ≤ 102 * 1000 = short_few wide n small in
    let three : length (t3 ++ t4) ≤ 600 = pair t3 t4 200 400 600 (short_work n (omega (arith, small))) (short_main wide) (omega arith) in
    let four : length (t2 ++ (t3 ++ t4)) ≤ 102600 = pair t2 (t3 ++ t4) (102 * 1000) 600 102600 two three (omega arith) in
    pair t0 (t1 ++ (t2 ++ (t3 ++ t4))) 30 102700 1048576 (omega arith) (pair t1 (t2 ++ (t3 ++ t4)) 100 102600 102700 one four (omega arith)) (omega arith)
  where
    short_few : (wide : Bool) (n : ℕ) → n ≤ 1000 → length (next_functions (declared wide) n) ≤ 102 * 1000
    short_few wide n small = let e : length (next_functions (declared wide) n) ≤ 102 * (n - 1) = short_all wide 2 (n - 1) (omega (arith, small)) in omega (arith, e, small)
