-- The text of the mapping is the canonical text of its entries.
use Rattle.std.proofs.Common.{◌≡◌, ℕ, zero, suc, ◌+◌, ◌-◌, ◌≤◌, false, List, [], ◌∷◌, ◌++◌, refl, sym, ap, ◌∙◌, arith, codes, append_assoc, append-nil}
use Rattle.std.specs.Prelude.{nat_le, if◌then◌else◌}
use Rattle.std.specs.Fmt.{decimal}
use Rattle.std.specs.List.{flat_map, range_with_len}
use Rattle.std.proofs.lemmas.Bool.Decides.{nat_tests}
use Rattle.std.proofs.lemmas.List.Concat.{flat_map-append}
use Rattle.c_tree.specs.declared.lifted.Lifted.{Lifted}
use Rattle.c_tree.specs.declared.lifted.LFunction.{LFunction}
use Rattle.c_tree.specs.declared.mapping.LFill.{LFill}
use Rattle.c_tree.specs.declared.mapping.LEntry.{LEntry}
use Rattle.c_tree.specs.Compute.{literals}
use Rattle.c_tree.specs.Step.{function_of}
use Rattle.c_tree.specs.Points.{point_of}
use Rattle.c_tree.specs.Link.{Link}
use Rattle.c_tree.specs.Canonical.{point_text, fills_text, entry_text}
use Rattle.load_texts.specs.Texts.{entry, fill, filled, frames, kept, main_frames, mapping}
use Rattle.load_laws.proofs.Programs.{function_name, old_locals, new_locals, first_lifted, next_lifted, main_lifted, old_program, new_program}
use Rattle.load_laws.proofs.MappingEntries.{kept_place, value_of, first_numbered, next_numbered, main_numbered, load_entries}
use Rattle.load_laws.proofs.MappingNumbers.{plain_link, IsKeptFunction}
use Rattle.load_laws.proofs.MappingLifts.{old_word, new_word, load_link, reads_beside, first_of, next_of, main_of}

-- the line of an entry
abbrev pub line : Link → LEntry → List ℕ
line link x = entry_text link x ++ 59 ∷ 10 ∷ []

-- the line of a place that is kept, by its function and the one that it goes to
abbrev line_between : Link → LFunction → LFunction → ℕ → List LFill → List ℕ
line_between link f g place values =
    codes "point " ++ f.name ++ 32 ∷ point_text (point_of f place) ++ codes " -> " ++ point_text (point_of g place) ++ fills_text (reads_beside link.old f) g.slots values ++ 59 ∷ 10 ∷ []

-- Texts that are put together, from the left or from the right.
one_part : (a b c d : List ℕ) → a ++ (b ++ c ++ []) ++ d ≡ a ++ b ++ c ++ d
one_part a b c d = ap (λ t. a ++ t ++ d) (append-nil (b ++ c)) ∙ ap (λ t. t ++ d) (sym (append_assoc a b c))

six : (a b c d e f : List ℕ) → a ++ b ++ c ++ d ++ e ++ f ≡ a ++ (b ++ (c ++ (d ++ (e ++ f))))
six a b c d e f =
    append_assoc (a ++ b ++ c ++ d) e f
    ∙ (append_assoc (a ++ b ++ c) d (e ++ f)
    ∙ (append_assoc (a ++ b) c (d ++ (e ++ f))
    ∙ append_assoc a b (c ++ (d ++ (e ++ f)))))

-- the end of what fills a slot, behind the number
fill_end : (d : List ℕ) → d ++ codes "; " ++ [] ++ codes "}" ++ codes ";\n" ≡ d ++ codes "; };\n"
fill_end d =
    ap (λ t. t ++ codes "}" ++ codes ";\n") (append-nil (d ++ codes "; "))
    ∙ (append_assoc (d ++ codes "; ") (codes "}") (codes ";\n") ∙ append_assoc d (codes "; ") (codes "};\n"))

line_is : (p q : Lifted) (name : List ℕ) (i : ℕ) (f g : LFunction) (place : ℕ) (values : List LFill) → IsKeptFunction p q name i f g
    → line (plain_link p q) (kept_place i place values) ≡ line_between (plain_link p q) f g place values
line_is p q name i f g place values h =
    let link = plain_link p q in
    let a = function_of p i in
    let b = function_of q i in
    one_part (codes "point " ++ a.name ++ 32 ∷ point_text (point_of a place) ++ codes " -> ") (point_text (point_of b place)) (fills_text (reads_beside p a) b.slots values) (59 ∷ 10 ∷ [])
    ∙ (ap (λ z. line_between link z b place values) h.old ∙ ap (λ z. line_between link f z place values) h.new)

-- The lines of one function.
first_entry : (link : Link) → line_between link (first_lifted old_locals) (first_lifted new_locals) 0 [] ≡ entry 1
unfolding literals
first_entry link = refl

first_loop : (link : Link) → line_between link (first_lifted old_locals) (first_lifted new_locals) 5 (value_of 1 ∷ []) ≡ filled 1 (codes "loop 1")
unfolding literals kept fill
first_loop link = refl

next_entry : (link : Link) (k : ℕ) → line_between link (next_lifted old_locals k) (next_lifted new_locals k) 0 [] ≡ entry k
unfolding literals
next_entry link k = ap (λ t. codes "point f" ++ t) (six (decimal k) (codes " entry") (codes " -> ") (codes "entry") [] (codes ";\n"))

-- the line of a point at which the slot is filled, behind the number of the function
abbrev filled_line : List ℕ → List ℕ → List ℕ
filled_line d point = d ++ 32 ∷ point ++ codes " -> " ++ point ++ (codes " { z = i * " ++ (d ++ codes "; " ++ [] ++ codes "}")) ++ codes ";\n"

filled_line_is : (d point : List ℕ) → filled_line d point ≡ d ++ (32 ∷ point ++ (codes " -> " ++ (point ++ (codes " { z = i * " ++ (d ++ codes "; };\n")))))
filled_line_is d point =
    six d (32 ∷ point) (codes " -> ") point (codes " { z = i * " ++ (d ++ codes "; " ++ [] ++ codes "}")) (codes ";\n")
    ∙ ap (λ t. d ++ (32 ∷ point ++ (codes " -> " ++ (point ++ (codes " { z = i * " ++ t))))) (fill_end d)

next_loop : (link : Link) (k : ℕ) → line_between link (next_lifted old_locals k) (next_lifted new_locals k) 5 (value_of k ∷ []) ≡ filled k (codes "loop 1")
unfolding literals kept fill
next_loop link k = ap (λ t. codes "point f" ++ t) (filled_line_is (decimal k) (codes "loop 1"))

next_call : (link : Link) (k : ℕ) → line_between link (next_lifted old_locals k) (next_lifted new_locals k) 6 (value_of k ∷ []) ≡ filled k (codes "call 1")
unfolding literals kept fill
next_call link k = ap (λ t. codes "point f" ++ t) (filled_line_is (decimal k) (codes "call 1"))

main_entry : (link : Link) (u v : List ℕ) (n : ℕ) → line_between link (main_lifted u n) (main_lifted v n) 0 [] ≡ codes "point main entry -> entry;\n"
unfolding literals
main_entry link u v n = refl

main_first : (link : Link) (u v : List ℕ) (n : ℕ) → line_between link (main_lifted u n) (main_lifted v n) 5 [] ≡ codes "point main block 1 -> block 1;\n"
unfolding literals
main_first link u v n = refl

main_second : (link : Link) (u v : List ℕ) (n : ℕ) → line_between link (main_lifted u n) (main_lifted v n) 6 [] ≡ codes "point main block 2 -> block 2;\n"
unfolding literals
main_second link u v n = refl

main_third : (link : Link) (u v : List ℕ) (n : ℕ) → line_between link (main_lifted u n) (main_lifted v n) 7 [] ≡ codes "point main block 3 -> block 3;\n"
unfolding literals
main_third link u v n = refl

main_fourth : (link : Link) (u v : List ℕ) (n : ℕ) → line_between link (main_lifted u n) (main_lifted v n) 8 [] ≡ codes "point main block 4 -> block 4;\n"
unfolding literals
main_fourth link u v n = refl

-- a line before other text
put : {a b x y : List ℕ} → a ≡ b → x ≡ y → a ++ x ≡ b ++ y
put {b = b} {x = x} e f = ap (λ t. t ++ x) e ∙ ap (λ t. b ++ t) f

first_text : (n : ℕ) → flat_map (line (load_link n)) first_numbered ≡ frames 1
first_text n =
    let h = first_of n in
    put (line_is _ _ (function_name 1) 0 _ _ 0 [] h ∙ first_entry (load_link n)) (put (line_is _ _ (function_name 1) 0 _ _ 5 (value_of 1 ∷ []) h ∙ first_loop (load_link n)) refl)

next_text : (n k : ℕ) → 2 ≤ k → k ≤ n → n ≤ 1000 → flat_map (line (load_link n)) (next_numbered k) ≡ frames k
next_text n k le within small =
    let h = next_of n k le within small in
    let more : nat_le k 1 ≡ false = grind (arith, nat_tests, le) in
    put (line_is _ _ (function_name k) (k - 1) _ _ 0 [] h ∙ next_entry (load_link n) k)
    (put (line_is _ _ (function_name k) (k - 1) _ _ 5 (value_of k ∷ []) h ∙ next_loop (load_link n) k)
    (append-nil _ ∙ (line_is _ _ (function_name k) (k - 1) _ _ 6 (value_of k ∷ []) h ∙ (next_call (load_link n) k ∙ ap (λ t. if t then [] else filled k (codes "call 1")) (sym more)))))

main_text : (n : ℕ) → 1 ≤ n → flat_map (line (load_link n)) (main_numbered (n + 1)) ≡ main_frames
main_text n some =
    let h = main_of n some in
    let at = line_is (old_program n) (new_program n) (codes "main") (n + 1) (main_lifted old_word n) (main_lifted new_word n) in
    put (at 0 [] h ∙ main_entry (load_link n) old_word new_word n)
    (put (at 5 [] h ∙ main_first (load_link n) old_word new_word n)
    (put (at 6 [] h ∙ main_second (load_link n) old_word new_word n)
    (put (at 7 [] h ∙ main_third (load_link n) old_word new_word n)
    (append-nil _ ∙ (at 8 [] h ∙ main_fourth (load_link n) old_word new_word n)))))

-- The lines of all functions.
range_text : (n a m : ℕ) → 2 ≤ a → a + m ≤ n + 1 → n ≤ 1000 → flat_map (line (load_link n)) (flat_map next_numbered (range_with_len a m)) ≡ flat_map frames (range_with_len a m)
range_text n a zero le within small = refl
range_text n a (suc m) le within small =
    flat_map-append (line (load_link n)) (next_numbered a) (flat_map next_numbered (range_with_len (a + 1) m))
    ∙ put (next_text n a le (omega (arith, within)) small) (range_text n (a + 1) m (omega (arith, le)) (omega (arith, within)) small)

pub text_is : (n : ℕ) → 1 ≤ n → n ≤ 1000 → flat_map (line (load_link n)) (load_entries n) ≡ mapping n
unfolding mapping
text_is n some small =
    let link = load_link n in
    let middle = flat_map next_numbered (range_with_len 2 (n - 1)) in
    let range = flat_map frames (range_with_len 2 (n - 1)) in
    let count : suc (n - 1) ≡ n = omega (arith, some) in
    flat_map-append (line link) first_numbered (middle ++ main_numbered (n + 1))
    ∙ (put (first_text n) (flat_map-append (line link) middle (main_numbered (n + 1)) ∙ put (range_text n 2 (n - 1) (omega arith) (omega (arith, some)) small) (main_text n some))
    ∙ (sym (append_assoc (frames 1) range main_frames) ∙ ap (λ m. flat_map frames (range_with_len 1 m) ++ main_frames) count))
