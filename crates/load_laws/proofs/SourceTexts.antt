-- The lexemes of a source, part by part.
use Rattle.std.proofs.Common.{◌≡◌, ℕ, zero, suc, ◌+◌, ◌-◌, ◌≤◌, Bool, true, false, List, [], ◌∷◌, ◌++◌, length, map, refl, sym, ap, ◌∙◌, subst, arith, append_assoc, append-nil, codes}
use Rattle.std.specs.Prelude.{nat_eq}
use Rattle.std.specs.Fmt.{decimal}
use Rattle.std.specs.Int.{IsInRange}
use Rattle.std.specs.List.{flat_map, range_with_len}
use Rattle.std.proofs.lemmas.List.{map-append}
use Rattle.std.proofs.lemmas.Bool.Decides.{nat_tests}
use Rattle.c_tree.specs.declared.program.Function.{Function}
use Rattle.c_tree.specs.declared.program.Program.{Program}
use Rattle.c_tokens.specs.declared.lexeme.Lexeme.{Lexeme}
use Rattle.c_tokens.specs.declared.piece.Part.{Part}
use Rattle.c_tokens.specs.declared.piece.Part.TheVariants as part
use Rattle.c_tokens.specs.Compute.{texts}
use Rattle.c_tokens.specs.Source.{scan_from}
use Rattle.c_grammar.specs.declared.kind.Kind.TheVariants as kind
use Rattle.c_grammar.specs.Effects.{with_function, with_global, with_mutex}
use Rattle.c_grammar.specs.Pieces.{Piece, lexeme_piece}
use Rattle.c_grammar.specs.Tokens.{word_kind}
use Rattle.c_grammar.specs.Words.{words}
use Rattle.load_texts.specs.Texts.{looped, first_function, next_function, work, added, main, threads, printed}
use Rattle.load_laws.proofs.Programs.{type_text, open_text, loop_text, return_text, end_text, called_text, work_text, total_text, declared, word, named, function_name, after_name, after_declared, after_loop, after_call, after_called, first_tree, next_tree, next_trees, work_tree, main_tree, total_tree}
use Rattle.load_laws.proofs.SourceTokens.{Gives, both_give, ended, moved, lexemes_of, chunk_gives, Stops, digits_of, name_lexeme, name_gives, number_lexeme, number_gives}
use Rattle.load_laws.proofs.Derivation.{LeadsTo, leads_on, reached, to, leads}
use Rattle.load_laws.proofs.SourceForm.{items, read, pieces_at, name_piece, looped_pieces, first_pieces, first_reached, next_pieces, next_reached, work_pieces, work_reached, main_reached, total_reached}

-- a text without numbers, from one part of a line to another
abbrev pub Chunk : Part → List ℕ → Part → Type 0
Chunk p bytes q = (rest : List ℕ) (at : ℕ) → Gives p bytes rest at (map (moved at) (lexemes_of p bytes rest)) q

int_gives : Chunk part.Head type_text part.Middle
unfolding texts ended
int_gives rest at = chunk_gives part.Head part.Middle type_text rest at refl refl

open_gives : Chunk part.Middle open_text part.Middle
unfolding texts ended
open_gives rest at = chunk_gives part.Middle part.Middle open_text rest at refl refl

declared_gives : (wide : Bool) → Chunk part.Middle (declared wide) part.Middle
unfolding texts ended
declared_gives false rest at = chunk_gives part.Middle part.Middle (codes "int i;") rest at refl refl
declared_gives true rest at = chunk_gives part.Middle part.Middle (codes "int i; int z;") rest at refl refl

loop_gives : Chunk part.Middle loop_text part.Middle
unfolding texts ended
loop_gives rest at = chunk_gives part.Middle part.Middle loop_text rest at refl refl

end_gives : Chunk part.Middle end_text part.Head
unfolding texts ended
end_gives rest at = chunk_gives part.Middle part.Head end_text rest at refl refl

return_gives : Chunk part.Middle return_text part.Middle
unfolding texts ended
return_gives rest at = chunk_gives part.Middle part.Middle return_text rest at refl refl

called_gives : Chunk part.Middle called_text part.Head
unfolding texts ended
called_gives rest at = chunk_gives part.Middle part.Head called_text rest at refl refl

first_gives : Chunk part.Head total_text part.Head
unfolding texts ended
first_gives rest at = chunk_gives part.Head part.Head total_text rest at refl refl

work_gives : Chunk part.Head work_text part.Middle
unfolding texts ended
work_gives rest at = chunk_gives part.Head part.Middle work_text rest at refl refl

added_gives : Chunk part.Middle added part.Head
unfolding texts ended added
added_gives rest at = chunk_gives part.Middle part.Head added rest at refl refl

main_gives : (wide : Bool) → Chunk part.Head (main (word wide)) part.Head
unfolding texts ended threads printed
main_gives false rest at = chunk_gives part.Head part.Head (main (word false)) rest at refl refl
main_gives true rest at = chunk_gives part.Head part.Head (main (word true)) rest at refl refl

-- Sections.

-- A text stands between two lines, and leads from one program to another.
pub record Section (bytes rest : List ℕ) (at : ℕ) (p q : Program) : Type 0 where
  pub lexemes : List Lexeme
  pub gives : Gives part.Head bytes rest at lexemes part.Head
  pub leads : LeadsTo items (read p) (map lexeme_piece lexemes) items (read q)

pub no_section : (rest : List ℕ) (at : ℕ) (p : Program) → Section [] rest at p p
no_section rest at p =
    let e : at ≡ at + 0 = omega arith in
    record { lexemes = []; gives = ap (λ n. scan_from part.Head n 0 rest) e; leads = λ values qs k. k }

pub both : (a b rest : List ℕ) (at mid : ℕ) (p q r : Program) → at + length a ≡ mid → Section a (b ++ rest) at p q → Section b rest mid q r → Section (a ++ b) rest at p r
both a b rest at mid p q r e x y = record {
  lexemes = x.lexemes ++ y.lexemes;
  gives = both_give part.Head part.Head part.Head a b rest at mid x.lexemes y.lexemes e x.gives y.gives;
  leads =
      subst (λ ps. LeadsTo items (read p) ps items (read r)) (sym (map-append lexeme_piece x.lexemes y.lexemes))
      (leads_on (map lexeme_piece x.lexemes) (map lexeme_piece y.lexemes) x.leads y.leads);
}

section : (bytes rest : List ℕ) (at : ℕ) (p q : Program) (n : ℕ) (ls : List Lexeme) (ps : List Piece) → Gives part.Head bytes rest at ls part.Head → map lexeme_piece ls ≡ ps
    → reached n items (read p) ps ≡ to items (read q) → Section bytes rest at p q
section bytes rest at p q n ls ps g e h = record {
  lexemes = ls;
  gives = g;
  leads = subst (λ xs. LeadsTo items (read p) xs items (read q)) (sym e) (leads n items (read p) ps items (read q) h);
}

-- The name of a function is a name.
word_is_name : (ds : List ℕ) (c : ℕ) (cs : List ℕ) → ds ≡ c ∷ cs → IsInRange 48 57 c → word_kind (102 ∷ ds) ≡ kind.Name
unfolding word_kind words
word_is_name ds c cs e r =
    let a : nat_eq 111 c ≡ false = grind (arith, nat_tests, r) in
    let b : nat_eq 114 c ≡ false = grind (arith, nat_tests, r) in
    let d : nat_eq 108 c ≡ false = grind (arith, nat_tests, r) in
    rw e (rw (a, b, d) refl)

name_is : (k at : ℕ) → k ≤ 1001 → lexeme_piece (name_lexeme k at) ≡ name_piece k at
name_is k at le =
    let d = digits_of k le in
    ap (λ w. let x : Piece = record { kind = w; at = at; value = (name_piece k at).value } in x) (word_is_name (decimal k) d.head d.tail d.are d.digit)

-- The functions.

abbrev pub looped_before : List ℕ → ℕ → List ℕ → List ℕ
looped_before d k u = type_text ++ (function_name k ++ (open_text ++ (d ++ (loop_text ++ (decimal k ++ u)))))

-- the lexemes of the function k up to what it gives
abbrev looped_lexemes : Bool → ℕ → ℕ → List ℕ → List ℕ → List ℕ → List ℕ → List Lexeme → List Lexeme
looped_lexemes wide k at a b c d last =
    map (moved at) (lexemes_of part.Head type_text a)
    ++ (name_lexeme k (at + 4) ∷ (map (moved (after_name k at)) (lexemes_of part.Middle open_text b)
    ++ (map (moved (after_name k at + 10)) (lexemes_of part.Middle (declared wide) c)
    ++ (map (moved (after_declared wide k at)) (lexemes_of part.Middle loop_text d)
    ++ (number_lexeme k (after_declared wide k at + 43) ∷ last)))))

name_ends : (k at : ℕ) → at + 4 + length (function_name k) ≡ after_name k at
name_ends k at = omega arith

looped_give : (wide : Bool) (k at : ℕ) (u rest : List ℕ) (last : List Lexeme) (q : Part) → k ≤ 1001 → Stops (u ++ rest) → Gives part.Middle u rest (after_loop wide k at) last q
    → (a : List ℕ) × (b : List ℕ) × (c : List ℕ) × (d : List ℕ) × Gives part.Head (looped_before (declared wide) k u) rest at (looped_lexemes wide k at a b c d last) q
looped_give wide k at u rest last q le stops g =
    let t5 = decimal k ++ u in
    let t4 = loop_text ++ t5 in
    let t3 = declared wide ++ t4 in
    let t2 = open_text ++ t3 in
    let t1 = function_name k ++ t2 in
    let m = after_declared wide k at in
    let loop = loop_text in
    let c4 = map (moved m) (lexemes_of part.Middle loop (t5 ++ rest)) in
    let c3 = map (moved (after_name k at + 10)) (lexemes_of part.Middle (declared wide) (t4 ++ rest)) in
    let c2 = map (moved (after_name k at)) (lexemes_of part.Middle open_text (t3 ++ rest)) in
    let c1 = map (moved at) (lexemes_of part.Head type_text (t1 ++ rest)) in
    let l5 = number_lexeme k (m + 43) ∷ last in
    let l4 = c4 ++ l5 in
    let l3 = c3 ++ l4 in
    let l2 = c2 ++ l3 in
    let g5 : Gives part.Middle t5 rest (m + 43) l5 q =
    both_give part.Middle part.Middle q (decimal k) u rest (m + 43) (after_loop wide k at) (number_lexeme k (m + 43) ∷ []) last refl (number_gives k (u ++ rest) (m + 43) le stops) g in
    let g4 : Gives part.Middle t4 rest m l4 q = both_give part.Middle part.Middle q loop t5 rest m (m + 43) c4 l5 refl (loop_gives (t5 ++ rest) m) g5 in
    let g3 : Gives part.Middle t3 rest (after_name k at + 10) l3 q =
    both_give part.Middle part.Middle q (declared wide) t4 rest (after_name k at + 10) m c3 l4 refl (declared_gives wide (t4 ++ rest) (after_name k at + 10)) g4 in
    let g2 : Gives part.Middle t2 rest (after_name k at) l2 q =
    both_give part.Middle part.Middle q open_text t3 rest (after_name k at) (after_name k at + 10) c2 l3 refl (open_gives (t3 ++ rest) (after_name k at)) g3 in
    let g1 : Gives part.Middle t1 rest (at + 4) (name_lexeme k (at + 4) ∷ l2) q =
    both_give part.Middle part.Middle q (function_name k) t2 rest (at + 4) (after_name k at) (name_lexeme k (at + 4) ∷ []) l2 (name_ends k at) (name_gives k (t2 ++ rest) (at + 4) le refl) g2 in
    (t1 ++ rest, t3 ++ rest, t4 ++ rest, t5 ++ rest, both_give part.Head part.Middle q type_text t1 rest at (at + 4) c1 (name_lexeme k (at + 4) ∷ l2) refl (int_gives (t1 ++ rest) at) g1)

looped_pieces_are : (wide : Bool) (k at : ℕ) (a b c d : List ℕ) (last : List Lexeme) → k ≤ 1001 → map lexeme_piece (looped_lexemes wide k at a b c d last) ≡ looped_pieces wide k at a b c d (map lexeme_piece last)
looped_pieces_are wide k at a b c d last le =
    let c1 = map (moved at) (lexemes_of part.Head type_text a) in
    let c2 = map (moved (after_name k at)) (lexemes_of part.Middle open_text b) in
    let c3 = map (moved (after_name k at + 10)) (lexemes_of part.Middle (declared wide) c) in
    let c4 = map (moved (after_declared wide k at)) (lexemes_of part.Middle loop_text d) in
    let x4 = number_lexeme k (after_declared wide k at + 43) ∷ last in
    let x3 = c4 ++ x4 in
    let x2 = c3 ++ x3 in
    let x1 = c2 ++ x2 in
    map-append lexeme_piece c1 (name_lexeme k (at + 4) ∷ x1)
    ∙ ap (λ z. map lexeme_piece c1 ++ z ∷ map lexeme_piece x1) (name_is k (at + 4) le)
    ∙ ap (λ zs. map lexeme_piece c1 ++ name_piece k (at + 4) ∷ zs)
    (map-append lexeme_piece c2 x2
    ∙ ap (λ zs. map lexeme_piece c2 ++ zs) (map-append lexeme_piece c3 x3 ∙ ap (λ zs. map lexeme_piece c3 ++ zs) (map-append lexeme_piece c4 x4)))

looped_then : (d : List ℕ) (k : ℕ) (u : List ℕ) → looped d k ++ u ≡ looped_before d k (return_text ++ u)
looped_then d k u =
    let r = return_text in
    let loop = loop_text in
    let t3 = loop ++ (decimal k ++ r) in
    let t2 = d ++ t3 in
    let t1 = open_text ++ t2 in
    ap (λ z. codes "int f" ++ z) (append_assoc (decimal k) t1 u ∙ ap (λ z. decimal k ++ (open_text ++ z)) (append_assoc d t3 u ∙ ap (λ z. d ++ (loop ++ z)) (append_assoc (decimal k) r u)))

pub first_section : (wide : Bool) (rest : List ℕ) (at : ℕ) (p : Program) → Section (first_function (declared wide)) rest at p (with_function p (first_tree wide at))
first_section wide rest at p =
    let u = end_text in
    let last = map (moved (after_loop wide 1 at)) (lexemes_of part.Middle u rest) in
    let found = looped_give wide 1 at u rest last part.Head (omega arith) refl (end_gives rest (after_loop wide 1 at)) in
    subst (λ t. Section t rest at p (with_function p (first_tree wide at))) (sym (looped_then (declared wide) 1 (codes "x; }\n")))
    (section (looped_before (declared wide) 1 u) rest at p (with_function p (first_tree wide at)) 3000 (looped_lexemes wide 1 at found.0 found.1 found.2 found.3 last) (first_pieces wide at found.0 found.1 found.2 found.3 rest) found.4
    (looped_pieces_are wide 1 at found.0 found.1 found.2 found.3 last (omega arith)) (first_reached wide at found.0 found.1 found.2 found.3 rest p))

pub next_section : (wide : Bool) (k : ℕ) (rest : List ℕ) (at : ℕ) (p : Program) → k ≤ 1001 → Section (next_function (declared wide) k) rest at p (with_function p (next_tree wide k at))
next_section wide k rest at p le =
    let r = return_text in
    let name = function_name (k - 1) in
    let e = called_text in
    let m = after_loop wide k at in
    let c = after_call wide k at in
    let u = r ++ (name ++ e) in
    let less : k - 1 ≤ 1001 = omega (arith, le) in
    let l2 = map (moved c) (lexemes_of part.Middle e rest) in
    let l1 = name_lexeme (k - 1) (m + 11) ∷ l2 in
    let l0 = map (moved m) (lexemes_of part.Middle r ((name ++ e) ++ rest)) in
    let g1 : Gives part.Middle (name ++ e) rest (m + 11) l1 part.Head =
    both_give part.Middle part.Middle part.Head name e rest (m + 11) c (name_lexeme (k - 1) (m + 11) ∷ []) l2 (call_ends wide k at) (name_gives (k - 1) (e ++ rest) (m + 11) less refl) (called_gives rest c) in
    let g0 : Gives part.Middle u rest m (l0 ++ l1) part.Head = both_give part.Middle part.Middle part.Head r (name ++ e) rest m (m + 11) l0 l1 refl (return_gives ((name ++ e) ++ rest) m) g1 in
    let found = looped_give wide k at u rest (l0 ++ l1) part.Head le refl g0 in
    let same : map lexeme_piece (l0 ++ l1) ≡ pieces_at m part.Middle r ((name ++ e) ++ rest) ++ name_piece (k - 1) (m + 11) ∷ pieces_at c part.Middle e rest =
    map-append lexeme_piece l0 l1 ∙ ap (λ z. map lexeme_piece l0 ++ z ∷ map lexeme_piece l2) (name_is (k - 1) (m + 11) less) in
    subst (λ t. Section t rest at p (with_function p (next_tree wide k at))) (sym (looped_then (declared wide) k (name ++ e)))
    (section (looped_before (declared wide) k u) rest at p (with_function p (next_tree wide k at)) 3000 (looped_lexemes wide k at found.0 found.1 found.2 found.3 (l0 ++ l1)) (next_pieces wide k at found.0 found.1 found.2 found.3 ((name ++ e) ++ rest) rest) found.4
    (looped_pieces_are wide k at found.0 found.1 found.2 found.3 (l0 ++ l1) le ∙ ap (looped_pieces wide k at found.0 found.1 found.2 found.3) same)
    (next_reached wide k at found.0 found.1 found.2 found.3 ((name ++ e) ++ rest) rest p))
  where
    call_ends : (wide : Bool) (k at : ℕ) → after_loop wide k at + 11 + length (function_name (k - 1)) ≡ after_call wide k at
    call_ends wide k at = omega arith

name_stops : (rest : List ℕ) → Stops (added ++ rest)
unfolding added
name_stops rest = refl

pub work_section : (n : ℕ) (rest : List ℕ) (at : ℕ) (p : Program) → n ≤ 1001 → Section (work n) rest at p (with_function p (work_tree n at))
work_section n rest at p le =
    let front = work_text in
    let name = function_name n in
    let m = after_called n at in
    let l2 = map (moved m) (lexemes_of part.Middle added rest) in
    let l1 = name_lexeme n (at + 33) ∷ l2 in
    let l0 = map (moved at) (lexemes_of part.Head front ((name ++ added) ++ rest)) in
    let g1 : Gives part.Middle (name ++ added) rest (at + 33) l1 part.Head =
    both_give part.Middle part.Middle part.Head name added rest (at + 33) m (name_lexeme n (at + 33) ∷ []) l2 (name_over n at) (name_gives n (added ++ rest) (at + 33) le (name_stops rest)) (added_gives rest m) in
    let g0 : Gives part.Head (front ++ (name ++ added)) rest at (l0 ++ l1) part.Head = both_give part.Head part.Middle part.Head front (name ++ added) rest at (at + 33) l0 l1 refl (work_gives ((name ++ added) ++ rest) at) g1 in
    section (work n) rest at p (with_function p (work_tree n at)) 3000 (l0 ++ l1) (work_pieces n at ((name ++ added) ++ rest) rest) g0
    (map-append lexeme_piece l0 l1 ∙ ap (λ z. map lexeme_piece l0 ++ z ∷ map lexeme_piece l2) (name_is n (at + 33) le)) (work_reached n at ((name ++ added) ++ rest) rest p)
  where
    name_over : (n at : ℕ) → at + 33 + length (function_name n) ≡ after_called n at
    name_over n at = omega arith

pub main_section : (wide : Bool) (rest : List ℕ) (at : ℕ) (p : Program) → Section (main (word wide)) rest at p (with_function p (main_tree wide at))
main_section wide rest at p =
    section (main (word wide)) rest at p (with_function p (main_tree wide at)) 5000 (map (moved at) (lexemes_of part.Head (main (word wide)) rest)) (pieces_at at part.Head (main (word wide)) rest)
    (main_gives wide rest at) refl (main_reached wide at rest p)

pub total_section : (rest : List ℕ) (p : Program) → Section total_text rest 0 p (with_mutex (with_global p total_tree) (named 27 (codes "m")))
total_section rest p =
    let t = total_text in
    section t rest 0 p (with_mutex (with_global p total_tree) (named 27 (codes "m"))) 1000 (map (moved 0) (lexemes_of part.Head t rest)) (pieces_at 0 part.Head t rest) (first_gives rest 0) refl (total_reached rest p)

-- All functions that call the one before them.

abbrev pub with_functions : Program → List Function → Program
with_functions p fs = record p { functions = p.functions ++ fs }

pub next_sections : (wide : Bool) (k m : ℕ) (rest : List ℕ) (at : ℕ) (p : Program) → k + m ≤ 1002
    → Section (flat_map (next_function (declared wide)) (range_with_len k m)) rest at p (with_functions p (next_trees wide k at m))
next_sections wide k zero rest at p le = subst (λ fs. Section [] rest at p (record p { functions = fs })) (sym (append-nil p.functions)) (no_section rest at p)
next_sections wide k (suc m) rest at p le =
    let text = next_function (declared wide) k in
    let more = flat_map (next_function (declared wide)) (range_with_len (k + 1) m) in
    let mid = at + length text in
    let f = next_tree wide k at in
    let q = with_function p f in
    let fs = next_trees wide (k + 1) mid m in
    subst (λ gs. Section (text ++ more) rest at p (record p { functions = gs })) (append_assoc p.functions (f ∷ []) fs)
    (both text more rest at mid p q (with_functions q fs) refl (next_section wide k (more ++ rest) at p (omega (arith, le))) (next_sections wide (k + 1) m rest mid q (omega (arith, le))))
