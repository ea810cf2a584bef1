-- Each entry of the mapping has its numbers.
use Rattle.std.proofs.Common.{◌≡◌, ◌⊎◌, inl, inr, ℕ, zero, suc, ◌+◌, ◌-◌, ◌<◌, ◌≤◌, List, [], ◌∷◌, ◌++◌, Option, Some, None, Result, Ok, refl, ap, ◌∙◌, subst, arith, map, codes}
use Rattle.std.proofs.lemmas.Bool.{cases_lt, eq-eqb}
use Rattle.std.specs.Prelude.{Bool, not, ◌&&◌, if◌then◌else◌}
use Rattle.std.specs.Option.{ok_or, option_map}
use Rattle.std.specs.List.{list_any, flat_map, range_with_len, AllZip}
use Rattle.c_tree.specs.declared.cause.EntryCause.{EntryCause}
use Rattle.c_tree.specs.declared.cause.EntryCause.TheVariants as c
use Rattle.c_tree.specs.declared.lifted.Lifted.{Lifted}
use Rattle.c_tree.specs.declared.lifted.LFunction.{LFunction}
use Rattle.c_tree.specs.declared.place.PlaceKind.TheVariants as kind
use Rattle.c_tree.specs.declared.mapping.Pt.{Pt}
use Rattle.c_tree.specs.declared.mapping.Fill.{Fill}
use Rattle.c_tree.specs.declared.mapping.Entry.{Entry}
use Rattle.c_tree.specs.declared.mapping.LEntry.{LEntry}
use Rattle.c_tree.specs.declared.mapping.LEntry.TheVariants as by_number
use Rattle.c_tree.specs.Compute.{literals}
use Rattle.c_tree.specs.Step.{function_of}
use Rattle.c_tree.specs.Refusal.{onward, refuse_if}
use Rattle.c_tree.specs.Names.{same_number}
use Rattle.c_tree.specs.Points.{is_kind, kind_in, place_of, callee_at}
use Rattle.c_tree.specs.Link.{Link, match_at}
use Rattle.c_tree.specs.MapExpr.{Reads}
use Rattle.c_tree.specs.Suits.{Site, site, match_of_callee, kinds_differ, callees_differ}
use Rattle.c_tree.specs.Entries.{both, all_there}
use Rattle.c_tree.specs.Chain.{lifted_fill, lifted_parts, is_twice_filled, lifted_entry}
use Rattle.patch_laws.proofs.Clash.{AllLift}
use Rattle.load_laws.proofs.Programs.{function_name, old_locals, new_locals, first_lifted, next_lifted, main_lifted, old_program, new_program}
use Rattle.load_laws.proofs.MappingEntries.{entry_point, loop_point, call_point, block_point, match_part, kept_point, fill_of, first_named, next_named, main_named, named_entries, part_at, kept_place, value_of, first_numbered, next_numbered, main_numbered, load_entries}
use Rattle.load_laws.proofs.MappingNumbers.{plain_link, IsKeptFunction, first_kept, next_kept, main_kept}

-- the link of the two programs
abbrev pub load_link : ℕ → Link
load_link n = plain_link (old_program n) (new_program n)

-- the words that the programs print
abbrev pub old_word : List ℕ
old_word = codes "old"

abbrev pub new_word : List ℕ
new_word = codes "new"

-- what an expression reads beside the slots of a function
abbrev pub reads_beside : Lifted → LFunction → Reads
reads_beside p f = record { program = p; slots = f.slots; own = [] }

-- whether a call stands at a place of a function
abbrev calls_at : LFunction → ℕ → Bool
calls_at f n = is_kind kind.Call (kind_in f n)

-- what is there, alone in a list
abbrev one : {A : Type 0} → Option A → Option (List A)
one o = both o (Some [])

-- what an entry lifts to, by the function of the number i and the one that it goes to
abbrev between : Link → LFunction → LFunction → ℕ → Pt → List Fill → Result LEntry EntryCause
between link f g i point fills =
    onward (ok_or (place_of f point) c.UnknownPoint) (λ n.
    onward (ok_or (place_of g point) c.UnknownPoint) (λ m.
    refuse_if (if calls_at f n then not (calls_at g m) else calls_at g m) c.KindDiffers (
    refuse_if (calls_at f n && not (same_number (match_of_callee link (callee_at f n)) (callee_at g m))) c.CalleeDiffers (
    onward (ok_or (one (option_map (part_at i m) (all_there (map (lifted_fill link (reads_beside link.old f) g.slots) fills)))) c.BadExpr) (λ xs.
    refuse_if (list_any is_twice_filled xs) c.Twice (
    Ok (by_number.Point i n xs)))))))

-- what an entry of the functions a and b lifts to, once it is known where its part stands
abbrev by_sites : Link → ℕ → ℕ → Pt → List Fill → ℕ → List Site → Result LEntry EntryCause
by_sites link a b point fills n sites =
    refuse_if (kinds_differ link (site a n) sites) c.KindDiffers (
    refuse_if (callees_differ link (site a n) sites) c.CalleeDiffers (
    onward (ok_or (lifted_parts link a sites (match_part point fills ∷ [])) c.BadExpr) (λ xs.
    refuse_if (list_any is_twice_filled xs) c.Twice (
    Ok (by_number.Point a n xs)))))

-- what an entry of the functions a and b lifts to
abbrev by_functions : Link → ℕ → ℕ → Pt → List Fill → Result LEntry EntryCause
by_functions link a b point fills =
    onward (ok_or (place_of (function_of link.old a) point) c.UnknownPoint) (λ n.
    onward (ok_or (one (option_map (site b) (place_of (function_of link.new b) point))) c.UnknownPoint) (by_sites link a b point fills n))

-- where the one part stands
one_site : (i : ℕ) (o u : Option ℕ) (go : ℕ → List Site → Result LEntry EntryCause)
    → onward (ok_or o c.UnknownPoint) (λ n. onward (ok_or (one (option_map (site i) u)) c.UnknownPoint) (go n))
    ≡ onward (ok_or o c.UnknownPoint) (λ n. onward (ok_or u c.UnknownPoint) (λ m. go n (site i m ∷ [])))
one_site i None u go = refl
one_site i (Some n) None go = refl
one_site i (Some n) (Some m) go = refl

lifts : (p q : Lifted) (name : List ℕ) (i : ℕ) (f g : LFunction) (point : Pt) (fills : List Fill) → IsKeptFunction p q name i f g
    → lifted_entry (plain_link p q) (kept_point name point fills) ≡ between (plain_link p q) f g i point fills
lifts p q name i f g point fills h =
    let link = plain_link p q in
    ap (λ o. onward (ok_or o c.UnknownFunction) (λ a. onward (ok_or (match_at link.functions a) c.UnknownFunction) (λ b. by_functions link a b point fills))) h.found
    ∙ (ap (λ o. onward (ok_or o c.UnknownFunction) (λ b. by_functions link i b point fills)) h.matches
    ∙ (one_site i (place_of (function_of p i) point) (place_of (function_of q i) point) (by_sites link i i point fills)
    ∙ (ap (λ z. between link z (function_of q i) i point fills) h.old
    ∙ ap (λ z. between link f z i point fills) h.new)))

-- The entries of one function.
first_at_entry : (link : Link) → between link (first_lifted old_locals) (first_lifted new_locals) 0 entry_point [] ≡ Ok (kept_place 0 0 [])
unfolding literals
first_at_entry link = refl

first_at_loop : (link : Link) → between link (first_lifted old_locals) (first_lifted new_locals) 0 loop_point (fill_of 1 ∷ []) ≡ Ok (kept_place 0 5 (value_of 1 ∷ []))
unfolding literals
first_at_loop link = refl

next_at_entry : (link : Link) (k i : ℕ) → between link (next_lifted old_locals k) (next_lifted new_locals k) i entry_point [] ≡ Ok (kept_place i 0 [])
unfolding literals
next_at_entry link k i = refl

next_at_loop : (link : Link) (k i : ℕ) → between link (next_lifted old_locals k) (next_lifted new_locals k) i loop_point (fill_of k ∷ []) ≡ Ok (kept_place i 5 (value_of k ∷ []))
unfolding literals
next_at_loop link k i = refl

next_at_call : (link : Link) (k i : ℕ) → match_at link.functions (k - 2) ≡ Some (k - 2)
    → between link (next_lifted old_locals k) (next_lifted new_locals k) i call_point (fill_of k ∷ []) ≡ Ok (kept_place i 6 (value_of k ∷ []))
unfolding literals
next_at_call link k i e =
    ap (λ o. refuse_if (not (same_number o (Some (k - 2)))) c.CalleeDiffers (Ok (kept_place i 6 (value_of k ∷ [])))) e
    ∙ ap (λ t. refuse_if (not t) c.CalleeDiffers (Ok (kept_place i 6 (value_of k ∷ [])))) (eq-eqb (k - 2) (k - 2) refl)

main_at_entry : (link : Link) (u v : List ℕ) (n i : ℕ) → between link (main_lifted u n) (main_lifted v n) i entry_point [] ≡ Ok (kept_place i 0 [])
unfolding literals
main_at_entry link u v n i = refl

main_at_first : (link : Link) (u v : List ℕ) (n i : ℕ) → between link (main_lifted u n) (main_lifted v n) i (block_point 1) [] ≡ Ok (kept_place i 5 [])
unfolding literals
main_at_first link u v n i = refl

main_at_second : (link : Link) (u v : List ℕ) (n i : ℕ) → between link (main_lifted u n) (main_lifted v n) i (block_point 2) [] ≡ Ok (kept_place i 6 [])
unfolding literals
main_at_second link u v n i = refl

main_at_third : (link : Link) (u v : List ℕ) (n i : ℕ) → between link (main_lifted u n) (main_lifted v n) i (block_point 3) [] ≡ Ok (kept_place i 7 [])
unfolding literals
main_at_third link u v n i = refl

main_at_fourth : (link : Link) (u v : List ℕ) (n i : ℕ) → between link (main_lifted u n) (main_lifted v n) i (block_point 4) [] ≡ Ok (kept_place i 8 [])
unfolding literals
main_at_fourth link u v n i = refl

pub first_of : (n : ℕ) → IsKeptFunction (old_program n) (new_program n) (function_name 1) 0 (first_lifted old_locals) (first_lifted new_locals)
first_of n = first_kept old_locals new_locals old_word new_word n

pub next_of : (n k : ℕ) → 2 ≤ k → k ≤ n → n ≤ 1000 → IsKeptFunction (old_program n) (new_program n) (function_name k) (k - 1) (next_lifted old_locals k) (next_lifted new_locals k)
next_of n k le within small = next_kept old_locals new_locals old_word new_word n k le within small

pub main_of : (n : ℕ) → 1 ≤ n → IsKeptFunction (old_program n) (new_program n) (codes "main") (n + 1) (main_lifted old_word n) (main_lifted new_word n)
main_of n some = main_kept old_locals new_locals old_word new_word n some

first_lifts : (n : ℕ) → AllLift (load_link n) first_named first_numbered
first_lifts n =
    let h = first_of n in (
      lifts _ _ (function_name 1) 0 _ _ entry_point [] h ∙ first_at_entry (load_link n),
      (lifts _ _ (function_name 1) 0 _ _ loop_point (fill_of 1 ∷ []) h ∙ first_at_loop (load_link n), tt),
    )

-- the function that the function k calls
callee_matches : (n k : ℕ) → 2 ≤ k → k ≤ n → n ≤ 1000 → match_at (load_link n).functions (k - 2) ≡ Some (k - 2)
callee_matches n k le within small = go (cases_lt 2 k)
  where
    go : (2 < k) ⊎ (k ≤ 2) → match_at (load_link n).functions (k - 2) ≡ Some (k - 2)
    go (inl more) =
        let same : k - 1 - 1 ≡ k - 2 = omega arith in
        subst (λ i. match_at (load_link n).functions i ≡ Some i) same (next_of n (k - 1) (omega (arith, more)) (omega (arith, within)) small).matches
    go (inr two) =
        let same : 0 ≡ k - 2 = omega (arith, two) in
        subst (λ i. match_at (load_link n).functions i ≡ Some i) same (first_of n).matches

next_lifts : (n k : ℕ) → 2 ≤ k → k ≤ n → n ≤ 1000 → AllLift (load_link n) (next_named k) (next_numbered k)
next_lifts n k le within small =
    let h = next_of n k le within small in (
      lifts _ _ (function_name k) (k - 1) _ _ entry_point [] h ∙ next_at_entry (load_link n) k (k - 1),
      (
        lifts _ _ (function_name k) (k - 1) _ _ loop_point (fill_of k ∷ []) h ∙ next_at_loop (load_link n) k (k - 1),
        (lifts _ _ (function_name k) (k - 1) _ _ call_point (fill_of k ∷ []) h ∙ next_at_call (load_link n) k (k - 1) (callee_matches n k le within small), tt),
      ),
    )

main_lifts : (n : ℕ) → 1 ≤ n → AllLift (load_link n) main_named (main_numbered (n + 1))
main_lifts n some =
    let h = main_of n some in
    let m = n + 1 in (
      lifts _ _ (codes "main") m _ _ entry_point [] h ∙ main_at_entry (load_link n) old_word new_word n m,
      (
        lifts _ _ (codes "main") m _ _ (block_point 1) [] h ∙ main_at_first (load_link n) old_word new_word n m,
        (
          lifts _ _ (codes "main") m _ _ (block_point 2) [] h ∙ main_at_second (load_link n) old_word new_word n m,
          (
            lifts _ _ (codes "main") m _ _ (block_point 3) [] h ∙ main_at_third (load_link n) old_word new_word n m,
            (lifts _ _ (codes "main") m _ _ (block_point 4) [] h ∙ main_at_fourth (load_link n) old_word new_word n m, tt),
          ),
        ),
      ),
    )

-- The entries of all functions.
zip_both : {A B : Type 0} (R : A → B → Type 0) (xs us : List A) (ys vs : List B) → AllZip R xs ys → AllZip R us vs → AllZip R (xs ++ us) (ys ++ vs)
zip_both R [] us [] vs a b = b
zip_both R [] us (y ∷ ys) vs a b = absurd a
zip_both R (x ∷ xs) us [] vs a b = absurd a
zip_both R (x ∷ xs) us (y ∷ ys) vs a b = (a.0, zip_both R xs us ys vs a.1 b)

range_lifts : (n a m : ℕ) → 2 ≤ a → a + m ≤ n + 1 → n ≤ 1000 → AllLift (load_link n) (flat_map next_named (range_with_len a m)) (flat_map next_numbered (range_with_len a m))
range_lifts n a zero le within small = tt
range_lifts n a (suc m) le within small =
    zip_both (λ x y. lifted_entry (load_link n) x ≡ Ok y) (next_named a) (flat_map next_named (range_with_len (a + 1) m)) (next_numbered a) (flat_map next_numbered (range_with_len (a + 1) m))
    (next_lifts n a le (omega (arith, within)) small)
    (range_lifts n (a + 1) m (omega (arith, le)) (omega (arith, within)) small)

pub all_lift : (n : ℕ) → 1 ≤ n → n ≤ 1000 → AllLift (load_link n) (named_entries n) (load_entries n)
all_lift n some small =
    let each = λ (x : Entry) (y : LEntry). lifted_entry (load_link n) x ≡ Ok y in
    let middle = flat_map next_named (range_with_len 2 (n - 1)) in
    let middle_numbered = flat_map next_numbered (range_with_len 2 (n - 1)) in
    zip_both each first_named (middle ++ main_named) first_numbered (middle_numbered ++ main_numbered (n + 1))
    (first_lifts n)
    (zip_both each middle main_named middle_numbered (main_numbered (n + 1))
    (range_lifts n 2 (n - 1) (omega arith) (omega (arith, some)) small)
    (main_lifts n some))
