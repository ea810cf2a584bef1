-- The mapping keeps the limits of one that is read.
use Rattle.std.proofs.Common.{ℕ, zero, suc, ◌+◌, ◌-◌, ◌≤◌, pos, List, [], ◌∷◌, ◌++◌, refl, arith, map, codes}
use Rattle.std.specs.Prelude.{All}
use Rattle.std.specs.List.{flat_map, range_with_len, AllByRecursion}
use Rattle.std.proofs.lemmas.List.Elements.{All-nil, All-from_recursion}
use Rattle.c_tree.specs.declared.op.BinOp.TheVariants as bin
use Rattle.c_tree.specs.declared.program.At.{At}
use Rattle.c_tree.specs.declared.program.ExprKind.TheVariants as e
use Rattle.c_tree.specs.declared.mapping.Fill.{Fill}
use Rattle.c_tree.specs.declared.mapping.Pt.{Pt}
use Rattle.c_tree.specs.declared.mapping.Entry.{Entry}
use Rattle.c_tree.specs.declared.mapping.Mapping.{Mapping}
use Rattle.c_tree.specs.Compute.{literals}
use Rattle.c_tree.specs.MapForm.{IsReadPoint, IsAddedPart}
use Rattle.read_back.specs.Kept.{IsKeptExpr, IsKeptPoint, IsKeptPart, IsKeptEntry, IsKept, between, name, number}
use Rattle.load_laws.proofs.Programs.{function_name, node}
use Rattle.load_laws.proofs.MappingEntries.{entry_point, loop_point, call_point, block_point, match_part, kept_point, fill_of, first_named, next_named, main_named, named_entries}

-- the entries with an offset
abbrev pub placed : List Entry → List (At Entry)
placed xs = map (λ x. record { at = 0; it = x }) xs

abbrev pub named_mapping : ℕ → Mapping
named_mapping n = record { entries = placed (named_entries n) }

fill_kept : (k : ℕ) → k ≤ 1000 → IsKeptExpr (fill_of k).expr
unfolding literals
fill_kept k small = record {
  operators = 1;
  fits = between 0 bin.Mul (node 0 (e.Name (codes "i"))) (node 0 (e.Num (pos k))) (omega arith) (name 9 100 (codes "i") (omega arith)) (number 10 100 k (omega arith) (omega (arith, small)));
  few = omega arith;
}

one_kept : (k : ℕ) → k ≤ 1000 → All (λ x. IsKeptExpr x.expr) (fill_of k ∷ [])
one_kept k small = All-from_recursion (λ x. IsKeptExpr x.expr) (fill_of k ∷ []) (fill_kept k small, tt)

none_kept : All (λ (x : Fill). IsKeptExpr x.expr) []
none_kept = All-from_recursion (λ (x : Fill). IsKeptExpr x.expr) [] tt

-- a point that goes to one part
point_kept : (f : List ℕ) (point : Pt) (fills : List Fill) → IsReadPoint point → IsKeptPoint point → All (λ x. IsKeptExpr x.expr) fills → IsKeptEntry (kept_point f point fills)
point_kept f point fills read h all = (
  h,
  (refl, read, omega arith, All-nil IsAddedPart),
  All-from_recursion IsKeptPart (match_part point fills ∷ []) ((h, all), tt),
)

each_both : (xs ys : List Entry) → AllByRecursion IsKeptEntry xs → AllByRecursion IsKeptEntry ys → AllByRecursion IsKeptEntry (xs ++ ys)
each_both [] ys a b = b
each_both (x ∷ xs) ys a b = (a.0, each_both xs ys a.1 b)

first_kept : AllByRecursion IsKeptEntry first_named
first_kept = (point_kept (function_name 1) entry_point [] refl refl none_kept, (point_kept (function_name 1) loop_point (fill_of 1 ∷ []) refl (omega arith) (one_kept 1 (omega arith)), tt))

next_kept : (k : ℕ) → k ≤ 1000 → AllByRecursion IsKeptEntry (next_named k)
next_kept k small = (
  point_kept (function_name k) entry_point [] refl refl none_kept,
  (
    point_kept (function_name k) loop_point (fill_of k ∷ []) refl (omega arith) (one_kept k small),
    (point_kept (function_name k) call_point (fill_of k ∷ []) refl (omega arith) (one_kept k small), tt),
  ),
)

main_kept : AllByRecursion IsKeptEntry main_named
main_kept = (
  point_kept (codes "main") entry_point [] refl refl none_kept,
  (
    point_kept (codes "main") (block_point 1) [] refl (omega arith) none_kept,
    (
      point_kept (codes "main") (block_point 2) [] refl (omega arith) none_kept,
      (
        point_kept (codes "main") (block_point 3) [] refl (omega arith) none_kept,
        (point_kept (codes "main") (block_point 4) [] refl (omega arith) none_kept, tt),
      ),
    ),
  ),
)

range_kept : (a m : ℕ) → a + m ≤ 1001 → AllByRecursion IsKeptEntry (flat_map next_named (range_with_len a m))
range_kept a zero small = tt
range_kept a (suc m) small = each_both (next_named a) (flat_map next_named (range_with_len (a + 1) m)) (next_kept a (omega (arith, small))) (range_kept (a + 1) m (omega (arith, small)))

each_placed : (xs : List Entry) → AllByRecursion IsKeptEntry xs → AllByRecursion (λ x. IsKeptEntry x.it) (placed xs)
each_placed [] h = tt
each_placed (x ∷ xs) h = (h.0, each_placed xs h.1)

pub mapping_kept : (n : ℕ) → 1 ≤ n → n ≤ 1000 → IsKept (named_mapping n)
mapping_kept n some small =
    let middle = flat_map next_named (range_with_len 2 (n - 1)) in
    All-from_recursion (λ x. IsKeptEntry x.it) (placed (named_entries n))
    (each_placed (named_entries n)
    (each_both first_named (middle ++ main_named) first_kept (each_both middle main_named (range_kept 2 (n - 1) (omega (arith, some, small))) main_kept)))
