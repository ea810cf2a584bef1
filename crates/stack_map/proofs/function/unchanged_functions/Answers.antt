use Rattle.std.proofs.Common.{rules, ◌≡◌, map, ◌∷◌, [], ◌++◌, sym, ◌∙◌, ap, arith}
use Rattle.std.specs.List.{range_with_len}
use Rattle.std.proofs.lemmas.List.FromFn.{map-range_with_len_more}
use Rattle.stack_map.specs.Kept as spec
use Rattle.stack_map.proofs.function.unchanged_functions.Goals as goal

pub loop-f-preserved : goal.loop-f-preserved
loop-f-preserved c =
    let more : c.push.new.self.items ≡ c.loop-f.same.items ++ c.is_same.result ∷ [] = search rules in
    let number : c.is_same.result ≡ spec.is_same_function c.args.k.now c.loop-f.f = c.is_same.ensures ∙ ap (λ n. spec.is_same_function c.args.k.now n) (c.in_ok-narrowed.ensures {u = tt}) in
    more
    ∙ (ap (λ xs. xs ++ c.is_same.result ∷ []) c.loop-f.invariant
    ∙ (ap (λ b. map (spec.is_same_function c.args.k.now) (range_with_len 0 c.loop-f.f) ++ b ∷ []) number
    ∙ sym (map-range_with_len_more (spec.is_same_function c.args.k.now) 0 c.loop-f.f c.loop-f.f (omega arith))))
