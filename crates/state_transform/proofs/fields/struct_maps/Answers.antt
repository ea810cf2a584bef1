use Rattle.std.proofs.Common.{◌≡◌, map, ◌∷◌, [], ◌++◌, sym, ◌∙◌, ap, arith}
use Rattle.std.specs.List.{range_with_len}
use Rattle.std.proofs.lemmas.List.FromFn.{map-range_with_len_more}
use Rattle.state_transform.specs.Fields as spec
use Rattle.state_transform.proofs.fields.struct_maps.Goals as goal

pub loop-old-preserved : goal.loop-old-preserved
loop-old-preserved c =
    let f = spec.struct_map c.args.k.now c.args.entries.now in
    let item : c.in_ok-struct_map.field-0 ≡ f c.loop-old.old = c.in_ok-struct_map.ensures {u = tt} ∙ ap (λ n. f n) (c.in_ok-narrowed.ensures {u = tt}) in
    (c.in_ok-push.ensures {u = tt}).items
    ∙ (ap (λ xs. xs ++ c.in_ok-struct_map.field-0 ∷ []) c.loop-old.invariant
    ∙ (ap (λ o. map f (range_with_len 0 c.loop-old.old) ++ o ∷ []) item
    ∙ sym (map-range_with_len_more f 0 c.loop-old.old c.loop-old.old (omega arith))))
