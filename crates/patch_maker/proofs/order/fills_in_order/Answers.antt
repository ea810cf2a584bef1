use Rattle.std.proofs.Common.{◌∙◌, ap, nat_lt, rules}
use Rattle.std.specs.Ordering.{nat_cmp, is_lt}
use Rattle.std.specs.Cmp.{nat_cmp_total}
use Rattle.std.proofs.lemmas.List.Sorted.{answers_always, ranks_by}
use Rattle.c_tree.specs.Canonical.{fills_in_order}
use Rattle.patch_maker.proofs.SortLemmas.{sort_gives, sorted_alike}
use Rattle.patch_maker.proofs.KeyLemmas.{lt_is}
use Rattle.patch_maker.proofs.order.fills_in_order.Goals as goal

pub returns : goal.returns
returns c =
    let sorted = c.in_ok-sort_by_key.ensures.sorted (λ x. x.slot) (answers_always _ _ _ (λ f a r g h. search rules)) in
    let stable = c.in_ok-sort_by_key.ensures.stable (λ x. x.slot) (answers_always _ _ _ (λ f a r g h. search rules)) in
    c.from_vec.ensures
    ∙ (sort_gives (λ a b. is_lt (nat_cmp a.slot b.slot)) (ranks_by nat_cmp_total (λ x. x.slot)) c.into_vec-fills.result.items c.sort_by_key.new.self.items sorted stable
    ∙ (sorted_alike (λ a b. is_lt (nat_cmp a.slot b.slot)) (λ a b. nat_lt a.slot b.slot) (λ a b. lt_is a.slot b.slot) c.into_vec-fills.result.items
    ∙ ap fills_in_order c.into_vec-fills.ensures))
