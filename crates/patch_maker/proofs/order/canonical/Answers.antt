use Rattle.std.proofs.Common.{◌∙◌, ap, rules}
use Rattle.std.specs.Ordering.{is_lt}
use Rattle.std.proofs.lemmas.List.Sorted.{answers_always, ranks_by}
use Rattle.c_tree.specs.Canonical.{key_of, is_before, sorted_by}
use Rattle.patch_maker.specs.Order.{numbers_of}
use Rattle.patch_maker.proofs.SortLemmas.{sort_gives, sorted_alike}
use Rattle.patch_maker.proofs.KeyLemmas.{triple_cmp, triple_total, before_is}
use Rattle.patch_maker.proofs.order.canonical.Goals as goal

pub returns : goal.returns
returns c =
    let sorted = c.in_ok-sort_by_key.ensures.sorted (λ x. numbers_of (key_of x)) (answers_always _ _ _ (λ f a r g h. search rules)) in
    let stable = c.in_ok-sort_by_key.ensures.stable (λ x. numbers_of (key_of x)) (answers_always _ _ _ (λ f a r g h. search rules)) in
    let items = c.in_ok-entries.entries.items in
    sort_gives (λ a b. is_lt (triple_cmp (numbers_of (key_of a)) (numbers_of (key_of b)))) (ranks_by triple_total (λ x. numbers_of (key_of x))) items c.sort_by_key.new.self.items sorted stable
    ∙ (sorted_alike (λ a b. is_lt (triple_cmp (numbers_of (key_of a)) (numbers_of (key_of b)))) (λ a b. is_before (key_of a) (key_of b)) (λ a b. before_is (key_of a) (key_of b)) items
    ∙ ap (sorted_by (λ a b. is_before (key_of a) (key_of b))) c.in_ok-entries.ensures)
