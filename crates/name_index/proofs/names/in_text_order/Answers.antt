use Rattle.std.proofs.lemmas.List.Sorted.{answers_always}
use Rattle.std.proofs.Common.{rules}
use Rattle.name_index.proofs.SortLemmas.{sort_gives}
use Rattle.name_index.proofs.names.in_text_order.Goals as goal

pub returns : goal.returns
returns c =
    sort_gives c.args.names.items c.sort_by_key.new.self.items
    (c.in_ok-sort_by_key.ensures.sorted (λ x. x.at) (answers_always _ _ _ (λ f a r g h. search rules))) (c.in_ok-sort_by_key.ensures.stable (λ x. x.at) (answers_always _ _ _ (λ f a r g h. search rules)))
