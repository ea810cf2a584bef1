-- Each alternative of a rule of mappings does what the rule promises.
use Rattle.std.specs.Prelude.{◌≡◌, ℕ, suc, ◌≤◌, true, false, List, [], ◌∷◌, ◌++◌}
use Rattle.std.specs.List.{list_all}
use Rattle.std.proofs.Common.{refl, ◌∙◌, ap, subst, arith}
use Rattle.c_tree.specs.declared.token.Token.{Token}
use Rattle.c_tree.specs.Operators.{binding}
use Rattle.c_grammar.specs.declared.action.Action.TheVariants as action
use Rattle.c_grammar.specs.declared.kind.Kind.{Kind}
use Rattle.c_grammar.specs.declared.kind.Kind.TheVariants as kind
use Rattle.c_grammar.specs.declared.rule.Rule.{Rule}
use Rattle.c_grammar.specs.declared.rule.Rule.TheVariants as rule
use Rattle.c_grammar.specs.declared.symbol.Mark.TheVariants as mark
use Rattle.c_grammar.specs.declared.symbol.Symbol.{Symbol}
use Rattle.c_grammar.specs.declared.value.Value.TheVariants as value
use Rattle.c_grammar.specs.Effects.{State, binary_of, effect, with_token, value_effect}
use Rattle.c_grammar.specs.Reading.{Among, first, later}
use Rattle.c_grammar.specs.Tokens.{map_kind_of}
use Rattle.c_reader.specs.Choices.{choices}
use Rattle.read_back.proofs.Contracts.{Claim, Level, Tail, OperatorAt, Parted, Reads, LeadsOn}
use Rattle.read_back.proofs.Operands.{same_le, rebase, lower, down, whole, bin_made, un_made, group_made, index_made, field_made, name_made, hidden_made, temporary_made, number_made, null_made, eof_made}
use Rattle.read_back.proofs.EntriesKept.{doc_past, match_done, unmatched_done, field_done, init_done, check_done, point_done, read_point, first_begun, more_begun, begun_past, one_parted, two_parted, three_parted, four_parted, added_is, number_point, no_fills, fills_past, fill_done, is_meant, new_word, same_kind}

-- an operator of a level, by the kind of its sign
operator_at : (q : Kind) (level : ℕ) (t : Token) → is_meant q ≡ false → binding (binary_of q) ≡ level → map_kind_of t.kind ≡ q → OperatorAt level t
operator_at q level t sign is e = ap (λ k. binding (binary_of k)) (same_kind q t.kind sign e) ∙ is

-- one more operand behind an operator, and so on
again : (level : ℕ) (next : Claim) (state : State) → Tail level state next → (t : Token) → OperatorAt level t
    → (low : ℕ) → (with_token mark.CountKeep (value.Word t) state).depth ≤ low → (with_token mark.CountKeep (value.Word t) state).operators ≤ 1000
    → Level (suc level) (with_token mark.CountKeep (value.Word t) state) low (λ after low'. Tail level (effect action.Bin after) next)
again level next state (base, behind, depth, made, more) t is low deep few = (deep, few, λ after low' m. (base, behind, depth, bin_made level t state after is made m, more))

-- a tail that ends
ends : (level : ℕ) (next : Claim) (state : State) (low : ℕ) → Tail level state next → next state low
ends level next state low (base, behind, depth, made, more) = more state low made

-- Nothing is in an empty list.
falsely : {X : Type 0} {x : X} {xs : List X} → Among x xs → list_all (λ y. false) xs ≡ true → false ≡ true
falsely first h = h
falsely (later m) h = h

nothing : {X : Type 0} {x : X} → Among x [] → ⊥
nothing m = let bad : false ≡ true = falsely m refl in cc

pub does : (r : Rule) {front : List Symbol} → Among front (choices r) → (behind : List Symbol) (state : State) (low : ℕ) → Reads r behind state low (λ after low'. LeadsOn behind after low') → LeadsOn (front ++ behind) state low
does rule.MapExpr first behind state low h = down 0 state low (λ after low'. LeadsOn behind after low') h
does rule.MapAndAnd first behind state low h = down 1 state low (λ after low'. LeadsOn behind after low') h
does rule.MapBitOr first behind state low h = down 2 state low (λ after low'. LeadsOn behind after low') h
does rule.MapBitXor first behind state low h = down 3 state low (λ after low'. LeadsOn behind after low') h
does rule.MapBitAnd first behind state low h = down 4 state low (λ after low'. LeadsOn behind after low') h
does rule.MapEqual first behind state low h = down 5 state low (λ after low'. LeadsOn behind after low') h
does rule.MapOrder first behind state low h = down 6 state low (λ after low'. LeadsOn behind after low') h
does rule.MapShift first behind state low h = down 7 state low (λ after low'. LeadsOn behind after low') h
does rule.MapAdd first behind state low h = down 8 state low (λ after low'. LeadsOn behind after low') h
does rule.MapMul first behind state low h = down 9 state low (λ after low'. LeadsOn behind after low') h
does rule.MapExprTail first behind state low h = λ t is le few. again 0 (λ after low'. LeadsOn behind after low') state h t is _ (same_le _) few
does rule.MapExprTail (later first) behind state low h = ends 0 (λ after low'. LeadsOn behind after low') state low h
does rule.MapAndAndTail first behind state low h = λ t is le few. again 1 (λ after low'. LeadsOn behind after low') state h t is _ (same_le _) few
does rule.MapAndAndTail (later first) behind state low h = ends 1 (λ after low'. LeadsOn behind after low') state low h
does rule.MapBitOrTail first behind state low h = λ t is le few. again 2 (λ after low'. LeadsOn behind after low') state h t is _ (same_le _) few
does rule.MapBitOrTail (later first) behind state low h = ends 2 (λ after low'. LeadsOn behind after low') state low h
does rule.MapBitXorTail first behind state low h = λ t is le few. again 3 (λ after low'. LeadsOn behind after low') state h t is _ (same_le _) few
does rule.MapBitXorTail (later first) behind state low h = ends 3 (λ after low'. LeadsOn behind after low') state low h
does rule.MapBitAndTail first behind state low h = λ t is le few. again 4 (λ after low'. LeadsOn behind after low') state h t is _ (same_le _) few
does rule.MapBitAndTail (later first) behind state low h = ends 4 (λ after low'. LeadsOn behind after low') state low h
does rule.MapEqualTail first behind state low h = λ t is le few. again 5 (λ after low'. LeadsOn behind after low') state h t is _ (same_le _) few
does rule.MapEqualTail (later first) behind state low h = ends 5 (λ after low'. LeadsOn behind after low') state low h
does rule.MapOrderTail first behind state low h = λ t is le few. again 6 (λ after low'. LeadsOn behind after low') state h t is _ (same_le _) few
does rule.MapOrderTail (later first) behind state low h = ends 6 (λ after low'. LeadsOn behind after low') state low h
does rule.MapShiftTail first behind state low h = λ t is le few. again 7 (λ after low'. LeadsOn behind after low') state h t is _ (same_le _) few
does rule.MapShiftTail (later first) behind state low h = ends 7 (λ after low'. LeadsOn behind after low') state low h
does rule.MapAddTail first behind state low h = λ t is le few. again 8 (λ after low'. LeadsOn behind after low') state h t is _ (same_le _) few
does rule.MapAddTail (later first) behind state low h = ends 8 (λ after low'. LeadsOn behind after low') state low h
does rule.MapMulTail first behind state low h = λ t is le few. again 9 (λ after low'. LeadsOn behind after low') state h t is _ (same_le _) few
does rule.MapMulTail (later first) behind state low h = ends 9 (λ after low'. LeadsOn behind after low') state low h
does rule.OrOrOp first behind state low h = λ t is ok le few. h t (operator_at kind.OrOr 0 t refl refl is) le few
does rule.AndAndOp first behind state low h = λ t is ok le few. h t (operator_at kind.AndAnd 1 t refl refl is) le few
does rule.BitOrOp first behind state low h = λ t is ok le few. h t (operator_at kind.Or 2 t refl refl is) le few
does rule.BitXorOp first behind state low h = λ t is ok le few. h t (operator_at kind.Xor 3 t refl refl is) le few
does rule.BitAndOp first behind state low h = λ t is ok le few. h t (operator_at kind.And 4 t refl refl is) le few
does rule.EqualOp first behind state low h = λ t is ok le few. h t (operator_at kind.EqualEqual 5 t refl refl is) le few
does rule.EqualOp (later first) behind state low h = λ t is ok le few. h t (operator_at kind.NotEqual 5 t refl refl is) le few
does rule.OrderOp first behind state low h = λ t is ok le few. h t (operator_at kind.Less 6 t refl refl is) le few
does rule.OrderOp (later first) behind state low h = λ t is ok le few. h t (operator_at kind.LessEqual 6 t refl refl is) le few
does rule.OrderOp (later (later first)) behind state low h = λ t is ok le few. h t (operator_at kind.Greater 6 t refl refl is) le few
does rule.OrderOp (later (later (later first))) behind state low h = λ t is ok le few. h t (operator_at kind.GreaterEqual 6 t refl refl is) le few
does rule.ShiftOp first behind state low h = λ t is ok le few. h t (operator_at kind.ShiftLeft 7 t refl refl is) le few
does rule.ShiftOp (later first) behind state low h = λ t is ok le few. h t (operator_at kind.ShiftRight 7 t refl refl is) le few
does rule.AddOp first behind state low h = λ t is ok le few. h t (operator_at kind.Plus 8 t refl refl is) le few
does rule.AddOp (later first) behind state low h = λ t is ok le few. h t (operator_at kind.Minus 8 t refl refl is) le few
does rule.MulOp first behind state low h = λ t is ok le few. h t (operator_at kind.Star 9 t refl refl is) le few
does rule.MulOp (later first) behind state low h = λ t is ok le few. h t (operator_at kind.Slash 9 t refl refl is) le few
does rule.MulOp (later (later first)) behind state low h = λ t is ok le few. h t (operator_at kind.Percent 9 t refl refl is) le few
does rule.UnOp first behind state low h = λ t is ok le few. h t tt le few
does rule.UnOp (later first) behind state low h = λ t is ok le few. h t tt le few
does rule.UnOp (later (later first)) behind state low h = λ t is ok le few. h t tt le few
does rule.AnyName first behind state low h = λ t new le few. h t tt le few
does rule.AnyName (later first) behind state low h = λ t is ok le few. h t tt le few
does rule.NewName first behind state low h = λ t is ok le few. h t (new_word kind.Name t refl is) le few
does rule.NewName (later first) behind state low h = λ t is ok le few. h t (new_word kind.FunctionWord t refl is) le few
does rule.NewName (later (later first)) behind state low h = λ t is ok le few. h t (new_word kind.GlobalWord t refl is) le few
does rule.NewName (later (later (later first))) behind state low h = λ t is ok le few. h t (new_word kind.MutexWord t refl is) le few
does rule.NewName (later (later (later (later first)))) behind state low h = λ t is ok le few. h t (new_word kind.FieldWord t refl is) le few
does rule.NewName (later (later (later (later (later first))))) behind state low h = λ t is ok le few. h t (new_word kind.InitWord t refl is) le few
does rule.NewName (later (later (later (later (later (later first)))))) behind state low h = λ t is ok le few. h t (new_word kind.PointWord t refl is) le few
does rule.NewName (later (later (later (later (later (later (later first))))))) behind state low h = λ t is ok le few. h t (new_word kind.CheckWord t refl is) le few
does rule.NewName (later (later (later (later (later (later (later (later first)))))))) behind state low h = λ t is ok le few. h t (new_word kind.EntryWord t refl is) le few
does rule.NewName (later (later (later (later (later (later (later (later (later first))))))))) behind state low h = λ t is ok le few. h t (new_word kind.LoopWord t refl is) le few
does rule.NewName (later (later (later (later (later (later (later (later (later (later first)))))))))) behind state low h = λ t is ok le few. h t (new_word kind.CallWord t refl is) le few
does rule.NewName (later (later (later (later (later (later (later (later (later (later (later first))))))))))) behind state low h = λ t is ok le few. h t (new_word kind.BlockWord t refl is) le few
does rule.Side first behind state low h = λ t is ok le few. h t tt le few
does rule.Side (later first) behind state low h = λ t is ok le few. h t tt le few
does rule.Side (later (later first)) behind state low h = λ t is ok le few. h t tt le few
does rule.Side (later (later (later first))) behind state low h = λ t is ok le few. h t tt le few
does rule.PtWord first behind state low h = λ t is ok le few. h t tt le few
does rule.PtWord (later first) behind state low h = λ t is ok le few. h t tt le few
does rule.PtWord (later (later first)) behind state low h = λ t is ok le few. h t tt le few
does rule.Constant first behind state low h = λ t is ok le few. h.2 _ _ (number_made t state ok (omega (arith, h.0, le)) h.1)
does rule.Constant (later first) behind state low h = λ t is ok le few. h.2 _ _ (number_made t state ok (omega (arith, h.0, le)) h.1)
does rule.Constant (later (later first)) behind state low h = λ t is ok le few. h.2 _ _ (null_made t state (omega (arith, h.0, le)) h.1)
does rule.Constant (later (later (later first))) behind state low h = λ t is ok le few. h.2 _ _ (eof_made t state (omega (arith, h.0, le)) h.1)
does rule.MapUnary first behind state low h = λ t any le few. (same_le _, few, λ after low' m. h.2 _ low' (un_made t state after m))
does rule.MapUnary (later first) behind state low h = whole state low (λ after low'. LeadsOn behind after low') h
does rule.MapUnary (later (later first)) behind state low h =
    λ t is ok le few. (
      same_le _,
      few,
      λ after low' m. λ t' is' ok' le' few'.
          (state.operators, state.values, state.depth, group_made t t' state after m, λ last low'' m'. h.2 last low'' (lower 10 (omega arith) m')),
    )
does rule.MapUnary (later (later (later first))) behind state low h =
    λ t any le few. (
      t,
      state.values,
      refl,
      omega (arith, h.0, le),
      few,
      λ after low' m.
          (state.operators, state.values, state.depth, rebase 11 state.operators state.depth (omega arith) (omega arith) (omega arith) m, λ last low'' m'. h.2 last low'' (lower 10 (omega arith) m')),
    )
does rule.MapUnary (later (later (later (later first)))) behind state low h =
    λ t is ok le few. λ t' is' ok' le' few'.
    (state.operators, state.values, state.depth, temporary_made t t' state (omega (arith, h.0, le)) h.1, λ last low'' m'. h.2 last low'' (lower 10 (omega arith) m'))
does rule.MapName first behind state low (name, vs, e, deep, few, next) =
    λ t is ok le few'. (same_le _, few', λ after low' m. λ t' is' ok' le' few''. next _ _ (index_made name t t' state after vs e m))
does rule.MapName (later first) behind state low (name, vs, e, deep, few, next) = λ t is ok le few'. λ t' is' ok' le' few''. next _ _ (hidden_made name t t' state vs e deep few)
does rule.MapName (later (later first)) behind state low (name, vs, e, deep, few, next) = next _ _ (name_made name state vs e deep few)
does rule.MapArrows first behind state low (base, vs, depth, made, next) =
    λ a is ok le few. λ t any le' few'. (base, vs, depth, field_made a t state made few', next)
does rule.MapArrows (later first) behind state low h = ends 11 (λ after low'. LeadsOn behind after low') state low h
does rule.Entries first behind state low (vs, doc, next) = (vs, doc, λ after low' d. λ t is ok le few. (vs, doc_past t after d, next))
does rule.Entries (later first) behind state low (vs, doc, next) = next state low doc
does rule.Entry first behind state low h = h
does rule.Entry (later first) behind state low (vs, doc, next) =
    λ p is ok le few. λ f any le' few'. λ after low' from at_from kept_from flat_from. λ a is' ok' le'' few''. (
      omega (arith, doc.flat, flat_from),
      λ last low'' x.
          next _ _ (point_done p f from doc.mapping vs last doc.kept kept_from
          (subst (λ w. Parted w last) (at_from ∙ ap (λ w. value.Pt from ∷ value.Word f ∷ value.Word p ∷ w) doc.values) x)),
    )
does rule.OtherEntry first behind state low (vs, doc, next) =
    λ s any le few. λ o any' le' few'. λ a is ok le'' few''. (o, s, doc.mapping, vs, ap (λ w. value.Word o ∷ value.Word s ∷ w) doc.values, doc.kept, omega (arith, doc.flat), next)
does rule.OtherEntry (later first) behind state low (vs, doc, next) =
    λ f is ok le few. λ a any le' few'. λ d is' ok' le'' few''. λ b any' le3 few3. λ q is4 ok4 le4 few4. (
      same_le _,
      omega arith,
      λ after low' m.
          next _ _ (field_done f a b _ after doc m (omega (arith, doc.flat))),
    )
does rule.OtherEntry (later (later first)) behind state low (vs, doc, next) =
    λ f is ok le few. λ a any le' few'. λ q is4 ok4 le4 few4.
    (same_le _, omega arith, λ after low' m. next _ _ (init_done f a _ after doc m (omega (arith, doc.flat))))
does rule.OtherEntry (later (later (later first))) behind state low (vs, doc, next) =
    λ f is ok le few. (same_le _, omega arith, λ after low' m. next _ _ (check_done f _ after doc m (omega (arith, doc.flat))))
does rule.Parts first behind state low (flat, next) =
    λ after low' pt at kept flat_pt. (
      omega (arith, flat, flat_pt),
      λ last low'' x. (state.values, first_begun pt state.values last kept at x, next),
    )
does rule.SecondPart first behind state low (vs, b, next) =
    λ t is ok le few. (omega (arith, b.flat), λ after low' p at form kept flat. (p, (vs, more_begun p [] vs _ after (begun_past t state b) at form kept flat, next)))
does rule.SecondPart (later first) behind state low (vs, b, next) = next _ _ (one_parted vs state b)
does rule.ThirdPart first behind state low (p, (vs, b, next)) =
    λ t is ok le few. (omega (arith, b.flat), λ after low' q at form kept flat. (p, q, (vs, more_begun q (p ∷ []) vs _ after (begun_past t state b) at form kept flat, next)))
does rule.ThirdPart (later first) behind state low (p, (vs, b, next)) = next _ _ (two_parted p vs state b)
does rule.FourthPart first behind state low (p, q, (vs, b, next)) =
    λ t is ok le few. (
      omega (arith, b.flat),
      λ after low' r at form kept flat. next _ _ (four_parted p q r vs after (more_begun r (q ∷ p ∷ []) vs _ after (begun_past t state b) at form kept flat)),
    )
does rule.FourthPart (later first) behind state low (p, q, (vs, b, next)) = next _ _ (three_parted p q vs state b)
does rule.AddedPart first behind state low (flat, next) =
    λ f any le few. λ after low' pt at kept flat_pt. (
      omega (arith, flat, flat_pt),
      λ last low'' x. next _ _ _ (added_is f pt state.values last at x) (refl, read_point pt kept) (kept, x.kept) (omega (arith, x.flat)),
    )
does rule.Target first behind state low (o, s, m, vs, e, kept, flat, next) = λ t new le few. next _ _ (match_done t o s m vs state e kept flat new)
does rule.Target (later first) behind state low (o, s, m, vs, e, kept, flat, next) = λ t is ok le few. next _ _ (unmatched_done t o s m vs state e kept flat)
does rule.Pt first behind state low next = λ t is ok le few. next _ _ _ refl refl (omega arith)
does rule.Pt (later first) behind state low next = λ w any le few. λ n is ok le' few'. next _ _ _ refl (number_point w n ok) (omega arith)
does rule.Fills first behind state low (flat, next) =
    λ t is ok le few. (state.values, no_fills (with_token mark.Skip (value.Word t) state) (omega (arith, flat)), λ after low' x. λ t' is' ok' le' few'. next _ _ (fills_past t' after x))
does rule.Fills (later first) behind state low (flat, next) = next _ _ (no_fills state flat)
does rule.FillList first behind state low (vs, x, next) =
    λ after low' t at same. λ q is ok le few. (
      same_le _,
      omega arith,
      λ last low'' m. λ s is' ok' le' few'.
          (vs, fill_done t s _ last x _ at m (omega (arith, same, x.flat)), next),
    )
does rule.FillList (later first) behind state low (vs, x, next) = next state low x
does rule.FillName first behind state low next = λ t any le few. (t, state.values, refl, λ after low' t' at same. next after low' t' at (omega (arith, same)))
does rule.FillName (later first) behind state low next = λ t is ok le few. λ n is' ok' le' few'. next _ _ _ refl (omega arith)
does rule.FillNumber first behind state low (old, vs, e, next) = λ t is ok le few. λ n is' ok' le' few'. next _ _ _ (ap (λ w. value_effect action.HiddenName (value.Word n ∷ w)) e) (omega arith)
does rule.FillNumber (later first) behind state low (old, vs, e, next) = next _ _ old e refl
does rule.MapExpr (later m) behind state low h = absurd (nothing m)
does rule.MapAndAnd (later m) behind state low h = absurd (nothing m)
does rule.MapBitOr (later m) behind state low h = absurd (nothing m)
does rule.MapBitXor (later m) behind state low h = absurd (nothing m)
does rule.MapBitAnd (later m) behind state low h = absurd (nothing m)
does rule.MapEqual (later m) behind state low h = absurd (nothing m)
does rule.MapOrder (later m) behind state low h = absurd (nothing m)
does rule.MapShift (later m) behind state low h = absurd (nothing m)
does rule.MapAdd (later m) behind state low h = absurd (nothing m)
does rule.MapMul (later m) behind state low h = absurd (nothing m)
does rule.MapExprTail (later (later m)) behind state low h = absurd (nothing m)
does rule.MapAndAndTail (later (later m)) behind state low h = absurd (nothing m)
does rule.MapBitOrTail (later (later m)) behind state low h = absurd (nothing m)
does rule.MapBitXorTail (later (later m)) behind state low h = absurd (nothing m)
does rule.MapBitAndTail (later (later m)) behind state low h = absurd (nothing m)
does rule.MapEqualTail (later (later m)) behind state low h = absurd (nothing m)
does rule.MapOrderTail (later (later m)) behind state low h = absurd (nothing m)
does rule.MapShiftTail (later (later m)) behind state low h = absurd (nothing m)
does rule.MapAddTail (later (later m)) behind state low h = absurd (nothing m)
does rule.MapMulTail (later (later m)) behind state low h = absurd (nothing m)
does rule.OrOrOp (later m) behind state low h = absurd (nothing m)
does rule.AndAndOp (later m) behind state low h = absurd (nothing m)
does rule.BitOrOp (later m) behind state low h = absurd (nothing m)
does rule.BitXorOp (later m) behind state low h = absurd (nothing m)
does rule.BitAndOp (later m) behind state low h = absurd (nothing m)
does rule.EqualOp (later (later m)) behind state low h = absurd (nothing m)
does rule.OrderOp (later (later (later (later m)))) behind state low h = absurd (nothing m)
does rule.ShiftOp (later (later m)) behind state low h = absurd (nothing m)
does rule.AddOp (later (later m)) behind state low h = absurd (nothing m)
does rule.MulOp (later (later (later m))) behind state low h = absurd (nothing m)
does rule.UnOp (later (later (later m))) behind state low h = absurd (nothing m)
does rule.AnyName (later (later m)) behind state low h = absurd (nothing m)
does rule.NewName (later (later (later (later (later (later (later (later (later (later (later (later m)))))))))))) behind state low h = absurd (nothing m)
does rule.Side (later (later (later (later m)))) behind state low h = absurd (nothing m)
does rule.PtWord (later (later (later m))) behind state low h = absurd (nothing m)
does rule.Constant (later (later (later (later m)))) behind state low h = absurd (nothing m)
does rule.MapUnary (later (later (later (later (later m))))) behind state low h = absurd (nothing m)
does rule.MapName (later (later (later m))) behind state low h = absurd (nothing m)
does rule.MapArrows (later (later m)) behind state low h = absurd (nothing m)
does rule.Entries (later (later m)) behind state low h = absurd (nothing m)
does rule.Entry (later (later m)) behind state low h = absurd (nothing m)
does rule.OtherEntry (later (later (later (later m)))) behind state low h = absurd (nothing m)
does rule.Parts (later m) behind state low h = absurd (nothing m)
does rule.SecondPart (later (later m)) behind state low h = absurd (nothing m)
does rule.ThirdPart (later (later m)) behind state low h = absurd (nothing m)
does rule.FourthPart (later (later m)) behind state low h = absurd (nothing m)
does rule.AddedPart (later m) behind state low h = absurd (nothing m)
does rule.Target (later (later m)) behind state low h = absurd (nothing m)
does rule.Pt (later (later m)) behind state low h = absurd (nothing m)
does rule.Fills (later (later m)) behind state low h = absurd (nothing m)
does rule.FillList (later (later m)) behind state low h = absurd (nothing m)
does rule.FillName (later (later m)) behind state low h = absurd (nothing m)
does rule.FillNumber (later (later m)) behind state low h = absurd (nothing m)
does r m behind state low h = absurd h
