-- The grammar as it is defined and the grammar that the reader goes by let the same tokens go on.
use Rattle.std.proofs.Common.{true, false, ◌≡◌, List, [], ◌∷◌, ◌++◌, ◌⊎◌, inl, inr, refl, sym, ◌∙◌, ap, subst, append_assoc}
use Rattle.c_grammar.specs.declared.kind.Kind.TheVariants as kind
use Rattle.c_grammar.specs.declared.rule.Rule.{Rule}
use Rattle.c_grammar.specs.declared.rule.Rule.TheVariants as rule
use Rattle.c_grammar.specs.declared.action.Action.TheVariants as action
use Rattle.c_grammar.specs.declared.symbol.Mark.TheVariants.{Skip, Keep, Open, OpenKeep, Count}
use Rattle.c_grammar.specs.declared.symbol.Symbol.{Symbol}
use Rattle.c_grammar.specs.declared.symbol.Symbol.TheVariants.{Take, Act, Expand}
use Rattle.c_grammar.specs.Effects.{State, with_token}
use Rattle.c_grammar.specs.Pieces.{Piece}
use Rattle.c_grammar.specs.Rules.{alternatives}
use Rattle.c_grammar.specs.Reading.{Among, first, later, Aim, Goes, stop, end, take_token, pass, act, expand}
use Rattle.c_reader.specs.Choices.{choices}

-- One grammar's derivations are another's, where each alternative of the one can be replaced in the other.
carried : {g h : Rule → List (List Symbol)}
    → ((r : Rule) (front behind : List Symbol) (aim : Aim) (state : State) (ps : List Piece) → Among front (g r) → Goes h aim (front ++ behind) state ps → Goes h aim (Expand r ∷ behind) state ps)
    → {aim : Aim} {symbols : List Symbol} {state : State} {ps : List Piece} → Goes g aim symbols state ps → Goes h aim symbols state ps
carried step (stop ok) = (stop ok)
carried step (end e) = end e
carried step (take_token e g) = take_token e (carried step g)
carried step (pass n g) = pass n (carried step g)
carried step (act g) = act (carried step g)
carried step (expand {aim = aim} {r = r} {alternative = front} {symbols = behind} {state = state} {ps = ps} m g) = step r front behind aim state ps m (carried step g)

head_is : {x y : Symbol} {xs ys : List Symbol} → x ∷ xs ≡ y ∷ ys → x ≡ y
head_is e = cc

tail_is : {x y : Symbol} {xs ys : List Symbol} → x ∷ xs ≡ y ∷ ys → xs ≡ ys
tail_is e = cc

-- What can be replaced by one of two lists of symbols can be replaced so behind others.
module _ {h : Rule → List (List Symbol)} {old one other : List Symbol}
    (f : (aim : Aim) (state : State) (ps : List Piece) → Goes h aim old state ps → Goes h aim one state ps ⊎ Goes h aim other state ps) where
  behind_either : (front : List Symbol) {aim : Aim} {symbols : List Symbol} {state : State} {ps : List Piece}
      → Goes h aim symbols state ps → symbols ≡ front ++ old → Goes h aim (front ++ one) state ps ⊎ Goes h aim (front ++ other) state ps
  behind_either [] {aim} {symbols} {state} {ps} g e = f aim state ps (subst (λ s. Goes h aim s state ps) e g)
  behind_either (s ∷ front) (stop ok) e = inl (stop ok)
  behind_either (s ∷ front) (end d) e = cc
  behind_either (s ∷ front) (take_token {state = state} {p = p} {ps = ps} k g) e =
      rw (← head_is e) (elim (behind_either front g (tail_is e)) [ inl d ↦ inl (take_token k d) | inr d ↦ inr (take_token k d) ])
  behind_either (s ∷ front) (pass n g) e =
      rw (← head_is e) (elim (behind_either front g (tail_is e)) [ inl d ↦ inl (pass n d) | inr d ↦ inr (pass n d) ])
  behind_either (s ∷ front) (act g) e =
      rw (← head_is e) (elim (behind_either front g (tail_is e)) [ inl d ↦ inl (act d) | inr d ↦ inr (act d) ])
  behind_either (s ∷ front) (expand {aim = aim} {alternative = alternative} {state = state} {ps = ps} m g) e =
      rw (← head_is e) (elim (behind_either (alternative ++ front) g (ap (λ x. alternative ++ x) (tail_is e) ∙ sym (append_assoc alternative front old))) [
        | inl d ↦ inl (expand m (subst (λ x. Goes h aim x state ps) (append_assoc alternative front one) d))
        | inr d ↦ inr (expand m (subst (λ x. Goes h aim x state ps) (append_assoc alternative front other) d))
      ])

module _ {h : Rule → List (List Symbol)} {old new : List Symbol}
    (f : (aim : Aim) (state : State) (ps : List Piece) → Goes h aim old state ps → Goes h aim new state ps) where
  behind : (front : List Symbol) {aim : Aim} {state : State} {ps : List Piece} → Goes h aim (front ++ old) state ps → Goes h aim (front ++ new) state ps
  behind front {aim} {state} {ps} g = elim (behind_either {h = h} {old = old} {one = new} {other = new} (λ aim state ps d. inl (f aim state ps d)) front g refl) [ inl d ↦ d | inr d ↦ d ]

-- From the defined grammar to the reader's.

arrows_place : {K : List Symbol} (aim : Aim) (state : State) (ps : List Piece) → Goes choices aim (Expand rule.Arrows ∷ Expand rule.AssignTail ∷ K) state ps → Goes choices aim (Expand rule.AfterPlace ∷ K) state ps
arrows_place {K} aim state ps (stop ok) = (stop ok)
arrows_place {K} aim state ps (expand first (stop ok)) = (stop ok)
arrows_place {K} aim state ps (expand first ((take_token e (stop ok)))) = expand (later first) (expand first ((take_token e (stop ok))))
arrows_place {K} aim state ps (expand first ((take_token e (take_token n (stop ok))))) = expand (later first) (expand first ((take_token e (take_token n (stop ok)))))
arrows_place {K} aim state ps (expand first ((take_token e (take_token n (act {aim = aim'} {ps = ps'} g))))) = expand (later first) (expand first ((take_token e (take_token n (act (arrows_place aim' _ ps' g))))))
arrows_place {K} aim state ps (expand (later first) g) = expand first g
arrows_place {K} aim state ps (expand (later (later m)) g) = elim m [ ]

lvtail_field : {K : List Symbol} (aim : Aim) (state : State) (ps : List Piece) → Goes choices aim (Expand rule.LvTail ∷ Expand rule.AssignTail ∷ K) state ps → Goes choices aim (Expand rule.FieldTail ∷ K) state ps
lvtail_field {K} aim state ps (stop ok) = (stop ok)
lvtail_field {K} aim state ps (expand first g) = expand first (behind {h = choices} {old = Expand rule.Arrows ∷ Expand rule.AssignTail ∷ K} {new = Expand rule.AfterPlace ∷ K} arrows_place (Take kind.Arrow Count ∷ Take kind.Name Keep ∷ Act action.Field ∷ []) g)
lvtail_field {K} aim state ps (expand (later m) g) = elim m [ ]

lv_simple : {K : List Symbol} (aim : Aim) (state : State) (ps : List Piece) → Goes choices aim (Expand rule.Lvalue ∷ Expand rule.AssignTail ∷ K) state ps → Goes choices aim (Expand rule.Simple ∷ K) state ps
lv_simple {K} aim state ps (stop ok) = (stop ok)
lv_simple {K} aim state ps (expand first (stop ok)) = (stop ok)
lv_simple {K} aim state ps (expand first ((take_token e (stop ok)))) = expand first ((take_token e (stop ok)))
lv_simple {K} aim state ps (expand first ((take_token e (expand first g)))) = expand first (take_token e (expand (later (later first)) (behind {h = choices} {old = Expand rule.Arrows ∷ Expand rule.AssignTail ∷ K} {new = Expand rule.AfterPlace ∷ K} arrows_place (Take kind.LeftBracket Open ∷ Expand rule.Expr ∷ Take kind.RightBracket Skip ∷ Act action.Leave ∷ Act action.Index ∷ []) g)))
lv_simple {K} aim state ps (expand first ((take_token e (expand (later first) g)))) = expand first (take_token e (expand (later (later (later first))) (behind {h = choices} {old = Expand rule.LvTail ∷ Expand rule.AssignTail ∷ K} {new = Expand rule.AfterCall ∷ K} (λ a v t d. expand first (lvtail_field a v t d)) (Take kind.LeftParen Open ∷ Expand rule.Args ∷ Take kind.RightParen Skip ∷ Act action.Leave ∷ Act action.Call ∷ []) g)))
lv_simple {K} aim state ps (expand first ((take_token e (expand (later (later first)) g)))) = expand first (take_token e (expand (later first) (behind {h = choices} {old = Expand rule.LvTail ∷ Expand rule.AssignTail ∷ K} {new = Expand rule.FieldTail ∷ K} lvtail_field (Act action.NameExpr ∷ []) g)))
lv_simple {K} aim state ps (expand first ((take_token e (expand (later (later (later first))) g)))) = expand first (take_token e (expand first g))
lv_simple {K} aim state ps (expand first (take_token e (expand (later (later (later (later m)))) g))) = elim m [ ]
lv_simple {K} aim state ps (expand (later first) g) = expand (later first) (behind {h = choices} {old = Expand rule.LvTail ∷ Expand rule.AssignTail ∷ K} {new = Expand rule.FieldTail ∷ K} lvtail_field (Expand rule.Constant ∷ []) g)
lv_simple {K} aim state ps (expand (later (later first)) g) = expand (later (later first)) (behind {h = choices} {old = Expand rule.LvTail ∷ Expand rule.AssignTail ∷ K} {new = Expand rule.AfterCall ∷ K} (λ a v t d. expand first (lvtail_field a v t d)) (Expand rule.WordCall ∷ []) g)
lv_simple {K} aim state ps (expand (later (later (later first))) g) = expand (later (later (later first))) (behind {h = choices} {old = Expand rule.LvTail ∷ Expand rule.AssignTail ∷ K} {new = Expand rule.FieldTail ∷ K} lvtail_field (Take kind.LeftParen OpenKeep ∷ Expand rule.Expr ∷ Take kind.RightParen Skip ∷ Act action.Leave ∷ Act action.Group ∷ []) g)
lv_simple {K} aim state ps (expand (later (later (later (later m)))) g) = elim m [ ]

to_simple : {K front : List Symbol} (aim : Aim) (state : State) (ps : List Piece) → Among front (alternatives rule.Simple) → Goes choices aim (front ++ K) state ps → Goes choices aim (Expand rule.Simple ∷ K) state ps
to_simple {K} aim state ps first g = lv_simple aim state ps (behind {h = choices} {old = Expand rule.Asgop ∷ Act action.Outer ∷ Expand rule.Expr ∷ Act action.Assign ∷ K} {new = Expand rule.AssignTail ∷ K} (λ a v t d. expand first d) (Expand rule.Lvalue ∷ []) g)
to_simple {K} aim state ps (later first) g = lv_simple aim state ps (behind {h = choices} {old = Expand rule.Incdec ∷ Act action.Post ∷ K} {new = Expand rule.AssignTail ∷ K} (λ a v t d. expand (later first) d) (Expand rule.Lvalue ∷ []) g)
to_simple {K} aim state ps (later (later first)) (stop ok) = (stop ok)
to_simple {K} aim state ps (later (later first)) (expand first (stop ok)) = (stop ok)
to_simple {K} aim state ps (later (later first)) (expand first ((take_token e g))) = expand first (take_token e (expand (later (later (later first))) (behind {h = choices} {old = Act action.Run ∷ K} {new = Expand rule.AfterCall ∷ K} (λ a v t d. expand (later first) d) (Take kind.LeftParen Open ∷ Expand rule.Args ∷ Take kind.RightParen Skip ∷ Act action.Leave ∷ Act action.Call ∷ []) g)))
to_simple {K} aim state ps (later (later first)) (expand (later first) g) = expand (later (later first)) (behind {h = choices} {old = Act action.Run ∷ K} {new = Expand rule.AfterCall ∷ K} (λ a v t d. expand (later first) d) (Expand rule.WordCall ∷ []) g)
to_simple {K} aim state ps (later (later first)) (expand (later (later m)) g) = elim m [ ]
to_simple {K} aim state ps (later (later (later first))) g = expand (later (later (later (later first)))) g
to_simple {K} aim state ps (later (later (later (later first)))) g = expand (later (later (later (later (later first))))) g
to_simple {K} aim state ps (later (later (later (later (later first))))) g = expand (later (later (later (later (later (later first)))))) g
to_simple {K} aim state ps (later (later (later (later (later (later m)))))) g = elim m [ ]

lvtail_arrows : {K : List Symbol} (aim : Aim) (state : State) (ps : List Piece) → Goes choices aim (Expand rule.LvTail ∷ K) state ps → Goes choices aim (Expand rule.Arrows ∷ K) state ps
lvtail_arrows {K} aim state ps (stop ok) = (stop ok)
lvtail_arrows {K} aim state ps (expand first g) = expand first g
lvtail_arrows {K} aim state ps (expand (later m) g) = elim m [ ]

arrows_lvtail : {K : List Symbol} (aim : Aim) (state : State) (ps : List Piece) → Goes choices aim (Expand rule.Arrows ∷ Take kind.Arrow Count ∷ Take kind.Name Keep ∷ Act action.Field ∷ K) state ps → Goes choices aim (Expand rule.LvTail ∷ K) state ps
arrows_lvtail {K} aim state ps (stop ok) = (stop ok)
arrows_lvtail {K} aim state ps (expand first (stop ok)) = (stop ok)
arrows_lvtail {K} aim state ps (expand first ((take_token e (stop ok)))) = expand first ((take_token e (stop ok)))
arrows_lvtail {K} aim state ps (expand first ((take_token e (take_token n (stop ok))))) = expand first ((take_token e (take_token n (stop ok))))
arrows_lvtail {K} aim state ps (expand first ((take_token e (take_token n (act {aim = aim'} {ps = ps'} g))))) = expand first ((take_token e (take_token n (act (lvtail_arrows aim' _ ps' (arrows_lvtail aim' _ ps' g))))))
arrows_lvtail {K} aim state ps (expand (later first) g) = expand first (behind {h = choices} {old = K} {new = Expand rule.Arrows ∷ K} (λ a v t d. expand (later first) d) (Take kind.Arrow Count ∷ Take kind.Name Keep ∷ Act action.Field ∷ []) g)
arrows_lvtail {K} aim state ps (expand (later (later m)) g) = elim m [ ]

postfix_lvalue : {K : List Symbol} (aim : Aim) (state : State) (ps : List Piece) → Goes choices aim (Expand rule.Postfix ∷ Take kind.Arrow Count ∷ Take kind.Name Keep ∷ Act action.Field ∷ K) state ps → Goes choices aim (Expand rule.Lvalue ∷ K) state ps
postfix_lvalue {K} aim state ps (stop ok) = (stop ok)
postfix_lvalue {K} aim state ps (expand first (stop ok)) = (stop ok)
postfix_lvalue {K} aim state ps (expand first (expand first g)) = expand (later first) (behind {h = choices} {old = Expand rule.Arrows ∷ Take kind.Arrow Count ∷ Take kind.Name Keep ∷ Act action.Field ∷ K} {new = Expand rule.LvTail ∷ K} arrows_lvtail (Expand rule.Constant ∷ []) g)
postfix_lvalue {K} aim state ps (expand first (expand (later first) (stop ok))) = (stop ok)
postfix_lvalue {K} aim state ps (expand first (expand (later first) ((take_token e g)))) = expand first (take_token e (expand (later (later first)) (behind {h = choices} {old = Expand rule.Arrows ∷ Take kind.Arrow Count ∷ Take kind.Name Keep ∷ Act action.Field ∷ K} {new = Expand rule.LvTail ∷ K} arrows_lvtail (Act action.NameExpr ∷ []) g)))
postfix_lvalue {K} aim state ps (expand first (expand (later (later first)) (stop ok))) = (stop ok)
postfix_lvalue {K} aim state ps (expand first (expand (later (later first)) ((take_token e g)))) = expand first (take_token e (expand first (behind {h = choices} {old = Expand rule.Arrows ∷ Take kind.Arrow Count ∷ Take kind.Name Keep ∷ Act action.Field ∷ K} {new = Expand rule.Arrows ∷ K} (λ a v t d. lvtail_arrows a v t (arrows_lvtail a v t d)) (Take kind.LeftBracket Open ∷ Expand rule.Expr ∷ Take kind.RightBracket Skip ∷ Act action.Leave ∷ Act action.Index ∷ []) g)))
postfix_lvalue {K} aim state ps (expand first (expand (later (later (later first))) (stop ok))) = (stop ok)
postfix_lvalue {K} aim state ps (expand first (expand (later (later (later first))) (expand first (stop ok)))) = (stop ok)
postfix_lvalue {K} aim state ps (expand first (expand (later (later (later first))) (expand first ((take_token e g))))) = expand first (take_token e (expand (later first) (behind {h = choices} {old = Expand rule.Arrows ∷ Take kind.Arrow Count ∷ Take kind.Name Keep ∷ Act action.Field ∷ K} {new = Expand rule.LvTail ∷ K} arrows_lvtail (Take kind.LeftParen Open ∷ Expand rule.Args ∷ Take kind.RightParen Skip ∷ Act action.Leave ∷ Act action.Call ∷ []) g)))
postfix_lvalue {K} aim state ps (expand first (expand (later (later (later first))) (expand (later first) g))) = expand (later (later first)) (behind {h = choices} {old = Expand rule.Arrows ∷ Take kind.Arrow Count ∷ Take kind.Name Keep ∷ Act action.Field ∷ K} {new = Expand rule.LvTail ∷ K} arrows_lvtail (Expand rule.WordCall ∷ []) g)
postfix_lvalue {K} aim state ps (expand first (expand (later (later (later first))) (expand (later (later m)) g))) = elim m [ ]
postfix_lvalue {K} aim state ps (expand first (expand (later (later (later (later first)))) g)) = expand (later (later (later first))) (behind {h = choices} {old = Expand rule.Arrows ∷ Take kind.Arrow Count ∷ Take kind.Name Keep ∷ Act action.Field ∷ K} {new = Expand rule.LvTail ∷ K} arrows_lvtail (Take kind.LeftParen OpenKeep ∷ Expand rule.Expr ∷ Take kind.RightParen Skip ∷ Act action.Leave ∷ Act action.Group ∷ []) g)
postfix_lvalue {K} aim state ps (expand first (expand (later (later (later (later (later m))))) g)) = elim m [ ]
postfix_lvalue {K} aim state ps (expand (later m) g) = elim m [ ]

to_lvalue : {K front : List Symbol} (aim : Aim) (state : State) (ps : List Piece) → Among front (alternatives rule.Lvalue) → Goes choices aim (front ++ K) state ps → Goes choices aim (Expand rule.Lvalue ∷ K) state ps
to_lvalue {K} aim state ps first (stop ok) = (stop ok)
to_lvalue {K} aim state ps first (take_token e g) = expand first (take_token e (expand (later (later (later first))) g))
to_lvalue {K} aim state ps (later first) (stop ok) = (stop ok)
to_lvalue {K} aim state ps (later first) (take_token e g) = expand first (take_token e (expand first (behind {h = choices} {old = K} {new = Expand rule.Arrows ∷ K} (λ a v t d. expand (later first) d) (Take kind.LeftBracket Open ∷ Expand rule.Expr ∷ Take kind.RightBracket Skip ∷ Act action.Leave ∷ Act action.Index ∷ []) g)))
to_lvalue {K} aim state ps (later (later first)) g = postfix_lvalue aim state ps g
to_lvalue {K} aim state ps (later (later (later m))) g = elim m [ ]

postfix_unary : {K : List Symbol} (aim : Aim) (state : State) (ps : List Piece) → Goes choices aim (Expand rule.Postfix ∷ K) state ps → Goes choices aim (Expand rule.Unary ∷ K) state ps
postfix_unary {K} aim state ps (stop ok) = (stop ok)
postfix_unary {K} aim state ps (expand first (stop ok)) = (stop ok)
postfix_unary {K} aim state ps (expand first (expand first g)) = expand (later (later first)) g
postfix_unary {K} aim state ps (expand first (expand (later first) (stop ok))) = (stop ok)
postfix_unary {K} aim state ps (expand first (expand (later first) ((take_token e g)))) = expand (later (later (later (later first)))) (take_token e (expand (later (later first)) g))
postfix_unary {K} aim state ps (expand first (expand (later (later first)) (stop ok))) = (stop ok)
postfix_unary {K} aim state ps (expand first (expand (later (later first)) ((take_token e g)))) = expand (later (later (later (later first)))) (take_token e (expand first g))
postfix_unary {K} aim state ps (expand first (expand (later (later (later first))) (stop ok))) = (stop ok)
postfix_unary {K} aim state ps (expand first (expand (later (later (later first))) (expand first (stop ok)))) = (stop ok)
postfix_unary {K} aim state ps (expand first (expand (later (later (later first))) (expand first ((take_token e g))))) = expand (later (later (later (later first)))) (take_token e (expand (later first) g))
postfix_unary {K} aim state ps (expand first (expand (later (later (later first))) (expand (later first) g))) = expand (later (later (later first))) g
postfix_unary {K} aim state ps (expand first (expand (later (later (later first))) (expand (later (later m)) g))) = elim m [ ]
postfix_unary {K} aim state ps (expand first (expand (later (later (later (later first)))) (stop ok))) = (stop ok)
postfix_unary {K} aim state ps (expand first (expand (later (later (later (later first)))) ((take_token e g)))) = expand (later first) (take_token e (expand (later first) g))
postfix_unary {K} aim state ps (expand first (expand (later (later (later (later (later m))))) g)) = elim m [ ]
postfix_unary {K} aim state ps (expand (later m) g) = elim m [ ]

to_unary : {K front : List Symbol} (aim : Aim) (state : State) (ps : List Piece) → Among front (alternatives rule.Unary) → Goes choices aim (front ++ K) state ps → Goes choices aim (Expand rule.Unary ∷ K) state ps
to_unary {K} aim state ps first g = expand first g
to_unary {K} aim state ps (later first) (stop ok) = (stop ok)
to_unary {K} aim state ps (later first) (take_token e g) = expand (later first) (take_token e (expand first g))
to_unary {K} aim state ps (later (later first)) g = postfix_unary aim state ps g
to_unary {K} aim state ps (later (later (later m))) g = elim m [ ]

-- From the reader's grammar to the defined one.

tail_arrows : {K : List Symbol} (aim : Aim) (state : State) (ps : List Piece) → Goes alternatives aim (Expand rule.FieldTail ∷ K) state ps → Goes alternatives aim (Expand rule.Arrows ∷ Take kind.Arrow Count ∷ Take kind.Name Keep ∷ Act action.Field ∷ Expand rule.AssignTail ∷ K) state ps
tail_arrows {K} aim state ps (stop ok) = (stop ok)
tail_arrows {K} aim state ps (expand first (stop ok)) = (stop ok)
tail_arrows {K} aim state ps (expand first ((take_token e (stop ok)))) = expand first ((take_token e (stop ok)))
tail_arrows {K} aim state ps (expand first ((take_token e (take_token n (stop ok))))) = expand first ((take_token e (take_token n (stop ok))))
tail_arrows {K} aim state ps (expand first ((take_token e (take_token n (act (stop ok)))))) = expand first ((take_token e (take_token n (act (stop ok)))))
tail_arrows {K} aim state ps (expand first ((take_token e (take_token n (act (expand {aim = aim'} {ps = ps'} (later first) g)))))) = expand first ((take_token e (take_token n (act (tail_arrows aim' _ ps' g)))))
tail_arrows {K} aim state ps (expand first ((take_token e (take_token n (act (expand first g)))))) = expand (later first) ((take_token e (take_token n (act g))))
tail_arrows {K} aim state ps (expand first ((take_token e (take_token n (act (expand (later (later m)) g)))))) = elim m [ ]
tail_arrows {K} aim state ps (expand (later m) g) = elim m [ ]

assign_either : {K : List Symbol} (aim : Aim) (state : State) (ps : List Piece) → Goes alternatives aim (Expand rule.AssignTail ∷ K) state ps → Goes alternatives aim (Expand rule.Asgop ∷ Act action.Outer ∷ Expand rule.Expr ∷ Act action.Assign ∷ K) state ps ⊎ Goes alternatives aim (Expand rule.Incdec ∷ Act action.Post ∷ K) state ps
assign_either {K} aim state ps (stop ok) = inl (stop ok)
assign_either {K} aim state ps (expand first g) = inl g
assign_either {K} aim state ps (expand (later first) g) = inr g
assign_either {K} aim state ps (expand (later (later m)) g) = elim m [ ]

assign : {K : List Symbol} (aim : Aim) (state : State) (ps : List Piece) → Goes alternatives aim (Expand rule.Lvalue ∷ Expand rule.AssignTail ∷ K) state ps → Goes alternatives aim (Expand rule.Simple ∷ K) state ps
assign {K} aim state ps g = elim (behind_either {h = alternatives} {old = Expand rule.AssignTail ∷ K} {one = Expand rule.Asgop ∷ Act action.Outer ∷ Expand rule.Expr ∷ Act action.Assign ∷ K} {other = Expand rule.Incdec ∷ Act action.Post ∷ K} assign_either (Expand rule.Lvalue ∷ []) g refl) [ inl d ↦ expand first d | inr d ↦ expand (later first) d ]

place_either : {K : List Symbol} (aim : Aim) (state : State) (ps : List Piece) → Goes alternatives aim (Expand rule.AfterPlace ∷ K) state ps → Goes alternatives aim (Expand rule.Arrows ∷ Take kind.Arrow Count ∷ Take kind.Name Keep ∷ Act action.Field ∷ Expand rule.AssignTail ∷ K) state ps ⊎ Goes alternatives aim (Expand rule.AssignTail ∷ K) state ps
place_either {K} aim state ps (stop ok) = inl (stop ok)
place_either {K} aim state ps (expand first g) = inr g
place_either {K} aim state ps (expand (later first) g) = inl (tail_arrows aim state ps g)
place_either {K} aim state ps (expand (later (later m)) g) = elim m [ ]

call_either : {K : List Symbol} (aim : Aim) (state : State) (ps : List Piece) → Goes alternatives aim (Expand rule.AfterCall ∷ K) state ps → Goes alternatives aim (Expand rule.Arrows ∷ Take kind.Arrow Count ∷ Take kind.Name Keep ∷ Act action.Field ∷ Expand rule.AssignTail ∷ K) state ps ⊎ Goes alternatives aim (Act action.Run ∷ K) state ps
call_either {K} aim state ps (stop ok) = inl (stop ok)
call_either {K} aim state ps (expand first g) = inl (tail_arrows aim state ps g)
call_either {K} aim state ps (expand (later first) g) = inr g
call_either {K} aim state ps (expand (later (later m)) g) = elim m [ ]

from_name : {K : List Symbol} {p : Piece} (aim : Aim) (state : State) (ps : List Piece) → p.kind ≡ kind.Name → Goes alternatives aim (Expand rule.AfterName ∷ K) (with_token Keep p.value state) ps → Goes alternatives aim (Expand rule.Simple ∷ K) state (p ∷ ps)
from_name {K} aim state ps e (stop ok) = assign aim state _ (expand first ((take_token e (stop ok))))
from_name {K} aim state ps e (expand first g) = assign aim state _ (expand first ((take_token e g)))
from_name {K} aim state ps e (expand (later first) g) = assign aim state _ (expand (later (later first)) (expand first (expand (later first) (take_token e (behind {h = alternatives} {old = Expand rule.FieldTail ∷ K} {new = Expand rule.Arrows ∷ Take kind.Arrow Count ∷ Take kind.Name Keep ∷ Act action.Field ∷ Expand rule.AssignTail ∷ K} tail_arrows (Act action.NameExpr ∷ []) g)))))
from_name {K} aim state ps e (expand (later (later first)) g) = elim (behind_either {h = alternatives} {old = Expand rule.AfterPlace ∷ K} {one = Expand rule.Arrows ∷ Take kind.Arrow Count ∷ Take kind.Name Keep ∷ Act action.Field ∷ Expand rule.AssignTail ∷ K} {other = Expand rule.AssignTail ∷ K} place_either (Take kind.LeftBracket Open ∷ Expand rule.Expr ∷ Take kind.RightBracket Skip ∷ Act action.Leave ∷ Act action.Index ∷ []) g refl) [ inl d ↦ assign aim state _ (expand (later (later first)) (expand first (expand (later (later first)) (take_token e d)))) | inr d ↦ assign aim state _ (expand (later first) (take_token e d)) ]
from_name {K} aim state ps e (expand (later (later (later first))) g) = elim (behind_either {h = alternatives} {old = Expand rule.AfterCall ∷ K} {one = Expand rule.Arrows ∷ Take kind.Arrow Count ∷ Take kind.Name Keep ∷ Act action.Field ∷ Expand rule.AssignTail ∷ K} {other = Act action.Run ∷ K} call_either (Take kind.LeftParen Open ∷ Expand rule.Args ∷ Take kind.RightParen Skip ∷ Act action.Leave ∷ Act action.Call ∷ []) g refl) [ inl d ↦ assign aim state _ (expand (later (later first)) (expand first (expand (later (later (later first))) (expand first (take_token e d))))) | inr d ↦ expand (later (later first)) (expand first (take_token e d)) ]
from_name {K} aim state ps e (expand (later (later (later (later m)))) g) = elim m [ ]

from_simple : {K front : List Symbol} (aim : Aim) (state : State) (ps : List Piece) → Among front (choices rule.Simple) → Goes alternatives aim (front ++ K) state ps → Goes alternatives aim (Expand rule.Simple ∷ K) state ps
from_simple {K} aim state ps first (stop ok) = (stop ok)
from_simple {K} aim state ps first (take_token {state = v} {ps = ps'} e g) = from_name _ v ps' e g
from_simple {K} aim state ps (later first) g = assign aim state _ (expand (later (later first)) (expand first (expand first (behind {h = alternatives} {old = Expand rule.FieldTail ∷ K} {new = Expand rule.Arrows ∷ Take kind.Arrow Count ∷ Take kind.Name Keep ∷ Act action.Field ∷ Expand rule.AssignTail ∷ K} tail_arrows (Expand rule.Constant ∷ []) g))))
from_simple {K} aim state ps (later (later first)) g = elim (behind_either {h = alternatives} {old = Expand rule.AfterCall ∷ K} {one = Expand rule.Arrows ∷ Take kind.Arrow Count ∷ Take kind.Name Keep ∷ Act action.Field ∷ Expand rule.AssignTail ∷ K} {other = Act action.Run ∷ K} call_either (Expand rule.WordCall ∷ []) g refl) [ inl d ↦ assign aim state _ (expand (later (later first)) (expand first (expand (later (later (later first))) (expand (later first) d)))) | inr d ↦ expand (later (later first)) (expand (later first) d) ]
from_simple {K} aim state ps (later (later (later first))) g = assign aim state _ (expand (later (later first)) (expand first (expand (later (later (later (later first)))) (behind {h = alternatives} {old = Expand rule.FieldTail ∷ K} {new = Expand rule.Arrows ∷ Take kind.Arrow Count ∷ Take kind.Name Keep ∷ Act action.Field ∷ Expand rule.AssignTail ∷ K} tail_arrows (Take kind.LeftParen OpenKeep ∷ Expand rule.Expr ∷ Take kind.RightParen Skip ∷ Act action.Leave ∷ Act action.Group ∷ []) g))))
from_simple {K} aim state ps (later (later (later (later first)))) g = expand (later (later (later first))) g
from_simple {K} aim state ps (later (later (later (later (later first))))) g = expand (later (later (later (later first)))) g
from_simple {K} aim state ps (later (later (later (later (later (later first)))))) g = expand (later (later (later (later (later first))))) g
from_simple {K} aim state ps (later (later (later (later (later (later (later m))))))) g = elim m [ ]

arrows_either : {K : List Symbol} (aim : Aim) (state : State) (ps : List Piece) → Goes alternatives aim (Expand rule.Arrows ∷ K) state ps → Goes alternatives aim (Expand rule.Arrows ∷ Take kind.Arrow Count ∷ Take kind.Name Keep ∷ Act action.Field ∷ K) state ps ⊎ Goes alternatives aim (K) state ps
arrows_either {K} aim state ps (stop ok) = inl (stop ok)
arrows_either {K} aim state ps (expand first (stop ok)) = inl (stop ok)
arrows_either {K} aim state ps (expand first ((take_token e (stop ok)))) = inl (expand first ((take_token e (stop ok))))
arrows_either {K} aim state ps (expand first ((take_token e (take_token n (stop ok))))) = inl (expand first ((take_token e (take_token n (stop ok)))))
arrows_either {K} aim state ps (expand first ((take_token e (take_token n (act {aim = aim'} {ps = ps'} g))))) = elim (arrows_either aim' _ ps' g) [ inl d ↦ inl (expand first ((take_token e (take_token n (act d))))) | inr d ↦ inl (expand (later first) ((take_token e (take_token n (act d))))) ]
arrows_either {K} aim state ps (expand (later first) g) = inr g
arrows_either {K} aim state ps (expand (later (later m)) g) = elim m [ ]

lv_arrows : {K : List Symbol} (aim : Aim) (state : State) (ps : List Piece) → Goes alternatives aim (Expand rule.LvTail ∷ K) state ps → Goes alternatives aim (Expand rule.Arrows ∷ Take kind.Arrow Count ∷ Take kind.Name Keep ∷ Act action.Field ∷ K) state ps
lv_arrows {K} aim state ps (stop ok) = (stop ok)
lv_arrows {K} aim state ps (expand first (stop ok)) = (stop ok)
lv_arrows {K} aim state ps (expand first ((take_token e (stop ok)))) = expand first ((take_token e (stop ok)))
lv_arrows {K} aim state ps (expand first ((take_token e (take_token n (stop ok))))) = expand first ((take_token e (take_token n (stop ok))))
lv_arrows {K} aim state ps (expand first ((take_token e (take_token n (act {aim = aim'} {ps = ps'} g))))) = elim (arrows_either aim' _ ps' g) [ inl d ↦ expand first ((take_token e (take_token n (act d)))) | inr d ↦ expand (later first) ((take_token e (take_token n (act d)))) ]
lv_arrows {K} aim state ps (expand (later m) g) = elim m [ ]

from_lvalue : {K front : List Symbol} (aim : Aim) (state : State) (ps : List Piece) → Among front (choices rule.Lvalue) → Goes alternatives aim (front ++ K) state ps → Goes alternatives aim (Expand rule.Lvalue ∷ K) state ps
from_lvalue {K} aim state ps first (stop ok) = (stop ok)
from_lvalue {K} aim state ps first (take_token e (stop ok)) = expand first (take_token e (stop ok))
from_lvalue {K} aim state ps first (take_token e (expand first g)) = elim (behind_either {h = alternatives} {old = Expand rule.Arrows ∷ K} {one = Expand rule.Arrows ∷ Take kind.Arrow Count ∷ Take kind.Name Keep ∷ Act action.Field ∷ K} {other = K} arrows_either (Take kind.LeftBracket Open ∷ Expand rule.Expr ∷ Take kind.RightBracket Skip ∷ Act action.Leave ∷ Act action.Index ∷ []) g refl) [ inl d ↦ expand (later (later first)) (expand first (expand (later (later first)) (take_token e d))) | inr d ↦ expand (later first) (take_token e d) ]
from_lvalue {K} aim state ps first (take_token e (expand (later first) g)) = expand (later (later first)) (expand first (expand (later (later (later first))) (expand first (take_token e (behind {h = alternatives} {old = Expand rule.LvTail ∷ K} {new = Expand rule.Arrows ∷ Take kind.Arrow Count ∷ Take kind.Name Keep ∷ Act action.Field ∷ K} lv_arrows (Take kind.LeftParen Open ∷ Expand rule.Args ∷ Take kind.RightParen Skip ∷ Act action.Leave ∷ Act action.Call ∷ []) g)))))
from_lvalue {K} aim state ps first (take_token e (expand (later (later first)) g)) = expand (later (later first)) (expand first (expand (later first) (take_token e (behind {h = alternatives} {old = Expand rule.LvTail ∷ K} {new = Expand rule.Arrows ∷ Take kind.Arrow Count ∷ Take kind.Name Keep ∷ Act action.Field ∷ K} lv_arrows (Act action.NameExpr ∷ []) g))))
from_lvalue {K} aim state ps first (take_token e (expand (later (later (later first))) g)) = expand first (take_token e g)
from_lvalue {K} aim state ps first (take_token e (expand (later (later (later (later m)))) g)) = elim m [ ]
from_lvalue {K} aim state ps (later first) g = expand (later (later first)) (expand first (expand first (behind {h = alternatives} {old = Expand rule.LvTail ∷ K} {new = Expand rule.Arrows ∷ Take kind.Arrow Count ∷ Take kind.Name Keep ∷ Act action.Field ∷ K} lv_arrows (Expand rule.Constant ∷ []) g)))
from_lvalue {K} aim state ps (later (later first)) g = expand (later (later first)) (expand first (expand (later (later (later first))) (expand (later first) (behind {h = alternatives} {old = Expand rule.LvTail ∷ K} {new = Expand rule.Arrows ∷ Take kind.Arrow Count ∷ Take kind.Name Keep ∷ Act action.Field ∷ K} lv_arrows (Expand rule.WordCall ∷ []) g))))
from_lvalue {K} aim state ps (later (later (later first))) g = expand (later (later first)) (expand first (expand (later (later (later (later first)))) (behind {h = alternatives} {old = Expand rule.LvTail ∷ K} {new = Expand rule.Arrows ∷ Take kind.Arrow Count ∷ Take kind.Name Keep ∷ Act action.Field ∷ K} lv_arrows (Take kind.LeftParen OpenKeep ∷ Expand rule.Expr ∷ Take kind.RightParen Skip ∷ Act action.Leave ∷ Act action.Group ∷ []) g)))
from_lvalue {K} aim state ps (later (later (later (later m)))) g = elim m [ ]

from_unary : {K front : List Symbol} (aim : Aim) (state : State) (ps : List Piece) → Among front (choices rule.Unary) → Goes alternatives aim (front ++ K) state ps → Goes alternatives aim (Expand rule.Unary ∷ K) state ps
from_unary {K} aim state ps first g = expand first g
from_unary {K} aim state ps (later first) (stop ok) = (stop ok)
from_unary {K} aim state ps (later first) (take_token e (stop ok)) = expand (later first) (take_token e (stop ok))
from_unary {K} aim state ps (later first) (take_token e (expand first g)) = expand (later first) (take_token e g)
from_unary {K} aim state ps (later first) (take_token e (expand (later first) g)) = expand (later (later first)) (expand first (expand (later (later (later (later first)))) (take_token e g)))
from_unary {K} aim state ps (later first) (take_token e (expand (later (later m)) g)) = elim m [ ]
from_unary {K} aim state ps (later (later first)) g = expand (later (later first)) (expand first (expand first g))
from_unary {K} aim state ps (later (later (later first))) g = expand (later (later first)) (expand first (expand (later (later (later first))) (expand (later first) g)))
from_unary {K} aim state ps (later (later (later (later first)))) (stop ok) = (stop ok)
from_unary {K} aim state ps (later (later (later (later first)))) (take_token e (stop ok)) = expand (later (later first)) (expand first (expand (later first) (take_token e (stop ok))))
from_unary {K} aim state ps (later (later (later (later first)))) (take_token e (expand first g)) = expand (later (later first)) (expand first (expand (later (later first)) (take_token e g)))
from_unary {K} aim state ps (later (later (later (later first)))) (take_token e (expand (later first) g)) = expand (later (later first)) (expand first (expand (later (later (later first))) (expand first (take_token e g))))
from_unary {K} aim state ps (later (later (later (later first)))) (take_token e (expand (later (later first)) g)) = expand (later (later first)) (expand first (expand (later first) (take_token e g)))
from_unary {K} aim state ps (later (later (later (later first)))) (take_token e (expand (later (later (later m))) g)) = elim m [ ]
from_unary {K} aim state ps (later (later (later (later (later m))))) g = elim m [ ]

decl : {K : List Symbol} (aim : Aim) (state : State) (ps : List Piece) → Goes choices aim (Expand rule.Type ∷ Take kind.Name Keep ∷ Expand rule.Declared ∷ K) state ps → Goes choices aim (Expand rule.StaticItem ∷ K) state ps
decl {K} aim state ps (stop ok) = (stop ok)
decl {K} aim state ps (expand first g) = expand (later first) g
decl {K} aim state ps (expand (later first) g) = expand (later (later first)) g
decl {K} aim state ps (expand (later (later first)) (stop ok)) = (stop ok)
decl {K} aim state ps (expand (later (later first)) ((take_token e g))) = expand (later (later (later first))) (take_token e (expand first g))
decl {K} aim state ps (expand (later (later (later first))) g) = expand first g
decl {K} aim state ps (expand (later (later (later (later m)))) g) = elim m [ ]

plain_item : {K : List Symbol} (aim : Aim) (state : State) (ps : List Piece) → Goes choices aim (Expand rule.StaticItem ∷ K) state ps → Goes choices aim (Expand rule.Item ∷ K) state ps
plain_item {K} aim state ps (stop ok) = (stop ok)
plain_item {K} aim state ps (expand first (stop ok)) = (stop ok)
plain_item {K} aim state ps (expand first ((take_token e (stop ok)))) = expand (later first) (take_token e (stop ok))
plain_item {K} aim state ps (expand first ((take_token e (take_token n g)))) = expand (later first) (take_token e (take_token n (expand (later first) g)))
plain_item {K} aim state ps (expand (later first) g) = expand (later (later (later first))) g
plain_item {K} aim state ps (expand (later (later first)) g) = expand (later (later (later (later first)))) g
plain_item {K} aim state ps (expand (later (later (later first))) g) = expand (later (later (later (later (later first))))) g
plain_item {K} aim state ps (expand (later (later (later (later first)))) g) = expand (later (later (later (later (later (later first)))))) g
plain_item {K} aim state ps (expand (later (later (later (later (later m))))) g) = elim m [ ]

to_global : {K : List Symbol} (aim : Aim) (state : State) (ps : List Piece) → Goes choices aim (Expand rule.GlobalDef ∷ K) state ps → Goes choices aim (Expand rule.StaticItem ∷ K) state ps
to_global {K} aim state ps (stop ok) = (stop ok)
to_global {K} aim state ps (expand first g) = decl aim state ps (behind {h = choices} {old = Expand rule.GlobalRest ∷ K} {new = Expand rule.Declared ∷ K} (λ a v t d. expand (later first) d) (Expand rule.Type ∷ Take kind.Name Keep ∷ []) g)
to_global {K} aim state ps (expand (later m) g) = elim m [ ]

to_function : {K : List Symbol} (aim : Aim) (state : State) (ps : List Piece) → Goes choices aim (Expand rule.FunctionDef ∷ K) state ps → Goes choices aim (Expand rule.StaticItem ∷ K) state ps
to_function {K} aim state ps (stop ok) = (stop ok)
to_function {K} aim state ps (expand first g) = decl aim state ps (behind {h = choices} {old = Take kind.LeftParen Open ∷ Expand rule.Params ∷ Take kind.RightParen Skip ∷ Act action.Leave ∷ Expand rule.Body ∷ K} {new = Expand rule.Declared ∷ K} (λ a v t d. expand first d) (Expand rule.Type ∷ Take kind.Name Keep ∷ []) g)
to_function {K} aim state ps (expand (later first) (stop ok)) = (stop ok)
to_function {K} aim state ps (expand (later first) ((take_token e g))) = expand (later (later (later first))) (take_token e (expand (later first) g))
to_function {K} aim state ps (expand (later (later m)) g) = elim m [ ]

to_mutex : {K : List Symbol} (aim : Aim) (state : State) (ps : List Piece) → Goes choices aim (Expand rule.MutexDef ∷ K) state ps → Goes choices aim (Expand rule.StaticItem ∷ K) state ps
to_mutex {K} aim state ps (stop ok) = (stop ok)
to_mutex {K} aim state ps (expand first g) = expand (later (later (later (later first)))) g
to_mutex {K} aim state ps (expand (later m) g) = elim m [ ]

to_item : {K front : List Symbol} (aim : Aim) (state : State) (ps : List Piece) → Among front (alternatives rule.Item) → Goes choices aim (front ++ K) state ps → Goes choices aim (Expand rule.Item ∷ K) state ps
to_item {K} aim state ps first g = expand first g
to_item {K} aim state ps (later first) (stop ok) = (stop ok)
to_item {K} aim state ps (later first) (expand first (stop ok)) = (stop ok)
to_item {K} aim state ps (later first) (expand first ((take_token e (stop ok)))) = expand (later first) (take_token e (stop ok))
to_item {K} aim state ps (later first) (expand first ((take_token e (take_token n g)))) = expand (later first) (take_token e (take_token n (expand first g)))
to_item {K} aim state ps (later first) (expand (later m) g) = elim m [ ]
to_item {K} aim state ps (later (later first)) g = plain_item aim state ps (to_global aim state ps g)
to_item {K} aim state ps (later (later (later first))) (stop ok) = (stop ok)
to_item {K} aim state ps (later (later (later first))) (take_token {state = v} {ps = ps'} e g) = expand (later (later first)) (take_token e (to_global _ _ ps' g))
to_item {K} aim state ps (later (later (later (later first)))) g = plain_item aim state ps (to_mutex aim state ps g)
to_item {K} aim state ps (later (later (later (later (later first))))) (stop ok) = (stop ok)
to_item {K} aim state ps (later (later (later (later (later first))))) (take_token {state = v} {ps = ps'} e g) = expand (later (later first)) (take_token e (to_mutex _ _ ps' g))
to_item {K} aim state ps (later (later (later (later (later (later first)))))) g = plain_item aim state ps (to_function aim state ps g)
to_item {K} aim state ps (later (later (later (later (later (later (later first))))))) (stop ok) = (stop ok)
to_item {K} aim state ps (later (later (later (later (later (later (later first))))))) (take_token {state = v} {ps = ps'} e g) = expand (later (later first)) (take_token e (to_function _ _ ps' g))
to_item {K} aim state ps (later (later (later (later (later (later (later (later m)))))))) g = elim m [ ]

to_params : {K front : List Symbol} (aim : Aim) (state : State) (ps : List Piece) → Among front (alternatives rule.Params) → Goes choices aim (front ++ K) state ps → Goes choices aim (Expand rule.Params ∷ K) state ps
to_params {K} aim state ps first (stop ok) = (stop ok)
to_params {K} aim state ps first (take_token e g) = expand first (take_token e (expand (later first) g))
to_params {K} aim state ps (later first) (stop ok) = (stop ok)
to_params {K} aim state ps (later first) (expand first g) = expand (later first) g
to_params {K} aim state ps (later first) (expand (later first) g) = expand (later (later first)) g
to_params {K} aim state ps (later first) (expand (later (later first)) (stop ok)) = (stop ok)
to_params {K} aim state ps (later first) (expand (later (later first)) ((take_token e g))) = expand first (take_token e (expand first g))
to_params {K} aim state ps (later first) (expand (later (later (later first))) g) = expand (later (later (later first))) g
to_params {K} aim state ps (later first) (expand (later (later (later (later m)))) g) = elim m [ ]
to_params {K} aim state ps (later (later first)) g = expand (later (later (later (later first)))) g
to_params {K} aim state ps (later (later (later m))) g = elim m [ ]

declared_either : {K : List Symbol} (aim : Aim) (state : State) (ps : List Piece) → Goes alternatives aim (Expand rule.Declared ∷ K) state ps → Goes alternatives aim (Expand rule.GlobalRest ∷ K) state ps ⊎ Goes alternatives aim (Take kind.LeftParen Open ∷ Expand rule.Params ∷ Take kind.RightParen Skip ∷ Act action.Leave ∷ Expand rule.Body ∷ K) state ps
declared_either {K} aim state ps (stop ok) = inl (stop ok)
declared_either {K} aim state ps (expand first g) = inr g
declared_either {K} aim state ps (expand (later first) g) = inl g
declared_either {K} aim state ps (expand (later (later m)) g) = elim m [ ]

static_out : {K : List Symbol} (aim : Aim) (state : State) (ps : List Piece) → Goes alternatives aim (Expand rule.StaticItem ∷ K) state ps → Goes alternatives aim (Expand rule.GlobalDef ∷ K) state ps ⊎ (Goes alternatives aim (Expand rule.MutexDef ∷ K) state ps ⊎ Goes alternatives aim (Expand rule.FunctionDef ∷ K) state ps)
static_out {K} aim state ps (stop ok) = inl (stop ok)
static_out {K} aim state ps (expand first g) = elim (behind_either {h = alternatives} {old = Expand rule.Declared ∷ K} {one = Expand rule.GlobalRest ∷ K} {other = Take kind.LeftParen Open ∷ Expand rule.Params ∷ Take kind.RightParen Skip ∷ Act action.Leave ∷ Expand rule.Body ∷ K} declared_either (Take kind.Struct Skip ∷ Take kind.Name Keep ∷ Take kind.Star Skip ∷ Act action.PtrType ∷ Take kind.Name Keep ∷ []) g refl) [ inl d ↦ inl (expand first (expand (later (later (later first))) d)) | inr d ↦ inr (inr (expand first (expand (later (later (later first))) d))) ]
static_out {K} aim state ps (expand (later first) g) = elim (behind_either {h = alternatives} {old = Expand rule.Declared ∷ K} {one = Expand rule.GlobalRest ∷ K} {other = Take kind.LeftParen Open ∷ Expand rule.Params ∷ Take kind.RightParen Skip ∷ Act action.Leave ∷ Expand rule.Body ∷ K} declared_either (Take kind.Int Skip ∷ Act action.IntType ∷ Take kind.Name Keep ∷ []) g refl) [ inl d ↦ inl (expand first (expand first d)) | inr d ↦ inr (inr (expand first (expand first d))) ]
static_out {K} aim state ps (expand (later (later first)) g) = elim (behind_either {h = alternatives} {old = Expand rule.Declared ∷ K} {one = Expand rule.GlobalRest ∷ K} {other = Take kind.LeftParen Open ∷ Expand rule.Params ∷ Take kind.RightParen Skip ∷ Act action.Leave ∷ Expand rule.Body ∷ K} declared_either (Take kind.Thread Skip ∷ Act action.ThreadType ∷ Take kind.Name Keep ∷ []) g refl) [ inl d ↦ inl (expand first (expand (later first) d)) | inr d ↦ inr (inr (expand first (expand (later first) d))) ]
static_out {K} aim state ps (expand (later (later (later first))) (stop ok)) = inl (stop ok)
static_out {K} aim state ps (expand (later (later (later first))) ((take_token e (stop ok)))) = inl (expand first (expand (later (later first)) (take_token e (stop ok))))
static_out {K} aim state ps (expand (later (later (later first))) ((take_token e (expand first g)))) = elim (behind_either {h = alternatives} {old = Expand rule.Declared ∷ K} {one = Expand rule.GlobalRest ∷ K} {other = Take kind.LeftParen Open ∷ Expand rule.Params ∷ Take kind.RightParen Skip ∷ Act action.Leave ∷ Expand rule.Body ∷ K} declared_either (Take kind.Star Skip ∷ Act action.AnyType ∷ Take kind.Name Keep ∷ []) g refl) [ inl d ↦ inl (expand first (expand (later (later first)) (take_token e d))) | inr d ↦ inr (inr (expand first (expand (later (later first)) (take_token e d)))) ]
static_out {K} aim state ps (expand (later (later (later first))) ((take_token e (expand (later first) g)))) = inr (inr (expand (later first) (take_token e g)))
static_out {K} aim state ps (expand (later (later (later first))) (take_token e (expand (later (later m)) g))) = elim m [ ]
static_out {K} aim state ps (expand (later (later (later (later first)))) g) = inr (inl (expand first g))
static_out {K} aim state ps (expand (later (later (later (later (later m))))) g) = elim m [ ]

plain_out : {K : List Symbol} (aim : Aim) (state : State) (ps : List Piece) → Goes alternatives aim (Expand rule.StaticItem ∷ K) state ps → Goes alternatives aim (Expand rule.Item ∷ K) state ps
plain_out {K} aim state ps g = elim (static_out aim state ps (g)) [ inl d ↦ expand (later (later first)) d | inr (inl d) ↦ expand (later (later (later (later first)))) d | inr (inr d) ↦ expand (later (later (later (later (later (later first)))))) d ]

from_item : {K front : List Symbol} (aim : Aim) (state : State) (ps : List Piece) → Among front (choices rule.Item) → Goes alternatives aim (front ++ K) state ps → Goes alternatives aim (Expand rule.Item ∷ K) state ps
from_item {K} aim state ps first g = expand first g
from_item {K} aim state ps (later first) (stop ok) = (stop ok)
from_item {K} aim state ps (later first) (take_token e (stop ok)) = expand (later first) (expand first (take_token e (stop ok)))
from_item {K} aim state ps (later first) (take_token e (take_token n (stop ok))) = expand (later first) (expand first (take_token e (take_token n (stop ok))))
from_item {K} aim state ps (later first) (take_token e (take_token n (expand first g))) = expand (later first) (expand first (take_token e (take_token n g)))
from_item {K} aim state ps (later first) (take_token e (take_token n (expand (later first) g))) = elim (behind_either {h = alternatives} {old = Expand rule.Declared ∷ K} {one = Expand rule.GlobalRest ∷ K} {other = Take kind.LeftParen Open ∷ Expand rule.Params ∷ Take kind.RightParen Skip ∷ Act action.Leave ∷ Expand rule.Body ∷ K} declared_either (Take kind.Star Skip ∷ Act action.PtrType ∷ Take kind.Name Keep ∷ []) g refl) [ inl d ↦ expand (later (later first)) (expand first (expand (later (later (later first))) (take_token e (take_token n d)))) | inr d ↦ expand (later (later (later (later (later (later first)))))) (expand first (expand (later (later (later first))) (take_token e (take_token n d)))) ]
from_item {K} aim state ps (later first) (take_token e (take_token n (expand (later (later m)) g))) = elim m [ ]
from_item {K} aim state ps (later (later first)) (stop ok) = (stop ok)
from_item {K} aim state ps (later (later first)) (take_token {ps = ps'} e g) = elim (static_out _ _ ps' g) [ inl d ↦ expand (later (later (later first))) (take_token e d) | inr (inl d) ↦ expand (later (later (later (later (later first))))) (take_token e d) | inr (inr d) ↦ expand (later (later (later (later (later (later (later first))))))) (take_token e d) ]
from_item {K} aim state ps (later (later (later first))) g = plain_out aim state ps (expand (later first) g)
from_item {K} aim state ps (later (later (later (later first)))) g = plain_out aim state ps (expand (later (later first)) g)
from_item {K} aim state ps (later (later (later (later (later first))))) g = plain_out aim state ps (expand (later (later (later first))) g)
from_item {K} aim state ps (later (later (later (later (later (later first)))))) g = plain_out aim state ps (expand (later (later (later (later first)))) g)
from_item {K} aim state ps (later (later (later (later (later (later (later m))))))) g = elim m [ ]

from_params : {K front : List Symbol} (aim : Aim) (state : State) (ps : List Piece) → Among front (choices rule.Params) → Goes alternatives aim (front ++ K) state ps → Goes alternatives aim (Expand rule.Params ∷ K) state ps
from_params {K} aim state ps first (stop ok) = (stop ok)
from_params {K} aim state ps first (take_token e (stop ok)) = expand first (take_token e (stop ok))
from_params {K} aim state ps first (take_token e (expand first g)) = expand (later first) (expand (later (later first)) (take_token e g))
from_params {K} aim state ps first (take_token e (expand (later first) g)) = expand first (take_token e g)
from_params {K} aim state ps first (take_token e (expand (later (later m)) g)) = elim m [ ]
from_params {K} aim state ps (later first) g = expand (later first) (expand first g)
from_params {K} aim state ps (later (later first)) g = expand (later first) (expand (later first) g)
from_params {K} aim state ps (later (later (later first))) g = expand (later first) (expand (later (later (later first))) g)
from_params {K} aim state ps (later (later (later (later first)))) g = expand (later (later first)) g
from_params {K} aim state ps (later (later (later (later (later m))))) g = elim m [ ]

to_choices : (r : Rule) (front K : List Symbol) (aim : Aim) (state : State) (ps : List Piece) → Among front (alternatives r) → Goes choices aim (front ++ K) state ps → Goes choices aim (Expand r ∷ K) state ps
to_choices rule.Simple front K aim state ps m g = to_simple aim state ps m g
to_choices rule.Lvalue front K aim state ps m g = to_lvalue aim state ps m g
to_choices rule.Unary front K aim state ps m g = to_unary aim state ps m g
to_choices rule.Item front K aim state ps m g = to_item aim state ps m g
to_choices rule.Params front K aim state ps m g = to_params aim state ps m g
to_choices r front K aim state ps m g = expand m g

from_choices : (r : Rule) (front K : List Symbol) (aim : Aim) (state : State) (ps : List Piece) → Among front (choices r) → Goes alternatives aim (front ++ K) state ps → Goes alternatives aim (Expand r ∷ K) state ps
from_choices rule.Simple front K aim state ps m g = from_simple aim state ps m g
from_choices rule.Lvalue front K aim state ps m g = from_lvalue aim state ps m g
from_choices rule.Unary front K aim state ps m g = from_unary aim state ps m g
from_choices rule.Item front K aim state ps m g = from_item aim state ps m g
from_choices rule.Params front K aim state ps m g = from_params aim state ps m g
from_choices r front K aim state ps m g = expand m g

pub to_reader : {aim : Aim} {symbols : List Symbol} {state : State} {ps : List Piece} → Goes alternatives aim symbols state ps → Goes choices aim symbols state ps
to_reader g = carried to_choices g

pub from_reader : {aim : Aim} {symbols : List Symbol} {state : State} {ps : List Piece} → Goes choices aim symbols state ps → Goes alternatives aim symbols state ps
from_reader g = carried from_choices g
