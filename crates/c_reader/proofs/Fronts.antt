-- From the machine's answer to what is said of the expression at the front.
use Rattle.std.proofs.Common.{◌≡◌, ◌≢◌, ℕ, zero, suc, ◌+◌, ◌-◌, ◌<◌, ◌≤◌, ◌⊎◌, inl, inr, List, [], ◌∷◌, ◌++◌, length, get_or, take, drop, Bool, true, false, Option, Some, None, refl, sym, ◌∙◌, ap, subst, arith, map, length-take}
use Rattle.std.specs.Prelude.{◌&&◌, slice_get}
use Rattle.std.specs.Option.{option_map_or}
use Rattle.std.proofs.lemmas.List.{take_more, take_all, length-map, length-drop, take-map, get_or-drop, get_or-take}
use Rattle.std.proofs.lemmas.Option.{get_or_from_slice_get, slice_get-get_or, slice_get-map, slice_get_within, slice_get_read}
use Rattle.c_tree.specs.declared.token.Token.{Token}
use Rattle.c_tree.specs.declared.cause.ReadCause.{ReadCause}
use Rattle.c_tree.specs.declared.cause.ReadCause.TheVariants as cause
use Rattle.c_tree.specs.declared.program.Expr.{Expr}
use Rattle.c_grammar.specs.declared.kind.Kind.TheVariants as kind
use Rattle.c_grammar.specs.declared.rule.Rule.{Rule}
use Rattle.c_grammar.specs.declared.symbol.Symbol.{Symbol}
use Rattle.c_grammar.specs.declared.symbol.Symbol.TheVariants.{Take, Unless, Act, Expand}
use Rattle.c_grammar.specs.declared.value.Value.{Value}
use Rattle.c_grammar.specs.declared.value.Value.TheVariants as value
use Rattle.c_grammar.specs.Pieces.{Piece, token_piece}
use Rattle.c_grammar.specs.Values.{operand_in}
use Rattle.c_grammar.specs.Effects.{State, empty}
use Rattle.c_grammar.specs.Rules.{alternatives, expr_start}
use Rattle.c_grammar.specs.Reading.{Among, Aim, Part, Any, Goes, stop, end, take_token, pass, act, expand, IsLive, Reads, IsFault, IsDeep, IsOver, IsFirst, IsCutShort, IsReading}
use Rattle.c_grammar.specs.Front.{IsLongest, pieces_from, IsExprAt, end_of, IsFaultAt, too_deep, at_token, at_end}
use Rattle.c_reader.specs.Follow.{FitsReader}
use Rattle.c_reader.proofs.Choice.{all_of, both_left, both_right, and_true}
use Rattle.c_reader.proofs.Tables.{named_good}
use Rattle.c_reader.proofs.LeftOut.{is_named, names, AllNamed}
use Rattle.c_reader.proofs.Sorts.{sort_of, kept_sort}
use Rattle.c_reader.proofs.Kept.{kept_token}
use Rattle.c_reader.proofs.Trees.{AllKept, expr_is}
use Rattle.c_reader.proofs.Sources.{reading_live}

pub expr_fits : FitsReader expr_start
expr_fits = (refl, (λ k b m. m, tt))

all_kept : (ts : List Token) → AllKept (map token_piece ts)
all_kept [] = tt
all_kept (t ∷ ts) = (kept_token t, all_kept ts)

expr_read : (ts : List Token) (values : List Value) → IsReading expr_start (map token_piece ts) values → IsReading expr_start (map token_piece ts) (value.Operand (operand_in values) ∷ [])
expr_read ts values r = subst (λ v. IsReading expr_start (map token_piece ts) v) (expr_is values (map token_piece ts) (all_kept ts) r.reads) r

-- No left-out word is live.

names_append : (front behind : List Symbol) → names front ≡ true → names behind ≡ true → names (front ++ behind) ≡ true
names_append [] behind h i = i
names_append (Take k mark ∷ front) behind h i = and_true _ _ (both_left _ _ h) (names_append front behind (both_right _ _ h) i)
names_append (Unless k ∷ front) behind h i = names_append front behind h i
names_append (Act a ∷ front) behind h i = names_append front behind h i
names_append (Expand r ∷ front) behind h i = names_append front behind h i

named : {aim : Aim} {symbols : List Symbol} {state : State} {ps : List Piece} → names symbols ≡ true → Goes alternatives aim symbols state ps → AllNamed ps
named h (stop ok) = tt
named h (end e) = tt
named h (take_token e g) = (ap is_named e ∙ both_left _ _ h, named (both_right _ _ h) g)
named h (pass n g) = named h g
named h (act g) = named h g
named h (expand {r = r} {alternative = front} {symbols = behind} m g) = named (names_append front behind (all_of names m (named_good r)) h) g

last_named : (front : List Piece) (p : Piece) → AllNamed (front ++ p ∷ []) → is_named p.kind ≡ true
last_named [] p n = n.0
last_named (q ∷ front) p n = last_named front p n.1

left_out_dead : (ps : List Piece) (i : ℕ) (p : Piece) → slice_get ps i ≡ Some p → p.kind ≡ kind.LeftOut → IsLive expr_start (take (i + 1) ps) → ⊥
left_out_dead ps i p e k live =
    let more : take (i + 1) ps ≡ take i ps ++ p ∷ [] = take_more ps i p (slice_get_within ps i p e) ∙ ap (λ x. take i ps ++ x ∷ []) (get_or_from_slice_get ps i p p e) in
    let all : AllNamed (take i ps ++ p ∷ []) = subst AllNamed more (named refl live) in
    let one : is_named kind.LeftOut ≡ true = subst (λ x. is_named x ≡ true) k (last_named (take i ps) p all) in
    cc

dead : (ps : List Piece) (i : ℕ) (c : ReadCause) → c ≢ cause.TooDeep → IsFault expr_start ps i c → IsLive expr_start (take (i + 1) ps) → ⊥
dead ps i (cause.LeftOut word) n (p, e, k, w) live = left_out_dead ps i p e k live
dead ps i cause.Unexpected n h live = h live
dead ps i cause.TooDeep n h live = n refl
dead ps i cause.BadByte n h live = h
dead ps i cause.Unclosed n h live = h
dead ps i cause.BadToken n h live = h
dead ps i cause.Literal n h live = h
dead ps i cause.TooLong n h live = h

-- The tokens before a fault.

take_of_take : {X : Type 0} (i n : ℕ) (xs : List X) → i ≤ n → take i (take n xs) ≡ take i xs
take_of_take zero n xs h = refl
take_of_take (suc i) zero xs h = absurd (omega arith)
take_of_take (suc i) (suc n) [] h = refl
take_of_take (suc i) (suc n) (x ∷ xs) h = ap (λ ys. x ∷ ys) (take_of_take i n xs (omega arith))

get_of_take : (ps : List Piece) (n i : ℕ) (p : Piece) → i < n → slice_get (take n ps) i ≡ Some p → slice_get ps i ≡ Some p
get_of_take [] zero i p lt e = absurd (omega arith)
get_of_take [] (suc n) i p lt e = e
get_of_take (q ∷ ps) zero i p lt e = absurd (omega arith)
get_of_take (q ∷ ps) (suc n) zero p lt e = e
get_of_take (q ∷ ps) (suc n) (suc i) p lt e = get_of_take ps n i p (omega arith) e

fault_before : (begin : List Symbol) (ps : List Piece) (n i : ℕ) (d : ReadCause) → i < n → IsFault begin (take n ps) i d → IsFault begin ps i d
fault_before begin ps n i (cause.LeftOut word) lt (p, e, k, w) = (p, get_of_take ps n i p lt e, k, w)
fault_before begin ps n i cause.TooDeep lt (inl (p, e, deep)) = inl (p, get_of_take ps n i p lt e, subst (λ x. IsDeep begin p.kind x) (take_of_take i n ps (omega arith)) deep)
fault_before begin ps n i cause.TooDeep lt (inr over) = inr (subst (λ x. IsOver begin x) (take_of_take (i + 1) n ps (omega arith)) over)
fault_before begin ps n i cause.Unexpected lt h = λ live. h (subst (λ x. IsLive begin x) (sym (take_of_take (i + 1) n ps (omega arith))) live)
fault_before begin ps n i cause.BadByte lt h = h
fault_before begin ps n i cause.Unclosed lt h = h
fault_before begin ps n i cause.BadToken lt h = h
fault_before begin ps n i cause.Literal lt h = h
fault_before begin ps n i cause.TooLong lt h = h

no_fault : (begin : List Symbol) (ps : List Piece) (n i : ℕ) (c d : ReadCause) → IsFirst begin ps n c → IsFirst begin (take n ps) i d → ⊥
no_fault begin ps n i c d f g =
    let lt' : i < length (take n ps) = g.within in
    let le : length (take n ps) ≤ n = simp length-take (omega arith) in
    f.sound i d (omega arith) (fault_before begin ps n i d (omega arith) g.here)

-- In the form of the calls.

pieces_part : (ts : List Token) (n : ℕ) → map token_piece (take n ts) ≡ take n (map token_piece ts)
pieces_part ts n = sym (take-map token_piece n ts)

-- the rest of the tokens, as the code reads it
rest_is : (ts us : List Token) (from : ℕ) → us ≡ take (length ts - from) (drop from ts) → us ≡ drop from ts
rest_is ts us from e = e ∙ take_all (length ts - from) (drop from ts) (let l : length (drop from ts) ≡ length ts - from = length-drop from ts in omega arith)

pub rest_first : (ts us : List Token) (from i : ℕ) (c : ReadCause) → us ≡ take (length ts - from) (drop from ts) → IsFirst expr_start (map token_piece us) i c → IsFirst expr_start (pieces_from ts from) i c
rest_first ts us from i c e f = subst (λ y. IsFirst expr_start (map token_piece y) i c) (rest_is ts us from e) f

pub rest_reading : (ts us : List Token) (from : ℕ) (values : List Value) → us ≡ take (length ts - from) (drop from ts) → IsReading expr_start (map token_piece us) values → IsReading expr_start (pieces_from ts from) values
rest_reading ts us from values e r = subst (λ y. IsReading expr_start (map token_piece y) values) (rest_is ts us from e) r

pub rest_cut : (ts us : List Token) (from : ℕ) → us ≡ take (length ts - from) (drop from ts) → IsCutShort expr_start (map token_piece us) → IsCutShort expr_start (pieces_from ts from)
rest_cut ts us from e k = subst (λ y. IsCutShort expr_start (map token_piece y)) (rest_is ts us from e) k

pub found_whole : (ts : List Token) (from : ℕ) (values : List Value) (x : Expr) → from ≤ length ts → IsReading expr_start (pieces_from ts from) values → x ≡ (operand_in values).expr
    → IsExprAt ts from x (length ts)
found_whole ts from values x le r e =
    let count : length (pieces_from ts from) ≡ length ts - from = length-map (drop from ts) token_piece ∙ length-drop from ts in
    let all : take (length ts - from) (pieces_from ts from) ≡ pieces_from ts from = take_all (length ts - from) (pieces_from ts from) (omega arith) in
    record {
      forth = le;
      longest = record {
        within = omega arith;
        live = subst (λ y. IsLive expr_start y) (sym all) (reading_live expr_start (pieces_from ts from) values r);
        longer = λ lt. absurd (omega arith);
      };
      first = (operand_in values).first;
      reading = subst (λ y. IsReading expr_start y (value.Operand (record { expr = x; first = (operand_in values).first }) ∷ [])) (sym all)
          (subst (λ y. IsReading expr_start (pieces_from ts from) (value.Operand (record { expr = y; first = (operand_in values).first }) ∷ [])) (sym e) (expr_read (drop from ts) values r));
    }

-- where a token of the rest stands
from_there : (ts : List Token) (from i : ℕ) (d : Token) → i < length (pieces_from ts from) → slice_get ts (from + i) ≡ Some (get_or ts (from + i) d)
from_there ts from i d lt =
    let count : length (pieces_from ts from) ≡ length ts - from = length-map (drop from ts) token_piece ∙ length-drop from ts in
    slice_get-get_or ts (from + i) d (omega arith)

pub within_tokens : (ts : List Token) (from i : ℕ) (c : ReadCause) → IsFirst expr_start (pieces_from ts from) i c → from + i < length ts
within_tokens ts from i c f =
    let lt : i < length (pieces_from ts from) = f.within in
    let count : length (pieces_from ts from) ≡ length ts - from = length-map (drop from ts) token_piece ∙ length-drop from ts in
    omega arith

pub deep_there : (ts : List Token) (from i : ℕ) (d : Token) → IsFirst expr_start (pieces_from ts from) i cause.TooDeep → IsFaultAt ts from (get_or ts (from + i) d).at cause.TooDeep
deep_there ts from i d f = too_deep i (get_or ts (from + i) d) (from_there ts from i d f.within) refl refl f

longest_part : (ts : List Token) (from n : ℕ) (c : ReadCause) → c ≢ cause.TooDeep → IsFirst expr_start (pieces_from ts from) n c → IsLongest expr_start (pieces_from ts from) n
longest_part ts from n c o f =
    let lt : n < length (pieces_from ts from) = f.within in
    record { within = omega arith; live = f.live; longer = λ lt live. dead (pieces_from ts from) n c o f.here live }

-- the tokens that the second run reads, as the front of those of the first
front_of : (ts us : List Token) (from n : ℕ) → us ≡ take n (drop from ts) → map token_piece us ≡ take n (pieces_from ts from)
front_of ts us from n e = ap (λ x. map token_piece x) e ∙ pieces_part (drop from ts) n

pub found_part : (ts us : List Token) (from n : ℕ) (c : ReadCause) (values : List Value) (x : Expr) → us ≡ take n (drop from ts) → c ≢ cause.TooDeep → IsFirst expr_start (pieces_from ts from) n c
    → IsReading expr_start (map token_piece us) values → x ≡ (operand_in values).expr → IsExprAt ts from x (from + n)
found_part ts us from n c values x u o f r e =
    let count : from + n - from ≡ n = omega arith in
    let read : IsReading expr_start (take n (pieces_from ts from)) (value.Operand (record { expr = x; first = (operand_in values).first }) ∷ []) =
    subst (λ y. IsReading expr_start y (value.Operand (record { expr = x; first = (operand_in values).first }) ∷ [])) (front_of ts us from n u)
    (subst (λ y. IsReading expr_start (map token_piece us) (value.Operand (record { expr = y; first = (operand_in values).first }) ∷ [])) (sym e) (expr_read us values r)) in
    record {
      forth = omega arith;
      longest = subst (λ m. IsLongest expr_start (pieces_from ts from) m) (sym count) (longest_part ts from n c o f);
      first = (operand_in values).first;
      reading = subst (λ m. IsReading expr_start (take m (pieces_from ts from)) (value.Operand (record { expr = x; first = (operand_in values).first }) ∷ [])) (sym count) read;
    }

pub cut_part : (ts us : List Token) (from n : ℕ) (c : ReadCause) (d : Token) → us ≡ take n (drop from ts) → c ≢ cause.TooDeep → IsFirst expr_start (pieces_from ts from) n c
    → IsCutShort expr_start (map token_piece us) → IsFaultAt ts from (get_or ts (from + n) d).at c
cut_part ts us from n c d u o f k =
    at_token n (get_or ts (from + n) d) (from_there ts from n d f.within) refl f (longest_part ts from n c o f)
    (λ values r. k.here values (subst (λ y. Reads expr_start y values) (sym (front_of ts us from n u)) r))

pub no_fault_part : (ts us : List Token) (from n i : ℕ) (c d : ReadCause) → us ≡ take n (drop from ts) → IsFirst expr_start (pieces_from ts from) n c → IsFirst expr_start (map token_piece us) i d → ⊥
no_fault_part ts us from n i c d u f g = no_fault expr_start (pieces_from ts from) n i c d f (subst (λ y. IsFirst expr_start y i d) (front_of ts us from n u) g)

pub end_is : (ts : List Token) (t : Token) → 1 ≤ length ts → t ≡ get_or ts (length ts - 1) t → t.at + t.len ≡ end_of ts
end_is ts t le e =
    let got : slice_get ts (length ts - 1) ≡ Some t = slice_get_read ts (length ts) (length ts - 1) t refl (omega arith) e in
    sym (ap (λ o. option_map_or (λ t. t.at + t.len) o 0) got)
