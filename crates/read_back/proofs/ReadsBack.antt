-- A printed expression is read back: by a derivation that keeps the limits, as a tree whose numbers are the expression.
use Rattle.std.proofs.lemmas.Bool.{cases_lt}
use Rattle.std.proofs.Common.{◌≡◌, ℕ, ◌<◌, ◌≤◌, ◌⊎◌, inl, inr, pos, List, [], Some, refl, ◌∙◌, ap, subst, arith}
use Rattle.std.specs.Option.{option_map}
use Rattle.c_tree.specs.declared.lifted.LExpr.{LExpr}
use Rattle.c_tree.specs.declared.lifted.LExpr.TheVariants as l
use Rattle.c_tree.specs.declared.op.BinOp.{BinOp}
use Rattle.c_tree.specs.declared.op.BinOp.TheVariants as bin
use Rattle.c_tree.specs.declared.token.Token.{Token}
use Rattle.c_tree.specs.declared.program.ExprKind.TheVariants as e
use Rattle.c_tree.specs.Compute.{literals}
use Rattle.c_tree.specs.Operators.{binding}
use Rattle.c_tree.specs.MapExpr.{Reads, named, indexed, member, operated, numbered}
use Rattle.c_grammar.specs.declared.value.Operand.{Operand}
use Rattle.c_grammar.specs.Values.{operand}
use Rattle.read_back.proofs.Printed.{Spelt, plain, hidden, temporary, Printed, number, null, name, element, field, prefixed, between, bracketed}
use Rattle.read_back.proofs.Levels.{Builds, from_level}
use Rattle.read_back.proofs.Forms.{from_whole, number_built, null_built, plain_built, hidden_built, temporary_built, element_built, field_built, prefixed_built, between_built, bracketed_built}

-- The tokens are read as a tree, and its numbers are the expression.
pub record ReadAs (r : Reads) (room asked : ℕ) (x : LExpr) (ts : List Token) (n : ℕ) : Type 0 where
  pub tree : Operand
  pub numbers : numbered r tree.expr.kind ≡ Some x
  pub builds : Builds asked room ts n tree

pub record SpeltAs (r : Reads) (room : ℕ) (x : LExpr) (ts : List Token) : Type 0 where
  pub tree : Operand
  pub numbers : numbered r tree.expr.kind ≡ Some x
  pub builds : Builds 11 room ts 0 tree

spelt : (r : Reads) (room : ℕ) {word : List ℕ} (x : LExpr) {ts : List Token} → Spelt word ts → named r word ≡ Some x → SpeltAs r room x ts
unfolding literals
spelt r room x (plain {word = word} {at = at} {len = len} is) found = record { tree = operand at (e.Name word); numbers = found; builds = plain_built room at len word is }
spelt r room x (hidden {word = word} {n = n} {a = a} {b = b} {c = c} {i = i} {j = j} {k = k} is) found =
    record { tree = operand a (e.Slot word n); numbers = found; builds = hidden_built room n a b c i j k word is }
spelt r room x (temporary {n = n} {b = b} {c = c} {j = j} {k = k}) found = record { tree = operand b (e.Slot [] n); numbers = found; builds = temporary_built room n b c j k }

below : (op : BinOp) → binding op ≤ 11
below bin.Mul = omega arith
below bin.Div = omega arith
below bin.Rem = omega arith
below bin.Add = omega arith
below bin.Sub = omega arith
below bin.Shl = omega arith
below bin.Shr = omega arith
below bin.Lt = omega arith
below bin.Le = omega arith
below bin.Gt = omega arith
below bin.Ge = omega arith
below bin.Eq = omega arith
below bin.Ne = omega arith
below bin.BitAnd = omega arith
below bin.BitXor = omega arith
below bin.BitOr = omega arith
below bin.And = omega arith
below bin.Or = omega arith

lower : {r : Reads} {room asked : ℕ} {x : LExpr} {ts : List Token} {n : ℕ} (top : ℕ) → asked ≤ top → top ≤ 11 → ReadAs r room top x ts n → ReadAs r room asked x ts n
lower {r} {room} {asked} {x} {ts} {n} top le most y = go (cases_lt top 11)
  where
    go : (top < 11) ⊎ (11 ≤ top) → ReadAs r room asked x ts n
    go (inl lt) = record { tree = y.tree; numbers = y.numbers; builds = from_level top asked room ts n y.tree le (omega arith) y.builds }
    go (inr ge) =
        let same : top ≡ 11 = omega arith in
        record { tree = y.tree; numbers = y.numbers; builds = from_whole asked room ts n y.tree (omega arith) (subst (λ i. Builds i room ts n y.tree) same y.builds) }

pub read : {r : Reads} {room asked : ℕ} {x : LExpr} {ts : List Token} {n : ℕ} → Printed r room asked x ts n → ReadAs r room asked x ts n
unfolding literals
read (number room asked n at len le) = lower 11 le (omega arith) (record { tree = operand at (e.Num (pos n)); numbers = refl; builds = number_built room n at len })
read (null room asked at len le) = lower 11 le (omega arith) (record { tree = operand at e.Null; numbers = refl; builds = null_built room at len })
read {r = r} (name room asked {x = x} le s found) = let y = spelt r room x s found in lower 11 le (omega arith) (record { tree = y.tree; numbers = y.numbers; builds = y.builds })
read {r = r} (element asked at len a b {room = room} {n = n} {word = word} {g = g} {ts = ts} le is found p) =
    let y = read p in
    lower 11 le (omega arith) (record {
      tree = operand at (e.Index word y.tree.expr);
      numbers = ap (λ o. indexed o (numbered r y.tree.expr.kind)) found ∙ ap (λ o. indexed (Some g) o) y.numbers;
      builds = element_built room n at len a b word ts y.tree is y.builds;
    })
read {r = r} (field asked at len a word {room = room} {n = n} {ts = ts} le is found p) =
    let y = read p in
    lower 11 le (omega arith) (record {
      tree = operand y.tree.first (e.Field y.tree.expr word);
      numbers = ap (λ o. member r o word) y.numbers ∙ found;
      builds = field_built room n at len a word ts y.tree is y.builds;
    })
read (prefixed asked at {room = room} {n = n} {op = op} {ts = ts} le p) =
    let y = read p in
    lower 10 le (omega arith) (record {
      tree = operand at (e.Un op y.tree.expr);
      numbers = ap (λ o. option_map (λ x. l.Un op x) o) y.numbers;
      builds = prefixed_built room n at op ts y.tree y.builds;
    })
read {r = r} (between asked at len {room = room} {n = n} {m = m} {op = op} {a = a} {b = b} {ts = ts} {us = us} le is p q) =
    let y = read p in
    let z = read q in
    lower (binding op) le (below op) (record {
      tree = record { expr = record { at = at; kind = e.Bin op y.tree.expr z.tree.expr }; first = y.tree.first };
      numbers = ap (λ o. operated r op o (numbered r z.tree.expr.kind)) y.numbers ∙ ap (λ o. operated r op (Some a) o) z.numbers ∙ ap (λ x. Some x) is;
      builds = between_built room n m at len op ts us y.tree z.tree y.builds z.builds;
    })
read (bracketed asked a b {room = room} {n = n} {ts = ts} le p) =
    let y = read p in
    lower 11 le (omega arith) (record {
      tree = record { expr = y.tree.expr; first = a };
      numbers = y.numbers;
      builds = bracketed_built room n a b ts y.tree y.builds;
    })
