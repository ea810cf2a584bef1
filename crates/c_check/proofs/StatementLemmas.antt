-- The faults of statements, form by form.
use Rattle.std.proofs.Common.{◌≡◌, ◌≢◌, ℕ, ◌+◌, ◌-◌, ◌<◌, ◌≤◌, ◌∙◌, arith, Bool, true, false, not, List, [], ◌∷◌, ◌++◌, length, get_or, take, drop, Option, Some, None, refl, sym, ap, append_assoc, nat_lt}
use Rattle.std.specs.List.{list_any, flat_map}
use Rattle.std.proofs.lemmas.List.{drop_more, drop_all, take-append-le}
use Rattle.c_tree.specs.Compute.{literals}
use Rattle.c_tree.specs.declared.ty.Ty.{Ty}
use Rattle.c_tree.specs.declared.ty.Ty.TheVariants as ty
use Rattle.c_tree.specs.declared.op.BinOp.{BinOp}
use Rattle.c_tree.specs.declared.cause.CheckCause.TheVariants as c
use Rattle.c_tree.specs.declared.cause.LimitKind.TheVariants as limit
use Rattle.c_tree.specs.declared.scope.Fault.{Fault}
use Rattle.c_tree.specs.declared.program.Program.{Program}
use Rattle.c_tree.specs.declared.program.Expr.{Expr}
use Rattle.c_tree.specs.declared.program.Stmt.{Stmt}
use Rattle.c_tree.specs.declared.program.StmtKind.{StmtKind}
use Rattle.c_tree.specs.declared.program.StmtKind.TheBlock.{hidden-the_row-Stmt-0 as row_of}
use Rattle.c_tree.specs.declared.program.StmtKind.TheVariants as s
use Rattle.c_tree.specs.Fault.{fault, unless}
use Rattle.c_tree.specs.Scope.{Scope, file_scope, has_name, names_of}
use Rattle.c_tree.specs.Types.{is_int, is_testable}
use Rattle.c_tree.specs.Typing.{type_faults, value_faults, test_faults, stmt_faults, block_faults, next_all, in_body}
use Rattle.c_check.specs.declared.types.Test.TheVariants as test
use Rattle.c_check.specs.Inner.{Inner, declares, entered, left, around}
use Rattle.c_check.specs.Words.{noted, typed, found, valued, fitted, placed, filled, of_type}
use Rattle.c_check.specs.Statements.{stand, passed, all_passed, if_passed, reported, all_reported, if_reported, declared, initial, tested, fitted_to, returned, assigned, all_ints, printed}
use Rattle.c_check.proofs.NoteLemmas.{noting, noted-append, noted-none, noted_then}
use Rattle.c_check.proofs.PassLemmas.{passed-Declare, passed-Empty, passed-Break, passed-Continue, passed-Return, passed-Assign, passed-Run, passed-Free, passed-Print, passed-Block, passed-If, passed-While, passed-For, longer-passed, longer-all_passed, longer-if_passed, cut-left, next-stand, next_all-stand}

-- a declaration
pub declared_is : (p : Program) (l : Inner) (at : ℕ) (name : List ℕ) (t : Ty) → l.block ≤ length l.names → declared p l at name t ≡
    unless (not (list_any (has_name name) (take l.block l.names))) (fault at (c.Twice name)) ++ of_type p at t
    ++ unless (nat_lt (length l.slots) 64) (fault at (c.Limit limit.Locals))
unfolding declared of_type
declared_is p l at name t le =
    ap (λ xs. unless (not (list_any (has_name name) xs)) (fault at (c.Twice name)) ++ type_faults (file_scope p) at t ++ unless (nat_lt (length l.slots) 64) (fault at (c.Limit limit.Locals)))
    (take-append-le l.block l.names (names_of p) le)

module _ (sc : Scope) where
  pub initial-None : (t : Ty) → initial sc t None ≡ []
  unfolding initial
  initial-None t = refl

  pub initial-Some : (t : Ty) (x : Expr) → initial sc t (Some x) ≡ fitted sc t x
  unfolding initial fitted
  initial-Some t x = refl

  pub tested-None : tested sc None ≡ []
  unfolding tested
  tested-None = refl

  pub tested-Some : (x : Expr) → tested sc (Some x) ≡ valued sc test.Testable x
  unfolding tested valued
  tested-Some x = refl

  pub fitted_to-None : (x : Expr) → fitted_to sc None x ≡ valued sc test.Anything x
  unfolding fitted_to valued
  fitted_to-None x = refl

  pub fitted_to-Some : (t : Ty) (x : Expr) → fitted_to sc (Some t) x ≡ fitted sc t x
  unfolding fitted_to fitted
  fitted_to-Some t x = refl

  pub assigned-None : (x y : Expr) → assigned sc x None y ≡ placed sc x ++ fitted_to sc (typed sc x.kind) y
  unfolding assigned placed fitted_to typed
  assigned-None x y = refl

  pub assigned-Some : (x y : Expr) (op : BinOp) → assigned sc x (Some op) y ≡ filled sc test.Int x ++ valued sc test.Int y
  unfolding assigned filled valued
  assigned-Some x y op = refl

module _ (sc : Scope) (at : ℕ) where
  pub returned-void-None : returned sc at ty.Void None ≡ []
  unfolding returned
  returned-void-None = refl

  pub returned-void-Some : (x : Expr) → returned sc at ty.Void (Some x) ≡ fault at c.ReturnValue ++ valued sc test.Anything x
  unfolding returned valued
  returned-void-Some x = refl

  pub returned-None : (t : Ty) → t ≢ ty.Void → returned sc at t None ≡ fault at c.ReturnValue
  unfolding returned
  returned-None ty.Int other = refl
  returned-None ty.Thread other = refl
  returned-None ty.Void other = absurd (other refl)
  returned-None ty.AnyPtr other = refl
  returned-None (ty.Ptr name) other = refl

  pub returned-Some : (t : Ty) (x : Expr) → t ≢ ty.Void → returned sc at t (Some x) ≡ fitted sc t x
  unfolding returned fitted
  returned-Some ty.Int x other = refl
  returned-Some ty.Thread x other = refl
  returned-Some ty.Void x other = absurd (other refl)
  returned-Some ty.AnyPtr x other = refl
  returned-Some (ty.Ptr name) x other = refl

pub ruleset values = (noting, initial-None, initial-Some, tested-None, tested-Some, fitted_to-None, fitted_to-Some, assigned-None, assigned-Some, returned-void-None, returned-void-Some, returned-None, returned-Some)

pub all_ints-more : (sc : Scope) (x : Expr) (rest : List Expr) → all_ints sc (x ∷ rest) ≡ valued sc test.Int x ++ all_ints sc rest
unfolding all_ints valued
all_ints-more sc x rest = refl

pub all_ints-none : (sc : Scope) → all_ints sc [] ≡ []
unfolding all_ints
all_ints-none sc = refl

-- statements, form by form
module _ (p : Program) (l : Inner) (ret : Ty) (in_loop : Bool) (at : ℕ) where
  pub reported-Empty : reported p l ret in_loop at s.Empty ≡ []
  unfolding reported
  reported-Empty = refl

  pub reported-Declare : (t : Ty) (name : List ℕ) (value : Option Expr) → reported p l ret in_loop at (s.Declare t name value) ≡
      declared p l at name t ++ initial (around p (declares l at name t)) t value
  unfolding reported declared initial
  reported-Declare t name value = refl

  pub reported-Break : reported p l ret in_loop at s.Break ≡ unless in_loop (fault at c.NotInLoop)
  unfolding reported
  reported-Break = refl

  pub reported-Continue : reported p l ret in_loop at s.Continue ≡ unless in_loop (fault at c.NotInLoop)
  unfolding reported
  reported-Continue = refl

  pub reported-Return : (value : Option Expr) → reported p l ret in_loop at (s.Return value) ≡ returned (around p l) at ret value
  unfolding reported returned
  reported-Return value = refl

  pub reported-Assign : (x y : Expr) (op : Option BinOp) → reported p l ret in_loop at (s.Assign x op y) ≡ assigned (around p l) x op y
  unfolding reported assigned
  reported-Assign x y op = refl

  pub reported-Run : (x : Expr) → reported p l ret in_loop at (s.Run x) ≡ found (around p l) x.at x.kind
  unfolding reported found
  reported-Run x = refl

  pub reported-Free : (x : Expr) → reported p l ret in_loop at (s.Free x) ≡ valued (around p l) test.Freeable x
  unfolding reported valued
  reported-Free x = refl

  pub reported-Print : (text : List ℕ) (args : List Expr) → reported p l ret in_loop at (s.Print text args) ≡ printed (around p l) at text args
  unfolding reported printed all_ints
  reported-Print text args = refl

  pub reported-Block : (xs : List Stmt) → reported p l ret in_loop at (s.Block xs) ≡ all_reported p (entered l) ret in_loop xs
  unfolding reported all_reported literals
  reported-Block xs = refl

  pub reported-If : (x : Expr) (body : Stmt) (other : Option Stmt) → reported p l ret in_loop at (s.If x body other) ≡
      valued (around p l) test.Testable x ++ reported p l ret in_loop body.at body.kind ++ if_reported p (passed l body.at body.kind) ret in_loop other
  unfolding reported valued if_reported literals
  reported-If x body None = refl
  reported-If x body (Some o) =
      ap (λ st. value_faults (around p l) is_testable x ++ stmt_faults (stand p l ret in_loop) body.at body.kind ++ stmt_faults st o.at o.kind)
      (next-stand p l ret in_loop body.at body.kind)

  pub reported-While : (x : Expr) (body : Stmt) → reported p l ret in_loop at (s.While x body) ≡
      valued (around p l) test.Testable x ++ reported p l ret true body.at body.kind
  unfolding reported valued literals
  reported-While x body = refl

  pub reported-For : (starts : List Stmt) (x : Option Expr) (step : Option Stmt) (body : Stmt) → reported p l ret in_loop at (s.For starts x step body) ≡
      all_reported p (entered l) ret in_loop starts ++ tested (around p (all_passed (entered l) starts)) x
      ++ if_reported p (all_passed (entered l) starts) ret in_loop step ++ reported p (all_passed (entered l) starts) ret true body.at body.kind
  unfolding reported all_reported tested if_reported literals
  reported-For starts x None body =
      ap (λ st. block_faults (stand p (entered l) ret in_loop) (row_of starts) ++ test_faults st.scope x ++ [] ++ stmt_faults (in_body st) body.at body.kind)
      (next_all-stand p (entered l) ret in_loop starts)
  reported-For starts x (Some o) body =
      ap (λ st. block_faults (stand p (entered l) ret in_loop) (row_of starts) ++ test_faults st.scope x ++ stmt_faults st o.at o.kind ++ stmt_faults (in_body st) body.at body.kind)
      (next_all-stand p (entered l) ret in_loop starts)

module _ (p : Program) (l : Inner) (ret : Ty) (in_loop : Bool) where
  pub if_reported-None : if_reported p l ret in_loop None ≡ []
  unfolding if_reported
  if_reported-None = refl

  pub if_reported-Some : (x : Stmt) → if_reported p l ret in_loop (Some x) ≡ reported p l ret in_loop x.at x.kind
  unfolding if_reported reported
  if_reported-Some x = refl

  pub all_reported-none : all_reported p l ret in_loop [] ≡ []
  unfolding all_reported literals
  all_reported-none = refl

  pub all_reported-more : (x : Stmt) (rest : List Stmt) → all_reported p l ret in_loop (x ∷ rest) ≡
      reported p l ret in_loop x.at x.kind ++ all_reported p (passed l x.at x.kind) ret in_loop rest
  unfolding all_reported reported literals
  all_reported-more x rest =
      ap (λ st. stmt_faults (stand p l ret in_loop) x.at x.kind ++ block_faults st (row_of rest)) (next-stand p l ret in_loop x.at x.kind)

pub if_passed-None : (l : Inner) → if_passed l None ≡ l
unfolding if_passed
if_passed-None l = refl

pub if_passed-Some : (l : Inner) (x : Stmt) → if_passed l (Some x) ≡ passed l x.at x.kind
unfolding if_passed
if_passed-Some l x = refl

pub all_passed-none : (l : Inner) → all_passed l [] ≡ l
unfolding all_passed
all_passed-none l = refl

pub all_passed-more : (l : Inner) (x : Stmt) (rest : List Stmt) → all_passed l (x ∷ rest) ≡ all_passed (passed l x.at x.kind) rest
unfolding all_passed
all_passed-more l x rest = refl

pub ruleset forms = (
  noting,
  passed-Declare,
  passed-Empty,
  passed-Break,
  passed-Continue,
  passed-Return,
  passed-Assign,
  passed-Run,
  passed-Free,
  passed-Print,
  reported-Empty,
  reported-Declare,
  reported-Break,
  reported-Continue,
  reported-Return,
  reported-Assign,
  reported-Run,
  reported-Free,
  reported-Print,
)

pub ruleset holding = (
  noting,
  passed-Block,
  passed-If,
  passed-While,
  passed-For,
  reported-Block,
  reported-If,
  reported-While,
  reported-For,
  if_passed-None,
  if_passed-Some,
  if_reported-None,
  if_reported-Some,
  longer-passed,
  longer-all_passed,
  longer-if_passed,
  cut-left,
)

-- a branch, and a loop that counts
pub if_left : (l l1 l2 l3 : Inner) (at : ℕ) (kind : StmtKind) (x : Expr) (b body : Stmt) (other : Option Stmt) (n block : ℕ) → kind ≡ s.If x b other → body ≡ b →
    l1 ≡ passed l body.at body.kind → l2 ≡ if_passed l1 other → n ≡ length l.names → block ≡ l.block → l3 ≡ left n block l2 → l3 ≡ passed l at kind
if_left l l1 l2 l3 at kind x b body other n block is same first second names is_block end =
    end ∙ (ap (λ m. left m block l2) names ∙ (ap (λ m. left (length l.names) m l2) is_block
    ∙ (ap (left (length l.names) l.block) (second ∙ ap (λ z. if_passed z other) first) ∙ (sym (passed-If l at x body other) ∙ ap (passed l at) (ap (λ z. s.If x z other) same ∙ sym is)))))

pub if_noted : (p : Program) (l l1 : Inner) (ret : Ty) (in_loop : Bool) (at : ℕ) (kind : StmtKind) (x : Expr) (b body : Stmt) (other : Option Stmt) (f f1 f2 f3 : Option Fault) → kind ≡ s.If x b other → body ≡ b →
    f1 ≡ noted f (valued (around p l) test.Testable x) → f2 ≡ noted f1 (reported p l ret in_loop body.at body.kind) → l1 ≡ passed l body.at body.kind →
    f3 ≡ noted f2 (if_reported p l1 ret in_loop other) → f3 ≡ noted f (reported p l ret in_loop at kind)
if_noted p l l1 ret in_loop at kind x b body other f f1 f2 f3 is same first second moved third =
    let xs = valued (around p l) test.Testable x in
    let ys = reported p l ret in_loop body.at body.kind in
    noted_then f f2 f3 (xs ++ ys) (if_reported p l1 ret in_loop other) (noted_then f f1 f2 xs ys first second) third
    ∙ ap (noted f) (ap (λ z. xs ++ ys ++ if_reported p z ret in_loop other) moved ∙ (sym (reported-If p l ret in_loop at x body other)
    ∙ ap (reported p l ret in_loop at) (ap (λ z. s.If x z other) same ∙ sym is)))

pub for_left : (l l0 l1 l2 l3 : Inner) (at : ℕ) (starts : List Stmt) (x : Option Expr) (step : Option Stmt) (body : Stmt) (n block : ℕ) → l0 ≡ entered l → l1 ≡ all_passed l0 starts →
    l2 ≡ passed l1 body.at body.kind → n ≡ length l.names → block ≡ l.block → l3 ≡ left n block l2 → l3 ≡ passed l at (s.For starts x step body)
for_left l l0 l1 l2 l3 at starts x step body n block enters first second names is_block end =
    end ∙ (ap (λ m. left m block l2) names ∙ (ap (λ m. left (length l.names) m l2) is_block
    ∙ (ap (left (length l.names) l.block) (second ∙ ap (λ z. passed z body.at body.kind) (first ∙ ap (λ z. all_passed z starts) enters)) ∙ sym (passed-For l at starts x step body))))

pub in_body_noted : (p q : Program) (l m : Inner) (ret r : Ty) (in_loop : Bool) (body : Stmt) (f1 f2 : Option Fault) → q ≡ p → r ≡ ret → in_loop ≡ true → m ≡ l →
    f2 ≡ noted f1 (reported q m r in_loop body.at body.kind) → f2 ≡ noted f1 (reported p l ret true body.at body.kind)
in_body_noted p q l m ret r in_loop body f1 f2 file result loops same e =
    e ∙ ap (noted f1) (ap (λ z. reported z m r in_loop body.at body.kind) file ∙ (ap (λ z. reported p z r in_loop body.at body.kind) same
    ∙ (ap (λ z. reported p l z in_loop body.at body.kind) result ∙ ap (λ z. reported p l ret z body.at body.kind) loops)))

pub for_noted : (p : Program) (l l0 l1 : Inner) (ret : Ty) (in_loop : Bool) (at : ℕ) (kind : StmtKind) (row starts : List Stmt) (x : Option Expr) (step : Option Stmt) (b body : Stmt) (f f1 f2 f3 f4 : Option Fault) →
    kind ≡ s.For row x step b → starts ≡ row → body ≡ b → l0 ≡ entered l →
    f1 ≡ noted f (all_reported p l0 ret in_loop starts) → l1 ≡ all_passed l0 starts → f2 ≡ noted f1 (tested (around p l1) x) →
    f3 ≡ noted f2 (if_reported p l1 ret in_loop step) → f4 ≡ noted f3 (reported p l1 ret true body.at body.kind) → f4 ≡ noted f (reported p l ret in_loop at kind)
for_noted p l l0 l1 ret in_loop at kind row starts x step b body f f1 f2 f3 f4 is same_row same enters first moved second third fourth =
    let xs = all_reported p l0 ret in_loop starts in
    let ys = tested (around p l1) x in
    let zs = if_reported p l1 ret in_loop step in
    let ws = reported p l1 ret true body.at body.kind in
    noted_then f f3 f4 (xs ++ ys ++ zs) ws (noted_then f f2 f3 (xs ++ ys) zs (noted_then f f1 f2 xs ys first second) third) fourth
    ∙ ap (noted f) (ap (λ z. xs ++ tested (around p z) x ++ if_reported p z ret in_loop step ++ reported p z ret true body.at body.kind) moved
    ∙ (ap (λ m. all_reported p m ret in_loop starts ++ tested (around p (all_passed m starts)) x ++ if_reported p (all_passed m starts) ret in_loop step
    ++ reported p (all_passed m starts) ret true body.at body.kind) enters
    ∙ (sym (reported-For p l ret in_loop at starts x step body) ∙ ap (reported p l ret in_loop at) (ap (λ r. s.For r x step body) same_row ∙ (ap (λ z. s.For row x step z) same ∙ sym is)))))

-- the loop over statements, one further and at its end
pub statements_step : (p : Program) (l m : Inner) (ret : Ty) (in_loop : Bool) (body : List Stmt) (i : ℕ) (x : Stmt) (f1 f2 : Option Fault) → i < length body → x ≡ get_or body i x →
    f2 ≡ noted f1 (reported p l ret in_loop x.at x.kind) → m ≡ passed l x.at x.kind →
    noted f1 (all_reported p l ret in_loop (drop i body)) ≡ noted f2 (all_reported p m ret in_loop (drop (i + 1) body))
statements_step p l m ret in_loop body i x f1 f2 lt here done moved =
    let rest = drop (i + 1) body in
    ap (λ xs. noted f1 (all_reported p l ret in_loop xs)) (drop_more body i x lt ∙ ap (λ z. z ∷ rest) (sym here))
    ∙ (ap (noted f1) (all_reported-more p l ret in_loop x rest)
    ∙ (noted-append f1 (reported p l ret in_loop x.at x.kind) (all_reported p (passed l x.at x.kind) ret in_loop rest)
    ∙ (ap (λ f. noted f (all_reported p (passed l x.at x.kind) ret in_loop rest)) (sym done) ∙ ap (λ z. noted f2 (all_reported p z ret in_loop rest)) (sym moved))))

pub passed_step : (l m : Inner) (body : List Stmt) (i : ℕ) (x : Stmt) → i < length body → x ≡ get_or body i x → m ≡ passed l x.at x.kind →
    all_passed l (drop i body) ≡ all_passed m (drop (i + 1) body)
passed_step l m body i x lt here moved =
    let rest = drop (i + 1) body in
    ap (all_passed l) (drop_more body i x lt ∙ ap (λ z. z ∷ rest) (sym here)) ∙ (all_passed-more l x rest ∙ ap (λ z. all_passed z rest) (sym moved))

pub statements_end : (p : Program) (l : Inner) (ret : Ty) (in_loop : Bool) (body : List Stmt) (i : ℕ) (f : Option Fault) → length body ≤ i →
    noted f (all_reported p l ret in_loop (drop i body)) ≡ f
statements_end p l ret in_loop body i f le =
    ap (λ xs. noted f (all_reported p l ret in_loop xs)) (drop_all i body le) ∙ (ap (noted f) (all_reported-none p l ret in_loop) ∙ noted-none f)

pub passed_end : (l : Inner) (body : List Stmt) (i : ℕ) → length body ≤ i → all_passed l (drop i body) ≡ l
passed_end l body i le = ap (all_passed l) (drop_all i body le) ∙ all_passed-none l
