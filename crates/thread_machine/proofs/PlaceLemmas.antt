-- Where the innermost activation of a running thread stands.
use Rattle.std.proofs.Common.{◌≡◌, ℕ, ◌+◌, ◌<◌, ℤ, length, List, Option, Some, true, false, sym, ap, ◌∙◌, subst}
use Rattle.std.specs.Prelude.{slice_get}
use Rattle.std.proofs.lemmas.Option.{slice_get-get_or}
use Rattle.c_tree.specs.declared.lifted.LStmt.TheVariants as s
use Rattle.c_tree.specs.declared.lifted.Lifted.{Lifted}
use Rattle.c_tree.specs.declared.place.Act.{Act}
use Rattle.c_tree.specs.declared.place.Act.TheVariants.{Enter, Do, EndLoop}
use Rattle.c_tree.specs.declared.place.Place.{Place}
use Rattle.c_tree.specs.declared.state.Frame.{Frame}
use Rattle.c_tree.specs.Able.{is_update_place}
use Rattle.c_tree.specs.Layout.{nowhere, place_at}
use Rattle.c_tree.specs.Step.{function_of, no_function, place_in, at_frame}
use Rattle.c_tree.specs.Step as source
use Rattle.target_code.specs.declared.code.CodeFunction.{CodeFunction}
use Rattle.target_code.specs.declared.instr.Instr.{Instr}
use Rattle.target_code.specs.declared.instr.Instr.TheVariants as i
use Rattle.target_code.specs.Between.{body_at, Stands, Wait, AllWait, frames, running, IsBetweenTurns}
use Rattle.target_code.specs.Code.{TargetCode, body_of, act_code, code_of}
use Rattle.target_code.specs.Machine.{function_in}
use Rattle.target_code.specs.Seen.{seen}
use Rattle.target_code.specs.Target.{Target, top_of}
use Rattle.target_laws.proofs.Blocks.{HasAt}
use Rattle.target_laws.proofs.Frames.{top_reverse}
use Rattle.target_laws.proofs.Places.{here, code_at}
use Rattle.target_laws.proofs.SeenFrames.{mark_in, stands_seen}
use Rattle.thread_machine.specs.Laws as law
use Rattle.thread_machine.specs.Standing.{place_by, IsAtUpdate}

-- the place of the innermost activation
abbrev stands_at : TargetCode → Target → ℕ
stands_at code x =
    let a = top_of x.activations in
    let body = (function_in code a.function).body in
    place_by body (slice_get body a.pc)

-- the innermost frame for which a running thread stands
top_seen : (p : Lifted) (f : Frame) (pc : ℕ) (ws : List Wait) (ret : ℤ) (c : ℕ) → Stands p f pc → AllWait p ws → source.top_of (seen (code_of p) (running f pc ws ret c)) ≡ f
top_seen p f pc ws ret c stands all = ap source.top_of (stands_seen p f pc ws ret c stands all) ∙ top_reverse f (frames ws)

running_place : (p : Lifted) (f : Frame) (pc : ℕ) (ws : List Wait) (ret : ℤ) (c : ℕ) → Stands p f pc → AllWait p ws → stands_at (code_of p) (running f pc ws ret c) ≡ (source.top_of (seen (code_of p) (running f pc ws ret c))).place
running_place p f pc ws ret c stands all =
    ap (λ (o : Option Instr). place_by (body_at p f.function) o) (mark_in p f pc stands)
    ∙ sym (ap (λ (g : Frame). g.place) (top_seen p f pc ws ret c stands all))

pub place_of_top : (code : TargetCode) (x : Target) → IsBetweenTurns code x → stands_at code x ≡ (source.top_of (seen code x)).place
place_of_top code x between =
    let p = between.coded.program in
    let r = between.runs in
    let there = running_place p r.frame r.pc r.waits x.returned x.count r.stands r.wait in
    let here' = subst (λ y. stands_at (code_of p) y ≡ (source.top_of (seen (code_of p) y)).place) (sym r.is) there in
    subst (λ c. stands_at c x ≡ (source.top_of (seen c x)).place) (sym between.coded.is) here'

pub place_told : (code : TargetCode) (v x : Target) (place f pc : ℕ) (body : List Instr) → v ≡ x → IsBetweenTurns code x → f ≡ (top_of v.activations).function → pc ≡ (top_of v.activations).pc → body ≡ (function_in code f).body → place ≡ place_by body (slice_get body pc) → place ≡ (source.top_of (seen code x)).place
place_told code v x place f pc body is between ef ep eb e =
    let body_is : body ≡ (function_in code (top_of v.activations).function).body = eb ∙ ap (λ g. (function_in code g).body) ef in
    e
    ∙ ap (λ k. place_by body (slice_get body k)) ep
    ∙ ap (λ l. place_by l (slice_get l (top_of v.activations).pc)) body_is
    ∙ ap (λ y. stands_at code y) is
    ∙ place_of_top code x between

-- the place of a frame of a function of the program
where_is : (p : Lifted) (f : Frame) → f.function < length p.functions → at_frame p f ≡ place_at (function_of p f.function) f.place
where_is p f h = ap (λ o. nowhere (place_in o f.place)) (slice_get-get_or p.functions f.function no_function h)

not_true : false ≡ true → ⊥
not_true e = cc

flag_second : (t : ℕ → ℕ) (code : List Instr) (at n : ℕ) (a : Act) → is_update_place a ≡ true → HasAt code at (act_code t at n a) → slice_get code (at + 1) ≡ Some (i.Flag n)
flag_second t code at n Enter u h = h.1.0
flag_second t code at n EndLoop u h = h.1.0
flag_second t code at n (Do (s.Lock m)) u h = h.1.0
flag_second t code at n (Do (s.Join e)) u h = h.1.0
flag_second t code at n _ u h = absurd (not_true u)

running_update : (p : Lifted) (f : Frame) (pc : ℕ) (ws : List Wait) (ret : ℤ) (c : ℕ) → Stands p f pc → AllWait p ws → is_update_place (at_frame p (source.top_of (seen (code_of p) (running f pc ws ret c)))).act ≡ true → IsAtUpdate (code_of p) (running f pc ws ret c)
running_update p f pc ws ret c stands all update =
    let top = top_seen p f pc ws ret c stands all in
    let at_is : at_frame p (source.top_of (seen (code_of p) (running f pc ws ret c))) ≡ place_at (function_of p f.function) f.place = ap (λ g. at_frame p g) top ∙ where_is p f stands.fits.within in
    let u : is_update_place (place_at (function_of p f.function) f.place).act ≡ true = sym (ap (λ (a : Place). is_update_place a.act) at_is) ∙ update in
    let code = code_at p f.function stands.fits.within in
    let fn = function_of p f.function in
    let b = here p code.t fn f.place pc stands.mark in
    let flag = flag_second code.t (body_of p code.t fn) pc f.place (place_at fn f.place).act u b.has in
    (f.place, mark_in p f pc stands, subst (λ (k : CodeFunction). slice_get k.body (pc + 1) ≡ Some (i.Flag f.place)) (sym code.is) flag)

-- a thread that stands at an update place is at its mark and flag
pub update_has_flag : law.AnUpdatePlaceHasAFlag
update_has_flag p x r update =
    let update' = subst (λ y. is_update_place (at_frame p (source.top_of (seen (code_of p) y))).act ≡ true) r.is update in
    subst (λ y. IsAtUpdate (code_of p) y) (sym r.is) (running_update p r.frame r.pc r.waits x.returned x.count r.stands r.wait update')
