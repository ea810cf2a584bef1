-- What is asked for is fair.
use Rattle.std.proofs.Common.{◌≡◌, ◌∙◌, ◌⊎◌, inl, inr, ◌<◌, ◌≤◌, ◌^◌, ◌&&◌, ◌||◌, ℕ, Bool, true, false, true≢false, refl, sym, ap, subst, arith, List, [], ◌∷◌, Option, Some, None, is_some, codes}
use Rattle.std.specs.Prelude.{IfSome, if◌then◌else◌, unwrap_or, option_map}
use Rattle.std.specs.Option.{option_map_or}
use Rattle.std.specs.Str.{bytes_eq}
use Rattle.clap.specs.Words.{App, IsUnsignedIn, Row, Text, built, first_of, is_simple, matches_of, takes}
use Rattle.clap.specs.Simple.{argument_words, entered, filled, names_of}
use Rattle.clap.specs.Takes.{built_takes, entered_passes, level_passes}
use Rattle.clap.specs.Walk.{Rule, action_of, nothing_held, walk}
use Rattle.clap.specs.declared.builder.action.ArgAction.TheVariants.{Set}
use Rattle.clap.specs.declared.builder.value_parser.ValueParser.TheVariants as parser
use Rattle.clap.proofs.ValueTestLemmas.{accepts-Accepts}
use Rattle.command_line.specs.Command.{Command, Usage, Check, Points, Transform, Run, Patch, Upgrade, Load, command_of, check_of, file_in, load_in, load_of, patch_of, patch_words, points_of, transform_of, is_half, run_in, run_of, run_words, number_in, number_of, update_of, upgrade_of, upgrade_words}
use Rattle.command_line.specs.Laws.{IsFair, IsFairCommand}
use Rattle.command_line.specs.Options.{check_app, default_steps, found, load_app, max_load, max_seed, max_steps, patch_app, points_app, run_app, transform_app, upgrade_app}
use Rattle.command_line.specs.Options as options
use Rattle.command_line.proofs.NumbersPass as pass

abbrev rules : App → List Rule
rules app = (built app).top.rules

-- ---- each argument lets a number in its range alone pass

-- an argument under another id guards nothing
other : (id : Text) (P : Text → Type 0) (a : Rule) → action_of a ≡ Set → a.defaults ≡ [] → bytes_eq a.id id ≡ false → pass.Guards id P a
other id P a sets defaults differs = record { sets = sets; defaults = defaults; parser = λ e. absurd (true≢false (sym e ∙ differs)) }

steps_guarded : pass.Each (pass.Guards (codes "steps") (IsUnsignedIn 1 max_steps)) (rules run_app)
steps_guarded =
    let steps : pass.Guards (codes "steps") (IsUnsignedIn 1 max_steps) (filled options.steps) = record { sets = refl; defaults = refl; parser = λ e. accepts-Accepts false (parser.Unsigned 1 max_steps) } in
    (other _ _ _ refl refl refl, (other _ _ _ refl refl refl, (other _ _ _ refl refl refl, (other _ _ _ refl refl refl, (other _ _ _ refl refl refl, (other _ _ _ refl refl refl, (steps, (other _ _ _ refl refl refl, tt))))))))

seed_guarded : pass.Each (pass.Guards (codes "seed") (IsUnsignedIn 0 max_seed)) (rules run_app)
seed_guarded =
    let seed : pass.Guards (codes "seed") (IsUnsignedIn 0 max_seed) (filled options.seed) = record { sets = refl; defaults = refl; parser = λ e. accepts-Accepts false (parser.Unsigned 0 max_seed) } in
    (other _ _ _ refl refl refl, (other _ _ _ refl refl refl, (other _ _ _ refl refl refl, (other _ _ _ refl refl refl, (seed, (other _ _ _ refl refl refl, (other _ _ _ refl refl refl, (other _ _ _ refl refl refl, tt))))))))

at_guarded : pass.Each (pass.Guards (codes "at") (IsUnsignedIn 0 max_steps)) (rules run_app)
at_guarded =
    let at : pass.Guards (codes "at") (IsUnsignedIn 0 max_steps) (filled options.at) = record { sets = refl; defaults = refl; parser = λ e. accepts-Accepts false (parser.Unsigned 0 max_steps) } in
    (other _ _ _ refl refl refl, (other _ _ _ refl refl refl, (at, (other _ _ _ refl refl refl, (other _ _ _ refl refl refl, (other _ _ _ refl refl refl, (other _ _ _ refl refl refl, (other _ _ _ refl refl refl, tt))))))))

load_guarded : pass.Each (pass.Guards (codes "number") (IsUnsignedIn 1 max_load)) (rules load_app)
load_guarded = (record { sets = refl; defaults = refl; parser = λ e. accepts-Accepts false (parser.Unsigned 1 max_load) }, tt)

-- where the words of a command are taken, a text that passed its guard is a P
module _ (app : App) where
  lies : (id : Text) (P : Text → Type 0) → pass.Each (pass.Guards id P) (rules app) → (words : List Text) → takes app words ≡ true
      → IfSome (first_of id (matches_of app words)) P
  lies id P guarded words e =
      let names = names_of (built app) in
      let stop = (walk (rules app) names nothing_held (argument_words app words)).stopped in
      let has = is_some (entered (built app) stop) in
      let takes_all = pass.right (is_simple app) (built_takes (built app) nothing_held (argument_words app words)) e in
      let passes = pass.right (entered_passes (built app) stop) (level_passes (built app).top names nothing_held (argument_words app words) has) takes_all in
      pass.first id P _ (pass.level id P (built app).top guarded names (argument_words app words) has passes)

  found_lies : (id : Text) (P : Text → Type 0) → pass.Each (pass.Guards id P) (rules app) → (words : List Text) (rows : List Row) → Some rows ≡ found app words
      → IfSome (first_of id rows) P
  found_lies id P guarded words rows e = go (takes app words) (lies id P guarded words) e
    where
      go : (b : Bool) → (b ≡ true → IfSome (first_of id (matches_of app words)) P) → Some rows ≡ (if b then Some (matches_of app words) else None)
          → IfSome (first_of id rows) P
      go true here e = subst (λ (rs : List Row). IfSome (first_of id rs) P) (ap (λ o. unwrap_or o rows) (sym e)) (here refl)
      go false here e = absurd (true≢false (ap is_some e))

pub seed_lies : (words : List Text) (rows : List Row) → Some rows ≡ found run_app words → IfSome (first_of (codes "seed") rows) (IsUnsignedIn 0 max_seed)
seed_lies = found_lies run_app (codes "seed") (IsUnsignedIn 0 max_seed) seed_guarded

pub steps_lie : (words : List Text) (rows : List Row) → Some rows ≡ found run_app words → IfSome (first_of (codes "steps") rows) (IsUnsignedIn 1 max_steps)
steps_lie = found_lies run_app (codes "steps") (IsUnsignedIn 1 max_steps) steps_guarded

pub at_lies : (words : List Text) (rows : List Row) → Some rows ≡ found run_app words → IfSome (first_of (codes "at") rows) (IsUnsignedIn 0 max_steps)
at_lies = found_lies run_app (codes "at") (IsUnsignedIn 0 max_steps) at_guarded

pub load_lies : (words : List Text) (rows : List Row) → Some rows ≡ found load_app words → IfSome (first_of (codes "number") rows) (IsUnsignedIn 1 max_load)
load_lies = found_lies load_app (codes "number") (IsUnsignedIn 1 max_load) load_guarded

-- ---- a run is fair

steps_between : (o : Option Text) → IfSome o (IsUnsignedIn 1 max_steps)
    → (1 ≤ unwrap_or (option_map number_of o) default_steps) × (unwrap_or (option_map number_of o) default_steps ≤ 10000000)
steps_between None h = (omega arith, omega arith)
steps_between (Some t) h = (h.2, h.3)

seed_below : (o : Option Text) → IfSome o (IsUnsignedIn 0 max_seed) → IfSome (option_map number_of o) (λ n. n < 2 ^ 64)
seed_below None h = tt
seed_below (Some t) h = h.1

at_below : (patch o : Option Text) → IfSome o (IsUnsignedIn 0 max_steps) → IfSome (update_of patch (option_map number_of o)) (λ update. update.at ≤ 10000000)
at_below None None h = tt
at_below None (Some t) h = tt
at_below (Some p) None h = tt
at_below (Some p) (Some t) h = h.3

run_in_is_fair : (rows : List Row) → IfSome (first_of (codes "at") rows) (IsUnsignedIn 0 max_steps) → IfSome (first_of (codes "seed") rows) (IsUnsignedIn 0 max_seed)
    → IfSome (first_of (codes "steps") rows) (IsUnsignedIn 1 max_steps) → IsFairCommand (run_in rows)
run_in_is_fair rows at_range seed_range steps_range = go (is_half (first_of (codes "patch") rows) (number_in (codes "at") rows)) (run_words rows).seed (run_words rows).schedule refl refl
  where
    fair : ((run_words rows).seed ≡ None) ⊎ ((run_words rows).schedule ≡ None) → IsFair (run_words rows)
    fair one = record {
      least = (steps_between _ steps_range).0;
      most = (steps_between _ steps_range).1;
      seed = seed_below _ seed_range;
      one = one;
      at = at_below _ _ at_range;
    }

    go : (half : Bool) (seed : Option ℕ) (schedule : Option Text) → (run_words rows).seed ≡ seed → (run_words rows).schedule ≡ schedule
        → IsFairCommand (if half || (is_some seed && is_some schedule) then Usage else Run (run_words rows))
    go true seed schedule a b = tt
    go false (Some n) (Some s) a b = tt
    go false None s a b = fair (inl a)
    go false (Some n) None a b = fair (inr b)

-- ---- and so is each command

load_is_fair : (o : Option Text) → IfSome o (IsUnsignedIn 1 max_load) → IsFairCommand (option_map_or Load (option_map number_of o) Usage)
load_is_fair None h = tt
load_is_fair (Some t) h = (h.2, h.3)

on_found : (f : List Row → Command) (o : Option (List Row)) → ((rows : List Row) → Some rows ≡ o → IsFairCommand (f rows)) → IsFairCommand (option_map_or f o Usage)
on_found f None fair = tt
on_found f (Some rows) fair = fair rows refl

pub check_of_is_fair : (words : List Text) → IsFairCommand (check_of words)
check_of_is_fair words = on_found (λ rows. Check (file_in rows)) (found check_app words) (λ rows is. tt)

pub points_of_is_fair : (words : List Text) → IsFairCommand (points_of words)
points_of_is_fair words = on_found (λ rows. Points (file_in rows)) (found points_app words) (λ rows is. tt)

pub transform_of_is_fair : (words : List Text) → IsFairCommand (transform_of words)
transform_of_is_fair words = on_found (λ rows. Transform (file_in rows)) (found transform_app words) (λ rows is. tt)

pub run_of_is_fair : (words : List Text) → IsFairCommand (run_of words)
run_of_is_fair words = on_found run_in (found run_app words) (λ rows is. run_in_is_fair rows (at_lies words rows is) (seed_lies words rows is) (steps_lie words rows is))

pub patch_of_is_fair : (words : List Text) → IsFairCommand (patch_of words)
patch_of_is_fair words = on_found (λ rows. Patch (patch_words rows)) (found patch_app words) (λ rows is. tt)

pub upgrade_of_is_fair : (words : List Text) → IsFairCommand (upgrade_of words)
upgrade_of_is_fair words = on_found (λ rows. Upgrade (upgrade_words rows)) (found upgrade_app words) (λ rows is. tt)

pub load_of_is_fair : (words : List Text) → IsFairCommand (load_of words)
load_of_is_fair words = on_found load_in (found load_app words) (λ rows is. load_is_fair (first_of (codes "number") rows) (load_lies words rows is))

either_is_fair : (b : Bool) (c d : Command) → IsFairCommand c → IsFairCommand d → IsFairCommand (if b then c else d)
either_is_fair true c d fair other = fair
either_is_fair false c d fair other = other

pub command_is_fair : (words : List Text) → IsFairCommand (command_of words)
command_is_fair [] = tt
command_is_fair (name ∷ rest) =
    let words : List Text = name ∷ rest in
    either_is_fair (bytes_eq name (codes "check")) _ _ (check_of_is_fair words)
    (either_is_fair (bytes_eq name (codes "points")) _ _ (points_of_is_fair words)
    (either_is_fair (bytes_eq name (codes "transform")) _ _ (transform_of_is_fair words)
    (either_is_fair (bytes_eq name (codes "run")) _ _ (run_of_is_fair words)
    (either_is_fair (bytes_eq name (codes "patch")) _ _ (patch_of_is_fair words)
    (either_is_fair (bytes_eq name (codes "upgrade")) _ _ (upgrade_of_is_fair words)
    (either_is_fair (bytes_eq name (codes "load")) _ Usage (load_of_is_fair words) tt))))))

-- a command that is a fair one is fair
pub same_is_fair : (c d : Command) → IsFairCommand d → c ≡ d → IsFairCommand c
same_is_fair c d fair e = subst IsFairCommand (sym e) fair
