-- What the parts of the code's commands make together.
use Rattle.std.proofs.Common.{◌≡◌, ◌∙◌, Bool, true, false, refl, sym, ap, ap₂, arith, List, [], ◌∷◌, map, Option, Some, None, Result, Ok, Err, IfOk, codes}
use Rattle.std.specs.Prelude.{IfSome, slice_get, unwrap_or}
use Rattle.std.specs.Option.{option_map_or}
use Rattle.std.specs.Str.{bytes_eq}
use Rattle.std.proofs.lemmas.Slice.Eq.{bytes_eq-Decides}
use Rattle.clap.specs.Words.{IsUnsignedIn, Row, Text, first_of}
use Rattle.command_line.specs.Command.{Command, Usage, Patch, PatchWords, RunWords, Upgrade, UpgradeWords, upgrade_of, upgrade_words, command_of, command_on, file_in, is_half, load_in, load_of, load_on, name_in, number_in, patch_of, patch_words, run_in, run_of, run_on, run_words, update_of}
use Rattle.command_line.specs.Options.{default_steps, found, load_app, max_seed, max_steps, patch_app, run_app, upgrade_app}

-- a run of the parts that were found is what the words of a run ask for
pub run_given : (words : List Text) (rows : List Row) (half : Bool) (run : RunWords) → Some rows ≡ found run_app words
    → half ≡ is_half (first_of (codes "patch") rows) (number_in (codes "at") rows)
    → run.file ≡ file_in rows → run.update ≡ update_of (first_of (codes "patch") rows) (number_in (codes "at") rows) → run.input ≡ first_of (codes "input") rows → run.seed ≡ number_in (codes "seed") rows
    → run.schedule ≡ first_of (codes "schedule") rows → run.steps ≡ unwrap_or (number_in (codes "steps") rows) default_steps
    → run.history ≡ first_of (codes "history") rows → run_on half run ≡ run_of words
run_given words rows half run is none file update input seed schedule steps history =
    let same : run ≡ run_words rows = λ i. record { file = file i; update = update i; input = input i; seed = seed i; schedule = schedule i; steps = steps i; history = history i } in
    ap₂ run_on none same ∙ ap (λ o. option_map_or run_in o Usage) is

-- a patch of the parts that were found is what the words of a patch ask for
pub patch_given : (words : List Text) (rows : List Row) (patch : PatchWords) → Some rows ≡ found patch_app words
    → patch.old ≡ name_in (codes "old") rows → patch.new ≡ name_in (codes "new") rows → patch.map ≡ name_in (codes "map") rows
    → patch.output ≡ name_in (codes "output") rows → Patch patch ≡ patch_of words
patch_given words rows patch is old new mapping output =
    let same : patch ≡ patch_words rows = λ i. record { old = old i; new = new i; map = mapping i; output = output i } in
    ap Patch same ∙ ap (λ o. option_map_or (λ rows. Patch (patch_words rows)) o Usage) is

-- an upgrade of the files that were found is what the words of an upgrade ask for
pub upgrade_given : (words : List Text) (rows : List Row) (upgrade : UpgradeWords) → Some rows ≡ found upgrade_app words
    → upgrade.file ≡ file_in rows → upgrade.output ≡ name_in (codes "output") rows → Upgrade upgrade ≡ upgrade_of words
upgrade_given words rows upgrade is file output =
    let same : upgrade ≡ upgrade_words rows = λ i. record { file = file i; output = output i } in
    ap Upgrade same ∙ ap (λ o. option_map_or (λ rows. Upgrade (upgrade_words rows)) o Usage) is

-- a number of steps before an update is a number
pub at_is_read : (o : Option Text) → IfSome o (IsUnsignedIn 0 max_steps) → IfSome o (IsUnsignedIn 0 max_seed)
at_is_read None h = tt
at_is_read (Some t) h = (h.0, h.1, h.2, omega (arith, h.3))

-- a number of steps is a number
pub steps_are_read : (o : Option Text) → IfSome o (IsUnsignedIn 1 max_steps) → IfSome o (IsUnsignedIn 0 max_seed)
steps_are_read None h = tt
steps_are_read (Some t) h = (h.0, h.1, omega arith, omega (arith, h.3))

differs : (a b : Text) → (a ≡ b → ⊥) → bytes_eq a b ≡ false
differs a b other = go (bytes_eq a b) refl
  where
    go : (t : Bool) → bytes_eq a b ≡ t → bytes_eq a b ≡ false
    go true e = absurd (other ((bytes_eq-Decides a b).0 e))
    go false e = e

-- words that begin with no command's name are a usage fault
pub no_command : {X : Type 0} (text : X → Text) (words : List X) (first : X) (name : Text) → Some first ≡ slice_get words 0 → name ≡ text first
    → (name ≡ codes "check" → ⊥) → (name ≡ codes "points" → ⊥) → (name ≡ codes "transform" → ⊥) → (name ≡ codes "run" → ⊥) → (name ≡ codes "patch" → ⊥) → (name ≡ codes "upgrade" → ⊥) → (name ≡ codes "load" → ⊥)
    → Usage ≡ command_of (map text words)
no_command text [] first name e is check points transform run patch upgrade load = cc
no_command text (x ∷ xs) first name e is check points transform run patch upgrade load =
    let same : name ≡ text x = is ∙ ap (λ o. text (unwrap_or o first)) e in
    let here : Usage ≡ command_on name (map text (x ∷ xs)) = rw (
      differs name (codes "check") check,
      differs name (codes "points") points,
      differs name (codes "transform") transform,
      differs name (codes "run") run,
      differs name (codes "patch") patch,
      differs name (codes "upgrade") upgrade,
      differs name (codes "load") load,
    ) refl in
    here ∙ ap (λ (n : Text). command_on n (map text (x ∷ xs))) same

-- words that begin with `run` are those of a run
pub run_named : {X : Type 0} (text : X → Text) (words : List X) (first : X) (name : Text) → Some first ≡ slice_get words 0 → name ≡ text first
    → name ≡ codes "run" → run_of (map text words) ≡ command_of (map text words)
run_named text [] first name e is here = cc
run_named text (x ∷ xs) first name e is here =
    let same : codes "run" ≡ text x = sym here ∙ (is ∙ ap (λ o. text (unwrap_or o first)) e) in
    let run : run_of (map text (x ∷ xs)) ≡ command_on (codes "run") (map text (x ∷ xs)) = refl in
    run ∙ ap (λ (n : Text). command_on n (map text (x ∷ xs))) same

-- words that a run doesn't take are a usage fault
pub not_taken : (words : List Text) → None ≡ found run_app words → Usage ≡ run_of words
not_taken words e = ap (λ o. option_map_or run_in o Usage) e

-- a load of the number that was found is what the words of a load ask for
pub load_given : (words : List Text) (rows : List Row) (command : Command) → Some rows ≡ found load_app words
    → command ≡ load_on (number_in (codes "number") rows) → command ≡ load_of words
load_given words rows command is e = e ∙ ap (λ o. option_map_or load_in o Usage) is

-- words that a load doesn't take are a usage fault
pub no_load : (words : List Text) → None ≡ found load_app words → Usage ≡ load_of words
no_load words e = ap (λ o. option_map_or load_in o Usage) e

-- a command that is this one is the one that equals it
pub retold : {A E : Type 0} (x : Result A E) (f : A → Command) (a b : Command) → a ≡ b → IfOk x (λ c. f c ≡ a) → IfOk x (λ c. f c ≡ b)
retold (Ok c) f a b e h = h ∙ e
retold (Err x) f a b e h = tt
