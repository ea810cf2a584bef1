-- What the parts of a command mean, as the inner functions promise it to each other.
use Rattle.std.specs.Prelude.{◌≡◌, ◌⊎◌, ℕ, Bool, List, [], ◌∷◌, length, Option, Some, None, Result, Ok, Err}
use Rattle.c_tree.specs.declared.cause.ReadCause.{ReadCause}
use Rattle.c_tree.specs.declared.cause.FileCause.{FileCause}
use Rattle.c_tree.specs.declared.event.Event.{Event}
use Rattle.c_tree.specs.declared.lifted.Lifted.{Lifted}
use Rattle.c_tree.specs.declared.mapping.LEntry.{LEntry}
use Rattle.c_tree.specs.declared.mapping.Mapping.{Mapping}
use Rattle.c_tree.specs.declared.mapping.Patch as made
use Rattle.c_tree.specs.declared.run.Armed.{Armed}
use Rattle.c_tree.specs.declared.run.Settings.{Settings}
use Rattle.c_tree.specs.Entries.{Unsound}
use Rattle.c_tree.specs.Plan.{IsPlanned, refused_at}
use Rattle.c_tree.specs.Run.{first}
use Rattle.c_grammar.specs.Mapping.{IsMappingOf, IsMapFault}
use Rattle.c_source.specs.Source.{Judged}
use Rattle.command_line.specs.Command.{RunWords, UpdateWords}
use Rattle.history.specs.Listing.{IsListing}
use Rattle.patch_file.specs.Refused.{IsFileRefused, IsFirstDifference}
use Rattle.patch_file.specs.Whole.{IsFileOf}
use Rattle.answers.specs.Answer.{Answer}
use Rattle.upstare_cmd.specs.Asked.{TextNames, load_names}
use Rattle.upstare_cmd.specs.Meaning.{Loads, Tells, entries_of, load_patch, load_settings, picker_of, settings, was_short}
use Rattle.answers.specs.Refusals.{map_refused, refused}
use Rattle.upstare_cmd.specs.Replies.{map_unsound, patch_differs, patch_refused, schedule_refused}

-- What is meant where a source is judged: this, of its program, or the line of its refusal.
abbrev pub OfSource : List ℕ → List ℕ → (Lifted → Type 0) → Answer → Type 0
OfSource name source Taken a = Judged source Taken (λ at why. a ≡ refused name at why)

-- What is meant where a text is judged as a mapping: this, of the mapping that it is, or the line of its first fault.
abbrev pub OfMapping : List ℕ → List ℕ → (Mapping → Type 0) → Answer → Type 0
OfMapping name text Taken a =
    ((m : Mapping) × IsMappingOf text m × Taken m) ⊎ ((at : ℕ) × (why : ReadCause) × IsMapFault text at why × (a ≡ map_refused name at why))

-- What is meant where the bytes of a file are judged as a patch: this, of the patch that they are, or the line of why they are none.
abbrev pub OfFile : List ℕ → List ℕ → (made.Patch → Type 0) → Answer → Type 0
OfFile name bytes Taken a =
    ((p : made.Patch) × IsFileOf bytes p × Taken p) ⊎ ((at : ℕ) × (why : FileCause) × IsFileRefused bytes at why × (a ≡ patch_refused name at why))

-- What is meant of a patch: this, where its old source is this source, and else the line of where the two differ.
abbrev pub OfOld : List ℕ → List ℕ → made.Patch → Type 0 → Answer → Type 0
OfOld name source p Taken a =
    ((source ≡ p.old_text) × Taken) ⊎ ((at : ℕ) × IsFirstDifference at source p.old_text × (a ≡ patch_differs name (length source) (length p.old_text) at))

-- A run without a schedule: its events are planned, with an update that is refused for want of memory exactly where it was.
abbrev pub Picks : Settings → RunWords → Answer → Type 0
Picks k words a = (events : List Event) × IsPlanned k (was_short k events) (picker_of words.seed) events × Tells k words.history events a

-- A run by the text of a schedule: its events are listed, and are the run's; or the schedule is refused at the number n.
abbrev pub Listed : Settings → List ℕ → Option (List ℕ) → List Event → Option ℕ → Answer → Type 0
Listed k schedule name events None a = Tells k name events a
Listed k schedule name events (Some n) a = a ≡ schedule_refused schedule n

-- What a run by the text of a schedule means.
abbrev pub Lists : Settings → RunWords → List ℕ → List ℕ → Answer → Type 0
Lists k words schedule text a =
    (events : List Event) × (clean : Bool) × IsListing text events clean × Listed k schedule words.history events (refused_at k clean 1 (first k) events) a

-- A run without a schedule, or by the one text that is left.
abbrev pub Plans : Settings → RunWords → Option (List ℕ) → List (List ℕ) → Answer → Type 0
Plans k words None [] a = Picks k words a
Plans k words (Some name) (text ∷ []) a = Lists k words name text a
Plans k words schedule texts a = ⊥

-- The input is the first text where its file is named, and else it is empty; the other texts are left.
abbrev pub WithInput : Option (List ℕ) → List (List ℕ) → (List ℕ → List (List ℕ) → Type 0) → Type 0
WithInput None texts Means = Means [] texts
WithInput (Some name) [] Means = ⊥
WithInput (Some name) (input ∷ texts) Means = Means input texts

-- The update is by the first text where a patch is named, and else there is none; the other texts are left.
abbrev pub WithUpdate : Option UpdateWords → List ℕ → List (List ℕ) → (Option Armed → List (List ℕ) → Type 0) → Answer → Type 0
WithUpdate None source texts Means a = Means None texts
WithUpdate (Some update) source [] Means a = ⊥
WithUpdate (Some update) source (bytes ∷ texts) Means a =
    OfFile update.patch bytes (λ p. OfOld update.patch source p (Means (Some (record { patch = p; at = update.at })) texts) a) a

-- What the run of a program means, armed with an update or not, by the texts that are left.
abbrev pub ArmedMeans : RunWords → Lifted → Option Armed → List (List ℕ) → Answer → Type 0
ArmedMeans words p armed texts a = WithInput words.input texts (λ input rest. Plans (settings p armed input words.steps) words words.schedule rest a)

-- What a run of a source's program means, by the texts of the files that it reads beside the source.
abbrev pub ProgramMeans : RunWords → List ℕ → List (List ℕ) → Lifted → Answer → Type 0
ProgramMeans words source texts p a = WithUpdate words.update source texts (λ armed rest. ArmedMeans words p armed rest a) a

-- What is meant of an old source, a new one and a mapping, which are judged in this order: this, of the two programs and of what the
-- mapping's entries come to.
abbrev pub OfTexts : TextNames → List ℕ → List ℕ → List ℕ → (Lifted → Lifted → Result (List LEntry) Unsound → Type 0) → Answer → Type 0
OfTexts names old new mapping Taken a =
    OfSource names.old old (λ p. OfSource names.new new (λ q. OfMapping names.map mapping (λ m. Taken p q (entries_of p q m)) a) a) a

-- What is meant of what the entries of a mapping come to: this, or the line of the first unsound entry.
abbrev pub OfEntries : List ℕ → (List LEntry → Type 0) → Result (List LEntry) Unsound → Answer → Type 0
OfEntries name Taken (Ok entries) a = Taken entries
OfEntries name Taken (Err why) a = a ≡ map_unsound name why.entry why.cause
