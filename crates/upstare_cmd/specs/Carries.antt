-- What a call of the tool does.
use Rattle.std.specs.Prelude.{◌≡◌, ℕ, List}
use Rattle.up_base.specs.Outside.{Shelf}
use Rattle.answers.specs.Answer.{World, Answer, Plays, GaveUp}
use Rattle.upstare_cmd.specs.Job.{Job}
use Rattle.answers.specs.Reading.{AreRead, Begins, Stops}

-- A file ends the call; or all were read, and this is meant.
pub data Intends (j : Job) (before now : Shelf) (a : Answer) : Type 0 where
  stops : Stops j.wanted before.held before.reading now.reading a → Intends j before now a
  means : (texts : List (List ℕ)) → AreRead j.wanted before.held before.reading texts now.reading → j.Means texts a → Intends j before now a

-- What a call does: it plays an answer that is meant; or it gives up for want of memory before anything was put, and has read no
-- other files than those that are wanted, each once at most.
pub data Carries (j : Job) (v w : World) (status : ℕ) : Type 0 where
  answers : (a : Answer) → Intends j v.files w.files a → Plays a v w status → Carries j v w status
  gives_up : Begins j.wanted v.files.reading w.files.reading → GaveUp v w status → Carries j v w status
