-- What is played once files were read is played from the start: reading leaves what was there to be played to.
use Rattle.std.proofs.Common.{ℕ, ap, subst, ◌∙◌}
use Rattle.std.specs.Prelude.{Option}
use Rattle.up_base.specs.Outside.{Contents, Shelf, Sunk}
use Rattle.up_base.specs.declared.reading.Reading.{Reading}
use Rattle.answers.specs.Answer.{World, world, Answer, Plays, played, broke, starved, GaveUp, told, Piece, ToOut, ToFile, FaultAt}
use Rattle.answers.specs.Views.{Rereads}

-- the same shelf, with other counts
abbrev shelf : Option Contents → Reading → ℕ → Shelf
shelf held reading writes = record { held = held; reading = reading; write_faults = writes }

at_fault : (p : Piece) (h : Option Contents) (r r' : Reading) (n : ℕ) (o : Sunk) (f : Shelf) (o' : Sunk) → FaultAt p (shelf h r n) o f o' → FaultAt p (shelf h r' n) o f o'
at_fault (ToOut text) h r r' n o f o' fault = fault
at_fault (ToFile name text) h r r' n o f o' fault = fault

recounted : (a : Answer) (h : Option Contents) (r r' : Reading) (n : ℕ) (o e : Sunk) (w : World) (status : ℕ)
    → Plays a (world (shelf h r n) o e) w status → Plays a (world (shelf h r' n) o e) w status
recounted a h r r' n o e w status (played same said) = played same said
recounted a h r r' n o e w status (broke p ends fault said) = broke p ends (at_fault p h r r' n o w.files w.out fault) said
recounted a h r r' n o e w status (starved p ends said) = starved p ends said

-- Reading leaves what was there to be played to.
pub from_start : (a : Answer) (f g : Shelf) (o e : Sunk) (w : World) (status : ℕ) → Rereads f g → Plays a (world g o e) w status → Plays a (world f o e) w status
from_start a f g o e w status reads plays =
    let P : Option Contents → Type 0 = λ h. Plays a (world (shelf h f.reading g.write_faults) o e) w status in
    let Q : ℕ → Type 0 = λ n. Plays a (world (shelf f.held f.reading n) o e) w status in
    subst Q reads.writes (subst P reads.held (recounted a g.held g.reading f.reading g.write_faults o e w status plays))

pub gave_up_from_start : (f g : Shelf) (o e : Sunk) (w : World) (status : ℕ) → Rereads f g → GaveUp (world g o e) w status → GaveUp (world f o e) w status
gave_up_from_start f g o e w status reads gave = record { same = gave.same ∙ ap (λ (h : Option Contents). told (world (shelf h f.reading f.write_faults) o e)) reads.held; said = gave.said }
