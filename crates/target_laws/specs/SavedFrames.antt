-- Saved frames that can be rebuilt.
use Rattle.std.specs.Prelude.{◌≡◌, ℕ, List, [], ◌∷◌, slice_get, Option, Some}
use Rattle.c_tree.specs.declared.lifted.LExpr.{LExpr}
use Rattle.c_tree.specs.declared.lifted.LStmt.TheVariants as s
use Rattle.c_tree.specs.declared.lifted.Lifted.{Lifted}
use Rattle.c_tree.specs.declared.place.Act.TheVariants.{Do}
use Rattle.c_tree.specs.declared.place.Follow.TheVariants.{One}
use Rattle.c_tree.specs.declared.state.Frame.{Frame}
use Rattle.c_tree.specs.Layout.{place, place_at}
use Rattle.c_tree.specs.Step.{function_of}
use Rattle.target_code.specs.Between.{FitsFunction, Stands}
use Rattle.target_code.specs.Code.{marks}

-- a frame is at a call of this function
pub record AtCall (p : Lifted) (f : Frame) (callee : ℕ) : Type 0 where
  pub fits : FitsFunction p f
  pub to : Option ℕ
  pub args : List LExpr
  pub next : ℕ
  pub call : place_at (function_of p f.function) f.place ≡ place (Do (s.Call to callee args)) (One next)
  pub mark : ℕ
  pub mark_is : slice_get (marks (function_of p f.function)) f.place ≡ Some mark

-- frames from this one on, the outermost first: each is at a call of the next one's function, and the innermost is at a place
abbrev pub AreSoundFrom : Lifted → Frame → List Frame → Type 0
AreSoundFrom p f [] = (pc : ℕ) × Stands p f pc
AreSoundFrom p f (g ∷ rest) = AtCall p f g.function × AreSoundFrom p g rest

-- frames, the outermost first, can be rebuilt
abbrev pub AreSound : Lifted → List Frame → Type 0
AreSound p [] = ⊥
AreSound p (f ∷ rest) = AreSoundFrom p f rest
