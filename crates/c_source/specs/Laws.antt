-- What holds of every source.
use Rattle.std.specs.Prelude.{◌≡◌, ℕ, List}
use Rattle.c_tree.specs.declared.cause.SourceCause.{SourceCause}
use Rattle.c_tree.specs.declared.lifted.Lifted.{Lifted}
use Rattle.c_tree.specs.Formed.{IsFormed}
use Rattle.c_source.specs.Source.{IsAccepted, IsRefused}

-- The program of each accepted source is formed.
abbrev pub AcceptedIsFormed : Type 0
AcceptedIsFormed = (source : List ℕ) (p : Lifted) → IsAccepted source p → IsFormed p

-- A source has at most one verdict: one program, or one offset and cause.
pub record OneVerdict : Type 0 where
  pub one_program : (source : List ℕ) (p q : Lifted) → IsAccepted source p → IsAccepted source q → p ≡ q
  pub one_refusal : (source : List ℕ) (a b : ℕ) (c d : SourceCause) → IsRefused source a c → IsRefused source b d → (a ≡ b) × (c ≡ d)
  pub never_both : (source : List ℕ) (at : ℕ) (p : Lifted) (c : SourceCause) → IsAccepted source p → IsRefused source at c → ⊥
