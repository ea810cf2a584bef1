-- What the links of patches have in common.
use Rattle.std.specs.Prelude.{◌≡◌, length}
use Rattle.c_tree.specs.Link.{Link}

-- for each old thing the link has a match, or that there is none
pub record IsWhole (k : Link) : Type 0 where
  pub functions : length k.functions ≡ length k.old.functions
  pub structs : length k.structs ≡ length k.old.structs
  pub globals : length k.globals ≡ length k.old.globals
  pub mutexes : length k.mutexes ≡ length k.old.mutexes
