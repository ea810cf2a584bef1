-- The link that matches of all kinds make.
use Rattle.c_tree.specs.declared.lifted.Lifted.{Lifted}
use Rattle.c_tree.specs.Link.{Link}
use Rattle.patch_match.specs.declared.matches.Matches.{Matches}

-- the link of two programs by the matches of each kind
abbrev pub linking : Lifted → Lifted → Matches → Link
linking old new m = record {
  old = old;
  new = new;
  functions = m.functions.items;
  structs = m.structs.items;
  globals = m.globals.items;
  mutexes = m.mutexes.items;
}
