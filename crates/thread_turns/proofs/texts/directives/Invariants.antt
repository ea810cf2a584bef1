use Rattle.std.proofs.Common.{◌≡◌, ◌≤◌, drop}
use Rattle.c_tree.specs.Typing.{directives}
use Rattle.thread_turns.proofs.TextLemmas.{added, left}
use Rattle.thread_turns.proofs.texts.directives.Given as goal

abbrev pub invariant-loop-b : goal.invariant-loop-b
invariant-loop-b l = record {
  few : l.count ≤ l.b-index;
  so_far : directives l.text ≡ added l.count (left l.is_open (drop l.b-index l.text));
}
