-- A run of one part, by its settings and its events.
use Rattle.std.proofs.Common.{◌≡◌, ◌∙◌, [], Some, sym, ap}
use Rattle.c_tree.specs.Run.{run, run_from}
use Rattle.world_core.specs.History.{History, IsRun, core, first_from, single}

pub single_is : (h : History) → h.earlier ≡ [] → h ≡ single h.settings h.events
single_is h one = ap (λ ps. let g : History = record { earlier = ps; settings = h.settings; events = h.events } in g) one

pub run_single : (h : History) → h.earlier ≡ [] → IsRun h → run h.settings h.events ≡ Some (core h)
run_single h one leads = ap (λ ps. run_from h.settings (first_from ps h.settings) h.events) (sym one) ∙ leads
