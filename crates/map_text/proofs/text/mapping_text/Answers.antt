use Rattle.std.proofs.Common.{◌∙◌, ◌++◌, ap}
use Rattle.std.specs.List.{flat_map}
use Rattle.map_text.specs.Lines.{line}
use Rattle.map_text.proofs.text.mapping_text.Goals as goal

pub returns : goal.returns
returns c =
    c.in_ok-append_lines.ensures
    ∙ (ap (λ xs. xs ++ flat_map (line c.in_ok-programs.programs) c.args.entries.now) c.new-out.ensures.items
    ∙ ap (λ k. flat_map (line k) c.args.entries.now) c.in_ok-programs.ensures)
