use Rattle.patch_file.proofs.Answers.{one_answer}
use Rattle.patch_file.proofs.laws.bytes_have_one_answer.Goals as goal

pub returns : goal.returns
returns c =
    let frame = c.no_text_has_two_answers.ensures in
    one_answer (record {
      source = c.a_source_has_one_verdict.ensures;
      mapping = c.a_mapping_has_one_answer.ensures.mapping;
      first_mapping = c.a_mapping_has_one_answer.ensures.first;
      first = c.first_mappings_are_mappings.ensures;
      single = c.mappings_of_one_part_are_first.ensures;
      canonical = c.canonical_text_reads_back.ensures;
      texts = frame.texts;
      not_short = frame.not_short;
      not_bad = frame.not_bad;
      short = frame.short;
      offset = frame.offset;
    })
