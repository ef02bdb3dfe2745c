use Rattle.std.proofs.Common.{ap}
use Rattle.m36_model.specs.Audit.{numbered_finding}
use Rattle.m36_audit.specs.Findings.{finding_pairs}
use Rattle.m36_audit.proofs.Conditions.{two_tables}
use Rattle.m36_audit.proofs.Verdicts.{six_notes}
use Rattle.m36_audit.proofs.auditor.findings_from_marks.Goals as goal

pub returns : goal.returns
returns c = record {
  first = c.first_segment-first.result;
  finds_first = c.first_segment-first.ensures;
  second = c.args.marks.now.least;
  finds_second = two_tables c.args.core.now c.args.dbr c.args.marks.now.tables c.args.marks.now.least c.requires.marked;
  third = c.first_table_and_segment_word-third.result;
  finds_third = c.first_table_and_segment_word-third.ensures;
  fourth = c.first_word_in_two_segments-fourth.result;
  finds_fourth = c.first_word_in_two_segments-fourth.ensures;
  fifth = c.first_segment-fifth.result;
  finds_fifth = c.first_segment-fifth.ensures;
  sixth = c.first_segment-sixth.result;
  finds_sixth = c.first_segment-sixth.ensures;
  listed = six_notes (finding_pairs c.new-findings.result.items) (finding_pairs c.note.new.findings.items) (finding_pairs c.note-2.new.findings.items) (finding_pairs c.note-3.new.findings.items) (finding_pairs c.note-4.new.findings.items) (finding_pairs c.note-5.new.findings.items) (finding_pairs c.note-6.new.findings.items) (numbered_finding 1 c.first_segment-first.result) (numbered_finding 2 c.args.marks.now.least) (numbered_finding 3 c.first_table_and_segment_word-third.result) (numbered_finding 4 c.first_word_in_two_segments-fourth.result) (numbered_finding 5 c.first_segment-fifth.result) (numbered_finding 6 c.first_segment-sixth.result) (ap finding_pairs c.new-findings.ensures) c.note.ensures.listed c.note-2.ensures.listed c.note-3.ensures.listed c.note-4.ensures.listed c.note-5.ensures.listed c.note-6.ensures.listed;
}
