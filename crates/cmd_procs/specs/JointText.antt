-- The text of a joint audit, each line one piece: the line `audit yes`, or a line for each finding.
-- The line of a finding of a process has the number of the process, the condition and the place in
-- octal, as in `audit no 1 A3 00000100`. The line of a finding between processes has the condition
-- and the core word, as in `audit no J2 00000060`.
use Rattle.std.specs.Prelude.{ℕ, List, [], ◌∷◌, ◌++◌, codes, Option, Some, None}
use Rattle.m36_outside.specs.Passing.{joined}
use Rattle.m36_text.specs.Digits.{decimal_text, core_word_digits}
use Rattle.m36_text.specs.Lines.{as_line}
use Rattle.m36_model.specs.JointAudit.{JointFindingFields}
use Rattle.cmd_image.specs.AuditText.{place_text, finding_text, lines_or_yes}

-- the line of a finding of a process, without its line feed
unfoldable pub process_line : ℕ → ℕ → ℕ → List ℕ
process_line process condition place =
    codes "audit no " ++ decimal_text process ++ codes " A" ++ finding_text condition place

-- the line of a finding between processes, without its line feed
unfoldable pub between_line : ℕ → ℕ → List ℕ
between_line condition place = codes "audit no J" ++ place_text condition core_word_digits place

-- the line of a finding: with the number of its process, or between processes if it has none
abbrev pub process_or_between_line : Option ℕ → ℕ → ℕ → List ℕ
process_or_between_line (Some process) condition place = process_line process condition place
process_or_between_line None condition place = between_line condition place

-- the line of a finding of a joint audit, without its line feed
abbrev pub joint_finding_line : JointFindingFields → List ℕ
joint_finding_line f = process_or_between_line f.process f.condition f.place

-- a line for each finding, in the order of the findings
unfoldable pub joint_finding_pieces : List JointFindingFields → List (List ℕ)
joint_finding_pieces [] = []
joint_finding_pieces (f ∷ findings) = as_line (joint_finding_line f) ∷ joint_finding_pieces findings

-- the lines of a joint audit with these findings
abbrev pub joint_audit_pieces : List JointFindingFields → List (List ℕ)
joint_audit_pieces findings = lines_or_yes joint_finding_pieces findings

-- the text of a joint audit: its lines, one after another
abbrev pub joint_audit_text : List JointFindingFields → List ℕ
joint_audit_text findings = joined (joint_audit_pieces findings)
