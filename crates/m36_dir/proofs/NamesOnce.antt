-- No name occurs twice in a directory of a catalog.
use Rattle.std.proofs.Common.{ℕ, ◌≡◌, true, List, [], ◌∷◌, ◌++◌, None, refl, sym, ap, ◌∙◌, append_assoc}
use Rattle.std.proofs.lemmas.List.{append-nil}
use Rattle.m36_text.specs.Once.{are_distinct_by}
use Rattle.m36_dir.specs.declared.boot_line.BootLine.{BootLine}
use Rattle.m36_dir.specs.declared.boot_line.BootLine.TheVariants as line
use Rattle.m36_dir.specs.BootOrder.{Entry, entry, is_same_entry, directory_after, directory_at_end, entries_of_line, entries_from, has_entry, code_of, parsed_lines, well_formed_lines, first_code}
use Rattle.m36_dir.specs.Catalog.{catalog_in, catalog_of}
use Rattle.m36_dir.specs.IsCatalog.{NamesOnce}
use Rattle.m36_dir.proofs.CleanLines.{Clean, clean_from, passed}
use Rattle.m36_dir.proofs.Kept.{read_by}
use Rattle.m36_dir.proofs.NamesAreThoseOfTheText.{names_stand}
use Rattle.m36_dir.proofs.Distinct.{distinct_more, entry_symm}

-- what one line more puts into directories
entries_more : (dir : List ℕ) (above : List BootLine) (l : BootLine)
    → entries_from dir (above ++ l ∷ []) ≡ entries_from dir above ++ entries_of_line (directory_at_end dir above) l
unfolding entries_from directory_at_end
entries_more dir [] l = append-nil (entries_of_line dir l)
entries_more dir (x ∷ above) l =
    ap (λ (es : List Entry). entries_of_line dir x ++ es) (entries_more (directory_after dir x) above l)
    ∙ sym (append_assoc (entries_of_line dir x) (entries_from (directory_after dir x) above) (entries_of_line (directory_at_end (directory_after dir x) above) l))

-- no name occurs twice among those that lines put there
abbrev AreOnce : List BootLine → Type 0
AreOnce lines = are_distinct_by is_same_entry (entries_from [] lines) ≡ true

none_more : (above : List BootLine) (l : BootLine) → entries_of_line (directory_at_end [] above) l ≡ [] → AreOnce above → AreOnce (above ++ l ∷ [])
none_more above l none once =
    ap (λ (es : List Entry). are_distinct_by is_same_entry es)
    (entries_more [] above l ∙ ap (λ (es : List Entry). entries_from [] above ++ es) none ∙ append-nil (entries_from [] above))
    ∙ once

line_more : (all above : List BootLine) (l : BootLine) → code_of all above l ≡ None → AreOnce above → AreOnce (above ++ l ∷ [])
unfolding has_entry
line_more all above (line.Segment given) none once =
    ap (λ (es : List Entry). are_distinct_by is_same_entry es) (entries_more [] above (line.Segment given))
    ∙ distinct_more is_same_entry entry_symm (entries_from [] above) (entry given.dir given.name) once (passed all above (line.Segment given) none).once
line_more all above (line.Name name) none once =
    ap (λ (es : List Entry). are_distinct_by is_same_entry es) (entries_more [] above (line.Name name))
    ∙ distinct_more is_same_entry entry_symm (entries_from [] above) (entry (directory_at_end [] above) name) once (passed all above (line.Name name) none).once
line_more all above (line.Frames n) none once = none_more above (line.Frames n) refl once
line_more all above (line.Work dir) none once = none_more above (line.Work dir) refl once
line_more all above (line.Library dir) none once = none_more above (line.Library dir) refl once
line_more all above (line.Start start) none once = none_more above (line.Start start) refl once

lines_more : (all above lines : List BootLine) → Clean all above lines → AreOnce above → AreOnce (above ++ lines)
lines_more all above [] clean once =
    ap (λ (ls : List BootLine). are_distinct_by is_same_entry (entries_from [] ls)) (append-nil above) ∙ once
lines_more all above (l ∷ lines) clean once =
    ap (λ (ls : List BootLine). are_distinct_by is_same_entry (entries_from [] ls)) (sym (append_assoc above (l ∷ []) lines))
    ∙ lines_more all (above ++ l ∷ []) lines clean.1 (line_more all above l clean.0 once)

no_lines : AreOnce []
unfolding entries_from
no_lines = refl

once_of_text : (text : List ℕ) → first_code text ≡ None → AreOnce (well_formed_lines text)
unfolding first_code well_formed_lines parsed_lines
once_of_text text none =
    lines_more (well_formed_lines text) [] (well_formed_lines text) (clean_from (well_formed_lines text) [] (parsed_lines text) 1 none) no_lines

pub names_once : NamesOnce
unfolding catalog_of
names_once text c e =
    let read = read_by (first_code text) (catalog_in (well_formed_lines text)) c e in
    ap (λ (es : List Entry). are_distinct_by is_same_entry es) (names_stand text c e) ∙ once_of_text text read.0
