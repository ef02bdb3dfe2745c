-- The names of a catalog are those that the lines of its text put into directories.
use Rattle.std.proofs.Common.{ℕ, ◌≡◌, ◌-◌, Bool, true, false, cond, List, [], ◌∷◌, ◌++◌, length, map, Option, Some, None, refl, sym, ap, subst, ◌∙◌, arith, length-append}
use Rattle.std.specs.Prelude.{find, slice_get, unwrap_or}
use Rattle.std.specs.List.{list_any}
use Rattle.std.proofs.lemmas.List.Folds.{find_at}
use Rattle.m36_text.specs.Texts.{is_text}
use Rattle.m36_text.specs.Lines.{last_of}
use Rattle.m36_dir.specs.declared.boot_line.BootLine.{BootLine}
use Rattle.m36_dir.specs.declared.boot_line.BootLine.TheVariants as line
use Rattle.m36_dir.specs.BootOrder.{Entry, entry, entries_from, is_segment_or_name, is_in_order_after, parsed_lines, well_formed_lines, first_code}
use Rattle.m36_dir.specs.Catalog.{CatalogFields, directories_from, directory_number_in, names_after, segments_in, catalog_in, catalog_of}
use Rattle.m36_dir.specs.IsCatalog.{entries_in, NamesAreThoseOfTheText}
use Rattle.m36_dir.proofs.CleanLines.{Clean, clean_from, passed, clean_begins}
use Rattle.m36_dir.proofs.Kept.{same_text, EachInDirectories, each_in, or_second, number_is, read_by}

-- ---- the directory of a number

first_if : (b : Bool) (d dir : List ℕ) (o : Option (List ℕ)) → is_text dir d ≡ b → (b ≡ false → unwrap_or o [] ≡ dir)
    → unwrap_or (cond b (Some d) o) [] ≡ dir
first_if true d dir o same later = sym (same_text dir d same)
first_if false d dir o other later = later refl

first_same : (dirs : List (List ℕ)) (dir : List ℕ) → list_any (is_text dir) dirs ≡ true → unwrap_or (find (is_text dir) dirs) [] ≡ dir
first_same [] dir e = absurd (cc)
first_same (d ∷ dirs) dir e =
    first_if (is_text dir d) d dir (find (is_text dir) dirs) refl
    (λ other. first_same dirs dir (or_second (is_text dir d) (list_any (is_text dir) dirs) e other))

own_directory : (dirs : List (List ℕ)) (dir : List ℕ) → list_any (is_text dir) dirs ≡ true
    → unwrap_or (slice_get dirs (directory_number_in dirs dir)) [] ≡ dir
own_directory dirs dir has =
    ap (λ (n : ℕ). unwrap_or (slice_get dirs n) []) (number_is dirs dir has)
    ∙ ap (λ (o : Option (List ℕ)). unwrap_or o []) (sym (find_at (is_text dir) dirs))
    ∙ first_same dirs dir has

-- ---- names that follow a segment line or a name directly

at_end : (above : List BootLine) (l : BootLine) → slice_get (above ++ l ∷ []) (length above) ≡ Some l
at_end [] l = refl
at_end (x ∷ above) l = at_end above l

last_is : (above : List BootLine) (l : BootLine) → last_of (above ++ l ∷ []) ≡ Some l
last_is above l =
    let end : length (above ++ l ∷ []) - 1 ≡ length above = omega (arith, length-append above (l ∷ [])) in
    ap (slice_get (above ++ l ∷ [])) end ∙ at_end above l

none_behind : (all above : List BootLine) (l : BootLine) (lines : List BootLine) → is_segment_or_name l ≡ false → Clean all (above ++ l ∷ []) lines
    → names_after lines ≡ []
unfolding names_after
none_behind all above l [] neither clean = refl
none_behind all above l (line.Name name ∷ lines) neither clean =
    let order = (passed all (above ++ l ∷ []) (line.Name name) clean.0).order in
    let last : is_in_order_after (last_of (above ++ l ∷ [])) (line.Name name) ≡ is_segment_or_name l =
    ap (λ (before : Option BootLine). is_in_order_after before (line.Name name)) (last_is above l) in
    let h : true ≡ false = sym order ∙ last ∙ neither in
    absurd (cc)
none_behind all above l (line.Frames n ∷ lines) neither clean = refl
none_behind all above l (line.Work dir ∷ lines) neither clean = refl
none_behind all above l (line.Library dir ∷ lines) neither clean = refl
none_behind all above l (line.Segment given ∷ lines) neither clean = refl
none_behind all above l (line.Start start ∷ lines) neither clean = refl

-- ---- the names

-- the names that lines put into directories, if the directory of the last segment line above is
-- `dir`
abbrev AreNames : List (List ℕ) → List ℕ → List BootLine → Type 0
AreNames dirs dir lines =
    map (entry dir) (names_after lines) ++ entries_in dirs (segments_in dirs lines) ≡ entries_from dir lines

past : (all above : List BootLine) (l : BootLine) (lines : List BootLine) (dirs : List (List ℕ)) (dir : List ℕ)
    → is_segment_or_name l ≡ false → Clean all (above ++ l ∷ []) lines → AreNames dirs dir lines
    → entries_in dirs (segments_in dirs lines) ≡ entries_from dir lines
past all above l lines dirs dir neither clean are =
    sym (ap (λ (names : List (List ℕ)). map (entry dir) names ++ entries_in dirs (segments_in dirs lines)) (none_behind all above l lines neither clean)) ∙ are

each_name : (all above lines : List BootLine) (dirs : List (List ℕ)) (dir : List ℕ) → Clean all above lines → EachInDirectories dirs lines
    → AreNames dirs dir lines
unfolding names_after segments_in entries_from
each_name all above [] dirs dir clean has = refl
each_name all above (line.Segment given ∷ lines) dirs dir clean has =
    ap (λ (d : List ℕ). entry d given.name ∷ map (entry d) (names_after lines) ++ entries_in dirs (segments_in dirs lines)) (own_directory dirs given.dir has.0)
    ∙ ap (λ (es : List Entry). entry given.dir given.name ∷ es) (each_name all (above ++ line.Segment given ∷ []) lines dirs given.dir clean.1 has.1)
each_name all above (line.Name name ∷ lines) dirs dir clean has =
    ap (λ (es : List Entry). entry dir name ∷ es) (each_name all (above ++ line.Name name ∷ []) lines dirs dir clean.1 has.1)
each_name all above (line.Frames n ∷ lines) dirs dir clean has =
    past all above (line.Frames n) lines dirs dir refl clean.1 (each_name all (above ++ line.Frames n ∷ []) lines dirs dir clean.1 has.1)
each_name all above (line.Work d ∷ lines) dirs dir clean has =
    past all above (line.Work d) lines dirs dir refl clean.1 (each_name all (above ++ line.Work d ∷ []) lines dirs dir clean.1 has.1)
each_name all above (line.Library d ∷ lines) dirs dir clean has =
    past all above (line.Library d) lines dirs dir refl clean.1 (each_name all (above ++ line.Library d ∷ []) lines dirs dir clean.1 has.1)
each_name all above (line.Start start ∷ lines) dirs dir clean has =
    past all above (line.Start start) lines dirs dir refl clean.1 (each_name all (above ++ line.Start start ∷ []) lines dirs dir clean.1 has.1)

names_of_lines : (lines : List BootLine) → Clean lines [] lines
    → entries_in (directories_from [] lines) (segments_in (directories_from [] lines) lines) ≡ entries_from [] lines
unfolding names_after
names_of_lines lines clean =
    let dirs : List (List ℕ) = directories_from [] lines in
    let none : names_after lines ≡ [] = ap names_after (clean_begins lines clean).are in
    sym (ap (λ (names : List (List ℕ)). map (entry []) names ++ entries_in dirs (segments_in dirs lines)) none)
    ∙ each_name lines [] lines dirs [] clean (each_in [] lines)

abbrev StandIn : List ℕ → CatalogFields → Type 0
StandIn text c = entries_in c.directories c.segments ≡ entries_from [] (well_formed_lines text)

names_of_text : (text : List ℕ) → first_code text ≡ None → StandIn text (catalog_in (well_formed_lines text))
unfolding first_code well_formed_lines parsed_lines catalog_in
names_of_text text none =
    names_of_lines (well_formed_lines text) (clean_from (well_formed_lines text) [] (parsed_lines text) 1 none)

pub names_stand : NamesAreThoseOfTheText
unfolding catalog_of
names_stand text c e =
    let read = read_by (first_code text) (catalog_in (well_formed_lines text)) c e in
    subst (StandIn text) read.1 (names_of_text text read.0)
