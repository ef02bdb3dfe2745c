-- A catalog that was read has the invariant of catalogs.
use Rattle.std.proofs.Common.{ℕ, ◌≡◌, ◌+◌, ◌<◌, ◌≤◌, Bool, true, false, cond, List, [], ◌∷◌, ◌++◌, length, Option, Some, None, Ok, refl, sym, ap, subst, ◌∙◌, ⊎_elim, arith, length-append}
use Rattle.std.specs.Prelude.{not, ◌||◌, nat_le, nat_eq, count_by, slice_get, All, unwrap_or}
use Rattle.std.specs.List.{list_any, position_or_len}
use Rattle.std.proofs.lemmas.Bool.{not-false, lt-ltb, leb-true, eqb-true, eq-eqb, and_parts, and_from, or_cases, or_left, or_right, or_parts}
use Rattle.std.proofs.lemmas.List.Folds.{list_any-append}
use Rattle.std.proofs.lemmas.List.Elements.{All-nil, All-cons}
use Rattle.m36_text.specs.Texts.{is_text}
use Rattle.m36_text.specs.Lines.{lines_of}
use Rattle.m36_dir.specs.declared.boot_code.BootCode.{BootCode}
use Rattle.m36_dir.specs.declared.boot_line.BootLine.{BootLine}
use Rattle.m36_dir.specs.declared.boot_line.BootLine.TheVariants as line
use Rattle.m36_dir.specs.Fields.{SegmentLineFields}
use Rattle.m36_dir.specs.BootOrder.{is_segment, is_library, is_in_directory, has_directory, brackets_in_order, is_no_gate, code_of, parsed_lines, well_formed_lines, first_code}
use Rattle.m36_dir.specs.Catalog.{CatalogFields, with_directory, with_directory_of, directories_from, directory_number_in, names_after, segment_with, segments_in, libraries_in, frames_of, working_directory_of, catalog_in, catalog_or_fault, catalog_of}
use Rattle.m36_dir.specs.IsCatalog.{IsSegment, IsCatalog, ReadsIntoCatalogs}
use Rattle.m36_dir.proofs.CleanLines.{Clean, clean_from, passed, segments_counted, libraries_counted, names_snoc, names_few, count_cons, Begins, clean_begins}
use Rattle.m36_dir.proofs.LineBounds.{EachLine, each_line}

-- ---- texts that are the same

pub same_text : (a b : List ℕ) → is_text a b ≡ true → a ≡ b
same_text [] [] e = refl
same_text [] (y ∷ b) e = absurd (cc)
same_text (x ∷ a) [] e = absurd (cc)
same_text (x ∷ a) (y ∷ b) e =
    let both = and_parts (nat_eq y x) (is_text a b) e in
    let first : y ≡ x = eqb-true y x both.0 in
    λ i. sym first i ∷ same_text a b both.1 i

pub itself : (a : List ℕ) → is_text a a ≡ true
itself [] = refl
itself (x ∷ a) = and_from (nat_eq x x) (is_text a a) (eq-eqb x x refl) (itself a)

-- ---- directories

-- a directory that passes a test is still there if more are added
dirs_kept_if : (b : Bool) (p : List ℕ → Bool) (dirs : List (List ℕ)) (dir : List ℕ) → list_any p dirs ≡ true
    → list_any p (cond b dirs (dirs ++ dir ∷ [])) ≡ true
dirs_kept_if true p dirs dir has = has
dirs_kept_if false p dirs dir has =
    list_any-append p dirs (dir ∷ []) ∙ or_left (list_any p dirs) (list_any p (dir ∷ [])) has

dirs_kept_by : (p : List ℕ → Bool) (dirs : List (List ℕ)) (l : BootLine) → list_any p dirs ≡ true → list_any p (with_directory_of dirs l) ≡ true
dirs_kept_by p dirs (line.Segment given) has = dirs_kept_if (list_any (is_text given.dir) dirs) p dirs given.dir has
dirs_kept_by p dirs (line.Frames n) has = has
dirs_kept_by p dirs (line.Work dir) has = has
dirs_kept_by p dirs (line.Library dir) has = has
dirs_kept_by p dirs (line.Name name) has = has
dirs_kept_by p dirs (line.Start start) has = has

dirs_kept : (p : List ℕ → Bool) (dirs : List (List ℕ)) (lines : List BootLine) → list_any p dirs ≡ true → list_any p (directories_from dirs lines) ≡ true
unfolding directories_from
dirs_kept p dirs [] has = has
dirs_kept p dirs (l ∷ lines) has = dirs_kept p (with_directory_of dirs l) lines (dirs_kept_by p dirs l has)

dirs_have_if : (b : Bool) (dirs : List (List ℕ)) (dir : List ℕ) → list_any (is_text dir) dirs ≡ b
    → list_any (is_text dir) (cond b dirs (dirs ++ dir ∷ [])) ≡ true
dirs_have_if true dirs dir e = e
dirs_have_if false dirs dir e =
    list_any-append (is_text dir) dirs (dir ∷ [])
    ∙ or_right (list_any (is_text dir) dirs) (list_any (is_text dir) (dir ∷ [])) (or_left (is_text dir dir) false (itself dir))

dirs_have : (dirs : List (List ℕ)) (dir : List ℕ) → list_any (is_text dir) (with_directory dirs dir) ≡ true
dirs_have dirs dir = dirs_have_if (list_any (is_text dir) dirs) dirs dir refl

-- the directory of a segment line is among them
abbrev pub InDirectories : List (List ℕ) → BootLine → Type 0
InDirectories dirs (line.Segment given) = list_any (is_text given.dir) dirs ≡ true
InDirectories dirs _ = Unit {0}

abbrev pub EachInDirectories : List (List ℕ) → List BootLine → Type 0
EachInDirectories dirs [] = Unit {0}
EachInDirectories dirs (l ∷ lines) = InDirectories dirs l × EachInDirectories dirs lines

pub each_in : (dirs : List (List ℕ)) (lines : List BootLine) → EachInDirectories (directories_from dirs lines) lines
unfolding directories_from
each_in dirs [] = tt
each_in dirs (line.Segment given ∷ lines) =
    (dirs_kept (is_text given.dir) (with_directory dirs given.dir) lines (dirs_have dirs given.dir), each_in (with_directory dirs given.dir) lines)
each_in dirs (line.Frames n ∷ lines) = (tt, each_in dirs lines)
each_in dirs (line.Work dir ∷ lines) = (tt, each_in dirs lines)
each_in dirs (line.Library dir ∷ lines) = (tt, each_in dirs lines)
each_in dirs (line.Name name ∷ lines) = (tt, each_in dirs lines)
each_in dirs (line.Start start ∷ lines) = (tt, each_in dirs lines)

-- a directory that a segment line has is among them
has_in_at : (dir : List ℕ) (dirs : List (List ℕ)) (given : SegmentLineFields) (lines : List BootLine) → is_text dir given.dir ≡ true
    → list_any (is_text dir) (directories_from (with_directory dirs given.dir) lines) ≡ true
has_in_at dir dirs given lines e =
    let same : given.dir ≡ dir = sym (same_text dir given.dir e) in
    let P : List ℕ → Type 0 = λ d. list_any (is_text d) (with_directory dirs given.dir) ≡ true in
    dirs_kept (is_text dir) (with_directory dirs given.dir) lines (subst P same (dirs_have dirs given.dir))

has_in : (dir : List ℕ) (dirs : List (List ℕ)) (lines : List BootLine) → list_any (is_in_directory dir) lines ≡ true
    → list_any (is_text dir) (directories_from dirs lines) ≡ true
unfolding directories_from
has_in dir dirs [] e = absurd (cc)
has_in dir dirs (line.Segment given ∷ lines) e =
    ⊎_elim (λ here. has_in_at dir dirs given lines here) (λ later. has_in dir (with_directory dirs given.dir) lines later)
    (or_cases (is_text dir given.dir) (list_any (is_in_directory dir) lines) e)
has_in dir dirs (line.Frames n ∷ lines) e = has_in dir dirs lines e
has_in dir dirs (line.Work d ∷ lines) e = has_in dir dirs lines e
has_in dir dirs (line.Library d ∷ lines) e = has_in dir dirs lines e
has_in dir dirs (line.Name name ∷ lines) e = has_in dir dirs lines e
has_in dir dirs (line.Start start ∷ lines) e = has_in dir dirs lines e

place_if : (b : Bool) (rest count : ℕ) → (b ≡ false → rest < count) → cond (not b) (1 + rest) 0 < 1 + count
place_if true rest count later = omega arith
place_if false rest count later = let h = later refl in omega arith

pub or_second : (a b : Bool) → (a || b) ≡ true → a ≡ false → b ≡ true
or_second true b e f = absurd (cc)
or_second false b e f = e

place_inside : {X : Type 0} (p : X → Bool) (xs : List X) → list_any p xs ≡ true → position_or_len p xs < length xs
place_inside p [] e = absurd (cc)
place_inside p (x ∷ xs) e =
    let here = place_if (p x) (position_or_len p xs) (length xs) (λ no. place_inside p xs (or_second (p x) (list_any p xs) e no)) in
    omega (arith, here)

pub number_is : (dirs : List (List ℕ)) (dir : List ℕ) → list_any (is_text dir) dirs ≡ true → directory_number_in dirs dir ≡ position_or_len (is_text dir) dirs
unfolding directory_number_in
number_is dirs dir has =
    ap (λ b. unwrap_or (cond b (Some (position_or_len (is_text dir) dirs)) None) 0)
    (lt-ltb (position_or_len (is_text dir) dirs) (length dirs) (place_inside (is_text dir) dirs has))

number_inside : (dirs : List (List ℕ)) (dir : List ℕ) → list_any (is_text dir) dirs ≡ true → directory_number_in dirs dir < length dirs
number_inside dirs dir has = omega (arith, number_is dirs dir has, place_inside (is_text dir) dirs has)

directory_inside : (lines : List BootLine) (dir : List ℕ) → has_directory lines dir ≡ true
    → directory_number_in (directories_from [] lines) dir < length (directories_from [] lines)
unfolding has_directory
directory_inside lines dir e = number_inside (directories_from [] lines) dir (has_in dir [] lines e)

dirs_length_if : (b : Bool) (dirs : List (List ℕ)) (dir : List ℕ) → length (cond b dirs (dirs ++ dir ∷ [])) ≤ length dirs + 1
dirs_length_if true dirs dir = omega arith
dirs_length_if false dirs dir = omega (arith, length-append dirs (dir ∷ []))

dirs_length : (dirs : List (List ℕ)) (lines : List BootLine) → length (directories_from dirs lines) ≤ length dirs + count_by is_segment lines
unfolding directories_from
dirs_length dirs [] = omega arith
dirs_length dirs (line.Segment given ∷ lines) =
    let one = dirs_length_if (list_any (is_text given.dir) dirs) dirs given.dir in
    let more = dirs_length (with_directory dirs given.dir) lines in
    let counted = count_cons is_segment (line.Segment given) lines in
    omega (arith, one, more, counted)
dirs_length dirs (line.Frames n ∷ lines) =
    let one = count_cons is_segment (line.Frames n) lines in
    omega (arith, one, dirs_length dirs lines)
dirs_length dirs (line.Work dir ∷ lines) =
    let one = count_cons is_segment (line.Work dir) lines in
    omega (arith, one, dirs_length dirs lines)
dirs_length dirs (line.Library dir ∷ lines) =
    let one = count_cons is_segment (line.Library dir) lines in
    omega (arith, one, dirs_length dirs lines)
dirs_length dirs (line.Name name ∷ lines) =
    let one = count_cons is_segment (line.Name name) lines in
    omega (arith, one, dirs_length dirs lines)
dirs_length dirs (line.Start start ∷ lines) =
    let one = count_cons is_segment (line.Start start) lines in
    omega (arith, one, dirs_length dirs lines)

-- ---- counts

some_segment : (dir : List ℕ) (lines : List BootLine) → list_any (is_in_directory dir) lines ≡ true → 1 ≤ count_by is_segment lines
some_segment dir [] e = absurd (cc)
some_segment dir (line.Segment given ∷ lines) e =
    let one = count_cons is_segment (line.Segment given) lines in
    omega (arith, one)
some_segment dir (line.Frames n ∷ lines) e =
    let one = count_cons is_segment (line.Frames n) lines in
    omega (arith, one, some_segment dir lines e)
some_segment dir (line.Work d ∷ lines) e =
    let one = count_cons is_segment (line.Work d) lines in
    omega (arith, one, some_segment dir lines e)
some_segment dir (line.Library d ∷ lines) e =
    let one = count_cons is_segment (line.Library d) lines in
    omega (arith, one, some_segment dir lines e)
some_segment dir (line.Name name ∷ lines) e =
    let one = count_cons is_segment (line.Name name) lines in
    omega (arith, one, some_segment dir lines e)
some_segment dir (line.Start start ∷ lines) e =
    let one = count_cons is_segment (line.Start start) lines in
    omega (arith, one, some_segment dir lines e)

pub segments_length : (dirs : List (List ℕ)) (lines : List BootLine) → length (segments_in dirs lines) ≡ count_by is_segment lines
unfolding segments_in
segments_length dirs [] = refl
segments_length dirs (line.Segment given ∷ lines) =
    let one = count_cons is_segment (line.Segment given) lines in
    omega (arith, one, segments_length dirs lines)
segments_length dirs (line.Frames n ∷ lines) =
    let one = count_cons is_segment (line.Frames n) lines in
    omega (arith, one, segments_length dirs lines)
segments_length dirs (line.Work dir ∷ lines) =
    let one = count_cons is_segment (line.Work dir) lines in
    omega (arith, one, segments_length dirs lines)
segments_length dirs (line.Library dir ∷ lines) =
    let one = count_cons is_segment (line.Library dir) lines in
    omega (arith, one, segments_length dirs lines)
segments_length dirs (line.Name name ∷ lines) =
    let one = count_cons is_segment (line.Name name) lines in
    omega (arith, one, segments_length dirs lines)
segments_length dirs (line.Start start ∷ lines) =
    let one = count_cons is_segment (line.Start start) lines in
    omega (arith, one, segments_length dirs lines)

pub libraries_length : (dirs : List (List ℕ)) (lines : List BootLine) → length (libraries_in dirs lines) ≡ count_by is_library lines
unfolding libraries_in
libraries_length dirs [] = refl
libraries_length dirs (line.Library dir ∷ lines) =
    let one = count_cons is_library (line.Library dir) lines in
    omega (arith, one, libraries_length dirs lines)
libraries_length dirs (line.Frames n ∷ lines) =
    let one = count_cons is_library (line.Frames n) lines in
    omega (arith, one, libraries_length dirs lines)
libraries_length dirs (line.Work dir ∷ lines) =
    let one = count_cons is_library (line.Work dir) lines in
    omega (arith, one, libraries_length dirs lines)
libraries_length dirs (line.Segment given ∷ lines) =
    let one = count_cons is_library (line.Segment given) lines in
    omega (arith, one, libraries_length dirs lines)
libraries_length dirs (line.Name name ∷ lines) =
    let one = count_cons is_library (line.Name name) lines in
    omega (arith, one, libraries_length dirs lines)
libraries_length dirs (line.Start start ∷ lines) =
    let one = count_cons is_library (line.Start start) lines in
    omega (arith, one, libraries_length dirs lines)

-- ---- libraries

each_library : (all above lines : List BootLine) (dirs : List (List ℕ)) → Clean all above lines
    → ((dir : List ℕ) → has_directory all dir ≡ true → directory_number_in dirs dir < length dirs)
    → All (λ d. d < length dirs) (libraries_in dirs lines)
unfolding libraries_in
each_library all above [] dirs clean inside = All-nil (λ d. d < length dirs)
each_library all above (line.Library dir ∷ lines) dirs clean inside =
    All-cons (λ d. d < length dirs) (directory_number_in dirs dir) (libraries_in dirs lines)
    (inside dir (not-false (has_directory all dir) (passed all above (line.Library dir) clean.0).directory))
    (each_library all (above ++ line.Library dir ∷ []) lines dirs clean.1 inside)
each_library all above (line.Frames n ∷ lines) dirs clean inside = each_library all (above ++ line.Frames n ∷ []) lines dirs clean.1 inside
each_library all above (line.Work dir ∷ lines) dirs clean inside = each_library all (above ++ line.Work dir ∷ []) lines dirs clean.1 inside
each_library all above (line.Segment given ∷ lines) dirs clean inside = each_library all (above ++ line.Segment given ∷ []) lines dirs clean.1 inside
each_library all above (line.Name name ∷ lines) dirs clean inside = each_library all (above ++ line.Name name ∷ []) lines dirs clean.1 inside
each_library all above (line.Start start ∷ lines) dirs clean inside = each_library all (above ++ line.Start start ∷ []) lines dirs clean.1 inside

-- ---- segments

is_segment_given : (all above lines : List BootLine) (dirs : List (List ℕ)) (given : SegmentLineFields)
    → code_of all above (line.Segment given) ≡ None → Clean all (above ++ line.Segment given ∷ []) lines
    → list_any (is_text given.dir) dirs ≡ true
    → IsSegment (length dirs) (segment_with dirs given (names_after lines))
is_segment_given all above lines dirs given none clean has =
    let right = or_parts (not (brackets_in_order given)) (is_no_gate given.kind given) (passed all above (line.Segment given) none).brackets in
    let order = and_parts (nat_le given.r1 given.r2) (nat_le given.r2 given.r3) (not-false (brackets_in_order given) right.0) in
    let e = names_snoc 0 above (line.Segment given) in
    let few = names_few all (above ++ line.Segment given ∷ []) lines clean (omega (arith, e)) in
    record {
      named = omega arith;
      names = omega (arith, few);
      dir = number_inside dirs given.dir has;
      read_bracket = leb-true given.r1 given.r2 order.0;
      call_bracket = leb-true given.r2 given.r3 order.1;
    }

each_segment : (all above lines : List BootLine) (dirs : List (List ℕ)) → Clean all above lines → EachInDirectories dirs lines
    → All (IsSegment (length dirs)) (segments_in dirs lines)
unfolding segments_in
each_segment all above [] dirs clean has = All-nil (IsSegment (length dirs))
each_segment all above (line.Segment given ∷ lines) dirs clean has =
    All-cons (IsSegment (length dirs)) (segment_with dirs given (names_after lines)) (segments_in dirs lines)
    (is_segment_given all above lines dirs given clean.0 clean.1 has.0)
    (each_segment all (above ++ line.Segment given ∷ []) lines dirs clean.1 has.1)
each_segment all above (line.Frames n ∷ lines) dirs clean has = each_segment all (above ++ line.Frames n ∷ []) lines dirs clean.1 has.1
each_segment all above (line.Work dir ∷ lines) dirs clean has = each_segment all (above ++ line.Work dir ∷ []) lines dirs clean.1 has.1
each_segment all above (line.Library dir ∷ lines) dirs clean has = each_segment all (above ++ line.Library dir ∷ []) lines dirs clean.1 has.1
each_segment all above (line.Name name ∷ lines) dirs clean has = each_segment all (above ++ line.Name name ∷ []) lines dirs clean.1 has.1
each_segment all above (line.Start start ∷ lines) dirs clean has = each_segment all (above ++ line.Start start ∷ []) lines dirs clean.1 has.1

-- ---- the catalog

catalog_kept : (lines : List BootLine) → Clean lines [] lines → EachLine lines → IsCatalog (catalog_in lines)
unfolding catalog_in has_directory
catalog_kept lines clean each =
    let begin : Begins lines = clean_begins lines clean in
    let dirs : List (List ℕ) = directories_from [] lines in
    let first : EachLine (line.Frames begin.frames ∷ line.Work begin.dir ∷ begin.rest) = subst EachLine begin.are each in
    let frames : frames_of (slice_get lines 0) ≡ begin.frames = ap (λ (ls : List BootLine). frames_of (slice_get ls 0)) begin.are in
    let work : working_directory_of (slice_get lines 1) ≡ begin.dir = ap (λ (ls : List BootLine). working_directory_of (slice_get ls 1)) begin.are in
    let number : directory_number_in dirs (working_directory_of (slice_get lines 1)) ≡ directory_number_in dirs begin.dir = ap (directory_number_in dirs) work in
    let inside : directory_number_in dirs begin.dir < length dirs = directory_inside lines begin.dir begin.has in
    let counted : length (segments_in dirs lines) ≡ count_by is_segment lines = segments_length dirs lines in
    let shelves : length (libraries_in dirs lines) ≡ count_by is_library lines = libraries_length dirs lines in
    let few : count_by is_segment lines ≤ 512 = segments_counted lines clean in
    let few_libraries : count_by is_library lines ≤ 16 = libraries_counted lines clean in
    let some : 1 ≤ count_by is_segment lines = some_segment begin.dir lines begin.has in
    let short : length dirs ≤ 0 + count_by is_segment lines = dirs_length [] lines in
    record {
      some_frames = omega (arith, frames, first.0.0);
      frames = omega (arith, frames, first.0.1);
      some_segments = omega (arith, counted, some);
      segments = omega (arith, counted, few);
      directories = omega (arith, short, few);
      work = omega (arith, number, inside);
      libraries = omega (arith, shelves, few_libraries);
      each_library = each_library lines [] lines dirs clean (λ dir has. directory_inside lines dir has);
      each_segment = each_segment lines [] lines dirs clean (each_in [] lines);
    }

pub kept : (text : List ℕ) → first_code text ≡ None → IsCatalog (catalog_in (well_formed_lines text))
unfolding first_code well_formed_lines parsed_lines
kept text none =
    catalog_kept (well_formed_lines text) (clean_from (well_formed_lines text) [] (parsed_lines text) 1 none) (each_line (lines_of text))

pub kept_as : (text : List ℕ) (lines : List BootLine) → lines ≡ well_formed_lines text → first_code text ≡ None → IsCatalog (catalog_in lines)
kept_as text lines all none =
    let P : List BootLine → Type 0 = λ ls. IsCatalog (catalog_in ls) in
    subst P (sym all) (kept text none)

pub read_by : (told : Option (ℕ × BootCode)) (made c : CatalogFields) → catalog_or_fault told made ≡ Ok c → (told ≡ None) × (made ≡ c)
read_by None made c e = (refl, cc)
read_by (Some first) made c e = absurd (cc)

pub reads_into_catalogs : ReadsIntoCatalogs
unfolding catalog_of
reads_into_catalogs text c e =
    let read = read_by (first_code text) (catalog_in (well_formed_lines text)) c e in
    subst IsCatalog read.1 (kept text read.0)
