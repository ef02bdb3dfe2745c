-- Steps of the loops over lines.
use Rattle.std.proofs.Common.{ℕ, ◌≡◌, ◌+◌, ◌-◌, ◌<◌, ◌≤◌, Bool, true, false, List, [], ◌∷◌, ◌++◌, length, take, drop, get_or, refl, sym, ap, ◌∙◌, append_assoc, length-drop}
use Rattle.std.specs.Prelude.{◌||◌}
use Rattle.std.specs.List.{list_any}
use Rattle.std.proofs.lemmas.List.{at_drop_more, at_drop_all, append-nil}
use Rattle.std.proofs.Math.Seq.{take-length}
use Rattle.std.proofs.lemmas.List.Folds.{list_any-append}
use Rattle.m36_dir.specs.declared.boot_line.BootLine.{BootLine}
use Rattle.m36_dir.specs.declared.boot_line.BootLine.TheVariants as line
use Rattle.m36_dir.specs.Fields.{SegmentFields}
use Rattle.m36_dir.specs.BootOrder.{directory_at_end, directory_after, name_count_at_end, name_count_after, entries_from, entries_of_line, is_same_entry, Entry}
use Rattle.m36_dir.specs.Catalog.{directories_from, with_directory_of, names_after, segments_in, segment_of, libraries_in, library_of}

-- A fold over a list, taken up at any step, gives the same result.
gone_on :
    {S X R : Type 0} (go : S → List X → R) (step : S → X → S)
    → ((s : S) (x : X) (xs : List X) → go s (x ∷ xs) ≡ go (step s x) xs)
    → (s next : S) (xs : List X) (i : ℕ) (x : X) (total : R)
    → i < length xs → x ≡ get_or xs i x → next ≡ step s x → go s (drop i xs) ≡ total → go next (drop (i + 1) xs) ≡ total
gone_on {S} {X} go step law s next xs i x total lt is e so_far =
    let here : go s (drop i xs) ≡ go s (get_or xs i x ∷ drop (i + 1) xs) = at_drop_more (λ (ys : List X). go s ys) xs i x lt in
    ap (λ (n : S). go n (drop (i + 1) xs)) e ∙ ap (λ (y : X). go (step s y) (drop (i + 1) xs)) is
    ∙ sym (law s (get_or xs i x) (drop (i + 1) xs)) ∙ sym here ∙ so_far

-- ---- the directory of the last segment line

directory_law : (dir : List ℕ) (l : BootLine) (lines : List BootLine)
    → directory_at_end dir (l ∷ lines) ≡ directory_at_end (directory_after dir l) lines
unfolding directory_at_end
directory_law dir l lines = refl

pub directory_more : (dir next total : List ℕ) (lines : List BootLine) (i : ℕ) (l : BootLine)
    → i < length lines → l ≡ get_or lines i l → next ≡ directory_after dir l
    → directory_at_end dir (drop i lines) ≡ total → directory_at_end next (drop (i + 1) lines) ≡ total
directory_more dir next total lines i l lt is e so_far =
    gone_on directory_at_end directory_after directory_law dir next lines i l total lt is e so_far

pub directory_all : (dir total : List ℕ) (lines : List BootLine) (i : ℕ) → length lines ≤ i
    → directory_at_end dir (drop i lines) ≡ total → dir ≡ total
unfolding directory_at_end
directory_all dir total lines i le so_far =
    sym (at_drop_all (λ (ls : List BootLine). directory_at_end dir ls) lines i le) ∙ so_far

-- ---- the number of names at the end

names_law : (n : ℕ) (l : BootLine) (lines : List BootLine) → name_count_at_end n (l ∷ lines) ≡ name_count_at_end (name_count_after n l) lines
unfolding name_count_at_end
names_law n l lines = refl

pub names_more : (n next total : ℕ) (lines : List BootLine) (i : ℕ) (l : BootLine)
    → i < length lines → l ≡ get_or lines i l → next ≡ name_count_after n l
    → name_count_at_end n (drop i lines) ≡ total → name_count_at_end next (drop (i + 1) lines) ≡ total
names_more n next total lines i l lt is e so_far =
    gone_on name_count_at_end name_count_after names_law n next lines i l total lt is e so_far

pub names_all : (n total : ℕ) (lines : List BootLine) (i : ℕ) → length lines ≤ i
    → name_count_at_end n (drop i lines) ≡ total → n ≡ total
unfolding name_count_at_end
names_all n total lines i le so_far =
    sym (at_drop_all (λ (ls : List BootLine). name_count_at_end n ls) lines i le) ∙ so_far

-- ---- an entry among those that lines put into directories

entry_law : (e : Entry) (dir : List ℕ) (l : BootLine) (lines : List BootLine)
    → list_any (is_same_entry e) (entries_from dir (l ∷ lines))
    ≡ (list_any (is_same_entry e) (entries_of_line dir l) || list_any (is_same_entry e) (entries_from (directory_after dir l) lines))
unfolding entries_from
entry_law e dir l lines =
    list_any-append (is_same_entry e) (entries_of_line dir l) (entries_from (directory_after dir l) lines)

entry_here : (e : Entry) (dir : List ℕ) (lines : List BootLine) (i : ℕ) (l : BootLine)
    → i < length lines → l ≡ get_or lines i l
    → list_any (is_same_entry e) (entries_from dir (drop i lines))
    ≡ (list_any (is_same_entry e) (entries_of_line dir l) || list_any (is_same_entry e) (entries_from (directory_after dir l) (drop (i + 1) lines)))
entry_here e dir lines i l lt is =
    at_drop_more (λ (ls : List BootLine). list_any (is_same_entry e) (entries_from dir ls)) lines i l lt
    ∙ ap (λ (y : BootLine). list_any (is_same_entry e) (entries_from dir (y ∷ drop (i + 1) lines))) (sym is)
    ∙ entry_law e dir l (drop (i + 1) lines)

pub entry_found : (e : Entry) (dir : List ℕ) (total : Bool) (lines : List BootLine) (i : ℕ) (l : BootLine)
    → i < length lines → l ≡ get_or lines i l → true ≡ list_any (is_same_entry e) (entries_of_line dir l)
    → list_any (is_same_entry e) (entries_from dir (drop i lines)) ≡ total → true ≡ total
entry_found e dir total lines i l lt is puts so_far =
    ap (λ (b : Bool). (b || list_any (is_same_entry e) (entries_from (directory_after dir l) (drop (i + 1) lines)))) puts
    ∙ sym (entry_here e dir lines i l lt is) ∙ so_far

pub entry_more : (e : Entry) (dir next : List ℕ) (total : Bool) (lines : List BootLine) (i : ℕ) (l : BootLine)
    → i < length lines → l ≡ get_or lines i l → false ≡ list_any (is_same_entry e) (entries_of_line dir l)
    → next ≡ directory_after dir l
    → list_any (is_same_entry e) (entries_from dir (drop i lines)) ≡ total
    → list_any (is_same_entry e) (entries_from next (drop (i + 1) lines)) ≡ total
entry_more e dir next total lines i l lt is puts behind so_far =
    ap (λ (d : List ℕ). list_any (is_same_entry e) (entries_from d (drop (i + 1) lines))) behind
    ∙ ap (λ (b : Bool). (b || list_any (is_same_entry e) (entries_from (directory_after dir l) (drop (i + 1) lines)))) puts
    ∙ sym (entry_here e dir lines i l lt is) ∙ so_far

pub entry_all : (e : Entry) (dir : List ℕ) (total : Bool) (lines : List BootLine) (i : ℕ) → length lines ≤ i
    → list_any (is_same_entry e) (entries_from dir (drop i lines)) ≡ total → false ≡ total
unfolding entries_from
entry_all e dir total lines i le so_far =
    sym (at_drop_all (λ (ls : List BootLine). list_any (is_same_entry e) (entries_from dir ls)) lines i le) ∙ so_far

-- ---- directories

directories_law : (dirs : List (List ℕ)) (l : BootLine) (lines : List BootLine)
    → directories_from dirs (l ∷ lines) ≡ directories_from (with_directory_of dirs l) lines
unfolding directories_from
directories_law dirs l lines = refl

pub directories_more : (dirs next total : List (List ℕ)) (lines : List BootLine) (i : ℕ) (l : BootLine)
    → i < length lines → l ≡ get_or lines i l → next ≡ with_directory_of dirs l
    → directories_from dirs (drop i lines) ≡ total → directories_from next (drop (i + 1) lines) ≡ total
directories_more dirs next total lines i l lt is e so_far =
    gone_on directories_from with_directory_of directories_law dirs next lines i l total lt is e so_far

pub directories_all : (dirs total : List (List ℕ)) (lines : List BootLine) (i : ℕ) → length lines ≤ i
    → directories_from dirs (drop i lines) ≡ total → dirs ≡ total
unfolding directories_from
directories_all dirs total lines i le so_far =
    sym (at_drop_all (λ (ls : List BootLine). directories_from dirs ls) lines i le) ∙ so_far

-- ---- names of one segment

pub further_more : (names next total : List (List ℕ)) (lines : List BootLine) (i : ℕ) (l : BootLine) (name : List ℕ)
    → i < length lines → l ≡ get_or lines i l → l ≡ line.Name name → next ≡ names ++ name ∷ []
    → names ++ names_after (drop i lines) ≡ total → next ++ names_after (drop (i + 1) lines) ≡ total
unfolding names_after
further_more names next total lines i l name lt is named e so_far =
    ap (λ (ns : List (List ℕ)). ns ++ names_after (drop (i + 1) lines)) e
    ∙ append_assoc names (name ∷ []) (names_after (drop (i + 1) lines))
    ∙ ap (λ (y : BootLine). names ++ names_after (y ∷ drop (i + 1) lines)) (sym named ∙ is)
    ∙ sym (at_drop_more (λ (ls : List BootLine). names ++ names_after ls) lines i l lt) ∙ so_far

pub further_all : (names total : List (List ℕ)) (lines : List BootLine) (i : ℕ) → length lines ≤ i
    → names ++ names_after (drop i lines) ≡ total → names ≡ total
unfolding names_after
further_all names total lines i le so_far =
    sym (append-nil names) ∙ sym (at_drop_all (λ (ls : List BootLine). names ++ names_after ls) lines i le) ∙ so_far

none_behind : (l : BootLine) (lines : List BootLine) → ((name : List ℕ) → ¬ (l ≡ line.Name name)) → names_after (l ∷ lines) ≡ []
unfolding names_after
none_behind (line.Frames n) lines other = refl
none_behind (line.Work dir) lines other = refl
none_behind (line.Library dir) lines other = refl
none_behind (line.Segment given) lines other = refl
none_behind (line.Name name) lines other = absurd (other name refl)
none_behind (line.Start start) lines other = refl

pub further_none : (names total : List (List ℕ)) (lines : List BootLine) (i : ℕ) (l : BootLine)
    → i < length lines → l ≡ get_or lines i l → ((name : List ℕ) → ¬ (l ≡ line.Name name))
    → names ++ names_after (drop i lines) ≡ total → names ≡ total
further_none names total lines i l lt is other so_far =
    sym (append-nil names)
    ∙ ap (λ (ns : List (List ℕ)). names ++ ns) (sym (none_behind l (drop (i + 1) lines) other))
    ∙ ap (λ (y : BootLine). names ++ names_after (y ∷ drop (i + 1) lines)) is
    ∙ sym (at_drop_more (λ (ls : List BootLine). names ++ names_after ls) lines i l lt) ∙ so_far

-- ---- segments

segments_law : (dirs : List (List ℕ)) (l : BootLine) (lines : List BootLine) (segments : List SegmentFields)
    → segments ++ segments_in dirs (l ∷ lines) ≡ (segments ++ segment_of dirs l lines) ++ segments_in dirs lines
unfolding segments_in
segments_law dirs l lines segments = sym (append_assoc segments (segment_of dirs l lines) (segments_in dirs lines))

pub segments_more : (dirs : List (List ℕ)) (segments next total : List SegmentFields) (lines behind : List BootLine) (i : ℕ) (l : BootLine)
    → i < length lines → l ≡ get_or lines i l → behind ≡ drop (i + 1) lines → next ≡ segments ++ segment_of dirs l behind
    → segments ++ segments_in dirs (drop i lines) ≡ total → next ++ segments_in dirs (drop (i + 1) lines) ≡ total
segments_more dirs segments next total lines behind i l lt is after e so_far =
    ap (λ (ss : List SegmentFields). ss ++ segments_in dirs (drop (i + 1) lines)) e
    ∙ ap (λ (ls : List BootLine). (segments ++ segment_of dirs l ls) ++ segments_in dirs (drop (i + 1) lines)) after
    ∙ sym (segments_law dirs l (drop (i + 1) lines) segments)
    ∙ ap (λ (y : BootLine). segments ++ segments_in dirs (y ∷ drop (i + 1) lines)) is
    ∙ sym (at_drop_more (λ (ls : List BootLine). segments ++ segments_in dirs ls) lines i l lt) ∙ so_far

pub segments_all : (dirs : List (List ℕ)) (segments total : List SegmentFields) (lines : List BootLine) (i : ℕ) → length lines ≤ i
    → segments ++ segments_in dirs (drop i lines) ≡ total → segments ≡ total
unfolding segments_in
segments_all dirs segments total lines i le so_far =
    sym (append-nil segments) ∙ sym (at_drop_all (λ (ls : List BootLine). segments ++ segments_in dirs ls) lines i le) ∙ so_far

-- the lines after one
pub lines_after : (lines : List BootLine) (i : ℕ) → take (length lines - i) (drop i lines) ≡ drop i lines
lines_after lines i = ap (λ n. take n (drop i lines)) (sym (length-drop i lines)) ∙ take-length (drop i lines)

-- ---- libraries

library_law : (dirs : List (List ℕ)) (libraries : List ℕ) (l : BootLine) (lines : List BootLine)
    → libraries ++ libraries_in dirs (l ∷ lines) ≡ (libraries ++ library_of dirs l) ++ libraries_in dirs lines
unfolding libraries_in
library_law dirs libraries l lines = sym (append_assoc libraries (library_of dirs l) (libraries_in dirs lines))

pub libraries_more : (dirs : List (List ℕ)) (libraries next total : List ℕ) (lines : List BootLine) (i : ℕ) (l : BootLine)
    → i < length lines → l ≡ get_or lines i l → next ≡ libraries ++ library_of dirs l
    → libraries ++ libraries_in dirs (drop i lines) ≡ total → next ++ libraries_in dirs (drop (i + 1) lines) ≡ total
libraries_more dirs libraries next total lines i l lt is e so_far =
    gone_on (λ (ns : List ℕ) (ls : List BootLine). ns ++ libraries_in dirs ls) (λ (ns : List ℕ) (x : BootLine). ns ++ library_of dirs x)
    (library_law dirs) libraries next lines i l total lt is e so_far

pub libraries_all : (dirs : List (List ℕ)) (libraries total : List ℕ) (lines : List BootLine) (i : ℕ) → length lines ≤ i
    → libraries ++ libraries_in dirs (drop i lines) ≡ total → libraries ≡ total
unfolding libraries_in
libraries_all dirs libraries total lines i le so_far =
    sym (append-nil libraries) ∙ sym (at_drop_all (λ (ls : List BootLine). libraries ++ libraries_in dirs ls) lines i le) ∙ so_far
