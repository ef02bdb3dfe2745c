-- Bounds of the numbers in lines that have a form.
use Rattle.std.proofs.Common.{ℕ, ◌≡◌, ◌<◌, ◌≤◌, Bool, true, false, cond, List, [], ◌∷◌, length, map, Option, Some, None, Result, Ok, Err, refl, ap, subst, arith}
use Rattle.std.specs.Prelude.{nat_le, nat_eq, option_map, codes}
use Rattle.std.specs.List.{position}
use Rattle.std.specs.Result.{result_ok}
use Rattle.std.proofs.lemmas.Bool.{leb-true}
use Rattle.m36_text.specs.Texts.{is_text}
use Rattle.m36_text.specs.Lines.{words_of, present_values}
use Rattle.m36_text.specs.Reading.{number_read, parsed_number, first_non_digit, number_of}
use Rattle.m36_text.specs.Numbers.{octal_in, decimal_in, at_least}
use Rattle.m36_text.specs.declared.reading.NumberFault.{NumberFault}
use Rattle.m36_text.specs.declared.reading.NumberFault.TheVariants.{T2}
use Rattle.m36_dir.specs.declared.segment.SegKind.{SegKind}
use Rattle.m36_dir.specs.declared.segment.Mode.{Mode}
use Rattle.m36_dir.specs.declared.boot_line.Brackets.{Brackets}
use Rattle.m36_dir.specs.declared.boot_line.BootLine.{BootLine}
use Rattle.m36_dir.specs.declared.boot_line.BootLine.TheVariants as line
use Rattle.m36_dir.specs.BootLine.{parsed_line, line_of_words, frames_line, work_line, library_line, name_line, start_line, start_parts, start_read, segment_line, segment_read, brackets_of, brackets_read, directory_of, name_of, kind_of, mode_of}

-- ---- numbers

picked : {A E : Type 0} (b : Bool) (x z : A) (f : E) → cond b (Ok x) (Err f) ≡ Ok z → (b ≡ true) × (x ≡ z)
picked true x z f e = (refl, cc)
picked false x z f e = absurd (cc)

chosen : {A : Type 0} (b : Bool) (x z : A) → cond b (Some x) None ≡ Some z → (b ≡ true) × (x ≡ z)
chosen true x z e = (refl, cc)
chosen false x z e = absurd (cc)

judged_within : (place : Option ℕ) (value max v : ℕ) → parsed_number place value max ≡ Ok v → v ≤ max
judged_within (Some place) value max v e = absurd (cc)
judged_within None value max v e =
    let fits = picked (nat_le value max) value v T2 e in
    subst (λ n. n ≤ max) fits.1 (leb-true value max fits.0)

read_within : (base max v : ℕ) (text : List ℕ) → number_read base text max ≡ Ok v → v ≤ max
unfolding number_read
read_within base max v [] e = absurd (cc)
read_within base max v (b ∷ text) e = judged_within (first_non_digit base (b ∷ text)) (number_of base (b ∷ text)) max v e

ok_only : (r : Result ℕ NumberFault) (v : ℕ) → result_ok r ≡ Some v → r ≡ Ok v
ok_only (Ok x) v e = let same : x ≡ v = cc in ap (λ n. Ok n) same
ok_only (Err f) v e = absurd (cc)

least_only : (least v : ℕ) (o : Option ℕ) → at_least least o ≡ Some v → (least ≤ v) × (o ≡ Some v)
least_only least v None e = absurd (cc)
least_only least v (Some n) e =
    let fits = chosen (nat_le least n) n v e in
    (subst (λ m. least ≤ m) fits.1 (leb-true least n fits.0), ap (λ m. Some m) fits.1)

decimal_within : (least most v : ℕ) (text : List ℕ) → decimal_in least most text ≡ Some v → (least ≤ v) × (v ≤ most)
unfolding decimal_in
decimal_within least most v text e =
    let from = least_only least v (result_ok (number_read 10 text most)) e in
    (from.0, read_within 10 most v text (ok_only (number_read 10 text most) v from.1))

octal_picked : (b : Bool) (o : Option ℕ) (v : ℕ) → cond b o None ≡ Some v → o ≡ Some v
octal_picked true o v e = e
octal_picked false o v e = absurd (cc)

ring_within : (v : ℕ) (text : List ℕ) → octal_in 1 text ≡ Some v → v < 8
unfolding octal_in
ring_within v text e =
    let within : v ≤ 7 = read_within 8 7 v text (ok_only (number_read 8 text 7) v (octal_picked (nat_eq (length text) 1) (result_ok (number_read 8 text 7)) v e)) in
    omega arith

-- ---- lines

abbrev pub IsLine : BootLine → Type 0
IsLine (line.Frames n) = (1 ≤ n) × (n ≤ 8192)
IsLine (line.Segment given) = (given.r1 < 8) × (given.r2 < 8) × (given.r3 < 8)
IsLine (line.Start start) = start.ring < 8
IsLine _ = Unit {0}

is_line : (l m : BootLine) → Some l ≡ Some m → IsLine l → IsLine m
is_line l m e h = let same : l ≡ m = cc in subst IsLine same h

of_frames : (o : Option ℕ) (l : BootLine) → ((n : ℕ) → o ≡ Some n → (1 ≤ n) × (n ≤ 8192)) → option_map line.Frames o ≡ Some l → IsLine l
of_frames None l bound e = absurd (cc)
of_frames (Some n) l bound e = is_line (line.Frames n) l e (bound n refl)

of_work : (o : Option (List ℕ)) (l : BootLine) → option_map line.Work o ≡ Some l → IsLine l
of_work None l e = absurd (cc)
of_work (Some dir) l e = is_line (line.Work dir) l e tt

of_library : (o : Option (List ℕ)) (l : BootLine) → option_map line.Library o ≡ Some l → IsLine l
of_library None l e = absurd (cc)
of_library (Some dir) l e = is_line (line.Library dir) l e tt

of_name : (o : Option (List ℕ)) (l : BootLine) → option_map line.Name o ≡ Some l → IsLine l
of_name None l e = absurd (cc)
of_name (Some name) l e = is_line (line.Name name) l e tt

frames_in : (given : List (List ℕ)) (l : BootLine) → frames_line given ≡ Some l → IsLine l
frames_in [] l e = absurd (cc)
frames_in (n ∷ []) l e = of_frames (decimal_in 1 8192 n) l (λ v found. decimal_within 1 8192 v n found) e
frames_in (n ∷ next ∷ more) l e = absurd (cc)

work_in : (given : List (List ℕ)) (l : BootLine) → work_line given ≡ Some l → IsLine l
work_in [] l e = absurd (cc)
work_in (dir ∷ []) l e = of_work (directory_of dir) l e
work_in (dir ∷ next ∷ more) l e = absurd (cc)

library_in : (given : List (List ℕ)) (l : BootLine) → library_line given ≡ Some l → IsLine l
library_in [] l e = absurd (cc)
library_in (dir ∷ []) l e = of_library (directory_of dir) l e
library_in (dir ∷ next ∷ more) l e = absurd (cc)

name_in : (given : List (List ℕ)) (l : BootLine) → name_line given ≡ Some l → IsLine l
name_in [] l e = absurd (cc)
name_in (name ∷ []) l e = of_name (name_of name) l e
name_in (name ∷ next ∷ more) l e = absurd (cc)

start_read_in : (ring : Option ℕ) (name entry : Option (List ℕ)) (l : BootLine) → ((n : ℕ) → ring ≡ Some n → n < 8)
    → start_read ring name entry ≡ Some l → IsLine l
start_read_in None name entry l bound e = absurd (cc)
start_read_in (Some ring) None entry l bound e = absurd (cc)
start_read_in (Some ring) (Some name) None l bound e = absurd (cc)
start_read_in (Some ring) (Some name) (Some entry) l bound e =
    is_line (line.Start (record { name = name; entry = entry; ring = ring })) l e (bound ring refl)

start_parts_in : (ring : Option ℕ) (word : List ℕ) (dollar : Option ℕ) (l : BootLine) → ((n : ℕ) → ring ≡ Some n → n < 8)
    → start_parts ring word dollar ≡ Some l → IsLine l
start_parts_in ring word None l bound e = absurd (cc)
start_parts_in ring word (Some dollar) l bound e = start_read_in ring _ _ l bound e

start_in : (given : List (List ℕ)) (l : BootLine) → start_line given ≡ Some l → IsLine l
start_in [] l e = absurd (cc)
start_in (ring ∷ []) l e = absurd (cc)
start_in (ring ∷ word ∷ []) l e =
    start_parts_in (octal_in 1 ring) word (position (λ c. nat_eq c 36) word) l (λ n found. ring_within n ring found) e
start_in (ring ∷ word ∷ next ∷ more) l e = absurd (cc)

AreBrackets : Option Brackets → Type 0
AreBrackets o = (ends : Brackets) → o ≡ Some ends → (ends.r1 < 8) × (ends.r2 < 8) × (ends.r3 < 8)

brackets_read_in : (r1 r2 r3 : Option ℕ) → ((n : ℕ) → r1 ≡ Some n → n < 8) → ((n : ℕ) → r2 ≡ Some n → n < 8) → ((n : ℕ) → r3 ≡ Some n → n < 8)
    → AreBrackets (brackets_read r1 r2 r3)
unfolding AreBrackets
brackets_read_in None r2 r3 b1 b2 b3 = λ ends e. absurd (cc)
brackets_read_in (Some r1) None r3 b1 b2 b3 = λ ends e. absurd (cc)
brackets_read_in (Some r1) (Some r2) None b1 b2 b3 = λ ends e. absurd (cc)
brackets_read_in (Some r1) (Some r2) (Some r3) b1 b2 b3 = λ ends e.
    let these : Brackets = record { r1 = r1; r2 = r2; r3 = r3 } in
    let same : these ≡ ends = cc in
    let P : Brackets → Type 0 = λ x. (x.r1 < 8) × (x.r2 < 8) × (x.r3 < 8) in
    subst P same (b1 r1 refl, b2 r2 refl, b3 r3 refl)

brackets_in : (given : List (List ℕ)) → AreBrackets (brackets_of given)
unfolding AreBrackets
brackets_in [] = λ ends e. absurd (cc)
brackets_in (r1 ∷ []) = λ ends e. absurd (cc)
brackets_in (r1 ∷ r2 ∷ []) = λ ends e. absurd (cc)
brackets_in (r1 ∷ r2 ∷ r3 ∷ []) =
    brackets_read_in (octal_in 1 r1) (octal_in 1 r2) (octal_in 1 r3)
    (λ n found. ring_within n r1 found) (λ n found. ring_within n r2 found) (λ n found. ring_within n r3 found)
brackets_in (r1 ∷ r2 ∷ r3 ∷ next ∷ more) = λ ends e. absurd (cc)

segment_read_in : (dir name file : Option (List ℕ)) (kind : Option SegKind) (mode : Option Mode) (ends : Option Brackets) (l : BootLine)
    → AreBrackets ends → segment_read dir name file kind mode ends ≡ Some l → IsLine l
unfolding AreBrackets
segment_read_in None name file kind mode ends l bound e = absurd (cc)
segment_read_in (Some dir) None file kind mode ends l bound e = absurd (cc)
segment_read_in (Some dir) (Some name) None kind mode ends l bound e = absurd (cc)
segment_read_in (Some dir) (Some name) (Some file) None mode ends l bound e = absurd (cc)
segment_read_in (Some dir) (Some name) (Some file) (Some kind) None ends l bound e = absurd (cc)
segment_read_in (Some dir) (Some name) (Some file) (Some kind) (Some mode) None l bound e = absurd (cc)
segment_read_in (Some dir) (Some name) (Some file) (Some kind) (Some mode) (Some ends) l bound e = is_line _ l e (bound ends refl)

segment_in : (given : List (List ℕ)) (l : BootLine) → segment_line given ≡ Some l → IsLine l
segment_in [] l e = absurd (cc)
segment_in (dir ∷ []) l e = absurd (cc)
segment_in (dir ∷ name ∷ []) l e = absurd (cc)
segment_in (dir ∷ name ∷ file ∷ []) l e = absurd (cc)
segment_in (dir ∷ name ∷ file ∷ kind ∷ []) l e = absurd (cc)
segment_in (dir ∷ name ∷ file ∷ kind ∷ mode ∷ ends) l e =
    segment_read_in (directory_of dir) (name_of name) (name_of file) (kind_of kind) (mode_of mode) (brackets_of ends) l (brackets_in ends) e

named_in : (a b c d f g : Bool) (given : List (List ℕ)) (l : BootLine)
    → cond a (frames_line given) (cond b (work_line given) (cond c (library_line given) (cond d (segment_line given) (cond f (name_line given) (cond g (start_line given) None))))) ≡ Some l
    → IsLine l
named_in true b c d f g given l e = frames_in given l e
named_in false true c d f g given l e = work_in given l e
named_in false false true d f g given l e = library_in given l e
named_in false false false true f g given l e = segment_in given l e
named_in false false false false true g given l e = name_in given l e
named_in false false false false false true given l e = start_in given l e
named_in false false false false false false given l e = absurd (cc)

words_in : (words : List (List ℕ)) (l : BootLine) → line_of_words words ≡ Some l → IsLine l
words_in [] l e = absurd (cc)
words_in (word ∷ given) l e =
    named_in (is_text (codes "frames") word) (is_text (codes "work") word) (is_text (codes "library") word)
    (is_text (codes "segment") word) (is_text (codes "name") word) (is_text (codes "start") word) given l e

given_in : (text : Option (List ℕ)) (l : BootLine) → parsed_line text ≡ Some l → IsLine l
unfolding parsed_line
given_in None l e = absurd (cc)
given_in (Some text) l e = words_in (words_of text) l e

-- ---- all lines

abbrev pub EachLine : List BootLine → Type 0
EachLine [] = Unit {0}
EachLine (l ∷ lines) = IsLine l × EachLine lines

each_step : (given : Option BootLine) (more : List (Option BootLine)) → ((l : BootLine) → given ≡ Some l → IsLine l)
    → EachLine (present_values more) → EachLine (present_values (given ∷ more))
each_step None more is rest = rest
each_step (Some l) more is rest = (is l refl, rest)

pub each_line : (texts : List (Option (List ℕ))) → EachLine (present_values (map parsed_line texts))
each_line [] = tt
each_line (text ∷ texts) = each_step (parsed_line text) (map parsed_line texts) (λ l e. given_in text l e) (each_line texts)
