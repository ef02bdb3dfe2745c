-- Lines that all have no code.
use Rattle.std.proofs.Common.{ℕ, ◌≡◌, ◌+◌, ◌<◌, ◌≤◌, Bool, true, false, cond, List, [], ◌∷◌, ◌++◌, length, Option, Some, None, refl, ap, ◌∙◌, arith}
use Rattle.std.specs.Prelude.{not, count_by}
use Rattle.std.proofs.lemmas.Bool.{leb-false, not-false}
use Rattle.std.proofs.lemmas.List.Sums.{sum_by-append, sum_by-cons}
use Rattle.m36_text.specs.Lines.{first_true_case, first_present, last_of, present_values}
use Rattle.m36_dir.specs.declared.boot_line.BootLine.{BootLine}
use Rattle.m36_dir.specs.declared.boot_line.BootLine.TheVariants as line
use Rattle.m36_dir.specs.declared.boot_code.BootCode.TheVariants.{D1, D2, D3, D4, D5}
use Rattle.m36_dir.specs.BootOrder.{is_segment, is_library, is_in_order_after, is_repeated, names_no_directory, has_wrong_brackets, is_too_many, code_of, code_at_end, codes_from, name_count_at_end, name_count_after, has_directory}
use Rattle.m36_dir.specs.Catalog.{names_after}

-- ---- none has a code

abbrev pub Clean : List BootLine → List BootLine → List BootLine → Type 0
Clean all above [] = code_at_end (last_of above) ≡ None
Clean all above (l ∷ lines) = (code_of all above l ≡ None) × Clean all (above ++ l ∷ []) lines

told_none : {A : Type 0} (n : ℕ) (c : Option A) (cs : List (Option A)) → first_present n (c ∷ cs) ≡ None
    → (c ≡ None) × (first_present (n + 1) cs ≡ None)
unfolding first_present
told_none n None cs e = (refl, e)
told_none n (Some x) cs e = absurd (cc)

pub clean_from : (all above : List BootLine) (given : List (Option BootLine)) (n : ℕ)
    → first_present n (codes_from all above given) ≡ None → Clean all above (present_values given)
unfolding codes_from
clean_from all above [] n e = (told_none n (code_at_end (last_of above)) [] e).0
clean_from all above (None ∷ more) n e = let h = told_none n (Some D1) (codes_from all above more) e in absurd (cc)
clean_from all above (Some l ∷ more) n e =
    let h = told_none n (code_of all above l) (codes_from all (above ++ l ∷ []) more) e in
    (h.0, clean_from all (above ++ l ∷ []) more (n + 1) h.1)

-- ---- what each test gives for a line that has no code

pub record Passed (follows twice astray wrong many : Bool) : Type 0 where
  pub order : follows ≡ true
  pub once : twice ≡ false
  pub directory : astray ≡ false
  pub brackets : wrong ≡ false
  pub few : many ≡ false

met_none : (a b c d e : Bool) → first_true_case ((not a, D1) ∷ (b, D2) ∷ (c, D3) ∷ (d, D4) ∷ (e, D5) ∷ []) ≡ None → Passed a b c d e
unfolding first_true_case
met_none false b c d e h = absurd (cc)
met_none true true c d e h = absurd (cc)
met_none true false true d e h = absurd (cc)
met_none true false false true e h = absurd (cc)
met_none true false false false true h = absurd (cc)
met_none true false false false false h = record { order = refl; once = refl; directory = refl; brackets = refl; few = refl }

pub passed : (all above : List BootLine) (l : BootLine) → code_of all above l ≡ None
    → Passed (is_in_order_after (last_of above) l) (is_repeated above l) (names_no_directory all l) (has_wrong_brackets l) (is_too_many above l)
unfolding code_of
passed all above l e =
    met_none (is_in_order_after (last_of above) l) (is_repeated above l) (names_no_directory all l) (has_wrong_brackets l) (is_too_many above l) e

-- ---- counts

count_snoc : (q : BootLine → Bool) (above : List BootLine) (l : BootLine)
    → count_by q (above ++ l ∷ []) ≡ count_by q above + cond (q l) 1 0
count_snoc q above l = sum_by-append (λ x. cond (q x) 1 0) above (l ∷ []) ∙ omega arith

pub count_cons : (q : BootLine → Bool) (l : BootLine) (lines : List BootLine)
    → count_by q (l ∷ lines) ≡ cond (q l) 1 0 + count_by q lines
count_cons q l lines = sum_by-cons (λ x. cond (q x) 1 0) l lines

counted_here : (b : Bool) (count limit : ℕ) → (b ≡ true → count < limit) → count ≤ limit → count + cond b 1 0 ≤ limit
counted_here true count limit room few = let h = room refl in omega arith
counted_here false count limit room few = omega arith

-- lines each of which leaves room for one more of its kind
counted : (q : BootLine → Bool) (limit : ℕ) (all : List BootLine)
    → ((above : List BootLine) (l : BootLine) → code_of all above l ≡ None → q l ≡ true → count_by q above < limit)
    → (above lines : List BootLine) → Clean all above lines → count_by q above ≤ limit
    → count_by q above + count_by q lines ≤ limit
counted q limit all room above [] clean few = omega arith
counted q limit all room above (l ∷ lines) clean few =
    let here : count_by q (above ++ l ∷ []) ≤ limit =
    rw (count_snoc q above l) (counted_here (q l) (count_by q above) limit (room above l clean.0) few) in
    let more = counted q limit all room (above ++ l ∷ []) lines clean.1 here in
    let e = count_snoc q above l in
    let one = count_cons q l lines in
    omega (arith, more, e, one)

segment_room : (all above : List BootLine) (l : BootLine) → code_of all above l ≡ None → is_segment l ≡ true → count_by is_segment above < 512
segment_room all above (line.Segment given) none is = leb-false 512 (count_by is_segment above) (passed all above (line.Segment given) none).few
segment_room all above (line.Frames n) none is = absurd (cc)
segment_room all above (line.Work dir) none is = absurd (cc)
segment_room all above (line.Library dir) none is = absurd (cc)
segment_room all above (line.Name name) none is = absurd (cc)
segment_room all above (line.Start start) none is = absurd (cc)

library_room : (all above : List BootLine) (l : BootLine) → code_of all above l ≡ None → is_library l ≡ true → count_by is_library above < 16
library_room all above (line.Library dir) none is = leb-false 16 (count_by is_library above) (passed all above (line.Library dir) none).few
library_room all above (line.Frames n) none is = absurd (cc)
library_room all above (line.Work dir) none is = absurd (cc)
library_room all above (line.Segment given) none is = absurd (cc)
library_room all above (line.Name name) none is = absurd (cc)
library_room all above (line.Start start) none is = absurd (cc)

pub segments_counted : (lines : List BootLine) → Clean lines [] lines → count_by is_segment lines ≤ 512
segments_counted lines clean =
    let all = counted is_segment 512 lines (segment_room lines) [] lines clean (omega arith) in
    omega (arith, all)

pub libraries_counted : (lines : List BootLine) → Clean lines [] lines → count_by is_library lines ≤ 16
libraries_counted lines clean =
    let all = counted is_library 16 lines (library_room lines) [] lines clean (omega arith) in
    omega (arith, all)

-- ---- names

pub names_snoc : (n : ℕ) (above : List BootLine) (l : BootLine) → name_count_at_end n (above ++ l ∷ []) ≡ name_count_after (name_count_at_end n above) l
unfolding name_count_at_end
names_snoc n [] l = refl
names_snoc n (x ∷ above) l = names_snoc (name_count_after n x) above l

pub names_few : (all above lines : List BootLine) → Clean all above lines → name_count_at_end 0 above ≤ 7
    → name_count_at_end 0 above + length (names_after lines) ≤ 7
unfolding names_after
names_few all above [] clean few = omega arith
names_few all above (line.Name name ∷ lines) clean few =
    let room : name_count_at_end 0 above < 7 = leb-false 7 (name_count_at_end 0 above) (passed all above (line.Name name) clean.0).few in
    let e = names_snoc 0 above (line.Name name) in
    let here : name_count_at_end 0 (above ++ line.Name name ∷ []) ≤ 7 = omega (arith, e, room) in
    let more = names_few all (above ++ line.Name name ∷ []) lines clean.1 here in
    omega (arith, more, e)
names_few all above (line.Frames n ∷ lines) clean few = omega arith
names_few all above (line.Work dir ∷ lines) clean few = omega arith
names_few all above (line.Library dir ∷ lines) clean few = omega arith
names_few all above (line.Segment given ∷ lines) clean few = omega arith
names_few all above (line.Start start ∷ lines) clean few = omega arith

-- ---- the first two lines

pub record Begins (lines : List BootLine) : Type 0 where
  pub frames : ℕ
  pub dir : List ℕ
  pub rest : List BootLine
  pub are : lines ≡ line.Frames frames ∷ line.Work dir ∷ rest
  pub has : has_directory lines dir ≡ true

second_line : (all : List BootLine) (n : ℕ) (lines : List BootLine) → Clean all (line.Frames n ∷ []) lines
    → (dir : List ℕ) × (rest : List BootLine) × (lines ≡ line.Work dir ∷ rest) × (has_directory all dir ≡ true)
second_line all n [] clean = absurd (cc)
second_line all n (line.Work dir ∷ lines) clean =
    (dir, lines, refl, not-false (has_directory all dir) (passed all (line.Frames n ∷ []) (line.Work dir) clean.0).directory)
second_line all n (line.Frames m ∷ lines) clean = let h = (passed all (line.Frames n ∷ []) (line.Frames m) clean.0).order in absurd (cc)
second_line all n (line.Library dir ∷ lines) clean = let h = (passed all (line.Frames n ∷ []) (line.Library dir) clean.0).order in absurd (cc)
second_line all n (line.Segment given ∷ lines) clean = let h = (passed all (line.Frames n ∷ []) (line.Segment given) clean.0).order in absurd (cc)
second_line all n (line.Name name ∷ lines) clean = let h = (passed all (line.Frames n ∷ []) (line.Name name) clean.0).order in absurd (cc)
second_line all n (line.Start start ∷ lines) clean = let h = (passed all (line.Frames n ∷ []) (line.Start start) clean.0).order in absurd (cc)

begins : (all lines : List BootLine) → all ≡ lines → Clean all [] lines → Begins all
begins all [] same clean = absurd (cc)
begins all (line.Frames n ∷ lines) same clean =
    let second = second_line all n lines clean.1 in
    record {
      frames = n;
      dir = second.0;
      rest = second.1;
      are = same ∙ ap (λ (ls : List BootLine). line.Frames n ∷ ls) second.2;
      has = second.3;
    }
begins all (line.Work dir ∷ lines) same clean = let h = (passed all [] (line.Work dir) clean.0).order in absurd (cc)
begins all (line.Library dir ∷ lines) same clean = let h = (passed all [] (line.Library dir) clean.0).order in absurd (cc)
begins all (line.Segment given ∷ lines) same clean = let h = (passed all [] (line.Segment given) clean.0).order in absurd (cc)
begins all (line.Name name ∷ lines) same clean = let h = (passed all [] (line.Name name) clean.0).order in absurd (cc)
begins all (line.Start start ∷ lines) same clean = let h = (passed all [] (line.Start start) clean.0).order in absurd (cc)

pub clean_begins : (lines : List BootLine) → Clean lines [] lines → Begins lines
clean_begins lines clean = begins lines lines refl clean
