-- Steps of the loops over the lines of a text.
use Rattle.std.proofs.Common.{ℕ, ◌≡◌, ◌+◌, ◌<◌, ◌≤◌, ◌==◌, ◌⊎◌, Bool, true, false, cond, List, [], ◌∷◌, ◌++◌, length, map, Option, Some, None, Ok, refl, sym, ap, subst, inl, inr, ◌∙◌, append_assoc, add-one, arith}
use Rattle.std.specs.Prelude.{◌||◌}
use Rattle.std.specs.List.{list_any, slice_split, onto_first}
use Rattle.std.proofs.lemmas.List.{append-nil}
use Rattle.std.proofs.lemmas.List.Splits.{length-slice_split}
use Rattle.m36_text.specs.Lines.{lines_of, unended_line, lines_of_parts, present_values, first_present, words_of}
use Rattle.m36_dir.specs.declared.boot_line.BootLine.{BootLine}
use Rattle.m36_dir.specs.declared.boot_code.BootCode.{BootCode}
use Rattle.m36_dir.specs.declared.boot_code.BootCode.TheVariants.{D1, D2, D3, D4, D5, D6}
use Rattle.m36_dir.specs.declared.fault.CatalogFault.{CatalogFault}
use Rattle.m36_dir.specs.BootLine.{parsed_line}
use Rattle.m36_dir.specs.BootOrder.{parsed_lines, well_formed_lines, is_in_directory, is_parsed_line_in_directory, has_directory, codes_from, code_of, code_of_parsed_line, with_line, code_of_rest, first_code, ChecksLine}
use Rattle.m36_dir.specs.Catalog.{CatalogFields, catalog_or_fault, catalog_in, catalog_of, fault_at, RefusesWith}
use Rattle.m36_dir.proofs.LineForms.{no_words}

-- ---- the lines that are given

given_more : (rest line behind : List ℕ) → lines_of rest ≡ Some line ∷ lines_of behind
    → parsed_lines rest ≡ parsed_line (Some line) ∷ parsed_lines behind
unfolding parsed_lines
given_more rest line behind e = ap (map parsed_line) e

given_cut : (rest : List ℕ) → lines_of rest ≡ unended_line rest → parsed_lines rest ≡ map parsed_line (unended_line rest)
unfolding parsed_lines
given_cut rest e = ap (map parsed_line) e

formed_some : (l : BootLine) (more : List (Option BootLine)) (given : Option BootLine) → given ≡ Some l
    → present_values (given ∷ more) ≡ l ∷ present_values more
formed_some l more given e = ap (λ (g : Option BootLine). present_values (g ∷ more)) e

all_more : (rest line behind : List ℕ) (l : BootLine) → lines_of rest ≡ Some line ∷ lines_of behind
    → parsed_line (Some line) ≡ Some l → well_formed_lines rest ≡ l ∷ well_formed_lines behind
unfolding well_formed_lines
all_more rest line behind l e given =
    ap (λ (ls : List (Option BootLine)). present_values ls) (given_more rest line behind e)
    ∙ formed_some l (parsed_lines behind) (parsed_line (Some line)) given

-- ---- a segment line of a directory

directory_given : (dir : List ℕ) (given : Option BootLine) (more : List (Option BootLine))
    → list_any (is_in_directory dir) (present_values (given ∷ more))
    ≡ (is_parsed_line_in_directory dir given || list_any (is_in_directory dir) (present_values more))
directory_given dir (Some l) more = refl
directory_given dir None more = refl

directory_line : (dir rest line behind : List ℕ) → lines_of rest ≡ Some line ∷ lines_of behind
    → has_directory (well_formed_lines rest) dir
    ≡ (is_parsed_line_in_directory dir (parsed_line (Some line)) || has_directory (well_formed_lines behind) dir)
unfolding has_directory well_formed_lines
directory_line dir rest line behind e =
    ap (λ (ls : List (Option BootLine)). list_any (is_in_directory dir) (present_values ls)) (given_more rest line behind e)
    ∙ directory_given dir (parsed_line (Some line)) (parsed_lines behind)

pub text_found : (dir rest line behind : List ℕ) (total : Bool) → lines_of rest ≡ Some line ∷ lines_of behind
    → true ≡ is_parsed_line_in_directory dir (parsed_line (Some line))
    → has_directory (well_formed_lines rest) dir ≡ total → true ≡ total
text_found dir rest line behind total e here so_far =
    ap (λ (b : Bool). (b || has_directory (well_formed_lines behind) dir)) here ∙ sym (directory_line dir rest line behind e) ∙ so_far

pub text_more : (dir rest line behind : List ℕ) (total : Bool) → lines_of rest ≡ Some line ∷ lines_of behind
    → false ≡ is_parsed_line_in_directory dir (parsed_line (Some line))
    → has_directory (well_formed_lines rest) dir ≡ total → has_directory (well_formed_lines behind) dir ≡ total
text_more dir rest line behind total e here so_far =
    ap (λ (b : Bool). (b || has_directory (well_formed_lines behind) dir)) here ∙ sym (directory_line dir rest line behind e) ∙ so_far

cut_none : (rest : List ℕ) → present_values (map parsed_line (unended_line rest)) ≡ []
unfolding parsed_line
cut_none [] = refl
cut_none (c ∷ rest) = refl

all_cut : (rest : List ℕ) → lines_of rest ≡ unended_line rest → well_formed_lines rest ≡ []
unfolding well_formed_lines
all_cut rest e = ap (λ (ls : List (Option BootLine)). present_values ls) (given_cut rest e) ∙ cut_none rest

pub text_all : (dir rest : List ℕ) (total : Bool) → lines_of rest ≡ unended_line rest
    → has_directory (well_formed_lines rest) dir ≡ total → false ≡ total
unfolding has_directory
text_all dir rest total e so_far =
    ap (λ (ls : List BootLine). list_any (is_in_directory dir) ls) (sym (all_cut rest e)) ∙ so_far

-- ---- the code of a line

told_of_first : (all above : List BootLine) (given : Option BootLine) (more : List (Option BootLine)) (n : ℕ) (code : BootCode)
    → code_of_parsed_line all above given ≡ Some code → first_present n (codes_from all above (given ∷ more)) ≡ Some (n, code)
unfolding first_present codes_from
told_of_first all above given more n code e =
    ap (λ (c : Option BootCode). first_present n (c ∷ codes_from all (with_line above given) more)) e

pub told_line : (all above : List BootLine) (rest line behind : List ℕ) (n : ℕ) (code : BootCode)
    → lines_of rest ≡ Some line ∷ lines_of behind → code_of_parsed_line all above (parsed_line (Some line)) ≡ Some code
    → first_present n (codes_from all above (parsed_lines rest)) ≡ Some (n, code)
told_line all above rest line behind n code e told =
    ap (λ (ls : List (Option BootLine)). first_present n (codes_from all above ls)) (given_more rest line behind e)
    ∙ told_of_first all above (parsed_line (Some line)) (parsed_lines behind) n code told

untold_first : (all above : List BootLine) (given : Option BootLine) (l : BootLine) (more : List (Option BootLine)) (n : ℕ)
    → given ≡ Some l → code_of all above l ≡ None
    → first_present n (codes_from all above (given ∷ more)) ≡ first_present (n + 1) (codes_from all (above ++ l ∷ []) more)
unfolding first_present codes_from
untold_first all above given l more n is e =
    ap (λ (g : Option BootLine). first_present n (codes_from all above (g ∷ more))) is
    ∙ ap (λ (c : Option BootCode). first_present n (c ∷ codes_from all (above ++ l ∷ []) more)) e

untold_line : (all above : List BootLine) (rest line behind : List ℕ) (l : BootLine) (n : ℕ)
    → lines_of rest ≡ Some line ∷ lines_of behind → parsed_line (Some line) ≡ Some l → code_of all above l ≡ None
    → first_present n (codes_from all above (parsed_lines rest)) ≡ first_present (n + 1) (codes_from all (above ++ l ∷ []) (parsed_lines behind))
untold_line all above rest line behind l n e given none =
    ap (λ (ls : List (Option BootLine)). first_present n (codes_from all above ls)) (given_more rest line behind e)
    ∙ untold_first all above (parsed_line (Some line)) l (parsed_lines behind) n given none

rest_code : (all above : List BootLine) (rest : List ℕ) (n : ℕ)
    → first_present n (codes_from all above (map parsed_line (unended_line rest))) ≡ first_present n (code_of_rest above rest ∷ [])
unfolding first_present codes_from parsed_line
rest_code all above [] n = refl
rest_code all above (c ∷ rest) n = refl

-- ---- how many lines there are

few_step : (b : Bool) (c : ℕ) (t : List ℕ) (parts : List (List ℕ)) → 0 < length parts → length (lines_of_parts parts) ≤ length t
    → length (lines_of_parts (cond b ([] ∷ parts) (onto_first c parts))) ≤ length (c ∷ t)
few_step b c t [] some few = absurd (omega arith)
few_step true c t (part ∷ parts) some few = omega arith
few_step false c t (part ∷ []) some few = omega arith
few_step false c t (part ∷ next ∷ parts) some few = omega arith

few_parts : (t : List ℕ) → length (lines_of_parts (slice_split (λ b. b == 10) t)) ≤ length t
few_parts [] = omega arith
few_parts (c ∷ t) =
    few_step (c == 10) c t (slice_split (λ b. b == 10) t) (omega (arith, length-slice_split (λ b. b == 10) t)) (few_parts t)

fewer_step : (b : Bool) (c : ℕ) (t : List ℕ) (parts : List (List ℕ)) (line : List ℕ) (more : List (Option (List ℕ)))
    → 0 < length parts → length (lines_of_parts parts) ≤ length t
    → lines_of_parts (cond b ([] ∷ parts) (onto_first c parts)) ≡ Some line ∷ more
    → (line ≡ []) ⊎ (length (lines_of_parts (cond b ([] ∷ parts) (onto_first c parts))) ≤ length t)
fewer_step b c t [] line more some few e = absurd (omega arith)
fewer_step true c t (part ∷ parts) line more some few e = inl (cc)
fewer_step false c t (part ∷ []) line more some few e = absurd (cc)
fewer_step false c t (part ∷ next ∷ parts) line more some few e = inr (omega arith)

no_line : parsed_line (Some []) ≡ None
unfolding parsed_line words_of
no_line = no_words []

-- a text that begins with a line of its form has fewer lines than bytes
few_lines : (text line : List ℕ) (more : List (Option (List ℕ))) (l : BootLine) → lines_of text ≡ Some line ∷ more
    → parsed_line (Some line) ≡ Some l → length (lines_of text) < length text
unfolding lines_of
few_lines [] line more l e given = absurd (cc)
few_lines (c ∷ t) line more l e given =
    elim (fewer_step (c == 10) c t (slice_split (λ b. b == 10) t) line more (omega (arith, length-slice_split (λ b. b == 10) t)) (few_parts t) e) [
      | inl empty ↦
          let none : parsed_line (Some line) ≡ None = ap (λ (x : List ℕ). parsed_line (Some x)) empty ∙ no_line in
          absurd (cc)
      | inr few ↦ omega arith
    ]

pub FewLines : List ℕ → List ℕ → Type 0
FewLines text rest = (rest ≡ text) ⊎ (length (lines_of text) < length text)

pub few_more : (text rest line behind : List ℕ) (l : BootLine) → lines_of rest ≡ Some line ∷ lines_of behind
    → parsed_line (Some line) ≡ Some l → FewLines text rest → length (lines_of text) < length text
unfolding FewLines
few_more text rest line behind l e given so_far =
    elim so_far [
      | inl same ↦
          few_lines text line (lines_of behind) l (sym (ap lines_of same) ∙ e) given
      | inr few ↦ few
    ]

pub few_begin : (text : List ℕ) → FewLines text text
unfolding FewLines
few_begin text = inl refl

pub few_kept : (text rest : List ℕ) → length (lines_of text) < length text → FewLines text rest
unfolding FewLines
few_kept text rest few = inr few

-- ---- the result of reading

told_fault : (code : BootCode) (n : ℕ) (text : List ℕ) → first_code text ≡ Some (n, code) → RefusesWith (fault_at n code) (catalog_of text)
unfolding catalog_of
told_fault D1 n text e = ap (λ (c : Option (ℕ × BootCode)). catalog_or_fault c (catalog_in (well_formed_lines text))) e
told_fault D2 n text e = ap (λ (c : Option (ℕ × BootCode)). catalog_or_fault c (catalog_in (well_formed_lines text))) e
told_fault D3 n text e = ap (λ (c : Option (ℕ × BootCode)). catalog_or_fault c (catalog_in (well_formed_lines text))) e
told_fault D4 n text e = ap (λ (c : Option (ℕ × BootCode)). catalog_or_fault c (catalog_in (well_formed_lines text))) e
told_fault D5 n text e = ap (λ (c : Option (ℕ × BootCode)). catalog_or_fault c (catalog_in (well_formed_lines text))) e
told_fault D6 n text e = ap (λ (c : Option (ℕ × BootCode)). catalog_or_fault c (catalog_in (well_formed_lines text))) e

told_as : (fault : CatalogFault) (code : BootCode) (n : ℕ) (text : List ℕ) → fault ≡ fault_at n code
    → first_code text ≡ Some (n, code) → RefusesWith fault (catalog_of text)
told_as fault code n text is e =
    let P : CatalogFault → Type 0 = λ f. RefusesWith f (catalog_of text) in
    subst P (sym is) (told_fault code n text e)

pub read_begin : (text : List ℕ) (above : List BootLine) → above ≡ []
    → first_present 1 (codes_from (well_formed_lines text) above (parsed_lines text)) ≡ first_code text
unfolding first_code
read_begin text above e = ap (λ (ls : List BootLine). first_present 1 (codes_from (well_formed_lines text) ls (parsed_lines text))) e

-- a line has a code
pub read_code : (text rest line behind : List ℕ) (above seen : List BootLine) (n : ℕ) (code : BootCode) (fault : CatalogFault)
    → lines_of rest ≡ Some line ∷ lines_of behind → seen ≡ above
    → code_of_parsed_line (well_formed_lines text) seen (parsed_line (Some line)) ≡ Some code
    → fault ≡ fault_at n code
    → first_present n (codes_from (well_formed_lines text) above (parsed_lines rest)) ≡ first_code text
    → RefusesWith fault (catalog_of text)
read_code text rest line behind above seen n code fault e same told is so_far =
    told_as fault code n text is
    (sym so_far ∙ ap (λ (ls : List BootLine). first_present n (codes_from (well_formed_lines text) ls (parsed_lines rest))) (sym same)
    ∙ told_line (well_formed_lines text) seen rest line behind n code e told)

-- what follows the last whole line has one
pub read_rest : (text rest : List ℕ) (above seen : List BootLine) (n : ℕ) (code : BootCode) (fault : CatalogFault)
    → lines_of rest ≡ unended_line rest → seen ≡ above
    → Some code ≡ code_of_rest seen rest
    → fault ≡ fault_at n code
    → first_present n (codes_from (well_formed_lines text) above (parsed_lines rest)) ≡ first_code text
    → RefusesWith fault (catalog_of text)
unfolding first_present
read_rest text rest above seen n code fault e same told is so_far =
    told_as fault code n text is
    (sym so_far
    ∙ ap (λ (ls : List (Option BootLine)). first_present n (codes_from (well_formed_lines text) above ls)) (given_cut rest e)
    ∙ rest_code (well_formed_lines text) above rest n
    ∙ ap (λ (ls : List BootLine). first_present n (code_of_rest ls rest ∷ [])) (sym same)
    ∙ ap (λ (c : Option BootCode). first_present n (c ∷ [])) (sym told))

-- nothing has one
pub read_none : (text rest : List ℕ) (above seen : List BootLine) (n : ℕ)
    → lines_of rest ≡ unended_line rest → seen ≡ above
    → None ≡ code_of_rest seen rest
    → first_present n (codes_from (well_formed_lines text) above (parsed_lines rest)) ≡ first_code text
    → first_code text ≡ None
unfolding first_present
read_none text rest above seen n e same none so_far =
    sym so_far
    ∙ ap (λ (ls : List (Option BootLine)). first_present n (codes_from (well_formed_lines text) above ls)) (given_cut rest e)
    ∙ rest_code (well_formed_lines text) above rest n
    ∙ ap (λ (ls : List BootLine). first_present n (code_of_rest ls rest ∷ [])) (sym same)
    ∙ ap (λ (c : Option BootCode). first_present n (c ∷ [])) (sym none)

pub read_all : (text rest : List ℕ) (above : List BootLine) → lines_of rest ≡ unended_line rest
    → above ++ well_formed_lines rest ≡ well_formed_lines text → above ≡ well_formed_lines text
read_all text rest above e so_far =
    sym (append-nil above) ∙ ap (λ (ls : List BootLine). above ++ ls) (sym (all_cut rest e)) ∙ so_far

-- a line has no code
pub read_more : (text rest line behind : List ℕ) (above seen next : List BootLine) (l : BootLine) (n : ℕ)
    → lines_of rest ≡ Some line ∷ lines_of behind → seen ≡ above
    → ChecksLine (well_formed_lines text) seen (parsed_line (Some line)) (Ok l) → next ≡ above ++ l ∷ []
    → first_present n (codes_from (well_formed_lines text) above (parsed_lines rest)) ≡ first_code text
    → first_present (n + 1) (codes_from (well_formed_lines text) next (parsed_lines behind)) ≡ first_code text
read_more text rest line behind above seen next l n e same check_line is so_far =
    ap (λ (ls : List BootLine). first_present (n + 1) (codes_from (well_formed_lines text) ls (parsed_lines behind))) is
    ∙ sym (untold_line (well_formed_lines text) above rest line behind l n e check_line.0
    (ap (λ (ls : List BootLine). code_of (well_formed_lines text) ls l) (sym same) ∙ check_line.1)) ∙ so_far

pub read_lines : (text rest line behind : List ℕ) (above next : List BootLine) (l : BootLine)
    → lines_of rest ≡ Some line ∷ lines_of behind → parsed_line (Some line) ≡ Some l → next ≡ above ++ l ∷ []
    → above ++ well_formed_lines rest ≡ well_formed_lines text → next ++ well_formed_lines behind ≡ well_formed_lines text
read_lines text rest line behind above next l e given is so_far =
    ap (λ (ls : List BootLine). ls ++ well_formed_lines behind) is
    ∙ append_assoc above (l ∷ []) (well_formed_lines behind)
    ∙ ap (λ (ls : List BootLine). above ++ ls) (sym (all_more rest line behind l e given)) ∙ so_far

pub read_count : (text rest line behind : List ℕ) (n : ℕ) → lines_of rest ≡ Some line ∷ lines_of behind
    → n + length (lines_of rest) ≡ length (lines_of text) + 1
    → n + 1 + length (lines_of behind) ≡ length (lines_of text) + 1
read_count text rest line behind n e so_far =
    let one : length (lines_of rest) ≡ length (lines_of behind) + 1 = ap length e ∙ sym (add-one (length (lines_of behind))) in
    omega arith

-- the catalog of lines that all have no code
pub read_catalog : (text : List ℕ) (lines : List BootLine) (catalog : CatalogFields) → lines ≡ well_formed_lines text
    → first_code text ≡ None → catalog ≡ catalog_in lines → catalog_of text ≡ Ok catalog
unfolding catalog_of
read_catalog text lines catalog all none is =
    ap (λ (c : Option (ℕ × BootCode)). catalog_or_fault c (catalog_in (well_formed_lines text))) none
    ∙ ap (λ (ls : List BootLine). Ok (catalog_in ls)) (sym all) ∙ ap (λ (c : CatalogFields). Ok c) (sym is)
