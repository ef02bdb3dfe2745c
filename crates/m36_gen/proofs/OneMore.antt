-- One program more.
use Rattle.std.proofs.Common.{ℕ, ◌≡◌, ◌+◌, List, [], ◌∷◌, ◌++◌, refl, sym, ap, ◌∙◌, append_assoc, add-one, arith}
use Rattle.std.specs.Prelude.{codes}
use Rattle.std.specs.List.{flat_map, range_with_len}
use Rattle.std.proofs.lemmas.List.{append-nil, map-id}
use Rattle.std.proofs.lemmas.List.FromFn.{map-range_with_len_more}
use Rattle.std.proofs.lemmas.Grind.{flat_map-append}
use Rattle.m36_gen.specs.declared.files.File.{File}
use Rattle.m36_gen.specs.Draws.{state_after_draws, draws_from, state_at}
use Rattle.m36_gen.specs.Lines.{source_name}
use Rattle.m36_gen.specs.Sources.{source_text, stop_text}
use Rattle.m36_gen.specs.BootText.{program_line, program_lines}
use Rattle.m36_gen.specs.Folder.{file, source_file, source_files, sources_of}

-- the state of the generator after the draws of a program
pub state_moved : (seed i state new : ℕ) → state ≡ state_at seed i → new ≡ state_after_draws state → new ≡ state_at seed (i + 1)
unfolding state_at
state_moved seed i state new is moved = moved ∙ ap state_after_draws is ∙ rw add-one refl

-- the source of a program after those of the programs before it
pub source_added : (seed i state : ℕ) (old new : List File) → old ≡ source_files seed i → state ≡ state_at seed i
    → new ≡ old ++ file (source_name i) (source_text i (draws_from state)) ∷ [] → new ≡ source_files seed (i + 1)
unfolding source_files source_file
source_added seed i state old new is at added =
    added
    ∙ ap (λ (files : List File). files ++ file (source_name i) (source_text i (draws_from state)) ∷ []) is
    ∙ ap (λ (x : ℕ). source_files seed i ++ file (source_name i) (source_text i (draws_from x)) ∷ []) at
    ∙ sym (map-range_with_len_more (source_file seed) 0 i i (omega arith))

-- the line of a program after those of the programs before it
pub range_more : (i : ℕ) → range_with_len 0 (i + 1) ≡ range_with_len 0 i ++ i ∷ []
range_more i =
    sym (map-id (range_with_len 0 (i + 1)))
    ∙ map-range_with_len_more (λ (x : ℕ). x) 0 i i (omega arith)
    ∙ ap (λ (xs : List ℕ). xs ++ i ∷ []) (map-id (range_with_len 0 i))

pub lines_more : (i : ℕ) → program_lines (i + 1) ≡ program_lines i ++ program_line i
unfolding program_lines
lines_more i =
    ap (λ (xs : List ℕ). flat_map program_line xs) (range_more i)
    ∙ flat_map-append program_line (range_with_len 0 i) (i ∷ [])
    ∙ ap (λ (t : List ℕ). flat_map program_line (range_with_len 0 i) ++ t) (append-nil (program_line i))

pub line_added : (i : ℕ) (start old new : List ℕ) → old ≡ start ++ program_lines i → new ≡ old ++ program_line i → new ≡ start ++ program_lines (i + 1)
line_added i start old new is added =
    added
    ∙ ap (λ (t : List ℕ). t ++ program_line i) is
    ∙ append_assoc start (program_lines i) (program_line i)
    ∙ ap (λ (t : List ℕ). start ++ t) (sym (lines_more i))

pub none_yet : (text : List ℕ) → text ≡ text ++ program_lines 0
unfolding program_lines
none_yet text = sym (append-nil text)

-- before the first program
pub none_made : (seed : ℕ) (files : List File) → files ≡ [] → files ≡ source_files seed 0
unfolding source_files
none_made seed files is = is

pub at_seed : (seed state : ℕ) → state ≡ seed → state ≡ state_at seed 0
unfolding state_at
at_seed seed state is = is

-- the gate's source after those of the programs
pub all_sources : (seed : ℕ) (old new : List File) (content : List ℕ) → old ≡ source_files seed 64 → content ≡ stop_text
    → new ≡ old ++ file (codes "stop_.alm") content ∷ [] → new ≡ sources_of seed
unfolding sources_of
all_sources seed old new content is stops added =
    added
    ∙ ap (λ (files : List File). files ++ file (codes "stop_.alm") content ∷ []) is
    ∙ ap (λ (text : List ℕ). source_files seed 64 ++ file (codes "stop_.alm") text ∷ []) stops

pub ruleset of_sources = (state_moved, source_added, none_made, at_seed)

pub ruleset of_lines = (line_added, none_yet)
