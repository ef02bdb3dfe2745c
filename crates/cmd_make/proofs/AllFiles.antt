-- All files that a seed makes, from their parts.
use Rattle.std.proofs.Common.{◌≡◌, ℕ, List, ◌++◌, map, Ok, Err, sym, ap, subst, ◌∙◌}
use Rattle.m36_gen.specs.declared.files.File.{File}
use Rattle.m36_gen.specs.Folder.{sources_of, fixed_files}
use Rattle.m36_status.specs.declared.refusal.Refusal.{Refusal}
use Rattle.m36_status.specs.declared.refusal.Refusal.TheVariants.{BadFile, NoMemory}
use Rattle.m36_status.specs.declared.setting.Set.{Set}
use Rattle.m36_status.specs.Refusing.{RuleResult, IsRuleResult}
use Rattle.m36_text.specs.Results.{and_then}
use Rattle.cmd_make.specs.Making.{set_of, with_objects, with_other_files, files_of_seed}

-- the objects after the sources
objects_so :
    (seed : ℕ) (sources : List File) (first : List Set)
    → sources ≡ sources_of seed → first ≡ map set_of sources
    → files_of_seed seed ≡ and_then (with_objects first sources) with_other_files
unfolding files_of_seed
objects_so seed sources first draw_of copied =
    ap (λ s. and_then (with_objects (map set_of s) s) with_other_files) (sym draw_of)
    ∙ ap (λ f. and_then (with_objects f sources) with_other_files) (sym copied)

pub made_all :
    (seed : ℕ) (sources : List File) (first objects all : List Set)
    → sources ≡ sources_of seed → first ≡ map set_of sources → with_objects first sources ≡ Ok objects
    → all ≡ objects ++ map set_of fixed_files → IsRuleResult (Ok all) (files_of_seed seed)
made_all seed sources first objects all draw_of copied is others =
    objects_so seed sources first draw_of copied ∙ ap (λ o. and_then o with_other_files) is
    ∙ ap (λ (l : List Set). Ok l) (sym others)

refused_all :
    (r : Refusal) (objects : RuleResult (List Set)) → IsRuleResult {A = List Set} (Err r) objects
    → IsRuleResult {A = List Set} (Err r) (and_then objects with_other_files)
refused_all (BadFile bad) objects gives = ap (λ o. and_then o with_other_files) gives
refused_all NoMemory objects gives = tt

pub made_refused :
    (seed : ℕ) (sources : List File) (first : List Set) (r : Refusal)
    → sources ≡ sources_of seed → first ≡ map set_of sources → IsRuleResult {A = List Set} (Err r) (with_objects first sources)
    → IsRuleResult {A = List Set} (Err r) (files_of_seed seed)
made_refused seed sources first r draw_of copied gives =
    subst (λ d. IsRuleResult {A = List Set} (Err r) d) (sym (objects_so seed sources first draw_of copied))
    (refused_all r (with_objects first sources) gives)

pub ruleset making = (made_all, made_refused)
