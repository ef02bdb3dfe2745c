-- Laws of copied files, and of a folder in memory with these files.
use Rattle.std.proofs.Common.{◌≡◌, ℕ, ◌+◌, ◌<◌, ◌≤◌, List, [], ◌∷◌, ◌++◌, length, map, drop, get_or, Some, None, Result}
use Rattle.std.proofs.Common.{Err, refl, sym, ap, ◌∙◌, append_assoc}
use Rattle.std.proofs.lemmas.List.{append-nil, drop_more, at_drop_all}
use Rattle.m36_outside.specs.Files.{Files, with_file}
use Rattle.m36_outside.specs.FileList.{file_named}
use Rattle.m36_outside.specs.declared.file_list.NamedFile.{NamedFile}
use Rattle.m36_gen.specs.declared.files.File.{File}
use Rattle.m36_status.specs.declared.setting.Set.{Set}
use Rattle.m36_status.specs.declared.status.Status.{Status}
use Rattle.m36_status.specs.declared.status.Status.TheVariants.{NoMemory}
use Rattle.m36_world.specs.Seen.{Seen}
use Rattle.m36_program.specs.Ended.{NoneRose}
use Rattle.m36_program.specs.Goes.{Goes}
use Rattle.m36_program.specs.Performs.{Performs}
use Rattle.m36_program.specs.Program.{quiet}
use Rattle.m36_program.proofs.Performing.{goes_no_memory}
use Rattle.cmd_folder.specs.Folder.{FolderFields}
use Rattle.cmd_folder.specs.FolderProgram.{folder_given}
use Rattle.cmd_folder.proofs.FolderReader.{folder_reader}
use Rattle.cmd_make.specs.InMemory.{in_memory}
use Rattle.cmd_make.specs.Made.{boot_files}
use Rattle.cmd_make.specs.Making.{set_of, with_files, files_in}
use Rattle.cmd_make.proofs.InMemoryLaws.{reads_in_memory}

-- ---- copies

-- one more file was copied
pub copies_more :
    (files : List File) (i : ℕ) (file : File) (set : Set) (now next whole : List Set)
    → i < length files → file ≡ get_or files i file → set ≡ set_of file → next ≡ now ++ set ∷ []
    → now ++ map set_of (drop i files) ≡ whole → next ++ map set_of (drop (i + 1) files) ≡ whole
copies_more files i file set now next whole inside at is added so_far =
    let more : List Set = map set_of (drop (i + 1) files) in
    ap (λ n. n ++ more) added ∙ append_assoc now (set ∷ []) more ∙ ap (λ s. now ++ (s ∷ more)) is
    ∙ ap (λ f. now ++ (set_of f ∷ more)) at ∙ ap (λ l. now ++ map set_of l) (sym (drop_more files i file inside))
    ∙ so_far

pub copies_end :
    (files : List File) (i : ℕ) (now whole : List Set)
    → length files ≤ i → now ++ map set_of (drop i files) ≡ whole → now ≡ whole
copies_end files i now whole past so_far =
    sym (append-nil now) ∙ ap (λ l. now ++ map set_of l) (sym (at_drop_all (λ (l : List File). l) files i past))
    ∙ so_far

pub ruleset files_in_turn = (copies_more, copies_end)

-- ---- the folder in memory

pub folder_start :
    (sets : List Set) (files : List NamedFile) → files ≡ [] → with_files sets (file_named files) ≡ files_in sets
unfolding files_in
folder_start sets files none = ap (λ (l : List NamedFile). with_files sets (file_named l)) none

first_more :
    (set : Set) (sets : List Set) (files : Files)
    → with_files (set ∷ sets) files ≡ with_files sets (with_file set.name (Some set.content) files)
unfolding with_files
first_more set sets files = refl

none_more : (files : Files) → with_files [] files ≡ files
unfolding with_files
none_more files = refl

-- one more file was put in
pub folder_more :
    (sets : List Set) (i : ℕ) (set : Set) (name content : List ℕ) (now next whole : Files)
    → i < length sets → set ≡ get_or sets i set → name ≡ set.name → content ≡ set.content
    → next ≡ with_file name (Some content) now
    → with_files (drop i sets) now ≡ whole → with_files (drop (i + 1) sets) next ≡ whole
folder_more sets i set name content now next whole inside at named filled is so_far =
    let rest : List Set = drop (i + 1) sets in
    ap (λ f. with_files rest f) (is ∙ ap (λ n. with_file n (Some content) now) named
    ∙ ap (λ t. with_file set.name (Some t) now) filled)
    ∙ sym (first_more set rest now)
    ∙ ap (λ s. with_files (s ∷ rest) now) at ∙ ap (λ l. with_files l now) (sym (drop_more sets i set inside)) ∙ so_far

pub folder_end :
    (sets : List Set) (i : ℕ) (now whole : Files)
    → length sets ≤ i → with_files (drop i sets) now ≡ whole → now ≡ whole
folder_end sets i now whole past so_far =
    sym (none_more now) ∙ ap (λ l. with_files l now) (sym (at_drop_all (λ (l : List Set). l) sets i past)) ∙ so_far

pub ruleset folder_in_turn = (folder_start, folder_more, folder_end)

-- ---- what it boots to

pub booted_in :
    (sets : List Set) (files : Files) (result : Result FolderFields Status) (old new : Seen)
    → Performs (folder_given {may = quiet} None) result old new → files ≡ files_in sets → old.files ≡ Some files
    → NoneRose old new
    → Goes (boot_files sets) [] result
unfolding boot_files
booted_in sets files result old new performs are is none =
    reads_in_memory (files_in sets) (folder_given {may = quiet} None) result old new (folder_reader quiet None)
    (is ∙ ap (λ (f : Files). Some f) are) none performs

-- memory ran out for the folder
pub no_world : (sets : List Set) → Goes (boot_files sets) [] (Err NoMemory)
unfolding boot_files
no_world sets = goes_no_memory (in_memory (files_in sets) (folder_given None))
