-- What reads and boots a folder is a reader, and it is alike to itself.
use Rattle.std.proofs.Common.{ℕ, List, [], Option}
use Rattle.m36_dir.specs.Fields.{SegmentFields}
use Rattle.m36_program.specs.Alike.{Alike}
use Rattle.m36_program.specs.Program.{May}
use Rattle.m36_program.specs.Reader.{IsReader}
use Rattle.m36_program.proofs.AlikeLaws.{alike_then}
use Rattle.m36_program.proofs.ReaderLaws.{reader_then}
use Rattle.m36_files.specs.declared.access.Access.{Access}
use Rattle.m36_files.specs.EachFile.{read_each}
use Rattle.m36_files.specs.Catalogs.{catalog_access}
use Rattle.m36_files.proofs.AlikeReaders.{rule_alike, words_alike, access_alike, each_alike}
use Rattle.m36_files.proofs.AreReaders.{reader_rule, words_reader, access_reader, each_reader}
use Rattle.cmd_folder.specs.Folder.{folder_with, boot_result}
use Rattle.cmd_folder.specs.FolderProgram.{segment_words, files_booted, folder_given}

segment_reader : (may : May) (s : SegmentFields) → IsReader {may = may} (segment_words s)
unfolding segment_words
segment_reader may s = words_reader may s.file

files_reader : (may : May) (access : Access) → IsReader {may = may} (files_booted access)
unfolding files_booted
files_reader may access =
    reader_rule may (read_each segment_words [] access.catalog.segments) (λ files. boot_result (folder_with access files))
    (each_reader may segment_words [] access.catalog.segments (λ s. segment_reader may s))

pub folder_reader : (may : May) (user : Option (List ℕ)) → IsReader {may = may} (folder_given user)
unfolding folder_given
folder_reader may user =
    reader_then (catalog_access user) (λ access. files_booted access) (access_reader may user)
    (λ access. files_reader may access)

segment_alike : (may : May) (s : SegmentFields) → Alike {may = may} (segment_words s) (segment_words s)
unfolding segment_words
segment_alike may s = words_alike may s.file

files_alike : (may : May) (access : Access) → Alike {may = may} (files_booted access) (files_booted access)
unfolding files_booted
files_alike may access =
    rule_alike may (read_each segment_words [] access.catalog.segments) (λ files. boot_result (folder_with access files))
    (each_alike may segment_words [] access.catalog.segments (λ s. segment_alike may s))

pub folder_alike : (may : May) (user : Option (List ℕ)) → Alike {may = may} (folder_given user) (folder_given user)
unfolding folder_given
folder_alike may user =
    alike_then (catalog_access user) (catalog_access user) (λ access. files_booted access)
    (λ access. files_booted access)
    (access_alike may user) (λ access. files_alike may access)
