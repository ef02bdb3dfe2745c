-- Each reader only reads files.
use Rattle.std.proofs.Common.{ℕ, List, [], ◌∷◌, ◌++◌, Option, Some, None, Result, Ok, Err}
use Rattle.m36_text.specs.Packing.{unpacked}
use Rattle.obj36.specs.ObjectOf.{object_of}
use Rattle.m36_dir.specs.Catalog.{CatalogFields, catalog_of}
use Rattle.m36_acl.specs.AccessLists.{lists_of}
use Rattle.m36_files.specs.CatalogRules.{boot_name, catalog_or_refusal, acl_name, lists_or_refusal, with_boot_text_rights, for_user}
use Rattle.m36_status.specs.declared.refusal.Refusal.{Refusal}
use Rattle.m36_status.specs.declared.refusal.Refusal.TheVariants.{BadFile, NoMemory}
use Rattle.m36_status.specs.Rules.{words_or_refusal, object_or_refusal}
use Rattle.m36_program.specs.Program.{May, Program, then_with}
use Rattle.m36_program.specs.Reader.{IsReader}
use Rattle.m36_program.specs.Readers.{file_bytes}
use Rattle.m36_program.proofs.ReaderLaws.{reader_bytes, reader_done, reader_then}
use Rattle.m36_files.specs.Catalogs.{boot_catalog, access_lists, catalog_with_rights, catalog_access}
use Rattle.m36_files.specs.Deciding.{end_of_rule, rule_program}
use Rattle.m36_files.specs.EachFile.{read_and_append, read_each}
use Rattle.m36_files.specs.FileReaders.{file_words, file_object}

-- ---- a rule

decided_reads : (may : May) {A : Type 0} (rule : Result A Refusal) → IsReader {may = may} (end_of_rule rule)
unfolding IsReader
decided_reads may (Ok a) = tt
decided_reads may (Err (BadFile bad)) = tt
decided_reads may (Err NoMemory) = λ b is. b

pub reader_decides : (may : May) {A : Type 0} (rule : Result A Refusal) → IsReader {may = may} (rule_program rule)
unfolding IsReader rule_program
reader_decides may rule = decided_reads may rule

-- a rule on what was read
pub reader_rule :
    (may : May) {A B : Type 0} (p : Program may A) (rule : A → Result B Refusal) → IsReader p
    → IsReader (then_with p (λ a. rule_program (rule a)))
reader_rule may p rule is = reader_then p (λ a. rule_program (rule a)) is (λ a. reader_decides may (rule a))

-- ---- one file

pub words_reader : (may : May) (name : List ℕ) → IsReader {may = may} (file_words name)
unfolding file_words
words_reader may name = reader_rule may (file_bytes name) (λ bytes. words_or_refusal name (unpacked bytes)) (reader_bytes may name)

pub object_reader : (may : May) (name : List ℕ) → IsReader {may = may} (file_object name)
unfolding file_object
object_reader may name = reader_rule may (file_words name) (λ words. object_or_refusal name (object_of words)) (words_reader may name)

-- ---- the catalog

pub catalog_reader : (may : May) → IsReader {may = may} boot_catalog
unfolding boot_catalog
catalog_reader may = reader_rule may (file_bytes boot_name) (λ text. catalog_or_refusal (catalog_of text)) (reader_bytes may boot_name)

pub lists_reader : (may : May) (catalog : CatalogFields) → IsReader {may = may} (access_lists catalog)
unfolding access_lists
lists_reader may catalog = reader_rule may (file_bytes acl_name) (λ text. lists_or_refusal catalog (lists_of text)) (reader_bytes may acl_name)

pub rights_reader : (may : May) (user : Option (List ℕ)) (catalog : CatalogFields) → IsReader {may = may} (catalog_with_rights user catalog)
unfolding catalog_with_rights
rights_reader may None catalog = reader_done may (with_boot_text_rights catalog)
rights_reader may (Some user) catalog =
    reader_rule may (access_lists catalog) (λ lists. Ok (for_user user catalog lists)) (lists_reader may catalog)

pub access_reader : (may : May) (user : Option (List ℕ)) → IsReader {may = may} (catalog_access user)
unfolding catalog_access
access_reader may user = reader_then boot_catalog (catalog_with_rights user) (catalog_reader may) (rights_reader may user)

-- ---- each of a list

onto_reader :
    (may : May) {I A : Type 0} (one : I → Program may A) (so_far : List A) (item : I) → IsReader (one item)
    → IsReader (read_and_append one so_far item)
unfolding read_and_append
onto_reader may one so_far item is = reader_rule may (one item) (λ a. Ok (so_far ++ a ∷ [])) is

pub each_reader :
    (may : May) {I A : Type 0} (one : I → Program may A) (so_far : List A) (items : List I)
    → ((item : I) → IsReader (one item)) → IsReader (read_each one so_far items)
unfolding read_each
each_reader may one so_far [] each = reader_done may so_far
each_reader may one so_far (item ∷ items) each =
    reader_then (read_and_append one so_far item) (λ more. read_each one more items) (onto_reader may one so_far item (each item))
    (λ more. each_reader may one more items each)
