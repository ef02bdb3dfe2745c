-- Readers are alike to themselves: over the same files they make the same reads, and yield the same value.
use Rattle.std.proofs.Common.{ℕ, List, [], ◌∷◌, ◌++◌, Option, Some, None, Result, Ok, Err, refl}
use Rattle.m36_text.specs.Packing.{unpacked}
use Rattle.obj36.specs.ObjectOf.{object_of}
use Rattle.m36_dir.specs.Catalog.{CatalogFields, catalog_of}
use Rattle.m36_acl.specs.AccessLists.{lists_of}
use Rattle.m36_files.specs.CatalogRules.{boot_name, catalog_or_refusal, acl_name, lists_or_refusal, with_boot_text_rights, for_user}
use Rattle.m36_status.specs.declared.refusal.Refusal.{Refusal}
use Rattle.m36_status.specs.declared.refusal.Refusal.TheVariants.{BadFile, NoMemory}
use Rattle.m36_status.specs.Rules.{words_or_refusal, object_or_refusal}
use Rattle.m36_program.specs.Alike.{Alike}
use Rattle.m36_program.specs.Program.{May, Program, done, then_with}
use Rattle.m36_program.specs.Readers.{file_bytes}
use Rattle.m36_program.proofs.AlikeLaws.{alike_wants, alike_then, bytes_alike}
use Rattle.m36_files.specs.Catalogs.{boot_catalog, access_lists, catalog_with_rights, catalog_access}
use Rattle.m36_files.specs.Deciding.{end_of_rule, rule_program}
use Rattle.m36_files.specs.EachFile.{read_and_append, read_each}
use Rattle.m36_files.specs.FileReaders.{file_words, file_object}

decided_alike : (may : May) {A : Type 0} (rule : Result A Refusal) → Alike {may = may} (end_of_rule rule) (end_of_rule rule)
unfolding Alike
decided_alike may (Ok a) = refl
decided_alike may (Err (BadFile bad)) = refl
decided_alike may (Err NoMemory) = λ b is. absurd b

pub decides_alike : (may : May) {A : Type 0} (rule : Result A Refusal) → Alike {may = may} (rule_program rule) (rule_program rule)
unfolding Alike rule_program
decides_alike may rule = alike_wants (end_of_rule rule) (end_of_rule rule) (decided_alike may rule)

pub done_alike : (may : May) {A : Type 0} (a : A) → Alike {may = may} (done a) (done a)
unfolding Alike
done_alike may a = refl

-- a rule on what was read
pub rule_alike :
    (may : May) {A B : Type 0} (p : Program may A) (rule : A → Result B Refusal) → Alike p p
    → Alike (then_with p (λ a. rule_program (rule a))) (then_with p (λ a. rule_program (rule a)))
rule_alike may p rule alike =
    alike_then p p (λ a. rule_program (rule a)) (λ a. rule_program (rule a)) alike (λ a. decides_alike may (rule a))

pub words_alike : (may : May) (name : List ℕ) → Alike {may = may} (file_words name) (file_words name)
unfolding file_words
words_alike may name = rule_alike may (file_bytes name) (λ bytes. words_or_refusal name (unpacked bytes)) (bytes_alike may name)

pub object_alike : (may : May) (name : List ℕ) → Alike {may = may} (file_object name) (file_object name)
unfolding file_object
object_alike may name = rule_alike may (file_words name) (λ words. object_or_refusal name (object_of words)) (words_alike may name)

pub catalog_alike : (may : May) → Alike {may = may} boot_catalog boot_catalog
unfolding boot_catalog
catalog_alike may = rule_alike may (file_bytes boot_name) (λ text. catalog_or_refusal (catalog_of text)) (bytes_alike may boot_name)

pub lists_alike : (may : May) (catalog : CatalogFields) → Alike {may = may} (access_lists catalog) (access_lists catalog)
unfolding access_lists
lists_alike may catalog = rule_alike may (file_bytes acl_name) (λ text. lists_or_refusal catalog (lists_of text)) (bytes_alike may acl_name)

rights_alike :
    (may : May) (user : Option (List ℕ)) (catalog : CatalogFields)
    → Alike {may = may} (catalog_with_rights user catalog) (catalog_with_rights user catalog)
unfolding catalog_with_rights
rights_alike may None catalog = done_alike may (with_boot_text_rights catalog)
rights_alike may (Some user) catalog =
    rule_alike may (access_lists catalog) (λ lists. Ok (for_user user catalog lists)) (lists_alike may catalog)

pub access_alike : (may : May) (user : Option (List ℕ)) → Alike {may = may} (catalog_access user) (catalog_access user)
unfolding catalog_access
access_alike may user =
    alike_then boot_catalog boot_catalog (catalog_with_rights user) (catalog_with_rights user) (catalog_alike may) (rights_alike may user)

onto_alike :
    (may : May) {I A : Type 0} (one : I → Program may A) (so_far : List A) (item : I) → Alike (one item) (one item)
    → Alike (read_and_append one so_far item) (read_and_append one so_far item)
unfolding read_and_append
onto_alike may one so_far item alike = rule_alike may (one item) (λ a. Ok (so_far ++ a ∷ [])) alike

pub each_alike :
    (may : May) {I A : Type 0} (one : I → Program may A) (so_far : List A) (items : List I)
    → ((item : I) → Alike (one item) (one item)) → Alike (read_each one so_far items) (read_each one so_far items)
unfolding read_each
each_alike may one so_far [] each = done_alike may so_far
each_alike may one so_far (item ∷ items) each =
    alike_then (read_and_append one so_far item) (read_and_append one so_far item) (λ more. read_each one more items) (λ more. read_each one more items)
    (onto_alike may one so_far item (each item)) (λ more. each_alike may one more items each)
