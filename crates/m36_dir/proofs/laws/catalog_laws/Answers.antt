use Rattle.m36_dir.proofs.Kept.{reads_into_catalogs}
use Rattle.m36_dir.proofs.NamesAreThoseOfTheText.{names_stand}
use Rattle.m36_dir.proofs.NamesOnce.{names_once}
use Rattle.m36_dir.proofs.DirectoriesOnce.{directories_once}
use Rattle.m36_dir.proofs.Finding.{found_by_each_name}
use Rattle.m36_dir.proofs.WordsOfModes.{modes_have_words}
use Rattle.m36_dir.proofs.laws.catalog_laws.Goals as goal

pub returns-clause-catalogs : goal.returns-clause-catalogs
returns-clause-catalogs c = reads_into_catalogs

pub returns-clause-names : goal.returns-clause-names
returns-clause-names c = names_stand

pub returns-clause-once : goal.returns-clause-once
returns-clause-once c = names_once

pub returns-clause-directories : goal.returns-clause-directories
returns-clause-directories c = directories_once

pub returns-clause-found : goal.returns-clause-found
returns-clause-found c = found_by_each_name

pub returns-clause-modes : goal.returns-clause-modes
returns-clause-modes c = modes_have_words
