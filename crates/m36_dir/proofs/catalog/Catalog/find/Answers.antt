use Rattle.std.proofs.Common.{◌≡◌, rules}
use Rattle.std.specs.List.{position}
use Rattle.m36_dir.specs.Catalog.{has_entry_named}
use Rattle.m36_dir.proofs.Finding.{first_named}
use Rattle.m36_dir.proofs.catalog.Catalog.find.Goals as goal

pub returns-clause-first : goal.returns-clause-first
returns-clause-first c =
    let place : c.place_of_name.result ≡ position (λ s. has_entry_named c.args.dir c.args.name.now s) c.args.self.now.segments = first_of (search rules, cc) in
    first_named c.args.self.now.segments c.args.dir c.args.name.now c.place_of_name.result place
