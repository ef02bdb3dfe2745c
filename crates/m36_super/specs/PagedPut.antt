-- Words that are written into the segments of a paged memory, each where its page is.
use Rattle.std.specs.Prelude.{ℕ, ◌==◌, if◌then◌else◌, List, [], ◌∷◌, Result, Ok, Err}
use Rattle.m36_model.specs.Act.{Part}
use Rattle.m36_model.specs.Faults.{missing_page}
use Rattle.m36_model.specs.Store.{Spot, Core_word, Segment_word, Change, place}
use Rattle.m36_model.specs.Core.{core_store, put_one}
use Rattle.m36_model.specs.Flat.{content_with}
use Rattle.m36_model.specs.BootedCore.{booted_dbr}
use Rattle.m36_model.specs.Residence.{Paged}
use Rattle.m36_model.specs.declared.outcome.Refusal.{Refusal}

-- the memory after a word was written, given where it lies in core or why it does not: into its
-- frame if its page is in one, and into the kept words if the page is absent; a word without a
-- place, such as one past the bound of its segment, is not written
abbrev pub put_at : Paged → ℕ → ℕ → Part → ℕ → Result Spot Refusal → Paged
put_at m seg w part v (Ok spot) = record m { core = put_one m.core spot part v }
put_at m seg w part v (Err why) =
    if why.number == missing_page
    then record m { kept = content_with m.kept seg w part v }
    else m

-- the memory after one word of a segment was written; an address in core is ignored
abbrev pub paged_put_one : Paged → Spot → Part → ℕ → Paged
paged_put_one m (Core_word a) part v = m
paged_put_one m (Segment_word seg w) part v =
    put_at m seg w part v (place core_store m.core booted_dbr seg w)

-- the memory after these words were written, one after another
unfoldable pub paged_put : Paged → List Change → Paged
paged_put m [] = m
paged_put m (p ∷ puts) = paged_put (paged_put_one m p.spot p.part p.value) puts
