-- Laws of a loop that reads something for each item of a list.
use Rattle.std.proofs.Common.{◌≡◌, ℕ, ◌+◌, ◌<◌, ◌≤◌, List, [], ◌∷◌, ◌++◌, length, drop, get_or, Result, Ok, Err, refl, sym, ap, ◌∙◌}
use Rattle.std.proofs.lemmas.List.{drop_more, drop_all}
use Rattle.m36_world.specs.Seen.{Seen}
use Rattle.m36_status.specs.declared.refusal.Refusal.{Refusal}
use Rattle.m36_status.specs.declared.status.Status.{Status}
use Rattle.m36_status.specs.Refusing.{IsRuleResult}
use Rattle.m36_program.specs.Performs.{Performs, Leads}
use Rattle.m36_program.specs.Program.{May, Program, done, then_with}
use Rattle.m36_program.proofs.LeadLaws.{leads_start, leads_as, leads_then, leads_stop, leads_ends}
use Rattle.m36_program.proofs.Performing.{goes_done, performs_none}
use Rattle.m36_files.specs.Deciding.{refusal_to_status}
use Rattle.m36_files.specs.EachFile.{read_and_append, read_each}
use Rattle.m36_files.proofs.DecidingLaws.{rule_after, rule_never}

-- ---- one more

pub onto_read :
    (may : May) {I A : Type 0} (one : I → Program may A) (so_far : List A) (item : I) (a : A)
    (given : Result (List A) Refusal) (result : Result (List A) Status) (old new : Seen)
    → Performs (one item) (Ok a) old new → IsRuleResult given (Ok (so_far ++ a ∷ [])) → result ≡ refusal_to_status given
    → Performs (read_and_append one so_far item) result old new
unfolding read_and_append
onto_read may one so_far item a given result old new performs gives is =
    rule_after may (one item) (λ x. Ok (so_far ++ x ∷ [])) a a given result old new performs refl gives is

pub onto_unread :
    (may : May) {I A : Type 0} (one : I → Program may A) (so_far : List A) (item : I) (s : Status) (old new : Seen)
    → Performs (one item) (Err s) old new → Performs (read_and_append one so_far item) (Err s) old new
unfolding read_and_append
onto_unread may one so_far item s old new performs =
    rule_never may (one item) (λ x. Ok (so_far ++ x ∷ [])) s old new performs

-- ---- each

next_item :
    {may : May} {I A : Type 0} (one : I → Program may A) (so_far : List A) (items : List I) (i : ℕ) (item : I)
    → i < length items → item ≡ get_or items i item
    → read_each one so_far (drop i items) ≡ then_with (read_and_append one so_far item) (λ more. read_each one more (drop (i + 1) items))
unfolding read_each
next_item one so_far items i item inside at =
    ap (read_each one so_far) (drop_more items i item inside ∙ ap (λ x. x ∷ drop (i + 1) items) (sym at))

-- nothing is read yet
pub each_start :
    {may : May} {I A : Type 0} (one : I → Program may A) (so_far : List A) (items : List I) (seen : Seen) → so_far ≡ []
    → Leads (read_each one so_far items) (read_each one [] items) seen seen
each_start one so_far items seen none =
    leads_as (read_each one [] items) (read_each one so_far items) (read_each one [] items) seen seen
    (ap (λ l. read_each one l items) (sym none)) (leads_start (read_each one [] items) seen)

-- one more was read
pub each_next :
    {may : May} {I A : Type 0} (one : I → Program may A) (so_far more : List A) (items : List I) (i : ℕ) (item : I)
    (first : Program may (List A)) (old between new : Seen)
    → i < length items → item ≡ get_or items i item
    → Leads (read_each one so_far (drop i items)) first old between
    → Performs (read_and_append one so_far item) (Ok more) between new
    → Leads (read_each one more (drop (i + 1) items)) first old new
each_next one so_far more items i item first old between new inside at left performs =
    leads_then (read_and_append one so_far item) (λ l. read_each one l (drop (i + 1) items)) first more old between new
    (leads_as _ _ first old between (next_item one so_far items i item inside at) left) performs

-- one ended it
pub each_stop :
    {may : May} {I A : Type 0} (one : I → Program may A) (so_far : List A) (items : List I) (i : ℕ) (item : I)
    (first : Program may (List A)) (s : Status) (old between new : Seen)
    → i < length items → item ≡ get_or items i item
    → Leads (read_each one so_far (drop i items)) first old between
    → Performs (read_and_append one so_far item) (Err s) between new
    → Performs first (Err s) old new
each_stop one so_far items i item first s old between new inside at left performs =
    leads_stop (read_and_append one so_far item) (λ l. read_each one l (drop (i + 1) items)) first s old between new
    (leads_as _ _ first old between (next_item one so_far items i item inside at) left) performs

-- all were read
pub each_end :
    {may : May} {I A : Type 0} (one : I → Program may A) (so_far : List A) (items : List I) (i : ℕ)
    (first : Program may (List A)) (old new : Seen)
    → length items ≤ i → Leads (read_each one so_far (drop i items)) first old new
    → Performs first (Ok so_far) old new
unfolding read_each
each_end {may} {I} one so_far items i first old new past left =
    leads_ends (done so_far) first (Ok so_far) old new new
    (leads_as (read_each one so_far (drop i items)) (done so_far) first old new (ap (read_each one so_far) (drop_all i items past)) left)
    (performs_none (done so_far) (Ok so_far) new (goes_done may so_far))
