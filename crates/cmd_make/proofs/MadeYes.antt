-- If what `make` puts begins with the count of segments and `audit yes`, the system that was made passes its audit.
use Rattle.std.proofs.Common.{◌≡◌, ◌⊎◌, ℕ, List, [], ◌∷◌, ◌++◌, Result, Err, sym, ap, subst, ◌∙◌, inl, inr}
use Rattle.std.proofs.Common.{append_assoc}
use Rattle.std.proofs.lemmas.List.{append-nil, append_cancel_left}
use Rattle.std.proofs.lemmas.List.Folds.{concat-append}
use Rattle.m36_outside.specs.Passing.{joined}
use Rattle.m36_super.specs.SuperFields.{SuperFields, booted_of}
use Rattle.m36_world.specs.declared.event.Event.{Event}
use Rattle.m36_status.specs.declared.setting.Set.{Set}
use Rattle.m36_status.specs.declared.status.Status.{Status}
use Rattle.m36_status.specs.declared.status.Status.TheVariants.{NoMemory}
use Rattle.m36_program.specs.Ended.{StartsWith}
use Rattle.m36_program.specs.Goes.{Ends, Goes}
use Rattle.m36_program.specs.MayHappen.{pieces_of}
use Rattle.cmd_image.specs.AuditText.{yes_line, audit_text}
use Rattle.cmd_image.specs.ImageAudit.{passes}
use Rattle.cmd_image.proofs.YesAnswers.{none_found}
use Rattle.cmd_folder.specs.Folder.{FolderFields}
use Rattle.cmd_folder.specs.Promise.{PassesFolderAudit}
use Rattle.cmd_folder.proofs.PutsSplit.{PutsSplit, puts_split}
use Rattle.cmd_make.specs.Made.{PassesIfBooted, PassesMakeAudit, head_line_of_outcome, head_line_of_files}
use Rattle.cmd_make.specs.MakeProgram.{runs_or_ends, make_after_audit, write_and_boot}
use Rattle.cmd_make.specs.Summary.{head_line, segment_count, head_pieces}
use Rattle.cmd_make.proofs.MakeGoes.{WritesAndBoots, WriteEnds, write_split, pieces_written, BootSplit, boot_split}
use Rattle.cmd_make.proofs.MakeGoes.{SystemFound, booted_split}

-- the first line and `audit yes`, after any line
abbrev yes_after : List ℕ → List ℕ
yes_after head = head ++ yes_line

nothing_starts : {P : Type 0} (head rest : List ℕ) → [] ≡ yes_after head ++ rest → P
nothing_starts [] rest is = absurd (cc)
nothing_starts (b ∷ head) rest is = absurd (cc)

-- nothing was put
nothing_put :
    {P : Type 0} (head : List ℕ) (pieces : List (List ℕ)) → pieces ≡ [] → StartsWith (yes_after head) pieces → P
nothing_put head pieces none starts = nothing_starts head starts.rest (sym (ap joined none) ∙ starts.is)

-- ---- the lines of a system

-- What is put, and more, is the lines before the run, and more.
pub record Overlap (pieces all : List (List ℕ)) : Type 0 where
  pub after : List ℕ
  pub more : List ℕ
  pub is : joined pieces ++ after ≡ joined all ++ more

overlap :
    (count : ℕ) (findings : List (ℕ × ℕ)) (given : FolderFields) (system : SuperFields) (events : List Event)
    (result : Result (Unit {0}) Status)
    → PutsSplit (head_pieces count findings) (runs_or_ends (passes findings) given.lib (booted_of system)) events result
    → Overlap (pieces_of events) (head_pieces count findings)
overlap count findings given system events result (inl on) = record {
  after = [];
  more = joined (pieces_of on.more);
  is =
      append-nil (joined (pieces_of events)) ∙ ap joined on.is
      ∙ concat-append (head_pieces count findings) (pieces_of on.more);
}
overlap count findings given system events result (inr first) = record {
  after = joined first.left;
  more = [];
  is =
      sym (concat-append (pieces_of events) first.left) ∙ sym (ap joined first.is)
      ∙ sym (append-nil (joined (head_pieces count findings)));
}

none_in :
    (count : ℕ) (findings : List (ℕ × ℕ)) (pieces : List (List ℕ))
    → StartsWith (yes_after (head_line count)) pieces → Overlap pieces (head_pieces count findings) → findings ≡ []
none_in count findings pieces starts over =
    let head = head_line count in
    let left : joined pieces ++ over.after ≡ head ++ (yes_line ++ (starts.rest ++ over.after)) =
    ap (λ t. t ++ over.after) starts.is ∙ append_assoc (yes_after head) starts.rest over.after
    ∙ append_assoc head yes_line (starts.rest ++ over.after) in
    let right : joined (head_pieces count findings) ++ over.more ≡ head ++ (audit_text findings ++ over.more) =
    append_assoc head (audit_text findings) over.more in
    none_found findings over.more (starts.rest ++ over.after)
    (append_cancel_left head (audit_text findings ++ over.more) (yes_line ++ (starts.rest ++ over.after))
    (sym right ∙ sym over.is ∙ left))

system_yes :
    (given : FolderFields) (events : List Event) (result : Result (Unit {0}) Status)
    → StartsWith (yes_after (head_line (segment_count given.lib))) (pieces_of events)
    → SystemFound given events result ⊎ Ends (Err NoMemory) events result → PassesFolderAudit given.lib
unfolding make_after_audit
system_yes given events result starts (inl found) =
    let count = segment_count given.lib in
    found.found.passes
    (none_in count found.findings (pieces_of events) starts
    (overlap count found.findings given found.system events result
    (puts_split (head_pieces count found.findings)
    (runs_or_ends (passes found.findings) given.lib (booted_of found.system)) events result found.goes)))
system_yes given events result starts (inr ends) =
    nothing_put (head_line (segment_count given.lib)) (pieces_of events) (ap pieces_of ends.none) starts

-- ---- the files

boot_yes :
    (sets : List Set) (events : List Event) (result : Result (Unit {0}) Status)
    → StartsWith (yes_after (head_line_of_files sets)) (pieces_of events) → BootSplit sets events result → PassesMakeAudit sets
boot_yes sets events result starts (inl then) =
    subst PassesIfBooted (sym then.boots)
    (system_yes then.given events result
    (subst (λ b. StartsWith (yes_after (head_line_of_outcome b)) (pieces_of events)) then.boots starts)
    (booted_split then.given events result then.goes))
boot_yes sets events result starts (inr (inl refused)) =
    nothing_put (head_line_of_files sets) (pieces_of events) (ap pieces_of refused.none) starts
boot_yes sets events result starts (inr (inr ends)) =
    nothing_put (head_line_of_files sets) (pieces_of events) (ap pieces_of ends.none) starts

write_yes :
    (sets : List Set) (events : List Event) (result : Result (Unit {0}) Status)
    → StartsWith (yes_after (head_line_of_files sets)) (pieces_of events) → WritesAndBoots sets events result
    ⊎ WriteEnds events result
    → PassesMakeAudit sets
write_yes sets events result starts (inl then) =
    boot_yes sets then.more result
    (subst (StartsWith (yes_after (head_line_of_files sets))) (ap pieces_of then.is ∙ pieces_written sets then.more) starts)
    (boot_split sets then.more result then.goes)
write_yes sets events result starts (inr ends) = nothing_put (head_line_of_files sets) (pieces_of events) ends.none starts

-- If what is put begins so, the system passes.
pub seed_yes :
    (sets : List Set) (events : List Event) (result : Result (Unit {0}) Status)
    → StartsWith (yes_after (head_line_of_files sets)) (pieces_of events)
    → Goes (write_and_boot sets) events result ⊎ Ends (Err NoMemory) events result → PassesMakeAudit sets
seed_yes sets events result starts (inl goes) =
    write_yes sets events result starts (write_split sets events result goes)
seed_yes sets events result starts (inr ends) =
    nothing_put (head_line_of_files sets) (pieces_of events) (ap pieces_of ends.none) starts
