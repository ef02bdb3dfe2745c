-- Laws of a writer whose bytes are known: its bytes grew by what was written.
use Rattle.std.proofs.Common.{◌≡◌, ℕ, ◌+◌, ◌≤◌, List, [], ◌++◌, length, take, drop, Option, Some, None, IfSome, refl, sym, ap, ◌∙◌, take-add}
use Rattle.std.proofs.lemmas.List.{append-nil, append_assoc, take-append-drop, take_all}
use Rattle.std.specs.Io.KnownBytes.{Appends, Keeps}
use Rattle.m36_outside.specs.Written.{Grew, GrewWithin}

-- nothing was written yet
pub appends_none : (now : Option (List ℕ)) (bytes : List ℕ) → Appends now now (take 0 bytes)
appends_none None bytes = tt
appends_none (Some held) bytes = sym (append-nil held)

-- one more write
pub appends_more :
    (start now next : Option (List ℕ)) (bytes : List ℕ) (done count : ℕ)
    → Appends start now (take done bytes) → Appends now next (take count (drop done bytes))
    → Appends start next (take (done + count) bytes)
appends_more None now next bytes done count first more = tt
appends_more (Some held) None next bytes done count first more = absurd first
appends_more (Some held) (Some part) None bytes done count first more = absurd more
appends_more (Some held) (Some part) (Some whole) bytes done count first more =
    more ∙ ap (λ l. l ++ take count (drop done bytes)) first ∙ append_assoc held (take done bytes) (take count (drop done bytes))
    ∙ ap (λ l. held ++ l) (sym (take-add done count bytes))

-- a write that took nothing, after others that took nothing
pub keeps_by_nothing :
    (start now next : Option (List ℕ)) → Keeps start now → Appends now next [] → Keeps start next
keeps_by_nothing None now next first more = tt
keeps_by_nothing (Some held) None next first more = absurd first
keeps_by_nothing (Some held) (Some same) None first more = absurd more
keeps_by_nothing (Some held) (Some same) (Some rest) first more = more ∙ append-nil same ∙ first

-- a write after others that took nothing
pub appends_after :
    (start now next : Option (List ℕ)) (bytes : List ℕ)
    → Keeps start now → Appends now next bytes → Appends start next bytes
appends_after None now next bytes same more = tt
appends_after (Some held) None next bytes same more = absurd same
appends_after (Some held) (Some part) None bytes same more = absurd more
appends_after (Some held) (Some part) (Some whole) bytes same more = more ∙ ap (λ l. l ++ bytes) same

-- nothing was written, and the bytes are unchanged
pub keeps_nothing : (now next : Option (List ℕ)) → Appends now next [] → Keeps now next
keeps_nothing None next more = tt
keeps_nothing (Some held) None more = absurd more
keeps_nothing (Some held) (Some same) more = more ∙ append-nil held

pub appends_nothing : (now next : Option (List ℕ)) → Keeps now next → Appends now next []
appends_nothing None next same = tt
appends_nothing (Some held) None same = absurd same
appends_nothing (Some held) (Some kept) same = same ∙ sym (append-nil held)

-- a write that took nothing, or a flush
pub appends_kept :
    (start now next : Option (List ℕ)) (bytes : List ℕ) (done : ℕ)
    → Appends start now (take done bytes) → Keeps now next → IfSome start (λ held. GrewWithin (Some held) next bytes)
appends_kept None now next bytes done first more = tt
appends_kept (Some held) None next bytes done first more = absurd first
appends_kept (Some held) (Some part) None bytes done first more = absurd more
appends_kept (Some held) (Some part) (Some whole) bytes done first more = record {
  part = take done bytes;
  rest = drop done bytes;
  whole = sym (take-append-drop done bytes);
  grew = ap (λ l. Some l) (more ∙ first);
}

-- the last write failed or was never made
pub appends_part :
    (start now : Option (List ℕ)) (bytes : List ℕ) (done : ℕ)
    → Appends start now (take done bytes) → IfSome start (λ held. GrewWithin (Some held) now bytes)
appends_part None now bytes done first = tt
appends_part (Some held) None bytes done first = absurd first
appends_part (Some held) (Some part) bytes done first = appends_kept (Some held) (Some part) (Some part) bytes done first refl

-- all was written, and then flushed
pub appends_whole :
    (start now next : Option (List ℕ)) (bytes : List ℕ) (done : ℕ)
    → Appends start now (take done bytes) → Keeps now next → length bytes ≤ done
    → IfSome start (λ held. Grew (Some held) next bytes)
appends_whole None now next bytes done first more all = tt
appends_whole (Some held) None next bytes done first more all = absurd first
appends_whole (Some held) (Some part) None bytes done first more all = absurd more
appends_whole (Some held) (Some part) (Some whole) bytes done first more all =
    ap (λ l. Some l) (more ∙ first ∙ ap (λ l. held ++ l) (take_all done bytes all))

-- as above, for a list that is known
pub grows_more :
    (start now next bytes : List ℕ) (done count : ℕ)
    → now ≡ start ++ take done bytes → next ≡ now ++ take count (drop done bytes)
    → next ≡ start ++ take (done + count) bytes
grows_more start now next bytes done count first more =
    appends_more (Some start) (Some now) (Some next) bytes done count first more

pub grows_part :
    (start now bytes : List ℕ) (done : ℕ)
    → now ≡ start ++ take done bytes → GrewWithin (Some start) (Some now) bytes
grows_part start now bytes done first = appends_part (Some start) (Some now) bytes done first

pub grows_whole :
    (start now bytes : List ℕ) (done : ℕ)
    → now ≡ start ++ take done bytes → length bytes ≤ done → now ≡ start ++ bytes
grows_whole start now bytes done first all = first ∙ ap (λ l. start ++ l) (take_all done bytes all)

pub ruleset appending = (grows_more, grows_part, grows_whole, appends_none, appends_more, appends_kept, appends_part, appends_whole)
