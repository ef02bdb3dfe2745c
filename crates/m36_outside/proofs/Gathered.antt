-- Laws of pieces that are gathered in a block before they are put into a sink.
use Rattle.std.proofs.Common.{◌≡◌, ℕ, List, [], ◌∷◌, ◌++◌, Option, sym, ap, subst, ◌∙◌}
use Rattle.std.proofs.lemmas.List.{append-nil, append_assoc}
use Rattle.m36_outside.specs.Gathered.{Gathers, FailsPartway, Adds}
use Rattle.m36_outside.specs.Passing.{joined, TakesPart, TakesSome, TakesLines}
use Rattle.m36_outside.specs.Put.{PutResult}
use Rattle.m36_outside.specs.Written.{Grew, GrewWithin}
use Rattle.m36_outside.specs.declared.sink.Put.{Put}
use Rattle.m36_outside.specs.declared.sink.Put.TheVariants.{Done, Failed}
use Rattle.m36_outside.proofs.Blocks.{joined_both}
use Rattle.m36_outside.proofs.Completes.{Completes, completes_rest, completes_cut}
use Rattle.m36_outside.proofs.Takes.{joined_more}
use Rattle.m36_outside.proofs.Grown.{grew_by_nothing, grew_on, grew_more, grew_longer}
use Rattle.m36_outside.proofs.LinesTaken.{CompletesLines, completes_lines_rest, takes_no_lines, takes_lines_on, takes_lines_more, takes_lines_longer, takes_some_of_line}

-- there was room
pub gathers_here :
    (old new more : List (List ℕ)) (written : Option (List ℕ)) (taken : List (List ℕ))
    → new ≡ old ++ more → Gathers old new more written written taken taken
gathers_here old new more written taken is = record {
  handed = [];
  due = sym is;
  grew = grew_by_nothing written;
  took = takes_no_lines taken;
}

-- the pieces of the block were put, and then others were added to it
pub gathers_after :
    (old now new more : List (List ℕ)) (written between written' : Option (List ℕ)) (taken midway taken' : List (List ℕ))
    → Grew written between (joined old) → midway ≡ taken ++ old → now ≡ []
    → Gathers now new more between written' midway taken' → Gathers old new more written written' taken taken'
gathers_after old now new more written between written' taken midway taken' grew took none next = record {
  handed = old ++ next.handed;
  due = ap (λ l. old ++ l) (sym (ap (λ l. l ++ more) none) ∙ next.due) ∙ sym (append_assoc old next.handed new);
  grew = subst (λ t. Grew written written' t) (sym (joined_both old next.handed)) (grew_on written between written' (joined old) (joined next.handed) grew next.grew);
  took = takes_lines_on taken midway taken' old next.handed took next.took;
}

pub loses_behind :
    (old now more : List (List ℕ)) (written between written' : Option (List ℕ)) (taken midway taken' : List (List ℕ))
    → Grew written between (joined old) → midway ≡ taken ++ old → now ≡ []
    → FailsPartway (now ++ more) between written' midway taken' → FailsPartway (old ++ more) written written' taken taken'
loses_behind old now more written between written' taken midway taken' grew took none next =
    let same : now ++ more ≡ more = ap (λ l. l ++ more) none in
    let rest = subst (λ l. FailsPartway l between written' midway taken') same next in record {
      grew = subst (λ t. GrewWithin written written' t) (sym (joined_both old more)) (grew_more written between written' (joined old) (joined more) grew rest.grew);
      took = takes_lines_more taken midway taken' old more took rest.took;
    }

pub adds_behind :
    (answer : Put) (start old now new more : List (List ℕ)) (written between written' : Option (List ℕ)) (taken midway taken' : List (List ℕ))
    → old ≡ start → Grew written between (joined old) → midway ≡ taken ++ old → now ≡ []
    → Adds answer now new more between written' midway taken' → Adds answer start new more written written' taken taken'
adds_behind Done start old now new more written between written' taken midway taken' same grew took none next =
    subst (λ l. Gathers l new more written written' taken taken') same
    (gathers_after old now new more written between written' taken midway taken' grew took none next)
adds_behind Failed start old now new more written between written' taken midway taken' same grew took none next =
    subst (λ l. FailsPartway (l ++ more) written written' taken taken') same
    (loses_behind old now more written between written' taken midway taken' grew took none next)

-- the pieces of the block could not be put
pub loses_here :
    (old more : List (List ℕ)) (written written' : Option (List ℕ)) (taken taken' : List (List ℕ))
    → GrewWithin written written' (joined old) → TakesSome taken taken' old → FailsPartway (old ++ more) written written' taken taken'
loses_here old more written written' taken taken' grew took = record {
  grew = subst (λ t. GrewWithin written written' t) (sym (joined_both old more)) (grew_longer written written' (joined old) (joined more) grew);
  took = takes_lines_longer taken taken' old more took;
}

-- a piece was put that is too long for a block
pub gathers_put :
    (old new : List (List ℕ)) (piece : List ℕ) (written written' : Option (List ℕ)) (taken taken' : List (List ℕ))
    → old ≡ [] → new ≡ old → Grew written written' piece → taken' ≡ taken ++ piece ∷ []
    → Gathers old new (piece ∷ []) written written' taken taken'
gathers_put old new piece written written' taken taken' none same grew took = record {
  handed = piece ∷ [];
  due = ap (λ l. l ++ piece ∷ []) none ∙ ap (λ l. piece ∷ l) (sym (same ∙ none));
  grew = subst (λ t. Grew written written' t) (sym (append-nil piece)) grew;
  took = took;
}

pub loses_put :
    (old : List (List ℕ)) (piece : List ℕ) (written written' : Option (List ℕ)) (taken taken' : List (List ℕ))
    → old ≡ [] → GrewWithin written written' piece → TakesPart written written' taken taken' piece
    → FailsPartway (old ++ piece ∷ []) written written' taken taken'
loses_put old piece written written' taken taken' none grew took =
    subst (λ l. FailsPartway (l ++ piece ∷ []) written written' taken taken') (sym none) (record {
      grew = subst (λ t. GrewWithin written written' t) (sym (append-nil piece)) grew;
      took = takes_some_of_line written written' taken taken' piece took;
    })

-- what a function that adds pieces to a block takes by `using`
pub ruleset gathering = (gathers_here, gathers_after, loses_behind, loses_here, gathers_put, loses_put)

-- ---- pieces that are added, and put at the end

-- what is in the block was put after what was put before
finished :
    (old mid more : List (List ℕ)) (written between written' : Option (List ℕ)) (taken midway : List (List ℕ))
    → Gathers old mid more written between taken midway → Grew between written' (joined mid)
    → Grew written written' (joined (old ++ more))
finished old mid more written between written' taken midway first last =
    subst (λ t. Grew written written' t) (sym (ap joined first.due ∙ joined_both first.handed mid))
    (grew_on written between written' (joined first.handed) (joined mid) first.grew last)

finished_cut :
    (old mid more : List (List ℕ)) (written between written' : Option (List ℕ)) (taken midway : List (List ℕ))
    → Gathers old mid more written between taken midway → GrewWithin between written' (joined mid)
    → GrewWithin written written' (joined (old ++ more))
finished_cut old mid more written between written' taken midway first last =
    subst (λ t. GrewWithin written written' t) (sym (ap joined first.due ∙ joined_both first.handed mid))
    (grew_more written between written' (joined first.handed) (joined mid) first.grew last)

pub finished_says :
    (answer : Put) (old mid more : List (List ℕ)) (written between written' : Option (List ℕ)) (taken midway : List (List ℕ))
    → Gathers old mid more written between taken midway → PutResult answer between written' (joined mid)
    → PutResult answer written written' (joined (old ++ more))
finished_says Done old mid more written between written' taken midway first last =
    finished old mid more written between written' taken midway first last
finished_says Failed old mid more written between written' taken midway first last =
    finished_cut old mid more written between written' taken midway first last

pub finished_takes :
    (answer : Put) (old mid more : List (List ℕ)) (written between : Option (List ℕ)) (taken midway taken' : List (List ℕ))
    → Gathers old mid more written between taken midway → TakesLines answer midway taken' mid
    → TakesLines answer taken taken' (old ++ more)
finished_takes Done old mid more written between taken midway taken' first last =
    takes_lines_on taken midway taken' first.handed mid first.took last ∙ ap (λ l. taken ++ l) (sym first.due)
finished_takes Failed old mid more written between taken midway taken' first last =
    subst (λ l. TakesSome taken taken' l) (sym first.due)
    (takes_lines_more taken midway taken' first.handed mid first.took last)

-- ---- a run that gathers its pieces: the block and what is left are still to be put

-- one more was added
pub completes_added :
    (now next start : Option (List ℕ)) (taken taken' old new : List (List ℕ)) (piece before left all : List ℕ)
    → Completes now start (joined old ++ before) all → before ≡ piece ++ left
    → Gathers old new (piece ∷ []) now next taken taken' → Completes next start (joined new ++ left) all
completes_added now next start taken taken' old new piece before left all run begins added =
    let parts : joined old ++ piece ≡ joined added.handed ++ joined new =
    sym (joined_more old piece) ∙ ap joined added.due ∙ joined_both added.handed new in
    let same : joined old ++ before ≡ joined added.handed ++ (joined new ++ left) =
    ap (λ l. joined old ++ l) begins ∙ sym (append_assoc (joined old) piece left)
    ∙ ap (λ l. l ++ left) parts ∙ append_assoc (joined added.handed) (joined new) left in
    completes_rest now next start (joined old ++ before) (joined added.handed) (joined new ++ left) all run same added.grew

pub lines_added :
    (now next : Option (List ℕ)) (taken taken' start old new : List (List ℕ)) (piece : List ℕ) (before left all : List (List ℕ))
    → CompletesLines taken start (old ++ before) all → before ≡ piece ∷ left
    → Gathers old new (piece ∷ []) now next taken taken' → CompletesLines taken' start (new ++ left) all
lines_added now next taken taken' start old new piece before left all run begins added =
    let same : old ++ before ≡ added.handed ++ (new ++ left) =
    ap (λ l. old ++ l) begins ∙ sym (append_assoc old (piece ∷ []) left)
    ∙ ap (λ l. l ++ left) added.due ∙ append_assoc added.handed new left in
    completes_lines_rest taken taken' start (old ++ before) added.handed (new ++ left) all run same added.took

-- it could not be added
pub completes_lost :
    (now new start : Option (List ℕ)) (taken taken' old : List (List ℕ)) (piece before left all : List ℕ)
    → Completes now start (joined old ++ before) all → before ≡ piece ++ left
    → FailsPartway (old ++ piece ∷ []) now new taken taken' → GrewWithin start new all
completes_lost now new start taken taken' old piece before left all run begins lost =
    let same : joined old ++ before ≡ joined (old ++ piece ∷ []) ++ left =
    ap (λ l. joined old ++ l) begins ∙ sym (append_assoc (joined old) piece left)
    ∙ ap (λ l. l ++ left) (sym (joined_more old piece)) in
    completes_cut now new start (joined old ++ before) (joined (old ++ piece ∷ [])) left all run same lost.grew

pub lines_lost :
    (now next : Option (List ℕ)) (taken new start old : List (List ℕ)) (piece : List ℕ) (before left all : List (List ℕ))
    → CompletesLines taken start (old ++ before) all → before ≡ piece ∷ left
    → FailsPartway (old ++ piece ∷ []) now next taken new → TakesSome start new all
lines_lost now next taken new start old piece before left all run begins lost =
    let same : old ++ before ≡ (old ++ piece ∷ []) ++ left =
    ap (λ l. old ++ l) begins ∙ sym (append_assoc old (piece ∷ []) left) in
    run.cut new (subst (λ l. TakesSome taken new l) (sym same) (takes_lines_longer taken new (old ++ piece ∷ []) left lost.took))

-- the last was added, and all were put
pub completes_finished :
    (now new start : Option (List ℕ)) (old : List (List ℕ)) (piece all : List ℕ)
    → Completes now start (joined old ++ piece) all → Grew now new (joined (old ++ piece ∷ [])) → Grew start new all
completes_finished now new start old piece all run grew =
    run.whole new (subst (λ t. Grew now new t) (joined_more old piece) grew)

pub completes_finished_cut :
    (now new start : Option (List ℕ)) (old : List (List ℕ)) (piece all : List ℕ)
    → Completes now start (joined old ++ piece) all → GrewWithin now new (joined (old ++ piece ∷ [])) → GrewWithin start new all
completes_finished_cut now new start old piece all run cut =
    run.cut new (subst (λ t. GrewWithin now new t) (joined_more old piece) cut)

-- what a function that adds the last piece takes by `using`
pub ruleset finishing = (finished_says, finished_takes)
