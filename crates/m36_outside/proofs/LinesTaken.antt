-- Laws of lines that a sink takes, each as one piece: what two calls took, one after the other, is what both took.
use Rattle.std.proofs.Common.{◌≡◌, ℕ, List, [], ◌∷◌, ◌++◌, Option, refl, sym, ap, subst, ◌∙◌}
use Rattle.std.proofs.lemmas.List.{append-nil, append_assoc}
use Rattle.m36_outside.specs.Passing.{TakesPart, TakesSome}

-- no pieces need no put
pub takes_no_lines : (now : List (List ℕ)) → now ≡ now ++ []
takes_no_lines now = sym (append-nil now)

-- some lines, and then others
pub takes_lines_on :
    (old now new first second : List (List ℕ))
    → now ≡ old ++ first → new ≡ now ++ second → new ≡ old ++ (first ++ second)
takes_lines_on old now new first second one two =
    two ∙ ap (λ taken. taken ++ second) one ∙ append_assoc old first second

-- a prefix of the one line that was put
pub takes_some_of_line :
    (written written' : Option (List ℕ)) (old new : List (List ℕ)) (line : List ℕ)
    → TakesPart written written' old new line → TakesSome old new (line ∷ [])
takes_some_of_line written written' old new line cut = record {
  lines = [];
  line = line;
  left = [];
  part = cut.part;
  rest = cut.rest;
  is = refl;
  line_is = cut.is;
  took = cut.took ∙ ap (λ taken. taken ++ cut.part ∷ []) (sym (append-nil old));
}

-- some lines, and then some others and a prefix of the next
pub takes_lines_more :
    (old now new first second : List (List ℕ))
    → now ≡ old ++ first → TakesSome now new second → TakesSome old new (first ++ second)
takes_lines_more old now new first second one cut = record {
  lines = first ++ cut.lines;
  line = cut.line;
  left = cut.left;
  part = cut.part;
  rest = cut.rest;
  is = ap (λ due. first ++ due) cut.is ∙ sym (append_assoc first cut.lines (cut.line ∷ cut.left));
  line_is = cut.line_is;
  took = cut.took
      ∙ ap (λ taken. (taken ++ cut.lines) ++ cut.part ∷ []) one
      ∙ ap (λ taken. taken ++ cut.part ∷ []) (append_assoc old first cut.lines);
}

-- some lines and a prefix of the next are so of more lines
pub takes_lines_longer :
    (old new first second : List (List ℕ)) → TakesSome old new first → TakesSome old new (first ++ second)
takes_lines_longer old new first second cut = record {
  lines = cut.lines;
  line = cut.line;
  left = cut.left ++ second;
  part = cut.part;
  rest = cut.rest;
  is = ap (λ due. due ++ second) cut.is ∙ append_assoc cut.lines (cut.line ∷ cut.left) second;
  line_is = cut.line_is;
  took = cut.took;
}

-- a prefix of the first of several lines
pub takes_some_of_lines :
    (written written' : Option (List ℕ)) (old new left : List (List ℕ)) (line : List ℕ)
    → TakesPart written written' old new line → TakesSome old new (line ∷ left)
takes_some_of_lines written written' old new left line cut =
    takes_lines_longer old new (line ∷ []) left (takes_some_of_line written written' old new line cut)

-- the first of several lines, and then a part of the others
pub takes_line_more :
    (old now new left : List (List ℕ)) (line : List ℕ)
    → now ≡ old ++ line ∷ [] → TakesSome now new left → TakesSome old new (line ∷ left)
takes_line_more old now new left line one cut = takes_lines_more old now new (line ∷ []) left one cut

-- the first of several lines, and then the others
pub takes_line_on :
    (old now new left : List (List ℕ)) (line : List ℕ)
    → now ≡ old ++ line ∷ [] → new ≡ now ++ left → new ≡ old ++ line ∷ left
takes_line_on old now new left line one two = takes_lines_on old now new (line ∷ []) left one two

-- Of the pieces `all`, taken from `start` on, `left` are still to be taken after `now`.
pub record CompletesLines (now start left all : List (List ℕ)) : Type 0 where
  pub whole : (new : List (List ℕ)) → new ≡ now ++ left → new ≡ start ++ all
  pub cut : (new : List (List ℕ)) → TakesSome now new left → TakesSome start new all

-- at the start all are left
pub completes_lines_all : (start all : List (List ℕ)) → CompletesLines start start all all
completes_lines_all start all = record { whole = λ new took. took; cut = λ new some. some }

-- lines were taken as a whole, and the rest of what was left is still to be taken
pub completes_lines_rest :
    (now next start before first left all : List (List ℕ))
    → CompletesLines now start before all → before ≡ first ++ left → next ≡ now ++ first
    → CompletesLines next start left all
completes_lines_rest now next start before first left all run begins took = record {
  whole = λ new rest. run.whole new (subst (λ due. new ≡ now ++ due) (sym begins) (takes_lines_on now next new first left took rest));
  cut = λ new some. run.cut new (subst (λ due. TakesSome now new due) (sym begins) (takes_lines_more now next new first left took some));
}

-- the last lines were taken as a whole, or some of them
pub completes_lines_whole :
    (now new start left all : List (List ℕ)) → CompletesLines now start left all → new ≡ now ++ left → new ≡ start ++ all
completes_lines_whole now new start left all before took = before.whole new took

pub completes_lines_cut_last :
    (now new start left all : List (List ℕ))
    → CompletesLines now start left all → TakesSome now new left → TakesSome start new all
completes_lines_cut_last now new start left all before some = before.cut new some
