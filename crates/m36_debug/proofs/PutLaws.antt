-- Laws of lines that are put one after another.
use Rattle.std.proofs.Common.{◌≡◌, ◌≤◌, ◌<◌, ◌+◌, ℕ, List, [], ◌∷◌, ◌++◌, length, take, drop, get_or, refl, sym, ap, subst, ◌∙◌}
use Rattle.std.proofs.lemmas.List.{append_assoc, take_all, at_drop_more, at_drop_all}
use Rattle.m36_desc.specs.Fields.{PtrFields}
use Rattle.m36_outside.specs.declared.sink.Put.{Put}
use Rattle.m36_outside.specs.declared.sink.Put.TheVariants.{Done, Failed}
use Rattle.m36_world.specs.Happened.{IsOutputFailed}
use Rattle.m36_world.specs.Follow.{Follow, outputs}
use Rattle.m36_world.specs.Seen.{Seen}
use Rattle.m36_program.proofs.Gathered.{follow_pieces, gathers_none, loses_here}
use Rattle.m36_debug.specs.Putting.{Pending, pending, PutsPieces}
use Rattle.m36_debug.specs.SessionTexts.{pointer_line, pointer_lines}

-- nothing is to be put
pub puts_nothing : (now : Pending) → PutsPieces Done [] now now
puts_nothing now = gathers_none now.block now.world

-- some lines, and then others
pub puts_on :
    (old now new : Pending) (first second : List (List ℕ))
    → PutsPieces Done first old now → PutsPieces Done second now new → PutsPieces Done (first ++ second) old new
puts_on old now new first second one two = record {
  handed = one.handed ++ two.handed;
  is = sym (append_assoc old.block first second) ∙ ap (λ l. l ++ second) one.is ∙ append_assoc one.handed now.block second
      ∙ ap (λ l. one.handed ++ l) two.is ∙ sym (append_assoc one.handed two.handed new.block);
  follow = follow_pieces one.handed two.handed old.world now.world new.world one.follow two.follow;
}

-- some lines, and then some others and a prefix of the next
pub puts_more :
    (old now new : Pending) (first second : List (List ℕ))
    → PutsPieces Done first old now → PutsPieces Failed second now new → PutsPieces Failed (first ++ second) old new
puts_more old now new first second one two = record {
  handed = one.handed ++ two.handed;
  failed = two.failed;
  left = two.left;
  is = sym (append_assoc old.block first second) ∙ ap (λ l. l ++ second) one.is ∙ append_assoc one.handed now.block second
      ∙ ap (λ l. one.handed ++ l) two.is ∙ sym (append_assoc one.handed (two.handed ++ two.failed) two.left)
      ∙ ap (λ l. l ++ two.left) (sym (append_assoc one.handed two.handed two.failed));
  between = two.between;
  follow = follow_pieces one.handed two.handed old.world now.world two.between one.follow two.follow;
  fails = two.fails;
}

-- some lines and a prefix of the next, as part of more lines
pub puts_longer :
    (old new : Pending) (first second : List (List ℕ))
    → PutsPieces Failed first old new → PutsPieces Failed (first ++ second) old new
puts_longer old new first second cut = record {
  handed = cut.handed;
  failed = cut.failed;
  left = cut.left ++ second;
  is = sym (append_assoc old.block first second) ∙ ap (λ l. l ++ second) cut.is
      ∙ append_assoc (cut.handed ++ cut.failed) cut.left second;
  between = cut.between;
  follow = cut.follow;
  fails = cut.fails;
}

-- the lines that waited were put
pub puts_waiting :
    (block block' : List (List ℕ)) (old new : Seen)
    → Follow (outputs block) old new → block' ≡ []
    → PutsPieces Done [] (pending block old) (pending block' new)
puts_waiting block block' old new follow none =
    record { handed = block; is = ap (λ l. block ++ l) (sym none); follow = follow }

pub waiting_lost :
    (block block' : List (List ℕ)) (old new : Seen)
    → IsOutputFailed block old new → PutsPieces Failed [] (pending block old) (pending block' new)
waiting_lost block block' old new fails = loses_here block [] old new fails

pub ruleset handing = (puts_waiting, waiting_lost)

-- some lines, and then others, as an answer says
pub puts_then :
    (answer : Put) (old now new : Pending) (first second : List (List ℕ))
    → PutsPieces Done first old now → PutsPieces answer second now new → PutsPieces answer (first ++ second) old new
puts_then Done old now new first second one two = puts_on old now new first second one two
puts_then Failed old now new first second one two = puts_more old now new first second one two

-- The lines `all` are being put from `start` on: at `now` the lines `left` are left.
pub record Putting (now start : Pending) (left all : List (List ℕ)) : Type 0 where
  pub whole : (new : Pending) → PutsPieces Done left now new → PutsPieces Done all start new
  pub cut : (new : Pending) → PutsPieces Failed left now new → PutsPieces Failed all start new

-- at the beginning all are left
pub putting_all : (start : Pending) (all : List (List ℕ)) → Putting start start all all
putting_all start all = record { whole = λ new puts. puts; cut = λ new puts. puts }

-- the first of those that were left was put
pub putting_next :
    (now next start : Pending) (line : List ℕ) (left all : List (List ℕ))
    → Putting now start (line ∷ left) all → PutsPieces Done (line ∷ []) now next → Putting next start left all
putting_next now next start line left all before puts = record {
  whole = λ new rest. before.whole new (puts_on now next new (line ∷ []) left puts rest);
  cut = λ new rest. before.cut new (puts_more now next new (line ∷ []) left puts rest);
}

-- the first of the lines that were left was not put as a whole
pub putting_cut :
    (now new start : Pending) (line : List ℕ) (left all : List (List ℕ))
    → Putting now start (line ∷ left) all → PutsPieces Failed (line ∷ []) now new → PutsPieces Failed all start new
putting_cut now new start line left all before cut =
    before.cut new (puts_longer now new (line ∷ []) left cut)

-- no line is left to put
pub putting_none : (now start : Pending) (all : List (List ℕ)) → Putting now start [] all → PutsPieces Done all start now
putting_none now start all before = before.whole now (puts_nothing now)

-- ---- pointer registers, one after another

pointers_first :
    (n : ℕ) (p : PtrFields) (pointers : List PtrFields)
    → pointer_lines n (p ∷ pointers) ≡ pointer_line n p ∷ pointer_lines (n + 1) pointers
unfolding pointer_lines
pointers_first n p pointers = refl

pointers_none : (n : ℕ) → pointer_lines n [] ≡ []
unfolding pointer_lines
pointers_none n = refl

pointers_at :
    (n : ℕ) (pointers : List PtrFields) (i : ℕ) (p : PtrFields)
    → i < length pointers → p ≡ get_or pointers i p
    → pointer_lines n (drop i pointers) ≡ pointer_line n p ∷ pointer_lines (n + 1) (drop (i + 1) pointers)
pointers_at n pointers i p inside is =
    at_drop_more (pointer_lines n) pointers i p inside
    ∙ pointers_first n (get_or pointers i p) (drop (i + 1) pointers)
    ∙ ap (λ (q : PtrFields). pointer_line n q ∷ pointer_lines (n + 1) (drop (i + 1) pointers)) (sym is)

pub pointers_start : (now : Pending) (pointers : List PtrFields) → Putting now now (pointer_lines 0 pointers) (pointer_lines 0 pointers)
pointers_start now pointers = putting_all now (pointer_lines 0 pointers)

-- the line of the next one was put
pub pointer_put :
    (now next start : Pending) (n : ℕ) (pointers : List PtrFields) (i : ℕ) (p : PtrFields) (all : List (List ℕ))
    → i < length pointers → p ≡ get_or pointers i p
    → Putting now start (pointer_lines n (drop i pointers)) all → PutsPieces Done (pointer_line n p ∷ []) now next
    → Putting next start (pointer_lines (n + 1) (drop (i + 1) pointers)) all
pointer_put now next start n pointers i p all inside is before puts =
    putting_next now next start (pointer_line n p) (pointer_lines (n + 1) (drop (i + 1) pointers)) all
    (subst (λ l. Putting now start l all) (pointers_at n pointers i p inside is) before) puts

-- the line of the next pointer register was not put as a whole
pub pointer_cut :
    (now new start : Pending) (n : ℕ) (pointers : List PtrFields) (i : ℕ) (p : PtrFields) (all : List (List ℕ))
    → i < length pointers → p ≡ get_or pointers i p
    → Putting now start (pointer_lines n (drop i pointers)) all → PutsPieces Failed (pointer_line n p ∷ []) now new
    → PutsPieces Failed all start new
pointer_cut now new start n pointers i p all inside is before cut =
    putting_cut now new start (pointer_line n p) (pointer_lines (n + 1) (drop (i + 1) pointers)) all
    (subst (λ l. Putting now start l all) (pointers_at n pointers i p inside is) before) cut

-- the lines of all pointer registers were put
pub pointers_end :
    (now start : Pending) (n : ℕ) (pointers : List PtrFields) (i : ℕ) (all : List (List ℕ))
    → length pointers ≤ i → Putting now start (pointer_lines n (drop i pointers)) all → PutsPieces Done all start now
pointers_end now start n pointers i all past before =
    putting_none now start all (subst (λ l. Putting now start l all) (at_drop_all (pointer_lines n) pointers i past ∙ pointers_none n) before)

-- what a function that puts them in a loop takes by `using`
pub ruleset pointers = (pointers_start, pointer_put, pointer_cut, pointers_end)

-- a short line is shown as a whole
pub shown_whole : (line : List ℕ) → length line ≤ 64 → line ≡ take 64 line
shown_whole line within = sym (take_all 64 line within)

-- one line, and then others, as an answer says
pub puts_behind :
    (answer : Put) (old now new : Pending) (line : List ℕ) (lines : List (List ℕ))
    → PutsPieces Done (line ∷ []) old now → PutsPieces answer lines now new → PutsPieces answer (line ∷ lines) old new
puts_behind answer old now new line lines one two = puts_then answer old now new (line ∷ []) lines one two

-- one line, and then some others and a prefix of the next
pub puts_behind_cut :
    (old now new : Pending) (line : List ℕ) (lines : List (List ℕ))
    → PutsPieces Done (line ∷ []) old now → PutsPieces Failed lines now new → PutsPieces Failed (line ∷ lines) old new
puts_behind_cut old now new line lines one two = puts_more old now new (line ∷ []) lines one two

-- a prefix of the first of several lines
pub puts_first_cut :
    (old new : Pending) (line : List ℕ) (lines : List (List ℕ))
    → PutsPieces Failed (line ∷ []) old new → PutsPieces Failed (line ∷ lines) old new
puts_first_cut old new line lines cut = puts_longer old new (line ∷ []) lines cut
