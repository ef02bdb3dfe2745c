-- Laws of blocks of pieces: how a block grows and where its pieces are, what putting them one by one puts, and what a
-- system took of a block that it could not take as a whole.
use Rattle.std.proofs.Common.{◌≡◌, ℕ, zero, suc, ◌+◌, ◌-◌, ◌<◌, ◌≤◌, List, [], ◌∷◌, ◌++◌, length, get_or, take, drop, nat_le, nat_lt, slice_range, Option, Some, None, inl, inr, refl, sym, ap, subst, ◌∙◌, arith, length-append, true}
use Rattle.std.proofs.lemmas.List.{append_assoc, take_at, drop_at, take_all, take-append-drop, take-append-le, drop-append-le, take_more, drop_more}
use Rattle.std.proofs.lemmas.Bool.{cases_Bool, leb-true, leb-false, ltb-true, and_parts, and_from, le-leb}
use Rattle.m36_outside.specs.Block.{IsStored, has_room, is_room, offsets_of, split_at_pieces}
use Rattle.m36_outside.specs.Passing.{TakesPart, TakesSome, TakesLines, joined}
use Rattle.m36_outside.specs.Put.{PutResult}
use Rattle.m36_outside.specs.Written.{Grew, GrewWithin}
use Rattle.m36_outside.specs.declared.sink.Put.{Put}
use Rattle.m36_outside.specs.declared.sink.Put.TheVariants.{Done, Failed}
pub use Rattle.std.proofs.lemmas.List.Folds.{concat-append as joined_both}
use Rattle.m36_outside.proofs.Grown.{grew_on, grew_more, grew_longer}
use Rattle.m36_outside.proofs.LinesTaken.{takes_lines_on, takes_lines_more, takes_some_of_lines, takes_line_more}
use Rattle.m36_outside.proofs.Takes.{joined_more, taken_is}

-- ---- the offsets of pieces

marks_length : (from : ℕ) (pieces : List (List ℕ)) → length (offsets_of from pieces) ≡ length pieces + 1
marks_length from [] = refl
marks_length from (piece ∷ pieces) =
    let more : length (offsets_of (from + length piece) pieces) ≡ length pieces + 1 = marks_length (from + length piece) pieces in
    omega arith

pub block_length : (offsets : List ℕ) (pieces : List (List ℕ)) → offsets ≡ offsets_of 0 pieces → length offsets ≡ length pieces + 1
block_length offsets pieces is = ap length is ∙ marks_length 0 pieces

marks_more :
    (from : ℕ) (pieces : List (List ℕ)) (piece : List ℕ)
    → offsets_of from (pieces ++ piece ∷ []) ≡ offsets_of from pieces ++ (from + length (joined pieces ++ piece)) ∷ []
marks_more from [] piece = refl
marks_more from (first ∷ pieces) piece =
    let place : (from + length first) + length (joined pieces ++ piece) ≡ from + length ((first ++ joined pieces) ++ piece) =
    omega (arith, length-append (joined pieces) piece, length-append first (joined pieces), length-append (first ++ joined pieces) piece) in
    ap (λ l. from ∷ l) (marks_more (from + length first) pieces piece
    ∙ ap (λ n. offsets_of (from + length first) pieces ++ n ∷ []) place)

-- no pieces
pub block_none :
    (bytes offsets : List ℕ) (pieces : List (List ℕ))
    → take 1 offsets ≡ 0 ∷ [] → pieces ≡ [] → IsStored bytes offsets 0 0 pieces
block_none bytes offsets pieces begins none = subst (λ (l : List (List ℕ)). IsStored bytes offsets 0 0 l) (sym none) record {
  fits = omega arith;
  few = omega arith;
  len_is = refl;
  count_is = refl;
  bytes_are = refl;
  marks_are = begins;
}

-- one more piece
pub block_more :
    (bytes offsets bytes' offsets' : List ℕ) (len count len' count' : ℕ) (pieces pieces' : List (List ℕ)) (piece : List ℕ)
    → IsStored bytes offsets len count pieces
    → is_room len count (length piece) ≡ true
    → len' ≡ len + length piece → count' ≡ count + 1
    → take len' bytes' ≡ take len bytes ++ piece
    → take (count' + 1) offsets' ≡ take (count + 1) offsets ++ len' ∷ []
    → pieces' ≡ pieces ++ piece ∷ []
    → IsStored bytes' offsets' len' count' pieces'
block_more bytes offsets bytes' offsets' len count len' count' pieces pieces' piece lie room end next put marked are =
    let parts = and_parts (nat_lt count 2048) (nat_le (len + length piece) 32768) room in
    let few : count < 2048 = ltb-true count 2048 parts.0 in
    let fits : len + length piece ≤ 32768 = leb-true (len + length piece) 32768 parts.1 in
    let whole = lie.len_is in
    let many = lie.count_is in
    let all = joined_more pieces piece in
    let place : len' ≡ 0 + length (joined pieces ++ piece) = omega (arith, length-append (joined pieces) piece) in
    subst (λ (l : List (List ℕ)). IsStored bytes' offsets' len' count' l) (sym are) record {
      fits = omega arith;
      few = omega arith;
      len_is = omega (arith, ap length all, length-append (joined pieces) piece);
      count_is = omega (arith, length-append pieces (piece ∷ []));
      bytes_are = put ∙ ap (λ l. l ++ piece) lie.bytes_are ∙ sym all;
      marks_are = marked
          ∙ ap (λ l. l ++ len' ∷ []) lie.marks_are
          ∙ ap (λ n. offsets_of 0 pieces ++ n ∷ []) place
          ∙ sym (marks_more 0 pieces piece);
    }

-- the counters decide whether there is room
pub block_room :
    (bytes offsets : List ℕ) (len count : ℕ) (pieces : List (List ℕ)) (piece : List ℕ)
    → IsStored bytes offsets len count pieces
    → is_room len count (length piece) ≡ has_room pieces piece
block_room bytes offsets len count pieces piece lie =
    ap (λ n. is_room len n (length piece)) lie.count_is ∙ ap (λ n. is_room n (length pieces) (length piece)) lie.len_is

-- if there is room for more than a piece, there is room for the piece
pub room_less :
    (len count wanted most : ℕ) → is_room len count most ≡ true → wanted ≤ most → is_room len count wanted ≡ true
room_less len count wanted most room less =
    let parts = and_parts (nat_lt count 2048) (nat_le (len + most) 32768) room in
    let fits : len + most ≤ 32768 = leb-true (len + most) 32768 parts.1 in
    and_from (nat_lt count 2048) (nat_le (len + wanted) 32768) parts.0 (le-leb (len + wanted) 32768 (omega arith))

-- ---- the piece with an index

-- the bytes from one mark to the next
record Lies (bytes piece : List ℕ) (from until : ℕ) : Type 0 where
  pub order : from ≤ until
  pub within : until ≤ length bytes
  pub is : slice_range bytes from until ≡ piece

first_mark : (from : ℕ) (pieces : List (List ℕ)) (e : ℕ) → get_or (offsets_of from pieces) 0 e ≡ from
first_mark from [] e = refl
first_mark from (piece ∷ pieces) e = refl

lies_first :
    (before piece after : List ℕ) (until : ℕ)
    → until ≡ length before + length piece → Lies (before ++ (piece ++ after)) piece (length before) until
lies_first before piece after until end =
    let size : until - length before ≡ length piece = omega arith in record {
      order = omega arith;
      within = omega (arith, length-append before (piece ++ after), length-append piece after);
      is = ap (λ l. take (until - length before) l) (drop_at before (piece ++ after) (length before) refl)
          ∙ take_at piece after (until - length before) (sym size);
    }

lies_at :
    (from : ℕ) (before : List ℕ) (pieces : List (List ℕ)) (place d e : ℕ)
    → from ≡ length before → place < length pieces
    → Lies (before ++ joined pieces) (get_or pieces place []) (get_or (offsets_of from pieces) place d) (get_or (offsets_of from pieces) (suc place) e)
lies_at from before [] place d e start inside = absurd (omega arith)
lies_at from before (piece ∷ pieces) zero d e start inside =
    let until = get_or (offsets_of (from + length piece) pieces) 0 e in
    let end : until ≡ length before + length piece =
    first_mark (from + length piece) pieces e ∙ ap (λ n. n + length piece) start in
    subst (λ n. Lies (before ++ (piece ++ joined pieces)) piece n until) (sym start) (lies_first before piece (joined pieces) until end)
lies_at from before (piece ∷ pieces) (suc place) d e start inside =
    let next : from + length piece ≡ length (before ++ piece) = omega (arith, length-append before piece) in
    let from' = get_or (offsets_of (from + length piece) pieces) place d in
    let until = get_or (offsets_of (from + length piece) pieces) (suc place) e in
    subst (λ l. Lies l (get_or pieces place []) from' until) (append_assoc before piece (joined pieces))
    (lies_at (from + length piece) (before ++ piece) pieces place d e next (omega arith))

-- the piece with an index is between its mark and the next
lies :
    (pieces : List (List ℕ)) (bytes offsets : List ℕ) (place : ℕ)
    → bytes ≡ joined pieces → offsets ≡ offsets_of 0 pieces → place < length pieces
    → Lies bytes (get_or pieces place []) (get_or offsets place 0) (get_or offsets (place + 1) 0)
lies pieces bytes offsets place all is inside =
    let next : suc place ≡ place + 1 = omega arith in
    subst (λ n. Lies bytes (get_or pieces place []) (get_or offsets place 0) (get_or offsets n 0)) next
    (subst (λ m. Lies bytes (get_or pieces place []) (get_or m place 0) (get_or m (suc place) 0)) (sym is)
    (subst (λ b. Lies b (get_or pieces place []) (get_or (offsets_of 0 pieces) place 0) (get_or (offsets_of 0 pieces) (suc place) 0)) (sym all)
    (lies_at 0 [] pieces place 0 0 refl inside)))

pub piece_order :
    (pieces : List (List ℕ)) (bytes offsets : List ℕ) (place : ℕ)
    → bytes ≡ joined pieces → offsets ≡ offsets_of 0 pieces → place < length pieces
    → get_or offsets place 0 ≤ get_or offsets (place + 1) 0
piece_order pieces bytes offsets place all is inside = (lies pieces bytes offsets place all is inside).order

pub piece_within :
    (pieces : List (List ℕ)) (bytes offsets : List ℕ) (place : ℕ)
    → bytes ≡ joined pieces → offsets ≡ offsets_of 0 pieces → place < length pieces
    → get_or offsets (place + 1) 0 ≤ length bytes
piece_within pieces bytes offsets place all is inside = (lies pieces bytes offsets place all is inside).within

pub piece_is :
    (pieces : List (List ℕ)) (bytes offsets : List ℕ) (place : ℕ)
    → bytes ≡ joined pieces → offsets ≡ offsets_of 0 pieces → place < length pieces
    → slice_range bytes (get_or offsets place 0) (get_or offsets (place + 1) 0) ≡ get_or pieces place []
piece_is pieces bytes offsets place all is inside = (lies pieces bytes offsets place all is inside).is

pub ruleset blocks = (block_none, block_length, block_more, block_room, room_less, piece_order, piece_within, piece_is)

-- ---- pieces put one after another

joined_next :
    (pieces : List (List ℕ)) (place : ℕ) (piece : List ℕ)
    → place < length pieces → piece ≡ get_or pieces place []
    → joined (take place pieces) ++ piece ≡ joined (take (place + 1) pieces)
joined_next pieces place piece inside is =
    sym (ap joined (take_more pieces place [] inside) ∙ joined_more (take place pieces) (get_or pieces place [])
    ∙ ap (λ p. joined (take place pieces) ++ p) (sym is))

split_at :
    (pieces : List (List ℕ)) (place : ℕ) (piece : List ℕ)
    → place < length pieces → piece ≡ get_or pieces place []
    → pieces ≡ take place pieces ++ piece ∷ drop (place + 1) pieces
split_at pieces place piece inside is =
    sym (take-append-drop place pieces)
    ∙ ap (λ l. take place pieces ++ l) (drop_more pieces place [] inside ∙ ap (λ p. p ∷ drop (place + 1) pieces) (sym is))

pub block_grew :
    (start now next : Option (List ℕ)) (pieces : List (List ℕ)) (place : ℕ) (piece : List ℕ)
    → Grew start now (joined (take place pieces)) → Grew now next piece
    → place < length pieces → piece ≡ get_or pieces place [] → Grew start next (joined (take (place + 1) pieces))
block_grew start now next pieces place piece first more inside is =
    subst (λ t. Grew start next t) (joined_next pieces place piece inside is)
    (grew_on start now next (joined (take place pieces)) piece first more)

pub block_took :
    (start now next pieces : List (List ℕ)) (place : ℕ) (piece : List ℕ)
    → now ≡ start ++ take place pieces → next ≡ now ++ piece ∷ []
    → place < length pieces → piece ≡ get_or pieces place [] → next ≡ start ++ take (place + 1) pieces
block_took start now next pieces place piece first more inside is =
    takes_lines_on start now next (take place pieces) (piece ∷ []) first more
    ∙ ap (λ l. start ++ l) (sym (take_more pieces place [] inside ∙ ap (λ p. take place pieces ++ p ∷ []) (sym is)))

pub block_cut :
    (start now next : Option (List ℕ)) (pieces : List (List ℕ)) (place : ℕ) (piece : List ℕ)
    → Grew start now (joined (take place pieces)) → GrewWithin now next piece
    → place < length pieces → piece ≡ get_or pieces place [] → GrewWithin start next (joined pieces)
block_cut start now next pieces place piece first more inside is =
    let parts : joined pieces ≡ (joined (take place pieces) ++ piece) ++ joined (drop (place + 1) pieces) =
    ap joined (split_at pieces place piece inside is)
    ∙ joined_both (take place pieces) (piece ∷ drop (place + 1) pieces)
    ∙ sym (append_assoc (joined (take place pieces)) piece (joined (drop (place + 1) pieces))) in
    subst (λ t. GrewWithin start next t) (sym parts)
    (grew_longer start next (joined (take place pieces) ++ piece) (joined (drop (place + 1) pieces))
    (grew_more start now next (joined (take place pieces)) piece first more))

pub block_took_some :
    (written written' : Option (List ℕ)) (start now next pieces : List (List ℕ)) (place : ℕ) (piece : List ℕ)
    → now ≡ start ++ take place pieces → TakesPart written written' now next piece
    → place < length pieces → piece ≡ get_or pieces place [] → TakesSome start next pieces
block_took_some written written' start now next pieces place piece first cut inside is =
    subst (λ l. TakesSome start next l) (sym (split_at pieces place piece inside is))
    (takes_lines_more start now next (take place pieces) (piece ∷ drop (place + 1) pieces) first
    (takes_some_of_lines written written' now next (drop (place + 1) pieces) piece cut))

pub block_grew_all :
    (start now : Option (List ℕ)) (pieces : List (List ℕ)) (place : ℕ)
    → Grew start now (joined (take place pieces)) → length pieces ≤ place → Grew start now (joined pieces)
block_grew_all start now pieces place first all =
    subst (λ l. Grew start now (joined l)) (take_all place pieces all) first

pub block_took_all :
    (start now pieces : List (List ℕ)) (place : ℕ)
    → now ≡ start ++ take place pieces → length pieces ≤ place → now ≡ start ++ pieces
block_took_all start now pieces place first all = first ∙ ap (λ l. start ++ l) (take_all place pieces all)

pub ruleset putting = (block_grew, block_took, block_cut, block_took_some, block_grew_all, block_took_all)

-- ---- what a system took

-- one piece more, or what is left of the bytes
parts_whole :
    (bytes piece : List ℕ) (pieces : List (List ℕ))
    → length piece ≤ length bytes
    → split_at_pieces bytes (piece ∷ pieces) ≡ take (length piece) bytes ∷ split_at_pieces (drop (length piece) bytes) pieces
parts_whole bytes piece pieces all = elim (cases_Bool (nat_le (length piece) (length bytes))) [
  | inl e ↦ rw e refl
  | inr e ↦ let few : length bytes < length piece = leb-false (length piece) (length bytes) e in absurd (omega arith)
]

parts_rest :
    (bytes piece : List ℕ) (pieces : List (List ℕ))
    → length bytes < length piece → split_at_pieces bytes (piece ∷ pieces) ≡ bytes ∷ []
parts_rest bytes piece pieces few = elim (cases_Bool (nat_le (length piece) (length bytes))) [
  | inl e ↦ let all : length piece ≤ length bytes = leb-true (length piece) (length bytes) e in absurd (omega arith)
  | inr e ↦ rw e refl
]

-- all bytes of pieces, split at their boundaries, are the pieces
parts_all : (pieces : List (List ℕ)) → split_at_pieces (joined pieces) pieces ≡ pieces
parts_all [] = refl
parts_all (piece ∷ pieces) =
    let all : length piece ≤ length (piece ++ joined pieces) = omega (arith, length-append piece (joined pieces)) in
    parts_whole (piece ++ joined pieces) piece pieces all
    ∙ ap (λ l. l ∷ split_at_pieces (drop (length piece) (piece ++ joined pieces)) pieces) (take_at piece (joined pieces) (length piece) refl)
    ∙ ap (λ l. piece ∷ split_at_pieces l pieces) (drop_at piece (joined pieces) (length piece) refl)
    ∙ ap (λ l. piece ∷ l) (parts_all pieces)

-- if two texts begin with the same bytes, the shorter is a prefix of the longer
begins_short :
    (long others short rest : List ℕ)
    → long ++ others ≡ short ++ rest → length short ≤ length long → take (length short) long ≡ short
begins_short long others short rest alike few =
    sym (take-append-le (length short) long others few)
    ∙ ap (take (length short)) alike
    ∙ take_at short rest (length short) refl

begins_left :
    (piece others taken rest : List ℕ)
    → piece ++ others ≡ taken ++ rest → length piece ≤ length taken → others ≡ drop (length piece) taken ++ rest
begins_left piece others taken rest alike all =
    sym (drop_at piece others (length piece) refl)
    ∙ ap (drop (length piece)) alike
    ∙ drop-append-le (length piece) taken rest all

-- a prefix of one piece
front :
    (old : List (List ℕ)) (count : ℕ) (piece : List ℕ)
    → TakesPart None None old (old ++ take count piece ∷ []) piece
front old count piece = record {
  part = take count piece;
  rest = drop count piece;
  is = sym (take-append-drop count piece);
  took = refl;
  grew = refl;
}

takes_front_of :
    (old pieces : List (List ℕ)) (piece taken rest : List ℕ)
    → piece ++ joined pieces ≡ taken ++ rest → length taken ≤ length piece
    → TakesSome old (old ++ taken ∷ []) (piece ∷ pieces)
takes_front_of old pieces piece taken rest alike few =
    subst (λ l. TakesSome old (old ++ l ∷ []) (piece ∷ pieces)) (begins_short piece (joined pieces) taken rest alike few)
    (takes_some_of_lines None None old (old ++ take (length taken) piece ∷ []) pieces piece (front old (length taken) piece))

-- a prefix of the bytes of pieces, split at their boundaries, is some whole pieces and a prefix of the next
parts_take :
    (old : List (List ℕ)) (piece : List ℕ) (pieces : List (List ℕ)) (taken rest : List ℕ)
    → piece ++ joined pieces ≡ taken ++ rest
    → TakesSome old (old ++ split_at_pieces taken (piece ∷ pieces)) (piece ∷ pieces)
parts_take old piece [] taken rest alike = elim (cases_Bool (nat_le (length piece) (length taken))) [
  | inl e ↦ let all : length piece ≤ length taken = leb-true (length piece) (length taken) e in
      let same : split_at_pieces taken (piece ∷ []) ≡ piece ∷ [] =
      parts_whole taken piece [] all ∙ ap (λ l. l ∷ []) (begins_short taken rest piece (joined []) (sym alike) all) in
      subst (λ l. TakesSome old (old ++ l) (piece ∷ [])) (sym same)
      (takes_front_of old [] piece piece [] refl (omega arith))
  | inr e ↦ let few : length taken < length piece = leb-false (length piece) (length taken) e in
      subst (λ l. TakesSome old (old ++ l) (piece ∷ [])) (sym (parts_rest taken piece [] few))
      (takes_front_of old [] piece taken rest alike (omega arith))
]
parts_take old piece (next ∷ pieces) taken rest alike = elim (cases_Bool (nat_le (length piece) (length taken))) [
  | inl e ↦ let all : length piece ≤ length taken = leb-true (length piece) (length taken) e in
      let left = drop (length piece) taken in
      let more = split_at_pieces left (next ∷ pieces) in
      let same : split_at_pieces taken (piece ∷ (next ∷ pieces)) ≡ piece ∷ more =
      parts_whole taken piece (next ∷ pieces) all
      ∙ ap (λ l. l ∷ more) (begins_short taken rest piece (joined (next ∷ pieces)) (sym alike) all) in
      let later = parts_take (old ++ piece ∷ []) next pieces left rest (begins_left piece (joined (next ∷ pieces)) taken rest alike all) in
      subst (λ l. TakesSome old l (piece ∷ (next ∷ pieces))) (append_assoc old (piece ∷ []) more ∙ ap (λ l. old ++ l) (sym same))
      (takes_line_more old (old ++ piece ∷ []) ((old ++ piece ∷ []) ++ more) (next ∷ pieces) piece refl later)
  | inr e ↦ let few : length taken < length piece = leb-false (length piece) (length taken) e in
      subst (λ l. TakesSome old (old ++ l) (piece ∷ (next ∷ pieces))) (sym (parts_rest taken piece (next ∷ pieces) few))
      (takes_front_of old (next ∷ pieces) piece taken rest alike (omega arith))
]

-- what was taken of pieces is a prefix of their concatenation
some_written :
    (old new due : List (List ℕ))
    → TakesSome old new due → GrewWithin (Some (joined old)) (Some (joined new)) (joined due)
some_written old new due some =
    let lines = joined some.lines in
    let left = joined some.left in
    record {
      part = lines ++ some.part;
      rest = some.rest ++ left;
      whole = ap joined some.is
          ∙ joined_both some.lines (some.line ∷ some.left)
          ∙ ap (λ l. lines ++ (l ++ left)) some.line_is
          ∙ ap (λ l. lines ++ l) (append_assoc some.part some.rest left)
          ∙ sym (append_assoc lines some.part (some.rest ++ left));
      grew = ap (λ l. Some l) (ap joined some.took
          ∙ joined_more (old ++ some.lines) some.part
          ∙ ap (λ l. l ++ some.part) (joined_both old some.lines)
          ∙ append_assoc (joined old) lines some.part);
    }

-- a writer with an empty log took all bytes
pub block_taken :
    (old new pieces : List (List ℕ)) (before taken : List ℕ)
    → Grew (Some before) (Some taken) (joined pieces) → before ≡ []
    → new ≡ old ++ split_at_pieces taken pieces → new ≡ old ++ pieces
block_taken old new pieces before taken grown none took =
    let same : taken ≡ joined pieces = taken_is before taken (joined pieces) grown none in
    took ∙ ap (λ l. old ++ split_at_pieces l pieces) same ∙ ap (λ l. old ++ l) (parts_all pieces)

pub block_written :
    (old new pieces : List (List ℕ)) → new ≡ old ++ pieces → Grew (Some (joined old)) (Some (joined new)) (joined pieces)
block_written old new pieces took = ap (λ l. Some l) (ap joined took ∙ joined_both old pieces)

pub block_all_written :
    (old new pieces : List (List ℕ)) (before taken : List ℕ)
    → Grew (Some before) (Some taken) (joined pieces) → before ≡ []
    → new ≡ old ++ split_at_pieces taken pieces → Grew (Some (joined old)) (Some (joined new)) (joined pieces)
block_all_written old new pieces before taken grown none took =
    block_written old new pieces (block_taken old new pieces before taken grown none took)

-- it took a prefix of them
pub begun_taken :
    (old new pieces : List (List ℕ)) (before taken : List ℕ)
    → GrewWithin (Some before) (Some taken) (joined pieces) → before ≡ [] → 0 < length pieces
    → new ≡ old ++ split_at_pieces taken pieces → TakesSome old new pieces
begun_taken old new [] before taken within none some took = absurd (omega arith)
begun_taken old new (piece ∷ pieces) before taken within none some took =
    let same : taken ≡ within.part = taken_is before taken within.part within.grew none in
    let alike : piece ++ joined pieces ≡ taken ++ within.rest =
    within.whole ∙ ap (λ l. l ++ within.rest) (sym same) in
    subst (λ l. TakesSome old l (piece ∷ pieces)) (sym took) (parts_take old piece pieces taken within.rest alike)

pub begun_written :
    (old new pieces : List (List ℕ)) (before taken : List ℕ)
    → GrewWithin (Some before) (Some taken) (joined pieces) → before ≡ [] → 0 < length pieces
    → new ≡ old ++ split_at_pieces taken pieces → GrewWithin (Some (joined old)) (Some (joined new)) (joined pieces)
begun_written old new pieces before taken within none some took =
    some_written old new pieces (begun_taken old new pieces before taken within none some took)

-- by the answer of a put
pub block_says :
    (answer : Put) (old new pieces : List (List ℕ)) (before taken : List ℕ)
    → PutResult answer (Some before) (Some taken) (joined pieces) → before ≡ [] → 0 < length pieces
    → new ≡ old ++ split_at_pieces taken pieces → PutResult answer (Some (joined old)) (Some (joined new)) (joined pieces)
block_says Done old new pieces before taken grown none some took = block_all_written old new pieces before taken grown none took
block_says Failed old new pieces before taken within none some took = begun_written old new pieces before taken within none some took

pub block_takes :
    (answer : Put) (old new pieces : List (List ℕ)) (before taken : List ℕ)
    → PutResult answer (Some before) (Some taken) (joined pieces) → before ≡ [] → 0 < length pieces
    → new ≡ old ++ split_at_pieces taken pieces → TakesLines answer old new pieces
block_takes Done old new pieces before taken grown none some took = block_taken old new pieces before taken grown none took
block_takes Failed old new pieces before taken within none some took = begun_taken old new pieces before taken within none some took

pub ruleset written_at_once = (block_taken, block_written, block_all_written, begun_taken, begun_written)
