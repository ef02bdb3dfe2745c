-- The parts of the pager.
use Rattle.std.proofs.Common.{ℕ, ◌≡◌, ◌≢◌, ◌+◌, ◌-◌, ◌*◌, ◌/◌, ◌%◌, ◌^◌, ◌<◌, ◌≤◌, ◌⊎◌, Bool, true, false, List, length, get_or, set, Option, Some, None, refl, sym, ap, subst, inl, inr, ◌∙◌, arith}
use Rattle.std.specs.Prelude.{nat_lt, option_and_then, slice_get, position, All, IsSome, IfNone, is_some}
use Rattle.std.specs.List.{list_any}
use Rattle.std.proofs.lemmas.Bool.{eq-eqb, and_from}
use Rattle.std.proofs.lemmas.List.{get_or-set_same, get_or-set_other, length-set}
use Rattle.std.proofs.lemmas.Option.{slice_get-get_or, get_or_from_slice_get}
use Rattle.std.proofs.lemmas.List.Elements.{All-from_get_or, All-get_or}
use Rattle.std.proofs.lemmas.List.Folds.{list_any_at}
use Rattle.m36_model.specs.Core.{unmarked}
use Rattle.m36_model.specs.declared.place.Reference.{Reference}
use Rattle.m36_page.specs.Fields.{TableFields, PagerFields}
use Rattle.m36_page.specs.Copied.{IsCopied}
use Rattle.m36_page.specs.Choice.{IsUnpinned, ArePinned, IsHeldSpot, ClearsMarksAt, AreInCore}
use Rattle.std.specs.Bool.{then_some}
use Rattle.m36_page.specs.Residence.{is_table_of, table_of, has_page_in, has_page, spot_of, kept_word, word_in, page_word, content_of, absent_ptw, resident_ptw, frame_in, frame_of, Holds, IsPager, AgreesWithCore, HasFrames, IsConsistent, HasPtwPlaces}
use Rattle.m36_page.specs.Changes.{IsPtwPlace, KeepsContents, refers_to_page, is_pinned, AllPinned, Stays, IsUnpinnedPtwPlace, OnlyMarkCleared, IsBrought}
use Rattle.m36_page.specs.Moved.{HasWords, IsEvicted, IsTakenIn, IsEmptied}
use Rattle.m36_page.proofs.Frames.{held_inside, unused_unmarked, marked_as}
use Rattle.m36_page.proofs.Tables.{found, words_were}
use Rattle.m36_page.proofs.Moves.{kept_then, marks_kept, marks_settled, marks_frame, AreMarks, resident_frame, frame_range, taken_kept, taken_in, taken_frame, taken_other}
use Rattle.m36_page.proofs.Built.{has_table, spot_by, page_room, away_from, taken_from, taken_holders}

abbrev pub parts : ℕ → List (Option (ℕ × ℕ)) → List TableFields → PagerFields
parts first holders tables = record { first = first; holders = holders; tables = tables }

settled_parts : (p q : PagerFields) (core : List ℕ) → q ≡ p → IsConsistent p core → IsConsistent q core
settled_parts p q core e s = let P : PagerFields → Type 0 = λ x. IsConsistent x core in subst P (sym e) s

-- ---- the choice

pub held_spots : (first : ℕ) (holders hs : List (Option (ℕ × ℕ))) (spots sp : List ℕ) (tables : List TableFields) (p : PagerFields) (core : List ℕ)
    → parts first holders tables ≡ p → hs ≡ holders → sp ≡ spots → HasPtwPlaces (parts first holders tables) spots → IsConsistent p core
    → AreInCore hs sp core
held_spots first holders hs spots sp tables p core e same same' inside s k held holds =
    let q : PagerFields = parts first holders tables in
    let settled : IsConsistent q core = settled_parts p q core e s in
    let h : Holds q k held.0 held.1 = sym (ap (λ x. get_or x k None) same) ∙ holds in
    let is : get_or sp k 0 ≡ spot_of q held.0 held.1 = ap (λ x. get_or x k 0) same' ∙ inside.spots k held.0 held.1 h in
    let below = settled.pager.below held.0 held.1 (settled.pager.held k held.0 held.1 h) in
    let room = settled.frames in
    omega (arith, is, below, room)

pub marks_parts : (refs : List Reference) (first : ℕ) (holders hs : List (Option (ℕ × ℕ))) (spots sp : List ℕ) (tables : List TableFields) (p : PagerFields) (core now : List ℕ)
    → parts first holders tables ≡ p → hs ≡ holders → sp ≡ spots → HasPtwPlaces (parts first holders tables) spots
    → ClearsMarksAt core now (IsHeldSpot refs hs sp) → ClearsMarksAt core now (IsUnpinnedPtwPlace p refs)
marks_parts refs first holders hs spots sp tables p core now e same same' inside marks =
    let q : PagerFields = parts first holders tables in
    let P : PagerFields → Type 0 = λ x. ClearsMarksAt core now (IsUnpinnedPtwPlace x refs) in
    subst P e
    (marked_as core now (IsHeldSpot refs hs sp) (IsUnpinnedPtwPlace q refs)
    (λ a h.
    let holds : Holds q h.k h.held.0 h.held.1 = sym (ap (λ x. get_or x h.k None) same) ∙ h.holds in
    record {
      k = h.k;
      seg = h.held.0;
      page = h.held.1;
      holds = holds;
      free = h.free;
      is = sym (inside.spots h.k h.held.0 h.held.1 holds) ∙ sym (ap (λ x. get_or x h.k 0) same') ∙ h.is;
    })
    marks)

pub all_pinned : (o : Option ℕ) (refs : List Reference) (hs : List (Option (ℕ × ℕ))) (p : PagerFields) → hs ≡ p.holders
    → IfNone o (ArePinned refs hs 0 (length hs)) → IfNone o (AllPinned p refs)
all_pinned (Some k) refs hs p same pinned = tt
all_pinned None refs hs p same pinned =
    let P : List (Option (ℕ × ℕ)) → Type 0 = λ x. All (λ h. is_pinned refs h ≡ true) x in
    subst P same (All-from_get_or (λ h. is_pinned refs h ≡ true) hs None (λ i below. pinned.each i (omega arith) below))

-- ---- the place of a page

pub place_needed : (first : ℕ) (holders : List (Option (ℕ × ℕ))) (tables ts : List TableFields) (p : PagerFields) (seg page : ℕ)
    → parts first holders tables ≡ p → ts ≡ tables → has_page p seg page ≡ true → IsSome (table_of ts seg)
place_needed first holders tables ts p seg page e same has =
    let P : List TableFields → Type 0 = λ x. IsSome (table_of x seg) in
    subst P (sym (same ∙ ap (λ (x : PagerFields). x.tables) e)) (has_table p seg page has)

pub spot_is : (first : ℕ) (holders : List (Option (ℕ × ℕ))) (tables ts : List TableFields) (p : PagerFields) (seg page i at : ℕ) (t : TableFields)
    → parts first holders tables ≡ p → ts ≡ tables → position (is_table_of seg) ts ≡ Some i → t ≡ get_or tables i t → at ≡ t.at
    → at + page ≡ spot_of p seg page
spot_is first holders tables ts p seg page i at t e same place item is =
    let q : PagerFields = parts first holders tables in
    let found = spot_by q seg page i t (sym (ap (position (is_table_of seg)) same) ∙ place) in
    let here : at ≡ (get_or tables i t).at = is ∙ ap (λ (x : TableFields). x.at) item in
    ap (λ n. n + page) here ∙ sym found ∙ ap (λ x. spot_of x seg page) e

pub pager_parts : (first : ℕ) (holders : List (Option (ℕ × ℕ))) (tables : List TableFields) (p : PagerFields) (spots : List ℕ)
    → parts first holders tables ≡ p → HasPtwPlaces (parts first holders tables) spots → IsPager p
pager_parts first holders tables p spots e inside = subst IsPager e inside.pager

pub room_is : (first : ℕ) (holders : List (Option (ℕ × ℕ))) (tables ts : List TableFields) (p : PagerFields) (seg page i : ℕ) (t : TableFields)
    → parts first holders tables ≡ p → ts ≡ tables → position (is_table_of seg) ts ≡ Some i → t ≡ get_or tables i t → IsPager p
    → has_page p seg page ≡ true → 1024 * page + 1024 ≤ length t.words
room_is first holders tables ts p seg page i t e same place item pager has =
    let q : PagerFields = parts first holders tables in
    let pager' : IsPager q = subst IsPager (sym e) pager in
    let has' : has_page q seg page ≡ true = ap (λ x. has_page x seg page) e ∙ has in
    let room = page_room q seg page i t pager' (sym (ap (position (is_table_of seg)) same) ∙ place) has' in
    let words : length t.words ≡ length (get_or tables i t).words = ap (λ (x : TableFields). length x.words) item in
    omega (arith, room, words)

-- ---- the private part

pub inside_away : (p : PagerFields) (core : List ℕ) (new : PagerFields) (now : List ℕ) (k seg page : ℕ) (spots : List ℕ)
    → HasPtwPlaces p spots → IsEvicted p core new now k seg page → HasPtwPlaces new spots
inside_away p core new now k seg page spots inside away = record {
  pager = away.words;
  count = inside.count ∙ sym away.shape.frames;
  spots = λ j s q h. inside.spots j s q (away.left j s q h).0 ∙ sym (away.shape.spots s q);
}

pub inside_taken : (p : PagerFields) (core : List ℕ) (new : PagerFields) (now : List ℕ) (k seg page : ℕ) (spots : List ℕ) (spot : ℕ)
    → HasPtwPlaces p spots → IsTakenIn p core new now k seg page → spot ≡ spot_of p seg page → HasPtwPlaces new (set spots k spot)
inside_taken p core new now k seg page spots spot inside taken is = record {
  pager = taken.words;
  count = length-set spots k spot ∙ inside.count ∙ sym taken.shape.frames;
  spots = λ j s q h.
      let count = inside.count in
      let below = taken.inside in
      let room : k < length spots = omega (arith, count, below) in
      elim (taken.left j s q h) [
        | inl same ↦
            ap (λ n. get_or (set spots k spot) n 0) same.0 ∙ get_or-set_same spots k spot 0 room ∙ is
            ∙ ap (λ x. spot_of p x page) (sym same.1) ∙ ap (λ y. spot_of p s y) (sym same.2) ∙ sym (taken.shape.spots s q)
        | inr from ↦
            let other : j ≢ k = λ equal.
            let P : ℕ → Type 0 = λ n. get_or p.holders n None ≡ Some (s, q) in
            let at : get_or p.holders k None ≡ Some (s, q) = subst P equal from in
            let empty = taken.empty in
            absurd (cc) in
            get_or-set_other spots k j spot 0 other ∙ inside.spots j s q from ∙ sym (taken.shape.spots s q)
      ];
}

-- ---- a page that is brought in

pub resident_from : (p : PagerFields) (core : List ℕ) (seg page spot : ℕ) (o : Option ℕ) (b : Bool) → spot ≡ spot_of p seg page
    → o ≡ frame_in (get_or core spot 0) → b ≡ is_some o → b ≡ true → IsSome (frame_of p core seg page)
unfolding frame_of
resident_from p core seg page spot o b is e f true_ =
    ap is_some (sym (e ∙ ap (λ a. frame_in (get_or core a 0)) is)) ∙ sym f ∙ true_

none_by : (o : Option ℕ) (b : Bool) → b ≡ is_some o → b ≡ false → o ≡ None
none_by None b e f = refl
none_by (Some x) b e f = let t : true ≡ false = sym e ∙ f in absurd (cc)

pub out_from : (p : PagerFields) (core : List ℕ) (seg page spot : ℕ) (o : Option ℕ) (b : Bool) → spot ≡ spot_of p seg page
    → o ≡ frame_in (get_or core spot 0) → b ≡ is_some o → b ≡ false → frame_of p core seg page ≡ None
unfolding frame_of
out_from p core seg page spot o b is e f false_ =
    sym (ap (λ a. frame_in (get_or core a 0)) is) ∙ sym e ∙ none_by o b f false_

pub kept_same : (p : PagerFields) (core : List ℕ) → KeepsContents p core p core
kept_same p core = record {
  shape = record { first = refl; frames = refl; pages = λ x q. refl; spots = λ x q. refl };
  size = refl;
  content = λ x w. refl;
  others = λ a out. refl;
}

all_stay : (p : PagerFields) (core : List ℕ) (new : PagerFields) (now : List ℕ) (refs : List Reference)
    → ((i : ℕ) (d : Reference) → i < length refs → Stays p core new now (get_or refs i d)) → All (Stays p core new now) refs
all_stay p core new now refs each = λ k d below. each k d below

-- a page that is in no frame is not in one
pub was_out : (frame : Option ℕ) → frame ≡ None → IsSome frame → ⊥
was_out None out resident = absurd (cc)
was_out (Some f) out resident = absurd (cc)

pub brought_same : (p : PagerFields) (core : List ℕ) (seg page : ℕ) (refs : List Reference) → IsSome (frame_of p core seg page)
    → IsBrought p core p core seg page refs
brought_same p core seg page refs resident = record {
  kept = kept_same p core;
  resident = resident;
  stays = all_stay p core p core refs (λ i d below has frame e. e);
  k = 0;
  holders = λ j other. refl;
  spot = λ out. absurd (was_out (frame_of p core seg page) out resident);
  away = λ x q out holds. absurd (was_out (frame_of p core seg page) out resident);
  words = λ a other others range. inl refl;
  others_kept = λ x w out. refl;
}

pub settled_by : (p : PagerFields) (core : List ℕ) → IsPager p → AgreesWithCore p core → HasFrames p core → length core ≤ 2 ^ 24 → IsConsistent p core
settled_by p core pager reads frames most = record { pager = pager; reads = reads; frames = frames; most = most }

free_spot : (p : PagerFields) (refs : List Reference) (a : ℕ) → IsPager p → IsUnpinnedPtwPlace p refs a → IsPtwPlace p a
free_spot p refs a pager f = record { seg = f.seg; page = f.page; has = pager.held f.k f.seg f.page f.holds; is = f.is }

pub marks_of : (p : PagerFields) (refs : List Reference) (core now : List ℕ) → IsPager p → ClearsMarksAt core now (IsUnpinnedPtwPlace p refs) → AreMarks p core now
marks_of p refs core now pager m = record {
  size = m.size;
  unmarks = λ a. elim (m.each a) [ inl e ↦ ap unmarked e | inr e ↦ ap unmarked e.1 ∙ unused_unmarked (get_or core a 0) ];
  others = λ a out. elim (m.each a) [ inl e ↦ e | inr e ↦ absurd (out (free_spot p refs a pager e.0)) ];
}

-- a page of a reference is not in a frame that may be taken
unpinned : (p : PagerFields) (refs : List Reference) (k i : ℕ) (d : Reference) → i < length refs → IsUnpinned refs p.holders k
    → Holds p k (get_or refs i d).at.seg ((get_or refs i d).at.word / 1024) → ⊥
unpinned p refs k i d below free holds =
    let e : Reference = get_or refs i d in
    let here : refers_to_page (e.at.seg, e.at.word / 1024) e ≡ true = and_from _ _ (eq-eqb e.at.seg e.at.seg refl) (eq-eqb (e.at.word / 1024) (e.at.word / 1024) refl) in
    let any : list_any (refers_to_page (e.at.seg, e.at.word / 1024)) refs ≡ true = list_any_at (refers_to_page (e.at.seg, e.at.word / 1024)) refs i d below here in
    let pinned : is_pinned refs (get_or p.holders k None) ≡ true = ap (λ h. is_pinned refs h) holds ∙ any in
    let none = free.free in
    absurd (cc)

-- a page that a frame holds is not one that is in no frame
held_other : (p : PagerFields) (core : List ℕ) (k s q seg page : ℕ) → IsConsistent p core → Holds p k s q → frame_of p core seg page ≡ None
    → (s ≡ seg) × (q ≡ page) → ⊥
held_other p core k s q seg page settled holds out same =
    let is : frame_of p core seg page ≡ Some (p.first + k) =
    sym (ap (λ y. frame_of p core y q) same.0 ∙ ap (λ y. frame_of p core seg y) same.1) ∙ resident_frame p core k s q settled holds in
    absurd (cc)

-- the page table word of the page that was evicted
brought_away : (p : PagerFields) (core mid : List ℕ) (gone : PagerFields) (left : List ℕ) (new : PagerFields) (now : List ℕ) (k seg page s q : ℕ)
    → IsConsistent p core → IsEmptied p mid gone left k → IsTakenIn gone left new now k seg page
    → frame_of p core seg page ≡ None → Holds p k s q → get_or now (spot_of p s q) 0 ≡ absent_ptw
brought_away p core mid gone left new now k seg page s q settled emptied taken out holds =
    let shape = emptied.kept.shape in
    let has : has_page p s q ≡ true = settled.pager.held k s q holds in
    let has' : has_page p seg page ≡ true = sym (shape.pages seg page) ∙ taken.has in
    let below = settled.pager.below s q has in
    let first = shape.first in
    let apart : spot_of p s q ≢ spot_of gone seg page = λ at.
    held_other p core k s q seg page settled holds out (settled.pager.apart s q seg page has has' (at ∙ shape.spots seg page)) in
    taken.others (spot_of p s q) apart (inl (omega (arith, below, first))) ∙ emptied.spot s q holds

-- a word that is neither in the frame nor a page table word of the two pages
brought_word : (p : PagerFields) (core mid : List ℕ) (gone : PagerFields) (left : List ℕ) (new : PagerFields) (now : List ℕ) (k seg page : ℕ) (refs : List Reference) (a : ℕ)
    → ClearsMarksAt core mid (IsUnpinnedPtwPlace p refs) → IsEmptied p mid gone left k → IsTakenIn gone left new now k seg page
    → a ≢ spot_of p seg page → ((s q : ℕ) → Holds p k s q → a ≢ spot_of p s q)
    → (a < 1024 * (p.first + k)) ⊎ (1024 * (p.first + k) + 1024 ≤ a)
    → OnlyMarkCleared (IsUnpinnedPtwPlace p refs) core now a
brought_word p core mid gone left new now k seg page refs a marks emptied taken other others range =
    let shape = emptied.kept.shape in
    let R : ℕ → Type 0 = λ n. (a < 1024 * (n + k)) ⊎ (1024 * (n + k) + 1024 ≤ a) in
    let still : get_or now a 0 ≡ get_or mid a 0 =
    taken.others a (λ at. other (at ∙ shape.spots seg page)) (subst R (sym shape.first) range) ∙ emptied.others.words a others in
    elim (marks.each a) [ inl e ↦ inl (still ∙ e) | inr e ↦ inr (e.0, still ∙ e.1) ]

pub brought : (p : PagerFields) (core mid : List ℕ) (gone : PagerFields) (left : List ℕ) (new : PagerFields) (now : List ℕ) (k seg page : ℕ) (refs : List Reference)
    → IsConsistent p core → ClearsMarksAt core mid (IsUnpinnedPtwPlace p refs) → IsEmptied p mid gone left k → IsTakenIn gone left new now k seg page
    → IsUnpinned refs p.holders k
    → IsBrought p core new now seg page refs
brought p core mid gone left new now k seg page refs s marks emptied taken free =
    let m = marks_of p refs core mid s.pager marks in
    let s1 = marks_settled p core mid s m in
    record {
      kept = kept_then p core p mid new now (marks_kept p core mid s m)
          (kept_then p mid gone left new now emptied.kept (taken_kept gone left new now k seg page emptied.settled taken));
      resident = ap is_some (taken_in gone left new now k seg page emptied.settled taken);
      stays = all_stay p core new now refs (λ i d below has frame e.
          let x : ℕ = (get_or refs i d).at.seg in
          let q : ℕ = (get_or refs i d).at.word / 1024 in
          let range = frame_range p core x q frame s has e in
          let marked : frame_of p mid x q ≡ Some frame = marks_frame p core mid x q s m has ∙ e in
          let apart : frame ≢ p.first + k = λ same.
          let number = range.1 in
          let equal : range.0 ≡ k = omega (arith, number, same) in
          let P : ℕ → Type 0 = λ n. Holds p n x q in
          unpinned p refs k i d below free (subst P equal range.2) in
          let there : frame_of gone left x q ≡ Some frame = emptied.stays x q frame has marked apart in
          let has' : has_page gone x q ≡ true = emptied.kept.shape.pages x q ∙ has in
          taken_frame gone left new now k seg page x q emptied.settled taken has' (taken_other gone left new now k seg page x q frame taken there) ∙ there);
      k = k;
      holders = λ j other. taken_holders gone left new now k seg page taken j other ∙ emptied.others.holders j other;
      spot = λ out.
          ap (λ a. get_or now a 0) (sym (emptied.kept.shape.spots seg page)) ∙ taken.spot ∙ ap (λ n. resident_ptw (n + k)) emptied.kept.shape.first;
      away = λ x q out holds. brought_away p core mid gone left new now k seg page x q s emptied taken out holds;
      words = λ a other others range. brought_word p core mid gone left new now k seg page refs a marks emptied taken other others range;
      others_kept = λ x w out. taken.kept x w ∙ emptied.others.kept x w out;
    }

-- if a frame is free, not all are pinned
pub not_pinned : (p : PagerFields) (refs : List Reference) (k : ℕ) → IsUnpinned refs p.holders k → AllPinned p refs → ⊥
not_pinned p refs k free all =
    let pinned : is_pinned refs (get_or p.holders k None) ≡ true =
    All-get_or (λ h. is_pinned refs h ≡ true) p.holders k None free.inside all in
    let none = free.free in
    absurd (cc)

-- ---- the code of the two moves

pub away_parts : (first : ℕ) (holders : List (Option (ℕ × ℕ))) (spots : List ℕ) (tables ts : List TableFields) (p : PagerFields) (core now : List ℕ)
    (k seg page i spot : ℕ) (t t' : TableFields)
    → parts first holders tables ≡ p → HasPtwPlaces (parts first holders tables) spots → IsConsistent p core → Holds p k seg page
    → ts ≡ tables → position (is_table_of seg) ts ≡ Some i → t ≡ get_or tables i t
    → IsCopied core (1024 * (first + k)) t.words (1024 * page) t'.words → t' ≡ (record t { words = t'.words })
    → spot ≡ get_or spots k spot → now ≡ set core spot absent_ptw
    → IsEvicted p core (parts first (set holders k None) (set tables i t')) now k seg page
away_parts first holders spots tables ts p core now k seg page i spot t t' e inside s held same place item copied others at written =
    let q : PagerFields = parts first holders tables in
    let new : PagerFields = parts first (set holders k None) (set tables i t') in
    let settled : IsConsistent q core = settled_parts p q core e s in
    let H : PagerFields → Type 0 = λ x. Holds x k seg page in
    let held' : Holds q k seg page = subst H (sym e) held in
    let C : TableFields → Type 0 = λ x. IsCopied core (1024 * (first + k)) x.words (1024 * page) t'.words in
    let has : HasWords q new seg i t t'.words = record {
      at = sym (ap (position (is_table_of seg)) same) ∙ place;
      tables = ap (λ x. set tables i x) (others ∙ ap (λ (x : TableFields). record x { words = t'.words }) item);
    } in
    let count = inside.count in
    let below = held_inside holders k (seg, page) held' in
    let room : k < length spots = omega (arith, count, below) in
    let there : get_or spots k 0 ≡ get_or spots k spot = get_or_from_slice_get spots k (get_or spots k spot) 0 (slice_get-get_or spots k spot room) in
    let spot' : spot ≡ spot_of q seg page = at ∙ sym there ∙ inside.spots k seg page held' in
    let A : PagerFields → Type 0 = λ x. IsEvicted x core new now k seg page in
    subst A e
    (away_from q core new now k seg page i t t'.words settled held' has refl refl (subst C item copied)
    (written ∙ ap (λ a. set core a absent_ptw) spot'))

pub taken_parts : (first : ℕ) (holders : List (Option (ℕ × ℕ))) (tables ts : List TableFields) (p : PagerFields) (core mid now : List ℕ)
    (k seg page i spot : ℕ) (t : TableFields)
    → parts first holders tables ≡ p → IsConsistent p core → has_page p seg page ≡ true → frame_of p core seg page ≡ None
    → get_or p.holders k None ≡ None → k < length p.holders
    → ts ≡ tables → position (is_table_of seg) ts ≡ Some i → t ≡ get_or tables i t
    → IsCopied t.words (1024 * page) core (1024 * (first + k)) mid
    → spot ≡ spot_of p seg page → now ≡ set mid spot (resident_ptw (first + k))
    → IsTakenIn p core (parts first (set holders k (Some (seg, page))) tables) now k seg page
taken_parts first holders tables ts p core mid now k seg page i spot t e s has out empty inside same place item copied at written =
    let q : PagerFields = parts first holders tables in
    let new : PagerFields = parts first (set holders k (Some (seg, page))) tables in
    let settled : IsConsistent q core = settled_parts p q core e s in
    let C : TableFields → Type 0 = λ x. IsCopied x.words (1024 * page) core (1024 * (first + k)) mid in
    let holders' : holders ≡ p.holders = ap (λ (x : PagerFields). x.holders) e in
    let count : length holders ≡ length p.holders = ap length holders' in
    let A : PagerFields → Type 0 = λ x. IsTakenIn x core new now k seg page in
    subst A e
    (taken_from q core new mid now k seg page i t settled (ap (λ x. has_page x seg page) e ∙ has)
    (ap (λ x. frame_of x core seg page) e ∙ out) (ap (λ hs. get_or hs k None) holders' ∙ empty) (omega (arith, inside, count))
    (sym (ap (position (is_table_of seg)) same) ∙ place) refl refl refl (subst C item copied)
    (written ∙ ap (λ a. set mid a (resident_ptw (first + k))) (at ∙ sym (ap (λ x. spot_of x seg page) e))))

pub inside_view : (q p : PagerFields) (spots : List ℕ) → q ≡ p → HasPtwPlaces q spots → HasPtwPlaces p spots
inside_view q p spots e inside = let P : PagerFields → Type 0 = λ x. HasPtwPlaces x spots in subst P e inside

pub spot_below : (first : ℕ) (holders : List (Option (ℕ × ℕ))) (spots : List ℕ) (tables : List TableFields) (p : PagerFields) (core : List ℕ) (k seg page spot : ℕ)
    → parts first holders tables ≡ p → HasPtwPlaces (parts first holders tables) spots → IsConsistent p core → Holds p k seg page
    → spot ≡ get_or spots k spot → spot < length core
spot_below first holders spots tables p core k seg page spot e inside s held at =
    let q : PagerFields = parts first holders tables in
    let H : PagerFields → Type 0 = λ x. Holds x k seg page in
    let held' : Holds q k seg page = subst H (sym e) held in
    let count = inside.count in
    let inner = held_inside holders k (seg, page) held' in
    let room : k < length spots = omega (arith, count, inner) in
    let there : get_or spots k 0 ≡ get_or spots k spot = get_or_from_slice_get spots k (get_or spots k spot) 0 (slice_get-get_or spots k spot room) in
    let is : spot ≡ spot_of p seg page = at ∙ sym there ∙ inside.spots k seg page held' ∙ ap (λ x. spot_of x seg page) e in
    let below = s.pager.below seg page (s.pager.held k seg page held) in
    let frames = s.frames in
    omega (arith, is, below, frames)

-- ---- pages and their words

pub has_is : (first : ℕ) (holders : List (Option (ℕ × ℕ))) (tables ts : List TableFields) (p : PagerFields) (seg page i pages : ℕ) (t : TableFields)
    → parts first holders tables ≡ p → ts ≡ tables → position (is_table_of seg) ts ≡ Some i → t ≡ get_or tables i t → pages ≡ t.pages
    → nat_lt page pages ≡ has_page p seg page
unfolding has_page
has_is first holders tables ts p seg page i pages t e same place item is =
    let q : PagerFields = parts first holders tables in
    ap (λ n. nat_lt page n) (is ∙ ap (λ (x : TableFields). x.pages) item)
    ∙ sym (ap (λ o. has_page_in o page) (found tables seg i t (sym (ap (position (is_table_of seg)) same) ∙ place)).2)
    ∙ ap (λ x. has_page x seg page) e

pub has_not : (first : ℕ) (holders : List (Option (ℕ × ℕ))) (tables ts : List TableFields) (p : PagerFields) (seg page : ℕ)
    → parts first holders tables ≡ p → ts ≡ tables → position (is_table_of seg) ts ≡ None → false ≡ has_page p seg page
unfolding has_page table_of
has_not first holders tables ts p seg page e same place =
    sym (ap (λ o. has_page_in (option_and_then (slice_get tables) o) page) (sym (ap (position (is_table_of seg)) same) ∙ place))
    ∙ ap (λ x. has_page x seg page) e

pub kept_is : (first : ℕ) (holders : List (Option (ℕ × ℕ))) (tables ts : List TableFields) (p : PagerFields) (seg w i v : ℕ) (t : TableFields)
    → parts first holders tables ≡ p → ts ≡ tables → position (is_table_of seg) ts ≡ Some i → t ≡ get_or tables i t → v ≡ get_or t.words w 0
    → v ≡ kept_word p seg w
kept_is first holders tables ts p seg w i v t e same place item is =
    let q : PagerFields = parts first holders tables in
    is ∙ ap (λ (x : TableFields). get_or x.words w 0) item
    ∙ sym (words_were q seg i t (sym (ap (position (is_table_of seg)) same) ∙ place) w) ∙ ap (λ x. kept_word x seg w) e

pub frame_told : (p : PagerFields) (core : List ℕ) (seg page spot : ℕ) (o : Option ℕ) → spot ≡ spot_of p seg page
    → o ≡ frame_in (get_or core spot 0) → frame_of p core seg page ≡ o
unfolding frame_of
frame_told p core seg page spot o is e = sym (ap (λ a. frame_in (get_or core a 0)) is) ∙ sym e

pub frame_room : (p : PagerFields) (core : List ℕ) (seg page frame : ℕ) → IsConsistent p core → has_page p seg page ≡ true
    → frame_of p core seg page ≡ Some frame → 1024 * frame + 1024 ≤ length core
frame_room p core seg page frame s has e =
    let range = frame_range p core seg page frame s has e in
    let inside = held_inside p.holders range.0 (seg, page) range.2 in
    let is = range.1 in
    let room = s.frames in
    omega (arith, inside, is, room)

pub content_none : (p : PagerFields) (core : List ℕ) (seg w : ℕ) → has_page p seg (w / 1024) ≡ false → content_of p core seg w ≡ None
unfolding content_of
content_none p core seg w lacks = ap (λ b. then_some b (page_word p core seg w)) lacks

pub content_some : (p : PagerFields) (core : List ℕ) (seg w frame : ℕ) → has_page p seg (w / 1024) ≡ true
    → frame_of p core seg (w / 1024) ≡ Some frame → content_of p core seg w ≡ Some (get_or core (1024 * frame + w % 1024) 0)
unfolding content_of page_word
content_some p core seg w frame has e =
    ap (λ b. then_some b (page_word p core seg w)) has ∙ ap (λ f. Some (word_in f core w (kept_word p seg w))) e

pub content_kept : (p : PagerFields) (core : List ℕ) (seg w : ℕ) → has_page p seg (w / 1024) ≡ true
    → frame_of p core seg (w / 1024) ≡ None → content_of p core seg w ≡ Some (kept_word p seg w)
unfolding content_of page_word
content_kept p core seg w has e =
    ap (λ b. then_some b (page_word p core seg w)) has ∙ ap (λ f. Some (word_in f core w (kept_word p seg w))) e

-- the frame that a page table word names is in core
pub frame_here : (p : PagerFields) (core : List ℕ) (seg page spot frame : ℕ) (o : Option ℕ) → IsPager p → AgreesWithCore p core → HasFrames p core
    → length core ≤ 2 ^ 24 → has_page p seg page ≡ true → spot ≡ spot_of p seg page → o ≡ frame_in (get_or core spot 0) → o ≡ Some frame
    → 1024 * frame + 1024 ≤ length core
frame_here p core seg page spot frame o pager reads frames most has is e some =
    frame_room p core seg page frame (settled_by p core pager reads frames most) has (frame_told p core seg page spot o is e ∙ some)
