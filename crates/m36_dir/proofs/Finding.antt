-- The first segment of a directory that has a name.
use Rattle.std.proofs.Common.{ℕ, zero, suc, ◌≡◌, ◌+◌, ◌<◌, ◌≤◌, Bool, true, false, cond, List, [], ◌∷◌, ◌++◌, length, take, get_or, map, Option, Some, None, Ok, refl, sym, ap, subst, ◌∙◌, ⊎_elim, arith}
use Rattle.std.specs.Prelude.{not, ◌||◌, ◌&&◌, nat_lt, nat_eq, slice_get, unwrap_or, All, Contains}
use Rattle.std.specs.List.{list_any, position_or_len, position}
use Rattle.std.proofs.lemmas.Bool.{eqb-true, eq-eqb, and_parts, and_from, or_cases, or_left, or_right, or_from, or_parts, not-true, ltb-false, lt-ltb}
use Rattle.std.proofs.lemmas.List.{take_all}
use Rattle.std.proofs.lemmas.List.Elements.{All-nil, All-cons}
use Rattle.std.proofs.lemmas.List.Folds.{list_any-append, list_any_at}
use Rattle.std.proofs.lemmas.List.Quantifiers.{position-Some}
use Rattle.std.proofs.lemmas.Option.{slice_get-get_or}
use Rattle.m36_text.specs.Texts.{is_text}
use Rattle.m36_text.specs.Once.{are_distinct_by}
use Rattle.m36_dir.specs.Fields.{SegmentFields}
use Rattle.m36_dir.specs.BootOrder.{Entry, entry, is_same_entry}
use Rattle.m36_dir.specs.Catalog.{CatalogFields, directory_in, has_name, has_entry_named, find_segment, IsFirstNamed, FindsFirst, catalog_of}
use Rattle.m36_dir.specs.IsCatalog.{entries_in, FoundByEachName}
use Rattle.m36_dir.proofs.Kept.{same_text, itself}
use Rattle.m36_dir.proofs.NamesOnce.{names_once}

-- ---- the list has a text

pub any_from_contains : (text : List ℕ) (texts : List (List ℕ)) → Contains texts text → list_any (is_text text) texts ≡ true
any_from_contains text texts has =
    list_any_at (is_text text) texts has.0 text has.1 (ap (is_text text) has.2 ∙ itself text)

more_contains : (text x : List ℕ) (texts : List (List ℕ)) → Contains texts text → Contains (x ∷ texts) text
more_contains text x texts has = (suc has.0, omega (arith, has.1), has.2)

pub contains_from_any : (text : List ℕ) (texts : List (List ℕ)) → list_any (is_text text) texts ≡ true → Contains texts text
contains_from_any text [] e = absurd (cc)
contains_from_any text (x ∷ texts) e =
    ⊎_elim (λ here. (0, omega arith, sym (same_text text x here))) (λ later. more_contains text x texts (contains_from_any text texts later))
    (or_cases (is_text text x) (list_any (is_text text) texts) e)

-- ---- none before the first passes

before_if : {X : Type 0} (p : X → Bool) (b : Bool) (x : X) (xs : List X) (n : ℕ) → p x ≡ b → All (λ y. p y ≡ false) (take n xs)
    → All (λ y. p y ≡ false) (take (cond (not b) (1 + n) 0) (x ∷ xs))
before_if p true x xs n is rest = All-nil (λ y. p y ≡ false)
before_if p false x xs n is rest =
    let e : suc n ≡ 1 + n = omega arith in
    let P : ℕ → Type 0 = λ m. All (λ y. p y ≡ false) (take m (x ∷ xs)) in
    subst P e (All-cons (λ y. p y ≡ false) x (take n xs) is rest)

before : {X : Type 0} (p : X → Bool) (xs : List X) → All (λ y. p y ≡ false) (take (position_or_len p xs) xs)
before p [] = All-nil (λ y. p y ≡ false)
before p (x ∷ xs) = before_if p (p x) x xs (position_or_len p xs) refl (before p xs)

some_if : (b : Bool) (n i : ℕ) → cond b (Some n) None ≡ Some i → n ≡ i
some_if true n i e = cc
some_if false n i e = absurd (cc)

none_if : (b : Bool) (n : ℕ) → cond b (Some n) None ≡ None → b ≡ false
none_if true n e = absurd (cc)
none_if false n e = refl

-- the element at i, which passes
at_first : {X : Type 0} (p : X → Bool) (xs : List X) (i : ℕ) → position p xs ≡ Some i → (x : X) × (slice_get xs i ≡ Some x) × (p x ≡ true)
at_first p [] i e = absurd (cc)
at_first p (x ∷ xs) i e =
    let is = position-Some p (x ∷ xs) i x e in
    (get_or (x ∷ xs) i x, slice_get-get_or (x ∷ xs) i x is.0, is.1)

first_at : (segments : List SegmentFields) (dir : ℕ) (name : List ℕ) (i : ℕ)
    → position (λ s. has_entry_named dir name s) segments ≡ Some i → IsFirstNamed segments dir name i
first_at segments dir name i e =
    let p : SegmentFields → Bool = λ s. has_entry_named dir name s in
    let is : (s : SegmentFields) × (slice_get segments i ≡ Some s) × (p s ≡ true) = at_first p segments i e in
    let both = and_parts (nat_eq is.0.dir dir) (has_name name is.0) is.2 in
    let place : position_or_len p segments ≡ i = some_if (nat_lt (position_or_len p segments) (length segments)) (position_or_len p segments) i e in
    let P : ℕ → Type 0 = λ n. All (λ s. p s ≡ false) (take n segments) in
    record {
      segment = is.0;
      at = is.1;
      inside = eqb-true is.0.dir dir both.0;
      named = contains_from_any name is.0.names both.1;
      first = subst P place (before p segments);
    }

none_of : (segments : List SegmentFields) (p : SegmentFields → Bool) → position p segments ≡ None → All (λ s. p s ≡ false) segments
none_of segments p e =
    let past : length segments ≤ position_or_len p segments =
    ltb-false (position_or_len p segments) (length segments) (none_if (nat_lt (position_or_len p segments) (length segments)) (position_or_len p segments) e) in
    let P : List SegmentFields → Type 0 = λ ss. All (λ s. p s ≡ false) ss in
    subst P (take_all (position_or_len p segments) segments past) (before p segments)

pub first_named : (segments : List SegmentFields) (dir : ℕ) (name : List ℕ) (o : Option ℕ)
    → o ≡ position (λ s. has_entry_named dir name s) segments → FindsFirst segments dir name o
first_named segments dir name None e = none_of segments (λ s. has_entry_named dir name s) (sym e)
first_named segments dir name (Some i) e = first_at segments dir name i (sym e)

-- ---- each name of a segment finds it, if no name occurs twice in a directory

same_entry : (a b : Entry) → is_same_entry a b ≡ true → a ≡ b
same_entry a b e =
    let both = and_parts (is_text a.dir b.dir) (is_text a.name b.name) e in
    let dirs = same_text a.dir b.dir both.0 in
    let names = same_text a.name b.name both.1 in
    λ i. record { dir = dirs i; name = names i }

one_place_if : (b : Bool) (e a : Entry) (above below : List Entry) → is_same_entry e a ≡ b → list_any (is_same_entry a) (above ++ below) ≡ false
    → (list_any (is_same_entry e) above ≡ true → list_any (is_same_entry e) below ≡ false)
    → (b || list_any (is_same_entry e) above) ≡ true → list_any (is_same_entry e) below ≡ false
one_place_if true e a above below same none later has =
    let P : Entry → Type 0 = λ x. list_any (is_same_entry x) (above ++ below) ≡ false in
    let mine : list_any (is_same_entry e) (above ++ below) ≡ false = subst P (sym (same_entry e a same)) none in
    (or_parts (list_any (is_same_entry e) above) (list_any (is_same_entry e) below) (sym (list_any-append (is_same_entry e) above below) ∙ mine)).1
one_place_if false e a above below other none later has = later has

-- an entry among the first is not among the others
one_place : (e : Entry) (above below : List Entry) → are_distinct_by is_same_entry (above ++ below) ≡ true
    → list_any (is_same_entry e) above ≡ true → list_any (is_same_entry e) below ≡ false
one_place e [] below once has = absurd (cc)
one_place e (a ∷ above) below once has =
    let parts = and_parts (not (list_any (is_same_entry a) (above ++ below))) (are_distinct_by is_same_entry (above ++ below)) once in
    one_place_if (is_same_entry e a) e a above below refl (not-true (list_any (is_same_entry a) (above ++ below)) parts.0)
    (λ h. one_place e above below parts.1 h) has

once_behind : (above below : List Entry) → are_distinct_by is_same_entry (above ++ below) ≡ true → are_distinct_by is_same_entry below ≡ true
once_behind [] below once = once
once_behind (a ∷ above) below once =
    once_behind above below (and_parts (not (list_any (is_same_entry a) (above ++ below))) (are_distinct_by is_same_entry (above ++ below)) once).1

among_if : (b : Bool) (dir name other : List ℕ) (names : List (List ℕ)) → is_text name other ≡ b
    → (list_any (is_text name) names ≡ true → list_any (is_same_entry (entry dir name)) (map (entry dir) names) ≡ true)
    → (b || list_any (is_text name) names) ≡ true
    → list_any (is_same_entry (entry dir name)) (map (entry dir) (other ∷ names)) ≡ true
among_if true dir name other names same later has =
    or_left (is_text dir dir && is_text name other) (list_any (is_same_entry (entry dir name)) (map (entry dir) names))
    (and_from (is_text dir dir) (is_text name other) (itself dir) same)
among_if false dir name other names differs later has =
    or_right (is_text dir dir && is_text name other) (list_any (is_same_entry (entry dir name)) (map (entry dir) names)) (later has)

among : (dir name : List ℕ) (names : List (List ℕ)) → list_any (is_text name) names ≡ true
    → list_any (is_same_entry (entry dir name)) (map (entry dir) names) ≡ true
among dir name [] has = absurd (cc)
among dir name (other ∷ names) has =
    among_if (is_text name other) dir name other names refl (λ h. among dir name names h) has

entry_of : (dirs : List (List ℕ)) (s : SegmentFields) (name : List ℕ) → Entry
entry_of dirs s name = entry (directory_in dirs s) name

of_segment : (dirs : List (List ℕ)) (s : SegmentFields) → List Entry
of_segment dirs s = map (entry (directory_in dirs s)) s.names

some_same : (x s : SegmentFields) → Some x ≡ Some s → x ≡ s
some_same x s e = cc

among_all : (dirs : List (List ℕ)) (segments : List SegmentFields) (i : ℕ) (s : SegmentFields) (name : List ℕ)
    → slice_get segments i ≡ Some s → list_any (is_text name) s.names ≡ true
    → list_any (is_same_entry (entry_of dirs s name)) (entries_in dirs segments) ≡ true
unfolding entry_of of_segment
among_all dirs [] i s name at has = absurd (cc)
among_all dirs (x ∷ segments) zero s name at has =
    let P : SegmentFields → Type 0 = λ y. list_any (is_same_entry (entry_of dirs s name)) (of_segment dirs y) ≡ true in
    let mine = subst P (sym (some_same x s at)) (among (directory_in dirs s) name s.names has) in
    list_any-append (is_same_entry (entry_of dirs s name)) (of_segment dirs x) (entries_in dirs segments)
    ∙ or_left (list_any (is_same_entry (entry_of dirs s name)) (of_segment dirs x)) (list_any (is_same_entry (entry_of dirs s name)) (entries_in dirs segments)) mine
among_all dirs (x ∷ segments) (suc i) s name at has =
    list_any-append (is_same_entry (entry_of dirs s name)) (of_segment dirs x) (entries_in dirs segments)
    ∙ or_right (list_any (is_same_entry (entry_of dirs s name)) (of_segment dirs x)) (list_any (is_same_entry (entry_of dirs s name)) (entries_in dirs segments))
    (among_all dirs segments i s name at has)

found_if : (b : Bool) (n i : ℕ) → b ≡ false → n ≡ i → cond (not b) (1 + n) 0 ≡ suc i
found_if true n i h e = absurd (cc)
found_if false n i h e = omega (arith, e)

here_if : (b : Bool) (n : ℕ) → b ≡ true → cond (not b) (1 + n) 0 ≡ 0
here_if true n h = refl
here_if false n h = absurd (cc)

false_if : (b : Bool) → (b ≡ true → true ≡ false) → b ≡ false
false_if true h = h refl
false_if false h = refl

-- a segment above that has the same name is in another directory
apart : (dirs : List (List ℕ)) (x : SegmentFields) (segments : List SegmentFields) (i : ℕ) (s : SegmentFields) (name : List ℕ)
    → are_distinct_by is_same_entry (entries_in dirs (x ∷ segments)) ≡ true
    → slice_get segments i ≡ Some s → list_any (is_text name) s.names ≡ true → has_entry_named s.dir name x ≡ true → true ≡ false
unfolding entry_of of_segment
apart dirs x segments i s name once at has also =
    let both = and_parts (nat_eq x.dir s.dir) (has_name name x) also in
    let inside : x.dir ≡ s.dir = eqb-true x.dir s.dir both.0 in
    let P : List ℕ → Type 0 = λ d. list_any (is_same_entry (entry d name)) (of_segment dirs x) ≡ true in
    let mine : list_any (is_same_entry (entry_of dirs s name)) (of_segment dirs x) ≡ true =
    subst P (ap (λ n. unwrap_or (slice_get dirs n) []) inside) (among (directory_in dirs x) name x.names both.1) in
    sym (among_all dirs segments i s name at has)
    ∙ one_place (entry_of dirs s name) (of_segment dirs x) (entries_in dirs segments) once mine

place_of_name : (dirs : List (List ℕ)) (segments : List SegmentFields) (i : ℕ) (s : SegmentFields) (name : List ℕ)
    → are_distinct_by is_same_entry (entries_in dirs segments) ≡ true
    → slice_get segments i ≡ Some s → list_any (is_text name) s.names ≡ true
    → position_or_len (λ x. has_entry_named s.dir name x) segments ≡ i
unfolding of_segment
place_of_name dirs [] i s name once at has = absurd (cc)
place_of_name dirs (x ∷ segments) zero s name once at has =
    let P : SegmentFields → Type 0 = λ y. has_entry_named s.dir name y ≡ true in
    let mine : has_entry_named s.dir name s ≡ true = and_from (nat_eq s.dir s.dir) (has_name name s) (eq-eqb s.dir s.dir refl) has in
    here_if (has_entry_named s.dir name x) (position_or_len (λ y. has_entry_named s.dir name y) segments) (subst P (sym (some_same x s at)) mine)
place_of_name dirs (x ∷ segments) (suc i) s name once at has =
    found_if (has_entry_named s.dir name x) (position_or_len (λ y. has_entry_named s.dir name y) segments) i
    (false_if (has_entry_named s.dir name x) (λ also. apart dirs x segments i s name once at has also))
    (place_of_name dirs segments i s name (once_behind (of_segment dirs x) (entries_in dirs segments) once) at has)

inside_at : (segments : List SegmentFields) (i : ℕ) (s : SegmentFields) → slice_get segments i ≡ Some s → i < length segments
inside_at [] i s at = absurd (cc)
inside_at (x ∷ segments) zero s at = omega arith
inside_at (x ∷ segments) (suc i) s at = omega (arith, inside_at segments i s at)

found_at : (segments : List SegmentFields) (p : SegmentFields → Bool) (i : ℕ) → position_or_len p segments ≡ i → i < length segments
    → position p segments ≡ Some i
found_at segments p i place inside =
    let within : position_or_len p segments < length segments = omega (arith, place, inside) in
    ap (λ b. cond b (Some (position_or_len p segments)) None) (lt-ltb (position_or_len p segments) (length segments) within)
    ∙ ap (λ n. Some n) place

pub found_by_each_name : FoundByEachName
unfolding find_segment
found_by_each_name text c e i s at name has =
    let any = any_from_contains name s.names has in
    found_at c.segments (λ x. has_entry_named s.dir name x) i (place_of_name c.directories c.segments i s name (names_once text c e) at any)
    (inside_at c.segments i s at)
