-- Steps of the loops over the segments of a catalog.
use Rattle.std.proofs.Common.{ℕ, ◌≡◌, ◌+◌, ◌<◌, ◌≤◌, Bool, true, false, List, [], ◌∷◌, ◌++◌, length, take, drop, map, get_or, Option, Some, refl, sym, ap, subst, ◌∙◌, arith, append_assoc, length-append, length-drop}
use Rattle.std.specs.Prelude.{◌||◌, slice_get, slice_set, IfSome}
use Rattle.std.specs.List.{list_any}
use Rattle.std.proofs.lemmas.List.{drop_more, take_more, take_all, at_drop_all, length-take, length-map, map-append, append-nil}
use Rattle.std.proofs.lemmas.Option.{slice_get_within, get_or_from_slice_get}
use Rattle.std.proofs.Math.Seq.{set-append_seam}
use Rattle.m36_dir.specs.Fields.{SegmentFields}
use Rattle.m36_dir.specs.Catalog.{CatalogFields}
use Rattle.m36_acl.specs.Fields.{AclSegmentFields}
use Rattle.m36_acl.specs.AccessLists.{Lists}
use Rattle.m36_acl.specs.Granted.{is_list_for, granted_segment, granted_catalog, GrantsOne}
use Rattle.m36_acl.proofs.Places.{at_place}

-- the element at an index, and those after it
drop_at : {X : Type 0} (xs : List X) (i : ℕ) (x : X) → slice_get xs i ≡ Some x → drop i xs ≡ x ∷ drop (i + 1) xs
drop_at {X} xs i x e =
    drop_more xs i x (slice_get_within xs i x e) ∙ ap (λ (y : X). y ∷ drop (i + 1) xs) (get_or_from_slice_get xs i x x e)

-- ---- a segment that a line names

known_at : (catalog : CatalogFields) (given : AclSegmentFields) (i : ℕ) (s : SegmentFields) → slice_get catalog.segments i ≡ Some s
    → list_any (is_list_for catalog given) (drop i catalog.segments)
    ≡ (is_list_for catalog given s || list_any (is_list_for catalog given) (drop (i + 1) catalog.segments))
known_at catalog given i s e = ap (λ (ss : List SegmentFields). list_any (is_list_for catalog given) ss) (drop_at catalog.segments i s e)

pub known_here : (catalog : CatalogFields) (given : AclSegmentFields) (i : ℕ) (s : SegmentFields) (total : Bool)
    → slice_get catalog.segments i ≡ Some s → true ≡ is_list_for catalog given s
    → list_any (is_list_for catalog given) (drop i catalog.segments) ≡ total → true ≡ total
known_here catalog given i s total e here so_far =
    ap (λ (b : Bool). (b || list_any (is_list_for catalog given) (drop (i + 1) catalog.segments))) here
    ∙ sym (known_at catalog given i s e) ∙ so_far

pub known_later : (catalog : CatalogFields) (given : AclSegmentFields) (i : ℕ) (s : SegmentFields) (total : Bool)
    → slice_get catalog.segments i ≡ Some s → false ≡ is_list_for catalog given s
    → list_any (is_list_for catalog given) (drop i catalog.segments) ≡ total
    → list_any (is_list_for catalog given) (drop (i + 1) catalog.segments) ≡ total
known_later catalog given i s total e other so_far =
    ap (λ (b : Bool). (b || list_any (is_list_for catalog given) (drop (i + 1) catalog.segments))) other
    ∙ sym (known_at catalog given i s e) ∙ so_far

pub known_never : (catalog : CatalogFields) (given : AclSegmentFields) (i : ℕ) (total : Bool) → length catalog.segments ≤ i
    → list_any (is_list_for catalog given) (drop i catalog.segments) ≡ total → false ≡ total
known_never catalog given i total le so_far =
    sym (at_drop_all (λ (ss : List SegmentFields). list_any (is_list_for catalog given) ss) catalog.segments i le) ∙ so_far

-- ---- rights, segment after segment

-- a list whose first elements are changed
abbrev pub partly : {X : Type 0} → (X → X) → ℕ → List X → List X
partly g i xs = map g (take i xs) ++ drop i xs

length_partly : {X : Type 0} (g : X → X) (i : ℕ) (xs : List X) → length (partly g i xs) ≡ length xs
length_partly g i xs =
    omega (arith, length-append (map g (take i xs)) (drop i xs), length-map (take i xs) g, length-take i xs, length-drop i xs)

seam : {X : Type 0} (xs : List X) (x : X) (ys : List X) → slice_get (xs ++ x ∷ ys) (length xs) ≡ Some x
seam [] x ys = refl
seam (y ∷ xs) x ys = seam xs x ys

-- the front of such a list, the next element and those after it
partly_at : {X : Type 0} (g : X → X) (i : ℕ) (xs : List X) (x : X) → i < length xs
    → partly g i xs ≡ map g (take i xs) ++ get_or xs i x ∷ drop (i + 1) xs
partly_at {X} g i xs x lt = ap (λ (ys : List X). map g (take i xs) ++ ys) (drop_more xs i x lt)

length_front : {X : Type 0} (g : X → X) (i : ℕ) (xs : List X) → i < length xs → length (map g (take i xs)) ≡ i
length_front g i xs lt = omega (arith, length-map (take i xs) g, length-take i xs)

partly_at_place : {X : Type 0} (g : X → X) (i : ℕ) (xs : List X) (x : X) → i < length xs → get_or xs i x ≡ x
    → slice_get (partly g i xs) i ≡ Some x
partly_at_place {X} g i xs x lt e =
    let front = map g (take i xs) in
    ap (λ (ys : List X). slice_get ys i) (partly_at g i xs x lt)
    ∙ ap (λ (n : ℕ). slice_get (front ++ get_or xs i x ∷ drop (i + 1) xs) n) (sym (length_front g i xs lt))
    ∙ seam front (get_or xs i x) (drop (i + 1) xs) ∙ ap (λ (y : X). Some y) e

partly_more : {X : Type 0} (g : X → X) (i : ℕ) (xs : List X) (x : X) → i < length xs → get_or xs i x ≡ x
    → slice_set (partly g i xs) i (g x) ≡ partly g (i + 1) xs
partly_more {X} g i xs x lt e =
    let front = map g (take i xs) in
    let behind = drop (i + 1) xs in
    let taken : map g (take (i + 1) xs) ≡ front ++ g x ∷ [] =
    ap (map g) (take_more xs i x lt) ∙ map-append g (take i xs) (get_or xs i x ∷ []) ∙ ap (λ (y : X). front ++ g y ∷ []) e in
    ap (λ (ys : List X). slice_set ys i (g x)) (partly_at g i xs x lt)
    ∙ ap (λ (n : ℕ). slice_set (front ++ get_or xs i x ∷ behind) n (g x)) (sym (length_front g i xs lt))
    ∙ set-append_seam front (get_or xs i x) behind (g x)
    ∙ sym (append_assoc front (g x ∷ []) behind)
    ∙ ap (λ (ys : List X). ys ++ behind) (sym taken)

partly_whole : {X : Type 0} (g : X → X) (i : ℕ) (xs : List X) → length xs ≤ i → partly g i xs ≡ map g xs
partly_whole {X} g i xs le =
    ap (λ (ys : List X). map g ys ++ drop i xs) (take_all i xs le)
    ∙ at_drop_all (λ (ys : List X). map g xs ++ ys) xs i le ∙ append-nil (map g xs)

-- a catalog whose first segments have their rights
abbrev pub granted_up_to : Lists → List ℕ → ℕ → CatalogFields → CatalogFields
granted_up_to lists user i catalog =
    record catalog { segments = partly (granted_segment lists user catalog.directories) i catalog.segments }

pub grant_more : (lists : Lists) (user : List ℕ) (old now new : CatalogFields) (i : ℕ) → i < length old.segments
    → now ≡ granted_up_to lists user i old → GrantsOne lists user now new i → new ≡ granted_up_to lists user (i + 1) old
grant_more lists user old now new i lt e one =
    let g = granted_segment lists user old.directories in
    let xs = old.segments in
    let place = at_place xs i lt in
    let same : get_or xs i place.x ≡ place.x = get_or_from_slice_get xs i place.x place.x place.stands in
    let new_segment : GrantsOne lists user (granted_up_to lists user i old) new i =
    subst (λ (n : CatalogFields). GrantsOne lists user n new i) e one in
    let done : new ≡ record old { segments = slice_set (partly g i xs) i (g place.x) } =
    subst (λ (o : Option SegmentFields). IfSome o (λ s. new ≡ record old { segments = slice_set (partly g i xs) i (g s) }))
    (partly_at_place g i xs place.x lt same) new_segment in
    done ∙ ap (λ (ss : List SegmentFields). record old { segments = ss }) (partly_more g i xs place.x lt same)

pub grant_done : (lists : Lists) (user : List ℕ) (old now : CatalogFields) (i : ℕ) → length old.segments ≤ i
    → now ≡ granted_up_to lists user i old → now ≡ granted_catalog lists user old
unfolding granted_catalog
grant_done lists user old now i le e =
    e ∙ ap (λ (ss : List SegmentFields). record old { segments = ss }) (partly_whole (granted_segment lists user old.directories) i old.segments le)

-- the number of segments does not change
pub grant_count : (lists : Lists) (user : List ℕ) (old now : CatalogFields) (i : ℕ) → now ≡ granted_up_to lists user i old
    → length now.segments ≡ length old.segments
grant_count lists user old now i e =
    ap (λ (c : CatalogFields). length c.segments) e ∙ length_partly (granted_segment lists user old.directories) i old.segments
