-- An answer may be accepted, and accepting it keeps `IsConsistent`.
use Rattle.std.proofs.Common.{ℕ, ◌≡◌, ◌<◌, ◌≤◌, ◌+◌, ◌-◌, ◌%◌, ◌^◌, Bool, true, false, cond, eqb, leb, List, [], ◌∷◌, ◌++◌, length, slice_get, option_and_then, is_some, All, Option, Some, None, Result, Ok, Err, refl, sym, ap, ◌∙◌, subst, arith}
use Rattle.std.specs.Result.{result_ok}
use Rattle.std.proofs.lemmas.Bool.{cond-true, le-leb, leb-true}
use Rattle.std.proofs.lemmas.Option.{slice_get_within}
use Rattle.std.proofs.lemmas.List.Elements.{All-push}
use Rattle.m36_model.specs.Fields.{AtFields}
use Rattle.m36_model.specs.declared.endings.LinkCode.{LinkCode}
use Rattle.m36_model.specs.declared.endings.LinkCode.TheVariants.{L3, L4, L6}
use Rattle.m36_dir.specs.Fields.{SegmentFields}
use Rattle.m36_dir.specs.Catalog.{CatalogFields}
use Rattle.obj36_parts.specs.Fields.{LinkFields}
use Rattle.obj36_parts.specs.PartsFields.{PartsFields}
use Rattle.obj36_parts.specs.ObjectSegment.{rounded_up_to_even, has_name, has_entry}
use Rattle.obj36.specs.ObjectOf.{object_of}
use Rattle.obj36.specs.declared.fault.ObjectFault.{ObjectFault}
use Rattle.m36_link.specs.Fields.{RingNameFields, PlacedSectionFields, TargetFields, NewSectionFields, KnownFields, SnapFields}
use Rattle.m36_link.specs.Known.{first_segment, lot_words, index_in_catalog, segment_of, file_of, object_in, initiated_segment, section_ring, laid_in, even_end, next_base_after, next_base, next_base_in_ring, laid_words}
use Rattle.m36_link.specs.Search.{search_result}
use Rattle.m36_link.specs.Links.{link_in, section_at}
use Rattle.m36_link.specs.Target.{object_place_of, pair_to, new_placement, placement_by, placement_of, own_target_by, own_target, may_not_use, is_plain, plain_target, target_in_section, target_at_place, object_target, target_by_object, segment_target}
use Rattle.m36_link.specs.Snap.{target_if_found, candidate_target, outer_target, directory_of, target_of_link, words_to_lay, section_with_words, snap_of_target, snap_for, snap_in, snap_of, outer_snap}
use Rattle.m36_link.specs.Accepted.{with_section, with_initiated_name, known_after, MayBeLaid}
use Rattle.m36_link.specs.Laws.{NumbersAgree, IsOfCatalog, IsWholeSection, IsConsistent, MayBeAccepted, MayBeAcceptedFrom, KeepsConsistent, KeepsConsistentFrom}
use Rattle.m36_link.specs.declared.points.ObjectPlace.{ObjectPlace}

-- A section that has to be laid: its segment has none yet, it begins after the others, and it is whole.
record IsFresh (laid : List PlacedSectionFields) (files : List (List ℕ)) (seg : ℕ) (l : PlacedSectionFields) : Type 0 where
  absent : laid_in laid l.ring l.seg ≡ None
  base : l.base ≡ next_base_in_ring laid l.ring
  segment : l.seg ≡ seg
  object : PartsFields
  read : object_in files l.seg ≡ Some object
  size : l.size ≡ length (laid_words object)
  end : l.base + l.size ≤ 2 ^ 18

abbrev Fresh : List PlacedSectionFields → List (List ℕ) → ℕ → Option PlacedSectionFields → Type 0
Fresh laid files seg None = Unit {0}
Fresh laid files seg (Some l) = IsFresh laid files seg l

abbrev Sound : List PlacedSectionFields → List (List ℕ) → ℕ → Result TargetFields LinkCode → Type 0
Sound laid files seg (Err code) = Unit {0}
Sound laid files seg (Ok landing) = (landing.target ≡ seg) × Fresh laid files seg landing.lay

-- ---- the target of a link

plain_sound : (laid : List PlacedSectionFields) (files : List (List ℕ)) (ring seg : ℕ) (link : LinkFields) → Sound laid files seg (plain_target ring seg link)
unfolding plain_target
plain_sound laid files ring seg link = by (has_entry link.kind)
  where
    by : (b : Bool) → Sound laid files seg (cond b (Err L3) (Ok (record { pair = pair_to seg ring link.expr link; target = seg; lay = None })))
    by true = tt
    by false = (refl, tt)

new_sound : (laid : List PlacedSectionFields) (files : List (List ℕ)) (ring e seg base size : ℕ) (o : PartsFields) (link : LinkFields) (point : ObjectPlace)
    → laid_in laid e seg ≡ None → base ≡ next_base_in_ring laid e → object_in files seg ≡ Some o → size ≡ length (laid_words o)
    → Sound laid files seg (target_in_section ring seg o link point (new_placement e seg base size))
new_sound laid files ring e seg base size o link point absent at read sized = by (leb (base + size) (2 ^ 18)) refl
  where
    by : (b : Bool) → leb (base + size) (2 ^ 18) ≡ b
        → Sound laid files seg (target_in_section ring seg o link point (cond b (Ok (record { section = record { ring = e; seg = seg; base = base; size = size }; is_new = true })) (Err (L6 base size))))
    by true fits = (refl, record { absent = absent; base = at; segment = refl; object = o; read = read; size = sized; end = leb-true _ _ fits })
    by false fits = tt

home_sound : (laid : List PlacedSectionFields) (files : List (List ℕ)) (ring e seg : ℕ) (o : PartsFields) (link : LinkFields) (point : ObjectPlace) (found : Option PlacedSectionFields)
    → laid_in laid e seg ≡ found → object_in files seg ≡ Some o
    → Sound laid files seg (target_in_section ring seg o link point (placement_by found laid e seg o))
home_sound laid files ring e seg o link point (Some l) is read = (refl, tt)
home_sound laid files ring e seg o link point None is read =
    new_sound laid files ring e seg (next_base_in_ring laid e) (length (laid_words o)) o link point is refl read refl

object_sound : (laid : List PlacedSectionFields) (files : List (List ℕ)) (ring e seg : ℕ) (o : PartsFields) (link : LinkFields) (p : Result ObjectPlace LinkCode)
    → object_in files seg ≡ Some o → Sound laid files seg (target_at_place laid ring e seg o link p)
unfolding placement_of
object_sound laid files ring e seg o link (Err code) read = tt
object_sound laid files ring e seg o link (Ok point) read = home_sound laid files ring e seg o link point (laid_in laid e seg) refl read

landing_sound : (laid : List PlacedSectionFields) (files : List (List ℕ)) (ring seg : ℕ) (s : SegmentFields) (words : List ℕ) (link : LinkFields) (r : Result PartsFields ObjectFault)
    → file_of files seg ≡ Some words → object_of words ≡ r → Sound laid files seg (target_by_object laid ring seg s link r)
unfolding object_target object_in
landing_sound laid files ring seg s words link (Err fault) file is = tt
landing_sound laid files ring seg s words link (Ok o) file is =
    object_sound laid files ring (section_ring ring s) seg o link (object_place_of link o)
    (ap (λ (f : Option (List ℕ)). option_and_then (λ ws. result_ok (object_of ws)) f) file ∙ ap result_ok is)

target_sound : (laid : List PlacedSectionFields) (files : List (List ℕ)) (ring seg : ℕ) (s : SegmentFields) (words : List ℕ) (link : LinkFields)
    → file_of files seg ≡ Some words → Sound laid files seg (segment_target laid ring seg s words link)
unfolding segment_target
target_sound laid files ring seg s words link file = by (may_not_use ring s) (is_plain s.kind)
  where
    by : (b c : Bool) → Sound laid files seg (cond b (Err L4) (cond c (plain_target ring seg link) (target_by_object laid ring seg s link (object_of words))))
    by true c = tt
    by false true = plain_sound laid files ring seg link
    by false false = landing_sound laid files ring seg s words link (object_of words) file refl

found_sound : (known : KnownFields) (files : List (List ℕ)) (ring seg : ℕ) (s : Option SegmentFields) (words : Option (List ℕ)) (link : LinkFields)
    → file_of files seg ≡ words → Sound known.laid files seg (target_if_found known.laid ring seg s words link)
found_sound known files ring seg (Some s) (Some words) link file = target_sound known.laid files ring seg s words link file
found_sound known files ring seg (Some s) None link file = tt
found_sound known files ring seg None words link file = tt

-- ---- segments of the catalog

abbrev FreshIn : List PlacedSectionFields → CatalogFields → List (List ℕ) → Option PlacedSectionFields → Type 0
FreshIn laid catalog files None = Unit {0}
FreshIn laid catalog files (Some l) = IsFresh laid files l.seg l × IsOfCatalog catalog l.seg

-- the properties of the target of a link that has the name of a segment or has none
abbrev Good : List PlacedSectionFields → CatalogFields → List (List ℕ) → Bool → Result TargetFields LinkCode → Type 0
Good laid catalog files outer (Err code) = Unit {0}
Good laid catalog files outer (Ok landing) =
    FreshIn laid catalog files landing.lay × (outer ≡ true → IsOfCatalog catalog landing.target)

pub numbers_stand : NumbersAgree
unfolding index_in_catalog
numbers_stand i =
    let same : first_segment + i - first_segment ≡ i = omega arith in
    cond-true (leb first_segment (first_segment + i)) (Some (first_segment + i - first_segment)) None (le-leb first_segment (first_segment + i) (omega arith))
    ∙ ap (λ n. Some n) same

of_place : (catalog : CatalogFields) (seg : ℕ) (s : SegmentFields) → segment_of catalog seg ≡ Some s → IsOfCatalog catalog seg
unfolding segment_of index_in_catalog
of_place catalog seg s = by (leb first_segment seg) refl
  where
    by : (b : Bool) → leb first_segment seg ≡ b
        → option_and_then (slice_get catalog.segments) (cond b (Some (seg - first_segment)) None) ≡ Some s → IsOfCatalog catalog seg
    by true low e =
        let from : first_segment ≤ seg = leb-true _ _ low in
        let inside : seg - first_segment < length catalog.segments = slice_get_within catalog.segments (seg - first_segment) s e in
        record { from = from; below = omega (arith, from, inside) }
    by false low e = absurd cc

fresh_in : (laid : List PlacedSectionFields) (catalog : CatalogFields) (files : List (List ℕ)) (seg : ℕ) (lay : Option PlacedSectionFields) → IsOfCatalog catalog seg → Fresh laid files seg lay
    → FreshIn laid catalog files lay
fresh_in laid catalog files seg None of fresh = tt
fresh_in laid catalog files seg (Some l) of fresh = (
  record {
    absent = fresh.absent;
    base = fresh.base;
    segment = refl;
    object = fresh.object;
    read = fresh.read;
    size = fresh.size;
    end = fresh.end;
  },
  (let P : ℕ → Type 0 = λ n. IsOfCatalog catalog n in subst P (sym fresh.segment) of),
)

good_of : (laid : List PlacedSectionFields) (catalog : CatalogFields) (files : List (List ℕ)) (seg : ℕ) (r : Result TargetFields LinkCode) → IsOfCatalog catalog seg → Sound laid files seg r
    → Good laid catalog files true r
good_of laid catalog files seg (Err code) of sound = tt
good_of laid catalog files seg (Ok landing) of sound =
    (fresh_in laid catalog files seg landing.lay of sound.1, λ outer. let P : ℕ → Type 0 = λ n. IsOfCatalog catalog n in subst P (sym sound.0) of)

candidate_good : (known : KnownFields) (catalog : CatalogFields) (files : List (List ℕ)) (ring : ℕ) (link : LinkFields) (r : Option ℕ)
    → Good known.laid catalog files true (candidate_target known catalog files ring link r)
candidate_good known catalog files ring link None = tt
candidate_good known catalog files ring link (Some seg) = by (segment_of catalog seg) refl
  where
    by : (s : Option SegmentFields) → segment_of catalog seg ≡ s → Good known.laid catalog files true (target_if_found known.laid ring seg s (file_of files seg) link)
    by None is = tt
    by (Some s) is =
        good_of known.laid catalog files seg (target_if_found known.laid ring seg (Some s) (file_of files seg) link) (of_place catalog seg s is)
        (found_sound known files ring seg (Some s) (file_of files seg) link refl)

own_good : (laid : List PlacedSectionFields) (catalog : CatalogFields) (files : List (List ℕ)) (ring : ℕ) (l : PlacedSectionFields) (o : PartsFields) (link : LinkFields) (p : Result ObjectPlace LinkCode)
    → Good laid catalog files false (own_target_by ring l o link p)
own_good laid catalog files ring l o link (Ok point) = (tt, λ outer. absurd cc)
own_good laid catalog files ring l o link (Err code) = tt

landing_good : (known : KnownFields) (catalog : CatalogFields) (files : List (List ℕ)) (ring : ℕ) (l : PlacedSectionFields) (o : PartsFields) (link : LinkFields)
    → Good known.laid catalog files (has_name link.kind) (target_of_link known catalog files ring l o link)
unfolding target_of_link outer_target own_target
landing_good known catalog files ring l o link = by (has_name link.kind)
  where
    by : (b : Bool)
        → Good known.laid catalog files b (cond b (outer_target known catalog files ring link (directory_of (segment_of catalog l.seg))) (own_target ring l o link))
    by true = candidate_good known catalog files ring link (search_result known catalog ring link.name (directory_of (segment_of catalog l.seg)))
    by false = own_good known.laid catalog files ring l o link (object_place_of link o)

-- ---- the answer

-- the properties of an answer
record IsGiven (known : KnownFields) (catalog : CatalogFields) (files : List (List ℕ)) (s : SnapFields) : Type 0 where
  lay : Option PlacedSectionFields
  laid : s.lay ≡ section_with_words files lay
  fresh : FreshIn known.laid catalog files lay
  target : has_name s.link.kind ≡ true → IsOfCatalog catalog s.target

given_by : (known : KnownFields) (catalog : CatalogFields) (files : List (List ℕ)) (ring : ℕ) (link : LinkFields) (r : Result TargetFields LinkCode) (s : SnapFields)
    → Good known.laid catalog files (has_name link.kind) r → snap_of_target files ring link r ≡ Ok s → IsGiven known catalog files s
given_by known catalog files ring link (Err code) s good e = absurd cc
given_by known catalog files ring link (Ok landing) s good e =
    let t : SnapFields = record { pair = landing.pair; ring = ring; target = landing.target; link = link; lay = section_with_words files landing.lay } in
    let is : t ≡ s = cc in
    let P : SnapFields → Type 0 = λ x. IsGiven known catalog files x in
    subst P is (record { lay = landing.lay; laid = refl; fresh = good.0; target = good.1 })

given_for : (known : KnownFields) (catalog : CatalogFields) (files : List (List ℕ)) (ring : ℕ) (l : PlacedSectionFields) (o : Option PartsFields) (link : Option LinkFields) (s : SnapFields)
    → snap_for known catalog files ring l o link ≡ Ok s → IsGiven known catalog files s
given_for known catalog files ring l (Some o) (Some link) s e =
    given_by known catalog files ring link (target_of_link known catalog files ring l o link) s (landing_good known catalog files ring l o link) e
given_for known catalog files ring l (Some o) None s e = absurd cc
given_for known catalog files ring l None link s e = absurd cc

given_in : (known : KnownFields) (catalog : CatalogFields) (files : List (List ℕ)) (at : AtFields) (l : Option PlacedSectionFields) (s : SnapFields)
    → snap_in known catalog files at l ≡ Ok s → IsGiven known catalog files s
given_in known catalog files at None s e = absurd cc
given_in known catalog files at (Some l) s e = given_for known catalog files at.ring l (object_in files l.seg) (link_in files at.word l) s e

given : (known : KnownFields) (catalog : CatalogFields) (files : List (List ℕ)) (at : AtFields) (s : SnapFields) → snap_of known catalog files at ≡ Ok s
    → IsGiven known catalog files s
unfolding snap_of
given known catalog files at s e = given_in known catalog files at (section_at known.laid files at) s e

-- the properties hold whether or not the link has a name
with_name : (laid : List PlacedSectionFields) (catalog : CatalogFields) (files : List (List ℕ)) (outer : Bool) (r : Result TargetFields LinkCode) → Good laid catalog files true r
    → Good laid catalog files outer r
with_name laid catalog files outer (Err code) good = tt
with_name laid catalog files outer (Ok landing) good = (good.0, λ is. good.1 refl)

given_from : (known : KnownFields) (catalog : CatalogFields) (files : List (List ℕ)) (ring : ℕ) (link : LinkFields) (from : ℕ) (s : SnapFields)
    → outer_snap known catalog files ring link from ≡ Ok s → IsGiven known catalog files s
unfolding outer_snap outer_target
given_from known catalog files ring link from s e =
    let r = candidate_target known catalog files ring link (search_result known catalog ring link.name from) in
    given_by known catalog files ring link r s
    (with_name known.laid catalog files (has_name link.kind) r (candidate_good known catalog files ring link (search_result known catalog ring link.name from))) e

-- ---- what is known after it is accepted

words_are : (files : List (List ℕ)) (seg : ℕ) (o : PartsFields) → object_in files seg ≡ Some o → words_to_lay (object_in files seg) ≡ laid_words o
words_are files seg o e = ap (λ (p : Option PartsFields). words_to_lay p) e

may_be : (known : KnownFields) (catalog : CatalogFields) (files : List (List ℕ)) (lay : Option PlacedSectionFields) → FreshIn known.laid catalog files lay → MayBeLaid known (section_with_words files lay)
may_be known catalog files None fresh = tt
may_be known catalog files (Some l) fresh =
    let f = fresh.0 in
    let long : length (words_to_lay (object_in files l.seg)) ≡ l.size = ap length (words_are files l.seg f.object f.read) ∙ sym f.size in
    let end = f.end in
    record { absent = f.absent; base = f.base; fits = omega (arith, long, end) }

accepted_by : (known : KnownFields) (catalog : CatalogFields) (files : List (List ℕ)) (s : SnapFields) → IsGiven known catalog files s → MayBeLaid known s.lay
accepted_by known catalog files s g =
    let P : Option NewSectionFields → Type 0 = λ lay. MayBeLaid known lay in
    subst P (sym g.laid) (may_be known catalog files g.lay g.fresh)

-- a section begins at an even word, as the first one of a ring does
even_evened : (n : ℕ) → rounded_up_to_even n % 2 ≡ 0
even_evened n = omega arith

even_behind : (l : PlacedSectionFields) → even_end l % 2 ≡ 0
unfolding even_end
even_behind l = even_evened (l.base + l.size)

even_step : (b : Bool) (at : ℕ) (l : PlacedSectionFields) → at % 2 ≡ 0 → cond b (even_end l) at % 2 ≡ 0
even_step true at l even = even_behind l
even_step false at l even = even

even_next : (ring at : ℕ) (laid : List PlacedSectionFields) → at % 2 ≡ 0 → next_base ring at laid % 2 ≡ 0
unfolding next_base
even_next ring at [] even = even
even_next ring at (l ∷ laid) even = even_next ring (next_base_after ring at l) laid (even_step (eqb l.ring ring) at l even)

laid_kept : (known : KnownFields) (catalog : CatalogFields) (files : List (List ℕ)) (lay : Option PlacedSectionFields) → FreshIn known.laid catalog files lay
    → All (IsWholeSection catalog files) known.laid → All (IsWholeSection catalog files) (with_section known.laid (section_with_words files lay))
unfolding with_section
laid_kept known catalog files None fresh all = all
laid_kept known catalog files (Some l) fresh all =
    let f = fresh.0 in
    let long : length (words_to_lay (object_in files l.seg)) ≡ l.size = ap length (words_are files l.seg f.object f.read) ∙ sym f.size in
    let end = f.end in
    All-push (IsWholeSection catalog files) known.laid (record { ring = l.ring; seg = l.seg; base = l.base; size = length (words_to_lay (object_in files l.seg)) }) all
    (record {
      segment = fresh.1;
      object = f.object;
      read = f.read;
      even = ap (λ n. n % 2) f.base ∙ even_next l.ring lot_words known.laid refl;
      size = long ∙ f.size;
      end = omega (arith, long, end);
    })

names_kept : (catalog : CatalogFields) (names : List (RingNameFields × ℕ)) (ring : ℕ) (link : LinkFields) (target : ℕ)
    → (has_name link.kind ≡ true → IsOfCatalog catalog target) → All (λ e. IsOfCatalog catalog e.1) names
    → All (λ e. IsOfCatalog catalog e.1) (with_initiated_name names ring link target)
unfolding with_initiated_name
names_kept catalog names ring link target of all = by (has_name link.kind) (is_some (initiated_segment names ring link.name)) of
  where
    by : (b c : Bool) → (b ≡ true → IsOfCatalog catalog target)
        → All (λ e. IsOfCatalog catalog e.1) (cond b (cond c names (names ++ (record { ring = ring; name = link.name }, target) ∷ [])) names)
    by true true of = all
    by true false of = All-push (λ e. IsOfCatalog catalog e.1) names (record { ring = ring; name = link.name }, target) all (of refl)
    by false c of = all

made_by : (known : KnownFields) (catalog : CatalogFields) (files : List (List ℕ)) (s : SnapFields) → IsConsistent catalog files known → IsGiven known catalog files s
    → IsConsistent catalog files (known_after known s)
unfolding known_after
made_by known catalog files s made g =
    let P : Option NewSectionFields → Type 0 = λ lay. All (IsWholeSection catalog files) (with_section known.laid lay) in
    record {
      names = names_kept catalog known.names s.ring s.link s.target g.target made.names;
      laid = subst P (sym g.laid) (laid_kept known catalog files g.lay g.fresh made.laid);
    }

-- ---- the laws

pub may_be_accepted : MayBeAccepted
may_be_accepted known catalog files at s e = accepted_by known catalog files s (given known catalog files at s e)

pub may_be_accepted_from : MayBeAcceptedFrom
may_be_accepted_from known catalog files ring link from s e = accepted_by known catalog files s (given_from known catalog files ring link from s e)

pub keeps_made : KeepsConsistent
keeps_made known catalog files at s made e = made_by known catalog files s made (given known catalog files at s e)

pub keeps_made_from : KeepsConsistentFrom
keeps_made_from known catalog files ring link from s made e = made_by known catalog files s made (given_from known catalog files ring link from s e)

pub ruleset laws = (numbers_stand, may_be_accepted, may_be_accepted_from, keeps_made, keeps_made_from)
