-- The pair that replaces a link is read as a pair: it is at an even word, and its first word has the tag.
use Rattle.std.proofs.Common.{ℕ, ◌≡◌, ◌+◌, ◌-◌, ◌/◌, ◌%◌, ◌^◌, ◌≤◌, Bool, true, false, cond, ◌&&◌, ◌||◌, leb, eqb, List, [], length, find, slice_get, All, Option, Some, None, Result, Ok, Err, refl, sym, ap, ◌∙◌, subst, arith}
use Rattle.std.specs.List.{position_or_len}
use Rattle.std.proofs.lemmas.Bool.{leb-true, eqb-true, eq-eqb}
use Rattle.std.proofs.lemmas.Option.{slice_get_within, get_or_from_slice_get}
use Rattle.std.proofs.lemmas.List.Elements.{All-get_or}
use Rattle.std.proofs.lemmas.List.Folds.{find_at}
use Rattle.m36_desc.specs.Fields.{ItsFields}
use Rattle.m36_desc.specs.Descriptors.{its_even, its_tag, itp_tag, tag_of}
use Rattle.m36_model.specs.Fields.{AtFields}
use Rattle.m36_model.specs.Chain.{Its, Itp, Plain, kind_by_tag, indirect_tag, indirect_kind}
use Rattle.m36_model.specs.declared.endings.LinkCode.{LinkCode}
use Rattle.m36_model.specs.declared.endings.LinkCode.TheVariants.{L3, L4}
use Rattle.m36_dir.specs.Fields.{SegmentFields}
use Rattle.m36_dir.specs.Catalog.{CatalogFields}
use Rattle.obj36_parts.specs.Fields.{LinkFields}
use Rattle.obj36_parts.specs.PartsFields.{PartsFields}
use Rattle.obj36_parts.specs.ObjectSegment.{is_newer, inner_statics, has_name, has_entry, linkage_section, first_link, is_well_formed}
use Rattle.obj36_parts.specs.declared.section.Section.{Section}
use Rattle.obj36_parts.specs.declared.section.Section.TheVariants.{Text, Linkage, Symbol, Static}
use Rattle.obj36_parts.proofs.Formed.{is_formed}
use Rattle.obj36.specs.ObjectOf.{object_of}
use Rattle.obj36.specs.declared.fault.ObjectFault.{ObjectFault}
use Rattle.m36_link.specs.Fields.{PlacedSectionFields, TargetFields, KnownFields, SnapFields}
use Rattle.m36_link.specs.Known.{linkage_segment, segment_of, file_of, object_in, section_ring}
use Rattle.m36_link.specs.Search.{search_result}
use Rattle.m36_link.specs.Links.{link_from, link_in, holds_link, section_at}
use Rattle.m36_link.specs.Target.{object_place_of, pair_to, pair_from, pair_of, placement_of, own_target_by, own_target, may_not_use, is_plain, plain_target, target_in_section, target_at_place, object_target, target_by_object, segment_target}
use Rattle.m36_link.specs.Snap.{target_if_found, candidate_target, outer_target, directory_of, target_of_link, section_with_words, snap_of_target, snap_for, snap_in, snap_of}
use Rattle.m36_link.specs.Laws.{IsWholeSection, PairsAreRead}
use Rattle.m36_link.specs.declared.points.ObjectPlace.{ObjectPlace}
use Rattle.m36_link.specs.declared.sections.Placement.{Placement}
use Rattle.m36_link.proofs.LinkPlaces.{object_links}
use Rattle.m36_link.proofs.Sizes.{formed_in}

-- ---- the first word

tag_in : (p : ItsFields) → tag_of (its_even p) ≡ its_tag
tag_in p = omega arith

tag_to : (seg ring word : ℕ) (link : LinkFields) → tag_of (pair_to seg ring word link).even ≡ its_tag
unfolding pair_to
tag_to seg ring word link = tag_in (record { seg = seg; ring = ring; word = word % 2 ^ 18; bit = 0; tag = link.modifier })

tag_from : (section : Section) (value ring : ℕ) (l : PlacedSectionFields) (linkage : ℕ) (link : LinkFields) → tag_of (pair_from section value ring l linkage link).even ≡ its_tag
tag_from Text value ring l linkage link = tag_to l.seg ring (value + link.expr) link
tag_from Linkage value ring l linkage link = tag_to (linkage_segment l.ring) ring (l.base + value + link.expr) link
tag_from Symbol value ring l linkage link = tag_to l.seg ring (value + link.expr) link
tag_from Static value ring l linkage link = tag_to (linkage_segment l.ring) ring (l.base + linkage + value + link.expr) link

tag_at : (point : ObjectPlace) (ring : ℕ) (l : PlacedSectionFields) (linkage : ℕ) (link : LinkFields) → tag_of (pair_of point ring l linkage link).even ≡ its_tag
unfolding pair_of
tag_at point ring l linkage link = tag_from point.section point.value ring l linkage link

abbrev HasTag : Result TargetFields LinkCode → Type 0
HasTag (Err code) = Unit {0}
HasTag (Ok landing) = tag_of landing.pair.even ≡ its_tag

own_tag : (ring : ℕ) (l : PlacedSectionFields) (o : PartsFields) (link : LinkFields) (p : Result ObjectPlace LinkCode) → HasTag (own_target_by ring l o link p)
own_tag ring l o link (Ok point) = tag_at point ring l (length (linkage_section o)) link
own_tag ring l o link (Err code) = tt

plain_tag : (ring seg : ℕ) (link : LinkFields) → HasTag (plain_target ring seg link)
unfolding plain_target
plain_tag ring seg link = by (has_entry link.kind)
  where
    by : (b : Bool) → HasTag (cond b (Err L3) (Ok (record { pair = pair_to seg ring link.expr link; target = seg; lay = None })))
    by true = tt
    by false = tag_to seg ring link.expr link

home_tag : (ring seg : ℕ) (o : PartsFields) (link : LinkFields) (point : ObjectPlace) (home : Result Placement LinkCode) → HasTag (target_in_section ring seg o link point home)
home_tag ring seg o link point (Ok home) = tag_at point ring home.section (length (linkage_section o)) link
home_tag ring seg o link point (Err code) = tt

point_tag : (laid : List PlacedSectionFields) (ring e seg : ℕ) (o : PartsFields) (link : LinkFields) (p : Result ObjectPlace LinkCode) → HasTag (target_at_place laid ring e seg o link p)
point_tag laid ring e seg o link (Ok point) = home_tag ring seg o link point (placement_of laid e seg o)
point_tag laid ring e seg o link (Err code) = tt

object_tag : (laid : List PlacedSectionFields) (ring seg : ℕ) (s : SegmentFields) (link : LinkFields) (r : Result PartsFields ObjectFault) → HasTag (target_by_object laid ring seg s link r)
unfolding object_target
object_tag laid ring seg s link (Err fault) = tt
object_tag laid ring seg s link (Ok o) = point_tag laid ring (section_ring ring s) seg o link (object_place_of link o)

target_tag : (laid : List PlacedSectionFields) (ring seg : ℕ) (s : SegmentFields) (words : List ℕ) (link : LinkFields) → HasTag (segment_target laid ring seg s words link)
unfolding segment_target
target_tag laid ring seg s words link = by (may_not_use ring s) (is_plain s.kind)
  where
    by : (b c : Bool) → HasTag (cond b (Err L4) (cond c (plain_target ring seg link) (target_by_object laid ring seg s link (object_of words))))
    by true c = tt
    by false true = plain_tag ring seg link
    by false false = object_tag laid ring seg s link (object_of words)

found_tag : (laid : List PlacedSectionFields) (ring seg : ℕ) (s : Option SegmentFields) (words : Option (List ℕ)) (link : LinkFields) → HasTag (target_if_found laid ring seg s words link)
found_tag laid ring seg (Some s) (Some words) link = target_tag laid ring seg s words link
found_tag laid ring seg (Some s) None link = tt
found_tag laid ring seg None words link = tt

candidate_tag : (known : KnownFields) (catalog : CatalogFields) (files : List (List ℕ)) (ring : ℕ) (link : LinkFields) (r : Option ℕ)
    → HasTag (candidate_target known catalog files ring link r)
candidate_tag known catalog files ring link None = tt
candidate_tag known catalog files ring link (Some seg) = found_tag known.laid ring seg (segment_of catalog seg) (file_of files seg) link

landing_tag : (known : KnownFields) (catalog : CatalogFields) (files : List (List ℕ)) (ring : ℕ) (l : PlacedSectionFields) (o : PartsFields) (link : LinkFields)
    → HasTag (target_of_link known catalog files ring l o link)
unfolding target_of_link outer_target own_target
landing_tag known catalog files ring l o link = by (has_name link.kind)
  where
    by : (b : Bool) → HasTag (cond b (outer_target known catalog files ring link (directory_of (segment_of catalog l.seg))) (own_target ring l o link))
    by true = candidate_tag known catalog files ring link (search_result known catalog ring link.name (directory_of (segment_of catalog l.seg)))
    by false = own_tag ring l o link (object_place_of link o)

snap_tag : (files : List (List ℕ)) (ring : ℕ) (link : LinkFields) (r : Result TargetFields LinkCode) (s : SnapFields) → HasTag r → snap_of_target files ring link r ≡ Ok s
    → tag_of s.pair.even ≡ its_tag
snap_tag files ring link (Err code) s tag e = absurd cc
snap_tag files ring link (Ok landing) s tag e =
    let t : SnapFields = record { pair = landing.pair; ring = ring; target = landing.target; link = link; lay = section_with_words files landing.lay } in
    let is : t ≡ s = cc in
    let P : SnapFields → Type 0 = λ x. tag_of x.pair.even ≡ its_tag in
    subst P is tag

-- ---- the word number of the link

statics_even : (b : Bool) (statics : List ℕ) → (b || eqb (length statics % 2) 0) ≡ true → length (cond b [] statics) % 2 ≡ 0
statics_even true statics e = refl
statics_even false statics e = eqb-true (length statics % 2) 0 e

first_even : (n : ℕ) → n % 2 ≡ 0 → (8 + n) % 2 ≡ 0
first_even n e = omega (arith, e)

both_even : (a b : ℕ) → a % 2 ≡ 0 → b % 2 ≡ 0 → (a + b) % 2 ≡ 0
both_even a b e f = omega (arith, e, f)

links_even : (o : PartsFields) → is_well_formed o ≡ true → first_link o % 2 ≡ 0
links_even o e = first_even (length (inner_statics o)) (statics_even (is_newer o) o.statics (is_formed o e).even)

link_even : (first word : ℕ) (links : List LinkFields) (link : LinkFields) → first % 2 ≡ 0 → link_from first word links ≡ Some link → word % 2 ≡ 0
unfolding link_from
link_even first word links link even e = by (leb first word) (eqb ((word - first) % 2) 0) refl refl e
  where
    by : (a b : Bool) → leb first word ≡ a → eqb ((word - first) % 2) 0 ≡ b → cond (a && b) (slice_get links ((word - first) / 2)) None ≡ Some link → word % 2 ≡ 0
    by true true low same e =
        let from : first ≤ word = leb-true first word low in
        let twos : (word - first) % 2 ≡ 0 = eqb-true ((word - first) % 2) 0 same in
        omega (arith, even, from, twos)
    by true false low same e = absurd cc
    by false b low same e = absurd cc

place_even : (files : List (List ℕ)) (word : ℕ) (l : PlacedSectionFields) (o : PartsFields) (link : LinkFields) → l.base % 2 ≡ 0 → object_in files l.seg ≡ Some o → link_in files word l ≡ Some link
    → word % 2 ≡ 0
place_even files word l o link even read is =
    link_even (l.base + first_link o) word o.links link (both_even l.base (first_link o) even (links_even o (formed_in files l.seg o read)))
    (sym (object_links files word l o read) ∙ is)

-- ---- what holds for each section holds for the one that has the link

holds_of : (test : PlacedSectionFields → Bool) (P : PlacedSectionFields → Type 0) (laid : List PlacedSectionFields) (l : PlacedSectionFields) → find test laid ≡ Some l → All P laid → P l
holds_of test P laid l e all =
    let i : ℕ = position_or_len test laid in
    let there : slice_get laid i ≡ Some l = sym (find_at test laid) ∙ e in
    subst P (get_or_from_slice_get laid i l l there) (All-get_or P laid i l (slice_get_within laid i l there) all)

section_holds : (laid : List PlacedSectionFields) (files : List (List ℕ)) (at : AtFields) (l : PlacedSectionFields) (P : PlacedSectionFields → Type 0) → section_at laid files at ≡ Some l → All P laid → P l
unfolding section_at
section_holds laid files at l P e all = by (eqb at.seg (linkage_segment at.ring)) e
  where
    by : (b : Bool) → cond b (find (holds_link files at.ring at.word) laid) None ≡ Some l → P l
    by true e = holds_of (holds_link files at.ring at.word) P laid l e all
    by false e = absurd cc

-- ---- the law

found_its : (word even : ℕ) → word % 2 ≡ 0 → tag_of even ≡ its_tag → indirect_kind word even ≡ Its
unfolding indirect_kind
found_its word even place tag =
    ap (λ b. cond b (kind_by_tag (indirect_tag even)) Plain) (eq-eqb (word % 2) 0 place)
    ∙ ap (λ b. cond b Its (cond (eqb (tag_of even) itp_tag) Itp Plain)) (eq-eqb (tag_of even) its_tag tag)

answer_stands : (known : KnownFields) (catalog : CatalogFields) (files : List (List ℕ)) (at : AtFields) (l : PlacedSectionFields) (o : Option PartsFields) (link : Option LinkFields) (s : SnapFields)
    → l.base % 2 ≡ 0 → object_in files l.seg ≡ o → link_in files at.word l ≡ link → snap_for known catalog files at.ring l o link ≡ Ok s → indirect_kind at.word s.pair.even ≡ Its
answer_stands known catalog files at l (Some o) (Some link) s even read is e =
    found_its at.word s.pair.even (place_even files at.word l o link even read is)
    (snap_tag files at.ring link (target_of_link known catalog files at.ring l o link) s (landing_tag known catalog files at.ring l o link) e)
answer_stands known catalog files at l (Some o) None s even read is e = absurd cc
answer_stands known catalog files at l None link s even read is e = absurd cc

pub pairs_stand : PairsAreRead
unfolding snap_of
pairs_stand known catalog files at s made e = by (section_at known.laid files at) refl e
  where
    by : (v : Option PlacedSectionFields) → section_at known.laid files at ≡ v → snap_in known catalog files at v ≡ Ok s → indirect_kind at.word s.pair.even ≡ Its
    by None is e = absurd cc
    by (Some l) is e =
        let whole : IsWholeSection catalog files l = section_holds known.laid files at l (IsWholeSection catalog files) is made.laid in
        answer_stands known catalog files at l (object_in files l.seg) (link_in files at.word l) s whole.even refl refl e
