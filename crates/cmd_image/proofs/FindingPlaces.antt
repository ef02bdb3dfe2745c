-- The place of a finding is written whole: the number of a segment has 15 bits, and the address of a core word 24.
use Rattle.std.proofs.Common.{◌≡◌, ◌⊎◌, ℕ, ◌+◌, ◌*◌, ◌/◌, ◌%◌, ◌^◌, ◌<◌, Bool, true, false, nat_lt, List, [], ◌++◌, length, All, Option, Some, None, Result, Ok, Err, sym, subst, inl, inr, arith}
use Rattle.std.specs.Prelude.{⊤}
use Rattle.std.proofs.lemmas.List.Elements.{All-nil, All-cons, All-append}
use Rattle.m36_desc.specs.Fields.{SdwFields, PtwFields, DbrFields}
use Rattle.m36_desc.specs.Access.{has_ordered_brackets}
use Rattle.m36_model.specs.Store.{Spot, Core_word, Segment_word, is_within_bound, place, place_by, place_within, when_ordered}
use Rattle.m36_model.specs.Place.{wrapped_address, frame_at, address_in_frame_by, address_in_frame, ptw_at, directory_at, page_at, has_descriptor_in_bounds, sdw_place_by, sdw_place, core_sdw, spot_in_core_by, spot_in_core, word_place_by, core_spot}
use Rattle.m36_model.specs.Audit.{IsSdwWord, Table, Sdws, Directory, Pages, IsWordOfTable, IsSegmentWord, IsOutOfOrder, IsInTwoTables, IsTableAndSegment, IsInTwoSegments, IsNoGate, HasNoStack, Finds, numbered_finding, AreFindings}
use Rattle.m36_model.specs.declared.outcome.Refusal.{Refusal}
use Rattle.m36_audit.proofs.Bounds.{live_in_bounds}
use Rattle.m36_audit.proofs.Conditions.{few_segments}
use Rattle.cmd_image.specs.AuditText.{place_digits}
use Rattle.cmd_image.specs.RunLaws.{PlaceFits, PlacesFit}

-- ---- addresses wrap

-- An address, if there is one, has 24 bits.
abbrev HasFewBits : Result ℕ Refusal → Type 0
HasFewBits (Ok a) = a < 2 ^ 24
HasFewBits (Err why) = ⊤

wraps : (a : ℕ) → wrapped_address a < 2 ^ 24
wraps a = omega arith

frame_by : (b : Bool) (p : PtwFields) (offset : ℕ) → HasFewBits (address_in_frame_by b p offset)
frame_by true p offset = wraps (frame_at p + offset)
frame_by false p offset = tt

frame_few : (p : Option PtwFields) (offset : ℕ) → HasFewBits (address_in_frame p offset)
frame_few None offset = tt
frame_few (Some p) offset = frame_by p.f p offset

-- ---- words of tables

descriptor_by : (b unpaged : Bool) (dbr : DbrFields) (seg : ℕ) (p : Option PtwFields) → HasFewBits (sdw_place_by b unpaged dbr seg p)
descriptor_by false unpaged dbr seg p = tt
descriptor_by true true dbr seg p = wraps (dbr.addr + 2 * seg)
descriptor_by true false dbr seg p = frame_few p ((2 * seg) % 1024)

descriptor_few : (core : List ℕ) (dbr : DbrFields) (seg even : ℕ) → sdw_place core dbr seg ≡ Ok even → even < 2 ^ 24
descriptor_few core dbr seg even found =
    subst HasFewBits found (descriptor_by (has_descriptor_in_bounds dbr seg) dbr.unpaged dbr seg (ptw_at core (directory_at dbr seg)))

half_few : (even a : ℕ) → even < 2 ^ 24 → (a ≡ even) ⊎ (a ≡ wrapped_address (even + 1)) → a < 2 ^ 24
half_few even a few (inl e) = subst (λ (n : ℕ). n < 2 ^ 24) (sym e) few
half_few even a few (inr e) = subst (λ (n : ℕ). n < 2 ^ 24) (sym e) (wraps (even + 1))

sdw_few : (core : List ℕ) (dbr : DbrFields) (seg a : ℕ) → IsSdwWord core dbr seg a → a < 2 ^ 24
sdw_few core dbr seg a k = half_few k.even a (descriptor_few core dbr seg k.even k.found) k.half

table_few : (core : List ℕ) (dbr : DbrFields) (table : Table) (a : ℕ) → IsWordOfTable core dbr table a → a < 2 ^ 24
table_few core dbr Sdws a k = sdw_few core dbr k.0 a k.1
table_few core dbr Directory a k = subst (λ (n : ℕ). n < 2 ^ 24) (sym k.1.found) (wraps (dbr.addr + (2 * k.0) / 1024))
table_few core dbr (Pages seg) a k = subst (λ (n : ℕ). n < 2 ^ 24) (sym k.1.found) (wraps (k.1.sdw.addr + k.0))

-- ---- words of segments

abbrev LiesLow : Result Spot Refusal → Type 0
LiesLow (Ok (Core_word a)) = a < 2 ^ 24
LiesLow (Ok (Segment_word seg w)) = ⊤
LiesLow (Err why) = ⊤

inside_by : (b : Bool) (a : ℕ) → a < 2 ^ 24 → LiesLow (spot_in_core_by b a)
inside_by true a few = few
inside_by false a few = tt

inside_low : (size : ℕ) (v : Result ℕ Refusal) → HasFewBits v → LiesLow (spot_in_core size v)
inside_low size (Ok a) few = inside_by (nat_lt a size) a few
inside_low size (Err why) few = tt

word_few : (b : Bool) (d : SdwFields) (w : ℕ) (p : Option PtwFields) → HasFewBits (word_place_by b d w p)
word_few true d w p = wraps (d.addr + w)
word_few false d w p = frame_few p (w % 1024)

spot_low : (core : List ℕ) (dbr : DbrFields) (d : SdwFields) (seg w : ℕ) → LiesLow (core_spot core dbr d seg w)
unfolding core_spot
spot_low core dbr d seg w =
    let p : Option PtwFields = ptw_at core (page_at d (w / 1024)) in
    inside_low (length core) (word_place_by d.unpaged d w p) (word_few d.unpaged d w p)

ordered_low : (a b : Bool) (v : Result Spot Refusal) → LiesLow v → LiesLow (when_ordered a (place_within b v))
ordered_low true true v low = low
ordered_low true false v low = tt
ordered_low false b v low = tt

placed_low :
    (core : List ℕ) (dbr : DbrFields) (seg w : ℕ) (v : Result SdwFields Refusal)
    → LiesLow (place_by v (λ d. core_spot core dbr d seg w) w)
placed_low core dbr seg w (Ok d) =
    ordered_low (has_ordered_brackets d) (is_within_bound d w) (core_spot core dbr d seg w) (spot_low core dbr d seg w)
placed_low core dbr seg w (Err why) = tt

word_low : (core : List ℕ) (dbr : DbrFields) (seg w a : ℕ) → IsSegmentWord core dbr seg w a → a < 2 ^ 24
unfolding place
word_low core dbr seg w a found = subst LiesLow found (placed_low core dbr seg w (core_sdw core dbr seg))

-- ---- findings

-- A segment that has a descriptor is in bounds.
segment_few : (core : List ℕ) (dbr : DbrFields) (seg : ℕ) (d : SdwFields) → core_sdw core dbr seg ≡ Ok d → seg < 2 ^ 15
segment_few core dbr seg d live = few_segments dbr seg (live_in_bounds core dbr seg d live)

noted_whole :
    (condition : ℕ) (Breaks : ℕ → Type 0) (found : Option ℕ)
    → Finds Breaks found
    → ((p : ℕ) → Breaks p → p < 8 ^ place_digits condition)
    → All PlaceFits (numbered_finding condition found)
noted_whole condition Breaks None finds few = All-nil PlaceFits
noted_whole condition Breaks (Some p) finds few =
    All-cons PlaceFits (condition, p) [] (few p finds.0) (All-nil PlaceFits)

more_whole :
    (before : List (ℕ × ℕ)) (condition : ℕ) (Breaks : ℕ → Type 0) (found : Option ℕ)
    → All PlaceFits before
    → Finds Breaks found
    → ((p : ℕ) → Breaks p → p < 8 ^ place_digits condition)
    → All PlaceFits (before ++ numbered_finding condition found)
more_whole before condition Breaks found whole finds few =
    All-append PlaceFits before (numbered_finding condition found) whole (noted_whole condition Breaks found finds few)

all_whole :
    (core : List ℕ) (dbr : DbrFields) (findings : List (ℕ × ℕ)) (f : AreFindings core dbr findings)
    → All PlaceFits (numbered_finding 1 f.first ++ numbered_finding 2 f.second ++ numbered_finding 3 f.third ++ numbered_finding 4 f.fourth ++ numbered_finding 5 f.fifth ++ numbered_finding 6 f.sixth)
all_whole core dbr findings f =
    let one = noted_whole 1 (IsOutOfOrder (core_sdw core dbr)) f.first f.finds_first (λ p k. segment_few core dbr p k.sdw k.live) in
    let two = more_whole (numbered_finding 1 f.first) 2 (IsInTwoTables core dbr) f.second one f.finds_second (λ p k. table_few core dbr k.table p k.of) in
    let three = more_whole (numbered_finding 1 f.first ++ numbered_finding 2 f.second) 3 (IsTableAndSegment core dbr) f.third two f.finds_third (λ p k. table_few core dbr k.table p k.of) in
    let four = more_whole (numbered_finding 1 f.first ++ numbered_finding 2 f.second ++ numbered_finding 3 f.third) 4 (IsInTwoSegments core dbr) f.fourth three f.finds_fourth (λ p k. word_low core dbr k.seg k.w p k.word) in
    let five = more_whole (numbered_finding 1 f.first ++ numbered_finding 2 f.second ++ numbered_finding 3 f.third ++ numbered_finding 4 f.fourth) 5 (IsNoGate (core_sdw core dbr)) f.fifth four f.finds_fifth (λ p k. segment_few core dbr p k.sdw k.callable.live) in
    more_whole (numbered_finding 1 f.first ++ numbered_finding 2 f.second ++ numbered_finding 3 f.third ++ numbered_finding 4 f.fourth ++ numbered_finding 5 f.fifth) 6 (HasNoStack dbr (core_sdw core dbr)) f.sixth five f.finds_sixth (λ p k. segment_few core dbr p k.sdw k.callable.live)

pub places_are_whole : PlacesFit
places_are_whole core dbr findings f =
    subst (λ (listed : List (ℕ × ℕ)). All PlaceFits listed) (sym f.listed) (all_whole core dbr findings f)
