-- A live segment has a descriptor in bounds, and its fields are within their widths.
use Rattle.std.proofs.Common.{◌≡◌, ℕ, ◌+◌, refl, subst}
use Rattle.std.specs.Prelude.{Bool, true, false, List, Option, Some, None, Result, Ok, Err, slice_get}
use Rattle.m36_word.specs.Bits.{is_on}
use Rattle.m36_desc.specs.Fields.{SdwFields, PtwFields, DbrFields}
use Rattle.m36_desc.specs.Descriptors.{sdw_of}
use Rattle.m36_desc.specs.Widths.{IsSdw}
use Rattle.m36_desc.proofs.WidthLaws.{sdw_fits}
use Rattle.m36_model.specs.Place.{wrapped_address, has_descriptor_in_bounds, ptw_at, directory_at, sdw_place, sdw_place_by, sdw_words, live_by, sdw_at, core_sdw}
use Rattle.m36_model.specs.declared.outcome.Refusal.{Refusal}

placed_in_bounds : (b unpaged : Bool) (dbr : DbrFields) (seg : ℕ) (p : Option PtwFields) (a : ℕ) → sdw_place_by b unpaged dbr seg p ≡ Ok a → b ≡ true
placed_in_bounds true unpaged dbr seg p a h = refl
placed_in_bounds false unpaged dbr seg p a h = cc

-- a descriptor that has a place is in bounds
pub sdw_place_in_bounds : (core : List ℕ) (dbr : DbrFields) (seg a : ℕ) → sdw_place core dbr seg ≡ Ok a → has_descriptor_in_bounds dbr seg ≡ true
sdw_place_in_bounds core dbr seg a h = placed_in_bounds (has_descriptor_in_bounds dbr seg) dbr.unpaged dbr seg (ptw_at core (directory_at dbr seg)) a h

live_in_bounds_by : (core : List ℕ) (dbr : DbrFields) (seg : ℕ) (d : SdwFields) (v : Result ℕ Refusal) → sdw_place core dbr seg ≡ v → sdw_at core v ≡ Ok d → has_descriptor_in_bounds dbr seg ≡ true
live_in_bounds_by core dbr seg d (Ok a) e h = sdw_place_in_bounds core dbr seg a e
live_in_bounds_by core dbr seg d (Err r) e h = cc

-- a live segment's descriptor is in bounds
pub live_in_bounds : (core : List ℕ) (dbr : DbrFields) (seg : ℕ) (d : SdwFields) → core_sdw core dbr seg ≡ Ok d → has_descriptor_in_bounds dbr seg ≡ true
unfolding core_sdw
live_in_bounds core dbr seg d h = live_in_bounds_by core dbr seg d (sdw_place core dbr seg) refl h

fits_by : (b : Bool) (even odd : ℕ) (d : SdwFields) → live_by b even odd ≡ Ok d → IsSdw d
fits_by true even odd d h =
    let e : sdw_of even odd ≡ d = cc in
    subst IsSdw e (sdw_fits even odd)
fits_by false even odd d h = cc

fits_words : (even odd : Option ℕ) (d : SdwFields) → sdw_words even odd ≡ Ok d → IsSdw d
fits_words None odd d h = cc
fits_words (Some even) None d h = cc
fits_words (Some even) (Some odd) d h = fits_by (is_on even 33) even odd d h

fits_at : (core : List ℕ) (v : Result ℕ Refusal) (d : SdwFields) → sdw_at core v ≡ Ok d → IsSdw d
fits_at core (Err e) d h = cc
fits_at core (Ok a) d h = fits_words (slice_get core a) (slice_get core (wrapped_address (a + 1))) d h

-- the fields of a live segment's descriptor are within their widths
pub live_fits : (core : List ℕ) (dbr : DbrFields) (seg : ℕ) (d : SdwFields) → core_sdw core dbr seg ≡ Ok d → IsSdw d
unfolding core_sdw
live_fits core dbr seg d h = fits_at core (sdw_place core dbr seg) d h
