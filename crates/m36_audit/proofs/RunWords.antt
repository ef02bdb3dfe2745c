-- The words of one run: each word of a page or of an unpaged segment is covered by its run, and
-- each covered word is one of them.
use Rattle.std.proofs.Common.{◌≡◌, ℕ, zero, suc, ◌+◌, ◌-◌, ◌*◌, ◌/◌, ◌%◌, ◌^◌, ◌<◌, ◌≤◌, min, refl, sym, ◌∙◌, ap, subst, arith}
use Rattle.std.specs.Prelude.{Bool, true, false, List, Option, Some, None, option_map, slice_get, Ok}
use Rattle.std.specs.Result.{result_ok}
use Rattle.m36_desc.specs.Fields.{SdwFields, PtwFields}
use Rattle.m36_desc.specs.Descriptors.{ptw_of}
use Rattle.m36_desc.specs.Widths.{IsSdw, IsPtw}
use Rattle.m36_desc.proofs.WidthLaws.{ptw_fits}
use Rattle.m36_model.specs.Place.{wrapped_address, frame_at, address_in_frame, address_in_frame_by, ptw_at}
use Rattle.m36_audit.specs.declared.run.Run.{Run}
use Rattle.m36_audit.specs.Runs.{word_count, unpaged_run, frame_run}

-- a run covers a word
pub record Covers (o : Option Run) (a : ℕ) : Type 0 where
  pub run : Run
  pub is : o ≡ Some run
  pub first : run.first ≤ a
  pub end : a < run.end

pub covers_same : (o p : Option Run) (a : ℕ) → o ≡ p → Covers o a → Covers p a
covers_same o p a e k = record { run = k.run; is = sym e ∙ k.is; first = k.first; end = k.end }

-- the fields of a PTW are within their widths
fits_by : (o : Option ℕ) (p : PtwFields) → option_map ptw_of o ≡ Some p → IsPtw p
fits_by None p h = cc
fits_by (Some w) p h =
    let e : ptw_of w ≡ p = cc in
    subst IsPtw e (ptw_fits w)

pub ptw_fits_at : (core : List ℕ) (x : ℕ) (p : PtwFields) → ptw_at core x ≡ Some p → IsPtw p
ptw_fits_at core x p h = fits_by (slice_get core x) p h

-- a word of an unpaged segment is in its run, and conversely
pub whole_covers_at : (d : SdwFields) (w a t : ℕ) → IsSdw d → w / 16 ≤ d.bound → wrapped_address (d.addr + w) ≡ a → (d.addr + w) / 2 ^ 24 ≡ t → Covers (unpaged_run d t) a
whole_covers_at d w a zero fits le e f =
    let addr = fits.addr in
    record { run = record { first = d.addr; end = min (d.addr + word_count d) (2 ^ 24) }; is = refl; first = omega arith; end = omega arith }
whole_covers_at d w a (suc zero) fits le e f =
    let addr = fits.addr in
    record { run = record { first = 0; end = (d.addr + word_count d) - 2 ^ 24 }; is = refl; first = omega arith; end = omega arith }
whole_covers_at d w a (suc (suc t)) fits le e f =
    let addr = fits.addr in
    let bound = fits.bound in
    absurd (omega arith)

-- the word of an unpaged segment at an address
pub record WholeWord (d : SdwFields) (t a : ℕ) : Type 0 where
  pub w : ℕ
  pub bound : w / 16 ≤ d.bound
  pub lies : wrapped_address (d.addr + w) ≡ a
  pub turn : (d.addr + w) / 2 ^ 24 ≡ t

pub whole_word : (d : SdwFields) (t a : ℕ) → IsSdw d → Covers (unpaged_run d t) a → WholeWord d t a
whole_word d zero a fits k =
    let addr = fits.addr in
    let bound = fits.bound in
    let is = k.is in
    let same : k.run ≡ record { first = d.addr; end = min (d.addr + word_count d) (2 ^ 24) } = cc in
    let first : d.addr ≤ a = subst (λ (r : Run). r.first ≤ a) same k.first in
    let end : a < min (d.addr + word_count d) (2 ^ 24) = subst (λ (r : Run). a < r.end) same k.end in
    record { w = a - d.addr; bound = omega arith; lies = omega arith; turn = omega arith }
whole_word d (suc zero) a fits k =
    let addr = fits.addr in
    let bound = fits.bound in
    let is = k.is in
    let same : k.run ≡ record { first = 0; end = (d.addr + word_count d) - 2 ^ 24 } = cc in
    let end : a < (d.addr + word_count d) - 2 ^ 24 = subst (λ (r : Run). a < r.end) same k.end in
    record { w = (a + 2 ^ 24) - d.addr; bound = omega arith; lies = omega arith; turn = omega arith }
whole_word d (suc (suc t)) a fits k = let is = k.is in cc

-- a word of a page is in its run, and conversely
pub frame_covers : (o : Option PtwFields) (d : SdwFields) (w a : ℕ) → ((p : PtwFields) → o ≡ Some p → IsPtw p) → w / 16 ≤ d.bound → address_in_frame o (w % 1024) ≡ Ok a → Covers (frame_run (result_ok (address_in_frame o 0)) (word_count d - 1024 * (w / 1024))) a
frame_covers None d w a fits le h = cc
frame_covers (Some p) d w a fits le h = at p.f h
  where
    at : (b : Bool) → address_in_frame_by b p (w % 1024) ≡ Ok a → Covers (frame_run (result_ok (address_in_frame_by b p 0)) (word_count d - 1024 * (w / 1024))) a
    at true e =
        let addr = (fits p refl).addr in
        let lies : wrapped_address (frame_at p + w % 1024) ≡ a = cc in
        record {
          run = record { first = wrapped_address (frame_at p + 0); end = wrapped_address (frame_at p + 0) + min 1024 (word_count d - 1024 * (w / 1024)) };
          is = refl;
          first = omega arith;
          end = omega arith;
        }
    at false e = cc

-- the word of a page at an address
pub record PageWord (o : Option PtwFields) (d : SdwFields) (page a : ℕ) : Type 0 where
  pub w : ℕ
  pub bound : w / 16 ≤ d.bound
  pub lies : address_in_frame o (w % 1024) ≡ Ok a
  pub page_of : w / 1024 ≡ page

pub frame_word : (o : Option PtwFields) (d : SdwFields) (page a : ℕ) → ((p : PtwFields) → o ≡ Some p → IsPtw p) → Covers (frame_run (result_ok (address_in_frame o 0)) (word_count d - 1024 * page)) a → PageWord o d page a
frame_word None d page a fits k = let is = k.is in cc
frame_word (Some p) d page a fits k = at p.f refl k
  where
    at : (b : Bool) → p.f ≡ b → Covers (frame_run (result_ok (address_in_frame_by b p 0)) (word_count d - 1024 * page)) a → PageWord (Some p) d page a
    at true f c =
        let addr = (fits p refl).addr in
        let is = c.is in
        let same : c.run ≡ record { first = wrapped_address (frame_at p + 0); end = wrapped_address (frame_at p + 0) + min 1024 (word_count d - 1024 * page) } = cc in
        let first : wrapped_address (frame_at p + 0) ≤ a = subst (λ (r : Run). r.first ≤ a) same c.first in
        let end : a < wrapped_address (frame_at p + 0) + min 1024 (word_count d - 1024 * page) = subst (λ (r : Run). a < r.end) same c.end in
        let lies : wrapped_address (frame_at p + (1024 * page + (a - frame_at p)) % 1024) ≡ a = omega arith in
        record {
          w = 1024 * page + (a - frame_at p);
          bound = omega arith;
          lies = ap (λ (b : Bool). address_in_frame_by b p ((1024 * page + (a - frame_at p)) % 1024)) f ∙ ap (λ (n : ℕ). Ok n) lies;
          page_of = omega arith;
        }
    at false f c = let is = c.is in cc
