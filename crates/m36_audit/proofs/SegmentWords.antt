-- The words of segments are the words that the runs cover, each once for each run.
use Rattle.std.proofs.Common.{◌≡◌, ℕ, ◌+◌, ◌*◌, ◌/◌, ◌%◌, ◌^◌, ◌<◌, ◌≤◌, refl, sym, ◌∙◌, ap, subst, arith}
use Rattle.std.specs.Prelude.{Bool, true, false, nat_lt, nat_le, List, length, Option, Some, None, Result, Ok, Err}
use Rattle.std.proofs.lemmas.Bool.{ltb-true, lt-ltb, leb-true, le-leb, and_parts, and_from}
use Rattle.m36_desc.specs.Fields.{SdwFields, PtwFields, DbrFields}
use Rattle.m36_desc.specs.Access.{has_ordered_brackets}
use Rattle.m36_desc.specs.Widths.{IsSdw, IsPtw}
use Rattle.m36_model.specs.Core.{core_store}
use Rattle.m36_model.specs.Store.{Core_word, is_within_bound}
use Rattle.m36_model.specs.Place.{wrapped_address, frame_at, address_in_frame, address_in_frame_by, ptw_at, page_at, word_place_by, spot_in_core, spot_in_core_by, core_sdw, core_spot}
use Rattle.m36_model.specs.Audit.{IsSegmentWord}
use Rattle.m36_model.specs.declared.outcome.Refusal.{Refusal}
use Rattle.m36_isol.proofs.Places.{place_is, place_parts}
use Rattle.m36_audit.specs.Runs.{page_run, page_run_by, run_by, run_if_ordered, run_of, run}
use Rattle.m36_audit.proofs.Bounds.{live_fits}
use Rattle.m36_audit.proofs.RunWords.{Covers, covers_same, ptw_fits_at, whole_covers_at, whole_word, frame_covers, frame_word}

-- the run of its segment that covers a word
pub piece_by : Bool → SdwFields → ℕ → ℕ
piece_by true d w = (d.addr + w) / 2 ^ 24
piece_by false d w = w / 1024

covered_by : (core : List ℕ) (u : Bool) (d : SdwFields) (w a : ℕ) → IsSdw d → w / 16 ≤ d.bound → word_place_by u d w (ptw_at core (page_at d (w / 1024))) ≡ Ok a → Covers (run_by u core d (piece_by u d w)) a
unfolding piece_by
covered_by core true d w a fits le h =
    let lies : wrapped_address (d.addr + w) ≡ a = cc in
    whole_covers_at d w a ((d.addr + w) / 2 ^ 24) fits le lies refl
covered_by core false d w a fits le h =
    let begins : nat_le (w / 1024) (d.bound / 64) ≡ true = le-leb (w / 1024) (d.bound / 64) (omega arith) in
    covers_same (page_run_by true core d (w / 1024)) (page_run core d (w / 1024)) a (ap (λ (b : Bool). page_run_by b core d (w / 1024)) (sym begins))
    (frame_covers (ptw_at core (page_at d (w / 1024))) d w a (ptw_fits_at core (page_at d (w / 1024))) le h)

-- the segment word at an address, by the descriptor of its segment
record PieceWord (core : List ℕ) (u : Bool) (d : SdwFields) (piece a : ℕ) : Type 0 where
  pub w : ℕ
  pub bound : w / 16 ≤ d.bound
  pub lies : word_place_by u d w (ptw_at core (page_at d (w / 1024))) ≡ Ok a
  pub piece_is : piece_by u d w ≡ piece

word_by : (core : List ℕ) (u : Bool) (d : SdwFields) (piece a : ℕ) → IsSdw d → Covers (run_by u core d piece) a → PieceWord core u d piece a
unfolding piece_by
word_by core true d piece a fits k =
    let word = whole_word d piece a fits k in
    record { w = word.w; bound = word.bound; lies = ap (λ (n : ℕ). Ok n) word.lies; piece_is = word.turn }
word_by core false d piece a fits k = at (nat_le piece (d.bound / 64)) refl k
  where
    at : (b : Bool) → nat_le piece (d.bound / 64) ≡ b → Covers (page_run_by b core d piece) a → PieceWord core false d piece a
    at true e c =
        let word = frame_word (ptw_at core (page_at d piece)) d piece a (ptw_fits_at core (page_at d piece)) c in
        record {
          w = word.w;
          bound = word.bound;
          lies = ap (λ (n : ℕ). address_in_frame (ptw_at core (page_at d n)) (word.w % 1024)) word.page_of ∙ word.lies;
          piece_is = word.page_of;
        }
    at false e c = let is = c.is in cc

-- one word of a run at an address
same_page_word : (o : Option PtwFields) (w x a : ℕ) → ((p : PtwFields) → o ≡ Some p → IsPtw p) → w / 1024 ≡ x / 1024 → address_in_frame o (w % 1024) ≡ Ok a → address_in_frame o (x % 1024) ≡ Ok a → w ≡ x
same_page_word None w x a fits page h k = cc
same_page_word (Some p) w x a fits page h k = at p.f h k
  where
    at : (b : Bool) → address_in_frame_by b p (w % 1024) ≡ Ok a → address_in_frame_by b p (x % 1024) ≡ Ok a → w ≡ x
    at true e f =
        let addr = (fits p refl).addr in
        let one : wrapped_address (frame_at p + w % 1024) ≡ a = cc in
        let other : wrapped_address (frame_at p + x % 1024) ≡ a = cc in
        omega arith
    at false e f = cc

same_word : (core : List ℕ) (u : Bool) (d : SdwFields) (w x a : ℕ) → IsSdw d → piece_by u d w ≡ piece_by u d x → word_place_by u d w (ptw_at core (page_at d (w / 1024))) ≡ Ok a → word_place_by u d x (ptw_at core (page_at d (x / 1024))) ≡ Ok a → w ≡ x
unfolding piece_by
same_word core true d w x a fits piece h k =
    let one : wrapped_address (d.addr + w) ≡ a = cc in
    let other : wrapped_address (d.addr + x) ≡ a = cc in
    omega arith
same_word core false d w x a fits piece h k =
    let there : address_in_frame (ptw_at core (page_at d (w / 1024))) (x % 1024) ≡ Ok a = ap (λ (n : ℕ). address_in_frame (ptw_at core (page_at d n)) (x % 1024)) piece ∙ k in
    same_page_word (ptw_at core (page_at d (w / 1024))) w x a (ptw_fits_at core (page_at d (w / 1024))) piece h there

few_pieces : (u : Bool) (d : SdwFields) (w : ℕ) → IsSdw d → w / 16 ≤ d.bound → piece_by u d w < 256
unfolding piece_by
few_pieces true d w fits le =
    let addr = fits.addr in
    let bound = fits.bound in
    omega arith
few_pieces false d w fits le =
    let bound = fits.bound in
    omega arith

-- the parts of a segment word with a place in core
pub record Word (core : List ℕ) (dbr : DbrFields) (seg w a : ℕ) : Type 0 where
  pub sdw : SdwFields
  pub live : core_sdw core dbr seg ≡ Ok sdw
  pub order : has_ordered_brackets sdw ≡ true
  pub bound : w / 16 ≤ sdw.bound
  pub lies : word_place_by sdw.unpaged sdw w (ptw_at core (page_at sdw (w / 1024))) ≡ Ok a
  pub inside : a < length core

record Inside (core : List ℕ) (v : Result ℕ Refusal) (a : ℕ) : Type 0 where
  pub lies : v ≡ Ok a
  pub inside : a < length core

inside_parts : (core : List ℕ) (v : Result ℕ Refusal) (a : ℕ) → spot_in_core (length core) v ≡ Ok (Core_word a) → Inside core v a
inside_parts core (Err e) a h = cc
inside_parts core (Ok b) a h = at (nat_lt b (length core)) refl h
  where
    at : (t : Bool) → nat_lt b (length core) ≡ t → spot_in_core_by t b ≡ Ok (Core_word a) → Inside core (Ok b) a
    at true e f =
        let same : b ≡ a = cc in
        record { lies = ap (λ (n : ℕ). Ok n) same; inside = subst (λ (n : ℕ). n < length core) same (ltb-true b (length core) e) }
    at false e f = cc

inside_is : (core : List ℕ) (v : Result ℕ Refusal) (a : ℕ) → v ≡ Ok a → a < length core → spot_in_core (length core) v ≡ Ok (Core_word a)
inside_is core v a e inside =
    ap (spot_in_core (length core)) e ∙ ap (λ (b : Bool). spot_in_core_by b a) (lt-ltb a (length core) inside)

pub word_parts : (core : List ℕ) (dbr : DbrFields) (seg w a : ℕ) → IsSegmentWord core dbr seg w a → Word core dbr seg w a
unfolding core_spot
word_parts core dbr seg w a h =
    let k = place_parts core_store core dbr seg w (Core_word a) h in
    let tests = and_parts (has_ordered_brackets k.sdw) (is_within_bound k.sdw w) k.inside in
    let parts = inside_parts core (word_place_by k.sdw.unpaged k.sdw w (ptw_at core (page_at k.sdw (w / 1024)))) a k.found in
    record { sdw = k.sdw; live = k.live; order = tests.0; bound = leb-true (w / 16) k.sdw.bound tests.1; lies = parts.lies; inside = parts.inside }

pub word_is : (core : List ℕ) (dbr : DbrFields) (seg w a : ℕ) → Word core dbr seg w a → IsSegmentWord core dbr seg w a
unfolding core_spot
word_is core dbr seg w a k =
    place_is core_store core dbr seg w (Core_word a) (record {
      sdw = k.sdw;
      live = k.live;
      inside = and_from (has_ordered_brackets k.sdw) (is_within_bound k.sdw w) k.order (le-leb (w / 16) k.sdw.bound k.bound);
      found = inside_is core (word_place_by k.sdw.unpaged k.sdw w (ptw_at core (page_at k.sdw (w / 1024)))) a k.lies k.inside;
    })

-- the number of the run that covers a word of a segment
pub piece_of : Result SdwFields Refusal → ℕ → ℕ
piece_of (Err e) w = 0
piece_of (Ok d) w = piece_by d.unpaged d w

pub number_of : List ℕ → DbrFields → ℕ → ℕ → ℕ
number_of core dbr seg w = 256 * seg + piece_of (core_sdw core dbr seg) w

piece_live : (core : List ℕ) (dbr : DbrFields) (seg w : ℕ) (d : SdwFields) → core_sdw core dbr seg ≡ Ok d → piece_of (core_sdw core dbr seg) w ≡ piece_by d.unpaged d w
unfolding piece_of
piece_live core dbr seg w d h = ap (λ (r : Result SdwFields Refusal). piece_of r w) h

pub run_at : (core : List ℕ) (dbr : DbrFields) (seg piece : ℕ) → piece < 256 → run core dbr (256 * seg + piece) ≡ run_of core (core_sdw core dbr seg) piece
unfolding run
run_at core dbr seg piece few =
    let one : (256 * seg + piece) / 256 ≡ seg = omega arith in
    let other : (256 * seg + piece) % 256 ≡ piece = omega arith in
    ap (λ (s : ℕ). run_of core (core_sdw core dbr s) ((256 * seg + piece) % 256)) one ∙ ap (run_of core (core_sdw core dbr seg)) other

pub run_live : (core : List ℕ) (d : SdwFields) (r : Result SdwFields Refusal) (piece : ℕ) → r ≡ Ok d → has_ordered_brackets d ≡ true → run_of core r piece ≡ run_by d.unpaged core d piece
run_live core d r piece live order =
    ap (λ (x : Result SdwFields Refusal). run_of core x piece) live ∙ ap (λ (b : Bool). run_if_ordered b core d piece) order

-- a word of a segment is covered by its run
pub word_covered : (core : List ℕ) (dbr : DbrFields) (seg w a : ℕ) → IsSegmentWord core dbr seg w a → Covers (run core dbr (number_of core dbr seg w)) a
unfolding number_of
word_covered core dbr seg w a h =
    let k = word_parts core dbr seg w a h in
    let fits = live_fits core dbr seg k.sdw k.live in
    let piece = piece_live core dbr seg w k.sdw k.live in
    let few : piece_of (core_sdw core dbr seg) w < 256 = subst (λ (n : ℕ). n < 256) (sym piece) (few_pieces k.sdw.unpaged k.sdw w fits k.bound) in
    let there = run_at core dbr seg (piece_of (core_sdw core dbr seg) w) few ∙ run_live core k.sdw (core_sdw core dbr seg) (piece_of (core_sdw core dbr seg) w) k.live k.order ∙ ap (run_by k.sdw.unpaged core k.sdw) piece in
    covers_same _ _ a (sym there) (covered_by core k.sdw.unpaged k.sdw w a fits k.bound k.lies)

pub word_inside : (core : List ℕ) (dbr : DbrFields) (seg w a : ℕ) → IsSegmentWord core dbr seg w a → a < length core
word_inside core dbr seg w a h = (word_parts core dbr seg w a h).inside

-- a segment has one word at an address in a run
pub word_once : (core : List ℕ) (dbr : DbrFields) (seg w x a : ℕ) → IsSegmentWord core dbr seg w a → IsSegmentWord core dbr seg x a → number_of core dbr seg w ≡ number_of core dbr seg x → w ≡ x
unfolding number_of
word_once core dbr seg w x a h k same =
    let one = word_parts core dbr seg w a h in
    let other = word_parts core dbr seg x a k in
    let live = one.live in
    let live_too = other.live in
    let sdw : other.sdw ≡ one.sdw = cc in
    let piece : piece_of (core_sdw core dbr seg) w ≡ piece_of (core_sdw core dbr seg) x = omega arith in
    let pieces : piece_by one.sdw.unpaged one.sdw w ≡ piece_by one.sdw.unpaged one.sdw x = sym (piece_live core dbr seg w one.sdw live) ∙ piece ∙ piece_live core dbr seg x one.sdw live in
    let lies : word_place_by one.sdw.unpaged one.sdw x (ptw_at core (page_at one.sdw (x / 1024))) ≡ Ok a = subst (λ (d : SdwFields). word_place_by d.unpaged d x (ptw_at core (page_at d (x / 1024))) ≡ Ok a) sdw other.lies in
    same_word core one.sdw.unpaged one.sdw w x a (live_fits core dbr seg one.sdw live) pieces one.lies lies

-- the segment word at a covered address
pub record WordOf (core : List ℕ) (dbr : DbrFields) (k a : ℕ) : Type 0 where
  pub seg : ℕ
  pub w : ℕ
  pub word : IsSegmentWord core dbr seg w a
  pub numbered : number_of core dbr seg w ≡ k

word_of_by : (core : List ℕ) (dbr : DbrFields) (k a : ℕ) (r : Result SdwFields Refusal) → core_sdw core dbr (k / 256) ≡ r → a < length core → Covers (run_of core r (k % 256)) a → WordOf core dbr k a
unfolding number_of
word_of_by core dbr k a (Err e) live inside c = let is = c.is in cc
word_of_by core dbr k a (Ok d) live inside c = at (has_ordered_brackets d) refl c
  where
    at : (b : Bool) → has_ordered_brackets d ≡ b → Covers (run_if_ordered b core d (k % 256)) a → WordOf core dbr k a
    at false e f = let is = f.is in cc
    at true e f =
        let fits = live_fits core dbr (k / 256) d live in
        let word = word_by core d.unpaged d (k % 256) a fits f in
        let piece = piece_live core dbr (k / 256) word.w d live ∙ word.piece_is in
        record {
          seg = k / 256;
          w = word.w;
          word = word_is core dbr (k / 256) word.w a (record { sdw = d; live = live; order = e; bound = word.bound; lies = word.lies; inside = inside });
          numbered = omega arith;
        }

-- a covered core word is a segment word
pub covered_word : (core : List ℕ) (dbr : DbrFields) (k a : ℕ) → a < length core → Covers (run core dbr k) a → WordOf core dbr k a
unfolding run
covered_word core dbr k a inside c = word_of_by core dbr k a (core_sdw core dbr (k / 256)) refl inside c

-- a segment word is of a live segment
pub word_live : (core : List ℕ) (dbr : DbrFields) (seg w a : ℕ) → IsSegmentWord core dbr seg w a → (d : SdwFields) × (core_sdw core dbr seg ≡ Ok d)
word_live core dbr seg w a h = let k = word_parts core dbr seg w a h in (k.sdw, k.live)

pub record Numbered (seg table_number : ℕ) : Type 0 where
  pub low : 256 * seg ≤ table_number
  pub high : table_number < 256 * (seg + 1)

-- its run is one of the 256 of its segment
pub word_number : (core : List ℕ) (dbr : DbrFields) (seg w a : ℕ) → IsSegmentWord core dbr seg w a → Numbered seg (number_of core dbr seg w)
unfolding number_of
word_number core dbr seg w a h =
    let k = word_parts core dbr seg w a h in
    let fits = live_fits core dbr seg k.sdw k.live in
    let piece = piece_live core dbr seg w k.sdw k.live in
    let few = few_pieces k.sdw.unpaged k.sdw w fits k.bound in
    record { low = omega arith; high = omega arith }
