-- A reference that reads returns its words.
use Rattle.std.proofs.Common.{ℕ, zero, suc, ◌≡◌, ◌+◌, List, ◌∷◌, map, Option, Result, Ok, Err, true, false, ◌==◌, refl, ap, sym, ◌∙◌, slice_index}
use Rattle.m36_desc.specs.Fields.{SdwFields, DbrFields}
use Rattle.m36_desc.specs.Access.{first_violation, read_rows, write_rows, fetch_rows}
use Rattle.m36_model.specs.Fields.{AtFields}
use Rattle.m36_model.specs.Registers.{RegsFields}
use Rattle.m36_model.specs.Act.{Fetch, Indirect, Odd, Read, Write, Put, Request}
use Rattle.m36_model.specs.Store.{Spot, Change, serve, changes}
use Rattle.m36_model.specs.Core.{core_store, core_word, core_put}
use Rattle.m36_model.specs.Place.{core_sdw, wrapped_address}
use Rattle.m36_model.specs.declared.outcome.Fault.{Fault}
use Rattle.m36_model.specs.declared.place.Reference.{Reference}
use Rattle.m36_walk.specs.ReferenceResult.{MarksAreSet}
use Rattle.m36_walk.specs.Runs.{run_from, words_from}
use Rattle.m36_walk.specs.Served.{midstep_with, request, served_with_result, sdw_or_zero, sdw_in, served_with_words, run_words, result_at_place, ok_map}
use Rattle.m36_walk.specs.declared.reference.LookupResult.{LookupResult}
use Rattle.m36_walk.proofs.Serving.{reached_is}
use Rattle.m36_walk.proofs.ByKind.{FoundBy, read_served, indirect_served, odd_served, fetch_served, write_served}

-- the words at the spots of a run
pub map-run_from : (X : List ℕ) (a n : ℕ) → map (core_word X) (run_from a n) ≡ words_from X a n
unfolding run_from words_from
map-run_from X a zero = refl
map-run_from X a (suc n) = ap (λ ws. slice_index X a ∷ ws) (map-run_from X (wrapped_address (a + 1)) n)

-- the descriptor that was found is that of the segment
pub found_sdw : (R : SdwFields → Option ℕ) (core : List ℕ) (dbr : DbrFields) (at : AtFields) (count : ℕ) (f : LookupResult) → FoundBy R core dbr at count (Ok f) → sdw_in (record { core = core; dbr = dbr }) at.seg ≡ f.sdw
unfolding sdw_in
found_sdw R core dbr at count f h =
    ap sdw_or_zero (reached_is _ _ (core_sdw core dbr at.seg) at (record { sdw = f.sdw; spots = run_from f.place count }) h)

-- one request that returns its words
telling : (q : Request) (d d' : SdwFields) (new : List ℕ) (claims : List Spot) (refs : List Reference) (words words' : List ℕ) → d' ≡ d → words ≡ words'
    → served_with_words q d new claims refs (Ok words) ≡ served_with_words q d' new claims refs (Ok words')
telling q d d' new claims refs words words' e f = λ i. served_with_words q (sym e i) new claims refs (Ok (f i))

words_seen : (new : List ℕ) (changed seen : List Change) (a n : ℕ) → changed ≡ seen → map (core_word (core_put new changed)) (run_from a n) ≡ words_from (core_put new seen) a n
words_seen new changed seen a n e = ap (λ cs. map (core_word (core_put new cs)) (run_from a n)) e ∙ map-run_from (core_put new seen) a n

module _ (g : RegsFields) (dbr : DbrFields) (e : g.dbr ≡ dbr) (core new : List ℕ) (at : AtFields) (count : ℕ) (claims : List Spot) (refs : List Reference) (puts : List Put) (seen : List Change) (c : changes claims puts ≡ seen) where
  abbrev d : SdwFields
  d = sdw_in (record { core = core; dbr = dbr }) at.seg

  module _ (psr : ℕ) (k : g.ppr.psr ≡ psr) where
    abbrev R : SdwFields → Option ℕ
    R d = first_violation (read_rows d at.ring (at.seg == psr))

    pub read_told : (result : Result LookupResult Fault) → FoundBy R core dbr at count result → MarksAreSet dbr at false core new result
        → serve core_store g (midstep_with core claims refs) (request Read at count puts) ≡ served_with_words (request Read at count puts) d new claims refs (run_words new seen count (ok_map (λ f. f.place) result))
    read_told (Ok f) h m =
        read_served g dbr e core new at count (Ok f) claims refs puts psr k h m ∙ telling (request Read at count puts) f.sdw d new claims refs _ _ (found_sdw R core dbr at count f h) (words_seen new (changes claims puts) seen f.place count c)
    read_told (Err x) h m = read_served g dbr e core new at count (Err x) claims refs puts psr k h m

    pub indirect_told : (result : Result LookupResult Fault) → FoundBy R core dbr at count result → MarksAreSet dbr at false core new result
        → serve core_store g (midstep_with core claims refs) (request Indirect at count puts) ≡ served_with_words (request Indirect at count puts) d new claims refs (run_words new seen count (ok_map (λ f. f.place) result))
    indirect_told (Ok f) h m =
        indirect_served g dbr e core new at count (Ok f) claims refs puts psr k h m ∙ telling (request Indirect at count puts) f.sdw d new claims refs _ _ (found_sdw R core dbr at count f h) (words_seen new (changes claims puts) seen f.place count c)
    indirect_told (Err x) h m = indirect_served g dbr e core new at count (Err x) claims refs puts psr k h m

    pub odd_told : (result : Result LookupResult Fault) → FoundBy R core dbr at count result → MarksAreSet dbr at false core new result
        → serve core_store g (midstep_with core claims refs) (request Odd at count puts) ≡ served_with_words (request Odd at count puts) d new claims refs (run_words new seen count (ok_map (λ f. f.place) result))
    odd_told (Ok f) h m =
        odd_served g dbr e core new at count (Ok f) claims refs puts psr k h m ∙ telling (request Odd at count puts) f.sdw d new claims refs _ _ (found_sdw R core dbr at count f h) (words_seen new (changes claims puts) seen f.place count c)
    odd_told (Err x) h m = odd_served g dbr e core new at count (Err x) claims refs puts psr k h m

  pub fetch_told : g.ppr.prr ≡ at.ring → (result : Result LookupResult Fault) → FoundBy (λ d. first_violation (fetch_rows d at.ring)) core dbr at count result → MarksAreSet dbr at false core new result
      → serve core_store g (midstep_with core claims refs) (request Fetch at count puts) ≡ served_with_words (request Fetch at count puts) d new claims refs (run_words new seen count (ok_map (λ f. f.place) result))
  fetch_told k (Ok f) h m =
      fetch_served g dbr e core new at count (Ok f) claims refs puts k h m ∙ telling (request Fetch at count puts) f.sdw d new claims refs _ _ (found_sdw (λ d. first_violation (fetch_rows d at.ring)) core dbr at count f h) (words_seen new (changes claims puts) seen f.place count c)
  fetch_told k (Err x) h m = fetch_served g dbr e core new at count (Err x) claims refs puts k h m

  pub write_told : (result : Result LookupResult Fault) → FoundBy (λ d. first_violation (write_rows d at.ring)) core dbr at count result → MarksAreSet dbr at true core new result
      → serve core_store g (midstep_with core claims refs) (request Write at count puts) ≡ served_with_result (request Write at count puts) new claims refs (result_at_place d count (ok_map (λ f. f.place) result))
  write_told (Ok f) h m =
      write_served g dbr e core new at count (Ok f) claims refs puts h m ∙ ap (λ s. served_with_result (request Write at count puts) new claims refs (Ok (record { sdw = s; spots = run_from f.place count }))) (sym (found_sdw (λ d. first_violation (write_rows d at.ring)) core dbr at count f h))
  write_told (Err x) h m = write_served g dbr e core new at count (Err x) claims refs puts h m
