-- The words of an operand. A pair or a block is consecutive words: word k is the one at the first
-- word number plus k.
use Rattle.std.specs.Prelude.{ℕ, ◌≡◌, ◌+◌, ◌<◌, true, List, ◌++◌, map, length, slice_get, Some, Ok}
use Rattle.m36_desc.specs.Fields.{SdwFields}
use Rattle.m36_model.specs.Registers.{RegsFields}
use Rattle.m36_model.specs.Act.{Read, Write, Request, Answer}
use Rattle.m36_model.specs.Store.{Spot, Store, Midstep, serve, changes, is_within_bound}
use Rattle.m36_model.specs.Core.{core_store}

-- the spots of the words of a request, each of them within the bound and placed by the descriptor
pub record ArePlaces {S : Type 0} (o : Store S) (s : S) (g : RegsFields) (q : Request)
    (d : SdwFields) (spots : List Spot) : Type 0 where
  pub count : length spots ≡ q.count
  pub inside : (k : ℕ) → k < q.count → is_within_bound d (q.at.word + k) ≡ true
  pub each :
      (k : ℕ) (spot : Spot) → slice_get spots k ≡ Some spot
      → o.spot s g.dbr d q.at.seg (q.at.word + k) ≡ Ok spot

-- a request to read that was answered: its words are those at these spots, after the marks are set
-- and the pending words are written
pub record AreReadWords {S : Type 0} (o : Store S) (g : RegsFields) (m : Midstep S) (q : Request)
    (a : Answer) (after : Midstep S) : Type 0 where
  pub spots : List Spot
  pub found : o.sdw m.store g.dbr q.at.seg ≡ Ok a.sdw
  pub places : ArePlaces o m.store g q a.sdw spots
  pub words : a.words ≡ map (o.word (o.put after.store (changes m.claims q.pending))) spots

-- a request to write that was answered: these spots are claimed, after those that the step has
-- claimed before
pub record AreWrittenWords {S : Type 0} (o : Store S) (g : RegsFields) (m : Midstep S) (q : Request)
    (a : Answer) (after : Midstep S) : Type 0 where
  pub spots : List Spot
  pub found : o.sdw m.store g.dbr q.at.seg ≡ Ok a.sdw
  pub places : ArePlaces o m.store g q a.sdw spots
  pub claims : after.claims ≡ m.claims ++ spots
  pub first : a.first ≡ length m.claims

-- an answered request to read has the words at its consecutive word numbers
abbrev pub ReadsWordsInOrder : Type 0
ReadsWordsInOrder =
    (g : RegsFields) (m after : Midstep (List ℕ)) (q : Request) (a : Answer) → q.kind ≡ Read
    → serve core_store g m q ≡ record { reply = Ok a; mid = after }
    → AreReadWords core_store g m q a after

-- an answered request to write has claimed the words at its consecutive word numbers
abbrev pub WritesWordsInOrder : Type 0
WritesWordsInOrder =
    (g : RegsFields) (m after : Midstep (List ℕ)) (q : Request) (a : Answer) → q.kind ≡ Write
    → serve core_store g m q ≡ record { reply = Ok a; mid = after }
    → AreWrittenWords core_store g m q a after
