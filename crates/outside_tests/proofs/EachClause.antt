-- From what a call did to a world, the clauses of the trait of the object that was called.
use Rattle.std.proofs.Common.{◌≡◌, ℕ, ◌≤◌, ◌<◌, ◌^◌, ◌⊎◌, List, [], length, Option, Some, None, refl, sym, ap, arith}
use Rattle.m36_outside.specs.Passing.{joined, PieceGives, PutTakes, TakesLines}
use Rattle.m36_outside.specs.Piece.{prepended, PieceResult, PieceHasCause}
use Rattle.m36_outside.specs.Put.{PutResult, PutHasCause}
use Rattle.m36_outside.specs.declared.lines.Piece.{Piece}
use Rattle.m36_outside.specs.declared.lines.Piece.TheVariants as piece
use Rattle.m36_outside.specs.declared.sink.Put.{Put}
use Rattle.m36_outside.specs.declared.sink.Put.TheVariants as put
use Rattle.m36_world.specs.Answers.{PutDid, PutBlockDid, NextPieceDid}
use Rattle.m36_world.specs.Seen.{Seen}
use Rattle.m36_world.proofs.Puts.{pieces_written, pieces_taken, pieces_no_fault, pieces_bound}

same_count : (old new : ℕ) → new ≡ old → old ≤ new
same_count old new is = omega (arith, is)

-- ---- a put

pub record IsPut (answer : Put) (whole : List ℕ) (old new : Seen) : Type 0 where
  pub says : PutResult answer old.written new.written whole
  pub took : PutTakes answer old.written new.written old.outputs new.outputs whole
  pub cause : PutHasCause answer old.output_faults new.output_faults
  pub count : old.output_faults ≤ new.output_faults
  pub bound : new.output_faults < 2 ^ 64

pub is_put : (answer : Put) (whole : List ℕ) (old new : Seen) → PutDid answer whole old new → IsPut answer whole old new
is_put put.Done whole old new did =
    let none = ap (λ s. s.output_faults) did.rest in record {
      says = ap (λ s. s.written) did.rest;
      took = ap (λ s. s.outputs) did.rest;
      cause = none;
      count = same_count old.output_faults new.output_faults none;
      bound = did.bound;
    }
is_put put.Failed whole old new did = record {
  says = record { part = did.part.part; rest = did.part.rest; whole = did.part.is; grew = did.part.grew };
  took = did.part;
  cause = did.failed.cause;
  count = did.failed.count;
  bound = did.failed.bound;
}

-- ---- a put of a block

pub record IsPutBlock (answer : Put) (pieces : List (List ℕ)) (old new : Seen) : Type 0 where
  pub says : PutResult answer old.written new.written (joined pieces)
  pub took : TakesLines answer old.outputs new.outputs pieces
  pub cause : PutHasCause answer old.output_faults new.output_faults
  pub count : old.output_faults ≤ new.output_faults
  pub bound : (old.output_faults < 2 ^ 64) ⊎ (1 ≤ length pieces) → new.output_faults < 2 ^ 64

pub is_put_block :
    (answer : Put) (pieces : List (List ℕ)) (old new : Seen)
    → PutBlockDid answer pieces old new → IsPutBlock answer pieces old new
is_put_block put.Done pieces old new did =
    let none = pieces_no_fault pieces old new did in record {
      says = pieces_written pieces old new did;
      took = pieces_taken pieces old new did;
      cause = none;
      count = same_count old.output_faults new.output_faults none;
      bound = pieces_bound pieces old new did;
    }
is_put_block put.Failed pieces old new did = record {
  says = did.grew;
  took = did.took;
  cause = did.cause;
  count = did.count;
  bound = λ _. did.bound;
}

-- ---- a call for the next piece

left_kept : (old new : Option (List ℕ)) → old ≡ prepended [] new → new ≡ old
left_kept old None is = sym is
left_kept old (Some left) is = sym is

pub record IsNextPiece (answer : Piece) (into : List ℕ) (old new : Seen) : Type 0 where
  pub says : PieceResult answer old.left new.left into
  pub gives : PieceGives answer old.inputs new.inputs into
  pub cause : PieceHasCause answer old.input_faults new.input_faults
  pub count : old.input_faults ≤ new.input_faults
  pub bound : new.input_faults < 2 ^ 64

pub is_next_piece :
    (answer : Piece) (into : List ℕ) (old new : Seen)
    → NextPieceDid answer into old new → IsNextPiece answer into old new
is_next_piece (piece.Got count) into old new did =
    let none = ap (λ s. s.input_faults) did.input.rest in record {
      says = record { some = did.some; room = did.room; left = did.input.left };
      gives = ap (λ s. s.inputs) did.input.rest;
      cause = none;
      count = same_count old.input_faults new.input_faults none;
      bound = did.input.bound;
    }
is_next_piece piece.End into old new did =
    let none = ap (λ s. s.input_faults) did.rest in record {
      says = (did.end refl, left_kept old.left new.left did.left);
      gives = ap (λ s. s.inputs) did.rest;
      cause = none;
      count = same_count old.input_faults new.input_faults none;
      bound = did.bound;
    }
is_next_piece piece.Failed into old new did = record {
  says = ap (λ s. s.left) did.rest;
  gives = ap (λ s. s.inputs) did.rest;
  cause = did.cause;
  count = did.count;
  bound = did.bound;
}
