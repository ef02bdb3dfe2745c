-- The address chain: from the point of the instruction, through its indirect words, to the final
-- address. Multics Processor Manual AL39, "Effective address formation", "Indirect word formats"
-- (ITS and ITP pairs).
use Rattle.std.specs.Prelude.{ℕ, zero, suc, ◌+◌, ◌%◌, ◌^◌, max, Bool, true, false, ◌==◌}
use Rattle.std.specs.Prelude.{if◌then◌else◌, List, [], ◌∷◌, Option, Some, None, Result, Ok, Err}
use Rattle.std.specs.Prelude.{slice_index}
use Rattle.m36_word.specs.Field.{field}
use Rattle.m36_desc.specs.Descriptors.{its_of, itp_of, its_tag, itp_tag, tag_of}
use Rattle.m36_model.specs.Faults.{lockup_fault}
use Rattle.m36_model.specs.Fields.{FinalFields}
use Rattle.m36_model.specs.Registers.{RegsFields}
use Rattle.m36_model.specs.Store.{Spot, Core_word}
use Rattle.m36_model.specs.declared.effects.Formed.{Formed}
use Rattle.m36_model.specs.declared.effects.Tally.{Tally}
use Rattle.m36_model.specs.declared.outcome.Halt.{Halt}
use Rattle.m36_model.specs.Act.{RequestKind, Indirect, Odd, Write, Whole, Put, Request, Answer, Act}
use Rattle.m36_model.specs.Act.{done, refer}
use Rattle.m36_model.specs.Modification.{Point, Move, Ends, Fails, Reads, Counts, move_of_point}
use Rattle.m36_model.specs.Modification.{ptr, pair_ring, halt_at, at_point, final_at}
use Rattle.m36_model.specs.Tally.{Counted, tally, tally_address, indirect_only}

-- The result of a chain: the final address, the tally word that is still to be written, and the new
-- tally runout indicator if a tag sets it.
pub record ChainEnd : Type 0 where
  pub last : FinalFields
  pub pending : List Put
  pub runout : Option Bool

-- the program that forms an address
abbrev pub Formation : Type 0
Formation = Act (Result ChainEnd Halt)

-- the result of a chain without a tally word
abbrev pub without_tally : FinalFields → ChainEnd
without_tally last = record { last = last; pending = []; runout = None }

-- the program that ends a chain here, without a tally word
abbrev pub ends_plain : FinalFields → Formation
ends_plain last = done (Ok (without_tally last))

-- the request for an indirect word, in the segment and the ring of its point
abbrev pub indirect_request : RequestKind → Point → ℕ → Request
indirect_request kind p word = record { kind = kind; at = at_point p word; count = 1; pending = [] }

-- The kinds of indirect words. At an even word number, tag 43 makes a word the even word of an ITS
-- pair, and tag 41 that of an ITP pair. Every other word is a plain indirect word.
pub data IndirectKind : Type 0 where
  Its : IndirectKind
  Itp : IndirectKind
  Plain : IndirectKind

-- the kind of an indirect word at an even word number, by its tag
abbrev pub kind_by_tag : ℕ → IndirectKind
kind_by_tag tag = if tag == its_tag then Its else if tag == itp_tag then Itp else Plain

-- the tag of a plain indirect word, or of the even word of a pair
abbrev pub indirect_tag : ℕ → ℕ
indirect_tag w = tag_of w

-- what an indirect word is, by its word number and its tag
unfoldable pub indirect_kind : ℕ → ℕ → IndirectKind
indirect_kind word w = if word % 2 == 0 then kind_by_tag (indirect_tag w) else Plain

-- The point after a plain indirect word: y and the tag are those of the word. Segment, ring and bit
-- number do not change (the bit number: this project's choice).
abbrev pub plain_point : Point → ℕ → Option ℕ → ℕ → ℕ → Point
plain_point p word held w r1 =
    record p {
      y = field w 0 18;
      tag = indirect_tag w;
      held = held;
      carrier = record { seg = p.seg; word = word; ring = max p.ring r1 };
    }

-- The point after an ITS pair: segment, y, bit number and tag are those of the pair, and the ring
-- is `pair_ring`. The odd word carries the tag.
abbrev pub its_point : Point → ℕ → Option ℕ → ℕ → ℕ → ℕ → Point
its_point p word held even odd r1 =
    let its = its_of even odd in
    record {
      seg = its.seg;
      ring = pair_ring p.ring r1 its.ring;
      y = its.word;
      bit = its.bit;
      tag = its.tag;
      held = held;
      carrier = record { seg = p.seg; word = word + 1; ring = pair_ring p.ring r1 its.ring };
    }

-- The point after an ITP pair: the segment is that of the pointer register that the pair names, and
-- the ring is `pair_ring` with the register's ring. y is the sum of both word numbers. The bit
-- number and the tag are those of the pair; the odd word carries the tag.
abbrev pub itp_point : RegsFields → Point → ℕ → Option ℕ → ℕ → ℕ → ℕ → Point
itp_point g p word held even odd r1 =
    let itp = itp_of even odd in
    let base = ptr g itp.pr in
    record {
      seg = base.seg;
      ring = pair_ring p.ring r1 base.ring;
      y = (base.word + itp.word) % 2 ^ 18;
      bit = itp.bit;
      tag = itp.tag;
      held = held;
      carrier = record { seg = p.seg; word = word + 1; ring = pair_ring p.ring r1 base.ring };
    }

-- Continues from the next point, once the word at the point's address is read. If it begins a pair,
-- the odd word is read too; both are one indirect word. r1 is R1 of the segment in which the word
-- was found. If the odd word is refused, the even word is still a completed reference (this
-- project's choice).
abbrev pub after_word :
    (Point → Formation) → RegsFields → Point → ℕ → Option ℕ → Answer → IndirectKind → Formation
after_word next g p word held a Plain =
    next (plain_point p word held (slice_index a.words 0) a.sdw.r1)
after_word next g p word held a Its =
    refer (indirect_request Odd p (word + 1)) (λ b.
    next (its_point p word held (slice_index a.words 0) (slice_index b.words 0) a.sdw.r1))
after_word next g p word held a Itp =
    refer (indirect_request Odd p (word + 1)) (λ b.
    next (itp_point g p word held (slice_index a.words 0) (slice_index b.words 0) a.sdw.r1))

-- The final address after a tally word: the computed address, in the same segment and ring, with
-- the same bit number. A held register is not used.
abbrev pub tally_final : Point → ℕ → FinalFields
tally_final p address = final_at p address None

-- The end of a chain at a tally word that was counted. Its new value is written when the
-- instruction completes.
abbrev pub tally_end : Point → ℕ → Counted → ChainEnd
tally_end p claim counted =
    record {
      last = tally_final p counted.address;
      pending = record { claim = claim; part = Whole; value = counted.word } ∷ [];
      runout = Some counted.runs_out;
    }

-- Ends a chain after its tally word was read. The tag I (true) does not change the word. The other
-- four reference it once more, as a Write in the same ring.
abbrev pub after_tally : Point → ℕ → Answer → Bool → Formation
after_tally p td a true = ends_plain (tally_final p (tally_address (slice_index a.words 0)))
after_tally p td a false =
    refer (indirect_request Write p p.y) (λ b.
    done (Ok (tally_end p b.first (tally td (slice_index a.words 0)))))

-- the chain from a point at which an indirect word may be read, by what its tag does; `next` is the
-- chain from the next point
abbrev pub chain_by : (Point → Formation) → RegsFields → Point → Move → Formation
chain_by next g p (Ends last) = ends_plain last
chain_by next g p (Fails h) = done (Err h)
chain_by next g p (Reads word held) =
    refer (indirect_request Indirect p word) (λ a.
    after_word next g p word held a (indirect_kind word (slice_index a.words 0)))
chain_by next g p Counts =
    refer (indirect_request Indirect p p.y) (λ a.
    after_tally p (p.tag % 16) a (p.tag % 16 == indirect_only))

-- The halt by a 17th indirect word: a lockup fault at this word. The word is not read, nor are the
-- rights to it checked.
abbrev pub lockup : Point → ℕ → Halt
lockup p word = halt_at lockup_fault (at_point p word)

-- the chain from a point at which no indirect word may be read, by what its tag does
abbrev pub chain_exhausted : Point → Move → Formation
chain_exhausted p (Ends last) = ends_plain last
chain_exhausted p (Fails h) = done (Err h)
chain_exhausted p (Reads word held) = done (Err (lockup p word))
chain_exhausted p Counts = done (Err (lockup p p.y))

-- the chain from a point, in which at most n more indirect words may be read
unfoldable pub chain : ℕ → RegsFields → Point → Formation
chain zero g p = chain_exhausted p (move_of_point g p)
chain (suc n) g p = chain_by (chain n g) g p (move_of_point g p)

-- the put of the new value of a tally word, which is the first claim of the step
abbrev pub tally_put : Tally → Put
tally_put t = record { claim = 0; part = Whole; value = t.word }

-- the new value of the tally word of a formed address, if it has one
abbrev pub pending_of : Option Tally → List Put
pending_of None = []
pending_of (Some t) = tally_put t ∷ []

-- the new tally runout indicator of a formed address, if it has one
abbrev pub runout_of : Option Tally → Option Bool
runout_of None = None
runout_of (Some t) = Some t.runout

-- the result of a chain that a formed address represents
abbrev pub chain_end_fields : Formed → ChainEnd
chain_end_fields f =
    record { last = f.last; pending = pending_of f.tally; runout = runout_of f.tally }

-- the spot that the chain has claimed: the core address of the tally word, if there is one
abbrev pub claimed_by : Option Tally → ℕ → List Spot
claimed_by None place = []
claimed_by (Some t) place = Core_word place ∷ []
