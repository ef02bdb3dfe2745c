-- Pointer register instructions. Multics Processor Manual AL39, "Pointer register data movement
-- load instructions", "Pointer register data movement store instructions", "Effective address to
-- AQ", "Store control double".
use Rattle.std.specs.Prelude.{ℕ, ◌+◌, ◌*◌, ◌%◌, ◌^◌, Bool, true, false, ◌&&◌, ◌==◌, List, []}
use Rattle.std.specs.Prelude.{◌∷◌, Result, Err, slice_index, slice_set}
use Rattle.m36_word.specs.Field.{field}
use Rattle.m36_desc.specs.Fields.{PtrFields}
use Rattle.m36_desc.specs.Descriptors.{ptr_of, ptr_even, ptr_odd, pointer_of_packed}
use Rattle.m36_model.specs.Faults.{command}
use Rattle.m36_model.specs.Fields.{FinalFields}
use Rattle.m36_model.specs.Registers.{RegsFields}
use Rattle.m36_model.specs.Modification.{ptr, pair_ring}
use Rattle.m36_model.specs.Results.{OperandFields, EffectFields, with_zero, completes}
use Rattle.m36_model.specs.Results.{completes_with}

-- the registers with a pointer in pointer register n
unfoldable pub with_pr : ℕ → PtrFields → RegsFields → RegsFields
with_pr n p g = record g { pr = slice_set g.pr n p }

-- a pointer to bit 0 of a word
abbrev pub pointer : ℕ → ℕ → ℕ → PtrFields
pointer seg ring word = record { seg = seg; ring = ring; word = word; bit = 0 }

-- the final address as a pointer
abbrev pub pointer_to : FinalFields → PtrFields
pointer_to f = record { seg = f.at.seg; ring = f.at.ring; word = f.at.word; bit = f.bit }

-- a pointer to the base of the final address's segment
abbrev pub base_of : FinalFields → PtrFields
base_of f = pointer f.at.seg f.at.ring 0

-- EPP: the final address to the pointer register
unfoldable pub load_pointer : ℕ → RegsFields → FinalFields → Result EffectFields ℕ
load_pointer n g f = completes (with_pr n (pointer_to f) g)

-- EPBP: the base of the final address's segment to the pointer register
unfoldable pub load_base_pointer : ℕ → RegsFields → FinalFields → Result EffectFields ℕ
load_base_pointer n g f = completes (with_pr n (base_of f) g)

-- the ITS pair of a pointer, and more words
abbrev pub pair_before : PtrFields → List ℕ → List ℕ
pair_before p words = ptr_even p ∷ ptr_odd p ∷ words

-- SPRI0 to SPRI7: the pointer register to the pair, as ITS with tag 0
unfoldable pub store_pointer : ℕ → RegsFields → Result EffectFields ℕ
store_pointer n g = completes_with g (pair_before (ptr g n) [])

-- SPBP: as SPRI0 to SPRI7, with 0 as the odd word
unfoldable pub store_base_pointer : ℕ → RegsFields → Result EffectFields ℕ
store_base_pointer n g = completes_with g (ptr_even (ptr g n) ∷ 0 ∷ [])

-- the eight pairs of the pointer registers, PR0 first
abbrev pub pointer_block : RegsFields → List ℕ
pointer_block g =
    pair_before (ptr g 0)
    (pair_before (ptr g 1)
    (pair_before (ptr g 2)
    (pair_before (ptr g 3)
    (pair_before (ptr g 4)
    (pair_before (ptr g 5) (pair_before (ptr g 6) (pair_before (ptr g 7) [])))))))

-- SPRI: the eight pairs to the block, PR0 first
unfoldable pub store_pointers : RegsFields → Result EffectFields ℕ
store_pointers g = completes_with g (pointer_block g)

-- the pointer of a pair, with the ring after the pair (`pair_ring`)
abbrev pub pointer_raised : PtrFields → ℕ → ℕ → PtrFields
pointer_raised p trr r1 = record p { ring = pair_ring trr r1 p.ring }

-- the pointer of pair n of an operand block
abbrev pub pointer_in : OperandFields → FinalFields → ℕ → PtrFields
pointer_in o f n =
    pointer_raised (ptr_of (slice_index o.got (2 * n)) (slice_index o.got (2 * n + 1))) f.at.ring
    o.ring

-- the eight pointers of an operand block, PR0 first
abbrev pub pointers_in : OperandFields → FinalFields → List PtrFields
pointers_in o f =
    pointer_in o f 0 ∷ pointer_in o f 1 ∷ pointer_in o f 2 ∷ pointer_in o f 3 ∷ pointer_in o f 4
    ∷ pointer_in o f 5 ∷ pointer_in o f 6 ∷ pointer_in o f 7 ∷ []

-- LPRI: each pointer register gets the segment, word and bit of its pair, and the ring after the
-- pair. The tags of the pairs are not checked (this project's choice).
unfoldable pub load_pointers : RegsFields → FinalFields → OperandFields → Result EffectFields ℕ
load_pointers g f o = completes (record g { pr = pointers_in o f })

-- LPRP, given whether bits 0 and 1 of the word are both on, which is a command fault
abbrev pub load_packed_by : Bool → ℕ → ℕ → RegsFields → FinalFields → Result EffectFields ℕ
load_packed_by true n w g f = Err command
load_packed_by false n w g f = completes (with_pr n (pointer_of_packed w f.at.ring) g)

-- LPRP: the pointer register gets the pointer of the packed pointer, in ring TRR. The fault is
-- command if bits 0 and 1 of the word are both on.
unfoldable pub load_packed : ℕ → ℕ → RegsFields → FinalFields → Result EffectFields ℕ
load_packed n w g f = load_packed_by (field w 0 2 == 3) n w g f

-- the word that EPAQ loads into A: the segment in bits 3 to 17, the ring in bits 33 to 35
abbrev pub address_even : FinalFields → ℕ
address_even f = f.at.seg * 2 ^ 18 + f.at.ring

-- the word that EPAQ loads into Q: the computed address in bits 0 to 17, the bit number in bits 30
-- to 35
abbrev pub address_odd : FinalFields → ℕ
address_odd f = f.at.word * 2 ^ 18 + f.bit

-- EPAQ: the final address to A and Q. Zero is on exactly if AQ is 0; no other indicator changes
-- (this project's choice).
unfoldable pub load_address_pair : RegsFields → FinalFields → Result EffectFields ℕ
load_address_pair g f =
    let zero = (address_even f == 0) && (address_odd f == 0) in
    completes (record g { a = address_even f; q = address_odd f; ind = with_zero zero g.ind })

-- the pointer to the second instruction after this one
abbrev pub control_pointer : RegsFields → PtrFields
control_pointer g = pointer g.ppr.psr g.ppr.prr ((g.ppr.ic + 2) % 2 ^ 18)

-- STCD: a pointer to the second instruction after this one to the pair, as ITS
unfoldable pub store_control : RegsFields → Result EffectFields ℕ
store_control g = completes_with g (pair_before (control_pointer g) [])
