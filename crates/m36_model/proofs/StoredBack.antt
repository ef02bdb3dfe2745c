-- What is stored is loaded back: halves, numbers in two words, tally words, and the registers that
-- fill pairs.
use Rattle.std.proofs.Common.{ℕ, ◌≡◌, ◌+◌, ◌*◌, ◌/◌, ◌%◌, ◌^◌, ◌<◌, List, [], ◌∷◌, map, length, slice_index, All, ap, sym, ◌∙◌, arith}
use Rattle.m36_word.specs.Field.{field}
use Rattle.m36_desc.specs.Fields.{DbrFields, PtrFields, ItsFields}
use Rattle.m36_desc.specs.Widths.{IsDbr, IsPtr, IsIts}
use Rattle.m36_desc.specs.Descriptors.{dbr_of, dbr_even, dbr_odd, ptr_of, ptr_even, ptr_odd, its_of, its_of_ptr}
use Rattle.m36_desc.proofs.RoundTrips.{dbr_back, ptr_back, its_back}
use Rattle.m36_model.specs.Fields.{FinalFields}
use Rattle.m36_model.specs.Registers.{RegsFields}
use Rattle.m36_model.specs.Modification.{ptr, no_ptr}
use Rattle.m36_model.specs.Results.{OperandFields, AQ, value, with_value, completes}
use Rattle.m36_model.specs.Pointers.{pair_before, pointer_block, pointer_raised, pointers_in, store_pointers, load_pointers, control_pointer, store_control}
use Rattle.m36_model.specs.CallReturn.{return_through, return_to}
use Rattle.m36_model.specs.Privileged.{load_dbr, store_dbr}
use Rattle.m36_model.specs.Isolation.{HasPointers}
use Rattle.m36_model.specs.StoredBack.{HasWritten, StoredIsLoaded}
use Rattle.m36_model.proofs.Eight.{eight}

-- ---- halves, numbers and tally words

left_back : (old v : ℕ) → v < 2 ^ 18 → field (v * 2 ^ 18 + old % 2 ^ 18) 0 18 ≡ v
left_back old v h = omega (arith, h)

left_kept : (old v : ℕ) → v < 2 ^ 18 → field ((old / 2 ^ 18) * 2 ^ 18 + v) 0 18 ≡ field old 0 18
left_kept old v h = omega (arith, h)

right_back : (old v : ℕ) → v < 2 ^ 18 → field ((old / 2 ^ 18) * 2 ^ 18 + v) 18 18 ≡ v
right_back old v h = omega (arith, h)

right_kept : (old v : ℕ) → field (v * 2 ^ 18 + old % 2 ^ 18) 18 18 ≡ field old 18 18
right_kept old v = omega arith

joined_back : (v : ℕ) → v / 2 ^ 36 * 2 ^ 36 + v % 2 ^ 36 ≡ v
joined_back v = omega arith

number_in_registers : (v : ℕ) (g : RegsFields) → value AQ (with_value AQ v g) ≡ v
unfolding with_value
number_in_registers v g = joined_back v

address_back : (a t d : ℕ) → a < 2 ^ 18 → t < 2 ^ 12 → d < 2 ^ 6 → field (a * 2 ^ 18 + t * 2 ^ 6 + d) 0 18 ≡ a
address_back a t d in_a in_t in_d = omega (arith, in_a, in_t, in_d)

count_back : (a t d : ℕ) → t < 2 ^ 12 → d < 2 ^ 6 → field (a * 2 ^ 18 + t * 2 ^ 6 + d) 18 12 ≡ t
count_back a t d in_t in_d = omega (arith, in_t, in_d)

delta_back : (a t d : ℕ) → d < 2 ^ 6 → field (a * 2 ^ 18 + t * 2 ^ 6 + d) 30 6 ≡ d
delta_back a t d in_d = omega (arith, in_d)

-- ---- the descriptor segment base register, and the return pointer

dbr_loaded : (g h : RegsFields) (o : OperandFields) → IsDbr g.dbr → HasWritten o (store_dbr g) → load_dbr o h ≡ completes (record h { dbr = g.dbr })
unfolding store_dbr load_dbr
dbr_loaded g h o is same =
    let got : o.got ≡ dbr_even g.dbr ∷ dbr_odd g.dbr ∷ [] = same in
    ap (λ (w : List ℕ). completes (record h { dbr = dbr_of (slice_index w 0) (slice_index w 1) })) got
    ∙ ap (λ (d : DbrFields). completes (record h { dbr = d })) (dbr_back g.dbr is)

control_loaded : (g h : RegsFields) (f : FinalFields) (o : OperandFields) → g.ppr.psr < 2 ^ 15 → g.ppr.prr < 2 ^ 3 → HasWritten o (store_control g)
    → return_to f o h ≡ return_through (its_of_ptr (control_pointer g)) f o h
unfolding store_control return_to
control_loaded g h f o seg ring same =
    let got : o.got ≡ ptr_even (control_pointer g) ∷ ptr_odd (control_pointer g) ∷ [] = same in
    let word : (g.ppr.ic + 2) % 2 ^ 18 < 2 ^ 18 = omega arith in
    let nought : 0 < 2 ^ 6 = omega arith in
    let is : IsIts (its_of_ptr (control_pointer g)) = record { seg = seg; ring = ring; word = word; bit = nought; tag = nought } in
    ap (λ (w : List ℕ). return_through (its_of (slice_index w 0) (slice_index w 1)) f o h) got
    ∙ ap (λ (its : ItsFields). return_through its f o h) (its_back (its_of_ptr (control_pointer g)) is)

-- ---- the eight pointer registers

abbrev raised : FinalFields → OperandFields → PtrFields → PtrFields
raised f o p = pointer_raised p f.at.ring o.ring

abbrev all_raised : FinalFields → OperandFields → List PtrFields → List PtrFields
all_raised f o pointers = map (λ (p : PtrFields). pointer_raised p f.at.ring o.ring) pointers

abbrev block_of : (p0 p1 p2 p3 p4 p5 p6 p7 : PtrFields) → List ℕ
block_of p0 p1 p2 p3 p4 p5 p6 p7 =
    pair_before p0 (pair_before p1 (pair_before p2 (pair_before p3 (pair_before p4 (pair_before p5 (pair_before p6 (pair_before p7 [])))))))

block_back : (f : FinalFields) (o : OperandFields) (p0 p1 p2 p3 p4 p5 p6 p7 : PtrFields) → IsPtr p0 → IsPtr p1 → IsPtr p2 → IsPtr p3 → IsPtr p4 → IsPtr p5 → IsPtr p6 → IsPtr p7
    → pointers_in (record o { got = block_of p0 p1 p2 p3 p4 p5 p6 p7 }) f ≡ all_raised f o (p0 ∷ (p1 ∷ (p2 ∷ (p3 ∷ (p4 ∷ (p5 ∷ (p6 ∷ (p7 ∷ []))))))))
block_back f o p0 p1 p2 p3 p4 p5 p6 p7 is0 is1 is2 is3 is4 is5 is6 is7 =
    let e0 : ptr_of (ptr_even p0) (ptr_odd p0) ≡ p0 = ptr_back p0 is0 in
    let e1 : ptr_of (ptr_even p1) (ptr_odd p1) ≡ p1 = ptr_back p1 is1 in
    let e2 : ptr_of (ptr_even p2) (ptr_odd p2) ≡ p2 = ptr_back p2 is2 in
    let e3 : ptr_of (ptr_even p3) (ptr_odd p3) ≡ p3 = ptr_back p3 is3 in
    let e4 : ptr_of (ptr_even p4) (ptr_odd p4) ≡ p4 = ptr_back p4 is4 in
    let e5 : ptr_of (ptr_even p5) (ptr_odd p5) ≡ p5 = ptr_back p5 is5 in
    let e6 : ptr_of (ptr_even p6) (ptr_odd p6) ≡ p6 = ptr_back p6 is6 in
    let e7 : ptr_of (ptr_even p7) (ptr_odd p7) ≡ p7 = ptr_back p7 is7 in
    λ i. raised f o (e0 i) ∷ (raised f o (e1 i) ∷ (raised f o (e2 i) ∷ (raised f o (e3 i) ∷ (raised f o (e4 i) ∷ (raised f o (e5 i) ∷ (raised f o (e6 i) ∷ (raised f o (e7 i) ∷ [])))))))

pointers_loaded : (g h : RegsFields) (f : FinalFields) (o : OperandFields) → HasPointers g → All IsPtr g.pr → HasWritten o (store_pointers g)
    → load_pointers h f o ≡ completes (record h { pr = all_raised f o g.pr })
unfolding store_pointers load_pointers
pointers_loaded g h f o has are same =
    let got : o.got ≡ pointer_block g = same in
    let n : length g.pr ≡ 8 = has in
    let at0 : 0 < length g.pr = omega (arith, n) in
    let at1 : 1 < length g.pr = omega (arith, n) in
    let at2 : 2 < length g.pr = omega (arith, n) in
    let at3 : 3 < length g.pr = omega (arith, n) in
    let at4 : 4 < length g.pr = omega (arith, n) in
    let at5 : 5 < length g.pr = omega (arith, n) in
    let at6 : 6 < length g.pr = omega (arith, n) in
    let at7 : 7 < length g.pr = omega (arith, n) in
    let read : pointers_in (record o { got = pointer_block g }) f ≡ all_raised f o (ptr g 0 ∷ (ptr g 1 ∷ (ptr g 2 ∷ (ptr g 3 ∷ (ptr g 4 ∷ (ptr g 5 ∷ (ptr g 6 ∷ (ptr g 7 ∷ [])))))))) =
    block_back f o (ptr g 0) (ptr g 1) (ptr g 2) (ptr g 3) (ptr g 4) (ptr g 5) (ptr g 6) (ptr g 7)
    (are 0 no_ptr at0) (are 1 no_ptr at1) (are 2 no_ptr at2) (are 3 no_ptr at3) (are 4 no_ptr at4) (are 5 no_ptr at5) (are 6 no_ptr at6) (are 7 no_ptr at7) in
    ap (λ (w : List ℕ). completes (record h { pr = pointers_in (record o { got = w }) f })) got
    ∙ ap (λ (pr : List PtrFields). completes (record h { pr = pr })) read
    ∙ sym (ap (λ (pr : List PtrFields). completes (record h { pr = all_raised f o pr })) (eight g.pr no_ptr n))

pub stored_is_loaded : StoredIsLoaded
stored_is_loaded =
    record {
      left = left_back;
      left_stays = left_kept;
      right = right_back;
      right_stays = right_kept;
      pair_back = joined_back;
      number_back = number_in_registers;
      address = address_back;
      count = count_back;
      delta = delta_back;
      dbr = dbr_loaded;
      control = control_loaded;
      pointers = pointers_loaded;
    }
