-- A list of length eight is its eight elements: the pointer registers, and the pairs of a block.
use Rattle.std.proofs.Common.{ℕ, ◌≡◌, List, length, map, max, refl, ◌∙◌}
use Rattle.m36_word.specs.declared.pair.Pair.{Pair}
use Rattle.m36_desc.specs.Fields.{PtrFields}
use Rattle.m36_model.specs.Fields.{FinalFields}
use Rattle.m36_model.specs.Registers.{RegsFields}
use Rattle.m36_model.specs.Modification.{no_ptr}
use Rattle.m36_model.specs.Results.{OperandFields, words_of_pairs}
use Rattle.m36_model.specs.Pointers.{pointer_block, pointers_in}
use Rattle.m36_model.proofs.Eight.{by_eight}
use Rattle.m36_xptr.specs.PointerPairs.{pair_of_pointer, pointer_of_pair}

-- the words of the eight pairs of the pointer registers
pub words_of_registers : (g : RegsFields) (pairs : List Pair) → length g.pr ≡ 8 → pairs ≡ map pair_of_pointer g.pr → words_of_pairs pairs ≡ pointer_block g
words_of_registers g pairs h e =
    rw e (by_eight (λ (pr : List PtrFields). words_of_pairs (map pair_of_pointer pr) ≡ pointer_block (record g { pr = pr })) no_ptr (λ p0 p1 p2 p3 p4 p5 p6 p7. refl) g.pr h)

-- the pointers of the eight pairs of a block
pub pointers_of_block : (block : List Pair) (pointers : List PtrFields) (ring : ℕ) (o : OperandFields) (f : FinalFields) → length block ≡ 8 → o.got ≡ words_of_pairs block
    → ring ≡ max f.at.ring o.ring → pointers ≡ map (pointer_of_pair ring) block → pointers ≡ pointers_in o f
pointers_of_block block pointers ring o f h e r p =
    p ∙ rw r (by_eight (λ (b : List Pair). (words : List ℕ) → words ≡ words_of_pairs b → map (pointer_of_pair (max f.at.ring o.ring)) b ≡ pointers_in (record o { got = words }) f) (record { even = 0; odd = 0 }) (λ p0 p1 p2 p3 p4 p5 p6 p7 words same. rw same refl) block h o.got e)
