-- The parts of words that have relocations, as lines place them.
use Rattle.std.proofs.Common.{ℕ, ◌≡◌, ◌+◌, ◌*◌, ◌%◌, ◌^◌, ◌<◌, ◌≤◌, Bool, Option, Some, None, refl, ap, ◌∙◌, arith}
use Rattle.m36_word.proofs.BitLaws.{bit_small}
use Rattle.m36_inst.specs.Fields.{InstFields}
use Rattle.m36_inst.specs.Instruction.{inst_word}
use Rattle.obj36_parts.specs.Halves.{left, right, bits_3_to_17}
use Rattle.obj36_parts.specs.ObjectSegment.{part_of, linkage_register}
use Rattle.alm_tokens.specs.declared.span.Span.{Span}
use Rattle.alm_tokens.specs.Modifiers.{star_tag}
use Rattle.alm_lines.specs.Sums.{half_of, offset_of}
use Rattle.alm_lines.specs.Arguments.{first_arg, second_arg, terms_in}
use Rattle.alm_lines.specs.Expressions.{sum_of}
use Rattle.alm_asm.specs.Links.{link_of, offset_of_link_in}
use Rattle.alm_asm.specs.Words.{address_instruction, pointer_register_instruction, halves_word}
use Rattle.alm_asm.specs.Relocations.{operand_part}
use Rattle.alm_asm.specs.Laws.{RelocatedPartsHoldValues}
use Rattle.alm_asm.proofs.GoodDefinitions.{half_small}
use Rattle.alm_asm.proofs.OffsetsRead.{offset_below, offset_kept}

-- ---- instructions

-- the left half of the word is the address
address_is : (i : InstFields) → i.code < 2 ^ 9 → i.tag < 2 ^ 6 → left (inst_word i) ≡ i.y
unfolding left
address_is i code tag =
    let bit27_small = bit_small i.bit27 in
    let inhibit_small = bit_small i.inhibit in
    let by_pr_small = bit_small i.by_pr in
    omega arith

plain_is : (code : ℕ) (bit27 : Bool) (y tag : ℕ) → left (inst_word (address_instruction code bit27 y tag)) ≡ y
plain_is code bit27 y tag =
    let code_small : code % 2 ^ 9 < 2 ^ 9 = omega arith in
    let tag_small : tag % 2 ^ 6 < 2 ^ 6 = omega arith in
    address_is (address_instruction code bit27 y tag) code_small tag_small

-- bits 3 to 17 are the offset after a pointer register
offset_is : (code : ℕ) (bit27 : Bool) (pr offset tag : ℕ) → offset < 2 ^ 15 → bits_3_to_17 (inst_word (pointer_register_instruction code bit27 pr offset tag)) ≡ offset
unfolding bits_3_to_17
offset_is code bit27 pr offset tag small =
    let code_small : code % 2 ^ 9 < 2 ^ 9 = omega arith in
    let tag_small : tag % 2 ^ 6 < 2 ^ 6 = omega arith in
    ap (λ y. y % 2 ^ 15) (address_is (pointer_register_instruction code bit27 pr offset tag) code_small tag_small) ∙ offset_kept pr offset small

-- they are the offset of a link for an external operand, whatever register its line names
linked_part : (pr : Option ℕ) (segment : Span) → operand_part pr (Some segment) ≡ 2
linked_part (Some pr) segment = refl
linked_part None segment = refl

-- ---- halves

left_is : (l r : ℕ) → r < 2 ^ 18 → left (l * 2 ^ 18 + r) ≡ l
unfolding left
left_is l r small = omega arith

right_is : (l r : ℕ) → r < 2 ^ 18 → right (l * 2 ^ 18 + r) ≡ r
unfolding right
right_is l r small = omega arith

pub parts_are_marked : RelocatedPartsHoldValues
unfolding part_of halves_word
parts_are_marked =
    record {
      plain = λ text tables spot code bit27 entry terms tag.
          plain_is code bit27 (half_of (sum_of text tables.symbols spot terms).value) tag;
      through = λ text tables spot code bit27 pr entry terms tag.
          let number = (sum_of text tables.symbols spot terms).value in
          offset_is code bit27 pr (offset_of number) tag (offset_below number);
      linked = λ text tables spot code bit27 pr segment entry terms tag.
          let offset : ℕ = offset_of_link_in tables.links tables.first_link (link_of text tables.symbols spot segment entry terms tag) % 2 ^ 15 in
          let small : offset < 2 ^ 15 = omega arith in
          ap (λ part. part_of part (inst_word (pointer_register_instruction code bit27 linkage_register offset star_tag))) (linked_part pr segment)
          ∙ offset_is code bit27 linkage_register offset star_tag small;
      first = λ text tables spot arguments.
          let l = (sum_of text tables.symbols spot (terms_in (first_arg arguments))).value in
          let r = (sum_of text tables.symbols spot (terms_in (second_arg arguments))).value in
          left_is (half_of l) (half_of r) (half_small r);
      second = λ text tables spot arguments.
          let l = (sum_of text tables.symbols spot (terms_in (first_arg arguments))).value in
          let r = (sum_of text tables.symbols spot (terms_in (second_arg arguments))).value in
          right_is (half_of l) (half_of r) (half_small r);
    }
