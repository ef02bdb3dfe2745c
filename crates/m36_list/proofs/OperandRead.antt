-- The operand in an instruction's text is parsed as the operand of that instruction.
use Rattle.std.proofs.Common.{ℕ, zero, suc, ◌≡◌, ◌+◌, ◌-◌, ◌/◌, ◌%◌, ◌^◌, ◌<◌, ◌≤◌, ◌==◌, Bool, true, false, cond, nat_lt, List, [], ◌∷◌, ◌++◌, length, Option, Some, None, Ok, refl, sym, ap, ◌∙◌, append_assoc, length-append, arith}
use Rattle.std.specs.Prelude.{codes}
use Rattle.std.proofs.lemmas.Bool.{ltb-true, ltb-false, ne_eqb, eqb-true}
use Rattle.std.proofs.lemmas.List.{append-nil}
use Rattle.m36_text.specs.Digits.{decimal_text}
use Rattle.m36_text.specs.Reading.{first_non_digit, number_of, number_read}
use Rattle.m36_text.specs.Numbers.{octal_in}
use Rattle.m36_inst.specs.Fields.{InstFields}
use Rattle.alm_tokens.specs.declared.span.Span.{Span}
use Rattle.alm_parse.specs.declared.args.Arg.TheVariants.{Operand}
use Rattle.alm_tokens.specs.Tokens.{slice_of, span_at}
use Rattle.alm_tokens.specs.Modifiers.{pr_number, tag_of}
use Rattle.alm_tokens.specs.Pieces.{piece_at}
use Rattle.alm_tokens.specs.Expressions.{expression_pieces}
use Rattle.alm_parse.specs.Bodies.{place_of, body_of, body_pieces}
use Rattle.alm_parse.specs.Operands.{parse_operand, operand_of_parts}
use Rattle.m36_list.specs.Disassembly.{signed_text, address_text}
use Rattle.m36_list.proofs.Characters.{decimal_passes_none, PassesNone, pointer_text, pointer_passes_none, address_passes_none}
use Rattle.m36_list.proofs.Spans.{slice_at, place_behind, place_none}
use Rattle.m36_list.proofs.Terms.{IsNumberAt, plain_number, negative_number}
use Rattle.m36_list.proofs.TagsBack.{tag_read}
use Rattle.m36_list.proofs.NumberSums.{number_term, GivesAddress, gives_plain, GivesOffset, gives_added, gives_taken, gives_through}

-- no number has a comma, a bar or a dollar sign
no_digit : (c : ℕ) → 58 ≤ c → (d : ℕ) → d < 10 → (48 + d == c) ≡ false
no_digit c past d small = ne_eqb (48 + d) c (λ e. absurd (omega arith))

no_digit_below : (c : ℕ) → c < 48 → (d : ℕ) → d < 10 → (48 + d == c) ≡ false
no_digit_below c past d small = ne_eqb (48 + d) c (λ e. absurd (omega arith))

bar_passes_none : PassesNone (λ b. b == 124)
bar_passes_none = record { digit = no_digit 124 (omega arith); minus = refl; letter_p = refl; letter_r = refl }

pub comma_passes_none : PassesNone (λ b. b == 44)
comma_passes_none = record { digit = no_digit_below 44 (omega arith); minus = refl; letter_p = refl; letter_r = refl }

-- a pointer register
pointer_back : (n : ℕ) → n < 8 → pr_number (pointer_text n) ≡ Some n
unfolding pr_number octal_in number_read first_non_digit number_of
pointer_back zero small = refl
pointer_back (suc zero) small = refl
pointer_back (suc (suc zero)) small = refl
pointer_back (suc (suc (suc zero))) small = refl
pointer_back (suc (suc (suc (suc zero)))) small = refl
pointer_back (suc (suc (suc (suc (suc zero))))) small = refl
pointer_back (suc (suc (suc (suc (suc (suc zero)))))) small = refl
pointer_back (suc (suc (suc (suc (suc (suc (suc zero))))))) small = refl
pointer_back (suc (suc (suc (suc (suc (suc (suc (suc n)))))))) small = absurd (omega arith)

-- an address in a source: its pointer register, the number of its expression, and the address that
-- they encode
pub record IsAddressAt (source : List ℕ) (from to : ℕ) (i : InstFields) : Type 0 where
  pub pr : Option ℕ
  pub minus : Bool
  pub v : ℕ
  pub span : Span
  pub says : (at tag : ℕ) → operand_of_parts source at (body_of source (span_at from to)) (body_pieces source (body_of source (span_at from to))) (Some tag) ≡ Ok (Operand pr None None (number_term minus v span ∷ []) tag ∷ [])
  pub address : GivesAddress pr minus v i

-- an address alone
alone : (source : List ℕ) (from to y : ℕ) (i : InstFields) → i.y ≡ y → i.by_pr ≡ false → y < 2 ^ 18 → slice_of source (span_at from to) ≡ decimal_text y → to ≡ from + length (decimal_text y)
    → IsAddressAt source from to i
unfolding body_of
alone source from to y i same off fits slice end =
    let no_bar = place_none source from to 124 (decimal_text y) slice (decimal_passes_none (λ b. b == 124) y (no_digit 124 (omega arith))) in
    let no_dollar = place_none source from to 36 (decimal_text y) slice (decimal_passes_none (λ b. b == 36) y (no_digit_below 36 (omega arith))) in
    let n = plain_number source from to y fits slice end in
    record {
      pr = None;
      minus = false;
      v = y;
      span = n.span;
      says = λ at tag. rw (no_bar, no_dollar, n.terms, n.within, n.read) refl;
      address = gives_plain y i fits same off;
    }

-- an address relative to a pointer register: the register, a bar, and the offset with its sign
pub record IsOffsetAt (source : List ℕ) (from to offset : ℕ) : Type 0 where
  pub minus : Bool
  pub v : ℕ
  pub number : IsNumberAt source (expression_pieces source (piece_at false from to)) minus v
  pub gives : GivesOffset minus v offset

offset_at_by : (source before after : List ℕ) (from to offset : ℕ) (b : Bool) → nat_lt offset (2 ^ 14) ≡ b → offset < 2 ^ 15
    → source ≡ before ++ (cond b (decimal_text offset) (codes "-" ++ decimal_text (2 ^ 15 - offset)) ++ after) → from ≡ length before → to ≡ from + length (cond b (decimal_text offset) (codes "-" ++ decimal_text (2 ^ 15 - offset)))
    → IsOffsetAt source from to offset
offset_at_by source before after from to offset true e fits whole begin end =
    let low : offset < 2 ^ 14 = ltb-true offset (2 ^ 14) e in
    record {
      minus = false;
      v = offset;
      number = plain_number source from to offset (omega arith) (slice_at source before (decimal_text offset) after from to whole begin end) end;
      gives = gives_added offset low;
    }
offset_at_by source before after from to offset false e fits whole begin end =
    let v = 2 ^ 15 - offset in
    let high : 2 ^ 14 ≤ offset = ltb-false offset (2 ^ 14) e in
    let shifted : source ≡ (before ++ codes "-") ++ (decimal_text v ++ after) = whole ∙ sym (append_assoc before (codes "-") (decimal_text v ++ after)) in
    let longer = length-append before (codes "-") in
    record {
      minus = true;
      v = v;
      number = negative_number source from to v (omega arith) (slice_at source before (codes "-" ++ decimal_text v) after from to whole begin end) (slice_at source (before ++ codes "-") (decimal_text v) after (from + 1) to shifted (omega arith) (omega arith)) (omega arith);
      gives = gives_taken offset high fits;
    }

offset_at : (source before after : List ℕ) (from to offset : ℕ) → offset < 2 ^ 15 → source ≡ before ++ (signed_text offset ++ after) → from ≡ length before → to ≡ from + length (signed_text offset)
    → IsOffsetAt source from to offset
unfolding signed_text
offset_at source before after from to offset fits whole begin end = offset_at_by source before after from to offset (nat_lt offset (2 ^ 14)) refl fits whole begin end

through : (source before after : List ℕ) (from to : ℕ) (i : InstFields) → i.by_pr ≡ true → i.y < 2 ^ 18
    → source ≡ before ++ (((pointer_text (i.y / 2 ^ 15) ++ codes "|") ++ signed_text (i.y % 2 ^ 15)) ++ after) → from ≡ length before → to ≡ from + length ((pointer_text (i.y / 2 ^ 15) ++ codes "|") ++ signed_text (i.y % 2 ^ 15))
    → IsAddressAt source from to i
unfolding body_of
through source before after from to i on fits whole begin end =
    let n = i.y / 2 ^ 15 in
    let offset = i.y % 2 ^ 15 in
    let pointer = pointer_text n in
    let rest = signed_text offset in
    let small : n < 8 = omega arith in
    let slice = slice_at source before ((pointer ++ codes "|") ++ rest) after from to whole begin end in
    let bar : place_of source (span_at from to) 124 ≡ Some (from + 3) = place_behind source from to 124 pointer rest slice (pointer_passes_none (λ b. b == 124) n small bar_passes_none) refl in
    let pointer_slice : slice_of source (span_at from (from + 3)) ≡ pointer = slice_at source before pointer (codes "|" ++ (rest ++ after)) from (from + 3) (whole ∙ simp append_assoc) begin refl in
    let longer = length-append before (pointer ++ codes "|") in
    let o = offset_at source (before ++ (pointer ++ codes "|")) after (from + 3 + 1) to offset (omega arith) (whole ∙ simp append_assoc) (omega arith) (omega arith) in
    record {
      pr = Some n;
      minus = o.minus;
      v = o.v;
      span = o.number.span;
      says = λ at tag. rw (bar, pointer_slice, pointer_back n small, o.number.terms, o.number.within, o.number.read) refl;
      address = gives_through o.minus o.v i fits on o.gives;
    }

address_at_by : (source before after : List ℕ) (from to : ℕ) (i : InstFields) (b : Bool) → i.by_pr ≡ b → i.y < 2 ^ 18
    → source ≡ before ++ (cond b ((pointer_text (i.y / 2 ^ 15) ++ codes "|") ++ signed_text (i.y % 2 ^ 15)) (decimal_text i.y) ++ after) → from ≡ length before
    → to ≡ from + length (cond b ((pointer_text (i.y / 2 ^ 15) ++ codes "|") ++ signed_text (i.y % 2 ^ 15)) (decimal_text i.y))
    → IsAddressAt source from to i
address_at_by source before after from to i true on fits whole begin end = through source before after from to i on fits whole begin end
address_at_by source before after from to i false off fits whole begin end = alone source from to i.y i refl off fits (slice_at source before (decimal_text i.y) after from to whole begin end) end

pub address_at : (source before after : List ℕ) (from to : ℕ) (i : InstFields) → i.y < 2 ^ 18 → source ≡ before ++ (address_text i ++ after) → from ≡ length before → to ≡ from + length (address_text i)
    → IsAddressAt source from to i
address_at source before after from to i fits whole begin end = address_at_by source before after from to i i.by_pr refl fits whole begin end

-- the operand: the address, and optionally a comma and the modifier
pub record IsOperandAt (source : List ℕ) (from to : ℕ) (i : InstFields) : Type 0 where
  pub pr : Option ℕ
  pub minus : Bool
  pub v : ℕ
  pub span : Span
  pub says : parse_operand source (span_at from to) ≡ Ok (Operand pr None None (number_term minus v span ∷ []) i.tag ∷ [])
  pub address : GivesAddress pr minus v i

record IsTagged (c : ℕ) (text : List ℕ) (tag : ℕ) : Type 0 where
  comma : 44 ≡ c
  read : tag_of text ≡ Some tag

comma_and_tag : (c : ℕ) (text : List ℕ) (tag : ℕ) (b : Bool) → (c == 44) ≡ b → cond b (tag_of text) None ≡ Some tag → IsTagged c text tag
comma_and_tag c text tag true e h = record { comma = sym (eqb-true c 44 e); read = h }
comma_and_tag c text tag false e h = absurd (cc)

operand_at_by : (source before after : List ℕ) (from to : ℕ) (i : InstFields) (text : List ℕ) → i.y < 2 ^ 18 → tag_read text ≡ Some i.tag
    → source ≡ before ++ ((address_text i ++ text) ++ after) → from ≡ length before → to ≡ from + length (address_text i ++ text)
    → IsOperandAt source from to i
unfolding parse_operand
operand_at_by source before after from to i [] fits tagged whole begin end =
    let address = address_text i in
    let same : address ++ [] ≡ address = append-nil address in
    let longer = length-append address [] in
    let a = address_at source before after from to i fits (whole ∙ ap (λ (t : List ℕ). before ++ (t ++ after)) same) begin (omega arith) in
    let slice = slice_at source before (address ++ []) after from to whole begin end ∙ same in
    let comma = place_none source from to 44 address slice (address_passes_none (λ b. b == 44) i fits comma_passes_none refl) in
    let tag : 0 ≡ i.tag = cc in
    record {
      pr = a.pr;
      minus = a.minus;
      v = a.v;
      span = a.span;
      says = rw (comma) (a.says from 0 ∙ ap (λ (t : ℕ). Ok (Operand a.pr None None (number_term a.minus a.v a.span ∷ []) t ∷ [])) tag);
      address = a.address;
    }
operand_at_by source before after from to i (c ∷ text) fits tagged whole begin end =
    let address = address_text i in
    let k = comma_and_tag c text i.tag (c == 44) refl tagged in
    let here : 44 ∷ text ≡ c ∷ text = λ j. k.comma j ∷ text in
    let longer = length-append address (c ∷ text) in
    let at : from + length address + 1 ≡ length (before ++ (address ++ codes ",")) = omega (arith, length-append before (address ++ codes ","), length-append address (codes ",")) in
    let whole_comma : source ≡ before ++ ((address ++ (44 ∷ text)) ++ after) = whole ∙ ap (λ (t : List ℕ). before ++ ((address ++ t) ++ after)) (sym here) in
    let a = address_at source before ((44 ∷ text) ++ after) from (from + length address) i fits (whole_comma ∙ simp append_assoc) begin refl in
    let slice = slice_at source before (address ++ (c ∷ text)) after from to whole begin end ∙ ap (λ (t : List ℕ). address ++ t) (sym here) in
    let comma = place_behind source from to 44 address text slice (address_passes_none (λ b. b == 44) i fits comma_passes_none refl) refl in
    let tag_slice = slice_at source (before ++ (address ++ codes ",")) text after (from + length address + 1) to (whole_comma ∙ simp append_assoc) at (omega arith) in
    record {
      pr = a.pr;
      minus = a.minus;
      v = a.v;
      span = a.span;
      says = rw (comma, tag_slice, k.read) (a.says from i.tag);
      address = a.address;
    }

pub operand_at : (source before after : List ℕ) (from to : ℕ) (i : InstFields) (text : List ℕ) → i.y < 2 ^ 18 → tag_read text ≡ Some i.tag
    → source ≡ before ++ ((address_text i ++ text) ++ after) → from ≡ length before → to ≡ from + length (address_text i ++ text)
    → IsOperandAt source from to i
operand_at source before after from to i text fits tagged whole begin end = operand_at_by source before after from to i text fits tagged whole begin end
