-- The fields of a trace line, written one after the other, are the line.
use Rattle.std.proofs.Common.{◌≡◌, Bool, true, false, ℕ, ◌+◌, ◌-◌, ◌≤◌, List, [], ◌∷◌, ◌++◌, length, take, Option, Some, None, refl, sym, ap, subst, ◌∙◌, arith, append_assoc}
use Rattle.std.specs.Prelude.{codes}
use Rattle.std.specs.Bool.{OnTrue}
use Rattle.std.specs.List.{join_with_byte}
use Rattle.std.proofs.lemmas.List.{take_all}
use Rattle.m36_text.specs.Digits.{octal_text, decimal_text, word_text, half_text}
use Rattle.m36_text.specs.Lines.{as_line, joined_by_spaces}
use Rattle.m36_outside.specs.Gathered.{Adds}
use Rattle.m36_outside.specs.declared.sink.Put.{Put}
use Rattle.m36_model.specs.Fields.{FinalFields, AtFields, PprFields}
use Rattle.m36_model.specs.Registers.{RegsFields}
use Rattle.m36_model.specs.declared.outcome.Outcome.{Outcome}
use Rattle.m36_model.specs.declared.outcome.Outcome.TheVariants.{Next}
use Rattle.m36_model.specs.declared.record.StepRecord.{StepRecord}
use Rattle.m36_model.specs.declared.record.Shown.{Shown}
use Rattle.m36_model.specs.declared.registers.Ind.{Ind}
use Rattle.m36_trace.specs.Spaced.{with_space, ring_segment_text, kept_place, kept_operand, kept_final, HasRingSegment}
use Rattle.m36_trace.specs.Kept.{kept_line_of_values, kept_line, CanBeUsed}
use Rattle.m36_trace.specs.declared.text.TraceText.{TraceText}
use Rattle.m36_trace.proofs.Lines.{put_in_turn}
use Rattle.m36_trace.specs.TraceLine.{fields_of_values, line_of, shown_line, segment_word_text, instruction_text, operand_text, letter, final_text, indicators_text}

two_put : (before a b : List ℕ) → (before ++ a) ++ with_space b ≡ before ++ with_space (a ++ b)
two_put before a b = simp append_assoc

-- a front part of eight bytes, and a word number
pub place_put :
    (place ring mark seg word end : ℕ) (front start first last : List ℕ)
    → ((count : ℕ) → count ≤ 8 → take (place + count) first ≡ take place start ++ take count front)
    → length front ≡ 8 → front ≡ ring_segment_text ring mark seg
    → take end last ≡ take (place + 8) first ++ with_space (half_text word)
    → take end last ≡ take place start ++ with_space (kept_place ring mark seg word)
place_put place ring mark seg word end front start first last put eight is half =
    half
    ∙ ap (λ l. l ++ with_space (half_text word)) (put 8 (omega arith) ∙ ap (λ l. take place start ++ l) (take_all 8 front (omega arith) ∙ is))
    ∙ two_put (take place start) (ring_segment_text ring mark seg) (half_text word)

-- an equals sign, and a word
pub operand_put :
    (place word end : ℕ) (start first last : List ℕ)
    → ((count : ℕ) → count ≤ 1 → take (place + count) first ≡ take place start ++ take count (codes "="))
    → take end last ≡ take (place + 1) first ++ with_space (word_text word)
    → take end last ≡ take place start ++ with_space (codes "=" ++ word_text word)
operand_put place word end start first last put after =
    after
    ∙ ap (λ l. l ++ with_space (word_text word)) (put 1 (omega arith))
    ∙ two_put (take place start) (codes "=") (word_text word)

-- six letters, and the outcome
pub letters_are :
    (z n c o m t : ℕ) (ind : Ind)
    → z ∷ [] ≡ letter (codes "z") ind.zero → n ∷ [] ≡ letter (codes "n") ind.negative
    → c ∷ [] ≡ letter (codes "c") ind.carry → o ∷ [] ≡ letter (codes "o") ind.overflow
    → m ∷ [] ≡ letter (codes "m") ind.mask → t ∷ [] ≡ letter (codes "t") ind.tally
    → z ∷ (n ∷ (c ∷ (o ∷ (m ∷ (t ∷ (codes " next" ++ 10 ∷ [])))))) ≡ as_line (indicators_text ind ++ codes " next")
letters_are z n c o m t ind z_is n_is c_is o_is m_is t_is =
    λ i. as_line ((((((z_is i ++ n_is i) ++ c_is i) ++ o_is i) ++ m_is i) ++ t_is i) ++ codes " next")

two_more : (x b c : List ℕ) (end : ℕ) → x ++ ((b ++ 32 ∷ c) ++ end ∷ []) ≡ (((x ++ b) ++ 32 ∷ []) ++ c) ++ end ∷ []
two_more x b c end = simp append_assoc

one_more : (x y d : List ℕ) → x ≡ y → x ++ (d ++ 32 ∷ []) ≡ (y ++ d) ++ 32 ∷ []
one_more x y d same = ap (λ l. l ++ (d ++ 32 ∷ [])) same ∙ sym (append_assoc y d (32 ∷ []))

turned :
    (a b c d e f g h i : List ℕ)
    → ((((((a ++ 32 ∷ []) ++ ((b ++ 32 ∷ c) ++ 32 ∷ [])) ++ (d ++ 32 ∷ [])) ++ (e ++ 32 ∷ [])) ++ (f ++ 32 ∷ [])) ++ (g ++ 32 ∷ [])) ++ ((h ++ 32 ∷ i) ++ 10 ∷ [])
    ≡ ((((((((((((((((a ++ (32 ∷ [])) ++ b) ++ (32 ∷ [])) ++ c) ++ (32 ∷ [])) ++ d) ++ (32 ∷ [])) ++ e) ++ (32 ∷ [])) ++ f) ++ (32 ∷ [])) ++ g) ++ (32 ∷ [])) ++ h) ++ (32 ∷ [])) ++ i) ++ 10 ∷ []
turned a b c d e f g h i =
    ap (λ l. l ++ ((h ++ 32 ∷ i) ++ 10 ∷ [])) (one_more _ _ g (one_more _ _ f (one_more _ _ e (one_more _ _ d (two_more (a ++ 32 ∷ []) b c 32)))))
    ∙ two_more _ h i 10

-- a line feed ends the line that the fields make
joined_nine :
    (a b c d e f g h i : List ℕ)
    → ((((((a ++ 32 ∷ []) ++ ((b ++ 32 ∷ c) ++ 32 ∷ [])) ++ (d ++ 32 ∷ [])) ++ (e ++ 32 ∷ [])) ++ (f ++ 32 ∷ [])) ++ (g ++ 32 ∷ [])) ++ ((h ++ 32 ∷ i) ++ 10 ∷ [])
    ≡ join_with_byte 32 (a ∷ b ∷ c ∷ d ∷ e ∷ f ∷ g ∷ h ∷ i ∷ []) ++ 10 ∷ []
joined_nine a b c d e f g h i =
    turned a b c d e f g h i ∙ ap (λ l. l ++ 10 ∷ []) (put_in_turn a b c d e f g h i)

operand_is :
    (ring seg : ℕ) (at : AtFields) (direct : Option ℕ)
    → ring ≡ at.ring → seg ≡ at.seg → kept_operand ring seg at.word direct ≡ operand_text at direct
operand_is ring seg at (Some word) ring_is seg_is = refl
operand_is ring seg at None ring_is seg_is =
    ap (λ r. kept_place r 58 seg at.word) ring_is
    ∙ ap (λ s. kept_place at.ring 58 s at.word) seg_is
    ∙ simp append_assoc

final_is : (ring seg : ℕ) (end : Option FinalFields) → HasRingSegment ring seg end → kept_final ring seg end ≡ final_text end
final_is ring seg (Some end) front = operand_is ring seg end.at end.direct front.0 front.1
final_is ring seg None front = refl

front_place : (ring seg word : ℕ) → kept_place ring 32 seg word ≡ octal_text 1 ring ++ 32 ∷ segment_word_text seg word
front_place ring seg word = simp append_assoc

-- the kept parts of a step whose outcome is Next, with its other values, give its line
kept_is :
    (n address_ring address_seg : ℕ) (ppr : PprFields) (word : Option ℕ) (at : Option FinalFields) (after : RegsFields)
    → HasRingSegment address_ring address_seg at
    → kept_line_of_values n ppr.prr ppr.psr address_ring address_seg after.a after.q ppr.ic word at after.ind
    ≡ as_line (joined_by_spaces (fields_of_values n ppr word at Next after))
unfolding kept_line_of_values
kept_is n address_ring address_seg ppr word at after front =
    let place = front_place ppr.prr ppr.psr ppr.ic in
    let final = final_is address_ring address_seg at front in
    (λ i. ((((((with_space (decimal_text n) ++ with_space (place i)) ++ with_space (instruction_text word)) ++ with_space (final i)) ++ with_space (word_text after.a)) ++ with_space (word_text after.q)) ++ as_line (indicators_text after.ind ++ codes " next")))
    ∙ joined_nine (decimal_text n) (octal_text 1 ppr.prr) (segment_word_text ppr.psr ppr.ic) (instruction_text word) (final_text at) (word_text after.a) (word_text after.q) (indicators_text after.ind) (codes "next")

serves_line :
    (text : TraceText) (n : ℕ) (ppr : PprFields) (word : Option ℕ) (at : Option FinalFields) (outcome : Outcome) (after : RegsFields)
    → CanBeUsed text n ppr at outcome after
    → kept_line text ppr word at after ≡ as_line (joined_by_spaces (fields_of_values n ppr word at outcome after))
serves_line text n ppr word at outcome after serves =
    let number = serves.number in
    let n_is : text.number.next - 1 ≡ n = omega arith in
    (λ i. kept_line_of_values (n_is i) (serves.ring i) (serves.seg i) text.address.ring text.address.seg (serves.a i) (serves.q i) ppr.ic word at after.ind)
    ∙ kept_is n text.address.ring text.address.seg ppr word at after serves.front
    ∙ ap (λ o. as_line (joined_by_spaces (fields_of_values n ppr word at o after))) (sym serves.next)

pub step_adds :
    (answer : Put) (written written' : Option (List ℕ)) (taken taken' old new : List (List ℕ)) (text : TraceText) (n : ℕ) (told : StepRecord)
    → CanBeUsed text n told.ppr told.at told.outcome told.after
    → Adds answer old new (kept_line text told.ppr told.word told.at told.after ∷ []) written written' taken taken'
    → Adds answer old new (as_line (line_of n told) ∷ []) written written' taken taken'
unfolding line_of
step_adds answer written written' taken taken' old new text n told serves added =
    subst (λ l. Adds answer old new (l ∷ []) written written' taken taken')
    (serves_line text n told.ppr told.word told.at told.outcome told.after serves) added

pub shown_adds :
    (answer : Put) (written written' : Option (List ℕ)) (taken taken' old new : List (List ℕ)) (text : TraceText) (n : ℕ) (shown : Shown) (after : RegsFields)
    → CanBeUsed text n shown.ppr shown.at shown.outcome after
    → Adds answer old new (kept_line text shown.ppr shown.word shown.at after ∷ []) written written' taken taken'
    → Adds answer old new (as_line (shown_line n shown after) ∷ []) written written' taken taken'
unfolding shown_line
shown_adds answer written written' taken taken' old new text n shown after serves added =
    subst (λ l. Adds answer old new (l ∷ []) written written' taken taken')
    (serves_line text n shown.ppr shown.word shown.at shown.outcome after serves) added

pub ruleset adding = (step_adds, shown_adds)

pub shown_pushes :
    (done : Bool) (old new : List (List ℕ)) (text : TraceText) (n : ℕ) (shown : Shown) (after : RegsFields)
    → CanBeUsed text n shown.ppr shown.at shown.outcome after
    → OnTrue done (new ≡ old ++ kept_line text shown.ppr shown.word shown.at after ∷ [])
    → OnTrue done (new ≡ old ++ as_line (shown_line n shown after) ∷ [])
unfolding shown_line
shown_pushes done old new text n shown after serves pushed =
    subst (λ l. OnTrue done (new ≡ old ++ l ∷ []))
    (serves_line text n shown.ppr shown.word shown.at shown.outcome after serves) pushed

pub ruleset pushing = (shown_pushes)

-- the kept parts can be used if the number is short
pub set_serves :
    (short : Bool) (text : TraceText) (n : ℕ) (ppr : PprFields) (at : Option FinalFields) (outcome : Outcome) (after : RegsFields)
    → OnTrue short (text.number.next ≡ n + 1) → text.place.ring ≡ ppr.prr → text.place.seg ≡ ppr.psr
    → HasRingSegment text.address.ring text.address.seg at → text.a.of ≡ after.a → text.q.of ≡ after.q → outcome ≡ Next
    → OnTrue short (CanBeUsed text n ppr at outcome after)
set_serves true text n ppr at outcome after number ring seg front a q next = record {
  number = number;
  ring = ring;
  seg = seg;
  front = front;
  a = a;
  q = q;
  next = next;
}
set_serves false text n ppr at outcome after number ring seg front a q next = tt
