-- The words to which relocated words of components refer.
use Rattle.std.proofs.Common.{ℕ, zero, suc, ◌≡◌, ◌+◌, ◌-◌, ◌*◌, ◌/◌, ◌%◌, ◌^◌, ◌<◌, ◌≤◌, Bool, true, false, cond, ◌&&◌, eqb, ltb, leb, not, List, [], ◌∷◌, length, refl, sym, ap, ◌∙◌, arith, true≢false}
use Rattle.std.specs.Prelude.{slice_index}
use Rattle.std.specs.List.{list_all, Contains}
use Rattle.std.proofs.lemmas.Bool.{and_parts, eqb-true, ltb-true, leb-true, eq-eqb, lt-ltb, le-ltb, cond-true, cond-false}
use Rattle.obj36_parts.specs.Fields.{RelocFields}
use Rattle.obj36_parts.specs.PartsFields.{PartsFields}
use Rattle.obj36_parts.specs.Sections.{is_text_section, section_number}
use Rattle.obj36_parts.specs.Halves.{left, bits_3_to_17}
use Rattle.obj36_parts.specs.ObjectSegment.{is_newer, inner_statics, outer_statics, part_of, last_section_number, is_relocatable, is_valid_relocation, order_of, is_well_formed}
use Rattle.obj36_parts.specs.declared.section.Section.{Section}
use Rattle.obj36_parts.specs.declared.section.Section.TheVariants.{Text, Linkage, Symbol, Static}
use Rattle.obj36_parts.proofs.Formed.{is_formed}
use Rattle.m36_relocate.specs.Fields.{ShapeFields}
use Rattle.m36_relocate.specs.Layout.{shape_of, denoted, relocated_number}
use Rattle.m36_relocate.specs.Words.{is_relocation_in, word_index_of, words_in, biased_offset, relocated_negative, part_fits, one_fits, all_fit}
use Rattle.m36_bind.specs.Components.{PlacedComponentFields, relocation_of}
use Rattle.m36_bind.specs.Meaning.{IsRelocationAt, IsRelocatedWord}
use Rattle.m36_relocate.specs.declared.layout.Relocation.{Relocation}
use Rattle.m36_bind.proofs.WordParts.{overlap, cut_to, number_put, first_field, offset_field, right_field}
use Rattle.m36_bind.proofs.MovedWords.{at, word_by, word_kept, word_first, word_part, AreApart, AreOf, rising_apart, parts_apart}
use Rattle.m36_bind.proofs.Images.{IsWithin, number_names}

-- ---- the relocations of a word

-- the number by which the relocations of words are ordered
pub word_number : Bool → Bool → ℕ → ℕ
word_number false newer i = i
word_number true true i = 2 * 2 ^ 18 + i
word_number true false i = 2 ^ 18 + (8 + i)

word_numbered : (statics newer : Bool) (section : Section) (offset i text inner outer : ℕ) → is_relocatable text inner outer section offset ≡ true → (newer ≡ true → inner ≡ 0)
    → (newer ≡ false → outer ≡ 0) → cond statics (not (is_text_section section)) (is_text_section section) ≡ true
    → offset - cond statics (cond newer 0 8) 0 ≡ i → section_number section * 2 ^ 18 + offset ≡ word_number statics newer i
unfolding is_relocatable word_number
word_numbered false newer Text offset i text inner outer placed older none stands is = omega (arith, is)
word_numbered false newer Linkage offset i text inner outer placed older none stands is = absurd (true≢false (sym stands))
word_numbered false newer Symbol offset i text inner outer placed older none stands is = absurd (true≢false (sym stands))
word_numbered false newer Static offset i text inner outer placed older none stands is = absurd (true≢false (sym stands))
word_numbered true newer Text offset i text inner outer placed older none stands is = absurd (true≢false (sym stands))
word_numbered true newer Symbol offset i text inner outer placed older none stands is = absurd (true≢false (sym placed))
word_numbered true true Linkage offset i text inner outer placed older none stands is =
    let h = and_parts (leb 8 offset) (ltb offset (8 + inner)) placed in
    absurd (omega (arith, leb-true 8 offset h.0, ltb-true offset (8 + inner) h.1, older refl))
word_numbered true false Linkage offset i text inner outer placed older none stands is =
    let h = and_parts (leb 8 offset) (ltb offset (8 + inner)) placed in
    omega (arith, is, leb-true 8 offset h.0)
word_numbered true true Static offset i text inner outer placed older none stands is = omega (arith, is)
word_numbered true false Static offset i text inner outer placed older none stands is =
    absurd (omega (arith, ltb-true offset outer placed, none refl))

listed : {A : Type 0} (test : A → Bool) (xs : List A) (x : A) → list_all test xs ≡ true → Contains xs x → test x ≡ true
listed test [] x e among = absurd (omega (arith, among.1))
listed test (y ∷ ys) x e (zero, lt, same) = ap test (sym same) ∙ (and_parts (test y) (list_all test ys) e).0
listed test (y ∷ ys) x e (suc k, lt, same) = listed test ys x (and_parts (test y) (list_all test ys) e).1 (k, omega (arith, lt), same)

inner_none : (p : PartsFields) → is_newer p ≡ true → length (inner_statics p) ≡ 0
inner_none p e = ap (λ b. length (cond b [] p.statics)) e

outer_none : (p : PartsFields) → is_newer p ≡ false → length (outer_statics p) ≡ 0
outer_none p e = ap (λ b. length (cond b p.statics [])) e

module _ (frame : ShapeFields) (p : PlacedComponentFields) (formed : is_well_formed p.parts ≡ true) (shaped : p.shape ≡ shape_of p.parts) (statics : Bool) (i : ℕ) where
  pub of_word : AreOf (at (relocation_of frame p) statics i) (word_number statics p.shape.newer i) p.parts.relocations
  unfolding at is_valid_relocation order_of
  of_word r among =
      let parts = p.parts in
      let version = parts.version in
      let inner = length (inner_statics parts) in
      let outer = length (outer_statics parts) in
      let fine = listed (is_valid_relocation (length parts.text) inner outer version) parts.relocations r (is_formed parts formed).relocations among in
      let c = and_parts (is_relocatable (length parts.text) inner outer r.section r.offset && ltb r.offset (2 ^ 18) && leb r.part 2) (leb (section_number r.target) (last_section_number version)) fine in
      let b = and_parts (is_relocatable (length parts.text) inner outer r.section r.offset && ltb r.offset (2 ^ 18)) (leb r.part 2) c.0 in
      let a = and_parts (is_relocatable (length parts.text) inner outer r.section r.offset) (ltb r.offset (2 ^ 18)) b.0 in (
        leb-true r.part 2 b.1,
        λ here.
            let h = and_parts (is_relocation_in statics r) (eqb (word_index_of p.shape statics r) i) here in
            let newer : p.shape.newer ≡ is_newer parts = ap (λ (s : ShapeFields). s.newer) shaped in
            let number : section_number r.section * 2 ^ 18 + r.offset ≡ word_number statics p.shape.newer i =
            word_numbered statics p.shape.newer r.section r.offset i (length parts.text) inner outer a.0 (λ e. inner_none parts (sym newer ∙ e)) (λ e. outer_none parts (sym newer ∙ e))
            h.0 (eqb-true (word_index_of p.shape statics r) i h.1)
            in
            omega (arith, number),
      )

  apart : AreApart (at (relocation_of frame p) statics i) p.parts.relocations
  apart = rising_apart (at (relocation_of frame p) statics i) (word_number statics p.shape.newer i) 0 3 p.parts.relocations (is_formed p.parts formed).rising of_word

  here_at : (r : RelocFields) → IsRelocationAt p statics i r → at (relocation_of frame p) statics i r ≡ true
  unfolding at
  here_at r moves = (λ j. moves.stands j && eqb (moves.place j) i) ∙ eq-eqb i i refl

  pub part_moved : (w : ℕ) (r : RelocFields) → w < 2 ^ 36 → IsRelocationAt p statics i r
      → part_of r.part (word_by (relocation_of frame p) statics i p.parts.relocations w) ≡ cut_to r.part (number_put (relocation_of frame p) r.target r.part (part_of r.part w))
  part_moved w r small moves =
      word_part (relocation_of frame p) statics i p.parts.relocations w r small apart (of_word r moves.among).0 moves.among (here_at r moves)

  pub part_kept : (w k : ℕ) → w < 2 ^ 36 → k ≤ 2 → ((r : RelocFields) → IsRelocationAt p statics i r → overlap r.part k ≡ false)
      → part_of k (word_by (relocation_of frame p) statics i p.parts.relocations w) ≡ part_of k w
  unfolding at
  part_kept w k small part none =
      word_kept (relocation_of frame p) statics i p.parts.relocations k w small part apart
      (λ r among here.
      let h = and_parts (is_relocation_in statics r) (eqb (word_index_of p.shape statics r) i) here in
      none r (record { among = among; stands = h.0; place = eqb-true (word_index_of p.shape statics r) i h.1 }))

  pub first_kept : (w : ℕ) → w < 2 ^ 36 → ((r : RelocFields) → IsRelocationAt p statics i r → r.part ≡ 0 → ⊥)
      → left (word_by (relocation_of frame p) statics i p.parts.relocations w) / 2 ^ 15 ≡ left w / 2 ^ 15
  unfolding at
  first_kept w small none =
      word_first (relocation_of frame p) statics i p.parts.relocations w small apart
      (λ r among here.
      let h = and_parts (is_relocation_in statics r) (eqb (word_index_of p.shape statics r) i) here in
      none r (record { among = among; stands = h.0; place = eqb-true (word_index_of p.shape statics r) i h.1 }))

-- ---- the parts that fit

fits_at : (m : Relocation) (statics : Bool) (words : List ℕ) (rs : List RelocFields) (r : RelocFields) → all_fit m statics words rs ≡ true → Contains rs r → one_fits m statics words r ≡ true
unfolding all_fit
fits_at m statics words [] r e among = absurd (omega (arith, among.1))
fits_at m statics words (x ∷ rs) r e (zero, lt, same) = ap (one_fits m statics words) (sym same) ∙ first (one_fits m statics words x) e
  where
    first : (b : Bool) → cond b (all_fit m statics words rs) false ≡ true → b ≡ true
    first true e = refl
    first false e = e
fits_at m statics words (x ∷ rs) r e (suc k, lt, same) = fits_at m statics words rs r (later (one_fits m statics words x) e) (k, omega (arith, lt), same)
  where
    later : (b : Bool) → cond b (all_fit m statics words rs) false ≡ true → all_fit m statics words rs ≡ true
    later true e = e
    later false e = absurd (true≢false (sym e))

pub fits_of : (m : Relocation) (statics : Bool) (words : List ℕ) (rs : List RelocFields) (r : RelocFields) (i : ℕ) → all_fit m statics words rs ≡ true → Contains rs r
    → is_relocation_in statics r ≡ true → word_index_of m.shape statics r ≡ i → part_fits m r (slice_index words i) ≡ true
unfolding one_fits
fits_of m statics words rs r i e among stands place =
    ap (λ j. part_fits m r (slice_index words j)) (sym place)
    ∙ sym (ap (λ b. cond b (part_fits m r (slice_index words (word_index_of m.shape statics r))) true) stands)
    ∙ fits_at m statics words rs r e among

low_fits : (n v raised number : ℕ) → n ≡ 2 → cond (eqb n 0) true (cond (eqb n 1) true (ltb raised (2 ^ 15 + 2 ^ 14))) ≡ true → raised ≡ 2 ^ 15 + number → number < 2 ^ 14
low_fits n v raised number two fits is =
    let lt : ltb raised (2 ^ 15 + 2 ^ 14) ≡ true = ap (λ k. cond (eqb k 0) true (cond (eqb k 1) true (ltb raised (2 ^ 15 + 2 ^ 14)))) (sym two) ∙ fits in
    omega (arith, ltb-true raised (2 ^ 15 + 2 ^ 14) lt, is)

number_in : (m : Relocation) (target : Section) (n w : ℕ) → n ≤ 2 → (n ≡ 2 → part_of 2 w < 2 ^ 14)
    → cond (eqb n 0) true (cond (eqb n 1) true (ltb (biased_offset m target (bits_3_to_17 w)) (2 ^ 15 + 2 ^ 14))) ≡ true
    → cut_to n (number_put m target n (part_of n w)) ≡ relocated_number m target (part_of n w) % 2 ^ 18
unfolding cut_to number_put part_of biased_offset
number_in m target zero w few low fits = refl
number_in m target (suc zero) w few low fits = refl
number_in m target (suc (suc zero)) w few low fits =
    let v : ℕ = bits_3_to_17 w in
    let number : ℕ = relocated_number m target v in
    let raised : cond (ltb v (2 ^ 14)) (2 ^ 15 + number) (relocated_negative m.bases target v) ≡ 2 ^ 15 + number =
    cond-true (ltb v (2 ^ 14)) (2 ^ 15 + number) (relocated_negative m.bases target v) (lt-ltb v (2 ^ 14) (low refl))
    in
    let lt : number < 2 ^ 14 = low_fits 2 v (cond (ltb v (2 ^ 14)) (2 ^ 15 + number) (relocated_negative m.bases target v)) number refl fits raised in
    ap (λ n. n % 2 ^ 15) raised ∙ (let k : (2 ^ 15 + number) % 2 ^ 15 ≡ number % 2 ^ 18 = omega (arith, lt) in k)
number_in m target (suc (suc (suc n))) w few low fits = absurd (omega (arith, few))

below_in : (m : Relocation) (target : Section) (w : ℕ) → 2 ^ 14 ≤ part_of 2 w → cut_to 2 (number_put m target 2 (part_of 2 w)) ≡ relocated_negative m.bases target (part_of 2 w) % 2 ^ 15
unfolding cut_to number_put part_of biased_offset
below_in m target w high =
    let v : ℕ = bits_3_to_17 w in
    ap (λ n. n % 2 ^ 15) (cond-false (ltb v (2 ^ 14)) (2 ^ 15 + relocated_number m target v) (relocated_negative m.bases target v) (le-ltb v (2 ^ 14) high))

pub word_means : (bound : PartsFields) (p : PlacedComponentFields) (statics : Bool) (i w : ℕ) → IsWithin bound p → is_well_formed p.parts ≡ true → p.shape ≡ shape_of p.parts
    → all_fit (relocation_of (shape_of bound) p) statics (words_in statics p.parts) p.parts.relocations ≡ true → w ≡ slice_index (words_in statics p.parts) i → w < 2 ^ 36
    → IsRelocatedWord bound p statics i w (word_by (relocation_of (shape_of bound) p) statics i p.parts.relocations w)
unfolding part_fits
word_means bound p statics i w within formed shaped fits is small =
    let frame = shape_of bound in
    let m = relocation_of frame p in
    let rs = p.parts.relocations in
    let new = word_by m statics i rs w in
    let moved : (r : RelocFields) → IsRelocationAt p statics i r → part_of r.part new ≡ cut_to r.part (number_put m r.target r.part (part_of r.part w)) =
    λ r moves. part_moved frame p formed shaped statics i w r small moves
    in
    record {
      names = λ r moves low there.
          let number : part_of r.part new ≡ relocated_number m r.target (part_of r.part w) % 2 ^ 18 =
          moved r moves
          ∙ number_in m r.target r.part w (of_word frame p formed shaped statics i r moves.among).0 low
          (ap (λ x. part_fits m r x) is ∙ fits_of m statics (words_in statics p.parts) rs r i fits moves.among moves.stands moves.place)
          in
          ap (λ n. denoted frame r.target n) number ∙ number_names bound p within r.target (part_of r.part w) there;
      below = λ r moves two high.
          ap (λ n. part_of n new) (sym two) ∙ moved r moves ∙ ap (λ n. cut_to n (number_put m r.target n (part_of n w))) two ∙ below_in m r.target w high;
      first_bits = λ none.
          first_field new ∙ ap (λ n. n % 2 ^ 3) (first_kept frame p formed shaped statics i w small none) ∙ sym (first_field w);
      offset_bits = λ others.
          offset_field new
          ∙ part_kept frame p formed shaped statics i w 2 small (omega arith) (λ r moves. ap (λ n. overlap n 2) (others r moves))
          ∙ sym (offset_field w);
      right_bits = λ none.
          right_field new
          ∙ part_kept frame p formed shaped statics i w 1 small (omega arith)
          (λ r moves. parts_apart r.part 1 (none r moves) (λ both. none r moves (omega (arith, both))))
          ∙ sym (right_field w);
    }
