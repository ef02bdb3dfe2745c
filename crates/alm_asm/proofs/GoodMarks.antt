-- The relocations of lines are in rising order, and each is of a word that a line places.
use Rattle.std.proofs.Common.{◌≡◌, ℕ, ◌+◌, ◌*◌, ◌%◌, ◌^◌, ◌<◌, ◌≤◌, Bool, true, false, cond, not, ◌&&◌, ltb, leb, eqb, List, [], ◌∷◌, ◌++◌, Option, Some, None, ◌⊎◌, inl, inr, refl, sym, ap, ◌∙◌, subst, true≢false, arith}
use Rattle.std.specs.List.{list_all}
use Rattle.std.proofs.lemmas.Bool.{and_parts, and_from, lt-ltb, le-leb, eqb-true, ne_eqb}
use Rattle.std.proofs.lemmas.List.{append-nil}
use Rattle.std.proofs.lemmas.List.Folds.{list_all-append}
use Rattle.alm_tokens.specs.declared.span.Span.{Span}
use Rattle.alm_parse.specs.declared.args.Arg.{Arg}
use Rattle.alm_parse.specs.declared.args.Arg.TheVariants as arg
use Rattle.alm_parse.specs.declared.line.Line36.{Line36}
use Rattle.obj36_parts.specs.declared.section.Section.{Section}
use Rattle.obj36_parts.specs.declared.section.Section.TheVariants.{Text, Linkage, Symbol, Static}
use Rattle.obj36_parts.specs.Fields.{RelocFields}
use Rattle.obj36_parts.specs.Sections.{section_number, same_section}
use Rattle.obj36_parts.specs.ObjectSegment.{version_of, last_section_number, is_relocatable, is_valid_relocation, order_of, are_rising}
use Rattle.alm_lines.specs.Sums.{kind_of}
use Rattle.alm_lines.specs.Arguments.{first_arg, second_arg, terms_in}
use Rattle.alm_lines.specs.Spots.{count_in, offset_in_section, place, plus_words_in, next_spot, next_line_spot, end_of}
use Rattle.alm_lines.specs.Expressions.{sum_of}
use Rattle.alm_asm.specs.Relocations.{relocation_of_part, operand_part, operand_kind, operand_relocation, with_line_relocations, relocations_after, relocations_from}
use Rattle.alm_asm.specs.Laws.{can_have_words}
use Rattle.alm_lines.specs.declared.sum.Sum.{Sum}
use Rattle.alm_lines.specs.declared.sum.Kind.{Kind}
use Rattle.alm_lines.specs.declared.sum.Kind.TheVariants.{Absolute, Moved, Inexpressible}
use Rattle.alm_lines.specs.SpotFields.{LocationCounter}
use Rattle.alm_asm.specs.declared.tables.Tables.{Tables}
use Rattle.alm_parse.specs.declared.deed.LineEffect.{LineEffect}
use Rattle.alm_parse.specs.declared.deed.LineEffect.TheVariants as deed
use Rattle.alm_asm.specs.LineRefusals.{is_static}
use Rattle.alm_asm.proofs.Fitting.{AllFit, StandAt, others_stand, no_static, sum_fits, good_kind, kind_good}
use Rattle.alm_asm.proofs.PlaceLaws.{grown_self, moved_grows, grows_to_end}

-- ---- the order of relocations

pub least_after : ℕ → List RelocFields → ℕ
least_after least [] = least
least_after least (r ∷ rs) = least_after (order_of r + 1) rs

pub barred_after : ℕ → List RelocFields → ℕ
barred_after barred [] = barred
barred_after barred (r ∷ rs) = barred_after (cond (eqb r.part 0) (order_of r + 2) barred) rs

rising_pushed : (least barred : ℕ) (rs : List RelocFields) (r : RelocFields) → are_rising least barred rs ≡ true
    → leb (least_after least rs) (order_of r) ≡ true → eqb (order_of r) (barred_after barred rs) ≡ false → are_rising least barred (rs ++ r ∷ []) ≡ true
unfolding are_rising least_after barred_after
rising_pushed least barred [] r e l b =
    and_from (leb least (order_of r) && not (eqb (order_of r) barred)) true (and_from (leb least (order_of r)) (not (eqb (order_of r) barred)) l (ap not b)) refl
rising_pushed least barred (x ∷ rs) r e l b =
    let parts = and_parts (leb least (order_of x) && not (eqb (order_of x) barred)) (are_rising (order_of x + 1) (cond (eqb x.part 0) (order_of x + 2) barred) rs) e in
    and_from (leb least (order_of x) && not (eqb (order_of x) barred)) (are_rising (order_of x + 1) (cond (eqb x.part 0) (order_of x + 2) barred) (rs ++ r ∷ [])) parts.0
    (rising_pushed (order_of x + 1) (cond (eqb x.part 0) (order_of x + 2) barred) rs r parts.1 l b)

least_pushed : (least : ℕ) (rs : List RelocFields) (r : RelocFields) → least_after least (rs ++ r ∷ []) ≡ order_of r + 1
unfolding least_after
least_pushed least [] r = refl
least_pushed least (x ∷ rs) r = least_pushed (order_of x + 1) rs r

barred_pushed : (barred : ℕ) (rs : List RelocFields) (r : RelocFields) → barred_after barred (rs ++ r ∷ []) ≡ cond (eqb r.part 0) (order_of r + 2) (barred_after barred rs)
unfolding barred_after
barred_pushed barred [] r = refl
barred_pushed barred (x ∷ rs) r = barred_pushed (cond (eqb x.part 0) (order_of x + 2) barred) rs r

-- The relocations are in order, and each is of a word before word k of the object's places.
pub record InOrder (k : ℕ) (marks : List RelocFields) : Type 0 where
  pub rising : are_rising 0 3 marks ≡ true
  pub least : least_after 0 marks ≤ k * 4
  pub barred : (barred_after 3 marks < k * 4) ⊎ (barred_after 3 marks ≡ 3)

pub none_in_order : InOrder 0 []
unfolding are_rising least_after barred_after
none_in_order = record { rising = refl; least = omega arith; barred = inr refl }

pub further : (k n : ℕ) (marks : List RelocFields) → k ≤ n → InOrder k marks → InOrder n marks
further k n marks le at = record {
  rising = at.rising;
  least = (let h = at.least in omega arith);
  barred = by at.barred;
}
  where
    by : ((barred_after 3 marks < k * 4) ⊎ (barred_after 3 marks ≡ 3)) → (barred_after 3 marks < n * 4) ⊎ (barred_after 3 marks ≡ 3)
    by (inl h) = inl (omega arith)
    by (inr h) = inr h

not_barred : (k part order barred : ℕ) → order ≡ k * 4 + part → part ≤ 2 → (barred < k * 4) ⊎ (barred ≡ 3) → eqb order barred ≡ false
not_barred k part order barred o p (inl h) = ne_eqb order barred (λ e. omega arith)
not_barred k part order barred o p (inr h) = ne_eqb order barred (λ e. omega arith)

barred_next : (k part order barred : ℕ) (b : Bool) → order ≡ k * 4 + part → part ≤ 2 → eqb part 0 ≡ b → (barred < k * 4) ⊎ (barred ≡ 3)
    → (cond b (order + 2) barred < (k + 1) * 4) ⊎ (cond b (order + 2) barred ≡ 3)
barred_next k part order barred true o p e h = let z : part ≡ 0 = eqb-true part 0 e in inl (omega arith)
barred_next k part order barred false o p e (inl h) = inl (omega arith)
barred_next k part order barred false o p e (inr h) = inr h

-- one of word k
pub pushed : (k : ℕ) (marks : List RelocFields) (r : RelocFields) → order_of r ≡ k * 4 + r.part → r.part ≤ 2 → InOrder k marks → InOrder (k + 1) (marks ++ r ∷ [])
pushed k marks r o p at = record {
  rising = rising_pushed 0 3 marks r at.rising (le-leb (least_after 0 marks) (order_of r) (let h = at.least in omega arith)) (not_barred k r.part (order_of r) (barred_after 3 marks) o p at.barred);
  least = (let e = least_pushed 0 marks r in omega arith);
  barred = subst (λ (n : ℕ). (n < (k + 1) * 4) ⊎ (n ≡ 3)) (sym (barred_pushed 3 marks r)) (barred_next k r.part (order_of r) (barred_after 3 marks) (eqb r.part 0) o p refl at.barred);
}

-- parts 0 and 1 of word k
pub pair_pushed : (k : ℕ) (marks : List RelocFields) (r s : RelocFields) → order_of r ≡ k * 4 → r.part ≡ 0 → order_of s ≡ k * 4 + 1 → s.part ≡ 1
    → InOrder k marks → InOrder (k + 1) ((marks ++ r ∷ []) ++ s ∷ [])
pair_pushed k marks r s o p q t at =
    let first : order_of r ≡ k * 4 + r.part = omega arith in
    let one = pushed k marks r first (omega arith) at in
    let least = least_pushed 0 marks r in
    let barred : barred_after 3 (marks ++ r ∷ []) ≡ k * 4 + 2 = barred_pushed 3 marks r ∙ ap (λ n. cond (eqb n 0) (order_of r + 2) (barred_after 3 marks)) p ∙ ap (λ n. n + 2) o in
    let other = ne_eqb (order_of s) (barred_after 3 (marks ++ r ∷ [])) (λ e. omega arith) in
    let last = least_pushed 0 (marks ++ r ∷ []) s in
    let kept : barred_after 3 ((marks ++ r ∷ []) ++ s ∷ []) ≡ k * 4 + 2 = barred_pushed 3 (marks ++ r ∷ []) s ∙ ap (λ n. cond (eqb n 0) (order_of s + 2) (barred_after 3 (marks ++ r ∷ []))) t ∙ barred in
    record {
      rising = rising_pushed 0 3 (marks ++ r ∷ []) s one.rising (le-leb (least_after 0 (marks ++ r ∷ [])) (order_of s) (omega arith)) other;
      least = omega arith;
      barred = inl (omega arith);
    }

-- ---- the places of relocations

abbrev pub limit_in : Section → ℕ → ℕ → ℕ → ℕ
limit_in Text text inner outer = text
limit_in Linkage text inner outer = inner
limit_in Symbol text inner outer = 0
limit_in Static text inner outer = outer

place_good : (text inner outer : ℕ) (section : Section) (spot : LocationCounter) → count_in section spot < limit_in section text inner outer → limit_in section text inner outer + 8 < 2 ^ 18
    → is_relocatable text inner outer section (offset_in_section section spot % 2 ^ 18) ≡ true
unfolding is_relocatable
place_good text inner outer Text spot h l = lt-ltb (spot.text % 2 ^ 18) text (omega arith)
place_good text inner outer Linkage spot h l =
    and_from (leb 8 ((spot.inner + 8) % 2 ^ 18)) (ltb ((spot.inner + 8) % 2 ^ 18) (8 + inner)) (le-leb 8 ((spot.inner + 8) % 2 ^ 18) (omega arith)) (lt-ltb ((spot.inner + 8) % 2 ^ 18) (8 + inner) (omega arith))
place_good text inner outer Symbol spot h l = absurd (omega arith)
place_good text inner outer Static spot h l = lt-ltb (spot.outer % 2 ^ 18) outer (omega arith)

place_small : (text inner outer : ℕ) (section : Section) (spot : LocationCounter) → count_in section spot < limit_in section text inner outer → limit_in section text inner outer + 8 < 2 ^ 18
    → offset_in_section section spot % 2 ^ 18 ≡ offset_in_section section spot
place_small text inner outer Text spot h l = omega arith
place_small text inner outer Linkage spot h l = omega arith
place_small text inner outer Symbol spot h l = absurd (omega arith)
place_small text inner outer Static spot h l = omega arith

target_good : (outer : Bool) (target : Section) → good_kind outer (Moved target) ≡ true → leb (section_number target) (last_section_number (version_of outer)) ≡ true
target_good true Text e = refl
target_good true Linkage e = refl
target_good true Symbol e = absurd (true≢false (sym e))
target_good true Static e = refl
target_good false Text e = refl
target_good false Linkage e = refl
target_good false Symbol e = absurd (true≢false (sym e))
target_good false Static e = absurd (true≢false (sym e))

-- The bounds for places, and whether static words have a section of their own.
pub record Room : Type 0 where
  pub text : ℕ
  pub inner : ℕ
  pub outer : ℕ
  pub newer : Bool

abbrev pub is_good : Room → RelocFields → Bool
is_good room r = is_valid_relocation room.text room.inner room.outer (version_of room.newer) r

abbrev pub limit : Section → Room → ℕ
limit section room = limit_in section room.text room.inner room.outer

-- the number of the word at a place, among all places of an object
abbrev pub word_number : Section → LocationCounter → ℕ
word_number section spot = section_number section * 2 ^ 18 + offset_in_section section spot

-- the relocations so far are good, and each is of a word before this place
pub record Good (room : Room) (k : ℕ) (marks : List RelocFields) : Type 0 where
  pub order : InOrder k marks
  pub all : list_all (is_good room) marks ≡ true

pub further_good : (room : Room) (k n : ℕ) (marks : List RelocFields) → k ≤ n → Good room k marks → Good room n marks
further_good room k n marks le at = record { order = further k n marks le at.order; all = at.all }

one_more : (room : Room) (marks : List RelocFields) (r : RelocFields) → list_all (is_good room) marks ≡ true → is_good room r ≡ true → list_all (is_good room) (marks ++ r ∷ []) ≡ true
one_more room marks r all good =
    list_all-append (is_good room) marks (r ∷ []) ∙ and_from (list_all (is_good room) marks) (list_all (is_good room) (r ∷ [])) all (and_from (is_good room r) true good refl)

abbrev reloc : LocationCounter → ℕ → Section → RelocFields
reloc spot part target = record { section = spot.section; offset = place spot % 2 ^ 18; part = part; target = target }

reloc_good : (room : Room) (spot : LocationCounter) (part : ℕ) (target : Section) → count_in spot.section spot < limit spot.section room → limit spot.section room + 8 < 2 ^ 18 → part ≤ 2
    → good_kind room.newer (Moved target) ≡ true → is_good room (reloc spot part target) ≡ true
unfolding is_valid_relocation
reloc_good room spot part target h l p g =
    let at = offset_in_section spot.section spot % 2 ^ 18 in
    let here = place_good room.text room.inner room.outer spot.section spot h l in
    let small = lt-ltb (offset_in_section spot.section spot % 2 ^ 18) (2 ^ 18) (omega arith) in
    let well = le-leb part 2 p in
    let fits = target_good room.newer target g in
    and_from ((is_relocatable room.text room.inner room.outer spot.section (offset_in_section spot.section spot % 2 ^ 18) && ltb (offset_in_section spot.section spot % 2 ^ 18) (2 ^ 18)) && leb part 2) (leb (section_number target) (last_section_number (version_of room.newer)))
    (and_from (is_relocatable room.text room.inner room.outer spot.section (offset_in_section spot.section spot % 2 ^ 18) && ltb (offset_in_section spot.section spot % 2 ^ 18) (2 ^ 18)) (leb part 2)
    (and_from (is_relocatable room.text room.inner room.outer spot.section (offset_in_section spot.section spot % 2 ^ 18)) (ltb (offset_in_section spot.section spot % 2 ^ 18) (2 ^ 18)) here small) well) fits

reloc_order : (room : Room) (spot : LocationCounter) (part : ℕ) (target : Section) → count_in spot.section spot < limit spot.section room → limit spot.section room + 8 < 2 ^ 18
    → order_of (reloc spot part target) ≡ word_number spot.section spot * 4 + part
unfolding order_of
reloc_order room spot part target h l =
    ap (λ n. (section_number spot.section * 2 ^ 18 + n) * 4 + part) (place_small room.text room.inner room.outer spot.section spot h l)

-- a part of the word at this place
pub mark_good : (room : Room) (spot : LocationCounter) (part : ℕ) (kind : Kind) (marks : List RelocFields) → count_in spot.section spot < limit spot.section room → limit spot.section room + 8 < 2 ^ 18
    → part ≤ 2 → good_kind room.newer kind ≡ true → Good room (word_number spot.section spot) marks → Good room (word_number spot.section spot + 1) (marks ++ relocation_of_part spot part kind)
mark_good room spot part Absolute marks h l p g at =
    subst (λ (m : List RelocFields). Good room (word_number spot.section spot + 1) m) (sym (append-nil marks)) (further_good room (word_number spot.section spot) (word_number spot.section spot + 1) marks (omega arith) at)
mark_good room spot part Inexpressible marks h l p g at =
    subst (λ (m : List RelocFields). Good room (word_number spot.section spot + 1) m) (sym (append-nil marks)) (further_good room (word_number spot.section spot) (word_number spot.section spot + 1) marks (omega arith) at)
mark_good room spot part (Moved target) marks h l p g at = record {
  order = pushed (word_number spot.section spot) marks (reloc spot part target) (reloc_order room spot part target h l) p at.order;
  all = one_more room marks (reloc spot part target) at.all (reloc_good room spot part target h l p g);
}

-- both halves of the word at this place
pub halves_good : (room : Room) (spot : LocationCounter) (left right : Kind) (marks : List RelocFields) → count_in spot.section spot < limit spot.section room → limit spot.section room + 8 < 2 ^ 18
    → good_kind room.newer left ≡ true → good_kind room.newer right ≡ true → Good room (word_number spot.section spot) marks
    → Good room (word_number spot.section spot + 1) ((marks ++ relocation_of_part spot 0 left) ++ relocation_of_part spot 1 right)
halves_good room spot Absolute right marks h l g q at =
    mark_good room spot 1 right (marks ++ []) h l (omega arith) q (subst (λ (m : List RelocFields). Good room (word_number spot.section spot) m) (sym (append-nil marks)) at)
halves_good room spot Inexpressible right marks h l g q at =
    mark_good room spot 1 right (marks ++ []) h l (omega arith) q (subst (λ (m : List RelocFields). Good room (word_number spot.section spot) m) (sym (append-nil marks)) at)
halves_good room spot (Moved target) Absolute marks h l g q at =
    subst (λ (m : List RelocFields). Good room (word_number spot.section spot + 1) m) (sym (append-nil (marks ++ reloc spot 0 target ∷ []))) (mark_good room spot 0 (Moved target) marks h l (omega arith) g at)
halves_good room spot (Moved target) Inexpressible marks h l g q at =
    subst (λ (m : List RelocFields). Good room (word_number spot.section spot + 1) m) (sym (append-nil (marks ++ reloc spot 0 target ∷ []))) (mark_good room spot 0 (Moved target) marks h l (omega arith) g at)
halves_good room spot (Moved target) (Moved other) marks h l g q at = record {
  order = pair_pushed (word_number spot.section spot) marks (reloc spot 0 target) (reloc spot 1 other) (reloc_order room spot 0 target h l ∙ add_zero (word_number spot.section spot * 4)) refl (reloc_order room spot 1 other h l) refl at.order;
  all = one_more room (marks ++ reloc spot 0 target ∷ []) (reloc spot 1 other) (one_more room marks (reloc spot 0 target) at.all (reloc_good room spot 0 target h l (omega arith) g)) (reloc_good room spot 1 other h l (omega arith) q);
}
  where
    add_zero : (n : ℕ) → n + 0 ≡ n
    add_zero n = omega arith

-- ---- the relocations of lines

numbers_grow : (to : Section) (a b : LocationCounter) → count_in to a ≤ count_in to b → word_number to a ≤ word_number to b
numbers_grow Text a b h = omega arith
numbers_grow Linkage a b h = omega arith
numbers_grow Symbol a b h = omega arith
numbers_grow Static a b h = omega arith

numbers_next : (to : Section) (a b : LocationCounter) → count_in to b ≡ count_in to a + 1 → word_number to a + 1 ≤ word_number to b
numbers_next Text a b h = omega arith
numbers_next Linkage a b h = omega arith
numbers_next Symbol a b h = absurd (omega arith)
numbers_next Static a b h = omega arith

same_is_section : (a b : Section) → same_section a b ≡ true → a ≡ b
same_is_section Text Text e = refl
same_is_section Text Linkage e = absurd (true≢false (sym e))
same_is_section Text Symbol e = absurd (true≢false (sym e))
same_is_section Text Static e = absurd (true≢false (sym e))
same_is_section Linkage Text e = absurd (true≢false (sym e))
same_is_section Linkage Linkage e = refl
same_is_section Linkage Symbol e = absurd (true≢false (sym e))
same_is_section Linkage Static e = absurd (true≢false (sym e))
same_is_section Symbol Text e = absurd (true≢false (sym e))
same_is_section Symbol Linkage e = absurd (true≢false (sym e))
same_is_section Symbol Symbol e = refl
same_is_section Symbol Static e = absurd (true≢false (sym e))
same_is_section Static Text e = absurd (true≢false (sym e))
same_is_section Static Linkage e = absurd (true≢false (sym e))
same_is_section Static Symbol e = absurd (true≢false (sym e))
same_is_section Static Static e = refl

part_small : (pr : Option ℕ) (segment : Option Span) → operand_part pr segment ≤ 2
part_small pr (Some segment) = omega arith
part_small (Some pr) None = omega arith
part_small None None = omega arith

operand_kind_good : (outer : Bool) (segment : Option Span) (sum : Sum) → good_kind outer (kind_of sum) ≡ true → good_kind outer (operand_kind segment sum) ≡ true
operand_kind_good outer (Some segment) sum g = refl
operand_kind_good outer None sum g = g

-- the word at this place has been passed
passed : (room : Room) (spot : LocationCounter) (marks : List RelocFields) → Good room (word_number spot.section spot) marks → Good room (word_number spot.section spot + 1) (marks ++ [])
passed room spot marks at =
    subst (λ (m : List RelocFields). Good room (word_number spot.section spot + 1) m) (sym (append-nil marks)) (further_good room (word_number spot.section spot) (word_number spot.section spot + 1) marks (omega arith) at)

operand_good : (room : Room) (text : List ℕ) (symbols : List (List ℕ × Sum)) (spot : LocationCounter) (marks : List RelocFields) (arguments : List Arg) → AllFit room.newer symbols
    → (room.newer ≡ false → is_static spot.section ≡ false) → count_in spot.section spot < limit spot.section room → limit spot.section room + 8 < 2 ^ 18
    → Good room (word_number spot.section spot) marks → Good room (word_number spot.section spot + 1) (marks ++ operand_relocation text symbols spot (first_arg arguments))
operand_good room text symbols spot marks [] all none h l at = passed room spot marks at
operand_good room text symbols spot marks (arg.Symbol span ∷ more) all none h l at = passed room spot marks at
operand_good room text symbols spot marks (arg.Number word ∷ more) all none h l at = passed room spot marks at
operand_good room text symbols spot marks (arg.Chars words ∷ more) all none h l at = passed room spot marks at
operand_good room text symbols spot marks (arg.Plain terms ∷ more) all none h l at = passed room spot marks at
operand_good room text symbols spot marks (arg.Operand pr segment entry terms tag ∷ more) all none h l at =
    mark_good room spot (operand_part pr segment) (operand_kind segment (sum_of text symbols spot terms)) marks h l (part_small pr segment)
    (operand_kind_good room.newer segment (sum_of text symbols spot terms) (kind_good room.newer (sum_of text symbols spot terms) (sum_fits room.newer text symbols spot terms all none))) at

-- a line of this section
own_line : (room : Room) (text : List ℕ) (tables : Tables) (spot : LocationCounter) (marks : List RelocFields) (arguments : List Arg) (d : LineEffect) → AllFit room.newer tables.symbols
    → (room.newer ≡ false → is_static spot.section ≡ false) → can_have_words spot.section ≡ true → count_in spot.section (next_spot text d arguments spot) ≤ limit spot.section room → limit spot.section room + 8 < 2 ^ 18
    → Good room (word_number spot.section spot) marks → Good room (word_number spot.section (next_spot text d arguments spot)) (with_line_relocations text tables.symbols spot marks arguments d)
own_line room text tables spot marks arguments deed.Nothing all none p h l at = at
own_line room text tables spot marks arguments (deed.Instruction code bit27) all none p h l at =
    let e = grown_self spot.section spot 1 p in
    let fits : count_in spot.section spot < limit spot.section room = omega arith in
    further_good room (word_number spot.section spot + 1) (word_number spot.section (plus_words_in spot.section spot 1)) (marks ++ operand_relocation text tables.symbols spot (first_arg arguments)) (numbers_next spot.section spot (plus_words_in spot.section spot 1) e)
    (operand_good room text tables.symbols spot marks arguments all none fits l at)
own_line room text tables spot marks arguments deed.Entry all none p h l at = at
own_line room text tables spot marks arguments deed.Segdef all none p h l at = at
own_line room text tables spot marks arguments deed.Equ all none p h l at = at
own_line room text tables spot marks arguments deed.Use all none p h l at =
    further_good room (word_number spot.section spot) (word_number spot.section (next_spot text deed.Use arguments spot)) marks
    (numbers_grow spot.section spot (next_spot text deed.Use arguments spot) (moved_grows spot.section text tables spot arguments deed.Use p)) at
own_line room text tables spot marks arguments deed.Words all none p h l at =
    further_good room (word_number spot.section spot) (word_number spot.section (next_spot text deed.Words arguments spot)) marks
    (numbers_grow spot.section spot (next_spot text deed.Words arguments spot) (moved_grows spot.section text tables spot arguments deed.Words p)) at
own_line room text tables spot marks arguments deed.Zero all none p h l at =
    let e = grown_self spot.section spot 1 p in
    let fits : count_in spot.section spot < limit spot.section room = omega arith in
    let left = sum_of text tables.symbols spot (terms_in (first_arg arguments)) in
    let right = sum_of text tables.symbols spot (terms_in (second_arg arguments)) in
    further_good room (word_number spot.section spot + 1) (word_number spot.section (plus_words_in spot.section spot 1)) (with_line_relocations text tables.symbols spot marks arguments deed.Zero) (numbers_next spot.section spot (plus_words_in spot.section spot 1) e)
    (halves_good room spot (kind_of left) (kind_of right) marks fits l
    (kind_good room.newer left (sum_fits room.newer text tables.symbols spot (terms_in (first_arg arguments)) all none))
    (kind_good room.newer right (sum_fits room.newer text tables.symbols spot (terms_in (second_arg arguments)) all none)) at)
own_line room text tables spot marks arguments deed.Block all none p h l at =
    further_good room (word_number spot.section spot) (word_number spot.section (next_spot text deed.Block arguments spot)) marks
    (numbers_grow spot.section spot (next_spot text deed.Block arguments spot) (moved_grows spot.section text tables spot arguments deed.Block p)) at
own_line room text tables spot marks arguments deed.Even all none p h l at =
    further_good room (word_number spot.section spot) (word_number spot.section (next_spot text deed.Even arguments spot)) marks
    (numbers_grow spot.section spot (next_spot text deed.Even arguments spot) (moved_grows spot.section text tables spot arguments deed.Even p)) at
own_line room text tables spot marks arguments deed.Bound all none p h l at = at

-- a line in this or another section
line_by : (room : Room) (text : List ℕ) (tables : Tables) (to : Section) (spot : LocationCounter) (marks : List RelocFields) (arguments : List Arg) (d : LineEffect) (b : Bool) → same_section spot.section to ≡ b → AllFit room.newer tables.symbols
    → (room.newer ≡ false → is_static spot.section ≡ false) → can_have_words to ≡ true → count_in to (next_spot text d arguments spot) ≤ limit to room → limit to room + 8 < 2 ^ 18
    → Good room (word_number to spot) marks → Good room (word_number to (next_spot text d arguments spot)) (cond b (with_line_relocations text tables.symbols spot marks arguments d) marks)
line_by room text tables to spot marks arguments d true e all none p h l at =
    let P : Section → Type 0 = λ s. can_have_words s ≡ true → count_in s (next_spot text d arguments spot) ≤ limit s room → limit s room + 8 < 2 ^ 18 → Good room (word_number s spot) marks
    → Good room (word_number s (next_spot text d arguments spot)) (with_line_relocations text tables.symbols spot marks arguments d) in
    subst P (same_is_section spot.section to e) (λ q g m n. own_line room text tables spot marks arguments d all none q g m n) p h l at
line_by room text tables to spot marks arguments d false e all none p h l at =
    further_good room (word_number to spot) (word_number to (next_spot text d arguments spot)) marks
    (numbers_grow to spot (next_spot text d arguments spot) (moved_grows to text tables spot arguments d p)) at

line_good : (room : Room) (text : List ℕ) (tables : Tables) (to : Section) (spot : LocationCounter) (marks : List RelocFields) (line : Line36) → AllFit room.newer tables.symbols
    → (room.newer ≡ false → is_static spot.section ≡ false) → can_have_words to ≡ true → count_in to (next_line_spot text spot line) ≤ limit to room → limit to room + 8 < 2 ^ 18
    → Good room (word_number to spot) marks → Good room (word_number to (next_line_spot text spot line)) (relocations_after text tables.symbols to marks spot line)
unfolding next_line_spot relocations_after
line_good room text tables to spot marks line all none p h l at =
    line_by room text tables to spot marks line.args line.deed (same_section spot.section to) refl all none p h l at

pub marks_good : (room : Room) (text : List ℕ) (tables : Tables) (to : Section) (marks : List RelocFields) (spot : LocationCounter) (lines : List Line36) → AllFit room.newer tables.symbols
    → StandAt text room.newer spot lines → can_have_words to ≡ true → count_in to (end_of text spot lines) ≤ limit to room → limit to room + 8 < 2 ^ 18
    → Good room (word_number to spot) marks → Good room (word_number to (end_of text spot lines)) (relocations_from text tables.symbols to marks spot lines)
unfolding end_of relocations_from
marks_good room text tables to marks spot [] all at p h l good = good
marks_good room text tables to marks spot (line ∷ lines) all at p h l good =
    let more = grows_to_end to text tables (next_line_spot text spot line) lines p in
    let fits : count_in to (next_line_spot text spot line) ≤ limit to room = omega arith in
    marks_good room text tables to (relocations_after text tables.symbols to marks spot line) (next_line_spot text spot line) lines all (others_stand text room.newer spot line lines at) p h l
    (line_good room text tables to spot marks line all (no_static text room.newer spot (line ∷ lines) at) p fits l good)
