-- Each effect gives as many words as its operand kind writes, and each put reaches the spot that
-- was claimed for it.
use Rattle.std.proofs.Common.{ℕ, ◌≡◌, ◌+◌, ◌<◌, refl, ap, ◌∙◌, ◌==◌, Option, Some, None, Bool, true, false, List, [], ◌∷◌, ◌++◌, map, length, slice_get, append_assoc, length-append, ◌⊎◌, inl, inr, Result, Ok, Err, arith}
use Rattle.m36_word.specs.Field.{field}
use Rattle.m36_inst.specs.Operands.{operand_of}
use Rattle.m36_inst.specs.declared.effect.Effect.{Effect}
use Rattle.m36_inst.specs.declared.effect.Effect.TheVariants as effect
use Rattle.m36_model.specs.Fields.{FinalFields}
use Rattle.m36_model.specs.Registers.{RegsFields}
use Rattle.m36_model.specs.Act.{Part, Whole, Put}
use Rattle.m36_model.specs.Store.{Spot, Change, changes, change_of}
use Rattle.m36_model.specs.Chain.{ChainEnd}
use Rattle.m36_model.specs.Results.{OperandFields, EffectFields, word}
use Rattle.m36_model.specs.Transfers.{transfer_by, is_taken, without_overflow}
use Rattle.m36_model.specs.Products.{divide_by}
use Rattle.m36_model.specs.Arithmetic.{is_divide_check}
use Rattle.m36_model.specs.Pointers.{load_packed_by}
use Rattle.m36_model.specs.Effect.{exec}
use Rattle.m36_model.specs.WordsPut.{words_written}
use Rattle.m36_model.specs.Step.{puts_from}
use Rattle.m36_model.specs.StepCases.{changes_at_spots}
use Rattle.m36_model.proofs.Computed.{everything}

-- the words that an effect gives; and if it is refused, its fault has a number below 16
abbrev pub PutsSo : ℕ → Result EffectFields ℕ → Type 0
PutsSo n (Ok x) = length x.put ≡ n
PutsSo n (Err number) = number < 16

puts_of_transfer : (taken : Bool) (f : FinalFields) (left g : RegsFields) → PutsSo 0 (transfer_by taken f left g)
puts_of_transfer true f left g = refl
puts_of_transfer false f left g = refl

puts_of_division : (check : Bool) (v : ℕ) (g : RegsFields) → PutsSo 0 (divide_by check v g)
puts_of_division true v g = omega arith
puts_of_division false v g = refl

puts_of_packed : (wrong : Bool) (n w : ℕ) (g : RegsFields) (f : FinalFields) → PutsSo 0 (load_packed_by wrong n w g f)
puts_of_packed true n w g f = omega arith
puts_of_packed false n w g f = refl

pub puts_so : (e : Effect) (n : ℕ) (g : RegsFields) (f : FinalFields) (o : OperandFields) → PutsSo (words_written (operand_of e)) (exec e n g f o)
unfolding everything
puts_so effect.Tra n g f o = puts_of_transfer (is_taken effect.Tra g) f g g
puts_so effect.Tze n g f o = puts_of_transfer (is_taken effect.Tze g) f g g
puts_so effect.Tnz n g f o = puts_of_transfer (is_taken effect.Tnz g) f g g
puts_so effect.Tmi n g f o = puts_of_transfer (is_taken effect.Tmi g) f g g
puts_so effect.Tpl n g f o = puts_of_transfer (is_taken effect.Tpl g) f g g
puts_so effect.Trc n g f o = puts_of_transfer (is_taken effect.Trc g) f g g
puts_so effect.Tnc n g f o = puts_of_transfer (is_taken effect.Tnc g) f g g
puts_so effect.Tmoz n g f o = puts_of_transfer (is_taken effect.Tmoz g) f g g
puts_so effect.Tpnz n g f o = puts_of_transfer (is_taken effect.Tpnz g) f g g
puts_so effect.Ttf n g f o = puts_of_transfer (is_taken effect.Ttf g) f g g
puts_so effect.Tov n g f o = puts_of_transfer (is_taken effect.Tov g) f (without_overflow g) g
puts_so effect.Div n g f o = puts_of_division (is_divide_check g.q (word o)) (word o) g
puts_so effect.LprpN n g f o = puts_of_packed (field (word o) 0 2 == 3) n (word o) g f
puts_so _ n g f o = refl

-- words for claimed spots
abbrev put_at : (part : Part) (spot : Spot) (w : ℕ) → Change
put_at part spot w = record { spot = spot; part = part; value = w }

get_past : (before : List Spot) (spot : Spot) (more : List Spot) → slice_get (before ++ spot ∷ more) (length before) ≡ Some spot
get_past [] spot more = refl
get_past (x ∷ before) spot more = get_past before spot more

changes_from : (part : Part) (before spots : List Spot) (first : ℕ) (words : List ℕ) → first ≡ length before → length spots ≡ length words → changes (before ++ spots) (puts_from part first words) ≡ changes_at_spots part spots words
unfolding changes
changes_from part before [] first [] e h = refl
changes_from part before [] first (w ∷ words) e h = absurd (omega arith)
changes_from part before (s ∷ spots) first [] e h = absurd (omega arith)
changes_from part before (s ∷ spots) first (w ∷ words) e h =
    let get : slice_get (before ++ s ∷ spots) first ≡ Some s = rw e (get_past before s spots) in
    let longer : length (before ++ s ∷ []) ≡ length before + 1 = length-append before (s ∷ []) in
    let rest = changes_from part (before ++ s ∷ []) spots (first + 1) words (omega arith) (omega arith) in
    let same : (before ++ s ∷ []) ++ spots ≡ before ++ s ∷ spots = append_assoc before (s ∷ []) spots in
    rw (get, rw same at rest) refl

changes_of_more : (claims : List Spot) (xs ys : List Put) → changes claims (xs ++ ys) ≡ changes claims xs ++ changes claims ys
unfolding changes
changes_of_more claims [] ys = refl
changes_of_more claims (x ∷ xs) ys = by_spot (slice_get claims x.claim) (changes_of_more claims xs ys)
  where
    by_spot : (spot : Option Spot) → changes claims (xs ++ ys) ≡ changes claims xs ++ changes claims ys → change_of x spot (changes claims (xs ++ ys)) ≡ change_of x spot (changes claims xs) ++ changes claims ys
    by_spot None rest = rest
    by_spot (Some spot) rest = ap (λ (more : List Change). put_at x.part spot x.value ∷ more) rest

-- the claims of a chain: the spot of its tally word, or none
pub data IsTallied (c : ChainEnd) (claims : List Spot) : Type 0 where
  no_tally : c.pending ≡ [] → claims ≡ [] → IsTallied c claims
  tallied_at : (spot : Spot) (v : ℕ) → c.pending ≡ record { claim = 0; part = Whole; value = v } ∷ [] → claims ≡ spot ∷ [] → IsTallied c claims

pub tally_changes : (c : ChainEnd) (claims spots : List Spot) → IsTallied c claims → (changes (claims ++ spots) c.pending ≡ changes_at_spots Whole claims (map (λ p. p.value) c.pending)) × (length claims ≡ length c.pending)
unfolding changes
tally_changes c claims spots (no_tally a b) = rw (a, b) (refl, refl)
tally_changes c claims spots (tallied_at spot v a b) = rw (a, b) (refl, refl)

none_changed : (part : Part) (claims : List Spot) (first : ℕ) (words : List ℕ) → 0 ≡ length words → changes (claims ++ []) (puts_from part first words) ≡ changes_at_spots part [] words
unfolding changes
none_changed part claims first [] e = refl
none_changed part claims first (w ∷ words) e = absurd (omega arith)

operand_changes : (part : Part) (claims spots : List Spot) (first : ℕ) (words : List ℕ) → length spots ≡ length words → (spots ≡ []) ⊎ (first ≡ length claims) → changes (claims ++ spots) (puts_from part first words) ≡ changes_at_spots part spots words
operand_changes part claims spots first words e (inl none) =
    rw none (none_changed part claims first words (rw none at e))
operand_changes part claims spots first words e (inr f) = changes_from part claims spots first words f e

-- all words of an instruction: the tally word, and then those of the operand
pub all_changes : (c : ChainEnd) (part : Part) (claims spots : List Spot) (first : ℕ) (words : List ℕ) → IsTallied c claims → length spots ≡ length words → (spots ≡ []) ⊎ (first ≡ length claims) → changes (claims ++ spots) (c.pending ++ puts_from part first words) ≡ changes_at_spots Whole claims (map (λ p. p.value) c.pending) ++ changes_at_spots part spots words
all_changes c part claims spots first words t e f =
    changes_of_more (claims ++ spots) c.pending (puts_from part first words) ∙ ap (λ (more : List Change). more ++ changes (claims ++ spots) (puts_from part first words)) (tally_changes c claims spots t).0 ∙ ap (λ (more : List Change). changes_at_spots Whole claims (map (λ p. p.value) c.pending) ++ more) (operand_changes part claims spots first words e f)
