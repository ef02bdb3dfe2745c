-- An address chain that begins in ring r or above stays there.
use Rattle.std.proofs.Common.{◌≡◌, refl, sym, subst, arith}
use Rattle.std.specs.Prelude.{ℕ, zero, suc, ◌+◌, ◌*◌, ◌/◌, ◌%◌, ◌^◌, ◌≤◌, max, Bool, true, false, ◌||◌, if◌then◌else◌, Option, Some, None, Result, slice_index, ◌==◌}
use Rattle.m36_desc.specs.Fields.{SdwFields}
use Rattle.m36_model.specs.Fields.{FinalFields}
use Rattle.m36_model.specs.Registers.{RegsFields}
use Rattle.m36_model.specs.Act.{Answer, Indirect, Odd}
use Rattle.m36_model.specs.Modification.{Point, Move, Ends, Fails, Reads, Counts, ends_at, ends_direct, direct_upper, direct_lower, is_direct, move_of_point, move_register, move_register_then_indirect, move_indirect_then_tally, move_indirect_then_register, modifier_value}
use Rattle.m36_model.specs.Tally.{indirect_only}
use Rattle.m36_model.specs.Chain.{ChainEnd, Formation, indirect_request, IndirectKind, Its, Itp, Plain, indirect_kind, after_word, after_tally, chain_by, chain_exhausted, chain}
use Rattle.m36_model.specs.declared.outcome.Halt.{Halt}
use Rattle.m36_model.specs.declared.outcome.Refusal.{Refusal}
use Rattle.m36_isol.proofs.Program.{Meets, Either}
use Rattle.m36_isol.proofs.Alike.{Sees, May, Known}

-- a chain that ends is in the ring of its last point
abbrev EndsInRing : Point → Move → Type 0
EndsInRing p (Ends last) = last.at.ring ≡ p.ring
EndsInRing p (Fails h) = Unit {0}
EndsInRing p (Reads word held) = Unit {0}
EndsInRing p Counts = Unit {0}

register_tests : (g : RegsFields) (p : Point) (td : ℕ) (upper lower : Bool) → EndsInRing p (if upper then ends_direct p (p.y * 2 ^ 18) else if lower then ends_direct p p.y else ends_at p ((p.y + modifier_value g td) % 2 ^ 18))
register_tests g p td true lower = refl
register_tests g p td false true = refl
register_tests g p td false false = refl

register_ends : (g : RegsFields) (p : Point) (td : ℕ) (held : Option ℕ) → EndsInRing p (move_register g p td held)
register_ends g p td (Some held) = refl
register_ends g p td None = register_tests g p td (td == direct_upper) (td == direct_lower)

-- a move that reads or fails
direct_tests : (p : Point) (direct : Bool) (h : Halt) (word : ℕ) (held : Option ℕ) → EndsInRing p (if direct then Fails h else Reads word held)
direct_tests p true h word held = tt
direct_tests p false h word held = tt

tally_tests : (p : Point) (a b c d e : Bool) (h i j k l : Halt) → EndsInRing p (if a then Fails h else if b then Fails i else if c then Fails j else if d then Fails k else if e then Counts else Fails l)
tally_tests p true b c d e h i j k l = tt
tally_tests p false true c d e h i j k l = tt
tally_tests p false false true d e h i j k l = tt
tally_tests p false false false true e h i j k l = tt
tally_tests p false false false false true h i j k l = tt
tally_tests p false false false false false h i j k l = tt

tag_tests : (g : RegsFields) (p : Point) (td : ℕ) (a b c : Bool) → EndsInRing p (if a then move_register g p td p.held else if b then move_register_then_indirect g p td else if c then move_indirect_then_tally g p td else move_indirect_then_register g p td)
tag_tests g p td true b c = register_ends g p td p.held
tag_tests g p td false true c = direct_tests p (is_direct td) _ _ _
tag_tests g p td false false true =
    tally_tests p (td == 0o0) (td == 0o6) (td == 0o7) ((td == 0o1) || (td == 0o3)) ((td == 0o4) || (td == 0o11) || (td == 0o13) || (td == 0o14) || (td == 0o16)) _ _ _ _ _
tag_tests g p td false false false = direct_tests p (is_direct td) _ _ _

move_ends : (g : RegsFields) (p : Point) → EndsInRing p (move_of_point g p)
unfolding move_of_point
move_ends g p = tag_tests g p (p.tag % 16) (p.tag / 16 == 0) (p.tag / 16 == 1) (p.tag / 16 == 2)

-- a formed address is in ring r or above
abbrev pub InRing : ℕ → ChainEnd → Type 0
InRing r c = r ≤ c.last.at.ring

abbrev pub AnyHalt : Halt → Type 0
AnyHalt h = Unit {0}

module _ (sdws : ℕ → Result SdwFields Refusal) (r : ℕ) (g : RegsFields) (executes : Sees sdws r g.ppr.psr) where
  abbrev MeetsChain : Formation → Type 0
  MeetsChain m = Meets (May sdws r g) (Known sdws g) (Either (InRing r) AnyHalt) m

  may_read_word : (p : Point) (word : ℕ) → r ≤ p.ring → May sdws r g (indirect_request Indirect p word)
  may_read_word p word low = record { some = omega arith; ring = (low, executes) }

  may_read_odd : (p : Point) (word : ℕ) → r ≤ p.ring → May sdws r g (indirect_request Odd p word)
  may_read_odd p word low = record { some = omega arith; ring = (low, executes) }

  ends_meets : (p : Point) (last : FinalFields) → r ≤ p.ring → EndsInRing p (Ends last) → r ≤ last.at.ring
  ends_meets p last low e = subst (λ (n : ℕ). r ≤ n) (sym e) low

  exhausted_meets : (p : Point) → r ≤ p.ring → (m : Move) → EndsInRing p m → MeetsChain (chain_exhausted p m)
  exhausted_meets p low (Ends last) e = ends_meets p last low e
  exhausted_meets p low (Fails h) e = tt
  exhausted_meets p low (Reads word held) e = tt
  exhausted_meets p low Counts e = tt

  pair_low : (p : Point) (r1 ring : ℕ) → r ≤ p.ring → r ≤ max (max p.ring r1) ring
  pair_low p r1 ring low = omega arith

  word_meets : (next : Point → Formation) → ((p : Point) → r ≤ p.ring → MeetsChain (next p)) → (p : Point) (word : ℕ) (held : Option ℕ) (a : Answer) → r ≤ p.ring → (kind : IndirectKind) → MeetsChain (after_word next g p word held a kind)
  word_meets next h p word held a low Plain = h _ low
  word_meets next h p word held a low Its =
      (may_read_odd p (word + 1) low, (λ f. tt), (λ b known. h _ (pair_low p _ _ low)))
  word_meets next h p word held a low Itp =
      (may_read_odd p (word + 1) low, (λ f. tt), (λ b known. h _ (pair_low p _ _ low)))

  tally_meets : (p : Point) (td : ℕ) (a : Answer) → r ≤ p.ring → (only : Bool) → MeetsChain (after_tally p td a only)
  tally_meets p td a low true = low
  tally_meets p td a low false = (record { some = omega arith; ring = low }, (λ f. tt), (λ b known. low))

  move_meets : (next : Point → Formation) → ((p : Point) → r ≤ p.ring → MeetsChain (next p)) → (p : Point) → r ≤ p.ring → (m : Move) → EndsInRing p m → MeetsChain (chain_by next g p m)
  move_meets next h p low (Ends last) e = ends_meets p last low e
  move_meets next h p low (Fails k) e = tt
  move_meets next h p low (Reads word held) e =
      (may_read_word p word low, (λ f. tt), (λ a known. word_meets next h p word held a low (indirect_kind word (slice_index a.words 0))))
  move_meets next h p low Counts e =
      (may_read_word p p.y low, (λ f. tt), (λ a known. tally_meets p (p.tag % 16) a low (p.tag % 16 == indirect_only)))

  -- From a point in ring r or above, the chain makes no reference below r, and ends in ring r or
  -- above.
  pub chain_meets : (n : ℕ) (p : Point) → r ≤ p.ring → MeetsChain (chain n g p)
  unfolding chain
  chain_meets zero p low = exhausted_meets p low (move_of_point g p) (move_ends g p)
  chain_meets (suc n) p low = move_meets (chain n g) (chain_meets n) p low (move_of_point g p) (move_ends g p)
